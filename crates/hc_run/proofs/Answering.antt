-- What calls answer, as steps are told.
use Rattle.std.proofs.Common.{◌≡◌, false, ⊎_elim, Option, Some, None, refl, ap, sym, subst, ◌∙◌}
use Rattle.std.specs.Prelude.{Result, Ok, Err, IfOk, OnErr, is_some, option_map}
use Rattle.hc_types.specs.declared.refusal.Refusal.{Refusal}
use Rattle.hc_types.specs.declared.refusal.Refusal.TheVariants.{NoMemory}
use Rattle.hc_machine.specs.Cache.{Answer, Refused, Opened, Discarded, Replied, Waits, Moment, Took, Reclaimed}
use Rattle.hc_machine.specs.World.{Says}
use Rattle.hc_machine.specs.Schedule.{Told, Tells}
use Rattle.hc_core.specs.Answers.{refusal_in, IsReason}
use Rattle.hc_run.specs.Asked.{told_of}
use Rattle.hc_run.specs.declared.steps.Outcome.{Outcome}

pub if-ok : {T E : Type 0} (P : T → Type 0) (r : Result T E) (x : T) → r ≡ Ok x → P x → IfOk r P
if-ok P r x is p = subst (λ (r : Result _ _). IfOk r P) (sym is) p

pub if-err : {T E : Type 0} (P : T → Type 0) (r : Result T E) (e : E) → r ≡ Err e → IfOk r P
if-err P r e is = subst (λ (r : Result _ _). IfOk r P) (sym is) tt

pub on-err : {T E P : Type 0} (r : Result T E) → P → OnErr r P
on-err (Ok x) p = tt
on-err (Err e) p = p

named : (answer : Answer) (refusal : Refusal) → refusal_in answer ≡ Some refusal → answer ≡ Refused refusal
named (Refused why) refusal h = cc
named (Opened handle) refusal h = absurd cc
named Discarded refusal h = absurd cc
named (Replied reply) refusal h = absurd cc
named (Waits call) refusal h = absurd cc
named (Moment now) refusal h = absurd cc
named (Took take) refusal h = absurd cc
named (Reclaimed region) refusal h = absurd cc

-- a reason other than out of memory is the machine's
pub but-memory : (answer : Answer) (refusal : Refusal) → (refusal ≡ NoMemory → ⊥) → IsReason answer refusal → answer ≡ Refused refusal
but-memory answer refusal other why = ⊎_elim (λ is. named answer refusal is) (λ memory. absurd (other memory.1)) why

-- where the machine doesn't refuse, it is out of memory
pub memory-alone : (answer other : Answer) (refusal : Refusal) → answer ≡ other → refusal_in other ≡ None → IsReason answer refusal → refusal ≡ NoMemory
memory-alone answer other refusal is none why = ⊎_elim (λ named. absurd (let both : None ≡ Some refusal = sym none ∙ sym (ap refusal_in is) ∙ named in cc)) (λ memory. memory.1) why

-- a step that is refused so, unless it is out of memory
pub refused-so : {A E : Type 0} (P : Told → Type 0) (r : Result (Outcome A) E) (refusal : Refusal) → IfOk r (λ outcome. (told_of outcome ≡ Tells (Says (Refused refusal))) × (refusal ≡ NoMemory → ⊥))
    → ((refusal ≡ NoMemory → ⊥) → P (Tells (Says (Refused refusal)))) → IfOk r (λ outcome. P (told_of outcome))
refused-so P (Ok outcome) refusal is may = subst P (sym is.0) (may is.1)
refused-so P (Err e) refusal is may = tt

pub by-result : {T E : Type 0} (P : T → Type 0) (r same : Result T E) → r ≡ same → IfOk same P → IfOk r P
by-result P r same is p = subst (λ (r : Result _ _). IfOk r P) (sym is) p

pub ok-quiet : {T E : Type 0} (P : Type 0) (r : Result T E) (x : T) → r ≡ Ok x → OnErr r P
ok-quiet P r x is = subst (λ (r : Result _ _). OnErr r P) (sym is) tt

pub map-some : {T U : Type 0} (f : T → U) (o : Option T) → is_some (option_map f o) ≡ is_some o
map-some f None = refl
map-some f (Some x) = refl

pub no-some : {T : Type 0} (o : Option T) → is_some o ≡ false → o ≡ None
no-some None h = refl
no-some (Some x) h = absurd cc
