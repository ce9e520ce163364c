-- A reply that is owed, behind the end of a call.
use Rattle.std.proofs.Common.{◌≡◌, ℕ, ◌==◌, Bool, true, false, List, [], ◌∷◌, Option, Some, None, cond, nat_eq, refl, sym, ap, ◌∙◌, arith}
use Rattle.std.specs.Prelude.{not, option_map, if◌then◌else◌}
use Rattle.std.specs.List.{filter, find}
use Rattle.std.specs.Ordering.{nat_cmp}
use Rattle.std.specs.BTreeMap.{is_at}
use Rattle.std.proofs.lemmas.Bool.{false≢true}
use Rattle.std.proofs.lemmas.Bool.Decides.{Decides-eqb}
use Rattle.hc_history.specs.Note.{Reply, Note, End}
use Rattle.hc_history.specs.Books.{Answer, owed}
use Rattle.hc_client_records.specs.Records.{answered}

abbrev is_to : ℕ → Answer → Bool
is_to call answer = answer.number == call

abbrev without : ℕ → List Answer → List Answer
without ended answers = filter (λ (answer : Answer). not (answer.number == ended)) answers

gone_one : (call : ℕ) (answer : Answer) (rest : List Answer) (t : Bool) → (answer.number == call) ≡ t → find (is_to call) (without call rest) ≡ None → find (is_to call) (if not t then answer ∷ without call rest else without call rest) ≡ None
gone_one call answer rest true e h = h
gone_one call answer rest false e h = rw e h

gone : (call : ℕ) (answers : List Answer) → find (is_to call) (without call answers) ≡ None
gone call [] = refl
gone call (answer ∷ rest) = gone_one call answer rest (answer.number == call) refl (gone call rest)

stays_one : (call ended : ℕ) (answer : Answer) (rest : List Answer) (t b : Bool) → (ended ≡ call → ⊥) → (answer.number == ended) ≡ t → (answer.number == call) ≡ b → find (is_to call) (without ended rest) ≡ find (is_to call) rest
    → find (is_to call) (if not t then answer ∷ without ended rest else without ended rest) ≡ (if b then Some answer else find (is_to call) rest)
stays_one call ended answer rest true true other e s h = absurd (other (sym ((Decides-eqb answer.number ended).0 e) ∙ (Decides-eqb answer.number call).0 s))
stays_one call ended answer rest true false other e s h = h
stays_one call ended answer rest false true other e s h = rw s refl
stays_one call ended answer rest false false other e s h = rw s h

stays : (call ended : ℕ) (answers : List Answer) → (ended ≡ call → ⊥) → find (is_to call) (without ended answers) ≡ find (is_to call) answers
stays call ended [] other = refl
stays call ended (answer ∷ rest) other = stays_one call ended answer rest (answer.number == ended) (answer.number == call) other refl refl (stays call ended rest other)

pub answer-gone : (older : List Note) (ended call : ℕ) → ended ≡ call → None ≡ answered call (End ended ∷ older)
answer-gone older ended call e = rw e (sym (ap (option_map (λ (answer : Answer). answer.reply)) (gone call (owed older))))

pub answer-stays : (older : List Note) (ended call : ℕ) → (ended ≡ call → ⊥) → answered call older ≡ answered call (End ended ∷ older)
answer-stays older ended call other = sym (ap (option_map (λ (answer : Answer). answer.reply)) (stays call ended (owed older) other))

-- the same where what is owed to each call is kept in a map
pub owed-left : (older : List Note) (ended call : ℕ) (was now : Option Reply) → now ≡ cond (is_at (nat_cmp ended) call) None was → was ≡ answered call older → now ≡ answered call (End ended ∷ older)
owed-left older ended call was now f e = go (nat_eq ended call) refl
  where
    go : (t : Bool) → nat_eq ended call ≡ t → now ≡ answered call (End ended ∷ older)
    go true t = let here : is_at (nat_cmp ended) call ≡ true = (grind (arith, t)) in f ∙ ap (λ (b : Bool). cond b None was) here ∙ answer-gone older ended call ((Decides-eqb ended call).0 t)
    go false t = let other : is_at (nat_cmp ended) call ≡ false = (grind (arith, t)) in f ∙ ap (λ (b : Bool). cond b None was) other ∙ e ∙ answer-stays older ended call (λ s. false≢true (sym t ∙ (Decides-eqb ended call).1 s))
