-- What a fill's get found is the fill's key's, and none of the losses that are told with it covers it: its job asks for that key,
-- an engine answers a get with no entry of another, and the small engine loses a bucket of small entries alone.
use Rattle.std.proofs.Common.{◌≡◌, ℕ, ◌+◌, Bool, true, false, ◌||◌, List, [], ◌∷◌, length, Option, Some, None, refl, sym, ◌∙◌, subst, arith}
use mathlib.Core.Bool.{cond}
use Rattle.std.specs.Prelude.{◌==◌, if◌then◌else◌, option_map}
use Rattle.hc_types.specs.Tally.{count}
use Rattle.hc_types.specs.Loss.{covers}
use Rattle.hc_types.specs.FlashEntry.{FlashEntry}
use Rattle.hc_types.specs.declared.config.FlashConfig.{FlashConfig}
use Rattle.hc_flash.specs.Seen.{result_of}
use Rattle.hc_engines.specs.Engine.{Op, Get, IoResult, Answer, Nothing, Over, Absent, Found, Loss}
use Rattle.hc_engines.specs.small.BigHash as bighash
use Rattle.hc_engines.specs.large.Block as block
use Rattle.hc_engines.specs.pair.Pair.{Moved}
use Rattle.hc_engines.specs.pair.Held.{under_way}
use Rattle.hc_machine.specs.Nvm.{Nvm, Task, Putting, Deleting, Filling, Flushing, Fill, job_at, fill_by}
use Rattle.hc_machine.specs.Takes.{found_in}
use Rattle.hc_machine.specs.Cache.{Cache}
use Rattle.hc_invariant.specs.Structure.{Structured, JobsPart, JobsStand, flash_of, is_small_job, is_large_job, operations}
use Rattle.hc_proof.specs.structure.Found.{AllMiss, AnswerIsLeft, NextIsLeft}
use Rattle.hc_proof.specs.structure.Operations.{AnswerIsOf, NextIsOf}
use Rattle.hc_proof.specs.structure.Takes.{EntryIsOf}
use Rattle.hc_proof.proofs.structure.Keeps.{started_keeps, resumed_keeps}
use Rattle.hc_proof.proofs.structure.Jobs.{asked_found, asked_all}
use Rattle.hc_proof.proofs.structure.Operations.{started, resumed}
use Rattle.hc_nvm.specs.Endings.{Ending, EndsFill, EndsAtOnce}
use Rattle.hc_nvm.specs.Finishing.{brought_key}
use Rattle.hc_state.specs.fill.Plan.{EndsBy, FindsOwn, found_by}
use Rattle.hc_state.specs.fill.Link.{is_lost}
use Rattle.hc_state.specs.declared.fill.commit.Way.{Way}
use Rattle.hc_state.specs.declared.fill.commit.Way.TheVariants.{Handed, AtOnce}
use Rattle.hc_state.proofs.fill.Ways.{some-of}

-- ---- its key

own-entry : (op : Op) (key : List ℕ) (answer : Answer) → op ≡ Get key → AnswerIsOf op answer → EntryIsOf key (found_in answer)
own-entry op key (Found entry) e own = subst (λ (o : Op). AnswerIsOf o (Found entry)) e own
own-entry op key Nothing e own = tt
own-entry op key Over e own = tt
own-entry op key Absent e own = tt

-- ---- with a result

-- the fill that a job brings
brought-fill : (number : ℕ) (fills : List Fill) (task : Task) (key : List ℕ) → brought_key number fills task ≡ Some key → (fill : Fill) × (fill_by number fills ≡ Some fill) × (fill.key ≡ key)
brought-fill number fills (Putting other) key e = absurd cc
brought-fill number fills (Deleting other) key e = absurd cc
brought-fill number fills Flushing key e = absurd cc
brought-fill number fills Filling key e = by (fill_by number fills) refl e
  where
    by : (o : Option Fill) → fill_by number fills ≡ o → option_map (λ (fill : Fill). fill.key) o ≡ Some key → (fill : Fill) × (fill_by number fills ≡ Some fill) × (fill.key ≡ key)
    by None is e = absurd cc
    by (Some fill) is e = (fill, is, cc)

own-handed : (number : ℕ) (came : IoResult) (nvm : Nvm) (ending : Ending) (key : List ℕ) → JobsStand nvm → EndsFill number came nvm ending → ending.key ≡ Some key → EntryIsOf key (found_by ending)
own-handed number came nvm ending key jobs ends key_is =
    let job = some-of (job_at number nvm.jobs) ends.there in
    let fill = brought-fill number nvm.fills job.0.task key (sym (ends.key_is job.0 job.1) ∙ key_is) in
    let went = resumed number came nvm.pair _ ends.ends.step in
    let asked : went.op ≡ Get fill.0.key = asked_found went.op number nvm.fills fill.0 fill.1 (asked_all went.op number nvm.pair nvm.fills went.asked jobs.asks) in
    subst (λ (k : List ℕ). EntryIsOf k (found_by ending)) fill.2 (own-entry went.op fill.0.key ending.over.outcome.answer asked went.does.answer)

-- ---- as it is taken

no-small : (n : ℕ) (jobs : List bighash.Job) → count (is_small_job n) jobs ≡ 0 → bighash.job_at n jobs ≡ None
no-small n [] none = refl
no-small n (job ∷ jobs) none = by (job.number == n) (no-small n jobs) none
  where
    by : (b : Bool) → (count (is_small_job n) jobs ≡ 0 → bighash.job_at n jobs ≡ None) → cond b 1 0 + count (is_small_job n) jobs ≡ 0 → (if b then Some job else bighash.job_at n jobs) ≡ None
    by true rest z = absurd (omega (arith, z))
    by false rest z = rest (omega (arith, z))

no-large : (n : ℕ) (jobs : List block.Job) → count (is_large_job n) jobs ≡ 0 → block.work_of n jobs ≡ None
no-large n [] none = refl
no-large n (job ∷ jobs) none = by (job.number == n) (no-large n jobs) none
  where
    by : (b : Bool) → (count (is_large_job n) jobs ≡ 0 → block.work_of n jobs ≡ None) → cond b 1 0 + count (is_large_job n) jobs ≡ 0 → (if b then Some job.work else block.work_of n jobs) ≡ None
    by true rest z = absurd (omega (arith, z))
    by false rest z = rest (omega (arith, z))

-- the next number is that of nothing under way
next-free : (nvm : Nvm) → JobsStand nvm → under_way nvm.pair (nvm.made + 1) ≡ None
next-free nvm jobs =
    let n : ℕ = nvm.made + 1 in
    let none : operations nvm.pair (nvm.made + 1) ≡ 0 = omega (arith, jobs.fresh (nvm.made + 1) (omega arith)) in
    let small : bighash.job_at (nvm.made + 1) nvm.pair.small.jobs ≡ None = no-small (nvm.made + 1) nvm.pair.small.jobs (omega (arith, none)) in
    let large : block.work_of (nvm.made + 1) nvm.pair.large.jobs ≡ None = no-large (nvm.made + 1) nvm.pair.large.jobs (omega (arith, none)) in
    rw (small, large) refl

own-at-once : (nvm : Nvm) (ending : Ending) (key : List ℕ) → JobsStand nvm → EndsAtOnce nvm ending → ending.key ≡ Some key → EntryIsOf key (found_by ending)
own-at-once nvm ending key jobs ends key_is =
    let n : ℕ = nvm.made + 1 in
    let does = started n (Get ends.key) nvm.pair in
    let answer : AnswerIsOf (Get ends.key) ending.over.outcome.answer = subst (λ (m : Moved). NextIsOf (Get ends.key) m.next) (ends.ends n (next-free nvm jobs)) does.answer in
    let same : ends.key ≡ key = cc in
    subst (λ (k : List ℕ). EntryIsOf k (found_by ending)) same (own-entry (Get ends.key) ends.key ending.over.outcome.answer refl answer)

-- ---- it isn't lost

neither : (a b : Bool) → a ≡ false → b ≡ false → (a || b) ≡ false
neither true b e f = absurd cc
neither false b e f = f

all-miss : (flash : FlashConfig) (entry : FlashEntry) (losses : List Loss) → AllMiss flash entry losses → is_lost (Some flash) losses entry.key (length entry.value) ≡ false
all-miss flash entry [] all = refl
all-miss flash entry (loss ∷ losses) all = neither (covers (Some flash) loss.scope entry.key (length entry.value)) (is_lost (Some flash) losses entry.key (length entry.value)) all.0 (all-miss flash entry losses all.1)

left-entry : (flash : FlashConfig) (answer : Answer) (losses : List Loss) (entry : FlashEntry) → AnswerIsLeft flash answer losses → found_in answer ≡ Some entry → is_lost (Some flash) losses entry.key (length entry.value) ≡ false
left-entry flash (Found e) losses entry left is = let same : e ≡ entry = cc in subst (λ (x : FlashEntry). is_lost (Some flash) losses x.key (length x.value) ≡ false) same (all-miss flash e losses left)
left-entry flash Nothing losses entry left is = absurd cc
left-entry flash Over losses entry left is = absurd cc
left-entry flash Absent losses entry left is = absurd cc

left-handed : (number : ℕ) (came : IoResult) (nvm : Nvm) (ending : Ending) → JobsStand nvm → EndsFill number came nvm ending → AnswerIsLeft nvm.pair.small.flash ending.over.outcome.answer ending.over.outcome.losses
left-handed number came nvm ending jobs ends = (resumed_keeps number came nvm.pair _ ends.ends.step).left jobs.large

left-at-once : (nvm : Nvm) (ending : Ending) → JobsStand nvm → EndsAtOnce nvm ending → AnswerIsLeft nvm.pair.small.flash ending.over.outcome.answer ending.over.outcome.losses
left-at-once nvm ending jobs ends =
    let n : ℕ = nvm.made + 1 in
    subst (λ (m : Moved). NextIsLeft nvm.pair.small.flash m.next) (ends.ends n (next-free nvm jobs)) ((started_keeps n (Get ends.key) nvm.pair).left jobs.large)

-- ---- either way

-- what is found is of the key, and left
record Own (key : List ℕ) (nvm : Nvm) (ending : Ending) : Type 0 where
  own : EntryIsOf key (found_by ending)
  left : AnswerIsLeft nvm.pair.small.flash ending.over.outcome.answer ending.over.outcome.losses

own-key : (key : List ℕ) (o : Option FlashEntry) (entry : FlashEntry) → EntryIsOf key o → o ≡ Some entry → entry.key ≡ key
own-key key None entry own is = absurd cc
own-key key (Some e) entry own is = let same : e ≡ entry = cc in subst (λ (x : FlashEntry). x.key ≡ key) same own

own-found : (key : List ℕ) (flash : Option FlashConfig) (nvm : Nvm) (ending : Ending) → flash ≡ Some nvm.pair.small.flash → Own key nvm ending → FindsOwn key flash ending
own-found key flash nvm ending same o = λ entry found. record {
  own = own-key key (found_by ending) entry o.own found;
  apart = subst (λ (f : Option FlashConfig). is_lost f ending.over.outcome.losses entry.key (length entry.value) ≡ false) (sym same) (left-entry nvm.pair.small.flash ending.over.outcome.answer ending.over.outcome.losses entry o.left found);
}

pub finds-own : {A : Type 0} (way : Way A) (ending : Ending) (key : List ℕ) (cache : Cache) → EndsBy way cache.nvm ending → ending.key ≡ Some key → Structured cache → FindsOwn key cache.memory.flash ending
finds-own (Handed number came) ending key cache ends key_is s = go cache.nvm s.jobs s.flash ends
  where
    go : (nvm : Option Nvm) → JobsPart nvm → cache.memory.flash ≡ flash_of nvm → EndsBy (Handed number came) nvm ending → FindsOwn key cache.memory.flash ending
    go None jobs flash e = absurd e
    go (Some nvm) jobs flash e = own-found key cache.memory.flash nvm ending flash (record { own = own-handed number (result_of came) nvm ending key jobs e key_is; left = left-handed number (result_of came) nvm ending jobs e })
finds-own {A = A} AtOnce ending key cache ends key_is s = go cache.nvm s.jobs s.flash ends
  where
    go : (nvm : Option Nvm) → JobsPart nvm → cache.memory.flash ≡ flash_of nvm → EndsBy {A = A} AtOnce nvm ending → FindsOwn key cache.memory.flash ending
    go None jobs flash e = absurd e
    go (Some nvm) jobs flash e = own-found key cache.memory.flash nvm ending flash (record { own = own-at-once nvm ending key jobs e key_is; left = left-at-once nvm ending jobs e })
