-- Numbers that nothing has stay free, but that of the operation itself.
use Rattle.std.proofs.Common.{◌≡◌, ℕ, ◌+◌, ◌≤◌, ◌==◌, Bool, true, false, List, [], length, Option, Some, None, refl, sym, inl, inr, ap, subst, arith, ◌∙◌}
use Rattle.std.proofs.lemmas.Bool.{eqb-true}
use Rattle.std.proofs.lemmas.Option.{cond_some}
use Rattle.std.specs.Prelude.{◌⊎◌, if◌then◌else◌, option_map}
use Rattle.hc_types.specs.declared.config.FlashConfig.{FlashConfig}
use Rattle.hc_types.specs.Places.{is_small_by}
use Rattle.hc_types.specs.FlashEntry.{FlashEntry}
use Rattle.hc_engines.specs.Engine.{Op, Put, Get, Delete, Flush, Reclaim, Answer, Nothing, Over, Absent, Found, Outcome, Next, Busy, Io, Done, then_under_way}
use Rattle.hc_engines.specs.small.BigHash as bighash
use Rattle.hc_engines.specs.small.BigHash.{BigHash, Job, job_at}
use Rattle.hc_engines.specs.small.Held as small
use Rattle.hc_engines.specs.small.Held.{job_under_way}
use Rattle.hc_engines.proofs.small.Apart.{start_goes, single_goes}
use Rattle.hc_engines.proofs.small.Single.{number_at}
use Rattle.hc_engines.specs.large.Block as block
use Rattle.hc_engines.specs.large.Block.{Block, Work, work_of}
use Rattle.hc_engines.specs.large.Sound.{Sound}
use Rattle.hc_engines.specs.large.Steps as steps
use Rattle.hc_engines.specs.pair.Pair.{Pair, Moved, waits_for, by_small, by_large, went_on, then_large, after_small, start, resume_work, resume_in}
use Rattle.hc_engines.specs.pair.Held.{work_under_way}
use Rattle.hc_engines.specs.pair.Below.{LargeStartStaysBelow, LargeResumeStaysBelow, StartStaysBelow, ResumeStaysBelow}
use Rattle.hc_engines.proofs.pair.LargeSteps.{Leaves, start_leaves, resume_leaves}
use Rattle.hc_engines.proofs.pair.Numbers.{mapped_some, mapped_none}
use Rattle.hc_engines.proofs.pair.SmallSteps.{start_flash, resume_flash}

above : (number n : ℕ) → number + 1 ≤ n → (n == number) ≡ false
above number n h = grind (arith, h)

-- ---- the large engine

abbrev LargeStays : ℕ → Block → Block → Type 0
LargeStays number s new = (n : ℕ) → (n == number) ≡ false → work_of n s.jobs ≡ None → work_of n new.jobs ≡ None

large_stays : (flash : FlashConfig) (number : ℕ) (op : Op) (s : Block) (m : block.Moved) → Leaves flash number op s m → LargeStays number s m.state
large_stays flash number op s m leaves n other none = mapped_none (work_under_way flash m.state) (work_of n m.state.jobs) (leaves.goes n ∙ rw other (ap (option_map (work_under_way flash s)) none))

-- the number of what is under way isn't free
is_other : {A : Type 0} (at : ℕ → Option A) (number n : ℕ) (x : A) → at number ≡ Some x → at n ≡ None → (n == number) ≡ false
is_other at number n x there none = by (n == number) refl
  where
    by : (t : Bool) → (n == number) ≡ t → (n == number) ≡ false
    by false t = t
    by true t = let wrong : None ≡ Some x = sym none ∙ ap at (eqb-true n number t) ∙ there in absurd cc

pub large_start_below : LargeStartStaysBelow
large_start_below flash next op s sound below n h = large_stays flash next op s (steps.start flash next op s) (start_leaves flash next op s sound (below next (omega arith))) n (above next n h) (below n (omega (arith, h)))

pub large_resume_below : LargeResumeStaysBelow
large_resume_below flash next number work result s sound below at n h =
    large_stays flash number (work_under_way flash s work).op s (steps.resume flash number work result s) (resume_leaves flash number work result s sound at) n (is_other (λ x. work_of x s.jobs) number n work at (below n h)) (below n h)

-- ---- the pair

-- nothing is under way with this number
abbrev IsFreeIn : ℕ → Pair → Type 0
IsFreeIn n pair = (job_at n pair.small.jobs ≡ None) × (work_of n pair.large.jobs ≡ None)

abbrev Stays : ℕ → Pair → Pair → Type 0
Stays number pair new = (n : ℕ) → (n == number) ≡ false → IsFreeIn n pair → IsFreeIn n new

-- the small engine answered, and its operation goes on so
module _ (pair : Pair) (number : ℕ) (m : bighash.Moved) (flash : m.state.flash ≡ pair.small.flash) (sound : Sound pair.small.flash pair.large) (free : work_of number pair.large.jobs ≡ None) where
  abbrev Went : Op → Type 0
  Went op = (n : ℕ) → small.under_way m.state n ≡ (if n == number then then_under_way op m.next else small.under_way pair.small n)

  small_stays : (op : Op) → Went op → Stays number pair (by_small pair m).pair
  small_stays op goes n other none = (mapped_none (job_under_way m.state.flash) (job_at n m.state.jobs) (goes n ∙ rw other (ap (option_map (job_under_way pair.small.flash)) none.0)), none.1)

  both_stay : (key : List ℕ) (outcome : Outcome) → Went (Get key) → Stays number pair (by_large (by_small pair m).pair outcome.losses (steps.get m.state.flash number key pair.large)).pair
  both_stay key outcome goes n other none = ((small_stays (Get key) goes n other none).0, large_stays pair.small.flash number (Get key) pair.large (steps.get m.state.flash number key pair.large) leaves n other none.1)
    where
      leaves : Leaves pair.small.flash number (Get key) pair.large (steps.get m.state.flash number key pair.large)
      leaves = rw flash (start_leaves pair.small.flash number (Get key) pair.large sound free)

  get_stays : (key : List ℕ) → Went (Get key) → (next : Next) → Stays number pair (then_large number (Get key) (by_small pair m).pair next).pair
  get_stays key goes Busy = small_stays (Get key) goes
  get_stays key goes (Io order outcome) = small_stays (Get key) goes
  get_stays key goes (Done outcome) = by outcome.answer
    where
      by : (answer : Answer) → Stays number pair (went_on number key (by_small pair m).pair outcome answer).pair
      by Absent = both_stay key outcome goes
      by Nothing = small_stays (Get key) goes
      by Over = small_stays (Get key) goes
      by (Found e) = small_stays (Get key) goes

  after_stays : (op : Op) → Went op → Stays number pair (after_small number op (by_small pair m)).pair
  after_stays (Put e) goes = small_stays (Put e) goes
  after_stays (Delete key) goes = small_stays (Delete key) goes
  after_stays Flush goes = small_stays Flush goes
  after_stays Reclaim goes = small_stays Reclaim goes
  after_stays (Get key) goes = get_stays key goes m.next

-- the large engine answered
by_large_stays : (pair : Pair) (number : ℕ) (m : block.Moved) → LargeStays number pair.large m.state → Stays number pair (by_large pair [] m).pair
by_large_stays pair number m stays n other none = (none.0, stays n other none.1)

start_stays : (pair : Pair) (number : ℕ) (op : Op) → Sound pair.small.flash pair.large → IsFreeIn number pair → Stays number pair (start number op pair).pair
start_stays pair number op sound free = by op
  where
    by_the_small : (op : Op) → Stays number pair (after_small number op (by_small pair (bighash.start pair.small number op))).pair
    by_the_small op = after_stays pair number (bighash.start pair.small number op) (start_flash pair.small number op) sound free.1 op (start_goes pair.small number op (ap (option_map (job_under_way pair.small.flash)) free.0))

    by_the_large : (op : Op) → Stays number pair (by_large pair [] (steps.start pair.small.flash number op pair.large)).pair
    by_the_large op = by_large_stays pair number (steps.start pair.small.flash number op pair.large) (large_stays pair.small.flash number op pair.large (steps.start pair.small.flash number op pair.large) (start_leaves pair.small.flash number op pair.large sound free.1))

    put : (e : FlashEntry) (is_small : Bool) → Stays number pair (if is_small then by_small pair (bighash.start pair.small number (Put e)) else by_large pair [] (steps.put pair.small.flash e pair.large)).pair
    put e true = by_the_small (Put e)
    put e false = by_the_large (Put e)

    by : (op : Op) → Stays number pair (start number op pair).pair
    by (Put e) = put e (is_small_by pair.small.flash e.key (length e.value))
    by (Get key) = by_the_small (Get key)
    by (Delete key) = by_the_small (Delete key)
    by Flush = by_the_large Flush
    by Reclaim = by_the_large Reclaim

pub start_below : StartStaysBelow
start_below pair next op is_apart sound below n h = start_stays pair next op sound (below next (omega arith)) n (above next n h) (below n (omega (arith, h)))

pub resume_below : ResumeStaysBelow
resume_below pair next number result moved is_apart sound below made n h = by (job_at number pair.small.jobs) refl (work_of number pair.large.jobs) refl made
  where
    free : (job : Job) → job_at number pair.small.jobs ≡ Some job → (job_at number pair.small.jobs ≡ None) ⊎ (work_of number pair.large.jobs ≡ None) → work_of number pair.large.jobs ≡ None
    free job at (inl none) = let wrong : None ≡ Some job = sym none ∙ at in absurd cc
    free job at (inr none) = none

    by : (job : Option Job) → job_at number pair.small.jobs ≡ job → (work : Option Work) → work_of number pair.large.jobs ≡ work → resume_in number result pair job ≡ Some moved → IsFreeIn n moved.pair
    by (Some job) at work there made =
        let m = mapped_some (λ m. after_small number job.op (by_small pair m)) (bighash.resume pair.small number result) moved made in
        let goes = single_goes pair.small number result job m.0 (number_at number pair.small.jobs job at) (is_apart.single number) at m.1 in
        subst (λ (x : Moved). IsFreeIn n x.pair) m.2
        (after_stays pair number m.0 (resume_flash pair.small number result m.0 m.1) sound (free job at (is_apart.apart number)) job.op goes n (is_other (λ x. job_at x pair.small.jobs) number n job at (below n h).0) (below n h))
    by None at None there made = let wrong : None ≡ Some moved = (rw there at made) in absurd cc
    by None at (Some work) there made =
        let came : resume_work number result pair work ≡ Some moved = (rw there at made) in
        subst (λ (x : Moved). IsFreeIn n x.pair) (cond_some (waits_for work result) _ moved came).1
        (by_large_stays pair number (steps.resume pair.small.flash number work result pair.large)
        (large_stays pair.small.flash number (work_under_way pair.small.flash pair.large work).op pair.large (steps.resume pair.small.flash number work result pair.large) (resume_leaves pair.small.flash number work result pair.large sound there)) n
        (is_other (λ x. work_of x pair.large.jobs) number n work there (below n h).1) (below n h))
