-- No number comes to be that of two operations, whatever the pages have.
use Rattle.std.proofs.Common.{◌≡◌, ℕ, ◌==◌, Bool, true, false, List, [], length, Option, Some, None, refl, sym, inl, inr, ap, subst, ◌∙◌}
use Rattle.std.proofs.lemmas.Bool.{eqb-true}
use Rattle.std.proofs.lemmas.Option.{cond_some}
use Rattle.std.specs.Prelude.{◌⊎◌, if◌then◌else◌, option_map}
use Rattle.hc_types.specs.Places.{is_small_by}
use Rattle.hc_types.specs.FlashEntry.{FlashEntry}
use Rattle.hc_engines.specs.Engine.{Op, Put, Get, Delete, Flush, Reclaim, Answer, Nothing, Over, Absent, Found, Outcome, Next, Busy, Io, Done, then_under_way}
use Rattle.hc_engines.specs.small.BigHash as bighash
use Rattle.hc_engines.specs.small.BigHash.{Job, job_at}
use Rattle.hc_engines.specs.small.Held as small
use Rattle.hc_engines.specs.small.Held.{job_under_way}
use Rattle.hc_engines.proofs.small.Apart.{start_goes, single_goes}
use Rattle.hc_engines.proofs.small.Single.{number_at, start_single, resume_single}
use Rattle.hc_engines.specs.large.Block as block
use Rattle.hc_engines.specs.large.Block.{Work, work_of}
use Rattle.hc_engines.specs.large.Sound.{Sound}
use Rattle.hc_engines.specs.large.Steps as steps
use Rattle.hc_engines.specs.pair.Pair.{Pair, Moved, waits_for, by_small, by_large, went_on, then_large, after_small, start, resume_work, resume_in}
use Rattle.hc_engines.specs.pair.Held.{work_under_way, under_way}
use Rattle.hc_engines.specs.pair.Apart.{IsSingle, IsApart, StartStaysApart, ResumeStaysApart}
use Rattle.hc_engines.proofs.pair.LargeSteps.{Leaves, start_leaves, resume_leaves}
use Rattle.hc_engines.proofs.pair.Numbers.{mapped_some, mapped_none, none_in_both}
use Rattle.hc_engines.proofs.pair.SmallSteps.{start_flash, resume_flash}

-- ---- the small engine answered

module _ (pair : Pair) (number : ℕ) (op : Op) (m : bighash.Moved) (is_apart : IsApart pair) (free : work_of number pair.large.jobs ≡ None) (single : IsSingle m.state.jobs)
    (goes : (n : ℕ) → small.under_way m.state n ≡ (if n == number then then_under_way op m.next else small.under_way pair.small n)) where
  -- a number that no job had has none
  still_none : (n : ℕ) → (n == number) ≡ false → job_at n pair.small.jobs ≡ None → job_at n m.state.jobs ≡ None
  still_none n other none = mapped_none (job_under_way m.state.flash) (job_at n m.state.jobs) (goes n ∙ rw other (ap (option_map (job_under_way pair.small.flash)) none))

  small_apart : IsApart (by_small pair m).pair
  small_apart = record { apart = λ n. by n (n == number) refl (is_apart.apart n); single = single }
    where
      by : (n : ℕ) (t : Bool) → (n == number) ≡ t → (job_at n pair.small.jobs ≡ None) ⊎ (work_of n pair.large.jobs ≡ None) → (job_at n m.state.jobs ≡ None) ⊎ (work_of n pair.large.jobs ≡ None)
      by n true t h = inr (subst (λ (x : ℕ). work_of x pair.large.jobs ≡ None) (sym (eqb-true n number t)) free)
      by n false t (inl none) = inl (still_none n t none)
      by n false t (inr none) = inr none

  -- a get went on to the large engine
  both_apart : (key : List ℕ) (outcome : Outcome) → m.next ≡ Done outcome → m.state.flash ≡ pair.small.flash → Sound pair.small.flash pair.large → IsApart (by_large (by_small pair m).pair outcome.losses (steps.get m.state.flash number key pair.large)).pair
  both_apart key outcome over flash sound = record { apart = λ n. by n (n == number) refl (is_apart.apart n); single = single }
    where
      leaves : Leaves pair.small.flash number (Get key) pair.large (steps.get m.state.flash number key pair.large)
      leaves = rw flash (start_leaves pair.small.flash number (Get key) pair.large sound free)

      by : (n : ℕ) (t : Bool) → (n == number) ≡ t → (job_at n pair.small.jobs ≡ None) ⊎ (work_of n pair.large.jobs ≡ None)
          → (job_at n m.state.jobs ≡ None) ⊎ (work_of n (steps.get m.state.flash number key pair.large).state.jobs ≡ None)
      by n true t h = inl (mapped_none (job_under_way m.state.flash) (job_at n m.state.jobs) (goes n ∙ rw (t, over) refl))
      by n false t (inl none) = inl (still_none n t none)
      by n false t (inr none) =
          inr (mapped_none (work_under_way pair.small.flash (steps.get m.state.flash number key pair.large).state) (work_of n (steps.get m.state.flash number key pair.large).state.jobs)
          (leaves.goes n ∙ rw t (ap (option_map (work_under_way pair.small.flash pair.large)) none)))

module _ (pair : Pair) (number : ℕ) (m : bighash.Moved) (flash : m.state.flash ≡ pair.small.flash) (sound : Sound pair.small.flash pair.large) (is_apart : IsApart pair) (free : work_of number pair.large.jobs ≡ None)
    (single : IsSingle m.state.jobs) where
  abbrev Went : Op → Type 0
  Went op = (n : ℕ) → small.under_way m.state n ≡ (if n == number then then_under_way op m.next else small.under_way pair.small n)

  get_apart : (key : List ℕ) → Went (Get key) → (next : Next) → m.next ≡ next → IsApart (then_large number (Get key) (by_small pair m).pair next).pair
  get_apart key goes Busy e = small_apart pair number (Get key) m is_apart free single goes
  get_apart key goes (Io order outcome) e = small_apart pair number (Get key) m is_apart free single goes
  get_apart key goes (Done outcome) e = by outcome.answer
    where
      by : (answer : Answer) → IsApart (went_on number key (by_small pair m).pair outcome answer).pair
      by Absent = both_apart pair number (Get key) m is_apart free single goes key outcome e flash sound
      by Nothing = small_apart pair number (Get key) m is_apart free single goes
      by Over = small_apart pair number (Get key) m is_apart free single goes
      by (Found entry) = small_apart pair number (Get key) m is_apart free single goes

  after_apart : (op : Op) → Went op → IsApart (after_small number op (by_small pair m)).pair
  after_apart (Put e) goes = small_apart pair number (Put e) m is_apart free single goes
  after_apart (Delete key) goes = small_apart pair number (Delete key) m is_apart free single goes
  after_apart Flush goes = small_apart pair number Flush m is_apart free single goes
  after_apart Reclaim goes = small_apart pair number Reclaim m is_apart free single goes
  after_apart (Get key) goes = get_apart key goes m.next refl

-- ---- the large engine answered

large_apart : (pair : Pair) (number : ℕ) (op : Op) (m : block.Moved) → IsApart pair → job_at number pair.small.jobs ≡ None → Leaves pair.small.flash number op pair.large m → IsApart (by_large pair [] m).pair
large_apart pair number op m is_apart none leaves = record { apart = λ n. by n (n == number) refl (is_apart.apart n); single = is_apart.single }
  where
    by : (n : ℕ) (t : Bool) → (n == number) ≡ t → (job_at n pair.small.jobs ≡ None) ⊎ (work_of n pair.large.jobs ≡ None) → (job_at n pair.small.jobs ≡ None) ⊎ (work_of n m.state.jobs ≡ None)
    by n true t h = inl (subst (λ (x : ℕ). job_at x pair.small.jobs ≡ None) (sym (eqb-true n number t)) none)
    by n false t (inl h) = inl h
    by n false t (inr h) = inr (mapped_none (work_under_way pair.small.flash m.state) (work_of n m.state.jobs) (leaves.goes n ∙ rw t (ap (option_map (work_under_way pair.small.flash pair.large)) h)))

-- ---- one engine of both is called

pub small_started : (pair : Pair) (number : ℕ) (op : Op) → IsApart pair → under_way pair number ≡ None → IsApart (by_small pair (bighash.start pair.small number op)).pair
small_started pair number op is_apart under =
    let none = none_in_both pair (job_at number pair.small.jobs) (work_of number pair.large.jobs) under in
    small_apart pair number op (bighash.start pair.small number op) is_apart none.1 (start_single pair.small number op is_apart.single) (start_goes pair.small number op (ap (option_map (job_under_way pair.small.flash)) none.0))

pub large_started : (pair : Pair) (number : ℕ) (op : Op) → IsApart pair → Sound pair.small.flash pair.large → under_way pair number ≡ None → IsApart (by_large pair [] (steps.start pair.small.flash number op pair.large)).pair
large_started pair number op is_apart sound under =
    let none = none_in_both pair (job_at number pair.small.jobs) (work_of number pair.large.jobs) under in
    large_apart pair number op (steps.start pair.small.flash number op pair.large) is_apart none.0 (start_leaves pair.small.flash number op pair.large sound none.1)

-- ---- both calls

pub pair_start_apart : StartStaysApart
pair_start_apart pair number op is_apart sound under = by op
  where
    none : job_at number pair.small.jobs ≡ None
    none = (none_in_both pair (job_at number pair.small.jobs) (work_of number pair.large.jobs) under).0

    free : work_of number pair.large.jobs ≡ None
    free = (none_in_both pair (job_at number pair.small.jobs) (work_of number pair.large.jobs) under).1

    by_the_small : (op : Op) → IsApart (after_small number op (by_small pair (bighash.start pair.small number op))).pair
    by_the_small op =
        after_apart pair number (bighash.start pair.small number op) (start_flash pair.small number op) sound is_apart free (start_single pair.small number op is_apart.single) op
        (start_goes pair.small number op (ap (option_map (job_under_way pair.small.flash)) none))

    by_the_large : (op : Op) → IsApart (by_large pair [] (steps.start pair.small.flash number op pair.large)).pair
    by_the_large op = large_apart pair number op (steps.start pair.small.flash number op pair.large) is_apart none (start_leaves pair.small.flash number op pair.large sound free)

    put : (e : FlashEntry) (is_small : Bool) → IsApart (if is_small then by_small pair (bighash.start pair.small number (Put e)) else by_large pair [] (steps.put pair.small.flash e pair.large)).pair
    put e true = by_the_small (Put e)
    put e false = by_the_large (Put e)

    by : (op : Op) → IsApart (start number op pair).pair
    by (Put e) = put e (is_small_by pair.small.flash e.key (length e.value))
    by (Get key) = by_the_small (Get key)
    by (Delete key) = by_the_small (Delete key)
    by Flush = by_the_large Flush
    by Reclaim = by_the_large Reclaim

pub pair_resume_apart : ResumeStaysApart
pair_resume_apart pair number result moved is_apart sound made = by (job_at number pair.small.jobs) refl (work_of number pair.large.jobs) refl made
  where
    free : (job : Job) → job_at number pair.small.jobs ≡ Some job → (job_at number pair.small.jobs ≡ None) ⊎ (work_of number pair.large.jobs ≡ None) → work_of number pair.large.jobs ≡ None
    free job at (inl none) = let wrong : None ≡ Some job = sym none ∙ at in absurd cc
    free job at (inr h) = h

    by : (job : Option Job) → job_at number pair.small.jobs ≡ job → (work : Option Work) → work_of number pair.large.jobs ≡ work → resume_in number result pair job ≡ Some moved → IsApart moved.pair
    by (Some job) at work there made =
        let m = mapped_some (λ m. after_small number job.op (by_small pair m)) (bighash.resume pair.small number result) moved made in
        subst (λ (x : Moved). IsApart x.pair) m.2
        (after_apart pair number m.0 (resume_flash pair.small number result m.0 m.1) sound is_apart (free job at (is_apart.apart number)) (resume_single pair.small number result m.0 is_apart.single m.1) job.op
        (single_goes pair.small number result job m.0 (number_at number pair.small.jobs job at) (is_apart.single number) at m.1))
    by None at None there made = let wrong : None ≡ Some moved = (rw there at made) in absurd cc
    by None at (Some work) there made =
        let came : resume_work number result pair work ≡ Some moved = (rw there at made) in
        subst (λ (x : Moved). IsApart x.pair) (cond_some (waits_for work result) _ moved came).1
        (large_apart pair number (work_under_way pair.small.flash pair.large work).op (steps.resume pair.small.flash number work result pair.large) is_apart at (resume_leaves pair.small.flash number work result pair.large sound there))
