-- What is under way in the pair after each call, whatever the pages have, and so where they fit it.
use Rattle.std.proofs.Common.{◌≡◌, ℕ, ◌==◌, Bool, true, false, List, [], length, Option, Some, None, refl, sym, inl, inr, ap, subst, ◌∙◌}
use Rattle.std.proofs.lemmas.Bool.{eqb-true}
use Rattle.std.proofs.lemmas.Option.{cond_some}
use Rattle.std.specs.Prelude.{◌⊎◌, if◌then◌else◌, option_map}
use Rattle.hc_types.specs.declared.config.FlashConfig.{FlashConfig}
use Rattle.hc_types.specs.Places.{is_small_by}
use Rattle.hc_types.specs.FlashEntry.{FlashEntry}
use Rattle.hc_bucket.proofs.Numbers.{some_is}
use Rattle.hc_engines.specs.Engine.{Op, Put, Get, Delete, Flush, Reclaim, Order, Answer, Nothing, Over, Absent, Found, Loss, Outcome, Next, Busy, Io, Done, IoResult, UnderWay, then_under_way}
use Rattle.hc_engines.specs.small.BigHash as bighash
use Rattle.hc_engines.specs.small.BigHash.{Job, job_at, without_job, word_at}
use Rattle.hc_engines.specs.small.Held as small
use Rattle.hc_engines.specs.small.Held.{job_under_way}
use Rattle.hc_engines.proofs.small.Apart.{start_goes, single_goes}
use Rattle.hc_engines.proofs.small.Resumed.{job_out}
use Rattle.hc_engines.proofs.small.Single.{number_at}
use Rattle.hc_engines.specs.large.Block as block
use Rattle.hc_engines.specs.large.Block.{Work, work_of}
use Rattle.hc_engines.specs.large.Steps as steps
use Rattle.hc_engines.specs.pair.Pair.{Pair, Moved, after_losses, next_of, waits_for, by_small, by_large, went_on, then_large, after_small, start, resume, resume_work, resume_in}
use Rattle.hc_engines.specs.large.Sound.{Sound}
use Rattle.hc_engines.specs.pair.Apart.{IsApart}
use Rattle.hc_engines.specs.pair.Held.{PairFits, work_under_way, large_under_way, first_of, under_way, Goes, StartGoes, ResumeGoes}
use Rattle.hc_engines.proofs.pair.LargeSteps.{Leaves, start_leaves, resume_leaves}
use Rattle.hc_engines.proofs.pair.Numbers.{mapped_some, none_in_both}
use Rattle.hc_engines.proofs.pair.SmallSteps.{start_flash, resume_flash}

-- what goes on in one engine of the two
first-none : (o : Option UnderWay) → first_of o None ≡ o
first-none None = refl
first-none (Some w) = refl

losses-under : (op : Op) (losses : List Loss) (outcome : Outcome) (o : Option Order) → then_under_way op (next_of (after_losses losses outcome) o) ≡ then_under_way op (next_of outcome o)
losses-under op losses outcome None = refl
losses-under op losses outcome (Some order) = refl

-- ---- the small engine answered

-- its operation was the only one of this number, and the small engine's goes on so
abbrev SmallGoes : Pair → ℕ → Op → bighash.Moved → Type 0
SmallGoes pair number op m = (n : ℕ) → small.under_way m.state n ≡ (if n == number then then_under_way op m.next else small.under_way pair.small n)

module _ (pair : Pair) (number : ℕ) (m : bighash.Moved) (sound : Sound pair.small.flash pair.large) (free : work_of number pair.large.jobs ≡ None) (flash : m.state.flash ≡ pair.small.flash) where
  none_large : (s : FlashConfig) → large_under_way s pair.large number ≡ None
  none_large s = ap (option_map (work_under_way s pair.large)) free

  small_only : (op : Op) → SmallGoes pair number op m → Goes number op pair (by_small pair m)
  small_only op goes n = by (n == number) refl
    where
      by : (t : Bool) → (n == number) ≡ t → first_of (small.under_way m.state n) (large_under_way m.state.flash pair.large n) ≡ (if t then then_under_way op m.next else under_way pair n)
      by true t =
          let own : small.under_way m.state n ≡ then_under_way op m.next = goes n ∙ rw t refl in
          let rest : large_under_way m.state.flash pair.large n ≡ None = ap (large_under_way m.state.flash pair.large) (eqb-true n number t) ∙ none_large m.state.flash in
          rw (own, rest) (first-none (then_under_way op m.next))
      by false t =
          let other : small.under_way m.state n ≡ small.under_way pair.small n = goes n ∙ rw t refl in
          rw (other, flash) refl

  -- a get went on to the large engine
  both_go : (key : List ℕ) (outcome : Outcome) → SmallGoes pair number (Get key) m → m.next ≡ Done outcome → Goes number (Get key) pair (by_large (by_small pair m).pair outcome.losses (steps.get m.state.flash number key pair.large))
  both_go key outcome goes over n = by (n == number) refl
    where
      begun : block.Moved
      begun = steps.get m.state.flash number key pair.large

      large : Leaves m.state.flash number (Get key) pair.large (steps.get m.state.flash number key pair.large)
      large = rw flash (start_leaves pair.small.flash number (Get key) pair.large sound free)

      by : (t : Bool) → (n == number) ≡ t → first_of (small.under_way m.state n) (large_under_way m.state.flash (steps.get m.state.flash number key pair.large).state n)
          ≡ (if t then then_under_way (Get key) (by_large (by_small pair m).pair outcome.losses (steps.get m.state.flash number key pair.large)).next else under_way pair n)
      by true t =
          let gone : small.under_way m.state n ≡ None = goes n ∙ rw (t, over) refl in
          rw gone (large.goes n ∙ rw t (sym (losses-under (Get key) outcome.losses (steps.get m.state.flash number key pair.large).outcome (steps.get m.state.flash number key pair.large).order)))
      by false t =
          let other : small.under_way m.state n ≡ small.under_way pair.small n = goes n ∙ rw t refl in
          let rest : large_under_way m.state.flash (steps.get m.state.flash number key pair.large).state n ≡ large_under_way pair.small.flash pair.large n = large.goes n ∙ rw (t, flash) refl in
          rw (other, rest) refl

  answered : (key : List ℕ) (outcome : Outcome) → SmallGoes pair number (Get key) m → m.next ≡ Done outcome → (answer : Answer) → Goes number (Get key) pair (went_on number key (by_small pair m).pair outcome answer)
  answered key outcome goes over Absent = both_go key outcome goes over
  answered key outcome goes over Nothing = subst (λ (next : Next). Goes number (Get key) pair (record { pair = (by_small pair m).pair; next = next })) over (small_only (Get key) goes)
  answered key outcome goes over Over = subst (λ (next : Next). Goes number (Get key) pair (record { pair = (by_small pair m).pair; next = next })) over (small_only (Get key) goes)
  answered key outcome goes over (Found e) = subst (λ (next : Next). Goes number (Get key) pair (record { pair = (by_small pair m).pair; next = next })) over (small_only (Get key) goes)

  small_goes : (op : Op) → SmallGoes pair number op m → Goes number op pair (after_small number op (by_small pair m))
  small_goes (Put e) goes = small_only (Put e) goes
  small_goes (Delete key) goes = small_only (Delete key) goes
  small_goes Flush goes = small_only Flush goes
  small_goes Reclaim goes = small_only Reclaim goes
  small_goes (Get key) goes = by m.next refl
    where
      by : (next : Next) → m.next ≡ next → Goes number (Get key) pair (then_large number (Get key) (by_small pair m).pair next)
      by Busy e = subst (λ (next : Next). Goes number (Get key) pair (record { pair = (by_small pair m).pair; next = next })) e (small_only (Get key) goes)
      by (Io order outcome) e = subst (λ (next : Next). Goes number (Get key) pair (record { pair = (by_small pair m).pair; next = next })) e (small_only (Get key) goes)
      by (Done outcome) e = answered key outcome goes e outcome.answer

-- ---- the large engine answered

large_goes : (pair : Pair) (number : ℕ) (op : Op) (m : block.Moved) → job_at number pair.small.jobs ≡ None → Leaves pair.small.flash number op pair.large m → Goes number op pair (by_large pair [] m)
large_goes pair number op m none leaves n = by (n == number) refl
  where
    by : (t : Bool) → (n == number) ≡ t → first_of (small.under_way pair.small n) (large_under_way pair.small.flash m.state n) ≡ (if t then then_under_way op (by_large pair [] m).next else under_way pair n)
    by true t =
        let no_job : small.under_way pair.small n ≡ None = ap (small.under_way pair.small) (eqb-true n number t) ∙ ap (option_map (job_under_way pair.small.flash)) none in
        rw no_job (leaves.goes n ∙ rw t refl)
    by false t = ap (first_of (small.under_way pair.small n)) (leaves.goes n ∙ rw t refl)

-- ---- both calls

pub started_goes : (pair : Pair) (number : ℕ) (op : Op) → Sound pair.small.flash pair.large → under_way pair number ≡ None → Goes number op pair (start number op pair)
started_goes pair number op sound under = by op
  where
    none : job_at number pair.small.jobs ≡ None
    none = (none_in_both pair (job_at number pair.small.jobs) (work_of number pair.large.jobs) under).0

    free : work_of number pair.large.jobs ≡ None
    free = (none_in_both pair (job_at number pair.small.jobs) (work_of number pair.large.jobs) under).1

    by_the_small : (op : Op) → Goes number op pair (after_small number op (by_small pair (bighash.start pair.small number op)))
    by_the_small op = small_goes pair number (bighash.start pair.small number op) sound free (start_flash pair.small number op) op (start_goes pair.small number op (ap (option_map (job_under_way pair.small.flash)) none))

    by_the_large : (op : Op) → Goes number op pair (by_large pair [] (steps.start pair.small.flash number op pair.large))
    by_the_large op = large_goes pair number op (steps.start pair.small.flash number op pair.large) none (start_leaves pair.small.flash number op pair.large sound free)

    put : (e : FlashEntry) (is_small : Bool) → Goes number (Put e) pair (if is_small then by_small pair (bighash.start pair.small number (Put e)) else by_large pair [] (steps.put pair.small.flash e pair.large))
    put e true = by_the_small (Put e)
    put e false = by_the_large (Put e)

    by : (op : Op) → Goes number op pair (start number op pair)
    by (Put e) = put e (is_small_by pair.small.flash e.key (length e.value))
    by (Get key) = by_the_small (Get key)
    by (Delete key) = by_the_small (Delete key)
    by Flush = by_the_large Flush
    by Reclaim = by_the_large Reclaim

-- where no other operation has this number
numbered-goes : (pair : Pair) (number : ℕ) (result : IoResult) (w : UnderWay) (moved : Moved) → ((job : Job) → job_at number pair.small.jobs ≡ Some job → job_at number (without_job number pair.small.jobs) ≡ None)
    → ((job_at number pair.small.jobs ≡ None) ⊎ (work_of number pair.large.jobs ≡ None)) → Sound pair.small.flash pair.large → under_way pair number ≡ Some w → resume number result pair ≡ Some moved → Goes number w.op pair moved
numbered-goes pair number result w moved single apart sound under made = by (job_at number pair.small.jobs) refl (work_of number pair.large.jobs) refl under made
  where
    free : (job : Job) → job_at number pair.small.jobs ≡ Some job → (job_at number pair.small.jobs ≡ None) ⊎ (work_of number pair.large.jobs ≡ None) → work_of number pair.large.jobs ≡ None
    free job at (inl none) = let wrong : None ≡ Some job = sym none ∙ at in absurd cc
    free job at (inr h) = h

    by : (job : Option Job) → job_at number pair.small.jobs ≡ job → (work : Option Work) → work_of number pair.large.jobs ≡ work → first_of (option_map (job_under_way pair.small.flash) job) (option_map (work_under_way pair.small.flash pair.large) work) ≡ Some w
        → resume_in number result pair job ≡ Some moved → Goes number w.op pair moved
    by (Some job) at work there under made =
        let m = mapped_some (λ m. after_small number job.op (by_small pair m)) (bighash.resume pair.small number result) moved made in
        let same : job.op ≡ w.op = ap (λ (v : UnderWay). v.op) (some_is _ _ under) in
        let goes = single_goes pair.small number result job m.0 (number_at number pair.small.jobs job at) (single job at) at m.1 in
        subst (λ (op : Op). Goes number op pair moved) same
        (subst (λ (x : Moved). Goes number job.op pair x) m.2
        (small_goes pair number m.0 sound (free job at apart) (resume_flash pair.small number result m.0 m.1) job.op goes))
    by None at None there under made = absurd cc
    by None at (Some work) there under made =
        let came : resume_work number result pair work ≡ Some moved = (rw there at made) in
        let same : (work_under_way pair.small.flash pair.large work).op ≡ w.op = ap (λ (v : UnderWay). v.op) (some_is _ _ under) in
        subst (λ (op : Op). Goes number op pair moved) same
        (subst (λ (x : Moved). Goes number (work_under_way pair.small.flash pair.large work).op pair x) (cond_some (waits_for work result) _ moved came).1
        (large_goes pair number (work_under_way pair.small.flash pair.large work).op (steps.resume pair.small.flash number work result pair.large) at (resume_leaves pair.small.flash number work result pair.large sound there)))

pub resumed_goes : (pair : Pair) (number : ℕ) (result : IoResult) (w : UnderWay) (moved : Moved) → IsApart pair → Sound pair.small.flash pair.large → under_way pair number ≡ Some w → resume number result pair ≡ Some moved → Goes number w.op pair moved
resumed_goes pair number result w moved apart = numbered-goes pair number result w moved (λ job at. apart.single number) (apart.apart number)

pub pair_start_goes : StartGoes
pair_start_goes pair pages number op fits under = started_goes pair number op fits.large.good.sound under

pub pair_resume_goes : ResumeGoes
pair_resume_goes pair pages number result w moved fits under made =
    numbered-goes pair number result w moved (λ job at. (job_out pair.small.flash (word_at pair.small) pages number pair.small.jobs job at fits.small.jobs_fit).gone) (fits.apart number) fits.large.good.sound under made
