-- What each step of the large engine leaves: what is under way with each number, and losses that take out nothing small.
use Rattle.std.proofs.Common.{◌≡◌, ℕ, ◌+◌, ◌-◌, ◌<◌, ◌==◌, Bool, true, false, List, [], ◌∷◌, ◌++◌, length, set, Option, Some, None, refl, sym, ap, arith, ◌∙◌}
use Rattle.std.proofs.lemmas.Bool.{eqb-true}
use Rattle.std.specs.Prelude.{if◌then◌else◌, nat_lt, option_map}
use Rattle.hc_types.specs.declared.config.FlashConfig.{FlashConfig}
use Rattle.hc_types.specs.Places.{kept_of}
use Rattle.hc_types.specs.Loss.{Cause, Fault, Reclaimed}
use Rattle.hc_types.specs.FlashEntry.{FlashEntry}
use Rattle.hc_engines.specs.Engine.{Op, Put, Get, Delete, Flush, Reclaim, Order, Write, nothing, IoResult, Page, Written, Failed, then_under_way}
use Rattle.hc_engines.specs.large.Entries.{entry_bytes, entry_in}
use Rattle.hc_engines.specs.large.Region.{Status, Clean, Open, Sealed, Flushing, OnFlash, Draining, is_draining, Region, clean_region, opened_region, region_at, page_no, next_page, page_done, can_go, lowest_clean}
use Rattle.hc_engines.specs.large.Index.{Place, place_at, is_place}
use Rattle.hc_engines.specs.large.Block.{Block, Moved, Reading, Work, Writing, Getting, Job, work_of, without_job, end_job, unmoved, with_region, with_job}
use Rattle.hc_engines.specs.large.Steps.{lost, collided, fitting, seal, open_next, put_fresh, put_into, emptied, oldest, reclaim_of, reclaim, clean_count, write_out, first_ready, early_of, flush_of, flush, go_on, wrote_page, reading_of, read_bytes, unreadable, answer_of, absent, answered, failed_read, read_next, pinned, get_at, let_go, got_page, start, resume}
use Rattle.hc_engines.specs.large.Sound.{Sound}
use Rattle.hc_engines.specs.pair.Pair.{next_of}
use Rattle.hc_engines.specs.pair.Held.{work_under_way, large_under_way}
use Rattle.hc_engines.proofs.large.Lists.{same_num, in_range, region_at-set}
use Rattle.hc_engines.proofs.large.Jobs.{work_added, added_other, without_other, work_ended}
use Rattle.hc_engines.proofs.large.Regions.{lowest_is, oldest_is}
use Rattle.hc_engines.proofs.large.Reclaims.{oldest_ending}
use Rattle.hc_engines.proofs.large.Flushes.{written_ending}
use Rattle.hc_engines.proofs.pair.LargeWritten.{same-set, other-set, none_writes, own_writes, clean_idle, drained_idle, IsWritten, kept_set, idle_set}
use Rattle.hc_engines.proofs.pair.Joining.{AreLargeLosses}

-- ---- losses

lost_large : (cause : Cause) (hashes : List ℕ) → AreLargeLosses (lost cause hashes)
lost_large cause [] = tt
lost_large cause (hash ∷ hashes) = (tt, lost_large cause hashes)

collided_large : (hash : ℕ) (key : List ℕ) (o : Option Place) → AreLargeLosses (collided hash key o)
collided_large hash key None = tt
collided_large hash key (Some place) = (tt, tt)

-- ---- what one step leaves

record StepLeaves (flash : FlashConfig) (number : ℕ) (op : Op) (s : Block) (moved : Moved) : Type 0 where
  own : large_under_way flash moved.state number ≡ then_under_way op (next_of moved.outcome moved.order)
  others : (n : ℕ) → (n == number) ≡ false → work_of n moved.state.jobs ≡ work_of n s.jobs
  written : IsWritten number s moved.state.regions
  losses : AreLargeLosses moved.outcome.losses

-- these are the operations of other numbers
record AreOthers (number : ℕ) (s : Block) (jobs : List Job) : Type 0 where
  same : (n : ℕ) → (n == number) ≡ false → work_of n jobs ≡ work_of n s.jobs
  none : work_of number jobs ≡ None

-- a part of a get that answers: it changes the index alone
record Answers (s : Block) (moved : Moved) : Type 0 where
  regions : moved.state.regions ≡ s.regions
  jobs : moved.state.jobs ≡ s.jobs
  order : moved.order ≡ None
  losses : AreLargeLosses moved.outcome.losses

module _ (flash : FlashConfig) (number : ℕ) where
  free_others : (s : Block) → work_of number s.jobs ≡ None → AreOthers number s s.jobs
  free_others s none = record { same = λ n o. refl; none = none }

  ended_others : (s : Block) → AreOthers number s (without_job number s.jobs)
  ended_others s = record { same = λ n o. without_other number n s.jobs o; none = work_ended number s.jobs }

  no_writes : (s : Block) → IsWritten number s s.regions
  no_writes s n r bytes o at = refl

  -- the operation is over
  over : (op : Op) (s : Block) (moved : Moved) → AreOthers number s moved.state.jobs → moved.order ≡ None → IsWritten number s moved.state.regions → AreLargeLosses moved.outcome.losses → StepLeaves flash number op s moved
  over op s moved others order written losses = record { own = ap (option_map (work_under_way flash moved.state)) others.none ∙ rw order refl; others = others.same; written = written; losses = losses }

  quiet : (op : Op) (s t : Block) → t.regions ≡ s.regions → AreOthers number s t.jobs → StepLeaves flash number op s (unmoved t)
  quiet op s t same others = over op s (unmoved t) others refl (rw same (no_writes s)) tt

  -- its next order is this work's
  goes_on : (op : Op) (work : Work) (s t : Block) (order : Order) → AreOthers number s t.jobs → work_under_way flash (with_job number work t) work ≡ record { op = op; order = order } → IsWritten number s t.regions
      → StepLeaves flash number op s (record { state = with_job number work t; outcome = nothing; order = Some order })
  goes_on op work s t order others is written = record { own = rw (work_added number work t.jobs) (ap Some is); others = λ n o. added_other number n work t.jobs o ∙ others.same n o; written = written; losses = tt }

  -- ---- puts and reclaims

  leaves_put : (e : FlashEntry) (s : Block) (o : Option ℕ) → Sound flash s → work_of number s.jobs ≡ None → StepLeaves flash number (Put e) s (put_into flash e s o)
  leaves_put e s (Some r) sound none = over (Put e) s _ (free_others s none) refl (kept_set number r _ s refl) (collided_large _ _ _)
  leaves_put e s None sound none = fresh (lowest_clean 0 s.regions) refl
    where
      sealed : (c : Option ℕ) (q : ℕ) → (region_at q (seal c s.regions)).written ≡ (region_at q s.regions).written
      sealed None q = refl
      sealed (Some c) q = same-set s.regions c q (record (region_at c s.regions) { status = Sealed }) refl

      -- the region that is opened was clean, and nothing writes it
      opened : (r : ℕ) → lowest_clean 0 s.regions ≡ Some r → (n q : ℕ) (bytes : List ℕ) → (n == number) ≡ false → work_of n s.jobs ≡ Some (Writing q bytes) → (t : Bool) → (q == r) ≡ t → (region_at q (open_next r s).regions).written ≡ (region_at q s.regions).written
      opened r low n q bytes o at true t =
          let l = lowest_is s.regions 0 r low in
          let same : q ≡ r = eqb-true q r t in
          let here : l.0 ≡ q = omega (arith, l.1, same) in
          absurd (clean_idle flash number q s sound (rw here at l.2.clean) n bytes o at)
      opened r low n q bytes o at false t = ap (λ (y : Region). y.written) (other-set (seal s.current s.regions) r q opened_region t) ∙ sealed s.current q

      fresh : (l : Option ℕ) → lowest_clean 0 s.regions ≡ l → StepLeaves flash number (Put e) s (put_fresh flash e s l)
      fresh None low = over (Put e) s _ (free_others s none) refl (no_writes s) (refl, tt)
      fresh (Some r) low = over (Put e) s _ (free_others s none) refl (λ n q bytes o at. same-set (open_next r s).regions r q _ refl ∙ opened r low n q bytes o at (q == r) refl) (collided_large _ _ _)

  leaves_reclaim : (s : Block) → Sound flash s → work_of number s.jobs ≡ None → StepLeaves flash number Reclaim s (reclaim flash s)
  leaves_reclaim s sound none = by (nat_lt (clean_count s.regions) flash.clean)
    where
      of : (o : Option ℕ) → oldest s.regions s.flushed ≡ o → StepLeaves flash number Reclaim s (reclaim_of s o)
      of None e = quiet Reclaim s s refl (free_others s none)
      of (Some r) e =
          let ends = (oldest_ending flash s r sound (oldest_is s.regions s.flushed r e)).0 in
          over Reclaim s _ (free_others s none) refl (idle_set number r (emptied (region_at r s.regions)) s (none_writes number r s ends.idle)) (lost_large (Reclaimed r) _)

      by : (t : Bool) → StepLeaves flash number Reclaim s (if t then reclaim_of s (oldest s.regions s.flushed) else unmoved s)
      by true = of (oldest s.regions s.flushed) refl
      by false = quiet Reclaim s s refl (free_others s none)

  -- ---- pages that go out

  page_out : (r : ℕ) (x : Region) (s t : Block) → t.regions ≡ s.regions → AreOthers number s t.jobs → (region_at r (set s.regions r x)).written ≡ x.written → IsWritten number s (set s.regions r x) → StepLeaves flash number Flush s (write_out flash number r x t)
  page_out r x s t same others here written =
      goes_on Flush (Writing r (next_page flash x)) s (with_region r x t) _ others (rw same (ap (λ (w : ℕ). record { op = Flush; order = Write (page_no flash r w) (next_page flash x) }) here)) (rw same written)

  leaves_flush : (s : Block) → work_of number s.jobs ≡ None → StepLeaves flash number Flush s (flush flash number s)
  leaves_flush s none = by (first_ready s.regions s.sealed)
    where
      out : (r : ℕ) (x : Region) (t : Block) → t.regions ≡ s.regions → AreOthers number s t.jobs → x.written ≡ (region_at r s.regions).written → StepLeaves flash number Flush s (write_out flash number r x t)
      out r x t same others h = page_out r x s t same others (same-set s.regions r r x h ∙ sym h) (kept_set number r x s h)

      early_one : (r : ℕ) (t : Bool) → StepLeaves flash number Flush s (if t then write_out flash number r (record (region_at r s.regions) { early = true }) s else unmoved s)
      early_one r true = out r (record (region_at r s.regions) { early = true }) s refl (free_others s none) refl
      early_one r false = quiet Flush s s refl (free_others s none)

      early : (o : Option ℕ) → StepLeaves flash number Flush s (early_of flash number s o)
      early None = quiet Flush s s refl (free_others s none)
      early (Some r) = early_one r (can_go flash (region_at r s.regions))

      by : (o : Option ℕ) → StepLeaves flash number Flush s (flush_of flash number s o)
      by None = early s.current
      by (Some r) = out r (record (region_at r s.regions) { status = Flushing }) _ refl (free_others s none) refl

  leaves_wrote : (r : ℕ) (bytes : List ℕ) (s : Block) → Sound flash s → work_of number s.jobs ≡ Some (Writing r bytes) → StepLeaves flash number Flush s (wrote_page flash number r (region_at r s.regions).status (end_job number s))
  leaves_wrote r bytes s sound at = by (region_at r s.regions).status
    where
      there : r < length s.regions
      there = in_range s.regions r (written_ending flash number r bytes s sound at).0.unclean

      mine : (x : Region) → IsWritten number s (set s.regions r x)
      mine x = idle_set number r x s (own_writes flash number r bytes s sound at)

      next : (t : Bool) → nat_lt ((region_at r s.regions).written + 1) flash.region_pages ≡ t → StepLeaves flash number Flush s (go_on flash number r (page_done flash (region_at r s.regions)) (end_job number s))
      next true t = rw t (page_out r (page_done flash (region_at r s.regions)) s (end_job number s) refl (ended_others s) (rw (region_at-set s.regions r r (page_done flash (region_at r s.regions)) there, same_num r) refl) (mine _))
      next false t = rw t (over Flush s _ (ended_others s) refl (mine _) tt)

      by : (status : Status) → StepLeaves flash number Flush s (wrote_page flash number r status (end_job number s))
      by Clean = over Flush s _ (ended_others s) refl (mine _) tt
      by Open = over Flush s _ (ended_others s) refl (mine _) tt
      by Sealed = over Flush s _ (ended_others s) refl (mine _) tt
      by OnFlash = over Flush s _ (ended_others s) refl (mine _) tt
      by Draining = over Flush s _ (ended_others s) refl (mine _) tt
      by Flushing = next (nat_lt ((region_at r s.regions).written + 1) flash.region_pages) refl

  -- ---- gets

  answered_is : (reading : Reading) (s : Block) → Answers s (answered flash reading s)
  answered_is reading s = by (is_place (place_at (kept_of flash.bits reading.key) s.index) reading.place)
    where
      of : (o : Option FlashEntry) → Answers s (answer_of (kept_of flash.bits reading.key) reading.key s o)
      of None = record { regions = refl; jobs = refl; order = refl; losses = (tt, tt) }
      of (Some e) = record { regions = refl; jobs = refl; order = refl; losses = tt }

      by : (t : Bool) → Answers s (if t then answer_of (kept_of flash.bits reading.key) reading.key s (entry_in (read_bytes flash reading)) else absent s)
      by true = of (entry_in (read_bytes flash reading))
      by false = record { regions = refl; jobs = refl; order = refl; losses = tt }

  failed_is : (reading : Reading) (s : Block) → Answers s (failed_read flash reading s)
  failed_is reading s = by (is_place (place_at (kept_of flash.bits reading.key) s.index) reading.place)
    where
      by : (t : Bool) → Answers s (if t then unreadable (kept_of flash.bits reading.key) s else absent s)
      by true = record { regions = refl; jobs = refl; order = refl; losses = (tt, tt) }
      by false = record { regions = refl; jobs = refl; order = refl; losses = tt }

  leaves_get : (key : List ℕ) (s : Block) (o : Option Place) → work_of number s.jobs ≡ None → StepLeaves flash number (Get key) s (get_at flash number key o s)
  leaves_get key s None none = over (Get key) s (absent s) (free_others s none) refl (no_writes s) tt
  leaves_get key s (Some place) none = by (nat_lt (reading_of flash key place s).next (reading_of flash key place s).until)
    where
      by : (t : Bool) → StepLeaves flash number (Get key) s (if t then read_next flash number (reading_of flash key place s) (pinned place.region s) else answered flash (reading_of flash key place s) s)
      by true = goes_on (Get key) (Getting (reading_of flash key place s)) s (pinned place.region s) _ (free_others s none) refl (kept_set number place.region (record (region_at place.region s.regions) { pins = (region_at place.region s.regions).pins + 1 }) s refl)
      by false = let a = answered_is (reading_of flash key place s) s in over (Get key) s _ (rw a.jobs (free_others s none)) a.order (rw a.regions (no_writes s)) a.losses

  -- the last part of a read lets its region go
  leaves_let_go : (key : List ℕ) (r : ℕ) (s : Block) (moved : Moved) → Sound flash s → Answers (end_job number s) moved → StepLeaves flash number (Get key) s (let_go r moved)
  leaves_let_go key r s moved sound a = by (is_draining (region_at r moved.state.regions).status) refl ((region_at r moved.state.regions).pins == 1) refl
    where
      others : AreOthers number s moved.state.jobs
      others = rw a.jobs (ended_others s)

      unpinned : IsWritten number s (set s.regions r (record (region_at r s.regions) { pins = (region_at r s.regions).pins - 1 }))
      unpinned = kept_set number r (record (region_at r s.regions) { pins = (region_at r s.regions).pins - 1 }) s refl

      by : (t : Bool) → is_draining (region_at r moved.state.regions).status ≡ t → (u : Bool) → ((region_at r moved.state.regions).pins == 1) ≡ u → StepLeaves flash number (Get key) s (let_go r moved)
      by true t true u = rw (t, u) (over (Get key) s _ others a.order (rw a.regions (idle_set number r clean_region s (drained_idle flash number r s sound (rw a.regions at t)))) a.losses)
      by true t false u = rw (t, u) (over (Get key) s _ others a.order (rw a.regions unpinned) a.losses)
      by false t u v = rw t (over (Get key) s _ others a.order (rw a.regions unpinned) a.losses)

  leaves_got : (reading : Reading) (bytes : List ℕ) (s : Block) → Sound flash s → StepLeaves flash number (Get reading.key) s (got_page flash number reading bytes (end_job number s))
  leaves_got reading bytes s sound = by (nat_lt (reading.next + 1) reading.until)
    where
      by : (t : Bool) → StepLeaves flash number (Get reading.key) s
          (if t then read_next flash number (record reading { got = reading.got ++ bytes; next = reading.next + 1 }) (end_job number s)
          else let_go reading.place.region (answered flash (record reading { got = reading.got ++ bytes; next = reading.next + 1 }) (end_job number s)))
      by true = goes_on (Get reading.key) (Getting (record reading { got = reading.got ++ bytes; next = reading.next + 1 })) s (end_job number s) _ (ended_others s) refl (no_writes s)
      by false = leaves_let_go reading.key reading.place.region s _ sound (answered_is (record reading { got = reading.got ++ bytes; next = reading.next + 1 }) (end_job number s))

  -- ---- both calls

  starts : (op : Op) (s : Block) → Sound flash s → work_of number s.jobs ≡ None → StepLeaves flash number op s (start flash number op s)
  starts (Put e) s sound none = leaves_put e s (fitting flash s (length (entry_bytes e)) s.current) sound none
  starts (Get key) s sound none = leaves_get key s (place_at (kept_of flash.bits key) s.index) none
  starts (Delete key) s sound none = quiet (Delete key) s s refl (free_others s none)
  starts Flush s sound none = leaves_flush s none
  starts Reclaim s sound none = leaves_reclaim s sound none

  resumes : (work : Work) (result : IoResult) (s : Block) → Sound flash s → work_of number s.jobs ≡ Some work → StepLeaves flash number (work_under_way flash s work).op s (resume flash number work result s)
  resumes (Writing r bytes) Written s sound at = leaves_wrote r bytes s sound at
  resumes (Writing r bytes) Failed s sound at = over Flush s _ (ended_others s) refl (idle_set number r (emptied (region_at r s.regions)) s (own_writes flash number r bytes s sound at)) (lost_large Fault _)
  resumes (Writing r bytes) (Page page) s sound at = quiet Flush s (end_job number s) refl (ended_others s)
  resumes (Getting reading) (Page page) s sound at = leaves_got reading page s sound
  resumes (Getting reading) Written s sound at = quiet (Get reading.key) s (end_job number s) refl (ended_others s)
  resumes (Getting reading) Failed s sound at = leaves_let_go reading.key reading.place.region s _ sound (failed_is reading (end_job number s))

-- ---- under all numbers

pub record Leaves (flash : FlashConfig) (number : ℕ) (op : Op) (s : Block) (moved : Moved) : Type 0 where
  pub goes : (n : ℕ) → large_under_way flash moved.state n ≡ (if n == number then then_under_way op (next_of moved.outcome moved.order) else large_under_way flash s n)
  pub losses : AreLargeLosses moved.outcome.losses

all_leave : (flash : FlashConfig) (number : ℕ) (op : Op) (s : Block) (moved : Moved) → StepLeaves flash number op s moved → Leaves flash number op s moved
all_leave flash number op s moved step = record { goes = λ n. by n (n == number) refl; losses = step.losses }
  where
    other : (n : ℕ) (o : Option Work) → work_of n s.jobs ≡ o → (n == number) ≡ false → option_map (work_under_way flash moved.state) o ≡ option_map (work_under_way flash s) o
    other n None at o = refl
    other n (Some (Getting reading)) at o = refl
    other n (Some (Writing r bytes)) at o = ap (λ (w : ℕ). Some (record { op = Flush; order = Write (page_no flash r w) bytes })) (step.written n r bytes o at)

    by : (n : ℕ) (t : Bool) → (n == number) ≡ t → large_under_way flash moved.state n ≡ (if t then then_under_way op (next_of moved.outcome moved.order) else large_under_way flash s n)
    by n true t = ap (large_under_way flash moved.state) (eqb-true n number t) ∙ step.own
    by n false t = ap (option_map (work_under_way flash moved.state)) (step.others n t) ∙ other n (work_of n s.jobs) refl t

pub start_leaves : (flash : FlashConfig) (number : ℕ) (op : Op) (s : Block) → Sound flash s → work_of number s.jobs ≡ None → Leaves flash number op s (start flash number op s)
start_leaves flash number op s sound none = all_leave flash number op s (start flash number op s) (starts flash number op s sound none)

pub resume_leaves : (flash : FlashConfig) (number : ℕ) (work : Work) (result : IoResult) (s : Block) → Sound flash s → work_of number s.jobs ≡ Some work → Leaves flash number (work_under_way flash s work).op s (resume flash number work result s)
resume_leaves flash number work result s sound at = all_leave flash number (work_under_way flash s work).op s (resume flash number work result s) (resumes flash number work result s sound at)
