-- Both calls of the pair.
use Rattle.std.proofs.Common.{◌≡◌, ℕ, ◌+◌, ◌<◌, ◌==◌, Bool, true, false, List, [], length, Option, Some, None, refl, sym, inl, inr, ap, subst, arith, ◌∙◌}
use Rattle.std.proofs.lemmas.Bool.{eqb-true}
use Rattle.std.specs.Prelude.{◌⊎◌, if◌then◌else◌, option_map}
use Rattle.hc_types.specs.Places.{is_small_by}
use Rattle.hc_types.specs.FlashEntry.{FlashEntry}
use Rattle.hc_bucket.proofs.Numbers.{some_is}
use Rattle.hc_engines.specs.Engine.{Op, Put, Get, Delete, Flush, Reclaim, IoResult, Page, Written, Failed, Answer, Pages, UnderWay, found, never, AnswersFor, IsHonest, with_page, pages_after}
use Rattle.hc_engines.specs.small.BigHash as bighash
use Rattle.hc_engines.specs.small.BigHash.{Job, Phase, Reading, Writing, job_at}
use Rattle.hc_engines.specs.small.Sound.{CanStart as CanStartSmall}
use Rattle.hc_engines.specs.small.Held.{order_of, job_under_way}
use Rattle.hc_engines.proofs.small.Apart.{kept_by_others}
use Rattle.hc_engines.specs.large.Block as block
use Rattle.hc_engines.specs.large.Block.{Work, Writing as Writes, Getting as Gets, work_of}
use Rattle.hc_engines.specs.large.Steps as steps
use Rattle.hc_engines.specs.pair.Large.{Stale}
use Rattle.hc_engines.specs.pair.Pair.{Pair, Moved, by_small, by_large, after_small, start, resume_work, resume_in}
use Rattle.hc_engines.specs.pair.Held.{held_small, held_large, PairFits, OneHolder, CanStart, work_under_way, first_of, under_way, Passed, PairServes, StartServes, ResumeServes}
use Rattle.hc_engines.proofs.pair.Joining.{not-theirs}
use Rattle.hc_engines.proofs.large.Jobs.{free_of}
use Rattle.hc_engines.proofs.pair.LargeSteps.{start_leaves, resume_leaves}
use Rattle.hc_engines.proofs.pair.LargeServes.{put_carried_out, large_put_serves, large_reclaim_serves, large_flush_serves, large_written_serves, large_failed_write_serves}
use Rattle.hc_engines.proofs.pair.LargeGets.{large_read_serves, large_failed_read_serves, large_stays}
use Rattle.hc_engines.proofs.pair.SmallSteps.{start_small, resume_small, job_bucket}
use Rattle.hc_engines.proofs.pair.Numbers.{mapped_some, none_in_both}
use Rattle.hc_engines.proofs.pair.Together.{both}
use Rattle.hc_engines.proofs.pair.SmallCalls.{LargeStands}
use Rattle.hc_engines.proofs.pair.LargeCalls.{SmallStands, large_serves}
use Rattle.hc_engines.proofs.pair.GoesOn.{small_call}

-- ---- start

can-small : (op : Op) → CanStart op → CanStartSmall op
can-small (Put e) can = record { some_key = can.some_key; key = can.key; pool = can.pool; expiry = can.expiry }
can-small (Get key) can = tt
can-small (Delete key) can = tt
can-small Flush can = tt
can-small Reclaim can = tt

module _ (pair : Pair) (pages : Pages) (number : ℕ) (fits : PairFits pair pages) (under : under_way pair number ≡ None) where
  none : job_at number pair.small.jobs ≡ None
  none = (none_in_both pair (job_at number pair.small.jobs) (work_of number pair.large.jobs) under).0

  free : work_of number pair.large.jobs ≡ None
  free = (none_in_both pair (job_at number pair.small.jobs) (work_of number pair.large.jobs) under).1

  by_the_small : (op : Op) → CanStart op → bighash.is_ours pair.small.flash op ≡ true → PairServes never op pair pages (after_small number op (by_small pair (bighash.start pair.small number op))) pages
  by_the_small op can ours = small_call pair pages pages number (bighash.start pair.small number op) fits (record { fits = fits.large; same = refl }) free never op (start_small pair.small pages number op fits.small none (can-small op can) ours)

  put_serves : (e : FlashEntry) → CanStart (Put e) → (small : Bool) → is_small_by pair.small.flash e.key (length e.value) ≡ small
      → PairServes never (Put e) pair pages (if small then by_small pair (bighash.start pair.small number (Put e)) else by_large pair [] (steps.put pair.small.flash e pair.large)) pages
  put_serves e can true size = by_the_small (Put e) can size
  put_serves e can false size =
      large_serves pair pages pages number (Put e) (steps.put pair.small.flash e pair.large) never never fits (record { fits = fits.small; same = refl }) (large_put_serves pair.small.flash pages e pair.large fits.large size can)
      (start_leaves pair.small.flash number (Put e) pair.large fits.large.good.sound free) none (put_carried_out pair.small.flash e pair.large) (λ able key x h. not-theirs pair.small.flash (Put e) (held_small pair pages) (held_large pair pages) key x size able.alone h) (λ one answer h. inl tt)

  pub starts : (op : Op) → CanStart op → PairServes never op pair pages (start number op pair) pages
  starts (Put e) can = put_serves e can (is_small_by pair.small.flash e.key (length e.value)) refl
  starts (Get key) can = by_the_small (Get key) can refl
  starts (Delete key) can = by_the_small (Delete key) can refl
  starts Flush can = large_serves pair pages pages number Flush (steps.flush pair.small.flash number pair.large) never never fits (record { fits = fits.small; same = refl })
      (large_flush_serves pair.small.flash pages number pair.large fits.large (free_of number pair.large.jobs free)) (start_leaves pair.small.flash number Flush pair.large fits.large.good.sound free) none tt (λ able key x h. refl) (λ one answer h. inl tt)
  starts Reclaim can = large_serves pair pages pages number Reclaim (steps.reclaim pair.small.flash pair.large) never never fits (record { fits = fits.small; same = refl })
      (large_reclaim_serves pair.small.flash pages pair.large fits.large) (start_leaves pair.small.flash number Reclaim pair.large fits.large.good.sound free) none tt (λ able key x h. refl) (λ one answer h. inl tt)

pub start_serves : StartServes
start_serves pair pages number op fits under can = starts pair pages number fits under op can

-- ---- the page of an order is a bucket's, or a region's

bucket_written : (pair : Pair) (pages : Pages) (page : ℕ) (bytes : Option (List ℕ)) → page < pair.small.flash.buckets → PairFits pair pages → LargeStands pair pages (with_page pages page bytes)
bucket_written pair pages page bytes below fits =
    let kept = large_stays pair.small.flash pages page bytes pair.large below fits.large in
    record { fits = kept.0; same = λ i key. kept.1 key i }

bucket_order : (pair : Pair) (pages : Pages) (size bucket : ℕ) (phase : Phase) (result : IoResult) → bucket < pair.small.flash.buckets → PairFits pair pages → LargeStands pair pages (pages_after (order_of size bucket phase) result pages)
bucket_order pair pages size bucket Reading result below fits = record { fits = fits.large; same = refl }
bucket_order pair pages size bucket (Writing es losses) (Page read) below fits = record { fits = fits.large; same = refl }
bucket_order pair pages size bucket (Writing es losses) Written below fits = bucket_written pair pages bucket (Some _) below fits
bucket_order pair pages size bucket (Writing es losses) Failed below fits = bucket_written pair pages bucket None below fits

above : (page buckets more : ℕ) → page < buckets → (buckets + more == page) ≡ false
above page buckets more below = go (buckets + more == page) refl
  where
    go : (t : Bool) → (buckets + more == page) ≡ t → (buckets + more == page) ≡ false
    go true t = let e = eqb-true (buckets + more) page t in absurd (omega (arith, e, below))
    go false t = t

region_written : (pair : Pair) (pages : Pages) (more : ℕ) (bytes : Option (List ℕ)) → PairFits pair pages → SmallStands pair pages (with_page pages (pair.small.flash.buckets + more) bytes)
region_written pair pages more bytes fits =
    let kept = kept_by_others pair.small pages (with_page pages (pair.small.flash.buckets + more) bytes) (λ page below. rw (above page pair.small.flash.buckets more below) refl) fits.small in
    record { fits = kept.0; same = λ i key. kept.1 key i }

-- ---- resume

module _ (pair : Pair) (pages : Pages) (number : ℕ) (fits : PairFits pair pages) where
  -- an operation of the small engine
  small_resumes : (job : Job) → job_at number pair.small.jobs ≡ Some job → (result : IoResult) (m : bighash.Moved) → bighash.resume pair.small number result ≡ Some m → IsHonest (order_of pair.small.flash.page job.bucket job.phase) result pages
      → (stale : Answer → Type 0) → PairServes stale job.op pair pages (after_small number job.op (by_small pair m)) (pages_after (order_of pair.small.flash.page job.bucket job.phase) result pages)
  small_resumes job at result m made honest stale =
      small_call pair pages (pages_after (order_of pair.small.flash.page job.bucket job.phase) result pages) number m fits
      (bucket_order pair pages pair.small.flash.page job.bucket job.phase result (job_bucket pair.small pages number job fits.small at) fits) (free (fits.apart number)) stale job.op
      (resume_small pair.small pages number result job m fits.small at made honest)
    where
      free : (job_at number pair.small.jobs ≡ None) ⊎ (work_of number pair.large.jobs ≡ None) → work_of number pair.large.jobs ≡ None
      free (inl none) = let wrong : None ≡ Some job = sym none ∙ at in absurd cc
      free (inr h) = h

  -- what a get in the large engine answers
  passed : (reading : block.Reading) (new : Pair) (after : Pages) → work_of number pair.large.jobs ≡ Some (Gets reading) → OneHolder (held_small new after) (held_large new after) → (answer : Answer)
      → AnswersFor (Stale pair.small.flash pair.large reading) (Get reading.key) answer (held_large new after) → AnswersFor (Passed pair new number after) (Get reading.key) answer (both (held_small new after) (held_large new after))
  passed reading new after at one answer (inr stale) = inr (record { reading = reading; gets = at; passed = inr stale.moved_on; absent = stale.absent })
  passed reading new after at one answer (inl h) = by (held_small new after reading.key) refl (one reading.key)
    where
      by : (o : Option FlashEntry) → held_small new after reading.key ≡ o → (held_small new after reading.key ≡ None) ⊎ (held_large new after reading.key ≡ None)
          → AnswersFor (Passed pair new number after) (Get reading.key) answer (both (held_small new after) (held_large new after))
      by None e either = inl (rw e h)
      by (Some x) e (inl none) = let wrong : None ≡ Some x = sym none ∙ e in absurd cc
      by (Some x) e (inr none) = inr (record { reading = reading; gets = at; passed = inl (λ none. let wrong : None ≡ Some x = sym none ∙ e in cc); absent = h ∙ ap found none })

  -- an operation of the large engine
  large_resumes : job_at number pair.small.jobs ≡ None → (work : Work) → work_of number pair.large.jobs ≡ Some work → (result : IoResult) (moved : Moved) → resume_work number result pair work ≡ Some moved → IsHonest (work_under_way pair.small.flash pair.large work).order result pages
      → PairServes (Passed pair moved.pair number (pages_after (work_under_way pair.small.flash pair.large work).order result pages)) (work_under_way pair.small.flash pair.large work).op pair pages moved (pages_after (work_under_way pair.small.flash pair.large work).order result pages)
  large_resumes none (Writes r bytes) at (Page read) moved made honest = absurd cc
  large_resumes none (Writes r bytes) at Written moved made honest =
      subst (λ (m : Moved). PairServes (Passed pair m.pair number (pages_after (work_under_way pair.small.flash pair.large (Writes r bytes)).order Written pages)) Flush pair pages m (pages_after (work_under_way pair.small.flash pair.large (Writes r bytes)).order Written pages)) (some_is _ _ made)
      (large_serves pair pages _ number Flush (steps.resume pair.small.flash number (Writes r bytes) Written pair.large) never _ fits (region_written pair pages _ (Some bytes) fits) (large_written_serves pair.small.flash pages number r bytes pair.large fits.large at)
      (resume_leaves pair.small.flash number (Writes r bytes) Written pair.large fits.large.good.sound at) none tt (λ able key x h. refl) (λ one answer h. inl tt))
  large_resumes none (Writes r bytes) at Failed moved made honest =
      subst (λ (m : Moved). PairServes (Passed pair m.pair number (pages_after (work_under_way pair.small.flash pair.large (Writes r bytes)).order Failed pages)) Flush pair pages m (pages_after (work_under_way pair.small.flash pair.large (Writes r bytes)).order Failed pages)) (some_is _ _ made)
      (large_serves pair pages _ number Flush (steps.resume pair.small.flash number (Writes r bytes) Failed pair.large) never _ fits (region_written pair pages _ None fits) (large_failed_write_serves pair.small.flash pages number r bytes pair.large fits.large at)
      (resume_leaves pair.small.flash number (Writes r bytes) Failed pair.large fits.large.good.sound at) none tt (λ able key x h. refl) (λ one answer h. inl tt))
  large_resumes none (Gets reading) at (Page bytes) moved made honest =
      subst (λ (m : Moved). PairServes (Passed pair m.pair number pages) (Get reading.key) pair pages m pages) (some_is _ _ made)
      (large_serves pair pages pages number (Get reading.key) (steps.resume pair.small.flash number (Gets reading) (Page bytes) pair.large) (Stale pair.small.flash pair.large reading) _ fits (record { fits = fits.small; same = refl })
      (large_read_serves pair.small.flash pages number reading bytes pair.large fits.large at honest) (resume_leaves pair.small.flash number (Gets reading) (Page bytes) pair.large fits.large.good.sound at) none tt (λ able key x h. refl)
      (passed reading (by_large pair [] (steps.resume pair.small.flash number (Gets reading) (Page bytes) pair.large)).pair pages at))
  large_resumes none (Gets reading) at Written moved made honest = absurd cc
  large_resumes none (Gets reading) at Failed moved made honest =
      subst (λ (m : Moved). PairServes (Passed pair m.pair number pages) (Get reading.key) pair pages m pages) (some_is _ _ made)
      (large_serves pair pages pages number (Get reading.key) (steps.resume pair.small.flash number (Gets reading) Failed pair.large) (Stale pair.small.flash pair.large reading) _ fits (record { fits = fits.small; same = refl })
      (large_failed_read_serves pair.small.flash pages number reading pair.large fits.large at) (resume_leaves pair.small.flash number (Gets reading) Failed pair.large fits.large.good.sound at) none tt (λ able key x h. refl)
      (passed reading (by_large pair [] (steps.resume pair.small.flash number (Gets reading) Failed pair.large)).pair pages at))

pub resume_serves : ResumeServes
resume_serves pair pages number result w moved fits under made honest = by (job_at number pair.small.jobs) refl (work_of number pair.large.jobs) refl under made
  where
    by : (job : Option Job) → job_at number pair.small.jobs ≡ job → (work : Option Work) → work_of number pair.large.jobs ≡ work → first_of (option_map (job_under_way pair.small.flash) job) (option_map (work_under_way pair.small.flash pair.large) work) ≡ Some w → resume_in number result pair job ≡ Some moved
        → PairServes (Passed pair moved.pair number (pages_after w.order result pages)) w.op pair pages moved (pages_after w.order result pages)
    by (Some job) at work there under made =
        let m = mapped_some (λ m. after_small number job.op (by_small pair m)) (bighash.resume pair.small number result) moved made in
        subst (λ (v : UnderWay). IsHonest v.order result pages → PairServes (Passed pair moved.pair number (pages_after v.order result pages)) v.op pair pages moved (pages_after v.order result pages)) (some_is _ _ under)
        (λ honest. subst (λ (x : Moved). PairServes (Passed pair moved.pair number (pages_after (order_of pair.small.flash.page job.bucket job.phase) result pages)) job.op pair pages x (pages_after (order_of pair.small.flash.page job.bucket job.phase) result pages)) m.2
        (small_resumes pair pages number fits job at result m.0 m.1 honest _)) honest
    by None at None there under made = absurd cc
    by None at (Some work) there under made =
        subst (λ (v : UnderWay). IsHonest v.order result pages → PairServes (Passed pair moved.pair number (pages_after v.order result pages)) v.op pair pages moved (pages_after v.order result pages)) (some_is _ _ under)
        (λ honest. large_resumes pair pages number fits at work there result moved (rw there at made) honest) honest
