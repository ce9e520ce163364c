-- A read is over, and lets its region go.
use Rattle.std.proofs.Common.{◌≡◌, ℕ, ◌-◌, ◌<◌, ◌==◌, ◌&&◌, Bool, true, false, List, [], ◌∷◌, length, set, Some, None, refl, sym, subst, arith, ◌∙◌}
use Rattle.std.proofs.lemmas.Bool.{eqb-true}
use Rattle.std.proofs.lemmas.List.{length-set}
use Rattle.std.specs.Prelude.{if◌then◌else◌, ◌≢◌}
use Rattle.hc_types.specs.Config.{Config}
use Rattle.hc_types.specs.Tally.{count}
use Rattle.hc_types.specs.declared.config.FlashConfig.{FlashConfig}
use Rattle.hc_engines.specs.Engine.{Outcome}
use Rattle.hc_engines.specs.large.Region.{Open, is_draining, Region, clean_region, filled_to, region_at}
use Rattle.hc_engines.specs.large.Index.{Place, place_at}
use Rattle.hc_engines.specs.large.Block.{Reading, Getting, Block, Moved, finished, work_of, without_job, with_region, end_job}
use Rattle.hc_engines.specs.large.Steps.{let_go}
use Rattle.hc_engines.specs.large.Numbers.{minus}
use Rattle.hc_engines.specs.large.Sound.{is_live, AllHold, Sound}
use Rattle.hc_engines.specs.large.Fits.{ReadsHold}
use Rattle.hc_engines.proofs.large.Lists.{same_num, in_range, region_at-set}
use Rattle.hc_engines.proofs.large.Jobs.{works_left, work_ended}
use Rattle.hc_engines.proofs.large.Flushes.{not_both}
use Rattle.hc_engines.proofs.large.Fitting.{same_region}
use Rattle.hc_engines.proofs.large.FitsSteps.{refits, same_fits}
use Rattle.hc_engines.proofs.large.Goods.{reads_stay}
use Rattle.hc_engines.proofs.large.Stays.{Rest, reads_left}
use Rattle.hc_engines.proofs.large.GetStays.{indexed_live}
use Rattle.hc_history.specs.Note.{Note, Cleared}
use Rattle.hc_history.specs.Pages.{bytes_at, bucket_entries}
use Rattle.hc_history.specs.Regions.{filed}
use Rattle.hc_history.specs.Lawful.{past}
use Rattle.hc_machine.specs.Takes.{region_note}
use Rattle.hc_invariant.specs.Tells.{RegionsTell, files}
use Rattle.hc_invariant.specs.Laws.{LawfulIn}
use Rattle.hc_proof.specs.books.RegionBooks.{OthersStay, but, IsOver}
use Rattle.hc_invariant.specs.Good.{OneFlush}
use Rattle.hc_proof.proofs.books.Filings.{as-none, none-of}
use Rattle.hc_proof.proofs.books.Changing.{changed_regions, others_same, others_alone, work-without}
use Rattle.hc_proof.proofs.books.Ending.{Cleaned, cleaned}
use Rattle.hc_engines.proofs.large.GetsSound.{drained_bare, none_written, last_sound, unpinned_sound}
use Rattle.hc_proof.proofs.writes.Reclaiming.{none_drained}
use Rattle.hc_engines.proofs.large.Gets.{Pinned, pinned_by}

-- what is then
pub record Gone (config : Config) (flash : FlashConfig) (mid : List Note) (number : ℕ) (s : Block) (moved : Moved) : Type 0 where
  pub lawful_in : (tail : List Note) → LawfulIn config mid (region_note Cleared moved.outcome.cleared) tail
  pub sound : Sound flash moved.state
  pub rest : Rest flash (bytes_at mid) moved.state
  pub regions : RegionsTell flash (past mid (region_note Cleared moved.outcome.cleared)) moved.state
  pub pages : bytes_at (past mid (region_note Cleared moved.outcome.cleared)) ≡ bytes_at mid
  pub entries : bucket_entries flash (past mid (region_note Cleared moved.outcome.cleared)) ≡ bucket_entries flash mid
  pub once : OneFlush mid → OneFlush (past mid (region_note Cleared moved.outcome.cleared))
  pub index : moved.state.index ≡ s.index
  pub others : OthersStay (but number) s moved.state
  pub over : IsOver number moved

-- the region is clean, or one pin less
abbrev pub unpinned : Region → Region
unpinned region = record region { pins = region.pins - 1 }

module _ (config : Config) (flash : FlashConfig) (mid : List Note) (number : ℕ) (reading : Reading) (s : Block) (o : Outcome) (here : config.flash ≡ Some flash) (t : RegionsTell flash mid s) (sound : Sound flash s) (rest : Rest flash (bytes_at mid) s) (w : work_of number s.jobs ≡ Some (Getting reading)) where
  p : Pinned flash number reading s
  p = pinned_by flash number reading s sound w

  there : reading.place.region < length s.regions
  there = in_range s.regions reading.place.region (pinned_by flash number reading s sound w).unclean

  works : AllHold flash s.regions (without_job number s.jobs)
  works = works_left flash s.regions number s.jobs sound.works

  reads : ReadsHold flash (bytes_at mid) s (without_job number s.jobs)
  reads = reads_left flash (bytes_at mid) s number s.jobs rest.reads

  -- the last read of a region that drains
  last_goes : is_draining (region_at reading.place.region s.regions).status ≡ true → (region_at reading.place.region s.regions).pins ≡ 1
      → Gone config flash mid number s (finished (record (with_region reading.place.region clean_region (end_job number s)) { flushed = minus reading.place.region s.flushed }) (record o { cleared = Some reading.place.region }))
  last_goes d one = record {
    lawful_in = clear.lawful;
    sound = last_sound flash number reading s sound p d one;
    rest = record {
      fits = refits flash (bytes_at mid) (bytes_at mid) r clean_region s new rest.fits (record {
        there = there;
        regions = refl;
        known = λ i c l. absurd (cc);
        within = omega arith;
        others = λ q i m l. refl;
        index = λ h p e. e;
        grows = λ h p e t. absurd (none_there h p e t);
      });
      reads = reads_stay flash (bytes_at mid) (bytes_at mid) r clean_region s new (without_job number s.jobs) (record {
        there = there;
        regions = refl;
        same = λ q i l. refl;
        grows = λ m live. absurd (omega (arith, p.pins));
      }) works reads;
    };
    regions = record {
      number = length-set s.regions r clean_region ∙ t.number;
      used = clear.used;
      used_number = clear.used_number;
      in_order = clear.in_order;
      filings = t.filings;
      current = t.current;
      filled = λ q c. rw (region_at-set s.regions r q clean_region there) (t.filled q c ∙ filled q c (q == r) refl);
    };
    pages = refl;
    entries = refl;
    once = clear.once;
    index = refl;
    others = others_alone (but number) r clean_region s new (without_job number s.jobs) there refl (none_written flash number reading s sound p d) (λ n o. work-without number n s.jobs o) (λ n o. work-without number n s.jobs o);
    over = record { order = refl; work = work_ended number s.jobs };
  }
    where
      r : ℕ
      r = reading.place.region

      new : Block
      new = record (with_region reading.place.region clean_region (end_job number s)) { flushed = minus reading.place.region s.flushed }

      clear : Cleaned config flash mid (set s.regions reading.place.region clean_region) (minus reading.place.region s.flushed) (Cleared reading.place.region ∷ [])
      clear = cleaned config flash mid reading.place.region s.regions s.flushed here (record {
        there = there;
        unclean = p.unclean;
        used = t.used;
        used_number = t.used_number;
        in_order = t.in_order;
        none = none-of (λ x. x == reading.place.region) (filed flash mid) (λ x eq h. let same : x ≡ reading.place.region = eqb-true x reading.place.region eq in subst (λ (z : ℕ). count (files h z) (filed flash mid) ≡ 0) (sym same)
            (as-none reading.place.region (filed flash mid) s.index t.filings (none_drained flash s sound reading.place.region d) h));
      })

      none_there : (h : ℕ) (q : Place) → place_at h s.index ≡ Some q → (q.region == r) ≡ true → ⊥
      none_there h q e t =
          let same : q.region ≡ r = eqb-true q.region r t in
          let live = indexed_live flash s h q sound e in
          not_both (is_live (region_at r s.regions).status) (rw same at live) (drained_bare (region_at r s.regions).status d)

      -- the current region isn't the one that drained
      filled : (q : ℕ) → s.current ≡ Some q → (t : Bool) → (q == r) ≡ t → filled_to flash (region_at q s.regions) ≡ filled_to flash (if t then clean_region else region_at q s.regions)
      filled q c true t =
          let e : q ≡ r = eqb-true q r t in
          let o : (region_at r s.regions).status ≡ Open = (rw e at (sound.current q c)) in
          absurd (let k : is_draining Open ≡ true = (rw o at d) in cc)
      filled q c false t = refl

  -- a read of a region that others still read, or that doesn't drain
  one_goes : o.cleared ≡ None → (is_draining (region_at reading.place.region s.regions).status ≡ true → (region_at reading.place.region s.regions).pins ≢ 1)
      → Gone config flash mid number s (finished (with_region reading.place.region (unpinned (region_at reading.place.region s.regions)) (end_job number s)) o)
  one_goes quiet more = record {
    lawful_in = λ tail. rw quiet tt;
    sound = unpinned_sound flash number reading s sound p more;
    rest = record {
      fits = same_fits flash (bytes_at mid) r x s new rest.fits p.unclean refl refl refl refl;
      reads = reads_stay flash (bytes_at mid) (bytes_at mid) r x s new (without_job number s.jobs) (record {
        there = there;
        regions = refl;
        same = λ q i l. refl;
        grows = λ n live. (live, same_region flash (bytes_at mid) s new r (rw (region_at-set s.regions r r x there, same_num r) refl) (rw (region_at-set s.regions r r x there, same_num r) refl));
      }) works reads;
    };
    regions = rw quiet (changed_regions flash mid r x s new t there refl refl refl refl refl (λ c. refl));
    pages = rw quiet refl;
    entries = rw quiet refl;
    once = λ once. rw quiet once;
    index = refl;
    others = others_same (but number) r x s new there refl refl (λ n o. work-without number n s.jobs o);
    over = record { order = refl; work = work_ended number s.jobs };
  }
    where
      r : ℕ
      r = reading.place.region

      x : Region
      x = unpinned (region_at reading.place.region s.regions)

      new : Block
      new = with_region reading.place.region (unpinned (region_at reading.place.region s.regions)) (end_job number s)

  -- whatever a read that is over came to, its region is let go
  pub let_go_does : o.cleared ≡ None → Gone config flash mid number s (let_go reading.place.region (finished (end_job number s) o))
  let_go_does quiet = go (is_draining (region_at reading.place.region s.regions).status) refl ((region_at reading.place.region s.regions).pins == 1) refl
    where
      stays : (is_draining (region_at reading.place.region s.regions).status ≡ true → (region_at reading.place.region s.regions).pins ≢ 1) → (is_draining (region_at reading.place.region s.regions).status && ((region_at reading.place.region s.regions).pins == 1)) ≡ false
          → Gone config flash mid number s (let_go reading.place.region (finished (end_job number s) o))
      stays more off = rw off (one_goes quiet more)

      go : (d : Bool) → is_draining (region_at reading.place.region s.regions).status ≡ d → (b : Bool) → ((region_at reading.place.region s.regions).pins == 1) ≡ b → Gone config flash mid number s (let_go reading.place.region (finished (end_job number s) o))
      go true d true b = rw (d, b) (last_goes d (eqb-true (region_at reading.place.region s.regions).pins 1 b))
      go true d false b = stays (λ t e. absurd (let k : ((region_at reading.place.region s.regions).pins == 1) ≡ true = (rw e refl) in cc)) (rw (d, b) refl)
      go false d n e = stays (λ t. absurd (cc)) (rw d refl)
