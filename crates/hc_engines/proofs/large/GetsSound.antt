-- The engine is sound after a read begins, goes on, and lets its region go.
use Rattle.std.proofs.Common.{◌≡◌, ◌≢◌, ℕ, zero, suc, ◌+◌, ◌-◌, ◌<◌, ◌≤◌, Bool, true, false, List, length, Some, refl, sym, subst, arith, ◌∙◌}
use Rattle.std.specs.Prelude.{◌==◌, ◌&&◌}
use Rattle.hc_types.specs.declared.config.FlashConfig.{FlashConfig}
use Rattle.hc_engines.specs.Engine.{Outcome}
use Rattle.hc_engines.specs.large.Region.{Status, Clean, Open, Sealed, Flushing, OnFlash, Draining, is_clean, is_draining, Region, clean_region, region_at}
use Rattle.hc_engines.specs.large.Block.{Reading, Getting, Block, finished, with_region, work_of, without_job, end_job}
use Rattle.hc_engines.specs.large.Numbers.{is_in, minus}
use Rattle.hc_engines.specs.large.Steps.{pinned, read_next, let_go}
use Rattle.hc_engines.specs.large.Sound.{is_live, is_stored, is_flushing, is_waiting, is_out, writers, readers, Holds, Sound}
use Rattle.hc_engines.specs.large.Laws.{IsFree}
use Rattle.hc_engines.proofs.large.Lists.{same_num, in_range, region_at-set, is_in-minus}
use Rattle.hc_engines.proofs.large.Ends.{kept_out}
use Rattle.hc_engines.proofs.large.Regions.{works-set}
use Rattle.hc_engines.proofs.large.Jobs.{Left, ended_left, in_front, added_sound, single_more, changed_sound}
use Rattle.hc_engines.proofs.large.Flushes.{status_kept, one_more, not_more, not_both}
use Rattle.hc_engines.specs.large.Unread.{read_on}
use Rattle.hc_engines.proofs.large.Gets.{pinned_holds, is-one, Pinned, pinned_by}

-- the region is pinned, and a page of it is read
pub begins_sound : (flash : FlashConfig) (number : ℕ) (reading : Reading) (s : Block) → Sound flash s → IsFree number s
    → is_clean (region_at reading.place.region s.regions).status ≡ false → reading.next < reading.until → reading.until ≤ (region_at reading.place.region s.regions).written
    → Sound flash (read_next flash number reading (pinned reading.place.region s)).state
begins_sound flash number reading s sound free u below within = added_sound flash number (Getting reading) (pinned r s) (changed_sound flash r x s new sound (record {
  there = there;
  regions = refl;
  index = refl;
  appended = refl;
  current = λ q c. status_kept (λ status. status ≡ Open) s.regions r x q (λ o. o) (sound.current q c);
  sealed = λ q i. status_kept (λ status. status ≡ Sealed) s.regions r x q (λ o. o) (sound.sealed q i);
  flushed = λ q i. status_kept (λ status. is_stored status ≡ true) s.regions r x q (λ o. o) (sound.flushed q i);
  holds = subst (λ (n : ℕ). Holds flash n (0 + writers r s.jobs) x) (sym (one_more r (readers r s.jobs))) (subst (λ (n : ℕ). Holds flash (1 + readers r s.jobs) n x) (omega arith) (pinned_holds flash (readers r s.jobs) (writers r s.jobs) (region_at r s.regions) u (sound.regions r)));
  others = λ q n. (not_more r q (readers q s.jobs) n, omega arith);
  works = ((below, (rw (region_at-set s.regions r r x there, same_num r) within)), works-set flash s.regions r x s.jobs there sound.works (λ w. refl) (λ w. omega arith));
  single = λ n. single_more number n (Getting reading) s.jobs free sound.single;
}))
  where
    r : ℕ
    r = reading.place.region

    x : Region
    x = record (region_at r s.regions) { pins = (region_at r s.regions).pins + 1 }

    new : Block
    new = in_front number (Getting reading) (pinned r s)

    there : r < length s.regions
    there = in_range s.regions r u

-- a page was read, and the next is
pub on_sound : (flash : FlashConfig) (number : ℕ) (reading : Reading) (bytes : List ℕ) (s : Block) → Sound flash s → work_of number s.jobs ≡ Some (Getting reading) → reading.next + 1 < reading.until
    → Sound flash (read_next flash number (read_on reading bytes) (end_job number s)).state
on_sound flash number reading bytes s sound w more = added_sound flash number (Getting (read_on reading bytes)) (end_job number s) (record {
  current = sound.current;
  sealed = sound.sealed;
  flushed = sound.flushed;
  listed = sound.listed;
  regions = λ q. subst (λ (n : ℕ). Holds flash n (0 + writers q (without_job number s.jobs)) (region_at q s.regions)) (l.readers_then q)
      (subst (λ (n : ℕ). Holds flash (readers q s.jobs) n (region_at q s.regions)) (l.writers_then q) (sound.regions q));
  works = ((more, l.own.1), l.works);
  single = λ n. single_more number n (Getting (read_on reading bytes)) (without_job number s.jobs) l.free l.single;
})
  where
    l : Left flash number (Getting reading) s (without_job number s.jobs)
    l = ended_left flash number (Getting reading) s sound w

-- ---- a region is let go

pub drained_bare : (status : Status) → is_draining status ≡ true → is_live status ≡ false
drained_bare Clean d = absurd (cc)
drained_bare Open d = absurd (cc)
drained_bare Sealed d = absurd (cc)
drained_bare Flushing d = absurd (cc)
drained_bare OnFlash d = absurd (cc)
drained_bare Draining d = refl

not_waiting : (status : Status) → is_draining status ≡ true → (is_waiting status ≡ false) × (is_flushing status ≡ false)
not_waiting Clean d = absurd (cc)
not_waiting Open d = absurd (cc)
not_waiting Sealed d = absurd (cc)
not_waiting Flushing d = absurd (cc)
not_waiting OnFlash d = absurd (cc)
not_waiting Draining d = (refl, refl)

module _ (flash : FlashConfig) (number : ℕ) (reading : Reading) (s : Block) (sound : Sound flash s) (p : Pinned flash number reading s) where
  -- no write of a region that drains is out
  pub none_written : is_draining (region_at reading.place.region s.regions).status ≡ true → writers reading.place.region (without_job number s.jobs) ≡ 0
  none_written d = p.writers_kept reading.place.region ∙ (sound.regions reading.place.region).out ∙ rw (out_not (region_at reading.place.region s.regions).early refl) refl
    where
      out_not : (t : Bool) → (region_at reading.place.region s.regions).early ≡ t → is_out (region_at reading.place.region s.regions) ≡ false
      out_not true t = absurd (not_both (is_waiting (region_at reading.place.region s.regions).status) ((sound.regions reading.place.region).early t).waiting (not_waiting (region_at reading.place.region s.regions).status d).0)
      out_not false t = rw ((not_waiting (region_at reading.place.region s.regions).status d).1, t) refl

  -- the last read of a region that drains
  pub last_sound : is_draining (region_at reading.place.region s.regions).status ≡ true → (region_at reading.place.region s.regions).pins ≡ 1
      → Sound flash (record (with_region reading.place.region clean_region (end_job number s)) { flushed = minus reading.place.region s.flushed })
  last_sound d one = changed_sound flash r clean_region s new sound (record {
    there = there;
    regions = refl;
    index = refl;
    appended = sym ((sound.regions r).bare (drained_bare (region_at r s.regions).status d));
    current = λ q c. status_kept (λ status. status ≡ Open) s.regions r clean_region q (λ o. absurd (let e : is_draining Open ≡ true = (rw o at d) in cc)) (sound.current q c);
    sealed = λ q i. status_kept (λ status. status ≡ Sealed) s.regions r clean_region q (λ o. absurd (let e : is_draining Sealed ≡ true = (rw o at d) in cc)) (sound.sealed q i);
    flushed = λ q i. let k = kept_out (q == r) (is_in q s.flushed) (sym (is_in-minus q r s.flushed) ∙ i) in rw k.0 (sound.flushed q k.1);
    holds = record {
      blank = λ c. refl;
      bare = λ c. refl;
      rising = omega arith;
      pinned = omega (arith, p.pins);
      drains = λ c. absurd (cc);
      out = none_written d;
      unwritten = λ c. absurd (cc);
      early = λ c. absurd (cc);
    };
    others = λ q n. (p.others q n, p.writers_kept q);
    works = works-set flash s.regions r clean_region (without_job number s.jobs) there p.left.works (λ w. absurd (omega (arith, none_written d))) (λ w. absurd (omega (arith, p.pins)));
    single = p.left.single;
  })
    where
      r : ℕ
      r = reading.place.region

      new : Block
      new = record (with_region r clean_region (end_job number s)) { flushed = minus r s.flushed }

      there : r < length s.regions
      there = in_range s.regions r p.unclean

  -- a read of a region that others still read, or that doesn't drain
  pub unpinned_sound : (is_draining (region_at reading.place.region s.regions).status ≡ true → (region_at reading.place.region s.regions).pins ≢ 1)
      → Sound flash (with_region reading.place.region (record (region_at reading.place.region s.regions) { pins = (region_at reading.place.region s.regions).pins - 1 }) (end_job number s))
  unpinned_sound more = changed_sound flash r x s new sound (record {
    there = there;
    regions = refl;
    index = refl;
    appended = refl;
    current = λ q c. status_kept (λ status. status ≡ Open) s.regions r x q (λ o. o) (sound.current q c);
    sealed = λ q i. status_kept (λ status. status ≡ Sealed) s.regions r x q (λ o. o) (sound.sealed q i);
    flushed = λ q i. status_kept (λ status. is_stored status ≡ true) s.regions r x q (λ o. o) (sound.flushed q i);
    holds = record {
      blank = λ c. absurd (not_both (is_clean (region_at r s.regions).status) c p.unclean);
      bare = (sound.regions r).bare;
      rising = (sound.regions r).rising;
      pinned = omega (arith, p.pins);
      drains = λ d. left_over (region_at r s.regions).pins (more d) ((sound.regions r).drains d);
      out = p.writers_kept r ∙ (sound.regions r).out;
      unwritten = (sound.regions r).unwritten;
      early = λ e. let was = (sound.regions r).early e in record { waiting = was.waiting; full = was.full; not_last = was.not_last };
    };
    others = λ q n. (p.others q n, p.writers_kept q);
    works = works-set flash s.regions r x (without_job number s.jobs) there p.left.works (λ w. refl) (λ w. omega arith);
    single = p.left.single;
  })
    where
      r : ℕ
      r = reading.place.region

      x : Region
      x = record (region_at r s.regions) { pins = (region_at r s.regions).pins - 1 }

      new : Block
      new = with_region r x (end_job number s)

      there : r < length s.regions
      there = in_range s.regions r p.unclean

      left_over : (n : ℕ) → n ≢ 1 → 0 < n → 0 < n - 1
      left_over zero f h = absurd (omega arith)
      left_over (suc zero) f h = absurd (f refl)
      left_over (suc (suc n)) f h = omega arith

-- whatever a read that ends came to, its region is let go
pub let_go_sound : (flash : FlashConfig) (number : ℕ) (reading : Reading) (s : Block) (outcome : Outcome) → Sound flash s → work_of number s.jobs ≡ Some (Getting reading) → Sound flash (let_go reading.place.region (finished (end_job number s) outcome)).state
let_go_sound flash number reading s outcome sound w = go (is_draining (region_at r s.regions).status) refl ((region_at r s.regions).pins == 1) refl
  where
    r : ℕ
    r = reading.place.region

    p : Pinned flash number reading s
    p = pinned_by flash number reading s sound w

    stays : (is_draining (region_at r s.regions).status ≡ true → (region_at r s.regions).pins ≢ 1) → (is_draining (region_at r s.regions).status && ((region_at r s.regions).pins == 1)) ≡ false
        → Sound flash (let_go r (finished (end_job number s) outcome)).state
    stays more off = rw off (unpinned_sound flash number reading s sound p more)

    go : (d : Bool) → is_draining (region_at r s.regions).status ≡ d → (o : Bool) → ((region_at r s.regions).pins == 1) ≡ o → Sound flash (let_go r (finished (end_job number s) outcome)).state
    go true d true o = rw (d, o) (last_sound flash number reading s sound p d (is-one (region_at r s.regions).pins o))
    go true d false o = stays (λ t e. absurd (let k : ((region_at r s.regions).pins == 1) ≡ true = (rw e refl) in cc)) (rw (d, o) refl)
    go false d o e = stays (λ t. absurd (cc)) (rw d refl)
