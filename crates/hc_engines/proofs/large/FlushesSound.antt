-- The engine is sound after a page goes out, and after it was written or wasn't.
use Rattle.std.proofs.Common.{◌≡◌, ℕ, ◌+◌, ◌<◌, Bool, true, false, List, [], ◌∷◌, ◌++◌, length, Option, Some, None, refl, sym, subst, arith, ◌∙◌}
use Rattle.std.proofs.lemmas.Bool.{ltb-true}
use Rattle.std.specs.Prelude.{if◌then◌else◌, ◌==◌, nat_lt}
use Rattle.hc_types.specs.declared.config.FlashConfig.{FlashConfig}
use Rattle.hc_types.specs.Loss.{Fault}
use Rattle.hc_engines.specs.Engine.{Written, Failed}
use Rattle.hc_engines.specs.large.Region.{Status, Clean, Open, Sealed, Flushing, OnFlash, Draining, is_clean, is_draining, Region, next_page, page_done, can_go, region_at}
use Rattle.hc_engines.specs.large.Block.{Writing, Block, unmoved, with_region, work_of, without_job, end_job}
use Rattle.hc_engines.specs.large.Numbers.{is_in, minus}
use Rattle.hc_engines.specs.large.Steps.{write_out, first_ready, early_of, flush_of, flush, go_on, wrote_page, resume}
use Rattle.hc_engines.specs.large.Sound.{is_live, is_stored, is_flushing, is_waiting, is_out, writers, readers, EarlyHolds, Holds, Sound}
use Rattle.hc_engines.specs.large.Laws.{IsFree}
use Rattle.hc_engines.proofs.large.Lists.{same_num, in_range, region_at-set, is_in-minus, is_in-push}
use Rattle.hc_engines.proofs.large.Regions.{works-set}
use Rattle.hc_engines.proofs.large.Jobs.{in_front, added_sound, single_more, changed_sound}
use Rattle.hc_engines.proofs.large.Ends.{kept_out, ended_sound}
use Rattle.hc_engines.proofs.large.Flushes.{status_kept, status_other, Goes, out_holds, next_page_eq, not_both, one_more, not_more, IsReady, ready_is, CanGo, can_go_is, further, Wrote1, wrote_one, unearly, written_ending}

-- the order for a page of an open or a sealed region
out_sound : (flash : FlashConfig) (number r : ℕ) (x : Region) (s : Block) (sealed : List ℕ) → Sound flash s → Goes flash number r x s
    → ((q : ℕ) → s.current ≡ Some q → (if q == r then x else region_at q s.regions).status ≡ Open)
    → ((q : ℕ) → is_in q sealed ≡ true → (if q == r then x else region_at q s.regions).status ≡ Sealed)
    → ((q : ℕ) → is_in q s.flushed ≡ true → is_stored (if q == r then x else region_at q s.regions).status ≡ true)
    → Sound flash (write_out flash number r x (record s { sealed = sealed })).state
out_sound flash number r x s sealed sound g current sealed_too flushed = added_sound flash number (Writing r (next_page flash x)) (with_region r x (record s { sealed = sealed })) (changed_sound flash r x s new sound (record {
  there = g.there;
  regions = refl;
  index = refl;
  appended = g.appended;
  current = current;
  sealed = sealed_too;
  flushed = flushed;
  holds = subst (λ (n : ℕ). Holds flash (readers r new.jobs) n x) (sym (one_more r (writers r s.jobs))) (subst (λ (n : ℕ). Holds flash n (1 + writers r s.jobs) x) (omega arith) (out_holds flash number r x s sound g));
  others = λ q n. (omega arith, not_more r q (writers q s.jobs) n);
  works = (rw (region_at-set s.regions r r x g.there, same_num r) refl, works-set flash s.regions r x s.jobs g.there sound.works (λ w. next_page_eq flash x (region_at r s.regions) g.buffer) (λ w. omega (arith, g.written)));
  single = λ n. single_more number n (Writing r (next_page flash x)) s.jobs g.free sound.single;
}))
  where
    new : Block
    new = in_front number (Writing r (next_page flash x)) (with_region r x (record s { sealed = sealed }))

-- a sealed region goes out
pub sealed_goes : (flash : FlashConfig) (number r : ℕ) (s : Block) → Sound flash s → IsFree number s → IsReady s.regions s.sealed r → Goes flash number r (record (region_at r s.regions) { status = Flushing }) s
sealed_goes flash number r s sound free ready = record {
  idle = rw (is_sealed, ready.still) refl;
  there = in_range s.regions r (rw is_sealed refl);
  goes = refl;
  written = refl;
  buffer = refl;
  appended = refl;
  pins = refl;
  live = refl;
  filling = refl;
  unwritten = (sound.regions r).unwritten (rw is_sealed refl);
  early = λ e. absurd (not_both (region_at r s.regions).early e ready.still);
  free = free;
}
  where
    is_sealed : (region_at r s.regions).status ≡ Sealed
    is_sealed = sound.sealed r ready.there

pub sealed_sound : (flash : FlashConfig) (number r : ℕ) (s : Block) → Sound flash s → IsFree number s → IsReady s.regions s.sealed r → Sound flash (flush_of flash number s (Some r)).state
sealed_sound flash number r s sound free ready =
    out_sound flash number r x s (minus r s.sealed) sound (sealed_goes flash number r s sound free ready)
    (λ q c. status_kept (λ status. status ≡ Open) s.regions r x q (λ o. absurd (let e : Sealed ≡ Open = sym is_sealed ∙ o in cc)) (sound.current q c))
    (λ q i. let k = kept_out (q == r) (is_in q s.sealed) (sym (is_in-minus q r s.sealed) ∙ i) in status_other (λ status. status ≡ Sealed) s.regions r x q k.0 (sound.sealed q k.1))
    (λ q i. status_kept (λ status. is_stored status ≡ true) s.regions r x q (λ o. absurd (let e : is_stored Sealed ≡ true = (rw is_sealed at o) in cc)) (sound.flushed q i))
  where
    x : Region
    x = record (region_at r s.regions) { status = Flushing }

    is_sealed : (region_at r s.regions).status ≡ Sealed
    is_sealed = sound.sealed r ready.there

-- the open one does, early
pub open_goes : (flash : FlashConfig) (number r : ℕ) (s : Block) → Sound flash s → IsFree number s → s.current ≡ Some r → CanGo flash (region_at r s.regions) → Goes flash number r (record (region_at r s.regions) { early = true }) s
open_goes flash number r s sound free cur can = record {
  idle = rw (is_open, can.still) refl;
  there = in_range s.regions r (rw is_open refl);
  goes = (rw is_open refl);
  written = refl;
  buffer = refl;
  appended = refl;
  pins = refl;
  live = (rw is_open refl);
  filling = (rw is_open refl);
  unwritten = (sound.regions r).unwritten (rw is_open refl);
  early = λ e. record { waiting = (rw is_open refl); full = can.full; not_last = can.not_last };
  free = free;
}
  where
    is_open : (region_at r s.regions).status ≡ Open
    is_open = sound.current r cur

pub open_sound : (flash : FlashConfig) (number r : ℕ) (s : Block) → Sound flash s → IsFree number s → s.current ≡ Some r → CanGo flash (region_at r s.regions)
    → Sound flash (write_out flash number r (record (region_at r s.regions) { early = true }) s).state
open_sound flash number r s sound free cur can =
    out_sound flash number r x s s.sealed sound (open_goes flash number r s sound free cur can)
    (λ q c. status_kept (λ status. status ≡ Open) s.regions r x q (λ o. o) (sound.current q c))
    (λ q i. status_kept (λ status. status ≡ Sealed) s.regions r x q (λ o. o) (sound.sealed q i))
    (λ q i. status_kept (λ status. is_stored status ≡ true) s.regions r x q (λ o. o) (sound.flushed q i))
  where
    x : Region
    x = record (region_at r s.regions) { early = true }

pub flush_sound : (flash : FlashConfig) (number : ℕ) (s : Block) → IsFree number s → Sound flash s → Sound flash (flush flash number s).state
flush_sound flash number s free sound = go (first_ready s.regions s.sealed) refl
  where
    open_one : (r : ℕ) → s.current ≡ Some r → (t : Bool) → can_go flash (region_at r s.regions) ≡ t
        → Sound flash (if t then write_out flash number r (record (region_at r s.regions) { early = true }) s else unmoved s).state
    open_one r c true t = open_sound flash number r s sound free c (can_go_is flash (region_at r s.regions) t)
    open_one r c false t = sound

    early : (o : Option ℕ) → s.current ≡ o → Sound flash (early_of flash number s o).state
    early None c = sound
    early (Some r) c = open_one r c (can_go flash (region_at r s.regions)) refl

    go : (o : Option ℕ) → first_ready s.regions s.sealed ≡ o → Sound flash (flush_of flash number s o).state
    go None e = early s.current refl
    go (Some r) e = sealed_sound flash number r s sound free (ready_is s.regions s.sealed r e)

-- ---- a page was written

pub waiting_unclean : (status : Status) → is_waiting status ≡ true → is_clean status ≡ false
waiting_unclean Clean h = absurd (cc)
waiting_unclean Open h = refl
waiting_unclean Sealed h = refl
waiting_unclean Flushing h = refl
waiting_unclean OnFlash h = refl
waiting_unclean Draining h = refl

waiting_live : (status : Status) → is_waiting status ≡ true → is_live status ≡ true
waiting_live Clean h = absurd (cc)
waiting_live Open h = refl
waiting_live Sealed h = refl
waiting_live Flushing h = refl
waiting_live OnFlash h = refl
waiting_live Draining h = absurd (cc)

waiting_still : (status : Status) → is_waiting status ≡ true → is_flushing status ≡ false
waiting_still Clean h = refl
waiting_still Open h = refl
waiting_still Sealed h = refl
waiting_still Flushing h = absurd (cc)
waiting_still OnFlash h = refl
waiting_still Draining h = refl

module _ (flash : FlashConfig) (number r : ℕ) (bytes : List ℕ) (s : Block) (sound : Sound flash s) (w : Wrote1 flash number r bytes s) where
  pub more_sound : (region_at r s.regions).status ≡ Flushing → (region_at r s.regions).written + 1 < flash.region_pages
      → Sound flash (write_out flash number r (page_done flash (region_at r s.regions)) (end_job number s)).state
  more_sound f lt = added_sound flash number (Writing r (next_page flash x)) (with_region r x (end_job number s)) (changed_sound flash r x s new sound (record {
    there = there;
    regions = refl;
    index = refl;
    appended = refl;
    current = λ q c. status_kept (λ status. status ≡ Open) s.regions r x q (λ o. o) (sound.current q c);
    sealed = λ q i. status_kept (λ status. status ≡ Sealed) s.regions r x q (λ o. o) (sound.sealed q i);
    flushed = λ q i. status_kept (λ status. is_stored status ≡ true) s.regions r x q (λ o. o) (sound.flushed q i);
    holds = record {
      blank = λ c. absurd (let e : is_clean Flushing ≡ true = (rw f at c) in cc);
      bare = λ c. absurd (let e : is_live Flushing ≡ false = (rw f at c) in cc);
      rising = further flash (region_at r s.regions) (sound.regions r).rising;
      pinned = omega (arith, (sound.regions r).pinned, w.readers_kept r);
      drains = λ c. absurd (let e : is_draining Flushing ≡ true = (rw f at c) in cc);
      out = one_more r (writers r (without_job number s.jobs)) ∙ rw (w.idle, f) refl;
      unwritten = λ c. lt;
      early = λ e. absurd (not_both (region_at r s.regions).early e (unearly flash (readers r s.jobs) (writers r s.jobs) (region_at r s.regions) (sound.regions r) (rw f refl)));
    };
    others = λ q n. (omega (arith, w.readers_kept q), not_more r q (writers q (without_job number s.jobs)) n ∙ w.others q n);
    works = (rw (region_at-set s.regions r r x there, same_num r) refl, works-set flash s.regions r x (without_job number s.jobs) there w.left.works (λ v. absurd (omega (arith, w.idle))) (λ v. omega arith));
    single = λ n. single_more number n (Writing r (next_page flash x)) (without_job number s.jobs) w.left.free w.left.single;
  }))
    where
      x : Region
      x = page_done flash (region_at r s.regions)

      new : Block
      new = in_front number (Writing r (next_page flash x)) (with_region r x (end_job number s))

      there : r < length s.regions
      there = in_range s.regions r (rw f refl)

  pub last_sound : (region_at r s.regions).status ≡ Flushing
      → Sound flash (record (with_region r (record (page_done flash (region_at r s.regions)) { status = OnFlash }) (end_job number s)) { flushed = s.flushed ++ r ∷ [] })
  last_sound f = changed_sound flash r x s new sound (record {
    there = there;
    regions = refl;
    index = refl;
    appended = refl;
    current = λ q c. status_kept (λ status. status ≡ Open) s.regions r x q (λ o. absurd (let e : Flushing ≡ Open = sym f ∙ o in cc)) (sound.current q c);
    sealed = λ q i. status_kept (λ status. status ≡ Sealed) s.regions r x q (λ o. absurd (let e : Flushing ≡ Sealed = sym f ∙ o in cc)) (sound.sealed q i);
    flushed = λ q i. stored q (q == r) refl (sym (is_in-push q r s.flushed) ∙ i);
    holds = record {
      blank = λ c. absurd (cc);
      bare = λ c. absurd (cc);
      rising = further flash (region_at r s.regions) (sound.regions r).rising;
      pinned = (sound.regions r).pinned ∙ sym (w.readers_kept r);
      drains = λ c. absurd (cc);
      out = w.idle ∙ (rw not_early refl);
      unwritten = λ c. absurd (cc);
      early = λ e. absurd (not_both (region_at r s.regions).early e not_early);
    };
    others = λ q n. (w.readers_kept q, w.others q n);
    works = works-set flash s.regions r x (without_job number s.jobs) there w.left.works (λ v. absurd (omega (arith, w.idle))) (λ v. omega arith);
    single = w.left.single;
  })
    where
      x : Region
      x = record (page_done flash (region_at r s.regions)) { status = OnFlash }

      new : Block
      new = record (with_region r x (end_job number s)) { flushed = s.flushed ++ r ∷ [] }

      there : r < length s.regions
      there = in_range s.regions r (rw f refl)

      not_early : (region_at r s.regions).early ≡ false
      not_early = unearly flash (readers r s.jobs) (writers r s.jobs) (region_at r s.regions) (sound.regions r) (rw f refl)

      stored : (q : ℕ) (t : Bool) → (q == r) ≡ t → (if t then true else is_in q s.flushed) ≡ true → is_stored (if q == r then x else region_at q s.regions).status ≡ true
      stored q true t i = rw t refl
      stored q false t i = rw t (sound.flushed q i)

  pub early_sound : (region_at r s.regions).early ≡ true → Sound flash (with_region r (record (page_done flash (region_at r s.regions)) { early = false }) (end_job number s))
  early_sound e = changed_sound flash r x s new sound (record {
    there = there;
    regions = refl;
    index = refl;
    appended = refl;
    current = λ q c. status_kept (λ status. status ≡ Open) s.regions r x q (λ o. o) (sound.current q c);
    sealed = λ q i. status_kept (λ status. status ≡ Sealed) s.regions r x q (λ o. o) (sound.sealed q i);
    flushed = λ q i. status_kept (λ status. is_stored status ≡ true) s.regions r x q (λ o. o) (sound.flushed q i);
    holds = record {
      blank = λ c. absurd (not_both (is_clean (region_at r s.regions).status) c (waiting_unclean (region_at r s.regions).status early.waiting));
      bare = λ c. absurd (not_both (is_live (region_at r s.regions).status) (waiting_live (region_at r s.regions).status early.waiting) c);
      rising = further flash (region_at r s.regions) (sound.regions r).rising;
      pinned = (sound.regions r).pinned ∙ sym (w.readers_kept r);
      drains = (sound.regions r).drains;
      out = w.idle ∙ (rw (waiting_still (region_at r s.regions).status early.waiting) refl);
      unwritten = λ c. early.not_last;
      early = λ e. absurd (cc);
    };
    others = λ q n. (w.readers_kept q, w.others q n);
    works = works-set flash s.regions r x (without_job number s.jobs) there w.left.works (λ v. absurd (omega (arith, w.idle))) (λ v. omega arith);
    single = w.left.single;
  })
    where
      x : Region
      x = record (page_done flash (region_at r s.regions)) { early = false }

      new : Block
      new = with_region r x (end_job number s)

      early : EarlyHolds flash (region_at r s.regions)
      early = (sound.regions r).early e

      there : r < length s.regions
      there = in_range s.regions r (waiting_unclean (region_at r s.regions).status early.waiting)

pub wrote_sound : (flash : FlashConfig) (number r : ℕ) (bytes : List ℕ) (s : Block) → Sound flash s → work_of number s.jobs ≡ Some (Writing r bytes) → Sound flash (resume flash number (Writing r bytes) Written s).state
wrote_sound flash number r bytes s sound at = go (region_at r s.regions).status refl
  where
    w : Wrote1 flash number r bytes s
    w = wrote_one flash number r bytes s sound at

    early : (status : Status) → (region_at r s.regions).status ≡ status → is_flushing status ≡ false → (region_at r s.regions).early ≡ true
    early status e n = rest (region_at r s.regions).early refl (w.was_out)
      where
        rest : (t : Bool) → (region_at r s.regions).early ≡ t → is_out (region_at r s.regions) ≡ true → (region_at r s.regions).early ≡ true
        rest true t o = t
        rest false t o = absurd (not_both (is_out (region_at r s.regions)) o (rw (e, n, t) refl))

    go : (status : Status) → (region_at r s.regions).status ≡ status → Sound flash (wrote_page flash number r status (end_job number s)).state
    go Clean e = early_sound flash number r bytes s sound w (early Clean e refl)
    go Open e = early_sound flash number r bytes s sound w (early Open e refl)
    go Sealed e = early_sound flash number r bytes s sound w (early Sealed e refl)
    go OnFlash e = early_sound flash number r bytes s sound w (early OnFlash e refl)
    go Draining e = early_sound flash number r bytes s sound w (early Draining e refl)
    go Flushing e = split (nat_lt ((region_at r s.regions).written + 1) flash.region_pages) refl
      where
        split : (t : Bool) → nat_lt ((region_at r s.regions).written + 1) flash.region_pages ≡ t → Sound flash (go_on flash number r (page_done flash (region_at r s.regions)) (end_job number s)).state
        split true t = rw t (more_sound flash number r bytes s sound w e (ltb-true ((region_at r s.regions).written + 1) flash.region_pages t))
        split false t = rw t (last_sound flash number r bytes s sound w e)

-- the page couldn't be written: its region ends
pub failed_write_sound : (flash : FlashConfig) (number r : ℕ) (bytes : List ℕ) (s : Block) → Sound flash s → work_of number s.jobs ≡ Some (Writing r bytes) → Sound flash (resume flash number (Writing r bytes) Failed s).state
failed_write_sound flash number r bytes s sound at = ended_sound flash Fault r (end_job number s) (written_ending flash number r bytes s sound at).0
