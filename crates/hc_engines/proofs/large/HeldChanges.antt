-- What is held after a put, a reclaim, a flush, and a page that was written or wasn't.
use Rattle.std.proofs.Common.{◌≡◌, ℕ, ◌+◌, ◌<◌, Bool, true, false, List, [], ◌∷◌, ◌++◌, length, drop, set, Option, Some, None, refl, sym, ap, arith, ◌∙◌, append-nil}
use Rattle.std.proofs.lemmas.Bool.{eqb-true}
use Rattle.std.specs.Prelude.{if◌then◌else◌, ◌||◌, is_some, nat_lt}
use Rattle.hc_types.specs.declared.config.FlashConfig.{FlashConfig}
use Rattle.hc_types.specs.Places.{kept_of}
use Rattle.hc_types.specs.Loss.{Reclaimed, Fault}
use Rattle.hc_engines.specs.Engine.{Written, Failed, Pages, with_page}
use Rattle.hc_engines.specs.large.Entries.{entry_bytes}
use Rattle.hc_engines.specs.large.Region.{Status, Clean, Open, Sealed, Flushing, OnFlash, Draining, is_clean, Region, page_done, can_go, region_at, page_no, lowest_clean}
use Rattle.hc_engines.specs.large.Index.{leading_into}
use Rattle.hc_engines.specs.large.Block.{Writing, Block, unmoved, with_region, work_of, end_job}
use Rattle.hc_engines.specs.large.Numbers.{is_in, minus}
use Rattle.hc_engines.specs.large.Steps.{fitting, open_next, put_fresh, put_into, clean_count, oldest, reclaim_of, write_out, first_ready, early_of, flush_of, go_on, wrote_page, resume}
use Rattle.hc_engines.specs.large.Sound.{writers, readers}
use Rattle.hc_engines.specs.large.Held.{bytes_of, held}
use Rattle.hc_engines.specs.large.Good.{Good}
use Rattle.hc_engines.specs.large.Laws.{written_page, after_put, loses}
use Rattle.hc_engines.specs.large.Steady.{PutChangesHeld, ReclaimChangesHeld, FlushHoldsAll, WrittenHoldsAll, FailedWriteChangesHeld}
use Rattle.hc_engines.proofs.large.Lists.{in_range}
use Rattle.hc_engines.proofs.large.Regions.{oldest_is}
use Rattle.hc_engines.proofs.large.Jobs.{ended_left}
use Rattle.hc_engines.proofs.large.Reclaims.{oldest_ending}
use Rattle.hc_engines.proofs.large.Puts.{seal_step, seal_sound}
use Rattle.hc_engines.proofs.large.PutsSound.{in_use, opens}
use Rattle.hc_engines.proofs.large.Flushes.{ready_is, wrote_one, out_unclean, written_ending}
use Rattle.hc_engines.proofs.large.Fitting.{pages_same}
use Rattle.hc_engines.proofs.large.FitsSteps.{after_write, other_page, written_grows}
use Rattle.hc_engines.proofs.large.Holding.{held_same, held_put, held_ended}
use Rattle.hc_engines.proofs.large.Stays.{seal_rest, open_rest}
use Rattle.hc_engines.proofs.large.Changes.{opened_grows, loses-lost}
use Rattle.hc_engines.proofs.large.Writes.{one_grows, out_same}

-- ---- put

pub put_changes : PutChangesHeld
put_changes flash pages entry s key some large g = go (fitting flash s (length (entry_bytes entry)) s.current) refl
  where
    fresh : (o : Option ℕ) → lowest_clean 0 s.regions ≡ o → held flash pages (put_fresh flash entry s o).state key ≡ (if is_some o then after_put flash entry key (held flash pages s key) else held flash pages s key)
    fresh None e = refl
    fresh (Some r) e =
        let o = opens flash s r g.sound e in
        let opened = open_rest flash pages r (seal_step s) (seal_sound flash s g.sound) o.there o.clean (seal_rest flash pages s g.sound (record { fits = g.fits; reads = g.reads })) in
        held_put flash pages (open_next r s) r entry (rw o.is_open refl) large opened.fits key
        ∙ ap (after_put flash entry key) (held_same flash pages pages s (open_next r s) g.fits refl (opened_grows flash pages r s g.sound o.there o.low.clean) key)

    go : (o : Option ℕ) → fitting flash s (length (entry_bytes entry)) s.current ≡ o
        → held flash pages (put_into flash entry s o).state key ≡ (if is_some o || is_some (lowest_clean 0 s.regions) then after_put flash entry key (held flash pages s key) else held flash pages s key)
    go None e = fresh (lowest_clean 0 s.regions) refl
    go (Some r) e = held_put flash pages s r entry (rw (g.sound.current r (in_use flash s (length (entry_bytes entry)) r s.current e)) refl) large g.fits key

-- ---- reclaim

pub reclaim_changes : ReclaimChangesHeld
reclaim_changes flash pages s key g = go (nat_lt (clean_count s.regions) flash.clean)
  where
    of : (o : Option ℕ) → oldest s.regions s.flushed ≡ o → held flash pages (reclaim_of s o).state key ≡ (if loses (kept_of flash.bits key) (reclaim_of s o).outcome.losses then None else held flash pages s key)
    of None e = refl
    of (Some r) e = rw (loses-lost (kept_of flash.bits key) (Reclaimed r) (leading_into r (region_at r s.regions).appended s.index)) (held_ended flash pages (Reclaimed r) r s (oldest_ending flash s r g.sound (oldest_is s.regions s.flushed r e)).0 key)

    go : (t : Bool) → held flash pages (if t then reclaim_of s (oldest s.regions s.flushed) else unmoved s).state key ≡ (if loses (kept_of flash.bits key) (if t then reclaim_of s (oldest s.regions s.flushed) else unmoved s).outcome.losses then None else held flash pages s key)
    go true = of (oldest s.regions s.flushed) refl
    go false = refl

-- ---- a page goes out

pub flush_changes : FlushHoldsAll
flush_changes flash pages number s key g = go (first_ready s.regions s.sealed) refl
  where
    early_one : (r : ℕ) → s.current ≡ Some r → (t : Bool) → held flash pages (if t then write_out flash number r (record (region_at r s.regions) { early = true }) s else unmoved s).state key ≡ held flash pages s key
    early_one r c true = out_same flash pages number r (record (region_at r s.regions) { early = true }) s.sealed s key g.fits (in_range s.regions r (rw (g.sound.current r c) refl)) refl refl
    early_one r c false = refl

    early : (o : Option ℕ) → s.current ≡ o → held flash pages (early_of flash number s o).state key ≡ held flash pages s key
    early None c = refl
    early (Some r) c = early_one r c (can_go flash (region_at r s.regions))

    go : (o : Option ℕ) → first_ready s.regions s.sealed ≡ o → held flash pages (flush_of flash number s o).state key ≡ held flash pages s key
    go None e = early s.current refl
    go (Some r) e = out_same flash pages number r (record (region_at r s.regions) { status = Flushing }) (minus r s.sealed) s key g.fits (in_range s.regions r (rw (g.sound.sealed r (ready_is s.regions s.sealed r e).there) refl)) refl refl

-- ---- a page was written, or wasn't

module _ (flash : FlashConfig) (pages : Pages) (number r : ℕ) (bytes : List ℕ) (s : Block) (key : List ℕ) (at : work_of number s.jobs ≡ Some (Writing r bytes)) (g : Good flash pages s) where
  unclean : is_clean (region_at r s.regions).status ≡ false
  unclean = (out_unclean flash (readers r s.jobs) (writers r s.jobs) (region_at r s.regions) (g.sound.regions r) (wrote_one flash number r bytes s g.sound at).was_out).0

  room : (region_at r s.regions).written < flash.region_pages
  room = (written_ending flash number r bytes s g.sound at).1

  same_pages : (done : Bool) (q i : ℕ) → i < (region_at q s.regions).written → after_write flash pages r s done (page_no flash q i) ≡ pages (page_no flash q i)
  same_pages done q i l = other_page flash pages r q i s done room (omega (arith, g.fits.within q)) (λ t e. let eq : q ≡ r = eqb-true q r t in let l2 : i < (region_at r s.regions).written = (rw eq at l) in absurd (omega arith))

  -- whatever the region is then
  page_changes : (x : Region) (new : Block) → new.regions ≡ set s.regions r x → new.index ≡ s.index → x.written ≡ (region_at r s.regions).written + 1 → x.buffer ≡ drop flash.page (region_at r s.regions).buffer
      → held flash (after_write flash pages r s true) new key ≡ held flash pages s key
  page_changes x new er ei w b =
      held_same flash pages (after_write flash pages r s true) s new g.fits ei
      (λ h p e. one_grows flash pages (after_write flash pages r s true) r x s new (in_range s.regions r unclean) er (written_grows flash pages r x s new g.fits unclean room er w b) (λ q i n l. same_pages true q i l) p.region) key

  early : held flash (after_write flash pages r s true) (with_region r (record (page_done flash (region_at r s.regions)) { early = false }) (end_job number s)) key ≡ held flash pages s key
  early = page_changes (record (page_done flash (region_at r s.regions)) { early = false }) (with_region r (record (page_done flash (region_at r s.regions)) { early = false }) (end_job number s)) refl refl refl refl

  by_status : (status : Status) → held flash (after_write flash pages r s true) (wrote_page flash number r status (end_job number s)).state key ≡ held flash pages s key
  by_status Clean = early
  by_status Open = early
  by_status Sealed = early
  by_status OnFlash = early
  by_status Draining = early
  by_status Flushing = split (nat_lt ((region_at r s.regions).written + 1) flash.region_pages) refl
    where
      split : (t : Bool) → nat_lt ((region_at r s.regions).written + 1) flash.region_pages ≡ t → held flash (after_write flash pages r s true) (go_on flash number r (page_done flash (region_at r s.regions)) (end_job number s)).state key ≡ held flash pages s key
      split true t = rw t (page_changes (page_done flash (region_at r s.regions)) (write_out flash number r (page_done flash (region_at r s.regions)) (end_job number s)).state refl refl refl refl)
      split false t = rw t (page_changes (record (page_done flash (region_at r s.regions)) { status = OnFlash }) (record (with_region r (record (page_done flash (region_at r s.regions)) { status = OnFlash }) (end_job number s)) { flushed = s.flushed ++ r ∷ [] }) refl refl refl refl)

  ended : held flash (after_write flash pages r s false) (resume flash number (Writing r bytes) Failed s).state key
      ≡ (if loses (kept_of flash.bits key) (resume flash number (Writing r bytes) Failed s).outcome.losses then None else held flash pages s key)
  ended =
      let before : held flash (after_write flash pages r s false) s key ≡ held flash pages s key =
      held_same flash pages (after_write flash pages r s false) s s g.fits refl (λ h p e. record { more = []; grown = (rw (pages_same flash pages (after_write flash pages r s false) p.region (region_at p.region s.regions).written (λ i l. same_pages false p.region i l)) (sym (append-nil (bytes_of flash pages s p.region)))) }) key in
      let after = held_ended flash (after_write flash pages r s false) Fault r (end_job number s) (written_ending flash number r bytes s g.sound at).0 key in
      rw (loses-lost (kept_of flash.bits key) Fault (leading_into r (region_at r s.regions).appended s.index)) (after ∙ ap (λ o. if is_in (kept_of flash.bits key) (leading_into r (region_at r s.regions).appended s.index) then None else o) before)

-- the bytes of the order are still the region's next page
pub ordered : (flash : FlashConfig) (pages : Pages) (number r : ℕ) (bytes : List ℕ) (s : Block) → work_of number s.jobs ≡ Some (Writing r bytes) → Good flash pages s
    → after_write flash pages r s true ≡ with_page pages (written_page flash r s) (Some bytes)
ordered flash pages number r bytes s at g = ap (λ b. with_page pages (written_page flash r s) (Some b)) (sym (ended_left flash number (Writing r bytes) s g.sound at).own)

pub written_changes : WrittenHoldsAll
written_changes flash pages number r bytes s key at g =
    ap (λ (p : Pages). held flash p (resume flash number (Writing r bytes) Written s).state key) (sym (ordered flash pages number r bytes s at g))
    ∙ by_status flash pages number r bytes s key at g (region_at r s.regions).status

pub failed_write_changes : FailedWriteChangesHeld
failed_write_changes flash pages number r bytes s key at g = ended flash pages number r bytes s key at g
