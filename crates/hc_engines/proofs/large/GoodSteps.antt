-- The engine is good after a put, a reclaim, a flush, a page that was written or wasn't, and an index entry that was taken.
use Rattle.std.proofs.Common.{◌≡◌, ℕ, ◌+◌, ◌<◌, Bool, true, false, [], ◌∷◌, ◌++◌, drop, set, refl, sym, subst, arith, append-nil}
use Rattle.std.proofs.lemmas.Bool.{eqb-true}
use Rattle.std.proofs.lemmas.List.{set-get_or}
use Rattle.std.specs.Prelude.{nat_lt}
use Rattle.hc_types.specs.declared.config.FlashConfig.{FlashConfig}
use Rattle.hc_types.specs.Loss.{Fault}
use Rattle.hc_engines.specs.Engine.{Written, Pages, with_page}
use Rattle.hc_engines.specs.large.Region.{Status, Clean, Open, Sealed, Flushing, OnFlash, Draining, is_clean, Region, clean_region, next_page, page_done, region_at, page_no}
use Rattle.hc_engines.specs.large.Block.{Writing, Block, with_region, without_job, end_job}
use Rattle.hc_engines.specs.large.Steps.{write_out, go_on, wrote_page, resume}
use Rattle.hc_engines.specs.large.Sound.{is_live, readers, writers, Sound}
use Rattle.hc_engines.specs.large.Held.{bytes_of}
use Rattle.hc_engines.specs.large.Fits.{Fits, ReadsHold}
use Rattle.hc_engines.specs.large.Good.{Good}
use Rattle.hc_engines.specs.large.Steady.{PutKeeps, ReclaimKeeps, FlushKeeps, WrittenKeeps, FailedWriteKeeps, TakeKeeps, OthersKeep}
use Rattle.hc_engines.proofs.large.Lists.{in_range}
use Rattle.hc_engines.proofs.large.Jobs.{works_left}
use Rattle.hc_engines.proofs.large.Flushes.{wrote_one, out_unclean, written_ending}
use Rattle.hc_engines.proofs.large.Fitting.{pages_same}
use Rattle.hc_engines.proofs.large.FitsSteps.{failed_fits, after_write, other_page, written_grows, written_fits}
use Rattle.hc_engines.proofs.large.Holding.{held_same}
use Rattle.hc_engines.proofs.large.Goods.{reads_stay}
use Rattle.hc_engines.proofs.large.Elsewhere.{bucket_page, rest_pages}
use Rattle.hc_engines.proofs.large.Stays.{Rest, ended_rest, reclaim_rest, put_rest, flush_rest, reads_added, reads_left, filling_live}
use Rattle.hc_engines.proofs.large.GetStays.{fits_left, take_sound, take_rest}
use Rattle.hc_engines.proofs.large.PutsSound.{put_sound, reclaim_sound}
use Rattle.hc_engines.proofs.large.FlushesSound.{flush_sound, wrote_sound, failed_write_sound}
use Rattle.hc_engines.proofs.large.HeldChanges.{ordered}

pub good_by : (flash : FlashConfig) (pages : Pages) (s : Block) → Sound flash s → Rest flash pages s → Good flash pages s
good_by flash pages s sound rest = record { sound = sound; fits = rest.fits; reads = rest.reads }

pub rest_of : (flash : FlashConfig) (pages : Pages) (s : Block) → Good flash pages s → Rest flash pages s
rest_of flash pages s g = record { fits = g.fits; reads = g.reads }

pub put_keeps : PutKeeps
put_keeps flash pages entry s some large g = good_by flash pages _ (put_sound flash entry s some g.sound) (put_rest flash pages entry s some large g.sound (rest_of flash pages s g))

pub reclaim_keeps : ReclaimKeeps
reclaim_keeps flash pages s g = good_by flash pages _ (reclaim_sound flash s g.sound) (reclaim_rest flash pages s g.sound (rest_of flash pages s g))

pub flush_keeps : FlushKeeps
flush_keeps flash pages number s free g = good_by flash pages _ (flush_sound flash number s free g.sound) (flush_rest flash pages number s g.sound (rest_of flash pages s g))

pub take_keeps : TakeKeeps
take_keeps flash pages hash s g = good_by flash pages _ (take_sound flash hash s g.sound) (take_rest flash pages hash s (rest_of flash pages s g))

-- ---- a page was written

-- its region, whatever it is then
written_rest : (flash : FlashConfig) (pages : Pages) (number r : ℕ) (x : Region) (s new : Block) → Sound flash s → Rest flash pages s → is_live (region_at r s.regions).status ≡ true → is_clean (region_at r s.regions).status ≡ false → (region_at r s.regions).written < flash.region_pages
    → new.regions ≡ set s.regions r x → new.index ≡ s.index → x.written ≡ (region_at r s.regions).written + 1 → x.buffer ≡ drop flash.page (region_at r s.regions).buffer
    → Fits flash (after_write flash pages r s true) new × ReadsHold flash (after_write flash pages r s true) new (without_job number s.jobs)
written_rest flash pages number r x s new sound rest live u lw er ei w b = (
  written_fits flash pages r x s new rest.fits u lw er ei w b,
  reads_stay flash pages (after_write flash pages r s true) r x s new (without_job number s.jobs) (record {
    there = in_range s.regions r u;
    regions = er;
    same = λ q i l. other_page flash pages r q i s true lw (omega (arith, rest.fits.within q)) (λ t e. let eq : q ≡ r = eqb-true q r t in let l2 : i < (region_at r s.regions).written = (rw eq at l) in absurd (omega arith));
    grows = λ n l. (live, written_grows flash pages r x s new rest.fits u lw er w b);
  }) (works_left flash s.regions number s.jobs sound.works) (reads_left flash pages s number s.jobs rest.reads),
)

wrote_rest : (flash : FlashConfig) (pages : Pages) (number r : ℕ) (s : Block) → Sound flash s → Rest flash pages s → is_live (region_at r s.regions).status ≡ true → is_clean (region_at r s.regions).status ≡ false → (region_at r s.regions).written < flash.region_pages
    → Rest flash (after_write flash pages r s true) (wrote_page flash number r (region_at r s.regions).status (end_job number s)).state
wrote_rest flash pages number r s sound rest live u lw = go (region_at r s.regions).status
  where
    early : Rest flash (after_write flash pages r s true) (with_region r (record (page_done flash (region_at r s.regions)) { early = false }) (end_job number s))
    early =
        let both = written_rest flash pages number r (record (page_done flash (region_at r s.regions)) { early = false }) s (with_region r (record (page_done flash (region_at r s.regions)) { early = false }) (end_job number s)) sound rest live u lw refl refl refl refl in
        record { fits = both.0; reads = both.1 }

    split : (t : Bool) → nat_lt ((region_at r s.regions).written + 1) flash.region_pages ≡ t → Rest flash (after_write flash pages r s true) (go_on flash number r (page_done flash (region_at r s.regions)) (end_job number s)).state
    split true t = rw t (
        let both = written_rest flash pages number r (page_done flash (region_at r s.regions)) s (write_out flash number r (page_done flash (region_at r s.regions)) (end_job number s)).state sound rest live u lw refl refl refl refl in
        record { fits = both.0; reads = reads_added flash (after_write flash pages r s true) _ number (Writing r (next_page flash (page_done flash (region_at r s.regions)))) (without_job number s.jobs) tt both.1 })
    split false t = rw t (
        let both = written_rest flash pages number r (record (page_done flash (region_at r s.regions)) { status = OnFlash }) s (record (with_region r (record (page_done flash (region_at r s.regions)) { status = OnFlash }) (end_job number s)) { flushed = s.flushed ++ r ∷ [] }) sound rest live u lw refl refl refl refl in
        record { fits = both.0; reads = both.1 })

    go : (status : Status) → Rest flash (after_write flash pages r s true) (wrote_page flash number r status (end_job number s)).state
    go Clean = early
    go Open = early
    go Sealed = early
    go OnFlash = early
    go Draining = early
    go Flushing = split (nat_lt ((region_at r s.regions).written + 1) flash.region_pages) refl

pub written_keeps : WrittenKeeps
written_keeps flash pages number r bytes s at g =
    let w = wrote_one flash number r bytes s g.sound at in
    let out = out_unclean flash (readers r s.jobs) (writers r s.jobs) (region_at r s.regions) (g.sound.regions r) w.was_out in
    subst (λ (p : Pages). Good flash p (resume flash number (Writing r bytes) Written s).state) (ordered flash pages number r bytes s at g)
    (good_by flash (after_write flash pages r s true) _ (wrote_sound flash number r bytes s g.sound at)
    (wrote_rest flash pages number r s g.sound (rest_of flash pages s g) (filling_live (region_at r s.regions).status out.1) out.0 ((g.sound.regions r).unwritten out.1)))

-- a write failed: its region ends
pub failed_write_keeps : FailedWriteKeeps
failed_write_keeps flash pages number r bytes s at g =
    let ending = written_ending flash number r bytes s g.sound at in
    let fits = fits_left flash (after_write flash pages r s false) number s (failed_fits flash pages r s g.fits ending.1) in
    let reads = reads_stay flash pages (after_write flash pages r s false) r (region_at r s.regions) s (end_job number s) (without_job number s.jobs) (record {
      there = in_range s.regions r ending.0.unclean;
      regions = sym (set-get_or s.regions r clean_region);
      same = λ q i l. other_page flash pages r q i s false ending.1 (omega (arith, g.fits.within q)) (λ t e. let eq : q ≡ r = eqb-true q r t in let l2 : i < (region_at r s.regions).written = (rw eq at l) in absurd (omega arith));
      grows = λ n l. (l, record { more = []; grown = (rw (pages_same flash pages (after_write flash pages r s false) r (region_at r s.regions).written (λ i l2. other_page flash pages r r i s false ending.1 (omega (arith, g.fits.within r)) (λ t e. absurd (omega arith)))) (sym (append-nil (bytes_of flash pages s r)))) });
    }) (works_left flash s.regions number s.jobs g.sound.works) (reads_left flash pages s number s.jobs g.reads) in
    good_by flash (after_write flash pages r s false) _ (failed_write_sound flash number r bytes s g.sound at)
    (ended_rest flash (after_write flash pages r s false) Fault r (end_job number s) ending.0 (record { fits = fits; reads = reads }))

-- ---- what is written elsewhere

pub others_keep : OthersKeep
others_keep flash pages page bytes s below g = (
  good_by flash (with_page pages page bytes) s g.sound (rest_pages flash pages (with_page pages page bytes) s same g.sound.works (rest_of flash pages s g)),
  held_same flash pages (with_page pages page bytes) s s g.fits refl (λ h p e. record { more = []; grown = (rw (pages_same flash pages (with_page pages page bytes) p.region (region_at p.region s.regions).written (λ i l. same p.region i)) (sym (append-nil (bytes_of flash pages s p.region)))) }),
)
  where
    same : (q i : ℕ) → with_page pages page bytes (page_no flash q i) ≡ pages (page_no flash q i)
    same q i = rw (bucket_page flash page q i below) refl
