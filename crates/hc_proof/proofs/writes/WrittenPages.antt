-- A page of a region was written: what stands on the pages then.
use Rattle.std.proofs.Common.{◌≡◌, ℕ, ◌+◌, ◌<◌, ◌≤◌, true, false, List, length, drop, set, Option, arith}
use Rattle.std.proofs.lemmas.Bool.{eqb-true}
use Rattle.std.proofs.lemmas.List.{length-drop}
use Rattle.hc_types.specs.declared.config.FlashConfig.{FlashConfig}
use Rattle.hc_engines.specs.large.Region.{OnFlash, is_clean, Region, filled_to, page_done, region_at, page_no}
use Rattle.hc_engines.specs.large.Block.{Block, without_job}
use Rattle.hc_engines.specs.large.Held.{held}
use Rattle.hc_engines.specs.large.Sound.{is_live, Sound}
use Rattle.hc_engines.specs.large.Fits.{Fits, ReadsHold}
use Rattle.hc_engines.proofs.large.Lists.{in_range}
use Rattle.hc_engines.proofs.large.Jobs.{works_left}
use Rattle.hc_engines.proofs.large.FitsSteps.{after_write, other_page, written_grows, written_fits}
use Rattle.hc_engines.proofs.large.Goods.{reads_stay}
use Rattle.hc_engines.proofs.large.Stays.{Rest, reads_left}
use Rattle.hc_engines.proofs.large.Holding.{held_same}
use Rattle.hc_engines.proofs.large.Writes.{one_grows}
use Rattle.hc_engines.proofs.large.Flushes.{step_mul}

-- a full page that was written leaves the region as full as it was
pub full_same : (flash : FlashConfig) (region : Region) → flash.page ≤ length region.buffer → filled_to flash (page_done flash region) ≡ filled_to flash region
full_same flash region h = omega (arith, length-drop flash.page region.buffer, h, step_mul region.written flash.page)

-- the region after the last page, and after an early one
abbrev pub done_region : FlashConfig → Region → Region
done_region flash region = record (page_done flash region) { status = OnFlash }

abbrev pub eased_region : FlashConfig → Region → Region
eased_region flash region = record (page_done flash region) { early = false }

-- the region whose page was written, whatever it is then
pub written_rest : (flash : FlashConfig) (pages : ℕ → Option (List ℕ)) (number r : ℕ) (x : Region) (s new : Block) → Sound flash s → Rest flash pages s → is_live (region_at r s.regions).status ≡ true → is_clean (region_at r s.regions).status ≡ false → (region_at r s.regions).written < flash.region_pages
    → new.regions ≡ set s.regions r x → new.index ≡ s.index → x.written ≡ (region_at r s.regions).written + 1 → x.buffer ≡ drop flash.page (region_at r s.regions).buffer
    → Fits flash (after_write flash pages r s true) new × ReadsHold flash (after_write flash pages r s true) new (without_job number s.jobs)
written_rest flash pages number r x s new sound rest live u lw er ei w b = (
  written_fits flash pages r x s new rest.fits u lw er ei w b,
  reads_stay flash pages (after_write flash pages r s true) r x s new (without_job number s.jobs) (record {
    there = in_range s.regions r u;
    regions = er;
    same = λ q i l. other_page flash pages r q i s true lw (omega (arith, rest.fits.within q)) (λ t e. let eq : q ≡ r = eqb-true q r t in let l2 : i < (region_at r s.regions).written = (rw eq at l) in absurd (omega arith));
    grows = λ n l. (live, written_grows flash pages r x s new rest.fits u lw er w b);
  }) (works_left flash s.regions number s.jobs sound.works) (reads_left flash pages s number s.jobs rest.reads),
)

pub written_holds : (flash : FlashConfig) (pages : ℕ → Option (List ℕ)) (r : ℕ) (x : Region) (s new : Block) → Fits flash pages s → is_clean (region_at r s.regions).status ≡ false → (region_at r s.regions).written < flash.region_pages
    → new.regions ≡ set s.regions r x → new.index ≡ s.index → x.written ≡ (region_at r s.regions).written + 1 → x.buffer ≡ drop flash.page (region_at r s.regions).buffer → (key : List ℕ) → held flash (after_write flash pages r s true) new key ≡ held flash pages s key
written_holds flash pages r x s new fits u lw er ei w b =
    held_same flash pages (after_write flash pages r s true) s new fits ei
    (λ h p e. one_grows flash pages (after_write flash pages r s true) r x s new (in_range s.regions r u) er (written_grows flash pages r x s new fits u lw er w b) (λ q i n l. same q i l) p.region)
  where
    same : (q i : ℕ) → i < (region_at q s.regions).written → after_write flash pages r s true (page_no flash q i) ≡ pages (page_no flash q i)
    same q i l = other_page flash pages r q i s true lw (omega (arith, fits.within q)) (λ t e. let eq : q ≡ r = eqb-true q r t in let l2 : i < (region_at r s.regions).written = (rw eq at l) in absurd (omega arith))
