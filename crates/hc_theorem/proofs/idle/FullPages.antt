-- Where no page of the open region can go, the notes tell of no full page.
use Rattle.std.proofs.Common.{◌≡◌, ℕ, ◌+◌, ◌*◌, ◌&&◌, ◌||◌, Bool, true, false, List, length, refl, arith}
use Rattle.std.proofs.lemmas.Bool.{leb-false, le-leb, ltb-false, lt-ltb, or_left, or_right}
use Rattle.std.specs.Prelude.{nat_lt, nat_le}
use Rattle.hc_types.specs.declared.config.FlashConfig.{FlashConfig}
use Rattle.hc_history.specs.Note.{Note}
use Rattle.hc_history.specs.Regions.{filling}
use Rattle.hc_engines.specs.large.Region.{Region, filled_to, can_go}
use Rattle.hc_engines.proofs.large.Flushes.{step_mul}
use Rattle.hc_follows.specs.Idle.{pages_written, has_no_full_page}

-- no page of the region is out, and the notes tell how far it is written and filled
pub no_full_page : (flash : FlashConfig) (older : List Note) (r : ℕ) (region : Region) → can_go flash region ≡ false → region.early ≡ false → pages_written flash r older ≡ region.written → filling flash older ≡ filled_to flash region
    → has_no_full_page flash older r ≡ true
no_full_page flash older r region stays still written filled = rw (written, filled) (go (nat_le flash.page (length region.buffer)) refl (nat_lt (region.written + 1) flash.region_pages) refl (rw still at stays))
  where
    go : (a : Bool) → nat_le flash.page (length region.buffer) ≡ a → (b : Bool) → nat_lt (region.written + 1) flash.region_pages ≡ b → (a && b) ≡ false
        → (nat_lt (filled_to flash region) ((region.written + 1) * flash.page) || nat_le flash.region_pages (region.written + 1)) ≡ true
    go false e b f h = or_left _ _ (lt-ltb (filled_to flash region) ((region.written + 1) * flash.page) (omega (arith, leb-false flash.page (length region.buffer) e, step_mul region.written flash.page)))
    go true e false f h = or_right _ _ (le-leb flash.region_pages (region.written + 1) (ltb-false (region.written + 1) flash.region_pages f))
    go true e true f h = absurd (cc)
