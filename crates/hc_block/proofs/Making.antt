-- A new engine.
use Rattle.std.proofs.Common.{◌≡◌, ℕ, zero, suc, ◌-◌, ◌*◌, ◌≤◌, Bool, true, false, ◌&&◌, None, refl, arith}
use Rattle.std.proofs.lemmas.List.{length-replicate}
use Rattle.std.proofs.Math.Nat.{mul-le-mul_left}
use Rattle.std.specs.List.{IsDistinct}
use Rattle.std.specs.Prelude.{nat_le, nat_lt, replicate}
use Rattle.hc_types.specs.declared.config.FlashConfig.{FlashConfig}
use Rattle.hc_types.specs.Limits.{flash_wrong, is_within, page_fits, regions_fit, queue_fits}
use Rattle.hc_engines.specs.large.Region.{clean_region, region_at}
use Rattle.hc_engines.specs.large.Laws.{new_block}
use Rattle.hc_engines.proofs.small.Limited.{if-none, page-within, within}
use Rattle.hc_engines.proofs.large.New.{new_good}
use Rattle.hc_block.specs.Large.{Limits, Kept}

-- the first two of what is asked of the regions
regions-within : (flash : FlashConfig) → regions_fit flash ≡ true → (is_within 2 65536 flash.regions ≡ true) × (is_within 1 4096 flash.region_pages ≡ true)
regions-within flash h = go (is_within 2 65536 flash.regions) (is_within 1 4096 flash.region_pages) (nat_le 1 flash.clean) (nat_lt flash.clean flash.regions) h
  where
    go : (a b c d : Bool) → (a && b && c && d) ≡ true → (a ≡ true) × (b ≡ true)
    go true true c d h = (refl, refl)
    go true false true true h = absurd (cc)
    go true false true false h = absurd (cc)
    go true false false true h = absurd (cc)
    go true false false false h = absurd (cc)
    go false b c d h = absurd (cc)

pub limits_from : (flash : FlashConfig) → flash_wrong flash ≡ None → Limits flash
limits_from flash h =
    let a = if-none (page_fits flash) _ _ h in
    let b = if-none (is_within 1 1048576 flash.buckets) _ _ a.1 in
    let c = if-none (regions_fit flash) _ _ b.1 in
    let d = if-none (nat_le flash.small_max (flash.page - 16)) _ _ c.1 in
    let e = if-none (queue_fits flash) _ _ d.1 in
    let f = if-none (is_within 1 64 flash.bits) _ _ e.1 in
    let page = page-within flash.page a.0 in
    let both = regions-within flash c.0 in
    let regions = within 2 65536 flash.regions both.0 in
    let pages = within 1 4096 flash.region_pages both.1 in
    let buckets = within 1 1048576 flash.buckets b.0 in
    let bits = within 1 64 flash.bits f.0 in
    let long : flash.region_pages * flash.page ≤ flash.region_pages * 4096 = mul-le-mul_left flash.region_pages page.1 in
    record { least_page = page.0; most_page = page.1; regions = regions.1; some_page = pages.0; most_pages = pages.1; region_len = omega (arith, long, pages.1); buckets = buckets.1; bits = bits.1 }

all_clean : (n r : ℕ) → region_at r (replicate n clean_region) ≡ clean_region
all_clean zero r = refl
all_clean (suc n) zero = refl
all_clean (suc n) (suc r) = all_clean n r

pub new_kept : (flash : FlashConfig) → flash_wrong flash ≡ None → Kept flash (new_block flash)
unfolding IsDistinct
new_kept flash right = record {
  limits = limits_from flash right;
  count = length-replicate flash.regions clean_region;
  filled = λ r. rw (all_clean flash.regions r) (omega arith);
  sound = (new_good flash (λ page. None)).sound;
  sealed_once = tt;
  flushed_once = tt;
}
