-- The numbers of a flash that isn't refused are within the limits of the small engine.
use Rattle.std.proofs.Common.{◌≡◌, ℕ, ◌-◌, ◌≤◌, ◌==◌, Bool, true, false, not, ◌||◌, Option, Some, None, refl, arith}
use Rattle.std.specs.Prelude.{nat_le, if◌then◌else◌}
use Rattle.hc_types.specs.declared.config.FlashConfig.{FlashConfig}
use Rattle.hc_types.specs.declared.refusal.Refusal.{Refusal}
use Rattle.hc_types.specs.Limits.{flash_wrong, is_within, page_fits, regions_fit, queue_fits}
use Rattle.hc_engines.specs.small.Sound.{Limits}

pub if-none : (t : Bool) (x : Refusal) (o : Option Refusal) → (if not t then Some x else o) ≡ None → (t ≡ true) × (o ≡ None)
if-none true x o h = (refl, h)
if-none false x o h = absurd (cc)

pub page-within : (n : ℕ) → ((n == 512) || (n == 1024) || (n == 2048) || (n == 4096)) ≡ true → (512 ≤ n) × (n ≤ 4096)
page-within n h = (grind (arith, h), grind (arith, h))

pub within : (least most n : ℕ) → is_within least most n ≡ true → (least ≤ n) × (n ≤ most)
within least most n h = (grind (arith, h), grind (arith, h))

pub limits_from : (flash : FlashConfig) → flash_wrong flash ≡ None → Limits flash
limits_from flash h =
    let a = if-none (page_fits flash) _ _ h in
    let b = if-none (is_within 1 1048576 flash.buckets) _ _ a.1 in
    let c = if-none (regions_fit flash) _ _ b.1 in
    let d = if-none (nat_le flash.small_max (flash.page - 16)) _ _ c.1 in
    let e = if-none (queue_fits flash) _ _ d.1 in
    let f = if-none (is_within 1 64 flash.bits) _ _ e.1 in
    let page = page-within flash.page a.0 in
    let buckets = within 1 1048576 flash.buckets b.0 in
    let bits = within 1 64 flash.bits f.0 in
    record { some_bucket = buckets.0; most_buckets = buckets.1; least_page = page.0; most_page = page.1; small = grind (arith, d.0); bits = bits.1 }
