-- The engine is sound after a put, and after a reclaim.
use Rattle.std.proofs.Common.{◌≡◌, ℕ, ◌+◌, ◌<◌, Bool, true, false, length, Option, Some, None, refl, arith, ◌∙◌}
use Rattle.std.specs.Prelude.{if◌then◌else◌, nat_lt, nat_le}
use Rattle.hc_types.specs.declared.config.FlashConfig.{FlashConfig}
use Rattle.hc_types.specs.Loss.{Reclaimed}
use Rattle.hc_types.specs.FlashEntry.{FlashEntry}
use Rattle.hc_engines.specs.large.Entries.{entry_bytes}
use Rattle.hc_engines.specs.large.Region.{Open, is_clean, opened_region, region_len, filled_to, region_at, lowest_clean}
use Rattle.hc_engines.specs.large.Block.{Block, unmoved}
use Rattle.hc_engines.specs.large.Steps.{fitting, seal, open_next, put_fresh, put_into, put, clean_count, oldest, reclaim_of, reclaim}
use Rattle.hc_engines.specs.large.Sound.{Sound}
use Rattle.hc_engines.proofs.large.Lists.{same_num, region_at-set}
use Rattle.hc_engines.proofs.large.Regions.{IsLowest, lowest_is, oldest_is}
use Rattle.hc_engines.proofs.large.Ends.{ended_sound}
use Rattle.hc_engines.proofs.large.Reclaims.{oldest_ending}
use Rattle.hc_engines.proofs.large.Puts.{append_sound, seal_step, seal_sound, open_sound, seal-length, sealed_clean}

-- the region in use, where so many bytes fit it
pub in_use : (flash : FlashConfig) (s : Block) (len r : ℕ) (o : Option ℕ) → fitting flash s len o ≡ Some r → o ≡ Some r
in_use flash s len r None e = absurd (cc)
in_use flash s len r (Some c) e = pick (nat_le (filled_to flash (region_at c s.regions) + len) (region_len flash)) e
  where
    pick : (b : Bool) → (if b then Some c else None) ≡ Some r → Some c ≡ Some r
    pick true e = e
    pick false e = absurd (cc)

-- the region that is opened
pub record Opens (s : Block) (r : ℕ) : Type 0 where
  pub low : IsLowest s.regions r
  pub there : r < length (seal s.current s.regions)
  pub clean : is_clean (region_at r (seal s.current s.regions)).status ≡ true
  pub is_open : (region_at r (open_next r s).regions).status ≡ Open

pub opens : (flash : FlashConfig) (s : Block) (r : ℕ) → Sound flash s → lowest_clean 0 s.regions ≡ Some r → Opens s r
opens flash s r sound e =
    let low = lowest_is s.regions 0 r e in
    let same : low.0 ≡ r = omega (arith, low.1) in
    let l : IsLowest s.regions r = (rw same at low.2) in
    let there : r < length (seal s.current s.regions) = omega (arith, seal-length s.current s.regions, l.there) in
    record {
      low = l;
      there = there;
      clean = sealed_clean s r sound.current ∙ l.clean;
      is_open = (rw (region_at-set (seal s.current s.regions) r r opened_region there, same_num r) refl);
    }

pub put_sound : (flash : FlashConfig) (entry : FlashEntry) (s : Block) → 0 < flash.region_pages → Sound flash s → Sound flash (put flash entry s).state
put_sound flash entry s some sound = go (fitting flash s (length (entry_bytes entry)) s.current) refl
  where
    fresh : (o : Option ℕ) → lowest_clean 0 s.regions ≡ o → Sound flash (put_fresh flash entry s o).state
    fresh None e = sound
    fresh (Some r) e = let o = opens flash s r sound e in append_sound flash r entry (open_next r s) o.is_open (open_sound flash r (seal_step s) some o.there o.clean (seal_sound flash s sound))

    go : (o : Option ℕ) → fitting flash s (length (entry_bytes entry)) s.current ≡ o → Sound flash (put_into flash entry s o).state
    go None e = fresh (lowest_clean 0 s.regions) refl
    go (Some r) e = append_sound flash r entry s (sound.current r (in_use flash s (length (entry_bytes entry)) r s.current e)) sound

pub reclaim_sound : (flash : FlashConfig) (s : Block) → Sound flash s → Sound flash (reclaim flash s).state
reclaim_sound flash s sound = go (nat_lt (clean_count s.regions) flash.clean)
  where
    of : (o : Option ℕ) → oldest s.regions s.flushed ≡ o → Sound flash (reclaim_of s o).state
    of None e = sound
    of (Some r) e = ended_sound flash (Reclaimed r) r s (oldest_ending flash s r sound (oldest_is s.regions s.flushed r e)).0

    go : (t : Bool) → Sound flash (if t then reclaim_of s (oldest s.regions s.flushed) else unmoved s).state
    go true = of (oldest s.regions s.flushed) refl
    go false = sound
