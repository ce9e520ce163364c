-- Reclaim: its notes are lawful, and the books stay the engine's.
use Rattle.std.proofs.Common.{◌≡◌, ℕ, Bool, true, false, List, Option, Some, None, refl, ◌∙◌}
use Rattle.std.proofs.lemmas.Bool.{eqb-true}
use Rattle.std.specs.Prelude.{if◌then◌else◌, ◌==◌}
use Rattle.hc_types.specs.declared.config.FlashConfig.{FlashConfig}
use Rattle.hc_engines.specs.large.Region.{Status, Clean, Open, Sealed, Flushing, OnFlash, Draining, is_draining, Region, region_at}
use Rattle.hc_engines.specs.large.Block.{Block}
use Rattle.hc_engines.specs.large.Steps.{not_current}
use Rattle.hc_engines.specs.large.Sound.{is_stored, is_out, is_waiting, writers, readers, Holds, Sound}
use Rattle.hc_engines.proofs.large.Regions.{IsOldest}
use Rattle.hc_engines.proofs.large.Ends.{Ending}

-- ---- a region on flash

stored_live : (status : Status) → is_stored status ≡ true → is_draining status ≡ false → status ≡ OnFlash
stored_live Clean s d = absurd (cc)
stored_live Open s d = absurd (cc)
stored_live Sealed s d = absurd (cc)
stored_live Flushing s d = absurd (cc)
stored_live OnFlash s d = refl
stored_live Draining s d = absurd (cc)

pub not_out : (flash : FlashConfig) (rs ws : ℕ) (region : Region) → Holds flash rs ws region → region.status ≡ OnFlash → ws ≡ 0
not_out flash rs ws region h on = h.out ∙ go region.early refl
  where
    go : (t : Bool) → region.early ≡ t → ◌≡◌ {A = ℕ} (if is_out region then 1 else 0) 0
    go true t = let w : is_waiting region.status ≡ true = (h.early t).waiting in absurd (let w2 : is_waiting OnFlash ≡ true = (rw on at w) in cc)
    go false t = rw (on, t) refl

pub not_current_one : (regions : List Region) (r : ℕ) (c : Option ℕ) → ((q : ℕ) → c ≡ Some q → (region_at q regions).status ≡ Open) → (region_at r regions).status ≡ OnFlash → not_current r c ≡ c
not_current_one regions r None h on = refl
not_current_one regions r (Some x) h on = go (x == r) refl
  where
    go : (t : Bool) → (x == r) ≡ t → (if t then None else Some x) ≡ Some x
    go true t = let same : x ≡ r = eqb-true x r t in let o : (region_at r regions).status ≡ Open = (rw (← same) (h x refl)) in absurd (cc)
    go false t = refl

-- the region flushed first can end
pub oldest_ending : (flash : FlashConfig) (s : Block) (r : ℕ) → Sound flash s → IsOldest s.regions s.flushed r → Ending flash r s × ((region_at r s.regions).status ≡ OnFlash)
oldest_ending flash s r sound old = (
  record {
    unclean = rw on refl;
    idle = not_out flash (readers r s.jobs) (writers r s.jobs) (region_at r s.regions) (sound.regions r) on;
    pinned = (sound.regions r).pinned;
    current = sound.current;
    sealed = sound.sealed;
    flushed = sound.flushed;
    listed = sound.listed;
    others = λ q n. sound.regions q;
    works = sound.works;
    single = sound.single;
  },
  on,
)
  where
    on : (region_at r s.regions).status ≡ OnFlash
    on = stored_live (region_at r s.regions).status (sound.flushed r old.there) old.undrained
