-- What is held after a put and a reclaim, and whose orders are out.
use Rattle.std.proofs.Common.{◌≡◌, ℕ, ◌<◌, Bool, true, false, List, [], ◌∷◌, ◌++◌, length, Option, Some, None, refl, sym, append-nil}
use Rattle.std.proofs.lemmas.Bool.{eqb-true}
use Rattle.std.specs.Prelude.{if◌then◌else◌, ◌==◌}
use Rattle.hc_types.specs.declared.config.FlashConfig.{FlashConfig}
use Rattle.hc_types.specs.Loss.{Cause}
use Rattle.hc_engines.specs.large.Region.{Sealed, is_clean, opened_region, region_at}
use Rattle.hc_engines.specs.large.Index.{Place, place_at}
use Rattle.hc_engines.specs.large.Block.{Block}
use Rattle.hc_engines.specs.large.Steps.{lost, seal, open_next}
use Rattle.hc_engines.specs.large.Numbers.{is_in}
use Rattle.hc_engines.specs.large.Held.{bytes_of}
use Rattle.hc_engines.specs.large.Sound.{Sound}
use Rattle.hc_engines.specs.large.Laws.{loses}
use Rattle.hc_engines.proofs.large.Lists.{in_range, region_at-set}
use Rattle.hc_engines.proofs.large.Fitting.{Grows}
use Rattle.hc_engines.proofs.large.Flushes.{not_both}
use Rattle.hc_engines.proofs.large.GetStays.{indexed_live}
use Rattle.hc_engines.proofs.large.Flushes.{live_unclean}

-- ---- put

-- the region in use is sealed and another is opened: no bytes to which the index leads change
pub opened_grows : (flash : FlashConfig) (pages : ℕ → Option (List ℕ)) (r : ℕ) (s : Block) → Sound flash s → r < length (seal s.current s.regions) → is_clean (region_at r s.regions).status ≡ true
    → (h : ℕ) (p : Place) → place_at h s.index ≡ Some p → Grows flash pages pages s (open_next r s) p.region
opened_grows flash pages r s sound there clean h p e = record { more = []; grown = go (p.region == r) refl }
  where
    sealed : (o : Option ℕ) → s.current ≡ o → ((region_at p.region (seal o s.regions)).written ≡ (region_at p.region s.regions).written) × ((region_at p.region (seal o s.regions)).buffer ≡ (region_at p.region s.regions).buffer)
    sealed None c = (refl, refl)
    sealed (Some c) k = rw (region_at-set s.regions c p.region (record (region_at c s.regions) { status = Sealed }) (in_range s.regions c (rw (sound.current c k) refl))) (at (p.region == c) refl)
      where
        at : (t : Bool) → (p.region == c) ≡ t → ((if t then record (region_at c s.regions) { status = Sealed } else region_at p.region s.regions).written ≡ (region_at p.region s.regions).written) × ((if t then record (region_at c s.regions) { status = Sealed } else region_at p.region s.regions).buffer ≡ (region_at p.region s.regions).buffer)
        at true t = let same : p.region ≡ c = eqb-true p.region c t in rw same (refl, refl)
        at false t = (refl, refl)

    go : (t : Bool) → (p.region == r) ≡ t → bytes_of flash pages (open_next r s) p.region ≡ bytes_of flash pages s p.region ++ []
    go true t =
        let same : p.region ≡ r = eqb-true p.region r t in
        let live = indexed_live flash s h p sound e in
        absurd (not_both (is_clean (region_at r s.regions).status) clean (rw same at (live_unclean (region_at p.region s.regions).status live)))
    go false t =
        let both = sealed s.current refl in
        rw (region_at-set (seal s.current s.regions) r p.region opened_region there, t, both.0, both.1) (sym (append-nil (bytes_of flash pages s p.region)))

-- ---- reclaim

pub loses-lost : (h : ℕ) (cause : Cause) (hashes : List ℕ) → loses h (lost cause hashes) ≡ is_in h hashes
loses-lost h cause [] = refl
loses-lost h cause (x ∷ xs) = rw (loses-lost h cause xs) refl
