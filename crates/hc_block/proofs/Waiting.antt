-- No region waits twice, whatever becomes of it.
use Rattle.std.proofs.Common.{◌≡◌, ℕ, Bool, true, false, List, Option, Some, None, refl}
use Rattle.std.specs.List.{IsDistinct}
use Rattle.std.specs.Prelude.{if◌then◌else◌, nat_eq}
use Rattle.hc_types.specs.declared.config.FlashConfig.{FlashConfig}
use Rattle.hc_engines.specs.large.Region.{Status, Clean, Open, Sealed, Flushing, OnFlash, Draining, region_at}
use Rattle.hc_engines.specs.large.Block.{Block}
use Rattle.hc_engines.specs.large.Choices.{Mark, Early, Flush, left_sealed}
use Rattle.hc_engines.specs.large.Numbers.{is_in, minus}
use Rattle.hc_engines.specs.large.Sound.{is_stored, is_filling, Sound}
use Rattle.hc_engines.specs.large.Steps.{sealed_too}
use Rattle.hc_region.specs.declared.status.Stage.{Stage}
use Rattle.hc_region.specs.declared.status.Stage.TheVariants as stages
use Rattle.hc_region.proofs.Listed.{minus_distinct, push_distinct}
use Rattle.hc_block.specs.Ends.{flushed_left}
use Rattle.hc_block.specs.Settling.{flushed_at}

-- ---- those that are sealed

-- an open region isn't one of them
open_unlisted : (r : ℕ) (rs : List ℕ) (status : Status) → status ≡ Open → (is_in r rs ≡ true → status ≡ Sealed) → is_in r rs ≡ false
open_unlisted r rs status e h = go (is_in r rs) h
  where
    go : (t : Bool) → (t ≡ true → status ≡ Sealed) → t ≡ false
    go true h = let is_open : status ≡ Open = e in let is_sealed : status ≡ Sealed = h refl in absurd (cc)
    go false h = refl

pub sealed_too_once : (flash : FlashConfig) (s : Block) → Sound flash s → IsDistinct nat_eq s.sealed → IsDistinct nat_eq (sealed_too s.current s.sealed)
sealed_too_once flash s sound d = go s.current refl
  where
    go : (o : Option ℕ) → s.current ≡ o → IsDistinct nat_eq (sealed_too o s.sealed)
    go None e = d
    go (Some c) e = push_distinct c s.sealed d (open_unlisted c s.sealed (region_at c s.regions).status (sound.current c e) (sound.sealed c))

pub left_sealed_once : (mark : Mark) (r : ℕ) (rs : List ℕ) → IsDistinct nat_eq rs → IsDistinct nat_eq (left_sealed mark r rs)
left_sealed_once Early r rs d = d
left_sealed_once Flush r rs d = minus_distinct r rs d

-- ---- those that are on flash

pub left_once : (t : Bool) (r : ℕ) (rs : List ℕ) → IsDistinct nat_eq rs → IsDistinct nat_eq (if t then minus r rs else rs)
left_once true r rs d = minus_distinct r rs d
left_once false r rs d = d

pub flushed_left_once : (cleared : Option ℕ) (r : ℕ) (rs : List ℕ) → IsDistinct nat_eq rs → IsDistinct nat_eq (flushed_left cleared r rs)
flushed_left_once None r rs d = d
flushed_left_once (Some q) r rs d = minus_distinct r rs d

-- a region of which pages aren't written isn't one of them
filling_unlisted : (r : ℕ) (rs : List ℕ) (status : Status) → is_filling status ≡ true → (is_in r rs ≡ true → is_stored status ≡ true) → is_in r rs ≡ false
filling_unlisted r rs status f h = go (is_in r rs) h
  where
    never : (status : Status) → is_filling status ≡ true → is_stored status ≡ true → true ≡ false
    never Clean f e = absurd (cc)
    never Open f e = absurd (cc)
    never Sealed f e = absurd (cc)
    never Flushing f e = absurd (cc)
    never OnFlash f e = absurd (cc)
    never Draining f e = absurd (cc)

    go : (t : Bool) → (t ≡ true → is_stored status ≡ true) → t ≡ false
    go true h = never status f (h refl)
    go false h = refl

pub flushed_at_once : (flash : FlashConfig) (stage : Stage) (r : ℕ) (s : Block) → Sound flash s → is_filling (region_at r s.regions).status ≡ true → IsDistinct nat_eq s.flushed → IsDistinct nat_eq (flushed_at stage r s.flushed)
flushed_at_once flash stages.More r s sound f d = d
flushed_at_once flash stages.Last r s sound f d = push_distinct r s.flushed d (filling_unlisted r s.flushed (region_at r s.regions).status f (sound.flushed r))
flushed_at_once flash stages.Early r s sound f d = d
