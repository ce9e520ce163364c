-- A region's page is no bucket's: what is written on the one leaves the other engine as it was.
use Rattle.std.proofs.Common.{◌≡◌, ℕ, ◌<◌, ◌≤◌, Bool, true, false, List, ◌∷◌, refl, arith}
use Rattle.std.proofs.lemmas.Bool.{eqb-true}
use Rattle.std.specs.Prelude.{◌==◌}
use Rattle.hc_types.specs.declared.config.FlashConfig.{FlashConfig}
use Rattle.hc_engines.specs.small.BigHash.{BigHash}
use Rattle.hc_engines.specs.small.Held as small
use Rattle.hc_engines.specs.small.Held.{StateFits}
use Rattle.hc_engines.proofs.small.Apart.{kept_by_others}
use Rattle.hc_history.specs.Note.{Note, Wrote}
use Rattle.hc_history.specs.Pages.{bytes_at, bucket_entries}

differ : (a b : ℕ) → b < a → (a == b) ≡ false
differ a b lt = go (a == b) refl
  where
    go : (t : Bool) → (a == b) ≡ t → (a == b) ≡ false
    go true t = let same : a ≡ b = eqb-true a b t in absurd (omega arith)
    go false t = t

pub differ_up : (a b : ℕ) → a < b → (a == b) ≡ false
differ_up a b lt = go (a == b) refl
  where
    go : (t : Bool) → (a == b) ≡ t → (a == b) ≡ false
    go true t = let same : a ≡ b = eqb-true a b t in absurd (omega arith)
    go false t = t

-- ---- a region's page is written: the small engine

pub region_page : (older : List Note) (buckets page : ℕ) (bytes : List ℕ) (done : Bool) → buckets ≤ page → (other : ℕ) → other < buckets → bytes_at (Wrote page bytes done ∷ older) other ≡ bytes_at older other
region_page older buckets page bytes done le other lt = rw (differ page other (omega arith)) refl

pub record SmallApart (s : BigHash) (older newer : List Note) : Type 0 where
  pub fits : StateFits s (bytes_at newer)
  pub held : (key : List ℕ) → small.held s (bytes_at newer) key ≡ small.held s (bytes_at older) key

pub small_apart : (s : BigHash) (older : List Note) (page : ℕ) (bytes : List ℕ) (done : Bool) → s.flash.buckets ≤ page → StateFits s (bytes_at older) → SmallApart s older (Wrote page bytes done ∷ older)
small_apart s older page bytes done le fits =
    let both = kept_by_others s (bytes_at older) (bytes_at (Wrote page bytes done ∷ older)) (region_page older s.flash.buckets page bytes done le) fits in
    record { fits = both.0; held = both.1 }

-- the books' bucket and the engine's stay as they were
pub buckets_apart : (flash : FlashConfig) (s : BigHash) (older : List Note) (page : ℕ) (bytes : List ℕ) (done : Bool) (bucket : ℕ) → flash.buckets ≤ page → bucket < flash.buckets
    → bucket_entries flash older bucket ≡ small.bucket_entries s (bytes_at older) bucket → bucket_entries flash (Wrote page bytes done ∷ older) bucket ≡ small.bucket_entries s (bytes_at (Wrote page bytes done ∷ older)) bucket
buckets_apart flash s older page bytes done bucket le lt e = rw (differ page bucket (omega arith)) e
