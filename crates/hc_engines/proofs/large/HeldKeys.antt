-- What the engine holds under a key has that key.
use Rattle.std.proofs.Common.{◌≡◌, ℕ, Bool, true, false, List, Option, Some, None, refl, sym, ap, ◌∙◌}
use Rattle.std.specs.Prelude.{if◌then◌else◌}
use Rattle.std.specs.Str.{bytes_eq}
use Rattle.hc_types.specs.declared.config.FlashConfig.{FlashConfig}
use Rattle.hc_types.specs.Places.{kept_of}
use Rattle.hc_types.specs.FlashEntry.{FlashEntry}
use Rattle.hc_engines.specs.Engine.{Pages}
use Rattle.hc_engines.proofs.Keys.{same-true}
use Rattle.hc_engines.specs.large.Index.{Place, place_at}
use Rattle.hc_engines.specs.large.Block.{Block}
use Rattle.hc_engines.specs.large.Held.{if_own, read_at, held}

own_step : (key : List ℕ) (entry : Option FlashEntry) (e : FlashEntry) → if_own key entry ≡ Some e → e.key ≡ key
own_step key None e h = absurd cc
own_step key (Some x) e h = go (bytes_eq x.key key) refl h
  where
    go : (t : Bool) → bytes_eq x.key key ≡ t → (if t then Some x else None) ≡ Some e → e.key ≡ key
    go true t h = let same : x ≡ e = cc in ap (λ (y : FlashEntry). y.key) (sym same) ∙ same-true x.key key t
    go false t h = absurd cc

pub held_own : (flash : FlashConfig) (pages : Pages) (s : Block) (key : List ℕ) (e : FlashEntry) → held flash pages s key ≡ Some e → e.key ≡ key
held_own flash pages s key e h = by (place_at (kept_of flash.bits key) s.index) h
  where
    by : (o : Option Place) → read_at flash pages s key o ≡ Some e → e.key ≡ key
    by None h = absurd cc
    by (Some place) h = own_step key _ e h
