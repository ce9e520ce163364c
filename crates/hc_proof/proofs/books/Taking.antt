-- An index entry is taken.
use Rattle.std.proofs.Common.{◌≡◌, ℕ, true, false, List, ◌∷◌, Option, Some, None, refl, inr}
use Rattle.std.specs.Prelude.{is_some}
use Rattle.hc_types.specs.Places.{kept_of}
use Rattle.hc_types.specs.declared.config.FlashConfig.{FlashConfig}
use Rattle.hc_engines.specs.large.Index.{Place, place_at, without}
use Rattle.hc_engines.specs.large.Block.{Block}
use Rattle.hc_engines.specs.large.Steps.{take_index}
use Rattle.hc_engines.proofs.large.Puts.{same_bytes}
use Rattle.hc_engines.proofs.large.Holding.{held_taken}
use Rattle.hc_engines.proofs.large.Stays.{Rest}
use Rattle.hc_history.specs.Note.{Note}
use Rattle.hc_history.specs.Pages.{bytes_at}
use Rattle.hc_history.specs.Regions.{filed, put_under_way, is_put_of, is_filed}
use Rattle.hc_proof.specs.books.RegionBooks.{taken_note, TakeTells}
use Rattle.hc_proof.proofs.books.Filings.{FiledAs, as-without, as-filed}
use Rattle.hc_engines.proofs.large.GetStays.{take_rest}
use Rattle.hc_engines.proofs.large.GetStays.{take_sound}

-- ---- the books

put_apart : (flash : FlashConfig) (older : List Note) (key : List ℕ) (s : Block) → is_put_of key (put_under_way flash older) ≡ false → FiledAs (filed flash older) s.index → FiledAs (filed flash (taken_note flash key ∷ older)) (without (kept_of flash.bits key) s.index)
put_apart flash older key s no_put a h r = rw no_put (as-without (kept_of flash.bits key) (filed flash older) s.index a h r)

pub take_tells : TakeTells
take_tells config flash older rest key s here g some changed no_put = record {
  allowed = rw here (refl, same_bytes key, inr (changed, is_there (place_at (kept_of flash.bits key) s.index) refl some));
  fit = record {
    sound = take_sound flash (kept_of flash.bits key) s g.sound;
    fits = left.fits;
    reads = left.reads;
    regions = record {
      number = g.regions.number;
      used = g.regions.used;
      used_number = g.regions.used_number;
      in_order = g.regions.in_order;
      filings = put_apart flash older key s no_put g.regions.filings;
      current = g.regions.current;
      filled = g.regions.filled;
    };
  };
  held = held_taken flash (bytes_at older) s (kept_of flash.bits key);
}
  where
    left : Rest flash (bytes_at older) (take_index (kept_of flash.bits key) s)
    left = take_rest flash (bytes_at older) (kept_of flash.bits key) s (record { fits = g.fits; reads = g.reads })

    is_there : (o : Option Place) → place_at (kept_of flash.bits key) s.index ≡ o → is_some o ≡ true → is_filed (kept_of flash.bits key) (filed flash older) ≡ true
    is_there None e i = absurd (cc)
    is_there (Some place) e i = as-filed (kept_of flash.bits key) place (filed flash older) s.index g.regions.filings e
