-- What is held while regions go out.
use Rattle.std.proofs.Common.{◌≡◌, ℕ, ◌<◌, Bool, true, false, List, [], length, set, Option, refl, sym, subst, append-nil}
use Rattle.std.proofs.lemmas.Bool.{eqb-true}
use Rattle.std.specs.Prelude.{◌==◌}
use Rattle.hc_types.specs.declared.config.FlashConfig.{FlashConfig}
use Rattle.hc_engines.specs.large.Region.{Region, region_at, page_no}
use Rattle.hc_engines.specs.large.Block.{Block}
use Rattle.hc_engines.specs.large.Steps.{write_out}
use Rattle.hc_engines.specs.large.Held.{bytes_of, held}
use Rattle.hc_engines.specs.large.Fits.{Fits}
use Rattle.hc_engines.proofs.large.Lists.{same_num, region_at-set}
use Rattle.hc_engines.proofs.large.Fitting.{Grows, pages_same}
use Rattle.hc_engines.proofs.large.Holding.{held_same}

-- one region changed, and its bytes grow
pub one_grows : (flash : FlashConfig) (pages new_pages : ℕ → Option (List ℕ)) (r : ℕ) (x : Region) (s new : Block) → r < length s.regions → new.regions ≡ set s.regions r x → Grows flash pages new_pages s new r
    → ((q i : ℕ) → (q == r) ≡ false → i < (region_at q s.regions).written → new_pages (page_no flash q i) ≡ pages (page_no flash q i)) → (q : ℕ) → Grows flash pages new_pages s new q
one_grows flash pages new_pages r x s new lt er own same q = go (q == r) refl
  where
    go : (t : Bool) → (q == r) ≡ t → Grows flash pages new_pages s new q
    go true t = let e : q ≡ r = eqb-true q r t in subst (λ (z : ℕ). Grows flash pages new_pages s new z) (sym e) own
    go false t = record {
      more = [];
      grown = (rw (er, region_at-set s.regions r q x lt, t, pages_same flash pages new_pages q (region_at q s.regions).written (λ i l. same q i t l)) (sym (append-nil (bytes_of flash pages s q))));
    }

-- ---- a page goes out

pub out_same : (flash : FlashConfig) (pages : ℕ → Option (List ℕ)) (number r : ℕ) (x : Region) (rs : List ℕ) (s : Block) (key : List ℕ) → Fits flash pages s → r < length s.regions → x.written ≡ (region_at r s.regions).written → x.buffer ≡ (region_at r s.regions).buffer
    → held flash pages (write_out flash number r x (record s { sealed = rs })).state key ≡ held flash pages s key
out_same flash pages number r x rs s key fits lt w b =
    held_same flash pages pages s new fits refl (λ h p e. one_grows flash pages pages r x s new lt refl (record { more = []; grown = (rw (region_at-set s.regions r r x lt, same_num r, w, b) (sym (append-nil (bytes_of flash pages s r)))) }) (λ q i n l. refl) p.region) key
  where
    new : Block
    new = (write_out flash number r x (record s { sealed = rs })).state
