-- What goes behind bytes in parts goes behind them as a whole.
use Rattle.std.proofs.Common.{◌≡◌, ℕ, Bool, true, false, List, [], ◌∷◌, ◌++◌, length, refl, ap, append_assoc, ◌∙◌}
use Rattle.std.specs.Prelude.{flat_map, Result, Ok, Err, if◌then◌else◌}
use Rattle.std.specs.Result.{is_ok, OnOk}
use Rattle.std.specs.Int.{w32, w64, to_be_bytes, from_bool}
use Rattle.hc_engines.specs.large.Region.{Appended, Region}
use Rattle.hc_region.specs.declared.resting.AtRest.{AtRest}
use Rattle.hc_image_text.specs.Items.{clean_byte}
use Rattle.hc_image_text.specs.Regions.{rest_byte, appended_bytes, region_bytes}

-- what is said of both outcomes holds of the good one
pub on_ok_of : {T E : Type 0} (r : Result T E) (new a b : List ℕ) → new ≡ (if is_ok r then a else b) → OnOk r (new ≡ a)
on_ok_of (Ok x) new a b h = h
on_ok_of (Err e) new a b h = tt

pub two : (old a b : List ℕ) (o1 o2 : List ℕ) → o1 ≡ old ++ a → o2 ≡ o1 ++ b → o2 ≡ old ++ (a ++ b)
two old a b o1 o2 x y = y ∙ ap (λ o. o ++ b) x ∙ append_assoc old a b

pub four : (old a b c d : List ℕ) (o1 o2 o3 o4 : List ℕ) → o1 ≡ old ++ a → o2 ≡ o1 ++ b → o3 ≡ o2 ++ c → o4 ≡ o3 ++ d → o4 ≡ old ++ (a ++ (b ++ (c ++ d)))
four old a b c d o1 o2 o3 o4 x1 x2 x3 x4 = two old a (b ++ (c ++ d)) o1 o4 x1 (two o1 b (c ++ d) o2 o4 x2 (two o2 c d o3 o4 x3 x4))

pub three : (old a b c : List ℕ) (o1 o2 o3 : List ℕ) → o1 ≡ old ++ a → o2 ≡ o1 ++ b → o3 ≡ o2 ++ c → o3 ≡ old ++ (a ++ (b ++ c))
three old a b c o1 o2 o3 x1 x2 x3 = two old a (b ++ c) o1 o3 x1 (two o1 b c o2 o3 x2 x3)

pub five : (old a b c d e : List ℕ) (o1 o2 o3 o4 o5 : List ℕ) → o1 ≡ old ++ a → o2 ≡ o1 ++ b → o3 ≡ o2 ++ c → o4 ≡ o3 ++ d → o5 ≡ o4 ++ e → o5 ≡ old ++ (a ++ (b ++ (c ++ (d ++ e))))
five old a b c d e o1 o2 o3 o4 o5 x1 x2 x3 x4 x5 = two old a (b ++ (c ++ (d ++ e))) o1 o5 x1 (four o1 b c d e o2 o3 o4 o5 x2 x3 x4 x5)

-- a part, one byte, and a part
pub marked : (old a : List ℕ) (b : ℕ) (c : List ℕ) (o1 o2 o3 : List ℕ) → o1 ≡ old ++ a → o2 ≡ o1 ++ b ∷ [] → o3 ≡ o2 ++ c → o3 ≡ old ++ (a ++ b ∷ c)
marked old a b c o1 o2 o3 x1 x2 x3 = two old a (b ∷ c) o1 o3 x1 (two o1 (b ∷ []) c o2 o3 x2 x3)

pub mark_is : (clean : Bool) → from_bool clean ≡ clean_byte clean
mark_is true = refl
mark_is false = refl

-- the parts of a region, as its questions answer them
pub region_parts : (old : List ℕ) (rest : AtRest) (region : Region) (b written : ℕ) (counted appended : List Appended) (buffer : List ℕ) (o1 o2 o3 o4 o5 : List ℕ)
    → b ≡ rest_byte rest → written ≡ region.written → counted ≡ region.appended → appended ≡ region.appended → buffer ≡ region.buffer
    → o1 ≡ old ++ b ∷ [] → o2 ≡ o1 ++ to_be_bytes w64 written → o3 ≡ o2 ++ to_be_bytes w32 (length counted) → o4 ≡ o3 ++ flat_map appended_bytes appended → o5 ≡ o4 ++ buffer
    → o5 ≡ old ++ region_bytes rest region
region_parts old rest region b written counted appended buffer o1 o2 o3 o4 o5 rb rw1 rc ra rf x1 x2 x3 x4 x5 =
    two old (b ∷ []) (to_be_bytes w64 written ++ (to_be_bytes w32 (length counted) ++ (flat_map appended_bytes appended ++ buffer))) o1 o5 x1
    (four o1 (to_be_bytes w64 written) (to_be_bytes w32 (length counted)) (flat_map appended_bytes appended) buffer o2 o3 o4 o5 x2 x3 x4 x5)
    ∙ (λ i. old ++ (rb i ∷ (to_be_bytes w64 (rw1 i) ++ (to_be_bytes w32 (length (rc i)) ++ (flat_map appended_bytes (ra i) ++ rf i)))))
