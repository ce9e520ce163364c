-- What was appended last is taken back.
use Rattle.std.proofs.Common.{◌≡◌, ℕ, ◌-◌, ◌<◌, List, [], ◌∷◌, ◌++◌, length, set, take, refl, ap, arith, ◌∙◌}
use Rattle.std.proofs.lemmas.List.{length-append, set-set, set-get_or}
use Rattle.hc_types.specs.declared.config.FlashConfig.{FlashConfig}
use Rattle.hc_engines.specs.large.Region.{Region, Appended, clean_region, region_at, filled_to}
use Rattle.hc_region.specs.Growing.{grown, undone}
use Rattle.hc_engines.proofs.large.Lists.{region_at-set, same_num}

front : {A : Type 0} (xs ys : List A) → take (length xs) (xs ++ ys) ≡ xs
front [] ys = refl
front (x ∷ xs) ys = ap (λ zs. x ∷ zs) (front xs ys)

back : {A : Type 0} (xs ys : List A) → take (length (xs ++ ys) - length ys) (xs ++ ys) ≡ xs
back xs ys = let e : length (xs ++ ys) - length ys ≡ length xs = omega (arith, length-append xs ys) in rw e (front xs ys)

undone_is : (flash : FlashConfig) (hash : ℕ) (bytes : List ℕ) (region : Region) → undone (length bytes) (grown flash hash bytes region) ≡ region
undone_is flash hash bytes region =
    let a : Appended = record { hash = hash; offset = filled_to flash region } in
    λ i. record region { buffer = back region.buffer bytes i; appended = back region.appended (a ∷ []) i }

pub put_back : (flash : FlashConfig) (hash r : ℕ) (bytes : List ℕ) (regions more now : List Region) → r < length regions → more ≡ set regions r (grown flash hash bytes (region_at r regions)) → now ≡ set more r (undone (length bytes) (region_at r more)) → now ≡ regions
put_back flash hash r bytes regions more now there m n =
    let new : Region = grown flash hash bytes (region_at r regions) in
    let at : region_at r (set regions r new) ≡ new = region_at-set regions r r new there ∙ (rw (same_num r) refl) in
    n ∙ (rw m (rw (at, undone_is flash hash bytes (region_at r regions)) (set-set regions r new (region_at r regions) ∙ set-get_or regions r clean_region)))
