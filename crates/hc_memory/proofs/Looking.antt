-- Looking for an item in one pool after the other.
use Rattle.std.proofs.Common.{◌≡◌, ℕ, suc, ◌+◌, ◌<◌, ◌≤◌, true, false, List, ◌∷◌, length, drop, get_or, Option, Some, None, refl, ap, sym, ◌∙◌, arith, slice_get}
use Rattle.std.specs.Prelude.{option_map}
use mathlib.Core.Bool.{cond}
use Rattle.std.proofs.lemmas.List.{drop_more, drop_all}
use Rattle.std.proofs.lemmas.Option.{slice_get_read}
use Rattle.hc_memory.specs.Pool.{Pool}
use Rattle.hc_memory.specs.Memory.{has, home_of}

pub drop_here : {X : Type 0} → (xs : List X) (i : ℕ) (x : X) → i < length xs → x ≡ get_or xs i x → drop i xs ≡ x ∷ drop (i + 1) xs
drop_here xs i x lt e = drop_more xs i x lt ∙ ap (λ y. y ∷ drop (i + 1) xs) (sym e)

-- what is read at a place is there
pub read-there : {X : Type 0} (xs : List X) (i : ℕ) (x : X) → i < length xs → x ≡ get_or xs i x → slice_get xs i ≡ Some x
read-there xs i x lt e = slice_get_read xs (length xs) i x refl lt e

shift : (i : ℕ) (o : Option ℕ) → option_map (λ n. i + n) (option_map suc o) ≡ option_map (λ n. (i + 1) + n) o
shift i None = refl
shift i (Some n) = let e : i + suc n ≡ (i + 1) + n = omega arith in ap (λ m. Some m) e

-- a pool without the item is passed
pub passed : (key : List ℕ) (pools : List Pool) (i : ℕ) (x : Pool) → i < length pools → x ≡ get_or pools i x → has key x ≡ false
    → option_map (λ n. i + n) (home_of key (drop i pools)) ≡ home_of key pools → option_map (λ n. (i + 1) + n) (home_of key (drop (i + 1) pools)) ≡ home_of key pools
passed key pools i x lt e none so =
    let here : home_of key (drop i pools) ≡ option_map suc (home_of key (drop (i + 1) pools)) = ap (home_of key) (drop_here pools i x lt e) ∙ ap (λ b. cond b (Some 0) (option_map suc (home_of key (drop (i + 1) pools)))) none in
    sym (shift i (home_of key (drop (i + 1) pools))) ∙ sym (ap (λ o. option_map (λ n. i + n) o) here) ∙ so

-- before the first pool nothing is passed
pub unpassed : (o : Option ℕ) → option_map (λ n. 0 + n) o ≡ o
unpassed None = refl
unpassed (Some n) = let same : 0 + n ≡ n = omega arith in ap (λ m. Some m) same

-- a pool with the item is the key's
pub arrived : (key : List ℕ) (pools : List Pool) (i : ℕ) (x : Pool) → i < length pools → x ≡ get_or pools i x → has key x ≡ true → option_map (λ n. i + n) (home_of key (drop i pools)) ≡ home_of key pools → Some i ≡ home_of key pools
arrived key pools i x lt e holds so =
    let here : home_of key (drop i pools) ≡ Some 0 = ap (home_of key) (drop_here pools i x lt e) ∙ ap (λ b. cond b (Some 0) (option_map suc (home_of key (drop (i + 1) pools)))) holds in
    let same : i + 0 ≡ i = omega arith in
    sym (ap (λ n. Some n) same) ∙ sym (ap (λ o. option_map (λ n. i + n) o) here) ∙ so

-- behind the last pool there is none
pub all-passed : (key : List ℕ) (pools : List Pool) (i : ℕ) → length pools ≤ i → option_map (λ n. i + n) (home_of key (drop i pools)) ≡ home_of key pools → None ≡ home_of key pools
all-passed key pools i out so = sym (ap (λ ps. option_map (λ n. i + n) (home_of key ps)) (drop_all i pools out)) ∙ so
