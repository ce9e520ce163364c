-- Rows of one width that are spelled one after another are read again, and the steps of the loops that write and read them.
use Rattle.std.proofs.Common.{◌≡◌, ℕ, suc, ◌+◌, ◌-◌, ◌*◌, ◌<◌, List, [], ◌∷◌, ◌++◌, length, get_or, drop, refl, sym, ap, arith, append_assoc, append-nil, length-append, drop_at, drop-drop, drop-cons, suc-mul, zero-mul, add-zero, add-one, ◌∙◌}
use Rattle.std.specs.Prelude.{flat_map, All, ◌/◌, ◌%◌}
use Rattle.std.proofs.lemmas.Nat.{div-mul-add, mod-mul-add}
use Rattle.hc_image_text.specs.Regions.{rows}

module _ {X : Type 0} (width : ℕ) (spell : X → List ℕ) (row : List ℕ → X) (Fits : X → Type 0) (long : (x : X) → length (spell x) ≡ width) (again : (x : X) (more : List ℕ) → Fits x → row (spell x ++ more) ≡ x) where
  pub rows_again : (xs : List X) (more : List ℕ) → All Fits xs → rows width row (length xs) (flat_map spell xs ++ more) ≡ xs
  rows_again [] more fits = refl
  rows_again (x ∷ xs) more fits =
      let behind = flat_map spell xs ++ more in
      rw (append_assoc (spell x) (flat_map spell xs) more, drop_at (spell x) behind width (long x))
      (λ i. again x behind (fits 0 x (omega arith)) i ∷ rows_again xs more (λ k d h. fits (suc k) d (omega arith)) i)

  pub rows_long : (xs : List X) → length (flat_map spell xs) ≡ length xs * width
  rows_long [] = sym (zero-mul width)
  rows_long (x ∷ xs) = rw (length-append (spell x) (flat_map spell xs), long x, rows_long xs, suc-mul (length xs) width) (omega arith)

-- ---- the loop that reads: so many rows are there, and the others are still to be read

pub next_count : (n i : ℕ) → i < n → n - i ≡ suc (n - (i + 1))
next_count n i h = omega arith

pub row_next : {X : Type 0} (width : ℕ) (row : List ℕ → X) (n i : ℕ) (bytes : List ℕ) (seen all : List X) (x : X)
    → i < n → x ≡ row (drop (i * width) bytes)
    → seen ++ rows width row (n - i) (drop (i * width) bytes) ≡ all
    → (seen ++ x ∷ []) ++ rows width row (n - (i + 1)) (drop ((i + 1) * width) bytes) ≡ all
row_next width row n i bytes seen all x h is before =
    let next : (i + 1) * width ≡ i * width + width = ap (λ k. k * width) (add-one i) ∙ suc-mul i width in
    let behind : drop ((i + 1) * width) bytes ≡ drop width (drop (i * width) bytes) = ap (λ k. drop k bytes) next ∙ sym (drop-drop width (i * width) bytes) in
    let whole : rows width row (n - i) (drop (i * width) bytes) ≡ row (drop (i * width) bytes) ∷ rows width row (n - (i + 1)) (drop width (drop (i * width) bytes)) = ap (λ k. rows width row k (drop (i * width) bytes)) (next_count n i h) in
    append_assoc seen (x ∷ []) (rows width row (n - (i + 1)) (drop ((i + 1) * width) bytes))
    ∙ (λ j. seen ++ is j ∷ rows width row (n - (i + 1)) (behind j))
    ∙ ap (λ ys. seen ++ ys) (sym whole)
    ∙ before

-- at its end all are there
pub rows_end : {X : Type 0} (width : ℕ) (row : List ℕ → X) (n i : ℕ) (bytes : List ℕ) (seen all : List X)
    → n - i ≡ 0 → seen ++ rows width row (n - i) bytes ≡ all → seen ≡ all
rows_end width row n i bytes seen all none before =
    sym (append-nil seen) ∙ ap (λ k. seen ++ rows width row k bytes) (sym none) ∙ before

-- ---- the loop that writes: what is there, and what the others will be

pub spelled_next : {X : Type 0} (spell : X → List ℕ) (xs : List X) (i : ℕ) (out all : List ℕ) (x : X)
    → i < length xs → x ≡ get_or xs i x
    → out ++ flat_map spell (drop i xs) ≡ all
    → (out ++ spell x) ++ flat_map spell (drop (i + 1) xs) ≡ all
spelled_next spell xs i out all x h is before =
    append_assoc out (spell x) (flat_map spell (drop (i + 1) xs))
    ∙ (λ j. out ++ (spell (is j) ++ flat_map spell (drop (i + 1) xs)))
    ∙ ap (λ k. out ++ (spell (get_or xs i x) ++ flat_map spell (drop k xs))) (add-one i)
    ∙ ap (λ ys. out ++ flat_map spell ys) (sym (drop-cons xs i x h))
    ∙ before

-- ---- a count of fours

pub fours : (n : ℕ) → (n * 4) / 4 ≡ n
fours n = ap (λ k. k / 4) (sym (add-zero (n * 4))) ∙ div-mul-add n 4 0 (omega arith)

pub no_rest : (n : ℕ) → (n * 4) % 4 ≡ 0
no_rest n = ap (λ k. k % 4) (sym (add-zero (n * 4))) ∙ mod-mul-add n 4 0 (omega arith)
