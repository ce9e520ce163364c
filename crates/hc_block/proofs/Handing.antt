-- What an index leads to is handed out one after another.
use Rattle.std.proofs.Common.{◌≡◌, ℕ, zero, suc, ◌+◌, ◌<◌, ◌≤◌, ◌==◌, Bool, true, false, ◌&&◌, List, [], ◌∷◌, ◌++◌, length, set, drop, get_or, refl, sym, ap, arith, ◌∙◌}
use Rattle.std.proofs.lemmas.Bool.{eqb-true}
use Rattle.std.proofs.lemmas.List.{drop_all, drop_more}
use Rattle.std.proofs.lemmas.List.Folds.{list_all-append}
use Rattle.std.specs.List.{list_all}
use Rattle.hc_engines.specs.large.Index.{Indexed}
use Rattle.hc_block.specs.Indexes.{joined}

no_pair : (xs : List Indexed) → length xs ≡ 0 → xs ≡ []
no_pair [] e = refl
no_pair (x ∷ xs) e = absurd (omega (arith, e))

-- a segment that leads nowhere
pub passed : (segments : List (List Indexed)) (at : ℕ) → at < length segments → (length (get_or segments at []) == 0) ≡ true → joined (drop (at + 1) segments) ≡ joined (drop at segments)
passed segments at lt none =
    sym (ap joined (drop_more segments at [] lt) ∙ ap (λ (xs : List Indexed). xs ++ joined (drop (at + 1) segments)) (no_pair (get_or segments at []) (eqb-true (length (get_or segments at [])) 0 none)))

-- one that leads somewhere isn't empty
pub some_pair : (xs : List Indexed) → (length xs == 0) ≡ false → xs ≡ [] → ⊥
some_pair xs some none = let bad : true ≡ false = sym (ap (λ (ys : List Indexed). length ys == 0) none) ∙ some in absurd (cc)

-- the first lead of a segment leaves it
taken : (segments : List (List Indexed)) (at : ℕ) (lead : Indexed) (left : List Indexed) → at < length segments → get_or segments at [] ≡ lead ∷ left → joined (drop at segments) ≡ lead ∷ joined (drop at (set segments at left))
taken [] at lead left lt e = absurd (omega arith)
taken (xs ∷ segments) zero lead left lt e = ap (λ (ys : List Indexed). ys ++ joined segments) e
taken (xs ∷ segments) (suc at) lead left lt e = taken segments at lead left (omega (arith, lt)) e

pub taken_at : (segments new : List (List Indexed)) (at : ℕ) (lead : Indexed) (left : List Indexed) → at < length segments → get_or segments at [] ≡ lead ∷ left → new ≡ set segments at left → joined (drop at segments) ≡ lead ∷ joined (drop at new)
taken_at segments new at lead left lt e n = taken segments at lead left lt e ∙ sym (ap (λ (ys : List (List Indexed)). lead ∷ joined (drop at ys)) n)

-- all were handed out
pub none_left : (segments : List (List Indexed)) (at : ℕ) → length segments ≤ at → joined (drop at segments) ≡ []
none_left segments at le = ap joined (drop_all at segments le)

-- ---- a test of each pair, segment by segment

module _ (test : Indexed → Bool) (segments : List (List Indexed)) (i : ℕ) (xs : List Indexed) (all : Bool) (lt : i < length segments) (is : xs ≡ get_or segments i xs) (so_far : list_all test (joined (drop i segments)) ≡ all) where
  apart : list_all test (joined (drop i segments)) ≡ (list_all test xs && list_all test (joined (drop (i + 1) segments)))
  apart =
      ap (λ (ys : List (List Indexed)). list_all test (joined ys)) (drop_more segments i xs lt) ∙ ap (λ (ys : List Indexed). list_all test (ys ++ joined (drop (i + 1) segments))) (sym is)
      ∙ list_all-append test xs (joined (drop (i + 1) segments))

  pub next_passes : list_all test xs ≡ true → list_all test (joined (drop (i + 1) segments)) ≡ all
  next_passes e = sym (apart ∙ ap (λ (b : Bool). b && list_all test (joined (drop (i + 1) segments))) e) ∙ so_far

  pub next_fails : list_all test xs ≡ false → false ≡ all
  next_fails e = sym (apart ∙ ap (λ (b : Bool). b && list_all test (joined (drop (i + 1) segments))) e) ∙ so_far

pub all_passed : (test : Indexed → Bool) (segments : List (List Indexed)) (i : ℕ) (all : Bool) → length segments ≤ i → list_all test (joined (drop i segments)) ≡ all → true ≡ all
all_passed test segments i all le so_far = sym (ap (λ (ys : List (List Indexed)). list_all test (joined ys)) (drop_all i segments le)) ∙ so_far
