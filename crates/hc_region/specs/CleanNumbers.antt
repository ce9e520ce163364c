-- The numbers of the clean regions, rising.
use Rattle.std.specs.BTreeSet.{insert_key}
use Rattle.std.specs.Ordering.{nat_cmp}
use Rattle.std.specs.Prelude.{ℕ, ◌+◌, List, [], ◌∷◌, Option, Some, None, if◌then◌else◌}
use Rattle.hc_engines.specs.large.Region.{Region, is_clean}

-- the numbers of the clean ones of these regions, the first of which has the number n
abbrev pub clean_from : ℕ → List Region → List ℕ
clean_from n [] = []
clean_from n (region ∷ regions) = if is_clean region.status then n ∷ clean_from (n + 1) regions else clean_from (n + 1) regions

abbrev pub first_of : List ℕ → Option ℕ
first_of [] = None
first_of (x ∷ xs) = Some x

abbrev pub rest_of : List ℕ → List ℕ
rest_of [] = []
rest_of (x ∷ xs) = xs

-- rising numbers, with this one
abbrev pub with_number : ℕ → List ℕ → List ℕ
with_number r clean = insert_key nat_cmp clean r

-- these numbers, where they changed
abbrev pub now_clean : Option (List ℕ) → List ℕ → List ℕ
now_clean None clean = clean
now_clean (Some more) clean = more
