-- Which command lines ask for a replay, and by how many clients.
use Rattle.std.specs.Prelude.{◌≡◌, ◌≤◌, ◌⊎◌, ◌++◌, ◌∷◌, ◌||◌, ℕ, Bool, nat_lt, List, [], length, drop, codes, Option, Some, None}
use Rattle.std.specs.Fmt.{decimal}
use Rattle.std.specs.List.{list_any}
use Rattle.std.specs.Str.{bytes_eq}

-- the word that ends the options of most programs
abbrev pub is_dashes : List ℕ → Bool
is_dashes word = bytes_eq word (codes "--")

-- there are more words behind the program's name than any command line that asks for something has, or one is `--`
abbrev pub is_beyond : {X : Type 0} → (X → List ℕ) → List X → Bool
is_beyond text words = nat_lt 2 (length (drop 1 words)) || list_any (λ word. is_dashes (text word)) (drop 1 words)

-- a number of clients
abbrev pub IsCount : ℕ → Type 0
IsCount n = (1 ≤ n) × (n ≤ 64)

-- the words are a program's name and then these
abbrev pub IsNamed : List (List ℕ) → List (List ℕ) → Type 0
IsNamed words rest = drop 1 words ≡ rest

-- so many clients, as `--clients N` or `--clients=N`
pub record AsksForMany (words : List (List ℕ)) (n : ℕ) : Type 0 where
  pub count : IsCount n
  pub spelled : IsNamed words (codes "--clients" ∷ decimal n ∷ []) ⊎ IsNamed words ((codes "--clients=" ++ decimal n) ∷ [])

-- what the words ask for: by one client, line by line, where they are the program's name alone (or none at all), and else by so many
abbrev pub AsksFor : List (List ℕ) → Option ℕ → Type 0
AsksFor words None = IsNamed words []
AsksFor words (Some n) = AsksForMany words n
