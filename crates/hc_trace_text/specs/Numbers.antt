-- Numbers, keys and values as a trace writes them.
use Rattle.std.specs.Prelude.{◌≡◌, ◌≢◌, ℕ, ◌+◌, ◌-◌, ◌*◌, ◌^◌, ◌<◌, ◌==◌, nat_lt, nat_le, Bool, not, ◌&&◌, List, [], ◌∷◌, length, take, slice_index, replicate, Option, Some, None, MatchOption, if◌then◌else◌}
use Rattle.std.specs.Char.{is_ascii_digit}
use Rattle.std.specs.List.{list_all}
use Rattle.std.specs.Fmt.{decimal}

-- digits that follow those of n, where the number that they make stays below 2 ^ 64
abbrev pub digits_after : ℕ → List ℕ → Option ℕ
digits_after n [] = Some n
digits_after n (c ∷ text) =
    if is_ascii_digit c && nat_lt (n * 10 + (c - 48)) (2 ^ 64) then digits_after (n * 10 + (c - 48)) text else None

-- a number: one digit or more, and no zero leads
abbrev pub number_of : List ℕ → Option ℕ
number_of [] = None
number_of (c ∷ text) = if c == 48 && nat_lt 0 (length text) then None else digits_after 0 (c ∷ text)

-- the same in other words: a number below 2 ^ 64 as it is printed
abbrev pub IsNumberOf : List ℕ → Option ℕ → Type 0
IsNumberOf text number = MatchOption number ((n : ℕ) → n < 2 ^ 64 → text ≢ decimal n) (λ n. (n < 2 ^ 64) × (text ≡ decimal n))

-- a number below this limit
abbrev pub below : ℕ → Option ℕ → Option ℕ
below limit None = None
below limit (Some n) = if nat_lt n limit then Some n else None

abbrev pub number_below : ℕ → List ℕ → Option ℕ
number_below limit text = below limit (number_of text)

-- a byte that can be seen
abbrev pub is_visible : ℕ → Bool
is_visible c = nat_le 33 c && nat_le c 126

-- a key: one visible byte or more
abbrev pub is_key : List ℕ → Bool
is_key text = nat_lt 0 (length text) && list_all is_visible text

-- so many times a byte
abbrev pub times : Option ℕ → ℕ → Option (List ℕ)
times None c = None
times (Some n) c = if nat_le 1 n && nat_le n 2097152 then Some (replicate n c) else None

-- a number, and the visible byte that is repeated, which is no digit
abbrev pub repeated_of : List ℕ → Option (List ℕ)
repeated_of text =
    let c = slice_index text (length text - 1) in
    if is_visible c && not (is_ascii_digit c) then times (number_of (take (length text - 1) text)) c else None

-- a value: its visible bytes behind `=`, or one that is repeated behind `*`
abbrev pub value_of : List ℕ → Option (List ℕ)
value_of [] = None
value_of (mark ∷ text) =
    if mark == 61 then (if list_all is_visible text then Some text else None)
    else (if mark == 42 then repeated_of text else None)
