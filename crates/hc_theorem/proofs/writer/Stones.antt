-- Tombstones: one's delete is taken, or it ends; and the books' keys with it.
use Rattle.std.proofs.Common.{◌≡◌, ℕ, ◌+◌, ◌≤◌, Bool, true, false, not, ◌&&◌, ◌||◌, List, [], ◌∷◌, map, filter, find, Some, refl, ap, arith, ◌∙◌}
use Rattle.std.specs.Prelude.{if◌then◌else◌}
use Rattle.std.specs.Str.{bytes_eq}
use Rattle.hc_types.specs.Tally.{count}
use Rattle.hc_memory.proofs.Keyed.{same_bytes}
use Rattle.hc_history.specs.Note.{Raised}
use Rattle.hc_history.specs.Books.{is_among, without_key}
use Rattle.hc_machine.specs.Nvm.{Tombstone, is_stone_of, without_stone, taken_stone}
use Rattle.hc_invariant.specs.Jobs.{is_taken}
use Rattle.hc_invariant.proofs.Lookups.{key-other, stands_in}

-- a mark leaves the key
stands_marked : (key k : List ℕ) (stone : Tombstone) (b : Bool) → bytes_eq (if b then record stone { taken = true } else stone).key k ≡ bytes_eq stone.key k
stands_marked key k stone true = refl
stands_marked key k stone false = refl

pub stands-taken : (key k : List ℕ) (stones : List Tombstone) → stands_in k (taken_stone key stones) ≡ stands_in k stones
stands-taken key k [] = refl
stands-taken key k (stone ∷ stones) = λ i. stands_marked key k stone (is_stone_of key stone) i || stands-taken key k stones i

pub count-taken : (key k : List ℕ) (stones : List Tombstone) → count (is_stone_of k) (taken_stone key stones) ≡ count (is_stone_of k) stones
count-taken key k [] = refl
count-taken key k (stone ∷ stones) = λ i. (if stands_marked key k stone (is_stone_of key stone) i then 1 else 0) + count-taken key k stones i

-- whose delete was taken stays so, and the key's is
taken_marked : (key k : List ℕ) (stone : Tombstone) (b : Bool) (rest rest2 : Bool) → (rest ≡ true → rest2 ≡ true) → ((bytes_eq stone.key k && stone.taken) || rest) ≡ true
    → ((bytes_eq (if b then record stone { taken = true } else stone).key k && (if b then record stone { taken = true } else stone).taken) || rest2) ≡ true
taken_marked key k stone true rest rest2 more h = grind (arith, more)
taken_marked key k stone false rest rest2 more h = grind (arith, more)

pub taken-stays : (key k : List ℕ) (stones : List Tombstone) → is_taken k stones ≡ true → is_taken k (taken_stone key stones) ≡ true
taken-stays key k [] h = h
taken-stays key k (stone ∷ stones) h = taken_marked key k stone (is_stone_of key stone) (is_taken k stones) (is_taken k (taken_stone key stones)) (taken-stays key k stones) h

pub taken-now : (key : List ℕ) (stones : List Tombstone) → stands_in key stones ≡ true → is_taken key (taken_stone key stones) ≡ true
taken-now key [] h = h
taken-now key (stone ∷ stones) h = step (bytes_eq stone.key key) refl (taken-now key stones) h
  where
    step : (b : Bool) → bytes_eq stone.key key ≡ b → (stands_in key stones ≡ true → is_taken key (taken_stone key stones) ≡ true) → (b || stands_in key stones) ≡ true
        → ((bytes_eq (if b then record stone { taken = true } else stone).key key && (if b then record stone { taken = true } else stone).taken) || is_taken key (taken_stone key stones)) ≡ true
    step true t more h = rw t refl
    step false t more h = rw t (more h)

-- ---- the key's goes

pub without-taken : (key : List ℕ) (stones : List Tombstone) → without_stone key (taken_stone key stones) ≡ without_stone key stones
without-taken key [] = refl
without-taken key (stone ∷ stones) = step (bytes_eq stone.key key) refl (without-taken key stones)
  where
    step : (b : Bool) → bytes_eq stone.key key ≡ b → without_stone key (taken_stone key stones) ≡ without_stone key stones
        → (if not (bytes_eq (if b then record stone { taken = true } else stone).key key) then (if b then record stone { taken = true } else stone) ∷ without_stone key (taken_stone key stones) else without_stone key (taken_stone key stones))
        ≡ (if not b then stone ∷ without_stone key stones else without_stone key stones)
    step true t h = rw t h
    step false t h = rw t (ap (λ (rest : List Tombstone). stone ∷ rest) h)

none_of : (key : List ℕ) (stones : List Tombstone) → count (is_stone_of key) stones ≡ 0 → filter (λ stone. is_stone_of key stone) (taken_stone key stones) ≡ []
none_of key [] h = refl
none_of key (stone ∷ stones) h = step (bytes_eq stone.key key) refl (none_of key stones) h
  where
    step : (b : Bool) → bytes_eq stone.key key ≡ b → (count (is_stone_of key) stones ≡ 0 → filter (λ stone. is_stone_of key stone) (taken_stone key stones) ≡ []) → (if b then 1 else 0) + count (is_stone_of key) stones ≡ 0
        → (if bytes_eq (if b then record stone { taken = true } else stone).key key then (if b then record stone { taken = true } else stone) ∷ filter (λ stone. is_stone_of key stone) (taken_stone key stones) else filter (λ stone. is_stone_of key stone) (taken_stone key stones)) ≡ []
    step true t more h = absurd (omega arith)
    step false t more h = rw t (more (omega (arith, h)))

-- its end is told once
pub raised-one : (key : List ℕ) (stones : List Tombstone) → stands_in key stones ≡ true → count (is_stone_of key) stones ≤ 1
    → map (λ (stone : Tombstone). Raised stone.key) (filter (λ stone. is_stone_of key stone) (taken_stone key stones)) ≡ Raised key ∷ []
raised-one key [] h one = absurd cc
raised-one key (stone ∷ stones) h one = step (bytes_eq stone.key key) refl (raised-one key stones) h one
  where
    step : (b : Bool) → bytes_eq stone.key key ≡ b
        → (stands_in key stones ≡ true → count (is_stone_of key) stones ≤ 1 → map (λ (stone : Tombstone). Raised stone.key) (filter (λ stone. is_stone_of key stone) (taken_stone key stones)) ≡ Raised key ∷ [])
        → (b || stands_in key stones) ≡ true → (if b then 1 else 0) + count (is_stone_of key) stones ≤ 1
        → map (λ (stone : Tombstone). Raised stone.key) (if bytes_eq (if b then record stone { taken = true } else stone).key key then (if b then record stone { taken = true } else stone) ∷ filter (λ stone. is_stone_of key stone) (taken_stone key stones) else filter (λ stone. is_stone_of key stone) (taken_stone key stones)) ≡ Raised key ∷ []
    step true t more h one =
        let none = none_of key stones (omega (arith, one)) in
        let same : stone.key ≡ key = same_bytes stone.key key t in
        rw (t, none) (ap (λ (k : List ℕ). Raised k ∷ []) same)
    step false t more h one = rw t (more h (omega (arith, one)))

pub stands-without : (key k : List ℕ) (stones : List Tombstone) → stands_in k (without_stone key stones) ≡ (if bytes_eq k key then false else stands_in k stones)
stands-without key k [] = nothing_there (bytes_eq k key)
  where
    nothing_there : (b : Bool) → false ≡ (if b then false else false)
    nothing_there true = refl
    nothing_there false = refl
stands-without key k (stone ∷ stones) = step (bytes_eq stone.key key) (bytes_eq k key) refl refl (stands-without key k stones)
  where
    step : (b c : Bool) → bytes_eq stone.key key ≡ b → bytes_eq k key ≡ c → stands_in k (without_stone key stones) ≡ (if c then false else stands_in k stones)
        → stands_in k (if not b then stone ∷ without_stone key stones else without_stone key stones) ≡ (if c then false else (bytes_eq stone.key k || stands_in k stones))
    step true true t o h = h
    step true false t o h = rw (key-other stone.key key k t o) h
    step false true t o h = let same : k ≡ key = same_bytes k key o in let apart : bytes_eq stone.key k ≡ false = ap (bytes_eq stone.key) same ∙ t in rw apart h
    step false false t o h = ap (λ (b : Bool). bytes_eq stone.key k || b) h

-- and so in the books
pub among-without : (key k : List ℕ) (keys : List (List ℕ)) → is_among k (without_key key keys) ≡ (if bytes_eq k key then false else is_among k keys)
among-without key k [] = nothing_there (bytes_eq k key)
  where
    nothing_there : (b : Bool) → false ≡ (if b then false else false)
    nothing_there true = refl
    nothing_there false = refl
among-without key k (x ∷ keys) = step (bytes_eq x key) (bytes_eq k key) refl refl (among-without key k keys)
  where
    step : (b c : Bool) → bytes_eq x key ≡ b → bytes_eq k key ≡ c → is_among k (without_key key keys) ≡ (if c then false else is_among k keys)
        → is_among k (if not b then x ∷ without_key key keys else without_key key keys) ≡ (if c then false else (bytes_eq x k || is_among k keys))
    step true true t o h = h
    step true false t o h = rw (key-other x key k t o) h
    step false true t o h = let same : k ≡ key = same_bytes k key o in let apart : bytes_eq x k ≡ false = ap (bytes_eq x) same ∙ t in rw apart h
    step false false t o h = ap (λ (b : Bool). bytes_eq x k || b) h

-- the delete of another key stays taken
pub taken-without : (key k : List ℕ) (stones : List Tombstone) → bytes_eq k key ≡ false → is_taken k (without_stone key stones) ≡ is_taken k stones
taken-without key k [] o = refl
taken-without key k (stone ∷ stones) o = step (bytes_eq stone.key key) refl (taken-without key k stones o)
  where
    step : (b : Bool) → bytes_eq stone.key key ≡ b → is_taken k (without_stone key stones) ≡ is_taken k stones → is_taken k (if not b then stone ∷ without_stone key stones else without_stone key stones) ≡ ((bytes_eq stone.key k && stone.taken) || is_taken k stones)
    step true t h = rw (key-other stone.key key k t o) h
    step false t h = ap (λ (b : Bool). (bytes_eq stone.key k && stone.taken) || b) h

-- the only tombstone of the key isn't taken, so none is
none_taken : (key : List ℕ) (stones : List Tombstone) → count (is_stone_of key) stones ≡ 0 → is_taken key stones ≡ false
none_taken key [] h = refl
none_taken key (stone ∷ stones) h = step (bytes_eq stone.key key) (none_taken key stones) h
  where
    step : (b : Bool) → (count (is_stone_of key) stones ≡ 0 → is_taken key stones ≡ false) → (if b then 1 else 0) + count (is_stone_of key) stones ≡ 0 → ((b && stone.taken) || is_taken key stones) ≡ false
    step true more h = absurd (omega arith)
    step false more h = more (omega (arith, h))

pub not-taken : (key : List ℕ) (stones : List Tombstone) (stone : Tombstone) → find (is_stone_of key) stones ≡ Some stone → stone.taken ≡ false → count (is_stone_of key) stones ≤ 1 → is_taken key stones ≡ false
not-taken key [] stone e t one = absurd cc
not-taken key (x ∷ stones) stone e t one = step (bytes_eq x.key key) (not-taken key stones stone) e one
  where
    step : (b : Bool) → (find (is_stone_of key) stones ≡ Some stone → stone.taken ≡ false → count (is_stone_of key) stones ≤ 1 → is_taken key stones ≡ false) → (if b then Some x else find (is_stone_of key) stones) ≡ Some stone
        → (if b then 1 else 0) + count (is_stone_of key) stones ≤ 1 → ((b && x.taken) || is_taken key stones) ≡ false
    step true more e one = let same : x ≡ stone = cc in rw (same, t) (none_taken key stones (omega (arith, one)))
    step false more e one = more e t (omega (arith, one))

pub found-stands : (key : List ℕ) (stones : List Tombstone) (stone : Tombstone) → find (is_stone_of key) stones ≡ Some stone → stands_in key stones ≡ true
found-stands key [] stone e = absurd cc
found-stands key (x ∷ stones) stone e = step (bytes_eq x.key key) (found-stands key stones stone) e
  where
    step : (b : Bool) → (find (is_stone_of key) stones ≡ Some stone → stands_in key stones ≡ true) → (if b then Some x else find (is_stone_of key) stones) ≡ Some stone → (b || stands_in key stones) ≡ true
    step true more e = refl
    step false more e = more e
