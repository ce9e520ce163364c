-- Tombstones that end: the books, the list, and that each may end.
use Rattle.std.proofs.Common.{◌≡◌, ℕ, ◌+◌, ◌≤◌, Bool, true, false, not, ◌&&◌, ◌||◌, List, [], ◌∷◌, ◌++◌, map, Some, refl, arith, ap, sym, ◌∙◌, subst, filter}
use Rattle.std.specs.Prelude.{if◌then◌else◌, nat_lt}
use Rattle.std.specs.Str.{bytes_eq}
use Rattle.hc_types.specs.Config.{Config}
use Rattle.hc_types.specs.Tally.{count}
use Rattle.hc_types.specs.declared.config.FlashConfig.{FlashConfig}
use Rattle.hc_machine.proofs.items.Items.{bytes_eq-refl}
use Rattle.hc_memory.proofs.Keyed.{same_bytes}
use Rattle.hc_memory.specs.Memory.{Memory}
use Rattle.hc_history.specs.Note.{Note, Raised}
use Rattle.hc_history.specs.Books.{buried, writing, is_among, without_key, entry_at}
use Rattle.hc_history.specs.Pages.{bytes_at, bucket_entries}
use Rattle.hc_history.specs.Lawful.{Lawful, past, is_in_bucket}
use Rattle.hc_machine.specs.Nvm.{Tombstone, is_stone_of}
use Rattle.hc_machine.specs.Cache.{unmarked_by}
use Rattle.hc_theorem.specs.buckets.Small.{AllSmall}
use Rattle.hc_theorem.proofs.buckets.CacheJobs.{any-count}
use Rattle.hc_invariant.proofs.Lookups.{stands_in}

-- the notes of tombstones that end
abbrev pub raised : List Tombstone → List Note
raised stones = map (λ (stone : Tombstone). Raised stone.key) stones

-- ---- a list and its two parts

pub split-count : {X : Type 0} (p test : X → Bool) (xs : List X) → count p (filter test xs) + count p (filter (λ x. not (test x)) xs) ≡ count p xs
split-count p test [] = refl
split-count p test (x ∷ xs) = step (test x) (split-count p test xs)
  where
    step : (b : Bool) → count p (filter test xs) + count p (filter (λ x. not (test x)) xs) ≡ count p xs
        → count p (if b then x ∷ filter test xs else filter test xs) + count p (if not b then x ∷ filter (λ x. not (test x)) xs else filter (λ x. not (test x)) xs) ≡ count p (x ∷ xs)
    step true h = omega (arith, h)
    step false h = omega (arith, h)

-- those that stay
pub stays-any : (key : List ℕ) (test : Tombstone → Bool) (stones : List Tombstone) → count (is_stone_of key) stones ≤ 1
    → stands_in key (filter (λ stone. not (test stone)) stones) ≡ (stands_in key stones && not (stands_in key (filter test stones)))
stays-any key test stones one =
    let parts = split-count (is_stone_of key) test stones in
    let a = any-count (is_stone_of key) (filter (λ stone. not (test stone)) stones) in
    let b = any-count (is_stone_of key) stones in
    let c = any-count (is_stone_of key) (filter test stones) in
    grind (arith, parts, a, b, c, one)

-- ---- the books

among-step : (k key other : List ℕ) (b : Bool) (x : Bool) → bytes_eq other k ≡ b → (bytes_eq other k ≡ true → bytes_eq other key ≡ bytes_eq k key) → (y : Bool) → y ≡ (x && not (bytes_eq k key))
    → (if not b then bytes_eq other key || y else y) ≡ ((bytes_eq other key || x) && not (bytes_eq k key))
among-step k key other true x e same y h = let s = same e in grind (arith, s, h)
among-step k key other false x e same y h = go (bytes_eq other key) refl (bytes_eq k key) refl
  where
    go : (a : Bool) → bytes_eq other key ≡ a → (c : Bool) → bytes_eq k key ≡ c → (bytes_eq other key || y) ≡ ((bytes_eq other key || x) && not (bytes_eq k key))
    go true p true q = let same : other ≡ k = same_bytes other key p ∙ sym (same_bytes k key q) in let t : bytes_eq other k ≡ true = subst (λ (z : List ℕ). bytes_eq z k ≡ true) (sym same) (bytes_eq-refl k) in absurd (cc (t, e))
    go true p false q = rw (p, q) refl
    go false p true q = grind (arith, p, q, h)
    go false p false q = grind (arith, p, q, h)

pub among-without : (k key : List ℕ) (keys : List (List ℕ)) → is_among key (without_key k keys) ≡ (is_among key keys && not (bytes_eq k key))
among-without k key [] = refl
among-without k key (other ∷ keys) =
    if-any (bytes_eq other k)
    ∙ among-step k key other (bytes_eq other k) (is_among key keys) refl (λ e. ap (λ (z : List ℕ). bytes_eq z key) (same_bytes other k e)) (is_among key (without_key k keys)) (among-without k key keys)
  where
    if-any : (b : Bool) → is_among key (if not b then other ∷ without_key k keys else without_key k keys) ≡ (if not b then bytes_eq other key || is_among key (without_key k keys) else is_among key (without_key k keys))
    if-any true = refl
    if-any false = refl

pub buried-raised : (key : List ℕ) (older : List Note) (stones : List Tombstone) → is_among key (buried (past older (raised stones))) ≡ (is_among key (buried older) && not (stands_in key stones))
buried-raised key older [] = grind arith
buried-raised key older (stone ∷ stones) =
    let first = among-without stone.key key (buried older) in
    let rest = buried-raised key (Raised stone.key ∷ older) stones in
    grind (arith, first, rest)

-- the others pass them by
pub writing-raised : (older : List Note) (stones : List Tombstone) → writing (past older (raised stones)) ≡ writing older
writing-raised older [] = refl
writing-raised older (stone ∷ stones) = writing-raised (Raised stone.key ∷ older) stones

pub bytes-raised : (older : List Note) (stones : List Tombstone) → bytes_at (past older (raised stones)) ≡ bytes_at older
bytes-raised older [] = refl
bytes-raised older (stone ∷ stones) = bytes-raised (Raised stone.key ∷ older) stones

pub buckets-raised : (flash : FlashConfig) (older : List Note) (stones : List Tombstone) (bucket : ℕ) → bucket_entries flash (past older (raised stones)) bucket ≡ bucket_entries flash older bucket
buckets-raised flash older [] bucket = refl
buckets-raised flash older (stone ∷ stones) bucket = buckets-raised flash (Raised stone.key ∷ older) stones bucket

pub entries-raised : (flash : FlashConfig) (older : List Note) (stones : List Tombstone) (key : List ℕ) → entry_at (Some flash) (past older (raised stones)) key ≡ entry_at (Some flash) older key
entries-raised flash older [] key = refl
entries-raised flash older (stone ∷ stones) key = entries-raised flash (Raised stone.key ∷ older) stones key

pub small-raised : (flash : FlashConfig) (stones : List Tombstone) → AllSmall flash (raised stones)
small-raised flash [] = tt
small-raised flash (stone ∷ stones) = (tt, small-raised flash stones)

pub marks-raised : (stones : List Tombstone) (rest : List Note) (memory : Memory) → unmarked_by (raised stones ++ rest) memory ≡ unmarked_by rest memory
marks-raised [] rest memory = refl
marks-raised (stone ∷ stones) rest memory = marks-raised stones rest memory

-- ---- each may end

apart-step : (key k : List ℕ) (n : ℕ) (b : Bool) → bytes_eq k key ≡ b → (if b then 1 else 0) + n ≤ 1 → nat_lt 0 n ≡ true → bytes_eq k key ≡ false
apart-step key k n true e one some = absurd (grind (arith, one, some))
apart-step key k n false e one some = e

pub raises-lawful : (config : Config) (flash : FlashConfig) (older : List Note) (stones : List Tombstone) → config.flash ≡ Some flash
    → ((key : List ℕ) → stands_in key stones ≡ true → is_among key (buried older) ≡ true)
    → ((key : List ℕ) → stands_in key stones ≡ true → is_in_bucket flash older key ≡ false)
    → ((key : List ℕ) → count (is_stone_of key) stones ≤ 1)
    → Lawful config older (raised stones)
raises-lawful config flash older [] on there gone one = tt
raises-lawful config flash older (stone ∷ stones) on there gone one =
    let here : stands_in stone.key (stone ∷ stones) ≡ true = rw (bytes_eq-refl stone.key) refl in
    (rw on (there stone.key here, gone stone.key here), raises-lawful config flash (Raised stone.key ∷ older) stones on still (λ key s. gone key (later key s)) (λ key. fewer key))
  where
    later : (key : List ℕ) → stands_in key stones ≡ true → stands_in key (stone ∷ stones) ≡ true
    later key s = grind (arith, s)

    fewer : (key : List ℕ) → count (is_stone_of key) stones ≤ 1
    fewer key = omega (arith, one key)

    still : (key : List ℕ) → stands_in key stones ≡ true → is_among key (without_key stone.key (buried older)) ≡ true
    still key s =
        let some : nat_lt 0 (count (is_stone_of key) stones) ≡ true = sym (any-count (is_stone_of key) stones) ∙ s in
        let other = apart-step key stone.key (count (is_stone_of key) stones) (bytes_eq stone.key key) refl (one key) some in
        among-without stone.key key (buried older) ∙ rw (there key (later key s), other) refl
