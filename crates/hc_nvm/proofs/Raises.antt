-- Tombstones that end.
use Rattle.std.proofs.Common.{◌≡◌, ℕ, ◌+◌, Bool, true, false, List, [], ◌∷◌, Option, Some, None, refl, sym, ap, length, arith, if◌then◌else◌}
use Rattle.std.specs.List.{filter, find}
use Rattle.std.specs.Prelude.{map, option_map}
use Rattle.hc_types.specs.declared.config.FlashConfig.{FlashConfig}
use Rattle.hc_history.specs.Note.{Raised}
use Rattle.hc_machine.specs.Nvm.{Tombstone}
use Rattle.hc_nvm.specs.After.{by_bucket, raised, standing}
use Rattle.hc_waiting.specs.Line.{without_first}
use Rattle.hc_waiting.proofs.Mapped.{map-map}

abbrev pub key_in : Tombstone → List ℕ
key_in stone = stone.key

-- the first of those that end is told first
pub raised-first : (test : Tombstone → Bool) (key : List ℕ) (stones : List Tombstone) → Some key ≡ option_map key_in (find test stones) → raised test stones ≡ Raised key ∷ raised test (without_first test stones)
raised-first test key [] h = absurd (cc)
raised-first test key (stone ∷ stones) h = by_test (test stone) refl h (raised-first test key stones)
  where
    by_test : (b : Bool) → test stone ≡ b → Some key ≡ option_map key_in (if b then Some stone else find test stones)
        → (Some key ≡ option_map key_in (find test stones) → raised test stones ≡ Raised key ∷ raised test (without_first test stones))
        → raised test (stone ∷ stones) ≡ Raised key ∷ raised test (without_first test (stone ∷ stones))
    by_test true t h more =
        let same : stone.key ≡ key = cc in
        rw t (ap (λ k. Raised k ∷ raised test stones) same)
    by_test false t h more = rw (t, t) (more h)

-- it doesn't stand on
pub standing-first : (test : Tombstone → Bool) (stones : List Tombstone) → standing test (without_first test stones) ≡ standing test stones
standing-first test [] = refl
standing-first test (stone ∷ stones) = by_test (test stone) refl (standing-first test stones)
  where
    by_test : (b : Bool) → test stone ≡ b → standing test (without_first test stones) ≡ standing test stones → standing test (without_first test (stone ∷ stones)) ≡ standing test (stone ∷ stones)
    by_test true t more = rw t refl
    by_test false t more = rw (t, t) (ap (λ (xs : List Tombstone). stone ∷ xs) more)

pub fewer-first : (test : Tombstone → Bool) (key : List ℕ) (stones : List Tombstone) → Some key ≡ option_map key_in (find test stones) → length stones ≡ length (without_first test stones) + 1
fewer-first test key [] h = absurd (cc)
fewer-first test key (stone ∷ stones) h = by_test (test stone) refl h (fewer-first test key stones)
  where
    by_test : (b : Bool) → test stone ≡ b → Some key ≡ option_map key_in (if b then Some stone else find test stones)
        → (Some key ≡ option_map key_in (find test stones) → length stones ≡ length (without_first test stones) + 1)
        → length (stone ∷ stones) ≡ length (without_first test (stone ∷ stones)) + 1
    by_test true t h more = rw t (omega arith)
    by_test false t h more = rw t (omega (arith, more h))

-- where none is found, none ends
pub none-passes : (test : Tombstone → Bool) (stones : List Tombstone) → None ≡ option_map key_in (find test stones) → filter test stones ≡ []
none-passes test [] h = refl
none-passes test (stone ∷ stones) h = by_test (test stone) refl h (none-passes test stones)
  where
    by_test : (b : Bool) → test stone ≡ b → None ≡ option_map key_in (if b then Some stone else find test stones)
        → (None ≡ option_map key_in (find test stones) → filter test stones ≡ []) → filter test (stone ∷ stones) ≡ []
    by_test true t h more = absurd (cc)
    by_test false t h more = rw t (more h)

pub all-stand : (test : Tombstone → Bool) (stones : List Tombstone) → filter test stones ≡ [] → standing test stones ≡ stones
all-stand test [] h = refl
all-stand test (stone ∷ stones) h = by_test (test stone) refl h (all-stand test stones)
  where
    by_test : (b : Bool) → test stone ≡ b → (if b then stone ∷ filter test stones else filter test stones) ≡ [] → (filter test stones ≡ [] → standing test stones ≡ stones) → standing test (stone ∷ stones) ≡ stone ∷ stones
    by_test true t h more = absurd (cc)
    by_test false t h more = rw t (ap (λ (xs : List Tombstone). stone ∷ xs) (more h))

pub stays-whole : (test : Tombstone → Bool) (stones : List Tombstone) → filter test stones ≡ [] → without_first test stones ≡ stones
stays-whole test [] h = refl
stays-whole test (stone ∷ stones) h = by_test (test stone) refl h (stays-whole test stones)
  where
    by_test : (b : Bool) → test stone ≡ b → (if b then stone ∷ filter test stones else filter test stones) ≡ [] → (filter test stones ≡ [] → without_first test stones ≡ stones) → without_first test (stone ∷ stones) ≡ stone ∷ stones
    by_test true t h more = absurd (cc)
    by_test false t h more = rw t (ap (λ (xs : List Tombstone). stone ∷ xs) (more h))

-- nothing passes a test that nothing passes
pub nothing-passes : (stones : List Tombstone) → filter (λ (stone : Tombstone). false) stones ≡ []
nothing-passes [] = refl
nothing-passes (stone ∷ stones) = nothing-passes stones

-- where no bucket was given up, all stand on
pub none-given-up : (flash : FlashConfig) (bucket : Option ℕ) (stones : List Tombstone) → bucket ≡ None → filter (by_bucket flash bucket) stones ≡ []
none-given-up flash None stones h = nothing-passes stones
none-given-up flash (Some bucket) stones h = absurd (cc)

pub raised-by-keys : (test : Tombstone → Bool) (stones : List Tombstone) → raised test stones ≡ map (λ key. Raised key) (map key_in (filter test stones))
raised-by-keys test stones = sym (map-map (λ key. Raised key) key_in (filter test stones))
