-- The bytes of an entry are its one spelling.
use Rattle.std.proofs.Common.{◌≡◌, ℕ, suc, ◌+◌, ◌≤◌, Bool, true, false, List, [], ◌∷◌, ◌++◌, length, take, drop, Some, refl, sym, ap, subst, arith, ◌∙◌}
use Rattle.std.specs.Prelude.{◌==◌, not, ◌&&◌, nat_le}
use Rattle.std.specs.Int.{w32, w64, from_be_bytes, to_be_bytes}
use Rattle.std.proofs.lemmas.Bool.{eqb-true, leb-true}
use Rattle.std.proofs.lemmas.Grind.{common_steps}
use Rattle.std.proofs.lemmas.List.{drop-drop, take-append-drop, length-take, length-drop}
use Rattle.std.proofs.lemmas.Nat.{be_bytes_4}
use Rattle.hc_types.specs.FlashEntry.{FlashEntry}
use Rattle.hc_bucket.proofs.Numbers.{IsBytes, IsBytes-take, IsBytes-drop, test_some, some_is, wide64}
use Rattle.hc_engines.specs.large.Entries.{IsLarge, entry_bytes, made_of, entry_in}
use Rattle.hc_engines.specs.large.Spelling.{EntryIsItsBytes, BytesHoldOneEntry}
use Rattle.hc_engines.proofs.large.Bytes.{entry_again}

record Made (key value : ℕ) (body : List ℕ) : Type 0 where
  some : 1 ≤ key
  short : value ≤ 1048576
  whole : length body ≡ key + value

made_is : (key value : ℕ) (body : List ℕ) → (not (key == 0) && nat_le value 1048576 && (length body == key + value)) ≡ true → Made key value body
made_is key value body h = go (key == 0) refl (nat_le value 1048576) refl (length body == key + value) refl h
  where
    go : (a : Bool) → (key == 0) ≡ a → (b : Bool) → nat_le value 1048576 ≡ b → (c : Bool) → (length body == key + value) ≡ c → (not a && b && c) ≡ true → Made key value body
    go true a b e c f h = absurd (cc)
    go false a false e c f h = absurd (cc)
    go false a true e false f h = absurd (cc)
    go false a true e true f h = record { some = grind (arith, common_steps, a); short = leb-true value 1048576 e; whole = eqb-true (length body) (key + value) f }

-- the entry that is read of such bytes
abbrev read_of : ℕ → ℕ → List ℕ → FlashEntry
read_of key pool rest = record { key = take key (drop 12 rest); value = drop key (drop 12 rest); pool = pool; expiry = from_be_bytes w64 (take 8 (drop 4 rest)) }

module _ (key pool : ℕ) (rest : List ℕ) (fits : IsBytes (key ∷ pool ∷ rest)) (long : 12 ≤ length rest) (made : Made key (from_be_bytes w32 (take 4 rest)) (drop 12 rest)) where
  behind : IsBytes rest
  behind i = fits (suc (suc i))

  key_long : length (take key (drop 12 rest)) ≡ key
  key_long = omega (arith, length-take key (drop 12 rest), made.whole)

  value_long : length (drop key (drop 12 rest)) ≡ from_be_bytes w32 (take 4 rest)
  value_long = omega (arith, length-drop key (drop 12 rest), made.whole)

  read_large : IsLarge (read_of key pool rest)
  read_large = record {
    some_key = omega (arith, key_long, made.some);
    key = omega (arith, key_long, fits 0);
    value = omega (arith, value_long, made.short);
    pool = omega (arith, fits 1);
    expiry = wide64.below (take 8 (drop 4 rest)) (IsBytes-take 8 (drop 4 rest) (IsBytes-drop 4 rest behind));
  }

  value_bytes : to_be_bytes w32 (length (drop key (drop 12 rest))) ≡ take 4 rest
  value_bytes = be_bytes_4 (take 4 rest) (length (drop key (drop 12 rest))) (omega (arith, length-take 4 rest, long)) (IsBytes-take 4 rest behind) value_long

  expiry_bytes : to_be_bytes w64 (from_be_bytes w64 (take 8 (drop 4 rest))) ≡ take 8 (drop 4 rest)
  expiry_bytes = wide64.back (take 8 (drop 4 rest)) (omega (arith, length-take 8 (drop 4 rest), length-drop 4 rest, long)) (IsBytes-take 8 (drop 4 rest) (IsBytes-drop 4 rest behind))

  read_bytes : key ∷ pool ∷ rest ≡ entry_bytes (read_of key pool rest)
  read_bytes =
      let behind_value : take 8 (drop 4 rest) ++ drop 12 rest ≡ drop 4 rest = ap (λ xs. take 8 (drop 4 rest) ++ xs) (sym (drop-drop 8 4 rest)) ∙ take-append-drop 8 (drop 4 rest) in
      let parts : entry_bytes (read_of key pool rest) ≡ key ∷ pool ∷ (take 4 rest ++ (take 8 (drop 4 rest) ++ drop 12 rest)) = λ i. key_long i ∷ pool ∷ (value_bytes i ++ (expiry_bytes i ++ take-append-drop key (drop 12 rest) i)) in
      sym (parts ∙ ap (λ xs. key ∷ pool ∷ xs) (ap (λ xs. take 4 rest ++ xs) behind_value ∙ take-append-drop 4 rest))

pub entry_spelled : EntryIsItsBytes
entry_spelled [] e fits r = absurd (cc)
entry_spelled (key ∷ []) e fits r = absurd (cc)
entry_spelled (key ∷ pool ∷ rest) e fits r =
    let long = test_some (nat_le 12 (length rest)) (made_of key pool (from_be_bytes w32 (take 4 rest)) (from_be_bytes w64 (take 8 (drop 4 rest))) (drop 12 rest)) e r in
    let whole = test_some (not (key == 0) && nat_le (from_be_bytes w32 (take 4 rest)) 1048576 && (length (drop 12 rest) == key + from_be_bytes w32 (take 4 rest))) (Some (read_of key pool rest)) e long.1 in
    let made = made_is key (from_be_bytes w32 (take 4 rest)) (drop 12 rest) whole.0 in
    let enough = leb-true 12 (length rest) long.0 in
    subst (λ (x : FlashEntry). IsLarge x × (key ∷ pool ∷ rest ≡ entry_bytes x)) (some_is (read_of key pool rest) e whole.1) (read_large key pool rest fits enough made, read_bytes key pool rest fits enough made)

pub bytes_spell_one : BytesHoldOneEntry
bytes_spell_one d e large_d large_e same = some_is d e (sym (entry_again d large_d) ∙ ap entry_in same ∙ entry_again e large_e)
