-- An entry is read in two steps: what stands before its key, and the rest.
use Rattle.std.proofs.Common.{◌≡◌, ℕ, ◌+◌, ◌==◌, true, false, List, [], ◌∷◌, ◌++◌, length, take, Option, Some, None, refl, ap, ◌∙◌, arith}
use Rattle.std.proofs.lemmas.List.{take_at, length-append}
use Rattle.std.specs.Int.{w16, w64, to_be_bytes}
use Rattle.hc_types.specs.FlashEntry.{FlashEntry}
use Rattle.hc_bucket.specs.declared.fields.Head.{Head}
use Rattle.hc_bucket.specs.Page.{entry_bytes}
use Rattle.hc_bucket.specs.Reading.{◌>>=◌, part_at, number_at, key_at, entry_at, head_at, headed_at}
use Rattle.hc_bucket.proofs.Numbers.{IsBytes, wide16, wide64}
use Rattle.hc_bucket.proofs.Pages.{entry_takes}

abbrev headed : ℕ → ℕ → ℕ → ℕ → List ℕ → Option (Head × List ℕ)
headed k p v x rest = Some (record { key_len = k; pool = p; value_len = v; expiry = x }, rest)

abbrev made : ℕ → ℕ → List ℕ → List ℕ × List ℕ → Option (FlashEntry × List ℕ)
made p x key value = Some (record { key = key; value = value.0; pool = p; expiry = x }, value.1)

abbrev behind : Option (Head × List ℕ) → Option (FlashEntry × List ℕ)
behind read = read >>= λ h. headed_at h.0 h.1

with-expiry : (k p v : ℕ) (read : Option (ℕ × List ℕ)) → (read >>= λ x. part_at k x.1 >>= λ text. part_at v text.1 >>= λ value. key_at text.0 >>= λ key. made p x.0 key value) ≡ behind (read >>= λ x. headed k p v x.0 x.1)
with-expiry k p v None = refl
with-expiry k p v (Some x) = refl

with-value : (k p : ℕ) (read : Option (ℕ × List ℕ))
    → (read >>= λ v. number_at w64 v.1 >>= λ x. part_at k x.1 >>= λ text. part_at v.0 text.1 >>= λ value. key_at text.0 >>= λ key. made p x.0 key value) ≡ behind (read >>= λ v. number_at w64 v.1 >>= λ x. headed k p v.0 x.0 x.1)
with-value k p None = refl
with-value k p (Some v) = with-expiry k p v.0 (number_at w64 v.1)

-- an entry is its head and what stands behind it
entry-headed : (bytes : List ℕ) → entry_at bytes ≡ behind (head_at bytes)
unfolding entry_at
entry-headed [] = refl
entry-headed (k ∷ []) = refl
entry-headed (k ∷ p ∷ rest) = with-value k p (number_at w16 rest)

pub entry_is : (bytes : List ℕ) (head : Head) (rest : List ℕ) → head_at bytes ≡ Some (head, rest) → entry_at bytes ≡ headed_at head rest
entry_is bytes head rest h = entry-headed bytes ∙ ap behind h

-- with no head there is no entry
pub head_none : (bytes : List ℕ) → head_at bytes ≡ None → entry_at bytes ≡ None
head_none bytes h = entry-headed bytes ∙ ap behind h

-- ---- an entry is read part by part

pub no_key_part : (head : Head) (rest : List ℕ) → part_at head.key_len rest ≡ None → headed_at head rest ≡ None
no_key_part head rest h = rw h refl

pub no_value_part : (head : Head) (rest key behind-key : List ℕ) → part_at head.key_len rest ≡ Some (key, behind-key) → part_at head.value_len behind-key ≡ None → headed_at head rest ≡ None
no_value_part head rest key behind-key k v = rw (k, v) refl

pub key_empty : (head : Head) (rest key behind-key value after : List ℕ) → part_at head.key_len rest ≡ Some (key, behind-key) → part_at head.value_len behind-key ≡ Some (value, after) → true ≡ (length key == 0) → headed_at head rest ≡ None
key_empty head rest key behind-key value after k v none = rw (k, v, ← none) refl

pub all_parts : (head : Head) (rest key behind-key value after : List ℕ) → part_at head.key_len rest ≡ Some (key, behind-key) → part_at head.value_len behind-key ≡ Some (value, after) → false ≡ (length key == 0)
    → headed_at head rest ≡ Some (record { key = key; value = value; pool = head.pool; expiry = head.expiry }, after)
all_parts head rest key behind-key value after k v some = rw (k, v, ← some) refl

-- the bytes of an entry that was read, by its length
pub spelled_by : (bytes : List ℕ) (e : FlashEntry) (after : List ℕ) (len : ℕ) → IsBytes bytes → entry_at bytes ≡ Some (e, after) → len ≡ 12 + length e.key + length e.value → take len bytes ≡ entry_bytes e
spelled_by bytes e after len fits read is =
    let taken = entry_takes bytes (e, after) fits read in
    let size : length (entry_bytes e) ≡ len = omega (arith, is, length-append (to_be_bytes w16 (length e.value)) (to_be_bytes w64 e.expiry ++ (e.key ++ e.value)), length-append (to_be_bytes w64 e.expiry) (e.key ++ e.value), length-append e.key e.value, wide16.len (length e.value), wide64.len e.expiry) in
    ap (take len) taken.0.parts ∙ take_at (entry_bytes e) after len size
