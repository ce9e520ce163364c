-- Reading a page from left to right, as the code does.
use Rattle.std.specs.Prelude.{ℕ, zero, suc, ◌-◌, List, [], ◌∷◌, length, take, drop, Option, Some, None, nat_lt, ◌==◌, ◌&&◌, if◌then◌else◌}
use Rattle.std.specs.List.{list_all}
use Rattle.std.specs.Int.{Width, w16, w64, byte_len, from_be_bytes}
use Rattle.hc_bucket.specs.declared.fields.Head.{Head}
use Rattle.hc_types.specs.FlashEntry.{FlashEntry}
use Rattle.hc_bucket.specs.Page.{distinct}

infixl 10 ◌>>=◌
abbrev pub ◌>>=◌ : {A B : Type 0} → Option A → (A → Option B) → Option B
(Some x) >>= f = f x
None >>= f = None

-- a field is a value and the bytes behind it
abbrev pub byte_at : List ℕ → Option (ℕ × List ℕ)
byte_at [] = None
byte_at (byte ∷ rest) = Some (byte, rest)

abbrev pub part_at : ℕ → List ℕ → Option (List ℕ × List ℕ)
part_at n bytes = if nat_lt (length bytes) n then None else Some (take n bytes, drop n bytes)

abbrev pub number_at : Width → List ℕ → Option (ℕ × List ℕ)
number_at w bytes = if nat_lt (length bytes) (byte_len w) then None else Some (from_be_bytes w (take (byte_len w) bytes), drop (byte_len w) bytes)

abbrev pub key_at : List ℕ → Option (List ℕ)
key_at bytes = if length bytes == 0 then None else Some bytes

-- what stands before an entry's key
abbrev pub head_at : List ℕ → Option (Head × List ℕ)
head_at bytes =
    byte_at bytes >>= λ k. byte_at k.1 >>= λ p. number_at w16 p.1 >>= λ v. number_at w64 v.1 >>= λ x. Some (record { key_len = k.0; pool = p.0; value_len = v.0; expiry = x.0 }, x.1)

-- the entry with this head
abbrev pub headed_at : Head → List ℕ → Option (FlashEntry × List ℕ)
headed_at head bytes =
    part_at head.key_len bytes >>= λ text. part_at head.value_len text.1 >>= λ value. key_at text.0 >>= λ key. Some (record { key = key; value = value.0; pool = head.pool; expiry = head.expiry }, value.1)

unfoldable pub entry_at : List ℕ → Option (FlashEntry × List ℕ)
entry_at bytes = do
  k ← byte_at bytes
  p ← byte_at k.1
  v ← number_at w16 p.1
  x ← number_at w64 v.1
  text ← part_at k.0 x.1
  value ← part_at v.0 text.1
  key ← key_at text.0
  Some (record { key = key; value = value.0; pool = p.0; expiry = x.0 }, value.1)

unfoldable pub entries_at : ℕ → List ℕ → Option (List FlashEntry × List ℕ)
entries_at zero bytes = Some ([], bytes)
entries_at (suc n) bytes = do
  first ← entry_at bytes
  others ← entries_at n first.1
  Some (first.0 ∷ others.0, others.1)

-- the bytes that are used, and the rest
unfoldable pub body_at : ℕ → List ℕ → Option (List ℕ × List ℕ)
body_at used bytes = if nat_lt used 4 then None else part_at (used - 4) bytes

-- so many entries, which are all that is used, and zeros behind it
unfoldable pub whole_at : ℕ → List ℕ → List ℕ → Option (List FlashEntry)
whole_at count used unused = do
  es ← entries_at count used
  if length es.1 == 0 && list_all (λ b. b == 0) unused && distinct es.0 then Some es.0 else None

unfoldable pub content_at : List ℕ → Option (List FlashEntry)
content_at bytes = do
  n ← number_at w16 bytes
  u ← number_at w16 n.1
  body ← body_at u.0 u.1
  whole_at n.0 body.0 body.1

unfoldable pub page_at : ℕ → List ℕ → Option (List FlashEntry)
page_at size bytes = if length bytes == size then content_at bytes else None
