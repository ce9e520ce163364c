-- What a map is fed of a key. Equal keys feed alike.
use Rattle.std.specs.Prelude.{◌≡◌, ℕ, true, List, nat_eq}
use Rattle.std.specs.Hash as fed
use Rattle.std.specs.Hash.{same_Alike}
use Rattle.std.specs.Hash.FoldHasher.{initial, write, finish}
use Rattle.std.specs.Cmp.Lexicographic.{pointwise, bytes_decides}

-- the kit's fast hash of the key's bytes
abbrev pub digest_of : List ℕ → ℕ
digest_of bytes = finish (write initial bytes)

pub digest_respects_eq : (a b : List ℕ) → pointwise nat_eq a b ≡ true → fed.u64 (digest_of a) ≡ fed.u64 (digest_of b)
digest_respects_eq = (same_Alike (λ (key : List ℕ). fed.u64 (digest_of key)) bytes_decides).fed
