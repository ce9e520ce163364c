-- A page of which no digest is kept.
use Rattle.std.proofs.Common.{◌≡◌, ◌≤◌, ℕ, ◌==◌, List, Option, Some, None, refl, ap, sym, length, ◌∙◌}
use Rattle.std.specs.Prelude.{if◌then◌else◌}
use Rattle.std.proofs.lemmas.List.{get_or_past}
use Rattle.hc_paged.specs.Devices.{mark_at}

no-mark : (digests : List ℕ) (page : ℕ) → length digests ≤ page → mark_at digests page ≡ None
no-mark digests page past = ap (λ (d : ℕ). if d == 0 then None else Some d) (get_or_past digests page 0 past)

-- what holds of each page of which something is known leaves nothing known of a page without a digest
pub none-outside : (of : List ℕ → ℕ) (held : Option (List ℕ)) (digests : List ℕ) (page : ℕ) → length digests ≤ page → ((written : List ℕ) → held ≡ Some written → mark_at digests page ≡ Some (of written)) → held ≡ None
none-outside of None digests page past all = refl
none-outside of (Some written) digests page past all = let e = sym (no-mark digests page past) ∙ all written refl in absurd cc
