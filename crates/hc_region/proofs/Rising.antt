-- Offsets that rise, one after the other.
use Rattle.std.proofs.Common.{◌≡◌, ℕ, ◌+◌, ◌<◌, nat_le, Bool, false, ◌&&◌, List, length, drop, get_or, sym, ap, subst, ◌∙◌}
use Rattle.std.proofs.lemmas.Bool.{lt-leb}
use Rattle.std.proofs.lemmas.List.{at_drop_more}
use Rattle.hc_engines.specs.large.Region.{Appended}
use Rattle.hc_region.specs.Resting.{is_rising}

-- one that doesn't rise
pub falls : (from to i o : ℕ) (xs : List Appended) (x : Appended) → i < length xs → x ≡ get_or xs i x → o ≡ x.offset → o < from → is_rising from (drop i xs) to ≡ is_rising 0 xs to → false ≡ is_rising 0 xs to
falls from to i o xs x lt is same less inv =
    let here : nat_le from (get_or xs i x).offset ≡ false = lt-leb from (get_or xs i x).offset (subst (λ (n : ℕ). n < from) (same ∙ ap (λ (y : Appended). y.offset) is) less) in
    let step = at_drop_more (λ (ys : List Appended). is_rising from ys to) xs i x lt in
    sym (sym inv ∙ step ∙ ap (λ (b : Bool). b && is_rising ((get_or xs i x).offset + 1) (drop (i + 1) xs) to) here)
