-- Bytes that are shown as text.
use Rattle.std.proofs.Common.{◌≡◌, ℕ, Bool, true, false, List, Some, None, refl}
use Rattle.std.specs.Prelude.{IfSome}
use Rattle.std.specs.Str.{is_utf8, IsUtf8}
use Rattle.std.proofs.lemmas.Str.{IsUtf8-from_is_utf8}
use mathlib.Core.Bool.{cond}
use Rattle.hc_types.specs.Losses.{shown}

unshown : {X : Type 0} (bytes : List ℕ) (x : X) (P : X → Type 0) (b : Bool) → is_utf8 bytes ≡ b → ¬ (IsUtf8 bytes) → IfSome (cond b (Some x) None) P
unshown bytes x P true e h = absurd (h (IsUtf8-from_is_utf8 bytes e))
unshown bytes x P false e h = tt

-- what is said of bytes that are shown says nothing where they are no text
pub if-shown : (bytes : List ℕ) (P : List ℕ → Type 0) → ¬ (IsUtf8 bytes) → IfSome (shown bytes) P
if-shown bytes P h = unshown bytes bytes P (is_utf8 bytes) refl h
