-- The first piece, in order or behind, and whether one is taken.
use Rattle.std.proofs.Common.{◌≡◌, ℕ, ◌+◌, ◌||◌, Bool, true, false, List, [], ◌∷◌, ◌++◌, Option, Some, None, refl, sym, ap, ◌∙◌}
use Rattle.std.specs.List.{list_any}
use Rattle.std.proofs.lemmas.List.Folds.{list_any-append}
use Rattle.hc_queue.specs.declared.queue.Piece.{Piece}
use Rattle.hc_queue.specs.Queue.{oldest, any_taken, is_taken_slot, numbered}

pub oldest-there : {V : Type 0} (n : ℕ) (es fs : List (ℕ × Piece V)) → oldest es ≡ Some n → Some n ≡ oldest (es ++ fs)
oldest-there n [] fs h = absurd (cc)
oldest-there n (e ∷ es) fs h = sym h

pub oldest-behind : {V : Type 0} (es fs : List (ℕ × Piece V)) → oldest es ≡ None → oldest fs ≡ oldest (es ++ fs)
oldest-behind [] fs h = refl
oldest-behind (e ∷ es) fs h = absurd (cc)

-- ---- whether one is taken

any_taken-append : {V : Type 0} (es fs : List (ℕ × Piece V)) → any_taken (es ++ fs) ≡ (any_taken es || any_taken fs)
any_taken-append {V} es fs = list_any-append (λ (e : ℕ × Piece V). e.1.taken) es fs

-- which numbers the places have doesn't matter
any_taken-numbered : {V : Type 0} (from : ℕ) (xs : List (Option (Piece V))) → any_taken (numbered from xs) ≡ list_any is_taken_slot xs
any_taken-numbered from [] = refl
any_taken-numbered from (None ∷ xs) = any_taken-numbered (from + 1) xs
any_taken-numbered from (Some p ∷ xs) = ap (λ (b : Bool). p.taken || b) (any_taken-numbered (from + 1) xs)

pub taken-there : {V : Type 0} (es fs : List (ℕ × Piece V)) → any_taken es ≡ true → true ≡ any_taken (es ++ fs)
taken-there es fs t = sym (any_taken-append es fs ∙ ap (λ (b : Bool). b || any_taken fs) t)

pub taken-behind : {V : Type 0} (from : ℕ) (es : List (ℕ × Piece V)) (xs : List (Option (Piece V))) → any_taken es ≡ false → list_any is_taken_slot xs ≡ any_taken (es ++ numbered from xs)
taken-behind from es xs none = sym (any_taken-append es (numbered from xs) ∙ ap (λ (b : Bool). b || any_taken (numbered from xs)) none ∙ any_taken-numbered from xs)
