-- The first piece of a lane, in order or behind.
use Rattle.std.proofs.Common.{◌≡◌, ℕ, Bool, true, false, List, [], ◌∷◌, ◌++◌, Some, None, refl, sym}
use Rattle.hc_queue.specs.declared.queue.Piece.{Piece}
use Rattle.hc_queue.specs.Queue.{is_in, first_in_lane}

pub first-there : {V : Type 0} (lane n : ℕ) (es fs : List (ℕ × Piece V)) → first_in_lane lane es ≡ Some n → Some n ≡ first_in_lane lane (es ++ fs)
first-there lane n [] fs h = absurd (cc)
first-there {V} lane n (e ∷ es) fs h = by_lane (is_in lane e.1.lane) refl h (first-there lane n es fs)
  where
    by_lane : (b : Bool) → is_in lane e.1.lane ≡ b → first_in_lane lane (e ∷ es) ≡ Some n → (first_in_lane lane es ≡ Some n → Some n ≡ first_in_lane lane (es ++ fs)) → Some n ≡ first_in_lane lane ((e ∷ es) ++ fs)
    by_lane true t h more = rw t (sym (rw t at h))
    by_lane false t h more = rw t (more (rw t at h))

pub first-behind : {V : Type 0} (lane : ℕ) (es fs : List (ℕ × Piece V)) → first_in_lane lane es ≡ None → first_in_lane lane fs ≡ first_in_lane lane (es ++ fs)
first-behind lane [] fs h = refl
first-behind {V} lane (e ∷ es) fs h = by_lane (is_in lane e.1.lane) refl h (first-behind lane es fs)
  where
    by_lane : (b : Bool) → is_in lane e.1.lane ≡ b → first_in_lane lane (e ∷ es) ≡ None → (first_in_lane lane es ≡ None → first_in_lane lane fs ≡ first_in_lane lane (es ++ fs)) → first_in_lane lane fs ≡ first_in_lane lane ((e ∷ es) ++ fs)
    by_lane true t h more = absurd (cc (rw t at h))
    by_lane false t h more = rw t (more (rw t at h))
