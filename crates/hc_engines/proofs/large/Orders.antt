-- A region's losses go in order of offset.
use Rattle.std.proofs.Common.{◌≡◌, ℕ, ◌+◌, ◌≤◌, Bool, true, false, List, [], ◌∷◌, Option, Some, None, refl, sym, arith, ◌∙◌}
use Rattle.std.proofs.lemmas.Bool.{eqb-true}
use Rattle.std.specs.Prelude.{if◌then◌else◌, ◌==◌, ◌&&◌, IsSomeAnd}
use Rattle.hc_engines.specs.large.Region.{Appended}
use Rattle.hc_engines.specs.large.Index.{Place, Indexed, place_at, without, is_at, leading_into}
use Rattle.hc_engines.specs.large.Sound.{IsRising}
use Rattle.hc_engines.specs.large.Laws.{AreInOrder}
use Rattle.hc_engines.proofs.large.Lists.{place_at-without}

-- where a hash leads into the region, at this offset
record LeadsTo (index : List Indexed) (hash offset : ℕ) : Type 0 where
  place : Place
  there : place_at hash index ≡ Some place
  at : place.offset ≡ offset

leads : (index : List Indexed) (hash r offset : ℕ) → is_at (place_at hash index) r offset ≡ true → LeadsTo index hash offset
leads index hash r offset h = go (place_at hash index) refl h
  where
    same : (a b : Bool) → (a && b) ≡ true → b ≡ true
    same true b h = h
    same false b h = absurd (cc)

    go : (o : Option Place) → place_at hash index ≡ o → is_at o r offset ≡ true → LeadsTo index hash offset
    go None e h = absurd (cc)
    go (Some p) e h = record { place = p; there = e; at = eqb-true p.offset offset (same (p.region == r) (p.offset == offset) h) }

lower : (index : List Indexed) (from more : ℕ) (hashes : List ℕ) → from ≤ more → AreInOrder index more hashes → AreInOrder index from hashes
lower index from more [] h a = tt
lower index from more (x ∷ xs) h a = go (place_at x index) a
  where
    go : (o : Option Place) → IsSomeAnd o (λ p. (more ≤ p.offset) × AreInOrder index (p.offset + 1) xs) → IsSomeAnd o (λ p. (from ≤ p.offset) × AreInOrder index (p.offset + 1) xs)
    go None a = a
    go (Some p) a = (omega (arith, a.0), a.1)

pub in_order : (r from to : ℕ) (xs : List Appended) (index whole : List Indexed) → ((h : ℕ) (p : Place) → place_at h index ≡ Some p → place_at h whole ≡ Some p) → IsRising from xs to → AreInOrder whole from (leading_into r xs index)
in_order r from to [] index whole sub rising = tt
in_order r from to (x ∷ xs) index whole sub rising =
    go (is_at (place_at x.hash index) r x.offset) refl
    (in_order r (x.offset + 1) to xs (without x.hash index) whole (λ h p e. sub h p (less h p (h == x.hash) (sym (place_at-without x.hash h index) ∙ e))) rising.1)
    (in_order r (x.offset + 1) to xs index whole sub rising.1)
  where
    less : (h : ℕ) (p : Place) (t : Bool) → (if t then None else place_at h index) ≡ Some p → place_at h index ≡ Some p
    less h p true e = absurd (cc)
    less h p false e = e

    go : (t : Bool) → is_at (place_at x.hash index) r x.offset ≡ t → AreInOrder whole (x.offset + 1) (leading_into r xs (without x.hash index)) → AreInOrder whole (x.offset + 1) (leading_into r xs index)
        → AreInOrder whole from (if t then x.hash ∷ leading_into r xs (without x.hash index) else leading_into r xs index)
    go true t taken kept =
        let l = leads index x.hash r x.offset t in
        rw (sub x.hash l.place l.there, l.at) (rising.0, taken)
    go false t taken kept = lower whole from (x.offset + 1) (leading_into r xs index) (omega (arith, rising.0)) kept
