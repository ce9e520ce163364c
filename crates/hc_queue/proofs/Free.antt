-- The first of the ready pieces that is in no busy lane is the first of all that can go.
use Rattle.std.proofs.Common.{◌≡◌, ℕ, ◌+◌, ◌==◌, ◌≤◌, Bool, true, false, ◌||◌, List, [], ◌∷◌, Option, Some, None, find, refl, sym, ap, subst, arith, ◌∙◌}
use Rattle.std.specs.Prelude.{option_map}
use Rattle.std.proofs.lemmas.Bool.{eqb-true}
use Rattle.hc_queue.specs.declared.queue.Piece.{Piece}
use Rattle.hc_queue.specs.Queue.{can_go, is_open, also, firsts, lane_at, is_free, Rises}

abbrev number : {V : Type 0} → Option (ℕ × Piece V) → Option ℕ
number o = option_map (λ (e : ℕ × Piece _). e.0) o

within : (m : ℕ) (seen busy : ℕ → Bool) → busy m ≡ true → ((l : ℕ) → seen l ≡ true → busy l ≡ true) → (l : ℕ) → also m seen l ≡ true → busy l ≡ true
within m seen busy b h l k = go (l == m) refl k
  where
    go : (t : Bool) → (l == m) ≡ t → (t || seen l) ≡ true → busy l ≡ true
    go true p k = subst (λ (x : ℕ). busy x ≡ true) (sym (eqb-true l m p)) b
    go false p k = h l k

-- seen are the lanes of which a piece was passed: each of them is busy
pub free-first : {V : Type 0} (busy seen : ℕ → Bool) (low high : ℕ) (all es : List (ℕ × Piece V)) → Rises low high es → ((n : ℕ) → low ≤ n → lane_at n all ≡ lane_at n es) → ((l : ℕ) → seen l ≡ true → busy l ≡ true)
    → find (is_free busy all) (firsts seen es) ≡ number (find (λ (e : ℕ × Piece V). can_go busy e.1) es)
free-first busy seen low high all [] r same h = refl
free-first busy seen low high all (e ∷ es) r same h = go e.1.taken refl e.1.lane refl (λ s. free-first busy s (e.0 + 1) high all es r.1 later)
  where
    here : lane_at e.0 all ≡ e.1.lane
    here = same e.0 r.0 ∙ (let x : (e.0 == e.0) ≡ true = (grind (arith)) in rw x refl)

    later : (n : ℕ) → e.0 + 1 ≤ n → lane_at n all ≡ lane_at n es
    later n le = same n (omega (arith, le, r.0)) ∙ (let x : (n == e.0) ≡ false = (grind (arith, le)) in rw x refl)

    go2 : (m : ℕ) → e.1.taken ≡ false → e.1.lane ≡ Some m → (t : Bool) → seen m ≡ t → (u : Bool) → busy m ≡ u
        → ((s : ℕ → Bool) → ((l : ℕ) → s l ≡ true → busy l ≡ true) → find (is_free busy all) (firsts s es) ≡ number (find (λ (x : ℕ × Piece _). can_go busy x.1) es))
        → find (is_free busy all) (firsts seen (e ∷ es)) ≡ number (find (λ (x : ℕ × Piece _). can_go busy x.1) (e ∷ es))
    go2 m p q true w true u more = rw (p, q, w, u) (more seen h)
    go2 m p q true w false u more = let k : true ≡ false = sym (h m w) ∙ u in absurd (cc)
    go2 m p q false w true u more =
        let f : is_free busy all e.0 ≡ false = ap (is_open busy) (here ∙ q) ∙ rw u refl in
        rw (p, q, w, u, f) (more (also m seen) (within m seen busy u h))
    go2 m p q false w false u more =
        let f : is_free busy all e.0 ≡ true = ap (is_open busy) (here ∙ q) ∙ rw u refl in
        rw (p, q, w, u, f) refl

    go : (t : Bool) → e.1.taken ≡ t → (o : Option ℕ) → e.1.lane ≡ o
        → ((s : ℕ → Bool) → ((l : ℕ) → s l ≡ true → busy l ≡ true) → find (is_free busy all) (firsts s es) ≡ number (find (λ (x : ℕ × Piece _). can_go busy x.1) es))
        → find (is_free busy all) (firsts seen (e ∷ es)) ≡ number (find (λ (x : ℕ × Piece _). can_go busy x.1) (e ∷ es))
    go true p o q more = rw p (more seen h)
    go false p None q more =
        let f : is_free busy all e.0 ≡ true = ap (is_open busy) (here ∙ q) in
        rw (p, q, f) refl
    go false p (Some m) q more = go2 m p q (seen m) refl (busy m) refl more
