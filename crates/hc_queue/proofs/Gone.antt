-- A piece that doesn't wait any more.
use Rattle.std.proofs.Common.{◌≡◌, ℕ, ◌+◌, ◌==◌, ◌<◌, ◌≤◌, ◌⊎◌, inl, inr, Bool, true, false, not, ◌&&◌, ◌||◌, List, [], ◌∷◌, Option, Some, None, refl, sym, ap, subst, arith, ◌∙◌}
use Rattle.std.specs.Prelude.{if◌then◌else◌}
use Rattle.std.specs.Ordering.{nat_cmp}
use Rattle.std.specs.BTreeMap.{is_at}
use Rattle.std.specs.List.{list_any}
use Rattle.std.specs.Map.{remove_entry}
use Rattle.std.specs.Set.{remove_key}
use Rattle.std.proofs.lemmas.Bool.{eqb-true}
use Rattle.hc_queue.specs.declared.queue.Piece.{Piece}
use Rattle.hc_queue.specs.Queue.{can_go, also, closing, firsts, is_in, in_lane, waiting, first_of, Rises, without_number, turn_of, lane_at, taken_at}
use Rattle.hc_queue.proofs.Firsts.{AllFrom, from-less, is-at, remove-pass, remove-front, firsts-from}

-- the piece with the number waits in this lane, or in none
abbrev pub At : {V : Type 0} → ℕ → Option ℕ → List (ℕ × Piece V) → Type 0
At n o [] = ⊥
At n o (e ∷ es) = ((e.0 ≡ n) × (e.1.taken ≡ false) × (e.1.lane ≡ o)) ⊎ At n o es

pub at-turn : {V : Type 0} (n : ℕ) (o : Option ℕ) (es : List (ℕ × Piece V)) → turn_of n es ≡ Some o → At n o es
at-turn n o [] h = cc
at-turn n o (e ∷ es) h = go (n == e.0) refl e.1.taken refl (at-turn n o es) h
  where
    go : (t : Bool) → (n == e.0) ≡ t → (u : Bool) → e.1.taken ≡ u → (turn_of n es ≡ Some o → At n o es) → (if t then (if u then None else Some e.1.lane) else turn_of n es) ≡ Some o → At n o (e ∷ es)
    go true p true q more h = absurd (cc)
    go true p false q more h = inl (sym (eqb-true n e.0 p), q, cc)
    go false p u q more h = inr (more h)

pub rises-less : {V : Type 0} (low high : ℕ) (es : List (ℕ × Piece V)) → Rises low high es → low ≤ high
rises-less low high [] r = r
rises-less low high (e ∷ es) r = let k : e.0 + 1 ≤ high = rises-less (e.0 + 1) high es r.1 in omega (arith, r.0, k)

pub rises-lower : {V : Type 0} (a b high : ℕ) (es : List (ℕ × Piece V)) → a ≤ b → Rises b high es → Rises a high es
rises-lower a b high [] le r = omega (arith, le, r)
rises-lower a b high (e ∷ es) le r = (omega (arith, le, r.0), r.1)

pub at-from : {V : Type 0} (n low high : ℕ) (o : Option ℕ) (es : List (ℕ × Piece V)) → Rises low high es → At n o es → (low ≤ n) × (n < high)
at-from n low high o [] r a = absurd a
at-from n low high o (e ∷ es) r (inl (p, q, s)) = let k : e.0 + 1 ≤ high = rises-less (e.0 + 1) high es r.1 in (omega (arith, p, r.0), omega (arith, p, k))
at-from n low high o (e ∷ es) r (inr a) = let k : (e.0 + 1 ≤ n) × (n < high) = at-from n (e.0 + 1) high o es r.1 a in (omega (arith, r.0, k.0), k.1)

-- nothing is left out below
pub none-gone : {V : Type 0} (n low high : ℕ) (es : List (ℕ × Piece V)) → Rises low high es → n < low → without_number n es ≡ es
none-gone n low high [] r lt = refl
none-gone n low high (e ∷ es) r lt = let x : (e.0 == n) ≡ false = (grind (arith, r.0, lt)) in rw x (ap (λ (xs : List (ℕ × Piece _)). e ∷ xs) (none-gone n (e.0 + 1) high es r.1 (omega (arith, r.0, lt))))

pub rises-gone : {V : Type 0} (n low high : ℕ) (es : List (ℕ × Piece V)) → Rises low high es → Rises low high (without_number n es)
rises-gone n low high [] r = r
rises-gone n low high (e ∷ es) r = go (e.0 == n) (rises-gone n (e.0 + 1) high es r.1)
  where
    go : (t : Bool) → Rises (e.0 + 1) high (without_number n es) → Rises low high (if not t then e ∷ without_number n es else without_number n es)
    go true k = rises-lower low (e.0 + 1) high (without_number n es) (omega (arith, r.0)) k
    go false k = (r.0, k)

pub remove-entry : {V : Type 0} (n low high : ℕ) (es : List (ℕ × Piece V)) → Rises low high es → remove_entry (is_at (nat_cmp n)) es ≡ without_number n es
remove-entry n low high [] r = refl
remove-entry n low high (e ∷ es) r = go (n == e.0) refl (remove-entry n (e.0 + 1) high es r.1)
  where
    go : (t : Bool) → (n == e.0) ≡ t → remove_entry (is_at (nat_cmp n)) es ≡ without_number n es → remove_entry (is_at (nat_cmp n)) (e ∷ es) ≡ without_number n (e ∷ es)
    go true p more = let x : (e.0 == n) ≡ true = (grind (arith, p)) in let y : is_at (nat_cmp n) e.0 ≡ true = is-at n e.0 ∙ p in rw (y, x) (sym (none-gone n (e.0 + 1) high es r.1 (let z : n ≡ e.0 = eqb-true n e.0 p in omega (arith, z))))
    go false p more = let x : (e.0 == n) ≡ false = (grind (arith, p)) in let y : is_at (nat_cmp n) e.0 ≡ false = is-at n e.0 ∙ p in rw (y, x) (ap (λ (xs : List (ℕ × Piece _)). e ∷ xs) more)

-- ---- the numbers that wait in a lane

pub waiting-gone : {V : Type 0} (m n low high : ℕ) (o : Option ℕ) (es : List (ℕ × Piece V)) → Rises low high es → At n o es
    → waiting m (without_number n es) ≡ (if is_in m o then remove_key (is_at (nat_cmp n)) (waiting m es) else waiting m es)
waiting-gone m n low high o [] r a = absurd a
waiting-gone m n low high o (e ∷ es) r (inl (p, q, s)) =
    let x : (e.0 == n) ≡ true = (grind (arith, p)) in
    let k : without_number n es ≡ es = none-gone n (e.0 + 1) high es r.1 (omega (arith, p)) in
    rw x (ap (waiting m) k ∙ sym (rw (q, s) (go (is_in m o))))
  where
    go : (t : Bool) → (if t then remove_key (is_at (nat_cmp n)) (if t then e.0 ∷ waiting m es else waiting m es) else (if t then e.0 ∷ waiting m es else waiting m es)) ≡ waiting m es
    go true = subst (λ (k : ℕ). remove_key (is_at (nat_cmp n)) (k ∷ waiting m es) ≡ waiting m es) (sym p) (remove-front n (waiting m es))
    go false = refl
waiting-gone m n low high o (e ∷ es) r (inr a) =
    let k : (e.0 + 1 ≤ n) × (n < high) = at-from n (e.0 + 1) high o es r.1 a in
    let x : (e.0 == n) ≡ false = (grind (arith, k.0)) in
    rw x (go (not e.1.taken && is_in m e.1.lane) refl (is_in m o) refl (omega (arith, k.0)) (waiting-gone m n (e.0 + 1) high o es r.1 a))
  where
    go : (t : Bool) → (not e.1.taken && is_in m e.1.lane) ≡ t → (u : Bool) → is_in m o ≡ u → e.0 < n
        → waiting m (without_number n es) ≡ (if is_in m o then remove_key (is_at (nat_cmp n)) (waiting m es) else waiting m es)
        → waiting m (e ∷ without_number n es) ≡ (if is_in m o then remove_key (is_at (nat_cmp n)) (waiting m (e ∷ es)) else waiting m (e ∷ es))
    go true p true q lt more = rw (p, q) (ap (λ (ns : List ℕ). e.0 ∷ ns) (more ∙ rw q refl) ∙ sym (remove-pass e.0 n (waiting m es) lt))
    go true p false q lt more = rw (p, q) (ap (λ (ns : List ℕ). e.0 ∷ ns) (more ∙ rw q refl))
    go false p true q lt more = rw (p, q) (more ∙ rw q refl)
    go false p false q lt more = rw (p, q) (more ∙ rw q refl)

-- ---- the first ones

pub gone-none : {V : Type 0} (busy : ℕ → Bool) (n low high : ℕ) (es : List (ℕ × Piece V)) → Rises low high es → At n None es
    → firsts busy (without_number n es) ≡ remove_key (is_at (nat_cmp n)) (firsts busy es)
gone-none busy n low high [] r a = absurd a
gone-none busy n low high (e ∷ es) r (inl (p, q, s)) =
    let x : (e.0 == n) ≡ true = (grind (arith, p)) in
    let k : without_number n es ≡ es = none-gone n (e.0 + 1) high es r.1 (omega (arith, p)) in
    rw (x, q, s) (ap (firsts busy) k ∙ subst (λ (k : ℕ). firsts busy es ≡ remove_key (is_at (nat_cmp n)) (k ∷ firsts busy es)) (sym p) (sym (remove-front n (firsts busy es))))
gone-none busy n low high (e ∷ es) r (inr a) =
    let k : (e.0 + 1 ≤ n) × (n < high) = at-from n (e.0 + 1) high None es r.1 a in
    let x : (e.0 == n) ≡ false = (grind (arith, k.0)) in
    rw x (go (can_go busy e.1) refl (omega (arith, k.0)) (gone-none (closing e.1.lane busy) n (e.0 + 1) high es r.1 a) (gone-none busy n (e.0 + 1) high es r.1 a))
  where
    go : (t : Bool) → can_go busy e.1 ≡ t → e.0 < n
        → firsts (closing e.1.lane busy) (without_number n es) ≡ remove_key (is_at (nat_cmp n)) (firsts (closing e.1.lane busy) es)
        → firsts busy (without_number n es) ≡ remove_key (is_at (nat_cmp n)) (firsts busy es)
        → (if t then e.0 ∷ firsts (closing e.1.lane busy) (without_number n es) else firsts busy (without_number n es)) ≡ remove_key (is_at (nat_cmp n)) (if t then e.0 ∷ firsts (closing e.1.lane busy) es else firsts busy es)
    go true p lt more other = ap (λ (ns : List ℕ). e.0 ∷ ns) more ∙ sym (remove-pass e.0 n (firsts (closing e.1.lane busy) es) lt)
    go false p lt more other = other

pub not-among : (n : ℕ) (ns : List ℕ) → AllFrom (n + 1) ns → list_any (is_at (nat_cmp n)) ns ≡ false
not-among n [] h = refl
not-among n (m ∷ ns) h = let x : is_at (nat_cmp n) m ≡ false = is-at n m ∙ grind (arith, h.0) in rw x (not-among n ns h.1)

pub gone-other : {V : Type 0} (busy : ℕ → Bool) (n low high : ℕ) (o : Option ℕ) (es : List (ℕ × Piece V)) → Rises low high es → At n o es
    → list_any (is_at (nat_cmp n)) (firsts busy es) ≡ false → firsts busy (without_number n es) ≡ firsts busy es
gone-other busy n low high o [] r a out = absurd a
gone-other busy n low high o (e ∷ es) r (inl (p, q, s)) out =
    let x : (e.0 == n) ≡ true = (grind (arith, p)) in
    let k : without_number n es ≡ es = none-gone n (e.0 + 1) high es r.1 (omega (arith, p)) in
    rw x (ap (firsts busy) k ∙ go (can_go busy e.1) out)
  where
    go : (t : Bool) → list_any (is_at (nat_cmp n)) (if t then e.0 ∷ firsts (closing e.1.lane busy) es else firsts busy es) ≡ false → firsts busy es ≡ (if t then e.0 ∷ firsts (closing e.1.lane busy) es else firsts busy es)
    go true out = let y : is_at (nat_cmp n) e.0 ≡ true = is-at n e.0 ∙ grind (arith, p) in let k : true ≡ false = (rw y at out) in absurd (cc)
    go false out = refl
gone-other busy n low high o (e ∷ es) r (inr a) out =
    let k : (e.0 + 1 ≤ n) × (n < high) = at-from n (e.0 + 1) high o es r.1 a in
    let x : (e.0 == n) ≡ false = (grind (arith, k.0)) in
    let y : is_at (nat_cmp n) e.0 ≡ false = is-at n e.0 ∙ grind (arith, k.0) in
    rw x (go (can_go busy e.1) y (gone-other (closing e.1.lane busy) n (e.0 + 1) high o es r.1 a) (gone-other busy n (e.0 + 1) high o es r.1 a) out)
  where
    go : (t : Bool) → is_at (nat_cmp n) e.0 ≡ false
        → (list_any (is_at (nat_cmp n)) (firsts (closing e.1.lane busy) es) ≡ false → firsts (closing e.1.lane busy) (without_number n es) ≡ firsts (closing e.1.lane busy) es)
        → (list_any (is_at (nat_cmp n)) (firsts busy es) ≡ false → firsts busy (without_number n es) ≡ firsts busy es)
        → list_any (is_at (nat_cmp n)) (if t then e.0 ∷ firsts (closing e.1.lane busy) es else firsts busy es) ≡ false
        → (if t then e.0 ∷ firsts (closing e.1.lane busy) (without_number n es) else firsts busy (without_number n es)) ≡ (if t then e.0 ∷ firsts (closing e.1.lane busy) es else firsts busy es)
    go true y more other out = ap (λ (ns : List ℕ). e.0 ∷ ns) (more (rw y at out))
    go false y more other out = other out

-- ---- a piece that doesn't wait changes nothing

pub gone-idle : {V : Type 0} (busy : ℕ → Bool) (n low high : ℕ) (es : List (ℕ × Piece V)) → Rises low high es → turn_of n es ≡ None → firsts busy (without_number n es) ≡ firsts busy es
gone-idle busy n low high [] r h = refl
gone-idle busy n low high (e ∷ es) r h = go (n == e.0) refl e.1.taken refl h (λ b k. gone-idle b n (e.0 + 1) high es r.1 k)
  where
    go : (t : Bool) → (n == e.0) ≡ t → (u : Bool) → e.1.taken ≡ u → (if t then (if u then None else Some e.1.lane) else turn_of n es) ≡ None
        → ((b : ℕ → Bool) → turn_of n es ≡ None → firsts b (without_number n es) ≡ firsts b es) → firsts busy (without_number n (e ∷ es)) ≡ firsts busy (e ∷ es)
    go true p true q h more =
        let x : (e.0 == n) ≡ true = (grind (arith, p)) in
        rw (x, q) (ap (firsts busy) (none-gone n (e.0 + 1) high es r.1 (let z : n ≡ e.0 = eqb-true n e.0 p in omega (arith, z))))
    go true p false q h more = absurd (cc)
    go false p u q h more = let x : (e.0 == n) ≡ false = (grind (arith, p)) in rw x (go2 (can_go busy e.1) (more (closing e.1.lane busy) h) (more busy h))
      where
        go2 : (t : Bool) → firsts (closing e.1.lane busy) (without_number n es) ≡ firsts (closing e.1.lane busy) es → firsts busy (without_number n es) ≡ firsts busy es
            → (if t then e.0 ∷ firsts (closing e.1.lane busy) (without_number n es) else firsts busy (without_number n es)) ≡ (if t then e.0 ∷ firsts (closing e.1.lane busy) es else firsts busy es)
        go2 true a b = ap (λ (ns : List ℕ). e.0 ∷ ns) a
        go2 false a b = b

pub waiting-idle : {V : Type 0} (m n low high : ℕ) (es : List (ℕ × Piece V)) → Rises low high es → turn_of n es ≡ None → waiting m (without_number n es) ≡ waiting m es
waiting-idle m n low high [] r h = refl
waiting-idle m n low high (e ∷ es) r h = go (n == e.0) refl e.1.taken refl h (λ k. waiting-idle m n (e.0 + 1) high es r.1 k)
  where
    go : (t : Bool) → (n == e.0) ≡ t → (u : Bool) → e.1.taken ≡ u → (if t then (if u then None else Some e.1.lane) else turn_of n es) ≡ None
        → (turn_of n es ≡ None → waiting m (without_number n es) ≡ waiting m es) → waiting m (without_number n (e ∷ es)) ≡ waiting m (e ∷ es)
    go true p true q h more =
        let x : (e.0 == n) ≡ true = (grind (arith, p)) in
        rw (x, q) (ap (waiting m) (none-gone n (e.0 + 1) high es r.1 (let z : n ≡ e.0 = eqb-true n e.0 p in omega (arith, z))))
    go true p false q h more = absurd (cc)
    go false p u q h more = let x : (e.0 == n) ≡ false = (grind (arith, p)) in rw x (ap (λ (ns : List ℕ). if not e.1.taken && is_in m e.1.lane then e.0 ∷ ns else ns) (more h))

-- ---- a piece that was taken is passed over

pub firsts-taken : {V : Type 0} (busy : ℕ → Bool) (n : ℕ) (es : List (ℕ × Piece V)) → firsts busy (taken_at n es) ≡ firsts busy (without_number n es)
firsts-taken busy n [] = refl
firsts-taken busy n (e ∷ es) = go (e.0 == n) (can_go busy e.1) (firsts-taken (closing e.1.lane busy) n es) (firsts-taken busy n es)
  where
    go : (t u : Bool) → firsts (closing e.1.lane busy) (taken_at n es) ≡ firsts (closing e.1.lane busy) (without_number n es) → firsts busy (taken_at n es) ≡ firsts busy (without_number n es)
        → firsts busy ((if t then (e.0, record e.1 { taken = true }) else e) ∷ taken_at n es) ≡ firsts busy (if not t then e ∷ without_number n es else without_number n es)
    go true u a b = b
    go false u a b = go2 (can_go busy e.1)
      where
        go2 : (u : Bool) → (if u then e.0 ∷ firsts (closing e.1.lane busy) (taken_at n es) else firsts busy (taken_at n es)) ≡ (if u then e.0 ∷ firsts (closing e.1.lane busy) (without_number n es) else firsts busy (without_number n es))
        go2 true = ap (λ (ns : List ℕ). e.0 ∷ ns) a
        go2 false = b

pub waiting-taken : {V : Type 0} (m n : ℕ) (es : List (ℕ × Piece V)) → waiting m (taken_at n es) ≡ waiting m (without_number n es)
waiting-taken m n [] = refl
waiting-taken m n (e ∷ es) = go (e.0 == n) (waiting-taken m n es)
  where
    go : (t : Bool) → waiting m (taken_at n es) ≡ waiting m (without_number n es)
        → waiting m ((if t then (e.0, record e.1 { taken = true }) else e) ∷ taken_at n es) ≡ waiting m (if not t then e ∷ without_number n es else without_number n es)
    go true a = a
    go false a = ap (λ (ns : List ℕ). if not e.1.taken && is_in m e.1.lane then e.0 ∷ ns else ns) a

pub rises-taken : {V : Type 0} (n low high : ℕ) (es : List (ℕ × Piece V)) → Rises low high es → Rises low high (taken_at n es)
rises-taken n low high [] r = r
rises-taken n low high (e ∷ es) r = go (e.0 == n) (rises-taken n (e.0 + 1) high es r.1)
  where
    go : (t : Bool) → Rises (e.0 + 1) high (taken_at n es) → Rises low high ((if t then (e.0, record e.1 { taken = true }) else e) ∷ taken_at n es)
    go true k = (r.0, k)
    go false k = (r.0, k)

-- a piece of a busy lane isn't among the first ones
pub not-first : {V : Type 0} (busy : ℕ → Bool) (n low high l : ℕ) (es : List (ℕ × Piece V)) → Rises low high es → At n (Some l) es → busy l ≡ true → list_any (is_at (nat_cmp n)) (firsts busy es) ≡ false
not-first busy n low high l [] r a b = absurd a
not-first busy n low high l (e ∷ es) r (inl (p, q, s)) b =
    let f : firsts busy (e ∷ es) ≡ firsts busy es = rw (q, s, b) refl in
    ap (list_any (is_at (nat_cmp n))) f ∙ not-among n _ (from-less (n + 1) (e.0 + 1) _ (omega (arith, p)) (firsts-from busy es (e.0 + 1) high r.1))
not-first busy n low high l (e ∷ es) r (inr a) b =
    let k : (e.0 + 1 ≤ n) × (n < high) = at-from n (e.0 + 1) high (Some l) es r.1 a in
    let y : is_at (nat_cmp n) e.0 ≡ false = is-at n e.0 ∙ grind (arith, k.0) in
    go (can_go busy e.1) y (not-first (closing e.1.lane busy) n (e.0 + 1) high l es r.1 a (still e.1.lane)) (not-first busy n (e.0 + 1) high l es r.1 a b)
  where
    or-true : (c d : Bool) → d ≡ true → (c || d) ≡ true
    or-true true d h = refl
    or-true false d h = h

    still : (o : Option ℕ) → closing o busy l ≡ true
    still None = b
    still (Some m) = or-true (l == m) (busy l) b

    go : (t : Bool) → is_at (nat_cmp n) e.0 ≡ false → list_any (is_at (nat_cmp n)) (firsts (closing e.1.lane busy) es) ≡ false → list_any (is_at (nat_cmp n)) (firsts busy es) ≡ false
        → list_any (is_at (nat_cmp n)) (if t then e.0 ∷ firsts (closing e.1.lane busy) es else firsts busy es) ≡ false
    go true y more other = rw y more
    go false y more other = other

-- what is among the first ones is the first of its lane
pub first-waits : {V : Type 0} (busy : ℕ → Bool) (n low high l : ℕ) (es : List (ℕ × Piece V)) → Rises low high es → At n (Some l) es → list_any (is_at (nat_cmp n)) (firsts busy es) ≡ true → first_of (waiting l es) ≡ Some n
first-waits busy n low high l [] r a among = absurd a
first-waits busy n low high l (e ∷ es) r (inl (p, q, s)) among = let same : (l == l) ≡ true = (grind (arith)) in rw (q, s, same) (ap (λ (k : ℕ). Some k) p)
first-waits busy n low high l (e ∷ es) r (inr a) among =
    let k : (e.0 + 1 ≤ n) × (n < high) = at-from n (e.0 + 1) high (Some l) es r.1 a in
    let y : is_at (nat_cmp n) e.0 ≡ false = is-at n e.0 ∙ grind (arith, k.0) in
    go e.1.taken refl e.1.lane refl (λ b m. first-waits b n (e.0 + 1) high l es r.1 a m) (λ b m. not-first b n (e.0 + 1) high l es r.1 a m) y among
  where
    go2 : (m : ℕ) → e.1.taken ≡ false → e.1.lane ≡ Some m → (s : Bool) → (m == l) ≡ s → (u : Bool) → busy m ≡ u
        → ((b : ℕ → Bool) → list_any (is_at (nat_cmp n)) (firsts b es) ≡ true → first_of (waiting l es) ≡ Some n)
        → ((b : ℕ → Bool) → b l ≡ true → list_any (is_at (nat_cmp n)) (firsts b es) ≡ false) → is_at (nat_cmp n) e.0 ≡ false
        → list_any (is_at (nat_cmp n)) (firsts busy (e ∷ es)) ≡ true → first_of (waiting l (e ∷ es)) ≡ Some n
    go2 m p q true s true u more none y h =
        let b : busy l ≡ true = subst (λ (x : ℕ). busy x ≡ true) (eqb-true m l s) u in
        let k : true ≡ false = sym (rw (p, q, u) at h) ∙ none busy b in absurd (cc)
    go2 m p q true s false u more none y h =
        let x : (l == m) ≡ true = (grind (arith, s)) in
        let b : also m busy l ≡ true = rw x refl in
        let k : true ≡ false = sym (rw (p, q, u, y) at h) ∙ none (also m busy) b in absurd (cc)
    go2 m p q false s true u more none y h = rw (p, q, s) (more busy (rw (p, q, u) at h))
    go2 m p q false s false u more none y h = rw (p, q, s) (more (also m busy) (rw (p, q, u, y) at h))

    go : (t : Bool) → e.1.taken ≡ t → (o : Option ℕ) → e.1.lane ≡ o
        → ((b : ℕ → Bool) → list_any (is_at (nat_cmp n)) (firsts b es) ≡ true → first_of (waiting l es) ≡ Some n)
        → ((b : ℕ → Bool) → b l ≡ true → list_any (is_at (nat_cmp n)) (firsts b es) ≡ false) → is_at (nat_cmp n) e.0 ≡ false
        → list_any (is_at (nat_cmp n)) (firsts busy (e ∷ es)) ≡ true → first_of (waiting l (e ∷ es)) ≡ Some n
    go true p o q more none y h = rw p (more busy (rw p at h))
    go false p None q more none y h = rw (p, q) (more busy (rw (p, q, y) at h))
    go false p (Some m) q more none y h = go2 m p q (m == l) refl (busy m) refl more none y h

-- what waits in a lane stands there
pub at-waits : {V : Type 0} (n l : ℕ) (es : List (ℕ × Piece V)) → At n (Some l) es → list_any (is_at (nat_cmp n)) (waiting l es) ≡ true
at-waits n l [] a = absurd a
at-waits n l (e ∷ es) (inl (p, q, s)) =
    let same : (l == l) ≡ true = (grind (arith)) in let y : is_at (nat_cmp n) e.0 ≡ true = is-at n e.0 ∙ grind (arith, p) in rw (q, s, same, y) refl
at-waits n l (e ∷ es) (inr a) = go (not e.1.taken && is_in l e.1.lane) (is_at (nat_cmp n) e.0) refl (at-waits n l es a)
  where
    go : (t u : Bool) → is_at (nat_cmp n) e.0 ≡ u → list_any (is_at (nat_cmp n)) (waiting l es) ≡ true → list_any (is_at (nat_cmp n)) (if t then e.0 ∷ waiting l es else waiting l es) ≡ true
    go true true y more = rw y refl
    go true false y more = rw y more
    go false u y more = more

-- ---- the lanes' pieces, taken or not

pub lane-gone : {V : Type 0} (m n low high : ℕ) (es : List (ℕ × Piece V)) → Rises low high es
    → in_lane m (without_number n es) ≡ (if is_in m (lane_at n es) then remove_key (is_at (nat_cmp n)) (in_lane m es) else in_lane m es)
lane-gone m n low high [] r = refl
lane-gone m n low high (e ∷ es) r = go (n == e.0) refl (is_in m e.1.lane) refl (lane-gone m n (e.0 + 1) high es r.1)
  where
    go : (t : Bool) → (n == e.0) ≡ t → (u : Bool) → is_in m e.1.lane ≡ u
        → in_lane m (without_number n es) ≡ (if is_in m (lane_at n es) then remove_key (is_at (nat_cmp n)) (in_lane m es) else in_lane m es)
        → in_lane m (without_number n (e ∷ es)) ≡ (if is_in m (lane_at n (e ∷ es)) then remove_key (is_at (nat_cmp n)) (in_lane m (e ∷ es)) else in_lane m (e ∷ es))
    go true p true q more =
        let z : n ≡ e.0 = eqb-true n e.0 p in
        let x : (e.0 == n) ≡ true = (grind (arith, p)) in
        let y : is_at (nat_cmp n) e.0 ≡ true = is-at n e.0 ∙ p in
        rw (x, p, q, y) (ap (in_lane m) (none-gone n (e.0 + 1) high es r.1 (omega (arith, z))))
    go true p false q more =
        let z : n ≡ e.0 = eqb-true n e.0 p in
        let x : (e.0 == n) ≡ true = (grind (arith, p)) in
        rw (x, p, q) (ap (in_lane m) (none-gone n (e.0 + 1) high es r.1 (omega (arith, z))))
    go false p true q more = let x : (e.0 == n) ≡ false = (grind (arith, p)) in let y : is_at (nat_cmp n) e.0 ≡ false = is-at n e.0 ∙ p in rw (x, p, q, y) (ap (λ (ns : List ℕ). e.0 ∷ ns) more ∙ go2 (is_in m (lane_at n es)))
      where
        go2 : (w : Bool) → e.0 ∷ (if w then remove_key (is_at (nat_cmp n)) (in_lane m es) else in_lane m es) ≡ (if w then e.0 ∷ remove_key (is_at (nat_cmp n)) (in_lane m es) else e.0 ∷ in_lane m es)
        go2 true = refl
        go2 false = refl
    go false p false q more = let x : (e.0 == n) ≡ false = (grind (arith, p)) in rw (x, p, q) more

pub lane-taken : {V : Type 0} (m n : ℕ) (es : List (ℕ × Piece V)) → in_lane m (taken_at n es) ≡ in_lane m es
lane-taken m n [] = refl
lane-taken m n (e ∷ es) = go (e.0 == n) (lane-taken m n es)
  where
    go : (t : Bool) → in_lane m (taken_at n es) ≡ in_lane m es → in_lane m ((if t then (e.0, record e.1 { taken = true }) else e) ∷ taken_at n es) ≡ in_lane m (e ∷ es)
    go true more = ap (λ (ns : List ℕ). if is_in m e.1.lane then e.0 ∷ ns else ns) more
    go false more = ap (λ (ns : List ℕ). if is_in m e.1.lane then e.0 ∷ ns else ns) more
