-- A piece that comes last.
use Rattle.std.proofs.Common.{◌≡◌, ℕ, ◌+◌, ◌==◌, ◌≤◌, nat_lt, Bool, true, false, not, ◌&&◌, List, [], ◌∷◌, ◌++◌, Option, Some, None, refl, ap, subst, arith, ◌∙◌}
use Rattle.std.specs.Prelude.{if◌then◌else◌, is_some}
use Rattle.std.specs.Ordering.{nat_cmp}
use Rattle.std.specs.BTreeMap.{insert_entry}
use Rattle.std.proofs.lemmas.Bool.{eqb-true}
use Rattle.hc_queue.specs.declared.queue.Piece.{Piece}
use Rattle.hc_queue.specs.Queue.{can_go, also, closing, firsts, is_in, in_lane, waiting, open_lane, first_of, Rises, AllBelow}

pub rises-push : {V : Type 0} (low n : ℕ) (p : Piece V) (es : List (ℕ × Piece V)) → Rises low n es → Rises low (n + 1) (es ++ (n, p) ∷ [])
rises-push low n p [] r = (r, omega arith)
rises-push low n p (e ∷ es) r = (r.0, rises-push (e.0 + 1) n p es r.1)

high-above : {V : Type 0} (low high : ℕ) (es : List (ℕ × Piece V)) → Rises low high es → low ≤ high
high-above low high [] r = r
high-above low high (e ∷ es) r = let k : e.0 + 1 ≤ high = high-above (e.0 + 1) high es r.1 in omega (arith, r.0, k)

pub entry-end : {V : Type 0} (low n : ℕ) (p : Piece V) (es : List (ℕ × Piece V)) → Rises low n es → insert_entry nat_cmp es n p ≡ es ++ (n, p) ∷ []
entry-end low n p [] r = refl
entry-end low n p (e ∷ es) r =
    let k : e.0 + 1 ≤ n = high-above (e.0 + 1) n es r.1 in
    let x : nat_lt n e.0 ≡ false = (grind (arith, k)) in let y : (n == e.0) ≡ false = (grind (arith, k)) in
    rw (x, y) (ap (λ (xs : List (ℕ × Piece _)). e ∷ xs) (entry-end (e.0 + 1) n p es r.1))

pub waiting-below : {V : Type 0} (lane low high : ℕ) (es : List (ℕ × Piece V)) → Rises low high es → AllBelow high (waiting lane es)
waiting-below lane low high [] r = tt
waiting-below lane low high (e ∷ es) r = go (not e.1.taken && is_in lane e.1.lane) (waiting-below lane (e.0 + 1) high es r.1)
  where
    go : (t : Bool) → AllBelow high (waiting lane es) → AllBelow high (if t then e.0 ∷ waiting lane es else waiting lane es)
    go true a = (let k : e.0 + 1 ≤ high = high-above (e.0 + 1) high es r.1 in omega (arith, k), a)
    go false a = a

pub lane-below : {V : Type 0} (lane low high : ℕ) (es : List (ℕ × Piece V)) → Rises low high es → AllBelow high (in_lane lane es)
lane-below lane low high [] r = tt
lane-below lane low high (e ∷ es) r = go (is_in lane e.1.lane) (lane-below lane (e.0 + 1) high es r.1)
  where
    go : (t : Bool) → AllBelow high (in_lane lane es) → AllBelow high (if t then e.0 ∷ in_lane lane es else in_lane lane es)
    go true a = (let k : e.0 + 1 ≤ high = high-above (e.0 + 1) high es r.1 in omega (arith, k), a)
    go false a = a

pub firsts-below : {V : Type 0} (busy : ℕ → Bool) (low high : ℕ) (es : List (ℕ × Piece V)) → Rises low high es → AllBelow high (firsts busy es)
firsts-below busy low high [] r = tt
firsts-below busy low high (e ∷ es) r = go (can_go busy e.1) (firsts-below (closing e.1.lane busy) (e.0 + 1) high es r.1) (firsts-below busy (e.0 + 1) high es r.1)
  where
    go : (t : Bool) → AllBelow high (firsts (closing e.1.lane busy) es) → AllBelow high (firsts busy es) → AllBelow high (if t then e.0 ∷ firsts (closing e.1.lane busy) es else firsts busy es)
    go true a b = (let k : e.0 + 1 ≤ high = high-above (e.0 + 1) high es r.1 in omega (arith, k), a)
    go false a b = b

pub waiting-push : {V : Type 0} (m n : ℕ) (p : Piece V) (es : List (ℕ × Piece V)) → waiting m (es ++ (n, p) ∷ []) ≡ (if is_in m (open_lane p) then waiting m es ++ n ∷ [] else waiting m es)
waiting-push m n p [] = go p.taken
  where
    go : (t : Bool) → (if not t && is_in m p.lane then n ∷ [] else []) ≡ (if is_in m (if t then None else p.lane) then n ∷ [] else [])
    go true = refl
    go false = refl
waiting-push m n p (e ∷ es) = go (not e.1.taken && is_in m e.1.lane) (is_in m (open_lane p)) refl (waiting-push m n p es)
  where
    go : (t : Bool) (u : Bool) → is_in m (open_lane p) ≡ u → waiting m (es ++ (n, p) ∷ []) ≡ (if is_in m (open_lane p) then waiting m es ++ n ∷ [] else waiting m es)
        → (if t then e.0 ∷ waiting m (es ++ (n, p) ∷ []) else waiting m (es ++ (n, p) ∷ [])) ≡ (if is_in m (open_lane p) then (if t then e.0 ∷ waiting m es else waiting m es) ++ n ∷ [] else (if t then e.0 ∷ waiting m es else waiting m es))
    go true true q more = rw q (ap (λ (ns : List ℕ). e.0 ∷ ns) (more ∙ rw q refl))
    go true false q more = rw q (ap (λ (ns : List ℕ). e.0 ∷ ns) (more ∙ rw q refl))
    go false true q more = rw q (more ∙ rw q refl)
    go false false q more = rw q (more ∙ rw q refl)

pub lane-push : {V : Type 0} (m n : ℕ) (p : Piece V) (es : List (ℕ × Piece V)) → in_lane m (es ++ (n, p) ∷ []) ≡ (if is_in m p.lane then in_lane m es ++ n ∷ [] else in_lane m es)
lane-push m n p [] = refl
lane-push m n p (e ∷ es) = go (is_in m e.1.lane) (is_in m p.lane) refl (lane-push m n p es)
  where
    go : (t : Bool) (u : Bool) → is_in m p.lane ≡ u → in_lane m (es ++ (n, p) ∷ []) ≡ (if is_in m p.lane then in_lane m es ++ n ∷ [] else in_lane m es)
        → (if t then e.0 ∷ in_lane m (es ++ (n, p) ∷ []) else in_lane m (es ++ (n, p) ∷ [])) ≡ (if is_in m p.lane then (if t then e.0 ∷ in_lane m es else in_lane m es) ++ n ∷ [] else (if t then e.0 ∷ in_lane m es else in_lane m es))
    go true true q more = rw q (ap (λ (ns : List ℕ). e.0 ∷ ns) (more ∙ rw q refl))
    go true false q more = rw q (ap (λ (ns : List ℕ). e.0 ∷ ns) (more ∙ rw q refl))
    go false true q more = rw q (more ∙ rw q refl)
    go false false q more = rw q (more ∙ rw q refl)

pub push-taken : {V : Type 0} (busy : ℕ → Bool) (n : ℕ) (p : Piece V) (es : List (ℕ × Piece V)) → p.taken ≡ true → firsts busy (es ++ (n, p) ∷ []) ≡ firsts busy es
push-taken busy n p [] f = rw f refl
push-taken busy n p (e ∷ es) f = go (can_go busy e.1) (push-taken (closing e.1.lane busy) n p es f) (push-taken busy n p es f)
  where
    go : (t : Bool) → firsts (closing e.1.lane busy) (es ++ (n, p) ∷ []) ≡ firsts (closing e.1.lane busy) es → firsts busy (es ++ (n, p) ∷ []) ≡ firsts busy es
        → (if t then e.0 ∷ firsts (closing e.1.lane busy) (es ++ (n, p) ∷ []) else firsts busy (es ++ (n, p) ∷ [])) ≡ (if t then e.0 ∷ firsts (closing e.1.lane busy) es else firsts busy es)
    go true a b = ap (λ (ns : List ℕ). e.0 ∷ ns) a
    go false a b = b

pub push-none : {V : Type 0} (busy : ℕ → Bool) (n : ℕ) (p : Piece V) (es : List (ℕ × Piece V)) → p.taken ≡ false → p.lane ≡ None → firsts busy (es ++ (n, p) ∷ []) ≡ firsts busy es ++ n ∷ []
push-none busy n p [] f o = rw (f, o) refl
push-none busy n p (e ∷ es) f o = go (can_go busy e.1) (push-none (closing e.1.lane busy) n p es f o) (push-none busy n p es f o)
  where
    go : (t : Bool) → firsts (closing e.1.lane busy) (es ++ (n, p) ∷ []) ≡ firsts (closing e.1.lane busy) es ++ n ∷ [] → firsts busy (es ++ (n, p) ∷ []) ≡ firsts busy es ++ n ∷ []
        → (if t then e.0 ∷ firsts (closing e.1.lane busy) (es ++ (n, p) ∷ []) else firsts busy (es ++ (n, p) ∷ [])) ≡ (if t then e.0 ∷ firsts (closing e.1.lane busy) es else firsts busy es) ++ n ∷ []
    go true a b = ap (λ (ns : List ℕ). e.0 ∷ ns) a
    go false a b = b

-- whether a piece of the lane that comes last is the first of it that can go
abbrev pub comes : {V : Type 0} → (ℕ → Bool) → ℕ → List (ℕ × Piece V) → Bool
comes busy l es = not (busy l) && not (is_some (first_of (waiting l es)))

pub push-some : {V : Type 0} (busy : ℕ → Bool) (n l : ℕ) (p : Piece V) (es : List (ℕ × Piece V)) → p.taken ≡ false → p.lane ≡ Some l
    → firsts busy (es ++ (n, p) ∷ []) ≡ firsts busy es ++ (if comes busy l es then n ∷ [] else [])
push-some busy n l p [] f o = rw (f, o) (go (busy l))
  where
    go : (t : Bool) → (if not t then n ∷ [] else []) ≡ (if not t && true then n ∷ [] else [])
    go true = refl
    go false = refl
push-some busy n l p (e ∷ es) f o = go e.1.taken refl e.1.lane refl (λ b. push-some b n l p es f o)
  where
    go2 : e.1.taken ≡ false → (k : ℕ) → e.1.lane ≡ Some k → (s : Bool) → (k == l) ≡ s → (u : Bool) → busy k ≡ u
        → ((b : ℕ → Bool) → firsts b (es ++ (n, p) ∷ []) ≡ firsts b es ++ (if comes b l es then n ∷ [] else []))
        → firsts busy (e ∷ (es ++ (n, p) ∷ [])) ≡ firsts busy (e ∷ es) ++ (if comes busy l (e ∷ es) then n ∷ [] else [])
    go2 q k w true s true u more =
        let b : busy l ≡ true = subst (λ (m : ℕ). busy m ≡ true) (eqb-true k l s) u in
        rw (q, w, u, b) (more busy ∙ rw b refl)
    go2 q k w true s false u more =
        let b : busy l ≡ false = subst (λ (m : ℕ). busy m ≡ false) (eqb-true k l s) u in
        let x : (l == k) ≡ true = (grind (arith, s)) in
        rw (q, w, s, u, b) (ap (λ (ns : List ℕ). e.0 ∷ ns) (more (also k busy) ∙ rw x refl))
    go2 q k w false s true u more = rw (q, w, s, u) (more busy)
    go2 q k w false s false u more =
        let x : (l == k) ≡ false = (grind (arith, s)) in
        rw (q, w, s, u) (ap (λ (ns : List ℕ). e.0 ∷ ns) (more (also k busy) ∙ rw x refl))

    go : (t : Bool) → e.1.taken ≡ t → (w : Option ℕ) → e.1.lane ≡ w
        → ((b : ℕ → Bool) → firsts b (es ++ (n, p) ∷ []) ≡ firsts b es ++ (if comes b l es then n ∷ [] else []))
        → firsts busy (e ∷ (es ++ (n, p) ∷ [])) ≡ firsts busy (e ∷ es) ++ (if comes busy l (e ∷ es) then n ∷ [] else [])
    go true q w v more = rw q (more busy)
    go false q None v more = rw (q, v) (ap (λ (ns : List ℕ). e.0 ∷ ns) (more busy))
    go false q (Some k) v more = go2 q k v (k == l) refl (busy k) refl more
