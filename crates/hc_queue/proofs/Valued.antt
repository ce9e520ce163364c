-- A piece whose value is another: its key, its lane and its turn stay.
use Rattle.std.proofs.Common.{◌≡◌, ℕ, ◌+◌, ◌-◌, ◌==◌, ◌<◌, ◌≤◌, Bool, true, false, not, ◌&&◌, List, [], ◌∷◌, ◌++◌, length, zero, suc, Option, Some, None, refl, sym, ap, subst, arith, ◌∙◌}
use Rattle.std.specs.Prelude.{if◌then◌else◌}
use Rattle.std.specs.Ordering.{nat_cmp}
use Rattle.std.specs.BTreeMap.{is_at}
use Rattle.std.specs.Map.{lookup, set_value}
use Rattle.std.proofs.lemmas.Bool.{eqb-true}
use Rattle.indexmap.specs.IndexMap.{IndexMap}
use Rattle.hc_queue.specs.declared.queue.Piece.{Piece}
use Rattle.hc_queue.specs.declared.keyed.Named.{Named}
use Rattle.hc_queue.specs.Queue.{Rises, Kept, firsts, waiting, in_lane, is_in, is_among, can_go, closing, numbered}
use Rattle.hc_queue.specs.Keys.{named, named_at, named_place, number_of, same_key, AreApart, IsIndexed}
use Rattle.hc_queue.proofs.Firsts.{is-at}
use Rattle.hc_queue.proofs.Gone.{rises-less}
use Rattle.hc_queue.proofs.Places.{rises-numbered}

-- ---- what stays

rises-named : {V A : Type 0} (v : V) (n low high : ℕ) (es : List (ℕ × Piece (Named V A))) → Rises low high es → Rises low high (named_at n v es)
rises-named v n low high [] r = r
rises-named v n low high (e ∷ es) r = go (e.0 == n) (rises-named v n (e.0 + 1) high es r.1)
  where
    go : (t : Bool) → Rises (e.0 + 1) high (named_at n v es) → Rises low high ((if t then (e.0, named v e.1) else e) ∷ named_at n v es)
    go true k = (r.0, k)
    go false k = (r.0, k)

lane-named : {V A : Type 0} (v : V) (m n : ℕ) (es : List (ℕ × Piece (Named V A))) → in_lane m (named_at n v es) ≡ in_lane m es
lane-named v m n [] = refl
lane-named v m n (e ∷ es) = go (e.0 == n) (lane-named v m n es)
  where
    go : (t : Bool) → in_lane m (named_at n v es) ≡ in_lane m es → in_lane m ((if t then (e.0, named v e.1) else e) ∷ named_at n v es) ≡ in_lane m (e ∷ es)
    go true more = ap (λ (ns : List ℕ). if is_in m e.1.lane then e.0 ∷ ns else ns) more
    go false more = ap (λ (ns : List ℕ). if is_in m e.1.lane then e.0 ∷ ns else ns) more

waiting-named : {V A : Type 0} (v : V) (m n : ℕ) (es : List (ℕ × Piece (Named V A))) → waiting m (named_at n v es) ≡ waiting m es
waiting-named v m n [] = refl
waiting-named v m n (e ∷ es) = go (e.0 == n) (waiting-named v m n es)
  where
    go : (t : Bool) → waiting m (named_at n v es) ≡ waiting m es → waiting m ((if t then (e.0, named v e.1) else e) ∷ named_at n v es) ≡ waiting m (e ∷ es)
    go true more = ap (λ (ns : List ℕ). if not e.1.taken && is_in m e.1.lane then e.0 ∷ ns else ns) more
    go false more = ap (λ (ns : List ℕ). if not e.1.taken && is_in m e.1.lane then e.0 ∷ ns else ns) more

firsts-named : {V A : Type 0} (v : V) (busy : ℕ → Bool) (n : ℕ) (es : List (ℕ × Piece (Named V A))) → firsts busy (named_at n v es) ≡ firsts busy es
firsts-named v busy n [] = refl
firsts-named v busy n (e ∷ es) = go (e.0 == n) (firsts-named v (closing e.1.lane busy) n es) (firsts-named v busy n es)
  where
    go : (t : Bool) → firsts (closing e.1.lane busy) (named_at n v es) ≡ firsts (closing e.1.lane busy) es → firsts busy (named_at n v es) ≡ firsts busy es
        → firsts busy ((if t then (e.0, named v e.1) else e) ∷ named_at n v es) ≡ firsts busy (e ∷ es)
    go true a b = λ i. if can_go busy e.1 then e.0 ∷ a i else b i
    go false a b = λ i. if can_go busy e.1 then e.0 ∷ a i else b i

pub kept-named : {V A : Type 0} (v : V) (n : ℕ) (es : List (ℕ × Piece (Named V A))) (ps ws : List (ℕ × ℕ)) (rs ls : List ℕ) (most : ℕ) → Kept es ps ws rs ls most → Kept (named_at n v es) ps ws rs ls most
kept-named v n es ps ws rs ls most k = record {
  rises = (k.rises.0, rises-named v n 0 k.rises.0 es k.rises.1);
  in_lanes = λ m. k.in_lanes m ∙ sym (lane-named v m n es);
  by_lane = λ m. k.by_lane m ∙ sym (waiting-named v m n es);
  serves = k.serves ∙ sym (firsts-named v (is_among ls) n es);
  distinct = k.distinct;
  room = k.room;
}

pub length-named : {V A : Type 0} (v : V) (n : ℕ) (es : List (ℕ × Piece (Named V A))) → length (named_at n v es) ≡ length es
length-named v n [] = refl
length-named v n (e ∷ es) = ap (λ (k : ℕ). suc k) (length-named v n es)

-- ---- a number that no piece has

named-below : {V A : Type 0} (v : V) (n low high : ℕ) (es : List (ℕ × Piece (Named V A))) → Rises low high es → n < low → named_at n v es ≡ es
named-below v n low high [] r lt = refl
named-below v n low high (e ∷ es) r lt =
    let x : (e.0 == n) ≡ false = (grind (arith, r.0, lt)) in
    rw x (ap (λ (xs : List (ℕ × Piece (Named _ _))). e ∷ xs) (named-below v n (e.0 + 1) high es r.1 (omega (arith, r.0, lt))))

named-above : {V A : Type 0} (v : V) (n low high : ℕ) (es : List (ℕ × Piece (Named V A))) → Rises low high es → high ≤ n → named_at n v es ≡ es
named-above v n low high [] r le = refl
named-above v n low high (e ∷ es) r le =
    let k : e.0 + 1 ≤ high = rises-less (e.0 + 1) high es r.1 in let x : (e.0 == n) ≡ false = (grind (arith, k, le)) in
    rw x (ap (λ (xs : List (ℕ × Piece (Named _ _))). e ∷ xs) (named-above v n (e.0 + 1) high es r.1 le))

-- ---- the value of a map is set

some-same : {X : Type 0} (x y : X) → ◌≡◌ {A = Option X} (Some x) (Some y) → x ≡ y
some-same x y h = cc

pub set-named : {V A : Type 0} (v : V) (n low high : ℕ) (p : Piece (Named V A)) (es : List (ℕ × Piece (Named V A))) → Rises low high es → Some p ≡ lookup (is_at (nat_cmp n)) es
    → set_value (is_at (nat_cmp n)) es (named v p) ≡ named_at n v es
set-named v n low high p [] r h = refl
set-named v n low high p (e ∷ es) r h = go (n == e.0) refl (λ k. set-named v n (e.0 + 1) high p es r.1 k)
  where
    go : (t : Bool) → (n == e.0) ≡ t → (Some p ≡ lookup (is_at (nat_cmp n)) es → set_value (is_at (nat_cmp n)) es (named v p) ≡ named_at n v es)
        → set_value (is_at (nat_cmp n)) (e ∷ es) (named v p) ≡ named_at n v (e ∷ es)
    go true q more =
        let x : (e.0 == n) ≡ true = (grind (arith, q)) in let y : is_at (nat_cmp n) e.0 ≡ true = is-at n e.0 ∙ q in
        let k : p ≡ e.1 = some-same p e.1 (rw y at h) in
        let z : named_at n v es ≡ es = named-below v n (e.0 + 1) high es r.1 (let m : n ≡ e.0 = eqb-true n e.0 q in omega (arith, m)) in
        rw (y, x, z) (ap (λ (w : Piece (Named _ _)). (e.0, named v w) ∷ es) k)
    go false q more =
        let x : (e.0 == n) ≡ false = (grind (arith, q)) in let y : is_at (nat_cmp n) e.0 ≡ false = is-at n e.0 ∙ q in
        rw (y, x) (ap (λ (xs : List (ℕ × Piece (Named _ _))). e ∷ xs) (more (rw y at h)))

pub idle-named : {V A : Type 0} (v : V) (n : ℕ) (es : List (ℕ × Piece (Named V A))) → ◌≡◌ {A = Option (Piece (Named V A))} None (lookup (is_at (nat_cmp n)) es) → named_at n v es ≡ es
idle-named v n [] h = refl
idle-named v n (e ∷ es) h = go (n == e.0) refl (λ k. idle-named v n es k)
  where
    go : (t : Bool) → (n == e.0) ≡ t → (◌≡◌ {A = Option (Piece (Named _ _))} None (lookup (is_at (nat_cmp n)) es) → named_at n v es ≡ es) → named_at n v (e ∷ es) ≡ e ∷ es
    go true q more = let y : is_at (nat_cmp n) e.0 ≡ true = is-at n e.0 ∙ q in let k : ◌≡◌ {A = Option (Piece (Named _ _))} None (Some e.1) = (rw y at h) in absurd (cc)
    go false q more =
        let x : (e.0 == n) ≡ false = (grind (arith, q)) in let y : is_at (nat_cmp n) e.0 ≡ false = is-at n e.0 ∙ q in
        rw x (ap (λ (xs : List (ℕ × Piece (Named _ _))). e ∷ xs) (more (rw y at h)))

-- ---- by a number, wherever the piece stands

named-both : {V A : Type 0} (v : V) (n : ℕ) (es fs : List (ℕ × Piece (Named V A))) → named_at n v (es ++ fs) ≡ named_at n v es ++ named_at n v fs
named-both v n [] fs = refl
named-both v n (e ∷ es) fs = ap (λ (xs : List (ℕ × Piece (Named _ _))). (if e.0 == n then (e.0, named v e.1) else e) ∷ xs) (named-both v n es fs)

place-named : {V A : Type 0} (v : V) (i from n : ℕ) (xs : List (Option (Piece (Named V A)))) → n ≡ from + i → named_at n v (numbered from xs) ≡ numbered from (named_place i v xs)
place-named v i from n [] e = refl
place-named v zero from n (None ∷ xs) e = named-below v n (from + 1) _ (numbered (from + 1) xs) (rises-numbered (from + 1) (from + 1 + length xs) xs (omega arith)) (omega (arith, e))
place-named v zero from n (Some p ∷ xs) e =
    let x : (from == n) ≡ true = (grind (arith, e)) in
    rw x (ap (λ (ys : List (ℕ × Piece (Named _ _))). (from, named v p) ∷ ys) (named-below v n (from + 1) _ (numbered (from + 1) xs) (rises-numbered (from + 1) (from + 1 + length xs) xs (omega arith)) (omega (arith, e))))
place-named v (suc i) from n (None ∷ xs) e = place-named v i (from + 1) n xs (omega (arith, e))
place-named v (suc i) from n (Some p ∷ xs) e =
    let x : (from == n) ≡ false = (grind (arith, e)) in
    rw x (ap (λ (ys : List (ℕ × Piece (Named _ _))). (from, p) ∷ ys) (place-named v i (from + 1) n xs (omega (arith, e))))

pub named-front : {V A : Type 0} (v : V) (n from : ℕ) (es : List (ℕ × Piece (Named V A))) (xs : List (Option (Piece (Named V A)))) → n < from → named_at n v es ++ numbered from xs ≡ named_at n v (es ++ numbered from xs)
named-front v n from es xs lt = ap (λ (ys : List (ℕ × Piece (Named _ _))). named_at n v es ++ ys) (sym (named-below v n from _ (numbered from xs) (rises-numbered from (from + length xs) xs (omega arith)) lt)) ∙ sym (named-both v n es (numbered from xs))

pub named-back : {V A : Type 0} (v : V) (n from : ℕ) (es : List (ℕ × Piece (Named V A))) (xs : List (Option (Piece (Named V A)))) → Rises 0 from es → from ≤ n → es ++ numbered from (named_place (n - from) v xs) ≡ named_at n v (es ++ numbered from xs)
named-back v n from es xs r le =
    (λ i. sym (named-above v n 0 from es r le) i ++ sym (place-named v (n - from) from n xs (omega (arith, le))) i) ∙ sym (named-both v n es (numbered from xs))

pub rises-valued : {V A : Type 0} (v : V) (n from : ℕ) (es fs : List (ℕ × Piece (Named V A))) → fs ≡ named_at n v es → Rises 0 from es → Rises 0 from fs
rises-valued v n from es fs is r = subst (Rises 0 from) (sym is) (rises-named v n 0 from es r)

-- ---- the map

number-named : {V A : Type 0} (v : V) (q : List ℕ) (n : ℕ) (es : List (ℕ × Piece (Named V A))) → number_of q (named_at n v es) ≡ number_of q es
number-named v q n [] = refl
number-named v q n (e ∷ es) = go (e.0 == n) (number-named v q n es)
  where
    go : (t : Bool) → number_of q (named_at n v es) ≡ number_of q es → number_of q ((if t then (e.0, named v e.1) else e) ∷ named_at n v es) ≡ number_of q (e ∷ es)
    go true rest = ap (λ (o : Option ℕ). if same_key q e.1.value.key then Some e.0 else o) rest
    go false rest = ap (λ (o : Option ℕ). if same_key q e.1.value.key then Some e.0 else o) rest

apart-named : {V A : Type 0} (v : V) (n : ℕ) (es : List (ℕ × Piece (Named V A))) → AreApart es → AreApart (named_at n v es)
apart-named v n [] a = tt
apart-named v n (e ∷ es) a = go (e.0 == n) (apart-named v n es a.1)
  where
    go : (t : Bool) → AreApart (named_at n v es) → AreApart ((if t then (e.0, named v e.1) else e) ∷ named_at n v es)
    go true more = (number-named v e.1.value.key n es ∙ a.0, more)
    go false more = (number-named v e.1.value.key n es ∙ a.0, more)

pub indexed-named : {V A S : Type 0} (v : V) (m : IndexMap (List ℕ) ℕ S) (n room room2 : ℕ) (es es2 : List (ℕ × Piece (Named V A))) → es2 ≡ named_at n v es → room2 ≡ room → IsIndexed es room m → IsIndexed es2 room2 m
indexed-named v m n room room2 es es2 is same i = record {
  found = λ q. i.found q ∙ (sym (number-named v q n es) ∙ ap (number_of q) (sym is));
  apart = subst AreApart (sym is) (apart-named v n es i.apart);
  room = (let was = i.room in omega (arith, was, same));
}
