-- Pieces by their keys.
use Rattle.std.proofs.Common.{◌≡◌, ℕ, ◌+◌, ◌==◌, ◌≤◌, Bool, true, false, not, List, [], ◌∷◌, ◌++◌, Option, Some, None, refl, sym, ap, subst, arith, ◌∙◌}
use Rattle.std.specs.Prelude.{if◌then◌else◌}
use Rattle.std.specs.Cmp.Lexicographic.{nat_list_eq_equiv}
use Rattle.std.proofs.lemmas.Bool.{eqb-true}
use Rattle.hc_queue.specs.declared.queue.Piece.{Piece}
use Rattle.hc_queue.specs.Queue.{Rises, piece_at, without_number, taken_at}
use Rattle.hc_queue.proofs.Gone.{none-gone}
use Rattle.hc_queue.specs.declared.keyed.Named.{Named}
use Rattle.indexmap.specs.IndexMap.{IndexMap, get, spare}
use Rattle.hc_queue.specs.Keys.{same_key, number_of, without_key, AreApart, IsIndexed}

some-same : {X : Type 0} (x y : X) → ◌≡◌ {A = Option X} (Some x) (Some y) → x ≡ y
some-same x y h = cc

pub same-number : {V A : Type 0} (q k : List ℕ) (es : List (ℕ × Piece (Named V A))) → same_key q k ≡ true → number_of q es ≡ number_of k es
same-number q k [] s = refl
same-number q k (e ∷ es) s = λ i. if nat_list_eq_equiv.congr q k e.1.value.key s i then Some e.0 else same-number q k es s i

pub number-from : {V A : Type 0} (k : List ℕ) (n low high : ℕ) (es : List (ℕ × Piece (Named V A))) → Rises low high es → number_of k es ≡ Some n → low ≤ n
number-from k n low high [] r h = cc
number-from k n low high (e ∷ es) r h = go (same_key k e.1.value.key) (number-from k n (e.0 + 1) high es r.1) h
  where
    go : (t : Bool) → (number_of k es ≡ Some n → e.0 + 1 ≤ n) → (if t then Some e.0 else number_of k es) ≡ Some n → low ≤ n
    go true more h = let p : e.0 ≡ n = cc in omega (arith, p, r.0)
    go false more h = let p : e.0 + 1 ≤ n = more h in omega (arith, p, r.0)

pub number-push : {V A : Type 0} (q k : List ℕ) (n : ℕ) (p : Piece (Named V A)) (es : List (ℕ × Piece (Named V A))) → p.value.key ≡ k → number_of k es ≡ None
    → number_of q (es ++ (n, p) ∷ []) ≡ (if same_key q k then Some n else number_of q es)
number-push q k n p [] e h = rw e refl
number-push q k n p (x ∷ es) e h = go (same_key k x.1.value.key) refl h (number-push q k n p es e)
  where
    go : (t : Bool) → same_key k x.1.value.key ≡ t → (if t then Some x.0 else number_of k es) ≡ None
        → (number_of k es ≡ None → number_of q (es ++ (n, p) ∷ []) ≡ (if same_key q k then Some n else number_of q es))
        → (if same_key q x.1.value.key then Some x.0 else number_of q (es ++ (n, p) ∷ [])) ≡ (if same_key q k then Some n else (if same_key q x.1.value.key then Some x.0 else number_of q es))
    go true s h more = absurd (cc)
    go false s h more = go2 (same_key q k) refl (same_key q x.1.value.key) refl (more h)
      where
        go2 : (a : Bool) → same_key q k ≡ a → (b : Bool) → same_key q x.1.value.key ≡ b → number_of q (es ++ (n, p) ∷ []) ≡ (if same_key q k then Some n else number_of q es)
            → (if b then Some x.0 else number_of q (es ++ (n, p) ∷ [])) ≡ (if a then Some n else (if b then Some x.0 else number_of q es))
        go2 true u true v m = let w : true ≡ false = sym v ∙ (nat_list_eq_equiv.congr q k x.1.value.key u ∙ s) in absurd (cc)
        go2 true u false v m = m ∙ rw u refl
        go2 false u true v m = refl
        go2 false u false v m = m ∙ rw u refl

pub apart-push : {V A : Type 0} (k : List ℕ) (n : ℕ) (p : Piece (Named V A)) (es : List (ℕ × Piece (Named V A))) → p.value.key ≡ k → number_of k es ≡ None → AreApart es → AreApart (es ++ (n, p) ∷ [])
apart-push k n p [] e h a = (refl, tt)
apart-push k n p (x ∷ es) e h a = go (same_key k x.1.value.key) refl h (λ i. apart-push k n p es e i a.1)
  where
    go : (t : Bool) → same_key k x.1.value.key ≡ t → (if t then Some x.0 else number_of k es) ≡ None → (number_of k es ≡ None → AreApart (es ++ (n, p) ∷ [])) → AreApart (x ∷ (es ++ (n, p) ∷ []))
    go true s h more = absurd (cc)
    go false s h more = (number-push x.1.value.key k n p es e h ∙ rw (nat_list_eq_equiv.symm x.1.value.key k ∙ s) a.0, more h)

-- ---- a piece that goes

-- nothing is left out where no piece has the key
pub none-without : {V A : Type 0} (k : List ℕ) (es : List (ℕ × Piece (Named V A))) → number_of k es ≡ None → without_key k es ≡ es
none-without k [] h = refl
none-without k (e ∷ es) h = go (same_key k e.1.value.key) h (none-without k es)
  where
    go : (t : Bool) → (if t then Some e.0 else number_of k es) ≡ None → (number_of k es ≡ None → without_key k es ≡ es) → (if not t then e ∷ without_key k es else without_key k es) ≡ e ∷ es
    go true h more = absurd (cc)
    go false h more = ap (λ (xs : List (ℕ × Piece (Named _ _))). e ∷ xs) (more h)

-- the piece with the number is the one with the key
pub by-key : {V A : Type 0} (k : List ℕ) (n low high : ℕ) (es : List (ℕ × Piece (Named V A))) → Rises low high es → AreApart es → number_of k es ≡ Some n → without_number n es ≡ without_key k es
by-key k n low high [] r a h = refl
by-key k n low high (e ∷ es) r a h = go (same_key k e.1.value.key) refl h (by-key k n (e.0 + 1) high es r.1 a.1) (number-from k n (e.0 + 1) high es r.1)
  where
    go : (t : Bool) → same_key k e.1.value.key ≡ t → (if t then Some e.0 else number_of k es) ≡ Some n → (number_of k es ≡ Some n → without_number n es ≡ without_key k es) → (number_of k es ≡ Some n → e.0 + 1 ≤ n)
        → (if not (e.0 == n) then e ∷ without_number n es else without_number n es) ≡ (if not t then e ∷ without_key k es else without_key k es)
    go true s h more low =
        let p : e.0 ≡ n = cc in
        let x : (e.0 == n) ≡ true = (grind (arith, p)) in
        rw x (none-gone n (e.0 + 1) high es r.1 (omega (arith, p)) ∙ sym (none-without k es (same-number k e.1.value.key es s ∙ a.0)))
    go false s h more low =
        let p : e.0 + 1 ≤ n = low h in
        let x : (e.0 == n) ≡ false = (grind (arith, p)) in
        rw x (ap (λ (xs : List (ℕ × Piece (Named _ _))). e ∷ xs) (more h))

-- a piece's key leads to its number
pub number-at : {V A : Type 0} (n low high : ℕ) (p : Piece (Named V A)) (es : List (ℕ × Piece (Named V A))) → Rises low high es → AreApart es → piece_at n es ≡ Some p → number_of p.value.key es ≡ Some n
number-at n low high p [] r a h = absurd (cc)
number-at {V} {A} n low high p (e ∷ es) r a h = go (e.0 == n) refl h (number-at n (e.0 + 1) high p es r.1 a.1)
  where
    go : (t : Bool) → (e.0 == n) ≡ t → piece_at n (e ∷ es) ≡ Some p → (piece_at n es ≡ Some p → number_of p.value.key es ≡ Some n) → number_of p.value.key (e ∷ es) ≡ Some n
    go true t h more =
        let same : e.1 ≡ p = some-same e.1 p (rw t at h) in
        let m : e.0 ≡ n = eqb-true e.0 n t in
        subst (λ (q : Piece (Named V A)). number_of q.value.key (e ∷ es) ≡ Some n) same (rw (nat_list_eq_equiv.refl e.1.value.key) (ap Some m))
    go false t h more = go2 (same_key p.value.key e.1.value.key) refl (more (rw t at h))
      where
        go2 : (u : Bool) → same_key p.value.key e.1.value.key ≡ u → number_of p.value.key es ≡ Some n → number_of p.value.key (e ∷ es) ≡ Some n
        go2 false u found = rw u found
        go2 true u found =
            let none : number_of p.value.key es ≡ None = same-number p.value.key e.1.value.key es u ∙ a.0 in
            absurd (cc)

-- the piece with the number is the one with its key
pub at-key : {V A : Type 0} (n high : ℕ) (p : Piece (Named V A)) (o : Option (Piece (Named V A))) (es : List (ℕ × Piece (Named V A))) → Rises 0 high es → AreApart es → o ≡ piece_at n es → o ≡ Some p → without_number n es ≡ without_key p.value.key es
at-key n high p o es r a is some = by-key p.value.key n 0 high es r a (number-at n 0 high p es r a (sym is ∙ some))

-- where no piece has the number, none goes
pub none-at : {V A : Type 0} (n : ℕ) (o : Option (Piece (Named V A))) (es : List (ℕ × Piece (Named V A))) → o ≡ piece_at n es → o ≡ None → without_number n es ≡ es
none-at n o [] is none = refl
none-at {V} {A} n o (e ∷ es) is none = go (e.0 == n) refl (sym is ∙ none) (none-at n None es)
  where
    go : (t : Bool) → (e.0 == n) ≡ t → piece_at n (e ∷ es) ≡ None → (◌≡◌ {A = Option (Piece (Named V A))} None (piece_at n es) → ◌≡◌ {A = Option (Piece (Named V A))} None None → without_number n es ≡ es) → without_number n (e ∷ es) ≡ e ∷ es
    go true t h more = absurd (cc (rw t at h))
    go false t h more = rw t (ap (λ (xs : List (ℕ × Piece (Named V A))). e ∷ xs) (more (sym (rw t at h)) refl))

-- a queue of the same pieces
pub indexed-as : {V A S : Type 0} (m : IndexMap (List ℕ) ℕ S) (room room2 : ℕ) (es es2 : List (ℕ × Piece (Named V A))) → es2 ≡ es → room2 ≡ room → IsIndexed es room m → IsIndexed es2 room2 m
indexed-as m room room2 es es2 is same i = record { found = λ q. i.found q ∙ ap (number_of q) (sym is); apart = subst AreApart (sym is) i.apart; room = (let was = i.room in omega (arith, was, same)) }

pub number-without : {V A : Type 0} (q k : List ℕ) (es : List (ℕ × Piece (Named V A))) → number_of q (without_key k es) ≡ (if same_key k q then None else number_of q es)
number-without q k [] = go (same_key k q)
  where
    go : (t : Bool) → ◌≡◌ {A = Option ℕ} None (if t then None else None)
    go true = refl
    go false = refl
number-without q k (e ∷ es) = go (same_key k q) refl (same_key k e.1.value.key) refl (same_key q e.1.value.key) refl (number-without q k es)
  where
    go : (a : Bool) → same_key k q ≡ a → (b : Bool) → same_key k e.1.value.key ≡ b → (c : Bool) → same_key q e.1.value.key ≡ c → number_of q (without_key k es) ≡ (if same_key k q then None else number_of q es)
        → number_of q (if not b then e ∷ without_key k es else without_key k es) ≡ (if a then None else (if c then Some e.0 else number_of q es))
    go true u true v c w m = m ∙ rw u refl
    go true u false v true w m = let z : false ≡ true = sym v ∙ (nat_list_eq_equiv.congr k q e.1.value.key u ∙ w) in absurd (cc)
    go true u false v false w m = rw w (m ∙ rw u refl)
    go false u true v true w m =
        let y : same_key e.1.value.key q ≡ true = nat_list_eq_equiv.symm e.1.value.key q ∙ w in
        let z : false ≡ true = sym u ∙ (nat_list_eq_equiv.congr k e.1.value.key q v ∙ y) in absurd (cc)
    go false u true v false w m = m ∙ rw u refl
    go false u false v true w m = rw w refl
    go false u false v false w m = rw w (m ∙ rw u refl)

pub apart-without : {V A : Type 0} (k : List ℕ) (es : List (ℕ × Piece (Named V A))) → AreApart es → AreApart (without_key k es)
apart-without k [] a = tt
apart-without k (e ∷ es) a = go (same_key k e.1.value.key) refl (apart-without k es a.1)
  where
    go : (t : Bool) → same_key k e.1.value.key ≡ t → AreApart (without_key k es) → AreApart (if not t then e ∷ without_key k es else without_key k es)
    go true s more = more
    go false s more = (number-without e.1.value.key k es ∙ rw s a.0, more)

-- ---- the map

pub indexed-push : {V A S : Type 0} (m m2 : IndexMap (List ℕ) ℕ S) (k copy : List ℕ) (n room room2 : ℕ) (p : Piece (Named V A)) (es es2 : List (ℕ × Piece (Named V A))) → copy ≡ k → p.value.key ≡ k → number_of k es ≡ None → IsIndexed es room m → es2 ≡ es ++ (n, p) ∷ []
    → room ≡ room2 + 1 → spare m ≤ spare m2 + 1 → ((q : List ℕ) → get same_key m2 q ≡ (if same_key copy q then Some n else get same_key m q)) → IsIndexed es2 room2 m2
indexed-push m m2 k copy n room room2 p es es2 c e none i is less free h = record {
  found = λ q. h q ∙ ((λ j. if same_key (c j) q then Some n else i.found q j) ∙ ((λ j. if nat_list_eq_equiv.symm k q j then Some n else number_of q es) ∙ (sym (number-push q k n p es e none) ∙ ap (number_of q) (sym is))));
  apart = subst AreApart (sym is) (apart-push k n p es e none i.apart);
  room = (let was = i.room in omega (arith, was, less, free));
}

pub indexed-remove : {V A S : Type 0} (m m2 : IndexMap (List ℕ) ℕ S) (k : List ℕ) (room room2 : ℕ) (es es2 : List (ℕ × Piece (Named V A))) → es2 ≡ without_key k es → IsIndexed es room m
    → room2 ≡ room → spare m ≤ spare m2 → ((q : List ℕ) → get same_key m2 q ≡ (if same_key k q then None else get same_key m q)) → IsIndexed es2 room2 m2
indexed-remove m m2 k room room2 es es2 is i same free h = record {
  found = λ q. h q ∙ ((λ j. if same_key k q then None else i.found q j) ∙ (sym (number-without q k es) ∙ ap (number_of q) (sym is)));
  apart = subst AreApart (sym is) (apart-without k es i.apart);
  room = (let was = i.room in omega (arith, was, same, free));
}

-- ---- a piece that is taken

number-taken : {V A : Type 0} (q : List ℕ) (n : ℕ) (es : List (ℕ × Piece (Named V A))) → number_of q (taken_at n es) ≡ number_of q es
number-taken q n [] = refl
number-taken q n (e ∷ es) = go (e.0 == n) (number-taken q n es)
  where
    go : (t : Bool) → number_of q (taken_at n es) ≡ number_of q es → number_of q ((if t then (e.0, record e.1 { taken = true }) else e) ∷ taken_at n es) ≡ number_of q (e ∷ es)
    go true rest = ap (λ (o : Option ℕ). if same_key q e.1.value.key then Some e.0 else o) rest
    go false rest = ap (λ (o : Option ℕ). if same_key q e.1.value.key then Some e.0 else o) rest

apart-taken : {V A : Type 0} (n : ℕ) (es : List (ℕ × Piece (Named V A))) → AreApart es → AreApart (taken_at n es)
apart-taken n [] a = tt
apart-taken n (e ∷ es) a = go (e.0 == n) (apart-taken n es a.1)
  where
    go : (t : Bool) → AreApart (taken_at n es) → AreApart ((if t then (e.0, record e.1 { taken = true }) else e) ∷ taken_at n es)
    go true more = (number-taken e.1.value.key n es ∙ a.0, more)
    go false more = (number-taken e.1.value.key n es ∙ a.0, more)

pub indexed-taken : {V A S : Type 0} (m : IndexMap (List ℕ) ℕ S) (n room room2 : ℕ) (es es2 : List (ℕ × Piece (Named V A))) → es2 ≡ taken_at n es → room2 ≡ room → IsIndexed es room m → IsIndexed es2 room2 m
indexed-taken m n room room2 es es2 is same i = record {
  found = λ q. i.found q ∙ (sym (number-taken q n es) ∙ ap (number_of q) (sym is));
  apart = subst AreApart (sym is) (apart-taken n es i.apart);
  room = (let was = i.room in omega (arith, was, same));
}
