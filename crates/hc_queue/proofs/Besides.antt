-- The numbers beside a lane, of pairs in order.
use Rattle.std.proofs.Common.{◌≡◌, ℕ, ◌+◌, ◌==◌, ◌<◌, ◌⊎◌, inl, inr, nat_lt, Bool, true, false, ◌&&◌, ◌||◌, List, [], ◌∷◌, ◌++◌, Option, Some, None, find, filter, refl, sym, ap, subst, arith, ◌∙◌, Ordering, Less, Equal, Greater}
use Rattle.std.specs.Prelude.{if◌then◌else◌, nat_le}
use Rattle.std.specs.Ordering.{nat_cmp, is_le}
use Rattle.std.specs.BTreeMap.{is_at}
use Rattle.std.specs.BTreeMap.Range.{range_contains}
use Rattle.std.specs.BTreeSet.{insert_key}
use Rattle.std.specs.Set.{remove_key}
use Rattle.std.specs.List.{AllByRecursion, list_any}
use Rattle.std.specs.List.Sorted.{IsStrictlySortedBy}
use Rattle.std.specs.declared.ops.Bound.{Bound}
use Rattle.std.proofs.lemmas.Bool.{eqb-true}
use Rattle.hc_queue.specs.Queue.{beside, first_of, above, AllBelow, pair_cmp, joined, left, IsNew, only_if, with, without}

abbrev pub between : ℕ → ℕ → ℕ × ℕ → Bool
between lane from q = range_contains pair_cmp (Bound.Included (lane, from)) (Bound.Excluded (lane + 1, 0)) q

le-cmp : (m n : ℕ) → is_le (nat_cmp m n) ≡ nat_le m n
le-cmp m n = grind (arith)

and-true : (b : Bool) → (b && true) ≡ b
and-true true = refl
and-true false = refl

pub between-is : (lane from : ℕ) (q : ℕ × ℕ) → between lane from q ≡ ((q.0 == lane) && nat_le from q.1)
between-is lane from q = go (nat_lt lane q.0) refl (lane == q.0) refl (nat_lt (lane + 1) q.0) refl (nat_lt 0 q.1) refl
  where
    go : (a : Bool) → nat_lt lane q.0 ≡ a → (b : Bool) → (lane == q.0) ≡ b → (d : Bool) → nat_lt (lane + 1) q.0 ≡ d → (e : Bool) → nat_lt 0 q.1 ≡ e → between lane from q ≡ ((q.0 == lane) && nat_le from q.1)
    go true p b r true s e t = let v : (q.0 == lane) ≡ false = (grind (arith, p)) in rw (p, s, v) refl
    go true p b r false s true t = let v : (q.0 == lane) ≡ false = (grind (arith, p)) in let w : (lane + 1 == q.0) ≡ true = (grind (arith, p, s)) in rw (p, s, w, t, v) refl
    go true p b r false s false t = let v : (q.0 == lane) ≡ false = (grind (arith, p)) in let w : (lane + 1 == q.0) ≡ true = (grind (arith, p, s)) in let x : (0 == q.1) ≡ true = (grind (arith, t)) in rw (p, s, w, t, x, v) refl
    go false p true r d s e t = let v : (q.0 == lane) ≡ true = (grind (arith, r)) in let w : (lane + 1 == q.0) ≡ false = (grind (arith, r)) in let x : nat_lt (lane + 1) q.0 ≡ false = (grind (arith, r)) in rw (p, r, x, w, v, le-cmp from q.1) (and-true (nat_le from q.1))
    go false p false r d s e t = let v : (q.0 == lane) ≡ false = (grind (arith, r)) in rw (p, r, v) refl

abbrev pub heads : List (ℕ × ℕ) → Option ℕ
heads [] = None
heads (p ∷ ps) = Some p.1

pub find-beside : (lane : ℕ) (test : ℕ → Bool) (b : ℕ × ℕ → Bool) → ((q : ℕ × ℕ) → b q ≡ ((q.0 == lane) && test q.1)) → (ps : List (ℕ × ℕ)) → find test (beside lane ps) ≡ heads (filter b ps)
find-beside lane test b is [] = refl
find-beside lane test b is (p ∷ ps) = go (p.0 == lane) refl (test p.1) refl (find-beside lane test b is ps)
  where
    go : (s : Bool) → (p.0 == lane) ≡ s → (t : Bool) → test p.1 ≡ t → find test (beside lane ps) ≡ heads (filter b ps) → find test (beside lane (p ∷ ps)) ≡ heads (filter b (p ∷ ps))
    go true q true u more = let e : b p ≡ true = is p ∙ rw (q, u) refl in rw (q, u, e) refl
    go true q false u more = let e : b p ≡ false = is p ∙ rw (q, u) refl in rw (q, u, e) more
    go false q t u more = let e : b p ≡ false = is p ∙ rw q refl in rw (q, e) more

find-all : (ns : List ℕ) → find (λ (n : ℕ). true) ns ≡ first_of ns
find-all [] = refl
find-all (n ∷ ns) = refl

pub first-beside : (lane : ℕ) (ps : List (ℕ × ℕ)) → first_of (beside lane ps) ≡ heads (filter (between lane 0) ps)
first-beside lane ps = sym (find-all (beside lane ps)) ∙ find-beside lane (λ (n : ℕ). true) (between lane 0) (λ q. between-is lane 0 q ∙ grind (arith)) ps

pub next-beside : (lane n : ℕ) (ps : List (ℕ × ℕ)) → above n (beside lane ps) ≡ heads (filter (between lane (n + 1)) ps)
next-beside lane n ps = find-beside lane (nat_lt n) (between lane (n + 1)) (λ q. between-is lane (n + 1) q ∙ grind (arith)) ps

-- ---- one pair more

abbrev pub IsLess : ℕ × ℕ → ℕ × ℕ → Type 0
IsLess a b = (a.0 < b.0) ⊎ ((a.0 ≡ b.0) × (a.1 < b.1))

less-cmp : (m n : ℕ) → nat_cmp m n ≡ Less → m < n
less-cmp m n p = go (nat_lt m n) refl (m == n) refl
  where
    go : (a : Bool) → nat_lt m n ≡ a → (b : Bool) → (m == n) ≡ b → m < n
    go true q b r = grind (arith, q)
    go false q true r = let k : Equal ≡ Less = (rw (q, r) at p) in absurd (cc)
    go false q false r = let k : Greater ≡ Less = (rw (q, r) at p) in absurd (cc)

pub is-less : (a b : ℕ × ℕ) → pair_cmp a b ≡ Less → IsLess a b
is-less a b p = go (nat_lt a.0 b.0) refl (a.0 == b.0) refl
  where
    go : (s : Bool) → nat_lt a.0 b.0 ≡ s → (t : Bool) → (a.0 == b.0) ≡ t → IsLess a b
    go true q t r = inl (grind (arith, q))
    go false q true r = let k : nat_cmp a.1 b.1 ≡ Less = (rw (q, r) at p) in inr (eqb-true _ _ r, less-cmp a.1 b.1 k)
    go false q false r = let k : Greater ≡ Less = (rw (q, r) at p) in absurd (cc)

pub less-is : (a b : ℕ × ℕ) → IsLess a b → pair_cmp a b ≡ Less
less-is a b (inl lt) = let q : nat_lt a.0 b.0 ≡ true = (grind (arith, lt)) in rw q refl
less-is a b (inr (e, lt)) =
    let p : nat_lt a.0 b.0 ≡ false = (grind (arith, e)) in let q : (a.0 == b.0) ≡ true = (grind (arith, e)) in let r : nat_lt a.1 b.1 ≡ true = (grind (arith, lt)) in rw (p, q, r) refl

trans-is : (a b c : ℕ × ℕ) → IsLess a b → IsLess b c → IsLess a c
trans-is a b c (inl p) (inl q) = inl (omega (arith, p, q))
trans-is a b c (inl p) (inr (e, q)) = inl (omega (arith, p, e))
trans-is a b c (inr (e, p)) (inl q) = inl (omega (arith, e, q))
trans-is a b c (inr (e, p)) (inr (f, q)) = inr (e ∙ f, omega (arith, p, q))

pub less-trans : (a b c : ℕ × ℕ) → pair_cmp a b ≡ Less → pair_cmp b c ≡ Less → pair_cmp a c ≡ Less
less-trans a b c p q = less-is a c (trans-is a b c (is-less a b p) (is-less b c q))

less-all : (a b : ℕ × ℕ) (ps : List (ℕ × ℕ)) → pair_cmp a b ≡ Less → AllByRecursion (λ y. pair_cmp b y ≡ Less) ps → AllByRecursion (λ y. pair_cmp a y ≡ Less) ps
less-all a b [] l h = tt
less-all a b (p ∷ ps) l h = (less-trans a b p l h.0, less-all a b ps l h.1)

none-above : (l n : ℕ) (ps : List (ℕ × ℕ)) → AllByRecursion (λ y. pair_cmp (l, n) y ≡ Less) ps → AllBelow n (beside l ps) → beside l ps ≡ []
none-above l n [] h b = refl
none-above l n (p ∷ ps) h b = go (p.0 == l) refl (λ c. none-above l n ps h.1 c) b
  where
    not-less : (p.0 == l) ≡ true → p.1 < n → IsLess (l, n) p → ⊥
    not-less e lt (inl k) = omega (arith, eqb-true _ _ e, k)
    not-less e lt (inr (f, k)) = omega (arith, lt, k)

    go : (s : Bool) → (p.0 == l) ≡ s → (AllBelow n (beside l ps) → beside l ps ≡ []) → AllBelow n (if s then p.1 ∷ beside l ps else beside l ps) → (if s then p.1 ∷ beside l ps else beside l ps) ≡ []
    go true e more below = absurd (not-less e below.0 (is-less (l, n) p h.0))
    go false e more below = more below

below-tail : (l n : ℕ) (p : ℕ × ℕ) (ps : List (ℕ × ℕ)) → AllBelow n (beside l (p ∷ ps)) → AllBelow n (beside l ps)
below-tail l n p ps b = go (p.0 == l) b
  where
    go : (s : Bool) → AllBelow n (if s then p.1 ∷ beside l ps else beside l ps) → AllBelow n (beside l ps)
    go true below = below.1
    go false below = below

equal-cmp : (m n : ℕ) → nat_cmp m n ≡ Equal → m ≡ n
equal-cmp m n p = go (nat_lt m n) refl (m == n) refl
  where
    go : (a : Bool) → nat_lt m n ≡ a → (b : Bool) → (m == n) ≡ b → m ≡ n
    go true q b r = let k : Less ≡ Equal = (rw q at p) in absurd (cc)
    go false q true r = eqb-true m n r
    go false q false r = let k : Greater ≡ Equal = (rw (q, r) at p) in absurd (cc)

pub is-equal : (a b : ℕ × ℕ) → pair_cmp a b ≡ Equal → (a.0 ≡ b.0) × (a.1 ≡ b.1)
is-equal a b p = go (nat_cmp a.0 b.0) refl
  where
    go : (o : Ordering) → nat_cmp a.0 b.0 ≡ o → (a.0 ≡ b.0) × (a.1 ≡ b.1)
    go Less q = let k : Less ≡ Equal = (rw q at p) in absurd (cc)
    go Equal q = (equal-cmp a.0 b.0 q, equal-cmp a.1 b.1 (rw q at p))
    go Greater q = let k : Greater ≡ Equal = (rw q at p) in absurd (cc)

not-equal : (l n : ℕ) (p : ℕ × ℕ) (ps : List (ℕ × ℕ)) → AllBelow n (beside l (p ∷ ps)) → pair_cmp (l, n) p ≡ Equal → ⊥
not-equal l n p ps b e = go (p.0 == l) refl b
  where
    same : (l ≡ p.0) × (n ≡ p.1)
    same = is-equal (l, n) p e

    go : (s : Bool) → (p.0 == l) ≡ s → AllBelow n (if s then p.1 ∷ beside l ps else beside l ps) → ⊥
    go true q below = omega (arith, same.1, below.0)
    go false q below = let v : (p.0 == l) ≡ true = (grind (arith, same.0)) in let k : true ≡ false = sym v ∙ q in absurd (cc)

pub beside-insert : (m l n : ℕ) (ps : List (ℕ × ℕ)) → IsStrictlySortedBy pair_cmp ps → AllBelow n (beside l ps)
    → beside m (insert_key pair_cmp ps (l, n)) ≡ (if l == m then beside m ps ++ n ∷ [] else beside m ps)
unfolding IsStrictlySortedBy
beside-insert m l n [] s b = refl
beside-insert m l n (p ∷ ps) s b = go (pair_cmp (l, n) p) refl (l == m) refl (p.0 == m) refl (beside-insert m l n ps s.1 (below-tail l n p ps b))
  where
    go : (o : Ordering) → pair_cmp (l, n) p ≡ o → (t : Bool) → (l == m) ≡ t → (u : Bool) → (p.0 == m) ≡ u
        → beside m (insert_key pair_cmp ps (l, n)) ≡ (if l == m then beside m ps ++ n ∷ [] else beside m ps)
        → beside m (insert_key pair_cmp (p ∷ ps) (l, n)) ≡ (if l == m then beside m (p ∷ ps) ++ n ∷ [] else beside m (p ∷ ps))
    go Less e true q u v more =
        let same : l ≡ m = eqb-true l m q in
        let none : beside m (p ∷ ps) ≡ [] = subst (λ (k : ℕ). beside k (p ∷ ps) ≡ []) same (none-above l n (p ∷ ps) (e, less-all (l, n) p ps e s.0) b) in
        rw (e, q) (ap (λ (ns : List ℕ). n ∷ ns) none ∙ sym (ap (λ (ns : List ℕ). ns ++ n ∷ []) none))
    go Less e false q u v more = rw (e, q) refl
    go Equal e t q u v more = absurd (not-equal l n p ps b e)
    go Greater e true q true v more = rw (e, q, v) (ap (λ (ns : List ℕ). p.1 ∷ ns) (more ∙ rw q refl))
    go Greater e true q false v more = rw (e, q, v) (more ∙ rw q refl)
    go Greater e false q true v more = rw (e, q, v) (ap (λ (ns : List ℕ). p.1 ∷ ns) (more ∙ rw q refl))
    go Greater e false q false v more = rw (e, q, v) (more ∙ rw q refl)

-- ---- one pair less

pub beside-remove : (m l n : ℕ) (ps : List (ℕ × ℕ))
    → beside m (remove_key (is_at (pair_cmp (l, n))) ps) ≡ (if l == m then remove_key (is_at (nat_cmp n)) (beside m ps) else beside m ps)
beside-remove m l n [] = go (l == m)
  where
    go : (t : Bool) → ◌≡◌ {A = List ℕ} [] (if t then [] else [])
    go true = refl
    go false = refl
beside-remove m l n (p ∷ ps) = go (nat_cmp l p.0) refl (nat_cmp n p.1) refl (l == m) refl (p.0 == m) refl (beside-remove m l n ps)
  where
    go : (o : Ordering) → nat_cmp l p.0 ≡ o → (w : Ordering) → nat_cmp n p.1 ≡ w → (t : Bool) → (l == m) ≡ t → (u : Bool) → (p.0 == m) ≡ u
        → beside m (remove_key (is_at (pair_cmp (l, n))) ps) ≡ (if l == m then remove_key (is_at (nat_cmp n)) (beside m ps) else beside m ps)
        → beside m (remove_key (is_at (pair_cmp (l, n))) (p ∷ ps)) ≡ (if l == m then remove_key (is_at (nat_cmp n)) (beside m (p ∷ ps)) else beside m (p ∷ ps))
    go Equal e Equal f true q u v more = let x : (p.0 == m) ≡ true = (grind (arith, equal-cmp l p.0 e, q)) in rw (e, f, q, x, f) refl
    go Equal e Equal f false q u v more = let x : (p.0 == m) ≡ false = (grind (arith, equal-cmp l p.0 e, q)) in rw (e, f, q, x) refl
    go Less e w f true q true v more = let x : (p.0 == m) ≡ false = (grind (arith, less-cmp l p.0 e, q)) in let k : true ≡ false = sym v ∙ x in absurd (cc)
    go Less e w f true q false v more = rw (e, q, v) (more ∙ rw q refl)
    go Less e w f false q true v more = rw (e, q, v) (ap (λ (ns : List ℕ). p.1 ∷ ns) (more ∙ rw q refl))
    go Less e w f false q false v more = rw (e, q, v) (more ∙ rw q refl)
    go Greater e w f true q true v more = let x : l ≡ p.0 = eqb-true l m q ∙ sym (eqb-true p.0 m v) in let y : nat_lt l p.0 ≡ false = (grind (arith, x)) in let z : (l == p.0) ≡ true = (grind (arith, x)) in let k : Equal ≡ Greater = (rw (y, z) at e) in absurd (cc)
    go Greater e w f true q false v more = rw (e, q, v) (more ∙ rw q refl)
    go Greater e w f false q true v more = rw (e, q, v) (ap (λ (ns : List ℕ). p.1 ∷ ns) (more ∙ rw q refl))
    go Greater e w f false q false v more = rw (e, q, v) (more ∙ rw q refl)
    go Equal e Less f true q true v more = rw (e, f, q, v, f) (ap (λ (ns : List ℕ). p.1 ∷ ns) (more ∙ rw q refl))
    go Equal e Less f true q false v more = rw (e, f, q, v) (more ∙ rw q refl)
    go Equal e Less f false q true v more = rw (e, f, q, v) (ap (λ (ns : List ℕ). p.1 ∷ ns) (more ∙ rw q refl))
    go Equal e Less f false q false v more = rw (e, f, q, v) (more ∙ rw q refl)
    go Equal e Greater f true q true v more = rw (e, f, q, v, f) (ap (λ (ns : List ℕ). p.1 ∷ ns) (more ∙ rw q refl))
    go Equal e Greater f true q false v more = rw (e, f, q, v) (more ∙ rw q refl)
    go Equal e Greater f false q true v more = rw (e, f, q, v) (ap (λ (ns : List ℕ). p.1 ∷ ns) (more ∙ rw q refl))
    go Equal e Greater f false q false v more = rw (e, f, q, v) (more ∙ rw q refl)

-- what was put in comes out again
pub undo-pair : (l n : ℕ) (ps : List (ℕ × ℕ)) → AllBelow n (beside l ps) → remove_key (is_at (pair_cmp (l, n))) (insert_key pair_cmp ps (l, n)) ≡ ps
undo-pair l n [] b = let x : nat_lt l l ≡ false = (grind (arith)) in let y : (l == l) ≡ true = (grind (arith)) in let z : nat_lt n n ≡ false = (grind (arith)) in let w : (n == n) ≡ true = (grind (arith)) in rw (x, y, z, w) refl
undo-pair l n (p ∷ ps) b = go (pair_cmp (l, n) p) refl (undo-pair l n ps (below-tail l n p ps b))
  where
    go : (o : Ordering) → pair_cmp (l, n) p ≡ o → remove_key (is_at (pair_cmp (l, n))) (insert_key pair_cmp ps (l, n)) ≡ ps → remove_key (is_at (pair_cmp (l, n))) (insert_key pair_cmp (p ∷ ps) (l, n)) ≡ p ∷ ps
    go Less e more = let x : nat_lt l l ≡ false = (grind (arith)) in let y : (l == l) ≡ true = (grind (arith)) in let z : nat_lt n n ≡ false = (grind (arith)) in let w : (n == n) ≡ true = (grind (arith)) in rw e (rw (x, y, z, w) refl)
    go Equal e more = absurd (not-equal l n p ps b e)
    go Greater e more = rw (e, e) (ap (λ (xs : List (ℕ × ℕ)). p ∷ xs) more)

pub undo-number : (n : ℕ) (ns : List ℕ) → AllBelow n ns → remove_key (is_at (nat_cmp n)) (insert_key nat_cmp ns n) ≡ ns
undo-number n [] b = let z : nat_lt n n ≡ false = (grind (arith)) in let w : (n == n) ≡ true = (grind (arith)) in rw (z, w) refl
undo-number n (m ∷ ns) b = let lt : m < n = b.0 in let z : nat_lt n m ≡ false = (grind (arith, lt)) in let w : (n == m) ≡ false = (grind (arith, lt)) in rw (z, w, z, w) (ap (λ (xs : List ℕ). m ∷ xs) (undo-number n ns b.1))

pub insert-end : (n : ℕ) (ns : List ℕ) → AllBelow n ns → insert_key nat_cmp ns n ≡ ns ++ n ∷ []
insert-end n [] b = refl
insert-end n (m ∷ ns) b = let lt : m < n = b.0 in let z : nat_lt n m ≡ false = (grind (arith, lt)) in let w : (n == m) ≡ false = (grind (arith, lt)) in rw (z, w) (ap (λ (xs : List ℕ). m ∷ xs) (insert-end n ns b.1))

-- a number beside a lane stands there as a pair
pub beside-pair : (l n : ℕ) (ps : List (ℕ × ℕ)) → list_any (is_at (nat_cmp n)) (beside l ps) ≡ true → list_any (is_at (pair_cmp (l, n))) ps ≡ true
beside-pair l n [] h = absurd (cc)
beside-pair l n (p ∷ ps) h = go (p.0 == l) refl (is_at (nat_cmp n) p.1) refl h (beside-pair l n ps)
  where
    or-right : (b c : Bool) → c ≡ true → (b || c) ≡ true
    or-right true c h = refl
    or-right false c h = h

    later : list_any (is_at (pair_cmp (l, n))) ps ≡ true → list_any (is_at (pair_cmp (l, n))) (p ∷ ps) ≡ true
    later more = or-right (is_at (pair_cmp (l, n)) p) _ more

    go : (s : Bool) → (p.0 == l) ≡ s → (t : Bool) → is_at (nat_cmp n) p.1 ≡ t → list_any (is_at (nat_cmp n)) (if s then p.1 ∷ beside l ps else beside l ps) ≡ true
        → (list_any (is_at (nat_cmp n)) (beside l ps) ≡ true → list_any (is_at (pair_cmp (l, n))) ps ≡ true) → list_any (is_at (pair_cmp (l, n))) (p ∷ ps) ≡ true
    go true q true u h more =
        let x : nat_lt l p.0 ≡ false = (grind (arith, q)) in let y : (l == p.0) ≡ true = (grind (arith, q)) in
        let z : is_at (pair_cmp (l, n)) p ≡ true = rw (x, y) u in
        rw z refl
    go true q false u h more = later (more (rw u at h))
    go false q t u h more = later (more h)

pub undo-lane : (o : Option ℕ) (n : ℕ) (ps : List (ℕ × ℕ)) → IsNew o n ps → left o n (joined o n ps) ≡ ps
undo-lane None n ps h = refl
undo-lane (Some l) n ps h = undo-pair l n ps h

pub undo-ready : (b : Bool) (n : ℕ) (ns : List ℕ) → AllBelow n ns → without (only_if b n) (with (only_if b n) ns) ≡ ns
undo-ready true n ns h = undo-number n ns h
undo-ready false n ns h = refl
