-- The first pieces of the lanes.
use Rattle.std.proofs.Common.{◌≡◌, ℕ, ◌+◌, ◌==◌, ◌<◌, ◌≤◌, nat_lt, Bool, true, false, not, ◌&&◌, ◌||◌, List, [], ◌∷◌, Option, Some, None, find, refl, sym, ap, arith, ◌∙◌}
use Rattle.std.specs.Prelude.{if◌then◌else◌, option_map}
use Rattle.std.specs.Ordering.{nat_cmp}
use Rattle.std.specs.BTreeMap.{is_at}
use Rattle.std.specs.BTreeSet.{insert_key}
use Rattle.std.specs.Set.{remove_key}
use Rattle.std.proofs.lemmas.Bool.{eqb-true}
use Rattle.hc_queue.specs.declared.queue.Piece.{Piece}
use Rattle.hc_queue.specs.Queue.{can_go, also, closing, firsts, is_in, waiting, first_of, with, without, Rises, pieces_of, piece_by}

-- ---- sets of numbers

pub is-at : (n x : ℕ) → is_at (nat_cmp n) x ≡ (n == x)
is-at n x = grind (arith)

abbrev pub AllFrom : ℕ → List ℕ → Type 0
AllFrom n [] = Unit {0}
AllFrom n (x ∷ xs) = (n ≤ x) × AllFrom n xs

pub from-less : (m n : ℕ) (xs : List ℕ) → m ≤ n → AllFrom n xs → AllFrom m xs
from-less m n [] le h = tt
from-less m n (x ∷ xs) le h = (omega (arith, le, h.0), from-less m n xs le h.1)

pub insert-pass : (n x : ℕ) (xs : List ℕ) → n < x → insert_key nat_cmp (n ∷ xs) x ≡ n ∷ insert_key nat_cmp xs x
insert-pass n x xs lt = let a : nat_lt x n ≡ false = (grind (arith, lt)) in let b : (x == n) ≡ false = (grind (arith, lt)) in rw (a, b) refl

pub insert-front : (n : ℕ) (xs : List ℕ) → AllFrom (n + 1) xs → insert_key nat_cmp xs n ≡ n ∷ xs
insert-front n [] h = refl
insert-front n (x ∷ xs) h = let lt : n < x = omega (arith, h.0) in let a : nat_lt n x ≡ true = (grind (arith, lt)) in rw a refl

pub remove-pass : (n x : ℕ) (xs : List ℕ) → n < x → remove_key (is_at (nat_cmp x)) (n ∷ xs) ≡ n ∷ remove_key (is_at (nat_cmp x)) xs
remove-pass n x xs lt = let a : nat_lt x n ≡ false = (grind (arith, lt)) in let b : (x == n) ≡ false = (grind (arith, lt)) in rw (a, b) refl

pub remove-front : (n : ℕ) (xs : List ℕ) → remove_key (is_at (nat_cmp n)) (n ∷ xs) ≡ xs
remove-front n xs = let a : nat_lt n n ≡ false = (grind (arith)) in let b : (n == n) ≡ true = (grind (arith)) in rw (a, b) refl

pub with-pass : (n : ℕ) (ns xs : List ℕ) → AllFrom (n + 1) ns → with (first_of ns) (n ∷ xs) ≡ n ∷ with (first_of ns) xs
with-pass n [] xs h = refl
with-pass n (x ∷ ns) xs h = insert-pass n x xs (omega (arith, h.0))

pub without-pass : (n : ℕ) (ns xs : List ℕ) → AllFrom (n + 1) ns → without (first_of ns) (n ∷ xs) ≡ n ∷ without (first_of ns) xs
without-pass n [] xs h = refl
without-pass n (x ∷ ns) xs h = remove-pass n x xs (omega (arith, h.0))

pub or-swap : (a b c : Bool) → (a || (b || c)) ≡ (b || (a || c))
or-swap true true c = refl
or-swap true false c = refl
or-swap false true c = refl
or-swap false false c = refl

pub also-swap : (k l : ℕ) (busy : ℕ → Bool) → also k (also l busy) ≡ also l (also k busy)
also-swap k l busy = λ i x. or-swap (x == k) (x == l) (busy x) i

-- ---- what the numbers are above

pub firsts-from : {V : Type 0} (busy : ℕ → Bool) (es : List (ℕ × Piece V)) (low high : ℕ) → Rises low high es → AllFrom low (firsts busy es)
firsts-from busy [] low high r = tt
firsts-from busy (e ∷ es) low high r = go (can_go busy e.1) (firsts-from (closing e.1.lane busy) es (e.0 + 1) high r.1) (firsts-from busy es (e.0 + 1) high r.1)
  where
    go : (t : Bool) → AllFrom (e.0 + 1) (firsts (closing e.1.lane busy) es) → AllFrom (e.0 + 1) (firsts busy es) → AllFrom low (if t then e.0 ∷ firsts (closing e.1.lane busy) es else firsts busy es)
    go true a b = (r.0, from-less low (e.0 + 1) _ (omega (arith, r.0)) a)
    go false a b = from-less low (e.0 + 1) _ (omega (arith, r.0)) b

pub waiting-from : {V : Type 0} (lane : ℕ) (es : List (ℕ × Piece V)) (low high : ℕ) → Rises low high es → AllFrom low (waiting lane es)
waiting-from lane [] low high r = tt
waiting-from lane (e ∷ es) low high r = go (not e.1.taken && is_in lane e.1.lane) (from-less low (e.0 + 1) _ (omega (arith, r.0)) (waiting-from lane es (e.0 + 1) high r.1))
  where
    go : (t : Bool) → AllFrom low (waiting lane es) → AllFrom low (if t then e.0 ∷ waiting lane es else waiting lane es)
    go true a = (r.0, a)
    go false a = a

-- ---- a lane that is free again, and one that is busy from here on

pub released : {V : Type 0} (busy : ℕ → Bool) (l : ℕ) (es : List (ℕ × Piece V)) (low high : ℕ) → Rises low high es → busy l ≡ false
    → firsts busy es ≡ with (first_of (waiting l es)) (firsts (also l busy) es)
released busy l [] low high r free = refl
released busy l (e ∷ es) low high r free = go e.1.taken refl e.1.lane refl (λ b f. released b l es (e.0 + 1) high r.1 f)
  where
    go2 : (t : Bool) → e.1.taken ≡ t → (k : ℕ) → e.1.lane ≡ Some k → t ≡ false → (s : Bool) → (k == l) ≡ s → (u : Bool) → busy k ≡ u
        → ((b : ℕ → Bool) → b l ≡ false → firsts b es ≡ with (first_of (waiting l es)) (firsts (also l b) es))
        → firsts busy (e ∷ es) ≡ with (first_of (waiting l (e ∷ es))) (firsts (also l busy) (e ∷ es))
    go2 t p k q f true s u w more =
        let same : k ≡ l = eqb-true k l s in
        let bk : busy k ≡ false = rw same free in
        rw (p, q, f, s, bk) (rw same (sym (insert-front e.0 _ (firsts-from (also l busy) es (e.0 + 1) high r.1))))
    go2 t p k q f false s true w more = rw (p, q, f, s, w) (more busy free)
    go2 t p k q f false s false w more =
        let other : (l == k) ≡ false = (grind (arith, s)) in
        let free2 : also k busy l ≡ false = rw (other, free) refl in
        rw (p, q, f, s, w) (ap (λ (ns : List ℕ). e.0 ∷ ns) (more (also k busy) free2 ∙ ap (λ (b : ℕ → Bool). with (first_of (waiting l es)) (firsts b es)) (also-swap l k busy))
        ∙ sym (with-pass e.0 (waiting l es) (firsts (also k (also l busy)) es) (waiting-from l es (e.0 + 1) high r.1)))

    go : (t : Bool) → e.1.taken ≡ t → (o : Option ℕ) → e.1.lane ≡ o
        → ((b : ℕ → Bool) → b l ≡ false → firsts b es ≡ with (first_of (waiting l es)) (firsts (also l b) es))
        → firsts busy (e ∷ es) ≡ with (first_of (waiting l (e ∷ es))) (firsts (also l busy) (e ∷ es))
    go true p o q more = rw p (more busy free)
    go false p None q more = rw (p, q) (ap (λ (ns : List ℕ). e.0 ∷ ns) (more busy free) ∙ sym (with-pass e.0 (waiting l es) (firsts (also l busy) es) (waiting-from l es (e.0 + 1) high r.1)))
    go false p (Some k) q more = go2 false p k q refl (k == l) refl (busy k) refl more

pub held : {V : Type 0} (busy : ℕ → Bool) (l : ℕ) (es : List (ℕ × Piece V)) (low high : ℕ) → Rises low high es → busy l ≡ false
    → firsts (also l busy) es ≡ without (first_of (waiting l es)) (firsts busy es)
held busy l [] low high r free = refl
held busy l (e ∷ es) low high r free = go e.1.taken refl e.1.lane refl (λ b f. held b l es (e.0 + 1) high r.1 f)
  where
    go2 : (t : Bool) → e.1.taken ≡ t → (k : ℕ) → e.1.lane ≡ Some k → t ≡ false → (s : Bool) → (k == l) ≡ s → (u : Bool) → busy k ≡ u
        → ((b : ℕ → Bool) → b l ≡ false → firsts (also l b) es ≡ without (first_of (waiting l es)) (firsts b es))
        → firsts (also l busy) (e ∷ es) ≡ without (first_of (waiting l (e ∷ es))) (firsts busy (e ∷ es))
    go2 t p k q f true s u w more =
        let same : k ≡ l = eqb-true k l s in
        let bk : busy k ≡ false = rw same free in
        rw (p, q, f, s, bk) (rw same (sym (remove-front e.0 _)))
    go2 t p k q f false s true w more = rw (p, q, f, s, w) (more busy free)
    go2 t p k q f false s false w more =
        let other : (l == k) ≡ false = (grind (arith, s)) in
        let free2 : also k busy l ≡ false = rw (other, free) refl in
        rw (p, q, f, s, w) (ap (λ (ns : List ℕ). e.0 ∷ ns) (ap (λ (b : ℕ → Bool). firsts b es) (also-swap k l busy) ∙ more (also k busy) free2)
        ∙ sym (without-pass e.0 (waiting l es) (firsts (also k busy) es) (waiting-from l es (e.0 + 1) high r.1)))

    go : (t : Bool) → e.1.taken ≡ t → (o : Option ℕ) → e.1.lane ≡ o
        → ((b : ℕ → Bool) → b l ≡ false → firsts (also l b) es ≡ without (first_of (waiting l es)) (firsts b es))
        → firsts (also l busy) (e ∷ es) ≡ without (first_of (waiting l (e ∷ es))) (firsts busy (e ∷ es))
    go true p o q more = rw p (more busy free)
    go false p None q more = rw (p, q) (ap (λ (ns : List ℕ). e.0 ∷ ns) (more busy free) ∙ sym (without-pass e.0 (waiting l es) (firsts busy es) (waiting-from l es (e.0 + 1) high r.1)))
    go false p (Some k) q more = go2 false p k q refl (k == l) refl (busy k) refl more

-- ---- the piece with the first number

found-above : {V : Type 0} (busy : ℕ → Bool) (low high n : ℕ) (es : List (ℕ × Piece V)) → Rises low high es → option_map (λ (e : ℕ × Piece V). e.0) (find (λ (e : ℕ × Piece V). can_go busy e.1) es) ≡ Some n → low ≤ n
found-above busy low high n [] r h = absurd (cc)
found-above busy low high n (e ∷ es) r h = go (can_go busy e.1) h (found-above busy (e.0 + 1) high n es r.1)
  where
    go : (t : Bool) → option_map (λ (x : ℕ × Piece _). x.0) (if t then Some e else find (λ (x : ℕ × Piece _). can_go busy x.1) es) ≡ Some n
        → (option_map (λ (x : ℕ × Piece _). x.0) (find (λ (x : ℕ × Piece _). can_go busy x.1) es) ≡ Some n → e.0 + 1 ≤ n) → low ≤ n
    go true h more = let k : e.0 ≡ n = cc in omega (arith, k, r.0)
    go false h more = let k : e.0 + 1 ≤ n = more h in omega (arith, k, r.0)

-- the number of what was found leads to it
pub found-piece : {V : Type 0} (busy : ℕ → Bool) (low high : ℕ) (es : List (ℕ × Piece V)) → Rises low high es
    → piece_by (option_map (λ (e : ℕ × Piece V). e.0) (find (λ (e : ℕ × Piece V). can_go busy e.1) es)) es ≡ find (can_go busy) (pieces_of es)
found-piece busy low high [] r = refl
found-piece busy low high (e ∷ es) r = go (can_go busy e.1) (found-piece busy (e.0 + 1) high es r.1)
  where
    skipped : (o : Option ℕ) → ((n : ℕ) → o ≡ Some n → e.0 + 1 ≤ n) → piece_by o (e ∷ es) ≡ piece_by o es
    skipped None h = refl
    skipped (Some n) h = let k : e.0 + 1 ≤ n = h n refl in let x : (e.0 == n) ≡ false = (grind (arith, k)) in rw x refl

    go : (t : Bool) → piece_by (option_map (λ (x : ℕ × Piece _). x.0) (find (λ (x : ℕ × Piece _). can_go busy x.1) es)) es ≡ find (can_go busy) (pieces_of es)
        → piece_by (option_map (λ (x : ℕ × Piece _). x.0) (if t then Some e else find (λ (x : ℕ × Piece _). can_go busy x.1) es)) (e ∷ es) ≡ (if t then Some e.1 else find (can_go busy) (pieces_of es))
    go true more = let x : (e.0 == e.0) ≡ true = (grind (arith)) in rw x refl
    go false more = skipped _ (λ n. found-above busy (e.0 + 1) high n es r.1) ∙ more
