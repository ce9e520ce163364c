-- The lanes whose first piece isn't ready yet: they are as if busy.
use Rattle.std.proofs.Common.{◌≡◌, ℕ, ◌==◌, Bool, true, false, ◌||◌, List, [], ◌∷◌, ◌++◌, Option, Some, None, refl, sym, ap, arith, ◌∙◌}
use Rattle.std.specs.Prelude.{if◌then◌else◌}
use Rattle.std.specs.Ordering.{nat_cmp}
use Rattle.std.specs.BTreeMap.{is_at}
use Rattle.std.specs.List.{list_any}
use Rattle.std.specs.Set.{remove_key}
use Rattle.hc_queue.specs.declared.queue.Piece.{Piece}
use Rattle.hc_queue.specs.Queue.{also, firsts, waiting, first_of, with, without, Rises, without_number, is_among, AreDistinct, noted}
use Rattle.hc_queue.proofs.Firsts.{or-swap, released, held}
use Rattle.hc_queue.proofs.Gone.{At, gone-none, gone-other, not-first, first-waits}

absent : {X : Type 0} (test : X → Bool) (xs : List X) → list_any test xs ≡ false → remove_key test xs ≡ xs
absent test [] h = refl
absent test (x ∷ xs) h = go (test x) refl h (absent test xs)
  where
    go : (t : Bool) → test x ≡ t → list_any test (x ∷ xs) ≡ false → (list_any test xs ≡ false → remove_key test xs ≡ xs) → remove_key test (x ∷ xs) ≡ x ∷ xs
    go true p h more = let k : true ≡ false = (rw p at h) in absurd (cc)
    go false p h more = rw p (ap (λ (ys : List _). x ∷ ys) (more (rw p at h)))

pub among-end : (ls : List ℕ) (l : ℕ) → is_among (ls ++ l ∷ []) ≡ also l (is_among ls)
among-end [] l = λ i m. also l (is_among []) m
among-end (k ∷ ls) l = λ i m. (ap (λ (b : ℕ → Bool). also k b m) (among-end ls l) ∙ or-swap (m == k) (m == l) (is_among ls m)) i

neither : (a b : Bool) → (a || b) ≡ false → (a ≡ false) × (b ≡ false)
neither true b h = absurd (cc)
neither false b h = (refl, h)

none : (a b : Bool) → a ≡ false → b ≡ false → (a || b) ≡ false
none a b p q = rw (p, q) refl

pub distinct-end : (ls : List ℕ) (l : ℕ) → is_among ls l ≡ false → AreDistinct ls → AreDistinct (ls ++ l ∷ [])
distinct-end [] l h d = (refl, tt)
distinct-end (k ∷ ls) l h d =
    let both : ((l == k) ≡ false) × (is_among ls l ≡ false) = neither (l == k) (is_among ls l) h in
    let other : (k == l) ≡ false = (grind (arith, both.0)) in
    (ap (λ (b : ℕ → Bool). b k) (among-end ls l) ∙ none (k == l) (is_among ls k) other d.0, distinct-end ls l both.1 d.1)

pub distinct-front : (ls : List ℕ) (l : ℕ) → AreDistinct (ls ++ l ∷ []) → (is_among ls l ≡ false) × AreDistinct ls
distinct-front [] l d = (refl, tt)
distinct-front (k ∷ ls) l d =
    let both : ((k == l) ≡ false) × (is_among ls k ≡ false) = neither (k == l) (is_among ls k) (sym (ap (λ (b : ℕ → Bool). b k) (among-end ls l)) ∙ d.0) in
    let other : (l == k) ≡ false = (grind (arith, both.0)) in
    let more = distinct-front ls l d.1 in
    (none (l == k) (is_among ls l) other more.0, (both.1, more.1))

-- ---- a piece whose turn ends

also-self : (l : ℕ) (busy : ℕ → Bool) → also l busy l ≡ true
also-self l busy = let same : (l == l) ≡ true = (grind (arith)) in rw same refl

-- what is ready isn't in a lane that was noted
unnoted : {V : Type 0} (busy : ℕ → Bool) (n low high l : ℕ) (es : List (ℕ × Piece V)) → Rises low high es → At n (Some l) es → list_any (is_at (nat_cmp n)) (firsts busy es) ≡ true → busy l ≡ false
unnoted busy n low high l es r a among = go (busy l) refl
  where
    go : (t : Bool) → busy l ≡ t → t ≡ false
    go true b = let k : true ≡ false = sym among ∙ not-first busy n low high l es r a b in absurd (cc)
    go false b = refl

pub ended : {V : Type 0} (n low high : ℕ) (o : Option ℕ) (ls rs : List ℕ) (es : List (ℕ × Piece V)) → Rises low high es → At n o es → rs ≡ firsts (is_among ls) es
    → remove_key (is_at (nat_cmp n)) rs ≡ firsts (is_among (noted (list_any (is_at (nat_cmp n)) rs) o ls)) (without_number n es)
ended n low high None ls rs es r a s = ap (remove_key (is_at (nat_cmp n))) s ∙ sym (gone-none (is_among ls) n low high es r a)
ended n low high (Some l) ls rs es r a s = go (list_any (is_at (nat_cmp n)) rs) refl
  where
    go : (t : Bool) → list_any (is_at (nat_cmp n)) rs ≡ t → remove_key (is_at (nat_cmp n)) rs ≡ firsts (is_among (if t then ls ++ l ∷ [] else ls)) (without_number n es)
    go false h = absent (is_at (nat_cmp n)) rs h ∙ (s ∙ sym (gone-other (is_among ls) n low high (Some l) es r a (ap (list_any (is_at (nat_cmp n))) (sym s) ∙ h)))
    go true h =
        let among : list_any (is_at (nat_cmp n)) (firsts (is_among ls) es) ≡ true = ap (list_any (is_at (nat_cmp n))) (sym s) ∙ h in
        let front : first_of (waiting l es) ≡ Some n = first-waits (is_among ls) n low high l es r a among in
        let stays : firsts (also l (is_among ls)) (without_number n es) ≡ firsts (also l (is_among ls)) es = gone-other (also l (is_among ls)) n low high (Some l) es r a (not-first (also l (is_among ls)) n low high l es r a (also-self l (is_among ls))) in
        ap (remove_key (is_at (nat_cmp n))) s
        ∙ (ap (λ (w : Option ℕ). without w (firsts (is_among ls) es)) (sym front)
        ∙ (sym (held (is_among ls) l es low high r (unnoted (is_among ls) n low high l es r a among))
        ∙ (sym stays ∙ ap (λ (b : ℕ → Bool). firsts b (without_number n es)) (sym (among-end ls l)))))

pub ended-distinct : {V : Type 0} (n low high : ℕ) (o : Option ℕ) (ls rs : List ℕ) (es : List (ℕ × Piece V)) → Rises low high es → At n o es → rs ≡ firsts (is_among ls) es → AreDistinct ls
    → AreDistinct (noted (list_any (is_at (nat_cmp n)) rs) o ls)
ended-distinct n low high None ls rs es r a s d = d
ended-distinct n low high (Some l) ls rs es r a s d = go (list_any (is_at (nat_cmp n)) rs) refl
  where
    go : (t : Bool) → list_any (is_at (nat_cmp n)) rs ≡ t → AreDistinct (if t then ls ++ l ∷ [] else ls)
    go true h = distinct-end ls l (unnoted (is_among ls) n low high l es r a (ap (list_any (is_at (nat_cmp n))) (sym s) ∙ h)) d
    go false h = d

-- ---- a lane that catches up

pub caught : {V : Type 0} (l low high : ℕ) (ls rs : List ℕ) (es : List (ℕ × Piece V)) → Rises low high es → AreDistinct (ls ++ l ∷ []) → rs ≡ firsts (is_among (ls ++ l ∷ [])) es
    → with (first_of (waiting l es)) rs ≡ firsts (is_among ls) es
caught l low high ls rs es r d s =
    ap (with (first_of (waiting l es))) (s ∙ ap (λ (b : ℕ → Bool). firsts b es) (among-end ls l)) ∙ sym (released (is_among ls) l es low high r (distinct-front ls l d).0)
