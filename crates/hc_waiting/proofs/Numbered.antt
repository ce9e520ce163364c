-- Pieces by their numbers, and by their keys.
use Rattle.std.proofs.Common.{◌≡◌, ℕ, ◌+◌, ◌==◌, ◌≤◌, ◌||◌, drop, Bool, true, false, List, [], ◌∷◌, Option, Some, None, refl, sym, ap, ◌∙◌, subst, arith, if◌then◌else◌}
use Rattle.std.specs.List.{find, list_any, slice_get}
use Rattle.std.specs.Prelude.{map, is_some, option_map}
use Rattle.std.specs.Cmp.Lexicographic.{nat_list_eq_equiv}
use Rattle.std.proofs.lemmas.Slice.Eq.{bytes_eq-Decides}
use Rattle.hc_queue.specs.declared.queue.Piece.{Piece}
use Rattle.hc_queue.specs.declared.keyed.Named.{Named}
use Rattle.hc_queue.specs.Queue.{pieces_of, piece_at, Rises}
use Rattle.hc_queue.specs.Keys.{same_key, number_of}
use Rattle.hc_queue.specs.Queue.{piece_by as piece_numbered}
use Rattle.hc_queue.specs.Keys.{without_key as without_entry, AreApart as EntriesApart}
use Rattle.hc_queue.specs.Queue.{is_in, first_in_lane, without_number, oldest, any_taken}
use Rattle.hc_waiting.specs.Line.{has_key, piece_of, piece_by, without_key, in_lane, without_first, is_taken, AreApart}

flip : {V A : Type 0} (key : List ℕ) (piece : Piece (Named V A)) (b : Bool) → same_key key piece.value.key ≡ b → has_key key piece ≡ b
flip key piece b t = nat_list_eq_equiv.symm piece.value.key key ∙ t

some_is : {X : Type 0} (x y : X) → ◌≡◌ {A = Option X} (Some x) (Some y) → x ≡ y
some_is x y h = cc

-- ---- look-ups

pub number-there : {V A : Type 0} (key : List ℕ) (es : List (ℕ × Piece (Named V A))) → is_some (number_of key es) ≡ is_some (piece_of key (pieces_of es))
number-there key [] = refl
number-there {V} {A} key (e ∷ es) = by_test (same_key key e.1.value.key) refl (number-there key es)
  where
    by_test : (b : Bool) → same_key key e.1.value.key ≡ b → is_some (number_of key es) ≡ is_some (piece_of key (pieces_of es)) → is_some (number_of key (e ∷ es)) ≡ is_some (piece_of key (pieces_of (e ∷ es)))
    by_test true t more = rw (t, flip key e.1 true t) refl
    by_test false t more = rw (t, flip key e.1 false t) more

none-is : {X : Type 0} (o : Option X) → is_some o ≡ false → o ≡ None
none-is None e = refl
none-is (Some x) e = absurd (cc)

pub none-there : {V A : Type 0} (key : List ℕ) (es : List (ℕ × Piece (Named V A))) → number_of key es ≡ None → piece_of key (pieces_of es) ≡ None
none-there key es e = none-is (piece_of key (pieces_of es)) (sym (number-there key es) ∙ ap is_some e)

pub no-number : {V A : Type 0} (key : List ℕ) (es : List (ℕ × Piece (Named V A))) → piece_of key (pieces_of es) ≡ None → number_of key es ≡ None
no-number key es e = none-is (number_of key es) (number-there key es ∙ ap is_some e)

number-from : {V A : Type 0} (key : List ℕ) (n low high : ℕ) (es : List (ℕ × Piece (Named V A))) → Rises low high es → number_of key es ≡ Some n → low ≤ n
number-from key n low high [] r h = cc
number-from key n low high (e ∷ es) r h = go (same_key key e.1.value.key) (number-from key n (e.0 + 1) high es r.1) h
  where
    go : (t : Bool) → (number_of key es ≡ Some n → e.0 + 1 ≤ n) → (if t then Some e.0 else number_of key es) ≡ Some n → low ≤ n
    go true more h = let p : e.0 ≡ n = cc in omega (arith, p, r.0)
    go false more h = let p : e.0 + 1 ≤ n = more h in omega (arith, p, r.0)

pub at-number : {V A : Type 0} (key : List ℕ) (n low high : ℕ) (es : List (ℕ × Piece (Named V A))) → Rises low high es → number_of key es ≡ Some n → piece_at n es ≡ piece_of key (pieces_of es)
at-number key n low high [] r h = absurd (cc)
at-number {V} {A} key n low high (e ∷ es) r h = by_test (same_key key e.1.value.key) refl h (at-number key n (e.0 + 1) high es r.1) (number-from key n (e.0 + 1) high es r.1)
  where
    by_test : (b : Bool) → same_key key e.1.value.key ≡ b → (if b then Some e.0 else number_of key es) ≡ Some n → (number_of key es ≡ Some n → piece_at n es ≡ piece_of key (pieces_of es)) → (number_of key es ≡ Some n → e.0 + 1 ≤ n)
        → piece_at n (e ∷ es) ≡ piece_of key (pieces_of (e ∷ es))
    by_test true t h more low =
        let p : e.0 ≡ n = cc in
        let x : (e.0 == n) ≡ true = grind (arith, p) in
        rw (x, flip key e.1 true t) refl
    by_test false t h more low =
        let p : e.0 + 1 ≤ n = low h in
        let x : (e.0 == n) ≡ false = grind (arith, p) in
        rw (x, flip key e.1 false t) (more h)

-- the piece that a key's number names, where there is one
pub numbered-is : {V A : Type 0} (key : List ℕ) (low high : ℕ) (es : List (ℕ × Piece (Named V A))) → Rises low high es → piece_numbered (number_of key es) es ≡ piece_of key (pieces_of es)
numbered-is {V} {A} key low high es r = by_number (number_of key es) refl
  where
    by_number : (o : Option ℕ) → number_of key es ≡ o → piece_numbered o es ≡ piece_of key (pieces_of es)
    by_number None e = sym (none-there key es e)
    by_number (Some n) e = at-number key n low high es r e

pub without-is : {V A : Type 0} (key : List ℕ) (es : List (ℕ × Piece (Named V A))) → pieces_of (without_entry key es) ≡ without_key key (pieces_of es)
without-is key [] = refl
without-is {V} {A} key (e ∷ es) = by_test (same_key key e.1.value.key) refl (without-is key es)
  where
    by_test : (b : Bool) → same_key key e.1.value.key ≡ b → pieces_of (without_entry key es) ≡ without_key key (pieces_of es) → pieces_of (without_entry key (e ∷ es)) ≡ without_key key (pieces_of (e ∷ es))
    by_test true t more = rw (t, flip key e.1 true t) more
    by_test false t more = rw (t, flip key e.1 false t) (ap (λ ps. e.1 ∷ ps) more)

-- ---- a piece that changes

-- this piece changes, and no other
abbrev pub changed_at : {V A : Type 0} → (Piece (Named V A) → Piece (Named V A)) → ℕ → List (ℕ × Piece (Named V A)) → List (ℕ × Piece (Named V A))
changed_at f n es = map (λ (e : ℕ × Piece (Named _ _)). if e.0 == n then (e.0, f e.1) else e) es

abbrev pub changed_key : {V A : Type 0} → (Piece (Named V A) → Piece (Named V A)) → List ℕ → List (Piece (Named V A)) → List (Piece (Named V A))
changed_key f key pieces = map (λ (piece : Piece (Named _ _)). if has_key key piece then f piece else piece) pieces

pub none-changed : {V A : Type 0} (f : Piece (Named V A) → Piece (Named V A)) (key : List ℕ) (pieces : List (Piece (Named V A))) → piece_of key pieces ≡ None → changed_key f key pieces ≡ pieces
none-changed f key [] e = refl
none-changed {V} {A} f key (piece ∷ pieces) e = by_test (has_key key piece) refl (none-changed f key pieces)
  where
    by_test : (b : Bool) → has_key key piece ≡ b → (piece_of key pieces ≡ None → changed_key f key pieces ≡ pieces) → changed_key f key (piece ∷ pieces) ≡ piece ∷ pieces
    by_test true t more = absurd (cc (rw t at e))
    by_test false t more = rw t (ap (λ ps. piece ∷ ps) (more (rw t at e)))

above-unchanged : {V A : Type 0} (f : Piece (Named V A) → Piece (Named V A)) (n low high : ℕ) (es : List (ℕ × Piece (Named V A))) → Rises low high es → n + 1 ≤ low → changed_at f n es ≡ es
above-unchanged f n low high [] r less = refl
above-unchanged {V} {A} f n low high (e ∷ es) r less =
    let x : (e.0 == n) ≡ false = grind (arith, r.0, less) in
    rw x (ap (λ xs. e ∷ xs) (above-unchanged f n (e.0 + 1) high es r.1 (omega (arith, r.0, less))))

pub same-key-none : {V A : Type 0} (key k : List ℕ) (es : List (ℕ × Piece (Named V A))) → same_key key k ≡ true → number_of k es ≡ None → number_of key es ≡ None
same-key-none key k [] s none = refl
same-key-none {V} {A} key k (e ∷ es) s none = by_test (same_key k e.1.value.key) refl none (same-key-none key k es s)
  where
    by_test : (b : Bool) → same_key k e.1.value.key ≡ b → (if b then Some e.0 else number_of k es) ≡ None → (number_of k es ≡ None → number_of key es ≡ None) → number_of key (e ∷ es) ≡ None
    by_test true t none more = absurd (cc)
    by_test false t none more = rw (nat_list_eq_equiv.congr key k e.1.value.key s ∙ t) (more none)

pub changed-is : {V A : Type 0} (f : Piece (Named V A) → Piece (Named V A)) (key : List ℕ) (n low high : ℕ) (es : List (ℕ × Piece (Named V A))) → Rises low high es → EntriesApart es → number_of key es ≡ Some n
    → pieces_of (changed_at f n es) ≡ changed_key f key (pieces_of es)
changed-is f key n low high [] r apart h = absurd (cc)
changed-is {V} {A} f key n low high (e ∷ es) r apart h = by_test (same_key key e.1.value.key) refl h (changed-is f key n (e.0 + 1) high es r.1 apart.1) (number-from key n (e.0 + 1) high es r.1)
  where
    by_test : (b : Bool) → same_key key e.1.value.key ≡ b → (if b then Some e.0 else number_of key es) ≡ Some n → (number_of key es ≡ Some n → pieces_of (changed_at f n es) ≡ changed_key f key (pieces_of es)) → (number_of key es ≡ Some n → e.0 + 1 ≤ n)
        → pieces_of (changed_at f n (e ∷ es)) ≡ changed_key f key (pieces_of (e ∷ es))
    by_test true t h more low =
        let p : e.0 ≡ n = cc in
        let x : (e.0 == n) ≡ true = grind (arith, p) in
        let rest : pieces_of (changed_at f n es) ≡ changed_key f key (pieces_of es) =
        ap pieces_of (above-unchanged f n (e.0 + 1) high es r.1 (omega (arith, p))) ∙ sym (none-changed f key (pieces_of es) (none-there key es (same-key-none key e.1.value.key es t apart.0))) in
        rw (x, flip key e.1 true t) (ap (λ ps. f e.1 ∷ ps) rest)
    by_test false t h more low =
        let p : e.0 + 1 ≤ n = low h in
        let x : (e.0 == n) ≡ false = grind (arith, p) in
        rw (x, flip key e.1 false t) (ap (λ ps. e.1 ∷ ps) (more h))

-- ---- no two pieces have one key

pub apart-is : {V A : Type 0} (es : List (ℕ × Piece (Named V A))) → EntriesApart es → AreApart (pieces_of es)
apart-is [] apart = tt
apart-is (e ∷ es) apart = (none-there e.1.value.key es apart.0, apart-is es apart.1)

-- a piece that is found is the one that has its key
pub found-by-key : {V A : Type 0} (test : Piece (Named V A) → Bool) (pieces : List (Piece (Named V A))) (found : Piece (Named V A)) → AreApart pieces → find test pieces ≡ Some found → piece_of found.value.key pieces ≡ Some found
found-by-key test [] found apart e = absurd (cc)
found-by-key {V} {A} test (piece ∷ pieces) found apart e = by_test (test piece) refl (found-by-key test pieces found apart.1)
  where
    by_test : (b : Bool) → test piece ≡ b → (find test pieces ≡ Some found → piece_of found.value.key pieces ≡ Some found) → piece_of found.value.key (piece ∷ pieces) ≡ Some found
    by_test true t more =
        let same : piece ≡ found = some_is piece found (rw t at e) in
        subst (λ (p : Piece (Named V A)). piece_of p.value.key (piece ∷ pieces) ≡ Some p) same (rw (nat_list_eq_equiv.refl piece.value.key) refl)
    by_test false t more = by_key (has_key found.value.key piece) refl (more (rw t at e))
      where
        by_key : (c : Bool) → has_key found.value.key piece ≡ c → piece_of found.value.key pieces ≡ Some found → piece_of found.value.key (piece ∷ pieces) ≡ Some found
        by_key false u rest = rw u rest
        by_key true u rest =
            let same : piece.value.key ≡ found.value.key = grind (arith, bytes_eq-Decides piece.value.key found.value.key, u) in
            let none : piece_of found.value.key pieces ≡ None = subst (λ k. piece_of k pieces ≡ None) same apart.0 in
            absurd (cc)

pub found-is : {V A : Type 0} (test : Piece (Named V A) → Bool) (pieces : List (Piece (Named V A))) → AreApart pieces → piece_by (option_map (λ (piece : Piece (Named V A)). piece.value.key) (find test pieces)) pieces ≡ find test pieces
found-is {V} {A} test pieces apart = by_found (find test pieces) refl
  where
    by_found : (o : Option (Piece (Named V A))) → find test pieces ≡ o → piece_by (option_map (λ (piece : Piece (Named V A)). piece.value.key) o) pieces ≡ o
    by_found None e = refl
    by_found (Some found) e = found-by-key test pieces found apart e

-- ---- the first piece of a lane

pub no-lane : {V A : Type 0} (lane : ℕ) (es : List (ℕ × Piece (Named V A))) → first_in_lane lane es ≡ None → (find (in_lane lane) (pieces_of es) ≡ None) × (without_first (in_lane lane) (pieces_of es) ≡ pieces_of es)
no-lane lane [] e = (refl, refl)
no-lane {V} {A} lane (e ∷ es) none = by_lane (is_in lane e.1.lane) refl (no-lane lane es)
  where
    by_lane : (b : Bool) → is_in lane e.1.lane ≡ b → (first_in_lane lane es ≡ None → (find (in_lane lane) (pieces_of es) ≡ None) × (without_first (in_lane lane) (pieces_of es) ≡ pieces_of es))
        → (find (in_lane lane) (pieces_of (e ∷ es)) ≡ None) × (without_first (in_lane lane) (pieces_of (e ∷ es)) ≡ pieces_of (e ∷ es))
    by_lane true t more = absurd (cc (rw t at none))
    by_lane false t more = let rest = more (rw t at none) in (rw t rest.0, rw t (ap (λ ps. e.1 ∷ ps) rest.1))

-- a number of a lane is from the lowest on
lane-from : {V A : Type 0} (lane n low high : ℕ) (es : List (ℕ × Piece (Named V A))) → Rises low high es → first_in_lane lane es ≡ Some n → low ≤ n
lane-from lane n low high [] r h = absurd (cc)
lane-from {V} {A} lane n low high (e ∷ es) r h = by_lane (is_in lane e.1.lane) refl (lane-from lane n (e.0 + 1) high es r.1)
  where
    by_lane : (b : Bool) → is_in lane e.1.lane ≡ b → (first_in_lane lane es ≡ Some n → e.0 + 1 ≤ n) → low ≤ n
    by_lane true t more = let p : e.0 ≡ n = some_is e.0 n (rw t at h) in omega (arith, p, r.0)
    by_lane false t more = let p : e.0 + 1 ≤ n = more (rw t at h) in omega (arith, p, r.0)

above-stays : {V A : Type 0} (n low high : ℕ) (es : List (ℕ × Piece (Named V A))) → Rises low high es → n + 1 ≤ low → without_number n es ≡ es
above-stays n low high [] r less = refl
above-stays {V} {A} n low high (e ∷ es) r less =
    let x : (e.0 == n) ≡ false = grind (arith, r.0, less) in
    rw x (ap (λ xs. e ∷ xs) (above-stays n (e.0 + 1) high es r.1 (omega (arith, r.0, less))))

pub first-lane : {V A : Type 0} (lane n low high : ℕ) (es : List (ℕ × Piece (Named V A))) → Rises low high es → first_in_lane lane es ≡ Some n → piece_at n es ≡ find (in_lane lane) (pieces_of es)
first-lane lane n low high [] r h = absurd (cc)
first-lane {V} {A} lane n low high (e ∷ es) r h = by_lane (is_in lane e.1.lane) refl (first-lane lane n (e.0 + 1) high es r.1) (lane-from lane n (e.0 + 1) high es r.1)
  where
    by_lane : (b : Bool) → is_in lane e.1.lane ≡ b → (first_in_lane lane es ≡ Some n → piece_at n es ≡ find (in_lane lane) (pieces_of es)) → (first_in_lane lane es ≡ Some n → e.0 + 1 ≤ n)
        → piece_at n (e ∷ es) ≡ find (in_lane lane) (pieces_of (e ∷ es))
    by_lane true t more low =
        let p : e.0 ≡ n = some_is e.0 n (rw t at h) in
        let x : (e.0 == n) ≡ true = grind (arith, p) in
        rw (x, t) refl
    by_lane false t more low =
        let k : first_in_lane lane es ≡ Some n = (rw t at h) in
        let p : e.0 + 1 ≤ n = low k in
        let x : (e.0 == n) ≡ false = grind (arith, p) in
        rw (x, t) (more k)

pub but-first : {V A : Type 0} (lane n low high : ℕ) (es : List (ℕ × Piece (Named V A))) → Rises low high es → first_in_lane lane es ≡ Some n → pieces_of (without_number n es) ≡ without_first (in_lane lane) (pieces_of es)
but-first lane n low high [] r h = absurd (cc)
but-first {V} {A} lane n low high (e ∷ es) r h = by_lane (is_in lane e.1.lane) refl (but-first lane n (e.0 + 1) high es r.1) (lane-from lane n (e.0 + 1) high es r.1)
  where
    by_lane : (b : Bool) → is_in lane e.1.lane ≡ b → (first_in_lane lane es ≡ Some n → pieces_of (without_number n es) ≡ without_first (in_lane lane) (pieces_of es)) → (first_in_lane lane es ≡ Some n → e.0 + 1 ≤ n)
        → pieces_of (without_number n (e ∷ es)) ≡ without_first (in_lane lane) (pieces_of (e ∷ es))
    by_lane true t more low =
        let p : e.0 ≡ n = some_is e.0 n (rw t at h) in
        let x : (e.0 == n) ≡ true = grind (arith, p) in
        rw (x, t) (ap pieces_of (above-stays n (e.0 + 1) high es r.1 (omega (arith, p))))
    by_lane false t more low =
        let k : first_in_lane lane es ≡ Some n = (rw t at h) in
        let p : e.0 + 1 ≤ n = low k in
        let x : (e.0 == n) ≡ false = grind (arith, p) in
        rw (x, t) (ap (λ ps. e.1 ∷ ps) (more k))

-- ---- the oldest piece

pub oldest-is : {V A : Type 0} (n low high : ℕ) (es : List (ℕ × Piece (Named V A))) → Rises low high es → oldest es ≡ Some n → (piece_at n es ≡ slice_get (pieces_of es) 0) × (pieces_of (without_number n es) ≡ drop 1 (pieces_of es))
oldest-is n low high [] r h = absurd (cc)
oldest-is n low high (e ∷ es) r h =
    let p : e.0 ≡ n = some_is e.0 n h in
    let x : (e.0 == n) ≡ true = grind (arith, p) in
    (rw x refl, rw x (ap pieces_of (above-stays n (e.0 + 1) high es r.1 (omega (arith, p)))))

pub no-oldest : {V A : Type 0} (es : List (ℕ × Piece (Named V A))) → oldest es ≡ None → (slice_get (pieces_of es) 0 ≡ None) × (drop 1 (pieces_of es) ≡ pieces_of es)
no-oldest [] h = (refl, refl)
no-oldest (e ∷ es) h = absurd (cc)

pub taken-is : {V A : Type 0} (es : List (ℕ × Piece (Named V A))) → any_taken es ≡ list_any is_taken (pieces_of es)
taken-is [] = refl
taken-is (e ∷ es) = ap (λ (b : Bool). e.1.taken || b) (taken-is es)
