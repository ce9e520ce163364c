-- Pieces that stand in order, and behind them those by their places.
use Rattle.std.proofs.Common.{◌≡◌, ℕ, ◌+◌, ◌-◌, ◌==◌, ◌<◌, ◌≤◌, Bool, true, false, not, List, [], ◌∷◌, ◌++◌, length, zero, suc, Option, Some, None, refl, sym, ap, arith, ◌∙◌}
use Rattle.std.specs.Prelude.{if◌then◌else◌, is_some, slice_set}
use Rattle.hc_queue.specs.declared.queue.Piece.{Piece}
use Rattle.hc_queue.specs.Queue.{Rises, without_number, taken_at, piece_at, numbered, piece_in, marked_place}
use Rattle.hc_queue.proofs.Gone.{rises-less, rises-lower, none-gone}

pub none-behind : {X : Type 0} (xs : List X) → xs ++ [] ≡ xs
none-behind [] = refl
none-behind (x ∷ xs) = ap (λ (ys : List _). x ∷ ys) (none-behind xs)

-- ---- two lists, one behind the other

pub rises-both : {V : Type 0} (low mid high : ℕ) (es fs : List (ℕ × Piece V)) → Rises low mid es → Rises mid high fs → Rises low high (es ++ fs)
rises-both low mid high [] fs r s = rises-lower low mid high fs r s
rises-both low mid high (e ∷ es) fs r s = (r.0, rises-both (e.0 + 1) mid high es fs r.1 s)

pub without-both : {V : Type 0} (n : ℕ) (es fs : List (ℕ × Piece V)) → without_number n (es ++ fs) ≡ without_number n es ++ without_number n fs
without-both n [] fs = refl
without-both n (e ∷ es) fs = go (e.0 == n) (without-both n es fs)
  where
    go : (t : Bool) → without_number n (es ++ fs) ≡ without_number n es ++ without_number n fs
        → (if not t then e ∷ without_number n (es ++ fs) else without_number n (es ++ fs)) ≡ (if not t then e ∷ without_number n es else without_number n es) ++ without_number n fs
    go true more = more
    go false more = ap (λ (xs : List (ℕ × Piece _)). e ∷ xs) more

pub taken-both : {V : Type 0} (n : ℕ) (es fs : List (ℕ × Piece V)) → taken_at n (es ++ fs) ≡ taken_at n es ++ taken_at n fs
taken-both n [] fs = refl
taken-both n (e ∷ es) fs = ap (λ (xs : List (ℕ × Piece _)). (if e.0 == n then (e.0, record e.1 { taken = true }) else e) ∷ xs) (taken-both n es fs)

pub piece-both : {V : Type 0} (n : ℕ) (es fs : List (ℕ × Piece V)) → piece_at n (es ++ fs) ≡ (if is_some (piece_at n es) then piece_at n es else piece_at n fs)
piece-both n [] fs = refl
piece-both n (e ∷ es) fs = go (e.0 == n) refl (piece-both n es fs)
  where
    go : (t : Bool) → (e.0 == n) ≡ t → piece_at n (es ++ fs) ≡ (if is_some (piece_at n es) then piece_at n es else piece_at n fs)
        → piece_at n (e ∷ (es ++ fs)) ≡ (if is_some (piece_at n (e ∷ es)) then piece_at n (e ∷ es) else piece_at n fs)
    go true p more = rw p refl
    go false p more = rw p more

-- ---- a number that no piece has

pub gone-above : {V : Type 0} (n low high : ℕ) (es : List (ℕ × Piece V)) → Rises low high es → high ≤ n → without_number n es ≡ es
gone-above n low high [] r le = refl
gone-above n low high (e ∷ es) r le =
    let k : e.0 + 1 ≤ high = rises-less (e.0 + 1) high es r.1 in let x : (e.0 == n) ≡ false = (grind (arith, k, le)) in
    rw x (ap (λ (xs : List (ℕ × Piece _)). e ∷ xs) (gone-above n (e.0 + 1) high es r.1 le))

pub taken-above : {V : Type 0} (n low high : ℕ) (es : List (ℕ × Piece V)) → Rises low high es → high ≤ n → taken_at n es ≡ es
taken-above n low high [] r le = refl
taken-above n low high (e ∷ es) r le =
    let k : e.0 + 1 ≤ high = rises-less (e.0 + 1) high es r.1 in let x : (e.0 == n) ≡ false = (grind (arith, k, le)) in
    rw x (ap (λ (xs : List (ℕ × Piece _)). e ∷ xs) (taken-above n (e.0 + 1) high es r.1 le))

pub taken-below : {V : Type 0} (n low high : ℕ) (es : List (ℕ × Piece V)) → Rises low high es → n < low → taken_at n es ≡ es
taken-below n low high [] r lt = refl
taken-below n low high (e ∷ es) r lt =
    let x : (e.0 == n) ≡ false = (grind (arith, r.0, lt)) in
    rw x (ap (λ (xs : List (ℕ × Piece _)). e ∷ xs) (taken-below n (e.0 + 1) high es r.1 (omega (arith, r.0, lt))))

pub piece-above : {V : Type 0} (n low high : ℕ) (es : List (ℕ × Piece V)) → Rises low high es → high ≤ n → piece_at n es ≡ None
piece-above n low high [] r le = refl
piece-above n low high (e ∷ es) r le =
    let k : e.0 + 1 ≤ high = rises-less (e.0 + 1) high es r.1 in let x : (e.0 == n) ≡ false = (grind (arith, k, le)) in
    rw x (piece-above n (e.0 + 1) high es r.1 le)

pub piece-below : {V : Type 0} (n low high : ℕ) (es : List (ℕ × Piece V)) → Rises low high es → n < low → piece_at n es ≡ None
piece-below n low high [] r lt = refl
piece-below n low high (e ∷ es) r lt =
    let x : (e.0 == n) ≡ false = (grind (arith, r.0, lt)) in
    rw x (piece-below n (e.0 + 1) high es r.1 (omega (arith, r.0, lt)))

-- ---- the numbers of places

pub rises-numbered : {V : Type 0} (from high : ℕ) (xs : List (Option (Piece V))) → from + length xs ≤ high → Rises from high (numbered from xs)
rises-numbered from high [] le = omega (arith, le)
rises-numbered from high (None ∷ xs) le = rises-lower from (from + 1) high (numbered (from + 1) xs) (omega arith) (rises-numbered (from + 1) high xs (omega (arith, le)))
rises-numbered from high (Some p ∷ xs) le = (omega arith, rises-numbered (from + 1) high xs (omega (arith, le)))

pub numbered-end : {V : Type 0} (from : ℕ) (p : Piece V) (xs : List (Option (Piece V))) → numbered from (xs ++ Some p ∷ []) ≡ numbered from xs ++ (from + length xs, p) ∷ []
numbered-end from p [] = λ i. (sum i, p) ∷ []
  where
    sum : from ≡ from + 0
    sum = omega arith
numbered-end from p (None ∷ xs) = numbered-end (from + 1) p xs ∙ (λ i. numbered (from + 1) xs ++ (sum None i, p) ∷ [])
  where
    sum : (x : Option (Piece _)) → from + 1 + length xs ≡ from + length (x ∷ xs)
    sum x = omega arith
numbered-end from p (Some q ∷ xs) = ap (λ (ys : List (ℕ × Piece _)). (from, q) ∷ ys) (numbered-end (from + 1) p xs ∙ (λ i. numbered (from + 1) xs ++ (sum (Some q) i, p) ∷ []))
  where
    sum : (x : Option (Piece _)) → from + 1 + length xs ≡ from + length (x ∷ xs)
    sum x = omega arith

pub place-gone : {V : Type 0} (i from n : ℕ) (xs : List (Option (Piece V))) → n ≡ from + i → without_number n (numbered from xs) ≡ numbered from (slice_set xs i None)
place-gone i from n [] e = refl
place-gone zero from n (None ∷ xs) e = none-gone n (from + 1) _ (numbered (from + 1) xs) (rises-numbered (from + 1) (from + 1 + length xs) xs (omega arith)) (omega (arith, e))
place-gone zero from n (Some p ∷ xs) e =
    let x : (from == n) ≡ true = (grind (arith, e)) in
    rw x (none-gone n (from + 1) _ (numbered (from + 1) xs) (rises-numbered (from + 1) (from + 1 + length xs) xs (omega arith)) (omega (arith, e)))
place-gone (suc i) from n (None ∷ xs) e = place-gone i (from + 1) n xs (omega (arith, e))
place-gone (suc i) from n (Some p ∷ xs) e =
    let x : (from == n) ≡ false = (grind (arith, e)) in
    rw x (ap (λ (ys : List (ℕ × Piece _)). (from, p) ∷ ys) (place-gone i (from + 1) n xs (omega (arith, e))))

pub place-taken : {V : Type 0} (i from n : ℕ) (xs : List (Option (Piece V))) → n ≡ from + i → taken_at n (numbered from xs) ≡ numbered from (marked_place i xs)
place-taken i from n [] e = refl
place-taken zero from n (None ∷ xs) e = taken-below n (from + 1) _ (numbered (from + 1) xs) (rises-numbered (from + 1) (from + 1 + length xs) xs (omega arith)) (omega (arith, e))
place-taken zero from n (Some p ∷ xs) e =
    let x : (from == n) ≡ true = (grind (arith, e)) in
    rw x (ap (λ (ys : List (ℕ × Piece _)). (from, record p { taken = true }) ∷ ys) (taken-below n (from + 1) _ (numbered (from + 1) xs) (rises-numbered (from + 1) (from + 1 + length xs) xs (omega arith)) (omega (arith, e))))
place-taken (suc i) from n (None ∷ xs) e = place-taken i (from + 1) n xs (omega (arith, e))
place-taken (suc i) from n (Some p ∷ xs) e =
    let x : (from == n) ≡ false = (grind (arith, e)) in
    rw x (ap (λ (ys : List (ℕ × Piece _)). (from, p) ∷ ys) (place-taken i (from + 1) n xs (omega (arith, e))))

pub place-piece : {V : Type 0} (i from n : ℕ) (xs : List (Option (Piece V))) → n ≡ from + i → piece_at n (numbered from xs) ≡ piece_in i xs
place-piece i from n [] e = refl
place-piece zero from n (None ∷ xs) e = piece-below n (from + 1) _ (numbered (from + 1) xs) (rises-numbered (from + 1) (from + 1 + length xs) xs (omega arith)) (omega (arith, e))
place-piece zero from n (Some p ∷ xs) e = let x : (from == n) ≡ true = (grind (arith, e)) in rw x refl
place-piece (suc i) from n (None ∷ xs) e = place-piece i (from + 1) n xs (omega (arith, e))
place-piece (suc i) from n (Some p ∷ xs) e = let x : (from == n) ≡ false = (grind (arith, e)) in rw x (place-piece i (from + 1) n xs (omega (arith, e)))

-- ---- by a number, wherever the piece stands

pub gone-front : {V : Type 0} (n from : ℕ) (es : List (ℕ × Piece V)) (xs : List (Option (Piece V))) → n < from → without_number n es ++ numbered from xs ≡ without_number n (es ++ numbered from xs)
gone-front n from es xs lt = ap (λ (ys : List (ℕ × Piece _)). without_number n es ++ ys) (sym (none-gone n from _ (numbered from xs) (rises-numbered from (from + length xs) xs (omega arith)) lt)) ∙ sym (without-both n es (numbered from xs))

pub gone-back : {V : Type 0} (n from : ℕ) (es : List (ℕ × Piece V)) (xs : List (Option (Piece V))) → Rises 0 from es → from ≤ n → es ++ numbered from (slice_set xs (n - from) None) ≡ without_number n (es ++ numbered from xs)
gone-back n from es xs r le =
    (λ i. sym (gone-above n 0 from es r le) i ++ sym (place-gone (n - from) from n xs (omega (arith, le))) i) ∙ sym (without-both n es (numbered from xs))

pub taken-front : {V : Type 0} (n from : ℕ) (es : List (ℕ × Piece V)) (xs : List (Option (Piece V))) → n < from → taken_at n es ++ numbered from xs ≡ taken_at n (es ++ numbered from xs)
taken-front n from es xs lt = ap (λ (ys : List (ℕ × Piece _)). taken_at n es ++ ys) (sym (taken-below n from _ (numbered from xs) (rises-numbered from (from + length xs) xs (omega arith)) lt)) ∙ sym (taken-both n es (numbered from xs))

pub taken-back : {V : Type 0} (n from : ℕ) (es : List (ℕ × Piece V)) (xs : List (Option (Piece V))) → Rises 0 from es → from ≤ n → es ++ numbered from (marked_place (n - from) xs) ≡ taken_at n (es ++ numbered from xs)
taken-back n from es xs r le =
    (λ i. sym (taken-above n 0 from es r le) i ++ sym (place-taken (n - from) from n xs (omega (arith, le))) i) ∙ sym (taken-both n es (numbered from xs))

pub piece-front : {V : Type 0} (n from : ℕ) (es : List (ℕ × Piece V)) (xs : List (Option (Piece V))) → n < from → piece_at n es ≡ piece_at n (es ++ numbered from xs)
piece-front n from es xs lt =
    go (piece_at n es) refl ∙ sym (piece-both n es (numbered from xs))
  where
    go : (o : Option (Piece _)) → piece_at n es ≡ o → piece_at n es ≡ (if is_some (piece_at n es) then piece_at n es else piece_at n (numbered from xs))
    go None h = rw h (sym (piece-below n from _ (numbered from xs) (rises-numbered from (from + length xs) xs (omega arith)) lt))
    go (Some p) h = rw h refl

pub piece-back : {V : Type 0} (n from : ℕ) (es : List (ℕ × Piece V)) (xs : List (Option (Piece V))) → Rises 0 from es → from ≤ n → piece_in (n - from) xs ≡ piece_at n (es ++ numbered from xs)
piece-back n from es xs r le =
    sym (place-piece (n - from) from n xs (omega (arith, le))) ∙ sym (piece-both n es (numbered from xs) ∙ rw (piece-above n 0 from es r le) refl)

-- ---- how many

pub rises-length : {V : Type 0} (low high : ℕ) (es : List (ℕ × Piece V)) → Rises low high es → low + length es ≤ high
rises-length low high [] r = omega (arith, r)
rises-length low high (e ∷ es) r = let k : e.0 + 1 + length es ≤ high = rises-length (e.0 + 1) high es r.1 in omega (arith, k, r.0)

pub length-gone : {V : Type 0} (n low high : ℕ) (es : List (ℕ × Piece V)) → Rises low high es → length es ≡ length (without_number n es) + (if is_some (piece_at n es) then 1 else 0)
length-gone n low high [] r = refl
length-gone n low high (e ∷ es) r = go (e.0 == n) refl (length-gone n (e.0 + 1) high es r.1)
  where
    go : (t : Bool) → (e.0 == n) ≡ t → length es ≡ length (without_number n es) + (if is_some (piece_at n es) then 1 else 0) → length (e ∷ es) ≡ length (without_number n (e ∷ es)) + (if is_some (piece_at n (e ∷ es)) then 1 else 0)
    go true p more =
        let h : length (without_number n es) ≡ length es = ap length (none-gone n (e.0 + 1) high es r.1 (grind (arith, p))) in
        rw p (omega (arith, h))
    go false p more = rw p (shifted (if is_some (piece_at n es) then 1 else 0) more)
      where
        shifted : (k : ℕ) → length es ≡ length (without_number n es) + k → length (e ∷ es) ≡ length (e ∷ without_number n es) + k
        shifted k h = omega (arith, h)

pub length-taken : {V : Type 0} (n : ℕ) (es : List (ℕ × Piece V)) → length (taken_at n es) ≡ length es
length-taken n [] = refl
length-taken n (e ∷ es) = ap (λ (k : ℕ). suc k) (length-taken n es)

pub joined-behind : {X : Type 0} (xs bs cs : List X) → xs ++ (bs ++ cs) ≡ (xs ++ bs) ++ cs
joined-behind [] bs cs = refl
joined-behind (x ∷ xs) bs cs = ap (λ (zs : List _). x ∷ zs) (joined-behind xs bs cs)

pub one-more : {X : Type 0} (x : X) (xs : List X) → length (xs ++ x ∷ []) ≡ length xs + 1
one-more x [] = refl
one-more x (y ∷ ys) = let h = one-more x ys in omega (arith, h)

-- ---- what holds of a queue at every time

pub rises-whole : {V : Type 0} (from : ℕ) (es : List (ℕ × Piece V)) (xs : List (Option (Piece V))) (n : ℕ) → Rises 0 from es → n ≡ length xs → Rises 0 (from + n) (es ++ numbered from xs)
rises-whole from es xs n r e = rises-both 0 from (from + n) es (numbered from xs) r (rises-numbered from (from + n) xs (omega (arith, e)))

-- a piece comes last
pub pushed-end : {V : Type 0} (from n : ℕ) (p : Piece V) (es : List (ℕ × Piece V)) (xs ys : List (Option (Piece V))) → ys ≡ xs ++ Some p ∷ [] → n ≡ length xs → es ++ numbered from ys ≡ (es ++ numbered from xs) ++ (from + n, p) ∷ []
pushed-end from n p es xs ys e m =
    ap (λ (zs : List (Option (Piece _))). es ++ numbered from zs) e
    ∙ (ap (λ (zs : List (ℕ × Piece _)). es ++ zs) (numbered-end from p xs)
    ∙ (joined-behind es (numbered from xs) ((from + length xs, p) ∷ []) ∙ ap (λ (k : ℕ). (es ++ numbered from xs) ++ (from + k, p) ∷ []) (sym m)))

pub counted-more : {V : Type 0} (from n count : ℕ) (p : Piece V) (es : List (ℕ × Piece V)) (xs ys : List (Option (Piece V))) → ys ≡ xs ++ Some p ∷ [] → n ≡ length xs → count ≡ length (es ++ numbered from xs) → count + 1 ≡ length (es ++ numbered from ys)
counted-more from n count p es xs ys e m h =
    let k : length (es ++ numbered from ys) ≡ length (es ++ numbered from xs) + 1 = ap length (pushed-end from n p es xs ys e m) ∙ one-more (from + n, p) (es ++ numbered from xs) in
    omega (arith, k, h)

pub counted-less : {V : Type 0} (n high count : ℕ) (o : Option (Piece V)) (es fs : List (ℕ × Piece V)) (t : Bool) → Rises 0 high es → count ≡ length es → o ≡ piece_at n es → fs ≡ without_number n es → is_some o ≡ t → count ≡ length fs + (if t then 1 else 0)
counted-less n high count o es fs t r h p e s =
    h ∙ (length-gone n 0 high es r ∙ (λ i. length (sym e i) + (if (ap is_some (sym p) ∙ s) i then 1 else 0)))

-- ---- the first place goes

pub rises-more : {V : Type 0} (low high more : ℕ) (es : List (ℕ × Piece V)) → high ≤ more → Rises low high es → Rises low more es
rises-more low high more [] le r = omega (arith, le, r)
rises-more low high more (e ∷ es) le r = (r.0, rises-more (e.0 + 1) high more es le r.1)

pub first-empty : {V : Type 0} (from : ℕ) (es : List (ℕ × Piece V)) (xs ys : List (Option (Piece V))) → ys ≡ None ∷ xs → es ++ numbered (from + 1) xs ≡ es ++ numbered from ys
first-empty from es xs ys e = ap (λ (zs : List (Option (Piece _))). es ++ numbered from zs) (sym e)

pub first-enters : {V : Type 0} (from : ℕ) (p : Piece V) (es fs : List (ℕ × Piece V)) (xs ys : List (Option (Piece V))) → ys ≡ Some p ∷ xs → fs ≡ es ++ (from, p) ∷ [] → fs ++ numbered (from + 1) xs ≡ es ++ numbered from ys
first-enters from p es fs xs ys e f =
    ap (λ (zs : List (ℕ × Piece _)). zs ++ numbered (from + 1) xs) f
    ∙ (sym (joined-behind es ((from, p) ∷ []) (numbered (from + 1) xs)) ∙ ap (λ (zs : List (Option (Piece _))). es ++ numbered from zs) (sym e))
