-- What holds of the pieces that stand in order at every time, through its steps.
use Rattle.std.proofs.Common.{◌≡◌, ℕ, ◌+◌, ◌-◌, ◌==◌, ◌<◌, ◌≤◌, Bool, true, false, not, ◌&&◌, List, [], ◌∷◌, ◌++◌, length, Option, Some, None, refl, sym, ap, subst, arith, ◌∙◌, Ordering, Less, Equal, Greater}
use Rattle.std.specs.Prelude.{if◌then◌else◌, is_some}
use Rattle.std.specs.Ordering.{nat_cmp, match_ordering}
use Rattle.std.specs.BTreeMap.{is_at}
use Rattle.std.specs.BTreeSet.{insert_key}
use Rattle.std.specs.List.{list_any}
use Rattle.std.specs.List.Sorted.{IsStrictlySortedBy}
use Rattle.std.specs.Map.{lookup, set_value}
use Rattle.std.specs.Set.{remove_key}
use Rattle.std.proofs.lemmas.Bool.{eqb-true}
use Rattle.hc_queue.specs.declared.queue.Piece.{Piece}
use Rattle.hc_queue.specs.Queue.{firsts, in_lane, waiting, first_of, with, Rises, without_number, turn_of, lane_at, piece_at, taken_at, AllBelow, Kept, beside, joined, left, left_by, unready_by, noted_by, comes_first, only_if, open_lane, IsNew, Waits, is_among, AreDistinct, pair_cmp}
use Rattle.hc_queue.proofs.Firsts.{is-at}
use Rattle.hc_queue.proofs.Besides.{beside-insert, beside-remove, insert-end, beside-pair}
use Rattle.hc_queue.proofs.Gone.{At, at-turn, at-waits, rises-gone, waiting-gone, lane-gone, lane-taken, gone-idle, waiting-idle, rises-taken, firsts-taken, waiting-taken}
use Rattle.hc_queue.proofs.Noted.{ended, ended-distinct, caught, distinct-front}
use Rattle.hc_queue.proofs.Pushed.{rises-push, lane-below, waiting-below, firsts-below, lane-push, waiting-push, push-taken, push-none, push-some}

-- ---- a piece by its number

pub lookup-is : {V : Type 0} (n : ℕ) (es : List (ℕ × Piece V)) → lookup (is_at (nat_cmp n)) es ≡ piece_at n es
lookup-is n [] = refl
lookup-is n (e ∷ es) = go (n == e.0) refl (lookup-is n es)
  where
    go : (t : Bool) → (n == e.0) ≡ t → lookup (is_at (nat_cmp n)) es ≡ piece_at n es → lookup (is_at (nat_cmp n)) (e ∷ es) ≡ piece_at n (e ∷ es)
    go true p more = let x : (e.0 == n) ≡ true = (grind (arith, p)) in let y : is_at (nat_cmp n) e.0 ≡ true = is-at n e.0 ∙ p in rw (y, x) refl
    go false p more = let x : (e.0 == n) ≡ false = (grind (arith, p)) in let y : is_at (nat_cmp n) e.0 ≡ false = is-at n e.0 ∙ p in rw (y, x) more

abbrev pub turn : {V : Type 0} → Option (Piece V) → Option (Option ℕ)
turn None = None
turn (Some p) = if p.taken then None else Some p.lane

pub turn-is : {V : Type 0} (n : ℕ) (es : List (ℕ × Piece V)) → turn_of n es ≡ turn (lookup (is_at (nat_cmp n)) es)
turn-is n [] = refl
turn-is n (e ∷ es) = go (n == e.0) refl (turn-is n es)
  where
    go : (t : Bool) → (n == e.0) ≡ t → turn_of n es ≡ turn (lookup (is_at (nat_cmp n)) es) → turn_of n (e ∷ es) ≡ turn (lookup (is_at (nat_cmp n)) (e ∷ es))
    go true p more = let y : is_at (nat_cmp n) e.0 ≡ true = is-at n e.0 ∙ p in rw (y, p) refl
    go false p more = let y : is_at (nat_cmp n) e.0 ≡ false = is-at n e.0 ∙ p in rw (y, p) more

abbrev pub lane_of : {V : Type 0} → Option (Piece V) → Option ℕ
lane_of None = None
lane_of (Some p) = p.lane

pub lane-is : {V : Type 0} (n : ℕ) (es : List (ℕ × Piece V)) → lane_at n es ≡ lane_of (lookup (is_at (nat_cmp n)) es)
lane-is n [] = refl
lane-is n (e ∷ es) = go (n == e.0) refl (lane-is n es)
  where
    go : (t : Bool) → (n == e.0) ≡ t → lane_at n es ≡ lane_of (lookup (is_at (nat_cmp n)) es) → lane_at n (e ∷ es) ≡ lane_of (lookup (is_at (nat_cmp n)) (e ∷ es))
    go true p more = let y : is_at (nat_cmp n) e.0 ≡ true = is-at n e.0 ∙ p in rw (y, p) refl
    go false p more = let y : is_at (nat_cmp n) e.0 ≡ false = is-at n e.0 ∙ p in rw (y, p) more

-- ---- a piece that comes last

pub new-in-lane : {V : Type 0} (o : Option ℕ) (n : ℕ) (es : List (ℕ × Piece V)) (ps : List (ℕ × ℕ)) → Rises 0 n es → ((l : ℕ) → beside l ps ≡ in_lane l es) → IsNew o n ps
new-in-lane None n es ps r e = tt
new-in-lane (Some l) n es ps r e = subst (AllBelow n) (sym (e l)) (lane-below l 0 n es r)

pub new-waiting : {V : Type 0} (o : Option ℕ) (n : ℕ) (es : List (ℕ × Piece V)) (ps : List (ℕ × ℕ)) → Rises 0 n es → ((l : ℕ) → beside l ps ≡ waiting l es) → IsNew o n ps
new-waiting None n es ps r e = tt
new-waiting (Some l) n es ps r e = subst (AllBelow n) (sym (e l)) (waiting-below l 0 n es r)

pub ready-below : {V : Type 0} (n : ℕ) (busy : ℕ → Bool) (es : List (ℕ × Piece V)) (rs : List ℕ) → Rises 0 n es → rs ≡ firsts busy es → AllBelow n rs
ready-below n busy es rs r s = subst (AllBelow n) (sym s) (firsts-below busy 0 n es r)

lane-pushed : {V : Type 0} (m n : ℕ) (p : Piece V) (o : Option ℕ) (es : List (ℕ × Piece V)) (ps : List (ℕ × ℕ)) → p.lane ≡ o → IsStrictlySortedBy pair_cmp ps → IsNew o n ps → beside m ps ≡ in_lane m es
    → beside m (joined o n ps) ≡ in_lane m (es ++ (n, p) ∷ [])
lane-pushed m n p None es ps g s new e = e ∙ sym (lane-push m n p es ∙ rw g refl)
lane-pushed m n p (Some l) es ps g s new e = beside-insert m l n ps s new ∙ (ap (λ (ns : List ℕ). if l == m then ns ++ n ∷ [] else ns) e ∙ sym (lane-push m n p es ∙ rw g refl))

waiting-pushed : {V : Type 0} (m n : ℕ) (p : Piece V) (o : Option ℕ) (es : List (ℕ × Piece V)) (ps : List (ℕ × ℕ)) → open_lane p ≡ o → IsStrictlySortedBy pair_cmp ps → IsNew o n ps → beside m ps ≡ waiting m es
    → beside m (joined o n ps) ≡ waiting m (es ++ (n, p) ∷ [])
waiting-pushed m n p None es ps g s new e = e ∙ sym (waiting-push m n p es ∙ rw g refl)
waiting-pushed m n p (Some l) es ps g s new e = beside-insert m l n ps s new ∙ (ap (λ (ns : List ℕ). if l == m then ns ++ n ∷ [] else ns) e ∙ sym (waiting-push m n p es ∙ rw g refl))

none-more : (xs : List ℕ) → xs ≡ xs ++ []
none-more [] = refl
none-more (x ∷ xs) = ap (λ (ns : List ℕ). x ∷ ns) (none-more xs)

serves-pushed : {V : Type 0} (n : ℕ) (p : Piece V) (t : Bool) (o : Option ℕ) (es : List (ℕ × Piece V)) (ps : List (ℕ × ℕ)) (rs : List ℕ) → p.taken ≡ t → p.lane ≡ o → Rises 0 n es → ((l : ℕ) → beside l ps ≡ waiting l es)
    → rs ≡ firsts (is_among []) es → with (only_if (not t && comes_first o ps) n) rs ≡ firsts (is_among []) (es ++ (n, p) ∷ [])
serves-pushed n p true o es ps rs f g r e s = s ∙ sym (push-taken (is_among []) n p es f)
serves-pushed n p false None es ps rs f g r e s = insert-end n rs (ready-below n (is_among []) es rs r s) ∙ (ap (λ (ns : List ℕ). ns ++ n ∷ []) s ∙ sym (push-none (is_among []) n p es f g))
serves-pushed n p false (Some l) es ps rs f g r e s =
    rw (e l) (go (is_some (first_of (waiting l es))) ∙ (ap (λ (ns : List ℕ). ns ++ (if not (is_some (first_of (waiting l es))) then n ∷ [] else [])) s ∙ sym (push-some (is_among []) n l p es f g)))
  where
    go : (u : Bool) → with (only_if (not u) n) rs ≡ rs ++ (if not u then n ∷ [] else [])
    go true = none-more rs
    go false = insert-end n rs (ready-below n (is_among []) es rs r s)

longer : (ps : List (ℕ × ℕ)) (q : ℕ × ℕ) → length (insert_key pair_cmp ps q) ≤ length ps + 1
longer [] q = omega arith
longer (p ∷ ps) q = go (pair_cmp q p) (longer ps q)
  where
    go : (o : Ordering) → length (insert_key pair_cmp ps q) ≤ length ps + 1 → length (match_ordering o (q ∷ p ∷ ps) (p ∷ ps) (p ∷ insert_key pair_cmp ps q)) ≤ length (p ∷ ps) + 1
    go Less h = omega arith
    go Equal h = omega arith
    go Greater h = omega (arith, h)

pub joined-length : (o : Option ℕ) (n : ℕ) (ps : List (ℕ × ℕ)) → length (joined o n ps) ≤ length ps + 1
joined-length None n ps = omega arith
joined-length (Some l) n ps = longer ps (l, n)

-- at most one more lane will be noted
pub joined-spare : (o : Option ℕ) (n : ℕ) (ls : List ℕ) (ws ws2 : List (ℕ × ℕ)) (most : ℕ) → ws2 ≡ joined o n ws → most - (length ls + length ws) ≤ most - (length ls + length ws2) + 1
joined-spare o n ls ws ws2 most e = let p : length ws2 ≡ length (joined o n ws) = ap length e in let q : length (joined o n ws) ≤ length ws + 1 = joined-length o n ws in omega (arith, p, q)

pub kept-entered : {V : Type 0} (n : ℕ) (p : Piece V) (es : List (ℕ × Piece V)) (ps ws : List (ℕ × ℕ)) (rs ls : List ℕ) (most : ℕ) → IsStrictlySortedBy pair_cmp ps → IsStrictlySortedBy pair_cmp ws → Rises 0 n es → ls ≡ [] → 0 < most - (length ls + length ws) → Kept es ps ws rs ls most
    → Kept (es ++ (n, p) ∷ []) (joined p.lane n ps) (joined (open_lane p) n ws) (with (only_if (not p.taken && comes_first p.lane ws) n) rs) ls most
kept-entered n p es ps ws rs ls most s t r e room k = record {
  rises = (n + 1, rises-push 0 n p es r);
  in_lanes = λ m. lane-pushed m n p p.lane es ps refl s (new-in-lane p.lane n es ps r k.in_lanes) (k.in_lanes m);
  by_lane = λ m. waiting-pushed m n p (open_lane p) es ws refl t (new-waiting (open_lane p) n es ws r k.by_lane) (k.by_lane m);
  serves = serves-pushed n p p.taken p.lane es ws rs refl refl r k.by_lane (k.serves ∙ ap (λ (xs : List ℕ). firsts (is_among xs) es) e) ∙ ap (λ (xs : List ℕ). firsts (is_among xs) (es ++ (n, p) ∷ [])) (sym e);
  distinct = k.distinct;
  room = let j : length (joined (open_lane p) n ws) ≤ length ws + 1 = joined-length (open_lane p) n ws in omega (arith, j, room);
}

-- ---- a piece whose turn ends

lane-left : {V : Type 0} (m n high : ℕ) (o : Option ℕ) (es : List (ℕ × Piece V)) (ps : List (ℕ × ℕ)) → Rises 0 high es → lane_at n es ≡ o → beside m ps ≡ in_lane m es → beside m (left o n ps) ≡ in_lane m (without_number n es)
lane-left m n high None es ps r q e = e ∙ sym (lane-gone m n 0 high es r ∙ rw q refl)
lane-left m n high (Some l) es ps r q e = beside-remove m l n ps ∙ (ap (λ (ns : List ℕ). if l == m then remove_key (is_at (nat_cmp n)) ns else ns) e ∙ sym (lane-gone m n 0 high es r ∙ rw q refl))

waiting-left : {V : Type 0} (m n high : ℕ) (o : Option ℕ) (es : List (ℕ × Piece V)) (ps : List (ℕ × ℕ)) → Rises 0 high es → At n o es → beside m ps ≡ waiting m es → beside m (left o n ps) ≡ waiting m (without_number n es)
waiting-left m n high None es ps r a e = e ∙ sym (waiting-gone m n 0 high None es r a)
waiting-left m n high (Some l) es ps r a e = beside-remove m l n ps ∙ (ap (λ (ns : List ℕ). if l == m then remove_key (is_at (nat_cmp n)) ns else ns) e ∙ sym (waiting-gone m n 0 high (Some l) es r a))

-- a piece whose turn may come stands where it waits
pub turn-waits : {V : Type 0} (n : ℕ) (t : Option (Option ℕ)) (es : List (ℕ × Piece V)) (ws : List (ℕ × ℕ)) → ((l : ℕ) → beside l ws ≡ waiting l es) → turn_of n es ≡ t → Waits t n ws
turn-waits n None es ws e q = tt
turn-waits n (Some None) es ws e q = tt
turn-waits n (Some (Some l)) es ws e q = beside-pair l n ws (ap (list_any (is_at (nat_cmp n))) (e l) ∙ at-waits n l es (at-turn n (Some l) es q))

-- what holds of the pieces whose turn may come, once that of one has ended
record Ends {V : Type 0} (es : List (ℕ × Piece V)) (ws : List (ℕ × ℕ)) (rs ls : List ℕ) : Type 0 where
  pub by_lane : (lane : ℕ) → beside lane ws ≡ waiting lane es
  pub serves : rs ≡ firsts (is_among ls) es
  pub distinct : AreDistinct ls

ends : {V : Type 0} (n high : ℕ) (t : Option (Option ℕ)) (es : List (ℕ × Piece V)) (ws : List (ℕ × ℕ)) (rs ls : List ℕ) → Rises 0 high es → Ends es ws rs ls → turn_of n es ≡ t
    → Ends (without_number n es) (left_by t n ws) (unready_by t n rs) (noted_by t n rs ls)
ends n high None es ws rs ls r k e = record {
  by_lane = λ m. k.by_lane m ∙ sym (waiting-idle m n 0 high es r e);
  serves = k.serves ∙ sym (gone-idle (is_among ls) n 0 high es r e);
  distinct = k.distinct;
}
ends n high (Some o) es ws rs ls r k e =
    let a : At n o es = at-turn n o es e in
    record {
      by_lane = λ m. waiting-left m n high o es ws r a (k.by_lane m);
      serves = ended n 0 high o ls rs es r a k.serves;
      distinct = ended-distinct n 0 high o ls rs es r a k.serves k.distinct;
    }

-- as many lanes are noted as pieces wait no more
pub room-ended : (n : ℕ) (t : Option (Option ℕ)) (ws : List (ℕ × ℕ)) (rs ls : List ℕ) (ws2 : List (ℕ × ℕ)) (ls2 : List ℕ) → ws2 ≡ left_by t n ws → ls2 ≡ noted_by t n rs ls → length ls2 + length ws2 ≤ length ls + length ws
    → length (noted_by t n rs ls) + length (left_by t n ws) ≤ length ls + length ws
room-ended n t ws rs ls ws2 ls2 w l room = let p : length ws2 ≡ length (left_by t n ws) = ap length w in let q : length ls2 ≡ length (noted_by t n rs ls) = ap length l in omega (arith, p, q, room)

pub kept-gone : {V : Type 0} (n : ℕ) (t : Option (Option ℕ)) (es : List (ℕ × Piece V)) (ps ws : List (ℕ × ℕ)) (rs ls : List ℕ) (most : ℕ) → Kept es ps ws rs ls most → turn_of n es ≡ t
    → length (noted_by t n rs ls) + length (left_by t n ws) ≤ length ls + length ws
    → Kept (without_number n es) (left (lane_at n es) n ps) (left_by t n ws) (unready_by t n rs) (noted_by t n rs ls) most
kept-gone n t es ps ws rs ls most k e room =
    let high = k.rises.0 in
    let j = ends n high t es ws rs ls k.rises.1 (record { by_lane = k.by_lane; serves = k.serves; distinct = k.distinct }) e in
    record {
      rises = (high, rises-gone n 0 high es k.rises.1);
      in_lanes = λ m. lane-left m n high (lane_at n es) es ps k.rises.1 refl (k.in_lanes m);
      by_lane = j.by_lane;
      serves = j.serves;
      distinct = j.distinct;
      room = (let was = k.room in omega (arith, room, was));
    }

pub kept-marked : {V : Type 0} (n : ℕ) (t : Option (Option ℕ)) (es : List (ℕ × Piece V)) (ps ws : List (ℕ × ℕ)) (rs ls : List ℕ) (most : ℕ) → Kept es ps ws rs ls most → turn_of n es ≡ t
    → length (noted_by t n rs ls) + length (left_by t n ws) ≤ length ls + length ws
    → Kept (taken_at n es) ps (left_by t n ws) (unready_by t n rs) (noted_by t n rs ls) most
kept-marked n t es ps ws rs ls most k e room =
    let high = k.rises.0 in
    let j = ends n high t es ws rs ls k.rises.1 (record { by_lane = k.by_lane; serves = k.serves; distinct = k.distinct }) e in
    record {
      rises = (high, rises-taken n 0 high es k.rises.1);
      in_lanes = λ m. k.in_lanes m ∙ sym (lane-taken m n es);
      by_lane = λ m. j.by_lane m ∙ sym (waiting-taken m n es);
      serves = j.serves ∙ sym (firsts-taken (is_among (noted_by t n rs ls)) n es);
      distinct = j.distinct;
      room = (let was = k.room in omega (arith, room, was));
    }

pub end-length : (xs : List ℕ) (x : ℕ) → length (xs ++ x ∷ []) ≡ length xs + 1
end-length [] x = refl
end-length (y ∷ xs) x = let h = end-length xs x in omega (arith, h)

-- ---- a lane that catches up

pub kept-caught : {V : Type 0} (l : ℕ) (es : List (ℕ × Piece V)) (ps ws : List (ℕ × ℕ)) (rs ls older : List ℕ) (most : ℕ) → older ≡ ls ++ l ∷ [] → Kept es ps ws rs older most
    → Kept es ps ws (with (first_of (beside l ws)) rs) ls most
kept-caught l es ps ws rs ls older most e k = record {
  rises = k.rises;
  in_lanes = k.in_lanes;
  by_lane = k.by_lane;
  serves = ap (λ (ns : List ℕ). with (first_of ns) rs) (k.by_lane l) ∙ caught l 0 k.rises.0 ls rs es k.rises.1 (subst AreDistinct e k.distinct) (k.serves ∙ ap (λ (xs : List ℕ). firsts (is_among xs) es) e);
  distinct = (distinct-front ls l (subst AreDistinct e k.distinct)).1;
  room = (let was = k.room in let less : length older ≡ length ls + 1 = ap length e ∙ end-length ls l in omega (arith, was, less));
}

-- ---- a piece that is taken

none-taken : {V : Type 0} (n low high : ℕ) (es : List (ℕ × Piece V)) → Rises low high es → n < low → taken_at n es ≡ es
none-taken n low high [] r lt = refl
none-taken n low high (e ∷ es) r lt = let x : (e.0 == n) ≡ false = (grind (arith, r.0, lt)) in rw x (ap (λ (xs : List (ℕ × Piece _)). e ∷ xs) (none-taken n (e.0 + 1) high es r.1 (omega (arith, r.0, lt))))

some-same : {A : Type 0} (x y : A) → ◌≡◌ {A = Option A} (Some x) (Some y) → x ≡ y
some-same x y h = cc

pub set-taken : {V : Type 0} (n low high : ℕ) (p : Piece V) (es : List (ℕ × Piece V)) → Rises low high es → Some p ≡ lookup (is_at (nat_cmp n)) es
    → set_value (is_at (nat_cmp n)) es (record p { taken = true }) ≡ taken_at n es
set-taken n low high p [] r h = refl
set-taken n low high p (e ∷ es) r h = go (n == e.0) refl (λ k. set-taken n (e.0 + 1) high p es r.1 k)
  where
    go : (t : Bool) → (n == e.0) ≡ t → (Some p ≡ lookup (is_at (nat_cmp n)) es → set_value (is_at (nat_cmp n)) es (record p { taken = true }) ≡ taken_at n es)
        → set_value (is_at (nat_cmp n)) (e ∷ es) (record p { taken = true }) ≡ taken_at n (e ∷ es)
    go true q more =
        let x : (e.0 == n) ≡ true = (grind (arith, q)) in let y : is_at (nat_cmp n) e.0 ≡ true = is-at n e.0 ∙ q in
        let k : p ≡ e.1 = some-same p e.1 (rw y at h) in
        let z : taken_at n es ≡ es = none-taken n (e.0 + 1) high es r.1 (let m : n ≡ e.0 = eqb-true n e.0 q in omega (arith, m)) in
        rw (y, x, z) (ap (λ (w : Piece _). (e.0, record w { taken = true }) ∷ es) k)
    go false q more =
        let x : (e.0 == n) ≡ false = (grind (arith, q)) in let y : is_at (nat_cmp n) e.0 ≡ false = is-at n e.0 ∙ q in
        rw (y, x) (ap (λ (xs : List (ℕ × Piece _)). e ∷ xs) (more (rw y at h)))

pub idle-taken : {V : Type 0} (n : ℕ) (es : List (ℕ × Piece V)) → ◌≡◌ {A = Option (Piece V)} None (lookup (is_at (nat_cmp n)) es) → taken_at n es ≡ es
idle-taken n [] h = refl
idle-taken n (e ∷ es) h = go (n == e.0) refl (λ k. idle-taken n es k)
  where
    go : (t : Bool) → (n == e.0) ≡ t → (◌≡◌ {A = Option (Piece _)} None (lookup (is_at (nat_cmp n)) es) → taken_at n es ≡ es) → taken_at n (e ∷ es) ≡ e ∷ es
    go true q more = let y : is_at (nat_cmp n) e.0 ≡ true = is-at n e.0 ∙ q in let k : ◌≡◌ {A = Option (Piece _)} None (Some e.1) = (rw y at h) in absurd (cc)
    go false q more =
        let x : (e.0 == n) ≡ false = (grind (arith, q)) in let y : is_at (nat_cmp n) e.0 ≡ false = is-at n e.0 ∙ q in
        rw x (ap (λ (xs : List (ℕ × Piece _)). e ∷ xs) (more (rw y at h)))
