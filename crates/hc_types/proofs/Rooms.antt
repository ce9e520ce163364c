-- Rooms of 46 bytes: what follows the bytes that they hold, and how two are compared.
use Rattle.std.proofs.Common.{◌≡◌, ℕ, zero, suc, ◌+◌, ◌*◌, ◌-◌, ◌%◌, ◌^◌, Bool, true, false, not, cond, ◌&&◌, List, [], ◌∷◌, ◌++◌, length, take, drop, map, refl, ap, subst, sym, ◌∙◌, arith}
use Rattle.std.specs.Prelude.{nat_eq, replicate}
use Rattle.std.specs.Cmp.Lexicographic.{pointwise, bytes_decides, same_text}
use Rattle.std.proofs.Math.Seq.{drop-append_seam}
use Rattle.std.proofs.lemmas.List.{drop-replicate, take_all, length-drop, drop_at}
use Rattle.std.proofs.lemmas.Simd.{chunk-drop, length-chunk, length-zip2, tops_compared, mask_l-mod}
use lib.Lanes.{chunk, zip2, mask_l, top}
use mir.Syntax.{w8}

-- bytes that are copied to the front of a room of zeros leave zeros behind them
pub zeros_follow : (n : ℕ) (bytes : List ℕ) → length bytes ≡ n → drop n (bytes ++ drop n (replicate 46 0)) ≡ replicate (46 - n) 0
zeros_follow n bytes long =
    subst (λ k. drop k (bytes ++ drop k (replicate 46 0)) ≡ replicate (46 - k) 0) long
    (drop-append_seam bytes (drop (length bytes) (replicate 46 0)) ∙ drop-replicate (length bytes) 46 0)

-- ---- rooms with the same end are equal where what stands before it is

pub same_end : (n : ℕ) (xs ys : List ℕ) → drop n xs ≡ drop n ys → pointwise nat_eq xs ys ≡ pointwise nat_eq (take n xs) (take n ys)
same_end zero xs ys e = (bytes_decides xs ys).1 e
same_end (suc n) [] [] e = refl
same_end (suc n) [] (y ∷ ys) e = refl
same_end (suc n) (x ∷ xs) [] e = refl
same_end (suc n) (x ∷ xs) (y ∷ ys) e = ap (λ rest. nat_eq x y && rest) (same_end n xs ys e)

pub rooms_tell : (n m : ℕ) (xs ys : List ℕ) → n ≡ m → drop n xs ≡ replicate (46 - n) 0 → drop m ys ≡ replicate (46 - m) 0 → pointwise nat_eq xs ys ≡ pointwise nat_eq (take n xs) (take m ys)
rooms_tell n m xs ys e p q =
    same_end n xs ys (p ∙ sym (subst (λ k. drop k ys ≡ replicate (46 - k) 0) (sym e) q))
    ∙ ap (λ k. pointwise nat_eq (take n xs) (take k ys)) e

-- ---- lanes

double : (m : ℕ) → nat_eq (0 + 2 * m) 0 ≡ nat_eq m 0
double m = grind arith

one_more : (t : Bool) (m : ℕ) (r : Bool) → nat_eq m 0 ≡ r → nat_eq (cond (not t) 1 0 + 2 * m) 0 ≡ (t && r)
one_more true m r e = double m ∙ e
one_more false m r e = grind arith

-- no lane differs where the lists are the same
pub none_differ : (xs ys : List ℕ) → length xs ≡ length ys → nat_eq (mask_l (zip2 (λ a b. not (nat_eq a b)) xs ys)) 0 ≡ pointwise nat_eq xs ys
none_differ [] [] e = refl
none_differ [] (y ∷ ys) e = grind arith
none_differ (x ∷ xs) [] e = grind arith
none_differ (x ∷ xs) (y ∷ ys) e = one_more (nat_eq x y) _ _ (none_differ xs ys (omega (arith, e)))

not_twice : (t : Bool) → not (not t) ≡ t
not_twice true = refl
not_twice false = refl

-- what the test of 16 lanes gives
pub lanes_tell : (xs ys : List ℕ) → length xs ≡ 16 → length ys ≡ 16 → not (not (nat_eq (mask_l (map (top 7) (zip2 (λ a b. cond (not (nat_eq a b)) 255 0) xs ys)) % 2 ^ 64) 0)) ≡ pointwise nat_eq xs ys
lanes_tell xs ys lx ly =
    let apart = zip2 (λ a b. not (nat_eq a b)) xs ys in
    let long : length apart ≡ length xs = length-zip2 (λ a b. not (nat_eq a b)) xs ys (lx ∙ sym ly) in
    ap (λ lanes. not (not (nat_eq (mask_l lanes % 2 ^ 64) 0))) (tops_compared w8 (λ a b. not (nat_eq a b)) xs ys)
    ∙ ap (λ mask. not (not (nat_eq mask 0))) (mask_l-mod apart 64 (omega (arith, long, lx)))
    ∙ not_twice (nat_eq (mask_l apart) 0)
    ∙ none_differ xs ys (lx ∙ sym ly)

-- ---- three runs of 16, the last of which overlap those before

last : (zs : List ℕ) → length zs ≡ 46 → drop 32 zs ≡ drop 2 (chunk 30 16 zs)
last zs e = sym (
    ap (drop 2) (take_all 16 (drop 30 zs) (omega (arith, length-drop 30 zs, e)) ∙ chunk-drop 30 2 zs)
    ∙ drop_at (chunk 30 2 zs) (drop 32 zs) 2 (length-chunk 30 2 zs (omega (arith, e))))

spelled : (zs : List ℕ) → length zs ≡ 46 → zs ≡ chunk 0 16 zs ++ (chunk 16 16 zs ++ drop 2 (chunk 30 16 zs))
spelled zs e = chunk-drop 0 16 zs ∙ ap (λ rest. chunk 0 16 zs ++ rest) (chunk-drop 16 16 zs ∙ ap (λ rest. chunk 16 16 zs ++ rest) (last zs e))

whole : (xs ys : List ℕ) → length xs ≡ 46 → length ys ≡ 46 → chunk 0 16 xs ≡ chunk 0 16 ys → chunk 16 16 xs ≡ chunk 16 16 ys → chunk 30 16 xs ≡ chunk 30 16 ys → xs ≡ ys
whole xs ys lx ly a b c =
    spelled xs lx
    ∙ ap (λ first. first ++ (chunk 16 16 xs ++ drop 2 (chunk 30 16 xs))) a
    ∙ ap (λ second. chunk 0 16 ys ++ (second ++ drop 2 (chunk 30 16 xs))) b
    ∙ ap (λ third. chunk 0 16 ys ++ (chunk 16 16 ys ++ drop 2 third)) c
    ∙ sym (spelled ys ly)

differ : (run : List ℕ → List ℕ) (xs ys : List ℕ) → false ≡ pointwise nat_eq (run xs) (run ys) → false ≡ pointwise nat_eq xs ys
differ run xs ys e = go (pointwise nat_eq xs ys) refl
  where
    go : (t : Bool) → t ≡ pointwise nat_eq xs ys → false ≡ t
    go false told = refl
    go true told = e ∙ (bytes_decides (run xs) (run ys)).1 (ap run (same_text xs ys told))

pub same_runs : (xs ys : List ℕ) (p q r : Bool) → length xs ≡ 46 → length ys ≡ 46 → p ≡ pointwise nat_eq (chunk 0 16 xs) (chunk 0 16 ys) → q ≡ pointwise nat_eq (chunk 16 16 xs) (chunk 16 16 ys) → r ≡ pointwise nat_eq (chunk 30 16 xs) (chunk 30 16 ys) → ((p && q) && r) ≡ pointwise nat_eq xs ys
same_runs xs ys true true true lx ly a b c = sym ((bytes_decides xs ys).1 (whole xs ys lx ly (same_text _ _ a) (same_text _ _ b) (same_text _ _ c)))
same_runs xs ys true true false lx ly a b c = differ (chunk 30 16) xs ys c
same_runs xs ys true false r lx ly a b c = differ (chunk 16 16) xs ys b
same_runs xs ys false q r lx ly a b c = differ (chunk 0 16) xs ys a
