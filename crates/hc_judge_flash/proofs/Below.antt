-- Tests of all lower numbers, one by one.
use Rattle.std.proofs.Common.{◌≡◌, ◌⊎◌, inl, inr, ℕ, zero, suc, ◌+◌, ◌<◌, Bool, true, false, ◌&&◌, refl, ap, sym, ◌∙◌, arith, add-one}
use Rattle.hc_legal.specs.Judge.{all_below}

pub one_more : (test : ℕ → Bool) (n : ℕ) → all_below test n ≡ true → test n ≡ true → all_below test (n + 1) ≡ true
one_more test n below here = rw (add-one, here) below

and-false : (x : Bool) → (x && false) ≡ false
and-false true = refl
and-false false = refl

here_or_below : (i n : ℕ) → i < suc n → (i ≡ n) ⊎ (i < n)
here_or_below i n h = grind arith

at : (test : ℕ → Bool) (n i : ℕ) → test i ≡ false → (i < n → false ≡ all_below test n) → (i ≡ n) ⊎ (i < n) → false ≡ (test n && all_below test n)
at test n i e lower (inl same) = let out : test n ≡ false = ap test (sym same) ∙ e in rw out refl
at test n i e lower (inr less) = sym (and-false (test n)) ∙ ap (λ (b : Bool). test n && b) (lower less)

pub fails : (test : ℕ → Bool) (n i : ℕ) → i < n → test i ≡ false → false ≡ all_below test n
fails test zero i h e = absurd (omega arith)
fails test (suc n) i h e = at test n i e (λ less. fails test n i less e) (here_or_below i n h)
