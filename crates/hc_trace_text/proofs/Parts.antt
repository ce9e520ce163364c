-- Bytes around a byte that parts them.
use Rattle.std.proofs.Common.{◌≡◌, ℕ, zero, suc, ◌+◌, ◌<◌, ◌≤◌, List, [], ◌∷◌, ◌++◌, length, take, drop, get_or, Bool, true, false, ◌==◌, if◌then◌else◌, refl, ◌∙◌, ap, arith, take_all}
use Rattle.std.proofs.lemmas.Bool.{eqb-true}
use Rattle.std.proofs.Math.Seq.{split_at}
use Rattle.hc_trace_text.specs.Lines.{onto_first, lines_of, fields_of, Lacks}

pub lacks-append : (c : ℕ) (a b : List ℕ) → Lacks c a → Lacks c b → Lacks c (a ++ b)
lacks-append c [] b h k = k
lacks-append c (x ∷ xs) b h k = (h.0, lacks-append c xs b h.1 k)

pub not-true : (b : Bool) → (b ≡ true → ⊥) → b ≡ false
not-true true h = absurd (h refl)
not-true false h = refl

-- a front among which the byte doesn't stand
pub lacks-before : (c : ℕ) (l : List ℕ) (n : ℕ) → ((k : ℕ) → 0 ≤ k → k < n → (get_or l k 0 == c) ≡ true → ⊥) → Lacks c (take n l)
lacks-before c l zero h = tt
lacks-before c [] (suc n) h = tt
lacks-before c (x ∷ xs) (suc n) h = (not-true (x == c) (h 0 (omega arith) (omega arith)), lacks-before c xs n (λ k a b. h (suc k) (omega arith) (omega arith)))

pub lacks-all : (c : ℕ) (l : List ℕ) → ((k : ℕ) → 0 ≤ k → k < length l → (get_or l k 0 == c) ≡ true → ⊥) → Lacks c l
lacks-all c l h = rw (take_all (length l) l (omega arith)) at (lacks-before c l (length l) h)

-- bytes around the first such byte
pub around : (c : ℕ) (l : List ℕ) (at : ℕ) → at < length l → (get_or l at 0 == c) ≡ true → l ≡ take at l ++ c ∷ drop (at + 1) l
around c l at lt e =
    let next : suc at ≡ at + 1 = omega arith in
    split_at l at 0 lt ∙ ap (λ x. take at l ++ x ∷ drop (suc at) l) (eqb-true _ _ e) ∙ ap (λ k. take at l ++ c ∷ drop k l) next

pub lines-ended : (line rest : List ℕ) → Lacks 10 line → lines_of (line ++ 10 ∷ rest) ≡ line ∷ lines_of rest
lines-ended [] rest h = refl
lines-ended (b ∷ line) rest h = rw h.0 (ap (onto_first b) (lines-ended line rest h.1))

pub fields-ended : (field rest : List ℕ) → Lacks 32 field → fields_of (field ++ 32 ∷ rest) ≡ field ∷ fields_of rest
fields-ended [] rest h = refl
fields-ended (b ∷ field) rest h = rw h.0 (ap (onto_first b) (fields-ended field rest h.1))

pub fields-one : (field : List ℕ) → Lacks 32 field → fields_of field ≡ field ∷ []
fields-one [] h = refl
fields-one (b ∷ field) h = rw h.0 (ap (onto_first b) (fields-one field h.1))

-- there is a first field
pub record Some-fields (fields : List (List ℕ)) : Type 0 where
  pub first : List ℕ
  pub rest : List (List ℕ)
  pub is : fields ≡ first ∷ rest

onto-some : (b : ℕ) (fields : List (List ℕ)) → Some-fields (onto_first b fields)
onto-some b [] = record { first = b ∷ []; rest = []; is = refl }
onto-some b (x ∷ xs) = record { first = b ∷ x; rest = xs; is = refl }

either-some : (b : ℕ) (space : Bool) (fields : List (List ℕ)) → Some-fields (if space then [] ∷ fields else onto_first b fields)
either-some b true fields = record { first = []; rest = fields; is = refl }
either-some b false fields = onto-some b fields

pub fields-some : (bytes : List ℕ) → Some-fields (fields_of bytes)
fields-some [] = record { first = []; rest = []; is = refl }
fields-some (b ∷ bytes) = either-some b (b == 32) (fields_of bytes)
