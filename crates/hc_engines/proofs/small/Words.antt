-- What a word tells.
use Rattle.std.proofs.Common.{◌≡◌, ℕ, Bool, true, false, List, [], ◌∷◌, refl, ap, ◌∙◌, arith, nat_eq}
use Rattle.std.specs.Prelude.{bit_or, bit_and, is_some}
use Rattle.std.proofs.lemmas.Nat.{and_or_self}
use Rattle.std.proofs.lemmas.Bool.{eq-eqb, eqb-true}
use Rattle.std.specs.Cmp.Lexicographic.{pointwise}
use Rattle.hc_types.specs.FlashEntry.{FlashEntry}
use Rattle.hc_engines.specs.small.Bloom.{bits_of, word_of, could_have}
use Rattle.hc_engines.specs.small.Entries.{under}
use Rattle.hc_engines.specs.small.Held.{WordTells}
use Rattle.hc_engines.proofs.Keys.{same-true}
use Rattle.hc_bucket.proofs.Scanning.{stays}

word_cases : (e : FlashEntry) (es : List FlashEntry) (key : List ℕ) (t : Bool) → pointwise nat_eq e.key key ≡ t → is_some (under key (e ∷ es)) ≡ true
    → (is_some (under key es) ≡ true → could_have (word_of es) key ≡ true) → could_have (word_of (e ∷ es)) key ≡ true
word_cases e es key true p h more = let same : e.key ≡ key = same-true e.key key p in eq-eqb _ _ (ap (λ (k : List ℕ). bit_and (bit_or (word_of es) (bits_of k)) (bits_of key)) same ∙ and_or_self (bits_of key) (word_of es))
word_cases e es key false p h more =
    let there : is_some (under key es) ≡ true = rw p at h in
    let before : bit_and (word_of es) (bits_of key) ≡ bits_of key = eqb-true _ _ (more there) in
    eq-eqb _ _ (stays (word_of es) (bits_of e.key) (bits_of key) before)

pub word_tells : WordTells
word_tells [] key h = absurd (cc)
word_tells (e ∷ es) key h = word_cases e es key (pointwise nat_eq e.key key) refl h (word_tells es key)
