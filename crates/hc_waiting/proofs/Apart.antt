-- No two fills are of one key.
use Rattle.std.proofs.Common.{◌≡◌, ℕ, Bool, true, false, List, [], ◌∷◌, Some, None, refl, sym, ◌∙◌, subst, arith}
use Rattle.std.proofs.lemmas.Slice.Eq.{bytes_eq-Decides}
use Rattle.hc_machine.specs.Nvm.{Fill, is_fill_of, fill_at, fill_by, is_number_in}
use Rattle.hc_waiting.proofs.Led.{AreKeyed, alone}

own-key : (fill : Fill) → is_fill_of fill.key fill ≡ true
own-key fill = grind (arith, bytes_eq-Decides fill.key fill.key)

-- a fill that a job brings is the one of its key
pub brought-alone : (number : ℕ) (found : Fill) (fills : List Fill) → AreKeyed fills → fill_by number fills ≡ Some found → fill_at found.key fills ≡ Some found
brought-alone number found [] keyed e = absurd (cc)
brought-alone number found (fill ∷ fills) keyed e = by (is_number_in number fill.job) refl e (λ there. brought-alone number found fills keyed.1 there)
  where
    by_head : (found fill : Fill) → fill ≡ found → fill_at found.key (fill ∷ fills) ≡ Some found
    by_head found fill is = subst (λ (f : Fill). fill_at f.key (fill ∷ fills) ≡ Some f) is (rw (own-key fill) refl)

    behind : (b : Bool) → is_fill_of found.key fill ≡ b → fill_at found.key fills ≡ Some found → fill_at found.key (fill ∷ fills) ≡ Some found
    behind true t there = absurd (let bad : None ≡ Some found = sym (alone found.key fill fills t keyed) ∙ there in cc)
    behind false t there = rw t there

    by : (b : Bool) → is_number_in number fill.job ≡ b → fill_by number (fill ∷ fills) ≡ Some found → (fill_by number fills ≡ Some found → fill_at found.key fills ≡ Some found) → fill_at found.key (fill ∷ fills) ≡ Some found
    by true t e more = let same : Some fill ≡ Some found = (rw t at e) in by_head found fill cc
    by false t e more = behind (is_fill_of found.key fill) refl (more (rw t at e))
