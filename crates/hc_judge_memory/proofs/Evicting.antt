-- An eviction is told by the charge that the last note freed.
use Rattle.std.proofs.Common.{◌≡◌, ℕ, Bool, true, false, nat_lt, List, ◌∷◌, refl, sym, ◌∙◌}
use Rattle.std.specs.Prelude.{◌||◌}
use Rattle.hc_types.specs.Tally.{count}
use Rattle.hc_history.specs.Books.{charges}
use Rattle.hc_history.specs.Lawful.{freed_since}
use Rattle.hc_history.specs.Note.{Note, Freed}
use Rattle.hc_legal.specs.Judge.{is_freed}
use Rattle.hc_judge_memory.specs.Evictions.{last_freed, is_link_of, is_freed_by}

pub freed-is : (older : List Note) (key : List ℕ) → is_freed older key ≡ is_freed_by (last_freed older) key
freed-is (Freed number ∷ before) key = refl
freed-is older key = refl

or-none : (b c : Bool) → c ≡ false → (b || c) ≡ b
or-none true c e = refl
or-none false c e = e

-- where none was freed yet, this one tells
pub freed-here : (older : List Note) (number call : ℕ) (key : List ℕ) (was here : Bool) → was ≡ freed_since older call key → was ≡ false → here ≡ nat_lt 0 (count (is_link_of number key) (charges older)) → here ≡ freed_since (Freed number ∷ older) call key
freed-here older number call key was here w none e = e ∙ sym (or-none (nat_lt 0 (count (is_link_of number key) (charges older))) (freed_since older call key) (sym w ∙ none))
