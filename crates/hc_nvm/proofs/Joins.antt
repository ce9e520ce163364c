-- Calls wait for a key, or wait no longer, and what holds at every time stays.
use Rattle.std.proofs.Common.{◌≡◌, ℕ, ◌++◌, Bool, true, false, not, List, [], ◌∷◌, Option, Some, None, refl, sym, ap, ◌∙◌, arith}
use Rattle.std.specs.List.{filter}
use Rattle.std.specs.Prelude.{is_some, Result, Ok, Err, OnOk, OnErr}
use Rattle.hc_machine.specs.Nvm.{Nvm, Fill, Waiter, is_fill_of, fill_at, joined_by, without_fill}
use Rattle.hc_nvm.specs.Stock.{AreBrought, Kept}

-- a fill is opened where there is none of the key
pub joined_new : (key : List ℕ) (waiter : Waiter) (fills : List Fill) → fill_at key fills ≡ None → joined_by key waiter fills ≡ fills ++ record { key = key; waiters = waiter ∷ []; job = None } ∷ []
joined_new key waiter [] e = refl
joined_new key waiter (x ∷ xs) e = by_test (is_fill_of key x) refl (joined_new key waiter xs)
  where
    by_test : (b : Bool) → is_fill_of key x ≡ b → (fill_at key xs ≡ None → joined_by key waiter xs ≡ xs ++ record { key = key; waiters = waiter ∷ []; job = None } ∷ []) → joined_by key waiter (x ∷ xs) ≡ (x ∷ xs) ++ record { key = key; waiters = waiter ∷ []; job = None } ∷ []
    by_test true t more = absurd (grind (arith, e, t))
    by_test false t more = let rest : fill_at key xs ≡ None = grind (arith, e, t) in rw t (ap (λ (ys : List Fill). x ∷ ys) (more rest))

brought_joined : (made : ℕ) (key : List ℕ) (waiter : Waiter) (fills : List Fill) → AreBrought made fills → AreBrought made (joined_by key waiter fills)
brought_joined made key waiter [] all = (tt, tt)
brought_joined made key waiter (x ∷ xs) all = by_test (is_fill_of key x) refl (brought_joined made key waiter xs all.1)
  where
    by_test : (b : Bool) → is_fill_of key x ≡ b → AreBrought made (joined_by key waiter xs) → AreBrought made (joined_by key waiter (x ∷ xs))
    by_test true t more = rw t (all.0, all.1)
    by_test false t more = rw t (all.0, more)

pub brought_left : (made : ℕ) (test : Fill → Bool) (fills : List Fill) → AreBrought made fills → AreBrought made (filter test fills)
brought_left made test [] all = all
brought_left made test (x ∷ xs) all = by_test (test x) refl (brought_left made test xs all.1)
  where
    by_test : (b : Bool) → test x ≡ b → AreBrought made (filter test xs) → AreBrought made (filter test (x ∷ xs))
    by_test true t more = rw t (all.0, more)
    by_test false t more = rw t more

pub kept_joined : (key : List ℕ) (waiter : Waiter) (nvm : Nvm) (fills : List Fill) → fills ≡ joined_by key waiter nvm.fills → Kept nvm → Kept (record nvm { fills = fills })
kept_joined key waiter nvm fills is kept = rw is (record {
  below = kept.below;
  starts = kept.starts;
  short = kept.short;
  numbered = kept.numbered;
  brought = brought_joined nvm.made key waiter nvm.fills kept.brought;
  served = kept.served;
})

pub kept_ended : (key : List ℕ) (nvm : Nvm) (fills : List Fill) → fills ≡ without_fill key nvm.fills → Kept nvm → Kept (record nvm { fills = fills })
kept_ended key nvm fills is kept = rw is (record {
  below = kept.below;
  starts = kept.starts;
  short = kept.short;
  numbered = kept.numbered;
  brought = brought_left nvm.made (λ fill. not (is_fill_of key fill)) nvm.fills kept.brought;
  served = kept.served;
})

none_there : (fill : Option Fill) → is_some fill ≡ false → fill ≡ None
none_there None e = refl
none_there (Some fill) e = absurd (cc)

-- a fill was opened for the one call
pub joined_open : (key : List ℕ) (waiter : Waiter) (fills new : List Fill) (waiters : List Waiter) → is_some (fill_at key fills) ≡ false → waiters ≡ waiter ∷ [] → new ≡ fills ++ record { key = key; waiters = waiters; job = None } ∷ [] → new ≡ joined_by key waiter fills
joined_open key waiter fills new waiters none alone is =
    is ∙ (λ i. fills ++ record { key = key; waiters = alone i; job = None } ∷ []) ∙ sym (joined_new key waiter fills (none_there (fill_at key fills) none))

-- the call joined the others, or it came back
pub kept_either : {T E : Type 0} (answer : Result T E) (key : List ℕ) (waiter : Waiter) (nvm : Nvm) (fills : List Fill) → OnOk answer (fills ≡ joined_by key waiter nvm.fills) → OnErr answer (fills ≡ nvm.fills) → Kept nvm → Kept (record nvm { fills = fills })
kept_either (Ok t) key waiter nvm fills ok err kept = kept_joined key waiter nvm fills ok kept
kept_either (Err e) key waiter nvm fills ok err kept = rw err kept
