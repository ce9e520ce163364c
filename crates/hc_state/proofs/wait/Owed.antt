-- The replies that are owed are of calls before this one.
use Rattle.std.proofs.Common.{◌≡◌, ℕ, ◌<◌, ◌≤◌, ◌==◌, Bool, true, false, List, [], ◌∷◌, refl, ap, arith}
use Rattle.hc_history.specs.Note.{Reply}
use Rattle.hc_machine.specs.Cache.{Owed, is_owed, owed_anew, owed_with, owed_less}
use Rattle.hc_waiting.specs.Replies.{AreBefore}

pub before-more : (n m : ℕ) (owed : List Owed) → n ≤ m → AreBefore n owed → AreBefore m owed
before-more n m [] le h = h
before-more n m (o ∷ os) le h = (omega (arith, le, h.0), before-more n m os le h.1)

pub before-with : (n call : ℕ) (reply : Reply) (owed : List Owed) → AreBefore n owed → AreBefore n (owed_with call reply owed)
before-with n call reply [] h = h
before-with n call reply (o ∷ os) h = go (is_owed call o) refl (before-with n call reply os h.1)
  where
    go : (b : Bool) → is_owed call o ≡ b → AreBefore n (owed_with call reply os) → AreBefore n (owed_with call reply (o ∷ os))
    go true p more = rw p (h.0, more)
    go false p more = rw p (h.0, more)

pub before-less : (n call : ℕ) (owed : List Owed) → AreBefore n owed → AreBefore n (owed_less call owed)
before-less n call [] h = h
before-less n call (o ∷ os) h = go (is_owed call o) refl (before-less n call os h.1)
  where
    go : (b : Bool) → is_owed call o ≡ b → AreBefore n (owed_less call os) → AreBefore n (owed_less call (o ∷ os))
    go true p more = rw p more
    go false p more = rw p (h.0, more)

pub before-anew : (n call : ℕ) (owed : List Owed) → call < n → AreBefore n owed → AreBefore n (owed_anew call owed)
before-anew n call [] lt h = (lt, h)
before-anew n call (o ∷ os) lt h = (h.0, before-anew n call os lt h.1)

-- who has just begun to wait, waits no longer
pub less_anew : (call : ℕ) (owed : List Owed) → AreBefore call owed → owed_less call (owed_anew call owed) ≡ owed
less_anew call [] h = let same : (call == call) ≡ true = (grind (arith)) in rw same refl
less_anew call (o ∷ os) h = let other : (o.call == call) ≡ false = (grind (arith, h.0)) in rw other (ap (λ (xs : List Owed). o ∷ xs) (less_anew call os h.1))
