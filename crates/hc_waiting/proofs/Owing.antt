-- The map's entries as the replies that are owed.
use Rattle.std.proofs.Common.{◌≡◌, ℕ, ◌≤◌, ◌==◌, nat_lt, Bool, true, false, Bor, List, [], ◌∷◌, Option, Some, None, refl, sym, ap, arith, ◌∙◌, Less, Equal, Greater}
use Rattle.std.specs.Prelude.{option_map, is_some}
use Rattle.std.specs.Option.{option_copied}
use Rattle.std.specs.Ordering.{nat_cmp}
use Rattle.std.specs.BTreeMap.{is_at, insert_entry}
use Rattle.std.specs.Map.{lookup, remove_entry, set_value, keys_of}
use Rattle.std.specs.List.{AllByRecursion}
use Rattle.std.specs.List.Sorted.{IsStrictlySortedBy}
use Rattle.std.proofs.lemmas.Bool.{eqb-true}
use Rattle.hc_history.specs.Note.{Reply as Said}
use Rattle.hc_history.specs.Seen.{reply_of}
use Rattle.hc_history.specs.declared.note.Reply.{Reply}
use Rattle.hc_machine.specs.Cache.{Owed, is_owed, owed_at, owed_anew, owed_with, owed_less}
use Rattle.hc_waiting.specs.Replies.{owed_by, owed_of, AreBefore, is_answered}

-- all these keys are above this one
abbrev AllAbove : ℕ → List ℕ → Type 0
AllAbove n keys = AllByRecursion (λ y. nat_cmp n y ≡ Less) keys

not_key : (n m y : ℕ) → n ≤ m → nat_cmp m y ≡ Less → ((y == n) ≡ false) × (nat_lt y n ≡ false)
not_key n m y le h = go (nat_lt m y) refl (m == y) refl h
  where
    go : (a : Bool) → nat_lt m y ≡ a → (b : Bool) → (m == y) ≡ b → nat_cmp m y ≡ Less → ((y == n) ≡ false) × (nat_lt y n ≡ false)
    go true p b q h = (grind (arith, p, le), grind (arith, p, le))
    go false p true q h = let k : Equal ≡ Less = (rw (p, q) at h) in absurd (cc)
    go false p false q h = let k : Greater ≡ Less = (rw (p, q) at h) in absurd (cc)

-- where no reply is owed to the call, none comes
pub with-none : (n : ℕ) (r : Said) (owed : List Owed) → owed_at n owed ≡ None → owed_with n r owed ≡ owed
with-none n r [] h = refl
with-none n r (o ∷ os) h = go (is_owed n o) refl h (λ k. with-none n r os k)
  where
    go : (b : Bool) → is_owed n o ≡ b → owed_at n (o ∷ os) ≡ None → (owed_at n os ≡ None → owed_with n r os ≡ os) → owed_with n r (o ∷ os) ≡ o ∷ os
    go true p h more = let bad : Some o ≡ None = (rw p at h) in absurd (cc)
    go false p h more = let k : owed_at n os ≡ None = (rw p at h) in rw p (ap (λ xs. o ∷ xs) (more k))

module _ {A : Type 0} where
  -- the entry of a call that waits or waited
  abbrev pub owed_to : ℕ → Option (Reply A) → Owed
  owed_to call reply = owed_by (call, reply)

  pub lookup-is : (call : ℕ) (es : List (ℕ × Option (Reply A))) → option_map (owed_to call) (lookup (is_at (nat_cmp call)) es) ≡ owed_at call (owed_of es)
  lookup-is call [] = refl
  lookup-is call (e ∷ es) = go (nat_lt call e.0) refl (call == e.0) refl (lookup-is call es)
    where
      go : (a : Bool) → nat_lt call e.0 ≡ a → (b : Bool) → (call == e.0) ≡ b → option_map (owed_to call) (lookup (is_at (nat_cmp call)) es) ≡ owed_at call (owed_of es) → option_map (owed_to call) (lookup (is_at (nat_cmp call)) (e ∷ es)) ≡ owed_at call (owed_of (e ∷ es))
      go true p b q more = let v : (e.0 == call) ≡ false = (grind (arith, p)) in rw (p, v) more
      go false p true q more =
          let v : (e.0 == call) ≡ true = (grind (arith, q)) in
          let same : e.0 ≡ call = eqb-true e.0 call v in
          rw (p, q, v) (ap (λ (k : ℕ). Some (owed_to k e.1)) (sym same))
      go false p false q more = let v : (e.0 == call) ≡ false = (grind (arith, q)) in rw (p, q, v) more

  -- whether it is answered, by the reply that was lent
  pub lent-is : (call : ℕ) (o : Option (Bor (Option (Reply A)))) → option_map (λ (r : Bor (Option (Reply A))). is_some r.now) o ≡ option_map is_answered (option_map (owed_to call) (option_copied o))
  lent-is call None = refl
  lent-is call (Some r) = answered r.now
    where
      answered : (r : Option (Reply A)) → Some (is_some r) ≡ Some (is_answered (owed_to call r))
      answered None = refl
      answered (Some r) = refl

  less-above : (n m : ℕ) (es : List (ℕ × Option (Reply A))) → n ≤ m → AllAbove m (keys_of es) → owed_less n (owed_of es) ≡ owed_of es
  less-above n m [] le h = refl
  less-above n m (e ∷ es) le h = rw (not_key n m e.0 le h.0).0 (ap (λ xs. owed_by e ∷ xs) (less-above n m es le h.1))

  pub less-is : (n : ℕ) (es : List (ℕ × Option (Reply A))) → IsStrictlySortedBy nat_cmp (keys_of es) → owed_of (remove_entry (is_at (nat_cmp n)) es) ≡ owed_less n (owed_of es)
  unfolding IsStrictlySortedBy
  less-is n [] s = refl
  less-is n (e ∷ es) s = go (nat_lt n e.0) refl (n == e.0) refl (less-is n es s.1)
    where
      go : (a : Bool) → nat_lt n e.0 ≡ a → (b : Bool) → (n == e.0) ≡ b → owed_of (remove_entry (is_at (nat_cmp n)) es) ≡ owed_less n (owed_of es) → owed_of (remove_entry (is_at (nat_cmp n)) (e ∷ es)) ≡ owed_less n (owed_of (e ∷ es))
      go true p b q more = let v : (e.0 == n) ≡ false = (grind (arith, p)) in rw (p, v) (ap (λ xs. owed_by e ∷ xs) more)
      go false p true q more = let v : (e.0 == n) ≡ true = (grind (arith, q)) in let le : n ≤ e.0 = (grind (arith, q)) in rw (p, q, v) (sym (less-above n e.0 es le s.0))
      go false p false q more = let v : (e.0 == n) ≡ false = (grind (arith, q)) in rw (p, q, v) (ap (λ xs. owed_by e ∷ xs) more)

  with-above : (n m : ℕ) (r : Said) (es : List (ℕ × Option (Reply A))) → n ≤ m → AllAbove m (keys_of es) → owed_with n r (owed_of es) ≡ owed_of es
  with-above n m r [] le h = refl
  with-above n m r (e ∷ es) le h = rw (not_key n m e.0 le h.0).0 (ap (λ xs. owed_by e ∷ xs) (with-above n m r es le h.1))

  pub with-is : (n : ℕ) (r : Reply A) (es : List (ℕ × Option (Reply A))) → IsStrictlySortedBy nat_cmp (keys_of es) → owed_of (set_value (is_at (nat_cmp n)) es (Some r)) ≡ owed_with n (reply_of r) (owed_of es)
  unfolding IsStrictlySortedBy
  with-is n r [] s = refl
  with-is n r (e ∷ es) s = go (nat_lt n e.0) refl (n == e.0) refl (with-is n r es s.1)
    where
      go : (a : Bool) → nat_lt n e.0 ≡ a → (b : Bool) → (n == e.0) ≡ b → owed_of (set_value (is_at (nat_cmp n)) es (Some r)) ≡ owed_with n (reply_of r) (owed_of es) → owed_of (set_value (is_at (nat_cmp n)) (e ∷ es) (Some r)) ≡ owed_with n (reply_of r) (owed_of (e ∷ es))
      go true p b q more = let v : (e.0 == n) ≡ false = (grind (arith, p)) in rw (p, v) (ap (λ xs. owed_by e ∷ xs) more)
      go false p true q more = let v : (e.0 == n) ≡ true = (grind (arith, q)) in let le : n ≤ e.0 = (grind (arith, q)) in rw (p, q, v) (ap (λ xs. owed_by (e.0, Some r) ∷ xs) (sym (with-above n e.0 (reply_of r) es le s.0)))
      go false p false q more = let v : (e.0 == n) ≡ false = (grind (arith, q)) in rw (p, q, v) (ap (λ xs. owed_by e ∷ xs) more)

  pub anew-is : (n : ℕ) (es : List (ℕ × Option (Reply A))) → AreBefore n (owed_of es) → owed_of (insert_entry nat_cmp es n None) ≡ owed_anew n (owed_of es)
  anew-is n [] h = refl
  anew-is n (e ∷ es) h =
      let p : nat_lt n e.0 ≡ false = (grind (arith, h.0)) in
      let q : (n == e.0) ≡ false = (grind (arith, h.0)) in
      rw (p, q) (ap (λ xs. owed_by e ∷ xs) (anew-is n es h.1))

  -- what is told of the map's entry of a call
  pub found-is : (call : ℕ) (es : List (ℕ × Option (Reply A))) (o : Option (Option (Reply A))) → lookup (is_at (nat_cmp call)) es ≡ o → owed_at call (owed_of es) ≡ option_map (owed_to call) o
  found-is call es o e = sym (lookup-is call es) ∙ ap (option_map (owed_to call)) e

  pub answered-is : (call : ℕ) (r : Option (Reply A)) → is_some r ≡ is_answered (owed_to call r)
  answered-is call None = refl
  answered-is call (Some r) = refl

  pub ready-is : (call : ℕ) (es : List (ℕ × Option (Reply A))) (r : Option (Reply A)) → lookup (is_at (nat_cmp call)) es ≡ Some r → Some (is_some r) ≡ option_map is_answered (owed_at call (owed_of es))
  ready-is call es r e = ap (λ (b : Bool). Some b) (answered-is call r) ∙ sym (ap (option_map is_answered) (found-is call es (Some r) e))

  pub unready-is : (call : ℕ) (es : List (ℕ × Option (Reply A))) → lookup (is_at (nat_cmp call)) es ≡ None → None ≡ option_map is_answered (owed_at call (owed_of es))
  unready-is call es e = sym (ap (option_map is_answered) (found-is call es None e))

  -- a call that has its reply has an entry with one
  pub not-gone : (call : ℕ) (es : List (ℕ × Option (Reply A))) (ready : Bool) → ready ≡ true → Some ready ≡ option_map is_answered (owed_at call (owed_of es)) → lookup (is_at (nat_cmp call)) es ≡ None → ⊥
  not-gone call es ready t h e = let bad : Some ready ≡ None = h ∙ sym (unready-is call es e) in absurd (cc)

  pub not-waiting : (call : ℕ) (es : List (ℕ × Option (Reply A))) (ready : Bool) → ready ≡ true → Some ready ≡ option_map is_answered (owed_at call (owed_of es)) → lookup (is_at (nat_cmp call)) es ≡ Some None → ⊥
  not-waiting call es ready t h e = let bad : Some ready ≡ Some false = h ∙ sym (ready-is call es None e) in absurd (cc)

  -- the reply of a call that doesn't have one yet
  pub waits-is : (call : ℕ) (es : List (ℕ × Option (Reply A))) (ready : Bool) → ready ≡ false → Some ready ≡ option_map is_answered (owed_at call (owed_of es)) → owed_at call (owed_of es) ≡ Some (record { call = call; reply = None })
  waits-is call es ready t h = go (lookup (is_at (nat_cmp call)) es) refl
    where
      go : (o : Option (Option (Reply A))) → lookup (is_at (nat_cmp call)) es ≡ o → owed_at call (owed_of es) ≡ Some (record { call = call; reply = None })
      go None e = let bad : Some ready ≡ None = h ∙ sym (unready-is call es e) in absurd (cc)
      go (Some None) e = found-is call es (Some None) e
      go (Some (Some r)) e = let bad : Some ready ≡ Some true = h ∙ sym (ready-is call es (Some r) e) in absurd (cc)
