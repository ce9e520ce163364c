-- The calls that have their reply, and how many wait, as replies come and go.
use Rattle.std.proofs.Common.{◌≡◌, ℕ, ◌≤◌, ◌+◌, ◌==◌, Bool, true, false, List, [], ◌∷◌, Some, refl, sym, ap, arith, ◌∙◌}
use Rattle.std.specs.List.{list_any}
use Rattle.std.specs.Prelude.{length, nat_eq, slice_get, if◌then◌else◌}
use Rattle.indexmap.specs.IndexSet.{IndexSet, contains, spare}
use Rattle.hc_history.specs.Note.{Reply}
use Rattle.hc_machine.specs.Cache.{Owed, is_owed, owed_at, owed_anew, owed_with, owed_less}
use Rattle.hc_waiting.specs.Replies.{is_answered, has_reply, is_ready_in, waiting_in, AreReady, IsNextReply}

-- ---- a reply comes

with_there : (n : ℕ) (r : Reply) (all : List Owed) (o : Owed) → owed_at n all ≡ Some o → is_ready_in n (owed_with n r all) ≡ true
with_there n r [] o e = absurd (cc)
with_there n r (x ∷ xs) o e = at (is_owed n x) refl e (with_there n r xs o)
  where
    at : (b : Bool) → is_owed n x ≡ b → owed_at n (x ∷ xs) ≡ Some o → (owed_at n xs ≡ Some o → is_ready_in n (owed_with n r xs) ≡ true) → is_ready_in n (owed_with n r (x ∷ xs)) ≡ true
    at true p e more = rw (p, p) refl
    at false p e more = let k : owed_at n xs ≡ Some o = (rw p at e) in rw (p, p) (more k)

with_other : (n m : ℕ) (r : Reply) (all : List Owed) → (n == m) ≡ false → is_ready_in m (owed_with n r all) ≡ is_ready_in m all
with_other n m r [] d = refl
with_other n m r (x ∷ xs) d = at (is_owed n x) refl (is_owed m x) refl (with_other n m r xs d)
  where
    at : (b : Bool) → is_owed n x ≡ b → (t : Bool) → is_owed m x ≡ t → is_ready_in m (owed_with n r xs) ≡ is_ready_in m xs → is_ready_in m (owed_with n r (x ∷ xs)) ≡ is_ready_in m (x ∷ xs)
    at true p true q more = absurd (let no : (n == m) ≡ true = grind (arith, p, q) in cc)
    at true p false q more = rw (p, q) more
    at false p true q more = rw (p, q) refl
    at false p false q more = rw (p, q) more

pub with_ready : (n : ℕ) (r : Reply) (all : List Owed) (o : Owed) → owed_at n all ≡ Some o → (m : ℕ) → is_ready_in m (owed_with n r all) ≡ (if n == m then true else is_ready_in m all)
with_ready n r all o e m = go (n == m) refl
  where
    go : (b : Bool) → (n == m) ≡ b → is_ready_in m (owed_with n r all) ≡ (if b then true else is_ready_in m all)
    go true p = let same : n ≡ m = (grind (arith, p)) in ap (λ k. is_ready_in k (owed_with n r all)) (sym same) ∙ with_there n r all o e
    go false p = with_other n m r all p

-- no more wait than before, and one less where the call waited
pub with_waiting : (n : ℕ) (r : Reply) (all : List Owed) → waiting_in (owed_with n r all) ≤ waiting_in all
with_waiting n r [] = omega arith
with_waiting n r (x ∷ xs) = go (is_owed n x) refl (is_answered x) refl (with_waiting n r xs)
  where
    go : (b : Bool) → is_owed n x ≡ b → (a : Bool) → is_answered x ≡ a → waiting_in (owed_with n r xs) ≤ waiting_in xs → waiting_in (owed_with n r (x ∷ xs)) ≤ waiting_in (x ∷ xs)
    go true p true q more = rw (p, q) (omega (arith, more))
    go true p false q more = rw (p, q) (omega (arith, more))
    go false p true q more = rw (p, q) (omega (arith, more))
    go false p false q more = rw (p, q) (omega (arith, more))

pub with_less : (n : ℕ) (r : Reply) (all : List Owed) (o : Owed) → owed_at n all ≡ Some o → is_answered o ≡ false → waiting_in (owed_with n r all) + 1 ≤ waiting_in all
with_less n r [] o e w = absurd (cc)
with_less n r (x ∷ xs) o e w = go (is_owed n x) refl (is_answered x) refl e (with_waiting n r xs) (with_less n r xs o)
  where
    go : (b : Bool) → is_owed n x ≡ b → (a : Bool) → is_answered x ≡ a → owed_at n (x ∷ xs) ≡ Some o → waiting_in (owed_with n r xs) ≤ waiting_in xs → (owed_at n xs ≡ Some o → is_answered o ≡ false → waiting_in (owed_with n r xs) + 1 ≤ waiting_in xs) → waiting_in (owed_with n r (x ∷ xs)) + 1 ≤ waiting_in (x ∷ xs)
    go true p true q e le more = let same : Some x ≡ Some o = (rw p at e) in let bad : true ≡ false = sym q ∙ (ap has_reply same ∙ w) in absurd (cc)
    go true p false q e le more = rw (p, q) (omega (arith, le))
    go false p true q e le more = let k : owed_at n xs ≡ Some o = (rw p at e) in let l = more k w in rw (p, q) (omega (arith, l))
    go false p false q e le more = let k : owed_at n xs ≡ Some o = (rw p at e) in let l = more k w in rw (p, q) (omega (arith, l))

-- ---- a reply is taken, or none is wanted any longer

less_there : (n : ℕ) (all : List Owed) → is_ready_in n (owed_less n all) ≡ false
less_there n [] = refl
less_there n (x ∷ xs) = at (is_owed n x) refl (less_there n xs)
  where
    at : (b : Bool) → is_owed n x ≡ b → is_ready_in n (owed_less n xs) ≡ false → is_ready_in n (owed_less n (x ∷ xs)) ≡ false
    at true p more = rw p more
    at false p more = rw (p, p) more

less_other : (n m : ℕ) (all : List Owed) → (n == m) ≡ false → is_ready_in m (owed_less n all) ≡ is_ready_in m all
less_other n m [] d = refl
less_other n m (x ∷ xs) d = at (is_owed n x) refl (is_owed m x) refl (less_other n m xs d)
  where
    at : (b : Bool) → is_owed n x ≡ b → (t : Bool) → is_owed m x ≡ t → is_ready_in m (owed_less n xs) ≡ is_ready_in m xs → is_ready_in m (owed_less n (x ∷ xs)) ≡ is_ready_in m (x ∷ xs)
    at true p true q more = absurd (let no : (n == m) ≡ true = grind (arith, p, q) in cc)
    at true p false q more = rw (p, q) more
    at false p true q more = rw (p, q) refl
    at false p false q more = rw (p, q) more

pub less_ready : (n : ℕ) (all : List Owed) (m : ℕ) → is_ready_in m (owed_less n all) ≡ (if n == m then false else is_ready_in m all)
less_ready n all m = go (n == m) refl
  where
    go : (b : Bool) → (n == m) ≡ b → is_ready_in m (owed_less n all) ≡ (if b then false else is_ready_in m all)
    go true p = let same : n ≡ m = (grind (arith, p)) in ap (λ k. is_ready_in k (owed_less n all)) (sym same) ∙ less_there n all
    go false p = less_other n m all p

pub less_waiting : (n : ℕ) (all : List Owed) → waiting_in (owed_less n all) ≤ waiting_in all
less_waiting n [] = omega arith
less_waiting n (x ∷ xs) = go (is_owed n x) refl (is_answered x) refl (less_waiting n xs)
  where
    go : (b : Bool) → is_owed n x ≡ b → (a : Bool) → is_answered x ≡ a → waiting_in (owed_less n xs) ≤ waiting_in xs → waiting_in (owed_less n (x ∷ xs)) ≤ waiting_in (x ∷ xs)
    go true p true q more = rw (p, q) (omega (arith, more))
    go true p false q more = rw (p, q) (omega (arith, more))
    go false p true q more = rw (p, q) (omega (arith, more))
    go false p false q more = rw (p, q) (omega (arith, more))

-- ---- one more waits

pub anew_ready : (n : ℕ) (all : List Owed) (m : ℕ) → is_ready_in m (owed_anew n all) ≡ is_ready_in m all
anew_ready n [] m = go (n == m) refl
  where
    go : (b : Bool) → (n == m) ≡ b → is_ready_in m (owed_anew n []) ≡ false
    go true p = rw p refl
    go false p = rw p refl
anew_ready n (x ∷ xs) m = at (is_owed m x) refl (anew_ready n xs m)
  where
    at : (b : Bool) → is_owed m x ≡ b → is_ready_in m (owed_anew n xs) ≡ is_ready_in m xs → is_ready_in m (owed_anew n (x ∷ xs)) ≡ is_ready_in m (x ∷ xs)
    at true p more = rw p refl
    at false p more = rw p more

pub anew_waiting : (n : ℕ) (all : List Owed) → waiting_in (owed_anew n all) ≤ length all + 1
anew_waiting n [] = omega arith
anew_waiting n (x ∷ xs) = go (is_answered x) refl (anew_waiting n xs)
  where
    go : (a : Bool) → is_answered x ≡ a → waiting_in (owed_anew n xs) ≤ length xs + 1 → waiting_in (owed_anew n (x ∷ xs)) ≤ length (x ∷ xs) + 1
    go true q more = rw q (omega (arith, more))
    go false q more = rw q (omega (arith, more))

-- ---- the set beside them

module _ {S : Type 0} where
  -- a call that waited has its reply, and stands among them
  pub entered : (n : ℕ) (r : Reply) (all : List Owed) (o : Owed) (ready new : IndexSet ℕ S) → AreReady all ready → owed_at n all ≡ Some o → is_answered o ≡ false → ((m : ℕ) → contains nat_eq new m ≡ (if n == m then true else contains nat_eq ready m))
      → spare ready ≤ spare new + 1 → AreReady (owed_with n r all) new
  entered n r all o ready new h at waits calls room = record {
    calls = λ m. calls m ∙ ap (λ (b : Bool). if n == m then true else b) (h.calls m) ∙ sym (with_ready n r all o at m);
    room = let less = with_less n r all o at waits in omega (arith, h.room, room, less);
  }

  -- one that had a reply has another, and stands there
  pub answered_again : (n : ℕ) (r : Reply) (all : List Owed) (o : Owed) (ready : IndexSet ℕ S) → AreReady all ready → owed_at n all ≡ Some o → is_answered o ≡ true → AreReady (owed_with n r all) ready
  answered_again n r all o ready h at answered = record {
    calls = λ m. h.calls m ∙ there m (n == m) refl ∙ sym (with_ready n r all o at m);
    room = let less = with_waiting n r all in omega (arith, h.room, less);
  }
    where
      there : (m : ℕ) (b : Bool) → (n == m) ≡ b → is_ready_in m all ≡ (if b then true else is_ready_in m all)
      there m true p = let same : n ≡ m = (grind (arith, p)) in ap (λ k. is_ready_in k all) (sym same) ∙ ap has_reply at ∙ answered
      there m false p = refl

  -- no reply is owed to the call, and it stands there no longer
  pub left : (n : ℕ) (all : List Owed) (ready new : IndexSet ℕ S) → AreReady all ready → ((m : ℕ) → contains nat_eq new m ≡ (if n == m then false else contains nat_eq ready m)) → spare ready ≤ spare new → AreReady (owed_less n all) new
  left n all ready new h calls room = record {
    calls = λ m. calls m ∙ ap (λ (b : Bool). if n == m then false else b) (h.calls m) ∙ sym (less_ready n all m);
    room = let less = less_waiting n all in omega (arith, h.room, room, less);
  }

  -- one more waits, for which there is room
  pub awaited : (n : ℕ) (all : List Owed) (ready new : IndexSet ℕ S) → AreReady all ready → new.keys ≡ ready.keys → length all + 1 ≤ spare new → AreReady (owed_anew n all) new
  awaited n all ready new h same room = record {
    calls = λ m. ap (λ (keys : List ℕ). list_any (nat_eq m) keys) same ∙ h.calls m ∙ sym (anew_ready n all m);
    room = let most = anew_waiting n all in omega (arith, most, room);
  }

  -- as many wait as before
  pub kept : (all : List Owed) (ready new : IndexSet ℕ S) → AreReady all ready → new.keys ≡ ready.keys → spare ready ≤ spare new → AreReady all new
  kept all ready new h same room = record {
    calls = λ m. ap (λ (keys : List ℕ). list_any (nat_eq m) keys) same ∙ h.calls m;
    room = omega (arith, h.room, room);
  }

  -- the first of them has its reply, and where there is no first, no call has one
  pub next_is : (all : List Owed) (ready : IndexSet ℕ S) → AreReady all ready → IsNextReply all (slice_get ready.keys 0)
  next_is all ready h = go ready.keys h.calls
    where
      go : (keys : List ℕ) → ((call : ℕ) → list_any (nat_eq call) keys ≡ is_ready_in call all) → IsNextReply all (slice_get keys 0)
      go [] calls = λ call. sym (calls call)
      go (k ∷ keys) calls = sym (calls k) ∙ (let is : nat_eq k k ≡ true = (grind arith) in rw is refl)
