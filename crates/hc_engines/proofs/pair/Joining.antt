-- What two engines hold together, where one of them changes.
use Rattle.std.proofs.Common.{◌≡◌, ℕ, Bool, true, false, ◌&&◌, ◌||◌, List, [], ◌∷◌, ◌++◌, length, Option, Some, None, refl, sym, inl, inr, ap, arith, ◌∙◌}
use Rattle.std.specs.Prelude.{◌⊎◌, if◌then◌else◌}
use Rattle.std.specs.Str.{bytes_eq}
use Rattle.hc_types.specs.declared.config.FlashConfig.{FlashConfig}
use Rattle.hc_types.specs.Loss.{Scope, Key, Bucket, Hash, Cause, covers}
use Rattle.hc_types.specs.Places.{is_small_by}
use Rattle.hc_types.specs.FlashEntry.{FlashEntry}
use Rattle.hc_engines.specs.Engine.{Op, Put, Get, Delete, Flush, Reclaim, Answer, Nothing, Over, Absent, Found, Loss, Outcome, Holds, takes_out, is_lost, left_of, changed, held_after}
use Rattle.hc_engines.specs.small.BigHash.{is_ours}
use Rattle.hc_engines.specs.pair.Held.{or_else, OneHolder, IsAlone}
use Rattle.hc_engines.proofs.Keys.{same-true}

or-none : (o : Option FlashEntry) → or_else o None ≡ o
or-none None = refl
or-none (Some e) = refl

-- what two engines hold: each entry under its own key, small ones here and large ones there, and no key in both
pub record Sides (flash : FlashConfig) (a b : Holds) : Type 0 where
  pub a_small : (key : List ℕ) (e : FlashEntry) → a key ≡ Some e → is_small_by flash e.key (length e.value) ≡ true
  pub b_key : (key : List ℕ) (e : FlashEntry) → b key ≡ Some e → e.key ≡ key
  pub b_large : (key : List ℕ) (e : FlashEntry) → b key ≡ Some e → is_small_by flash e.key (length e.value) ≡ false
  pub one : OneHolder a b

-- ---- losses of the one take out nothing of the other

-- they take out nothing that is large, where the small engine doesn't hold its key
abbrev pub SpareLarge : FlashConfig → Holds → List Loss → Type 0
SpareLarge flash a losses = (e : FlashEntry) → is_small_by flash e.key (length e.value) ≡ false → a e.key ≡ None → is_lost flash losses e ≡ false

-- the loss is of a kept hash, or takes out nothing
abbrev pub IsLargeLoss : Scope → Cause → Type 0
IsLargeLoss (Key key) cause = takes_out cause ≡ false
IsLargeLoss (Bucket bucket) cause = ⊥
IsLargeLoss (Hash kept but) cause = Unit {0}

abbrev pub AreLargeLosses : List Loss → Type 0
AreLargeLosses [] = Unit {0}
AreLargeLosses (loss ∷ losses) = IsLargeLoss loss.scope loss.cause × AreLargeLosses losses

and-false : (b : Bool) → (b && false) ≡ false
and-false true = refl
and-false false = refl

large-covers : (flash : FlashConfig) (scope : Scope) (cause : Cause) (e : FlashEntry) → IsLargeLoss scope cause → is_small_by flash e.key (length e.value) ≡ true → (takes_out cause && covers (Some flash) scope e.key (length e.value)) ≡ false
large-covers flash (Key key) cause e h small = rw h refl
large-covers flash (Bucket bucket) cause e h small = absurd h
large-covers flash (Hash kept but) cause e h small = rw small (and-false (takes_out cause))

large-lost : (flash : FlashConfig) (losses : List Loss) (e : FlashEntry) → AreLargeLosses losses → is_small_by flash e.key (length e.value) ≡ true → is_lost flash losses e ≡ false
large-lost flash [] e h small = refl
large-lost flash (loss ∷ losses) e h small = rw (large-covers flash loss.scope loss.cause e h.0 small) (large-lost flash losses e h.1 small)

-- what two calls lose, one after the other
pub left-append : (flash : FlashConfig) (one two : List Loss) (o : Option FlashEntry) → left_of flash two (left_of flash one o) ≡ left_of flash (one ++ two) o
left-append flash one two None = refl
left-append flash one two (Some e) = rw (lost-append one) (go (is_lost flash one e))
  where
    lost-append : (one : List Loss) → is_lost flash (one ++ two) e ≡ (is_lost flash one e || is_lost flash two e)
    lost-append [] = refl
    lost-append (loss ∷ losses) = grind (arith, lost-append losses)

    go : (t : Bool) → left_of flash two (if t then None else Some e) ≡ (if t || is_lost flash two e then None else Some e)
    go true = refl
    go false = refl

-- ---- an operation changes its own key alone

abbrev pub names : Op → List ℕ → Bool
names (Put e) key = bytes_eq e.key key
names (Get k) key = false
names (Delete k) key = bytes_eq k key
names Flush key = false
names Reclaim key = false

changed-other : (op : Op) (answer : Answer) (key : List ℕ) (o : Option FlashEntry) → names op key ≡ false → changed op answer key o ≡ o
changed-other (Put e) Nothing key o n = refl
changed-other (Put e) Over key o n = rw n refl
changed-other (Put e) Absent key o n = refl
changed-other (Put e) (Found x) key o n = refl
changed-other (Get k) answer key o n = refl
changed-other (Delete k) Nothing key o n = refl
changed-other (Delete k) Over key o n = rw n refl
changed-other (Delete k) Absent key o n = refl
changed-other (Delete k) (Found x) key o n = refl
changed-other Flush answer key o n = refl
changed-other Reclaim answer key o n = refl

not-held : (key k : List ℕ) (h : Holds) (e : FlashEntry) → h k ≡ None → h key ≡ Some e → bytes_eq k key ≡ false
not-held key k h e none some = cases (bytes_eq k key) refl
  where
    cases : (t : Bool) → bytes_eq k key ≡ t → bytes_eq k key ≡ false
    cases true p = let same : k ≡ key = same-true k key p in let both : None ≡ Some e = sym none ∙ ap h same ∙ some in absurd (cc)
    cases false p = p

-- the other engine holds a key: it isn't the operation's
not-ours : (flash : FlashConfig) (op : Op) (a b : Holds) (key : List ℕ) (e : FlashEntry) → is_ours flash op ≡ true → IsAlone flash op a b → b key ≡ Some e → names op key ≡ false
not-ours flash (Put x) a b key e ours alone some = not-held key x.key b e (rw ours at alone) some
not-ours flash (Get k) a b key e ours alone some = refl
not-ours flash (Delete k) a b key e ours alone some = not-held key k b e alone some
not-ours flash Flush a b key e ours alone some = refl
not-ours flash Reclaim a b key e ours alone some = refl

pub not-theirs : (flash : FlashConfig) (op : Op) (a b : Holds) (key : List ℕ) (e : FlashEntry) → is_ours flash op ≡ false → IsAlone flash op a b → a key ≡ Some e → names op key ≡ false
not-theirs flash (Put x) a b key e ours alone some = not-held key x.key a e (rw ours at alone) some
not-theirs flash (Get k) a b key e ours alone some = absurd (cc)
not-theirs flash (Delete k) a b key e ours alone some = absurd (cc)
not-theirs flash Flush a b key e ours alone some = refl
not-theirs flash Reclaim a b key e ours alone some = refl

-- ---- what both hold, where one changed

module _ (flash : FlashConfig) (op : Op) (outcome : Outcome) (a b : Holds) (sides : Sides flash a b) where
  -- the small engine changed by the outcome, and the other is as it was
  pub small_joins : (ours : is_ours flash op ≡ true) → IsAlone flash op a b → SpareLarge flash a outcome.losses → (new : Holds) → ((key : List ℕ) → new key ≡ held_after flash op outcome a key)
      → (key : List ℕ) → or_else (new key) (b key) ≡ held_after flash op outcome (λ k. or_else (a k) (b k)) key
  small_joins ours alone losses new does key = go (b key) refl (a key) refl
    where
      go : (o : Option FlashEntry) → b key ≡ o → (p : Option FlashEntry) → a key ≡ p → or_else (new key) o ≡ left_of flash outcome.losses (changed op outcome.answer key (or_else p o))
      go None e p f = or-none (new key) ∙ does key ∙ (rw (f, or-none p) refl)
      go (Some x) e (Some y) f = both (sides.one key)
        where
          both : (a key ≡ None) ⊎ (b key ≡ None) → or_else (new key) (Some x) ≡ left_of flash outcome.losses (changed op outcome.answer key (Some y))
          both (inl n) = let h : None ≡ Some y = sym n ∙ f in absurd (cc)
          both (inr n) = let h : None ≡ Some x = sym n ∙ e in absurd (cc)
      go (Some x) e None f =
          let n = not-ours flash op a b key x ours alone e in
          let none : new key ≡ None = does key ∙ (rw (f, changed-other op outcome.answer key None n) refl) in
          let own : x.key ≡ key = sides.b_key key x e in
          let kept : is_lost flash outcome.losses x ≡ false = losses x (sides.b_large key x e) (ap a own ∙ f) in
          rw (none, changed-other op outcome.answer key (Some x) n) (rw kept refl)

  -- the large engine changed by the outcome, and the other is as it was
  pub large_joins : (n : (key : List ℕ) (e : FlashEntry) → a key ≡ Some e → names op key ≡ false) → AreLargeLosses outcome.losses → (new : Holds) → ((key : List ℕ) → new key ≡ held_after flash op outcome b key)
      → (key : List ℕ) → or_else (a key) (new key) ≡ held_after flash op outcome (λ k. or_else (a k) (b k)) key
  large_joins n losses new does key = go (a key) refl
    where
      go : (o : Option FlashEntry) → a key ≡ o → or_else o (new key) ≡ left_of flash outcome.losses (changed op outcome.answer key (or_else o (b key)))
      go None e = does key
      go (Some x) e = rw (changed-other op outcome.answer key (Some x) (n key x e), large-lost flash outcome.losses x losses (sides.a_small key x e)) refl

-- ---- no key is in both engines then

-- the small engine changed, and not at a key that the other holds
pub small_one : (flash : FlashConfig) (op : Op) (answer : Answer) (losses : List Loss) (a b new : Holds) → is_ours flash op ≡ true → IsAlone flash op a b → OneHolder a b → ((key : List ℕ) → new key ≡ left_of flash losses (changed op answer key (a key))) → OneHolder new b
small_one flash op answer losses a b new ours alone one does key = go (b key) refl
  where
    go : (o : Option FlashEntry) → b key ≡ o → (new key ≡ None) ⊎ (b key ≡ None)
    go None e = inr e
    go (Some x) e = inl (by (one key))
      where
        by : (a key ≡ None) ⊎ (b key ≡ None) → new key ≡ None
        by (inl n) = does key ∙ (rw (n, changed-other op answer key None (not-ours flash op a b key x ours alone e)) refl)
        by (inr n) = let h : None ≡ Some x = sym n ∙ e in absurd (cc)

-- the large engine changed, and not at a key that the other holds
pub large_one : (flash : FlashConfig) (op : Op) (answer : Answer) (losses : List Loss) (a b new : Holds) → ((key : List ℕ) (e : FlashEntry) → a key ≡ Some e → names op key ≡ false) → OneHolder a b → ((key : List ℕ) → new key ≡ left_of flash losses (changed op answer key (b key))) → OneHolder a new
large_one flash op answer losses a b new n one does key = go (a key) refl
  where
    go : (o : Option FlashEntry) → a key ≡ o → (a key ≡ None) ⊎ (new key ≡ None)
    go None e = inl e
    go (Some x) e = inr (by (one key))
      where
        by : (a key ≡ None) ⊎ (b key ≡ None) → new key ≡ None
        by (inl none) = let h : None ≡ Some x = sym none ∙ e in absurd (cc)
        by (inr none) = does key ∙ (rw (none, changed-other op answer key None (n key x e)) refl)
