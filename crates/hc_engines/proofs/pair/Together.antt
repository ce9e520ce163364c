-- What a call of one engine says of both.
use Rattle.std.proofs.Common.{◌≡◌, ℕ, true, false, List, Option, Some, None, refl, inl, inr, ap, ◌∙◌}
use Rattle.std.specs.Prelude.{◌⊎◌}
use Rattle.hc_types.specs.declared.config.FlashConfig.{FlashConfig}
use Rattle.hc_types.specs.FlashEntry.{FlashEntry}
use Rattle.hc_engines.specs.Engine.{Op, Put, Get, Delete, Flush, Reclaim, Answer, Absent, Next, Busy, Io, Done, Holds, found, Answers, AnswersFor, Changes, Does}
use Rattle.hc_engines.specs.small.BigHash.{is_ours}
use Rattle.hc_engines.specs.pair.Held.{or_else, OneHolder, IsAlone}
use Rattle.hc_engines.proofs.pair.Joining.{Sides, SpareLarge, AreLargeLosses, names, small_joins, large_joins, small_one, large_one}
use Rattle.hc_engines.proofs.pair.SmallSteps.{losses_of}

abbrev pub both : Holds → Holds → Holds
both a b key = or_else (a key) (b key)

-- a get that is over found something
abbrev pub HasAnswer : Op → Next → Type 0
HasAnswer op Busy = Unit {0}
HasAnswer op (Io order outcome) = Unit {0}
HasAnswer op (Done outcome) = (key : List ℕ) → op ≡ Get key → outcome.answer ≡ Absent → ⊥

found-some : (answer : Answer) (o other : Option FlashEntry) → answer ≡ found o → (answer ≡ Absent → ⊥) → answer ≡ found (or_else o other)
found-some answer None other h isnt = absurd (isnt h)
found-some answer (Some e) other h isnt = h

module _ (flash : FlashConfig) (op : Op) (a b new : Holds) (sides : Sides flash a b) where
  -- ---- the small engine answered

  pub small_holds_one : is_ours flash op ≡ true → IsAlone flash op a b → (next : Next) → Changes flash op next a new → OneHolder new b
  small_holds_one ours alone Busy changes = λ key. go key (sides.one key)
    where
      go : (key : List ℕ) → (a key ≡ None) ⊎ (b key ≡ None) → (new key ≡ None) ⊎ (b key ≡ None)
      go key (inl n) = inl (changes key ∙ n)
      go key (inr n) = inr n
  small_holds_one ours alone (Io order outcome) changes = small_one flash op outcome.answer outcome.losses a b new ours alone sides.one changes.1
  small_holds_one ours alone (Done outcome) changes = small_one flash op outcome.answer outcome.losses a b new ours alone sides.one changes.0

  answers-both : (op : Op) (answer : Answer) → Answers op answer new → ((key : List ℕ) → op ≡ Get key → answer ≡ Absent → ⊥) → Answers op answer (both new b)
  answers-both (Put e) answer h isnt = tt
  answers-both (Get key) answer h isnt = found-some answer (new key) (b key) h (isnt key refl)
  answers-both (Delete key) answer h isnt = tt
  answers-both Flush answer h isnt = tt
  answers-both Reclaim answer h isnt = tt

  pub small_does : is_ours flash op ≡ true → IsAlone flash op a b → (stale : Answer → Type 0) (next : Next) → SpareLarge flash a (losses_of next) → Changes flash op next a new → HasAnswer op next → Does stale flash op next (both a b) (both new b)
  small_does ours alone stale Busy losses changes has = λ key. ap (λ (o : Option FlashEntry). or_else o (b key)) (changes key)
  small_does ours alone stale (Io order outcome) losses changes has = (changes.0, small_joins flash op outcome a b sides ours alone losses new changes.1)
  small_does ours alone stale (Done outcome) losses changes has = (small_joins flash op outcome a b sides ours alone losses new changes.0, inl (answers-both op outcome.answer changes.1 has))

  -- ---- the large engine answered

  pub large_holds_one : ((key : List ℕ) (e : FlashEntry) → a key ≡ Some e → names op key ≡ false) → (stale : Answer → Type 0) (next : Next) → Does stale flash op next b new → OneHolder a new
  large_holds_one apart stale Busy does = λ key. go key (sides.one key)
    where
      go : (key : List ℕ) → (a key ≡ None) ⊎ (b key ≡ None) → (a key ≡ None) ⊎ (new key ≡ None)
      go key (inl n) = inl n
      go key (inr n) = inr (does key ∙ n)
  large_holds_one apart stale (Io order outcome) does = large_one flash op outcome.answer outcome.losses a b new apart sides.one does.1
  large_holds_one apart stale (Done outcome) does = large_one flash op outcome.answer outcome.losses a b new apart sides.one does.0

  pub large_does : ((key : List ℕ) (e : FlashEntry) → a key ≡ Some e → names op key ≡ false) → (stale then_stale : Answer → Type 0) → ((answer : Answer) → AnswersFor stale op answer new → AnswersFor then_stale op answer (both a new))
      → (next : Next) → AreLargeLosses (losses_of next) → Does stale flash op next b new → Does then_stale flash op next (both a b) (both a new)
  large_does apart stale then_stale right Busy losses does = λ key. ap (or_else (a key)) (does key)
  large_does apart stale then_stale right (Io order outcome) losses does = (does.0, large_joins flash op outcome a b sides apart losses new does.1)
  large_does apart stale then_stale right (Done outcome) losses does = (large_joins flash op outcome a b sides apart losses new does.0, right outcome.answer does.1)
