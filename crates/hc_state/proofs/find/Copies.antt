-- A find that copies the value is the machine's step.
use Rattle.std.proofs.Common.{◌≡◌, ℕ, ◌+◌, List, [], ◌∷◌, length, Option, Some, None, refl, sym, ap, ◌∙◌, subst}
use Rattle.std.specs.Prelude.{option_map}
use Rattle.hc_memory.specs.Memory.{value_at, copied}
use Rattle.hc_history.specs.Note.{Find, Begin, Did, End, Hit}
use Rattle.hc_history.specs.Told.{told_more}
use Rattle.hc_machine.specs.Cache.{Moved, Answer, Replied}
use Rattle.hc_machine.specs.Calls.{used, find}
use Rattle.hc_state.specs.find.Copy.{copied_by, left_by}
use Rattle.hc_state.specs.Whole.{Whole, IsReady, IsStep}
use Rattle.hc_state.specs.declared.answers.Copied.{Copied}
use Rattle.hc_state.specs.declared.answers.Copied.TheVariants as answered
use Rattle.hc_state.specs.wait.Begin.{OwesBegun}
use Rattle.hc_memory.proofs.Keyed.{mapped-none}
use Rattle.hc_state.proofs.Begun.{find-begun}
use Rattle.hc_state.proofs.find.Hits.{hit-step, miss-same, step-on}

-- the step, what is answered, and what stands in the buffer
pub record Copies (moved : Moved) (told : Copied) (was is : List ℕ) (old new : Whole) : Type 0 where
  pub step : IsStep moved moved.answer old new
  pub answer : Some told ≡ copied_by moved.answer
  pub buffer : is ≡ left_by moved.answer was

-- a step that is answered so is copied by its answer
pub copies-step : (moved : Moved) (answer : Answer) (told : Copied) (was is : List ℕ) (old new : Whole) → IsStep moved answer old new → Some told ≡ copied_by answer → is ≡ left_by answer was → Copies moved told was is old new
copies-step moved answer told was is old new step by left = record {
  step = subst (λ (a : Answer). IsStep moved a old new) step.answer_is step;
  answer = by ∙ ap copied_by step.answer_is;
  buffer = left ∙ ap (λ (a : Answer). left_by a was) step.answer_is;
}

-- what has a length
record Long (found : Option (List ℕ)) (len : ℕ) : Type 0 where
  value : List ℕ
  there : Some value ≡ found
  long : len ≡ length value

long : (found : Option (List ℕ)) (len : ℕ) → Some len ≡ option_map length found → Long found len
long None len e = absurd (cc)
long (Some value) len e = record { value = value; there = refl; long = cc }

-- by an item's value
pub copies-hit : (client call : ℕ) (key : List ℕ) (len : ℕ) (was is : List ℕ) (old mid new : Whole) → call ≡ old.cache.calls + 1 → Some len ≡ option_map length (value_at old.cache.now key old.cache.memory.pools)
    → is ≡ copied (value_at old.cache.now key old.cache.memory.pools) was → mid.cache ≡ used key old.cache → mid.log ≡ old.log → new.cache ≡ record mid.cache { calls = call }
    → ((client : ℕ) (key value : List ℕ) → new.log ≡ told_more mid.log (Begin call client (Find key) ∷ Did call (Hit value) ∷ End call ∷ [])) → IsReady new → Copies (find client key old.cache) (answered.Hit len) was is old new
copies-hit client call key len was is old mid new number at left uses same cache log ready =
    let l = long (value_at old.cache.now key old.cache.memory.pools) len at in
    let step = hit-step client call key (Some l.value) l.value (Replied (Hit l.value)) old mid new number refl l.there uses same refl cache (log client key l.value) ready in
    copies-step (find client key old.cache) (Replied (Hit l.value)) (answered.Hit len) was is old new step (ap (λ (n : ℕ). Some (answered.Hit n)) l.long) (left ∙ ap (λ (o : Option (List ℕ)). copied o was) (sym l.there))

-- ---- where the pools have none

-- what has no length isn't there
pub missed : (key : List ℕ) (len : Option ℕ) (old : Whole) → len ≡ None → len ≡ option_map length (value_at old.cache.now key old.cache.memory.pools) → value_at old.cache.now key old.cache.memory.pools ≡ None
missed key len old is at = mapped-none length (value_at old.cache.now key old.cache.memory.pools) (sym at ∙ is)

-- then nothing was done yet
pub missed-same : (key : List ℕ) (len : Option ℕ) (old mid : Whole) → len ≡ None → len ≡ option_map length (value_at old.cache.now key old.cache.memory.pools) → mid.cache ≡ used key old.cache → mid.cache ≡ old.cache
missed-same key len old mid is at uses = miss-same key (value_at old.cache.now key old.cache.memory.pools) old mid (missed key len old is at) refl uses

-- and the find is answered by what is done beside them
pub copies-beside : (client : ℕ) (key : List ℕ) (len : Option ℕ) (answer : Answer) (told : Copied) (was middle is : List ℕ) (old mid new : Whole) → len ≡ None
    → len ≡ option_map length (value_at old.cache.now key old.cache.memory.pools) → middle ≡ copied (value_at old.cache.now key old.cache.memory.pools) was → mid.cache ≡ used key old.cache → mid.log ≡ old.log
    → IsStep (find client key mid.cache) answer mid new → Some told ≡ copied_by answer → is ≡ left_by answer middle → Copies (find client key old.cache) told was is old new
copies-beside client key len answer told was middle is old mid new none at copies uses same step by left =
    let unwritten : middle ≡ was = copies ∙ ap (λ (o : Option (List ℕ)). copied o was) (missed key len old none at) in
    copies-step (find client key old.cache) answer told was is old new (step-on client key answer old mid new (missed-same key len old mid none at uses) same step) by (left ∙ ap (left_by answer) unwritten)

-- ---- whatever it comes to, each reply is owed to a call that was begun

pub copies-begun : (client : ℕ) (key : List ℕ) (told : Copied) (was is : List ℕ) (old new : Whole) → Copies (find client key old.cache) told was is old new → OwesBegun old.cache → OwesBegun new.cache
copies-begun client key told was is old new copies begun = subst OwesBegun (sym copies.step.cache) (find-begun client key old.cache begun)
