-- A find is the machine's step, whether it is answered at once or waits.
use Rattle.std.proofs.Common.{◌≡◌, ℕ, ◌+◌, ◌≤◌, Bool, true, false, List, [], ◌∷◌, length, Option, Some, None, if◌then◌else◌, refl, sym, ap, ◌∙◌, subst}
use Rattle.std.specs.Prelude.{Result, Ok, Err, IfOk, OnErr}
use Rattle.hc_types.specs.declared.refusal.Refusal.{Refusal}
use Rattle.hc_memory.specs.Memory.{after_find}
use Rattle.hc_history.specs.Note.{Reply, Find, Begin, Did, End}
use Rattle.hc_history.specs.Told.{told_more}
use Rattle.hc_machine.specs.Nvm.{Nvm, ToFind}
use Rattle.hc_machine.specs.Cache.{Cache, Moved, Replied, Waits, answers}
use Rattle.hc_machine.specs.Waiting.{live, find_reply}
use Rattle.hc_machine.specs.Calls.{begin, wait_in, wait_for, in_memory, must_wait, used, find_now, after_begin, find}
use Rattle.hc_state.specs.declared.answers.Found.{Found}
use Rattle.hc_state.specs.find.Answer.{found_answer}
use Rattle.hc_state.specs.wait.Begin.{OwesBegun, owed_where, joined_where}
use Rattle.hc_state.specs.Whole.{Whole, IsStep, IsUnchanged}
use Rattle.hc_state.proofs.Begun.{find-begun}

-- the step, by whether it waits
abbrev find_as : Bool → ℕ → List ℕ → Cache → Moved
find_as waits client key cache =
    after_begin (λ (begun : Cache). if waits then answers (Waits begun.calls) (wait_for key ToFind begun) else find_now (find_reply (live begun.now (in_memory begun key))) (used key begun)) (begin client (Find key) cache)

-- what a find answers at once
abbrev pub reply_now : List ℕ → Cache → Reply
reply_now key cache = find_reply (live cache.now (in_memory cache key))

pub now-step : (client call : ℕ) (key : List ℕ) (reply : Reply) (old new : Whole) → call ≡ old.cache.calls + 1 → must_wait old.cache key ≡ false → reply ≡ reply_now key old.cache
    → new.cache ≡ record old.cache { memory = after_find old.cache.memory old.cache.now key; calls = call }
    → new.log ≡ told_more old.log (Begin call client (Find key) ∷ Did call (reply_now key old.cache) ∷ End call ∷ [])
    → length old.cache.memory.charges ≤ new.notes → IsStep (find client key old.cache) (Replied reply) old new
now-step client call key reply old new number here replies is told room =
    subst (λ (waits : Bool). IsStep (find_as waits client key old.cache) (Replied reply) old new) (sym here) (record {
      cache = is ∙ ap (λ (n : ℕ). record old.cache { memory = after_find old.cache.memory old.cache.now key; calls = n }) number;
      answer_is = ap (λ r. Replied r) replies;
      log = told ∙ ap (λ (n : ℕ). told_more old.log (Begin n client (Find key) ∷ Did n (reply_now key old.cache) ∷ End n ∷ [])) number;
      ready = subst (λ (c : Cache). length c.memory.charges ≤ new.notes) (sym is) room;
    })

-- the cache once this call waits for the key
abbrev waits_so : ℕ → List ℕ → Cache → Cache
waits_so call key cache = record cache { calls = call; owed = owed_where cache.nvm call cache.owed; nvm = joined_where cache.nvm key (record { call = call; wish = ToFind }) }

joined : (key : List ℕ) (cache : Cache) → wait_in cache.nvm key ToFind (record cache { calls = cache.calls + 1 }) ≡ waits_so (cache.calls + 1) key cache
joined key cache = go cache.nvm
  where
    go : (nvm : Option Nvm) → wait_in nvm key ToFind (record cache { calls = cache.calls + 1; nvm = nvm }) ≡ waits_so (cache.calls + 1) key (record cache { nvm = nvm })
    go None = refl
    go (Some nvm) = refl

pub later-step : (client call : ℕ) (key : List ℕ) (old new : Whole) → call ≡ old.cache.calls + 1 → must_wait old.cache key ≡ true
    → new.cache ≡ record old.cache { calls = call; owed = owed_where old.cache.nvm call old.cache.owed; nvm = joined_where old.cache.nvm key (record { call = call; wish = ToFind }) }
    → new.log ≡ told_more old.log (Begin call client (Find key) ∷ [])
    → length old.cache.memory.charges ≤ new.notes → IsStep (find client key old.cache) (Waits call) old new
later-step client call key old new number later is told room =
    subst (λ (waits : Bool). IsStep (find_as waits client key old.cache) (Waits call) old new) (sym later) (record {
      cache = is ∙ ap (λ (n : ℕ). waits_so n key old.cache) number ∙ sym (joined key old.cache);
      answer_is = ap (λ n. Waits n) number;
      log = told ∙ ap (λ (n : ℕ). told_more old.log (Begin n client (Find key) ∷ [])) number;
      ready = subst (λ (c : Cache). length c.memory.charges ≤ new.notes) (sym is) room;
    })

-- whatever it comes to, each reply is owed to a call that was begun
pub found-begun : {A : Type 0} (result : Result (Found A) Refusal) (client : ℕ) (key : List ℕ) (old new : Whole) → OwesBegun old.cache
    → IfOk result (λ found. IsStep (find client key old.cache) (found_answer found) old new) → OnErr result (IsUnchanged old new) → OwesBegun new.cache
found-begun (Ok found) client key old new begun ok err = subst OwesBegun (sym ok.cache) (find-begun client key old.cache begun)
found-begun (Err refusal) client key old new begun ok err = subst OwesBegun (sym err.cache) begun

pub on_err : {T E P : Type 0} (result : Result T E) → P → OnErr result P
on_err (Ok x) p = tt
on_err (Err e) p = p
