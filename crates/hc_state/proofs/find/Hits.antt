-- A find that asks the pools first, where notes aren't kept: what they answer is the machine's step.
use Rattle.std.proofs.Common.{◌≡◌, ℕ, ◌+◌, ◌≤◌, not, ◌&&◌, Bool, true, false, List, [], ◌∷◌, length, Option, Some, None, refl, sym, ap, ◌∙◌, subst, arith}
use Rattle.std.specs.Prelude.{is_some, option_map}
use Rattle.std.specs.Option.{option_map_or}
use Rattle.hc_memory.specs.Item.{Item}
use Rattle.hc_memory.specs.Pool.{Pool, unexpired, is_expired}
use Rattle.hc_memory.specs.Memory.{linked_at, value_at}
use Rattle.hc_memory.proofs.Finding.{missed}
use Rattle.hc_history.specs.Note.{Find, Begin, Did, End}
use Rattle.hc_history.specs.Told.{told_more}
use Rattle.hc_machine.specs.Nvm.{Nvm}
use Rattle.hc_machine.specs.Cache.{Cache, Answer, Replied, with_memory}
use Rattle.hc_machine.specs.Evicting.{entry_of_item}
use Rattle.hc_machine.specs.Waiting.{live, find_reply}
use Rattle.hc_machine.specs.Calls.{waiting_at, must_wait_in, must_wait, used, find}
use Rattle.hc_state.specs.find.Answer.{reply_by, stands_in}
use Rattle.hc_state.specs.Whole.{Whole, IsReady, IsStep, IsUnchanged}
use Rattle.hc_state.proofs.find.Looks.{item-reply, linked-reply}
use Rattle.hc_state.proofs.find.Steps.{reply_now, now-step}

-- ---- what the pools answer

-- a value that is found is a linked item's
value_linked : (now : ℕ) (key : List ℕ) (pools : List Pool) (value : List ℕ) → Some value ≡ value_at now key pools → is_some (linked_at key pools) ≡ true
value_linked now key pools value = go (linked_at key pools)
  where
    go : (o : Option Item) → Some value ≡ option_map (λ (item : Item). item.value) (unexpired now o) → is_some o ≡ true
    go None e = absurd (cc)
    go (Some item) e = refl

linked_here : (key : List ℕ) (cache : Cache) → is_some (linked_at key cache.memory.pools) ≡ true → must_wait cache key ≡ false
linked_here key cache = go (linked_at key cache.memory.pools)
  where
    go : (o : Option Item) → is_some o ≡ true → (not (is_some (option_map_or (λ item. Some (entry_of_item item)) o (waiting_at cache.nvm key))) && must_wait_in cache.nvm key) ≡ false
    go None e = absurd (cc)
    go (Some item) e = refl

-- then the find doesn't wait
hit_here : (key : List ℕ) (cache : Cache) (value : List ℕ) → Some value ≡ value_at cache.now key cache.memory.pools → must_wait cache key ≡ false
hit_here key cache value hit = linked_here key cache (value_linked cache.now key cache.memory.pools value hit)

-- and is answered by it
hit_reply : (key : List ℕ) (cache : Cache) (value : List ℕ) → Some value ≡ value_at cache.now key cache.memory.pools → reply_by (Some value) ≡ reply_now key cache
hit_reply key cache value hit =
    ap reply_by hit ∙ linked-reply cache.now key cache.memory.pools cache.nvm (value_linked cache.now key cache.memory.pools value hit)

-- where none is found, none is used
none_used : (key : List ℕ) (cache : Cache) → None ≡ value_at cache.now key cache.memory.pools → used key cache ≡ cache
none_used key cache miss = ap (λ (pools : List Pool). with_memory (record cache.memory { pools = pools }) cache) (missed key cache.now cache.memory.pools miss)

-- ---- where there is no flash

and_false : (b : Bool) → (b && false) ≡ false
and_false true = refl
and_false false = refl

-- nothing waits
bare_here : (key : List ℕ) (cache : Cache) → is_some cache.nvm ≡ false → must_wait cache key ≡ false
bare_here key cache = go cache.nvm
  where
    go : (nvm : Option Nvm) → is_some nvm ≡ false → (not (is_some (option_map_or (λ item. Some (entry_of_item item)) (linked_at key cache.memory.pools) (waiting_at nvm key))) && must_wait_in nvm key) ≡ false
    go None e = and_false _
    go (Some nvm) e = absurd (cc)

-- and the pools alone answer
bare_reply : (now : ℕ) (key : List ℕ) (pools : List Pool) (nvm : Option Nvm) → is_some nvm ≡ false → reply_by (value_at now key pools) ≡ find_reply (live now (stands_in pools nvm key))
bare_reply now key pools None e = go (linked_at key pools)
  where
    go : (o : Option Item) → reply_by (option_map (λ (item : Item). item.value) (unexpired now o)) ≡ find_reply (live now (option_map_or (λ item. Some (entry_of_item item)) o None))
    go None = refl
    go (Some item) = item-reply now item (is_expired now item) refl
bare_reply now key pools (Some nvm) e = absurd (cc)

bare_answer : (key : List ℕ) (cache : Cache) → is_some cache.nvm ≡ false → None ≡ value_at cache.now key cache.memory.pools → reply_by None ≡ reply_now key cache
bare_answer key cache bare miss = ap reply_by miss ∙ bare_reply cache.now key cache.memory.pools cache.nvm bare

-- ---- the step

-- a find that is answered by what the pools answered
answered_step : (client call : ℕ) (key : List ℕ) (found : Option (List ℕ)) (answer : Answer) (old mid new : Whole) → call ≡ old.cache.calls + 1 → must_wait old.cache key ≡ false
    → reply_by found ≡ reply_now key old.cache → mid.cache ≡ used key old.cache → mid.log ≡ old.log → answer ≡ Replied (reply_by found) → new.cache ≡ record mid.cache { calls = call }
    → new.log ≡ told_more mid.log (Begin call client (Find key) ∷ Did call (reply_by found) ∷ End call ∷ []) → IsReady new → IsStep (find client key old.cache) answer old new
answered_step client call key found answer old mid new number here reply uses same answers is told ready =
    let cache = is ∙ ap (λ (c : Cache). record c { calls = call }) uses in
    let log = told ∙ (λ i. told_more (same i) (Begin call client (Find key) ∷ Did call (reply i) ∷ End call ∷ [])) in
    let room = subst (λ (c : Cache). length c.memory.charges ≤ new.notes) cache ready in
    subst (λ (a : Answer). IsStep (find client key old.cache) a old new) (sym answers) (now-step client call key (reply_by found) old new number here reply cache log room)

-- by an item's value
pub hit-step : (client call : ℕ) (key : List ℕ) (found : Option (List ℕ)) (value : List ℕ) (answer : Answer) (old mid new : Whole) → call ≡ old.cache.calls + 1 → found ≡ Some value
    → found ≡ value_at old.cache.now key old.cache.memory.pools → mid.cache ≡ used key old.cache → mid.log ≡ old.log → answer ≡ Replied (reply_by (Some value)) → new.cache ≡ record mid.cache { calls = call }
    → new.log ≡ told_more mid.log (Begin call client (Find key) ∷ Did call (reply_by (Some value)) ∷ End call ∷ []) → IsReady new → IsStep (find client key old.cache) answer old new
hit-step client call key found value answer old mid new number is at =
    let hit = sym is ∙ at in
    answered_step client call key (Some value) answer old mid new number (hit_here key old.cache value hit) (hit_reply key old.cache value hit)

-- by none, where there is no flash
pub bare-step : (client call : ℕ) (key : List ℕ) (answer : Answer) (old new : Whole) → call ≡ old.cache.calls + 1 → is_some old.cache.nvm ≡ false
    → None ≡ value_at old.cache.now key old.cache.memory.pools → answer ≡ Replied (reply_by None) → new.cache ≡ record old.cache { calls = call }
    → new.log ≡ told_more old.log (Begin call client (Find key) ∷ Did call (reply_by None) ∷ End call ∷ []) → IsReady new → IsStep (find client key old.cache) answer old new
bare-step client call key answer old new number bare miss =
    answered_step client call key None answer old old new number (bare_here key old.cache bare) (bare_answer key old.cache bare miss) (sym (none_used key old.cache miss)) refl

-- ---- where the pools answered nothing

-- nothing was done
pub miss-same : (key : List ℕ) (found : Option (List ℕ)) (old mid : Whole) → found ≡ None → found ≡ value_at old.cache.now key old.cache.memory.pools → mid.cache ≡ used key old.cache → mid.cache ≡ old.cache
miss-same key found old mid is at uses = uses ∙ none_used key old.cache (sym is ∙ at)

pub miss-still : (key : List ℕ) (found : Option (List ℕ)) (old mid : Whole) → found ≡ None → found ≡ value_at old.cache.now key old.cache.memory.pools → mid.cache ≡ used key old.cache
    → None ≡ value_at mid.cache.now key mid.cache.memory.pools
miss-still key found old mid is at uses =
    sym is ∙ at ∙ ap (λ (cache : Cache). value_at cache.now key cache.memory.pools) (sym (miss-same key found old mid is at uses))

-- and what is done then is done to what was before
pub step-on : (client : ℕ) (key : List ℕ) (answer : Answer) (old mid new : Whole) → mid.cache ≡ old.cache → mid.log ≡ old.log → IsStep (find client key mid.cache) answer mid new → IsStep (find client key old.cache) answer old new
step-on client key answer old mid new same log step = record {
  cache = step.cache ∙ ap (λ (c : Cache). (find client key c).cache) same;
  answer_is = step.answer_is ∙ ap (λ (c : Cache). (find client key c).answer) same;
  log = step.log ∙ (λ i. told_more (log i) (find client key (same i)).part);
  ready = step.ready;
}

pub unchanged-on : (old mid new : Whole) → mid.cache ≡ old.cache → mid.log ≡ old.log → old.notes ≤ mid.notes → IsUnchanged mid new → IsUnchanged old new
unchanged-on old mid new same log more after = record { cache = after.cache ∙ same; log = after.log ∙ log; notes = omega (arith, after.notes) }
