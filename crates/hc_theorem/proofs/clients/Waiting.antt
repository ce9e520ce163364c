-- A call that has to wait: what its part says by the books, and what the cache is after it.
use Rattle.std.proofs.Common.{◌≡◌, ℕ, ◌+◌, Bool, true, false, not, ◌&&◌, ◌||◌, List, [], ◌∷◌, Option, Some, None, refl, ap, sym, ◌∙◌}
use Rattle.std.specs.Prelude.{is_some, IsSome, nat_lt}
use Rattle.hc_types.specs.Config.{Config}
use Rattle.hc_types.specs.Tally.{count}
use Rattle.hc_types.specs.declared.config.FlashConfig.{FlashConfig}
use Rattle.hc_memory.specs.Memory.{Memory}
use Rattle.hc_history.specs.Note.{Note, Op, Begin}
use Rattle.hc_history.specs.Books.{charges, waiting, buried, is_among, is_linked}
use Rattle.hc_history.specs.Regions.{key_of}
use Rattle.hc_machine.specs.Nvm.{Nvm, Wish, joined_by}
use Rattle.hc_machine.specs.Cache.{Cache}
use Rattle.hc_machine.specs.Calls.{must_wait, must_wait_in, in_memory, wait_in, waiting_at, buried_at}
use Rattle.hc_invariant.specs.Good.{Agrees, FlashPart, fills_of}
use Rattle.hc_invariant.proofs.Frames.{waits-is, linked-is}
use Rattle.hc_proof.proofs.calls.NoWaiting.{waits_alone}
use Rattle.hc_machine.specs.Quiet.{jobs_in}
use Rattle.hc_follows.specs.Telling.{Waiting}

-- ---- by the books

both_true : (a b : Bool) → (not a && b) ≡ true → b ≡ true
both_true true b h = absurd cc
both_true false b h = h

flash_says : (flash : Option FlashConfig) (older : List Note) (memory : Memory) (nvm : Option Nvm) (key : List ℕ) → FlashPart flash older memory nvm → must_wait_in nvm key ≡ true → waiting_at nvm key ≡ None → buried_at nvm key ≡ false
    → IsSome flash × (is_among key (waiting older) ≡ false) × (is_among key (buried older) ≡ false)
flash_says None older memory None key f h q b = absurd cc
flash_says None older memory (Some nvm) key f h q b = absurd f
flash_says (Some flash) older memory None key f h q b = absurd f
flash_says (Some flash) older memory (Some nvm) key f h q b = (refl, waits-is older nvm key f.waits ∙ ap is_some q, f.waits.buried key ∙ b)

pub waits_in : (cache : Cache) (key : List ℕ) → must_wait cache key ≡ true → must_wait_in cache.nvm key ≡ true
waits_in cache key h = both_true (is_some (in_memory cache key)) (must_wait_in cache.nvm key) h

pub waits_by_books : (config : Config) (older : List Note) (cache : Cache) (client : ℕ) (op : Op) → Agrees config older cache → must_wait cache (key_of op) ≡ true → Waiting config older client op (cache.calls + 1) (Begin (cache.calls + 1) client op ∷ [])
waits_by_books config older cache client op g h =
    let key = key_of op in
    let alone = waits_alone cache key h in
    let says = flash_says config.flash older cache.memory cache.nvm key g.flash (waits_in cache key h) alone.unqueued alone.unburied in
    let unlinked : nat_lt 0 (count (is_linked key) (charges older)) ≡ false = linked-is config older cache key g.memory ∙ ap is_some alone.unlinked in
    (refl, ap (λ n. n + 1) (sym g.calls.number), says.0, λ i. unlinked i || says.1 i, says.2)

-- ---- the cache after it

pub record Waited (cache : Cache) (key : List ℕ) (wish : Wish) (after : Cache) : Type 0 where
  pub calls : after.calls ≡ cache.calls
  pub memory : after.memory ≡ cache.memory
  pub fills : fills_of after.nvm ≡ joined_by key (record { call = cache.calls; wish = wish }) (fills_of cache.nvm)
  pub jobs : jobs_in after.nvm ≡ jobs_in cache.nvm

pub waited : (cache : Cache) (nvm : Option Nvm) (key : List ℕ) (wish : Wish) → cache.nvm ≡ nvm → must_wait_in nvm key ≡ true → Waited cache key wish (wait_in nvm key wish cache)
waited cache None key wish e h = absurd cc
waited cache (Some nvm) key wish e h = record {
  calls = refl;
  memory = refl;
  fills = ap (λ o. joined_by key (record { call = cache.calls; wish = wish }) (fills_of o)) (sym e);
  jobs = ap jobs_in (sym e);
}
