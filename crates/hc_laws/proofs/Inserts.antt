-- An insert finds a value, waits for one, or stores.
use Rattle.std.proofs.Common.{◌≡◌, ℕ, ◌+◌, Bool, true, false, not, ◌&&◌, List, [], Option, Some, None, refl, ap, ◌∙◌}
use Rattle.std.specs.Prelude.{if◌then◌else◌, is_some}
use Rattle.std.specs.Option.{option_map_or}
use Rattle.hc_types.specs.declared.refusal.Refusal.TheVariants.{ForeignHandle, Exists}
use Rattle.hc_types.specs.FlashEntry.{FlashEntry}
use Rattle.hc_memory.specs.Item.{Item, Handle}
use Rattle.hc_memory.specs.Memory.{linked_at}
use Rattle.hc_history.specs.Note.{Insert, Add, Stored}
use Rattle.hc_machine.specs.Nvm.{Nvm, ToAdd, put_at, is_buried, may_come}
use Rattle.hc_machine.specs.Leaving.{is_over}
use Rattle.hc_machine.specs.Cache.{Cache, Moved, Refused, Replied, Waits, Told, tells, and_then, answers, stays}
use Rattle.hc_machine.specs.Evicting.{entry_of_item}
use Rattle.hc_machine.specs.Waiting.{live}
use Rattle.hc_machine.specs.Calls.{begin, wait_in, is_known, store, insert_or_replace, waiting_at, in_memory, must_wait_in, must_wait, insert}
use Rattle.hc_laws.specs.Finding.{FlashAlone}
use Rattle.hc_laws.specs.Inserting.{has_put, has_value, MayCome, InsertCase, InsertIsDue}

-- ---- an unexpired value in memory

live_if : (entry : FlashEntry) (t : Bool) → is_some (if t then None else Some entry) ≡ not t
live_if entry true = refl
live_if entry false = refl

live_put : (key : List ℕ) (now : ℕ) (nvm : Option Nvm) → is_some (live now (waiting_at nvm key)) ≡ has_put key nvm now
live_put key now None = refl
live_put key now (Some nvm) = by (put_at key nvm.queue)
  where
    by : (o : Option FlashEntry) → is_some (live now o) ≡ option_map_or (λ put. not (is_over now put)) o false
    by None = refl
    by (Some put) = live_if put (is_over now put)

pub live_is : (key : List ℕ) (cache : Cache) → is_some (live cache.now (in_memory cache key)) ≡ has_value key cache
live_is key cache = by (linked_at key cache.memory.pools)
  where
    by : (o : Option Item) → is_some (live cache.now (option_map_or (λ item. Some (entry_of_item item)) o (waiting_at cache.nvm key))) ≡ option_map_or (λ item. not (is_over cache.now (entry_of_item item))) o (has_put key cache.nvm cache.now)
    by None = live_put key cache.now cache.nvm
    by (Some item) = live_if (entry_of_item item) (is_over cache.now (entry_of_item item))

-- ---- whether it waits

module _ (key : List ℕ) (cache : Cache) where
  abbrev there : Option Item → Option Nvm → Option FlashEntry
  there item nvm = option_map_or (λ item. Some (entry_of_item item)) item (waiting_at nvm key)

  alone_there : (nvm : Nvm) → FlashAlone key cache nvm → in_memory cache key ≡ None
  alone_there nvm a = (λ i. there (a.unlinked i) (a.flash i)) ∙ a.unqueued

  waits_so : (nvm : Nvm) → MayCome key cache nvm → must_wait cache key ≡ true
  waits_so nvm m = (λ i. not (is_some (alone_there nvm m.alone i)) && must_wait_in (m.alone.flash i) key) ∙ (λ i. not (m.unburied i) && m.comes i)

  none_live : (nvm : Nvm) → MayCome key cache nvm → is_some (live cache.now (in_memory cache key)) ≡ false
  none_live nvm m = ap (λ o. is_some (live cache.now o)) (alone_there nvm m.alone)

  module _ (none : (nvm : Nvm) → ¬ MayCome key cache nvm) where
    by_flash : (nvm : Nvm) (b c : Bool) → FlashAlone key cache nvm → is_buried nvm key ≡ b → may_come nvm key ≡ c → (not (is_buried nvm key) && may_come nvm key) ≡ false
    by_flash nvm true c a e f = λ i. not (e i) && may_come nvm key
    by_flash nvm false false a e f = λ i. not (e i) && f i
    by_flash nvm false true a e f = absurd (none nvm (record { alone = a; unburied = e; comes = f }))

    by_queue : (nvm : Nvm) (o : Option FlashEntry) → linked_at key cache.memory.pools ≡ None → cache.nvm ≡ Some nvm → put_at key nvm.queue ≡ o → (not (is_some (put_at key nvm.queue)) && must_wait_in (Some nvm) key) ≡ false
    by_queue nvm (Some put) h n q = ap (λ o. not (is_some o) && must_wait_in (Some nvm) key) q
    by_queue nvm None h n q = ap (λ o. not (is_some o) && must_wait_in (Some nvm) key) q ∙ by_flash nvm (is_buried nvm key) (may_come nvm key) (record { unlinked = h; flash = n; unqueued = q }) refl refl

    by_nvm : (nvm : Option Nvm) → linked_at key cache.memory.pools ≡ None → cache.nvm ≡ nvm → (not (is_some (waiting_at nvm key)) && must_wait_in nvm key) ≡ false
    by_nvm None h n = refl
    by_nvm (Some nvm) h n = by_queue nvm (put_at key nvm.queue) h n refl

    by_item : (o : Option Item) → linked_at key cache.memory.pools ≡ o → (not (is_some (there o cache.nvm)) && must_wait_in cache.nvm key) ≡ false
    by_item (Some item) h = refl
    by_item None h = by_nvm cache.nvm h refl

    stays_so : must_wait cache key ≡ false
    stays_so = by_item (linked_at key cache.memory.pools) refl

-- ---- an insert by what decides it

module _ (client : ℕ) (handle : Handle) (cache : Cache) where
  abbrev begun : Cache
  begun = record cache { calls = cache.calls + 1 }

  abbrev stored : Told
  stored = store handle begun

  abbrev waits_in : Option Nvm → Moved
  waits_in nvm = answers (Waits (cache.calls + 1)) (and_then (begin client (Add handle.key handle.value handle.expiry) cache) (λ c. tells [] (wait_in nvm handle.key (ToAdd handle) c)))

  abbrev stores_as_add : Moved
  stores_as_add = answers (Replied Stored) (and_then (begin client (Add handle.key handle.value handle.expiry) cache) (store handle))

  abbrev settled : Bool → Bool → Bool → Option Nvm → Moved
  settled lives known waits nvm = if lives then stays (Refused Exists) cache else (if known then (if waits then waits_in nvm else stores_as_add) else stays (Refused ForeignHandle) cache)

  insert_is : (lives known waits : Bool) (nvm : Option Nvm) → is_some (live cache.now (in_memory cache handle.key)) ≡ lives → is_known cache handle ≡ known → must_wait cache handle.key ≡ waits → cache.nvm ≡ nvm → insert client handle cache ≡ settled lives known waits nvm
  insert_is lives known waits nvm l k w n = λ i. settled (l i) (k i) (w i) (n i)

  replaced_is : is_known cache handle ≡ true → insert_or_replace client handle cache ≡ answers (Replied Stored) (and_then (begin client (Insert handle.key handle.value handle.expiry) cache) (store handle))
  replaced_is k = ap (λ b. if b then answers (Replied Stored) (and_then (begin client (Insert handle.key handle.value handle.expiry) cache) (store handle)) else stays (Refused ForeignHandle) cache) k

  case : InsertCase client handle cache
  case = record {
    exists = λ h. insert_is _ _ _ _ (live_is handle.key cache ∙ h) refl refl refl;
    foreign = λ h k. insert_is _ _ _ _ (live_is handle.key cache ∙ h) k refl refl;
    waits = λ nvm m k. insert_is _ _ _ _ (none_live handle.key cache nvm m) k (waits_so handle.key cache nvm m) m.alone.flash;
    stores = λ h k none. record { after = stored.cache; rest = stored.part; added = insert_is _ _ _ _ (live_is handle.key cache ∙ h) k (stays_so handle.key cache none) refl; replaced = replaced_is k };
  }

pub inserts : InsertIsDue
inserts = case
