-- What clients and fills do leaves each tombstone where it is.
use Rattle.std.proofs.Common.{◌≡◌, ℕ, ◌+◌, Bool, true, false, ◌||◌, List, [], ◌∷◌, length, Option, Some, None, refl, ap, sym, ◌∙◌}
use Rattle.std.specs.Prelude.{if◌then◌else◌, is_some}
use Rattle.std.proofs.lemmas.List.Folds.{list_any-append}
use Rattle.hc_types.specs.Charge.{charge_of}
use Rattle.hc_types.specs.declared.refusal.Refusal.{Refusal}
use Rattle.hc_types.specs.declared.refusal.Refusal.TheVariants.{ForeignHandle, Exists}
use Rattle.hc_types.specs.FlashEntry.{FlashEntry}
use Rattle.hc_memory.specs.Item.{Item, Handle}
use Rattle.hc_memory.specs.Memory.{victims_of, after_room}
use Rattle.hc_machine.specs.items.Allocating.{refusal_of}
use Rattle.hc_engines.specs.pair.Pair.{is_indexed}
use Rattle.hc_history.specs.Note.{Insert, Add, Reply, Stored}
use Rattle.hc_machine.specs.Nvm.{Nvm, Wish, ToFind, ToAdd, Waiter, Fill, is_stone_of, is_buried, is_due, put_at, fill_at, without_fill}
use Rattle.hc_machine.specs.Leaving.{Changed, cause_for, waits_unless, unqueue, bury, unindex, outdate}
use Rattle.hc_machine.specs.Takes.{Filled}
use Rattle.hc_machine.specs.Cache.{Owed, Cache, Moved, Refused, Discarded, Replied, Waits, tells, and_then, answers, stays, with_nvm, with_memory, on_flash_of, on_flash, owed_at}
use Rattle.hc_machine.specs.Evicting.{entry_of_item, leaves_for, leaves, all_leave, make_charge, handle_for, allocate_by, allocate}
use Rattle.hc_machine.specs.Waiting.{clear, uproot, plant, entry_of_handle, live, find_reply, free, serve, there_after, serve_all, serve_fill, end_fill_of, end_fill}
use Rattle.hc_machine.specs.Calls.{begin, wait_in, wait_for, is_known, discard, store, insert_or_replace, must_wait, in_memory, add, insert, used, find_now, find_by, find, remove, take_of, take_reply, buried_at}
use Rattle.hc_machine.specs.Workers.{can_link, link_clean, bring, fill}
use Rattle.hc_laws.specs.Tombstones.{Stays}

module _ (key : List ℕ) where
  -- ---- flash

  abbrev StaysOn : Nvm → Nvm → Type 0
  StaysOn before after = is_buried before key ≡ true → is_buried after key ≡ true

  on_if : (t : Bool) (nvm : Nvm) (one two : Changed) → StaysOn nvm one.nvm → StaysOn nvm two.nvm → StaysOn nvm (if t then one else two).nvm
  on_if true nvm one two p q = p
  on_if false nvm one two p q = q

  stays_or : (a b : Bool) → a ≡ true → (a || b) ≡ true
  stays_or true b h = refl
  stays_or false b h = absurd cc

  unqueue_on : (k : List ℕ) (nvm : Nvm) → StaysOn nvm (unqueue k nvm).nvm
  unqueue_on k nvm = on_if (is_some (put_at k nvm.queue)) nvm _ _ (λ h. h) (λ h. h)

  bury_on : (k : List ℕ) (nvm : Nvm) → StaysOn nvm (bury k nvm).nvm
  bury_on k nvm = on_if (is_due nvm k) nvm _ _ (λ h. list_any-append (is_stone_of key) nvm.tombstones (record { key = k; taken = false } ∷ []) ∙ stays_or (is_buried nvm key) _ h) (λ h. h)

  unindex_on : (k : List ℕ) (nvm : Nvm) → StaysOn nvm (unindex k nvm).nvm
  unindex_on k nvm = on_if (is_indexed nvm.pair k) nvm _ _ (λ h. h) (λ h. h)

  outdate_on : (k : List ℕ) (nvm : Nvm) → StaysOn nvm (outdate k nvm).nvm
  outdate_on k nvm h = unindex_on k (bury k nvm).nvm (bury_on k nvm h)

  -- ---- the cache

  flash_stays : (f : Nvm → Changed) → ((nvm : Nvm) → StaysOn nvm (f nvm).nvm) → (cache : Cache) → Stays key cache (on_flash f cache).cache
  flash_stays f q cache = go cache.nvm refl
    where
      go : (o : Option Nvm) → cache.nvm ≡ o → Stays key cache (on_flash_of o f cache).cache
      go None e h = h
      go (Some nvm) e h = q nvm (sym (ap (λ o. buried_at o key) e) ∙ h)

  leave_stays : (pool want : ℕ) (item : Item) (cache : Cache) → Stays key cache (leaves pool want item cache).cache
  leave_stays pool want item cache = go item.clean cache.nvm refl
    where
      waits : (o : _) (entry : FlashEntry) (nvm : Nvm) → StaysOn nvm (waits_unless o entry nvm).nvm
      waits None entry nvm h = h
      waits (Some cause) entry nvm h = h

      go : (t : Bool) (o : Option Nvm) → cache.nvm ≡ o → Stays key cache (if t then tells [] cache else leaves_for o pool want item cache).cache
      go true o e h = h
      go false None e h = h
      go false (Some nvm) e h = waits (cause_for cache.now pool want (entry_of_item item) nvm) (entry_of_item item) nvm (sym (ap (λ o. buried_at o key) e) ∙ h)

  all_stay : (pool want : ℕ) (items : List Item) (cache : Cache) → Stays key cache (all_leave pool want items cache).cache
  all_stay pool want [] cache h = h
  all_stay pool want (item ∷ items) cache h = all_stay pool want items (leaves pool want item cache).cache (leave_stays pool want item cache h)

  charge_stays : (pool : ℕ) (k : List ℕ) (size : ℕ) (cache : Cache) → Stays key cache (make_charge pool k size cache).cache
  charge_stays pool k size cache h = all_stay pool (charge_of k size) (victims_of cache.memory pool (charge_of k size)) (with_memory (after_room cache.memory pool (charge_of k size)) cache) h

  clear_stays : (k : List ℕ) (cache : Cache) → Stays key cache (clear k cache).cache
  clear_stays k cache h = flash_stays (outdate k) (outdate_on k) (on_flash (unqueue k) cache).cache (flash_stays (unqueue k) (unqueue_on k) cache h)

  serve_stays : (call : ℕ) (wish : Wish) (there : Option FlashEntry) (cache : Cache) → Stays key cache (serve call wish there cache).cache
  serve_stays call ToFind there cache h = h
  serve_stays call (ToAdd handle) (Some entry) cache h = h
  serve_stays call (ToAdd handle) None cache h = clear_stays handle.key cache h

  all_served : (waiters : List Waiter) (there : Option FlashEntry) (cache : Cache) → Stays key cache (serve_all waiters there cache).cache
  all_served [] there cache h = h
  all_served (waiter ∷ waiters) there cache h = all_served waiters (there_after waiter.wish (live cache.now there)) (serve waiter.call waiter.wish (live cache.now there) cache).cache (serve_stays waiter.call waiter.wish (live cache.now there) cache h)

  end_stays : (k : List ℕ) (there : Option FlashEntry) (cache : Cache) → Stays key cache (end_fill k there cache).cache
  end_stays k there cache = go cache.nvm refl
    where
      by : (o : Option Fill) (nvm : Nvm) → cache.nvm ≡ Some nvm → Stays key cache (serve_fill o nvm there cache).cache
      by None nvm e h = h
      by (Some one) nvm e h = all_served one.waiters there (with_nvm (record nvm { fills = without_fill one.key nvm.fills }) cache) (sym (ap (λ o. buried_at o key) e) ∙ h)

      go : (o : Option Nvm) → cache.nvm ≡ o → Stays key cache (end_fill_of o k there cache).cache
      go None e h = h
      go (Some nvm) e h = by (fill_at k nvm.fills) nvm e h

  -- ---- fills

  bring_stays : (o : Option FlashEntry) (cache : Cache) → Stays key cache (bring o cache).cache
  bring_stays None cache h = h
  bring_stays (Some entry) cache h = go (can_link cache entry) h
    where
      go : (t : Bool) → Stays key cache (if t then and_then (make_charge entry.pool entry.key (length entry.value) cache) (link_clean (handle_for cache entry.pool entry.key entry.value entry.expiry)) else tells [] cache).cache
      go true h = charge_stays entry.pool entry.key (length entry.value) cache h
      go false h = h

  pub fill_stays : (o : Option Filled) (cache : Cache) → Stays key cache (fill o cache).cache
  fill_stays None cache h = h
  fill_stays (Some filled) cache h = all_served filled.waiters filled.entry (bring filled.entry cache).cache (bring_stays filled.entry cache h)

  -- ---- calls

  moved_if : (cache : Cache) (t : Bool) (one two : Moved) → Stays key cache one.cache → Stays key cache two.cache → Stays key cache (if t then one else two).cache
  moved_if cache true one two p q = p
  moved_if cache false one two p q = q

  pub allocate_stays : (pool : ℕ) (k value : List ℕ) (ttl : ℕ) (cache : Cache) → Stays key cache (allocate pool k value ttl cache).cache
  allocate_stays pool k value ttl cache = go (refusal_of cache.memory pool k (length value))
    where
      go : (o : Option Refusal) → Stays key cache (allocate_by o pool k value ttl cache).cache
      go None h = charge_stays pool k (length value) cache h
      go (Some refusal) h = h

  pub discard_stays : (handle : Handle) (cache : Cache) → Stays key cache (discard handle cache).cache
  discard_stays handle cache = moved_if cache (is_known cache handle) (answers Discarded (free handle.number cache)) (stays (Refused ForeignHandle) cache) (λ h. h) (λ h. h)

  store_stays : (handle : Handle) (cache : Cache) → Stays key cache (store handle cache).cache
  store_stays handle cache h = end_stays handle.key (Some (entry_of_handle handle)) (plant handle cache).cache (clear_stays handle.key cache h)

  wait_stays : (k : List ℕ) (wish : Wish) (cache : Cache) → Stays key cache (wait_for k wish cache).cache
  wait_stays k wish cache = go cache.nvm refl
    where
      go : (o : Option Nvm) → cache.nvm ≡ o → Stays key cache (wait_in o k wish cache)
      go None e h = h
      go (Some nvm) e h = sym (ap (λ o. buried_at o key) e) ∙ h

  pub replace_stays : (client : ℕ) (handle : Handle) (cache : Cache) → Stays key cache (insert_or_replace client handle cache).cache
  replace_stays client handle cache = moved_if cache (is_known cache handle) (answers (Replied Stored) (and_then (begin client (Insert handle.key handle.value handle.expiry) cache) (store handle))) (stays (Refused ForeignHandle) cache)
      (store_stays handle (record cache { calls = cache.calls + 1 })) (λ h. h)

  add_stays : (client : ℕ) (handle : Handle) (cache : Cache) → Stays key cache (add client handle cache).cache
  add_stays client handle cache = moved_if cache (must_wait cache handle.key) (answers (Waits (cache.calls + 1)) (and_then (begin client (Add handle.key handle.value handle.expiry) cache) (wait_for handle.key (ToAdd handle))))
      (answers (Replied Stored) (and_then (begin client (Add handle.key handle.value handle.expiry) cache) (store handle)))
      (wait_stays handle.key (ToAdd handle) (record cache { calls = cache.calls + 1 })) (store_stays handle (record cache { calls = cache.calls + 1 }))

  pub insert_stays : (client : ℕ) (handle : Handle) (cache : Cache) → Stays key cache (insert client handle cache).cache
  insert_stays client handle cache = moved_if cache (is_some (live cache.now (in_memory cache handle.key))) (stays (Refused Exists) cache) (if is_known cache handle then add client handle cache else stays (Refused ForeignHandle) cache) (λ h. h)
      (moved_if cache (is_known cache handle) (add client handle cache) (stays (Refused ForeignHandle) cache) (add_stays client handle cache) (λ h. h))

  pub find_stays : (client : ℕ) (k : List ℕ) (cache : Cache) → Stays key cache (find client k cache).cache
  find_stays client k cache = go (record cache { calls = cache.calls + 1 })
    where
      go : (c : Cache) → Stays key c (find_by k c).cache
      go c = moved_if c (must_wait c k) (answers (Waits c.calls) (wait_for k ToFind c)) (find_now (find_reply (live c.now (in_memory c k))) (used k c)) (wait_stays k ToFind c) (λ h. h)

  pub remove_stays : (client : ℕ) (k : List ℕ) (cache : Cache) → Stays key cache (remove client k cache).cache
  remove_stays client k cache h = end_stays k None (uproot k (record cache { calls = cache.calls + 1 })).cache (clear_stays k (record cache { calls = cache.calls + 1 }) h)

  pub reply_stays : (call : ℕ) (cache : Cache) → Stays key cache (take_reply call cache).cache
  reply_stays call cache = go (owed_at call cache.owed)
    where
      by : (c : ℕ) (reply : Option Reply) → Stays key cache (take_of (Some (record { call = c; reply = reply })) cache).cache
      by c None h = h
      by c (Some reply) h = h

      go : (o : Option Owed) → Stays key cache (take_of o cache).cache
      go None h = h
      go (Some owed) h = by owed.call owed.reply h
