-- What an insert does that leaves an unexpired value as it is.
use Rattle.std.specs.Prelude.{◌≡◌, ℕ, ◌+◌, Bool, true, false, not, List, [], ◌∷◌, Option, Some, None}
use Rattle.std.specs.Option.{option_map_or}
use Rattle.hc_types.specs.declared.refusal.Refusal.TheVariants.{ForeignHandle, Exists}
use Rattle.hc_memory.specs.Item.{Handle}
use Rattle.hc_memory.specs.Memory.{linked_at}
use Rattle.hc_history.specs.Note.{Note, Insert, Add, Stored, Begin}
use Rattle.hc_machine.specs.Nvm.{Nvm, ToAdd, put_at, joined_by, is_buried, may_come}
use Rattle.hc_machine.specs.Leaving.{is_over}
use Rattle.hc_machine.specs.Cache.{Cache, Moved, Refused, Replied, Waits, stays, owed_anew}
use Rattle.hc_machine.specs.Evicting.{entry_of_item}
use Rattle.hc_machine.specs.Calls.{is_known, insert_or_replace, insert}
use Rattle.hc_laws.specs.Finding.{FlashAlone}

-- the key's waiting put isn't expired
abbrev pub has_put : List ℕ → Option Nvm → ℕ → Bool
has_put key None now = false
has_put key (Some nvm) now = option_map_or (λ put. not (is_over now put)) (put_at key nvm.queue) false

-- the key has an unexpired value in memory: that of its item, or where it has none that of its waiting put
abbrev pub has_value : List ℕ → Cache → Bool
has_value key cache = option_map_or (λ item. not (is_over cache.now (entry_of_item item))) (linked_at key cache.memory.pools) (has_put key cache.nvm cache.now)

-- ---- what comes of it

-- the add waits, its reply is owed, and it waits behind the other calls of the key's fill, or begins one
abbrev pub adding : ℕ → Handle → Nvm → Cache → Moved
adding client handle nvm cache = record {
  cache = record cache { calls = cache.calls + 1; owed = owed_anew (cache.calls + 1) cache.owed; nvm = Some (record nvm { fills = joined_by handle.key (record { call = cache.calls + 1; wish = ToAdd handle }) nvm.fills }) };
  answer = Waits (cache.calls + 1);
  part = Begin (cache.calls + 1) client (Add handle.key handle.value handle.expiry) ∷ [];
}

-- it stores just as an insert that replaces does, and is told as an add
pub record StoresAlike (client : ℕ) (handle : Handle) (cache : Cache) : Type 0 where
  pub after : Cache
  pub rest : List Note
  pub added : insert client handle cache ≡ record { cache = after; answer = Replied Stored; part = Begin (cache.calls + 1) client (Add handle.key handle.value handle.expiry) ∷ rest }
  pub replaced : insert_or_replace client handle cache ≡ record { cache = after; answer = Replied Stored; part = Begin (cache.calls + 1) client (Insert handle.key handle.value handle.expiry) ∷ rest }

-- ---- the cases

-- the value may come from flash: nothing in memory has the key, it has no tombstone, and flash may have it
pub record MayCome (key : List ℕ) (cache : Cache) (nvm : Nvm) : Type 0 where
  pub alone : FlashAlone key cache nvm
  pub unburied : is_buried nvm key ≡ false
  pub comes : may_come nvm key ≡ true

pub record InsertCase (client : ℕ) (handle : Handle) (cache : Cache) : Type 0 where
  pub exists : has_value handle.key cache ≡ true → insert client handle cache ≡ stays (Refused Exists) cache
  pub foreign : has_value handle.key cache ≡ false → is_known cache handle ≡ false → insert client handle cache ≡ stays (Refused ForeignHandle) cache
  pub waits : (nvm : Nvm) → MayCome handle.key cache nvm → is_known cache handle ≡ true → insert client handle cache ≡ adding client handle nvm cache
  pub stores : has_value handle.key cache ≡ false → is_known cache handle ≡ true → ((nvm : Nvm) → ¬ MayCome handle.key cache nvm) → StoresAlike client handle cache

abbrev pub InsertIsDue : Type 0
InsertIsDue = (client : ℕ) (handle : Handle) (cache : Cache) → InsertCase client handle cache
