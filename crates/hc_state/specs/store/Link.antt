-- The cache once an insert or a remove has linked what is to stay, before anything is told.
use Rattle.std.specs.Prelude.{ℕ, List, [], ◌∷◌, Option, option_map}
use Rattle.hc_memory.specs.Item.{Item, Handle}
use Rattle.hc_memory.specs.Memory.{Memory, linked_at, after_unlink, early}
use Rattle.hc_machine.specs.Cache.{Cache, with_memory}
use Rattle.hc_state.specs.store.Chosen.{all_stored_as}
use Rattle.hc_state.specs.wait.Commit.{waiters_at}
use Rattle.hc_state.specs.declared.wait.commit.Course.{Course}

-- the charge of the key's item
abbrev pub number_at : List ℕ → Memory → Option ℕ
number_at key memory = option_map (λ (item : Item). item.number) (linked_at key memory.pools)

-- the item of the handle is inserted, or of those that come in its place the last is linked, and the charges of the others end
abbrev pub linked_with : {A : Type 0} → Handle → List (Course A) → Cache → Cache
linked_with handle courses cache = with_memory (early (handle ∷ all_stored_as (waiters_at cache.nvm handle.key) courses) cache.memory) cache

-- where there are none, the key's item is taken out
abbrev pub removed_early : List ℕ → List Handle → Memory → Memory
removed_early key [] memory = after_unlink memory key
removed_early key (handle ∷ handles) memory = early (handle ∷ handles) memory

abbrev pub linked_without : {A : Type 0} → List ℕ → List (Course A) → Cache → Cache
linked_without key courses cache = with_memory (removed_early key (all_stored_as (waiters_at cache.nvm key) courses) cache.memory) cache
