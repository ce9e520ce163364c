-- Items leave their pool.
use Rattle.std.specs.Prelude.{◌≡◌, ℕ, true, List, [], ◌∷◌, ◌++◌, map, None, is_some}
use Rattle.hc_memory.specs.Item.{Item}
use Rattle.hc_history.specs.Note.{Freed, Queued}
use Rattle.hc_history.specs.Told.{Heard, where_kept}
use Rattle.hc_machine.specs.Nvm.{put_at}
use Rattle.hc_machine.specs.Cache.{Cache, Told, tells, and_then}
use Rattle.hc_machine.specs.Evicting.{leaves, all_leave}
use Rattle.hc_machine.specs.Calls.{queue_of}
use Rattle.hc_state.specs.Whole.{Whole}
use Rattle.hc_state.specs.declared.allocate.evict.Leave.{Leave}

-- what an item of this key needs to leave for flash
abbrev pub leave_of : {A : Type 0} → Heard → List ℕ → Leave A
leave_of heard key = record { copy = key; note = where_kept heard (Queued key) }

-- what the items of these keys need, where there is flash
abbrev pub AreFor : {A : Type 0} → Whole → List (List ℕ) → List (Leave A) → Type 0
AreFor whole keys leaves = is_some whole.cache.nvm ≡ true → leaves ≡ map (leave_of whole.log) keys

abbrev pub keys_of : List Item → List (List ℕ)
keys_of items = map (λ (item : Item). item.key) items

-- as the items leave one by one, no key of one waits for flash already
abbrev pub NoneWaits : ℕ → ℕ → List Item → Cache → Type 0
NoneWaits pool want items cache = (gone left : List Item) (item : Item) → items ≡ gone ++ item ∷ left → put_at item.key (queue_of (all_leave pool want gone cache).cache.nvm) ≡ None

-- an item's charge is free, and it leaves
abbrev pub one_leaves : ℕ → ℕ → Item → Cache → Told
one_leaves pool want item cache = and_then (tells (Freed item.number ∷ []) cache) (leaves pool want item)
