-- Calls that wait are served: what is asked before, and what holds after.
use Rattle.std.specs.Prelude.{◌≡◌, ℕ, ◌≤◌, Bool, not, List, ◌∷◌, ◌++◌, length, Option, None, option_map, is_some}
use Rattle.hc_types.specs.Config.{Config}
use Rattle.hc_types.specs.Tally.{count}
use Rattle.hc_types.specs.FlashEntry.{FlashEntry}
use Rattle.hc_memory.specs.Item.{Item}
use Rattle.hc_machine.specs.items.Items.{items_of}
use Rattle.hc_history.specs.Note.{Note}
use Rattle.hc_history.specs.Books.{value_at, entry_at}
use Rattle.hc_history.specs.Lawful.{past}
use Rattle.hc_machine.specs.Nvm.{Waiter, Fill, fill_at, adds}
use Rattle.hc_machine.specs.Cache.{Cache, Owed, Told}
use Rattle.hc_machine.specs.Waiting.{live, serve_all, end_fill}
use Rattle.hc_machine.specs.Calls.{waiting_at}
use Rattle.hc_invariant.specs.Standing.{PlacedAt, map_of}
use Rattle.hc_invariant.specs.Tells.{CallsTell, waiters_of}
use Rattle.hc_invariant.specs.Jobs.{AllWish}
use Rattle.hc_invariant.specs.Good.{AllSized, fills_of}
use Rattle.hc_invariant.specs.Laws.{LawfulIn}
use Rattle.hc_proof.specs.frames.Midst.{none_moves, only}
use Rattle.hc_proof.specs.frames.Rest.{Rest}
use Rattle.hc_proof.specs.calls.Planting.{RestsFrom}

-- these calls of the key are still to be served; their fill has left nvm.fills
abbrev pub ghost : List ℕ → List Waiter → Fill
ghost key waiters = record { key = key; waiters = waiters; job = None }

-- what a find of the key would be answered now is what the map answers
abbrev pub IsThere : Config → List Note → Cache → List ℕ → Option FlashEntry → Type 0
IsThere config older cache key there = option_map (λ (e : FlashEntry). e.value) (live cache.now there) ≡ value_at config.flash older key

abbrev pub is_unsaid : Owed → Bool
is_unsaid owed = not (is_some owed.reply)

-- Before calls are served that wait for the key. `more` is what is owed beside the cache's own: nothing in a worker's step; in
-- an insert, add or remove, behind its Did, its own reply, which its End hands out: record { call = cache.calls; reply = Some .. } ∷ [].
pub record Serving (config : Config) (older : List Note) (cache : Cache) (key : List ℕ) (waiters : List Waiter) (more : List Owed) : Type 0 where
  pub rest : Rest config older cache (items_of cache.memory.pools) none_moves
  pub calls : CallsTell older cache.calls (cache.owed ++ more) (ghost key waiters ∷ fills_of cache.nvm)
  pub answered : count is_unsaid more ≡ 0
  -- what is asked of a fill's calls, which stand in no fill of the cache any longer
  pub wishes : AllWish cache.memory key waiters
  pub sized : AllSized (length cache.memory.pools) waiters
  pub one_add : (n : ℕ) → count (adds n) (waiters ++ waiters_of (fills_of cache.nvm)) ≤ 1
  -- the key has no other fill, and no put that waits
  pub alone : fill_at key (fills_of cache.nvm) ≡ None
  pub unqueued : waiting_at cache.nvm key ≡ None
  -- nothing at a Did, an End, a Read or a Linked as the last note
  pub rested : RestsFrom config.flash older key

-- what holds after it
pub record Served (config : Config) (older : List Note) (more : List Owed) (cache : Cache) (told : Told) : Type 0 where
  pub lawful : (tail : List Note) → LawfulIn config older told.part tail
  pub rest : Rest config (past older told.part) told.cache (items_of told.cache.memory.pools) none_moves
  pub calls : CallsTell (past older told.part) told.cache.calls (told.cache.owed ++ more) (fills_of told.cache.nvm)
  pub number : told.cache.calls ≡ cache.calls

-- all of them are served
abbrev pub ServeAllKeeps : Type 0
ServeAllKeeps = (config : Config) (older : List Note) (cache : Cache) (key : List ℕ) (waiters : List Waiter) (there : Option FlashEntry) (more : List Owed)
    → Serving config older cache key waiters more → IsThere config older cache key there → Served config older more cache (serve_all waiters there cache)

-- Before the key's fill, if it has one, is ended, behind the Did of an insert, an add or a remove of the key.
pub record Ending (config : Config) (older : List Note) (cache : Cache) (key : List ℕ) (more : List Owed) : Type 0 where
  pub rest : Rest config older cache (items_of cache.memory.pools) (only key)
  pub placed : PlacedAt config.flash older cache key
  pub calls : CallsTell older cache.calls (cache.owed ++ more) (fills_of cache.nvm)
  pub answered : count is_unsaid more ≡ 0
  pub unqueued : waiting_at cache.nvm key ≡ None
  -- nothing at a Did, an End, a Read or a Linked as the last note
  pub rested : RestsFrom config.flash older key

abbrev pub EndFillKeeps : Type 0
EndFillKeeps = (config : Config) (older : List Note) (cache : Cache) (key : List ℕ) (there : Option FlashEntry) (more : List Owed)
    → Ending config older cache key more → IsThere config older cache key there → Served config older more cache (end_fill key there cache)

-- the premise on what the key has, where the map has just that
abbrev pub ThereByMap : Type 0
ThereByMap = (config : Config) (older : List Note) (cache : Cache) (key : List ℕ) (there : Option FlashEntry) (items : List Item) (moves : List ℕ → Bool)
    → Rest config older cache items moves → entry_at config.flash older key ≡ option_map map_of there → IsThere config older cache key there
