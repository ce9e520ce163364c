-- A fill ends: what is asked before, and what holds after.
use Rattle.std.specs.Prelude.{◌≡◌, ℕ, ◌≤◌, List, ◌∷◌, ◌++◌, length, Option, Some, None}
use Rattle.hc_types.specs.Config.{Config}
use Rattle.hc_types.specs.Tally.{count}
use Rattle.hc_types.specs.FlashEntry.{FlashEntry}
use Rattle.hc_history.specs.Note.{Note}
use Rattle.hc_machine.specs.Nvm.{Waiter, adds}
use Rattle.hc_machine.specs.Cache.{Cache}
use Rattle.hc_machine.specs.Workers.{fill}
use Rattle.hc_machine.specs.Calls.{waiting_at}
use Rattle.hc_invariant.specs.Tells.{CallsTell, waiters_of}
use Rattle.hc_invariant.specs.Jobs.{AllWish}
use Rattle.hc_invariant.specs.Good.{AllSized, fills_of}
use Rattle.hc_invariant.specs.Laws.{Steady}
use Rattle.hc_proof.specs.evicting.Bringing.{IsBrought}
use Rattle.hc_proof.specs.calls.Planting.{RestsFrom}
use Rattle.hc_proof.specs.calls.Serving.{ghost}

-- Before: the fill has left nvm.fills, and these calls waited for it.
pub record Ends (config : Config) (older : List Note) (cache : Cache) (key : List ℕ) (found : Option FlashEntry) (waiters : List Waiter) : Type 0 where
  pub brought : IsBrought config older cache key found
  pub calls : CallsTell older cache.calls cache.owed (ghost key waiters ∷ fills_of cache.nvm)
  pub wishes : AllWish cache.memory key waiters
  pub sized : AllSized (length cache.memory.pools) waiters
  pub one_add : (n : ℕ) → count (adds n) (waiters ++ waiters_of (fills_of cache.nvm)) ≤ 1
  pub unqueued : waiting_at cache.nvm key ≡ None
  pub rested : RestsFrom config.flash older key

-- After: it is linked where it can be, the calls are served, and the cache is good.
abbrev pub FillEnds : Type 0
FillEnds = (config : Config) (older : List Note) (cache : Cache) (key : List ℕ) (found : Option FlashEntry) (waiters : List Waiter) → Ends config older cache key found waiters
    → Steady config older (fill (Some (record { entry = found; waiters = waiters })) cache).part (fill (Some (record { entry = found; waiters = waiters })) cache).cache
