-- The cache by itself, with any device behind it: its calls in any order, and results of any kind. Where what it told is
-- honest, it is legal.
use Rattle.std.specs.Prelude.{ℕ, List, [], ◌∷◌}
use Rattle.hc_types.specs.Config.{Config}
use Rattle.hc_engines.specs.Engine.{IoResult}
use Rattle.hc_history.specs.Note.{Note}
use Rattle.hc_history.specs.Lawful.{Legal}
use Rattle.hc_history.specs.Honest.{Honest, HonestAfter}
use Rattle.hc_machine.specs.Cache.{Cache, new_cache}
use Rattle.hc_machine.specs.Call.{CacheCall, Allocates, Inserts, Adds, acts}
use Rattle.hc_machine.specs.Workers as workers
use Rattle.hc_invariant.specs.Good.{Good, IsSized, CanRun}
use Rattle.hc_invariant.specs.Laws.{KeptBy}

-- whatever result is handed in: the step keeps all, if what it tells is honest
abbrev pub FinishIfHonest : Type 0
FinishIfHonest = (config : Config) (older : List Note) (cache : Cache) (number : ℕ) (result : IoResult) → Good config older cache
    → HonestAfter older (workers.finish number result cache).part → KeptBy Good config older (workers.finish number result cache)

-- keys and values are within their limits
abbrev pub CallSized : CacheCall → Type 0
CallSized (Allocates pool key value ttl) = IsSized key [] 0
CallSized (Inserts client handle) = IsSized handle.key handle.value handle.expiry
CallSized (Adds client handle) = IsSized handle.key handle.value handle.expiry
CallSized call = Unit {0}

abbrev pub AllCallSized : List CacheCall → Type 0
AllCallSized [] = Unit {0}
AllCallSized (call ∷ calls) = CallSized call × AllCallSized calls

-- what a cache told of any calls is legal, if it is honest
abbrev pub HonestIsLegal : Type 0
HonestIsLegal = (config : Config) (calls : List CacheCall) → CanRun config → AllCallSized calls → Honest (acts calls (new_cache config)).log → Legal config (acts calls (new_cache config)).log
