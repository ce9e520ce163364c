-- What a lock round a cache and its log keeps, with no word of the device: where the log is honest, it is legal, and the
-- invariant holds of the cache after it. Each call of the cache keeps that, whatever is handed in.
use Rattle.std.specs.Prelude.{List, [], ◌++◌}
use Rattle.hc_types.specs.Config.{Config}
use Rattle.hc_history.specs.Note.{Note}
use Rattle.hc_history.specs.Lawful.{Legal, past}
use Rattle.hc_history.specs.Honest.{Honest}
use Rattle.hc_machine.specs.Cache.{Cache, new_cache}
use Rattle.hc_invariant.specs.Good.{Good, CanRun}
use Rattle.hc_machine.specs.Call.{CacheCall, act}
use Rattle.hc_theorem.specs.runs.Honesty.{CallSized}

pub record Stands (config : Config) (log : List Note) (cache : Cache) : Type 0 where
  pub legal : Legal config log
  pub good : Good config (past [] log) cache

abbrev pub Guarded : Config → List Note → Cache → Type 0
Guarded config log cache = Honest log → Stands config log cache

-- a new cache, and each call
abbrev pub NewIsGuarded : Type 0
NewIsGuarded = (config : Config) → CanRun config → Guarded config [] (new_cache config)

abbrev pub CallsStayGuarded : Type 0
CallsStayGuarded = (config : Config) (log : List Note) (cache : Cache) (call : CacheCall) → CallSized call → Guarded config log cache → Guarded config (log ++ (act call cache).part) (act call cache).cache
