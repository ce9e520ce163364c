-- A cache that is closed and goes on, any number of times: each run begins with what the one before left.
use Rattle.std.specs.Prelude.{◌≡◌, List, [], ◌∷◌, ◌++◌, None}
use Rattle.hc_types.specs.Config.{Config}
use Rattle.hc_types.specs.Limits.{first_wrong}
use Rattle.hc_history.specs.Note.{Note}
use Rattle.hc_history.specs.Lawful.{Legal}
use Rattle.hc_history.specs.Honest.{Honest}
use Rattle.hc_machine.specs.Cache.{Cache, new_cache}
use Rattle.hc_machine.specs.Call.{CacheCall, Acted, acts}
use Rattle.hc_theorem.specs.runs.Honesty.{AllCallSized}

-- from where a cache is opened to where it is closed: what it begins with, and the calls of its clients and workers
pub record Run : Type 0 where
  pub begins : Cache
  pub calls : List CacheCall

-- what it leaves, and what it tells
abbrev pub made : Run → Acted
made run = acts run.calls run.begins

-- the first begins with this cache, and each other with what the one before left
abbrev pub GoOn : Cache → List Run → Type 0
GoOn cache [] = Unit {0}
GoOn cache (run ∷ runs) = (run.begins ≡ cache) × GoOn (made run).cache runs

-- what all of them tell, one behind the other
abbrev pub told : List Run → List Note
told [] = []
told (run ∷ runs) = (made run).log ++ told runs

abbrev pub calls_of : List Run → List CacheCall
calls_of [] = []
calls_of (run ∷ runs) = run.calls ++ calls_of runs

abbrev pub RunsAreOne : Type 0
RunsAreOne = (cache : Cache) (runs : List Run) → GoOn cache runs → told runs ≡ (acts (calls_of runs) cache).log

abbrev pub RunsAreLegal : Type 0
RunsAreLegal = (config : Config) (runs : List Run) → first_wrong config ≡ None → GoOn (new_cache config) runs → AllCallSized (calls_of runs) → Honest (told runs) → Legal config (told runs)
