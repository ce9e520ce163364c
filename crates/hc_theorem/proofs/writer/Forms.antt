-- The forms in which the takes are stated: a configuration with flash, and what a take that ends no fill comes to.
use Rattle.std.proofs.Common.{List, Some}
use Rattle.hc_history.specs.Note.{Note}
use Rattle.hc_machine.specs.Nvm.{Nvm}
use Rattle.hc_machine.specs.Cache.{Cache, unmarked_by}

-- the cache with this state of flash, once these notes took their marks
abbrev pub told_to : List Note → Nvm → Cache → Cache
told_to part nvm cache = record cache { memory = unmarked_by part cache.memory; nvm = Some nvm }
