-- When the workers have nothing to do.
use Rattle.std.specs.Prelude.{◌≡◌, ◌⊎◌, ◌+◌, nat_lt, false, List, Some, None}
use Rattle.hc_types.specs.Config.{Config}
use Rattle.hc_types.specs.Tally.{count}
use Rattle.hc_engines.specs.large.Steps.{flush, clean_count, oldest}
use Rattle.hc_history.specs.Note.{Note}
use Rattle.hc_machine.specs.Nvm.{Nvm}
use Rattle.hc_machine.specs.Takes as flash
use Rattle.hc_machine.specs.Takes.{Idle}
use Rattle.hc_machine.specs.Cache.{Cache}
use Rattle.hc_invariant.specs.Good.{Agrees}
use Rattle.hc_laws.specs.Serving.{can_put, can_delete, can_fill}

-- no region has a page to go; each delete was taken, or its bucket is busy; each put that waits is small, and its bucket is busy
pub record NothingToWrite (nvm : Nvm) : Type 0 where
  pub pages : (flush nvm.pair.small.flash (nvm.made + 1) nvm.pair.large).order ≡ None
  pub deletes : count (can_delete nvm) nvm.tombstones ≡ 0
  pub puts : count (can_put nvm) nvm.queue ≡ 0

-- the writer's take is idle only there
abbrev pub WriterIdles : Type 0
WriterIdles = (config : Config) (older : List Note) (cache : Cache) (nvm : Nvm) → Agrees config older cache → cache.nvm ≡ Some nvm → (flash.writer_take nvm).take ≡ Idle → NothingToWrite nvm

-- ---- the filler and the reclaimer

-- the filler's take is idle only where each fill has its job, or its bucket is busy
abbrev pub FillerIdles : Type 0
FillerIdles = (config : Config) (older : List Note) (cache : Cache) (nvm : Nvm) → Agrees config older cache → cache.nvm ≡ Some nvm → (flash.filler_take nvm).take ≡ Idle → count (can_fill nvm) nvm.fills ≡ 0

-- nothing is reclaimed only where enough regions are clean, or none is on flash that doesn't drain
abbrev pub ReclaimIdles : Type 0
ReclaimIdles = (nvm : Nvm) → (flash.reclaim nvm).region ≡ None → (nat_lt (clean_count nvm.pair.large.regions) nvm.pair.small.flash.clean ≡ false) ⊎ (oldest nvm.pair.large.regions nvm.pair.large.flushed ≡ None)
