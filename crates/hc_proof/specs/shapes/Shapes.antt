-- The shape of what a step tells: which regions it tells flushed, and with which note it ends.
use Rattle.std.specs.Prelude.{◌≡◌, ℕ, Bool, true, false, List, [], ◌∷◌, Option, None}
use Rattle.hc_history.specs.Note.{Note, Unqueued, Opened, Flushed}
use Rattle.hc_engines.specs.Engine.{Next, Busy, Io, Done}
use Rattle.hc_machine.specs.Nvm.{Nvm, Fill, fill_at}
use Rattle.hc_machine.specs.Leaving.{Changed}
use Rattle.hc_machine.specs.Cache.{Cache, Told, Moved}
use Rattle.hc_invariant.specs.Good.{fills_of, OneFlush, Rested}
use Rattle.hc_types.specs.Config.{Config}
use Rattle.hc_history.specs.Lawful.{past}

-- the regions that are told flushed
abbrev pub flushed_in : List Note → List ℕ
flushed_in [] = []
flushed_in (Flushed region ∷ notes) = region ∷ flushed_in notes
flushed_in (note ∷ notes) = flushed_in notes

-- the notes end with one that tells of no large put; where there are none, it is as it was
abbrev pub rests : Note → Bool
rests (Unqueued key) = false
rests (Opened region) = false
rests note = true

abbrev pub rests_from : Bool → List Note → Bool
rests_from was [] = was
rests_from was (note ∷ notes) = rests_from (rests note) notes

-- no key has a fill that had none
abbrev pub Fewer : List Fill → List Fill → Type 0
Fewer old new = (key : List ℕ) → fill_at key old ≡ None → fill_at key new ≡ None

pub record ShapedChange (nvm : Nvm) (change : Changed) : Type 0 where
  pub unflushed : flushed_in change.part ≡ []
  pub fills : change.nvm.fills ≡ nvm.fills

pub record ShapedPart (cache : Cache) (told : Told) : Type 0 where
  pub unflushed : flushed_in told.part ≡ []
  pub fewer : Fewer (fills_of cache.nvm) (fills_of told.cache.nvm)

-- a whole step
pub record ShapedStep (cache : Cache) (moved : Moved) : Type 0 where
  pub unflushed : flushed_in moved.part ≡ []
  pub ends : rests_from true moved.part ≡ true
  pub fewer : moved.part ≡ [] → Fewer (fills_of cache.nvm) (fills_of moved.cache.nvm)

-- the region that an operation's next step tells flushed
abbrev pub flushed_by : Next → Option ℕ
flushed_by Busy = None
flushed_by (Io order outcome) = outcome.flushed
flushed_by (Done outcome) = outcome.flushed

-- ---- what that keeps of the invariant

-- what a step's part and its new cache leave of two clauses of `Good`
pub record KeepsMore (config : Config) (older : List Note) (before : Cache) (moved : Moved) : Type 0 where
  pub once : OneFlush older → OneFlush (past older moved.part)
  pub rested : Rested config.flash older before.nvm → Rested config.flash (past older moved.part) moved.cache.nvm
