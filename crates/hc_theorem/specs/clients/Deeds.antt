-- What is proved of each kind of step, and of every schedule: its run follows its steps.
use Rattle.std.specs.Prelude.{ℕ, Bool, List, ◌++◌, None}
use Rattle.hc_types.specs.Config.{Config}
use Rattle.hc_history.specs.Note.{Note}
use Rattle.hc_machine.specs.Schedule.{Deed, WriterTake, FillerTake, Reclaim, Io, Finish, Step, Scene, Done, does, run, ended}
use Rattle.hc_invariant.specs.Good.{CanRun}
use Rattle.hc_theorem.specs.runs.Scene.{SceneHolds}
use Rattle.hc_theorem.specs.runs.Schedule.{AllStepSized}
use Rattle.hc_follows.specs.Desk.{Desk}
use Rattle.hc_follows.specs.Follows.{PartOf, desk_after, Follows}
use Rattle.hc_theorem.specs.idle.Stones.{StonesOf}
use Rattle.hc_theorem.specs.idle.AccountsKept.{AccountsOf}
use Rattle.hc_theorem.specs.clients.Matches.{Matches}

-- the step's part and answer are those that its kind wants, and the desk matches the scene after it
pub record Followed (config : Config) (log : List Note) (desk : Desk) (client : ℕ) (deed : Deed) (done : Done) : Type 0 where
  pub part : PartOf config desk client deed done.told done.part
  pub matches : Matches (log ++ done.part) (desk_after deed done.told done.part desk) done.scene

-- for every desk and scene that match, where the invariant holds before the step and after it
abbrev pub DeedFollows : Deed → Type 0
DeedFollows deed = (config : Config) (log : List Note) (scene : Scene) (desk : Desk) (client : ℕ)
    → SceneHolds config log scene → SceneHolds config (log ++ (does client deed scene).part) (does client deed scene).scene
    → Matches log desk scene → Followed config log desk client deed (does client deed scene)

-- the writer's take: where besides each key whose tombstone is taken is being deleted, and the notes tell of each region in use
abbrev pub WriterFollows : Type 0
WriterFollows = (config : Config) (log : List Note) (scene : Scene) (desk : Desk) (client : ℕ)
    → SceneHolds config log scene → SceneHolds config (log ++ (does client WriterTake scene).part) (does client WriterTake scene).scene → StonesOf scene.world.cache.nvm → AccountsOf config.flash desk.older scene.world.cache.nvm
    → Matches log desk scene → Followed config log desk client WriterTake (does client WriterTake scene)

-- the workers' kinds
pub record WorkersFollow : Type 0 where
  pub writer : WriterFollows
  pub filler : DeedFollows FillerTake
  pub reclaim : DeedFollows Reclaim
  pub io : (job : ℕ) (fails : Bool) → DeedFollows (Io job fails)
  pub finish : (job : ℕ) → DeedFollows (Finish job)

-- every schedule's run follows its steps
abbrev pub SchedulesFollow : Type 0
SchedulesFollow = (config : Config) (breaks : List Bool) (steps : List Step) → CanRun config → AllStepSized steps → Follows config steps (run config breaks steps).answers (run config breaks steps).parts (ended (run config breaks steps)).part None
