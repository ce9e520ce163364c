-- That the lines of a trace are steps of a schedule.
use Rattle.std.specs.Prelude.{◌≡◌, List, [], ◌∷◌, ◌++◌, Option, Some, None}
use Rattle.hc_machine.specs.World as world
use Rattle.hc_machine.specs.World.{World, Line, Said, Stepped}
use Rattle.hc_machine.specs.Schedule as schedule
use Rattle.hc_machine.specs.Schedule.{Deed, Step, Scene, Ran, Told, Tells, Filled, run_from, all_of}

-- client 0 does it
abbrev pub by : Deed → Step
by deed = record { client = 0; deed = deed }

-- an item is allocated and written, and its handle is in the slot 0
abbrev pub line_steps : Line → List Step
line_steps (world.Set pool key value ttl) = by (schedule.Open 0 pool key value ttl) ∷ by (schedule.Put 0) ∷ []
line_steps (world.Add pool key value ttl) = by (schedule.Open 0 pool key value ttl) ∷ by (schedule.PutNew 0) ∷ by (schedule.Discard 0) ∷ []
line_steps (world.Get key) = by (schedule.Find key) ∷ []
line_steps (world.Del key) = by (schedule.Remove key) ∷ []
line_steps (world.At moment) = by (schedule.Tick moment) ∷ []
line_steps world.Writer = by schedule.WriterTake ∷ []
line_steps world.Filler = by schedule.FillerTake ∷ []
line_steps world.Reclaim = by schedule.Reclaim ∷ []
line_steps (world.Io job fails) = by (schedule.Io job fails) ∷ []
line_steps (world.Done job) = by (schedule.Finish job) ∷ []
line_steps (world.Reply call) = by (schedule.Reply call) ∷ []

abbrev pub steps_of : List Line → List Step
steps_of [] = []
steps_of (line ∷ lines) = line_steps line ++ steps_of lines

-- what a line is answered where its steps are answered so: the first refusal, or else what inserted the item
abbrev pub line_said : List Told → Option Said
line_said (Tells said ∷ later) = Some said
line_said (Filled ∷ Tells said ∷ later) = Some said
line_said told = None

-- no slot is filled
abbrev pub at_rest : World → Scene
at_rest w = record { world = w; slots = [] }

-- what ran comes to what one step does, tells what it tells, and is answered as it is; no slot is filled behind it
pub record Comes (ran : Ran) (stepped : Stepped) : Type 0 where
  pub scene : ran.scene ≡ at_rest stepped.world
  pub answered : line_said ran.answers ≡ Some stepped.said
  pub told : all_of ran.parts ≡ stepped.part

-- where no slot is filled, the steps of a line come to what the line does
abbrev pub LinesAreSteps : Type 0
LinesAreSteps = (w : World) (line : Line) → Comes (run_from (line_steps line) (at_rest w)) (world.step line w)
