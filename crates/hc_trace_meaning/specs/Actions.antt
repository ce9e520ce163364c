-- What a line of a trace does to the cache over its device, and what it is answered.
use Rattle.std.specs.Prelude.{ℕ, Bool, true, false, List, [], Option, Some, None}
use Rattle.hc_types.specs.Limits.{key_refusal}
use Rattle.hc_types.specs.declared.refusal.Refusal.{Refusal}
use Rattle.hc_engines.specs.Engine as engine
use Rattle.hc_engines.specs.Engine.{IoResult}
use Rattle.hc_history.specs.Note as note
use Rattle.hc_history.specs.Note.{Note, Reply}
use Rattle.hc_trace_text.specs.Steps as lines
use Rattle.hc_trace_text.specs.Steps.{Step, Set, Add, Get, Del, Now, Work, Answer}
use Rattle.hc_machine.specs.Takes as takes
use Rattle.hc_machine.specs.Takes.{Take}
use Rattle.hc_machine.specs.Cache as machine
use Rattle.hc_machine.specs.World as world
use Rattle.hc_machine.specs.World.{World, Line, Said, Stepped, step}
use Rattle.hc_state.specs.Resting.{is_at_rest}

-- a line behind the configuration
pub data Action : Type 0 where
  Do : (step : Step) → Action
  Serve : (work : Work) → Action
  -- the cache is closed, and goes on with what was kept of it
  Restart : Action

-- ---- what it is to the machine

-- its step, unless it is refused for its key; a restart, which leaves the cache as it was, is none
pub data Deed : Type 0 where
  Acts : (line : Line) → Deed
  Barred : (refusal : Refusal) → Deed
  Rests : Deed

abbrev pub unless : Option Refusal → Line → Deed
unless None line = Acts line
unless (Some refusal) line = Barred refusal

abbrev pub step_deed : Step → Deed
step_deed (Set item) = unless (key_refusal item.key) (world.Set item.pool item.key item.value item.ttl)
step_deed (Add item) = unless (key_refusal item.key) (world.Add item.pool item.key item.value item.ttl)
step_deed (Get key) = unless (key_refusal key) (world.Get key)
step_deed (Del key) = unless (key_refusal key) (world.Del key)
step_deed (Now moment) = Acts (world.At moment)

abbrev pub work_line : Work → Line
work_line lines.Writer = world.Writer
work_line lines.Filler = world.Filler
work_line lines.Reclaim = world.Reclaim
work_line (lines.Io job fails) = world.Io job fails
work_line (lines.Finish job) = world.Done job
work_line (lines.Reply call) = world.Reply call

abbrev pub deed_of : Action → Deed
deed_of (Do step) = step_deed step
deed_of (Serve work) = Acts (work_line work)
deed_of Restart = Rests

-- ---- what it is answered

abbrev pub reply_answer : Reply → Answer
reply_answer note.Stored = lines.Stored
reply_answer note.Exists = lines.Exists
reply_answer (note.Hit value) = lines.Hit value
reply_answer note.Miss = lines.Miss
reply_answer note.FoundInMemory = lines.Found
reply_answer note.NotInMemory = lines.Absent

abbrev pub take_answer : Take → Answer
take_answer takes.Idle = lines.Idle
take_answer takes.Finished = lines.Finished
take_answer (takes.Work job (engine.Read page)) = lines.Reads job page
take_answer (takes.Work job (engine.Write page bytes)) = lines.Writes job page

abbrev pub reclaim_answer : Option ℕ → Answer
reclaim_answer None = lines.Idle
reclaim_answer (Some region) = lines.Reclaimed region

abbrev pub io_answer : IoResult → Answer
io_answer (engine.Page bytes) = lines.Made
io_answer engine.Written = lines.Made
io_answer engine.Failed = lines.Failed

-- no line is answered by a handle
abbrev pub answer_of : machine.Answer → Option Answer
answer_of (machine.Refused refusal) = Some (lines.Refused refusal)
answer_of (machine.Opened handle) = None
answer_of machine.Discarded = None
answer_of (machine.Replied reply) = Some (reply_answer reply)
answer_of (machine.Waits call) = Some (lines.Waiting call)
answer_of (machine.Moment now) = Some (lines.Moment now)
answer_of (machine.Took take) = Some (take_answer take)
answer_of (machine.Reclaimed region) = Some (reclaim_answer region)

abbrev pub said_answer : Said → Option Answer
said_answer (world.Says answer) = answer_of answer
said_answer (world.Made result failures) = Some (io_answer result)

-- to a cache that is at rest, or isn't
abbrev pub restart_answer : Bool → Answer
restart_answer true = lines.Restarted
restart_answer false = lines.Busy

-- ---- a line

-- the cache over its device behind a line, what the line is answered, and what it tells
pub record Moved : Type 0 where
  pub world : World
  pub answer : Option Answer
  pub notes : List Note

abbrev pub by_step : Stepped → Moved
by_step stepped = record { world = stepped.world; answer = said_answer stepped.said; notes = stepped.part }

abbrev pub done : Deed → World → Moved
done (Acts line) w = by_step (step line w)
done (Barred refusal) w = record { world = w; answer = Some (lines.Refused refusal); notes = [] }
done Rests w = record { world = w; answer = Some (restart_answer (is_at_rest w.cache)); notes = [] }

abbrev pub act : Action → World → Moved
act action w = done (deed_of action) w
