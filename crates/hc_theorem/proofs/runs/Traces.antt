-- A trace is a schedule: the steps of its lines, one line after another. So what is true of schedules is true of lines.
use Rattle.std.proofs.Common.{◌≡◌, Bool, List, [], ◌∷◌, ◌++◌, refl, sym, ap, subst, ◌∙◌, append_assoc, append-nil}
use Rattle.hc_types.specs.Config.{Config}
use Rattle.hc_history.specs.Note.{Note}
use Rattle.hc_history.specs.Lawful.{Legal}
use Rattle.hc_history.specs.Honest.{Honest}
use Rattle.hc_machine.specs.World as world
use Rattle.hc_machine.specs.World.{World, Line, new_world}
use Rattle.hc_machine.specs.Schedule.{Step, Scene, Ran, step, run_from, run, all_of, given_up, log_of}
use Rattle.hc_invariant.specs.Good.{GoodRun}
use Rattle.hc_invariant.specs.Laws.{Laws, LineSized, StepKeeps}
use Rattle.hc_theorem.specs.runs.Lines.{line_steps, steps_of, at_rest}
use Rattle.hc_theorem.specs.runs.Runs.{AllLineSized, RunRight}
use Rattle.hc_theorem.specs.runs.Schedule.{AllStepSized, ScheduleRight}
use Rattle.hc_theorem.proofs.runs.LinesAreSteps.{lines_are_steps}
use Rattle.hc_theorem.proofs.runs.Scheduling.{runs_hold}

-- ---- steps behind steps

scene_behind : (steps later : List Step) (scene : Scene) → (run_from (steps ++ later) scene).scene ≡ (run_from later (run_from steps scene).scene).scene
scene_behind [] later scene = refl
scene_behind (s ∷ steps) later scene = scene_behind steps later (step s scene).scene

parts_behind : (steps later : List Step) (scene : Scene)
    → all_of (run_from (steps ++ later) scene).parts ≡ all_of (run_from steps scene).parts ++ all_of (run_from later (run_from steps scene).scene).parts
parts_behind [] later scene = refl
parts_behind (s ∷ steps) later scene =
    let first = step s scene in
    ap (λ ns. first.part ++ ns) (parts_behind steps later first.scene)
    ∙ sym (append_assoc first.part (all_of (run_from steps first.scene).parts) (all_of (run_from later (run_from steps first.scene).scene).parts))

sized_behind : (steps later : List Step) → AllStepSized steps → AllStepSized later → AllStepSized (steps ++ later)
sized_behind [] later h rest = rest
sized_behind (s ∷ steps) later h rest = (h.0, sized_behind steps later h.1 rest)

-- ---- from line to line

record Stands (ran : Ran) (new : World) (notes : List Note) : Type 0 where
  scene : ran.scene ≡ at_rest new
  told : all_of ran.parts ≡ notes

lines_stand : (lines : List Line) (w : World) → Stands (run_from (steps_of lines) (at_rest w)) (world.run_from lines w).world (world.run_from lines w).log
lines_stand [] w = record { scene = refl; told = refl }
lines_stand (line ∷ lines) w =
    let next = world.step line w in
    let first = lines_are_steps w line in
    let later = lines_stand lines next.world in
    record {
      scene = scene_behind (line_steps line) (steps_of lines) (at_rest w) ∙ ap (λ scene. (run_from (steps_of lines) scene).scene) first.scene ∙ later.scene;
      told =
          parts_behind (line_steps line) (steps_of lines) (at_rest w)
          ∙ (λ i. first.told i ++ all_of (run_from (steps_of lines) (first.scene i)).parts)
          ∙ ap (λ ns. next.part ++ ns) later.told;
    }

-- nothing is given up at the end, since no slot is filled
pub log-is : (config : Config) (breaks : List Bool) (lines : List Line) → log_of (run config breaks (steps_of lines)) ≡ (world.run config breaks lines).log
log-is config breaks lines =
    let s = lines_stand lines (new_world config breaks) in
    (λ i. s.told i ++ (given_up (s.scene i).slots (s.scene i).world.cache).part) ∙ append-nil _

-- ---- keys have from 1 to 255 bytes

line_sized : (line : Line) → LineSized line → AllStepSized (line_steps line)
line_sized (world.Set pool key value ttl) h = (h, (tt, tt))
line_sized (world.Add pool key value ttl) h = (h, (tt, (tt, tt)))
line_sized (world.Get key) h = (tt, tt)
line_sized (world.Del key) h = (tt, tt)
line_sized (world.At moment) h = (tt, tt)
line_sized world.Writer h = (tt, tt)
line_sized world.Filler h = (tt, tt)
line_sized world.Reclaim h = (tt, tt)
line_sized (world.Io job fails) h = (tt, tt)
line_sized (world.Done job) h = (tt, tt)
line_sized (world.Reply call) h = (tt, tt)

pub lines_sized : (lines : List Line) → AllLineSized lines → AllStepSized (steps_of lines)
lines_sized [] h = tt
lines_sized (line ∷ lines) h = sized_behind (line_steps line) (steps_of lines) (line_sized line h.0) (lines_sized lines h.1)

-- ---- what follows for lines

pub step_keeps : Laws → StepKeeps
step_keeps laws config log w line r sized =
    let ran = run_from (line_steps line) (at_rest w) in
    let comes = lines_are_steps w line in
    let h = runs_hold laws config log (at_rest w) (line_steps line) (record { holds = r; sized = tt }) (line_sized line sized) in
    let told = subst (λ (part : List Note). GoodRun config (log ++ part) ran.scene.world) comes.told h.holds in
    subst (λ (scene : Scene). GoodRun config (log ++ (world.step line w).part) scene.world) comes.scene told

pub run_right : (config : Config) (breaks : List Bool) (lines : List Line) → ScheduleRight config breaks (steps_of lines) → RunRight config breaks lines
run_right config breaks lines s = record {
  legal = subst (Legal config) (lines_stand lines (new_world config breaks)).told s.so_far;
  honest = subst Honest (log-is config breaks lines) s.honest;
}
