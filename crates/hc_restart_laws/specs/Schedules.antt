-- A cache over its device goes on where it stood: the steps of two runs are those of one.
use Rattle.std.specs.Prelude.{◌≡◌, Bool, List, ◌++◌, None}
use Rattle.hc_types.specs.Config.{Config}
use Rattle.hc_types.specs.Limits.{first_wrong}
use Rattle.hc_history.specs.Lawful.{Legal}
use Rattle.hc_history.specs.Honest.{Honest}
use Rattle.hc_machine.specs.Schedule.{Step, Scene, Ran, run_from, run, all_of, ended, log_of}
use Rattle.hc_follows.specs.Follows.{Follows}
use Rattle.hc_theorem.specs.runs.Schedule.{AllStepSized}

-- the second run behind the first
abbrev pub both : Ran → Ran → Ran
both first second = record { scene = second.scene; answers = first.answers ++ second.answers; parts = first.parts ++ second.parts }

-- the log is legal and honest, also once slots are given up, and the run follows its steps
pub record IsRun (config : Config) (steps : List Step) (ran : Ran) : Type 0 where
  pub legal : Legal config (log_of ran)
  pub so_far : Legal config (all_of ran.parts)
  pub honest : Honest (log_of ran)
  pub follows : Follows config steps ran.answers ran.parts (ended ran).part None

-- with whatever the device fails, before and after
abbrev pub SchedulesGoOn : Type 0
SchedulesGoOn = (config : Config) (breaks : List Bool) (first second : List Step) (begins : Scene) → first_wrong config ≡ None → AllStepSized first → AllStepSized second
    → begins ≡ (run config breaks first).scene → IsRun config (first ++ second) (both (run config breaks first) (run_from second begins))
