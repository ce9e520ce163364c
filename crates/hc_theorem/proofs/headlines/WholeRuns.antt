-- The headline, in each of its forms, from the laws of the steps.
use Rattle.hc_theorem.specs.runs.Lock.{CallsStayGuarded}
use Rattle.hc_theorem.specs.runs.Honesty.{FinishIfHonest}
use Rattle.hc_theorem.proofs.runs.Traces as traces
use Rattle.hc_theorem.specs.runs.Lines.{steps_of}
use Rattle.hc_theorem.proofs.runs.Honesty as honesty
use Rattle.hc_theorem.proofs.runs.Scheduling.{schedule_is_right}
use Rattle.hc_theorem.proofs.runs.QuietRunning.{quiet_run_is_right}
use Rattle.hc_theorem.proofs.workers.Schedules.{schedules_follow}
use Rattle.hc_theorem.proofs.slots.Scenes.{schedules_are_between}
use Rattle.hc_theorem.proofs.runs.Locked.{new_is_guarded, calls_stay_guarded}
use Rattle.hc_invariant.specs.Laws.{StepKeeps}
use Rattle.hc_theorem.specs.headlines.Headline.{Headline, HeadlineOfSchedules, HeadlineOfQuietSchedules, SchedulesStand, HeadlineOfLogs, NewStands}
use Rattle.hc_theorem.proofs.headlines.Checked.{can_run}
use Rattle.hc_theorem.proofs.headlines.EachStep.{laws}

pub headline_of_schedules : HeadlineOfSchedules
headline_of_schedules config breaks steps right sized = record {
  right = schedule_is_right laws config breaks steps (can_run config right) sized;
  follows = schedules_follow laws config breaks steps (can_run config right) sized;
}

-- the lines of a trace are steps of a schedule
pub headline : Headline
headline config breaks lines right sized = traces.run_right config breaks lines (headline_of_schedules config breaks (steps_of lines) right (traces.lines_sized lines sized)).right

pub headline_of_quiet_schedules : HeadlineOfQuietSchedules
headline_of_quiet_schedules config breaks steps right sized = quiet_run_is_right laws config breaks steps (can_run config right) sized

pub schedules_stand : SchedulesStand
schedules_stand config breaks steps right sized = schedules_are_between laws config breaks steps (can_run config right) sized

pub headline_of_logs : HeadlineOfLogs
headline_of_logs config events right sized honest = honesty.honest_is_legal laws config events (can_run config right) sized honest

-- each line of a run keeps what holds of it, with the device
pub step_keeps : StepKeeps
step_keeps = traces.step_keeps laws

-- whatever result is handed in
pub honest_finish : FinishIfHonest
honest_finish = honesty.finish_if_honest laws

-- ---- what a lock keeps

pub new_stands : NewStands
new_stands config right = new_is_guarded config (can_run config right)

pub guarded : CallsStayGuarded
guarded = calls_stay_guarded laws
