-- The headline, in each of its forms. The configuration isn't refused, and what names a key to be stored names one of 1 to 255 bytes.
use Rattle.std.specs.Prelude.{◌≡◌, Bool, List, [], None}
use Rattle.hc_types.specs.Config.{Config}
use Rattle.hc_types.specs.Limits.{first_wrong}
use Rattle.hc_history.specs.Lawful.{Legal}
use Rattle.hc_history.specs.Honest.{Honest}
use Rattle.hc_machine.specs.Cache.{new_cache}
use Rattle.hc_machine.specs.World.{Line}
use Rattle.hc_theorem.specs.runs.Runs.{AllLineSized, RunRight}
use Rattle.hc_machine.specs.Call.{CacheCall, acts}
use Rattle.hc_theorem.specs.runs.Honesty.{AllCallSized}
use Rattle.hc_theorem.specs.runs.Schedule.{AllStepSized, ScheduleRight}
use Rattle.hc_machine.specs.Schedule.{Step, run, ended, all_of}
use Rattle.hc_machine.specs.Quiet.{run_quiet}
use Rattle.hc_theorem.specs.runs.QuietRuns.{RanRight}
use Rattle.hc_theorem.specs.slots.BetweenScene.{BetweenScene}
use Rattle.hc_follows.specs.Follows.{Follows}
use Rattle.hc_theorem.specs.runs.Lock.{Guarded}

-- every trace over a device, whichever operations that fails by itself: its log is legal, and honest
abbrev pub Headline : Type 0
Headline = (config : Config) (breaks : List Bool) (lines : List Line) → first_wrong config ≡ None → AllLineSized lines → RunRight config breaks lines

-- What is promised of a schedule's run: its log is legal and honest, also once its slots are given up, and it follows its
-- steps: each is answered, and told, as its kind wants.
pub record Promised (config : Config) (breaks : List Bool) (steps : List Step) : Type 0 where
  pub right : ScheduleRight config breaks steps
  pub follows : Follows config steps (run config breaks steps).answers (run config breaks steps).parts (ended (run config breaks steps)).part None

-- every schedule over a device, by any clients, with slots for what is open
abbrev pub HeadlineOfSchedules : Type 0
HeadlineOfSchedules = (config : Config) (breaks : List Bool) (steps : List Step) → first_wrong config ≡ None → AllStepSized steps → Promised config breaks steps

-- every quiet schedule, up to where it stops, where one step isn't quiet
abbrev pub HeadlineOfQuietSchedules : Type 0
HeadlineOfQuietSchedules = (config : Config) (breaks : List Bool) (steps : List Step) → first_wrong config ≡ None → AllStepSized steps → RanRight config (run_quiet config breaks steps).ran

-- what is true between two steps of every schedule
abbrev pub SchedulesStand : Type 0
SchedulesStand = (config : Config) (breaks : List Bool) (steps : List Step) → first_wrong config ≡ None → AllStepSized steps → BetweenScene config (all_of (run config breaks steps).parts) (run config breaks steps).scene

-- every list of calls with any results at all, and no device: where the log is honest it is legal
abbrev pub HeadlineOfLogs : Type 0
HeadlineOfLogs = (config : Config) (calls : List CacheCall) → first_wrong config ≡ None → AllCallSized calls → Honest (acts calls (new_cache config)).log → Legal config (acts calls (new_cache config)).log

-- a new cache is what a lock wants it to be
abbrev pub NewStands : Type 0
NewStands = (config : Config) → first_wrong config ≡ None → Guarded config [] (new_cache config)
