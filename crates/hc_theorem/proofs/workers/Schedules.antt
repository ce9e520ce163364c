-- Every schedule's run follows its steps.
use Rattle.hc_invariant.specs.Laws.{Laws}
use Rattle.hc_theorem.specs.clients.Deeds.{SchedulesFollow}
use Rattle.hc_theorem.proofs.clients.Walking as walking
use Rattle.hc_theorem.proofs.workers.Workers.{workers_follow}

pub schedules_follow : Laws → SchedulesFollow
schedules_follow laws = walking.schedules_follow laws workers_follow
