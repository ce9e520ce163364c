use Rattle.std.proofs.Common.{◌≡◌, ◌≤◌, Option, length, take, vec_len, vec_capacity}
use Rattle.hc_types.specs.FlashEntry.{FlashEntry}
use Rattle.hc_state.specs.wait.Courses.{AreCourses}
use Rattle.hc_state.specs.wait.Plan.{IsThere, there_past}
use Rattle.hc_state.proofs.wait.plan.plan_courses.Given as goal

-- the calls so far are planned for, and this is what the key has once they are served
abbrev pub invariant-loop-waiter : goal.invariant-loop-waiter
invariant-loop-waiter g l = record {
  planned : (entry : Option FlashEntry) → IsThere entry l.fn.there → AreCourses l.keeps l.key l.now (take l.waiter-index l.waiters) entry l.courses.items;
  stands : (entry : Option FlashEntry) → IsThere entry l.fn.there → IsThere (there_past l.now (take l.waiter-index l.waiters) entry) l.there;
  counted : vec_len l.courses ≡ l.waiter-index;
  room : length l.waiters ≤ vec_capacity l.courses;
}
