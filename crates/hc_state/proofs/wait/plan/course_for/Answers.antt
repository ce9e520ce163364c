use Rattle.std.proofs.Common.{Bool, List, ℕ, Option}
use Rattle.std.proofs.lemmas.Result.{IfOk-weaker}
use Rattle.hc_types.specs.FlashEntry.{FlashEntry}
use Rattle.hc_machine.specs.Nvm.{ToFind}
use Rattle.hc_state.specs.wait.Courses.{IsCourse}
use Rattle.hc_state.specs.wait.Plan.{IsThere}
use Rattle.hc_state.proofs.wait.plan.course_for.Goals as goal

pub returns-in-Find : goal.returns-in-Find
returns-in-Find g c =
    let given = c.args.given.now in
    rw c.in-Find.is (IfOk-weaker c.find_course.result
    (λ course. (keeps : Bool) (key : List ℕ) (entry : Option FlashEntry) → IsThere entry given → IsCourse keeps key ToFind entry course)
    (λ course. (entry : Option FlashEntry) → IsThere entry given → IsCourse c.args.keeps c.args.key.now ToFind entry course)
    (λ course h. h c.args.keeps c.args.key.now)
    c.find_course.ensures)
