-- The steps of two runs are those of one.
use Rattle.std.proofs.Common.{◌≡◌, List, [], ◌∷◌, ◌++◌, refl, sym, ap, ◌∙◌, subst}
use Rattle.hc_machine.specs.Schedule.{Step, Scene, Ran, step, run_from, run, new_scene}
use Rattle.hc_theorem.specs.runs.Schedule.{AllStepSized}
use Rattle.hc_theorem.proofs.headlines.WholeRuns as theorem
use Rattle.hc_restart_laws.specs.Schedules.{both, IsRun, SchedulesGoOn}

one-run : (first second : List Step) (scene : Scene) → run_from (first ++ second) scene ≡ both (run_from first scene) (run_from second (run_from first scene).scene)
one-run [] second scene = refl
one-run (s ∷ first) second scene =
    let done = step s scene in
    ap (λ (ran : Ran). record { scene = ran.scene; answers = done.told ∷ ran.answers; parts = done.part ∷ ran.parts }) (one-run first second done.scene)

all-sized : (first second : List Step) → AllStepSized first → AllStepSized second → AllStepSized (first ++ second)
all-sized [] second none more = more
all-sized (s ∷ first) second fits more = (fits.0, all-sized first second fits.1 more)

pub schedules-go-on : SchedulesGoOn
schedules-go-on config breaks first second begins right sized more is =
    let one : run config breaks (first ++ second) ≡ both (run config breaks first) (run_from second begins) =
    one-run first second (new_scene config breaks) ∙ ap (λ (scene : Scene). both (run config breaks first) (run_from second scene)) (sym is) in
    let promised = theorem.headline_of_schedules config breaks (first ++ second) right (all-sized first second sized more) in
    subst (λ (ran : Ran). IsRun config (first ++ second) ran) one (record { legal = promised.right.legal; so_far = promised.right.so_far; honest = promised.right.honest; follows = promised.follows })
