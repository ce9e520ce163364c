-- A quiet run is that of the steps up to where it stopped.
use Rattle.std.proofs.Common.{◌≡◌, ℕ, zero, suc, Bool, true, false, List, [], ◌∷◌, take, Option, Some, None, refl, sym, subst}
use Rattle.std.specs.Prelude.{if◌then◌else◌}
use Rattle.hc_machine.specs.Schedule.{Step, Scene, new_scene, step, Ran}
use Rattle.hc_machine.specs.Quiet.{is_quiet, quiet_on, unmoved, run_quiet_from, run_quiet, steps_made}
use Rattle.hc_invariant.specs.Laws.{Laws}
use Rattle.hc_theorem.specs.runs.Schedule.{AllStepSized}
use Rattle.hc_theorem.specs.runs.QuietRuns.{QuietSo, QuietRunsAreRuns, RanRight, QuietRunIsRight}
use Rattle.hc_theorem.proofs.runs.Scheduling.{schedule_is_right}

-- one step more, before a quiet run
one_more : (s : Step) (steps : List Step) (scene : Scene) (ran : Ran) (stopped : Option ℕ) → is_quiet s scene ≡ true → QuietSo steps (step s scene).scene (record { ran = ran; stopped = stopped })
    → QuietSo (s ∷ steps) scene (quiet_on (λ x. record { ran = ran; stopped = stopped }) (step s scene))
one_more s steps scene ran None quiet h = record {
  same = λ i. record { scene = (h.same i).scene; answers = (step s scene).told ∷ (h.same i).answers; parts = (step s scene).part ∷ (h.same i).parts };
  all_quiet = (quiet, h.all_quiet);
  stops = tt;
}
one_more s steps scene ran (Some n) quiet h = record {
  same = λ i. record { scene = (h.same i).scene; answers = (step s scene).told ∷ (h.same i).answers; parts = (step s scene).part ∷ (h.same i).parts };
  all_quiet = (quiet, h.all_quiet);
  stops = h.stops;
}

pub quiet_runs : QuietRunsAreRuns
quiet_runs [] scene = record { same = refl; all_quiet = tt; stops = tt }
quiet_runs (s ∷ steps) scene = go (is_quiet s scene) refl (quiet_runs steps (step s scene).scene)
  where
    go : (t : Bool) → is_quiet s scene ≡ t → QuietSo steps (step s scene).scene (run_quiet_from steps (step s scene).scene) → QuietSo (s ∷ steps) scene (if t then quiet_on (run_quiet_from steps) (step s scene) else record { ran = unmoved scene; stopped = Some 0 })
    go true e rest = one_more s steps scene (run_quiet_from steps (step s scene).scene).ran (run_quiet_from steps (step s scene).scene).stopped e rest
    go false e rest = record { same = refl; all_quiet = tt; stops = e }

-- the steps that were made are within their limits
taken_sized : (n : ℕ) (steps : List Step) → AllStepSized steps → AllStepSized (take n steps)
taken_sized zero steps h = tt
taken_sized (suc n) [] h = tt
taken_sized (suc n) (s ∷ steps) h = (h.0, taken_sized n steps h.1)

made_sized : (stopped : Option ℕ) (steps : List Step) → AllStepSized steps → AllStepSized (steps_made stopped steps)
made_sized None steps h = h
made_sized (Some n) steps h = taken_sized n steps h

pub quiet_run_is_right : Laws → QuietRunIsRight
quiet_run_is_right laws config breaks steps can sized =
    let q = run_quiet config breaks steps in
    let right = schedule_is_right laws config breaks (steps_made q.stopped steps) can (made_sized q.stopped steps sized) in
    subst (RanRight config) (sym (quiet_runs steps (new_scene config breaks)).same) (record { legal = right.legal; so_far = right.so_far; honest = right.honest })
