-- Steps one after another are a run of the machine.
use Rattle.std.proofs.Common.{◌≡◌, Bool, List, [], ◌∷◌, ◌++◌, refl, ap, sym, ◌∙◌, append_assoc}
use Rattle.hc_types.specs.Config.{Config}
use Rattle.hc_history.specs.Note.{Note}
use Rattle.hc_machine.specs.Schedule.{Step, Scene, Told, Ran, Done, new_scene, ran_on, step, run_from, run}
use Rattle.hc_run.specs.Steps.{breaking, Goes}
use Rattle.hc_run.specs.Runs.{Chain, IsRun}
use Rattle.hc_run.specs.Laws.{ChainsAreRuns}

-- ---- a chain

abbrev RanSo : Scene → List Step → List Told → List (List Note) → Scene → Type 0
RanSo old steps answers parts new = (broke : List Bool) × ((later : List Bool) → run_from steps (breaking (broke ++ later) old) ≡ record { scene = breaking later new; answers = answers; parts = parts })

before : (old mid new : Scene) (s : Step) (steps : List Step) (told : Told) (answers : List Told) (part : List Note) (parts : List (List Note)) → Goes old s told part mid → RanSo mid steps answers parts new → RanSo old (s ∷ steps) (told ∷ answers) (part ∷ parts) new
before old mid new s steps told answers part parts g rest = (
  g.broke ++ rest.0,
  λ later.
      ap (λ (breaks : List Bool). run_from (s ∷ steps) (breaking breaks old)) (append_assoc g.broke rest.0 later)
      ∙ ap (λ (done : Done). ran_on (run_from steps) done) (g.goes (rest.0 ++ later))
      ∙ ap (λ (r : Ran). record { scene = r.scene; answers = told ∷ r.answers; parts = part ∷ r.parts }) (rest.1 later),
)

chained : (old : Scene) (steps : List Step) (answers : List Told) (parts : List (List Note)) (new : Scene) → Chain old steps answers parts new → RanSo old steps answers parts new
chained old [] [] [] new c = ([], λ later. λ i. record { scene = breaking later (sym c i); answers = []; parts = [] })
chained old [] [] (part ∷ parts) new c = absurd c
chained old [] (told ∷ answers) parts new c = absurd c
chained old (s ∷ steps) [] parts new c = absurd c
chained old (s ∷ steps) (told ∷ answers) [] new c = absurd c
chained old (s ∷ steps) (told ∷ answers) (part ∷ parts) new c = before old c.0 new s steps told answers part parts c.1.0 (chained c.0 steps answers parts new c.1.1)

pub chains_are_runs : ChainsAreRuns
chains_are_runs config steps answers parts new c = let r = chained (new_scene config []) steps answers parts new c in record { broke = r.0; ran = r.1 }

-- ---- one step more

abbrev after : Ran → Step → Ran
after r s = record { scene = (step s r.scene).scene; answers = r.answers ++ (step s r.scene).told ∷ []; parts = r.parts ++ (step s r.scene).part ∷ [] }

pub run_more : (steps : List Step) (s : Step) (scene : Scene) → run_from (steps ++ s ∷ []) scene ≡ after (run_from steps scene) s
run_more [] s scene = refl
run_more (first ∷ steps) s scene =
    let done = step first scene in
    ap (λ (r : Ran). record { scene = r.scene; answers = done.told ∷ r.answers; parts = done.part ∷ r.parts }) (run_more steps s done.scene)

pub IsRun-none : (config : Config) → IsRun config [] [] [] (new_scene config [])
IsRun-none config = record { broke = []; ran = λ later. refl }

abbrev pub IsRun-more : (config : Config) (steps : List Step) (answers : List Told) (parts : List (List Note)) (old new : Scene) (s : Step) (told : Told) (part : List Note) → IsRun config steps answers parts old → Goes old s told part new
    → IsRun config (steps ++ s ∷ []) (answers ++ told ∷ []) (parts ++ part ∷ []) new
IsRun-more config steps answers parts old new s told part r g = record {
  broke = r.broke ++ g.broke;
  ran = λ later.
      ap (λ (breaks : List Bool). run config breaks (steps ++ s ∷ [])) (append_assoc r.broke g.broke later)
      ∙ run_more steps s (new_scene config (r.broke ++ (g.broke ++ later)))
      ∙ ap (λ (ran : Ran). after ran s) (r.ran (g.broke ++ later))
      ∙ ap (λ (done : Done). record { scene = done.scene; answers = answers ++ done.told ∷ []; parts = parts ++ done.part ∷ [] }) (g.goes later);
}
