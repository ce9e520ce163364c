-- A quiet run goes on by one step.
use Rattle.std.proofs.Common.{◌≡◌, ℕ, zero, suc, ◌+◌, ◌<◌, ◌==◌, ◌&&◌, Bool, true, false, List, [], ◌∷◌, ◌++◌, length, take, drop, get_or, Option, None, refl, ap, sym, subst, ◌∙◌, arith, append_assoc, append-nil, length-append}
use Rattle.std.specs.List.{list_all}
use Rattle.std.proofs.lemmas.List.{take_more}
use Rattle.hc_types.specs.Config.{Config}
use Rattle.hc_types.specs.Limits.{first_wrong}
use Rattle.hc_engines.specs.Engine.{Pages}
use Rattle.hc_history.specs.Note.{Note}
use Rattle.hc_history.specs.Told.{Log, told_more}
use Rattle.hc_machine.specs.Nvm.{Job, is_number_in}
use Rattle.hc_machine.specs.Schedule.{Deed, Step, Scene, Told, Ran, new_scene, run_from, run, given_up, step}
use Rattle.hc_machine.specs.Quiet.{is_own, is_quiet, AllQuiet, BreaksQuiet}
use Rattle.hc_run.specs.Steps.{breaking}
use Rattle.hc_run.specs.Shows.{Stage, Moves, Waits}
use Rattle.hc_run.specs.Going.{log_length, GoesOn, IsOngoing}
use Rattle.hc_run.specs.QuietRuns.{is_quiet_in, StopsQuietly, IsQuiet, IsQuietRunOf}
use Rattle.hc_run.specs.declared.runs.Stopped.{Stopped}
use Rattle.hc_run.proofs.Promising.{runs_stand}
use Rattle.hc_run.proofs.Going.{ongoing-more, ongoing-waits, run_ends}

-- ---- which jobs are out

same_jobs : (f g : Job → Bool) (jobs : List Job) → ((job : Job) → f job ≡ g job) → list_all f jobs ≡ list_all g jobs
same_jobs f g [] same = refl
same_jobs f g (job ∷ jobs) same = λ i. same job i && same_jobs f g jobs same i

turned : (a b : ℕ) → (a == b) ≡ (b == a)
turned a b = grind arith

none_all : (jobs : List Job) → list_all (λ (job : Job). false) jobs ≡ (length jobs == 0)
none_all [] = refl
none_all (job ∷ jobs) = grind arith

-- or there is none
pub quiet-none : (deed : Deed) (jobs : List Job) → ((number : ℕ) → is_own number deed ≡ is_number_in number None) → (length jobs == 0) ≡ list_all (λ (j : Job). is_own j.number deed) jobs
quiet-none deed jobs own = sym (none_all jobs) ∙ same_jobs _ _ jobs (λ j. sym (own j.number))

-- ---- one step more

quiet_more : (steps : List Step) (s : Step) (scene : Scene) → AllQuiet steps scene → is_quiet s (run_from steps scene).scene ≡ true → AllQuiet (steps ++ s ∷ []) scene
quiet_more [] s scene all is = (is, tt)
quiet_more (first ∷ steps) s scene all is = (all.0, quiet_more steps s (step first scene).scene all.1 is)

module _ (config : Config) where
  pub quiet-none-yet : (answers : List Told) (ends : List ℕ) (held : Pages) (stage : Stage) → IsOngoing held config [] answers ends stage → IsQuiet held config [] answers ends stage
  quiet-none-yet answers ends held stage o = record { ongoing = o; quiet = λ later. tt }

  more : (steps : List Step) (answers : List Told) (ends : List ℕ) (before after : Pages) (old new : Stage) (s : Step) (told : Told) → first_wrong config ≡ None → IsQuiet before config steps answers ends old → is_quiet_in s old.cache ≡ true → Moves before old s told after new
      → IsQuiet after config (steps ++ s ∷ []) (answers ++ told ∷ []) (ends ++ log_length new.log ∷ []) new
  more steps answers ends before after old new s told right q is m =
      let o = q.ongoing in
      let next = ongoing-more config steps answers ends before after old new s told right o m in
      let here : is_quiet s o.scene ≡ true = ap (is_quiet_in s) o.shows.cache ∙ is in
      let used : List Bool = (m.leads o.scene o.shows (runs_stand config steps answers o.parts o.scene right o.sized o.run).reads).goes.broke in
      record {
        ongoing = next;
        quiet = λ later.
            subst (λ (breaks : List Bool). AllQuiet (steps ++ s ∷ []) (new_scene config breaks)) (sym (append_assoc o.run.broke used later))
            (quiet_more steps s (new_scene config (o.run.broke ++ (used ++ later))) (q.quiet (used ++ later)) (ap (λ (r : Ran). is_quiet s r.scene) (o.run.ran (used ++ later)) ∙ here));
      }

  -- a turn of the loop
  pub quiet_turn : (steps : List Step) (s : Step) (i : ℕ) (answers answers' : List Told) (ends ends' : List ℕ) (before after : Pages) (old new : Stage) → i < length steps → s ≡ get_or steps i s → first_wrong config ≡ None
      → IsQuiet before config (take i steps) answers ends old → length answers ≡ i → is_quiet_in s old.cache ≡ true → GoesOn before old answers ends s after new answers' ends'
      → IsQuiet after config (take (i + 1) steps) answers' ends' new × (length answers' ≡ i + 1)
  quiet_turn steps s i answers answers' ends ends' before after old new lt here right q made is g =
      let all : take (i + 1) steps ≡ take i steps ++ s ∷ [] = take_more steps i s lt ∙ ap (λ (s : Step). take i steps ++ s ∷ []) (sym here) in
      let next = more (take i steps) answers ends before after old new s g.told right q is g.moves in (
        subst (λ (ss : List Step). IsQuiet after config ss answers' ends' new) (sym all)
            (subst (λ (as' : List Told). IsQuiet after config (take i steps ++ s ∷ []) as' ends' new) (sym g.answered)
            (subst (λ (es : List ℕ). IsQuiet after config (take i steps ++ s ∷ []) (answers ++ g.told ∷ []) es new) (sym g.ended) next)),
        ap length g.answered ∙ length-append answers (g.told ∷ []) ∙ ap (λ (n : ℕ). n + 1) made,
      )

  pub quiet-made : (steps : List Step) (i : ℕ) (answers : List Told) (ends : List ℕ) (held : Pages) (stage : Stage) → IsQuiet held config (take i steps) answers ends stage → length answers ≡ i → IsQuiet held config (take (length answers) steps) answers ends stage
  quiet-made steps i answers ends held stage q made = subst (λ (n : ℕ). IsQuiet held config (take n steps) answers ends stage) (sym made) q

  pub quiet-stopped : (steps : List Step) (i : ℕ) (answers answers' : List Told) (ends ends' : List ℕ) (before after : Pages) (old new : Stage) → IsQuiet before config (take i steps) answers ends old → length answers ≡ i → Waits before old after new → answers' ≡ answers → ends' ≡ ends
      → IsQuiet after config (take (length answers') steps) answers' ends' new
  quiet-stopped steps i answers answers' ends ends' before after old new q made w a e =
      let here = quiet-made steps i answers ends before old q made in
      subst (λ (as' : List Told). IsQuiet after config (take (length as') steps) as' ends' new) (sym a)
      (subst (λ (es : List ℕ). IsQuiet after config (take (length answers) steps) answers es new) (sym e) (record { ongoing = ongoing-waits config (take (length answers) steps) answers ends before after old new here.ongoing w; quiet = here.quiet }))

  -- ---- the end

  -- the step at this place isn't quiet
  breaks_at : (steps : List Step) (s : Step) (i : ℕ) (scene : Scene) → i < length steps → s ≡ get_or steps i s → is_quiet s scene ≡ false → BreaksQuiet (drop i steps) scene
  breaks_at [] s i scene lt here is = absurd (omega (arith, lt))
  breaks_at (first ∷ steps) s zero scene lt here is = subst (λ (x : Step). is_quiet x scene ≡ false) here is
  breaks_at (first ∷ steps) s (suc i) scene lt here is = breaks_at steps s i scene (omega (arith, lt)) here is

  abbrev pub QuietHere : Option Stopped → List Step → Stage → Type 0
  QuietHere stopped steps stage = (scene : Scene) → scene.world.cache ≡ stage.cache → StopsQuietly stopped steps scene

  pub not-quiet-here : (steps : List Step) (s : Step) (i : ℕ) (stage : Stage) → i < length steps → s ≡ get_or steps i s → is_quiet_in s stage.cache ≡ false → (scene : Scene) → scene.world.cache ≡ stage.cache → BreaksQuiet (drop i steps) scene
  not-quiet-here steps s i stage lt here is scene same = breaks_at steps s i scene lt here (ap (is_quiet_in s) same ∙ is)

  pub quiet_ends : (steps : List Step) (answers : List Told) (ends : List ℕ) (held : Pages) (stage : Stage) (log : List Note) (stopped : Option Stopped) → IsQuiet held config (take (length answers) steps) answers ends stage → QuietHere stopped steps stage
      → Log log ≡ told_more stage.log (given_up stage.slots stage.cache).part → IsQuietRunOf config steps answers ends log stopped
  quiet_ends steps answers ends held stage log stopped q here last =
      let o = q.ongoing in
      let made = take (length answers) steps in
      let r = run_ends config made answers ends held stage log o last in
      let ran : run config o.run.broke made ≡ record { scene = breaking [] o.scene; answers = answers; parts = o.parts } = subst (λ (breaks : List Bool). run config breaks made ≡ record { scene = breaking [] o.scene; answers = answers; parts = o.parts }) (append-nil o.run.broke) (o.run.ran []) in
      record {
        breaks = o.run.broke;
        answered = r.answered;
        ended = r.ended;
        told = r.told;
        all_quiet = subst (λ (breaks : List Bool). AllQuiet made (new_scene config breaks)) (append-nil o.run.broke) (q.quiet []);
        stops = here (run config o.run.broke made).scene (ap (λ (x : Ran). x.scene.world.cache) ran ∙ o.shows.cache);
      }
