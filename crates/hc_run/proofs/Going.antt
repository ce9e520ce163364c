-- A run goes on by one step.
use Rattle.std.proofs.Common.{Option, ◌≡◌, ℕ, ◌+◌, ◌<◌, nat_lt, Bool, true, false, List, [], ◌∷◌, ◌++◌, length, take, get_or, None, Some, refl, ap, sym, subst, ◌∙◌, arith, append_assoc, append-nil, length-append, zero-add}
use Rattle.std.specs.Prelude.{if◌then◌else◌}
use Rattle.std.proofs.lemmas.List.{take_more}
use Rattle.hc_types.specs.Config.{Config}
use Rattle.hc_types.specs.Limits.{first_wrong}
use Rattle.hc_engines.specs.Engine.{Pages}
use Rattle.hc_history.specs.Note.{Note}
use Rattle.hc_history.specs.Told.{Heard, Log, told_more}
use Rattle.hc_machine.specs.Cache.{Cache, new_cache}
use Rattle.hc_machine.specs.World.{result_at}
use Rattle.hc_machine.specs.Schedule.{Step, Slot, Told, Ran, new_scene, run, all_of, given_up, log_of}
use Rattle.hc_theorem.specs.runs.Schedule.{DeedSized, AllStepSized}
use Rattle.hc_run.specs.Steps.{breaking}
use Rattle.hc_run.specs.Shows.{Window, Stage, AreOwn, Moves, Waits, whole, seen}
use Rattle.hc_run.specs.Devices.{Counts}
use Rattle.hc_run.specs.Runs.{Sight, ends_from, failures_told, IsRunOf, IsRunOver}
use Rattle.hc_run.proofs.Failing.{run-told}
use Rattle.hc_follows.specs.Follows.{StopsAt}
use Rattle.hc_run.specs.Laws.{Promised}
use Rattle.hc_run.specs.Going.{log_length, GoesOn, IsOngoing}
use Rattle.hc_run.proofs.Chaining.{IsRun-none, IsRun-more}
use Rattle.hc_run.proofs.Promising.{runs_stand, runs_keep_promise}

-- ---- parts and ends

pub all_more : (parts : List (List Note)) (part : List Note) → all_of (parts ++ part ∷ []) ≡ all_of parts ++ part
all_more [] part = append-nil part
all_more (p ∷ parts) part = ap (λ (notes : List Note). p ++ notes) (all_more parts part) ∙ sym (append_assoc p (all_of parts) part)

pub ends_more : (at : ℕ) (parts : List (List Note)) (part : List Note) → ends_from at (parts ++ part ∷ []) ≡ ends_from at parts ++ (at + length (all_of parts ++ part)) ∷ []
ends_more at [] part = refl
ends_more at (p ∷ parts) part =
    ap (λ (ends : List ℕ). (at + length p) ∷ ends) (ends_more (at + length p) parts part
    ∙ ap (λ (n : ℕ). ends_from (at + length p) parts ++ n ∷ []) (omega (arith, length-append p (all_of parts), length-append (p ++ all_of parts) part, length-append (all_of parts) part)))

pub sized_more : (steps : List Step) (s : Step) → AllStepSized steps → DeedSized s.deed → AllStepSized (steps ++ s ∷ [])
sized_more [] s all sized = (sized, tt)
sized_more (first ∷ steps) s all sized = (all.0, sized_more steps s all.1 sized)

abbrev log_in : Heard → List Note
log_in (Log log) = log
log_in heard = []

-- ---- one step more

module _ (config : Config) where
  -- before the first step
  pub ongoing-none : (held : Pages) (stage : Stage) → stage.cache ≡ new_cache config → stage.log ≡ Log [] → stage.results ≡ [] → stage.slots ≡ [] → stage.failures ≡ 0 → IsOngoing held config [] [] [] stage
  ongoing-none held stage cache log results slots none = record {
    parts = [];
    scene = new_scene config [];
    run = IsRun-none config;
    shows = record { cache = sym cache; results = λ job. ap (result_at job) (sym results); slots = sym slots; failures = sym none; pages = λ page bytes is. absurd cc };
    log = log;
    ended = refl;
    sized = tt;
  }

  abbrev pub ongoing-more : (steps : List Step) (answers : List Told) (ends : List ℕ) (before after : Pages) (old new : Stage) (s : Step) (told : Told) → first_wrong config ≡ None → IsOngoing before config steps answers ends old → Moves before old s told after new
      → IsOngoing after config (steps ++ s ∷ []) (answers ++ told ∷ []) (ends ++ log_length new.log ∷ []) new
  ongoing-more steps answers ends before after old new s told right o m =
      let stands = runs_stand config steps answers o.parts o.scene right o.sized o.run in
      let l = m.leads o.scene o.shows stands.reads in
      let log : new.log ≡ Log (all_of o.parts ++ m.part) = m.log ∙ ap (λ (heard : Heard). told_more heard m.part) o.log in
      record {
        parts = o.parts ++ m.part ∷ [];
        scene = l.new;
        run = IsRun-more config steps answers o.parts o.scene l.new s told m.part o.run l.goes;
        shows = l.shows;
        log = log ∙ ap (λ (notes : List Note). Log notes) (sym (all_more o.parts m.part));
        ended = (λ i. o.ended i ++ log_length (log i) ∷ []) ∙ ap (λ (n : ℕ). ends_from 0 o.parts ++ n ∷ []) (sym (zero-add (length (all_of o.parts ++ m.part)))) ∙ sym (ends_more 0 o.parts m.part);
        sized = sized_more steps s o.sized m.sized;
      }

  -- what fills the slots is the cache's own
  pub ongoing-own : (steps : List Step) (answers : List Told) (ends : List ℕ) (held : Pages) (stage : Stage) → first_wrong config ≡ None → IsOngoing held config steps answers ends stage → AreOwn stage.slots stage.cache
  ongoing-own steps answers ends held stage right o =
      let own = (runs_stand config steps answers o.parts o.scene right o.sized o.run).own in
      subst (λ (slots : List Slot). AreOwn slots stage.cache) o.shows.slots (subst (λ (cache : Cache). AreOwn o.scene.slots cache) o.shows.cache own)

  -- a turn of the run's loop
  pub run_turn : (steps : List Step) (s : Step) (i : ℕ) (answers answers' : List Told) (ends ends' : List ℕ) (before after : Pages) (old new : Stage) → i < length steps → s ≡ get_or steps i s → first_wrong config ≡ None
      → IsOngoing before config (take i steps) answers ends old → length answers ≡ i → GoesOn before old answers ends s after new answers' ends'
      → IsOngoing after config (take (i + 1) steps) answers' ends' new × (length answers' ≡ i + 1)
  run_turn steps s i answers answers' ends ends' before after old new lt here right o made g =
      let more : take (i + 1) steps ≡ take i steps ++ s ∷ [] = take_more steps i s lt ∙ ap (λ (s : Step). take i steps ++ s ∷ []) (sym here) in
      let next = ongoing-more (take i steps) answers ends before after old new s g.told right o g.moves in (
        subst (λ (all : List Step). IsOngoing after config all answers' ends' new) (sym more)
            (subst (λ (as' : List Told). IsOngoing after config (take i steps ++ s ∷ []) as' ends' new) (sym g.answered)
            (subst (λ (es : List ℕ). IsOngoing after config (take i steps ++ s ∷ []) (answers ++ g.told ∷ []) es new) (sym g.ended) next)),
        ap length g.answered ∙ length-append answers (g.told ∷ []) ∙ ap (λ (n : ℕ). n + 1) made,
      )

  -- the stage waits: the run is as far
  abbrev pub ongoing-waits : (steps : List Step) (answers : List Told) (ends : List ℕ) (before after : Pages) (old new : Stage) → IsOngoing before config steps answers ends old → Waits before old after new → IsOngoing after config steps answers ends new
  ongoing-waits steps answers ends before after old new o w = record { parts = o.parts; scene = o.scene; run = o.run; shows = w.shows o.scene o.shows; log = w.log ∙ o.log; ended = o.ended; sized = o.sized }

  -- what still fills the slots is given up, and the run is over
  abbrev pub run_ends : (steps : List Step) (answers : List Told) (ends : List ℕ) (held : Pages) (stage : Stage) (log : List Note) → IsOngoing held config steps answers ends stage → Log log ≡ told_more stage.log (given_up stage.slots stage.cache).part → IsRunOf config steps answers ends log
  run_ends steps answers ends held stage log o last =
      let ran : run config o.run.broke steps ≡ record { scene = breaking [] o.scene; answers = answers; parts = o.parts } = subst (λ (breaks : List Bool). run config breaks steps ≡ record { scene = breaking [] o.scene; answers = answers; parts = o.parts }) (append-nil o.run.broke) (o.run.ran []) in
      let end : Log log ≡ Log (all_of o.parts ++ (given_up o.scene.slots o.scene.world.cache).part) = last ∙ (λ i. told_more (o.log i) (given_up (sym o.shows.slots i) (sym o.shows.cache i)).part) in
      record {
        breaks = o.run.broke;
        answered = ap (λ (r : Ran). r.answers) (sym ran);
        ended = o.ended ∙ ap (λ (r : Ran). ends_from 0 r.parts) (sym ran);
        told = ap log_in end ∙ ap log_of (sym ran);
      }

  pub promised : (steps : List Step) (answers : List Told) (ends : List ℕ) (held : Pages) (stage : Stage) (log : List Note) (stopped : Option ℕ) → first_wrong config ≡ None → IsOngoing held config (take (length answers) steps) answers ends stage
      → StopsAt stopped (length answers) (length steps) → Log log ≡ told_more stage.log (given_up stage.slots stage.cache).part → Promised config steps answers ends log stopped
  promised steps answers ends held stage log stopped right o stops last = runs_keep_promise config steps answers ends log stopped right o.sized stops (run_ends (take (length answers) steps) answers ends held stage log o last)

  -- as many steps were made as were answered
  pub ongoing-made : (steps : List Step) (i : ℕ) (answers : List Told) (ends : List ℕ) (held : Pages) (stage : Stage) → IsOngoing held config (take i steps) answers ends stage → length answers ≡ i → IsOngoing held config (take (length answers) steps) answers ends stage
  ongoing-made steps i answers ends held stage o made = subst (λ (n : ℕ). IsOngoing held config (take n steps) answers ends stage) (sym made) o

  -- the run stops here
  pub ongoing-stopped : (steps : List Step) (i : ℕ) (answers answers' : List Told) (ends ends' : List ℕ) (before after : Pages) (old new : Stage) → IsOngoing before config (take i steps) answers ends old → length answers ≡ i → Waits before old after new → answers' ≡ answers → ends' ≡ ends
      → IsOngoing after config (take (length answers') steps) answers' ends' new
  ongoing-stopped steps i answers answers' ends ends' before after old new o made w a e =
      subst (λ (as' : List Told). IsOngoing after config (take (length as') steps) as' ends' new) (sym a)
      (subst (λ (es : List ℕ). IsOngoing after config (take (length answers) steps) answers es new) (sym e) (ongoing-waits (take (length answers) steps) answers ends before after old new (ongoing-made steps i answers ends before old o made) w))

-- ---- the device

module _ (before after : Pages) (old new : Stage) (all : old.window ≡ whole) where
  -- a step over all pages of the device
  pub went : {answers answers' : List Told} {ends ends' : List ℕ} {s : Step} → GoesOn (seen old.window before) old answers ends s (seen old.window after) new answers' ends' → GoesOn (seen whole before) old answers ends s (seen whole after) new answers' ends'
  went {answers} {answers'} {ends} {ends'} {s} g = subst (λ (w : Window). GoesOn (seen w before) old answers ends s (seen w after) new answers' ends') all g

  pub waited : Waits (seen old.window before) old (seen old.window after) new → Waits (seen whole before) old (seen whole after) new
  waited w = subst (λ (window : Window). Waits (seen window before) old (seen window after) new) all w

-- the device failed as often as the stage counted
pub counted-on : (start : ℕ) (old new : Stage) {before after : ℕ} → old.window ≡ whole → Counts old.window before after old.failures new.failures → before ≡ start + old.failures → after ≡ start + new.failures
counted-on start old new all c so_far = omega (arith, c.each all, so_far)

pub counted-none : (n : ℕ) {failures : ℕ} → failures ≡ 0 → n ≡ n + failures
counted-none n none = omega (arith, none)

-- what is seen of all pages is held
pub whole-held : (held : Pages) (page : ℕ) (bytes : List ℕ) → seen whole held page ≡ Some bytes → held page ≡ Some bytes
whole-held held page bytes is = go (nat_lt page 4294967296) is
  where
    go : (t : Bool) → (if t then held (0 + page) else None) ≡ Some bytes → held page ≡ Some bytes
    go true is = ap held (sym (zero-add page)) ∙ is
    go false is = absurd cc

module _ (config : Config) where
  -- so often the device failed by itself, and so it holds the pages
  pub ran-to : (steps : List Step) (answers : List Told) (ends : List ℕ) (held : Pages) (stage : Stage) → (o : IsOngoing held config steps answers ends stage) → run config o.run.broke steps ≡ record { scene = breaking [] o.scene; answers = answers; parts = o.parts }
  ran-to steps answers ends held stage o = subst (λ (breaks : List Bool). run config breaks steps ≡ record { scene = breaking [] o.scene; answers = answers; parts = o.parts }) (append-nil o.run.broke) (o.run.ran [])

  pub failures-told : (steps : List Step) (answers : List Told) (ends : List ℕ) (held : Pages) (stage : Stage) → IsOngoing held config steps answers ends stage → stage.failures ≡ failures_told 0 answers
  failures-told steps answers ends held stage o =
      let ran = ran-to steps answers ends held stage o in
      sym o.shows.failures ∙ ap (λ (r : Ran). r.scene.world.failures) (sym ran) ∙ run-told config o.run.broke steps ∙ ap (λ (r : Ran). failures_told 0 r.answers) ran

  -- the device comes back as the run left it
  pub run_over : {Device : Type 0} (sight : Sight Device) (steps : List Step) (answers : List Told) (ends : List ℕ) (stage : Stage) (old new : Device) → IsOngoing (seen whole (sight.held new)) config steps answers ends stage
      → sight.failed new ≡ sight.failed old + stage.failures → IsRunOver sight config steps answers old new
  run_over sight steps answers ends stage old new o counted =
      let held = seen whole (sight.held new) in
      let ran = ran-to steps answers ends held stage o in
      record {
        breaks = o.run.broke;
        answered = ap (λ (r : Ran). r.answers) (sym ran);
        counted = omega (arith, counted, failures-told steps answers ends held stage o);
        held = λ page bytes is. whole-held (sight.held new) page bytes (o.shows.pages page bytes (ap (λ (r : Ran). r.scene.world.pages page) (sym ran) ∙ is));
      }
