-- What is heard of lines.
use Rattle.std.proofs.Common.{◌≡◌, List, [], ◌∷◌, ◌++◌, None, refl, sym, ap, ◌∙◌}
use Rattle.hc_types.specs.Config.{Config}
use Rattle.hc_types.specs.Limits.{first_wrong}
use Rattle.hc_history.specs.Told.{Log, told_more}
use Rattle.hc_history.proofs.Telling.{told-twice}
use Rattle.hc_trace_text.specs.Grammar as grammar
use Rattle.hc_trace_text.specs.Grammar.{Line, Says}
use Rattle.hc_trace_text.specs.Steps.{Answer, Step, Work}
use Rattle.hc_machine.specs.World.{World}
use Rattle.hc_player.specs.Alike.{Alike}
use Rattle.hc_player.specs.Playing.{Playing, world_of, Acts}
use Rattle.hc_player.proofs.Likening.{act-alike}
use Rattle.hc_trace_meaning.specs.Actions.{Action, Do, Serve, Restart, act}
use Rattle.hc_trace_meaning.specs.Trace.{Actions, before, action_line, checked, ended, fresh, notes_of}
use Rattle.hc_trace_log.specs.Outcome.{Whole, outcome_of}
use Rattle.hc_trace_log.specs.Taken.{Behind, behind, GoesOn, IsHeard}

-- worlds that are alike tell the same
pub notes-alike : (a b : World) → Alike a b → (actions : List Action) → notes_of a actions ≡ notes_of b actions
notes-alike a b l [] = refl
notes-alike a b l (action ∷ actions) =
    let m = act-alike a b l action in
    let later = notes-alike (act action a).world (act action b).world m.world actions in
    λ i. m.notes i ++ later i

-- behind a line what was heard before is the same as before it
pub acted-on : (action : Action) (answer : Answer) (old new : Playing) → Acts action answer old new → (later : Actions) → behind new later ≡ behind old (before action later)
acted-on action answer old new did later =
    let moved = act action (world_of old) in
    let rest : notes_of (world_of new) later.actions ≡ notes_of moved.world later.actions = notes-alike _ _ did.world later.actions in
    let log : told_more new.log (notes_of (world_of new) later.actions) ≡ told_more old.log (moved.notes ++ notes_of moved.world later.actions) =
    (λ i. told_more (did.log i) (rest i)) ∙ told-twice old.log moved.notes (notes_of moved.world later.actions) in
    λ i. record { log = log i; fault = later.fault }

-- a line that does a step is taken
pub goes-by-step : {answer : Answer} {old new : Playing} (line : Line) (step : Step) → line ≡ Says (grammar.Do step) → Acts (Do step) answer old new → GoesOn line old new
goes-by-step {answer} {old} {new} line step is did = λ n later. acted-on (Do step) answer old new did later ∙ ap (λ (l : Line). behind old (action_line n l later)) (sym is)

-- so is one that has work done
pub goes-by-work : {answer : Answer} {old new : Playing} (line : Line) (work : Work) → line ≡ Says (grammar.Serve work) → Acts (Serve work) answer old new → GoesOn line old new
goes-by-work {answer} {old} {new} line work is did = λ n later. acted-on (Serve work) answer old new did later ∙ ap (λ (l : Line). behind old (action_line n l later)) (sym is)

-- so is one that asks for a restart
pub goes-by-restart : {answer : Answer} {old new : Playing} (line : Line) → line ≡ Says grammar.Restart → Acts Restart answer old new → GoesOn line old new
goes-by-restart {answer} {old} {new} line is did = λ n later. acted-on Restart answer old new did later ∙ ap (λ (l : Line). behind old (action_line n l later)) (sym is)

-- what is heard behind all lines is what the trace comes to
pub heard-whole : (config : Config) (old new : Playing) (rest : Actions) → first_wrong config ≡ None → Alike (world_of old) (fresh config) → old.log ≡ Log [] → IsHeard rest None old new → Whole config new.log ≡ outcome_of (ended config rest)
heard-whole config old new rest fits alike log heard =
    let told : new.log ≡ Log (notes_of (fresh config) rest.actions) =
    sym (ap (λ (b : Behind). b.log) heard) ∙ (λ i. told_more (log i) (notes-alike _ _ alike rest.actions i)) in
    let none : rest.fault ≡ None = ap (λ (b : Behind). b.fault) heard in
    let comes : outcome_of (ended config rest) ≡ Whole config (Log (notes_of (fresh config) rest.actions)) =
    λ i. outcome_of (checked config (fits i) (record { actions = rest.actions; fault = none i })) in
    ap (Whole config) told ∙ sym comes
