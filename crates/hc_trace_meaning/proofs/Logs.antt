-- The log of a trace is that of a run of the machine, and of a schedule: the steps of its lines.
use Rattle.std.proofs.Common.{◌≡◌, ℕ, ◌==◌, nat_lt, Bool, true, false, List, [], ◌∷◌, ◌++◌, length, Option, None, Some, refl, sym, ap, ◌∙◌, arith, if◌then◌else◌}
use Rattle.std.proofs.lemmas.Bool.Decides.{nat_tests}
use Rattle.hc_types.specs.Limits.{key_refusal}
use Rattle.hc_types.specs.declared.refusal.Refusal.{Refusal}
use Rattle.hc_types.specs.declared.refusal.Refusal.TheVariants.{KeyEmpty, KeyTooLong}
use Rattle.hc_history.specs.Note.{Note}
use Rattle.hc_trace_text.specs.Steps.{Step, Set, Add, Get, Del, Now, Work, Writer, Filler, Reclaim, Io, Finish, Reply}
use Rattle.hc_machine.specs.World as world
use Rattle.hc_machine.specs.World.{World, Line, step, run_from}
use Rattle.hc_invariant.specs.Good.{IsSized}
use Rattle.hc_invariant.specs.Laws.{LineSized}
use Rattle.hc_theorem.specs.runs.Runs.{AllLineSized}
use Rattle.hc_theorem.specs.runs.Lines.{steps_of}
use Rattle.hc_theorem.proofs.runs.Traces.{log-is, lines_sized}
use Rattle.hc_theorem.proofs.headlines.WholeRuns.{headline, headline_of_schedules}
use Rattle.hc_trace_meaning.specs.Actions.{Action, Do, Serve, Restart, Deed, Acts, Barred, Rests, unless, step_deed, work_line, deed_of, done}
use Rattle.hc_trace_meaning.specs.Trace.{fresh, notes_of}
use Rattle.hc_trace_meaning.specs.Promise.{LogsAreRight}
use Rattle.hc_trace_meaning.specs.Runs.{acted, acted_lines, TracesAreRuns}

-- ---- one log

by-deed : (deed : Deed) (w : World) (lines : List Line) (rest : World → List Note) → ((w : World) → rest w ≡ (run_from lines w).log) → (done deed w).notes ++ rest (done deed w).world ≡ (run_from (acted deed lines) w).log
by-deed (Acts line) w lines rest same = ap (λ ns. (step line w).part ++ ns) (same (step line w).world)
by-deed (Barred refusal) w lines rest same = same w
by-deed Rests w lines rest same = same w

same-log : (actions : List Action) (w : World) → notes_of w actions ≡ (run_from (acted_lines actions) w).log
same-log [] w = refl
same-log (action ∷ actions) w = by-deed (deed_of action) w (acted_lines actions) (λ w. notes_of w actions) (same-log actions)

-- ---- keys that aren't refused have 1 to 255 bytes

abbrev DeedSized : Deed → Type 0
DeedSized (Acts line) = LineSized line
DeedSized (Barred refusal) = Unit {0}
DeedSized Rests = Unit {0}

sized : (key : List ℕ) → key_refusal key ≡ None → IsSized key [] 0
sized key e = by-tests (length key == 0) (nat_lt 255 (length key)) refl refl e
  where
    by-tests : (empty long : Bool) → (length key == 0) ≡ empty → nat_lt 255 (length key) ≡ long → (if empty then Some KeyEmpty else (if long then Some KeyTooLong else None)) ≡ None → IsSized key [] 0
    by-tests true long is_empty is_long e = absurd cc
    by-tests false true is_empty is_long e = absurd cc
    by-tests false false is_empty is_long e = record { some_key = grind (arith, nat_tests, is_empty); short_key = grind (arith, nat_tests, is_long); short_value = omega arith; second = omega arith }

unless-sized : (line : Line) (refusal : Option Refusal) → (refusal ≡ None → LineSized line) → DeedSized (unless refusal line)
unless-sized line None h = h refl
unless-sized line (Some refusal) h = tt

step-sized : (step : Step) → DeedSized (step_deed step)
step-sized (Set item) = unless-sized _ (key_refusal item.key) (sized item.key)
step-sized (Add item) = unless-sized _ (key_refusal item.key) (sized item.key)
step-sized (Get key) = unless-sized (world.Get key) (key_refusal key) (λ e. tt)
step-sized (Del key) = unless-sized (world.Del key) (key_refusal key) (λ e. tt)
step-sized (Now moment) = tt

work-sized : (work : Work) → LineSized (work_line work)
work-sized Writer = tt
work-sized Filler = tt
work-sized Reclaim = tt
work-sized (Io job fails) = tt
work-sized (Finish job) = tt
work-sized (Reply call) = tt

deed-sized : (action : Action) → DeedSized (deed_of action)
deed-sized (Do step) = step-sized step
deed-sized (Serve work) = work-sized work
deed-sized Restart = tt

more-sized : (deed : Deed) (lines : List Line) → DeedSized deed → AllLineSized lines → AllLineSized (acted deed lines)
more-sized (Acts line) lines h rest = (h, rest)
more-sized (Barred refusal) lines h rest = rest
more-sized Rests lines h rest = rest

all-sized : (actions : List Action) → AllLineSized (acted_lines actions)
all-sized [] = tt
all-sized (action ∷ actions) = more-sized (deed_of action) (acted_lines actions) (deed-sized action) (all-sized actions)

pub logs_are_right : LogsAreRight
logs_are_right config actions right =
    let run = headline config [] (acted_lines actions) right (all-sized actions) in
    let same = sym (same-log actions (fresh config)) in
    record { legal = rw same at run.legal; honest = rw same at run.honest }

pub traces_are_runs : TracesAreRuns
traces_are_runs config actions right = record {
  log = same-log actions (fresh config) ∙ sym (log-is config [] (acted_lines actions));
  promised = headline_of_schedules config [] (steps_of (acted_lines actions)) right (lines_sized (acted_lines actions) (all-sized actions));
}
