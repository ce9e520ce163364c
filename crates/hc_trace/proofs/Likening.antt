-- No line can tell worlds apart that are alike, so the output behind them is the same.
use Rattle.std.proofs.Common.{◌≡◌, ℕ, ◌+◌, List, [], ◌∷◌, ◌++◌, None, refl, sym, ap, ◌∙◌}
use Rattle.hc_types.specs.declared.config.PoolSize.{PoolSize}
use Rattle.hc_history.specs.Told.{Counts, counts_more}
use Rattle.hc_history.specs.declared.stats.Stats.{Stats}
use Rattle.hc_trace_text.specs.Grammar as grammar
use Rattle.hc_trace_text.specs.Grammar.{Skipped, Says, Fault, Pool, NoFlash, Flash, line_of}
use Rattle.hc_trace_text.specs.Texts.{losses_text}
use Rattle.hc_machine.specs.World.{World}
use Rattle.hc_player.specs.Alike.{Alike}
use Rattle.hc_player.proofs.Likening.{act-alike}
use Rattle.hc_trace_meaning.specs.Actions.{Action, Do, Serve, Restart, act}
use Rattle.hc_trace_meaning.specs.Trace.{action_text, answered_text, ending, onto}
use Rattle.hc_trace_meaning.specs.Turns as turns
use Rattle.hc_trace_meaning.specs.Turns.{turned, after_turn, output_from}
use Rattle.hc_trace.specs.declared.state.State.{State}
use Rattle.hc_trace.specs.declared.state.State.TheVariants.{Configuring, Running}
use Rattle.hc_trace.specs.Places.{counts_in, place_of, IsBetween, IsAt}

-- ---- all lines

-- the lines from here on come to the same
abbrev Later : ℕ → List (List ℕ) → Type 0
Later n lines = (a b : World) (c d : Stats) → Alike a b → c ≡ d → output_from n (turns.Running a c) lines ≡ output_from n (turns.Running b d) lines

acted_same : (n : ℕ) (lines : List (List ℕ)) → Later (n + 1) lines → (a b : World) (c d : Stats) → Alike a b → c ≡ d → (action : Action)
    → onto (action_text (act action a)) (output_from (n + 1) (turns.Running (act action a).world (counts_more c (act action a).notes)) lines)
    ≡ onto (action_text (act action b)) (output_from (n + 1) (turns.Running (act action b).world (counts_more d (act action b).notes)) lines)
acted_same n lines rest a b c d l e action =
    let m = act-alike a b l action in
    let counts : counts_more c (act action a).notes ≡ counts_more d (act action b).notes = λ i. counts_more (e i) (m.notes i) in
    let later = rest (act action a).world (act action b).world (counts_more c (act action a).notes) (counts_more d (act action b).notes) m.world counts in
    λ i. onto (answered_text (m.answer i) ++ losses_text (m.notes i)) (later i)

line_same : (n : ℕ) (lines : List (List ℕ)) → Later (n + 1) lines → (a b : World) (c d : Stats) → Alike a b → c ≡ d → (line : grammar.Line)
    → after_turn (turned n (turns.Running a c) line) (output_from (n + 1) (turned n (turns.Running a c) line).state lines) ≡ after_turn (turned n (turns.Running b d) line) (output_from (n + 1) (turned n (turns.Running b d) line).state lines)
line_same n lines rest a b c d l e Skipped = ap (onto []) (rest a b c d l e)
line_same n lines rest a b c d l e (Says (Pool bytes items)) = refl
line_same n lines rest a b c d l e (Says NoFlash) = refl
line_same n lines rest a b c d l e (Says (Flash flash)) = refl
line_same n lines rest a b c d l e (Says (grammar.Do s)) = acted_same n lines rest a b c d l e (Do s)
line_same n lines rest a b c d l e (Says (grammar.Serve work)) = acted_same n lines rest a b c d l e (Serve work)
line_same n lines rest a b c d l e (Says grammar.Restart) = acted_same n lines rest a b c d l e Restart
line_same n lines rest a b c d l e Fault = refl

same_output : (n : ℕ) (lines : List (List ℕ)) → Later n lines
same_output n [] a b c d l e = ap (λ (s : Stats). ending s None) e
same_output n (line ∷ lines) a b c d l e = line_same n lines (same_output (n + 1) lines) a b c d l e (line_of line)

-- where the replay stands is as good as the place
pub at-same : (state : State) (place : turns.State) → IsAt state place → (n : ℕ) (lines : List (List ℕ)) → output_from n (place_of state) lines ≡ output_from n place lines
at-same (Configuring config) (turns.Configuring sizes) at n lines = ap (λ (s : List PoolSize). output_from n (turns.Configuring s) lines) at
at-same (Configuring config) (turns.Running w counts) at n lines = absurd at
at-same (Running player) (turns.Configuring sizes) at n lines = absurd at
at-same (Running player) (turns.Running w counts) at n lines = same_output n lines _ w _ counts at.0 (ap counts_in at.1)

pub at-between : (state : State) (place : turns.State) → IsAt state place → IsBetween state
at-between (Configuring config) (turns.Configuring sizes) at = tt
at-between (Configuring config) (turns.Running w counts) at = absurd at
at-between (Running player) (turns.Configuring sizes) at = absurd at
at-between (Running player) (turns.Running w counts) at = at.1 ∙ ap (λ (c : Stats). Counts c []) (sym (ap counts_in at.1))
