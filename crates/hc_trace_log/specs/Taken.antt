-- What is heard of lines behind a configuration.
use Rattle.std.specs.Prelude.{◌≡◌, ℕ, ◌+◌, [], Option, Some, None, MatchOption}
use Rattle.hc_history.specs.Told.{Heard, told_more}
use Rattle.hc_trace_text.specs.Grammar.{Line}
use Rattle.hc_player.specs.Playing.{Playing, world_of}
use Rattle.hc_trace_meaning.specs.Trace.{Actions, action_line, notes_of}

-- what is heard behind lines, and the line of a fault, where there is one
pub record Behind : Type 0 where
  pub log : Heard
  pub fault : Option ℕ

abbrev pub behind : Playing → Actions → Behind
behind p rest = record { log = told_more p.log (notes_of (world_of p) rest.actions); fault = rest.fault }

-- The line is taken: whatever comes behind it, what is heard is the same.
abbrev pub GoesOn : Line → Playing → Playing → Type 0
GoesOn line old new = (n : ℕ) (later : Actions) → behind new later ≡ behind old (action_line n line later)

-- the line has a fault
abbrev pub Stops : Line → Type 0
Stops line = (n : ℕ) (later : Actions) → action_line n line later ≡ record { actions = []; fault = Some (n + 1) }

-- the lines were taken, all of them or up to this fault
abbrev pub IsHeard : Actions → Option ℕ → Playing → Playing → Type 0
IsHeard rest fault old new = MatchOption fault (behind old rest ≡ record { log = new.log; fault = None }) (λ line. rest.fault ≡ Some line)
