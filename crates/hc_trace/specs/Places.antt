-- Where a replay stands, and what it printed on the way.
use Rattle.std.specs.Prelude.{◌≡◌, ℕ, ◌+◌, List, [], ◌++◌, Option}
use Rattle.std.specs.Io.KnownBytes.{Appends}
use Rattle.hc_types.specs.declared.config.FlashConfig.{FlashConfig}
use Rattle.hc_history.specs.Note.{Note}
use Rattle.hc_history.specs.Told.{Heard, Counts, no_counts}
use Rattle.hc_history.specs.declared.stats.Stats.{Stats}
use Rattle.hc_trace_text.specs.Lines.{lines_of}
use Rattle.hc_trace_text.specs.Texts.{fault_text}
use Rattle.hc_player.specs.Alike.{Alike}
use Rattle.hc_player.specs.Playing.{world_of}
use Rattle.hc_trace_meaning.specs.Turns as turns
use Rattle.hc_trace_meaning.specs.Turns.{Turn, stops, with_flash, output_from}
use Rattle.hc_trace_meaning.specs.Trace.{onto}
use Rattle.hc_trace.specs.declared.state.State.{State}
use Rattle.hc_trace.specs.declared.state.State.TheVariants.{Configuring, Running}

-- the counts that are heard, and the losses that weren't taken
abbrev pub counts_in : Heard → Stats
counts_in (Counts counts losses) = counts
counts_in heard = no_counts

abbrev pub losses_in : Heard → List Note
losses_in (Counts counts losses) = losses
losses_in heard = []

-- where the trace stands
abbrev pub place_of : State → turns.State
place_of (Configuring config) = turns.Configuring config.pools
place_of (Running player) = turns.Running (world_of player) (counts_in player.log)

-- it is counted, and all its losses were taken
abbrev pub IsCounted : Heard → Type 0
IsCounted heard = heard ≡ Counts (counts_in heard) []

-- between two lines
abbrev pub IsBetween : State → Type 0
IsBetween (Configuring config) = Unit {0}
IsBetween (Running player) = IsCounted player.log

-- the replay stands there, but for the order of results that wait
abbrev pub IsAt : State → turns.State → Type 0
IsAt (Configuring config) (turns.Configuring sizes) = config.pools ≡ sizes
IsAt (Running player) (turns.Running world counts) = Alike (world_of player) world × (player.log ≡ Counts counts [])
IsAt state place = ⊥

-- the end of the configuration with this flash, where n lines stand before it
abbrev pub closed : ℕ → turns.State → Option FlashConfig → Turn
closed n (turns.Configuring sizes) flash = with_flash sizes flash
closed n place flash = stops place (fault_text (n + 1))

-- the output of bytes
abbrev pub output_after : ℕ → turns.State → List ℕ → List ℕ × ℕ
output_after n place bytes = output_from n place (lines_of bytes)

-- Of the bytes, from a place after n lines, some text was written. Whatever comes next, it is what the output begins with,
-- and the rest is that of the line, from the next place, after m lines.
pub record Leads (old new : Option (List ℕ)) (n : ℕ) (place : turns.State) (bytes : List ℕ) (m : ℕ) (next : turns.State) (line : List ℕ) : Type 0 where
  pub text : List ℕ
  pub wrote : Appends old new text
  pub follows : (more : List ℕ) → output_after n place (bytes ++ more) ≡ onto text (output_after m next (line ++ more))

-- the same where the trace stops in these bytes, so that the text is the output
pub record Ends (old new : Option (List ℕ)) (n : ℕ) (place : turns.State) (bytes : List ℕ) : Type 0 where
  pub text : List ℕ
  pub wrote : Appends old new text
  pub follows : (more : List ℕ) → output_after n place (bytes ++ more) ≡ (text, 1)
