-- In the midst of a step: what still holds of flash while some keys are on their way.
use Rattle.std.specs.Prelude.{ℕ, ◌≤◌, Bool, false, not, List, [], ◌∷◌, length, filter, Option, Some, None}
use Rattle.std.specs.Str.{bytes_eq}
use Rattle.hc_types.specs.Tally.{count}
use Rattle.hc_types.specs.declared.config.FlashConfig.{FlashConfig}
use Rattle.hc_engines.specs.Engine.{Pages}
use Rattle.hc_memory.specs.Memory.{Memory}
use Rattle.hc_history.specs.Note.{Note}
use Rattle.hc_history.specs.Pages.{bytes_at}
use Rattle.hc_machine.specs.Nvm.{Nvm, Fill, is_fill_of, is_number_in, adds}
use Rattle.hc_invariant.specs.Tells.{WaitsTell, waiters_of}
use Rattle.hc_invariant.specs.Jobs.{JobsRun, AllFill}
pub use Rattle.hc_invariant.specs.Jobs.{AllWishes}
use Rattle.hc_invariant.specs.Good.{EnginesFit, AllSized, InPools, NoFlash}

-- the fills of the keys that aren't on their way
abbrev pub still : (List ℕ → Bool) → List Fill → List Fill
still moves fills = filter (λ (fill : Fill). not (moves fill.key)) fills

-- the fills: what those wait for whose key is on its way is asked of their calls alone
pub record FillsInMidst (pages : Pages) (memory : Memory) (nvm : Nvm) (moves : List ℕ → Bool) : Type 0 where
  pub each : AllFill pages memory nvm (still moves nvm.fills)
  pub wishes : AllWishes memory nvm.fills
  pub one : (key : List ℕ) → count (is_fill_of key) nvm.fills ≤ 1
  pub one_each : (n : ℕ) → count (λ (fill : Fill). is_number_in n fill.job) nvm.fills ≤ 1
  pub one_add : (n : ℕ) → count (adds n) (waiters_of nvm.fills) ≤ 1

pub record FlashInMidst (flash : FlashConfig) (older : List Note) (memory : Memory) (nvm : Nvm) (moves : List ℕ → Bool) : Type 0 where
  pub engines : EnginesFit flash older nvm
  pub waits : WaitsTell older nvm
  pub jobs : JobsRun nvm
  pub fills : FillsInMidst (bytes_at older) memory nvm moves
  pub pools : InPools (length memory.pools) nvm.queue
  pub adds : AllSized (length memory.pools) (waiters_of nvm.fills)

abbrev pub FlashMidst : Option FlashConfig → List Note → Memory → Option Nvm → (List ℕ → Bool) → Type 0
FlashMidst None older memory None moves = NoFlash older
FlashMidst (Some flash) older memory (Some nvm) moves = FlashInMidst flash older memory nvm moves
FlashMidst flash older memory nvm moves = ⊥

-- between two steps no key moves
abbrev pub none_moves : List ℕ → Bool
none_moves key = false

-- this key is on its way, and no other
abbrev pub only : List ℕ → List ℕ → Bool
only key k = bytes_eq k key
