-- What calls answer, and why they are refused.
use Rattle.std.specs.Prelude.{◌≡◌, ◌⊎◌, Bool, false, Option, Some, None}
use Rattle.hc_types.specs.declared.refusal.Refusal.{Refusal}
use Rattle.hc_types.specs.declared.refusal.Refusal.TheVariants.{NoMemory}
use Rattle.hc_machine.specs.Cache.{Answer, Refused, Took}
use Rattle.hc_nvm.specs.Seen.{finds_work}
pub use Rattle.hc_waiting.specs.Replies.{IsNextReply}

-- why the machine refuses the call, where it does
abbrev pub refusal_in : Answer → Option Refusal
refusal_in (Refused refusal) = Some refusal
refusal_in answer = None

-- the call is refused as the machine refuses it, and where the machine doesn't, only when out of memory
abbrev pub IsReason : Answer → Refusal → Type 0
IsReason answer refusal = (refusal_in answer ≡ Some refusal) ⊎ ((refusal_in answer ≡ None) × (refusal ≡ NoMemory))

-- the worker's take found something to do
abbrev pub is_work : Answer → Bool
is_work (Took take) = finds_work take
is_work answer = false
