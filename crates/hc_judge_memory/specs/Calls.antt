-- What is asked of the calls, for one number.
use Rattle.std.specs.Prelude.{ℕ, ◌==◌, nat_lt, Bool, ◌&&◌, List, Option, option_map}
use Rattle.hc_types.specs.Tally.{count}
use Rattle.hc_history.specs.Note.{Op, Reply, Note}
use Rattle.hc_history.specs.Books.{Call, Answer, open_calls, open_call, owed}
use Rattle.hc_history.specs.Lawful.{changes}

-- what the last open call of this number asks for
abbrev pub open_op : ℕ → List Note → Option Op
open_op call older = option_map (λ (c : Call). c.op) (open_call call (open_calls older))

-- a reply of the call is owed
abbrev pub is_owed : List Note → ℕ → Bool
is_owed older call = nat_lt 0 (count (λ (answer : Answer). answer.number == call) (owed older))

-- an open call of this number, so answered, changes the key
abbrev pub is_changed_by : ℕ → Reply → List ℕ → List Note → Bool
is_changed_by call reply key older = nat_lt 0 (count (λ (c : Call). (c.number == call) && changes c.op reply key) (open_calls older))
