-- What is asked of what waits.
use Rattle.std.specs.Prelude.{List, [], Option, Some, None}
use Rattle.hc_machine.specs.Nvm.{Fill, Waiter}

-- the calls that a fill's key is brought for
abbrev pub calls_of : Option Fill → List Waiter
calls_of None = []
calls_of (Some fill) = fill.waiters
