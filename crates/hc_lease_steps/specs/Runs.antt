-- A cache with its stamps: any calls, one after the other, and what a ticket promises of them.
use Rattle.std.specs.Prelude.{◌≡◌, ℕ, ◌<◌, true, List, [], ◌∷◌, ◌++◌, length, Some, None}
use Rattle.hc_types.specs.Config.{Config}
use Rattle.hc_types.specs.Limits.{first_wrong}
use Rattle.hc_history.specs.Lawful.{past}
use Rattle.hc_history.specs.Honest.{Honest}
use Rattle.hc_machine.specs.Cache.{Cache, Moved, Answer, Replied, Waits, new_cache}
use Rattle.hc_machine.specs.Call.{CacheCall, Inserts, Adds, Removes, Replies, act, acts}
use Rattle.hc_theorem.specs.runs.Honesty.{AllCallSized}
use Rattle.hc_lease.specs.Stamps.{Stamps, ticket_at, is_fresh}
use Rattle.hc_lease_log.specs.Log.{Kind, Changing, Waiting, Replying, Other, Step, stamps_after, changes_of}

-- what the stamps hear of a call of the machine, by what it is answered
abbrev pub kind_of : CacheCall → Answer → Kind
kind_of (Inserts client handle) (Replied reply) = Changing handle.key
kind_of (Adds client handle) (Replied reply) = Changing handle.key
kind_of (Adds client handle) (Waits call) = Waiting call handle.key
kind_of (Removes client key) answer = Changing key
kind_of (Replies call) (Replied reply) = Replying call
kind_of event answer = Other

abbrev pub step_of : CacheCall → Moved → Step
step_of event moved = record { kind = kind_of event moved.answer; part = moved.part }

abbrev pub steps_of : List CacheCall → Cache → List Step
steps_of [] cache = []
steps_of (event ∷ events) cache = step_of event (act event cache) ∷ steps_of events (act event cache).cache

-- the stamps after these calls of the machine
abbrev pub stamps_by : List CacheCall → Cache → Stamps → Stamps
stamps_by events cache stamps = stamps_after (steps_of events cache) stamps

-- Of any calls of a new cache, whatever results are handed in: as long as its log is honest, a ticket that was handed
-- out after some of them and is fresh for a key after all of them was handed out after the last answer that changed the
-- key.
abbrev pub TicketsHold : Type 0
TicketsHold = (config : Config) (stamps : Stamps) (earlier later : List CacheCall) (key : List ℕ) (ticket : ℕ)
    → first_wrong config ≡ None → AllCallSized (earlier ++ later) → Honest (acts (earlier ++ later) (new_cache config)).log
    → 0 < length stamps.slots → stamps.adds ≡ []
    → ticket_at (stamps_by earlier (new_cache config) stamps) ≡ Some ticket
    → is_fresh key ticket (stamps_by (earlier ++ later) (new_cache config) stamps) ≡ true
    → changes_of key (past [] (acts (earlier ++ later) (new_cache config)).log) ≡ changes_of key (past [] (acts earlier (new_cache config)).log)
