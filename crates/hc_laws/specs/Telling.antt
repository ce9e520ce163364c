-- What a call tells that is answered at once: its begin, its answer and its end, in this order, and of no other call but answers.
use Rattle.std.specs.Prelude.{◌≡◌, ℕ, ◌+◌, Bool, true, false, List, [], ◌∷◌, ◌++◌}
use Rattle.hc_memory.specs.Item.{Handle}
use Rattle.hc_memory.specs.Memory.{linked_at}
use Rattle.hc_history.specs.Note.{Note, Op, Insert, Add, Find, Remove, Reply, Begin, Did, End}
use Rattle.hc_machine.specs.Cache.{Cache, Moved, Replied}
use Rattle.hc_machine.specs.Calls.{insert_or_replace, insert, find, remove_reply, remove}
use Rattle.hc_laws.specs.First.{NonePasses}

-- a call begins or ends
abbrev pub begins_or_ends : Note → Bool
begins_or_ends (Begin call client op) = true
begins_or_ends (End call) = true
begins_or_ends note = false

-- or it is answered
abbrev pub is_of_call : Note → Bool
is_of_call (Begin call client op) = true
is_of_call (Did call reply) = true
is_of_call (End call) = true
is_of_call note = false

-- The call has the next number. Up to its answer nothing is told of any call; behind it only answers are, to calls that waited.
pub record Framed (client : ℕ) (op : Op) (reply : Reply) (cache : Cache) (moved : Moved) : Type 0 where
  pub before : List Note
  pub behind : List Note
  pub part : moved.part ≡ Begin (cache.calls + 1) client op ∷ (before ++ Did (cache.calls + 1) reply ∷ (behind ++ End (cache.calls + 1) ∷ []))
  pub no_call : NonePasses is_of_call before
  pub no_frame : NonePasses begins_or_ends behind
  pub counted : moved.cache.calls ≡ cache.calls + 1

pub record CallsAreFramed (client : ℕ) (cache : Cache) : Type 0 where
  pub replaces : (handle : Handle) (reply : Reply) → (insert_or_replace client handle cache).answer ≡ Replied reply → Framed client (Insert handle.key handle.value handle.expiry) reply cache (insert_or_replace client handle cache)
  pub adds : (handle : Handle) (reply : Reply) → (insert client handle cache).answer ≡ Replied reply → Framed client (Add handle.key handle.value handle.expiry) reply cache (insert client handle cache)
  pub finds : (key : List ℕ) (reply : Reply) → (find client key cache).answer ≡ Replied reply → Framed client (Find key) reply cache (find client key cache)
  pub removes : (key : List ℕ) → Framed client (Remove key) (remove_reply (linked_at key cache.memory.pools)) cache (remove client key cache)

abbrev pub AnswersAreFramed : Type 0
AnswersAreFramed = (client : ℕ) (cache : Cache) → CallsAreFramed client cache
