use Rattle.std.proofs.Common.{◌≡◌, ℕ, ◌<◌, [], ◌++◌, length, take, drop}
use Rattle.std.specs.Prelude.{get_or}
use Rattle.std.specs.Ordering.{nat_cmp}
use Rattle.std.specs.BTreeMap.{get}
use Rattle.hc_history.specs.Lawful.{past}
use Rattle.hc_client_records.specs.Records.{finished}
use Rattle.hc_client_records.specs.Walk.{AreBegun, AreOwed}
use Rattle.hc_client_records.proofs.walk.finished_calls.Given as goal

-- with what the notes that are left finish, the calls of each client are those that the whole log finishes
abbrev pub invariant-loop-note : goal.invariant-loop-note
invariant-loop-note l = record {
  begun : AreBegun (get nat_cmp l.begun) (past [] (take l.note-index l.log));
  owed : AreOwed (get nat_cmp l.owed) (past [] (take l.note-index l.log));
  clients : length l.clients.items ≡ 256;
  finished : (client : ℕ) → client < 256 → get_or l.clients.items client [] ++ finished client (past [] (take l.note-index l.log)) (drop l.note-index l.log) ≡ finished client [] l.log;
}
