use Rattle.std.proofs.Common.{◌≡◌, [], take}
use Rattle.hc_history.specs.Books as books
use Rattle.hc_history.specs.Lawful.{past}
use Rattle.hc_client_records.proofs.reached.now_at.Given as goal

abbrev pub invariant-loop-note : goal.invariant-loop-note
invariant-loop-note l = l.moment ≡ books.now_at (past [] (take l.note-index l.notes))
