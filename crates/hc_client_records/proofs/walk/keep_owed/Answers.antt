use Rattle.std.proofs.Common.{◌≡◌}
use Rattle.std.specs.Ordering.{nat_cmp}
use Rattle.std.specs.BTreeMap.{get}
use Rattle.hc_history.specs.Note.{End}
use Rattle.hc_client_records.proofs.Owing.{owed-left}
use Rattle.hc_client_records.proofs.walk.keep_owed.Goals as goal

pub returns-in-End : goal.returns-in-End
returns-in-End c = λ older were call.
    let at : c.args.note.now ≡ End c.in-End.call = cc in
    rw at (owed-left older c.in-End.call call (get nat_cmp c.args.owed.now call) (get nat_cmp c.remove.new.self call) (c.remove.ensures.updates.0 call) (were call))
