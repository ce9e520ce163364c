use Rattle.std.proofs.Common.{List, map, sym, ap, ◌∙◌}
use Rattle.hc_history.specs.Note.{Raised}
use Rattle.hc_history.specs.Told.{told_more}
use Rattle.hc_history.proofs.Telling.{told-nothing}
use Rattle.hc_machine.specs.Nvm.{Tombstone}
use Rattle.hc_nvm.specs.After.{by_bucket}
use Rattle.hc_nvm.proofs.Raises.{all-stand, none-given-up}
use Rattle.hc_nvm.proofs.settling.raise_lost.Goals as goal

pub returns-in_default-clause-left : goal.returns-in_default-clause-left
returns-in_default-clause-left g c =
    let stones = c.args.stones.now in
    sym (all-stand (by_bucket stones.flash c.args.bucket) stones.stones (none-given-up stones.flash c.args.bucket stones.stones c.in_default.is))

pub returns-in_default-clause-told : goal.returns-in_default-clause-told
returns-in_default-clause-told g c =
    let stones = c.args.stones.now in
    let log = g.N.Listener.told c.args.notes.now in
    sym (told-nothing log) ∙ ap (λ (ended : List Tombstone). told_more log (map (λ (stone : Tombstone). Raised stone.key) ended)) (sym (none-given-up stones.flash c.args.bucket stones.stones c.in_default.is))
