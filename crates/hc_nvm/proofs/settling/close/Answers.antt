use Rattle.std.proofs.Common.{List, [], ◌∷◌, ◌++◌, map, sym, ap, ◌∙◌}
use Rattle.hc_history.specs.Note.{Raised, Written}
use Rattle.hc_history.specs.Told.{told_more}
use Rattle.hc_history.proofs.Telling.{told-nothing}
use Rattle.hc_machine.specs.Nvm.{Tombstone, Putting, Filling, Flushing}
use Rattle.hc_machine.specs.Takes.{ends_with}
use Rattle.hc_nvm.proofs.Raises.{all-stand, nothing-passes}
use Rattle.hc_nvm.proofs.settling.close.Goals as goal

pub returns-in-Put-clause-left : goal.returns-in-Put-clause-left
returns-in-Put-clause-left g c =
    let stones = c.args.stones.now.stones in
    rw c.in-Put.is (sym (all-stand (ends_with (Putting c.in-Put.key)) stones (nothing-passes stones)))

pub returns-in-Put-clause-told : goal.returns-in-Put-clause-told
returns-in-Put-clause-told g c =
    let log = g.N.Listener.told c.args.notes.now in
    rw c.in-Put.is (c.written.ensures.told ∙ ap (λ (ended : List Tombstone). told_more log (map (λ (stone : Tombstone). Raised stone.key) ended ++ Written c.in-Put.key ∷ [])) (sym (nothing-passes c.args.stones.now.stones)))

pub returns-in-Fill-clause-left : goal.returns-in-Fill-clause-left
returns-in-Fill-clause-left g c =
    let stones = c.args.stones.now.stones in
    rw c.in-Fill.is (sym (all-stand (ends_with Filling) stones (nothing-passes stones)))

pub returns-in-Fill-clause-told : goal.returns-in-Fill-clause-told
returns-in-Fill-clause-told g c =
    let log = g.N.Listener.told c.args.notes.now in
    rw c.in-Fill.is (sym (told-nothing log) ∙ ap (λ (ended : List Tombstone). told_more log (map (λ (stone : Tombstone). Raised stone.key) ended ++ [])) (sym (nothing-passes c.args.stones.now.stones)))

pub returns-in-Flush-clause-left : goal.returns-in-Flush-clause-left
returns-in-Flush-clause-left g c =
    let stones = c.args.stones.now.stones in
    rw c.in-Flush.is (sym (all-stand (ends_with Flushing) stones (nothing-passes stones)))

pub returns-in-Flush-clause-told : goal.returns-in-Flush-clause-told
returns-in-Flush-clause-told g c =
    let log = g.N.Listener.told c.args.notes.now in
    rw c.in-Flush.is (sym (told-nothing log) ∙ ap (λ (ended : List Tombstone). told_more log (map (λ (stone : Tombstone). Raised stone.key) ended ++ [])) (sym (nothing-passes c.args.stones.now.stones)))
