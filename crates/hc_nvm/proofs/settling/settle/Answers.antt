use Rattle.hc_history.specs.Note.{Flushed, Cleared}
use Rattle.hc_machine.specs.Takes.{region_note, ends_with, written_note}
use Rattle.hc_nvm.specs.After.{held_part, raised}
use Rattle.hc_nvm.specs.Seen.{task_of}
use Rattle.hc_nvm.proofs.Settles.{told-settled}
use Rattle.hc_nvm.proofs.settling.settle.Goals as goal

pub returns-clause-told : goal.returns-clause-told
returns-clause-told g c =
    let stones = c.args.stones.now in
    rw (← c.outcome.view_is, ← c.hold_parts.ensures.left)
    (told-settled (held_part stones.flash c.outcome.inside.opened c.outcome.inside.losses.items stones.stones) (raised (ends_with (task_of c.args.task)) c.hold_parts.new.stones.stones)
    (written_note (task_of c.args.task)) (region_note Flushed c.outcome.inside.flushed) (region_note Cleared c.outcome.inside.cleared)
    (g.N.Listener.told c.args.notes.now) (g.N.Listener.told c.hold_parts.new.notes) (g.N.Listener.told c.close.new.notes) (g.N.Listener.told c.flushed.new.notes) (g.N.Listener.told c.cleared.new.notes)
    c.hold_parts.ensures.told c.close.ensures.told c.flushed.ensures.told c.cleared.ensures.told)
