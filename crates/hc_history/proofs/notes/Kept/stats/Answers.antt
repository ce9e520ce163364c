use Rattle.hc_history.proofs.Counts.{counts-past}
use Rattle.hc_history.proofs.notes.Kept.stats.Goals as goal

pub returns : goal.returns
returns g c =
    let i = c.notes.invariant in
    let past = rw c.as_slice-note-items.ensures.value at c.notes-test.false in
    counts-past c.notes.counts c.args.self.now.notes.items c.notes.note-index past i.stored i.hits i.misses i.removes i.losses i.reads i.writes
