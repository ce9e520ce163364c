use Rattle.std.proofs.Common.{ap, ◌∙◌}
use Rattle.hc_block.specs.Indexes.{pairs_of}
use Rattle.hc_block.proofs.Pairs.{insert-is}
use Rattle.hc_block.proofs.segment.Segment.insert.Goals as goal
use Rattle.hc_block.proofs.segment.Segment.insert.Goals.{in-Ok, in-Err}

pub returns-clause-ok : goal.returns-clause-ok
returns-clause-ok g c = elim c.match-insert.branch [
  | in-Ok w ↦ rw (w.result-is, ← c.self.view_is) (ap pairs_of w.in-Ok.ensures.entries ∙ insert-is c.args.hash c.args.place c.self.inside.map.entries)
  | in-Err w ↦ rw w.result-is tt
]
