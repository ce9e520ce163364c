-- The bucket's first tombstone ends.
use Rattle.std.proofs.Common.{◌∙◌, ap, sym}
use Rattle.std.specs.Prelude.{option_map}
use Rattle.std.specs.List.{find}
use Rattle.hc_machine.specs.Nvm.{Tombstone}
use Rattle.hc_waiting.specs.Line.{in_lane}
use Rattle.hc_waiting.specs.Tombstones.{stone_in}
use Rattle.hc_waiting.proofs.Stones.{first_of_bucket, without_first_of_bucket, buried_but, option-map-map}
use Rattle.hc_waiting.proofs.tombstones.Tombstones.remove_first.Goals as goal

pub invariant_of-self : goal.invariant_of-self
invariant_of-self g c = let i = c.self.invariant in (i.0, i.1, i.2, rw c.remove_first.ensures.pieces (buried_but c.self.inside.flash (in_lane c.args.bucket) c.self.inside.line.pieces i.3))

pub returns-clause-key : goal.returns-clause-key
returns-clause-key g c =
    rw (← c.self.view_is) (c.key_of.ensures ∙ ap (option_map _) c.remove_first.ensures.piece
    ∙ sym (option-map-map (λ (stone : Tombstone). stone.key) stone_in (find (in_lane c.args.bucket) c.self.inside.line.pieces))
    ∙ ap (option_map (λ (stone : Tombstone). stone.key)) (first_of_bucket c.self.inside.flash c.args.bucket c.self.inside.line.pieces c.self.invariant.3))

pub returns-clause-stones : goal.returns-clause-stones
returns-clause-stones g c = rw (← c.self.view_is, c.remove_first.ensures.pieces) (without_first_of_bucket c.self.inside.flash c.args.bucket c.self.inside.line.pieces c.self.invariant.3)
