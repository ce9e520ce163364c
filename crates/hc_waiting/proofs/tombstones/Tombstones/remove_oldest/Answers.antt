-- The oldest tombstone ends.
use Rattle.std.proofs.Common.{◌∙◌, ap, sym}
use Rattle.std.specs.Prelude.{option_map}
use Rattle.std.specs.List.{slice_get}
use Rattle.std.proofs.lemmas.Option.{slice_get-map}
use Rattle.hc_machine.specs.Nvm.{Tombstone}
use Rattle.hc_waiting.specs.Tombstones.{stone_in}
use Rattle.hc_waiting.proofs.Mapped.{but-first-map}
use Rattle.hc_waiting.proofs.Stones.{buried_but_first, option-map-map}
use Rattle.hc_waiting.proofs.tombstones.Tombstones.remove_oldest.Goals as goal

pub invariant_of-self : goal.invariant_of-self
invariant_of-self g c = let i = c.self.invariant in (i.0, i.1, i.2, rw c.remove_oldest.ensures.pieces (buried_but_first c.self.inside.flash c.self.inside.line.pieces i.3))

pub returns-clause-key : goal.returns-clause-key
returns-clause-key g c =
    rw (← c.self.view_is) (c.key_of.ensures ∙ ap (option_map _) c.remove_oldest.ensures.piece
    ∙ sym (option-map-map (λ (stone : Tombstone). stone.key) stone_in (slice_get c.self.inside.line.pieces 0))
    ∙ ap (option_map (λ (stone : Tombstone). stone.key)) (sym (slice_get-map stone_in c.self.inside.line.pieces 0)))

pub returns-clause-stones : goal.returns-clause-stones
returns-clause-stones g c = rw (← c.self.view_is, c.remove_oldest.ensures.pieces) (but-first-map stone_in c.self.inside.line.pieces)
