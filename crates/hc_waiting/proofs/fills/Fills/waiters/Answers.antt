-- The calls that wait for the key's fill.
use Rattle.std.proofs.Common.{◌∙◌, ap, sym}
use Rattle.std.specs.Prelude.{option_map}
use Rattle.hc_machine.specs.Nvm.{Fill}
use Rattle.hc_queue.specs.declared.queue.Piece.{Piece}
use Rattle.hc_queue.specs.declared.keyed.Named.{Named}
use Rattle.hc_waiting.specs.Line.{piece_of}
use Rattle.hc_waiting.specs.Fills.{fill_in}
use Rattle.hc_waiting.proofs.Stones.{option-map-map}
use Rattle.hc_waiting.proofs.Filling.{fill_there}
use Rattle.hc_waiting.proofs.fills.Fills.waiters.Goals as goal

pub returns : goal.returns
returns g c =
    let found = piece_of c.args.key.now c.self.inside.line.pieces in
    rw (← c.self.view_is) (ap (option_map _) (c.waiters_in.ensures ∙ ap (option_map _) c.get.ensures)
    ∙ (option-map-map _ (λ (piece : Piece (Named _ _)). piece.value.value.waiters) found
    ∙ (sym (option-map-map (λ (fill : Fill). fill.waiters) fill_in found)
    ∙ ap (option_map (λ (fill : Fill). fill.waiters)) (fill_there c.args.key.now c.self.inside.line.pieces))))
