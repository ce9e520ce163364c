-- A fill is over.
use Rattle.std.proofs.Common.{◌∙◌, ap, sym, not}
use Rattle.std.specs.Prelude.{option_map}
use Rattle.hc_machine.specs.Nvm.{Fill}
use Rattle.hc_waiting.specs.Line.{has_key, piece_of}
use Rattle.hc_waiting.specs.Fills.{fill_in}
use Rattle.hc_waiting.proofs.Stones.{option-map-map}
use Rattle.hc_waiting.proofs.Filling.{fill_there, fills_without, filled_where}
use Rattle.hc_waiting.proofs.Led.{led_without}
use Rattle.hc_waiting.proofs.fills.Fills.remove.Goals as goal

pub invariant_of-self : goal.invariant_of-self
invariant_of-self g c = let i = c.self.invariant in (i.0, i.1, i.2, rw c.remove-piece.ensures.pieces (filled_where c.self.inside.flash (λ piece. not (has_key c.args.key.now piece)) c.self.inside.line.pieces i.3), led_without c.self.inside.keys c.forget.new.keys c.args.key.now c.remove-piece.result c.job_of.result c.self.inside.line.pieces c.remove-piece.new.self.pieces c.is_sound.ensures c.remove-piece.ensures.piece c.job_of.ensures c.remove-piece.ensures.pieces c.forget.ensures.leads i.4)

pub returns-clause-waiters : goal.returns-clause-waiters
returns-clause-waiters g c =
    rw (← c.self.view_is) (c.waiters_of.ensures ∙ ap (option_map _) c.remove-piece.ensures.piece
    ∙ sym (option-map-map (λ (fill : Fill). fill.waiters) fill_in (piece_of c.args.key.now c.self.inside.line.pieces))
    ∙ ap (option_map (λ (fill : Fill). fill.waiters)) (fill_there c.args.key.now c.self.inside.line.pieces))

pub returns-clause-fills : goal.returns-clause-fills
returns-clause-fills g c = rw (← c.self.view_is, c.remove-piece.ensures.pieces) (fills_without c.args.key.now c.self.inside.line.pieces)
