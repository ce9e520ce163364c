-- The first piece whose turn has come, by its key.
use Rattle.std.proofs.Common.{◌≡◌, ◌∙◌, ap, subst, IfOk}
use Rattle.std.specs.Prelude.{option_map}
use Rattle.std.proofs.lemmas.Result.{IfOk-weaker}
use Rattle.hc_queue.specs.declared.queue.Piece.{Piece}
use Rattle.hc_queue.specs.declared.keyed.Named.{Named}
use Rattle.hc_queue.specs.Queue.{pieces_of, can_go, piece_by as piece_numbered}
use Rattle.hc_waiting.specs.Line.{piece_by}
use Rattle.hc_waiting.proofs.Numbered.{apart-is, found-is}
use Rattle.hc_waiting.proofs.line.Line.first.Goals as goal

pub returns-clause-first : goal.returns-clause-first
returns-clause-first g c busy tells =
    rw (← c.self.view_is) (subst (λ found. IfOk c.key_of.result (λ key. key ≡ option_map (λ (piece : Piece (Named _ _)). piece.value.key) found))
    (ap (λ q. piece_numbered c.in_ok-first.first q.entries) c.first.ensures.same ∙ c.in_ok-first.ensures.piece busy tells) c.key_of.ensures)

pub returns-clause-piece : goal.returns-clause-piece
returns-clause-piece g c busy tells =
    let es = c.self.inside.queue.entries in
    rw (← c.self.view_is) (IfOk-weaker c.key_of.result _ _ (λ key is. ap (λ k. piece_by k (pieces_of es)) is ∙ found-is (can_go busy) (pieces_of es) (apart-is es c.is_sound.ensures.apart))
    (subst (λ found. IfOk c.key_of.result (λ key. key ≡ option_map (λ (piece : Piece (Named _ _)). piece.value.key) found))
    (ap (λ q. piece_numbered c.in_ok-first.first q.entries) c.first.ensures.same ∙ c.in_ok-first.ensures.piece busy tells) c.key_of.ensures))
