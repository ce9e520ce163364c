-- The first put that can be served.
use Rattle.std.proofs.Common.{◌≡◌, ◌∙◌, ap, subst, IfOk}
use Rattle.std.specs.Prelude.{option_map}
use Rattle.hc_types.specs.FlashEntry.{entry_of}
use Rattle.hc_waiting.specs.Line.{piece_by}
use Rattle.hc_waiting.specs.Puts.{put_in}
use Rattle.hc_waiting.proofs.Pieces.{next_put_is}
use Rattle.hc_waiting.proofs.puts.Puts.next.Goals as goal

pub returns-clause-next : goal.returns-clause-next
returns-clause-next g c busy tells =
    rw (← c.self.view_is) (subst (λ found. IfOk c.copy_by.result (λ put. option_map entry_of put ≡ found))
    (ap (λ pieces. option_map put_in (piece_by c.in_ok-first.first pieces)) c.first.ensures.pieces ∙ ap (option_map put_in) (c.in_ok-first.ensures.piece busy tells) ∙ next_put_is c.self.inside.flash busy c.self.inside.line.pieces c.self.invariant.3)
    c.copy_by.ensures)
