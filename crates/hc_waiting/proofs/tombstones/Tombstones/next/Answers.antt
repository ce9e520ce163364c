-- The first delete that can be served.
use Rattle.std.proofs.Common.{◌≡◌, ◌∙◌, ap, sym, subst, IfOk}
use Rattle.std.specs.Prelude.{option_map}
use Rattle.std.specs.List.{find}
use Rattle.hc_machine.specs.Nvm.{Tombstone}
use Rattle.hc_queue.specs.Queue.{can_go}
use Rattle.hc_waiting.specs.Tombstones.{stone_in}
use Rattle.hc_waiting.proofs.Stones.{next_delete_is, option-map-map}
use Rattle.hc_waiting.proofs.tombstones.Tombstones.next.Goals as goal

pub returns-clause-next : goal.returns-clause-next
returns-clause-next g c busy tells =
    rw (← c.self.view_is) (subst (λ found. IfOk c.first.result (λ key. key ≡ found))
    (sym (option-map-map (λ (stone : Tombstone). stone.key) stone_in (find (can_go busy) c.self.inside.line.pieces)) ∙ ap (option_map (λ (stone : Tombstone). stone.key)) (next_delete_is c.self.inside.flash busy c.self.inside.line.pieces c.self.invariant.3))
    (c.first.ensures.first busy tells))
