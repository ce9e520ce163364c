use Rattle.std.proofs.Common.{◌≡◌, Some, sym, subst}
use Rattle.hc_types.specs.FlashEntry.{entry_of}
use Rattle.hc_engines.specs.Engine.{Put}
use Rattle.hc_pair.specs.Joined.{CanStart}
use Rattle.hc_machine.specs.Nvm.{Nvm, next_put}
use Rattle.hc_nvm.proofs.Keeping.{can_start_found}
use Rattle.hc_nvm.proofs.nvm.Nvm.take_next_put.Goals as goal

pub take_put-requires : goal.take_put-requires
take_put-requires g c =
    let next : Some (entry_of c.in-Some.entry) ≡ next_put c.args.self.now.nvm = rw c.in-Some.is at c.in_ok-entry.ensures.next in
    record {
      can = subst (λ (n : Nvm). CanStart n.pair.small.flash (Put (entry_of c.in-Some.entry))) (sym c.next_put.ensures.same)
          (can_start_found c.args.self.now.nvm.pair.small.flash _ c.args.self.now.nvm.queue (entry_of c.in-Some.entry) c.can_put.ensures (sym next));
    }
