use Rattle.std.proofs.Common.{sym, subst}
use Rattle.hc_machine.specs.Cache.{Cache}
use Rattle.hc_invariant.specs.Jobs.{AllWish}
use Rattle.hc_state.specs.wait.Commit.{waiters_at}
use Rattle.hc_state.proofs.store.Planted.{wishes-of}
use Rattle.hc_state.proofs.state.State.link_last.Goals as goal

pub unlink_stored-requires-clause-wishes : goal.unlink_stored-requires-clause-wishes
unlink_stored-requires-clause-wishes g c =
    let key = c.args.key.now in
    subst (λ (k : Cache). AllWish k.memory key (waiters_at k.nvm key)) (sym c.room_to_end.ensures.stays.cache) (wishes-of key c.args.self.now.cache c.requires.structured)
