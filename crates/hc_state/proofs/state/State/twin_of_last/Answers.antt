use Rattle.std.proofs.Common.{◌≡◌, List, None, sym, ap, ◌∙◌}
use Rattle.hc_machine.specs.Nvm.{Waiter}
use Rattle.hc_state.specs.store.Chosen.{all_stored_as, before_last}
use Rattle.hc_state.specs.wait.Commit.{waiters_at}
use Rattle.hc_state.specs.Whole.{Whole, nvm_of}
use Rattle.hc_state.proofs.store.Links.{calls-at}
use Rattle.hc_state.proofs.state.State.twin_of_last.Goals as goal

pub returns-in_ok-twin-in-Some-last_stored-clause-earlier : goal.returns-in_ok-twin-in-Some-last_stored-clause-earlier
returns-in_ok-twin-in-Some-last_stored-clause-earlier g c =
    let waiters : c.waiters.result.now ≡ waiters_at c.args.self.now.cache.nvm c.args.key.now =
    c.waiters.ensures ∙ calls-at c.in-Some.nvm.nvm c.args.key.now ∙ ap (λ nvm. waiters_at (nvm_of nvm) c.args.key.now) (sym c.in-Some.is) ∙ ap (λ (w : Whole). waiters_at w.cache.nvm c.args.key.now) c.self.view_is in
    c.last_stored.ensures.earlier ∙ ap (λ (ws : List Waiter). before_last c.args.earlier.now.items None (all_stored_as ws c.args.courses.now)) waiters
