use Rattle.std.proofs.Common.{◌∙◌}
use Rattle.hc_history.specs.Told.{told_more}
use Rattle.hc_history.proofs.Telling.{told-twice}
use Rattle.hc_machine.specs.Leaving.{bury, unindex}
use Rattle.hc_nvm.proofs.nvm.Nvm.outdate.Goals as goal

pub returns-clause-told : goal.returns-clause-told
returns-clause-told g c =
    let key = c.args.key.now in
    let before = c.args.self.now.nvm in
    c.unindex_by.ensures.told
    ∙ (λ i. told_more (c.bury_by.ensures.told i) (unindex key (c.bury_by.ensures.nvm i)).part)
    ∙ told-twice (g.N.Listener.told c.args.notes.now) (bury key before).part (unindex key (bury key before).nvm).part
