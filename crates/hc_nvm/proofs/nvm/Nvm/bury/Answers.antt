use Rattle.std.proofs.Common.{sym, ◌∙◌}
use Rattle.hc_nvm.proofs.Outdates.{told_unburied}
use Rattle.hc_nvm.proofs.nvm.Nvm.bury.Goals as goal

pub returns-else-is_due-clause-told : goal.returns-else-is_due-clause-told
returns-else-is_due-clause-told g c = told_unburied _ c.args.key c.args.self.now.nvm (sym c.is_due.ensures ∙ c.if-is_due.false)
