use Rattle.std.proofs.Common.{sym, subst, ◌∙◌}
use Rattle.hc_types.specs.Config.{Config}
use Rattle.hc_history.specs.Lawful.{Legal}
use Rattle.hc_run.proofs.tracked.Scene.end.Goals as goal

-- the core went by this configuration
pub returns-clause-legal : goal.returns-clause-legal
returns-clause-legal g c = λ none. subst (λ (config : Config). Legal config c.into_notes.result.notes.items) (sym c.config.ensures ∙ (c.is_same.ensures).0 c.if-not-is_same.false) (c.into_notes.ensures.legal none)
