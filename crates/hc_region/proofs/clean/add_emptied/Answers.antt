use Rattle.std.proofs.Common.{sym, ◌∙◌}
use Rattle.hc_region.proofs.Cleans.{emptied_clean, emptied_draining}
use Rattle.hc_region.proofs.clean.add_emptied.Goals as goal

pub returns-in_ok-insert-clause-ok : goal.returns-in_ok-insert-clause-ok
returns-in_ok-insert-clause-ok g c = emptied_clean c.args.r c.args.regions.now c.args.clean.now c.insert.new.self c.requires.there c.requires.in_use c.requires.clean (sym c.is_free_at.ensures ∙ c.if-is_free_at.true) c.in_ok-insert.ensures.ok

pub returns-else-is_free_at-clause-ok : goal.returns-else-is_free_at-clause-ok
returns-else-is_free_at-clause-ok g c = emptied_draining c.args.r c.args.regions.now c.args.clean.now c.requires.in_use c.requires.clean (sym c.is_free_at.ensures ∙ c.if-is_free_at.false)
