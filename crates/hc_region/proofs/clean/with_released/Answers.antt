use Rattle.std.proofs.Common.{sym, ◌∙◌}
use Rattle.hc_region.proofs.Cleans.{released_clean, released_same}
use Rattle.hc_region.proofs.clean.with_released.Goals as goal

pub returns-then-not-is_last_read_at-clause-clean : goal.returns-then-not-is_last_read_at-clause-clean
returns-then-not-is_last_read_at-clause-clean g c = sym c.requires.clean ∙ released_same c.args.r c.args.regions.now c.args.clean.now c.requires.clean (sym c.is_last_read_at.ensures ∙ c.if-not-is_last_read_at.true)

pub returns-clause-clean : goal.returns-clause-clean
returns-clause-clean g c =
    released_clean c.args.r c.args.regions.now c.in_ok-more.more c.insert.new.self c.requires.there (c.in_ok-more.ensures ∙ c.requires.clean) (sym c.is_last_read_at.ensures ∙ c.if-not-is_last_read_at.false) c.in_ok-insert.ensures.ok
