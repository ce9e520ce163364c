use Rattle.std.proofs.Common.{ap, sym, ◌∙◌}
use Rattle.hc_types.specs.Config.{Config}
use Rattle.hc_tracked.specs.Resting.{pages_in}
use Rattle.hc_tracked.proofs.Tracking.{new-tracked}
use Rattle.hc_tracked.proofs.tracked.TrackedCore.new.Goals as goal

pub invariant_of-result : goal.invariant_of-result
invariant_of-result g c =
    let config = c.behind-core.view_is ∙ c.config.ensures in
    new-tracked _ c.args.core _ c.requires.log (sym c.in-Ok.digests.ok.0 ∙ c.in-Ok.ensures.len ∙ c.pages_of-pages.ensures ∙ ap (λ (c : Config). pages_in c.flash) config)
