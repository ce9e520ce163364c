use Rattle.std.proofs.Common.{sym, ap, ◌∙◌}
use Rattle.hc_state.specs.Whole.{nvm_of}
use Rattle.hc_state.specs.Resting.{of_parts, clash_of}
use Rattle.hc_state.proofs.Taken.{taken-in}
use Rattle.hc_state.proofs.builder.PartsBuilder.restore.Goals as goal

pub invariant_of-self : goal.invariant_of-self
invariant_of-self g c =
    let f = c.self.inside in
    let e = c.link_in.ensures in
    let none = ap (λ cache. clash_of cache c.args.item) c.self.view_is ∙ sym c.clash.ensures ∙ c.in-None.is in
    let t = taken-in c.link_in.result (of_parts f.config f.pools f.clock f.calls (nvm_of f.nvm)) c.args.item c.link_in.new.pools f.numbers c.link_in.new.numbers c.self.invariant.0 c.self.invariant.1 none e.fits e.pools e.numbers e.same_pools e.same_numbers in
    (t.cache_is, t.numbers_are)
