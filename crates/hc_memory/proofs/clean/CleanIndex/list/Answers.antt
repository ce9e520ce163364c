use Rattle.std.proofs.Common.{sym, ◌∙◌}
use Rattle.std.proofs.lemmas.Result.{on_ok_weaker}
use Rattle.hc_memory.proofs.Listing.{listed-large}
use Rattle.hc_memory.proofs.clean.CleanIndex.list.Goals as goal

pub returns-clause-listed : goal.returns-clause-listed
returns-clause-listed g c = rw c.in-Some.is (on_ok_weaker c.add.result
    (λ is. listed-large c.in-Some.flash (record { newest = c.self.inside.newest; large = c.add.new.self }) c.args.key.now c.args.len c.large_place.result c.self.inside.large (sym c.is_small.ensures ∙ c.if-is_small.false) c.large_place.ensures is)
    c.add.ensures.ok)
