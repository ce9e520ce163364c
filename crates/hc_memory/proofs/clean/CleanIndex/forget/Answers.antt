use Rattle.hc_memory.proofs.Listing.{listed-but}
use Rattle.hc_memory.proofs.clean.CleanIndex.forget.Goals as goal

pub returns-in-Some-clause-stay : goal.returns-in-Some-clause-stay
returns-in-Some-clause-stay g c = λ other n e h. rw c.in-Some.is (listed-but c.in-Some.flash (record { newest = c.self.inside.newest; large = c.self.inside.large }) (record { newest = c.self.inside.newest; large = c.remove.new.self }) c.args.key.now other n c.large_place.result e c.remove.ensures (rw (← c.self.view_is, c.in-Some.is) at h))
