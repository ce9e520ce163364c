use Rattle.std.proofs.Common.{◌≡◌, true}
use Rattle.hc_engines.specs.Engine.{Get}
use Rattle.hc_engines.specs.small.BigHash.{carried, resume}
use Rattle.hc_bighash.specs.Handed.{IsGet, absent_plan}
use Rattle.hc_flash.specs.Seen.{result_of}
use Rattle.hc_engines.specs.Next.{next_seen}
use Rattle.hc_pair.proofs.Steps.{get_is_apart, get_gone_on}
use Rattle.hc_pair.proofs.pair.Pair.lose_and_go_on.Goals as goal

pub get_in_large-requires-clause-free : goal.get_in_large-requires-clause-free
get_in_large-requires-clause-free g c =
    let gets : IsGet c.self.inside.small c.args.number = rw (← c.self.view_is) at c.requires.gets in
    get_is_apart c.self.inside.small c.self.inside.large c.args.number (Get gets.0) c.self.invariant gets.1

pub invariant_of-self-2 : goal.invariant_of-self-2
invariant_of-self-2 g c =
    let gets : IsGet c.self.inside.small c.args.number = rw (← c.self.view_is) at c.requires.gets in
    let came : resume c.self.inside.small c.args.number (result_of c.args.came.now) ≡ carried c.self.inside.small c.args.number (absent_plan true) = rw (← c.self.view_is) at c.requires.came in
    (get_gone_on c.self.inside.small c.leave.new.self c.self.inside.large c.get_in_large.new.large c.args.number gets.0 true (result_of c.args.came.now) (next_seen c.in_ok-next.next) c.self.invariant c.is_sound.ensures gets.1
    came c.leave.ensures c.get_in_large.ensures.flash (c.in_ok-next.ensures.ok gets.0 gets.1)).joined
