use Rattle.std.proofs.Common.{◌≡◌, ◌≢◌, MatchOption, sym, subst}
use Rattle.hc_golden.proofs.Deciding.{decides}
use Rattle.hc_golden.proofs.difference.first_difference.Goals as goal

pub returns-clause-equal : goal.returns-clause-equal
returns-clause-equal c = rw c.difference_in.ensures (decides 1 c.args.got.now c.args.want.now)
