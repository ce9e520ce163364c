use Rattle.std.proofs.Common.{refl}
use Rattle.hc_nvm.proofs.Fresh.{kept_new}
use Rattle.hc_nvm.proofs.nvm.Nvm.new.Goals as goal

pub invariant_of-result : goal.invariant_of-result
invariant_of-result g c =
    rw (c.in_ok-pair.ensures, c.new-queue.ensures, c.new-tombstones.ensures, c.new-fills.ensures, c.new-jobs.ensures.items) (refl, refl, refl, kept_new c.args.flash)
