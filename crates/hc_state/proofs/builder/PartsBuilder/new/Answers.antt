use Rattle.hc_state.specs.Whole.{nvm_of}
use Rattle.hc_state.proofs.Beginning.{begins-well}
use Rattle.hc_state.proofs.builder.PartsBuilder.new.Goals as goal

pub invariant_of-result : goal.invariant_of-result
invariant_of-result g c =
    begins-well c.args.config c.args.made c.args.clock c.args.calls (nvm_of c.args.nvm) c.in-Ok.pools c.new-in-Ok.result c.in-Ok.ensures c.new-in-Ok.ensures.empty c.requires.flash c.requires.rest c.requires.large c.come_once.ensures
