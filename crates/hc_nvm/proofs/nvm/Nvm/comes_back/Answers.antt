use Rattle.std.proofs.Common.{[], arith}
use Rattle.hc_nvm.proofs.Rested.{rest_is_parts, puts_fit, stones_fit}
use Rattle.hc_nvm.proofs.nvm.Nvm.comes_back.Goals as goal

pub returns-clause-parts : goal.returns-clause-parts
returns-clause-parts g c = rest_is_parts c.args.self.now.nvm

pub returns-clause-puts : goal.returns-clause-puts
returns-clause-puts g c =
    let kept = c.self.invariant.3 in
    let short = kept.short in
    rw (← c.self.view_is) (puts_fit c.self.inside.pair.small.flash [] c.self.inside.queue.puts kept.starts c.is_sound.ensures (omega (arith, short)))

pub returns-clause-stones : goal.returns-clause-stones
returns-clause-stones g c = rw (← c.self.view_is) (stones_fit [] c.self.inside.tombstones.stones c.is_sound-2.ensures)
