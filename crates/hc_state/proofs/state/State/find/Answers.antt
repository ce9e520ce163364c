use Rattle.hc_state.proofs.find.Steps.{found-begun}
use Rattle.hc_state.proofs.state.State.find.Goals as goal

pub returns-then-keeps_notes-clause-begun : goal.returns-then-keeps_notes-clause-begun
returns-then-keeps_notes-clause-begun g c =
    found-begun c.find_or_wait.result c.args.client c.args.key.now c.args.self.now c.find_or_wait.new.self c.requires.begun c.find_or_wait.ensures.ok c.find_or_wait.ensures.err

pub returns-else-keeps_notes-clause-begun : goal.returns-else-keeps_notes-clause-begun
returns-else-keeps_notes-clause-begun g c =
    found-begun c.find_counted.result c.args.client c.args.key.now c.args.self.now c.find_counted.new.self c.requires.begun c.find_counted.ensures.ok c.find_counted.ensures.err
