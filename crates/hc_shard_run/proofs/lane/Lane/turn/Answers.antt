use Rattle.std.proofs.Common.{◌≡◌, None, is_some, sym, ap, ◌∙◌}
use Rattle.hc_run.specs.Shows.{seen}
use Rattle.hc_shard_run.specs.Lanes.{Lane}
use Rattle.hc_shard_run.proofs.Going.{no-some, lane-more-so, lane-stops-so, lane-passes}
use Rattle.hc_shard_run.proofs.lane.Lane.turn.Goals as goal

-- it has stopped
pub returns-then-has_stopped-clause-lane : goal.returns-then-has_stopped-clause-lane
returns-then-has_stopped-clause-lane g c =
    let f = c.self.inside in
    rw (← c.self.view_is)
    (λ config steps right lane. lane-passes config steps c.args.step.now (seen f.stage.window (g.D.Flash.held c.args.device.now)) f.stage f.answers.items f.ends.items f.stopped (ap (λ (l : Lane). is_some l.stopped) c.self.view_is ∙ sym c.has_stopped.ensures ∙ c.if-has_stopped.true) lane)

pub returns-in-Ok-clause-lane : goal.returns-in-Ok-clause-lane
returns-in-Ok-clause-lane g c =
    let f = c.self.inside in
    let new = c.go_on.new in
    rw (← c.self.view_is)
    (λ config steps right lane. lane-more-so config steps c.args.step.now (seen f.stage.window (g.D.Flash.held c.args.device.now)) (seen f.stage.window (g.D.Flash.held new.device)) f.stage new.stage f.answers.items new.answers.items f.ends.items new.ends.items f.stopped
    (no-some f.stopped (ap (λ (l : Lane). is_some l.stopped) c.self.view_is ∙ sym c.has_stopped.ensures ∙ c.if-has_stopped.false)) right c.in-Ok.ensures.ok lane)

-- out of memory for it
pub returns-in-Err-clause-lane : goal.returns-in-Err-clause-lane
returns-in-Err-clause-lane g c =
    let f = c.self.inside in
    let new = c.go_on.new in
    let back = c.in-Err.ensures in
    rw (← c.self.view_is)
    (λ config steps right lane. lane-stops-so config steps c.args.step.now (seen f.stage.window (g.D.Flash.held c.args.device.now)) (seen f.stage.window (g.D.Flash.held new.device)) f.stage new.stage f.answers.items new.answers.items f.ends.items new.ends.items f.stopped c.len.result
    (no-some f.stopped (ap (λ (l : Lane). is_some l.stopped) c.self.view_is ∙ sym c.has_stopped.ensures ∙ c.if-has_stopped.false)) (c.len.ensures ∙ new.answers.ok.0) back.err back.answers back.ends lane)
