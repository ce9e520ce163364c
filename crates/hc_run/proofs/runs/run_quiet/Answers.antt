use Rattle.std.proofs.Common.{Some, None, sym, length, take, ap, ◌∙◌, arith}
use Rattle.hc_follows.specs.Follows.{StopsAt}
use Rattle.hc_run.specs.Shows.{seen, whole}
use Rattle.hc_run.specs.declared.runs.Stopped.TheVariants.{NoMemory, NotQuiet}
use Rattle.hc_run.proofs.Going.{ongoing-none, ongoing-own, run_over, promised, went, waited, counted-on, counted-none}
use Rattle.hc_run.proofs.QuietGoing.{quiet-none-yet, quiet-made, quiet-stopped, quiet_turn, quiet_ends, not-quiet-here}
use Rattle.hc_run.proofs.runs.run_quiet.Goals as goal

pub loop-i-init : goal.loop-i-init
loop-i-init g c =
    let is = c.in_ok-stage.ensures in
    let held = seen whole (g.D.Flash.held c.args.device) in
    record {
      quiet = rw (c.new-answers.ensures.items, c.new-ends.ensures.items) (quiet-none-yet c.args.config.now _ _ held c.in_ok-stage.stage (ongoing-none c.args.config.now held c.in_ok-stage.stage is.cache is.log is.results is.slots is.failures));
      window = is.window ∙ c.whole.ensures;
      counted = counted-none (g.D.Flash.failed c.args.device) is.failures;
      made = ap length c.new-answers.ensures.items;
    }

pub go_on-requires : goal.go_on-requires
go_on-requires g c =
    let l = c.loop-i in
    record { own = ongoing-own c.args.config.now (take l.i c.args.steps.now) l.answers.items l.ends.items (seen whole (g.D.Flash.held l.device)) l.stage c.in_ok-stage.ensures.fits l.invariant.quiet.ongoing }

pub loop-i-preserved : goal.loop-i-preserved
loop-i-preserved g c =
    let l = c.loop-i in
    let turn = quiet_turn c.args.config.now c.args.steps.now c.index-steps-i.result l.i l.answers.items c.go_on.new.answers.items l.ends.items c.go_on.new.ends.items (seen whole (g.D.Flash.held l.device)) (seen whole (g.D.Flash.held c.go_on.new.device)) l.stage c.go_on.new.stage
    c.loop-i-test.true c.index-steps-i.is c.in_ok-stage.ensures.fits l.invariant.quiet l.invariant.made (sym c.is_quiet.ensures ∙ c.if-not-is_quiet.false) (went (g.D.Flash.held l.device) (g.D.Flash.held c.go_on.new.device) l.stage c.go_on.new.stage l.invariant.window c.in-Ok.ensures.ok) in
    record { quiet = turn.0; window = c.go_on.ensures.window ∙ l.invariant.window; counted = counted-on (g.D.Flash.failed c.args.device) l.stage c.go_on.new.stage l.invariant.window c.go_on.ensures.counted l.invariant.counted; made = turn.1 }

-- ---- where the step isn't quiet

pub end-log-requires : goal.end-log-requires
end-log-requires g c =
    let l = c.loop-i in
    let made = quiet-made c.args.config.now c.args.steps.now l.i l.answers.items l.ends.items (seen whole (g.D.Flash.held l.device)) l.stage l.invariant.quiet l.invariant.made in
    record { own = ongoing-own c.args.config.now (take (length l.answers.items) c.args.steps.now) l.answers.items l.ends.items (seen whole (g.D.Flash.held l.device)) l.stage c.in_ok-stage.ensures.fits made.ongoing }

pub returns-then-not-is_quiet-clause-runs : goal.returns-then-not-is_quiet-clause-runs
returns-then-not-is_quiet-clause-runs g c =
    let l = c.loop-i in
    let made = quiet-made c.args.config.now c.args.steps.now l.i l.answers.items l.ends.items (seen whole (g.D.Flash.held l.device)) l.stage l.invariant.quiet l.invariant.made in
    quiet_ends c.args.config.now c.args.steps.now l.answers.items l.ends.items (seen whole (g.D.Flash.held l.device)) l.stage c.end-log.result.notes.items (Some (NotQuiet l.i)) made (not-quiet-here c.args.config.now c.args.steps.now c.index-steps-i.result l.i l.stage c.loop-i-test.true c.index-steps-i.is (sym c.is_quiet.ensures ∙ c.if-not-is_quiet.true)) c.end-log.ensures.log

pub returns-then-not-is_quiet-clause-legal : goal.returns-then-not-is_quiet-clause-legal
returns-then-not-is_quiet-clause-legal g c =
    let l = c.loop-i in
    let made = quiet-made c.args.config.now c.args.steps.now l.i l.answers.items l.ends.items (seen whole (g.D.Flash.held l.device)) l.stage l.invariant.quiet l.invariant.made in
    let stops : StopsAt (Some l.i) (length l.answers.items) (length c.args.steps.now) = (l.invariant.made, c.loop-i-test.true) in
    (promised c.args.config.now c.args.steps.now l.answers.items l.ends.items (seen whole (g.D.Flash.held l.device)) l.stage c.end-log.result.notes.items (Some l.i) c.in_ok-stage.ensures.fits made.ongoing stops c.end-log.ensures.log).legal

pub returns-then-not-is_quiet-clause-honest : goal.returns-then-not-is_quiet-clause-honest
returns-then-not-is_quiet-clause-honest g c =
    let l = c.loop-i in
    let made = quiet-made c.args.config.now c.args.steps.now l.i l.answers.items l.ends.items (seen whole (g.D.Flash.held l.device)) l.stage l.invariant.quiet l.invariant.made in
    let stops : StopsAt (Some l.i) (length l.answers.items) (length c.args.steps.now) = (l.invariant.made, c.loop-i-test.true) in
    (promised c.args.config.now c.args.steps.now l.answers.items l.ends.items (seen whole (g.D.Flash.held l.device)) l.stage c.end-log.result.notes.items (Some l.i) c.in_ok-stage.ensures.fits made.ongoing stops c.end-log.ensures.log).honest

pub returns-then-not-is_quiet-clause-follows : goal.returns-then-not-is_quiet-clause-follows
returns-then-not-is_quiet-clause-follows g c =
    let l = c.loop-i in
    let made = quiet-made c.args.config.now c.args.steps.now l.i l.answers.items l.ends.items (seen whole (g.D.Flash.held l.device)) l.stage l.invariant.quiet l.invariant.made in
    let stops : StopsAt (Some l.i) (length l.answers.items) (length c.args.steps.now) = (l.invariant.made, c.loop-i-test.true) in
    (promised c.args.config.now c.args.steps.now l.answers.items l.ends.items (seen whole (g.D.Flash.held l.device)) l.stage c.end-log.result.notes.items (Some l.i) c.in_ok-stage.ensures.fits made.ongoing stops c.end-log.ensures.log).follows

-- ---- when out of memory

pub end-log-requires-in-Err : goal.end-log-requires-in-Err
end-log-requires-in-Err g c =
    let l = c.loop-i in
    let back = c.in-Err.ensures in
    let stopped = quiet-stopped c.args.config.now c.args.steps.now l.i l.answers.items c.go_on.new.answers.items l.ends.items c.go_on.new.ends.items (seen whole (g.D.Flash.held l.device)) (seen whole (g.D.Flash.held c.go_on.new.device)) l.stage c.go_on.new.stage l.invariant.quiet l.invariant.made (waited (g.D.Flash.held l.device) (g.D.Flash.held c.go_on.new.device) l.stage c.go_on.new.stage l.invariant.window back.err) back.answers back.ends in
    record { own = ongoing-own c.args.config.now (take (length c.go_on.new.answers.items) c.args.steps.now) c.go_on.new.answers.items c.go_on.new.ends.items (seen whole (g.D.Flash.held c.go_on.new.device)) c.go_on.new.stage c.in_ok-stage.ensures.fits stopped.ongoing }

pub returns-in-Err-clause-runs : goal.returns-in-Err-clause-runs
returns-in-Err-clause-runs g c =
    let l = c.loop-i in
    let back = c.in-Err.ensures in
    let stopped = quiet-stopped c.args.config.now c.args.steps.now l.i l.answers.items c.go_on.new.answers.items l.ends.items c.go_on.new.ends.items (seen whole (g.D.Flash.held l.device)) (seen whole (g.D.Flash.held c.go_on.new.device)) l.stage c.go_on.new.stage l.invariant.quiet l.invariant.made (waited (g.D.Flash.held l.device) (g.D.Flash.held c.go_on.new.device) l.stage c.go_on.new.stage l.invariant.window back.err) back.answers back.ends in
    quiet_ends c.args.config.now c.args.steps.now c.go_on.new.answers.items c.go_on.new.ends.items (seen whole (g.D.Flash.held c.go_on.new.device)) c.go_on.new.stage c.end-log-in-Err.result.notes.items (Some (NoMemory l.i)) stopped (λ scene same. tt) c.end-log-in-Err.ensures.log

pub returns-in-Err-clause-legal : goal.returns-in-Err-clause-legal
returns-in-Err-clause-legal g c =
    let l = c.loop-i in
    let back = c.in-Err.ensures in
    let stopped = quiet-stopped c.args.config.now c.args.steps.now l.i l.answers.items c.go_on.new.answers.items l.ends.items c.go_on.new.ends.items (seen whole (g.D.Flash.held l.device)) (seen whole (g.D.Flash.held c.go_on.new.device)) l.stage c.go_on.new.stage l.invariant.quiet l.invariant.made (waited (g.D.Flash.held l.device) (g.D.Flash.held c.go_on.new.device) l.stage c.go_on.new.stage l.invariant.window back.err) back.answers back.ends in
    let stops : StopsAt (Some l.i) (length c.go_on.new.answers.items) (length c.args.steps.now) = (ap length back.answers ∙ l.invariant.made, c.loop-i-test.true) in
    (promised c.args.config.now c.args.steps.now c.go_on.new.answers.items c.go_on.new.ends.items (seen whole (g.D.Flash.held c.go_on.new.device)) c.go_on.new.stage c.end-log-in-Err.result.notes.items (Some l.i) c.in_ok-stage.ensures.fits stopped.ongoing stops c.end-log-in-Err.ensures.log).legal

pub returns-in-Err-clause-honest : goal.returns-in-Err-clause-honest
returns-in-Err-clause-honest g c =
    let l = c.loop-i in
    let back = c.in-Err.ensures in
    let stopped = quiet-stopped c.args.config.now c.args.steps.now l.i l.answers.items c.go_on.new.answers.items l.ends.items c.go_on.new.ends.items (seen whole (g.D.Flash.held l.device)) (seen whole (g.D.Flash.held c.go_on.new.device)) l.stage c.go_on.new.stage l.invariant.quiet l.invariant.made (waited (g.D.Flash.held l.device) (g.D.Flash.held c.go_on.new.device) l.stage c.go_on.new.stage l.invariant.window back.err) back.answers back.ends in
    let stops : StopsAt (Some l.i) (length c.go_on.new.answers.items) (length c.args.steps.now) = (ap length back.answers ∙ l.invariant.made, c.loop-i-test.true) in
    (promised c.args.config.now c.args.steps.now c.go_on.new.answers.items c.go_on.new.ends.items (seen whole (g.D.Flash.held c.go_on.new.device)) c.go_on.new.stage c.end-log-in-Err.result.notes.items (Some l.i) c.in_ok-stage.ensures.fits stopped.ongoing stops c.end-log-in-Err.ensures.log).honest

pub returns-in-Err-clause-follows : goal.returns-in-Err-clause-follows
returns-in-Err-clause-follows g c =
    let l = c.loop-i in
    let back = c.in-Err.ensures in
    let stopped = quiet-stopped c.args.config.now c.args.steps.now l.i l.answers.items c.go_on.new.answers.items l.ends.items c.go_on.new.ends.items (seen whole (g.D.Flash.held l.device)) (seen whole (g.D.Flash.held c.go_on.new.device)) l.stage c.go_on.new.stage l.invariant.quiet l.invariant.made (waited (g.D.Flash.held l.device) (g.D.Flash.held c.go_on.new.device) l.stage c.go_on.new.stage l.invariant.window back.err) back.answers back.ends in
    let stops : StopsAt (Some l.i) (length c.go_on.new.answers.items) (length c.args.steps.now) = (ap length back.answers ∙ l.invariant.made, c.loop-i-test.true) in
    (promised c.args.config.now c.args.steps.now c.go_on.new.answers.items c.go_on.new.ends.items (seen whole (g.D.Flash.held c.go_on.new.device)) c.go_on.new.stage c.end-log-in-Err.result.notes.items (Some l.i) c.in_ok-stage.ensures.fits stopped.ongoing stops c.end-log-in-Err.ensures.log).follows

-- ---- at the end of the steps

pub end-log-requires-2 : goal.end-log-requires-2
end-log-requires-2 g c =
    let l = c.loop-i in
    let made = quiet-made c.args.config.now c.args.steps.now l.i l.answers.items l.ends.items (seen whole (g.D.Flash.held l.device)) l.stage l.invariant.quiet l.invariant.made in
    record { own = ongoing-own c.args.config.now (take (length l.answers.items) c.args.steps.now) l.answers.items l.ends.items (seen whole (g.D.Flash.held l.device)) l.stage c.in_ok-stage.ensures.fits made.ongoing }

pub returns-clause-runs : goal.returns-clause-runs
returns-clause-runs g c =
    let l = c.loop-i in
    let made = quiet-made c.args.config.now c.args.steps.now l.i l.answers.items l.ends.items (seen whole (g.D.Flash.held l.device)) l.stage l.invariant.quiet l.invariant.made in
    quiet_ends c.args.config.now c.args.steps.now l.answers.items l.ends.items (seen whole (g.D.Flash.held l.device)) l.stage c.end-log-2.result.notes.items None made (λ scene same. tt) c.end-log-2.ensures.log

pub returns-clause-legal : goal.returns-clause-legal
returns-clause-legal g c =
    let l = c.loop-i in
    let made = quiet-made c.args.config.now c.args.steps.now l.i l.answers.items l.ends.items (seen whole (g.D.Flash.held l.device)) l.stage l.invariant.quiet l.invariant.made in
    let stops : StopsAt None (length l.answers.items) (length c.args.steps.now) = omega (arith, l.invariant.made, l.auto.i-end, c.loop-i-test.false) in
    (promised c.args.config.now c.args.steps.now l.answers.items l.ends.items (seen whole (g.D.Flash.held l.device)) l.stage c.end-log-2.result.notes.items None c.in_ok-stage.ensures.fits made.ongoing stops c.end-log-2.ensures.log).legal

pub returns-clause-honest : goal.returns-clause-honest
returns-clause-honest g c =
    let l = c.loop-i in
    let made = quiet-made c.args.config.now c.args.steps.now l.i l.answers.items l.ends.items (seen whole (g.D.Flash.held l.device)) l.stage l.invariant.quiet l.invariant.made in
    let stops : StopsAt None (length l.answers.items) (length c.args.steps.now) = omega (arith, l.invariant.made, l.auto.i-end, c.loop-i-test.false) in
    (promised c.args.config.now c.args.steps.now l.answers.items l.ends.items (seen whole (g.D.Flash.held l.device)) l.stage c.end-log-2.result.notes.items None c.in_ok-stage.ensures.fits made.ongoing stops c.end-log-2.ensures.log).honest

pub returns-clause-follows : goal.returns-clause-follows
returns-clause-follows g c =
    let l = c.loop-i in
    let made = quiet-made c.args.config.now c.args.steps.now l.i l.answers.items l.ends.items (seen whole (g.D.Flash.held l.device)) l.stage l.invariant.quiet l.invariant.made in
    let stops : StopsAt None (length l.answers.items) (length c.args.steps.now) = omega (arith, l.invariant.made, l.auto.i-end, c.loop-i-test.false) in
    (promised c.args.config.now c.args.steps.now l.answers.items l.ends.items (seen whole (g.D.Flash.held l.device)) l.stage c.end-log-2.result.notes.items None c.in_ok-stage.ensures.fits made.ongoing stops c.end-log-2.ensures.log).follows

-- ---- the device

pub returns-then-not-is_quiet-clause-device : goal.returns-then-not-is_quiet-clause-device
returns-then-not-is_quiet-clause-device g c =
    let l = c.loop-i in
    let made = quiet-made c.args.config.now c.args.steps.now l.i l.answers.items l.ends.items (seen whole (g.D.Flash.held l.device)) l.stage l.invariant.quiet l.invariant.made in
    run_over c.args.config.now (record { held = g.D.Flash.held; failed = g.D.Flash.failed }) (take (length l.answers.items) c.args.steps.now) l.answers.items l.ends.items l.stage c.args.device l.device made.ongoing l.invariant.counted

pub returns-in-Err-clause-device : goal.returns-in-Err-clause-device
returns-in-Err-clause-device g c =
    let l = c.loop-i in
    let back = c.in-Err.ensures in
    let stopped = quiet-stopped c.args.config.now c.args.steps.now l.i l.answers.items c.go_on.new.answers.items l.ends.items c.go_on.new.ends.items (seen whole (g.D.Flash.held l.device)) (seen whole (g.D.Flash.held c.go_on.new.device)) l.stage c.go_on.new.stage l.invariant.quiet l.invariant.made (waited (g.D.Flash.held l.device) (g.D.Flash.held c.go_on.new.device) l.stage c.go_on.new.stage l.invariant.window back.err) back.answers back.ends in
    run_over c.args.config.now (record { held = g.D.Flash.held; failed = g.D.Flash.failed }) (take (length c.go_on.new.answers.items) c.args.steps.now) c.go_on.new.answers.items c.go_on.new.ends.items c.go_on.new.stage c.args.device c.go_on.new.device stopped.ongoing
    (counted-on (g.D.Flash.failed c.args.device) l.stage c.go_on.new.stage l.invariant.window c.go_on.ensures.counted l.invariant.counted)

pub returns-clause-device : goal.returns-clause-device
returns-clause-device g c =
    let l = c.loop-i in
    let made = quiet-made c.args.config.now c.args.steps.now l.i l.answers.items l.ends.items (seen whole (g.D.Flash.held l.device)) l.stage l.invariant.quiet l.invariant.made in
    run_over c.args.config.now (record { held = g.D.Flash.held; failed = g.D.Flash.failed }) (take (length l.answers.items) c.args.steps.now) l.answers.items l.ends.items l.stage c.args.device l.device made.ongoing l.invariant.counted
