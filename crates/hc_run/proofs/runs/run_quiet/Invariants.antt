use Rattle.std.proofs.Common.{◌≡◌, ◌+◌, take, length}
use Rattle.hc_run.specs.QuietRuns.{IsQuiet}
use Rattle.hc_run.specs.Shows.{seen, whole}
use Rattle.hc_run.proofs.runs.run_quiet.Given as goal

-- the steps so far are a quiet run, over all pages of the device, which failed as often as was counted
abbrev pub invariant-loop-i : goal.invariant-loop-i
invariant-loop-i g l = record {
  quiet : IsQuiet (seen whole (g.D.Flash.held l.device)) l.config (take l.i l.steps) l.answers.items l.ends.items l.stage;
  window : l.stage.window ≡ whole;
  counted : g.D.Flash.failed l.device ≡ g.D.Flash.failed l.fn.device + l.stage.failures;
  made : length l.answers.items ≡ l.i;
}
