use Rattle.std.proofs.Common.{◌≡◌, drop}
use Rattle.hc_clients.specs.Closing.{counts_with}
use Rattle.hc_history.specs.Told.{no_counts}
use Rattle.hc_clients.proofs.closing.counts_of.Given as goal

-- with the rest, they come to all
abbrev pub invariant-loop-report : goal.invariant-loop-report
invariant-loop-report l = counts_with l.counts (drop l.report-index l.reports) ≡ counts_with no_counts l.reports
