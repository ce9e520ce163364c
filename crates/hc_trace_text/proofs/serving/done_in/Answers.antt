use Rattle.std.proofs.Common.{option_map, sym, ap, ◌∙◌}
use Rattle.hc_trace_text.specs.Grammar.{Serve}
use Rattle.hc_trace_text.specs.Steps.{Finish}
use Rattle.hc_trace_text.proofs.Orders.{done-is}
use Rattle.hc_trace_text.proofs.serving.done_in.Goals as goal

pub returns : goal.returns
returns c = ap (λ r. option_map (λ job. Serve (Finish job)) r) c.in_ok-job.ensures.number ∙ sym (done-is c.args.fields.now)

pub returns-in_err-job : goal.returns-in_err-job
returns-in_err-job c = rw c.from_residual.ensures (ap (λ r. option_map (λ job. Serve (Finish job)) r) c.in_err-job.ensures.number ∙ sym (done-is c.args.fields.now))
