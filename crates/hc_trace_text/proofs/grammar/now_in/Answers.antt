use Rattle.std.proofs.Common.{option_map, sym, ap, ◌∙◌}
use Rattle.hc_trace_text.specs.Grammar.{Do}
use Rattle.hc_trace_text.specs.Steps.{Now}
use Rattle.hc_trace_text.proofs.Orders.{now-is}
use Rattle.hc_trace_text.proofs.grammar.now_in.Goals as goal

pub returns : goal.returns
returns c = ap (λ r. option_map (λ moment. Do (Now moment)) r) c.in_ok-moment.ensures.number ∙ sym (now-is c.args.fields.now)

pub returns-in_err-moment : goal.returns-in_err-moment
returns-in_err-moment c = rw c.from_residual.ensures (ap (λ r. option_map (λ moment. Do (Now moment)) r) c.in_err-moment.ensures.number ∙ sym (now-is c.args.fields.now))
