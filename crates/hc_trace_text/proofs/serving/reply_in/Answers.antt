use Rattle.std.proofs.Common.{option_map, sym, ap, ◌∙◌}
use Rattle.hc_trace_text.specs.Grammar.{Serve}
use Rattle.hc_trace_text.specs.Steps.{Reply}
use Rattle.hc_trace_text.proofs.Orders.{reply-is}
use Rattle.hc_trace_text.proofs.serving.reply_in.Goals as goal

pub returns : goal.returns
returns c = ap (λ r. option_map (λ call. Serve (Reply call)) r) c.in_ok-call.ensures.number ∙ sym (reply-is c.args.fields.now)

pub returns-in_err-call : goal.returns-in_err-call
returns-in_err-call c = rw c.from_residual.ensures (ap (λ r. option_map (λ call. Serve (Reply call)) r) c.in_err-call.ensures.number ∙ sym (reply-is c.args.fields.now))
