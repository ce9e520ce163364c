use Rattle.std.proofs.Common.{sym, ◌∙◌}
use Rattle.hc_trace_text.proofs.Orders.{stands-alone}
use Rattle.hc_trace_text.proofs.serving.serve_in.Goals as goal

pub returns : goal.returns
returns c = c.alone_in.ensures ∙ sym (stands-alone c.args.line.now c.in_default.ensures c.in_default-behind.ensures c.in_default-behind-2.ensures c.in_default-behind-3.ensures)
