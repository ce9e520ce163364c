use Rattle.std.proofs.Common.{sym, ap, ◌∙◌}
use Rattle.hc_trace_text.specs.Seen.{line_seen}
use Rattle.hc_trace_text.specs.declared.grammar.Line.TheVariants.{Says}
use Rattle.hc_trace_text.specs.declared.grammar.Order.{Order}
use Rattle.hc_trace_log.proofs.Hearing.{goes-by-step, goes-by-work, goes-by-restart}
use Rattle.hc_trace_log.proofs.running.take_line.Goals as goal

pub returns-in_ok-take_step-in-Says-Do-clause-goes : goal.returns-in_ok-take_step-in-Says-Do-clause-goes
returns-in_ok-take_step-in-Says-Do-clause-goes c = λ _.
    let says = rw c.in-Says-Do.is at c.in-Says-Do.field-0-is in
    goes-by-step _ _ (sym c.line_in.ensures ∙ ap line_seen c.in-Says-Do.is ∙ ap (λ (order : Order). line_seen (Says order)) says) c.in_ok-take_step-in-Says-Do.ensures

pub returns-in_ok-do_work-in-Says-Serve-clause-goes : goal.returns-in_ok-do_work-in-Says-Serve-clause-goes
returns-in_ok-do_work-in-Says-Serve-clause-goes c = λ _.
    let says = rw c.in-Says-Serve.is at c.in-Says-Serve.field-0-is in
    goes-by-work _ _ (sym c.line_in.ensures ∙ ap line_seen c.in-Says-Serve.is ∙ ap (λ (order : Order). line_seen (Says order)) says) c.in_ok-do_work-in-Says-Serve.ensures

pub returns-in-Says-Restart-clause-goes : goal.returns-in-Says-Restart-clause-goes
returns-in-Says-Restart-clause-goes c = λ _.
    let says = rw c.in-Says-Restart.is at c.in-Says-Restart.field-0-is in
    goes-by-restart _ (sym c.line_in.ensures ∙ ap line_seen c.in-Says-Restart.is ∙ ap (λ (order : Order). line_seen (Says order)) says) c.restart-player.ensures
