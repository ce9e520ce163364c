use Rattle.std.proofs.Common.{sym, ap, ◌∙◌, true, None, if◌then◌else◌}
use Rattle.std.specs.Str.{bytes_eq}
use Rattle.hc_trace_text.specs.Grammar.{io_with}
use Rattle.hc_trace_text.specs.Numbers.{number_of}
use Rattle.hc_trace_text.proofs.Orders.{fail-is}
use Rattle.hc_trace_text.proofs.serving.failing.Goals as goal

pub returns-else-eq : goal.returns-else-eq
returns-else-eq c =
    let job = c.args.job.now in
    let word = c.args.word.now in
    sym (fail-is job word ∙ ap (λ b. if b then io_with true (number_of job) else None) (sym (c.eq.ensures ∙ ap (bytes_eq word) c.as_slice.ensures) ∙ c.if-eq.false))
