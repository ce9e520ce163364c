use Rattle.std.proofs.Common.{sym, ap, ◌∙◌}
use Rattle.hc_trace_text.proofs.Parts.{fields-some}
use Rattle.hc_log_text.specs.Left.{left}
use Rattle.hc_log_text.specs.Reading.{is_end}
use Rattle.hc_log_text.proofs.alone.is_empty.Goals as goal

pub returns-in-Text : goal.returns-in-Text
returns-in-Text c = sym (ap (λ rest. is_end (left rest)) c.in-Text.is ∙ ap is_end (fields-some c.in-Text.field-0.now).is)
