use Rattle.std.proofs.Common.{◌+◌, ◌-◌, length, take, drop, arith, ◌∙◌, ap, take_all, length-drop}
use Rattle.hc_trace_text.specs.Lines.{fields_of}
use Rattle.hc_trace_text.proofs.Parts.{lacks-all, lacks-before, around, fields-one, fields-ended}
use Rattle.hc_trace_text.proofs.grammar.first_field.Goals as goal

pub returns-in_err-at : goal.returns-in_err-at
returns-in_err-at c = rw c.from_residual.ensures (fields-one _ (lacks-all 32 _ c.in_err-at.ensures))

pub returns : goal.returns
returns c =
    let l = c.args.bytes.now in
    let at = c.in_ok-at.at in
    let found = c.in_ok-at.ensures in
    rw (take_all (length l - (at + 1)) (drop (at + 1) l) (omega (arith, length-drop (at + 1) l)))
    (ap fields_of (around 32 l at found.0.high found.1) ∙ fields-ended (take at l) (drop (at + 1) l) (lacks-before 32 l at found.0.before))
