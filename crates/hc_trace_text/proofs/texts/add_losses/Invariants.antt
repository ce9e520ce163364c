use Rattle.std.proofs.Common.{◌≡◌, ◌++◌, drop}
use Rattle.hc_trace_text.specs.Texts.{losses_text}
use Rattle.hc_trace_text.proofs.texts.add_losses.Given as goal

abbrev pub invariant-notes : goal.invariant-notes
invariant-notes l = l.out.items ++ losses_text (drop l.note-index l.notes) ≡ l.fn.out.items ++ losses_text l.notes
