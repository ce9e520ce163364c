use Rattle.std.proofs.Common.{◌≡◌, take}
use Rattle.hc_trace_text.proofs.grammar.behind.Given as goal

abbrev pub invariant-word : goal.invariant-word
invariant-word l = take l.at l.line ≡ take l.at l.word
