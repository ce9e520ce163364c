use Rattle.std.proofs.Common.{◌≡◌, drop}
use Rattle.hc_trace_text.specs.Numbers.{digits_after}
use Rattle.hc_trace_text.proofs.numbers.digits.Given as goal

abbrev pub invariant-digits : goal.invariant-digits
invariant-digits l = digits_after l.number (drop l.c-index l.text) ≡ digits_after 0 l.text
