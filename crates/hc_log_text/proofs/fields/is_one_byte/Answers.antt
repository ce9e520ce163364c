use Rattle.std.proofs.Common.{◌≡◌, true, nat_le, not, ◌&&◌, sym, ap, ◌∙◌, arith}
use Rattle.std.proofs.lemmas.Bool.Decides.{nat_tests}
use Rattle.std.specs.Char.{is_ascii_digit}
use Rattle.hc_trace_text.specs.Seen.{bytes_of}
use Rattle.hc_trace_text.specs.Texts.{is_repeated}
use Rattle.hc_log_text.proofs.Repeats.{repeated_is}
use Rattle.hc_log_text.proofs.fields.is_one_byte.Goals as goal

pub returns-then-count-ge4 : goal.returns-then-count-ge4
returns-then-count-ge4 c =
    let count = c.in-Repeated.count in
    let byte = c.in-Repeated.c in
    let high = c.if-count-ge4.true in
    let many : nat_le 4 count ≡ true = grind (arith, nat_tests, high) in
    ap not c.is_ascii_digit.ensures.value
    ∙ sym (ap (λ b. b && not (is_ascii_digit byte)) many)
    ∙ sym (repeated_is count byte)
    ∙ sym (ap (λ v. is_repeated (bytes_of v)) c.in-Repeated.is)
