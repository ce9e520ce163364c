use Rattle.std.proofs.Common.{arith, sym, ◌∙◌}
use Rattle.hc_command_line.proofs.Reading.{no_count}
use Rattle.hc_command_line.proofs.asked.count_in.Goals as goal

pub returns-else-count-gt0 : goal.returns-else-count-gt0
returns-else-count-gt0 c =
    let made = c.in_ok-count.ensures.decimal in
    no_count c.args.text.now c.in_ok-count.count made.0 (sym c.as_bytes.ensures.value ∙ made.1)
    (λ is. let least = is.0 in let most = is.1 in let either = c.else-count-gt0.either in grind arith)
