use Rattle.std.proofs.Common.{◌≡◌, ◌&&◌, drop}
use Rattle.std.specs.List.{list_all}
use Rattle.hc_log_text.specs.Reading.{is_small_digit}
use Rattle.hc_log_text.proofs.fields.all_small_digits.Given as goal

abbrev pub invariant-text : goal.invariant-text
invariant-text l = (l.seen && list_all is_small_digit (drop l.c-index l.text)) ≡ list_all is_small_digit l.text
