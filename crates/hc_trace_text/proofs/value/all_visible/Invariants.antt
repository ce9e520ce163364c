use Rattle.std.proofs.Common.{◌≡◌, ◌&&◌, drop}
use Rattle.std.specs.List.{list_all}
use Rattle.hc_trace_text.specs.Numbers.{is_visible}
use Rattle.hc_trace_text.proofs.value.all_visible.Given as goal

abbrev pub invariant-text : goal.invariant-text
invariant-text l = (l.seen && list_all is_visible (drop l.c-index l.text)) ≡ list_all is_visible l.text
