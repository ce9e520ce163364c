use Rattle.std.proofs.Common.{◌≡◌, true, take}
use Rattle.std.specs.List.{list_all}
use Rattle.hc_trace_text.specs.Numbers.{is_visible}
use Rattle.hc_trace_text.proofs.value.visible_front.Given as goal

abbrev pub invariant-text : goal.invariant-text
invariant-text l = list_all is_visible (take l.at l.text) ≡ true
