use Rattle.std.proofs.Common.{◌≡◌, ◌==◌, ◌&&◌, drop}
use Rattle.std.specs.List.{list_all}
use Rattle.hc_trace_text.proofs.texts.all_are.Given as goal

abbrev pub invariant-bytes : goal.invariant-bytes
invariant-bytes l = (l.same && list_all (λ b. b == l.c) (drop l.b-index l.bytes)) ≡ list_all (λ b. b == l.c) l.bytes
