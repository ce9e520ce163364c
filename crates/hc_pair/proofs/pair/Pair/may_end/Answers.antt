use Rattle.std.proofs.Common.{◌≡◌, refl, sym, ap, ◌∙◌}
use Rattle.hc_engines.specs.pair.Pair.{Pair}
use Rattle.hc_engines.specs.Seen.{op_of}
use Rattle.hc_pair.proofs.Closing.{not_over}
use Rattle.hc_pair.proofs.pair.Pair.may_end.Goals as goal
