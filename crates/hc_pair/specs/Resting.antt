-- Both engines at rest.
use Rattle.std.specs.Prelude.{◌==◌, ◌&&◌, Bool, length}
use Rattle.hc_engines.specs.pair.Pair.{Pair}

-- no operation is under way in either engine
abbrev pub is_idle : Pair → Bool
is_idle pair = (length pair.small.jobs == 0) && (length pair.large.jobs == 0)
