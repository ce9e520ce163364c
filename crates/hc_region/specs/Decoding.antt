-- The entry that some bytes are, from its front and the bytes behind.
use Rattle.std.specs.Prelude.{ℕ, List, Option, Some, None}
use Rattle.hc_types.specs.FlashEntry.{FlashEntry}
use Rattle.hc_engines.specs.large.Entries.{made_of}
use Rattle.hc_region.specs.declared.decoding.Head.{Head}

abbrev pub made_by : Option Head → List ℕ → Option FlashEntry
made_by None body = None
made_by (Some head) body = made_of head.key head.pool head.value head.expiry body
