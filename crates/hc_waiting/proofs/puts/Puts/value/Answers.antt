-- The put that the key's piece is.
use Rattle.std.proofs.Common.{◌≡◌, subst, IfOk}
use Rattle.std.specs.Prelude.{option_map}
use Rattle.hc_types.specs.FlashEntry.{entry_of}
use Rattle.hc_waiting.proofs.Pieces.{put_there}
use Rattle.hc_waiting.proofs.puts.Puts.value.Goals as goal

pub returns : goal.returns
returns g c = rw (← c.self.view_is) (subst (λ found. IfOk c.copy_at.result (λ put. option_map entry_of put ≡ found)) (put_there c.args.key.now c.self.inside.line.pieces) c.copy_at.ensures)
