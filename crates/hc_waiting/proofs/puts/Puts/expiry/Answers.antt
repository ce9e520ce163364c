-- When the put that the key's piece is expires.
use Rattle.std.proofs.Common.{◌∙◌, ap}
use Rattle.std.specs.Prelude.{option_map}
use Rattle.hc_types.specs.FlashEntry.{FlashEntry}
use Rattle.hc_waiting.specs.Puts.{put_in}
use Rattle.hc_waiting.proofs.Pieces.{put_there}
use Rattle.hc_waiting.proofs.puts.Puts.expiry.Goals as goal

pub returns : goal.returns
returns g c =
    rw (← c.self.view_is) (c.expiry_by.ensures ∙ ap (λ piece. option_map (λ (put : FlashEntry). put.expiry) (option_map put_in piece)) c.get.ensures
    ∙ ap (option_map (λ (put : FlashEntry). put.expiry)) (put_there c.args.key.now c.self.inside.line.pieces))
