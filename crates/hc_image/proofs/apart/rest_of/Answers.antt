use Rattle.std.proofs.Common.{◌++◌, map, ap, ◌∙◌}
use Rattle.std.proofs.lemmas.Result.{IfOk-weaker}
use Rattle.hc_machine.specs.items.Items.{items_of}
use Rattle.hc_image.specs.Saved.{lists_frames, nvm_frames, digest_frame, item_frame}
use Rattle.hc_image.proofs.apart.rest_of.Goals as goal

pub returns-in-Ok : goal.returns-in-Ok
returns-in-Ok g c =
    rw (← c.carried.view_is)
    (IfOk-weaker c.rest_behind.result _ _
    (λ rest e. e ∙ ap (λ l. (l ++ lists_frames c.args.parts.nvm) ++ (map digest_frame c.carried.inside.digests.items ++ (nvm_frames c.args.parts.nvm ++ map item_frame (items_of c.args.parts.memory.pools)))) c.in-Ok.ensures)
    c.rest_behind.ensures)
