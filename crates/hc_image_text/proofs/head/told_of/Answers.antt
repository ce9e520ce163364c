use Rattle.std.proofs.Common.{◌≡◌, sym, ap, ◌∙◌}
use Rattle.hc_image_text.specs.Heads.{whose_bytes, told_in}
use Rattle.hc_image_text.proofs.Headed.{reads_same}
use Rattle.hc_image_text.proofs.head.told_of.Goals as goal

pub returns-in-Ok : goal.returns-in-Ok
returns-in-Ok g c =
    let bytes = c.args.bytes.now in
    let whose = whose_bytes c.args.shard c.args.config.now in
    let is : c.as_slice.result.now ≡ whose = c.as_slice.ensures.value ∙ c.in-Ok.ensures in
    reads_same c.told_in.result (told_in whose bytes) (sym (c.told_in.ensures ∙ ap (λ w. told_in w bytes) is))
