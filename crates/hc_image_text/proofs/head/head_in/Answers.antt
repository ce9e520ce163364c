use Rattle.std.proofs.Common.{◌≤◌, ◌-◌, length, drop, sym, ap, subst, arith, length-drop, take_all, ◌∙◌}
use Rattle.hc_image_text.specs.Heads.{whose_bytes, told_in, Reads}
use Rattle.hc_image_text.proofs.Headed.{head_told}
use Rattle.hc_image_text.proofs.head.head_in.Goals as goal

pub returns : goal.returns
returns g c =
    let bytes = c.args.bytes.now in
    let shard = c.args.shard in
    let config = c.args.config.now in
    let long : 20 ≤ length bytes = omega (arith, c.if-bytes-lt20.false) in
    let all = head_told shard config bytes long (sym c.has_name.ensures ∙ c.if-not-has_name.false) (sym c.has_version.ensures ∙ c.if-not-has_version.false) in
    let rest = take_all (length bytes - 20) (drop 20 bytes) (omega (arith, length-drop 20 bytes)) in
    subst (Reads c.told_of.result) (ap (told_in (whose_bytes shard config)) rest ∙ sym all) c.told_of.ensures
