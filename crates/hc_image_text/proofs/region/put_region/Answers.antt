use Rattle.std.proofs.lemmas.Result.{on_ok_weaker}
use Rattle.std.proofs.Common.{◌++◌}
use Rattle.hc_image_text.proofs.Behind.{on_ok_of, region_parts}
use Rattle.hc_image_text.proofs.region.put_region.Goals as goal

pub returns : goal.returns
returns g c =
    on_ok_weaker c.extend_from_slice.result
    (λ last. region_parts c.args.out.now.items c.args.rest c.args.region.now c.rest_byte.result c.written.result c.appended.result.now c.appended-2.result.now c.buffer.result.now c.push.new.self.items c.put_number.new.out.items c.put_u32.new.out.items c.put_appended.new.out.items c.extend_from_slice.new.self.items
    c.rest_byte.ensures c.written.ensures c.appended.ensures c.appended-2.ensures c.buffer.ensures
    c.in_ok-push.ensures.items c.in_ok-put_number.ensures c.in_ok-put_u32.ensures c.in_ok-put_appended.ensures last)
    (on_ok_of c.extend_from_slice.result c.extend_from_slice.new.self.items (c.put_appended.new.out.items ++ c.buffer.result.now) c.put_appended.new.out.items c.extend_from_slice.ensures.items)
