use Rattle.std.proofs.Common.{◌≡◌, ◌+◌, ◌-◌, length, None, sym, ap, subst, ◌∙◌}
use Rattle.std.specs.Prelude.{is_some, Ok, Err}
use Rattle.hc_image_text.specs.Frames.{cut_of}
use Rattle.hc_image_text.specs.Images.{Reading, behind, frames_from, image_in}
use Rattle.hc_image_text.proofs.Reading.{answered, loop_frame, loop_stops}
use Rattle.hc_image_text.proofs.image.is_whole.Goals as goal

pub returns-in-Ok-None : goal.returns-in-Ok-None
returns-in-Ok-None c =
    let bytes = c.args.bytes.now in
    let r : Reading = record { digest = c.loop.reader.digest; ended = c.loop.reader.ended } in
    loop_stops (length bytes) c.loop.counter r c.loop.rest.now (Ok None) (is_some (image_in bytes)) c.loop-test.true (answered _ _ _ _ c.in-Ok-None.field-0-is c.in-Ok-None.ensures.answers) c.loop.invariant

pub returns-in-Err : goal.returns-in-Err
returns-in-Err c =
    let bytes = c.args.bytes.now in
    let r : Reading = record { digest = c.loop.reader.digest; ended = c.loop.reader.ended } in
    loop_stops (length bytes) c.loop.counter r c.loop.rest.now (Err c.in-Err.field-0) (is_some (image_in bytes)) c.loop-test.true c.in-Err.ensures.answers c.loop.invariant

pub loop-preserved : goal.loop-preserved
loop-preserved c =
    let bytes = c.args.bytes.now in
    let at = c.in-Ok-Some in
    let r : Reading = record { digest = c.loop.reader.digest; ended = c.loop.reader.ended } in
    let found = answered _ _ _ _ at.field-0-is at.ensures.answers in
    let on = loop_frame (length bytes) c.loop.counter r c.loop.rest.now (cut_of at.field-0-0-0 at.field-0-0-1.now at.behind.now) (is_some (image_in bytes)) c.loop-test.true found c.loop.invariant in
    subst (λ (x : Reading). is_some (frames_from (length bytes - (c.loop.counter + 1)) x at.behind.now) ≡ is_some (image_in bytes)) (sym (c.read.ensures.goes_on ∙ ap (behind r) found)) on
