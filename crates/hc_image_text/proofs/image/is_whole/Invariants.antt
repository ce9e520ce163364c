use Rattle.std.proofs.Common.{◌≡◌, ◌-◌}
use Rattle.std.specs.Prelude.{is_some}
use Rattle.hc_image_text.specs.Images.{frames_from, image_in}
use Rattle.hc_image_text.proofs.image.is_whole.Given as goal

-- whether what is left is the rest of an image is whether all is one
abbrev pub invariant-loop : goal.invariant-loop
invariant-loop l = is_some (frames_from (l.end - l.counter) (record { digest = l.reader.digest; ended = l.reader.ended }) l.rest) ≡ is_some (image_in l.bytes)
