use Rattle.std.proofs.Common.{◌≡◌, ◌+◌, length, Some, arith, sym, ◌∙◌}
use Rattle.std.proofs.lemmas.List.{length-take-le}
use Rattle.hc_image_text.specs.Frames.{cut_of, cut}
use Rattle.hc_image_text.proofs.Reading.{is_there, went_on}
use Rattle.hc_image_text.proofs.image.ImageReader.read.Goals as goal

pub slice_bounds-write-end : goal.slice_bounds-write-end
slice_bounds-write-end c =
    let bytes = c.args.bytes.now in
    let body = c.in-Some.body.now in
    let found : cut bytes ≡ Some (cut_of c.in-Some.kind body c.in-Some.rest.now) = sym c.in-Some.ensures in
    sym (length-take-le (5 + length body) bytes (is_there bytes c.in-Some.kind body c.in-Some.rest.now (λ i. omega (arith, c.type_inv.bytes i)) found))

pub returns-then-not-is_end-clause-goes_on : goal.returns-then-not-is_end-clause-goes_on
returns-then-not-is_end-clause-goes_on c =
    let r = c.self.inside in
    let bytes = c.args.bytes.now in
    let found : cut bytes ≡ Some (cut_of c.in-Some.kind c.in-Some.body.now c.in-Some.rest.now) = sym c.in-Some.ensures in
    rw (← c.self.view_is) (went_on r.digest c.write.new.self r.ended bytes c.in-Some.kind c.in-Some.body.now c.in-Some.rest.now (λ i. omega (arith, c.type_inv.bytes i)) c.if-self.false found (sym c.is_end.ensures ∙ c.if-not-is_end.true) c.write.ensures)
