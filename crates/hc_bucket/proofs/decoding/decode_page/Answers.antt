use Rattle.std.proofs.Common.{◌≡◌, Some, sym, ◌∙◌, ap, arith}
use Rattle.hc_types.specs.FlashEntry.{entries_of}
use Rattle.hc_bucket.specs.Reading.{page_at}
use Rattle.hc_bucket.proofs.Pages.{page_takes, page_is_read}
use Rattle.hc_bucket.proofs.Numbers.{some_is}
use Rattle.hc_bucket.proofs.Scanning.{none-some}
use Rattle.hc_bucket.proofs.decoding.decode_page.Goals as goal

pub returns-in-Some-clause-page : goal.returns-in-Some-clause-page
returns-in-Some-clause-page g c =
    let read : page_at c.args.page_size c.args.page.now ≡ Some (entries_of c.in_ok-copies-in-Some.copies.items) = sym c.in-Some.ensures.read ∙ ap Some (sym c.in_ok-copies-in-Some.ensures) in
    page_takes c.args.page_size c.args.page.now (entries_of c.in_ok-copies-in-Some.copies.items) (λ i. omega (arith, c.type_inv.page i)) read

pub returns-in-Some-clause-only : goal.returns-in-Some-clause-only
returns-in-Some-clause-only g c = λ es h.
    let read : page_at c.args.page_size c.args.page.now ≡ Some (entries_of c.in_ok-copies-in-Some.copies.items) = sym c.in-Some.ensures.read ∙ ap Some (sym c.in_ok-copies-in-Some.ensures) in
    some_is es (entries_of c.in_ok-copies-in-Some.copies.items) (sym (page_is_read c.args.page_size es c.args.page.now h) ∙ read)

pub returns-clause-no_page : goal.returns-clause-no_page
returns-clause-no_page g c = λ es h. none-some es (c.in-None.ensures.read ∙ page_is_read c.args.page_size es c.args.page.now h)
