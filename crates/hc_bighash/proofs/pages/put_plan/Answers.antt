use Rattle.std.proofs.Common.{◌≡◌, ◌++◌, ◌∷◌, [], List, sym, ap, subst, ◌∙◌}
use Rattle.hc_types.specs.FlashEntry.{FlashEntry, entry_of}
use Rattle.hc_bucket.specs.Page.{page_bytes, Fits}
use Rattle.hc_engines.specs.small.Entries.{page_put}
use Rattle.hc_engines.specs.small.BigHash.{ToWrite}
use Rattle.hc_engines.proofs.small.Fitting.{fits-put}
use Rattle.hc_bighash.proofs.Paging.{entries_are, len_is}
use Rattle.hc_bighash.proofs.pages.put_plan.Goals as goal

pub with-requires-clause-fits : goal.with-requires-clause-fits
with-requires-clause-fits g c =
    let e : FlashEntry = entry_of c.args.entry.now in
    subst (λ (es : List FlashEntry). Fits c.args.page_size (es ++ e ∷ [])) (sym c.in_ok-losses.ensures.stay) (fits-put c.args.page_size e c.args.entries c.requires.small c.requires.fits c.requires.entry c.requires.len)

pub returns-clause-plan : goal.returns-clause-plan
returns-clause-plan g c =
    let e : FlashEntry = entry_of c.args.entry.now in
    let fits : Fits c.args.page_size (page_put c.args.page_size e c.args.entries) = fits-put c.args.page_size e c.args.entries c.requires.small c.requires.fits c.requires.entry c.requires.len in
    let is : c.in_ok-page.page ≡ page_bytes c.args.page_size (page_put c.args.page_size e c.args.entries) = c.in_ok-page.ensures ∙ ap (λ (es : List FlashEntry). page_bytes c.args.page_size (es ++ e ∷ [])) c.in_ok-losses.ensures.stay in
    λ i. ToWrite (entries_are c.args.page_size (page_put c.args.page_size e c.args.entries) c.in_ok-page.page fits is i) (c.in_ok-losses.ensures.losses i)

pub returns-clause-fits : goal.returns-clause-fits
returns-clause-fits g c =
    let e : FlashEntry = entry_of c.args.entry.now in
    let fits : Fits c.args.page_size (page_put c.args.page_size e c.args.entries) = fits-put c.args.page_size e c.args.entries c.requires.small c.requires.fits c.requires.entry c.requires.len in
    let is : c.in_ok-page.page ≡ page_bytes c.args.page_size (page_put c.args.page_size e c.args.entries) = c.in_ok-page.ensures ∙ ap (λ (es : List FlashEntry). page_bytes c.args.page_size (es ++ e ∷ [])) c.in_ok-losses.ensures.stay in
    len_is c.args.page_size (page_put c.args.page_size e c.args.entries) c.in_ok-page.page fits is
