use Rattle.std.proofs.Common.{◌≡◌, ◌++◌, ◌∷◌, [], List, ap, ◌∙◌, arith}
use Rattle.hc_types.specs.FlashEntry.{FlashEntry, entry_of}
use Rattle.hc_bucket.specs.Page.{page_bytes, Fits}
use Rattle.hc_engines.specs.small.Entries.{without}
use Rattle.hc_engines.specs.small.BigHash.{ToWrite}
use Rattle.hc_engines.proofs.small.Fitting.{fits-put, fits-none}
use Rattle.hc_bighash.proofs.Paging.{entries_are, len_is}
use Rattle.hc_bighash.proofs.plans.first_put.Goals as goal

pub returns-clause-plan : goal.returns-clause-plan
returns-clause-plan g c =
    let e : FlashEntry = entry_of c.args.entry.now in
    let fits : Fits c.args.page_size (e ∷ []) = fits-put c.args.page_size e [] c.requires.small (fits-none c.args.page_size (omega (arith, c.requires.len))) c.requires.entry c.requires.len in
    let is : c.in_ok-page.page ≡ page_bytes c.args.page_size (e ∷ []) = c.in_ok-page.ensures ∙ ap (λ (xs : List FlashEntry). page_bytes c.args.page_size (without e.key xs ++ e ∷ [])) c.none.ensures in
    λ i. ToWrite (entries_are c.args.page_size (e ∷ []) c.in_ok-page.page fits is i) (c.new-losses.ensures.items i)

pub returns-clause-fits : goal.returns-clause-fits
returns-clause-fits g c =
    let e : FlashEntry = entry_of c.args.entry.now in
    let fits : Fits c.args.page_size (e ∷ []) = fits-put c.args.page_size e [] c.requires.small (fits-none c.args.page_size (omega (arith, c.requires.len))) c.requires.entry c.requires.len in
    let is : c.in_ok-page.page ≡ page_bytes c.args.page_size (e ∷ []) = c.in_ok-page.ensures ∙ ap (λ (xs : List FlashEntry). page_bytes c.args.page_size (without e.key xs ++ e ∷ [])) c.none.ensures in
    len_is c.args.page_size (e ∷ []) c.in_ok-page.page fits is
