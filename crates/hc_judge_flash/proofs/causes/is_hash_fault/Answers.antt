use Rattle.std.proofs.Common.{◌∙◌, ◌==◌, ◌&&◌, ℕ, List, [], Option, ap, nat_lt}
use Rattle.hc_types.specs.Tally.{count}
use Rattle.hc_types.specs.Places.{is_page_of}
use Rattle.hc_history.specs.Regions.{Filing, filed}
use Rattle.hc_history.specs.Lawful.{past}
use Rattle.hc_legal.specs.Judge.{some_and}
use Rattle.hc_judge_flash.proofs.causes.is_hash_fault.Goals as goal

pub returns-in_ok-books-in-Some : goal.returns-in_ok-books-in-Some
returns-in_ok-books-in-Some g c =
    let there = λ (page : ℕ) (filings : List Filing). nat_lt 0 (count (λ (filing : Filing). (filing.kept == c.args.kept) && is_page_of c.args.flash.now filing.region page) filings) in
    let list = c.deref.ensures.value ∙ c.in_ok-books-in-Some.ensures.filed_is in
    c.is_filed_at.ensures ∙ ap (there c.in-Some.page) list ∙ ap (λ (found : Option ℕ). some_and found (λ page. there page (filed c.args.flash.now (past [] c.args.notes.now)))) c.in-Some.ensures
