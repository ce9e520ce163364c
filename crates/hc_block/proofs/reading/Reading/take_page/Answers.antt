use Rattle.std.proofs.Common.{◌≡◌, ◌∙◌, ◌++◌, ◌+◌, ap}
use Rattle.std.specs.List.{concat}
use Rattle.hc_block.proofs.Joining.{page_more}
use Rattle.hc_block.proofs.reading.Reading.take_page.Goals as goal

pub returns-clause-ok : goal.returns-clause-ok
returns-clause-ok g c =
    let got : concat c.push.new.self.items ≡ concat c.self.inside.got.items ++ c.args.page.now =
    ap concat c.in_ok-push.ensures.items ∙ page_more c.self.inside.got.items c.in_ok-page.page ∙ ap (λ page. concat c.self.inside.got.items ++ page) c.in_ok-page.ensures.cases in
    rw (← c.self.view_is) (λ i. record { key = c.self.inside.key; place = c.self.inside.place; got = got i; next = c.self.inside.next + 1; until = c.self.inside.until; rest = c.self.inside.rest.items })
