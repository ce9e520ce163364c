use Rattle.std.proofs.Common.{◌≡◌, Bool, List, true, false, not, get_or, sym, ap, ◌∙◌}
use Rattle.hc_block.proofs.Listed.{not_there, not_so, not_free, is_free}
use Rattle.hc_block.proofs.resting.come.Goals as goal

pub returns-then-r-regions-clause-value : goal.returns-then-r-regions-clause-value
returns-then-r-regions-clause-value g c = not_there _ _ _ _ c.if-r-regions.true

pub returns-then-not-stands-clause-value : goal.returns-then-not-stands-clause-value
returns-then-not-stands-clause-value g c = not_so _ _ _ (sym c.stands.ensures ∙ c.if-not-stands.true)

pub returns-then-is_marked-clause-value : goal.returns-then-is_marked-clause-value
returns-then-is_marked-clause-value g c =
    let here : get_or c.args.seen.now.items c.args.r false ≡ true = sym (ap (λ (seen : List Bool). get_or seen c.args.r false) c.deref.ensures.value) ∙ (sym c.is_marked.ensures ∙ c.if-is_marked.true) in
    not_free _ _ (ap not here)

pub returns-clause-value : goal.returns-clause-value
returns-clause-value g c =
    let free : get_or c.args.seen.now.items c.args.r false ≡ false = sym (ap (λ (seen : List Bool). get_or seen c.args.r false) c.deref.ensures.value) ∙ (sym c.is_marked.ensures ∙ c.if-is_marked.false) in
    is_free _ _ _ _ c.if-r-regions.false (sym c.stands.ensures ∙ c.if-not-stands.false) (ap not free)
