use Rattle.std.proofs.Common.{◌∷◌, sym, ap, ◌∙◌}
use Rattle.hc_trace_text.specs.Grammar.{item_of}
use Rattle.hc_trace_text.proofs.Orders.{item-is}
use Rattle.hc_trace_text.proofs.grammar.item_in.Goals as goal

pub returns : goal.returns
returns c =
    let pool = c.in_ok-pool.pool.now in
    let key = c.in_ok-key.key.now in
    let value = c.in_ok-value.value.now in
    let fields = c.in_ok-pool.ensures ∙ ap (λ z. pool ∷ z) (c.in_ok-key.ensures.1 ∙ ap (λ z. key ∷ z) c.in_ok-value.ensures) in
    c.item_with.ensures ∙ sym (ap item_of fields ∙ item-is pool key value c.in_ok-value.ttl.now)
