use Rattle.std.proofs.Common.{◌∷◌, sym, ap, ◌∙◌}
use Rattle.hc_trace_text.specs.Grammar.{five_of}
use Rattle.hc_trace_text.proofs.Orders.{five-is}
use Rattle.hc_trace_text.proofs.serving.five_in.Goals as goal

pub returns : goal.returns
returns c =
    let a = c.in_ok-a.a.now in
    let b = c.in_ok-b.b.now in
    let d = c.in_ok-c.c.now in
    let e = c.in_ok-d.d.now in
    let fields = c.in_ok-a.ensures ∙ ap (λ z. a ∷ z) (c.in_ok-b.ensures ∙ ap (λ z. b ∷ z) (c.in_ok-c.ensures ∙ ap (λ z. d ∷ z) c.in_ok-d.ensures)) in
    c.five_with.ensures ∙ sym (ap five_of fields ∙ five-is a b d e c.in_ok-d.fields.now)
