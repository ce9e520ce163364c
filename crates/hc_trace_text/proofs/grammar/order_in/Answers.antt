use Rattle.std.proofs.Common.{sym, ap, ◌∙◌}
use Rattle.std.specs.Str.{bytes_eq}
use Rattle.hc_trace_text.specs.Lines.{fields_of}
use Rattle.hc_trace_text.specs.Grammar.{order_of}
use Rattle.hc_trace_text.proofs.Orders.{serves}
use Rattle.hc_trace_text.proofs.grammar.order_in.Goals as goal

pub returns-else-eq : goal.returns-else-eq
returns-else-eq c =
    let line = c.args.line.now in
    c.serve_in.ensures ∙ sym (serves line c.in_default.ensures c.in_default-behind.ensures c.in_default-behind-3.ensures c.in_default-behind-2.ensures c.in_default-behind-4.ensures c.in_default-behind-5.ensures
    (sym (c.eq.ensures ∙ ap (bytes_eq line) c.as_slice.ensures) ∙ c.if-eq.false))

pub returns-in-Some : goal.returns-in-Some
returns-in-Some c = c.get_in.ensures ∙ sym (ap (λ l. order_of (fields_of l)) c.in-Some.ensures)

pub returns-in-Some-behind : goal.returns-in-Some-behind
returns-in-Some-behind c = c.set_in.ensures ∙ sym (ap (λ l. order_of (fields_of l)) c.in-Some-behind.ensures)

pub returns-in-Some-behind-2 : goal.returns-in-Some-behind-2
returns-in-Some-behind-2 c = c.del_in.ensures ∙ sym (ap (λ l. order_of (fields_of l)) c.in-Some-behind-2.ensures)

pub returns-in-Some-behind-3 : goal.returns-in-Some-behind-3
returns-in-Some-behind-3 c = c.add_in.ensures ∙ sym (ap (λ l. order_of (fields_of l)) c.in-Some-behind-3.ensures)

pub returns-in-Some-behind-4 : goal.returns-in-Some-behind-4
returns-in-Some-behind-4 c = c.now_in.ensures ∙ sym (ap (λ l. order_of (fields_of l)) c.in-Some-behind-4.ensures)

pub returns-in-Some-behind-5 : goal.returns-in-Some-behind-5
returns-in-Some-behind-5 c = c.pool_in.ensures ∙ sym (ap (λ l. order_of (fields_of l)) c.in-Some-behind-5.ensures)
