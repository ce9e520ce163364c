use Rattle.std.proofs.Common.{Some, ap, sym, ◌∙◌}
use Rattle.std.specs.Prelude.{option_map}
use Rattle.hc_queue.specs.Keys.{value_of, named, named_at}
use Rattle.hc_queue.proofs.Keeping.{lookup-is}
use Rattle.hc_queue.proofs.Valued.{set-named, idle-named}
use Rattle.hc_queue.proofs.order.replace_in.Goals as goal

pub returns-in-Some-clause-value : goal.returns-in-Some-clause-value
returns-in-Some-clause-value g c = ap Some c.replace.ensures.value ∙ ap (option_map value_of) (c.in-Some.ensures.value ∙ lookup-is c.args.number c.args.pieces.now.entries)

pub returns-in-Some-clause-entries : goal.returns-in-Some-clause-entries
returns-in-Some-clause-entries g c = λ high rises.
    (c.get_mut.follows.holds (named c.replace.new.dest c.in-Some.piece.now)).0
    ∙ (set-named c.replace.new.dest c.args.number 0 high c.in-Some.piece.now c.args.pieces.now.entries rises c.in-Some.ensures.value
    ∙ ap (λ v. named_at c.args.number v c.args.pieces.now.entries) c.replace.ensures.after)

pub returns-in-None-clause-value : goal.returns-in-None-clause-value
returns-in-None-clause-value g c = ap (option_map value_of) (c.in-None.ensures.value ∙ lookup-is c.args.number c.args.pieces.now.entries)

pub returns-in-None-clause-entries : goal.returns-in-None-clause-entries
returns-in-None-clause-entries g c = λ high rises. ap (λ m. m.entries) c.get_mut.follows.holds-at-none ∙ sym (idle-named c.args.value c.args.number c.args.pieces.now.entries c.in-None.ensures.value)
