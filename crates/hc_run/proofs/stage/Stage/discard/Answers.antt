use Rattle.std.proofs.Common.{◌<◌, true, false, length, sym, subst, arith}
use Rattle.hc_run.specs.Asked.{handle_of}
use Rattle.hc_run.specs.Shows.{Stage, AreOwn}
use Rattle.hc_run.proofs.Slotting.{read-is}
use Rattle.hc_run.proofs.Slotted.{content-own, discard-none, discard-so}
use Rattle.hc_run.proofs.stage.Stage.discard.Goals as goal

pub returns-then-not-is_filled-clause-moves : goal.returns-then-not-is_filled-clause-moves
returns-then-not-is_filled-clause-moves g c =
    let f = c.self.inside in
    let within : c.args.slot < length f.slots.items = omega (arith, c.self.invariant) in
    let empty = read-is f.slots.items c.from.result c.args.slot c.index.result.now false c.is_filled.result c.from.ensures within c.index.ensures c.is_filled.ensures c.if-not-is_filled.true in
    rw (← c.self.view_is) (λ held. discard-none held f.window f.failures f.results.results f.core.cache f.core.cache f.core.log f.core.log f.slots.items f.slots.items c.args.client c.args.slot empty)

pub give_up_content-requires : goal.give_up_content-requires
give_up_content-requires g c =
    let f = c.self.inside in
    let own = subst (λ (s : Stage). AreOwn s.slots s.cache) (sym c.self.view_is) c.requires.own in
    record { mine = content-own f.core.cache f.slots.items c.args.slot (handle_of c.take-content.result) own c.take-content.ensures.content }

pub returns-clause-moves : goal.returns-clause-moves
returns-clause-moves g c =
    let f = c.self.inside in
    let own = subst (λ (s : Stage). AreOwn s.slots s.cache) (sym c.self.view_is) c.requires.own in
    let within : c.args.slot < length f.slots.items = omega (arith, c.self.invariant) in
    let full = read-is f.slots.items c.from.result c.args.slot c.index.result.now true c.is_filled.result c.from.ensures within c.index.ensures c.is_filled.ensures c.if-not-is_filled.false in
    let gone = c.give_up_content.new.core in
    rw (← c.self.view_is)
    (λ held. discard-so held f.window f.failures f.results.results f.core.cache gone.cache f.core.log gone.log f.slots.items c.take-content.new.slots.items c.args.client c.args.slot (handle_of c.take-content.result)
    c.take-content.ensures.content full own c.give_up_content.ensures.cache c.give_up_content.ensures.log c.take-content.ensures.slots)
