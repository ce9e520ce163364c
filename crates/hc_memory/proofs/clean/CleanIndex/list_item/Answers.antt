use Rattle.std.proofs.Common.{length, sym, ◌∙◌, ap, arith}
use Rattle.hc_memory.specs.Clean.{Listing, is_listed}
use Rattle.hc_memory.specs.Item.{Item}
use Rattle.hc_memory.proofs.Built.{told-now}
use Rattle.hc_memory.proofs.Marking.{listed-same}
use Rattle.hc_memory.proofs.clean.CleanIndex.list_item.Goals as goal

pub returns-clause-told : goal.returns-clause-told
returns-clause-told g c = λ clean.
    let x : Item = c.args.item.now in
    let newest = ap (λ (l : Listing). l.newest) c.set_newest.ensures in
    let number = ap (λ (y : Item). y.number) c.item.view_is in
    let keys = ap (λ (y : Item). y.key) c.item.view_is in
    let lens = c.len.ensures.value ∙ ap (λ (y : Item). length y.value) c.item.view_is in
    let there = sym (λ i. is_listed c.args.flash.now c.list.new.self (keys i) (lens i)) ∙ c.in_ok-list.ensures.listed in
    told-now c.args.flash.now c.list.new.self c.set_newest.new.self x (omega (arith, newest, number, c.max-newest.ensures)) (ap (λ (l : Listing). l.large) c.set_newest.ensures) there

pub returns-clause-stay : goal.returns-clause-stay
returns-clause-stay g c = λ other n h.
    listed-same c.args.flash.now c.list.new.self c.set_newest.new.self other n (ap (λ (l : Listing). l.large) c.set_newest.ensures) (c.list.ensures.stay other n h)
