use Rattle.std.proofs.Common.{◌≡◌, Option, None, sym, ap, ◌∙◌, subst}
use Rattle.std.specs.Prelude.{IsSome}
use Rattle.hc_memory.specs.Item.{Item}
use Rattle.hc_memory.specs.Memory.{Memory, oldest_of, after_evict}
use Rattle.hc_machine.specs.Nvm.{Nvm, put_at}
use Rattle.hc_machine.specs.Cache.{Cache, with_memory}
use Rattle.hc_machine.specs.Calls.{queue_of}
use Rattle.hc_state.specs.Whole.{Whole, spare_of, nvm_of}
use Rattle.hc_state.proofs.set.Sets.{oldest-left}
use Rattle.hc_state.proofs.state.State.forget_oldest.Goals as goal

pub leave-requires-clause-absent : goal.leave-requires-clause-absent
leave-requires-clause-absent g c =
    let flash : nvm_of c.self.inside.nvm ≡ None = rw (← c.self.view_is) at c.requires.flash in
    ap (λ (nvm : Option Nvm). put_at c.in-Some.item.key (queue_of nvm)) flash

pub returns : goal.returns
returns g c =
    let f = c.self.inside in
    let pool = c.args.pool in
    let full : Whole = record { cache = record { config = f.config; memory = c.evict_oldest.new.self; now = f.clock; calls = f.calls; owed = f.replies; nvm = nvm_of f.nvm }; log = g.N.Listener.told f.notes; notes = g.N.Listener.room f.notes; spare = spare_of f.nvm } in
    let oldest = c.in-Some.ensures.value ∙ ap (λ (w : Whole). oldest_of w.cache.memory pool) c.self.view_is in
    let full_is : full ≡ record c.args.self.now { cache = with_memory (after_evict c.args.self.now.cache.memory pool) c.args.self.now.cache } =
    (λ i. record full { cache = record full.cache { memory = c.in-Some.ensures.pools i } })
    ∙ ap (λ (w : Whole). record w { cache = with_memory (after_evict w.cache.memory pool) w.cache }) c.self.view_is in
    oldest-left pool c.args.want c.in-Some.item c.args.self.now full c.leave.new.self oldest full_is c.leave.ensures

pub unreachable-requires : goal.unreachable-requires
unreachable-requires g c =
    let some = rw (← c.self.view_is) at c.requires.some in
    let none : IsSome {T = Item} None = subst (λ (o : Option Item). IsSome o) (sym c.in-None.ensures.value) some in
    cc
