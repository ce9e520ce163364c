use Rattle.std.proofs.Common.{◌+◌, ◌*◌, length, sym, ap, subst, arith, ◌∙◌}
use Rattle.hc_types.specs.Charge.{charge_of}
use Rattle.hc_memory.specs.Memory.{victims_of}
use Rattle.hc_memory.specs.Seen.{filled}
use Rattle.hc_machine.specs.items.Allocating.{refusal_of}
use Rattle.hc_machine.specs.Cache.{Cache}
use Rattle.hc_state.specs.Whole.{Whole, HasRoom, costs}
use Rattle.hc_state.proofs.allocate.Refusals.{may-be}
use Rattle.hc_state.proofs.state.State.plan_to_set.Goals as goal

pub returns-clause-fits : goal.returns-clause-fits
returns-clause-fits g c = ap (λ (w : Whole). refusal_of w.cache.memory c.args.pool c.args.key.now (length (filled c.args.fill))) (sym c.self.view_is) ∙ c.in_ok-count.ensures.fits

pub value_by-requires : goal.value_by-requires
value_by-requires g c = grind (arith, (may-be c.self.inside.pools c.args.pool c.args.key.now (length (filled c.args.fill)) c.in_ok-count.ensures.fits).0)

pub returns-clause-ok : goal.returns-clause-ok
returns-clause-ok g c =
    let pool = c.args.pool in
    let want = charge_of c.args.key.now (length (filled c.args.fill)) in
    let now = c.reserve_to_leave.new.self in
    let same = c.reserve_to_leave.ensures.same in
    record {
      call = c.in_ok-call.ensures.ok ∙ ap (λ (k : Cache). k.calls + 1) (sym same.cache);
      number = c.in_ok-number.ensures ∙ ap (λ (w : Whole). w.cache.memory.made + 1) c.self-2.view_is;
      count = c.in_ok-count.ensures.count ∙ ap (λ (w : Whole). length (victims_of w.cache.memory pool want)) c.self.view_is ∙ ap (λ (k : Cache). length (victims_of k.memory pool want)) (sym same.cache);
      bytes = c.in_ok-value.ensures;
      room = subst (λ (k : Cache). HasRoom (costs (2 * c.in_ok-count.count + 9 + length k.memory.charges) c.in_ok-count.count 1 0) now) (sym same.cache) c.in_ok-reserve_to_leave.ensures.room;
    }
