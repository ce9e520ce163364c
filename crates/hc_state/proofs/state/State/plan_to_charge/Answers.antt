use Rattle.std.proofs.Common.{◌<◌, ◌+◌, ◌*◌, map, length, refl, sym, ap, subst, inr, ◌∙◌}
use Rattle.std.proofs.lemmas.Result.{err_from_is_err_and}
use Rattle.hc_types.specs.Charge.{charge_of}
use Rattle.hc_memory.specs.Memory.{victims_of, oldest_keys}
use Rattle.hc_memory.specs.Seen.{filled}
use Rattle.hc_history.specs.Told.{where_kept}
use Rattle.hc_machine.specs.items.Allocating.{refusal_of}
use Rattle.hc_machine.specs.Cache.{Cache}
use Rattle.hc_state.specs.Whole.{Whole, HasRoom, costs}
use Rattle.hc_state.specs.allocate.Evict.{leave_of}
use Rattle.hc_state.proofs.allocate.Refusals.{pool-there}
use Rattle.hc_state.proofs.allocate.Charges.{oldest-go}
use Rattle.hc_state.proofs.state.State.plan_to_charge.Goals as goal

pub returns-clause-fits : goal.returns-clause-fits
returns-clause-fits g c = ap (λ (w : Whole). refusal_of w.cache.memory c.args.pool c.args.key.now (length (filled c.args.fill))) (sym c.self.view_is) ∙ c.in_ok-count.ensures.fits

pub returns-in_err-copy-clause-err : goal.returns-in_err-copy-clause-err
returns-in_err-copy-clause-err g c =
    let fits = ap (λ (w : Whole). refusal_of w.cache.memory c.args.pool c.args.key.now (length (filled c.args.fill))) (sym c.self.view_is) ∙ c.in_ok-count.ensures.fits in
    let p = err_from_is_err_and c.from_residual-in_err-copy.result c.from_residual-in_err-copy.ensures.1 in
    rw (p.1, p.2) (inr (fits, refl))

pub returns-in_err-leaves-clause-err : goal.returns-in_err-leaves-clause-err
returns-in_err-leaves-clause-err g c =
    let fits = ap (λ (w : Whole). refusal_of w.cache.memory c.args.pool c.args.key.now (length (filled c.args.fill))) (sym c.self.view_is) ∙ c.in_ok-count.ensures.fits in
    let p = err_from_is_err_and c.from_residual-in_err-leaves.result c.from_residual-in_err-leaves.ensures.1 in
    rw (p.1, p.2) (inr (fits, refl))

pub plan_to_leave-requires : goal.plan_to_leave-requires
plan_to_leave-requires g c =
    let fits = ap (λ (w : Whole). refusal_of w.cache.memory c.args.pool c.args.key.now (length (filled c.args.fill))) (sym c.self.view_is) ∙ c.in_ok-count.ensures.fits in
    subst (λ (k : Cache). c.args.pool < length k.memory.pools) (sym c.reserve_to_leave.ensures.same.cache)
    (pool-there c.args.self.now.cache.memory c.args.pool c.args.key.now (length (filled c.args.fill)) fits)

pub returns-clause-ok : goal.returns-clause-ok
returns-clause-ok g c =
    let pool = c.args.pool in
    let want = charge_of c.args.key.now (length (filled c.args.fill)) in
    let now = c.reserve_to_leave.new.self in
    let same = c.reserve_to_leave.ensures.same in
    let count =
    c.in_ok-count.ensures.count
    ∙ ap (λ (w : Whole). length (victims_of w.cache.memory pool want)) c.self.view_is
    ∙ ap (λ (k : Cache). length (victims_of k.memory pool want)) (sym same.cache) in
    let keys = ap (oldest_keys now.cache.memory pool) count ∙ oldest-go now.cache.memory pool want in
    record {
      count = count;
      leaves = λ flash. c.in_ok-leaves.ensures flash ∙ ap (map (leave_of now.log)) keys;
      copy = c.in_ok-copy.ensures ∙ ap (λ (w : Whole). where_kept w.log c.args.key.now) c.self-2.view_is;
      room = subst (λ (k : Cache). HasRoom (costs (2 * c.in_ok-count.count + 2 + length k.memory.charges) c.in_ok-count.count 0 0) now) (sym same.cache) c.in_ok-reserve_to_leave.ensures.room;
    }
