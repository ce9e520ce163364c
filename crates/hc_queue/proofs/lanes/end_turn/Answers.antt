use Rattle.std.proofs.Common.{◌≡◌, ◌+◌, length, true, arith, sym, ap, subst, ◌∙◌, ℕ, Bool, Option, Some}
use Rattle.std.specs.Prelude.{if◌then◌else◌}
use Rattle.hc_queue.specs.Queue.{Waits}
use Rattle.hc_queue.proofs.Keeping.{end-length}
use Rattle.hc_queue.proofs.lanes.end_turn.Goals as goal

pub returns-then-remove-clause-room : goal.returns-then-remove-clause-room
returns-then-remove-clause-room g c =
    let there = subst (λ (t : Option (Option ℕ)). Waits t c.args.number c.args.waits.now.keys) (c.in-Some.is ∙ ap Some c.in-Some-turn.is) c.requires.waits in
    let out : c.remove.result ≡ true = c.remove.ensures.test ∙ rw c.from.ensures there in
    let fewer : length c.remove.new.self.keys + 1 ≡ length c.args.waits.now.keys = sym (ap (λ (b : Bool). length c.remove.new.self.keys + (if b then 1 else 0)) out) ∙ c.remove.ensures.len in
    let more : length c.push_reserved.new.self.items ≡ length c.args.stale.now.items + 1 = ap length c.push_reserved.ensures.items ∙ end-length c.args.stale.now.items c.in-Some-turn.lane in
    omega (arith, fewer, more)
