use Rattle.std.proofs.Common.{List, ℕ, length, ap, ◌∙◌, arith, subst}
use Rattle.std.proofs.lemmas.List.{nil_from_length}
use Rattle.std.specs.Vec.Iter.{into_iter_items}
use Rattle.hc_state.proofs.set.Supersedes.{Sending, next-sent, one-sent, all-sent}
use Rattle.hc_state.proofs.state.State.send_all.Goals as goal

pub send_oldest-requires : goal.send_oldest-requires
send_oldest-requires g c =
    let kept = c.loop-copy.invariant in
    let rest = into_iter_items c.next.new.self in
    let steps = c.in-Some.ensures.steps in
    let sending = subst (λ (ks : List (List ℕ)). Sending c.args.pool c.args.want c.args.keys.items ks c.args.self.now c.loop-copy.self) steps.0 kept.sending in
    let ready = next-sent c.args.pool c.args.want c.args.keys.items rest c.in-Some.copy c.args.self.now c.loop-copy.self sending c.requires.room in
    record { quiet = sending.quiet; pool = sending.within; first = ready.first; absent = ready.absent; room = ready.room }

pub loop-copy-preserved : goal.loop-copy-preserved
loop-copy-preserved g c =
    let kept = c.loop-copy.invariant in
    let rest = into_iter_items c.next.new.self in
    let steps = c.in-Some.ensures.steps in
    let sending = subst (λ (ks : List (List ℕ)). Sending c.args.pool c.args.want c.args.keys.items ks c.args.self.now c.loop-copy.self) steps.0 kept.sending in
    record {
      sending = one-sent c.args.pool c.args.want c.args.keys.items rest c.in-Some.copy c.args.self.now c.loop-copy.self c.send_oldest.new.self sending c.send_oldest.ensures;
      counted = omega (arith, ap length steps.0, kept.counted, steps.1);
    }

pub returns : goal.returns
returns g c =
    let kept = c.loop-copy.invariant in
    all-sent c.args.pool c.args.want c.args.keys.items (into_iter_items c.loop-copy.copy-iterator) c.args.self.now c.loop-copy.self (nil_from_length _ (kept.counted ∙ c.in-None.ensures.steps.0)) kept.sending
