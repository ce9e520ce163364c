use Rattle.std.proofs.Common.{refl, ◌∷◌, [], ◌∙◌}
use Rattle.hc_image.specs.Saved.{head_frame, counters_frame, stamps_frame, owner_frame}
use Rattle.hc_image.proofs.Behind.{four_made}
use Rattle.hc_image.proofs.apart.first_records.Goals as goal

pub returns : goal.returns
returns g c =
    let head = head_frame c.args.shard c.config.result.now c.args.head.now in
    let counters = counters_frame c.counters_of.result in
    let stamps = stamps_frame c.args.stamps in
    let owner = owner_frame c.args.owner.items in
    four_made c.new-records.result.items head counters stamps owner c.push.new.records.items c.push-2.new.records.items c.push-3.new.records.items c.push-4.new.records.items
    c.new-records.ensures.items (c.in_ok-push.ensures head c.in_ok-first.ensures) (c.in_ok-push-2.ensures counters c.counters_record.ensures) (c.in_ok-push-3.ensures stamps c.stamps_record.ensures) (c.in_ok-push-4.ensures owner refl)
    ∙ (λ i. head_frame c.args.shard (c.config.ensures i) c.args.head.now ∷ counters_frame (c.counters_of.ensures i) ∷ stamps ∷ owner ∷ [])
