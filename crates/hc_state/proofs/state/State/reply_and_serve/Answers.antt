use Rattle.std.proofs.Common.{refl, ap, arith, [], ◌∷◌}
use Rattle.hc_history.specs.Note.{Did}
use Rattle.hc_history.specs.Seen.{reply_of}
use Rattle.hc_machine.specs.Cache.{tells}
use Rattle.hc_state.specs.Whole.{Whole, for_notes}
use Rattle.hc_state.proofs.wait.Ends.{can-then, many-then, replied}
use Rattle.hc_state.proofs.state.State.reply_and_serve.Goals as goal

pub end_waiting-requires : goal.end_waiting-requires
end_waiting-requires g c =
    let key = c.args.key.now in
    let old = c.args.self.now in
    let mid = c.tell_answered.new.self in
    let told = tells (Did c.self.inside.calls (reply_of c.args.reply) ∷ []) old.cache in
    let does = c.tell_answered.ensures in
    let many = many-then key told (for_notes 1) old mid does refl in
    record {
      can = can-then key c.args.courses.items told (for_notes 1) old mid does refl refl c.requires.can;
      stones = omega (arith, many, does.room.stones, c.requires.stones);
      room = omega (arith, many, does.room.notes, c.requires.room);
    }

pub returns : goal.returns
returns g c =
    let calls = ap (λ (whole : Whole). whole.cache.calls) c.self.view_is in
    replied c.args.key.now c.args.courses.items c.args.standing (reply_of c.args.reply) c.self.inside.calls c.args.self.now c.tell_answered.new.self c.end_waiting.new.self c.tell_ended.new.self calls c.tell_answered.ensures c.end_waiting.ensures c.tell_ended.ensures
