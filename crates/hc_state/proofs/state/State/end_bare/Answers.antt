use Rattle.std.proofs.Common.{refl, sym, subst}
use Rattle.std.specs.Prelude.{IsSome}
use Rattle.hc_state.proofs.fill.BareEnds.{bare-ends, bare-told, bare-fit, bare-free, bare-room, bare-end}
use Rattle.hc_state.proofs.state.State.end_bare.Goals as goal

pub end_fill-take-requires : goal.end_fill-take-requires
end_fill-take-requires g c =
    let r = c.requires.ready in
    record {
      ends = bare-ends c.args.way c.args.key.now c.args.ending c.args.courses.items r.0 c.args.self.now r.1 r.2;
      of_key = subst (λ k. IsSome k) (sym r.1.key_is) refl;
      room = bare-told c.args.way c.args.key.now c.args.ending c.args.courses.items r.0 c.args.self.now r.1 r.2;
    }

pub serve_all-requires : goal.serve_all-requires
serve_all-requires g c =
    let r = c.requires.ready in
    let over = c.end_fill-take.ensures c.args.key.now r.1.key_is in
    let room = bare-room c.args.way c.args.key.now c.args.ending c.args.courses.items r.0 c.args.self.now r.1 r.2 c.end_fill-take.result.0 c.end_fill-take.result.1.items c.end_fill-take.new.self over in
    record {
      fit = bare-fit c.args.way c.args.key.now c.args.ending c.args.courses.items r.0 c.args.self.now r.1 r.2 c.end_fill-take.result.0 c.end_fill-take.result.1.items c.end_fill-take.new.self over;
      may_free = bare-free c.args.way c.args.key.now c.args.ending c.args.courses.items r.0 c.args.self.now r.1 r.2 c.end_fill-take.result.0 c.end_fill-take.result.1.items c.end_fill-take.new.self over;
      stones = room.0;
      room = room.1;
    }

pub returns : goal.returns
returns g c old can bare =
    let over = c.end_fill-take.ensures c.args.key.now can.key_is in
    bare-end c.args.way c.args.key.now c.args.ending c.args.courses.items old c.args.self.now can bare c.end_fill-take.result.0 c.end_fill-take.result.1.items c.end_fill-take.new.self c.serve_all.new.self c.serve_all.ensures.does over
