use Rattle.std.proofs.Common.{◌∙◌, ap, take}
use Rattle.std.specs.Prelude.{nat_eq}
use Rattle.std.specs.Cmp.Lexicographic.{pointwise}
use Rattle.hc_types.proofs.Rooms.{rooms_tell}
use Rattle.hc_types.proofs.key_bytes.ShortPartialEq.eq.Goals as goal

pub returns-then-self-other : goal.returns-then-self-other
returns-then-self-other c =
    let one = c.self.inside in
    let two = c.other.inside in
    c.are_equal.ensures
    ∙ rooms_tell one.len two.len one.bytes two.bytes c.if-self-other.true c.self.invariant.1 c.other.invariant.1
    ∙ ap (λ bytes. pointwise nat_eq bytes (take two.len two.bytes)) c.self.view_is
    ∙ ap (pointwise nat_eq c.args.self.now) c.other.view_is
