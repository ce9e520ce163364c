use Rattle.std.proofs.Common.{ap, ◌∙◌}
use Rattle.std.proofs.lemmas.Result.{on_ok_weaker, IfErr-weaker}
use Rattle.hc_image.specs.Saving.{Saving, given_of}
use Rattle.hc_image.proofs.Giving.{frame_given, frame_behind, too_long, on_ok_both}
use Rattle.hc_image.proofs.saver.Saver.give.Goals as goal

pub returns-in-Ok-Some-clause-frame : goal.returns-in-Ok-Some-clause-frame
returns-in-Ok-Some-clause-frame g c =
    on_ok_weaker c.make.result
    (λ bytes. frame_given c.self.inside.rest c.next.new.self c.in-Ok-Some.field-0 c.in-Ok-Some.kind c.args.frame.now.items c.put_front.new.frame.items c.next.new.out.items c.make.new.frame.items c.args.self.now.digest
    c.requires.empty c.in_ok-put_front.ensures.front c.in-Ok-Some.field-0-is c.in-Ok-Some.ensures bytes
    ∙ ap (given_of c.args.self.now.digest) (ap (λ (s : Saving). s.left) c.self.view_is))
    c.make.ensures.frame

pub returns-in-Ok-Some-clause-after : goal.returns-in-Ok-Some-clause-after
returns-in-Ok-Some-clause-after g c =
    on_ok_both c.make.result
    (λ bytes fed. frame_behind c.args.self.now c.self.inside.rest c.next.new.self c.self.inside.writer c.make.new.writer c.self.inside.ended c.self.inside.broken c.in-Ok-Some.field-0 c.in-Ok-Some.kind c.args.frame.now.items c.put_front.new.frame.items c.next.new.out.items c.make.new.frame.items
    c.self.view_is c.requires.whole c.requires.goes_on c.requires.empty c.in_ok-put_front.ensures.front c.in-Ok-Some.field-0-is c.in-Ok-Some.ensures bytes fed)
    c.make.ensures.frame c.make.ensures.fed

pub returns-in-Ok-Some-clause-why : goal.returns-in-Ok-Some-clause-why
returns-in-Ok-Some-clause-why g c =
    IfErr-weaker c.make.result _ _
    (λ why many. too_long c.args.self.now c.self.inside.rest c.next.new.self c.in-Ok-Some.field-0 c.in-Ok-Some.kind c.args.frame.now.items c.put_front.new.frame.items c.next.new.out.items why
    (ap (λ (s : Saving). s.left) c.self.view_is) c.requires.empty c.in_ok-put_front.ensures.front c.in-Ok-Some.field-0-is c.in-Ok-Some.ensures many)
    c.make.ensures.why
