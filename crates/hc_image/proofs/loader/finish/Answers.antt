use Rattle.std.proofs.Common.{Option, None, ap, ◌∙◌}
use Rattle.std.proofs.lemmas.Result.{IfOk-weaker}
use Rattle.hc_image.specs.Loading.{Filling, Gathered, asked_of, done_of}
use Rattle.hc_image.proofs.loader.finish.Goals as goal

pub returns-in-Some-gathered-clause-ok : goal.returns-in-Some-gathered-clause-ok
returns-in-Some-gathered-clause-ok g c =
    IfOk-weaker c.fill.result _ _
    (λ f e. ap (λ (o : Option Filling). done_of (asked_of c.args.asked.now) c.args.gathered o) c.in_default.is
    ∙ ap (λ (o : Option Gathered). done_of (asked_of c.args.asked.now) o None) c.in-Some-gathered.is ∙ e)
    c.fill.ensures.ok
