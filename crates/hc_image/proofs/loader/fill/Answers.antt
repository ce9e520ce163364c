use Rattle.std.proofs.Common.{sym, ap, ◌∙◌}
use Rattle.std.proofs.lemmas.Result.{IfOk-weaker}
use Rattle.hc_types.specs.Config.{Config}
use Rattle.hc_image.specs.Loading.{fill}
use Rattle.hc_image.proofs.loader.fill.Goals as goal

pub returns-in-Ok-clause-ok : goal.returns-in-Ok-clause-ok
returns-in-Ok-clause-ok g c = IfOk-weaker c.new.result _ _ (λ f e. ap (λ (config : Config). fill config c.args.gathered) (sym c.in-Ok.ensures.cases) ∙ e) c.new.ensures.ok
