use Rattle.std.proofs.lemmas.Result.{IfOk-weaker}
use Rattle.hc_image.proofs.Refusing.{finished_by}
use Rattle.hc_image.proofs.loader.Loader.finish.Goals as goal

pub returns-in-Ok-clause-parts : goal.returns-in-Ok-clause-parts
returns-in-Ok-clause-parts g c = rw (← c.self.view_is) (IfOk-weaker c.parts_of.result _ _ (λ l e. finished_by _ _ _ _ c.in-Ok.ensures.ok.0 c.in-Ok.ensures.ok.1 e) c.parts_of.ensures.parts)
