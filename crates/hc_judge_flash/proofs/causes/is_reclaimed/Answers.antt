use Rattle.std.proofs.Common.{◌∙◌, List, [], ap}
use Rattle.std.proofs.lemmas.Result.{IfOk-weaker}
use Rattle.hc_history.specs.Lawful.{past}
use Rattle.hc_history.specs.Regions.{Filing}
use Rattle.hc_judge_flash.specs.Filed.{is_first_filed}
use Rattle.hc_judge_flash.proofs.Reclaims.{few_clean}
use Rattle.hc_judge_flash.proofs.causes.is_reclaimed.Goals as goal

pub returns : goal.returns
returns g c =
    let older = past [] c.args.notes.now in
    let filed = ap (λ (filings : List Filing). is_first_filed older filings c.args.kept c.args.region) (c.deref.ensures.value ∙ c.in_ok-books.ensures.filed_is) in
    IfOk-weaker c.is_first.result _ _ (λ x e. e ∙ filed ∙ few_clean c.args.flash.now older c.args.kept c.args.region c.in_ok-clean.clean c.in_ok-clean.ensures c.if-clean-flash.false) c.is_first.ensures
