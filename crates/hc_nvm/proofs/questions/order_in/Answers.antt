use Rattle.std.proofs.Common.{◌≡◌, ◌∙◌, Some, slice_get, ap, sym}
use Rattle.std.specs.Prelude.{option_map}
use Rattle.std.proofs.lemmas.Option.{slice_get-get_or}
use Rattle.hc_machine.specs.Nvm.{Job}
use Rattle.hc_nvm.proofs.Finished.{no_place, placed_there}
use Rattle.hc_nvm.proofs.questions.order_in.Goals as goal

pub returns-in-Some : goal.returns-in-Some
returns-in-Some g c =
    let jobs = c.args.jobs.now in
    let at = c.in-Some.at in
    let job : Job = c.index-jobs-at.result in
    let there : slice_get jobs at ≡ Some job = slice_get-get_or jobs at job c.in-Some.ensures.within ∙ ap Some (sym c.index-jobs-at.is) in
    ap (λ (j : Job). Some j.order) c.job.view_is ∙ ap (option_map (λ (j : Job). j.order)) (sym there ∙ placed_there c.args.number at jobs (sym c.in-Some.ensures.value))

pub returns-in-None : goal.returns-in-None
returns-in-None g c = ap (option_map (λ (j : Job). j.order)) (sym (no_place c.args.number c.args.jobs.now (sym c.in-None.ensures.value)))
