use Rattle.std.proofs.Common.{◌==◌, not, rules}
use Rattle.std.proofs.lemmas.Fn.{filter_same}
use Rattle.hc_history.specs.Regions.{Filing}
use Rattle.hc_judge_flash.proofs.filings.unfile.Goals as goal

pub returns : goal.returns
returns g c = filter_same _ (λ (filing : Filing). not (filing.kept == c.args.kept)) _ (λ x b f' k. search rules) _ _ c.retain.ensures.filtered
