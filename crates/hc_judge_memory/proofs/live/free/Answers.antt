use Rattle.std.proofs.Common.{not, rules}
use Rattle.std.proofs.lemmas.Fn.{filter_same}
use Rattle.hc_history.specs.Books as books
use Rattle.hc_history.specs.Books.{has_number}
use Rattle.hc_judge_memory.proofs.live.free.Goals as goal

pub returns : goal.returns
returns g c = filter_same _ (λ (charge : books.Charge). not (has_number c.args.number charge)) _ (λ x b f' k. search rules) _ _ c.retain.ensures.filtered
