use Rattle.std.proofs.Common.{rules, List, ℕ}
use Rattle.std.specs.Prelude.{not}
use Rattle.std.specs.Str.{bytes_eq}
use Rattle.std.proofs.lemmas.Fn.{filter_same}
use Rattle.hc_judge_memory.proofs.queue.take_out.Goals as goal

pub returns : goal.returns
returns g c = filter_same _ (λ (other : List ℕ). not (bytes_eq other c.args.key.now)) _ (λ x b f' k. search rules) _ _ c.retain.ensures.filtered
