use Rattle.std.proofs.Common.{List, [], nat_lt, ap, ◌∙◌}
use Rattle.hc_types.specs.Tally.{count}
use Rattle.hc_history.specs.Books.{Charge}
use Rattle.hc_history.specs.Lawful.{past}
use Rattle.hc_judge_memory.specs.Evictions as spec
use Rattle.hc_judge_memory.proofs.Evicting.{freed-is}
use Rattle.hc_judge_memory.proofs.evictions.is_freed.Goals as goal

pub returns-in_ok-live-in-Some : goal.returns-in_ok-live-in-Some
returns-in_ok-live-in-Some g c =
    let live = c.deref.ensures.value ∙ c.in_ok-live-in-Some.ensures in
    rw (freed-is (past [] c.args.notes.now) c.args.key.now, ← c.in-Some.ensures) (c.has_link_of.ensures ∙ ap (λ (xs : List Charge). nat_lt 0 (count (spec.is_link_of c.in-Some.number c.args.key.now) xs)) live)
