use Rattle.std.proofs.Common.{◌≡◌, List, nat_lt, ap, ◌∙◌}
use Rattle.hc_types.specs.Tally.{count}
use Rattle.hc_history.specs.Note.{Freed}
use Rattle.hc_history.specs.Books.{Charge}
use Rattle.hc_judge_memory.specs.Evictions.{is_link_of}
use Rattle.hc_judge_memory.proofs.Evicting.{freed-here}
use Rattle.hc_judge_memory.proofs.answers.freed_since_after.Goals as goal

pub returns-in-Freed : goal.returns-in-Freed
returns-in-Freed g c = λ older live was.
    let at : c.args.note.now ≡ Freed c.in-Freed.charge = cc in
    rw at (freed-here older c.in-Freed.charge c.args.call c.args.key.now c.args.was c.has_link_of.result was c.if-not-was.true (c.has_link_of.ensures ∙ ap (λ (xs : List Charge). nat_lt 0 (count (is_link_of c.in-Freed.charge c.args.key.now) xs)) live))
