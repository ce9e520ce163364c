use Rattle.std.proofs.Common.{ℕ, ◌+◌, [], take, ap, sym, ◌∙◌, arith}
use Rattle.hc_history.specs.Books as books
use Rattle.hc_history.specs.Lawful.{past}
use Rattle.hc_legal.proofs.Past.{book-more}
use Rattle.hc_judge_memory.proofs.calls.begun.Goals as goal
use Rattle.hc_judge_memory.proofs.calls.begun.Goals.{then-begins, else-begins}

pub loop-note-preserved : goal.loop-note-preserved
loop-note-preserved g c =
    let older = past [] (take c.loop-note.note-index c.args.notes.now) in
    let value = book-more books.begun c.args.notes.now c.loop-note.note-index c.note-item.result c.if-begins.count c.loop-note-test.true c.note-item.is in
    elim c.if-begins.branch [
      | then-begins w ↦
          let e = rw w.if-begins.true at (c.begins.ensures older) in
          record { few = omega arith; value = value (w.count-is ∙ ap (λ (n : ℕ). n + 1) c.loop-note.invariant.value ∙ sym e) }
      | else-begins w ↦
          let e = rw w.if-begins.false at (c.begins.ensures older) in
          record { few = omega arith; value = value (w.count-is ∙ c.loop-note.invariant.value ∙ sym e) }
    ]
