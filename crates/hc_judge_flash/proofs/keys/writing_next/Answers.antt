use Rattle.std.proofs.Common.{◌≡◌, ◌∙◌, sym}
use Rattle.hc_history.specs.Note.{Written}
use Rattle.hc_history.specs.Books.{writing}
use Rattle.hc_judge_memory.proofs.Filtered.{key-gone, key-stays}
use Rattle.hc_judge_flash.proofs.keys.writing_next.Goals as goal

pub returns-in-Written : goal.returns-in-Written
returns-in-Written g c = λ older was.
    let at : c.args.note.now ≡ Written c.in-Written.written = cc in
    rw at (sym (key-gone (writing older) c.in-Written.written c.args.key.now (sym c.if-eq-2.ensures)))

pub returns-in_default-2 : goal.returns-in_default-2
returns-in_default-2 g c = λ older was.
    let at : c.args.note.now ≡ Written c.in-Written.written = cc in
    rw at (was ∙ sym (key-stays (writing older) c.in-Written.written c.args.key.now (sym c.if-eq-2.ensures)))
