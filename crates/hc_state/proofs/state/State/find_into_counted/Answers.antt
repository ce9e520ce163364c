use Rattle.std.proofs.Common.{◌+◌, refl, sym, ap, ◌∙◌}
use Rattle.hc_memory.specs.Memory.{value_at}
use Rattle.hc_state.specs.find.Answer.{found_answer}
use Rattle.hc_state.specs.Whole.{Whole}
use Rattle.hc_state.proofs.find.Copies.{missed, missed-same, copies-hit, copies-beside, copies-begun}
use Rattle.hc_state.proofs.find.Steps.{on_err}
use Rattle.hc_state.proofs.find.Hits.{miss-still, unchanged-on}
use Rattle.hc_state.proofs.state.State.find_into_counted.Goals as goal

pub find_beside-requires-clause-absent : goal.find_beside-requires-clause-absent
find_beside-requires-clause-absent g c =
    let old = c.args.self.now in
    let key = c.args.key.now in
    let used = c.in_ok-len.ensures in
    miss-still key (value_at old.cache.now key old.cache.memory.pools) old c.copy_item.new.self (missed key c.in_ok-len.field-0 old c.in-None.is used.value) refl used.cache

pub returns-in_err-found-in-None-clause-err : goal.returns-in_err-found-in-None-clause-err
returns-in_err-found-in-None-clause-err g c =
    let old = c.args.self.now in
    let mid = c.copy_item.new.self in
    let used = c.in_ok-len.ensures in
    let same = missed-same c.args.key.now c.in_ok-len.field-0 old mid c.in-None.is used.value used.cache in
    on_err c.from_residual-in_err-found-in-None.result (unchanged-on old mid c.find_beside.new.self same used.log used.more c.in_err-found-in-None.ensures.err)

pub returns-in-Some-clause-begun : goal.returns-in-Some-clause-begun
returns-in-Some-clause-begun g c =
    let old = c.args.self.now in
    let key = c.args.key.now in
    let was = c.args.buffer.now in
    let is = c.copy_item.new.buffer in
    let new = c.count_hit.new.self in
    let used = c.in_ok-len.ensures in
    let counted = c.count_hit.ensures in
    let number = c.in_ok-call.ensures.ok ∙ ap (λ (whole : Whole). whole.cache.calls + 1) c.self.view_is in
    copies-begun c.args.client key _ was is old new
    (copies-hit c.args.client c.in_ok-call.call key c.in-Some.len was is old c.copy_item.new.self new number (sym c.in-Some.is ∙ used.value) used.buffer used.cache used.log counted.cache counted.log counted.ready)
    c.requires.begun

pub returns-in_ok-found-in-None-clause-ok : goal.returns-in_ok-found-in-None-clause-ok
returns-in_ok-found-in-None-clause-ok g c =
    let used = c.in_ok-len.ensures in
    (copies-beside c.args.client c.args.key.now c.in_ok-len.field-0 (found_answer c.in_ok-found-in-None.found) c.copy_out.result c.args.buffer.now c.copy_item.new.buffer c.copy_out.new.buffer c.args.self.now c.copy_item.new.self
    c.find_beside.new.self c.in-None.is used.value used.buffer used.cache used.log c.in_ok-found-in-None.ensures.ok c.copy_out.ensures.answer c.copy_out.ensures.buffer).step

pub returns-in_ok-found-in-None-clause-answer : goal.returns-in_ok-found-in-None-clause-answer
returns-in_ok-found-in-None-clause-answer g c =
    let used = c.in_ok-len.ensures in
    (copies-beside c.args.client c.args.key.now c.in_ok-len.field-0 (found_answer c.in_ok-found-in-None.found) c.copy_out.result c.args.buffer.now c.copy_item.new.buffer c.copy_out.new.buffer c.args.self.now c.copy_item.new.self
    c.find_beside.new.self c.in-None.is used.value used.buffer used.cache used.log c.in_ok-found-in-None.ensures.ok c.copy_out.ensures.answer c.copy_out.ensures.buffer).answer

pub returns-in_ok-found-in-None-clause-buffer : goal.returns-in_ok-found-in-None-clause-buffer
returns-in_ok-found-in-None-clause-buffer g c =
    let used = c.in_ok-len.ensures in
    (copies-beside c.args.client c.args.key.now c.in_ok-len.field-0 (found_answer c.in_ok-found-in-None.found) c.copy_out.result c.args.buffer.now c.copy_item.new.buffer c.copy_out.new.buffer c.args.self.now c.copy_item.new.self
    c.find_beside.new.self c.in-None.is used.value used.buffer used.cache used.log c.in_ok-found-in-None.ensures.ok c.copy_out.ensures.answer c.copy_out.ensures.buffer).buffer

pub returns-in_ok-found-in-None-clause-begun : goal.returns-in_ok-found-in-None-clause-begun
returns-in_ok-found-in-None-clause-begun g c =
    let used = c.in_ok-len.ensures in
    copies-begun c.args.client c.args.key.now c.copy_out.result c.args.buffer.now c.copy_out.new.buffer c.args.self.now c.find_beside.new.self
    (copies-beside c.args.client c.args.key.now c.in_ok-len.field-0 (found_answer c.in_ok-found-in-None.found) c.copy_out.result c.args.buffer.now c.copy_item.new.buffer c.copy_out.new.buffer c.args.self.now c.copy_item.new.self
    c.find_beside.new.self c.in-None.is used.value used.buffer used.cache used.log c.in_ok-found-in-None.ensures.ok c.copy_out.ensures.answer c.copy_out.ensures.buffer)
    c.requires.begun
