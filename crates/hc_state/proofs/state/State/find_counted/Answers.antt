use Rattle.std.proofs.lemmas.Result.{IfOk-weaker, on_err_weaker}
use Rattle.hc_state.specs.find.Answer.{found_answer}
use Rattle.hc_state.proofs.find.Hits.{hit-step, miss-same, miss-still, step-on, unchanged-on}
use Rattle.hc_state.proofs.state.State.find_counted.Goals as goal

pub returns-in-Some-clause-ok : goal.returns-in-Some-clause-ok
returns-in-Some-clause-ok g c =
    let used = c.in_ok-handle.ensures in
    let counted = c.count_find.ensures in
    hit-step c.args.client c.args.call c.args.key.now c.in_ok-handle.field-0 c.in-Some.handle (found_answer c.count_find.result) c.args.self.now c.use_item.new.self c.count_find.new.self c.requires.call c.in-Some.is used.value
    used.cache used.log counted.answer counted.cache (counted.log c.args.client c.args.key.now) counted.ready

pub find_beside-requires-clause-absent : goal.find_beside-requires-clause-absent
find_beside-requires-clause-absent g c =
    let used = c.in_ok-handle.ensures in
    miss-still c.args.key.now c.in_ok-handle.field-0 c.args.self.now c.use_item.new.self c.in-None.is used.value used.cache

pub returns-in-None-clause-ok : goal.returns-in-None-clause-ok
returns-in-None-clause-ok g c =
    let old = c.args.self.now in
    let key = c.args.key.now in
    let mid = c.use_item.new.self in
    let used = c.in_ok-handle.ensures in
    let same = miss-same key c.in_ok-handle.field-0 old mid c.in-None.is used.value used.cache in
    IfOk-weaker c.find_beside.result _ _ (λ found step. step-on c.args.client key (found_answer found) old mid c.find_beside.new.self same used.log step) c.find_beside.ensures.ok

pub returns-in-None-clause-err : goal.returns-in-None-clause-err
returns-in-None-clause-err g c =
    let old = c.args.self.now in
    let mid = c.use_item.new.self in
    let used = c.in_ok-handle.ensures in
    let same = miss-same c.args.key.now c.in_ok-handle.field-0 old mid c.in-None.is used.value used.cache in
    on_err_weaker c.find_beside.result (unchanged-on old mid c.find_beside.new.self same used.log used.more) c.find_beside.ensures.err
