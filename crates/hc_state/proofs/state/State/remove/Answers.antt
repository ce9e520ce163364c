use Rattle.std.proofs.Common.{◌≡◌, ◌+◌, ◌*◌, None, length, sym, ap, ◌∙◌, subst}
use Rattle.hc_history.specs.Note.{Begin, Remove}
use Rattle.hc_history.specs.Told.{where_kept}
use Rattle.hc_machine.specs.Calls.{begin, remove}
use Rattle.hc_state.specs.store.Link.{linked_without}
use Rattle.hc_state.specs.remove.Answer.{removed_answer, removed_of, removed_reply}
use Rattle.hc_state.specs.store.Commit.{how_many, unstore_as}
use Rattle.hc_state.specs.Whole.{Whole, Does, IsStep, costs, for_notes}
use Rattle.hc_state.proofs.store.Commits.{plan-long}
use Rattle.hc_state.proofs.remove.Commits.{remove-wishes, remove-serves, remove-stones, remove-notes, remove-serves-all, remove-step}
use Rattle.hc_state.proofs.state.State.remove.Goals as goal

pub unlink_by-requires-clause-wishes : goal.unlink_by-requires-clause-wishes
unlink_by-requires-clause-wishes g c = remove-wishes c.args.key.now c.args.self.now c.prepare_to_remove.new.self c.prepare_to_remove.ensures.stays c.requires.structured

pub unlink_by-requires-clause-courses : goal.unlink_by-requires-clause-courses
unlink_by-requires-clause-courses g c = ap (λ cs. length cs) c.as_slice.ensures.value ∙ plan-long c.args.key.now None c.in_ok-plan.plan.clearing.courses.items c.prepare_to_remove.new.self c.in_ok-plan.ensures.ok.clears.serves

pub clear_and_serve-requires-clause-outdates : goal.clear_and_serve-requires-clause-outdates
clear_and_serve-requires-clause-outdates g c =
    let key = c.args.key.now in
    let plan = c.in_ok-plan.plan in
    let courses = plan.clearing.courses.items in
    let mid = c.prepare_to_remove.new.self in
    let unlinked = c.unlink_by.new.self in
    let begun = c.start.new.self in
    let unlinks : unlinked ≡ record mid { cache = linked_without key courses mid.cache } = c.in-Ok.ensures.ok ∙ ap (λ cs. record mid { cache = linked_without key cs mid.cache }) c.as_slice.ensures.value in
    let note = c.in_ok-plan.ensures.ok.begin_is ∙ ap (λ (w : Whole). where_kept w.log (Begin plan.call c.args.client (Remove key))) (sym unlinks) in
    let begins : Does (begin c.args.client (Remove key) unlinked.cache) (for_notes 1) unlinked begun = c.start.ensures c.args.client (Remove key) note in
    remove-serves c.args.client key courses c.args.self.now mid unlinked begun c.prepare_to_remove.ensures.stays unlinks begins plan.clearing.outdating c.in_ok-plan.ensures.ok.clears.outdates

pub clear_and_serve-requires-clause-can : goal.clear_and_serve-requires-clause-can
clear_and_serve-requires-clause-can g c =
    let key = c.args.key.now in
    let plan = c.in_ok-plan.plan in
    let courses = plan.clearing.courses.items in
    let mid = c.prepare_to_remove.new.self in
    let unlinked = c.unlink_by.new.self in
    let begun = c.start.new.self in
    let unlinks : unlinked ≡ record mid { cache = linked_without key courses mid.cache } = c.in-Ok.ensures.ok ∙ ap (λ cs. record mid { cache = linked_without key cs mid.cache }) c.as_slice.ensures.value in
    let note = c.in_ok-plan.ensures.ok.begin_is ∙ ap (λ (w : Whole). where_kept w.log (Begin plan.call c.args.client (Remove key))) (sym unlinks) in
    let begins : Does (begin c.args.client (Remove key) unlinked.cache) (for_notes 1) unlinked begun = c.start.ensures c.args.client (Remove key) note in
    remove-serves-all c.args.client key courses c.args.self.now mid unlinked begun c.prepare_to_remove.ensures.stays unlinks begins c.requires.structured c.is_sound.ensures c.in_ok-plan.ensures.ok.clears.serves

pub clear_and_serve-requires-clause-stones : goal.clear_and_serve-requires-clause-stones
clear_and_serve-requires-clause-stones g c =
    let key = c.args.key.now in
    let plan = c.in_ok-plan.plan in
    let courses = plan.clearing.courses.items in
    let mid = c.prepare_to_remove.new.self in
    let unlinked = c.unlink_by.new.self in
    let begun = c.start.new.self in
    let unlinks : unlinked ≡ record mid { cache = linked_without key courses mid.cache } = c.in-Ok.ensures.ok ∙ ap (λ cs. record mid { cache = linked_without key cs mid.cache }) c.as_slice.ensures.value in
    let note = c.in_ok-plan.ensures.ok.begin_is ∙ ap (λ (w : Whole). where_kept w.log (Begin plan.call c.args.client (Remove key))) (sym unlinks) in
    let begins : Does (begin c.args.client (Remove key) unlinked.cache) (for_notes 1) unlinked begun = c.start.ensures c.args.client (Remove key) note in
    remove-stones c.args.client key courses c.args.self.now mid unlinked begun c.prepare_to_remove.ensures.stays unlinks begins c.in_ok-plan.ensures.room

pub clear_and_serve-requires-clause-room : goal.clear_and_serve-requires-clause-room
clear_and_serve-requires-clause-room g c =
    let key = c.args.key.now in
    let plan = c.in_ok-plan.plan in
    let courses = plan.clearing.courses.items in
    let mid = c.prepare_to_remove.new.self in
    let unlinked = c.unlink_by.new.self in
    let begun = c.start.new.self in
    let unlinks : unlinked ≡ record mid { cache = linked_without key courses mid.cache } = c.in-Ok.ensures.ok ∙ ap (λ cs. record mid { cache = linked_without key cs mid.cache }) c.as_slice.ensures.value in
    let note = c.in_ok-plan.ensures.ok.begin_is ∙ ap (λ (w : Whole). where_kept w.log (Begin plan.call c.args.client (Remove key))) (sym unlinks) in
    let begins : Does (begin c.args.client (Remove key) unlinked.cache) (for_notes 1) unlinked begun = c.start.ensures c.args.client (Remove key) note in
    remove-notes c.args.client key courses c.args.self.now mid unlinked begun c.prepare_to_remove.ensures.stays unlinks begins c.in_ok-plan.ensures.room

pub returns-in-Ok-clause-ok : goal.returns-in-Ok-clause-ok
returns-in-Ok-clause-ok g c =
    let key = c.args.key.now in
    let plan = c.in_ok-plan.plan in
    let courses = plan.clearing.courses.items in
    let mid = c.prepare_to_remove.new.self in
    let unlinked = c.unlink_by.new.self in
    let begun = c.start.new.self in
    let unlinks : unlinked ≡ record mid { cache = linked_without key courses mid.cache } = c.in-Ok.ensures.ok ∙ ap (λ cs. record mid { cache = linked_without key cs mid.cache }) c.as_slice.ensures.value in
    let note = c.in_ok-plan.ensures.ok.begin_is ∙ ap (λ (w : Whole). where_kept w.log (Begin plan.call c.args.client (Remove key))) (sym unlinks) in
    let begins : Does (begin c.args.client (Remove key) unlinked.cache) (for_notes 1) unlinked begun = c.start.ensures c.args.client (Remove key) note in
    let new = c.clear_and_serve.new.self in
    let standing = c.in-Ok.standing in
    let reply = c.reply_to_remove.ensures ∙ ap removed_reply c.removed_of-removed.ensures in
    let clears : Does (unstore_as standing (removed_reply (removed_of standing)) key courses begun.cache) (costs (6 * how_many key begun + 6) 0 (how_many key begun + 1) 0) begun new =
    subst (λ r. Does (unstore_as standing r key courses begun.cache) (costs (6 * how_many key begun + 6) 0 (how_many key begun + 1) 0) begun new) reply c.clear_and_serve.ensures in
    subst (λ removed. IsStep (remove c.args.client key c.args.self.now.cache) (removed_answer removed) c.args.self.now new) (sym c.removed_of-removed.ensures)
    (remove-step c.args.client key courses c.args.self.now mid unlinked begun c.prepare_to_remove.ensures.stays unlinks begins c.requires.structured c.is_sound.ensures c.in_ok-plan.ensures.ok.clears.serves standing new c.in_ok-plan.ensures.room c.in-Ok.ensures.standing clears)
