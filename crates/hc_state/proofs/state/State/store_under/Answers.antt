use Rattle.std.proofs.Common.{◌≡◌, ◌+◌, ◌*◌, ◌≤◌, Some, length, sym, ap, ◌∙◌, subst}
use Rattle.hc_history.specs.Note.{Begin}
use Rattle.hc_history.specs.Told.{is_log, where_kept}
use Rattle.hc_machine.specs.Calls.{begin}
use Rattle.hc_machine.specs.Waiting.{entry_of_handle}
use Rattle.hc_state.specs.store.Insert.{store_op}
use Rattle.hc_state.specs.store.Link.{linked_with}
use Rattle.hc_state.specs.store.Clear.{ServesIn}
use Rattle.hc_state.specs.store.Commit.{how_many, store_as, CanServe}
use Rattle.hc_state.specs.Whole.{Whole, Does, costs, for_notes}
use Rattle.hc_state.proofs.store.Commits.{store-wishes, plan-long, store-serves, store-stones, store-notes, store-can, store-step}
use Rattle.hc_state.proofs.state.State.store_under.Goals as goal

pub link_by-requires-clause-wishes : goal.link_by-requires-clause-wishes
link_by-requires-clause-wishes g c = store-wishes c.args.sealed c.args.self.now c.prepare_to_store.new.self c.prepare_to_store.ensures.stays c.requires.structured

pub link_by-requires-clause-courses : goal.link_by-requires-clause-courses
link_by-requires-clause-courses g c =
    let h = c.args.sealed in
    let plan = c.in-Ok.plan.clearing in
    ap (λ cs. length cs) c.as_slice.ensures.value ∙ plan-long h.key (Some (entry_of_handle h)) plan.courses.items c.prepare_to_store.new.self c.in-Ok.ensures.ok.clears.serves

pub plant_and_serve-requires-clause-outdates : goal.plant_and_serve-requires-clause-outdates
plant_and_serve-requires-clause-outdates g c =
    let h = c.args.sealed in
    let op = store_op c.args.adds h in
    let plan = c.in-Ok.plan in
    let courses = plan.clearing.courses.items in
    let mid = c.prepare_to_store.new.self in
    let linked = c.link_by.new.self in
    let begun = c.start.new.self in
    let links : linked ≡ record mid { cache = linked_with h courses mid.cache } = c.in-Ok-link_by.ensures.ok ∙ ap (λ cs. record mid { cache = linked_with h cs mid.cache }) c.as_slice.ensures.value in
    let note = c.in-Ok.ensures.ok.begin_is ∙ ap (λ (w : Whole). where_kept w.log (Begin plan.call c.args.client op)) (sym links) in
    let begins : Does (begin c.args.client op linked.cache) (for_notes 1) linked begun = c.start.ensures c.args.client op note in
    subst (λ k. ServesIn (is_log begun.log) k begun.cache.nvm plan.clearing.outdating) c.requires.key
    (store-serves c.args.client op h courses c.args.self.now mid linked begun c.prepare_to_store.ensures.stays links begins plan.clearing.outdating c.in-Ok.ensures.ok.clears.outdates)

pub plant_and_serve-requires-clause-can : goal.plant_and_serve-requires-clause-can
plant_and_serve-requires-clause-can g c =
    let h = c.args.sealed in
    let op = store_op c.args.adds h in
    let plan = c.in-Ok.plan in
    let courses = plan.clearing.courses.items in
    let mid = c.prepare_to_store.new.self in
    let linked = c.link_by.new.self in
    let begun = c.start.new.self in
    let links : linked ≡ record mid { cache = linked_with h courses mid.cache } = c.in-Ok-link_by.ensures.ok ∙ ap (λ cs. record mid { cache = linked_with h cs mid.cache }) c.as_slice.ensures.value in
    let note = c.in-Ok.ensures.ok.begin_is ∙ ap (λ (w : Whole). where_kept w.log (Begin plan.call c.args.client op)) (sym links) in
    let begins : Does (begin c.args.client op linked.cache) (for_notes 1) linked begun = c.start.ensures c.args.client op note in
    subst (λ k. CanServe k courses begun) c.requires.key
    (store-can c.args.client op h courses c.args.self.now mid linked begun c.prepare_to_store.ensures.stays links begins c.requires.structured c.is_sound.ensures c.requires.known c.in-Ok.ensures.ok.clears.serves)

pub plant_and_serve-requires-clause-stones : goal.plant_and_serve-requires-clause-stones
plant_and_serve-requires-clause-stones g c =
    let h = c.args.sealed in
    let op = store_op c.args.adds h in
    let plan = c.in-Ok.plan in
    let courses = plan.clearing.courses.items in
    let mid = c.prepare_to_store.new.self in
    let linked = c.link_by.new.self in
    let begun = c.start.new.self in
    let links : linked ≡ record mid { cache = linked_with h courses mid.cache } = c.in-Ok-link_by.ensures.ok ∙ ap (λ cs. record mid { cache = linked_with h cs mid.cache }) c.as_slice.ensures.value in
    let note = c.in-Ok.ensures.ok.begin_is ∙ ap (λ (w : Whole). where_kept w.log (Begin plan.call c.args.client op)) (sym links) in
    let begins : Does (begin c.args.client op linked.cache) (for_notes 1) linked begun = c.start.ensures c.args.client op note in
    subst (λ k. how_many k begun + 1 ≤ begun.spare.stones) c.requires.key
    (store-stones c.args.client op h courses c.args.self.now mid linked begun c.prepare_to_store.ensures.stays links begins c.in-Ok.ensures.room)

pub plant_and_serve-requires-clause-room : goal.plant_and_serve-requires-clause-room
plant_and_serve-requires-clause-room g c =
    let h = c.args.sealed in
    let op = store_op c.args.adds h in
    let plan = c.in-Ok.plan in
    let courses = plan.clearing.courses.items in
    let mid = c.prepare_to_store.new.self in
    let linked = c.link_by.new.self in
    let begun = c.start.new.self in
    let links : linked ≡ record mid { cache = linked_with h courses mid.cache } = c.in-Ok-link_by.ensures.ok ∙ ap (λ cs. record mid { cache = linked_with h cs mid.cache }) c.as_slice.ensures.value in
    let note = c.in-Ok.ensures.ok.begin_is ∙ ap (λ (w : Whole). where_kept w.log (Begin plan.call c.args.client op)) (sym links) in
    let begins : Does (begin c.args.client op linked.cache) (for_notes 1) linked begun = c.start.ensures c.args.client op note in
    subst (λ k. 6 * how_many k begun + 7 ≤ begun.notes) c.requires.key
    (store-notes c.args.client op h courses c.args.self.now mid linked begun c.prepare_to_store.ensures.stays links begins c.in-Ok.ensures.room)

pub returns-in-Ok-link_by-clause-ok : goal.returns-in-Ok-link_by-clause-ok
returns-in-Ok-link_by-clause-ok g c =
    let h = c.args.sealed in
    let op = store_op c.args.adds h in
    let plan = c.in-Ok.plan in
    let courses = plan.clearing.courses.items in
    let mid = c.prepare_to_store.new.self in
    let linked = c.link_by.new.self in
    let begun = c.start.new.self in
    let new = c.plant_and_serve.new.self in
    let standing = c.in-Ok-link_by.standing in
    let links : linked ≡ record mid { cache = linked_with h courses mid.cache } = c.in-Ok-link_by.ensures.ok ∙ ap (λ cs. record mid { cache = linked_with h cs mid.cache }) c.as_slice.ensures.value in
    let note = c.in-Ok.ensures.ok.begin_is ∙ ap (λ (w : Whole). where_kept w.log (Begin plan.call c.args.client op)) (sym links) in
    let begins : Does (begin c.args.client op linked.cache) (for_notes 1) linked begun = c.start.ensures c.args.client op note in
    let stores : Does (store_as standing h.key h.number courses begun.cache) (costs (6 * how_many h.key begun + 7) 0 (how_many h.key begun + 1) 0) begun new =
    subst (λ n. Does (store_as standing h.key n courses begun.cache) (costs (6 * how_many h.key begun + 7) 0 (how_many h.key begun + 1) 0) begun new) c.number-number.ensures
    (subst (λ k. Does (store_as standing k c.number-number.result courses begun.cache) (costs (6 * how_many k begun + 7) 0 (how_many k begun + 1) 0) begun new) (sym c.requires.key) c.plant_and_serve.ensures) in
    store-step c.args.client op h courses c.args.self.now mid linked begun c.prepare_to_store.ensures.stays links begins c.requires.structured c.is_sound.ensures c.requires.known c.in-Ok.ensures.ok.clears.serves standing new c.in-Ok.ensures.room c.in-Ok-link_by.ensures.standing stores
