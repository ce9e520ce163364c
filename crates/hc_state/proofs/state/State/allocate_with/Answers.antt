use Rattle.std.proofs.Common.{◌≡◌, ◌+◌, List, length, sym, ap, ◌∙◌, arith, subst}
use Rattle.std.specs.Prelude.{option_map, option_to_list}
use Rattle.hc_types.specs.Charge.{charge_of}
use Rattle.hc_memory.specs.Item.{Handle, Item}
use Rattle.hc_memory.specs.Memory.{victims_of, handle_for}
use Rattle.hc_memory.specs.Sound.{Sound}
use Rattle.hc_memory.specs.Seen.{filled}
use Rattle.hc_history.specs.Note.{Charged}
use Rattle.hc_history.specs.Told.{told_more}
use Rattle.hc_machine.specs.items.Allocating.{refusal_of, expiry_of}
use Rattle.hc_machine.specs.Cache.{Cache}
use Rattle.hc_invariant.specs.Structure.{Structured}
use Rattle.hc_state.specs.Whole.{Whole, spare_of, nvm_of}
use Rattle.hc_state.proofs.allocate.Refusals.{pool-there, may-be}
use Rattle.hc_state.proofs.allocate.Charges.{filled_up, opened, still-absent, still-for, still-room}
use Rattle.hc_state.proofs.state.State.allocate_with.Goals as goal

pub charge-requires-clause-pool : goal.charge-requires-clause-pool
charge-requires-clause-pool g c =
    let size = length (filled c.args.fill) in
    let fits = ap (λ (w : Whole). refusal_of w.cache.memory c.args.pool c.args.key size) c.self.view_is ∙ ap (λ (k : Cache). refusal_of k.memory c.args.pool c.args.key size) c.in-Ok.ensures.same.cache ∙ c.in-Ok.ensures.fits in
    pool-there c.self.inside.pools c.args.pool c.args.key size fits

pub charge-requires-clause-size : goal.charge-requires-clause-size
charge-requires-clause-size g c =
    let size = length (filled c.args.fill) in
    let fits = ap (λ (w : Whole). refusal_of w.cache.memory c.args.pool c.args.key size) c.self.view_is ∙ ap (λ (k : Cache). refusal_of k.memory c.args.pool c.args.key size) c.in-Ok.ensures.same.cache ∙ c.in-Ok.ensures.fits in
    grind (arith, (may-be c.self.inside.pools c.args.pool c.args.key size fits).0)

pub charge-requires-clause-count : goal.charge-requires-clause-count
charge-requires-clause-count g c =
    c.in-Ok.ensures.ok.count ∙ ap (λ (w : Whole). length (victims_of w.cache.memory c.args.pool (charge_of c.args.key (length (filled c.args.fill))))) (sym c.self.view_is)

pub charge-requires-clause-room : goal.charge-requires-clause-room
charge-requires-clause-room g c =
    let size = length (filled c.args.fill) in
    let fits = ap (λ (w : Whole). refusal_of w.cache.memory c.args.pool c.args.key size) c.self.view_is ∙ ap (λ (k : Cache). refusal_of k.memory c.args.pool c.args.key size) c.in-Ok.ensures.same.cache ∙ c.in-Ok.ensures.fits in
    (may-be c.self.inside.pools c.args.pool c.args.key size fits).1

pub leave_all-requires : goal.leave_all-requires
leave_all-requires g c =
    let f = c.self.inside in
    let pool = c.args.pool in
    let key = c.args.key in
    let size = length (filled c.args.fill) in
    let mid = c.plan_to_charge.new.self in
    let e = c.in-Ok.ensures in
    let ok = c.in-Ok-charge.ensures in
    let full : Whole = record { cache = record { config = f.config; memory = c.charge.new.self; now = f.clock; calls = f.calls; owed = f.replies; nvm = nvm_of f.nvm }; log = g.N.Listener.told f.notes; notes = g.N.Listener.room f.notes; spare = spare_of f.nvm } in
    let full_is : full ≡ filled_up pool key size mid =
    (λ i. record full { cache = record full.cache { memory = ok.pools i } })
    ∙ ap (filled_up pool key size) c.self.view_is in
    let want = c.charge-want.ensures ∙ ap (charge_of key) c.len.ensures in
    let victims = ok.victims ∙ ap (λ (w : Whole). victims_of w.cache.memory pool (charge_of key size)) c.self.view_is in
    record {
      leaves = still-for pool key size c.in-Ok-charge.charged.victims.items c.in-Ok.plan.leaves.items mid full e.ok.leaves victims full_is;
      absent = still-absent c.evicted_never_waits.ensures pool key size c.charge-want.result c.in-Ok-charge.charged.victims.items mid full (subst Structured (sym e.same.cache) c.requires.structured) want victims full_is;
      room = still-room pool key size c.in-Ok.plan.count c.in-Ok-charge.charged.victims.items mid full e.ok.room (e.ok.count ∙ ap (λ (vs : List Item). length vs) (sym victims)) full_is;
    }

pub charged-requires : goal.charged-requires
charged-requires g c =
    let mid = c.plan_to_charge.new.self in
    let victims = c.in-Ok-charge.ensures.victims ∙ ap (λ (w : Whole). victims_of w.cache.memory c.args.pool (charge_of c.args.key (length (filled c.args.fill)))) c.self.view_is in
    omega (arith, c.in-Ok.ensures.ok.room.notes, c.in-Ok.ensures.ok.count, ap (λ (vs : List Item). length vs) victims, ap (λ (w : Whole). w.notes) c.self.view_is, c.leave_all.ensures.room.notes, ap (λ (w : Whole). w.notes) c.self-2.view_is)

pub returns-clause-ok : goal.returns-clause-ok
returns-clause-ok g c =
    let f = c.self.inside in
    let after = c.self-2.inside in
    let pool = c.args.pool in
    let key = c.args.key in
    let value = filled c.args.fill in
    let size = length value in
    let mid = c.plan_to_charge.new.self in
    let e = c.in-Ok.ensures in
    let ok = c.in-Ok-charge.ensures in
    let made = c.in-Ok-charge.charged in
    let full : Whole = record { cache = record { config = f.config; memory = c.charge.new.self; now = f.clock; calls = f.calls; owed = f.replies; nvm = nvm_of f.nvm }; log = g.N.Listener.told f.notes; notes = g.N.Listener.room f.notes; spare = spare_of f.nvm } in
    let new : Whole = record { cache = record { config = after.config; memory = after.pools; now = after.clock; calls = after.calls; owed = after.replies; nvm = nvm_of after.nvm }; log = g.N.Listener.told c.charged.new.notes; notes = g.N.Listener.room c.charged.new.notes; spare = spare_of after.nvm } in
    let full_is : full ≡ filled_up pool key size mid =
    (λ i. record full { cache = record full.cache { memory = ok.pools i } })
    ∙ ap (filled_up pool key size) c.self.view_is in
    let victims = ok.victims ∙ ap (λ (w : Whole). victims_of w.cache.memory pool (charge_of key size)) c.self.view_is in
    opened pool key value c.expiry_after-expiry.result c.charge-want.result c.number.result c.in-Ok.plan.copy made.victims.items made.blank c.args.self.now mid full c.leave_all.new.self new
    (record {
      stays = e.same;
      want_is = c.charge-want.ensures ∙ ap (charge_of key) c.len.ensures;
      number_is = c.number.ensures ∙ ap (λ (h : Handle). h.number) ok.blank ∙ ap (λ (w : Whole). w.cache.memory.made + 1) c.self.view_is;
      victims_are = victims;
      copy_is = e.ok.copy;
      full_is = full_is;
      leave = c.leave_all.ensures;
      cache = ap (λ (w : Whole). w.cache) c.self-2.view_is;
      told = c.charged.ensures.told ∙ ap (λ (w : Whole). told_more w.log (option_to_list (option_map (λ k. Charged c.number.result k pool c.charge-want.result) c.in-Ok.plan.copy))) c.self-2.view_is;
      notes = omega (arith, c.charged.ensures.room, ap (λ (w : Whole). w.notes) c.self-2.view_is);
      room = omega (arith, e.ok.room.notes, e.ok.count, ap (λ (vs : List Item). length vs) victims);
    })
    (ok.blank ∙ ap (λ (w : Whole). handle_for w.cache.memory pool key value c.expiry_after-expiry.result) c.self.view_is)
    (subst (λ (w : Whole). Sound w.cache.memory.pools w.cache.memory.charges w.cache.memory.made) c.self.view_is c.len-sound.ensures.sound)

pub returns-clause-blank : goal.returns-clause-blank
returns-clause-blank g c =
    let f = c.self.inside in
    let value = filled c.args.fill in
    c.in-Ok-charge.ensures.blank
    ∙ (λ i. handle_for f.pools c.args.pool c.args.key value (c.expiry_after-expiry.ensures i))
    ∙ ap (λ (w : Whole). handle_for w.cache.memory c.args.pool c.args.key value (expiry_of w.cache.now c.args.ttl)) c.self.view_is
    ∙ ap (λ (k : Cache). handle_for k.memory c.args.pool c.args.key value (expiry_of k.now c.args.ttl)) c.in-Ok.ensures.same.cache

pub returns-clause-fits : goal.returns-clause-fits
returns-clause-fits g c = c.in-Ok.ensures.fits
