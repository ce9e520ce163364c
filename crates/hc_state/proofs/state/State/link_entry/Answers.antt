use Rattle.std.proofs.Common.{◌<◌, length, sym, subst}
use Rattle.std.specs.Prelude.{IfOk}
use Rattle.hc_types.specs.FlashEntry.{entry_of}
use Rattle.hc_machine.specs.Cache.{Cache}
use Rattle.hc_state.specs.fill.Bring.{Arrives}
use Rattle.hc_state.specs.fill.Plan.{losses_by}
use Rattle.hc_state.proofs.fill.Links.{can-room}
use Rattle.hc_state.proofs.fill.Plans.{comes-so, linked-result}
use Rattle.hc_state.proofs.state.State.link_entry.Goals as goal

pub coming_of-requires : goal.coming_of-requires
coming_of-requires g c =
    let entry = entry_of c.args.entry.now in
    record { pool = subst (λ (k : Cache). entry.pool < length k.memory.pools) (sym c.room_to_end.ensures.stays.cache) (can-room c.args.self.now.cache entry c.requires.can).pool }

pub link_coming-requires : goal.link_coming-requires
link_coming-requires g c =
    let comes = comes-so (entry_of c.args.entry.now) c.args.count c.in_ok-coming.coming c.args.self.now c.room_to_end.new.self c.room_to_end.ensures.stays c.in_ok-coming.ensures c.requires.can c.requires.count c.requires.absent in
    record {
      fits = c.flash_of_pools-flash.ensures.fits;
      pool = comes.pool;
      size = comes.size;
      count = comes.count;
      room = comes.room;
      absent = comes.absent;
    }

pub returns-clause-ok : goal.returns-clause-ok
returns-clause-ok g c =
    let mid = c.room_to_end.new.self in
    let coming = c.in_ok-coming.coming in
    let arrives =
    subst (λ fl. IfOk c.link_coming.result (λ a. Arrives fl (losses_by c.args.ending.now) mid.cache.memory coming a)) c.flash_of_pools-flash.ensures.value
    (subst (λ ls. IfOk c.link_coming.result (λ a. Arrives c.flash_of_pools-flash.result ls mid.cache.memory coming a)) c.losses.ensures c.link_coming.ensures.arrived) in
    linked-result (entry_of c.args.entry.now) c.args.ending.now c.args.count c.args.waiting coming c.link_coming.result c.args.self.now mid c.link_coming.new.self c.room_to_end.ensures.stays c.in_ok-coming.ensures c.requires.count c.in_ok-room_to_end.ensures.room arrives c.link_coming.ensures.ok
