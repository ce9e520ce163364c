use Rattle.std.proofs.Common.{◌≡◌, None, sym}
use Rattle.hc_engines.specs.small.BigHash.{BigHash, place_of}
use Rattle.hc_flash.specs.Seen.{result_of}
use Rattle.hc_bighash.proofs.Peeks.{none_ends}
use Rattle.hc_bighash.proofs.big_hash.BigHash.ending.Goals as goal

pub returns-in-None : goal.returns-in-None
returns-in-None g c =
    let s : BigHash = record { flash = c.self.inside.flash; words = c.self.inside.words.items; jobs = c.self.inside.jobs.items } in
    let none : place_of c.args.number s.jobs ≡ None = sym (rw c.deref.ensures.value at c.in-None.ensures.value) in
    rw (← c.self.view_is) (none_ends s c.args.number (result_of c.args.came.now) none)
