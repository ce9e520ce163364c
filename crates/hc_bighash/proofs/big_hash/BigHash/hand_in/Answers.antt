use Rattle.std.proofs.Common.{◌≡◌, Option, None, sym, ap}
use Rattle.hc_engines.specs.small.BigHash.{BigHash, Job, place_of, resume_job, resume}
use Rattle.hc_flash.specs.Seen.{result_of}
use Rattle.hc_bighash.proofs.Places.{place_none}
use Rattle.hc_bighash.proofs.big_hash.BigHash.hand_in.Goals as goal

pub returns-in-None-clause-unknown : goal.returns-in-None-clause-unknown
returns-in-None-clause-unknown g c =
    let s : BigHash = record { flash = c.self.inside.flash; words = c.self.inside.words.items; jobs = c.self.inside.jobs.items } in
    let none : place_of c.args.number s.jobs ≡ None = sym (rw c.deref.ensures.value at c.in-None.ensures.value) in
    let done : resume s c.args.number (result_of c.args.came.now) ≡ None = ap (λ (o : Option Job). resume_job s o (result_of c.args.came.now)) (place_none c.args.number s.jobs none) in
    rw (← c.self.view_is) (λ _. done)
