use Rattle.std.proofs.Common.{sym, ◌∙◌}
use Rattle.hc_engines.specs.small.BigHash.{BigHash, went_on}
use Rattle.hc_flash.specs.Seen.{result_of}
use Rattle.hc_bighash.proofs.Places.{At, job_here}
use Rattle.hc_bighash.proofs.Handing.{room_there, put_there}
use Rattle.hc_bighash.proofs.Peeks.{other_ends, planned_ends}
use Rattle.hc_bighash.proofs.big_hash.BigHash.ending_of.Goals as goal

pub turn_of-requires-clause-len : goal.turn_of-requires-clause-len
turn_of-requires-clause-len g c =
    let s : BigHash = record { flash = c.self.inside.flash; words = c.self.inside.words.items; jobs = c.self.inside.jobs.items } in
    let here : At c.args.number c.args.at s.jobs c.index-job.result.now = job_here c.args.number c.args.at s.jobs c.index-job.result.now (rw (← c.self.view_is) at c.requires.here) c.index-job.ensures in
    room_there s c.args.number c.args.at c.index-job.result.now c.self.invariant here

pub turn_of-requires-clause-put : goal.turn_of-requires-clause-put
turn_of-requires-clause-put g c =
    let s : BigHash = record { flash = c.self.inside.flash; words = c.self.inside.words.items; jobs = c.self.inside.jobs.items } in
    let here : At c.args.number c.args.at s.jobs c.index-job.result.now = job_here c.args.number c.args.at s.jobs c.index-job.result.now (rw (← c.self.view_is) at c.requires.here) c.index-job.ensures in
    put_there s c.args.number c.args.at c.index-job.result.now c.self.invariant here

pub returns-then-not-is_get : goal.returns-then-not-is_get
returns-then-not-is_get g c =
    let s : BigHash = record { flash = c.self.inside.flash; words = c.self.inside.words.items; jobs = c.self.inside.jobs.items } in
    let here : At c.args.number c.args.at s.jobs c.index-job.result.now = job_here c.args.number c.args.at s.jobs c.index-job.result.now (rw (← c.self.view_is) at c.requires.here) c.index-job.ensures in
    rw (← c.self.view_is) (other_ends s c.args.number c.args.at c.index-job.result.now (result_of c.args.came.now) here (sym c.is_get.ensures ∙ c.if-not-is_get.true))

pub returns : goal.returns
returns g c =
    let s : BigHash = record { flash = c.self.inside.flash; words = c.self.inside.words.items; jobs = c.self.inside.jobs.items } in
    let here : At c.args.number c.args.at s.jobs c.index-job.result.now = job_here c.args.number c.args.at s.jobs c.index-job.result.now (rw (← c.self.view_is) at c.requires.here) c.index-job.ensures in
    let planned = c.ending_at.ensures c.index-job.result.now.phase (went_on s.flash.page c.index-job.result.now.op c.index-job.result.now.phase (result_of c.args.came.now)) c.in_ok-turn.ensures.turn in
    rw (← c.self.view_is) (planned_ends s c.args.number c.args.at c.index-job.result.now (result_of c.args.came.now) c.ending_at.result here (sym c.is_get.ensures ∙ c.if-not-is_get.false) planned)
