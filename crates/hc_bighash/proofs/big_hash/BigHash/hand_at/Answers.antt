use Rattle.std.proofs.Common.{◌≡◌, Option, Some, None, sym, ap, ◌∙◌, subst}
use Rattle.std.specs.Prelude.{IsSome, is_some}
use Rattle.hc_engines.specs.small.BigHash.{BigHash, Moved, went_on, resume, carried, kept_job, job_at}
use Rattle.hc_flash.specs.Seen.{result_of}
use Rattle.hc_bighash.specs.Handed.{IsHanded}
use Rattle.hc_bighash.specs.Steps.{plan_of, IsKept}
use Rattle.hc_bighash.proofs.Places.{At, job_here}
use Rattle.hc_bighash.proofs.Handing.{go_is, goes_some, unknown_is, keep_is, keep_some, room_there, put_there}
use Rattle.hc_bighash.proofs.big_hash.BigHash.hand_at.Goals as goal

pub turn_of-requires-clause-len : goal.turn_of-requires-clause-len
turn_of-requires-clause-len g c =
    let s : BigHash = record { flash = c.self.inside.flash; words = c.self.inside.words.items; jobs = c.self.inside.jobs.items } in
    let here : At c.args.number c.args.at s.jobs c.index.result.now = job_here c.args.number c.args.at s.jobs c.index.result.now (rw (← c.self.view_is) at c.requires.here) c.index.ensures in
    room_there s c.args.number c.args.at c.index.result.now c.self.invariant here

pub turn_of-requires-clause-put : goal.turn_of-requires-clause-put
turn_of-requires-clause-put g c =
    let s : BigHash = record { flash = c.self.inside.flash; words = c.self.inside.words.items; jobs = c.self.inside.jobs.items } in
    let here : At c.args.number c.args.at s.jobs c.index.result.now = job_here c.args.number c.args.at s.jobs c.index.result.now (rw (← c.self.view_is) at c.requires.here) c.index.ensures in
    put_there s c.args.number c.args.at c.index.result.now c.self.invariant here

pub keep-requires-clause-kept : goal.keep-requires-clause-kept
keep-requires-clause-kept g c =
    let s : BigHash = record { flash = c.self.inside.flash; words = c.self.inside.words.items; jobs = c.self.inside.jobs.items } in
    let here : At c.args.number c.args.at s.jobs c.index.result.now = job_here c.args.number c.args.at s.jobs c.index.result.now (rw (← c.self.view_is) at c.requires.here) c.index.ensures in
    let kept : IsKept c.index.result.now.phase (went_on s.flash.page c.index.result.now.op c.index.result.now.phase (result_of c.args.came.now)) = rw c.in-Ok-Keep.field-0-is at c.in-Ok-Keep.ensures.turn in
    rw (← c.self.view_is) (keep_some s c.args.number c.args.at c.index.result.now (result_of c.args.came.now) here kept)

pub returns-in-Ok-clause-ok : goal.returns-in-Ok-clause-ok
returns-in-Ok-clause-ok g c =
    let s : BigHash = record { flash = c.self.inside.flash; words = c.self.inside.words.items; jobs = c.self.inside.jobs.items } in
    let here : At c.args.number c.args.at s.jobs c.index.result.now = job_here c.args.number c.args.at s.jobs c.index.result.now (rw (← c.self.view_is) at c.requires.here) c.index.ensures in
    let went : went_on s.flash.page c.index.result.now.op c.index.result.now.phase (result_of c.args.came.now) ≡ Some (plan_of c.in-Ok-Go.plan) = rw c.in-Ok-Go.field-0-is at c.in-Ok-Go.ensures.turn in
    let go : resume s c.args.number (result_of c.args.came.now) ≡ carried s c.args.number (plan_of c.in-Ok-Go.plan) = go_is s c.args.number c.args.at c.index.result.now (result_of c.args.came.now) (plan_of c.in-Ok-Go.plan) here went in
    let now : resume c.args.self.now c.args.number (result_of c.args.came.now) ≡ carried c.args.self.now c.args.number (plan_of c.in-Ok-Go.plan) = rw (← c.self.view_is) go in
    subst (λ (m : Option Moved). IsHanded c.args.self.now c.go.new.self c.args.number m c.in-Ok.handed) (sym now) c.in-Ok.ensures.ok

pub returns-in-Ok-Keep-clause-ok : goal.returns-in-Ok-Keep-clause-ok
returns-in-Ok-Keep-clause-ok g c =
    let s : BigHash = record { flash = c.self.inside.flash; words = c.self.inside.words.items; jobs = c.self.inside.jobs.items } in
    let here : At c.args.number c.args.at s.jobs c.index.result.now = job_here c.args.number c.args.at s.jobs c.index.result.now (rw (← c.self.view_is) at c.requires.here) c.index.ensures in
    let kept : IsKept c.index.result.now.phase (went_on s.flash.page c.index.result.now.op c.index.result.now.phase (result_of c.args.came.now)) = rw c.in-Ok-Keep.field-0-is at c.in-Ok-Keep.ensures.turn in
    let keep : resume s c.args.number (result_of c.args.came.now) ≡ kept_job s (job_at c.args.number s.jobs) = keep_is s c.args.number c.args.at c.index.result.now (result_of c.args.came.now) here kept in
    let now : resume c.args.self.now c.args.number (result_of c.args.came.now) ≡ kept_job c.args.self.now (job_at c.args.number c.args.self.now.jobs) = rw (← c.self.view_is) keep in
    (now ∙ c.keep.ensures.kept, λ key gets. c.keep.ensures.no_miss)

pub returns-in-Ok-Unknown-clause-unknown : goal.returns-in-Ok-Unknown-clause-unknown
returns-in-Ok-Unknown-clause-unknown g c =
    let s : BigHash = record { flash = c.self.inside.flash; words = c.self.inside.words.items; jobs = c.self.inside.jobs.items } in
    let here : At c.args.number c.args.at s.jobs c.index.result.now = job_here c.args.number c.args.at s.jobs c.index.result.now (rw (← c.self.view_is) at c.requires.here) c.index.ensures in
    let went : went_on s.flash.page c.index.result.now.op c.index.result.now.phase (result_of c.args.came.now) ≡ None = rw c.in-Ok-Unknown.field-0-is at c.in-Ok-Unknown.ensures.turn in
    rw (← c.self.view_is) (λ _. unknown_is s c.args.number c.args.at c.index.result.now (result_of c.args.came.now) here went)

pub returns-in-Err-go-clause-awaited : goal.returns-in-Err-go-clause-awaited
returns-in-Err-go-clause-awaited g c =
    let s : BigHash = record { flash = c.self.inside.flash; words = c.self.inside.words.items; jobs = c.self.inside.jobs.items } in
    let here : At c.args.number c.args.at s.jobs c.index.result.now = job_here c.args.number c.args.at s.jobs c.index.result.now (rw (← c.self.view_is) at c.requires.here) c.index.ensures in
    let went : went_on s.flash.page c.index.result.now.op c.index.result.now.phase (result_of c.args.came.now) ≡ Some (plan_of c.in-Ok-Go.plan) = rw c.in-Ok-Go.field-0-is at c.in-Ok-Go.ensures.turn in
    let some : IsSome (went_on s.flash.page c.index.result.now.op c.index.result.now.phase (result_of c.args.came.now)) = ap is_some went in
    rw (← c.self.view_is) (λ _. goes_some s c.args.number c.args.at c.index.result.now (result_of c.args.came.now) here some)

pub returns-in-Err-clause-awaited : goal.returns-in-Err-clause-awaited
returns-in-Err-clause-awaited g c =
    let s : BigHash = record { flash = c.self.inside.flash; words = c.self.inside.words.items; jobs = c.self.inside.jobs.items } in
    let here : At c.args.number c.args.at s.jobs c.index.result.now = job_here c.args.number c.args.at s.jobs c.index.result.now (rw (← c.self.view_is) at c.requires.here) c.index.ensures in
    rw (← c.self.view_is) (λ _. goes_some s c.args.number c.args.at c.index.result.now (result_of c.args.came.now) here c.in-Err.ensures.awaited)
