use Rattle.std.proofs.Common.{◌≡◌, Some, None, refl, sym, ap, ◌∙◌}
use Rattle.std.specs.Prelude.{option_map}
use Rattle.hc_bucket.proofs.Numbers.{some_is}
use Rattle.hc_engines.specs.Engine.{Op, Get}
use Rattle.hc_engines.specs.small.BigHash.{BigHash, Job, Plan, job_at, carried}
use Rattle.hc_bighash.specs.Handed.{ends_absent, is_absent}
use Rattle.hc_engines.specs.Seen.{op_of}
use Rattle.hc_bighash.specs.Steps.{plan_of}
use Rattle.hc_bighash.proofs.Places.{At, job_here}
use Rattle.hc_bighash.proofs.Handing.{ends_get, get_there, no_miss}
use Rattle.hc_bighash.proofs.big_hash.BigHash.go.Goals as goal

pub returns-in-Some-clause-ok : goal.returns-in-Some-clause-ok
returns-in-Some-clause-ok g c =
    let s : BigHash = record { flash = c.self.inside.flash; words = c.self.inside.words.items; jobs = c.self.inside.jobs.items } in
    let here : At c.args.number c.args.at s.jobs c.index-job.result.now = job_here c.args.number c.args.at s.jobs c.index-job.result.now (rw (← c.self.view_is) at c.requires.here) c.index-job.ensures in
    let ends = ends_get (op_of c.job.inside.op) (plan_of c.args.plan) c.in-Some.gives_up (sym c.ends_absent.ensures ∙ c.in-Some.is) in
    let found = get_there s c.args.number c.args.at c.index-job.result.now ends.0.0 here (sym (ap (λ (j : Job). j.op) c.job.view_is) ∙ ends.0.1) in
    (refl, rw (← c.self.view_is) found, ap (carried c.args.self.now c.args.number) ends.1)

pub returns-in_ok-next-in-None-clause-ok : goal.returns-in_ok-next-in-None-clause-ok
returns-in_ok-next-in-None-clause-ok g c =
    let s : BigHash = record { flash = c.self.inside.flash; words = c.self.inside.words.items; jobs = c.self.inside.jobs.items } in
    let job : Job = c.index-job.result.now in
    let plan : Plan = plan_of c.args.plan in
    let here : At c.args.number c.args.at s.jobs job = job_here c.args.number c.args.at s.jobs job (rw (← c.self.view_is) at c.requires.here) c.index-job.ensures in
    let there : job_at c.args.number c.args.self.now.jobs ≡ Some job = rw (← c.self.view_is) here.there in
    let none : ends_absent job.op plan ≡ None = ap (λ (o : Op). ends_absent o plan) (sym (ap (λ (j : Job). j.op) c.job.view_is)) ∙ sym c.ends_absent.ensures ∙ c.in-None.is in
    let next = c.in_ok-next-in-None.ensures.next job there in (
      c.in_ok-next-in-None.ensures.ok,
      λ key gets. ap is_absent next ∙ no_miss c.args.self.now.flash.page job.bucket job.op plan key none (some_is job.op (Get key) (sym (ap (option_map (λ (j : Job). j.op)) there) ∙ gets)),
    )
