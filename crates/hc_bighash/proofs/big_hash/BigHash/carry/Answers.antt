use Rattle.std.proofs.Common.{◌≡◌, None, sym, ap, ◌∙◌, subst, set}
use Rattle.std.specs.Prelude.{option_map, if◌then◌else◌}
use Rattle.std.specs.List.{remove}
use Rattle.hc_engines.specs.small.BigHash.{BigHash, Job, with_job, words_after, next_of}
use Rattle.hc_bucket.proofs.Numbers.{some_is}
use Rattle.hc_bighash.specs.Steps.{plan_of, phase_of}
use Rattle.hc_engines.specs.Next.{next_seen}
use Rattle.hc_bighash.proofs.Places.{At, job_here}
use Rattle.hc_bighash.proofs.Handing.{Made, made_carried, made_sound, settled, within_there}
use Rattle.hc_bighash.proofs.big_hash.BigHash.carry.Goals as goal

pub settle-requires : goal.settle-requires
settle-requires g c =
    let s : BigHash = record { flash = c.self.inside.flash; words = c.self.inside.words.items; jobs = c.self.inside.jobs.items } in
    let here : At c.args.number c.args.at s.jobs c.index-job.result.now = job_here c.args.number c.args.at s.jobs c.index-job.result.now (rw (← c.self.view_is) at c.requires.here) c.index-job.ensures in
    rw c.bucket-bucket.ensures (within_there s c.args.number c.args.at c.index-job.result.now c.self.invariant here)

pub invariant_of-self : goal.invariant_of-self
invariant_of-self g c =
    let s : BigHash = record { flash = c.self.inside.flash; words = c.self.inside.words.items; jobs = c.self.inside.jobs.items } in
    let here : At c.args.number c.args.at s.jobs c.index-job.result.now = job_here c.args.number c.args.at s.jobs c.index-job.result.now (rw (← c.self.view_is) at c.requires.here) c.index-job.ensures in
    let jobs : c.go_on.new.jobs.items ≡ with_job (remove s.jobs c.args.at) c.index-job.result.now.number c.index-job.result.now.bucket c.index-job.result.now.op (option_map phase_of c.in_ok-next.field-0.phase) =
    subst (λ (j : Job). c.go_on.new.jobs.items ≡ with_job (remove s.jobs c.args.at) j.number j.bucket j.op (option_map phase_of c.in_ok-next.field-0.phase)) (sym c.index-job.ensures) (c.go_on.ensures c.index-job.result.now) in
    let words : c.settle.new.words.items ≡ words_after s.words c.index-job.result.now.bucket (plan_of c.args.plan) =
    c.settle.ensures ∙ (λ i. if c.gives_up-gives_up.ensures i then set s.words (c.bucket-bucket.ensures i) None else s.words) ∙ settled c.args.plan s.words c.index-job.result.now.bucket in
    let made : Made s c.args.at c.index-job.result.now (plan_of c.args.plan) c.settle.new.words.items c.go_on.new.jobs.items (next_seen c.in_ok-next.field-0.next) = record {
      next_is = c.in_ok-next.ensures.next;
      jobs_are = jobs ∙ ap (with_job (remove s.jobs c.args.at) c.index-job.result.now.number c.index-job.result.now.bucket c.index-job.result.now.op) c.in_ok-next.ensures.phase;
      words_are = words;
    } in
    made_sound s c.args.number c.args.at c.index-job.result.now (plan_of c.args.plan) c.settle.new.words.items c.go_on.new.jobs.items (next_seen c.in_ok-next.field-0.next) c.self.invariant here made

pub returns-clause-ok : goal.returns-clause-ok
returns-clause-ok g c =
    let s : BigHash = record { flash = c.self.inside.flash; words = c.self.inside.words.items; jobs = c.self.inside.jobs.items } in
    let here : At c.args.number c.args.at s.jobs c.index-job.result.now = job_here c.args.number c.args.at s.jobs c.index-job.result.now (rw (← c.self.view_is) at c.requires.here) c.index-job.ensures in
    let jobs : c.go_on.new.jobs.items ≡ with_job (remove s.jobs c.args.at) c.index-job.result.now.number c.index-job.result.now.bucket c.index-job.result.now.op (option_map phase_of c.in_ok-next.field-0.phase) =
    subst (λ (j : Job). c.go_on.new.jobs.items ≡ with_job (remove s.jobs c.args.at) j.number j.bucket j.op (option_map phase_of c.in_ok-next.field-0.phase)) (sym c.index-job.ensures) (c.go_on.ensures c.index-job.result.now) in
    let words : c.settle.new.words.items ≡ words_after s.words c.index-job.result.now.bucket (plan_of c.args.plan) =
    c.settle.ensures ∙ (λ i. if c.gives_up-gives_up.ensures i then set s.words (c.bucket-bucket.ensures i) None else s.words) ∙ settled c.args.plan s.words c.index-job.result.now.bucket in
    let made : Made s c.args.at c.index-job.result.now (plan_of c.args.plan) c.settle.new.words.items c.go_on.new.jobs.items (next_seen c.in_ok-next.field-0.next) = record {
      next_is = c.in_ok-next.ensures.next;
      jobs_are = jobs ∙ ap (with_job (remove s.jobs c.args.at) c.index-job.result.now.number c.index-job.result.now.bucket c.index-job.result.now.op) c.in_ok-next.ensures.phase;
      words_are = words;
    } in
    rw (← c.self.view_is) (made_carried s c.args.number c.args.at c.index-job.result.now (plan_of c.args.plan) c.settle.new.words.items c.go_on.new.jobs.items (next_seen c.in_ok-next.field-0.next) here made)

pub returns-clause-next : goal.returns-clause-next
returns-clause-next g c =
    let s : BigHash = record { flash = c.self.inside.flash; words = c.self.inside.words.items; jobs = c.self.inside.jobs.items } in
    let here : At c.args.number c.args.at s.jobs c.index-job.result.now = job_here c.args.number c.args.at s.jobs c.index-job.result.now (rw (← c.self.view_is) at c.requires.here) c.index-job.ensures in
    rw (← c.self.view_is) (λ job at. c.in_ok-next.ensures.next ∙ ap (λ (j : Job). next_of s.flash.page j.bucket j.op (plan_of c.args.plan)) (some_is c.index-job.result.now job (sym here.there ∙ at)))
