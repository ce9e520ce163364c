use Rattle.std.proofs.Common.{◌≡◌, ◌<◌, Some, None, ap, ◌∙◌}
use Rattle.hc_engines.specs.small.BigHash.{BigHash, our_bucket, job_at}
use Rattle.hc_engines.specs.Seen.{op_of}
use Rattle.hc_engines.specs.Next.{next_seen}
use Rattle.hc_bighash.specs.Steps.{plan_of, phase_of}
use Rattle.std.specs.Prelude.{option_map, slice_index_or}
use Rattle.hc_engines.proofs.small.Beginning.{begun_moved, ours_from, ours_with}
use Rattle.hc_bighash.proofs.big_hash.BigHash.begin.Goals as goal

pub invariant_of-self-2 : goal.invariant_of-self-2
invariant_of-self-2 g c =
    let given : our_bucket c.self.inside.flash (op_of c.args.op.now) ≡ Some c.args.bucket = rw (← c.self.view_is) at c.requires.ours in
    let within : c.args.bucket < c.self.inside.flash.buckets = rw (← c.self.view_is) at c.requires.within in
    let ours = ours_from c.self.inside.flash (op_of c.args.op.now) c.args.bucket given in
    record { limits = c.self.invariant.limits; buckets = c.self.invariant.buckets; ours = rw (c.in_ok-add_job.ensures.ok) (ours_with c.self.inside.flash c.self.inside.jobs.items c.args.number c.args.bucket (op_of c.args.op.now) _ c.self.invariant.ours c.requires.can ours.0 within) }

pub returns-clause-ok : goal.returns-clause-ok
returns-clause-ok g c =
    let s : BigHash = record { flash = c.self.inside.flash; words = c.self.inside.words.items; jobs = c.self.inside.jobs.items } in
    let fresh : job_at c.args.number c.self.inside.jobs.items ≡ None = rw (← c.self.view_is) at c.requires.fresh_number in
    rw (← c.self.view_is) (begun_moved s c.args.number c.args.bucket (op_of c.args.op.now) c.word_at.result (plan_of c.in_ok-plan.plan) c.add_job.new.jobs.items (next_seen c.in_ok-next.field-0.next) (option_map phase_of c.in_ok-next.field-0.phase) fresh (c.word_at.ensures ∙ ap (λ ws. slice_index_or ws c.args.bucket None) c.deref.ensures.value) c.in_ok-plan.ensures.plan
    c.in_ok-next.ensures.next c.in_ok-next.ensures.phase c.in_ok-add_job.ensures.ok)
