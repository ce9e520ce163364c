use Rattle.std.proofs.Common.{List, ap, sym, subst, ◌∙◌}
use Rattle.hc_engines.specs.large.Block.{Job, job_added}
use Rattle.hc_engines.proofs.large.Jobs.{absent_stays}
use Rattle.hc_block.specs.Works.{work_seen, jobs_of, IsFreeIn}
use Rattle.hc_block.proofs.Works.{insert-is}
use Rattle.hc_block.proofs.jobs.Jobs.insert.Goals as goal

pub returns-in-Ok-clause-ok : goal.returns-in-Ok-clause-ok
returns-in-Ok-clause-ok g c =
    let free = subst (λ (js : List Job). IsFreeIn c.args.number js) (sym c.self.view_is) c.requires in
    rw (← c.self.view_is) (ap jobs_of c.in-Ok.ensures.entries ∙ insert-is c.args.number c.args.work c.self.inside.works.entries c.insert.ensures.was_ordered ∙ ap (job_added c.args.number (work_seen c.args.work)) (absent_stays c.args.number (jobs_of c.self.inside.works.entries) free))
