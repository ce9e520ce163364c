use Rattle.std.proofs.Common.{◌≡◌, None, refl, sym, ap, ◌∙◌, set}
use Rattle.std.specs.Prelude.{option_map, if◌then◌else◌}
use Rattle.std.specs.List.{remove}
use Rattle.hc_engines.specs.Engine.{Next}
use Rattle.hc_engines.specs.small.BigHash.{BigHash, Job, Plan, Moved, with_job, words_after, next_of}
use Rattle.hc_bighash.specs.Handed.{absent_plan}
use Rattle.hc_bighash.proofs.Places.{At, job_here}
use Rattle.hc_bighash.proofs.Handing.{Made, made_carried, made_sound, absent_words, absent_waits, within_there}
use Rattle.hc_bighash.proofs.big_hash.BigHash.leave_at.Goals as goal

pub settle-requires : goal.settle-requires
settle-requires g c =
    let s : BigHash = record { flash = c.self.inside.flash; words = c.self.inside.words.items; jobs = c.self.inside.jobs.items } in
    let here : At c.args.number c.args.at s.jobs c.index-job.result.now = job_here c.args.number c.args.at s.jobs c.index-job.result.now (rw (← c.self.view_is) at c.requires.here) c.index-job.ensures in
    rw c.bucket-bucket.ensures (within_there s c.args.number c.args.at c.index-job.result.now c.self.invariant here)

pub invariant_of-self : goal.invariant_of-self
invariant_of-self g c =
    let s : BigHash = record { flash = c.self.inside.flash; words = c.self.inside.words.items; jobs = c.self.inside.jobs.items } in
    let job : Job = c.index-job.result.now in
    let plan : Plan = absent_plan c.args.gives_up in
    let next : Next = next_of s.flash.page job.bucket job.op plan in
    let here : At c.args.number c.args.at s.jobs c.index-job.result.now = job_here c.args.number c.args.at s.jobs c.index-job.result.now (rw (← c.self.view_is) at c.requires.here) c.index-job.ensures in
    let words : c.settle.new.words.items ≡ words_after s.words job.bucket plan =
    c.settle.ensures ∙ (λ i. if c.args.gives_up then set s.words (c.bucket-bucket.ensures i) None else s.words) ∙ absent_words c.args.gives_up s.words job.bucket in
    let made : Made s c.args.at job plan c.settle.new.words.items c.go_on.new.jobs.items next = record {
      next_is = refl;
      jobs_are = c.go_on.ensures job ∙ sym (ap (with_job (remove s.jobs c.args.at) job.number job.bucket job.op) (absent_waits c.args.gives_up));
      words_are = words;
    } in
    made_sound s c.args.number c.args.at job plan c.settle.new.words.items c.go_on.new.jobs.items next c.self.invariant here made

pub returns : goal.returns
returns g c =
    let s : BigHash = record { flash = c.self.inside.flash; words = c.self.inside.words.items; jobs = c.self.inside.jobs.items } in
    let job : Job = c.index-job.result.now in
    let plan : Plan = absent_plan c.args.gives_up in
    let next : Next = next_of s.flash.page job.bucket job.op plan in
    let here : At c.args.number c.args.at s.jobs c.index-job.result.now = job_here c.args.number c.args.at s.jobs c.index-job.result.now (rw (← c.self.view_is) at c.requires.here) c.index-job.ensures in
    let words : c.settle.new.words.items ≡ words_after s.words job.bucket plan =
    c.settle.ensures ∙ (λ i. if c.args.gives_up then set s.words (c.bucket-bucket.ensures i) None else s.words) ∙ absent_words c.args.gives_up s.words job.bucket in
    let made : Made s c.args.at job plan c.settle.new.words.items c.go_on.new.jobs.items next = record {
      next_is = refl;
      jobs_are = c.go_on.ensures job ∙ sym (ap (with_job (remove s.jobs c.args.at) job.number job.bucket job.op) (absent_waits c.args.gives_up));
      words_are = words;
    } in
    rw (← c.self.view_is) (ap (option_map (λ (m : Moved). m.state)) (made_carried s c.args.number c.args.at job plan c.settle.new.words.items c.go_on.new.jobs.items next here made))
