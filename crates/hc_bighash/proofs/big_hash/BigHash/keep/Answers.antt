use Rattle.std.proofs.Common.{◌≡◌, ℕ, Some, ap, ◌∙◌, set}
use Rattle.std.specs.Prelude.{IsSome}
use Rattle.hc_engines.specs.Engine.{Done}
use Rattle.hc_engines.specs.small.BigHash.{BigHash, job_at, kept_job, ToKeep}
use Rattle.hc_bighash.proofs.Places.{At, job_here}
use Rattle.hc_bighash.proofs.Handing.{Made, made_kept, made_sound, phase_kept, within_there}
use Rattle.hc_bighash.proofs.big_hash.BigHash.keep.Goals as goal

pub end_write-bucket-requires : goal.end_write-bucket-requires
end_write-bucket-requires g c =
    let s : BigHash = record { flash = c.self.inside.flash; words = c.self.inside.words.items; jobs = c.self.inside.jobs.items } in
    let here : At c.args.number c.args.at s.jobs c.remove-job.result = job_here c.args.number c.args.at s.jobs c.remove-job.result (rw (← c.self.view_is) at c.requires.here) c.remove-job.ensures.value in
    let kept : IsSome (kept_job s (job_at c.args.number s.jobs)) = rw (← c.self.view_is) at c.requires.kept in
    phase_kept s c.args.number c.args.at c.remove-job.result here kept

pub set_word-requires : goal.set_word-requires
set_word-requires g c =
    let s : BigHash = record { flash = c.self.inside.flash; words = c.self.inside.words.items; jobs = c.self.inside.jobs.items } in
    let here : At c.args.number c.args.at s.jobs c.remove-job.result = job_here c.args.number c.args.at s.jobs c.remove-job.result (rw (← c.self.view_is) at c.requires.here) c.remove-job.ensures.value in
    rw c.end_write-bucket.ensures.bucket (within_there s c.args.number c.args.at c.remove-job.result c.self.invariant here)

pub invariant_of-self : goal.invariant_of-self
invariant_of-self g c =
    let s : BigHash = record { flash = c.self.inside.flash; words = c.self.inside.words.items; jobs = c.self.inside.jobs.items } in
    let here : At c.args.number c.args.at s.jobs c.remove-job.result = job_here c.args.number c.args.at s.jobs c.remove-job.result (rw (← c.self.view_is) at c.requires.here) c.remove-job.ensures.value in
    let words : c.set_word.new.words.items ≡ set s.words c.remove-job.result.bucket (Some c.end_write-bucket.result.word) = c.set_word.ensures ∙ ap (λ (b : ℕ). set s.words b (Some c.end_write-bucket.result.word)) c.end_write-bucket.ensures.bucket in
    let made : Made s c.args.at c.remove-job.result (ToKeep c.end_write-bucket.result.word c.end_write-bucket.result.losses.items) c.set_word.new.words.items c.remove-job.new.self.items (Done c.new.result) = record { next_is = ap Done c.new.ensures; jobs_are = c.remove-job.ensures.items; words_are = words } in
    made_sound s c.args.number c.args.at c.remove-job.result (ToKeep c.end_write-bucket.result.word c.end_write-bucket.result.losses.items) c.set_word.new.words.items c.remove-job.new.self.items (Done c.new.result) c.self.invariant here made

pub returns-clause-kept : goal.returns-clause-kept
returns-clause-kept g c =
    let s : BigHash = record { flash = c.self.inside.flash; words = c.self.inside.words.items; jobs = c.self.inside.jobs.items } in
    let here : At c.args.number c.args.at s.jobs c.remove-job.result = job_here c.args.number c.args.at s.jobs c.remove-job.result (rw (← c.self.view_is) at c.requires.here) c.remove-job.ensures.value in
    let words : c.set_word.new.words.items ≡ set s.words c.remove-job.result.bucket (Some c.end_write-bucket.result.word) = c.set_word.ensures ∙ ap (λ (b : ℕ). set s.words b (Some c.end_write-bucket.result.word)) c.end_write-bucket.ensures.bucket in
    let made : Made s c.args.at c.remove-job.result (ToKeep c.end_write-bucket.result.word c.end_write-bucket.result.losses.items) c.set_word.new.words.items c.remove-job.new.self.items (Done c.new.result) = record { next_is = ap Done c.new.ensures; jobs_are = c.remove-job.ensures.items; words_are = words } in
    rw (← c.self.view_is) (made_kept s c.args.number c.args.at c.remove-job.result c.end_write-bucket.result.word c.end_write-bucket.result.losses.items c.set_word.new.words.items c.remove-job.new.self.items (Done c.new.result) here c.end_write-bucket.ensures.kept made)
