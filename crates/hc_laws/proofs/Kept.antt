-- A result that is handed in leaves the configuration of the engines as it was.
use Rattle.std.proofs.Common.{◌≡◌, ℕ, Bool, true, false, List, [], Option, Some, None, refl, ap, sym, ◌∙◌}
use Rattle.std.specs.Prelude.{if◌then◌else◌, option_map}
use Rattle.hc_engines.specs.Engine.{Op, Put, Get, Delete, Flush, Reclaim, IoResult, Answer, Nothing, Over, Absent, Found, Outcome, Next, Busy, Io, Done}
use Rattle.hc_engines.specs.small.BigHash as bighash
use Rattle.hc_engines.specs.small.BigHash.{BigHash, Plan}
use Rattle.hc_engines.specs.large.Block.{Work, work_of}
use Rattle.hc_engines.specs.large.Steps as steps
use Rattle.hc_engines.specs.pair.Pair as pairs
use Rattle.hc_engines.specs.pair.Pair.{Pair, waits_for, by_small, by_large, then_large, after_small, resume_work, resume_large, resume_in, resume}

module _ (number : ℕ) (result : IoResult) (pair : Pair) where
  abbrev Keeps : Option pairs.Moved → Type 0
  Keeps o = (moved : pairs.Moved) → o ≡ Some moved → moved.pair.small.flash ≡ pair.small.flash

  some_keeps : (one : pairs.Moved) → one.pair.small.flash ≡ pair.small.flash → Keeps (Some one)
  some_keeps one e moved h = let same : one ≡ moved = cc in ap (λ (m : pairs.Moved). m.pair.small.flash) (sym same) ∙ e

  work_keeps : (work : Work) (t : Bool) → Keeps (if t then Some (by_large pair [] (steps.resume pair.small.flash number work result pair.large)) else None)
  work_keeps work true moved h = some_keeps (by_large pair [] (steps.resume pair.small.flash number work result pair.large)) refl moved h
  work_keeps work false moved h = absurd cc

  large_keeps : (o : Option Work) → Keeps (resume_large number result pair o)
  large_keeps None moved h = absurd cc
  large_keeps (Some work) moved h = work_keeps work (waits_for work result) moved h

  went_keeps : (key : List ℕ) (there : Pair) (outcome : Outcome) (answer : Answer) → (pairs.went_on number key there outcome answer).pair.small.flash ≡ there.small.flash
  went_keeps key there outcome Nothing = refl
  went_keeps key there outcome Over = refl
  went_keeps key there outcome Absent = refl
  went_keeps key there outcome (Found entry) = refl

  then_keeps : (op : Op) (there : Pair) (next : Next) → (then_large number op there next).pair.small.flash ≡ there.small.flash
  then_keeps (Get key) there Busy = refl
  then_keeps (Get key) there (Io order outcome) = refl
  then_keeps (Get key) there (Done outcome) = went_keeps key there outcome outcome.answer
  then_keeps (Put entry) there next = refl
  then_keeps (Delete key) there next = refl
  then_keeps Flush there next = refl
  then_keeps Reclaim there next = refl

  small_keeps : (op : Op) (job : bighash.Job) (plan : Option Plan) → Keeps (option_map (λ moved. after_small number op (by_small pair moved)) (bighash.resumed pair.small job plan))
  small_keeps op job None moved h = absurd cc
  small_keeps op job (Some plan) moved h =
      let small : bighash.Moved = bighash.moved pair.small job.number job.bucket job.op plan in
      some_keeps (after_small number op (by_small pair small)) (then_keeps op (by_small pair small).pair small.next) moved h

  small_keeps_of : (own : bighash.Job) (o : Option bighash.Job) → Keeps (option_map (λ moved. after_small number own.op (by_small pair moved)) (bighash.resume_job pair.small o result))
  small_keeps_of own None moved h = absurd cc
  small_keeps_of own (Some job) moved h = small_keeps own.op job (bighash.went_on pair.small.flash.page job.op job.phase result) moved h

  -- the job that the small engine takes up is the one that the pair found there
  found_keeps : (o : Option bighash.Job) → bighash.job_at number pair.small.jobs ≡ o → Keeps (resume_in number result pair o)
  found_keeps None e moved h = large_keeps (work_of number pair.large.jobs) moved h
  found_keeps (Some job) e moved h = small_keeps_of job (bighash.job_at number pair.small.jobs) moved h

pub resume_keeps_flash : (number : ℕ) (result : IoResult) (pair : Pair) (moved : pairs.Moved) → resume number result pair ≡ Some moved → moved.pair.small.flash ≡ pair.small.flash
resume_keeps_flash number result pair moved h = found_keeps number result pair (bighash.job_at number pair.small.jobs) refl moved h
