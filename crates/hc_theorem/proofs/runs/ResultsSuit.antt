-- A result of a job's order is taken: the operation goes on.
use Rattle.std.proofs.Common.{◌≡◌, ℕ, true, Option, Some, None, refl, ap, ◌∙◌, subst}
use Rattle.std.specs.Prelude.{is_some, option_map}
use Rattle.hc_engines.specs.Engine.{Op, Order, Pages, IoResult, Page, Written, Failed}
use Rattle.hc_engines.specs.small.BigHash as bighash
use Rattle.hc_engines.specs.small.BigHash.{Phase, went_on}
use Rattle.hc_engines.specs.small.Held as small
use Rattle.hc_engines.specs.large.Block as block
use Rattle.hc_engines.specs.large.Block.{Writing, Getting}
use Rattle.hc_engines.specs.pair.Pair as pairs
use Rattle.hc_engines.specs.pair.Pair.{Pair, resume_in, resume_large}
use Rattle.hc_machine.specs.Nvm.{Nvm}
use Rattle.hc_invariant.specs.Jobs.{small_order, large_order}
use Rattle.hc_invariant.specs.Good.{IsResult}
use Rattle.hc_theorem.proofs.runs.WritesAlone.{Runs, OfSmall, OfLarge}

some_map : {A B : Type 0} (f : A → B) (o : Option A) → is_some o ≡ true → is_some (option_map f o) ≡ true
some_map f None h = absurd cc
some_map f (Some x) h = refl

plans : (pages : Pages) (size bucket : ℕ) (op : Op) (phase : Phase) (result : IoResult) → IsResult pages (Some (small.order_of size bucket phase)) result → is_some (went_on size op phase result) ≡ true
plans pages size bucket op bighash.Reading (Page bytes) h = refl
plans pages size bucket op bighash.Reading Failed h = refl
plans pages size bucket op bighash.Reading Written h = absurd h
plans pages size bucket op (bighash.Writing es losses) Written h = refl
plans pages size bucket op (bighash.Writing es losses) Failed h = refl
plans pages size bucket op (bighash.Writing es losses) (Page bytes) h = absurd h

works : (pages : Pages) (n : ℕ) (pair : Pair) (work : block.Work) (result : IoResult) → IsResult pages (Some (large_order pair work)) result → is_some (pairs.resume_work n result pair work) ≡ true
works pages n pair (Writing r bytes) Written h = refl
works pages n pair (Writing r bytes) Failed h = refl
works pages n pair (Writing r bytes) (Page page) h = absurd h
works pages n pair (Getting reading) (Page page) h = refl
works pages n pair (Getting reading) Failed h = refl
works pages n pair (Getting reading) Written h = absurd h

pub suits : (pages : Pages) (nvm : Nvm) (n : ℕ) (order : Order) (result : IoResult) → Runs nvm n order → IsResult pages (Some order) result → is_some (pairs.resume n result nvm.pair) ≡ true
suits pages nvm n order result (OfSmall job at none is) h =
    let its : IsResult pages (Some (small_order nvm.pair job)) result = subst (λ (o : Order). IsResult pages (Some o) result) is h in
    let plan = plans pages nvm.pair.small.flash.page job.bucket job.op job.phase result its in
    let resumes : is_some (bighash.resume nvm.pair.small n result) ≡ true = ap (λ o. is_some (bighash.resume_job nvm.pair.small o result)) at ∙ some_map _ (went_on nvm.pair.small.flash.page job.op job.phase result) plan in
    ap (λ o. is_some (resume_in n result nvm.pair o)) at ∙ some_map _ (bighash.resume nvm.pair.small n result) resumes
suits pages nvm n order result (OfLarge work none at is) h =
    let its : IsResult pages (Some (large_order nvm.pair work)) result = subst (λ (o : Order). IsResult pages (Some o) result) is h in
    ap (λ o. is_some (resume_in n result nvm.pair o)) none ∙ ap (λ o. is_some (resume_large n result nvm.pair o)) at ∙ works pages n nvm.pair work result its
