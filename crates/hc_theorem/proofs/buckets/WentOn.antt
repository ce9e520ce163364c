-- A get that found nothing in the small engine goes on with the large one: it is answered at once there, or it reads.
use Rattle.std.proofs.Common.{◌≡◌, ◌⊎◌, inl, inr, ℕ, ◌<◌, List, [], ◌∷◌, ◌++◌, Option, Some, None, refl, arith, ap, sym, ◌∙◌, subst, append-nil}
use Rattle.hc_types.specs.Config.{Config}
use Rattle.hc_types.specs.declared.config.FlashConfig.{FlashConfig}
use Rattle.hc_types.specs.FlashEntry.{FlashEntry}
use Rattle.hc_engines.specs.Engine as engine
use Rattle.hc_engines.specs.Engine.{Pages, Order, Read, Nothing, Absent, Loss, nothing}
use Rattle.hc_engines.specs.small.BigHash as bighash
use Rattle.hc_engines.specs.small.BigHash.{BigHash}
use Rattle.hc_engines.specs.small.Held as small
use Rattle.hc_engines.specs.large.Block.{Block, Moved, finished}
use Rattle.hc_engines.specs.large.Held as large
use Rattle.hc_engines.specs.large.Fits.{answer_by}
use Rattle.hc_engines.specs.large.Laws.{read_page}
use Rattle.hc_engines.specs.large.Steps as steps
use Rattle.hc_memory.specs.Memory.{Memory}
use Rattle.hc_history.specs.Note.{Note}
use Rattle.hc_history.specs.Pages.{bytes_at}
use Rattle.hc_history.specs.Lawful.{Lawful, past}
use Rattle.hc_engines.specs.pair.Pair.{Pair, next_of, after_losses}
use Rattle.hc_machine.specs.Nvm.{Nvm, Filling, Job, job_at, without_job, ordered}
use Rattle.hc_machine.specs.Leaving.{Changed}
use Rattle.hc_machine.specs.Takes.{Taken, Work, takes, told_before, found_in, goes_on, loss_notes, bucket_lost, raise_all, settled, holds}
use Rattle.hc_machine.specs.Cache.{Cache, unmarked_by}
use Rattle.hc_machine.specs.Workers as workers
use Rattle.hc_invariant.specs.Standing.{first_of, written_by}
use Rattle.hc_invariant.specs.Jobs.{large_work}
use Rattle.hc_invariant.specs.Good.{Agrees, EnginesFit}
use Rattle.hc_invariant.specs.Laws.{Keeps}
use Rattle.hc_proof.specs.books.RegionBooks.{LargeFits, LargeKeeps, OthersStay, but, GetTells, GetReads, GetGives}
use Rattle.hc_theorem.specs.buckets.Small.{AllSmall, Ending}
use Rattle.hc_theorem.specs.fills.Filling.{FillEnds}
use Rattle.hc_theorem.proofs.buckets.JobOver.{Before, job_gone}
use Rattle.hc_theorem.proofs.buckets.Finishing.{own, Over, keeps-going, before-good}
use Rattle.hc_theorem.proofs.buckets.FillLists.{AllKey}
use Rattle.hc_theorem.proofs.buckets.Launched.{Launch, launch}
use Rattle.hc_theorem.proofs.buckets.Settling.{raise-pair, raise-jobs, raise-fills, raise-made}
use Rattle.hc_theorem.proofs.buckets.GetEnded.{settled-bytes, holds-bytes, ended_take, fill_ended}
use Rattle.hc_engines.proofs.large.Jobs.{free_of}

-- what is told at once, where the get goes on
pub record Holding (config : Config) (flash : FlashConfig) (older : List Note) (first : Note) (memory : Memory) (change : Changed) (number : ℕ) : Type 0 where
  pub lawful : Lawful config older (first ∷ change.part)
  pub small : AllSmall flash (first ∷ change.part)
  pub ending : Ending config flash (past older (first ∷ change.part)) (unmarked_by (first ∷ change.part) memory) change.nvm number Filling

pub large-fits : (flash : FlashConfig) (older : List Note) (nvm : Nvm) → EnginesFit flash older nvm → LargeFits flash older nvm.pair.large
large-fits flash older nvm e = record { sound = e.large_sound; fits = e.large_fits; reads = e.reads; regions = e.regions }

-- what was found in the large engine
found-large : (o : Option FlashEntry) → found_in (answer_by o) ≡ o
found-large None = refl
found-large (Some e) = refl

-- tombstones that end leave the rest as it is
abbrev moved_to : Nvm → List Job → Block → Nvm
moved_to nvm jobs more = record nvm { pair = record nvm.pair { large = more }; jobs = jobs }

holds-part : (o : Option ℕ) (nvm : Nvm) (jobs : List Job) (more : Block) → (raise_all o (moved_to nvm jobs more)).part ≡ (raise_all o nvm).part
holds-part None nvm jobs more = refl
holds-part (Some bucket) nvm jobs more = refl

holds-nvm : (o : Option ℕ) (nvm : Nvm) (jobs : List Job) (more : Block) → (raise_all o (moved_to nvm jobs more)).nvm ≡ moved_to (raise_all o nvm).nvm jobs more
holds-nvm None nvm jobs more = refl
holds-nvm (Some bucket) nvm jobs more = refl

module _ (ends : FillEnds) (tells : GetTells) (gives : GetGives) (config : Config) (flash : FlashConfig) (older : List Note) (cache : Cache) (nvm : Nvm) (number : ℕ) (k : List ℕ) (first : Note) (order : Order) (losses : List Loss) (s : BigHash) where
  -- without the job, and with the small engine as it is then
  abbrev pub bare : Nvm
  bare = job_gone s number nvm

  -- what is taken, by what the large engine did
  abbrev pub went : Option Order → engine.Outcome → Block → Taken
  went o outcome new = told_before (first ∷ []) (goes_on (own number Filling order) (next_of (after_losses losses outcome) o) (record nvm { pair = record nvm.pair { small = s; large = new } }))

  -- before
  pub record Going : Type 0 where
    pub on : config.flash ≡ Some flash
    pub nvm_is : cache.nvm ≡ Some nvm
    pub good : Agrees config older cache
    pub at : job_at number nvm.jobs ≡ Some (own number Filling order)
    pub none : large_work nvm number ≡ None
    pub same : s.flash ≡ flash
    pub gone : bighash.job_at number s.jobs ≡ None
    pub unwritten : written_by k s.jobs ≡ None
    pub nowhere : small.held s (bytes_at (first ∷ older)) k ≡ None
    pub keys : AllKey number k nvm.fills
    pub over : Over config flash older first cache.memory (settled Filling (engine.outcome_of Absent losses) (job_gone s number nvm)) number Filling
    pub holding : Holding config flash older first cache.memory (holds (engine.outcome_of Nothing losses) (job_gone s number nvm)) number

  abbrev hold : Changed
  hold = holds (engine.outcome_of Nothing losses) (job_gone s number nvm)

  abbrev later : List Note
  later = past older (first ∷ (holds (engine.outcome_of Nothing losses) (job_gone s number nvm)).part)

  -- it is answered at once
  went_ended : Going → (a : Option FlashEntry) → a ≡ large.held flash (bytes_at (past older (first ∷ (settled Filling (engine.outcome_of Absent losses) (job_gone s number nvm)).part))) nvm.pair.large k
      → Keeps config older (workers.after_take (went None (record nothing { answer = answer_by a }) nvm.pair.large) cache)
  went_ended g a is =
      let answer = (answer_by a) in
      let change = settled Filling (engine.outcome_of Absent losses) (job_gone s number nvm) in
      let after = past older (first ∷ change.part) in
      let pages : bytes_at after ≡ bytes_at (first ∷ older) = settled-bytes Filling Absent losses (job_gone s number nvm) (first ∷ older) in
      let pair : change.nvm.pair ≡ bare.pair = raise-pair (bucket_lost losses) (job_gone s number nvm) in
      let fills : change.nvm.fills ≡ nvm.fills = raise-fills (bucket_lost losses) (job_gone s number nvm) in
      let nowhere : small.held s (bytes_at after) k ≡ None = ap (λ (p : Pages). small.held s p k) pages ∙ g.nowhere in
      let in_large : (large.held s.flash (bytes_at after) nvm.pair.large k) ≡ a = ap (λ (c : FlashConfig). (large.held c (bytes_at after) nvm.pair.large k)) g.same ∙ (sym is) in
      let source : found_in answer ≡ first_of (small.held change.nvm.pair.small (bytes_at after) k) (large.held change.nvm.pair.small.flash (bytes_at after) change.nvm.pair.large k) =
      found-large a ∙ sym in_large ∙ ap (λ (o : Option FlashEntry). first_of o (large.held s.flash (bytes_at after) nvm.pair.large k)) (sym nowhere)
      ∙ ap (λ (p : Pair). first_of (small.held p.small (bytes_at after) k) (large.held p.small.flash (bytes_at after) p.large k)) (sym pair) in
      let unwritten : written_by k change.nvm.pair.small.jobs ≡ None = ap (λ (p : Pair). written_by k p.small.jobs) pair ∙ g.unwritten in
      let done : Keeps config older (workers.after_take (ended_take first number answer (settled Filling (engine.outcome_of answer losses) (job_gone s number nvm))) cache) =
      fill_ended ends config flash older cache nvm number k first (settled Filling (engine.outcome_of answer losses) (job_gone s number nvm)) answer g.on g.nvm_is g.good fills g.over g.keys unwritten source in
      subst (λ (ls : List Loss). Keeps config older (workers.after_take (ended_take first number answer (settled Filling (engine.outcome_of answer ls) (job_gone s number nvm))) cache)) (sym (append-nil losses)) done

  -- it reads
  went_reads : Going → LargeKeeps config flash later [] nvm.pair.large (steps.get flash number k nvm.pair.large).state → OthersStay (but number) nvm.pair.large (steps.get flash number k nvm.pair.large).state
      → (h : List Note) → (r : GetReads flash h number k nvm.pair.large (steps.get flash number k nvm.pair.large))
      → Keeps config older (workers.after_take (went (Some (Read (read_page flash r.page.reading))) nothing (steps.get flash number k nvm.pair.large).state) cache)
  went_reads g keeps others h r =
      let new = (steps.get flash number k nvm.pair.large).state in
      let page = read_page flash r.page.reading in
      let o = bucket_lost losses in
      let jobs = ordered number (Read page) nvm.jobs in
      let b = before-good config flash older cache nvm g.on g.nvm_is g.good in
      let pair : hold.nvm.pair ≡ bare.pair = raise-pair o (job_gone s number nvm) in
      let fills : hold.nvm.fills ≡ nvm.fills = raise-fills o (job_gone s number nvm) in
      let same_jobs : hold.nvm.jobs ≡ without_job number nvm.jobs = raise-jobs o (job_gone s number nvm) in
      let made : hold.nvm.made ≡ nvm.made = raise-made o (job_gone s number nvm) in
      let pages : bytes_at later ≡ bytes_at (first ∷ older) = holds-bytes Nothing losses (job_gone s number nvm) (first ∷ older) in
      let start : Launch config flash later (unmarked_by (first ∷ hold.part) cache.memory) hold.nvm nvm.jobs number order new r.page.reading k = record {
        jobs_are = same_jobs;
        at = g.at;
        one = b.good.jobs.one;
        fresh = λ n l. b.good.jobs.fresh n (subst (λ (m : ℕ). m < n) made l);
        one_writer = b.good.waits.one_writer;
        gone = ap (λ (p : Pair). bighash.job_at number p.small.jobs) pair ∙ g.gone;
        keeps = rw pair keeps;
        others = rw pair others;
        work = r.page.work;
        key = r.page.key_is;
        leads = r.leads;
        keys = rw fills g.keys;
        unwritten = ap (λ (p : Pair). written_by k p.small.jobs) pair ∙ g.unwritten;
        nowhere = ap (λ (p : Pair). small.held p.small (bytes_at later) k) pair ∙ ap (λ (p : Pages). small.held s p k) pages ∙ g.nowhere;
      } in
      let after = launch config flash later (unmarked_by (first ∷ hold.part) cache.memory) hold.nvm nvm.jobs number order new r.page.reading k start g.holding.ending in
      let part = holds-part o (job_gone s number nvm) jobs new in
      let where_to = holds-nvm o (job_gone s number nvm) jobs new in
      let taken : List Loss → Taken = λ ls. told_before (first ∷ []) (takes (Work number (Read page)) (holds (engine.outcome_of Nothing ls) (moved_to (job_gone s number nvm) jobs new))) in
      let same_part : (taken losses).part ≡ first ∷ hold.part = ap (λ (p : List Note). first ∷ (loss_notes losses ++ p)) part in
      let done : Keeps config older (workers.after_take (taken losses) cache) =
      keeps-going config flash older cache nvm (taken losses) g.on g.nvm_is g.good refl (ap (λ (n : Nvm). n.fills) where_to ∙ fills) (subst (AllSmall flash) (sym same_part) g.holding.small) (subst (Lawful config older) (sym same_part) g.holding.lawful)
      (subst (λ (p : List Note). Before config flash (past older p) (unmarked_by p cache.memory) (taken losses).nvm) (sym same_part) (subst (λ (n : Nvm). Before config flash (past older (first ∷ hold.part)) (unmarked_by (first ∷ hold.part) cache.memory) n) (sym where_to) after)) in
      subst (λ (ls : List Loss). Keeps config older (workers.after_take (taken ls) cache)) (sym (append-nil losses)) done

  -- whichever it does
  pub went_keeps : Going → Keeps config older (workers.after_take (went (steps.get nvm.pair.small.flash number k nvm.pair.large).order (steps.get nvm.pair.small.flash number k nvm.pair.large).outcome (steps.get nvm.pair.small.flash number k nvm.pair.large).state) cache)
  went_keeps g =
      let b = before-good config flash older cache nvm g.on g.nvm_is g.good in
      let e = b.good.engines in
      let some : 0 < nvm.pair.small.flash.page = omega (arith, e.small_fits.limits.least_page) in
      let page : 0 < flash.page = subst (λ (c : FlashConfig). 0 < c.page) e.same some in
      let free = free_of number nvm.pair.large.jobs g.none in
      let o = bucket_lost losses in
      let after = past older (first ∷ (settled Filling (engine.outcome_of Absent losses) (job_gone s number nvm)).part) in
      let fits : LargeFits flash after nvm.pair.large = subst (λ (p : Pair). LargeFits flash after p.large) (raise-pair o (job_gone s number nvm)) (large-fits flash after (settled Filling (engine.outcome_of Absent losses) (job_gone s number nvm)).nvm g.over.ending.engines) in
      let later_fits : LargeFits flash later nvm.pair.large = subst (λ (p : Pair). LargeFits flash later p.large) (raise-pair o (job_gone s number nvm)) (large-fits flash later hold.nvm g.holding.ending.engines) in
      let given = gives flash after number k nvm.pair.large page free fits in
      let told = tells config flash later number k nvm.pair.large g.on page free later_fits in
      subst (λ (c : FlashConfig). Keeps config older (workers.after_take (went (steps.get c number k nvm.pair.large).order (steps.get c number k nvm.pair.large).outcome (steps.get c number k nvm.pair.large).state) cache)) (sym e.same) (go given.1 told given.0)
    where
      go : GetReads flash (past older (first ∷ (settled Filling (engine.outcome_of Absent losses) (job_gone s number nvm)).part)) number k nvm.pair.large (steps.get flash number k nvm.pair.large)
          ⊎ (steps.get flash number k nvm.pair.large ≡ finished nvm.pair.large (record nothing { answer = answer_by (large.held flash (bytes_at (past older (first ∷ (settled Filling (engine.outcome_of Absent losses) (job_gone s number nvm)).part))) nvm.pair.large k) }))
          → LargeKeeps config flash later [] nvm.pair.large (steps.get flash number k nvm.pair.large).state → OthersStay (but number) nvm.pair.large (steps.get flash number k nvm.pair.large).state
          → Keeps config older (workers.after_take (went (steps.get flash number k nvm.pair.large).order (steps.get flash number k nvm.pair.large).outcome (steps.get flash number k nvm.pair.large).state) cache)
      go (inl r) keeps others =
          let new = (steps.get flash number k nvm.pair.large).state in
          subst (λ (o : Option Order). Keeps config older (workers.after_take (went o (steps.get flash number k nvm.pair.large).outcome new) cache)) (sym r.page.order)
          (subst (λ (c : engine.Outcome). Keeps config older (workers.after_take (went (Some (Read (read_page flash r.page.reading))) c new) cache)) (sym r.page.outcome) (went_reads g keeps others (past older (first ∷ (settled Filling (engine.outcome_of Absent losses) (job_gone s number nvm)).part)) r))
      go (inr e) keeps others =
          subst (λ (m : Moved). Keeps config older (workers.after_take (went m.order m.outcome m.state) cache)) (sym e)
          (went_ended g (large.held flash (bytes_at (past older (first ∷ (settled Filling (engine.outcome_of Absent losses) (job_gone s number nvm)).part))) nvm.pair.large k) refl)
