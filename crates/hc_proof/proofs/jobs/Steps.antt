-- Each step of regions keeps the invariant.
use Rattle.std.proofs.Common.{◌≡◌, ℕ, ◌+◌, ◌==◌, Bool, true, false, List, [], ◌∷◌, ◌++◌, Option, Some, None, refl, sym, ap, arith, ◌∙◌, subst, append-nil, inl, inr}
use Rattle.std.proofs.lemmas.Bool.{eqb-true}
use Rattle.std.specs.Prelude.{if◌then◌else◌, option_map, ◌⊎◌}
use Rattle.hc_types.specs.Config.{Config}
use Rattle.hc_engines.specs.Engine as engine
use Rattle.hc_engines.specs.Engine.{Order, Write, IoResult, Page, Written, Failed, Io, nothing}
use Rattle.hc_engines.specs.large.Region.{region_at, page_no}
use Rattle.hc_engines.specs.large.Block as block
use Rattle.hc_engines.specs.large.Block.{Block, Writing, work_of, finished}
use Rattle.hc_engines.specs.large.Laws.{IsFree, written_page}
use Rattle.hc_engines.specs.large.Steps as steps
use Rattle.hc_engines.proofs.large.Jobs.{free_of}
use Rattle.hc_history.specs.Note.{Note, Wrote}
use Rattle.hc_history.specs.Pages.{bytes_at}
use Rattle.hc_engines.specs.pair.Pair as pairs
use Rattle.hc_engines.specs.pair.Pair.{by_large, next_of}
use Rattle.hc_machine.specs.Nvm.{Nvm, Flushing, Job, job_at, without_job, ordered}
use Rattle.hc_machine.specs.Leaving.{Changed, changed}
use Rattle.hc_machine.specs.Takes as takes
use Rattle.hc_machine.specs.Takes.{Take, Work as TheWork, Finished, Taken, result_note, reclaimed_by}
use Rattle.hc_machine.specs.Cache.{Cache}
use Rattle.hc_machine.specs.Workers as workers
use Rattle.hc_machine.specs.Workers.{after_take, after_finish, after_reclaim}
use Rattle.hc_invariant.specs.Jobs.{Brings, small_job, large_work}
use Rattle.hc_invariant.specs.Good.{Agrees, fills_of, OneFlush, Good}
use Rattle.hc_invariant.specs.Laws.{ReclaimKeeps}
use Rattle.hc_proof.specs.books.RegionBooks.{LargeKeeps, OthersStay, but, each, told, WritesPage, IsOver, FlushTells, FlushGives, WrittenTells, WrittenGives, FailedWriteTells, FailedWriteGives, ReclaimTells, ReclaimGives}
use Rattle.hc_proof.specs.jobs.RegionSteps.{KeptMore, KeepsMore, ReclaimKeepsMore, FinishFlushKeeps, FinishFlushKeepsMore, WriterFlushKeepsMore}
use Rattle.hc_proof.proofs.jobs.LargeJobs.{with_large, Writes, writes_of, jobs_stay, jobs_over, jobs_on, jobs_come, writes_on}
use Rattle.hc_proof.proofs.jobs.FillsStand.{writer_idle, nobody_idle}
use Rattle.hc_proof.proofs.jobs.LargeFrame.{moved_to, opened, large_fits, RegionStep, region_keeps}
use Rattle.hc_proof.proofs.jobs.ToldParts.{Plain, reclaim_plain, failed_plain, written_plain, told_of_regions, page_up, settled_is, rested_after}

-- ---- all steps

kept_by : (config : Config) (older part : List Note) (cache : Cache) (nvm : Nvm) (new : Block) (jobs : List Job) (made : ℕ) (others : ℕ → Bool) → cache.nvm ≡ Some nvm → Agrees config older cache → RegionStep config older part nvm new jobs made others
    → KeptMore config older cache part (moved_to part (with_large new jobs made nvm) cache)
kept_by config older part cache nvm new jobs made others n g step = record {
  steady = region_keeps config older part cache nvm new jobs made others n g step;
  once = step.keeps.once;
  rested = λ flash key. rested_after nvm.pair.small.flash flash older part key step.notes;
  fills = ap fills_of (sym n);
}

-- nothing happens
still : (config : Config) (older : List Note) (cache : Cache) → Agrees config older cache → KeptMore config older cache [] cache
still config older cache g = record { steady = record { lawful = tt; good = g }; once = λ o. o; rested = λ flash key h. h; fills = refl }

-- what a take leaves, where no fill ended
take_kept : (config : Config) (older part : List Note) (cache : Cache) (nvm : Nvm) (take : Take) → KeptMore config older cache part (moved_to part nvm cache) → KeepsMore config older cache (after_take (record { nvm = nvm; take = take; part = part; filled = None }) cache)
take_kept config older part cache nvm take h = subst (λ (p : List Note). KeptMore config older cache p (moved_to part nvm cache)) (sym (append-nil part)) h

-- ---- reclaim

module _ (tells : ReclaimTells) (gives : ReclaimGives) (config : Config) (older : List Note) (cache : Cache) (nvm : Nvm) (n : cache.nvm ≡ Some nvm) (once : OneFlush older) (g : Agrees config older cache) where
  reclaim_step : RegionStep config older (told (steps.reclaim nvm.pair.small.flash nvm.pair.large).outcome) nvm (steps.reclaim nvm.pair.small.flash nvm.pair.large).state nvm.jobs nvm.made each
  reclaim_step =
      let o = opened config older cache nvm n g in
      let fits = large_fits nvm.pair.small.flash older cache.memory nvm o.good in
      let others = gives nvm.pair.small.flash older nvm.pair.large fits in
      record {
        notes = told_of_regions nvm.pair.small.flash (steps.reclaim nvm.pair.small.flash nvm.pair.large).outcome (reclaim_plain nvm.pair.small.flash nvm.pair.large);
        keeps = tells config nvm.pair.small.flash older nvm.pair.large o.flash_is once fits;
        works = others.works;
        goes = jobs_stay nvm (steps.reclaim nvm.pair.small.flash nvm.pair.large).state others o.good.jobs;
        moved = λ l key number e. absurd (cc);
      }

  reclaim_by : (region : Option ℕ) → KeepsMore config older cache (after_reclaim (reclaimed_by region (steps.reclaim nvm.pair.small.flash nvm.pair.large) nvm) cache)
  reclaim_by (Some r) =
      subst (λ (change : Changed). KeptMore config older cache change.part (moved_to change.part change.nvm cache)) (sym (settled_is (steps.reclaim nvm.pair.small.flash nvm.pair.large).outcome (with_large (steps.reclaim nvm.pair.small.flash nvm.pair.large).state nvm.jobs nvm.made nvm) (reclaim_plain nvm.pair.small.flash nvm.pair.large)))
      (kept_by config older (told (steps.reclaim nvm.pair.small.flash nvm.pair.large).outcome) cache nvm (steps.reclaim nvm.pair.small.flash nvm.pair.large).state nvm.jobs nvm.made each n g reclaim_step)
  reclaim_by None = subst (λ (x : Cache). KeptMore config older cache [] x) (λ i. record cache { nvm = n i }) (still config older cache g)

pub reclaim_keeps_more : ReclaimTells → ReclaimGives → ReclaimKeepsMore
reclaim_keeps_more tells gives config older cache g = go cache.nvm refl
  where
    go : (nvm : Option Nvm) → cache.nvm ≡ nvm → KeepsMore config older cache (workers.reclaim_on nvm cache)
    go None n = still config older cache g.agrees
    go (Some nvm) n = reclaim_by tells gives config older cache nvm n g.one_flush g.agrees (steps.reclaim nvm.pair.small.flash nvm.pair.large).outcome.reclaimed

pub reclaim_keeps : ReclaimTells → ReclaimGives → ReclaimKeeps Good Agrees
reclaim_keeps tells gives config older cache g = (reclaim_keeps_more tells gives config older cache g).steady

-- ---- the writer takes a page

pub but_false : (number n : ℕ) → but number n ≡ false → n ≡ number
but_false number n h = go (n == number) refl h
  where
    go : (t : Bool) → (n == number) ≡ t → (if t then false else true) ≡ false → n ≡ number
    go true t h = eqb-true n number t
    go false t h = absurd (cc)

module _ (tells : FlushTells) (gives : FlushGives) (config : Config) (older : List Note) (cache : Cache) (nvm : Nvm) (n : cache.nvm ≡ Some nvm) (g : Agrees config older cache) where
  flush_taken : (moved : block.Moved) → moved ≡ steps.flush nvm.pair.small.flash (nvm.made + 1) nvm.pair.large → WritesPage nvm.pair.small.flash (nvm.made + 1) moved
      → KeepsMore config older cache (after_take (takes.take_page (by_large nvm.pair [] moved) nvm) cache)
  flush_taken moved e w =
      let o = opened config older cache nvm n g in
      let fits = large_fits nvm.pair.small.flash older cache.memory nvm o.good in
      let none_there = o.good.jobs.fresh (nvm.made + 1) (omega arith) in
      let free : IsFree (nvm.made + 1) nvm.pair.large = free_of (nvm.made + 1) nvm.pair.large.jobs (o.good.jobs.large_ones (nvm.made + 1) none_there) in
      let order = Write (written_page nvm.pair.small.flash w.region moved.state) w.bytes in
      let others : OthersStay (but (nvm.made + 1)) nvm.pair.large moved.state = subst (λ (m : block.Moved). OthersStay (but (nvm.made + 1)) nvm.pair.large m.state) (sym e) (gives nvm.pair.small.flash older (nvm.made + 1) nvm.pair.large free fits).0 in
      rw (w.order, w.outcome) (take_kept config older [] cache (with_large moved.state (nvm.jobs ++ record { number = nvm.made + 1; task = Flushing; order = order } ∷ []) (nvm.made + 1) nvm) (TheWork (nvm.made + 1) order)
      (kept_by config older [] cache nvm moved.state (nvm.jobs ++ record { number = nvm.made + 1; task = Flushing; order = order } ∷ []) (nvm.made + 1) (but (nvm.made + 1)) n g (record {
        notes = tt;
        keeps = subst (λ (m : block.Moved). LargeKeeps config nvm.pair.small.flash older [] nvm.pair.large m.state) (sym e) (tells config nvm.pair.small.flash older (nvm.made + 1) nvm.pair.large o.flash_is free fits);
        works = others.works;
        goes = jobs_come nvm moved.state others Flushing order (Writing w.region w.bytes) (λ key. refl) w.work refl o.good.jobs;
        moved = λ l key number f b. absurd (let same : number ≡ nvm.made + 1 = but_false (nvm.made + 1) number f in
            nobody_idle (bytes_at older) nvm key (small_job nvm number) (large_work nvm number) (rw same (o.good.jobs.small_ones (nvm.made + 1) none_there)) (rw same (o.good.jobs.large_ones (nvm.made + 1) none_there)) b);
      })))

  flush_by : (order : Order) (outcome : engine.Outcome) → (by_large nvm.pair [] (steps.flush nvm.pair.small.flash (nvm.made + 1) nvm.pair.large)).next ≡ Io order outcome
      → (WritesPage nvm.pair.small.flash (nvm.made + 1) (steps.flush nvm.pair.small.flash (nvm.made + 1) nvm.pair.large) ⊎ (steps.flush nvm.pair.small.flash (nvm.made + 1) nvm.pair.large ≡ finished nvm.pair.large nothing))
      → KeepsMore config older cache (after_take (takes.writer_take nvm) cache)
  flush_by order outcome e (inl w) = flush_taken (steps.flush nvm.pair.small.flash (nvm.made + 1) nvm.pair.large) refl w
  flush_by order outcome e (inr none) = absurd (let f : (by_large nvm.pair [] (finished nvm.pair.large nothing)).next ≡ Io order outcome = ap (λ m. (by_large nvm.pair [] m).next) (sym none) ∙ e in cc)

pub writer_flush_keeps_more : FlushTells → FlushGives → WriterFlushKeepsMore
writer_flush_keeps_more tells gives config older cache nvm order outcome n e g =
    let o = opened config older cache nvm n g in
    let none_there = o.good.jobs.fresh (nvm.made + 1) (omega arith) in
    let free : IsFree (nvm.made + 1) nvm.pair.large = free_of (nvm.made + 1) nvm.pair.large.jobs (o.good.jobs.large_ones (nvm.made + 1) none_there) in
    subst (λ (x : Option Nvm). KeepsMore config older cache (workers.take_on x takes.writer_take cache)) (sym n)
    (flush_by tells gives config older cache nvm n g order outcome e (gives nvm.pair.small.flash older (nvm.made + 1) nvm.pair.large free (large_fits nvm.pair.small.flash older cache.memory nvm o.good)).1)

-- ---- a result of a write

-- what a result of the write of a region's page comes to
finish_is : (nvm : Nvm) (number : ℕ) (job : Job) (result : IoResult) → job_at number nvm.jobs ≡ Some job → (w : Writes nvm number job)
    → takes.finish number result nvm ≡ option_map (takes.resumed job result nvm) (pairs.resume_work number result nvm.pair (Writing w.region w.bytes))
finish_is nvm number job result at w =
    ap (λ o. takes.finish_job o result nvm) at
    ∙ ap (λ k. option_map (takes.resumed job result nvm) (pairs.resume k result nvm.pair)) w.large.number_is
    ∙ ap (λ o. option_map (takes.resumed job result nvm) (pairs.resume_in number result nvm.pair o)) w.large.small
    ∙ ap (λ o. option_map (takes.resumed job result nvm) (pairs.resume_large number result nvm.pair o)) w.large.there

-- the write is over
over_is : (nvm : Nvm) (number : ℕ) (job : Job) (result : IoResult) (moved : block.Moved) → job.number ≡ number → job.task ≡ Flushing → moved.order ≡ None → Plain moved.outcome
    → takes.resumed job result nvm (by_large nvm.pair [] moved) ≡ record { nvm = with_large moved.state (without_job number nvm.jobs) nvm.made nvm; take = Finished; part = result_note job.order result ∷ told moved.outcome; filled = None }
over_is nvm number job result moved same flush order plain =
    ap (λ o. takes.told_before (result_note job.order result ∷ []) (takes.goes_on job (next_of moved.outcome o) (record nvm { pair = record nvm.pair { large = moved.state } }))) order
    ∙ ap (λ k. takes.told_before (result_note job.order result ∷ []) (takes.ends k job.task moved.outcome (with_large moved.state (without_job k nvm.jobs) nvm.made nvm))) same
    ∙ ap (λ task. takes.told_before (result_note job.order result ∷ []) (takes.ends number task moved.outcome (with_large moved.state (without_job number nvm.jobs) nvm.made nvm))) flush
    ∙ ap (λ (change : Changed). takes.told_before (result_note job.order result ∷ []) (takes.takes Finished change)) (settled_is moved.outcome (with_large moved.state (without_job number nvm.jobs) nvm.made nvm) plain)

-- the write goes on with the next page
on_is : (nvm : Nvm) (number : ℕ) (job : Job) (result : IoResult) (moved : block.Moved) (page : ℕ) (bytes : List ℕ) → job.number ≡ number → moved.order ≡ Some (Write page bytes) → moved.outcome ≡ nothing
    → takes.resumed job result nvm (by_large nvm.pair [] moved) ≡ record { nvm = with_large moved.state (ordered number (Write page bytes) nvm.jobs) nvm.made nvm; take = TheWork number (Write page bytes); part = result_note job.order result ∷ []; filled = None }
on_is nvm number job result moved page bytes same order none =
    ap (λ o. takes.told_before (result_note job.order result ∷ []) (takes.goes_on job (next_of moved.outcome o) (record nvm { pair = record nvm.pair { large = moved.state } }))) order
    ∙ ap (λ outcome. takes.told_before (result_note job.order result ∷ []) (takes.goes_on job (Io (Write page bytes) outcome) (record nvm { pair = record nvm.pair { large = moved.state } }))) none
    ∙ ap (λ k. takes.told_before (result_note job.order result ∷ []) (takes.takes (TheWork k (Write page bytes)) (changed [] (with_large moved.state (ordered k (Write page bytes) nvm.jobs) nvm.made nvm)))) same

module _ (config : Config) (older : List Note) (cache : Cache) (nvm : Nvm) (n : cache.nvm ≡ Some nvm) (g : Agrees config older cache) (number : ℕ) (job : Job) (at : job_at number nvm.jobs ≡ Some job) (flush : job.task ≡ Flushing) (w : Writes nvm number job) where
  busy_brings : (key : List ℕ) (k : ℕ) → but number k ≡ false → Brings (bytes_at older) nvm key (small_job nvm k) (large_work nvm k) → ⊥
  busy_brings key k f =
      let same : k ≡ number = but_false number k f in
      writer_idle (bytes_at older) nvm key w.region w.bytes (small_job nvm k) (large_work nvm k) (rw same w.large.small) (rw same w.large.there)

  over_kept : (result : IoResult) (done : Bool) (moved : block.Moved) → result_note (Write (page_no nvm.pair.small.flash w.region (region_at w.region nvm.pair.large.regions).written) w.bytes) result ≡ Wrote (page_no nvm.pair.small.flash w.region (region_at w.region nvm.pair.large.regions).written) w.bytes done
      → Plain moved.outcome → OthersStay (but number) nvm.pair.large moved.state → IsOver number moved
      → LargeKeeps config nvm.pair.small.flash older (Wrote (page_no nvm.pair.small.flash w.region (region_at w.region nvm.pair.large.regions).written) w.bytes done ∷ told moved.outcome) nvm.pair.large moved.state
      → KeepsMore config older cache (after_take (takes.resumed job result nvm (by_large nvm.pair [] moved)) cache)
  over_kept result done moved note plain others over keeps =
      let o = opened config older cache nvm n g in
      let part = Wrote (page_no nvm.pair.small.flash w.region (region_at w.region nvm.pair.large.regions).written) w.bytes done ∷ told moved.outcome in
      let new = with_large moved.state (without_job number nvm.jobs) nvm.made nvm in
      let told_first : result_note job.order result ≡ Wrote (page_no nvm.pair.small.flash w.region (region_at w.region nvm.pair.large.regions).written) w.bytes done = ap (λ order. result_note order result) w.order ∙ note in
      let taken : takes.resumed job result nvm (by_large nvm.pair [] moved) ≡ record { nvm = new; take = Finished; part = part; filled = None } =
      over_is nvm number job result moved w.large.number_is flush over.order plain ∙ ap (λ (first : Note). record { nvm = new; take = Finished; part = first ∷ told moved.outcome; filled = None }) told_first in
      subst (λ (t : Taken). KeepsMore config older cache (after_take t cache)) (sym taken) (take_kept config older part cache new Finished
      (kept_by config older part cache nvm moved.state (without_job number nvm.jobs) nvm.made (but number) n g (record {
        notes = (page_up nvm.pair.small.flash w.region (region_at w.region nvm.pair.large.regions).written, told_of_regions nvm.pair.small.flash moved.outcome plain);
        keeps = keeps;
        works = others.works;
        goes = jobs_over nvm number job (Writing w.region w.bytes) w.large moved.state others over.work o.good.jobs;
        moved = λ l key k f b. absurd (busy_brings key k f b);
      })))

  on_kept : (moved : block.Moved) → OthersStay (but number) nvm.pair.large moved.state → WritesPage nvm.pair.small.flash number moved
      → LargeKeeps config nvm.pair.small.flash older (Wrote (page_no nvm.pair.small.flash w.region (region_at w.region nvm.pair.large.regions).written) w.bytes true ∷ told moved.outcome) nvm.pair.large moved.state
      → KeepsMore config older cache (after_take (takes.resumed job Written nvm (by_large nvm.pair [] moved)) cache)
  on_kept moved others next keeps =
      let o = opened config older cache nvm n g in
      let order = Write (written_page nvm.pair.small.flash next.region moved.state) next.bytes in
      let part = Wrote (page_no nvm.pair.small.flash w.region (region_at w.region nvm.pair.large.regions).written) w.bytes true ∷ [] in
      let new = with_large moved.state (ordered number order nvm.jobs) nvm.made nvm in
      let taken : takes.resumed job Written nvm (by_large nvm.pair [] moved) ≡ record { nvm = new; take = TheWork number order; part = part; filled = None } =
      on_is nvm number job Written moved (written_page nvm.pair.small.flash next.region moved.state) next.bytes w.large.number_is next.order next.outcome
      ∙ ap (λ (o : Order). record { nvm = new; take = TheWork number order; part = result_note o Written ∷ []; filled = None }) w.order in
      subst (λ (t : Taken). KeepsMore config older cache (after_take t cache)) (sym taken) (take_kept config older part cache new (TheWork number order)
      (kept_by config older part cache nvm moved.state (ordered number order nvm.jobs) nvm.made (but number) n g (record {
        notes = (page_up nvm.pair.small.flash w.region (region_at w.region nvm.pair.large.regions).written, tt);
        keeps = rw next.outcome at keeps;
        works = others.works;
        goes = jobs_on nvm number job (Writing w.region w.bytes) w.large moved.state others order at (Writing next.region next.bytes) next.work (writes_on nvm moved.state (ordered number order nvm.jobs) nvm.made w.region next.region w.bytes next.bytes) o.good.jobs;
        moved = λ l key k f b. absurd (busy_brings key k f b);
      })))

module _ (written : WrittenTells) (goes : WrittenGives) (failed : FailedWriteTells) (fails : FailedWriteGives) (config : Config) (older : List Note) (cache : Cache) (nvm : Nvm) (n : cache.nvm ≡ Some nvm) (g : Agrees config older cache)
    (number : ℕ) (job : Job) (at : job_at number nvm.jobs ≡ Some job) (flush : job.task ≡ Flushing) where
  by_result : (result : IoResult) (w : Writes nvm number job) → KeepsMore config older cache (after_finish (option_map (takes.resumed job result nvm) (pairs.resume_work number result nvm.pair (Writing w.region w.bytes))) cache)
  by_result (Page read) w = still config older cache g
  by_result Failed w =
      let o = opened config older cache nvm n g in
      let fits = large_fits nvm.pair.small.flash older cache.memory nvm o.good in
      let both = fails nvm.pair.small.flash older number w.region w.bytes nvm.pair.large w.large.there fits in
      over_kept config older cache nvm n g number job at flush w Failed false (steps.resume nvm.pair.small.flash number (Writing w.region w.bytes) Failed nvm.pair.large) refl
      (failed_plain nvm.pair.small.flash number w.region w.bytes nvm.pair.large) both.0 both.1 (failed config nvm.pair.small.flash older number w.region w.bytes nvm.pair.large o.flash_is w.large.there fits)
  by_result Written w =
      let o = opened config older cache nvm n g in
      let fits = large_fits nvm.pair.small.flash older cache.memory nvm o.good in
      let both = goes nvm.pair.small.flash older number w.region w.bytes nvm.pair.large w.large.there fits in
      let keeps = written config nvm.pair.small.flash older number w.region w.bytes nvm.pair.large o.flash_is w.large.there fits in
      ends both.0 both.1 keeps
    where
      ends : OthersStay (but number) nvm.pair.large (steps.resume nvm.pair.small.flash number (Writing w.region w.bytes) Written nvm.pair.large).state
          → (WritesPage nvm.pair.small.flash number (steps.resume nvm.pair.small.flash number (Writing w.region w.bytes) Written nvm.pair.large) ⊎ IsOver number (steps.resume nvm.pair.small.flash number (Writing w.region w.bytes) Written nvm.pair.large))
          → LargeKeeps config nvm.pair.small.flash older (Wrote (written_page nvm.pair.small.flash w.region nvm.pair.large) w.bytes true ∷ told (steps.resume nvm.pair.small.flash number (Writing w.region w.bytes) Written nvm.pair.large).outcome) nvm.pair.large
          (steps.resume nvm.pair.small.flash number (Writing w.region w.bytes) Written nvm.pair.large).state
          → KeepsMore config older cache (after_take (takes.resumed job Written nvm (by_large nvm.pair [] (steps.resume nvm.pair.small.flash number (Writing w.region w.bytes) Written nvm.pair.large))) cache)
      ends others (inl next) keeps = on_kept config older cache nvm n g number job at flush w (steps.resume nvm.pair.small.flash number (Writing w.region w.bytes) Written nvm.pair.large) others next keeps
      ends others (inr over) keeps =
          over_kept config older cache nvm n g number job at flush w Written true (steps.resume nvm.pair.small.flash number (Writing w.region w.bytes) Written nvm.pair.large) refl
          (written_plain nvm.pair.small.flash number w.region w.bytes nvm.pair.large) others over keeps

pub finish_flush_keeps_more : WrittenTells → WrittenGives → FailedWriteTells → FailedWriteGives → FinishFlushKeepsMore
finish_flush_keeps_more written goes failed fails config older cache number result nvm job n at flush g =
    let o = opened config older cache nvm n g in
    let w = writes_of nvm number job o.good.jobs at flush in
    subst (λ (x : Option Nvm). KeepsMore config older cache (workers.finish_on x number result cache)) (sym n)
    (subst (λ (t : Option Taken). KeepsMore config older cache (after_finish t cache)) (sym (finish_is nvm number job result at w)) (by_result written goes failed fails config older cache nvm n g number job at flush result w))

pub finish_flush_keeps : WrittenTells → WrittenGives → FailedWriteTells → FailedWriteGives → FinishFlushKeeps
finish_flush_keeps written goes failed fails config older cache number result nvm job n at flush g honest = (finish_flush_keeps_more written goes failed fails config older cache number result nvm job n at flush g).steady
