-- The finish of a get that reads a page of a region.
use Rattle.std.proofs.Common.{◌≡◌, ◌⊎◌, inl, inr, ℕ, ◌+◌, ◌<◌, ◌≤◌, Bool, true, false, List, [], ◌∷◌, ◌++◌, Option, Some, None, refl, sym, ap, arith, ◌∙◌, subst, append-nil, eqb-true}
use Rattle.std.specs.Prelude.{if◌then◌else◌, option_map}
use Rattle.std.specs.Str.{bytes_eq}
use Rattle.hc_types.specs.Config.{Config}
use Rattle.hc_types.specs.Loss as loss
use Rattle.hc_types.specs.Places.{kept_of}
use Rattle.hc_types.specs.Tally.{count}
use Rattle.hc_types.specs.declared.config.FlashConfig.{FlashConfig}
use Rattle.hc_types.specs.FlashEntry.{FlashEntry}
use Rattle.hc_engines.specs.Engine as engine
use Rattle.hc_engines.specs.large.Block as block
use Rattle.hc_engines.specs.large.Block.{Block, Getting, work_of}
use Rattle.hc_engines.specs.large.Region.{page_no}
use Rattle.hc_engines.specs.large.Index.{place_at, is_place}
use Rattle.hc_engines.specs.large.Fits.{answer_by}
use Rattle.hc_engines.specs.large.Held as large
use Rattle.hc_engines.specs.large.Steps as steps
use Rattle.hc_engines.specs.Engine.{Order, Read, IoResult, Page, Failed, Written, Pages}
use Rattle.hc_engines.specs.small.Held as small
use Rattle.hc_engines.proofs.small.Apart.{kept_by_others}
use Rattle.hc_engines.proofs.large.HeldKeys.{held_own}
use Rattle.hc_machine.proofs.items.Items.{bytes_eq-refl}
use Rattle.hc_history.specs.Note.{Note, Read as WasRead}
use Rattle.hc_history.specs.Pages.{bytes_at}
use Rattle.hc_history.specs.Regions.{put_under_way, is_put_of}
use Rattle.hc_history.specs.Lawful.{Lawful, past}
use Rattle.hc_history.proofs.Appended.{past-append, Lawful-append}
use Rattle.hc_engines.specs.pair.Pair as pairs
use Rattle.hc_engines.specs.pair.Pair.{by_large}
use Rattle.hc_machine.specs.Nvm.{Nvm, Fill, Filling, Job, job_at, without_job, without_fill, ordered, fill_by, fill_at, is_fill_of, is_number_in}
use Rattle.hc_machine.specs.Leaving.{changed}
use Rattle.hc_machine.specs.Takes as takes
use Rattle.hc_machine.specs.Takes.{Take, Work as TheWork, Finished, Taken, found_in, fill_out, result_note}
use Rattle.hc_machine.specs.Cache.{Cache, unmarked_by}
use Rattle.hc_machine.specs.Workers as workers
use Rattle.hc_machine.specs.Workers.{after_take, after_finish, fill}
use Rattle.hc_machine.specs.World.{order_in}
use Rattle.hc_invariant.specs.Jobs.{Brings, BringsIf, JobsRun, small_job, large_work}
use Rattle.hc_invariant.specs.Good.{Agrees, IsResult}
use Rattle.hc_invariant.specs.Laws.{Steady, Keeps}
use Rattle.hc_theorem.specs.fills.Filling.{Ends, FillEnds}
use Rattle.hc_theorem.specs.fills.Finishing.{FinishReadKeeps}
use Rattle.hc_proof.specs.calls.Planting.{RestsFrom}
use Rattle.hc_proof.specs.books.RegionBooks.{LargeKeeps, OthersStay, but, loses, told, IsOver, GoesOnReading, ReadIsOver, ReadTells, ReadGives, FailedReadTells, FailedReadGives}
use Rattle.hc_theorem.proofs.fills.FillLeaves.{holds_at, fill_over}
use Rattle.hc_proof.proofs.jobs.LargeJobs.{with_large, LargeJob, Reads, reads_of, reads_on, jobs_over, jobs_on}
use Rattle.hc_theorem.proofs.fills.ReadNotes.{good_read, keeps_behind, finish_is, over_is, on_is, orphan_none, brought_it, none_loses, hash_loses}
use Rattle.hc_theorem.proofs.fills.Refill.{rejob, rejob_without, rejob_found, fewer_brought, none_brought, refilled, good_rejob}
use Rattle.hc_proof.proofs.jobs.ToldParts.{Plain, told_of_regions, rested_after}
use Rattle.hc_theorem.proofs.fills.ReadParts.{read_plain, failed_read_plain}
use Rattle.hc_proof.proofs.jobs.LargeFrame.{moved_to, opened, large_fits, RegionStep, region_keeps, RegionApart, apart_keeps}
use Rattle.hc_proof.proofs.jobs.FillsStand.{brings_next}
use Rattle.hc_proof.proofs.jobs.Steps.{but_false}

-- ---- one part, and then another

pub steady_join : (config : Config) (older part more : List Note) (cache : Cache) → Lawful config older part → Steady config (past older part) more cache → Steady config older (part ++ more) cache
steady_join config older part more cache l s = record {
  lawful = Lawful-append config older part more l s.lawful;
  good = subst (λ (h : List Note). Agrees config h cache) (sym (past-append older part more)) s.good;
}

-- ---- what the large engine holds has its key

pub found_key : (flash : FlashConfig) (pages : Pages) (s : Block) (key : List ℕ) (found : Option FlashEntry) (e : FlashEntry) → found ≡ large.held flash pages s key → found ≡ Some e → e.key ≡ key
found_key flash pages s key found e is some = held_own flash pages s key e (sym is ∙ some)

-- ---- the fill that a job brings is that of its key

pub found_by_key : (number : ℕ) (fills : List Fill) (fill : Fill) → fill_by number fills ≡ Some fill → ((key : List ℕ) → count (is_fill_of key) fills ≤ 1) → fill_at fill.key fills ≡ Some fill
found_by_key number [] fill e one = absurd cc
found_by_key number (x ∷ fills) fill e one = step (is_number_in number x.job) e (λ f. found_by_key number fills fill f (λ key. omega (arith, one key)))
  where
    counted : (fs : List Fill) → fill_at fill.key fs ≡ Some fill → 1 ≤ count (is_fill_of fill.key) fs
    counted [] h = absurd cc
    counted (y ∷ fs) h = by (is_fill_of fill.key y) h (counted fs)
      where
        by : (b : Bool) → (if b then Some y else fill_at fill.key fs) ≡ Some fill → (fill_at fill.key fs ≡ Some fill → 1 ≤ count (is_fill_of fill.key) fs) → 1 ≤ (if b then 1 else 0) + count (is_fill_of fill.key) fs
        by true h rest = omega arith
        by false h rest = omega (arith, rest h)

    other : (b : Bool) → is_fill_of fill.key x ≡ b → fill_at fill.key fills ≡ Some fill → (if b then Some x else fill_at fill.key fills) ≡ Some fill
    other true t h = absurd (omega (arith, counted fills h, one fill.key, ap {B = ℕ} (λ (b : Bool). if b then 1 else 0) t))
    other false t h = h

    step : (b : Bool) → (if b then Some x else fill_by number fills) ≡ Some fill → (fill_by number fills ≡ Some fill → fill_at fill.key fills ≡ Some fill) → fill_at fill.key (x ∷ fills) ≡ Some fill
    step true e rest = let same : x ≡ fill = cc in ap (λ (k : List ℕ). if bytes_eq x.key k then Some x else fill_at k fills) (ap (λ (f : Fill). f.key) (sym same)) ∙ (rw (bytes_eq-refl x.key) (ap (λ (f : Fill). Some f) same))
    step false e rest = other (is_fill_of fill.key x) refl (rest e)

-- ---- what is over

-- the cache with flash as it is after a part, with the key's fill still there, but with no job
module _ (ends : FillEnds) (config : Config) (older : List Note) (cache : Cache) (nvm : Nvm) (n : cache.nvm ≡ Some nvm) (g : Agrees config older cache) (number : ℕ) (job : Job) (at : job_at number nvm.jobs ≡ Some job) (get : job.task ≡ Filling)
    (r : Reads nvm number job) where
  abbrev page : ℕ
  page = page_no nvm.pair.small.flash r.reading.place.region r.reading.next

  -- what is found is what is held then, of a key that only the large engine may have
  abbrev Finds : block.Moved → List Note → Type 0
  Finds moved part = (key : List ℕ) → Brings (bytes_at older) nvm key None (Some (Getting r.reading))
      → found_in moved.outcome.answer ≡ (large.held nvm.pair.small.flash (bytes_at (past older part)) moved.state key)

  step_over : (cache' : Cache) (nvm' : Nvm) (res : Option (List ℕ)) (moved : block.Moved) → nvm'.pair ≡ nvm.pair → nvm'.jobs ≡ nvm.jobs → nvm'.made ≡ nvm.made → JobsRun nvm' → count (λ (f : Fill). is_number_in number f.job) nvm'.fills ≡ 0
      → Plain moved.outcome → OthersStay (but number) nvm.pair.large moved.state → IsOver number moved → LargeKeeps config nvm.pair.small.flash older (WasRead page res ∷ told moved.outcome) nvm.pair.large moved.state
      → RegionApart config (WasRead page res ∷ older) (told moved.outcome) nvm' moved.state (without_job number nvm'.jobs) nvm'.made number
  step_over cache' nvm' res moved ep ej em runs none plain others over keeps =
      let others' : OthersStay (but number) nvm'.pair.large moved.state = rw ep others in
      let l' : LargeJob nvm' number job (Getting r.reading) = record { number_is = r.large.number_is; small = rw ep r.large.small; there = rw ep r.large.there } in
      record {
        notes = rw ep (told_of_regions nvm.pair.small.flash moved.outcome plain);
        keeps = rw ep (keeps_behind config nvm.pair.small.flash older (told moved.outcome) page res nvm.pair.large moved.state keeps);
        works = others'.works;
        goes = jobs_over nvm' number job (Getting r.reading) l' moved.state others' over.work runs;
        apart = none;
      }

  -- nobody waits for it
  orphan_over : (take : Take) (res : Option (List ℕ)) (moved : block.Moved) → fill_by number nvm.fills ≡ None → Plain moved.outcome → OthersStay (but number) nvm.pair.large moved.state → IsOver number moved
      → LargeKeeps config nvm.pair.small.flash older (WasRead page res ∷ told moved.outcome) nvm.pair.large moved.state
      → Keeps config older (after_take (record { nvm = with_large moved.state (without_job number nvm.jobs) nvm.made nvm; take = take; part = WasRead page res ∷ told moved.outcome; filled = None }) cache)
  orphan_over take res moved none plain others over keeps =
      let o = opened config older cache nvm n g in
      let step = step_over cache nvm res moved refl refl refl o.good.jobs (orphan_none number nvm.fills none) plain others over keeps in
      let s = apart_keeps config (WasRead page res ∷ older) (told moved.outcome) cache nvm moved.state (without_job number nvm.jobs) nvm.made number n (good_read config older cache page res g) step in
      subst (λ (part : List Note). Steady config older part (moved_to (told moved.outcome) (with_large moved.state (without_job number nvm.jobs) nvm.made nvm) cache)) (sym (append-nil (WasRead page res ∷ told moved.outcome)))
      (record { lawful = keeps.lawful; good = s.good })

  -- what waits for it is served
  fill_over_keeps : (res : Option (List ℕ)) (moved : block.Moved) (fill : Fill) → fill_by number nvm.fills ≡ Some fill → Plain moved.outcome → OthersStay (but number) nvm.pair.large moved.state → IsOver number moved
      → LargeKeeps config nvm.pair.small.flash older (WasRead page res ∷ told moved.outcome) nvm.pair.large moved.state → Finds moved (WasRead page res ∷ told moved.outcome)
      → Keeps config older (after_take (takes.told_before (WasRead page res ∷ []) (fill_out (Some fill) moved.outcome.answer (changed (told moved.outcome) (with_large moved.state (without_job number nvm.jobs) nvm.made nvm)))) cache)
  fill_over_keeps res moved fill mine plain others over keeps finds =
      let o = opened config older cache nvm n g in
      let key = fill.key in
      let there = found_by_key number nvm.fills fill mine o.good.fills.one in
      let h = holds_at (bytes_at older) cache.memory nvm fill.key nvm.fills fill there o.good.fills.each in
      let by : Brings (bytes_at older) nvm fill.key None (Some (Getting r.reading)) = brought_as fill.job (brought_it number nvm.fills fill mine) h.brought in
      let nvm1 : Nvm = record nvm { fills = rejob fill.key None nvm.fills } in
      let cache1 : Cache = refilled (rejob fill.key None nvm.fills) nvm cache in
      let g1 = good_rejob config older cache nvm fill.key None n tt (λ m. omega (arith, fewer_brought m fill.key nvm.fills, o.good.fills.one_each m)) g in
      let o1 = opened config older (refilled (rejob fill.key None nvm.fills) nvm cache) (record nvm { fills = rejob fill.key None nvm.fills }) refl g1 in
      let none = none_brought number fill.key nvm.fills fill there (brought_it number nvm.fills fill mine) (o.good.fills.one_each number) in
      let step = step_over (refilled (rejob fill.key None nvm.fills) nvm cache) (record nvm { fills = rejob fill.key None nvm.fills }) res moved refl refl refl o1.good.jobs none plain others over keeps in
      let mid : List Note = past (WasRead page res ∷ older) (told moved.outcome) in
      let nvm2 : Nvm = with_large moved.state (without_job number nvm.jobs) nvm.made (record nvm { fills = rejob fill.key None nvm.fills }) in
      let cache2 : Cache = moved_to (told moved.outcome) (with_large moved.state (without_job number nvm.jobs) nvm.made (record nvm { fills = rejob fill.key None nvm.fills })) (refilled (rejob fill.key None nvm.fills) nvm cache) in
      let s = apart_keeps config (WasRead page res ∷ older) (told moved.outcome) (refilled (rejob fill.key None nvm.fills) nvm cache) (record nvm { fills = rejob fill.key None nvm.fills }) moved.state (without_job number nvm.jobs) nvm.made number refl
      (good_read config older (refilled (rejob fill.key None nvm.fills) nvm cache) page res g1) step in
      let nowhere : small.held nvm.pair.small (bytes_at (past (WasRead page res ∷ older) (told moved.outcome))) fill.key ≡ None =
      (kept_by_others nvm.pair.small (bytes_at older) (bytes_at (past (WasRead page res ∷ older) (told moved.outcome))) keeps.pages o.good.engines.small_fits).1 fill.key ∙ by.2 in
      let found = found_in moved.outcome.answer in
      let is_large = finds fill.key by in
      let over2 : Ends config (past (WasRead page res ∷ older) (told moved.outcome))
      (refilled (without_fill fill.key (rejob fill.key None nvm.fills)) (with_large moved.state (without_job number nvm.jobs) nvm.made (record nvm { fills = rejob fill.key None nvm.fills }))
      (moved_to (told moved.outcome) (with_large moved.state (without_job number nvm.jobs) nvm.made (record nvm { fills = rejob fill.key None nvm.fills })) (refilled (rejob fill.key None nvm.fills) nvm cache))) fill.key
      (found_in moved.outcome.answer) fill.waiters =
      fill_over config (past (WasRead page res ∷ older) (told moved.outcome))
      (moved_to (told moved.outcome) (with_large moved.state (without_job number nvm.jobs) nvm.made (record nvm { fills = rejob fill.key None nvm.fills })) (refilled (rejob fill.key None nvm.fills) nvm cache))
      (with_large moved.state (without_job number nvm.jobs) nvm.made (record nvm { fills = rejob fill.key None nvm.fills })) fill.key (record fill { job = None }) (found_in moved.outcome.answer) refl s.good
      (rejob_found fill.key None nvm.fills fill there) by.1 nowhere is_large
      (λ e some. found_key nvm.pair.small.flash (bytes_at (past (WasRead page res ∷ older) (told moved.outcome))) moved.state fill.key (found_in moved.outcome.answer) e is_large some) (rested config.flash fill.key plain) in
      let cache3 : Cache = record cache { memory = unmarked_by (told moved.outcome) cache.memory; nvm = Some (record nvm2 { fills = without_fill fill.key nvm.fills }) } in
      let over3 : Ends config mid cache3 fill.key found fill.waiters = subst (λ (fs : List Fill). Ends config (past (WasRead page res ∷ older) (told moved.outcome))
      (record cache { memory = unmarked_by (told moved.outcome) cache.memory; nvm = Some (record nvm { pair = record nvm.pair { large = moved.state }; jobs = without_job number nvm.jobs; fills = fs }) }) fill.key
      (found_in moved.outcome.answer) fill.waiters) (rejob_without fill.key None nvm.fills) over2 in
      steady_join config older (WasRead page res ∷ told moved.outcome) _ _ keeps.lawful (ends config mid cache3 fill.key found fill.waiters over3)
    where
      brought_as : (j : Option ℕ) → is_number_in number j ≡ true → BringsIf (bytes_at older) nvm fill.key j → Brings (bytes_at older) nvm fill.key None (Some (Getting r.reading))
      brought_as None b h = absurd cc
      brought_as (Some m) b h =
          let same : m ≡ number = eqb-true m number b in
          let at_number : Brings (bytes_at older) nvm fill.key (small_job nvm number) (large_work nvm number) = subst (λ (k : ℕ). Brings (bytes_at older) nvm fill.key (small_job nvm k) (large_work nvm k)) same h in
          rw (r.large.small, r.large.there) at at_number

      rested : (flash : Option FlashConfig) (key : List ℕ) → Plain moved.outcome → RestsFrom flash (past (WasRead page res ∷ older) (told moved.outcome)) key
      rested None key plain = tt
      rested (Some flash) key plain = go (is_put_of key (put_under_way flash (past (WasRead page res ∷ older) (told moved.outcome)))) refl
        where
          go : (b : Bool) → is_put_of key (put_under_way flash (past (WasRead page res ∷ older) (told moved.outcome))) ≡ b → b ≡ false
          go true t = absurd (let f : false ≡ true = rested_after nvm.pair.small.flash flash (WasRead page res ∷ older) (told moved.outcome) key (told_of_regions nvm.pair.small.flash moved.outcome plain) t in cc)
          go false t = refl

  over_kept : (result : IoResult) (res : Option (List ℕ)) (moved : block.Moved) → result_note (Read page) result ≡ WasRead page res → Plain moved.outcome → OthersStay (but number) nvm.pair.large moved.state → IsOver number moved
      → LargeKeeps config nvm.pair.small.flash older (WasRead page res ∷ told moved.outcome) nvm.pair.large moved.state → Finds moved (WasRead page res ∷ told moved.outcome)
      → Keeps config older (after_take (takes.resumed job result nvm (by_large nvm.pair [] moved)) cache)
  over_kept result res moved note plain others over keeps finds =
      let first : result_note job.order result ≡ WasRead page res = ap (λ (o : Order). result_note o result) r.order ∙ note in
      let change = changed (told moved.outcome) (with_large moved.state (without_job number nvm.jobs) nvm.made nvm) in
      let is : takes.resumed job result nvm (by_large nvm.pair [] moved)
      ≡ takes.told_before (WasRead page res ∷ []) (fill_out (fill_by number nvm.fills) moved.outcome.answer (changed (told moved.outcome) (with_large moved.state (without_job number nvm.jobs) nvm.made nvm))) =
      over_is nvm number job result moved r.large.number_is get over.order plain
      ∙ ap (λ (k : Note). takes.told_before (k ∷ []) (fill_out (fill_by number nvm.fills) moved.outcome.answer (changed (told moved.outcome) (with_large moved.state (without_job number nvm.jobs) nvm.made nvm)))) first in
      subst (λ (t : Taken). Keeps config older (after_take t cache)) (sym is) (go (fill_by number nvm.fills) refl)
    where
      go : (o : Option Fill) → fill_by number nvm.fills ≡ o → Keeps config older (after_take (takes.told_before (WasRead page res ∷ []) (fill_out o moved.outcome.answer (changed (told moved.outcome) (with_large moved.state (without_job number nvm.jobs) nvm.made nvm)))) cache)
      go None e = orphan_over Finished res moved e plain others over keeps
      go (Some fill) e = fill_over_keeps res moved fill e plain others over keeps finds

  -- it reads on
  on_kept : (bytes : List ℕ) (moved : block.Moved) → OthersStay (but number) nvm.pair.large moved.state → GoesOnReading nvm.pair.small.flash older number r.reading moved
      → LargeKeeps config nvm.pair.small.flash older (WasRead page (Some bytes) ∷ told moved.outcome) nvm.pair.large moved.state
      → Keeps config older (after_take (takes.resumed job (Page bytes) nvm (by_large nvm.pair [] moved)) cache)
  on_kept bytes moved others on keeps =
      let o = opened config older cache nvm n g in
      let next = on.page.reading in
      let order = Read (page_no nvm.pair.small.flash next.place.region next.next) in
      let keeps2 : LargeKeeps config nvm.pair.small.flash older (WasRead page (Some bytes) ∷ []) nvm.pair.large moved.state = rw on.page.outcome at keeps in
      let step : RegionStep config (WasRead page (Some bytes) ∷ older) [] nvm moved.state (ordered number (Read (page_no nvm.pair.small.flash on.page.reading.place.region on.page.reading.next)) nvm.jobs) nvm.made (but number) = record {
        notes = tt;
        keeps = keeps_behind config nvm.pair.small.flash older [] page (Some bytes) nvm.pair.large moved.state keeps2;
        works = others.works;
        goes = jobs_on nvm number job (Getting r.reading) r.large moved.state others (Read (page_no nvm.pair.small.flash on.page.reading.place.region on.page.reading.next)) at (Getting on.page.reading) on.page.work (reads_on nvm moved.state (ordered number (Read (page_no nvm.pair.small.flash on.page.reading.place.region on.page.reading.next)) nvm.jobs) nvm.made r.reading on.page.reading) o.good.jobs;
        moved = λ l key k f b.
            let same = but_false number k f in
            brings_next nvm moved.state (bytes_at (WasRead page (Some bytes) ∷ older)) (bytes_at (WasRead page (Some bytes) ∷ older)) (λ hash. loses hash []) l (ordered number (Read (page_no nvm.pair.small.flash on.page.reading.place.region on.page.reading.next)) nvm.jobs) nvm.made nvm.fills key r.reading on.page.reading (small_job nvm k) (large_work nvm k) (work_of k moved.state.jobs)
            (ap (small_job nvm) same ∙ r.large.small) (ap (large_work nvm) same ∙ r.large.there) (ap (λ (n : ℕ). work_of n moved.state.jobs) same ∙ on.page.work) on.page.key_is on.place b;
      } in
      let s = region_keeps config (WasRead page (Some bytes) ∷ older) [] cache nvm moved.state (ordered number (Read (page_no nvm.pair.small.flash on.page.reading.place.region on.page.reading.next)) nvm.jobs) nvm.made (but number) n
      (good_read config older cache page (Some bytes) g) step in
      let is : takes.resumed job (Page bytes) nvm (by_large nvm.pair [] moved)
      ≡ record { nvm = with_large moved.state (ordered number (Read (page_no nvm.pair.small.flash on.page.reading.place.region on.page.reading.next)) nvm.jobs) nvm.made nvm; take = TheWork number (Read (page_no nvm.pair.small.flash on.page.reading.place.region on.page.reading.next)); part = WasRead page (Some bytes) ∷ []; filled = None } =
      on_is nvm number job (Page bytes) moved (page_no nvm.pair.small.flash on.page.reading.place.region on.page.reading.next) r.large.number_is on.page.order on.page.outcome
      ∙ ap (λ (o : Order). record { nvm = with_large moved.state (ordered number (Read (page_no nvm.pair.small.flash on.page.reading.place.region on.page.reading.next)) nvm.jobs) nvm.made nvm; take = TheWork number (Read (page_no nvm.pair.small.flash on.page.reading.place.region on.page.reading.next)); part = result_note o (Page bytes) ∷ []; filled = None }) r.order in
      subst (λ (t : Taken). Keeps config older (after_take t cache)) (sym is) (record { lawful = keeps2.lawful; good = s.good })

-- ---- what it finds

over_finds : (t : Bool) (held : Option FlashEntry) (answer : engine.Answer) → answer ≡ (if t then answer_by held else engine.Absent) → (t ≡ false → held ≡ None) → found_in answer ≡ held
over_finds true None answer e none = rw e refl
over_finds true (Some x) answer e none = rw e refl
over_finds false held answer e none = rw (e, none refl) refl

kept_if : (b : Bool) (held : Option FlashEntry) → b ≡ false → (if b then None else held) ≡ held
kept_if b held e = rw e refl

-- ---- each result

module _ (reads : ReadTells) (gives : ReadGives) (failed : FailedReadTells) (fails : FailedReadGives) (ends : FillEnds) (config : Config) (older : List Note) (cache : Cache) (nvm : Nvm) (n : cache.nvm ≡ Some nvm) (g : Agrees config older cache)
    (number : ℕ) (job : Job) (at : job_at number nvm.jobs ≡ Some job) (get : job.task ≡ Filling) (r : Reads nvm number job) where
  some_page : 0 < nvm.pair.small.flash.page
  some_page = let l = (opened config older cache nvm n g).good.engines.small_fits.limits in omega (arith, l.least_page)

  by_result : (result : IoResult) → IsResult (bytes_at older) (Some (Read (page_no nvm.pair.small.flash r.reading.place.region r.reading.next))) result
      → Keeps config older (after_finish (option_map (takes.resumed job result nvm) (pairs.resume_work number result nvm.pair (Getting r.reading))) cache)
  by_result Written honest = absurd honest
  by_result (Page bytes) honest =
      let flash = nvm.pair.small.flash in
      let o = opened config older cache nvm n g in
      let l = large_fits nvm.pair.small.flash older cache.memory nvm o.good in
      let both = gives nvm.pair.small.flash older number r.reading bytes nvm.pair.large some_page r.large.there honest l in
      let keeps = reads config nvm.pair.small.flash older number r.reading bytes nvm.pair.large o.flash_is some_page r.large.there honest l in
      by both.0 both.1 keeps
    where
      moved : block.Moved
      moved = steps.resume nvm.pair.small.flash number (Getting r.reading) (Page bytes) nvm.pair.large

      by : OthersStay (but number) nvm.pair.large (steps.resume nvm.pair.small.flash number (Getting r.reading) (Page bytes) nvm.pair.large).state
          → (GoesOnReading nvm.pair.small.flash older number r.reading (steps.resume nvm.pair.small.flash number (Getting r.reading) (Page bytes) nvm.pair.large)
          ⊎ ReadIsOver nvm.pair.small.flash older number r.reading nvm.pair.large (steps.resume nvm.pair.small.flash number (Getting r.reading) (Page bytes) nvm.pair.large))
          → LargeKeeps config nvm.pair.small.flash older (WasRead (page_no nvm.pair.small.flash r.reading.place.region r.reading.next) (Some bytes) ∷ told (steps.resume nvm.pair.small.flash number (Getting r.reading) (Page bytes) nvm.pair.large).outcome) nvm.pair.large
          (steps.resume nvm.pair.small.flash number (Getting r.reading) (Page bytes) nvm.pair.large).state
          → Keeps config older (after_take (takes.resumed job (Page bytes) nvm (by_large nvm.pair [] (steps.resume nvm.pair.small.flash number (Getting r.reading) (Page bytes) nvm.pair.large))) cache)
      by others (inl on) keeps = on_kept ends config older cache nvm n g number job at get r bytes (steps.resume nvm.pair.small.flash number (Getting r.reading) (Page bytes) nvm.pair.large) others on keeps
      by others (inr over) keeps =
          over_kept ends config older cache nvm n g number job at get r (Page bytes) (Some bytes) (steps.resume nvm.pair.small.flash number (Getting r.reading) (Page bytes) nvm.pair.large) refl
          (read_plain nvm.pair.small.flash number r.reading bytes nvm.pair.large) others over.over keeps
          (λ key b.
          let as_key : (steps.resume nvm.pair.small.flash number (Getting r.reading) (Page bytes) nvm.pair.large).outcome.answer
          ≡ (if is_place (place_at (kept_of nvm.pair.small.flash.bits key) nvm.pair.large.index) r.reading.place then answer_by (large.held nvm.pair.small.flash (bytes_at older) nvm.pair.large key) else engine.Absent) =
          over.answer ∙ ap (λ (k : List ℕ). if is_place (place_at (kept_of nvm.pair.small.flash.bits k) nvm.pair.large.index) r.reading.place then answer_by (large.held nvm.pair.small.flash (bytes_at older) nvm.pair.large k) else engine.Absent) b.0 in
          over_finds (is_place (place_at (kept_of nvm.pair.small.flash.bits key) nvm.pair.large.index) r.reading.place) (large.held nvm.pair.small.flash (bytes_at older) nvm.pair.large key) (steps.resume nvm.pair.small.flash number (Getting r.reading) (Page bytes) nvm.pair.large).outcome.answer as_key b.3
          ∙ (sym (keeps.held key ∙ kept_if (loses (kept_of nvm.pair.small.flash.bits key) (told (steps.resume nvm.pair.small.flash number (Getting r.reading) (Page bytes) nvm.pair.large).outcome)) (large.held nvm.pair.small.flash (bytes_at older) nvm.pair.large key) (none_loses (kept_of nvm.pair.small.flash.bits key) (steps.resume nvm.pair.small.flash number (Getting r.reading) (Page bytes) nvm.pair.large).outcome over.losses))))
  by_result Failed honest =
      let o = opened config older cache nvm n g in
      let l = large_fits nvm.pair.small.flash older cache.memory nvm o.good in
      let both = fails nvm.pair.small.flash older number r.reading nvm.pair.large r.large.there l in
      let keeps = failed config nvm.pair.small.flash older number r.reading nvm.pair.large o.flash_is some_page r.large.there l in
      let fail = both.1 in
      over_kept ends config older cache nvm n g number job at get r Failed None (steps.resume nvm.pair.small.flash number (Getting r.reading) Failed nvm.pair.large) refl
      (failed_read_plain nvm.pair.small.flash number r.reading nvm.pair.large) both.0 fail.over keeps
      (λ key b.
      let losses : (steps.resume nvm.pair.small.flash number (Getting r.reading) Failed nvm.pair.large).outcome.losses
      ≡ (if is_place (place_at (kept_of nvm.pair.small.flash.bits key) nvm.pair.large.index) r.reading.place then steps.lost loss.Fault (kept_of nvm.pair.small.flash.bits key ∷ []) else []) =
      fail.losses ∙ ap (λ (k : List ℕ). if is_place (place_at (kept_of nvm.pair.small.flash.bits k) nvm.pair.large.index) r.reading.place then steps.lost loss.Fault (kept_of nvm.pair.small.flash.bits k ∷ []) else []) b.0 in
      ap (λ (a : engine.Answer). found_in a) fail.answer ∙ (sym (keeps.held key ∙ gone key (is_place (place_at (kept_of nvm.pair.small.flash.bits key) nvm.pair.large.index) r.reading.place) losses b.3)))
    where
      gone : (key : List ℕ) (t : Bool) → (steps.resume nvm.pair.small.flash number (Getting r.reading) Failed nvm.pair.large).outcome.losses ≡ (if t then steps.lost loss.Fault (kept_of nvm.pair.small.flash.bits key ∷ []) else [])
          → (t ≡ false → large.held nvm.pair.small.flash (bytes_at older) nvm.pair.large key ≡ None)
          → (if loses (kept_of nvm.pair.small.flash.bits key) (told (steps.resume nvm.pair.small.flash number (Getting r.reading) Failed nvm.pair.large).outcome) then None else large.held nvm.pair.small.flash (bytes_at older) nvm.pair.large key) ≡ None
      gone key true e none = rw (hash_loses (kept_of nvm.pair.small.flash.bits key) (steps.resume nvm.pair.small.flash number (Getting r.reading) Failed nvm.pair.large).outcome e) refl
      gone key false e none = kept_if (loses (kept_of nvm.pair.small.flash.bits key) (told (steps.resume nvm.pair.small.flash number (Getting r.reading) Failed nvm.pair.large).outcome)) (large.held nvm.pair.small.flash (bytes_at older) nvm.pair.large key) (none_loses (kept_of nvm.pair.small.flash.bits key) (steps.resume nvm.pair.small.flash number (Getting r.reading) Failed nvm.pair.large).outcome e) ∙ none refl

pub finish_read_keeps : ReadTells → ReadGives → FailedReadTells → FailedReadGives → FillEnds → FinishReadKeeps
finish_read_keeps reads gives failed fails ends config older cache number result nvm job n at get small_none g honest =
    let o = opened config older cache nvm n g in
    let r = reads_of nvm number job o.good.jobs at get small_none in
    let order_is : order_in (Some nvm) number ≡ Some (Read (page_no nvm.pair.small.flash r.reading.place.region r.reading.next)) = rw at (ap (λ (o : Order). Some o) r.order) in
    let honest2 : IsResult (bytes_at older) (Some (Read (page_no nvm.pair.small.flash r.reading.place.region r.reading.next))) result = subst (λ (o : Option Order). IsResult (bytes_at older) o result) (ap (λ (x : Option Nvm). order_in x number) n ∙ order_is) honest in
    subst (λ (x : Option Nvm). Keeps config older (workers.finish_on x number result cache)) (sym n)
    (subst (λ (t : Option Taken). Keeps config older (after_finish t cache)) (sym (finish_is nvm number job result at r)) (by_result reads gives failed fails ends config older cache nvm n g number job at get r result honest2))
