-- A tombstone ends by a delete that is over, and by a bucket that is given up.
use Rattle.std.proofs.Common.{◌≡◌, ◌≢◌, ℕ, ◌+◌, Bool, true, false, not, ◌&&◌, ◌||◌, List, length, Option, Some, None, refl, ap, sym, ◌∙◌}
use Rattle.std.specs.Prelude.{option_map}
use Rattle.std.specs.Str.{bytes_eq}
use Rattle.hc_types.specs.Places.{bucket_at, is_small_by}
use Rattle.hc_types.specs.FlashEntry.{FlashEntry}
use Rattle.hc_engines.specs.Engine.{Op, Put, Get, Delete, IoResult, Outcome, Next, Busy, Io, Done}
use Rattle.hc_engines.specs.large.Choices.{Mark}
use Rattle.hc_engines.specs.large.Block as block
use Rattle.hc_engines.specs.large.Steps as steps
use Rattle.hc_engines.specs.pair.Pair as pairs
use Rattle.hc_engines.specs.pair.Pair.{bucket_in, start, resume}
use Rattle.hc_machine.specs.Nvm.{Nvm, Tombstone, Fill, Task, Putting, Deleting, Filling, Flushing, Job, is_buried, next_put, next_delete, next_fill, taken_stone, taken_fill, without_put, job_at}
use Rattle.hc_machine.specs.Takes as takes
use Rattle.hc_machine.specs.Takes.{Taken, bucket_lost, launched, launch, take_sized, take_put, take_delete, take_fill, finish_job, resumed, reclaimed}
use Rattle.hc_machine.specs.Cache.{Cache, Moved, takes_in}
use Rattle.hc_machine.specs.Workers.{after_take, take_on, after_finish, finish_on, reclaim_on, writer_take, finish}
use Rattle.hc_machine.specs.Calls.{buried_at}
use Rattle.hc_laws.specs.Serving.{ADelete, next_page, can_delete, page_goes}
use Rattle.hc_laws.specs.Tombstones.{Stays, is_delete_over, is_lost_first, gives_up, DeletedAtOnce, EndedBy, TombstoneEnds, TombstonesEndByDeletesAndLosses}
use Rattle.hc_laws.proofs.Firsts.{found_first}
use Rattle.hc_laws.proofs.Serves.{writer_by, writer_is, served}
use Rattle.hc_laws.proofs.Refuses.{finish_is}
use Rattle.hc_laws.proofs.Kept.{resume_keeps_flash}
use Rattle.hc_laws.proofs.Starts.{put_gives_none, get_gives_none, delete_gives_none, reclaim_none}
use Rattle.hc_laws.proofs.Raised.{ended, launched_left, goes_on_left, taken_left, settled_left}
use Rattle.hc_laws.proofs.Buried.{fill_stays, allocate_stays, discard_stays, replace_stays, insert_stays, find_stays, remove_stays, reply_stays}

-- ---- what Bools say

untouched : (b x : Bool) → x ≡ false → (b && not x) ≡ b
untouched true x h = rw h refl
untouched false x h = refl

gone : (x : Bool) → (true && not x) ≡ false → x ≡ true
gone true h = refl
gone false h = absurd cc

taken_away : (b x : Bool) → x ≡ true → (b && not x) ≡ false
taken_away true x h = rw h refl
taken_away false x h = refl

or_right : (d g : Bool) → g ≡ false → (d || g) ≡ d
or_right true g h = refl
or_right false g h = h

module _ (key : List ℕ) where
  -- ---- what begins

  launch_left : (task : Task) (op : Op) (nvm : Nvm) → is_buried (launch task op nvm).nvm key ≡ (is_buried nvm key && not (ended key task (start (nvm.made + 1) op nvm.pair).next (record nvm { pair = (start (nvm.made + 1) op nvm.pair).pair })))
  launch_left task op nvm = launched_left key task (start (nvm.made + 1) op nvm.pair).next (record nvm { pair = (start (nvm.made + 1) op nvm.pair).pair })

  no_delete : (task : Task) → ((k : List ℕ) → task ≢ Deleting k) → (next : Next) → is_delete_over key task next ≡ false
  no_delete (Deleting k) h next = absurd (h k refl)
  no_delete (Putting k) h next = refl
  no_delete Filling h next = refl
  no_delete Flushing h next = refl

  put_left : (put : FlashEntry) (nvm : Nvm) → is_buried (take_put (Some put) nvm).nvm key ≡ is_buried nvm key
  put_left put nvm = by (is_small_by nvm.pair.small.flash put.key (length put.value))
    where
      by : (t : Bool) → is_buried (take_sized t put (record nvm { queue = without_put put.key nvm.queue })).nvm key ≡ is_buried nvm key
      by true = launch_left (Putting put.key) (Put put) (record nvm { queue = without_put put.key nvm.queue }) ∙ untouched (is_buried nvm key) _ (put_gives_none (nvm.made + 1) _ nvm.pair put)
      by false = launch_left Flushing (Put put) (record nvm { queue = without_put put.key nvm.queue }) ∙ untouched (is_buried nvm key) _ (put_gives_none (nvm.made + 1) _ nvm.pair put)

  fill_left : (fill : Fill) (nvm : Nvm) → is_buried (take_fill (Some fill) nvm).nvm key ≡ is_buried nvm key
  fill_left fill nvm = launch_left Filling (Get fill.key) (record nvm { fills = taken_fill fill.key (nvm.made + 1) nvm.fills }) ∙ untouched (is_buried nvm key) _ (get_gives_none (nvm.made + 1) _ nvm.pair fill.key)

  delete_left : (stone : Tombstone) (nvm : Nvm) → is_buried (take_delete (Some stone) nvm).nvm key ≡ (is_buried nvm key && not (is_delete_over key (Deleting stone.key) (start (nvm.made + 1) (Delete stone.key) nvm.pair).next))
  delete_left stone nvm =
      let next : Next = (start (nvm.made + 1) (Delete stone.key) nvm.pair).next in
      launch_left (Deleting stone.key) (Delete stone.key) (record nvm { tombstones = taken_stone stone.key nvm.tombstones })
      ∙ (λ i. taken_left key stone.key nvm.tombstones i && not (or_right (is_delete_over key (Deleting stone.key) next) _ (delete_gives_none (nvm.made + 1) (bucket_in (start (nvm.made + 1) (Delete stone.key) nvm.pair).pair key) nvm.pair stone.key) i))

  page_left : (region : ℕ) (mark : Mark) (nvm : Nvm) → is_buried (page_goes region mark nvm).nvm key ≡ is_buried nvm key
  page_left region mark nvm = refl

  -- ---- the writer

  is_over_with : (k : List ℕ) (next : Next) → is_delete_over key (Deleting k) next ≡ true → (outcome : Outcome) × (next ≡ Done outcome) × (bytes_eq key k ≡ true)
  is_over_with k Busy h = absurd cc
  is_over_with k (Io order outcome) h = absurd cc
  is_over_with k (Done outcome) h = (outcome, refl, h)

  same_both : (a b : Bool) → a ≡ b → b ≡ true → a ≡ false → ⊥
  same_both a b e h k = let t : true ≡ false = sym h ∙ sym e ∙ k in cc

  by_writer : (nvm : Nvm) → is_buried nvm key ≡ true → is_buried (takes.writer_take nvm).nvm key ≡ false → DeletedAtOnce key nvm
  by_writer nvm there after = pages (next_page nvm) refl (sym (ap (λ (t : Taken). is_buried t.nvm key) (writer_is nvm)) ∙ after)
    where
      puts : (o : Option FlashEntry) → is_buried (take_put o nvm).nvm key ≡ false → DeletedAtOnce key nvm
      puts None h = absurd (same_both _ _ refl there h)
      puts (Some put) h = absurd (same_both _ _ (put_left put nvm) there h)

      deletes : (o : Option Tombstone) → next_page nvm ≡ None → next_delete nvm ≡ o → is_buried (take_delete o nvm).nvm key ≡ false → DeletedAtOnce key nvm
      deletes None n d h = puts (next_put nvm) h
      deletes (Some stone) n d h =
          let over = is_over_with stone.key _ (gone _ (ap (λ b. b && not (is_delete_over key (Deleting stone.key) (start (nvm.made + 1) (Delete stone.key) nvm.pair).next)) (sym there) ∙ sym (delete_left stone nvm) ∙ h)) in
          record { stone = stone; turn = (n, found_first (can_delete nvm) nvm.tombstones stone d); own = over.2; outcome = over.0; over = over.1 }

      pages : (o : Option (ℕ × Mark)) → next_page nvm ≡ o → is_buried (writer_by o nvm).nvm key ≡ false → DeletedAtOnce key nvm
      pages None n h = deletes (next_delete nvm) n refl h
      pages (Some turn) n h = absurd (same_both _ _ (page_left turn.0 turn.1 nvm) there h)

  over_left : (nvm : Nvm) (d : DeletedAtOnce key nvm) → is_buried (take_delete (Some d.stone) nvm).nvm key ≡ false
  over_left nvm d = delete_left d.stone nvm ∙ taken_away (is_buried nvm key) _ (ap (is_delete_over key (Deleting d.stone.key)) d.over ∙ d.own)

  delete_unfilled : (k : List ℕ) (next : Next) (nvm : Nvm) → (launched (Deleting k) next nvm).filled ≡ None
  delete_unfilled k Busy nvm = refl
  delete_unfilled k (Io order outcome) nvm = refl
  delete_unfilled k (Done outcome) nvm = refl

  -- ---- on the cache

  stays_behind : (taken : Taken) (cache : Cache) → is_buried taken.nvm key ≡ true → buried_at (after_take taken cache).cache.nvm key ≡ true
  stays_behind taken cache h = fill_stays key taken.filled (takes_in taken.part taken.nvm cache).cache h

  -- what isn't there behind a take went by it
  went : (taken : Taken) (cache : Cache) → buried_at (after_take taken cache).cache.nvm key ≡ false → is_buried taken.nvm key ≡ false
  went taken cache h = by (is_buried taken.nvm key) refl
    where
      by : (b : Bool) → is_buried taken.nvm key ≡ b → is_buried taken.nvm key ≡ false
      by true e = absurd (let t : true ≡ false = sym (stays_behind taken cache e) ∙ h in cc)
      by false e = e

  on_flash : (nvm : Nvm) (cache : Cache) → cache.nvm ≡ Some nvm → buried_at cache.nvm key ≡ is_buried nvm key
  on_flash nvm cache e = ap (λ o. buried_at o key) e

  module _ (cache : Cache) where
    filler_stays : (o : Option Nvm) → cache.nvm ≡ o → Stays key cache (take_on o takes.filler_take cache).cache
    filler_stays None e h = h
    filler_stays (Some nvm) e h = stays_behind (takes.filler_take nvm) cache (by (next_fill nvm) ∙ sym (on_flash nvm cache e) ∙ h)
      where
        by : (o : Option Fill) → is_buried (take_fill o nvm).nvm key ≡ is_buried nvm key
        by None = refl
        by (Some fill) = fill_left fill nvm

    reclaim_stays : (o : Option Nvm) → cache.nvm ≡ o → Stays key cache (reclaim_on o cache).cache
    reclaim_stays None e h = h
    reclaim_stays (Some nvm) e h = by (steps.reclaim nvm.pair.small.flash nvm.pair.large) (reclaim_none nvm.pair.small.flash nvm.pair.large) ∙ sym (on_flash nvm cache e) ∙ h
      where
        when : (region : Option ℕ) (m : block.Moved) → bucket_lost m.outcome.losses ≡ None → is_buried (takes.reclaimed_by region m nvm).change.nvm key ≡ is_buried nvm key
        when None m none = refl
        when (Some region) m none = settled_left key Flushing m.outcome (record nvm { pair = record nvm.pair { large = m.state } }) ∙ untouched (is_buried nvm key) _ (ap (is_lost_first (bucket_in nvm.pair key)) none)

        by : (m : block.Moved) → bucket_lost m.outcome.losses ≡ None → is_buried (reclaimed m nvm).change.nvm key ≡ is_buried nvm key
        by m none = when m.outcome.reclaimed m none

    writer_on : (nvm : Nvm) → cache.nvm ≡ Some nvm → writer_take cache ≡ after_take (takes.writer_take nvm) cache
    writer_on nvm e = ap (λ o. take_on o takes.writer_take cache) e

    writer_ends : (nvm : Nvm) → cache.nvm ≡ Some nvm → is_buried nvm key ≡ true → buried_at (writer_take cache).cache.nvm key ≡ false → DeletedAtOnce key nvm
    writer_ends nvm e there h = by_writer nvm there (went (takes.writer_take nvm) cache (sym (ap (λ (m : Moved). buried_at m.cache.nvm key) (writer_on nvm e)) ∙ h))

    at_once : (nvm : Nvm) → cache.nvm ≡ Some nvm → DeletedAtOnce key nvm → buried_at (writer_take cache).cache.nvm key ≡ false
    at_once nvm e d =
        let taken : Taken = take_delete (Some d.stone) nvm in
        ap (λ (m : Moved). buried_at m.cache.nvm key) (writer_on nvm e ∙ ap (λ t. after_take t cache) (served nvm (ADelete d.stone) d.turn))
        ∙ bare taken (delete_unfilled d.stone.key _ _) ∙ over_left nvm d
      where
        bare : (taken : Taken) → taken.filled ≡ None → buried_at (after_take taken cache).cache.nvm key ≡ is_buried taken.nvm key
        bare taken none = ap (λ (o : Option takes.Filled). buried_at (after_take (record taken { filled = o }) cache).cache.nvm key) none

    -- ---- results

    result_left : (nvm : Nvm) (job : Job) (result : IoResult) (moved : pairs.Moved) → resume job.number result nvm.pair ≡ Some moved → is_buried (resumed job result nvm moved).nvm key ≡ (is_buried nvm key && not (is_delete_over key job.task moved.next || gives_up (bucket_in nvm.pair key) moved.next))
    result_left nvm job result moved r = goes_on_left key job moved.next (record nvm { pair = moved.pair })
        ∙ ap (λ flash. is_buried nvm key && not (is_delete_over key job.task moved.next || gives_up (bucket_at flash key) moved.next)) (resume_keeps_flash job.number result nvm.pair moved r)

    module _ (nvm : Nvm) (number : ℕ) (result : IoResult) where
      unchanged : cache.nvm ≡ Some nvm → is_buried nvm key ≡ true → (moved : Moved) → finish number result cache ≡ moved → moved.cache ≡ cache → buried_at (finish number result cache).cache.nvm key ≡ false → ⊥
      unchanged e there moved f c h =
          let t : true ≡ false = sym (on_flash nvm cache e ∙ there) ∙ ap (λ (x : Cache). buried_at x.nvm key) (sym c) ∙ ap (λ (m : Moved). buried_at m.cache.nvm key) (sym f) ∙ h in
          cc

      by_resume : (job : Job) (o : Option pairs.Moved) → cache.nvm ≡ Some nvm → job_at number nvm.jobs ≡ Some job → resume job.number result nvm.pair ≡ o → is_buried nvm key ≡ true → buried_at (finish number result cache).cache.nvm key ≡ false → EndedBy number result key nvm
      by_resume job None e j r there h = absurd (unchanged e there _ (finish_is cache number result nvm job None e j r) refl h)
      by_resume job (Some moved) e j r there h =
          let f = finish_is cache number result nvm job (Some moved) e j r in
          let less = went (resumed job result nvm moved) cache (sym (ap (λ (m : Moved). buried_at m.cache.nvm key) f) ∙ h) in
          let over = is_delete_over key job.task moved.next || gives_up (bucket_in nvm.pair key) moved.next in
          record { job = job; has_job = j; moved = moved; resumes = r; ends = gone _ (ap (λ b. b && not over) (sym there) ∙ sym (result_left nvm job result moved r) ∙ less) }

      by_job : (o : Option Job) → cache.nvm ≡ Some nvm → job_at number nvm.jobs ≡ o → is_buried nvm key ≡ true → buried_at (finish number result cache).cache.nvm key ≡ false → EndedBy number result key nvm
      by_job None e j there h = absurd (unchanged e there _ ((λ i. finish_on (e i) number result cache) ∙ (λ i. after_finish (finish_job (j i) result nvm) cache)) refl h)
      by_job (Some job) e j there h = by_resume job (resume job.number result nvm.pair) e j refl there h

      result_ends : (taken : Taken) → takes.finish number result nvm ≡ Some taken → EndedBy number result key nvm → is_buried taken.nvm key ≡ false
      result_ends taken f e =
          let made : Some (resumed e.job result nvm e.moved) ≡ Some taken = sym ((λ i. finish_job (e.has_job i) result nvm) ∙ ap (option_map (resumed e.job result nvm)) e.resumes) ∙ f in
          let same : resumed e.job result nvm e.moved ≡ taken = cc in
          ap (λ (t : Taken). is_buried t.nvm key) (sym same) ∙ result_left nvm e.job result e.moved e.resumes ∙ taken_away (is_buried nvm key) _ e.ends

    case : TombstoneEnds key cache
    case = record {
      allocate = λ pool k value ttl. allocate_stays key pool k value ttl cache;
      discard = λ handle. discard_stays key handle cache;
      insert_or_replace = λ client handle. replace_stays key client handle cache;
      insert = λ client handle. insert_stays key client handle cache;
      find = λ client k. find_stays key client k cache;
      remove = λ client k. remove_stays key client k cache;
      take_reply = λ call. reply_stays key call cache;
      tick = λ moment h. h;
      filler_take = filler_stays cache.nvm refl;
      reclaim = reclaim_stays cache.nvm refl;
      by_writer = writer_ends;
      at_once = at_once;
      by_result = λ nvm number result e. by_job nvm number result (job_at number nvm.jobs) e refl;
      ended = result_ends;
    }

pub raises : TombstonesEndByDeletesAndLosses
raises = case
