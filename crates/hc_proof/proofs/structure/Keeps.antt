-- What a call of both engines keeps: the configuration, that the large engine leads to large entries alone, and so that what is
-- found isn't among what is lost.
use Rattle.std.proofs.Common.{◌≡◌, ℕ, ◌+◌, ◌==◌, Bool, true, false, ◌&&◌, List, [], ◌∷◌, ◌++◌, length, Option, Some, None, refl, sym, subst}
use Rattle.std.specs.Prelude.{if◌then◌else◌, nat_lt}
use Rattle.std.specs.Str.{bytes_eq}
use Rattle.std.proofs.lemmas.Option.{cond_some}
use Rattle.hc_types.specs.Loss as scopes
use Rattle.hc_types.specs.Places.{kept_of, is_small_by}
use Rattle.hc_types.specs.declared.config.FlashConfig.{FlashConfig}
use Rattle.hc_types.specs.FlashEntry.{FlashEntry}
use Rattle.hc_bucket.proofs.Numbers.{some_is}
use Rattle.hc_engines.specs.Engine.{Op, Put, Get, Delete, Flush, Reclaim, Order, IoResult, Page, Written, Failed, Answer, Nothing, Over, Absent, Found, Loss, Outcome, Next, Busy, Io, Done}
use Rattle.hc_engines.specs.small.BigHash as bighash
use Rattle.hc_engines.specs.small.BigHash.{BigHash, Plan, ToRead, ToWrite, ToEnd, ToKeep, ToGiveUp, next_of, begun, went_on, our_bucket, is_busy, start_at, moved, word_at, job_at}
use Rattle.hc_engines.specs.large.Entries.{entry_in}
use Rattle.hc_engines.specs.large.Region.{Status, Clean, Open, Sealed, Flushing, OnFlash, Draining, is_draining, region_at, page_done, can_go, lowest_clean}
use Rattle.hc_engines.specs.large.Index.{Place, place_at, is_place}
use Rattle.hc_engines.specs.large.Block as block
use Rattle.hc_engines.specs.large.Block.{Block, Work, end_job}
use Rattle.hc_engines.specs.large.Steps as steps
use Rattle.hc_engines.specs.pair.Pair as pairs
use Rattle.hc_engines.specs.pair.Pair.{Pair, Moved, by_small, by_large, then_large, after_losses, after_small, start, resume, resume_in, resume_work, waits_for}
use Rattle.hc_engines.proofs.pair.Numbers.{mapped_some}
use Rattle.hc_invariant.specs.LargeAlone.{LargeAlone}
use Rattle.hc_proof.specs.structure.Found.{AllMiss, AnswerIsLeft, NextIsLeft, IsBucket, AllBuckets, AbsentLoses, SmallLoses, Keeps}
use Rattle.hc_proof.proofs.structure.LargeAlone.{put_alone, flush_alone, reclaim_alone, get_alone, resume_alone, found_large}

-- ---- the small engine

record SmallKeeps (s : BigHash) (m : bighash.Moved) : Type 0 where
  flash : m.state.flash ≡ s.flash
  left : (flash : FlashConfig) → NextIsLeft flash m.next
  loses : SmallLoses m.next

ends_left : (flash : FlashConfig) (answer : Answer) → AnswerIsLeft flash answer []
ends_left flash Nothing = tt
ends_left flash Over = tt
ends_left flash Absent = tt
ends_left flash (Found entry) = tt

ends_loses : (answer : Answer) → AbsentLoses answer []
ends_loses Nothing = tt
ends_loses Over = tt
ends_loses Absent = tt
ends_loses (Found entry) = tt

gives_left : (flash : FlashConfig) (op : Op) (losses : List Loss) → AnswerIsLeft flash (bighash.given_up op) losses
gives_left flash (Put e) losses = tt
gives_left flash (Get key) losses = tt
gives_left flash (Delete key) losses = tt
gives_left flash Flush losses = tt
gives_left flash Reclaim losses = tt

gives_loses : (op : Op) (losses : List Loss) → AllBuckets losses → AbsentLoses (bighash.given_up op) losses
gives_loses (Put e) losses all = tt
gives_loses (Get key) losses all = all
gives_loses (Delete key) losses all = tt
gives_loses Flush losses all = tt
gives_loses Reclaim losses all = tt

plan_keeps : (s : BigHash) (number bucket : ℕ) (op : Op) (plan : Plan) → SmallKeeps s (moved s number bucket op plan)
plan_keeps s number bucket op ToRead = record { flash = refl; left = λ flash. tt; loses = tt }
plan_keeps s number bucket op (ToWrite es losses) = record { flash = refl; left = λ flash. tt; loses = tt }
plan_keeps s number bucket op (ToEnd answer) = record { flash = refl; left = λ flash. ends_left flash answer; loses = ends_loses answer }
plan_keeps s number bucket op (ToKeep word losses) = record { flash = refl; left = λ flash. tt; loses = tt }
plan_keeps s number bucket op ToGiveUp = record { flash = refl; left = λ flash. gives_left flash op _; loses = gives_loses op _ (tt, tt) }

small_started : (s : BigHash) (number : ℕ) (op : Op) → SmallKeeps s (bighash.start s number op)
small_started s number op = by (our_bucket s.flash op)
  where
    if_busy : (bucket : ℕ) (b : Bool) → SmallKeeps s (if b then record { state = s; next = Busy } else moved s number bucket op (begun (word_at s bucket) op))
    if_busy bucket true = record { flash = refl; left = λ flash. tt; loses = tt }
    if_busy bucket false = plan_keeps s number bucket op (begun (word_at s bucket) op)

    by : (bucket : Option ℕ) → SmallKeeps s (start_at s number op bucket)
    by None = record { flash = refl; left = λ flash. tt; loses = tt }
    by (Some bucket) = if_busy bucket (is_busy bucket s.jobs)

small_resumed : (s : BigHash) (number : ℕ) (result : IoResult) (m : bighash.Moved) → bighash.resume s number result ≡ Some m → SmallKeeps s m
small_resumed s number result m made = by (job_at number s.jobs) made
  where
    planned : (job : bighash.Job) (o : Option Plan) → bighash.resumed s job o ≡ Some m → SmallKeeps s m
    planned job None made = absurd cc
    planned job (Some plan) made = subst (λ (x : bighash.Moved). SmallKeeps s x) (some_is _ _ made) (plan_keeps s job.number job.bucket job.op plan)

    by : (o : Option bighash.Job) → bighash.resume_job s o result ≡ Some m → SmallKeeps s m
    by None made = absurd cc
    by (Some job) made = planned job (went_on s.flash.page job.op job.phase result) made

-- ---- the large engine

next_left : (flash : FlashConfig) (before : List Loss) (outcome : Outcome) (order : Option Order) → AnswerIsLeft flash outcome.answer (before ++ outcome.losses) → NextIsLeft flash (pairs.next_of (after_losses before outcome) order)
next_left flash before outcome None h = h
next_left flash before outcome (Some order) h = tt

buckets_miss : (flash : FlashConfig) (entry : FlashEntry) (losses : List Loss) → is_small_by flash entry.key (length entry.value) ≡ false → AllBuckets losses → AllMiss flash entry (losses ++ [])
buckets_miss flash entry [] large all = tt
buckets_miss flash entry (loss ∷ losses) large all = (by loss.scope all.0, buckets_miss flash entry losses large all.1)
  where
    none : (a b : Bool) → a ≡ false → (a && b) ≡ false
    none true b e = absurd cc
    none false b e = refl

    by : (scope : scopes.Scope) → IsBucket scope → scopes.covers (Some flash) scope entry.key (length entry.value) ≡ false
    by (scopes.Bucket bucket) is = none (is_small_by flash entry.key (length entry.value)) _ large
    by (scopes.Key key) is = absurd is
    by (scopes.Hash kept but) is = absurd is

module _ (flash : FlashConfig) (number : ℕ) where
  put_left : (e : FlashEntry) (s : Block) (losses : List Loss) → AnswerIsLeft flash (steps.put flash e s).outcome.answer losses
  put_left e s losses = by (steps.fitting flash s _ s.current)
    where
      fresh : (o : Option ℕ) → AnswerIsLeft flash (steps.put_fresh flash e s o).outcome.answer losses
      fresh None = tt
      fresh (Some r) = tt

      by : (o : Option ℕ) → AnswerIsLeft flash (steps.put_into flash e s o).outcome.answer losses
      by (Some r) = tt
      by None = fresh (lowest_clean 0 s.regions)

  flush_left : (s : Block) (losses : List Loss) → AnswerIsLeft flash (steps.flush flash number s).outcome.answer losses
  flush_left s losses = by (steps.first_ready s.regions s.sealed)
    where
      early_one : (r : ℕ) (b : Bool) → AnswerIsLeft flash (if b then steps.write_out flash number r (record (region_at r s.regions) { early = true }) s else block.unmoved s).outcome.answer losses
      early_one r true = tt
      early_one r false = tt

      early : (o : Option ℕ) → AnswerIsLeft flash (steps.early_of flash number s o).outcome.answer losses
      early None = tt
      early (Some r) = early_one r (can_go flash (region_at r s.regions))

      by : (o : Option ℕ) → AnswerIsLeft flash (steps.flush_of flash number s o).outcome.answer losses
      by None = early s.current
      by (Some r) = tt

  reclaim_left : (s : Block) (losses : List Loss) → AnswerIsLeft flash (steps.reclaim flash s).outcome.answer losses
  reclaim_left s losses = by (nat_lt (steps.clean_count s.regions) flash.clean)
    where
      of : (o : Option ℕ) → AnswerIsLeft flash (steps.reclaim_of s o).outcome.answer losses
      of None = tt
      of (Some r) = tt

      by : (b : Bool) → AnswerIsLeft flash (if b then steps.reclaim_of s (steps.oldest s.regions s.flushed) else block.unmoved s).outcome.answer losses
      by true = of (steps.oldest s.regions s.flushed)
      by false = tt

  -- ---- a get

  own_left : (key : List ℕ) (entry : FlashEntry) (losses : List Loss) → AllMiss flash entry losses → AnswerIsLeft flash (steps.own_entry key entry) losses
  own_left key entry losses miss = by (bytes_eq entry.key key)
    where
      by : (b : Bool) → AnswerIsLeft flash (if b then Found entry else Absent) losses
      by true = miss
      by false = tt

  -- where it loses nothing itself
  answered_left : (reading : block.Reading) (s : Block) → AnswerIsLeft flash (steps.answered flash reading s).outcome.answer (steps.answered flash reading s).outcome.losses
  answered_left reading s = by (is_place (place_at (kept_of flash.bits reading.key) s.index) reading.place)
    where
      of : (o : Option FlashEntry) → AnswerIsLeft flash (steps.answer_of (kept_of flash.bits reading.key) reading.key s o).outcome.answer (steps.answer_of (kept_of flash.bits reading.key) reading.key s o).outcome.losses
      of None = tt
      of (Some entry) = own_left reading.key entry [] tt

      by : (b : Bool) → AnswerIsLeft flash (if b then steps.answer_of (kept_of flash.bits reading.key) reading.key s (entry_in (steps.read_bytes flash reading)) else steps.absent s).outcome.answer
          (if b then steps.answer_of (kept_of flash.bits reading.key) reading.key s (entry_in (steps.read_bytes flash reading)) else steps.absent s).outcome.losses
      by true = of (entry_in (steps.read_bytes flash reading))
      by false = tt

  failed_left : (reading : block.Reading) (s : Block) (losses : List Loss) → AnswerIsLeft flash (steps.failed_read flash reading s).outcome.answer losses
  failed_left reading s losses = by (is_place (place_at (kept_of flash.bits reading.key) s.index) reading.place)
    where
      by : (b : Bool) → AnswerIsLeft flash (if b then steps.unreadable (kept_of flash.bits reading.key) s else steps.absent s).outcome.answer losses
      by true = tt
      by false = tt

  let_go_left : (r : ℕ) (m : block.Moved) → AnswerIsLeft flash m.outcome.answer m.outcome.losses → AnswerIsLeft flash (steps.let_go r m).outcome.answer (steps.let_go r m).outcome.losses
  let_go_left r m h = by (is_draining (region_at r m.state.regions).status && ((region_at r m.state.regions).pins == 1)) refl
    where
      by : (b : Bool) → (is_draining (region_at r m.state.regions).status && ((region_at r m.state.regions).pins == 1)) ≡ b → AnswerIsLeft flash (steps.let_go r m).outcome.answer (steps.let_go r m).outcome.losses
      by true e = rw e h
      by false e = rw e h

  -- one that begins, once the small engine gave its bucket up or has nothing
  get_left : (key : List ℕ) (s : Block) (before : List Loss) → AllBuckets before → LargeAlone flash s → AnswerIsLeft flash (steps.get flash number key s).outcome.answer (before ++ (steps.get flash number key s).outcome.losses)
  get_left key s before all alone = by (place_at (kept_of flash.bits key) s.index) refl
    where
      of : (place : Place) → place_at (kept_of flash.bits key) s.index ≡ Some place → nat_lt (steps.reading_of flash key place s).next (steps.reading_of flash key place s).until ≡ false → (o : Option FlashEntry) → entry_in (steps.read_bytes flash (steps.reading_of flash key place s)) ≡ o
          → AnswerIsLeft flash (steps.answer_of (kept_of flash.bits key) key s o).outcome.answer (before ++ (steps.answer_of (kept_of flash.bits key) key s o).outcome.losses)
      of place at over None read = tt
      of place at over (Some entry) read = own_left key entry (before ++ []) (buckets_miss flash entry before (found_large flash key place s entry alone at over read) all)

      here : (place : Place) → place_at (kept_of flash.bits key) s.index ≡ Some place → nat_lt (steps.reading_of flash key place s).next (steps.reading_of flash key place s).until ≡ false → (b : Bool)
          → AnswerIsLeft flash (if b then steps.answer_of (kept_of flash.bits key) key s (entry_in (steps.read_bytes flash (steps.reading_of flash key place s))) else steps.absent s).outcome.answer
          (before ++ (if b then steps.answer_of (kept_of flash.bits key) key s (entry_in (steps.read_bytes flash (steps.reading_of flash key place s))) else steps.absent s).outcome.losses)
      here place at over true = of place at over (entry_in (steps.read_bytes flash (steps.reading_of flash key place s))) refl
      here place at over false = tt

      begun_by : (place : Place) → place_at (kept_of flash.bits key) s.index ≡ Some place → (b : Bool) → nat_lt (steps.reading_of flash key place s).next (steps.reading_of flash key place s).until ≡ b
          → AnswerIsLeft flash (if b then steps.read_next flash number (steps.reading_of flash key place s) (steps.pinned place.region s) else steps.answered flash (steps.reading_of flash key place s) s).outcome.answer
          (before ++ (if b then steps.read_next flash number (steps.reading_of flash key place s) (steps.pinned place.region s) else steps.answered flash (steps.reading_of flash key place s) s).outcome.losses)
      begun_by place at true t = tt
      begun_by place at false t = here place at t (is_place (place_at (kept_of flash.bits key) s.index) place)

      by : (o : Option Place) → place_at (kept_of flash.bits key) s.index ≡ o → AnswerIsLeft flash (steps.get_at flash number key o s).outcome.answer (before ++ (steps.get_at flash number key o s).outcome.losses)
      by None at = tt
      by (Some place) at = begun_by place at (nat_lt (steps.reading_of flash key place s).next (steps.reading_of flash key place s).until) refl

  -- ---- a result

  work_left : (work : Work) (result : IoResult) (s : Block) → AnswerIsLeft flash (steps.resume flash number work result s).outcome.answer (steps.resume flash number work result s).outcome.losses
  work_left (block.Writing r bytes) Written s = by (region_at r s.regions).status
    where
      on : (b : Bool) → nat_lt ((region_at r s.regions).written + 1) flash.region_pages ≡ b → AnswerIsLeft flash (steps.go_on flash number r (page_done flash (region_at r s.regions)) (end_job number s)).outcome.answer (steps.go_on flash number r (page_done flash (region_at r s.regions)) (end_job number s)).outcome.losses
      on true t = rw t tt
      on false t = rw t tt

      by : (status : Status) → AnswerIsLeft flash (steps.wrote_page flash number r status (end_job number s)).outcome.answer (steps.wrote_page flash number r status (end_job number s)).outcome.losses
      by Clean = tt
      by Open = tt
      by Sealed = tt
      by Flushing = on (nat_lt ((region_at r s.regions).written + 1) flash.region_pages) refl
      by OnFlash = tt
      by Draining = tt
  work_left (block.Writing r bytes) Failed s = tt
  work_left (block.Writing r bytes) (Page page) s = tt
  work_left (block.Getting reading) (Page page) s = by (nat_lt (reading.next + 1) reading.until)
    where
      more : block.Reading
      more = record reading { got = reading.got ++ page; next = reading.next + 1 }

      by : (b : Bool)
          → AnswerIsLeft flash
          (if b then steps.read_next flash number (record reading { got = reading.got ++ page; next = reading.next + 1 }) (end_job number s)
          else steps.let_go reading.place.region (steps.answered flash (record reading { got = reading.got ++ page; next = reading.next + 1 }) (end_job number s))).outcome.answer
          (if b then steps.read_next flash number (record reading { got = reading.got ++ page; next = reading.next + 1 }) (end_job number s)
          else steps.let_go reading.place.region (steps.answered flash (record reading { got = reading.got ++ page; next = reading.next + 1 }) (end_job number s))).outcome.losses
      by true = tt
      by false = let_go_left reading.place.region (steps.answered flash (record reading { got = reading.got ++ page; next = reading.next + 1 }) (end_job number s)) (answered_left (record reading { got = reading.got ++ page; next = reading.next + 1 }) (end_job number s))
  work_left (block.Getting reading) Failed s = let_go_left reading.place.region (steps.failed_read flash reading (end_job number s)) (failed_left reading (end_job number s) _)
  work_left (block.Getting reading) Written s = tt

-- ---- both engines

small_both : (pair : Pair) (m : bighash.Moved) → SmallKeeps pair.small m → Keeps pair (by_small pair m)
small_both pair m k = record { flash = k.flash; large = λ a. subst (λ (f : FlashConfig). LargeAlone f pair.large) (sym k.flash) a; left = λ a. k.left pair.small.flash }

large_both : (pair : Pair) (m : block.Moved) → (LargeAlone pair.small.flash pair.large → LargeAlone pair.small.flash m.state) → AnswerIsLeft pair.small.flash m.outcome.answer m.outcome.losses → Keeps pair (by_large pair [] m)
large_both pair m large left = record { flash = refl; large = large; left = λ a. next_left pair.small.flash [] m.outcome m.order left }

-- a get may go on from the small engine to the large one
then_keeps : (number : ℕ) (op : Op) (pair : Pair) (m : bighash.Moved) → SmallKeeps pair.small m → Keeps pair (after_small number op (by_small pair m))
then_keeps number (Put e) pair m k = small_both pair m k
then_keeps number (Delete key) pair m k = small_both pair m k
then_keeps number Flush pair m k = small_both pair m k
then_keeps number Reclaim pair m k = small_both pair m k
then_keeps number (Get key) pair m k = by m.next refl
  where
    whole : (next : Next) → m.next ≡ next → Keeps pair (record { pair = (by_small pair m).pair; next = next })
    whole next e = subst (λ (x : Next). Keeps pair (record { pair = (by_small pair m).pair; next = x })) e (small_both pair m k)

    both : (outcome : Outcome) → AllBuckets outcome.losses → Keeps pair (by_large (by_small pair m).pair outcome.losses (steps.get m.state.flash number key pair.large))
    both outcome all = record {
      flash = k.flash;
      large = λ a. get_alone m.state.flash number key pair.large (subst (λ (f : FlashConfig). LargeAlone f pair.large) (sym k.flash) a);
      left = λ a. subst (λ (f : FlashConfig). NextIsLeft pair.small.flash (pairs.next_of (after_losses outcome.losses (steps.get f number key pair.large).outcome) (steps.get f number key pair.large).order)) (sym k.flash)
          (next_left pair.small.flash outcome.losses (steps.get pair.small.flash number key pair.large).outcome (steps.get pair.small.flash number key pair.large).order (get_left pair.small.flash number key pair.large outcome.losses all a));
    }

    on : (outcome : Outcome) → m.next ≡ Done outcome → (answer : Answer) → outcome.answer ≡ answer → Keeps pair (pairs.went_on number key (by_small pair m).pair outcome answer)
    on outcome e Absent is = both outcome (subst (λ (a : Answer). AbsentLoses a outcome.losses) is (subst SmallLoses e k.loses))
    on outcome e Nothing is = whole (Done outcome) e
    on outcome e Over is = whole (Done outcome) e
    on outcome e (Found entry) is = whole (Done outcome) e

    by : (next : Next) → m.next ≡ next → Keeps pair (then_large number (Get key) (by_small pair m).pair next)
    by Busy e = whole Busy e
    by (Io order outcome) e = whole (Io order outcome) e
    by (Done outcome) e = on outcome e outcome.answer refl

-- ---- the two calls

pub started_keeps : (number : ℕ) (op : Op) (pair : Pair) → Keeps pair (start number op pair)
started_keeps number (Put e) pair = by (is_small_by pair.small.flash e.key (length e.value)) refl
  where
    by : (b : Bool) → is_small_by pair.small.flash e.key (length e.value) ≡ b → Keeps pair (if b then by_small pair (bighash.start pair.small number (Put e)) else by_large pair [] (steps.put pair.small.flash e pair.large))
    by true t = small_both pair _ (small_started pair.small number (Put e))
    by false t = large_both pair _ (put_alone pair.small.flash e pair.large t) (put_left pair.small.flash number e pair.large _)
started_keeps number (Get key) pair = then_keeps number (Get key) pair _ (small_started pair.small number (Get key))
started_keeps number (Delete key) pair = small_both pair _ (small_started pair.small number (Delete key))
started_keeps number Flush pair = large_both pair _ (flush_alone pair.small.flash number pair.large) (flush_left pair.small.flash number pair.large _)
started_keeps number Reclaim pair = large_both pair _ (reclaim_alone pair.small.flash pair.large) (reclaim_left pair.small.flash number pair.large _)

pub resumed_keeps : (number : ℕ) (result : IoResult) (pair : Pair) (moved : Moved) → resume number result pair ≡ Some moved → Keeps pair moved
resumed_keeps number result pair moved made = by (job_at number pair.small.jobs) refl (block.work_of number pair.large.jobs) refl made
  where
    by : (job : Option bighash.Job) → job_at number pair.small.jobs ≡ job → (work : Option Work) → block.work_of number pair.large.jobs ≡ work → resume_in number result pair job ≡ Some moved → Keeps pair moved
    by (Some job) at work there made =
        let m = mapped_some (λ m. after_small number job.op (by_small pair m)) (bighash.resume pair.small number result) moved made in
        subst (λ (x : Moved). Keeps pair x) m.2 (then_keeps number job.op pair m.0 (small_resumed pair.small number result m.0 m.1))
    by None at None there made = let wrong : None ≡ Some moved = (rw there at made) in absurd cc
    by None at (Some work) there made =
        let came : resume_work number result pair work ≡ Some moved = (rw there at made) in
        subst (λ (x : Moved). Keeps pair x) (cond_some (waits_for work result) _ moved came).1
        (large_both pair _ (resume_alone pair.small.flash number work result pair.large) (work_left pair.small.flash number work result pair.large))
