-- What a call of both engines does to their lists of operations.
use Rattle.std.proofs.Common.{◌≡◌, ℕ, ◌+◌, ◌≤◌, ◌==◌, Bool, true, false, not, ◌&&◌, List, [], ◌∷◌, ◌++◌, length, Option, Some, None, refl, ap, sym, ◌∙◌, arith, cond, subst}
use Rattle.std.specs.Prelude.{if◌then◌else◌, is_some, nat_lt}
use Rattle.std.specs.Str.{bytes_eq}
use Rattle.std.proofs.lemmas.Option.{cond_some}
use Rattle.hc_types.specs.Tally.{tally, count}
use Rattle.hc_types.proofs.Tallies.{tally-push}
use Rattle.hc_types.specs.Places.{kept_of, is_small_by}
use Rattle.hc_types.specs.declared.config.FlashConfig.{FlashConfig}
use Rattle.hc_types.specs.FlashEntry.{FlashEntry}
use Rattle.hc_bucket.specs.Reading.{page_at}
use Rattle.hc_bucket.proofs.Numbers.{some_is}
use Rattle.hc_engines.specs.Engine.{Op, Put, Get, Delete, Flush, Reclaim, Order, IoResult, Page, Written, Failed, Answer, Nothing, Over, Absent, Found, Loss, Outcome, Next, Busy, Io, Done, found}
use Rattle.hc_engines.specs.small.Bloom as bloom
use Rattle.hc_engines.specs.small.Entries as entries
use Rattle.hc_engines.specs.small.Entries.{under}
use Rattle.hc_engines.specs.small.BigHash as bighash
use Rattle.hc_engines.specs.small.BigHash.{BigHash, Phase, Reading, Writing, Plan, ToRead, ToWrite, ToEnd, ToKeep, ToGiveUp, make_job, with_job, without_job, jobs_after, waits, next_of, begun, was_read, read_as, went_on, our_bucket, is_busy, start_at, moved, word_at, job_at}
use Rattle.hc_engines.specs.large.Entries.{entry_in}
use Rattle.hc_engines.specs.large.Region.{Status, Clean, Open, Sealed, Flushing, OnFlash, Draining, Region, is_draining, region_at, next_page, page_done, can_go, lowest_clean}
use Rattle.hc_engines.specs.large.Index.{Place, place_at, is_place}
use Rattle.hc_engines.specs.large.Block as block
use Rattle.hc_engines.specs.large.Block.{Block, Work, end_job}
use Rattle.hc_engines.specs.large.Steps as steps
use Rattle.hc_engines.specs.pair.Pair as pairs
use Rattle.hc_engines.specs.pair.Pair.{Pair, Moved, by_small, by_large, then_large, after_small, start, resume, resume_in, resume_work, waits_for}
use Rattle.hc_engines.proofs.small.Under.{under-key}
use Rattle.hc_engines.proofs.small.Single.{number_at}
use Rattle.hc_engines.proofs.pair.Numbers.{mapped_some}
use Rattle.hc_memory.proofs.Keyed.{same_bytes}
use Rattle.hc_invariant.specs.Structure.{Asks, is_get_of, is_read_of, is_small_job, is_large_job, operations}
use Rattle.hc_proof.specs.structure.Operations.{IsWorkOf, AnswerIsOf, NextIsOf, OnlySmall, OnlyLarge, Rests, Does}

-- ---- the small engine's list

small_less : (f : bighash.Job → ℕ) (number : ℕ) (jobs : List bighash.Job) → tally f (without_job number jobs) ≤ tally f jobs
small_less f number [] = omega arith
small_less f number (job ∷ jobs) = step (job.number == number) (small_less f number jobs)
  where
    step : (b : Bool) → tally f (without_job number jobs) ≤ tally f jobs → tally f (if b then jobs else job ∷ without_job number jobs) ≤ f job + tally f jobs
    step true h = omega arith
    step false h = omega (arith, h)

small_only : (number bucket : ℕ) (op : Op) (jobs : List bighash.Job) (phase : Option Phase) → OnlySmall number op jobs (with_job (without_job number jobs) number bucket op phase)
small_only number bucket op jobs None f none = small_less f number jobs
small_only number bucket op jobs (Some phase) f none = omega (arith, small_less f number jobs, tally-push f (without_job number jobs) (make_job number bucket op phase), none bucket phase)

-- it answers what is of its key
abbrev PlanIsOf : Op → Plan → Type 0
PlanIsOf op (ToEnd answer) = AnswerIsOf op answer
PlanIsOf op plan = Unit {0}

found_is : (key : List ℕ) (o : Option FlashEntry) → ((e : FlashEntry) → o ≡ Some e → e.key ≡ key) → AnswerIsOf (Get key) (found o)
found_is key None h = tt
found_is key (Some e) h = h e refl

no_answer : (op : Op) → AnswerIsOf op Nothing
no_answer (Put e) = tt
no_answer (Get key) = tt
no_answer (Delete key) = tt
no_answer Flush = tt
no_answer Reclaim = tt

is_over : (op : Op) → AnswerIsOf op Over
is_over (Put e) = tt
is_over (Get key) = tt
is_over (Delete key) = tt
is_over Flush = tt
is_over Reclaim = tt

is_absent : (op : Op) → AnswerIsOf op Absent
is_absent (Put e) = tt
is_absent (Get key) = tt
is_absent (Delete key) = tt
is_absent Flush = tt
is_absent Reclaim = tt

gave_up : (op : Op) → AnswerIsOf op (bighash.given_up op)
gave_up (Put e) = tt
gave_up (Get key) = tt
gave_up (Delete key) = tt
gave_up Flush = tt
gave_up Reclaim = tt

next_is : (size bucket : ℕ) (op : Op) (plan : Plan) → PlanIsOf op plan → NextIsOf op (next_of size bucket op plan)
next_is size bucket op ToRead h = tt
next_is size bucket op (ToWrite es losses) h = tt
next_is size bucket op (ToEnd answer) h = h
next_is size bucket op (ToKeep word losses) h = is_over op
next_is size bucket op ToGiveUp h = gave_up op

begun_is : (word : Option ℕ) (op : Op) → PlanIsOf op (begun word op)
begun_is None (Put e) = tt
begun_is None (Get key) = tt
begun_is None (Delete key) = tt
begun_is (Some word) (Put e) = tt
begun_is (Some word) (Get key) = step (bloom.could_have word key)
  where
    step : (b : Bool) → PlanIsOf (Get key) (if b then ToRead else ToEnd Absent)
    step true = tt
    step false = tt
begun_is (Some word) (Delete key) = tt
begun_is None Flush = tt
begun_is (Some word) Flush = tt
begun_is None Reclaim = tt
begun_is (Some word) Reclaim = tt

read_is : (size : ℕ) (op : Op) (es : Option (List FlashEntry)) → PlanIsOf op (read_as size op es)
read_is size op None = tt
read_is size (Put e) (Some es) = tt
read_is size (Get key) (Some es) = found_is key (under key es) (λ e at. same_bytes e.key key (under-key key es e at))
read_is size (Delete key) (Some es) = step (is_some (under key es))
  where
    step : (b : Bool) → PlanIsOf (Delete key) (if b then ToWrite (entries.without key es) [] else ToEnd Over)
    step true = tt
    step false = tt
read_is size Flush (Some es) = tt
read_is size Reclaim (Some es) = tt

went_is : (size : ℕ) (op : Op) (phase : Phase) (result : IoResult) (plan : Plan) → went_on size op phase result ≡ Some plan → PlanIsOf op plan
went_is size op Reading (Page bytes) plan e = subst (PlanIsOf op) (some_is _ _ e) (read_is size op (page_at size bytes))
went_is size op Reading Failed plan e = subst (PlanIsOf op) (some_is _ _ e) tt
went_is size op Reading Written plan e = absurd cc
went_is size op (Writing es losses) Written plan e = subst (PlanIsOf op) (some_is _ _ e) tt
went_is size op (Writing es losses) Failed plan e = subst (PlanIsOf op) (some_is _ _ e) tt
went_is size op (Writing es losses) (Page bytes) plan e = absurd cc

-- ---- a step of it

record SmallDoes (number : ℕ) (op : Op) (old : BigHash) (m : bighash.Moved) : Type 0 where
  only : OnlySmall number op old.jobs m.state.jobs
  answer : NextIsOf op m.next
  rests : (large : Block) → Rests (record { small = old; large = large }) (record { small = m.state; large = large }) m.next

carried_rests : (s : BigHash) (number bucket : ℕ) (op : Op) (large : Block) (plan : Plan) → Rests (record { small = s; large = large }) (record { small = (moved s number bucket op plan).state; large = large }) (next_of s.flash.page bucket op plan)
carried_rests s number bucket op large ToRead = tt
carried_rests s number bucket op large (ToWrite es losses) = tt
carried_rests s number bucket op large (ToEnd answer) = λ n. omega (arith, small_less (λ (job : bighash.Job). cond (is_small_job n job) 1 0) number s.jobs)
carried_rests s number bucket op large (ToKeep word losses) = λ n. omega (arith, small_less (λ (job : bighash.Job). cond (is_small_job n job) 1 0) number s.jobs)
carried_rests s number bucket op large ToGiveUp = λ n. omega (arith, small_less (λ (job : bighash.Job). cond (is_small_job n job) 1 0) number s.jobs)

carried_does : (s : BigHash) (number bucket : ℕ) (op : Op) (plan : Plan) → PlanIsOf op plan → SmallDoes number op s (moved s number bucket op plan)
carried_does s number bucket op plan is = record {
  only = small_only number bucket op s.jobs (waits plan);
  answer = next_is s.flash.page bucket op plan is;
  rests = λ large. carried_rests s number bucket op large plan;
}

start_does : (s : BigHash) (number : ℕ) (op : Op) → SmallDoes number op s (bighash.start s number op)
start_does s number op = by (our_bucket s.flash op)
  where
    if_busy : (bucket : ℕ) (b : Bool) → SmallDoes number op s (if b then record { state = s; next = Busy } else moved s number bucket op (begun (word_at s bucket) op))
    if_busy bucket true = record { only = λ f none. omega arith; answer = tt; rests = λ large n. omega arith }
    if_busy bucket false = carried_does s number bucket op (begun (word_at s bucket) op) (begun_is (word_at s bucket) op)

    by : (bucket : Option ℕ) → SmallDoes number op s (start_at s number op bucket)
    by None = record { only = λ f none. omega arith; answer = no_answer op; rests = λ large n. omega arith }
    by (Some bucket) = if_busy bucket (is_busy bucket s.jobs)

resume_does : (s : BigHash) (number : ℕ) (result : IoResult) (job : bighash.Job) (m : bighash.Moved) → job_at number s.jobs ≡ Some job → bighash.resume s number result ≡ Some m → SmallDoes number job.op s m
resume_does s number result job m at made = by (went_on s.flash.page job.op job.phase result) refl (ap (λ (o : Option bighash.Job). bighash.resume_job s o result) (sym at) ∙ made)
  where
    by : (plan : Option Plan) → went_on s.flash.page job.op job.phase result ≡ plan → bighash.resumed s job plan ≡ Some m → SmallDoes number job.op s m
    by None e made = absurd cc
    by (Some plan) e made =
        subst (λ (n : ℕ). SmallDoes n job.op s m) (number_at number s.jobs job at)
        (subst (λ (x : bighash.Moved). SmallDoes job.number job.op s x) (some_is _ _ made) (carried_does s job.number job.bucket job.op plan (went_is s.flash.page job.op job.phase result plan e)))

-- ---- the large engine's list

large_less : (f : block.Job → ℕ) (number : ℕ) (jobs : List block.Job) → tally f (block.without_job number jobs) ≤ tally f jobs
large_less f number [] = omega arith
large_less f number (job ∷ jobs) = step (job.number == number) (large_less f number jobs)
  where
    step : (b : Bool) → tally f (block.without_job number jobs) ≤ tally f jobs → tally f (if b then block.without_job number jobs else job ∷ block.without_job number jobs) ≤ f job + tally f jobs
    step true h = omega (arith, h)
    step false h = omega (arith, h)

large_more : (f : block.Job → ℕ) (number : ℕ) (work : Work) (jobs : List block.Job) → tally f (block.job_added number work jobs) ≡ f (record { number = number; work = work }) + tally f jobs
large_more f number work [] = refl
large_more f number work (job ∷ jobs) = step (nat_lt job.number number) (large_more f number work jobs)
  where
    step : (b : Bool) → tally f (block.job_added number work jobs) ≡ f (record { number = number; work = work }) + tally f jobs
        → tally f (if b then job ∷ block.job_added number work jobs else record { number = number; work = work } ∷ job ∷ jobs) ≡ f (record { number = number; work = work }) + (f job + tally f jobs)
    step true h = omega (arith, h)
    step false h = omega arith

-- ---- a step of it

-- it waits for no order, and then no operation comes
abbrev NoMore : Option Order → List block.Job → List block.Job → Type 0
NoMore (Some order) old new = Unit {0}
NoMore None old new = (f : block.Job → ℕ) → tally f new ≤ tally f old

record LargeDoes (number : ℕ) (op : Op) (old : List block.Job) (m : block.Moved) : Type 0 where
  only : OnlyLarge number op old m.state.jobs
  answer : AnswerIsOf op m.outcome.answer
  rests : NoMore m.order old m.state.jobs

-- it is over
over : (number : ℕ) (op : Op) (old : List block.Job) (m : block.Moved) → m.order ≡ None → ((f : block.Job → ℕ) → tally f m.state.jobs ≤ tally f old) → AnswerIsOf op m.outcome.answer → LargeDoes number op old m
over number op old m order less answer = record { only = λ f none. less f; answer = answer; rests = subst (λ (o : Option Order). NoMore o old m.state.jobs) (sym order) less }

-- it goes on with this work
goes_on : (number : ℕ) (op : Op) (old : List block.Job) (work : Work) (s : Block) (outcome : Outcome) (order : Order) → IsWorkOf op work → ((f : block.Job → ℕ) → tally f s.jobs ≤ tally f old) → AnswerIsOf op outcome.answer
    → LargeDoes number op old (record { state = block.with_job number work s; outcome = outcome; order = Some order })
goes_on number op old work s outcome order is less answer = record { only = λ f none. omega (arith, less f, large_more f number work s.jobs, none work is); answer = answer; rests = tt }

same_jobs : (s : Block) (f : block.Job → ℕ) → tally f s.jobs ≤ tally f s.jobs
same_jobs s f = omega arith

ended : (number : ℕ) (s : Block) (f : block.Job → ℕ) → tally f (end_job number s).jobs ≤ tally f s.jobs
ended number s f = large_less f number s.jobs

module _ (flash : FlashConfig) (number : ℕ) where
  put_does : (e : FlashEntry) (s : Block) (o : Option ℕ) → LargeDoes number (Put e) s.jobs (steps.put_into flash e s o)
  put_does e s (Some r) = over number (Put e) s.jobs _ refl (same_jobs s) tt
  put_does e s None = fresh (lowest_clean 0 s.regions)
    where
      fresh : (o : Option ℕ) → LargeDoes number (Put e) s.jobs (steps.put_fresh flash e s o)
      fresh None = over number (Put e) s.jobs _ refl (same_jobs s) tt
      fresh (Some r) = over number (Put e) s.jobs _ refl (same_jobs s) tt

  pub reclaim_same : (s : Block) → (steps.reclaim flash s).state.jobs ≡ s.jobs
  reclaim_same s = by (nat_lt (steps.clean_count s.regions) flash.clean)
    where
      of : (o : Option ℕ) → (steps.reclaim_of s o).state.jobs ≡ s.jobs
      of None = refl
      of (Some r) = refl

      by : (b : Bool) → (if b then steps.reclaim_of s (steps.oldest s.regions s.flushed) else block.unmoved s).state.jobs ≡ s.jobs
      by true = of (steps.oldest s.regions s.flushed)
      by false = refl

  reclaim_does : (s : Block) → LargeDoes number Reclaim s.jobs (steps.reclaim flash s)
  reclaim_does s = by (nat_lt (steps.clean_count s.regions) flash.clean)
    where
      of : (o : Option ℕ) → LargeDoes number Reclaim s.jobs (steps.reclaim_of s o)
      of None = over number Reclaim s.jobs _ refl (same_jobs s) tt
      of (Some r) = over number Reclaim s.jobs _ refl (same_jobs s) tt

      by : (b : Bool) → LargeDoes number Reclaim s.jobs (if b then steps.reclaim_of s (steps.oldest s.regions s.flushed) else block.unmoved s)
      by true = of (steps.oldest s.regions s.flushed)
      by false = over number Reclaim s.jobs _ refl (same_jobs s) tt

  -- ---- pages that go out

  page_out : (r : ℕ) (x : Region) (old : List block.Job) (s : Block) → ((f : block.Job → ℕ) → tally f s.jobs ≤ tally f old) → LargeDoes number Flush old (steps.write_out flash number r x s)
  page_out r x old s less = goes_on number Flush old (block.Writing r (next_page flash x)) (block.with_region r x s) _ _ tt less tt

  flush_does : (s : Block) → LargeDoes number Flush s.jobs (steps.flush flash number s)
  flush_does s = by (steps.first_ready s.regions s.sealed)
    where
      early_one : (r : ℕ) (b : Bool) → LargeDoes number Flush s.jobs (if b then steps.write_out flash number r (record (region_at r s.regions) { early = true }) s else block.unmoved s)
      early_one r true = page_out r (record (region_at r s.regions) { early = true }) s.jobs s (same_jobs s)
      early_one r false = over number Flush s.jobs _ refl (same_jobs s) tt

      early : (o : Option ℕ) → LargeDoes number Flush s.jobs (steps.early_of flash number s o)
      early None = over number Flush s.jobs _ refl (same_jobs s) tt
      early (Some r) = early_one r (can_go flash (region_at r s.regions))

      by : (o : Option ℕ) → LargeDoes number Flush s.jobs (steps.flush_of flash number s o)
      by None = early s.current
      by (Some r) = page_out r (record (region_at r s.regions) { status = Flushing }) s.jobs _ (same_jobs s)

  wrote_does : (r : ℕ) (s : Block) (status : Status) → LargeDoes number Flush s.jobs (steps.wrote_page flash number r status (end_job number s))
  wrote_does r s Clean = over number Flush s.jobs _ refl (ended number s) tt
  wrote_does r s Open = over number Flush s.jobs _ refl (ended number s) tt
  wrote_does r s Sealed = over number Flush s.jobs _ refl (ended number s) tt
  wrote_does r s OnFlash = over number Flush s.jobs _ refl (ended number s) tt
  wrote_does r s Draining = over number Flush s.jobs _ refl (ended number s) tt
  wrote_does r s Flushing = next (nat_lt ((region_at r s.regions).written + 1) flash.region_pages) refl
    where
      next : (b : Bool) → nat_lt ((region_at r s.regions).written + 1) flash.region_pages ≡ b → LargeDoes number Flush s.jobs (steps.go_on flash number r (page_done flash (region_at r s.regions)) (end_job number s))
      next true e = rw e (page_out r (page_done flash (region_at r s.regions)) s.jobs (end_job number s) (ended number s))
      next false e = rw e (over number Flush s.jobs _ refl (ended number s) tt)

  -- ---- gets

  -- a part of a get that answers
  record Answers (key : List ℕ) (s : Block) (m : block.Moved) : Type 0 where
    jobs : m.state.jobs ≡ s.jobs
    order : m.order ≡ None
    answer : AnswerIsOf (Get key) m.outcome.answer

  own_is : (key : List ℕ) (e : FlashEntry) → AnswerIsOf (Get key) (steps.own_entry key e)
  own_is key e = by (bytes_eq e.key key) refl
    where
      by : (b : Bool) → bytes_eq e.key key ≡ b → AnswerIsOf (Get key) (if b then Found e else Absent)
      by true t = same_bytes e.key key t
      by false t = tt

  answered_is : (reading : block.Reading) (s : Block) → Answers reading.key s (steps.answered flash reading s)
  answered_is reading s = by (is_place (place_at (kept_of flash.bits reading.key) s.index) reading.place)
    where
      of : (o : Option FlashEntry) → Answers reading.key s (steps.answer_of (kept_of flash.bits reading.key) reading.key s o)
      of None = record { jobs = refl; order = refl; answer = tt }
      of (Some e) = record { jobs = refl; order = refl; answer = own_is reading.key e }

      by : (b : Bool) → Answers reading.key s (if b then steps.answer_of (kept_of flash.bits reading.key) reading.key s (entry_in (steps.read_bytes flash reading)) else steps.absent s)
      by true = of (entry_in (steps.read_bytes flash reading))
      by false = record { jobs = refl; order = refl; answer = tt }

  failed_is : (reading : block.Reading) (s : Block) → Answers reading.key s (steps.failed_read flash reading s)
  failed_is reading s = by (is_place (place_at (kept_of flash.bits reading.key) s.index) reading.place)
    where
      by : (b : Bool) → Answers reading.key s (if b then steps.unreadable (kept_of flash.bits reading.key) s else steps.absent s)
      by true = record { jobs = refl; order = refl; answer = tt }
      by false = record { jobs = refl; order = refl; answer = tt }

  -- it is the whole step, or the last part of it
  answers_does : (key : List ℕ) (old : List block.Job) (s : Block) (m : block.Moved) → ((f : block.Job → ℕ) → tally f s.jobs ≤ tally f old) → Answers key s m → LargeDoes number (Get key) old m
  answers_does key old s m less a = over number (Get key) old m a.order (λ f. omega (arith, less f, ap (λ (jobs : List block.Job). tally f jobs) a.jobs)) a.answer

  let_go_is : (key : List ℕ) (r : ℕ) (s : Block) (m : block.Moved) → Answers key s m → Answers key s (steps.let_go r m)
  let_go_is key r s m a = by (is_draining (region_at r m.state.regions).status && ((region_at r m.state.regions).pins == 1)) refl
    where
      by : (b : Bool) → (is_draining (region_at r m.state.regions).status && ((region_at r m.state.regions).pins == 1)) ≡ b → Answers key s (steps.let_go r m)
      by true e = rw e (record { jobs = a.jobs; order = a.order; answer = a.answer })
      by false e = rw e (record { jobs = a.jobs; order = a.order; answer = a.answer })

  get_does : (key : List ℕ) (s : Block) (o : Option Place) → LargeDoes number (Get key) s.jobs (steps.get_at flash number key o s)
  get_does key s None = over number (Get key) s.jobs _ refl (same_jobs s) tt
  get_does key s (Some place) = by (nat_lt (steps.reading_of flash key place s).next (steps.reading_of flash key place s).until)
    where
      by : (b : Bool) → LargeDoes number (Get key) s.jobs (if b then steps.read_next flash number (steps.reading_of flash key place s) (steps.pinned place.region s) else steps.answered flash (steps.reading_of flash key place s) s)
      by true = goes_on number (Get key) s.jobs (block.Getting (steps.reading_of flash key place s)) (steps.pinned place.region s) _ _ refl (same_jobs s) tt
      by false = answers_does key s.jobs s _ (same_jobs s) (answered_is (steps.reading_of flash key place s) s)

  got_does : (reading : block.Reading) (bytes : List ℕ) (s : Block) → LargeDoes number (Get reading.key) s.jobs (steps.got_page flash number reading bytes (end_job number s))
  got_does reading bytes s = by (nat_lt (reading.next + 1) reading.until)
    where
      by : (b : Bool) → LargeDoes number (Get reading.key) s.jobs
          (if b then steps.read_next flash number (record reading { got = reading.got ++ bytes; next = reading.next + 1 }) (end_job number s)
          else steps.let_go reading.place.region (steps.answered flash (record reading { got = reading.got ++ bytes; next = reading.next + 1 }) (end_job number s)))
      by true = goes_on number (Get reading.key) s.jobs (block.Getting (record reading { got = reading.got ++ bytes; next = reading.next + 1 })) (end_job number s) _ _ refl (ended number s) tt
      by false = answers_does reading.key s.jobs (end_job number s) _ (ended number s) (let_go_is reading.key reading.place.region (end_job number s) _ (answered_is (record reading { got = reading.got ++ bytes; next = reading.next + 1 }) (end_job number s)))

  -- what a work is an operation of
  abbrev pub op_of : Work → Op
  op_of (block.Writing r bytes) = Flush
  op_of (block.Getting reading) = Get reading.key

  work_does : (work : Work) (result : IoResult) (s : Block) → LargeDoes number (op_of work) s.jobs (steps.resume flash number work result s)
  work_does (block.Writing r bytes) Written s = wrote_does r s (region_at r s.regions).status
  work_does (block.Writing r bytes) Failed s = over number Flush s.jobs _ refl (ended number s) tt
  work_does (block.Writing r bytes) (Page page) s = over number Flush s.jobs _ refl (ended number s) tt
  work_does (block.Getting reading) (Page page) s = got_does reading page s
  work_does (block.Getting reading) Written s = over number (Get reading.key) s.jobs _ refl (ended number s) tt
  work_does (block.Getting reading) Failed s = answers_does reading.key s.jobs (end_job number s) _ (ended number s) (let_go_is reading.key reading.place.region (end_job number s) _ (failed_is reading (end_job number s)))

-- ---- both engines

small_both : (number : ℕ) (op : Op) (pair : Pair) (m : bighash.Moved) → SmallDoes number op pair.small m → Does number op pair (by_small pair m)
small_both number op pair m d = record { small = d.only; large = λ f none. omega arith; answer = d.answer; rests = d.rests pair.large }

next_answer : (op : Op) (before : List Loss) (outcome : Outcome) (order : Option Order) → AnswerIsOf op outcome.answer → NextIsOf op (pairs.next_of (pairs.after_losses before outcome) order)
next_answer op before outcome None h = h
next_answer op before outcome (Some order) h = tt

large_rests : (old new : Pair) (outcome : Outcome) (order : Option Order) → ((f : bighash.Job → ℕ) → tally f new.small.jobs ≤ tally f old.small.jobs) → NoMore order old.large.jobs new.large.jobs → Rests old new (pairs.next_of outcome order)
large_rests old new outcome None less h = λ n. omega (arith, less (λ (job : bighash.Job). cond (is_small_job n job) 1 0), h (λ (job : block.Job). cond (is_large_job n job) 1 0))
large_rests old new outcome (Some order) less h = tt

large_both : (number : ℕ) (op : Op) (pair : Pair) (before : List Loss) (m : block.Moved) → LargeDoes number op pair.large.jobs m → Does number op pair (by_large pair before m)
large_both number op pair before m d = record {
  small = λ f none. omega arith;
  large = d.only;
  answer = next_answer op before m.outcome m.order d.answer;
  rests = large_rests pair (by_large pair before m).pair (pairs.after_losses before m.outcome) m.order (λ f. omega arith) d.rests;
}

-- a get may go on from the small engine to the large one
then_does : (number : ℕ) (op : Op) (pair : Pair) (m : bighash.Moved) → SmallDoes number op pair.small m → Does number op pair (after_small number op (by_small pair m))
then_does number (Put e) pair m d = small_both number (Put e) pair m d
then_does number (Delete key) pair m d = small_both number (Delete key) pair m d
then_does number Flush pair m d = small_both number Flush pair m d
then_does number Reclaim pair m d = small_both number Reclaim pair m d
then_does number (Get key) pair m d = by m.next refl
  where
    whole : (next : Next) → m.next ≡ next → Does number (Get key) pair (record { pair = (by_small pair m).pair; next = next })
    whole next e = subst (λ (x : Next). Does number (Get key) pair (record { pair = (by_small pair m).pair; next = x })) e (small_both number (Get key) pair m d)

    less : (outcome : Outcome) → m.next ≡ Done outcome → (n : ℕ) → operations (by_small pair m).pair n ≤ operations pair n
    less outcome e = subst (λ (x : Next). Rests pair (by_small pair m).pair x) e (d.rests pair.large)

    both_rest : (outcome : Outcome) → m.next ≡ Done outcome → (large : block.Moved) → LargeDoes number (Get key) pair.large.jobs large → (order : Option Order) → large.order ≡ order
        → Rests pair (by_large (by_small pair m).pair outcome.losses large).pair (pairs.next_of (pairs.after_losses outcome.losses large.outcome) order)
    both_rest outcome e large l (Some order) o = tt
    both_rest outcome e large l None o = λ n.
        let rests : NoMore None pair.large.jobs large.state.jobs = subst (λ (x : Option Order). NoMore x pair.large.jobs large.state.jobs) o l.rests in
        omega (arith, less outcome e n, rests (λ (job : block.Job). cond (is_large_job n job) 1 0))

    both : (outcome : Outcome) → m.next ≡ Done outcome → (large : block.Moved) → LargeDoes number (Get key) pair.large.jobs large → Does number (Get key) pair (by_large (by_small pair m).pair outcome.losses large)
    both outcome e large l = record { small = d.only; large = l.only; answer = next_answer (Get key) outcome.losses large.outcome large.order l.answer; rests = both_rest outcome e large l large.order refl }

    on : (outcome : Outcome) → m.next ≡ Done outcome → (answer : Answer) → Does number (Get key) pair (pairs.went_on number key (by_small pair m).pair outcome answer)
    on outcome e Absent = both outcome e _ (get_does m.state.flash number key pair.large (place_at (kept_of m.state.flash.bits key) pair.large.index))
    on outcome e Nothing = whole (Done outcome) e
    on outcome e Over = whole (Done outcome) e
    on outcome e (Found entry) = whole (Done outcome) e

    by : (next : Next) → m.next ≡ next → Does number (Get key) pair (then_large number (Get key) (by_small pair m).pair next)
    by Busy e = whole Busy e
    by (Io order outcome) e = whole (Io order outcome) e
    by (Done outcome) e = on outcome e outcome.answer

-- ---- the two calls

pub started : (number : ℕ) (op : Op) (pair : Pair) → Does number op pair (start number op pair)
started number (Put e) pair = by (is_small_by pair.small.flash e.key (length e.value))
  where
    by : (b : Bool) → Does number (Put e) pair (if b then by_small pair (bighash.start pair.small number (Put e)) else by_large pair [] (steps.put pair.small.flash e pair.large))
    by true = small_both number (Put e) pair _ (start_does pair.small number (Put e))
    by false = large_both number (Put e) pair [] _ (put_does pair.small.flash number e pair.large _)
started number (Get key) pair = then_does number (Get key) pair _ (start_does pair.small number (Get key))
started number (Delete key) pair = small_both number (Delete key) pair _ (start_does pair.small number (Delete key))
started number Flush pair = large_both number Flush pair [] _ (flush_does pair.small.flash number pair.large)
started number Reclaim pair = large_both number Reclaim pair [] _ (reclaim_does pair.small.flash number pair.large)

-- an operation that asks for the key only is a get of it
small_get : (key : List ℕ) (number : ℕ) (jobs : List bighash.Job) (job : bighash.Job) → job_at number jobs ≡ Some job → count (λ (j : bighash.Job). is_small_job number j && not (is_get_of key j.op)) jobs ≡ 0 → is_get_of key job.op ≡ true
small_get key number [] job at none = absurd cc
small_get key number (x ∷ jobs) job at none = step (x.number == number) (is_get_of key x.op) refl (small_get key number jobs job) at none
  where
    step : (b c : Bool) → is_get_of key x.op ≡ c → (job_at number jobs ≡ Some job → count (λ (j : bighash.Job). is_small_job number j && not (is_get_of key j.op)) jobs ≡ 0 → is_get_of key job.op ≡ true)
        → (if b then Some x else job_at number jobs) ≡ Some job → cond (b && not c) 1 0 + count (λ (j : bighash.Job). is_small_job number j && not (is_get_of key j.op)) jobs ≡ 0 → is_get_of key job.op ≡ true
    step true true e rest at none = subst (λ (j : bighash.Job). is_get_of key j.op ≡ true) (some_is x job at) e
    step true false e rest at none = absurd (omega arith)
    step false c e rest at none = rest at (omega (arith, none))

large_get : (key : List ℕ) (number : ℕ) (jobs : List block.Job) (work : Work) → block.work_of number jobs ≡ Some work → count (λ (j : block.Job). is_large_job number j && not (is_read_of key j.work)) jobs ≡ 0 → is_read_of key work ≡ true
large_get key number [] work at none = absurd cc
large_get key number (x ∷ jobs) work at none = step (x.number == number) (is_read_of key x.work) refl (large_get key number jobs work) at none
  where
    step : (b c : Bool) → is_read_of key x.work ≡ c → (block.work_of number jobs ≡ Some work → count (λ (j : block.Job). is_large_job number j && not (is_read_of key j.work)) jobs ≡ 0 → is_read_of key work ≡ true)
        → (if b then Some x.work else block.work_of number jobs) ≡ Some work → cond (b && not c) 1 0 + count (λ (j : block.Job). is_large_job number j && not (is_read_of key j.work)) jobs ≡ 0 → is_read_of key work ≡ true
    step true true e rest at none = subst (λ (w : Work). is_read_of key w ≡ true) (some_is x.work work at) e
    step true false e rest at none = absurd (omega arith)
    step false c e rest at none = rest at (omega (arith, none))

get_is : (key : List ℕ) (op : Op) → is_get_of key op ≡ true → op ≡ Get key
get_is key (Get k) e = ap Get (same_bytes k key e)
get_is key (Put entry) e = absurd cc
get_is key (Delete k) e = absurd cc
get_is key Flush e = absurd cc
get_is key Reclaim e = absurd cc

work_is : (flash : FlashConfig) (number : ℕ) (key : List ℕ) (work : Work) → is_read_of key work ≡ true → op_of flash number work ≡ Get key
work_is flash number key (block.Getting reading) e = ap Get (same_bytes reading.key key e)
work_is flash number key (block.Writing r bytes) e = absurd cc

-- a result is handed in: which operation goes on
pub record Resumes (number : ℕ) (pair : Pair) (moved : Moved) : Type 0 where
  pub op : Op
  pub does : Does number op pair moved
  pub asked : (key : List ℕ) → Asks pair key number → op ≡ Get key

pub resumed : (number : ℕ) (result : IoResult) (pair : Pair) (moved : Moved) → resume number result pair ≡ Some moved → Resumes number pair moved
resumed number result pair moved made = by (job_at number pair.small.jobs) refl (block.work_of number pair.large.jobs) refl made
  where
    by : (job : Option bighash.Job) → job_at number pair.small.jobs ≡ job → (work : Option Work) → block.work_of number pair.large.jobs ≡ work → resume_in number result pair job ≡ Some moved → Resumes number pair moved
    by (Some job) at work there made =
        let m = mapped_some (λ m. after_small number job.op (by_small pair m)) (bighash.resume pair.small number result) moved made in
        record {
          op = job.op;
          does = subst (λ (x : Moved). Does number job.op pair x) m.2 (then_does number job.op pair m.0 (resume_does pair.small number result job m.0 at m.1));
          asked = λ key asks. get_is key job.op (small_get key number pair.small.jobs job at asks.small);
        }
    by None at None there made = let wrong : None ≡ Some moved = (rw there at made) in absurd cc
    by None at (Some work) there made =
        let came : resume_work number result pair work ≡ Some moved = (rw there at made) in
        record {
          op = op_of pair.small.flash number work;
          does = subst (λ (x : Moved). Does number (op_of pair.small.flash number work) pair x) (cond_some (waits_for work result) _ moved came).1 (large_both number (op_of pair.small.flash number work) pair [] _ (work_does pair.small.flash number work result pair.large));
          asked = λ key asks. work_is pair.small.flash number key work (large_get key number pair.large.jobs work there asks.large);
        }
