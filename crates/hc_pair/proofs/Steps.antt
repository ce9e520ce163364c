-- What a call of one engine makes of the pair.
use Rattle.std.proofs.Common.{◌≡◌, ℕ, ◌≤◌, Bool, true, false, List, [], length, Option, Some, None, refl, sym, inl, inr, ap, subst, ◌∙◌, arith}
use Rattle.std.specs.Prelude.{◌⊎◌, if◌then◌else◌, nat_lt, option_map, Result, Ok, Err, OnErr}
use Rattle.hc_types.specs.declared.config.FlashConfig.{FlashConfig}
use Rattle.hc_types.specs.Places.{bucket_at, kept_of}
use Rattle.hc_types.specs.FlashEntry.{FlashEntry}
use Rattle.hc_engines.specs.Engine.{Op, Put, Get, Delete, Flush, Reclaim, Order, IoResult, Answer, Nothing, Over, Absent, Found, Loss, Outcome, Next, Busy, Io, Done, outcome_of}
use Rattle.hc_engines.specs.small.Bloom.{could_have}
use Rattle.hc_engines.specs.small.BigHash as bighash
use Rattle.hc_engines.specs.small.BigHash.{BigHash, Job, Plan, ToRead, ToEnd, begun, moved, is_busy, job_at, without_job, word_at, carried}
use Rattle.hc_engines.proofs.small.UnderWay.{none_is_there}
use Rattle.hc_engines.specs.large.Index.{Place, place_at, is_place}
use Rattle.hc_engines.specs.large.Block as block
use Rattle.hc_engines.specs.large.Block.{Block, Reading, Work, work_of}
use Rattle.hc_engines.specs.large.Entries.{entry_in}
use Rattle.hc_engines.specs.large.Sound.{Sound}
use Rattle.hc_engines.specs.large.Laws.{IsFree}
use Rattle.hc_engines.proofs.large.Jobs.{free_of}
use Rattle.hc_engines.specs.large.Steps as steps
use Rattle.hc_engines.specs.large.Steps.{reading_of, pinned, read_bytes}
use Rattle.hc_engines.specs.pair.Pair.{Pair, Moved, after_losses, next_of, waits_for, by_small, by_large, went_on, after_small, start, resume, resume_in, resume_large}
use Rattle.hc_engines.specs.pair.Held.{under_way}
use Rattle.hc_engines.specs.pair.Apart.{IsApart}
use Rattle.hc_engines.proofs.pair.Apart.{small_started, large_started, pair_resume_apart}
use Rattle.hc_engines.proofs.pair.Numbers.{none_in_both}
use Rattle.hc_engines.proofs.pair.SmallSteps.{start_flash, resume_flash}
use Rattle.hc_bighash.specs.Handed.{absent_plan, op_in, is_nothing, is_absent, IsNoMiss, losses_if, lost_with}
use Rattle.hc_block.specs.Large.{Large}
use Rattle.hc_block.specs.Moves.{Stepped, stepped, resume_work, resume_by}
use Rattle.hc_pair.specs.Joined.{IsJoined, is_miss, losses_of, after}

abbrev both : BigHash → Large → Pair
both small large = record { small = small; large = large.block }

pub some_is : {A : Type 0} (x y : A) → Some x ≡ Some y → x ≡ y
some_is x y h = cc

pub on_err : {T E P : Type 0} (result : Result T E) → P → OnErr result P
on_err (Ok x) p = tt
on_err (Err e) p = p

-- ---- numbers

pub free_in_large : (pair : Pair) (number : ℕ) → under_way pair number ≡ None → IsFree number pair.large
free_in_large pair number under = free_of number pair.large.jobs (none_in_both pair (job_at number pair.small.jobs) (work_of number pair.large.jobs) under).1

pub op-some : (o : Option Job) (op : Op) → option_map (λ (j : Job). j.op) o ≡ Some op → (job : Job) × (o ≡ Some job) × (job.op ≡ op)
op-some None op h = absurd cc
op-some (Some job) op h = (job, refl, some_is _ _ h)

pub op-none : (o : Option Job) → option_map (λ (j : Job). j.op) o ≡ None → o ≡ None
op-none None h = refl
op-none (Some job) h = absurd cc

-- a get is under way in the small engine, so that its number is free in the large one
pub get_is_apart : (small : BigHash) (large : Large) (number : ℕ) (op : Op) → IsJoined small large → op_in number small.jobs ≡ Some op → IsFree number large.block
get_is_apart small large number op joined gets = free_of number large.block.jobs (by (joined.apart.apart number))
  where
    there : job_at number small.jobs ≡ Some (op-some (job_at number small.jobs) op gets).0
    there = (op-some (job_at number small.jobs) op gets).1

    by : (job_at number small.jobs ≡ None) ⊎ (work_of number large.block.jobs ≡ None) → work_of number large.block.jobs ≡ None
    by (inl none) = let wrong : None ≡ Some (op-some (job_at number small.jobs) op gets).0 = sym none ∙ there in absurd cc
    by (inr free) = free

-- ---- one engine is started

pub started_large : (small : BigHash) (large new : Large) (number : ℕ) (op : Op) (next : Next) → IsJoined small large → Sound large.flash large.block → under_way (both small large) number ≡ None → new.flash ≡ large.flash
    → stepped (steps.start large.flash number op large.block) ≡ record { state = new.block; next = next } → IsJoined small new
started_large small large new number op next joined sound under flash made = record {
  flash = flash ∙ joined.flash;
  apart = subst (λ (s : Block). IsApart (record { small = small; large = s })) state (large_started (both small large) number op joined.apart (subst (λ (f : FlashConfig). Sound f large.block) joined.flash sound) under);
}
  where
    state : (steps.start small.flash number op large.block).state ≡ new.block
    state = ap (λ (f : FlashConfig). (steps.start f number op large.block).state) (sym joined.flash) ∙ ap (λ (m : Stepped). m.state) made

pub started_small : (small new : BigHash) (large : Large) (number : ℕ) (op : Op) (next : Next) → IsJoined small large → under_way (both small large) number ≡ None
    → bighash.start small number op ≡ record { state = new; next = next } → IsJoined new large
started_small small new large number op next joined under made = record {
  flash = joined.flash ∙ sym same;
  apart = subst (λ (s : BigHash). IsApart (record { small = s; large = large.block })) state (small_started (both small large) number op joined.apart under);
}
  where
    state : (bighash.start small number op).state ≡ new
    state = ap (λ (m : bighash.Moved). m.state) made

    same : new.flash ≡ small.flash
    same = sym (ap (λ (s : BigHash). s.flash) state) ∙ start_flash small number op

-- ---- a get that is over at once in the small engine found nothing, and changed nothing

pub record Missed (s : BigHash) (m : bighash.Moved) : Type 0 where
  state : m.state ≡ s
  next : m.next ≡ Done (outcome_of Absent [])

abbrev IsDone : Next → Type 0
IsDone Busy = ⊥
IsDone (Io order outcome) = ⊥
IsDone (Done outcome) = Unit {0}

missed : (s : BigHash) (number : ℕ) (key : List ℕ) → job_at number s.jobs ≡ None → IsDone (bighash.start s number (Get key)).next → Missed s (bighash.start s number (Get key))
missed s number key none = busy (is_busy (bucket_at s.flash key) s.jobs)
  where
    gone : record { flash = s.flash; words = s.words; jobs = without_job number s.jobs } ≡ s
    gone = ap (λ (js : List Job). record { flash = s.flash; words = s.words; jobs = js }) (none_is_there number s.jobs none)

    looked : (t : Bool) → IsDone (moved s number (bucket_at s.flash key) (Get key) (if t then ToRead else ToEnd Absent)).next → Missed s (moved s number (bucket_at s.flash key) (Get key) (if t then ToRead else ToEnd Absent))
    looked true h = absurd h
    looked false h = record { state = gone; next = refl }

    by_word : (w : Option ℕ) → IsDone (moved s number (bucket_at s.flash key) (Get key) (begun w (Get key))).next → Missed s (moved s number (bucket_at s.flash key) (Get key) (begun w (Get key)))
    by_word None h = record { state = gone; next = refl }
    by_word (Some word) h = looked (could_have word key) h

    busy : (t : Bool) → IsDone (if t then record { state = s; next = Busy } else moved s number (bucket_at s.flash key) (Get key) (begun (word_at s (bucket_at s.flash key)) (Get key))).next
        → Missed s (if t then record { state = s; next = Busy } else moved s number (bucket_at s.flash key) (Get key) (begun (word_at s (bucket_at s.flash key)) (Get key)))
    busy true h = absurd h
    busy false h = by_word (word_at s (bucket_at s.flash key)) h

pub miss_changes_nothing : (pair new : Pair) (number : ℕ) (op : Op) (next : Next) → under_way pair number ≡ None → is_miss op next ≡ true → by_small pair (bighash.start pair.small number op) ≡ record { pair = new; next = next } → new ≡ pair
miss_changes_nothing pair new number (Get key) (Done outcome) under miss made =
    let none = (none_in_both pair (job_at number pair.small.jobs) (work_of number pair.large.jobs) under).0 in
    let done : IsDone (bighash.start pair.small number (Get key)).next = subst IsDone (sym (ap (λ (m : Moved). m.next) made)) tt in
    sym (ap (λ (m : Moved). m.pair) made) ∙ ap (λ (s : BigHash). record pair { small = s }) (missed pair.small number key none done).state
miss_changes_nothing pair new number (Get key) Busy under miss made = absurd cc
miss_changes_nothing pair new number (Get key) (Io order outcome) under miss made = absurd cc
miss_changes_nothing pair new number (Put e) next under miss made = absurd cc
miss_changes_nothing pair new number (Delete key) next under miss made = absurd cc
miss_changes_nothing pair new number Flush next under miss made = absurd cc
miss_changes_nothing pair new number Reclaim next under miss made = absurd cc

pub miss_goes_on : (pair new : Pair) (number : ℕ) (op : Op) (next : Next) → under_way pair number ≡ None → is_miss op next ≡ true → by_small pair (bighash.start pair.small number op) ≡ record { pair = new; next = next }
    → start number op pair ≡ by_large pair [] (steps.start pair.small.flash number op pair.large)
miss_goes_on pair new number (Get key) (Done outcome) under miss made =
    let none = (none_in_both pair (job_at number pair.small.jobs) (work_of number pair.large.jobs) under).0 in
    let done : IsDone (bighash.start pair.small number (Get key)).next = subst IsDone (sym (ap (λ (m : Moved). m.next) made)) tt in
    let found = missed pair.small number key none done in
    λ i. after_small number (Get key) (by_small pair (record { state = found.state i; next = found.next i }))
miss_goes_on pair new number (Get key) Busy under miss made = absurd cc
miss_goes_on pair new number (Get key) (Io order outcome) under miss made = absurd cc
miss_goes_on pair new number (Put e) next under miss made = absurd cc
miss_goes_on pair new number (Delete key) next under miss made = absurd cc
miss_goes_on pair new number Flush next under miss made = absurd cc
miss_goes_on pair new number Reclaim next under miss made = absurd cc

-- ---- a result is handed in

pub resumed_large : (small : BigHash) (large new : Large) (number : ℕ) (result : IoResult) (next : Next) → IsJoined small large → op_in number small.jobs ≡ None
    → option_map stepped (resume_by large.flash number result large.block) ≡ Some (record { state = new.block; next = next }) → resume number result (both small large) ≡ Some (record { pair = both small new; next = next })
resumed_large small large new number result next joined none made = ap (resume_in number result (both small large)) (op-none (job_at number small.jobs) none) ∙ by (work_of number large.block.jobs) here
  where
    here : option_map stepped (resume_work small.flash number result large.block (work_of number large.block.jobs)) ≡ Some (record { state = new.block; next = next })
    here = ap (λ (f : FlashConfig). option_map stepped (resume_work f number result large.block (work_of number large.block.jobs))) (sym joined.flash) ∙ made

    waiting : (work : Work) (t : Bool) → option_map stepped (if t then Some (steps.resume small.flash number work result large.block) else None) ≡ Some (record { state = new.block; next = next })
        → (if t then Some (by_large (both small large) [] (steps.resume small.flash number work result large.block)) else None) ≡ Some (record { pair = both small new; next = next })
    waiting work true h = ap (λ (m : Stepped). Some (record { pair = record { small = small; large = m.state }; next = m.next })) (some_is _ _ h)
    waiting work false h = absurd cc

    by : (o : Option Work) → option_map stepped (resume_work small.flash number result large.block o) ≡ Some (record { state = new.block; next = next }) → resume_large number result (both small large) o ≡ Some (record { pair = both small new; next = next })
    by None h = absurd cc
    by (Some work) h = waiting work (waits_for work result) h

pub resumed_joined : (small : BigHash) (large : Large) (new_small : BigHash) (new : Large) (number : ℕ) (result : IoResult) (next : Next) → IsJoined small large → Sound large.flash large.block → new.flash ≡ new_small.flash
    → resume number result (both small large) ≡ Some (record { pair = both new_small new; next = next }) → IsJoined new_small new
resumed_joined small large new_small new number result next joined sound flash made = record {
  flash = flash;
  apart = pair_resume_apart (both small large) number result (record { pair = both new_small new; next = next }) joined.apart (subst (λ (f : FlashConfig). Sound f large.block) joined.flash sound) made;
}

-- ---- a get of the small engine goes on with the large one

in_front : (before : List Loss) (outcome : Outcome) (order : Option Order) → next_of (after_losses before outcome) order ≡ after before (next_of outcome order)
in_front before outcome None = refl
in_front before outcome (Some order) = refl

pub gone_on : (pair : Pair) (number : ℕ) (key : List ℕ) (gives_up : Bool) (result : IoResult) (small : BigHash) (large : Block) (next : Next) → op_in number pair.small.jobs ≡ Some (Get key)
    → bighash.resume pair.small number result ≡ carried pair.small number (absent_plan gives_up) → option_map (λ (m : bighash.Moved). m.state) (carried pair.small number (absent_plan gives_up)) ≡ Some small
    → stepped (steps.get pair.small.flash number key pair.large) ≡ record { state = large; next = next } → resume number result pair ≡ Some (record { pair = record { small = small; large = large }; next = after (lost_with pair.small number gives_up) next })
gone_on pair number key gives_up result small large next gets came left made = ap (resume_in number result pair) at ∙ ap (option_map (λ (m : bighash.Moved). after_small number job.op (by_small pair m))) (came ∙ carries) ∙ ap (λ (m : Moved). Some m) goes
  where
    job : Job
    job = (op-some (job_at number pair.small.jobs) (Get key) gets).0

    at : job_at number pair.small.jobs ≡ Some job
    at = (op-some (job_at number pair.small.jobs) (Get key) gets).1

    is_get : job.op ≡ Get key
    is_get = (op-some (job_at number pair.small.jobs) (Get key) gets).2

    carries : carried pair.small number (absent_plan gives_up) ≡ Some (moved pair.small job.number job.bucket job.op (absent_plan gives_up))
    carries = ap (option_map (λ (j : Job). moved pair.small j.number j.bucket j.op (absent_plan gives_up))) at

    state : (moved pair.small job.number job.bucket (Get key) (absent_plan gives_up)).state ≡ small
    state = some_is _ _ (sym (ap (option_map (λ (m : bighash.Moved). m.state)) (carries ∙ ap (λ (op : Op). Some (moved pair.small job.number job.bucket op (absent_plan gives_up))) is_get)) ∙ left)

    lost : losses_if gives_up (Some job) ≡ lost_with pair.small number gives_up
    lost = ap (losses_if gives_up) (sym at)

    begun : block.Moved
    begun = steps.get pair.small.flash number key pair.large

    ends : (g : Bool) → after_small number (Get key) (by_small pair (moved pair.small job.number job.bucket (Get key) (absent_plan g)))
        ≡ record { pair = record { small = (moved pair.small job.number job.bucket (Get key) (absent_plan g)).state; large = (steps.get pair.small.flash number key pair.large).state }; next = next_of (after_losses (losses_if g (Some job)) (steps.get pair.small.flash number key pair.large).outcome) (steps.get pair.small.flash number key pair.large).order }
    ends true = refl
    ends false = refl

    follows : next_of (after_losses (losses_if gives_up (Some job)) (steps.get pair.small.flash number key pair.large).outcome) (steps.get pair.small.flash number key pair.large).order ≡ after (lost_with pair.small number gives_up) next
    follows = in_front (losses_if gives_up (Some job)) (steps.get pair.small.flash number key pair.large).outcome (steps.get pair.small.flash number key pair.large).order ∙ (λ i. after (lost i) (made i).next)

    goes : after_small number job.op (by_small pair (moved pair.small job.number job.bucket job.op (absent_plan gives_up))) ≡ record { pair = record { small = small; large = large }; next = after (lost_with pair.small number gives_up) next }
    goes = ap (λ (op : Op). after_small number op (by_small pair (moved pair.small job.number job.bucket op (absent_plan gives_up)))) is_get ∙ ends gives_up ∙ (λ i. record { pair = record { small = state i; large = (made i).state }; next = follows i })

-- the small engine goes by its configuration still
left-flash : (s new : BigHash) (number : ℕ) (plan : Plan) → option_map (λ (m : bighash.Moved). m.state) (carried s number plan) ≡ Some new → new.flash ≡ s.flash
left-flash s new number plan left = by (job_at number s.jobs) left
  where
    by : (o : Option Job) → option_map (λ (m : bighash.Moved). m.state) (option_map (λ (j : Job). moved s j.number j.bucket j.op plan) o) ≡ Some new → new.flash ≡ s.flash
    by None h = absurd cc
    by (Some job) h = sym (ap (λ (b : BigHash). b.flash) (some_is _ _ h))

pub record GoneOn (small new_small : BigHash) (large new : Large) (number : ℕ) (gives_up : Bool) (result : IoResult) (next : Next) : Type 0 where
  pub joined : IsJoined new_small new
  pub resumed : resume number result (both small large) ≡ Some (record { pair = both new_small new; next = after (lost_with small number gives_up) next })

pub get_gone_on : (small new_small : BigHash) (large new : Large) (number : ℕ) (key : List ℕ) (gives_up : Bool) (result : IoResult) (next : Next) → IsJoined small large → Sound large.flash large.block → op_in number small.jobs ≡ Some (Get key)
    → bighash.resume small number result ≡ carried small number (absent_plan gives_up) → option_map (λ (m : bighash.Moved). m.state) (carried small number (absent_plan gives_up)) ≡ Some new_small
    → new.flash ≡ large.flash → stepped (steps.get large.flash number key large.block) ≡ record { state = new.block; next = next } → GoneOn small new_small large new number gives_up result next
get_gone_on small new_small large new number key gives_up result next joined sound gets came left flash made = record {
  joined = resumed_joined small large new_small new number result (after (lost_with small number gives_up) next) joined sound (flash ∙ joined.flash ∙ sym (left-flash small new_small number (absent_plan gives_up) left)) went;
  resumed = went;
}
  where
    went : resume number result (both small large) ≡ Some (record { pair = both new_small new; next = after (lost_with small number gives_up) next })
    went = gone_on (both small large) number key gives_up result new_small new.block next gets came left (ap (λ (f : FlashConfig). stepped (steps.get f number key large.block)) (sym joined.flash) ∙ made)

-- ---- the small engine goes on, or is over with something else

passes : (number : ℕ) (op : Op) (pair : Pair) (next : Next) → ((key : List ℕ) → op ≡ Get key → is_absent next ≡ false) → after_small number op (record { pair = pair; next = next }) ≡ record { pair = pair; next = next }
passes number (Put e) pair next no_miss = refl
passes number (Delete key) pair next no_miss = refl
passes number Flush pair next no_miss = refl
passes number Reclaim pair next no_miss = refl
passes number (Get key) pair Busy no_miss = refl
passes number (Get key) pair (Io order outcome) no_miss = refl
passes number (Get key) pair (Done outcome) no_miss = by outcome.answer (no_miss key refl)
  where
    by : (answer : Answer) → is_nothing answer ≡ false → went_on number key pair outcome answer ≡ record { pair = pair; next = Done outcome }
    by Absent h = absurd cc
    by Nothing h = refl
    by Over h = refl
    by (Found e) h = refl

pub resumed_small : (small new : BigHash) (large : Large) (number : ℕ) (op : Op) (result : IoResult) (next : Next) → op_in number small.jobs ≡ Some op → bighash.resume small number result ≡ Some (record { state = new; next = next })
    → IsNoMiss (op_in number small.jobs) next → resume number result (both small large) ≡ Some (record { pair = both new large; next = next })
resumed_small small new large number op result next under made no_miss =
    ap (resume_in number result (both small large)) found.1 ∙ ap (option_map (λ (m : bighash.Moved). after_small number found.0.op (by_small (both small large) m))) made
    ∙ ap (λ (m : Moved). Some m) (passes number found.0.op (both new large) next (λ key is. no_miss key (ap (option_map (λ (j : Job). j.op)) found.1 ∙ ap (λ (o : Op). Some o) is)))
  where
    found : (job : Job) × (job_at number small.jobs ≡ Some job) × (job.op ≡ op)
    found = op-some (job_at number small.jobs) op under

pub small_joined : (small new : BigHash) (large : Large) (number : ℕ) (op : Op) (result : IoResult) (next : Next) → IsJoined small large → Sound large.flash large.block → op_in number small.jobs ≡ Some op
    → bighash.resume small number result ≡ Some (record { state = new; next = next }) → IsNoMiss (op_in number small.jobs) next → IsJoined new large
small_joined small new large number op result next joined sound under made no_miss =
    resumed_joined small large new large number result next joined sound (joined.flash ∙ sym (resume_flash small number result (record { state = new; next = next }) made)) (resumed_small small new large number op result next under made no_miss)

-- ---- a get loses one index entry at most

pub get_loses_one : (flash : FlashConfig) (number : ℕ) (key : List ℕ) (s : Block) → length (losses_of (stepped (steps.get flash number key s)).next) ≤ 1
get_loses_one flash number key s = by (place_at (kept_of flash.bits key) s.index)
  where
    none : 0 ≤ 1
    none = omega arith

    answered : (hash : ℕ) (o : Option FlashEntry) → length (losses_of (stepped (steps.answer_of hash key s o)).next) ≤ 1
    answered hash None = omega arith
    answered hash (Some e) = none

    current : (t : Bool) (reading : Reading) → length (losses_of (stepped (if t then steps.answer_of (kept_of flash.bits key) key s (entry_in (read_bytes flash reading)) else steps.absent s)).next) ≤ 1
    current true reading = answered (kept_of flash.bits key) (entry_in (read_bytes flash reading))
    current false reading = none

    begins : (t : Bool) (reading : Reading) → reading.key ≡ key
        → length (losses_of (stepped (if t then steps.read_next flash number reading (pinned reading.place.region s) else steps.answered flash reading s)).next) ≤ 1
    begins true reading is = none
    begins false reading is = subst (λ (k : List ℕ). length (losses_of (stepped (if is_place (place_at (kept_of flash.bits k) s.index) reading.place then steps.answer_of (kept_of flash.bits k) k s (entry_in (read_bytes flash reading)) else steps.absent s)).next) ≤ 1) (sym is)
        (current (is_place (place_at (kept_of flash.bits key) s.index) reading.place) reading)

    by : (o : Option Place) → length (losses_of (stepped (steps.get_at flash number key o s)).next) ≤ 1
    by None = none
    by (Some place) = begins (nat_lt (reading_of flash key place s).next (reading_of flash key place s).until) (reading_of flash key place s) refl
