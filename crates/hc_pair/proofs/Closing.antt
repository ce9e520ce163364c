-- The end of a get is the machine's step.
use Rattle.std.proofs.Common.{◌≡◌, ℕ, Bool, true, false, List, [], Option, Some, None, refl, sym, ap, ◌∙◌, subst}
use Rattle.std.specs.Prelude.{option_map, if◌then◌else◌}
use Rattle.hc_types.specs.declared.config.FlashConfig.{FlashConfig}
use Rattle.hc_types.specs.Places.{bucket_at}
use Rattle.hc_engines.proofs.pair.Numbers.{none_in_both}
use Rattle.hc_engines.proofs.small.UnderWay.{none_is_there}
use Rattle.hc_engines.specs.Engine.{Op, Put, Get, Delete, Flush, Reclaim, Order, IoResult, Absent, Busy, Done, outcome_of, UnderWay}
use Rattle.hc_engines.specs.small.BigHash as bighash
use Rattle.hc_engines.specs.small.BigHash.{BigHash, Job, ToRead, ToEnd, begun, could_hold, is_busy, moved, job_at, tells, without_job, word_at}
use Rattle.hc_engines.specs.large.Block as block
use Rattle.hc_engines.specs.large.Block.{Work, Writing, Getting, finished, work_of}
use Rattle.hc_engines.specs.large.Sound.{Sound}
use Rattle.hc_engines.specs.large.Steps as steps
use Rattle.hc_engines.specs.pair.Pair.{Pair, Moved, after_losses, next_of, waits_for, by_small, by_large, after_small, start, resume, resume_in, resume_large}
use Rattle.hc_engines.specs.pair.Held.{first_of, work_under_way}
use Rattle.hc_engines.specs.small.Held.{job_under_way}
use Rattle.hc_bighash.specs.Endings.{is_over}
use Rattle.hc_bighash.specs.Found.{answer_next, is_get}
use Rattle.hc_bighash.specs.Handed as handed
use Rattle.hc_bighash.specs.Handed.{absent_plan, op_in}
use Rattle.hc_block.specs.Endings as large_endings
use Rattle.hc_block.specs.Endings.{read_left, without_lost, is_last}
use Rattle.hc_block.specs.Large.{Large}
use Rattle.hc_block.specs.Moves.{stepped, resume_work, resume_by}
use Rattle.hc_block.specs.Works.{reading_at}
use Rattle.hc_pair.specs.Joined.{IsJoined}
use Rattle.hc_pair.specs.Endings.{Ending, of_large, state_or, small_left, left_in, left_by, op_under, ends, is_done, CanEndIn, CanLeave, IsStep, Ends, IsEnding, IsEndingAtOnce}
use Rattle.hc_pair.proofs.Steps.{some_is, op-none, resumed_large, resumed_joined}

abbrev both : BigHash → Large → Pair
both small large = record { small = small; large = large.block }

-- ---- the operation that is under way

under-large : (pair : Pair) (number : ℕ) → op_in number pair.small.jobs ≡ None → op_under number pair ≡ option_map (λ (w : UnderWay). w.op) (option_map (work_under_way pair.small.flash pair.large) (work_of number pair.large.jobs))
under-large pair number none =
    ap (λ (o : Option Job). option_map (λ (w : UnderWay). w.op) (first_of (option_map (job_under_way pair.small.flash) o) (option_map (work_under_way pair.small.flash pair.large) (work_of number pair.large.jobs)))) (op-none (job_at number pair.small.jobs) none)

under-small : (pair : Pair) (number : ℕ) (op : Op) → op_in number pair.small.jobs ≡ Some op → op_under number pair ≡ Some op
under-small pair number op there = by (job_at number pair.small.jobs) there
  where
    by : (o : Option Job) → option_map (λ (j : Job). j.op) o ≡ Some op
        → option_map (λ (w : UnderWay). w.op) (first_of (option_map (job_under_way pair.small.flash) o) (option_map (work_under_way pair.small.flash pair.large) (work_of number pair.large.jobs))) ≡ Some op
    by None h = absurd cc
    by (Some job) h = h

-- what isn't a get isn't over as one
ends-never : (op : Op) (moved : Option Moved) → is_get op ≡ false → ends (Some op) moved ≡ false
ends-never op None h = refl
ends-never (Get key) (Some moved) h = absurd cc
ends-never (Put e) (Some moved) h = refl
ends-never (Delete key) (Some moved) h = refl
ends-never Flush (Some moved) h = refl
ends-never Reclaim (Some moved) h = refl

pub not_over : (pair : Pair) (number : ℕ) (op : Op) (came : IoResult) → op_in number pair.small.jobs ≡ Some op → is_get op ≡ false → ends (op_under number pair) (resume number came pair) ≡ false
not_over pair number op came there other = ap (λ (o : Option Op). ends o (resume number came pair)) (under-small pair number op there) ∙ ends-never op (resume number came pair) other

-- ---- a read of the large engine

large-goes-on : (pair : Pair) (work : Work) (m : block.Moved) → large_endings.ends_get (Some work) (Some m) ≡ false → ends (Some (work_under_way pair.small.flash pair.large work).op) (Some (by_large pair [] m)) ≡ false
large-goes-on pair (Writing r bytes) m h = refl
large-goes-on pair (Getting reading) m h = by m.order h
  where
    by : (o : Option Order) → is_last o ≡ false → is_over (answer_next (next_of (after_losses [] m.outcome) o)) ≡ false
    by None h = absurd cc
    by (Some order) h = refl

large-ends-not : (small : BigHash) (large : Large) (number : ℕ) (came : IoResult) → IsJoined small large → op_in number small.jobs ≡ None → large_endings.ends_get (work_of number large.block.jobs) (resume_by large.flash number came large.block) ≡ false
    → ends (op_under number (both small large)) (resume number came (both small large)) ≡ false
large-ends-not small large number came joined none not =
    (λ i. ends (under-large pair number none i) (resume_in number came pair (op-none (job_at number small.jobs) none i))) ∙ by (work_of number large.block.jobs) here
  where
    pair : Pair
    pair = both small large

    here : large_endings.ends_get (work_of number large.block.jobs) (resume_work small.flash number came large.block (work_of number large.block.jobs)) ≡ false
    here = ap (λ (f : FlashConfig). large_endings.ends_get (work_of number large.block.jobs) (resume_by f number came large.block)) (sym joined.flash) ∙ not

    waiting : (work : Work) (t : Bool) → large_endings.ends_get (Some work) (if t then Some (steps.resume small.flash number work came large.block) else None) ≡ false
        → ends (Some (work_under_way small.flash large.block work).op) (if t then Some (by_large pair [] (steps.resume small.flash number work came large.block)) else None) ≡ false
    waiting work true h = large-goes-on pair work (steps.resume small.flash number work came large.block) h
    waiting work false h = refl

    by : (o : Option Work) → large_endings.ends_get o (resume_work small.flash number came large.block o) ≡ false
        → ends (option_map (λ (w : UnderWay). w.op) (option_map (work_under_way small.flash large.block) o)) (resume_large number came pair o) ≡ false
    by None h = refl
    by (Some work) h = waiting work (waits_for work came) h

pub large_ends : (small : BigHash) (large : Large) (number : ℕ) (came : IoResult) (ending : Option large_endings.Ending) → IsJoined small large → op_in number small.jobs ≡ None
    → large_endings.IsEnding number large.block (resume_by large.flash number came large.block) ending → IsEnding number came (both small large) (option_map of_large ending)
large_ends small large number came None joined none h = large-ends-not small large number came joined none h
large_ends small large number came (Some ending) joined none h = record {
  gets = ((reading_at number large.block.jobs).key, under-large (both small large) number none ∙ ap (λ (o : Option Work). option_map (λ (w : UnderWay). w.op) (option_map (work_under_way small.flash large.block) o)) h.0.reads);
  can = subst (λ (o : Option Op). in_engine o) (sym none) h.0;
  step = resumed_large small large new number came (Done ending.outcome) joined none (ap (option_map stepped) h.1) ∙ ap (λ (p : Pair). Some (record { pair = p; next = Done ending.outcome })) (sym left);
}
  where
    in_engine : Option Op → Type 0
    in_engine o = CanEndIn number ending.rest (both small large) o

    new : Large
    new = record { flash = large.flash; block = read_left number ending.rest large.block }

    left : left_by number false ending.rest (both small large) ≡ both small new
    left = ap (left_in number false ending.rest (both small large)) none

-- ---- a get of the small engine

-- ---- the pair stays one

pub left_joined : (small new_small : BigHash) (large new : Large) (number : ℕ) → IsJoined small large → Sound large.flash large.block → new.flash ≡ new_small.flash → IsStep number (both small large) (both new_small new) → IsJoined new_small new
left_joined small new_small large new number joined sound flash step = resumed_joined small large new_small new number step.0 step.1.0 joined sound flash step.1.1

pub small_left_flash : (s : BigHash) (number : ℕ) (gives_up : Bool) → (small_left number gives_up s).flash ≡ s.flash
small_left_flash s number gives_up = by (job_at number s.jobs)
  where
    by : (o : Option Job) → (state_or s (option_map (λ (j : Job). moved s j.number j.bucket j.op (absent_plan gives_up)) o)).flash ≡ s.flash
    by None = refl
    by (Some job) = refl

pub left_is : (s new : BigHash) (o : Option bighash.Moved) → option_map (λ (m : bighash.Moved). m.state) o ≡ Some new → state_or s o ≡ new
left_is s new None h = absurd cc
left_is s new (Some m) h = some_is m.state new h

pub can_leave : (number : ℕ) (came : IoResult) (pair : Pair) (ending : Ending) → Ends number came pair ending → CanLeave number ending.gives_up ending.rest pair
can_leave number came pair ending over = record { can = over.can; step = (came, (Done ending.outcome, over.step)) }

-- ---- a get that is over as it starts

abbrev gone : BigHash → ℕ → BigHash
gone s number = record { flash = s.flash; words = s.words; jobs = without_job number s.jobs }

-- the small engine has nothing of the key
starts-absent : (s : BigHash) (number : ℕ) (key : List ℕ) → is_busy (bucket_at s.flash key) s.jobs ≡ false → could_hold s key ≡ false → bighash.start s number (Get key) ≡ record { state = gone s number; next = Done (outcome_of Absent []) }
starts-absent s number key free none =
    ap (λ (t : Bool). if t then record { state = s; next = Busy } else moved s number (bucket_at s.flash key) (Get key) (begun (word_at s (bucket_at s.flash key)) (Get key))) free
    ∙ by (word_at s (bucket_at s.flash key)) none
  where
    by : (w : Option ℕ) → tells w key ≡ false → moved s number (bucket_at s.flash key) (Get key) (begun w (Get key)) ≡ record { state = gone s number; next = Done (outcome_of Absent []) }
    by None h = refl
    by (Some word) h = ap (λ (t : Bool). moved s number (bucket_at s.flash key) (Get key) (if t then ToRead else ToEnd Absent)) h

goes-behind : (pair : Pair) (number : ℕ) (key : List ℕ) → is_busy (bucket_at pair.small.flash key) pair.small.jobs ≡ false → could_hold pair.small key ≡ false
    → start number (Get key) pair ≡ by_large (record { small = gone pair.small number; large = pair.large }) [] (steps.get pair.small.flash number key pair.large)
goes-behind pair number key free none = ap (λ (m : bighash.Moved). after_small number (Get key) (by_small pair m)) (starts-absent pair.small number key free none)

pub at_once_ends : (small : BigHash) (large : Large) (key : List ℕ) (ending : Option large_endings.Ending) → IsJoined small large → is_busy (bucket_at small.flash key) small.jobs ≡ false → could_hold small key ≡ false
    → large_endings.IsEndingAtOnce large.flash key large.block ending → IsEndingAtOnce key (both small large) (option_map of_large ending)
at_once_ends small large key None joined free none on = λ number. ap (λ (m : Moved). is_done m.next) (goes-behind (both small large) number key free none) ∙ by (steps.get small.flash number key large.block) (ap (λ (f : FlashConfig). is_last (steps.get f number key large.block).order) (sym joined.flash) ∙ on number)
  where
    by : (m : block.Moved) → is_last m.order ≡ false → is_done (next_of (after_losses [] m.outcome) m.order) ≡ false
    by m h = go m.order h
      where
        go : (o : Option Order) → is_last o ≡ false → is_done (next_of (after_losses [] m.outcome) o) ≡ false
        go None e = absurd cc
        go (Some order) e = refl
at_once_ends small large key (Some ending) joined free none over = λ number under.
    let single = (none_in_both (both small large) (job_at number small.jobs) (work_of number large.block.jobs) under).0 in
    let stays : gone small number ≡ small = ap (λ (js : List Job). record { flash = small.flash; words = small.words; jobs = js }) (none_is_there number small.jobs single) in
    let went : steps.get small.flash number key large.block ≡ finished (without_lost ending.rest.lost large.block) ending.outcome = ap (λ (f : FlashConfig). steps.get f number key large.block) (sym joined.flash) ∙ over number in
    goes-behind (both small large) number key free none ∙ (λ i. by_large (record { small = stays i; large = large.block }) [] (went i))
