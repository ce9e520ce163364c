-- What holds at every time, once an operation was started or a result handed in.
use Rattle.std.proofs.Common.{◌≡◌, ℕ, ◌+◌, ◌≤◌, Bool, true, false, ◌∷◌, List, [], ◌++◌, length, Option, Some, None, refl, sym, ◌∙◌, subst, arith}
use Rattle.std.specs.List.{filter, find}
use Rattle.hc_types.specs.declared.config.FlashConfig.{FlashConfig}
use Rattle.hc_types.specs.FlashEntry.{FlashEntry}
use Rattle.hc_engines.specs.Engine.{Put, Order, Next, Busy, Io, Done}
use Rattle.hc_engines.specs.pair.Below.{IsBelow}
use Rattle.hc_engines.specs.pair.Pair.{Pair}
use Rattle.hc_pair.specs.Joined.{CanStart}
use Rattle.hc_machine.specs.Nvm.{Nvm, Tombstone, Task, Fill, Job}
use Rattle.hc_nvm.specs.After.{after}
use Rattle.hc_nvm.specs.Fetching.{AreServed}
use Rattle.hc_nvm.specs.Starting.{made_after}
use Rattle.hc_nvm.specs.Stock.{Kept, AllCanStart, AreNumbered, IsUpTo, AreBrought}

-- ---- numbers of jobs

pub numbered_from : (low lower made : ℕ) (jobs : List Job) → lower ≤ low → AreNumbered low made jobs → AreNumbered lower made jobs
numbered_from low lower made [] l h = omega (arith, l, h)
numbered_from low lower made (job ∷ jobs) l h = (omega (arith, l, h.0), h.1)

pub numbered_with : (low made : ℕ) (task : Task) (order : Order) (jobs : List Job) → AreNumbered low made jobs → AreNumbered low (made + 1) (jobs ++ record { number = made + 1; task = task; order = order } ∷ [])
numbered_with low made task order [] h = (h, omega arith)
numbered_with low made task order (job ∷ jobs) h = (h.0, numbered_with (job.number + 1) made task order jobs h.1)

-- the jobs once an operation was started
pub numbered_after : (flash : FlashConfig) (task : Task) (next : Next) (stones : List Tombstone) (jobs : List Job) (made : ℕ) → AreNumbered 1 made jobs → AreNumbered 1 (after flash task next stones jobs made).made (after flash task next stones jobs made).jobs
numbered_after flash task Busy stones jobs made h = h
numbered_after flash task (Io order outcome) stones jobs made h = numbered_with 1 made task order jobs h
numbered_after flash task (Done outcome) stones jobs made h = h

pub made_is : (flash : FlashConfig) (task : Task) (next : Next) (stones : List Tombstone) (jobs : List Job) (made : ℕ) → made_after made next ≡ (after flash task next stones jobs made).made
made_is flash task Busy stones jobs made = refl
made_is flash task (Io order outcome) stones jobs made = refl
made_is flash task (Done outcome) stones jobs made = refl

-- ---- fills

up_to_more : (made more : ℕ) (job : Option ℕ) → made ≤ more → IsUpTo made job → IsUpTo more job
up_to_more made more None l h = tt
up_to_more made more (Some job) l h = omega (arith, l, h)

pub brought_more : (made more : ℕ) (fills : List Fill) → made ≤ more → AreBrought made fills → AreBrought more fills
brought_more made more [] l h = tt
brought_more made more (fill ∷ fills) l h = (up_to_more made more fill.job l h.0, brought_more made more fills l h.1)

not_fewer : (made : ℕ) (next : Next) → made ≤ made_after made next
not_fewer made Busy = omega arith
not_fewer made (Io order outcome) = omega arith
not_fewer made (Done outcome) = omega arith

-- ---- puts

pub can_start_without : (flash : FlashConfig) (test : FlashEntry → Bool) (puts : List FlashEntry) → AllCanStart flash puts → AllCanStart flash (filter test puts)
can_start_without flash test [] h = h
can_start_without flash test (put ∷ puts) h = by (test put) refl (can_start_without flash test puts h.1)
  where
    by : (t : Bool) → test put ≡ t → AllCanStart flash (filter test puts) → AllCanStart flash (filter test (put ∷ puts))
    by true t more = rw t (h.0, more)
    by false t more = rw t more

pub can_start_found : (flash : FlashConfig) (test : FlashEntry → Bool) (puts : List FlashEntry) (put : FlashEntry) → AllCanStart flash puts → find test puts ≡ Some put → CanStart flash (Put put)
can_start_found flash test [] put h e = absurd cc
can_start_found flash test (x ∷ puts) put h e = by (test x) refl (can_start_found flash test puts put h.1)
  where
    by : (t : Bool) → test x ≡ t → (find test puts ≡ Some put → CanStart flash (Put put)) → CanStart flash (Put put)
    by true t more = let same : Some x ≡ Some put = (rw t at e) in subst (λ (p : FlashEntry). CanStart flash (Put p)) (is x put same) h.0
      where
        is : (a b : FlashEntry) → Some a ≡ Some b → a ≡ b
        is a b h = cc
    by false t more = more (rw t at e)

pub fewer_left : {X : Type 0} (test : X → Bool) (xs : List X) → length (filter test xs) ≤ length xs
fewer_left test [] = omega arith
fewer_left {X} test (x ∷ xs) = by (test x) refl (fewer_left test xs)
  where
    by : (t : Bool) → test x ≡ t → length (filter test xs) ≤ length xs → length (filter test (x ∷ xs)) ≤ length (x ∷ xs)
    by true t more = rw t (omega (arith, more))
    by false t more = rw t (omega (arith, more))

-- ---- an operation was started

-- with these puts and fills left, of which each can be put, and none is brought by a job that wasn't made
pub started_kept : (nvm : Nvm) (pair : Pair) (flash : FlashConfig) (task : Task) (next : Next) (puts : List FlashEntry) (stones left : List Tombstone) (jobs : List Job) (made : ℕ) → Kept nvm
    → IsBelow (made_after nvm.made next + 1) pair → pair.small.flash ≡ nvm.pair.small.flash → AllCanStart nvm.pair.small.flash puts → length puts ≤ length nvm.queue
    → jobs ≡ (after flash task next stones nvm.jobs nvm.made).jobs → made ≡ (after flash task next stones nvm.jobs nvm.made).made → AreServed pair (after flash task next stones nvm.jobs nvm.made).jobs
    → Kept (record nvm { pair = pair; queue = puts; tombstones = left; jobs = jobs; made = made })
started_kept nvm pair flash task next puts stones left jobs made kept below same starts fewer jobs_are made_so served = record {
  below = subst (λ (n : ℕ). IsBelow (n + 1) pair) count below;
  starts = subst (λ (f : FlashConfig). AllCanStart f puts) (sym same) starts;
  short = let short = kept.short in let most : length puts ≤ nvm.pair.small.flash.queue = omega (arith, short, fewer) in subst (λ (f : FlashConfig). length puts ≤ f.queue) (sym same) most;
  numbered = let h = numbered_after flash task next stones nvm.jobs nvm.made kept.numbered in subst (λ (n : ℕ). AreNumbered 1 n jobs) (sym made_so) (subst (λ (js : List Job). AreNumbered 1 (after flash task next stones nvm.jobs nvm.made).made js) (sym jobs_are) h);
  brought = subst (λ (n : ℕ). AreBrought n nvm.fills) count (brought_more nvm.made (made_after nvm.made next) nvm.fills (not_fewer nvm.made next) kept.brought);
  served = subst (AreServed pair) (sym jobs_are) served;
}
  where
    count : made_after nvm.made next ≡ made
    count = made_is flash task next stones nvm.jobs nvm.made ∙ sym made_so
