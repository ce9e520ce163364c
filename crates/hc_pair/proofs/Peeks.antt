-- How much is lost with a result that isn't handed in yet.
use Rattle.std.proofs.Common.{◌≡◌, ℕ, ◌+◌, ◌≤◌, Bool, true, false, List, [], ◌++◌, length, Option, Some, None, refl, sym, ap, ◌∙◌, subst, arith}
use Rattle.std.proofs.lemmas.List.{length-append}
use Rattle.std.specs.Prelude.{if◌then◌else◌, option_map}
use Rattle.hc_types.specs.declared.config.FlashConfig.{FlashConfig}
use Rattle.hc_engines.specs.Engine.{Op, Put, Get, Delete, Flush, Reclaim, Order, IoResult, Answer, Nothing, Over, Absent, Found, Loss, Next, Busy, Io, Done}
use Rattle.hc_engines.specs.small.Entries.{under}
use Rattle.hc_engines.specs.small.BigHash as bighash
use Rattle.hc_engines.specs.small.BigHash.{BigHash, Job, job_at}
use Rattle.hc_engines.specs.large.Block as block
use Rattle.hc_engines.specs.large.Block.{Block, Work, work_of}
use Rattle.hc_engines.specs.large.Steps as steps
use Rattle.hc_engines.specs.pair.Pair.{Pair, Moved, after_losses, next_of, waits_for, by_small, by_large, went_on, after_small, resume, resume_in, resume_large}
use Rattle.hc_bighash.specs.Found.{is_get, losses_of}
use Rattle.hc_bighash.specs.Handed.{op_in}
use Rattle.hc_block.specs.Large.{Large}
use Rattle.hc_block.specs.Moves.{resume_work, resume_by}
use Rattle.hc_pair.specs.Joined.{IsJoined}
use Rattle.hc_pair.proofs.Steps.{some_is, op-some, op-none, get_loses_one}

large-loses : (n : ℕ) (m : block.Moved) → length m.outcome.losses ≤ n → length (losses_of (next_of (after_losses [] m.outcome) m.order)) ≤ n
large-loses n m h = by m.order
  where
    by : (o : Option Order) → length (losses_of (next_of (after_losses [] m.outcome) o)) ≤ n
    by None = h
    by (Some order) = h

pub large_loses : (small : BigHash) (large : Large) (number n : ℕ) → IsJoined small large → op_in number small.jobs ≡ None
    → ((came : IoResult) (m : block.Moved) → resume_by large.flash number came large.block ≡ Some m → length m.outcome.losses ≤ n)
    → (came : IoResult) (m : Moved) → resume number came (record { small = small; large = large.block }) ≡ Some m → length (losses_of m.next) ≤ n
large_loses small large number n joined none most came m made = by (work_of number large.block.jobs) refl (sym (ap (resume_in number came pair) (op-none (job_at number small.jobs) none)) ∙ made)
  where
    pair : Pair
    pair = record { small = small; large = large.block }

    within : (x : block.Moved) → resume_by small.flash number came large.block ≡ Some x → length x.outcome.losses ≤ n
    within = subst (λ (f : FlashConfig). (x : block.Moved) → resume_by f number came large.block ≡ Some x → length x.outcome.losses ≤ n) joined.flash (most came)

    waiting : (work : Work) (t : Bool) → ((x : block.Moved) → (if t then Some (steps.resume small.flash number work came large.block) else None) ≡ Some x → length x.outcome.losses ≤ n)
        → (if t then Some (by_large pair [] (steps.resume small.flash number work came large.block)) else None) ≡ Some m → length (losses_of m.next) ≤ n
    waiting work true h e = subst (λ (x : Moved). length (losses_of x.next) ≤ n) (some_is _ m e) (large-loses n (steps.resume small.flash number work came large.block) (h _ refl))
    waiting work false h e = absurd cc

    by : (o : Option Work) → work_of number large.block.jobs ≡ o → resume_large number came pair o ≡ Some m → length (losses_of m.next) ≤ n
    by None w e = absurd cc
    by (Some work) w e = waiting work (waits_for work came) (λ x h. within x (ap (resume_work small.flash number came large.block) w ∙ h)) e

-- what the large engine loses behind what the small one lost
behind-loses : (n : ℕ) (before : List Loss) (flash : FlashConfig) (number : ℕ) (key : List ℕ) (s : Block) → length before ≤ n → length (losses_of (next_of (after_losses before (steps.get flash number key s).outcome) (steps.get flash number key s).order)) ≤ n + 1
behind-loses n before flash number key s h = by (steps.get flash number key s).order (get_loses_one flash number key s)
  where
    more : length (steps.get flash number key s).outcome.losses ≤ 1 → length (before ++ (steps.get flash number key s).outcome.losses) ≤ n + 1
    more one = let both : length (before ++ (steps.get flash number key s).outcome.losses) ≡ length before + length (steps.get flash number key s).outcome.losses = length-append before (steps.get flash number key s).outcome.losses in omega (arith, both, one, h)

    by : (o : Option Order) → length (losses_of (next_of (steps.get flash number key s).outcome o)) ≤ 1 → length (losses_of (next_of (after_losses before (steps.get flash number key s).outcome) o)) ≤ n + 1
    by None one = more one
    by (Some order) one = more one

got-loses : (n number : ℕ) (key : List ℕ) (pair : Pair) (next : Next) → length (losses_of next) ≤ n → length (losses_of (after_small number (Get key) (record { pair = pair; next = next })).next) ≤ n + 1
got-loses n number key pair Busy h = omega arith
got-loses n number key pair (Io order outcome) h = omega (arith, h)
got-loses n number key pair (Done outcome) h = by outcome.answer
  where
    by : (answer : Answer) → length (losses_of (went_on number key pair outcome answer).next) ≤ n + 1
    by Nothing = omega (arith, h)
    by Over = omega (arith, h)
    by Absent = behind-loses n outcome.losses pair.small.flash number key pair.large h
    by (Found e) = omega (arith, h)

abbrev most-of : ℕ → Op → ℕ
most-of n op = if is_get op then n + 1 else n

after-loses : (n number : ℕ) (op : Op) (m : Moved) → length (losses_of m.next) ≤ n → length (losses_of (after_small number op m).next) ≤ most-of n op
after-loses n number (Get key) m h = got-loses n number key m.pair m.next h
after-loses n number (Put e) m h = h
after-loses n number (Delete key) m h = h
after-loses n number Flush m h = h
after-loses n number Reclaim m h = h

pub small_loses : (pair : Pair) (number n : ℕ) (op : Op) → op_in number pair.small.jobs ≡ Some op → ((came : IoResult) (m : bighash.Moved) → bighash.resume pair.small number came ≡ Some m → length (losses_of m.next) ≤ n)
    → (came : IoResult) (m : Moved) → resume number came pair ≡ Some m → length (losses_of m.next) ≤ (if is_get op then n + 1 else n)
small_loses pair number n op under most came m made = by (bighash.resume pair.small number came) refl (sym (ap (resume_in number came pair) there) ∙ made)
  where
    job : Job
    job = (op-some (job_at number pair.small.jobs) op under).0

    there : job_at number pair.small.jobs ≡ Some job
    there = (op-some (job_at number pair.small.jobs) op under).1

    has : job.op ≡ op
    has = (op-some (job_at number pair.small.jobs) op under).2

    by : (o : Option bighash.Moved) → bighash.resume pair.small number came ≡ o → option_map (λ x. after_small number job.op (by_small pair x)) o ≡ Some m → length (losses_of m.next) ≤ most-of n op
    by None e h = absurd cc
    by (Some x) e h = subst (λ (y : Moved). length (losses_of y.next) ≤ most-of n op) (some_is _ m h) (subst (λ (p : Op). length (losses_of (after_small number job.op (by_small pair x)).next) ≤ most-of n p) has (after-loses n number job.op (by_small pair x) (most came x e)))
