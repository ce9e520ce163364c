-- Numbers: each from the next one on stays free.
use Rattle.std.proofs.Common.{◌≡◌, ℕ, ◌+◌, ◌≤◌, ◌==◌, Bool, true, false, List, [], length, Option, Some, None, refl, sym, ap, subst, arith, ◌∙◌}
use Rattle.std.proofs.lemmas.Bool.{eqb-true}
use Rattle.std.specs.Prelude.{if◌then◌else◌, option_map}
use Rattle.hc_types.specs.Places.{is_small_by}
use Rattle.hc_types.specs.FlashEntry.{FlashEntry}
use Rattle.hc_engines.specs.Engine.{Op, Put, Get, Delete, Flush, Reclaim, Order, IoResult, Answer, Nothing, Over, Absent, Found, Loss, Outcome, Next, Busy, Io, Done, then_under_way}
use Rattle.hc_engines.specs.small.BigHash as bighash
use Rattle.hc_engines.specs.small.BigHash.{BigHash, Job, job_at}
use Rattle.hc_engines.specs.small.Held as small
use Rattle.hc_engines.specs.small.Held.{job_under_way}
use Rattle.hc_engines.proofs.small.Apart.{start_goes}
use Rattle.hc_engines.specs.large.Block as block
use Rattle.hc_engines.specs.large.Block.{Block, Work, work_of}
use Rattle.hc_engines.specs.large.Sound.{Sound}
use Rattle.hc_engines.specs.large.Steps as steps
use Rattle.hc_engines.specs.pair.Apart.{IsApart}
use Rattle.hc_engines.specs.pair.Below.{IsBelow}
use Rattle.hc_engines.specs.pair.Held.{work_under_way, under_way}
use Rattle.hc_engines.specs.pair.Pair.{Pair, Moved, after_losses, next_of, by_small, by_large, went_on, then_large, after_small, start, resume, resume_in, resume_large}
use Rattle.hc_engines.proofs.pair.Below.{start_below, resume_below}
use Rattle.hc_engines.proofs.pair.LargeSteps.{Leaves, start_leaves}
use Rattle.hc_engines.proofs.pair.Numbers.{mapped_none, mapped_some}
use Rattle.hc_engines.proofs.pair.SmallSteps.{start_flash, resume_flash}
use Rattle.hc_pair.specs.Found.{is_io}
use Rattle.hc_nvm.specs.Starting.{made_after}

same_number : (n : ℕ) → (n == n) ≡ true
same_number n = grind arith

-- ---- what is over has no job

abbrev IsFreeIn : ℕ → Pair → Type 0
IsFreeIn n pair = (job_at n pair.small.jobs ≡ None) × (work_of n pair.large.jobs ≡ None)

not_under_way : (op : Op) (next : Next) → is_io next ≡ false → then_under_way op next ≡ None
not_under_way op Busy h = refl
not_under_way op (Io order outcome) h = absurd cc
not_under_way op (Done outcome) h = refl

no_order : (op : Op) (losses : List Loss) (outcome : Outcome) (o : Option Order) → is_io (next_of (after_losses losses outcome) o) ≡ false → then_under_way op (next_of outcome o) ≡ None
no_order op losses outcome None h = refl
no_order op losses outcome (Some order) h = absurd cc

-- the small engine answered
module _ (pair : Pair) (number : ℕ) (m : bighash.Moved) (flash : m.state.flash ≡ pair.small.flash) (sound : Sound pair.small.flash pair.large) (free : work_of number pair.large.jobs ≡ None) where
  abbrev Went : Op → Type 0
  Went op = (n : ℕ) → small.under_way m.state n ≡ (if n == number then then_under_way op m.next else small.under_way pair.small n)

  small_over : (op : Op) → Went op → is_io m.next ≡ false → job_at number m.state.jobs ≡ None
  small_over op goes h = mapped_none (job_under_way m.state.flash) (job_at number m.state.jobs) (goes number ∙ rw (same_number number) (not_under_way op m.next h))

  only_small : (op : Op) → Went op → is_io m.next ≡ false → IsFreeIn number (by_small pair m).pair
  only_small op goes h = (small_over op goes h, free)

  both_over : (key : List ℕ) (outcome : Outcome) → Went (Get key) → m.next ≡ Done outcome → is_io (by_large (by_small pair m).pair outcome.losses (steps.get m.state.flash number key pair.large)).next ≡ false
      → IsFreeIn number (by_large (by_small pair m).pair outcome.losses (steps.get m.state.flash number key pair.large)).pair
  both_over key outcome goes over h = (small_over (Get key) goes (ap is_io over), mapped_none (work_under_way pair.small.flash begun.state) (work_of number begun.state.jobs) (leaves.goes number ∙ rw (same_number number) (no_order (Get key) outcome.losses begun.outcome begun.order h)))
    where
      begun : block.Moved
      begun = steps.get m.state.flash number key pair.large

      leaves : Leaves pair.small.flash number (Get key) pair.large (steps.get m.state.flash number key pair.large)
      leaves = rw flash (start_leaves pair.small.flash number (Get key) pair.large sound free)

  get_over : (key : List ℕ) → Went (Get key) → (next : Next) → m.next ≡ next → is_io (then_large number (Get key) (by_small pair m).pair next).next ≡ false → IsFreeIn number (then_large number (Get key) (by_small pair m).pair next).pair
  get_over key goes Busy e h = only_small (Get key) goes (ap is_io e)
  get_over key goes (Io order outcome) e h = absurd cc
  get_over key goes (Done outcome) e h = by outcome.answer h
    where
      by : (answer : Answer) → is_io (went_on number key (by_small pair m).pair outcome answer).next ≡ false → IsFreeIn number (went_on number key (by_small pair m).pair outcome answer).pair
      by Absent h = both_over key outcome goes e h
      by Nothing h = only_small (Get key) goes (ap is_io e)
      by Over h = only_small (Get key) goes (ap is_io e)
      by (Found entry) h = only_small (Get key) goes (ap is_io e)

  after_over : (op : Op) → Went op → is_io (after_small number op (by_small pair m)).next ≡ false → IsFreeIn number (after_small number op (by_small pair m)).pair
  after_over (Put e) goes h = only_small (Put e) goes h
  after_over (Delete key) goes h = only_small (Delete key) goes h
  after_over Flush goes h = only_small Flush goes h
  after_over Reclaim goes h = only_small Reclaim goes h
  after_over (Get key) goes h = get_over key goes m.next refl h

-- the large engine answered
large_over : (pair : Pair) (number : ℕ) (op : Op) (m : block.Moved) → Leaves pair.small.flash number op pair.large m → job_at number pair.small.jobs ≡ None → is_io (by_large pair [] m).next ≡ false → IsFreeIn number (by_large pair [] m).pair
large_over pair number op m leaves none h = (none, mapped_none (work_under_way pair.small.flash m.state) (work_of number m.state.jobs) (leaves.goes number ∙ rw (same_number number) (no_order op [] m.outcome m.order h)))

start_over : (pair : Pair) (number : ℕ) (op : Op) → Sound pair.small.flash pair.large → IsFreeIn number pair → is_io (start number op pair).next ≡ false → IsFreeIn number (start number op pair).pair
start_over pair number op sound free = by op
  where
    by_the_small : (op : Op) → is_io (after_small number op (by_small pair (bighash.start pair.small number op))).next ≡ false → IsFreeIn number (after_small number op (by_small pair (bighash.start pair.small number op))).pair
    by_the_small op h = after_over pair number (bighash.start pair.small number op) (start_flash pair.small number op) sound free.1 op (start_goes pair.small number op (ap (option_map (job_under_way pair.small.flash)) free.0)) h

    by_the_large : (op : Op) → is_io (by_large pair [] (steps.start pair.small.flash number op pair.large)).next ≡ false → IsFreeIn number (by_large pair [] (steps.start pair.small.flash number op pair.large)).pair
    by_the_large op h = large_over pair number op (steps.start pair.small.flash number op pair.large) (start_leaves pair.small.flash number op pair.large sound free.1) free.0 h

    put : (e : FlashEntry) (is_small : Bool) → is_io (if is_small then by_small pair (bighash.start pair.small number (Put e)) else by_large pair [] (steps.put pair.small.flash e pair.large)).next ≡ false
        → IsFreeIn number (if is_small then by_small pair (bighash.start pair.small number (Put e)) else by_large pair [] (steps.put pair.small.flash e pair.large)).pair
    put e true h = by_the_small (Put e) h
    put e false h = by_the_large (Put e) h

    by : (op : Op) → is_io (start number op pair).next ≡ false → IsFreeIn number (start number op pair).pair
    by (Put e) h = put e (is_small_by pair.small.flash e.key (length e.value)) h
    by (Get key) h = by_the_small (Get key) h
    by (Delete key) h = by_the_small (Delete key) h
    by Flush h = by_the_large Flush h
    by Reclaim h = by_the_large Reclaim h

above : (number n : ℕ) → number ≤ n → (n == number) ≡ false → number + 1 ≤ n
above number n h e = grind (arith, h, e)

-- an operation was started under the next number, and the numbers behind those that were made stay free
pub started_below : (pair new : Pair) (made : ℕ) (op : Op) (next : Next) → Sound pair.small.flash pair.large → IsApart pair → IsBelow (made + 1) pair → start (made + 1) op pair ≡ record { pair = new; next = next } → IsBelow (made_after made next + 1) new
started_below pair new made op next sound apart below e = by next e
  where
    over : (next : Next) → is_io next ≡ false → start (made + 1) op pair ≡ record { pair = new; next = next } → IsBelow (made + 1) new
    over next h e n low = at (n == (made + 1)) refl
      where
        moved : (start (made + 1) op pair).pair ≡ new
        moved = ap (λ (m : Moved). m.pair) e

        idle : is_io (start (made + 1) op pair).next ≡ false
        idle = ap (λ (m : Moved). is_io m.next) e ∙ h

        at : (t : Bool) → (n == (made + 1)) ≡ t → IsFreeIn n new
        at true t = subst (λ (k : ℕ). IsFreeIn k new) (sym (eqb-true n (made + 1) t)) (subst (IsFreeIn (made + 1)) moved (start_over pair (made + 1) op sound (below (made + 1) (omega arith)) idle))
        at false t = subst (IsFreeIn n) moved (start_below pair (made + 1) op apart sound below n (above (made + 1) n low t))

    by : (next : Next) → start (made + 1) op pair ≡ record { pair = new; next = next } → IsBelow (made_after made next + 1) new
    by Busy e = over Busy refl e
    by (Io order outcome) e = subst (IsBelow (made + 1 + 1)) (ap (λ (m : Moved). m.pair) e) (start_below pair (made + 1) op apart sound below)
    by (Done outcome) e = over (Done outcome) refl e

-- a result was handed in
pub resumed_below : (pair new : Pair) (made number : ℕ) (result : IoResult) (next : Next) → Sound pair.small.flash pair.large → IsApart pair → IsBelow (made + 1) pair → resume number result pair ≡ Some (record { pair = new; next = next }) → IsBelow (made + 1) new
resumed_below pair new made number result next sound apart below e = resume_below pair (made + 1) number result (record { pair = new; next = next }) apart sound below e

-- ---- the next number is free

pub next_is_free : (made : ℕ) (pair : Pair) → IsBelow (made + 1) pair → under_way pair (made + 1) ≡ None
next_is_free made pair below = let free = below (made + 1) (omega arith) in rw (free.0, free.1) refl

-- ---- the configuration stays

large_flash : (number : ℕ) (key : List ℕ) (pair : Pair) (next : Next) → (then_large number (Get key) pair next).pair.small ≡ pair.small
large_flash number key pair Busy = refl
large_flash number key pair (Io order outcome) = refl
large_flash number key pair (Done outcome) = by outcome.answer
  where
    by : (answer : Answer) → (went_on number key pair outcome answer).pair.small ≡ pair.small
    by Absent = refl
    by Nothing = refl
    by Over = refl
    by (Found e) = refl

after_flash : (number : ℕ) (op : Op) (moved : Moved) → (after_small number op moved).pair.small ≡ moved.pair.small
after_flash number (Put e) moved = refl
after_flash number (Delete key) moved = refl
after_flash number Flush moved = refl
after_flash number Reclaim moved = refl
after_flash number (Get key) moved = large_flash number key moved.pair moved.next

start_keeps : (number : ℕ) (op : Op) (pair : Pair) → (start number op pair).pair.small.flash ≡ pair.small.flash
start_keeps number (Put e) pair = by (is_small_by pair.small.flash e.key (length e.value))
  where
    by : (t : Bool) → (if t then by_small pair (bighash.start pair.small number (Put e)) else by_large pair [] (steps.put pair.small.flash e pair.large)).pair.small.flash ≡ pair.small.flash
    by true = start_flash pair.small number (Put e)
    by false = refl
start_keeps number (Get key) pair = ap (λ (s : BigHash). s.flash) (after_flash number (Get key) (by_small pair (bighash.start pair.small number (Get key)))) ∙ start_flash pair.small number (Get key)
start_keeps number (Delete key) pair = start_flash pair.small number (Delete key)
start_keeps number Flush pair = refl
start_keeps number Reclaim pair = refl

pub started_flash : (pair new : Pair) (number : ℕ) (op : Op) (next : Next) → start number op pair ≡ record { pair = new; next = next } → new.small.flash ≡ pair.small.flash
started_flash pair new number op next e = ap (λ (m : Moved). m.pair.small.flash) (sym e) ∙ start_keeps number op pair

pub resumed_flash : (pair new : Pair) (number : ℕ) (result : IoResult) (next : Next) → resume number result pair ≡ Some (record { pair = new; next = next }) → new.small.flash ≡ pair.small.flash
resumed_flash pair new number result next e = by (job_at number pair.small.jobs) (work_of number pair.large.jobs) e
  where
    moved : Moved
    moved = record { pair = new; next = next }

    waited : (work : Work) (t : Bool) → (if t then Some (by_large pair [] (steps.resume pair.small.flash number work result pair.large)) else None) ≡ Some moved → new.small.flash ≡ pair.small.flash
    waited work true e = let same : by_large pair [] (steps.resume pair.small.flash number work result pair.large) ≡ moved = cc in ap (λ (m : Moved). m.pair.small.flash) (sym same)
    waited work false e = absurd cc

    by : (job : Option Job) (work : Option Work) → resume_in number result pair job ≡ Some moved → new.small.flash ≡ pair.small.flash
    by (Some job) work e =
        let m = mapped_some (λ m. after_small number job.op (by_small pair m)) (bighash.resume pair.small number result) moved e in
        ap (λ (x : Moved). x.pair.small.flash) (sym m.2) ∙ ap (λ (s : BigHash). s.flash) (after_flash number job.op (by_small pair m.0)) ∙ resume_flash pair.small number result m.0 m.1
    by None work e = in_large (work_of number pair.large.jobs) e
      where
        in_large : (o : Option Work) → resume_large number result pair o ≡ Some moved → new.small.flash ≡ pair.small.flash
        in_large None e = absurd cc
        in_large (Some work) e = waited work _ e
