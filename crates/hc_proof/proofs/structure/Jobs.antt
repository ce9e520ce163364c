-- Jobs and fills, as an operation begins, goes on and ends.
use Rattle.std.proofs.Common.{◌≡◌, ℕ, ◌+◌, ◌<◌, ◌≤◌, ◌==◌, Bool, true, false, not, ◌&&◌, List, [], ◌∷◌, filter, find, Option, Some, None, refl, ap, sym, ◌∙◌, arith, cond, subst}
use Rattle.std.specs.Prelude.{if◌then◌else◌}
use Rattle.std.specs.Str.{bytes_eq}
use Rattle.std.proofs.lemmas.Bool.{eqb-true}
use Rattle.hc_types.specs.Tally.{count}
use Rattle.hc_engines.specs.Engine.{Op, Get, Answer, Nothing, Over, Absent, Found}
use Rattle.hc_engines.specs.small.BigHash as bighash
use Rattle.hc_engines.specs.small.BigHash.{Phase, make_job}
use Rattle.hc_engines.specs.large.Block as block
use Rattle.hc_engines.specs.large.Block.{Work, Writing, Getting}
use Rattle.hc_engines.specs.pair.Pair.{Pair, Moved}
use Rattle.hc_memory.specs.Memory.{Memory}
use Rattle.hc_memory.proofs.Keyed.{same_bytes}
use Rattle.hc_machine.proofs.items.Items.{bytes_eq-refl}
use Rattle.hc_history.specs.Note as note
use Rattle.hc_machine.specs.Nvm.{Nvm, Tombstone, Task, Putting, Deleting, Filling, Flushing, Waiter, Fill, is_stone_of, is_fill_of, is_number_in, is_job, fill_by, without_fill, taken_fill, adds}
use Rattle.hc_machine.specs.Takes.{takes, Finished, fill_out, finished, found_in}
use Rattle.hc_machine.specs.Leaving.{Changed, changed}
use Rattle.hc_invariant.specs.Jobs.{AllWish, AllWishes}
use Rattle.hc_invariant.specs.Structure.{Asks, AsksIf, AllAsk, JobsStand, brings, is_get_of, is_read_of, is_small_job, is_large_job, operations}
use Rattle.hc_proof.proofs.frames.ByNumber.{none-counted, count-fewer}
use Rattle.hc_proof.proofs.frames.Fills.{fewer_wish}
use Rattle.hc_proof.proofs.frames.Lists as lists
use Rattle.hc_proof.specs.calls.Serving.{ghost}
use Rattle.hc_proof.specs.structure.Operations.{AnswerIsOf, IsWorkOf, Does}
use Rattle.hc_proof.specs.structure.Found.{Keeps}
use Rattle.hc_proof.specs.structure.Parts.{FewerFills}
use Rattle.hc_proof.specs.structure.Takes.{Under, AskedIf, AllAsked, EntryIsOf, Leaves}
use Rattle.hc_proof.proofs.structure.Parts.{same_puts, same_fills, same_wait}
use Rattle.hc_proof.proofs.structure.Pieces.{none_left}
use Rattle.hc_proof.proofs.structure.Serving.{left_fewer, ask_fewer}

-- ---- lists

-- what is found by one test and passes another is one of those that go with the other
pub found_gone : {X : Type 0} (p q : X → Bool) (xs : List X) (x : X) → find p xs ≡ Some x → q x ≡ true → count p (filter (λ y. not (q y)) xs) + 1 ≤ count p xs
found_gone p q [] x e own = absurd cc
found_gone p q (y ∷ xs) x e own = step (p y) refl (q y) refl (λ k. found_gone p q xs x k own) e
  where
    step : (b : Bool) → p y ≡ b → (c : Bool) → q y ≡ c → (find p xs ≡ Some x → count p (filter (λ z. not (q z)) xs) + 1 ≤ count p xs) → cond b (Some y) (find p xs) ≡ Some x
        → count p (cond (not c) (y ∷ filter (λ z. not (q z)) xs) (filter (λ z. not (q z)) xs)) + 1 ≤ cond b 1 0 + count p xs
    step true t true u rest e = omega (arith, count-fewer p (λ z. not (q z)) xs)
    step true t false u rest e = absurd (let same : y ≡ x = cc in let here : q y ≡ true = ap q same ∙ own in cc)
    step false t true u rest e = omega (arith, rest e)
    step false t false u rest e = omega (arith, rest e, ap {B = ℕ} (λ b. cond b 1 0) t)

wish_found : (memory : Memory) (p : Fill → Bool) (fills : List Fill) (fill : Fill) → find p fills ≡ Some fill → AllWishes memory fills → AllWish memory fill.key fill.waiters
wish_found memory p [] fill e h = absurd cc
wish_found memory p (x ∷ fills) fill e h = step (p x) (λ k. wish_found memory p fills fill k h.1) e
  where
    step : (b : Bool) → (find p fills ≡ Some fill → AllWish memory fill.key fill.waiters) → cond b (Some x) (find p fills) ≡ Some fill → AllWish memory fill.key fill.waiters
    step true rest e = let same : x ≡ fill = cc in subst (λ (f : Fill). AllWish memory f.key f.waiters) same h.0
    step false rest e = rest e

-- ---- what a fill's job asks for

pub asked_found : (op : Op) (number : ℕ) (fills : List Fill) (fill : Fill) → fill_by number fills ≡ Some fill → AllAsked op number fills → op ≡ Get fill.key
asked_found op number [] fill e h = absurd cc
asked_found op number (x ∷ fills) fill e h = step (is_number_in number x.job) refl (λ k. asked_found op number fills fill k h.1) e
  where
    own : (job : Option ℕ) → is_number_in number job ≡ true → AskedIf op number x.key job → op ≡ Get x.key
    own None t a = absurd cc
    own (Some n) t a = a t

    step : (b : Bool) → is_number_in number x.job ≡ b → (fill_by number fills ≡ Some fill → op ≡ Get fill.key) → cond b (Some x) (fill_by number fills) ≡ Some fill → op ≡ Get fill.key
    step true t rest e = let same : x ≡ fill = cc in subst (λ (f : Fill). op ≡ Get f.key) same (own x.job t h.0)
    step false t rest e = rest e

-- where the engines' operation is a get of whatever its number asks for
pub asked_all : (op : Op) (number : ℕ) (pair : Pair) (fills : List Fill) → ((key : List ℕ) → Asks pair key number → op ≡ Get key) → AllAsk pair fills → AllAsked op number fills
asked_all op number pair [] same h = tt
asked_all op number pair (fill ∷ fills) same h = (one fill.job h.0, asked_all op number pair fills same h.1)
  where
    one : (job : Option ℕ) → AsksIf pair fill.key job → AskedIf op number fill.key job
    one None a = tt
    one (Some n) a = λ t. same fill.key (subst (λ (m : ℕ). Asks pair fill.key m) (eqb-true n number t) a)

-- where no fill has the number
pub asked_none : (op : Op) (number : ℕ) (fills : List Fill) → count (brings number) fills ≡ 0 → AllAsked op number fills
asked_none op number [] none = tt
asked_none op number (fill ∷ fills) none = (one fill.job (omega (arith, none)), asked_none op number fills (omega (arith, none)))
  where
    one : (job : Option ℕ) → ◌≡◌ {A = ℕ} (cond (is_number_in number job) 1 0) 0 → AskedIf op number fill.key job
    one None z = tt
    one (Some n) z = λ t. absurd (let here : ◌≡◌ {A = ℕ} (cond (n == number) 1 0) 1 = ap {B = ℕ} (λ b. cond b 1 0) t in omega (arith, here, z))

-- as a fill is taken
pub asked_taken : (key : List ℕ) (number : ℕ) (fills : List Fill) → count (brings number) fills ≡ 0 → AllAsked (Get key) number (taken_fill key number fills)
asked_taken key number [] none = tt
asked_taken key number (fill ∷ fills) none = (step (is_fill_of key fill) refl, asked_taken key number fills (omega (arith, none)))
  where
    step : (b : Bool) → is_fill_of key fill ≡ b → AskedIf (Get key) number (if b then record fill { job = Some number } else fill).key (if b then record fill { job = Some number } else fill).job
    step true t = λ u. ap Get (sym (same_bytes fill.key key t))
    step false t = (asked_none (Get key) number (fill ∷ []) (omega (arith, none))).0

-- ---- operations

other_test : (a n m : ℕ) (b : Bool) → a ≡ n → (m == n) ≡ false → ((a == m) && b) ≡ false
other_test a n m b same o = grind (arith, same, o)

other_job : (n m : ℕ) → (m == n) ≡ false → ◌≡◌ {A = ℕ} (cond (n == m) 1 0) 0
other_job n m o = grind (arith, o)

-- another number has no more of them
pub others_less : (number : ℕ) (op : Op) (pair : Pair) (moved : Moved) → Does number op pair moved → (n : ℕ) → (n == number) ≡ false → operations moved.pair n ≤ operations pair n
others_less number op pair moved d n o =
    omega (arith, d.small (λ (job : bighash.Job). cond (is_small_job n job) 1 0) (λ bucket phase. other_job number n o), d.large (λ (job : block.Job). cond (is_large_job n job) 1 0) (λ work is. other_job number n o))

none_if : (b : Bool) → b ≡ false → ◌≡◌ {A = ℕ} (cond b 1 0) 0
none_if b e = ap {B = ℕ} (λ t. cond t 1 0) e

-- what a number asks for stays: another's, and its own key's
ask_other : (number : ℕ) (op : Op) (pair : Pair) (moved : Moved) → Does number op pair moved → (key : List ℕ) (n : ℕ) → (n == number) ≡ false → Asks pair key n → Asks moved.pair key n
ask_other number op pair moved d key n o a = record {
  small = omega (arith, a.small, d.small (λ (job : bighash.Job). cond (is_small_job n job && not (is_get_of key job.op)) 1 0) (λ bucket phase. none_if _ (other_test number number n (not (is_get_of key op)) refl o)));
  large = omega (arith, a.large, d.large (λ (job : block.Job). cond (is_large_job n job && not (is_read_of key job.work)) 1 0) (λ work is. none_if _ (other_test number number n (not (is_read_of key work)) refl o)));
}

own_get : (key : List ℕ) (op : Op) (b : Bool) → op ≡ Get key → (b && not (is_get_of key op)) ≡ false
own_get key op b e = ap (λ (o : Op). b && not (is_get_of key o)) e ∙ ap (λ t. b && not t) (bytes_eq-refl key) ∙ and_false b
  where
    and_false : (b : Bool) → (b && false) ≡ false
    and_false true = refl
    and_false false = refl

own_read : (key : List ℕ) (op : Op) (work : Work) (b : Bool) → op ≡ Get key → IsWorkOf op work → (b && not (is_read_of key work)) ≡ false
own_read key op work b e is = of work (subst (λ (o : Op). IsWorkOf o work) e is)
  where
    and_false : (b : Bool) → (b && false) ≡ false
    and_false true = refl
    and_false false = refl

    of : (work : Work) → IsWorkOf (Get key) work → (b && not (is_read_of key work)) ≡ false
    of (Writing region bytes) is = absurd is
    of (Getting reading) is = ap (λ (k : List ℕ). b && not (bytes_eq k key)) is ∙ ap (λ t. b && not t) (bytes_eq-refl key) ∙ and_false b

ask_own : (number : ℕ) (op : Op) (pair : Pair) (moved : Moved) → Does number op pair moved → (key : List ℕ) (n : ℕ) → op ≡ Get key → Asks pair key n → Asks moved.pair key n
ask_own number op pair moved d key n e a = record {
  small = omega (arith, a.small, d.small (λ (job : bighash.Job). cond (is_small_job n job && not (is_get_of key job.op)) 1 0) (λ bucket phase. none_if _ (own_get key op (number == n) e)));
  large = omega (arith, a.large, d.large (λ (job : block.Job). cond (is_large_job n job && not (is_read_of key job.work)) 1 0) (λ work is. none_if _ (own_read key op work (number == n) e is)));
}

asks_still : (number : ℕ) (op : Op) (pair : Pair) (moved : Moved) → Does number op pair moved → (fills : List Fill) → AllAsked op number fills → AllAsk pair fills → AllAsk moved.pair fills
asks_still number op pair moved d [] asked h = tt
asks_still number op pair moved d (fill ∷ fills) asked h = (one fill.job asked.0 h.0, asks_still number op pair moved d fills asked.1 h.1)
  where
    at : (n : ℕ) (b : Bool) → (n == number) ≡ b → ((n == number) ≡ true → op ≡ Get fill.key) → Asks pair fill.key n → Asks moved.pair fill.key n
    at n true t asked a = ask_own number op pair moved d fill.key n (asked t) a
    at n false t asked a = ask_other number op pair moved d fill.key n t a

    one : (job : Option ℕ) → AskedIf op number fill.key job → AsksIf pair fill.key job → AsksIf moved.pair fill.key job
    one None asked a = tt
    one (Some n) asked a = at n (n == number) refl asked a

-- a call of the engines keeps what is said of the jobs
pub pair_under : (nvm : Nvm) (number : ℕ) (op : Op) (moved : Moved) → Does number op nvm.pair moved → Keeps nvm.pair moved → AllAsked op number nvm.fills → Under nvm number → Under (record nvm { pair = moved.pair }) number
pair_under nvm number op moved d k asked u = record {
  one_job = u.one_job;
  one_each = u.one_each;
  fresh = λ n lt o. omega (arith, u.fresh n lt o, others_less number op nvm.pair moved d n o);
  asks = asks_still number op nvm.pair moved d nvm.fills asked u.asks;
  large = k.large u.large;
}

-- ---- an operation ends

pub under_of : (nvm : Nvm) (number : ℕ) → JobsStand nvm → Under nvm number
under_of nvm number j = record { one_job = j.one_job; one_each = j.one_each; fresh = λ n lt o. j.fresh n lt; asks = j.asks; large = j.large }

-- its number is free, or one that was taken
pub whole_jobs : (nvm : Nvm) (number : ℕ) → Under nvm number → (nvm.made < number → count (is_job number) nvm.jobs + (count (brings number) nvm.fills + operations nvm.pair number) ≡ 0) → JobsStand nvm
whole_jobs nvm number u own = record { one_job = u.one_job; one_each = u.one_each; fresh = λ n lt. by n lt (n == number) refl; asks = u.asks; large = u.large }
  where
    by : (n : ℕ) → nvm.made < n → (b : Bool) → (n == number) ≡ b → count (is_job n) nvm.jobs + (count (brings n) nvm.fills + operations nvm.pair n) ≡ 0
    by n lt true t = let same = eqb-true n number t in subst (λ (m : ℕ). count (is_job m) nvm.jobs + (count (brings m) nvm.fills + operations nvm.pair m) ≡ 0) (sym same) (own (subst (λ (m : ℕ). nvm.made < m) same lt))
    by n lt false t = u.fresh n lt t

-- a task that brings no fill has the number of none
abbrev pub BringsNone : Task → ℕ → Nvm → Type 0
BringsNone Filling number nvm = Unit {0}
BringsNone task number nvm = nvm.made < number → count (brings number) nvm.fills ≡ 0

entry_is : (key : List ℕ) (answer : Answer) → AnswerIsOf (Get key) answer → EntryIsOf key (found_in answer)
entry_is key Nothing h = tt
entry_is key Over h = tt
entry_is key Absent h = tt
entry_is key (Found entry) h = h

-- the key of a fill that leaves is the fill's alone
left_seen : (key : List ℕ) (ws : List Waiter) (fills : List Fill) (fill : Fill) (p : Fill → Bool) → find p fills ≡ Some fill → is_fill_of key fill ≡ true → FewerFills fills (ghost key ws ∷ without_fill key fills)
left_seen key ws fills fill p e own k = by (bytes_eq key k) refl
  where
    More : List ℕ → Type 0
    More x = cond (bytes_eq key x) 1 0 + count (is_fill_of x) (without_fill key fills) ≤ count (is_fill_of x) fills

    one : (b : Bool) → ◌≤◌ (cond b 1 0) 1
    one true = omega arith
    one false = omega arith

    counted : (fills : List Fill) → find p fills ≡ Some fill → 1 ≤ count (is_fill_of key) fills
    counted fills e = lists.found-counts p (is_fill_of key) fills fill e own

    by : (b : Bool) → bytes_eq key k ≡ b → More k
    by true t = subst More (same_bytes key k t) (omega (arith, one (bytes_eq key key), none_left (is_fill_of key) fills, counted fills e))
    by false t = omega (arith, ap {B = ℕ} (λ b. cond b 1 0) t, count-fewer (is_fill_of k) (λ f. not (is_fill_of key f)) fills)

module _ (nvm : Nvm) (stones : List Tombstone) (number : ℕ) (answer : Answer) (one_stone : (key : List ℕ) → count (is_stone_of key) stones ≤ 1) (u : Under nvm number)
    (rests : nvm.made < number → count (is_job number) nvm.jobs + operations nvm.pair number ≡ 0) where
  abbrev raised : Nvm
  raised = record nvm { tombstones = stones }

  abbrev change : List note.Note → Changed
  change part = changed part raised

  -- no fill is brought
  none_finished : (part : List note.Note) → (nvm.made < number → count (brings number) nvm.fills ≡ 0) → Leaves nvm (takes Finished (change part))
  none_finished part none =
      let j = whole_jobs nvm number u (λ lt. omega (arith, rests lt, none lt)) in
      record { puts = same_puts nvm.queue; fills = (same_fills nvm.fills, same_wait nvm.fills); beside = record { one_stone = one_stone; jobs = record { one_job = j.one_job; one_each = j.one_each; fresh = j.fresh; asks = j.asks; large = j.large } }; flash = refl }

  fill_finished : (part : List note.Note) (fill : Fill) → fill_by number nvm.fills ≡ Some fill → AnswerIsOf (Get fill.key) answer → Leaves nvm (fill_out (Some fill) answer (change part))
  fill_finished part fill e own =
      let key = fill.key in
      let mine : is_fill_of key fill ≡ true = bytes_eq-refl key in
      let less = beside_fewer_under (λ f. not (is_fill_of key f)) in
      record {
        puts = same_puts nvm.queue;
        fills = (
          key,
          record {
            fills = left_seen key fill.waiters nvm.fills fill (brings number) e mine;
            wait = record {
              wishes = λ memory w. (wish_found memory (brings number) nvm.fills fill e w, fewer_wish memory (λ f. not (is_fill_of key f)) nvm.fills w);
              adds = λ n. left_fewer (adds n) (brings number) nvm.fills fill e (is_fill_of key) mine;
            };
            gone = none_left (is_fill_of key) nvm.fills;
            own = entry_is key answer own;
          },
        );
        beside = record {
          one_stone = one_stone;
          jobs =
              let left : Nvm = record nvm { fills = without_fill key nvm.fills } in
              let j = whole_jobs left number less (λ lt. omega (arith, rests lt, found_gone (brings number) (is_fill_of key) nvm.fills fill e mine, u.one_each number)) in
              record { one_job = j.one_job; one_each = j.one_each; fresh = j.fresh; asks = j.asks; large = j.large };
        };
        flash = refl;
      }
    where
      beside_fewer_under : (p : Fill → Bool) → Under (record nvm { fills = filter p nvm.fills }) number
      beside_fewer_under p = record {
        one_job = u.one_job;
        one_each = λ n. omega (arith, u.one_each n, count-fewer (brings n) p nvm.fills);
        fresh = λ n lt o. omega (arith, u.fresh n lt o, count-fewer (brings n) p nvm.fills);
        asks = ask_fewer nvm.pair p nvm.fills u.asks;
        large = u.large;
      }

  pub finished_leaves : (task : Task) (part : List note.Note) → BringsNone task number nvm → ((fill : Fill) → fill_by number nvm.fills ≡ Some fill → AnswerIsOf (Get fill.key) answer) → Leaves nvm (finished task number answer (change part))
  finished_leaves (Putting key) part none own = none_finished part none
  finished_leaves (Deleting key) part none own = none_finished part none
  finished_leaves Flushing part none own = none_finished part none
  finished_leaves Filling part none own = by (fill_by number nvm.fills) refl
    where
      by : (o : Option Fill) → fill_by number nvm.fills ≡ o → Leaves nvm (fill_out o answer (change part))
      by None e = none_finished part (λ lt. none-counted (brings number) nvm.fills e)
      by (Some fill) e = fill_finished part fill e (own fill e)
