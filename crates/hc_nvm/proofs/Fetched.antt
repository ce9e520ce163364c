-- A key is brought from flash.
use Rattle.std.proofs.Common.{◌≡◌, ℕ, ◌+◌, ◌==◌, Bool, true, false, not, List, [], ◌∷◌, ◌++◌, Option, Some, None, refl, sym, ap, ◌∙◌, subst, arith, ◌&&◌}
use Rattle.std.specs.List.{find}
use Rattle.std.specs.Str.{bytes_eq}
use Rattle.std.specs.Prelude.{option_map, is_some}
use Rattle.hc_types.specs.declared.config.FlashConfig.{FlashConfig}
use Rattle.hc_memory.specs.Memory.{Memory}
use Rattle.hc_engines.proofs.Keys.{same-true}
use Rattle.hc_machine.proofs.items.Items.{bytes_eq-refl}
use Rattle.hc_engines.specs.Engine.{Op, Get, Next, Busy, Io, Done}
use Rattle.hc_engines.specs.pair.Pair.{Pair, Moved, start, is_busy_for}
use Rattle.hc_engines.proofs.pair.Waiting.{busy_is_true}
use Rattle.hc_bighash.specs.Found.{losses_of}
use Rattle.hc_history.specs.Told.{Heard, told_more}
use Rattle.hc_machine.specs.Cache.{unmarked_by}
use Rattle.hc_machine.specs.Leaving.{changed}
use Rattle.hc_machine.specs.Nvm.{Nvm, Tombstone, Filling, Fill, Job, is_fill_of, fill_at, fill_by, is_number_in, without_fill, taken_fill, next_fill}
use Rattle.hc_machine.specs.Takes.{Taken, Take, Filled, Finished, Work, takes, launch, launch_by, launched, finished, fill_out, loss_notes, take_fill, filler_take, found_in}
use Rattle.hc_nvm.specs.After.{After, after, settled_part, settled_left}
use Rattle.hc_nvm.specs.Fetching.{AreServed}
use Rattle.hc_nvm.specs.Filled.{filled_if, left_if, over_of}
use Rattle.hc_nvm.specs.Starting.{made_after}
use Rattle.hc_engines.specs.pair.Below.{IsBelow}
use Rattle.hc_nvm.specs.Stock.{Kept, IsUpTo, AreBrought}
use Rattle.hc_nvm.specs.Taking.{IsTaken}
use Rattle.hc_nvm.proofs.Keeping.{started_kept}
use Rattle.hc_nvm.proofs.Launching.{left_of, holds_is, settled_is, after_unmarked}

some_is : {X : Type 0} (x y : X) → Some x ≡ Some y → x ≡ y
some_is x y h = cc

same_number : (n : ℕ) → (n == n) ≡ true
same_number n = grind arith

-- ---- whose job it is

not_of_next : (made : ℕ) (job : Option ℕ) → IsUpTo made job → is_number_in (made + 1) job ≡ false
not_of_next made None h = refl
not_of_next made (Some job) h = grind (arith, h)

pub none_brought : (made : ℕ) (fills : List Fill) → AreBrought made fills → fill_by (made + 1) fills ≡ None
none_brought made [] h = refl
none_brought made (fill ∷ fills) h = rw (not_of_next made fill.job h.0) (none_brought made fills h.1)

-- the key's fill, once the next job brings it
pub record TakenFill (made : ℕ) (key : List ℕ) (fills : List Fill) : Type 0 where
  pub fill : Fill
  pub at : fill_at key (taken_fill key (made + 1) fills) ≡ Some fill
  pub by : fill_by (made + 1) (taken_fill key (made + 1) fills) ≡ Some fill
  pub own : fill.key ≡ key

pub taken_there : (made : ℕ) (key : List ℕ) (test : Fill → Bool) (fills : List Fill) (chosen : Fill) → AreBrought made fills → find test fills ≡ Some chosen → chosen.key ≡ key → TakenFill made key fills
taken_there made key test [] chosen h e own = absurd cc
taken_there made key test (x ∷ xs) chosen h e own = of (is_fill_of key x) refl (test x) refl (λ there. taken_there made key test xs chosen h.1 there own)
  where
    mine : Fill
    mine = record x { job = Some (made + 1) }

    of : (t : Bool) → is_fill_of key x ≡ t → (b : Bool) → test x ≡ b → (find test xs ≡ Some chosen → TakenFill made key xs) → TakenFill made key (x ∷ xs)
    of true t b s more = record { fill = mine; at = rw t (rw t refl); by = rw t (rw (same_number (made + 1)) refl); own = same-true x.key key t }
    of false t true s more =
        let same : x ≡ chosen = some_is x chosen (rw s at e) in
        let wrong : is_fill_of key x ≡ true = ap (λ (k : List ℕ). bytes_eq k key) (ap (λ (f : Fill). f.key) same ∙ own) ∙ bytes_eq-refl key in
        let both : true ≡ false = sym wrong ∙ t in
        absurd cc
    of false t false s more =
        let rest = more (rw s at e) in
        record { fill = rest.fill; at = rw t (rw t rest.at); by = rw t (rw (not_of_next made x.job h.0) rest.by); own = rest.own }

-- ---- the fills that are left

pub brought_taken : (made : ℕ) (key : List ℕ) (fills : List Fill) → AreBrought made fills → AreBrought (made + 1) (taken_fill key (made + 1) fills)
brought_taken made key [] h = tt
brought_taken made key (x ∷ xs) h = of (is_fill_of key x) refl (brought_taken made key xs h.1)
  where
    up : (job : Option ℕ) → IsUpTo made job → IsUpTo (made + 1) job
    up None h = tt
    up (Some job) h = omega (arith, h)

    of : (t : Bool) → is_fill_of key x ≡ t → AreBrought (made + 1) (taken_fill key (made + 1) xs) → AreBrought (made + 1) (taken_fill key (made + 1) (x ∷ xs))
    of true t more = rw t (omega arith, more)
    of false t more = rw t (up x.job h.0, more)

pub brought_ended : (made : ℕ) (key : List ℕ) (fills : List Fill) → AreBrought made fills → AreBrought made (without_fill key (taken_fill key (made + 1) fills))
brought_ended made key [] h = tt
brought_ended made key (x ∷ xs) h = of (is_fill_of key x) refl (brought_ended made key xs h.1)
  where
    of : (t : Bool) → is_fill_of key x ≡ t → AreBrought made (without_fill key (taken_fill key (made + 1) xs)) → AreBrought made (without_fill key (taken_fill key (made + 1) (x ∷ xs)))
    of true t more = rw t (rw t more)
    of false t more = rw t (rw t (h.0, more))

pub brought_after : (flash : FlashConfig) (next : Next) (stones : List Tombstone) (jobs : List Job) (made : ℕ) (key : List ℕ) (fills : List Fill) → (next ≡ Busy → ⊥) → AreBrought made fills
    → AreBrought (after flash Filling next stones jobs made).made (left_if (after flash Filling next stones jobs made).take key (taken_fill key (made + 1) fills))
brought_after flash Busy stones jobs made key fills free h = absurd (free refl)
brought_after flash (Io order outcome) stones jobs made key fills free h = brought_taken made key fills h
brought_after flash (Done outcome) stones jobs made key fills free h = brought_ended made key fills h

-- ---- it isn't put off

pub passes : {X : Type 0} (test : X → Bool) (xs : List X) (x : X) → find test xs ≡ Some x → test x ≡ true
passes test [] x e = absurd cc
passes {X} test (y ∷ ys) x e = of (test y) refl (passes test ys x)
  where
    of : (t : Bool) → test y ≡ t → (find test ys ≡ Some x → test x ≡ true) → test x ≡ true
    of true t more = subst (λ (z : X). test z ≡ true) (some_is y x (rw t at e)) t
    of false t more = more (rw t at e)

pub not_put_off : (nvm : Nvm) (fill : Fill) (number : ℕ) (key : List ℕ) → next_fill nvm ≡ Some fill → fill.key ≡ key → (start number (Get key) nvm.pair).next ≡ Busy → ⊥
not_put_off nvm fill number key chosen own busy =
    let passed : (not (is_some fill.job) && not (is_busy_for nvm.pair fill.key)) ≡ true = passes _ nvm.fills fill chosen in
    let on : is_busy_for nvm.pair fill.key ≡ true = ap (is_busy_for nvm.pair) own ∙ (busy_is_true nvm.pair).0 number (Get key) busy in
    wrong (not (is_some fill.job)) (is_busy_for nvm.pair fill.key) passed on
  where
    wrong : (a b : Bool) → (a && not b) ≡ true → b ≡ true → ⊥
    wrong true true h on = absurd cc
    wrong true false h on = absurd cc
    wrong false b h on = absurd cc

-- ---- the machine's step

launched_fill : (next : Next) (nvm : Nvm) (key : List ℕ) (fill : Fill) → fill_by (nvm.made + 1) nvm.fills ≡ Some fill → fill_at key nvm.fills ≡ Some fill → fill.key ≡ key
    → let a = after nvm.pair.small.flash Filling next nvm.tombstones nvm.jobs nvm.made in
    launched Filling next nvm ≡ record { nvm = record (left_of nvm a) { fills = left_if a.take key nvm.fills }; take = a.take; part = a.part; filled = filled_if a.take a.found (fill_at key nvm.fills) }
launched_fill Busy nvm key fill by at own = refl
launched_fill (Io order outcome) nvm key fill by at own = ap (takes (Work (nvm.made + 1) order)) (holds_is outcome (record nvm { jobs = nvm.jobs ++ record { number = nvm.made + 1; task = Filling; order = order } ∷ []; made = nvm.made + 1 }))
launched_fill (Done outcome) nvm key fill by at own =
    ap (finished Filling (nvm.made + 1) outcome.answer) (settled_is Filling outcome nvm)
    ∙ ap (λ (f : Option Fill). fill_out f outcome.answer (changed (settled_part nvm.pair.small.flash Filling outcome nvm.tombstones) (record nvm { tombstones = settled_left nvm.pair.small.flash Filling outcome nvm.tombstones }))) by
    ∙ (λ i. record {
      nvm = record nvm { tombstones = settled_left nvm.pair.small.flash Filling outcome nvm.tombstones; fills = without_fill (own i) nvm.fills };
      take = Finished;
      part = settled_part nvm.pair.small.flash Filling outcome nvm.tombstones;
      filled = over_of (found_in outcome.answer) (option_map (λ (f : Fill). f.waiters) (sym at i));
    })

-- what the code has of a fill that was taken
pub record Came (nvm : Nvm) (key : List ℕ) (pair : Pair) (next : Next) (flash : FlashConfig) (o : Op) (jobs : List Job) (fills gone : List Fill) (new : Nvm) (take : Take) (filled : Option Filled) (heard middle told : Heard) (memory left : Memory) : Type 0 where
  pub same_op : o ≡ Get key
  pub started : start (nvm.made + 1) o nvm.pair ≡ record { pair = pair; next = next }
  pub same_flash : flash ≡ pair.small.flash
  pub same_jobs : jobs ≡ nvm.jobs
  pub same_fills : fills ≡ taken_fill key (nvm.made + 1) nvm.fills
  pub gone_is : gone ≡ left_if take key fills
  pub new_is : new ≡ record (left_of (record nvm { pair = pair }) (after flash Filling next nvm.tombstones jobs nvm.made)) { fills = gone }
  pub take_is : take ≡ (after flash Filling next nvm.tombstones jobs nvm.made).take
  pub filled_is : filled ≡ filled_if take (after flash Filling next nvm.tombstones jobs nvm.made).found (fill_at key fills)
  pub told_before_is : middle ≡ heard
  pub told_is : told ≡ told_more middle (after flash Filling next nvm.tombstones jobs nvm.made).part
  pub marks : left ≡ unmarked_by (loss_notes (losses_of next)) memory

pub fill_is_taken : (nvm : Nvm) (key : List ℕ) (pair : Pair) (next : Next) (flash : FlashConfig) (o : Op) (jobs : List Job) (fills gone : List Fill) (new : Nvm) (take : Take) (filled : Option Filled) (heard middle told : Heard) (memory left : Memory)
    → AreBrought nvm.made nvm.fills → option_map (λ (fill : Fill). fill.key) (next_fill nvm) ≡ Some key
    → Came nvm key pair next flash o jobs fills gone new take filled heard middle told memory left → IsTaken (filler_take nvm) new take filled heard told memory left
fill_is_taken nvm key pair next flash o jobs fills gone new take filled heard middle told memory left brought next_is came = of (next_fill nvm) refl next_is
  where
    taken : List Fill
    taken = taken_fill key (nvm.made + 1) nvm.fills

    a : FlashConfig → List Job → After
    a f js = after f Filling next nvm.tombstones js nvm.made

    is : After → Take → List Fill → Taken
    is x t fs = record { nvm = record (left_of (record nvm { pair = pair }) x) { fills = left_if t key fs }; take = t; part = x.part; filled = filled_if t x.found (fill_at key fs) }

    by_fill : TakenFill nvm.made key nvm.fills → launch Filling (Get key) (record nvm { fills = taken }) ≡ is (a pair.small.flash nvm.jobs) (a pair.small.flash nvm.jobs).take taken
    by_fill there =
        ap (λ (m : Moved). launch_by Filling m (record nvm { fills = taken })) (ap (λ (x : Op). start (nvm.made + 1) x nvm.pair) (sym came.same_op) ∙ came.started)
        ∙ launched_fill next (record nvm { pair = pair; fills = taken }) key there.fill there.by there.at there.own

    code : is (a flash jobs) take fills ≡ is (a pair.small.flash nvm.jobs) (a pair.small.flash nvm.jobs).take taken
    code = (λ i. is (a (came.same_flash i) (came.same_jobs i)) take (came.same_fills i)) ∙ ap (λ (t : Take). is (a pair.small.flash nvm.jobs) t taken) (came.take_is ∙ λ i. (a (came.same_flash i) (came.same_jobs i)).take)

    whole : (machine : Taken) → is (a flash jobs) take fills ≡ machine → IsTaken machine new take filled heard told memory left
    whole machine e = record {
      nvm_is = came.new_is ∙ (λ i. record (left_of (record nvm { pair = pair }) (a flash jobs)) { fills = came.gone_is i }) ∙ ap (λ (t : Taken). t.nvm) e;
      take_is = ap (λ (t : Taken). t.take) e;
      filled_is = came.filled_is ∙ ap (λ (t : Taken). t.filled) e;
      told = came.told_is ∙ ap (λ (l : Heard). told_more l (a flash jobs).part) came.told_before_is ∙ ap (λ (t : Taken). told_more heard t.part) e;
      marks = came.marks ∙ sym (after_unmarked flash Filling next nvm.tombstones jobs nvm.made memory) ∙ ap (λ (t : Taken). unmarked_by t.part memory) e;
    }

    of : (o : Option Fill) → next_fill nvm ≡ o → option_map (λ (fill : Fill). fill.key) o ≡ Some key → IsTaken (take_fill o nvm) new take filled heard told memory left
    of None e own = absurd cc
    of (Some fill) e own =
        let same : fill.key ≡ key = some_is fill.key key own in
        whole (take_fill (Some fill) nvm) (code ∙ sym (by_fill (taken_there nvm.made key _ nvm.fills fill brought e same)) ∙ ap (λ (k : List ℕ). launch Filling (Get k) (record nvm { fills = taken_fill k (nvm.made + 1) nvm.fills })) (sym same))

-- the operation isn't put off
pub fill_goes : (nvm : Nvm) (key : List ℕ) (pair : Pair) (next : Next) (o : Op) → option_map (λ (fill : Fill). fill.key) (next_fill nvm) ≡ Some key → o ≡ Get key → start (nvm.made + 1) o nvm.pair ≡ record { pair = pair; next = next } → next ≡ Busy → ⊥
fill_goes nvm key pair next o next_is same started busy = of (next_fill nvm) refl next_is
  where
    of : (f : Option Fill) → next_fill nvm ≡ f → option_map (λ (fill : Fill). fill.key) f ≡ Some key → ⊥
    of None e own = absurd cc
    of (Some fill) e own = not_put_off nvm fill (nvm.made + 1) key e (some_is fill.key key own) (ap (λ (x : Op). (start (nvm.made + 1) x nvm.pair).next) (sym same) ∙ ap (λ (m : Moved). m.next) started ∙ busy)

-- what holds at every time, with these fills left
pub fetched_kept : (nvm : Nvm) (pair : Pair) (flash : FlashConfig) (next : Next) (stones left : List Tombstone) (jobs : List Job) (made : ℕ) (fills : List Fill) → Kept nvm
    → IsBelow (made_after nvm.made next + 1) pair → pair.small.flash ≡ nvm.pair.small.flash
    → jobs ≡ (after flash Filling next stones nvm.jobs nvm.made).jobs → made ≡ (after flash Filling next stones nvm.jobs nvm.made).made → AreBrought made fills → AreServed pair (after flash Filling next stones nvm.jobs nvm.made).jobs
    → Kept (record nvm { pair = pair; tombstones = left; fills = fills; jobs = jobs; made = made })
fetched_kept nvm pair flash next stones left jobs made fills kept below same jobs_are made_so brought served =
    let k = started_kept nvm pair flash Filling next nvm.queue stones left jobs made kept below same kept.starts (omega arith) jobs_are made_so served in
    record { below = k.below; starts = k.starts; short = k.short; numbered = k.numbered; brought = brought; served = k.served }
