-- A fill ends in two steps: what is known beforehand is the machine's step.
use Rattle.std.proofs.Common.{◌≡◌, ℕ, ◌+◌, ◌≤◌, Bool, true, false, List, [], ◌∷◌, length, slice_get, Option, Some, None, refl, sym, ap, ◌∙◌, subst}
use Rattle.std.specs.Prelude.{option_map, is_some}
use Rattle.hc_types.specs.declared.config.FlashConfig.{FlashConfig}
use Rattle.hc_memory.specs.Memory.{Memory}
use Rattle.hc_engines.specs.Engine.{Get, IoResult, Answer, Outcome, Next, Busy, Io, Done}
use Rattle.hc_engines.specs.large.Sound.{Sound}
use Rattle.hc_engines.specs.pair.Apart.{IsApart}
use Rattle.hc_engines.specs.pair.Held.{under_way}
use Rattle.hc_engines.specs.pair.Pair.{Pair, Moved, start, resume}
use Rattle.hc_block.specs.Endings.{without_lost}
use Rattle.hc_pair.specs.Endings.{Ends, left_by as pair_left, is_done, IsEnding as PairIsEnding, EndsAtOnce as PairEndsAtOnce, IsEndingAtOnce as PairEndingAtOnce}
use Rattle.hc_history.specs.Told.{Heard, Nothing, told_more}
use Rattle.hc_machine.specs.Cache.{unmarked_by}
use Rattle.hc_machine.specs.Leaving.{Changed}
use Rattle.hc_machine.specs.Nvm.{Nvm, Tombstone, Task, Putting, Deleting, Filling, Flushing, Fill, is_fill_of, fill_at, fill_by, without_fill, taken_fill, next_fill, Job, without_job}
use Rattle.hc_machine.specs.Takes.{Take, Taken, Filled, Finished, finished, launched, found_in, finish, finish_job, resumed, filler_take, take_fill, told_before, goes_on, result_note, loss_notes}
use Rattle.hc_nvm.specs.After.{settled_left, settled_part}
use Rattle.hc_nvm.specs.Endings.{Ending, Shows, EndsFill, EndsAtOnce}
use Rattle.hc_nvm.specs.Fetching.{is_fetch, serves, AreServed}
use Rattle.hc_nvm.specs.Filled.{over_of, filled_if, left_if}
use Rattle.hc_nvm.specs.Finishing.{IsHandedIn, place, brought_key, left_by, waiters_by}
use Rattle.hc_nvm.specs.Stock.{Kept, AllCanStart, AreNumbered, AreBrought}
use Rattle.hc_nvm.specs.Taking.{IsTaken}
use Rattle.hc_nvm.proofs.Fetched.{fill_is_taken}
use Rattle.hc_nvm.proofs.Finished.{Stands, stands, finished_is, handed_is, brought_left, result_unmarks}
use Rattle.hc_nvm.proofs.Launching.{settled_is, settled_unmark}
use Rattle.hc_nvm.proofs.Numbers.{next_is_free, started_below, started_flash}
use Rattle.hc_nvm.proofs.Fetching.{not_done}
use Rattle.hc_nvm.proofs.Serving.{served_at, served_started}

some_is : {X : Type 0} (x y : X) → Some x ≡ Some y → x ≡ y
some_is x y h = cc

-- no two fills have the same key
abbrev pub AreApart : ℕ → List Fill → Type 0
AreApart number fills = (fill : Fill) → fill_by number fills ≡ Some fill → fill_at fill.key fills ≡ Some fill

-- a job that is over, as the machine has it
abbrev over_taken : ℕ → Job → Outcome → Nvm → Taken
over_taken number job outcome nvm = record {
  nvm = record nvm { tombstones = settled_left nvm.pair.small.flash job.task outcome nvm.tombstones; fills = left_by (brought_key number nvm.fills job.task) nvm.fills; jobs = without_job job.number nvm.jobs };
  take = Finished;
  part = settled_part nvm.pair.small.flash job.task outcome nvm.tombstones;
  filled = over_of (found_in outcome.answer) (waiters_by (brought_key number nvm.fills job.task) nvm.fills);
}

over_is : (number : ℕ) (job : Job) (outcome : Outcome) (nvm : Nvm) → job.number ≡ number → AreApart number nvm.fills → goes_on job (Done outcome) nvm ≡ over_taken number job outcome nvm
over_is number job outcome nvm own apart =
    ap (finished job.task job.number outcome.answer) (settled_is job.task outcome (record nvm { jobs = without_job job.number nvm.jobs }))
    ∙ finished_is job.task job.number outcome.answer (settled_part nvm.pair.small.flash job.task outcome nvm.tombstones)
    (record nvm { tombstones = settled_left nvm.pair.small.flash job.task outcome nvm.tombstones; jobs = without_job job.number nvm.jobs }) (subst (λ (n : ℕ). AreApart n nvm.fills) (sym own) apart)
    ∙ ap (λ (n : ℕ). over_taken n job outcome nvm) own

-- the key that is brought is that of a fill
brought_waits : (number : ℕ) (fills : List Fill) (task : Task) (key : List ℕ) → AreApart number fills → brought_key number fills task ≡ Some key → is_some (fill_at key fills) ≡ true
brought_waits number fills (Putting k) key apart e = absurd cc
brought_waits number fills (Deleting k) key apart e = absurd cc
brought_waits number fills Flushing key apart e = absurd cc
brought_waits number fills Filling key apart e = of (fill_by number fills) refl e
  where
    of : (o : Option Fill) → fill_by number fills ≡ o → option_map (λ (fill : Fill). fill.key) o ≡ Some key → is_some (fill_at key fills) ≡ true
    of None by h = absurd cc
    of (Some fill) by h = ap (λ (k : List ℕ). is_some (fill_at k fills)) (sym (some_is fill.key key h)) ∙ ap (λ (o : Option Fill). is_some o) (apart fill by)

-- what the code has asked of a get that is over
pub fill_ends : (number at : ℕ) (came : IoResult) (nvm : Nvm) (ending : Ending) → AreNumbered 1 nvm.made nvm.jobs → place number nvm.jobs ≡ Some at → AreApart number nvm.fills
    → ((job : Job) → slice_get nvm.jobs at ≡ Some job → ending.key ≡ brought_key number nvm.fills job.task) → Ends number came nvm.pair ending.over → EndsFill number came nvm ending
fill_ends number at came nvm ending numbered here apart keyed over = record {
  ends = over;
  there = ap (λ (o : Option Job). is_some o) s.there;
  key_is = λ job there. subst (λ (j : Job). ending.key ≡ brought_key number nvm.fills j.task) (some_is s.job job (sym s.there ∙ there)) own_key;
  steps = ap (λ (o : Option Taken). is_some o) step;
  shows = λ taken made. subst (λ (t : Taken). Shows t nvm.fills ending) (some_is machine taken (sym step ∙ made)) shown;
}
  where
    s : Stands number at nvm.jobs
    s = stands 1 nvm.made number at nvm.jobs numbered here

    own_key : ending.key ≡ brought_key number nvm.fills (stands 1 nvm.made number at nvm.jobs numbered here).job.task
    own_key = keyed (stands 1 nvm.made number at nvm.jobs numbered here).job (stands 1 nvm.made number at nvm.jobs numbered here).here

    left : Nvm
    left = record nvm { pair = pair_left number ending.over.gives_up ending.over.rest nvm.pair }

    machine : Taken
    machine = told_before (result_note (stands 1 nvm.made number at nvm.jobs numbered here).job.order came ∷ []) (over_taken number (stands 1 nvm.made number at nvm.jobs numbered here).job ending.over.outcome (record nvm { pair = pair_left number ending.over.gives_up ending.over.rest nvm.pair }))

    handed : IsHandedIn number came nvm (record nvm { pair = pair_left number ending.over.gives_up ending.over.rest nvm.pair }) (Done ending.over.outcome) ending.key
    handed = record { job = s.job; there = s.there; came = over.step; same = refl; key_is = own_key }

    step : finish number came nvm ≡ Some machine
    step = handed_is number came nvm (record nvm { pair = pair_left number ending.over.gives_up ending.over.rest nvm.pair }) (Done ending.over.outcome) ending.key handed
        ∙ ap (λ (t : Taken). Some (told_before (result_note s.job.order came ∷ []) t)) (over_is number s.job ending.over.outcome (record nvm { pair = pair_left number ending.over.gives_up ending.over.rest nvm.pair }) s.own apart)

    shown : Shows machine nvm.fills ending
    shown = record {
      filled = ap (λ (k : Option (List ℕ)). over_of (found_in ending.over.outcome.answer) (waiters_by k nvm.fills)) (sym own_key);
      losses = λ memory. result_unmarks s.job.order came (settled_part left.pair.small.flash s.job.task ending.over.outcome nvm.tombstones) memory ∙ settled_unmark left.pair.small.flash s.job.task ending.over.outcome nvm.tombstones memory;
      waits = λ key e. brought_waits number nvm.fills s.job.task key apart (sym own_key ∙ e);
    }

-- ---- where no get is over

finished_none : (task : Task) (number : ℕ) (answer : Answer) (change : Changed) → (task ≡ Filling → ⊥) → (finished task number answer change).filled ≡ None
finished_none (Putting key) number answer change h = refl
finished_none (Deleting key) number answer change h = refl
finished_none Flushing number answer change h = refl
finished_none Filling number answer change h = absurd (h refl)

goes_none : (job : Job) (next : Next) (nvm : Nvm) → (job.task ≡ Filling → is_done next ≡ false) → (goes_on job next nvm).filled ≡ None
goes_none job Busy nvm h = refl
goes_none job (Io order outcome) nvm h = refl
goes_none job (Done outcome) nvm h = finished_none job.task job.number outcome.answer _ (λ fills. let wrong = h fills in absurd cc)

pub no_fill_ends : (number at : ℕ) (came : IoResult) (nvm : Nvm) → AreNumbered 1 nvm.made nvm.jobs → place number nvm.jobs ≡ Some at → AreServed nvm.pair nvm.jobs → PairIsEnding number came nvm.pair None → (taken : Taken) → finish number came nvm ≡ Some taken → taken.filled ≡ None
no_fill_ends number at came nvm numbered here served on taken made = of (resume number came nvm.pair) refl (sym answer ∙ made)
  where
    s : Stands number at nvm.jobs
    s = stands 1 nvm.made number at nvm.jobs numbered here

    answer : finish number came nvm ≡ option_map (resumed s.job came nvm) (resume number came nvm.pair)
    answer = ap (λ (o : Option Job). finish_job o came nvm) s.there ∙ ap (λ (n : ℕ). option_map (resumed s.job came nvm) (resume n came nvm.pair)) s.own

    of : (o : Option Moved) → resume number came nvm.pair ≡ o → option_map (resumed (stands 1 nvm.made number at nvm.jobs numbered here).job came nvm) o ≡ Some taken → taken.filled ≡ None
    of None e h = absurd cc
    of (Some m) e h =
        let fetches : s.job.task ≡ Filling → is_fetch (under_way nvm.pair number) ≡ true = λ fills. ap (λ (n : ℕ). is_fetch (under_way nvm.pair n)) (sym s.own) ∙ ap (λ (t : Task). serves t (under_way nvm.pair s.job.number)) (sym fills) ∙ served_at nvm.pair number nvm.jobs s.job served s.there in
        ap (λ (t : Taken). t.filled) (sym (some_is _ taken h)) ∙ goes_none s.job m.next (record nvm { pair = m.pair }) (λ fills. not_done nvm.pair number came m (fetches fills) on e)

-- ---- as it is taken

pub without_taken : (key : List ℕ) (number : ℕ) (fills : List Fill) → without_fill key (taken_fill key number fills) ≡ without_fill key fills
without_taken key number [] = refl
without_taken key number (x ∷ xs) = of (is_fill_of key x) refl (without_taken key number xs)
  where
    of : (t : Bool) → is_fill_of key x ≡ t → without_fill key (taken_fill key number xs) ≡ without_fill key xs → without_fill key (taken_fill key number (x ∷ xs)) ≡ without_fill key (x ∷ xs)
    of true t more = rw t (rw t more)
    of false t more = rw t (rw t (ap (λ (fs : List Fill). x ∷ fs) more))

pub waiters_taken : (key : List ℕ) (number : ℕ) (fills : List Fill) → option_map (λ (fill : Fill). fill.waiters) (fill_at key (taken_fill key number fills)) ≡ option_map (λ (fill : Fill). fill.waiters) (fill_at key fills)
waiters_taken key number [] = refl
waiters_taken key number (x ∷ xs) = of (is_fill_of key x) refl (waiters_taken key number xs)
  where
    of : (t : Bool) → is_fill_of key x ≡ t → option_map (λ (fill : Fill). fill.waiters) (fill_at key (taken_fill key number xs)) ≡ option_map (λ (fill : Fill). fill.waiters) (fill_at key xs)
        → option_map (λ (fill : Fill). fill.waiters) (fill_at key (taken_fill key number (x ∷ xs))) ≡ option_map (λ (fill : Fill). fill.waiters) (fill_at key (x ∷ xs))
    of true t more = rw t (rw t refl)
    of false t more = rw t (rw t more)

-- what the code has of a fill that is over as it is taken
pub record CameAtOnce (nvm : Nvm) (key : List ℕ) (pair : Pair) (outcome : Outcome) (flash : FlashConfig) (new : Nvm) (take : Take) (filled : Option Filled) (heard told : Heard) (memory left : Memory) : Type 0 where
  pub started : start (nvm.made + 1) (Get key) nvm.pair ≡ record { pair = pair; next = Done outcome }
  pub same_flash : flash ≡ pair.small.flash
  pub new_is : new ≡ record nvm { pair = pair; tombstones = settled_left flash Filling outcome nvm.tombstones; fills = without_fill key nvm.fills }
  pub take_is : take ≡ Finished
  pub filled_is : filled ≡ over_of (found_in outcome.answer) (option_map (λ (fill : Fill). fill.waiters) (fill_at key nvm.fills))
  pub told_is : told ≡ told_more heard (settled_part flash Filling outcome nvm.tombstones)
  pub marks : left ≡ unmarked_by (loss_notes outcome.losses) memory

pub taken_at_once : (nvm : Nvm) (key : List ℕ) (pair : Pair) (outcome : Outcome) (flash : FlashConfig) (new : Nvm) (take : Take) (filled : Option Filled) (heard told : Heard) (memory left : Memory)
    → AreBrought nvm.made nvm.fills → option_map (λ (fill : Fill). fill.key) (next_fill nvm) ≡ Some key
    → CameAtOnce nvm key pair outcome flash new take filled heard told memory left → IsTaken (filler_take nvm) new take filled heard told memory left
taken_at_once nvm key pair outcome flash new take filled heard told memory left brought next_is c =
    fill_is_taken nvm key pair (Done outcome) flash (Get key) nvm.jobs (taken_fill key (nvm.made + 1) nvm.fills) (without_fill key nvm.fills) new take filled heard heard told memory left brought next_is (record {
      same_op = refl;
      started = c.started;
      same_flash = c.same_flash;
      same_jobs = refl;
      same_fills = refl;
      gone_is = sym (without_taken key (nvm.made + 1) nvm.fills) ∙ ap (λ (t : Take). left_if t key (taken_fill key (nvm.made + 1) nvm.fills)) (sym c.take_is);
      new_is = c.new_is;
      take_is = c.take_is;
      filled_is = c.filled_is ∙ ap (over_of (found_in outcome.answer)) (sym (waiters_taken key (nvm.made + 1) nvm.fills))
          ∙ ap (λ (t : Take). filled_if t (found_in outcome.answer) (fill_at key (taken_fill key (nvm.made + 1) nvm.fills))) (sym c.take_is);
      told_before_is = refl;
      told_is = c.told_is;
      marks = c.marks;
    })

next_there : (o : Option Fill) (key : List ℕ) → option_map (λ (fill : Fill). fill.key) o ≡ Some key → is_some o ≡ true
next_there None key e = absurd cc
next_there (Some fill) key e = refl

-- what the code has asked of a fill that is over as it is taken
pub ends_at_once : (nvm : Nvm) (key : List ℕ) (ending : Ending) → AreBrought nvm.made nvm.fills → under_way nvm.pair (nvm.made + 1) ≡ None → option_map (λ (fill : Fill). fill.key) (next_fill nvm) ≡ Some key → fill_at key nvm.fills ≡ next_fill nvm
    → ending.key ≡ Some key → PairEndsAtOnce key nvm.pair ending.over → EndsAtOnce nvm ending
ends_at_once nvm key ending brought free next_is there key_is over = record {
  key = key;
  key_is = key_is;
  next = next_is;
  there = there;
  ends = over;
  shows = record {
    filled = sym (shown (record { flash = None; pools = []; charges = []; made = 0 })).filled_is ∙ ap (λ (k : Option (List ℕ)). over_of (found_in ending.over.outcome.answer) (waiters_by k nvm.fills)) (sym key_is);
    losses = λ memory. sym (shown memory).marks;
    waits = λ k e. ap (λ (x : List ℕ). is_some (fill_at x nvm.fills)) (some_is k key (sym e ∙ key_is)) ∙ ap (λ (o : Option Fill). is_some o) there ∙ next_there (next_fill nvm) key next_is;
  };
}
  where
    pair : Pair
    pair = record nvm.pair { large = without_lost ending.over.rest.lost nvm.pair.large }

    new : Nvm
    new = record nvm { pair = record nvm.pair { large = without_lost ending.over.rest.lost nvm.pair.large }; tombstones = settled_left nvm.pair.small.flash Filling ending.over.outcome nvm.tombstones; fills = without_fill key nvm.fills }

    filled : Option Filled
    filled = over_of (found_in ending.over.outcome.answer) (option_map (λ (fill : Fill). fill.waiters) (fill_at key nvm.fills))

    shown : (memory : Memory) → IsTaken (filler_take nvm) (record nvm { pair = record nvm.pair { large = without_lost ending.over.rest.lost nvm.pair.large }; tombstones = settled_left nvm.pair.small.flash Filling ending.over.outcome nvm.tombstones; fills = without_fill key nvm.fills }) Finished
        (over_of (found_in ending.over.outcome.answer) (option_map (λ (fill : Fill). fill.waiters) (fill_at key nvm.fills))) Nothing (told_more Nothing (settled_part nvm.pair.small.flash Filling ending.over.outcome nvm.tombstones)) memory (unmarked_by (loss_notes ending.over.outcome.losses) memory)
    shown memory = taken_at_once nvm key pair ending.over.outcome nvm.pair.small.flash new Finished filled Nothing (told_more Nothing (settled_part nvm.pair.small.flash Filling ending.over.outcome nvm.tombstones)) memory (unmarked_by (loss_notes ending.over.outcome.losses) memory) brought next_is (record {
      started = over (nvm.made + 1) free;
      same_flash = refl;
      new_is = refl;
      take_is = refl;
      filled_is = refl;
      told_is = refl;
      marks = refl;
    })

-- what is asked where the ending names its key
pub ends_of_key : (nvm : Nvm) (key : List ℕ) (ending : Ending) → EndsAtOnce nvm ending → ending.key ≡ Some key → PairEndsAtOnce key nvm.pair ending.over × (option_map (λ (fill : Fill). fill.key) (next_fill nvm) ≡ Some key)
ends_of_key nvm key ending ends key_is =
    let same : ends.key ≡ key = some_is ends.key key (sym ends.key_is ∙ key_is) in
    (subst (λ (k : List ℕ). PairEndsAtOnce k nvm.pair ending.over) same ends.ends, ends.next ∙ ap (λ (k : List ℕ). Some k) same)

-- where it isn't over, no fill ends
launched_on : (number : ℕ) (next : Next) (nvm : Nvm) → is_done next ≡ false → (launched Filling next nvm).filled ≡ None
launched_on number Busy nvm h = refl
launched_on number (Io order outcome) nvm h = refl
launched_on number (Done outcome) nvm h = absurd cc

pub none_ends : (nvm : Nvm) (key : List ℕ) → option_map (λ (fill : Fill). fill.key) (next_fill nvm) ≡ Some key → PairEndingAtOnce key nvm.pair None → (filler_take nvm).filled ≡ None
none_ends nvm key next_is on = of (next_fill nvm) next_is
  where
    of : (o : Option Fill) → option_map (λ (fill : Fill). fill.key) o ≡ Some key → (take_fill o nvm).filled ≡ None
    of None e = refl
    of (Some fill) e =
        let m = start (nvm.made + 1) (Get fill.key) nvm.pair in
        launched_on (nvm.made + 1) m.next (record nvm { fills = taken_fill fill.key (nvm.made + 1) nvm.fills; pair = m.pair }) (ap (λ (k : List ℕ). is_done (start (nvm.made + 1) (Get k) nvm.pair).next) (some_is fill.key key e) ∙ on (nvm.made + 1))

-- ---- what holds at every time

pub kept_at_once : (nvm : Nvm) (key : List ℕ) (pair : Pair) (outcome : Outcome) (stones : List Tombstone) (fills : List Fill) → Sound nvm.pair.small.flash nvm.pair.large → IsApart nvm.pair → Kept nvm
    → start (nvm.made + 1) (Get key) nvm.pair ≡ record { pair = pair; next = Done outcome } → fills ≡ left_by (Some key) nvm.fills → (pair.small.flash ≡ nvm.pair.small.flash) × Kept (record nvm { pair = pair; tombstones = stones; fills = fills })
kept_at_once nvm key pair outcome stones fills sound apart kept started left =
    let same : pair.small.flash ≡ nvm.pair.small.flash = started_flash nvm.pair pair (nvm.made + 1) (Get key) (Done outcome) started in (
      same,
      record {
        below = started_below nvm.pair pair nvm.made (Get key) (Done outcome) sound apart kept.below started;
        starts = subst (λ (f : FlashConfig). AllCanStart f nvm.queue) (sym same) kept.starts;
        short = subst (λ (f : FlashConfig). length nvm.queue ≤ f.queue) (sym same) kept.short;
        numbered = kept.numbered;
        brought = subst (AreBrought nvm.made) (sym left) (brought_left nvm.made (Some key) nvm.fills kept.brought);
        served = served_started nvm.pair pair nvm.made (Get key) (Done outcome) Filling nvm.pair.small.flash stones nvm.jobs sound (next_is_free nvm.made nvm.pair kept.below) started tt kept.numbered kept.served;
      },
    )
