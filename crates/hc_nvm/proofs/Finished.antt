-- A result is handed in: its job goes on, or is over.
use Rattle.std.proofs.Common.{◌≡◌, ℕ, ◌+◌, ◌≤◌, ◌<◌, ◌==◌, suc, Bool, true, false, List, [], ◌∷◌, length, set, slice_get, Option, Some, None, refl, sym, ap, ◌∙◌, subst, arith}
use Rattle.std.proofs.lemmas.Bool.{eqb-true}
use Rattle.std.specs.List.{remove}
use Rattle.std.specs.Prelude.{option_map, is_some, Result, Ok, Err, IfOk, OnErr}
use Rattle.hc_types.specs.declared.config.FlashConfig.{FlashConfig}
use Rattle.hc_types.specs.FlashEntry.{FlashEntry}
use Rattle.hc_memory.specs.Memory.{Memory}
use Rattle.hc_engines.specs.Engine.{Order, Read, Write, IoResult, Page, Written, Failed, Answer, Outcome, Next, Io, Done}
use Rattle.hc_engines.specs.large.Sound.{Sound}
use Rattle.hc_engines.specs.pair.Apart.{IsApart}
use Rattle.hc_engines.specs.pair.Pair.{Pair, Moved, resume}
use Rattle.hc_history.specs.Note.{Note}
use Rattle.hc_history.specs.Told.{Heard, told_more}
use Rattle.hc_history.proofs.Telling.{told-twice}
use Rattle.hc_machine.specs.Cache.{unmarked_by}
use Rattle.hc_machine.specs.Leaving.{Changed, changed}
use Rattle.hc_machine.specs.Nvm.{Nvm, Task, Putting, Deleting, Filling, Flushing, Fill, is_fill_of, fill_at, fill_by, without_fill, Job, is_job, job_at, without_job, ordered}
use Rattle.hc_machine.specs.Takes.{Take, Taken, Filled, Finished, Work, holds, finished, fill_out, found_in, finish, finish_job, resumed, told_before, goes_on, result_note, loss_notes}
use Rattle.hc_nvm.specs.After.{held_left, held_part, settled_left, settled_part}
use Rattle.hc_nvm.specs.Filled.{over_of}
use Rattle.hc_nvm.specs.Finishing.{IsFinished, IsHandedIn, place, brought_key, left_by, waiters_by}
use Rattle.hc_nvm.specs.Stock.{Kept, AllCanStart, AreNumbered, AreBrought}
use Rattle.hc_nvm.specs.Taking.{IsTaken}
use Rattle.hc_nvm.proofs.Keeping.{numbered_from}
use Rattle.hc_nvm.proofs.Launching.{holds_is, held_unmark, settled_is, settled_unmark}
use Rattle.hc_nvm.proofs.Numbers.{resumed_below, resumed_flash}
use Rattle.hc_nvm.proofs.Serving.{served_resumed}

some_is : {X : Type 0} (x y : X) → Some x ≡ Some y → x ≡ y
some_is x y h = cc

place_tail : (o : Option ℕ) (at : ℕ) → option_map (λ n. n + 1) o ≡ Some at → (n : ℕ) × (o ≡ Some n) × (at ≡ n + 1)
place_tail None at h = absurd (cc)
place_tail (Some n) at h = (n, refl, grind (arith, h))

-- no job behind here has a number below
not_behind : (low made number : ℕ) (jobs : List Job) → AreNumbered low made jobs → number + 1 ≤ low → (order : Order) → (without_job number jobs ≡ jobs) × (ordered number order jobs ≡ jobs)
not_behind low made number [] h l order = (refl, refl)
not_behind low made number (job ∷ jobs) h l order =
    let from = h.0 in
    let other : (job.number == number) ≡ false = grind (arith, l, from) in
    let more = not_behind (job.number + 1) made number jobs h.1 (omega (arith, l, from)) order in
    (rw other (ap (λ (js : List Job). job ∷ js) more.0), rw other (ap (λ (js : List Job). job ∷ js) more.1))

-- the job that stands here, and the jobs where it goes on or is over
pub record Stands (number at : ℕ) (jobs : List Job) : Type 0 where
  pub job : Job
  pub here : slice_get jobs at ≡ Some job
  pub there : job_at number jobs ≡ Some job
  pub own : job.number ≡ number
  pub over : remove jobs at ≡ without_job number jobs
  pub goes_on : (order : Order) → set jobs at (record job { order = order }) ≡ ordered number order jobs

pub stands : (low made number at : ℕ) (jobs : List Job) → AreNumbered low made jobs → place number jobs ≡ Some at → Stands number at jobs
stands low made number at [] h e = absurd cc
stands low made number at (x ∷ xs) h e = of (x.number == number) refl (λ n b. stands (x.number + 1) made number n xs h.1 b)
  where
    of : (t : Bool) → (x.number == number) ≡ t → ((n : ℕ) → place number xs ≡ Some n → Stands number n xs) → Stands number at (x ∷ xs)
    of true t more =
        let here : 0 ≡ at = some_is 0 at (rw t at e) in
        let own : x.number ≡ number = eqb-true x.number number t in
        let rest = λ (order : Order). not_behind (x.number + 1) made number xs h.1 (omega (arith, own)) order in
        subst (λ (n : ℕ). Stands number n (x ∷ xs)) here (record {
          job = x;
          here = refl;
          there = rw t refl;
          own = own;
          over = rw t (sym (rest x.order).0);
          goes_on = λ order. rw t (ap (λ (js : List Job). record x { order = order } ∷ js) (sym (rest order).1));
        })
    of false t more =
        let behind = place_tail (place number xs) at (rw t at e) in
        let a = more behind.0 behind.1 in
        let next : suc behind.0 ≡ at = (let is = behind.2 in omega (arith, is)) in
        subst (λ (n : ℕ). Stands number n (x ∷ xs)) next (record {
          job = a.job;
          here = a.here;
          there = rw t a.there;
          own = a.own;
          over = rw t (ap (λ (js : List Job). x ∷ js) a.over);
          goes_on = λ order. rw t (ap (λ (js : List Job). x ∷ js) (a.goes_on order));
        })

pub no_place : (number : ℕ) (jobs : List Job) → place number jobs ≡ None → job_at number jobs ≡ None
no_place number [] h = refl
no_place number (x ∷ xs) h = of (x.number == number) refl (no_place number xs)
  where
    none : (o : Option ℕ) → option_map (λ n. n + 1) o ≡ None → o ≡ None
    none None h = refl
    none (Some n) h = absurd cc

    of : (t : Bool) → (x.number == number) ≡ t → (place number xs ≡ None → job_at number xs ≡ None) → job_at number (x ∷ xs) ≡ None
    of true t more = let wrong : Some 0 ≡ None = (rw t at h) in absurd cc
    of false t more = rw t (more (none (place number xs) (rw t at h)))

-- the job that is found stands at its place
pub placed_there : (number at : ℕ) (jobs : List Job) → place number jobs ≡ Some at → slice_get jobs at ≡ job_at number jobs
placed_there number at [] e = absurd cc
placed_there number at (x ∷ xs) e = of (x.number == number) refl (λ n b. placed_there number n xs b)
  where
    of : (t : Bool) → (x.number == number) ≡ t → ((n : ℕ) → place number xs ≡ Some n → slice_get xs n ≡ job_at number xs) → slice_get (x ∷ xs) at ≡ job_at number (x ∷ xs)
    of true t more =
        let here : 0 ≡ at = some_is 0 at (rw t at e) in
        subst (λ (n : ℕ). slice_get (x ∷ xs) n ≡ job_at number (x ∷ xs)) here (rw t refl)
    of false t more =
        let behind = place_tail (place number xs) at (rw t at e) in
        let next : suc behind.0 ≡ at = (let is = behind.2 in omega (arith, is)) in
        subst (λ (n : ℕ). slice_get (x ∷ xs) n ≡ job_at number (x ∷ xs)) next (rw t (more behind.0 behind.1))

-- ---- what is told of a result

pub result_unmarks : (order : Order) (result : IoResult) (rest : List Note) (memory : Memory) → unmarked_by (result_note order result ∷ rest) memory ≡ unmarked_by rest memory
result_unmarks (Read page) (Page bytes) rest memory = refl
result_unmarks (Read page) Written rest memory = refl
result_unmarks (Read page) Failed rest memory = refl
result_unmarks (Write page bytes) Written rest memory = refl
result_unmarks (Write page bytes) Failed rest memory = refl
result_unmarks (Write page bytes) (Page read) rest memory = refl

-- ---- a job goes on

-- what the code has of it
pub record WaitsOn (nvm : Nvm) (number at : ℕ) (job : Job) (result : IoResult) (order : Order) (outcome : Outcome) (flash : FlashConfig) (new : Nvm) (take : Take) (heard middle told : Heard) (memory left : Memory) : Type 0 where
  pub place_is : place number nvm.jobs ≡ Some at
  pub numbered : AreNumbered 1 nvm.made nvm.jobs
  pub there : job_at number nvm.jobs ≡ Some job
  pub same_flash : flash ≡ nvm.pair.small.flash
  pub new_is : new ≡ record nvm { tombstones = held_left flash outcome.losses nvm.tombstones; jobs = set nvm.jobs at (record job { order = order }) }
  pub take_is : take ≡ Work number order
  pub result_is : middle ≡ told_more heard (result_note job.order result ∷ [])
  pub told_is : told ≡ told_more middle (held_part flash outcome.opened outcome.losses nvm.tombstones)
  pub marks : left ≡ unmarked_by (loss_notes outcome.losses) memory

pub job_stands : (low made number at : ℕ) (jobs : List Job) (job : Job) (numbered : AreNumbered low made jobs) (here : place number jobs ≡ Some at) → job_at number jobs ≡ Some job → (stands low made number at jobs numbered here).job ≡ job
job_stands low made number at jobs job numbered here there = some_is _ job (sym (stands low made number at jobs numbered here).there ∙ there)

pub waits_on : (nvm : Nvm) (number at : ℕ) (job : Job) (result : IoResult) (order : Order) (outcome : Outcome) (flash : FlashConfig) (new : Nvm) (take : Take) (heard middle told : Heard) (memory left : Memory)
    → WaitsOn nvm number at job result order outcome flash new take heard middle told memory left
    → IsTaken (told_before (result_note job.order result ∷ []) (goes_on job (Io order outcome) nvm)) new take None heard told memory left
waits_on nvm number at job result order outcome flash new take heard middle told memory left w = record {
  nvm_is = w.new_is ∙ (λ i. record nvm { tombstones = held_left (w.same_flash i) outcome.losses nvm.tombstones; jobs = ordered_is i }) ∙ sym (ap (λ (c : Changed). c.nvm) held);
  take_is = w.take_is ∙ ap (λ (n : ℕ). Work n order) (sym own);
  filled_is = refl;
  told = w.told_is ∙ ap (λ (l : Heard). told_more l (held_part flash outcome.opened outcome.losses nvm.tombstones)) w.result_is ∙ told-twice heard (result_note job.order result ∷ []) (held_part flash outcome.opened outcome.losses nvm.tombstones)
      ∙ ap (λ (p : List Note). told_more heard (result_note job.order result ∷ p)) part;
  marks = w.marks ∙ sym (held_unmark flash outcome.opened outcome.losses nvm.tombstones memory) ∙ ap (λ (p : List Note). unmarked_by p memory) part ∙ sym (result_unmarks job.order result (holds outcome (record nvm { jobs = ordered job.number order nvm.jobs })).part memory);
}
  where
    same : (stands 1 nvm.made number at nvm.jobs w.numbered w.place_is).job ≡ job
    same = job_stands 1 nvm.made number at nvm.jobs job w.numbered w.place_is w.there

    own : job.number ≡ number
    own = ap (λ (j : Job). j.number) (sym same) ∙ (stands 1 nvm.made number at nvm.jobs w.numbered w.place_is).own

    ordered_is : set nvm.jobs at (record job { order = order }) ≡ ordered job.number order nvm.jobs
    ordered_is = ap (λ (j : Job). set nvm.jobs at (record j { order = order })) (sym same) ∙ (stands 1 nvm.made number at nvm.jobs w.numbered w.place_is).goes_on order ∙ ap (λ (n : ℕ). ordered n order nvm.jobs) (sym own)

    held : holds outcome (record nvm { jobs = ordered job.number order nvm.jobs }) ≡ changed (held_part nvm.pair.small.flash outcome.opened outcome.losses nvm.tombstones) (record nvm { tombstones = held_left nvm.pair.small.flash outcome.losses nvm.tombstones; jobs = ordered job.number order nvm.jobs })
    held = holds_is outcome (record nvm { jobs = ordered job.number order nvm.jobs })

    part : held_part flash outcome.opened outcome.losses nvm.tombstones ≡ (holds outcome (record nvm { jobs = ordered job.number order nvm.jobs })).part
    part = (λ i. held_part (w.same_flash i) outcome.opened outcome.losses nvm.tombstones) ∙ sym (ap (λ (c : Changed). c.part) held)

-- ---- what holds at every time

pub numbered_ordered : (low made number : ℕ) (order : Order) (jobs : List Job) → AreNumbered low made jobs → AreNumbered low made (ordered number order jobs)
numbered_ordered low made number order [] h = h
numbered_ordered low made number order (job ∷ jobs) h = of (is_job number job) refl (numbered_ordered (job.number + 1) made number order jobs h.1)
  where
    of : (t : Bool) → is_job number job ≡ t → AreNumbered (job.number + 1) made (ordered number order jobs) → AreNumbered low made (ordered number order (job ∷ jobs))
    of true t more = rw t (h.0, more)
    of false t more = rw t (h.0, more)

pub numbered_without : (low made number : ℕ) (jobs : List Job) → AreNumbered low made jobs → AreNumbered low made (without_job number jobs)
numbered_without low made number [] h = h
numbered_without low made number (job ∷ jobs) h = of (is_job number job) refl (numbered_without (job.number + 1) made number jobs h.1)
  where
    of : (t : Bool) → is_job number job ≡ t → AreNumbered (job.number + 1) made (without_job number jobs) → AreNumbered low made (without_job number (job ∷ jobs))
    of true t more = rw t (numbered_from (job.number + 1) low made (without_job number jobs) (let from = h.0 in omega (arith, from)) more)
    of false t more = rw t (h.0, more)

pub place_within : (number at : ℕ) (jobs : List Job) → place number jobs ≡ Some at → at < length jobs
place_within number at [] e = absurd cc
place_within number at (x ∷ xs) e = of (is_job number x) refl (λ n b. place_within number n xs b)
  where
    of : (t : Bool) → is_job number x ≡ t → ((n : ℕ) → place number xs ≡ Some n → n < length xs) → at < length (x ∷ xs)
    of true t more = let here : 0 ≡ at = some_is 0 at (rw t at e) in omega (arith, here)
    of false t more =
        let behind = place_tail (place number xs) at (rw t at e) in
        let within = more behind.0 behind.1 in
        let is = behind.2 in
        omega (arith, within, is)

-- ---- a job is over

pub finished_is : (task : Task) (number : ℕ) (answer : Answer) (part : List Note) (n : Nvm) → ((fill : Fill) → fill_by number n.fills ≡ Some fill → fill_at fill.key n.fills ≡ Some fill)
    → finished task number answer (changed part n) ≡ record { nvm = record n { fills = left_by (brought_key number n.fills task) n.fills }; take = Finished; part = part; filled = over_of (found_in answer) (waiters_by (brought_key number n.fills task) n.fills) }
finished_is (Putting key) number answer part n alone = refl
finished_is (Deleting key) number answer part n alone = refl
finished_is Flushing number answer part n alone = refl
finished_is Filling number answer part n alone = of (fill_by number n.fills) alone
  where
    keyed : Option Fill → Option (List ℕ)
    keyed o = option_map (λ (fill : Fill). fill.key) o

    of : (o : Option Fill) → ((fill : Fill) → o ≡ Some fill → fill_at fill.key n.fills ≡ Some fill)
        → fill_out o answer (changed part n) ≡ record { nvm = record n { fills = left_by (keyed o) n.fills }; take = Finished; part = part; filled = over_of (found_in answer) (waiters_by (keyed o) n.fills) }
    of None alone = refl
    of (Some fill) alone = λ i. record { nvm = record n { fills = without_fill fill.key n.fills }; take = Finished; part = part; filled = over_of (found_in answer) (option_map (λ (f : Fill). f.waiters) (sym (alone fill refl) i)) }

-- what the code has of it
pub record Ended (nvm : Nvm) (number at : ℕ) (job : Job) (result : IoResult) (outcome : Outcome) (flash : FlashConfig) (task : Task) (key : Option (List ℕ)) (new : Nvm) (filled : Option Filled) (found : Option FlashEntry) (heard middle told : Heard) (memory left : Memory) : Type 0 where
  pub place_is : place number nvm.jobs ≡ Some at
  pub numbered : AreNumbered 1 nvm.made nvm.jobs
  pub alone : (fill : Fill) → fill_by number nvm.fills ≡ Some fill → fill_at fill.key nvm.fills ≡ Some fill
  pub there : job_at number nvm.jobs ≡ Some job
  pub same_flash : flash ≡ nvm.pair.small.flash
  pub same_task : task ≡ job.task
  pub key_is : key ≡ brought_key number nvm.fills job.task
  pub new_is : new ≡ record nvm { tombstones = settled_left flash task outcome nvm.tombstones; fills = left_by key nvm.fills; jobs = remove nvm.jobs at }
  pub found_is : found ≡ found_in outcome.answer
  pub filled_is : filled ≡ over_of found (waiters_by key nvm.fills)
  pub result_is : middle ≡ told_more heard (result_note job.order result ∷ [])
  pub told_is : told ≡ told_more middle (settled_part flash task outcome nvm.tombstones)
  pub marks : left ≡ unmarked_by (loss_notes outcome.losses) memory

pub ended : (nvm : Nvm) (number at : ℕ) (job : Job) (result : IoResult) (outcome : Outcome) (flash : FlashConfig) (task : Task) (key : Option (List ℕ)) (new : Nvm) (filled : Option Filled) (found : Option FlashEntry) (heard middle told : Heard) (memory left : Memory)
    → Ended nvm number at job result outcome flash task key new filled found heard middle told memory left
    → IsTaken (told_before (result_note job.order result ∷ []) (goes_on job (Done outcome) nvm)) new Finished filled heard told memory left
ended nvm number at job result outcome flash task key new filled found heard middle told memory left w = record {
  nvm_is = w.new_is ∙ (λ i. record nvm { tombstones = settled_left (w.same_flash i) (w.same_task i) outcome nvm.tombstones; fills = left_by (w.key_is i) nvm.fills; jobs = without_is i }) ∙ sym (ap (λ (t : Taken). t.nvm) is);
  take_is = sym (ap (λ (t : Taken). t.take) is);
  filled_is = w.filled_is ∙ (λ i. over_of (w.found_is i) (waiters_by (w.key_is i) nvm.fills)) ∙ sym (ap (λ (t : Taken). t.filled) is);
  told = w.told_is ∙ ap (λ (l : Heard). told_more l (settled_part flash task outcome nvm.tombstones)) w.result_is ∙ told-twice heard (result_note job.order result ∷ []) (settled_part flash task outcome nvm.tombstones)
      ∙ ap (λ (p : List Note). told_more heard (result_note job.order result ∷ p)) part;
  marks = w.marks ∙ sym (settled_unmark flash task outcome nvm.tombstones memory) ∙ ap (λ (p : List Note). unmarked_by p memory) part ∙ sym (result_unmarks job.order result (goes_on job (Done outcome) nvm).part memory);
}
  where
    same : (stands 1 nvm.made number at nvm.jobs w.numbered w.place_is).job ≡ job
    same = job_stands 1 nvm.made number at nvm.jobs job w.numbered w.place_is w.there

    own : number ≡ job.number
    own = sym (stands 1 nvm.made number at nvm.jobs w.numbered w.place_is).own ∙ ap (λ (j : Job). j.number) same

    without_is : remove nvm.jobs at ≡ without_job job.number nvm.jobs
    without_is = (stands 1 nvm.made number at nvm.jobs w.numbered w.place_is).over ∙ ap (λ (n : ℕ). without_job n nvm.jobs) own

    left_nvm : Nvm
    left_nvm = record nvm { tombstones = settled_left nvm.pair.small.flash job.task outcome nvm.tombstones; jobs = without_job job.number nvm.jobs }

    of : ℕ → Taken
    of n = record {
      nvm = record nvm { tombstones = settled_left nvm.pair.small.flash job.task outcome nvm.tombstones; fills = left_by (brought_key n nvm.fills job.task) nvm.fills; jobs = without_job job.number nvm.jobs };
      take = Finished;
      part = settled_part nvm.pair.small.flash job.task outcome nvm.tombstones;
      filled = over_of (found_in outcome.answer) (waiters_by (brought_key n nvm.fills job.task) nvm.fills);
    }

    is : goes_on job (Done outcome) nvm ≡ of number
    is = ap (finished job.task job.number outcome.answer) (settled_is job.task outcome (record nvm { jobs = without_job job.number nvm.jobs }))
        ∙ finished_is job.task job.number outcome.answer (settled_part nvm.pair.small.flash job.task outcome nvm.tombstones) left_nvm (subst (λ (n : ℕ). (fill : Fill) → fill_by n nvm.fills ≡ Some fill → fill_at fill.key nvm.fills ≡ Some fill) own w.alone)
        ∙ ap of (sym own)

    part : settled_part flash task outcome nvm.tombstones ≡ (goes_on job (Done outcome) nvm).part
    part = (λ i. settled_part (w.same_flash i) (w.same_task i) outcome nvm.tombstones) ∙ sym (ap (λ (t : Taken). t.part) is)

pub brought_left : (made : ℕ) (key : Option (List ℕ)) (fills : List Fill) → AreBrought made fills → AreBrought made (left_by key fills)
brought_left made None fills h = h
brought_left made (Some key) [] h = tt
brought_left made (Some key) (x ∷ xs) h = of (is_fill_of key x) refl (brought_left made (Some key) xs h.1)
  where
    of : (t : Bool) → is_fill_of key x ≡ t → AreBrought made (without_fill key xs) → AreBrought made (without_fill key (x ∷ xs))
    of true t more = rw t more
    of false t more = rw t (h.0, more)

-- ---- the machine's answer

job_numbered : (number : ℕ) (jobs : List Job) (job : Job) → job_at number jobs ≡ Some job → job.number ≡ number
job_numbered number [] job e = absurd cc
job_numbered number (x ∷ xs) job e = of (is_job number x) refl (job_numbered number xs job)
  where
    of : (t : Bool) → is_job number x ≡ t → (job_at number xs ≡ Some job → job.number ≡ number) → job.number ≡ number
    of true t more = sym (ap (λ (j : Job). j.number) (some_is x job (rw t at e))) ∙ eqb-true x.number number t
    of false t more = more (rw t at e)

-- what the engines made of a result is what the machine answers
pub handed_is : (number : ℕ) (result : IoResult) (before after : Nvm) (next : Next) (key : Option (List ℕ)) (h : IsHandedIn number result before after next key)
    → finish number result before ≡ Some (told_before (result_note h.job.order result ∷ []) (goes_on h.job next after))
handed_is number result before after next key h =
    ap (λ (o : Option Job). finish_job o result before) h.there
    ∙ ap (λ (o : Option Moved). option_map (resumed h.job result before) o) (ap (λ (n : ℕ). resume n result before.pair) (job_numbered number before.jobs h.job h.there) ∙ h.came)
    ∙ ap (λ (n : Nvm). Some (told_before (result_note h.job.order result ∷ []) (goes_on h.job next n))) (sym h.same)

pub unknown_job : (number : ℕ) (result : IoResult) (nvm : Nvm) → job_at number nvm.jobs ≡ None → finish number result nvm ≡ None
unknown_job number result nvm none = ap (λ (o : Option Job). finish_job o result nvm) none

pub not_awaited : (number : ℕ) (result : IoResult) (nvm : Nvm) → resume number result nvm.pair ≡ None → finish number result nvm ≡ None
not_awaited number result nvm none = of (job_at number nvm.jobs) refl
  where
    of : (o : Option Job) → job_at number nvm.jobs ≡ o → finish_job o result nvm ≡ None
    of None e = refl
    of (Some job) e = ap (λ (o : Option Moved). option_map (resumed job result nvm) o) (ap (λ (n : ℕ). resume n result nvm.pair) (job_numbered number nvm.jobs job e) ∙ none)

some_mapped : {X Y : Type 0} (f : X → Y) (o : Option X) → is_some o ≡ true → is_some (option_map f o) ≡ true
some_mapped f None h = absurd cc
some_mapped f (Some x) h = refl

pub none_is : {X : Type 0} (o : Option X) → is_some o ≡ false → o ≡ None
none_is None h = refl
none_is (Some x) h = absurd cc

-- the machine answers where the engines await the result
pub awaited : (number at : ℕ) (result : IoResult) (nvm : Nvm) → AreNumbered 1 nvm.made nvm.jobs → place number nvm.jobs ≡ Some at → is_some (resume number result nvm.pair) ≡ true → is_some (finish number result nvm) ≡ true
awaited number at result nvm numbered here awaits =
    ap (λ (o : Option Taken). is_some o) answer ∙ some_mapped (resumed s.job result nvm) (resume number result nvm.pair) awaits
  where
    s : Stands number at nvm.jobs
    s = stands 1 nvm.made number at nvm.jobs numbered here

    answer : finish number result nvm ≡ option_map (resumed s.job result nvm) (resume number result nvm.pair)
    answer = ap (λ (o : Option Job). finish_job o result nvm) s.there ∙ ap (λ (n : ℕ). option_map (resumed s.job result nvm) (resume n result nvm.pair)) s.own

-- ---- the engines have the result

pub is_handed : (number at : ℕ) (result : IoResult) (nvm : Nvm) (new : Pair) (next : Next) (key : Option (List ℕ)) → AreNumbered 1 nvm.made nvm.jobs → place number nvm.jobs ≡ Some at
    → ((job : Job) → slice_get nvm.jobs at ≡ Some job → key ≡ brought_key number nvm.fills job.task) → resume number result nvm.pair ≡ Some (record { pair = new; next = next })
    → IsHandedIn number result nvm (record nvm { pair = new }) next key
is_handed number at result nvm new next key numbered here keyed came =
    let s = stands 1 nvm.made number at nvm.jobs numbered here in
    record { job = s.job; there = s.there; came = came; same = refl; key_is = keyed s.job s.here }

-- what holds at every time, also where they refused it
pub handed_kept : {T E : Type 0} (answer : Result T E) (view : T → Next) (number : ℕ) (result : IoResult) (nvm : Nvm) (new : Pair) → Sound nvm.pair.small.flash nvm.pair.large → IsApart nvm.pair → Kept nvm
    → IfOk answer (λ next. resume number result nvm.pair ≡ Some (record { pair = new; next = view next })) → OnErr answer (new ≡ nvm.pair) → (new.small.flash ≡ nvm.pair.small.flash) × Kept (record nvm { pair = new })
handed_kept (Ok next) view number result nvm new sound apart kept came _ =
    let same : new.small.flash ≡ nvm.pair.small.flash = resumed_flash nvm.pair new number result (view next) came in (
      same,
      record {
        below = resumed_below nvm.pair new nvm.made number result (view next) sound apart kept.below came;
        starts = subst (λ (f : FlashConfig). AllCanStart f nvm.queue) (sym same) kept.starts;
        short = subst (λ (f : FlashConfig). length nvm.queue ≤ f.queue) (sym same) kept.short;
        numbered = kept.numbered;
        brought = kept.brought;
        served = served_resumed nvm.pair new number result (view next) nvm.jobs apart sound came kept.served;
      },
    )
handed_kept (Err _) view number result nvm new sound apart kept _ same = (ap (λ (p : Pair). p.small.flash) same, subst (λ (p : Pair). Kept (record nvm { pair = p })) (sym same) kept)

-- what came next was carried out
pub carried_out : (number : ℕ) (result : IoResult) (before after : Nvm) (next : Next) (key : Option (List ℕ)) (h : IsHandedIn number result before after next key) (came : Next) → next ≡ came
    → (new : Nvm) (take : Take) (filled : Option Filled) (heard middle told : Heard) (memory left : Memory) → middle ≡ heard
    → ((job : Job) → job_at number after.jobs ≡ Some job → IsTaken (told_before (result_note job.order result ∷ []) (goes_on job came after)) new take filled middle told memory left)
    → IsFinished (finish number result before) new take filled heard told memory left
carried_out number result before after next key h came same new take filled heard middle told memory left untold taken =
    subst (λ (o : Option Taken). IsFinished o new take filled heard told memory left) (sym answer)
    (subst (λ (l : Heard). IsTaken (told_before (result_note h.job.order result ∷ []) (goes_on h.job came after)) new take filled l told memory left) untold (taken h.job there))
  where
    there : job_at number after.jobs ≡ Some h.job
    there = ap (λ (n : Nvm). job_at number n.jobs) h.same ∙ h.there

    answer : finish number result before ≡ Some (told_before (result_note h.job.order result ∷ []) (goes_on h.job came after))
    answer = handed_is number result before after next key h ∙ ap (λ (n : Next). Some (told_before (result_note h.job.order result ∷ []) (goes_on h.job n after))) same
