-- What is under way for a job that brings a key stays a get that reads a page.
use Rattle.std.proofs.Common.{◌≡◌, ℕ, ◌+◌, ◌≤◌, ◌==◌, Bool, true, false, List, [], ◌∷◌, ◌++◌, Option, Some, None, refl, sym, ap, ◌∙◌, subst, arith}
use Rattle.std.proofs.lemmas.Bool.{eqb-true}
use Rattle.std.specs.Prelude.{option_map, if◌then◌else◌}
use Rattle.hc_types.specs.declared.config.FlashConfig.{FlashConfig}
use Rattle.hc_engines.specs.Engine.{Op, Put, Get, Delete, Flush, Reclaim, Order, Read, Write, IoResult, Next, Busy, Io, Done, UnderWay, then_under_way}
use Rattle.hc_engines.specs.large.Block.{Work, Writing, Getting, work_of}
use Rattle.hc_engines.specs.large.Index.{Indexed}
use Rattle.hc_engines.specs.large.Sound.{Sound}
use Rattle.hc_engines.specs.pair.Apart.{IsApart}
use Rattle.hc_engines.specs.pair.Held.{under_way, first_of, work_under_way}
use Rattle.hc_engines.specs.pair.Pair.{Pair, Moved, start, resume}
use Rattle.hc_machine.specs.Nvm.{Tombstone, Task, Putting, Deleting, Filling, Flushing, Job, is_job, job_at, without_job, ordered}
use Rattle.hc_nvm.specs.After.{after}
use Rattle.hc_nvm.specs.Fetching.{gets_page, is_fetch, serves, AreServed, Brings}
use Rattle.hc_nvm.specs.Stock.{AreNumbered}
use Rattle.hc_nvm.proofs.Fetching.{reads_or_looked, fetch_goes, get_starts, none_resumes}
use Rattle.hc_nvm.proofs.Launching.{BringsNothing}
use Rattle.hc_engines.proofs.pair.Going.{started_goes, resumed_goes}

-- ---- the jobs

low_within : (low made : ℕ) (jobs : List Job) → AreNumbered low made jobs → low ≤ made + 1
low_within low made [] h = h
low_within low made (job ∷ jobs) h = let from = h.0 in let more = low_within (job.number + 1) made jobs h.1 in omega (arith, from, more)

served_all : (old new : Pair) (jobs : List Job) → ((n : ℕ) (task : Task) → serves task (under_way old n) ≡ true → serves task (under_way new n) ≡ true) → AreServed old jobs → AreServed new jobs
served_all old new [] more h = tt
served_all old new (job ∷ jobs) more h = (more job.number job.task h.0, served_all old new jobs more h.1)

-- where nothing changed up to the last number that was made
served_below : (low made : ℕ) (old new : Pair) (jobs : List Job) → AreNumbered low made jobs → ((n : ℕ) → n ≤ made → under_way new n ≡ under_way old n) → AreServed old jobs → AreServed new jobs
served_below low made old new [] numbered same h = tt
served_below low made old new (job ∷ jobs) numbered same h =
    let within = low_within (job.number + 1) made jobs numbered.1 in
    (ap (serves job.task) (same job.number (omega (arith, within))) ∙ h.0, served_below (job.number + 1) made old new jobs numbered.1 same h.1)

served_with : (pair : Pair) (jobs : List Job) (job : Job) → AreServed pair jobs → serves job.task (under_way pair job.number) ≡ true → AreServed pair (jobs ++ job ∷ [])
served_with pair [] job h own = (own, tt)
served_with pair (x ∷ xs) job h own = (h.0, served_with pair xs job h.1 own)

pub served_without : (pair : Pair) (number : ℕ) (jobs : List Job) → AreServed pair jobs → AreServed pair (without_job number jobs)
served_without pair number [] h = tt
served_without pair number (job ∷ jobs) h = of (is_job number job) refl (served_without pair number jobs h.1)
  where
    of : (t : Bool) → is_job number job ≡ t → AreServed pair (without_job number jobs) → AreServed pair (without_job number (job ∷ jobs))
    of true t more = rw t more
    of false t more = rw t (h.0, more)

pub served_ordered : (pair : Pair) (number : ℕ) (order : Order) (jobs : List Job) → AreServed pair jobs → AreServed pair (ordered number order jobs)
served_ordered pair number order [] h = tt
served_ordered pair number order (job ∷ jobs) h = of (is_job number job) refl (served_ordered pair number order jobs h.1)
  where
    of : (t : Bool) → is_job number job ≡ t → AreServed pair (ordered number order jobs) → AreServed pair (ordered number order (job ∷ jobs))
    of true t more = rw t (h.0, more)
    of false t more = rw t (h.0, more)

-- the job with the number is served
pub served_at : (pair : Pair) (number : ℕ) (jobs : List Job) (job : Job) → AreServed pair jobs → job_at number jobs ≡ Some job → serves job.task (under_way pair job.number) ≡ true
served_at pair number [] job h e = absurd cc
served_at pair number (x ∷ xs) job h e = of (is_job number x) refl (served_at pair number xs job h.1)
  where
    same : (a b : Job) → Some a ≡ Some b → a ≡ b
    same a b e = cc

    of : (t : Bool) → is_job number x ≡ t → (job_at number xs ≡ Some job → serves job.task (under_way pair job.number) ≡ true) → serves job.task (under_way pair job.number) ≡ true
    of true t more = subst (λ (j : Job). serves j.task (under_way pair j.number) ≡ true) (same x job (rw t at e)) h.0
    of false t more = more (rw t at e)

-- ---- an index entry goes

pub served_index : (pair : Pair) (index : List Indexed) (jobs : List Job) → AreServed pair jobs → AreServed (record pair { large = record pair.large { index = index } }) jobs
served_index pair index jobs h = served_all pair (record pair { large = record pair.large { index = index } }) jobs (λ n task served. ap (serves task) (under n) ∙ served) h
  where
    of : (first : Option UnderWay) (w : Option Work) → first_of first (option_map (work_under_way pair.small.flash (record pair.large { index = index })) w) ≡ first_of first (option_map (work_under_way pair.small.flash pair.large) w)
    of first None = refl
    of first (Some (Writing r bytes)) = refl
    of first (Some (Getting reading)) = refl

    under : (n : ℕ) → under_way (record pair { large = record pair.large { index = index } }) n ≡ under_way pair n
    under n = of _ (work_of n pair.large.jobs)

-- ---- an operation was started

pub brings_in : (task : Task) (op : Op) → BringsNothing task → Brings task op
brings_in (Putting key) op h = tt
brings_in (Deleting key) op h = tt
brings_in Flushing op h = tt
brings_in Filling op h = absurd h

other_number : (n made : ℕ) → n ≤ made → (n == (made + 1)) ≡ false
other_number n made h = grind (arith, h)

same_number : (n : ℕ) → (n == n) ≡ true
same_number n = grind arith

asks_page : (key : List ℕ) (next : Next) → reads_or_looked next ≡ true → is_fetch (then_under_way (Get key) next) ≡ true
asks_page key Busy h = refl
asks_page key (Io (Read page) outcome) h = refl
asks_page key (Io (Write page bytes) outcome) h = absurd cc
asks_page key (Done outcome) h = refl

begun_serves : (task : Task) (op : Op) (made : ℕ) (pair new : Pair) (next : Next) → Brings task op → start (made + 1) op pair ≡ record { pair = new; next = next } → serves task (then_under_way op next) ≡ true
begun_serves (Putting key) op made pair new next brings started = refl
begun_serves (Deleting key) op made pair new next brings started = refl
begun_serves Flushing op made pair new next brings started = refl
begun_serves Filling (Get key) made pair new next brings started = asks_page key next (ap (λ (m : Moved). reads_or_looked m.next) (sym started) ∙ get_starts pair (made + 1) key)
begun_serves Filling (Put e) made pair new next brings started = absurd brings
begun_serves Filling (Delete key) made pair new next brings started = absurd brings
begun_serves Filling Flush made pair new next brings started = absurd brings
begun_serves Filling Reclaim made pair new next brings started = absurd brings

pub served_started : (pair new : Pair) (made : ℕ) (op : Op) (next : Next) (task : Task) (flash : FlashConfig) (stones : List Tombstone) (jobs : List Job) → Sound pair.small.flash pair.large → under_way pair (made + 1) ≡ None
    → start (made + 1) op pair ≡ record { pair = new; next = next } → Brings task op → AreNumbered 1 made jobs → AreServed pair jobs → AreServed new (after flash task next stones jobs made).jobs
served_started pair new made op next task flash stones jobs sound free started brings numbered h = of next started
  where
    goes : (n : ℕ) → under_way new n ≡ (if n == (made + 1) then then_under_way op next else under_way pair n)
    goes n = ap (λ (m : Moved). under_way m.pair n) (sym started) ∙ started_goes pair (made + 1) op sound free n ∙ ap (λ (m : Moved). if n == (made + 1) then then_under_way op m.next else under_way pair n) started

    others : AreServed new jobs
    others = served_below 1 made pair new jobs numbered (λ n l. goes n ∙ rw (other_number n made l) refl) h

    own : serves task (under_way new (made + 1)) ≡ true
    own = ap (serves task) (goes (made + 1) ∙ rw (same_number (made + 1)) refl) ∙ begun_serves task op made pair new next brings started

    of : (next : Next) → start (made + 1) op pair ≡ record { pair = new; next = next } → AreServed new (after flash task next stones jobs made).jobs
    of Busy e = others
    of (Io order outcome) e = served_with new jobs (record { number = made + 1; task = task; order = order }) others own
    of (Done outcome) e = others

-- ---- a result was handed in

none_some : {X : Type 0} (x : X) → None ≡ Some x → ⊥
none_some x h = cc

pub served_resumed : (pair new : Pair) (number : ℕ) (came : IoResult) (next : Next) (jobs : List Job) → IsApart pair → Sound pair.small.flash pair.large → resume number came pair ≡ Some (record { pair = new; next = next }) → AreServed pair jobs → AreServed new jobs
served_resumed pair new number came next jobs apart sound made h = served_all pair new jobs (λ n task served. by (under_way pair number) refl n task served) h
  where
    asked : (op : Op) (order : Order) → gets_page op order ≡ true → reads_or_looked next ≡ true → is_fetch (then_under_way op next) ≡ true
    asked (Get key) order g r = asks_page key next r
    asked (Put e) order g r = absurd cc
    asked (Delete key) order g r = absurd cc
    asked Flush order g r = absurd cc
    asked Reclaim order g r = absurd cc

    goes_on : (task : Task) (w : UnderWay) → under_way pair number ≡ Some w → serves task (Some w) ≡ true → serves task (then_under_way w.op next) ≡ true
    goes_on (Putting key) w e s = refl
    goes_on (Deleting key) w e s = refl
    goes_on Flushing w e s = refl
    goes_on Filling w e s = asked w.op w.order s (fetch_goes pair number came (record { pair = new; next = next }) (ap is_fetch e ∙ s) made)

    by : (o : Option UnderWay) → under_way pair number ≡ o → (n : ℕ) (task : Task) → serves task (under_way pair n) ≡ true → serves task (under_way new n) ≡ true
    by None e n task s = absurd (none_some (record { pair = new; next = next }) (sym (none_resumes pair number came e) ∙ made))
    by (Some w) e n task s = at (n == number) refl
      where
        goes : under_way new n ≡ (if n == number then then_under_way w.op next else under_way pair n)
        goes = resumed_goes pair number came w (record { pair = new; next = next }) apart sound e made n

        at : (t : Bool) → (n == number) ≡ t → serves task (under_way new n) ≡ true
        at true t = ap (serves task) (goes ∙ rw t refl) ∙ goes_on task w e (ap (serves task) (sym e ∙ ap (under_way pair) (sym (eqb-true n number t))) ∙ s)
        at false t = ap (serves task) (goes ∙ rw t refl) ∙ s
