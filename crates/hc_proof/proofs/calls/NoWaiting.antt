-- What memory tells of a key, and that nothing else does where no call has to wait.
use Rattle.std.proofs.Common.{◌≡◌, ℕ, ◌==◌, Bool, true, false, not, ◌&&◌, ◌||◌, List, [], ◌∷◌, Option, Some, None, refl, ap, sym, ◌∙◌, cond, subst, bytes_eq, eqb-true}
use Rattle.std.specs.Prelude.{find, is_some, option_map}
use Rattle.std.specs.List.{list_any}
use Rattle.std.specs.Option.{option_map_or}
use Rattle.hc_types.specs.Config.{Config}
use Rattle.hc_types.specs.declared.config.FlashConfig.{FlashConfig}
use Rattle.hc_types.specs.FlashEntry.{FlashEntry}
use Rattle.hc_engines.specs.Engine.{Pages, Op, Put, Get, Delete, Flush, Reclaim, Order}
use Rattle.hc_engines.specs.small.BigHash as bighash
use Rattle.hc_engines.specs.small.BigHash.{could_hold}
use Rattle.hc_engines.specs.small.Held as small
use Rattle.hc_engines.specs.small.Held.{StateFits, JobsFit}
use Rattle.hc_engines.proofs.small.Serving.{held_is_told}
use Rattle.hc_engines.specs.large.Block as block
use Rattle.hc_engines.specs.large.Held as large
use Rattle.hc_engines.specs.large.Index.{Place, place_at}
use Rattle.hc_memory.specs.Item.{Item}
use Rattle.hc_memory.specs.Memory.{Memory, linked_at}
use Rattle.hc_memory.proofs.Keyed.{same_bytes}
use Rattle.hc_history.specs.Note.{Note}
use Rattle.hc_history.specs.Books.{Entry, entry_at}
use Rattle.hc_history.specs.Pages.{bytes_at}
use Rattle.hc_engines.specs.pair.Pair.{is_indexed, hash_in}
use Rattle.hc_machine.specs.Nvm.{Nvm, Task, Putting, Deleting, Filling, Flushing, Job, job_at, is_job, puts, is_buried, is_written_now, fill_at, may_come}
use Rattle.hc_machine.specs.Evicting.{entry_of_item}
use Rattle.hc_machine.specs.Cache.{Cache}
use Rattle.hc_machine.specs.Calls.{waiting_at, in_memory, must_wait, must_wait_in, buried_at}
use Rattle.hc_invariant.specs.Standing.{map_of, Placed, PlacedAt, put_in, written_by, first_of, written_at, small_at, large_at}
use Rattle.hc_invariant.specs.Jobs.{RunsAs, JobsRun, small_job, large_work, IsGet}
use Rattle.hc_invariant.proofs.Placing.{map_linked, map_queued, map_buried, map_nowhere}
use Rattle.hc_proof.specs.frames.Midst.{FlashMidst}
use Rattle.hc_proof.proofs.frames.ByNumber.{same_number, found-passes}
use Rattle.hc_proof.proofs.frames.JobLists.{run_at}
use Rattle.hc_proof.proofs.frames.Lists.{or_false}

-- ---- what is being written is told by the jobs

-- the operation that writes the key
record Writes (key : List ℕ) (jobs : List bighash.Job) : Type 0 where
  job : bighash.Job
  found : bighash.job_at job.number jobs ≡ Some job
  writes : is_some (put_in key job.op) ≡ true

writes_by : (flash : FlashConfig) (words : ℕ → Option ℕ) (pages : Pages) (key : List ℕ) (jobs : List bighash.Job) → JobsFit flash words pages jobs → is_some (written_by key jobs) ≡ true → Writes key jobs
writes_by flash words pages key [] fit h = absurd cc
writes_by flash words pages key (x ∷ jobs) fit h = step (put_in key x.op) refl (writes_by flash words pages key jobs fit.3) h
  where
    behind : (job : bighash.Job) → bighash.job_at job.number jobs ≡ Some job → (b : Bool) → (x.number == job.number) ≡ b → bighash.job_at job.number (x ∷ jobs) ≡ Some job
    behind job found true e = absurd (let none : bighash.job_at job.number jobs ≡ None = ap (λ n. bighash.job_at n jobs) (sym (eqb-true x.number job.number e)) ∙ fit.2 in cc)
    behind job found false e = ap (λ b. cond b (Some x) (bighash.job_at job.number jobs)) e ∙ found

    step : (o : Option FlashEntry) → put_in key x.op ≡ o → (is_some (written_by key jobs) ≡ true → Writes key jobs) → is_some (first_of o (written_by key jobs)) ≡ true → Writes key (x ∷ jobs)
    step (Some e) p rest h = record { job = x; found = ap (λ b. cond b (Some x) (bighash.job_at x.number jobs)) (same_number x.number); writes = ap is_some p }
    step None p rest h = let w = rest h in record { job = w.job; found = behind w.job w.found (x.number == w.job.number) refl; writes = w.writes }

any_found : (test p : Job → Bool) (xs : List Job) (x : Job) → find test xs ≡ Some x → p x ≡ true → list_any p xs ≡ true
any_found test p [] x e h = absurd cc
any_found test p (y ∷ xs) x e h = step (test y) (any_found test p xs x) e
  where
    or_true : (a : Bool) → (a || true) ≡ true
    or_true true = refl
    or_true false = refl

    step : (b : Bool) → (find test xs ≡ Some x → p x ≡ true → list_any p xs ≡ true) → cond b (Some y) (find test xs) ≡ Some x → (p y || list_any p xs) ≡ true
    step true rest e = let same : y ≡ x = cc in ap (λ b. b || list_any p xs) (ap p same ∙ h)
    step false rest e = ap (λ b. p y || b) (rest e h) ∙ or_true (p y)

puts_key : (key k : List ℕ) (op : Op) → is_some (put_in key op) ≡ true → is_some (put_in k op) ≡ true → bytes_eq k key ≡ true
puts_key key k (Put e) h j = step (bytes_eq e.key key) refl (bytes_eq e.key k) refl h j
  where
    step : (a : Bool) → bytes_eq e.key key ≡ a → (b : Bool) → bytes_eq e.key k ≡ b → is_some (cond a (Some e) None) ≡ true → is_some (cond b (Some e) None) ≡ true → bytes_eq k key ≡ true
    step true p true q h j = subst (λ (x : List ℕ). bytes_eq x key ≡ true) (same_bytes e.key k q) p
    step true p false q h j = absurd cc
    step false p b q h j = absurd cc
puts_key key k (Get x) h j = absurd cc
puts_key key k (Delete x) h j = absurd cc
puts_key key k Flush h j = absurd cc
puts_key key k Reclaim h j = absurd cc

pub no_put : (key : List ℕ) (op : Op) → IsGet op → is_some (put_in key op) ≡ true → ⊥
no_put key (Get x) g h = cc
no_put key (Put e) g h = absurd g
no_put key (Delete x) g h = absurd g
no_put key Flush g h = absurd g
no_put key Reclaim g h = absurd g

-- its job puts the key
task_puts : (nvm : Nvm) (key : List ℕ) (task : Task) (order : Order) (op : Op) (job : Option bighash.Job) (work : Option block.Work) → option_map (λ (j : bighash.Job). j.op) job ≡ Some op → is_some (put_in key op) ≡ true → RunsAs nvm task order job work → puts key task ≡ true
task_puts nvm key (Putting k) order op (Some job) None e h r = let same : job.op ≡ op = cc in puts_key key k op h (subst (λ (x : Op). is_some (put_in k x) ≡ true) same r.0)
task_puts nvm key (Deleting k) order op (Some job) None e h r = absurd (let same : job.op ≡ op = cc in let gone : is_some (put_in key (Delete k)) ≡ true = subst (λ (x : Op). is_some (put_in key x) ≡ true) (sym same ∙ r.0) h in cc)
task_puts nvm key Filling order op (Some job) None e h r = absurd (let same : job.op ≡ op = cc in no_put key op (subst IsGet same r.0) h)
task_puts nvm key Filling order op None (Some (block.Getting reading)) e h r = absurd cc
task_puts nvm key Flushing order op None (Some (block.Writing n bytes)) e h r = absurd cc
task_puts nvm key task order op job work e h r = absurd r

-- a key that the small engine writes is one that is being written
pub written_told : (nvm : Nvm) (pages : Pages) (key : List ℕ) → JobsRun nvm → StateFits nvm.pair.small pages → is_some (written_by key nvm.pair.small.jobs) ≡ true → is_written_now nvm key ≡ true
written_told nvm pages key j fits h =
    let w = writes_by nvm.pair.small.flash (bighash.word_at nvm.pair.small) pages key nvm.pair.small.jobs fits.jobs_fit h in
    by w (job_at w.job.number nvm.jobs) refl
  where
    by : (w : Writes key nvm.pair.small.jobs) (o : Option Job) → job_at w.job.number nvm.jobs ≡ o → is_written_now nvm key ≡ true
    by w None e = absurd (let none = j.small_ones w.job.number e in let some = w.found in cc)
    by w (Some job) e =
        let number : job.number ≡ w.job.number = eqb-true job.number w.job.number (found-passes (is_job w.job.number) nvm.jobs job e) in
        let its : small_job nvm job.number ≡ Some w.job = ap (λ n. small_job nvm n) number ∙ w.found in
        any_found (is_job w.job.number) (λ (x : Job). puts key x.task) nvm.jobs job e
        (task_puts nvm key job.task job.order w.job.op (small_job nvm job.number) (large_work nvm job.number) (ap (option_map (λ (x : bighash.Job). x.op)) its) w.writes (run_at nvm w.job.number nvm.jobs job j.run e))

-- ---- a key that may not come stands nowhere

large_step : (flash : FlashConfig) (pages : Pages) (s : block.Block) (key : List ℕ) (o : Option Place) → is_some o ≡ false → (large.read_at flash pages s key o) ≡ None
large_step flash pages s key None h = refl
large_step flash pages s key (Some place) h = absurd cc

pub large_told : (pages : Pages) (nvm : Nvm) (key : List ℕ) → is_indexed nvm.pair key ≡ false → (large.held nvm.pair.small.flash pages nvm.pair.large key) ≡ None
large_told pages nvm key h = large_step nvm.pair.small.flash pages nvm.pair.large key (place_at (hash_in nvm.pair key) nvm.pair.large.index) h

pub small_told : (pages : Pages) (nvm : Nvm) (key : List ℕ) → StateFits nvm.pair.small pages → could_hold nvm.pair.small key ≡ false → small.held nvm.pair.small pages key ≡ None
small_told pages nvm key fits h = step (small.held nvm.pair.small pages key) refl
  where
    step : (o : Option FlashEntry) → small.held nvm.pair.small pages key ≡ o → o ≡ None
    step None e = refl
    step (Some x) e = absurd (let told = held_is_told nvm.pair.small pages key fits (λ n. let k = sym n ∙ e in cc) in cc)

pub written_none : (nvm : Nvm) (pages : Pages) (key : List ℕ) → JobsRun nvm → StateFits nvm.pair.small pages → is_written_now nvm key ≡ false → written_by key nvm.pair.small.jobs ≡ None
written_none nvm pages key j fits h = step (written_by key nvm.pair.small.jobs) refl
  where
    step : (o : Option FlashEntry) → written_by key nvm.pair.small.jobs ≡ o → o ≡ None
    step None e = refl
    step (Some x) e = absurd (let told = written_told nvm pages key j fits (ap is_some e) in cc)

pub record StandsNot (pages : Pages) (nvm : Option Nvm) (key : List ℕ) : Type 0 where
  pub written : written_at nvm key ≡ None
  pub small_one : small_at pages nvm key ≡ None
  pub large_one : large_at pages nvm key ≡ None

pub stands_not : (flash : Option FlashConfig) (older : List Note) (memory : Memory) (nvm : Option Nvm) (moves : List ℕ → Bool) (key : List ℕ) → FlashMidst flash older memory nvm moves → must_wait_in nvm key ≡ false → buried_at nvm key ≡ false → StandsNot (bytes_at older) nvm key
stands_not None older memory None moves key f h b = record { written = refl; small_one = refl; large_one = refl }
stands_not None older memory (Some nvm) moves key f h b = absurd f
stands_not (Some flash) older memory None moves key f h b = absurd f
stands_not (Some flash) older memory (Some nvm) moves key f h b =
    let may : may_come nvm key ≡ false = sym (ap (λ x. not x && may_come nvm key) b) ∙ h in
    let one = or_false (is_some (fill_at key nvm.fills)) (is_written_now nvm key || (could_hold nvm.pair.small key || is_indexed nvm.pair key)) may in
    let two = or_false (is_written_now nvm key) (could_hold nvm.pair.small key || is_indexed nvm.pair key) one.1 in
    let three = or_false (could_hold nvm.pair.small key) (is_indexed nvm.pair key) two.1 in
    record {
      written = written_none nvm (bytes_at older) key f.jobs f.engines.small_fits two.0;
      small_one = small_told (bytes_at older) nvm key f.engines.small_fits three.0;
      large_one = large_told (bytes_at older) nvm key three.1;
    }

-- ---- what memory tells of a key

waiting-is : (nvm : Option Nvm) (key : List ℕ) → waiting_at nvm key ≡ waiting_at nvm key
waiting-is None key = refl
waiting-is (Some nvm) key = refl

absent_by : (w s l : Option FlashEntry) (m : Option Entry) (b : Bool) → Placed None None w b s l m → (b ≡ false → (w ≡ None) × ((s ≡ None) × (l ≡ None))) → m ≡ None
absent_by w s l m true p h = map_buried None w s l m p
absent_by w s l m false p h = let e = h refl in map_nowhere m false (subst (λ (x : Option FlashEntry). Placed None None None false None x m) e.1.1 (subst (λ (x : Option FlashEntry). Placed None None None false x l m) e.1.0 (subst (λ (x : Option FlashEntry). Placed None None x false s l m) e.0 p)))

in_memory_by : (i : Option Item) (q w s l : Option FlashEntry) (m : Option Entry) (b : Bool) → Placed i q w b s l m → (i ≡ None → q ≡ None → b ≡ false → (w ≡ None) × ((s ≡ None) × (l ≡ None)))
    → m ≡ option_map map_of (option_map_or (λ (item : Item). Some (entry_of_item item)) i q)
in_memory_by (Some i) q w s l m b p h = map_linked i q w s l m b p
in_memory_by None (Some e) w s l m b p h = map_queued None e w s l m b p
in_memory_by None None w s l m b p h = absent_by w s l m b p (h refl refl)

-- where no call has to wait, what memory has of the key is what the map has
pub memory_tells : (config : Config) (older : List Note) (cache : Cache) (moves : List ℕ → Bool) (key : List ℕ) → FlashMidst config.flash older cache.memory cache.nvm moves → PlacedAt config.flash older cache key → must_wait cache key ≡ false
    → entry_at config.flash older key ≡ option_map map_of (in_memory cache key)
memory_tells config older cache moves key f p h =
    in_memory_by (linked_at key cache.memory.pools) (waiting_at cache.nvm key) (written_at cache.nvm key) (small_at (bytes_at older) cache.nvm key) (large_at (bytes_at older) cache.nvm key) (entry_at config.flash older key) (buried_at cache.nvm key) p
    (λ i q b. let n = stands_not config.flash older cache.memory cache.nvm moves key f (sym (waits_by i q) ∙ h) b in (n.written, (n.small_one, n.large_one)))
    ∙ ap (λ (o : Option FlashEntry). option_map map_of (option_map_or (λ (item : Item). Some (entry_of_item item)) (linked_at key cache.memory.pools) o)) (sym (waiting-is cache.nvm key))
  where
    waits_by : linked_at key cache.memory.pools ≡ None → waiting_at cache.nvm key ≡ None → must_wait cache key ≡ must_wait_in cache.nvm key
    waits_by i q = ap (λ (o : Option FlashEntry). not (is_some o) && must_wait_in cache.nvm key) ((λ k. option_map_or (λ (item : Item). Some (entry_of_item item)) (i k) (waiting_at cache.nvm key)) ∙ waiting-is cache.nvm key ∙ q)

-- where a call has to wait, memory has nothing, and the key isn't buried
pub record MustWait (cache : Cache) (key : List ℕ) : Type 0 where
  pub unlinked : linked_at key cache.memory.pools ≡ None
  pub unqueued : waiting_at cache.nvm key ≡ None
  pub unburied : buried_at cache.nvm key ≡ false

waits_step : (i : Option Item) (q : Option FlashEntry) (b : Bool) → (not (is_some (option_map_or (λ (item : Item). Some (entry_of_item item)) i q)) && b) ≡ true → (i ≡ None) × ((q ≡ None) × (b ≡ true))
waits_step None None b h = (refl, (refl, h))
waits_step None (Some e) b h = absurd cc
waits_step (Some i) q b h = absurd cc

unburied_by : (nvm : Option Nvm) (key : List ℕ) → must_wait_in nvm key ≡ true → buried_at nvm key ≡ false
unburied_by None key h = absurd cc
unburied_by (Some nvm) key h = step (is_buried nvm key) h
  where
    step : (b : Bool) → (not b && may_come nvm key) ≡ true → b ≡ false
    step true h = absurd cc
    step false h = refl

pub waits_alone : (cache : Cache) (key : List ℕ) → must_wait cache key ≡ true → MustWait cache key
waits_alone cache key h =
    let s = waits_step (linked_at key cache.memory.pools) (waiting_at cache.nvm key) (must_wait_in cache.nvm key) h in
    record { unlinked = s.0; unqueued = sym (waiting-is cache.nvm key) ∙ s.1.0; unburied = unburied_by cache.nvm key s.1.1 }
