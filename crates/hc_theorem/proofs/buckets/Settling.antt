-- What is told at the end of a job: tombstones that end, and that a put is no longer being written.
use Rattle.std.proofs.Common.{◌≡◌, ℕ, ◌==◌, Bool, true, false, ◌||◌, List, [], ◌∷◌, ◌++◌, Option, Some, None, refl, ap, sym, ◌∙◌, subst, filter}
use Rattle.std.specs.Str.{bytes_eq}
use Rattle.hc_types.specs.Config.{Config}
use Rattle.hc_types.specs.Places.{bucket_at}
use Rattle.hc_types.specs.declared.config.FlashConfig.{FlashConfig}
use Rattle.hc_machine.proofs.items.Items.{bytes_eq-refl}
use Rattle.hc_engines.specs.small.BigHash.{is_busy}
use Rattle.hc_engines.specs.small.Held as small
use Rattle.hc_memory.proofs.Keyed.{same_bytes}
use Rattle.hc_memory.specs.Memory.{Memory}
use Rattle.hc_history.specs.Note.{Note}
use Rattle.hc_history.specs.Pages.{bytes_at}
use Rattle.hc_history.specs.Lawful.{Lawful, past}
use Rattle.hc_history.proofs.Appended.{Lawful-append, past-append}
use Rattle.hc_engines.specs.pair.Pair.{bucket_in}
use Rattle.hc_machine.specs.Nvm.{Nvm, Tombstone, Task, Putting, Deleting, Filling, Flushing, is_stone_of}
use Rattle.hc_machine.specs.Leaving.{Changed, changed, and_then}
use Rattle.hc_machine.specs.Takes.{raise, raise_all, ends_with, written_note}
use Rattle.hc_machine.specs.Cache.{unmarked_by}
use Rattle.hc_theorem.specs.buckets.Small.{AllSmall, Ending}
use Rattle.hc_theorem.proofs.buckets.SmallBooks.{small-append}
use Rattle.hc_invariant.proofs.Lookups.{stands_in}
use Rattle.hc_theorem.proofs.buckets.Stones.{raised, bytes-raised, small-raised, marks-raised}
use Rattle.hc_theorem.proofs.buckets.Raising.{left, MayEnd, raise_ending, raise_lawful}
use Rattle.hc_theorem.proofs.buckets.Closing.{NoPut, closing, closing_lawful}

-- ---- which tombstones end

-- a tombstone of the key passes the test
pub passes-some : (key : List ℕ) (test : Tombstone → Bool) (P : Type 0) (stones : List Tombstone) → ((stone : Tombstone) → bytes_eq stone.key key ≡ true → test stone ≡ true → P) → stands_in key (filter test stones) ≡ true → P
passes-some key test P [] f h = absurd (cc h)
passes-some key test P (stone ∷ stones) f h = step (test stone) refl (passes-some key test P stones f)
  where
    split : (b : Bool) → is_stone_of key stone ≡ b → test stone ≡ true → (stands_in key (filter test stones) ≡ true → P) → (is_stone_of key stone || stands_in key (filter test stones)) ≡ true → P
    split true e t more s = f stone e t
    split false e t more s = more (rw e at s)

    step : (b : Bool) → test stone ≡ b → (stands_in key (filter test stones) ≡ true → P) → P
    step true e more = split (is_stone_of key stone) refl e more (rw e at h)
    step false e more = more (rw e at h)

-- ---- the end is told

-- the part that is told
abbrev pub end_told : Option ℕ → Task → Nvm → Changed
end_told bucket task nvm = and_then (raise_all bucket nvm) (λ (n : Nvm). and_then (raise (ends_with task) n) (changed (written_note task ++ [])))

-- what is left of the task: no put is being written
abbrev pub told_task : Task → Task
told_task (Putting key) = Flushing
told_task task = task

pub no-put : (task : Task) → NoPut (told_task task)
no-put (Putting key) = λ k. refl
no-put (Deleting key) = λ k. refl
no-put Filling = λ k. refl
no-put Flushing = λ k. refl

pub record Settled (config : Config) (flash : FlashConfig) (older : List Note) (memory : Memory) (nvm : Nvm) (number : ℕ) (task : Task) (bucket : Option ℕ) : Type 0 where
  pub lawful : Lawful config older (end_told bucket task nvm).part
  pub small : AllSmall flash (end_told bucket task nvm).part
  pub marks : unmarked_by (end_told bucket task nvm).part memory ≡ memory
  pub ending : Ending config flash (past older (end_told bucket task nvm).part) memory (end_told bucket task nvm).nvm number (told_task task)

-- the last note
closed : (config : Config) (flash : FlashConfig) (older : List Note) (memory : Memory) (nvm : Nvm) (number : ℕ) (task : Task) → config.flash ≡ Some flash → Ending config flash older memory nvm number task
    → Lawful config older (written_note task ++ []) × AllSmall flash (written_note task ++ []) × (unmarked_by (written_note task ++ []) memory ≡ memory) × Ending config flash (past older (written_note task ++ [])) memory nvm number (told_task task)
closed config flash older memory nvm number (Putting key) on e = (closing_lawful config flash older memory nvm number key on (bytes_eq-refl key) e, (tt, tt), refl, closing config flash older memory nvm number key e)
closed config flash older memory nvm number (Deleting key) on e = (tt, tt, refl, e)
closed config flash older memory nvm number Filling on e = (tt, tt, refl, e)
closed config flash older memory nvm number Flushing on e = (tt, tt, refl, e)

-- tombstones end by a test, and then the last note is told
pub last_raise : (config : Config) (flash : FlashConfig) (older : List Note) (memory : Memory) (nvm : Nvm) (number : ℕ) (task : Task) (test : Tombstone → Bool) → config.flash ≡ Some flash → Ending config flash older memory nvm number task
    → MayEnd config flash older memory nvm number task test
    → Lawful config older (raised (filter test nvm.tombstones) ++ (written_note task ++ [])) × AllSmall flash (raised (filter test nvm.tombstones) ++ (written_note task ++ []))
    × (unmarked_by (raised (filter test nvm.tombstones) ++ (written_note task ++ [])) memory ≡ memory)
    × Ending config flash (past older (raised (filter test nvm.tombstones) ++ (written_note task ++ []))) memory (left config flash older memory nvm number task test) number (told_task task)
last_raise config flash older memory nvm number task test on e may =
    let notes = raised (filter test nvm.tombstones) in
    let after = raise_ending config flash older memory nvm number task test e may in
    let c = closed config flash (past older notes) memory (left config flash older memory nvm number task test) number task on after in (
      Lawful-append config older notes (written_note task ++ []) (raise_lawful config flash older memory nvm number task test on e may) c.0,
      small-append flash notes (written_note task ++ []) (small-raised flash (filter test nvm.tombstones)) c.1,
      marks-raised (filter test nvm.tombstones) (written_note task ++ []) memory ∙ c.2,
      subst (λ (h : List Note). Ending config flash h memory (left config flash older memory nvm number task test) number (told_task task)) (sym (past-append older notes (written_note task ++ []))) c.3,
    )

-- no bucket was given up
pub settled_none : (config : Config) (flash : FlashConfig) (older : List Note) (memory : Memory) (nvm : Nvm) (number : ℕ) (task : Task) → config.flash ≡ Some flash → Ending config flash older memory nvm number task
    → MayEnd config flash older memory nvm number task (ends_with task) → Settled config flash older memory nvm number task None
settled_none config flash older memory nvm number task on e may =
    let l = last_raise config flash older memory nvm number task (ends_with task) on e may in
    record { lawful = l.0; small = l.1; marks = l.2; ending = l.3 }

-- a bucket was: nothing is held there, and no job is on it
abbrev pub IsBare : FlashConfig → List Note → Nvm → ℕ → Type 0
IsBare flash older nvm bucket = (key : List ℕ) → (bucket_at flash key == bucket) ≡ true → (is_busy (bucket_at flash key) nvm.pair.small.jobs ≡ false) × (small.held nvm.pair.small (bytes_at older) key ≡ None)

abbrev pub in_bucket : Nvm → ℕ → Tombstone → Bool
in_bucket nvm bucket stone = bucket_in nvm.pair stone.key == bucket

-- what ends with the task is of the bucket
abbrev pub EndsIn : FlashConfig → Task → ℕ → Type 0
EndsIn flash task bucket = (stone : Tombstone) → ends_with task stone ≡ true → (bucket_at flash stone.key == bucket) ≡ true

pub settled_bucket : (config : Config) (flash : FlashConfig) (older : List Note) (memory : Memory) (nvm : Nvm) (number : ℕ) (task : Task) (bucket : ℕ) → config.flash ≡ Some flash → Ending config flash older memory nvm number task
    → nvm.pair.small.flash ≡ flash → IsBare flash older nvm bucket → EndsIn flash task bucket → Settled config flash older memory nvm number task (Some bucket)
settled_bucket config flash older memory nvm number task bucket on e same bare ends =
    let test = in_bucket nvm bucket in
    let notes = raised (filter test nvm.tombstones) in
    let next = left config flash older memory nvm number task test in
    let may : MayEnd config flash older memory nvm number task test = λ key h. bare key (passes-some key test ((bucket_at flash key == bucket) ≡ true) nvm.tombstones (λ stone bytes_eq t. moved stone key bytes_eq t) h) in
    let after = raise_ending config flash older memory nvm number task test e may in
    let pages = bytes-raised older (filter test nvm.tombstones) in
    let may2 : MayEnd config flash (past older notes) memory next number task (ends_with task) =
    λ key h. subst (λ (g : ℕ → Option (List ℕ)). (is_busy (bucket_at flash key) nvm.pair.small.jobs ≡ false) × (small.held nvm.pair.small g key ≡ None)) (sym pages)
    (bare key (passes-some key (ends_with task) ((bucket_at flash key == bucket) ≡ true) next.tombstones (λ stone bytes_eq t. rekey stone key bytes_eq (ends stone t)) h)) in
    let l = last_raise config flash (past older notes) memory next number task (ends_with task) on after may2 in
    let rest = raised (filter (ends_with task) next.tombstones) ++ (written_note task ++ []) in
    record {
      lawful = Lawful-append config older notes rest (raise_lawful config flash older memory nvm number task test on e may) l.0;
      small = small-append flash notes rest (small-raised flash (filter test nvm.tombstones)) l.1;
      marks = marks-raised (filter test nvm.tombstones) rest memory ∙ l.2;
      ending = subst (λ (h : List Note). Ending config flash h memory (left config flash (past older notes) memory next number task (ends_with task)) number (told_task task)) (sym (past-append older notes rest)) l.3;
    }
  where
    rekey : (stone : Tombstone) (key : List ℕ) → bytes_eq stone.key key ≡ true → (bucket_at flash stone.key == bucket) ≡ true → (bucket_at flash key == bucket) ≡ true
    rekey stone key h t = subst (λ (k : List ℕ). (bucket_at flash k == bucket) ≡ true) (same_bytes stone.key key h) t

    moved : (stone : Tombstone) (key : List ℕ) → bytes_eq stone.key key ≡ true → in_bucket nvm bucket stone ≡ true → (bucket_at flash key == bucket) ≡ true
    moved stone key h t = rekey stone key h (ap (λ (c : FlashConfig). bucket_at c stone.key == bucket) (sym same) ∙ t)

-- ---- what ends with a task

pub no-ends : (task : Task) (stones : List Tombstone) (key : List ℕ) → ((stone : Tombstone) → ends_with task stone ≡ false) → stands_in key (filter (ends_with task) stones) ≡ false
no-ends task [] key h = refl
no-ends task (stone ∷ stones) key h = rw (h stone) (no-ends task stones key h)

-- ---- what tombstones that end leave alone

pub raise-pair : (o : Option ℕ) (nvm : Nvm) → (raise_all o nvm).nvm.pair ≡ nvm.pair
raise-pair None nvm = refl
raise-pair (Some bucket) nvm = refl

pub raise-jobs : (o : Option ℕ) (nvm : Nvm) → (raise_all o nvm).nvm.jobs ≡ nvm.jobs
raise-jobs None nvm = refl
raise-jobs (Some bucket) nvm = refl

pub raise-fills : (o : Option ℕ) (nvm : Nvm) → (raise_all o nvm).nvm.fills ≡ nvm.fills
raise-fills None nvm = refl
raise-fills (Some bucket) nvm = refl

pub raise-made : (o : Option ℕ) (nvm : Nvm) → (raise_all o nvm).nvm.made ≡ nvm.made
raise-made None nvm = refl
raise-made (Some bucket) nvm = refl
