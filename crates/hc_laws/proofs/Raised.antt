-- What a worker's step leaves of the tombstones.
use Rattle.std.proofs.Common.{◌≡◌, ℕ, ◌+◌, ◌==◌, Bool, true, false, not, ◌&&◌, ◌||◌, List, [], ◌∷◌, ◌++◌, filter, Option, Some, None, refl, ap, ◌∙◌}
use Rattle.std.specs.Prelude.{if◌then◌else◌}
use Rattle.std.specs.List.{list_any}
use Rattle.std.specs.Str.{bytes_eq}
use Rattle.hc_memory.proofs.Keyed.{same_bytes}
use Rattle.hc_engines.specs.Engine.{Outcome, Next, Busy, Io, Done}
use Rattle.hc_engines.specs.pair.Pair.{bucket_in}
use Rattle.hc_machine.specs.Nvm.{Nvm, Tombstone, Fill, Task, Putting, Deleting, Filling, Flushing, Job, is_stone_of, is_buried, taken_stone, fill_by, ordered, without_job}
use Rattle.hc_machine.specs.Leaving.{Changed}
use Rattle.hc_machine.specs.Takes.{bucket_lost, raise, raise_all, holds, ends_with, settled, fill_out, ends, launched, goes_on}
use Rattle.hc_laws.specs.Tombstones.{is_delete_over, is_lost_first, gives_up}

whole : (b : Bool) → b ≡ (b && not false)
whole true = refl
whole false = refl

twice : (b g d : Bool) → ((b && not g) && not d) ≡ (b && not (d || g))
twice true true true = refl
twice true true false = refl
twice true false true = refl
twice true false false = refl
twice false g d = refl

-- one tombstone: whether it goes, whether it is the key's, whether others are, and whether the key's go
kept_if : (e k a t : Bool) → (k ≡ true → e ≡ t) → (if not e then (k || (a && not t)) else (a && not t)) ≡ ((k || a) && not t)
kept_if true false a t h = refl
kept_if false false a t h = refl
kept_if true true a true h = none a
  where
    none : (a : Bool) → (a && not true) ≡ (true && not true)
    none true = refl
    none false = refl
kept_if true true a false h = absurd (let e : true ≡ false = h refl in cc)
kept_if false true a true h = absurd (let e : false ≡ true = h refl in cc)
kept_if false true a false h = refl

module _ (key : List ℕ) where
  left : (test : Tombstone → Bool) (t : Bool) (stones : List Tombstone) → ((stone : Tombstone) → is_stone_of key stone ≡ true → test stone ≡ t) → list_any (is_stone_of key) (filter (λ stone. not (test stone)) stones) ≡ (list_any (is_stone_of key) stones && not t)
  left test t [] same = refl
  left test t (stone ∷ stones) same = pushed (test stone) (filter (λ s. not (test s)) stones) ∙ ap (λ f. if not (test stone) then (is_stone_of key stone || f) else f) (left test t stones same)
      ∙ kept_if (test stone) (is_stone_of key stone) (list_any (is_stone_of key) stones) t (same stone)
    where
      pushed : (e : Bool) (rest : List Tombstone) → list_any (is_stone_of key) (if not e then stone ∷ rest else rest) ≡ (if not e then (is_stone_of key stone || list_any (is_stone_of key) rest) else list_any (is_stone_of key) rest)
      pushed true rest = refl
      pushed false rest = refl

  own_key : (stone : Tombstone) → is_stone_of key stone ≡ true → stone.key ≡ key
  own_key stone h = same_bytes stone.key key h

  all_left : (o : Option ℕ) (nvm : Nvm) → is_buried (raise_all o nvm).nvm key ≡ (is_buried nvm key && not (is_lost_first (bucket_in nvm.pair key) o))
  all_left None nvm = whole (is_buried nvm key)
  all_left (Some bucket) nvm = left (λ stone. bucket_in nvm.pair stone.key == bucket) (bucket_in nvm.pair key == bucket) nvm.tombstones (λ stone h. ap (λ k. bucket_in nvm.pair k == bucket) (own_key stone h))

  task_left : (task : Task) (outcome : Outcome) (nvm : Nvm) → is_buried (raise (ends_with task) nvm).nvm key ≡ (is_buried nvm key && not (is_delete_over key task (Done outcome)))
  task_left (Deleting k) outcome nvm = left (ends_with (Deleting k)) (bytes_eq key k) nvm.tombstones (λ stone h. ap (λ x. bytes_eq x k) (own_key stone h))
  task_left (Putting k) outcome nvm = left (ends_with (Putting k)) false nvm.tombstones (λ stone h. refl)
  task_left Filling outcome nvm = left (ends_with Filling) false nvm.tombstones (λ stone h. refl)
  task_left Flushing outcome nvm = left (ends_with Flushing) false nvm.tombstones (λ stone h. refl)

  -- ---- what an answer of the engines ends

  abbrev pub ended : Task → Next → Nvm → Bool
  ended task next nvm = is_delete_over key task next || gives_up (bucket_in nvm.pair key) next

  pub settled_left : (task : Task) (outcome : Outcome) (nvm : Nvm) → is_buried (settled task outcome nvm).nvm key ≡ (is_buried nvm key && not (ended task (Done outcome) nvm))
  settled_left task outcome nvm = task_left task outcome (holds outcome nvm).nvm ∙ ap (λ b. b && not (is_delete_over key task (Done outcome))) (all_left (bucket_lost outcome.losses) nvm)
      ∙ twice (is_buried nvm key) (is_lost_first (bucket_in nvm.pair key) (bucket_lost outcome.losses)) (is_delete_over key task (Done outcome))

  ends_left : (number : ℕ) (task : Task) (outcome : Outcome) (nvm : Nvm) → is_buried (ends number task outcome nvm).nvm key ≡ (is_buried nvm key && not (ended task (Done outcome) nvm))
  ends_left number (Putting k) outcome nvm = settled_left (Putting k) outcome nvm
  ends_left number (Deleting k) outcome nvm = settled_left (Deleting k) outcome nvm
  ends_left number Flushing outcome nvm = settled_left Flushing outcome nvm
  ends_left number Filling outcome nvm = out (fill_by number (settled Filling outcome nvm).nvm.fills) (settled Filling outcome nvm) ∙ settled_left Filling outcome nvm
    where
      out : (o : Option Fill) (change : Changed) → is_buried (fill_out o outcome.answer change).nvm key ≡ is_buried change.nvm key
      out None change = refl
      out (Some fill) change = refl

  not_yet : (task : Task) → is_delete_over key task Busy ≡ false
  not_yet (Deleting k) = refl
  not_yet task = refl

  goes : (task : Task) (outcome : Outcome) (nvm : Nvm) → (order : _) → is_buried (holds outcome nvm).nvm key ≡ (is_buried nvm key && not (ended task (Io order outcome) nvm))
  goes (Putting k) outcome nvm order = all_left (bucket_lost outcome.losses) nvm
  goes (Deleting k) outcome nvm order = all_left (bucket_lost outcome.losses) nvm
  goes Filling outcome nvm order = all_left (bucket_lost outcome.losses) nvm
  goes Flushing outcome nvm order = all_left (bucket_lost outcome.losses) nvm

  stopped : (task : Task) (nvm : Nvm) → is_buried nvm key ≡ (is_buried nvm key && not (ended task Busy nvm))
  stopped (Putting k) nvm = whole (is_buried nvm key)
  stopped (Deleting k) nvm = whole (is_buried nvm key)
  stopped Filling nvm = whole (is_buried nvm key)
  stopped Flushing nvm = whole (is_buried nvm key)

  pub launched_left : (task : Task) (next : Next) (nvm : Nvm) → is_buried (launched task next nvm).nvm key ≡ (is_buried nvm key && not (ended task next nvm))
  launched_left task Busy nvm = stopped task nvm
  launched_left task (Io order outcome) nvm = goes task outcome (record nvm { jobs = nvm.jobs ++ record { number = nvm.made + 1; task = task; order = order } ∷ []; made = nvm.made + 1 }) order
  launched_left task (Done outcome) nvm = ends_left (nvm.made + 1) task outcome nvm

  pub goes_on_left : (job : Job) (next : Next) (nvm : Nvm) → is_buried (goes_on job next nvm).nvm key ≡ (is_buried nvm key && not (ended job.task next nvm))
  goes_on_left job Busy nvm = stopped job.task nvm
  goes_on_left job (Io order outcome) nvm = goes job.task outcome (record nvm { jobs = ordered job.number order nvm.jobs }) order
  goes_on_left job (Done outcome) nvm = ends_left job.number job.task outcome (record nvm { jobs = without_job job.number nvm.jobs })

  -- a delete that is taken leaves the tombstone
  pub taken_left : (k : List ℕ) (stones : List Tombstone) → list_any (is_stone_of key) (taken_stone k stones) ≡ list_any (is_stone_of key) stones
  taken_left k [] = refl
  taken_left k (stone ∷ stones) = by (is_stone_of k stone) ∙ ap (λ b. is_stone_of key stone || b) (taken_left k stones)
    where
      by : (t : Bool) → (is_stone_of key (if t then record stone { taken = true } else stone) || list_any (is_stone_of key) (taken_stone k stones)) ≡ (is_stone_of key stone || list_any (is_stone_of key) (taken_stone k stones))
      by true = refl
      by false = refl
