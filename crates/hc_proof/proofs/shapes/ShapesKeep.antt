-- Each step but the writer's keeps two clauses of `Good`: no region is flushed twice, and a large put that is told rests.
use Rattle.std.proofs.Common.{◌≡◌, ℕ, ◌+◌, ◌≤◌, ◌==◌, Bool, true, false, not, List, [], ◌∷◌, ◌++◌, length, filter, Option, Some, None, refl, ap, sym, ◌∙◌, subst, arith, inl, inr}
use Rattle.std.specs.Prelude.{if◌then◌else◌, is_some, ◌⊎◌, nat_lt, option_map}
use Rattle.std.proofs.lemmas.Bool.{eqb-true}
use Rattle.hc_types.specs.Config.{Config}
use Rattle.hc_types.specs.Tally.{count}
use Rattle.hc_types.specs.declared.config.FlashConfig.{FlashConfig}
use Rattle.hc_types.specs.declared.refusal.Refusal.{Refusal}
use Rattle.hc_engines.specs.Engine.{Get, IoResult, Page, Written, Failed, Order, Read, Write, Outcome, Next, Busy, Io, Done}
use Rattle.hc_engines.specs.large.Region.{Flushing as IsFlushing, region_at}
use Rattle.hc_engines.specs.large.Block as block
use Rattle.hc_engines.specs.large.Steps as steps
use Rattle.hc_engines.specs.large.Numbers.{is_in}
use Rattle.hc_engines.specs.large.Sound.{is_stored}
use Rattle.hc_memory.specs.Item.{Handle}
use Rattle.hc_memory.specs.Memory.{linked_at}
use Rattle.hc_machine.specs.items.Allocating.{refusal_of}
use Rattle.hc_history.specs.Note as notes
use Rattle.hc_history.specs.Note.{Note, Flushed, Cleared, Charged}
use Rattle.hc_history.specs.Lawful.{past}
use Rattle.hc_history.specs.Regions.{flushed, put_under_way, is_put_of}
use Rattle.hc_engines.specs.pair.Pair as pairs
use Rattle.hc_machine.specs.Nvm.{Nvm, ToFind, ToAdd, Fill, Task, Putting, Deleting, Filling, Flushing, Job, is_fill_of, fill_at, without_fill, job_at, ordered, without_job, fill_by, next_fill, taken_fill}
use Rattle.hc_machine.specs.Leaving.{Changed}
use Rattle.hc_machine.specs.Takes as takes
use Rattle.hc_machine.specs.Takes.{Taken, fill_out, finished, ends, settled, launched, take_fill, goes_on, resumed, result_note, reclaimed_by}
use Rattle.hc_machine.specs.Cache.{Cache, Owed, Told, Moved, Answer as Said, Refused, and_then, answers, stays, owed_at}
use Rattle.hc_machine.specs.Evicting.{allocate_by, allocate, make_charge, make_room}
use Rattle.hc_machine.specs.Waiting.{plant, uproot, entry_of_handle, free, end_fill, live, find_reply}
use Rattle.hc_machine.specs.Calls as calls
use Rattle.hc_machine.specs.Calls.{begin, wait_for, store, is_known, add, in_memory, must_wait, used, replies_then}
use Rattle.hc_machine.specs.Workers as workers
use Rattle.hc_machine.specs.Workers.{after_take, take_on, fill}
use Rattle.hc_invariant.specs.Good.{Agrees, FlashPart, fills_of, EnginesFit, OneFlush, Rested, Good}
use Rattle.hc_invariant.proofs.Ends.{tally-reverse}
use Rattle.hc_invariant.specs.Fresh.{AllFresh}
use Rattle.hc_proof.specs.shapes.Shapes.{flushed_in, rests, rests_from, Fewer, ShapedPart, ShapedStep, flushed_by, KeepsMore}
use Rattle.hc_proof.proofs.shapes.PartShapes.{flushed-append, none-append, ends-more, ends-both, ends-last, rests_after, same_fewer, both_fewer, without_fewer, listed, holds_shaped, holds_rest, settled_flushed, settled_rest, settled_fills, both_told, make_charge_shaped, plant_shaped, uproot_shaped, end_fill_shaped, replies_shaped, replies_end, fill_shaped, fill_ends}
use Rattle.hc_proof.proofs.shapes.EngineShapes.{opened_by, QuietNext, get_begins, FlushesIf, resume_flushes, Quiet, reclaim_quiet}
use Rattle.hc_invariant.specs.Laws.{Keeps, KeptBy}

-- ---- regions that were flushed

fewer_left : (test keep : ℕ → Bool) (xs : List ℕ) → count test (filter keep xs) ≤ count test xs
fewer_left test keep [] = omega arith
fewer_left test keep (x ∷ xs) = go (keep x) (fewer_left test keep xs)
  where
    go : (t : Bool) → count test (filter keep xs) ≤ count test xs → count test (if t then x ∷ filter keep xs else filter keep xs) ≤ (if test x then 1 else 0) + count test xs
    go true h = omega arith
    go false h = omega arith

flushes : (q : ℕ) (older part : List Note) → count (λ (x : ℕ). x == q) (flushed (past older part)) ≤ count (λ (x : ℕ). x == q) (flushed older) + count (λ (x : ℕ). x == q) (flushed_in part)
flushes q older [] = omega arith
flushes q older (Flushed region ∷ part) = omega (arith, flushes q (Flushed region ∷ older) part)
flushes q older (Cleared region ∷ part) = omega (arith, flushes q (Cleared region ∷ older) part, fewer_left (λ (x : ℕ). x == q) (λ other. not (other == region)) (flushed older))
flushes q older (note ∷ part) = omega (arith, flushes q (note ∷ older) part)

once_by : (older part : List Note) → flushed_in part ≡ [] → OneFlush older → OneFlush (past older part)
once_by older part e h r = omega (arith, flushes r older part, ap (λ rs. count (λ (x : ℕ). x == r) rs) e, h r)

-- ---- what rests

none_there : (key : List ℕ) (flash : FlashConfig) (older : List Note) → put_under_way flash older ≡ None → is_put_of key (put_under_way flash older) ≡ true → ⊥
none_there key flash older e h = let none : is_put_of key (put_under_way flash older) ≡ false = ap (is_put_of key) e in absurd (cc (none, h))

rested_by : (flash : Option FlashConfig) (older part : List Note) (before after : Option Nvm) → rests_from true part ≡ true → (part ≡ [] → Fewer (fills_of before) (fills_of after)) → Rested flash older before → Rested flash (past older part) after
rested_by None older part before after e f h = tt
rested_by (Some flash) older part before after e f h = λ key put. go key put (rests_after flash older part e)
  where
    go : (key : List ℕ) → is_put_of key (put_under_way flash (past older part)) ≡ true → (part ≡ []) ⊎ (put_under_way flash (past older part) ≡ None) → fill_at key (fills_of after) ≡ None
    go key put (inl none) = f none key (h key (sym (ap (λ p. is_put_of key (put_under_way flash (past older p))) none) ∙ put))
    go key put (inr none) = absurd (none_there key flash (past older part) none put)

pub shaped_keeps : (config : Config) (older : List Note) (cache : Cache) (moved : Moved) → ShapedStep cache moved → KeepsMore config older cache moved
shaped_keeps config older cache moved s = record {
  once = once_by older moved.part s.unflushed;
  rested = rested_by config.flash older moved.part cache.nvm moved.cache.nvm s.ends s.fewer;
}

-- ---- calls of clients

stay : (answer : Said) (cache : Cache) → ShapedStep cache (stays answer cache)
stay answer cache = record { unflushed = refl; ends = refl; fewer = λ e key h. h }

-- what ends well by itself
ended : (cache : Cache) (told : Told) (answer : Said) → flushed_in told.part ≡ [] → rests_from false told.part ≡ true → ShapedStep cache (answers answer told)
ended cache told answer u e = record { unflushed = u; ends = ends-more true told.part e; fewer = λ n. absurd (let no_end : rests_from false told.part ≡ false = ap (rests_from false) n in cc (no_end, e)) }

step_if : (t : Bool) (cache : Cache) (a b : Moved) → ShapedStep cache a → ShapedStep cache b → ShapedStep cache (if t then a else b)
step_if true cache a b p q = p
step_if false cache a b p q = q

pub allocate_shaped : (pool : ℕ) (key value : List ℕ) (ttl : ℕ) (cache : Cache) → ShapedStep cache (allocate pool key value ttl cache)
allocate_shaped pool key value ttl cache = go (refusal_of cache.memory pool key (length value))
  where
    go : (o : Option Refusal) → ShapedStep cache (allocate_by o pool key value ttl cache)
    go None = ended cache (make_charge pool key (length value) cache) _ (make_charge_shaped pool key (length value) cache).unflushed (ends-last false (make_room pool _ cache).part (Charged _ key pool _ ∷ []) refl)
    go (Some refusal) = stay (Refused refusal) cache

pub discard_shaped : (handle : Handle) (cache : Cache) → ShapedStep cache (calls.discard handle cache)
discard_shaped handle cache = step_if (is_known cache handle) cache _ _ (ended cache (free handle.number cache) _ refl refl) (stay _ cache)

begun : (client : ℕ) (op : notes.Op) (cache : Cache) → ShapedPart cache (begin client op cache)
begun client op cache = record { unflushed = refl; fewer = λ k h. h }

stored : (handle : Handle) (cache : Cache) → ShapedPart cache (store handle cache)
stored handle cache =
    both_told cache (plant handle cache) (replies_then notes.Stored (end_fill handle.key (Some (entry_of_handle handle)))) (plant_shaped handle cache)
    (replies_shaped notes.Stored (end_fill handle.key (Some (entry_of_handle handle))) (end_fill_shaped handle.key (Some (entry_of_handle handle))))

store_ends : (handle : Handle) (cache : Cache) → rests_from false (store handle cache).part ≡ true
store_ends handle cache =
    ends-last false (plant handle cache).part (replies_then notes.Stored (end_fill handle.key (Some (entry_of_handle handle))) (plant handle cache).cache).part (replies_end notes.Stored (end_fill handle.key (Some (entry_of_handle handle))) (plant handle cache).cache)

begin_store : (client : ℕ) (op : notes.Op) (handle : Handle) (answer : Said) (cache : Cache) → ShapedStep cache (answers answer (and_then (begin client op cache) (store handle)))
begin_store client op handle answer cache =
    let c = (begin client op cache).cache in
    ended cache (and_then (begin client op cache) (store handle)) answer (both_told cache (begin client op cache) (store handle) (begun client op cache) (stored handle)).unflushed
    (ends-last false (begin client op cache).part (store handle c).part (store_ends handle c))

pub insert_shaped : (client : ℕ) (handle : Handle) (cache : Cache) → ShapedStep cache (calls.insert_or_replace client handle cache)
insert_shaped client handle cache = step_if (is_known cache handle) cache _ _ (begin_store client (notes.Insert handle.key handle.value handle.expiry) handle _ cache) (stay _ cache)

add_shaped : (client : ℕ) (handle : Handle) (cache : Cache) → ShapedStep cache (add client handle cache)
add_shaped client handle cache =
    step_if (must_wait cache handle.key) cache _ _
    (ended cache (and_then (begin client (notes.Add handle.key handle.value handle.expiry) cache) (wait_for handle.key (ToAdd handle))) _ refl refl)
    (begin_store client (notes.Add handle.key handle.value handle.expiry) handle _ cache)

pub new_shaped : (client : ℕ) (handle : Handle) (cache : Cache) → ShapedStep cache (calls.insert client handle cache)
new_shaped client handle cache =
    step_if (is_some (live cache.now (in_memory cache handle.key))) cache _ _ (stay _ cache) (step_if (is_known cache handle) cache _ _ (add_shaped client handle cache) (stay _ cache))

found : (t : Bool) (a b : Moved) → flushed_in a.part ≡ [] → flushed_in b.part ≡ [] → rests_from true a.part ≡ true → rests_from true b.part ≡ true → (flushed_in (if t then a else b).part ≡ []) × (rests_from true (if t then a else b).part ≡ true)
found true a b p q e f = (p, e)
found false a b p q e f = (q, f)

pub find_shaped : (client : ℕ) (key : List ℕ) (cache : Cache) → ShapedStep cache (calls.find client key cache)
find_shaped client key cache =
    let c = (begin client (notes.Find key) cache).cache in
    let both = found (must_wait c key) (answers _ (wait_for key ToFind c)) (calls.find_now (find_reply (live c.now (in_memory c key))) (used key c)) refl refl refl refl in
    record { unflushed = both.0; ends = both.1; fewer = λ n. absurd cc }

pub remove_shaped : (client : ℕ) (key : List ℕ) (cache : Cache) → ShapedStep cache (calls.remove client key cache)
remove_shaped client key cache =
    let reply = calls.remove_reply (linked_at key cache.memory.pools) in
    let b = begin client (notes.Remove key) cache in
    let f : Cache → Told = λ c. and_then (uproot key c) (replies_then reply (end_fill key None)) in
    let u = uproot key b.cache in
    ended cache (and_then b f) _
    (both_told cache b f (begun client (notes.Remove key) cache) (λ c. both_told c (uproot key c) (replies_then reply (end_fill key None)) (uproot_shaped key c) (replies_shaped reply (end_fill key None) (end_fill_shaped key None)))).unflushed
    (ends-last false b.part (f b.cache).part (ends-last false u.part (replies_then reply (end_fill key None) u.cache).part (replies_end reply (end_fill key None) u.cache)))

pub reply_shaped : (call : ℕ) (cache : Cache) → ShapedStep cache (calls.take_reply call cache)
reply_shaped call cache = go (owed_at call cache.owed)
  where
    taken : (n : ℕ) (reply : Option notes.Reply) → ShapedStep cache (calls.take_of (Some (record { call = n; reply = reply })) cache)
    taken n None = stay _ cache
    taken n (Some reply) = record { unflushed = refl; ends = refl; fewer = λ e key h. h }

    go : (o : Option Owed) → ShapedStep cache (calls.take_of o cache)
    go None = stay _ cache
    go (Some owed) = taken owed.call owed.reply

pub tick_shaped : (moment : ℕ) (cache : Cache) → ShapedStep cache (calls.tick moment cache)
tick_shaped moment cache = record { unflushed = (go (nat_lt cache.now moment)).0; ends = (go (nat_lt cache.now moment)).1; fewer = λ e key h. h }
  where
    go : (t : Bool) → (flushed_in (if t then notes.Now moment ∷ [] else []) ≡ []) × (rests_from true (if t then notes.Now moment ∷ [] else []) ≡ true)
    go true = (refl, refl)
    go false = (refl, refl)

-- ---- the filler's take, and reclaim

-- what an operation that is over tells, where nothing is opened
ends_part : (number : ℕ) (task : Task) (outcome : Outcome) (nvm : Nvm) → (ends number task outcome nvm).part ≡ (settled task outcome nvm).part
ends_part number task outcome nvm = go task (settled task outcome nvm)
  where
    out : (o : Option Fill) (change : Changed) → (fill_out o outcome.answer change).part ≡ change.part
    out None change = refl
    out (Some one) change = refl

    go : (t : Task) (change : Changed) → (finished t number outcome.answer change).part ≡ change.part
    go (Putting key) change = refl
    go (Deleting key) change = refl
    go Filling change = out (fill_by number change.nvm.fills) change
    go Flushing change = refl

ends_fewer : (number : ℕ) (task : Task) (outcome : Outcome) (nvm : Nvm) → Fewer nvm.fills (ends number task outcome nvm).nvm.fills
ends_fewer number task outcome nvm = go task (settled task outcome nvm) (settled_fills task outcome nvm)
  where
    out : (o : Option Fill) (change : Changed) → change.nvm.fills ≡ nvm.fills → Fewer nvm.fills (fill_out o outcome.answer change).nvm.fills
    out None change e = same_fewer nvm.fills change.nvm.fills e
    out (Some one) change e = both_fewer nvm.fills change.nvm.fills (without_fill one.key change.nvm.fills) (same_fewer nvm.fills change.nvm.fills e) (without_fewer one.key change.nvm.fills)

    go : (t : Task) (change : Changed) → change.nvm.fills ≡ nvm.fills → Fewer nvm.fills (finished t number outcome.answer change).nvm.fills
    go (Putting key) change e = same_fewer nvm.fills change.nvm.fills e
    go (Deleting key) change e = same_fewer nvm.fills change.nvm.fills e
    go Filling change e = out (fill_by number change.nvm.fills) change e
    go Flushing change e = same_fewer nvm.fills change.nvm.fills e

record ShapedTaken (nvm : Nvm) (taken : Taken) : Type 0 where
  unflushed : flushed_in taken.part ≡ []
  ends_so : rests_from true taken.part ≡ true
  fewer : Fewer nvm.fills taken.nvm.fills

taken_same : (key : List ℕ) (number : ℕ) (fills : List Fill) → Fewer fills (taken_fill key number fills)
taken_same key number [] k h = h
taken_same key number (x ∷ fills) k h = go (is_fill_of key x) (is_fill_of k x) refl h (taken_same key number fills k)
  where
    go : (t u : Bool) → is_fill_of k x ≡ u → (if u then Some x else fill_at k fills) ≡ None → (fill_at k fills ≡ None → fill_at k (taken_fill key number fills) ≡ None)
        → fill_at k ((if t then record x { job = Some number } else x) ∷ taken_fill key number fills) ≡ None
    go t true e h more = absurd cc
    go true false e h more = rw e (more h)
    go false false e h more = rw e (more h)

launched_shaped : (task : Task) (next : Next) (nvm : Nvm) → QuietNext next → ShapedTaken nvm (launched task next nvm)
launched_shaped task Busy nvm q = record { unflushed = refl; ends_so = refl; fewer = λ k h. h }
launched_shaped task (Io order outcome) nvm q =
    let job : Job = record { number = nvm.made + 1; task = task; order = order } in
    let anew : Nvm = record nvm { jobs = nvm.jobs ++ job ∷ []; made = nvm.made + 1 } in
    let h = holds_shaped outcome anew in
    record { unflushed = h.unflushed; ends_so = holds_rest outcome anew q.unopened; fewer = same_fewer nvm.fills _ h.fills }
launched_shaped task (Done outcome) nvm q = record {
  unflushed = ap flushed_in (ends_part (nvm.made + 1) task outcome nvm) ∙ settled_flushed task outcome nvm ∙ ap listed q.unflushed;
  ends_so = ap (rests_from true) (ends_part (nvm.made + 1) task outcome nvm) ∙ settled_rest task outcome nvm q.unopened;
  fewer = ends_fewer (nvm.made + 1) task outcome nvm;
}

filler_taken : (nvm : Nvm) → ShapedTaken nvm (takes.filler_take nvm)
filler_taken nvm = go (next_fill nvm)
  where
    go : (o : Option Fill) → ShapedTaken nvm (take_fill o nvm)
    go None = record { unflushed = refl; ends_so = refl; fewer = λ k h. h }
    go (Some one) =
        let m = pairs.start (nvm.made + 1) (Get one.key) nvm.pair in
        let s = launched_shaped Filling m.next (record nvm { pair = m.pair; fills = taken_fill one.key (nvm.made + 1) nvm.fills }) (get_begins (nvm.made + 1) one.key nvm.pair) in
        record { unflushed = s.unflushed; ends_so = s.ends_so; fewer = both_fewer nvm.fills (taken_fill one.key (nvm.made + 1) nvm.fills) _ (taken_same one.key (nvm.made + 1) nvm.fills) s.fewer }

pub filler_shaped : (cache : Cache) → ShapedStep cache (workers.filler_take cache)
filler_shaped cache = go cache.nvm refl
  where
    go : (nvm : Option Nvm) → cache.nvm ≡ nvm → ShapedStep cache (take_on nvm takes.filler_take cache)
    go None e = stay _ cache
    go (Some nvm) e =
        let taken = takes.filler_take nvm in
        let s = filler_taken nvm in
        let c = (workers.after_take taken cache).cache in
        let f = fill_shaped taken.filled _ in
        record {
          unflushed = none-append taken.part (fill taken.filled _).part s.unflushed f.unflushed;
          ends = ends-both taken.part (fill taken.filled _).part s.ends_so (fill_ends taken.filled _);
          fewer = λ n k h. f.fewer k (s.fewer k (sym (ap (λ x. fill_at k (fills_of x)) e) ∙ h));
        }

pub reclaim_shaped : (cache : Cache) → ShapedStep cache (workers.reclaim cache)
reclaim_shaped cache = go cache.nvm refl
  where
    by : (nvm : Nvm) (moved : block.Moved) (given : Option ℕ) → Quiet moved
        → (flushed_in (reclaimed_by given moved nvm).change.part ≡ []) × (rests_from true (reclaimed_by given moved nvm).change.part ≡ true) × ((reclaimed_by given moved nvm).change.nvm.fills ≡ nvm.fills)
    by nvm moved None q = (refl, refl, refl)
    by nvm moved (Some region) q =
        let outcome = moved.outcome in
        let left : Nvm = record nvm { pair = record nvm.pair { large = moved.state } } in
        (settled_flushed Flushing outcome left ∙ ap listed q.0, settled_rest Flushing outcome left q.1, settled_fills Flushing outcome left)

    go : (nvm : Option Nvm) → cache.nvm ≡ nvm → ShapedStep cache (workers.reclaim_on nvm cache)
    go None e = stay _ cache
    go (Some nvm) e =
        let m = steps.reclaim nvm.pair.small.flash nvm.pair.large in
        let b = by nvm m m.outcome.reclaimed (reclaim_quiet nvm.pair.small.flash nvm.pair.large) in
        record { unflushed = b.0; ends = b.1; fewer = λ n. same_fewer (fills_of cache.nvm) (takes.reclaim nvm).change.nvm.fills (b.2 ∙ sym (ap fills_of e)) }

-- ---- a result is handed in

result_rests : (order : Order) (result : IoResult) → rests (result_note order result) ≡ true
result_rests (Read page) (Page bytes) = refl
result_rests (Read page) Written = refl
result_rests (Read page) Failed = refl
result_rests (Write page bytes) (Page read) = refl
result_rests (Write page bytes) Written = refl
result_rests (Write page bytes) Failed = refl

result_flushes : (order : Order) (result : IoResult) (rest : List Note) → flushed_in (result_note order result ∷ rest) ≡ flushed_in rest
result_flushes (Read page) (Page bytes) rest = refl
result_flushes (Read page) Written rest = refl
result_flushes (Read page) Failed rest = refl
result_flushes (Write page bytes) (Page read) rest = refl
result_flushes (Write page bytes) Written rest = refl
result_flushes (Write page bytes) Failed rest = refl

goes_on_rests : (job : Job) (next : Next) (nvm : Nvm) → opened_by next ≡ None → rests_from true (goes_on job next nvm).part ≡ true
goes_on_rests job Busy nvm o = refl
goes_on_rests job (Io order outcome) nvm o = holds_rest outcome (record nvm { jobs = ordered job.number order nvm.jobs }) o
goes_on_rests job (Done outcome) nvm o = let left : Nvm = record nvm { jobs = without_job job.number nvm.jobs } in ap (rests_from true) (ends_part job.number job.task outcome left) ∙ settled_rest job.task outcome left o

goes_on_flushes : (job : Job) (next : Next) (nvm : Nvm) → (flushed_in (goes_on job next nvm).part ≡ []) ⊎ (flushed_in (goes_on job next nvm).part ≡ listed (flushed_by next))
goes_on_flushes job Busy nvm = inl refl
goes_on_flushes job (Io order outcome) nvm = inl (holds_shaped outcome (record nvm { jobs = ordered job.number order nvm.jobs })).unflushed
goes_on_flushes job (Done outcome) nvm = let left : Nvm = record nvm { jobs = without_job job.number nvm.jobs } in inr (ap flushed_in (ends_part job.number job.task outcome left) ∙ settled_flushed job.task outcome left)

-- a region whose flush is out wasn't flushed
not_in : (r : ℕ) (xs : List ℕ) → is_in r xs ≡ false → count (λ (x : ℕ). x == r) xs ≡ 0
not_in r [] h = refl
not_in r (x ∷ xs) h = go (x == r) h (not_in r xs)
  where
    go : (t : Bool) → (if t then true else is_in r xs) ≡ false → (is_in r xs ≡ false → count (λ (y : ℕ). y == r) xs ≡ 0) → (if t then 1 else 0) + count (λ (y : ℕ). y == r) xs ≡ 0
    go true h more = absurd cc
    go false h more = omega (arith, more h)

unflushed_yet : (flash : FlashConfig) (older : List Note) (nvm : Nvm) (r : ℕ) → EnginesFit flash older nvm → (region_at r nvm.pair.large.regions).status ≡ IsFlushing → count (λ (x : ℕ). x == r) (flushed older) ≡ 0
unflushed_yet flash older nvm r g out = go (is_in r nvm.pair.large.flushed) refl
  where
    go : (t : Bool) → is_in r nvm.pair.large.flushed ≡ t → count (λ (x : ℕ). x == r) (flushed older) ≡ 0
    go true e = absurd (let is : is_stored (region_at r nvm.pair.large.regions).status ≡ true = g.large_sound.flushed r e in let no : is_stored (region_at r nvm.pair.large.regions).status ≡ false = ap is_stored out in cc (is, no))
    go false e = sym (tally-reverse (λ (x : ℕ). if x == r then 1 else 0) (flushed older)) ∙ ap (count (λ (x : ℕ). x == r)) (sym g.regions.in_order) ∙ not_in r nvm.pair.large.flushed e

once_more : (r : ℕ) (older part : List Note) → flushed_in part ≡ r ∷ [] → count (λ (x : ℕ). x == r) (flushed older) ≡ 0 → OneFlush older → OneFlush (past older part)
once_more r older part e none h q = go (r == q) refl
  where
    all : count (λ (x : ℕ). x == q) (flushed (past older part)) ≤ count (λ (x : ℕ). x == q) (flushed older) + ((if r == q then 1 else 0) + 0)
    all = omega (arith, flushes q older part, ap (count (λ (x : ℕ). x == q)) e)

    go : (t : Bool) → (r == q) ≡ t → count (λ (x : ℕ). x == q) (flushed (past older part)) ≤ 1
    go true t =
        let same : r ≡ q = eqb-true r q t in
        let zero_there : count (λ (x : ℕ). x == q) (flushed older) ≡ 0 = subst (λ (n : ℕ). count (λ (x : ℕ). x == n) (flushed older) ≡ 0) same none in
        let one : (if r == q then 1 else 0) ≡ 1 = ap {B = ℕ} (λ b. if b then 1 else 0) t in
        omega (arith, all, zero_there, one)
    go false t = let one : (if r == q then 1 else 0) ≡ 0 = ap {B = ℕ} (λ b. if b then 1 else 0) t in omega (arith, all, one, h q)

finish_taken : (config : Config) (flash : FlashConfig) (older : List Note) (cache : Cache) (nvm : Nvm) (job : Job) (result : IoResult) (m : pairs.Moved) → EnginesFit flash older nvm → FlushesIf nvm.pair m → KeepsMore config older cache (after_take (resumed job result nvm m) cache)
finish_taken config flash older cache nvm job result m g f =
    let taken = resumed job result nvm m in
    let left : Nvm = record nvm { pair = m.pair } in
    let rest = (goes_on job m.next left).part ++ (fill taken.filled _).part in
    let filled = fill_shaped taken.filled _ in
    let ends : rests_from true (after_take taken cache).part ≡ true = ap (λ b. rests_from b rest) (result_rests job.order result) ∙ ends-both (goes_on job m.next left).part (fill taken.filled _).part (goes_on_rests job m.next left f.opens) (fill_ends taken.filled _) in
    let told : flushed_in (after_take taken cache).part ≡ flushed_in (goes_on job m.next left).part = result_flushes job.order result rest ∙ flushed-append (goes_on job m.next left).part (fill taken.filled _).part ∙ (λ i. flushed_in (goes_on job m.next left).part ++ filled.unflushed i) ∙ nil (flushed_in (goes_on job m.next left).part) in
    record {
      once = by (after_take taken cache).part (flushed_in (goes_on job m.next left).part) told (goes_on_flushes job m.next left) f.tells;
      rested = rested_by config.flash older (after_take taken cache).part cache.nvm (after_take taken cache).cache.nvm ends (λ n. absurd cc);
    }
  where
    nil : (rs : List ℕ) → rs ++ [] ≡ rs
    nil [] = refl
    nil (r ∷ rs) = ap (λ xs. r ∷ xs) (nil rs)

    by : (part : List Note) (rs : List ℕ) → flushed_in part ≡ rs → (rs ≡ []) ⊎ (rs ≡ listed (flushed_by m.next)) → (flushed_by m.next ≡ None) ⊎ ((r : ℕ) × ((flushed_by m.next ≡ Some r) × ((region_at r nvm.pair.large.regions).status ≡ IsFlushing))) → OneFlush older → OneFlush (past older part)
    by part rs e (inl none) f = once_by older part (e ∙ none)
    by part rs e (inr is) (inl none) = once_by older part (e ∙ is ∙ ap listed none)
    by part rs e (inr is) (inr f) = once_more f.0 older part (e ∙ is ∙ ap listed f.1.0) (unflushed_yet flash older nvm f.0 g f.1.1)

pub finish_more : (config : Config) (older : List Note) (cache : Cache) (number : ℕ) (result : IoResult) → Agrees config older cache → KeepsMore config older cache (workers.finish number result cache)
finish_more config older cache number result g = go config.flash cache.nvm refl g.flash
  where
    still : (answer : Said) → KeepsMore config older cache (stays answer cache)
    still answer = record { once = λ h. h; rested = λ h. h }

    resumes : (flash : FlashConfig) (nvm : Nvm) (job : Job) (o : Option pairs.Moved) → pairs.resume job.number result nvm.pair ≡ o → EnginesFit flash older nvm → KeepsMore config older cache (workers.after_finish (option_map (resumed job result nvm) o) cache)
    resumes flash nvm job None e f = still _
    resumes flash nvm job (Some m) e f = finish_taken config flash older cache nvm job result m f (resume_flushes job.number result nvm.pair m e)

    jobs : (flash : FlashConfig) (nvm : Nvm) (o : Option Job) → EnginesFit flash older nvm → KeepsMore config older cache (workers.after_finish (takes.finish_job o result nvm) cache)
    jobs flash nvm None f = still _
    jobs flash nvm (Some job) f = resumes flash nvm job (pairs.resume job.number result nvm.pair) refl f

    go : (flash : Option FlashConfig) (nvm : Option Nvm) → cache.nvm ≡ nvm → FlashPart flash older cache.memory nvm → KeepsMore config older cache (workers.finish_on nvm number result cache)
    go flash None e f = still _
    go None (Some nvm) e f = absurd f
    go (Some flash) (Some nvm) e f = jobs flash nvm (job_at number nvm.jobs) f.engines

-- ---- with these clauses, and where the fills stay fresh, all of the invariant

pub whole : (config : Config) (older : List Note) (cache : Cache) (moved : Moved) → Good config older cache → Keeps config older moved → KeepsMore config older cache moved → (AllFresh older (fills_of cache.nvm) → AllFresh (past older moved.part) (fills_of moved.cache.nvm)) → KeptBy Good config older moved
whole config older cache moved g k m f = record { lawful = k.lawful; good = record { agrees = k.good; one_flush = m.once g.one_flush; rested = m.rested g.rested; fresh = f g.fresh } }
