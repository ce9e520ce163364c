-- Each kind of step makes the charges that it may, and frees no other open one.
use Rattle.std.proofs.Common.{◌≡◌, ℕ, ◌+◌, ◌≤◌, ◌==◌, Bool, true, false, ◌||◌, List, [], ◌∷◌, ◌++◌, length, Option, Some, None, refl, ap, sym, ◌∙◌, subst, arith, cond}
use Rattle.std.specs.Prelude.{if◌then◌else◌, is_some, nat_lt, option_map}
use Rattle.std.specs.List.{list_any}
use Rattle.hc_types.specs.Config.{Config}
use Rattle.hc_types.specs.Tally.{count}
use Rattle.hc_types.specs.declared.refusal.Refusal.{Refusal}
use Rattle.hc_types.specs.declared.refusal.Refusal.TheVariants.{ForeignHandle}
use Rattle.hc_engines.specs.Engine.{Order, Read, Write, IoResult, Page, Written, Failed}
use Rattle.hc_engines.specs.pair.Pair as pairs
use Rattle.hc_memory.specs.Memory.{linked_at}
use Rattle.hc_machine.specs.items.Allocating.{refusal_of}
use Rattle.hc_machine.specs.items.Items.{items_of, open_has}
use Rattle.hc_history.specs.Note as note
use Rattle.hc_history.specs.Note.{Note, Op, Reply as Said, Begin, Did, End, Now}
use Rattle.hc_history.specs.Books.{Charge}
use Rattle.hc_history.specs.Lawful.{past}
use Rattle.hc_memory.specs.Item.{Handle}
use Rattle.hc_machine.specs.Nvm.{Nvm, Fill, Job, ToFind, job_at}
use Rattle.hc_machine.specs.Takes as takes
use Rattle.hc_machine.specs.Takes.{Take, Idle, Finished, Work, Filled, Taken, result_note, goes_on, resumed}
use Rattle.hc_machine.specs.Cache.{Cache, Owed, Told, Moved, Refused, Discarded, Waits, Took, tells, and_then, answers, stays, takes_in, owed_at}
use Rattle.hc_machine.specs.Evicting.{allocate_by}
use Rattle.hc_machine.specs.Waiting.{uproot, plant, free, live, find_reply, entry_of_handle, end_fill}
use Rattle.hc_machine.specs.Calls.{begin, replies_then, wait_in, wait_for, store, is_known, add, in_memory, must_wait, find_by, find_now, used}
use Rattle.hc_machine.specs.Calls as calls
use Rattle.hc_machine.specs.Workers as workers
use Rattle.hc_machine.specs.Workers.{fill, take_on, after_take, after_finish, finish_on, reclaim_on}
use Rattle.hc_machine.specs.World.{Says, order_in, result_at, io_of, done_of}
use Rattle.hc_machine.specs.Schedule.{Deed, Open, Put, PutNew, Discard, Find, Remove, Reply, Tick, WriterTake, FillerTake, Reclaim, Io, Finish, Slot, Scene, Done, Tells, slot_at, does, in_world, fills, opens, puts, puts_new, discards}
use Rattle.hc_invariant.specs.Tells.{waiters_of}
use Rattle.hc_invariant.specs.Good.{Agrees, Good, fills_of}
use Rattle.hc_invariant.specs.Structure.{Structure, Structured}
use Rattle.hc_proof.proofs.structure.Parts.{parts_of}
use Rattle.hc_proof.proofs.structure.Takes.{filler_leaves, finish_leaves}
use Rattle.hc_follows.specs.Desk.{Desk, Adding, open_charges}
use Rattle.hc_follows.specs.Charging.{charged_in, links_what_it_charges, frees_no_open, Charges, Frees}
use Rattle.hc_proof.proofs.shapes.Asides.{uproot_aside, plant_aside}
use Rattle.hc_theorem.specs.clients.Matches.{AllTold, Matches}
use Rattle.hc_theorem.proofs.clients.Refusing.{open_same}
use Rattle.hc_theorem.proofs.charges.Notes.{NoCharges, none_made, none_freed, made-append, links_none, links-behind, frees-append, Apart}
use Rattle.hc_theorem.proofs.charges.Pieces.{Safe, both_safe, quiet_safe, marks_same, uproot_safe, plant_safe, end_fill_safe, make_charge_so, filled_so}
use Rattle.hc_theorem.proofs.charges.Waited.{WantedIf, Waited, fills_waited, filled_wanted}
use Rattle.hc_theorem.proofs.charges.Takes.{FillTold, TakenSo, filler_so, went_so, writer_so, reclaim_none}

-- ---- between two steps

-- one is counted that is among them
any_counts : {X : Type 0} (p : X → Bool) (xs : List X) → list_any p xs ≡ true → 1 ≤ count p xs
any_counts p [] h = absurd cc
any_counts p (x ∷ xs) h = go (p x) h (any_counts p xs)
  where
    go : (t : Bool) → (t || list_any p xs) ≡ true → (list_any p xs ≡ true → 1 ≤ count p xs) → 1 ≤ (if t then 1 else 0) + count p xs
    go true h rest = omega arith
    go false h rest = omega (arith, rest h)

pub apart_between : (config : Config) (older : List Note) (cache : Cache) → Agrees config older cache → Apart older (items_of cache.memory.pools)
apart_between config older cache g n o =
    let same : count (λ (charge : Charge). charge.number == n) (open_charges older) ≡ count (open_has n) cache.memory.charges = open_same older (items_of cache.memory.pools) cache.memory.charges cache.memory.made g.memory.charges (λ (c : Charge). cond (c.number == n) 1 0) in
    omega (arith, same, g.memory.charges.one_number n, any_counts (λ (charge : Charge). charge.number == n) (open_charges older) o)

-- ---- parts

-- no charge is made, and none that is open is freed but for an add that is refused
record Tame (adds : List Adding) (older part : List Note) : Type 0 where
  none : charged_in part ≡ 0
  frees : frees_no_open adds older part ≡ true

tame_if : (adds : List Adding) (older : List Note) (t : Bool) (a b : Moved) → Tame adds older a.part → Tame adds older b.part → Tame adds older (if t then a else b).part
tame_if adds older true a b p q = p
tame_if adds older false a b p q = q

-- a call's answer, what is done then, and its end
replies_safe : (adds : List Adding) (older : List Note) (reply : Said) (f : Cache → Told) (cache : Cache) → ((newer : List Note) → Apart newer (items_of cache.memory.pools) → Safe adds newer (f cache)) → Apart older (items_of cache.memory.pools) → Safe adds older (replies_then reply f cache)
replies_safe adds older reply f cache does h =
    let did = tells (Did cache.calls reply ∷ []) cache in
    let p = quiet_safe adds older (items_of cache.memory.pools) did refl (λ n. omega arith) h in
    let middle = Did cache.calls reply ∷ older in
    let q = does middle p.apart in
    let last = tells (End cache.calls ∷ []) (f cache).cache in
    let r = quiet_safe adds (past middle (f cache).part) (items_of (f cache).cache.memory.pools) last refl (λ n. omega arith) q.apart in
    both_safe adds older did (λ c. and_then (f cache) (tells (End cache.calls ∷ []))) p (both_safe adds middle (f cache) (tells (End cache.calls ∷ [])) q r)

begun_safe : (adds : List Adding) (older : List Note) (client : ℕ) (op : Op) (cache : Cache) → Apart older (items_of cache.memory.pools) → Safe adds older (begin client op cache)
begun_safe adds older client op cache h = quiet_safe adds older (items_of cache.memory.pools) (begin client op cache) refl (λ n. omega arith) h

store_safe : (adds : List Adding) (older : List Note) (handle : Handle) (cache : Cache) → AllTold adds (waiters_of (fills_of cache.nvm)) → Apart older (items_of cache.memory.pools) → Safe adds older (store handle cache)
store_safe adds older handle cache told h =
    let first = plant handle cache in
    let p = plant_safe adds older handle cache h in
    let waits : AllTold adds (waiters_of (fills_of first.cache.nvm)) = subst (λ (fills : List Fill). AllTold adds (waiters_of fills)) (sym (plant_aside handle cache).fills) told in
    let there = Some (entry_of_handle handle) in
    both_safe adds older first (replies_then note.Stored (end_fill handle.key there)) p
    (replies_safe adds (past older first.part) note.Stored (end_fill handle.key there) first.cache (λ newer a. end_fill_safe adds newer handle.key there first.cache waits a) p.apart)

removed_safe : (adds : List Adding) (older : List Note) (reply : Said) (key : List ℕ) (cache : Cache) → AllTold adds (waiters_of (fills_of cache.nvm)) → Apart older (items_of cache.memory.pools) → Safe adds older (and_then (uproot key cache) (replies_then reply (end_fill key None)))
removed_safe adds older reply key cache told h =
    let first = uproot key cache in
    let p = uproot_safe adds older key cache h in
    let waits : AllTold adds (waiters_of (fills_of first.cache.nvm)) = subst (λ (fills : List Fill). AllTold adds (waiters_of fills)) (sym (uproot_aside key cache).fills) told in
    both_safe adds older first (replies_then reply (end_fill key None)) p
    (replies_safe adds (past older first.part) reply (end_fill key None) first.cache (λ newer a. end_fill_safe adds newer key None first.cache waits a) p.apart)

-- ---- takes and results

abbrev TakeCharges : List Note → Take → List Note → Type 0
TakeCharges older Finished part = links_what_it_charges older part ≡ true
TakeCharges older take part = charged_in part ≡ 0

none_taken : (older : List Note) (take : Take) (part : List Note) → charged_in part ≡ 0 → TakeCharges older take part
none_taken older Idle part h = h
none_taken older Finished part h = links_none older part h
none_taken older (Work job order) part h = h

record TookSo (adds : List Adding) (older : List Note) (take : Take) (part : List Note) : Type 0 where
  charges : TakeCharges older take part
  frees : frees_no_open adds older part ≡ true

took_so : (adds : List Adding) (older : List Note) (taken : Taken) (cache : Cache) → TakenSo adds taken → WantedIf older taken.filled → Apart older (items_of cache.memory.pools) → TookSo adds older taken.take (after_take taken cache).part
took_so adds older taken cache t wanted h = go taken.filled t.told wanted
  where
    base : Told
    base = takes_in taken.part taken.nvm cache

    first : Safe adds older base
    first = quiet_safe adds older (items_of cache.memory.pools) base t.none (λ n. omega (arith, marks_same n taken.part cache.memory)) h

    go : (filled : Option Filled) → FillTold adds taken.take filled → WantedIf older filled → TookSo adds older taken.take (taken.part ++ (fill filled base.cache).part)
    go None told wanted = record {
      charges = none_taken older taken.take (taken.part ++ []) (omega (arith, made-append taken.part [], first.none));
      frees = frees-append adds older taken.part [] first.frees refl;
    }
    go (Some filled) told wanted =
        let second = fill (Some filled) base.cache in
        let q = filled_so adds older (past older taken.part) filled base.cache told.1 wanted first.apart in
        record {
          charges = subst (λ (take : Take). TakeCharges older take (taken.part ++ second.part)) (sym told.0) (links-behind older taken.part second.part first.none ∙ q.links);
          frees = frees-append adds older taken.part second.part first.frees q.frees;
        }

noted_none : (order : Order) (result : IoResult) (part : List Note) → NoCharges part → NoCharges (result_note order result ∷ part)
noted_none (Read page) (Page bytes) part h = h
noted_none (Read page) Written part h = h
noted_none (Read page) Failed part h = h
noted_none (Write page bytes) Written part h = h
noted_none (Write page bytes) (Page read) part h = h
noted_none (Write page bytes) Failed part h = h

-- the answer of a step on flash, with its part
module _ (adds : List Adding) (older : List Note) (cache : Cache) (h : Apart older (items_of cache.memory.pools)) (told : AllTold adds (waiters_of (fills_of cache.nvm))) (s : Structured cache) (waited : Waited older (fills_of cache.nvm)) where
  -- what a result makes, by what it is answered
  abbrev ByAnswer : Deed → Moved → Type 0
  ByAnswer deed moved = Charges older deed (Tells (Says moved.answer)) moved.part × (frees_no_open adds older moved.part ≡ true)

  filler_by : (taken : Taken) → TakenSo adds taken → WantedIf older taken.filled → ByAnswer FillerTake (after_take taken cache)
  filler_by taken t wanted = let k = took_so adds older taken cache t wanted h in (go taken.take k.charges, k.frees)
    where
      go : (take : Take) → TakeCharges older take (after_take taken cache).part → Charges older FillerTake (Tells (Says (Took take))) (after_take taken cache).part
      go Idle c = c
      go Finished c = c
      go (Work job order) c = c

  finish_by : (job : ℕ) (taken : Taken) → TakenSo adds taken → WantedIf older taken.filled → ByAnswer (Finish job) (after_take taken cache)
  finish_by job taken t wanted = let k = took_so adds older taken cache t wanted h in (go taken.take k.charges, k.frees)
    where
      go : (take : Take) → TakeCharges older take (after_take taken cache).part → Charges older (Finish job) (Tells (Says (Took take))) (after_take taken cache).part
      go Idle c = c
      go Finished c = c
      go (Work number order) c = c

  filler_made : ByAnswer FillerTake (workers.filler_take cache)
  filler_made = go cache.nvm told s waited
    where
      go : (nvm : Option Nvm) → AllTold adds (waiters_of (fills_of nvm)) → Structure cache.memory nvm → Waited older (fills_of nvm) → ByAnswer FillerTake (take_on nvm takes.filler_take cache)
      go None told s waited = (refl, refl)
      go (Some nvm) told s waited =
          let left = filler_leaves nvm (λ key. omega (arith, s.one_place key)) (parts_of cache.memory (Some nvm) s).1 in
          filler_by (takes.filler_take nvm) (filler_so adds nvm told) (filled_wanted older nvm.fills (takes.filler_take nvm).nvm.fills (takes.filler_take nvm).filled waited left.fills)

  writer_made : Tame adds older (workers.writer_take cache).part
  writer_made = go cache.nvm
    where
      by : (taken : Taken) → NoCharges taken.part → (filled : Option Filled) → filled ≡ None → Tame adds older (taken.part ++ (fill filled (takes_in taken.part taken.nvm cache).cache).part)
      by taken none None e = record { none = omega (arith, made-append taken.part [], none_made taken.part none); frees = frees-append adds older taken.part [] (none_freed adds older taken.part none) refl }
      by taken none (Some filled) e = absurd cc

      go : (nvm : Option Nvm) → Tame adds older (take_on nvm takes.writer_take cache).part
      go None = record { none = refl; frees = refl }
      go (Some nvm) = let w = writer_so nvm in by (takes.writer_take nvm) w.none (takes.writer_take nvm).filled w.unfilled

  reclaim_made : Tame adds older (workers.reclaim cache).part
  reclaim_made = go cache.nvm
    where
      go : (nvm : Option Nvm) → Tame adds older (reclaim_on nvm cache).part
      go None = record { none = refl; frees = refl }
      go (Some nvm) = let none = reclaim_none nvm in record { none = none_made (takes.reclaim nvm).change.part none; frees = none_freed adds older (takes.reclaim nvm).change.part none }

  module _ (job : ℕ) (result : IoResult) (nvm : Nvm) (kept : AllTold adds (waiters_of nvm.fills)) (whole : Structure cache.memory (Some nvm)) (waits : Waited older nvm.fills) where
    finish_moved : (j : Job) → job_at job nvm.jobs ≡ Some j → (o : Option pairs.Moved) → pairs.resume j.number result nvm.pair ≡ o → ByAnswer (Finish job) (after_finish (option_map (resumed j result nvm) o) cache)
    finish_moved j at None e = (refl, refl)
    finish_moved j at (Some m) e =
        let taken = resumed j result nvm m in
        let w = went_so adds j m.next (record nvm { pair = m.pair }) kept in
        let so : TakenSo adds taken = record { none = noted_none j.order result (goes_on j m.next (record nvm { pair = m.pair })).part w.none; told = w.told } in
        let its : takes.finish job result nvm ≡ Some taken = ap (λ o. takes.finish_job o result nvm) at ∙ ap (option_map (resumed j result nvm)) e in
        let left = finish_leaves nvm job result taken (parts_of cache.memory (Some nvm) whole).1 its in
        finish_by job taken so (filled_wanted older nvm.fills taken.nvm.fills taken.filled waits left.fills)

    finish_by_job : (o : Option Job) → job_at job nvm.jobs ≡ o → ByAnswer (Finish job) (after_finish (takes.finish_job o result nvm) cache)
    finish_by_job None at = (refl, refl)
    finish_by_job (Some j) at = finish_moved j at (pairs.resume j.number result nvm.pair) refl

  finish_made : (job : ℕ) (result : IoResult) → ByAnswer (Finish job) (workers.finish job result cache)
  finish_made job result = go cache.nvm told s waited
    where
      go : (nvm : Option Nvm) → AllTold adds (waiters_of (fills_of nvm)) → Structure cache.memory nvm → Waited older (fills_of nvm) → ByAnswer (Finish job) (finish_on nvm job result cache)
      go None told s waited = (refl, refl)
      go (Some nvm) told s waited = finish_by_job job result nvm told s waited (job_at job nvm.jobs) refl

  -- ---- calls

  call_made : (client : ℕ) (op : Op) (f : Cache → Told) → ((newer : List Note) (c : Cache) → c.memory ≡ cache.memory → c.nvm ≡ cache.nvm → Apart newer (items_of c.memory.pools) → Safe adds newer (f c)) → Tame adds older (and_then (begin client op cache) f).part
  call_made client op f goes =
      let b = begun_safe adds older client op cache h in
      let s = both_safe adds older (begin client op cache) f b (goes (past older (begin client op cache).part) (begin client op cache).cache refl refl b.apart) in
      record { none = s.none; frees = s.frees }

  store_made : (client : ℕ) (op : Op) (handle : Handle) → Tame adds older (and_then (begin client op cache) (store handle)).part
  store_made client op handle = call_made client op (store handle) (λ newer c m n a. store_safe adds newer handle c (subst (λ (nvm : Option Nvm). AllTold adds (waiters_of (fills_of nvm))) (sym n) told) a)

  put_made : (client : ℕ) (handle : Handle) → Tame adds older (calls.insert_or_replace client handle cache).part
  put_made client handle = tame_if adds older (is_known cache handle) _ _ (store_made client (note.Insert handle.key handle.value handle.expiry) handle) (record { none = refl; frees = refl })

  put_new_made : (client : ℕ) (handle : Handle) → Tame adds older (calls.insert client handle cache).part
  put_new_made client handle =
      let op = note.Add handle.key handle.value handle.expiry in
      tame_if adds older (is_some (live cache.now (in_memory cache handle.key))) _ _ (record { none = refl; frees = refl })
      (tame_if adds older (is_known cache handle) (add client handle cache) _ (tame_if adds older (must_wait cache handle.key) _ _ (record { none = refl; frees = refl }) (store_made client op handle)) (record { none = refl; frees = refl }))

  find_made : (client : ℕ) (key : List ℕ) → Tame adds older (calls.find client key cache).part
  find_made client key = go (must_wait (begin client (note.Find key) cache).cache key)
    where
      c : Cache
      c = (begin client (note.Find key) cache).cache

      go : (t : Bool) → Tame adds older (Begin c.calls client (note.Find key) ∷ (if t then answers (Waits c.calls) (wait_for key ToFind c) else find_now (find_reply (live c.now (in_memory c key))) (used key c)).part)
      go true = record { none = refl; frees = refl }
      go false = record { none = refl; frees = refl }

  remove_made : (reply : Said) (client : ℕ) (key : List ℕ) → Tame adds older (calls.remove_by reply client key cache).part
  remove_made reply client key =
      call_made client (note.Remove key) (λ c. and_then (uproot key c) (replies_then reply (end_fill key None))) (λ newer c m n a. removed_safe adds newer reply key c (subst (λ (nvm : Option Nvm). AllTold adds (waiters_of (fills_of nvm))) (sym n) told) a)

  reply_made : (o : Option Owed) → Tame adds older (calls.take_of o cache).part
  reply_made None = record { none = refl; frees = refl }
  reply_made (Some owed) = go owed.call owed.reply
    where
      go : (call : ℕ) (reply : Option Said) → Tame adds older (calls.take_of (Some (record { call = call; reply = reply })) cache).part
      go call None = record { none = refl; frees = refl }
      go call (Some reply) = record { none = refl; frees = refl }

  tick_made : (moment : ℕ) → Tame adds older (calls.tick moment cache).part
  tick_made moment = go (nat_lt cache.now moment)
    where
      go : (t : Bool) → Tame adds older (if t then Now moment ∷ [] else [])
      go true = record { none = refl; frees = refl }
      go false = record { none = refl; frees = refl }

-- ---- all of them

module _ (config : Config) (log : List Note) (scene : Scene) (desk : Desk) (m : Matches log desk scene) (good : Good config desk.older scene.world.cache) (s : Structured scene.world.cache) where
  abbrev cache : Cache
  cache = scene.world.cache

  apart : Apart desk.older (items_of cache.memory.pools)
  apart = apart_between config desk.older cache good.agrees

  waited : Waited desk.older (fills_of cache.nvm)
  waited = fills_waited desk.older cache.memory cache.calls cache.owed (fills_of cache.nvm) good.agrees.calls good.fresh s.wishes

  abbrev MadeSo : Deed → Done → Type 0
  MadeSo deed done = Charges desk.older deed done.told done.part × Frees deed desk done.part

  open_made : (o : Option Slot) (number pool : ℕ) (key value : List ℕ) (ttl : ℕ) → MadeSo (Open number pool key value ttl) (opens o number pool key value ttl scene)
  open_made (Some slot) number pool key value ttl = (refl, refl)
  open_made None number pool key value ttl = go (refusal_of cache.memory pool key (length value))
    where
      go : (r : Option Refusal) → MadeSo (Open number pool key value ttl) (fills number (allocate_by r pool key value ttl cache).answer scene (allocate_by r pool key value ttl cache))
      go (Some refusal) = (refl, refl)
      go None = let c = make_charge_so desk.adds desk.older pool key (length value) cache apart in (c.one, c.frees)

  put_so : (o : Option Slot) (client slot : ℕ) → MadeSo (Put slot) (puts o client scene)
  put_so None client slot = (refl, refl)
  put_so (Some its) client slot = let t = put_made desk.adds desk.older cache apart m.adds.told s waited client its.handle in (t.none, t.frees)

  put_new_so : (o : Option Slot) (client slot : ℕ) → MadeSo (PutNew slot) (puts_new o client scene)
  put_new_so None client slot = (refl, refl)
  put_new_so (Some its) client slot = let t = put_new_made desk.adds desk.older cache apart m.adds.told s waited client its.handle in (t.none, t.frees)

  discard_so : (o : Option Slot) (slot : ℕ) → MadeSo (Discard slot) (discards o scene)
  discard_so None slot = (refl, tt)
  discard_so (Some its) slot = (go (is_known cache its.handle), tt)
    where
      go : (t : Bool) → charged_in (if t then answers Discarded (free its.handle.number cache) else stays (Refused ForeignHandle) cache).part ≡ 0
      go true = refl
      go false = refl

  io_so : (job : ℕ) (fails : Bool) (o : Option Order) (r : Option IoResult) → MadeSo (Io job fails) (in_world scene.slots (io_of scene.world job fails o r))
  io_so job fails None r = (refl, refl)
  io_so job fails (Some order) (Some result) = (refl, refl)
  io_so job fails (Some order) None = (refl, refl)

  done_so : (job : ℕ) (r : Option IoResult) → MadeSo (Finish job) (in_world scene.slots (done_of scene.world job r))
  done_so job None = (refl, refl)
  done_so job (Some result) = finish_made desk.adds desk.older cache apart m.adds.told s waited job result

  pub charging : (client : ℕ) (deed : Deed) → MadeSo deed (does client deed scene)
  charging client (Open slot pool key value ttl) = open_made (slot_at slot scene.slots) slot pool key value ttl
  charging client (Put slot) = put_so (slot_at slot scene.slots) client slot
  charging client (PutNew slot) = put_new_so (slot_at slot scene.slots) client slot
  charging client (Discard slot) = discard_so (slot_at slot scene.slots) slot
  charging client (Find key) = let t = find_made desk.adds desk.older cache apart m.adds.told s waited client key in (t.none, t.frees)
  charging client (Remove key) = let t = remove_made desk.adds desk.older cache apart m.adds.told s waited (calls.remove_reply (linked_at key cache.memory.pools)) client key in (t.none, t.frees)
  charging client (Reply call) = let t = reply_made desk.adds desk.older cache apart m.adds.told s waited (owed_at call cache.owed) in (t.none, t.frees)
  charging client (Tick moment) = let t = tick_made desk.adds desk.older cache apart m.adds.told s waited moment in (t.none, t.frees)
  charging client WriterTake = let t = writer_made desk.adds desk.older cache apart m.adds.told s waited in (t.none, t.frees)
  charging client FillerTake = filler_made desk.adds desk.older cache apart m.adds.told s waited
  charging client Reclaim = let t = reclaim_made desk.adds desk.older cache apart m.adds.told s waited in (t.none, t.frees)
  charging client (Io job fails) = io_so job fails (order_in cache.nvm job) (result_at job scene.world.results)
  charging client (Finish job) = done_so job (result_at job scene.world.results)
