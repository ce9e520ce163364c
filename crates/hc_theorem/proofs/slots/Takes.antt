-- The workers' calls leave the slots' charges open: what a fill brings is charged and linked, and the charges of its adds go.
use Rattle.std.proofs.Common.{◌≡◌, ℕ, ◌+◌, ◌≤◌, ◌==◌, Bool, true, false, List, [], ◌∷◌, ◌++◌, length, Option, Some, None, refl, ap, sym, ◌∙◌, subst, arith, cond}
use Rattle.std.specs.Prelude.{if◌then◌else◌, option_map}
use Rattle.std.proofs.lemmas.Bool.{eqb-true}
use Rattle.hc_types.specs.Config.{Config}
use Rattle.hc_history.specs.Note.{Note}
use Rattle.hc_types.specs.Charge.{charge_of}
use Rattle.hc_types.specs.Tally.{count}
use Rattle.hc_types.proofs.Tallies.{tally-push, tally-append}
use Rattle.hc_types.specs.FlashEntry.{FlashEntry}
use Rattle.hc_engines.specs.Engine.{Get, IoResult}
use Rattle.hc_memory.specs.Item.{Open}
use Rattle.hc_memory.specs.Charges.{closed}
use Rattle.hc_machine.specs.items.Items.{open_has}
use Rattle.hc_engines.specs.pair.Pair as pairs
use Rattle.hc_machine.specs.Nvm.{Nvm, Waiter, Fill, Filling, Job, is_fill_of, without_fill, fill_by, taken_fill, next_fill, job_at, adds}
use Rattle.hc_machine.specs.Takes as takes
use Rattle.hc_machine.specs.Takes.{Taken, Filled, launched, take_fill, goes_on, resumed}
use Rattle.hc_machine.specs.Cache.{Cache, tells, and_then, takes_in}
use Rattle.hc_machine.specs.Evicting.{make_room, make_charge, handle_for}
use Rattle.hc_machine.specs.Waiting.{serve_all}
use Rattle.hc_machine.specs.Workers as workers
use Rattle.hc_machine.specs.Workers.{can_link, link_clean, bring, fill, after_take, take_on}
use Rattle.hc_machine.specs.Schedule.{Slot}
use Rattle.hc_invariant.specs.Tells.{waiters_of}
use Rattle.hc_invariant.specs.Good.{Agrees, fills_of}
use Rattle.hc_proof.proofs.fresh.Freshness.{EndedBy, EndsSo, writer_end, launched_end, goes_on_end, result_silent, brought_at, taken_waiters, taken_one, reclaim_silent, waits_of}
use Rattle.hc_proof.proofs.calls.CallBooks.{left_counts}
use Rattle.hc_theorem.specs.slots.Opens.{Opens, adds_in}
use Rattle.hc_proof.proofs.shapes.Asides.{unmarked_charges, unmarked_made, room_aside}
use Rattle.hc_theorem.proofs.slots.Opens.{other_goes, opens_more}
use Rattle.hc_theorem.proofs.slots.Serving.{more_is, all_served}

-- the slots' charges are open in this cache
abbrev pub OpensIn : List Slot → Cache → Type 0
OpensIn slots cache = Opens slots (adds_in (fills_of cache.nvm)) cache.memory.charges

-- no open charge has a number that is still to come
abbrev pub NoneToCome : Cache → Type 0
NoneToCome cache = count (open_has (cache.memory.made + 1)) cache.memory.charges ≡ 0

-- ---- a charge comes, and is closed again

comes_and_goes : (slots : List Slot) (more : ℕ → ℕ) (xs : List Open) (c : Open) → count (open_has c.number) xs ≡ 0 → Opens slots more xs → Opens slots more (closed c.number (xs ++ c ∷ []))
comes_and_goes slots more xs c none h =
    let push : (n : ℕ) → count (open_has n) (xs ++ c ∷ []) ≡ count (open_has n) xs + cond (c.number == n) 1 0 = λ n. tally-push (λ (x : Open). cond (open_has n x) 1 0) xs c in
    other_goes slots c.number (λ n. cond (c.number == n) 1 0 + more n) more (xs ++ c ∷ []) (λ n. refl)
    (record {
      held = λ n. omega (arith, push n, h.held n);
      unique = λ n. once n (c.number == n) refl;
      known = opens_more c xs slots h.known;
    })
  where
    once : (n : ℕ) (t : Bool) → (c.number == n) ≡ t → count (open_has n) (xs ++ c ∷ []) ≤ 1
    once n true e =
        let same : count (open_has n) xs ≡ 0 = subst (λ (m : ℕ). count (open_has m) xs ≡ 0) (eqb-true c.number n e) none in
        let one : ◌≡◌ {A = ℕ} (cond (c.number == n) 1 0) 1 = ap {B = ℕ} (λ b. cond b 1 0) e in
        omega (arith, same, one, tally-push (λ (x : Open). cond (open_has n x) 1 0) xs c)
    once n false e =
        let zero : ◌≡◌ {A = ℕ} (cond (c.number == n) 1 0) 0 = ap {B = ℕ} (λ b. cond b 1 0) e in
        omega (arith, h.unique n, zero, tally-push (λ (x : Open). cond (open_has n x) 1 0) xs c)

-- what a piece leaves that brings an item
record Brought (slots : List Slot) (more : ℕ → ℕ) (old new : Cache) : Type 0 where
  opens : Opens slots more new.memory.charges
  fills : fills_of new.nvm ≡ fills_of old.nvm

bring_left : (slots : List Slot) (more : ℕ → ℕ) (entry : Option FlashEntry) (cache : Cache) → NoneToCome cache → Opens slots more cache.memory.charges → Brought slots more cache (bring entry cache).cache
bring_left slots more None cache none h = record { opens = h; fills = refl }
bring_left slots more (Some entry) cache none h = go (can_link cache entry)
  where
    linked : (made : ℕ) (xs : List Open) → made ≡ cache.memory.made → xs ≡ cache.memory.charges → Opens slots more (closed (cache.memory.made + 1) (xs ++ record { number = made + 1; pool = entry.pool; key = entry.key; size = length entry.value } ∷ []))
    linked made xs m e =
        subst (λ (n : ℕ). Opens slots more (closed (cache.memory.made + 1) (xs ++ record { number = n + 1; pool = entry.pool; key = entry.key; size = length entry.value } ∷ []))) (sym m)
        (subst (λ (ys : List Open). Opens slots more (closed (cache.memory.made + 1) (ys ++ record { number = cache.memory.made + 1; pool = entry.pool; key = entry.key; size = length entry.value } ∷ []))) (sym e)
        (comes_and_goes slots more cache.memory.charges (record { number = cache.memory.made + 1; pool = entry.pool; key = entry.key; size = length entry.value }) none h))

    go : (t : Bool) → Brought slots more cache (if t then and_then (make_charge entry.pool entry.key (length entry.value) cache) (link_clean (handle_for cache entry.pool entry.key entry.value entry.expiry)) else tells [] cache).cache
    go true =
        let room = room_aside entry.pool (charge_of entry.key (length entry.value)) cache in
        let left = (make_room entry.pool (charge_of entry.key (length entry.value)) cache).cache in
        record { opens = linked left.memory.made left.memory.charges room.made room.charges; fills = room.fills }
    go false = record { opens = h; fills = refl }

-- ---- what a take leaves

split_fill : (fills : List Fill) (one : Fill) (number : ℕ) → ((key : List ℕ) → count (is_fill_of key) fills ≤ 1) → fill_by number fills ≡ Some one → (n : ℕ) → adds_in fills n ≡ count (adds n) one.waiters + adds_in (without_fill one.key fills) n
split_fill fills one number unique by n =
    omega (arith, left_counts (adds n) one.key fills one (brought_at number fills one unique by) (unique one.key), tally-append (λ (w : Waiter). cond (adds n w) 1 0) one.waiters (waiters_of (without_fill one.key fills)))

pub take_left : (slots : List Slot) (cache : Cache) (number : ℕ) (fills : List Fill) (taken : Taken) → ((key : List ℕ) → count (is_fill_of key) fills ≤ 1) → NoneToCome cache → EndsSo number fills taken
    → Opens slots (adds_in fills) cache.memory.charges → OpensIn slots (after_take taken cache).cache
take_left slots cache number fills taken unique none s h = go taken.filled s.ended
  where
    none_after : NoneToCome (takes_in taken.part taken.nvm cache).cache
    none_after =
        subst (λ (xs : List Open). count (open_has ((takes_in taken.part taken.nvm cache).cache.memory.made + 1)) xs ≡ 0) (sym (unmarked_charges taken.part cache.memory))
        (subst (λ (n : ℕ). count (open_has (n + 1)) cache.memory.charges ≡ 0) (sym (unmarked_made taken.part cache.memory)) none)

    go : (filled : Option Filled) → EndedBy number fills taken.nvm.fills filled → OpensIn slots (fill filled (takes_in taken.part taken.nvm cache).cache).cache
    go None e =
        subst (λ (fs : List Fill). Opens slots (adds_in fs) (takes_in taken.part taken.nvm cache).cache.memory.charges) (sym e)
        (subst (Opens slots (adds_in fills)) (sym (unmarked_charges taken.part cache.memory)) h)
    go (Some filled) e =
        let one = e.0 in
        let c = (takes_in taken.part taken.nvm cache).cache in
        let more : ℕ → ℕ = λ n. count (adds n) filled.waiters + adds_in (without_fill one.key fills) n in
        let same : (n : ℕ) → adds_in fills n ≡ more n = λ n. split_fill fills one number unique e.1.0 n ∙ ap (λ (ws : List Waiter). count (adds n) ws + adds_in (without_fill one.key fills) n) (sym e.1.1.1) in
        let before = subst (Opens slots more) (sym (unmarked_charges taken.part cache.memory)) (more_is slots (adds_in fills) more cache.memory.charges same h) in
        let b = bring_left slots more filled.entry c none_after before in
        let a = all_served slots (adds_in (without_fill one.key fills)) filled.waiters filled.entry (bring filled.entry c).cache b.opens in
        subst (λ (fs : List Fill). Opens slots (adds_in fs) (serve_all filled.waiters filled.entry (bring filled.entry c).cache).cache.memory.charges) (sym (a.fills ∙ b.fills ∙ e.1.1.0)) a.opens

-- ---- the workers' calls

module _ (config : Config) (older : List Note) (slots : List Slot) (cache : Cache) (g : Agrees config older cache) (h : OpensIn slots cache) where
  none : NoneToCome cache
  none = let z = g.memory.charges.fresh (cache.memory.made + 1) (omega arith) in omega (arith, z)

  one : (key : List ℕ) → count (is_fill_of key) (fills_of cache.nvm) ≤ 1
  one = (waits_of config older cache g).one

  pub writer_left : OpensIn slots (workers.writer_take cache).cache
  writer_left = go cache.nvm refl
    where
      go : (nvm : Option Nvm) → cache.nvm ≡ nvm → OpensIn slots (take_on nvm takes.writer_take cache).cache
      go None e = h
      go (Some nvm) e =
          take_left slots cache (nvm.made + 1) nvm.fills (takes.writer_take nvm) (subst (λ (o : Option Nvm). (key : List ℕ) → count (is_fill_of key) (fills_of o) ≤ 1) e one) none (writer_end nvm)
          (subst (λ (o : Option Nvm). Opens slots (adds_in (fills_of o)) cache.memory.charges) e h)

  pub filler_left : OpensIn slots (workers.filler_take cache).cache
  filler_left = go cache.nvm refl
    where
      by : (o : Option Fill) (nvm : Nvm) → cache.nvm ≡ Some nvm → ((key : List ℕ) → count (is_fill_of key) nvm.fills ≤ 1) → Opens slots (adds_in nvm.fills) cache.memory.charges → OpensIn slots (after_take (take_fill o nvm) cache).cache
      by None nvm e u o = o
      by (Some one) nvm e u o =
          let number = nvm.made + 1 in
          let m = pairs.start number (Get one.key) nvm.pair in
          let left : Nvm = record nvm { pair = m.pair; fills = taken_fill one.key number nvm.fills } in
          take_left slots cache number (taken_fill one.key number nvm.fills) (launched Filling m.next left) (λ k. omega (arith, u k, taken_one k one.key number nvm.fills)) none (launched_end Filling m.next left)
          (more_is slots (adds_in nvm.fills) (adds_in (taken_fill one.key number nvm.fills)) cache.memory.charges (λ n. sym (ap (count (adds n)) (taken_waiters one.key number nvm.fills))) o)

      go : (nvm : Option Nvm) → cache.nvm ≡ nvm → OpensIn slots (take_on nvm takes.filler_take cache).cache
      go None e = h
      go (Some nvm) e = by (next_fill nvm) nvm e (subst (λ (o : Option Nvm). (key : List ℕ) → count (is_fill_of key) (fills_of o) ≤ 1) e one) (subst (λ (o : Option Nvm). Opens slots (adds_in (fills_of o)) cache.memory.charges) e h)

  pub reclaim_left : OpensIn slots (workers.reclaim cache).cache
  reclaim_left = subst (λ (fs : List Fill). Opens slots (adds_in fs) (workers.reclaim cache).cache.memory.charges) (sym (reclaim_silent cache).fills) (subst (Opens slots (adds_in (fills_of cache.nvm))) (sym (go cache.nvm)) h)
    where
      go : (nvm : Option Nvm) → (workers.reclaim_on nvm cache).cache.memory.charges ≡ cache.memory.charges
      go None = refl
      go (Some nvm) = unmarked_charges (takes.reclaim nvm).change.part cache.memory

  pub finish_left : (number : ℕ) (result : IoResult) → OpensIn slots (workers.finish number result cache).cache
  finish_left number result = go cache.nvm refl
    where
      resumes : (nvm : Nvm) (job : Job) (o : Option pairs.Moved) → ((key : List ℕ) → count (is_fill_of key) nvm.fills ≤ 1) → Opens slots (adds_in nvm.fills) cache.memory.charges → OpensIn slots (workers.after_finish (option_map (resumed job result nvm) o) cache).cache
      resumes nvm job None u o = h
      resumes nvm job (Some m) u o =
          let q = goes_on_end job m.next (record nvm { pair = m.pair }) in
          take_left slots cache job.number nvm.fills (resumed job result nvm m) u none (record { silent = result_silent job.order result (goes_on job m.next (record nvm { pair = m.pair })).part q.silent; ended = q.ended }) o

      jobs : (nvm : Nvm) (o : Option Job) → ((key : List ℕ) → count (is_fill_of key) nvm.fills ≤ 1) → Opens slots (adds_in nvm.fills) cache.memory.charges → OpensIn slots (workers.after_finish (takes.finish_job o result nvm) cache).cache
      jobs nvm None u o = h
      jobs nvm (Some job) u o = resumes nvm job (pairs.resume job.number result nvm.pair) u o

      go : (nvm : Option Nvm) → cache.nvm ≡ nvm → OpensIn slots (workers.finish_on nvm number result cache).cache
      go None e = h
      go (Some nvm) e = jobs nvm (job_at number nvm.jobs) (subst (λ (o : Option Nvm). (key : List ℕ) → count (is_fill_of key) (fills_of o) ≤ 1) e one) (subst (λ (o : Option Nvm). Opens slots (adds_in (fills_of o)) cache.memory.charges) e h)
