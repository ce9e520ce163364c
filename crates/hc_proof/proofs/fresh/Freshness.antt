-- Each step keeps the fills fresh.
use Rattle.std.proofs.Common.{◌≡◌, ℕ, ◌+◌, ◌≤◌, Bool, true, false, List, [], ◌∷◌, ◌++◌, length, Option, Some, None, refl, ap, sym, ◌∙◌, subst, arith}
use Rattle.std.specs.Prelude.{if◌then◌else◌, nat_lt, option_map}
use Rattle.std.specs.Str.{bytes_eq}
use Rattle.hc_types.specs.Config.{Config}
use Rattle.hc_types.specs.Places.{is_small_by}
use Rattle.hc_types.specs.Tally.{count}
use Rattle.hc_types.specs.declared.config.FlashConfig.{FlashConfig}
use Rattle.hc_types.specs.declared.refusal.Refusal.{Refusal}
use Rattle.hc_types.specs.FlashEntry.{FlashEntry}
use Rattle.hc_engines.specs.Engine as engine
use Rattle.hc_engines.specs.Engine.{Put, Get, Delete, IoResult, Page, Written, Failed, Order, Read, Write, Outcome, Next, Busy, Io, Done}
use Rattle.hc_engines.specs.large.Block as block
use Rattle.hc_engines.specs.large.Steps as steps
use Rattle.hc_memory.specs.Item.{Handle}
use Rattle.hc_memory.specs.Memory.{Memory}
use Rattle.hc_machine.specs.items.Allocating.{refusal_of}
use Rattle.hc_machine.proofs.items.Items.{bytes_eq-refl}
use Rattle.hc_history.specs.Note as notes
use Rattle.hc_history.specs.Note.{Note}
use Rattle.hc_history.specs.Books.{Call, open_call, open_calls}
use Rattle.hc_history.specs.Lawful.{past}
use Rattle.hc_engines.specs.pair.Pair as pairs
use Rattle.hc_engines.specs.pair.Pair.{Pair}
use Rattle.hc_machine.specs.Nvm.{Nvm, Tombstone, Waiter, Fill, Task, Putting, Deleting, Filling, Flushing, Job, is_fill_of, fill_at, without_fill, is_number_in, fill_by, taken_fill, next_put, next_delete, next_fill, without_put, taken_stone, job_at, ordered, without_job}
use Rattle.hc_machine.specs.Leaving.{Changed}
use Rattle.hc_machine.specs.Takes as takes
use Rattle.hc_machine.specs.Takes.{Taken, Filled, fill_out, finished, ends, settled, launched, take_sized, take_put, take_delete, take_flush, take_fill, goes_on, resumed, result_note, reclaimed_by}
use Rattle.hc_machine.specs.Cache.{Cache, Owed, Moved, Answer as Said, Refused, stays, owed_at, takes_in}
use Rattle.hc_machine.specs.Evicting.{allocate_by, allocate}
use Rattle.hc_machine.specs.Calls as calls
use Rattle.hc_machine.specs.Calls.{is_known}
use Rattle.hc_machine.specs.Workers as workers
use Rattle.hc_machine.specs.Workers.{after_take, take_on, fill}
use Rattle.hc_history.specs.Pages.{bytes_at}
use Rattle.hc_invariant.specs.Tells.{waiters_of, asked_in, asked_by, is_call}
use Rattle.hc_invariant.specs.Good.{Agrees, FlashPart, fills_of}
use Rattle.hc_invariant.specs.Fresh.{AllFresh}
use Rattle.hc_invariant.specs.Standing.{first_of}
use Rattle.hc_proof.specs.frames.Midst.{AllWishes}
use Rattle.hc_proof.proofs.frames.BetweenSteps.{wishes_of}
use Rattle.hc_proof.specs.fresh.Answers.{Answers, AllCalls, FreshKeeps}
use Rattle.hc_proof.proofs.fresh.Speaking.{answers-append, SpokenChange, make_charge_quiet, holds_quiet, settled_quiet, fill_speaks}
use Rattle.hc_proof.proofs.fresh.Calming.{CalmAt, answers_map, fresh_silent, fresh_without, Waits, waiters_calm}

abbrev pub none : ℕ → Type 0
none n = ⊥

-- ---- what is kept

-- nothing is answered, and the fills are the same
pub record Silent (cache : Cache) (moved : Moved) : Type 0 where
  pub answers_none : Answers none moved.part
  pub fills : fills_of moved.cache.nvm ≡ fills_of cache.nvm

pub silent_keeps : (older : List Note) (cache : Cache) (moved : Moved) → Silent cache moved → FreshKeeps older cache moved
silent_keeps older cache moved s h = subst (λ (fills : List Fill). AllFresh (past older moved.part) fills) (sym s.fills) (fresh_silent older moved.part (fills_of cache.nvm) s.answers_none h)

stay : (answer : Said) (cache : Cache) → Silent cache (stays answer cache)
stay answer cache = record { answers_none = tt; fills = refl }

silent_if : (t : Bool) (cache : Cache) (a b : Moved) → Silent cache a → Silent cache b → Silent cache (if t then a else b)
silent_if true cache a b p q = p
silent_if false cache a b p q = q

pub allocate_silent : (pool : ℕ) (key value : List ℕ) (ttl : ℕ) (cache : Cache) → Silent cache (allocate pool key value ttl cache)
allocate_silent pool key value ttl cache = go (refusal_of cache.memory pool key (length value))
  where
    go : (o : Option Refusal) → Silent cache (allocate_by o pool key value ttl cache)
    go None = let q = make_charge_quiet none pool key (length value) cache in record { answers_none = q.answers; fills = q.fills }
    go (Some refusal) = stay (Refused refusal) cache

pub discard_silent : (handle : Handle) (cache : Cache) → Silent cache (calls.discard handle cache)
discard_silent handle cache = silent_if (is_known cache handle) cache _ _ (record { answers_none = tt; fills = refl }) (stay _ cache)

pub reply_silent : (call : ℕ) (cache : Cache) → Silent cache (calls.take_reply call cache)
reply_silent call cache = go (owed_at call cache.owed)
  where
    taken : (n : ℕ) (reply : Option notes.Reply) → Silent cache (calls.take_of (Some (record { call = n; reply = reply })) cache)
    taken n None = stay _ cache
    taken n (Some reply) = record { answers_none = tt; fills = refl }

    go : (o : Option Owed) → Silent cache (calls.take_of o cache)
    go None = stay _ cache
    go (Some owed) = taken owed.call owed.reply

pub tick_silent : (moment : ℕ) (cache : Cache) → Silent cache (calls.tick moment cache)
tick_silent moment cache = record { answers_none = go (nat_lt cache.now moment); fills = refl }
  where
    go : (t : Bool) → Answers none (if t then notes.Now moment ∷ [] else [])
    go true = tt
    go false = tt

pub reclaim_silent : (cache : Cache) → Silent cache (workers.reclaim cache)
reclaim_silent cache = go cache.nvm refl
  where
    by : (nvm : Nvm) (moved : block.Moved) (given : Option ℕ) → SpokenChange none nvm (reclaimed_by given moved nvm).change
    by nvm moved None = record { answers = tt; fills = refl }
    by nvm moved (Some region) = let q = settled_quiet none Flushing moved.outcome (record nvm { pair = record nvm.pair { large = moved.state } }) in record { answers = q.answers; fills = q.fills }

    go : (nvm : Option Nvm) → cache.nvm ≡ nvm → Silent cache (workers.reclaim_on nvm cache)
    go None e = stay _ cache
    go (Some nvm) e =
        let m = steps.reclaim nvm.pair.small.flash nvm.pair.large in
        let q = by nvm m m.outcome.reclaimed in
        record { answers_none = q.answers; fills = q.fills ∙ sym (ap fills_of e) }

-- ---- takes

-- the fill that ended, if one did
abbrev pub EndedBy : ℕ → List Fill → List Fill → Option Filled → Type 0
EndedBy number old new None = new ≡ old
EndedBy number old new (Some filled) = (one : Fill) × ((fill_by number old ≡ Some one) × ((new ≡ without_fill one.key old) × (filled.waiters ≡ one.waiters)))

pub record EndsSo (number : ℕ) (fills : List Fill) (taken : Taken) : Type 0 where
  pub silent : Answers none taken.part
  pub ended : EndedBy number fills taken.nvm.fills taken.filled

same_end : (number : ℕ) (fills : List Fill) (change : Changed) (take : takes.Take) → Answers none change.part → change.nvm.fills ≡ fills → EndsSo number fills (takes.takes take change)
same_end number fills change take a e = record { silent = a; ended = e }

ends_end : (number : ℕ) (task : Task) (outcome : Outcome) (nvm : Nvm) → EndsSo number nvm.fills (ends number task outcome nvm)
ends_end number task outcome nvm = go task (settled task outcome nvm) (settled_quiet none task outcome nvm)
  where
    out : (o : Option Fill) (change : Changed) → fill_by number change.nvm.fills ≡ o → SpokenChange none nvm change → EndsSo number nvm.fills (fill_out o outcome.answer change)
    out None change f q = record { silent = q.answers; ended = q.fills }
    out (Some one) change f q = record { silent = q.answers; ended = (one, (sym (ap (fill_by number) q.fills) ∙ f, (ap (without_fill one.key) q.fills, refl))) }

    go : (t : Task) (change : Changed) → SpokenChange none nvm change → EndsSo number nvm.fills (finished t number outcome.answer change)
    go (Putting key) change q = same_end number nvm.fills change _ q.answers q.fills
    go (Deleting key) change q = same_end number nvm.fills change _ q.answers q.fills
    go Filling change q = out (fill_by number change.nvm.fills) change refl q
    go Flushing change q = same_end number nvm.fills change _ q.answers q.fills

pub launched_end : (task : Task) (next : Next) (nvm : Nvm) → EndsSo (nvm.made + 1) nvm.fills (launched task next nvm)
launched_end task Busy nvm = record { silent = tt; ended = refl }
launched_end task (Io order outcome) nvm =
    let job : Job = record { number = nvm.made + 1; task = task; order = order } in
    let q = holds_quiet none outcome (record nvm { jobs = nvm.jobs ++ job ∷ []; made = nvm.made + 1 }) in
    record { silent = q.answers; ended = q.fills }
launched_end task (Done outcome) nvm = ends_end (nvm.made + 1) task outcome nvm

pub goes_on_end : (job : Job) (next : Next) (nvm : Nvm) → EndsSo job.number nvm.fills (goes_on job next nvm)
goes_on_end job Busy nvm = record { silent = tt; ended = refl }
goes_on_end job (Io order outcome) nvm = let q = holds_quiet none outcome (record nvm { jobs = ordered job.number order nvm.jobs }) in record { silent = q.answers; ended = q.fills }
goes_on_end job (Done outcome) nvm = ends_end job.number job.task outcome (record nvm { jobs = without_job job.number nvm.jobs })

-- the fill that a job brings is the one of its key
pub brought_at : (number : ℕ) (fills : List Fill) (one : Fill) → ((key : List ℕ) → count (is_fill_of key) fills ≤ 1) → fill_by number fills ≡ Some one → fill_at one.key fills ≡ Some one
brought_at number [] one h e = absurd cc
brought_at number (x ∷ fills) one h e = go (is_number_in number x.job) e (brought_at number fills one (λ key. omega (arith, h key)))
  where
    counts : (rest : List Fill) → fill_by number rest ≡ Some one → 1 ≤ count (is_fill_of one.key) rest
    counts [] e = absurd cc
    counts (y ∷ ys) e = at (is_number_in number y.job) e (counts ys)
      where
        at : (t : Bool) → (if t then Some y else fill_by number ys) ≡ Some one → (fill_by number ys ≡ Some one → 1 ≤ count (is_fill_of one.key) ys) → 1 ≤ (if is_fill_of one.key y then 1 else 0) + count (is_fill_of one.key) ys
        at true e more = let same : y ≡ one = cc in let own : is_fill_of one.key y ≡ true = ap (λ (f : Fill). bytes_eq f.key one.key) same ∙ bytes_eq-refl one.key in let n : (if is_fill_of one.key y then 1 else 0) ≡ 1 = ap {B = ℕ} (λ b. if b then 1 else 0) own in omega (arith, n)
        at false e more = omega (arith, more e)

    apart : (u : Bool) → (if u then 1 else 0) + count (is_fill_of one.key) fills ≤ 1 → 1 ≤ count (is_fill_of one.key) fills → fill_at one.key fills ≡ Some one → (if u then Some x else fill_at one.key fills) ≡ Some one
    apart true l m e = absurd (omega (arith, l, m))
    apart false l m e = e

    go : (t : Bool) → (if t then Some x else fill_by number fills) ≡ Some one → (fill_by number fills ≡ Some one → fill_at one.key fills ≡ Some one) → fill_at one.key (x ∷ fills) ≡ Some one
    go true e more = let same : x ≡ one = cc in let own : is_fill_of one.key x ≡ true = ap (λ (f : Fill). bytes_eq f.key one.key) same ∙ bytes_eq-refl one.key in rw own e
    go false e more = apart (is_fill_of one.key x) (h one.key) (counts fills e) (more e)

take_fresh : (older : List Note) (cache : Cache) (number : ℕ) (fills : List Fill) (taken : Taken) → Waits older cache.memory fills → EndsSo number fills taken → AllFresh older fills → AllFresh (past older (after_take taken cache).part) (fills_of (after_take taken cache).cache.nvm)
take_fresh older cache number fills taken w s h = go taken.filled s.ended
  where
    go : (filled : Option Filled) → EndedBy number fills taken.nvm.fills filled → AllFresh (past older (taken.part ++ (fill filled (takes_in taken.part taken.nvm cache).cache).part)) (fills_of (fill filled (takes_in taken.part taken.nvm cache).cache).cache.nvm)
    go None e =
        let part = taken.part ++ [] in
        subst (λ (fs : List Fill). AllFresh (past older part) fs) (sym e) (fresh_silent older part fills (answers-append none taken.part [] s.silent tt) h)
    go (Some filled) e =
        let one = e.0 in
        let key = one.key in
        let c = (takes_in taken.part taken.nvm cache).cache in
        let at = brought_at number fills one w.one e.1.0 in
        let calm = subst (λ (ws : List Waiter). AllCalls (CalmAt key older) ws) (sym e.1.1.1) (waiters_calm older cache.memory fills key one w at) in
        let f = fill_speaks (CalmAt key older) (Some filled) c calm in
        let all = answers-append (CalmAt key older) taken.part (fill (Some filled) c).part (answers_map none (CalmAt key older) (λ n x. absurd x) taken.part s.silent) f.answers in
        subst (λ (fs : List Fill). AllFresh (past older (taken.part ++ (fill (Some filled) c).part)) fs) (sym (f.fills ∙ e.1.1.0)) (fresh_without key older (taken.part ++ (fill (Some filled) c).part) fills all h)

-- the fills as a take leaves them that marks one with its job
taken_asked : (n : ℕ) (key : List ℕ) (number : ℕ) (fills : List Fill) → asked_in n (taken_fill key number fills) ≡ asked_in n fills
taken_asked n key number [] = refl
taken_asked n key number (x ∷ fills) = go (is_fill_of key x) (taken_asked n key number fills)
  where
    go : (t : Bool) → asked_in n (taken_fill key number fills) ≡ asked_in n fills → asked_in n ((if t then record x { job = Some number } else x) ∷ taken_fill key number fills) ≡ asked_in n (x ∷ fills)
    go true h = ap (first_of (asked_by n x.key x.waiters)) h
    go false h = ap (first_of (asked_by n x.key x.waiters)) h

pub taken_waiters : (key : List ℕ) (number : ℕ) (fills : List Fill) → waiters_of (taken_fill key number fills) ≡ waiters_of fills
taken_waiters key number [] = refl
taken_waiters key number (x ∷ fills) = go (is_fill_of key x) (taken_waiters key number fills)
  where
    go : (t : Bool) → waiters_of (taken_fill key number fills) ≡ waiters_of fills → waiters_of ((if t then record x { job = Some number } else x) ∷ taken_fill key number fills) ≡ waiters_of (x ∷ fills)
    go true h = ap (λ ws. x.waiters ++ ws) h
    go false h = ap (λ ws. x.waiters ++ ws) h

pub taken_one : (k key : List ℕ) (number : ℕ) (fills : List Fill) → count (is_fill_of k) (taken_fill key number fills) ≡ count (is_fill_of k) fills
taken_one k key number [] = refl
taken_one k key number (x ∷ fills) = go (is_fill_of key x) (taken_one k key number fills)
  where
    go : (t : Bool) → count (is_fill_of k) (taken_fill key number fills) ≡ count (is_fill_of k) fills → count (is_fill_of k) ((if t then record x { job = Some number } else x) ∷ taken_fill key number fills) ≡ count (is_fill_of k) (x ∷ fills)
    go true h = omega (arith, h)
    go false h = omega (arith, h)

taken_wishes : (memory : Memory) (key : List ℕ) (number : ℕ) (fills : List Fill) → AllWishes memory fills → AllWishes memory (taken_fill key number fills)
taken_wishes memory key number [] h = tt
taken_wishes memory key number (x ∷ fills) h = go (is_fill_of key x) (taken_wishes memory key number fills h.1)
  where
    go : (t : Bool) → AllWishes memory (taken_fill key number fills) → AllWishes memory ((if t then record x { job = Some number } else x) ∷ taken_fill key number fills)
    go true rest = (h.0, rest)
    go false rest = (h.0, rest)

taken_fresh : (older : List Note) (key : List ℕ) (number : ℕ) (fills : List Fill) → AllFresh older fills → AllFresh older (taken_fill key number fills)
taken_fresh older key number [] h = tt
taken_fresh older key number (x ∷ fills) h = go (is_fill_of key x) (taken_fresh older key number fills h.1)
  where
    go : (t : Bool) → AllFresh older (taken_fill key number fills) → AllFresh older ((if t then record x { job = Some number } else x) ∷ taken_fill key number fills)
    go true rest = (h.0, rest)
    go false rest = (h.0, rest)

-- what the books and the fills say, of a good cache
pub waits_of : (config : Config) (older : List Note) (cache : Cache) → Agrees config older cache → Waits older cache.memory (fills_of cache.nvm)
waits_of config older cache g = go config.flash cache.nvm g.flash g.calls.open_ones g.calls.one_waiter
  where
    go : (flash : Option FlashConfig) (nvm : Option Nvm) → FlashPart flash older cache.memory nvm → ((n : ℕ) → option_map (λ (call : Call). call.op) (open_call n (open_calls older)) ≡ asked_in n (fills_of nvm)) → ((n : ℕ) → count (is_call n) (waiters_of (fills_of nvm)) ≤ 1)
        → Waits older cache.memory (fills_of nvm)
    go flash None f asks one = record { asks = asks; one_waiter = one; one = λ key. omega arith; wishes = tt }
    go None (Some nvm) f asks one = absurd f
    go (Some flash) (Some nvm) f asks one = record { asks = asks; one_waiter = one; one = f.fills.one; wishes = wishes_of (bytes_at older) cache.memory nvm nvm.fills f.fills.each }

-- the writer's take ends no fill
sized_end : (t : Bool) (put : FlashEntry) (nvm : Nvm) → EndsSo (nvm.made + 1) nvm.fills (take_sized t put nvm)
sized_end true put nvm = let m = pairs.start (nvm.made + 1) (Put put) nvm.pair in let q = launched_end (Putting put.key) m.next (record nvm { pair = m.pair }) in record { silent = q.silent; ended = q.ended }
sized_end false put nvm = let m = pairs.start (nvm.made + 1) (Put put) nvm.pair in let q = launched_end Flushing m.next (record nvm { pair = m.pair }) in record { silent = q.silent; ended = q.ended }

put_end : (o : Option FlashEntry) (nvm : Nvm) → EndsSo (nvm.made + 1) nvm.fills (take_put o nvm)
put_end None nvm = record { silent = tt; ended = refl }
put_end (Some put) nvm = let q = sized_end (is_small_by nvm.pair.small.flash put.key (length put.value)) put (record nvm { queue = without_put put.key nvm.queue }) in record { silent = q.silent; ended = q.ended }

delete_end : (o : Option Tombstone) (nvm : Nvm) → EndsSo (nvm.made + 1) nvm.fills (take_delete o nvm)
delete_end None nvm = put_end (next_put nvm) nvm
delete_end (Some stone) nvm = let m = pairs.start (nvm.made + 1) (Delete stone.key) nvm.pair in let q = launched_end (Deleting stone.key) m.next (record nvm { pair = m.pair; tombstones = taken_stone stone.key nvm.tombstones }) in record { silent = q.silent; ended = q.ended }

flush_end : (next : Next) (pair : Pair) (nvm : Nvm) → EndsSo (nvm.made + 1) nvm.fills (take_flush next pair nvm)
flush_end (Io order outcome) pair nvm = let q = launched_end Flushing (Io order outcome) (record nvm { pair = pair }) in record { silent = q.silent; ended = q.ended }
flush_end Busy pair nvm = delete_end (next_delete nvm) nvm
flush_end (Done outcome) pair nvm = delete_end (next_delete nvm) nvm

pub writer_end : (nvm : Nvm) → EndsSo (nvm.made + 1) nvm.fills (takes.writer_take nvm)
writer_end nvm = let m = pairs.start (nvm.made + 1) engine.Flush nvm.pair in flush_end m.next m.pair nvm

pub writer_fresh : (config : Config) (older : List Note) (cache : Cache) → Agrees config older cache → FreshKeeps older cache (workers.writer_take cache)
writer_fresh config older cache g = go cache.nvm refl (waits_of config older cache g)
  where
    go : (nvm : Option Nvm) → cache.nvm ≡ nvm → Waits older cache.memory (fills_of cache.nvm) → FreshKeeps older cache (take_on nvm takes.writer_take cache)
    go None e w h = h
    go (Some nvm) e w h = take_fresh older cache (nvm.made + 1) nvm.fills (takes.writer_take nvm) (subst (λ (o : Option Nvm). Waits older cache.memory (fills_of o)) e w) (writer_end nvm) (subst (λ (o : Option Nvm). AllFresh older (fills_of o)) e h)

taken_waits : (older : List Note) (memory : Memory) (key : List ℕ) (number : ℕ) (fills : List Fill) → Waits older memory fills → Waits older memory (taken_fill key number fills)
taken_waits older memory key number fills w = record {
  asks = λ n. w.asks n ∙ sym (taken_asked n key number fills);
  one_waiter = λ n. omega (arith, w.one_waiter n, ap (count (is_call n)) (taken_waiters key number fills));
  one = λ k. omega (arith, w.one k, taken_one k key number fills);
  wishes = taken_wishes memory key number fills w.wishes;
}

pub filler_fresh : (config : Config) (older : List Note) (cache : Cache) → Agrees config older cache → FreshKeeps older cache (workers.filler_take cache)
filler_fresh config older cache g = go cache.nvm refl (waits_of config older cache g)
  where
    by : (o : Option Fill) (nvm : Nvm) → Waits older cache.memory nvm.fills → AllFresh older nvm.fills → AllFresh (past older (after_take (take_fill o nvm) cache).part) (fills_of (after_take (take_fill o nvm) cache).cache.nvm)
    by None nvm w h = h
    by (Some one) nvm w h =
        let number = nvm.made + 1 in
        let m = pairs.start number (Get one.key) nvm.pair in
        let left : Nvm = record nvm { pair = m.pair; fills = taken_fill one.key number nvm.fills } in
        take_fresh older cache number (taken_fill one.key number nvm.fills) (launched Filling m.next left) (taken_waits older cache.memory one.key number nvm.fills w) (launched_end Filling m.next left) (taken_fresh older one.key number nvm.fills h)

    go : (nvm : Option Nvm) → cache.nvm ≡ nvm → Waits older cache.memory (fills_of cache.nvm) → FreshKeeps older cache (take_on nvm takes.filler_take cache)
    go None e w h = h
    go (Some nvm) e w h = by (next_fill nvm) nvm (subst (λ (o : Option Nvm). Waits older cache.memory (fills_of o)) e w) (subst (λ (o : Option Nvm). AllFresh older (fills_of o)) e h)

-- ---- a result is handed in

pub result_silent : (order : Order) (result : IoResult) (rest : List Note) → Answers none rest → Answers none (result_note order result ∷ rest)
result_silent (Read page) (Page bytes) rest h = h
result_silent (Read page) Written rest h = h
result_silent (Read page) Failed rest h = h
result_silent (Write page bytes) (Page read) rest h = h
result_silent (Write page bytes) Written rest h = h
result_silent (Write page bytes) Failed rest h = h

pub finish_fresh : (config : Config) (older : List Note) (cache : Cache) (number : ℕ) (result : IoResult) → Agrees config older cache → FreshKeeps older cache (workers.finish number result cache)
finish_fresh config older cache number result g = go cache.nvm refl (waits_of config older cache g)
  where
    resumes : (nvm : Nvm) (job : Job) (o : Option pairs.Moved) → Waits older cache.memory nvm.fills → AllFresh older nvm.fills → AllFresh older (fills_of cache.nvm)
        → AllFresh (past older (workers.after_finish (option_map (resumed job result nvm) o) cache).part) (fills_of (workers.after_finish (option_map (resumed job result nvm) o) cache).cache.nvm)
    resumes nvm job None w h same = same
    resumes nvm job (Some m) w h same =
        let q = goes_on_end job m.next (record nvm { pair = m.pair }) in
        take_fresh older cache job.number nvm.fills (resumed job result nvm m) w (record { silent = result_silent job.order result (goes_on job m.next (record nvm { pair = m.pair })).part q.silent; ended = q.ended }) h

    jobs : (nvm : Nvm) (o : Option Job) → Waits older cache.memory nvm.fills → AllFresh older nvm.fills → AllFresh older (fills_of cache.nvm)
        → AllFresh (past older (workers.after_finish (takes.finish_job o result nvm) cache).part) (fills_of (workers.after_finish (takes.finish_job o result nvm) cache).cache.nvm)
    jobs nvm None w h same = same
    jobs nvm (Some job) w h same = resumes nvm job (pairs.resume job.number result nvm.pair) w h same

    go : (nvm : Option Nvm) → cache.nvm ≡ nvm → Waits older cache.memory (fills_of cache.nvm) → FreshKeeps older cache (workers.finish_on nvm number result cache)
    go None e w h = h
    go (Some nvm) e w h = jobs nvm (job_at number nvm.jobs) (subst (λ (o : Option Nvm). Waits older cache.memory (fills_of o)) e w) (subst (λ (o : Option Nvm). AllFresh older (fills_of o)) e h) h
