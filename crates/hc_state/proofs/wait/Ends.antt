-- A key's fill ends, and a key is inserted or removed, by a plan.
use Rattle.std.proofs.Common.{◌≡◌, ℕ, ◌+◌, ◌*◌, ◌≤◌, List, [], ◌∷◌, length, Option, Some, None, refl, sym, ap, ◌∙◌, subst, arith}
use Rattle.std.specs.Prelude.{option_map}
use Rattle.std.specs.Option.{option_map_or}
use Rattle.hc_memory.specs.Memory.{Memory}
use Rattle.hc_history.specs.Note.{Reply, Did, End}
use Rattle.hc_history.specs.Told.{is_log}
use Rattle.hc_machine.specs.Nvm.{Nvm, Waiter, Fill, fill_at}
use Rattle.hc_machine.specs.Cache.{Cache, Told, tells, and_then, behind}
use Rattle.hc_machine.specs.Calls.{replies_then}
use Rattle.hc_state.specs.wait.Commit.{waiters_at, without_calls}
use Rattle.hc_state.specs.wait.Courses.{AllFit, AllMayFree, all_served_as}
use Rattle.hc_state.specs.store.Commit.{fill_in, ended_as, how_many, CanServe}
use Rattle.hc_state.specs.Whole.{Whole, Costs, costs, for_notes, both, Does}
use Rattle.hc_state.specs.declared.wait.commit.Course.{Course}
use Rattle.hc_state.proofs.store.Unqueued.{does-log}
use Rattle.hc_state.proofs.Joining.{does-both}

-- more room than that wasn't taken either
pub does-at-most : (told : Told) (a b : Costs) (old new : Whole) → a.notes ≤ b.notes → a.puts ≤ b.puts → a.stones ≤ b.stones → a.fills ≤ b.fills → Does told a old new → Does told b old new
does-at-most told a b old new notes puts stones fills does = record {
  cache = does.cache;
  log = does.log;
  room = record {
    notes = omega (arith, does.room.notes, notes);
    puts = omega (arith, does.room.puts, puts);
    stones = omega (arith, does.room.stones, stones);
    fills = omega (arith, does.room.fills, fills);
  };
}

-- ---- the calls of a fill

abbrev waits_in : Option Nvm → List ℕ → Option (List Waiter)
waits_in nvm key = option_map (λ (fill : Fill). fill.waiters) (fill_in nvm key)

abbrev or_none : Option (List Waiter) → List Waiter
or_none None = []
or_none (Some waiters) = waiters

waits-are : (nvm : Option Nvm) (key : List ℕ) → or_none (waits_in nvm key) ≡ waiters_at nvm key
waits-are None key = refl
waits-are (Some nvm) key = by (fill_at key nvm.fills)
  where
    by : (f : Option Fill) → or_none (option_map (λ (fill : Fill). fill.waiters) f) ≡ option_map_or (λ (fill : Fill). fill.waiters) f []
    by None = refl
    by (Some fill) = refl

pub some-wait : (nvm : Option Nvm) (key : List ℕ) (waiters : List Waiter) → Some waiters ≡ waits_in nvm key → waiters ≡ waiters_at nvm key
some-wait nvm key waiters is = ap or_none is ∙ waits-are nvm key

pub none-waits : (nvm : Option Nvm) (key : List ℕ) → None ≡ waits_in nvm key → [] ≡ waiters_at nvm key
none-waits nvm key is = ap or_none is ∙ waits-are nvm key

pub without-memory : (nvm : Option Nvm) (key : List ℕ) (cache : Cache) → (without_calls nvm key cache).memory ≡ cache.memory
without-memory None key cache = refl
without-memory (Some nvm) key cache = refl

pub without-now : (nvm : Option Nvm) (key : List ℕ) (cache : Cache) → (without_calls nvm key cache).now ≡ cache.now
without-now None key cache = refl
without-now (Some nvm) key cache = refl

module _ {A : Type 0} (key : List ℕ) (courses : List (Course A)) (old mid : Whole) (waiters : List Waiter) (does : Does (tells [] (without_calls old.cache.nvm key old.cache)) (for_notes 0) old mid) (is : waiters ≡ waiters_at old.cache.nvm key) where
  pub taken-fit : CanServe key courses old → AllFit (is_log mid.log) key waiters courses
  taken-fit can =
      subst (λ b. AllFit b key waiters courses) (sym (does-log (tells [] (without_calls old.cache.nvm key old.cache)) (for_notes 0) old mid does))
      (subst (λ ws. AllFit (is_log old.log) key ws courses) (sym is) can.fit)

  pub taken-may-free : CanServe key courses old → AllMayFree waiters courses mid.cache.memory.charges
  taken-may-free can =
      subst (λ cs. AllMayFree waiters courses cs) (sym (ap (λ (c : Cache). c.memory.charges) does.cache ∙ ap (λ (m : Memory). m.charges) (without-memory old.cache.nvm key old.cache)))
      (subst (λ ws. AllMayFree ws courses old.cache.memory.charges) (sym is) can.may_free)

  pub taken-stones : how_many key old ≤ old.spare.stones → length waiters ≤ mid.spare.stones
  taken-stones room = omega (arith, does.room.stones, room, ap (λ (ws : List Waiter). length ws) is)

  pub taken-notes : 6 * how_many key old ≤ old.notes → 6 * length waiters ≤ mid.notes
  taken-notes room = omega (arith, does.room.notes, room, ap (λ (ws : List Waiter). length ws) is)

  pub taken-served : (standing : Option ℕ) (new : Whole) → Does (all_served_as waiters courses standing mid.cache) (costs (6 * length waiters) 0 (length waiters) 0) mid new
      → Does (ended_as key courses standing old.cache) (costs (6 * how_many key old) 0 (how_many key old) 0) old new
  taken-served standing new then =
      let n = length waiters in
      let all = does-both (tells [] (without_calls old.cache.nvm key old.cache)) (all_served_as waiters courses standing) (for_notes 0) (costs (6 * n) 0 n 0) old mid new does then in
      let less = does-at-most _ (both (for_notes 0) (costs (6 * n) 0 n 0)) (costs (6 * n) 0 n 0) old new (omega arith) (omega arith) (omega arith) (omega arith) all in
      subst (λ ws. Does (all_served_as ws courses standing (without_calls old.cache.nvm key old.cache)) (costs (6 * length ws) 0 (length ws) 0) old new) is less

pub none-served : {A : Type 0} (key : List ℕ) (courses : List (Course A)) (standing : Option ℕ) (old new : Whole) → Does (tells [] (without_calls old.cache.nvm key old.cache)) (for_notes 0) old new → [] ≡ waiters_at old.cache.nvm key
    → Does (ended_as key courses standing old.cache) (costs (6 * how_many key old) 0 (how_many key old) 0) old new
none-served key courses standing old new does is =
    subst (λ ws. Does (all_served_as ws courses standing (without_calls old.cache.nvm key old.cache)) (costs (6 * length ws) 0 (length ws) 0) old new) is does

-- ---- what can be served stays so

pub can-then : {A : Type 0} (key : List ℕ) (courses : List (Course A)) (told : Told) (cost : Costs) (old new : Whole) → Does told cost old new → waiters_at told.cache.nvm key ≡ waiters_at old.cache.nvm key → told.cache.memory.charges ≡ old.cache.memory.charges
    → CanServe key courses old → CanServe key courses new
can-then key courses told cost old new does waiters charges can =
    let log = sym (does-log told cost old new does) in
    let ws : waiters_at old.cache.nvm key ≡ waiters_at new.cache.nvm key = sym (ap (λ (c : Cache). waiters_at c.nvm key) does.cache ∙ waiters) in
    let cs : old.cache.memory.charges ≡ new.cache.memory.charges = sym (ap (λ (c : Cache). c.memory.charges) does.cache ∙ charges) in
    record {
      fit = subst (λ b. AllFit b key (waiters_at new.cache.nvm key) courses) log (subst (λ ws. AllFit (is_log old.log) key ws courses) ws can.fit);
      may_free = subst (λ cs. AllMayFree (waiters_at new.cache.nvm key) courses cs) cs (subst (λ ws. AllMayFree ws courses old.cache.memory.charges) ws can.may_free);
    }

pub many-then : (key : List ℕ) (told : Told) (cost : Costs) (old new : Whole) → Does told cost old new → waiters_at told.cache.nvm key ≡ waiters_at old.cache.nvm key → how_many key new ≡ how_many key old
many-then key told cost old new does waiters = ap (λ (c : Cache). length (waiters_at c.nvm key)) does.cache ∙ ap (λ (ws : List Waiter). length ws) waiters

-- the newest call is answered, the others are served, and its reply is handed out
pub replied : {A : Type 0} (key : List ℕ) (courses : List (Course A)) (standing : Option ℕ) (reply : Reply) (call : ℕ) (old mid then new : Whole) → call ≡ old.cache.calls
    → Does (tells (Did call reply ∷ []) old.cache) (for_notes 1) old mid
    → Does (ended_as key courses standing mid.cache) (costs (6 * how_many key mid) 0 (how_many key mid) 0) mid then
    → Does (tells (End call ∷ []) then.cache) (for_notes 1) then new
    → Does (replies_then reply (ended_as key courses standing) old.cache) (costs (6 * how_many key old + 2) 0 (how_many key old) 0) old new
replied key courses standing reply call old mid then new is did served ends =
    let n = how_many key old in
    let m = how_many key mid in
    let answered = tells (Did call reply ∷ []) old.cache in
    let same : m ≡ n = many-then key answered (for_notes 1) old mid did refl in
    let first = does-both answered (ended_as key courses standing) (for_notes 1) (costs (6 * m) 0 m 0) old mid then did served in
    let all = does-both (and_then answered (ended_as key courses standing)) (tells (End call ∷ [])) (both (for_notes 1) (costs (6 * m) 0 m 0)) (for_notes 1) old then new first ends in
    let less = does-at-most _ (both (both (for_notes 1) (costs (6 * m) 0 m 0)) (for_notes 1)) (costs (6 * n + 2) 0 n 0) old new (omega (arith, same)) (omega arith) (omega (arith, same)) (omega arith) all in
    subst (λ call. Does (behind (Did call reply ∷ []) (and_then (ended_as key courses standing old.cache) (tells (End call ∷ [])))) (costs (6 * n + 2) 0 n 0) old new) is less
