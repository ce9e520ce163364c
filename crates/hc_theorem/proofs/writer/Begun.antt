-- A key that waits is none that the last note begins a call of.
use Rattle.std.proofs.Common.{◌≡◌, ℕ, zero, suc, ◌+◌, ◌<◌, ◌*◌, ◌==◌, nat_lt, Bool, true, false, not, ◌&&◌, List, [], ◌∷◌, length, Option, Some, None, refl, sym, ap, arith, ◌∙◌, subst}
use Rattle.std.specs.Prelude.{if◌then◌else◌, option_map}
use Rattle.hc_types.specs.Tally.{count}
use Rattle.hc_types.specs.Places.{is_small_by}
use Rattle.hc_types.specs.declared.config.FlashConfig.{FlashConfig}
use Rattle.hc_types.specs.FlashEntry.{FlashEntry}
use Rattle.hc_engines.specs.Engine.{Pages}
use Rattle.hc_engines.proofs.large.Lists.{same_num}
use Rattle.hc_engines.specs.large.Region.{region_len}
use Rattle.hc_engines.specs.large.Entries.{entry_len}
use Rattle.hc_memory.specs.Memory.{Memory}
use Rattle.hc_memory.proofs.Keyed.{same_bytes}
use Rattle.hc_history.specs.Note.{Note, Begin, Op}
use Rattle.hc_history.specs.Books.{Call, open_calls, open_call}
use Rattle.hc_history.specs.Regions.{key_of, begins}
use Rattle.hc_machine.specs.Nvm.{Nvm, Wish, ToFind, ToAdd, Waiter, Fill, put_at, is_put_of}
use Rattle.hc_machine.specs.Leaving.{is_too_large}
use Rattle.hc_machine.specs.Cache.{Owed}
use Rattle.hc_invariant.specs.Tells.{CallsTell, op_of, asked_by, asked_in}
use Rattle.hc_invariant.specs.Jobs.{WishHolds, AllWish, AllFill}
use Rattle.hc_invariant.specs.Standing.{first_of}
use Rattle.hc_proof.proofs.frames.Lists.{found-counts}

-- ---- what a call that waits asked

wish_key : (memory : Memory) (key : List ℕ) (wish : Wish) → WishHolds memory key wish → key_of (op_of key wish) ≡ key
wish_key memory key ToFind h = refl
wish_key memory key (ToAdd handle) h = h.0

asked_key : (memory : Memory) (key : List ℕ) (n : ℕ) (waiters : List Waiter) (op : Op) → AllWish memory key waiters → asked_by n key waiters ≡ Some op → key_of op ≡ key
asked_key memory key n [] op h e = absurd cc
asked_key memory key n (waiter ∷ waiters) op h e = step (waiter.call == n) (asked_key memory key n waiters op h.1) e
  where
    step : (b : Bool) → (asked_by n key waiters ≡ Some op → key_of op ≡ key) → (if b then Some (op_of key waiter.wish) else asked_by n key waiters) ≡ Some op → key_of op ≡ key
    step true more e = let same : op_of key waiter.wish ≡ op = cc in ap key_of (sym same) ∙ wish_key memory key waiter.wish h.0
    step false more e = more e

asked_unqueued : (pages : Pages) (memory : Memory) (nvm : Nvm) (n : ℕ) (fills : List Fill) (op : Op) → AllFill pages memory nvm fills → asked_in n fills ≡ Some op → put_at (key_of op) nvm.queue ≡ None
asked_unqueued pages memory nvm n [] op h e = absurd cc
asked_unqueued pages memory nvm n (fill ∷ fills) op h e = step (asked_by n fill.key fill.waiters) refl (asked_unqueued pages memory nvm n fills op h.1) e
  where
    step : (o : Option Op) → asked_by n fill.key fill.waiters ≡ o → (asked_in n fills ≡ Some op → put_at (key_of op) nvm.queue ≡ None) → first_of o (asked_in n fills) ≡ Some op → put_at (key_of op) nvm.queue ≡ None
    step (Some x) a more e =
        let same : x ≡ op = cc in
        let key : key_of op ≡ fill.key = asked_key memory fill.key n fill.waiters op h.0.wishes (a ∙ ap Some same) in
        subst (λ (k : List ℕ). put_at k nvm.queue ≡ None) (sym key) h.0.unqueued
    step None a more e = more e

first_call : (call client : ℕ) (op : Op) (calls : List Call) (b : Bool) → b ≡ true → option_map (λ (c : Call). c.op) (if b then Some (record { number = call; client = client; op = op }) else open_call call calls) ≡ Some op
first_call call client op calls b e = rw e refl

-- ---- the last note begins no call of a key that waits

begun_key : (older : List Note) (key : List ℕ) (pages : Pages) (memory : Memory) (nvm : Nvm) (calls : ℕ) (all : List Owed) → CallsTell older calls all nvm.fills → AllFill pages memory nvm nvm.fills → begins older key ≡ true → put_at key nvm.queue ≡ None
begun_key (Begin call client op ∷ older) key pages memory nvm calls all c fills h =
    let asked : asked_in call nvm.fills ≡ Some op = sym (c.open_ones call) ∙ first_call call client op (open_calls older) (call == call) (same_num call) in
    let same : key_of op ≡ key = same_bytes (key_of op) key h in
    subst (λ (k : List ℕ). put_at k nvm.queue ≡ None) same (asked_unqueued pages memory nvm call nvm.fills op fills asked)
begun_key older key pages memory nvm calls all c fills h = absurd cc

pub not-begun : (older : List Note) (key : List ℕ) (put : FlashEntry) (pages : Pages) (memory : Memory) (nvm : Nvm) (calls : ℕ) (all : List Owed) → CallsTell older calls all nvm.fills → AllFill pages memory nvm nvm.fills → put_at key nvm.queue ≡ Some put → begins older key ≡ false
not-begun older key put pages memory nvm calls all c fills here = go (begins older key) refl
  where
    go : (b : Bool) → begins older key ≡ b → b ≡ false
    go true t = let none = begun_key older key pages memory nvm calls all c fills t in absurd (cc (none, here))
    go false t = refl

-- ---- a large put that waits fits a region, so regions have pages

some_pages : (n page key value : ℕ) → nat_lt (n * page) (14 + key + value) ≡ false → 0 < n
some_pages zero page key value h = absurd (grind (arith, h))
some_pages (suc n) page key value h = omega arith

pub large-fits : (flash : FlashConfig) (queue : List FlashEntry) (put : FlashEntry) → count (is_too_large flash) queue ≡ 0 → put_at put.key queue ≡ Some put → is_small_by flash put.key (length put.value) ≡ false → 0 < flash.region_pages
large-fits flash queue put none here large = go (is_too_large flash put) refl
  where
    go : (b : Bool) → is_too_large flash put ≡ b → 0 < flash.region_pages
    go true t = absurd (omega (arith, none, found-counts (is_put_of put.key) (is_too_large flash) queue put here t))
    go false t = some_pages flash.region_pages flash.page (length put.key) (length put.value) (by (is_small_by flash put.key (length put.value)) large t)
      where
        by : (s : Bool) → s ≡ false → (not s && nat_lt (region_len flash) (entry_len (length put.key) (length put.value))) ≡ false → nat_lt (region_len flash) (entry_len (length put.key) (length put.value)) ≡ false
        by true e h = absurd cc
        by false e h = h
