-- What a fill brings is of a key that a call waits for.
use Rattle.std.proofs.Common.{◌≡◌, ℕ, ◌+◌, ◌≤◌, ◌==◌, Bool, true, false, List, [], ◌∷◌, ◌++◌, Option, Some, None, refl, ap, ◌∙◌, arith, cond}
use Rattle.std.specs.Prelude.{if◌then◌else◌, is_some, option_map}
use Rattle.std.specs.Str.{bytes_eq}
use Rattle.hc_types.specs.Tally.{count}
use Rattle.hc_types.proofs.Tallies.{tally-append}
use Rattle.hc_types.specs.FlashEntry.{FlashEntry}
use Rattle.hc_memory.specs.Memory.{Memory}
use Rattle.hc_memory.proofs.Keyed.{same_bytes}
use Rattle.hc_machine.proofs.items.Items.{bytes_eq-refl}
use Rattle.hc_history.specs.Note.{Note, Op}
use Rattle.hc_history.specs.Books.{Call, open_call, open_calls}
use Rattle.hc_history.specs.Regions.{key_of}
use Rattle.hc_machine.specs.Nvm.{Waiter, Wish, ToFind, ToAdd, Fill, is_fill_of}
use Rattle.hc_machine.specs.Takes.{Filled}
use Rattle.hc_machine.specs.Cache.{Owed}
use Rattle.hc_invariant.specs.Tells.{CallsTell, waiters_of, op_of, asked_by, asked_in, is_call}
use Rattle.hc_invariant.specs.Jobs.{WishHolds, AllWish, AllWishes}
use Rattle.hc_invariant.specs.Fresh.{IsFresh, AllFresh}
use Rattle.hc_invariant.specs.Standing.{first_of}
use Rattle.hc_proof.specs.structure.Takes.{EntryIsOf, FilledSo}
use Rattle.hc_proof.proofs.calls.CallBooks.{asked_by-none}
use Rattle.hc_proof.proofs.frames.ByNumber.{same_number}
use Rattle.hc_proof.proofs.frames.Lists.{found-counts}
use Rattle.hc_follows.specs.Charging.{is_waited_for}
use Rattle.hc_theorem.proofs.clients.Claims.{counted_any, asked_counts}
use Rattle.hc_theorem.proofs.charges.Pieces.{Wanted}

-- what is brought is wanted
abbrev pub WantedIf : List Note → Option Filled → Type 0
WantedIf older None = Unit {0}
WantedIf older (Some filled) = Wanted older filled.entry

-- a call waits for each key that has a fill
abbrev pub Waited : List Note → List Fill → Type 0
Waited older fills = (key : List ℕ) → 1 ≤ count (is_fill_of key) fills → is_waited_for older key ≡ true

-- ---- in the fills

-- a call that waits, for this key
record WaitsIn (key : List ℕ) (asked : ℕ → Option Op) : Type 0 where
  number : ℕ
  op : Op
  asks : asked number ≡ Some op
  its : key_of op ≡ key

wish_key : (memory : Memory) (key : List ℕ) (wish : Wish) → WishHolds memory key wish → key_of (op_of key wish) ≡ key
wish_key memory key ToFind h = refl
wish_key memory key (ToAdd handle) h = h.0

module _ (older : List Note) (memory : Memory) (key : List ℕ) where
  one_waits : (fills : List Fill) → ((n : ℕ) → count (is_call n) (waiters_of fills) ≤ 1) → AllFresh older fills → AllWishes memory fills → 1 ≤ count (is_fill_of key) fills → WaitsIn key (λ n. asked_in n fills)
  one_waits [] one fresh wishes some = absurd (omega (arith, some))
  one_waits (f ∷ fills) one fresh wishes some = go (is_fill_of key f) refl some (one_waits fills (λ n. omega (arith, one n, both n)) fresh.1 wishes.1)
    where
      both : (n : ℕ) → count (is_call n) (f.waiters ++ waiters_of fills) ≡ count (is_call n) f.waiters + count (is_call n) (waiters_of fills)
      both n = tally-append (λ (w : Waiter). cond (is_call n w) 1 0) f.waiters (waiters_of fills)

      first : (waiters : List Waiter) → IsFresh older f.key waiters → AllWish memory f.key waiters → is_fill_of key f ≡ true → WaitsIn key (λ n. first_of (asked_by n f.key waiters) (asked_in n fills))
      first [] fresh wishes e = absurd fresh
      first (w ∷ ws) fresh wishes e = record {
        number = w.call;
        op = op_of f.key w.wish;
        asks = ap (λ b. first_of (if b then Some (op_of f.key w.wish) else asked_by w.call f.key ws) (asked_in w.call fills)) (same_number w.call);
        its = wish_key memory f.key w.wish wishes.0 ∙ same_bytes f.key key e;
      }

      absent : (n : ℕ) (op : Op) → asked_in n fills ≡ Some op → asked_by n f.key f.waiters ≡ None
      absent n op e = asked_by-none n f.key f.waiters (omega (arith, one n, both n, asked_counts n fills (ap is_some e)))

      go : (t : Bool) → is_fill_of key f ≡ t → 1 ≤ cond t 1 0 + count (is_fill_of key) fills → (1 ≤ count (is_fill_of key) fills → WaitsIn key (λ n. asked_in n fills)) → WaitsIn key (λ n. first_of (asked_by n f.key f.waiters) (asked_in n fills))
      go true e some rest = first f.waiters fresh.0 wishes.0 e
      go false e some rest =
          let r = rest (omega (arith, some)) in
          record { number = r.number; op = r.op; asks = ap (λ (o : Option Op). first_of o (asked_in r.number fills)) (absent r.number r.op r.asks) ∙ r.asks; its = r.its }

-- ---- by the books

pub fills_waited : (older : List Note) (memory : Memory) (calls : ℕ) (all : List Owed) (fills : List Fill) → CallsTell older calls all fills → AllFresh older fills → AllWishes memory fills → Waited older fills
fills_waited older memory calls all fills t fresh wishes key some = go (open_call w.number (open_calls older)) refl (t.open_ones w.number ∙ w.asks)
  where
    w : WaitsIn key (λ n. asked_in n fills)
    w = one_waits older memory key fills t.one_waiter fresh wishes some

    go : (o : Option Call) → open_call w.number (open_calls older) ≡ o → option_map (λ (call : Call). call.op) o ≡ Some w.op → is_waited_for older key ≡ true
    go None e h = absurd cc
    go (Some call) e h =
        let same : call.op ≡ w.op = cc in
        let its : bytes_eq (key_of call.op) key ≡ true = ap (λ (op : Op). bytes_eq (key_of op) key) same ∙ ap (λ (k : List ℕ). bytes_eq k key) w.its ∙ bytes_eq-refl key in
        counted_any (λ (c : Call). bytes_eq (key_of c.op) key) (open_calls older) (found-counts (λ (c : Call). c.number == w.number) (λ (c : Call). bytes_eq (key_of c.op) key) (open_calls older) call e its)

-- and what ends one of them brings its key
pub filled_wanted : (older : List Note) (old new : List Fill) (filled : Option Filled) → Waited older old → FilledSo old new filled → WantedIf older filled
filled_wanted older old new None waited h = tt
filled_wanted older old new (Some filled) waited h = go filled.entry h.1.own
  where
    key : List ℕ
    key = h.0

    there : 1 ≤ count (is_fill_of key) old
    there = let own : ◌≡◌ {A = ℕ} (cond (bytes_eq key key) 1 0) 1 = ap {B = ℕ} (λ b. cond b 1 0) (bytes_eq-refl key) in omega (arith, h.1.fills key, own)

    go : (entry : Option FlashEntry) → EntryIsOf key entry → Wanted older entry
    go None own = tt
    go (Some entry) own = ap (is_waited_for older) own ∙ waited key there
