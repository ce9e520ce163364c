-- The loss of a kept hash, at each key.
use Rattle.std.proofs.Common.{◌≡◌, ℕ, ◌==◌, Bool, true, false, List, [], ◌∷◌, length, Option, Some, None, refl, sym, arith, ◌∙◌}
use Rattle.std.specs.Prelude.{if◌then◌else◌, is_some}
use Rattle.std.specs.Str.{bytes_eq}
use Rattle.hc_types.specs.Loss as loss
use Rattle.hc_types.specs.Loss.{Scope}
use Rattle.hc_types.specs.Places.{kept_of, bucket_at, is_small_by}
use Rattle.hc_types.specs.declared.config.FlashConfig.{FlashConfig}
use Rattle.hc_types.specs.FlashEntry.{FlashEntry}
use Rattle.hc_engines.specs.Engine.{Pages, Op, Put, Get, Delete, Flush, Reclaim}
use Rattle.hc_engines.specs.small.BigHash as bighash
use Rattle.hc_engines.specs.small.BigHash.{BigHash, word_at}
use Rattle.hc_engines.specs.small.Held as small
use Rattle.hc_engines.specs.small.Held.{StateFits, JobsFit}
use Rattle.hc_engines.proofs.Keys.{same-true}
use Rattle.hc_engines.proofs.small.Under.{under-key}
use Rattle.hc_engines.proofs.small.Losses.{own_under}
use Rattle.hc_engines.proofs.small.Holding.{bucket_has}
use Rattle.hc_memory.specs.Item.{Item}
use Rattle.hc_memory.specs.Pool.{Pool}
use Rattle.hc_memory.specs.Memory.{linked_at}
use Rattle.hc_memory.proofs.Keyed.{same_bytes, item_at-is}
use Rattle.hc_machine.specs.items.Items.{items_of}
use Rattle.hc_machine.proofs.items.Flat.{linked-flat}
use Rattle.hc_history.specs.Books.{Entry, covers}
use Rattle.hc_invariant.specs.Standing.{map_of, map_of_item, Placed, put_in, first_of, written_by}
use Rattle.hc_invariant.proofs.Placing.{map_lost, unclean, placed_unindexed}
use Rattle.hc_invariant.proofs.Lookups.{unmarked_if}
use Rattle.hc_invariant.proofs.Losses.{covers_item}

-- ---- at one key

-- the hash is this key's or not (here); the loss covers the key or not (big)
pub hash_lost : (i : Option Item) (q w s l : Option FlashEntry) (m : Option Entry) (b big here : Bool) → Placed i q w b s l m
    → (here ≡ false → big ≡ false) → (b ≡ false → is_some s ≡ true → big ≡ false) → (b ≡ false → is_some w ≡ true → big ≡ false) → (here ≡ true → is_some l ≡ true → big ≡ true)
    → Placed (if big then unclean i else i) q w b s (if here then None else l) (if big then map_lost i q m else m)
hash_lost i q w s l m b big true h fo fs fw fl = placed_unindexed i q w s l m b big h fs fw (fl refl)
hash_lost i q w s l m b big false h fo fs fw fl = rw (fo refl) h

-- what the map has of a key that is on flash
pub map_of_large : (i : Option Item) (q w s : Option FlashEntry) (e : FlashEntry) (m : Option Entry) (b : Bool) → Placed i q w b s (Some e) m → m ≡ Some (map_of e)
map_of_large i q w s e m b h = grind arith

pub map_of_small : (i : Option Item) (q w l : Option FlashEntry) (e : FlashEntry) (m : Option Entry) → Placed i q w false (Some e) l m → m ≡ Some (map_of e)
map_of_small i q w l e m h = grind arith

pub map_of_written : (i : Option Item) (q s l : Option FlashEntry) (e : FlashEntry) (m : Option Entry) → Placed i q (Some e) false s l m → m ≡ Some (map_of e)
map_of_written i q s l e m h = grind arith

pub uncovered : (flash : FlashConfig) (hash : ℕ) (but : Option (List ℕ)) (key : List ℕ) (e : FlashEntry) (m : Option Entry) → m ≡ Some (map_of e) → is_small_by flash key (length e.value) ≡ true → covers (Some flash) (loss.Hash hash but) key m ≡ false
uncovered flash hash but key e m me s = rw (me, s) refl

pub covered : (flash : FlashConfig) (hash : ℕ) (key : List ℕ) (e : FlashEntry) (m : Option Entry) → m ≡ Some (map_of e) → is_small_by flash key (length e.value) ≡ false → (kept_of flash.bits key == hash) ≡ true → covers (Some flash) (loss.Hash hash None) key m ≡ true
covered flash hash key e m me s h = rw (me, s, h) refl

-- ---- what is small

-- an entry that the small engine holds is small, and has the key
pub held_small : (s : BigHash) (pages : Pages) (key : List ℕ) (e : FlashEntry) → StateFits s pages → small.held s pages key ≡ Some e → is_small_by s.flash key (length e.value) ≡ true
held_small s pages key e fits h =
    let bucket = bucket_at s.flash key in
    let es = small.bucket_entries s pages bucket in
    let own = own_under s.flash bucket key es e (bucket_has s.flash bucket (word_at s bucket) (pages bucket) fits.limits (fits.pages_fit bucket)).own h in
    let same : e.key ≡ key = same-true e.key key (under-key key es e h) in
    rw (← same) own.0

put_small : (flash : FlashConfig) (key : List ℕ) (op : Op) (e : FlashEntry) → put_in key op ≡ Some e → bighash.is_ours flash op ≡ true → is_small_by flash key (length e.value) ≡ true
put_small flash key (Put x) e p o = go (bytes_eq x.key key) refl p
  where
    go : (t : Bool) → bytes_eq x.key key ≡ t → (if t then Some x else None) ≡ Some e → is_small_by flash key (length e.value) ≡ true
    go true t p = let same : x.key ≡ key = same_bytes x.key key t in let one : x ≡ e = cc in rw (← one) (rw (← same) o)
    go false t p = absurd (cc)
put_small flash key (Get k) e p o = absurd (cc)
put_small flash key (Delete k) e p o = absurd (cc)
put_small flash key Flush e p o = absurd (cc)
put_small flash key Reclaim e p o = absurd (cc)

jobs_small : (flash : FlashConfig) (words : ℕ → Option ℕ) (pages : Pages) (key : List ℕ) (e : FlashEntry) (jobs : List bighash.Job) → JobsFit flash words pages jobs → written_by key jobs ≡ Some e → is_small_by flash key (length e.value) ≡ true
jobs_small flash words pages key e [] fit h = absurd (cc)
jobs_small flash words pages key e (job ∷ jobs) fit h = go (put_in key job.op) refl h (λ h. jobs_small flash words pages key e jobs fit.3 h)
  where
    go : (o : Option FlashEntry) → put_in key job.op ≡ o → first_of o (written_by key jobs) ≡ Some e → (written_by key jobs ≡ Some e → is_small_by flash key (length e.value) ≡ true) → is_small_by flash key (length e.value) ≡ true
    go (Some x) p h more = put_small flash key job.op e (p ∙ h) fit.0.1
    go None p h more = more h

-- so is one that it writes
pub written_small : (s : BigHash) (pages : Pages) (key : List ℕ) (e : FlashEntry) → StateFits s pages → written_by key s.jobs ≡ Some e → is_small_by s.flash key (length e.value) ≡ true
written_small s pages key e fits h = jobs_small s.flash (word_at s) pages key e s.jobs fits.jobs_fit h

-- ---- the item

pub linked_key : (key : List ℕ) (pools : List Pool) (x : Item) → linked_at key pools ≡ Some x → x.key ≡ key
linked_key key pools x h = sym (same_bytes key x.key (item_at-is key (items_of pools) x (sym (linked-flat key pools) ∙ h)))

-- a key's item loses its mark where the loss covers what the map has of it
pub unmarked_is : (flash : Option FlashConfig) (scope : Scope) (key : List ℕ) (i : Option Item) (m : Option Entry) → ((x : Item) → i ≡ Some x → m ≡ Some (map_of_item x)) → ((x : Item) → i ≡ Some x → x.key ≡ key)
    → unmarked_if (covers_item flash scope) i ≡ (if covers flash scope key m then unclean i else i)
unmarked_is flash scope key None m map same = none (covers flash scope key m)
  where
    none : (t : Bool) → ◌≡◌ {A = Option Item} None (if t then None else None)
    none true = refl
    none false = refl
unmarked_is flash scope key (Some x) m map same = rw (map x refl, ← same x refl) (some (loss.covers flash scope x.key (length x.value)))
  where
    some : (t : Bool) → Some (if t then record x { clean = false } else x) ≡ (if t then Some (record x { clean = false }) else Some x)
    some true = refl
    some false = refl
