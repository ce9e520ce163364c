-- Items leave one by one: what each leaves to those behind it.
use Rattle.std.proofs.Common.{◌≡◌, ℕ, ◌+◌, ◌*◌, ◌≤◌, Bool, true, false, List, [], ◌∷◌, ◌++◌, Option, Some, None, length, map, drop, refl, sym, ap, ◌∙◌, arith, subst}
use Rattle.std.specs.Prelude.{is_some, slice_get, option_to_list, MatchOption}
use mathlib.Core.Bool.{cond}
use Rattle.hc_memory.specs.Item.{Item}
use Rattle.hc_memory.specs.Memory.{Memory}
use Rattle.hc_history.specs.Note.{Note, Freed, Queued}
use Rattle.hc_history.specs.Told.{Heard, Nothing, Log, Counts, Sums, told_more, where_kept}
use Rattle.hc_history.proofs.Telling.{told-twice, told-nothing}
use Rattle.hc_machine.specs.Nvm.{Nvm, put_at}
use Rattle.hc_machine.specs.Cache.{Cache, Told, tells, with_memory}
use Rattle.hc_machine.specs.Evicting.{leaves, leaves_for, all_leave}
use Rattle.hc_machine.specs.Calls.{queue_of}
use Rattle.hc_state.specs.Whole.{Whole, HasRoom, Does, costs, for_notes}
use Rattle.hc_state.specs.allocate.Evict.{leave_of, AreFor, keys_of, NoneWaits, one_leaves}
use Rattle.hc_state.proofs.Joining.{does-both}
use Rattle.hc_state.specs.declared.allocate.evict.Leave.{Leave}

-- the same, in this memory
abbrev pub in_memory : Memory → Told → Told
in_memory memory told = record { cache = with_memory memory told.cache; part = told.part }

-- what is told doesn't depend on the memory, and neither does what waits for flash then

leaves_for-memory : (memory : Memory) (nvm : Option Nvm) (pool want : ℕ) (item : Item) (cache : Cache) → leaves_for nvm pool want item (with_memory memory cache) ≡ in_memory memory (leaves_for nvm pool want item cache)
leaves_for-memory memory None pool want item cache = refl
leaves_for-memory memory (Some nvm) pool want item cache = refl

leaves_by : (memory : Memory) (pool want : ℕ) (item : Item) (cache : Cache) (clean : Bool) → cond clean (record { cache = with_memory memory cache; part = [] }) (leaves_for cache.nvm pool want item (with_memory memory cache)) ≡ in_memory memory (cond clean (record { cache = cache; part = [] }) (leaves_for cache.nvm pool want item cache))
leaves_by memory pool want item cache true = refl
leaves_by memory pool want item cache false = leaves_for-memory memory cache.nvm pool want item cache

pub leaves-memory : (memory : Memory) (pool want : ℕ) (item : Item) (cache : Cache) → leaves pool want item (with_memory memory cache) ≡ in_memory memory (leaves pool want item cache)
leaves-memory memory pool want item cache = leaves_by memory pool want item cache item.clean

pub all_leave-memory : (memory : Memory) (pool want : ℕ) (items : List Item) (cache : Cache) → all_leave pool want items (with_memory memory cache) ≡ in_memory memory (all_leave pool want items cache)
all_leave-memory memory pool want [] cache = refl
all_leave-memory memory pool want (item ∷ items) cache =
    let one = leaves-memory memory pool want item cache in
    let rest = all_leave-memory memory pool want items (leaves pool want item cache).cache in
    (λ i. record { cache = (all_leave pool want items (one i).cache).cache; part = Freed item.number ∷ (one i).part ++ (all_leave pool want items (one i).cache).part })
    ∙ (λ i. record { cache = (rest i).cache; part = Freed item.number ∷ (leaves pool want item cache).part ++ (rest i).part })

-- and the memory stays
pub all_leave-stays : (pool want : ℕ) (items : List Item) (cache : Cache) → (all_leave pool want items cache).cache.memory ≡ cache.memory
all_leave-stays pool want items cache = ap (λ (told : Told). told.cache.memory) (all_leave-memory cache.memory pool want items cache)

-- ---- what the next item finds

-- a note is made, or isn't, as before
pub kept-told : {X : Type 0} (heard : Heard) (part : List Note) (thing : X) → where_kept (told_more heard part) thing ≡ where_kept heard thing
kept-told Nothing part thing = refl
kept-told (Log log) part thing = refl
kept-told (Counts counts losses) part thing = refl
kept-told (Sums counts losses) part thing = refl

flash_by : (nvm : Option Nvm) (pool want : ℕ) (item : Item) (cache : Cache) → cache.nvm ≡ nvm → is_some (leaves_for nvm pool want item cache).cache.nvm ≡ is_some nvm
flash_by None pool want item cache is = ap is_some is
flash_by (Some nvm) pool want item cache is = refl

flash_if : (pool want : ℕ) (item : Item) (cache : Cache) (clean : Bool) → is_some (cond clean (record { cache = cache; part = [] }) (leaves_for cache.nvm pool want item cache)).cache.nvm ≡ is_some cache.nvm
flash_if pool want item cache true = refl
flash_if pool want item cache false = flash_by cache.nvm pool want item cache refl

-- there is flash exactly where there was
pub leaves-flash : (pool want : ℕ) (item : Item) (cache : Cache) → is_some (one_leaves pool want item cache).cache.nvm ≡ is_some cache.nvm
leaves-flash pool want item cache = flash_if pool want item cache item.clean

leave-same : {A : Type 0} (log new : Heard) (part : List Note) → new ≡ told_more log part → (key : List ℕ) → leave_of {A = A} new key ≡ leave_of log key
leave-same log new part told key = λ i. record { copy = key; note = (ap (λ h. where_kept h (Queued key)) told ∙ kept-told log part (Queued key)) i }

-- the first of the items has what it needs
pub first-leave : {A : Type 0} (whole : Whole) (item : Item) (items : List Item) (all rest : List (Leave A)) (len left : ℕ) (leave : Option (Leave A)) → length all ≡ len → MatchOption leave ((len ≡ 0) × (left ≡ 0)) (λ x. (all ≡ x ∷ rest) × (left + 1 ≡ len)) → AreFor whole (keys_of (item ∷ items)) all → is_some whole.cache.nvm ≡ true → leave ≡ Some (leave_of whole.log item.key)
first-leave whole item items all rest len left None counted step are flash = absurd (omega (arith, counted, step.0, ap length (are flash)))
first-leave whole item items all rest len left (Some leave) counted step are flash = ap (λ xs. slice_get xs 0) (sym step.0 ∙ are flash)

-- and so have the others, once it left
pub rest-leave : {A : Type 0} (old new : Whole) (item : Item) (items : List Item) (all rest : List (Leave A)) (len left : ℕ) (leave : Option (Leave A)) (part : List Note) → length all ≡ len → MatchOption leave ((len ≡ 0) × (left ≡ 0)) (λ x. (all ≡ x ∷ rest) × (left + 1 ≡ len)) → AreFor old (keys_of (item ∷ items)) all
    → is_some new.cache.nvm ≡ is_some old.cache.nvm → new.log ≡ told_more old.log part → AreFor new (keys_of items) rest
rest-leave old new item items all rest len left None part counted step are same told flash = absurd (omega (arith, counted, step.0, ap length (are (sym same ∙ flash))))
rest-leave old new item items all rest len left (Some leave) part counted step are same told flash =
    ap (drop 1) (sym step.0 ∙ are (sym same ∙ flash))
    ∙ (λ i. map (λ key. sym (leave-same old.log new.log part told key) i) (keys_of items))

-- they are as many as the iterator says
pub rest-counted : {X : Type 0} (all rest : List X) (len left : ℕ) (first : Option X) → all ≡ option_to_list first ++ rest → left + length (option_to_list first) ≡ len → length all ≡ len → length rest ≡ left
rest-counted all rest len left None is fewer counted = omega (arith, ap length is, fewer, counted)
rest-counted all rest len left (Some first) is fewer counted = omega (arith, ap length is, fewer, counted)

-- ---- so many left, and so many are to leave

-- what these items leave is what all of them do that were there at the start
pub record Left (pool want : ℕ) (all items : List Item) (start now : Whole) : Type 0 where
  pub cache : (all_leave pool want items now.cache).cache ≡ (all_leave pool want all start.cache).cache
  pub log : told_more now.log (all_leave pool want items now.cache).part ≡ told_more start.log (all_leave pool want all start.cache).part
  pub notes : start.notes + 2 * length items ≤ now.notes + 2 * length all
  pub puts : start.spare.puts + length items ≤ now.spare.puts + length all
  pub stones : start.spare.stones ≤ now.spare.stones
  pub fills : start.spare.fills ≤ now.spare.fills
  pub absent : NoneWaits pool want items now.cache

pub none-left : (pool want : ℕ) (all : List Item) (start : Whole) → NoneWaits pool want all start.cache → Left pool want all all start start
none-left pool want all start absent = record {
  cache = refl;
  log = refl;
  notes = omega arith;
  puts = omega arith;
  stones = omega arith;
  fills = omega arith;
  absent = absent;
}

pub one-left : (pool want : ℕ) (all items : List Item) (item : Item) (start mid new : Whole) → Left pool want all (item ∷ items) start mid → Does (one_leaves pool want item mid.cache) (costs 2 1 0 0) mid new → Left pool want all items start new
one-left pool want all items item start mid new was does =
    let one = one_leaves pool want item mid.cache in
    record {
      cache = ap (λ (c : Cache). (all_leave pool want items c).cache) does.cache ∙ was.cache;
      log = (λ i. told_more (does.log i) (all_leave pool want items (does.cache i)).part) ∙ told-twice mid.log one.part (all_leave pool want items one.cache).part ∙ was.log;
      notes = omega (arith, was.notes, does.room.notes);
      puts = omega (arith, was.puts, does.room.puts);
      stones = omega (arith, was.stones, does.room.stones);
      fills = omega (arith, was.fills, does.room.fills);
      absent = λ gone left x is. ap (λ (c : Cache). put_at x.key (queue_of (all_leave pool want gone c).cache.nvm)) does.cache ∙ was.absent (item ∷ gone) left x (ap (λ xs. item ∷ xs) is);
    }

-- there is room for the next
pub room-left : (pool want : ℕ) (all items : List Item) (item : Item) (start now : Whole) → Left pool want all (item ∷ items) start now → HasRoom (costs (2 * length all) (length all) 0 0) start → HasRoom (costs 2 1 0 0) now
room-left pool want all items item start now left room = record {
  notes = omega (arith, left.notes, room.notes);
  puts = omega (arith, left.puts, room.puts);
  stones = omega arith;
  fills = omega arith;
}

pub all-left : (pool want : ℕ) (all items : List Item) (start now : Whole) → items ≡ [] → Left pool want all items start now → Does (all_leave pool want all start.cache) (costs (2 * length all) (length all) 0 0) start now
all-left pool want all items start now none left = record {
  cache = ap (λ xs. (all_leave pool want xs now.cache).cache) (sym none) ∙ left.cache;
  log = sym (told-nothing now.log) ∙ ap (λ xs. told_more now.log (all_leave pool want xs now.cache).part) (sym none) ∙ left.log;
  room = record {
    notes = omega (arith, left.notes, ap length none);
    puts = omega (arith, left.puts, ap length none);
    stones = omega (arith, left.stones);
    fills = omega (arith, left.fills);
  };
}

-- an item with no copy on flash leaves, once its charge is free
pub unclean-left : (pool want : ℕ) (item : Item) (old mid new : Whole) → item.clean ≡ false → Does (tells (Freed item.number ∷ []) old.cache) (for_notes 1) old mid → Does (leaves_for mid.cache.nvm pool want item mid.cache) (costs 1 1 0 0) mid new → Does (one_leaves pool want item old.cache) (costs 2 1 0 0) old new
unclean-left pool want item old mid new unclean first second =
    does-both (tells (Freed item.number ∷ []) old.cache) (leaves pool want item) (for_notes 1) (costs 1 1 0 0) old mid new first
    (subst (λ b. Does (cond b (tells [] mid.cache) (leaves_for mid.cache.nvm pool want item mid.cache)) (costs 1 1 0 0) mid new) (sym unclean) second)
