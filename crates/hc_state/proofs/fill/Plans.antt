-- What is made ready before a fill ends: what its entry needs to be linked, and what linking it leaves.
use Rattle.std.proofs.Common.{◌≡◌, ℕ, ◌+◌, ◌*◌, ◌≤◌, ◌<◌, true, false, List, length, map, None, is_some, sym, ap, ◌∙◌, subst, arith}
use Rattle.std.specs.Prelude.{Result, Ok, Err, IfOk, OnOk}
use Rattle.std.proofs.lemmas.List.{length-map}
use Rattle.hc_types.specs.Charge.{charge_of}
use Rattle.hc_types.specs.FlashEntry.{FlashEntry}
use Rattle.hc_memory.specs.Item.{Item}
use Rattle.hc_memory.specs.Memory.{Memory, linked_at, victims_of, oldest_keys, is_hopeless}
use Rattle.hc_history.specs.Told.{Heard, where_kept}
use Rattle.hc_machine.specs.Cache.{Cache, with_memory}
use Rattle.hc_machine.specs.Workers.{can_link}
use Rattle.hc_nvm.specs.Endings.{Ending}
use Rattle.hc_state.specs.fill.Bring.{Arrives, entry_coming, want_coming}
use Rattle.hc_state.specs.fill.Plan.{losses_by, HasRoomToEnd, IsComing, IsItem, IsLinked}
use Rattle.hc_state.specs.fill.Commit.{most_told_in}
use Rattle.hc_state.specs.fill.Link.{brought_in, marked_by, all_marked_by}
use Rattle.hc_state.specs.allocate.Evict.{leave_of, AreFor, keys_of}
use Rattle.hc_state.specs.Whole.{Whole, Stays}
use Rattle.hc_state.specs.declared.fill.bring.Coming.{Coming}
use Rattle.hc_state.specs.declared.fill.bring.Arrived.{Arrived}
use Rattle.hc_state.proofs.allocate.Charges.{oldest-go}
use Rattle.hc_state.proofs.fill.Links.{MayLink, can-room}
use Rattle.hc_state.proofs.fill.Filled.{want_of}

-- ---- the pools have what they need to link it

pub record Comes {A : Type 0} (memory : Memory) (coming : Coming A) : Type 0 where
  pub pool : coming.pool < length memory.pools
  pub size : length coming.value ≤ 1048576
  pub count : coming.count ≡ length (victims_of memory coming.pool (want_coming coming))
  pub room : is_hopeless memory coming.pool (want_coming coming) ≡ false
  pub absent : linked_at coming.key memory.pools ≡ None

comes_at : {A : Type 0} (entry : FlashEntry) (coming : Coming A) (memory : Memory) → entry_coming coming ≡ entry → MayLink memory entry → coming.count ≡ length (victims_of memory entry.pool (want_of entry)) → linked_at entry.key memory.pools ≡ None → Comes memory coming
comes_at entry coming memory is may count absent = record {
  pool = omega (arith, ap (λ (e : FlashEntry). e.pool) is, may.pool);
  size = omega (arith, ap (λ (e : FlashEntry). length e.value) is, may.size);
  count = count ∙ sym (ap (λ (e : FlashEntry). length (victims_of memory e.pool (want_of e))) is);
  room = ap (λ (e : FlashEntry). is_hopeless memory e.pool (want_of e)) is ∙ may.room;
  absent = ap (λ (e : FlashEntry). linked_at e.key memory.pools) is ∙ absent;
}

pub comes-so : {A : Type 0} (entry : FlashEntry) (count : ℕ) (coming : Coming A) (old mid : Whole) → Stays old mid → IsComing entry count mid coming → can_link old.cache entry ≡ true
    → count ≡ length (victims_of old.cache.memory entry.pool (want_of entry)) → linked_at entry.key old.cache.memory.pools ≡ None → Comes mid.cache.memory coming
comes-so entry count coming old mid stays comes can many absent =
    subst (λ (c : Cache). Comes c.memory coming) (sym stays.cache) (comes_at entry coming old.cache.memory comes.entry_is (can-room old.cache entry can) (comes.count_is ∙ many) absent)

-- ---- it is linked

module _ {A : Type 0} (entry : FlashEntry) (ending : Ending) (count waiting : ℕ) (coming : Coming A) (arrived : Arrived A) (old mid new : Whole) (stays : Stays old mid) (comes : IsComing entry count mid coming)
    (count_is : count ≡ length (victims_of old.cache.memory entry.pool (want_of entry))) (arrives : Arrives mid.cache.memory.flash (losses_by ending) mid.cache.memory coming arrived) where
  want_is : want_coming coming ≡ want_of entry
  want_is = ap (λ (e : FlashEntry). charge_of e.key (length e.value)) comes.entry_is

  pool_is : coming.pool ≡ entry.pool
  pool_is = ap (λ (e : FlashEntry). e.pool) comes.entry_is

  victims_are : arrived.victims.items ≡ all_marked_by old.cache.memory.flash (losses_by ending) (victims_of old.cache.memory entry.pool (want_of entry))
  victims_are = arrives.victims ∙ (λ i. all_marked_by (stays.cache i).memory.flash (losses_by ending) (victims_of (stays.cache i).memory (pool_is i) (want_is i)))

  leaves_are : AreFor old (keys_of (victims_of old.cache.memory entry.pool (want_of entry))) arrived.leaves.items
  leaves_are flash =
      (λ i. (arrives.leaves i).items)
      ∙ comes.leaves (ap (λ (c : Cache). is_some c.nvm) stays.cache ∙ flash)
      ∙ (λ i. map (leave_of (stays.log i)) (oldest_keys (stays.cache i).memory entry.pool (count_is i)))
      ∙ ap (map (leave_of old.log)) (oldest-go old.cache.memory entry.pool (want_of entry))

  pub item-so : IsItem entry (losses_by ending) old arrived
  item-so = record {
    number = arrives.number ∙ ap (λ (c : Cache). c.memory.made + 1) stays.cache;
    pool = arrives.pool ∙ pool_is;
    want = arrives.want ∙ want_is;
    copy = arrives.copy ∙ comes.copy ∙ ap (λ (h : Heard). where_kept h entry.key) stays.log;
    victims = victims_are;
    leaves = leaves_are;
  }

  many : length arrived.victims.items ≡ count
  many =
      ap (λ (xs : List Item). length xs) victims_are
      ∙ length-map (victims_of old.cache.memory entry.pool (want_of entry)) (marked_by old.cache.memory.flash (losses_by ending))
      ∙ sym count_is

  pub linked-so : HasRoomToEnd ending count waiting old.cache mid → new ≡ record mid { cache = with_memory (brought_in (entry_coming coming) mid.cache.memory) mid.cache } → IsLinked entry ending waiting arrived old new
  linked-so room is = record {
    item = item-so;
    cache = ap (λ (w : Whole). w.cache) is ∙ (λ i. with_memory (brought_in (comes.entry_is i) (stays.cache i).memory) (stays.cache i));
    log = ap (λ (w : Whole). w.log) is ∙ stays.log;
    room = record {
      notes = omega (arith, room.notes, many, ap (λ (w : Whole). w.notes) is);
      puts = omega (arith, room.puts, many, ap (λ (w : Whole). w.spare.puts) is);
      stones = omega (arith, room.stones, ap (λ (w : Whole). w.spare.stones) is);
      fills = omega arith;
    };
  }

pub linked-result : {A E : Type 0} (entry : FlashEntry) (ending : Ending) (count waiting : ℕ) (coming : Coming A) (result : Result (Arrived A) E) (old mid new : Whole) → Stays old mid → IsComing entry count mid coming
    → count ≡ length (victims_of old.cache.memory entry.pool (want_of entry)) → HasRoomToEnd ending count waiting old.cache mid
    → IfOk result (λ arrived. Arrives mid.cache.memory.flash (losses_by ending) mid.cache.memory coming arrived)
    → OnOk result (new ≡ record mid { cache = with_memory (brought_in (entry_coming coming) mid.cache.memory) mid.cache }) → IfOk result (λ arrived. IsLinked entry ending waiting arrived old new)
linked-result entry ending count waiting coming (Ok arrived) old mid new stays comes count_is room arrives is = linked-so entry ending count waiting coming arrived old mid new stays comes count_is arrives room is
linked-result entry ending count waiting coming (Err e) old mid new stays comes count_is room arrives is = tt

-- nothing changed, where what was tried changed nothing
pub stayed : (old mid new : Whole) → Stays old mid → new ≡ mid → Stays old new
stayed old mid new stays is = subst (λ (w : Whole). Stays old w) (sym is) stays

-- ---- room

-- there is more room, and nothing else changed
pub stays-by : (old new : Whole) → new.cache ≡ old.cache → new.log ≡ old.log → old.notes ≤ new.notes → old.spare.puts ≤ new.spare.puts → old.spare.stones ≤ new.spare.stones → old.spare.fills ≤ new.spare.fills → Stays old new
stays-by old new cache log notes puts stones fills = record {
  cache = cache;
  log = log;
  room = record { notes = omega (arith, notes); puts = omega (arith, puts); stones = omega (arith, stones); fills = omega (arith, fills) };
}

pub has-room : {T E : Type 0} (result : Result T E) (ending : Ending) (victims waiting notes most : ℕ) (cache : Cache) (new : Whole) → OnOk result (notes ≤ new.notes) → notes ≡ length cache.memory.charges + 1 + (most + (2 * victims + 2 + 6 * waiting))
    → most ≡ most_told_in (losses_by ending) cache.nvm → victims ≤ new.spare.puts → waiting ≤ new.spare.stones → OnOk result (HasRoomToEnd ending victims waiting cache new)
has-room (Ok x) ending victims waiting notes most cache new room notes_are most_is puts stones = record { notes = omega (arith, room, notes_are, most_is); puts = puts; stones = stones; fills = omega arith }
has-room (Err e) ending victims waiting notes most cache new room notes_are most_is puts stones = tt
