-- Where one key stands, and what each event does to it. Each is a single search over plain variables.
use Rattle.std.proofs.Common.{◌≡◌, ℕ, Bool, true, false, Option, Some, None, arith}
use Rattle.std.specs.Prelude.{if◌then◌else◌, is_some}
use Rattle.hc_types.specs.FlashEntry.{FlashEntry}
use Rattle.hc_memory.specs.Item.{Item}
use Rattle.hc_history.specs.Books.{Entry}
use Rattle.hc_invariant.specs.Standing.{map_of, map_of_item, Placed}

pub placed_eq : (i i2 : Option Item) (q q2 w w2 : Option FlashEntry) (b b2 : Bool) (s s2 l l2 : Option FlashEntry) (m m2 : Option Entry)
    → i2 ≡ i → q2 ≡ q → w2 ≡ w → b2 ≡ b → s2 ≡ s → l2 ≡ l → m2 ≡ m → Placed i q w b s l m → Placed i2 q2 w2 b2 s2 l2 m2
placed_eq i i2 q q2 w w2 b b2 s s2 l l2 m m2 ei eq ew eb es el em h = rw (ei, eq, ew, eb, es, el, em) h

-- ---- evictions

pub placed_evict_clean : (i : Item) (q w s l : Option FlashEntry) (m : Option Entry) (b : Bool) → Placed (Some i) q w b s l m → i.clean ≡ true → Placed None q w b s l m
placed_evict_clean i q w s l m b h c = grind arith

pub placed_evict_lost : (i : Item) (q w s l : Option FlashEntry) (m : Option Entry) (b : Bool) → Placed (Some i) q w b s l m → i.clean ≡ false → Placed None q w b s l None
placed_evict_lost i q w s l m b h c = grind arith

-- ---- puts

-- a small put is taken, and is written
pub placed_take : (i : Option Item) (e : FlashEntry) (w s l : Option FlashEntry) (m : Option Entry) (b : Bool) → Placed i (Some e) w b s l m → Placed i None (Some e) b s l m
placed_take i e w s l m b h = grind arith

pub placed_put : (i : Option Item) (e : FlashEntry) (q s l : Option FlashEntry) (m : Option Entry) (b : Bool) → Placed i q (Some e) b s l m → Placed i q None b (Some e) l m
placed_put i e q s l m b h = grind arith

-- a large put is over at once, and is in a region, or lost where none is clean
pub placed_large : (i : Option Item) (e : FlashEntry) (w s l : Option FlashEntry) (m : Option Entry) (b : Bool) → Placed i (Some e) w b s l m → Placed i None w b s (Some e) m
placed_large i e w s l m b h = grind arith

pub placed_unplaced : (i : Option Item) (e : FlashEntry) (w s l : Option FlashEntry) (m : Option Entry) (b : Bool) → Placed i (Some e) w b s l m → Placed i None w b s l None
placed_unplaced i e w s l m b h = grind arith

-- ---- losses: a covered key that is neither linked nor waiting leaves the map, and a covered item isn't clean any longer

abbrev pub map_lost : Option Item → Option FlashEntry → Option Entry → Option Entry
map_lost None None m = None
map_lost (Some i) q m = m
map_lost None (Some e) m = m

abbrev pub unclean : Option Item → Option Item
unclean None = None
unclean (Some i) = Some (record i { clean = false })

-- the index entry of the key's hash goes: the loss covers the key where its value is large
pub placed_unindexed : (i : Option Item) (q w s l : Option FlashEntry) (m : Option Entry) (b big : Bool) → Placed i q w b s l m
    → (b ≡ false → is_some s ≡ true → big ≡ false) → (b ≡ false → is_some w ≡ true → big ≡ false) → (is_some l ≡ true → big ≡ true)
    → Placed (if big then unclean i else i) q w b s None (if big then map_lost i q m else m)
placed_unindexed i q w s l m b big h fs fw fl = grind arith

-- ---- tombstones and fills

-- the delete is over: the bucket has no entry of the key
pub placed_raised : (i : Option Item) (q s l : Option FlashEntry) (m : Option Entry) → Placed i q None true s l m → Placed i q None false None l m
placed_raised i q s l m h = grind arith

-- what a fill found is linked, clean
abbrev pub clean_item : ℕ → FlashEntry → Item
clean_item number e = record { number = number; pool = e.pool; key = e.key; value = e.value; expiry = e.expiry; clean = true }

pub placed_fill_small : (e : FlashEntry) (q w l : Option FlashEntry) (m : Option Entry) (number : ℕ) → Placed None q w false (Some e) l m → Placed (Some (clean_item number e)) q w false (Some e) l m
placed_fill_small e q w l m number h = grind arith

pub placed_fill_large : (e : FlashEntry) (q w s : Option FlashEntry) (m : Option Entry) (number : ℕ) → Placed None q w false s (Some e) m → Placed (Some (clean_item number e)) q w false s (Some e) m
placed_fill_large e q w s m number h = grind arith

-- ---- what the map has, by where the key stands

pub map_linked : (i : Item) (q w s l : Option FlashEntry) (m : Option Entry) (b : Bool) → Placed (Some i) q w b s l m → m ≡ Some (map_of_item i)
map_linked i q w s l m b h = grind arith

pub map_queued : (i : Option Item) (e : FlashEntry) (w s l : Option FlashEntry) (m : Option Entry) (b : Bool) → Placed i (Some e) w b s l m → m ≡ Some (map_of e)
map_queued i e w s l m b h = grind arith

pub map_buried : (q w s l : Option FlashEntry) (m : Option Entry) → Placed None q w true s l m → m ≡ None
map_buried q w s l m h = grind arith

pub map_nowhere : (m : Option Entry) (b : Bool) → Placed None None None b None None m → m ≡ None
map_nowhere m b h = grind arith

-- ---- what else an event may lean on

-- a waiting key isn't linked, buried, written or held
pub queued_alone : (i : Option Item) (e : FlashEntry) (w s l : Option FlashEntry) (m : Option Entry) (b : Bool) → Placed i (Some e) w b s l m → (is_some i ≡ false) × (b ≡ false) × (is_some w ≡ false) × (is_some s ≡ false) × (is_some l ≡ false)
queued_alone i e w s l m b h = grind arith

-- an item that isn't clean and whose key isn't buried is in no engine: the queue may take it
pub unclean_alone : (i : Item) (q w s l : Option FlashEntry) (m : Option Entry) → Placed (Some i) q w false s l m → i.clean ≡ false → (is_some q ≡ false) × (is_some w ≡ false) × (is_some s ≡ false) × (is_some l ≡ false)
unclean_alone i q w s l m h c = grind arith
