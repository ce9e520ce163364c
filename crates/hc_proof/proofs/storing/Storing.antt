-- An item is inserted: the call stores, whatever the key had, or where an add finds nothing under it.
use Rattle.std.proofs.Common.{◌≡◌, inl, inr, ℕ, ◌+◌, Bool, true, false, List, [], ◌∷◌, Option, Some, None, refl, ap, sym, ◌∙◌, arith}
use Rattle.std.specs.Prelude.{if◌then◌else◌}
use Rattle.std.specs.Str.{bytes_eq}
use Rattle.hc_types.specs.Config.{Config}
use Rattle.hc_types.specs.declared.refusal.Refusal.TheVariants.{ForeignHandle}
use Rattle.hc_types.specs.declared.config.FlashConfig.{FlashConfig}
use Rattle.hc_types.specs.FlashEntry.{FlashEntry}
use Rattle.hc_memory.specs.Item.{Item, Handle, charge_by, item_by}
use Rattle.hc_memory.specs.Charges.{is_open}
use Rattle.hc_memory.specs.Memory.{linked_at}
use Rattle.hc_machine.specs.items.Items.{items_of}
use Rattle.hc_machine.proofs.items.Items.{bytes_eq-refl, bytes_eq-sym}
use Rattle.hc_history.specs.Note.{Note, Op, Insert, Add, Stored, Did}
use Rattle.hc_history.specs.Books.{Entry, entry_at, entry_after, value_at, unexpired, now_at}
use Rattle.hc_history.specs.Regions.{begins}
use Rattle.hc_history.specs.Lawful.{IsAnswer, changes, past}
use Rattle.hc_machine.specs.Cache.{Cache, Refused, Replied, and_then, answers, stays}
use Rattle.hc_machine.specs.Calls.{is_known, is_kept_in, begin, store, waiting_at}
use Rattle.hc_machine.specs.Waiting.{plant, entry_of_handle}
use Rattle.hc_invariant.specs.Standing.{Placed}
use Rattle.hc_invariant.specs.Good.{Agrees, IsSized}
use Rattle.hc_invariant.specs.Laws.{Keeps, InsertKeeps}
use Rattle.hc_proof.specs.losses.Agreements.{DueIs}
use Rattle.hc_proof.specs.books.RegionBooks.{TakeTells}
use Rattle.hc_proof.specs.calls.Planting.{PlantKeeps, Planted}
use Rattle.hc_proof.specs.frames.Midst.{only}
use Rattle.hc_proof.specs.calls.Serving.{EndFillKeeps, ThereByMap}
use Rattle.hc_proof.specs.calls.Storing.{MayStore, StoreKeeps}
use Rattle.hc_proof.proofs.storing.Planting.{plant_keeps}
use Rattle.hc_proof.proofs.storing.ChangingCalls.{counted, begun_by, rest_begun, call_changes, begun_rests, did_entry, rest_did, Piece, call_keeps}
use Rattle.hc_proof.proofs.calls.Adds.{and_both}
use Rattle.hc_proof.proofs.calls.Serving.{other_entry}

-- what the map has for the handle
abbrev entry_of : Handle → Entry
entry_of handle = record { value = handle.value; expiry = handle.expiry }

-- ---- the operation

stores : (config : Config) (older : List Note) (handle : Handle) (op : Op) → MayStore config older handle op → changes op Stored handle.key ≡ true
stores config older handle op (inl e) = rw e (bytes_eq-refl handle.key)
stores config older handle op (inr e) = rw (e.0) (bytes_eq-refl handle.key)

store_begins : (config : Config) (older : List Note) (cache : Cache) (client : ℕ) (handle : Handle) (op : Op) → MayStore config older handle op → begins (begun_by client op cache older) handle.key ≡ true
store_begins config older cache client handle op (inl e) = rw e (bytes_eq-refl handle.key)
store_begins config older cache client handle op (inr e) = rw (e.0) (bytes_eq-refl handle.key)

nothing_there : (flash : Option FlashConfig) (older newer : List Note) (key : List ℕ) → now_at newer ≡ now_at older → entry_at flash newer key ≡ entry_at flash older key → value_at flash older key ≡ None → value_at flash newer key ≡ None
nothing_there flash older newer key clock entry h = (λ i. unexpired (clock i) (entry i)) ∙ h

store_answer : (config : Config) (older newer : List Note) (c : ℕ) (handle : Handle) (op : Op) → MayStore config older handle op → now_at newer ≡ now_at older → entry_at config.flash newer handle.key ≡ entry_at config.flash older handle.key → IsAnswer config.flash newer c op Stored
store_answer config older newer c handle op (inl e) clock entry = rw e tt
store_answer config older newer c handle op (inr e) clock entry = rw (e.0) (nothing_there config.flash older newer handle.key clock entry e.1)

insert_own : (now : ℕ) (handle : Handle) (was : Option Entry) → entry_after now (Insert handle.key handle.value handle.expiry) handle.key was ≡ Some (entry_of handle)
insert_own now handle was = rw (bytes_eq-refl handle.key) refl

add_own : (now : ℕ) (handle : Handle) (was : Option Entry) → unexpired now was ≡ None → entry_after now (Add handle.key handle.value handle.expiry) handle.key was ≡ Some (entry_of handle)
add_own now handle was h = rw (bytes_eq-refl handle.key, h) refl

-- the map has the handle's item then
store_own : (config : Config) (older newer : List Note) (handle : Handle) (op : Op) → MayStore config older handle op → now_at newer ≡ now_at older → entry_at config.flash newer handle.key ≡ entry_at config.flash older handle.key
    → entry_after (now_at newer) op handle.key (entry_at config.flash newer handle.key) ≡ Some (entry_of handle)
store_own config older newer handle op (inl e) clock entry = ap (λ (o : Op). entry_after (now_at newer) o handle.key (entry_at config.flash newer handle.key)) e ∙ insert_own (now_at newer) handle (entry_at config.flash newer handle.key)
store_own config older newer handle op (inr e) clock entry =
    ap (λ (o : Op). entry_after (now_at newer) o handle.key (entry_at config.flash newer handle.key)) (e.0) ∙ add_own (now_at newer) handle (entry_at config.flash newer handle.key) (nothing_there config.flash older newer handle.key clock entry e.1)

insert_other : (now : ℕ) (handle : Handle) (k : List ℕ) (was : Option Entry) → bytes_eq handle.key k ≡ false → entry_after now (Insert handle.key handle.value handle.expiry) k was ≡ was
insert_other now handle k was o = rw o refl

store_other : (config : Config) (older : List Note) (now : ℕ) (handle : Handle) (op : Op) (k : List ℕ) (was : Option Entry) → MayStore config older handle op → bytes_eq k handle.key ≡ false → entry_after now op k was ≡ was
store_other config older now handle op k was (inl e) o = ap (λ (x : Op). entry_after now x k was) e ∙ insert_other now handle k was (bytes_eq-sym handle.key k ∙ o)
store_other config older now handle op k was (inr e) o = ap (λ (x : Op). entry_after now x k was) (e.0) ∙ other_entry now handle k was (bytes_eq-sym handle.key k ∙ o)

-- ---- its piece

linked_alone : (i : Option Item) (x : Item) (q w s l : Option FlashEntry) (m : Option Entry) (b : Bool) → i ≡ Some x → Placed i q w b s l m → q ≡ None
linked_alone i x q w s l m b e h = grind arith

store_piece : PlantKeeps → ThereByMap → (config : Config) (older : List Note) (cache : Cache) (client : ℕ) (handle : Handle) (op : Op) → Agrees config older cache → IsSized handle.key handle.value handle.expiry → is_known cache handle ≡ true → MayStore config older handle op
    → Piece config older cache client op handle.key Stored (Some (entry_of_handle handle)) (plant handle (counted cache))
store_piece plants by_map config older cache client handle op g sized known may =
    let c = cache.calls + 1 in
    let begin : List Note = begun_by client op cache older in
    let key = handle.key in
    let told = plant handle (counted cache) in
    let mine = and_both (is_open (charge_by handle) cache.memory.charges) (is_kept_in cache.nvm handle.number) known in
    let p : (tail : List Note) → Planted config begin handle c tail (counted cache) told = λ tail. plants config begin (counted cache) handle c tail (rest_begun config older cache client op (only key) g) (g.placed key)
    (λ waits. store_begins config older cache client handle op may) (begun_rests config.flash older cache client op key) mine.0 mine.1 sized (call_changes older cache client op key Stored tail (stores config older handle op may)) in
    let one = p [] in
    let mid : List Note = past begin told.part in
    let clock : now_at mid ≡ now_at older = one.rest.clock ∙ one.same_clock ∙ sym g.clock in
    let has : entry_at config.flash (Did c Stored ∷ mid) key ≡ Some (entry_of handle) = did_entry config.flash older mid cache told.cache client op Stored key one.calls ∙ store_own config older mid handle op may clock one.entry in
    let stands = rest_did config mid told.cache key c Stored (Some (entry_of handle)) one.rest one.stands sized has
    (λ k other. did_entry config.flash older mid cache told.cache client op Stored k one.calls ∙ store_other config older (now_at mid) handle op k (entry_at config.flash mid k) may other) in
    record {
      lawful = λ tail. (p tail).lawful;
      calls = one.calls;
      fills = one.fills;
      answer = store_answer config older mid c handle op may clock one.entry;
      stands = stands;
      unqueued = linked_alone (linked_at key told.cache.memory.pools) (item_by false handle) (waiting_at told.cache.nvm key) _ _ _ _ _ one.linked one.stands;
      is_there = by_map config (Did c Stored ∷ mid) told.cache key (Some (entry_of_handle handle)) (items_of told.cache.memory.pools) (only key) stands.rest has;
    }

-- ---- the calls

-- an insert, or an add that doesn't wait
pub store_keeps : PlantKeeps → EndFillKeeps → ThereByMap → StoreKeeps
store_keeps plants ends by_map config older cache client handle op g sized known may =
    call_keeps ends config older cache client op handle.key Stored (Some (entry_of_handle handle)) (plant handle (counted cache)) g (store_piece plants by_map config older cache client handle op g sized known may)

insert_by : PlantKeeps → EndFillKeeps → ThereByMap → (config : Config) (older : List Note) (cache : Cache) (client : ℕ) (handle : Handle) (b : Bool) → is_known cache handle ≡ b → Agrees config older cache → IsSized handle.key handle.value handle.expiry
    → Keeps config older (if b then answers (Replied Stored) (and_then (begin client (Insert handle.key handle.value handle.expiry) cache) (store handle)) else stays (Refused ForeignHandle) cache)
insert_by plants ends by_map config older cache client handle true e g sized = store_keeps plants ends by_map config older cache client handle (Insert handle.key handle.value handle.expiry) g sized e (inl refl)
insert_by plants ends by_map config older cache client handle false e g sized = record { lawful = tt; good = g }

pub insert_steady_by : PlantKeeps → EndFillKeeps → ThereByMap → InsertKeeps Agrees Agrees
insert_steady_by plants ends by_map config older cache client handle g sized = insert_by plants ends by_map config older cache client handle (is_known cache handle) refl g sized

pub insert_steady : DueIs → TakeTells → EndFillKeeps → ThereByMap → InsertKeeps Agrees Agrees
insert_steady due take ends by_map = insert_steady_by (plant_keeps due take) ends by_map
