-- A key's item is replaced, or goes: the piece before the Did of an insert, of an add that stores, of a remove.
use Rattle.std.proofs.Common.{◌≡◌, ℕ, Bool, true, false, List, [], ◌∷◌, ◌++◌, Option, Some, None, refl, ap, sym, ◌∙◌, subst}
use Rattle.std.specs.Prelude.{is_some, ◌||◌}
use Rattle.std.specs.List.{list_any}
use Rattle.hc_types.specs.Config.{Config}
use Rattle.hc_memory.specs.Item.{Item, Handle, charge_by, item_by}
use Rattle.hc_memory.specs.Charges.{closed, is_open}
use Rattle.hc_memory.specs.Memory.{linked_at, after_link, after_unlink}
use Rattle.hc_machine.specs.items.Items.{items_of}
use Rattle.hc_history.specs.Note.{Note, Reply, Stored, Did, Linked}
use Rattle.hc_history.specs.Books.{Entry, entry_at}
use Rattle.hc_history.specs.Pages.{bytes_at}
use Rattle.hc_history.specs.Lawful.{freed_since, past}
use Rattle.hc_history.proofs.Appended.{past-append}
use Rattle.hc_machine.specs.Nvm.{Nvm, Fill, adds}
use Rattle.hc_machine.specs.Cache.{Cache, Told, with_memory}
use Rattle.hc_machine.specs.Calls.{is_kept_in, waiting_at, buried_at}
use Rattle.hc_machine.specs.Waiting.{clear}
use Rattle.hc_invariant.specs.Standing.{Placed, written_at, small_at, large_at}
use Rattle.hc_invariant.specs.Good.{fills_of}
use Rattle.hc_invariant.proofs.Pieces.{pieces-both}
use Rattle.hc_proof.specs.losses.Agreements.{DueIs}
use Rattle.hc_proof.specs.frames.Rest.{Rest, SameCalls}
use Rattle.hc_proof.specs.books.RegionBooks.{TakeTells}
use Rattle.hc_proof.specs.calls.Planting.{PlacedFor, Planted, PlantKeeps, Uprooted, UprootKeeps}
use Rattle.hc_proof.specs.frames.Midst.{only}
use Rattle.hc_proof.proofs.storing.Clearing.{Cleared, clear_keeps}
use Rattle.hc_proof.proofs.storing.Linked.{linked-own, unlinked-none}
use Rattle.hc_proof.proofs.storing.Linking.{rest_linked, rest_unlinked, allowed_linked}

kept-by : (nvm : Option Nvm) (number : ℕ) → is_kept_in nvm number ≡ list_any (λ (fill : Fill). list_any (adds number) fill.waiters) (fills_of nvm)
kept-by None number = refl
kept-by (Some nvm) number = refl

-- what is said of the key's place, once what is linked under it is known
placed_as : (m : Option Entry) (newer : List Note) (cache : Cache) (key : List ℕ) (i : Option Item) → linked_at key cache.memory.pools ≡ i
    → Placed i (waiting_at cache.nvm key) (written_at cache.nvm key) (buried_at cache.nvm key) (small_at (bytes_at newer) cache.nvm key) (large_at (bytes_at newer) cache.nvm key) m → PlacedFor m newer cache key
placed_as m newer cache key i e p = rw e p

-- ---- an item is linked in the place of the key's own

-- the same, where the history after it is told by itself
record PlantedIn (config : Config) (older newer : List Note) (handle : Handle) (cache new : Cache) : Type 0 where
  pub rest : Rest config newer new (items_of new.memory.pools) (only handle.key)
  pub stands : PlacedFor (Some (record { value = handle.value; expiry = handle.expiry })) newer new handle.key
  pub calls : SameCalls older newer cache new
  pub entry : entry_at config.flash newer handle.key ≡ entry_at config.flash older handle.key

planted_in : (config : Config) (older : List Note) (cache : Cache) (handle : Handle) (tail : List Note) (gone : Bool) (told : Told) → is_open (charge_by handle) cache.memory.charges ≡ true → is_kept_in cache.nvm handle.number ≡ false → Cleared config older cache handle.key tail gone told
    → PlantedIn config older (Linked handle.number ∷ past older told.part) handle cache (with_memory (after_link told.cache.memory false handle) told.cache)
planted_in config older cache handle tail gone told mine kept c =
    let memory = told.cache.memory in
    let new = with_memory (after_link memory false handle) told.cache in
    let newer : List Note = Linked handle.number ∷ past older told.part in
    let still_open : is_open (charge_by handle) memory.charges ≡ true = ap (is_open (charge_by handle)) c.charges ∙ mine in
    let still_unkept : is_kept_in told.cache.nvm handle.number ≡ false = kept-by told.cache.nvm handle.number ∙ ap (list_any (λ (fill : Fill). list_any (adds handle.number) fill.waiters)) c.fills ∙ sym (kept-by cache.nvm handle.number) ∙ kept in
    record {
      rest = rest_linked config (past older told.part) told.cache false handle still_open still_unkept c.one c.rest;
      stands = placed_as (Some (record { value = handle.value; expiry = handle.expiry })) newer new handle.key (Some (item_by false handle)) (linked-own memory false handle c.rest.sound still_open c.one) (c.stands.inserted (item_by false handle) refl);
      calls = record { begun = c.calls.begun; open_ones = c.calls.open_ones; owed = c.calls.owed; calls = c.calls.calls; owes = c.calls.owes };
      entry = c.entry;
    }

planted : (config : Config) (older : List Note) (cache : Cache) (handle : Handle) (call : ℕ) (tail : List Note) (gone : Bool) (told : Told) → is_open (charge_by handle) cache.memory.charges ≡ true → is_kept_in cache.nvm handle.number ≡ false → Cleared config older cache handle.key (Linked handle.number ∷ Did call Stored ∷ tail) gone told
    → Planted config older handle call tail cache (record { cache = with_memory (after_link told.cache.memory false handle) told.cache; part = told.part ++ Linked handle.number ∷ [] })
planted config older cache handle call tail gone told mine kept c =
    let memory = told.cache.memory in
    let new = with_memory (after_link memory false handle) told.cache in
    let still_open : is_open (charge_by handle) memory.charges ≡ true = ap (is_open (charge_by handle)) c.charges ∙ mine in
    let all = subst (λ (newer : List Note). PlantedIn config older newer handle cache new) (sym (past-append older told.part (Linked handle.number ∷ []))) (planted_in config older cache handle (Linked handle.number ∷ Did call Stored ∷ tail) gone told mine kept c) in
    record {
      lawful = pieces-both config older told.part (Linked handle.number ∷ []) (Did call Stored ∷ tail) c.lawful
          (allowed_linked config (past older told.part) (Did call Stored ∷ tail) _ memory.charges memory.made handle still_open c.rest.charges, tt);
      rest = all.rest;
      stands = all.stands;
      linked = linked-own memory false handle c.rest.sound still_open c.one;
      calls = all.calls;
      entry = all.entry;
      same_clock = c.same_clock;
      fills = c.fills;
      charges = ap (closed handle.number) c.charges;
    }

-- a tombstone is due by the books where the machine says so, and the region books follow where an index entry is taken
pub plant_keeps : DueIs → TakeTells → PlantKeeps
plant_keeps due take config older cache handle call tail r p begun rested mine kept sized changed =
    planted config older cache handle call tail (is_some (linked_at handle.key cache.memory.pools)) (clear handle.key cache) mine kept (clear_keeps due take config older cache handle.key (Linked handle.number ∷ Did call Stored ∷ tail) r p begun rested changed)

-- ---- no item is linked

record UprootedIn (config : Config) (older newer : List Note) (key : List ℕ) (cache new : Cache) : Type 0 where
  pub rest : Rest config newer new (items_of new.memory.pools) (only key)
  pub stands : PlacedFor None newer new key
  pub calls : SameCalls older newer cache new
  pub entry : entry_at config.flash newer key ≡ entry_at config.flash older key
  pub freed : (call : ℕ) → freed_since newer call key ≡ (is_some (linked_at key cache.memory.pools) || freed_since older call key)

uprooted_in : (config : Config) (older : List Note) (cache : Cache) (key : List ℕ) (tail : List Note) (told : Told) → Cleared config older cache key tail (is_some (linked_at key cache.memory.pools)) told → UprootedIn config older (past older told.part) key cache (with_memory (after_unlink told.cache.memory key) told.cache)
uprooted_in config older cache key tail told c =
    let memory = told.cache.memory in
    let new = with_memory (after_unlink memory key) told.cache in
    record {
      rest = rest_unlinked config (past older told.part) told.cache key c.rest;
      stands = placed_as None (past older told.part) new key None (unlinked-none key memory.pools c.one) c.stands.removed;
      calls = record { begun = c.calls.begun; open_ones = c.calls.open_ones; owed = c.calls.owed; calls = c.calls.calls; owes = c.calls.owes };
      entry = c.entry;
      freed = c.freed;
    }

uprooted : (config : Config) (older : List Note) (cache : Cache) (key : List ℕ) (call : ℕ) (reply : Reply) (tail : List Note) (told : Told) → Cleared config older cache key (Did call reply ∷ tail) (is_some (linked_at key cache.memory.pools)) told
    → Uprooted config older key call reply tail cache (record { cache = with_memory (after_unlink told.cache.memory key) told.cache; part = told.part ++ [] })
uprooted config older cache key call reply tail told c =
    let memory = told.cache.memory in
    let new = with_memory (after_unlink memory key) told.cache in
    let all = subst (λ (newer : List Note). UprootedIn config older newer key cache new) (sym (past-append older told.part [])) (uprooted_in config older cache key (Did call reply ∷ tail) told c) in
    record {
      lawful = pieces-both config older told.part [] (Did call reply ∷ tail) c.lawful tt;
      rest = all.rest;
      stands = all.stands;
      linked = unlinked-none key memory.pools c.one;
      calls = all.calls;
      entry = all.entry;
      same_clock = c.same_clock;
      fills = c.fills;
      freed = all.freed;
    }

pub uproot_keeps : DueIs → TakeTells → UprootKeeps
uproot_keeps due take config older cache key call reply tail r p begun rested changed =
    uprooted config older cache key call reply tail (clear key cache) (clear_keeps due take config older cache key (Did call reply ∷ tail) r p begun rested changed)
