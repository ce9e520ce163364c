-- A key leaves each place where it stood: what holds then, before its item goes or another takes its place.
use Rattle.std.proofs.Common.{◌≡◌, ℕ, ◌<◌, ◌≤◌, ◌==◌, Bool, true, false, not, ◌&&◌, ◌||◌, List, [], ◌∷◌, ◌++◌, Option, Some, None, refl, sym, ◌∙◌, arith, subst}
use Rattle.std.specs.Prelude.{if◌then◌else◌, is_some, IsSomeAnd, nat_lt}
use Rattle.hc_types.specs.Config.{Config}
use Rattle.hc_types.specs.Tally.{count}
use Rattle.hc_types.specs.declared.config.PoolSize.{PoolSize}
use Rattle.hc_types.specs.declared.config.FlashConfig.{FlashConfig}
use Rattle.hc_types.specs.FlashEntry.{FlashEntry}
use Rattle.hc_engines.specs.small.BigHash.{could_hold}
use Rattle.hc_engines.specs.small.Held as small
use Rattle.hc_engines.specs.small.Held.{StateFits}
use Rattle.hc_engines.specs.Engine.{Pages}
use Rattle.hc_engines.proofs.small.Serving.{held_is_told}
use Rattle.hc_memory.specs.Item.{Item, Open}
use Rattle.hc_memory.specs.Pool.{is_at, item_at}
use Rattle.hc_memory.specs.Memory.{linked_at}
use Rattle.hc_machine.specs.items.Items.{items_of}
use Rattle.hc_machine.proofs.items.Flat.{linked-flat}
use Rattle.hc_history.specs.Note.{Note, Reply, Buried, Unqueued, Freed}
use Rattle.hc_history.specs.Books.{Call, Entry, entry_at, open_calls}
use Rattle.hc_history.specs.Pages.{bytes_at}
use Rattle.hc_history.specs.Regions.{begins, is_put_of, put_under_way}
use Rattle.hc_history.specs.Lawful.{Allowed, IsChanged, next_answer, changes, freed_since, past}
use Rattle.hc_engines.specs.pair.Pair.{is_indexed}
use Rattle.hc_machine.specs.Nvm.{Nvm, is_buried, is_due, is_written_now, put_at}
use Rattle.hc_machine.specs.Leaving.{Changed, changed, and_then as leaving_then, unindex, outdate}
use Rattle.hc_machine.specs.Cache.{Cache, Told, tells, behind, and_then, on_flash, took_in}
use Rattle.hc_machine.specs.Waiting.{clear, freed_note}
use Rattle.hc_machine.specs.Calls.{waiting_at, buried_at}
use Rattle.hc_invariant.specs.Standing.{Placed, PlacedAt, map_of_item, written_at, small_at, large_at, written_by}
use Rattle.hc_invariant.specs.Tells.{ChargesTell}
use Rattle.hc_invariant.specs.Good.{fills_of}
use Rattle.hc_invariant.specs.Laws.{LawfulIn}
use Rattle.hc_invariant.proofs.Lookups.{put-gone}
use Rattle.hc_proof.specs.losses.Agreements.{DueIs}
use Rattle.hc_proof.specs.frames.Rest.{Rest, SameCalls}
use Rattle.hc_proof.specs.books.RegionBooks.{TakeTells}
use Rattle.hc_proof.specs.calls.Planting.{RestsFrom}
use Rattle.hc_proof.specs.frames.Midst.{only}
use Rattle.hc_proof.proofs.storing.Unqueuing.{flashed, unqueued, rest_unqueued, allowed_unqueued}
use Rattle.hc_proof.proofs.storing.Burying.{with_stone, buried-own, rest_buried, due_unburied, allowed_buried}
use Rattle.hc_proof.proofs.storing.Unindexing.{own_flash, hash_scope, lost_hash, unindexed, items_less, rest_unindexed, own_entry, own_item, own_large, unindexed_large, allowed_unindexed}
use Rattle.hc_proof.proofs.frames.Charges.{freed_linked}
use Rattle.hc_proof.proofs.storing.Linking.{rest_freed, lawful_freed}
use Rattle.hc_proof.proofs.frames.Unmarks.{tally_unmarked}
use Rattle.hc_proof.proofs.storing.WrittenNow.{written_now}

-- ---- at the key

-- the tombstone, where one is due
abbrev pub stone_after : Bool → Bool → Bool → Bool
stone_after buried could written = if (could || written) && not buried then true else buried

inserted_at : (i : Option Item) (q w s l : Option FlashEntry) (m : Option Entry) (b could written : Bool) (new : Item) → Placed i q w b s l m → (is_some s ≡ true → could ≡ true) → (is_some w ≡ true → written ≡ true) → new.clean ≡ false
    → Placed (Some new) None w (stone_after b could written) s None (Some (map_of_item new))
inserted_at i q w s l m b could written new h c v n = grind arith

removed_at : (i : Option Item) (q w s l : Option FlashEntry) (m : Option Entry) (b could written : Bool) → Placed i q w b s l m → (is_some s ≡ true → could ≡ true) → (is_some w ≡ true → written ≡ true)
    → Placed None None w (stone_after b could written) s None None
removed_at i q w s l m b could written h c v = grind arith

-- where the key would stand then, with an item that is linked in its place, and with none
pub record MayStand (q w s l : Option FlashEntry) (b : Bool) : Type 0 where
  pub inserted : (new : Item) → new.clean ≡ false → Placed (Some new) q w b s l (Some (map_of_item new))
  pub removed : Placed None q w b s l None

-- ---- what holds once the key was cleared

-- `gone` tells whether an item's charge was freed
pub record Cleared (config : Config) (older : List Note) (cache : Cache) (key : List ℕ) (tail : List Note) (gone : Bool) (told : Told) : Type 0 where
  pub lawful : LawfulIn config older told.part tail
  pub quiet : next_answer (told.part ++ tail) ≡ next_answer tail
  pub rest : Rest config (past older told.part) told.cache (items_less key told.cache.memory) (only key)
  pub one : count (is_at key) (items_of told.cache.memory.pools) ≤ 1
  pub linked : linked_at key told.cache.memory.pools ≡ linked_at key cache.memory.pools
  pub stands : MayStand (waiting_at told.cache.nvm key) (written_at told.cache.nvm key) (small_at (bytes_at (past older told.part)) told.cache.nvm key) (large_at (bytes_at (past older told.part)) told.cache.nvm key) (buried_at told.cache.nvm key)
  pub calls : SameCalls older (past older told.part) cache told.cache
  pub entry : entry_at config.flash (past older told.part) key ≡ entry_at config.flash older key
  pub same_clock : told.cache.now ≡ cache.now
  pub fills : fills_of told.cache.nvm ≡ fills_of cache.nvm
  pub charges : told.cache.memory.charges ≡ cache.memory.charges
  pub freed : (call : ℕ) → freed_since (past older told.part) call key ≡ (gone || freed_since older call key)

-- a note is told before, by which no book of calls and no map changes, and what was beside the fills changed
both_gone : (a b c d e : Bool) → a ≡ (b || c) → c ≡ (d || e) → a ≡ ((d || b) || e)
both_gone a b c d e h k = grind arith

prefixed : (config : Config) (older : List Note) (note : Note) (cache : Cache) (nvm : Option Nvm) (key : List ℕ) (tail : List Note) (gone more : Bool) (told : Told) → fills_of cache.nvm ≡ fills_of nvm
    → SameCalls older (note ∷ older) cache cache → entry_at config.flash (note ∷ older) key ≡ entry_at config.flash older key → ((rest : List Note) → next_answer (note ∷ rest) ≡ next_answer rest) → ((call : ℕ) → freed_since (note ∷ older) call key ≡ (more || freed_since older call key)) → Allowed config older note (told.part ++ tail)
    → Cleared config (note ∷ older) cache key tail gone told → Cleared config older (record cache { nvm = nvm }) key tail (more || gone) (record told { part = note ∷ told.part })
prefixed config older note cache nvm key tail gone more told fills calls entry quiet freed allowed c = record {
  lawful = (allowed, c.lawful);
  quiet = quiet (told.part ++ tail) ∙ c.quiet;
  rest = c.rest;
  one = c.one;
  linked = c.linked;
  stands = c.stands;
  calls = record { begun = c.calls.begun ∙ calls.begun; open_ones = c.calls.open_ones ∙ calls.open_ones; owed = c.calls.owed ∙ calls.owed; calls = c.calls.calls; owes = c.calls.owes };
  entry = c.entry ∙ entry;
  same_clock = c.same_clock;
  fills = c.fills ∙ fills;
  charges = c.charges;
  freed = λ call. both_gone _ gone (freed_since (note ∷ older) call key) more (freed_since older call key) (c.freed call) (freed call);
}

-- what the next answer changes is changed before quiet notes too
pub changed_by : (older one two : List Note) (key : List ℕ) → next_answer one ≡ next_answer two → IsChanged older key two → IsChanged older key one
changed_by older one two key e h = subst (λ (o : Option (ℕ × Reply)). IsSomeAnd o (λ next. 0 < count (λ (call : Call). (call.number == next.0) && changes call.op next.1 key) (open_calls older))) (sym e) h

-- ---- the index entry goes

abbrev unindex_by : Bool → List ℕ → Nvm → Changed
unindex_by b key nvm = if b then changed (lost_hash key nvm ∷ []) (unindexed key nvm) else changed [] nvm

-- the state before it, where the large engine is left aside
pub record Before (pools : List PoolSize) (older : List Note) (cache : Cache) (nvm : Nvm) (key : List ℕ) (tail : List Note) : Type 0 where
  pub rest : Rest (flashed pools (own_flash nvm)) older (record cache { nvm = Some nvm }) (items_less key cache.memory) (only key)
  pub one : count (is_at key) (items_of cache.memory.pools) ≤ 1
  pub changed : IsChanged older key tail
  pub rested : is_put_of key (put_under_way (own_flash nvm) older) ≡ false

unindex_go : TakeTells → (pools : List PoolSize) (older : List Note) (cache : Cache) (nvm : Nvm) (key : List ℕ) (tail : List Note) (b : Bool) → is_indexed nvm.pair key ≡ b → Before pools older cache nvm key tail
    → MayStand (put_at key nvm.queue) (written_by key nvm.pair.small.jobs) (small.held nvm.pair.small (bytes_at older) key) None (is_buried nvm key)
    → Cleared (flashed pools (own_flash nvm)) older (record cache { nvm = Some nvm }) key tail false (took_in (unindex_by b key nvm) (record cache { nvm = Some nvm }))
unindex_go take pools older cache nvm key tail true e h st =
    let takes = allowed_unindexed take pools older tail nvm key h.rest.flash.engines e h.changed h.rested in
    record {
      lawful = (takes.allowed, tt);
      quiet = refl;
      rest = rest_unindexed pools older cache nvm key takes.fit h.rest;
      one = omega (arith, h.one, tally_unmarked (λ item. if is_at key item then 1 else 0) (λ y. refl) cache.memory.flash (hash_scope key nvm) cache.memory.pools);
      linked = own_item cache.memory nvm key;
      stands = subst (λ (l : Option FlashEntry). MayStand (put_at key nvm.queue) (written_by key nvm.pair.small.jobs) (small.held nvm.pair.small (bytes_at older) key) l (is_buried nvm key)) (sym (own_large (bytes_at older) nvm key)) st;
      calls = record { begun = refl; open_ones = refl; owed = refl; calls = refl; owes = refl };
      entry = own_entry older nvm key;
      same_clock = refl;
      fills = refl;
      charges = refl;
      freed = λ call. refl;
    }
unindex_go take pools older cache nvm key tail false e h st = record {
  lawful = tt;
  quiet = refl;
  rest = h.rest;
  one = h.one;
  linked = refl;
  stands = subst (λ (l : Option FlashEntry). MayStand (put_at key nvm.queue) (written_by key nvm.pair.small.jobs) (small.held nvm.pair.small (bytes_at older) key) l (is_buried nvm key)) (sym (unindexed_large (bytes_at older) nvm key e)) st;
  calls = record { begun = refl; open_ones = refl; owed = refl; calls = refl; owes = refl };
  entry = refl;
  same_clock = refl;
  fills = refl;
  charges = refl;
  freed = λ call. refl;
}

-- ---- its copies on flash are outdated

abbrev bury_by : Bool → List ℕ → Nvm → Changed
bury_by b key nvm = if b then changed (Buried key ∷ []) (with_stone key nvm) else changed [] nvm

outdate_go : DueIs → TakeTells → (pools : List PoolSize) (older : List Note) (cache : Cache) (nvm : Nvm) (key : List ℕ) (tail : List Note) (b : Bool) → is_due nvm key ≡ b → Before pools older cache nvm key tail
    → MayStand (put_at key nvm.queue) (written_by key nvm.pair.small.jobs) (small.held nvm.pair.small (bytes_at older) key) None (if b then true else is_buried nvm key)
    → Cleared (flashed pools (own_flash nvm)) older (record cache { nvm = Some nvm }) key tail false (took_in (leaving_then (bury_by b key nvm) (unindex key)) (record cache { nvm = Some nvm }))
outdate_go due take pools older cache nvm key tail true e h st =
    let none = due_unburied nvm key e in
    let after : Before pools (Buried key ∷ older) cache (with_stone key nvm) key tail = record { rest = rest_buried pools (own_flash nvm) older cache nvm key (items_less key cache.memory) none h.rest; one = h.one; changed = h.changed; rested = refl } in
    let c = unindex_go take pools (Buried key ∷ older) cache (with_stone key nvm) key tail (is_indexed nvm.pair key) refl after
    (subst (λ (b : Bool). MayStand (put_at key nvm.queue) (written_by key nvm.pair.small.jobs) (small.held nvm.pair.small (bytes_at older) key) None b) (sym (buried-own key nvm)) st) in
    prefixed (flashed pools (own_flash nvm)) older (Buried key) (record cache { nvm = Some (with_stone key nvm) }) (Some nvm) key tail false false (took_in (unindex key (with_stone key nvm)) (record cache { nvm = Some (with_stone key nvm) })) refl
    (record { begun = refl; open_ones = refl; owed = refl; calls = refl; owes = refl }) refl (λ rest. refl) (λ call. refl)
    (allowed_buried due pools (own_flash nvm) older ((unindex key (with_stone key nvm)).part ++ tail) nvm key h.rest.flash.engines h.rest.flash.waits e (changed_by older ((unindex key (with_stone key nvm)).part ++ tail) tail key c.quiet h.changed)) c
outdate_go due take pools older cache nvm key tail false e h st = unindex_go take pools older cache nvm key tail (is_indexed nvm.pair key) refl h st

could_step : (nvm : Nvm) (pages : Pages) (key : List ℕ) (o : Option FlashEntry) → small.held nvm.pair.small pages key ≡ o → StateFits nvm.pair.small pages → is_some o ≡ true → could_hold nvm.pair.small key ≡ true
could_step nvm pages key None e fits h = absurd cc
could_step nvm pages key (Some x) e fits h = held_is_told nvm.pair.small pages key fits (λ none. cc)

-- where the key stood before, but for its queue
outdate_keeps : DueIs → TakeTells → (pools : List PoolSize) (older : List Note) (cache : Cache) (nvm : Nvm) (key : List ℕ) (tail : List Note) (i : Option Item) (q : Option FlashEntry) (m : Option Entry) → Before pools older cache nvm key tail → put_at key nvm.queue ≡ None
    → Placed i q (written_by key nvm.pair.small.jobs) (is_buried nvm key) (small.held nvm.pair.small (bytes_at older) key) (large_at (bytes_at older) (Some nvm) key) m
    → Cleared (flashed pools (own_flash nvm)) older (record cache { nvm = Some nvm }) key tail false (took_in (outdate key nvm) (record cache { nvm = Some nvm }))
outdate_keeps due take pools older cache nvm key tail i q m h none p =
    let w = written_by key nvm.pair.small.jobs in
    let s = small.held nvm.pair.small (bytes_at older) key in
    let l = large_at (bytes_at older) (Some nvm) key in
    let could = could_hold nvm.pair.small key in
    let written = is_written_now nvm key in
    let holds = could_step nvm (bytes_at older) key s refl h.rest.flash.engines.small_fits in
    let writes = written_now nvm (bytes_at older) key h.rest.flash.engines.small_fits h.rest.flash.jobs in
    outdate_go due take pools older cache nvm key tail (is_due nvm key) refl h
    (subst (λ (q : Option FlashEntry). MayStand q w s None (stone_after (is_buried nvm key) could written)) (sym none)
    (record { inserted = λ new clean. inserted_at i q w s l m (is_buried nvm key) could written new p holds writes clean; removed = removed_at i q w s l m (is_buried nvm key) could written p holds writes }))

-- ---- its item's charge goes before

lt_true : (n : ℕ) → 0 < n → nat_lt 0 n ≡ true
lt_true n h = grind arith

or_left : (a b : Bool) → a ≡ true → (a || b) ≡ (true || b)
or_left a b e = grind arith

freed_now : (older : List Note) (items : List Item) (opens : List Open) (made : ℕ) (key : List ℕ) (x : Item) → item_at key items ≡ Some x → ChargesTell older items opens made → (call : ℕ) → freed_since (Freed x.number ∷ older) call key ≡ (true || freed_since older call key)
freed_now older items opens made key x found t call = or_left _ (freed_since older call key) (lt_true _ (freed_linked older items opens made key x found t))

freed_go : DueIs → TakeTells → (pools : List PoolSize) (older : List Note) (cache : Cache) (nvm : Nvm) (key : List ℕ) (tail : List Note) (o i : Option Item) (q : Option FlashEntry) (m : Option Entry) → linked_at key cache.memory.pools ≡ o
    → Rest (flashed pools (own_flash nvm)) older (record cache { nvm = Some nvm }) (items_of cache.memory.pools) (only key) → count (is_at key) (items_of cache.memory.pools) ≤ 1 → IsChanged older key tail → is_put_of key (put_under_way (own_flash nvm) older) ≡ false → put_at key nvm.queue ≡ None
    → Placed i q (written_by key nvm.pair.small.jobs) (is_buried nvm key) (small.held nvm.pair.small (bytes_at older) key) (large_at (bytes_at older) (Some nvm) key) m
    → Cleared (flashed pools (own_flash nvm)) older (record cache { nvm = Some nvm }) key tail (is_some o) (behind (freed_note o) (took_in (outdate key nvm) (record cache { nvm = Some nvm })))
freed_go due take pools older cache nvm key tail None i q m e r one changed rested none p =
    outdate_keeps due take pools older cache nvm key tail i q m
    (record { rest = rest_freed (flashed pools (own_flash nvm)) older (record cache { nvm = Some nvm }) (items_of cache.memory.pools) key None (only key) (sym (linked-flat key cache.memory.pools) ∙ e) r; one = one; changed = changed; rested = rested }) none p
freed_go due take pools older cache nvm key tail (Some x) i q m e r one changed rested none p =
    let config = flashed pools (own_flash nvm) in
    let here = record cache { nvm = Some nvm } in
    let found : item_at key (items_of cache.memory.pools) ≡ Some x = sym (linked-flat key cache.memory.pools) ∙ e in
    let c = outdate_keeps due take pools (Freed x.number ∷ older) cache nvm key tail i q m
    (record { rest = rest_freed config older here (items_of cache.memory.pools) key (Some x) (only key) found r; one = one; changed = changed; rested = refl }) none p in
    let part = (outdate key nvm).part in
    prefixed config older (Freed x.number) here (Some nvm) key tail false true (took_in (outdate key nvm) here) refl (record { begun = refl; open_ones = refl; owed = refl; calls = refl; owes = refl }) refl (λ rest. refl)
    (freed_now older (items_of cache.memory.pools) cache.memory.charges cache.memory.made key x found r.charges)
    (lawful_freed config older (part ++ tail) (items_of cache.memory.pools) cache.memory.charges cache.memory.made key (Some x) found r.charges (changed_by older (part ++ tail) tail key c.quiet changed)).0 c

-- ---- its waiting put goes first

abbrev unqueue_by : Bool → List ℕ → Nvm → Changed
unqueue_by b key nvm = if b then changed (Unqueued key ∷ []) (unqueued key nvm) else changed [] nvm

no_put : (o : Option FlashEntry) → is_some o ≡ false → o ≡ None
no_put None h = refl
no_put (Some e) h = absurd cc

own_begun : (flash : FlashConfig) (older : List Note) (key : List ℕ) → begins older key ≡ true → is_put_of key (put_under_way flash (Unqueued key ∷ older)) ≡ false
own_begun flash older key b = rw b refl

clear_go : DueIs → TakeTells → (pools : List PoolSize) (older : List Note) (cache : Cache) (nvm : Nvm) (key : List ℕ) (tail : List Note) (b : Bool) → is_some (put_at key nvm.queue) ≡ b
    → Rest (flashed pools (own_flash nvm)) older (record cache { nvm = Some nvm }) (items_of cache.memory.pools) (only key) → PlacedAt (Some (own_flash nvm)) older (record cache { nvm = Some nvm }) key
    → (is_some (put_at key nvm.queue) ≡ true → begins older key ≡ true) → is_put_of key (put_under_way (own_flash nvm) older) ≡ false → IsChanged older key tail
    → Cleared (flashed pools (own_flash nvm)) older (record cache { nvm = Some nvm }) key tail (is_some (linked_at key cache.memory.pools))
    (and_then (took_in (unqueue_by b key nvm) (record cache { nvm = Some nvm })) (λ cache. and_then (tells (freed_note (linked_at key cache.memory.pools)) cache) (on_flash (outdate key))))
clear_go due take pools older cache nvm key tail true e r p begun rested changed =
    let config = flashed pools (own_flash nvm) in
    let nvm2 = unqueued key nvm in
    let o = linked_at key cache.memory.pools in
    let c = freed_go due take pools (Unqueued key ∷ older) cache nvm2 key tail o o (put_at key nvm.queue) (entry_at (Some (own_flash nvm)) older key) refl
    (rest_unqueued pools (own_flash nvm) older cache nvm key (items_of cache.memory.pools) (begun e) r) (r.charges.one_key key) changed (own_begun (own_flash nvm) older key (begun e)) (put-gone key nvm.queue) p in
    prefixed config older (Unqueued key) (record cache { nvm = Some nvm2 }) (Some nvm) key tail (is_some o) false (behind (freed_note o) (took_in (outdate key nvm2) (record cache { nvm = Some nvm2 }))) refl
    (record { begun = refl; open_ones = refl; owed = refl; calls = refl; owes = refl }) refl (λ rest. refl) (λ call. refl)
    (allowed_unqueued pools (own_flash nvm) older ((freed_note o ++ (outdate key nvm2).part) ++ tail) nvm key (begun e) r.flash.waits e) c
clear_go due take pools older cache nvm key tail false e r p begun rested changed =
    freed_go due take pools older cache nvm key tail (linked_at key cache.memory.pools) (linked_at key cache.memory.pools) (put_at key nvm.queue) (entry_at (Some (own_flash nvm)) older key) refl r (r.charges.one_key key) changed rested (no_put (put_at key nvm.queue) e) p

-- ---- without flash

plain_stands : MayStand None None None None false
plain_stands = record { inserted = λ new clean. (refl, clean); removed = refl }

plain_go : (pools : List PoolSize) (older : List Note) (cache : Cache) (key : List ℕ) (tail : List Note) (o : Option Item) → linked_at key cache.memory.pools ≡ o → Rest (record { pools = pools; flash = None }) older (record cache { nvm = None }) (items_of cache.memory.pools) (only key) → IsChanged older key tail
    → Cleared (record { pools = pools; flash = None }) older (record cache { nvm = None }) key tail (is_some o) (behind (freed_note o) (tells [] (record cache { nvm = None })))
plain_go pools older cache key tail None e r changed = record {
  lawful = tt;
  quiet = refl;
  rest = rest_freed (record { pools = pools; flash = None }) older (record cache { nvm = None }) (items_of cache.memory.pools) key None (only key) (sym (linked-flat key cache.memory.pools) ∙ e) r;
  one = r.charges.one_key key;
  linked = refl;
  stands = plain_stands;
  calls = record { begun = refl; open_ones = refl; owed = refl; calls = refl; owes = refl };
  entry = refl;
  same_clock = refl;
  fills = refl;
  charges = refl;
  freed = λ call. refl;
}
plain_go pools older cache key tail (Some x) e r changed =
    let config : Config = record { pools = pools; flash = None } in
    let found : item_at key (items_of cache.memory.pools) ≡ Some x = sym (linked-flat key cache.memory.pools) ∙ e in
    record {
      lawful = lawful_freed config older tail (items_of cache.memory.pools) cache.memory.charges cache.memory.made key (Some x) found r.charges changed;
      quiet = refl;
      rest = rest_freed config older (record cache { nvm = None }) (items_of cache.memory.pools) key (Some x) (only key) found r;
      one = r.charges.one_key key;
      linked = refl;
      stands = plain_stands;
      calls = record { begun = refl; open_ones = refl; owed = refl; calls = refl; owes = refl };
      entry = refl;
      same_clock = refl;
      fills = refl;
      charges = refl;
      freed = freed_now older (items_of cache.memory.pools) cache.memory.charges cache.memory.made key x found r.charges;
    }

-- ---- all of it

cleared_by : DueIs → TakeTells → (pools : List PoolSize) (flash : Option FlashConfig) (older : List Note) (cache : Cache) (nvm : Option Nvm) (key : List ℕ) (tail : List Note)
    → Rest (record { pools = pools; flash = flash }) older (record cache { nvm = nvm }) (items_of cache.memory.pools) (only key) → PlacedAt flash older (record cache { nvm = nvm }) key
    → (is_some (waiting_at nvm key) ≡ true → begins older key ≡ true) → RestsFrom flash older key → IsChanged older key tail
    → Cleared (record { pools = pools; flash = flash }) older (record cache { nvm = nvm }) key tail (is_some (linked_at key cache.memory.pools)) (clear key (record cache { nvm = nvm }))
cleared_by due take pools None older cache None key tail r p begun rested changed = plain_go pools older cache key tail (linked_at key cache.memory.pools) refl r changed
cleared_by due take pools None older cache (Some nvm) key tail r p begun rested changed = absurd r.flash
cleared_by due take pools (Some flash) older cache None key tail r p begun rested changed = absurd r.flash
cleared_by due take pools (Some flash) older cache (Some nvm) key tail r p begun rested changed =
    subst (λ (f : FlashConfig). Rest (flashed pools f) older (record cache { nvm = Some nvm }) (items_of cache.memory.pools) (only key) → PlacedAt (Some f) older (record cache { nvm = Some nvm }) key → RestsFrom (Some f) older key
    → Cleared (flashed pools f) older (record cache { nvm = Some nvm }) key tail (is_some (linked_at key cache.memory.pools)) (clear key (record cache { nvm = Some nvm })))
    r.flash.engines.same
    (λ r p rested. clear_go due take pools older cache nvm key tail (is_some (put_at key nvm.queue)) refl r p begun rested changed) r p rested

-- the piece that both an insert and a remove begin with
pub clear_keeps : DueIs → TakeTells → (config : Config) (older : List Note) (cache : Cache) (key : List ℕ) (tail : List Note) → Rest config older cache (items_of cache.memory.pools) (only key) → PlacedAt config.flash older cache key
    → (is_some (waiting_at cache.nvm key) ≡ true → begins older key ≡ true) → RestsFrom config.flash older key → IsChanged older key tail → Cleared config older cache key tail (is_some (linked_at key cache.memory.pools)) (clear key cache)
clear_keeps due take config older cache key tail r p begun rested changed = cleared_by due take config.pools config.flash older cache cache.nvm key tail r p begun rested changed
