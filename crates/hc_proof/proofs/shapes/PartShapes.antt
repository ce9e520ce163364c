-- What the parts of a step tell: no region is flushed but by a finish, and no step but the writer's ends with a large put.
use Rattle.std.proofs.Common.{◌≡◌, ℕ, Bool, true, false, not, List, [], ◌∷◌, ◌++◌, length, map, filter, Option, Some, None, refl, ap, sym, ◌∙◌, inl, inr}
use Rattle.std.specs.Prelude.{if◌then◌else◌, ◌⊎◌}
use Rattle.hc_types.specs.Charge.{charge_of}
use Rattle.hc_types.specs.declared.config.FlashConfig.{FlashConfig}
use Rattle.hc_types.specs.FlashEntry.{FlashEntry}
use Rattle.hc_engines.specs.Engine.{Loss, Outcome}
use Rattle.hc_memory.specs.Item.{Handle}
use Rattle.hc_history.specs.Note.{Note, Reply, Stored, Raised, Did, End, Linked, Unqueued, Opened, Flushed, Cleared, Begin, Read, Wrote}
use Rattle.hc_history.specs.Lawful.{past}
use Rattle.hc_history.specs.Regions.{put_under_way}
use Rattle.hc_machine.specs.Nvm.{Nvm, Tombstone, Waiter, Wish, ToFind, ToAdd, Fill, Task, Putting, Deleting, Filling, Flushing, is_fill_of, fill_at, without_fill}
use Rattle.hc_machine.specs.Leaving as leaving
use Rattle.hc_machine.specs.Leaving.{Changed}
use Rattle.hc_machine.specs.Takes.{region_note, loss_notes, bucket_lost, raise, raise_all, holds, ends_with, written_note, closing_notes, settled}
use Rattle.hc_machine.specs.Cache.{Cache, Told, tells, and_then, with_nvm}
use Rattle.hc_machine.specs.Evicting.{make_room, charge, make_charge, handle_for}
use Rattle.hc_machine.specs.Waiting.{uproot, plant, live, answer, serve, there_after, serve_all, serve_fill, end_fill_of, end_fill}
use Rattle.hc_machine.specs.Calls.{replies_then}
use Rattle.hc_machine.specs.Workers.{can_link, link_clean, bring, fill}
use Rattle.hc_machine.specs.Takes as takes
use Rattle.hc_invariant.specs.Good.{fills_of}
use Rattle.hc_proof.specs.shapes.Shapes.{flushed_in, rests, rests_from, Fewer, ShapedChange, ShapedPart}
use Rattle.hc_proof.specs.shapes.Asides.{Aside}
use Rattle.hc_proof.proofs.shapes.Asides.{room_aside, uproot_aside, plant_aside}

-- ---- what is flushed

pub flushed-append : (one two : List Note) → flushed_in (one ++ two) ≡ flushed_in one ++ flushed_in two
flushed-append [] two = refl
flushed-append (Flushed region ∷ one) two = ap (λ rs. region ∷ rs) (flushed-append one two)
flushed-append (note ∷ one) two = flushed-append one two

pub none-append : (one two : List Note) → flushed_in one ≡ [] → flushed_in two ≡ [] → flushed_in (one ++ two) ≡ []
none-append one two p q = flushed-append one two ∙ (λ i. p i ++ q i)

-- ---- with what the notes end

pub ends-append : (was : Bool) (one two : List Note) → rests_from was (one ++ two) ≡ rests_from (rests_from was one) two
ends-append was [] two = refl
ends-append was (note ∷ one) two = ends-append (rests note) one two

-- what ends well behind a large put ends well
pub ends-more : (was : Bool) (notes : List Note) → rests_from false notes ≡ true → rests_from was notes ≡ true
ends-more was [] h = absurd cc
ends-more was (note ∷ notes) h = h

pub ends-both : (one two : List Note) → rests_from true one ≡ true → rests_from true two ≡ true → rests_from true (one ++ two) ≡ true
ends-both one two p q = ends-append true one two ∙ ap (λ b. rests_from b two) p ∙ q

pub ends-last : (was : Bool) (one two : List Note) → rests_from false two ≡ true → rests_from was (one ++ two) ≡ true
ends-last was one two q = ends-append was one two ∙ ends-more (rests_from was one) two q

note_rests : (flash : FlashConfig) (older : List Note) (note : Note) → rests note ≡ true → put_under_way flash (note ∷ older) ≡ None
note_rests flash older (Unqueued key) h = absurd cc
note_rests flash older (Opened region) h = absurd cc
note_rests flash older note h = refl

rests_so : (flash : FlashConfig) (older : List Note) (was : Bool) (notes : List Note) → rests_from was notes ≡ true → (was ≡ true → put_under_way flash older ≡ None) → put_under_way flash (past older notes) ≡ None
rests_so flash older was [] h before = before h
rests_so flash older was (note ∷ notes) h before = rests_so flash (note ∷ older) (rests note) notes h (note_rests flash older note)

-- behind such notes no large put is under way, unless there are none
pub rests_after : (flash : FlashConfig) (older part : List Note) → rests_from true part ≡ true → (part ≡ []) ⊎ (put_under_way flash (past older part) ≡ None)
rests_after flash older [] h = inl refl
rests_after flash older (note ∷ part) h = inr (rests_so flash (note ∷ older) (rests note) part h (note_rests flash older note))

-- ---- fills

pub same_fewer : (old new : List Fill) → new ≡ old → Fewer old new
same_fewer old new e key h = ap (fill_at key) e ∙ h

pub both_fewer : (a b c : List Fill) → Fewer a b → Fewer b c → Fewer a c
both_fewer a b c p q key h = q key (p key h)

pub without_fewer : (key : List ℕ) (fills : List Fill) → Fewer fills (without_fill key fills)
without_fewer key [] k h = h
without_fewer key (x ∷ fills) k h = go (is_fill_of key x) (is_fill_of k x) refl h (without_fewer key fills k)
  where
    go : (t u : Bool) → is_fill_of k x ≡ u → (if u then Some x else fill_at k fills) ≡ None → (fill_at k fills ≡ None → fill_at k (without_fill key fills) ≡ None) → fill_at k (if not t then x ∷ without_fill key fills else without_fill key fills) ≡ None
    go t true e h more = absurd cc
    go true false e h more = more h
    go false false e h more = rw e (more h)

-- ---- notes

losses_none : (losses : List Loss) → flushed_in (loss_notes losses) ≡ []
losses_none [] = refl
losses_none (one ∷ losses) = losses_none losses

pub losses_rest : (losses : List Loss) → rests_from true (loss_notes losses) ≡ true
losses_rest [] = refl
losses_rest (one ∷ losses) = losses_rest losses

raised_none : (stones : List Tombstone) → flushed_in (map (λ (stone : Tombstone). Raised stone.key) stones) ≡ []
raised_none [] = refl
raised_none (stone ∷ stones) = raised_none stones

raised_rest : (stones : List Tombstone) → rests_from true (map (λ (stone : Tombstone). Raised stone.key) stones) ≡ true
raised_rest [] = refl
raised_rest (stone ∷ stones) = raised_rest stones

-- ---- what waits for flash

both_changed : (nvm : Nvm) (first : Changed) (f : Nvm → Changed) → ShapedChange nvm first → ((n : Nvm) → ShapedChange n (f n)) → ShapedChange nvm (leaving.and_then first f)
both_changed nvm first f p q = record { unflushed = none-append first.part (f first.nvm).part p.unflushed (q first.nvm).unflushed; fills = (q first.nvm).fills ∙ p.fills }

raise_shaped : (test : Tombstone → Bool) (nvm : Nvm) → ShapedChange nvm (raise test nvm)
raise_shaped test nvm = record { unflushed = raised_none (filter test nvm.tombstones); fills = refl }

raise_all_shaped : (bucket : Option ℕ) (nvm : Nvm) → ShapedChange nvm (raise_all bucket nvm)
raise_all_shaped None nvm = record { unflushed = refl; fills = refl }
raise_all_shaped (Some bucket) nvm = raise_shaped _ nvm

raise_all_rest : (bucket : Option ℕ) (nvm : Nvm) → rests_from true (raise_all bucket nvm).part ≡ true
raise_all_rest None nvm = refl
raise_all_rest (Some bucket) nvm = raised_rest (filter _ nvm.tombstones)

opened_none : (opened : Option ℕ) (losses : List Loss) → flushed_in (region_note Opened opened ++ loss_notes losses) ≡ []
opened_none None losses = losses_none losses
opened_none (Some region) losses = losses_none losses

pub holds_shaped : (outcome : Outcome) (nvm : Nvm) → ShapedChange nvm (holds outcome nvm)
holds_shaped outcome nvm =
    let all = raise_all_shaped (bucket_lost outcome.losses) nvm in
    record { unflushed = none-append (region_note Opened outcome.opened ++ loss_notes outcome.losses) (raise_all (bucket_lost outcome.losses) nvm).part (opened_none outcome.opened outcome.losses) all.unflushed; fills = all.fills }

-- where nothing is opened
pub holds_rest : (outcome : Outcome) (nvm : Nvm) → outcome.opened ≡ None → rests_from true (holds outcome nvm).part ≡ true
holds_rest outcome nvm e = ap (λ o. rests_from true ((region_note Opened o ++ loss_notes outcome.losses) ++ (raise_all (bucket_lost outcome.losses) nvm).part)) e
    ∙ ends-both (loss_notes outcome.losses) (raise_all (bucket_lost outcome.losses) nvm).part (losses_rest outcome.losses) (raise_all_rest (bucket_lost outcome.losses) nvm)

abbrev pub listed : Option ℕ → List ℕ
listed None = []
listed (Some region) = region ∷ []

closing_flushed : (task : Task) (outcome : Outcome) → flushed_in (closing_notes task outcome) ≡ listed outcome.flushed
closing_flushed task outcome = flushed-append (written_note task) _ ∙ written task outcome.flushed outcome.cleared
  where
    regions : (flushed cleared : Option ℕ) → flushed_in (region_note Flushed flushed ++ region_note Cleared cleared) ≡ listed flushed
    regions None None = refl
    regions None (Some r) = refl
    regions (Some f) None = refl
    regions (Some f) (Some r) = refl

    written : (task : Task) (flushed cleared : Option ℕ) → flushed_in (written_note task) ++ flushed_in (region_note Flushed flushed ++ region_note Cleared cleared) ≡ listed flushed
    written (Putting key) f c = regions f c
    written (Deleting key) f c = regions f c
    written Filling f c = regions f c
    written Flushing f c = regions f c

closing_rest : (task : Task) (outcome : Outcome) → rests_from true (closing_notes task outcome) ≡ true
closing_rest task outcome = ends-both (written_note task) _ (written task) (regions outcome.flushed outcome.cleared)
  where
    regions : (flushed cleared : Option ℕ) → rests_from true (region_note Flushed flushed ++ region_note Cleared cleared) ≡ true
    regions None None = refl
    regions None (Some r) = refl
    regions (Some f) None = refl
    regions (Some f) (Some r) = refl

    written : (task : Task) → rests_from true (written_note task) ≡ true
    written (Putting key) = refl
    written (Deleting key) = refl
    written Filling = refl
    written Flushing = refl

pub settled_flushed : (task : Task) (outcome : Outcome) (nvm : Nvm) → flushed_in (settled task outcome nvm).part ≡ listed outcome.flushed
settled_flushed task outcome nvm =
    let h = holds outcome nvm in
    let r = raise (ends_with task) h.nvm in
    flushed-append h.part (r.part ++ closing_notes task outcome) ∙ (λ i. (holds_shaped outcome nvm).unflushed i ++ flushed_in (r.part ++ closing_notes task outcome))
    ∙ flushed-append r.part (closing_notes task outcome) ∙ (λ i. (raise_shaped (ends_with task) h.nvm).unflushed i ++ flushed_in (closing_notes task outcome)) ∙ closing_flushed task outcome

pub settled_rest : (task : Task) (outcome : Outcome) (nvm : Nvm) → outcome.opened ≡ None → rests_from true (settled task outcome nvm).part ≡ true
settled_rest task outcome nvm e =
    let h = holds outcome nvm in
    let r = raise (ends_with task) h.nvm in
    ends-both h.part (r.part ++ closing_notes task outcome) (holds_rest outcome nvm e) (ends-both r.part (closing_notes task outcome) (raised_rest (filter (ends_with task) h.nvm.tombstones)) (closing_rest task outcome))

pub settled_fills : (task : Task) (outcome : Outcome) (nvm : Nvm) → (settled task outcome nvm).nvm.fills ≡ nvm.fills
settled_fills task outcome nvm = (holds_shaped outcome nvm).fills

-- ---- the cache

pub both_told : (cache : Cache) (first : Told) (f : Cache → Told) → ShapedPart cache first → ((c : Cache) → ShapedPart c (f c)) → ShapedPart cache (and_then first f)
both_told cache first f p q = record {
  unflushed = none-append first.part (f first.cache).part p.unflushed (q first.cache).unflushed;
  fewer = both_fewer (fills_of cache.nvm) (fills_of first.cache.nvm) (fills_of (f first.cache).cache.nvm) p.fewer (q first.cache).fewer;
}

none_told : (cache : Cache) → ShapedPart cache (tells [] cache)
none_told cache = record { unflushed = refl; fewer = λ key h. h }

-- such a piece tells no region flushed
unflushed_by : (notes : List Note) → Aside notes → flushed_in notes ≡ []
unflushed_by [] h = refl
unflushed_by (Begin call client op ∷ notes) h = absurd h
unflushed_by (Did call reply ∷ notes) h = absurd h
unflushed_by (End call ∷ notes) h = absurd h
unflushed_by (Read page result ∷ notes) h = absurd h
unflushed_by (Wrote page bytes is_written ∷ notes) h = absurd h
unflushed_by (Flushed region ∷ notes) h = absurd h
unflushed_by (note ∷ notes) h = unflushed_by notes h

shaped_by : (cache : Cache) (told : Told) → Aside told.part → fills_of told.cache.nvm ≡ fills_of cache.nvm → ShapedPart cache told
shaped_by cache told aside fills = record { unflushed = unflushed_by told.part aside; fewer = same_fewer (fills_of cache.nvm) (fills_of told.cache.nvm) fills }

pub make_charge_shaped : (pool : ℕ) (key : List ℕ) (size : ℕ) (cache : Cache) → ShapedPart cache (make_charge pool key size cache)
make_charge_shaped pool key size cache =
    let want = charge_of key size in
    let room = room_aside pool want cache in
    both_told cache (make_room pool want cache) (charge pool key size) (shaped_by cache (make_room pool want cache) room.aside room.fills) (λ c. record { unflushed = refl; fewer = λ k h. h })

pub uproot_shaped : (key : List ℕ) (cache : Cache) → ShapedPart cache (uproot key cache)
uproot_shaped key cache = let u = uproot_aside key cache in shaped_by cache (uproot key cache) u.aside u.fills

pub plant_shaped : (handle : Handle) (cache : Cache) → ShapedPart cache (plant handle cache)
plant_shaped handle cache = let p = plant_aside handle cache in shaped_by cache (plant handle cache) p.aside p.fills

serve_shaped : (call : ℕ) (wish : Wish) (there : Option FlashEntry) (cache : Cache) → ShapedPart cache (serve call wish there cache)
serve_shaped call ToFind there cache = record { unflushed = refl; fewer = λ k h. h }
serve_shaped call (ToAdd handle) (Some entry) cache = record { unflushed = refl; fewer = λ k h. h }
serve_shaped call (ToAdd handle) None cache = both_told cache (plant handle cache) (answer call Stored) (plant_shaped handle cache) (λ c. record { unflushed = refl; fewer = λ k h. h })

-- each call that is served ends with its Did
serve_ends : (call : ℕ) (wish : Wish) (there : Option FlashEntry) (cache : Cache) → rests_from true (serve call wish there cache).part ≡ true
serve_ends call ToFind there cache = refl
serve_ends call (ToAdd handle) (Some entry) cache = refl
serve_ends call (ToAdd handle) None cache = ends-last true (plant handle cache).part (Did call Stored ∷ []) refl

pub serve_all_shaped : (waiters : List Waiter) (there : Option FlashEntry) (cache : Cache) → ShapedPart cache (serve_all waiters there cache)
serve_all_shaped [] there cache = none_told cache
serve_all_shaped (waiter ∷ waiters) there cache =
    both_told cache (serve waiter.call waiter.wish (live cache.now there) cache) (serve_all waiters (there_after waiter.wish (live cache.now there))) (serve_shaped waiter.call waiter.wish (live cache.now there) cache) (serve_all_shaped waiters (there_after waiter.wish (live cache.now there)))

pub serve_all_ends : (waiters : List Waiter) (there : Option FlashEntry) (cache : Cache) → rests_from true (serve_all waiters there cache).part ≡ true
serve_all_ends [] there cache = refl
serve_all_ends (waiter ∷ waiters) there cache =
    let first = serve waiter.call waiter.wish (live cache.now there) cache in
    ends-both first.part (serve_all waiters (there_after waiter.wish (live cache.now there)) first.cache).part (serve_ends waiter.call waiter.wish (live cache.now there) cache) (serve_all_ends waiters (there_after waiter.wish (live cache.now there)) first.cache)

pub end_fill_shaped : (key : List ℕ) (there : Option FlashEntry) (cache : Cache) → ShapedPart cache (end_fill key there cache)
end_fill_shaped key there cache = go cache.nvm refl
  where
    serves : (o : Option Fill) (nvm : Nvm) → cache.nvm ≡ Some nvm → ShapedPart cache (serve_fill o nvm there cache)
    serves None nvm e = none_told cache
    serves (Some one) nvm e =
        let less = record nvm { fills = without_fill one.key nvm.fills } in
        let q = serve_all_shaped one.waiters there (with_nvm less cache) in
        record { unflushed = q.unflushed; fewer = both_fewer (fills_of cache.nvm) less.fills _ (λ k h. without_fewer one.key nvm.fills k (sym (ap (λ n. fill_at k (fills_of n)) e) ∙ h)) q.fewer }

    go : (nvm : Option Nvm) → cache.nvm ≡ nvm → ShapedPart cache (end_fill_of nvm key there cache)
    go None e = none_told cache
    go (Some nvm) e = serves (fill_at key nvm.fills) nvm e

pub replies_shaped : (reply : Reply) (f : Cache → Told) → ((c : Cache) → ShapedPart c (f c)) → (cache : Cache) → ShapedPart cache (replies_then reply f cache)
replies_shaped reply f q cache = let b = both_told cache (f cache) (tells (End cache.calls ∷ [])) (q cache) (λ c. record { unflushed = refl; fewer = λ k h. h }) in record { unflushed = b.unflushed; fewer = b.fewer }

-- and a call that is answered at once with its End
pub replies_end : (reply : Reply) (f : Cache → Told) (cache : Cache) → rests_from false (replies_then reply f cache).part ≡ true
replies_end reply f cache = ends-last true (f cache).part (End cache.calls ∷ []) refl

pub bring_shaped : (entry : Option FlashEntry) (cache : Cache) → ShapedPart cache (bring entry cache)
bring_shaped None cache = none_told cache
bring_shaped (Some entry) cache = go (can_link cache entry)
  where
    go : (t : Bool) → ShapedPart cache (if t then and_then (make_charge entry.pool entry.key (length entry.value) cache) (link_clean (handle_for cache entry.pool entry.key entry.value entry.expiry)) else tells [] cache)
    go true = both_told cache (make_charge entry.pool entry.key (length entry.value) cache) (link_clean (handle_for cache entry.pool entry.key entry.value entry.expiry)) (make_charge_shaped entry.pool entry.key (length entry.value) cache) (λ c. record { unflushed = refl; fewer = λ k h. h })
    go false = none_told cache

pub bring_ends : (entry : Option FlashEntry) (cache : Cache) → rests_from true (bring entry cache).part ≡ true
bring_ends None cache = refl
bring_ends (Some entry) cache = go (can_link cache entry)
  where
    go : (t : Bool) → rests_from true (if t then and_then (make_charge entry.pool entry.key (length entry.value) cache) (link_clean (handle_for cache entry.pool entry.key entry.value entry.expiry)) else tells [] cache).part ≡ true
    go true = ends-last true (make_charge entry.pool entry.key (length entry.value) cache).part (Linked (handle_for cache entry.pool entry.key entry.value entry.expiry).number ∷ []) refl
    go false = refl

pub fill_shaped : (filled : Option takes.Filled) (cache : Cache) → ShapedPart cache (fill filled cache)
fill_shaped None cache = none_told cache
fill_shaped (Some filled) cache = both_told cache (bring filled.entry cache) (serve_all filled.waiters filled.entry) (bring_shaped filled.entry cache) (serve_all_shaped filled.waiters filled.entry)

pub fill_ends : (filled : Option takes.Filled) (cache : Cache) → rests_from true (fill filled cache).part ≡ true
fill_ends None cache = refl
fill_ends (Some filled) cache = ends-both (bring filled.entry cache).part (serve_all filled.waiters filled.entry (bring filled.entry cache).cache).part (bring_ends filled.entry cache) (serve_all_ends filled.waiters filled.entry (bring filled.entry cache).cache)
