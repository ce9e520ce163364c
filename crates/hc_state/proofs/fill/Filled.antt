-- A fill ends as the machine has it, though what it links is linked before flash tells anything.
use Rattle.std.proofs.Common.{◌≡◌, ℕ, ◌+◌, ◌||◌, ◌&&◌, not, nat_lt, Bool, true, false, List, [], ◌∷◌, length, Option, Some, None, is_some, if◌then◌else◌, refl, sym, ap, ◌∙◌}
use Rattle.std.specs.Prelude.{option_map}
use mathlib.Core.Bool.{cond}
use Rattle.std.proofs.lemmas.List.{length-map}
use Rattle.hc_types.specs.Charge.{charge_of}
use Rattle.hc_types.specs.Loss.{Scope, covers}
use Rattle.hc_types.specs.FlashEntry.{FlashEntry}
use Rattle.hc_types.specs.declared.config.FlashConfig.{FlashConfig}
use Rattle.hc_types.specs.declared.refusal.Refusal.{Refusal}
use Rattle.hc_types.specs.declared.refusal.Refusal.TheVariants.{NoPool, ValueTooLong, NoRoom}
use Rattle.hc_engines.specs.Engine.{Loss}
use Rattle.hc_memory.specs.Item.{Item}
use Rattle.hc_memory.specs.Pool.{Pool, unmarked_where, is_covered}
use Rattle.hc_memory.specs.Memory.{Memory, linked_at, victims_of, after_room, after_unmark, early}
use Rattle.hc_machine.specs.items.Allocating.{refusal_of}
use Rattle.hc_history.specs.Note.{Note, Lose, Charged, Linked}
use Rattle.hc_machine.specs.Nvm.{Nvm, Waiter, Wish, ToFind, ToAdd}
use Rattle.hc_machine.specs.Leaving.{is_over}
use Rattle.hc_machine.specs.Takes.{Filled, loss_notes}
use Rattle.hc_machine.specs.Cache.{Cache, Told, tells, and_then, behind, with_memory, unmarked_by, takes_in}
use Rattle.hc_machine.specs.Evicting.{leaves, leaves_for, all_leave, charge, handle_for}
use Rattle.hc_machine.specs.Waiting.{live, serve, there_after, serve_all}
use Rattle.hc_machine.specs.Workers.{can_link, link_clean, bring, fill}
use Rattle.hc_memory.proofs.Commuting.{unmark-early, unmark-found, unmark-hopeless, unmark-victims, unmark-bring}
use Rattle.hc_state.specs.wait.Commit.{all_stored, served_by, all_served, stands_after}
use Rattle.hc_state.specs.fill.Link.{can_bring, brought_in, brought_by, is_lost, marked_by, all_marked_by}
use Rattle.hc_state.proofs.wait.Served.{Fits, AllFit, number_at, unmarked-over, fits-unmarked, served-over}
use Rattle.hc_state.proofs.allocate.Evicts.{all_leave-memory}

-- ---- what the marks that are taken leave as it was

found-unmarked : {X : Type 0} (f : Item → X) → ((x : Item) → f (record x { clean = false }) ≡ f x) → (part : List Note) (m : Memory) (key : List ℕ) → option_map f (linked_at key (unmarked_by part m).pools) ≡ option_map f (linked_at key m.pools)
found-unmarked f same [] m key = refl
found-unmarked f same (Lose scope cause ∷ notes) m key = found-unmarked f same notes (after_unmark m scope) key ∙ unmark-found f same m scope key
found-unmarked f same (note ∷ notes) m key = found-unmarked f same notes m key

made-unmarked : (part : List Note) (m : Memory) → (unmarked_by part m).made ≡ m.made
made-unmarked [] m = refl
made-unmarked (Lose scope cause ∷ notes) m = made-unmarked notes (after_unmark m scope)
made-unmarked (note ∷ notes) m = made-unmarked notes m

abbrev refused_if : ℕ → ℕ → ℕ → Bool → Option Refusal
refused_if pool count size hopeless = if not (nat_lt pool count) then Some NoPool else (if nat_lt 1048576 size then Some ValueTooLong else (if hopeless then Some NoRoom else None))

refusal-unmark : (m : Memory) (s : Scope) (pool : ℕ) (key : List ℕ) (size : ℕ) → refusal_of (after_unmark m s) pool key size ≡ refusal_of m pool key size
refusal-unmark m s pool key size =
    let count : length (after_unmark m s).pools ≡ length m.pools = length-map m.pools (λ (pool : Pool). record pool { items = unmarked_where (is_covered m.flash s) pool.items }) in
    λ i. refused_if pool (count i) size (unmark-hopeless m s pool (charge_of key size) i)

refusal-unmarked : (part : List Note) (m : Memory) (pool : ℕ) (key : List ℕ) (size : ℕ) → refusal_of (unmarked_by part m) pool key size ≡ refusal_of m pool key size
refusal-unmarked [] m pool key size = refl
refusal-unmarked (Lose scope cause ∷ notes) m pool key size = refusal-unmarked notes (after_unmark m scope) pool key size ∙ refusal-unmark m scope pool key size
refusal-unmarked (note ∷ notes) m pool key size = refusal-unmarked notes m pool key size

-- whether what was found can be linked doesn't depend on what flash tells
pub can_bring-told : (part : List Note) (nvm : Nvm) (entry : Option FlashEntry) (c : Cache) → can_bring (takes_in part nvm c).cache entry ≡ can_bring c entry
can_bring-told part nvm None c = refl
can_bring-told part nvm (Some entry) c = ap (λ o. is_some (live c.now (Some entry)) && not (is_some o)) (refusal-unmarked part c.memory entry.pool entry.key (length entry.value))

-- ---- nothing is brought

brings-none : (entry : Option FlashEntry) (c : Cache) → can_bring c entry ≡ false → bring entry c ≡ tells [] c
brings-none None c cannot = refl
brings-none (Some entry) c cannot = rw cannot refl

-- where nothing can be brought, the calls that wait are served: the last item that they store is linked already
pub filled-over : (key : List ℕ) (pools : ℕ) (part : List Note) (nvm : Nvm) (filled : Filled) (c : Cache) → can_bring c filled.entry ≡ false → AllFit key pools filled.waiters → Fits key pools c.memory → linked_at key c.memory.pools ≡ None
    → and_then (takes_in part nvm (with_memory (early (all_stored c.now filled.waiters filled.entry) c.memory) c)) (all_served filled.waiters filled.entry None) ≡ and_then (takes_in part nvm c) (fill (Some filled))
filled-over key pools part nvm filled c cannot all fits none =
    let hs = all_stored c.now filled.waiters filled.entry in
    let after = (takes_in part nvm c).cache in
    let stands : None ≡ number_at key after.memory = sym (found-unmarked (λ (item : Item). item.number) (λ x. refl) part c.memory key ∙ ap (option_map (λ (item : Item). item.number)) none) in
    let served = served-over key pools filled.waiters filled.entry None after all (fits-unmarked key pools part c.memory fits) stands in
    let bare = brings-none filled.entry after (can_bring-told part nvm filled.entry c ∙ cannot) in
    ap (λ (m : Memory). and_then (tells part (record c { memory = m; nvm = Some nvm })) (all_served filled.waiters filled.entry None)) (unmarked-over (early hs) (λ m s. unmark-early hs m s) part c.memory)
    ∙ ap (behind part) (served ∙ ap (λ (told : Told). and_then told (serve_all filled.waiters filled.entry)) (sym bare))

-- ---- calls that wait for what is there

-- where the key has a value, each call that waits is served the same, whatever item the key has
pub served-there : (waiters : List Waiter) (entry : FlashEntry) (standing : Option ℕ) (c : Cache) → is_over c.now entry ≡ false → all_served waiters (Some entry) standing c ≡ serve_all waiters (Some entry) c
served-there [] entry standing c fresh = refl
served-there (waiter ∷ waiters) entry standing c fresh = rw fresh (by waiter.wish (λ mid same. served-there waiters entry standing mid (ap (λ now. is_over now entry) same ∙ fresh)))
  where
    by : (wish : Wish) → ((mid : Cache) → mid.now ≡ c.now → all_served waiters (Some entry) standing mid ≡ serve_all waiters (Some entry) mid)
        → and_then (served_by waiter.call wish (Some entry) standing c) (all_served waiters (there_after wish (Some entry)) (stands_after wish (Some entry) standing)) ≡ and_then (serve waiter.call wish (Some entry) c) (serve_all waiters (there_after wish (Some entry)))
    by ToFind more = let one = serve waiter.call ToFind (Some entry) c in ap (behind one.part) (more one.cache refl)
    by (ToAdd handle) more = let one = serve waiter.call (ToAdd handle) (Some entry) c in ap (behind one.part) (more one.cache refl)

-- ---- an entry is linked

module _ (entry : FlashEntry) where
  abbrev pub want_of : ℕ
  want_of = charge_of entry.key (length entry.value)

  -- it is linked as the machine does it, where the pools did it already
  pub bring-over : (c : Cache) → can_link c entry ≡ true
      → brought_by (c.memory.made + 1) entry.pool entry.key want_of (victims_of c.memory entry.pool want_of) (with_memory (brought_in entry c.memory) c) ≡ bring (Some entry) c
  bring-over c can =
      let victims = victims_of c.memory entry.pool want_of in
      let left = all_leave entry.pool want_of victims c in
      let telling = λ (told : Told). and_then (and_then told (tells (Charged (c.memory.made + 1) entry.key entry.pool want_of ∷ []))) (tells (Linked (c.memory.made + 1) ∷ [])) in
      let room = after_room c.memory entry.pool want_of in
      let h = handle_for c entry.pool entry.key entry.value entry.expiry in
      rw can (ap telling (all_leave-memory (brought_in entry c.memory) entry.pool want_of victims c)
      ∙ ap (λ (told : Told). and_then (and_then told (charge entry.pool entry.key (length entry.value))) (link_clean h)) (sym (all_leave-memory room entry.pool want_of victims c)))

-- ---- the clock stands

leaves_if-now : (nvm : Option Nvm) (pool want : ℕ) (item : Item) (c : Cache) (clean : Bool) → (cond clean (tells [] c) (leaves_for nvm pool want item c)).cache.now ≡ c.now
leaves_if-now nvm pool want item c true = refl
leaves_if-now None pool want item c false = refl
leaves_if-now (Some nvm) pool want item c false = refl

all_leave-now : (pool want : ℕ) (items : List Item) (c : Cache) → (all_leave pool want items c).cache.now ≡ c.now
all_leave-now pool want [] c = refl
all_leave-now pool want (item ∷ items) c = all_leave-now pool want items (leaves pool want item c).cache ∙ leaves_if-now c.nvm pool want item c item.clean

-- ---- marks that are taken as an entry is linked

left-flash : (losses : List Loss) (m : Memory) → (unmarked_by (loss_notes losses) m).flash ≡ m.flash
left-flash [] m = refl
left-flash (loss ∷ losses) m = left-flash losses (after_unmark m loss.scope)

none-both : (a b : Bool) → (a || b) ≡ false → (a ≡ false) × (b ≡ false)
none-both true b e = absurd cc
none-both false b e = (refl, e)

-- losses that don't cover it take their marks before or after it
brought-marks : (losses : List Loss) (entry : FlashEntry) (m : Memory) → is_lost m.flash losses entry.key (length entry.value) ≡ false → unmarked_by (loss_notes losses) (brought_in entry m) ≡ brought_in entry (unmarked_by (loss_notes losses) m)
brought-marks [] entry m apart = refl
brought-marks (loss ∷ losses) entry m apart =
    let both = none-both (covers m.flash loss.scope entry.key (length entry.value)) (is_lost m.flash losses entry.key (length entry.value)) apart in
    ap (unmarked_by (loss_notes losses)) (unmark-bring m loss.scope entry.pool entry.key entry.value entry.expiry both.0)
    ∙ brought-marks losses entry (after_unmark m loss.scope) both.1

marked-again : (flash : Option FlashConfig) (loss : Loss) (losses : List Loss) (item : Item) → marked_by flash losses (if is_covered flash loss.scope item then record item { clean = false } else item) ≡ marked_by flash (loss ∷ losses) item
marked-again flash loss losses item = by (is_covered flash loss.scope item) (is_lost flash losses item.key (length item.value))
  where
    by : (covered lost : Bool) → marked_by flash losses (cond covered (record item { clean = false }) item) ≡ cond (covered || is_lost flash losses item.key (length item.value)) (record item { clean = false }) item
    by true true = again (is_lost flash losses item.key (length item.value))
      where
        again : (b : Bool) → cond b (record item { clean = false }) (record item { clean = false }) ≡ record item { clean = false }
        again true = refl
        again false = refl
    by true false = again (is_lost flash losses item.key (length item.value))
      where
        again : (b : Bool) → cond b (record item { clean = false }) (record item { clean = false }) ≡ record item { clean = false }
        again true = refl
        again false = refl
    by false lost = refl

all-marked-again : (flash : Option FlashConfig) (loss : Loss) (losses : List Loss) (items : List Item) → all_marked_by flash losses (unmarked_where (is_covered flash loss.scope) items) ≡ all_marked_by flash (loss ∷ losses) items
all-marked-again flash loss losses [] = refl
all-marked-again flash loss losses (item ∷ items) = λ i. marked-again flash loss losses item i ∷ all-marked-again flash loss losses items i

all-marked-none : (flash : Option FlashConfig) (items : List Item) → items ≡ all_marked_by flash [] items
all-marked-none flash [] = refl
all-marked-none flash (item ∷ items) = ap (λ xs. item ∷ xs) (all-marked-none flash items)

-- the items that go are the same, with their marks taken
pub victims-marks : (losses : List Loss) (m : Memory) (pool want : ℕ) → victims_of (unmarked_by (loss_notes losses) m) pool want ≡ all_marked_by m.flash losses (victims_of m pool want)
victims-marks [] m pool want = all-marked-none m.flash (victims_of m pool want)
victims-marks (loss ∷ losses) m pool want =
    victims-marks losses (after_unmark m loss.scope) pool want
    ∙ ap (all_marked_by m.flash losses) (unmark-victims m loss.scope pool want)
    ∙ all-marked-again m.flash loss losses (victims_of m pool want)

-- ---- an entry is brought

over-fresh : (over more : Bool) (entry : FlashEntry) → (is_some (if over then None else Some entry) && more) ≡ true → over ≡ false
over-fresh true more entry can = absurd cc
over-fresh false more entry can = refl

-- an entry that can be linked isn't expired
pub can-fresh : (c : Cache) (entry : FlashEntry) → can_link c entry ≡ true → is_over c.now entry ≡ false
can-fresh c entry can = over-fresh (is_over c.now entry) (not (is_some (refusal_of c.memory entry.pool entry.key (length entry.value)))) entry can

pub brought-now : (entry : FlashEntry) (number want : ℕ) (victims : List Item) (c : Cache) → (brought_by number entry.pool entry.key want victims c).cache.now ≡ c.now
brought-now entry number want victims c = all_leave-now entry.pool want victims c

-- what was found is linked as the machine does it, and the calls that wait are served, where it was linked before flash told its losses
pub filled-brought : (losses : List Loss) (part : List Note) (nvm : Nvm) (entry : FlashEntry) (waiters : List Waiter) (standing : Option ℕ) (c : Cache)
    → ((m : Memory) → unmarked_by part m ≡ unmarked_by (loss_notes losses) m) → can_link c entry ≡ true → is_lost c.memory.flash losses entry.key (length entry.value) ≡ false
    → and_then (takes_in part nvm (with_memory (brought_in entry c.memory) c)) (λ mid. and_then (brought_by (c.memory.made + 1) entry.pool entry.key (want_of entry) (all_marked_by c.memory.flash losses (victims_of c.memory entry.pool (want_of entry))) mid) (all_served waiters (Some entry) standing))
    ≡ and_then (takes_in part nvm c) (fill (Some (record { entry = Some entry; waiters = waiters })))
filled-brought losses part nvm entry waiters standing c same can apart =
    let after = (takes_in part nvm c).cache in
    let could : can_link after entry ≡ true = can_bring-told part nvm (Some entry) c ∙ can in
    let memory : unmarked_by part (brought_in entry c.memory) ≡ brought_in entry after.memory = same (brought_in entry c.memory) ∙ brought-marks losses entry c.memory apart ∙ ap (brought_in entry) (sym (same c.memory)) in
    let victims : all_marked_by c.memory.flash losses (victims_of c.memory entry.pool (want_of entry)) ≡ victims_of after.memory entry.pool (want_of entry) =
    sym (victims-marks losses c.memory entry.pool (want_of entry)) ∙ ap (λ (m : Memory). victims_of m entry.pool (want_of entry)) (sym (same c.memory)) in
    let brought = bring (Some entry) after in
    let brings = bring-over entry after could in
    let serve_then = all_served waiters (Some entry) standing in
    let now : brought.cache.now ≡ c.now = ap (λ (told : Told). told.cache.now) (sym brings) ∙ brought-now entry (after.memory.made + 1) (want_of entry) (victims_of after.memory entry.pool (want_of entry)) (with_memory (brought_in entry after.memory) after) in
    (λ i. behind part (and_then (brought_by (sym (made-unmarked part c.memory) i + 1) entry.pool entry.key (want_of entry) (victims i) (with_memory (memory i) after)) serve_then))
    ∙ ap (λ (told : Told). behind part (and_then told serve_then)) brings
    ∙ ap (λ (told : Told). behind part (behind brought.part told)) (served-there waiters entry standing brought.cache (ap (λ now. is_over now entry) now ∙ can-fresh c entry can))
