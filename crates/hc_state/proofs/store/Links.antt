-- The last of the items that calls store is linked for all of them.
use Rattle.std.proofs.Common.{◌≡◌, ℕ, ◌+◌, ◌<◌, ◌++◌, Bool, true, false, List, [], ◌∷◌, length, Option, Some, None, refl, sym, ap, ◌∙◌, subst, suc, arith, drop, get_or}
use Rattle.std.specs.Prelude.{option_to_list, ⊤}
use Rattle.std.specs.Option.{option_map_or}
use Rattle.std.proofs.lemmas.List.{drop_more}
use Rattle.hc_types.specs.FlashEntry.{FlashEntry}
use Rattle.hc_memory.specs.Item.{Open, Handle, charge_by}
use Rattle.hc_memory.specs.Charges.{is_open, closed, all_closed}
use Rattle.hc_memory.specs.Memory.{Memory, after_frees, after_link, after_unlink, early}
use Rattle.hc_machine.specs.Nvm.{Nvm, Waiter, Wish, ToFind, ToAdd, Fill, fill_at}
use Rattle.hc_machine.specs.Waiting.{live, there_after}
use Rattle.hc_invariant.specs.Jobs.{WishHolds, AllWish}
use Rattle.hc_nvm.specs.Asked.{calls_of}
use Rattle.hc_state.specs.wait.Commit.{stored_by, all_stored, waiters_at}
use Rattle.hc_state.specs.wait.Courses.{IsCourse, AreCourses}
use Rattle.hc_state.specs.store.Chosen.{stored_as, all_stored_as, last_of, before_last}
use Rattle.hc_state.specs.declared.wait.commit.Course.{Course}
use Rattle.hc_state.specs.declared.wait.commit.Course.TheVariants.{Find, Exists, Store}
use Rattle.hc_state.specs.store.Link.{removed_early}

all_closed-push : (numbers : List ℕ) (n : ℕ) (charges : List Open) → all_closed (numbers ++ n ∷ []) charges ≡ closed n (all_closed numbers charges)
all_closed-push [] n charges = refl
all_closed-push (number ∷ numbers) n charges = all_closed-push numbers n (closed number charges)

-- one is linked after others, whose charges end
linked-early : (numbers : List ℕ) (handle : Handle) (handles : List Handle) (last : Handle) (m : Memory) → last_of (Some handle) handles ≡ Some last
    → early (handle ∷ handles) (after_frees numbers m) ≡ after_link (after_frees (before_last numbers (Some handle) handles) m) false last
linked-early numbers handle [] last m is = ap (λ (o : Option Handle). link_some o) is
  where
    link_some : Option Handle → Memory
    link_some None = m
    link_some (Some h) = after_link (after_frees numbers m) false h
linked-early numbers handle (next ∷ handles) last m is =
    ap (λ (charges : List Open). early (next ∷ handles) (record m { charges = charges })) (sym (all_closed-push numbers handle.number m.charges))
    ∙ linked-early (numbers ++ handle.number ∷ []) next handles last m is

-- of an insert
pub linked-with : (handle : Handle) (handles : List Handle) (last : Handle) (m : Memory) → Some last ≡ last_of None handles
    → after_link (after_frees (before_last (handle.number ∷ []) None handles) m) false last ≡ early (handle ∷ handles) m
linked-with handle [] last m is = absurd cc
linked-with handle (next ∷ handles) last m is = sym (linked-early (handle.number ∷ []) next handles last m (sym is))

-- of a remove
pub linked-without : (key : List ℕ) (handles : List Handle) (last : Handle) (m : Memory) → Some last ≡ last_of None handles
    → after_link (after_frees (before_last [] None handles) m) false last ≡ removed_early key handles m
linked-without key [] last m is = absurd cc
linked-without key (next ∷ handles) last m is = sym (linked-early [] next handles last m (sym is))

last_there : (handle : Handle) (handles : List Handle) → None ≡ last_of (Some handle) handles → ⊥
last_there handle [] is = cc
last_there handle (next ∷ handles) is = last_there next handles is

-- none is stored
pub none-last : (handles : List Handle) → None ≡ last_of None handles → handles ≡ []
none-last [] is = refl
none-last (handle ∷ handles) is = absurd (last_there handle handles is)

-- ---- what is known of each is known of the last

-- it is of the key, and its charge is open
abbrev pub IsWaiting : Memory → List ℕ → Handle → Type 0
IsWaiting memory key handle = (handle.key ≡ key) × (is_open (charge_by handle) memory.charges ≡ true)

abbrev IsWaitingIf : Memory → List ℕ → Option Handle → Type 0
IsWaitingIf memory key None = ⊤
IsWaitingIf memory key (Some handle) = IsWaiting memory key handle

last_waits : {A : Type 0} (memory : Memory) (key : List ℕ) (last : Option Handle) (waiters : List Waiter) (courses : List (Course A)) → IsWaitingIf memory key last → AllWish memory key waiters → IsWaitingIf memory key (last_of last (all_stored_as waiters courses))
last_waits memory key last [] courses h wishes = h
last_waits memory key last (w ∷ waiters) [] h wishes = h
last_waits {A = A} memory key last (w ∷ waiters) (c ∷ courses) h wishes = by w.wish c wishes.0 (λ now holds. last_waits memory key now waiters courses holds wishes.1)
  where
    by : (wish : Wish) (c : Course A) → WishHolds memory key wish → ((now : Option Handle) → IsWaitingIf memory key now → IsWaitingIf memory key (last_of now (all_stored_as waiters courses)))
        → IsWaitingIf memory key (last_of last (option_to_list (stored_as wish c) ++ all_stored_as waiters courses))
    by ToFind (Find told reply) holds rest = rest last h
    by ToFind Exists holds rest = rest last h
    by ToFind (Store plan) holds rest = rest last h
    by (ToAdd handle) (Find told reply) holds rest = rest last h
    by (ToAdd handle) Exists holds rest = rest last h
    by (ToAdd handle) (Store plan) holds rest = rest (Some handle) holds

pub last-waits : {A : Type 0} (memory : Memory) (key : List ℕ) (waiters : List Waiter) (courses : List (Course A)) (last : Handle) → AllWish memory key waiters → Some last ≡ last_of None (all_stored_as waiters courses) → IsWaiting memory key last
last-waits memory key waiters courses last wishes is = subst (λ o. IsWaitingIf memory key o) (sym is) (last_waits memory key None waiters courses tt wishes)

-- ---- by a plan those are stored that the machine stores

one_stored : {A : Type 0} (keeps : Bool) (key : List ℕ) (wish : Wish) (there : Option FlashEntry) (course : Course A) → IsCourse keeps key wish there course → option_to_list (stored_as wish course) ≡ stored_by wish there
one_stored keeps key ToFind there (Find told reply) h = refl
one_stored keeps key ToFind there Exists h = absurd h
one_stored keeps key ToFind there (Store plan) h = absurd h
one_stored keeps key (ToAdd handle) (Some entry) (Find told reply) h = absurd h
one_stored keeps key (ToAdd handle) (Some entry) Exists h = refl
one_stored keeps key (ToAdd handle) (Some entry) (Store plan) h = absurd h
one_stored keeps key (ToAdd handle) None (Find told reply) h = absurd h
one_stored keeps key (ToAdd handle) None Exists h = absurd h
one_stored keeps key (ToAdd handle) None (Store plan) h = refl

pub stored-there : {A : Type 0} (keeps : Bool) (key : List ℕ) (now : ℕ) (waiters : List Waiter) (there : Option FlashEntry) (courses : List (Course A)) → AreCourses keeps key now waiters there courses → all_stored_as waiters courses ≡ all_stored now waiters there
stored-there keeps key now [] there [] h = refl
stored-there keeps key now [] there (c ∷ courses) h = absurd h
stored-there keeps key now (w ∷ waiters) there [] h = absurd h
stored-there keeps key now (w ∷ waiters) there (c ∷ courses) h =
    let given = live now there in
    (λ i. one_stored keeps key w.wish given c h.0 i ++ stored-there keeps key now waiters (there_after w.wish given) courses h.1 i)

pub courses-long : {A : Type 0} (keeps : Bool) (key : List ℕ) (now : ℕ) (waiters : List Waiter) (there : Option FlashEntry) (courses : List (Course A)) → AreCourses keeps key now waiters there courses → length courses ≡ length waiters
courses-long keeps key now [] there [] h = refl
courses-long keeps key now [] there (c ∷ courses) h = absurd h
courses-long keeps key now (w ∷ waiters) there [] h = absurd h
courses-long keeps key now (w ∷ waiters) there (c ∷ courses) h = ap suc (courses-long keeps key now waiters (there_after w.wish (live now there)) courses h.1)

-- ---- what is linked, as the code links it

pub link-alone : (handle : Handle) (handles : List Handle) (m : Memory) → None ≡ last_of None handles → after_link (after_frees [] m) false handle ≡ early (handle ∷ handles) m
link-alone handle handles m is = ap (λ hs. early (handle ∷ hs) m) (sym (none-last handles is))

pub link-last : (handle : Handle) (handles : List Handle) (last : Handle) (earlier : List ℕ) (m : Memory) → Some last ≡ last_of None handles → earlier ≡ before_last (handle.number ∷ []) None handles
    → after_link (after_frees earlier m) false last ≡ early (handle ∷ handles) m
link-last handle handles last earlier m is ends = ap (λ ns. after_link (after_frees ns m) false last) ends ∙ linked-with handle handles last m is

pub unlink-alone : (key : List ℕ) (handles : List Handle) (m : Memory) → None ≡ last_of None handles → after_unlink m key ≡ removed_early key handles m
unlink-alone key handles m is = ap (λ hs. removed_early key hs m) (sym (none-last handles is))

pub unlink-last : (key : List ℕ) (handles : List Handle) (last : Handle) (earlier : List ℕ) (m : Memory) → Some last ≡ last_of None handles → earlier ≡ before_last [] None handles
    → after_link (after_frees earlier m) false last ≡ removed_early key handles m
unlink-last key handles last earlier m is ends = ap (λ ns. after_link (after_frees ns m) false last) ends ∙ linked-without key handles last m is

-- ---- the item that is stored last

-- the next of the calls, and those behind it
pub stored-next : {A : Type 0} (waiters : List Waiter) (courses : List (Course A)) (i : ℕ) (waiter : Waiter) (course : Course A) → length courses ≡ length waiters → i < length waiters → waiter ≡ get_or waiters i waiter → course ≡ get_or courses i course
    → all_stored_as (drop i waiters) (drop i courses) ≡ option_to_list (stored_as waiter.wish course) ++ all_stored_as (drop (i + 1) waiters) (drop (i + 1) courses)
stored-next waiters courses i waiter course long less at planned =
    let ws : drop i waiters ≡ waiter ∷ drop (i + 1) waiters = drop_more waiters i waiter less ∙ ap (λ (w : Waiter). w ∷ drop (i + 1) waiters) (sym at) in
    let cs : drop i courses ≡ course ∷ drop (i + 1) courses = drop_more courses i course (omega (arith, long, less)) ∙ ap (λ k. k ∷ drop (i + 1) courses) (sym planned) in
    λ j. all_stored_as (ws j) (cs j)

-- the calls that wait for a key are those of its fill
calls-of : (fill : Option Fill) → calls_of fill ≡ option_map_or (λ (fill : Fill). fill.waiters) fill []
calls-of None = refl
calls-of (Some fill) = refl

pub calls-at : (nvm : Nvm) (key : List ℕ) → calls_of (fill_at key nvm.fills) ≡ waiters_at (Some nvm) key
calls-at nvm key = calls-of (fill_at key nvm.fills)
