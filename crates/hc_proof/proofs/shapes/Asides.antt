-- Pieces of a step that leave the calls, the open charges, the fills and the jobs as they are: what is evicted, and what a key leaves.
use Rattle.std.proofs.Common.{◌≡◌, ℕ, Bool, true, false, List, [], ◌∷◌, ◌++◌, Option, Some, None, refl, ap, sym, ◌∙◌}
use Rattle.std.specs.Prelude.{if◌then◌else◌, is_some}
use Rattle.hc_types.specs.Loss.{Cause}
use Rattle.hc_types.specs.FlashEntry.{FlashEntry}
use Rattle.hc_memory.specs.Item.{Item, Handle}
use Rattle.hc_memory.specs.Charges.{closed}
use Rattle.hc_memory.specs.Memory.{Memory, linked_at, victims_of, after_room, after_unlink, after_unmark}
use Rattle.hc_history.specs.Note.{Note, Lose, Begin, Did, End, Read, Wrote, Flushed, Linked}
use Rattle.hc_engines.specs.pair.Pair.{is_indexed}
use Rattle.hc_machine.specs.Nvm.{Nvm, put_at, is_due}
use Rattle.hc_machine.specs.Leaving as leaving
use Rattle.hc_machine.specs.Leaving.{Changed, cause_for, waits_unless, evicted, unqueue, bury, unindex, outdate}
use Rattle.hc_machine.specs.Cache.{Cache, Told, tells, and_then, with_memory, on_flash_of, on_flash, unmarked_by}
use Rattle.hc_machine.specs.Evicting.{entry_of_item, leaves_for, leaves, all_leave, make_room}
use Rattle.hc_machine.specs.Waiting.{freed_note, clear, uproot, plant}
use Rattle.hc_machine.specs.Quiet.{jobs_in}
use Rattle.hc_invariant.specs.Good.{fills_of}
use Rattle.hc_proof.specs.shapes.Asides.{Aside, Answering, AsideChange, AsidePart}

-- ---- notes

pub aside-append : (one two : List Note) → Aside one → Aside two → Aside (one ++ two)
aside-append [] two p q = q
aside-append (Begin call client op ∷ one) two p q = absurd p
aside-append (Did call reply ∷ one) two p q = absurd p
aside-append (End call ∷ one) two p q = absurd p
aside-append (Read page result ∷ one) two p q = absurd p
aside-append (Wrote page bytes is_written ∷ one) two p q = absurd p
aside-append (Flushed region ∷ one) two p q = absurd p
aside-append (note ∷ one) two p q = aside-append one two p q

pub answering-append : (one two : List Note) → Answering one → Answering two → Answering (one ++ two)
answering-append [] two p q = q
answering-append (Begin call client op ∷ one) two p q = absurd p
answering-append (End call ∷ one) two p q = absurd p
answering-append (Read page result ∷ one) two p q = absurd p
answering-append (Wrote page bytes is_written ∷ one) two p q = absurd p
answering-append (note ∷ one) two p q = answering-append one two p q

pub answering : (notes : List Note) → Aside notes → Answering notes
answering [] p = tt
answering (Begin call client op ∷ notes) p = absurd p
answering (Did call reply ∷ notes) p = absurd p
answering (End call ∷ notes) p = absurd p
answering (Read page result ∷ notes) p = absurd p
answering (Wrote page bytes is_written ∷ notes) p = absurd p
answering (Flushed region ∷ notes) p = absurd p
answering (note ∷ notes) p = answering notes p

-- ---- flash

both_changed : (nvm : Nvm) (first : Changed) (f : Nvm → Changed) → AsideChange nvm first → ((n : Nvm) → AsideChange n (f n)) → AsideChange nvm (leaving.and_then first f)
both_changed nvm first f p q = record { aside = aside-append first.part (f first.nvm).part p.aside (q first.nvm).aside; fills = (q first.nvm).fills ∙ p.fills; jobs = (q first.nvm).jobs ∙ p.jobs }

evicted_aside : (now pool want : ℕ) (entry : FlashEntry) (nvm : Nvm) → AsideChange nvm (evicted now pool want entry nvm)
evicted_aside now pool want entry nvm = go (cause_for now pool want entry nvm)
  where
    go : (cause : Option Cause) → AsideChange nvm (waits_unless cause entry nvm)
    go None = record { aside = tt; fills = refl; jobs = refl }
    go (Some cause) = record { aside = tt; fills = refl; jobs = refl }

aside_if : (t : Bool) (nvm : Nvm) (a b : Changed) → AsideChange nvm a → AsideChange nvm b → AsideChange nvm (if t then a else b)
aside_if true nvm a b p q = p
aside_if false nvm a b p q = q

unqueue_aside : (key : List ℕ) (nvm : Nvm) → AsideChange nvm (unqueue key nvm)
unqueue_aside key nvm = aside_if (is_some (put_at key nvm.queue)) nvm _ _ (record { aside = tt; fills = refl; jobs = refl }) (record { aside = tt; fills = refl; jobs = refl })

bury_aside : (key : List ℕ) (nvm : Nvm) → AsideChange nvm (bury key nvm)
bury_aside key nvm = aside_if (is_due nvm key) nvm _ _ (record { aside = tt; fills = refl; jobs = refl }) (record { aside = tt; fills = refl; jobs = refl })

unindex_aside : (key : List ℕ) (nvm : Nvm) → AsideChange nvm (unindex key nvm)
unindex_aside key nvm = aside_if (is_indexed nvm.pair key) nvm _ _ (record { aside = tt; fills = refl; jobs = refl }) (record { aside = tt; fills = refl; jobs = refl })

outdate_aside : (key : List ℕ) (nvm : Nvm) → AsideChange nvm (outdate key nvm)
outdate_aside key nvm = both_changed nvm (bury key nvm) (unindex key) (bury_aside key nvm) (unindex_aside key)

-- ---- the cache

pub unmarked_charges : (notes : List Note) (memory : Memory) → (unmarked_by notes memory).charges ≡ memory.charges
unmarked_charges [] memory = refl
unmarked_charges (Lose scope cause ∷ notes) memory = unmarked_charges notes (after_unmark memory scope)
unmarked_charges (note ∷ notes) memory = unmarked_charges notes memory

pub unmarked_made : (notes : List Note) (memory : Memory) → (unmarked_by notes memory).made ≡ memory.made
unmarked_made [] memory = refl
unmarked_made (Lose scope cause ∷ notes) memory = unmarked_made notes (after_unmark memory scope)
unmarked_made (note ∷ notes) memory = unmarked_made notes memory

both_told : (cache : Cache) (first : Told) (f : Cache → Told) → AsidePart cache first → ((c : Cache) → AsidePart c (f c)) → AsidePart cache (and_then first f)
both_told cache first f p q =
    let r = q first.cache in
    record { aside = aside-append first.part (f first.cache).part p.aside r.aside; calls = r.calls ∙ p.calls; charges = r.charges ∙ p.charges; made = r.made ∙ p.made; fills = r.fills ∙ p.fills; jobs = r.jobs ∙ p.jobs }

flash_aside : (f : Nvm → Changed) → ((n : Nvm) → AsideChange n (f n)) → (cache : Cache) → AsidePart cache (on_flash f cache)
flash_aside f q cache = go cache.nvm refl
  where
    go : (nvm : Option Nvm) → cache.nvm ≡ nvm → AsidePart cache (on_flash_of nvm f cache)
    go None e = record { aside = tt; calls = refl; charges = refl; made = refl; fills = refl; jobs = refl }
    go (Some nvm) e = record { aside = (q nvm).aside; calls = refl; charges = unmarked_charges (f nvm).part cache.memory; made = unmarked_made (f nvm).part cache.memory; fills = (q nvm).fills ∙ sym (ap fills_of e); jobs = (q nvm).jobs ∙ sym (ap jobs_in e) }

leaves_aside : (pool want : ℕ) (item : Item) (cache : Cache) → AsidePart cache (leaves pool want item cache)
leaves_aside pool want item cache = go item.clean cache.nvm refl
  where
    go : (t : Bool) (nvm : Option Nvm) → cache.nvm ≡ nvm → AsidePart cache (if t then tells [] cache else leaves_for nvm pool want item cache)
    go true nvm e = record { aside = tt; calls = refl; charges = refl; made = refl; fills = refl; jobs = refl }
    go false None e = record { aside = tt; calls = refl; charges = refl; made = refl; fills = refl; jobs = refl }
    go false (Some nvm) e = let q = evicted_aside cache.now pool want (entry_of_item item) nvm in record { aside = q.aside; calls = refl; charges = refl; made = refl; fills = q.fills ∙ sym (ap fills_of e); jobs = q.jobs ∙ sym (ap jobs_in e) }

all_leave_aside : (pool want : ℕ) (items : List Item) (cache : Cache) → AsidePart cache (all_leave pool want items cache)
all_leave_aside pool want [] cache = record { aside = tt; calls = refl; charges = refl; made = refl; fills = refl; jobs = refl }
all_leave_aside pool want (item ∷ items) cache =
    let rest = both_told cache (leaves pool want item cache) (all_leave pool want items) (leaves_aside pool want item cache) (all_leave_aside pool want items) in
    record { aside = rest.aside; calls = rest.calls; charges = rest.charges; made = rest.made; fills = rest.fills; jobs = rest.jobs }

-- room is made
pub room_aside : (pool want : ℕ) (cache : Cache) → AsidePart cache (make_room pool want cache)
room_aside pool want cache =
    let q = all_leave_aside pool want (victims_of cache.memory pool want) (with_memory (after_room cache.memory pool want) cache) in
    record { aside = q.aside; calls = q.calls; charges = q.charges; made = q.made; fills = q.fills; jobs = q.jobs }

-- a key leaves each place where it stood
pub clear_aside : (key : List ℕ) (cache : Cache) → AsidePart cache (clear key cache)
clear_aside key cache =
    both_told cache (on_flash (unqueue key) cache) (λ c. and_then (tells (freed_note (linked_at key c.memory.pools)) c) (on_flash (outdate key))) (flash_aside (unqueue key) (unqueue_aside key) cache)
    (λ c. both_told c (tells (freed_note (linked_at key c.memory.pools)) c) (on_flash (outdate key)) (record { aside = freed (linked_at key c.memory.pools); calls = refl; charges = refl; made = refl; fills = refl; jobs = refl }) (flash_aside (outdate key) (outdate_aside key)))
  where
    freed : (o : Option Item) → Aside (freed_note o)
    freed None = tt
    freed (Some item) = tt

pub uproot_aside : (key : List ℕ) (cache : Cache) → AsidePart cache (uproot key cache)
uproot_aside key cache = both_told cache (clear key cache) (λ c. tells [] (with_memory (after_unlink c.memory key) c)) (clear_aside key cache) (λ c. record { aside = tt; calls = refl; charges = refl; made = refl; fills = refl; jobs = refl })

-- ---- the handle's item is linked: its charge is closed

pub record Planted (cache : Cache) (number : ℕ) (told : Told) : Type 0 where
  pub aside : Aside told.part
  pub calls : told.cache.calls ≡ cache.calls
  pub charges : told.cache.memory.charges ≡ closed number cache.memory.charges
  pub fills : fills_of told.cache.nvm ≡ fills_of cache.nvm
  pub jobs : jobs_in told.cache.nvm ≡ jobs_in cache.nvm

pub plant_aside : (handle : Handle) (cache : Cache) → Planted cache handle.number (plant handle cache)
plant_aside handle cache =
    let c = clear_aside handle.key cache in
    record { aside = aside-append (clear handle.key cache).part (Linked handle.number ∷ []) c.aside tt; calls = c.calls; charges = ap (closed handle.number) c.charges; fills = c.fills; jobs = c.jobs }
