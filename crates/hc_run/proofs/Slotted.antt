-- Steps of a stage whose slots are as the code has them.
use Rattle.std.proofs.Common.{◌≡◌, ℕ, ◌<◌, true, false, List, [], Option, Some, None, length, slice_set, refl, ap, sym, subst, ◌∙◌}
use Rattle.std.specs.Prelude.{if◌then◌else◌, is_some, IfSome, IfOk, OnErr, Result, Ok, Err}
use Rattle.hc_types.specs.declared.refusal.Refusal.{Refusal}
use Rattle.hc_types.specs.declared.refusal.Refusal.TheVariants.{NoMemory, ForeignHandle}
use Rattle.hc_memory.specs.Item.{Handle}
use Rattle.hc_engines.specs.Engine.{Pages}
use Rattle.hc_history.specs.Note.{Stored, Insert}
use Rattle.hc_history.specs.Told.{Heard, told_more}
use Rattle.hc_machine.specs.Cache.{Cache, Moved, Answer, Refused, Opened, Discarded, Replied, answers, stays, and_then}
use Rattle.hc_machine.specs.Evicting.{allocate}
use Rattle.hc_machine.specs.Waiting.{free}
use Rattle.hc_machine.specs.Calls as calls
use Rattle.hc_machine.specs.Calls.{is_known}
use Rattle.hc_machine.specs.World.{Result as Waiting, Says}
use Rattle.hc_machine.specs.Schedule.{Deed, Open, Put, PutNew, Discard, Reply, Slot, Told, Tells, NoSlot, Filled, without_slot, left_after}
use Rattle.hc_invariant.specs.Good.{IsSized}
use Rattle.hc_core.specs.Answers.{IsReason}
use Rattle.hc_run.specs.Asked.{told_of}
use Rattle.hc_run.specs.declared.steps.Outcome.{Outcome}
use Rattle.hc_run.specs.Ending.{after_give_up, part_of_give_up}
use Rattle.hc_run.specs.Slots.{handle_in, filled_from}
use Rattle.hc_run.specs.Shows.{Window, Stage, AreOwn, Moves, Waits}
use Rattle.hc_run.proofs.Answering.{but-memory, memory-alone, refused-so, on-err}
use Rattle.hc_run.proofs.Owning.{slot-known}
use Rattle.hc_run.proofs.Slotting.{at-none, at-some, without-is, with-is, set-none, filled-has, none-held}
use Rattle.hc_run.proofs.Staging.{by_client, slot_of, Called, no-slot-to-fill, opened, open-refused, no-slot-to-put, no-slot-to-put-new, no-slot-to-discard, put-stored, put-new-stored, put-new-refused, discarded, reply-refused}

-- what fills a slot is known
pub slot-own : (cache : Cache) (items : List (Option Handle)) (slot : ℕ) (handle : Handle) → AreOwn (filled_from 0 items) cache → handle_in slot items ≡ Some handle → is_known cache handle ≡ true
slot-own cache items slot handle own is = slot-known cache (filled_from 0 items) slot (slot_of slot handle) own (at-some items slot handle is)

pub content-own : (cache : Cache) (items : List (Option Handle)) (slot : ℕ) (held : Option Handle) → AreOwn (filled_from 0 items) cache → held ≡ handle_in slot items → IfSome held (λ (handle : Handle). is_known cache handle ≡ true)
content-own cache items slot None own is = tt
content-own cache items slot (Some handle) own is = slot-own cache items slot handle own (sym is)

-- an insert of what is known is refused for memory alone
pub put-memory : (client : ℕ) (cache : Cache) (handle : Handle) (refusal : Refusal) → is_known cache handle ≡ true → IsReason (calls.insert_or_replace client handle cache).answer refusal → refusal ≡ NoMemory
put-memory client cache handle refusal known why =
    memory-alone _ (Replied Stored) refusal
    (ap (λ t. (if t then answers (Replied Stored) (and_then (calls.begin client (Insert handle.key handle.value handle.expiry) cache) (calls.store handle)) else stays (Refused ForeignHandle) cache).answer) known) refl why

discard_answer : (cache : Cache) (handle : Handle) → is_known cache handle ≡ true → (calls.discard handle cache).answer ≡ Discarded
discard_answer cache handle known = ap (λ t. (if t then answers Discarded (free handle.number cache) else stays (Refused ForeignHandle) cache).answer) known

module _ (window : Window) (failures : ℕ) (results : List Waiting) where
  abbrev pub staged : Cache → Heard → List (Option Handle) → Stage
  staged cache log items = record { cache = cache; log = log; window = window; failures = failures; results = results; slots = filled_from 0 items }

  -- the same stage, once what was taken out stands again
  pub back-is : (cache cache' : Cache) (log log' : Heard) (items items' : List (Option Handle)) → cache' ≡ cache → log' ≡ log → items' ≡ items → staged cache' log' items' ≡ staged cache log items
  back-is cache cache' log log' items items' c l i = λ j. staged (c j) (l j) (i j)

-- over whatever the device holds
pub any-held : {T E : Type 0} (P : Pages → T → Type 0) (r : Result T E) → ((held : Pages) → IfOk r (P held)) → IfOk r (λ (x : T). (held : Pages) → P held x)
any-held P (Ok x) h = h
any-held P (Err e) h = tt

module _ (held : Pages) where
  pub moves-back : (old new : Stage) (client : ℕ) (deed : Deed) (told : Told) → new ≡ old → Moves held old (by_client client deed) told held old → Moves held old (by_client client deed) told held new
  moves-back old new client deed told same moves = subst (λ (s : Stage). Moves held old (by_client client deed) told held s) (sym same) moves

  pub waits-back : (old new : Stage) → new ≡ old → Waits held old held new
  waits-back old new same = subst (λ (s : Stage). Waits held old held s) (sym same) (record { log = refl; shows = λ scene sh. sh })

  -- the same of whatever the device holds, where a step was refused when out of memory
  pub err-held : {T E : Type 0} (P : Pages → Type 0) (r : Result T E) → OnErr r ((every : Pages) → P every) → OnErr r (P held)
  err-held P (Ok x) h = tt
  err-held P (Err e) h = h held

  pub ok-held : {T E : Type 0} (P : T → Pages → Type 0) (r : Result T E) → IfOk r (λ (x : T). (every : Pages) → P x every) → IfOk r (λ (x : T). P x held)
  ok-held P (Ok x) h = h held
  ok-held P (Err e) h = tt

  module _ (window : Window) (failures : ℕ) (results : List Waiting) (cache cache' : Cache) (log log' : Heard) (items items' : List (Option Handle)) (client slot : ℕ) where
    abbrev old : Stage
    old = staged window failures results cache log items

    abbrev new : Stage
    new = staged window failures results cache' log' items'

    emptied : handle_in slot items ≡ None → items' ≡ slice_set items slot None → items' ≡ items
    emptied none set = set ∙ set-none items slot none

    -- ---- what is opened

    pub open-full : (pool : ℕ) (key value : List ℕ) (ttl : ℕ) → is_some (handle_in slot items) ≡ true → IsSized key [] 0 → Moves held old (by_client client (Open slot pool key value ttl)) NoSlot held old
    open-full pool key value ttl full sized = let has = filled-has items slot full in no-slot-to-fill held old client slot pool key value ttl has.0 (at-some items slot has.0 has.1) sized

    pub open-so : (pool : ℕ) (key key' value value' : List ℕ) (ttl : ℕ) (handle : Handle) → slot < length items → handle_in slot items ≡ None → IsSized key [] 0 → key' ≡ key → value' ≡ value
        → cache' ≡ (allocate pool key' value' ttl cache).cache → Opened handle ≡ (allocate pool key' value' ttl cache).answer → log' ≡ told_more log (allocate pool key' value' ttl cache).part → items' ≡ slice_set items slot (Some handle)
        → Moves held old (by_client client (Open slot pool key value ttl)) Filled held new
    open-so pool key key' value value' ttl handle within none sized k v c a l set =
        let same : allocate pool key' value' ttl cache ≡ allocate pool key value ttl cache = λ i. allocate pool (k i) (v i) ttl cache in
        let called : Called held (allocate pool key value ttl cache) (Opened handle) old new = record {
          cache = c ∙ ap (λ (m : Moved). m.cache) same;
          answer_is = a ∙ ap (λ (m : Moved). m.answer) same;
          log = l ∙ ap (λ (m : Moved). told_more log m.part) same;
          failures = refl;
        } in
        opened held old new client slot pool key value ttl handle (at-none items slot none) sized called refl (ap (filled_from 0) set ∙ sym (with-is items slot handle within none))

    pub open-not : (pool : ℕ) (key key' value value' : List ℕ) (ttl : ℕ) (refusal : Refusal) → handle_in slot items ≡ None → IsSized key [] 0 → key' ≡ key → value' ≡ value → IsReason (allocate pool key' value' ttl cache).answer refusal → (refusal ≡ NoMemory → ⊥)
        → new ≡ old → Moves held old (by_client client (Open slot pool key value ttl)) (Tells (Says (Refused refusal))) held new
    open-not pool key key' value value' ttl refusal none sized k v why other same =
        let named : (allocate pool key value ttl cache).answer ≡ Refused refusal = (λ i. (allocate pool (sym k i) (sym v i) ttl cache).answer) ∙ but-memory _ refusal other why in
        moves-back old new client (Open slot pool key value ttl) (Tells (Says (Refused refusal))) same (open-refused held old client slot pool key value ttl refusal (at-none items slot none) sized named)

    -- ---- what is inserted

    pub put-none : handle_in slot items ≡ None → cache' ≡ cache → log' ≡ log → items' ≡ slice_set items slot None → Moves held old (by_client client (Put slot)) NoSlot held new
    put-none none c l set = moves-back old new client (Put slot) NoSlot (back-is window failures results cache cache' log log' items items' c l (emptied none set)) (no-slot-to-put held old client slot (at-none items slot none))

    pub put-so : (handle : Handle) → handle_in slot items ≡ Some handle → cache' ≡ (calls.insert_or_replace client handle cache).cache → Replied Stored ≡ (calls.insert_or_replace client handle cache).answer → log' ≡ told_more log (calls.insert_or_replace client handle cache).part
        → items' ≡ slice_set items slot None → Moves held old (by_client client (Put slot)) (Tells (Says (Replied Stored))) held new
    put-so handle is c a l set = put-stored held old new client slot handle (Replied Stored) (at-some items slot handle is) (record { cache = c; answer_is = a; log = l; failures = refl }) refl (ap (filled_from 0) set ∙ sym (without-is items slot))

    pub new-none : handle_in slot items ≡ None → cache' ≡ cache → log' ≡ log → items' ≡ slice_set items slot None → Moves held old (by_client client (PutNew slot)) NoSlot held new
    new-none none c l set = moves-back old new client (PutNew slot) NoSlot (back-is window failures results cache cache' log log' items items' c l (emptied none set)) (no-slot-to-put-new held old client slot (at-none items slot none))

    pub new-so : (handle : Handle) (answer : Answer) → ((slots : List Slot) → left_after answer slot slots ≡ without_slot slot slots) → handle_in slot items ≡ Some handle → cache' ≡ (calls.insert client handle cache).cache → answer ≡ (calls.insert client handle cache).answer
        → log' ≡ told_more log (calls.insert client handle cache).part → items' ≡ slice_set items slot None → Moves held old (by_client client (PutNew slot)) (Tells (Says answer)) held new
    new-so handle answer left is c a l set = put-new-stored held old new client slot handle answer (at-some items slot handle is) left (record { cache = c; answer_is = a; log = l; failures = refl }) refl (ap (filled_from 0) set ∙ sym (without-is items slot))

    pub new-not : (handle : Handle) (refusal : Refusal) → handle_in slot items ≡ Some handle → IsReason (calls.insert client handle cache).answer refusal → (refusal ≡ NoMemory → ⊥) → new ≡ old
        → Moves held old (by_client client (PutNew slot)) (Tells (Says (Refused refusal))) held new
    new-not handle refusal is why other same = moves-back old new client (PutNew slot) (Tells (Says (Refused refusal))) same (put-new-refused held old client slot handle refusal (at-some items slot handle is) (but-memory _ refusal other why))

    -- ---- what is refused, and not when out of memory

    pub open-refused-ok : {A E : Type 0} (r : Result (Outcome A) E) (pool : ℕ) (key key' value value' : List ℕ) (ttl : ℕ) (refusal : Refusal) → IfOk r (λ outcome. (told_of outcome ≡ Tells (Says (Refused refusal))) × (refusal ≡ NoMemory → ⊥))
        → handle_in slot items ≡ None → IsSized key [] 0 → key' ≡ key → value' ≡ value → IsReason (allocate pool key' value' ttl cache).answer refusal → new ≡ old
        → IfOk r (λ outcome. Moves held old (by_client client (Open slot pool key value ttl)) (told_of outcome) held new)
    open-refused-ok r pool key key' value value' ttl refusal is none sized k v why same =
        refused-so (λ (t : Told). Moves held old (by_client client (Open slot pool key value ttl)) t held new) r refusal is (λ other. open-not pool key key' value value' ttl refusal none sized k v why other same)

    pub new-refused-ok : {A E : Type 0} (r : Result (Outcome A) E) (handle : Handle) (refusal : Refusal) → IfOk r (λ outcome. (told_of outcome ≡ Tells (Says (Refused refusal))) × (refusal ≡ NoMemory → ⊥)) → handle_in slot items ≡ Some handle
        → IsReason (calls.insert client handle cache).answer refusal → new ≡ old → IfOk r (λ outcome. Moves held old (by_client client (PutNew slot)) (told_of outcome) held new)
    new-refused-ok r handle refusal is at why same =
        refused-so (λ (t : Told). Moves held old (by_client client (PutNew slot)) t held new) r refusal is (λ other. new-not handle refusal at why other same)

    pub reply-refused-ok : {A E : Type 0} (r : Result (Outcome A) E) (call : ℕ) (refusal : Refusal) → IfOk r (λ outcome. (told_of outcome ≡ Tells (Says (Refused refusal))) × (refusal ≡ NoMemory → ⊥))
        → IsReason (calls.take_reply call cache).answer refusal → new ≡ old → IfOk r (λ outcome. Moves held old (by_client client (Reply call)) (told_of outcome) held new)
    reply-refused-ok r call refusal is why same =
        refused-so (λ (t : Told). Moves held old (by_client client (Reply call)) t held new) r refusal is (λ other.
        moves-back old new client (Reply call) (Tells (Says (Refused refusal))) same (reply-refused held old client call refusal (but-memory _ refusal other why)))

    -- ---- what is given up

    pub discard-none : is_some (handle_in slot items) ≡ false → Moves held old (by_client client (Discard slot)) NoSlot held old
    discard-none none = no-slot-to-discard held old client slot (at-none items slot (none-held (handle_in slot items) none))

    pub discard-so : (content : Option Handle) → content ≡ handle_in slot items → is_some (handle_in slot items) ≡ true → AreOwn (filled_from 0 items) cache → cache' ≡ after_give_up cache content → log' ≡ told_more log (part_of_give_up cache content)
        → items' ≡ slice_set items slot None → Moves held old (by_client client (Discard slot)) (Tells (Says Discarded)) held new
    discard-so None is full own c l set = absurd (let no : false ≡ true = ap is_some is ∙ full in cc)
    discard-so (Some handle) is full own c l set =
        discarded held old new client slot handle Discarded (at-some items slot handle (sym is))
        (record { cache = c; answer_is = sym (discard_answer cache handle (slot-own cache items slot handle own (sym is))); log = l; failures = refl }) refl (ap (filled_from 0) set ∙ sym (without-is items slot))

-- out of memory, and the stage is as it was
pub waits-err : {T E : Type 0} (r : Result T E) (old new : Stage) → new ≡ old → OnErr r ((held : Pages) → Waits held old held new)
waits-err r old new same = let waits : (held : Pages) → Waits held old held new = λ held. waits-back held old new same in on-err r waits
