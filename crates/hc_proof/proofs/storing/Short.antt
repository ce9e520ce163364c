-- A value that is stored where there is no flash: the steps of a set come to one short step.
use Rattle.std.proofs.Common.{◌≡◌, ℕ, ◌+◌, ◌++◌, Bool, true, false, List, [], ◌∷◌, length, Option, None, refl, sym, ap, ◌∙◌, subst, arith, cond, eq-eqb, not, ◌&&◌, append_assoc, append-nil}
use Rattle.hc_types.proofs.Tallies.{find-none}
use Rattle.hc_types.specs.Charge.{charge_of}
use Rattle.hc_types.specs.Loss as loss
use Rattle.hc_types.specs.declared.refusal.Refusal.{Refusal}
use Rattle.hc_types.specs.declared.refusal.Refusal.TheVariants.{ForeignHandle}
use Rattle.hc_memory.specs.Item.{Item, Open, Handle, charge_by}
use Rattle.hc_memory.specs.Charges.{has_number, is_open, closed}
use Rattle.hc_memory.specs.Memory.{Memory, linked_at, victims_of, after_room, after_put, after_unlink}
use Rattle.hc_memory.specs.Sound.{Sound}
use Rattle.hc_memory.proofs.Bringing.{closed-push}
use Rattle.hc_machine.specs.items.Allocating.{refusal_of, cause_for}
use Rattle.hc_history.specs.Note.{Note, Lose, Freed, Stored, Insert, Remove, Charged, Begin, Linked, Did, End}
use Rattle.hc_machine.specs.Nvm.{Nvm}
use Rattle.hc_machine.specs.Cache.{Cache, Moved, Told, Opened, Discarded, Replied, Refused, stays, tells, behind, and_then, answers, with_memory}
use Rattle.hc_machine.specs.Evicting.{leaves_for, all_leave, allocate, allocate_by, with_charge, charge}
use Rattle.hc_machine.specs.Waiting.{freed_note, free}
use Rattle.hc_machine.specs.Calls.{insert_or_replace, begin, store, discard, remove, remove_reply}
use Rattle.hc_machine.specs.World.{inserted, behind as moved_behind}
use Rattle.hc_proof.proofs.evicting.LinkedClean.{last_open}
use Rattle.hc_proof.specs.calls.Short.{leaving, handle_in, short_set, SetsAreShort, short_give_up, GivenUpIsShort, short_remove, RemovesAreShort}

-- ---- items go

pub one-goes : (pool want : ℕ) (item : Item) (cache : Cache) → cache.nvm ≡ None → (b : Bool)
    → cond b (tells [] cache) (leaves_for cache.nvm pool want item cache) ≡ tells (cond b [] (Lose (loss.Key item.key) (cause_for cache.now pool want item) ∷ [])) cache
one-goes pool want item cache none true = refl
one-goes pool want item cache none false = ap (λ (nvm : Option Nvm). leaves_for nvm pool want item cache) none

all_go : (pool want : ℕ) (items : List Item) (cache : Cache) → cache.nvm ≡ None → all_leave pool want items cache ≡ tells (leaving cache.now pool want items) cache
all_go pool want [] cache none = refl
all_go pool want (item ∷ items) cache none =
    let lost : List Note = cond item.clean [] (Lose (loss.Key item.key) (cause_for cache.now pool want item) ∷ []) in
    ap (λ (told : Told). behind (Freed item.number ∷ []) (and_then told (all_leave pool want items))) (one-goes pool want item cache none item.clean)
    ∙ ap (λ (told : Told). behind (Freed item.number ∷ []) (behind lost told)) (all_go pool want items cache none)

-- ---- what is told

shape : (ns fs : List Note) (a b l d e : Note) → (ns ++ a ∷ []) ++ (b ∷ (((fs ++ []) ++ l ∷ []) ++ (d ∷ e ∷ []))) ≡ ns ++ (a ∷ b ∷ (fs ++ (l ∷ d ∷ e ∷ [])))
shape ns fs a b l d e =
    append_assoc ns (a ∷ []) (b ∷ (((fs ++ []) ++ l ∷ []) ++ (d ∷ e ∷ [])))
    ∙ ap (λ (xs : List Note). ns ++ (a ∷ b ∷ xs)) (append_assoc (fs ++ []) (l ∷ []) (d ∷ e ∷ []) ∙ ap (λ (ys : List Note). ys ++ (l ∷ d ∷ e ∷ [])) (append-nil fs))

-- ---- the step

base : (pool : ℕ) (key value : List ℕ) (ttl : ℕ) (cache : Cache) → cache.nvm ≡ None → Sound cache.memory.pools cache.memory.charges cache.memory.made → refusal_of cache.memory pool key (length value) ≡ None
    → inserted (insert_or_replace 0) (allocate pool key value ttl (record cache { nvm = None })) ≡ short_set pool key value ttl (record cache { nvm = None })
base pool key value ttl cache none s allowed =
    let bare : Cache = record cache { nvm = None } in
    let want = charge_of key (length value) in
    let h : Handle = handle_in pool key value ttl bare in
    let c : Open = charge_by h in
    let roomed : Memory = after_room cache.memory pool want in
    let fresh = s.fresh (cache.memory.made + 1) (omega arith) in
    let known : is_open c (cache.memory.charges ++ c ∷ []) ≡ true = last_open cache.memory.charges c fresh in
    let ends : closed c.number (cache.memory.charges ++ c ∷ []) ≡ cache.memory.charges = closed-push c.number cache.memory.charges c (find-none (has_number c.number) cache.memory.charges fresh) (eq-eqb c.number c.number refl) in
    let gone : List Note = leaving bare.now pool want (victims_of cache.memory pool want) in
    let told : Note = Charged h.number key pool want in
    let after : Cache = with_memory (with_charge roomed pool key (length value)) bare in
    let stored : Moved = answers (Replied Stored) (and_then (begin 0 (Insert h.key h.value h.expiry) after) (store h)) in
    let first = all_go pool want (victims_of cache.memory pool want) (with_memory roomed bare) refl in
    ap (λ (o : Option Refusal). inserted (insert_or_replace 0) (allocate_by o pool key value ttl bare)) allowed
    ∙ ap (λ (told : Told). inserted (insert_or_replace 0) (answers (Opened h) (and_then told (charge pool key (length value))))) first
    ∙ ap (λ (b : Bool). moved_behind (gone ++ told ∷ []) (cond (b && not false) stored (stays (Refused ForeignHandle) after))) known
    ∙ (λ i. record {
      cache = record bare { memory = record (after_put roomed h) { charges = ends i }; calls = bare.calls + 1 };
      answer = Replied Stored;
      part = shape gone (freed_note (linked_at key roomed.pools)) told (Begin (bare.calls + 1) 0 (Insert h.key h.value h.expiry)) (Linked h.number) (Did (bare.calls + 1) Stored) (End (bare.calls + 1)) i;
    })

pub short : SetsAreShort
short pool key value ttl cache none s allowed =
    subst (λ (c : Cache). inserted (insert_or_replace 0) (allocate pool key value ttl c) ≡ short_set pool key value ttl c) (λ i. record cache { nvm = sym none i }) (base pool key value ttl cache none s allowed)

give_up_base : (pool : ℕ) (key value : List ℕ) (ttl : ℕ) (cache : Cache) → cache.nvm ≡ None → Sound cache.memory.pools cache.memory.charges cache.memory.made → refusal_of cache.memory pool key (length value) ≡ None
    → inserted discard (allocate pool key value ttl (record cache { nvm = None })) ≡ short_give_up pool key value ttl (record cache { nvm = None })
give_up_base pool key value ttl cache none s allowed =
    let bare : Cache = record cache { nvm = None } in
    let want = charge_of key (length value) in
    let h : Handle = handle_in pool key value ttl bare in
    let c : Open = charge_by h in
    let roomed : Memory = after_room cache.memory pool want in
    let fresh = s.fresh (cache.memory.made + 1) (omega arith) in
    let known : is_open c (cache.memory.charges ++ c ∷ []) ≡ true = last_open cache.memory.charges c fresh in
    let ends : closed c.number (cache.memory.charges ++ c ∷ []) ≡ cache.memory.charges = closed-push c.number cache.memory.charges c (find-none (has_number c.number) cache.memory.charges fresh) (eq-eqb c.number c.number refl) in
    let gone : List Note = leaving bare.now pool want (victims_of cache.memory pool want) in
    let told : Note = Charged h.number key pool want in
    let after : Cache = with_memory (with_charge roomed pool key (length value)) bare in
    let freed : Moved = answers Discarded (free h.number after) in
    let first = all_go pool want (victims_of cache.memory pool want) (with_memory roomed bare) refl in
    ap (λ (o : Option Refusal). inserted discard (allocate_by o pool key value ttl bare)) allowed
    ∙ ap (λ (told : Told). inserted discard (answers (Opened h) (and_then told (charge pool key (length value))))) first
    ∙ ap (λ (b : Bool). moved_behind (gone ++ told ∷ []) (cond (b && not false) freed (stays (Refused ForeignHandle) after))) known
    ∙ (λ i. record {
      cache = record bare { memory = record roomed { made = h.number; charges = ends i } };
      answer = Discarded;
      part = append_assoc gone (told ∷ []) (Freed h.number ∷ []) i;
    })

pub given-up : GivenUpIsShort
given-up pool key value ttl cache none s allowed =
    subst (λ (c : Cache). inserted discard (allocate pool key value ttl c) ≡ short_give_up pool key value ttl c) (λ i. record cache { nvm = sym none i }) (give_up_base pool key value ttl cache none s allowed)

-- ---- removes

remove-shape : (fs : List Note) (d e : Note) → ((fs ++ []) ++ []) ++ (d ∷ e ∷ []) ≡ fs ++ d ∷ e ∷ []
remove-shape fs d e = ap (λ (xs : List Note). xs ++ (d ∷ e ∷ [])) (append-nil (fs ++ []) ∙ append-nil fs)

remove_base : (client : ℕ) (key : List ℕ) (cache : Cache) → remove client key (record cache { nvm = None }) ≡ short_remove client key (record cache { nvm = None })
remove_base client key cache =
    let bare : Cache = record cache { nvm = None } in
    let call = bare.calls + 1 in
    let reply = remove_reply (linked_at key bare.memory.pools) in
    λ i. record {
      cache = record bare { memory = after_unlink bare.memory key; calls = call };
      answer = Replied reply;
      part = Begin call client (Remove key) ∷ remove-shape (freed_note (linked_at key bare.memory.pools)) (Did call reply) (End call) i;
    }

pub removes : RemovesAreShort
removes client key cache none = subst (λ (c : Cache). remove client key c ≡ short_remove client key c) (λ i. record cache { nvm = sym none i }) (remove_base client key cache)
