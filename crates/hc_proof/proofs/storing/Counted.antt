-- What is told of an item that is stored, or removed, where the log isn't kept.
use Rattle.std.proofs.Common.{◌≡◌, ℕ, ◌++◌, false, List, [], ◌∷◌, Option, Some, None, refl, sym, ap, ◌∙◌, length}
use Rattle.hc_types.specs.Charge.{charge_of}
use Rattle.hc_memory.specs.Item.{Item, Handle}
use Rattle.hc_memory.specs.Memory.{Memory, linked_at}
use Rattle.hc_history.specs.Note.{Note, Op, Reply, Insert, Remove, Stored, FoundInMemory, NotInMemory, Freed, Charged, Begin, Linked, Did, End}
use Rattle.hc_history.specs.Told.{Heard, Nothing, Log, Counts, Sums, told_more, told_count, is_log}
use Rattle.hc_history.specs.declared.stats.Kind.{Kind}
use Rattle.hc_history.specs.declared.stats.Kind.TheVariants as kind
use Rattle.hc_history.proofs.Telling.{told-twice, told-nothing, told-did}
use Rattle.hc_machine.specs.Calls.{remove_reply}
use Rattle.hc_machine.specs.Waiting.{freed_note}
use Rattle.hc_proof.specs.calls.Short.{storing, StoredIsCounted, removing, RemovedIsCounted}

pub told-charged : (heard : Heard) → is_log heard ≡ false → (n pool bytes : ℕ) (key : List ℕ) → told_more heard (Charged n key pool bytes ∷ []) ≡ heard
told-charged Nothing e n pool bytes key = refl
told-charged (Log log) e n pool bytes key = absurd cc
told-charged (Counts counts losses) e n pool bytes key = told-nothing (Counts counts losses)
told-charged (Sums counts losses) e n pool bytes key = told-nothing (Sums counts losses)

pub told-begun : (heard : Heard) → is_log heard ≡ false → (call client : ℕ) (op : Op) → told_more heard (Begin call client op ∷ []) ≡ heard
told-begun Nothing e call client op = refl
told-begun (Log log) e call client op = absurd cc
told-begun (Counts counts losses) e call client op = told-nothing (Counts counts losses)
told-begun (Sums counts losses) e call client op = told-nothing (Sums counts losses)

told-linked : (heard : Heard) → is_log heard ≡ false → (n : ℕ) → told_more heard (Linked n ∷ []) ≡ heard
told-linked Nothing e n = refl
told-linked (Log log) e n = absurd cc
told-linked (Counts counts losses) e n = told-nothing (Counts counts losses)
told-linked (Sums counts losses) e n = told-nothing (Sums counts losses)

told-ended : (heard : Heard) → is_log heard ≡ false → (n : ℕ) → told_more heard (End n ∷ []) ≡ heard
told-ended Nothing e n = refl
told-ended (Log log) e n = absurd cc
told-ended (Counts counts losses) e n = told-nothing (Counts counts losses)
told-ended (Sums counts losses) e n = told-nothing (Sums counts losses)

pub told-freed-one : (heard : Heard) → is_log heard ≡ false → (n : ℕ) → told_more heard (Freed n ∷ []) ≡ heard
told-freed-one Nothing e n = refl
told-freed-one (Log log) e n = absurd cc
told-freed-one (Counts counts losses) e n = told-nothing (Counts counts losses)
told-freed-one (Sums counts losses) e n = told-nothing (Sums counts losses)

told-freed : (heard : Heard) → is_log heard ≡ false → (o : Option Item) → told_more heard (freed_note o) ≡ heard
told-freed heard e None = told-nothing heard
told-freed heard e (Some item) = told-freed-one heard e item.number

still : (heard : Heard) (k : Kind) → is_log heard ≡ false → is_log (told_count heard k) ≡ false
still Nothing k e = refl
still (Log log) k e = absurd cc
still (Counts counts losses) k e = refl
still (Sums counts losses) k e = refl

-- a part of which nothing is heard
pub past : (heard : Heard) (a rest : List Note) → told_more heard a ≡ heard → told_more heard (a ++ rest) ≡ told_more heard rest
past heard a rest quiet = sym (told-twice heard a rest) ∙ ap (λ (h : Heard). told_more h rest) quiet

pub stored-counted : StoredIsCounted
stored-counted heard memory handle call e =
    let op = Insert handle.key handle.value handle.expiry in
    let gone = freed_note (linked_at handle.key memory.pools) in
    let tail : List Note = Did call Stored ∷ End call ∷ [] in
    past heard (Charged handle.number handle.key handle.pool (charge_of handle.key (length handle.value)) ∷ []) (Begin call 0 op ∷ (gone ++ Linked handle.number ∷ tail)) (told-charged heard e handle.number handle.pool (charge_of handle.key (length handle.value)) handle.key)
    ∙ past heard (Begin call 0 op ∷ []) (gone ++ Linked handle.number ∷ tail) (told-begun heard e call 0 op)
    ∙ past heard gone (Linked handle.number ∷ tail) (told-freed heard e (linked_at handle.key memory.pools))
    ∙ past heard (Linked handle.number ∷ []) tail (told-linked heard e handle.number)
    ∙ sym (told-twice heard (Did call Stored ∷ []) (End call ∷ []))
    ∙ ap (λ (h : Heard). told_more h (End call ∷ [])) (sym (told-did heard call Stored kind.Stored e refl))
    ∙ told-ended (told_count heard kind.Stored) (still heard kind.Stored e) call

told-removed : (heard : Heard) (call : ℕ) (there : Option Item) → is_log heard ≡ false → told_count heard kind.Removed ≡ told_more heard (Did call (remove_reply there) ∷ [])
told-removed heard call None e = told-did heard call NotInMemory kind.Removed e refl
told-removed heard call (Some item) e = told-did heard call FoundInMemory kind.Removed e refl

pub removed-counted : RemovedIsCounted
removed-counted heard memory client key call there e =
    let reply = remove_reply there in
    let gone = freed_note (linked_at key memory.pools) in
    let tail : List Note = Did call reply ∷ End call ∷ [] in
    past heard (Begin call client (Remove key) ∷ []) (gone ++ tail) (told-begun heard e call client (Remove key))
    ∙ past heard gone tail (told-freed heard e (linked_at key memory.pools))
    ∙ sym (told-twice heard (Did call reply ∷ []) (End call ∷ []))
    ∙ ap (λ (h : Heard). told_more h (End call ∷ [])) (sym (told-removed heard call there e))
    ∙ told-ended (told_count heard kind.Removed) (still heard kind.Removed e) call

-- ---- behind the notes of the items that went

pub more-quiet : (heard : Heard) (part : List Note) → is_log heard ≡ false → is_log (told_more heard part) ≡ false
more-quiet Nothing part e = refl
more-quiet (Log log) part e = absurd cc
more-quiet (Counts counts losses) part e = refl
more-quiet (Sums counts losses) part e = refl

pub stored-after : (heard : Heard) (gone : List Note) (memory : Memory) (handle : Handle) (call : ℕ) → is_log heard ≡ false → told_count (told_more heard gone) kind.Stored ≡ told_more heard (gone ++ storing memory handle call)
stored-after heard gone memory handle call e =
    sym (stored-counted (told_more heard gone) memory handle call (more-quiet heard gone e)) ∙ told-twice heard gone (storing memory handle call)

-- a charge that is made and given up tells nothing
pub given-after : (heard : Heard) (gone : List Note) (number pool bytes : ℕ) (key : List ℕ) → is_log heard ≡ false → told_more heard gone ≡ told_more heard (gone ++ Charged number key pool bytes ∷ Freed number ∷ [])
given-after heard gone number pool bytes key e =
    let still : is_log (told_more heard gone) ≡ false = more-quiet heard gone e in
    sym (told-freed-one (told_more heard gone) still number)
    ∙ sym (past (told_more heard gone) (Charged number key pool bytes ∷ []) (Freed number ∷ []) (told-charged (told_more heard gone) still number pool bytes key))
    ∙ told-twice heard gone (Charged number key pool bytes ∷ Freed number ∷ [])
