-- A log that is kept stays legal, where it is honest.
use Rattle.std.proofs.Common.{◌≡◌, ℕ, ◌≤◌, nat_lt, Bool, true, false, cond, List, [], ◌∷◌, ◌++◌, None, if◌then◌else◌, refl, sym, ap, subst, arith}
use Rattle.std.specs.Prelude.{is_some}
use Rattle.hc_types.specs.Config.{Config}
use Rattle.hc_types.specs.Limits.{first_wrong}
use Rattle.hc_types.specs.declared.refusal.Refusal.TheVariants.{ForeignHandle, Exists as AlreadyExists}
use Rattle.hc_memory.specs.Item.{Open, Handle, charge_by}
use Rattle.hc_memory.specs.Charges.{is_open}
use Rattle.hc_memory.proofs.Books.{is_open-found, count-closed}
use Rattle.hc_history.specs.Note.{Note, Insert, Stored}
use Rattle.hc_history.specs.Told.{Heard, Nothing, Log, Counts, Sums, IfLog, told_more}
use Rattle.hc_machine.specs.Cache.{Cache, Moved, new_cache, Refused, Replied, answers, stays, and_then}
use Rattle.hc_machine.specs.Waiting.{live}
use Rattle.hc_machine.specs.Calls.{begin, is_known, is_kept_in, store, insert_or_replace, in_memory, add, insert}
use Rattle.hc_invariant.specs.Good.{IsSized}
use Rattle.hc_proof.proofs.calls.Adds.{and_both}
use Rattle.hc_machine.specs.Call.{CacheCall, Allocates, Inserts, Adds, Discards, Finds, Removes, Replies, Ticks, Writes, Fills, Reclaims, Finishes, act}
use Rattle.hc_theorem.specs.runs.Honesty.{CallSized}
use Rattle.hc_theorem.specs.runs.Lock.{Stands, Guarded}
use Rattle.hc_theorem.proofs.headlines.WholeRuns as theorem
use Rattle.hc_core.specs.Arguments.{CallFits}
use Rattle.hc_core.specs.Holds.{is_long, AreShort}

-- ---- a handle that is known is within the limits of an item

not_long : (size : ℕ) (b : Bool) → nat_lt 1048576 size ≡ b → ◌≡◌ {A = ℕ} (cond b 1 0) 0 → size ≤ 1048576
not_long size true e none = absurd cc
not_long size false e none = grind (arith, e)

short_one : (charges : List Open) (charge : Open) → is_open charge charges ≡ true → AreShort charges → charge.size ≤ 1048576
short_one charges charge there short =
    let one = count-closed is_long charge.number charges charge (is_open-found charge charges there) in
    not_long charge.size (is_long charge) refl (omega (arith, one, short))

sized : (cache : Cache) (handle : Handle) → IsSized handle.key [] handle.expiry → AreShort cache.memory.charges → is_known cache handle ≡ true → IsSized handle.key handle.value handle.expiry
sized cache handle fits short known =
    let there = (and_both (is_open (charge_by handle) cache.memory.charges) (is_kept_in cache.nvm handle.number) known).0 in
    record { some_key = fits.some_key; short_key = fits.short_key; short_value = short_one cache.memory.charges (charge_by handle) there short; second = fits.second }

-- ---- by the kind of the step

abbrev GuardedBy : List Note → Moved → Type 0
GuardedBy log moved = Guarded moved.cache.config (log ++ moved.part) moved.cache

idle : (log : List Note) (cache : Cache) → Guarded cache.config log cache → Guarded cache.config (log ++ []) cache
idle log cache g = subst (λ (l : List Note). Guarded cache.config l cache) (sym (ends log)) g
  where
    ends : (xs : List Note) → xs ++ [] ≡ xs
    ends [] = refl
    ends (x ∷ xs) = ap (λ ys. x ∷ ys) (ends xs)

by_event : (event : CacheCall) (log : List Note) (cache : Cache) → CallSized event → Guarded cache.config log cache → GuardedBy log (act event cache)
by_event event log cache fits g honest =
    let moved = act event cache in
    let stands = theorem.guarded cache.config log cache event fits g honest in
    subst (λ (config : Config). Stands config (log ++ moved.part) moved.cache) (sym stands.good.agrees.own) stands

inserts : (log : List Note) (cache : Cache) (client : ℕ) (handle : Handle) → IsSized handle.key [] handle.expiry → AreShort cache.memory.charges → Guarded cache.config log cache → GuardedBy log (insert_or_replace client handle cache)
inserts log cache client handle fits short g = go (is_known cache handle) refl
  where
    go : (b : Bool) → is_known cache handle ≡ b
        → GuardedBy log (insert_or_replace client handle cache)
    go true e = by_event (Inserts client handle) log cache (sized cache handle fits short e) g
    go false e =
        subst (λ (b : Bool). GuardedBy log (if b then answers (Replied Stored) (and_then (begin client (Insert handle.key handle.value handle.expiry) cache) (store handle)) else stays (Refused ForeignHandle) cache)) (sym e) (idle log cache g)

adds : (log : List Note) (cache : Cache) (client : ℕ) (handle : Handle) → IsSized handle.key [] handle.expiry → AreShort cache.memory.charges → Guarded cache.config log cache → GuardedBy log (insert client handle cache)
adds log cache client handle fits short g = go (is_known cache handle) refl
  where
    refused : (a : Bool) → GuardedBy log (if a then stays (Refused AlreadyExists) cache else stays (Refused ForeignHandle) cache)
    refused true = idle log cache g
    refused false = idle log cache g

    go : (b : Bool) → is_known cache handle ≡ b → GuardedBy log (insert client handle cache)
    go true e = by_event (Adds client handle) log cache (sized cache handle fits short e) g
    go false e =
        subst (λ (b : Bool). GuardedBy log (if is_some (live cache.now (in_memory cache handle.key)) then stays (Refused AlreadyExists) cache else (if b then add client handle cache else stays (Refused ForeignHandle) cache))) (sym e)
        (refused (is_some (live cache.now (in_memory cache handle.key))))

each : (event : CacheCall) (log : List Note) (cache : Cache) → CallFits event → AreShort cache.memory.charges → Guarded cache.config log cache → GuardedBy log (act event cache)
each (Allocates pool key value ttl) log cache fits short g = by_event (Allocates pool key value ttl) log cache fits g
each (Inserts client handle) log cache fits short g = inserts log cache client handle fits short g
each (Adds client handle) log cache fits short g = adds log cache client handle fits short g
each (Discards handle) log cache fits short g = by_event (Discards handle) log cache tt g
each (Finds client key) log cache fits short g = by_event (Finds client key) log cache tt g
each (Removes client key) log cache fits short g = by_event (Removes client key) log cache tt g
each (Replies call) log cache fits short g = by_event (Replies call) log cache tt g
each (Ticks moment) log cache fits short g = by_event (Ticks moment) log cache tt g
each Writes log cache fits short g = by_event Writes log cache tt g
each Fills log cache fits short g = by_event Fills log cache tt g
each Reclaims log cache fits short g = by_event Reclaims log cache tt g
each (Finishes number result) log cache fits short g = by_event (Finishes number result) log cache tt g

-- ---- where the log is kept

-- the cache stands to what is heard of its log
abbrev pub IsGuarded : Heard → Cache → Type 0
IsGuarded heard cache = IfLog heard (λ log. Guarded cache.config log cache)

pub stays-guarded : (event : CacheCall) (heard : Heard) (cache : Cache) → CallFits event → AreShort cache.memory.charges → IsGuarded heard cache → IsGuarded (told_more heard (act event cache).part) (act event cache).cache
stays-guarded event Nothing cache fits short g = tt
stays-guarded event (Counts counts losses) cache fits short g = tt
stays-guarded event (Sums counts losses) cache fits short g = tt
stays-guarded event (Log log) cache fits short g = each event log cache fits short g

pub guarded-as : (heard heard' : Heard) (cache cache' : Cache) → heard' ≡ heard → cache' ≡ cache → IsGuarded heard cache → IsGuarded heard' cache'
guarded-as heard heard' cache cache' h c g = subst (λ (x : Cache). IsGuarded heard' x) (sym c) (subst (λ (x : Heard). IsGuarded x cache) (sym h) g)

pub new-guarded : (config : Config) (heard : Heard) → first_wrong config ≡ None → IfLog heard (λ log. log ≡ []) → IsGuarded heard (new_cache config)
new-guarded config Nothing right empty = tt
new-guarded config (Counts counts losses) right empty = tt
new-guarded config (Sums counts losses) right empty = tt
new-guarded config (Log log) right empty = subst (λ (l : List Note). Guarded config l (new_cache config)) (sym empty) (theorem.new_stands config right)
