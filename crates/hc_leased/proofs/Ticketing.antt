-- What a ticket promises of any calls of a cache with leases.
use Rattle.std.proofs.Common.{◌≡◌, true, List, [], ◌∷◌, ◌++◌, Some, refl, sym, ap, ◌∙◌, subst}
use Rattle.hc_history.specs.Lawful.{past}
use Rattle.hc_history.specs.Honest.{Honest}
use Rattle.hc_machine.specs.Cache.{Cache, new_cache}
use Rattle.hc_core.specs.Holds.{AreShort}
use Rattle.hc_machine.specs.Call.{CacheCall, acts}
use Rattle.hc_theorem.specs.runs.Honesty.{AllCallSized}
use Rattle.hc_lease.specs.Stamps.{ticket_at, is_fresh}
use Rattle.hc_lease_log.specs.Log.{changes_of}
use Rattle.hc_lease_steps.specs.Runs.{stamps_by}
use Rattle.hc_lease_steps.proofs.Running.{tickets-hold}
use Rattle.hc_leased.specs.Leased.{Leased, Become}
use Rattle.hc_leased.specs.Runs.{Call, events_of, IsRun, Chain, all_events, AllFit, LeasedTicketsHold}
use Rattle.hc_leased.proofs.Runs.{calls-are-runs, chain-runs, events-append}
use Rattle.hc_leased.proofs.Sized.{call-sized, acts-short, sized-append}

-- ---- what calls are handed is within its limits

pub chain-sized : (calls : List Call) (old new : Leased) → Chain calls old new → AllFit calls → AreShort old.logged.cache.memory.charges → AllCallSized (all_events calls old.logged.cache)
chain-sized [] old new chain fits short = tt
chain-sized (call ∷ calls) old new chain fits short =
    let middle = chain.0 in
    let events = events_of call old.logged.cache in
    let run : IsRun events old middle = calls-are-runs call old middle chain.1.0 in
    let next : AreShort middle.logged.cache.memory.charges = subst (λ (cache : Cache). AreShort cache.memory.charges) (sym run.cache) (acts-short events old.logged.cache short) in
    sized-append events (all_events calls (acts events old.logged.cache).cache) (call-sized call old middle chain.1.0 fits.0 short)
    (subst (λ (cache : Cache). AllCallSized (all_events calls cache)) run.cache (chain-sized calls middle new chain.1.1 fits.1 next))

pub chain-append : (one two : List Call) (a b c : Leased) → Chain one a b → Chain two b c → Chain (one ++ two) a c
chain-append [] two a b c first second = subst (λ (l : Leased). Chain two l c) first second
chain-append (call ∷ one) two a b c first second = (first.0, (first.1.0, chain-append one two first.0 b c first.1.1 second))

-- ---- tickets

pub leased-tickets-hold : LeasedTicketsHold
leased-tickets-hold config earlier later first middle last key ticket begins before behind fits honest lent fresh =
    let new = new_cache config in
    let one = all_events earlier new in
    let two = all_events later (acts one new).cache in
    let both : all_events (earlier ++ later) new ≡ one ++ two = events-append earlier later new in
    let all = earlier ++ later in
    let whole = chain-append earlier later first middle last before behind in
    let start : first.logged.cache ≡ new = begins.cache in
    let run-one : IsRun one first middle = subst (λ (c : Cache). IsRun (all_events earlier c) first middle) start (chain-runs earlier first middle before) in
    let run-all : IsRun (all_events all new) first last = subst (λ (c : Cache). IsRun (all_events all c) first last) start (chain-runs all first last whole) in
    let sized : AllCallSized (all_events all new) = subst (λ (c : Cache). AllCallSized (all_events all c)) start (chain-sized all first last whole fits (subst (λ (c : Cache). AreShort c.memory.charges) (sym start) refl)) in
    let middle-stamps : Become (stamps_by one new first.stamps) middle.stamps = subst (λ (c : Cache). Become (stamps_by one c first.stamps) middle.stamps) start run-one.stamps in
    let last-stamps : Become (stamps_by (all_events all new) new first.stamps) last.stamps = subst (λ (c : Cache). Become (stamps_by (all_events all new) c first.stamps) last.stamps) start run-all.stamps in
    let lent-so : ticket_at (stamps_by one new first.stamps) ≡ Some ticket = sym (ap ticket_at middle-stamps) ∙ lent in
    let fresh-so : is_fresh key ticket (stamps_by (one ++ two) new first.stamps) ≡ true = subst (λ (events : List CacheCall). is_fresh key ticket (stamps_by events new first.stamps) ≡ true) both (sym (ap (is_fresh key ticket) last-stamps) ∙ fresh) in
    ap (λ (events : List CacheCall). changes_of key (past [] (acts events new).log)) both
    ∙ tickets-hold config first.stamps one two key ticket begins.right (subst AllCallSized both sized) (subst (λ (events : List CacheCall). Honest (acts events new).log) both honest) begins.slots begins.adds lent-so fresh-so
