-- What each call tells.
use Rattle.std.proofs.Common.{◌≡◌, ◌⊎◌, inl, inr, ℕ, ◌+◌, ◌==◌, Bool, true, false, not, List, [], ◌∷◌, ◌++◌, Option, Some, None, refl, sym, ap, ◌∙◌, subst, arith, filter}
use Rattle.std.specs.Prelude.{if◌then◌else◌, is_some, option_map}
use Rattle.hc_types.specs.Config.{Config}
use Rattle.hc_types.specs.declared.refusal.Refusal.TheVariants.{ForeignHandle, Exists as AlreadyExists}
use Rattle.hc_memory.specs.Item.{Handle}
use Rattle.hc_engines.specs.Engine.{IoResult, Get}
use Rattle.hc_engines.specs.pair.Pair as pairs
use Rattle.hc_history.specs.Note.{Note, Op, Insert, Add, Remove, Reply, Stored, Begin, Did, End}
use Rattle.hc_history.specs.Books.{Call, open_calls, open_call}
use Rattle.hc_history.specs.Lawful.{past}
use Rattle.hc_history.proofs.Appended.{past-append}
use Rattle.hc_machine.specs.Nvm.{ToFind, ToAdd, Nvm, Fill, Waiter, Filling, Job, next_fill, taken_fill, job_at}
use Rattle.hc_machine.specs.Takes as takes
use Rattle.hc_machine.specs.Takes.{Taken, Filled, launched, take_fill, goes_on, resumed}
use Rattle.hc_machine.specs.Cache.{Cache, Owed, Moved, Replied, Waits, Refused, owed_at, takes_in, and_then, answers, stays}
use Rattle.hc_machine.specs.Evicting.{allocate}
use Rattle.hc_machine.specs.Waiting.{live, find_reply}
use Rattle.hc_machine.specs.Calls.{insert, find, discard, take_reply, take_of, tick, in_memory, is_known, must_wait, used, find_now, wait_for, begin, store}
use Rattle.hc_machine.specs.Workers.{writer_take, filler_take, finish, reclaim, fill, take_on, after_take, after_finish, finish_on}
use Rattle.hc_invariant.specs.Tells.{asked_in, is_unanswered}
use Rattle.hc_invariant.specs.Good.{Agrees, fills_of}
use Rattle.hc_laws.specs.First.{NonePasses}
use Rattle.hc_laws.specs.Telling.{begins_or_ends, is_of_call, Framed}
use Rattle.hc_laws.proofs.Framing.{frames}
use Rattle.hc_proof.specs.fresh.Answers.{Answers, AllCalls}
use Rattle.hc_proof.proofs.fresh.Speaking.{answers-append, fill_speaks, FilledCalls}
use Rattle.hc_proof.proofs.fresh.Calming.{answers_map}
use Rattle.hc_proof.proofs.fresh.Freshness.{none, writer_end, launched_end, goes_on_end, result_silent, allocate_silent, discard_silent, tick_silent, reclaim_silent}
use Rattle.hc_lease.specs.Service.{IsAmong}
use Rattle.hc_lease_log.specs.Log.{key_of, Changing, Waiting, Replying, Other, OnlyBegins, Tells}
use Rattle.hc_lease_steps.specs.Calls.{CallsTell}

-- ---- parts that begin nothing

abbrev pub Beginless : List Note → Type 0
Beginless [] = Unit {0}
Beginless (Begin call client op ∷ notes) = ⊥
Beginless (note ∷ notes) = Beginless notes

beginless-begins : (P : ℕ → List ℕ → Type 0) (notes : List Note) → Beginless notes → OnlyBegins P notes
beginless-begins P [] h = tt
beginless-begins P (Begin call client op ∷ notes) h = absurd h
beginless-begins P (note ∷ notes) h = beginless-begins P notes h

begins-append : (P : ℕ → List ℕ → Type 0) (one two : List Note) → OnlyBegins P one → OnlyBegins P two → OnlyBegins P (one ++ two)
begins-append P [] two h k = k
begins-append P (Begin call client op ∷ one) two h k = (h.0, begins-append P one two h.1 k)
begins-append P (note ∷ one) two h k = begins-append P one two h k

pub beginless-append : (one two : List Note) → Beginless one → Beginless two → Beginless (one ++ two)
beginless-append [] two h k = k
beginless-append (Begin call client op ∷ one) two h k = absurd h
beginless-append (note ∷ one) two h k = beginless-append one two h k

pub answers-beginless : (Q : ℕ → Type 0) (notes : List Note) → Answers Q notes → Beginless notes
answers-beginless Q [] h = tt
answers-beginless Q (Begin call client op ∷ notes) h = absurd h
answers-beginless Q (Did call reply ∷ notes) h = answers-beginless Q notes h.1
answers-beginless Q (note ∷ notes) h = answers-beginless Q notes h

pub frame-beginless : (notes : List Note) → NonePasses begins_or_ends notes → Beginless notes
frame-beginless [] h = tt
frame-beginless (Begin call client op ∷ notes) h = absurd (cc)
frame-beginless (End call ∷ notes) h = absurd (cc)
frame-beginless (note ∷ notes) h = frame-beginless notes h

pub call-beginless : (notes : List Note) → NonePasses is_of_call notes → Beginless notes
call-beginless [] h = tt
call-beginless (Begin call client op ∷ notes) h = absurd (cc)
call-beginless (Did call reply ∷ notes) h = absurd (cc)
call-beginless (End call ∷ notes) h = absurd (cc)
call-beginless (note ∷ notes) h = call-beginless notes h

-- ---- calls that are open

pub filter-among : {X : Type 0} (p : X → Bool) (x : X) (xs : List X) → IsAmong x (filter p xs) → IsAmong x xs × (p x ≡ true)
filter-among p x [] h = absurd h
filter-among p x (y ∷ ys) h = go (p y) refl h (filter-among p x ys)
  where
    go : (b : Bool) → p y ≡ b → IsAmong x (if b then y ∷ filter p ys else filter p ys) → (IsAmong x (filter p ys) → IsAmong x ys × (p x ≡ true)) → ((x ≡ y) ⊎ IsAmong x ys) × (p x ≡ true)
    go true t (inl e) more = (inl e, ap p e ∙ t)
    go true t (inr h) more = (inr (more h).0, (more h).1)
    go false t h more = (inr (more h).0, (more h).1)

open-past : (call : Call) (part h : List Note) → Beginless part → IsAmong call (open_calls (past h part)) → IsAmong call (open_calls h)
open-past call [] h b among = among
open-past call (Begin n client op ∷ part) h b among = absurd b
open-past call (Did n reply ∷ part) h b among = (filter-among _ call (open_calls h) (open-past call part (Did n reply ∷ h) b among)).0
open-past call (note ∷ part) h b among = open-past call part (note ∷ h) b among

-- a call that is answered at once
framed-tells : (older : List Note) (client : ℕ) (op : Op) (reply : Reply) (key : List ℕ) (cache : Cache) (moved : Moved) → key_of op ≡ Some key → Framed client op reply cache moved → Tells (Changing key) older moved.part
framed-tells older client op reply key cache moved own f = subst (λ part. Tells (Changing key) older part) (sym f.part) (begins, opens)
  where
    n : ℕ
    n = cache.calls + 1

    last : List Note
    last = f.behind ++ End (cache.calls + 1) ∷ []

    rest : List Note
    rest = f.before ++ Did (cache.calls + 1) reply ∷ (f.behind ++ End (cache.calls + 1) ∷ [])

    last-less : Beginless (f.behind ++ End (cache.calls + 1) ∷ [])
    last-less = beginless-append f.behind (End (cache.calls + 1) ∷ []) (frame-beginless f.behind f.no_frame) tt

    begins : OnlyBegins (λ call other. other ≡ key) (Begin (cache.calls + 1) client op ∷ (f.before ++ Did (cache.calls + 1) reply ∷ (f.behind ++ End (cache.calls + 1) ∷ [])))
    begins = ((λ other e. some-same other key (sym e ∙ own)), beginless-begins _ (f.before ++ Did (cache.calls + 1) reply ∷ (f.behind ++ End (cache.calls + 1) ∷ [])) (beginless-append f.before (Did (cache.calls + 1) reply ∷ (f.behind ++ End (cache.calls + 1) ∷ [])) (call-beginless f.before f.no_call) last-less))
      where
        some-same : (x y : List ℕ) → ◌≡◌ {A = Option (List ℕ)} (Some x) (Some y) → x ≡ y
        some-same x y h = cc

    opens : (call : Call) → IsAmong call (open_calls (past (Begin (cache.calls + 1) client op ∷ older) (f.before ++ Did (cache.calls + 1) reply ∷ (f.behind ++ End (cache.calls + 1) ∷ [])))) → IsAmong call (open_calls older)
    opens call among = out (filter-among _ call (open_calls middle) (open-past call (f.behind ++ End (cache.calls + 1) ∷ []) (Did (cache.calls + 1) reply ∷ middle) last-less (subst (λ h. IsAmong call (open_calls h)) (past-append (Begin (cache.calls + 1) client op ∷ older) f.before (Did (cache.calls + 1) reply ∷ (f.behind ++ End (cache.calls + 1) ∷ []))) among)))
      where
        middle : List Note
        middle = past (Begin (cache.calls + 1) client op ∷ older) f.before

        out : IsAmong call (open_calls (past (Begin (cache.calls + 1) client op ∷ older) f.before)) × (not (call.number == (cache.calls + 1)) ≡ true) → IsAmong call (open_calls older)
        out found = at (open-past call f.before (Begin (cache.calls + 1) client op ∷ older) (call-beginless f.before f.no_call) found.0)
          where
            at : (call ≡ record { number = cache.calls + 1; client = client; op = op }) ⊎ IsAmong call (open_calls older) → IsAmong call (open_calls older)
            at (inl is) = let number : call.number ≡ cache.calls + 1 = ap (λ (c : Call). c.number) is in absurd (grind (arith, number, found.1))
            at (inr among) = among

-- ---- finds and adds

find-tells : (older : List Note) (client : ℕ) (key : List ℕ) (cache : Cache) → Tells Other older (find client key cache).part
find-tells older client key cache = ((λ other e. absurd (cc)), beginless-begins _ (if must_wait (record cache { calls = cache.calls + 1 }) key then answers (Waits (cache.calls + 1)) (wait_for key ToFind (record cache { calls = cache.calls + 1 })) else find_now (find_reply (live cache.now (in_memory (record cache { calls = cache.calls + 1 }) key))) (used key (record cache { calls = cache.calls + 1 }))).part (less (must_wait (record cache { calls = cache.calls + 1 }) key) (find_reply (live cache.now (in_memory (record cache { calls = cache.calls + 1 }) key))) (record cache { calls = cache.calls + 1 }) (used key (record cache { calls = cache.calls + 1 }))))
  where
    less : (b : Bool) (reply : Reply) (one two : Cache) → Beginless (if b then answers (Waits one.calls) (wait_for key ToFind one) else find_now reply two).part
    less true reply one two = tt
    less false reply one two = tt

-- of four ways one alone waits
pick : (call : ℕ) (P : List Note → Type 0) (a b w : Bool) (r s x y : Moved) → (r.answer ≡ Waits call → ⊥) → (s.answer ≡ Waits call → ⊥) → (y.answer ≡ Waits call → ⊥) → (x.answer ≡ Waits call → P x.part)
    → (if a then r else (if b then (if w then x else y) else s)).answer ≡ Waits call → P (if a then r else (if b then (if w then x else y) else s)).part
pick call P true b w r s x y nr ns ny ok h = absurd (nr h)
pick call P false false w r s x y nr ns ny ok h = absurd (ns h)
pick call P false true true r s x y nr ns ny ok h = ok h
pick call P false true false r s x y nr ns ny ok h = absurd (ny h)

waits-tells : (older : List Note) (client : ℕ) (handle : Handle) (cache : Cache) (call : ℕ) → (insert client handle cache).answer ≡ Waits call → Tells (Waiting call handle.key) older (insert client handle cache).part
waits-tells older client handle cache call h = pick call (OnlyBegins (λ other k. (other ≡ call) × (k ≡ handle.key)))
    (is_some (live cache.now (in_memory cache handle.key))) (is_known cache handle) (must_wait cache handle.key)
    (stays (Refused AlreadyExists) cache) (stays (Refused ForeignHandle) cache)
    (answers (Waits (cache.calls + 1)) (and_then (begin client (Add handle.key handle.value handle.expiry) cache) (wait_for handle.key (ToAdd handle))))
    (answers (Replied Stored) (and_then (begin client (Add handle.key handle.value handle.expiry) cache) (store handle)))
    (λ e. absurd (cc)) (λ e. absurd (cc)) (λ e. absurd (cc))
    (λ e. let same : cache.calls + 1 ≡ call = cc in ((λ k is. (same, own k is)), tt)) h
  where
    own : (k : List ℕ) → ◌≡◌ {A = Option (List ℕ)} (Some handle.key) (Some k) → k ≡ handle.key
    own k is = cc

-- ---- replies

reply-tells : (older : List Note) (config : Config) (call : ℕ) (cache : Cache) (reply : Reply) → Agrees config older cache → (take_reply call cache).answer ≡ Replied reply → Tells (Replying call) older (take_reply call cache).part
reply-tells older config call cache reply g h = go (owed_at call cache.owed) refl h
  where
    closed : is_some (asked_in call (fills_of cache.nvm)) ≡ false → open_call call (open_calls older) ≡ None
    closed e = at (open_call call (open_calls older)) (asked_in call (fills_of cache.nvm)) (g.calls.open_ones call) e
      where
        at : (o : Option Call) (asked : Option Op) → option_map (λ (c : Call). c.op) o ≡ asked → is_some asked ≡ false → o ≡ None
        at None asked e f = refl
        at (Some c) asked e f = let no : true ≡ false = ap is_some e ∙ f in absurd (cc)

    go : (o : Option Owed) → owed_at call cache.owed ≡ o → (take_of o cache).answer ≡ Replied reply → Tells (Replying call) older (take_of o cache).part
    go None e h = absurd (cc)
    go (Some owed) e h = go2 owed.reply refl h
      where
        go2 : (r : Option Reply) → owed.reply ≡ r → (take_of (Some (record owed { reply = r })) cache).answer ≡ Replied reply → Tells (Replying call) older (take_of (Some (record owed { reply = r })) cache).part
        go2 None f h = absurd (cc)
        go2 (Some r) f h = (tt, closed (sym (g.calls.owes call) ∙ (ap is_unanswered e ∙ ap (λ x. not (is_some x)) f)))

-- ---- workers

abbrev any : ℕ → Type 0
any n = Unit {0}

all-any : (waiters : List Waiter) → AllCalls any waiters
all-any [] = tt
all-any (waiter ∷ waiters) = (tt, all-any waiters)

filled-any : (filled : Option Filled) → FilledCalls any filled
filled-any None = tt
filled-any (Some filled) = all-any filled.waiters

take-beginless : (taken : Taken) (cache : Cache) → Answers none taken.part → Beginless (after_take taken cache).part
take-beginless taken cache silent = answers-beginless any (taken.part ++ (fill taken.filled (takes_in taken.part taken.nvm cache).cache).part) (answers-append any taken.part (fill taken.filled (takes_in taken.part taken.nvm cache).cache).part (answers_map none any (λ n h. absurd h) taken.part silent) (fill_speaks any taken.filled (takes_in taken.part taken.nvm cache).cache (filled-any taken.filled)).answers)

pub writer-beginless : (cache : Cache) → Beginless (writer_take cache).part
writer-beginless cache = go cache.nvm
  where
    go : (nvm : Option Nvm) → Beginless (take_on nvm takes.writer_take cache).part
    go None = tt
    go (Some nvm) = take-beginless (takes.writer_take nvm) cache (writer_end nvm).silent

pub filler-beginless : (cache : Cache) → Beginless (filler_take cache).part
filler-beginless cache = go cache.nvm
  where
    by : (o : Option Fill) (nvm : Nvm) → Beginless (after_take (take_fill o nvm) cache).part
    by None nvm = tt
    by (Some one) nvm =
        let number = nvm.made + 1 in
        let m = pairs.start number (Get one.key) nvm.pair in
        let left : Nvm = record nvm { pair = m.pair; fills = taken_fill one.key number nvm.fills } in
        take-beginless (launched Filling m.next left) cache (launched_end Filling m.next left).silent

    go : (nvm : Option Nvm) → Beginless (take_on nvm takes.filler_take cache).part
    go None = tt
    go (Some nvm) = by (next_fill nvm) nvm

pub finish-beginless : (number : ℕ) (result : IoResult) (cache : Cache) → Beginless (finish number result cache).part
finish-beginless number result cache = go cache.nvm
  where
    resumes : (nvm : Nvm) (job : Job) (o : Option pairs.Moved) → Beginless (after_finish (option_map (resumed job result nvm) o) cache).part
    resumes nvm job None = tt
    resumes nvm job (Some m) = take-beginless (resumed job result nvm m) cache (result_silent job.order result (goes_on job m.next (record nvm { pair = m.pair })).part (goes_on_end job m.next (record nvm { pair = m.pair })).silent)

    jobs : (nvm : Nvm) (o : Option Job) → Beginless (after_finish (takes.finish_job o result nvm) cache).part
    jobs nvm None = tt
    jobs nvm (Some job) = resumes nvm job (pairs.resume job.number result nvm.pair)

    go : (nvm : Option Nvm) → Beginless (finish_on nvm number result cache).part
    go None = tt
    go (Some nvm) = jobs nvm (job_at number nvm.jobs)

silent-tells : (older part : List Note) → Answers none part → Tells Other older part
silent-tells older part h = beginless-begins _ part (answers-beginless none part h)

pub calls-tell : CallsTell
calls-tell older client cache = record {
  replaced = λ handle reply h. framed-tells older client (Insert handle.key handle.value handle.expiry) reply handle.key cache _ refl ((frames client cache).replaces handle reply h);
  added = λ handle reply h. framed-tells older client (Add handle.key handle.value handle.expiry) reply handle.key cache _ refl ((frames client cache).adds handle reply h);
  removed = λ key. framed-tells older client (Remove key) _ key cache _ refl ((frames client cache).removes key);
  waits = λ handle call h. waits-tells older client handle cache call h;
  replied = λ config call reply g h. reply-tells older config call cache reply g h;
  found = λ key. find-tells older client key cache;
  allocated = λ pool key value ttl. silent-tells older (allocate pool key value ttl cache).part (allocate_silent pool key value ttl cache).answers_none;
  discarded = λ handle. silent-tells older (discard handle cache).part (discard_silent handle cache).answers_none;
  ticked = λ moment. silent-tells older (tick moment cache).part (tick_silent moment cache).answers_none;
  wrote = beginless-begins (λ n k. ⊥) (writer_take cache).part (writer-beginless cache);
  filled = beginless-begins (λ n k. ⊥) (filler_take cache).part (filler-beginless cache);
  finished = λ number result. beginless-begins (λ n k. ⊥) (finish number result cache).part (finish-beginless number result cache);
  reclaimed = silent-tells older (reclaim cache).part (reclaim_silent cache).answers_none;
}
