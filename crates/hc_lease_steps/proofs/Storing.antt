-- What each call of the machine stores.
use Rattle.std.proofs.Common.{ℕ, ◌+◌, Bool, true, false, List, [], ◌∷◌, ◌++◌, sym, subst}
use Rattle.std.specs.Prelude.{if◌then◌else◌}
use Rattle.hc_memory.specs.Item.{Handle}
use Rattle.hc_history.specs.Note.{Note, Op, Insert, Remove, Reply, Begin, Did, End}
use Rattle.hc_machine.specs.Nvm.{ToFind}
use Rattle.hc_machine.specs.Cache.{Cache, Moved, Waits, answers}
use Rattle.hc_machine.specs.Evicting.{allocate}
use Rattle.hc_machine.specs.Waiting.{live, find_reply}
use Rattle.hc_machine.specs.Calls.{insert_or_replace, find, remove, discard, take_reply, tick, in_memory, must_wait, used, find_now, wait_for}
use Rattle.hc_machine.specs.Workers.{writer_take, filler_take, finish, reclaim}
use Rattle.hc_laws.specs.Telling.{Framed}
use Rattle.hc_laws.proofs.Framing.{frames}
use Rattle.hc_proof.specs.fresh.Answers.{Answers}
use Rattle.hc_proof.proofs.fresh.Freshness.{none, allocate_silent, discard_silent, reply_silent, tick_silent, reclaim_silent}
use Rattle.hc_lease_log.specs.Rows.{Stores, MayStore}
use Rattle.hc_lease_steps.specs.Storing.{CallsStore}
use Rattle.hc_lease_steps.proofs.Telling.{Beginless, beginless-append, frame-beginless, call-beginless, answers-beginless, writer-beginless, filler-beginless, finish-beginless}

module _ (P : List ℕ → List ℕ → Type 0) where
  stores-less : (notes : List Note) → Beginless notes → Stores P notes
  stores-less [] h = tt
  stores-less (Begin call client op ∷ notes) h = absurd h
  stores-less (note ∷ notes) h = stores-less notes h

  silent-stores : (notes : List Note) → Answers none notes → Stores P notes
  silent-stores notes h = stores-less notes (answers-beginless none notes h)

  -- what comes behind the begin of a call that is answered at once
  framed-rest : (client : ℕ) (op : Op) (reply : Reply) (cache : Cache) (moved : Moved) (f : Framed client op reply cache moved) → Stores P (f.before ++ Did (cache.calls + 1) reply ∷ (f.behind ++ End (cache.calls + 1) ∷ []))
  framed-rest client op reply cache moved f = stores-less (f.before ++ Did (cache.calls + 1) reply ∷ (f.behind ++ End (cache.calls + 1) ∷ []))
      (beginless-append f.before (Did (cache.calls + 1) reply ∷ (f.behind ++ End (cache.calls + 1) ∷ [])) (call-beginless f.before f.no_call) (beginless-append f.behind (End (cache.calls + 1) ∷ []) (frame-beginless f.behind f.no_frame) tt))

  insert-stores : (client : ℕ) (handle : Handle) (reply : Reply) (cache : Cache) (moved : Moved) → Framed client (Insert handle.key handle.value handle.expiry) reply cache moved → P handle.key handle.value → Stores P moved.part
  insert-stores client handle reply cache moved f may = subst (λ part. Stores P part) (sym f.part) (may, framed-rest client (Insert handle.key handle.value handle.expiry) reply cache moved f)

  remove-stores : (client : ℕ) (key : List ℕ) (reply : Reply) (cache : Cache) (moved : Moved) → Framed client (Remove key) reply cache moved → Stores P moved.part
  remove-stores client key reply cache moved f = subst (λ part. Stores P part) (sym f.part) (framed-rest client (Remove key) reply cache moved f)

  find-stores : (client : ℕ) (key : List ℕ) (cache : Cache) → Stores P (find client key cache).part
  find-stores client key cache = stores-less (if must_wait (record cache { calls = cache.calls + 1 }) key then answers (Waits (cache.calls + 1)) (wait_for key ToFind (record cache { calls = cache.calls + 1 })) else find_now (find_reply (live cache.now (in_memory (record cache { calls = cache.calls + 1 }) key))) (used key (record cache { calls = cache.calls + 1 }))).part (less (must_wait (record cache { calls = cache.calls + 1 }) key) (find_reply (live cache.now (in_memory (record cache { calls = cache.calls + 1 }) key))) (record cache { calls = cache.calls + 1 }) (used key (record cache { calls = cache.calls + 1 })))
    where
      less : (b : Bool) (reply : Reply) (one two : Cache) → Beginless (if b then answers (Waits one.calls) (wait_for key ToFind one) else find_now reply two).part
      less true reply one two = tt
      less false reply one two = tt

pub calls-store : CallsStore
calls-store version world client cache = record {
  replaced = λ handle reply h may. insert-stores (MayStore version world) client handle reply cache (insert_or_replace client handle cache) ((frames client cache).replaces handle reply h) may;
  removed = λ key. remove-stores (MayStore version world) client key _ cache (remove client key cache) ((frames client cache).removes key);
  found = λ key. find-stores (MayStore version world) client key cache;
  allocated = λ pool key value ttl. silent-stores (MayStore version world) (allocate pool key value ttl cache).part (allocate_silent pool key value ttl cache).answers_none;
  discarded = λ handle. silent-stores (MayStore version world) (discard handle cache).part (discard_silent handle cache).answers_none;
  replied = λ call. silent-stores (MayStore version world) (take_reply call cache).part (reply_silent call cache).answers_none;
  ticked = λ moment. silent-stores (MayStore version world) (tick moment cache).part (tick_silent moment cache).answers_none;
  wrote = stores-less (MayStore version world) (writer_take cache).part (writer-beginless cache);
  filled = stores-less (MayStore version world) (filler_take cache).part (filler-beginless cache);
  finished = λ number result. stores-less (MayStore version world) (finish number result cache).part (finish-beginless number result cache);
  reclaimed = silent-stores (MayStore version world) (reclaim cache).part (reclaim_silent cache).answers_none;
}
