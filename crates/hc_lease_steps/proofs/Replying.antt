-- A find that waits is answered by what the map has then: nothing stale, where it was begun after a delete.
use Rattle.std.proofs.Common.{◌≡◌, ◌⊎◌, inl, inr, ℕ, ◌+◌, ◌≤◌, ◌==◌, Bool, true, false, List, [], ◌∷◌, ◌++◌, length, Option, Some, None, refl, sym, ap, ◌∙◌, subst, arith}
use Rattle.std.specs.Prelude.{if◌then◌else◌, is_some, option_map, IsSomeAnd}
use Rattle.hc_types.specs.Config.{Config}
use Rattle.hc_history.specs.Note.{Note, Op, Find, Reply, Hit, Begin, Did, End}
use Rattle.hc_history.specs.Books.{Call, Answer, begun, open_calls, open_call, owed, entry_at, now_at, value_at}
use Rattle.hc_history.specs.Lawful.{IsAnswer, Lawful, past}
use Rattle.hc_history.proofs.Appended.{past-append}
use Rattle.hc_machine.specs.Cache.{Cache, Owed, Waits, Replied, owed_at, new_cache}
use Rattle.hc_machine.specs.Calls.{find, take_of, must_wait}
use Rattle.hc_invariant.specs.Tells.{asked_in, is_unanswered, reply_in, reply_of}
use Rattle.hc_invariant.specs.Good.{Agrees, fills_of}
use Rattle.hc_machine.specs.Call.{Finds, Removes, act, acts}
use Rattle.hc_theorem.proofs.headlines.WholeRuns as theorem
use Rattle.hc_lease.specs.Stamps.{Stamps}
use Rattle.hc_lease.specs.Service.{IsAmong}
use Rattle.hc_lease_log.specs.Rows as rows
use Rattle.hc_lease_log.specs.Rows.{World, Stores}
use Rattle.hc_lease_log.proofs.Over.{kept-among, found-among}
use Rattle.hc_lease_log.proofs.Rows.{EntryGood, OpenGood, note-good, open-note, rest-stores, none-good, found-good, Sound, sound-after, begins-sound, Stands, stored-good, stands-after, deleted-stands}
use Rattle.hc_lease_steps.specs.Runs.{step_of}
use Rattle.hc_lease_steps.specs.Serving.{Deed, Commit, Calls, Lend, Ask, Service, told_by, after, run, calls_of, AllMay, new_service, Serves, NoReplyIsStale}
use Rattle.hc_lease_steps.proofs.Running.{call-tells, AllAgree, all-agree, agrees-at-last}
use Rattle.hc_lease_steps.proofs.Deleting.{removes-delete}
use Rattle.hc_lease_steps.proofs.Serving.{no-wait, stores, found_if}

-- ---- what a lawful log says of calls

-- a call has the next number, and an open one is answered as the map wants
abbrev Own : Config → List Note → Note → Type 0
Own config h (Begin call client op) = call ≡ begun h + 1
Own config h (Did call reply) = IsSomeAnd (open_call call (open_calls h)) (λ c. IsAnswer config.flash h call c.op reply)
Own config h note = Unit {0}

abbrev pub Owns : Config → List Note → List Note → Type 0
Owns config h [] = Unit {0}
Owns config h (note ∷ part) = Own config h note × Owns config (note ∷ h) part

pub owns-lawful : (config : Config) (h log : List Note) → Lawful config h log → Owns config h log
owns-lawful config h [] lawful = tt
owns-lawful config h (Begin call client op ∷ log) lawful = (lawful.0, owns-lawful config (Begin call client op ∷ h) log lawful.1)
owns-lawful config h (Did call reply ∷ log) lawful = (lawful.0, owns-lawful config (Did call reply ∷ h) log lawful.1)
owns-lawful config h (note ∷ log) lawful = (tt, owns-lawful config (note ∷ h) log lawful.1)

pub owns-split : (config : Config) (h one two : List Note) → Owns config h (one ++ two) → Owns config h one × Owns config (past h one) two
owns-split config h [] two owns = (tt, owns)
owns-split config h (note ∷ one) two owns = let rest = owns-split config (note ∷ h) one two owns.1 in ((owns.0, rest.0), rest.1)

-- ---- numbers of calls

among-open : (n : ℕ) (calls : List Call) (call : Call) → IsAmong call calls → call.number ≡ n → open_call n calls ≡ None → ⊥
among-open n [] call among e none = among
among-open n (c ∷ calls) call among e none = go (c.number == n) refl among none (λ a h. among-open n calls call a e h)
  where
    go : (b : Bool) → (c.number == n) ≡ b → (call ≡ c) ⊎ IsAmong call calls → (if b then Some c else open_call n calls) ≡ None → (IsAmong call calls → open_call n calls ≡ None → ⊥) → ⊥
    go true t among none more = absurd (cc)
    go false t (inl is) none more = let same : c.number ≡ n = sym (ap (λ (x : Call). x.number) is) ∙ e in absurd (grind (arith, t, same))
    go false t (inr among) none more = more among none

among-reply : (n : ℕ) (reply : Reply) (all : List Answer) → IsAmong (record { number = n; reply = reply }) all → reply_in n all ≡ None → ⊥
among-reply n reply [] among none = among
among-reply n reply (a ∷ all) among none = go (a.number == n) refl among none (among-reply n reply all)
  where
    go : (b : Bool) → (a.number == n) ≡ b → (record { number = n; reply = reply } ≡ a) ⊎ IsAmong (record { number = n; reply = reply }) all → (if b then Some a.reply else reply_in n all) ≡ None → (IsAmong (record { number = n; reply = reply }) all → reply_in n all ≡ None → ⊥) → ⊥
    go true t among none more = absurd (cc)
    go false t (inl is) none more = let same : n ≡ a.number = ap (λ (x : Answer). x.number) is in absurd (grind (arith, t, same))
    go false t (inr among) none more = more among none

reply-among : (n : ℕ) (reply : Reply) (all : List Answer) → reply_in n all ≡ Some reply → IsAmong (record { number = n; reply = reply }) all
reply-among n reply [] e = absurd (cc)
reply-among n reply (a ∷ all) e = go (a.number == n) refl e (reply-among n reply all)
  where
    go : (b : Bool) → (a.number == n) ≡ b → (if b then Some a.reply else reply_in n all) ≡ Some reply → (reply_in n all ≡ Some reply → IsAmong (record { number = n; reply = reply }) all) → (record { number = n; reply = reply } ≡ a) ⊎ IsAmong (record { number = n; reply = reply }) all
    go true t e more = let number : n ≡ a.number = grind (arith, t) in let same : reply ≡ a.reply = cc in inl (λ i. record { number = number i; reply = same i })
    go false t e more = inr (more e)

-- ---- deeds that are still to come

record Ready (version : List ℕ → ℕ) (config : Config) (deeds : List Deed) (s : Service) : Type 0 where
  may : AllMay version deeds s
  agree : AllAgree config (calls_of deeds) s.world.log s.cache
  owns : Owns config s.world.log (acts (calls_of deeds) s.cache).log
  last : Agrees config (past s.world.log (acts (calls_of deeds) s.cache).log) (acts (calls_of deeds) s.cache).cache

module _ (version : List ℕ → ℕ) (config : Config) where
  ready-after : (deed : Deed) (deeds : List Deed) (s : Service) → Ready version config (deed ∷ deeds) s → Ready version config deeds (after deed s)
  ready-after (Commit key) deeds s r = record { may = r.may.1; agree = r.agree; owns = r.owns; last = r.last }
  ready-after (Calls event) deeds s r =
      let moved = act event s.cache in
      let rest = acts (calls_of deeds) moved.cache in
      record {
        may = r.may.1;
        agree = r.agree.1;
        owns = (owns-split config s.world.log moved.part rest.log r.owns).1;
        last = subst (λ (h : List Note). Agrees config h rest.cache) (past-append s.world.log moved.part rest.log) r.last;
      }
  ready-after Lend deeds s r = record { may = r.may.1; agree = r.agree; owns = r.owns; last = r.last }
  ready-after (Ask key ticket) deeds s r = record { may = r.may.1; agree = r.agree; owns = r.owns; last = r.last }

  ready-run : (one two : List Deed) (s : Service) → Ready version config (one ++ two) s → Ready version config two (run one s)
  ready-run [] two s r = r
  ready-run (deed ∷ one) two s r = ready-run one two (after deed s) (ready-after deed (one ++ two) s r)

  ready-last : (deeds : List Deed) (s : Service) → Ready version config deeds s → Agrees config (run deeds s).world.log (run deeds s).cache
  ready-last [] s r = r.last
  ready-last (deed ∷ deeds) s r = ready-last deeds (after deed s) (ready-after deed deeds s r)

  deed-may : (deed : Deed) (deeds : List Deed) (s : Service) → Ready version config (deed ∷ deeds) s → rows.May version (told_by deed s.cache) s.world
  deed-may (Commit key) deeds s r = tt
  deed-may (Calls event) deeds s r = (call-tells config s.world.log event s.cache r.agree.0, no-wait version config event (act event s.cache).answer s.world r.may.0, stores version config event s.cache s.world r.may.0)
  deed-may Lend deeds s r = tt
  deed-may (Ask key ticket) deeds s r = r.may.0

  sound-deeds : (slots : ℕ) (one two : List Deed) (s : Service) → Ready version config (one ++ two) s → Sound slots s.world → Sound slots (run one s).world
  sound-deeds slots [] two s r sound = sound
  sound-deeds slots (deed ∷ one) two s r sound = sound-deeds slots one two (after deed s) (ready-after deed (one ++ two) s r) (sound-after version slots (told_by deed s.cache) s.world (deed-may deed (one ++ two) s r) sound)

  stands-deeds : (slots floor : ℕ) (key : List ℕ) (one two : List Deed) (s : Service) → Ready version config (one ++ two) s → Stands version config.flash slots floor key s.world → Stands version config.flash slots floor key (run one s).world
  stands-deeds slots floor key [] two s r stands = stands
  stands-deeds slots floor key (deed ∷ one) two s r stands =
      stands-deeds slots floor key one two (after deed s) (ready-after deed (one ++ two) s r) (stands-after version config.flash slots floor key (told_by deed s.cache) s.world (deed-may deed (one ++ two) s r) stands)

  serves-ready : (deeds : List Deed) (stamps : Stamps) (versions : List ℕ → ℕ) → Serves version config deeds (new_service config stamps versions) → Ready version config deeds (new_service config stamps versions)
  serves-ready deeds stamps versions serves =
      let events = calls_of deeds in
      let new = new_cache config in
      record {
        may = serves.may;
        agree = all-agree config events [] new serves.sized (theorem.new_stands config serves.right) serves.honest;
        owns = owns-lawful config [] (acts events new).log (theorem.headline_of_logs config events serves.right serves.sized serves.honest).lawful;
        last = agrees-at-last config events [] new serves.sized (theorem.new_stands config serves.right) serves.honest;
      }

module _ (version : List ℕ → ℕ) (config : Config) (floor : ℕ) (key : List ℕ) (n : ℕ) where
  -- of the call with this number, a find of the key that was begun: what it asks, and that its answer isn't stale
  pub record Tracks (h : List Note) : Type 0 where
    pub old : n ≤ begun h
    pub asks : (call : Call) → IsAmong call (open_calls h) → call.number ≡ n → call.op ≡ Find key
    pub hits : (value : List ℕ) → IsAmong (record { number = n; reply = Hit value }) (owed h) → floor ≤ version value

  answered : (call : ℕ) (reply : Reply) (h : List Note) (o : Option Call) → open_call call (open_calls h) ≡ o → IsSomeAnd o (λ c. IsAnswer config.flash h call c.op reply) → EntryGood version config.flash floor key (entry_at config.flash h key)
      → Tracks h → call ≡ n → (value : List ℕ) → reply ≡ Hit value → floor ≤ version value
  answered call reply h None e own good t is value hit = absurd own
  answered call reply h (Some c) e own good t is value hit =
      let found = found-among call (open_calls h) c e in
      let asks : c.op ≡ Find key = t.asks c found.0 (found.1 ∙ is) in
      let has : value_at config.flash h key ≡ Some value = subst (λ (r : Reply). IsAnswer config.flash h call (Find key) r) hit (subst (λ (op : Op). IsAnswer config.flash h call op reply) asks own) in
      found-good version config.flash floor key (now_at h) value (entry_at config.flash h key) good has

  tracks-note : (note : Note) (h : List Note) → Own config h note → EntryGood version config.flash floor key (entry_at config.flash h key) → Tracks h → Tracks (note ∷ h)
  tracks-note (Begin call client op) h own good t = record {
    old = omega (arith, t.old);
    asks = λ c among e. begins c among e;
    hits = t.hits;
  }
    where
      begins : (c : Call) → (c ≡ record { number = call; client = client; op = op }) ⊎ IsAmong c (open_calls h) → c.number ≡ n → c.op ≡ Find key
      begins c (inl is) e = let number : call ≡ n = sym (ap (λ (x : Call). x.number) is) ∙ e in absurd (omega (arith, number, own, t.old))
      begins c (inr among) e = t.asks c among e
  tracks-note (Did call reply) h own good t = record {
    old = t.old;
    asks = λ c among e. t.asks c (kept-among _ c (open_calls h) among) e;
    hits = λ value among. did value among;
  }
    where
      did : (value : List ℕ) → (◌≡◌ {A = Answer} (record { number = n; reply = Hit value }) (record { number = call; reply = reply })) ⊎ IsAmong (record { number = n; reply = Hit value }) (owed h) → floor ≤ version value
      did value (inl is) = answered call reply h (open_call call (open_calls h)) refl own good t (sym (ap (λ (x : Answer). x.number) is)) value (sym (ap (λ (x : Answer). x.reply) is))
      did value (inr among) = t.hits value among
  tracks-note (End call) h own good t = record { old = t.old; asks = t.asks; hits = λ value among. t.hits value (kept-among _ (record { number = n; reply = Hit value }) (owed h) among) }
  tracks-note note h own good t = record { old = t.old; asks = t.asks; hits = t.hits }

  part-tracks : (P : List ℕ → List ℕ → Type 0) (part h : List Note) → ((k v : List ℕ) → P k v → k ≡ key → floor ≤ version v) → Stores P part → OpenGood version config.flash floor key h
      → EntryGood version config.flash floor key (entry_at config.flash h key) → Owns config h part → Tracks h → Tracks (past h part)
  part-tracks P [] h f stores opens good owns t = t
  part-tracks P (note ∷ part) h f stores opens good owns t =
      part-tracks P part (note ∷ h) f (rest-stores version config.flash floor key P note part stores) (open-note version config.flash floor key P note part h f stores opens)
      (note-good version config.flash floor key note h opens good) owns.1 (tracks-note note h owns.0 good t)

  -- ---- over the service's deeds

  tracks-run : (slots : ℕ) (deeds : List Deed) (s : Service) → Ready version config deeds s → Stands version config.flash slots floor key s.world → Tracks s.world.log → Tracks (run deeds s).world.log
  tracks-run slots [] s ready stands t = t
  tracks-run slots (Commit k ∷ deeds) s ready stands t = tracks-run slots deeds (after (Commit k) s) (ready-after version config (Commit k) deeds s ready) (stands-after version config.flash slots floor key (rows.Commit k) s.world tt stands) t
  tracks-run slots (Calls event ∷ deeds) s ready stands t =
      let part = (act event s.cache).part in
      let may = deed-may version config (Calls event) deeds s ready in
      tracks-run slots deeds (after (Calls event) s) (ready-after version config (Calls event) deeds s ready) (stands-after version config.flash slots floor key (told_by (Calls event) s.cache) s.world may stands)
      (part-tracks (rows.MayStore version s.world) part s.world.log (stored-good version config.flash slots floor key s.world stands) may.2 (none-good version config.flash floor key s.world.log stands.sound.opens) stands.entry
      (owns-split config s.world.log part (acts (calls_of deeds) (act event s.cache).cache).log ready.owns).0 t)
  tracks-run slots (Lend ∷ deeds) s ready stands t = tracks-run slots deeds (after Lend s) (ready-after version config Lend deeds s ready) (stands-after version config.flash slots floor key rows.Lend s.world tt stands) t
  tracks-run slots (Ask k ticket ∷ deeds) s ready stands t =
      tracks-run slots deeds (after (Ask k ticket) s) (ready-after version config (Ask k ticket) deeds s ready) (stands-after version config.flash slots floor key (rows.Ask k ticket) s.world (deed-may version config (Ask k ticket) deeds s ready) stands) t

  -- a find that waits begins a call with a number that none has
  find-tracks : (h : List Note) (cache : Cache) (finder : ℕ) → Agrees config h cache → (find finder key cache).answer ≡ Waits n → Tracks (past h (find finder key cache).part)
  find-tracks h cache finder g waits = go (must_wait cache key) waits
    where
      next : Cache
      next = record cache { calls = cache.calls + 1 }

      started : cache.calls + 1 ≡ n → Tracks (Begin (cache.calls + 1) finder (Find key) ∷ h)
      started e = subst (λ m. Tracks (Begin m finder (Find key) ∷ h)) (sym e) (record {
        old = let number = g.calls.number in omega (arith, number, e);
        asks = λ c among is. asks c among is;
        hits = λ value among. absurd (among-reply n (Hit value) (owed h) among (g.calls.replies n ∙ ap reply_of none_owed));
      })
        where
          none_owed : owed_at n cache.owed ≡ None
          none_owed = g.calls.fresh n (omega (arith, e))

          none_asked : (o : Option Op) → asked_in n (fills_of cache.nvm) ≡ o → is_some o ≡ false → o ≡ None
          none_asked None f h = refl
          none_asked (Some op) f h = absurd (cc)

          none_open : (o : Option Call) → open_call n (open_calls h) ≡ o → option_map (λ (c : Call). c.op) o ≡ None → o ≡ None
          none_open None f h = refl
          none_open (Some c) f h = absurd (cc)

          unasked : asked_in n (fills_of cache.nvm) ≡ None
          unasked = none_asked (asked_in n (fills_of cache.nvm)) refl (sym (g.calls.owes n) ∙ ap is_unanswered none_owed)

          unopen : open_call n (open_calls h) ≡ None
          unopen = none_open (open_call n (open_calls h)) refl (g.calls.open_ones n ∙ unasked)

          asks : (c : Call) → (c ≡ record { number = n; client = finder; op = Find key }) ⊎ IsAmong c (open_calls h) → c.number ≡ n → c.op ≡ Find key
          asks c (inl is) e = ap (λ (x : Call). x.op) is
          asks c (inr among) e = absurd (among-open n (open_calls h) c among e unopen)

      go : (b : Bool) → (found_if b key (record cache { calls = cache.calls + 1 })).answer ≡ Waits n → Tracks (past h (Begin (cache.calls + 1) finder (Find key) ∷ (found_if b key (record cache { calls = cache.calls + 1 })).part))
      go true e = started (cc)
      go false e = absurd (cc)

-- a reply that is taken is owed
taken : (o : Option Owed) (cache : Cache) (reply : Reply) → (take_of o cache).answer ≡ Replied reply → reply_of o ≡ Some reply
taken None cache reply e = absurd (cc)
taken (Some owed) cache reply e = go owed.reply e
  where
    go : (r : Option Reply) → (take_of (Some (record owed { reply = r })) cache).answer ≡ Replied reply → r ≡ Some reply
    go None e = absurd (cc)
    go (Some r) e = let same : r ≡ reply = cc in ap Some same

pub no-reply-is-stale : NoReplyIsStale
no-reply-is-stale version config stamps versions earlier between later client finder call key value serves waits hit =
    let begins = new_service config stamps versions in
    let delete : Deed = Calls (Removes client key) in
    let finds : Deed = Calls (Finds finder key) in
    let tail = between ++ finds ∷ later in
    let slots = length stamps.slots in
    let one = run earlier begins in
    let two = after delete one in
    let three = run between two in
    let four = after finds three in
    let last = run later four in
    let floor = one.world.rows key in
    let ready = serves-ready version config (earlier ++ delete ∷ tail) stamps versions serves in
    let ready-one = ready-run version config earlier (delete ∷ tail) begins ready in
    let ready-two = ready-after version config delete tail one ready-one in
    let ready-three = ready-run version config between (finds ∷ later) two ready-two in
    let ready-four = ready-after version config finds later three ready-three in
    let sound : Sound slots one.world = sound-deeds version config slots earlier (delete ∷ tail) begins ready (begins-sound begins.world (record { slots = serves.slots; log = refl; lent = refl; loads = refl })) in
    let stands-two : Stands version config.flash slots floor key two.world =
    deleted-stands version config.flash slots key (step_of (Removes client key) (act (Removes client key) one.cache)) one.world (deed-may version config delete tail one ready-one)
    (removes-delete config.flash one.world.log client key one.cache sound.opens) sound in
    let stands-three = stands-deeds version config slots floor key between (finds ∷ later) two ready-two stands-two in
    let stands-four = stands-after version config.flash slots floor key (told_by finds three.cache) three.world (deed-may version config finds later three ready-three) stands-three in
    let tracks-four = find-tracks version config floor key call three.world.log three.cache finder ready-three.agree.0 waits in
    let tracks-last = tracks-run version config floor key call slots later four ready-four stands-four tracks-four in
    let agrees : Agrees config last.world.log last.cache = ready-last version config later four ready-four in
    tracks-last.hits value (reply-among call (Hit value) (owed last.world.log) (agrees.calls.replies call ∙ taken (owed_at call last.cache.owed) last.cache (Hit value) hit))
