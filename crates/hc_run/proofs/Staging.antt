-- What each step does to a stage, from whatever scene it shows.
use Rattle.std.proofs.Common.{◌≡◌, ◌⊎◌, ⊎_elim, inl, inr, ℕ, ◌+◌, ◌-◌, ◌==◌, Bool, true, false, List, [], ◌∷◌, Option, Some, None, refl, ap, sym, subst, ◌∙◌, arith}
use Rattle.std.specs.Prelude.{if◌then◌else◌, not, is_some}
use Rattle.hc_types.specs.declared.refusal.Refusal.{Refusal}
use Rattle.hc_types.specs.declared.refusal.Refusal.TheVariants.{UnknownJob}
use Rattle.hc_engines.specs.Engine.{Pages, Order, Read, Write, IoResult, pages_after}
use Rattle.hc_memory.specs.Item.{Handle}
use Rattle.hc_history.specs.Note.{Note}
use Rattle.hc_history.specs.Told.{told_more}
use Rattle.hc_history.proofs.Telling.{told-nothing}
use Rattle.hc_machine.specs.Cache.{Cache, Moved, Answer, Refused, Opened}
use Rattle.hc_machine.specs.Evicting.{allocate}
use Rattle.hc_machine.specs.Calls as calls
use Rattle.hc_machine.specs.Workers as workers
use Rattle.hc_machine.specs.World.{Result, Says, Made, by_call, done_of, order_in, result_at, without_result}
use Rattle.hc_machine.specs.Schedule.{Deed, Open, Put, PutNew, Discard, Reply, Io, Finish, Step, Slot, Scene, Told, Tells, NoSlot, Filled, Done, slot_at, without_slot, with_slot, left_after, in_world, fills, opens, puts, puts_new, discards, step}
use Rattle.hc_invariant.specs.Good.{IsSized}
use Rattle.hc_theorem.specs.runs.Schedule.{DeedSized}
use Rattle.hc_run.specs.Steps.{Goes, IsCalm, failed_more, operates}
use Rattle.hc_run.specs.Shows.{Stage, IsWithin, Shows, IsReadable, Leads, Moves, Waits}
use Rattle.hc_run.specs.Devices.{CanRead, Comes, IsSame}
use Rattle.hc_run.proofs.Stepping.{goes_calmly, goes_by_io, goes_idly}
use Rattle.hc_run.proofs.Refusing.{allocate_stays, reply_stays, insert_stays, finish_stays}

abbrev pub slot_of : ℕ → Handle → Slot
slot_of number handle = record { number = number; handle = handle }

abbrev pub by_client : ℕ → Deed → Step
by_client client deed = record { client = client; deed = deed }

-- ---- results

pub result-gone : (job every : ℕ) (results : List Result) → result_at every (without_result job results) ≡ (if job == every then None else result_at every results)
result-gone job every [] = go (job == every)
  where
    go : (t : Bool) → ◌≡◌ {A = Option IoResult} None (if t then None else None)
    go true = refl
    go false = refl
result-gone job every (r ∷ results) = go (r.job == job) (job == every) (r.job == every) refl refl refl (result-gone job every results)
  where
    go : (own asked here : Bool) → (r.job == job) ≡ own → (job == every) ≡ asked → (r.job == every) ≡ here → result_at every (without_result job results) ≡ (if asked then None else result_at every results)
        → result_at every (if not own then r ∷ without_result job results else without_result job results) ≡ (if asked then None else (if here then Some r.result else result_at every results))
    go true true here a b c rest = rest
    go true false true a b c rest = absurd (let no : (job == every) ≡ true = grind (arith, a, c) in cc)
    go true false false a b c rest = rest
    go false true true a b c rest = absurd (let no : (r.job == job) ≡ true = grind (arith, b, c) in cc)
    go false true false a b c rest = ap (λ (t : Bool). if t then Some r.result else result_at every (without_result job results)) c ∙ rest
    go false false here a b c rest = (λ i. if c i then Some r.result else rest i)

-- ---- stages

module _ (held : Pages) where
  abbrev Here : Stage → Step → Told → Stage → Type 0
  Here old s told new = Moves held old s told held new

  -- a call of the cache: what it leaves, is answered, and tells
  pub record Called (moved : Moved) (answer : Answer) (old new : Stage) : Type 0 where
    pub cache : new.cache ≡ moved.cache
    pub answer_is : answer ≡ moved.answer
    pub log : new.log ≡ told_more old.log moved.part
    pub failures : new.failures ≡ old.failures

  -- a scene like another, with the same device
  reshow : (old new : Stage) (scene next : Scene) → Shows held old scene → new.failures ≡ old.failures → next.world.pages ≡ scene.world.pages → next.world.failures ≡ scene.world.failures
      → next.world.cache ≡ new.cache → ((job : ℕ) → result_at job next.world.results ≡ result_at job new.results) → next.slots ≡ new.slots → Shows held new next
  reshow old new scene next sh counted pages failures cache results slots = record {
    cache = cache;
    results = results;
    slots = slots;
    failures = failures ∙ sh.failures ∙ sym counted;
    pages = λ page bytes is. sh.pages page bytes (sym (ap (λ (all : Pages). all page) pages) ∙ is);
  }

  -- what a step with no device operation comes to
  record Ends (scene : Scene) (s : Step) (told : Told) (part : List Note) (new : Stage) : Type 0 where
    done : Done
    is : step s scene ≡ done
    told_is : done.told ≡ told
    part_is : done.part ≡ part
    shows : Shows held new done.scene

  leads_by : (scene : Scene) (s : Step) (told : Told) (part : List Note) (new : Stage) → IsCalm s.deed → Ends scene s told part new → Leads scene s told part held new
  leads_by scene s told part new calm e =
      let first = subst (λ (d : Done). Goes scene s d.told d.part d.scene) e.is (goes_calmly s scene calm) in
      record {
        new = e.done.scene;
        goes = subst (λ (t : Told). Goes scene s t part e.done.scene) e.told_is (subst (λ (notes : List Note). Goes scene s e.done.told notes e.done.scene) e.part_is first);
        shows = e.shows;
      }

  calmly : (old new : Stage) (s : Step) (told : Told) (part : List Note) → IsCalm s.deed → DeedSized s.deed → new.log ≡ told_more old.log part → ((scene : Scene) → Shows held old scene → Ends scene s told part new) → Here old s told new
  calmly old new s told part calm sized log ends = record { part = part; log = log; sized = sized; leads = λ scene sh reads. leads_by scene s told part new calm (ends scene sh) }

  -- told the same
  pub retold : (old new : Stage) (s : Step) (told same : Told) → told ≡ same → Here old s same new → Here old s told new
  retold old new s told same is moves = subst (λ (t : Told). Here old s t new) (sym is) moves

  -- ---- nothing happens

  pub unmoved : (old : Stage) (s : Step) (told : Told) → IsCalm s.deed → DeedSized s.deed → ((scene : Scene) → Shows held old scene → step s scene ≡ record { scene = scene; told = told; part = [] }) → Here old s told old
  unmoved old s told calm sized is = calmly old old s told [] calm sized (sym (told-nothing old.log)) (λ scene sh. record { done = record { scene = scene; told = told; part = [] }; is = is scene sh; told_is = refl; part_is = refl; shows = sh })

  -- ---- calls that leave the slots and the results

  pub simply : (f : Cache → Moved) (old new : Stage) (s : Step) (answer : Answer) → ((scene : Scene) → step s scene ≡ in_world scene.slots (by_call scene.world (f scene.world.cache))) → IsCalm s.deed → DeedSized s.deed
      → Called (f old.cache) answer old new → new.results ≡ old.results → new.slots ≡ old.slots → Here old s (Tells (Says answer)) new
  simply f old new s answer is calm sized c results slots = calmly old new s (Tells (Says answer)) (f old.cache).part calm sized c.log (λ scene sh. record {
    done = in_world scene.slots (by_call scene.world (f scene.world.cache));
    is = is scene;
    told_is = ap (λ (k : Cache). Tells (Says (f k).answer)) sh.cache ∙ ap (λ (a : Answer). Tells (Says a)) (sym c.answer_is);
    part_is = ap (λ (k : Cache). (f k).part) sh.cache;
    shows = reshow old new scene _ sh c.failures refl refl (ap (λ (k : Cache). (f k).cache) sh.cache ∙ sym c.cache) (λ job. sh.results job ∙ ap (result_at job) (sym results)) (sh.slots ∙ sym slots);
  })

  -- ---- slots

  pub no-slot-to-fill : (old : Stage) (client slot pool : ℕ) (key value : List ℕ) (ttl : ℕ) (handle : Handle) → slot_at slot old.slots ≡ Some (slot_of slot handle) → IsSized key [] 0 → Here old (by_client client (Open slot pool key value ttl)) NoSlot old
  no-slot-to-fill old client slot pool key value ttl handle at sized = unmoved old _ NoSlot tt sized (λ scene sh. ap (λ (o : Option Slot). opens o slot pool key value ttl scene) (ap (slot_at slot) sh.slots ∙ at))

  pub opened : (old new : Stage) (client slot pool : ℕ) (key value : List ℕ) (ttl : ℕ) (handle : Handle) → slot_at slot old.slots ≡ None → IsSized key [] 0 → Called (allocate pool key value ttl old.cache) (Opened handle) old new
      → new.results ≡ old.results → new.slots ≡ with_slot (slot_of slot handle) old.slots → Here old (by_client client (Open slot pool key value ttl)) Filled new
  opened old new client slot pool key value ttl handle at sized c results slots = calmly old new (by_client client (Open slot pool key value ttl)) Filled (allocate pool key value ttl old.cache).part tt sized c.log (λ scene sh.
      let moved = allocate pool key value ttl scene.world.cache in
      let same : moved ≡ allocate pool key value ttl old.cache = ap (allocate pool key value ttl) sh.cache in
      record {
        done = fills slot (Opened handle) scene moved;
        is = ap (λ (o : Option Slot). opens o slot pool key value ttl scene) (ap (slot_at slot) sh.slots ∙ at) ∙ ap (λ (a : Answer). fills slot a scene moved) (ap (λ (m : Moved). m.answer) same ∙ sym c.answer_is);
        told_is = refl;
        part_is = ap (λ (m : Moved). m.part) same;
        shows = reshow old new scene _ sh c.failures refl refl (ap (λ (m : Moved). m.cache) same ∙ sym c.cache) (λ job. sh.results job ∙ ap (result_at job) (sym results)) (ap (with_slot (slot_of slot handle)) sh.slots ∙ sym slots);
      })

  pub open-refused : (old : Stage) (client slot pool : ℕ) (key value : List ℕ) (ttl : ℕ) (refusal : Refusal) → slot_at slot old.slots ≡ None → IsSized key [] 0 → (allocate pool key value ttl old.cache).answer ≡ Refused refusal
      → Here old (by_client client (Open slot pool key value ttl)) (Tells (Says (Refused refusal))) old
  open-refused old client slot pool key value ttl refusal at sized why = unmoved old _ _ tt sized (λ scene sh.
      let moved = allocate pool key value ttl scene.world.cache in
      let same : moved ≡ allocate pool key value ttl old.cache = ap (allocate pool key value ttl) sh.cache in
      ap (λ (o : Option Slot). opens o slot pool key value ttl scene) (ap (slot_at slot) sh.slots ∙ at)
      ∙ ap (λ (m : Moved). fills slot m.answer scene m) (allocate_stays pool key value ttl scene.world.cache refusal (ap (λ (m : Moved). m.answer) same ∙ why)))

  pub no-slot-to-put : (old : Stage) (client slot : ℕ) → slot_at slot old.slots ≡ None → Here old (by_client client (Put slot)) NoSlot old
  no-slot-to-put old client slot at = unmoved old _ NoSlot tt tt (λ scene sh. ap (λ (o : Option Slot). puts o client scene) (ap (slot_at slot) sh.slots ∙ at))

  pub no-slot-to-put-new : (old : Stage) (client slot : ℕ) → slot_at slot old.slots ≡ None → Here old (by_client client (PutNew slot)) NoSlot old
  no-slot-to-put-new old client slot at = unmoved old _ NoSlot tt tt (λ scene sh. ap (λ (o : Option Slot). puts_new o client scene) (ap (slot_at slot) sh.slots ∙ at))

  pub no-slot-to-discard : (old : Stage) (client slot : ℕ) → slot_at slot old.slots ≡ None → Here old (by_client client (Discard slot)) NoSlot old
  no-slot-to-discard old client slot at = unmoved old _ NoSlot tt tt (λ scene sh. ap (λ (o : Option Slot). discards o scene) (ap (slot_at slot) sh.slots ∙ at))

  -- a call that empties the slot
  spent : (f : Cache → Moved) (old new : Stage) (s : Step) (slot : ℕ) (answer : Answer) → IsCalm s.deed → DeedSized s.deed → ((scene : Scene) → Shows held old scene → step s scene ≡ in_world (without_slot slot scene.slots) (by_call scene.world (f scene.world.cache)))
      → Called (f old.cache) answer old new → new.results ≡ old.results → new.slots ≡ without_slot slot old.slots → Here old s (Tells (Says answer)) new
  spent f old new s slot answer calm sized is c results slots = calmly old new s (Tells (Says answer)) (f old.cache).part calm sized c.log (λ scene sh. record {
    done = in_world (without_slot slot scene.slots) (by_call scene.world (f scene.world.cache));
    is = is scene sh;
    told_is = ap (λ (k : Cache). Tells (Says (f k).answer)) sh.cache ∙ ap (λ (a : Answer). Tells (Says a)) (sym c.answer_is);
    part_is = ap (λ (k : Cache). (f k).part) sh.cache;
    shows = reshow old new scene _ sh c.failures refl refl (ap (λ (k : Cache). (f k).cache) sh.cache ∙ sym c.cache) (λ job. sh.results job ∙ ap (result_at job) (sym results)) (ap (without_slot slot) sh.slots ∙ sym slots);
  })

  pub put-stored : (old new : Stage) (client slot : ℕ) (handle : Handle) (answer : Answer) → slot_at slot old.slots ≡ Some (slot_of slot handle) → Called (calls.insert_or_replace client handle old.cache) answer old new
      → new.results ≡ old.results → new.slots ≡ without_slot slot old.slots → Here old (by_client client (Put slot)) (Tells (Says answer)) new
  put-stored old new client slot handle answer at c results slots =
      spent (calls.insert_or_replace client handle) old new (by_client client (Put slot)) slot answer tt tt (λ scene sh. ap (λ (o : Option Slot). puts o client scene) (ap (slot_at slot) sh.slots ∙ at)) c results slots

  pub put-new-stored : (old new : Stage) (client slot : ℕ) (handle : Handle) (answer : Answer) → slot_at slot old.slots ≡ Some (slot_of slot handle) → ((slots : List Slot) → left_after answer slot slots ≡ without_slot slot slots)
      → Called (calls.insert client handle old.cache) answer old new → new.results ≡ old.results → new.slots ≡ without_slot slot old.slots → Here old (by_client client (PutNew slot)) (Tells (Says answer)) new
  put-new-stored old new client slot handle answer at left c results slots =
      spent (calls.insert client handle) old new (by_client client (PutNew slot)) slot answer tt tt (λ scene sh.
      let moved = calls.insert client handle scene.world.cache in
      ap (λ (o : Option Slot). puts_new o client scene) (ap (slot_at slot) sh.slots ∙ at)
      ∙ ap (λ (slots : List Slot). in_world slots (by_call scene.world moved)) (ap (λ (a : Answer). left_after a slot scene.slots) (ap (λ (k : Cache). (calls.insert client handle k).answer) sh.cache ∙ sym c.answer_is) ∙ left scene.slots)) c results slots

  pub put-new-refused : (old : Stage) (client slot : ℕ) (handle : Handle) (refusal : Refusal) → slot_at slot old.slots ≡ Some (slot_of slot handle) → (calls.insert client handle old.cache).answer ≡ Refused refusal
      → Here old (by_client client (PutNew slot)) (Tells (Says (Refused refusal))) old
  put-new-refused old client slot handle refusal at why = unmoved old _ _ tt tt (λ scene sh.
      ap (λ (o : Option Slot). puts_new o client scene) (ap (slot_at slot) sh.slots ∙ at)
      ∙ ap (λ (m : Moved). in_world (left_after m.answer slot scene.slots) (by_call scene.world m)) (insert_stays client handle scene.world.cache refusal (ap (λ (k : Cache). (calls.insert client handle k).answer) sh.cache ∙ why)))

  pub discarded : (old new : Stage) (client slot : ℕ) (handle : Handle) (answer : Answer) → slot_at slot old.slots ≡ Some (slot_of slot handle) → Called (calls.discard handle old.cache) answer old new
      → new.results ≡ old.results → new.slots ≡ without_slot slot old.slots → Here old (by_client client (Discard slot)) (Tells (Says answer)) new
  discarded old new client slot handle answer at c results slots =
      spent (calls.discard handle) old new (by_client client (Discard slot)) slot answer tt tt (λ scene sh. ap (λ (o : Option Slot). discards o scene) (ap (slot_at slot) sh.slots ∙ at)) c results slots

  -- ---- replies

  pub reply-refused : (old : Stage) (client call : ℕ) (refusal : Refusal) → (calls.take_reply call old.cache).answer ≡ Refused refusal → Here old (by_client client (Reply call)) (Tells (Says (Refused refusal))) old
  reply-refused old client call refusal why = unmoved old _ _ tt tt (λ scene sh.
      ap (λ (m : Moved). in_world scene.slots (by_call scene.world m)) (reply_stays call scene.world.cache refusal (ap (λ (k : Cache). (calls.take_reply call k).answer) sh.cache ∙ why)))

  -- ---- results are handed in

  pub no-result : (old : Stage) (client job : ℕ) → result_at job old.results ≡ None → Here old (by_client client (Finish job)) (Tells (Says (Refused UnknownJob))) old
  no-result old client job none = unmoved old _ _ tt tt (λ scene sh. ap (λ (o : Option IoResult). in_world scene.slots (done_of scene.world job o)) (sh.results job ∙ none))

  pub finished : (old new : Stage) (client job : ℕ) (result : IoResult) (answer : Answer) → result_at job old.results ≡ Some result → Called (workers.finish job result old.cache) answer old new
      → ((every : ℕ) → result_at every new.results ≡ (if job == every then None else result_at every old.results)) → new.slots ≡ old.slots → Here old (by_client client (Finish job)) (Tells (Says answer)) new
  finished old new client job result answer at c left slots = calmly old new (by_client client (Finish job)) (Tells (Says answer)) (workers.finish job result old.cache).part tt tt c.log (λ scene sh.
      let f = workers.finish job result in
      record {
        done = in_world scene.slots (done_of scene.world job (Some result));
        is = ap (λ (o : Option IoResult). in_world scene.slots (done_of scene.world job o)) (sh.results job ∙ at);
        told_is = ap (λ (k : Cache). Tells (Says (f k).answer)) sh.cache ∙ ap (λ (a : Answer). Tells (Says a)) (sym c.answer_is);
        part_is = ap (λ (k : Cache). (f k).part) sh.cache;
        shows = reshow old new scene _ sh c.failures refl refl (ap (λ (k : Cache). (f k).cache) sh.cache ∙ sym c.cache)
            (λ every. result-gone job every scene.world.results ∙ ap (λ (o : Option IoResult). if job == every then None else o) (sh.results every) ∙ sym (left every)) (sh.slots ∙ sym slots);
      })

  pub finish-refused : (old new : Stage) (client job : ℕ) (result : IoResult) (refusal : Refusal) → result_at job old.results ≡ Some result → (workers.finish job result old.cache).answer ≡ Refused refusal → new.cache ≡ old.cache → new.log ≡ old.log
      → new.failures ≡ old.failures → ((every : ℕ) → result_at every new.results ≡ (if job == every then None else result_at every old.results)) → new.slots ≡ old.slots
      → Here old (by_client client (Finish job)) (Tells (Says (Refused refusal))) new
  finish-refused old new client job result refusal at why cache log counted left slots =
      let is = finish_stays job result old.cache refusal why in
      finished old new client job result (Refused refusal) at (record {
        cache = cache ∙ sym (ap (λ (m : Moved). m.cache) is);
        answer_is = sym why;
        log = log ∙ sym (told-nothing old.log) ∙ ap (λ (m : Moved). told_more old.log m.part) (sym is);
        failures = counted;
      }) left slots

  -- ---- device operations

  pub no-operation : (old : Stage) (client job : ℕ) (fails : Bool) → (order_in old.cache.nvm job ≡ None) ⊎ (is_some (result_at job old.results) ≡ true) → Here old (by_client client (Io job fails)) (Tells (Says (Refused UnknownJob))) old
  no-operation old client job fails why = record {
    part = [];
    log = sym (told-nothing old.log);
    sized = tt;
    leads = λ scene sh reads. record {
      new = scene;
      goes = goes_idly scene client job fails (⊎_elim (λ none. inl (ap (λ (k : Cache). order_in k.nvm job) sh.cache ∙ none)) (λ waits. inr (ap is_some (sh.results job) ∙ waits)) why);
      shows = sh;
    };
  }

  readable : (scene : Scene) (job : ℕ) (order : Order) → IsReadable scene → order_in scene.world.cache.nvm job ≡ Some order → CanRead order scene.world.pages
  readable scene job (Read page) reads at = reads job page at
  readable scene job (Write page bytes) reads at = tt

module _ (before after : Pages) where
  -- told the same
  pub told-so : (old new : Stage) (s : Step) (told same : Told) → told ≡ same → Moves before old s same after new → Moves before old s told after new
  told-so old new s told same is moves = subst (λ (t : Told). Moves before old s t after new) (sym is) moves

  pub operated-so : (old new : Stage) (client job : ℕ) (fails breaks : Bool) (order : Order) (result : IoResult) → order_in old.cache.nvm job ≡ Some order → result_at job old.results ≡ None → Comes order fails breaks before result after
      → new.cache ≡ old.cache → new.log ≡ old.log → new.slots ≡ old.slots → ((every : ℕ) → result_at every new.results ≡ (if job == every then Some result else result_at every old.results))
      → new.failures ≡ failed_more fails breaks old.failures → Moves before old (by_client client (Io job fails)) (Tells (Made result new.failures)) after new
  operated-so old new client job fails breaks order result at none c cache log slots results counted = record {
    part = [];
    log = log ∙ sym (told-nothing old.log);
    sized = tt;
    leads = λ scene sh reads.
        let here : order_in scene.world.cache.nvm job ≡ Some order = ap (λ (k : Cache). order_in k.nvm job) sh.cache ∙ at in
        let can = readable before scene job order reads here in
        let came = c.comes scene.world.pages sh.pages can in
        let done = operates scene job order fails breaks in
        let number : failed_more fails breaks scene.world.failures ≡ new.failures = ap (failed_more fails breaks) sh.failures ∙ sym counted in
        record {
          new = done.scene;
          goes = subst (λ (t : Told). Goes scene (by_client client (Io job fails)) t [] done.scene) (λ i. Tells (Made (sym came i) (number i))) (goes_by_io scene client job fails breaks order here (sh.results job ∙ none));
          shows = record {
            cache = sh.cache ∙ sym cache;
            results = λ every. (λ i. if job == every then Some (sym came i) else sh.results every i) ∙ sym (results every);
            slots = sh.slots ∙ sym slots;
            failures = number;
            pages = subst (λ (r : IoResult). IsWithin (pages_after order r scene.world.pages) after) came (c.within scene.world.pages sh.pages can);
          };
        };
  }

  -- the device has no memory for it, and nothing is known to have changed; or another than the stage has used it, and left it
  -- what is known
  pub waits-so : (old new : Stage) → new.cache ≡ old.cache → new.log ≡ old.log → new.failures ≡ old.failures → ((job : ℕ) → result_at job new.results ≡ result_at job old.results) → new.slots ≡ old.slots → IsSame before after → Waits before old after new
  waits-so old new cache log counted results slots same = record {
    log = log;
    shows = λ scene sh. record {
      cache = sh.cache ∙ sym cache;
      results = λ job. sh.results job ∙ sym (results job);
      slots = sh.slots ∙ sym slots;
      failures = sh.failures ∙ sym counted;
      pages = λ page bytes is. same page ∙ sh.pages page bytes is;
    };
  }
