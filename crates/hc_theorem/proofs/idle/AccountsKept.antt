-- Each step of a schedule keeps what the notes tell of regions.
use Rattle.std.proofs.Common.{◌≡◌, ℕ, Bool, List, Option, Some, None, refl, ap, sym, ◌∙◌, subst}
use Rattle.std.specs.Prelude.{option_map}
use Rattle.hc_types.specs.Config.{Config}
use Rattle.hc_types.specs.declared.config.FlashConfig.{FlashConfig}
use Rattle.hc_engines.specs.Engine.{Order, IoResult}
use Rattle.hc_engines.specs.pair.Pair as pairs
use Rattle.hc_memory.specs.Memory.{Memory}
use Rattle.hc_history.specs.Note.{Note}
use Rattle.hc_history.specs.Lawful.{past}
use Rattle.hc_history.proofs.Appended.{past-append}
use Rattle.hc_machine.specs.Nvm.{Nvm, Job, job_at}
use Rattle.hc_machine.specs.Takes as takes
use Rattle.hc_machine.specs.Takes.{Taken, resumed}
use Rattle.hc_machine.specs.Cache.{Cache, Moved, Answer, Refused, Opened, Discarded, Replied, Waits, Moment, Took, Reclaimed, takes_in}
use Rattle.hc_machine.specs.Evicting.{allocate}
use Rattle.hc_memory.specs.Memory.{linked_at}
use Rattle.hc_machine.specs.Calls as calls
use Rattle.hc_machine.specs.Workers.{fill, after_take, take_on, reclaim_on, after_finish, finish_on}
use Rattle.hc_machine.specs.World.{order_in, result_at, io_of, done_of}
use Rattle.hc_machine.specs.Schedule.{Open, Put, PutNew, Discard, Find, Remove, Reply, Tick, WriterTake, FillerTake, Reclaim, Io, Finish, Slot, Scene, Done, slot_at, fills, opens, puts, puts_new, discards}
use Rattle.hc_invariant.specs.Good.{Agrees, FlashGood, FlashPart}
use Rattle.hc_proof.proofs.frames.JobLists.{job_number}
use Rattle.hc_theorem.proofs.runs.WritesAlone.{runs_of}
use Rattle.hc_theorem.specs.idle.Still.{AllCalm, StillOption, StillStep}
use Rattle.hc_theorem.specs.idle.Accounted.{Accounted}
use Rattle.hc_theorem.specs.idle.AccountsKept.{AccountsOf, StepKeepsAccounts}
use Rattle.hc_theorem.proofs.idle.StillParts.{calm}
use Rattle.hc_laws.proofs.walk.Parts.{as_served, fill_leaves}
use Rattle.hc_laws.proofs.walk.Calls.{allocate_leaves, discard_leaves, insert_leaves, new_leaves, find_leaves, remove_leaves, reply_leaves, tick_leaves}
use Rattle.hc_theorem.proofs.idle.AccountsPass.{still_accounts}
use Rattle.hc_theorem.proofs.idle.AccountsRun.{writer_accounts, filler_accounts, reclaimed_accounts, result_accounts}

module _ (config : Config) (older : List Note) where
  -- what the step left
  abbrev KeptBy : List Note → Cache → Type 0
  KeptBy part cache = AccountsOf config.flash (past older part) cache.nvm

  still_of : (flash : Option FlashConfig) (history : List Note) (part : List Note) (old new : Option Nvm) → AllCalm part → StillOption old new → AccountsOf flash history old → AccountsOf flash (past history part) new
  still_of None history part old new c s a = tt
  still_of (Some flash) history part old None c s a = tt
  still_of (Some flash) history part None (Some new) c s a = absurd s
  still_of (Some flash) history part (Some old) (Some new) c s a = still_accounts flash history part old new c s a

  called : (cache : Cache) (moved : Moved) → StillStep cache moved → AccountsOf config.flash older cache.nvm → KeptBy moved.part moved.cache
  called cache moved s a = still_of config.flash older moved.part cache.nvm moved.cache.nvm s.none s.flash a

  -- what was taken, and the fill that ended with it
  taken_keeps : (taken : Taken) (cache : Cache) → AccountsOf config.flash (past older taken.part) (Some taken.nvm) → KeptBy (after_take taken cache).part (after_take taken cache).cache
  taken_keeps taken cache a =
      let base = (takes_in taken.part taken.nvm cache).cache in
      let f = fill taken.filled base in
      let s = fill_leaves (as_served calm) taken.filled base in
      subst (λ (history : List Note). AccountsOf config.flash history f.cache.nvm) (sym (past-append older taken.part f.part))
      (still_of config.flash (past older taken.part) f.part (Some taken.nvm) f.cache.nvm s.none s.flash a)

  -- ---- slots

  module _ (client : ℕ) (scene : Scene) (a : AccountsOf config.flash older scene.world.cache.nvm) where
    -- what the step of a schedule left
    abbrev KeptIn : Done → Type 0
    KeptIn done = KeptBy done.part done.scene.world.cache

    filled : (number : ℕ) (answer : Answer) (moved : Moved) → KeptBy moved.part moved.cache → KeptIn (fills number answer scene moved)
    filled number (Refused refusal) moved k = k
    filled number (Opened handle) moved k = k
    filled number Discarded moved k = k
    filled number (Replied reply) moved k = k
    filled number (Waits call) moved k = k
    filled number (Moment now) moved k = k
    filled number (Took take) moved k = k
    filled number (Reclaimed region) moved k = k

    open_keeps : (o : Option Slot) (number pool : ℕ) (key value : List ℕ) (ttl : ℕ) → KeptIn (opens o number pool key value ttl scene)
    open_keeps (Some slot) number pool key value ttl = a
    open_keeps None number pool key value ttl =
        let moved = allocate pool key value ttl scene.world.cache in
        filled number moved.answer moved (called scene.world.cache moved (allocate_leaves calm pool key value ttl scene.world.cache) a)

    put_keeps : (o : Option Slot) → KeptIn (puts o client scene)
    put_keeps None = a
    put_keeps (Some slot) = called scene.world.cache (calls.insert_or_replace client slot.handle scene.world.cache) (insert_leaves calm client slot.handle scene.world.cache) a

    new_keeps : (o : Option Slot) → KeptIn (puts_new o client scene)
    new_keeps None = a
    new_keeps (Some slot) = called scene.world.cache (calls.insert client slot.handle scene.world.cache) (new_leaves calm client slot.handle scene.world.cache) a

    discard_keeps : (o : Option Slot) → KeptIn (discards o scene)
    discard_keeps None = a
    discard_keeps (Some slot) = called scene.world.cache (calls.discard slot.handle scene.world.cache) (discard_leaves calm slot.handle scene.world.cache) a

  -- ---- workers

  -- with flash, what is kept is kept by the engine's step
  on_flash : (flash : Option FlashConfig) (memory : Memory) (nvm new : Nvm) (part : List Note) → ((f : FlashConfig) → FlashGood f older memory nvm → Accounted f older nvm.pair.large → Accounted f (past older part) new.pair.large)
      → FlashPart flash older memory (Some nvm) → AccountsOf flash older (Some nvm) → AccountsOf flash (past older part) (Some new)
  on_flash None memory nvm new part keeps g a = tt
  on_flash (Some flash) memory nvm new part keeps g a = keeps flash g a

  module _ (cache : Cache) (g : Agrees config older cache) (a : AccountsOf config.flash older cache.nvm) where
    part_at : (nvm : Nvm) → cache.nvm ≡ Some nvm → FlashPart config.flash older cache.memory (Some nvm)
    part_at nvm e = subst (FlashPart config.flash older cache.memory) e g.flash

    accounts_at : (nvm : Nvm) → cache.nvm ≡ Some nvm → AccountsOf config.flash older (Some nvm)
    accounts_at nvm e = subst (AccountsOf config.flash older) e a

    taken_on : (nvm : Nvm) (taken : Taken) → cache.nvm ≡ Some nvm → ((f : FlashConfig) → FlashGood f older cache.memory nvm → Accounted f older nvm.pair.large → Accounted f (past older taken.part) taken.nvm.pair.large)
        → KeptBy (after_take taken cache).part (after_take taken cache).cache
    taken_on nvm taken e keeps = taken_keeps taken cache (on_flash config.flash cache.memory nvm taken.nvm taken.part keeps (part_at nvm e) (accounts_at nvm e))

    writer_keeps : (o : Option Nvm) → cache.nvm ≡ o → KeptBy (take_on o takes.writer_take cache).part (take_on o takes.writer_take cache).cache
    writer_keeps None e = a
    writer_keeps (Some nvm) e = taken_on nvm (takes.writer_take nvm) e (λ flash f k. writer_accounts flash older nvm f.engines.same f.engines.large_sound k)

    filler_keeps : (o : Option Nvm) → cache.nvm ≡ o → KeptBy (take_on o takes.filler_take cache).part (take_on o takes.filler_take cache).cache
    filler_keeps None e = a
    filler_keeps (Some nvm) e = taken_on nvm (takes.filler_take nvm) e (λ flash f k. filler_accounts flash older nvm f.engines.same f.engines.large_sound k)

    reclaim_keeps : (o : Option Nvm) → cache.nvm ≡ o → KeptBy (reclaim_on o cache).part (reclaim_on o cache).cache
    reclaim_keeps None e = a
    reclaim_keeps (Some nvm) e =
        let change = (takes.reclaim nvm).change in
        on_flash config.flash cache.memory nvm change.nvm change.part (λ flash f k. reclaimed_accounts flash older nvm f.engines.same f.engines.large_sound k) (part_at nvm e) (accounts_at nvm e)

    finish_keeps : (number : ℕ) (result : IoResult) (o : Option Nvm) → cache.nvm ≡ o → KeptBy (finish_on o number result cache).part (finish_on o number result cache).cache
    finish_keeps number result None e = a
    finish_keeps number result (Some nvm) e = by_job (job_at number nvm.jobs) refl
      where
        by_moved : (job : Job) → job_at number nvm.jobs ≡ Some job → (m : Option pairs.Moved) → pairs.resume job.number result nvm.pair ≡ m → KeptBy (after_finish (option_map (resumed job result nvm) m) cache).part (after_finish (option_map (resumed job result nvm) m) cache).cache
        by_moved job at None r = a
        by_moved job at (Some moved) r = taken_on nvm (resumed job result nvm moved) e (λ flash f k. result_accounts flash older nvm f.engines k job.number result job moved (runs_of nvm job.number job.order f.jobs ordered) r)
          where
            ordered : order_in (Some nvm) job.number ≡ Some job.order
            ordered = rw (ap (λ n. job_at n nvm.jobs) (job_number number nvm.jobs job at) ∙ at) refl

        by_job : (o : Option Job) → job_at number nvm.jobs ≡ o → KeptBy (after_finish (takes.finish_job o result nvm) cache).part (after_finish (takes.finish_job o result nvm) cache).cache
        by_job None at = a
        by_job (Some job) at = by_moved job at (pairs.resume job.number result nvm.pair) refl

  module _ (job : ℕ) (scene : Scene) (a : AccountsOf config.flash older scene.world.cache.nvm) where
    io_keeps : (fails : Bool) (o : Option Order) (x : Option IoResult) → KeptBy (io_of scene.world job fails o x).part (io_of scene.world job fails o x).world.cache
    io_keeps fails None x = a
    io_keeps fails (Some order) (Some result) = a
    io_keeps fails (Some order) None = a

    done_keeps : Agrees config older scene.world.cache → (x : Option IoResult) → KeptBy (done_of scene.world job x).part (done_of scene.world job x).world.cache
    done_keeps g None = a
    done_keeps g (Some result) = finish_keeps scene.world.cache g a job result scene.world.cache.nvm refl

pub step_keeps_accounts : StepKeepsAccounts
step_keeps_accounts client (Open slot pool key value ttl) config older scene g a = open_keeps config older client scene a (slot_at slot scene.slots) slot pool key value ttl
step_keeps_accounts client (Put slot) config older scene g a = put_keeps config older client scene a (slot_at slot scene.slots)
step_keeps_accounts client (PutNew slot) config older scene g a = new_keeps config older client scene a (slot_at slot scene.slots)
step_keeps_accounts client (Discard slot) config older scene g a = discard_keeps config older client scene a (slot_at slot scene.slots)
step_keeps_accounts client (Find key) config older scene g a = called config older scene.world.cache (calls.find client key scene.world.cache) (find_leaves calm client key scene.world.cache) a
step_keeps_accounts client (Remove key) config older scene g a = called config older scene.world.cache (calls.remove client key scene.world.cache) (remove_leaves calm (calls.remove_reply (linked_at key scene.world.cache.memory.pools)) client key scene.world.cache) a
step_keeps_accounts client (Reply call) config older scene g a = called config older scene.world.cache (calls.take_reply call scene.world.cache) (reply_leaves calm call scene.world.cache) a
step_keeps_accounts client (Tick moment) config older scene g a = let t = tick_leaves calm moment scene.world.cache in still_of config older config.flash older (calls.tick moment scene.world.cache).part scene.world.cache.nvm (calls.tick moment scene.world.cache).cache.nvm t.none t.flash a
step_keeps_accounts client WriterTake config older scene g a = writer_keeps config older scene.world.cache g a scene.world.cache.nvm refl
step_keeps_accounts client FillerTake config older scene g a = filler_keeps config older scene.world.cache g a scene.world.cache.nvm refl
step_keeps_accounts client Reclaim config older scene g a = reclaim_keeps config older scene.world.cache g a scene.world.cache.nvm refl
step_keeps_accounts client (Io job fails) config older scene g a = io_keeps config older job scene a fails (order_in scene.world.cache.nvm job) (result_at job scene.world.results)
step_keeps_accounts client (Finish job) config older scene g a = done_keeps config older job scene a g (result_at job scene.world.results)
