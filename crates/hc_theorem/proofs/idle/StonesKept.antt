-- Each step of a schedule keeps it that a key whose tombstone is taken is being deleted.
use Rattle.std.proofs.Common.{◌≡◌, ℕ, Bool, List, Option, Some, None, refl, ap, sym, ◌∙◌, subst}
use Rattle.std.specs.Prelude.{option_map}
use Rattle.hc_engines.specs.Engine.{Order, IoResult}
use Rattle.hc_engines.specs.pair.Pair as pairs
use Rattle.hc_machine.specs.Nvm.{Nvm, Job, job_at}
use Rattle.hc_machine.specs.Takes as takes
use Rattle.hc_machine.specs.Takes.{Taken, resumed}
use Rattle.hc_machine.specs.Cache.{Cache, Moved, Answer, Refused, Opened, Discarded, Replied, Waits, Moment, Took, Reclaimed, takes_in}
use Rattle.hc_machine.specs.Evicting.{allocate}
use Rattle.hc_memory.specs.Memory.{linked_at}
use Rattle.hc_machine.specs.Calls as calls
use Rattle.hc_machine.specs.Workers.{fill, after_take, take_on, reclaim_on, after_finish, finish_on}
use Rattle.hc_machine.specs.World.{order_in, result_at, io_of, done_of}
use Rattle.hc_machine.specs.Schedule.{Open, Put, PutNew, Discard, Find, Remove, Reply, Tick, WriterTake, FillerTake, Reclaim, Io, Finish, Slot, Scene, slot_at, fills, opens, puts, puts_new, discards}
use Rattle.hc_proof.proofs.frames.JobLists.{job_number}
use Rattle.hc_theorem.specs.idle.Still.{StillOption, StillStep}
use Rattle.hc_theorem.specs.idle.Stones.{StonesRun, StonesOf, JobsOf, StepKeepsStones}
use Rattle.hc_theorem.proofs.idle.StillParts.{calm}
use Rattle.hc_laws.proofs.walk.Parts.{as_served, fill_leaves}
use Rattle.hc_laws.proofs.walk.Calls.{allocate_leaves, discard_leaves, insert_leaves, new_leaves, find_leaves, remove_leaves, reply_leaves, tick_leaves}
use Rattle.hc_theorem.proofs.idle.StonesRun.{still_stones, writer_run, filler_run, reclaim_run, went_run}

still_of : (old new : Option Nvm) → StillOption old new → StonesOf old → StonesOf new
still_of None None s r = tt
still_of None (Some new) s r = absurd s
still_of (Some old) None s r = absurd s
still_of (Some old) (Some new) s r = still_stones old new s r

called : (cache : Cache) (moved : Moved) → StillStep cache moved → StonesOf cache.nvm → StonesOf moved.cache.nvm
called cache moved s r = still_of cache.nvm moved.cache.nvm s.flash r

taken_keeps : (taken : Taken) (cache : Cache) → StonesRun taken.nvm → StonesOf (after_take taken cache).cache.nvm
taken_keeps taken cache r =
    let base = (takes_in taken.part taken.nvm cache).cache in
    still_of (Some taken.nvm) (fill taken.filled base).cache.nvm (fill_leaves (as_served calm) taken.filled base).flash r

filled : (number : ℕ) (answer : Answer) (scene : Scene) (moved : Moved) → StonesOf moved.cache.nvm → StonesOf (fills number answer scene moved).scene.world.cache.nvm
filled number (Refused refusal) scene moved r = r
filled number (Opened handle) scene moved r = r
filled number Discarded scene moved r = r
filled number (Replied reply) scene moved r = r
filled number (Waits call) scene moved r = r
filled number (Moment now) scene moved r = r
filled number (Took take) scene moved r = r
filled number (Reclaimed region) scene moved r = r

module _ (client : ℕ) (scene : Scene) (r : StonesOf scene.world.cache.nvm) where
  open_keeps : (o : Option Slot) (number pool : ℕ) (key value : List ℕ) (ttl : ℕ) → StonesOf (opens o number pool key value ttl scene).scene.world.cache.nvm
  open_keeps (Some slot) number pool key value ttl = r
  open_keeps None number pool key value ttl =
      let moved = allocate pool key value ttl scene.world.cache in
      filled number moved.answer scene moved (called scene.world.cache moved (allocate_leaves calm pool key value ttl scene.world.cache) r)

  put_keeps : (o : Option Slot) → StonesOf (puts o client scene).scene.world.cache.nvm
  put_keeps None = r
  put_keeps (Some slot) = called scene.world.cache (calls.insert_or_replace client slot.handle scene.world.cache) (insert_leaves calm client slot.handle scene.world.cache) r

  new_keeps : (o : Option Slot) → StonesOf (puts_new o client scene).scene.world.cache.nvm
  new_keeps None = r
  new_keeps (Some slot) = called scene.world.cache (calls.insert client slot.handle scene.world.cache) (new_leaves calm client slot.handle scene.world.cache) r

  discard_keeps : (o : Option Slot) → StonesOf (discards o scene).scene.world.cache.nvm
  discard_keeps None = r
  discard_keeps (Some slot) = called scene.world.cache (calls.discard slot.handle scene.world.cache) (discard_leaves calm slot.handle scene.world.cache) r

writer_keeps : (cache : Cache) (o : Option Nvm) → cache.nvm ≡ o → JobsOf o → StonesOf o → StonesOf (take_on o takes.writer_take cache).cache.nvm
writer_keeps cache None e j r = subst StonesOf (sym e) r
writer_keeps cache (Some nvm) e j r = taken_keeps (takes.writer_take nvm) cache (writer_run nvm j r)

filler_keeps : (cache : Cache) (o : Option Nvm) → cache.nvm ≡ o → StonesOf o → StonesOf (take_on o takes.filler_take cache).cache.nvm
filler_keeps cache None e r = subst StonesOf (sym e) r
filler_keeps cache (Some nvm) e r = taken_keeps (takes.filler_take nvm) cache (filler_run nvm r)

reclaim_keeps : (cache : Cache) (o : Option Nvm) → cache.nvm ≡ o → StonesOf o → StonesOf (reclaim_on o cache).cache.nvm
reclaim_keeps cache None e r = subst StonesOf (sym e) r
reclaim_keeps cache (Some nvm) e r = reclaim_run nvm r

finish_keeps : (cache : Cache) (number : ℕ) (result : IoResult) (o : Option Nvm) → cache.nvm ≡ o → JobsOf o → StonesOf o → StonesOf (finish_on o number result cache).cache.nvm
finish_keeps cache number result None e j r = subst StonesOf (sym e) r
finish_keeps cache number result (Some nvm) e j r = by_job (job_at number nvm.jobs) refl
  where
    by_moved : (job : Job) → job_at number nvm.jobs ≡ Some job → (m : Option pairs.Moved) → StonesOf (after_finish (option_map (resumed job result nvm) m) cache).cache.nvm
    by_moved job at None = subst StonesOf (sym e) r
    by_moved job at (Some moved) =
        let own : job.number ≡ number = job_number number nvm.jobs job at in
        let here : job_at job.number nvm.jobs ≡ Some job = ap (λ n. job_at n nvm.jobs) own ∙ at in
        taken_keeps (resumed job result nvm moved) cache (went_run job moved.next (record nvm { pair = moved.pair }) here (j.one job.number) r)

    by_job : (o : Option Job) → job_at number nvm.jobs ≡ o → StonesOf (after_finish (takes.finish_job o result nvm) cache).cache.nvm
    by_job None at = subst StonesOf (sym e) r
    by_job (Some job) at = by_moved job at (pairs.resume job.number result nvm.pair)

module _ (job : ℕ) (scene : Scene) (r : StonesOf scene.world.cache.nvm) where
  io_keeps : (fails : Bool) (o : Option Order) (x : Option IoResult) → StonesOf (io_of scene.world job fails o x).world.cache.nvm
  io_keeps fails None x = r
  io_keeps fails (Some order) (Some result) = r
  io_keeps fails (Some order) None = r

  done_keeps : JobsOf scene.world.cache.nvm → (x : Option IoResult) → StonesOf (done_of scene.world job x).world.cache.nvm
  done_keeps j None = r
  done_keeps j (Some result) = finish_keeps scene.world.cache job result scene.world.cache.nvm refl j r

pub step_keeps_stones : StepKeepsStones
step_keeps_stones client (Open slot pool key value ttl) scene j r = open_keeps client scene r (slot_at slot scene.slots) slot pool key value ttl
step_keeps_stones client (Put slot) scene j r = put_keeps client scene r (slot_at slot scene.slots)
step_keeps_stones client (PutNew slot) scene j r = new_keeps client scene r (slot_at slot scene.slots)
step_keeps_stones client (Discard slot) scene j r = discard_keeps client scene r (slot_at slot scene.slots)
step_keeps_stones client (Find key) scene j r = called scene.world.cache (calls.find client key scene.world.cache) (find_leaves calm client key scene.world.cache) r
step_keeps_stones client (Remove key) scene j r = called scene.world.cache (calls.remove client key scene.world.cache) (remove_leaves calm (calls.remove_reply (linked_at key scene.world.cache.memory.pools)) client key scene.world.cache) r
step_keeps_stones client (Reply call) scene j r = called scene.world.cache (calls.take_reply call scene.world.cache) (reply_leaves calm call scene.world.cache) r
step_keeps_stones client (Tick moment) scene j r = still_of scene.world.cache.nvm (calls.tick moment scene.world.cache).cache.nvm (tick_leaves calm moment scene.world.cache).flash r
step_keeps_stones client WriterTake scene j r = writer_keeps scene.world.cache scene.world.cache.nvm refl j r
step_keeps_stones client FillerTake scene j r = filler_keeps scene.world.cache scene.world.cache.nvm refl r
step_keeps_stones client Reclaim scene j r = reclaim_keeps scene.world.cache scene.world.cache.nvm refl r
step_keeps_stones client (Io job fails) scene j r = io_keeps job scene r fails (order_in scene.world.cache.nvm job) (result_at job scene.world.results)
step_keeps_stones client (Finish job) scene j r = done_keeps job scene r j (result_at job scene.world.results)
