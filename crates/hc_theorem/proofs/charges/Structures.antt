-- Each step keeps what holds of the cache whatever the device answers.
use Rattle.std.specs.Prelude.{ℕ, Bool, List, Option, Some, None}
use Rattle.hc_engines.specs.Engine.{Order, IoResult}
use Rattle.hc_machine.specs.Cache.{Answer, Moved, Refused, Opened, Discarded, Replied, Waits, Moment, Took, Reclaimed}
use Rattle.hc_machine.specs.Evicting.{allocate}
use Rattle.hc_machine.specs.World.{order_in, result_at, io_of, done_of}
use Rattle.hc_machine.specs.Schedule.{Deed, Open, Put, PutNew, Discard, Find, Remove, Reply, Tick, WriterTake, FillerTake, Reclaim, Io, Finish, Slot, Scene, slot_at, does, fills, opens, puts, puts_new, discards}
use Rattle.hc_invariant.specs.Structure.{Structured}
use Rattle.hc_proof.proofs.structure.Calls as kept
use Rattle.hc_proof.proofs.structure.Workers as worked

filled : (number : ℕ) (answer : Answer) (scene : Scene) (moved : Moved) → Structured moved.cache → Structured (fills number answer scene moved).scene.world.cache
filled number (Refused refusal) scene moved s = s
filled number (Opened handle) scene moved s = s
filled number Discarded scene moved s = s
filled number (Replied reply) scene moved s = s
filled number (Waits call) scene moved s = s
filled number (Moment now) scene moved s = s
filled number (Took take) scene moved s = s
filled number (Reclaimed region) scene moved s = s

module _ (client : ℕ) (scene : Scene) (s : Structured scene.world.cache) where
  open_keeps : (o : Option Slot) (number pool : ℕ) (key value : List ℕ) (ttl : ℕ) → Structured (opens o number pool key value ttl scene).scene.world.cache
  open_keeps (Some slot) number pool key value ttl = s
  open_keeps None number pool key value ttl = let moved = allocate pool key value ttl scene.world.cache in filled number moved.answer scene moved (kept.allocates scene.world.cache pool key value ttl s)

  put_keeps : (o : Option Slot) → Structured (puts o client scene).scene.world.cache
  put_keeps None = s
  put_keeps (Some slot) = kept.inserts scene.world.cache client slot.handle s

  new_keeps : (o : Option Slot) → Structured (puts_new o client scene).scene.world.cache
  new_keeps None = s
  new_keeps (Some slot) = kept.adds_keep scene.world.cache client slot.handle s

  discard_keeps : (o : Option Slot) → Structured (discards o scene).scene.world.cache
  discard_keeps None = s
  discard_keeps (Some slot) = kept.discards scene.world.cache slot.handle s

  io_keeps : (job : ℕ) (fails : Bool) (o : Option Order) (x : Option IoResult) → Structured (io_of scene.world job fails o x).world.cache
  io_keeps job fails None x = s
  io_keeps job fails (Some order) (Some result) = s
  io_keeps job fails (Some order) None = s

  done_keeps : (job : ℕ) (x : Option IoResult) → Structured (done_of scene.world job x).world.cache
  done_keeps job None = s
  done_keeps job (Some result) = worked.finishes scene.world.cache job result s

  pub step_structured : (deed : Deed) → Structured (does client deed scene).scene.world.cache
  step_structured (Open slot pool key value ttl) = open_keeps (slot_at slot scene.slots) slot pool key value ttl
  step_structured (Put slot) = put_keeps (slot_at slot scene.slots)
  step_structured (PutNew slot) = new_keeps (slot_at slot scene.slots)
  step_structured (Discard slot) = discard_keeps (slot_at slot scene.slots)
  step_structured (Find key) = kept.finds scene.world.cache client key s
  step_structured (Remove key) = kept.removes scene.world.cache client key s
  step_structured (Reply call) = kept.replies scene.world.cache call s
  step_structured (Tick moment) = kept.ticks scene.world.cache moment s
  step_structured WriterTake = worked.writes scene.world.cache s
  step_structured FillerTake = worked.fills scene.world.cache s
  step_structured Reclaim = worked.reclaims scene.world.cache s
  step_structured (Io job fails) = io_keeps job fails (order_in scene.world.cache.nvm job) (result_at job scene.world.results)
  step_structured (Finish job) = done_keeps job (result_at job scene.world.results)
