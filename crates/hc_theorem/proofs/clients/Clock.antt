-- The clock stands still in each step but a tick.
use Rattle.std.proofs.Common.{◌≡◌, ℕ, Bool, List, length, Option, Some, None, refl, sym, ◌∙◌}
use Rattle.hc_types.specs.declared.refusal.Refusal.{Refusal}
use Rattle.hc_engines.specs.Engine.{Order, IoResult}
use Rattle.hc_memory.specs.Memory.{linked_at}
use Rattle.hc_machine.specs.items.Allocating.{refusal_of}
use Rattle.hc_history.specs.Note.{Note}
use Rattle.hc_history.specs.Books.{now_at}
use Rattle.hc_history.specs.Lawful.{past}
use Rattle.hc_machine.specs.Nvm.{Nvm}
use Rattle.hc_machine.specs.Takes as takes
use Rattle.hc_machine.specs.Takes.{Taken}
use Rattle.hc_machine.specs.Cache.{Cache, takes_in}
use Rattle.hc_machine.specs.Evicting.{allocate_by}
use Rattle.hc_machine.specs.Calls as calls
use Rattle.hc_machine.specs.Workers.{take_on, after_finish, finish_on, reclaim_on}
use Rattle.hc_machine.specs.World.{order_in, result_at, io_of, done_of}
use Rattle.hc_machine.specs.Schedule.{Deed, Open, Put, PutNew, Discard, Find, Remove, Reply, Tick, WriterTake, FillerTake, Reclaim, Io, Finish, Slot, Scene, slot_at, does, fills, opens, puts, puts_new, discards}
use Rattle.hc_laws.proofs.walk.Parts.{as_aside, as_served, make_charge_leaves, fill_leaves}
use Rattle.hc_laws.proofs.walk.Calls.{discard_leaves, insert_leaves, new_leaves, find_leaves, remove_leaves, reply_leaves}
use Rattle.hc_follows.specs.Follows.{Clocked}
use Rattle.hc_theorem.proofs.idle.StillParts.{calm, mute}

-- ---- clients

open_now : (o : Option Slot) (number pool : ℕ) (key value : List ℕ) (ttl : ℕ) (scene : Scene) → (opens o number pool key value ttl scene).scene.world.cache.now ≡ scene.world.cache.now
open_now (Some slot) number pool key value ttl scene = refl
open_now None number pool key value ttl scene = go (refusal_of scene.world.cache.memory pool key (length value))
  where
    go : (r : Option Refusal) → (fills number (allocate_by r pool key value ttl scene.world.cache).answer scene (allocate_by r pool key value ttl scene.world.cache)).scene.world.cache.now ≡ scene.world.cache.now
    go (Some refusal) = refl
    go None = (make_charge_leaves (as_aside (as_served calm)) pool key (length value) scene.world.cache).clock

put_now : (o : Option Slot) (client : ℕ) (scene : Scene) → (puts o client scene).scene.world.cache.now ≡ scene.world.cache.now
put_now None client scene = refl
put_now (Some slot) client scene = (insert_leaves calm client slot.handle scene.world.cache).clock

put_new_now : (o : Option Slot) (client : ℕ) (scene : Scene) → (puts_new o client scene).scene.world.cache.now ≡ scene.world.cache.now
put_new_now None client scene = refl
put_new_now (Some slot) client scene = (new_leaves calm client slot.handle scene.world.cache).clock

discard_now : (o : Option Slot) (scene : Scene) → (discards o scene).scene.world.cache.now ≡ scene.world.cache.now
discard_now None scene = refl
discard_now (Some slot) scene = (discard_leaves calm slot.handle scene.world.cache).clock

-- ---- workers, and the device

take_now : (nvm : Option Nvm) (take : Nvm → Taken) (cache : Cache) → (take_on nvm take cache).cache.now ≡ cache.now
take_now None take cache = refl
take_now (Some nvm) take cache = (fill_leaves mute (take nvm).filled (takes_in (take nvm).part (take nvm).nvm cache).cache).clock

reclaim_now : (nvm : Option Nvm) (cache : Cache) → (reclaim_on nvm cache).cache.now ≡ cache.now
reclaim_now None cache = refl
reclaim_now (Some nvm) cache = refl

finish_now : (nvm : Option Nvm) (job : ℕ) (result : IoResult) (cache : Cache) → (finish_on nvm job result cache).cache.now ≡ cache.now
finish_now None job result cache = refl
finish_now (Some nvm) job result cache = go (takes.finish job result nvm)
  where
    go : (o : Option Taken) → (after_finish o cache).cache.now ≡ cache.now
    go None = refl
    go (Some taken) = (fill_leaves mute taken.filled (takes_in taken.part taken.nvm cache).cache).clock

io_now : (scene : Scene) (job : ℕ) (fails : Bool) (o : Option Order) (r : Option IoResult) → (io_of scene.world job fails o r).world.cache.now ≡ scene.world.cache.now
io_now scene job fails None r = refl
io_now scene job fails (Some order) (Some result) = refl
io_now scene job fails (Some order) None = refl

done_now : (scene : Scene) (job : ℕ) (r : Option IoResult) → (done_of scene.world job r).world.cache.now ≡ scene.world.cache.now
done_now scene job None = refl
done_now scene job (Some result) = finish_now scene.world.cache.nvm job result scene.world.cache

-- ---- all of them

module _ (client : ℕ) (scene : Scene) (older part : List Note) (before : now_at older ≡ scene.world.cache.now) where
  still : (now : ℕ) → now ≡ scene.world.cache.now → now_at (past older part) ≡ now → now_at (past older part) ≡ now_at older
  still now e after = after ∙ e ∙ sym before

  clocked_by : (deed : Deed) → now_at (past older part) ≡ (does client deed scene).scene.world.cache.now → Clocked deed older part
  clocked_by (Open slot pool key value ttl) after = still _ (open_now (slot_at slot scene.slots) slot pool key value ttl scene) after
  clocked_by (Put slot) after = still _ (put_now (slot_at slot scene.slots) client scene) after
  clocked_by (PutNew slot) after = still _ (put_new_now (slot_at slot scene.slots) client scene) after
  clocked_by (Discard slot) after = still _ (discard_now (slot_at slot scene.slots) scene) after
  clocked_by (Find key) after = still _ (find_leaves calm client key scene.world.cache).clock after
  clocked_by (Remove key) after = still _ (remove_leaves calm (calls.remove_reply (linked_at key scene.world.cache.memory.pools)) client key scene.world.cache).clock after
  clocked_by (Reply call) after = still _ (reply_leaves calm call scene.world.cache).clock after
  clocked_by (Tick moment) after = tt
  clocked_by WriterTake after = still _ (take_now scene.world.cache.nvm takes.writer_take scene.world.cache) after
  clocked_by FillerTake after = still _ (take_now scene.world.cache.nvm takes.filler_take scene.world.cache) after
  clocked_by Reclaim after = still _ (reclaim_now scene.world.cache.nvm scene.world.cache) after
  clocked_by (Io job fails) after = still _ (io_now scene job fails (order_in scene.world.cache.nvm job) (result_at job scene.world.results)) after
  clocked_by (Finish job) after = still _ (done_now scene job (result_at job scene.world.results)) after

pub clocked : (client : ℕ) (deed : Deed) (scene : Scene) (older part : List Note) → now_at older ≡ scene.world.cache.now → now_at (past older part) ≡ (does client deed scene).scene.world.cache.now → Clocked deed older part
clocked client deed scene older part before after = clocked_by client scene older part before deed after
