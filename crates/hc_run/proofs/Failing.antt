-- How often the device failed, as the answers tell it.
use Rattle.std.proofs.Common.{◌≡◌, ℕ, Bool, List, [], ◌∷◌, Option, Some, None, refl, ap, ◌∙◌}
use Rattle.hc_types.specs.Config.{Config}
use Rattle.hc_engines.specs.Engine.{Order, IoResult}
use Rattle.hc_machine.specs.Cache.{Moved, Answer, Refused, Opened, Discarded, Replied, Waits, Moment, Took, Reclaimed}
use Rattle.hc_machine.specs.World.{World, order_in, result_at, io_of, done_of}
use Rattle.hc_machine.specs.Schedule.{Deed, Open, Put, PutNew, Discard, Find, Remove, Reply, Tick, WriterTake, FillerTake, Reclaim, Io, Finish, Slot, Step, Scene, Done, slot_at, fills, opens, puts, puts_new, discards, in_world, step, new_scene, run_from, run}
use Rattle.hc_run.specs.Runs.{failures_by, failures_told}

-- the step leaves so many failures as its answer tells
abbrev Told_by : ℕ → Done → Type 0
Told_by before done = done.scene.world.failures ≡ failures_by before done.told

fills_told : (number : ℕ) (answer : Answer) (scene : Scene) (moved : Moved) → Told_by scene.world.failures (fills number answer scene moved)
fills_told number (Refused refusal) scene moved = refl
fills_told number (Opened handle) scene moved = refl
fills_told number Discarded scene moved = refl
fills_told number (Replied reply) scene moved = refl
fills_told number (Waits call) scene moved = refl
fills_told number (Moment now) scene moved = refl
fills_told number (Took take) scene moved = refl
fills_told number (Reclaimed region) scene moved = refl

opens_told : (o : Option Slot) (number pool : ℕ) (key value : List ℕ) (ttl : ℕ) (scene : Scene) → Told_by scene.world.failures (opens o number pool key value ttl scene)
opens_told None number pool key value ttl scene = fills_told number _ scene _
opens_told (Some slot) number pool key value ttl scene = refl

puts_told : (o : Option Slot) (client : ℕ) (scene : Scene) → Told_by scene.world.failures (puts o client scene)
puts_told None client scene = refl
puts_told (Some slot) client scene = refl

puts_new_told : (o : Option Slot) (client : ℕ) (scene : Scene) → Told_by scene.world.failures (puts_new o client scene)
puts_new_told None client scene = refl
puts_new_told (Some slot) client scene = refl

discards_told : (o : Option Slot) (scene : Scene) → Told_by scene.world.failures (discards o scene)
discards_told None scene = refl
discards_told (Some slot) scene = refl

io_told : (w : World) (slots : List Slot) (job : ℕ) (fails : Bool) (order : Option Order) (result : Option IoResult) → Told_by w.failures (in_world slots (io_of w job fails order result))
io_told w slots job fails (Some order) None = refl
io_told w slots job fails (Some order) (Some result) = refl
io_told w slots job fails None result = refl

done_told : (w : World) (slots : List Slot) (job : ℕ) (result : Option IoResult) → Told_by w.failures (in_world slots (done_of w job result))
done_told w slots job None = refl
done_told w slots job (Some result) = refl

does_told : (client : ℕ) (deed : Deed) (scene : Scene) → Told_by scene.world.failures (step (record { client = client; deed = deed }) scene)
does_told client (Open slot pool key value ttl) scene = opens_told (slot_at slot scene.slots) slot pool key value ttl scene
does_told client (Put slot) scene = puts_told (slot_at slot scene.slots) client scene
does_told client (PutNew slot) scene = puts_new_told (slot_at slot scene.slots) client scene
does_told client (Discard slot) scene = discards_told (slot_at slot scene.slots) scene
does_told client (Find key) scene = refl
does_told client (Remove key) scene = refl
does_told client (Reply call) scene = refl
does_told client (Tick moment) scene = refl
does_told client WriterTake scene = refl
does_told client FillerTake scene = refl
does_told client Reclaim scene = refl
does_told client (Io job fails) scene = io_told scene.world scene.slots job fails (order_in scene.world.cache.nvm job) (result_at job scene.world.results)
does_told client (Finish job) scene = done_told scene.world scene.slots job (result_at job scene.world.results)

from_told : (steps : List Step) (scene : Scene) → (run_from steps scene).scene.world.failures ≡ failures_told scene.world.failures (run_from steps scene).answers
from_told [] scene = refl
from_told (s ∷ steps) scene =
    let done = step s scene in
    from_told steps done.scene ∙ ap (λ n. failures_told n (run_from steps done.scene).answers) (does_told s.client s.deed scene)

-- so many failures are told by the answers of a run
pub run-told : (config : Config) (breaks : List Bool) (steps : List Step) → (run config breaks steps).scene.world.failures ≡ failures_told 0 (run config breaks steps).answers
run-told config breaks steps = from_told steps (new_scene config breaks)
