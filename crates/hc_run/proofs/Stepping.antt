-- Steps from a scene, whatever its device fails by itself later.
use Rattle.std.proofs.Common.{◌≡◌, ◌⊎◌, ⊎_elim, ℕ, Bool, true, false, List, [], ◌∷◌, ◌++◌, Option, Some, None, is_some, refl, ◌∙◌}
use Rattle.hc_types.specs.declared.refusal.Refusal.TheVariants.{UnknownJob}
use Rattle.hc_engines.specs.Engine.{Order, IoResult}
use Rattle.hc_machine.specs.Cache.{Answer, Moved, Refused, Opened, Discarded, Replied, Waits, Moment, Took, Reclaimed}
use Rattle.hc_machine.specs.Evicting.{allocate}
use Rattle.hc_machine.specs.World.{Says, io_of, done_of, order_in, result_at}
use Rattle.hc_machine.specs.Schedule.{Deed, Open, Put, PutNew, Discard, Find, Remove, Reply, Tick, WriterTake, FillerTake, Reclaim, Io, Finish, Step, Slot, Scene, Tells, Done, slot_at, in_world, fills, opens, puts, puts_new, discards, does, step}
use Rattle.hc_run.specs.Steps.{breaking, breaking_then, Goes, IsCalm, operates}

filled_calmly : (answer : Answer) (number : ℕ) (scene : Scene) (moved : Moved) (later : List Bool) → fills number answer (breaking later scene) moved ≡ breaking_then later (fills number answer scene moved)
filled_calmly (Opened handle) number scene moved later = refl
filled_calmly (Refused refusal) number scene moved later = refl
filled_calmly Discarded number scene moved later = refl
filled_calmly (Replied reply) number scene moved later = refl
filled_calmly (Waits call) number scene moved later = refl
filled_calmly (Moment now) number scene moved later = refl
filled_calmly (Took take) number scene moved later = refl
filled_calmly (Reclaimed region) number scene moved later = refl

opened_calmly : (o : Option Slot) (number pool : ℕ) (key value : List ℕ) (ttl : ℕ) (scene : Scene) (later : List Bool) → opens o number pool key value ttl (breaking later scene) ≡ breaking_then later (opens o number pool key value ttl scene)
opened_calmly None number pool key value ttl scene later = let moved = allocate pool key value ttl scene.world.cache in filled_calmly moved.answer number scene moved later
opened_calmly (Some slot) number pool key value ttl scene later = refl

put_calmly : (o : Option Slot) (client : ℕ) (scene : Scene) (later : List Bool) → puts o client (breaking later scene) ≡ breaking_then later (puts o client scene)
put_calmly None client scene later = refl
put_calmly (Some slot) client scene later = refl

put_new_calmly : (o : Option Slot) (client : ℕ) (scene : Scene) (later : List Bool) → puts_new o client (breaking later scene) ≡ breaking_then later (puts_new o client scene)
put_new_calmly None client scene later = refl
put_new_calmly (Some slot) client scene later = refl

discarded_calmly : (o : Option Slot) (scene : Scene) (later : List Bool) → discards o (breaking later scene) ≡ breaking_then later (discards o scene)
discarded_calmly None scene later = refl
discarded_calmly (Some slot) scene later = refl

done_calmly : (o : Option IoResult) (job : ℕ) (scene : Scene) (later : List Bool) → in_world scene.slots (done_of (breaking later scene).world job o) ≡ breaking_then later (in_world scene.slots (done_of scene.world job o))
done_calmly None job scene later = refl
done_calmly (Some result) job scene later = refl

does_calmly : (client : ℕ) (deed : Deed) (scene : Scene) (later : List Bool) → IsCalm deed → does client deed (breaking later scene) ≡ breaking_then later (does client deed scene)
does_calmly client (Open slot pool key value ttl) scene later calm = opened_calmly (slot_at slot scene.slots) slot pool key value ttl scene later
does_calmly client (Put slot) scene later calm = put_calmly (slot_at slot scene.slots) client scene later
does_calmly client (PutNew slot) scene later calm = put_new_calmly (slot_at slot scene.slots) client scene later
does_calmly client (Discard slot) scene later calm = discarded_calmly (slot_at slot scene.slots) scene later
does_calmly client (Find key) scene later calm = refl
does_calmly client (Remove key) scene later calm = refl
does_calmly client (Reply call) scene later calm = refl
does_calmly client (Tick moment) scene later calm = refl
does_calmly client WriterTake scene later calm = refl
does_calmly client FillerTake scene later calm = refl
does_calmly client Reclaim scene later calm = refl
does_calmly client (Finish job) scene later calm = done_calmly (result_at job scene.world.results) job scene later
does_calmly client (Io job fails) scene later calm = absurd calm

-- a step that makes no device operation
pub goes_calmly : (s : Step) (scene : Scene) → IsCalm s.deed → Goes scene s (step s scene).told (step s scene).part (step s scene).scene
goes_calmly s scene calm = record { broke = []; goes = λ later. does_calmly s.client s.deed scene later calm }

-- ---- a device operation

-- the step's operation is to be made
abbrev Operates : Scene → ℕ → ℕ → Bool → Option Order → Option IoResult → Done → Type 0
Operates scene client job fails order result done = (broke : List Bool) × ((later : List Bool) → in_world scene.slots (io_of (breaking (broke ++ later) scene).world job fails order result) ≡ breaking_then later done)

made_so : (fails breaks : Bool) (client job : ℕ) (order : Order) (scene : Scene) → Operates scene client job fails (Some order) None (operates scene job order fails breaks)
made_so true breaks client job order scene = ([], λ later. refl)
made_so false breaks client job order scene = (breaks ∷ [], λ later. refl)

-- the job's operation is made: the device broke or not
pub goes_by_io : (scene : Scene) (client job : ℕ) (fails breaks : Bool) (order : Order) → order_in scene.world.cache.nvm job ≡ Some order → result_at job scene.world.results ≡ None
    → Goes scene (record { client = client; deed = Io job fails }) (operates scene job order fails breaks).told [] (operates scene job order fails breaks).scene
goes_by_io scene client job fails breaks order at none =
    let m = made_so fails breaks client job order scene in
    record { broke = m.0; goes = λ later. (λ i. in_world scene.slots (io_of (breaking (m.0 ++ later) scene).world job fails (at i) (none i))) ∙ m.1 later }

neither : (order : Order) → (Some order ≡ None) ⊎ (false ≡ true) → ⊥
neither order h = ⊎_elim (λ e. cc) (λ e. cc) h

idle_so : (scene : Scene) (later : List Bool) (job : ℕ) (fails : Bool) (order : Option Order) (result : Option IoResult) → (order ≡ None) ⊎ (is_some result ≡ true)
    → in_world scene.slots (io_of (breaking later scene).world job fails order result) ≡ record { scene = breaking later scene; told = Tells (Says (Refused UnknownJob)); part = [] }
idle_so scene later job fails None result h = refl
idle_so scene later job fails (Some order) (Some result) h = refl
idle_so scene later job fails (Some order) None h = absurd (neither order h)

-- there is none to make
pub goes_idly : (scene : Scene) (client job : ℕ) (fails : Bool) → (order_in scene.world.cache.nvm job ≡ None) ⊎ (is_some (result_at job scene.world.results) ≡ true)
    → Goes scene (record { client = client; deed = Io job fails }) (Tells (Says (Refused UnknownJob))) [] scene
goes_idly scene client job fails h = record { broke = []; goes = λ later. idle_so scene later job fails (order_in scene.world.cache.nvm job) (result_at job scene.world.results) h }
