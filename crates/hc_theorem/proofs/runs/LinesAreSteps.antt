-- The lines of a trace are steps of a schedule.
use Rattle.std.proofs.Common.{◌≡◌, ℕ, List, [], ◌∷◌, ◌++◌, length, Option, None, Some, refl, ap, ◌∙◌, append-nil}
use Rattle.hc_types.specs.declared.refusal.Refusal.{Refusal}
use Rattle.hc_machine.specs.items.Allocating.{refusal_of, expiry_of}
use Rattle.hc_memory.specs.Item.{Handle}
use Rattle.hc_history.specs.Note.{Note}
use Rattle.hc_machine.specs.Cache as machine
use Rattle.hc_machine.specs.Cache.{Cache, Moved, Refused}
use Rattle.hc_machine.specs.Evicting.{allocate_by, handle_for}
use Rattle.hc_machine.specs.Calls as calls
use Rattle.hc_machine.specs.World as world
use Rattle.hc_machine.specs.World.{World, Stepped, by_call, inserted, given_up, put_new}
use Rattle.hc_machine.specs.Schedule as schedule
use Rattle.hc_machine.specs.Schedule.{Step, Done, fills, in_world, step, run_from, ran_on}
use Rattle.hc_theorem.specs.runs.Lines.{by, line_said, at_rest, Comes, LinesAreSteps}

alone : (w : World) (s : Step) (stepped : Stepped) → step s (at_rest w) ≡ in_world [] stepped → Comes (run_from (s ∷ []) (at_rest w)) stepped
alone w s stepped e = record {
  scene = ap (λ (d : Done). d.scene) e;
  answered = ap (λ (d : Done). line_said (d.told ∷ [])) e;
  told = ap (λ (d : Done). d.part ++ []) e ∙ append-nil stepped.part;
}

-- ---- an item is set

set_by : (w : World) (pool : ℕ) (key value : List ℕ) (ttl : ℕ) (refused : Option Refusal)
    → Comes (ran_on (run_from (by (schedule.Put 0) ∷ [])) (fills 0 (allocate_by refused pool key value ttl w.cache).answer (at_rest w) (allocate_by refused pool key value ttl w.cache)))
    (by_call w (inserted (calls.insert_or_replace 0) (allocate_by refused pool key value ttl w.cache)))
set_by w pool key value ttl (Some refusal) = record { scene = refl; answered = refl; told = refl }
set_by w pool key value ttl None =
    let opened = allocate_by None pool key value ttl w.cache in
    record { scene = refl; answered = refl; told = ap (λ ns. opened.part ++ ns) (append-nil _) }

-- ---- an item is added

-- the item that stands in the slot, where no other does
abbrev in_slot : Handle → List schedule.Slot
in_slot handle = record { number = 0; handle = handle } ∷ []

-- the insert was answered so, and its handle, if it is still there, is given up
abbrev after_insert : World → Handle → Moved → Done
after_insert w handle moved = in_world (schedule.left_after moved.answer 0 (in_slot handle)) (by_call w moved)

-- what is left is given up
given : (w : World) (handle : Handle) (cache : Cache) (part : List Note) (answer : machine.Answer) (opened : List Note)
    → Comes (ran_on (λ scene. ran_on (run_from (by (schedule.Discard 0) ∷ [])) (after_insert w handle (record { cache = cache; answer = answer; part = part }))) (record { scene = at_rest w; told = schedule.Filled; part = opened }))
    (by_call w (world.behind opened (given_up handle answer (record { cache = cache; answer = answer; part = part }))))
given w handle cache part (Refused refusal) opened = record { scene = refl; answered = refl; told = ap (λ ns. opened ++ (part ++ ns)) (append-nil _) }
given w handle cache part answer opened = record { scene = refl; answered = refl; told = ap (λ ns. opened ++ ns) (append-nil part) }

add_by : (w : World) (pool : ℕ) (key value : List ℕ) (ttl : ℕ) (refused : Option Refusal)
    → Comes (ran_on (run_from (by (schedule.PutNew 0) ∷ by (schedule.Discard 0) ∷ [])) (fills 0 (allocate_by refused pool key value ttl w.cache).answer (at_rest w) (allocate_by refused pool key value ttl w.cache)))
    (by_call w (inserted put_new (allocate_by refused pool key value ttl w.cache)))
add_by w pool key value ttl (Some refusal) = record { scene = refl; answered = refl; told = refl }
add_by w pool key value ttl None =
    let opened = allocate_by None pool key value ttl w.cache in
    let handle = handle_for w.cache pool key value (expiry_of w.cache.now ttl) in
    let moved = calls.insert 0 handle opened.cache in
    given (record w { cache = opened.cache }) handle moved.cache moved.part moved.answer opened.part

-- ---- each line

pub lines_are_steps : LinesAreSteps
lines_are_steps w (world.Set pool key value ttl) = set_by w pool key value ttl (refusal_of w.cache.memory pool key (length value))
lines_are_steps w (world.Add pool key value ttl) = add_by w pool key value ttl (refusal_of w.cache.memory pool key (length value))
lines_are_steps w (world.Get key) = alone w (by (schedule.Find key)) _ refl
lines_are_steps w (world.Del key) = alone w (by (schedule.Remove key)) _ refl
lines_are_steps w (world.At moment) = alone w (by (schedule.Tick moment)) _ refl
lines_are_steps w world.Writer = alone w (by schedule.WriterTake) _ refl
lines_are_steps w world.Filler = alone w (by schedule.FillerTake) _ refl
lines_are_steps w world.Reclaim = alone w (by schedule.Reclaim) _ refl
lines_are_steps w (world.Io job fails) = alone w (by (schedule.Io job fails)) _ refl
lines_are_steps w (world.Done job) = alone w (by (schedule.Finish job)) _ refl
lines_are_steps w (world.Reply call) = alone w (by (schedule.Reply call)) _ refl
