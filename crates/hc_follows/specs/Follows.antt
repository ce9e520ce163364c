-- When a run follows its steps: each step's part and its answer are those that its kind wants, by the books.
use Rattle.std.specs.Prelude.{◌≡◌, ℕ, ◌<◌, List, [], ◌∷◌, length, map, Option, Some, None}
use Rattle.hc_types.specs.Config.{Config}
use Rattle.hc_history.specs.Note.{Note, Freed}
use Rattle.hc_history.specs.Books.{now_at}
use Rattle.hc_history.specs.Lawful.{past, AtEnd}
use Rattle.hc_machine.specs.Schedule.{Deed, Open, Put, PutNew, Discard, Find, Remove, Reply as TakeReply, Tick, WriterTake, FillerTake, Reclaim, Io, Finish, Step, Told, Filled}
use Rattle.hc_follows.specs.Desk.{Kept, Desk, new_desk, kept_at, job_out}
use Rattle.hc_follows.specs.Clients.{OpenPart, PutPart, PutNewPart, DiscardPart, FindPart, RemovePart, ReplyPart, TickPart, slots_after, adds_after}
use Rattle.hc_follows.specs.Idle.{is_written_out, is_looked_up}
use Rattle.hc_follows.specs.Workers.{TakePart, ReclaimPart, IoPart, FinishPart, jobs_after, pages_after, failures_after}
use Rattle.hc_follows.specs.Claims.{Claimed}
use Rattle.hc_follows.specs.Charging.{Charges, Frees}

-- ---- one line a kind of step

-- the step's part and its answer are those that its kind wants
abbrev pub PartOf : Config → Desk → ℕ → Deed → Told → List Note → Type 0
PartOf config desk client (Open slot pool key value ttl) told part = OpenPart config desk.older (kept_at slot desk.slots) pool key value told part
PartOf config desk client (Put slot) told part = PutPart desk.older client (kept_at slot desk.slots) told part
PartOf config desk client (PutNew slot) told part = PutNewPart config desk.older client (kept_at slot desk.slots) told part
PartOf config desk client (Discard slot) told part = DiscardPart (kept_at slot desk.slots) told part
PartOf config desk client (Find key) told part = FindPart config desk.older client key told part
PartOf config desk client (Remove key) told part = RemovePart desk.older client key told part
PartOf config desk client (TakeReply call) told part = ReplyPart desk.older call told part
PartOf config desk client (Tick moment) told part = TickPart desk.older moment told part
PartOf config desk client WriterTake told part = TakePart (is_written_out config.flash desk) desk.jobs told part
PartOf config desk client FillerTake told part = TakePart (is_looked_up config.flash desk) desk.jobs told part
PartOf config desk client Reclaim told part = ReclaimPart config.flash desk told part
PartOf config desk client (Io job fails) told part = IoPart (job_out job desk.jobs) fails desk.pages desk.failures told part
PartOf config desk client (Finish job) told part = FinishPart job (job_out job desk.jobs) told part

-- the clock moves by a tick alone
abbrev pub Clocked : Deed → List Note → List Note → Type 0
Clocked (Tick moment) older part = Unit {0}
Clocked deed older part = now_at (past older part) ≡ now_at older

-- what stands after the step
abbrev pub desk_after : Deed → Told → List Note → Desk → Desk
desk_after deed told part desk = record {
  older = past desk.older part;
  slots = slots_after deed told (past desk.older part) (now_at desk.older) desk.slots;
  jobs = jobs_after deed told desk.jobs;
  adds = adds_after deed told desk.slots desk.adds;
  pages = pages_after deed told desk.jobs desk.pages;
  failures = failures_after told desk.failures;
}

-- what is asked of one step of a run: its part and its answer, the clock, the charges, and what holds behind it
pub record IsStep (config : Config) (desk : Desk) (client : ℕ) (deed : Deed) (told : Told) (part : List Note) : Type 0 where
  pub part_of : PartOf config desk client deed told part
  pub clocked : Clocked deed desk.older part
  pub charges : Charges desk.older deed told part
  pub frees : Frees deed desk part
  -- the open charges are those of slots and of adds that wait
  pub claimed : Claimed (desk_after deed told part desk)
  -- and the map is held against the linked ones, as it is at a log's end
  pub at_end : AtEnd config (past desk.older part)

-- ---- the whole run

-- what is told where slots are given up
abbrev pub slots_freed : List Kept → List Note
slots_freed slots = map (λ (kept : Kept). Freed kept.charge) slots

-- an Open that stopped after its allocate keeps its part, and fills its slot
abbrev pub StoppedOpen : Config → Desk → Deed → List Note → List Note → Type 0
StoppedOpen config desk (Open slot pool key value ttl) part last =
    IsStep config desk 0 (Open slot pool key value ttl) Filled part × (last ≡ slots_freed (desk_after (Open slot pool key value ttl) Filled part desk).slots)
StoppedOpen config desk deed part last = ⊥

-- each step made has its answer and its part; then what still fills a slot is freed, in order
abbrev pub FollowsFrom : Config → Desk → List Step → List Told → List (List Note) → List Note → Type 0
FollowsFrom config desk (s ∷ steps) (told ∷ answers) (part ∷ parts) last = IsStep config desk s.client s.deed told part × FollowsFrom config (desk_after s.deed told part desk) steps answers parts last
FollowsFrom config desk steps [] [] last = last ≡ slots_freed desk.slots
FollowsFrom config desk (s ∷ steps) [] (part ∷ []) last = StoppedOpen config desk s.deed part last
FollowsFrom config desk steps answers parts last = ⊥

-- all steps are made, or those before the one where it stopped
abbrev pub StopsAt : Option ℕ → ℕ → ℕ → Type 0
StopsAt None made steps = made ≡ steps
StopsAt (Some number) made steps = (made ≡ number) × (number < steps)

-- The run follows its steps: these are their answers and parts, this is told at the end, and here it stopped, if it did.
pub record Follows (config : Config) (steps : List Step) (answers : List Told) (parts : List (List Note)) (last : List Note) (stopped : Option ℕ) : Type 0 where
  pub stops : StopsAt stopped (length answers) (length steps)
  pub follows : FollowsFrom config new_desk steps answers parts last
