-- Logs that are legal and honest, and that no run leaves which follows its steps: of a cache that puts items out for nothing, or
-- denies them. Those with a name like a-find-that-makes-room-for-nothing stand in logs/ as texts.
use Rattle.std.proofs.Common.{◌≡◌, ℕ, ◌≤◌, Bool, true, false, List, [], ◌∷◌, ◌++◌, Option, Some, None, refl, ap, sym, ◌∙◌, subst, arith}
use Rattle.std.specs.List.{list_any}
use Rattle.std.specs.Str.{bytes_eq}
use Rattle.hc_types.specs.Config.{Config}
use Rattle.hc_types.specs.Loss as loss
use Rattle.hc_types.specs.Loss.{Evicted}
use Rattle.hc_types.specs.declared.loss.Why.TheVariants.{NoFlash}
use Rattle.hc_history.specs.Note as note
use Rattle.hc_history.specs.Note.{Note, Begin, Did, End, Lose, Charged, Linked, Freed}
use Rattle.hc_history.specs.Books.{Call, open_calls}
use Rattle.hc_history.specs.Regions.{key_of}
use Rattle.hc_history.specs.Lawful.{past, AtEnd}
use Rattle.hc_history.proofs.Appended.{past-append}
use Rattle.hc_machine.specs.Takes.{Idle, Finished, Work}
use Rattle.hc_machine.specs.Cache as cache
use Rattle.hc_machine.specs.Cache.{Took}
use Rattle.hc_machine.specs.World.{Says, Made}
use Rattle.hc_machine.specs.Schedule.{Deed, Open, Put, PutNew, Discard, Find, Remove, Reply, Tick, WriterTake, FillerTake, Reclaim, Io, Finish, Step, Told, Tells, NoSlot, Filled, all_of}
use Rattle.hc_follows.specs.Desk.{Kept, Adding, Desk, new_desk, kept_at}
use Rattle.hc_follows.specs.Clients.{DiscardPart}
use Rattle.hc_follows.specs.Charging.{charged_in, is_waited_for, links_what_it_charges, Charges, frees_no_open}
use Rattle.hc_follows.specs.Follows.{IsStep, FollowsFrom, Follows, desk_after}

-- ---- a part of a run is a step's

-- one that stands behind these notes is no part of a run, where it is no step's behind them
pub nowhere : (config : Config) (older part : List Note) → ((desk : Desk) (client : ℕ) (deed : Deed) (told : Told) → desk.older ≡ older → IsStep config desk client deed told part → ⊥)
    → (desk : Desk) (steps : List Step) (answers : List Told) (before after : List (List Note)) (last : List Note) → past desk.older (all_of before) ≡ older → FollowsFrom config desk steps answers (before ++ part ∷ after) last → ⊥
nowhere config older part never desk [] [] [] after last e h = h
nowhere config older part never desk [] (told ∷ answers) [] after last e h = h
nowhere config older part never desk (s ∷ steps) (told ∷ answers) [] after last e h = never desk s.client s.deed told e h.0
nowhere config older part never desk (s ∷ steps) [] [] (other ∷ after) last e h = h
nowhere config older part never desk (s ∷ steps) [] [] [] last e h = stopped s.deed h
  where
    stopped : (deed : Deed) → FollowsFrom config desk (record { client = s.client; deed = deed } ∷ steps) [] (part ∷ []) last → ⊥
    stopped (Open slot pool key value ttl) h = never desk 0 (Open slot pool key value ttl) Filled e h.0
    stopped (Put slot) h = h
    stopped (PutNew slot) h = h
    stopped (Discard slot) h = h
    stopped (Find key) h = h
    stopped (Remove key) h = h
    stopped (Reply call) h = h
    stopped (Tick moment) h = h
    stopped WriterTake h = h
    stopped FillerTake h = h
    stopped Reclaim h = h
    stopped (Io job fails) h = h
    stopped (Finish job) h = h
nowhere config older part never desk [] [] (first ∷ before) after last e h = h
nowhere config older part never desk [] (told ∷ answers) (first ∷ before) after last e h = h
nowhere config older part never desk (s ∷ steps) [] (first ∷ []) after last e h = h
nowhere config older part never desk (s ∷ steps) [] (first ∷ second ∷ before) after last e h = h
nowhere config older part never desk (s ∷ steps) (told ∷ answers) (first ∷ before) after last e h =
    nowhere config older part never (desk_after s.deed told first desk) steps answers before after last (sym (past-append desk.older first (all_of before)) ∙ e) h.1

-- ---- room that nobody asked for

-- a part makes one charge at most
links_few : (older part : List Note) → links_what_it_charges older part ≡ true → charged_in part ≤ 1
links_few older [] h = omega arith
links_few older (Charged number key pool bytes ∷ rest) h = grind (arith, h)
links_few older (note ∷ rest) h = links_few older rest h

pub one_charge : (older : List Note) (deed : Deed) (told : Told) (part : List Note) → Charges older deed told part → charged_in part ≤ 1
one_charge older (Open slot pool key value ttl) Filled part h = omega (arith, h)
one_charge older (Open slot pool key value ttl) NoSlot part h = omega (arith, h)
one_charge older (Open slot pool key value ttl) (Tells said) part h = omega (arith, h)
one_charge older (Put slot) told part h = omega (arith, h)
one_charge older (PutNew slot) told part h = omega (arith, h)
one_charge older (Discard slot) told part h = omega (arith, h)
one_charge older (Find key) told part h = omega (arith, h)
one_charge older (Remove key) told part h = omega (arith, h)
one_charge older (Reply call) told part h = omega (arith, h)
one_charge older (Tick moment) told part h = omega (arith, h)
one_charge older WriterTake told part h = omega (arith, h)
one_charge older FillerTake told part h = taken told h
  where
    taken : (told : Told) → Charges older FillerTake told part → charged_in part ≤ 1
    taken Filled h = omega (arith, h)
    taken NoSlot h = omega (arith, h)
    taken (Tells (Made result failures)) h = omega (arith, h)
    taken (Tells (Says (Took Finished))) h = links_few older part h
    taken (Tells (Says (Took Idle))) h = omega (arith, h)
    taken (Tells (Says (Took (Work job order)))) h = omega (arith, h)
    taken (Tells (Says answer)) h = omega (arith, h)
one_charge older Reclaim told part h = omega (arith, h)
one_charge older (Io job fails) told part h = omega (arith, h)
one_charge older (Finish job) told part h = taken told h
  where
    taken : (told : Told) → Charges older (Finish job) told part → charged_in part ≤ 1
    taken Filled h = omega (arith, h)
    taken NoSlot h = omega (arith, h)
    taken (Tells (Made result failures)) h = omega (arith, h)
    taken (Tells (Says (Took Finished))) h = links_few older part h
    taken (Tells (Says (Took Idle))) h = omega (arith, h)
    taken (Tells (Says (Took (Work job order)))) h = omega (arith, h)
    taken (Tells (Says answer)) h = omega (arith, h)

-- where no call waits, nothing is charged that is to be linked
none_linked : (older part : List Note) → open_calls older ≡ [] → links_what_it_charges older part ≡ true → charged_in part ≡ 0
none_linked older [] e h = refl
none_linked older (Charged number key pool bytes ∷ rest) e h = absurd (let nobody : is_waited_for older key ≡ false = ap (list_any (λ (call : Call). bytes_eq (key_of call.op) key)) e in grind (arith, h, nobody))
none_linked older (note ∷ rest) e h = none_linked older rest e h

abbrev is_open_step : Deed → Bool
is_open_step (Open slot pool key value ttl) = true
is_open_step deed = false

-- so an Open alone makes a charge then
pub opens_alone_charge : (older : List Note) (deed : Deed) (told : Told) (part : List Note) → open_calls older ≡ [] → is_open_step deed ≡ false → Charges older deed told part → charged_in part ≡ 0
opens_alone_charge older (Open slot pool key value ttl) told part e other h = absurd cc
opens_alone_charge older (Put slot) told part e other h = h
opens_alone_charge older (PutNew slot) told part e other h = h
opens_alone_charge older (Discard slot) told part e other h = h
opens_alone_charge older (Find key) told part e other h = h
opens_alone_charge older (Remove key) told part e other h = h
opens_alone_charge older (Reply call) told part e other h = h
opens_alone_charge older (Tick moment) told part e other h = h
opens_alone_charge older WriterTake told part e other h = h
opens_alone_charge older FillerTake told part e other h = taken told h
  where
    taken : (told : Told) → Charges older FillerTake told part → charged_in part ≡ 0
    taken Filled h = h
    taken NoSlot h = h
    taken (Tells (Made result failures)) h = h
    taken (Tells (Says (Took Finished))) h = none_linked older part e h
    taken (Tells (Says (Took Idle))) h = h
    taken (Tells (Says (Took (Work job order)))) h = h
    taken (Tells (Says answer)) h = h
opens_alone_charge older Reclaim told part e other h = h
opens_alone_charge older (Io job fails) told part e other h = h
opens_alone_charge older (Finish job) told part e other h = taken told h
  where
    taken : (told : Told) → Charges older (Finish job) told part → charged_in part ≡ 0
    taken Filled h = h
    taken NoSlot h = h
    taken (Tells (Made result failures)) h = h
    taken (Tells (Says (Took Finished))) h = none_linked older part e h
    taken (Tells (Says (Took Idle))) h = h
    taken (Tells (Says (Took (Work job order)))) h = h
    taken (Tells (Says answer)) h = h

-- a-find-that-makes-room-for-nothing: two charges put the item out and go again, and the find misses
abbrev find_part : List Note
find_part = Begin 2 0 (note.Find (97 ∷ [])) ∷ Charged 2 (120 ∷ []) 0 950 ∷ Freed 1 ∷ Lose (loss.Key (97 ∷ [])) (Evicted 0 40 NoFlash) ∷ Charged 3 (121 ∷ []) 0 40 ∷ Freed 2 ∷ Freed 3 ∷ Did 2 note.Miss ∷ End 2 ∷ []

-- no step has it for its part, whatever the step, what it is answered and what was told before
pub find_is_refused : (config : Config) (desk : Desk) (client : ℕ) (deed : Deed) (told : Told) → IsStep config desk client deed told find_part → ⊥
find_is_refused config desk client deed told h = absurd (let one = one_charge desk.older deed told find_part h.charges in omega (arith, one))

-- so no run that follows its steps has it anywhere
pub no_run_finds_so : (config : Config) (steps : List Step) (answers : List Told) (before after : List (List Note)) (last : List Note) (stopped : Option ℕ) → Follows config steps answers (before ++ find_part ∷ after) last stopped → ⊥
no_run_finds_so config steps answers before after last stopped h =
    nowhere config (past [] (all_of before)) find_part (λ desk client deed told e. find_is_refused config desk client deed told) new_desk steps answers before after last refl h.follows

-- a-charge-that-makes-room-for-nothing: an Open's item fits, and another charge puts out what was there, and goes again
abbrev open_part : List Note
open_part = Charged 2 (120 ∷ []) 0 950 ∷ Freed 1 ∷ Lose (loss.Key (97 ∷ [])) (Evicted 0 36 NoFlash) ∷ Freed 2 ∷ Charged 3 (98 ∷ []) 0 36 ∷ []

pub open_is_refused : (config : Config) (desk : Desk) (client : ℕ) (deed : Deed) (told : Told) → IsStep config desk client deed told open_part → ⊥
open_is_refused config desk client deed told h = absurd (let one = one_charge desk.older deed told open_part h.charges in omega (arith, one))

pub no_run_opens_so : (config : Config) (steps : List Step) (answers : List Told) (before after : List (List Note)) (last : List Note) (stopped : Option ℕ) → Follows config steps answers (before ++ open_part ∷ after) last stopped → ⊥
no_run_opens_so config steps answers before after last stopped h =
    nowhere config (past [] (all_of before)) open_part (λ desk client deed told e. open_is_refused config desk client deed told) new_desk steps answers before after last refl h.follows

-- ---- an item that is denied

-- a-remove-that-denies-an-item: a is stored, and its remove says that it isn't in memory
abbrev stored : List Note
stored = Charged 1 (97 ∷ []) 0 36 ∷ Begin 1 0 (note.Insert (97 ∷ []) (111 ∷ 110 ∷ 101 ∷ []) 0) ∷ Linked 1 ∷ Did 1 note.Stored ∷ End 1 ∷ []

abbrev remove_part : List Note
remove_part = Begin 2 0 (note.Remove (97 ∷ [])) ∷ Did 2 note.NotInMemory ∷ End 2 ∷ []

-- no step has it for its part behind those notes: the charge of a is linked still, and the map has no a
pub remove_is_refused : (config : Config) (desk : Desk) (client : ℕ) (deed : Deed) (told : Told) → desk.older ≡ past [] stored → IsStep config desk client deed told remove_part → ⊥
remove_is_refused config desk client deed told e h = none (subst (λ (older : List Note). AtEnd config (past older remove_part)) e h.at_end)
  where
    none : AtEnd config (past (past [] stored) remove_part) → ⊥
    none ends = absurd (let backed = ends.backed in omega (arith, backed))

pub no_run_denies_so : (config : Config) (steps : List Step) (answers : List Told) (before after : List (List Note)) (last : List Note) (stopped : Option ℕ) → all_of before ≡ stored → Follows config steps answers (before ++ remove_part ∷ after) last stopped → ⊥
no_run_denies_so config steps answers before after last stopped told h =
    nowhere config (past [] stored) remove_part (remove_is_refused config) new_desk steps answers before after last (ap (past []) told) h.follows

-- ---- an insert that links nothing

-- a is charged, and its insert is answered as stored, but gives the charge back
abbrev put_part : List Note
put_part = Begin 1 0 (note.Insert (97 ∷ []) (111 ∷ 110 ∷ 101 ∷ []) 0) ∷ Freed 1 ∷ Did 1 note.Stored ∷ End 1 ∷ []

abbrev charged : List Note
charged = Charged 1 (97 ∷ []) 0 36 ∷ []

freed_so : (adds : List Adding) (older : List Note) → older ≡ past [] charged → frees_no_open adds older put_part ≡ true → ⊥
freed_so adds older e h = no (subst (λ (o : List Note). frees_no_open adds o put_part ≡ true) e h)
  where
    no : frees_no_open adds (past [] charged) put_part ≡ true → ⊥
    no h = absurd cc

discarded : (kept : Option Kept) (told : Told) → DiscardPart kept told put_part → ⊥
discarded None NoSlot h = absurd cc
discarded (Some kept) (Tells (Says cache.Discarded)) h = absurd cc
discarded kept told h = h

pub put_is_refused : (config : Config) (desk : Desk) (client : ℕ) (deed : Deed) (told : Told) → desk.older ≡ past [] charged → IsStep config desk client deed told put_part → ⊥
put_is_refused config desk client (Discard slot) told e h = discarded (kept_at slot desk.slots) told h.part_of
put_is_refused config desk client deed told e h = freed_so desk.adds desk.older e h.frees

pub no_run_stores_so : (config : Config) (steps : List Step) (answers : List Told) (before after : List (List Note)) (last : List Note) (stopped : Option ℕ) → all_of before ≡ charged → Follows config steps answers (before ++ put_part ∷ after) last stopped → ⊥
no_run_stores_so config steps answers before after last stopped told h =
    nowhere config (past [] charged) put_part (put_is_refused config) new_desk steps answers before after last (ap (past []) told) h.follows
