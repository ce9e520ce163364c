-- A step whose tests compute: what the rows cite for each of theirs.
use Rattle.std.proofs.Common.{◌≡◌, ℕ, ◌≤◌, ◌==◌, Bool, true, false, not, ◌&&◌, ◌||◌, List, arith, cond}
use Rattle.std.specs.Prelude.{nat_le}
use Rattle.std.specs.List.{list_any, list_all}
use Rattle.hc_types.specs.Tally.{count}
use Rattle.hc_types.proofs.Tallies.{tally-mono}
use Rattle.std.specs.Str.{bytes_eq}
use Rattle.hc_types.specs.Config.{Config}
use Rattle.hc_history.specs.Note.{Note}
use Rattle.hc_history.specs.Books.{Charge, charges, waiting, is_linked, entry_at}
use Rattle.hc_history.specs.Lawful.{past, is_backed, is_stray, AtEnd}
use Rattle.hc_machine.specs.Schedule.{Deed, Told}
use Rattle.hc_follows.specs.Desk.{Desk, Kept, open_charges}
use Rattle.hc_follows.specs.Claims.{is_open, is_adding, Claimed}
use Rattle.hc_follows.specs.Charging.{Charges, Frees}
use Rattle.hc_follows.specs.Follows.{PartOf, Clocked, desk_after, IsStep}

abbrev is_any : Charge → Bool
is_any charge = charge.linked

-- of one linked charge, no key has two
one_linked : (all : List Charge) → nat_le (count is_any all) 1 ≡ true → (key : List ℕ) → count (is_linked key) all ≤ 1
one_linked all few key = let less = tally-mono (λ (charge : Charge). cond (is_linked key charge) 1 0) (λ (charge : Charge). cond charge.linked 1 0) (λ charge. step charge.linked (bytes_eq charge.key key)) all in grind (arith, less, few)
  where
    step : (a b : Bool) → ◌≤◌ (cond (a && b) 1 0) (cond a 1 0)
    step true true = omega arith
    step true false = omega arith
    step false b = omega arith

-- one item is linked at most
pub ends_by : {config : Config} {older : List Note} → count (λ (charge : Charge). charge.linked && not (is_backed (entry_at config.flash older charge.key) charge)) (charges older) ≡ 0 → nat_le (count is_any (charges older)) 1 ≡ true → count (is_stray config.flash older) (waiting older) ≡ 0 → AtEnd config older
ends_by backed few waits = record { backed = backed; single = one_linked _ few; waits = waits }

pub claimed_by : {desk : Desk} → list_all (λ (kept : Kept). is_open kept.charge desk.older) desk.slots ≡ true
    → list_all (λ adding. not (is_adding desk.older adding) || is_open adding.charge desk.older) desk.adds ≡ true
    → list_all (λ (charge : Charge). list_any (λ (kept : Kept). kept.charge == charge.number) desk.slots || list_any (λ adding. is_adding desk.older adding && (adding.charge == charge.number)) desk.adds) (open_charges desk.older) ≡ true → Claimed desk
claimed_by slots adds other = record { by_slots = slots; by_adds = adds; no_other = other }

pub computed : {config : Config} {desk : Desk} {client : ℕ} {deed : Deed} {told : Told} {part : List Note} → PartOf config desk client deed told part → Clocked deed desk.older part → Charges desk.older deed told part → Frees deed desk part → Claimed (desk_after deed told part desk) → AtEnd config (past desk.older part)
    → IsStep config desk client deed told part
computed part clock charged freed claimed ends = record { part_of = part; clocked = clock; charges = charged; frees = freed; claimed = claimed; at_end = ends }
