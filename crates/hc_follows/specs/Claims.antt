-- The open charges are those of filled slots and of adds that wait.
use Rattle.std.specs.Prelude.{◌≡◌, ℕ, ◌==◌, Bool, true, not, ◌&&◌, ◌||◌, List, is_some}
use Rattle.std.specs.List.{list_any, list_all}
use Rattle.hc_history.specs.Note.{Note}
use Rattle.hc_history.specs.Books.{Charge, open_calls, open_call}
use Rattle.hc_follows.specs.Desk.{Kept, Adding, Desk, open_charges}

-- the charge is open
abbrev pub is_open : ℕ → List Note → Bool
is_open number older = list_any (λ (charge : Charge). charge.number == number) (open_charges older)

-- the add isn't answered yet
abbrev pub is_adding : List Note → Adding → Bool
is_adding older adding = is_some (open_call adding.call (open_calls older))

-- the open charges are those of filled slots and of adds that wait
pub record Claimed (desk : Desk) : Type 0 where
  pub by_slots : list_all (λ (kept : Kept). is_open kept.charge desk.older) desk.slots ≡ true
  pub by_adds : list_all (λ adding. not (is_adding desk.older adding) || is_open adding.charge desk.older) desk.adds ≡ true
  pub no_other : list_all (λ (charge : Charge). list_any (λ (kept : Kept). kept.charge == charge.number) desk.slots || list_any (λ adding. is_adding desk.older adding && (adding.charge == charge.number)) desk.adds) (open_charges desk.older) ≡ true
