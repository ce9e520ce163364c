-- A fill that is over, as contracts see it.
use Rattle.std.specs.Prelude.{ℕ, List, Option, Some, None, option_map}
use Rattle.hc_types.specs.FlashEntry.{FlashEntry, entry_of}
use Rattle.hc_machine.specs.Nvm.{Fill, Waiter, without_fill}
use Rattle.hc_machine.specs.Takes.{Filled as Over, Take, Finished}
use Rattle.hc_nvm.specs.declared.filler.Filled.{Filled}

abbrev pub filled_of : {A : Type 0} → Filled A → Over
filled_of filled = record { entry = option_map (λ entry. entry_of entry.value) filled.entry; waiters = filled.waiters.items }

-- what was found, for the calls that wait, where some do
abbrev pub over_of : Option FlashEntry → Option (List Waiter) → Option Over
over_of found None = None
over_of found (Some waiters) = Some (record { entry = found; waiters = waiters })

-- the fill that ends, where a get is over that found this
abbrev pub filled_if : Take → Option FlashEntry → Option Fill → Option Over
filled_if Finished found fill = over_of found (option_map (λ (fill : Fill). fill.waiters) fill)
filled_if take found fill = None

-- the fills that are left then
abbrev pub left_if : Take → List ℕ → List Fill → List Fill
left_if Finished key fills = without_fill key fills
left_if take key fills = fills
