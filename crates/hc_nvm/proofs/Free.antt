-- What is next to be brought has no job yet.
use Rattle.std.proofs.Common.{◌≡◌, ℕ, Bool, true, false, not, ◌&&◌, List, [], ◌∷◌, Option, Some, None, refl}
use Rattle.std.specs.List.{find}
use Rattle.std.specs.Prelude.{is_some}
use Rattle.hc_engines.specs.pair.Pair.{Pair, is_busy_for}
use Rattle.hc_machine.specs.Nvm.{Nvm, Fill, next_fill}
use Rattle.hc_waiting.specs.Fills.{IsFree}

-- it can be served: it has no job, and no job is on its bucket
abbrev can_be_served : Pair → Fill → Bool
can_be_served pair fill = not (is_some fill.job) && not (is_busy_for pair fill.key)

first-is-free : (pair : Pair) (fills : List Fill) → IsFree (find (can_be_served pair) fills)
first-is-free pair [] = tt
first-is-free pair (fill ∷ fills) = by fill.job refl (is_busy_for pair fill.key) refl (first-is-free pair fills)
  where
    by : (job : Option ℕ) → fill.job ≡ job → (busy : Bool) → is_busy_for pair fill.key ≡ busy → IsFree (find (can_be_served pair) fills) → IsFree (find (can_be_served pair) (fill ∷ fills))
    by (Some job) e busy b more = rw e more
    by None e true b more = rw (e, b) more
    by None e false b more = rw (e, b) refl

pub next-is-free : (nvm : Nvm) → IsFree (next_fill nvm)
next-is-free nvm = first-is-free nvm.pair nvm.fills
