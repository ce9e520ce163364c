-- Two worlds between which no line can tell.
use Rattle.std.specs.Prelude.{◌≡◌, ℕ}
use Rattle.hc_machine.specs.World.{World, result_at}

-- they differ in the order of their results at most
pub record Alike (a b : World) : Type 0 where
  pub cache : a.cache ≡ b.cache
  pub pages : (page : ℕ) → a.pages page ≡ b.pages page
  pub results : (job : ℕ) → result_at job a.results ≡ result_at job b.results
  pub breaks : a.breaks ≡ b.breaks
  pub failures : a.failures ≡ b.failures
