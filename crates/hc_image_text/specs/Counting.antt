-- The counters of a cache.
use Rattle.std.specs.Prelude.{◌≡◌, ℕ, ◌<◌, ◌^◌, ◌==◌, List, ◌++◌, length, take, drop, Option, Some, None, if◌then◌else◌}
use Rattle.std.specs.Int.{w64, to_be_bytes, from_be_bytes}
use Rattle.hc_image_text.specs.declared.counters.Counters.{Counters}

-- ---- the counters: how many charges, jobs and calls there were, and the second that it is

pub record AreCounters (c : Counters) : Type 0 where
  pub charges : c.charges < 2 ^ 64
  pub jobs : c.jobs < 2 ^ 64
  pub calls : c.calls < 2 ^ 64
  pub clock : c.clock < 2 ^ 64

abbrev pub counters_bytes : Counters → List ℕ
counters_bytes c = to_be_bytes w64 c.charges ++ (to_be_bytes w64 c.jobs ++ (to_be_bytes w64 c.calls ++ to_be_bytes w64 c.clock))

abbrev pub counters_at : List ℕ → Counters
counters_at bytes = record {
  charges = from_be_bytes w64 (take 8 bytes);
  jobs = from_be_bytes w64 (take 8 (drop 8 bytes));
  calls = from_be_bytes w64 (take 8 (drop 16 bytes));
  clock = from_be_bytes w64 (take 8 (drop 24 bytes));
}

abbrev pub counters_in : List ℕ → Option Counters
counters_in bytes = if length bytes == 32 then Some (counters_at bytes) else None

abbrev pub CountersReadBack : Type 0
CountersReadBack = (c : Counters) → AreCounters c → counters_in (counters_bytes c) ≡ Some c
