-- A cache without items, behind what waits for flash, before any item comes back.
use Rattle.std.proofs.Common.{◌≡◌, ℕ, ◌≤◌, true, cond, not, ◌&&◌, length, List, [], ◌∷◌, Option, Some, None, map, refl, ap, sym, arith, subst}
use Rattle.std.specs.Prelude.{◌==◌}
use Rattle.std.specs.List.{list_any}
use Rattle.hc_types.specs.Tally.{tally, count}
use Rattle.hc_types.specs.Config.{Config}
use Rattle.hc_types.specs.declared.config.PoolSize.{PoolSize}
use Rattle.hc_memory.specs.Item.{Item}
use Rattle.hc_memory.specs.Pool.{is_at}
use Rattle.hc_memory.specs.Memory.{empty_pool}
use Rattle.hc_machine.specs.items.Items.{items_of, item_has}
use Rattle.hc_machine.specs.Nvm.{Nvm, Fill, is_put_of, is_stone_of, is_job, is_fill_of, adds}
use Rattle.hc_machine.specs.Calls.{queue_of}
use Rattle.hc_invariant.specs.Tells.{waiters_of}
use Rattle.hc_invariant.specs.Jobs.{AllWishes}
use Rattle.hc_invariant.specs.LargeAlone.{LargeAlone}
use Rattle.hc_invariant.specs.Good.{fills_of}
use Rattle.hc_invariant.specs.Structure.{Structured, JobsStand, JobsPart, AllAsk, stones_of, flash_of, is_small_job, is_large_job, brings}
use Rattle.hc_pair.specs.Resting.{is_idle}
use Rattle.hc_waiting.specs.Tombstones.{is_out}
use Rattle.hc_nvm.specs.Resting.{rests}
use Rattle.hc_state.specs.Resting.{flash_rests, begun, IsCache}
use Rattle.hc_state.proofs.Rested.{both_hold, nothing_in}

no_items : (sizes : List PoolSize) → items_of (map empty_pool sizes) ≡ []
no_items [] = refl
no_items (size ∷ sizes) = no_items sizes

-- ---- no job is out

-- what there is none of
pub record AllRest (nvm : Nvm) : Type 0 where
  pub small : nvm.pair.small.jobs ≡ []
  pub large : nvm.pair.large.jobs ≡ []
  pub jobs : nvm.jobs ≡ []
  pub fills : nvm.fills ≡ []

pub all-rest : (nvm : Nvm) → rests nvm ≡ true → AllRest nvm
all-rest nvm h =
    let one = both_hold ((is_idle nvm.pair && (length nvm.jobs == 0)) && (length nvm.fills == 0)) (not (list_any is_out nvm.tombstones)) h in
    let two = both_hold (is_idle nvm.pair && (length nvm.jobs == 0)) (length nvm.fills == 0) one.0 in
    let three = both_hold (is_idle nvm.pair) (length nvm.jobs == 0) two.0 in
    let four = both_hold (length nvm.pair.small.jobs == 0) (length nvm.pair.large.jobs == 0) three.0 in
    record {
      small = nothing_in nvm.pair.small.jobs four.0;
      large = nothing_in nvm.pair.large.jobs four.1;
      jobs = nothing_in nvm.jobs three.1;
      fills = nothing_in nvm.fills two.1;
    }

jobs_stand : (nvm : Nvm) → rests nvm ≡ true → LargeAlone nvm.pair.small.flash nvm.pair.large → JobsStand nvm
jobs_stand nvm h alone =
    let r = all-rest nvm h in
    let no_job : (n : ℕ) → count (is_job n) nvm.jobs ≡ 0 = λ n. ap (count (is_job n)) r.jobs in
    let no_fill : (n : ℕ) → count (brings n) nvm.fills ≡ 0 = λ n. ap (count (brings n)) r.fills in
    let none_small : (n : ℕ) → count (is_small_job n) nvm.pair.small.jobs ≡ 0 = λ n. ap (count (is_small_job n)) r.small in
    let none_large : (n : ℕ) → count (is_large_job n) nvm.pair.large.jobs ≡ 0 = λ n. ap (count (is_large_job n)) r.large in
    record {
      one_job = λ n. omega (arith, no_job n);
      one_each = λ n. omega (arith, no_fill n);
      fresh = λ n later. omega (arith, no_job n, no_fill n, none_small n, none_large n);
      asks = subst (λ (fills : List Fill). AllAsk nvm.pair fills) (sym r.fills) tt;
      large = alone;
    }

-- ---- the cache

begun_with : (config : Config) (made now calls : ℕ) (nvm : Option Nvm) → fills_of nvm ≡ [] → ((key : List ℕ) → count (is_put_of key) (queue_of nvm) ≤ 1) → ((key : List ℕ) → count (is_stone_of key) (stones_of nvm) ≤ 1)
    → JobsPart nvm → config.flash ≡ flash_of nvm → Structured (begun config made now calls nvm)
begun_with config made now calls nvm fills puts stones jobs flash =
    let none : (f : Item → ℕ) → tally f (items_of (map empty_pool config.pools)) ≡ 0 = λ f. ap (tally f) (no_items config.pools) in
    record {
      one_place = λ key. omega (arith, none (λ i. cond (is_at key i) 1 0), puts key, ap (count (is_fill_of key)) fills);
      one_number = λ n. omega (arith, none (λ i. cond (item_has n i) 1 0));
      fresh = λ n later. omega (arith, none (λ i. cond (item_has n i) 1 0));
      wishes = subst (λ (fs : List Fill). AllWishes (begun config made now calls nvm).memory fs) (sym fills) tt;
      one_add = λ n. omega (arith, ap (λ fs. count (adds n) (waiters_of fs)) fills);
      one_stone = stones;
      jobs = jobs;
      flash = flash;
    }

-- behind what waits for flash, of which each comes once
pub begun-is : (config : Config) (made now calls : ℕ) (nvm : Option Nvm) → config.flash ≡ flash_of nvm → flash_rests nvm ≡ true → ((key : List ℕ) → count (is_put_of key) (queue_of nvm) ≤ 1) → ((key : List ℕ) → count (is_stone_of key) (stones_of nvm) ≤ 1)
    → ((n : Nvm) → nvm ≡ Some n → LargeAlone n.pair.small.flash n.pair.large) → IsCache (begun config made now calls nvm)
begun-is config made now calls None flash rest puts stones alone = record { structured = begun_with config made now calls None refl puts stones tt flash; rests = refl }
begun-is config made now calls (Some n) flash rest puts stones alone = record {
  structured = begun_with config made now calls (Some n) (all-rest n rest).fills puts stones (jobs_stand n rest (alone n refl)) flash;
  rests = ap (λ b. b && true) rest;
}
