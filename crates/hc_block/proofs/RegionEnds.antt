-- What the engine keeps where a region ends, and that its fields then hold the machine's state.
use Rattle.std.proofs.Common.{◌≡◌, ℕ, ◌<◌, Bool, true, false, List, [], ◌∷◌, ◌++◌, length, set, Option, Some, None, refl, arith, ◌∙◌}
use Rattle.std.proofs.lemmas.List.{length-set}
use Rattle.std.specs.Prelude.{if◌then◌else◌, ◌==◌, nat_lt, IfSome}
use Rattle.hc_types.specs.declared.config.FlashConfig.{FlashConfig}
use Rattle.hc_types.specs.Loss.{Cause, Reclaimed, Fault}
use Rattle.hc_engines.specs.large.Region.{Status, Clean, Region, Appended, is_clean, region_at}
use Rattle.hc_engines.specs.large.Index.{Indexed, leading_into, without_all}
use Rattle.hc_engines.specs.large.Block.{Block, finished, Writing, work_of, end_job}
use Rattle.hc_engines.specs.Engine.{Loss, Outcome, nothing, Over}
use Rattle.hc_engines.specs.large.Numbers.{minus, is_in}
use Rattle.hc_engines.specs.large.Steps.{lost, emptied, cleared_by, not_current, end_region, oldest, clean_count}
use Rattle.hc_engines.specs.large.Sound.{is_stored}
use Rattle.hc_block.specs.Large.{Kept}
use Rattle.hc_engines.specs.large.Choices.{reclaim_next}
use Rattle.hc_engines.proofs.large.Within.{ended_within}
use Rattle.hc_block.specs.Ends.{CanEnd, flushed_left}
use Rattle.hc_region.specs.Numbers.{AllThere}
use Rattle.hc_region.proofs.Listed.{minus_distinct}
use Rattle.hc_block.proofs.Waiting.{left_once}
use Rattle.hc_engines.proofs.large.Lists.{in_range, same_num}
use Rattle.hc_engines.proofs.large.Regions.{oldest_is}
use Rattle.hc_engines.proofs.large.Ends.{Ending, ended_sound}
use Rattle.hc_engines.proofs.large.Flushes.{written_ending}
use Rattle.hc_engines.proofs.large.Reclaims.{oldest_ending}

left_is : (pins r : ℕ) (flushed : List ℕ) → flushed_left (cleared_by pins r) r flushed ≡ (if pins == 0 then minus r flushed else flushed)
left_is pins r flushed = go (pins == 0)
  where
    go : (t : Bool) → flushed_left (if t then Some r else None) r flushed ≡ (if t then minus r flushed else flushed)
    go true = refl
    go false = refl

pub ended_is : (cause : Cause) (s : Block) (r : ℕ) (appended : List Appended) (start losses : List Loss) (regions : List Region) (current : Option ℕ) (sealed flushed : List ℕ) (index : List Indexed) (cleared : Option ℕ) (outcome : Outcome)
    → appended ≡ (region_at r s.regions).appended → start ≡ [] → losses ≡ start ++ lost cause (leading_into r appended s.index) → index ≡ without_all (leading_into r appended s.index) s.index
    → regions ≡ set s.regions r (emptied (region_at r s.regions)) → cleared ≡ cleared_by (region_at r s.regions).pins r → current ≡ not_current r s.current → sealed ≡ minus r s.sealed → flushed ≡ flushed_left cleared r s.flushed
    → outcome ≡ record nothing { answer = Over; losses = losses; cleared = cleared }
    → end_region cause r s ≡ finished (record s { regions = regions; current = current; sealed = sealed; flushed = flushed; index = index }) outcome
ended_is cause s r appended start losses regions current sealed flushed index cleared outcome a n l i rs cl cu se fl o =
    let left = left_is (region_at r s.regions).pins r s.flushed in
    rw (o, l, n, i, a, rs, cu, se, fl, cl, left) refl

pub ended_kept : (flash : FlashConfig) (cause : Cause) (s : Block) (r : ℕ) → Kept flash s → Ending flash r s → Kept flash (end_region cause r s).state
ended_kept flash cause s r k e = record {
  limits = k.limits;
  count = length-set s.regions r (emptied (region_at r s.regions)) ∙ k.count;
  filled = ended_within flash cause r s k.filled;
  sound = ended_sound flash cause r s e;
  sealed_once = minus_distinct r s.sealed k.sealed_once;
  flushed_once = left_once ((region_at r s.regions).pins == 0) r s.flushed k.flushed_once;
}

pub all_there : (regions : List Region) (rs : List ℕ) → ((r : ℕ) → is_in r rs ≡ true → is_stored (region_at r regions).status ≡ true) → AllThere (length regions) rs
all_there regions [] h = tt
all_there regions (x ∷ xs) h = (stored x (h x (rw (same_num x) refl)), all_there regions xs (λ r i. h r (more r i)))
  where
    unclean : (status : Status) → is_stored status ≡ true → is_clean status ≡ false
    unclean Clean e = absurd (cc)
    unclean status e = cc

    stored : (r : ℕ) → is_stored (region_at r regions).status ≡ true → r < length regions
    stored r e = in_range regions r (unclean (region_at r regions).status e)

    more : (r : ℕ) → is_in r xs ≡ true → is_in r (x ∷ xs) ≡ true
    more r i = grind (arith, i)

-- ---- reclaim

next_oldest : (flash : FlashConfig) (s : Block) (r : ℕ) → reclaim_next flash s ≡ Some r → oldest s.regions s.flushed ≡ Some r
next_oldest flash s r = go (nat_lt (clean_count s.regions) flash.clean)
  where
    go : (t : Bool) → (if t then oldest s.regions s.flushed else None) ≡ Some r → oldest s.regions s.flushed ≡ Some r
    go true e = e
    go false e = absurd (cc)

pub next_ending : (flash : FlashConfig) (s : Block) (r : ℕ) → Kept flash s → reclaim_next flash s ≡ Some r → Ending flash r s
next_ending flash s r k e = (oldest_ending flash s r k.sound (oldest_is s.regions s.flushed r (next_oldest flash s r e))).0

pub can_end : (flash : FlashConfig) (s : Block) (r : ℕ) → Kept flash s → reclaim_next flash s ≡ Some r → CanEnd flash (Reclaimed r) r s
can_end flash s r k e =
    let ending = next_ending flash s r k e in
    record { there = in_range s.regions r ending.unclean; in_use = ending.unclean; kept = ended_kept flash (Reclaimed r) s r k ending }

pub all_can_end : (flash : FlashConfig) (s : Block) (o : Option ℕ) → Kept flash s → reclaim_next flash s ≡ o → IfSome o (λ r. CanEnd flash (Reclaimed r) r s)
all_can_end flash s None k e = tt
all_can_end flash s (Some r) k e = can_end flash s r k e

-- ---- a failed write

pub can_fail : (flash : FlashConfig) (s : Block) (number r : ℕ) (bytes : List ℕ) → Kept flash s → work_of number s.jobs ≡ Some (Writing r bytes) → CanEnd flash Fault r (end_job number s)
can_fail flash s number r bytes k e =
    let ending = (written_ending flash number r bytes s k.sound e).0 in
    record {
      there = in_range s.regions r ending.unclean;
      in_use = ending.unclean;
      kept = record {
        limits = k.limits;
        count = length-set s.regions r (emptied (region_at r s.regions)) ∙ k.count;
        filled = ended_within flash Fault r (end_job number s) k.filled;
        sound = ended_sound flash Fault r (end_job number s) ending;
        sealed_once = minus_distinct r s.sealed k.sealed_once;
        flushed_once = left_once ((region_at r s.regions).pins == 0) r s.flushed k.flushed_once;
      };
    }
