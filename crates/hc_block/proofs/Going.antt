-- What the engine keeps where a page goes out, and that its fields then hold the machine's state.
use Rattle.std.proofs.Common.{◌≡◌, ℕ, ◌*◌, ◌<◌, ◌≤◌, Bool, true, false, List, [], ◌∷◌, length, set, Option, Some, None, refl, sym, ap, arith, ◌∙◌, subst}
use Rattle.std.proofs.lemmas.List.{length-set}
use Rattle.std.proofs.Math.Nat.{mul-le-mul_left}
use Rattle.hc_engines.specs.large.Laws.{IsFree}
use Rattle.std.specs.Prelude.{if◌then◌else◌, IfSome}
use Rattle.hc_types.specs.declared.config.FlashConfig.{FlashConfig}
use Rattle.hc_engines.specs.large.Region.{Sealed, Region, is_clean, region_at, can_go, next_page, page_no}
use Rattle.hc_engines.specs.large.Block.{Block, Job, Moved, Writing, job_added}
use Rattle.hc_engines.specs.Engine.{Order, Write, nothing}
use Rattle.hc_engines.specs.large.Numbers.{is_in}
use Rattle.hc_engines.specs.large.Steps.{flush, first_ready}
use Rattle.hc_engines.specs.large.Sound.{Sound}
use Rattle.hc_block.specs.Large.{Kept}
use Rattle.hc_region.specs.Stages.{mark_seen}
use Rattle.hc_engines.specs.large.Choices.{Mark, Early, Flush, marked, left_sealed, early_next, next_from, flush_next, gone_out, flushed_by}
use Rattle.hc_engines.proofs.large.Choices.{flush_by_choice}
use Rattle.hc_engines.proofs.large.Within.{flush_within}
use Rattle.hc_engines.specs.large.Within.{AllWithin}
use Rattle.hc_block.specs.Going.{choice_seen, CanGoOut}
use Rattle.hc_region.specs.Numbers.{AllThere}
use Rattle.hc_block.proofs.Waiting.{left_sealed_once}
use Rattle.hc_engines.proofs.large.Lists.{in_range, same_num}
use Rattle.hc_engines.proofs.large.Flushes.{ready_is}
use Rattle.hc_region.specs.declared.status.Mark as code
use Rattle.hc_engines.proofs.large.FlushesSound.{flush_sound}

some_same : (a b : ℕ × Mark) → Some a ≡ Some b → a ≡ b
some_same a b e = cc

turn_region : (a b : ℕ × Mark) → Some a ≡ Some b → a.0 ≡ b.0
turn_region a b e = ap (λ (t : ℕ × Mark). t.0) (some_same a b e)

-- where a page goes out, it is of a region that is in use
next_in_use : (flash : FlashConfig) (s : Block) (r : ℕ) (mark : Mark) → Kept flash s → flush_next flash s ≡ Some (r, mark) → is_clean (region_at r s.regions).status ≡ false
next_in_use flash s r mark k e = go (first_ready s.regions s.sealed) refl e
  where
    early : (o : Option ℕ) → s.current ≡ o → early_next flash s o ≡ Some (r, mark) → is_clean (region_at r s.regions).status ≡ false
    early None c e = absurd (cc)
    early (Some q) c e = at (can_go flash (region_at q s.regions)) e
      where
        turn : ℕ × Mark
        turn = (q, Early)

        at : (t : Bool) → (if t then Some turn else None) ≡ Some (r, mark) → is_clean (region_at r s.regions).status ≡ false
        at true e = let same : q ≡ r = turn_region turn (r, mark) e in rw (← same, k.sound.current q c) refl
        at false e = absurd (cc)

    go : (o : Option ℕ) → first_ready s.regions s.sealed ≡ o → next_from flash s o ≡ Some (r, mark) → is_clean (region_at r s.regions).status ≡ false
    go None f e = early s.current refl e
    go (Some q) f e =
        let same : q ≡ r = turn_region (q, Flush) (r, mark) e in
        let is_sealed = k.sound.sealed q (ready_is s.regions s.sealed q f).there in
        rw (← same, is_sealed) refl

pub can_go_out : (flash : FlashConfig) (number : ℕ) (s : Block) (r : ℕ) (mark : Mark) → Kept flash s → IsFree number s → flush_next flash s ≡ Some (r, mark) → CanGoOut flash number r mark s
can_go_out flash number s r mark k free e = record {
  free = free;
  there = there;
  in_use = in_use;
  kept = record {
    limits = k.limits;
    count = length-set s.regions r new ∙ k.count;
    filled = subst (λ (m : Moved). AllWithin flash m.state) goes (flush_within flash number s k.filled);
    sound = subst (λ (m : Moved). Sound flash m.state) goes (flush_sound flash number s free k.sound);
    sealed_once = left_sealed_once mark r s.sealed k.sealed_once;
    flushed_once = k.flushed_once;
  };
}
  where
    in_use : is_clean (region_at r s.regions).status ≡ false
    in_use = next_in_use flash s r mark k e

    there : r < length s.regions
    there = in_range s.regions r in_use

    new : Region
    new = marked mark (region_at r s.regions)

    goes : flush flash number s ≡ gone_out flash number r mark s
    goes = flush_by_choice flash number s ∙ ap (flushed_by flash number s) e

pub all_can_go_out : (flash : FlashConfig) (number : ℕ) (s : Block) (o : Option (ℕ × code.Mark)) → Kept flash s → IsFree number s → flush_next flash s ≡ choice_seen o → IfSome o (λ turn. CanGoOut flash number turn.0 (mark_seen turn.1) s)
all_can_go_out flash number s None k free e = tt
all_can_go_out flash number s (Some turn) k free e = can_go_out flash number s turn.0 (mark_seen turn.1) k free e

pub sealed_there : (flash : FlashConfig) (s : Block) → Kept flash s → AllThere (length s.regions) s.sealed
sealed_there flash s k = go s.sealed k.sound.sealed
  where
    go : (rs : List ℕ) → ((r : ℕ) → is_in r rs ≡ true → (region_at r s.regions).status ≡ Sealed) → AllThere (length s.regions) rs
    go [] h = tt
    go (x ∷ xs) h = (in_range s.regions x (rw (h x (rw (same_num x) refl)) refl), go xs (λ r i. h r (more r i)))
      where
        more : (r : ℕ) → is_in r xs ≡ true → is_in r (x ∷ xs) ≡ true
        more r i = grind (arith, i)

-- what the fields hold after a page went out is the machine's state
pub gone_is : (flash : FlashConfig) (number r : ℕ) (mark : Mark) (s : Block) (regions : List Region) (sealed : List ℕ) (jobs : List Job) (order : Order) → regions ≡ set s.regions r (marked mark (region_at r s.regions)) → sealed ≡ left_sealed mark r s.sealed
    → jobs ≡ job_added number (Writing r (next_page flash (region_at r s.regions))) s.jobs → order ≡ Write (page_no flash r (region_at r s.regions).written) (next_page flash (region_at r s.regions))
    → gone_out flash number r mark s ≡ record { state = record s { regions = regions; sealed = sealed; jobs = jobs }; outcome = nothing; order = Some order }
gone_is flash number r mark s regions sealed jobs order rs ss js o = rw (rs, ss, js, o) refl

-- a region has few pages
pub written_small : (flash : FlashConfig) (s : Block) (r : ℕ) → Kept flash s → (region_at r s.regions).written < 65536
written_small flash s r k =
    let least : (region_at r s.regions).written * 512 ≤ (region_at r s.regions).written * flash.page = mul-le-mul_left (region_at r s.regions).written k.limits.least_page in
    omega (arith, least, k.filled r, k.limits.region_len)

pub written_fits : (flash : FlashConfig) (s : Block) (r : ℕ) → Kept flash s → (region_at r s.regions).written < 4294967296
written_fits flash s r k = omega (arith, written_small flash s r k)

-- a region whose page goes out is as clean as before
pub marked_clean : (mark : Mark) (region : Region) → is_clean region.status ≡ false → is_clean (marked mark region).status ≡ is_clean region.status
marked_clean Early region h = refl
marked_clean Flush region h = sym h
