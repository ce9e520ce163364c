-- What the engine keeps where a page was written, and that its fields then hold the machine's state.
use Rattle.std.proofs.Common.{◌≡◌, ℕ, ◌+◌, ◌<◌, Bool, true, false, List, [], ◌∷◌, ◌++◌, length, set, Some, refl, sym, ap, ◌∙◌, subst}
use Rattle.std.proofs.lemmas.List.{length-set}
use Rattle.std.specs.Prelude.{if◌then◌else◌, nat_lt}
use Rattle.hc_types.specs.declared.config.FlashConfig.{FlashConfig}
use Rattle.hc_engines.specs.large.Region.{Status, Clean, Open, Sealed, Flushing, OnFlash, Draining, Region, is_clean, region_at, page_done, next_page, page_no}
use Rattle.hc_engines.specs.large.Block.{Block, Job, Moved, Writing, finished, without_job, job_added, end_job, with_region}
use Rattle.hc_engines.specs.Engine.{Order, Write, Over, Outcome, nothing}
use Rattle.hc_engines.specs.large.Steps.{write_out, wrote_page}
use Rattle.hc_engines.specs.large.Sound.{is_flushing, is_filling, readers, writers, Sound}
use Rattle.hc_engines.specs.large.Within.{AllWithin}
use Rattle.hc_engines.proofs.large.Within.{wrote_within}
use Rattle.hc_block.specs.Large.{Kept}
use Rattle.hc_region.specs.Stages.{stage_of, settled}
use Rattle.hc_block.specs.Settling.{settled_in, settled_by, flushed_at, CanSettle, IsWriting}
use Rattle.hc_engines.proofs.large.Lists.{in_range}
use Rattle.hc_engines.proofs.large.Flushes.{Wrote1, wrote_one, out_unclean}
use Rattle.hc_region.specs.declared.status.Stage.{Stage}
use Rattle.hc_region.specs.declared.status.Stage.TheVariants as stages
use Rattle.hc_engines.proofs.large.FlushesSound.{wrote_sound}
use Rattle.hc_block.proofs.Waiting.{flushed_at_once}

-- ---- the plan, carried out, is the machine's step

pub settled_is : (flash : FlashConfig) (number r : ℕ) (s : Block) → wrote_page flash number r (region_at r s.regions).status s ≡ settled_by flash number r (stage_of flash (region_at r s.regions)) s
settled_is flash number r s = go (region_at r s.regions).status refl
  where
    region : Region
    region = region_at r s.regions

    more : (t : Bool) → nat_lt (region.written + 1) flash.region_pages ≡ t → (if t then write_out flash number r (page_done flash region) s else finished (record (with_region r (record (page_done flash region) { status = OnFlash }) s) { flushed = s.flushed ++ r ∷ [] }) (record nothing { answer = Over; flushed = Some r })) ≡ settled_by flash number r (if t then stages.More else stages.Last) s
    more true t = refl
    more false t = refl

    go : (status : Status) → region.status ≡ status → wrote_page flash number r status s ≡ settled_by flash number r (if is_flushing status then (if nat_lt (region.written + 1) flash.region_pages then stages.More else stages.Last) else stages.Early) s
    go Clean e = refl
    go Open e = refl
    go Sealed e = refl
    go OnFlash e = refl
    go Draining e = refl
    go Flushing e = more (nat_lt (region.written + 1) flash.region_pages) refl

-- ---- what is kept

settled_regions : (flash : FlashConfig) (number r : ℕ) (stage : Stage) (s : Block) → (settled_by flash number r stage s).state.regions ≡ set s.regions r (settled flash stage (region_at r s.regions))
settled_regions flash number r stages.More s = refl
settled_regions flash number r stages.Last s = refl
settled_regions flash number r stages.Early s = refl

settled_sealed : (flash : FlashConfig) (number r : ℕ) (stage : Stage) (s : Block) → (settled_by flash number r stage s).state.sealed ≡ s.sealed
settled_sealed flash number r stages.More s = refl
settled_sealed flash number r stages.Last s = refl
settled_sealed flash number r stages.Early s = refl

settled_flushed : (flash : FlashConfig) (number r : ℕ) (stage : Stage) (s : Block) → (settled_by flash number r stage s).state.flushed ≡ flushed_at stage r s.flushed
settled_flushed flash number r stages.More s = refl
settled_flushed flash number r stages.Last s = refl
settled_flushed flash number r stages.Early s = refl

pub can_settle : (flash : FlashConfig) (number r : ℕ) (s : Block) → Kept flash s → IsWriting number r s → CanSettle flash number r (stage_of flash (region_at r s.regions)) s
can_settle flash number r s k w = record {
  under_way = rw w.1 refl;
  there = there;
  in_use = out.0;
  kept = record {
    limits = k.limits;
    count = rw (settled_regions flash number r stage (end_job number s)) (length-set s.regions r (settled flash stage region) ∙ k.count);
    filled = subst (λ (m : Moved). AllWithin flash m.state) (settled_is flash number r (end_job number s)) (wrote_within flash number r region.status (end_job number s) ((k.sound.regions r).unwritten out.1) k.filled);
    sound = subst (λ (m : Moved). Sound flash m.state) (settled_is flash number r (end_job number s)) (wrote_sound flash number r w.0 s k.sound w.1);
    sealed_once = rw (settled_sealed flash number r stage (end_job number s)) k.sealed_once;
    flushed_once = rw (settled_flushed flash number r stage (end_job number s)) (flushed_at_once flash stage r s k.sound out.1 k.flushed_once);
  };
}
  where
    region : Region
    region = region_at r s.regions

    stage : Stage
    stage = stage_of flash region

    one : Wrote1 flash number r w.0 s
    one = wrote_one flash number r w.0 s k.sound w.1

    out : (is_clean region.status ≡ false) × (is_filling region.status ≡ true)
    out = out_unclean flash (readers r s.jobs) (writers r s.jobs) region (k.sound.regions r) one.was_out

    there : r < length s.regions
    there = in_range s.regions r out.0

-- a region whose page was written is as clean as before
pub settled_clean : (flash : FlashConfig) (stage : Stage) (region : Region) → is_clean region.status ≡ false → is_clean (settled flash stage region).status ≡ is_clean region.status
settled_clean flash stages.More region h = refl
settled_clean flash stages.Last region h = sym h
settled_clean flash stages.Early region h = refl

-- ---- what the fields hold then

pub more_is : (flash : FlashConfig) (number r : ℕ) (s : Block) (regions : List Region) (jobs : List Job) (order : Order) → regions ≡ set s.regions r (settled flash stages.More (region_at r s.regions))
    → jobs ≡ job_added number (Writing r (next_page flash (page_done flash (region_at r s.regions)))) (without_job number s.jobs) → order ≡ Write (page_no flash r ((region_at r s.regions).written + 1)) (next_page flash (page_done flash (region_at r s.regions)))
    → settled_by flash number r stages.More (end_job number s) ≡ record { state = record s { regions = regions; jobs = jobs }; outcome = nothing; order = Some order }
more_is flash number r s regions jobs order rs js o = rw (rs, js, o) refl

pub settled_in_is : (flash : FlashConfig) (number r : ℕ) (stage : Stage) (s : Block) (regions : List Region) (flushed : List ℕ) (jobs : List Job) → regions ≡ set s.regions r (settled flash stage (region_at r s.regions))
    → flushed ≡ flushed_at stage r s.flushed → jobs ≡ without_job number s.jobs → settled_in flash r stage (end_job number s) ≡ record s { regions = regions; flushed = flushed; jobs = jobs }
settled_in_is flash number r stage s regions flushed jobs rs fs js = rw (rs, fs, js) refl

pub settled_done : (flash : FlashConfig) (number r : ℕ) (stage : Stage) (s t : Block) (outcome : Outcome) → stage_of flash (region_at r s.regions) ≡ stage → settled_by flash number r stage s ≡ finished t outcome
    → wrote_page flash number r (region_at r s.regions).status s ≡ finished t outcome
settled_done flash number r stage s t outcome e h = settled_is flash number r s ∙ ap (λ st. settled_by flash number r st s) e ∙ h
