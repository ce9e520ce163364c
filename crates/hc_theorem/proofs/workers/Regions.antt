-- At an idle take of the writer, no region in use has anything to write, by the notes and the orders that are out.
use Rattle.std.proofs.Common.{◌≡◌, ℕ, ◌+◌, ◌<◌, Bool, true, false, not, ◌&&◌, ◌||◌, List, Some, refl, ap, sym, ◌∙◌, arith}
use Rattle.std.specs.Prelude.{if◌then◌else◌}
use Rattle.std.specs.List.{list_all}
use Rattle.std.proofs.lemmas.Bool.{eqb-true, eq-eqb, or_left, or_right}
use Rattle.hc_types.specs.Places.{is_page_of}
use Rattle.hc_types.specs.declared.config.FlashConfig.{FlashConfig}
use Rattle.hc_engines.specs.Engine.{Order, Write, Pages}
use Rattle.hc_engines.specs.large.Block as block
use Rattle.hc_engines.specs.large.Block.{Block, Work, Writing, Getting}
use Rattle.hc_engines.specs.large.Numbers.{is_in}
use Rattle.hc_engines.specs.large.Region.{Region, Status, Clean, Open, Sealed, Flushing, OnFlash, Draining, can_go, is_clean, region_at, page_no}
use Rattle.hc_engines.specs.large.Sound.{is_out, is_flushing, is_filling, writes}
use Rattle.hc_engines.specs.large.Steps.{flush}
use Rattle.hc_memory.specs.Memory.{Memory}
use Rattle.hc_history.specs.Regions.{in_use, is_one_of, open_region}
use Rattle.hc_machine.specs.Nvm.{Nvm, is_number_in}
use Rattle.hc_machine.specs.World.{Result}
use Rattle.hc_invariant.specs.Good.{FlashGood}
use Rattle.hc_proof.proofs.writes.Failing.{page-is}
use Rattle.hc_follows.specs.Desk.{Desk}
use Rattle.hc_follows.specs.Idle.{page_of, is_read, is_being_written, has_failed, needs_no_write}
use Rattle.hc_theorem.specs.clients.Matches.{JobsMatch}
use Rattle.hc_theorem.specs.idle.Accounted.{Accounted}
use Rattle.hc_theorem.specs.idle.Idling.{NothingToWrite}
use Rattle.hc_engines.specs.large.Listed.{IsListed}
use Rattle.hc_engines.proofs.large.Listed.{flush_misses_none}
use Rattle.hc_theorem.proofs.idle.FullPages.{no_full_page}
use Rattle.hc_theorem.proofs.workers.Busy.{any_order, work_with, large_out}
use Rattle.hc_theorem.proofs.workers.Lines.{and_both, all_ones}
use Rattle.hc_theorem.proofs.workers.Draining.{flushed_in}

module _ (flash : FlashConfig) (desk : Desk) (memory : Memory) (nvm : Nvm) (f : FlashGood flash desk.older memory nvm) (rs : List Result) (pages : Pages) (m : JobsMatch desk.jobs desk.pages nvm.jobs rs pages) (a : Accounted flash desk.older nvm.pair.large)
    (idle : NothingToWrite nvm) where
  abbrev region : ℕ → Region
  region r = region_at r nvm.pair.large.regions

  none_to_write : ((r : ℕ) → (region r).status ≡ Sealed → (region r).early ≡ true) × ((r : ℕ) → (region r).status ≡ Open → can_go flash (region r) ≡ false)
  none_to_write = flush_misses_none flash (nvm.made + 1) nvm.pair.large a.listed (ap (λ (c : FlashConfig). (flush c (nvm.made + 1) nvm.pair.large).order) (sym f.engines.same) ∙ idle.pages)

  -- a write that is out is of a page of its region
  unwritten : (r : ℕ) → is_out (region r) ≡ true → (region r).written < flash.region_pages
  unwritten r h = go (is_flushing (region r).status) refl h
    where
      fills : (status : Status) → is_flushing status ≡ true → is_filling status ≡ true
      fills Clean e = absurd cc
      fills Open e = refl
      fills Sealed e = refl
      fills Flushing e = refl
      fills OnFlash e = absurd cc
      fills Draining e = absurd cc

      go : (t : Bool) → is_flushing (region r).status ≡ t → (t || (region r).early) ≡ true → (region r).written < flash.region_pages
      go true e h = (f.engines.large_sound.regions r).unwritten (fills (region r).status e)
      go false e h = omega (arith, ((f.engines.large_sound.regions r).early h).not_last)

  being_written : (r : ℕ) → is_out (region r) ≡ true → is_being_written flash desk.jobs r ≡ true
  being_written r h =
      let s = nvm.pair.large in
      let sound = f.engines.large_sound.regions r in
      let one : ◌≡◌ {A = ℕ} (if is_out (region r) then 1 else 0) 1 = ap {B = ℕ} (λ b. if b then 1 else 0) h in
      let found = work_with (writes r) s.jobs f.engines.large_sound.single (omega (arith, sound.out, one)) in
      go found.number found.work found.at found.passes
    where
      own : is_page_of flash r (page_no flash r (region r).written) ≡ true
      own = page-is flash r r (region r).written (unwritten r h) ∙ eq-eqb r r refl

      go : (n : ℕ) (work : Work) → block.work_of n nvm.pair.large.jobs ≡ Some work → writes r work ≡ true → is_being_written flash desk.jobs r ≡ true
      go n (Getting reading) at p = absurd cc
      go n (Writing q bytes) at p =
          let out = large_out nvm n (Writing q bytes) f.jobs at in
          let order : out.job.order ≡ Write (page_no flash r (region r).written) bytes = out.order_is ∙ (λ i. Write (page_no (f.engines.same i) (eqb-true q r p i) (region_at (eqb-true q r p i) nvm.pair.large.regions).written) bytes) in
          any_order desk.jobs desk.pages nvm.jobs rs pages n out.job (λ (o : Order). not (is_read o) && is_page_of flash r (page_of o)) m out.at (ap (λ (o : Order). not (is_read o) && is_page_of flash r (page_of o)) order ∙ own)

  -- ---- each region in use

  on_flash : (r : ℕ) → (is_in r nvm.pair.large.flushed || has_failed flash r desk.older) ≡ true → needs_no_write flash desk r ≡ true
  on_flash r h = or_left _ _ (or_left _ _ (ap (λ b. b || has_failed flash r desk.older) (sym (flushed_in flash desk memory nvm f rs pages m r)) ∙ h))

  is_going : (r : ℕ) → is_out (region r) ≡ true → needs_no_write flash desk r ≡ true
  is_going r h = or_left _ _ (or_right _ _ (being_written r h))

  -- the open one has a page out, or no full page
  is_open : (r : ℕ) → nvm.pair.large.current ≡ Some r → can_go flash (region r) ≡ false → needs_no_write flash desk r ≡ true
  is_open r current h = go (region r).early refl
    where
      its : is_number_in r (open_region flash desk.older) ≡ true
      its = ap (is_number_in r) (f.engines.regions.current ∙ current) ∙ eq-eqb r r refl

      go : (t : Bool) → (region r).early ≡ t → needs_no_write flash desk r ≡ true
      go true e = is_going r (or_right _ _ e)
      go false e = or_right _ _ (and_both _ _ its (no_full_page flash desk.older r (region r) h e (a.written r current) (f.engines.regions.filled r current)))

  needs_none : (r : ℕ) → is_one_of r (in_use desk.older) ≡ true → needs_no_write flash desk r ≡ true
  needs_none r h = go (region r).status refl (a.listed r)
    where
      go : (status : Status) → (region r).status ≡ status → IsListed nvm.pair.large r status → needs_no_write flash desk r ≡ true
      go Clean e l = absurd (let used = f.engines.regions.used r in let none : not (is_clean (region r).status) ≡ false = ap (λ (s : Status). not (is_clean s)) e in cc (h, used, none))
      go Open e l = is_open r l (none_to_write.1 r e)
      go Sealed e l = is_going r (or_right _ _ (none_to_write.0 r e))
      go Flushing e l = is_going r (or_left _ _ (ap is_flushing e))
      go OnFlash e l = on_flash r (rw l refl)
      go Draining e l = on_flash r (a.drained r e)

  pub regions_line : list_all (needs_no_write flash desk) (in_use desk.older) ≡ true
  regions_line = all_ones (needs_no_write flash desk) (in_use desk.older) needs_none
