-- Whose orders are out, and in which order a region that ends loses what leads into it.
use Rattle.std.proofs.Common.{◌≡◌, ℕ, ◌+◌, ◌<◌, ◌≤◌, ◌==◌, Bool, true, false, List, Some, refl, sym, arith, ◌∙◌}
use Rattle.std.proofs.lemmas.Bool.{eqb-true}
use Rattle.std.specs.Prelude.{if◌then◌else◌}
use Rattle.hc_types.specs.declared.config.FlashConfig.{FlashConfig}
use Rattle.hc_engines.specs.large.Region.{is_clean, region_at}
use Rattle.hc_engines.specs.large.Block.{Block, Writing, Getting, work_of, without_job}
use Rattle.hc_engines.specs.large.Sound.{Sound, writes, writers, is_out}
use Rattle.hc_engines.specs.large.Steady.{WritesStandAlone, RegionsHaveOneWriter, ReadsHoldRegions, DrainingIsPinned, LossesAreInOrder}
use Rattle.hc_engines.proofs.large.Regions.{lowest_is}
use Rattle.hc_engines.proofs.large.Jobs.{without_other, writer_counted, ended_left, work_holds}
use Rattle.hc_engines.proofs.large.Lists.{same_num}
use Rattle.hc_engines.proofs.large.Flushes.{not_both, written_ending}
use Rattle.hc_engines.proofs.large.Fitting.{page_apart}
use Rattle.hc_engines.proofs.large.GetStays.{read_unclean}
use Rattle.hc_engines.proofs.large.Orders.{in_order}

pub writes_alone : WritesStandAlone
writes_alone flash pages s n m r bytes reading g w v e =
    let out = written_ending flash n r bytes s g.sound w in
    let read = work_holds flash s.regions m (Getting reading) s.jobs g.sound.works v in
    let apart = page_apart flash reading.place.region r reading.next (region_at r s.regions).written (omega (arith, read.0, read.1, g.fits.within reading.place.region)) out.1 e in
    let below : reading.until ≤ (region_at r s.regions).written = (rw apart.0 at read.1) in
    omega (arith, read.0, apart.1)

-- no two writes are out of one region
pub one_writer : (flash : FlashConfig) (s : Block) (n m r : ℕ) (bytes more : List ℕ) → Sound flash s → work_of n s.jobs ≡ Some (Writing r bytes) → work_of m s.jobs ≡ Some (Writing r more) → n ≡ m
one_writer flash s n m r bytes more sound at there = by (m == n) refl
  where
    counts : (all some : ℕ) (b c : Bool) → b ≡ true → all ≡ (if b then 1 else 0) + some → 0 < some → all ≡ (if c then 1 else 0) → ⊥
    counts all some b c e f g h = grind (arith, e, f, g, h)

    by : (t : Bool) → (m == n) ≡ t → n ≡ m
    by true t = sym (eqb-true m n t)
    by false t =
        let left = ended_left flash n (Writing r bytes) s sound at in
        let other = writer_counted m r more (without_job n s.jobs) (without_other n m s.jobs t ∙ there) in
        absurd (counts (writers r s.jobs) (writers r (without_job n s.jobs)) (writes r (Writing r bytes)) (is_out (region_at r s.regions)) (same_num r) (left.writers_then r) other (sound.regions r).out)

pub regions_have_one_writer : RegionsHaveOneWriter
regions_have_one_writer flash pages s n m r bytes more g at there = one_writer flash s n m r bytes more g.sound at there

pub reads_hold : ReadsHoldRegions
reads_hold flash pages s n r reading g w e same =
    let low = lowest_is s.regions 0 r e in
    let here : low.0 ≡ reading.place.region = omega (arith, low.1) in
    not_both (is_clean (region_at reading.place.region s.regions).status) (rw here at low.2.clean) (read_unclean flash n reading s g.sound w)

pub draining_pinned : DrainingIsPinned
draining_pinned flash pages s r g d = (g.sound.regions r).drains d

pub losses_in_order : LossesAreInOrder
losses_in_order flash pages s r g = in_order r 0 _ (region_at r s.regions).appended s.index s.index (λ h p e. e) (g.sound.regions r).rising
