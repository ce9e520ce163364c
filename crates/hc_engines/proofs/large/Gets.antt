-- Gets, by the books: reads begin, go on, end and fail, and their regions are let go.
use Rattle.std.proofs.Common.{◌≡◌, ℕ, ◌+◌, Bool, true, false, Some, refl, sym, arith, ◌∙◌}
use Rattle.std.proofs.lemmas.Bool.{eqb-true}
use Rattle.std.specs.Prelude.{◌==◌}
use Rattle.hc_types.specs.declared.config.FlashConfig.{FlashConfig}
use Rattle.hc_engines.specs.large.Region.{is_clean, Region, region_at}
use Rattle.hc_engines.specs.large.Block.{Reading, Getting, Block, work_of, without_job}
use Rattle.hc_engines.specs.large.Sound.{writers, readers, Holds, Sound}
use Rattle.hc_engines.proofs.large.Jobs.{Left, ended_left}
use Rattle.hc_engines.proofs.large.Flushes.{one_more, not_more, not_both}

-- ---- a region is pinned, and a read of it begins

pub pinned_holds : (flash : FlashConfig) (rs ws : ℕ) (region : Region) → is_clean region.status ≡ false → Holds flash rs ws region → Holds flash (1 + rs) ws (record region { pins = region.pins + 1 })
pinned_holds flash rs ws region u h = record {
  blank = λ c. absurd (not_both (is_clean region.status) c u);
  bare = h.bare;
  rising = h.rising;
  pinned = omega (arith, h.pinned);
  drains = λ d. omega arith;
  out = h.out;
  unwritten = h.unwritten;
  early = λ e. let was = h.early e in record { waiting = was.waiting; full = was.full; not_last = was.not_last };
}

-- ---- a region is let go

pub is-one : (n : ℕ) → (n == 1) ≡ true → n ≡ 1
is-one n h = eqb-true n 1 h

-- the region is read by one more than by the others
pub record Pinned (flash : FlashConfig) (number : ℕ) (reading : Reading) (s : Block) : Type 0 where
  pub left : Left flash number (Getting reading) s (without_job number s.jobs)
  pub pins : (region_at reading.place.region s.regions).pins ≡ 1 + readers reading.place.region (without_job number s.jobs)
  pub unclean : is_clean (region_at reading.place.region s.regions).status ≡ false
  pub writers_kept : (q : ℕ) → writers q (without_job number s.jobs) ≡ writers q s.jobs
  pub others : (q : ℕ) → (q == reading.place.region) ≡ false → readers q (without_job number s.jobs) ≡ readers q s.jobs

pub pinned_by : (flash : FlashConfig) (number : ℕ) (reading : Reading) (s : Block) → Sound flash s → work_of number s.jobs ≡ Some (Getting reading) → Pinned flash number reading s
pinned_by flash number reading s sound w = record {
  left = l;
  pins = pins;
  unclean = unclean (is_clean (region_at r s.regions).status) refl;
  writers_kept = λ q. omega (arith, l.writers_then q);
  others = λ q n. sym (l.readers_then q ∙ not_more r q (readers q (without_job number s.jobs)) n);
}
  where
    r : ℕ
    r = reading.place.region

    l : Left flash number (Getting reading) s (without_job number s.jobs)
    l = ended_left flash number (Getting reading) s sound w

    pins : (region_at r s.regions).pins ≡ 1 + readers r (without_job number s.jobs)
    pins = (sound.regions r).pinned ∙ l.readers_then r ∙ one_more r (readers r (without_job number s.jobs))

    unclean : (t : Bool) → is_clean (region_at r s.regions).status ≡ t → is_clean (region_at r s.regions).status ≡ false
    unclean true t = let blank = (sound.regions r).blank t in let none : (region_at r s.regions).pins ≡ 0 = (rw blank refl) in absurd (omega (arith, pins))
    unclean false t = t
