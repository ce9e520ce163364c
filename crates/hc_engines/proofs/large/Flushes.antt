-- Flushes and early writes, page by page.
use Rattle.std.proofs.Common.{◌≡◌, ℕ, ◌+◌, ◌*◌, ◌-◌, ◌<◌, ◌≤◌, Bool, true, false, List, [], ◌∷◌, length, Some, refl, sym, arith, ◌∙◌}
use Rattle.std.proofs.lemmas.Bool.{eqb-true, ltb-true, le-ltb}
use Rattle.std.proofs.lemmas.List.{length-drop}
use Rattle.std.proofs.lemmas.Grind.{common_steps}
use Rattle.std.specs.Prelude.{if◌then◌else◌, ◌==◌, ◌&&◌, not, nat_lt, nat_le}
use Rattle.hc_types.specs.declared.config.FlashConfig.{FlashConfig}
use Rattle.hc_types.specs.Tally.{count}
use Rattle.hc_engines.specs.large.Region.{Status, Clean, Open, Sealed, Flushing, OnFlash, Draining, is_clean, is_draining, Region, filled_to, next_page, page_done, can_go, region_at, page_no}
use Rattle.hc_engines.specs.large.Block.{Writing, Job, Block, work_of, without_job, end_job}
use Rattle.hc_engines.specs.large.Steps.{first_ready}
use Rattle.hc_engines.specs.large.Numbers.{is_in}
use Rattle.hc_engines.specs.large.Sound.{IsRising, is_live, is_out, is_flushing, is_filling, is_waiting, writers, readers, EarlyHolds, Holds, Sound}
use Rattle.hc_engines.proofs.large.Lists.{rising_further, same_num}
use Rattle.hc_engines.proofs.large.Ends.{Ending}
use Rattle.hc_engines.proofs.large.Jobs.{Left, ended_left}

-- ---- a region whose status changes, or none

pub status_kept : (P : Status → Type 0) (regions : List Region) (r : ℕ) (x : Region) (q : ℕ) → (P (region_at r regions).status → P x.status) → P (region_at q regions).status → P (if q == r then x else region_at q regions).status
status_kept P regions r x q f h = go (q == r) refl
  where
    go : (t : Bool) → (q == r) ≡ t → P (if t then x else region_at q regions).status
    go true t = let same : q ≡ r = eqb-true q r t in f (rw same at h)
    go false t = h

pub status_other : (P : Status → Type 0) (regions : List Region) (r : ℕ) (x : Region) (q : ℕ) → (q == r) ≡ false → P (region_at q regions).status → P (if q == r then x else region_at q regions).status
status_other P regions r x q n h = rw n h

-- ---- a page goes out

-- a region that isn't out yet
pub record Goes (flash : FlashConfig) (number r : ℕ) (x : Region) (s : Block) : Type 0 where
  pub idle : is_out (region_at r s.regions) ≡ false
  pub there : r < length s.regions
  pub goes : is_out x ≡ true
  pub written : x.written ≡ (region_at r s.regions).written
  pub buffer : x.buffer ≡ (region_at r s.regions).buffer
  pub appended : x.appended ≡ (region_at r s.regions).appended
  pub pins : x.pins ≡ (region_at r s.regions).pins
  pub live : is_live x.status ≡ true
  pub filling : is_filling x.status ≡ true
  pub unwritten : x.written < flash.region_pages
  pub early : x.early ≡ true → EarlyHolds flash x
  pub free : count (λ (job : Job). job.number == number) s.jobs ≡ 0

pub live_unclean : (status : Status) → is_live status ≡ true → is_clean status ≡ false
live_unclean Clean h = absurd (cc)
live_unclean Open h = refl
live_unclean Sealed h = refl
live_unclean Flushing h = refl
live_unclean OnFlash h = refl
live_unclean Draining h = absurd (cc)

pub live_undrained : (status : Status) → is_live status ≡ true → is_draining status ≡ false
live_undrained Clean h = absurd (cc)
live_undrained Open h = refl
live_undrained Sealed h = refl
live_undrained Flushing h = refl
live_undrained OnFlash h = refl
live_undrained Draining h = absurd (cc)

pub not_both : (b : Bool) → b ≡ true → b ≡ false → ⊥
not_both b t f = absurd (cc)

pub out_holds : (flash : FlashConfig) (number r : ℕ) (x : Region) (s : Block) → Sound flash s → Goes flash number r x s
    → Holds flash (readers r s.jobs) (1 + writers r s.jobs) x
out_holds flash number r x s sound g = record {
  blank = λ c. absurd (not_both (is_clean x.status) c (live_unclean x.status g.live));
  bare = λ c. absurd (not_both (is_live x.status) g.live c);
  rising = (rw (g.appended, g.written, g.buffer) (sound.regions r).rising);
  pinned = g.pins ∙ (sound.regions r).pinned;
  drains = λ c. absurd (not_both (is_draining x.status) c (live_undrained x.status g.live));
  out = rw g.goes (let none : writers r s.jobs ≡ 0 = (sound.regions r).out ∙ (rw g.idle refl) in omega arith);
  unwritten = λ c. g.unwritten;
  early = g.early;
}

pub next_page_eq : (flash : FlashConfig) (x y : Region) → x.buffer ≡ y.buffer → next_page flash x ≡ next_page flash y
next_page_eq flash x y e = rw e refl

pub one_more : (r : ℕ) (n : ℕ) → (if r == r then 1 else 0) + n ≡ 1 + n
one_more r n = rw (same_num r) refl

pub not_more : (r q : ℕ) (n : ℕ) → (q == r) ≡ false → (if r == q then 1 else 0) + n ≡ n
not_more r q n h = let o : (r == q) ≡ false = (grind (arith, h)) in rw o (omega arith)

-- ---- flush

pub record IsReady (regions : List Region) (sealed : List ℕ) (r : ℕ) : Type 0 where
  pub there : is_in r sealed ≡ true
  pub still : (region_at r regions).early ≡ false

pub ready_is : (regions : List Region) (sealed : List ℕ) (r : ℕ) → first_ready regions sealed ≡ Some r → IsReady regions sealed r
ready_is regions [] r e = absurd (cc)
ready_is regions (y ∷ ys) r e = go (region_at y regions).early refl e (λ f. ready_is regions ys r f)
  where
    go : (t : Bool) → (region_at y regions).early ≡ t → (if t then first_ready regions ys else Some y) ≡ Some r → (first_ready regions ys ≡ Some r → IsReady regions ys r) → IsReady regions (y ∷ ys) r
    go true t e f = let m = f e in record { there = let h = m.there in grind arith; still = m.still }
    go false t e f = let same : y ≡ r = cc in record { there = rw same (grind (arith, same_num r)); still = (rw same at t) }

pub record CanGo (flash : FlashConfig) (region : Region) : Type 0 where
  pub still : region.early ≡ false
  pub full : flash.page ≤ length region.buffer
  pub not_last : region.written + 1 < flash.region_pages

pub can_go_is : (flash : FlashConfig) (region : Region) → can_go flash region ≡ true → CanGo flash region
can_go_is flash region h = go region.early refl (nat_le flash.page (length region.buffer)) refl (nat_lt (region.written + 1) flash.region_pages) refl h
  where
    go : (a : Bool) → region.early ≡ a → (b : Bool) → nat_le flash.page (length region.buffer) ≡ b → (c : Bool) → nat_lt (region.written + 1) flash.region_pages ≡ c → (not a && b && c) ≡ true → CanGo flash region
    go true a b e c f h = absurd (cc)
    go false a false e c f h = absurd (cc)
    go false a true e false f h = absurd (cc)
    go false a true e true f h = record { still = a; full = grind (arith, common_steps); not_last = ltb-true (region.written + 1) flash.region_pages f }

-- ---- a page was written

pub step_mul : (w p : ℕ) → (w + 1) * p ≡ w * p + p
step_mul w p = omega arith

-- what was appended stays below the filling
pub further : (flash : FlashConfig) (region : Region) → IsRising 0 region.appended (filled_to flash region) → IsRising 0 region.appended (filled_to flash (page_done flash region))
further flash region h = rising_further 0 (filled_to flash region) (filled_to flash (page_done flash region)) region.appended (omega (arith, length-drop flash.page region.buffer, step_mul region.written flash.page)) h

-- the write that ended was the only one of its region
pub record Wrote1 (flash : FlashConfig) (number r : ℕ) (bytes : List ℕ) (s : Block) : Type 0 where
  pub left : Left flash number (Writing r bytes) s (without_job number s.jobs)
  pub was_out : is_out (region_at r s.regions) ≡ true
  pub idle : writers r (without_job number s.jobs) ≡ 0
  pub readers_kept : (q : ℕ) → readers q (without_job number s.jobs) ≡ readers q s.jobs
  pub others : (q : ℕ) → (q == r) ≡ false → writers q (without_job number s.jobs) ≡ writers q s.jobs

pub wrote_one : (flash : FlashConfig) (number r : ℕ) (bytes : List ℕ) (s : Block) → Sound flash s → work_of number s.jobs ≡ Some (Writing r bytes) → Wrote1 flash number r bytes s
wrote_one flash number r bytes s sound w =
    let l = ended_left flash number (Writing r bytes) s sound w in
    let mine : writers r s.jobs ≡ 1 + writers r (without_job number s.jobs) = l.writers_then r ∙ one_more r (writers r (without_job number s.jobs)) in
    let two = out_is (is_out (region_at r s.regions)) (writers r (without_job number s.jobs)) (sym mine ∙ (sound.regions r).out) in
    record {
      left = l;
      was_out = two.0;
      idle = two.1;
      readers_kept = λ q. let e = l.readers_then q in omega arith;
      others = λ q n. let e = l.writers_then q ∙ not_more r q (writers q (without_job number s.jobs)) n in sym e;
    }
  where
    out_is : (b : Bool) (n : ℕ) → 1 + n ≡ (if b then 1 else 0) → (b ≡ true) × (n ≡ 0)
    out_is true n e = (refl, omega arith)
    out_is false n e = absurd (omega arith)

pub unearly : (flash : FlashConfig) (rs ws : ℕ) (region : Region) → Holds flash rs ws region → is_waiting region.status ≡ false → region.early ≡ false
unearly flash rs ws region h n = go region.early refl
  where
    go : (t : Bool) → region.early ≡ t → region.early ≡ false
    go true t = absurd (not_both (is_waiting region.status) (h.early t).waiting n)
    go false t = t

abbrev pub page_of : FlashConfig → ℕ → Block → ℕ
page_of flash r s = page_no flash r (region_at r s.regions).written

-- ---- a write failed

pub sub_add : (b n : ℕ) → (b + n) - b ≡ n
sub_add b n = omega arith

not_below : (b n : ℕ) → nat_lt (b + n) b ≡ false
not_below b n = le-ltb (b + n) b (omega arith)

pub out_unclean : (flash : FlashConfig) (rs ws : ℕ) (region : Region) → Holds flash rs ws region → is_out region ≡ true → (is_clean region.status ≡ false) × (is_filling region.status ≡ true)
out_unclean flash rs ws region h o = go region.status refl
  where
    early : (status : Status) → region.status ≡ status → is_flushing status ≡ false → (t : Bool) → region.early ≡ t → is_waiting status ≡ true
    early status e n true t = (rw e at (h.early t).waiting)
    early status e n false t = absurd (not_both (is_out region) o (rw (e, n, t) refl))

    go : (status : Status) → region.status ≡ status → (is_clean region.status ≡ false) × (is_filling region.status ≡ true)
    go Clean e = absurd (let k : is_waiting Clean ≡ true = early Clean e refl region.early refl in cc)
    go Open e = (rw e refl, rw e refl)
    go Sealed e = (rw e refl, rw e refl)
    go Flushing e = (rw e refl, rw e refl)
    go OnFlash e = absurd (let k : is_waiting OnFlash ≡ true = early OnFlash e refl region.early refl in cc)
    go Draining e = absurd (let k : is_waiting Draining ≡ true = early Draining e refl region.early refl in cc)

pub written_ending : (flash : FlashConfig) (number r : ℕ) (bytes : List ℕ) (s : Block) → Sound flash s → work_of number s.jobs ≡ Some (Writing r bytes) → Ending flash r (end_job number s) × ((region_at r s.regions).written < flash.region_pages)
written_ending flash number r bytes s sound at = (
  record {
    unclean = out.0;
    idle = w.idle;
    pinned = (sound.regions r).pinned ∙ sym (w.readers_kept r);
    current = sound.current;
    sealed = sound.sealed;
    flushed = sound.flushed;
    listed = sound.listed;
    others = λ q n. rw (w.readers_kept q, w.others q n) (sound.regions q);
    works = w.left.works;
    single = w.left.single;
  },
  (sound.regions r).unwritten out.1,
)
  where
    w : Wrote1 flash number r bytes s
    w = wrote_one flash number r bytes s sound at

    out : (is_clean (region_at r s.regions).status ≡ false) × (is_filling (region_at r s.regions).status ≡ true)
    out = out_unclean flash (readers r s.jobs) (writers r s.jobs) (region_at r s.regions) (sound.regions r) w.was_out
