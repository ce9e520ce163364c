-- Where nothing is reclaimed, enough regions are clean, or each that is flushed drains: nothing is filed there, and a read holds it.
use Rattle.std.proofs.Common.{◌≡◌, ◌⊎◌, inl, inr, ℕ, ◌+◌, ◌<◌, ◌≤◌, ◌==◌, nat_lt, Bool, true, false, not, ◌&&◌, ◌||◌, List, [], ◌∷◌, Option, Some, None, refl, ap, sym, ◌∙◌, subst, arith}
use Rattle.std.specs.Prelude.{if◌then◌else◌}
use Rattle.std.specs.List.{list_all}
use Rattle.std.proofs.lemmas.Bool.{eqb-true, eq-eqb}
use Rattle.hc_types.specs.Tally.{count}
use Rattle.hc_types.specs.Places.{is_page_of}
use Rattle.hc_types.specs.declared.config.FlashConfig.{FlashConfig}
use Rattle.hc_engines.specs.Engine.{Order, Read, Pages}
use Rattle.hc_engines.specs.large.Block as block
use Rattle.hc_engines.specs.large.Block.{Work, Reading, Writing, Getting}
use Rattle.hc_engines.specs.large.Region.{Region, Status, Clean, Open, Sealed, Flushing, OnFlash, Draining, is_draining, region_at, page_no}
use Rattle.hc_engines.specs.large.Index.{Place, place_at}
use Rattle.hc_engines.specs.large.Sound.{reads, readers, is_live, is_listed}
use Rattle.hc_engines.specs.large.Index.{region_in}
use Rattle.hc_engines.specs.large.Numbers.{is_in}
use Rattle.hc_engines.specs.large.Steps as steps
use Rattle.hc_engines.proofs.large.Jobs.{work_holds}
use Rattle.hc_memory.specs.Memory.{Memory}
use Rattle.hc_history.specs.Regions.{Filing, filed, flushed, is_one_of, clean_count}
use Rattle.hc_machine.specs.Nvm.{Nvm, is_number_in}
use Rattle.hc_machine.specs.World.{Result}
use Rattle.hc_invariant.specs.Tells.{files}
use Rattle.hc_invariant.specs.Good.{FlashGood}
use Rattle.hc_proof.proofs.books.RegionsInUse.{used-clean, in-reverse}
use Rattle.hc_proof.proofs.writes.Failing.{page-is}
use Rattle.hc_follows.specs.Desk.{Desk}
use Rattle.hc_follows.specs.Idle.{page_of, is_read, is_being_read, wants_clean, may_drain, is_clean_enough}
use Rattle.hc_theorem.specs.clients.Matches.{JobsMatch}
use Rattle.hc_theorem.proofs.workers.Busy.{any_order, work_with, large_out}
use Rattle.hc_theorem.proofs.workers.Lines.{and_both, all_ones}

-- ---- regions

drains_dead : (status : Status) → is_draining status ≡ true → is_live status ≡ false
drains_dead Clean h = refl
drains_dead Open h = absurd cc
drains_dead Sealed h = absurd cc
drains_dead Flushing h = absurd cc
drains_dead OnFlash h = absurd cc
drains_dead Draining h = refl

all_drain : (regions : List Region) (rs : List ℕ) (r : ℕ) → steps.oldest regions rs ≡ None → is_in r rs ≡ true → is_draining (region_at r regions).status ≡ true
all_drain regions [] r e i = absurd cc
all_drain regions (x ∷ rs) r e i = go (is_draining (region_at x regions).status) refl e (x == r) refl i (all_drain regions rs r)
  where
    go : (t : Bool) → is_draining (region_at x regions).status ≡ t → (if t then steps.oldest regions rs else Some x) ≡ None → (b : Bool) → (x == r) ≡ b → (if b then true else is_in r rs) ≡ true
        → (steps.oldest regions rs ≡ None → is_in r rs ≡ true → is_draining (region_at r regions).status ≡ true) → is_draining (region_at r regions).status ≡ true
    go true t e true b i f = let same : x ≡ r = eqb-true x r b in subst (λ (z : ℕ). is_draining (region_at z regions).status ≡ true) same t
    go true t e false b i f = f e i
    go false t e b q i f = absurd cc

-- ---- reads

record ReadOf (r : ℕ) (jobs : List block.Job) : Type 0 where
  number : ℕ
  reading : Reading
  at : block.work_of number jobs ≡ Some (Getting reading)
  here : reading.place.region ≡ r

read_of : (r : ℕ) (jobs : List block.Job) → ((n : ℕ) → count (λ (job : block.Job). job.number == n) jobs ≤ 1) → 1 ≤ readers r jobs → ReadOf r jobs
read_of r jobs one h = let found = work_with (reads r) jobs one h in go found.number found.work found.at found.passes
  where
    go : (n : ℕ) (work : Work) → block.work_of n jobs ≡ Some work → reads r work ≡ true → ReadOf r jobs
    go n (Writing q bytes) at p = absurd cc
    go n (Getting reading) at p = record { number = n; reading = reading; at = at; here = eqb-true reading.place.region r p }

-- ---- what is filed

none_filed : (r : ℕ) (fs : List Filing) → ((hash : ℕ) → count (files hash r) fs ≡ 0) → count (λ (filing : Filing). filing.region == r) fs ≡ 0
none_filed r [] each = refl
none_filed r (f ∷ fs) each = go (f.region == r) refl (none_filed r fs (λ hash. omega (arith, each hash)))
  where
    go : (t : Bool) → (f.region == r) ≡ t → count (λ (filing : Filing). filing.region == r) fs ≡ 0 → (if t then 1 else 0) + count (λ (filing : Filing). filing.region == r) fs ≡ 0
    go true e rest =
        let own : (f.kept == f.kept) ≡ true = eq-eqb f.kept f.kept refl in
        let its : files f.kept r f ≡ true = (rw (own, e) refl) in
        let one : ◌≡◌ {A = ℕ} (if files f.kept r f then 1 else 0) 1 = ap {B = ℕ} (λ b. if b then 1 else 0) its in
        absurd (omega (arith, each f.kept, one))
    go false e rest = omega (arith, rest)

module _ (flash : FlashConfig) (desk : Desk) (memory : Memory) (nvm : Nvm) (f : FlashGood flash desk.older memory nvm) (rs : List Result) (pages : Pages) (m : JobsMatch desk.jobs desk.pages nvm.jobs rs pages) where
  pub clean_same : clean_count flash desk.older ≡ steps.clean_count nvm.pair.large.regions
  clean_same = omega (arith, f.engines.regions.used_number, used-clean nvm.pair.large.regions, f.engines.regions.number)

  pub flushed_in : (r : ℕ) → is_in r nvm.pair.large.flushed ≡ is_one_of r (flushed desk.older)
  flushed_in r = ap (is_in r) f.engines.regions.in_order ∙ in-reverse r (flushed desk.older)

  nothing_filed : (r : ℕ) → is_draining (region_at r nvm.pair.large.regions).status ≡ true → count (λ (filing : Filing). filing.region == r) (filed flash desk.older) ≡ 0
  nothing_filed r d = none_filed r (filed flash desk.older) (λ hash. f.engines.regions.filings hash r ∙ ap {B = ℕ} (λ b. if b then 1 else 0) (none hash (place_at hash nvm.pair.large.index) refl))
    where
      none : (hash : ℕ) (o : Option Place) → place_at hash nvm.pair.large.index ≡ o → is_number_in r (region_in (place_at hash nvm.pair.large.index)) ≡ false
      none hash None e = rw e refl
      none hash (Some place) e = rw e (by (place.region == r) refl)
        where
          by : (t : Bool) → (place.region == r) ≡ t → t ≡ false
          by false t = refl
          by true t = absurd (
              let same : place.region ≡ r = eqb-true place.region r t in
              let there = f.engines.large_sound.listed hash place e in
              let bare = (f.engines.large_sound.regions r).bare (drains_dead (region_at r nvm.pair.large.regions).status d) in
              let gone : (region_at place.region nvm.pair.large.regions).appended ≡ [] = ap (λ (q : ℕ). (region_at q nvm.pair.large.regions).appended) same ∙ bare in
              let no : is_listed hash place.offset (region_at place.region nvm.pair.large.regions).appended ≡ false = ap (is_listed hash place.offset) gone in
              cc (there, no)
              )

  being_read : (r : ℕ) → is_draining (region_at r nvm.pair.large.regions).status ≡ true → is_being_read flash desk.jobs r ≡ true
  being_read r d =
      let s = nvm.pair.large in
      let h = f.engines.large_sound.regions r in
      let read = read_of r s.jobs f.engines.large_sound.single (omega (arith, h.drains d, h.pinned)) in
      let out = large_out nvm read.number (Getting read.reading) f.jobs read.at in
      let works = work_holds flash s.regions read.number (Getting read.reading) s.jobs f.engines.large_sound.works read.at in
      let low : read.reading.next < flash.region_pages = omega (arith, works.0, works.1, f.engines.large_fits.within read.reading.place.region) in
      let order : out.job.order ≡ Read (page_no flash r read.reading.next) = out.order_is ∙ (λ i. Read (page_no (f.engines.same i) (read.here i) read.reading.next)) in
      let own : is_page_of flash r (page_no flash r read.reading.next) ≡ true = page-is flash r r read.reading.next low ∙ eq-eqb r r refl in
      any_order desk.jobs desk.pages nvm.jobs rs pages read.number out.job (λ (o : Order). is_read o && is_page_of flash r (page_of o)) m out.at (ap (λ (o : Order). is_read o && is_page_of flash r (page_of o)) order ∙ own)

  drains_one : steps.oldest nvm.pair.large.regions nvm.pair.large.flushed ≡ None → (r : ℕ) → is_one_of r (flushed desk.older) ≡ true → may_drain flash desk r ≡ true
  drains_one none r h =
      let d = all_drain nvm.pair.large.regions nvm.pair.large.flushed r none (flushed_in r ∙ h) in
      and_both (count (λ (filing : Filing). filing.region == r) (filed flash desk.older) == 0) (is_being_read flash desk.jobs r) (eq-eqb (count (λ (filing : Filing). filing.region == r) (filed flash desk.older)) 0 (nothing_filed r d)) (being_read r d)

  pub reclaim_line : (nat_lt (steps.clean_count nvm.pair.large.regions) nvm.pair.small.flash.clean ≡ false) ⊎ (steps.oldest nvm.pair.large.regions nvm.pair.large.flushed ≡ None) → is_clean_enough (Some flash) desk ≡ true
  reclaim_line (inl enough) = let w : wants_clean (Some flash) desk.older ≡ false = (λ i. nat_lt (clean_same i) (sym f.engines.same i).clean) ∙ enough in rw w refl
  reclaim_line (inr none) = last (wants_clean (Some flash) desk.older) (list_all (may_drain flash desk) (flushed desk.older)) (all_ones (may_drain flash desk) (flushed desk.older) (drains_one none))
    where
      last : (a b : Bool) → b ≡ true → (not a || b) ≡ true
      last true b h = h
      last false b h = refl
