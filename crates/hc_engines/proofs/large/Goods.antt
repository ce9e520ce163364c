-- Each step keeps the invariant.
use Rattle.std.proofs.Common.{◌≡◌, ℕ, ◌+◌, ◌<◌, Bool, true, false, List, [], ◌∷◌, length, set, Option, refl, sym, subst, arith, append-nil}
use Rattle.std.proofs.lemmas.Bool.{eqb-true}
use Rattle.std.specs.Prelude.{if◌then◌else◌, ◌==◌}
use Rattle.hc_types.specs.declared.config.FlashConfig.{FlashConfig}
use Rattle.hc_engines.specs.large.Region.{Region, region_at, page_no}
use Rattle.hc_engines.specs.large.Block.{Reading, Work, Writing, Getting, Job, Block}
use Rattle.hc_engines.specs.large.Held.{bytes_of}
use Rattle.hc_engines.specs.large.Sound.{is_live, reads, readers, WorkHolds, AllHold}
use Rattle.hc_engines.specs.large.Fits.{ReadHolds, WorkReads, ReadsHold}
use Rattle.hc_engines.proofs.large.Lists.{region_at-set}
use Rattle.hc_engines.proofs.large.Fitting.{Grows, pages_same}
use Rattle.hc_engines.proofs.large.Promise.{read_stays}

-- ---- reads under way, where one region changes

pub record Others (flash : FlashConfig) (pages new_pages : ℕ → Option (List ℕ)) (r : ℕ) (x : Region) (s new : Block) (some : Type 0) : Type 0 where
  pub there : r < length s.regions
  pub regions : new.regions ≡ set s.regions r x
  pub same : (q i : ℕ) → i < (region_at q s.regions).written → new_pages (page_no flash q i) ≡ pages (page_no flash q i)
  pub grows : some → is_live x.status ≡ true → (is_live (region_at r s.regions).status ≡ true) × Grows flash pages new_pages s new r

one_stays : (flash : FlashConfig) (pages new_pages : ℕ → Option (List ℕ)) (r : ℕ) (x : Region) (s new : Block) (some : Type 0) (reading : Reading) → Others flash pages new_pages r x s new some → ((reading.place.region == r) ≡ true → some)
    → WorkHolds flash s.regions (Getting reading) → ReadHolds flash pages s reading → ReadHolds flash new_pages new reading
one_stays flash pages new_pages r x s new some reading o it w h =
    read_stays flash pages new_pages s new reading h (omega (arith, w.0)) (λ i lt. o.same reading.place.region i (omega (arith, w.1))) (λ live. go (reading.place.region == r) refl live)
  where
    q : ℕ
    q = reading.place.region

    go : (t : Bool) → (q == r) ≡ t → is_live (region_at q new.regions).status ≡ true → (is_live (region_at q s.regions).status ≡ true) × Grows flash pages new_pages s new q
    go true t live =
        let same : q ≡ r = eqb-true q r t in
        let l : is_live x.status ≡ true = (rw (o.regions, region_at-set s.regions r q x o.there, t) at live) in
        subst (λ (z : ℕ). (is_live (region_at z s.regions).status ≡ true) × Grows flash pages new_pages s new z) (sym same) (o.grows (it t) l)
    go false t live =
        let here : region_at q new.regions ≡ region_at q s.regions = (rw (o.regions, region_at-set s.regions r q x o.there, t) refl) in (
          (rw here at live),
          record {
            more = [];
            grown = (rw (here, pages_same flash pages new_pages q (region_at q s.regions).written (λ i l. o.same q i l)) (sym (append-nil (bytes_of flash pages s q))));
          },
        )

some_reads : (r : ℕ) (work : Work) (n : ℕ) → reads r work ≡ true → 0 < (if reads r work then 1 else 0) + n
some_reads r work n h = rw h (omega arith)

more_reads : (b : Bool) (n : ℕ) → 0 < n → 0 < (if b then 1 else 0) + n
more_reads true n h = omega arith
more_reads false n h = omega arith

pub reads_stay : (flash : FlashConfig) (pages new_pages : ℕ → Option (List ℕ)) (r : ℕ) (x : Region) (s new : Block) (jobs : List Job) → Others flash pages new_pages r x s new (0 < readers r jobs) → AllHold flash s.regions jobs → ReadsHold flash pages s jobs → ReadsHold flash new_pages new jobs
reads_stay flash pages new_pages r x s new [] o a h = tt
reads_stay flash pages new_pages r x s new (job ∷ jobs) o a h =
    (first job.work (λ n. n) a.0 h.0, reads_stay flash pages new_pages r x s new jobs (record { there = o.there; regions = o.regions; same = o.same; grows = λ some. o.grows (more_reads (reads r job.work) (readers r jobs) some) }) a.1 h.1)
  where
    first : (work : Work) → ((reads r work ≡ true) → (reads r job.work ≡ true)) → WorkHolds flash s.regions work → WorkReads flash pages s work → WorkReads flash new_pages new work
    first (Writing q bytes) f b k = tt
    first (Getting reading) f b k = one_stays flash pages new_pages r x s new (0 < readers r (job ∷ jobs)) reading o (λ t. some_reads r job.work (readers r jobs) (f t)) b k
