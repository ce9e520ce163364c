-- Notes that tell nothing of regions keep the invariant.
use Rattle.std.proofs.Common.{◌≡◌, ℕ, ◌<◌, Bool, true, false, List, [], ◌∷◌, Option, refl, sym, arith, append-nil}
use Rattle.std.proofs.lemmas.Bool.{eqb-true}
use Rattle.std.specs.Prelude.{◌==◌}
use Rattle.hc_types.specs.declared.config.FlashConfig.{FlashConfig}
use Rattle.hc_engines.specs.large.Region.{region_at, page_no}
use Rattle.hc_engines.specs.large.Block.{Work, Writing, Getting, Job, Block}
use Rattle.hc_engines.specs.large.Held.{bytes_of}
use Rattle.hc_engines.specs.large.Sound.{AllHold, WorkHolds}
use Rattle.hc_engines.specs.large.Fits.{WorkReads, ReadsHold}
use Rattle.hc_engines.proofs.large.Fitting.{Grows, pages_same, still_holds}
use Rattle.hc_engines.proofs.large.Promise.{read_stays}
use Rattle.hc_engines.proofs.large.Stays.{Rest}

-- pages of regions are as they were
pub rest_pages : (flash : FlashConfig) (pages new_pages : ℕ → Option (List ℕ)) (s : Block) → ((q i : ℕ) → new_pages (page_no flash q i) ≡ pages (page_no flash q i)) → AllHold flash s.regions s.jobs → Rest flash pages s → Rest flash new_pages s
rest_pages flash pages new_pages s same works rest = record {
  fits = record {
    known = λ r i u l. rw (same r i) (rest.fits.known r i u l);
    within = rest.fits.within;
    places = λ h p e. still_holds flash pages new_pages s s h p (as_was p.region) (rest.fits.places h p e);
  };
  reads = all s.jobs works rest.reads;
}
  where
    as_was : (q : ℕ) → Grows flash pages new_pages s s q
    as_was q = record { more = []; grown = (rw (pages_same flash pages new_pages q (region_at q s.regions).written (λ i l. same q i)) (sym (append-nil (bytes_of flash pages s q)))) }

    one : (work : Work) → WorkHolds flash s.regions work → WorkReads flash pages s work → WorkReads flash new_pages s work
    one (Writing r bytes) w h = tt
    one (Getting reading) w h = read_stays flash pages new_pages s s reading h (omega (arith, w.0)) (λ i l. same reading.place.region i) (λ live. (live, as_was reading.place.region))

    all : (jobs : List Job) → AllHold flash s.regions jobs → ReadsHold flash pages s jobs → ReadsHold flash new_pages s jobs
    all [] w h = tt
    all (job ∷ jobs) w h = (one job.work w.0 h.0, all jobs w.1 h.1)

-- a bucket's page is no region's
pub bucket_page : (flash : FlashConfig) (page q i : ℕ) → page < flash.buckets → (page == page_no flash q i) ≡ false
bucket_page flash page q i lt = go (page == page_no flash q i) refl
  where
    go : (t : Bool) → (page == page_no flash q i) ≡ t → (page == page_no flash q i) ≡ false
    go true t = let same : page ≡ page_no flash q i = eqb-true page (page_no flash q i) t in absurd (omega arith)
    go false t = t
