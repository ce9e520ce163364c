-- Each step that writes, ends or fills a region keeps the whole invariant.
use Rattle.std.proofs.Common.{◌≡◌, ℕ, ◌+◌, ◌<◌, Bool, true, false, List, [], ◌∷◌, length, set, Option, Some, None, refl, arith, ◌∙◌}
use Rattle.std.specs.Prelude.{if◌then◌else◌, ◌==◌, nat_lt, nat_le}
use Rattle.hc_types.specs.declared.config.FlashConfig.{FlashConfig}
use Rattle.hc_types.specs.Loss.{Cause, Reclaimed}
use Rattle.hc_types.specs.FlashEntry.{FlashEntry}
use Rattle.hc_engines.specs.large.Entries.{IsLarge, entry_bytes}
use Rattle.hc_engines.specs.large.Region.{Status, Clean, Open, Sealed, Flushing, OnFlash, Draining, is_clean, Region, clean_region, opened_region, filled_to, region_len, next_page, can_go, region_at, lowest_clean}
use Rattle.hc_engines.specs.large.Block.{Work, Writing, Getting, Job, Block, unmoved, without_job, job_added}
use Rattle.hc_engines.specs.large.Steps.{append, seal, sealed_too, open_next, fitting, put_fresh, put_into, put, emptied, end_region, clean_count, oldest, reclaim_of, reclaim, write_out, first_ready, early_of, flush_of, flush}
use Rattle.hc_engines.specs.large.Sound.{is_live, is_filling, AllHold, Sound}
use Rattle.hc_engines.specs.large.Fits.{Fits, WorkReads, ReadsHold}
use Rattle.hc_engines.proofs.large.Lists.{same_num, in_range, region_at-set}
use Rattle.hc_engines.proofs.large.Regions.{IsLowest, lowest_is, oldest_is}
use Rattle.hc_engines.proofs.large.Ends.{Ending}
use Rattle.hc_engines.proofs.large.Reclaims.{oldest_ending}
use Rattle.hc_engines.proofs.large.Puts.{seal_step, seal_sound, open_sound, sealed_clean, seal-length}
use Rattle.hc_engines.proofs.large.Fitting.{same_region, with_entry, appended_grows, append_fits}
use Rattle.hc_engines.proofs.large.FitsSteps.{same_fits, ended_fits, open_fits}
use Rattle.hc_engines.proofs.large.Flushes.{ready_is}
use Rattle.hc_engines.proofs.large.Goods.{reads_stay}
use Rattle.hc_engines.specs.large.Numbers.{minus}

-- what the pages tell of a state: the index leads to entries, and the reads under way are right
pub record Rest (flash : FlashConfig) (pages : ℕ → Option (List ℕ)) (s : Block) : Type 0 where
  pub fits : Fits flash pages s
  pub reads : ReadsHold flash pages s s.jobs

-- ---- a region ends

pub ended_rest : (flash : FlashConfig) (pages : ℕ → Option (List ℕ)) (cause : Cause) (r : ℕ) (s : Block) → Ending flash r s → Rest flash pages s → Rest flash pages (end_region cause r s).state
ended_rest flash pages cause r s e rest = record {
  fits = ended_fits flash pages cause r s rest.fits e;
  reads = reads_stay flash pages pages r (emptied (region_at r s.regions)) s (end_region cause r s).state s.jobs (record {
    there = in_range s.regions r e.unclean;
    regions = refl;
    same = λ q i l. refl;
    grows = λ n live. absurd (dead ((region_at r s.regions).pins == 0) live);
  }) e.works rest.reads;
}
  where
    dead : (t : Bool) → is_live (if t then clean_region else record (region_at r s.regions) { status = Draining; buffer = []; appended = []; early = false }).status ≡ true → ⊥
    dead true h = let k : false ≡ true = h in cc
    dead false h = let k : false ≡ true = h in cc

pub reclaim_rest : (flash : FlashConfig) (pages : ℕ → Option (List ℕ)) (s : Block) → Sound flash s → Rest flash pages s → Rest flash pages (reclaim flash s).state
reclaim_rest flash pages s sound rest = go (nat_lt (clean_count s.regions) flash.clean)
  where
    of : (o : Option ℕ) → oldest s.regions s.flushed ≡ o → Rest flash pages (reclaim_of s o).state
    of None e = rest
    of (Some r) e = let both = ended_rest flash pages (Reclaimed r) r s (oldest_ending flash s r sound (oldest_is s.regions s.flushed r e)).0 rest in record { fits = both.fits; reads = both.reads }

    go : (t : Bool) → Rest flash pages (if t then reclaim_of s (oldest s.regions s.flushed) else unmoved s).state
    go true = of (oldest s.regions s.flushed) refl
    go false = rest

-- ---- put

pub append_rest : (flash : FlashConfig) (pages : ℕ → Option (List ℕ)) (r : ℕ) (entry : FlashEntry) (s : Block) → (region_at r s.regions).status ≡ Open → IsLarge entry → AllHold flash s.regions s.jobs → Rest flash pages s → Rest flash pages (append flash r entry s)
append_rest flash pages r entry s o large works rest = record {
  fits = append_fits flash pages s r entry (rw o refl) large rest.fits;
  reads = reads_stay flash pages pages r (with_entry flash entry (region_at r s.regions)) s (append flash r entry s) s.jobs (record {
    there = in_range s.regions r (rw o refl);
    regions = refl;
    same = λ q i l. refl;
    grows = λ n live. ((rw o refl), appended_grows flash pages s r entry (rw o refl) r);
  }) works rest.reads;
}

pub seal_rest : (flash : FlashConfig) (pages : ℕ → Option (List ℕ)) (s : Block) → Sound flash s → Rest flash pages s → Rest flash pages (seal_step s)
seal_rest flash pages s sound rest = go s.current refl
  where
    go : (o : Option ℕ) → s.current ≡ o → Rest flash pages (record s { regions = seal o s.regions; current = None; sealed = sealed_too o s.sealed })
    go None e = record { fits = record { known = rest.fits.known; within = rest.fits.within; places = λ h p f. let k = rest.fits.places h p f in record { entry = k.entry; read = k.read; own = k.own; within = k.within } }; reads = same_reads s.jobs rest.reads }
      where
        same_reads : (jobs : List Job) → ReadsHold flash pages s jobs → ReadsHold flash pages (record s { regions = s.regions; current = None; sealed = s.sealed }) jobs
        same_reads [] h = tt
        same_reads (job ∷ jobs) h = (one job.work h.0, same_reads jobs h.1)
          where
            one : (work : Work) → WorkReads flash pages s work → WorkReads flash pages (record s { regions = s.regions; current = None; sealed = s.sealed }) work
            one (Writing q bytes) k = tt
            one (Getting reading) k = record { chain = k.chain; begun = k.begun; whole = k.whole }
    go (Some c) e = one c (sound.current c e)
      where
        one : (c : ℕ) → (region_at c s.regions).status ≡ Open → Rest flash pages (record s { regions = seal (Some c) s.regions; current = None; sealed = sealed_too (Some c) s.sealed })
        one c o = record {
          fits = same_fits flash pages c (record (region_at c s.regions) { status = Sealed }) s (record s { regions = seal (Some c) s.regions; current = None; sealed = sealed_too (Some c) s.sealed }) rest.fits (rw o refl) refl refl refl refl;
          reads = reads_stay flash pages pages c (record (region_at c s.regions) { status = Sealed }) s (record s { regions = seal (Some c) s.regions; current = None; sealed = sealed_too (Some c) s.sealed }) s.jobs (record {
            there = in_range s.regions c (rw o refl);
            regions = refl;
            same = λ q i l. refl;
            grows = λ n live. (
              (rw o refl),
              same_region flash pages s (record s { regions = seal (Some c) s.regions; current = None; sealed = sealed_too (Some c) s.sealed }) c
                  (rw (region_at-set s.regions c c (record (region_at c s.regions) { status = Sealed }) (in_range s.regions c (rw o refl)), same_num c) refl)
                  (rw (region_at-set s.regions c c (record (region_at c s.regions) { status = Sealed }) (in_range s.regions c (rw o refl)), same_num c) refl),
            );
          }) sound.works rest.reads;
        }

pub open_rest : (flash : FlashConfig) (pages : ℕ → Option (List ℕ)) (r : ℕ) (s : Block) → Sound flash s → r < length s.regions → is_clean (region_at r s.regions).status ≡ true → Rest flash pages s → Rest flash pages (record s { regions = set s.regions r opened_region; current = Some r })
open_rest flash pages r s sound lt c rest = record {
  fits = open_fits flash pages r s (record s { regions = set s.regions r opened_region; current = Some r }) rest.fits sound lt c refl refl;
  reads = reads_stay flash pages pages r opened_region s (record s { regions = set s.regions r opened_region; current = Some r }) s.jobs (record {
    there = lt;
    regions = refl;
    same = λ q i l. refl;
    grows = λ n live. absurd (let blank = (sound.regions r).blank c in let none : (region_at r s.regions).pins ≡ 0 = (rw blank refl) in omega (arith, (sound.regions r).pinned));
  }) sound.works rest.reads;
}

pub put_rest : (flash : FlashConfig) (pages : ℕ → Option (List ℕ)) (entry : FlashEntry) (s : Block) → 0 < flash.region_pages → IsLarge entry → Sound flash s → Rest flash pages s → Rest flash pages (put flash entry s).state
put_rest flash pages entry s some large sound rest = go (fitting flash s (length (entry_bytes entry)) s.current) refl
  where
    fresh : (o : Option ℕ) → lowest_clean 0 s.regions ≡ o → Rest flash pages (put_fresh flash entry s o).state
    fresh None e = rest
    fresh (Some r) e =
        let low = lowest_is s.regions 0 r e in
        let same : low.0 ≡ r = omega (arith, low.1) in
        let l : IsLowest s.regions r = (rw same at low.2) in
        let there : r < length (seal s.current s.regions) = omega (arith, seal-length s.current s.regions, l.there) in
        let clean : is_clean (region_at r (seal s.current s.regions)).status ≡ true = sealed_clean s r sound.current ∙ l.clean in
        let sealed = seal_sound flash s sound in
        let opened = open_rest flash pages r (seal_step s) sealed there clean (seal_rest flash pages s sound rest) in
        append_rest flash pages r entry (open_next r s) (rw (region_at-set (seal s.current s.regions) r r opened_region there, same_num r) refl) large (open_sound flash r (seal_step s) some there clean sealed).works opened

    in_use : (r : ℕ) (o : Option ℕ) → fitting flash s (length (entry_bytes entry)) o ≡ Some r → o ≡ Some r
    in_use r None e = absurd (cc)
    in_use r (Some c) e = some_c (nat_le (filled_to flash (region_at c s.regions) + length (entry_bytes entry)) (region_len flash)) e
      where
        some_c : (b : Bool) → (if b then Some c else None) ≡ Some r → Some c ≡ Some r
        some_c true e = e
        some_c false e = absurd (cc)

    go : (o : Option ℕ) → fitting flash s (length (entry_bytes entry)) s.current ≡ o → Rest flash pages (put_into flash entry s o).state
    go None e = fresh (lowest_clean 0 s.regions) refl
    go (Some r) e = append_rest flash pages r entry s (sound.current r (in_use r s.current e)) large sound.works rest

-- ---- a page goes out

-- an operation more, which has what it reads
pub reads_added : (flash : FlashConfig) (pages : ℕ → Option (List ℕ)) (s : Block) (number : ℕ) (work : Work) (jobs : List Job) → WorkReads flash pages s work → ReadsHold flash pages s jobs → ReadsHold flash pages s (job_added number work jobs)
reads_added flash pages s number work [] own h = (own, tt)
reads_added flash pages s number work (job ∷ jobs) own h = go (nat_lt job.number number) (reads_added flash pages s number work jobs own h.1)
  where
    go : (t : Bool) → ReadsHold flash pages s (job_added number work jobs) → ReadsHold flash pages s (if t then job ∷ job_added number work jobs else record { number = number; work = work } ∷ job ∷ jobs)
    go true more = (h.0, more)
    go false more = (own, h)

-- a region changes in its status or its flags alone, and another write is out
pub out_rest : (flash : FlashConfig) (pages : ℕ → Option (List ℕ)) (r : ℕ) (x : Region) (s new : Block) (jobs : List Job) → is_live (region_at r s.regions).status ≡ true → is_clean (region_at r s.regions).status ≡ false → new.regions ≡ set s.regions r x → new.index ≡ s.index
    → x.written ≡ (region_at r s.regions).written → x.buffer ≡ (region_at r s.regions).buffer → AllHold flash s.regions jobs → Fits flash pages s → ReadsHold flash pages s jobs → Fits flash pages new × ReadsHold flash pages new jobs
out_rest flash pages r x s new jobs live u er ei w b works fits reads = (
  same_fits flash pages r x s new fits u er ei w b,
  reads_stay flash pages pages r x s new jobs (record {
    there = lt;
    regions = er;
    same = λ q i l. refl;
    grows = λ n l. (live, same_region flash pages s new r (rw (er, region_at-set s.regions r r x lt, same_num r) w) (rw (er, region_at-set s.regions r r x lt, same_num r) b));
  }) works reads,
)
  where
    lt : r < length s.regions
    lt = in_range s.regions r u

pub flush_rest : (flash : FlashConfig) (pages : ℕ → Option (List ℕ)) (number : ℕ) (s : Block) → Sound flash s → Rest flash pages s → Rest flash pages (flush flash number s).state
flush_rest flash pages number s sound rest = go (first_ready s.regions s.sealed) refl
  where
    out : (r : ℕ) (x : Region) (rs : List ℕ) → is_live (region_at r s.regions).status ≡ true → is_clean (region_at r s.regions).status ≡ false → x.written ≡ (region_at r s.regions).written → x.buffer ≡ (region_at r s.regions).buffer → Rest flash pages (write_out flash number r x (record s { sealed = rs })).state
    out r x rs live u w b =
        let both = out_rest flash pages r x s (write_out flash number r x (record s { sealed = rs })).state s.jobs live u refl refl w b sound.works rest.fits rest.reads in
        record { fits = both.0; reads = reads_added flash pages _ number (Writing r (next_page flash x)) s.jobs tt both.1 }

    early_one : (r : ℕ) → s.current ≡ Some r → (t : Bool) → Rest flash pages (if t then write_out flash number r (record (region_at r s.regions) { early = true }) s else unmoved s).state
    early_one r c true = let o = sound.current r c in out r (record (region_at r s.regions) { early = true }) s.sealed (rw o refl) (rw o refl) refl refl
    early_one r c false = rest

    early : (o : Option ℕ) → s.current ≡ o → Rest flash pages (early_of flash number s o).state
    early None c = rest
    early (Some r) c = early_one r c (can_go flash (region_at r s.regions))

    go : (o : Option ℕ) → first_ready s.regions s.sealed ≡ o → Rest flash pages (flush_of flash number s o).state
    go None e = early s.current refl
    go (Some r) e = let o = sound.sealed r (ready_is s.regions s.sealed r e).there in out r (record (region_at r s.regions) { status = Flushing }) (minus r s.sealed) (rw o refl) (rw o refl) refl refl

-- ---- a page was written

-- the operations left have what they had
pub reads_left : (flash : FlashConfig) (pages : ℕ → Option (List ℕ)) (s : Block) (number : ℕ) (jobs : List Job) → ReadsHold flash pages s jobs → ReadsHold flash pages s (without_job number jobs)
reads_left flash pages s number [] h = tt
reads_left flash pages s number (job ∷ jobs) h = go (job.number == number) (reads_left flash pages s number jobs h.1)
  where
    go : (t : Bool) → ReadsHold flash pages s (without_job number jobs) → ReadsHold flash pages s (if t then without_job number jobs else job ∷ without_job number jobs)
    go true f = f
    go false f = (h.0, f)

pub filling_live : (status : Status) → is_filling status ≡ true → is_live status ≡ true
filling_live Clean h = absurd (cc)
filling_live Open h = refl
filling_live Sealed h = refl
filling_live Flushing h = refl
filling_live OnFlash h = absurd (cc)
filling_live Draining h = absurd (cc)
