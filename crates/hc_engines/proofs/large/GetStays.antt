-- Gets keep the whole invariant, and answer what is held.
use Rattle.std.proofs.Common.{◌≡◌, ℕ, ◌+◌, ◌-◌, ◌<◌, Bool, true, false, List, [], ◌∷◌, length, Option, Some, None, refl, sym, arith, ◌∙◌}
use Rattle.std.proofs.lemmas.Bool.{eqb-true}
use Rattle.std.specs.Prelude.{if◌then◌else◌, ◌==◌, ◌&&◌}
use Rattle.hc_types.specs.declared.config.FlashConfig.{FlashConfig}
use Rattle.hc_engines.specs.Engine.{Answer, Loss, Outcome, outcome_of}
use Rattle.hc_engines.specs.large.Region.{Status, Clean, Open, Sealed, Flushing, OnFlash, Draining, is_clean, is_draining, Region, clean_region, region_at}
use Rattle.hc_engines.specs.large.Index.{Place, Indexed, place_at, without}
use Rattle.hc_engines.specs.large.Block.{Reading, Work, Writing, Getting, Job, Block, finished, work_of, without_job, with_region, end_job}
use Rattle.hc_engines.specs.large.Steps.{read_next, pinned, let_go, take_index}
use Rattle.hc_engines.specs.large.Sound.{is_live, is_listed, readers, AllHold, Sound}
use Rattle.hc_engines.specs.large.Fits.{Fits, ReadHolds, WorkReads, ReadsHold}
use Rattle.hc_engines.proofs.large.Lists.{same_num, in_range, region_at-set, place_at-without}
use Rattle.hc_engines.proofs.large.Fitting.{same_region}
use Rattle.hc_engines.proofs.large.FitsSteps.{refits, same_fits}
use Rattle.hc_engines.proofs.large.Jobs.{works_left, ended_left}
use Rattle.hc_engines.proofs.large.Flushes.{not_both, one_more}
use Rattle.hc_engines.proofs.large.Promise.{read_stays}
use Rattle.hc_engines.proofs.large.Goods.{reads_stay}
use Rattle.hc_engines.proofs.large.Stays.{Rest, reads_added, reads_left, out_rest}
use Rattle.hc_engines.specs.large.Numbers.{minus}
use Rattle.hc_engines.proofs.large.Flushes.{live_unclean}

-- ---- what the index leads to is live

pub indexed_live : (flash : FlashConfig) (s : Block) (h : ℕ) (p : Place) → Sound flash s → place_at h s.index ≡ Some p → is_live (region_at p.region s.regions).status ≡ true
indexed_live flash s h p sound e = go (is_live (region_at p.region s.regions).status) refl
  where
    go : (t : Bool) → is_live (region_at p.region s.regions).status ≡ t → is_live (region_at p.region s.regions).status ≡ true
    go true t = t
    go false t = let bare = (sound.regions p.region).bare t in let l : is_listed h p.offset [] ≡ true = (rw bare at (sound.listed h p e)) in absurd (cc)

-- ---- a get begins

pub start_rest : (flash : FlashConfig) (pages : ℕ → Option (List ℕ)) (number : ℕ) (reading : Reading) (s : Block) → Sound flash s → Rest flash pages s → is_live (region_at reading.place.region s.regions).status ≡ true → ReadHolds flash pages s reading → reading.next < reading.until
    → Rest flash pages (read_next flash number reading (pinned reading.place.region s)).state
start_rest flash pages number reading s sound rest live h below =
    let both = out_rest flash pages r x s new s.jobs live u refl refl refl refl sound.works rest.fits rest.reads in
    record { fits = both.0; reads = reads_added flash pages new number (Getting reading) s.jobs (read_stays flash pages pages s new reading h (omega arith) (λ i lt. refl) (λ l. (live, same_region flash pages s new r (rw (region_at-set s.regions r r x (in_range s.regions r u), same_num r) refl) (rw (region_at-set s.regions r r x (in_range s.regions r u), same_num r) refl)))) both.1 }
  where
    r : ℕ
    r = reading.place.region

    x : Region
    x = record (region_at reading.place.region s.regions) { pins = (region_at reading.place.region s.regions).pins + 1 }

    new : Block
    new = (read_next flash number reading (pinned reading.place.region s)).state

    u : is_clean (region_at reading.place.region s.regions).status ≡ false
    u = live_unclean (region_at reading.place.region s.regions).status live

-- ---- a get ends

-- the operations alone changed
pub fits_left : (flash : FlashConfig) (pages : ℕ → Option (List ℕ)) (number : ℕ) (s : Block) → Fits flash pages s → Fits flash pages (end_job number s)
fits_left flash pages number s fits = record { known = fits.known; within = fits.within; places = λ h p e. let k = fits.places h p e in record { entry = k.entry; read = k.read; own = k.own; within = k.within } }

pub let_go_answer : (r : ℕ) (s : Block) (a : Answer) (ls : List Loss) → (let_go r (finished s (outcome_of a ls))).outcome.answer ≡ a
let_go_answer r s a ls = go (is_draining (region_at r s.regions).status && ((region_at r s.regions).pins == 1)) refl
  where
    go : (t : Bool) → (is_draining (region_at r s.regions).status && ((region_at r s.regions).pins == 1)) ≡ t → (let_go r (finished s (outcome_of a ls))).outcome.answer ≡ a
    go true t = rw t refl
    go false t = rw t refl

pub draining_dead : (status : Status) → is_draining status ≡ true → is_live status ≡ false
draining_dead Clean d = absurd (cc)
draining_dead Open d = absurd (cc)
draining_dead Sealed d = absurd (cc)
draining_dead Flushing d = absurd (cc)
draining_dead OnFlash d = absurd (cc)
draining_dead Draining d = refl

pub let_go_rest : (flash : FlashConfig) (pages : ℕ → Option (List ℕ)) (number : ℕ) (reading : Reading) (s : Block) (o : Outcome) → Sound flash s → work_of number s.jobs ≡ Some (Getting reading) → Rest flash pages s
    → Rest flash pages (let_go reading.place.region (finished (end_job number s) o)).state
let_go_rest flash pages number reading s o sound at rest = go (is_draining (region_at r s.regions).status) refl ((region_at r s.regions).pins == 1) refl
  where
    r : ℕ
    r = reading.place.region

    jobs : List Job
    jobs = without_job number s.jobs

    reads : ReadsHold flash pages s (without_job number s.jobs)
    reads = reads_left flash pages s number s.jobs rest.reads

    works : AllHold flash s.regions (without_job number s.jobs)
    works = works_left flash s.regions number s.jobs sound.works

    pins : (region_at r s.regions).pins ≡ 1 + readers r (without_job number s.jobs)
    pins = (sound.regions r).pinned ∙ (ended_left flash number (Getting reading) s sound at).readers_then r ∙ one_more r (readers r (without_job number s.jobs))

    unclean : (t : Bool) → is_clean (region_at r s.regions).status ≡ t → is_clean (region_at r s.regions).status ≡ false
    unclean true t = let blank = (sound.regions r).blank t in let none : (region_at r s.regions).pins ≡ 0 = (rw blank refl) in absurd (omega (arith, pins))
    unclean false t = t

    u : is_clean (region_at r s.regions).status ≡ false
    u = unclean (is_clean (region_at r s.regions).status) refl

    lt : r < length s.regions
    lt = in_range s.regions r u

    one : (is_draining (region_at r s.regions).status && ((region_at r s.regions).pins == 1)) ≡ false → Rest flash pages (let_go r (finished (end_job number s) o)).state
    one off = rw off (record {
      fits = same_fits flash pages r (record (region_at r s.regions) { pins = (region_at r s.regions).pins - 1 }) s (with_region r (record (region_at r s.regions) { pins = (region_at r s.regions).pins - 1 }) (end_job number s)) rest.fits u refl refl refl refl;
      reads = reads_stay flash pages pages r (record (region_at r s.regions) { pins = (region_at r s.regions).pins - 1 }) s (with_region r (record (region_at r s.regions) { pins = (region_at r s.regions).pins - 1 }) (end_job number s)) (without_job number s.jobs) (record {
        there = lt;
        regions = refl;
        same = λ q i l. refl;
        grows = λ n live. (
          live,
          same_region flash pages s (with_region r (record (region_at r s.regions) { pins = (region_at r s.regions).pins - 1 }) (end_job number s)) r
              (rw (region_at-set s.regions r r (record (region_at r s.regions) { pins = (region_at r s.regions).pins - 1 }) lt, same_num r) refl) (rw (region_at-set s.regions r r (record (region_at r s.regions) { pins = (region_at r s.regions).pins - 1 }) lt, same_num r) refl),
        );
      }) works reads;
    })

    none_there : is_draining (region_at r s.regions).status ≡ true → (h : ℕ) (p : Place) → place_at h s.index ≡ Some p → (p.region == r) ≡ true → ⊥
    none_there d h p e t =
        let same : p.region ≡ r = eqb-true p.region r t in
        let live = indexed_live flash s h p sound e in
        not_both (is_live (region_at r s.regions).status) (rw same at live) (draining_dead (region_at r s.regions).status d)

    last : is_draining (region_at r s.regions).status ≡ true → (region_at r s.regions).pins ≡ 1 → Rest flash pages (record (with_region r clean_region (end_job number s)) { flushed = minus r s.flushed })
    last d n = record {
      fits = refits flash pages pages r clean_region s (record (with_region r clean_region (end_job number s)) { flushed = minus r s.flushed }) rest.fits (record {
        there = lt;
        regions = refl;
        known = λ i c l. absurd (cc);
        within = omega arith;
        others = λ q i m l. refl;
        index = λ h p e. e;
        grows = λ h p e t. absurd (none_there d h p e t);
      });
      reads = reads_stay flash pages pages r clean_region s (record (with_region r clean_region (end_job number s)) { flushed = minus r s.flushed }) (without_job number s.jobs) (record {
        there = lt;
        regions = refl;
        same = λ q i l. refl;
        grows = λ m live. absurd (omega (arith, pins));
      }) works reads;
    }

    go : (d : Bool) → is_draining (region_at r s.regions).status ≡ d → (n : Bool) → ((region_at r s.regions).pins == 1) ≡ n → Rest flash pages (let_go r (finished (end_job number s) o)).state
    go true d true n = rw (d, n) (last d (eqb-true (region_at r s.regions).pins 1 n))
    go true d false n = one (rw (d, n) refl)
    go false d n e = one (rw d refl)

-- a region that is read isn't clean
pub read_unclean : (flash : FlashConfig) (number : ℕ) (reading : Reading) (s : Block) → Sound flash s → work_of number s.jobs ≡ Some (Getting reading) → is_clean (region_at reading.place.region s.regions).status ≡ false
read_unclean flash number reading s sound at = go (is_clean (region_at reading.place.region s.regions).status) refl
  where
    pins : (region_at reading.place.region s.regions).pins ≡ 1 + readers reading.place.region (without_job number s.jobs)
    pins = (sound.regions reading.place.region).pinned ∙ (ended_left flash number (Getting reading) s sound at).readers_then reading.place.region ∙ one_more reading.place.region (readers reading.place.region (without_job number s.jobs))

    go : (t : Bool) → is_clean (region_at reading.place.region s.regions).status ≡ t → is_clean (region_at reading.place.region s.regions).status ≡ false
    go true t = let blank = (sound.regions reading.place.region).blank t in let none : (region_at reading.place.region s.regions).pins ≡ 0 = (rw blank refl) in absurd (omega (arith, pins))
    go false t = t

-- the read with this number is right so far
pub own_read : (flash : FlashConfig) (pages : ℕ → Option (List ℕ)) (number : ℕ) (reading : Reading) (s : Block) (jobs : List Job) → ReadsHold flash pages s jobs → work_of number jobs ≡ Some (Getting reading) → ReadHolds flash pages s reading
own_read flash pages number reading s [] h w = absurd (cc)
own_read flash pages number reading s (job ∷ jobs) h w = go (job.number == number) w (λ v. own_read flash pages number reading s jobs h.1 v)
  where
    go : (t : Bool) → (if t then Some job.work else work_of number jobs) ≡ Some (Getting reading) → (work_of number jobs ≡ Some (Getting reading) → ReadHolds flash pages s reading) → ReadHolds flash pages s reading
    go true v f = let same : job.work ≡ Getting reading = cc in (rw same at h.0)
    go false v f = f v

-- ---- an index entry is taken

pub taken_place : (x h : ℕ) (index : List Indexed) (p : Place) → place_at h (without x index) ≡ Some p → place_at h index ≡ Some p
taken_place x h index p e = (kept_out_of (h == x) (place_at h index) (sym (place_at-without x h index) ∙ e))
  where
    kept_out_of : (t : Bool) (o : Option Place) → (if t then None else o) ≡ Some p → o ≡ Some p
    kept_out_of true o e = absurd (cc)
    kept_out_of false o e = e

pub take_sound : (flash : FlashConfig) (hash : ℕ) (s : Block) → Sound flash s → Sound flash (take_index hash s)
take_sound flash hash s sound = record {
  current = sound.current;
  sealed = sound.sealed;
  flushed = sound.flushed;
  listed = λ h p e. sound.listed h p (taken_place hash h s.index p e);
  regions = sound.regions;
  works = sound.works;
  single = sound.single;
}

pub take_rest : (flash : FlashConfig) (pages : ℕ → Option (List ℕ)) (hash : ℕ) (s : Block) → Rest flash pages s → Rest flash pages (take_index hash s)
take_rest flash pages hash s rest = record {
  fits = record { known = rest.fits.known; within = rest.fits.within; places = λ h p e. let k = rest.fits.places h p (taken_place hash h s.index p e) in record { entry = k.entry; read = k.read; own = k.own; within = k.within } };
  reads = all s.jobs rest.reads;
}
  where
    one : (work : Work) → WorkReads flash pages s work → WorkReads flash pages (take_index hash s) work
    one (Writing r bytes) h = tt
    one (Getting reading) h = record { chain = h.chain; begun = h.begun; whole = h.whole }

    all : (jobs : List Job) → ReadsHold flash pages s jobs → ReadsHold flash pages (take_index hash s) jobs
    all [] h = tt
    all (job ∷ jobs) h = (one job.work h.0, all jobs h.1)
