-- A page of a region was written: what is told, and what the books say then.
use Rattle.std.proofs.Common.{◌≡◌, ℕ, ◌+◌, ◌<◌, ◌≤◌, ◌==◌, Bool, true, false, List, [], ◌∷◌, ◌++◌, length, drop, set, Option, Some, refl, sym, ap, subst, arith, ◌∙◌, inl, inr}
use Rattle.std.proofs.lemmas.Bool.{eqb-true, ltb-true, ltb-false}
use Rattle.std.specs.Prelude.{if◌then◌else◌, nat_lt, ◌⊎◌}
use Rattle.hc_types.specs.Config.{Config}
use Rattle.hc_types.specs.Tally.{count}
use Rattle.hc_types.specs.declared.config.FlashConfig.{FlashConfig}
use Rattle.hc_engines.specs.large.Region.{Status, Clean, Open, Sealed, Flushing, OnFlash, Draining, is_clean, Region, next_page, page_done, region_at, page_no}
use Rattle.hc_engines.specs.large.Index.{place_at}
use Rattle.hc_engines.specs.large.Block.{Writing, Block, Moved, finished, work_of, without_job, with_region, end_job}
use Rattle.hc_engines.specs.large.Steps.{write_out, go_on, wrote_page, resume}
use Rattle.hc_engines.specs.large.Numbers.{is_in}
use Rattle.hc_engines.specs.large.Held.{held}
use Rattle.hc_engines.specs.large.Sound.{is_stored, is_out, is_flushing, is_filling, writers, readers}
use Rattle.hc_engines.specs.large.Fits.{Fits, ReadsHold}
use Rattle.hc_engines.proofs.large.Lists.{same_num, in_range, region_at-set}
use Rattle.hc_engines.proofs.large.Flushes.{not_both, Wrote1, wrote_one, out_unclean}
use Rattle.hc_engines.proofs.large.FitsSteps.{after_write, next_page_long}
use Rattle.hc_engines.proofs.large.Stays.{Rest}
use Rattle.hc_history.specs.Note.{Note, Wrote, Flushed}
use Rattle.hc_history.specs.Pages.{bytes_at, bucket_entries}
use Rattle.hc_history.specs.Regions.{is_one_of, flushed}
use Rattle.hc_types.specs.Places.{last_page}
use Rattle.hc_engines.specs.Engine.{Written, Over, nothing, outcome_of}
use Rattle.hc_history.specs.Lawful.{Allowed}
use Rattle.hc_invariant.specs.Tells.{RegionsTell}
use Rattle.hc_engines.specs.large.Laws.{written_page}
use Rattle.hc_proof.specs.books.RegionBooks.{LargeFits, LargeKeeps, OthersStay, but, told, WritesPage, IsOver, WrittenTells, WrittenGives}
use Rattle.hc_invariant.specs.Good.{OneFlush}
use Rattle.hc_proof.proofs.books.RegionsInUse.{turned, in-reverse}
use Rattle.hc_engines.proofs.large.Jobs.{work_added, work_ended}
use Rattle.hc_proof.proofs.books.Changing.{changed_regions, others_alone, work-added, work-without}
use Rattle.hc_engines.proofs.large.FlushesSound.{more_sound, last_sound, early_sound}
use Rattle.hc_proof.proofs.writes.WrittenPages.{full_same, done_region, eased_region, written_rest, written_holds}
use Rattle.hc_engines.proofs.large.Stays.{reads_added, filling_live}

-- a region's page is no bucket's
pub not_bucket : (flash : FlashConfig) (r i page : ℕ) → page < flash.buckets → (page_no flash r i == page) ≡ false
not_bucket flash r i page lt = go (page_no flash r i == page) refl
  where
    go : (t : Bool) → (page_no flash r i == page) ≡ t → (page_no flash r i == page) ≡ false
    go true t = absurd (let e = eqb-true (page_no flash r i) page t in omega (arith, e))
    go false t = t

pub other_bucket : (flash : FlashConfig) (older : List Note) (r i page : ℕ) (bytes : List ℕ) (done : Bool) → page < flash.buckets → bytes_at (Wrote (page_no flash r i) bytes done ∷ older) page ≡ bytes_at older page
other_bucket flash older r i page bytes done lt = rw (not_bucket flash r i page lt) refl

pub other_entries : (flash : FlashConfig) (older : List Note) (r i bucket : ℕ) (bytes : List ℕ) (done : Bool) → bucket < flash.buckets → bucket_entries flash (Wrote (page_no flash r i) bytes done ∷ older) bucket ≡ bucket_entries flash older bucket
other_entries flash older r i bucket bytes done lt = rw (not_bucket flash r i bucket lt) refl

wrote_allowed : (config : Config) (flash : FlashConfig) (older rest : List Note) (page : ℕ) (bytes : List ℕ) (done : Bool) → config.flash ≡ Some flash → Allowed config older (Wrote page bytes done) rest
wrote_allowed config flash older rest page bytes done here = rw here tt

-- the pages after the write
pub after-is : (flash : FlashConfig) (older : List Note) (r : ℕ) (bytes : List ℕ) (s : Block) (done : Bool) → bytes ≡ next_page flash (region_at r s.regions)
    → after_write flash (bytes_at older) r s done ≡ bytes_at (Wrote (written_page flash r s) bytes done ∷ older)
after-is flash older r bytes s done own = ap (λ (b : List ℕ). bytes_at (Wrote (written_page flash r s) b done ∷ older)) (sym own)

pub fitted : (flash : FlashConfig) (older : List Note) (s : Block) → LargeFits flash older s → Rest flash (bytes_at older) s
fitted flash older s f = record { fits = f.fits; reads = f.reads }

-- a write tells of no region's state
wrote_regions : (flash : FlashConfig) (older : List Note) (page : ℕ) (bytes : List ℕ) (s : Block) → RegionsTell flash older s → RegionsTell flash (Wrote page bytes true ∷ older) s
wrote_regions flash older page bytes s t = record { number = t.number; used = t.used; used_number = t.used_number; in_order = t.in_order; filings = t.filings; current = t.current; filled = t.filled }

-- what the write of a page comes to
record WroteDoes (config : Config) (flash : FlashConfig) (older : List Note) (number r : ℕ) (bytes : List ℕ) (s : Block) (moved : Moved) : Type 0 where
  keeps : LargeKeeps config flash older (Wrote (written_page flash r s) bytes true ∷ told moved.outcome) s moved.state
  others : OthersStay (but number) s moved.state
  gives : WritesPage flash number moved ⊎ IsOver number moved

uncounted : (r x : ℕ) (xs : List ℕ) → is_one_of r xs ≡ false → count (λ (y : ℕ). y == r) xs ≡ 0
uncounted r x [] h = refl
uncounted r x (y ∷ ys) h = grind (arith, uncounted r x ys)

module _ (config : Config) (flash : FlashConfig) (older : List Note) (number r : ℕ) (bytes : List ℕ) (s : Block) (here : config.flash ≡ Some flash) (at : work_of number s.jobs ≡ Some (Writing r bytes)) (f : LargeFits flash older s) where
  one : Wrote1 flash number r bytes s
  one = wrote_one flash number r bytes s f.sound at

  out : (is_clean (region_at r s.regions).status ≡ false) × (is_filling (region_at r s.regions).status ≡ true)
  out = out_unclean flash (readers r s.jobs) (writers r s.jobs) (region_at r s.regions) (f.sound.regions r) (wrote_one flash number r bytes s f.sound at).was_out

  room : (region_at r s.regions).written < flash.region_pages
  room = (f.sound.regions r).unwritten (out_unclean flash (readers r s.jobs) (writers r s.jobs) (region_at r s.regions) (f.sound.regions r) (wrote_one flash number r bytes s f.sound at).was_out).1

  there : r < length s.regions
  there = in_range s.regions r out.0

  page_rest : (x : Region) (new : Block) → new.regions ≡ set s.regions r x → new.index ≡ s.index → x.written ≡ (region_at r s.regions).written + 1 → x.buffer ≡ drop flash.page (region_at r s.regions).buffer
      → Fits flash (bytes_at (Wrote (written_page flash r s) bytes true ∷ older)) new × ReadsHold flash (bytes_at (Wrote (written_page flash r s) bytes true ∷ older)) new (without_job number s.jobs)
  page_rest x new er ei w b =
      subst (λ (pages : ℕ → Option (List ℕ)). Fits flash pages new × ReadsHold flash pages new (without_job number s.jobs)) (after-is flash older r bytes s true one.left.own)
      (written_rest flash (bytes_at older) number r x s new f.sound (fitted flash older s f) (filling_live (region_at r s.regions).status out.1) out.0 room er ei w b)

  page_held : (x : Region) (new : Block) → new.regions ≡ set s.regions r x → new.index ≡ s.index → x.written ≡ (region_at r s.regions).written + 1 → x.buffer ≡ drop flash.page (region_at r s.regions).buffer
      → (key : List ℕ) → held flash (bytes_at (Wrote (written_page flash r s) bytes true ∷ older)) new key ≡ held flash (bytes_at older) s key
  page_held x new er ei w b key =
      ap (λ (pages : ℕ → Option (List ℕ)). held flash pages new key) (sym (after-is flash older r bytes s true one.left.own))
      ∙ written_holds flash (bytes_at older) r x s new f.fits out.0 room er ei w b key

  -- nothing else is told
  plain_keeps : (new : Block) → LargeFits flash (Wrote (written_page flash r s) bytes true ∷ older) new → ((key : List ℕ) → held flash (bytes_at (Wrote (written_page flash r s) bytes true ∷ older)) new key ≡ held flash (bytes_at older) s key) → new.index ≡ s.index
      → LargeKeeps config flash older (Wrote (written_page flash r s) bytes true ∷ []) s new
  plain_keeps new fit same ei = record {
    lawful = (wrote_allowed config flash older [] (written_page flash r s) bytes true here, tt);
    lawful_in = λ tail. (wrote_allowed config flash older tail (written_page flash r s) bytes true here, tt);
    fit = fit;
    held = same;
    index = λ hash. ap (place_at hash) ei;
    pages = λ page lt. other_bucket flash older r (region_at r s.regions).written page bytes true lt;
    entries = λ bucket lt. other_entries flash older r (region_at r s.regions).written bucket bytes true lt;
    once = λ o. o;
  }

  goes_on : (region_at r s.regions).status ≡ Flushing → (region_at r s.regions).written + 1 < flash.region_pages → WroteDoes config flash older number r bytes s (write_out flash number r (page_done flash (region_at r s.regions)) (end_job number s))
  goes_on fl lt =
      let x = page_done flash (region_at r s.regions) in
      let new = (write_out flash number r (page_done flash (region_at r s.regions)) (end_job number s)).state in
      let rest = page_rest (page_done flash (region_at r s.regions)) (write_out flash number r (page_done flash (region_at r s.regions)) (end_job number s)).state refl refl refl refl in
      record {
        keeps = plain_keeps new (record {
          sound = more_sound flash number r bytes s f.sound one fl lt;
          fits = rest.0;
          reads = reads_added flash (bytes_at (Wrote (written_page flash r s) bytes true ∷ older)) new number (Writing r (next_page flash x)) (without_job number s.jobs) tt rest.1;
          regions = changed_regions flash (Wrote (written_page flash r s) bytes true ∷ older) r x s new (wrote_regions flash older (written_page flash r s) bytes s f.regions) there refl refl refl refl refl
              (λ c. absurd (let o = f.sound.current r c in let e : Open ≡ Flushing = sym o ∙ fl in cc));
        }) (page_held x new refl refl refl refl) refl;
        others = others_alone (but number) r x s new (without_job number s.jobs) there refl one.idle (λ n o. work-without number n s.jobs o) (λ n o. work-added number n (Writing r (next_page flash x)) (without_job number s.jobs) o ∙ work-without number n s.jobs o);
        gives = inl (record {
          region = r;
          bytes = next_page flash x;
          there = omega (arith, there, f.regions.number);
          work = work_added number (Writing r (next_page flash x)) (without_job number s.jobs);
          order = rw (region_at-set s.regions r r x there, same_num r) refl;
          outcome = refl;
          whole = next_page_long flash x;
        });
      }

  eases : (region_at r s.regions).early ≡ true → WroteDoes config flash older number r bytes s (finished (with_region r (eased_region flash (region_at r s.regions)) (end_job number s)) (outcome_of Over []))
  eases early =
      let x = eased_region flash (region_at r s.regions) in
      let new = with_region r (eased_region flash (region_at r s.regions)) (end_job number s) in
      let rest = page_rest (eased_region flash (region_at r s.regions)) (with_region r (eased_region flash (region_at r s.regions)) (end_job number s)) refl refl refl refl in
      record {
        keeps = plain_keeps new (record {
          sound = early_sound flash number r bytes s f.sound one early;
          fits = rest.0;
          reads = rest.1;
          regions = changed_regions flash (Wrote (written_page flash r s) bytes true ∷ older) r x s new (wrote_regions flash older (written_page flash r s) bytes s f.regions) there refl refl refl refl refl
              (λ c. full_same flash (region_at r s.regions) ((f.sound.regions r).early early).full);
        }) (page_held x new refl refl refl refl) refl;
        others = others_alone (but number) r x s new (without_job number s.jobs) there refl one.idle (λ n o. work-without number n s.jobs o) (λ n o. work-without number n s.jobs o);
        gives = inr (record { order = refl; work = work_ended number s.jobs });
      }

  -- the last page of a flush: the region is on flash
  is_last : (region_at r s.regions).status ≡ Flushing → flash.region_pages ≤ (region_at r s.regions).written + 1 → (written_page flash r s == last_page flash r) ≡ true
  is_last fl le = let e : written_page flash r s ≡ last_page flash r = omega (arith, room) in rw e (same_num (last_page flash r))

  flushes : (region_at r s.regions).status ≡ Flushing → flash.region_pages ≤ (region_at r s.regions).written + 1
      → WroteDoes config flash older number r bytes s (finished (record (with_region r (done_region flash (region_at r s.regions)) (end_job number s)) { flushed = s.flushed ++ r ∷ [] }) (record nothing { answer = Over; flushed = Some r }))
  flushes fl le =
      let x = done_region flash (region_at r s.regions) in
      let new = record (with_region r (done_region flash (region_at r s.regions)) (end_job number s)) { flushed = s.flushed ++ r ∷ [] } in
      let rest = page_rest (done_region flash (region_at r s.regions)) (record (with_region r (done_region flash (region_at r s.regions)) (end_job number s)) { flushed = s.flushed ++ r ∷ [] }) refl refl refl refl in
      let t = changed_regions flash (Wrote (written_page flash r s) bytes true ∷ older) r x s (with_region r x (end_job number s)) (wrote_regions flash older (written_page flash r s) bytes s f.regions) there refl refl refl refl (rw fl refl)
      (λ c. absurd (let o = f.sound.current r c in let e : Open ≡ Flushing = sym o ∙ fl in cc)) in
      record {
        keeps = record {
          lawful = (wrote_allowed config flash older (Flushed r ∷ []) (written_page flash r s) bytes true here, ((rw here (is_last fl le)), tt));
          lawful_in = λ tail. (wrote_allowed config flash older (Flushed r ∷ tail) (written_page flash r s) bytes true here, ((rw here (is_last fl le)), tt));
          fit = record {
            sound = last_sound flash number r bytes s f.sound one fl;
            fits = rest.0;
            reads = rest.1;
            regions = record { number = t.number; used = t.used; used_number = t.used_number; in_order = ap (λ rs. rs ++ r ∷ []) f.regions.in_order ∙ sym (turned r (flushed older)); filings = t.filings; current = t.current; filled = t.filled };
          };
          held = page_held x new refl refl refl refl;
          index = λ hash. refl;
          pages = λ page lt. other_bucket flash older r (region_at r s.regions).written page bytes true lt;
          entries = λ bucket lt. other_entries flash older r (region_at r s.regions).written bucket bytes true lt;
          once = once;
        };
        others = others_alone (but number) r x s new (without_job number s.jobs) there refl one.idle (λ n o. work-without number n s.jobs o) (λ n o. work-without number n s.jobs o);
        gives = inr (record { order = refl; work = work_ended number s.jobs });
      }
    where
      unflushed : (b : Bool) → is_in r s.flushed ≡ b → is_one_of r (flushed older) ≡ false
      unflushed true i = absurd (let z : is_stored Flushing ≡ true = (rw fl at (f.sound.flushed r i)) in cc)
      unflushed false i = sym (in-reverse r (flushed older)) ∙ ap (is_in r) (sym f.regions.in_order) ∙ i

      once : OneFlush older → OneFlush (Flushed r ∷ Wrote (written_page flash r s) bytes true ∷ older)
      once o q = go (r == q) refl
        where
          go : (t : Bool) → (r == q) ≡ t → (if t then 1 else 0) + count (λ (x : ℕ). x == q) (flushed older) ≤ 1
          go true t = let same : r ≡ q = eqb-true r q t in let none : count (λ (x : ℕ). x == q) (flushed older) ≡ 0 = subst (λ (z : ℕ). count (λ (x : ℕ). x == z) (flushed older) ≡ 0) same (uncounted r 0 (flushed older) (unflushed (is_in r s.flushed) refl)) in omega (arith, none)
          go false t = omega (arith, o q)

  -- ---- by the region's status

  early_of : (status : Status) → (region_at r s.regions).status ≡ status → is_flushing status ≡ false → (region_at r s.regions).early ≡ true
  early_of status e n = rest (region_at r s.regions).early refl
    where
      rest : (t : Bool) → (region_at r s.regions).early ≡ t → (region_at r s.regions).early ≡ true
      rest true t = t
      rest false t = absurd (not_both (is_out (region_at r s.regions)) one.was_out (rw (e, n, t) refl))

  wrote_flushing : (region_at r s.regions).status ≡ Flushing → (t : Bool) → nat_lt ((region_at r s.regions).written + 1) flash.region_pages ≡ t → WroteDoes config flash older number r bytes s (go_on flash number r (page_done flash (region_at r s.regions)) (end_job number s))
  wrote_flushing fl true t = rw t (goes_on fl (ltb-true ((region_at r s.regions).written + 1) flash.region_pages t))
  wrote_flushing fl false t = rw t (flushes fl (ltb-false ((region_at r s.regions).written + 1) flash.region_pages t))

  wrote_by : (status : Status) → (region_at r s.regions).status ≡ status → WroteDoes config flash older number r bytes s (wrote_page flash number r status (end_job number s))
  wrote_by Clean e = eases (early_of Clean e refl)
  wrote_by Open e = eases (early_of Open e refl)
  wrote_by Sealed e = eases (early_of Sealed e refl)
  wrote_by OnFlash e = eases (early_of OnFlash e refl)
  wrote_by Draining e = eases (early_of Draining e refl)
  wrote_by Flushing e = wrote_flushing e (nat_lt ((region_at r s.regions).written + 1) flash.region_pages) refl

  wrote_does : WroteDoes config flash older number r bytes s (resume flash number (Writing r bytes) Written s)
  wrote_does = wrote_by (region_at r s.regions).status refl

pub written_tells : WrittenTells
written_tells config flash older number r bytes s here at f = (wrote_does config flash older number r bytes s here at f).keeps

pub written_gives : WrittenGives
written_gives flash older number r bytes s at f = (d.others, d.gives)
  where
    config : Config
    config = record { pools = []; flash = Some flash }

    d : WroteDoes (record { pools = []; flash = Some flash }) flash older number r bytes s (resume flash number (Writing r bytes) Written s)
    d = wrote_does (record { pools = []; flash = Some flash }) flash older number r bytes s refl at f
