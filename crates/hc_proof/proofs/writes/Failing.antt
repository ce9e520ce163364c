-- A write of a region's page failed: the region ends.
use Rattle.std.proofs.Common.{◌≡◌, ℕ, ◌+◌, ◌*◌, ◌<◌, ◌≤◌, ◌==◌, ◌&&◌, Bool, true, false, List, [], ◌∷◌, Option, Some, None, refl, sym, ap, subst, arith, ◌∙◌, append-nil}
use Rattle.std.proofs.lemmas.Bool.{eqb-true}
use Rattle.std.proofs.lemmas.List.{set-get_or}
use Rattle.std.proofs.lemmas.Nat.{div-mul-add}
use Rattle.std.proofs.lemmas.Grind.{common_steps}
use Rattle.std.specs.Prelude.{if◌then◌else◌, nat_le}
use Rattle.hc_types.specs.Config.{Config}
use Rattle.hc_types.specs.Loss.{Hash, Fault}
use Rattle.hc_types.specs.Tally.{count}
use Rattle.hc_types.specs.declared.config.FlashConfig.{FlashConfig}
use Rattle.hc_types.specs.FlashEntry.{FlashEntry}
use Rattle.hc_engines.specs.large.Region.{clean_region, next_page, region_at, page_no}
use Rattle.hc_types.specs.Places.{kept_of}
use Rattle.hc_engines.specs.large.Block.{Writing, Block, work_of, without_job, end_job}
use Rattle.hc_engines.specs.large.Steps.{emptied, not_current, end_region, resume}
use Rattle.hc_engines.specs.large.Held.{bytes_of, held}
use Rattle.hc_engines.proofs.large.Lists.{same_num, in_range}
use Rattle.hc_engines.proofs.large.Ends.{Ending, not-current-is, closed}
use Rattle.hc_engines.proofs.large.Flushes.{wrote_one, written_ending}
use Rattle.hc_engines.proofs.large.Jobs.{works_left, work_ended}
use Rattle.hc_engines.proofs.large.Fitting.{pages_same}
use Rattle.hc_engines.proofs.large.FitsSteps.{after_write, other_page, failed_fits}
use Rattle.hc_engines.proofs.large.Goods.{reads_stay}
use Rattle.hc_engines.proofs.large.Stays.{Rest, reads_left}
use Rattle.hc_engines.proofs.large.Holding.{held_same}
use Rattle.hc_history.specs.Note.{Note, Lose, Wrote}
use Rattle.hc_history.specs.Pages.{bytes_at}
use Rattle.hc_history.specs.Regions.{Filing, unless_page_of, filed}
use Rattle.hc_types.specs.Places.{is_page_of}
use Rattle.hc_engines.specs.Engine.{Failed}
use Rattle.hc_history.specs.Lawful.{Allowed, past, failed_page}
use Rattle.hc_invariant.specs.Tells.{RegionsTell, files}
use Rattle.hc_engines.specs.large.Laws.{written_page}
use Rattle.hc_proof.specs.books.RegionBooks.{LargeFits, LargeKeeps, but, told, loses, FailedWriteTells, FailedWriteGives}
use Rattle.hc_proof.proofs.books.Changing.{others_alone, work-without}
use Rattle.hc_proof.proofs.writes.Written.{other_bucket, other_entries, after-is}
use Rattle.hc_proof.proofs.books.Ending.{closes, over_pages, held_over, ended_part, EndDoes, ended_does}
use Rattle.hc_engines.proofs.large.Flushes.{sub_add}

-- ---- of which region a page is

not_below : (b n : ℕ) → nat_le b (b + n) ≡ true
not_below b n = grind (arith, common_steps)

pub page-is : (flash : FlashConfig) (x r i : ℕ) → i < flash.region_pages → is_page_of flash x (page_no flash r i) ≡ (r == x)
page-is flash x r i lt = rw (not_below flash.buckets (r * flash.region_pages + i), sub_add flash.buckets (r * flash.region_pages + i), div-mul-add r flash.region_pages i lt) refl

-- what is filed there is filed in the page's region
more_filed : (flash : FlashConfig) (h r page : ℕ) (fs : List Filing) → is_page_of flash r page ≡ true → count (files h r) fs ≤ count (λ (f : Filing). (f.kept == h) && is_page_of flash f.region page) fs
more_filed flash h r page [] p = omega arith
more_filed flash h r page (f ∷ fs) p = go (f.kept == h) (f.region == r) refl (is_page_of flash f.region page) refl (more_filed flash h r page fs p)
  where
    go : (a b : Bool) → (f.region == r) ≡ b → (c : Bool) → is_page_of flash f.region page ≡ c → count (files h r) fs ≤ count (λ (f : Filing). (f.kept == h) && is_page_of flash f.region page) fs
        → (if a && b then 1 else 0) + count (files h r) fs ≤ (if a && c then 1 else 0) + count (λ (f : Filing). (f.kept == h) && is_page_of flash f.region page) fs
    go false b e c g ih = omega (arith, ih)
    go true false e c g ih = lighter c ih
      where
        lighter : (c : Bool) → count (files h r) fs ≤ count (λ (f : Filing). (f.kept == h) && is_page_of flash f.region page) fs → 0 + count (files h r) fs ≤ (if c then 1 else 0) + count (λ (f : Filing). (f.kept == h) && is_page_of flash f.region page) fs
        lighter true ih = omega (arith, ih)
        lighter false ih = omega (arith, ih)
    go true true e true g ih = omega (arith, ih)
    go true true e false g ih = let same : f.region ≡ r = eqb-true f.region r e in absurd (let q : is_page_of flash r page ≡ false = (rw same at g) in let z : true ≡ false = sym p ∙ q in cc)

-- the failure of a page may lose what is filed in its region
pub fault_allowed : (config : Config) (flash : FlashConfig) (older rest : List Note) (r page h : ℕ) → config.flash ≡ Some flash → is_page_of flash r page ≡ true → failed_page older ≡ Some page → 0 < count (files h r) (filed flash older) → Allowed config older (Lose (Hash h None) Fault) rest
fault_allowed config flash older rest r page h here p failed there = rw (here, failed) (omega (arith, more_filed flash h r page (filed flash older) p, there))

-- ---- the write failed

closes_by : (flash : FlashConfig) (r page : ℕ) (o : Option ℕ) → ((x : ℕ) → is_page_of flash x page ≡ (r == x)) → unless_page_of flash page o ≡ not_current r o
closes_by flash r page None h = refl
closes_by flash r page (Some x) h = rw (h x) (turn (r == x) (x == r) (grind arith))
  where
    turn : (a b : Bool) → a ≡ b → (if a then None else Some x) ≡ (if b then None else Some x)
    turn a b e = rw e refl

module _ (config : Config) (flash : FlashConfig) (older : List Note) (number r : ℕ) (bytes : List ℕ) (s : Block) (here : config.flash ≡ Some flash) (at : work_of number s.jobs ≡ Some (Writing r bytes)) (f : LargeFits flash older s) where
  failed : List Note
  failed = Wrote (written_page flash r s) bytes false ∷ older

  ends : Ending flash r (end_job number s) × ((region_at r s.regions).written < flash.region_pages)
  ends = written_ending flash number r bytes s f.sound at

  own : bytes ≡ next_page flash (region_at r s.regions)
  own = (wrote_one flash number r bytes s f.sound at).left.own

  same : (q i : ℕ) → i < (region_at q s.regions).written → after_write flash (bytes_at older) r s false (page_no flash q i) ≡ bytes_at older (page_no flash q i)
  same q i l = other_page flash (bytes_at older) r q i s false ends.1 (omega (arith, f.fits.within q)) (λ t e. let eq : q ≡ r = eqb-true q r t in let l2 : i < (region_at r s.regions).written = (rw eq at l) in absurd (omega arith))

  failed_rest : Rest flash (bytes_at (Wrote (written_page flash r s) bytes false ∷ older)) (end_job number s)
  failed_rest =
      let fits = failed_fits flash (bytes_at older) r s f.fits ends.1 in
      let reads = reads_stay flash (bytes_at older) (after_write flash (bytes_at older) r s false) r (region_at r s.regions) s (end_job number s) (without_job number s.jobs) (record {
        there = in_range s.regions r ends.0.unclean;
        regions = sym (set-get_or s.regions r clean_region);
        same = same;
        grows = λ n l. (l, record { more = []; grown = (rw (pages_same flash (bytes_at older) (after_write flash (bytes_at older) r s false) r (region_at r s.regions).written (λ i l2. same r i l2)) (sym (append-nil (bytes_of flash (bytes_at older) s r)))) });
      }) (works_left flash s.regions number s.jobs f.sound.works) (reads_left flash (bytes_at older) s number s.jobs f.reads) in
      subst (λ (pages : ℕ → Option (List ℕ)). Rest flash pages (end_job number s)) (after-is flash older r bytes s false own) (record {
        fits = record { known = fits.known; within = fits.within; places = λ h p e. let k = fits.places h p e in record { entry = k.entry; read = k.read; own = k.own; within = k.within } };
        reads = reads;
      })

  failed_held : (key : List ℕ) → held flash (bytes_at (Wrote (written_page flash r s) bytes false ∷ older)) (end_job number s) key ≡ held flash (bytes_at older) s key
  failed_held key =
      held_over flash (after_write flash (bytes_at older) r s false) (bytes_at (Wrote (written_page flash r s) bytes false ∷ older)) (end_job number s) key (sym (after-is flash older r bytes s false own))
      ∙ held_same flash (bytes_at older) (after_write flash (bytes_at older) r s false) s (end_job number s) f.fits refl
      (λ h p e. record { more = []; grown = (rw (pages_same flash (bytes_at older) (after_write flash (bytes_at older) r s false) p.region (region_at p.region s.regions).written (λ i l. same p.region i l)) (sym (append-nil (bytes_of flash (bytes_at older) s p.region)))) }) key

  closed_too : RegionsTell flash (Wrote (written_page flash r s) bytes false ∷ older) (closed r (end_job number s))
  closed_too = record {
    number = f.regions.number;
    used = f.regions.used;
    used_number = f.regions.used_number;
    in_order = f.regions.in_order;
    filings = f.regions.filings;
    current = ap (unless_page_of flash (written_page flash r s)) f.regions.current ∙ closes_by flash r (written_page flash r s) s.current (λ x. page-is flash x r (region_at r s.regions).written ends.1);
    filled = λ q c. f.regions.filled q (not-current-is r q s.current c).0;
  }

  in_region : is_page_of flash r (written_page flash r s) ≡ true
  in_region = page-is flash r r (region_at r s.regions).written ends.1 ∙ same_num r

  failed_ends : EndDoes config flash (Wrote (written_page flash r s) bytes false ∷ older) Fault r (end_job number s)
  failed_ends = ended_does config flash here r Fault (λ later h. refl) (λ later. failed_page later ≡ Some (written_page flash r s)) (λ later h e. e)
      (λ later h rest e there. fault_allowed config flash later rest r (written_page flash r s) h here in_region e there)
      (Wrote (written_page flash r s) bytes false ∷ older) (end_job number s) ends.0 closed_too failed_rest refl

  failed_keeps : LargeKeeps config flash older (Wrote (written_page flash r s) bytes false ∷ told (resume flash number (Writing r bytes) Failed s).outcome) s (resume flash number (Writing r bytes) Failed s).state
  failed_keeps = record {
    lawful = (rw here tt, closes config (Wrote (written_page flash r s) bytes false ∷ older) (ended_part Fault r (end_job number s)) (d.lawful_in []));
    lawful_in = λ tail. (rw here tt, d.lawful_in tail);
    fit = record { sound = d.sound; fits = rest.fits; reads = rest.reads; regions = d.regions };
    held = λ key.
        held_over flash (bytes_at (Wrote (written_page flash r s) bytes false ∷ older)) (bytes_at (past older (Wrote (written_page flash r s) bytes false ∷ ended_part Fault r (end_job number s)))) (end_region Fault r (end_job number s)).state key d.pages
        ∙ d.held key ∙ ap (λ (h : Option FlashEntry). if loses (kept_of flash.bits key) (ended_part Fault r (end_job number s)) then None else h) (failed_held key);
    index = d.index;
    pages = λ page lt. ap (λ (pages : ℕ → Option (List ℕ)). pages page) d.pages ∙ other_bucket flash older r (region_at r s.regions).written page bytes false lt;
    entries = λ bucket lt. ap (λ (entries : ℕ → List FlashEntry). entries bucket) d.entries ∙ other_entries flash older r (region_at r s.regions).written bucket bytes false lt;
    once = d.once;
  }
    where
      d : EndDoes config flash (Wrote (written_page flash r s) bytes false ∷ older) Fault r (end_job number s)
      d = failed_ends

      rest : Rest flash (bytes_at (past older (Wrote (written_page flash r s) bytes false ∷ ended_part Fault r (end_job number s)))) (end_region Fault r (end_job number s)).state
      rest = over_pages flash (bytes_at (Wrote (written_page flash r s) bytes false ∷ older)) (bytes_at (past older (Wrote (written_page flash r s) bytes false ∷ ended_part Fault r (end_job number s)))) (end_region Fault r (end_job number s)).state d.pages d.rest

pub failed_write_tells : FailedWriteTells
failed_write_tells config flash older number r bytes s here at f = failed_keeps config flash older number r bytes s here at f

pub failed_write_gives : FailedWriteGives
failed_write_gives flash older number r bytes s at f =
    let ends = written_ending flash number r bytes s f.sound at in (
      others_alone (but number) r (emptied (region_at r s.regions)) s (resume flash number (Writing r bytes) Failed s).state (without_job number s.jobs) (in_range s.regions r ends.0.unclean) refl ends.0.idle
          (λ n o. work-without number n s.jobs o) (λ n o. work-without number n s.jobs o),
      record { order = refl; work = work_ended number s.jobs },
    )
