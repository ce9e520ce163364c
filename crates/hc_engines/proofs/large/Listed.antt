-- No region is forgotten.
use Rattle.std.proofs.Common.{◌≡◌, ℕ, zero, suc, ◌+◌, ◌-◌, ◌<◌, ◌≤◌, ◌==◌, ◌&&◌, Bool, true, false, List, [], ◌∷◌, ◌++◌, length, set, Option, Some, None, refl, sym, ap, subst, arith, ◌∙◌, inl, inr}
use Rattle.std.proofs.lemmas.Bool.{eqb-true, cases_lt}
use Rattle.std.specs.Prelude.{if◌then◌else◌, nat_lt, min}
use Rattle.hc_types.specs.Places.{kept_of}
use Rattle.hc_types.specs.Loss.{Cause, Reclaimed, Fault}
use Rattle.hc_types.specs.declared.config.FlashConfig.{FlashConfig}
use Rattle.hc_types.specs.FlashEntry.{FlashEntry}
use Rattle.hc_engines.specs.large.Entries.{entry_bytes, entry_in}
use Rattle.hc_engines.specs.large.Region.{Status, Clean, Open, Sealed, Flushing, OnFlash, Draining, is_clean, is_draining, Region, clean_region, opened_region, page_done, can_go, region_at, lowest_clean}
use Rattle.hc_engines.specs.large.Index.{Place, place_at, is_place}
use Rattle.hc_engines.specs.large.Block.{Block, Work, work_of, Reading, Writing, Getting, Moved, end_job, with_region, unmoved}
use Rattle.hc_engines.specs.Engine.{IoResult, Page, Written, Failed}
use Rattle.hc_engines.specs.large.Numbers.{minus}
use Rattle.hc_engines.specs.large.Steps.{fitting, append, seal, sealed_too, open_next, put_fresh, put_into, emptied, not_current, end_region, clean_count, oldest, reclaim_of, write_out, first_ready, early_of, flush_of, go_on, wrote_page, put, flush, reclaim, get, resume, first_page, end_page, reading_of, read_bytes, answer_of, answered, unreadable, absent, failed_read, read_next, pinned, get_at, let_go, got_page, take_index}
use Rattle.hc_engines.specs.large.Numbers.{is_in}
use Rattle.hc_engines.proofs.large.Lists.{same_num, in_range, region_at-set, is_in-minus, is_in-push}
use Rattle.hc_engines.proofs.large.New.{all_clean}
use Rattle.hc_engines.proofs.large.Regions.{oldest_is}
use Rattle.hc_engines.proofs.large.Reclaims.{oldest_ending}
use Rattle.hc_engines.proofs.large.Flushes.{written_ending}
use Rattle.hc_engines.proofs.large.Fitting.{with_entry}
use Rattle.hc_engines.specs.large.Sound.{Sound}
use Rattle.hc_engines.specs.large.Listed.{IsListed, AllListed, RegionsStayListed, ListsAreExact, FlushMissesNone}

-- ---- one region changes

none_there : (regions : List Region) (r : ℕ) (x : Region) → length regions ≤ r → set regions r x ≡ regions
none_there [] r x h = refl
none_there (e ∷ es) zero x h = absurd (omega arith)
none_there (e ∷ es) (suc r) x h = ap (λ rs. e ∷ rs) (none_there es r x (omega arith))

-- the lists of the others are as they were
record Others (s new : Block) (r : ℕ) : Type 0 where
  current : (q : ℕ) → (q == r) ≡ false → s.current ≡ Some q → new.current ≡ Some q
  sealed : (q : ℕ) → (q == r) ≡ false → is_in q s.sealed ≡ true → is_in q new.sealed ≡ true
  flushed : (q : ℕ) → (q == r) ≡ false → is_in q s.flushed ≡ true → is_in q new.flushed ≡ true

listed_still : (s new : Block) (r q : ℕ) (status : Status) → Others s new r → (q == r) ≡ false → IsListed s q status → IsListed new q status
listed_still s new r q Clean o n h = tt
listed_still s new r q Open o n h = o.current q n h
listed_still s new r q Sealed o n h = o.sealed q n h
listed_still s new r q Flushing o n h = tt
listed_still s new r q OnFlash o n h = o.flushed q n h
listed_still s new r q Draining o n h = tt

changed_lists : (s new : Block) (r : ℕ) (x : Region) → r < length s.regions → new.regions ≡ set s.regions r x → Others s new r → IsListed new r x.status → AllListed s → AllListed new
changed_lists s new r x lt e o own all q = rw (e, region_at-set s.regions r q x lt) (go (q == r) refl)
  where
    go : (t : Bool) → (q == r) ≡ t → IsListed new q (if t then x else region_at q s.regions).status
    go true t = let same : q ≡ r = eqb-true q r t in subst (λ (z : ℕ). IsListed new z x.status) (sym same) own
    go false t = listed_still s new r q (region_at q s.regions).status o t (all q)

-- all lists are as they were, and so is the status
all_same : (s new : Block) → new.current ≡ s.current → new.sealed ≡ s.sealed → new.flushed ≡ s.flushed → (r : ℕ) → Others s new r
all_same s new c e f r = record { current = λ q n h. c ∙ h; sealed = λ q n h. ap (is_in q) e ∙ h; flushed = λ q n h. ap (is_in q) f ∙ h }

listed_too : (s new : Block) (r : ℕ) (status : Status) → new.current ≡ s.current → new.sealed ≡ s.sealed → new.flushed ≡ s.flushed → IsListed s r status → IsListed new r status
listed_too s new r Clean c e f h = tt
listed_too s new r Open c e f h = c ∙ h
listed_too s new r Sealed c e f h = ap (is_in r) e ∙ h
listed_too s new r Flushing c e f h = tt
listed_too s new r OnFlash c e f h = ap (is_in r) f ∙ h
listed_too s new r Draining c e f h = tt

pub same_regions : (s new : Block) → new.regions ≡ s.regions → new.current ≡ s.current → new.sealed ≡ s.sealed → new.flushed ≡ s.flushed → AllListed s → AllListed new
same_regions s new e c d f all q = rw e (listed_too s new q (region_at q s.regions).status c d f (all q))

-- a region's other fields change
same_status : (s new : Block) (r : ℕ) (x : Region) → new.regions ≡ set s.regions r x → x.status ≡ (region_at r s.regions).status → new.current ≡ s.current → new.sealed ≡ s.sealed → new.flushed ≡ s.flushed → AllListed s → AllListed new
same_status s new r x e st c d f all = elim (cases_lt r (length s.regions)) [
  | inl lt ↦ changed_lists s new r x lt e (all_same s new c d f r) (rw st (listed_too s new r (region_at r s.regions).status c d f (all r))) all
  | inr le ↦ same_regions s new (e ∙ none_there s.regions r x le) c d f all
]

-- it changes to a status that no list tells
unlisted : (s new : Block) (r : ℕ) (x : Region) → new.regions ≡ set s.regions r x → Others s new r → (r < length s.regions → IsListed new r x.status) → (length s.regions ≤ r → (q : ℕ) → Others s new q) → AllListed s → AllListed new
unlisted s new r x e o own far all = elim (cases_lt r (length s.regions)) [
  | inl lt ↦ changed_lists s new r x lt e o (own lt) all
  | inr le ↦ λ q. rw (e, none_there s.regions r x le) (listed_still s new (suc q) q (region_at q s.regions).status (far le (suc q)) (not_next q) (all q))
]
  where
    not_next : (q : ℕ) → (q == suc q) ≡ false
    not_next q = grind arith

-- ---- put

pub put_lists : (flash : FlashConfig) (entry : FlashEntry) (s : Block) → Sound flash s → AllListed s → AllListed (put flash entry s).state
put_lists flash entry s sound all = go (fitting flash s (length (entry_bytes entry)) s.current)
  where
    appended : (r : ℕ) (t : Block) → AllListed t → AllListed (append flash r entry t)
    appended r t h = same_status t (append flash r entry t) r (with_entry flash entry (region_at r t.regions)) refl refl refl refl refl h

    pushed : (q c : ℕ) (rs : List ℕ) → is_in q rs ≡ true → is_in q (rs ++ c ∷ []) ≡ true
    pushed q c rs h = is_in-push q c rs ∙ grind (arith, h)

    -- the region in use is sealed
    sealed : (o : Option ℕ) → s.current ≡ o → AllListed (record s { regions = seal o s.regions; current = None; sealed = sealed_too o s.sealed })
    sealed None k = λ q. open_none q (region_at q s.regions).status (all q)
      where
        open_none : (q : ℕ) (status : Status) → IsListed s q status → IsListed (record s { regions = s.regions; current = None; sealed = s.sealed }) q status
        open_none q Clean h = tt
        open_none q Open h = absurd (cc)
        open_none q Sealed h = h
        open_none q Flushing h = tt
        open_none q OnFlash h = h
        open_none q Draining h = tt
    sealed (Some c) k =
        changed_lists s (record s { regions = seal (Some c) s.regions; current = None; sealed = sealed_too (Some c) s.sealed }) c (record (region_at c s.regions) { status = Sealed }) (in_range s.regions c (rw (sound.current c k) refl)) refl
        (record { current = λ q n h. absurd (other q n h); sealed = λ q n h. pushed q c s.sealed h; flushed = λ q n h. h }) (is_in-push c c s.sealed ∙ (rw (same_num c) refl)) all
      where
        other : (q : ℕ) → (q == c) ≡ false → s.current ≡ Some q → ⊥
        other q n h = let same : c ≡ q = cc in absurd (grind (arith, same_num q, n))

    opened : (r : ℕ) (t : Block) → t.current ≡ None → AllListed t → AllListed (record t { regions = set t.regions r opened_region; current = Some r })
    opened r t none h = unlisted t (record t { regions = set t.regions r opened_region; current = Some r }) r opened_region refl
        (record { current = λ q n k. absurd (cc); sealed = λ q n k. k; flushed = λ q n k. k }) (λ lt. refl) (λ le q. record { current = λ p n k. absurd (cc); sealed = λ p n k. k; flushed = λ p n k. k }) h

    fresh : (o : Option ℕ) → AllListed (put_fresh flash entry s o).state
    fresh None = all
    fresh (Some r) = appended r (open_next r s) (opened r (record s { regions = seal s.current s.regions; current = None; sealed = sealed_too s.current s.sealed }) refl (sealed s.current refl))

    go : (o : Option ℕ) → AllListed (put_into flash entry s o).state
    go None = fresh (lowest_clean 0 s.regions)
    go (Some r) = appended r s all

-- ---- pages

pub kept-in : (q r : ℕ) (rs : List ℕ) → (q == r) ≡ false → is_in q rs ≡ true → is_in q (minus r rs) ≡ true
kept-in q r rs n h = is_in-minus q r rs ∙ (rw n h)

pub flush_lists : (flash : FlashConfig) (number : ℕ) (s : Block) → Sound flash s → AllListed s → AllListed (flush flash number s).state
flush_lists flash number s sound all = go (first_ready s.regions s.sealed) refl
  where
    early_one : (r : ℕ) (t : Bool) → AllListed (if t then write_out flash number r (record (region_at r s.regions) { early = true }) s else unmoved s).state
    early_one r true = same_status s (write_out flash number r (record (region_at r s.regions) { early = true }) s).state r (record (region_at r s.regions) { early = true }) refl refl refl refl refl all
    early_one r false = all

    early : (o : Option ℕ) → AllListed (early_of flash number s o).state
    early None = all
    early (Some r) = early_one r (can_go flash (region_at r s.regions))

    is_ready : (r : ℕ) (rs : List ℕ) → first_ready s.regions rs ≡ Some r → is_in r rs ≡ true
    is_ready r [] e = absurd (cc)
    is_ready r (y ∷ ys) e = pick (region_at y s.regions).early e (is_ready r ys)
      where
        pick : (t : Bool) → (if t then first_ready s.regions ys else Some y) ≡ Some r → (first_ready s.regions ys ≡ Some r → is_in r ys ≡ true) → is_in r (y ∷ ys) ≡ true
        pick true e f = grind (arith, f e)
        pick false e f = let same : y ≡ r = cc in rw (same, same_num r) refl

    go : (o : Option ℕ) → first_ready s.regions s.sealed ≡ o → AllListed (flush_of flash number s o).state
    go None e = early s.current
    go (Some r) e =
        let there : r < length s.regions = in_range s.regions r (rw (sound.sealed r (is_ready r s.sealed e)) refl) in
        changed_lists s (flush_of flash number s (Some r)).state r (record (region_at r s.regions) { status = Flushing }) there refl
        (record { current = λ q n h. h; sealed = λ q n h. kept-in q r s.sealed n h; flushed = λ q n h. h }) tt all

wrote_lists : (flash : FlashConfig) (number r : ℕ) (status : Status) (s : Block) → AllListed s → AllListed (wrote_page flash number r status s).state
wrote_lists flash number r status s all = go status
  where
    eases : AllListed (with_region r (record (page_done flash (region_at r s.regions)) { early = false }) s)
    eases = same_status s (with_region r (record (page_done flash (region_at r s.regions)) { early = false }) s) r (record (page_done flash (region_at r s.regions)) { early = false }) refl refl refl refl refl all

    pushed : (q : ℕ) (rs : List ℕ) → is_in q rs ≡ true → is_in q (rs ++ r ∷ []) ≡ true
    pushed q rs h = is_in-push q r rs ∙ grind (arith, h)

    on : (t : Bool) → nat_lt ((region_at r s.regions).written + 1) flash.region_pages ≡ t → AllListed (go_on flash number r (page_done flash (region_at r s.regions)) s).state
    on true t = rw t (same_status s (write_out flash number r (page_done flash (region_at r s.regions)) s).state r (page_done flash (region_at r s.regions)) refl refl refl refl refl all)
    on false t = rw t (unlisted s (record (with_region r (record (page_done flash (region_at r s.regions)) { status = OnFlash }) s) { flushed = s.flushed ++ r ∷ [] }) r (record (page_done flash (region_at r s.regions)) { status = OnFlash }) refl
        (record { current = λ q n h. h; sealed = λ q n h. h; flushed = λ q n h. pushed q s.flushed h }) (λ lt. is_in-push r r s.flushed ∙ (rw (same_num r) refl))
        (λ le q. record { current = λ p n h. h; sealed = λ p n h. h; flushed = λ p n h. pushed p s.flushed h }) all)

    go : (status : Status) → AllListed (wrote_page flash number r status s).state
    go Clean = eases
    go Open = eases
    go Sealed = eases
    go Flushing = on (nat_lt ((region_at r s.regions).written + 1) flash.region_pages) refl
    go OnFlash = eases
    go Draining = eases

-- ---- a region ends

ended_lists : (cause : Cause) (r : ℕ) (s : Block) → r < length s.regions → AllListed s → AllListed (end_region cause r s).state
ended_lists cause r s lt all = changed_lists s (end_region cause r s).state r (emptied (region_at r s.regions)) lt refl others (own ((region_at r s.regions).pins == 0)) all
  where
    in_use : (q : ℕ) (o : Option ℕ) → (q == r) ≡ false → o ≡ Some q → not_current r o ≡ Some q
    in_use q None n h = absurd (cc)
    in_use q (Some x) n h = let same : x ≡ q = cc in rw (same, n) refl

    on_flash : (q : ℕ) (t : Bool) → (q == r) ≡ false → is_in q s.flushed ≡ true → is_in q (if t then minus r s.flushed else s.flushed) ≡ true
    on_flash q true n h = kept-in q r s.flushed n h
    on_flash q false n h = h

    others : Others s (end_region cause r s).state r
    others = record { current = λ q n h. in_use q s.current n h; sealed = λ q n h. kept-in q r s.sealed n h; flushed = λ q n h. on_flash q ((region_at r s.regions).pins == 0) n h }

    own : (t : Bool) → IsListed (end_region cause r s).state r (if t then clean_region else record (region_at r s.regions) { status = Draining; buffer = []; appended = []; early = false }).status
    own true = tt
    own false = tt

pub reclaim_lists : (flash : FlashConfig) (s : Block) → Sound flash s → AllListed s → AllListed (reclaim flash s).state
reclaim_lists flash s sound all = go (nat_lt (clean_count s.regions) flash.clean)
  where
    of : (o : Option ℕ) → oldest s.regions s.flushed ≡ o → AllListed (reclaim_of s o).state
    of None e = all
    of (Some r) e = ended_lists (Reclaimed r) r s (in_range s.regions r (oldest_ending flash s r sound (oldest_is s.regions s.flushed r e)).0.unclean) all

    go : (t : Bool) → AllListed (if t then reclaim_of s (oldest s.regions s.flushed) else unmoved s).state
    go true = of (oldest s.regions s.flushed) refl
    go false = all

-- ---- reads

answered_lists : (flash : FlashConfig) (reading : Reading) (s : Block) → AllListed s → AllListed (answered flash reading s).state
answered_lists flash reading s all = go (is_place (place_at (kept_of flash.bits reading.key) s.index) reading.place)
  where
    of : (o : Option FlashEntry) → AllListed (answer_of (kept_of flash.bits reading.key) reading.key s o).state
    of None = same_regions s (take_index (kept_of flash.bits reading.key) s) refl refl refl refl all
    of (Some entry) = all

    go : (t : Bool) → AllListed (if t then answer_of (kept_of flash.bits reading.key) reading.key s (entry_in (read_bytes flash reading)) else absent s).state
    go true = of (entry_in (read_bytes flash reading))
    go false = all

failed_lists : (flash : FlashConfig) (reading : Reading) (s : Block) → AllListed s → AllListed (failed_read flash reading s).state
failed_lists flash reading s all = go (is_place (place_at (kept_of flash.bits reading.key) s.index) reading.place)
  where
    go : (t : Bool) → AllListed (if t then unreadable (kept_of flash.bits reading.key) s else absent s).state
    go true = same_regions s (take_index (kept_of flash.bits reading.key) s) refl refl refl refl all
    go false = all

pub drains-unclean : (status : Status) → is_draining status ≡ true → is_clean status ≡ false
drains-unclean Clean d = absurd (cc)
drains-unclean Open d = refl
drains-unclean Sealed d = refl
drains-unclean Flushing d = refl
drains-unclean OnFlash d = refl
drains-unclean Draining d = refl

let_go_lists : (r : ℕ) (m : Moved) → AllListed m.state → AllListed (let_go r m).state
let_go_lists r m all = go (is_draining (region_at r m.state.regions).status) refl ((region_at r m.state.regions).pins == 1) refl
  where
    stays : (is_draining (region_at r m.state.regions).status && ((region_at r m.state.regions).pins == 1)) ≡ false → AllListed (let_go r m).state
    stays off = rw off (same_status m.state (with_region r (record (region_at r m.state.regions) { pins = (region_at r m.state.regions).pins - 1 }) m.state) r (record (region_at r m.state.regions) { pins = (region_at r m.state.regions).pins - 1 }) refl refl refl refl refl all)

    go : (d : Bool) → is_draining (region_at r m.state.regions).status ≡ d → (b : Bool) → ((region_at r m.state.regions).pins == 1) ≡ b → AllListed (let_go r m).state
    go true d true b = rw (d, b) (changed_lists m.state (record (with_region r clean_region m.state) { flushed = minus r m.state.flushed }) r clean_region (in_range m.state.regions r (drains-unclean (region_at r m.state.regions).status d)) refl
        (record { current = λ q n h. h; sealed = λ q n h. h; flushed = λ q n h. kept-in q r m.state.flushed n h }) tt all)
    go true d false b = stays (rw (d, b) refl)
    go false d b e = stays (rw d refl)

pub get_lists : (flash : FlashConfig) (number : ℕ) (key : List ℕ) (s : Block) → AllListed s → AllListed (get flash number key s).state
get_lists flash number key s all = go (place_at (kept_of flash.bits key) s.index)
  where
    begun : (p : Place) (t : Bool) → AllListed (if t then read_next flash number (reading_of flash key p s) (pinned p.region s) else answered flash (reading_of flash key p s) s).state
    begun p true = same_status s (read_next flash number (reading_of flash key p s) (pinned p.region s)).state p.region (record (region_at p.region s.regions) { pins = (region_at p.region s.regions).pins + 1 }) refl refl refl refl refl all
    begun p false = answered_lists flash (reading_of flash key p s) s all

    go : (o : Option Place) → AllListed (get_at flash number key o s).state
    go None = all
    go (Some p) = begun p (nat_lt (first_page flash p) (min (region_at p.region s.regions).written (end_page flash p)))

got_lists : (flash : FlashConfig) (number : ℕ) (reading : Reading) (bytes : List ℕ) (s : Block) → AllListed s → AllListed (got_page flash number reading bytes s).state
got_lists flash number reading bytes s all = go (nat_lt (reading.next + 1) reading.until)
  where
    go : (t : Bool) → AllListed (if t then read_next flash number (record reading { got = reading.got ++ bytes; next = reading.next + 1 }) s else let_go reading.place.region (answered flash (record reading { got = reading.got ++ bytes; next = reading.next + 1 }) s)).state
    go true = same_regions s (read_next flash number (record reading { got = reading.got ++ bytes; next = reading.next + 1 }) s).state refl refl refl refl all
    go false = let_go_lists reading.place.region (answered flash (record reading { got = reading.got ++ bytes; next = reading.next + 1 }) s) (answered_lists flash (record reading { got = reading.got ++ bytes; next = reading.next + 1 }) s all)

without-job : (number : ℕ) (s : Block) → AllListed s → AllListed (end_job number s)
without-job number s all = same_regions s (end_job number s) refl refl refl refl all

pub resume_lists : (flash : FlashConfig) (number : ℕ) (work : Work) (result : IoResult) (s : Block) → Sound flash s → work_of number s.jobs ≡ Some work → AllListed s → AllListed (resume flash number work result s).state
resume_lists flash number (Writing r bytes) Written s sound at all = wrote_lists flash number r (region_at r s.regions).status (end_job number s) (without-job number s all)
resume_lists flash number (Writing r bytes) Failed s sound at all = ended_lists Fault r (end_job number s) (in_range s.regions r (written_ending flash number r bytes s sound at).0.unclean) (without-job number s all)
resume_lists flash number (Getting reading) (Page page) s sound at all = got_lists flash number reading page (end_job number s) (without-job number s all)
resume_lists flash number (Getting reading) Failed s sound at all = let_go_lists reading.place.region (failed_read flash reading (end_job number s)) (failed_lists flash reading (end_job number s) (without-job number s all))
resume_lists flash number (Writing r bytes) (Page page) s sound at all = without-job number s all
resume_lists flash number (Getting reading) Written s sound at all = without-job number s all

-- ---- the law

pub stay_listed : RegionsStayListed
stay_listed flash = record {
  at_first = λ r. rw (all_clean flash.regions r) tt;
  after_put = λ entry s sound all. put_lists flash entry s sound all;
  after_flush = λ number s sound all. flush_lists flash number s sound all;
  after_reclaim = λ s sound all. reclaim_lists flash s sound all;
  after_get = λ number key s all. get_lists flash number key s all;
  after_resume = λ number work result s sound at all. resume_lists flash number work result s sound at all;
  after_take = λ hash s all. same_regions s (take_index hash s) refl refl refl refl all;
}

pub lists_are_exact : ListsAreExact
lists_are_exact flash s sound all r = record {
  current = sound.current r;
  opened = λ e. subst (λ (status : Status). IsListed s r status) e (all r);
  sealed = sound.sealed r;
  waits = λ e. subst (λ (status : Status). IsListed s r status) e (all r);
  stored = sound.flushed r;
  flushed = λ e. subst (λ (status : Status). IsListed s r status) e (all r);
}

-- ---- nothing is missed

none_ready : (regions : List Region) (rs : List ℕ) (r : ℕ) → first_ready regions rs ≡ None → is_in r rs ≡ true → (region_at r regions).early ≡ true
none_ready regions [] r e i = absurd (cc)
none_ready regions (y ∷ ys) r e i = go (region_at y regions).early refl e (y == r) refl i (none_ready regions ys r)
  where
    go : (t : Bool) → (region_at y regions).early ≡ t → (if t then first_ready regions ys else Some y) ≡ None → (b : Bool) → (y == r) ≡ b → (if b then true else is_in r ys) ≡ true → (first_ready regions ys ≡ None → is_in r ys ≡ true → (region_at r regions).early ≡ true) → (region_at r regions).early ≡ true
    go true t e true b i f = let same : y ≡ r = eqb-true y r b in subst (λ (z : ℕ). (region_at z regions).early ≡ true) same t
    go true t e false b i f = f e i
    go false t e b q i f = absurd (cc)

pub flush_misses_none : FlushMissesNone
flush_misses_none flash number s all none = (
  λ r e. none_ready s.regions s.sealed r ready (subst (λ (status : Status). IsListed s r status) e (all r)),
  λ r e. open_one r (subst (λ (status : Status). IsListed s r status) e (all r)) (can_go flash (region_at r s.regions)) refl,
)
  where
    ready : first_ready s.regions s.sealed ≡ None
    ready = go (first_ready s.regions s.sealed) refl none
      where
        go : (o : Option ℕ) → first_ready s.regions s.sealed ≡ o → (flush_of flash number s o).order ≡ None → o ≡ None
        go None e h = refl
        go (Some r) e h = absurd (cc)

    early : (early_of flash number s s.current).order ≡ None
    early = ap (λ o. (flush_of flash number s o).order) (sym ready) ∙ none

    open_one : (r : ℕ) → s.current ≡ Some r → (t : Bool) → can_go flash (region_at r s.regions) ≡ t → t ≡ false
    open_one r c true t = absurd (let h : (if can_go flash (region_at r s.regions) then write_out flash number r (record (region_at r s.regions) { early = true }) s else unmoved s).order ≡ None = ap (λ o. (early_of flash number s o).order) (sym c) ∙ early in let k : (write_out flash number r (record (region_at r s.regions) { early = true }) s).order ≡ None = (rw t at h) in cc)
    open_one r c false t = refl
