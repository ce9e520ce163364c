-- No region is filled beyond its bytes.
use Rattle.std.proofs.Common.{◌≡◌, ℕ, ◌+◌, ◌*◌, ◌-◌, ◌<◌, ◌≤◌, ◌==◌, ◌&&◌, Bool, true, false, List, [], length, set, Option, Some, None, refl, sym, subst, arith, inl, inr}
use Rattle.std.proofs.lemmas.Bool.{cases_lt, leb-true}
use Rattle.std.proofs.lemmas.List.{length-append, length-drop, set_past}
use Rattle.std.proofs.lemmas.Nat.{mul-le}
use Rattle.std.specs.Prelude.{if◌then◌else◌, nat_lt, nat_le, min}
use Rattle.hc_types.specs.declared.config.FlashConfig.{FlashConfig}
use Rattle.hc_types.specs.Places.{kept_of}
use Rattle.hc_types.specs.Loss.{Cause, Reclaimed, Fault}
use Rattle.hc_types.specs.FlashEntry.{FlashEntry}
use Rattle.hc_engines.specs.Engine.{IoResult, Page, Written, Failed}
use Rattle.hc_engines.specs.large.Entries.{entry_bytes, entry_in}
use Rattle.hc_engines.specs.large.Region.{Status, Clean, Open, Sealed, Flushing, OnFlash, Draining, is_draining, Region, clean_region, opened_region, region_len, filled_to, page_done, can_go, region_at, lowest_clean}
use Rattle.hc_engines.specs.large.Index.{Place, place_at, is_place}
use Rattle.hc_engines.specs.large.Block.{Reading, Work, Writing, Getting, Block, Moved, unmoved, work_of, end_job}
use Rattle.hc_engines.specs.large.Steps.{fitting, append, seal, open_next, put_fresh, put_into, put, emptied, end_region, clean_count, oldest, reclaim_of, reclaim, write_out, first_ready, early_of, flush_of, flush, go_on, wrote_page, first_page, end_page, reading_of, read_bytes, answer_of, answered, unreadable, absent, failed_read, read_next, pinned, get_at, get, let_go, got_page, resume}
use Rattle.hc_engines.specs.large.Sound.{Sound}
use Rattle.hc_engines.specs.large.Within.{AllWithin, RegionsStayWithin}
use Rattle.hc_engines.specs.large.Unread.{read_on}
use Rattle.hc_engines.proofs.large.Lists.{same_num, region_at-set}
use Rattle.hc_engines.proofs.large.Regions.{lowest_is}
use Rattle.hc_engines.proofs.large.Puts.{seal-length}
use Rattle.hc_engines.proofs.large.Flushes.{step_mul, written_ending}
use Rattle.hc_engines.proofs.large.Fitting.{with_entry}
use Rattle.hc_engines.proofs.large.New.{all_clean}

abbrev pub Within : FlashConfig → List Region → Type 0
Within flash regions = (r : ℕ) → filled_to flash (region_at r regions) ≤ region_len flash

-- one region changes, or none does where there is no such region
pub set_within : (flash : FlashConfig) (regions : List Region) (r : ℕ) (x : Region) → filled_to flash x ≤ region_len flash → Within flash regions → Within flash (set regions r x)
set_within flash regions r x h all = elim (cases_lt r (length regions)) [
  | inl lt ↦ λ q. rw (region_at-set regions r q x lt) (go q (q == r))
  | inr le ↦ subst (λ (rs : List Region). Within flash rs) (sym (set_past regions r x le)) all
]
  where
    go : (q : ℕ) (t : Bool) → filled_to flash (if t then x else region_at q regions) ≤ region_len flash
    go q true = h
    go q false = all q

-- a region that is no fuller than it was
pub no_fuller : (flash : FlashConfig) (regions : List Region) (r : ℕ) (x : Region) → filled_to flash x ≤ filled_to flash (region_at r regions) → Within flash regions → Within flash (set regions r x)
no_fuller flash regions r x h all = set_within flash regions r x (omega (arith, h, all r)) all

-- ---- put

pub sealed_within : (flash : FlashConfig) (c : Option ℕ) (regions : List Region) → Within flash regions → Within flash (seal c regions)
sealed_within flash None regions all = all
sealed_within flash (Some c) regions all = no_fuller flash regions c (record (region_at c regions) { status = Sealed }) (omega arith) all

pub fitting_is : (flash : FlashConfig) (s : Block) (len r : ℕ) (o : Option ℕ) → fitting flash s len o ≡ Some r → filled_to flash (region_at r s.regions) + len ≤ region_len flash
fitting_is flash s len r None e = absurd (cc)
fitting_is flash s len r (Some c) e = go (nat_le (filled_to flash (region_at c s.regions) + len) (region_len flash)) refl e
  where
    go : (b : Bool) → nat_le (filled_to flash (region_at c s.regions) + len) (region_len flash) ≡ b → (if b then Some c else None) ≡ Some r → filled_to flash (region_at r s.regions) + len ≤ region_len flash
    go true b e = let same : c ≡ r = cc in subst (λ (q : ℕ). filled_to flash (region_at q s.regions) + len ≤ region_len flash) same (leb-true (filled_to flash (region_at c s.regions) + len) (region_len flash) b)
    go false b e = absurd (cc)

module _ (flash : FlashConfig) (entry : FlashEntry) where
  pub append_within : (r : ℕ) (s : Block) → filled_to flash (region_at r s.regions) + length (entry_bytes entry) ≤ region_len flash → Within flash s.regions → Within flash (append flash r entry s).regions
  append_within r s h all = set_within flash s.regions r (with_entry flash entry (region_at r s.regions)) (omega (arith, length-append (region_at r s.regions).buffer (entry_bytes entry), h)) all

  fresh_within : (s : Block) → length (entry_bytes entry) ≤ region_len flash → Within flash s.regions → (o : Option ℕ) → lowest_clean 0 s.regions ≡ o → Within flash (put_fresh flash entry s o).state.regions
  fresh_within s short all None l = all
  fresh_within s short all (Some r) l =
      let low = lowest_is s.regions 0 r l in
      let there : r < length (seal s.current s.regions) = omega (arith, seal-length s.current s.regions, low.1, low.2.there) in
      let is_opened : region_at r (open_next r s).regions ≡ opened_region = (rw (region_at-set (seal s.current s.regions) r r opened_region there, same_num r) refl) in
      append_within r (open_next r s) (rw is_opened (omega (arith, short))) (set_within flash (seal s.current s.regions) r opened_region (omega arith) (sealed_within flash s.current s.regions all))

  put_within : (s : Block) → length (entry_bytes entry) ≤ region_len flash → AllWithin flash s → AllWithin flash (put flash entry s).state
  put_within s short all = go (fitting flash s (length (entry_bytes entry)) s.current) refl
    where
      go : (o : Option ℕ) → fitting flash s (length (entry_bytes entry)) s.current ≡ o → Within flash (put_into flash entry s o).state.regions
      go None e = fresh_within s short all (lowest_clean 0 s.regions) refl
      go (Some r) e = append_within r s (fitting_is flash s (length (entry_bytes entry)) r s.current e) all

-- ---- pages

pub flush_within : (flash : FlashConfig) (number : ℕ) (s : Block) → AllWithin flash s → AllWithin flash (flush flash number s).state
flush_within flash number s all = go (first_ready s.regions s.sealed)
  where
    early_one : (r : ℕ) (t : Bool) → Within flash (if t then write_out flash number r (record (region_at r s.regions) { early = true }) s else unmoved s).state.regions
    early_one r true = no_fuller flash s.regions r (record (region_at r s.regions) { early = true }) (omega arith) all
    early_one r false = all

    early : (o : Option ℕ) → Within flash (early_of flash number s o).state.regions
    early None = all
    early (Some r) = early_one r (can_go flash (region_at r s.regions))

    go : (o : Option ℕ) → Within flash (flush_of flash number s o).state.regions
    go None = early s.current
    go (Some r) = no_fuller flash s.regions r (record (region_at r s.regions) { status = Flushing }) (omega arith) all

-- a page that was written leaves the region within its bytes, also where it wasn't full
done_within : (flash : FlashConfig) (region : Region) → region.written < flash.region_pages → filled_to flash region ≤ region_len flash → filled_to flash (page_done flash region) ≤ region_len flash
done_within flash region lt h = elim (cases_lt (length region.buffer) flash.page) [
  | inl short ↦ (let most : (region.written + 1) * flash.page ≤ flash.region_pages * flash.page = mul-le (region.written + 1) flash.page flash.region_pages flash.page (omega (arith, lt)) (omega arith) in omega (arith, length-drop flash.page region.buffer, most, short))
  | inr full ↦ omega (arith, length-drop flash.page region.buffer, step_mul region.written flash.page, h, full)
]

pub wrote_within : (flash : FlashConfig) (number r : ℕ) (status : Status) (s : Block) → (region_at r s.regions).written < flash.region_pages → AllWithin flash s → AllWithin flash (wrote_page flash number r status s).state
wrote_within flash number r status s lt all = go status
  where
    full : filled_to flash (page_done flash (region_at r s.regions)) ≤ region_len flash
    full = done_within flash (region_at r s.regions) lt (all r)

    eases : Within flash (set s.regions r (record (page_done flash (region_at r s.regions)) { early = false }))
    eases = set_within flash s.regions r (record (page_done flash (region_at r s.regions)) { early = false }) full all

    on : (t : Bool) → nat_lt ((region_at r s.regions).written + 1) flash.region_pages ≡ t → Within flash (go_on flash number r (page_done flash (region_at r s.regions)) s).state.regions
    on true t = rw t (set_within flash s.regions r (page_done flash (region_at r s.regions)) full all)
    on false t = rw t (set_within flash s.regions r (record (page_done flash (region_at r s.regions)) { status = OnFlash }) full all)

    go : (status : Status) → Within flash (wrote_page flash number r status s).state.regions
    go Clean = eases
    go Open = eases
    go Sealed = eases
    go Flushing = on (nat_lt ((region_at r s.regions).written + 1) flash.region_pages) refl
    go OnFlash = eases
    go Draining = eases

-- ---- a region ends

pub ended_within : (flash : FlashConfig) (cause : Cause) (r : ℕ) (s : Block) → AllWithin flash s → AllWithin flash (end_region cause r s).state
ended_within flash cause r s all = set_within flash s.regions r (emptied (region_at r s.regions)) (go (region_at r s.regions) ((region_at r s.regions).pins == 0) (all r)) all
  where
    go : (region : Region) (t : Bool) → filled_to flash region ≤ region_len flash → filled_to flash (if t then clean_region else record region { status = Draining; buffer = []; appended = []; early = false }) ≤ region_len flash
    go region true h = omega arith
    go region false h = omega (arith, h)

reclaim_within : (flash : FlashConfig) (s : Block) → AllWithin flash s → AllWithin flash (reclaim flash s).state
reclaim_within flash s all = go (nat_lt (clean_count s.regions) flash.clean)
  where
    of : (o : Option ℕ) → Within flash (reclaim_of s o).state.regions
    of None = all
    of (Some r) = ended_within flash (Reclaimed r) r s all

    go : (t : Bool) → Within flash (if t then reclaim_of s (oldest s.regions s.flushed) else unmoved s).state.regions
    go true = of (oldest s.regions s.flushed)
    go false = all

-- ---- reads

answered_same : (flash : FlashConfig) (reading : Reading) (s : Block) → (answered flash reading s).state.regions ≡ s.regions
answered_same flash reading s = go (is_place (place_at (kept_of flash.bits reading.key) s.index) reading.place)
  where
    of : (o : Option FlashEntry) → (answer_of (kept_of flash.bits reading.key) reading.key s o).state.regions ≡ s.regions
    of None = refl
    of (Some entry) = refl

    go : (t : Bool) → (if t then answer_of (kept_of flash.bits reading.key) reading.key s (entry_in (read_bytes flash reading)) else absent s).state.regions ≡ s.regions
    go true = of (entry_in (read_bytes flash reading))
    go false = refl

failed_same : (flash : FlashConfig) (reading : Reading) (s : Block) → (failed_read flash reading s).state.regions ≡ s.regions
failed_same flash reading s = go (is_place (place_at (kept_of flash.bits reading.key) s.index) reading.place)
  where
    go : (t : Bool) → (if t then unreadable (kept_of flash.bits reading.key) s else absent s).state.regions ≡ s.regions
    go true = refl
    go false = refl

let_go_within : (flash : FlashConfig) (r : ℕ) (m : Moved) (regions : List Region) → m.state.regions ≡ regions → Within flash regions → AllWithin flash (let_go r m).state
let_go_within flash r m regions same within = go (is_draining (region_at r m.state.regions).status && ((region_at r m.state.regions).pins == 1)) refl
  where
    all : Within flash m.state.regions
    all = subst (λ (rs : List Region). Within flash rs) (sym same) within

    go : (t : Bool) → (is_draining (region_at r m.state.regions).status && ((region_at r m.state.regions).pins == 1)) ≡ t → Within flash (let_go r m).state.regions
    go true t = rw t (no_fuller flash m.state.regions r clean_region (omega arith) all)
    go false t = rw t (no_fuller flash m.state.regions r (record (region_at r m.state.regions) { pins = (region_at r m.state.regions).pins - 1 }) (omega arith) all)

get_within : (flash : FlashConfig) (number : ℕ) (key : List ℕ) (s : Block) → AllWithin flash s → AllWithin flash (get flash number key s).state
get_within flash number key s all = go (place_at (kept_of flash.bits key) s.index)
  where
    begun : (p : Place) (t : Bool) → Within flash (if t then read_next flash number (reading_of flash key p s) (pinned p.region s) else answered flash (reading_of flash key p s) s).state.regions
    begun p true = no_fuller flash s.regions p.region (record (region_at p.region s.regions) { pins = (region_at p.region s.regions).pins + 1 }) (omega arith) all
    begun p false = subst (λ (rs : List Region). Within flash rs) (sym (answered_same flash (reading_of flash key p s) s)) all

    go : (o : Option Place) → Within flash (get_at flash number key o s).state.regions
    go None = all
    go (Some p) = begun p (nat_lt (first_page flash p) (min (region_at p.region s.regions).written (end_page flash p)))

got_within : (flash : FlashConfig) (number : ℕ) (reading : Reading) (bytes : List ℕ) (s : Block) → AllWithin flash s → AllWithin flash (got_page flash number reading bytes s).state
got_within flash number reading bytes s all = go (nat_lt (reading.next + 1) reading.until)
  where
    go : (t : Bool) → Within flash (if t then read_next flash number (read_on reading bytes) s else let_go reading.place.region (answered flash (read_on reading bytes) s)).state.regions
    go true = all
    go false = let_go_within flash reading.place.region (answered flash (read_on reading bytes) s) s.regions (answered_same flash (read_on reading bytes) s) all

resume_within : (flash : FlashConfig) (number : ℕ) (work : Work) (result : IoResult) (s : Block) → Sound flash s → work_of number s.jobs ≡ Some work → AllWithin flash s → AllWithin flash (resume flash number work result s).state
resume_within flash number (Writing r bytes) Written s sound at all = wrote_within flash number r (region_at r s.regions).status (end_job number s) (written_ending flash number r bytes s sound at).1 all
resume_within flash number (Writing r bytes) Failed s sound at all = ended_within flash Fault r (end_job number s) all
resume_within flash number (Getting reading) (Page page) s sound at all = got_within flash number reading page (end_job number s) all
resume_within flash number (Getting reading) Failed s sound at all = let_go_within flash reading.place.region (failed_read flash reading (end_job number s)) s.regions (failed_same flash reading (end_job number s)) all
resume_within flash number (Writing r bytes) (Page page) s sound at all = all
resume_within flash number (Getting reading) Written s sound at all = all

pub stay_within : RegionsStayWithin
stay_within flash = record {
  at_first = λ r. rw (all_clean flash.regions r) (omega arith);
  after_put = λ entry s short all. put_within flash entry s short all;
  after_flush = λ number s all. flush_within flash number s all;
  after_reclaim = λ s all. reclaim_within flash s all;
  after_get = λ number key s all. get_within flash number key s all;
  after_resume = λ number work result s sound at all. resume_within flash number work result s sound at all;
  after_take = λ hash s all. all;
}
