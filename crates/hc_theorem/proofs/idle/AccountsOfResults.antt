-- The notes tell of each region in use after each result: of a write, which is told itself, and of a read.
use Rattle.std.proofs.Common.{◌≡◌, ℕ, ◌+◌, ◌-◌, ◌<◌, ◌==◌, ◌&&◌, ◌||◌, Bool, true, false, List, [], ◌∷◌, ◌++◌, length, set, Some, refl, sym, arith, ◌∙◌}
use Rattle.std.proofs.lemmas.Bool.{or_left, or_right}
use Rattle.std.specs.Prelude.{if◌then◌else◌, nat_lt}
use Rattle.hc_types.specs.Places.{kept_of, is_page_of}
use Rattle.hc_types.specs.Loss.{Fault}
use Rattle.hc_types.specs.declared.config.FlashConfig.{FlashConfig}
use Rattle.hc_history.specs.Note.{Note, Wrote}
use Rattle.hc_engines.specs.Engine.{IoResult, Page, Written, Failed}
use Rattle.hc_engines.specs.large.Region.{Status, Clean, Open, Sealed, Flushing, OnFlash, Draining, is_draining, Region, clean_region, page_done, region_at, page_no}
use Rattle.hc_engines.specs.large.Index.{place_at, is_place}
use Rattle.hc_engines.specs.large.Block.{Block, Reading, Writing, Getting, Moved, end_job, with_region}
use Rattle.hc_engines.specs.large.Numbers.{is_in, minus}
use Rattle.hc_engines.specs.large.Sound.{Sound}
use Rattle.hc_engines.specs.large.Steps.{go_on, write_out, wrote_page, answered, unreadable, absent, failed_read, read_next, let_go, got_page, resume}
use Rattle.hc_engines.proofs.large.Lists.{same_num, in_range, is_in-minus, is_in-push}
use Rattle.hc_engines.proofs.large.Flushes.{written_ending}
use Rattle.hc_proof.proofs.writes.Failing.{page-is}
use Rattle.hc_follows.specs.Idle.{has_failed, pages_written}
use Rattle.hc_theorem.specs.idle.Accounted.{WrittenAccounts, FailedWriteAccounts, ReadAccounts}
use Rattle.hc_engines.proofs.large.Listed.{drains-unclean, resume_lists}
use Rattle.hc_theorem.proofs.idle.Accounts.{Counted, counted, accounted, Untouched, untouched_counts, eased_counts, changed_counts, ended_counts, answered_alone}

-- ---- a write is over

pub written_accounts : WrittenAccounts
written_accounts flash number r bytes page older s sound at a = accounted (resume_lists flash number (Writing r bytes) Written s sound at a.listed) (go (region_at r s.regions).status)
  where
    left : Block
    left = end_job number s

    newer : List Note
    newer = Wrote (page_no flash r (region_at r s.regions).written) page true ∷ older

    there : r < length s.regions
    there = in_range s.regions r (written_ending flash number r bytes s sound at).0.unclean

    which : (q : ℕ) → is_page_of flash q (page_no flash r (region_at r s.regions).written) ≡ (r == q)
    which q = page-is flash q r (region_at r s.regions).written (written_ending flash number r bytes s sound at).1

    one_more : s.current ≡ Some r → pages_written flash r newer ≡ (region_at r s.regions).written + 1
    one_more h = rw (which r, same_num r) (omega (arith, a.written r h))

    others_same : (q : ℕ) → (q == r) ≡ false → pages_written flash q newer ≡ pages_written flash q older
    others_same q n = let away : (r == q) ≡ false = (grind (arith, n)) in rw (which q, away) (omega arith)

    -- of the region one page more is written, and it stands where it stood
    grown : (new : Block) (x : Region) → new.regions ≡ set s.regions r x → x.status ≡ (region_at r s.regions).status → x.written ≡ (region_at r s.regions).written + 1 → new.current ≡ s.current → new.flushed ≡ s.flushed → Counted flash newer new
    grown new x e st w c f =
        changed_counts flash older newer s new r x there e (record { drained = λ q n h. rw f h; current = λ q n h. sym c ∙ h; pages = others_same }) (λ h. rw f (a.drained r (sym st ∙ h))) (λ h. one_more (sym c ∙ h) ∙ sym w) (counted a)

    eases : Counted flash newer (with_region r (record (page_done flash (region_at r s.regions)) { early = false }) left)
    eases = grown (with_region r (record (page_done flash (region_at r s.regions)) { early = false }) left) (record (page_done flash (region_at r s.regions)) { early = false }) refl refl refl refl refl

    on : (b : Bool) → nat_lt ((region_at r s.regions).written + 1) flash.region_pages ≡ b → Counted flash newer (go_on flash number r (page_done flash (region_at r s.regions)) left).state
    on true b = rw b (grown (write_out flash number r (page_done flash (region_at r s.regions)) left).state (page_done flash (region_at r s.regions)) refl refl refl refl refl)
    on false b = rw b (changed_counts flash older newer s (record (with_region r (record (page_done flash (region_at r s.regions)) { status = OnFlash }) left) { flushed = s.flushed ++ r ∷ [] }) r (record (page_done flash (region_at r s.regions)) { status = OnFlash }) there refl
        (record { drained = λ q n. more q n (has_failed flash q older); current = λ q n h. h; pages = others_same }) (λ h. absurd (cc)) one_more (counted a))
      where
        more : (q : ℕ) → (q == r) ≡ false → (failed : Bool) → (is_in q s.flushed || failed) ≡ true → (is_in q (s.flushed ++ r ∷ []) || failed) ≡ true
        more q n failed h = rw (is_in-push q r s.flushed, n) h

    go : (status : Status) → Counted flash newer (wrote_page flash number r status left).state
    go Clean = eases
    go Open = eases
    go Sealed = eases
    go Flushing = on (nat_lt ((region_at r s.regions).written + 1) flash.region_pages) refl
    go OnFlash = eases
    go Draining = eases

pub failed_accounts : FailedWriteAccounts
failed_accounts flash number r bytes page older s sound at a =
    let ends = written_ending flash number r bytes s sound at in
    let own : is_page_of flash r (page_no flash r (region_at r s.regions).written) ≡ true = page-is flash r r (region_at r s.regions).written ends.1 ∙ same_num r in
    let failed : has_failed flash r newer ≡ true = or_left _ _ own in
    accounted (resume_lists flash number (Writing r bytes) Failed s sound at a.listed)
    (ended_counts flash Fault r older newer (end_job number s) (in_range s.regions r ends.0.unclean) (or_right _ _ failed)
    (λ q h. or_right _ _ h) (λ q. refl) (record { drained = a.drained; written = a.written }))
  where
    newer : List Note
    newer = Wrote (page_no flash r (region_at r s.regions).written) page false ∷ older

-- ---- a read goes on, or is over

failed_alone : (flash : FlashConfig) (reading : Reading) (s : Block) → Untouched s (failed_read flash reading s).state
failed_alone flash reading s = go (is_place (place_at (kept_of flash.bits reading.key) s.index) reading.place)
  where
    go : (t : Bool) → Untouched s (if t then unreadable (kept_of flash.bits reading.key) s else absent s).state
    go true = record { regions = refl; current = refl; flushed = refl }
    go false = record { regions = refl; current = refl; flushed = refl }

-- the region that drained is clean then, and isn't the current one
let_go_counts : (flash : FlashConfig) (older : List Note) (r : ℕ) (s : Block) (m : Moved) → Sound flash s → Untouched s m.state → Counted flash older s → Counted flash older (let_go r m).state
let_go_counts flash older r s m sound u c = go (is_draining (region_at r m.state.regions).status) refl ((region_at r m.state.regions).pins == 1) refl
  where
    still : Counted flash older m.state
    still = untouched_counts flash older s m.state u c

    stays : (is_draining (region_at r m.state.regions).status && ((region_at r m.state.regions).pins == 1)) ≡ false → Counted flash older (let_go r m).state
    stays off = rw off (eased_counts flash older m.state (with_region r (record (region_at r m.state.regions) { pins = (region_at r m.state.regions).pins - 1 }) m.state) r (record (region_at r m.state.regions) { pins = (region_at r m.state.regions).pins - 1 }) refl refl refl refl refl still)

    more : (q : ℕ) → (q == r) ≡ false → (failed : Bool) → (is_in q m.state.flushed || failed) ≡ true → (is_in q (minus r m.state.flushed) || failed) ≡ true
    more q n failed h = rw (is_in-minus q r m.state.flushed, n) h

    not_current : is_draining (region_at r m.state.regions).status ≡ true → m.state.current ≡ Some r → ⊥
    not_current d h = let o : (region_at r m.state.regions).status ≡ Open = (rw u.regions (sound.current r (sym u.current ∙ h))) in let n : is_draining Open ≡ true = (rw o at d) in cc

    go : (d : Bool) → is_draining (region_at r m.state.regions).status ≡ d → (b : Bool) → ((region_at r m.state.regions).pins == 1) ≡ b → Counted flash older (let_go r m).state
    go true d true b = rw (d, b) (changed_counts flash older older m.state (record (with_region r clean_region m.state) { flushed = minus r m.state.flushed }) r clean_region (in_range m.state.regions r (drains-unclean (region_at r m.state.regions).status d)) refl
        (record { drained = λ q n. more q n (has_failed flash q older); current = λ q n h. h; pages = λ q n. refl }) (λ h. absurd (cc)) (λ h. absurd (not_current d h)) still)
    go true d false b = stays (rw (d, b) refl)
    go false d b e = stays (rw d refl)

pub read_accounts : ReadAccounts
read_accounts flash number reading result older s sound at a = accounted (resume_lists flash number (Getting reading) result s sound at a.listed) (go result)
  where
    c : Counted flash older s
    c = counted a

    ended : Counted flash older (end_job number s)
    ended = record { drained = a.drained; written = a.written }

    from_here : (new : Block) → Untouched (end_job number s) new → Untouched s new
    from_here new u = record { regions = u.regions; current = u.current; flushed = u.flushed }

    got : (bytes : List ℕ) → Counted flash older (got_page flash number reading bytes (end_job number s)).state
    got bytes = on (nat_lt (reading.next + 1) reading.until)
      where
        further : Reading
        further = record reading { got = reading.got ++ bytes; next = reading.next + 1 }

        on : (t : Bool) → Counted flash older (if t then read_next flash number further (end_job number s) else let_go reading.place.region (answered flash further (end_job number s))).state
        on true = record { drained = a.drained; written = a.written }
        on false = let_go_counts flash older reading.place.region s (answered flash further (end_job number s)) sound (from_here (answered flash further (end_job number s)).state (answered_alone flash further (end_job number s))) c

    go : (result : IoResult) → Counted flash older (resume flash number (Getting reading) result s).state
    go (Page bytes) = got bytes
    go Failed = let_go_counts flash older reading.place.region s (failed_read flash reading (end_job number s)) sound (from_here (failed_read flash reading (end_job number s)).state (failed_alone flash reading (end_job number s))) c
    go Written = ended
