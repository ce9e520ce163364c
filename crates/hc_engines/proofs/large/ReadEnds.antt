-- What BlockCache holds while reads begin and end.
use Rattle.std.proofs.Common.{◌≡◌, ℕ, ◌+◌, ◌-◌, ◌<◌, ◌≤◌, ◌&&◌, Bool, true, false, List, length, set, Option, Some, None, refl, sym, ap, subst, arith, ◌∙◌}
use Rattle.std.proofs.lemmas.Bool.{eqb-true}
use Rattle.std.specs.Prelude.{if◌then◌else◌, ◌==◌}
use Rattle.hc_types.specs.declared.config.FlashConfig.{FlashConfig}
use Rattle.hc_types.specs.Places.{kept_of}
use Rattle.hc_engines.specs.Engine.{Outcome, nothing}
use Rattle.hc_engines.specs.large.Region.{is_draining, Region, clean_region, region_at, page_no}
use Rattle.hc_engines.specs.large.Index.{place_at, is_place}
use Rattle.hc_engines.specs.large.Block.{Block, Reading, Getting, finished, work_of, end_job}
use Rattle.hc_engines.specs.large.Steps.{first_page, answered, let_go, take_index}
use Rattle.hc_engines.specs.large.Held.{bytes_or_none, held}
use Rattle.hc_engines.specs.large.Sound.{Sound, is_live}
use Rattle.hc_engines.specs.large.Fits.{Fits, ReadsHold, answer_by}
use Rattle.hc_engines.proofs.large.Lists.{same_num, in_range, region_at-set}
use Rattle.hc_engines.proofs.large.Fitting.{Grows, same_region, pages_long}
use Rattle.hc_engines.proofs.large.Flushes.{not_both}
use Rattle.hc_engines.proofs.large.Jobs.{work_holds}
use Rattle.hc_engines.proofs.large.Holding.{held_same, held_taken}
use Rattle.hc_engines.proofs.large.Promise.{read_ends, answers_held, read_more, is-place}
use Rattle.hc_engines.proofs.large.GetStays.{indexed_live, read_unclean, fits_left}
use Rattle.hc_engines.specs.large.Numbers.{minus}
use Rattle.hc_engines.proofs.large.GetStays.{draining_dead}
use Rattle.hc_engines.proofs.large.GetStays.{own_read}
use Rattle.hc_engines.specs.large.Unread.{read_on}

-- a region changes, and not in the bytes that something leads to
pub set_held : (flash : FlashConfig) (pages : ℕ → Option (List ℕ)) (s new : Block) (r : ℕ) (x : Region) → Sound flash s → Fits flash pages s → r < length s.regions → new.regions ≡ set s.regions r x → new.index ≡ s.index
    → (is_live (region_at r s.regions).status ≡ true → (x.written ≡ (region_at r s.regions).written) × (x.buffer ≡ (region_at r s.regions).buffer))
    → (key : List ℕ) → held flash pages new key ≡ held flash pages s key
set_held flash pages s new r x sound fits lt er ei same key = held_same flash pages pages s new fits ei (λ h p e. grows p.region (indexed_live flash s h p sound e) (p.region == r) refl) key
  where
    grows : (q : ℕ) → is_live (region_at q s.regions).status ≡ true → (t : Bool) → (q == r) ≡ t → Grows flash pages pages s new q
    grows q live true t =
        let e : q ≡ r = eqb-true q r t in
        let l : is_live (region_at r s.regions).status ≡ true = subst (λ (z : ℕ). is_live (region_at z s.regions).status ≡ true) e live in
        subst (λ (z : ℕ). Grows flash pages pages s new z) (sym e) (same_region flash pages s new r (rw (er, region_at-set s.regions r r x lt, same_num r) (same l).0) (rw (er, region_at-set s.regions r r x lt, same_num r) (same l).1))
    grows q live false t = same_region flash pages s new q (rw (er, region_at-set s.regions r q x lt, t) refl) (rw (er, region_at-set s.regions r q x lt, t) refl)

module _ (flash : FlashConfig) (pages : ℕ → Option (List ℕ)) (number : ℕ) (reading : Reading) (s : Block) (sound : Sound flash s) (fits : Fits flash pages s) (at : work_of number s.jobs ≡ Some (Getting reading)) where
  there : reading.place.region < length s.regions
  there = in_range s.regions reading.place.region (read_unclean flash number reading s sound at)

  -- a read lets its region go
  pub let_go_held : (o : Outcome) (key : List ℕ) → held flash pages (let_go reading.place.region (finished (end_job number s) o)).state key ≡ held flash pages s key
  let_go_held o key = go (is_draining (region_at reading.place.region s.regions).status) refl ((region_at reading.place.region s.regions).pins == 1)
    where
      go : (d : Bool) → is_draining (region_at reading.place.region s.regions).status ≡ d → (n : Bool)
          → held flash pages (if d && n then record (finished (end_job number s) o) { state = record (record (end_job number s) { regions = set s.regions reading.place.region clean_region }) { flushed = minus reading.place.region s.flushed }; outcome = record o { cleared = Some reading.place.region } } else record (finished (end_job number s) o) { state = record (end_job number s) { regions = set s.regions reading.place.region (record (region_at reading.place.region s.regions) { pins = (region_at reading.place.region s.regions).pins - 1 }) } }).state key ≡ held flash pages s key
      go true d true =
          set_held flash pages s (record (record (end_job number s) { regions = set s.regions reading.place.region clean_region }) { flushed = minus reading.place.region s.flushed }) reading.place.region clean_region sound fits there refl refl
          (λ live. absurd (not_both (is_live (region_at reading.place.region s.regions).status) live (draining_dead (region_at reading.place.region s.regions).status d))) key
      go true d false = set_held flash pages s (record (end_job number s) { regions = set s.regions reading.place.region (record (region_at reading.place.region s.regions) { pins = (region_at reading.place.region s.regions).pins - 1 }) }) reading.place.region (record (region_at reading.place.region s.regions) { pins = (region_at reading.place.region s.regions).pins - 1 }) sound fits there refl refl (λ live. (refl, refl)) key
      go false d n = set_held flash pages s (record (end_job number s) { regions = set s.regions reading.place.region (record (region_at reading.place.region s.regions) { pins = (region_at reading.place.region s.regions).pins - 1 }) }) reading.place.region (record (region_at reading.place.region s.regions) { pins = (region_at reading.place.region s.regions).pins - 1 }) sound fits there refl refl (λ live. (refl, refl)) key

  -- and an index entry is taken
  pub taken_held : (o : Outcome) (hash : ℕ) (key : List ℕ) → held flash pages (let_go reading.place.region (finished (take_index hash (end_job number s)) o)).state key ≡ (if kept_of flash.bits key == hash then None else held flash pages s key)
  taken_held o hash key = ap (λ (b : Block). held flash pages b key) (swap (is_draining (region_at reading.place.region s.regions).status && ((region_at reading.place.region s.regions).pins == 1)) refl) ∙ held_taken flash pages (let_go reading.place.region (finished (end_job number s) o)).state hash key ∙ ap (λ h. if kept_of flash.bits key == hash then None else h) (let_go_held o key)
    where
      swap : (t : Bool) → (is_draining (region_at reading.place.region s.regions).status && ((region_at reading.place.region s.regions).pins == 1)) ≡ t → (let_go reading.place.region (finished (take_index hash (end_job number s)) o)).state ≡ take_index hash (let_go reading.place.region (finished (end_job number s) o)).state
      swap true t = rw t refl
      swap false t = rw t refl

-- where a read lets its region go, the answer and the losses stay
pub record LetGo (r : ℕ) (s : Block) (o : Outcome) : Type 0 where
  pub answer : (let_go r (finished s o)).outcome.answer ≡ o.answer
  pub losses : (let_go r (finished s o)).outcome.losses ≡ o.losses
  pub order : (let_go r (finished s o)).order ≡ None

pub let_go_is : (r : ℕ) (s : Block) (o : Outcome) → LetGo r s o
let_go_is r s o = go (is_draining (region_at r s.regions).status && ((region_at r s.regions).pins == 1)) refl
  where
    go : (t : Bool) → (is_draining (region_at r s.regions).status && ((region_at r s.regions).pins == 1)) ≡ t → LetGo r s o
    go true t = record { answer = rw t refl; losses = rw t refl; order = rw t refl }
    go false t = record { answer = rw t refl; losses = rw t refl; order = rw t refl }

pub page_there : (o : Option (List ℕ)) (n : ℕ) → 0 < n → length (bytes_or_none o) ≡ n → (bytes : List ℕ) × (o ≡ Some bytes)
page_there None n some e = absurd (let z : 0 ≡ n = e in omega arith)
page_there (Some bytes) n some e = (bytes, refl)

-- the last page was read: the answer is what is held, where the index entry is the same
pub last_read : (flash : FlashConfig) (pages : ℕ → Option (List ℕ)) (number : ℕ) (reading : Reading) (bytes : List ℕ) (s : Block) → Sound flash s → Fits flash pages s → ReadsHold flash pages s s.jobs → work_of number s.jobs ≡ Some (Getting reading)
    → pages (page_no flash reading.place.region reading.next) ≡ Some bytes → reading.until ≤ reading.next + 1 → is_place (place_at (kept_of flash.bits reading.key) s.index) reading.place ≡ true
    → answered flash (read_on reading bytes) (end_job number s) ≡ finished (end_job number s) (record nothing { answer = answer_by (held flash pages s reading.key) })
last_read flash pages number reading bytes s sound fits reads at honest last t =
    let u = read_unclean flash number reading s sound at in
    let w = work_holds flash s.regions number (Getting reading) s.jobs sound.works at in
    let own = own_read flash pages number reading s s.jobs reads at in
    let holds = read_more flash pages s reading bytes own honest in
    let there = is-place (place_at (kept_of flash.bits reading.key) s.index) reading.place t in
    let live = indexed_live flash s (kept_of flash.bits reading.key) reading.place sound there in
    let long = pages_long flash pages reading.place.region (first_page flash reading.place) (λ i lt. fits.known reading.place.region i u (omega (arith, w.0, w.1, own.begun))) in
    let ends = read_ends flash pages s (read_on reading bytes) holds live (omega (arith, w.0)) long in
    answers_held flash pages (end_job number s) (read_on reading bytes) (fits_left flash pages number s fits) ends t
