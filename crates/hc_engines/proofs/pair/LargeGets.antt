-- What the large engine's gets keep, and what they answer; what is written elsewhere, and taken.
use Rattle.std.proofs.Common.{◌≡◌, ℕ, Bool, true, false, List, [], ◌∷◌, Option, Some, None, refl, sym, inl, inr, ap, subst, ◌∙◌}
use Rattle.std.specs.Prelude.{if◌then◌else◌, is_some, ◌==◌}
use Rattle.hc_types.specs.declared.config.FlashConfig.{FlashConfig}
use Rattle.hc_types.specs.Places.{kept_of}
use Rattle.hc_types.specs.Loss.{Fault}
use Rattle.hc_types.specs.FlashEntry.{FlashEntry}
use Rattle.hc_engines.specs.Engine.{Get, Order, Read, Write, Page, Failed, Answer, Loss, Nothing, Absent, Pages, left_of, found, never, Does, AnswersFor, IsKnown, Serves}
use Rattle.hc_engines.proofs.small.Losses.{left-none}
use Rattle.hc_engines.specs.large.Index.{Place, place_at, is_place}
use Rattle.hc_engines.specs.large.Block as block
use Rattle.hc_engines.specs.large.Block.{Block, Reading, Getting}
use Rattle.hc_engines.specs.large.Steps.{lost, get, resume}
use Rattle.hc_engines.specs.large.Held.{held}
use Rattle.hc_engines.specs.large.Fits.{answer_by}
use Rattle.hc_engines.specs.large.Steady.{IsReadable, Reads, Stopped}
use Rattle.hc_engines.proofs.large.GoodGets.{get_keeps, read_keeps, failed_read_keeps}
use Rattle.hc_engines.proofs.large.GoodSteps.{take_keeps, others_keep}
use Rattle.hc_engines.proofs.large.Holding.{held_taken}
use Rattle.hc_engines.proofs.large.Lists.{same_num}
use Rattle.hc_engines.specs.pair.Pair.{next_of}
use Rattle.hc_engines.specs.pair.Large.{large_held, LargeFits, Stale, LargeGetServes, LargeReadServes, LargeFailedReadServes, LargeTells, LargeStays, LargeTakes}
use Rattle.hc_engines.proofs.pair.LargeLosses.{ArePlain}
use Rattle.hc_engines.proofs.pair.LargeServes.{left, plain_fits, known_done}

-- what is answered of what is held
by_found : (o : Option FlashEntry) → answer_by o ≡ found o
by_found None = refl
by_found (Some e) = refl

-- a part of a get whose answer is right where it is over
reads_serve : (flash : FlashConfig) (pages : Pages) (stale : Answer → Type 0) (key : List ℕ) (s : Block) (m : block.Moved) → LargeFits flash s pages → Reads flash pages s m
    → (m.order ≡ None → AnswersFor stale (Get key) m.outcome.answer (large_held flash m.state pages))
    → Serves (LargeFits flash) (large_held flash) stale flash (Get key) (next_of m.outcome m.order) s pages m.state pages
reads_serve flash pages stale key s m fits r right = record {
  fit = record { good = r.good; large = λ k x h. fits.large k x (sym (r.same k) ∙ h); some_bytes = fits.some_bytes; some_pages = fits.some_pages };
  does = does m.order right r.goes_on;
  known = known m.order r.known;
}
  where
    left : (k : List ℕ) → held flash pages m.state k ≡ left_of flash m.outcome.losses (held flash pages s k)
    left k = r.same k ∙ rw r.losses (sym (left-none flash (held flash pages s k)))

    does : (o : Option Order) → (o ≡ None → AnswersFor stale (Get key) m.outcome.answer (large_held flash m.state pages)) → (is_some o ≡ true → m.outcome.answer ≡ Nothing)
        → Does stale flash (Get key) (next_of m.outcome o) (large_held flash s pages) (large_held flash m.state pages)
    does None f g = (left, f refl)
    does (Some order) f g = (g refl, left)

    known : (o : Option Order) → IsReadable pages o → IsKnown pages (next_of m.outcome o)
    known None k = tt
    known (Some (Read page)) k = k
    known (Some (Write page bytes)) k = tt

pub large_get_serves : LargeGetServes
large_get_serves flash pages number key s fits free =
    let b = get_keeps flash pages number key s free fits.some_bytes fits.good in
    let m = get flash number key s in
    reads_serve flash pages never key s m fits b.reads
    (λ none. inl (ap (λ (x : block.Moved). x.outcome.answer) (b.right none) ∙ by_found (held flash pages s key) ∙ ap found (sym (b.reads.same key))))

pub large_read_serves : LargeReadServes
large_read_serves flash pages number reading bytes s fits at honest =
    let w = read_keeps flash pages number reading bytes s fits.some_bytes at honest fits.good in
    let m = resume flash number (Getting reading) (Page bytes) s in
    reads_serve flash pages (Stale flash s reading) reading.key s m fits w.reads (λ none. by (is_place (place_at (kept_of flash.bits reading.key) s.index) reading.place) refl (w.right none) (w.reads.same reading.key))
  where
    by : (t : Bool) → is_place (place_at (kept_of flash.bits reading.key) s.index) reading.place ≡ t
        → (resume flash number (Getting reading) (Page bytes) s).outcome.answer ≡ (if t then answer_by (held flash pages s reading.key) else Absent)
        → held flash pages (resume flash number (Getting reading) (Page bytes) s).state reading.key ≡ held flash pages s reading.key
        → AnswersFor (Stale flash s reading) (Get reading.key) (resume flash number (Getting reading) (Page bytes) s).outcome.answer (large_held flash (resume flash number (Getting reading) (Page bytes) s).state pages)
    by true t a same = inl (a ∙ by_found (held flash pages s reading.key) ∙ ap found (sym same))
    by false t a same = inr (record { moved_on = t; absent = a })

-- ---- a page couldn't be read

fault_plain : (flash : FlashConfig) (hash : ℕ) (t : Bool) (losses : List Loss) → losses ≡ (if t then lost Fault (hash ∷ []) else []) → ArePlain losses
fault_plain flash hash true losses e = subst ArePlain (sym e) (refl, tt)
fault_plain flash hash false losses e = subst ArePlain (sym e) tt

pub large_failed_read_serves : LargeFailedReadServes
large_failed_read_serves flash pages number reading s fits at = record {
  fit = plain_fits flash (Get reading.key) s pages pages m fits w.good plain w.holds;
  does = does m.order w.over;
  known = known_done pages m.order m.outcome w.over;
}
  where
    m : block.Moved
    m = resume flash number (Getting reading) Failed s

    w : Stopped flash pages reading s (resume flash number (Getting reading) Failed s)
    w = failed_read_keeps flash pages number reading s at fits.good

    plain : ArePlain (resume flash number (Getting reading) Failed s).outcome.losses
    plain = fault_plain flash (kept_of flash.bits reading.key) (is_place (place_at (kept_of flash.bits reading.key) s.index) reading.place) _ w.losses

    answer : (t : Bool) → is_place (place_at (kept_of flash.bits reading.key) s.index) reading.place ≡ t
        → AnswersFor (Stale flash s reading) (Get reading.key) (resume flash number (Getting reading) Failed s).outcome.answer (large_held flash (resume flash number (Getting reading) Failed s).state pages)
    answer true t =
        let losses : (resume flash number (Getting reading) Failed s).outcome.losses ≡ lost Fault (kept_of flash.bits reading.key ∷ []) = w.losses ∙ rw t refl in
        let gone : held flash pages (resume flash number (Getting reading) Failed s).state reading.key ≡ None = w.holds reading.key ∙ rw (losses, same_num (kept_of flash.bits reading.key)) refl in
        inl (w.absent ∙ ap found (sym gone))
    answer false t = inr (record { moved_on = t; absent = w.absent })

    does : (o : Option Order) → o ≡ None → Does (Stale flash s reading) flash (Get reading.key) (next_of (resume flash number (Getting reading) Failed s).outcome o) (large_held flash s pages) (large_held flash (resume flash number (Getting reading) Failed s).state pages)
    does None e = (left flash (Get reading.key) s pages pages m fits w.good plain w.holds, answer (is_place (place_at (kept_of flash.bits reading.key) s.index) reading.place) refl)
    does (Some order) e = absurd cc

-- ---- what is written elsewhere, and index entries that are taken

pub large_tells : LargeTells
large_tells flash pages s key h = by (place_at (kept_of flash.bits key) s.index) refl
  where
    by : (o : Option Place) → place_at (kept_of flash.bits key) s.index ≡ o → is_some (place_at (kept_of flash.bits key) s.index) ≡ true
    by None e = absurd (h (rw e refl))
    by (Some p) e = rw e refl

pub large_stays : LargeStays
large_stays flash pages page bytes s below fits =
    let both = others_keep flash pages page bytes s below fits.good in (
      record { good = both.0; large = λ k x h. fits.large k x (sym (both.1 k) ∙ h); some_bytes = fits.some_bytes; some_pages = fits.some_pages },
      both.1,
    )

pub large_takes : LargeTakes
large_takes flash pages hash s fits = (
  record { good = take_keeps flash pages hash s fits.good; large = λ k x h. fits.large k x (was k x (kept_of flash.bits k == hash) (sym (held_taken flash pages s hash k) ∙ h)); some_bytes = fits.some_bytes; some_pages = fits.some_pages },
  held_taken flash pages s hash,
)
  where
    was : (k : List ℕ) (x : FlashEntry) (t : Bool) → (if t then None else held flash pages s k) ≡ Some x → held flash pages s k ≡ Some x
    was k x true h = absurd cc
    was k x false h = h
