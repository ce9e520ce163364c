-- What the large engine holds changes exactly by its outcome: puts, reclaims, and pages that go out.
use Rattle.std.proofs.Common.{◌≡◌, ℕ, ◌+◌, ◌||◌, Bool, true, false, List, [], ◌∷◌, length, Option, Some, None, refl, sym, inl, inr, ap, subst, ◌∙◌}
use Rattle.std.specs.Prelude.{if◌then◌else◌, is_some, nat_lt}
use Rattle.hc_types.specs.declared.config.FlashConfig.{FlashConfig}
use Rattle.hc_types.specs.Places.{kept_of, is_small_by}
use Rattle.hc_types.specs.Loss.{Key, NoCleanRegion, Reclaimed, Fault}
use Rattle.hc_types.specs.FlashEntry.{FlashEntry}
use Rattle.hc_bucket.proofs.Numbers.{some_is}
use Rattle.hc_engines.specs.Engine.{Op, Put, Flush, Reclaim, Order, Read, Write, Written, Failed, Nothing, Over, Loss, Outcome, Pages, with_page, never, is_lost, left_of, Does, IsKnown}
use Rattle.hc_engines.proofs.small.Losses.{left-none}
use Rattle.hc_engines.specs.large.Entries.{entry_bytes}
use Rattle.hc_engines.specs.large.Region.{Status, Clean, Open, Sealed, Flushing, OnFlash, Draining, page_done, can_go, region_at, lowest_clean}
use Rattle.hc_engines.specs.large.Index.{place_at}
use Rattle.hc_engines.specs.large.Block as block
use Rattle.hc_engines.specs.large.Block.{Block, Writing, unmoved, end_job}
use Rattle.hc_engines.specs.large.Steps.{fitting, collided, put_fresh, put_into, put, clean_count, oldest, reclaim_of, reclaim, write_out, first_ready, early_of, flush_of, flush, go_on, wrote_page, resume}
use Rattle.hc_engines.specs.large.Held.{held}
use Rattle.hc_engines.specs.large.Good.{Good}
use Rattle.hc_engines.specs.large.Laws.{has_room, after_put, loses, written_page}
use Rattle.hc_engines.proofs.large.HeldKeys.{held_own}
use Rattle.hc_engines.proofs.large.HeldChanges.{put_changes, reclaim_changes, flush_changes, written_changes, failed_write_changes}
use Rattle.hc_engines.proofs.large.GoodSteps.{put_keeps, reclaim_keeps, flush_keeps, written_keeps, failed_write_keeps}
use Rattle.hc_engines.specs.pair.Pair.{next_of}
use Rattle.hc_engines.specs.pair.Held.{IsCarriedOut}
use Rattle.hc_engines.specs.pair.Large.{large_held, LargeFits, LargeServes, LargePutServes, LargeReclaimServes, LargeFlushServes, LargeWrittenServes, LargeFailedWriteServes}
use Rattle.hc_engines.proofs.pair.LargeLosses.{held-indexed, ArePlain, plain-lost, plain-left, collision-left}

own_at : (flash : FlashConfig) (s : Block) (pages : Pages) → LargeFits flash s pages → (key : List ℕ) (x : FlashEntry) → held flash pages s key ≡ Some x → (x.key ≡ key) × (is_small_by flash x.key (length x.value) ≡ false)
own_at flash s pages fits key x h = (held_own flash pages s key x h, fits.large key x h)

left-was : (flash : FlashConfig) (losses : List Loss) (o : Option FlashEntry) (e : FlashEntry) → left_of flash losses o ≡ Some e → o ≡ Some e
left-was flash losses None e h = absurd cc
left-was flash losses (Some x) e h = go (is_lost flash losses x) h
  where
    go : (t : Bool) → (if t then None else Some x) ≡ Some e → Some x ≡ Some e
    go true h = absurd cc
    go false h = h

-- ---- put

-- what a put tells
record PutIs (flash : FlashConfig) (e : FlashEntry) (s : Block) (room : Bool) (m : block.Moved) : Type 0 where
  order : m.order ≡ None
  answer : m.outcome.answer ≡ (if room then Over else Nothing)
  losses : m.outcome.losses ≡ (if room then collided (kept_of flash.bits e.key) e.key (place_at (kept_of flash.bits e.key) s.index) else record { scope = Key e.key; cause = NoCleanRegion } ∷ [])

put_is : (flash : FlashConfig) (e : FlashEntry) (s : Block) (o : Option ℕ) → PutIs flash e s (is_some o || is_some (lowest_clean 0 s.regions)) (put_into flash e s o)
put_is flash e s (Some r) = record { order = refl; answer = refl; losses = refl }
put_is flash e s None = fresh (lowest_clean 0 s.regions)
  where
    fresh : (l : Option ℕ) → PutIs flash e s (is_some l) (put_fresh flash e s l)
    fresh None = record { order = refl; answer = refl; losses = refl }
    fresh (Some r) = record { order = refl; answer = refl; losses = refl }

-- a put is over, or found no clean region
pub put_carried_out : (flash : FlashConfig) (e : FlashEntry) (s : Block) → IsCarriedOut (Put e) (next_of (put flash e s).outcome (put flash e s).order)
put_carried_out flash e s = by (has_room flash e s) (put_is flash e s (fitting flash s (length (entry_bytes e)) s.current))
  where
    by : (room : Bool) → PutIs flash e s room (put flash e s) → IsCarriedOut (Put e) (next_of (put flash e s).outcome (put flash e s).order)
    by true p = rw p.order (inl p.answer)
    by false p = rw p.order (inr (p.answer, p.losses))

module _ (flash : FlashConfig) (pages : Pages) (e : FlashEntry) (s : Block) (fits : LargeFits flash s pages) (big : is_small_by flash e.key (length e.value) ≡ false) where
  there : (key : List ℕ) (x : FlashEntry) → held flash pages s key ≡ Some x → kept_of flash.bits key ≡ kept_of flash.bits e.key → place_at (kept_of flash.bits e.key) s.index ≡ None → ⊥
  there key x h same none = held-indexed flash pages s key x h (ap (λ n. place_at n s.index) same ∙ none)

  unplaced : (o : Option FlashEntry) → o ≡ left_of flash (record { scope = Key e.key; cause = NoCleanRegion } ∷ []) o
  unplaced None = refl
  unplaced (Some x) = refl

  put_does : (room : Bool) (m : block.Moved) → PutIs flash e s room m
      → ((key : List ℕ) → held flash pages m.state key ≡ (if room then after_put flash e key (held flash pages s key) else held flash pages s key))
      → Does never flash (Put e) (next_of m.outcome m.order) (large_held flash s pages) (large_held flash m.state pages)
  put_does true m p new = rw (p.order, p.answer, p.losses) ((λ key. new key ∙ collision-left flash e key (held flash pages s key) (place_at (kept_of flash.bits e.key) s.index) big (own_at flash s pages fits key) (there key)), inl tt)
  put_does false m p new = rw (p.order, p.answer, p.losses) ((λ key. new key ∙ unplaced (held flash pages s key)), inl tt)

  -- what is held after it is large
  still_large : (room : Bool) (m : block.Moved) → ((key : List ℕ) → held flash pages m.state key ≡ (if room then after_put flash e key (held flash pages s key) else held flash pages s key))
      → (key : List ℕ) (x : FlashEntry) → held flash pages m.state key ≡ Some x → is_small_by flash x.key (length x.value) ≡ false
  still_large false m new key x h = fits.large key x (sym (new key) ∙ h)
  still_large true m new key x h = by (after_put flash e key (held flash pages s key)) refl (sym (new key) ∙ h)
    where
      pick : (a b : Bool) → (if a then (if b then Some e else None) else held flash pages s key) ≡ Some x → is_small_by flash x.key (length x.value) ≡ false
      pick true true k = subst (λ (y : FlashEntry). is_small_by flash y.key (length y.value) ≡ false) (some_is e x k) big
      pick true false k = absurd cc
      pick false b k = fits.large key x k

      by : (o : Option FlashEntry) → after_put flash e key (held flash pages s key) ≡ o → after_put flash e key (held flash pages s key) ≡ Some x → is_small_by flash x.key (length x.value) ≡ false
      by o i k = pick _ _ k

pub known_done : (pages : Pages) (o : Option Order) (outcome : Outcome) → o ≡ None → IsKnown pages (next_of outcome o)
known_done pages o outcome none = rw none tt

pub large_put_serves : LargePutServes
large_put_serves flash pages e s fits big is_large =
    let m = put flash e s in
    let p = put_is flash e s (fitting flash s (length (entry_bytes e)) s.current) in
    let new = λ (key : List ℕ). put_changes flash pages e s key fits.some_pages is_large fits.good in
    record {
      fit = record { good = put_keeps flash pages e s fits.some_pages is_large fits.good; large = still_large flash pages e s fits big (has_room flash e s) m new; some_bytes = fits.some_bytes; some_pages = fits.some_pages };
      does = put_does flash pages e s fits big (has_room flash e s) m p new;
      known = known_done pages m.order m.outcome p.order;
    }

-- ---- a step whose losses are of hashes

module _ (flash : FlashConfig) (op : Op) (s : Block) (pages after : Pages) (m : block.Moved) (fits : LargeFits flash s pages) (good : Good flash after m.state) (plain : ArePlain m.outcome.losses)
    (new : (key : List ℕ) → held flash after m.state key ≡ (if loses (kept_of flash.bits key) m.outcome.losses then None else held flash pages s key)) where
  pub left : (key : List ℕ) → held flash after m.state key ≡ left_of flash m.outcome.losses (held flash pages s key)
  left key = new key ∙ plain-left flash m.outcome.losses key (held flash pages s key) plain (own_at flash s pages fits key)

  pub plain_fits : LargeFits flash m.state after
  plain_fits = record {
    good = good;
    large = λ key x h. fits.large key x (left-was flash m.outcome.losses (held flash pages s key) x (sym (left key) ∙ h));
    some_bytes = fits.some_bytes;
    some_pages = fits.some_pages;
  }

pub large_reclaim_serves : LargeReclaimServes
large_reclaim_serves flash pages s fits = record {
  fit = plain_fits flash Reclaim s pages pages (reclaim flash s) fits (reclaim_keeps flash pages s fits.good) is_plain.0 (λ key. reclaim_changes flash pages s key fits.good);
  does = rw is_plain.1 (left flash Reclaim s pages pages (reclaim flash s) fits (reclaim_keeps flash pages s fits.good) is_plain.0 (λ key. reclaim_changes flash pages s key fits.good), inl tt);
  known = known_done pages (reclaim flash s).order (reclaim flash s).outcome is_plain.1;
}
  where
    is_plain : ArePlain (reclaim flash s).outcome.losses × ((reclaim flash s).order ≡ None)
    is_plain = go (nat_lt (clean_count s.regions) flash.clean)
      where
        of : (o : Option ℕ) → ArePlain (reclaim_of s o).outcome.losses × ((reclaim_of s o).order ≡ None)
        of None = (tt, refl)
        of (Some r) = (plain-lost (Reclaimed r) _ refl, refl)

        go : (t : Bool) → ArePlain (if t then reclaim_of s (oldest s.regions s.flushed) else unmoved s).outcome.losses × ((if t then reclaim_of s (oldest s.regions s.flushed) else unmoved s).order ≡ None)
        go true = of (oldest s.regions s.flushed)
        go false = (tt, refl)

pub large_failed_write_serves : LargeFailedWriteServes
large_failed_write_serves flash pages number r bytes s fits at =
    let m = resume flash number (Writing r bytes) Failed s in
    let after = with_page pages (written_page flash r s) None in
    let good = failed_write_keeps flash pages number r bytes s at fits.good in
    let new = λ (key : List ℕ). failed_write_changes flash pages number r bytes s key at fits.good in
    let plain : ArePlain m.outcome.losses = plain-lost Fault _ refl in
    record {
      fit = plain_fits flash Flush s pages after m fits good plain new;
      does = (left flash Flush s pages after m fits good plain new, inl tt);
      known = tt;
    }

-- ---- a step that takes nothing out

abbrev IsWrite : Option Order → Type 0
IsWrite None = Unit {0}
IsWrite (Some (Read page)) = ⊥
IsWrite (Some (Write page bytes)) = Unit {0}

-- it writes a page, or is over, and loses nothing
record QuietIs (m : block.Moved) : Type 0 where
  order : IsWrite m.order
  losses : m.outcome.losses ≡ []
  goes_on : is_some m.order ≡ true → m.outcome.answer ≡ Nothing

quiet_serves : (flash : FlashConfig) (s : Block) (pages after : Pages) (m : block.Moved) → LargeFits flash s pages → QuietIs m → Good flash after m.state → ((key : List ℕ) → held flash after m.state key ≡ held flash pages s key)
    → LargeServes flash Flush s pages m after
quiet_serves flash s pages after m fits is good same = record {
  fit = record { good = good; large = λ key x h. fits.large key x (sym (same key) ∙ h); some_bytes = fits.some_bytes; some_pages = fits.some_pages };
  does = does m.order is.goes_on;
  known = known m.order is.order;
}
  where
    left : (key : List ℕ) → held flash after m.state key ≡ left_of flash m.outcome.losses (held flash pages s key)
    left key = same key ∙ rw is.losses (sym (left-none flash (held flash pages s key)))

    does : (o : Option Order) → (is_some o ≡ true → m.outcome.answer ≡ Nothing) → Does never flash Flush (next_of m.outcome o) (large_held flash s pages) (large_held flash m.state after)
    does None f = (left, inl tt)
    does (Some order) f = (f refl, left)

    known : (o : Option Order) → IsWrite o → IsKnown after (next_of m.outcome o)
    known None w = tt
    known (Some (Read page)) w = absurd w
    known (Some (Write page bytes)) w = tt

flush_is : (flash : FlashConfig) (number : ℕ) (s : Block) → QuietIs (flush flash number s)
flush_is flash number s = go (first_ready s.regions s.sealed)
  where
    early_one : (r : ℕ) (t : Bool) → QuietIs (if t then write_out flash number r (record (region_at r s.regions) { early = true }) s else unmoved s)
    early_one r true = record { order = tt; losses = refl; goes_on = λ g. refl }
    early_one r false = record { order = tt; losses = refl; goes_on = λ g. absurd cc }

    early : (o : Option ℕ) → QuietIs (early_of flash number s o)
    early None = record { order = tt; losses = refl; goes_on = λ g. absurd cc }
    early (Some r) = early_one r (can_go flash (region_at r s.regions))

    go : (o : Option ℕ) → QuietIs (flush_of flash number s o)
    go None = early s.current
    go (Some r) = record { order = tt; losses = refl; goes_on = λ g. refl }

pub large_flush_serves : LargeFlushServes
large_flush_serves flash pages number s fits free = quiet_serves flash s pages pages (flush flash number s) fits (flush_is flash number s) (flush_keeps flash pages number s free fits.good) (λ key. flush_changes flash pages number s key fits.good)

wrote_is : (flash : FlashConfig) (number r : ℕ) (status : Status) (s : Block) → QuietIs (wrote_page flash number r status s)
wrote_is flash number r Clean s = record { order = tt; losses = refl; goes_on = λ g. absurd cc }
wrote_is flash number r Open s = record { order = tt; losses = refl; goes_on = λ g. absurd cc }
wrote_is flash number r Sealed s = record { order = tt; losses = refl; goes_on = λ g. absurd cc }
wrote_is flash number r OnFlash s = record { order = tt; losses = refl; goes_on = λ g. absurd cc }
wrote_is flash number r Draining s = record { order = tt; losses = refl; goes_on = λ g. absurd cc }
wrote_is flash number r Flushing s = go (nat_lt ((region_at r s.regions).written + 1) flash.region_pages) refl
  where
    go : (t : Bool) → nat_lt ((region_at r s.regions).written + 1) flash.region_pages ≡ t → QuietIs (go_on flash number r (page_done flash (region_at r s.regions)) s)
    go true t = rw t (record { order = tt; losses = refl; goes_on = λ g. refl })
    go false t = rw t (record { order = tt; losses = refl; goes_on = λ g. absurd cc })

pub large_written_serves : LargeWrittenServes
large_written_serves flash pages number r bytes s fits at =
    quiet_serves flash s pages (with_page pages (written_page flash r s) (Some bytes)) (resume flash number (Writing r bytes) Written s) fits (wrote_is flash number r (region_at r s.regions).status (end_job number s))
    (written_keeps flash pages number r bytes s at fits.good) (λ key. written_changes flash pages number r bytes s key at fits.good)
