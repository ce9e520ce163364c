-- An operation that begins gives no bucket up, and a region that is reclaimed neither.
use Rattle.std.proofs.Common.{◌≡◌, ℕ, Bool, true, false, List, [], ◌∷◌, length, Option, Some, None, refl, ap, ◌∙◌}
use Rattle.std.specs.Prelude.{if◌then◌else◌, nat_lt}
use Rattle.hc_types.specs.Loss.{Cause, Reclaimed}
use Rattle.hc_types.specs.Places.{kept_of, bucket_at, is_small_by}
use Rattle.hc_types.specs.declared.config.FlashConfig.{FlashConfig}
use Rattle.hc_types.specs.FlashEntry.{FlashEntry}
use Rattle.hc_engines.specs.Engine.{Op, Put, Get, Delete, Flush, Reclaim, Order, Absent, Busy}
use Rattle.hc_engines.specs.small.Bloom.{could_have}
use Rattle.hc_engines.specs.small.BigHash as bighash
use Rattle.hc_engines.specs.small.BigHash.{BigHash, Plan, ToRead, ToEnd, begun, is_busy, word_at}
use Rattle.hc_engines.specs.large.Entries.{entry_in, entry_bytes}
use Rattle.hc_engines.specs.large.Region.{lowest_clean, region_at}
use Rattle.hc_engines.specs.large.Index.{Place, place_at, is_place, leading_into}
use Rattle.hc_engines.specs.large.Block as block
use Rattle.hc_engines.specs.large.Block.{Block, Reading}
use Rattle.hc_engines.specs.large.Steps as steps
use Rattle.hc_engines.specs.pair.Pair as pairs
use Rattle.hc_engines.specs.pair.Pair.{Pair, by_small, by_large, after_small, after_losses, start}
use Rattle.hc_machine.specs.Takes.{bucket_lost}
use Rattle.hc_laws.specs.Tombstones.{is_lost_first, gives_up}

-- ---- the large engine never does

abbrev pub NoBucket : block.Moved → Type 0
NoBucket m = bucket_lost m.outcome.losses ≡ None

none_if : (t : Bool) (one two : block.Moved) → NoBucket one → NoBucket two → NoBucket (if t then one else two)
none_if true one two p q = p
none_if false one two p q = q

answered_none : (flash : FlashConfig) (reading : Reading) (s : Block) → NoBucket (steps.answered flash reading s)
answered_none flash reading s = none_if (is_place (place_at (kept_of flash.bits reading.key) s.index) reading.place) _ _ (by (entry_in (steps.read_bytes flash reading))) refl
  where
    by : (o : Option FlashEntry) → NoBucket (steps.answer_of (kept_of flash.bits reading.key) reading.key s o)
    by None = refl
    by (Some entry) = refl

get_none : (flash : FlashConfig) (number : ℕ) (key : List ℕ) (s : Block) → NoBucket (steps.get flash number key s)
get_none flash number key s = go (place_at (kept_of flash.bits key) s.index)
  where
    go : (o : Option Place) → NoBucket (steps.get_at flash number key o s)
    go None = refl
    go (Some place) = let reading = steps.reading_of flash key place s in none_if (nat_lt reading.next reading.until) _ _ refl (answered_none flash reading s)

stored_none : (flash : FlashConfig) (entry : FlashEntry) (old : Block) (opened : Option ℕ) (s : Block) → NoBucket (steps.stored flash entry old opened s)
stored_none flash entry old opened s = by (place_at (kept_of flash.bits entry.key) old.index)
  where
    by : (o : Option Place) → bucket_lost (steps.collided (kept_of flash.bits entry.key) entry.key o) ≡ None
    by None = refl
    by (Some place) = refl

put_none : (flash : FlashConfig) (entry : FlashEntry) (s : Block) → NoBucket (steps.put flash entry s)
put_none flash entry s = into (steps.fitting flash s (length (entry_bytes entry)) s.current)
  where
    fresh : (o : Option ℕ) → NoBucket (steps.put_fresh flash entry s o)
    fresh None = refl
    fresh (Some r) = stored_none flash entry s (Some r) (steps.append flash r entry (steps.open_next r s))

    into : (o : Option ℕ) → NoBucket (steps.put_into flash entry s o)
    into None = fresh (lowest_clean 0 s.regions)
    into (Some r) = stored_none flash entry s None (steps.append flash r entry s)

pub reclaim_none : (flash : FlashConfig) (s : Block) → NoBucket (steps.reclaim flash s)
reclaim_none flash s = none_if (nat_lt (steps.clean_count s.regions) flash.clean) _ _ (by (steps.oldest s.regions s.flushed)) refl
  where
    lost : (cause : Cause) (hashes : List ℕ) → bucket_lost (steps.lost cause hashes) ≡ None
    lost cause [] = refl
    lost cause (hash ∷ hashes) = refl

    by : (o : Option ℕ) → NoBucket (steps.reclaim_of s o)
    by None = refl
    by (Some r) = lost (Reclaimed r) (leading_into r (region_at r s.regions).appended s.index)

-- ---- operations that begin

module _ (number bucket : ℕ) (pair : Pair) where
  large_gives : (m : block.Moved) → NoBucket m → gives_up bucket (by_large pair [] m).next ≡ false
  large_gives m h = by m.order
    where
      by : (o : Option Order) → gives_up bucket (pairs.next_of (after_losses [] m.outcome) o) ≡ false
      by None = ap (is_lost_first bucket) h
      by (Some order) = ap (is_lost_first bucket) h

  begins_none : (size at : ℕ) (word : Option ℕ) (op : Op) → gives_up bucket (bighash.next_of size at op (begun word op)) ≡ false
  begins_none size at None (Put e) = refl
  begins_none size at None (Get key) = refl
  begins_none size at None (Delete key) = refl
  begins_none size at (Some word) (Put e) = refl
  begins_none size at (Some word) (Delete key) = refl
  begins_none size at (Some word) (Get key) = by (could_have word key)
    where
      by : (t : Bool) → gives_up bucket (bighash.next_of size at (Get key) (if t then ToRead else ToEnd Absent)) ≡ false
      by true = refl
      by false = refl
  begins_none size at None Flush = refl
  begins_none size at None Reclaim = refl
  begins_none size at (Some word) Flush = refl
  begins_none size at (Some word) Reclaim = refl

  small_none : (at : ℕ) (op : Op) → gives_up bucket (bighash.start_at pair.small number op (Some at)).next ≡ false
  small_none at op = by (is_busy at pair.small.jobs)
    where
      by : (t : Bool) → gives_up bucket (if t then record { state = pair.small; next = Busy } else bighash.moved pair.small number at op (begun (word_at pair.small at) op)).next ≡ false
      by true = refl
      by false = begins_none pair.small.flash.page at (word_at pair.small at) op

  pub delete_gives_none : (key : List ℕ) → gives_up bucket (start number (Delete key) pair).next ≡ false
  delete_gives_none key = small_none (bucket_at pair.small.flash key) (Delete key)

  pub put_gives_none : (e : FlashEntry) → gives_up bucket (start number (Put e) pair).next ≡ false
  put_gives_none e = by (is_small_by pair.small.flash e.key (length e.value)) refl
    where
      by : (t : Bool) → is_small_by pair.small.flash e.key (length e.value) ≡ t → gives_up bucket (if t then by_small pair (bighash.start pair.small number (Put e)) else by_large pair [] (steps.put pair.small.flash e pair.large)).next ≡ false
      by true h = ap (λ b. gives_up bucket (bighash.start_at pair.small number (Put e) (if b then Some (bucket_at pair.small.flash e.key) else None)).next) h ∙ small_none (bucket_at pair.small.flash e.key) (Put e)
      by false h = large_gives (steps.put pair.small.flash e pair.large) (put_none pair.small.flash e pair.large)

  -- a get that goes on with the large engine
  goes_none : (small : BigHash) (key : List ℕ) → gives_up bucket (by_large (record pair { small = small }) [] (steps.get small.flash number key pair.large)).next ≡ false
  goes_none small key = by (steps.get small.flash number key pair.large) (get_none small.flash number key pair.large)
    where
      by : (m : block.Moved) → NoBucket m → gives_up bucket (pairs.next_of (after_losses [] m.outcome) m.order) ≡ false
      by m h = large_gives m h

  pub get_gives_none : (key : List ℕ) → gives_up bucket (start number (Get key) pair).next ≡ false
  get_gives_none key = by (is_busy (bucket_at pair.small.flash key) pair.small.jobs)
    where
      if_told : (t : Bool) → gives_up bucket (after_small number (Get key) (by_small pair (bighash.moved pair.small number (bucket_at pair.small.flash key) (Get key) (if t then ToRead else ToEnd Absent)))).next ≡ false
      if_told true = refl
      if_told false = goes_none (bighash.moved pair.small number (bucket_at pair.small.flash key) (Get key) (ToEnd Absent)).state key

      moves : (word : Option ℕ) → gives_up bucket (after_small number (Get key) (by_small pair (bighash.moved pair.small number (bucket_at pair.small.flash key) (Get key) (begun word (Get key))))).next ≡ false
      moves None = goes_none (bighash.moved pair.small number (bucket_at pair.small.flash key) (Get key) (ToEnd Absent)).state key
      moves (Some word) = if_told (could_have word key)

      by : (t : Bool) → gives_up bucket (after_small number (Get key) (by_small pair (if t then record { state = pair.small; next = Busy } else bighash.moved pair.small number (bucket_at pair.small.flash key) (Get key) (begun (word_at pair.small (bucket_at pair.small.flash key)) (Get key))))).next ≡ false
      by true = refl
      by false = moves (word_at pair.small (bucket_at pair.small.flash key))
