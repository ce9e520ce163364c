-- What the engine keeps at all times, over puts.
use Rattle.std.proofs.Common.{◌≡◌, ℕ, ◌+◌, ◌<◌, ◌≤◌, Bool, true, false, List, length, set, Option, Some, None, refl, sym, ap, arith, ◌∙◌}
use Rattle.std.proofs.lemmas.List.{length-set, set-set}
use Rattle.std.specs.Prelude.{if◌then◌else◌, nat_le, IfSome}
use Rattle.hc_types.specs.declared.config.FlashConfig.{FlashConfig}
use Rattle.hc_types.specs.Places.{kept_of}
use Rattle.hc_types.specs.FlashEntry.{FlashEntry}
use Rattle.hc_engines.specs.large.Entries.{entry_bytes}
use Rattle.hc_engines.specs.large.Region.{Region, Open, Sealed, opened_region, region_len, filled_to, is_clean, region_at, lowest_clean}
use Rattle.hc_engines.specs.large.Index.{Place, Indexed, place_at, leading}
use Rattle.hc_engines.specs.large.Block.{Block, finished}
use Rattle.hc_engines.specs.Engine.{Loss, Outcome, nothing, Over}
use Rattle.hc_engines.specs.large.Steps.{collided, stored, fitting, append, seal, sealed_too, open_next}
use Rattle.hc_block.specs.Large.{Kept, HasRoom, CanOpen}
use Rattle.hc_region.specs.Growing.{grown}
use Rattle.hc_region.specs.CleanNumbers.{clean_from, first_of}
use Rattle.hc_region.proofs.Cleans.{first_lowest, same_clean}
use Rattle.hc_engines.proofs.large.Lists.{in_range, region_at-set, same_num}
use Rattle.hc_engines.proofs.large.Within.{set_within, sealed_within, fitting_is, append_within}
use Rattle.hc_engines.proofs.large.Regions.{IsLowest, lowest_is}
use Rattle.hc_block.proofs.Waiting.{sealed_too_once}
use Rattle.hc_engines.proofs.large.Puts.{append_sound, seal_sound, open_sound, sealed_clean, seal-length, seal_step}

-- ---- what a call may rely on

pub current_there : (flash : FlashConfig) (s : Block) (r : ℕ) → Kept flash s → s.current ≡ Some r → r < length s.regions
current_there flash s r k e = in_range s.regions r (rw (k.sound.current r e) refl)

pub filled_small : (flash : FlashConfig) (s : Block) (r : ℕ) → Kept flash s → filled_to flash (region_at r s.regions) ≤ 16777216
filled_small flash s r k = omega (arith, k.filled r, k.limits.region_len)

-- what fits is appended to the region in use
pub record Fitted (flash : FlashConfig) (s : Block) (len r : ℕ) : Type 0 where
  pub current : s.current ≡ Some r
  pub room : filled_to flash (region_at r s.regions) + len ≤ region_len flash

pub fitted : (flash : FlashConfig) (s : Block) (len r : ℕ) → fitting flash s len s.current ≡ Some r → Fitted flash s len r
fitted flash s len r h = record { current = current s.current h; room = fitting_is flash s len r s.current h }
  where
    current : (o : Option ℕ) → fitting flash s len o ≡ Some r → o ≡ Some r
    current None h = absurd (cc)
    current (Some q) h = pick (nat_le (filled_to flash (region_at q s.regions) + len) (region_len flash)) h
      where
        pick : (t : Bool) → (if t then Some q else None) ≡ Some r → Some q ≡ Some r
        pick true h = h
        pick false h = absurd (cc)

-- ---- after a put

pub append_kept : (flash : FlashConfig) (s : Block) (entry : FlashEntry) (r : ℕ) → Kept flash s → (region_at r s.regions).status ≡ Open → filled_to flash (region_at r s.regions) + length (entry_bytes entry) ≤ region_len flash → Kept flash (append flash r entry s)
append_kept flash s entry r k is_open room = record {
  limits = k.limits;
  count = length-set s.regions r (grown flash (kept_of flash.bits entry.key) (entry_bytes entry) (region_at r s.regions)) ∙ k.count;
  filled = append_within flash entry r s room k.filled;
  sound = append_sound flash r entry s is_open k.sound;
  sealed_once = k.sealed_once;
  flushed_once = k.flushed_once;
}

open_there : (s : Block) (r : ℕ) → lowest_clean 0 s.regions ≡ Some r → IsLowest s.regions r
open_there s r h = let m = lowest_is s.regions 0 r h in let same : r ≡ m.0 = omega (arith, m.1) in rw same m.2

pub open_kept : (flash : FlashConfig) (s : Block) (r : ℕ) → Kept flash s → lowest_clean 0 s.regions ≡ Some r → Kept flash (open_next r s)
open_kept flash s r k h = record {
  limits = k.limits;
  count = length-set (seal s.current s.regions) r opened_region ∙ seal-length s.current s.regions ∙ k.count;
  filled = set_within flash (seal s.current s.regions) r opened_region (omega arith) (sealed_within flash s.current s.regions k.filled);
  sound = open_sound flash r (seal_step s) (omega (arith, k.limits.some_page)) there (sealed_clean s r k.sound.current ∙ low.clean) (seal_sound flash s k.sound);
  sealed_once = sealed_too_once flash s k.sound k.sealed_once;
  flushed_once = k.flushed_once;
}
  where
    low : IsLowest s.regions r
    low = open_there s r h

    there : r < length (seal s.current s.regions)
    there = omega (arith, seal-length s.current s.regions, low.there)

pub opened_there : (s : Block) (r : ℕ) → lowest_clean 0 s.regions ≡ Some r → r < length (seal s.current s.regions)
opened_there s r h = let low = open_there s r h in omega (arith, seal-length s.current s.regions, low.there)

-- a region that is opened with an entry in it is one that was opened, and then had the entry appended
pub opened_once : (flash : FlashConfig) (s : Block) (entry : FlashEntry) (r : ℕ) → lowest_clean 0 s.regions ≡ Some r
    → append flash r entry (open_next r s) ≡ record s {
      regions = set (seal s.current s.regions) r (grown flash (kept_of flash.bits entry.key) (entry_bytes entry) opened_region);
      current = Some r;
      sealed = sealed_too s.current s.sealed;
      index = leading (kept_of flash.bits entry.key) (record { region = r; offset = 0; length = length (entry_bytes entry) }) s.index;
    }
opened_once flash s entry r h =
    let there = opened_there s r h in
    let opened : region_at r (set (seal s.current s.regions) r opened_region) ≡ opened_region = region_at-set (seal s.current s.regions) r r opened_region there ∙ (rw (same_num r) refl) in
    let none : filled_to flash opened_region ≡ 0 = omega arith in
    rw (opened, set-set (seal s.current s.regions) r opened_region (grown flash (kept_of flash.bits entry.key) (entry_bytes entry) opened_region), none) refl

pub ready : (flash : FlashConfig) (s : Block) (len r : ℕ) → Kept flash s → fitting flash s len s.current ≡ Some r → HasRoom flash s.regions r len
ready flash s len r k h =
    let f = fitted flash s len r h in
    record { there = current_there flash s r k f.current; small = filled_small flash s r k; short = omega (arith, f.room, k.limits.region_len) }

pub put_kept : (flash : FlashConfig) (s : Block) (entry : FlashEntry) (r : ℕ) → Kept flash s → fitting flash s (length (entry_bytes entry)) s.current ≡ Some r → Kept flash (append flash r entry s)
put_kept flash s entry r k h = let f = fitted flash s (length (entry_bytes entry)) r h in append_kept flash s entry r k (k.sound.current r f.current) f.room

-- what the fields hold after a put into the region in use is the machine's state
pub put_is : (flash : FlashConfig) (s : Block) (entry : FlashEntry) (bytes : List ℕ) (hash r : ℕ) (regions : List Region) (index : List Indexed) → bytes ≡ entry_bytes entry → hash ≡ kept_of flash.bits entry.key
    → regions ≡ set s.regions r (grown flash hash bytes (region_at r s.regions)) → index ≡ leading hash (record { region = r; offset = filled_to flash (region_at r s.regions); length = length bytes }) s.index
    → append flash r entry s ≡ record s { regions = regions; index = index }
put_is flash s entry bytes hash r regions index b h rs is = rw (rs, is, b, h) refl

-- the answer to a put that stored its entry
pub stored_is : (flash : FlashConfig) (s t u : Block) (entry : FlashEntry) (hash : ℕ) (opened : Option ℕ) (place : Option Place) (losses : List Loss) (outcome : Outcome) → hash ≡ kept_of flash.bits entry.key → place ≡ place_at hash s.index
    → losses ≡ collided hash entry.key place → outcome ≡ record nothing { answer = Over; losses = losses; opened = opened } → t ≡ u → stored flash entry s opened t ≡ finished u outcome
stored_is flash s t u entry hash opened place losses outcome h p l o e = rw (o, l, p, h, e) refl

-- ---- a put that opens a region

pub current_all : (flash : FlashConfig) (s : Block) → Kept flash s → IfSome s.current (λ c. c < length s.regions)
current_all flash s k = go s.current refl
  where
    go : (o : Option ℕ) → s.current ≡ o → IfSome o (λ c. c < length s.regions)
    go None e = tt
    go (Some c) e = current_there flash s c k e

current_in_use : (flash : FlashConfig) (s : Block) → Kept flash s → IfSome s.current (λ c. is_clean (region_at c s.regions).status ≡ false)
current_in_use flash s k = go s.current refl
  where
    go : (o : Option ℕ) → s.current ≡ o → IfSome o (λ c. is_clean (region_at c s.regions).status ≡ false)
    go None e = tt
    go (Some c) e = rw (k.sound.current c e) refl

pub can_open : (flash : FlashConfig) (s : Block) (len r : ℕ) → Kept flash s → lowest_clean 0 s.regions ≡ Some r → len ≤ region_len flash → CanOpen flash s.regions s.current r len
can_open flash s len r k h l = record { current_there = current_all flash s k; current_in_use = current_in_use flash s k; there = (open_there s r h).there; lowest = h; short = omega (arith, l, k.limits.region_len) }

pub fresh_kept : (flash : FlashConfig) (s : Block) (entry : FlashEntry) (r : ℕ) → Kept flash s → lowest_clean 0 s.regions ≡ Some r → length (entry_bytes entry) ≤ region_len flash → Kept flash (append flash r entry (open_next r s))
fresh_kept flash s entry r k h l =
    let opened : region_at r (open_next r s).regions ≡ opened_region = region_at-set (seal s.current s.regions) r r opened_region (opened_there s r h) ∙ (rw (same_num r) refl) in
    append_kept flash (open_next r s) entry r (open_kept flash s r k h) (ap (λ (x : Region). x.status) opened) (rw opened (omega (arith, l)))

-- what the fields hold after a put that opens a region is the machine's state
pub fresh_is : (flash : FlashConfig) (s : Block) (entry : FlashEntry) (bytes : List ℕ) (hash r : ℕ) (regions : List Region) (sealed : List ℕ) (index : List Indexed) → lowest_clean 0 s.regions ≡ Some r → bytes ≡ entry_bytes entry → hash ≡ kept_of flash.bits entry.key
    → regions ≡ set (seal s.current s.regions) r (grown flash hash bytes opened_region) → sealed ≡ sealed_too s.current s.sealed → index ≡ leading hash (record { region = r; offset = 0; length = length bytes }) s.index
    → append flash r entry (open_next r s) ≡ record s { regions = regions; current = Some r; sealed = sealed; index = index }
fresh_is flash s entry bytes hash r regions sealed index low b h rs ss is = opened_once flash s entry r low ∙ (rw (rs, ss, is, b, h) refl)

-- ---- the numbers of the clean regions

-- the region in use is sealed
pub sealed_numbers : (current : Option ℕ) (regions : List Region) → IfSome current (λ c. is_clean (region_at c regions).status ≡ false) → clean_from 0 (seal current regions) ≡ clean_from 0 regions
sealed_numbers None regions h = refl
sealed_numbers (Some c) regions h = same_clean 0 c regions (record (region_at c regions) { status = Sealed }) (sym h)

-- and the lowest of them is the same
pub sealed_lowest : (current : Option ℕ) (regions : List Region) → IfSome current (λ c. is_clean (region_at c regions).status ≡ false) → lowest_clean 0 (seal current regions) ≡ lowest_clean 0 regions
sealed_lowest current regions h = sym (first_lowest 0 (seal current regions)) ∙ ap first_of (sealed_numbers current regions h) ∙ first_lowest 0 regions
