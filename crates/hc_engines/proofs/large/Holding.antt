-- What is held after each step.
use Rattle.std.proofs.Common.{◌≡◌, ℕ, ◌<◌, Bool, true, false, List, [], ◌∷◌, length, Option, Some, None, refl, ap, subst, arith, ◌∙◌}
use Rattle.std.specs.Prelude.{if◌then◌else◌, ◌==◌}
use Rattle.std.specs.Str.{bytes_eq}
use Rattle.hc_types.specs.declared.config.FlashConfig.{FlashConfig}
use Rattle.hc_types.specs.Places.{kept_of}
use Rattle.hc_types.specs.Loss.{Cause}
use Rattle.hc_types.specs.FlashEntry.{FlashEntry}
use Rattle.hc_engines.specs.large.Entries.{IsLarge, entry_in}
use Rattle.hc_engines.specs.large.Region.{is_clean, region_at}
use Rattle.hc_engines.specs.large.Index.{Place, Indexed, place_at, without, leading_into, without_all}
use Rattle.hc_engines.specs.large.Block.{Block}
use Rattle.hc_engines.specs.large.Steps.{append, emptied, end_region, take_index}
use Rattle.hc_engines.specs.large.Numbers.{is_in}
use Rattle.hc_engines.specs.large.Held.{bytes_at, if_own, read_at, held}
use Rattle.hc_engines.specs.large.Fits.{Fits}
use Rattle.hc_engines.specs.large.Sound.{is_listed}
use Rattle.hc_engines.proofs.large.Lists.{place_at-without, place_at-leading, in_range, region_at-set}
use Rattle.hc_engines.proofs.large.Bytes.{entry_again}
use Rattle.hc_engines.proofs.large.Ends.{Ending, still_there}
use Rattle.hc_engines.proofs.large.Fitting.{Grows, same_bytes_at, new_place, appended_grows, appended_bytes}
use Rattle.hc_engines.specs.large.Laws.{after_put}

-- ---- where the index leads to the same bytes, the same is held

read_same : (flash : FlashConfig) (pages new_pages : ℕ → Option (List ℕ)) (s new : Block) (key : List ℕ) (o : Option Place) → ((p : Place) → o ≡ Some p → bytes_at flash new_pages new p ≡ bytes_at flash pages s p) → read_at flash new_pages new key o ≡ read_at flash pages s key o
read_same flash pages new_pages s new key None f = refl
read_same flash pages new_pages s new key (Some p) f = ap (λ bytes. if_own key (entry_in bytes)) (f p refl)

-- a flush, an early write, an opening, a sealing: the index is the same, and the bytes there are
pub held_same : (flash : FlashConfig) (pages new_pages : ℕ → Option (List ℕ)) (s new : Block) → Fits flash pages s → new.index ≡ s.index → ((h : ℕ) (p : Place) → place_at h s.index ≡ Some p → Grows flash pages new_pages s new p.region)
    → (key : List ℕ) → held flash new_pages new key ≡ held flash pages s key
held_same flash pages new_pages s new fits e grows key =
    ap (λ index. read_at flash new_pages new key (place_at (kept_of flash.bits key) index)) e
    ∙ read_same flash pages new_pages s new key (place_at (kept_of flash.bits key) s.index) (λ p f. same_bytes_at flash pages new_pages s new p (grows (kept_of flash.bits key) p f) (fits.places (kept_of flash.bits key) p f).within)

pub held_put : (flash : FlashConfig) (pages : ℕ → Option (List ℕ)) (s : Block) (r : ℕ) (entry : FlashEntry) → is_clean (region_at r s.regions).status ≡ false → IsLarge entry → Fits flash pages s
    → (key : List ℕ) → held flash pages (append flash r entry s) key ≡ after_put flash entry key (held flash pages s key)
held_put flash pages s r entry unclean large fits key =
    ap (read_at flash pages (append flash r entry s) key) (place_at-leading (kept_of flash.bits entry.key) (kept_of flash.bits key) (new_place flash r entry s) s.index)
    ∙ go (kept_of flash.bits key == kept_of flash.bits entry.key)
  where
    go : (t : Bool) → read_at flash pages (append flash r entry s) key (if t then Some (new_place flash r entry s) else place_at (kept_of flash.bits key) s.index)
        ≡ (if t then (if bytes_eq entry.key key then Some entry else None) else held flash pages s key)
    go true = ap (λ bytes. if_own key (entry_in bytes)) (appended_bytes flash pages s r entry unclean fits) ∙ ap (if_own key) (entry_again entry large)
    go false = read_same flash pages pages s (append flash r entry s) key (place_at (kept_of flash.bits key) s.index)
        (λ p f. same_bytes_at flash pages pages s (append flash r entry s) p (appended_grows flash pages s r entry unclean p.region) (fits.places (kept_of flash.bits key) p f).within)

-- ---- an index entry is taken

pub held_taken : (flash : FlashConfig) (pages : ℕ → Option (List ℕ)) (s : Block) (hash : ℕ) (key : List ℕ) → held flash pages (take_index hash s) key ≡ (if kept_of flash.bits key == hash then None else held flash pages s key)
held_taken flash pages s hash key = ap (read_at flash pages (take_index hash s) key) (place_at-without hash (kept_of flash.bits key) s.index) ∙ go (kept_of flash.bits key == hash)
  where
    go : (t : Bool) → read_at flash pages (take_index hash s) key (if t then None else place_at (kept_of flash.bits key) s.index) ≡ (if t then None else held flash pages s key)
    go true = refl
    go false = refl

-- ---- a region ends: what its losses cover is held no longer

pub gone_or_there : (h : ℕ) (hashes : List ℕ) (index : List Indexed) → place_at h (without_all hashes index) ≡ (if is_in h hashes then None else place_at h index)
gone_or_there h [] index = refl
gone_or_there h (x ∷ xs) index = gone_or_there h xs (without x index) ∙ grind (arith, place_at-without x h index)

pub held_ended : (flash : FlashConfig) (pages : ℕ → Option (List ℕ)) (cause : Cause) (r : ℕ) (s : Block) → Ending flash r s → (key : List ℕ)
    → held flash pages (end_region cause r s).state key ≡ (if is_in (kept_of flash.bits key) (leading_into r (region_at r s.regions).appended s.index) then None else held flash pages s key)
held_ended flash pages cause r s e key = go (is_in (kept_of flash.bits key) gone) refl
  where
    new : Block
    new = (end_region cause r s).state

    gone : List ℕ
    gone = leading_into r (region_at r s.regions).appended s.index

    places : place_at (kept_of flash.bits key) (without_all gone s.index) ≡ (if is_in (kept_of flash.bits key) gone then None else place_at (kept_of flash.bits key) s.index)
    places = gone_or_there (kept_of flash.bits key) gone s.index

    lt : r < length s.regions
    lt = in_range s.regions r e.unclean

    elsewhere : (p : Place) → place_at (kept_of flash.bits key) (without_all gone s.index) ≡ Some p → bytes_at flash pages new p ≡ bytes_at flash pages s p
    elsewhere p f =
        let k = still_there r (kept_of flash.bits key) (region_at r s.regions).appended s.index p (λ q g here. subst (λ (i : ℕ). is_listed (kept_of flash.bits key) q.offset (region_at i s.regions).appended ≡ true) here (e.listed (kept_of flash.bits key) q g)) f in
        rw (region_at-set s.regions r p.region (emptied (region_at r s.regions)) lt, k.1) refl

    go : (t : Bool) → is_in (kept_of flash.bits key) gone ≡ t → held flash pages new key ≡ (if t then None else held flash pages s key)
    go true t = let none : place_at (kept_of flash.bits key) (without_all gone s.index) ≡ None = places ∙ (rw t refl) in ap (read_at flash pages new key) none
    go false t =
        let there : place_at (kept_of flash.bits key) (without_all gone s.index) ≡ place_at (kept_of flash.bits key) s.index = places ∙ (rw t refl) in
        ap (read_at flash pages new key) there ∙ read_same flash pages pages s new key (place_at (kept_of flash.bits key) s.index) (λ p f. elsewhere p (there ∙ f))
