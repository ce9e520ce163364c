-- The index leads to entries after each step.
use Rattle.std.proofs.Common.{◌≡◌, ℕ, zero, suc, ◌+◌, ◌-◌, ◌*◌, ◌/◌, ◌<◌, ◌≤◌, Bool, true, false, List, [], ◌∷◌, ◌++◌, length, set, Option, Some, refl, sym, ap, subst, arith, ◌∙◌, append_assoc, append-nil}
use Rattle.std.proofs.lemmas.Bool.{eqb-true}
use Rattle.std.proofs.lemmas.List.{length-append}
use Rattle.std.proofs.lemmas.Nat.{div-mul-add}
use Rattle.std.specs.Prelude.{if◌then◌else◌, ◌==◌}
use Rattle.hc_types.specs.declared.config.FlashConfig.{FlashConfig}
use Rattle.hc_types.specs.Places.{kept_of}
use Rattle.hc_types.specs.FlashEntry.{FlashEntry}
use Rattle.hc_engines.specs.large.Entries.{IsLarge, entry_bytes}
use Rattle.hc_engines.specs.large.Region.{is_clean, Region, filled_to, region_at, page_no}
use Rattle.hc_engines.specs.large.Index.{Place, place_at}
use Rattle.hc_engines.specs.large.Block.{Block}
use Rattle.hc_engines.specs.large.Steps.{append}
use Rattle.hc_engines.specs.large.Held.{bytes_or_none, first_pages, bytes_of, bytes_at}
use Rattle.hc_engines.specs.large.Fits.{HoldsEntry, Fits}
use Rattle.hc_engines.proofs.large.Lists.{same_num, place_at-leading, in_range, region_at-set}
use Rattle.hc_engines.proofs.large.Bytes.{entry_again, same_part, new_part}

-- ---- pages

pub pages_long : (flash : FlashConfig) (pages : ℕ → Option (List ℕ)) (r n : ℕ) → ((i : ℕ) → i < n → length (bytes_or_none (pages (page_no flash r i))) ≡ flash.page) → length (first_pages flash pages r n) ≡ n * flash.page
pages_long flash pages r zero known = omega arith
pages_long flash pages r (suc n) known =
    let before = pages_long flash pages r n (λ i lt. known i (omega arith)) in
    let one = known n (omega arith) in
    omega (arith, length-append (first_pages flash pages r n) (bytes_or_none (pages (page_no flash r n))))

pub pages_same : (flash : FlashConfig) (pages new : ℕ → Option (List ℕ)) (r n : ℕ) → ((i : ℕ) → i < n → new (page_no flash r i) ≡ pages (page_no flash r i)) → first_pages flash new r n ≡ first_pages flash pages r n
pages_same flash pages new r zero same = refl
pages_same flash pages new r (suc n) same = rw (pages_same flash pages new r n (λ i lt. same i (omega arith)), same n (omega arith)) refl

-- the region of which a page is one
abbrev region_no : FlashConfig → ℕ → ℕ
region_no flash page = (page - flash.buckets) / flash.region_pages

sub_add : (a b : ℕ) → a + b - a ≡ b
sub_add a b = omega arith

region_no-page : (flash : FlashConfig) (r i : ℕ) → i < flash.region_pages → region_no flash (page_no flash r i) ≡ r
region_no-page flash r i lt = rw (sub_add flash.buckets (r * flash.region_pages + i), div-mul-add r flash.region_pages i lt) refl

-- two pages of regions are one only where region and place in it are
pub page_apart : (flash : FlashConfig) (r q i j : ℕ) → i < flash.region_pages → j < flash.region_pages → page_no flash r i ≡ page_no flash q j → (r ≡ q) × (i ≡ j)
page_apart flash r q i j li lj e =
    let a = region_no-page flash r i li in
    let b = region_no-page flash q j lj in
    let same : r ≡ q = sym a ∙ ap (λ p. region_no flash p) e ∙ b in
    (same, here r q i j same e)
  where
    here : (r q i j : ℕ) → r ≡ q → page_no flash r i ≡ page_no flash q j → i ≡ j
    here r q i j s e = let e2 : flash.buckets + (q * flash.region_pages + i) ≡ flash.buckets + (q * flash.region_pages + j) = (rw s at e) in omega arith

-- ---- a region's bytes grow

-- the bytes of each region to which the index leads are what they were, and more
pub record Grows (flash : FlashConfig) (pages new_pages : ℕ → Option (List ℕ)) (s new : Block) (r : ℕ) : Type 0 where
  pub more : List ℕ
  pub grown : bytes_of flash new_pages new r ≡ bytes_of flash pages s r ++ more

pub still_holds : (flash : FlashConfig) (pages new_pages : ℕ → Option (List ℕ)) (s new : Block) (hash : ℕ) (place : Place) → Grows flash pages new_pages s new place.region → HoldsEntry flash pages s hash place → HoldsEntry flash new_pages new hash place
still_holds flash pages new_pages s new hash place g h = record {
  entry = h.entry;
  read = rw (g.grown, same_part place.offset place.length (bytes_of flash pages s place.region) g.more h.within) h.read;
  own = h.own;
  within = let long : length (bytes_of flash new_pages new place.region) ≡ length (bytes_of flash pages s place.region) + length g.more = (rw g.grown (length-append (bytes_of flash pages s place.region) g.more)) in omega (arith, h.within);
}

-- what is held at a place stays as it was
pub same_bytes_at : (flash : FlashConfig) (pages new_pages : ℕ → Option (List ℕ)) (s new : Block) (place : Place) → Grows flash pages new_pages s new place.region → place.offset + place.length ≤ length (bytes_of flash pages s place.region) → bytes_at flash new_pages new place ≡ bytes_at flash pages s place
same_bytes_at flash pages new_pages s new place g h = rw (g.grown, same_part place.offset place.length (bytes_of flash pages s place.region) g.more h) refl

-- a region that changes in neither its pages nor its buffer
pub same_region : (flash : FlashConfig) (pages : ℕ → Option (List ℕ)) (s new : Block) (r : ℕ) → (region_at r new.regions).written ≡ (region_at r s.regions).written → (region_at r new.regions).buffer ≡ (region_at r s.regions).buffer → Grows flash pages pages s new r
same_region flash pages s new r w b = record { more = []; grown = (rw (w, b) (sym (append-nil (bytes_of flash pages s r)))) }

-- ---- an entry is appended

pub filled_long : (flash : FlashConfig) (pages : ℕ → Option (List ℕ)) (s : Block) (r : ℕ) → Fits flash pages s → is_clean (region_at r s.regions).status ≡ false → length (bytes_of flash pages s r) ≡ filled_to flash (region_at r s.regions)
filled_long flash pages s r fits u =
    omega (arith, length-append (first_pages flash pages r (region_at r s.regions).written) (region_at r s.regions).buffer, pages_long flash pages r (region_at r s.regions).written (λ i lt. fits.known r i u lt))

abbrev pub with_entry : FlashConfig → FlashEntry → Region → Region
with_entry flash entry region = record region { buffer = region.buffer ++ entry_bytes entry; appended = region.appended ++ record { hash = kept_of flash.bits entry.key; offset = filled_to flash region } ∷ [] }

abbrev pub new_place : FlashConfig → ℕ → FlashEntry → Block → Place
new_place flash r entry s = record { region = r; offset = filled_to flash (region_at r s.regions); length = length (entry_bytes entry) }

module _ (flash : FlashConfig) (pages : ℕ → Option (List ℕ)) (s : Block) (r : ℕ) (entry : FlashEntry) (unclean : is_clean (region_at r s.regions).status ≡ false) where
  pub appended_grows : (q : ℕ) → Grows flash pages pages s (append flash r entry s) q
  appended_grows q = go (q == r) refl
    where
      lt : r < length s.regions
      lt = in_range s.regions r unclean

      new : Region
      new = with_entry flash entry (region_at r s.regions)

      go : (t : Bool) → (q == r) ≡ t → Grows flash pages pages s (append flash r entry s) q
      go true t =
          let same : q ≡ r = eqb-true q r t in
          record {
            more = entry_bytes entry;
            grown = (rw (same, region_at-set s.regions r r new lt, same_num r) (sym (append_assoc (first_pages flash pages r (region_at r s.regions).written) (region_at r s.regions).buffer (entry_bytes entry))));
          }
      go false t = record { more = []; grown = (rw (region_at-set s.regions r q new lt, t) (sym (append-nil (bytes_of flash pages s q)))) }

  appended_here : bytes_of flash pages (append flash r entry s) r ≡ bytes_of flash pages s r ++ entry_bytes entry
  appended_here =
      rw (region_at-set s.regions r r (with_entry flash entry (region_at r s.regions)) (in_range s.regions r unclean), same_num r)
      (sym (append_assoc (first_pages flash pages r (region_at r s.regions).written) (region_at r s.regions).buffer (entry_bytes entry)))

  -- what stands at the new place
  pub appended_bytes : Fits flash pages s → bytes_at flash pages (append flash r entry s) (new_place flash r entry s) ≡ entry_bytes entry
  appended_bytes fits =
      rw (appended_here, ← filled_long flash pages s r fits unclean) (new_part (bytes_of flash pages s r) (entry_bytes entry))

  pub append_fits : IsLarge entry → Fits flash pages s → Fits flash pages (append flash r entry s)
  append_fits large fits = record {
    known = λ q i u l. known q i u l;
    within = λ q. within q;
    places = λ h p e. found h p (h == kept_of flash.bits entry.key) refl (sym (place_at-leading (kept_of flash.bits entry.key) h (new_place flash r entry s) s.index) ∙ e);
  }
    where
      lt : r < length s.regions
      lt = in_range s.regions r unclean

      new : Region
      new = with_entry flash entry (region_at r s.regions)

      status_same : (q : ℕ) → is_clean (region_at q (set s.regions r new)).status ≡ is_clean (region_at q s.regions).status
      status_same q = rw (region_at-set s.regions r q new lt) (go (q == r) refl)
        where
          go : (t : Bool) → (q == r) ≡ t → is_clean (if t then new else region_at q s.regions).status ≡ is_clean (region_at q s.regions).status
          go true t = let same : q ≡ r = eqb-true q r t in rw same refl
          go false t = refl

      written_same : (q : ℕ) → (region_at q (set s.regions r new)).written ≡ (region_at q s.regions).written
      written_same q = rw (region_at-set s.regions r q new lt) (go (q == r) refl)
        where
          go : (t : Bool) → (q == r) ≡ t → (if t then new else region_at q s.regions).written ≡ (region_at q s.regions).written
          go true t = let same : q ≡ r = eqb-true q r t in rw same refl
          go false t = refl

      known : (q i : ℕ) → is_clean (region_at q (set s.regions r new)).status ≡ false → i < (region_at q (set s.regions r new)).written → length (bytes_or_none (pages (page_no flash q i))) ≡ flash.page
      known q i u l = fits.known q i (sym (status_same q) ∙ u) (omega (arith, written_same q, l))

      within : (q : ℕ) → (region_at q (set s.regions r new)).written ≤ flash.region_pages
      within q = omega (arith, written_same q, fits.within q)

      found : (h : ℕ) (p : Place) (t : Bool) → (h == kept_of flash.bits entry.key) ≡ t → (if t then Some (new_place flash r entry s) else place_at h s.index) ≡ Some p → HoldsEntry flash pages (append flash r entry s) h p
      found h p true t e =
          let hash : h ≡ kept_of flash.bits entry.key = eqb-true h (kept_of flash.bits entry.key) t in
          let same : new_place flash r entry s ≡ p = cc in
          subst (λ (z : Place). HoldsEntry flash pages (append flash r entry s) h z) same (record {
            entry = entry;
            read = rw (appended_bytes fits) (entry_again entry large);
            own = sym hash;
            within = let long : length (bytes_of flash pages (append flash r entry s) r) ≡ length (bytes_of flash pages s r) + length (entry_bytes entry) = (rw appended_here (length-append (bytes_of flash pages s r) (entry_bytes entry))) in omega (arith, filled_long flash pages s r fits unclean);
          })
      found h p false t e = still_holds flash pages pages s (append flash r entry s) h p (appended_grows p.region) (fits.places h p e)
