-- A put by the books: the entry goes behind what a region has, which may be opened for it.
use Rattle.std.proofs.Common.{◌≡◌, ℕ, suc, ◌+◌, ◌<◌, ◌==◌, ◌||◌, Bool, true, false, not, List, [], ◌∷◌, length, set, reverse, Option, Some, None, refl, sym, ap, arith, ◌∙◌, inl}
use Rattle.std.proofs.lemmas.Bool.{eqb-true}
use Rattle.std.proofs.lemmas.List.{length-set, length-append}
use Rattle.std.specs.Prelude.{if◌then◌else◌}
use Rattle.hc_types.specs.Config.{Config}
use Rattle.hc_types.specs.Loss as loss
use Rattle.hc_types.specs.Loss.{NoCleanRegion}
use Rattle.hc_types.specs.Places.{kept_of, is_small_by}
use Rattle.hc_types.specs.declared.config.FlashConfig.{FlashConfig}
use Rattle.hc_types.specs.FlashEntry.{FlashEntry}
use Rattle.hc_engines.specs.large.Entries.{entry_bytes}
use Rattle.hc_engines.specs.large.Region.{Sealed, is_clean, Region, opened_region, filled_to, region_at, lowest_clean}
use Rattle.hc_engines.specs.large.Index.{Place, place_at, leading}
use Rattle.hc_engines.specs.large.Block.{Block}
use Rattle.hc_engines.specs.large.Steps.{append, seal, open_next}
use Rattle.hc_engines.specs.large.Sound.{Sound}
use Rattle.hc_engines.proofs.large.Bytes.{entry_long}
use Rattle.hc_engines.proofs.large.Lists.{same_num, in_range, region_at-set}
use Rattle.hc_engines.proofs.large.Puts.{same_bytes, seal-length, sealed_clean}
use Rattle.hc_engines.proofs.large.Regions.{IsLowest, none_clean}
use Rattle.hc_engines.proofs.large.Fitting.{with_entry, new_place}
use Rattle.hc_history.specs.Note.{Note, Lose, Unqueued, Opened}
use Rattle.hc_history.specs.Books.{entry_at, waiting, is_among}
use Rattle.hc_history.specs.Pages.{bytes_at, bucket_entries}
use Rattle.hc_history.specs.Regions.{Put, is_one_of, in_use, flushed, open_region, begins, put_from, put_under_way, is_put_of, filed, filling, before_put, IsLowestClean, is_passed, passes, is_placed, is_filed, clean_count}
use Rattle.hc_history.specs.Lawful.{Allowed, Lawful, past}
use Rattle.hc_invariant.specs.Standing.{map_of}
use Rattle.hc_invariant.specs.Tells.{RegionsTell}
use Rattle.hc_proof.specs.books.RegionBooks.{taken_note}
use Rattle.hc_proof.proofs.books.Filings.{FiledAs, as-leading, as-filed}
use Rattle.hc_proof.proofs.books.RegionsInUse.{used_count, used-set, used-clean, is_used, one_if}

-- ---- the put that the log tells

abbrev pub the_put : FlashEntry → Put
the_put e = record { key = e.key; bytes = length (entry_bytes e) }

pub put-is : (flash : FlashConfig) (older : List Note) (e : FlashEntry) → begins older e.key ≡ false → entry_at (Some flash) older e.key ≡ Some (map_of e) → is_small_by flash e.key (length e.value) ≡ false → put_from flash older e.key ≡ Some (the_put e)
put-is flash older e b m small = rw (b, m, small) (ap (λ (n : ℕ). Some (record { key = e.key; bytes = n })) (sym (entry_long e)))

-- ---- a region's status changes, or none

pub used-still : (regions : List Region) (r : ℕ) (x : Region) → r < length regions → is_clean x.status ≡ is_clean (region_at r regions).status → used_count (set regions r x) ≡ used_count regions
used-still regions r x lt e = let s = used-set regions r x lt in let same : one_if (is_used x) ≡ one_if (is_used (region_at r regions)) = (rw e refl) in omega (arith, s, same)

pub clean-still : (regions : List Region) (r q : ℕ) (x : Region) → r < length regions → is_clean x.status ≡ is_clean (region_at r regions).status → is_clean (region_at q (set regions r x)).status ≡ is_clean (region_at q regions).status
clean-still regions r q x lt e = rw (region_at-set regions r q x lt) (go (q == r) refl)
  where
    go : (t : Bool) → (q == r) ≡ t → is_clean (if t then x else region_at q regions).status ≡ is_clean (region_at q regions).status
    go true t = let same : q ≡ r = eqb-true q r t in rw same e
    go false t = refl

-- ---- the entry goes behind what the region has

pub record Appending (flash : FlashConfig) (r : ℕ) (entry : FlashEntry) (older : List Note) (s : Block) : Type 0 where
  pub there : r < length s.regions
  pub number : length s.regions ≡ flash.regions
  pub used : (q : ℕ) → is_one_of q (in_use older) ≡ not (is_clean (region_at q s.regions).status)
  pub used_number : length (in_use older) ≡ used_count s.regions
  pub in_order : s.flushed ≡ reverse (flushed older)
  pub filings : FiledAs (filed flash older) (leading (kept_of flash.bits entry.key) (new_place flash r entry s) s.index)
  pub current : open_region flash older ≡ Some r
  pub is_current : s.current ≡ Some r
  pub filled : filling flash older ≡ filled_to flash (region_at r s.regions) + length (entry_bytes entry)

pub appended_tells : (flash : FlashConfig) (r : ℕ) (entry : FlashEntry) (older : List Note) (s : Block) → Appending flash r entry older s → RegionsTell flash older (append flash r entry s)
appended_tells flash r entry older s a = record {
  number = length-set s.regions r new ∙ a.number;
  used = λ q. a.used q ∙ ap not (sym (clean-still s.regions r q new a.there refl));
  used_number = a.used_number ∙ sym (used-still s.regions r new a.there refl);
  in_order = a.in_order;
  filings = a.filings;
  current = a.current ∙ sym a.is_current;
  filled = λ q c. let here : r ≡ q = cc in rw (← here, region_at-set s.regions r r new a.there, same_num r) (a.filled ∙ longer);
}
  where
    old : Region
    old = region_at r s.regions

    new : Region
    new = with_entry flash entry (region_at r s.regions)

    longer : filled_to flash old + length (entry_bytes entry) ≡ filled_to flash new
    longer = omega (arith, length-append old.buffer (entry_bytes entry))

-- ---- what its hash had is lost

abbrev pub collision : FlashConfig → List ℕ → Option Place → List Note
collision flash key None = []
collision flash key (Some place) = taken_note flash key ∷ []

collision_keeps : (config : Config) (flash : FlashConfig) (key : List ℕ) (o : Option Place) (older : List Note) (put : Put) (s : Block) → config.flash ≡ Some flash → put_under_way flash older ≡ Some put → put.key ≡ key
    → ((place : Place) → o ≡ Some place → is_filed (kept_of flash.bits key) (filed flash (before_put older)) ≡ true) → RegionsTell flash older s
    → Lawful config older (collision flash key o) × RegionsTell flash (past older (collision flash key o)) s
collision_keeps config flash key None older put s here now own was t = (tt, t)
collision_keeps config flash key (Some place) older put s here now own was t = (
  (rw here (refl, same_bytes key, inl (mine, was place refl)), tt),
  record { number = t.number; used = t.used; used_number = t.used_number; in_order = t.in_order; filings = λ h r. rw mine (t.filings h r); current = t.current; filled = t.filled },
)
  where
    mine : is_put_of key (put_under_way flash older) ≡ true
    mine = rw (now, own) (same_bytes key)

-- ---- the three ways of a put

-- what the log says after the put's part
pub record PutOut (config : Config) (flash : FlashConfig) (older part : List Note) (new : Block) : Type 0 where
  pub lawful : Lawful config older part
  pub tells : RegionsTell flash (past older part) new
  pub pages : bytes_at (past older part) ≡ bytes_at older
  pub entries : bucket_entries flash (past older part) ≡ bucket_entries flash older
  pub once : flushed (past older part) ≡ flushed older

-- what is asked
pub record PutAsked (config : Config) (flash : FlashConfig) (older : List Note) (e : FlashEntry) : Type 0 where
  pub flash_is : config.flash ≡ Some flash
  pub waits : is_among e.key (waiting older) ≡ true
  pub put : put_from flash older e.key ≡ Some (the_put e)

unqueued_allowed : (config : Config) (flash : FlashConfig) (older rest : List Note) (key : List ℕ) → config.flash ≡ Some flash → is_among key (waiting older) ≡ true → is_placed flash older key rest ≡ true → Allowed config older (Unqueued key) rest
unqueued_allowed config flash older rest key here w placed = rw here (w, placed)

same_pages : (flash : FlashConfig) (key : List ℕ) (older : List Note) (o : Option Place) → bytes_at (past older (collision flash key o)) ≡ bytes_at older
same_pages flash key older None = refl
same_pages flash key older (Some place) = refl

same_buckets : (flash : FlashConfig) (key : List ℕ) (older : List Note) (o : Option Place) → bucket_entries flash (past older (collision flash key o)) ≡ bucket_entries flash older
same_buckets flash key older None = refl
same_buckets flash key older (Some place) = refl

same_flushed : (flash : FlashConfig) (key : List ℕ) (older : List Note) (o : Option Place) → flushed (past older (collision flash key o)) ≡ flushed older
same_flushed flash key older None = refl
same_flushed flash key older (Some place) = refl

hash_filed : (flash : FlashConfig) (older : List Note) (s : Block) (key : List ℕ) → RegionsTell flash older s → (place : Place) → place_at (kept_of flash.bits key) s.index ≡ Some place → is_filed (kept_of flash.bits key) (filed flash older) ≡ true
hash_filed flash older s key t place e = as-filed (kept_of flash.bits key) place (filed flash older) s.index t.filings e

-- the entry fits the region in use
pub put_fits : (config : Config) (flash : FlashConfig) (older : List Note) (e : FlashEntry) (s : Block) (r : ℕ) → PutAsked config flash older e → RegionsTell flash older s → Sound flash s → s.current ≡ Some r → is_passed flash older (length (entry_bytes e)) ≡ false
    → PutOut config flash older (Unqueued e.key ∷ collision flash e.key (place_at (kept_of flash.bits e.key) s.index)) (append flash r e s)
put_fits config flash older e s r asked t sound cur room =
    let both = collision_keeps config flash e.key (place_at (kept_of flash.bits e.key) s.index) (Unqueued e.key ∷ older) (the_put e) (append flash r e s) asked.flash_is asked.put refl (hash_filed flash older s e.key t)
    (appended_tells flash r e (Unqueued e.key ∷ older) s appending) in
    record {
      lawful = (unqueued_allowed config flash older (collision flash e.key (place_at (kept_of flash.bits e.key) s.index)) e.key asked.flash_is asked.waits (rw fits refl), both.0);
      tells = both.1;
      pages = same_pages flash e.key (Unqueued e.key ∷ older) (place_at (kept_of flash.bits e.key) s.index);
      entries = same_buckets flash e.key (Unqueued e.key ∷ older) (place_at (kept_of flash.bits e.key) s.index);
      once = same_flushed flash e.key (Unqueued e.key ∷ older) (place_at (kept_of flash.bits e.key) s.index);
    }
  where
    fits : passes flash (open_region flash older) (filling flash older) (put_from flash older e.key) ≡ false
    fits = rw asked.put room

    is_now : open_region flash older ≡ Some r
    is_now = t.current ∙ cur

    appending : Appending flash r e (Unqueued e.key ∷ older) s
    appending = record {
      there = in_range s.regions r (rw (sound.current r cur) refl);
      number = t.number;
      used = t.used;
      used_number = t.used_number;
      in_order = t.in_order;
      filings = λ h q. rw (fits, asked.put, is_now) (as-leading (kept_of flash.bits e.key) r (new_place flash r e s) (filed flash older) s.index refl t.filings h q);
      current = t.current ∙ cur;
      is_current = cur;
      filled = rw (fits, asked.put, t.filled r cur) refl;
    }

-- a region is opened for it
pub put_opens : (config : Config) (flash : FlashConfig) (older : List Note) (e : FlashEntry) (s : Block) (r : ℕ) → PutAsked config flash older e → RegionsTell flash older s → Sound flash s
    → is_passed flash older (length (entry_bytes e)) ≡ true → IsLowest s.regions r
    → PutOut config flash older (Unqueued e.key ∷ Opened r ∷ collision flash e.key (place_at (kept_of flash.bits e.key) s.index)) (append flash r e (open_next r s))
put_opens config flash older e s r asked t sound passed low =
    let both = collision_keeps config flash e.key (place_at (kept_of flash.bits e.key) s.index) (Opened r ∷ Unqueued e.key ∷ older) (the_put e) (append flash r e (open_next r s)) asked.flash_is asked.put refl (hash_filed flash older s e.key t)
    (appended_tells flash r e (Opened r ∷ Unqueued e.key ∷ older) (open_next r s) appending) in
    record {
      lawful = (unqueued_allowed config flash older (Opened r ∷ collision flash e.key (place_at (kept_of flash.bits e.key) s.index)) e.key asked.flash_is asked.waits (rw unfit refl), (rw (asked.flash_is, asked.put) (passed, lowest), both.0));
      tells = both.1;
      pages = same_pages flash e.key (Opened r ∷ Unqueued e.key ∷ older) (place_at (kept_of flash.bits e.key) s.index);
      entries = same_buckets flash e.key (Opened r ∷ Unqueued e.key ∷ older) (place_at (kept_of flash.bits e.key) s.index);
      once = same_flushed flash e.key (Opened r ∷ Unqueued e.key ∷ older) (place_at (kept_of flash.bits e.key) s.index);
    }
  where
    lowest : IsLowestClean flash older r
    lowest = record { exists = omega (arith, low.there, t.number); clean = t.used r ∙ (rw low.clean refl); lowest = λ x lt. t.used x ∙ (rw (low.lower x lt) refl) }

    sealed : List Region
    sealed = seal s.current s.regions

    long : length (seal s.current s.regions) ≡ length s.regions
    long = seal-length s.current s.regions

    there : r < length (seal s.current s.regions)
    there = omega (arith, long, low.there)

    was_clean : is_clean (region_at r (seal s.current s.regions)).status ≡ true
    was_clean = sealed_clean s r sound.current ∙ low.clean

    sealed_used : (o : Option ℕ) → s.current ≡ o → used_count (seal o s.regions) ≡ used_count s.regions
    sealed_used None c = refl
    sealed_used (Some c) k = used-still s.regions c (record (region_at c s.regions) { status = Sealed }) (in_range s.regions c (rw (sound.current c k) refl)) (rw (sound.current c k) refl)

    one_more : used_count (set (seal s.current s.regions) r opened_region) ≡ suc (used_count s.regions)
    one_more = let u = used-set (seal s.current s.regions) r opened_region there in let z : one_if (is_used (region_at r (seal s.current s.regions))) ≡ 0 = (rw was_clean refl) in omega (arith, u, z, sealed_used s.current refl)

    used : (q : ℕ) (b : Bool) → (q == r) ≡ b → ((r == q) || is_one_of q (in_use older)) ≡ not (is_clean (if b then opened_region else region_at q (seal s.current s.regions)).status)
    used q true b = let same : q ≡ r = eqb-true q r b in rw (same, same_num r) refl
    used q false b = let o : (r == q) ≡ false = (grind (arith, b)) in rw o (t.used q ∙ ap not (sym (sealed_clean s q sound.current)))

    unfit : passes flash (open_region flash older) (filling flash older) (put_from flash older e.key) ≡ true
    unfit = rw asked.put passed

    appending : Appending flash r e (Opened r ∷ Unqueued e.key ∷ older) (open_next r s)
    appending = record {
      there = omega (arith, length-set (seal s.current s.regions) r opened_region, there);
      number = length-set (seal s.current s.regions) r opened_region ∙ long ∙ t.number;
      used = λ q. rw (region_at-set (seal s.current s.regions) r q opened_region there) (used q (q == r) refl);
      used_number = ap suc t.used_number ∙ sym one_more;
      in_order = t.in_order;
      filings = λ h q. rw (unfit, asked.put) (as-leading (kept_of flash.bits e.key) r (new_place flash r e (open_next r s)) (filed flash older) s.index refl t.filings h q);
      current = refl;
      is_current = refl;
      filled = rw (asked.put, region_at-set (seal s.current s.regions) r r opened_region there, same_num r) (omega arith);
    }

-- no region is clean for it
pub put_lost : (config : Config) (flash : FlashConfig) (older : List Note) (e : FlashEntry) (s : Block) → PutAsked config flash older e → RegionsTell flash older s
    → is_passed flash older (length (entry_bytes e)) ≡ true → lowest_clean 0 s.regions ≡ None
    → PutOut config flash older (Unqueued e.key ∷ Lose (loss.Key e.key) NoCleanRegion ∷ []) s
put_lost config flash older e s asked t passed none = record {
  lawful = (unqueued_allowed config flash older (Lose (loss.Key e.key) NoCleanRegion ∷ []) e.key asked.flash_is asked.waits (rw unfit (same_bytes e.key)), (rw (asked.flash_is, asked.put) (same_bytes e.key, passed, no_clean), tt));
  tells = record { number = t.number; used = t.used; used_number = t.used_number; in_order = t.in_order; filings = λ h q. rw unfit (t.filings h q); current = t.current; filled = λ q c. rw unfit (t.filled q c) };
  pages = refl;
  entries = refl;
  once = refl;
}
  where
    unfit : passes flash (open_region flash older) (filling flash older) (put_from flash older e.key) ≡ true
    unfit = rw asked.put passed

    no_clean : clean_count flash older ≡ 0
    no_clean = omega (arith, t.number, t.used_number, used-clean s.regions, none_clean s.regions 0 none)
