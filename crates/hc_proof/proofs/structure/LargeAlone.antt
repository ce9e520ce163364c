-- The large engine leads to large entries alone, whatever the device answers.
use Rattle.std.proofs.Common.{◌≡◌, ℕ, ◌+◌, ◌*◌, ◌-◌, ◌<◌, ◌≤◌, ◌==◌, ◌&&◌, Bool, true, false, List, [], ◌∷◌, ◌++◌, length, take, drop, set, Option, Some, None, refl, sym, ap, subst, arith, inl, inr, ◌∙◌}
use Rattle.std.proofs.lemmas.Bool.{cases_lt, eqb-true, leb-true, ltb-false}
use Rattle.std.proofs.lemmas.List.{length-append, length-take, length-drop, set_past, drop_all}
use Rattle.std.proofs.Math.Nat.{div-mul-le_self, lt-div-mul-add, mul-le-mul_right}
use Rattle.std.specs.Prelude.{if◌then◌else◌, nat_lt, nat_le, min, not, ◌/◌, ◌%◌, ◌⊎◌}
use Rattle.std.specs.Int.{w32, w64, from_be_bytes}
use Rattle.hc_types.specs.declared.config.FlashConfig.{FlashConfig}
use Rattle.hc_types.specs.Places.{kept_of, is_small_by}
use Rattle.hc_types.specs.Loss.{Cause, Reclaimed, Fault}
use Rattle.hc_types.specs.FlashEntry.{FlashEntry}
use Rattle.hc_engines.specs.Engine.{IoResult, Page, Written, Failed}
use Rattle.hc_engines.specs.large.Entries.{entry_bytes, made_of, entry_in}
use Rattle.hc_engines.specs.large.Region.{Status, Clean, Open, Sealed, Flushing, OnFlash, Draining, is_clean, is_draining, Appended, Region, clean_region, opened_region, filled_to, page_done, can_go, region_at, lowest_clean}
use Rattle.hc_engines.specs.large.Index.{Place, Indexed, place_at, is_place, without}
use Rattle.hc_engines.specs.large.Block.{Reading, Work, Writing, Getting, Block, Moved, unmoved, end_job}
use Rattle.hc_engines.specs.large.Steps.{fitting, append, seal, open_next, put_fresh, put_into, put, emptied, end_region, clean_count, oldest, reclaim_of, reclaim, write_out, first_ready, early_of, flush_of, flush, go_on, wrote_page, reading_of, read_bytes, answer_of, answered, unreadable, absent, failed_read, read_next, pinned, get_at, get, let_go, resume, take_index}
use Rattle.hc_engines.specs.large.Sound.{is_live, is_listed}
use Rattle.hc_engines.proofs.large.Bytes.{entry_long}
use Rattle.hc_engines.proofs.large.Ends.{not-current-is, still_there}
use Rattle.hc_engines.proofs.large.Flushes.{step_mul}
use Rattle.hc_engines.proofs.large.Lists.{same_num, in_range, region_at-set, place_at-without, place_at-leading}
use Rattle.hc_engines.proofs.large.Regions.{lowest_is}
use Rattle.hc_engines.proofs.large.Puts.{seal-length}
use Rattle.hc_invariant.specs.LargeAlone.{LargePlace, LargeAlone}

-- ---- regions that change

-- what leads into the one leads into the other
pub record Goes (flash : FlashConfig) (old new : Region) : Type 0 where
  pub filled : filled_to flash old ≤ filled_to flash new
  pub live : is_live old.status ≡ true → is_live new.status ≡ true
  pub listed : (hash offset : ℕ) → is_listed hash offset old.appended ≡ true → is_listed hash offset new.appended ≡ true

goes_same : (flash : FlashConfig) (region : Region) → Goes flash region region
goes_same flash region = record { filled = omega arith; live = λ h. h; listed = λ hash offset h. h }

-- another region is as it was
other_region : (regions : List Region) (r q : ℕ) (x : Region) → (q == r) ≡ false → region_at q (set regions r x) ≡ region_at q regions
other_region regions r q x n = elim (cases_lt r (length regions)) [
  | inl lt ↦ region_at-set regions r q x lt ∙ ap (λ (b : Bool). if b then x else region_at q regions) n
  | inr le ↦ ap (region_at q) (set_past regions r x le)
]

goes_set : (flash : FlashConfig) (regions : List Region) (r q : ℕ) (x : Region) → Goes flash (region_at r regions) x → Goes flash (region_at q regions) (region_at q (set regions r x))
goes_set flash regions r q x g = elim (cases_lt r (length regions)) [
  | inl lt ↦ subst (λ (y : Region). Goes flash (region_at q regions) y) (sym (region_at-set regions r q x lt)) (go (q == r) refl)
  | inr le ↦ subst (λ (rs : List Region). Goes flash (region_at q regions) (region_at q rs)) (sym (set_past regions r x le)) (goes_same flash (region_at q regions))
]
  where
    go : (t : Bool) → (q == r) ≡ t → Goes flash (region_at q regions) (if t then x else region_at q regions)
    go true t = subst (λ (i : ℕ). Goes flash (region_at i regions) x) (sym (eqb-true q r t)) g
    go false t = goes_same flash (region_at q regions)

place_goes : (flash : FlashConfig) (s new : Block) (hash : ℕ) (place : Place) → Goes flash (region_at place.region s.regions) (region_at place.region new.regions) → LargePlace flash s hash place → LargePlace flash new hash place
place_goes flash s new hash place g p = record { long = p.long; within = omega (arith, p.within, g.filled); live = g.live p.live; listed = g.listed hash place.offset p.listed }

-- what is left of the index leads where it led
abbrev pub Fewer : List Indexed → List Indexed → Type 0
Fewer old new = (hash : ℕ) (place : Place) → place_at hash new ≡ Some place → place_at hash old ≡ Some place

fewer_without : (hash : ℕ) (index : List Indexed) → Fewer index (without hash index)
fewer_without hash index h place e = by (h == hash) (sym (place_at-without hash h index) ∙ e)
  where
    by : (t : Bool) → (if t then None else place_at h index) ≡ Some place → place_at h index ≡ Some place
    by true e = absurd cc
    by false e = e

-- the regions go on, and no place comes
pub alone_goes : (flash : FlashConfig) (s new : Block) → ((q : ℕ) → Goes flash (region_at q s.regions) (region_at q new.regions)) → Fewer s.index new.index → ((c : ℕ) → new.current ≡ Some c → s.current ≡ Some c) → LargeAlone flash s → LargeAlone flash new
alone_goes flash s new goes fewer current a = record {
  current = λ c e. (goes c).live (a.current c (current c e));
  places = λ hash place e. place_goes flash s new hash place (goes place.region) (a.places hash place (fewer hash place e));
}

-- one region goes on
one_goes : (flash : FlashConfig) (r : ℕ) (x : Region) (s new : Block) → new.regions ≡ set s.regions r x → new.index ≡ s.index → new.current ≡ s.current → Goes flash (region_at r s.regions) x → LargeAlone flash s → LargeAlone flash new
one_goes flash r x s new regions index current g a =
    alone_goes flash s new (λ q. subst (λ (rs : List Region). Goes flash (region_at q s.regions) (region_at q rs)) (sym regions) (goes_set flash s.regions r q x g))
    (λ hash place e. ap (place_at hash) (sym index) ∙ e) (λ c e. sym current ∙ e) a

-- nothing leads into the region, so that it may become anything
bare_goes : (flash : FlashConfig) (r : ℕ) (x : Region) (s new : Block) → new.regions ≡ set s.regions r x → ((hash : ℕ) (place : Place) → place_at hash new.index ≡ Some place → (place_at hash s.index ≡ Some place) × ((place.region == r) ≡ false))
    → ((c : ℕ) → new.current ≡ Some c → (s.current ≡ Some c) × ((c == r) ≡ false)) → LargeAlone flash s → LargeAlone flash new
bare_goes flash r x s new regions places current a = record {
  current = λ c e. let was = current c e in ap (λ (y : Region). is_live y.status) (other c was.1) ∙ a.current c was.0;
  places = λ hash place e.
      let was = places hash place e in
      place_goes flash s new hash place (subst (λ (y : Region). Goes flash (region_at place.region s.regions) y) (sym (other place.region was.1)) (goes_same flash (region_at place.region s.regions))) (a.places hash place was.0);
}
  where
    other : (q : ℕ) → (q == r) ≡ false → region_at q new.regions ≡ region_at q s.regions
    other q n = ap (region_at q) regions ∙ other_region s.regions r q x n

-- ---- a put

live_unclean : (status : Status) → is_live status ≡ true → is_clean status ≡ false
live_unclean Clean h = absurd cc
live_unclean Open h = refl
live_unclean Sealed h = refl
live_unclean Flushing h = refl
live_unclean OnFlash h = refl
live_unclean Draining h = absurd cc

listed-push : (h o : ℕ) (xs : List Appended) (x : Appended) → is_listed h o xs ≡ true → is_listed h o (xs ++ x ∷ []) ≡ true
listed-push h o [] x l = absurd cc
listed-push h o (y ∷ ys) x l = grind (arith, listed-push h o ys x)

listed-last : (h o : ℕ) (xs : List Appended) → is_listed h o (xs ++ record { hash = h; offset = o } ∷ []) ≡ true
listed-last h o [] = grind (arith, same_num h, same_num o)
listed-last h o (y ∷ ys) = grind (arith, listed-last h o ys)

large_long : (flash : FlashConfig) (entry : FlashEntry) → is_small_by flash entry.key (length entry.value) ≡ false → 14 + flash.small_max < length (entry_bytes entry)
large_long flash entry large = let more : flash.small_max < length entry.key + length entry.value = grind (arith, large) in omega (arith, entry_long entry, more)

module _ (flash : FlashConfig) (entry : FlashEntry) (large : is_small_by flash entry.key (length entry.value) ≡ false) where
  append_alone : (r : ℕ) (s : Block) → is_live (region_at r s.regions).status ≡ true → LargeAlone flash s → LargeAlone flash (append flash r entry s)
  append_alone r s live a = record {
    current = λ c e. (goes c).live (a.current c e);
    places = λ h place e. by h place (h == hash) refl (sym (place_at-leading hash h own s.index) ∙ e);
  }
    where
      hash : ℕ
      hash = kept_of flash.bits entry.key

      old : Region
      old = region_at r s.regions

      own : Place
      own = record { region = r; offset = filled_to flash old; length = length (entry_bytes entry) }

      grown : Region
      grown = record old { buffer = old.buffer ++ entry_bytes entry; appended = old.appended ++ record { hash = hash; offset = filled_to flash old } ∷ [] }

      here : region_at r (set s.regions r grown) ≡ grown
      here = region_at-set s.regions r r grown (in_range s.regions r (live_unclean old.status live)) ∙ ap (λ (b : Bool). if b then grown else region_at r s.regions) (same_num r)

      goes : (q : ℕ) → Goes flash (region_at q s.regions) (region_at q (set s.regions r grown))
      goes q = goes_set flash s.regions r q grown (record { filled = omega (arith, length-append old.buffer (entry_bytes entry)); live = λ h. h; listed = λ h o l. listed-push h o old.appended (record { hash = hash; offset = filled_to flash old }) l })

      new_place : LargePlace flash (append flash r entry s) hash own
      new_place = record {
        long = large_long flash entry large;
        within = rw here (omega (arith, length-append old.buffer (entry_bytes entry)));
        live = ap (λ (x : Region). is_live x.status) here ∙ live;
        listed = ap (λ (x : Region). is_listed hash (filled_to flash old) x.appended) here ∙ listed-last hash (filled_to flash old) old.appended;
      }

      by : (h : ℕ) (place : Place) (t : Bool) → (h == hash) ≡ t → (if t then Some own else place_at h s.index) ≡ Some place → LargePlace flash (append flash r entry s) h place
      by h place true t e =
          let same : own ≡ place = cc in
          subst (λ (p : Place). LargePlace flash (append flash r entry s) h p) same (subst (λ (k : ℕ). LargePlace flash (append flash r entry s) k own) (sym (eqb-true h hash t)) new_place)
      by h place false t e = place_goes flash s (append flash r entry s) h place (goes place.region) (a.places h place e)

seal_goes : (flash : FlashConfig) (c : Option ℕ) (regions : List Region) → ((q : ℕ) → c ≡ Some q → is_live (region_at q regions).status ≡ true) → (q : ℕ) → Goes flash (region_at q regions) (region_at q (seal c regions))
seal_goes flash None regions live q = goes_same flash (region_at q regions)
seal_goes flash (Some c) regions live q = goes_set flash regions c q (record (region_at c regions) { status = Sealed }) (record { filled = omega arith; live = λ h. refl; listed = λ h o l. l })

clean_dead : (status : Status) → is_clean status ≡ true → is_live status ≡ false
clean_dead Clean h = refl
clean_dead Open h = absurd cc
clean_dead Sealed h = absurd cc
clean_dead Flushing h = absurd cc
clean_dead OnFlash h = absurd cc
clean_dead Draining h = absurd cc

draining_dead : (status : Status) → is_draining status ≡ true → is_live status ≡ false
draining_dead Clean h = absurd cc
draining_dead Open h = absurd cc
draining_dead Sealed h = absurd cc
draining_dead Flushing h = absurd cc
draining_dead OnFlash h = absurd cc
draining_dead Draining h = refl

-- a region into which something may lead is another than one into which nothing may
apart_from : (regions : List Region) (q r : ℕ) → is_live (region_at r regions).status ≡ false → is_live (region_at q regions).status ≡ true → (q == r) ≡ false
apart_from regions q r dead live = by (q == r) refl
  where
    by : (t : Bool) → (q == r) ≡ t → (q == r) ≡ false
    by false t = t
    by true t = absurd (let same : q ≡ r = eqb-true q r t in let here : is_live (region_at r regions).status ≡ true = ap (λ (i : ℕ). is_live (region_at i regions).status) (sym same) ∙ live in let wrong : true ≡ false = sym here ∙ dead in cc)

apart_to : (regions : List Region) (q r : ℕ) → is_live (region_at r regions).status ≡ false → is_live (region_at q regions).status ≡ true → (r == q) ≡ false
apart_to regions q r dead live = by (r == q) refl
  where
    by : (t : Bool) → (r == q) ≡ t → (r == q) ≡ false
    by false t = t
    by true t = absurd (let same : r ≡ q = eqb-true r q t in let here : is_live (region_at r regions).status ≡ true = ap (λ (i : ℕ). is_live (region_at i regions).status) same ∙ live in let wrong : true ≡ false = sym here ∙ dead in cc)

-- the region in use is sealed
module _ (flash : FlashConfig) (r : ℕ) (s : Block) (low : lowest_clean 0 s.regions ≡ Some r) (a : LargeAlone flash s) where
  abbrev sealed : Block
  sealed = record s { regions = seal s.current s.regions }

  between : LargeAlone flash sealed
  between = alone_goes flash s sealed (seal_goes flash s.current s.regions a.current) (λ h place e. e) (λ c e. e) a

  there : r < length (seal s.current s.regions)
  there = let l = lowest_is s.regions 0 r low in omega (arith, seal-length s.current s.regions, l.1, l.2.there)

  dead_before : is_live (region_at r s.regions).status ≡ false
  dead_before = let l = lowest_is s.regions 0 r low in clean_dead (region_at r s.regions).status (ap (λ (i : ℕ). is_clean (region_at i s.regions).status) (omega (arith, l.1)) ∙ l.2.clean)

  dead : is_live (region_at r (seal s.current s.regions)).status ≡ false
  dead = by s.current (λ c e. a.current c e)
    where
      by : (o : Option ℕ) → ((c : ℕ) → o ≡ Some c → is_live (region_at c s.regions).status ≡ true) → is_live (region_at r (seal o s.regions)).status ≡ false
      by None live = dead_before
      by (Some c) live = ap (λ (x : Region). is_live x.status) (other_region s.regions c r (record (region_at c s.regions) { status = Sealed }) (apart_to s.regions c r dead_before (live c refl))) ∙ dead_before

  here : region_at r (open_next r s).regions ≡ opened_region
  here = region_at-set (seal s.current s.regions) r r opened_region there ∙ ap (λ (b : Bool). if b then opened_region else region_at r (seal s.current s.regions)) (same_num r)

  -- and a clean one is opened
  open_alone : LargeAlone flash (open_next r s)
  open_alone = record {
    current = λ c e. let same : r ≡ c = cc in subst (λ (i : ℕ). is_live (region_at i (open_next r s).regions).status ≡ true) same (ap (λ (x : Region). is_live x.status) here);
    places = λ h place e.
        let was = between.places h place e in
        let other = other_region (seal s.current s.regions) r place.region opened_region (apart_from (seal s.current s.regions) place.region r dead was.live) in
        place_goes flash sealed (open_next r s) h place (subst (λ (y : Region). Goes flash (region_at place.region (seal s.current s.regions)) y) (sym other) (goes_same flash (region_at place.region (seal s.current s.regions)))) was;
  }

fitting_is : (flash : FlashConfig) (s : Block) (len r : ℕ) (o : Option ℕ) → fitting flash s len o ≡ Some r → o ≡ Some r
fitting_is flash s len r None e = absurd cc
fitting_is flash s len r (Some c) e = by (nat_le (filled_to flash (region_at c s.regions) + len) _) e
  where
    by : (b : Bool) → (if b then Some c else None) ≡ Some r → Some c ≡ Some r
    by true e = e
    by false e = absurd cc

-- an entry that isn't small is put
pub put_alone : (flash : FlashConfig) (entry : FlashEntry) (s : Block) → is_small_by flash entry.key (length entry.value) ≡ false → LargeAlone flash s → LargeAlone flash (put flash entry s).state
put_alone flash entry s large a = by (fitting flash s (length (entry_bytes entry)) s.current) refl
  where
    fresh : (o : Option ℕ) → lowest_clean 0 s.regions ≡ o → LargeAlone flash (put_fresh flash entry s o).state
    fresh None low = a
    fresh (Some r) low = append_alone flash entry large r (open_next r s) (ap (λ (x : Region). is_live x.status) (here flash r s low a)) (open_alone flash r s low a)

    by : (o : Option ℕ) → fitting flash s (length (entry_bytes entry)) s.current ≡ o → LargeAlone flash (put_into flash entry s o).state
    by None e = fresh (lowest_clean 0 s.regions) refl
    by (Some r) e = append_alone flash entry large r s (a.current r (fitting_is flash s (length (entry_bytes entry)) r s.current e)) a

-- ---- pages

pub flush_alone : (flash : FlashConfig) (number : ℕ) (s : Block) → LargeAlone flash s → LargeAlone flash (flush flash number s).state
flush_alone flash number s a = by (first_ready s.regions s.sealed)
  where
    early_one : (r : ℕ) (t : Bool) → LargeAlone flash (if t then write_out flash number r (record (region_at r s.regions) { early = true }) s else unmoved s).state
    early_one r true = one_goes flash r (record (region_at r s.regions) { early = true }) s _ refl refl refl (record { filled = omega arith; live = λ h. h; listed = λ h o l. l }) a
    early_one r false = a

    early : (o : Option ℕ) → LargeAlone flash (early_of flash number s o).state
    early None = a
    early (Some r) = early_one r (can_go flash (region_at r s.regions))

    by : (o : Option ℕ) → LargeAlone flash (flush_of flash number s o).state
    by None = early s.current
    by (Some r) = one_goes flash r (record (region_at r s.regions) { status = Flushing }) s _ refl refl refl (record { filled = omega arith; live = λ h. refl; listed = λ h o l. l }) a

done_filled : (flash : FlashConfig) (region : Region) → filled_to flash region ≤ filled_to flash (page_done flash region)
done_filled flash region = omega (arith, length-drop flash.page region.buffer, step_mul region.written flash.page)

wrote_alone : (flash : FlashConfig) (number r : ℕ) (status : Status) (s : Block) → LargeAlone flash s → LargeAlone flash (wrote_page flash number r status s).state
wrote_alone flash number r status s a = by status
  where
    old : Region
    old = region_at r s.regions

    eases : LargeAlone flash (record s { regions = set s.regions r (record (page_done flash old) { early = false }) })
    eases = one_goes flash r (record (page_done flash old) { early = false }) s _ refl refl refl (record { filled = done_filled flash old; live = λ h. h; listed = λ h o l. l }) a

    on : (t : Bool) → nat_lt (old.written + 1) flash.region_pages ≡ t → LargeAlone flash (go_on flash number r (page_done flash old) s).state
    on true t = rw t (one_goes flash r (page_done flash old) s _ refl refl refl (record { filled = done_filled flash old; live = λ h. h; listed = λ h o l. l }) a)
    on false t = rw t (one_goes flash r (record (page_done flash old) { status = OnFlash }) s _ refl refl refl (record { filled = done_filled flash old; live = λ h. refl; listed = λ h o l. l }) a)

    by : (status : Status) → LargeAlone flash (wrote_page flash number r status s).state
    by Clean = eases
    by Open = eases
    by Sealed = eases
    by Flushing = on (nat_lt (old.written + 1) flash.region_pages) refl
    by OnFlash = eases
    by Draining = eases

-- ---- a region ends

ended_alone : (flash : FlashConfig) (cause : Cause) (r : ℕ) (s : Block) → LargeAlone flash s → LargeAlone flash (end_region cause r s).state
ended_alone flash cause r s a =
    bare_goes flash r (emptied (region_at r s.regions)) s (end_region cause r s).state refl
    (λ h place e. still_there r h (region_at r s.regions).appended s.index place (λ q at is. subst (λ (i : ℕ). is_listed h q.offset (region_at i s.regions).appended ≡ true) is (a.places h q at).listed) e)
    (λ c e. not-current-is r c s.current e) a

pub reclaim_alone : (flash : FlashConfig) (s : Block) → LargeAlone flash s → LargeAlone flash (reclaim flash s).state
reclaim_alone flash s a = by (nat_lt (clean_count s.regions) flash.clean)
  where
    of : (o : Option ℕ) → LargeAlone flash (reclaim_of s o).state
    of None = a
    of (Some r) = ended_alone flash (Reclaimed r) r s a

    by : (t : Bool) → LargeAlone flash (if t then reclaim_of s (oldest s.regions s.flushed) else unmoved s).state
    by true = of (oldest s.regions s.flushed)
    by false = a

-- ---- reads

pub take_alone : (flash : FlashConfig) (hash : ℕ) (s : Block) → LargeAlone flash s → LargeAlone flash (take_index hash s)
take_alone flash hash s a = alone_goes flash s (take_index hash s) (λ q. goes_same flash (region_at q s.regions)) (fewer_without hash s.index) (λ c e. e) a

answered_alone : (flash : FlashConfig) (reading : Reading) (s : Block) → LargeAlone flash s → LargeAlone flash (answered flash reading s).state
answered_alone flash reading s a = by (is_place (place_at (kept_of flash.bits reading.key) s.index) reading.place)
  where
    of : (o : Option FlashEntry) → LargeAlone flash (answer_of (kept_of flash.bits reading.key) reading.key s o).state
    of None = take_alone flash (kept_of flash.bits reading.key) s a
    of (Some entry) = a

    by : (t : Bool) → LargeAlone flash (if t then answer_of (kept_of flash.bits reading.key) reading.key s (entry_in (read_bytes flash reading)) else absent s).state
    by true = of (entry_in (read_bytes flash reading))
    by false = a

failed_alone : (flash : FlashConfig) (reading : Reading) (s : Block) → LargeAlone flash s → LargeAlone flash (failed_read flash reading s).state
failed_alone flash reading s a = by (is_place (place_at (kept_of flash.bits reading.key) s.index) reading.place)
  where
    by : (t : Bool) → LargeAlone flash (if t then unreadable (kept_of flash.bits reading.key) s else absent s).state
    by true = take_alone flash (kept_of flash.bits reading.key) s a
    by false = a

let_go_alone : (flash : FlashConfig) (r : ℕ) (m : Moved) → LargeAlone flash m.state → LargeAlone flash (let_go r m).state
let_go_alone flash r m a = by (is_draining old.status && (old.pins == 1)) refl
  where
    old : Region
    old = region_at r m.state.regions

    drains : (p q : Bool) → (p && q) ≡ true → p ≡ true
    drains true q h = refl
    drains false q h = absurd cc

    by : (t : Bool) → (is_draining old.status && (old.pins == 1)) ≡ t → LargeAlone flash (let_go r m).state
    by true t =
        let dead : is_live old.status ≡ false = draining_dead old.status (drains (is_draining old.status) (old.pins == 1) t) in
        rw t (bare_goes flash r clean_region m.state _ refl (λ h place e. (e, apart_from m.state.regions place.region r dead (a.places h place e).live)) (λ c e. (e, apart_from m.state.regions c r dead (a.current c e))) a)
    by false t = rw t (one_goes flash r (record old { pins = old.pins - 1 }) m.state _ refl refl refl (record { filled = omega arith; live = λ h. h; listed = λ h o l. l }) a)

pub get_alone : (flash : FlashConfig) (number : ℕ) (key : List ℕ) (s : Block) → LargeAlone flash s → LargeAlone flash (get flash number key s).state
get_alone flash number key s a = by (place_at (kept_of flash.bits key) s.index)
  where
    begun : (p : Place) (t : Bool) → LargeAlone flash (if t then read_next flash number (reading_of flash key p s) (pinned p.region s) else answered flash (reading_of flash key p s) s).state
    begun p true = one_goes flash p.region (record (region_at p.region s.regions) { pins = (region_at p.region s.regions).pins + 1 }) s _ refl refl refl (record { filled = omega arith; live = λ h. h; listed = λ h o l. l }) a
    begun p false = answered_alone flash (reading_of flash key p s) s a

    by : (o : Option Place) → LargeAlone flash (get_at flash number key o s).state
    by None = a
    by (Some p) = begun p (nat_lt (reading_of flash key p s).next (reading_of flash key p s).until)

pub resume_alone : (flash : FlashConfig) (number : ℕ) (work : Work) (result : IoResult) (s : Block) → LargeAlone flash s → LargeAlone flash (resume flash number work result s).state
resume_alone flash number work result s a = of work result
  where
    off : LargeAlone flash (end_job number s)
    off = record { current = a.current; places = λ h place e. let p = a.places h place e in record { long = p.long; within = p.within; live = p.live; listed = p.listed } }

    got : (reading : Reading) (bytes : List ℕ) (t : Bool)
        → LargeAlone flash (if t then read_next flash number (record reading { got = reading.got ++ bytes; next = reading.next + 1 }) (end_job number s)
        else let_go reading.place.region (answered flash (record reading { got = reading.got ++ bytes; next = reading.next + 1 }) (end_job number s))).state
    got reading bytes true = record { current = a.current; places = λ h place e. let p = a.places h place e in record { long = p.long; within = p.within; live = p.live; listed = p.listed } }
    got reading bytes false = let_go_alone flash reading.place.region (answered flash (record reading { got = reading.got ++ bytes; next = reading.next + 1 }) (end_job number s)) (answered_alone flash (record reading { got = reading.got ++ bytes; next = reading.next + 1 }) (end_job number s) off)

    of : (work : Work) (result : IoResult) → LargeAlone flash (resume flash number work result s).state
    of (Writing r bytes) Written = wrote_alone flash number r (region_at r s.regions).status (end_job number s) off
    of (Writing r bytes) Failed = ended_alone flash Fault r (end_job number s) off
    of (Writing r bytes) (Page page) = off
    of (Getting reading) (Page page) = got reading page (nat_lt (reading.next + 1) reading.until)
    of (Getting reading) Failed = let_go_alone flash reading.place.region (failed_read flash reading (end_job number s)) (failed_alone flash reading (end_job number s) off)
    of (Getting reading) Written = off

-- ---- what is found in a region's buffer

-- an entry that is read has as many bytes as stand there
read_long : (bytes : List ℕ) (entry : FlashEntry) → entry_in bytes ≡ Some entry → 14 + (length entry.key + length entry.value) ≡ length bytes
read_long [] entry e = absurd cc
read_long (key ∷ []) entry e = absurd cc
read_long (key ∷ pool ∷ rest) entry e = behind (nat_le 12 (length rest)) refl e
  where
    made : 12 ≤ length rest → (a b c : Bool) → (length (drop 12 rest) == key + from_be_bytes w32 (take 4 rest)) ≡ c
        → (if not a && b && c then Some (record { key = take key (drop 12 rest); value = drop key (drop 12 rest); pool = pool; expiry = from_be_bytes w64 (take 8 (drop 4 rest)) }) else None) ≡ Some entry → 14 + (length entry.key + length entry.value) ≡ length (key ∷ pool ∷ rest)
    made long true b c t e = absurd cc
    made long false false c t e = absurd cc
    made long false true false t e = absurd cc
    made long false true true t e =
        let whole : length (drop 12 rest) ≡ key + from_be_bytes w32 (take 4 rest) = eqb-true (length (drop 12 rest)) (key + from_be_bytes w32 (take 4 rest)) t in
        let same : record { key = take key (drop 12 rest); value = drop key (drop 12 rest); pool = pool; expiry = from_be_bytes w64 (take 8 (drop 4 rest)) } ≡ entry = cc in
        let own_key : length entry.key ≡ length (take key (drop 12 rest)) = ap (λ (x : FlashEntry). length x.key) (sym same) in
        let own_value : length entry.value ≡ length (drop key (drop 12 rest)) = ap (λ (x : FlashEntry). length x.value) (sym same) in
        omega (arith, own_key, own_value, length-take key (drop 12 rest), length-drop key (drop 12 rest), length-drop 12 rest, whole, long)

    behind : (t : Bool) → nat_le 12 (length rest) ≡ t → (if t then made_of key pool (from_be_bytes w32 (take 4 rest)) (from_be_bytes w64 (take 8 (drop 4 rest))) (drop 12 rest) else None) ≡ Some entry → 14 + (length entry.key + length entry.value) ≡ length (key ∷ pool ∷ rest)
    behind true t e = made (leb-true 12 (length rest) t) (key == 0) (nat_le (from_be_bytes w32 (take 4 rest)) 1048576) (length (drop 12 rest) == key + from_be_bytes w32 (take 4 rest)) refl e
    behind false t e = absurd cc

-- where no page of it is to be read, the written pages end before it
written_before : (page written offset len : ℕ) → 0 < len → nat_lt (offset / page) (min written ((offset + len + (page - 1)) / page)) ≡ false → written * page ≤ offset
written_before page written offset len some t = elim (cases_lt 0 page) [
  | inl there ↦ by there (le-or written ((offset + len + (page - 1)) / page))
  | inr none ↦ (let zero : page ≡ 0 = omega (arith, none) in rw zero (omega arith))
]
  where
    few : min written ((offset + len + (page - 1)) / page) ≤ offset / page
    few = ltb-false (offset / page) (min written ((offset + len + (page - 1)) / page)) t

    le-or : (a b : ℕ) → (min a b ≡ a) ⊎ (min a b ≡ b)
    le-or a b = grind arith

    by : 0 < page → (min written ((offset + len + (page - 1)) / page) ≡ written) ⊎ (min written ((offset + len + (page - 1)) / page) ≡ (offset + len + (page - 1)) / page) → written * page ≤ offset
    by there (inl is) = omega (arith, mul-le-mul_right {m = written} {n = offset / page} page (omega (arith, is, few)), div-mul-le_self offset page)
    by there (inr is) =
        let before : (offset + len + (page - 1)) / page * page ≤ offset / page * page = mul-le-mul_right {m = (offset + len + (page - 1)) / page} {n = offset / page} page (omega (arith, is, few)) in
        let behind : offset + len + (page - 1) < (offset + len + (page - 1)) / page * page + page = lt-div-mul-add {a = offset + len + (page - 1)} {b = page} there in
        absurd (omega (arith, before, behind, div-mul-le_self offset page, some, there))

-- what a get finds that reads no page is a large entry
pub found_large : (flash : FlashConfig) (key : List ℕ) (place : Place) (s : Block) (entry : FlashEntry) → LargeAlone flash s → place_at (kept_of flash.bits key) s.index ≡ Some place → nat_lt (reading_of flash key place s).next (reading_of flash key place s).until ≡ false
    → entry_in (read_bytes flash (reading_of flash key place s)) ≡ Some entry → is_small_by flash entry.key (length entry.value) ≡ false
found_large flash key place s entry a at over read =
    let p = a.places (kept_of flash.bits key) place at in
    let region = region_at place.region s.regions in
    let on : region.written * flash.page ≤ place.offset = written_before flash.page region.written place.offset place.length (omega (arith, p.long)) over in
    let left : List ℕ = drop (place.offset - region.written * flash.page) region.buffer in
    let got : List ℕ = drop (place.offset % flash.page) [] in
    let rest : List ℕ = take (place.length - (region.written * flash.page - place.offset)) (drop (place.offset - region.written * flash.page) region.buffer) in
    let none : length (drop (place.offset % flash.page) []) ≡ 0 = ap (λ (xs : List ℕ). length xs) (drop_all (place.offset % flash.page) [] (omega arith)) in
    let long : length (read_bytes flash (reading_of flash key place s)) ≡ place.length = omega (
      arith,
      length-take place.length (drop (place.offset % flash.page) [] ++ take (place.length - (region.written * flash.page - place.offset)) (drop (place.offset - region.written * flash.page) region.buffer)),
      length-append (drop (place.offset % flash.page) []) (take (place.length - (region.written * flash.page - place.offset)) (drop (place.offset - region.written * flash.page) region.buffer)),
      length-take (place.length - (region.written * flash.page - place.offset)) (drop (place.offset - region.written * flash.page) region.buffer),
      length-drop (place.offset - region.written * flash.page) region.buffer,
      none,
      on,
      p.within,
    ) in
    let more : flash.small_max < length entry.key + length entry.value = omega (arith, read_long (read_bytes flash (reading_of flash key place s)) entry read, long, p.long) in
    grind (arith, more)
