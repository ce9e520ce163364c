-- Put: its notes are lawful, and the books stay the engine's.
use Rattle.std.proofs.Common.{◌≡◌, ℕ, ◌+◌, ◌-◌, ◌<◌, ◌≤◌, Bool, true, false, List, [], ◌∷◌, ◌++◌, length, take, set, Option, Some, None, refl, sym, arith, ◌∙◌}
use Rattle.std.proofs.lemmas.Bool.{eqb-true}
use Rattle.std.proofs.lemmas.List.{length-set, length-append, take-append-le}
use Rattle.std.specs.Prelude.{if◌then◌else◌, ◌==◌}
use Rattle.std.specs.Str.{bytes_eq}
use Rattle.hc_types.specs.declared.config.FlashConfig.{FlashConfig}
use Rattle.hc_types.specs.Places.{kept_of}
use Rattle.hc_types.specs.FlashEntry.{FlashEntry}
use Rattle.hc_engines.specs.large.Entries.{entry_bytes}
use Rattle.hc_engines.specs.large.Region.{Status, Clean, Open, Sealed, is_clean, Appended, Region, clean_region, opened_region, filled_to, next_page, region_at}
use Rattle.hc_engines.specs.large.Index.{Place, place_at}
use Rattle.hc_engines.specs.large.Block.{Block}
use Rattle.hc_engines.specs.large.Steps.{append, seal, sealed_too}
use Rattle.hc_engines.specs.large.Numbers.{is_in}
use Rattle.hc_engines.specs.large.Sound.{is_live, is_stored, is_out, is_listed, writers, readers, EarlyHolds, Holds, Sound}
use Rattle.hc_engines.proofs.large.Lists.{rising_push, same_num, place_at-leading, in_range, region_at-set, each-set, is_in-push}
use Rattle.hc_engines.proofs.large.Regions.{works-set}

-- ---- the entry goes behind what the region has

abbrev grown : FlashEntry → FlashConfig → Region → Region
grown entry flash region = record region { buffer = region.buffer ++ entry_bytes entry; appended = region.appended ++ record { hash = kept_of flash.bits entry.key; offset = filled_to flash region } ∷ [] }

listed-push : (h o : ℕ) (xs : List Appended) (x : Appended) → is_listed h o xs ≡ true → is_listed h o (xs ++ x ∷ []) ≡ true
listed-push h o [] x l = absurd (cc)
listed-push h o (y ∷ ys) x l = grind (arith, listed-push h o ys x)

listed_last : (h o : ℕ) (xs : List Appended) → is_listed h o (xs ++ record { hash = h; offset = o } ∷ []) ≡ true
listed_last h o [] = grind (arith, same_num h, same_num o)
listed_last h o (y ∷ ys) = grind (arith, listed_last h o ys)

-- a full page stays as it is
same_page : (flash : FlashConfig) (region more : Region) (bytes : List ℕ) → more.buffer ≡ region.buffer ++ bytes → flash.page ≤ length region.buffer → next_page flash more ≡ next_page flash region
same_page flash region more bytes e h =
    let front : take flash.page more.buffer ≡ take flash.page region.buffer = (rw e (take-append-le flash.page region.buffer bytes h)) in
    let long : length more.buffer ≡ length region.buffer + length bytes = (rw e (length-append region.buffer bytes)) in
    let none : flash.page - length more.buffer ≡ 0 = omega arith in
    let none2 : flash.page - length region.buffer ≡ 0 = omega arith in
    rw (front, none, none2) refl

grown_holds : (flash : FlashConfig) (entry : FlashEntry) (rs ws : ℕ) (region : Region) → region.status ≡ Open → Holds flash rs ws region → Holds flash rs ws (grown entry flash region)
grown_holds flash entry rs ws region o h = record {
  blank = λ c. absurd (let d : is_clean Open ≡ true = (rw o at c) in cc);
  bare = λ c. absurd (let d : is_live Open ≡ false = (rw o at c) in cc);
  rising = rising_push 0 (filled_to flash region) (filled_to flash (grown entry flash region)) (kept_of flash.bits entry.key) region.appended (let some : 0 < length (entry_bytes entry) = omega arith in omega (arith, length-append region.buffer (entry_bytes entry))) h.rising;
  pinned = h.pinned;
  drains = h.drains;
  out = h.out;
  unwritten = h.unwritten;
  early = λ e. let was = h.early e in record { waiting = was.waiting; full = longer was.full; not_last = was.not_last };
}
  where
    longer : flash.page ≤ length region.buffer → flash.page ≤ length (region.buffer ++ entry_bytes entry)
    longer h = omega (arith, length-append region.buffer (entry_bytes entry))

-- a page of an open region that is out goes early
open_out : (flash : FlashConfig) (rs ws : ℕ) (region : Region) → region.status ≡ Open → Holds flash rs ws region → 0 < ws → EarlyHolds flash region
open_out flash rs ws region o h w = go region.early refl
  where
    go : (t : Bool) → region.early ≡ t → EarlyHolds flash region
    go true t = h.early t
    go false t = let none : ◌≡◌ {A = ℕ} (if is_out region then 1 else 0) 0 = (rw (o, t) refl) in absurd (omega (arith, h.out))

pub append_sound : (flash : FlashConfig) (r : ℕ) (entry : FlashEntry) (s : Block) → (region_at r s.regions).status ≡ Open → Sound flash s → Sound flash (append flash r entry s)
append_sound flash r entry s o sound = record {
  current = λ q c. kept (λ status. status ≡ Open) q (sound.current q c);
  sealed = λ q i. kept (λ status. status ≡ Sealed) q (sound.sealed q i);
  flushed = λ q i. kept (λ status. is_stored status ≡ true) q (sound.flushed q i);
  listed = λ h p e. found h p (h == kept_of flash.bits entry.key) refl (sym (place_at-leading (kept_of flash.bits entry.key) h place s.index) ∙ e);
  regions = each-set (λ q x. Holds flash (readers q s.jobs) (writers q s.jobs) x) s.regions r new lt (grown_holds flash entry (readers r s.jobs) (writers r s.jobs) old o (sound.regions r)) (λ q n. sound.regions q);
  works = works-set flash s.regions r new s.jobs lt sound.works (λ w. same_page flash old new (entry_bytes entry) refl (open_out flash (readers r s.jobs) (writers r s.jobs) old o (sound.regions r) w).full) (λ w. omega arith);
  single = sound.single;
}
  where
    old : Region
    old = region_at r s.regions

    new : Region
    new = grown entry flash old

    place : Place
    place = record { region = r; offset = filled_to flash old; length = length (entry_bytes entry) }

    lt : r < length s.regions
    lt = in_range s.regions r (rw o refl)

    kept : (P : Status → Type 0) (q : ℕ) → P (region_at q s.regions).status → P (region_at q (set s.regions r new)).status
    kept P q h = rw (region_at-set s.regions r q new lt) (go (q == r) refl)
      where
        go : (t : Bool) → (q == r) ≡ t → P (if t then new else region_at q s.regions).status
        go true t = let same : q ≡ r = eqb-true q r t in rw same at h
        go false t = h

    listed_still : (h : ℕ) (p : Place) → is_listed h p.offset (region_at p.region s.regions).appended ≡ true → is_listed h p.offset (region_at p.region (set s.regions r new)).appended ≡ true
    listed_still h p l = rw (region_at-set s.regions r p.region new lt) (go (p.region == r) refl)
      where
        go : (t : Bool) → (p.region == r) ≡ t → is_listed h p.offset (if t then new else region_at p.region s.regions).appended ≡ true
        go true t = let same : p.region ≡ r = eqb-true p.region r t in listed-push h p.offset old.appended (record { hash = kept_of flash.bits entry.key; offset = filled_to flash old }) (rw same at l)
        go false t = l

    found : (h : ℕ) (p : Place) (t : Bool) → (h == kept_of flash.bits entry.key) ≡ t → (if t then Some place else place_at h s.index) ≡ Some p → is_listed h p.offset (region_at p.region (set s.regions r new)).appended ≡ true
    found h p true t e =
        let hash : h ≡ kept_of flash.bits entry.key = eqb-true h (kept_of flash.bits entry.key) t in
        let same : place ≡ p = cc in
        rw (hash, ← same, region_at-set s.regions r r new lt, same_num r) (listed_last (kept_of flash.bits entry.key) (filled_to flash old) old.appended)
    found h p false t e = listed_still h p (sound.listed h p e)

-- ---- the region in use is sealed

abbrev pub seal_step : Block → Block
seal_step s = record s { regions = seal s.current s.regions; current = None; sealed = sealed_too s.current s.sealed }

sealed_holds : (flash : FlashConfig) (rs ws : ℕ) (region : Region) → region.status ≡ Open → Holds flash rs ws region → Holds flash rs ws (record region { status = Sealed })
sealed_holds flash rs ws region o h = record {
  blank = λ c. absurd (cc);
  bare = λ c. absurd (cc);
  rising = h.rising;
  pinned = h.pinned;
  drains = λ c. absurd (cc);
  out = h.out ∙ (rw o refl);
  unwritten = λ c. h.unwritten (rw o refl);
  early = λ e. let was = h.early e in record { waiting = refl; full = was.full; not_last = was.not_last };
}

seal_one : (flash : FlashConfig) (c : ℕ) (s : Block) → s.current ≡ Some c → Sound flash s → Sound flash (record s { regions = seal (Some c) s.regions; current = None; sealed = sealed_too (Some c) s.sealed })
seal_one flash c s e sound = record {
  current = λ q h. absurd (cc);
  sealed = λ q i. into q (q == c) refl (sym (is_in-push q c s.sealed) ∙ i);
  flushed = λ q i. rw (region_at-set s.regions c q new lt) (stored q i (q == c) refl);
  listed = λ h p f. rw (region_at-set s.regions c p.region new lt) (listed h p (sound.listed h p f) (p.region == c) refl);
  regions = each-set (λ q x. Holds flash (readers q s.jobs) (writers q s.jobs) x) s.regions c new lt (sealed_holds flash (readers c s.jobs) (writers c s.jobs) old open_one (sound.regions c)) (λ q n. sound.regions q);
  works = works-set flash s.regions c new s.jobs lt sound.works (λ w. refl) (λ w. omega arith);
  single = sound.single;
}
  where
    open_one : (region_at c s.regions).status ≡ Open
    open_one = sound.current c e

    old : Region
    old = region_at c s.regions

    new : Region
    new = record old { status = Sealed }

    lt : c < length s.regions
    lt = in_range s.regions c (rw open_one refl)

    into : (q : ℕ) (t : Bool) → (q == c) ≡ t → (if t then true else is_in q s.sealed) ≡ true → (region_at q (set s.regions c new)).status ≡ Sealed
    into q true t i = rw (region_at-set s.regions c q new lt, t) refl
    into q false t i = rw (region_at-set s.regions c q new lt, t) (sound.sealed q i)

    stored : (q : ℕ) → is_in q s.flushed ≡ true → (t : Bool) → (q == c) ≡ t → is_stored (if t then new else region_at q s.regions).status ≡ true
    stored q i true t =
        let same : q ≡ c = eqb-true q c t in
        let was : is_stored (region_at c s.regions).status ≡ true = (rw same at (sound.flushed q i)) in
        absurd (let no : is_stored Open ≡ true = (rw open_one at was) in cc)
    stored q i false t = sound.flushed q i

    listed : (h : ℕ) (p : Place) → is_listed h p.offset (region_at p.region s.regions).appended ≡ true → (t : Bool) → (p.region == c) ≡ t → is_listed h p.offset (if t then new else region_at p.region s.regions).appended ≡ true
    listed h p l true t = let same : p.region ≡ c = eqb-true p.region c t in (rw same at l)
    listed h p l false t = l

pub seal_sound : (flash : FlashConfig) (s : Block) → Sound flash s → Sound flash (seal_step s)
seal_sound flash s sound = go s.current refl
  where
    go : (o : Option ℕ) → s.current ≡ o → Sound flash (record s { regions = seal o s.regions; current = None; sealed = sealed_too o s.sealed })
    go None e = record { current = λ q h. absurd (cc); sealed = sound.sealed; flushed = sound.flushed; listed = sound.listed; regions = sound.regions; works = sound.works; single = sound.single }
    go (Some c) e = seal_one flash c s e sound

-- ---- a clean region is opened

abbrev open_step : ℕ → Block → Block
open_step r s = record s { regions = set s.regions r opened_region; current = Some r }

opened_holds : (flash : FlashConfig) (rs ws : ℕ) → 0 < flash.region_pages → Holds flash rs ws clean_region → Holds flash rs ws opened_region
opened_holds flash rs ws some h = record {
  blank = λ c. absurd (cc);
  bare = λ c. refl;
  rising = omega arith;
  pinned = h.pinned;
  drains = λ c. absurd (cc);
  out = h.out;
  unwritten = λ c. some;
  early = λ e. absurd (cc);
}

pub open_sound : (flash : FlashConfig) (r : ℕ) (s : Block) → 0 < flash.region_pages → r < length s.regions → is_clean (region_at r s.regions).status ≡ true → Sound flash s → Sound flash (open_step r s)
open_sound flash r s some lt c sound = record {
  current = λ q h. let same : r ≡ q = cc in rw (← same, region_at-set s.regions r r opened_region lt, same_num r) refl;
  sealed = λ q i. kept (λ status. status ≡ Sealed) (λ (e : Clean ≡ Sealed). absurd (cc)) q (sound.sealed q i);
  flushed = λ q i. kept (λ status. is_stored status ≡ true) (λ (e : is_stored Clean ≡ true). absurd (cc)) q (sound.flushed q i);
  listed = λ h p f. rw (region_at-set s.regions r p.region opened_region lt) (listed h p (sound.listed h p f) (p.region == r) refl);
  regions = each-set (λ q x. Holds flash (readers q s.jobs) (writers q s.jobs) x) s.regions r opened_region lt (opened_holds flash (readers r s.jobs) (writers r s.jobs) some (rw blank at (sound.regions r))) (λ q n. sound.regions q);
  works = works-set flash s.regions r opened_region s.jobs lt sound.works (λ w. rw blank refl) (λ w. rw blank (omega arith));
  single = sound.single;
}
  where
    blank : region_at r s.regions ≡ clean_region
    blank = (sound.regions r).blank c

    kept : (P : Status → Type 0) → (P Clean → ⊥) → (q : ℕ) → P (region_at q s.regions).status → P (region_at q (set s.regions r opened_region)).status
    kept P never q h = rw (region_at-set s.regions r q opened_region lt) (go (q == r) refl)
      where
        go : (t : Bool) → (q == r) ≡ t → P (if t then opened_region else region_at q s.regions).status
        go true t = let same : q ≡ r = eqb-true q r t in let was : P (region_at r s.regions).status = (rw same at h) in absurd (never (rw blank at was))
        go false t = h

    listed : (h : ℕ) (p : Place) → is_listed h p.offset (region_at p.region s.regions).appended ≡ true → (t : Bool) → (p.region == r) ≡ t → is_listed h p.offset (if t then opened_region else region_at p.region s.regions).appended ≡ true
    listed h p l true t = let same : p.region ≡ r = eqb-true p.region r t in let was : is_listed h p.offset (region_at r s.regions).appended ≡ true = (rw same at l) in absurd (let none : is_listed h p.offset [] ≡ true = (rw blank at was) in cc)
    listed h p l false t = l

pub same_bytes : (xs : List ℕ) → bytes_eq xs xs ≡ true
same_bytes [] = refl
same_bytes (x ∷ xs) = grind (arith, same_num x, same_bytes xs)

-- ---- the three ways of a put

pub seal-length : (c : Option ℕ) (regions : List Region) → length (seal c regions) ≡ length regions
seal-length None regions = refl
seal-length (Some c) regions = length-set regions c (record (region_at c regions) { status = Sealed })

pub sealed_clean : (s : Block) (q : ℕ) → ((c : ℕ) → s.current ≡ Some c → (region_at c s.regions).status ≡ Open) → is_clean (region_at q (seal s.current s.regions)).status ≡ is_clean (region_at q s.regions).status
sealed_clean s q open_one = go s.current refl
  where
    go : (o : Option ℕ) → s.current ≡ o → is_clean (region_at q (seal o s.regions)).status ≡ is_clean (region_at q s.regions).status
    go None e = refl
    go (Some c) e = rw (region_at-set s.regions c q (record (region_at c s.regions) { status = Sealed }) (in_range s.regions c (rw (open_one c e) refl))) (at (q == c) refl)
      where
        at : (t : Bool) → (q == c) ≡ t → is_clean (if t then record (region_at c s.regions) { status = Sealed } else region_at q s.regions).status ≡ is_clean (region_at q s.regions).status
        at true t = let same : q ≡ c = eqb-true q c t in rw (same, open_one c e) refl
        at false t = refl
