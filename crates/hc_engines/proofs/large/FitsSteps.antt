-- The index leads to entries after each step: regions that are opened, sealed, written, ended.
use Rattle.std.proofs.Common.{◌≡◌, ℕ, ◌+◌, ◌-◌, ◌<◌, ◌≤◌, Bool, true, false, List, [], ◌++◌, length, take, drop, replicate, set, Option, Some, None, refl, sym, ap, subst, arith, ◌∙◌, append_assoc, append-nil, add-one, inl, inr}
use Rattle.std.proofs.lemmas.Bool.{eqb-true, cases_lt}
use Rattle.std.proofs.lemmas.List.{length-append, length-take, length-replicate, take-append-drop, take_all, drop_all}
use Rattle.std.specs.Prelude.{if◌then◌else◌, ◌==◌, ◌≢◌}
use Rattle.hc_types.specs.declared.config.FlashConfig.{FlashConfig}
use Rattle.hc_types.specs.Loss.{Cause}
use Rattle.hc_engines.specs.Engine.{Pages, with_page}
use Rattle.hc_engines.specs.large.Region.{Draining, is_clean, Region, clean_region, opened_region, next_page, region_at, page_no}
use Rattle.hc_engines.specs.large.Index.{Place, place_at}
use Rattle.hc_engines.specs.large.Block.{Block}
use Rattle.hc_engines.specs.large.Steps.{emptied, end_region}
use Rattle.hc_engines.specs.large.Held.{bytes_or_none, first_pages, bytes_of}
use Rattle.hc_engines.specs.large.Fits.{Fits}
use Rattle.hc_engines.specs.large.Sound.{is_listed, Sound}
use Rattle.hc_engines.proofs.large.Lists.{same_num, in_range, region_at-set}
use Rattle.hc_engines.proofs.large.Ends.{Ending, still_there}
use Rattle.hc_engines.proofs.large.Fitting.{pages_same, page_apart, Grows, still_holds, same_region}

-- ---- a region changes to x

-- what is asked of the new region, of the pages of the others, and of the index
pub record Refits (flash : FlashConfig) (pages new_pages : ℕ → Option (List ℕ)) (r : ℕ) (x : Region) (s new : Block) : Type 0 where
  pub there : r < length s.regions
  pub regions : new.regions ≡ set s.regions r x
  pub known : (i : ℕ) → is_clean x.status ≡ false → i < x.written → length (bytes_or_none (new_pages (page_no flash r i))) ≡ flash.page
  pub within : x.written ≤ flash.region_pages
  pub others : (q i : ℕ) → (q == r) ≡ false → i < (region_at q s.regions).written → new_pages (page_no flash q i) ≡ pages (page_no flash q i)
  pub index : (h : ℕ) (p : Place) → place_at h new.index ≡ Some p → place_at h s.index ≡ Some p
  -- where the index leads into the region, its bytes are there still
  pub grows : (h : ℕ) (p : Place) → place_at h new.index ≡ Some p → (p.region == r) ≡ true → Grows flash pages new_pages s new r

pub refits : (flash : FlashConfig) (pages new_pages : ℕ → Option (List ℕ)) (r : ℕ) (x : Region) (s new : Block) → Fits flash pages s → Refits flash pages new_pages r x s new → Fits flash new_pages new
refits flash pages new_pages r x s new fits c = record {
  known = λ q i. known q i (q == r) refl;
  within = λ q. rw (c.regions, region_at-set s.regions r q x c.there) (within q (q == r));
  places = λ h p e. still_holds flash pages new_pages s new h p (grows h p e (p.region == r) refl) (fits.places h p (c.index h p e));
}
  where
    known : (q i : ℕ) (t : Bool) → (q == r) ≡ t → is_clean (region_at q new.regions).status ≡ false → i < (region_at q new.regions).written → length (bytes_or_none (new_pages (page_no flash q i))) ≡ flash.page
    known q i true t u l =
        let same : q ≡ r = eqb-true q r t in
        let u2 : is_clean x.status ≡ false = (rw (c.regions, region_at-set s.regions r q x c.there, t) at u) in
        let l2 : i < x.written = (rw (c.regions, region_at-set s.regions r q x c.there, t) at l) in
        rw same (c.known i u2 l2)
    known q i false t u l =
        let u2 : is_clean (region_at q s.regions).status ≡ false = (rw (c.regions, region_at-set s.regions r q x c.there, t) at u) in
        let l2 : i < (region_at q s.regions).written = (rw (c.regions, region_at-set s.regions r q x c.there, t) at l) in
        rw (c.others q i t l2) (fits.known q i u2 l2)

    within : (q : ℕ) (t : Bool) → (if t then x else region_at q s.regions).written ≤ flash.region_pages
    within q true = c.within
    within q false = fits.within q

    grows : (h : ℕ) (p : Place) → place_at h new.index ≡ Some p → (t : Bool) → (p.region == r) ≡ t → Grows flash pages new_pages s new p.region
    grows h p e true t = let same : p.region ≡ r = eqb-true p.region r t in subst (λ (q : ℕ). Grows flash pages new_pages s new q) (sym same) (c.grows h p e t)
    grows h p e false t =
        let here : region_at p.region new.regions ≡ region_at p.region s.regions = (rw (c.regions, region_at-set s.regions r p.region x c.there, t) refl) in
        record {
          more = [];
          grown = (rw (here, pages_same flash pages new_pages p.region (region_at p.region s.regions).written (λ i l. c.others p.region i t l)) (sym (append-nil (bytes_of flash pages s p.region))));
        }

-- ---- its bytes stay: it is sealed, a page of it goes out, it is pinned or let go

pub same_fits : (flash : FlashConfig) (pages : ℕ → Option (List ℕ)) (r : ℕ) (x : Region) (s new : Block) → Fits flash pages s → is_clean (region_at r s.regions).status ≡ false → new.regions ≡ set s.regions r x → new.index ≡ s.index
    → x.written ≡ (region_at r s.regions).written → x.buffer ≡ (region_at r s.regions).buffer → Fits flash pages new
same_fits flash pages r x s new fits u er ei w b = refits flash pages pages r x s new fits (record {
  there = lt;
  regions = er;
  known = λ i c l. fits.known r i u (omega (arith, w));
  within = omega (arith, w, fits.within r);
  others = λ q i n l. refl;
  index = λ h p e. (rw ei at e);
  grows = λ h p e t. same_region flash pages s new r ((rw (er, region_at-set s.regions r r x lt, same_num r) w)) ((rw (er, region_at-set s.regions r r x lt, same_num r) b));
})
  where
    lt : r < length s.regions
    lt = in_range s.regions r u

-- ---- it ends

pub ended_fits : (flash : FlashConfig) (pages : ℕ → Option (List ℕ)) (cause : Cause) (r : ℕ) (s : Block) → Fits flash pages s → Ending flash r s → Fits flash pages (end_region cause r s).state
ended_fits flash pages cause r s fits e = refits flash pages pages r (emptied (region_at r s.regions)) s (end_region cause r s).state fits (record {
  there = in_range s.regions r e.unclean;
  regions = refl;
  known = λ i u l. let w = written u in fits.known r i e.unclean (omega (arith, w));
  within = within ((region_at r s.regions).pins == 0);
  others = λ q i n l. refl;
  index = λ h p f. (there h p f).0;
  grows = λ h p f t. absurd (let k = (there h p f).1 in cc);
})
  where
    there : (h : ℕ) (p : Place) → place_at h (end_region cause r s).state.index ≡ Some p → (place_at h s.index ≡ Some p) × ((p.region == r) ≡ false)
    there h p f = still_there r h (region_at r s.regions).appended s.index p (λ q g here. subst (λ (i : ℕ). is_listed h q.offset (region_at i s.regions).appended ≡ true) here (e.listed h q g)) f

    written : is_clean (emptied (region_at r s.regions)).status ≡ false → (emptied (region_at r s.regions)).written ≡ (region_at r s.regions).written
    written u = go ((region_at r s.regions).pins == 0) u
      where
        go : (t : Bool) → is_clean (if t then clean_region else record (region_at r s.regions) { status = Draining; buffer = []; appended = []; early = false }).status ≡ false
            → (if t then clean_region else record (region_at r s.regions) { status = Draining; buffer = []; appended = []; early = false }).written ≡ (region_at r s.regions).written
        go true u = absurd (cc)
        go false u = refl

    within : (t : Bool) → (if t then clean_region else record (region_at r s.regions) { status = Draining; buffer = []; appended = []; early = false }).written ≤ flash.region_pages
    within true = omega arith
    within false = fits.within r

-- ---- it is opened

pub open_fits : (flash : FlashConfig) (pages : ℕ → Option (List ℕ)) (r : ℕ) (s new : Block) → Fits flash pages s → Sound flash s → r < length s.regions → is_clean (region_at r s.regions).status ≡ true → new.regions ≡ set s.regions r opened_region → new.index ≡ s.index → Fits flash pages new
open_fits flash pages r s new fits sound lt c er ei = refits flash pages pages r opened_region s new fits (record {
  there = lt;
  regions = er;
  known = λ i u l. absurd (omega arith);
  within = omega arith;
  others = λ q i n l. refl;
  index = λ h p e. (rw ei at e);
  grows = λ h p e t. absurd (none h p (rw ei at e) t);
})
  where
    none : (h : ℕ) (p : Place) → place_at h s.index ≡ Some p → (p.region == r) ≡ true → ⊥
    none h p e t =
        let same : p.region ≡ r = eqb-true p.region r t in
        let l : is_listed h p.offset (region_at r s.regions).appended ≡ true = subst (λ (q : ℕ). is_listed h p.offset (region_at q s.regions).appended ≡ true) same (sound.listed h p e) in
        let blank : region_at r s.regions ≡ clean_region = (sound.regions r).blank c in
        let l2 : is_listed h p.offset [] ≡ true = (rw blank at l) in
        cc

-- ---- a page of it was written

pub next_page_long : (flash : FlashConfig) (region : Region) → length (next_page flash region) ≡ flash.page
next_page_long flash region =
    omega (arith, length-append (take flash.page region.buffer) (replicate (flash.page - length region.buffer) 0), length-take flash.page region.buffer, length-replicate {A = ℕ} (flash.page - length region.buffer) 0)

-- the page and what is left of the buffer are the buffer, and zeros where it was shorter than a page
record PageAndRest (flash : FlashConfig) (region : Region) (front : List ℕ) : Type 0 where
  more : List ℕ
  parts : (front ++ next_page flash region) ++ drop flash.page region.buffer ≡ (front ++ region.buffer) ++ more

full_page : (flash : FlashConfig) (region : Region) (front : List ℕ) → flash.page ≤ length region.buffer → PageAndRest flash region front
full_page flash region front h =
    let none : flash.page - length region.buffer ≡ 0 = omega arith in
    let page : next_page flash region ≡ take flash.page region.buffer = (rw none (append-nil (take flash.page region.buffer))) in
    record {
      more = [];
      parts = ap (λ xs. (front ++ xs) ++ drop flash.page region.buffer) page ∙ append_assoc front (take flash.page region.buffer) (drop flash.page region.buffer)
          ∙ ap (λ xs. front ++ xs) (take-append-drop flash.page region.buffer) ∙ sym (append-nil (front ++ region.buffer));
    }

short_page : (flash : FlashConfig) (region : Region) (front : List ℕ) → length region.buffer < flash.page → PageAndRest flash region front
short_page flash region front h =
    let all : take flash.page region.buffer ≡ region.buffer = take_all flash.page region.buffer (omega arith) in
    let none : drop flash.page region.buffer ≡ [] = drop_all flash.page region.buffer (omega arith) in
    record {
      more = replicate (flash.page - length region.buffer) 0;
      parts = (rw (none, all) (append-nil (front ++ (region.buffer ++ replicate (flash.page - length region.buffer) 0)) ∙ sym (append_assoc front region.buffer (replicate (flash.page - length region.buffer) 0))));
    }

page_and_rest : (flash : FlashConfig) (region : Region) (front : List ℕ) → PageAndRest flash region front
page_and_rest flash region front = elim (cases_lt (length region.buffer) flash.page) [ inl lt ↦ short_page flash region front lt | inr le ↦ full_page flash region front le ]

-- the pages after the region's next page was written, or wasn't
abbrev pub after_write : FlashConfig → Pages → ℕ → Block → Bool → Pages
after_write flash pages r s done = with_page pages (page_no flash r (region_at r s.regions).written) (if done then Some (next_page flash (region_at r s.regions)) else None)

not_that : (x y : ℕ) → x ≢ y → (x == y) ≡ false
not_that x y n = go (x == y) refl
  where
    go : (t : Bool) → (x == y) ≡ t → (x == y) ≡ false
    go true t = absurd (n (eqb-true x y t))
    go false t = t

-- other pages of regions are as they were
pub other_page : (flash : FlashConfig) (pages : ℕ → Option (List ℕ)) (r q i : ℕ) (s : Block) (done : Bool) → (region_at r s.regions).written < flash.region_pages → i < flash.region_pages → ((q == r) ≡ true → i ≢ (region_at r s.regions).written)
    → after_write flash pages r s done (page_no flash q i) ≡ pages (page_no flash q i)
other_page flash pages r q i s done lw li n = rw (not_that (page_no flash r (region_at r s.regions).written) (page_no flash q i) apart) refl
  where
    apart : page_no flash r (region_at r s.regions).written ≢ page_no flash q i
    apart e = let both = page_apart flash r q (region_at r s.regions).written i lw li e in n (rw both.0 (same_num q)) (sym both.1)

-- a failed write spoils no page that is known
pub failed_fits : (flash : FlashConfig) (pages : ℕ → Option (List ℕ)) (r : ℕ) (s : Block) → Fits flash pages s → (region_at r s.regions).written < flash.region_pages → Fits flash (after_write flash pages r s false) s
failed_fits flash pages r s fits lw = record {
  known = λ q i u l. rw (same q i l) (fits.known q i u l);
  within = fits.within;
  places = λ h p e. still_holds flash pages (after_write flash pages r s false) s s h p (record { more = []; grown = (rw (pages_same flash pages (after_write flash pages r s false) p.region (region_at p.region s.regions).written (λ i l. same p.region i l)) (sym (append-nil (bytes_of flash pages s p.region)))) }) (fits.places h p e);
}
  where
    same : (q i : ℕ) → i < (region_at q s.regions).written → after_write flash pages r s false (page_no flash q i) ≡ pages (page_no flash q i)
    same q i l = other_page flash pages r q i s false lw (omega (arith, fits.within q)) (λ t e. let eq : q ≡ r = eqb-true q r t in let l2 : i < (region_at r s.regions).written = (rw eq at l) in absurd (omega arith))

-- the page was written
module _ (flash : FlashConfig) (pages : ℕ → Option (List ℕ)) (r : ℕ) (x : Region) (s new : Block) (fits : Fits flash pages s) (u : is_clean (region_at r s.regions).status ≡ false) (lw : (region_at r s.regions).written < flash.region_pages) where
  earlier : (i : ℕ) → i < (region_at r s.regions).written → after_write flash pages r s true (page_no flash r i) ≡ pages (page_no flash r i)
  earlier i l = other_page flash pages r r i s true lw (omega arith) (λ t e. absurd (omega arith))

  this : after_write flash pages r s true (page_no flash r (region_at r s.regions).written) ≡ Some (next_page flash (region_at r s.regions))
  this = rw (same_num (page_no flash r (region_at r s.regions).written)) refl

  pub written_grows : new.regions ≡ set s.regions r x → x.written ≡ (region_at r s.regions).written + 1 → x.buffer ≡ drop flash.page (region_at r s.regions).buffer → Grows flash pages (after_write flash pages r s true) s new r
  written_grows er w b =
      let cut = page_and_rest flash (region_at r s.regions) (first_pages flash pages r (region_at r s.regions).written) in
      record {
        more = cut.more;
        grown = (rw (er, region_at-set s.regions r r x (in_range s.regions r u), same_num r, w, b, add-one, this, pages_same flash pages (after_write flash pages r s true) r (region_at r s.regions).written earlier) cut.parts);
      }

  pub written_fits : new.regions ≡ set s.regions r x → new.index ≡ s.index → x.written ≡ (region_at r s.regions).written + 1 → x.buffer ≡ drop flash.page (region_at r s.regions).buffer → Fits flash (after_write flash pages r s true) new
  written_fits er ei w b = refits flash pages (after_write flash pages r s true) r x s new fits (record {
    there = in_range s.regions r u;
    regions = er;
    known = λ i c l. known i (i == (region_at r s.regions).written) refl (omega (arith, w));
    within = omega (arith, w);
    others = λ q i n l. other_page flash pages r q i s true lw (omega (arith, fits.within q)) (λ t e. absurd (let k : true ≡ false = sym t ∙ n in cc));
    index = λ h p e. (rw ei at e);
    grows = λ h p e t. written_grows er w b;
  })
    where
      known : (i : ℕ) (t : Bool) → (i == (region_at r s.regions).written) ≡ t → i < (region_at r s.regions).written + 1 → length (bytes_or_none (after_write flash pages r s true (page_no flash r i))) ≡ flash.page
      known i true t l = let same : i ≡ (region_at r s.regions).written = eqb-true i (region_at r s.regions).written t in rw (same, this) (next_page_long flash (region_at r s.regions))
      known i false t l = let below : i < (region_at r s.regions).written = less i (region_at r s.regions).written t l in rw (earlier i below) (fits.known r i u below)
        where
          less : (i n : ℕ) → (i == n) ≡ false → i < n + 1 → i < n
          less i n t l = grind (arith, same_num i)
