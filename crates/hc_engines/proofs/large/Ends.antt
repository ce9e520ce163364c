-- A region ends: what leads into it is lost, and it is clean or drains.
use Rattle.std.proofs.Common.{◌≡◌, ℕ, zero, suc, ◌<◌, ◌≤◌, Bool, true, false, List, [], length, set, Option, Some, None, refl, sym, ap, subst, arith, ◌∙◌}
use Rattle.std.proofs.lemmas.Bool.{eqb-true}
use Rattle.std.specs.Prelude.{if◌then◌else◌, ◌==◌, ◌≢◌}
use Rattle.hc_types.specs.declared.config.FlashConfig.{FlashConfig}
use Rattle.hc_types.specs.Loss.{Cause}
use Rattle.hc_types.specs.Tally.{count}
use Rattle.hc_engines.specs.large.Region.{Open, Sealed, Draining, is_clean, Appended, Region, clean_region, region_at}
use Rattle.hc_engines.specs.large.Index.{Place, Indexed, place_at, leading_into, without_all, region_in}
use Rattle.hc_engines.specs.large.Block.{Job, Block}
use Rattle.hc_engines.specs.large.Steps.{emptied, not_current, end_region}
use Rattle.hc_engines.specs.large.Numbers.{is_in, minus}
use Rattle.hc_engines.specs.large.Sound.{is_stored, is_listed, writers, readers, Holds, AllHold, Sound}
use Rattle.hc_engines.proofs.large.Lists.{same_num, in_range, region_at-set, each-set, is_in-minus, elsewhere_stays, stays_gone, listed_goes}
use Rattle.hc_engines.proofs.large.Regions.{works-set}

-- what ends: a region that isn't clean, of which no page is out; all else is sound
pub record Ending (flash : FlashConfig) (r : ℕ) (s : Block) : Type 0 where
  pub unclean : is_clean (region_at r s.regions).status ≡ false
  pub idle : writers r s.jobs ≡ 0
  pub pinned : (region_at r s.regions).pins ≡ readers r s.jobs
  pub current : (q : ℕ) → s.current ≡ Some q → (region_at q s.regions).status ≡ Open
  pub sealed : (q : ℕ) → is_in q s.sealed ≡ true → (region_at q s.regions).status ≡ Sealed
  pub flushed : (q : ℕ) → is_in q s.flushed ≡ true → is_stored (region_at q s.regions).status ≡ true
  pub listed : (hash : ℕ) (place : Place) → place_at hash s.index ≡ Some place → is_listed hash place.offset (region_at place.region s.regions).appended ≡ true
  pub others : (q : ℕ) → (q == r) ≡ false → Holds flash (readers q s.jobs) (writers q s.jobs) (region_at q s.regions)
  pub works : AllHold flash s.regions s.jobs
  pub single : (n : ℕ) → count (λ (job : Job). job.number == n) s.jobs ≤ 1

pub not-current-is : (r q : ℕ) (c : Option ℕ) → not_current r c ≡ Some q → (c ≡ Some q) × ((q == r) ≡ false)
not-current-is r q None e = absurd (cc)
not-current-is r q (Some x) e = go (x == r) refl e
  where
    go : (t : Bool) → (x == r) ≡ t → (if t then None else Some x) ≡ Some q → (Some x ≡ Some q) × ((q == r) ≡ false)
    go true t e = absurd (cc)
    go false t e = let same : x ≡ q = cc in (e, rw (← same) t)

-- ---- what an ended region is

pub zero-is : (n : ℕ) → (n == 0) ≡ true → n ≡ 0
zero-is n h = eqb-true n 0 h

pub not_zero : (n : ℕ) → (n == 0) ≡ false → 0 < n
not_zero zero h = absurd (cc)
not_zero (suc n) h = omega arith

emptied_holds : (flash : FlashConfig) (readers writers : ℕ) (region : Region) → region.pins ≡ readers → writers ≡ 0 → Holds flash readers writers (emptied region)
emptied_holds flash rs ws region p w = go (region.pins == 0) refl
  where
    go : (t : Bool) → (region.pins == 0) ≡ t → Holds flash rs ws (if t then clean_region else record region { status = Draining; buffer = []; appended = []; early = false })
    go true t = record {
      blank = λ h. refl;
      bare = λ h. refl;
      rising = omega arith;
      pinned = sym (zero-is region.pins t) ∙ p;
      drains = λ h. absurd (cc);
      out = w;
      unwritten = λ h. absurd (cc);
      early = λ h. absurd (cc);
    }
    go false t = record {
      blank = λ h. absurd (cc);
      bare = λ h. refl;
      rising = omega arith;
      pinned = p;
      drains = λ h. not_zero region.pins t;
      out = w;
      unwritten = λ h. absurd (cc);
      early = λ h. absurd (cc);
    }

emptied_written : (region : Region) (rs : ℕ) → region.pins ≡ rs → 0 < rs → region.written ≤ (emptied region).written
emptied_written region rs p h = go (region.pins == 0) refl
  where
    go : (t : Bool) → (region.pins == 0) ≡ t → region.written ≤ (if t then clean_region else record region { status = Draining; buffer = []; appended = []; early = false }).written
    go true t = absurd (let z = zero-is region.pins t in omega arith)
    go false t = omega arith

-- ---- the state stays sound

-- a region other than the one that ended is as it was
pub same_other : (P : Region → Type 0) (regions : List Region) (r q : ℕ) (x : Region) → r < length regions → (q == r) ≡ false → P (region_at q regions) → P (region_at q (set regions r x))
same_other P regions r q x lt n h = rw (region_at-set regions r q x lt, n) h

pub kept_out : (t : Bool) (b : Bool) → (if t then false else b) ≡ true → (t ≡ false) × (b ≡ true)
kept_out true b h = absurd (cc)
kept_out false b h = (refl, h)

-- what the index leads to afterwards is what it led to elsewhere
pub still_there : (r h : ℕ) (xs : List Appended) (index : List Indexed) (p : Place) → ((q : Place) → place_at h index ≡ Some q → q.region ≡ r → is_listed h q.offset xs ≡ true)
    → place_at h (without_all (leading_into r xs index) index) ≡ Some p → (place_at h index ≡ Some p) × ((p.region == r) ≡ false)
still_there r h xs index p l e = go (place_at h index) refl
  where
    some : (q : Place) → place_at h index ≡ Some q → (t : Bool) → (q.region == r) ≡ t → (place_at h index ≡ Some p) × ((p.region == r) ≡ false)
    some q f true t = let here : q.region ≡ r = eqb-true q.region r t in let gone = listed_goes r h xs index q f here (l q f here) in absurd (cc)
    some q f false t = let stays = elsewhere_stays r h xs index q f t in let same : q ≡ p = cc in (f ∙ ap Some same, rw (← same) t)

    go : (o : Option Place) → place_at h index ≡ o → (place_at h index ≡ Some p) × ((p.region == r) ≡ false)
    go None f = let gone = stays f in absurd (cc)
      where
        stays : place_at h index ≡ None → place_at h (without_all (leading_into r xs index) index) ≡ None
        stays f = stays_gone h (leading_into r xs index) index f
    go (Some q) f = some q f (q.region == r) refl

flushed_after : (regions : List Region) (flushed : List ℕ) (r q : ℕ) (b : Bool) → ((x : ℕ) → is_in x flushed ≡ true → is_stored (region_at x regions).status ≡ true) → (is_in r flushed ≡ true → b ≡ false → is_stored (emptied (region_at r regions)).status ≡ true)
    → r < length regions → is_in q (if b then minus r flushed else flushed) ≡ true → is_stored (region_at q (set regions r (emptied (region_at r regions)))).status ≡ true
flushed_after regions flushed r q b old own lt h = rw (region_at-set regions r q (emptied (region_at r regions)) lt) (go b own h (q == r) refl)
  where
    go : (b : Bool) → (is_in r flushed ≡ true → b ≡ false → is_stored (emptied (region_at r regions)).status ≡ true) → is_in q (if b then minus r flushed else flushed) ≡ true → (t : Bool) → (q == r) ≡ t → is_stored (if t then emptied (region_at r regions) else region_at q regions).status ≡ true
    go true own h true t = let out : (if q == r then false else is_in q flushed) ≡ true = sym (is_in-minus q r flushed) ∙ h in absurd (grind (arith, out, t))
    go true own h false t = let out : (if q == r then false else is_in q flushed) ≡ true = sym (is_in-minus q r flushed) ∙ h in old q (kept_out (q == r) (is_in q flushed) out).1
    go false own h true t = let same : q ≡ r = eqb-true q r t in own (rw same at h) refl
    go false own h false t = old q h

emptied_stored : (region : Region) → (region.pins == 0) ≡ false → is_stored (emptied region).status ≡ true
emptied_stored region h = rw h refl

pub ended_sound : (flash : FlashConfig) (cause : Cause) (r : ℕ) (s : Block) → Ending flash r s → Sound flash (end_region cause r s).state
ended_sound flash cause r s e = record {
  current = λ q h. let c = not-current-is r q s.current h in same_other (λ x. x.status ≡ Open) s.regions r q x lt c.1 (e.current q c.0);
  sealed = λ q h.
      let k = kept_out (q == r) (is_in q s.sealed) (sym (is_in-minus q r s.sealed) ∙ h) in
      same_other (λ x. x.status ≡ Sealed) s.regions r q x lt k.0 (e.sealed q k.1);
  flushed = λ q h. flushed_after s.regions s.flushed r q ((region_at r s.regions).pins == 0) e.flushed (λ i n. emptied_stored (region_at r s.regions) n) lt h;
  listed = λ h p f.
      let k = still_there r h (region_at r s.regions).appended s.index p (λ q g here. subst (λ (i : ℕ). is_listed h q.offset (region_at i s.regions).appended ≡ true) here (e.listed h q g)) f in
      same_other (λ x. is_listed h p.offset x.appended ≡ true) s.regions r p.region x lt k.1 (e.listed h p k.0);
  regions = each-set (λ q x. Holds flash (readers q s.jobs) (writers q s.jobs) x) s.regions r x lt (emptied_holds flash (readers r s.jobs) (writers r s.jobs) (region_at r s.regions) e.pinned e.idle) e.others;
  works = works-set flash s.regions r x s.jobs lt e.works (λ w. absurd (omega (arith, e.idle))) (λ d. emptied_written (region_at r s.regions) (readers r s.jobs) e.pinned d);
  single = e.single;
}
  where
    lt : r < length s.regions
    lt = in_range s.regions r e.unclean

    x : Region
    x = emptied (region_at r s.regions)

-- a region that nothing leads to
nothing_there : (r : ℕ) (xs : List Appended) (index : List Indexed) → ((h : ℕ) (q : Place) → place_at h index ≡ Some q → q.region ≡ r → is_listed h q.offset xs ≡ true) → (h : ℕ) → region_in (place_at h (without_all (leading_into r xs index) index)) ≢ Some r
nothing_there r xs index l h = go (place_at h (without_all (leading_into r xs index) index)) refl
  where
    go : (o : Option Place) → place_at h (without_all (leading_into r xs index) index) ≡ o → region_in o ≢ Some r
    go None f e = absurd (cc)
    go (Some p) f e =
        let k = still_there r h xs index p (l h) f in
        let same : p.region ≡ r = cc in
        absurd (grind (arith, same_num r, k.1))

-- the region is in use no longer
abbrev pub closed : ℕ → Block → Block
closed r s = record s { current = not_current r s.current }
