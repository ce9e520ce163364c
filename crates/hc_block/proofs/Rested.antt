-- An engine of parts that were kept and tested: what holds of every engine holds of it.
use Rattle.std.proofs.Common.{◌≡◌, ℕ, zero, suc, ◌+◌, ◌<◌, ◌≤◌, ◌==◌, nat_lt, nat_le, Bool, true, false, not, List, [], ◌∷◌, length, replicate, set, get_or, Option, Some, None, refl, sym, ap, subst, arith, ◌∙◌}
use Rattle.std.specs.Prelude.{if◌then◌else◌, nat_eq, ⊤}
use Rattle.std.specs.List.{list_all, AllByRecursion, IsDistinct}
use Rattle.std.proofs.lemmas.Bool.{and_parts, ltb-true, leb-true, eqb-true}
use Rattle.std.proofs.lemmas.List.{length-set, length-replicate}
use Rattle.hc_types.specs.declared.config.FlashConfig.{FlashConfig}
use Rattle.hc_types.specs.Limits.{flash_wrong}
use Rattle.hc_engines.specs.large.Region.{Status, Clean, Open, Sealed, Flushing, OnFlash, Draining, is_clean, is_draining, Appended, Region, clean_region, region_at, region_len, filled_to}
use Rattle.hc_engines.specs.large.Index.{Place, Indexed, place_at}
use Rattle.hc_engines.specs.large.Block.{Block}
use Rattle.hc_engines.specs.large.Numbers.{is_in}
use Rattle.hc_engines.specs.large.Sound.{is_live, is_filling, is_listed, IsRising, Holds}
use Rattle.hc_region.specs.declared.resting.AtRest.{AtRest}
use Rattle.hc_region.specs.declared.resting.AtRest.TheVariants as rests
use Rattle.hc_region.specs.Resting.{status_at, is_rising, is_blank, can_stand, can_rest}
use Rattle.hc_block.specs.declared.reason.Reason.{Reason}
use Rattle.hc_block.specs.declared.reason.Reason.TheVariants as reasons
use Rattle.hc_block.specs.Large.{Kept}
use Rattle.hc_block.specs.Resting.{block_at, stands_at, is_of, is_open, can_come, once_from, all_once, leads_well, misfit, AllOnce, LeadsWell}
use Rattle.hc_engines.proofs.small.Limited.{limits_from as small_from}
use Rattle.hc_block.proofs.Making.{limits_from}

-- ---- one region

rising_is : (from : ℕ) (xs : List Appended) (to : ℕ) → is_rising from xs to ≡ true → IsRising from xs to
rising_is from [] to h = leb-true from to h
rising_is from (x ∷ xs) to h = let p = and_parts (nat_le from x.offset) (is_rising (x.offset + 1) xs to) h in (leb-true from x.offset p.0, rising_is (x.offset + 1) xs to p.1)

no_bytes : {A : Type 0} → (xs : List A) → (length xs == 0) ≡ true → xs ≡ []
no_bytes [] h = refl
no_bytes (x ∷ xs) h = let n : length (x ∷ xs) ≡ 0 = eqb-true (length (x ∷ xs)) 0 h in absurd (omega (arith, n))

-- what the test says of a region
record Tested (flash : FlashConfig) (region : Region) : Type 0 where
  stand : can_stand flash region.status region ≡ true
  early : region.early ≡ false
  pins : region.pins ≡ 0
  written : region.written ≤ flash.region_pages
  filled : filled_to flash region ≤ region_len flash
  rising : IsRising 0 region.appended (filled_to flash region)

not-true : (b : Bool) → not b ≡ true → b ≡ false
not-true false h = refl
not-true true h = absurd (cc)

tested : (flash : FlashConfig) (region : Region) → can_rest flash region ≡ true → Tested flash region
tested flash region h =
    let a = and_parts (can_stand flash region.status region) _ h in
    let b = and_parts (not region.early) _ a.1 in
    let c = and_parts (region.pins == 0) _ b.1 in
    let d = and_parts (nat_le region.written flash.region_pages) _ c.1 in
    let e = and_parts (nat_le (filled_to flash region) (region_len flash)) _ d.1 in
    record { stand = a.0; early = not-true region.early b.0; pins = eqb-true region.pins 0 c.0; written = leb-true _ _ d.0; filled = leb-true _ _ e.0; rising = rising_is 0 region.appended (filled_to flash region) e.1 }

blank_is : (region : Region) → region.status ≡ Clean → is_blank region ≡ true → region.early ≡ false → region.pins ≡ 0 → region ≡ clean_region
blank_is region s h e p =
    let a = and_parts (region.written == 0) _ h in
    let b = and_parts (length region.buffer == 0) _ a.1 in
    let w : region.written ≡ 0 = eqb-true region.written 0 a.0 in
    let u : region.buffer ≡ [] = no_bytes region.buffer b.0 in
    let v : region.appended ≡ [] = no_bytes region.appended b.1 in
    grind (arith, s, e, p, w, u, v)

clean_holds : (flash : FlashConfig) → Holds flash 0 0 clean_region
clean_holds flash = record {
  blank = λ c. refl;
  bare = λ l. refl;
  pinned = refl;
  drains = λ d. absurd (cc);
  out = refl;
  unwritten = λ f. absurd (cc);
  early = λ e. absurd (cc);
  rising = omega arith;
}

-- by where it stands
stands : (flash : FlashConfig) (region : Region) → Tested flash region → (s : Status) → region.status ≡ s → Holds flash 0 0 region
stands flash region t Clean s =
    let e : region ≡ clean_region = blank_is region s (ap (λ (x : Status). can_stand flash x region) (sym s) ∙ t.stand) t.early t.pins in
    subst (λ (r : Region). Holds flash 0 0 r) (sym e) (clean_holds flash)
stands flash region t Open s = record {
  blank = λ c. let h : false ≡ true = ap is_clean (sym s) ∙ c in absurd (cc);
  bare = λ l. let h : true ≡ false = ap is_live (sym s) ∙ l in absurd (cc);
  pinned = t.pins;
  drains = λ d. let h : false ≡ true = ap is_draining (sym s) ∙ d in absurd (cc);
  out = rw (s, t.early) refl;
  unwritten = λ f. ltb-true region.written flash.region_pages (ap (λ (x : Status). can_stand flash x region) (sym s) ∙ t.stand);
  early = λ e. let h : false ≡ true = sym t.early ∙ e in absurd (cc);
  rising = t.rising;
}
stands flash region t Sealed s = record {
  blank = λ c. let h : false ≡ true = ap is_clean (sym s) ∙ c in absurd (cc);
  bare = λ l. let h : true ≡ false = ap is_live (sym s) ∙ l in absurd (cc);
  pinned = t.pins;
  drains = λ d. let h : false ≡ true = ap is_draining (sym s) ∙ d in absurd (cc);
  out = rw (s, t.early) refl;
  unwritten = λ f. ltb-true region.written flash.region_pages (ap (λ (x : Status). can_stand flash x region) (sym s) ∙ t.stand);
  early = λ e. let h : false ≡ true = sym t.early ∙ e in absurd (cc);
  rising = t.rising;
}
stands flash region t OnFlash s = record {
  blank = λ c. let h : false ≡ true = ap is_clean (sym s) ∙ c in absurd (cc);
  bare = λ l. let h : true ≡ false = ap is_live (sym s) ∙ l in absurd (cc);
  pinned = t.pins;
  drains = λ d. let h : false ≡ true = ap is_draining (sym s) ∙ d in absurd (cc);
  out = rw (s, t.early) refl;
  unwritten = λ f. let h : false ≡ true = ap is_filling (sym s) ∙ f in absurd (cc);
  early = λ e. let h : false ≡ true = sym t.early ∙ e in absurd (cc);
  rising = t.rising;
}
stands flash region t Flushing s = let h : false ≡ true = ap (λ (x : Status). can_stand flash x region) (sym s) ∙ t.stand in absurd (cc)
stands flash region t Draining s = let h : false ≡ true = ap (λ (x : Status). can_stand flash x region) (sym s) ∙ t.stand in absurd (cc)

-- each region holds, and is filled within its bytes
region_holds : (flash : FlashConfig) (regions : List Region) → list_all (can_rest flash) regions ≡ true → (r : ℕ) → Holds flash 0 0 (region_at r regions) × (filled_to flash (region_at r regions) ≤ region_len flash)
region_holds flash [] h r = (clean_holds flash, omega arith)
region_holds flash (region ∷ regions) h zero = let t = tested flash region (and_parts (can_rest flash region) _ h).0 in (stands flash region t region.status refl, t.filled)
region_holds flash (region ∷ regions) h (suc r) = region_holds flash regions (and_parts (can_rest flash region) _ h).1 r

-- ---- the index

-- where the index leads, a hash leads well
pub led_well : (flash : FlashConfig) (regions : List Region) (index : List Indexed) (hash : ℕ) (place : Place) → list_all (leads_well flash regions) index ≡ true → place_at hash index ≡ Some place → leads_well flash regions (record { hash = hash; place = place }) ≡ true
led_well flash regions [] hash place h e = absurd (cc)
led_well flash regions (x ∷ xs) hash place h e = let parts = and_parts (leads_well flash regions x) (list_all (leads_well flash regions) xs) h in go parts.0 (λ e. led_well flash regions xs hash place parts.1 e) (x.hash == hash) refl e
  where
    same : (a b : Place) → Some a ≡ Some b → a ≡ b
    same a b e = cc

    go : leads_well flash regions x ≡ true → (place_at hash xs ≡ Some place → leads_well flash regions (record { hash = hash; place = place }) ≡ true) → (t : Bool) → (x.hash == hash) ≡ t → (if t then Some x.place else place_at hash xs) ≡ Some place → leads_well flash regions (record { hash = hash; place = place }) ≡ true
    go here rest true t e = let u : x.hash ≡ hash = eqb-true x.hash hash t in let v : x.place ≡ place = same x.place place e in
        subst (λ (y : Place). leads_well flash regions (record { hash = hash; place = y }) ≡ true) v (subst (λ (n : ℕ). leads_well flash regions (record { hash = n; place = x.place }) ≡ true) u here)
    go here rest false t e = rest e

-- ---- lists of numbers

-- each stands so, and isn't marked yet where it comes
abbrev pub OnceFrom : Status → List Region → List Bool → List ℕ → Type 0
OnceFrom status regions seen [] = ⊤
OnceFrom status regions seen (r ∷ rs) = ((region_at r regions).status ≡ status) × (r < length seen) × (get_or seen r false ≡ false) × OnceFrom status regions (set seen r true) rs

marked : (seen : List Bool) (r : ℕ) → r < length seen → get_or (set seen r true) r false ≡ true
marked [] r lt = absurd (omega arith)
marked (x ∷ seen) zero lt = refl
marked (x ∷ seen) (suc r) lt = marked seen r (omega arith)

unmarked : (seen : List Bool) (r x : ℕ) → get_or (set seen x true) r false ≡ false → get_or seen r false ≡ false
unmarked [] r x h = refl
unmarked (b ∷ seen) zero zero h = absurd (cc)
unmarked (b ∷ seen) (suc r) zero h = h
unmarked (b ∷ seen) zero (suc x) h = h
unmarked (b ∷ seen) (suc r) (suc x) h = unmarked seen r x h

-- who comes later isn't marked before
later : (status : Status) (regions : List Region) (seen : List Bool) (rs : List ℕ) (r : ℕ) → OnceFrom status regions seen rs → is_in r rs ≡ true → get_or seen r false ≡ false
later status regions seen [] r o h = absurd (cc)
later status regions seen (x ∷ rs) r o h = go o.2 (λ h. unmarked seen r x (later status regions (set seen x true) rs r o.3 h)) (x == r) refl h
  where
    go : get_or seen x false ≡ false → (is_in r rs ≡ true → get_or seen r false ≡ false) → (t : Bool) → (x == r) ≡ t → (if t then true else is_in r rs) ≡ true → get_or seen r false ≡ false
    go u f true t h = subst (λ (n : ℕ). get_or seen n false ≡ false) (eqb-true x r t) u
    go u f false t h = f h

all_stand : (status : Status) (regions : List Region) (seen : List Bool) (rs : List ℕ) (r : ℕ) → OnceFrom status regions seen rs → is_in r rs ≡ true → (region_at r regions).status ≡ status
all_stand status regions seen [] r o h = absurd (cc)
all_stand status regions seen (x ∷ rs) r o h = go o.0 (λ h. all_stand status regions (set seen x true) rs r o.3 h) (x == r) refl h
  where
    go : (region_at x regions).status ≡ status → (is_in r rs ≡ true → (region_at r regions).status ≡ status) → (t : Bool) → (x == r) ≡ t → (if t then true else is_in r rs) ≡ true → (region_at r regions).status ≡ status
    go u f true t h = subst (λ (n : ℕ). (region_at n regions).status ≡ status) (eqb-true x r t) u
    go u f false t h = f h

-- who isn't in a list is no one of it
all_other : (r : ℕ) (rs : List ℕ) → is_in r rs ≡ false → AllByRecursion (λ (y : ℕ). nat_eq r y ≡ false) rs
all_other r [] h = tt
all_other r (x ∷ rs) h = go (x == r) refl (λ h. all_other r rs h) h
  where
    go : (t : Bool) → (x == r) ≡ t → (is_in r rs ≡ false → AllByRecursion (λ (y : ℕ). nat_eq r y ≡ false) rs) → (if t then true else is_in r rs) ≡ false → AllByRecursion (λ (y : ℕ). nat_eq r y ≡ false) (x ∷ rs)
    go true t f h = absurd (cc)
    go false t f h = let e : nat_eq r x ≡ false = grind (arith, t) in (e, f h)

false-if : (b : Bool) → (b ≡ true → ⊥) → b ≡ false
false-if true h = absurd (h refl)
false-if false h = refl

are_once : (status : Status) (regions : List Region) (seen : List Bool) (rs : List ℕ) → OnceFrom status regions seen rs → IsDistinct nat_eq rs
unfolding IsDistinct
are_once status regions seen [] o = tt
are_once status regions seen (r ∷ rs) o =
    let alone : is_in r rs ≡ false = false-if (is_in r rs) (λ h. let a : get_or (set seen r true) r false ≡ false = later status regions (set seen r true) rs r o.3 h in let b : true ≡ false = sym (marked seen r o.1) ∙ a in absurd (cc)) in
    (all_other r rs alone, are_once status regions (set seen r true) rs o.3)

once_all_from : (status : Status) (regions : List Region) (seen : List Bool) (rs : List ℕ) → OnceFrom status regions seen rs → AllOnce status regions rs
once_all_from status regions seen rs o = record { once = are_once status regions seen rs o; stand = λ r h. all_stand status regions seen rs r o h }

stands_so : (rest : AtRest) (status : Status) → stands_at rest status ≡ true → status ≡ status_at rest
stands_so rests.Clean Clean h = refl
stands_so rests.Clean Open h = absurd (cc)
stands_so rests.Clean Sealed h = absurd (cc)
stands_so rests.Clean Flushing h = absurd (cc)
stands_so rests.Clean OnFlash h = absurd (cc)
stands_so rests.Clean Draining h = absurd (cc)
stands_so rests.Open Clean h = absurd (cc)
stands_so rests.Open Open h = refl
stands_so rests.Open Sealed h = absurd (cc)
stands_so rests.Open Flushing h = absurd (cc)
stands_so rests.Open OnFlash h = absurd (cc)
stands_so rests.Open Draining h = absurd (cc)
stands_so rests.Sealed Clean h = absurd (cc)
stands_so rests.Sealed Open h = absurd (cc)
stands_so rests.Sealed Sealed h = refl
stands_so rests.Sealed Flushing h = absurd (cc)
stands_so rests.Sealed OnFlash h = absurd (cc)
stands_so rests.Sealed Draining h = absurd (cc)
stands_so rests.OnFlash Clean h = absurd (cc)
stands_so rests.OnFlash Open h = absurd (cc)
stands_so rests.OnFlash Sealed h = absurd (cc)
stands_so rests.OnFlash Flushing h = absurd (cc)
stands_so rests.OnFlash OnFlash h = refl
stands_so rests.OnFlash Draining h = absurd (cc)

once_told : (rest : AtRest) (regions : List Region) (seen : List Bool) (rs : List ℕ) → length seen ≡ length regions → once_from rest regions seen rs ≡ true → OnceFrom (status_at rest) regions seen rs
once_told rest regions seen [] n h = tt
once_told rest regions seen (r ∷ rs) n h =
    let a = and_parts (can_come rest regions seen r) (once_from rest regions (set seen r true) rs) h in
    let b = and_parts (is_of rest regions r) (not (get_or seen r false)) a.0 in
    let c = and_parts (nat_lt r (length regions)) (stands_at rest (region_at r regions).status) b.0 in
    let lt : r < length seen = subst (λ (m : ℕ). r < m) (sym n) (ltb-true r (length regions) c.0) in
    (stands_so rest (region_at r regions).status c.1, lt, not-true (get_or seen r false) b.1, once_told rest regions (set seen r true) rs (length-set seen r true ∙ n) a.1)

-- what the walk over the numbers comes to
once_all : (rest : AtRest) (regions : List Region) (rs : List ℕ) → all_once rest regions rs ≡ true → AllOnce (status_at rest) regions rs
once_all rest regions rs h = let seen = replicate {A = Bool} (length regions) false in once_all_from (status_at rest) regions seen rs (once_told rest regions seen rs (length-replicate {A = Bool} (length regions) false) h)

-- the open region
inner : (a b : ℕ) → Some a ≡ Some b → a ≡ b
inner a b e = cc

open_stands : (regions : List Region) (current : Option ℕ) → is_open regions current ≡ true → (r : ℕ) → current ≡ Some r → (region_at r regions).status ≡ Open
open_stands regions None h r e = absurd (cc)
open_stands regions (Some c) h r e =
    let parts = and_parts (nat_lt c (length regions)) (stands_at rests.Open (region_at c regions).status) h in
    subst (λ (n : ℕ). (region_at n regions).status ≡ Open) (inner c r e) (stands_so rests.Open (region_at c regions).status parts.1)

-- ---- the tests, one after the other

-- the parts of this state pass each test
pub record Passes (flash : FlashConfig) (s : Block) : Type 0 where
  pub count : (length s.regions == flash.regions) ≡ true
  pub rest : list_all (can_rest flash) s.regions ≡ true
  pub current : is_open s.regions s.current ≡ true
  pub sealed : all_once rests.Sealed s.regions s.sealed ≡ true
  pub flushed : all_once rests.OnFlash s.regions s.flushed ≡ true
  pub index : list_all (leads_well flash s.regions) s.index ≡ true

if_passed : (t : Bool) (why : Reason) (o : Option Reason) → (if t then o else Some why) ≡ None → (t ≡ true) × (o ≡ None)
if_passed true why o h = (refl, h)
if_passed false why o h = absurd (cc)

pub passes : (flash : FlashConfig) (s : Block) → misfit flash s ≡ None → Passes flash s
passes flash s h =
    let a = if_passed (length s.regions == flash.regions) reasons.Count _ h in
    let b = if_passed (list_all (can_rest flash) s.regions) reasons.Region _ a.1 in
    let c = if_passed (is_open s.regions s.current) reasons.Current _ b.1 in
    let d = if_passed (all_once rests.Sealed s.regions s.sealed) reasons.Sealed _ c.1 in
    let e = if_passed (all_once rests.OnFlash s.regions s.flushed) reasons.Flushed _ d.1 in
    let f = if_passed (list_all (leads_well flash s.regions) s.index) reasons.Index _ e.1 in
    record { count = a.0; rest = b.0; current = c.0; sealed = d.0; flushed = e.0; index = f.0 }

-- ---- the engine

pub rested_kept : (flash : FlashConfig) (regions : List Region) (current : Option ℕ) (sealed flushed : List ℕ) (index : List Indexed) → flash_wrong flash ≡ None → misfit flash (block_at regions current sealed flushed index) ≡ None → Kept flash (block_at regions current sealed flushed index)
rested_kept flash regions current sealed flushed index right fit =
    let p = passes flash (block_at regions current sealed flushed index) fit in
    let waiting = once_all rests.Sealed regions sealed p.sealed in
    let stored = once_all rests.OnFlash regions flushed p.flushed in
    record {
      limits = limits_from flash right;
      count = eqb-true (length regions) flash.regions p.count;
      filled = λ r. (region_holds flash regions p.rest r).1;
      sound = record {
        current = λ r e. open_stands regions current p.current r e;
        sealed = waiting.stand;
        flushed = λ r h. rw (stored.stand r h) refl;
        listed = λ hash place e. (and_parts (is_listed hash place.offset (region_at place.region regions).appended) _ (led_well flash regions index hash place p.index e)).0;
        regions = λ r. (region_holds flash regions p.rest r).0;
        works = tt;
        single = λ n. omega arith;
      };
      sealed_once = waiting.once;
      flushed_once = stored.once;
    }

pub rested_leads : (flash : FlashConfig) (s : Block) → misfit flash s ≡ None → LeadsWell flash s
rested_leads flash s fit = record { places = λ hash place e. led_well flash s.regions s.index hash place (passes flash s fit).index e }

-- regions that passed: how far they are filled, and that what was appended is in order
pub short_regions : (flash : FlashConfig) (regions : List Region) → flash_wrong flash ≡ None → list_all (can_rest flash) regions ≡ true → (r : ℕ) → filled_to flash (region_at r regions) < 4294967296
short_regions flash regions right all r = omega (arith, (region_holds flash regions all r).1, (limits_from flash right).region_len)

pub rising_regions : (flash : FlashConfig) (regions : List Region) → list_all (can_rest flash) regions ≡ true → (r : ℕ) → IsRising 0 (region_at r regions).appended (filled_to flash (region_at r regions))
rising_regions flash regions all r = (region_holds flash regions all r).0.rising

-- how many there are
pub few_regions : (flash : FlashConfig) (s : Block) → flash_wrong flash ≡ None → misfit flash s ≡ None → length s.regions ≤ 65536
few_regions flash s right fit = omega (arith, eqb-true (length s.regions) flash.regions (passes flash s fit).count, (limits_from flash right).regions)

pub small_limit : (flash : FlashConfig) → flash_wrong flash ≡ None → flash.small_max ≤ 4096
small_limit flash right = let l = small_from flash right in omega (arith, l.small, l.most_page)
