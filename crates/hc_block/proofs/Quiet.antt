-- The parts of an engine at rest pass each test.
use Rattle.std.proofs.Common.{◌≡◌, ℕ, zero, suc, ◌+◌, ◌*◌, ◌<◌, ◌≤◌, ◌==◌, nat_lt, nat_le, Bool, true, false, not, ◌||◌, List, [], ◌∷◌, length, replicate, set, get_or, Option, Some, None, refl, sym, ap, subst, arith, ◌∙◌}
use Rattle.std.specs.Prelude.{if◌then◌else◌, nat_eq}
use Rattle.std.specs.List.{list_all, AllByRecursion, IsDistinct}
use Rattle.std.proofs.lemmas.Bool.{and_from, lt-ltb, le-leb, leb-true, leb-false, eqb-true}
use Rattle.std.proofs.Math.Nat.{mul-le-mul_left}
use Rattle.hc_types.specs.declared.config.FlashConfig.{FlashConfig}
use Rattle.hc_engines.specs.large.Region.{Status, Clean, Open, Sealed, Flushing, OnFlash, Draining, is_clean, is_draining, Appended, Region, clean_region, region_at, region_len, filled_to}
use Rattle.hc_engines.specs.large.Index.{Place, Indexed, place_at}
use Rattle.hc_engines.specs.large.Block.{Job, Block}
use Rattle.hc_engines.specs.large.Numbers.{is_in}
use Rattle.hc_engines.specs.large.Sound.{is_flushing, is_stored, is_filling, is_out, IsRising, Holds, readers, writers}
use Rattle.hc_region.specs.declared.resting.AtRest.{AtRest}
use Rattle.hc_region.specs.declared.resting.AtRest.TheVariants as rests
use Rattle.hc_region.specs.Resting.{status_at, is_rising, is_blank, can_stand, can_rest}
use Rattle.hc_block.specs.declared.reason.Reason.{Reason}
use Rattle.hc_block.specs.declared.reason.Reason.TheVariants as reasons
use Rattle.hc_block.specs.Indexes.{AllAbove, Rises}
use Rattle.hc_block.specs.Large.{Kept}
use Rattle.hc_block.specs.Resting.{stands_at, is_of, is_open, can_come, once_from, all_once, leads_well, misfit, LeadsWell}
use Rattle.hc_block.proofs.Rested.{Passes}
use Rattle.hc_block.proofs.Segments.{nowhere_above}

pub same_so : (a b : ℕ) → a ≡ b → (a == b) ≡ true
same_so a b e = grind (arith, e)

-- ---- one region

rising_so : (from : ℕ) (xs : List Appended) (to : ℕ) → IsRising from xs to → is_rising from xs to ≡ true
rising_so from [] to h = le-leb from to h
rising_so from (x ∷ xs) to h = and_from (nat_le from x.offset) (is_rising (x.offset + 1) xs to) (le-leb from x.offset h.0) (rising_so (x.offset + 1) xs to h.1)

none_out : (b : Bool) → ◌≡◌ {A = ℕ} 0 (if b then 1 else 0) → b ≡ false
none_out true h = absurd (omega (arith, h))
none_out false h = refl

neither : (a b : Bool) → (a || b) ≡ false → (a ≡ false) × (b ≡ false)
neither true b h = absurd (cc)
neither false b h = (refl, h)

-- as many pages or fewer, where as many bytes or fewer
fewer : (a b page : ℕ) → 1 ≤ page → a * page ≤ b * page → a ≤ b
fewer a b page some le = go (nat_le a b) refl
  where
    go : (t : Bool) → nat_le a b ≡ t → a ≤ b
    go true t = leb-true a b t
    go false t =
        let lt : b + 1 ≤ a = (let k = leb-false a b t in omega (arith, k)) in
        let more : page * (b + 1) ≤ page * a = mul-le-mul_left page lt in
        absurd (omega (arith, more, le, some))

-- it stands as a region at rest can
stands : (flash : FlashConfig) (region : Region) → Holds flash 0 0 region → is_flushing region.status ≡ false → (s : Status) → region.status ≡ s → can_stand flash s region ≡ true
stands flash region h f Clean e = let blank : region ≡ clean_region = h.blank (ap is_clean e) in subst (λ (r : Region). is_blank r ≡ true) (sym blank) refl
stands flash region h f Open e = lt-ltb region.written flash.region_pages (h.unwritten (ap is_filling e))
stands flash region h f Sealed e = lt-ltb region.written flash.region_pages (h.unwritten (ap is_filling e))
stands flash region h f Flushing e = let no : true ≡ false = sym (ap is_flushing e) ∙ f in absurd (cc)
stands flash region h f OnFlash e = refl
stands flash region h f Draining e = let some : 0 < region.pins = h.drains (ap is_draining e) in let none : region.pins ≡ 0 = h.pinned in absurd (omega (arith, some, none))

quiet : (flash : FlashConfig) (region : Region) → 1 ≤ flash.page → Holds flash 0 0 region → filled_to flash region ≤ region_len flash → can_rest flash region ≡ true
quiet flash region some h filled =
    let out = neither (is_flushing region.status) region.early (none_out (is_out region) h.out) in
    let pages : region.written ≤ flash.region_pages = fewer region.written flash.region_pages flash.page some (omega (arith, filled)) in
    and_from (can_stand flash region.status region) _ (stands flash region h out.0 region.status refl)
    (and_from (not region.early) _ (ap not out.1)
    (and_from (region.pins == 0) _ (same_so region.pins 0 h.pinned)
    (and_from (nat_le region.written flash.region_pages) _ (le-leb region.written flash.region_pages pages)
    (and_from (nat_le (filled_to flash region) (region_len flash)) _ (le-leb (filled_to flash region) (region_len flash) filled) (rising_so 0 region.appended (filled_to flash region) h.rising)))))

all_pass : (test : Region → Bool) (regions : List Region) → ((r : ℕ) → test (region_at r regions) ≡ true) → list_all test regions ≡ true
all_pass test [] h = refl
all_pass test (x ∷ xs) h = and_from (test x) (list_all test xs) (h 0) (all_pass test xs (λ r. h (suc r)))

-- ---- lists of numbers

there : (regions : List Region) (r : ℕ) → is_clean (region_at r regions).status ≡ false → r < length regions
there [] r h = absurd (cc)
there (x ∷ xs) zero h = omega arith
there (x ∷ xs) (suc r) h = let lt = there xs r h in omega (arith, lt)

as_it_stands : (rest : AtRest) → stands_at rest (status_at rest) ≡ true
as_it_stands rests.Clean = refl
as_it_stands rests.Open = refl
as_it_stands rests.Sealed = refl
as_it_stands rests.OnFlash = refl

of_so : (rest : AtRest) (regions : List Region) (r : ℕ) → is_clean (status_at rest) ≡ false → (region_at r regions).status ≡ status_at rest → is_of rest regions r ≡ true
of_so rest regions r used e =
    and_from (nat_lt r (length regions)) (stands_at rest (region_at r regions).status) (lt-ltb r (length regions) (there regions r (ap is_clean e ∙ used)))
    (subst (λ (s : Status). stands_at rest s ≡ true) (sym e) (as_it_stands rest))

open_so : (regions : List Region) (current : Option ℕ) → ((r : ℕ) → current ≡ Some r → (region_at r regions).status ≡ Open) → is_open regions current ≡ true
open_so regions None h = refl
open_so regions (Some r) h = of_so rests.Open regions r refl (h r refl)

either : (t c : Bool) → c ≡ true → (if t then true else c) ≡ true
either true c e = refl
either false c e = e

in_front : (r : ℕ) (rs : List ℕ) → is_in r (r ∷ rs) ≡ true
in_front r rs = ap (λ (t : Bool). if t then true else is_in r rs) (same_so r r refl)

kept_mark : (seen : List Bool) (r x : ℕ) → nat_eq r x ≡ false → get_or (set seen r true) x false ≡ get_or seen x false
kept_mark [] r x h = refl
kept_mark (b ∷ seen) zero zero h = absurd (cc)
kept_mark (b ∷ seen) zero (suc x) h = refl
kept_mark (b ∷ seen) (suc r) zero h = refl
kept_mark (b ∷ seen) (suc r) (suc x) h = kept_mark seen r x (let e : nat_eq r x ≡ false = grind (arith, h) in e)

none_marked : (n r : ℕ) → get_or (replicate {A = Bool} n false) r false ≡ false
none_marked zero r = refl
none_marked (suc n) zero = refl
none_marked (suc n) (suc r) = none_marked n r

another : (r x : ℕ) (rs : List ℕ) → AllByRecursion (λ (y : ℕ). nat_eq r y ≡ false) rs → is_in x rs ≡ true → nat_eq r x ≡ false
another r x [] a h = absurd (cc)
another r x (y ∷ ys) a h = go (y == x) refl a.0 (λ h. another r x ys a.1 h) h
  where
    go : (t : Bool) → (y == x) ≡ t → nat_eq r y ≡ false → (is_in x ys ≡ true → nat_eq r x ≡ false) → (if t then true else is_in x ys) ≡ true → nat_eq r x ≡ false
    go true t here f h = subst (λ (n : ℕ). nat_eq r n ≡ false) (eqb-true y x t) here
    go false t here f h = f h

once_so : (rest : AtRest) (regions : List Region) (seen : List Bool) (rs : List ℕ) → is_clean (status_at rest) ≡ false → IsDistinct nat_eq rs → ((r : ℕ) → is_in r rs ≡ true → (region_at r regions).status ≡ status_at rest)
    → ((r : ℕ) → is_in r rs ≡ true → get_or seen r false ≡ false) → once_from rest regions seen rs ≡ true
unfolding IsDistinct
once_so rest regions seen [] used once stand free = refl
once_so rest regions seen (r ∷ rs) used once stand free =
    and_from (can_come rest regions seen r) (once_from rest regions (set seen r true) rs)
    (and_from (is_of rest regions r) (not (get_or seen r false)) (of_so rest regions r used (stand r (in_front r rs))) (ap not (free r (in_front r rs))))
    (once_so rest regions (set seen r true) rs used once.1 (λ x h. stand x (either (r == x) (is_in x rs) h)) (λ x h. kept_mark seen r x (another r x rs once.0 h) ∙ free x (either (r == x) (is_in x rs) h)))

all_once_so : (rest : AtRest) (regions : List Region) (rs : List ℕ) → is_clean (status_at rest) ≡ false → IsDistinct nat_eq rs → ((r : ℕ) → is_in r rs ≡ true → (region_at r regions).status ≡ status_at rest) → all_once rest regions rs ≡ true
all_once_so rest regions rs used once stand = once_so rest regions (replicate {A = Bool} (length regions) false) rs used once stand (λ r h. none_marked (length regions) r)

-- what is stored and doesn't drain is on flash
on_flash : (s : Status) → is_stored s ≡ true → is_draining s ≡ false → s ≡ OnFlash
on_flash Clean h d = absurd (cc)
on_flash Open h d = absurd (cc)
on_flash Sealed h d = absurd (cc)
on_flash Flushing h d = absurd (cc)
on_flash OnFlash h d = refl
on_flash Draining h d = absurd (cc)

undrained : (flash : FlashConfig) (region : Region) → Holds flash 0 0 region → (t : Bool) → is_draining region.status ≡ t → t ≡ false
undrained flash region h true e = let some : 0 < region.pins = h.drains e in let none : region.pins ≡ 0 = h.pinned in absurd (omega (arith, some, none))
undrained flash region h false e = refl

-- ---- the index

-- where hashes rise, each leads where its pair says
leads_so : (flash : FlashConfig) (regions : List Region) (index : List Indexed) → Rises index → ((hash : ℕ) (place : Place) → place_at hash index ≡ Some place → leads_well flash regions (record { hash = hash; place = place }) ≡ true) → list_all (leads_well flash regions) index ≡ true
leads_so flash regions [] r h = refl
leads_so flash regions (x ∷ xs) r h =
    and_from (leads_well flash regions x) (list_all (leads_well flash regions) xs) (h x.hash x.place (ap (λ (t : Bool). if t then Some x.place else place_at x.hash xs) (same_so x.hash x.hash refl)))
    (leads_so flash regions xs r.1 (λ hash place e. h hash place (go hash place e (x.hash == hash) refl)))
  where
    go : (hash : ℕ) (place : Place) → place_at hash xs ≡ Some place → (t : Bool) → (x.hash == hash) ≡ t → (if t then Some x.place else place_at hash xs) ≡ Some place
    go hash place e true t =
        let above : AllAbove hash xs = subst (λ (n : ℕ). AllAbove n xs) (eqb-true x.hash hash t) r.0 in
        let bad : None ≡ Some place = sym (nowhere_above hash xs above) ∙ e in
        absurd (cc)
    go hash place e false t = e

-- ---- the engine

passed : (t : Bool) (why : Reason) (o : Option Reason) → t ≡ true → o ≡ None → (if t then o else Some why) ≡ None
passed true why o e h = h
passed false why o e h = absurd (cc)

pub fits : (flash : FlashConfig) (s : Block) → Passes flash s → misfit flash s ≡ None
fits flash s p =
    passed (length s.regions == flash.regions) reasons.Count _ p.count
    (passed (list_all (can_rest flash) s.regions) reasons.Region _ p.rest
    (passed (is_open s.regions s.current) reasons.Current _ p.current
    (passed (all_once rests.Sealed s.regions s.sealed) reasons.Sealed _ p.sealed
    (passed (all_once rests.OnFlash s.regions s.flushed) reasons.Flushed _ p.flushed
    (passed (list_all (leads_well flash s.regions) s.index) reasons.Index None p.index refl)))))

pub no_job : (jobs : List Job) → length jobs ≡ 0 → jobs ≡ []
no_job [] e = refl
no_job (x ∷ xs) e = absurd (omega (arith, e))

-- at rest each region holds what one does that nobody reads or writes
at_rest : (flash : FlashConfig) (s : Block) → Kept flash s → length s.jobs ≡ 0 → (r : ℕ) → Holds flash 0 0 (region_at r s.regions)
at_rest flash s k idle r = subst (λ (jobs : List Job). Holds flash (readers r jobs) (writers r jobs) (region_at r s.regions)) (no_job s.jobs idle) (k.sound.regions r)

pub kept_fits : (flash : FlashConfig) (s : Block) → Kept flash s → length s.jobs ≡ 0 → Rises s.index → LeadsWell flash s → misfit flash s ≡ None
kept_fits flash s k idle rising led =
    let holds = at_rest flash s k idle in
    let some : 1 ≤ flash.page = omega (arith, k.limits.least_page) in
    fits flash s
    (record {
      count = same_so (length s.regions) flash.regions k.count;
      rest = all_pass (can_rest flash) s.regions (λ r. quiet flash (region_at r s.regions) some (holds r) (k.filled r));
      current = open_so s.regions s.current k.sound.current;
      sealed = all_once_so rests.Sealed s.regions s.sealed refl k.sealed_once k.sound.sealed;
      flushed = all_once_so rests.OnFlash s.regions s.flushed refl k.flushed_once (λ r h. on_flash (region_at r s.regions).status (k.sound.flushed r h) (undrained flash (region_at r s.regions) (holds r) (is_draining (region_at r s.regions).status) refl));
      index = leads_so flash s.regions s.index rising led.places;
    })
