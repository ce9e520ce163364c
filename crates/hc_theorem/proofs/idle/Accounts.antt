-- The notes tell of each region in use after each operation: where one region changes, and then put, flush, reclaim and get.
use Rattle.std.proofs.Common.{◌≡◌, ℕ, zero, suc, ◌+◌, ◌<◌, ◌==◌, ◌||◌, Bool, true, false, List, [], ◌∷◌, length, set, Option, Some, None, refl, arith, ◌∙◌, inl, inr}
use Rattle.std.proofs.lemmas.Bool.{eqb-true, or_left, or_right, or_cases}
use Rattle.std.proofs.lemmas.List.{length-set}
use Rattle.std.specs.Prelude.{if◌then◌else◌, nat_lt, min}
use Rattle.hc_types.specs.Places.{kept_of}
use Rattle.hc_types.specs.Loss.{Cause, Reclaimed}
use Rattle.hc_types.specs.declared.config.FlashConfig.{FlashConfig}
use Rattle.hc_types.specs.FlashEntry.{FlashEntry}
use Rattle.hc_history.specs.Note.{Note, Opened}
use Rattle.hc_engines.specs.large.Entries.{entry_bytes, entry_in}
use Rattle.hc_engines.specs.large.Region.{Sealed, Flushing, Draining, Region, clean_region, opened_region, can_go, region_at, lowest_clean}
use Rattle.hc_engines.specs.large.Index.{Place, place_at, is_place}
use Rattle.hc_engines.specs.large.Block.{Block, Reading, unmoved}
use Rattle.hc_engines.specs.large.Numbers.{is_in, minus}
use Rattle.hc_engines.specs.large.Steps.{fitting, append, seal, sealed_too, open_next, put_fresh, put_into, emptied, end_region, clean_count, oldest, reclaim_of, write_out, first_ready, early_of, flush_of, first_page, end_page, reading_of, read_bytes, answer_of, answered, absent, read_next, pinned, get_at}
use Rattle.hc_engines.proofs.large.Lists.{same_num, in_range, region_at-set}
use Rattle.hc_engines.proofs.large.Regions.{lowest_is, oldest_is}
use Rattle.hc_engines.proofs.large.Ends.{not-current-is}
use Rattle.hc_engines.proofs.large.Fitting.{with_entry}
use Rattle.hc_engines.proofs.large.Flushes.{ready_is}
use Rattle.hc_engines.proofs.large.Reclaims.{oldest_ending}
use Rattle.hc_follows.specs.Idle.{has_failed, pages_written}
use Rattle.hc_engines.specs.large.Listed.{AllListed}
use Rattle.hc_theorem.specs.idle.Accounted.{Accounted, opened_on, PutAccounts, FlushAccounts, ReclaimAccounts, GetAccounts}
use Rattle.hc_engines.proofs.large.Listed.{kept-in, put_lists, flush_lists, reclaim_lists, get_lists}

-- ---- what the notes tell

-- all of Accounted but that no region is forgotten, which is kept by itself
pub record Counted (flash : FlashConfig) (older : List Note) (s : Block) : Type 0 where
  pub drained : (r : ℕ) → (region_at r s.regions).status ≡ Draining → (is_in r s.flushed || has_failed flash r older) ≡ true
  pub written : (r : ℕ) → s.current ≡ Some r → pages_written flash r older ≡ (region_at r s.regions).written

pub counted : {flash : FlashConfig} {older : List Note} {s : Block} → Accounted flash older s → Counted flash older s
counted a = record { drained = a.drained; written = a.written }

pub accounted : {flash : FlashConfig} {older : List Note} {s : Block} → AllListed s → Counted flash older s → Accounted flash older s
accounted all c = record { listed = all; drained = c.drained; written = c.written }

-- ---- no region changes, or in what isn't told

pub record Untouched (s new : Block) : Type 0 where
  pub regions : new.regions ≡ s.regions
  pub current : new.current ≡ s.current
  pub flushed : new.flushed ≡ s.flushed

pub untouched_counts : (flash : FlashConfig) (older : List Note) (s new : Block) → Untouched s new → Counted flash older s → Counted flash older new
untouched_counts flash older s new u c = record {
  drained = λ r. rw (u.regions, u.flushed) (c.drained r);
  written = λ r. rw (u.regions, u.current) (c.written r);
}

kept_there : (regions : List Region) (r q : ℕ) (x : Region) → x.status ≡ (region_at r regions).status → x.written ≡ (region_at r regions).written
    → ((region_at q (set regions r x)).status ≡ (region_at q regions).status) × ((region_at q (set regions r x)).written ≡ (region_at q regions).written)
kept_there [] r q x st w = (refl, refl)
kept_there (e ∷ es) zero zero x st w = (st, w)
kept_there (e ∷ es) zero (suc q) x st w = (refl, refl)
kept_there (e ∷ es) (suc r) zero x st w = (refl, refl)
kept_there (e ∷ es) (suc r) (suc q) x st w = kept_there es r q x st w

-- a region keeps its status and how many of its pages are written
pub eased_counts : (flash : FlashConfig) (older : List Note) (s new : Block) (r : ℕ) (x : Region) → new.regions ≡ set s.regions r x → x.status ≡ (region_at r s.regions).status → x.written ≡ (region_at r s.regions).written
    → new.current ≡ s.current → new.flushed ≡ s.flushed → Counted flash older s → Counted flash older new
eased_counts flash older s new r x e st w c f k = record {
  drained = λ q. rw (e, f, (kept_there s.regions r q x st w).0) (k.drained q);
  written = λ q. rw (c, e, (kept_there s.regions r q x st w).1) (k.written q);
}

-- ---- one region changes

-- of the others is told what was told
pub record Others (flash : FlashConfig) (older newer : List Note) (s new : Block) (r : ℕ) : Type 0 where
  pub drained : (q : ℕ) → (q == r) ≡ false → (is_in q s.flushed || has_failed flash q older) ≡ true → (is_in q new.flushed || has_failed flash q newer) ≡ true
  pub current : (q : ℕ) → (q == r) ≡ false → new.current ≡ Some q → s.current ≡ Some q
  pub pages : (q : ℕ) → (q == r) ≡ false → pages_written flash q newer ≡ pages_written flash q older

pub changed_counts : (flash : FlashConfig) (older newer : List Note) (s new : Block) (r : ℕ) (x : Region) → r < length s.regions → new.regions ≡ set s.regions r x → Others flash older newer s new r
    → (x.status ≡ Draining → (is_in r new.flushed || has_failed flash r newer) ≡ true) → (new.current ≡ Some r → pages_written flash r newer ≡ x.written) → Counted flash older s → Counted flash newer new
changed_counts flash older newer s new r x lt e o drains pages c = record {
  drained = λ q. rw (e, region_at-set s.regions r q x lt) (drained q (q == r) refl);
  written = λ q. rw (e, region_at-set s.regions r q x lt) (written q (q == r) refl);
}
  where
    drained : (q : ℕ) (t : Bool) → (q == r) ≡ t → (if t then x else region_at q s.regions).status ≡ Draining → (is_in q new.flushed || has_failed flash q newer) ≡ true
    drained q true t = let same : q ≡ r = eqb-true q r t in rw same drains
    drained q false t = λ h. o.drained q t (c.drained q h)

    written : (q : ℕ) (t : Bool) → (q == r) ≡ t → new.current ≡ Some q → pages_written flash q newer ≡ (if t then x else region_at q s.regions).written
    written q true t = let same : q ≡ r = eqb-true q r t in rw same pages
    written q false t = λ h. o.pages q t ∙ c.written q (o.current q t h)

-- more is in the order of flushes, or has failed
or_more : (a b c d : Bool) → (a ≡ true → c ≡ true) → (b ≡ true → d ≡ true) → (a || b) ≡ true → (c || d) ≡ true
or_more a b c d f g h = elim (or_cases a b h) [
  | inl l ↦ or_left c d (f l)
  | inr r ↦ or_right c d (g r)
]

-- ---- put

pub put_accounts : PutAccounts
put_accounts flash entry older s sound a = accounted (put_lists flash entry s sound a.listed) (go (fitting flash s (length (entry_bytes entry)) s.current))
  where
    appended : (newer : List Note) (r : ℕ) (t : Block) → Counted flash newer t → Counted flash newer (append flash r entry t)
    appended newer r t c = eased_counts flash newer t (append flash r entry t) r (with_entry flash entry (region_at r t.regions)) refl refl refl refl refl c

    -- the region in use is sealed
    sealed : (o : Option ℕ) → s.current ≡ o → Counted flash older (record s { regions = seal o s.regions; current = None; sealed = sealed_too o s.sealed })
    sealed None k = record { drained = a.drained; written = λ r h. absurd (cc) }
    sealed (Some c) k =
        changed_counts flash older older s (record s { regions = seal (Some c) s.regions; current = None; sealed = sealed_too (Some c) s.sealed }) c (record (region_at c s.regions) { status = Sealed })
        (in_range s.regions c (rw (sound.current c k) refl)) refl (record { drained = λ q n h. h; current = λ q n h. absurd (cc); pages = λ q n. refl }) (λ h. absurd (cc)) (λ h. absurd (cc)) (counted a)

    opened : (r : ℕ) (t : Block) → r < length t.regions → Counted flash older t → Counted flash (Opened r ∷ older) (record t { regions = set t.regions r opened_region; current = Some r })
    opened r t lt c =
        changed_counts flash older (Opened r ∷ older) t (record t { regions = set t.regions r opened_region; current = Some r }) r opened_region lt refl
        (record {
          drained = λ q n h. rw (other q n) h;
          current = λ q n h. absurd (let same : r ≡ q = cc in grind (arith, same_num r, n));
          pages = λ q n. rw (other q n) refl;
        }) (λ h. absurd (cc)) (λ h. rw (same_num r) refl) c
      where
        other : (q : ℕ) → (q == r) ≡ false → (r == q) ≡ false
        other q n = grind (arith, n)

    as_long : (o : Option ℕ) → length (seal o s.regions) ≡ length s.regions
    as_long None = refl
    as_long (Some c) = length-set s.regions c (record (region_at c s.regions) { status = Sealed })

    fresh : (o : Option ℕ) → lowest_clean 0 s.regions ≡ o → Counted flash (opened_on (put_fresh flash entry s o).outcome.opened older) (put_fresh flash entry s o).state
    fresh None e = counted a
    fresh (Some r) e =
        let lowest = lowest_is s.regions 0 r e in
        let there : r < length (seal s.current s.regions) = omega (arith, lowest.1, lowest.2.there, as_long s.current) in
        appended (Opened r ∷ older) r (open_next r s) (opened r (record s { regions = seal s.current s.regions; current = None; sealed = sealed_too s.current s.sealed }) there (sealed s.current refl))

    go : (o : Option ℕ) → Counted flash (opened_on (put_into flash entry s o).outcome.opened older) (put_into flash entry s o).state
    go None = fresh (lowest_clean 0 s.regions) refl
    go (Some r) = appended older r s (counted a)

-- ---- flush

pub flush_accounts : FlushAccounts
flush_accounts flash number older s sound a = accounted (flush_lists flash number s sound a.listed) (go (first_ready s.regions s.sealed) refl)
  where
    c : Counted flash older s
    c = counted a

    early_one : (r : ℕ) (t : Bool) → Counted flash older (if t then write_out flash number r (record (region_at r s.regions) { early = true }) s else unmoved s).state
    early_one r true = eased_counts flash older s (write_out flash number r (record (region_at r s.regions) { early = true }) s).state r (record (region_at r s.regions) { early = true }) refl refl refl refl refl c
    early_one r false = c

    early : (o : Option ℕ) → Counted flash older (early_of flash number s o).state
    early None = c
    early (Some r) = early_one r (can_go flash (region_at r s.regions))

    go : (o : Option ℕ) → first_ready s.regions s.sealed ≡ o → Counted flash older (flush_of flash number s o).state
    go None e = early s.current
    go (Some r) e =
        let there : r < length s.regions = in_range s.regions r (rw (sound.sealed r (ready_is s.regions s.sealed r e).there) refl) in
        changed_counts flash older older s (flush_of flash number s (Some r)).state r (record (region_at r s.regions) { status = Flushing }) there refl
        (record { drained = λ q n h. h; current = λ q n h. h; pages = λ q n. refl }) (λ h. absurd (cc)) (a.written r) c

-- ---- a region ends

-- one that drains then is in the order of flushes, or its write failed
pub ended_counts : (flash : FlashConfig) (cause : Cause) (r : ℕ) (older newer : List Note) (s : Block) → r < length s.regions → (is_in r s.flushed || has_failed flash r newer) ≡ true
    → ((q : ℕ) → has_failed flash q older ≡ true → has_failed flash q newer ≡ true) → ((q : ℕ) → pages_written flash q newer ≡ pages_written flash q older)
    → Counted flash older s → Counted flash newer (end_region cause r s).state
ended_counts flash cause r older newer s lt told failed pages c =
    changed_counts flash older newer s (end_region cause r s).state r (emptied (region_at r s.regions)) lt refl
    (record {
      drained = λ q n. or_more _ _ _ _ (on_flash q ((region_at r s.regions).pins == 0) n) (failed q);
      current = λ q n h. (not-current-is r q s.current h).0;
      pages = λ q n. pages q;
    }) (drains ((region_at r s.regions).pins == 0)) (λ h. absurd (let n : (r == r) ≡ false = (not-current-is r r s.current h).1 in grind (arith, same_num r, n))) c
  where
    on_flash : (q : ℕ) (t : Bool) → (q == r) ≡ false → is_in q s.flushed ≡ true → is_in q (if t then minus r s.flushed else s.flushed) ≡ true
    on_flash q true n h = kept-in q r s.flushed n h
    on_flash q false n h = h

    drains : (t : Bool) → (if t then clean_region else record (region_at r s.regions) { status = Draining; buffer = []; appended = []; early = false }).status ≡ Draining → (is_in r (if t then minus r s.flushed else s.flushed) || has_failed flash r newer) ≡ true
    drains true h = absurd (cc)
    drains false h = told

pub reclaim_accounts : ReclaimAccounts
reclaim_accounts flash older s sound a = accounted (reclaim_lists flash s sound a.listed) (go (nat_lt (clean_count s.regions) flash.clean))
  where
    of : (o : Option ℕ) → oldest s.regions s.flushed ≡ o → Counted flash older (reclaim_of s o).state
    of None e = counted a
    of (Some r) e =
        let old = oldest_is s.regions s.flushed r e in
        ended_counts flash (Reclaimed r) r older older s (in_range s.regions r (oldest_ending flash s r sound old).0.unclean) (or_left _ _ old.there) (λ q h. h) (λ q. refl) (counted a)

    go : (t : Bool) → Counted flash older (if t then reclaim_of s (oldest s.regions s.flushed) else unmoved s).state
    go true = of (oldest s.regions s.flushed) refl
    go false = counted a

-- ---- get

-- an answer leaves the regions alone
pub answered_alone : (flash : FlashConfig) (reading : Reading) (s : Block) → Untouched s (answered flash reading s).state
answered_alone flash reading s = go (is_place (place_at (kept_of flash.bits reading.key) s.index) reading.place)
  where
    of : (o : Option FlashEntry) → Untouched s (answer_of (kept_of flash.bits reading.key) reading.key s o).state
    of None = record { regions = refl; current = refl; flushed = refl }
    of (Some entry) = record { regions = refl; current = refl; flushed = refl }

    go : (t : Bool) → Untouched s (if t then answer_of (kept_of flash.bits reading.key) reading.key s (entry_in (read_bytes flash reading)) else absent s).state
    go true = of (entry_in (read_bytes flash reading))
    go false = record { regions = refl; current = refl; flushed = refl }

pub get_accounts : GetAccounts
get_accounts flash number key older s sound a = accounted (get_lists flash number key s a.listed) (go (place_at (kept_of flash.bits key) s.index))
  where
    c : Counted flash older s
    c = counted a

    begun : (p : Place) (t : Bool) → Counted flash older (if t then read_next flash number (reading_of flash key p s) (pinned p.region s) else answered flash (reading_of flash key p s) s).state
    begun p true = eased_counts flash older s (read_next flash number (reading_of flash key p s) (pinned p.region s)).state p.region (record (region_at p.region s.regions) { pins = (region_at p.region s.regions).pins + 1 }) refl refl refl refl refl c
    begun p false = untouched_counts flash older s (answered flash (reading_of flash key p s) s).state (answered_alone flash (reading_of flash key p s) s) c

    go : (o : Option Place) → Counted flash older (get_at flash number key o s).state
    go None = c
    go (Some p) = begun p (nat_lt (first_page flash p) (min (region_at p.region s.regions).written (end_page flash p)))
