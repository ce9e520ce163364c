-- A large put: the engine by itself, what it holds, and what is told.
use Rattle.std.proofs.Common.{◌≡◌, ℕ, ◌+◌, ◌*◌, ◌<◌, ◌==◌, Bool, true, false, List, [], ◌∷◌, ◌++◌, length, set, Option, Some, None, refl, sym, ap, subst, arith, ◌∙◌}
use Rattle.std.proofs.lemmas.Bool.{eqb-true}
use Rattle.std.specs.Prelude.{if◌then◌else◌, nat_lt, nat_le, is_some}
use Rattle.hc_types.specs.Config.{Config}
use Rattle.hc_types.specs.Places.{kept_of}
use Rattle.hc_types.specs.declared.config.FlashConfig.{FlashConfig}
use Rattle.hc_types.specs.FlashEntry.{FlashEntry}
use Rattle.hc_engines.specs.large.Entries.{IsLarge, entry_bytes}
use Rattle.hc_engines.specs.large.Region.{Open, Sealed, Region, clean_region, opened_region, region_len, filled_to, region_at, lowest_clean}
use Rattle.hc_engines.specs.large.Index.{Place, place_at}
use Rattle.hc_engines.specs.large.Block.{Block, Moved, work_of}
use Rattle.hc_engines.specs.large.Steps.{collided, fitting, append, seal, open_next, put_fresh, put_into, put}
use Rattle.hc_engines.specs.large.Held.{held}
use Rattle.hc_engines.specs.large.Sound.{Sound}
use Rattle.hc_engines.specs.large.Laws.{has_room, after_put}
use Rattle.hc_engines.proofs.large.Lists.{same_num, in_range, region_at-set, place_at-leading}
use Rattle.hc_engines.proofs.large.Puts.{append_sound, seal_step, seal_sound, open_sound}
use Rattle.hc_engines.proofs.large.Fitting.{with_entry, new_place}
use Rattle.hc_engines.proofs.large.Stays.{Rest, seal_rest, open_rest}
use Rattle.hc_engines.proofs.large.PutsSound.{in_use, Opens, opens}
use Rattle.hc_engines.proofs.large.Holding.{held_same, held_put}
use Rattle.hc_history.specs.Note.{Note, Unqueued, Opened}
use Rattle.hc_history.specs.Pages.{bytes_at}
use Rattle.hc_history.specs.Regions.{filling, has_no_room, is_passed}
use Rattle.hc_machine.specs.Takes.{region_note, loss_notes}
use Rattle.hc_invariant.specs.Tells.{RegionsTell}
use Rattle.hc_proof.specs.books.RegionBooks.{taken_note, PutWay, Fitting, Opening, Unplaced, PutTells}
use Rattle.hc_proof.proofs.books.Placed.{put-is, collision, PutOut, PutAsked, put_fits, put_opens, put_lost}
use Rattle.hc_engines.proofs.large.Stays.{append_rest}
use Rattle.hc_engines.proofs.large.Changes.{opened_grows}

-- ---- which way it goes

le-not-lt : (a b c d : ℕ) → nat_le a (b * c) ≡ false → nat_lt (c * b) a ≡ true
le-not-lt a b c d h = let e : b * c ≡ c * b = omega arith in rw (← e) (grind (arith, h))

-- it has no room by the books
passed_by : (flash : FlashConfig) (older : List Note) (s : Block) (len : ℕ) → RegionsTell flash older s → fitting flash s len s.current ≡ None → is_passed flash older len ≡ true
passed_by flash older s len t e = rw t.current (go s.current refl e)
  where
    tight : (b : Bool) (r : ℕ) → (if b then Some r else None) ≡ None → b ≡ false
    tight true r e = absurd (cc)
    tight false r e = refl

    go : (o : Option ℕ) → s.current ≡ o → fitting flash s len o ≡ None → has_no_room flash o (filling flash older) len ≡ true
    go None c e = refl
    go (Some r) c e = rw (t.filled r c) (le-not-lt (filled_to flash (region_at r s.regions) + len) flash.region_pages flash.page 0 (tight (nat_le (filled_to flash (region_at r s.regions) + len) (region_len flash)) r e))

le-holds : (a b c : ℕ) → nat_le a (b * c) ≡ true → nat_lt (c * b) a ≡ false
le-holds a b c h = let e : b * c ≡ c * b = omega arith in rw (← e) (grind (arith, h))

-- where the region in use takes it, the books say that it has room
roomy : (flash : FlashConfig) (older : List Note) (s : Block) (len r : ℕ) → RegionsTell flash older s → fitting flash s len s.current ≡ Some r → is_passed flash older len ≡ false
roomy flash older s len r t e = rw t.current (go s.current refl e)
  where
    fits : (b : Bool) (c : ℕ) → (if b then Some c else None) ≡ Some r → b ≡ true
    fits true c e = refl
    fits false c e = absurd (cc)

    go : (o : Option ℕ) → s.current ≡ o → fitting flash s len o ≡ Some r → has_no_room flash o (filling flash older) len ≡ false
    go None c e = absurd (cc)
    go (Some c) k e = rw (t.filled c k) (le-holds (filled_to flash (region_at c s.regions) + len) flash.region_pages flash.page (fits (nat_le (filled_to flash (region_at c s.regions) + len) (region_len flash)) c e))

is_opened : (s : Block) (r : ℕ) → Opens s r → region_at r (open_next r s).regions ≡ opened_region
is_opened s r o = rw (region_at-set (seal s.current s.regions) r r opened_region o.there, same_num r) refl

-- what a put leaves of the engine by itself, and of what it holds
pub record PutLeaves (flash : FlashConfig) (pages : ℕ → Option (List ℕ)) (entry : FlashEntry) (s new : Block) (room : Bool) : Type 0 where
  pub sound : Sound flash new
  pub rest : Rest flash pages new
  pub holds : (key : List ℕ) → held flash pages new key ≡ (if room then after_put flash entry key (held flash pages s key) else held flash pages s key)
  pub index : (hash : ℕ) → (hash == kept_of flash.bits entry.key) ≡ false → place_at hash new.index ≡ place_at hash s.index
  pub jobs : new.jobs ≡ s.jobs
  pub written : (q : ℕ) → (region_at q new.regions).written ≡ (region_at q s.regions).written

index_else : (flash : FlashConfig) (r : ℕ) (entry : FlashEntry) (s : Block) (hash : ℕ) → (hash == kept_of flash.bits entry.key) ≡ false → place_at hash (append flash r entry s).index ≡ place_at hash s.index
index_else flash r entry s hash o = place_at-leading (kept_of flash.bits entry.key) hash (new_place flash r entry s) s.index ∙ (rw o refl)

written_set : (regions : List Region) (r q : ℕ) (x : Region) → r < length regions → x.written ≡ (region_at r regions).written → (region_at q (set regions r x)).written ≡ (region_at q regions).written
written_set regions r q x lt e = rw (region_at-set regions r q x lt) (go (q == r) refl)
  where
    go : (t : Bool) → (q == r) ≡ t → (if t then x else region_at q regions).written ≡ (region_at q regions).written
    go true t = let same : q ≡ r = eqb-true q r t in rw same e
    go false t = refl

fits_leaves : (flash : FlashConfig) (pages : ℕ → Option (List ℕ)) (entry : FlashEntry) (s : Block) (r : ℕ) → IsLarge entry → Sound flash s → Rest flash pages s → s.current ≡ Some r → PutLeaves flash pages entry s (append flash r entry s) true
fits_leaves flash pages entry s r large sound rest cur = record {
  sound = append_sound flash r entry s (sound.current r cur) sound;
  rest = append_rest flash pages r entry s (sound.current r cur) large sound.works rest;
  holds = held_put flash pages s r entry (rw (sound.current r cur) refl) large rest.fits;
  index = index_else flash r entry s;
  jobs = refl;
  written = λ q. written_set s.regions r q (with_entry flash entry (region_at r s.regions)) (in_range s.regions r (rw (sound.current r cur) refl)) refl;
}

opens_leaves : (flash : FlashConfig) (pages : ℕ → Option (List ℕ)) (entry : FlashEntry) (s : Block) (r : ℕ) → 0 < flash.region_pages → IsLarge entry → Sound flash s → Rest flash pages s → Opens s r → PutLeaves flash pages entry s (append flash r entry (open_next r s)) true
opens_leaves flash pages entry s r some large sound rest o = record {
  sound = append_sound flash r entry (open_next r s) is_open opened;
  rest = append_rest flash pages r entry (open_next r s) is_open large opened.works opened_one;
  holds = λ key. held_put flash pages (open_next r s) r entry (rw is_open refl) large opened_one.fits key ∙ ap (after_put flash entry key) (held_same flash pages pages s (open_next r s) rest.fits refl (opened_grows flash pages r s sound o.there o.low.clean) key);
  index = index_else flash r entry (open_next r s);
  jobs = refl;
  written = λ q. written_set (open_next r s).regions r q (with_entry flash entry (region_at r (open_next r s).regions)) in_opened refl ∙ opened_written q ∙ sealed_written q s.current refl;
}
  where
    is_open : (region_at r (open_next r s).regions).status ≡ Open
    is_open = rw (is_opened s r o) refl

    in_opened : r < length (open_next r s).regions
    in_opened = in_range (open_next r s).regions r (rw is_open refl)

    sealed : Sound flash (seal_step s)
    sealed = seal_sound flash s sound

    opened : Sound flash (open_next r s)
    opened = open_sound flash r (seal_step s) some o.there o.clean sealed

    opened_one : Rest flash pages (open_next r s)
    opened_one = open_rest flash pages r (seal_step s) sealed o.there o.clean (seal_rest flash pages s sound rest)

    blank : region_at r (seal s.current s.regions) ≡ clean_region
    blank = (sealed.regions r).blank o.clean

    opened_written : (q : ℕ) → (region_at q (open_next r s).regions).written ≡ (region_at q (seal s.current s.regions)).written
    opened_written q = written_set (seal s.current s.regions) r q opened_region o.there (rw blank refl)

    sealed_written : (q : ℕ) (c : Option ℕ) → s.current ≡ c → (region_at q (seal c s.regions)).written ≡ (region_at q s.regions).written
    sealed_written q None k = refl
    sealed_written q (Some c) k = written_set s.regions c q (record (region_at c s.regions) { status = Sealed }) (in_range s.regions c (rw (sound.current c k) refl)) refl

-- ---- what is told

abbrev moved_part : FlashEntry → Moved → List Note
moved_part e moved = Unqueued e.key ∷ (region_note Opened moved.outcome.opened ++ loss_notes moved.outcome.losses)

-- the losses of an index entry
told_collision : (flash : FlashConfig) (key : List ℕ) (o : Option Place) → loss_notes ([] ++ (collided (kept_of flash.bits key) key o)) ≡ collision flash key o
told_collision flash key None = refl
told_collision flash key (Some place) = refl

if_indexed : (flash : FlashConfig) (key : List ℕ) (o : Option Place) → collision flash key o ≡ (if is_some o then taken_note flash key ∷ [] else [])
if_indexed flash key None = refl
if_indexed flash key (Some place) = refl

-- all that is said of a put that moves so
record PutDoes (config : Config) (flash : FlashConfig) (older : List Note) (e : FlashEntry) (s : Block) (moved : Moved) : Type 0 where
  leaves : PutLeaves flash (bytes_at older) e s moved.state (has_room flash e s)
  out : PutOut config flash older (moved_part e moved) moved.state
  order : moved.order ≡ None
  way : moved.state ≡ (put flash e s).state → PutWay flash e s (moved_part e moved)

module _ (config : Config) (flash : FlashConfig) (older : List Note) (e : FlashEntry) (s : Block) (asked : PutAsked config flash older e) (some : 0 < flash.region_pages) (large : IsLarge e) (t : RegionsTell flash older s) (sound : Sound flash s) (rest : Rest flash (bytes_at older) s) where
  place : Option Place
  place = place_at (kept_of flash.bits e.key) s.index

  put_in_use : (r : ℕ) → fitting flash s (length (entry_bytes e)) s.current ≡ Some r → PutDoes config flash older e s (put_into flash e s (Some r))
  put_in_use r f =
      let cur = in_use flash s (length (entry_bytes e)) r s.current f in
      let told = told_collision flash e.key (place_at (kept_of flash.bits e.key) s.index) in
      let room : has_room flash e s ≡ true = (rw f refl) in
      record {
        leaves = rw room (fits_leaves flash (bytes_at older) e s r large sound rest cur);
        out = subst (λ (part : List Note). PutOut config flash older (Unqueued e.key ∷ part) (append flash r e s)) (sym told) (put_fits config flash older e s r asked t sound cur (roomy flash older s (length (entry_bytes e)) r t f));
        order = refl;
        way = λ same. Fitting room (ap (λ part. Unqueued e.key ∷ part) (told ∙ if_indexed flash e.key (place_at (kept_of flash.bits e.key) s.index)));
      }

  put_new : (r : ℕ) → fitting flash s (length (entry_bytes e)) s.current ≡ None → lowest_clean 0 s.regions ≡ Some r → PutDoes config flash older e s (put_fresh flash e s (Some r))
  put_new r f l =
      let o = opens flash s r sound l in
      let told = told_collision flash e.key (place_at (kept_of flash.bits e.key) s.index) in
      let room : has_room flash e s ≡ true = (rw (f, l) refl) in
      record {
        leaves = rw room (opens_leaves flash (bytes_at older) e s r some large sound rest o);
        out = subst (λ (part : List Note). PutOut config flash older (Unqueued e.key ∷ Opened r ∷ part) (append flash r e (open_next r s))) (sym told)
            (put_opens config flash older e s r asked t sound (passed_by flash older s (length (entry_bytes e)) t f) o.low);
        order = refl;
        way = λ same. Opening r room (ap (λ part. Unqueued e.key ∷ Opened r ∷ part) (told ∙ if_indexed flash e.key (place_at (kept_of flash.bits e.key) s.index)));
      }

  put_none : fitting flash s (length (entry_bytes e)) s.current ≡ None → lowest_clean 0 s.regions ≡ None → PutDoes config flash older e s (put_fresh flash e s None)
  put_none f l =
      let room : has_room flash e s ≡ false = (rw (f, l) refl) in
      record {
        leaves = rw room (record { sound = sound; rest = rest; holds = λ key. refl; index = λ hash o. refl; jobs = refl; written = λ q. refl });
        out = put_lost config flash older e s asked t (passed_by flash older s (length (entry_bytes e)) t f) l;
        order = refl;
        way = λ same. Unplaced room refl (sym same);
      }

  put_by_fresh : (o : Option ℕ) → fitting flash s (length (entry_bytes e)) s.current ≡ None → lowest_clean 0 s.regions ≡ o → PutDoes config flash older e s (put_fresh flash e s o)
  put_by_fresh None f l = put_none f l
  put_by_fresh (Some r) f l = put_new r f l

  put_by : (o : Option ℕ) → fitting flash s (length (entry_bytes e)) s.current ≡ o → PutDoes config flash older e s (put_into flash e s o)
  put_by None f = put_by_fresh (lowest_clean 0 s.regions) f refl
  put_by (Some r) f = put_in_use r f

  put_does : PutDoes config flash older e s (put flash e s)
  put_does = put_by (fitting flash s (length (entry_bytes e)) s.current) refl

pub put_tells : PutTells
put_tells config flash older e s here some waits b m small large t sound fits reads = record {
  lawful = d.out.lawful;
  tells = d.out.tells;
  sound = d.leaves.sound;
  fits = d.leaves.rest.fits;
  reads = d.leaves.rest.reads;
  holds = d.leaves.holds;
  pages = d.out.pages;
  entries = d.out.entries;
  once = d.out.once;
  way = d.way refl;
  index = d.leaves.index;
  others = record { works = λ n o. ap (work_of n) d.leaves.jobs; written = λ n r bytes o w. d.leaves.written r };
  order = d.order;
}
  where
    d : PutDoes config flash older e s (put flash e s)
    d = put_does config flash older e s (record { flash_is = here; waits = waits; put = put-is flash older e b m small }) some large t sound (record { fits = fits; reads = reads })
