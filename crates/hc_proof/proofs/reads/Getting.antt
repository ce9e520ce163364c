-- A get of the large engine begins.
use Rattle.std.proofs.Common.{◌≡◌, ℕ, ◌+◌, ◌<◌, ◌≤◌, ◌==◌, Bool, true, false, List, length, Option, Some, None, refl, sym, ap, subst, arith, inl, inr}
use Rattle.std.proofs.lemmas.Bool.{eqb-true, ltb-true, ltb-false}
use Rattle.std.proofs.Math.Nat.{min-le_left}
use Rattle.std.specs.Prelude.{if◌then◌else◌, nat_lt, min, IsSome, ◌⊎◌}
use Rattle.hc_types.specs.Places.{kept_of}
use Rattle.hc_types.specs.declared.config.FlashConfig.{FlashConfig}
use Rattle.hc_engines.specs.Engine.{nothing}
use Rattle.hc_engines.specs.large.Region.{is_clean, Region, region_at, page_no}
use Rattle.hc_engines.specs.large.Index.{Place, place_at, is_place}
use Rattle.hc_engines.specs.large.Block.{Reading, Getting, Block, Moved, finished}
use Rattle.hc_engines.specs.large.Steps.{first_page, end_page, reading_of, answered, read_next, pinned, get_at, get}
use Rattle.hc_engines.specs.large.Held.{bytes_or_none, held}
use Rattle.hc_engines.specs.large.Sound.{is_live}
use Rattle.hc_engines.specs.large.Fits.{Fits, ReadHolds, ReadsHold, answer_by}
use Rattle.hc_engines.specs.large.Laws.{IsFree}
use Rattle.hc_engines.proofs.large.Lists.{same_num, in_range, place_itself, region_at-set}
use Rattle.hc_engines.proofs.large.Fitting.{Grows, pages_long, same_region}
use Rattle.hc_engines.proofs.large.Promise.{read_begins, read_at_once, answers_held, absent_held, read_stays}
use Rattle.hc_engines.proofs.large.Stays.{reads_added, out_rest}
use Rattle.hc_engines.proofs.large.GetStays.{indexed_live}
use Rattle.hc_engines.proofs.large.Flushes.{live_unclean}
use Rattle.hc_engines.proofs.large.Holding.{held_same}
use Rattle.hc_history.specs.Note.{Note}
use Rattle.hc_history.specs.Pages.{bytes_at}
use Rattle.hc_proof.specs.books.RegionBooks.{LargeFits, but, GetTells, GetReads, GetGives}
use Rattle.hc_proof.proofs.books.Changing.{changed_regions, others_same, work-added}
use Rattle.hc_engines.proofs.large.Jobs.{work_added}
use Rattle.hc_proof.proofs.writes.Flushing.{Leaves, quiet_keeps}
use Rattle.hc_engines.proofs.large.GetsSound.{begins_sound}

-- a page of a region that isn't clean is known where it is written
pub known_page : (flash : FlashConfig) (pages : ℕ → Option (List ℕ)) (s : Block) (r i : ℕ) → 0 < flash.page → Fits flash pages s → is_clean (region_at r s.regions).status ≡ false → i < (region_at r s.regions).written → IsSome (pages (page_no flash r i))
known_page flash pages s r i some fits u lt = known (pages (page_no flash r i)) (fits.known r i u lt)
  where
    known : (o : Option (List ℕ)) → length (bytes_or_none o) ≡ flash.page → IsSome o
    known None e = absurd (let z : 0 ≡ flash.page = e in omega arith)
    known (Some bytes) e = refl

abbrev pub pinned_region : ℕ → Block → Region
pinned_region r s = record (region_at r s.regions) { pins = (region_at r s.regions).pins + 1 }

begins_leaves : (flash : FlashConfig) (older : List Note) (number : ℕ) (reading : Reading) (s : Block) → LargeFits flash older s → IsFree number s → is_live (region_at reading.place.region s.regions).status ≡ true → ReadHolds flash (bytes_at older) s reading
    → reading.next < reading.until → reading.until ≤ (region_at reading.place.region s.regions).written → Leaves flash older number s (read_next flash number reading (pinned reading.place.region s)).state
begins_leaves flash older number reading s f free live h below within = record {
  fit = record {
    sound = begins_sound flash number reading s f.sound free u below within;
    fits = rest.0;
    reads = reads_added flash (bytes_at older) new number (Getting reading) s.jobs (read_stays flash (bytes_at older) (bytes_at older) s new reading h (omega arith) (λ i lt. refl) (λ l. (live, same))) rest.1;
    regions = changed_regions flash older r x s new f.regions there refl refl refl refl refl (λ c. refl);
  };
  held = held_same flash (bytes_at older) (bytes_at older) s new f.fits refl (λ h p e. grows p.region (p.region == r) refl);
  index = refl;
  others = others_same (but number) r x s new there refl refl (λ n o. work-added number n (Getting reading) s.jobs o);
}
  where
    r : ℕ
    r = reading.place.region

    x : Region
    x = pinned_region reading.place.region s

    new : Block
    new = (read_next flash number reading (pinned reading.place.region s)).state

    u : is_clean (region_at reading.place.region s.regions).status ≡ false
    u = live_unclean (region_at reading.place.region s.regions).status live

    there : reading.place.region < length s.regions
    there = in_range s.regions reading.place.region u

    rest : Fits flash (bytes_at older) (read_next flash number reading (pinned reading.place.region s)).state × ReadsHold flash (bytes_at older) (read_next flash number reading (pinned reading.place.region s)).state s.jobs
    rest = out_rest flash (bytes_at older) reading.place.region (pinned_region reading.place.region s) s (read_next flash number reading (pinned reading.place.region s)).state s.jobs live u refl refl refl refl f.sound.works f.fits f.reads

    same : Grows flash (bytes_at older) (bytes_at older) s (read_next flash number reading (pinned reading.place.region s)).state reading.place.region
    same = same_region flash (bytes_at older) s (read_next flash number reading (pinned reading.place.region s)).state reading.place.region
        (rw (region_at-set s.regions reading.place.region reading.place.region (pinned_region reading.place.region s) there, same_num reading.place.region) refl) (rw (region_at-set s.regions reading.place.region reading.place.region (pinned_region reading.place.region s) there, same_num reading.place.region) refl)

    grows : (q : ℕ) (t : Bool) → (q == reading.place.region) ≡ t → Grows flash (bytes_at older) (bytes_at older) s (read_next flash number reading (pinned reading.place.region s)).state q
    grows q true t = let e : q ≡ reading.place.region = eqb-true q reading.place.region t in subst (λ (z : ℕ). Grows flash (bytes_at older) (bytes_at older) s (read_next flash number reading (pinned reading.place.region s)).state z) (sym e) same
    grows q false t = same_region flash (bytes_at older) s (read_next flash number reading (pinned reading.place.region s)).state q (rw (region_at-set s.regions reading.place.region q (pinned_region reading.place.region s) there, t) refl) (rw (region_at-set s.regions reading.place.region q (pinned_region reading.place.region s) there, t) refl)

-- what a get comes to
record GetDoes (flash : FlashConfig) (older : List Note) (number : ℕ) (key : List ℕ) (s : Block) (moved : Moved) : Type 0 where
  leaves : Leaves flash older number s moved.state
  gives : GetReads flash older number key s moved ⊎ (moved ≡ finished s (record nothing { answer = answer_by (held flash (bytes_at older) s key) }))

at_once : (flash : FlashConfig) (older : List Note) (number : ℕ) (key : List ℕ) (s : Block) (moved : Moved) → LargeFits flash older s → moved ≡ finished s (record nothing { answer = answer_by (held flash (bytes_at older) s key) }) → GetDoes flash older number key s moved
at_once flash older number key s moved f e = record {
  leaves = subst (λ (m : Moved). Leaves flash older number s m.state) (sym e) (record { fit = f; held = λ k. refl; index = refl; others = record { works = λ n o. refl; written = λ n r bytes o w. refl } });
  gives = inr e;
}

get_does : (flash : FlashConfig) (older : List Note) (number : ℕ) (key : List ℕ) (s : Block) → 0 < flash.page → IsFree number s → LargeFits flash older s → GetDoes flash older number key s (get flash number key s)
get_does flash older number key s some free f = go (place_at (kept_of flash.bits key) s.index) refl
  where
    still : (p : Place) → place_at (kept_of flash.bits key) s.index ≡ Some p → is_place (place_at (kept_of flash.bits key) s.index) p ≡ true
    still p e = rw e (place_itself p)

    begun : (p : Place) → place_at (kept_of flash.bits key) s.index ≡ Some p → (t : Bool) → nat_lt (first_page flash p) (min (region_at p.region s.regions).written (end_page flash p)) ≡ t
        → GetDoes flash older number key s (if t then read_next flash number (reading_of flash key p s) (pinned p.region s) else answered flash (reading_of flash key p s) s)
    begun p e true t =
        let live = indexed_live flash s (kept_of flash.bits key) p f.sound e in
        let u = live_unclean (region_at p.region s.regions).status live in
        let holds = read_begins flash (bytes_at older) s key (kept_of flash.bits key) p f.fits u some e in
        let below = ltb-true (first_page flash p) (min (region_at p.region s.regions).written (end_page flash p)) t in
        let within = min-le_left (region_at p.region s.regions).written (end_page flash p) in
        record {
          leaves = begins_leaves flash older number (reading_of flash key p s) s f free live holds below within;
          gives = inl (record {
            page = record {
              reading = reading_of flash key p s;
              key_is = refl;
              work = work_added number (Getting (reading_of flash key p s)) s.jobs;
              order = refl;
              outcome = refl;
              known = known_page flash (bytes_at older) s p.region (first_page flash p) some f.fits u (omega (arith, below, within));
            };
            leads = still p e;
          });
        }
    begun p e false t =
        let live = indexed_live flash s (kept_of flash.bits key) p f.sound e in
        let u = live_unclean (region_at p.region s.regions).status live in
        let holds = read_begins flash (bytes_at older) s key (kept_of flash.bits key) p f.fits u some e in
        let few = ltb-false (first_page flash p) (min (region_at p.region s.regions).written (end_page flash p)) t in
        let long = pages_long flash (bytes_at older) p.region (min (region_at p.region s.regions).written (end_page flash p)) (λ i lt. f.fits.known p.region i u (omega (arith, min-le_left (region_at p.region s.regions).written (end_page flash p)))) in
        let read = read_at_once flash (bytes_at older) s (reading_of flash key p s) holds live refl few long in
        at_once flash older number key s (answered flash (reading_of flash key p s) s) f (answers_held flash (bytes_at older) s (reading_of flash key p s) f.fits read (still p e))

    go : (o : Option Place) → place_at (kept_of flash.bits key) s.index ≡ o → GetDoes flash older number key s (get_at flash number key o s)
    go None e = at_once flash older number key s (get_at flash number key None s) f (ap (λ a. finished s (record nothing { answer = answer_by a })) (sym (absent_held flash (bytes_at older) s key e)))
    go (Some p) e = begun p e (nat_lt (first_page flash p) (min (region_at p.region s.regions).written (end_page flash p))) refl

pub get_tells : GetTells
get_tells config flash older number key s here some free f = quiet_keeps config flash older number s (get flash number key s).state (get_does flash older number key s some free f).leaves

pub get_gives : GetGives
get_gives flash older number key s some free f = ((get_does flash older number key s some free f).leaves.others, (get_does flash older number key s some free f).gives)
