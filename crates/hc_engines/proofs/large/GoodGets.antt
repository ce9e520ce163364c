-- The engine is good after a get began, went on, ended, or couldn't read; and what a get answers is what is held.
use Rattle.std.proofs.Common.{◌≡◌, ℕ, ◌+◌, ◌<◌, ◌≤◌, Bool, true, false, List, [], ◌∷◌, min, Option, Some, None, refl, sym, ap, subst, arith, ◌∙◌, append-nil}
use Rattle.std.proofs.lemmas.Bool.{ltb-true, ltb-false}
use Rattle.std.proofs.lemmas.List.{set-get_or}
use Rattle.std.proofs.Math.Nat.{min-le_left}
use Rattle.std.specs.Prelude.{if◌then◌else◌, ◌==◌, is_some, nat_lt}
use Rattle.hc_types.specs.declared.config.FlashConfig.{FlashConfig}
use Rattle.hc_types.specs.Places.{kept_of}
use Rattle.hc_types.specs.Loss.{Fault}
use Rattle.hc_engines.specs.Engine.{Order, Answer, Absent, Pages, nothing, outcome_of}
use Rattle.hc_engines.specs.large.Region.{is_clean, clean_region, region_at, page_no}
use Rattle.hc_engines.specs.large.Index.{Place, place_at, is_place}
use Rattle.hc_engines.specs.large.Block.{Reading, Getting, Block, Moved, finished, work_of, without_job, end_job}
use Rattle.hc_engines.specs.large.Steps.{lost, first_page, end_page, reading_of, pinned, read_next, answered, let_go, get_at, unreadable, absent, take_index}
use Rattle.hc_engines.specs.large.Sound.{readers, WorkHolds}
use Rattle.hc_engines.specs.large.Held.{bytes_of, held}
use Rattle.hc_engines.specs.large.Fits.{ReadHolds, answer_by}
use Rattle.hc_engines.specs.large.Good.{Good}
use Rattle.hc_engines.specs.large.Steady.{IsReadable, Reads, Begun, GetKeeps, Went, ReadKeeps, Stopped, FailedReadKeeps}
use Rattle.hc_engines.proofs.large.Lists.{in_range, place_itself}
use Rattle.hc_engines.proofs.large.Jobs.{work_added, works_left, work_holds}
use Rattle.hc_engines.proofs.large.Fitting.{pages_long}
use Rattle.hc_engines.proofs.large.Promise.{read_begins, read_at_once, answers_held, absent_held, read_stays, read_more}
use Rattle.hc_engines.proofs.large.Goods.{Others, reads_stay}
use Rattle.hc_engines.proofs.large.Stays.{reads_added, reads_left}
use Rattle.hc_engines.proofs.large.GetStays.{indexed_live, start_rest, let_go_rest, read_unclean, take_sound, take_rest}
use Rattle.hc_engines.proofs.large.Flushes.{live_unclean}
use Rattle.hc_engines.proofs.large.ReadEnds.{set_held, let_go_held, taken_held, let_go_is, page_there, last_read}
use Rattle.hc_engines.specs.large.Unread.{read_on}
use Rattle.hc_engines.proofs.large.GetStays.{own_read}
use Rattle.hc_engines.proofs.large.GetsSound.{begins_sound, on_sound, let_go_sound}
use Rattle.hc_engines.proofs.large.GoodSteps.{good_by, rest_of}

-- the page that a read goes on with is known
known_read : (flash : FlashConfig) (pages : Pages) (number : ℕ) (reading : Reading) (t : Block) → 0 < flash.page → Good flash pages (read_next flash number reading t).state → IsReadable pages (read_next flash number reading t).order
known_read flash pages number reading t some g =
    let at : work_of number (read_next flash number reading t).state.jobs ≡ Some (Getting reading) = work_added number (Getting reading) t.jobs in
    let u = read_unclean flash number reading (read_next flash number reading t).state g.sound at in
    let w = work_holds flash t.regions number (Getting reading) (read_next flash number reading t).state.jobs g.sound.works at in
    page_there (pages (page_no flash reading.place.region reading.next)) flash.page some (g.fits.known reading.place.region reading.next u (omega (arith, w.0, w.1)))

reads_on : (flash : FlashConfig) (pages : Pages) (number : ℕ) (reading : Reading) (s t : Block) → 0 < flash.page → Good flash pages (read_next flash number reading t).state → ((other : List ℕ) → held flash pages (read_next flash number reading t).state other ≡ held flash pages s other)
    → Reads flash pages s (read_next flash number reading t)
reads_on flash pages number reading s t some g same = record { good = g; same = same; losses = refl; known = known_read flash pages number reading t some g; goes_on = λ h. refl }

at_once : (flash : FlashConfig) (pages : Pages) (s : Block) (answer : Answer) → Good flash pages s → Reads flash pages s (finished s (record nothing { answer = answer }))
at_once flash pages s answer g = record { good = g; same = λ other. refl; losses = refl; known = tt; goes_on = λ h. absurd cc }

-- ---- a get begins

pub get_keeps : GetKeeps
get_keeps flash pages number key s free some g = go (place_at (kept_of flash.bits key) s.index) refl
  where
    begun : (p : Place) → place_at (kept_of flash.bits key) s.index ≡ Some p → (t : Bool) → nat_lt (first_page flash p) (min (region_at p.region s.regions).written (end_page flash p)) ≡ t
        → Begun flash pages key s (if t then read_next flash number (reading_of flash key p s) (pinned p.region s) else answered flash (reading_of flash key p s) s)
    begun p e true t =
        let live = indexed_live flash s (kept_of flash.bits key) p g.sound e in
        let u = live_unclean (region_at p.region s.regions).status live in
        let holds = read_begins flash pages s key (kept_of flash.bits key) p g.fits u some e in
        let below = ltb-true (first_page flash p) (min (region_at p.region s.regions).written (end_page flash p)) t in
        let new = (read_next flash number (reading_of flash key p s) (pinned p.region s)).state in
        record {
          reads = reads_on flash pages number (reading_of flash key p s) s (pinned p.region s) some (good_by flash pages new (begins_sound flash number (reading_of flash key p s) s g.sound free u below (min-le_left (region_at p.region s.regions).written (end_page flash p)))
              (start_rest flash pages number (reading_of flash key p s) s g.sound (rest_of flash pages s g) live holds below))
              (set_held flash pages s new p.region (record (region_at p.region s.regions) { pins = (region_at p.region s.regions).pins + 1 }) g.sound g.fits (in_range s.regions p.region u) refl refl (λ live. (refl, refl)));
          right = λ none. absurd (cc);
        }
    begun p e false t =
        let live = indexed_live flash s (kept_of flash.bits key) p g.sound e in
        let u = live_unclean (region_at p.region s.regions).status live in
        let holds = read_begins flash pages s key (kept_of flash.bits key) p g.fits u some e in
        let few = ltb-false (first_page flash p) (min (region_at p.region s.regions).written (end_page flash p)) t in
        let long = pages_long flash pages p.region (min (region_at p.region s.regions).written (end_page flash p)) (λ i lt. g.fits.known p.region i u (omega (arith, min-le_left (region_at p.region s.regions).written (end_page flash p)))) in
        let read = read_at_once flash pages s (reading_of flash key p s) holds live refl few long in
        let same : answered flash (reading_of flash key p s) s ≡ finished s (record nothing { answer = answer_by (held flash pages s key) }) =
        answers_held flash pages s (reading_of flash key p s) g.fits read (still p e) in
        subst (λ (m : Moved). Begun flash pages key s m) (sym same) (record { reads = at_once flash pages s _ g; right = λ none. refl })
      where
        still : (p : Place) → place_at (kept_of flash.bits key) s.index ≡ Some p → is_place (place_at (kept_of flash.bits key) s.index) p ≡ true
        still p e = rw e (place_itself p)

    go : (o : Option Place) → place_at (kept_of flash.bits key) s.index ≡ o → Begun flash pages key s (get_at flash number key o s)
    go None e = record {
      reads = at_once flash pages s Absent g;
      right = λ none. ap (λ a. finished s (record nothing { answer = answer_by a })) (sym (absent_held flash pages s key e));
    }
    go (Some p) e = begun p e (nat_lt (first_page flash p) (min (region_at p.region s.regions).written (end_page flash p))) refl

-- ---- a page was read

not_on : (o : Option Order) → o ≡ None → is_some o ≡ true → ⊥
not_on None e h = absurd cc
not_on (Some order) e h = absurd cc

-- what a get answers at its end
abbrev answer_at_end : FlashConfig → Pages → Reading → Block → Answer
answer_at_end flash pages reading s = if is_place (place_at (kept_of flash.bits reading.key) s.index) reading.place then answer_by (held flash pages s reading.key) else Absent

pub read_keeps : ReadKeeps
read_keeps flash pages number reading bytes s some at honest g = go (nat_lt (reading.next + 1) reading.until) refl
  where
    u : is_clean (region_at reading.place.region s.regions).status ≡ false
    u = read_unclean flash number reading s g.sound at

    w : WorkHolds flash s.regions (Getting reading)
    w = work_holds flash s.regions number (Getting reading) s.jobs g.sound.works at

    holds : ReadHolds flash pages s (read_on reading bytes)
    holds = read_more flash pages s reading bytes (own_read flash pages number reading s s.jobs g.reads at) honest

    goes : nat_lt (reading.next + 1) reading.until ≡ true → Good flash pages (read_next flash number (read_on reading bytes) (end_job number s)).state
    goes t =
        let below = ltb-true (reading.next + 1) reading.until t in
        let new = (read_next flash number (read_on reading bytes) (end_job number s)).state in
        let fits = g.fits in
        let others : Others flash pages pages reading.place.region (region_at reading.place.region s.regions) s new (0 < readers reading.place.region (without_job number s.jobs)) = record {
          there = in_range s.regions reading.place.region u;
          regions = sym (set-get_or s.regions reading.place.region clean_region);
          same = λ q i l. refl;
          grows = λ n l. (l, record { more = []; grown = sym (append-nil (bytes_of flash pages s reading.place.region)) });
        } in
        good_by flash pages new (on_sound flash number reading bytes s g.sound at below) (record {
          fits = record { known = fits.known; within = fits.within; places = λ h p e. let k = fits.places h p e in record { entry = k.entry; read = k.read; own = k.own; within = k.within } };
          reads = reads_added flash pages new number (Getting (read_on reading bytes)) (without_job number s.jobs)
              (read_stays flash pages pages s new (read_on reading bytes) holds (omega arith) (λ i lt. refl) (λ l. (l, record { more = []; grown = sym (append-nil (bytes_of flash pages s reading.place.region)) })))
              (reads_stay flash pages pages reading.place.region (region_at reading.place.region s.regions) s new (without_job number s.jobs) others (works_left flash s.regions number s.jobs g.sound.works) (reads_left flash pages s number s.jobs g.reads));
        })

    -- the last page was read
    answers : reading.until ≤ reading.next + 1 → answered flash (read_on reading bytes) (end_job number s) ≡ finished (end_job number s) (outcome_of (answer_at_end flash pages reading s) [])
    answers last = by (is_place (place_at (kept_of flash.bits reading.key) s.index) reading.place) refl
      where
        by : (t : Bool) → is_place (place_at (kept_of flash.bits reading.key) s.index) reading.place ≡ t → answered flash (read_on reading bytes) (end_job number s) ≡ finished (end_job number s) (outcome_of (answer_at_end flash pages reading s) [])
        by false t = rw t refl
        by true t = last_read flash pages number reading bytes s g.sound g.fits g.reads at honest last t ∙ rw t refl

    ends : reading.until ≤ reading.next + 1 → Went flash pages reading s (let_go reading.place.region (answered flash (read_on reading bytes) (end_job number s)))
    ends last =
        let o = outcome_of (answer_at_end flash pages reading s) [] in
        let over : Went flash pages reading s (let_go reading.place.region (finished (end_job number s) o)) = record {
          reads = record {
            good = good_by flash pages _ (let_go_sound flash number reading s o g.sound at) (let_go_rest flash pages number reading s o g.sound at (rest_of flash pages s g));
            same = let_go_held flash pages number reading s g.sound g.fits at o;
            losses = (let_go_is reading.place.region (end_job number s) o).losses;
            known = rw (let_go_is reading.place.region (end_job number s) o).order tt;
            goes_on = λ h. absurd (not_on _ (let_go_is reading.place.region (end_job number s) o).order h);
          };
          right = λ none. (let_go_is reading.place.region (end_job number s) o).answer;
        } in
        subst (λ (m : Moved). Went flash pages reading s (let_go reading.place.region m)) (sym (answers last)) over

    go : (t : Bool) → nat_lt (reading.next + 1) reading.until ≡ t
        → Went flash pages reading s (if t then read_next flash number (read_on reading bytes) (end_job number s) else let_go reading.place.region (answered flash (read_on reading bytes) (end_job number s)))
    go true t = record { reads = reads_on flash pages number (read_on reading bytes) s (end_job number s) some (goes t) (λ other. refl); right = λ none. absurd (cc) }
    go false t = ends (ltb-false (reading.next + 1) reading.until t)

-- ---- a page couldn't be read

pub failed_read_keeps : FailedReadKeeps
failed_read_keeps flash pages number reading s at g = go (is_place (place_at (kept_of flash.bits reading.key) s.index) reading.place) refl
  where
    hash : ℕ
    hash = kept_of flash.bits reading.key

    stays : is_place (place_at (kept_of flash.bits reading.key) s.index) reading.place ≡ false → Stopped flash pages reading s (let_go reading.place.region (absent (end_job number s)))
    stays t =
        let o = outcome_of Absent [] in
        let told = let_go_is reading.place.region (end_job number s) o in
        record {
          good = good_by flash pages _ (let_go_sound flash number reading s o g.sound at) (let_go_rest flash pages number reading s o g.sound at (rest_of flash pages s g));
          holds = λ other. rw told.losses (let_go_held flash pages number reading s g.sound g.fits at o other);
          losses = told.losses ∙ rw t refl;
          absent = told.answer;
          over = told.order;
        }

    takes : is_place (place_at (kept_of flash.bits reading.key) s.index) reading.place ≡ true → Stopped flash pages reading s (let_go reading.place.region (unreadable (kept_of flash.bits reading.key) (end_job number s)))
    takes here =
        let o = outcome_of Absent (lost Fault (kept_of flash.bits reading.key ∷ [])) in
        let t = take_index (kept_of flash.bits reading.key) s in
        let told = let_go_is reading.place.region (end_job number t) o in
        record {
          good = good_by flash pages _ (let_go_sound flash number reading t o (take_sound flash (kept_of flash.bits reading.key) s g.sound) at)
              (let_go_rest flash pages number reading t o (take_sound flash (kept_of flash.bits reading.key) s g.sound) at (take_rest flash pages (kept_of flash.bits reading.key) s (rest_of flash pages s g)));
          holds = λ other. rw told.losses (taken_held flash pages number reading s g.sound g.fits at o (kept_of flash.bits reading.key) other
              ∙ turned (kept_of flash.bits other) (kept_of flash.bits reading.key) (held flash pages s other));
          losses = told.losses ∙ rw here refl;
          absent = told.answer;
          over = told.order;
        }
      where
        turned : {A : Type 0} (a b : ℕ) (o : Option A) → (if a == b then None else o) ≡ (if (if b == a then true else false) then None else o)
        turned a b o = grind arith

    go : (t : Bool) → is_place (place_at (kept_of flash.bits reading.key) s.index) reading.place ≡ t
        → Stopped flash pages reading s (let_go reading.place.region (if t then unreadable (kept_of flash.bits reading.key) (end_job number s) else absent (end_job number s)))
    go false t = stays t
    go true t = takes t
