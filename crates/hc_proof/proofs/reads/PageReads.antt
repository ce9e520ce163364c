-- A page was read for a get, or its read failed.
use Rattle.std.proofs.Common.{◌≡◌, ℕ, ◌+◌, ◌<◌, ◌≤◌, ◌==◌, ◌&&◌, Bool, true, false, List, [], ◌∷◌, ◌++◌, length, Option, Some, None, refl, sym, ap, subst, arith, ◌∙◌, append-nil, inl, inr}
use Rattle.std.proofs.lemmas.Bool.{ltb-true, ltb-false}
use Rattle.std.proofs.lemmas.List.{set-get_or}
use Rattle.std.specs.Prelude.{if◌then◌else◌, nat_lt, IsSome, ◌⊎◌}
use Rattle.hc_types.specs.Config.{Config}
use Rattle.hc_types.specs.Loss.{Hash, Fault}
use Rattle.hc_types.specs.Tally.{count}
use Rattle.hc_types.specs.Places.{kept_of}
use Rattle.hc_types.specs.declared.config.FlashConfig.{FlashConfig}
use Rattle.hc_types.specs.FlashEntry.{FlashEntry}
use Rattle.hc_engines.specs.large.Region.{is_clean, is_draining, clean_region, Region, region_at}
use Rattle.hc_engines.specs.large.Index.{place_at, is_place, region_in}
use Rattle.hc_engines.specs.large.Block.{Reading, Getting, Block, Moved, finished, work_of, without_job, end_job}
use Rattle.hc_engines.specs.large.Steps.{lost, answered, absent, unreadable, read_next, let_go, resume, take_index}
use Rattle.hc_engines.specs.large.Numbers.{is_in}
use Rattle.hc_engines.specs.large.Held.{bytes_of, held}
use Rattle.hc_engines.specs.large.Sound.{readers, Sound}
use Rattle.hc_engines.specs.large.Fits.{ReadHolds, answer_by}
use Rattle.hc_engines.proofs.large.Lists.{same_num, in_range, place_at-without}
use Rattle.hc_engines.proofs.large.Jobs.{work_added, works_left, work_holds}
use Rattle.hc_engines.proofs.large.Goods.{Others, reads_stay}
use Rattle.hc_engines.proofs.large.Promise.{is-place, read_stays, read_more}
use Rattle.hc_engines.proofs.large.Stays.{Rest, reads_added, reads_left}
use Rattle.hc_engines.proofs.large.GetStays.{read_unclean}
use Rattle.hc_engines.proofs.large.Holding.{held_taken}
use Rattle.hc_engines.proofs.large.ReadEnds.{let_go_held, LetGo, let_go_is, last_read}
use Rattle.hc_engines.proofs.large.GetsSound.{on_sound}
use Rattle.hc_engines.specs.large.Unread.{read_on}
use Rattle.hc_engines.proofs.large.GetStays.{own_read}
use Rattle.hc_history.specs.Note.{Note, Lose, Read as WasRead, Cleared}
use Rattle.hc_history.specs.Pages.{bytes_at, bucket_entries}
use Rattle.hc_history.specs.Regions.{filed}
use Rattle.hc_types.specs.Places.{is_page_of}
use Rattle.hc_engines.specs.Engine.{Answer, Absent, Page, Failed, outcome_of}
use Rattle.hc_history.specs.Lawful.{Allowed, past}
use Rattle.hc_history.proofs.Appended.{past-append}
use Rattle.hc_machine.specs.Takes.{region_note}
use Rattle.hc_invariant.specs.Tells.{RegionsTell, files}
use Rattle.hc_invariant.specs.Laws.{LawfulIn}
use Rattle.hc_invariant.proofs.Pieces.{pieces-both}
use Rattle.hc_proof.specs.books.RegionBooks.{LargeFits, LargeKeeps, OthersStay, but, told, IsOver, ReadTells, GoesOnReading, ReadIsOver, ReadGives, FailedReadTells, ReadFails, FailedReadGives}
use Rattle.hc_engines.specs.large.Laws.{read_page}
use Rattle.hc_invariant.specs.Good.{OneFlush}
use Rattle.hc_proof.proofs.books.Filings.{as-without, as-there}
use Rattle.hc_engines.proofs.large.GetStays.{take_sound}
use Rattle.hc_engines.proofs.large.GetStays.{take_rest}
use Rattle.hc_proof.proofs.books.Changing.{work-added, work-without}
use Rattle.hc_proof.proofs.books.Ending.{closes, over_pages, held_over, lose_all, losses_but, SameBut, loses-all}
use Rattle.hc_proof.proofs.writes.Failing.{page-is, fault_allowed}
use Rattle.hc_proof.proofs.reads.LettingGo.{Gone, let_go_does}
use Rattle.hc_proof.proofs.reads.Getting.{known_page}

read_allowed : (config : Config) (flash : FlashConfig) (older rest : List Note) (page : ℕ) (result : Option (List ℕ)) → config.flash ≡ Some flash → IsSome (bytes_at older page) → Allowed config older (WasRead page result) rest
read_allowed config flash older rest page result here known = rw here known

-- the page that a read is of is known, and is one of its region
pub record ReadKnown (flash : FlashConfig) (older : List Note) (reading : Reading) (s : Block) : Type 0 where
  pub known : IsSome (bytes_at older (read_page flash reading))
  pub there : reading.place.region < length s.regions
  pub own : is_page_of flash reading.place.region (read_page flash reading) ≡ true
  pub unclean : is_clean (region_at reading.place.region s.regions).status ≡ false
  pub next : reading.next < reading.until
  pub until : reading.until ≤ (region_at reading.place.region s.regions).written

pub read_known : (flash : FlashConfig) (older : List Note) (number : ℕ) (reading : Reading) (s : Block) → 0 < flash.page → work_of number s.jobs ≡ Some (Getting reading) → LargeFits flash older s → ReadKnown flash older reading s
read_known flash older number reading s some at f =
    let u = read_unclean flash number reading s f.sound at in
    let w = work_holds flash s.regions number (Getting reading) s.jobs f.sound.works at in
    let lt : reading.next < flash.region_pages = omega (arith, w.0, w.1, f.fits.within reading.place.region) in
    record {
      known = known_page flash (bytes_at older) s reading.place.region reading.next some f.fits u (omega (arith, w.0, w.1));
      there = in_range s.regions reading.place.region u;
      own = page-is flash reading.place.region reading.place.region reading.next lt ∙ same_num reading.place.region;
      unclean = u;
      next = w.0;
      until = w.1;
    }

-- ---- a read is over

-- where the read's region is let go, nothing else is told than that it is clean
told-gone : (r : ℕ) (s : Block) (a : Answer) (hashes : List ℕ) → told (let_go r (finished s (outcome_of a (lost Fault hashes)))).outcome ≡ lose_all Fault hashes ++ region_note Cleared (let_go r (finished s (outcome_of a (lost Fault hashes)))).outcome.cleared
told-gone r s a hashes = go (is_draining (region_at r s.regions).status && ((region_at r s.regions).pins == 1)) refl
  where
    go : (t : Bool) → (is_draining (region_at r s.regions).status && ((region_at r s.regions).pins == 1)) ≡ t → told (let_go r (finished s (outcome_of a (lost Fault hashes)))).outcome ≡ lose_all Fault hashes ++ region_note Cleared (let_go r (finished s (outcome_of a (lost Fault hashes)))).outcome.cleared
    go true t = rw t refl
    go false t = rw t refl

-- what a read that is over comes to, which loses these hashes
record OverDoes (config : Config) (flash : FlashConfig) (older : List Note) (number page : ℕ) (result : Option (List ℕ)) (s : Block) (a : Answer) (hashes : List ℕ) (moved : Moved) : Type 0 where
  keeps : LargeKeeps config flash older (WasRead page result ∷ told moved.outcome) s moved.state
  others : OthersStay (but number) s moved.state
  over : IsOver number moved
  answer : moved.outcome.answer ≡ a
  losses : moved.outcome.losses ≡ lost Fault hashes

-- the state behind the losses
record Behind (config : Config) (flash : FlashConfig) (older : List Note) (page : ℕ) (result : Option (List ℕ)) (number : ℕ) (reading : Reading) (s t : Block) (hashes : List ℕ) : Type 0 where
  known : IsSome (bytes_at older page)
  lawful : (tail : List Note) → LawfulIn config (WasRead page result ∷ older) (lose_all Fault hashes) tail
  sound : Sound flash t
  rest : Rest flash (bytes_at older) t
  regions : RegionsTell flash (past (WasRead page result ∷ older) (lose_all Fault hashes)) t
  work : work_of number t.jobs ≡ Some (Getting reading)
  held : (key : List ℕ) → held flash (bytes_at older) t key ≡ (if is_in (kept_of flash.bits key) hashes then None else held flash (bytes_at older) s key)
  index : (hash : ℕ) → place_at hash t.index ≡ (if is_in hash hashes then None else place_at hash s.index)
  same_regions : t.regions ≡ s.regions
  same_jobs : t.jobs ≡ s.jobs

over_does : (config : Config) (flash : FlashConfig) (older : List Note) (page : ℕ) (result : Option (List ℕ)) (number : ℕ) (reading : Reading) (s t : Block) (a : Answer) (hashes : List ℕ) → config.flash ≡ Some flash → Behind config flash older page result number reading s t hashes
    → OverDoes config flash older number page result s a hashes (let_go reading.place.region (finished (end_job number t) (outcome_of a (lost Fault hashes))))
over_does config flash older page result number reading s t a hashes here b = record {
  keeps = subst (λ (part : List Note). LargeKeeps config flash older (WasRead page result ∷ part) s moved.state) (sym (told-gone reading.place.region (end_job number t) a hashes)) (record {
    lawful = closes config older (WasRead page result ∷ part) (lawful_in []);
    lawful_in = lawful_in;
    fit = record {
      sound = g.sound;
      fits = rest.fits;
      reads = rest.reads;
      regions = subst (λ (later : List Note). RegionsTell flash later moved.state) (sym joined) g.regions;
    };
    held = λ key.
        held_over flash (bytes_at older) (bytes_at (past older (WasRead page result ∷ part))) moved.state key pages
        ∙ let_go_held flash (bytes_at older) number reading t b.sound b.rest.fits b.work (outcome_of a (lost Fault hashes)) key
        ∙ b.held key ∙ ap (λ (c : Bool). if c then None else held flash (bytes_at older) s key) (sym (loses-all (kept_of flash.bits key) Fault hashes cleared));
    index = λ hash. ap (place_at hash) g.index ∙ b.index hash ∙ ap (λ (c : Bool). if c then None else place_at hash s.index) (sym (loses-all hash Fault hashes cleared));
    pages = λ page lt. ap (λ (pages : ℕ → Option (List ℕ)). pages page) pages;
    entries = λ bucket lt. ap (λ (entries : ℕ → List FlashEntry). entries bucket) (ap (bucket_entries flash) joined ∙ g.entries ∙ but_so.entries);
    once = λ once. subst OneFlush (sym joined) (g.once (subst (λ (xs : List ℕ). (q : ℕ) → count (λ (x : ℕ). x == q) xs ≤ 1) (sym but_so.flushed) once));
  });
  others = record {
    works = λ n o. g.others.works n o ∙ ap (work_of n) b.same_jobs;
    written = λ n r bytes o w. g.others.written n r bytes o (ap (work_of n) b.same_jobs ∙ w) ∙ ap (λ (regions : List Region). (region_at r regions).written) b.same_regions;
  };
  over = g.over;
  answer = let_go_answer.answer;
  losses = let_go_answer.losses;
}
  where
    moved : Moved
    moved = let_go reading.place.region (finished (end_job number t) (outcome_of a (lost Fault hashes)))

    cleared : Option ℕ
    cleared = (let_go reading.place.region (finished (end_job number t) (outcome_of a (lost Fault hashes)))).outcome.cleared

    mid : List Note
    mid = past (WasRead page result ∷ older) (lose_all Fault hashes)

    part : List Note
    part = lose_all Fault hashes ++ region_note Cleared (let_go reading.place.region (finished (end_job number t) (outcome_of a (lost Fault hashes)))).outcome.cleared

    but_so : SameBut flash (WasRead page result ∷ older) (past (WasRead page result ∷ older) (lose_all Fault hashes))
    but_so = losses_but flash (WasRead page result ∷ older) Fault hashes

    rest_mid : Rest flash (bytes_at (past (WasRead page result ∷ older) (lose_all Fault hashes))) t
    rest_mid = over_pages flash (bytes_at older) (bytes_at (past (WasRead page result ∷ older) (lose_all Fault hashes))) t but_so.pages b.rest

    g : Gone config flash (past (WasRead page result ∷ older) (lose_all Fault hashes)) number t (let_go reading.place.region (finished (end_job number t) (outcome_of a (lost Fault hashes))))
    g = let_go_does config flash (past (WasRead page result ∷ older) (lose_all Fault hashes)) number reading t (outcome_of a (lost Fault hashes)) here b.regions b.sound rest_mid b.work refl

    let_go_answer : LetGo reading.place.region (end_job number t) (outcome_of a (lost Fault hashes))
    let_go_answer = let_go_is reading.place.region (end_job number t) (outcome_of a (lost Fault hashes))

    joined : past older (WasRead page result ∷ (lose_all Fault hashes ++ region_note Cleared (let_go reading.place.region (finished (end_job number t) (outcome_of a (lost Fault hashes)))).outcome.cleared))
        ≡ past (past (WasRead page result ∷ older) (lose_all Fault hashes)) (region_note Cleared (let_go reading.place.region (finished (end_job number t) (outcome_of a (lost Fault hashes)))).outcome.cleared)
    joined = past-append (WasRead page result ∷ older) (lose_all Fault hashes) (region_note Cleared (let_go reading.place.region (finished (end_job number t) (outcome_of a (lost Fault hashes)))).outcome.cleared)

    pages : bytes_at (past older (WasRead page result ∷ (lose_all Fault hashes ++ region_note Cleared (let_go reading.place.region (finished (end_job number t) (outcome_of a (lost Fault hashes)))).outcome.cleared))) ≡ bytes_at older
    pages = ap bytes_at joined ∙ g.pages ∙ but_so.pages

    rest : Rest flash (bytes_at (past older (WasRead page result ∷ (lose_all Fault hashes ++ region_note Cleared (let_go reading.place.region (finished (end_job number t) (outcome_of a (lost Fault hashes)))).outcome.cleared)))) (let_go reading.place.region (finished (end_job number t) (outcome_of a (lost Fault hashes)))).state
    rest = over_pages flash (bytes_at (past (WasRead page result ∷ older) (lose_all Fault hashes))) (bytes_at (past older (WasRead page result ∷ (lose_all Fault hashes ++ region_note Cleared (let_go reading.place.region (finished (end_job number t) (outcome_of a (lost Fault hashes)))).outcome.cleared))))
        (let_go reading.place.region (finished (end_job number t) (outcome_of a (lost Fault hashes)))).state (ap bytes_at joined ∙ g.pages) g.rest

    lawful_in : (tail : List Note) → LawfulIn config older (WasRead page result ∷ (lose_all Fault hashes ++ region_note Cleared (let_go reading.place.region (finished (end_job number t) (outcome_of a (lost Fault hashes)))).outcome.cleared)) tail
    lawful_in tail = (
      read_allowed config flash older ((lose_all Fault hashes ++ region_note Cleared (let_go reading.place.region (finished (end_job number t) (outcome_of a (lost Fault hashes)))).outcome.cleared) ++ tail) page result here b.known,
      pieces-both config (WasRead page result ∷ older) (lose_all Fault hashes) (region_note Cleared (let_go reading.place.region (finished (end_job number t) (outcome_of a (lost Fault hashes)))).outcome.cleared) tail
          (b.lawful (region_note Cleared (let_go reading.place.region (finished (end_job number t) (outcome_of a (lost Fault hashes)))).outcome.cleared ++ tail)) (g.lawful_in tail),
    )

-- ---- nothing is lost

-- a note of a read changes no book of regions
read_regions : (flash : FlashConfig) (older : List Note) (page : ℕ) (result : Option (List ℕ)) (s : Block) → RegionsTell flash older s → RegionsTell flash (WasRead page result ∷ older) s
read_regions flash older page result s t = record { number = t.number; used = t.used; used_number = t.used_number; in_order = t.in_order; filings = t.filings; current = t.current; filled = t.filled }

no_loss : (config : Config) (flash : FlashConfig) (older : List Note) (page : ℕ) (result : Option (List ℕ)) (number : ℕ) (reading : Reading) (s : Block) → IsSome (bytes_at older page) → work_of number s.jobs ≡ Some (Getting reading) → LargeFits flash older s → Behind config flash older page result number reading s s []
no_loss config flash older page result number reading s known at f = record {
  known = known;
  lawful = λ tail. tt;
  sound = f.sound;
  rest = record { fits = f.fits; reads = f.reads };
  regions = read_regions flash older page result s f.regions;
  work = at;
  held = λ key. refl;
  index = λ hash. refl;
  same_regions = refl;
  same_jobs = refl;
}

-- ---- the hash is lost, whose entry can't be read

one_loss : (config : Config) (flash : FlashConfig) (older : List Note) (number : ℕ) (reading : Reading) (s : Block) → config.flash ≡ Some flash → 0 < flash.page → work_of number s.jobs ≡ Some (Getting reading) → LargeFits flash older s
    → is_place (place_at (kept_of flash.bits reading.key) s.index) reading.place ≡ true
    → Behind config flash older (read_page flash reading) None number reading s (take_index (kept_of flash.bits reading.key) s) (kept_of flash.bits reading.key ∷ [])
one_loss config flash older number reading s here some at f t = record {
  known = k.known;
  lawful = λ tail. (fault_allowed config flash (WasRead (read_page flash reading) None ∷ older) tail reading.place.region (read_page flash reading) (kept_of flash.bits reading.key) here k.own refl there, tt);
  sound = take_sound flash (kept_of flash.bits reading.key) s f.sound;
  rest = take_rest flash (bytes_at older) (kept_of flash.bits reading.key) s (record { fits = f.fits; reads = f.reads });
  regions = record {
    number = f.regions.number;
    used = f.regions.used;
    used_number = f.regions.used_number;
    in_order = f.regions.in_order;
    filings = as-without (kept_of flash.bits reading.key) (filed flash older) s.index f.regions.filings;
    current = f.regions.current;
    filled = f.regions.filled;
  };
  work = at;
  held = λ key. held_taken flash (bytes_at older) s (kept_of flash.bits reading.key) key ∙ ap (λ (c : Bool). if c then None else held flash (bytes_at older) s key) (turn (kept_of flash.bits key) (kept_of flash.bits reading.key));
  index = λ hash. place_at-without (kept_of flash.bits reading.key) hash s.index ∙ ap (λ (c : Bool). if c then None else place_at hash s.index) (turn hash (kept_of flash.bits reading.key));
  same_regions = refl;
  same_jobs = refl;
}
  where
    k : ReadKnown flash older reading s
    k = read_known flash older number reading s some at f

    there : 0 < count (files (kept_of flash.bits reading.key) reading.place.region) (filed flash older)
    there = as-there (kept_of flash.bits reading.key) reading.place.region (filed flash older) s.index f.regions.filings (ap region_in (is-place (place_at (kept_of flash.bits reading.key) s.index) reading.place t))

    turn : (a b : ℕ) → (a == b) ≡ (if b == a then true else false)
    turn a b = grind arith

failed_does : (config : Config) (flash : FlashConfig) (older : List Note) (number : ℕ) (reading : Reading) (s : Block) → config.flash ≡ Some flash → 0 < flash.page → work_of number s.jobs ≡ Some (Getting reading) → LargeFits flash older s
    → OverDoes config flash older number (read_page flash reading) None s Absent (if is_place (place_at (kept_of flash.bits reading.key) s.index) reading.place then kept_of flash.bits reading.key ∷ [] else []) (resume flash number (Getting reading) Failed s)
failed_does config flash older number reading s here some at f = go (is_place (place_at (kept_of flash.bits reading.key) s.index) reading.place) refl
  where
    go : (t : Bool) → is_place (place_at (kept_of flash.bits reading.key) s.index) reading.place ≡ t
        → OverDoes config flash older number (read_page flash reading) None s Absent (if t then kept_of flash.bits reading.key ∷ [] else []) (let_go reading.place.region (if t then unreadable (kept_of flash.bits reading.key) (end_job number s) else absent (end_job number s)))
    go true t = over_does config flash older (read_page flash reading) None number reading s (take_index (kept_of flash.bits reading.key) s) Absent (kept_of flash.bits reading.key ∷ []) here (one_loss config flash older number reading s here some at f t)
    go false t = over_does config flash older (read_page flash reading) None number reading s s Absent [] here (no_loss config flash older (read_page flash reading) None number reading s (read_known flash older number reading s some at f).known at f)

pub failed_read_tells : FailedReadTells
failed_read_tells config flash older number reading s here some at f = (failed_does config flash older number reading s here some at f).keeps

abbrev plain : FlashConfig → Config
plain flash = record { pools = []; flash = Some flash }

-- the same without the pages
fails_so : (flash : FlashConfig) (number : ℕ) (reading : Reading) (s t : Block) (mid : List Note) (hashes : List ℕ) → RegionsTell flash mid t → Sound flash t → Rest flash (bytes_at mid) t → work_of number t.jobs ≡ Some (Getting reading) → t.regions ≡ s.regions → t.jobs ≡ s.jobs
    → OthersStay (but number) s (let_go reading.place.region (finished (end_job number t) (outcome_of Absent (lost Fault hashes)))).state × IsOver number (let_go reading.place.region (finished (end_job number t) (outcome_of Absent (lost Fault hashes))))
fails_so flash number reading s t mid hashes regions sound rest at er ej =
    let g = let_go_does (plain flash) flash mid number reading t (outcome_of Absent (lost Fault hashes)) refl regions sound rest at refl in (
      record { works = λ n o. g.others.works n o ∙ ap (work_of n) ej; written = λ n r bytes o w. g.others.written n r bytes o (ap (work_of n) ej ∙ w) ∙ ap (λ (regions : List Region). (region_at r regions).written) er },
      g.over,
    )

pub failed_read_gives : FailedReadGives
failed_read_gives flash older number reading s at f = go (is_place (place_at (kept_of flash.bits reading.key) s.index) reading.place) refl
  where
    hash : ℕ
    hash = kept_of flash.bits reading.key

    taken : RegionsTell flash (Lose (Hash (kept_of flash.bits reading.key) None) Fault ∷ older) (take_index (kept_of flash.bits reading.key) s)
    taken = record {
      number = f.regions.number;
      used = f.regions.used;
      used_number = f.regions.used_number;
      in_order = f.regions.in_order;
      filings = as-without (kept_of flash.bits reading.key) (filed flash older) s.index f.regions.filings;
      current = f.regions.current;
      filled = f.regions.filled;
    }

    go : (t : Bool) → is_place (place_at (kept_of flash.bits reading.key) s.index) reading.place ≡ t
        → OthersStay (but number) s (let_go reading.place.region (if t then unreadable (kept_of flash.bits reading.key) (end_job number s) else absent (end_job number s))).state
        × ReadFails flash number reading s (let_go reading.place.region (if t then unreadable (kept_of flash.bits reading.key) (end_job number s) else absent (end_job number s)))
    go true t =
        let both = fails_so flash number reading s (take_index (kept_of flash.bits reading.key) s) (Lose (Hash (kept_of flash.bits reading.key) None) Fault ∷ older) (kept_of flash.bits reading.key ∷ []) taken (take_sound flash (kept_of flash.bits reading.key) s f.sound)
        (take_rest flash (bytes_at older) (kept_of flash.bits reading.key) s (record { fits = f.fits; reads = f.reads })) at refl refl in
        let told = let_go_is reading.place.region (end_job number (take_index (kept_of flash.bits reading.key) s)) (outcome_of Absent (lost Fault (kept_of flash.bits reading.key ∷ []))) in
        (both.0, record { over = both.1; answer = told.answer; losses = rw t told.losses })
    go false t =
        let both = fails_so flash number reading s s older [] f.regions f.sound (record { fits = f.fits; reads = f.reads }) at refl refl in
        let told = let_go_is reading.place.region (end_job number s) (outcome_of Absent []) in
        (both.0, record { over = both.1; answer = told.answer; losses = rw t told.losses })

-- ---- a page was read

-- what an honest read comes to
record ReadDoes (config : Config) (flash : FlashConfig) (older : List Note) (number : ℕ) (reading : Reading) (bytes : List ℕ) (s : Block) (moved : Moved) : Type 0 where
  keeps : LargeKeeps config flash older (WasRead (read_page flash reading) (Some bytes) ∷ told moved.outcome) s moved.state
  others : OthersStay (but number) s moved.state
  gives : GoesOnReading flash older number reading moved ⊎ ReadIsOver flash older number reading s moved

module _ (config : Config) (flash : FlashConfig) (older : List Note) (number : ℕ) (reading : Reading) (bytes : List ℕ) (s : Block) (here : config.flash ≡ Some flash) (some : 0 < flash.page) (at : work_of number s.jobs ≡ Some (Getting reading)) (honest : bytes_at older (read_page flash reading) ≡ Some bytes) (f : LargeFits flash older s) where
  k : ReadKnown flash older reading s
  k = read_known flash older number reading s some at f

  goes_on : reading.next + 1 < reading.until → ReadDoes config flash older number reading bytes s (read_next flash number (read_on reading bytes) (end_job number s))
  goes_on more = record {
    keeps = record {
      lawful = (read_allowed config flash older [] (read_page flash reading) (Some bytes) here k.known, tt);
      lawful_in = λ tail. (read_allowed config flash older tail (read_page flash reading) (Some bytes) here k.known, tt);
      fit = record {
        sound = on_sound flash number reading bytes s f.sound at more;
        fits = record { known = f.fits.known; within = f.fits.within; places = λ h p e. let k = f.fits.places h p e in record { entry = k.entry; read = k.read; own = k.own; within = k.within } };
        reads = reads_added flash (bytes_at older) new number (Getting (read_on reading bytes)) (without_job number s.jobs)
            (read_stays flash (bytes_at older) (bytes_at older) s new (read_on reading bytes) holds (omega arith) (λ i lt. refl) (λ l. (l, record { more = []; grown = sym (append-nil (bytes_of flash (bytes_at older) s reading.place.region)) })))
            (reads_stay flash (bytes_at older) (bytes_at older) reading.place.region (region_at reading.place.region s.regions) s new (without_job number s.jobs) others (works_left flash s.regions number s.jobs f.sound.works) (reads_left flash (bytes_at older) s number s.jobs f.reads));
        regions = record { number = f.regions.number; used = f.regions.used; used_number = f.regions.used_number; in_order = f.regions.in_order; filings = f.regions.filings; current = f.regions.current; filled = f.regions.filled };
      };
      held = λ key. refl;
      index = λ hash. refl;
      pages = λ page lt. refl;
      entries = λ bucket lt. refl;
      once = λ o. o;
    };
    others = record { works = λ n o. work-added number n (Getting (read_on reading bytes)) (without_job number s.jobs) o ∙ work-without number n s.jobs o; written = λ n r bytes o w. refl };
    gives = inl (record {
      page = record {
        reading = read_on reading bytes;
        key_is = refl;
        work = work_added number (Getting (read_on reading bytes)) (without_job number s.jobs);
        order = refl;
        outcome = refl;
        known = known_page flash (bytes_at older) s reading.place.region (reading.next + 1) some f.fits k.unclean (omega (arith, k.until, more));
      };
      place = refl;
    });
  }
    where
      new : Block
      new = (read_next flash number (read_on reading bytes) (end_job number s)).state

      holds : ReadHolds flash (bytes_at older) s (read_on reading bytes)
      holds = read_more flash (bytes_at older) s reading bytes (own_read flash (bytes_at older) number reading s s.jobs f.reads at) honest

      others : Others flash (bytes_at older) (bytes_at older) reading.place.region (region_at reading.place.region s.regions) s (read_next flash number (read_on reading bytes) (end_job number s)).state (0 < readers reading.place.region (without_job number s.jobs))
      others = record {
        there = k.there;
        regions = sym (set-get_or s.regions reading.place.region clean_region);
        same = λ q i l. refl;
        grows = λ n l. (l, record { more = []; grown = sym (append-nil (bytes_of flash (bytes_at older) s reading.place.region)) });
      }

  abbrev answer_then : Answer
  answer_then = if is_place (place_at (kept_of flash.bits reading.key) s.index) reading.place then answer_by (held flash (bytes_at older) s reading.key) else Absent

  answers : reading.until ≤ reading.next + 1 → answered flash (read_on reading bytes) (end_job number s) ≡ finished (end_job number s) (outcome_of answer_then [])
  answers last = by (is_place (place_at (kept_of flash.bits reading.key) s.index) reading.place) refl
    where
      by : (t : Bool) → is_place (place_at (kept_of flash.bits reading.key) s.index) reading.place ≡ t → answered flash (read_on reading bytes) (end_job number s) ≡ finished (end_job number s) (outcome_of answer_then [])
      by false t = rw t refl
      by true t = last_read flash (bytes_at older) number reading bytes s f.sound f.fits f.reads at honest last t ∙ (rw t refl)

  ends : reading.until ≤ reading.next + 1 → ReadDoes config flash older number reading bytes s (let_go reading.place.region (answered flash (read_on reading bytes) (end_job number s)))
  ends last =
      let d = over_does config flash older (read_page flash reading) (Some bytes) number reading s s answer_then [] here (no_loss config flash older (read_page flash reading) (Some bytes) number reading s k.known at f) in
      subst (λ (m : Moved). ReadDoes config flash older number reading bytes s (let_go reading.place.region m)) (sym (answers last)) (record {
        keeps = d.keeps;
        others = d.others;
        gives = inr (record { over = d.over; losses = d.losses; answer = d.answer });
      })

  read_by : (t : Bool) → nat_lt (reading.next + 1) reading.until ≡ t
      → ReadDoes config flash older number reading bytes s (if t then read_next flash number (read_on reading bytes) (end_job number s) else let_go reading.place.region (answered flash (read_on reading bytes) (end_job number s)))
  read_by true t = goes_on (ltb-true (reading.next + 1) reading.until t)
  read_by false t = ends (ltb-false (reading.next + 1) reading.until t)

  read_does : ReadDoes config flash older number reading bytes s (resume flash number (Getting reading) (Page bytes) s)
  read_does = read_by (nat_lt (reading.next + 1) reading.until) refl

pub read_tells : ReadTells
read_tells config flash older number reading bytes s here some at honest f = (read_does config flash older number reading bytes s here some at honest f).keeps

pub read_gives : ReadGives
read_gives flash older number reading bytes s some at honest f =
    ((read_does (plain flash) flash older number reading bytes s refl some at honest f).others, (read_does (plain flash) flash older number reading bytes s refl some at honest f).gives)
