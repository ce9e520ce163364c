-- A get that reads a page goes on with another page, or it has looked.
use Rattle.std.proofs.Common.{◌≡◌, ℕ, ◌+◌, ◌-◌, ◌==◌, Bool, true, false, List, [], ◌∷◌, ◌++◌, Option, Some, None, refl, sym, ap, ◌∙◌, ◌&&◌, subst}
use Rattle.std.specs.Prelude.{option_map, nat_lt, if◌then◌else◌}
use Rattle.std.specs.Str.{bytes_eq}
use Rattle.hc_types.specs.declared.config.FlashConfig.{FlashConfig}
use Rattle.hc_types.specs.Places.{kept_of, bucket_at}
use Rattle.hc_types.specs.FlashEntry.{FlashEntry}
use Rattle.hc_types.specs.Loss.{Bucket, Fault}
use Rattle.hc_bucket.specs.Reading.{page_at}
use Rattle.hc_engines.specs.Engine.{Op, Put, Get, Delete, Flush, Reclaim, Order, Read, Write, IoResult, Page, Written, Failed, Absent, Found, Loss, outcome_of, found, Next, Busy, Io, Done, UnderWay}
use Rattle.hc_engines.specs.small.BigHash as bighash
use Rattle.hc_engines.specs.small.BigHash.{Job, Phase, Plan, ToRead, ToEnd, ToGiveUp, begun, is_busy, job_at, moved, read_as, word_at}
use Rattle.hc_engines.specs.small.Bloom.{could_have}
use Rattle.hc_engines.specs.small.Entries.{under}
use Rattle.hc_engines.specs.small.Held.{job_under_way, order_of}
use Rattle.hc_engines.specs.large.Region.{Region, clean_region, region_at, is_draining}
use Rattle.hc_engines.specs.large.Index.{Place, place_at, is_place}
use Rattle.hc_engines.specs.large.Entries.{entry_in}
use Rattle.hc_engines.specs.large.Block as block
use Rattle.hc_engines.specs.large.Block.{Block, Reading, Work, Writing, Getting, work_of, end_job, with_region}
use Rattle.hc_engines.specs.large.Numbers.{minus}
use Rattle.hc_engines.specs.large.Steps as steps
use Rattle.hc_engines.specs.large.Steps.{own_entry, answer_of, answered, absent, unreadable, failed_read, read_bytes, read_next, reading_of, get_at, pinned, let_go}
use Rattle.hc_engines.specs.pair.Held.{under_way, first_of, work_under_way}
use Rattle.hc_engines.specs.pair.Pair.{Pair, Moved, after_losses, next_of, waits_for, by_small, by_large, went_on, after_small, start, resume, resume_in, resume_large}
use Rattle.hc_engines.proofs.pair.Numbers.{none_in_both}
use Rattle.hc_bighash.specs.Endings.{has_looked, is_over}
use Rattle.hc_bighash.specs.Found.{answer_next}
use Rattle.hc_pair.specs.Endings.{ends, is_done, op_under}
use Rattle.hc_nvm.specs.Fetching.{gets_page, is_fetch}

some_is : {X : Type 0} (x y : X) → Some x ≡ Some y → x ≡ y
some_is x y h = cc

-- it reads a page, or it has looked
abbrev pub reads_or_looked : Next → Bool
reads_or_looked Busy = true
reads_or_looked (Io (Read page) outcome) = true
reads_or_looked (Io (Write page bytes) outcome) = false
reads_or_looked (Done outcome) = has_looked outcome.answer

-- ---- the large engine

abbrev Goes : List Loss → block.Moved → Type 0
Goes before m = reads_or_looked (next_of (after_losses before m.outcome) m.order) ≡ true

own_looks : (key : List ℕ) (entry : FlashEntry) → has_looked (own_entry key entry) ≡ true
own_looks key entry = by (bytes_eq entry.key key)
  where
    by : (t : Bool) → has_looked (if t then Found entry else Absent) ≡ true
    by true = refl
    by false = refl

module _ (before : List Loss) (flash : FlashConfig) where
  answered_goes : (reading : Reading) (s : Block) → Goes before (answered flash reading s)
  answered_goes reading s = by (is_place (place_at (kept_of flash.bits reading.key) s.index) reading.place)
    where
      came : (o : Option FlashEntry) → Goes before (answer_of (kept_of flash.bits reading.key) reading.key s o)
      came None = refl
      came (Some entry) = own_looks reading.key entry

      by : (t : Bool) → Goes before (if t then answer_of (kept_of flash.bits reading.key) reading.key s (entry_in (read_bytes flash reading)) else absent s)
      by true = came (entry_in (read_bytes flash reading))
      by false = refl

  failed_goes : (reading : Reading) (s : Block) → Goes before (failed_read flash reading s)
  failed_goes reading s = by (is_place (place_at (kept_of flash.bits reading.key) s.index) reading.place)
    where
      by : (t : Bool) → Goes before (if t then unreadable (kept_of flash.bits reading.key) s else absent s)
      by true = refl
      by false = refl

  cleared_goes : (m : block.Moved) (s : Block) (r : ℕ) → Goes before m → Goes before (record m { state = s; outcome = record m.outcome { cleared = Some r } })
  cleared_goes m s r h = of m.order h
    where
      of : (o : Option Order) → reads_or_looked (next_of (after_losses before m.outcome) o) ≡ true → reads_or_looked (next_of (after_losses before (record m.outcome { cleared = Some r })) o) ≡ true
      of None h = h
      of (Some (Read page)) h = refl
      of (Some (Write page bytes)) h = h

  let_go_goes : (r : ℕ) (m : block.Moved) → Goes before m → Goes before (let_go r m)
  let_go_goes r m h = by (is_draining (region_at r m.state.regions).status && ((region_at r m.state.regions).pins == 1)) (region_at r m.state.regions)
    where
      by : (t : Bool) (region : Region) → Goes before (if t
          then record m { state = record (with_region r clean_region m.state) { flushed = minus r m.state.flushed }; outcome = record m.outcome { cleared = Some r } }
          else record m { state = with_region r (record region { pins = region.pins - 1 }) m.state })
      by true region = cleared_goes m (record (with_region r clean_region m.state) { flushed = minus r m.state.flushed }) r h
      by false region = h

  get_goes : (number : ℕ) (key : List ℕ) (s : Block) → Goes before (steps.get flash number key s)
  get_goes number key s = of (place_at (kept_of flash.bits key) s.index)
    where
      begins : (place : Place) (t : Bool) → Goes before (if t then read_next flash number (reading_of flash key place s) (pinned place.region s) else answered flash (reading_of flash key place s) s)
      begins place true = refl
      begins place false = answered_goes (reading_of flash key place s) s

      of : (o : Option Place) → Goes before (get_at flash number key o s)
      of None = refl
      of (Some place) = begins place (nat_lt (reading_of flash key place s).next (reading_of flash key place s).until)

  got_goes : (number : ℕ) (reading : Reading) (page : List ℕ) (s : Block) → Goes before (steps.got_page flash number reading page s)
  got_goes number reading page s = by (nat_lt (reading.next + 1) reading.until)
    where
      more : Reading
      more = record reading { got = reading.got ++ page; next = reading.next + 1 }

      by : (t : Bool) → Goes before (if t then read_next flash number (record reading { got = reading.got ++ page; next = reading.next + 1 }) s else let_go reading.place.region (answered flash (record reading { got = reading.got ++ page; next = reading.next + 1 }) s))
      by true = refl
      by false = let_go_goes reading.place.region (answered flash more s) (answered_goes more s)

  read_goes : (number : ℕ) (reading : Reading) (came : IoResult) (s : Block) → waits_for (Getting reading) came ≡ true → Goes before (steps.resume flash number (Getting reading) came s)
  read_goes number reading (Page page) s h = got_goes number reading page (end_job number s)
  read_goes number reading Failed s h = let_go_goes reading.place.region (failed_read flash reading (end_job number s)) (failed_goes reading (end_job number s))
  read_goes number reading Written s h = absurd cc

-- ---- the small engine

-- a get that is over in the small engine has found its entry, or it goes on with the large one
found_goes : (number : ℕ) (key : List ℕ) (pair : Pair) (losses : List Loss) (o : Option FlashEntry) → reads_or_looked (went_on number key pair (outcome_of (found o) losses) (found o)).next ≡ true
found_goes number key pair losses None = get_goes losses pair.small.flash number key pair.large
found_goes number key pair losses (Some e) = refl

planned_goes : (pair : Pair) (number own bucket : ℕ) (key : List ℕ) (o : Option (List FlashEntry)) → reads_or_looked (after_small number (Get key) (by_small pair (moved pair.small own bucket (Get key) (read_as pair.small.flash.page (Get key) o)))).next ≡ true
planned_goes pair number own bucket key None = get_goes (record { scope = Bucket bucket; cause = Fault } ∷ []) pair.small.flash number key pair.large
planned_goes pair number own bucket key (Some es) = found_goes number key _ [] (under key es)

small_fetch_goes : (pair : Pair) (number own bucket : ℕ) (op : Op) (phase : Phase) (came : IoResult) (next : Moved) → gets_page op (order_of pair.small.flash.page bucket phase) ≡ true
    → option_map (λ (m : bighash.Moved). after_small number op (by_small pair m)) (option_map (moved pair.small own bucket op) (bighash.went_on pair.small.flash.page op phase came)) ≡ Some next → reads_or_looked next.next ≡ true
small_fetch_goes pair number own bucket (Get key) bighash.Reading (Page bytes) next f made = subst (λ (m : Moved). reads_or_looked m.next ≡ true) (some_is _ next made) (planned_goes pair number own bucket key (page_at pair.small.flash.page bytes))
small_fetch_goes pair number own bucket (Get key) bighash.Reading Failed next f made = subst (λ (m : Moved). reads_or_looked m.next ≡ true) (some_is _ next made) (planned_goes pair number own bucket key None)
small_fetch_goes pair number own bucket (Get key) bighash.Reading Written next f made = absurd cc
small_fetch_goes pair number own bucket (Get key) (bighash.Writing es losses) came next f made = absurd cc
small_fetch_goes pair number own bucket (Put e) phase came next f made = absurd cc
small_fetch_goes pair number own bucket (Delete key) phase came next f made = absurd cc
small_fetch_goes pair number own bucket Flush phase came next f made = absurd cc
small_fetch_goes pair number own bucket Reclaim phase came next f made = absurd cc

-- ---- both

-- a get that reads a page was handed a result
pub fetch_goes : (pair : Pair) (number : ℕ) (came : IoResult) (next : Moved) → is_fetch (under_way pair number) ≡ true → resume number came pair ≡ Some next → reads_or_looked next.next ≡ true
fetch_goes pair number came next f made = of (job_at number pair.small.jobs) refl (work_of number pair.large.jobs) refl f made
  where
    waited : (reading : Reading) (t : Bool) → waits_for (Getting reading) came ≡ t → (if t then Some (by_large pair [] (steps.resume pair.small.flash number (Getting reading) came pair.large)) else None) ≡ Some next → reads_or_looked next.next ≡ true
    waited reading true w e = subst (λ (m : Moved). reads_or_looked m.next ≡ true) (some_is _ next e) (read_goes [] pair.small.flash number reading came pair.large w)
    waited reading false w e = absurd cc

    of : (job : Option Job) → job_at number pair.small.jobs ≡ job → (work : Option Work) → work_of number pair.large.jobs ≡ work → is_fetch (first_of (option_map (job_under_way pair.small.flash) job) (option_map (work_under_way pair.small.flash pair.large) work)) ≡ true
        → resume_in number came pair job ≡ Some next → reads_or_looked next.next ≡ true
    of (Some job) at work there f made =
        small_fetch_goes pair number job.number job.bucket job.op job.phase came next f (ap (λ (j : Option Job). option_map (λ (m : bighash.Moved). after_small number job.op (by_small pair m)) (bighash.resume_job pair.small j came)) (sym at) ∙ made)
    of None at None there f made = let wrong : None ≡ Some next = sym (ap (resume_large number came pair) there) ∙ made in absurd cc
    of None at (Some (Writing r bytes)) there f made = absurd cc
    of None at (Some (Getting reading)) there f made = waited reading (waits_for (Getting reading) came) refl (sym (ap (resume_large number came pair) there) ∙ made)

-- a get was started
pub get_starts : (pair : Pair) (number : ℕ) (key : List ℕ) → reads_or_looked (start number (Get key) pair).next ≡ true
get_starts pair number key = busy (is_busy (bucket_at pair.small.flash key) pair.small.jobs)
  where
    bucket : ℕ
    bucket = bucket_at pair.small.flash key

    read : (t : Bool) → reads_or_looked (after_small number (Get key) (by_small pair (moved pair.small number (bucket_at pair.small.flash key) (Get key) (if t then ToRead else ToEnd Absent)))).next ≡ true
    read true = refl
    read false = get_goes [] pair.small.flash number key pair.large

    begins : (word : Option ℕ) → reads_or_looked (after_small number (Get key) (by_small pair (moved pair.small number (bucket_at pair.small.flash key) (Get key) (begun word (Get key))))).next ≡ true
    begins None = get_goes [] pair.small.flash number key pair.large
    begins (Some word) = read (could_have word key)

    busy : (t : Bool) → reads_or_looked (after_small number (Get key) (by_small pair (if t then record { state = pair.small; next = Busy } else moved pair.small number (bucket_at pair.small.flash key) (Get key) (begun (word_at pair.small (bucket_at pair.small.flash key)) (Get key))))).next ≡ true
    busy true = refl
    busy false = begins (word_at pair.small bucket)

pub none_resumes : (pair : Pair) (number : ℕ) (came : IoResult) → under_way pair number ≡ None → resume number came pair ≡ None
none_resumes pair number came none =
    let both = none_in_both pair (job_at number pair.small.jobs) (work_of number pair.large.jobs) none in
    ap (resume_in number came pair) both.0 ∙ ap (resume_large number came pair) both.1

-- where a get that reads a page isn't over, it isn't done
pub not_done : (pair : Pair) (number : ℕ) (came : IoResult) (next : Moved) → is_fetch (under_way pair number) ≡ true → ends (op_under number pair) (resume number came pair) ≡ false → resume number came pair ≡ Some next → is_done next.next ≡ false
not_done pair number came next f on made = of (under_way pair number) refl f (ap (ends (op_under number pair)) (sym made) ∙ on)
  where
    goes : (n : Next) → reads_or_looked n ≡ true → is_over (answer_next n) ≡ false → is_done n ≡ false
    goes Busy h o = refl
    goes (Io order outcome) h o = refl
    goes (Done outcome) h o = let wrong : true ≡ false = sym h ∙ o in absurd cc

    by_op : (op : Op) (order : Order) → gets_page op order ≡ true → ends (Some op) (Some next) ≡ false → is_done next.next ≡ false
    by_op (Get key) order h o = goes next.next (fetch_goes pair number came next f made) o
    by_op (Put e) order h o = absurd cc
    by_op (Delete key) order h o = absurd cc
    by_op Flush order h o = absurd cc
    by_op Reclaim order h o = absurd cc

    of : (w : Option UnderWay) → under_way pair number ≡ w → is_fetch w ≡ true → ends (option_map (λ (u : UnderWay). u.op) w) (Some next) ≡ false → is_done next.next ≡ false
    of None e h o = let wrong : None ≡ Some next = sym (none_resumes pair number came e) ∙ made in absurd cc
    of (Some w) e h o = by_op w.op w.order h o
