-- No operation of an engine tells a region flushed, but for the write of a region's last page.
use Rattle.std.proofs.Common.{◌≡◌, ℕ, ◌+◌, ◌==◌, Bool, true, false, ◌&&◌, List, [], ◌++◌, Option, Some, None, refl, ap, sym, ◌∙◌, subst, inl, inr}
use Rattle.std.specs.Prelude.{if◌then◌else◌, option_map, nat_lt, ◌⊎◌}
use Rattle.hc_types.specs.Places.{kept_of}
use Rattle.hc_types.specs.declared.config.FlashConfig.{FlashConfig}
use Rattle.hc_types.specs.FlashEntry.{FlashEntry}
use Rattle.hc_engines.specs.Engine as engine
use Rattle.hc_engines.specs.Engine.{Op, Put, Get, Delete, Flush, Reclaim, IoResult, Page, Written, Failed, Answer, Absent, Found, Over, Nothing, Loss, Outcome, Next, Busy, Io, Done}
use Rattle.hc_engines.specs.small.BigHash as bighash
use Rattle.hc_engines.specs.small.BigHash.{BigHash, Plan, ToRead, ToWrite, ToEnd, ToKeep, ToGiveUp, is_busy, went_on}
use Rattle.hc_engines.specs.large.Entries.{entry_in}
use Rattle.hc_engines.specs.large.Region.{Status, Clean, Open, Sealed, Flushing, OnFlash, Draining, Region, region_at, page_done, is_draining}
use Rattle.hc_engines.specs.large.Index.{Place, place_at, is_place}
use Rattle.hc_engines.specs.large.Block as block
use Rattle.hc_engines.specs.large.Block.{Block, Reading, Work, Writing, Getting}
use Rattle.hc_engines.specs.large.Steps as steps
use Rattle.hc_engines.specs.pair.Pair as pairs
use Rattle.hc_engines.specs.pair.Pair.{Pair, after_losses}
use Rattle.hc_proof.specs.shapes.Shapes.{flushed_by}

-- ---- the large engine

-- nothing is told flushed, and nothing opened
abbrev pub Quiet : block.Moved → Type 0
Quiet m = (m.outcome.flushed ≡ None) × (m.outcome.opened ≡ None)

quiet_if : (t : Bool) (a b : block.Moved) → Quiet a → Quiet b → Quiet (if t then a else b)
quiet_if true a b p q = p
quiet_if false a b p q = q

answered_quiet : (flash : FlashConfig) (reading : Reading) (s : Block) → Quiet (steps.answered flash reading s)
answered_quiet flash reading s = quiet_if (is_place (place_at (kept_of flash.bits reading.key) s.index) reading.place) _ _ (by (entry_in (steps.read_bytes flash reading))) (refl, refl)
  where
    by : (o : Option FlashEntry) → Quiet (steps.answer_of (kept_of flash.bits reading.key) reading.key s o)
    by None = (refl, refl)
    by (Some entry) = (refl, refl)

get_quiet : (flash : FlashConfig) (number : ℕ) (key : List ℕ) (s : Block) → Quiet (steps.get flash number key s)
get_quiet flash number key s = go (place_at (kept_of flash.bits key) s.index)
  where
    go : (o : Option Place) → Quiet (steps.get_at flash number key o s)
    go None = (refl, refl)
    go (Some place) = let reading = steps.reading_of flash key place s in quiet_if (nat_lt reading.next reading.until) _ _ (refl, refl) (answered_quiet flash reading s)

let_go_quiet : (r : ℕ) (m : block.Moved) → Quiet m → Quiet (steps.let_go r m)
let_go_quiet r m h = let region = region_at r m.state.regions in quiet_if (is_draining region.status && (region.pins == 1)) _ _ (h.0, h.1) (h.0, h.1)

got_quiet : (flash : FlashConfig) (number : ℕ) (reading : Reading) (bytes : List ℕ) (s : Block) → Quiet (steps.got_page flash number reading bytes s)
got_quiet flash number reading bytes s =
    let more : Reading = record reading { got = reading.got ++ bytes; next = reading.next + 1 } in
    quiet_if (nat_lt more.next more.until) _ _ (refl, refl) (let_go_quiet reading.place.region (steps.answered flash more s) (answered_quiet flash more s))

failed_quiet : (flash : FlashConfig) (reading : Reading) (s : Block) → Quiet (steps.failed_read flash reading s)
failed_quiet flash reading s = quiet_if (is_place (place_at (kept_of flash.bits reading.key) s.index) reading.place) _ _ (refl, refl) (refl, refl)

pub reclaim_quiet : (flash : FlashConfig) (s : Block) → Quiet (steps.reclaim flash s)
reclaim_quiet flash s = quiet_if (nat_lt (steps.clean_count s.regions) flash.clean) _ _ (go (steps.oldest s.regions s.flushed)) (refl, refl)
  where
    go : (o : Option ℕ) → Quiet (steps.reclaim_of s o)
    go None = (refl, refl)
    go (Some r) = (refl, refl)

-- the region whose page was written: it is told flushed only where its flush was taken
pub record FlushesOwn (regions : List Region) (r : ℕ) (m : block.Moved) : Type 0 where
  pub opens : m.outcome.opened ≡ None
  pub tells : (m.outcome.flushed ≡ None) ⊎ ((m.outcome.flushed ≡ Some r) × ((region_at r regions).status ≡ Flushing))

owns_if : (t : Bool) (regions : List Region) (r : ℕ) (a b : block.Moved) → FlushesOwn regions r a → FlushesOwn regions r b → FlushesOwn regions r (if t then a else b)
owns_if true regions r a b p q = p
owns_if false regions r a b p q = q

wrote_by : (flash : FlashConfig) (number r : ℕ) (s : Block) (status : Status) → (region_at r s.regions).status ≡ status → FlushesOwn s.regions r (steps.wrote_page flash number r status s)
wrote_by flash number r s Clean e = record { opens = refl; tells = inl refl }
wrote_by flash number r s Open e = record { opens = refl; tells = inl refl }
wrote_by flash number r s Sealed e = record { opens = refl; tells = inl refl }
wrote_by flash number r s OnFlash e = record { opens = refl; tells = inl refl }
wrote_by flash number r s Draining e = record { opens = refl; tells = inl refl }
wrote_by flash number r s Flushing e =
    owns_if (nat_lt (page_done flash (region_at r s.regions)).written flash.region_pages) s.regions r _ _ (record { opens = refl; tells = inl refl }) (record { opens = refl; tells = inr (refl, e) })

-- ---- both engines

abbrev pub opened_by : Next → Option ℕ
opened_by Busy = None
opened_by (Io order outcome) = outcome.opened
opened_by (Done outcome) = outcome.opened

pub record QuietNext (next : Next) : Type 0 where
  pub unflushed : flushed_by next ≡ None
  pub unopened : opened_by next ≡ None

large_next : (before : List Loss) (m : block.Moved) → Quiet m → QuietNext (pairs.next_of (after_losses before m.outcome) m.order)
large_next before m h = go m.order
  where
    go : (o : Option engine.Order) → QuietNext (pairs.next_of (after_losses before m.outcome) o)
    go None = record { unflushed = h.0; unopened = h.1 }
    go (Some (engine.Read page)) = record { unflushed = h.0; unopened = h.1 }
    go (Some (engine.Write page bytes)) = record { unflushed = h.0; unopened = h.1 }

plan_quiet : (size bucket : ℕ) (op : Op) (plan : Plan) → QuietNext (bighash.next_of size bucket op plan)
plan_quiet size bucket op ToRead = record { unflushed = refl; unopened = refl }
plan_quiet size bucket op (ToWrite es losses) = record { unflushed = refl; unopened = refl }
plan_quiet size bucket op (ToEnd answer) = record { unflushed = refl; unopened = refl }
plan_quiet size bucket op (ToKeep word losses) = record { unflushed = refl; unopened = refl }
plan_quiet size bucket op ToGiveUp = record { unflushed = refl; unopened = refl }

small_quiet : (s : BigHash) (number : ℕ) (op : Op) → QuietNext (bighash.start s number op).next
small_quiet s number op = go (bighash.our_bucket s.flash op)
  where
    busy : (t : Bool) (bucket : ℕ) → QuietNext (if t then record { state = s; next = Busy } else bighash.moved s number bucket op (bighash.begun (bighash.word_at s bucket) op)).next
    busy true bucket = record { unflushed = refl; unopened = refl }
    busy false bucket = plan_quiet s.flash.page bucket op (bighash.begun (bighash.word_at s bucket) op)

    go : (o : Option ℕ) → QuietNext (bighash.start_at s number op o).next
    go None = record { unflushed = refl; unopened = refl }
    go (Some bucket) = busy (is_busy bucket s.jobs) bucket

went_quiet : (number : ℕ) (key : List ℕ) (pair : Pair) (outcome : Outcome) (answer : Answer) → QuietNext (Done outcome) → QuietNext (pairs.went_on number key pair outcome answer).next
went_quiet number key pair outcome Absent q = large_next outcome.losses (steps.get pair.small.flash number key pair.large) (get_quiet pair.small.flash number key pair.large)
went_quiet number key pair outcome Nothing q = q
went_quiet number key pair outcome Over q = q
went_quiet number key pair outcome (Found entry) q = q

then_quiet : (number : ℕ) (op : Op) (pair : Pair) (next : Next) → QuietNext next → QuietNext (pairs.then_large number op pair next).next
then_quiet number (Get key) pair Busy q = q
then_quiet number (Get key) pair (Io order outcome) q = q
then_quiet number (Get key) pair (Done outcome) q = went_quiet number key pair outcome outcome.answer q
then_quiet number (Put e) pair next q = q
then_quiet number (Delete key) pair next q = q
then_quiet number Flush pair next q = q
then_quiet number Reclaim pair next q = q

-- a get that begins
pub get_begins : (number : ℕ) (key : List ℕ) (pair : Pair) → QuietNext (pairs.start number (Get key) pair).next
get_begins number key pair =
    let m = bighash.start pair.small number (Get key) in
    then_quiet number (Get key) (record pair { small = m.state }) m.next (small_quiet pair.small number (Get key))

-- ---- a result is handed in

pub record FlushesIf (pair : Pair) (m : pairs.Moved) : Type 0 where
  pub opens : opened_by m.next ≡ None
  pub tells : (flushed_by m.next ≡ None) ⊎ ((r : ℕ) × ((flushed_by m.next ≡ Some r) × ((region_at r pair.large.regions).status ≡ Flushing)))

quiet_if_so : (pair : Pair) (m : pairs.Moved) → QuietNext m.next → FlushesIf pair m
quiet_if_so pair m q = record { opens = q.unopened; tells = inl q.unflushed }

some_by : (pair : Pair) (a m : pairs.Moved) → Some a ≡ Some m → FlushesIf pair a → FlushesIf pair m
some_by pair a m e f = let same : a ≡ m = cc in subst (FlushesIf pair) same f

large_by : (number : ℕ) (pair : Pair) (work : Work) (result : IoResult) (m : pairs.Moved) → pairs.resume_work number result pair work ≡ Some m → FlushesIf pair m
large_by number pair (Writing r bytes) (Page page) m e = absurd cc
large_by number pair (Writing r bytes) Written m e =
    let s = block.end_job number pair.large in
    let moved = steps.resume pair.small.flash number (Writing r bytes) Written pair.large in
    let own = wrote_by pair.small.flash number r s (region_at r s.regions).status refl in
    some_by pair (pairs.by_large pair [] moved) m e (go moved.order moved.outcome own.opens own.tells)
  where
    go : (order : Option engine.Order) (outcome : Outcome) → outcome.opened ≡ None → (outcome.flushed ≡ None) ⊎ ((outcome.flushed ≡ Some r) × ((region_at r pair.large.regions).status ≡ Flushing))
        → FlushesIf pair (record { pair = record pair { large = (steps.resume pair.small.flash number (Writing r bytes) Written pair.large).state }; next = pairs.next_of outcome order })
    go None outcome o (inl f) = record { opens = o; tells = inl f }
    go None outcome o (inr f) = record { opens = o; tells = inr (r, (f.0, f.1)) }
    go (Some (engine.Read page)) outcome o (inl f) = record { opens = o; tells = inl f }
    go (Some (engine.Read page)) outcome o (inr f) = record { opens = o; tells = inr (r, (f.0, f.1)) }
    go (Some (engine.Write page b)) outcome o (inl f) = record { opens = o; tells = inl f }
    go (Some (engine.Write page b)) outcome o (inr f) = record { opens = o; tells = inr (r, (f.0, f.1)) }
large_by number pair (Writing r bytes) Failed m e =
    let moved = steps.resume pair.small.flash number (Writing r bytes) Failed pair.large in
    some_by pair (pairs.by_large pair [] moved) m e (quiet_if_so pair (pairs.by_large pair [] moved) (large_next [] moved (refl, refl)))
large_by number pair (Getting reading) Written m e = absurd cc
large_by number pair (Getting reading) (Page page) m e =
    let moved = steps.resume pair.small.flash number (Getting reading) (Page page) pair.large in
    some_by pair (pairs.by_large pair [] moved) m e (quiet_if_so pair (pairs.by_large pair [] moved) (large_next [] moved (got_quiet pair.small.flash number reading page (block.end_job number pair.large))))
large_by number pair (Getting reading) Failed m e =
    let moved = steps.resume pair.small.flash number (Getting reading) Failed pair.large in
    let s = block.end_job number pair.large in
    some_by pair (pairs.by_large pair [] moved) m e (quiet_if_so pair (pairs.by_large pair [] moved) (large_next [] moved (let_go_quiet reading.place.region (steps.failed_read pair.small.flash reading s) (failed_quiet pair.small.flash reading s))))

small_by : (number : ℕ) (pair : Pair) (job : bighash.Job) (o : Option bighash.Moved) (m : pairs.Moved) → ((x : bighash.Moved) → o ≡ Some x → QuietNext x.next) → option_map (λ (moved : bighash.Moved). pairs.after_small number job.op (pairs.by_small pair moved)) o ≡ Some m → FlushesIf pair m
small_by number pair job None m q e = absurd cc
small_by number pair job (Some x) m q e =
    some_by pair (pairs.after_small number job.op (pairs.by_small pair x)) m e (quiet_if_so pair (pairs.after_small number job.op (pairs.by_small pair x)) (then_quiet number job.op (record pair { small = x.state }) x.next (q x refl)))

job_quiet : (s : BigHash) (job : bighash.Job) (plan : Option Plan) (x : bighash.Moved) → bighash.resumed s job plan ≡ Some x → QuietNext x.next
job_quiet s job None x e = absurd cc
job_quiet s job (Some plan) x e = let same : bighash.moved s job.number job.bucket job.op plan ≡ x = cc in subst (λ (y : bighash.Moved). QuietNext y.next) same (plan_quiet s.flash.page job.bucket job.op plan)

pub resume_flushes : (number : ℕ) (result : IoResult) (pair : Pair) (m : pairs.Moved) → pairs.resume number result pair ≡ Some m → FlushesIf pair m
resume_flushes number result pair m e = go (bighash.job_at number pair.small.jobs) refl e
  where
    large : (o : Option Work) → pairs.resume_large number result pair o ≡ Some m → FlushesIf pair m
    large None e = absurd cc
    large (Some work) e = large_by number pair work result m e

    go : (o : Option bighash.Job) → bighash.job_at number pair.small.jobs ≡ o → pairs.resume_in number result pair o ≡ Some m → FlushesIf pair m
    go None at e = large (block.work_of number pair.large.jobs) e
    go (Some job) at e = small_by number pair job (bighash.resume pair.small number result) m (λ x f. job_quiet pair.small job (went_on pair.small.flash.page job.op job.phase result) x (sym (ap (λ o. bighash.resume_job pair.small o result) at) ∙ f)) e
