-- Each take, each result that is handed in and each reclaim keeps what the notes tell of regions.
use Rattle.std.proofs.Common.{◌≡◌, ℕ, ◌+◌, Bool, true, false, List, [], ◌∷◌, ◌++◌, length, Option, Some, None, refl, ap, sym, ◌∙◌, subst}
use Rattle.std.specs.Prelude.{if◌then◌else◌, option_map}
use Rattle.hc_types.specs.Places.{is_small_by}
use Rattle.hc_types.specs.declared.config.FlashConfig.{FlashConfig}
use Rattle.hc_types.specs.FlashEntry.{FlashEntry}
use Rattle.hc_engines.specs.Engine as engine
use Rattle.hc_engines.specs.Engine.{Op, Put, Get, Delete, Flush, Reclaim, Order, IoResult, Answer, Absent, Over, Nothing, Found, Loss, Outcome, Next, Busy, Io, Done}
use Rattle.hc_engines.specs.small.BigHash as bighash
use Rattle.hc_engines.specs.small.BigHash.{BigHash, Plan}
use Rattle.hc_engines.specs.large.Region.{region_at, page_no, can_go}
use Rattle.hc_engines.specs.large.Block as block
use Rattle.hc_engines.specs.large.Block.{Block, Writing, Getting}
use Rattle.hc_engines.specs.large.Steps as steps
use Rattle.hc_engines.specs.large.Sound.{Sound}
use Rattle.hc_engines.specs.pair.Pair as pairs
use Rattle.hc_engines.specs.pair.Pair.{Pair, after_losses}
use Rattle.hc_history.specs.Note.{Note, Unqueued, Writing as BeginsWriting, Wrote}
use Rattle.hc_history.specs.Lawful.{past}
use Rattle.hc_machine.specs.Nvm.{Nvm, Tombstone, Fill, Task, Putting, Deleting, Filling, Flushing, Job, without_job, ordered, fill_by, next_put, next_delete, next_fill, without_put, taken_stone, taken_fill}
use Rattle.hc_machine.specs.Leaving.{Changed}
use Rattle.hc_machine.specs.Takes as takes
use Rattle.hc_machine.specs.Takes.{Taken, result_note, holds, settled, fill_out, finished, ends, launched, take_sized, take_put, take_delete, take_flush, take_fill, goes_on, resumed, reclaimed_by}
use Rattle.hc_invariant.specs.Good.{EnginesFit}
use Rattle.hc_invariant.specs.Jobs.{small_order, large_order}
use Rattle.hc_proof.proofs.shapes.EngineShapes.{opened_by, get_begins, reclaim_quiet, resume_flushes}
use Rattle.hc_theorem.proofs.runs.WritesAlone.{Runs, OfSmall, OfLarge}
use Rattle.hc_theorem.proofs.buckets.FirstNote.{own-job}
use Rattle.hc_theorem.specs.idle.Accounted.{Accounted, opened_on}
use Rattle.hc_laws.proofs.walk.Parts.{holds_leaves, settled_leaves}
use Rattle.hc_theorem.proofs.idle.StillParts.{still}
use Rattle.hc_theorem.proofs.idle.Accounts.{put_accounts, flush_accounts, reclaim_accounts, get_accounts}
use Rattle.hc_theorem.proofs.idle.AccountsOfResults.{written_accounts, failed_accounts, read_accounts}
use Rattle.hc_theorem.proofs.idle.AccountsPass.{read_pages, small_pages, same_accounts, calm_accounts, accounts_behind}

-- ---- an operation is over, or begins

ends_accounts : (flash : FlashConfig) (older : List Note) (number : ℕ) (task : Task) (outcome : Outcome) (nvm : Nvm) → Accounted flash (opened_on outcome.opened older) nvm.pair.large
    → Accounted flash (past older (ends number task outcome nvm).part) (ends number task outcome nvm).nvm.pair.large
ends_accounts flash older number task outcome nvm a = go task (settled task outcome nvm) (accounts_behind flash older outcome nvm (settled task outcome nvm) (settled_leaves still task outcome nvm) a)
  where
    out : (o : Option Fill) (change : Changed) → Accounted flash (past older change.part) change.nvm.pair.large → Accounted flash (past older (fill_out o outcome.answer change).part) (fill_out o outcome.answer change).nvm.pair.large
    out None change h = h
    out (Some one) change h = h

    go : (t : Task) (change : Changed) → Accounted flash (past older change.part) change.nvm.pair.large → Accounted flash (past older (finished t number outcome.answer change).part) (finished t number outcome.answer change).nvm.pair.large
    go (Putting key) change h = h
    go (Deleting key) change h = h
    go Filling change h = out (fill_by number change.nvm.fills) change h
    go Flushing change h = h

launched_accounts : (flash : FlashConfig) (older : List Note) (task : Task) (next : Next) (nvm : Nvm) → Accounted flash (opened_on (opened_by next) older) nvm.pair.large → Accounted flash (past older (launched task next nvm).part) (launched task next nvm).nvm.pair.large
launched_accounts flash older task Busy nvm a = a
launched_accounts flash older task (Io order outcome) nvm a =
    let more : Nvm = record nvm { jobs = nvm.jobs ++ record { number = nvm.made + 1; task = task; order = order } ∷ []; made = nvm.made + 1 } in
    accounts_behind flash older outcome more (holds outcome more) (holds_leaves still outcome more) a
launched_accounts flash older task (Done outcome) nvm a = ends_accounts flash older (nvm.made + 1) task outcome nvm a

goes_on_accounts : (flash : FlashConfig) (older : List Note) (job : Job) (next : Next) (nvm : Nvm) → Accounted flash (opened_on (opened_by next) older) nvm.pair.large → Accounted flash (past older (goes_on job next nvm).part) (goes_on job next nvm).nvm.pair.large
goes_on_accounts flash older job Busy nvm a = a
goes_on_accounts flash older job (Io order outcome) nvm a =
    let more : Nvm = record nvm { jobs = ordered job.number order nvm.jobs } in
    accounts_behind flash older outcome more (holds outcome more) (holds_leaves still outcome more) a
goes_on_accounts flash older job (Done outcome) nvm a = ends_accounts flash older job.number job.task outcome (record nvm { jobs = without_job job.number nvm.jobs }) a

-- nothing was opened
none_opened : (flash : FlashConfig) (older : List Note) (o : Option ℕ) (s : Block) → o ≡ None → Accounted flash older s → Accounted flash (opened_on o older) s
none_opened flash older o s e a = subst (λ (o : Option ℕ). Accounted flash (opened_on o older) s) (sym e) a

-- ---- the small engine opens no region, and its configuration stays

record IsSmall (s : BigHash) (m : bighash.Moved) : Type 0 where
  flash : m.state.flash ≡ s.flash
  unopened : opened_by m.next ≡ None

planned : (s : BigHash) (number bucket : ℕ) (op : Op) (plan : Plan) → IsSmall s (bighash.moved s number bucket op plan)
planned s number bucket op bighash.ToRead = record { flash = refl; unopened = refl }
planned s number bucket op (bighash.ToWrite es losses) = record { flash = refl; unopened = refl }
planned s number bucket op (bighash.ToEnd answer) = record { flash = refl; unopened = refl }
planned s number bucket op (bighash.ToKeep word losses) = record { flash = refl; unopened = refl }
planned s number bucket op bighash.ToGiveUp = record { flash = refl; unopened = refl }

small_starts : (s : BigHash) (number : ℕ) (op : Op) → IsSmall s (bighash.start s number op)
small_starts s number op = go (bighash.our_bucket s.flash op)
  where
    busy : (t : Bool) (bucket : ℕ) → IsSmall s (if t then record { state = s; next = Busy } else bighash.moved s number bucket op (bighash.begun (bighash.word_at s bucket) op))
    busy true bucket = record { flash = refl; unopened = refl }
    busy false bucket = planned s number bucket op (bighash.begun (bighash.word_at s bucket) op)

    go : (o : Option ℕ) → IsSmall s (bighash.start_at s number op o)
    go None = record { flash = refl; unopened = refl }
    go (Some bucket) = busy (bighash.is_busy bucket s.jobs) bucket

small_resumes : (s : BigHash) (number : ℕ) (result : IoResult) (m : bighash.Moved) → bighash.resume s number result ≡ Some m → IsSmall s m
small_resumes s number result m e = go (bighash.job_at number s.jobs) e
  where
    by : (job : bighash.Job) (plan : Option Plan) → bighash.resumed s job plan ≡ Some m → IsSmall s m
    by job None e = absurd cc
    by job (Some plan) e = let same : bighash.moved s job.number job.bucket job.op plan ≡ m = cc in subst (IsSmall s) same (planned s job.number job.bucket job.op plan)

    go : (o : Option bighash.Job) → bighash.resume_job s o result ≡ Some m → IsSmall s m
    go None e = absurd cc
    go (Some job) e = by job (bighash.went_on s.flash.page job.op job.phase result) e

-- ---- the large engine

large_opened : (before : List Loss) (outcome : Outcome) (order : Option Order) → opened_by (pairs.next_of (after_losses before outcome) order) ≡ outcome.opened
large_opened before outcome None = refl
large_opened before outcome (Some order) = refl

flush_opens : (flash : FlashConfig) (number : ℕ) (s : Block) → (steps.flush flash number s).outcome.opened ≡ None
flush_opens flash number s = go (steps.first_ready s.regions s.sealed)
  where
    by : (t : Bool) (r : ℕ) → (if t then steps.write_out flash number r (record (region_at r s.regions) { early = true }) s else block.unmoved s).outcome.opened ≡ None
    by true r = refl
    by false r = refl

    early : (o : Option ℕ) → (steps.early_of flash number s o).outcome.opened ≡ None
    early None = refl
    early (Some r) = by (can_go flash (region_at r s.regions)) r

    go : (o : Option ℕ) → (steps.flush_of flash number s o).outcome.opened ≡ None
    go None = early s.current
    go (Some r) = refl

module _ (flash : FlashConfig) where
  -- a get that found nothing in the small engine goes on in the large one
  then_accounts : (older : List Note) (number : ℕ) (op : Op) (pair : Pair) (next : Next) → pair.small.flash ≡ flash → Sound flash pair.large → Accounted flash older pair.large → Accounted flash older (pairs.then_large number op pair next).pair.large
  then_accounts older number op pair next same sound a = go op next
    where
      got : (key : List ℕ) → Accounted flash older (steps.get pair.small.flash number key pair.large).state
      got key = subst (λ (f : FlashConfig). Accounted flash older (steps.get f number key pair.large).state) (sym same) (get_accounts flash number key older pair.large sound a)

      on : (key : List ℕ) (outcome : Outcome) (answer : Answer) → Accounted flash older (pairs.went_on number key pair outcome answer).pair.large
      on key outcome Absent = got key
      on key outcome Nothing = a
      on key outcome Over = a
      on key outcome (Found entry) = a

      go : (op : Op) (next : Next) → Accounted flash older (pairs.then_large number op pair next).pair.large
      go (Get key) Busy = a
      go (Get key) (Io order outcome) = a
      go (Get key) (Done outcome) = on key outcome outcome.answer
      go (Put entry) next = a
      go (Delete key) next = a
      go Flush next = a
      go Reclaim next = a

  -- ---- operations that begin

  module _ (older : List Note) (number : ℕ) (pair : Pair) (same : pair.small.flash ≡ flash) (sound : Sound flash pair.large) (a : Accounted flash older pair.large) where
    -- the operation left it so
    abbrev KeptBy : pairs.Moved → Type 0
    KeptBy m = Accounted flash (opened_on (opened_by m.next) older) m.pair.large

    put_kept : (entry : FlashEntry) → KeptBy (pairs.start number (Put entry) pair)
    put_kept entry = go (is_small_by pair.small.flash entry.key (length entry.value))
      where
        m : block.Moved
        m = steps.put flash entry pair.large

        large : KeptBy (pairs.by_large pair [] (steps.put flash entry pair.large))
        large = subst (λ (o : Option ℕ). Accounted flash (opened_on o older) m.state) (sym (large_opened [] m.outcome m.order)) (put_accounts flash entry older pair.large sound a)

        go : (t : Bool) → KeptBy (if t then pairs.by_small pair (bighash.start pair.small number (Put entry)) else pairs.by_large pair [] (steps.put pair.small.flash entry pair.large))
        go true = none_opened flash older _ pair.large (small_starts pair.small number (Put entry)).unopened a
        go false = subst (λ (f : FlashConfig). KeptBy (pairs.by_large pair [] (steps.put f entry pair.large))) (sym same) large

    delete_kept : (key : List ℕ) → KeptBy (pairs.start number (Delete key) pair)
    delete_kept key = none_opened flash older _ pair.large (small_starts pair.small number (Delete key)).unopened a

    flush_kept : KeptBy (pairs.start number Flush pair)
    flush_kept =
        let m = steps.flush flash number pair.large in
        subst (λ (f : FlashConfig). KeptBy (pairs.by_large pair [] (steps.flush f number pair.large))) (sym same)
        (none_opened flash older _ m.state (large_opened [] m.outcome m.order ∙ flush_opens flash number pair.large) (flush_accounts flash number older pair.large sound a))

    get_kept : (key : List ℕ) → KeptBy (pairs.start number (Get key) pair)
    get_kept key =
        let m = bighash.start pair.small number (Get key) in
        none_opened flash older _ _ (get_begins number key pair).unopened
        (then_accounts older number (Get key) (record pair { small = m.state }) m.next ((small_starts pair.small number (Get key)).flash ∙ same) sound a)

  -- ---- takes

  module _ (older : List Note) (nvm : Nvm) (same : nvm.pair.small.flash ≡ flash) (sound : Sound flash nvm.pair.large) (a : Accounted flash older nvm.pair.large) where
    abbrev KeptAfter : Taken → Type 0
    KeptAfter taken = Accounted flash (past older taken.part) taken.nvm.pair.large

    sized_accounts : (t : Bool) (put : FlashEntry) → KeptAfter (take_sized t put (record nvm { queue = without_put put.key nvm.queue }))
    sized_accounts true put =
        let told : List Note = BeginsWriting put.key ∷ Unqueued put.key ∷ older in
        let m = pairs.start (nvm.made + 1) (Put put) nvm.pair in
        launched_accounts flash told (Putting put.key) m.next (record nvm { queue = without_put put.key nvm.queue; pair = m.pair })
        (put_kept told (nvm.made + 1) nvm.pair same sound (calm_accounts flash older (Unqueued put.key ∷ BeginsWriting put.key ∷ []) nvm.pair.large refl a) put)
    sized_accounts false put =
        let told : List Note = Unqueued put.key ∷ older in
        let m = pairs.start (nvm.made + 1) (Put put) nvm.pair in
        launched_accounts flash told Flushing m.next (record nvm { queue = without_put put.key nvm.queue; pair = m.pair })
        (put_kept told (nvm.made + 1) nvm.pair same sound (calm_accounts flash older (Unqueued put.key ∷ []) nvm.pair.large refl a) put)

    put_taken : (o : Option FlashEntry) → KeptAfter (take_put o nvm)
    put_taken None = a
    put_taken (Some put) = sized_accounts (is_small_by nvm.pair.small.flash put.key (length put.value)) put

    delete_taken : (o : Option Tombstone) → KeptAfter (take_delete o nvm)
    delete_taken None = put_taken (next_put nvm)
    delete_taken (Some stone) =
        let m = pairs.start (nvm.made + 1) (Delete stone.key) nvm.pair in
        launched_accounts flash older (Deleting stone.key) m.next (record nvm { tombstones = taken_stone stone.key nvm.tombstones; pair = m.pair }) (delete_kept older (nvm.made + 1) nvm.pair same sound a stone.key)

    flush_taken : (next : Next) (pair : Pair) → Accounted flash (opened_on (opened_by next) older) pair.large → KeptAfter (take_flush next pair nvm)
    flush_taken (Io order outcome) pair h = launched_accounts flash older Flushing (Io order outcome) (record nvm { pair = pair }) h
    flush_taken Busy pair h = delete_taken (next_delete nvm)
    flush_taken (Done outcome) pair h = delete_taken (next_delete nvm)

    pub writer_accounts : KeptAfter (takes.writer_take nvm)
    writer_accounts = let m = pairs.start (nvm.made + 1) Flush nvm.pair in flush_taken m.next m.pair (flush_kept older (nvm.made + 1) nvm.pair same sound a)

    fill_taken : (o : Option Fill) → KeptAfter (take_fill o nvm)
    fill_taken None = a
    fill_taken (Some fill) =
        let m = pairs.start (nvm.made + 1) (Get fill.key) nvm.pair in
        launched_accounts flash older Filling m.next (record nvm { fills = taken_fill fill.key (nvm.made + 1) nvm.fills; pair = m.pair }) (get_kept older (nvm.made + 1) nvm.pair same sound a fill.key)

    pub filler_accounts : KeptAfter (takes.filler_take nvm)
    filler_accounts = fill_taken (next_fill nvm)

    -- ---- reclaim

    pub reclaimed_accounts : Accounted flash (past older (takes.reclaim nvm).change.part) (takes.reclaim nvm).change.nvm.pair.large
    reclaimed_accounts = by (steps.reclaim nvm.pair.small.flash nvm.pair.large).outcome.reclaimed
      where
        m : block.Moved
        m = steps.reclaim nvm.pair.small.flash nvm.pair.large

        less : Nvm
        less = record nvm { pair = record nvm.pair { large = m.state } }

        left : Accounted flash older m.state
        left = subst (λ (f : FlashConfig). Accounted flash older (steps.reclaim f nvm.pair.large).state) (sym same) (reclaim_accounts flash older nvm.pair.large sound a)

        by : (given : Option ℕ) → Accounted flash (past older (reclaimed_by given (steps.reclaim nvm.pair.small.flash nvm.pair.large) nvm).change.part) (reclaimed_by given (steps.reclaim nvm.pair.small.flash nvm.pair.large) nvm).change.nvm.pair.large
        by None = a
        by (Some region) = accounts_behind flash older m.outcome less (settled Flushing m.outcome less) (settled_leaves still Flushing m.outcome less) (none_opened flash older m.outcome.opened m.state (reclaim_quiet nvm.pair.small.flash nvm.pair.large).1 left)

  -- ---- results

  module _ (older : List Note) (nvm : Nvm) (fit : EnginesFit flash older nvm) (a : Accounted flash older nvm.pair.large) (number : ℕ) (result : IoResult) where
    -- the result is told, and the engine goes on
    abbrev WentOn : Order → pairs.Moved → Type 0
    WentOn order m = Accounted flash (result_note order result ∷ older) m.pair.large

    small_went : (order : Order) (x : bighash.Job) (m : pairs.Moved) → bighash.job_at number nvm.pair.small.jobs ≡ Some x → order ≡ small_order nvm.pair x → pairs.resume_in number result nvm.pair (Some x) ≡ Some m → WentOn order m
    small_went order x m at is e = go (bighash.resume nvm.pair.small number result) refl e
      where
        told : Accounted flash (result_note (small_order nvm.pair x) result ∷ older) nvm.pair.large
        told = same_accounts flash older _ nvm.pair.large (small_pages flash older nvm.pair x result (own-job flash older nvm number x fit at).below) a

        go : (o : Option bighash.Moved) → bighash.resume nvm.pair.small number result ≡ o → option_map (λ (moved : bighash.Moved). pairs.after_small number x.op (pairs.by_small nvm.pair moved)) o ≡ Some m → WentOn order m
        go None r e = absurd cc
        go (Some y) r e =
            let same : pairs.after_small number x.op (pairs.by_small nvm.pair y) ≡ m = cc in
            let went = then_accounts (result_note (small_order nvm.pair x) result ∷ older) number x.op (record nvm.pair { small = y.state }) y.next ((small_resumes nvm.pair.small number result y r).flash ∙ fit.same) fit.large_sound told in
            subst (λ (o : Order). WentOn o m) (sym is) (subst (WentOn (small_order nvm.pair x)) same went)

    large_went : (order : Order) (work : block.Work) (m : pairs.Moved) → block.work_of number nvm.pair.large.jobs ≡ Some work → order ≡ large_order nvm.pair work → pairs.resume_work number result nvm.pair work ≡ Some m → WentOn order m
    large_went order work m at is e = subst (λ (o : Order). WentOn o m) (sym is) (go work result at e)
      where
        s : Block
        s = nvm.pair.large

        -- the engine's configuration is the one that is meant
        by_same : (work : block.Work) (result : IoResult) (history : List Note) → Accounted flash history (steps.resume flash number work result s).state → Accounted flash history (steps.resume nvm.pair.small.flash number work result s).state
        by_same work result history h = subst (λ (f : FlashConfig). Accounted flash history (steps.resume f number work result s).state) (sym fit.same) h

        moved_by : (work : block.Work) (result : IoResult) (history : List Note) → Some (pairs.by_large nvm.pair [] (steps.resume nvm.pair.small.flash number work result s)) ≡ Some m → Accounted flash history (steps.resume flash number work result s).state → Accounted flash history m.pair.large
        moved_by work result history e h = let same : pairs.by_large nvm.pair [] (steps.resume nvm.pair.small.flash number work result s) ≡ m = cc in subst (λ (m : pairs.Moved). Accounted flash history m.pair.large) same (by_same work result history h)

        page : (r : ℕ) → page_no flash r (region_at r s.regions).written ≡ page_no nvm.pair.small.flash r (region_at r s.regions).written
        page r = ap (λ (f : FlashConfig). page_no f r (region_at r s.regions).written) (sym fit.same)

        -- the page that was read is told, whatever came of it
        read_on : (reading : block.Reading) (result : IoResult) → block.work_of number s.jobs ≡ Some (Getting reading) → Some (pairs.by_large nvm.pair [] (steps.resume nvm.pair.small.flash number (Getting reading) result s)) ≡ Some m
            → Accounted flash (result_note (large_order nvm.pair (Getting reading)) result ∷ older) m.pair.large
        read_on reading result at e =
            let history : List Note = result_note (large_order nvm.pair (Getting reading)) result ∷ older in
            moved_by (Getting reading) result history e (read_accounts flash number reading result history s fit.large_sound at (same_accounts flash older history s (read_pages flash older _ result) a))

        go : (work : block.Work) (result : IoResult) → block.work_of number s.jobs ≡ Some work → pairs.resume_work number result nvm.pair work ≡ Some m → Accounted flash (result_note (large_order nvm.pair work) result ∷ older) m.pair.large
        go (Writing r bytes) (engine.Page read) at e = absurd cc
        go (Writing r bytes) engine.Written at e =
            subst (λ (p : ℕ). Accounted flash (Wrote p bytes true ∷ older) m.pair.large) (page r) (moved_by (Writing r bytes) engine.Written (Wrote (page_no flash r (region_at r s.regions).written) bytes true ∷ older) e (written_accounts flash number r bytes bytes older s fit.large_sound at a))
        go (Writing r bytes) engine.Failed at e =
            subst (λ (p : ℕ). Accounted flash (Wrote p bytes false ∷ older) m.pair.large) (page r) (moved_by (Writing r bytes) engine.Failed (Wrote (page_no flash r (region_at r s.regions).written) bytes false ∷ older) e (failed_accounts flash number r bytes bytes older s fit.large_sound at a))
        go (Getting reading) (engine.Page read) at e = read_on reading (engine.Page read) at e
        go (Getting reading) engine.Written at e = absurd cc
        go (Getting reading) engine.Failed at e = read_on reading engine.Failed at e

    pub result_accounts : (job : Job) (m : pairs.Moved) → Runs nvm number job.order → pairs.resume number result nvm.pair ≡ Some m → Accounted flash (past older (resumed job result nvm m).part) (resumed job result nvm m).nvm.pair.large
    result_accounts job m runs e = goes_on_accounts flash (result_note job.order result ∷ older) job m.next (record nvm { pair = m.pair }) (none_opened flash _ (opened_by m.next) m.pair.large (resume_flushes number result nvm.pair m e).opens (by runs))
      where
        by : Runs nvm number job.order → WentOn job.order m
        by (OfSmall x at none is) = small_went job.order x m at is (sym (ap (pairs.resume_in number result nvm.pair) at) ∙ e)
        by (OfLarge work none at is) = large_went job.order work m at is (sym (ap (pairs.resume_large number result nvm.pair) at) ∙ sym (ap (pairs.resume_in number result nvm.pair) none) ∙ e)
