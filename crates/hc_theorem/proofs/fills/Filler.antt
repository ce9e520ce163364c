-- The filler takes a fill: its get waits for a page, or is over at once and the fill ends.
use Rattle.std.proofs.Common.{◌≡◌, ⊎_elim, ℕ, ◌+◌, ◌<◌, ◌≤◌, Bool, true, false, not, ◌&&◌, List, [], ◌∷◌, ◌++◌, find, Option, Some, None, refl, ap, sym, ◌∙◌, arith, cond, subst}
use Rattle.std.specs.Prelude.{is_some}
use Rattle.std.specs.Str.{bytes_eq}
use Rattle.hc_types.specs.Places.{bucket_at}
use Rattle.hc_types.specs.Tally.{count}
use Rattle.hc_types.specs.declared.config.PoolSize.{PoolSize}
use Rattle.hc_types.specs.declared.config.FlashConfig.{FlashConfig}
use Rattle.hc_types.specs.FlashEntry.{FlashEntry}
use Rattle.hc_engines.specs.Engine.{Get, Absent, Read, nothing}
use Rattle.hc_engines.specs.small.BigHash as bighash
use Rattle.hc_engines.specs.small.BigHash.{could_hold, is_busy}
use Rattle.hc_engines.specs.small.Held as small
use Rattle.hc_engines.specs.large.Block as block
use Rattle.hc_engines.specs.large.Block.{Block, Getting, Work, finished}
use Rattle.hc_engines.specs.large.Region.{page_no}
use Rattle.hc_engines.specs.large.Fits.{answer_by}
use Rattle.hc_engines.specs.large.Held as large
use Rattle.hc_engines.specs.large.Laws.{IsFree}
use Rattle.hc_engines.specs.large.Steps as steps
use Rattle.hc_machine.proofs.items.Items.{bytes_eq-refl}
use Rattle.hc_engines.proofs.large.HeldKeys.{held_own}
use Rattle.hc_history.specs.Note.{Note}
use Rattle.hc_history.specs.Pages.{bytes_at}
use Rattle.hc_history.specs.Regions.{put_under_way, is_put_of}
use Rattle.hc_engines.specs.pair.Pair.{is_busy_for}
use Rattle.hc_machine.specs.Nvm.{Nvm, Fill, Filling, fill_at, is_fill_of, is_number_in, next_fill, without_fill}
use Rattle.hc_machine.specs.Cache.{Cache, with_nvm}
use Rattle.hc_machine.specs.Takes as takes
use Rattle.hc_machine.specs.Takes.{Taken, take_fill, found_in}
use Rattle.hc_machine.specs.Workers.{after_take, take_on}
use Rattle.hc_invariant.specs.Standing.{written_by}
use Rattle.hc_invariant.specs.Jobs.{Brings, small_job, large_work}
use Rattle.hc_invariant.specs.Good.{Agrees, FlashGood, Rested, Good}
use Rattle.hc_invariant.specs.Laws.{Keeps, FillerKeeps}
use Rattle.hc_theorem.specs.writer.Parts.{conf}
use Rattle.hc_theorem.proofs.writer.SmallStarts.{waits_so, ends_so, get_starts}
use Rattle.hc_theorem.proofs.writer.OneJobMore.{not-written}
use Rattle.hc_proof.specs.books.RegionBooks.{GetTells, GetGives, GetReads, OthersStay, but, LargeKeeps}
use Rattle.hc_proof.proofs.jobs.LargeJobs.{with_large, jobs_come}
use Rattle.hc_proof.proofs.jobs.FillsStand.{nobody_idle}
use Rattle.hc_proof.proofs.jobs.LargeFrame.{opened, large_fits, region_keeps, moved_to}
use Rattle.hc_proof.proofs.frames.ByNumber.{found-passes}
use Rattle.hc_proof.proofs.calls.NoWaiting.{small_told}
use Rattle.hc_theorem.specs.fills.Filling.{FillEnds}
use Rattle.hc_theorem.proofs.fills.Refill.{refilled, good_rejob}
use Rattle.hc_theorem.proofs.fills.FillLeaves.{fill_over}
use Rattle.hc_theorem.proofs.fills.GetWaits.{unbrought, one_brought, fill_waits}
use Rattle.hc_theorem.proofs.fills.Takes.{waits_small, waits_large, over_large}
use Rattle.hc_engines.proofs.large.Jobs.{free_of}
use Rattle.hc_proof.proofs.jobs.Steps.{but_false}

-- the fill that is found is its key's, where no key has two
fill_there : (test : Fill → Bool) (fills : List Fill) (fill : Fill) → find test fills ≡ Some fill → count (is_fill_of fill.key) fills ≤ 1 → fill_at fill.key fills ≡ Some fill
fill_there test [] fill e one = absurd cc
fill_there test (x ∷ fills) fill e one = by (test x) e (λ f. fill_there test fills fill f (omega (arith, one)))
  where
    counts : (fs : List Fill) → find test fs ≡ Some fill → 1 ≤ count (is_fill_of fill.key) fs
    counts [] e = absurd cc
    counts (y ∷ fs) e = go (test y) e (counts fs)
      where
        go : (t : Bool) → cond t (Some y) (find test fs) ≡ Some fill → (find test fs ≡ Some fill → 1 ≤ count (is_fill_of fill.key) fs) → 1 ≤ cond (is_fill_of fill.key y) 1 0 + count (is_fill_of fill.key) fs
        go true e more = let same : y ≡ fill = cc in let own : ◌≡◌ {A = ℕ} (cond (is_fill_of fill.key y) 1 0) 1 = ap {B = ℕ} (λ b. cond b 1 0) (ap (λ (f : Fill). bytes_eq f.key fill.key) same ∙ bytes_eq-refl fill.key) in omega (arith, own)
        go false e more = omega (arith, more e)

    behind : (b : Bool) → is_fill_of fill.key x ≡ b → find test fills ≡ Some fill → cond b 1 0 + count (is_fill_of fill.key) fills ≤ 1 → fill_at fill.key fills ≡ Some fill → cond b (Some x) (fill_at fill.key fills) ≡ Some fill
    behind true t e one rest = absurd (omega (arith, counts fills e))
    behind false t e one rest = rest

    by : (t : Bool) → cond t (Some x) (find test fills) ≡ Some fill → (find test fills ≡ Some fill → fill_at fill.key fills ≡ Some fill) → cond (is_fill_of fill.key x) (Some x) (fill_at fill.key fills) ≡ Some fill
    by true e ih = let same : x ≡ fill = cc in ap (λ (b : Bool). cond b (Some x) (fill_at fill.key fills)) (ap (λ (f : Fill). bytes_eq f.key fill.key) same ∙ bytes_eq-refl fill.key) ∙ ap (λ (f : Fill). Some f) same
    by false e ih = behind (is_fill_of fill.key x) refl e one (ih e)

-- what a get answers of what is held
answered : (o : Option FlashEntry) → found_in (answer_by o) ≡ o
answered None = refl
answered (Some entry) = refl

-- ---- a fill is taken

module _ (gets : GetTells) (gives : GetGives) (ends : FillEnds) (pools : List PoolSize) (flash : FlashConfig) (older : List Note) (cache : Cache) (nvm : Nvm) (fill : Fill) (g : Agrees (conf pools flash) older (with_nvm nvm cache)) (at : fill_at fill.key nvm.fills ≡ Some fill)
    (free : is_busy (bucket_at nvm.pair.small.flash fill.key) nvm.pair.small.jobs ≡ false) (rested : is_put_of fill.key (put_under_way flash older) ≡ false) where
  here : FlashGood flash older cache.memory nvm
  here = g.flash

  none_small : small_job nvm (nvm.made + 1) ≡ None
  none_small = here.jobs.small_ones (nvm.made + 1) (here.jobs.fresh (nvm.made + 1) (omega arith))

  none_large : large_work nvm (nvm.made + 1) ≡ None
  none_large = here.jobs.large_ones (nvm.made + 1) (here.jobs.fresh (nvm.made + 1) (omega arith))

  nobodys : count (λ (f : Fill). is_number_in (nvm.made + 1) f.job) nvm.fills ≡ 0
  nobodys = unbrought (bytes_at older) cache.memory nvm (nvm.made + 1) nvm.fills none_small none_large here.fills.each

  unwritten : written_by fill.key nvm.pair.small.jobs ≡ None
  unwritten = not-written nvm.pair.small.flash (bighash.word_at nvm.pair.small) (bytes_at older) fill.key nvm.pair.small.jobs here.engines.small_fits.jobs_fit free

  by_taken : (taken : Taken) → take_fill (Some fill) nvm ≡ taken → Keeps (conf pools flash) older (after_take taken (with_nvm nvm cache)) → Keeps (conf pools flash) older (after_take (take_fill (Some fill) nvm) (with_nvm nvm cache))
  by_taken taken e k = subst (λ (t : Taken). Keeps (conf pools flash) older (after_take t (with_nvm nvm cache))) (sym e) k

  small_reads : bighash.start nvm.pair.small (nvm.made + 1) (Get fill.key) ≡ waits_so nvm.pair.small (nvm.made + 1) (Get fill.key) bighash.Reading → Keeps (conf pools flash) older (after_take (take_fill (Some fill) nvm) (with_nvm nvm cache))
  small_reads e = by_taken _ (waits_small nvm fill e) (record { lawful = tt; good = fill_waits pools flash older cache nvm fill.key g e })

  -- the small engine has nothing
  module _ (e : bighash.start nvm.pair.small (nvm.made + 1) (Get fill.key) ≡ ends_so nvm.pair.small Absent) (absent : could_hold nvm.pair.small fill.key ≡ false) where
    nowhere : small.held nvm.pair.small (bytes_at older) fill.key ≡ None
    nowhere = small_told (bytes_at older) nvm fill.key here.engines.small_fits absent

    is_free : IsFree (nvm.made + 1) nvm.pair.large
    is_free = free_of (nvm.made + 1) nvm.pair.large.jobs none_large

    some_page : 0 < nvm.pair.small.flash.page
    some_page = omega (arith, here.engines.small_fits.limits.least_page)

    large_reads : (moved : block.Moved) → steps.get nvm.pair.small.flash (nvm.made + 1) fill.key nvm.pair.large ≡ moved → OthersStay (but (nvm.made + 1)) nvm.pair.large moved.state → GetReads nvm.pair.small.flash older (nvm.made + 1) fill.key nvm.pair.large moved
        → Keeps (conf pools flash) older (after_take (take_fill (Some fill) nvm) (with_nvm nvm cache))
    large_reads moved is others r =
        let m = nvm.made + 1 in
        let page = page_no nvm.pair.small.flash r.page.reading.place.region r.page.reading.next in
        let jobs = nvm.jobs ++ record { number = m; task = Filling; order = Read page } ∷ [] in
        let o = opened (conf pools flash) older (with_nvm nvm cache) nvm refl g in
        let fits = large_fits nvm.pair.small.flash older cache.memory nvm o.good in
        let read = with_large moved.state jobs m nvm in
        let one = region_keeps (conf pools flash) older [] (with_nvm nvm cache) nvm moved.state jobs m (but m) refl g (record {
          notes = tt;
          keeps = subst (λ (x : block.Moved). LargeKeeps (conf pools flash) nvm.pair.small.flash older [] nvm.pair.large x.state) is (gets (conf pools flash) nvm.pair.small.flash older m fill.key nvm.pair.large o.flash_is some_page is_free fits);
          works = others.works;
          goes = jobs_come nvm moved.state others Filling (Read page) (Getting r.page.reading) (λ key. refl) r.page.work refl here.jobs;
          moved = λ l key number f b. absurd (let same : number ≡ m = but_false m number f in nobody_idle (bytes_at older) nvm key (small_job nvm number) (large_work nvm number) (ap (small_job nvm) same ∙ none_small) (ap (large_work nvm) same ∙ none_large) b);
        }) in
        let brings : Brings (bytes_at older) read fill.key (small_job read m) (large_work read m) =
        subst (λ (w : Option Work). Brings (bytes_at older) read fill.key (small_job read m) w) (sym r.page.work) (subst (λ (j : Option bighash.Job). Brings (bytes_at older) read fill.key j (Some (Getting r.page.reading))) (sym none_small)
        (r.page.key_is, unwritten, nowhere, λ gone. absurd (let leads = r.leads in cc))) in
        by_taken _ (waits_large nvm fill moved page e is r.page.order r.page.outcome) (record {
          lawful = tt;
          good = good_rejob (conf pools flash) older (moved_to [] read (with_nvm nvm cache)) read fill.key (Some m) refl brings (λ n. one_brought n m fill.key nvm.fills nobodys (here.fills.one_each n) (here.fills.one fill.key)) one.good;
        })

    over : steps.get nvm.pair.small.flash (nvm.made + 1) fill.key nvm.pair.large ≡ finished nvm.pair.large (record nothing { answer = answer_by (large.held nvm.pair.small.flash (bytes_at older) nvm.pair.large fill.key) })
        → Keeps (conf pools flash) older (after_take (take_fill (Some fill) nvm) (with_nvm nvm cache))
    over is =
        let holds = large.held nvm.pair.small.flash (bytes_at older) nvm.pair.large fill.key in
        let found = found_in (answer_by holds) in
        by_taken _ (over_large nvm fill (answer_by holds) e is at nobodys)
        (ends (conf pools flash) older (refilled (without_fill fill.key nvm.fills) nvm (with_nvm nvm cache)) fill.key found fill.waiters
        (fill_over (conf pools flash) older (with_nvm nvm cache) nvm fill.key fill found refl g at unwritten nowhere (answered holds)
        (λ x h. held_own nvm.pair.small.flash (bytes_at older) nvm.pair.large fill.key x (sym (answered holds) ∙ h)) rested))

    large_asked : Keeps (conf pools flash) older (after_take (take_fill (Some fill) nvm) (with_nvm nvm cache))
    large_asked =
        let o = opened (conf pools flash) older (with_nvm nvm cache) nvm refl g in
        let two = gives nvm.pair.small.flash older (nvm.made + 1) fill.key nvm.pair.large some_page is_free (large_fits nvm.pair.small.flash older cache.memory nvm o.good) in
        ⊎_elim (λ r. large_reads (steps.get nvm.pair.small.flash (nvm.made + 1) fill.key nvm.pair.large) refl two.0 r) (λ is. over is) two.1

  fill_taken : Keeps (conf pools flash) older (after_take (take_fill (Some fill) nvm) (with_nvm nvm cache))
  fill_taken = ⊎_elim (λ e. small_reads e) (λ e. large_asked e.0 e.1) (get_starts nvm.pair.small (nvm.made + 1) fill.key free none_small)

-- ---- the filler

free_of_next : (a b : Bool) → (not a && not b) ≡ true → b ≡ false
free_of_next true b h = absurd cc
free_of_next false true h = absurd cc
free_of_next false false h = refl

rests : (flash : FlashConfig) (older : List Note) (nvm : Nvm) (key : List ℕ) (fill : Fill) → Rested (Some flash) older (Some nvm) → fill_at key nvm.fills ≡ Some fill → is_put_of key (put_under_way flash older) ≡ false
rests flash older nvm key fill rested at = by (is_put_of key (put_under_way flash older)) refl
  where
    by : (t : Bool) → is_put_of key (put_under_way flash older) ≡ t → t ≡ false
    by true e = absurd (let none = rested key e in cc)
    by false e = refl

by_next : (gets : GetTells) (gives : GetGives) (ends : FillEnds) (pools : List PoolSize) (flash : FlashConfig) (older : List Note) (cache : Cache) (nvm : Nvm) (o : Option Fill) → next_fill nvm ≡ o → Rested (Some flash) older (Some nvm) → Agrees (conf pools flash) older (with_nvm nvm cache)
    → Keeps (conf pools flash) older (after_take (take_fill o nvm) (with_nvm nvm cache))
by_next gets gives ends pools flash older cache nvm None e rested g = record { lawful = tt; good = g }
by_next gets gives ends pools flash older cache nvm (Some fill) e rested g =
    let f : FlashGood flash older cache.memory nvm = g.flash in
    let test : Fill → Bool = λ x. not (is_some x.job) && not (is_busy_for nvm.pair x.key) in
    let at = fill_there test nvm.fills fill e (f.fills.one fill.key) in
    fill_taken gets gives ends pools flash older cache nvm fill g at (free_of_next (is_some fill.job) (is_busy_for nvm.pair fill.key) (found-passes test nvm.fills fill e)) (rests flash older nvm fill.key fill rested at)

by_flash : (gets : GetTells) (gives : GetGives) (ends : FillEnds) (pools : List PoolSize) (flash : Option FlashConfig) (older : List Note) (cache : Cache) (nvm : Option Nvm) → Rested flash older nvm → Agrees (record { pools = pools; flash = flash }) older (record cache { nvm = nvm })
    → Keeps (record { pools = pools; flash = flash }) older (take_on nvm takes.filler_take (record cache { nvm = nvm }))
by_flash gets gives ends pools flash older cache None rested g = record { lawful = tt; good = g }
by_flash gets gives ends pools None older cache (Some nvm) rested g = absurd g.flash
by_flash gets gives ends pools (Some flash) older cache (Some nvm) rested g = by_next gets gives ends pools flash older cache nvm (next_fill nvm) refl rested g

pub filler_keeps : GetTells → GetGives → FillEnds → FillerKeeps Good Agrees
filler_keeps gets gives ends config older cache g = by_flash gets gives ends config.pools config.flash older cache cache.nvm g.rested g.agrees
