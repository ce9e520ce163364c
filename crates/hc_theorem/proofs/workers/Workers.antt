-- The takes follow, and reclaim does.
use Rattle.std.proofs.Common.{◌≡◌, ℕ, ◌==◌, nat_lt, Bool, true, false, ◌&&◌, List, [], ◌∷◌, ◌++◌, Option, Some, None, refl, ap, sym, ◌∙◌, subst}
use Rattle.std.specs.Prelude.{if◌then◌else◌}
use Rattle.std.proofs.lemmas.Bool.{eq-eqb}
use Rattle.std.proofs.lemmas.List.{append-nil}
use Rattle.hc_types.specs.Config.{Config}
use Rattle.hc_types.specs.declared.config.FlashConfig.{FlashConfig}
use Rattle.hc_engines.specs.large.Block as block
use Rattle.hc_engines.specs.large.Steps as steps
use Rattle.hc_engines.specs.large.Numbers.{is_in}
use Rattle.hc_engines.specs.large.Region.{Region, is_draining, region_at}
use Rattle.hc_history.specs.Note.{Note}
use Rattle.hc_history.specs.Regions.{flushed, is_one_of}
use Rattle.hc_history.specs.Lawful.{past}
use Rattle.hc_machine.specs.Nvm.{Nvm}
use Rattle.hc_machine.specs.Leaving.{Changed}
use Rattle.hc_machine.specs.Takes as takes
use Rattle.hc_machine.specs.Takes.{Take, Idle, Finished, Work, Taken}
use Rattle.hc_machine.specs.Cache.{Cache, Took, Reclaimed}
use Rattle.hc_machine.specs.Workers.{after_take, take_on, after_reclaim, reclaim_on}
use Rattle.hc_machine.specs.World.{Says, by_call}
use Rattle.hc_machine.specs.Schedule.{Scene, WriterTake, FillerTake, Reclaim, Tells, in_world}
use Rattle.hc_invariant.specs.Tells.{CallsTell, waiters_of}
use Rattle.hc_invariant.specs.Good.{Agrees, FlashGood, fills_of}
use Rattle.hc_proof.proofs.books.RegionsInUse.{in-reverse}
use Rattle.hc_theorem.specs.runs.Scene.{SceneHolds}
use Rattle.hc_follows.specs.Desk.{Out, Desk}
use Rattle.hc_follows.specs.Idle.{is_written_out, is_looked_up, is_clean_enough, wants_clean}
use Rattle.hc_follows.specs.Workers.{ReclaimPart, jobs_after}
use Rattle.hc_theorem.specs.idle.Stones.{StonesRun, StonesOf}
use Rattle.hc_theorem.specs.idle.Accounted.{Accounted}
use Rattle.hc_theorem.specs.idle.AccountsKept.{AccountsOf}
use Rattle.hc_theorem.proofs.idle.Idle.{writer_idles, filler_idles, reclaim_idles, writer_rests, filler_rests, reclaim_rests}
use Rattle.hc_theorem.proofs.idle.TakesStill.{writer_so, filler_so, reclaim_so}
use Rattle.hc_theorem.specs.clients.Matches.{Matches}
use Rattle.hc_theorem.specs.clients.Deeds.{Followed, DeedFollows, WriterFollows, WorkersFollow}
use Rattle.hc_theorem.proofs.clients.Stepping.{good_at}
use Rattle.hc_theorem.proofs.workers.Filled.{writer_fills, filler_fills, reclaim_fills}
use Rattle.hc_theorem.proofs.workers.JobsOut.{outs_by}
use Rattle.hc_theorem.proofs.workers.Made.{still_matches, io_follows}
use Rattle.hc_theorem.proofs.clients.Telling.{mute_calls}
use Rattle.hc_theorem.proofs.workers.Takes.{OnFlash, no_flash, flash_at, jobs_match, taken_matches, taken_part}
use Rattle.hc_theorem.proofs.workers.Lines.{and_both, waiting_line, buried_line, filler_line}
use Rattle.hc_theorem.proofs.workers.Draining.{clean_same, reclaim_line}
use Rattle.hc_theorem.proofs.workers.Regions.{regions_line}
use Rattle.hc_theorem.proofs.workers.Finishes.{finish_follows}

-- ---- lists

-- a take says which jobs are out after it
writer_outs : (take : Take) (outs : List Out) → outs_by take outs ≡ jobs_after WriterTake (Tells (Says (Took take))) outs
writer_outs Idle outs = refl
writer_outs Finished outs = refl
writer_outs (Work n order) outs = refl

filler_outs : (take : Take) (outs : List Out) → outs_by take outs ≡ jobs_after FillerTake (Tells (Says (Took take))) outs
filler_outs Idle outs = refl
filler_outs Finished outs = refl
filler_outs (Work n order) outs = refl

oldest_in : (regions : List Region) (rs : List ℕ) (r : ℕ) → steps.oldest regions rs ≡ Some r → is_in r rs ≡ true
oldest_in regions [] r e = absurd cc
oldest_in regions (x ∷ rs) r e = go (is_draining (region_at x regions).status) e (oldest_in regions rs r) (x == r) refl
  where
    go : (t : Bool) → (if t then steps.oldest regions rs else Some x) ≡ Some r → (steps.oldest regions rs ≡ Some r → is_in r rs ≡ true) → (b : Bool) → (x == r) ≡ b → (if b then true else is_in r rs) ≡ true
    go t e more true b = refl
    go true e more false b = more e
    go false e more false b = absurd (let same : x ≡ r = cc in let own : (x == r) ≡ true = eq-eqb x r same in cc (own, b))

-- ---- an idle take

idle_part : (cache : Cache) (taken : Taken) (nvm : Nvm) → taken ≡ takes.idle nvm → (after_take taken cache).part ≡ []
idle_part cache taken nvm e = ap (λ (t : Taken). (after_take t cache).part) e

module _ (config : Config) (log : List Note) (scene : Scene) (desk : Desk) (client : ℕ) (h : SceneHolds config log scene) (m : Matches log desk scene) where
  still_writer : is_written_out config.flash desk ≡ true → Followed config log desk client WriterTake (in_world scene.slots (by_call scene.world (record { cache = scene.world.cache; answer = Took Idle; part = [] })))
  still_writer p = let s = still_matches log desk scene m in record { part = (p, refl); matches = record { older = s.older; slots = s.slots; adds = s.adds; jobs = s.jobs; failures = s.failures } }

  still_filler : is_looked_up config.flash desk ≡ true → Followed config log desk client FillerTake (in_world scene.slots (by_call scene.world (record { cache = scene.world.cache; answer = Took Idle; part = [] })))
  still_filler p = let s = still_matches log desk scene m in record { part = (p, refl); matches = record { older = s.older; slots = s.slots; adds = s.adds; jobs = s.jobs; failures = s.failures } }

  still_reclaim : is_clean_enough config.flash desk ≡ true → Followed config log desk client Reclaim (in_world scene.slots (by_call scene.world (record { cache = scene.world.cache; answer = Reclaimed None; part = [] })))
  still_reclaim p = let s = still_matches log desk scene m in record { part = (p, refl); matches = record { older = s.older; slots = s.slots; adds = s.adds; jobs = s.jobs; failures = s.failures } }

  -- ---- where there is flash

  module _ (nvm : Nvm) (e_nvm : scene.world.cache.nvm ≡ Some nvm) where
    on : OnFlash config.flash (past [] log) scene.world.cache.memory nvm
    on = flash_at config log scene desk h m nvm e_nvm

    good : Agrees config desk.older scene.world.cache
    good = (good_at config log desk scene h m).agrees

    fit : FlashGood on.config desk.older scene.world.cache.memory nvm
    fit = subst (λ (older : List Note). FlashGood on.config older scene.world.cache.memory nvm) (sym m.older) on.good

    accounts_at : AccountsOf config.flash desk.older scene.world.cache.nvm → Accounted on.config desk.older nvm.pair.large
    accounts_at told = subst (AccountsOf (Some on.config) desk.older) e_nvm (subst (λ (flash : Option FlashConfig). AccountsOf flash desk.older scene.world.cache.nvm) on.is told)

    writer_line : StonesRun nvm → AccountsOf config.flash desk.older scene.world.cache.nvm → (takes.writer_take nvm).take ≡ Idle → is_written_out config.flash desk ≡ true
    writer_line run told idle =
        let rests = writer_idles config desk.older scene.world.cache nvm good e_nvm idle in
        subst (λ (flash : Option FlashConfig). is_written_out flash desk ≡ true) (sym on.is) (both
        (buried_line on.config config on.is desk scene.world.cache nvm e_nvm good fit scene.world.results scene.world.pages (jobs_match config log scene desk h m nvm e_nvm) run rests)
        (waiting_line on.config config on.is desk scene.world.cache nvm e_nvm good fit scene.world.results scene.world.pages (jobs_match config log scene desk h m nvm e_nvm) rests)
        (regions_line on.config desk scene.world.cache.memory nvm fit scene.world.results scene.world.pages (jobs_match config log scene desk h m nvm e_nvm) (accounts_at told) rests))
      where
        both : {a b c : Bool} → a ≡ true → b ≡ true → c ≡ true → (a && b && c) ≡ true
        both {a} {b} {c} p q r = and_both (a && b) c (and_both a b p q) r

    look_line : (takes.filler_take nvm).take ≡ Idle → is_looked_up config.flash desk ≡ true
    look_line idle =
        let rests = filler_idles config desk.older scene.world.cache nvm good e_nvm idle in
        let calls = subst (λ (o : Option Nvm). CallsTell desk.older scene.world.cache.calls scene.world.cache.owed (fills_of o)) e_nvm good.calls in
        subst (λ (flash : Option FlashConfig). is_looked_up flash desk ≡ true) (sym on.is) (filler_line on.config config on.is desk scene.world.cache nvm e_nvm good fit scene.world.results scene.world.pages (jobs_match config log scene desk h m nvm e_nvm) calls rests)

    pub writer_on : StonesRun nvm → AccountsOf config.flash desk.older scene.world.cache.nvm → Followed config log desk client WriterTake (in_world scene.slots (by_call scene.world (after_take (takes.writer_take nvm) scene.world.cache)))
    writer_on run told =
        let taken = takes.writer_take nvm in
        let moved = after_take taken scene.world.cache in
        record {
          part = taken_part config log scene desk h m nvm e_nvm (is_written_out config.flash desk) taken (writer_so nvm) (λ idle. (writer_line run told idle, idle_part scene.world.cache taken nvm (writer_rests nvm fit.jobs idle)));
          matches = subst (λ (outs : List Out). Matches (log ++ moved.part) (record { older = past desk.older moved.part; slots = desk.slots; jobs = outs; adds = desk.adds; pages = desk.pages; failures = desk.failures }) (in_world scene.slots (by_call scene.world moved)).scene)
              (writer_outs taken.take desk.jobs) (taken_matches config log scene desk h m nvm e_nvm taken (writer_so nvm) (writer_fills nvm fit.fills.one));
        }

    pub filler_on : Followed config log desk client FillerTake (in_world scene.slots (by_call scene.world (after_take (takes.filler_take nvm) scene.world.cache)))
    filler_on =
        let taken = takes.filler_take nvm in
        let moved = after_take taken scene.world.cache in
        record {
          part = taken_part config log scene desk h m nvm e_nvm (is_looked_up config.flash desk) taken (filler_so nvm) (λ idle. (look_line idle, idle_part scene.world.cache taken nvm (filler_rests nvm fit.jobs idle)));
          matches = subst (λ (outs : List Out). Matches (log ++ moved.part) (record { older = past desk.older moved.part; slots = desk.slots; jobs = outs; adds = desk.adds; pages = desk.pages; failures = desk.failures }) (in_world scene.slots (by_call scene.world moved)).scene)
              (filler_outs taken.take desk.jobs) (taken_matches config log scene desk h m nvm e_nvm taken (filler_so nvm) (filler_fills nvm fit.fills.one));
        }

    -- ---- reclaim

    -- a reclaim is a take that is over, and of no fill
    abbrev as_taken : Taken
    as_taken = record { nvm = (takes.reclaim nvm).change.nvm; take = Finished; part = (takes.reclaim nvm).change.part; filled = None }

    reclaim_matches : Matches (log ++ (after_reclaim (takes.reclaim nvm) scene.world.cache).part) (record { older = past desk.older (after_reclaim (takes.reclaim nvm) scene.world.cache).part; slots = desk.slots; jobs = desk.jobs; adds = desk.adds; pages = desk.pages; failures = desk.failures })
        (in_world scene.slots (by_call scene.world (after_reclaim (takes.reclaim nvm) scene.world.cache))).scene
    reclaim_matches =
        let r = reclaim_so nvm in
        let same : (after_take as_taken scene.world.cache).part ≡ (takes.reclaim nvm).change.part = append-nil (takes.reclaim nvm).change.part in
        let t = taken_matches config log scene desk h m nvm e_nvm as_taken (record { mute = r.mute; jobs = r.jobs }) (ap waiters_of (reclaim_fills nvm)) in
        let there = (in_world scene.slots (by_call scene.world (after_reclaim (takes.reclaim nvm) scene.world.cache))).scene in
        let u : Matches (log ++ (after_take as_taken scene.world.cache).part) (record { older = past desk.older (after_take as_taken scene.world.cache).part; slots = desk.slots; jobs = desk.jobs; adds = desk.adds; pages = desk.pages; failures = desk.failures }) there =
        record { older = t.older; slots = t.slots; adds = t.adds; jobs = t.jobs; failures = t.failures } in
        subst (λ (part : List Note). Matches (log ++ part) (record { older = past desk.older part; slots = desk.slots; jobs = desk.jobs; adds = desk.adds; pages = desk.pages; failures = desk.failures }) there) same u

    reclaim_named : (given : Option ℕ) (moved : block.Moved) (region : ℕ) → moved.outcome.reclaimed ≡ given → (takes.reclaimed_by given moved nvm).region ≡ Some region → moved.outcome.reclaimed ≡ Some region
    reclaim_named None moved region e h = absurd cc
    reclaim_named (Some r) moved region e h = let same : r ≡ region = cc in e ∙ ap (λ (r : ℕ). Some r) same

    -- the region that is given up is flushed, and fewer are clean than there are to be
    reclaim_wants : (region : ℕ) → (takes.reclaim nvm).region ≡ Some region → (wants_clean config.flash desk.older ≡ true) × (is_one_of region (flushed desk.older) ≡ true)
    reclaim_wants region named = by (nat_lt (steps.clean_count nvm.pair.large.regions) nvm.pair.small.flash.clean) refl (reclaim_named (steps.reclaim nvm.pair.small.flash nvm.pair.large).outcome.reclaimed (steps.reclaim nvm.pair.small.flash nvm.pair.large) region refl named)
      where
        drained : (o : Option ℕ) → steps.oldest nvm.pair.large.regions nvm.pair.large.flushed ≡ o → (steps.reclaim_of nvm.pair.large o).outcome.reclaimed ≡ Some region → is_in region nvm.pair.large.flushed ≡ true
        drained None e h = absurd cc
        drained (Some r) e h = let same : r ≡ region = cc in subst (λ (q : ℕ). is_in q nvm.pair.large.flushed ≡ true) same (oldest_in nvm.pair.large.regions nvm.pair.large.flushed r e)

        by : (t : Bool) → nat_lt (steps.clean_count nvm.pair.large.regions) nvm.pair.small.flash.clean ≡ t → (if t then steps.reclaim_of nvm.pair.large (steps.oldest nvm.pair.large.regions nvm.pair.large.flushed) else block.unmoved nvm.pair.large).outcome.reclaimed ≡ Some region
            → (wants_clean config.flash desk.older ≡ true) × (is_one_of region (flushed desk.older) ≡ true)
        by false e d = absurd cc
        by true e d =
            let clean = clean_same on.config desk scene.world.cache.memory nvm fit scene.world.results scene.world.pages (jobs_match config log scene desk h m nvm e_nvm) in
            let wants : wants_clean (Some on.config) desk.older ≡ true = (λ i. nat_lt (clean i) (sym fit.engines.same i).clean) ∙ e in (
              subst (λ (flash : Option FlashConfig). wants_clean flash desk.older ≡ true) (sym on.is) wants,
              sym (ap (is_in region) fit.engines.regions.in_order ∙ in-reverse region (flushed desk.older)) ∙ drained (steps.oldest nvm.pair.large.regions nvm.pair.large.flushed) refl d,
            )

    reclaim_part : (o : Option ℕ) → (takes.reclaim nvm).region ≡ o → ReclaimPart config.flash desk (Tells (Says (Reclaimed o))) (takes.reclaim nvm).change.part
    reclaim_part None e =
        let clean = reclaim_line on.config desk scene.world.cache.memory nvm fit scene.world.results scene.world.pages (jobs_match config log scene desk h m nvm e_nvm) (reclaim_idles nvm e) in
        (subst (λ (flash : Option FlashConfig). is_clean_enough flash desk ≡ true) (sym on.is) clean, ap (λ (c : Changed). c.part) (reclaim_rests nvm e))
    reclaim_part (Some region) e = let wants = reclaim_wants region e in (wants.0, wants.1, mute_calls (takes.reclaim nvm).change.part (reclaim_so nvm).mute)

    pub reclaim_on_flash : Followed config log desk client Reclaim (in_world scene.slots (by_call scene.world (after_reclaim (takes.reclaim nvm) scene.world.cache)))
    reclaim_on_flash = record { part = reclaim_part (takes.reclaim nvm).region refl; matches = reclaim_matches }

  -- ---- with flash, and without

  writer_by : (o : Option Nvm) → scene.world.cache.nvm ≡ o → StonesOf o → AccountsOf config.flash desk.older scene.world.cache.nvm → Followed config log desk client WriterTake (in_world scene.slots (by_call scene.world (take_on o takes.writer_take scene.world.cache)))
  writer_by None e run told = still_writer (ap (λ (flash : Option FlashConfig). is_written_out flash desk) (no_flash config.flash (past [] log) scene.world.cache.memory scene.world.cache.nvm e h.holds.good.agrees.flash))
  writer_by (Some nvm) e run told = writer_on nvm e run told

  filler_by : (o : Option Nvm) → scene.world.cache.nvm ≡ o → Followed config log desk client FillerTake (in_world scene.slots (by_call scene.world (take_on o takes.filler_take scene.world.cache)))
  filler_by None e = still_filler (ap (λ (flash : Option FlashConfig). is_looked_up flash desk) (no_flash config.flash (past [] log) scene.world.cache.memory scene.world.cache.nvm e h.holds.good.agrees.flash))
  filler_by (Some nvm) e = filler_on nvm e

  reclaim_by : (o : Option Nvm) → scene.world.cache.nvm ≡ o → Followed config log desk client Reclaim (in_world scene.slots (by_call scene.world (reclaim_on o scene.world.cache)))
  reclaim_by None e = still_reclaim (ap (λ (flash : Option FlashConfig). is_clean_enough flash desk) (no_flash config.flash (past [] log) scene.world.cache.memory scene.world.cache.nvm e h.holds.good.agrees.flash))
  reclaim_by (Some nvm) e = reclaim_on_flash nvm e

pub writer_follows : WriterFollows
writer_follows config log scene desk client before after stones accounts m = writer_by config log scene desk client before m scene.world.cache.nvm refl stones accounts

pub filler_follows : DeedFollows FillerTake
filler_follows config log scene desk client before after m = filler_by config log scene desk client before m scene.world.cache.nvm refl

pub reclaim_follows : DeedFollows Reclaim
reclaim_follows config log scene desk client before after m = reclaim_by config log scene desk client before m scene.world.cache.nvm refl

-- each kind of the workers' steps, and the device's
pub workers_follow : WorkersFollow
workers_follow = record { writer = writer_follows; filler = filler_follows; reclaim = reclaim_follows; io = io_follows; finish = finish_follows }
