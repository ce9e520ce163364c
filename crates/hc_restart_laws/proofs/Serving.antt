-- A service whose cache is closed and goes on finds nothing stale.
use Rattle.std.proofs.Common.{◌≡◌, inl, ℕ, ◌<◌, List, [], ◌∷◌, ◌++◌, length, refl, sym, subst, mod-lt}
use Rattle.std.proofs.lemmas.List.{length-replicate}
use Rattle.hc_types.specs.Config.{Config}
use Rattle.hc_history.specs.Note.{Note}
use Rattle.hc_history.specs.Books.{now_at, entry_at}
use Rattle.hc_history.specs.Lawful.{past}
use Rattle.hc_history.proofs.Appended.{past-append}
use Rattle.hc_machine.specs.Cache.{Cache, new_cache}
use Rattle.hc_machine.specs.Calls.{must_wait}
use Rattle.hc_machine.specs.Call.{Removes, act, acts}
use Rattle.hc_invariant.specs.Good.{Agrees}
use Rattle.hc_theorem.proofs.headlines.WholeRuns as theorem
use Rattle.hc_lease.specs.Stamps.{next_count, slot_of}
use Rattle.hc_lease_log.specs.Rows as rows
use Rattle.hc_lease_log.specs.Rows.{World}
use Rattle.hc_lease_log.proofs.Rows.{Sound, sound-after, begins-sound, Stands, stands-after, deleted-stands, found-good}
use Rattle.hc_lease_steps.specs.Runs.{step_of}
use Rattle.hc_lease_steps.specs.Serving as one_run
use Rattle.hc_lease_steps.specs.Serving.{Commit, Calls, Lend, Ask, Service, told_by, new_service}
use Rattle.hc_lease_steps.proofs.Running.{call-tells, AllAgree, all-agree, agrees-at-last}
use Rattle.hc_lease_steps.proofs.Deleting.{removes-delete}
use Rattle.hc_lease_steps.proofs.Serving.{no-wait, stores, hit-is}
use Rattle.hc_restart_laws.specs.Tickets.{restarted}
use Rattle.hc_restart_laws.specs.Serving.{Deed, Does, Restarts, after, run, calls_of, AllMay, Serves, with_remove, NothingStale, NoHitIsStale}
use Rattle.hc_restart_laws.proofs.Ticketing.{known-restarted, restarted-bars}

-- how many slots there are behind a deed
abbrev slots_after : Deed → ℕ → ℕ
slots_after (Does deed) n = n
slots_after (Restarts slots) n = slots

abbrev slots_by : List Deed → ℕ → ℕ
slots_by [] n = n
slots_by (deed ∷ deeds) n = slots_by deeds (slots_after deed n)

module _ (version : List ℕ → ℕ) (config : Config) where
  -- of deeds that are still to come
  record Ready (deeds : List Deed) (s : Service) : Type 0 where
    may : AllMay version deeds s
    agree : AllAgree config (calls_of deeds) s.world.log s.cache
    last : Agrees config (past s.world.log (acts (calls_of deeds) s.cache).log) (acts (calls_of deeds) s.cache).cache

  ready-after : (deed : Deed) (deeds : List Deed) (s : Service) → Ready (deed ∷ deeds) s → Ready deeds (after deed s)
  ready-after (Does (Commit key)) deeds s r = record { may = r.may.1; agree = r.agree; last = r.last }
  ready-after (Does (Calls event)) deeds s r =
      let moved = act event s.cache in
      let rest = acts (calls_of deeds) moved.cache in
      record { may = r.may.1; agree = r.agree.1; last = subst (λ (h : List Note). Agrees config h rest.cache) (past-append s.world.log moved.part rest.log) r.last }
  ready-after (Does Lend) deeds s r = record { may = r.may.1; agree = r.agree; last = r.last }
  ready-after (Does (Ask key ticket)) deeds s r = record { may = r.may.1; agree = r.agree; last = r.last }
  ready-after (Restarts slots) deeds s r = record { may = r.may.1; agree = r.agree; last = r.last }

  ready-run : (one two : List Deed) (s : Service) → Ready (one ++ two) s → Ready two (run one s)
  ready-run [] two s r = r
  ready-run (deed ∷ one) two s r = ready-run one two (after deed s) (ready-after deed (one ++ two) s r)

  ready-last : (deeds : List Deed) (s : Service) → Ready deeds s → Agrees config (run deeds s).world.log (run deeds s).cache
  ready-last [] s r = r.last
  ready-last (deed ∷ deeds) s r = ready-last deeds (after deed s) (ready-after deed deeds s r)

  -- what the log's pattern asks of what is done
  deed-may : (deed : one_run.Deed) (deeds : List Deed) (s : Service) → Ready (Does deed ∷ deeds) s → rows.May version (told_by deed s.cache) s.world
  deed-may (Commit key) deeds s r = tt
  deed-may (Calls event) deeds s r = (call-tells config s.world.log event s.cache r.agree.0, no-wait version config event (act event s.cache).answer s.world r.may.0, stores version config event s.cache s.world r.may.0)
  deed-may Lend deeds s r = tt
  deed-may (Ask key ticket) deeds s r = r.may.0

  -- ---- each ticket was handed out before

  restart-sound : (n slots : ℕ) (w : World) → 0 < slots → Sound n w → Sound slots (record w { stamps = restarted slots w.stamps })
  restart-sound n slots w some s = record {
    some = some;
    size = length-replicate slots (next_count w.stamps.count);
    opens = s.opens;
    lent = λ t among. known-restarted n slots t w.stamps (s.lent t among);
    loads = λ load among. known-restarted n slots load.ticket w.stamps (s.loads load among);
  }

  sound-deed : (n : ℕ) (deed : Deed) (deeds : List Deed) (s : Service) → Ready (deed ∷ deeds) s → Sound n s.world → Sound (slots_after deed n) (after deed s).world
  sound-deed n (Does deed) deeds s r sound = sound-after version n (told_by deed s.cache) s.world (deed-may deed deeds s r) sound
  sound-deed n (Restarts slots) deeds s r sound = restart-sound n slots s.world r.may.0 sound

  sound-deeds : (n : ℕ) (one two : List Deed) (s : Service) → Ready (one ++ two) s → Sound n s.world → Sound (slots_by one n) (run one s).world
  sound-deeds n [] two s r sound = sound
  sound-deeds n (deed ∷ one) two s r sound = sound-deeds (slots_after deed n) one two (after deed s) (ready-after deed (one ++ two) s r) (sound-deed n deed (one ++ two) s r sound)

  module _ (floor : ℕ) (key : List ℕ) where
    -- ---- once the remove is answered

    restart-stands : (n slots : ℕ) (w : World) → 0 < slots → Stands version config.flash n floor key w → Stands version config.flash slots floor key (record w { stamps = restarted slots w.stamps })
    restart-stands n slots w some stands = record {
      sound = restart-sound n slots w some stands.sound;
      rows = stands.rows;
      entry = stands.entry;
      loads = λ load among own. inl (restarted-bars n slots load.ticket (slot_of key slots) w.stamps (stands.sound.loads load among) (mod-lt _ some));
    }

    stands-deed : (n : ℕ) (deed : Deed) (deeds : List Deed) (s : Service) → Ready (deed ∷ deeds) s → Stands version config.flash n floor key s.world → Stands version config.flash (slots_after deed n) floor key (after deed s).world
    stands-deed n (Does deed) deeds s r stands = stands-after version config.flash n floor key (told_by deed s.cache) s.world (deed-may deed deeds s r) stands
    stands-deed n (Restarts slots) deeds s r stands = restart-stands n slots s.world r.may.0 stands

    stands-deeds : (n : ℕ) (deeds : List Deed) (s : Service) → Ready deeds s → Stands version config.flash n floor key s.world → Stands version config.flash (slots_by deeds n) floor key (run deeds s).world
    stands-deeds n [] s r stands = stands
    stands-deeds n (deed ∷ deeds) s r stands = stands-deeds (slots_after deed n) deeds (after deed s) (ready-after deed deeds s r) (stands-deed n deed deeds s r stands)

-- ---- from the beginning on

module _ (version : List ℕ → ℕ) (config : Config) (earlier later : List Deed) (client : ℕ) (key : List ℕ) (begins : Service) where
  abbrev removes : Deed
  removes = Does (Calls (Removes client key))

  run-append : (one two : List Deed) (s : Service) → run (one ++ two) s ≡ run two (run one s)
  run-append [] two s = refl
  run-append (deed ∷ one) two s = run-append one two (after deed s)

  -- what holds at the end
  at-end : (n : ℕ) → Ready version config (earlier ++ removes ∷ later) begins → Sound n begins.world
      → Stands version config.flash (slots_by later (slots_by earlier n)) ((run earlier begins).world.rows key) key (run (earlier ++ removes ∷ later) begins).world
  at-end n ready sound =
      let one = run earlier begins in
      let slots = slots_by earlier n in
      let floor = one.world.rows key in
      let ready-one = ready-run version config earlier (removes ∷ later) begins ready in
      let sound-one = sound-deeds version config n earlier (removes ∷ later) begins ready sound in
      let moved = act (Removes client key) one.cache in
      let stands = deleted-stands version config.flash slots key (step_of (Removes client key) moved) one.world (deed-may version config (Calls (Removes client key)) later one ready-one)
      (removes-delete config.flash one.world.log client key one.cache sound-one.opens) sound-one in
      subst (λ (s : Service). Stands version config.flash (slots_by later slots) floor key s.world) (sym (run-append earlier (removes ∷ later) begins))
      (stands-deeds version config floor key slots later (after removes one) (ready-after version config removes later one ready-one) stands)

serves-ready : (version : List ℕ → ℕ) (config : Config) (deeds : List Deed) (s : Service) → s.cache ≡ new_cache config → s.world.log ≡ [] → Serves version config deeds s → Ready version config deeds s
serves-ready version config deeds s is none serves =
    let new = theorem.new_stands config serves.right in
    record {
      may = serves.may;
      agree = subst (λ (c : Cache). AllAgree config (calls_of deeds) s.world.log c) (sym is) (subst (λ (h : List Note). AllAgree config (calls_of deeds) h (new_cache config)) (sym none) (all-agree config (calls_of deeds) [] (new_cache config) serves.sized new serves.honest));
      last = subst (λ (c : Cache). Agrees config (past s.world.log (acts (calls_of deeds) c).log) (acts (calls_of deeds) c).cache) (sym is)
          (subst (λ (h : List Note). Agrees config (past h (acts (calls_of deeds) (new_cache config)).log) (acts (calls_of deeds) (new_cache config)).cache) (sym none) (agrees-at-last config (calls_of deeds) [] (new_cache config) serves.sized new serves.honest));
    }

pub nothing-stale : NothingStale
nothing-stale version config stamps versions earlier later client key value serves found =
    let begins = new_service config stamps versions in
    let ready = serves-ready version config (with_remove earlier client key later) begins refl refl serves in
    let sound = begins-sound begins.world (record { slots = serves.slots; log = refl; lent = refl; loads = refl }) in
    let stands = at-end version config earlier later client key begins (length stamps.slots) ready sound in
    let last = run (with_remove earlier client key later) begins in
    found-good version config.flash ((run earlier begins).world.rows key) key (now_at last.world.log) value (entry_at config.flash last.world.log key) stands.entry found

pub no-hit-is-stale : NoHitIsStale
no-hit-is-stale version config stamps versions earlier later client finder key value serves hit =
    let begins = new_service config stamps versions in
    let deeds = with_remove earlier client key later in
    let last = run deeds begins in
    let agrees = ready-last version config deeds begins (serves-ready version config deeds begins refl refl serves) in
    nothing-stale version config stamps versions earlier later client key value serves (hit-is config last.world.log last.cache finder key value (must_wait last.cache key) refl agrees hit)
