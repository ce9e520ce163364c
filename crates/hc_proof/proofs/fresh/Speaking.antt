-- The parts of a step answer no call but those that are served, and leave the fills as they are.
use Rattle.std.proofs.Common.{◌≡◌, ℕ, Bool, true, false, List, [], ◌∷◌, ◌++◌, length, map, filter, Option, Some, None, refl, ◌∙◌}
use Rattle.std.specs.Prelude.{if◌then◌else◌}
use Rattle.hc_types.specs.FlashEntry.{FlashEntry}
use Rattle.hc_engines.specs.Engine.{Loss, Outcome}
use Rattle.hc_memory.specs.Item.{Handle}
use Rattle.hc_types.specs.Charge.{charge_of}
use Rattle.hc_history.specs.Note.{Note, Stored, Begin, Did, Raised, Opened, Flushed, Cleared, End, Read, Wrote}
use Rattle.hc_machine.specs.Nvm.{Nvm, Tombstone, Waiter, Wish, ToFind, ToAdd, Task, Putting, Deleting, Filling, Flushing}
use Rattle.hc_machine.specs.Leaving as leaving
use Rattle.hc_machine.specs.Leaving.{Changed, changed}
use Rattle.hc_machine.specs.Takes.{region_note, loss_notes, bucket_lost, raise, raise_all, holds, ends_with, written_note, closing_notes, settled}
use Rattle.hc_machine.specs.Cache.{Cache, Told, tells, and_then}
use Rattle.hc_machine.specs.Evicting.{make_room, charge, make_charge, handle_for}
use Rattle.hc_machine.specs.Waiting.{uproot, plant, live, answer, serve, there_after, serve_all}
use Rattle.hc_machine.specs.Workers.{can_link, link_clean, bring, fill}
use Rattle.hc_machine.specs.Takes as takes
use Rattle.hc_invariant.specs.Good.{fills_of}
use Rattle.hc_proof.specs.fresh.Answers.{Answers, AllCalls}
use Rattle.hc_proof.specs.shapes.Asides.{Aside}
use Rattle.hc_proof.proofs.shapes.Asides.{room_aside, uproot_aside, plant_aside}

-- ---- notes

pub answers-append : (Q : ℕ → Type 0) (one two : List Note) → Answers Q one → Answers Q two → Answers Q (one ++ two)
answers-append Q [] two p q = q
answers-append Q (Begin call client op ∷ one) two p q = absurd p
answers-append Q (Did call reply ∷ one) two p q = (p.0, answers-append Q one two p.1 q)
answers-append Q (note ∷ one) two p q = answers-append Q one two p q

pub record SpokenChange (Q : ℕ → Type 0) (nvm : Nvm) (change : Changed) : Type 0 where
  pub answers : Answers Q change.part
  pub fills : change.nvm.fills ≡ nvm.fills

pub record SpokenPart (Q : ℕ → Type 0) (cache : Cache) (told : Told) : Type 0 where
  pub answers : Answers Q told.part
  pub fills : fills_of told.cache.nvm ≡ fills_of cache.nvm

module _ (Q : ℕ → Type 0) where
  losses_silent : (losses : List Loss) → Answers Q (loss_notes losses)
  losses_silent [] = tt
  losses_silent (one ∷ losses) = losses_silent losses

  raised_silent : (stones : List Tombstone) → Answers Q (map (λ (stone : Tombstone). Raised stone.key) stones)
  raised_silent [] = tt
  raised_silent (stone ∷ stones) = raised_silent stones

  -- ---- what waits for flash

  pub both_changed : (nvm : Nvm) (first : Changed) (f : Nvm → Changed) → SpokenChange Q nvm first → ((n : Nvm) → SpokenChange Q n (f n)) → SpokenChange Q nvm (leaving.and_then first f)
  both_changed nvm first f p q = record { answers = answers-append Q first.part (f first.nvm).part p.answers (q first.nvm).answers; fills = (q first.nvm).fills ∙ p.fills }

  raise_quiet : (test : Tombstone → Bool) (nvm : Nvm) → SpokenChange Q nvm (raise test nvm)
  raise_quiet test nvm = record { answers = raised_silent (filter test nvm.tombstones); fills = refl }

  raise_all_quiet : (bucket : Option ℕ) (nvm : Nvm) → SpokenChange Q nvm (raise_all bucket nvm)
  raise_all_quiet None nvm = record { answers = tt; fills = refl }
  raise_all_quiet (Some bucket) nvm = raise_quiet _ nvm

  opened_silent : (opened : Option ℕ) (losses : List Loss) → Answers Q (region_note Opened opened ++ loss_notes losses)
  opened_silent None losses = losses_silent losses
  opened_silent (Some region) losses = losses_silent losses

  pub holds_quiet : (outcome : Outcome) (nvm : Nvm) → SpokenChange Q nvm (holds outcome nvm)
  holds_quiet outcome nvm =
      let all = raise_all_quiet (bucket_lost outcome.losses) nvm in
      record { answers = answers-append Q (region_note Opened outcome.opened ++ loss_notes outcome.losses) (raise_all (bucket_lost outcome.losses) nvm).part (opened_silent outcome.opened outcome.losses) all.answers; fills = all.fills }

  closing_silent : (task : Task) (outcome : Outcome) → Answers Q (closing_notes task outcome)
  closing_silent task outcome = answers-append Q (written_note task) _ (written task) (regions outcome.flushed outcome.cleared)
    where
      written : (task : Task) → Answers Q (written_note task)
      written (Putting key) = tt
      written (Deleting key) = tt
      written Filling = tt
      written Flushing = tt

      regions : (flushed cleared : Option ℕ) → Answers Q (region_note Flushed flushed ++ region_note Cleared cleared)
      regions None None = tt
      regions None (Some r) = tt
      regions (Some f) None = tt
      regions (Some f) (Some r) = tt

  pub settled_quiet : (task : Task) (outcome : Outcome) (nvm : Nvm) → SpokenChange Q nvm (settled task outcome nvm)
  settled_quiet task outcome nvm =
      both_changed nvm (holds outcome nvm) (λ n. leaving.and_then (raise (ends_with task) n) (changed (closing_notes task outcome))) (holds_quiet outcome nvm)
      (λ n. both_changed n (raise (ends_with task) n) (changed (closing_notes task outcome)) (raise_quiet (ends_with task) n) (λ x. record { answers = closing_silent task outcome; fills = refl }))

  -- ---- the cache

  pub both_told : (cache : Cache) (first : Told) (f : Cache → Told) → SpokenPart Q cache first → ((c : Cache) → SpokenPart Q c (f c)) → SpokenPart Q cache (and_then first f)
  both_told cache first f p q = record { answers = answers-append Q first.part (f first.cache).part p.answers (q first.cache).answers; fills = (q first.cache).fills ∙ p.fills }

  -- such a piece answers nothing
  answers_by : (notes : List Note) → Aside notes → Answers Q notes
  answers_by [] h = tt
  answers_by (Begin call client op ∷ notes) h = absurd h
  answers_by (Did call reply ∷ notes) h = absurd h
  answers_by (End call ∷ notes) h = absurd h
  answers_by (Read page result ∷ notes) h = absurd h
  answers_by (Wrote page bytes is_written ∷ notes) h = absurd h
  answers_by (Flushed region ∷ notes) h = absurd h
  answers_by (note ∷ notes) h = answers_by notes h

  pub make_charge_quiet : (pool : ℕ) (key : List ℕ) (size : ℕ) (cache : Cache) → SpokenPart Q cache (make_charge pool key size cache)
  make_charge_quiet pool key size cache =
      let room = room_aside pool (charge_of key size) cache in
      both_told cache (make_room pool (charge_of key size) cache) (charge pool key size) (record { answers = answers_by (make_room pool (charge_of key size) cache).part room.aside; fills = room.fills }) (λ c. record { answers = tt; fills = refl })

  pub uproot_quiet : (key : List ℕ) (cache : Cache) → SpokenPart Q cache (uproot key cache)
  uproot_quiet key cache = let u = uproot_aside key cache in record { answers = answers_by (uproot key cache).part u.aside; fills = u.fills }

  pub plant_quiet : (handle : Handle) (cache : Cache) → SpokenPart Q cache (plant handle cache)
  plant_quiet handle cache = let p = plant_aside handle cache in record { answers = answers_by (plant handle cache).part p.aside; fills = p.fills }

  serve_speaks : (call : ℕ) (wish : Wish) (there : Option FlashEntry) (cache : Cache) → Q call → SpokenPart Q cache (serve call wish there cache)
  serve_speaks call ToFind there cache q = record { answers = (q, tt); fills = refl }
  serve_speaks call (ToAdd handle) (Some entry) cache q = record { answers = (q, tt); fills = refl }
  serve_speaks call (ToAdd handle) None cache q = both_told cache (plant handle cache) (answer call Stored) (plant_quiet handle cache) (λ c. record { answers = (q, tt); fills = refl })

  pub serve_all_speaks : (waiters : List Waiter) (there : Option FlashEntry) (cache : Cache) → AllCalls Q waiters → SpokenPart Q cache (serve_all waiters there cache)
  serve_all_speaks [] there cache q = record { answers = tt; fills = refl }
  serve_all_speaks (waiter ∷ waiters) there cache q =
      both_told cache (serve waiter.call waiter.wish (live cache.now there) cache) (serve_all waiters (there_after waiter.wish (live cache.now there))) (serve_speaks waiter.call waiter.wish (live cache.now there) cache q.0)
      (λ c. serve_all_speaks waiters (there_after waiter.wish (live cache.now there)) c q.1)

  pub bring_speaks : (entry : Option FlashEntry) (cache : Cache) → SpokenPart Q cache (bring entry cache)
  bring_speaks None cache = record { answers = tt; fills = refl }
  bring_speaks (Some entry) cache = go (can_link cache entry)
    where
      go : (t : Bool) → SpokenPart Q cache (if t then and_then (make_charge entry.pool entry.key (length entry.value) cache) (link_clean (handle_for cache entry.pool entry.key entry.value entry.expiry)) else tells [] cache)
      go true = both_told cache (make_charge entry.pool entry.key (length entry.value) cache) (link_clean (handle_for cache entry.pool entry.key entry.value entry.expiry)) (make_charge_quiet entry.pool entry.key (length entry.value) cache) (λ c. record { answers = tt; fills = refl })
      go false = record { answers = tt; fills = refl }

  abbrev pub FilledCalls : Option takes.Filled → Type 0
  FilledCalls None = Unit {0}
  FilledCalls (Some filled) = AllCalls Q filled.waiters

  pub fill_speaks : (filled : Option takes.Filled) (cache : Cache) → FilledCalls filled → SpokenPart Q cache (fill filled cache)
  fill_speaks None cache q = record { answers = tt; fills = refl }
  fill_speaks (Some filled) cache q = both_told cache (bring filled.entry cache) (serve_all filled.waiters filled.entry) (bring_speaks filled.entry cache) (λ c. serve_all_speaks filled.waiters filled.entry c q)
