-- What a part of a step leaves of what is said of flash: engines, jobs and fills whose own parts of the state stay as they were.
use Rattle.std.proofs.Common.{◌≡◌, ℕ, Bool, true, false, not, List, [], ◌∷◌, Option, Some, None, refl, ap, sym, ◌∙◌, subst}
use Rattle.std.specs.Prelude.{if◌then◌else◌}
use Rattle.hc_types.specs.declared.config.FlashConfig.{FlashConfig}
use Rattle.hc_types.specs.FlashEntry.{FlashEntry}
use Rattle.hc_engines.specs.Engine.{Pages, Order}
use Rattle.hc_engines.specs.small.BigHash as bighash
use Rattle.hc_engines.specs.small.Held as small
use Rattle.hc_engines.specs.small.Held.{StateFits}
use Rattle.hc_engines.specs.large.Block as block
use Rattle.hc_engines.specs.large.Fits.{Fits, ReadsHold}
use Rattle.hc_engines.specs.large.Held as large
use Rattle.hc_engines.specs.large.Index.{Indexed}
use Rattle.hc_memory.specs.Memory.{Memory}
use Rattle.hc_history.specs.Note.{Note}
use Rattle.hc_history.specs.Pages.{bytes_at, bucket_entries}
use Rattle.hc_history.specs.Regions.{in_use, flushed, open_region, filling, filed}
use Rattle.hc_machine.specs.Nvm.{Nvm, Tombstone, Fill, Task, Putting, Deleting, Filling, Flushing, Job}
use Rattle.hc_invariant.specs.Tells.{RegionsTell}
use Rattle.hc_invariant.specs.Jobs.{JobsRun, RunsAs, AllRun, is_taken, small_job, large_work, FillHolds, AllFill}
use Rattle.hc_invariant.specs.Good.{EnginesFit}
use Rattle.hc_proof.specs.frames.Midst.{still}

-- ---- engines

-- the notes between tell nothing of pages and regions
pub record QuietEngines (flash : FlashConfig) (older newer : List Note) : Type 0 where
  pub bytes : bytes_at newer ≡ bytes_at older
  pub buckets : bucket_entries flash newer ≡ bucket_entries flash older
  pub in_use : in_use newer ≡ in_use older
  pub flushed : flushed newer ≡ flushed older
  pub filed : filed flash newer ≡ filed flash older
  pub current : open_region flash newer ≡ open_region flash older
  pub filling : filling flash newer ≡ filling flash older

pub regions_still : (flash : FlashConfig) (older newer : List Note) (s : block.Block) → QuietEngines flash older newer → RegionsTell flash older s → RegionsTell flash newer s
regions_still flash older newer s q t = record {
  number = t.number;
  used = λ r. rw (q.in_use) (t.used r);
  used_number = rw (q.in_use) t.used_number;
  in_order = rw (q.flushed) t.in_order;
  filings = λ hash region. rw (q.filed) (t.filings hash region);
  current = q.current ∙ t.current;
  filled = λ r e. q.filling ∙ t.filled r e;
}

-- the same engines, beside other puts, tombstones and fills
abbrev pub beside : List FlashEntry → List Tombstone → List Fill → Nvm → Nvm
beside queue stones fills nvm = record nvm { queue = queue; tombstones = stones; fills = fills }

pub engines_still : (flash : FlashConfig) (older newer : List Note) (nvm : Nvm) (queue : List FlashEntry) (stones : List Tombstone) (fills : List Fill) → QuietEngines flash older newer → EnginesFit flash older nvm → EnginesFit flash newer (beside queue stones fills nvm)
engines_still flash older newer nvm queue stones fills q e = record {
  same = e.same;
  small_fits = subst (λ (pages : Pages). StateFits nvm.pair.small pages) (sym q.bytes) e.small_fits;
  large_sound = e.large_sound;
  large_fits = subst (λ (pages : Pages). Fits flash pages nvm.pair.large) (sym q.bytes) e.large_fits;
  reads = subst (λ (pages : Pages). ReadsHold flash pages nvm.pair.large nvm.pair.large.jobs) (sym q.bytes) e.reads;
  regions = regions_still flash older newer nvm.pair.large q e.regions;
  buckets = λ bucket within. ap (λ (f : ℕ → List FlashEntry). f bucket) q.buckets ∙ e.buckets bucket within ∙ ap (λ (pages : Pages). small.bucket_entries nvm.pair.small pages bucket) (sym q.bytes);
  large_ones = λ key entry h. e.large_ones key entry (ap (λ (pages : Pages). large.held flash pages nvm.pair.large key) (sym q.bytes) ∙ h);
}

-- ---- jobs

-- the state with another index, other puts, tombstones and fills
abbrev pub changed_by : List Indexed → List FlashEntry → List Tombstone → List Fill → Nvm → Nvm
changed_by index queue stones fills nvm = record nvm { pair = record nvm.pair { large = record nvm.pair.large { index = index } }; queue = queue; tombstones = stones; fills = fills }

runs_still : (index : List Indexed) (queue : List FlashEntry) (stones : List Tombstone) (fills : List Fill) (nvm : Nvm) (task : Task) (order : Order) (job : Option bighash.Job) (work : Option block.Work)
    → ((k : List ℕ) → is_taken k nvm.tombstones ≡ true → is_taken k stones ≡ true) → RunsAs nvm task order job work → RunsAs (changed_by index queue stones fills nvm) task order job work
runs_still index queue stones fills nvm (Putting key) order (Some job) None kept h = h
runs_still index queue stones fills nvm (Deleting key) order (Some job) None kept h = (h.0, kept key h.1, h.2)
runs_still index queue stones fills nvm Filling order (Some job) None kept h = h
runs_still index queue stones fills nvm Filling order None (Some (block.Getting reading)) kept h = h
runs_still index queue stones fills nvm Flushing order None (Some (block.Writing r bytes)) kept h = h
runs_still index queue stones fills nvm (Putting key) order None work kept h = absurd h
runs_still index queue stones fills nvm (Putting key) order (Some job) (Some work) kept h = absurd h
runs_still index queue stones fills nvm (Deleting key) order None work kept h = absurd h
runs_still index queue stones fills nvm (Deleting key) order (Some job) (Some work) kept h = absurd h
runs_still index queue stones fills nvm Filling order (Some job) (Some work) kept h = absurd h
runs_still index queue stones fills nvm Filling order None None kept h = absurd h
runs_still index queue stones fills nvm Filling order None (Some (block.Writing r bytes)) kept h = absurd h
runs_still index queue stones fills nvm Flushing order (Some job) work kept h = absurd h
runs_still index queue stones fills nvm Flushing order None None kept h = absurd h
runs_still index queue stones fills nvm Flushing order None (Some (block.Getting reading)) kept h = absurd h

all_still : (index : List Indexed) (queue : List FlashEntry) (stones : List Tombstone) (fills : List Fill) (nvm : Nvm) (jobs : List Job) → ((k : List ℕ) → is_taken k nvm.tombstones ≡ true → is_taken k stones ≡ true)
    → AllRun nvm jobs → AllRun (changed_by index queue stones fills nvm) jobs
all_still index queue stones fills nvm [] kept h = tt
all_still index queue stones fills nvm (job ∷ jobs) kept h =
    (runs_still index queue stones fills nvm job.task job.order (small_job nvm job.number) (large_work nvm job.number) kept h.0, all_still index queue stones fills nvm jobs kept h.1)

-- jobs run on where no tombstone that was taken goes
pub jobs_still : (index : List Indexed) (queue : List FlashEntry) (stones : List Tombstone) (fills : List Fill) (nvm : Nvm) → ((k : List ℕ) → is_taken k nvm.tombstones ≡ true → is_taken k stones ≡ true) → JobsRun nvm → JobsRun (changed_by index queue stones fills nvm)
jobs_still index queue stones fills nvm kept j = record {
  run = all_still index queue stones fills nvm nvm.jobs kept j.run;
  one = j.one;
  fresh = j.fresh;
  small_ones = j.small_ones;
  large_ones = j.large_ones;
}

-- ---- fills

fill_step : (pages pages' : Pages) (memory memory' : Memory) (nvm nvm' : Nvm) (fill : Fill) (fills fills' : List Fill) (b : Bool) → (b ≡ false → FillHolds pages memory nvm fill → FillHolds pages' memory' nvm' fill)
    → (AllFill pages memory nvm fills → AllFill pages' memory' nvm' fills) → AllFill pages memory nvm (if not b then fill ∷ fills else fills) → AllFill pages' memory' nvm' (if not b then fill ∷ fills else fills)
fill_step pages pages' memory memory' nvm nvm' fill fills fills' true one rest h = rest h
fill_step pages pages' memory memory' nvm nvm' fill fills fills' false one rest h = (one refl h.0, rest h.1)

-- each fill holds whose key isn't on its way
pub each_still : (moves : List ℕ → Bool) (pages pages' : Pages) (memory memory' : Memory) (nvm nvm' : Nvm) (fills : List Fill) → ((fill : Fill) → moves fill.key ≡ false → FillHolds pages memory nvm fill → FillHolds pages' memory' nvm' fill)
    → AllFill pages memory nvm (still moves fills) → AllFill pages' memory' nvm' (still moves fills)
each_still moves pages pages' memory memory' nvm nvm' [] one h = tt
each_still moves pages pages' memory memory' nvm nvm' (fill ∷ fills) one h =
    fill_step pages pages' memory memory' nvm nvm' fill (still moves fills) [] (moves fill.key) (one fill) (each_still moves pages pages' memory memory' nvm nvm' fills one) h
