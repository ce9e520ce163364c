-- The trial finds what is wrong: a state of a worked run is damaged, and the parts of the invariant that are false are named.
use Rattle.std.proofs.Common.{◌≡◌, List, [], ◌∷◌, take, option_map, refl}
use Rattle.hc_types.specs.Loss as loss
use Rattle.hc_bucket.specs.Reading.{page_at, entries_at, entry_at, body_at, content_at, whole_at}
use Rattle.hc_engines.specs.small.Bloom.{bits_of}
use Rattle.hc_memory.specs.Memory.{after_unmark}
use Rattle.hc_history.specs.Lawful.{past}
use Rattle.hc_machine.specs.Nvm.{Nvm}
use Rattle.hc_machine.specs.Cache.{Cache}
use Rattle.hc_machine.specs.World.{World, run, unwritten}
use Rattle.hc_machine.proofs.Tables.{Turn, lines_of, log_of}
use Rattle.hc_machine.proofs.SmallRows.{one_item, back_from_flash, removed_while_written}
use Rattle.hc_invariant.specs.Trial.{Part, MemoryTold, KeysPlaced, CallsTold, ClockTold, DeviceTold, WaitingTold, JobsRun, wrong}

-- what is wrong once the world behind a run is damaged so
abbrev wrong_behind : List Turn → (World → World) → List Part
wrong_behind turns damage = wrong one_item (past [] (log_of turns)) (damage (run one_item [] (lines_of turns)).world)

abbrev in_cache : (Cache → Cache) → World → World
in_cache f world = record world { cache = f world.cache }

abbrev on_flash : (Nvm → Nvm) → World → World
on_flash f world = record world { cache = record world.cache { nvm = option_map f world.cache.nvm } }

-- nothing is wrong where nothing is damaged
pub intact : wrong_behind back_from_flash (λ world. world) ≡ []
unfolding page_at entries_at entry_at body_at content_at whole_at bits_of
intact = refl

-- the clock is another
pub other_clock : wrong_behind back_from_flash (in_cache (λ cache. record cache { now = 1 })) ≡ ClockTold ∷ []
unfolding page_at entries_at entry_at body_at content_at whole_at bits_of
other_clock = refl

-- the charges that were made are forgotten
pub none_charged : wrong_behind back_from_flash (in_cache (λ cache. record cache { memory = record cache.memory { made = 0 } })) ≡ MemoryTold ∷ []
unfolding page_at entries_at entry_at body_at content_at whole_at bits_of
none_charged = refl

-- the item that came from flash isn't clean, though its copy is there
pub mark_is_lost : wrong_behind back_from_flash (in_cache (λ cache. record cache { memory = after_unmark cache.memory (loss.Bucket 0) })) ≡ KeysPlaced ∷ []
unfolding page_at entries_at entry_at body_at content_at whole_at bits_of
mark_is_lost = refl

-- the put that waits is gone
pub put_is_lost : wrong_behind back_from_flash (on_flash (λ (nvm : Nvm). record nvm { queue = [] })) ≡ KeysPlaced ∷ WaitingTold ∷ []
unfolding page_at entries_at entry_at body_at content_at whole_at bits_of
put_is_lost = refl

-- the device has nothing
pub page_is_lost : wrong_behind back_from_flash (λ world. record world { pages = unwritten }) ≡ DeviceTold ∷ []
unfolding page_at entries_at entry_at body_at content_at whole_at bits_of
page_is_lost = refl

-- a key is removed while its put is written: its tombstone is gone
abbrev as_it_is_removed : List Turn
as_it_is_removed = take 4 removed_while_written

pub tombstone_is_lost : wrong_behind as_it_is_removed (on_flash (λ (nvm : Nvm). record nvm { tombstones = [] })) ≡ KeysPlaced ∷ WaitingTold ∷ []
unfolding page_at entries_at entry_at body_at content_at whole_at bits_of
tombstone_is_lost = refl

-- the job that writes it is gone
pub job_is_lost : wrong_behind as_it_is_removed (on_flash (λ (nvm : Nvm). record nvm { jobs = [] })) ≡ WaitingTold ∷ JobsRun ∷ []
unfolding page_at entries_at entry_at body_at content_at whole_at bits_of
job_is_lost = refl

-- a find waits for flash: its fill is gone
abbrev find_waits : List Turn
find_waits = take 13 back_from_flash

pub fill_is_lost : wrong_behind find_waits (on_flash (λ (nvm : Nvm). record nvm { fills = [] })) ≡ CallsTold ∷ []
unfolding page_at entries_at entry_at body_at content_at whole_at bits_of
fill_is_lost = refl
