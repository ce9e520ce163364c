-- What a cache tells of itself.
use Rattle.std.specs.Prelude.{◌≡◌, ℕ, ◌==◌, nat_lt, Bool, true, false, not, ◌&&◌, List, length, Option, Some, None, option_map}
use Rattle.hc_types.specs.declared.refusal.Refusal.TheVariants.{NoPool}
use Rattle.hc_history.specs.Losses.{total_lost}
use Rattle.hc_history.specs.Told.{Heard, Sums}
use Rattle.hc_history.specs.declared.losses.Losses.{Losses}
use Rattle.hc_history.specs.declared.stats.Stats.{Stats}
use Rattle.hc_memory.specs.declared.usage.PoolUsage.{PoolUsage}
use Rattle.hc_memory.specs.declared.pool.Glance.{Glance}
use Rattle.hc_memory.specs.Memory.{Memory, pool_usage, linked_at}
use Rattle.hc_memory.specs.Seen.{glance_of}
use Rattle.hc_machine.specs.Calls.{queue_of}
use Rattle.hc_leased.specs.Leased.{Leased}
use Rattle.hc_c.specs.Calls.{WhyKey}
use Rattle.hc_c.specs.declared.telling.Counts.{Counts}
use Rattle.hc_c.specs.declared.telling.LossCounts.{LossCounts}
use Rattle.hc_c.specs.declared.telling.Usage.{Usage}
use Rattle.hc_c.specs.declared.status.Status.{Status}
use Rattle.hc_c.specs.declared.status.Status.TheVariants.{Done, Refused, Miss}

abbrev pub counts_of : Counts → Stats
counts_of counts = record {
  stored = counts.stored;
  hits = counts.hits;
  misses = counts.misses;
  removes = counts.removes;
  losses = counts.losses;
  reads = counts.reads;
  writes = counts.writes;
}

-- the log was counted so
abbrev pub AreCounts : Heard → Stats → Type 0
AreCounts (Sums counts losses) stats = stats ≡ counts
AreCounts heard stats = ⊥

abbrev pub Counted : Counts → Status → Leased → Leased → Type 0
Counted counts Done old new = (new ≡ old) × AreCounts old.logged.log (counts_of counts)
Counted counts status old new = ⊥

abbrev pub losses_of : LossCounts → Losses
losses_of losses = record {
  no_flash = losses.no_flash;
  tombstone = losses.tombstone;
  not_admitted = losses.not_admitted;
  too_large = losses.too_large;
  queue_full = losses.queue_full;
  expired = losses.expired;
  bucket_full = losses.bucket_full;
  reclaimed = losses.reclaimed;
  no_clean_region = losses.no_clean_region;
  collision = losses.collision;
  fault = losses.fault;
}

-- the losses of the log came of these reasons, and they are as many as are counted
abbrev pub AreLosses : Heard → Losses → Type 0
AreLosses (Sums counts losses) told = (told ≡ losses) × (total_lost losses ≡ counts.losses)
AreLosses heard told = ⊥

abbrev pub CountedLosses : LossCounts → Status → Leased → Leased → Type 0
CountedLosses losses Done old new = (new ≡ old) × AreLosses old.logged.log (losses_of losses)
CountedLosses losses status old new = ⊥

abbrev pub Called : ℕ → Status → Leased → Leased → Type 0
Called calls Done old new = (new ≡ old) × (calls ≡ old.logged.cache.calls)
Called calls status old new = ⊥

abbrev pub Queued : ℕ → Status → Leased → Leased → Type 0
Queued waiting Done old new = (new ≡ old) × (waiting ≡ length (queue_of old.logged.cache.nvm))
Queued waiting status old new = ⊥

-- what is seen of an item, if there is one, is that it is expired
abbrev pub is_over : ℕ → Option Glance → Bool
is_over now None = false
is_over now (Some glance) = not (glance.expiry == 0) && not (nat_lt now glance.expiry)

-- the item that memory has under a key is expired
abbrev pub has_expired : List ℕ → ℕ → Memory → Bool
has_expired key now memory = is_over now (option_map glance_of (linked_at key memory.pools))

abbrev pub TellsExpired : List ℕ → Status → Leased → Leased → Type 0
TellsExpired key Done old new = (new ≡ old) × (has_expired key old.logged.cache.now old.logged.cache.memory ≡ true)
TellsExpired key Miss old new = (new ≡ old) × (has_expired key old.logged.cache.now old.logged.cache.memory ≡ false)
TellsExpired key (Refused refusal) old new = (new ≡ old) × WhyKey key refusal
TellsExpired key status old new = ⊥

pub record IsUsage (usage : PoolUsage) (told : Usage) : Type 0 where
  pub limit_bytes : told.limit_bytes ≡ usage.limits.bytes
  pub limit_items : told.limit_items ≡ usage.limits.items
  pub bytes : told.bytes ≡ usage.linked.bytes
  pub items : told.items ≡ usage.linked.number
  pub open_bytes : told.open_bytes ≡ usage.open_charges.bytes
  pub open_items : told.open_items ≡ usage.open_charges.number

abbrev pub Uses : Option PoolUsage → Usage → Type 0
Uses None told = ⊥
Uses (Some usage) told = IsUsage usage told

abbrev pub Used : ℕ → Usage → Usage → Status → Leased → Leased → Type 0
Used pool was is Done old new = (new ≡ old) × Uses (pool_usage old.logged.cache.memory pool) is
Used pool was is (Refused refusal) old new = (new ≡ old) × ((refusal ≡ NoPool) × ((pool_usage old.logged.cache.memory pool ≡ None) × (is ≡ was)))
Used pool was is status old new = ⊥
