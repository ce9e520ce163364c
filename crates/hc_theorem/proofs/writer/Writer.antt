-- The writer's take keeps the invariant: a page of a region, or else a delete, or else a put.
use Rattle.std.proofs.Common.{◌≡◌, ℕ, ◌+◌, Bool, true, false, List, length, Option, Some, None, refl, ap, ◌∙◌, subst}
use Rattle.hc_types.specs.Config.{Config}
use Rattle.hc_types.specs.Places.{is_small_by}
use Rattle.hc_types.specs.declared.config.PoolSize.{PoolSize}
use Rattle.hc_types.specs.declared.config.FlashConfig.{FlashConfig}
use Rattle.hc_types.specs.FlashEntry.{FlashEntry}
use Rattle.hc_engines.specs.Engine.{Flush, Order, Outcome, Next, Busy, Io, Done}
use Rattle.hc_history.specs.Note.{Note}
use Rattle.hc_history.specs.Lawful.{past}
use Rattle.hc_history.specs.Regions.{put_under_way, is_put_of}
use Rattle.hc_engines.specs.pair.Pair as pairs
use Rattle.hc_machine.specs.Nvm.{Nvm, Tombstone, fill_at, next_put, next_delete, without_put}
use Rattle.hc_machine.specs.Takes.{Idle, take_sized, take_put, take_delete, take_flush}
use Rattle.hc_machine.specs.Cache.{Cache, Took, stays, with_nvm}
use Rattle.hc_machine.specs.Workers as workers
use Rattle.hc_machine.specs.Workers.{after_take}
use Rattle.hc_invariant.specs.Good.{Orderly, Rested, fills_of}
use Rattle.hc_invariant.specs.Laws.{KeptBy, WriterKeeps}
use Rattle.hc_proof.specs.jobs.RegionSteps.{WriterFlushKeepsMore}
use Rattle.hc_proof.specs.books.RegionBooks.{PutTells}
use Rattle.hc_theorem.specs.writer.Parts.{conf, DeleteKeeps, PutKeeps}
use Rattle.hc_theorem.proofs.writer.Deletes.{delete_keeps}
use Rattle.hc_theorem.proofs.writer.SmallPuts.{small_put_keeps}
use Rattle.hc_theorem.proofs.writer.LargePuts.{large_put_keeps}

-- The take of a region's page is given, and each other way is one of three.
module _ (flush : (config : Config) (older : List Note) (cache : Cache) (nvm : Nvm) (order : Order) (outcome : Outcome) → cache.nvm ≡ Some nvm → (pairs.start (nvm.made + 1) Flush nvm.pair).next ≡ Io order outcome → Orderly config older cache → KeptBy Orderly config older (workers.writer_take cache))
    (deletes : DeleteKeeps) (smalls : PutKeeps true) (larges : PutKeeps false) where
  put_taken : (pools : List PoolSize) (flash : FlashConfig) (older : List Note) (cache : Cache) (nvm : Nvm) (put : FlashEntry) (small : Bool) → is_small_by nvm.pair.small.flash put.key (length put.value) ≡ small
      → Orderly (conf pools flash) older (with_nvm nvm cache) → next_put nvm ≡ Some put
      → KeptBy Orderly (conf pools flash) older (after_take (take_sized small put (record nvm { queue = without_put put.key nvm.queue })) (with_nvm nvm cache))
  put_taken pools flash older cache nvm put true e g found = smalls pools flash older cache nvm put g found e
  put_taken pools flash older cache nvm put false e g found = larges pools flash older cache nvm put g found e

  idle_kept : (config : Config) (older : List Note) (cache : Cache) → Orderly config older cache → KeptBy Orderly config older (stays (Took Idle) cache)
  idle_kept config older cache g = record { lawful = tt; good = g }

  puts_taken : (pools : List PoolSize) (flash : FlashConfig) (older : List Note) (cache : Cache) (nvm : Nvm) (o : Option FlashEntry) → next_put nvm ≡ o → Orderly (conf pools flash) older (with_nvm nvm cache)
      → KeptBy Orderly (conf pools flash) older (after_take (take_put o nvm) (with_nvm nvm cache))
  puts_taken pools flash older cache nvm None found g = idle_kept (conf pools flash) older (with_nvm nvm cache) g
  puts_taken pools flash older cache nvm (Some put) found g = put_taken pools flash older cache nvm put (is_small_by nvm.pair.small.flash put.key (length put.value)) refl g found

  deletes_taken : (pools : List PoolSize) (flash : FlashConfig) (older : List Note) (cache : Cache) (nvm : Nvm) (o : Option Tombstone) → next_delete nvm ≡ o → Orderly (conf pools flash) older (with_nvm nvm cache)
      → KeptBy Orderly (conf pools flash) older (after_take (take_delete o nvm) (with_nvm nvm cache))
  deletes_taken pools flash older cache nvm None found g = puts_taken pools flash older cache nvm (next_put nvm) refl g
  deletes_taken pools flash older cache nvm (Some stone) found g = deletes pools flash older cache nvm stone g found

  flush_taken : (pools : List PoolSize) (flash : FlashConfig) (older : List Note) (cache : Cache) (nvm : Nvm) (next : Next) → (pairs.start (nvm.made + 1) Flush nvm.pair).next ≡ next → Orderly (conf pools flash) older (with_nvm nvm cache)
      → KeptBy Orderly (conf pools flash) older (after_take (take_flush next (pairs.start (nvm.made + 1) Flush nvm.pair).pair nvm) (with_nvm nvm cache))
  flush_taken pools flash older cache nvm (Io order outcome) e g =
      subst (λ (next : Next). KeptBy Orderly (conf pools flash) older (after_take (take_flush next (pairs.start (nvm.made + 1) Flush nvm.pair).pair nvm) (with_nvm nvm cache))) e (flush (conf pools flash) older (with_nvm nvm cache) nvm order outcome refl e g)
  flush_taken pools flash older cache nvm Busy e g = deletes_taken pools flash older cache nvm (next_delete nvm) refl g
  flush_taken pools flash older cache nvm (Done outcome) e g = deletes_taken pools flash older cache nvm (next_delete nvm) refl g

  taken : (pools : List PoolSize) (flash : Option FlashConfig) (older : List Note) (cache : Cache) (nvm : Option Nvm) → Orderly (record { pools = pools; flash = flash }) older (record cache { nvm = nvm })
      → KeptBy Orderly (record { pools = pools; flash = flash }) older (workers.writer_take (record cache { nvm = nvm }))
  taken pools None older cache None g = idle_kept (record { pools = pools; flash = None }) older (record cache { nvm = None }) g
  taken pools None older cache (Some nvm) g = absurd (g.agrees.flash)
  taken pools (Some flash) older cache None g = absurd (g.agrees.flash)
  taken pools (Some flash) older cache (Some nvm) g = flush_taken pools flash older cache nvm (pairs.start (nvm.made + 1) Flush nvm.pair).next refl g

-- ---- the law

rests_still : (flash : Option FlashConfig) (older newer : List Note) (before after : Option Nvm) → fills_of after ≡ fills_of before
    → ((flash : FlashConfig) (key : List ℕ) → is_put_of key (put_under_way flash newer) ≡ true → is_put_of key (put_under_way flash older) ≡ true) → Rested flash older before → Rested flash newer after
rests_still None older newer before after e h r = tt
rests_still (Some flash) older newer before after e h r = λ key p. ap (fill_at key) e ∙ r key (h flash key p)

-- a page of a region
page_taken : WriterFlushKeepsMore → (config : Config) (older : List Note) (cache : Cache) (nvm : Nvm) (order : Order) (outcome : Outcome) → cache.nvm ≡ Some nvm → (pairs.start (nvm.made + 1) Flush nvm.pair).next ≡ Io order outcome → Orderly config older cache → KeptBy Orderly config older (workers.writer_take cache)
page_taken flush config older cache nvm order outcome n e g =
    let k = flush config older cache nvm order outcome n e g.agrees in
    record {
      lawful = k.steady.lawful;
      good = record { agrees = k.steady.good; one_flush = k.once g.one_flush; rested = rests_still config.flash older (past older (workers.writer_take cache).part) cache.nvm (workers.writer_take cache).cache.nvm k.fills k.rested g.rested };
    }

-- from the take of a region's page and the region books of a large put
pub writer_keeps : WriterFlushKeepsMore → PutTells → WriterKeeps Orderly Orderly
writer_keeps flush put_tells config older cache g = taken (page_taken flush) delete_keeps small_put_keeps (large_put_keeps put_tells) config.pools config.flash older cache cache.nvm g
