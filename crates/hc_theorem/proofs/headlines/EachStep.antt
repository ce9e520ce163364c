-- Each kind of step keeps the invariant: what its crate proves, with what the shape of its part keeps and who is answered in it.
use Rattle.hc_invariant.specs.Good.{Good}
use Rattle.hc_invariant.specs.Laws.{AllocateKeeps, InsertKeeps, AddKeeps, DiscardKeeps, FindKeeps, RemoveKeeps, ReplyKeeps, TickKeeps, WriterKeeps, FillerKeeps, ReclaimKeeps, FinishKeeps, Laws}
use Rattle.hc_invariant.proofs.Ticking.{tick_steady}
use Rattle.hc_proof.proofs.shapes.ShapesKeep.{whole, shaped_keeps, allocate_shaped, discard_shaped, insert_shaped, new_shaped, find_shaped, remove_shaped, reply_shaped, tick_shaped, filler_shaped, reclaim_shaped, finish_more}
use Rattle.hc_proof.proofs.fresh.Freshness.{silent_keeps, allocate_silent, discard_silent, reply_silent, tick_silent, reclaim_silent, writer_fresh, filler_fresh, finish_fresh}
use Rattle.hc_proof.proofs.fresh.Called.{insert_fresh, new_fresh, find_fresh, remove_fresh}
use Rattle.hc_proof.proofs.evicting.Allocating.{allocate_steady, discard_steady}
use Rattle.hc_proof.proofs.storing.StoringLaws as store
use Rattle.hc_proof.proofs.calls.Finds.{find_keeps, reply_keeps}
use Rattle.hc_theorem.proofs.writer.WriterLaw.{writer_keeps}
use Rattle.hc_theorem.proofs.fills.FillLaws.{filler_keeps}
use Rattle.hc_proof.proofs.jobs.RegionLaws.{reclaim_keeps}
use Rattle.hc_theorem.proofs.buckets.FinishLaws as jobs

pub allocates : AllocateKeeps Good Good
allocates config older cache pool key value ttl g sized = whole config older cache _ g (allocate_steady config older cache pool key value ttl g.agrees sized) (shaped_keeps config older cache _ (allocate_shaped pool key value ttl cache)) (silent_keeps older cache _ (allocate_silent pool key value ttl cache))

pub inserts : InsertKeeps Good Good
inserts config older cache client handle g sized = whole config older cache _ g (store.inserts config older cache client handle g.agrees sized) (shaped_keeps config older cache _ (insert_shaped client handle cache)) (insert_fresh config older cache client handle g.agrees)

pub adds : AddKeeps Good Good
adds config older cache client handle g sized = whole config older cache _ g (store.adds config older cache client handle g.agrees sized) (shaped_keeps config older cache _ (new_shaped client handle cache)) (new_fresh config older cache client handle g.agrees)

pub discards : DiscardKeeps Good Good
discards config older cache handle g = whole config older cache _ g (discard_steady config older cache handle g.agrees) (shaped_keeps config older cache _ (discard_shaped handle cache)) (silent_keeps older cache _ (discard_silent handle cache))

pub finds : FindKeeps Good Good
finds config older cache client key g = whole config older cache _ g (find_keeps config older cache client key g.agrees) (shaped_keeps config older cache _ (find_shaped client key cache)) (find_fresh config older cache client key g.agrees)

pub removes : RemoveKeeps Good Good
removes config older cache client key g = whole config older cache _ g (store.removes config older cache client key g.agrees) (shaped_keeps config older cache _ (remove_shaped client key cache)) (remove_fresh config older cache client key g.agrees)

pub replies : ReplyKeeps Good Good
replies config older cache call g = whole config older cache _ g (reply_keeps config older cache call g.agrees) (shaped_keeps config older cache _ (reply_shaped call cache)) (silent_keeps older cache _ (reply_silent call cache))

pub ticks : TickKeeps Good Good
ticks config older cache moment g = whole config older cache _ g (tick_steady config older cache moment g.agrees) (shaped_keeps config older cache _ (tick_shaped moment cache)) (silent_keeps older cache _ (tick_silent moment cache))

pub fills : FillerKeeps Good Good
fills config older cache g = whole config older cache _ g (filler_keeps config older cache g) (shaped_keeps config older cache _ (filler_shaped cache)) (filler_fresh config older cache g.agrees)

pub reclaims : ReclaimKeeps Good Good
reclaims config older cache g = whole config older cache _ g (reclaim_keeps config older cache g) (shaped_keeps config older cache _ (reclaim_shaped cache)) (silent_keeps older cache _ (reclaim_silent cache))

pub finishes : FinishKeeps Good Good
finishes config older cache number result g honest = whole config older cache _ g (jobs.finishes config older cache number result g.agrees honest) (finish_more config older cache number result g.agrees) (finish_fresh config older cache number result g.agrees)

pub writes : WriterKeeps Good Good
writes config older cache g =
    let k = writer_keeps config older cache (record { agrees = g.agrees; one_flush = g.one_flush; rested = g.rested }) in
    record { lawful = k.lawful; good = record { agrees = k.good.agrees; one_flush = k.good.one_flush; rested = k.good.rested; fresh = writer_fresh config older cache g.agrees g.fresh } }

pub laws : Laws
laws = record { allocates = allocates; inserts = inserts; adds = adds; discards = discards; finds = finds; removes = removes; replies = replies; ticks = ticks; writes = writes; fills = fills; reclaims = reclaims; finishes = finishes }
