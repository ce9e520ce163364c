-- One part of a step after another.
use Rattle.std.proofs.Common.{◌∙◌, ap, arith}
use Rattle.hc_history.specs.Told.{told_more}
use Rattle.hc_history.proofs.Telling.{told-twice}
use Rattle.hc_machine.specs.Cache.{Cache, Told, and_then}
use Rattle.hc_state.specs.Whole.{Whole, Costs, both, Takes, Does}

pub takes-both : (a b : Costs) (old mid new : Whole) → Takes a old mid → Takes b mid new → Takes (both a b) old new
takes-both a b old mid new first second = record {
  notes = omega (arith, first.notes, second.notes);
  puts = omega (arith, first.puts, second.puts);
  stones = omega (arith, first.stones, second.stones);
  fills = omega (arith, first.fills, second.fills);
}

pub does-both : (told : Told) (f : Cache → Told) (a b : Costs) (old mid new : Whole) → Does told a old mid → Does (f mid.cache) b mid new → Does (and_then told f) (both a b) old new
does-both told f a b old mid new first second = record {
  cache = second.cache ∙ ap (λ (c : Cache). (f c).cache) first.cache;
  log = second.log ∙ (λ i. told_more (first.log i) (f (first.cache i)).part) ∙ told-twice old.log told.part (f told.cache).part;
  room = takes-both a b old mid new first.room second.room;
}
