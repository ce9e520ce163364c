use Rattle.std.proofs.Common.{◌≡◌, ◌+◌, ◌≤◌, drop}
use Rattle.hc_types.specs.Tally.{count}
use Rattle.hc_history.specs.Stats as spec
use Rattle.hc_history.proofs.notes.Kept.stats.Given as goal

-- each count so far, and that of the notes that are left
abbrev pub invariant-notes : goal.invariant-notes
invariant-notes g l = record {
  few : (l.counts.stored ≤ l.note-index) × (l.counts.hits ≤ l.note-index) × (l.counts.misses ≤ l.note-index) × (l.counts.removes ≤ l.note-index) × (l.counts.losses ≤ l.note-index) × (l.counts.reads ≤ l.note-index) × (l.counts.writes ≤ l.note-index);
  stored : l.counts.stored + count spec.is_stored (drop l.note-index l.self.notes.items) ≡ count spec.is_stored l.self.notes.items;
  hits : l.counts.hits + count spec.is_hit (drop l.note-index l.self.notes.items) ≡ count spec.is_hit l.self.notes.items;
  misses : l.counts.misses + count spec.is_miss (drop l.note-index l.self.notes.items) ≡ count spec.is_miss l.self.notes.items;
  removes : l.counts.removes + count spec.is_removed (drop l.note-index l.self.notes.items) ≡ count spec.is_removed l.self.notes.items;
  losses : l.counts.losses + count spec.is_loss (drop l.note-index l.self.notes.items) ≡ count spec.is_loss l.self.notes.items;
  reads : l.counts.reads + count spec.is_read (drop l.note-index l.self.notes.items) ≡ count spec.is_read l.self.notes.items;
  writes : l.counts.writes + count spec.is_write (drop l.note-index l.self.notes.items) ≡ count spec.is_write l.self.notes.items;
}
