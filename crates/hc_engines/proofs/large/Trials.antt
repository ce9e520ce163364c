-- The worked rows, computed.
use Rattle.std.proofs.Common.{◌≡◌, ℕ, [], ◌∷◌, Some, None, refl, replicate}
use Rattle.hc_types.specs.Places.{kept_of}
use Rattle.hc_types.specs.declared.config.FlashConfig.{FlashConfig}
use Rattle.hc_types.specs.Loss.{Key, Hash, Collision, NoCleanRegion, Reclaimed, Fault}
use Rattle.hc_types.specs.FlashEntry.{FlashEntry}
use Rattle.hc_engines.specs.Engine.{Put, Get, Flush, Reclaim, Read, Over, Absent, Found}
use Rattle.hc_engines.specs.large.Trial.{Trial, fresh, begin, finish, fail, taken, entry, small_flash, page_asked}

abbrev f8 : FlashConfig
f8 = small_flash 1 1

a_hash : kept_of 8 (97 ∷ []) ≡ 140
a_hash = refl

abbrev r8a : Trial
r8a = begin f8 0 (Put (entry 98 300 121)) (begin f8 0 (Put (entry 97 300 120)) (fresh 3))

abbrev r8b : Trial
r8b = begin f8 1 Flush r8a

set_anew_opened : r8a.outcome.opened ≡ Some 1
set_anew_opened = refl

set_anew_write : r8b.state.sealed ≡ []
set_anew_write = refl

abbrev r8c : Trial
r8c = finish f8 1 r8b

set_anew_flushed : r8c.outcome.flushed ≡ Some 0
set_anew_flushed = refl

abbrev r8d : Trial
r8d = begin f8 2 (Get (97 ∷ [])) r8c

set_anew_read : r8d.order ≡ Some (Read 1)
set_anew_read = refl

-- a is inserted anew, and written anew
abbrev r8e : Trial
r8e = begin f8 0 (Put (entry 97 300 110)) (taken 140 r8d)

set_anew_third : r8e.outcome.opened ≡ Some 2
set_anew_third = refl

set_anew_no_collision : r8e.outcome.losses ≡ []
set_anew_no_collision = refl

abbrev r8f : Trial
r8f = finish f8 2 r8e

set_anew_stale : r8f.outcome.answer ≡ Absent
set_anew_stale = refl

abbrev r8g : Trial
r8g = begin f8 3 (Get (97 ∷ [])) r8f

set_anew_hit : r8g.outcome.answer ≡ Found (entry 97 300 110)
set_anew_hit = refl

-- ---- a region drains under a read, and is opened again after it

abbrev f12 : FlashConfig
f12 = small_flash 1 2

abbrev r12a : Trial
r12a = begin f12 2 (Get (97 ∷ [])) (finish f12 1 (begin f12 1 Flush (begin f12 0 (Put (entry 98 300 121)) (begin f12 0 (Put (entry 97 300 120)) (fresh 3)))))

abbrev r12b : Trial
r12b = begin f12 0 Reclaim r12a

drained_reclaimed : r12b.outcome ≡ record { answer = Over; losses = record { scope = Hash 140 None; cause = Reclaimed 0 } ∷ []; opened = None; flushed = None; cleared = None; reclaimed = Some 0 }
drained_reclaimed = refl

abbrev r12c : Trial
r12c = begin f12 0 (Put (entry 99 300 122)) r12b

drained_opened : r12c.outcome.opened ≡ Some 2
drained_opened = refl

abbrev r12d : Trial
r12d = begin f12 3 Flush r12c

drained_write : page_asked r12d.order ≡ Some 2
drained_write = refl

abbrev r12e : Trial
r12e = begin f12 0 (Put (entry 100 300 119)) r12d

drained_no_region : r12e.outcome.losses ≡ record { scope = Key (100 ∷ []); cause = NoCleanRegion } ∷ []
drained_no_region = refl

abbrev r12f : Trial
r12f = finish f12 2 r12e

drained_cleared : r12f.outcome ≡ record { answer = Absent; losses = []; opened = None; flushed = None; cleared = Some 0; reclaimed = None }
drained_cleared = refl

drained_hit : (begin f12 4 (Get (99 ∷ [])) r12f).outcome.answer ≡ Found (entry 99 300 122)
drained_hit = refl

drained_again : (begin f12 0 (Put (entry 101 300 118)) r12f).outcome.opened ≡ Some 0
drained_again = refl

-- ---- two keys of one hash

abbrev two : ℕ → ℕ → ℕ → FlashEntry
two x y byte = record { key = x ∷ y ∷ []; value = replicate 200 byte; pool = 0; expiry = 0 }

abbrev r13a : Trial
r13a = begin f8 0 (Put (two 98 72 121)) (begin f8 0 (Put (two 97 97 120)) (fresh 3))

one_hash_collision : r13a.outcome.losses ≡ record { scope = Hash 183 (Some (98 ∷ 72 ∷ [])); cause = Collision (98 ∷ 72 ∷ []) } ∷ []
one_hash_collision = refl

one_hash_miss : (begin f8 1 (Get (97 ∷ 97 ∷ [])) r13a).outcome.answer ≡ Absent
one_hash_miss = refl

one_hash_taken : (begin f8 1 (Get (98 ∷ 72 ∷ [])) (taken 183 r13a)).outcome.answer ≡ Absent
one_hash_taken = refl

-- ---- the open region goes out page by page

abbrev f23 : FlashConfig
f23 = small_flash 2 1

abbrev r23a : Trial
r23a = begin f23 1 Flush (begin f23 0 (Put (entry 97 600 120)) (fresh 3))

early_early : page_asked r23a.order ≡ Some 1
early_early = refl

abbrev r23b : Trial
r23b = begin f23 2 (Get (97 ∷ [])) (finish f23 1 r23a)

early_read : r23b.order ≡ Some (Read 1)
early_read = refl

abbrev r23c : Trial
r23c = finish f23 2 r23b

early_found : r23c.outcome.answer ≡ Found (entry 97 600 120)
early_found = refl

abbrev r23d : Trial
r23d = begin f23 3 Flush (begin f23 0 (Put (entry 98 600 121)) r23c)

early_last : page_asked r23d.order ≡ Some 2
early_last = refl

abbrev r23e : Trial
r23e = finish f23 3 r23d

early_flushed : r23e.outcome.flushed ≡ Some 0
early_flushed = refl

early_at_once : (begin f23 4 (Get (98 ∷ [])) r23e).outcome.answer ≡ Found (entry 98 600 121)
early_at_once = refl

abbrev r23f : Trial
r23f = begin f23 4 Flush r23e

early_second : page_asked r23f.order ≡ Some 3
early_second = refl

early_fault : (fail f23 4 r23f).outcome ≡ record { answer = Over; losses = record { scope = Hash 165 None; cause = Fault } ∷ []; opened = None; flushed = None; cleared = Some 1; reclaimed = None }
early_fault = refl
