-- Refusals that no trace meets, computed: handles of another cache, a handle whose charge an add that waits keeps, and results of the wrong kind.
use Rattle.std.proofs.Common.{◌≡◌, ℕ, List, [], refl, codes}
use Rattle.hc_types.specs.declared.refusal.Refusal.TheVariants.{ForeignHandle, UnknownCall, NotReady, UnknownJob}
use Rattle.hc_bucket.specs.Reading.{page_at, entries_at, entry_at, body_at, content_at, whole_at}
use Rattle.hc_engines.specs.Engine.{Written}
use Rattle.hc_engines.specs.small.Bloom.{bits_of}
use Rattle.hc_memory.specs.Item.{Handle}
use Rattle.hc_legal.proofs.Logs.{a, anew}
use Rattle.hc_machine.specs.Cache.{Cache, Refused}
use Rattle.hc_machine.specs.Calls as calls
use Rattle.hc_machine.specs.Workers as workers
use Rattle.hc_machine.specs.World.{run}
use Rattle.hc_machine.proofs.Tables.{lines_of}
use Rattle.hc_machine.proofs.FillRows.{two_items, both_wait}

-- a handle in the first pool
abbrev handle : ℕ → List ℕ → List ℕ → Handle
handle number key value = record { number = number; pool = 0; key = key; expiry = 0; value = value }

-- an add of a waits, whose charge has the number 4, and a find beside it
abbrev waits : Cache
waits = (run two_items [] (lines_of both_wait)).world.cache

-- the add keeps its charge: no handle is known by it
pub kept_charge : (calls.discard (handle 4 a anew) waits).answer ≡ Refused ForeignHandle
unfolding page_at entries_at entry_at body_at content_at whole_at bits_of
kept_charge = refl

pub kept_charge_put : (calls.insert_or_replace 0 (handle 4 a anew) waits).answer ≡ Refused ForeignHandle
unfolding page_at entries_at entry_at body_at content_at whole_at bits_of
kept_charge_put = refl

-- a charge that was never made
pub no_charge : (calls.insert 0 (handle 9 (codes "z") []) waits).answer ≡ Refused ForeignHandle
unfolding page_at entries_at entry_at body_at content_at whole_at bits_of
no_charge = refl

-- the call still waits; another was answered at once
pub not_ready : (calls.take_reply 4 waits).answer ≡ Refused NotReady
unfolding page_at entries_at entry_at body_at content_at whole_at bits_of
not_ready = refl

pub never_waited : (calls.take_reply 3 waits).answer ≡ Refused UnknownCall
unfolding page_at entries_at entry_at body_at content_at whole_at bits_of
never_waited = refl

-- a job that waits for its page isn't served by a write that was made
abbrev reads : Cache
reads = (workers.filler_take waits).cache

pub not_awaited : (workers.finish 2 Written reads).answer ≡ Refused UnknownJob
unfolding page_at entries_at entry_at body_at content_at whole_at bits_of
not_awaited = refl
