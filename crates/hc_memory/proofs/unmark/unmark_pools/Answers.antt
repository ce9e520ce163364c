use Rattle.std.proofs.Common.{◌∷◌, []}
use Rattle.hc_types.specs.Loss.{scope_of}
use Rattle.hc_memory.proofs.Unmarking.{listed-covered, named-covered}
use Rattle.hc_memory.proofs.unmark.unmark_pools.Goals as goal

pub returns-in-Key : goal.returns-in-Key
returns-in-Key g c = listed-covered c.args.flash.now c.args.index.now (scope_of c.args.scope.now) (c.in-Key.key ∷ []) c.args.pools.now.items c.unmark_key.new.pools.items c.requires.listed (λ key len h l. named-covered c.args.flash.now c.in-Key.key key len (rw c.in-Key.is at h)) c.unmark_key.ensures

pub returns-in-Hash : goal.returns-in-Hash
returns-in-Hash g c = listed-covered c.args.flash.now c.args.index.now (scope_of c.args.scope.now) c.listed.result.now c.args.pools.now.items c.unmark_keys.new.pools.items c.requires.listed c.listed.ensures c.unmark_keys.ensures
