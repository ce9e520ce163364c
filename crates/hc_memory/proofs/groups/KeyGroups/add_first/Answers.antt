use Rattle.std.proofs.Common.{◌∷◌, [], ◌++◌, ap, ◌∙◌, Some}
use mathlib.Core.Bool.{cond}
use Rattle.std.specs.Prelude.{◌==◌}
use Rattle.hc_memory.specs.Clean.{keys_at, groups_of}
use Rattle.hc_memory.proofs.Grouped.{put-is}
use Rattle.hc_memory.proofs.groups.KeyGroups.add_first.Goals as goal

pub returns-in-Ok-clause-ok : goal.returns-in-Ok-clause-ok
returns-in-Ok-clause-ok g c = rw (← c.self.view_is) (λ p.
    put-is c.args.place c.self.inside.groups.entries c.insert.new.self.entries (Some c.push_reserved.new.self) c.in-Ok.ensures.updates.0 p
    ∙ ap (λ keys. cond (p == c.args.place) keys (keys_at p (groups_of c.self.inside.groups.entries))) (c.push_reserved.ensures.items ∙ ap (λ keys. keys ++ c.args.key ∷ []) c.in_ok-keys.ensures.items))
