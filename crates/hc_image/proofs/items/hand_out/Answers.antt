use Rattle.std.proofs.Common.{◌∙◌, ap}
use Rattle.hc_machine.specs.items.Items.{items_of}
use Rattle.hc_machine.specs.Cache.{Cache}
use Rattle.hc_image.proofs.Behind.{taken_out, items_less}
use Rattle.hc_image.proofs.items.hand_out.Goals as goal

pub returns : goal.returns
returns g c =
    taken_out (items_of c.args.parts.now.memory.pools) (items_of c.hand_out_item.new.self.memory.pools) c.hand_out_item.result c.hand_out_item.ensures.item
    (ap (λ (cache : Cache). items_of cache.memory.pools) c.hand_out_item.ensures.cache ∙ items_less c.args.parts.now.memory.pools)
