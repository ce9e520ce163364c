use Rattle.std.proofs.Common.{false, ap}
use Rattle.hc_memory.specs.Item.{Handle, item_by}
use Rattle.hc_memory.proofs.handles.Sealed.into_parts.Goals as goal

pub returns : goal.returns
returns g c = record {
  key = ap (λ (h : Handle). h.key) c.self.view_is;
  item = ap (item_by false) c.self.view_is;
}
