use Rattle.std.proofs.Common.{sym, ◌∙◌, ap}
use Rattle.std.specs.Option.{option_map}
use Rattle.hc_memory.specs.declared.item.Held.{Held}
use Rattle.hc_memory.specs.Seen.{item_of}
use Rattle.hc_memory.proofs.Keyed.{copied-map}
use Rattle.hc_memory.proofs.Orders.{unique, item_at-held}
use Rattle.hc_memory.proofs.pool.Pool.held.Goals as goal

pub returns : goal.returns
returns g c =
    let es = c.self.inside.cache.entries in
    let at = item_at-held c.args.key.now es (unique es c.len-len.ensures.valid.0 c.args.key.now) in
    rw (← c.self.view_is) (copied-map (λ (h : Held g.row.A.Denot). item_of (c.args.key.now, h)) c.peek.result ∙ ap (option_map (λ (h : Held g.row.A.Denot). item_of (c.args.key.now, h))) c.peek.ensures ∙ sym at)
