use Rattle.std.proofs.Common.{map, get_or, ◌∙◌, ap, arith}
use Rattle.hc_memory.specs.Charges.{open_of}
use Rattle.hc_memory.proofs.Books.{read-sum}
use Rattle.hc_memory.proofs.open.OpenCharges.usage.Goals as goal

pub index-requires : goal.index-requires
index-requires g c =
    let within = rw (← c.self.view_is) at c.requires in
    omega (arith, within, c.from.ensures)

pub returns : goal.returns
returns g c =
    let f = c.self.inside in
    let within = rw (← c.self.view_is) at c.requires in
    rw (← c.self.view_is) (read-sum f.usage.items (map open_of f.charges.entries) c.args.pool c.index.result.now c.self.invariant.0 within (c.index.ensures ∙ ap (λ n. get_or f.usage.items n c.index.result.now) c.from.ensures))
