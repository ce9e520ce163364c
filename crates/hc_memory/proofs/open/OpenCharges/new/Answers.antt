use Rattle.std.proofs.Common.{map, length, ◌∙◌, ap}
use Rattle.std.proofs.lemmas.List.{length-replicate}
use Rattle.hc_memory.specs.Charges.{open_of}
use Rattle.hc_memory.proofs.Books.{no-usage, no-sums}
use Rattle.hc_memory.proofs.open.OpenCharges.new.Goals as goal

pub invariant_of-result : goal.invariant_of-result
invariant_of-result g c =
    let usage = no-usage c.args.pools _ c.in_ok-usage.usage.items c.resize.new.self.items c.in_ok-usage.ensures.items c.in_ok-usage.ensures.len c.in_ok-resize.ensures.items in
    no-sums c.args.pools c.resize.new.self.items (map open_of c.new.result.entries) usage (ap (map open_of) c.new.ensures.empty)

pub returns : goal.returns
returns g c =
    let usage = no-usage c.args.pools _ c.in_ok-usage.usage.items c.resize.new.self.items c.in_ok-usage.ensures.items c.in_ok-usage.ensures.len c.in_ok-resize.ensures.items in
    let pools = ap length usage ∙ length-replicate c.args.pools (record { bytes = 0; number = 0 }) in
    λ i. record { charges = map open_of (c.new.ensures.empty i); pools = pools i }
