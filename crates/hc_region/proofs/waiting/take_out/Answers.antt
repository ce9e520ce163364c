use Rattle.std.proofs.Common.{◌≡◌, ◌<◌, length, sym, ◌∙◌, rules}
use Rattle.std.specs.List.{remove}
use Rattle.std.specs.VecDeque.{deque_len}
use Rattle.hc_region.proofs.Listed.{stands_at, stands_nowhere}
use Rattle.hc_region.proofs.waiting.take_out.Goals as goal

pub returns-in-Some : goal.returns-in-Some
returns-in-Some g c =
    let at = stands_at c.args.r c.in-Some.at c.args.numbers.now.items c.requires (sym c.place_of.ensures ∙ c.in-Some.is) in
    let there : c.in-Some.at < length c.args.numbers.now.items = at.0 in
    let within : c.in-Some.at < deque_len c.args.numbers.now = search rules in
    let removed : c.remove.new.self.items ≡ remove c.args.numbers.now.items c.in-Some.at = search rules in
    removed ∙ at.1

pub returns-in_default : goal.returns-in_default
returns-in_default g c = stands_nowhere c.args.r c.args.numbers.now.items c.requires (sym c.place_of.ensures ∙ c.in_default.is)
