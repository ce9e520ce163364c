use Rattle.std.proofs.Common.{◌≡◌, ◌++◌, ◌∷◌, [], ap, ◌∙◌, arith, length, length-append}
use Rattle.hc_memory.specs.Item.{Item}
use Rattle.hc_memory.specs.Seen.{item_of}
use Rattle.hc_memory.proofs.Bringing.{turns, pushed-fresh}
use Rattle.hc_memory.proofs.pool.Pool.bring.Goals as goal

pub evict-requires-clause-some : goal.evict-requires-clause-some
evict-requires-clause-some g c =
    let x : Item = item_of (c.args.key, c.args.held) in
    let put : c.link.new.self.items ≡ c.args.self.now.items ++ x ∷ [] = ap (λ p. p.items) c.in_ok-link.ensures.items ∙ pushed-fresh c.args.key c.args.self.now.items x c.requires.absent in
    omega (arith, c.requires.some, ap length put, length-append c.args.self.now.items (x ∷ []))

pub returns-clause-victims : goal.returns-clause-victims
returns-clause-victims g c =
    let x : Item = item_of (c.args.key, c.args.held) in
    let put : c.link.new.self.items ≡ c.args.self.now.items ++ x ∷ [] = ap (λ p. p.items) c.in_ok-link.ensures.items ∙ pushed-fresh c.args.key c.args.self.now.items x c.requires.absent in
    c.evict.ensures.victims ∙ ap (λ ys. c.args.victims.now.items ++ ys) (turns c.args.self.now.items c.link.new.self.items c.args.count x put c.requires.some).0

pub returns-clause-items : goal.returns-clause-items
returns-clause-items g c =
    let x : Item = item_of (c.args.key, c.args.held) in
    let put : c.link.new.self.items ≡ c.args.self.now.items ++ x ∷ [] = ap (λ p. p.items) c.in_ok-link.ensures.items ∙ pushed-fresh c.args.key c.args.self.now.items x c.requires.absent in
    let left = (turns c.args.self.now.items c.link.new.self.items c.args.count x put c.requires.some).1 in
    c.evict.ensures.items ∙ (λ i. record { size = (c.in_ok-link.ensures.items i).size; items = left i })
