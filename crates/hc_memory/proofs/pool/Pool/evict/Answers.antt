use Rattle.std.proofs.Common.{◌≡◌, ◌∷◌, ◌++◌, [], sym, ◌∙◌, ap, arith, refl, append-nil, append_assoc, length, length-drop, slice_get, take, drop}
use Rattle.std.proofs.lemmas.List.{drop-drop}
use Rattle.hc_memory.specs.Pool.{Pool}
use Rattle.hc_memory.proofs.Rooms.{take-next, first-there}
use Rattle.hc_memory.proofs.pool.Pool.evict.Goals as goal

pub loop-preserved : goal.loop-preserved
loop-preserved g c =
    let inv = c.loop.invariant in
    let items = c.args.self.now.items in
    let rest = drop-drop 1 c.loop.counter items in
    let next = take-next c.loop.counter items c.in-Some.item (c.in-Some.ensures.value ∙ ap (λ (p : Pool). slice_get p.items 0) inv.left) in
    record {
      left = c.evict_first.ensures.items ∙ (λ i. record { size = (inv.left i).size; items = drop 1 ((inv.left i).items) }) ∙ (λ i. record { size = c.args.self.now.size; items = rest i });
      gone = c.push_reserved.ensures.items ∙ ap (λ xs. xs ++ c.in-Some.item ∷ []) inv.gone ∙ append_assoc c.args.victims.now.items _ _ ∙ ap (λ xs. c.args.victims.now.items ++ xs) (sym next);
      len = omega (arith, c.push_reserved.ensures.len, inv.len);
      room = c.push_reserved.ensures.capacity ∙ inv.room;
    }

pub loop-init : goal.loop-init
loop-init g c = record {
  left = refl;
  gone = sym (append-nil c.args.victims.now.items);
  len = omega arith;
  room = refl;
}

pub push_reserved-requires : goal.push_reserved-requires
push_reserved-requires g c =
    let inv = c.loop.invariant in
    omega (arith, inv.len, inv.room, c.requires.room, c.loop-test.true)

pub returns-clause-victims : goal.returns-clause-victims
returns-clause-victims g c =
    let all : c.loop.counter ≡ c.args.count = omega (arith, c.loop-test.false, c.loop.auto) in
    c.loop.invariant.gone ∙ ap (λ n. c.args.victims.now.items ++ take n c.args.self.now.items) all

pub returns-clause-len : goal.returns-clause-len
returns-clause-len g c =
    let inv = c.loop.invariant in
    omega (arith, inv.len, c.loop-test.false, c.loop.auto)

pub returns-clause-items : goal.returns-clause-items
returns-clause-items g c =
    let all : c.loop.counter ≡ c.args.count = omega (arith, c.loop-test.false, c.loop.auto) in
    c.loop.invariant.left ∙ (λ i. record { size = c.args.self.now.size; items = drop (all i) c.args.self.now.items })

pub unreachable-requires : goal.unreachable-requires
unreachable-requires g c =
    let inv = c.loop.invariant in
    let left = ap (λ (p : Pool). length p.items) inv.left in
    first-there c.loop.self.items (omega (arith, left, length-drop c.loop.counter c.args.self.now.items, c.loop-test.true, c.requires.some)) c.in-None.ensures.value
