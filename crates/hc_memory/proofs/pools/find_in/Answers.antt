use Rattle.std.proofs.Common.{ap, length, refl, sym, ◌∙◌, arith}
use Rattle.std.specs.Prelude.{option_map}
use Rattle.hc_memory.specs.Pool.{value_then}
use Rattle.hc_memory.specs.Memory.{home_of, linked_at, copied}
use Rattle.hc_memory.proofs.Homes.{away}
use Rattle.hc_memory.proofs.Looking.{unpassed, all-passed}
use Rattle.hc_memory.proofs.Finding.{uses, here, elsewhere}
use Rattle.hc_memory.proofs.pools.find_in.Goals as goal

pub loop-i-init : goal.loop-i-init
loop-i-init g c = record { same = refl; rest = unpassed (home_of c.args.key.now c.args.pools.now.items); buffer = refl }

pub index_mut-requires : goal.index_mut-requires
index_mut-requires g c = omega (arith, c.loop-i-test.true, ap length c.loop-i.invariant.same)

pub returns-in-Some-clause-value : goal.returns-in-Some-clause-value
returns-in-Some-clause-value g c = (here c.args.key.now c.args.now c.args.pools.now.items c.loop-i.pools.items c.loop-i.i c.index_mut.result.now c.find_into.new.self c.loop-i.buffer c.find_into.new.buffer c.in-Some.found c.loop-i.invariant.same (omega (arith, c.loop-i-test.true)) c.index_mut.ensures.value c.in-Some.ensures.value c.in-Some.ensures.buffer c.in-Some.ensures.items c.loop-i.invariant.rest).value

pub returns-in-Some-clause-buffer : goal.returns-in-Some-clause-buffer
returns-in-Some-clause-buffer g c =
    let h = here c.args.key.now c.args.now c.args.pools.now.items c.loop-i.pools.items c.loop-i.i c.index_mut.result.now c.find_into.new.self c.loop-i.buffer c.find_into.new.buffer c.in-Some.found c.loop-i.invariant.same (omega (arith, c.loop-i-test.true)) c.index_mut.ensures.value c.in-Some.ensures.value c.in-Some.ensures.buffer c.in-Some.ensures.items c.loop-i.invariant.rest in
    h.copy ∙ ap (copied (value_then c.args.now (linked_at c.args.key.now c.args.pools.now.items))) c.loop-i.invariant.buffer

pub returns-in-Some-clause-pools : goal.returns-in-Some-clause-pools
returns-in-Some-clause-pools g c = (here c.args.key.now c.args.now c.args.pools.now.items c.loop-i.pools.items c.loop-i.i c.index_mut.result.now c.find_into.new.self c.loop-i.buffer c.find_into.new.buffer c.in-Some.found c.loop-i.invariant.same (omega (arith, c.loop-i-test.true)) c.index_mut.ensures.value c.in-Some.ensures.value c.in-Some.ensures.buffer c.in-Some.ensures.items c.loop-i.invariant.rest).pools

pub loop-i-preserved : goal.loop-i-preserved
loop-i-preserved g c =
    let e = elsewhere c.args.key.now c.args.now c.args.pools.now.items c.loop-i.pools.items c.loop-i.i c.index_mut.result.now c.find_into.new.self c.loop-i.buffer c.find_into.new.buffer c.loop-i.invariant.same (omega (arith, c.loop-i-test.true)) c.index_mut.ensures.value c.in_default.ensures.value c.in_default.ensures.buffer c.in_default.ensures.items c.loop-i.invariant.rest in
    record { same = e.same; rest = e.rest; buffer = e.same_buffer ∙ c.loop-i.invariant.buffer }

pub returns-clause-value : goal.returns-clause-value
returns-clause-value g c =
    let none = sym (all-passed c.args.key.now c.args.pools.now.items c.loop-i.i (omega (arith, c.loop-i-test.false)) c.loop-i.invariant.rest) in
    ap (λ o. option_map length (value_then c.args.now o)) (sym (away c.args.key.now c.args.pools.now.items none).linked)

pub returns-clause-buffer : goal.returns-clause-buffer
returns-clause-buffer g c =
    let none = sym (all-passed c.args.key.now c.args.pools.now.items c.loop-i.i (omega (arith, c.loop-i-test.false)) c.loop-i.invariant.rest) in
    c.loop-i.invariant.buffer ∙ ap (λ o. copied (value_then c.args.now o) c.args.buffer.now) (sym (away c.args.key.now c.args.pools.now.items none).linked)

pub returns-clause-pools : goal.returns-clause-pools
returns-clause-pools g c =
    let none = sym (all-passed c.args.key.now c.args.pools.now.items c.loop-i.i (omega (arith, c.loop-i-test.false)) c.loop-i.invariant.rest) in
    c.loop-i.invariant.same ∙ sym ((away c.args.key.now c.args.pools.now.items none).change (uses c.args.key.now c.args.now))
