use Rattle.std.proofs.Common.{◌≡◌, ℕ, List, [], ◌∷◌, length, refl, sym, arith, rules}
use Rattle.std.proofs.lemmas.Bool.{eqb-true}
use Rattle.hc_trace.proofs.chunks.end_line.Goals as goal

nothing-left : (bytes : List ℕ) → length bytes ≡ 0 → bytes ≡ []
nothing-left [] h = refl
nothing-left (b ∷ bytes) h = absurd (omega arith)

pub returns-then-is_empty : goal.returns-then-is_empty
returns-then-is_empty g c =
    let none = nothing-left c.args.spill.now.items (omega (arith, eqb-true _ _ (sym c.if-is_empty.ensures), c.args.spill.now.ok.0)) in
    let done = c.put_line.ensures in
    rw none (record { state = done.state; goes = done.goes; bytes = done.bytes; empty = search rules })

pub returns : goal.returns
returns g c =
    let done = rw c.in_ok-extend_from_slice.ensures.items at (rw c.deref.ensures.value at c.in_ok-goes.ensures) in
    record { state = done.state; goes = done.goes; bytes = done.bytes; empty = c.clear.ensures.items }
