use Rattle.std.proofs.Common.{refl, sym, arith, true≢false}
use Rattle.hc_memory.proofs.handles.Blank.write_at.Goals as goal
use Rattle.hc_memory.proofs.handles.Blank.write_at.Goals.{then-at-size-via-then-at-size, then-at-size-via-else-at-size+then-bytes-size}

pub returns-then-at-size-clause-fits : goal.returns-then-at-size-clause-fits
returns-then-at-size-clause-fits g c = elim c.then-at-size.branch [
  | then-at-size-via-then-at-size w ↦ (λ h. absurd (true≢false (sym h)), λ le. absurd (omega (arith, c.len-size.ensures, w.if-at-size.true, le)))
  | then-at-size-via-else-at-size+then-bytes-size w ↦ (λ h. absurd (true≢false (sym h)), λ le. absurd (omega (arith, c.len-size.ensures, w.if-at-size.false, w.if-bytes-size.true, le)))
]

pub returns-then-at-size-clause-err : goal.returns-then-at-size-clause-err
returns-then-at-size-clause-err g c = refl

pub overflow_add-end : goal.overflow_add-end
overflow_add-end g c = omega (arith, c.len-size.type_inv, c.if-at-size.false, c.if-bytes-size.false)

pub returns-clause-fits : goal.returns-clause-fits
returns-clause-fits g c = (λ h. omega (arith, c.len-size.ensures, c.if-at-size.false, c.if-bytes-size.false), λ le. refl)
