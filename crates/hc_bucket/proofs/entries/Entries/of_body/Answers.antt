use Rattle.std.proofs.Common.{◌≡◌, ◌==◌, ◌&&◌, ℕ, Bool, true, false, List, [], Some, None, refl, sym, ◌∙◌, arith}
use Rattle.std.specs.Prelude.{is_some, if◌then◌else◌}
use Rattle.std.specs.List.{list_all}
use Rattle.hc_bucket.specs.Reading.{whole_at}
use Rattle.hc_bucket.specs.Whole.{all_at}
use Rattle.hc_bucket.proofs.Scanning.{whole_is, is_whole_by}
use Rattle.hc_bucket.proofs.entries.Entries.of_body.Goals as goal
use Rattle.hc_bucket.proofs.entries.Entries.of_body.Goals.{else-is_zero-via-then-is_zero+else-is_whole, else-is_zero-via-else-is_zero}

read-by : (count : ℕ) (bytes unused : List ℕ) (z w : Bool) → z ≡ list_all (λ b. b == 0) unused → w ≡ is_some (whole_at count bytes []) → (if z && w then Some (all_at count bytes) else None) ≡ whole_at count bytes unused
read-by count bytes unused z w hz hw = sym (whole_is count bytes unused ∙ (λ i. if sym hz i && sym hw i then Some (all_at count bytes) else None))

pub invariant_of-result : goal.invariant_of-result
invariant_of-result c = is_whole_by c.args.count c.args.bytes.now (λ i. omega (arith, c.type_inv.bytes i)) (sym c.if-is_whole.ensures)

pub returns-then-is_whole : goal.returns-then-is_whole
returns-then-is_whole c = read-by c.args.count c.args.bytes.now c.args.unused.now true true c.if-is_zero.ensures c.if-is_whole.ensures

pub returns-else-is_zero : goal.returns-else-is_zero
returns-else-is_zero c =
    elim c.else-is_zero.branch [
      | else-is_zero-via-then-is_zero+else-is_whole w ↦ read-by c.args.count c.args.bytes.now c.args.unused.now true false (sym w.if-is_zero.true ∙ c.is_zero.ensures) (sym w.if-is_whole.false ∙ w.is_whole.ensures)
      | else-is_zero-via-else-is_zero w ↦ read-by c.args.count c.args.bytes.now c.args.unused.now false (is_some (whole_at c.args.count c.args.bytes.now [])) (sym w.if-is_zero.false ∙ c.is_zero.ensures) refl
    ]
