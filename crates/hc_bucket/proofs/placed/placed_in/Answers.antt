use Rattle.std.proofs.Common.{◌+◌, length, sym, ◌∙◌, arith, refl}
use Rattle.hc_types.specs.FlashEntry.{FlashEntry}
use Rattle.hc_bucket.proofs.Heads.{head_none, entry_is, no_key_part, no_value_part, key_empty, all_parts, spelled_by}
use Rattle.hc_bucket.proofs.placed.placed_in.Goals as goal

pub returns-in_default-clause-read : goal.returns-in_default-clause-read
returns-in_default-clause-read c = sym (head_none c.args.bytes.now (sym c.in_default.ensures))

pub returns-in_default-part_in-clause-read : goal.returns-in_default-part_in-clause-read
returns-in_default-part_in-clause-read c =
    sym (entry_is c.args.bytes.now c.in-Some.head c.in-Some.rest.now (sym c.in-Some.ensures) ∙ no_key_part c.in-Some.head c.in-Some.rest.now (sym c.in_default-part_in.ensures))

pub returns-in_default-part_in-2-clause-read : goal.returns-in_default-part_in-2-clause-read
returns-in_default-part_in-2-clause-read c =
    sym (entry_is c.args.bytes.now c.in-Some.head c.in-Some.rest.now (sym c.in-Some.ensures)
    ∙ no_value_part c.in-Some.head c.in-Some.rest.now c.in-Some-part_in.key.now c.in-Some-part_in.rest.now (sym c.in-Some-part_in.ensures) (sym c.in_default-part_in-2.ensures))

pub returns-then-is_empty-clause-read : goal.returns-then-is_empty-clause-read
returns-then-is_empty-clause-read c =
    sym (entry_is c.args.bytes.now c.in-Some.head c.in-Some.rest.now (sym c.in-Some.ensures)
    ∙ key_empty c.in-Some.head c.in-Some.rest.now c.in-Some-part_in.key.now c.in-Some-part_in.rest.now c.in-Some-part_in-2.value.now c.in-Some-part_in-2.rest.now (sym c.in-Some-part_in.ensures) (sym c.in-Some-part_in-2.ensures) c.if-is_empty.ensures)

pub returns-clause-read : goal.returns-clause-read
returns-clause-read c =
    sym (entry_is c.args.bytes.now c.in-Some.head c.in-Some.rest.now (sym c.in-Some.ensures)
    ∙ all_parts c.in-Some.head c.in-Some.rest.now c.in-Some-part_in.key.now c.in-Some-part_in.rest.now c.in-Some-part_in-2.value.now c.in-Some-part_in-2.rest.now (sym c.in-Some-part_in.ensures) (sym c.in-Some-part_in-2.ensures) c.if-is_empty.ensures)

pub returns-clause-spelled : goal.returns-clause-spelled
returns-clause-spelled c =
    let e : FlashEntry = record { key = c.in-Some-part_in.key.now; value = c.in-Some-part_in-2.value.now; pool = c.in-Some.head.pool; expiry = c.in-Some.head.expiry } in
    spelled_by c.args.bytes.now e c.in-Some-part_in-2.rest.now (12 + length c.in-Some-part_in.key.now + length c.in-Some-part_in-2.value.now) (λ i. omega (arith, c.type_inv.bytes i)) (sym (returns-clause-read c)) refl
