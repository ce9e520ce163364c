use Rattle.std.proofs.Common.{length}
use Rattle.std.specs.Int.{w16, w64, to_be_bytes}
use Rattle.hc_bucket.proofs.PutEntries.{three_parts}
use Rattle.hc_bucket.proofs.writing.put_entry.Goals as goal

pub returns : goal.returns
returns g c =
    let e = c.args.entry.now in
    cc (
      three_parts c.args.page.now.items (length e.key) e.pool (to_be_bytes w16 (length e.value)) (to_be_bytes w64 e.expiry) e.key e.value,
      c.head_of.ensures,
      c.in_ok-extend_from_slice.ensures.items,
      c.as_slice.ensures,
      c.in_ok-extend_from_slice-2.ensures.items,
      c.as_slice-2.ensures,
      c.in_ok-extend_from_slice-3.ensures.items,
    )
