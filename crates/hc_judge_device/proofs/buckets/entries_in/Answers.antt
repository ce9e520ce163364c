use Rattle.std.proofs.Common.{arith}
use Rattle.hc_judge_device.proofs.PageEntries.{page-entries, no-entries}
use Rattle.hc_judge_device.proofs.buckets.entries_in.Goals as goal

pub returns-in-Some : goal.returns-in-Some
returns-in-Some g c = page-entries c.args.size _ c.args.bytes.now (rw c.in-Some.is at c.in_ok-entries.ensures.page)

pub returns-in_ok-clone-in-None : goal.returns-in_ok-clone-in-None
returns-in_ok-clone-in-None g c = rw c.new.ensures.items (no-entries c.args.size c.args.bytes.now (λ i. omega (arith, c.type_inv.bytes i)) (rw c.in-None.is at c.in_ok-entries.ensures.no_page))
