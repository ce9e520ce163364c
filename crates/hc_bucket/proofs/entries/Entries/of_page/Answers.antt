use Rattle.std.proofs.Common.{arith}
use Rattle.hc_bucket.proofs.Scanning.{is_page}
use Rattle.hc_bucket.proofs.entries.Entries.of_page.Goals as goal

pub returns-clause-page : goal.returns-clause-page
returns-clause-page c = is_page c.args.page_size c.args.page.now c.read.result (λ i. omega (arith, c.type_inv.page i)) c.read.ensures
