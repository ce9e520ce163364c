use Rattle.std.proofs.Common.{arith}
use Rattle.hc_bucket.proofs.PutEntries.{count_fits}
use Rattle.hc_bucket.proofs.writing.end_page.Goals as goal

pub overflow_cast-count : goal.overflow_cast-count
overflow_cast-count g c = omega (arith, count_fits c.args.page_size c.requires.0 c.requires.3, c.requires.2)
