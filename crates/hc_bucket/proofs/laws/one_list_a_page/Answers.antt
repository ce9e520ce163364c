use Rattle.hc_bucket.proofs.Pages.{holds_one_list}
use Rattle.hc_bucket.proofs.laws.one_list_a_page.Goals as goal

pub returns : goal.returns
returns c = holds_one_list
