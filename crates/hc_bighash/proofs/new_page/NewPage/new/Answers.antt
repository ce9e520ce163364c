use Rattle.std.proofs.Common.{◌∙◌}
use Rattle.hc_bighash.proofs.Paging.{new_page}
use Rattle.hc_bighash.proofs.new_page.NewPage.new.Goals as goal

pub invariant_of-result : goal.invariant_of-result
invariant_of-result g c = new_page c.requires.0 c.requires.1 c.in_ok-bytes.bytes c.args.word c.requires.2 (c.in_ok-bytes.ensures.ok ∙ c.requires.3) c.requires.4
