use Rattle.std.proofs.Common.{◌≡◌, false, sym, ◌∙◌}
use Rattle.std.specs.Prelude.{is_some}
use Rattle.hc_state.specs.find.Answer.{found_answer}
use Rattle.hc_state.proofs.find.Hits.{bare-step}
use Rattle.hc_state.proofs.state.State.find_beside.Goals as goal

pub returns-else-has_flash-clause-ok : goal.returns-else-has_flash-clause-ok
returns-else-has_flash-clause-ok g c =
    let counted = c.count_find.ensures in
    let bare : is_some c.args.self.now.cache.nvm ≡ false = sym c.has_flash.ensures ∙ c.if-has_flash.false in
    bare-step c.args.client c.args.call c.args.key.now (found_answer c.count_find.result) c.args.self.now c.count_find.new.self c.requires.call bare c.requires.absent
    counted.answer counted.cache (counted.log c.args.client c.args.key.now) counted.ready
