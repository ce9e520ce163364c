use Rattle.std.proofs.Common.{ap, [], ◌∷◌, ◌++◌, ◌∙◌}
use Rattle.std.specs.Int.{w64, to_be_bytes}
use Rattle.std.proofs.lemmas.Result.{on_ok_weaker}
use Rattle.hc_types.specs.FlashEntry.{entry_of}
use Rattle.hc_engines.specs.large.Entries.{entry_bytes}
use Rattle.hc_image_text.specs.Items.{clean_byte}
use Rattle.hc_image_text.proofs.Behind.{marked, mark_is}
use Rattle.hc_image_text.proofs.item.put_item.Goals as goal

pub returns : goal.returns
returns g c =
    let i = c.args.item.now in
    on_ok_weaker c.put_entry.result
    (λ last. marked c.args.out.now.items (to_be_bytes w64 i.number) (clean_byte i.clean) (entry_bytes (entry_of i.entry)) c.put_number.new.out.items c.push.new.self.items c.put_entry.new.out.items c.in_ok-put_number.ensures (c.in_ok-push.ensures.items ∙ ap (λ b. c.put_number.new.out.items ++ b ∷ []) (c.from.ensures ∙ mark_is i.clean)) last)
    c.put_entry.ensures
