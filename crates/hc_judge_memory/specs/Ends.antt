-- What may not be where a log ends between two steps.
use Rattle.std.specs.Prelude.{nat_le, Bool, not, ◌&&◌, List, Option}
use Rattle.hc_types.specs.declared.config.FlashConfig.{FlashConfig}
use Rattle.hc_types.specs.Tally.{count}
use Rattle.hc_history.specs.Note.{Note}
use Rattle.hc_history.specs.Books.{Charge, is_linked, entry_at}
use Rattle.hc_history.specs.Lawful.{is_backed}

-- a linked charge that isn't that of its key's entry
abbrev pub is_unbacked : Option FlashConfig → List Note → Charge → Bool
is_unbacked flash older charge = charge.linked && not (is_backed (entry_at flash older charge.key) charge)

-- its key has no two linked charges
abbrev pub is_single : List Charge → Charge → Bool
is_single live charge = nat_le (count (is_linked charge.key) live) 1
