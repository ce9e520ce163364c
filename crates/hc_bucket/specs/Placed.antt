-- How contracts see an entry where it stands on its page.
use Rattle.hc_types.specs.FlashEntry.{FlashEntry}
use Rattle.hc_bucket.specs.declared.placed.Placed.{Placed}

abbrev pub entry_placed : Placed → FlashEntry
entry_placed p = record { key = p.key.now; value = p.value.now; pool = p.pool; expiry = p.expiry }
