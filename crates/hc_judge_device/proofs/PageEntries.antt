-- What decoding a page tells of the entries in it.
use Rattle.std.proofs.Common.{◌≡◌, ℕ, List, [], Option, Some, None, refl, ap, sym}
use Rattle.hc_types.specs.FlashEntry.{FlashEntry}
use Rattle.hc_bucket.specs.Page.{IsPage}
use Rattle.hc_bucket.specs.Reading.{page_at}
use Rattle.hc_bucket.proofs.Numbers.{IsBytes}
use Rattle.hc_bucket.proofs.Pages.{page_takes, page_is_read}
use Rattle.hc_history.specs.Pages.{listed, entries_in}

pub page-entries : (size : ℕ) (es : List FlashEntry) (bytes : List ℕ) → IsPage size es bytes → es ≡ entries_in size bytes
page-entries size es bytes h = ap listed (sym (page_is_read size es bytes h))

absent : (size : ℕ) (bytes : List ℕ) (read : Option (List FlashEntry)) → IsBytes bytes → ((es : List FlashEntry) → IsPage size es bytes → ⊥) → page_at size bytes ≡ read → page_at size bytes ≡ None
absent size bytes None fits none e = e
absent size bytes (Some es) fits none e = absurd (none es (page_takes size bytes es fits e))

pub no-entries : (size : ℕ) (bytes : List ℕ) → IsBytes bytes → ((es : List FlashEntry) → IsPage size es bytes → ⊥) → [] ≡ entries_in size bytes
no-entries size bytes fits none = ap listed (sym (absent size bytes (page_at size bytes) fits none refl))
