-- A page that is to be written tells its entries.
use Rattle.std.proofs.Common.{◌≡◌, ℕ, List, length, sym, ap, ◌∙◌}
use Rattle.hc_types.specs.FlashEntry.{FlashEntry}
use Rattle.hc_bucket.specs.Page.{page_bytes, Fits}
use Rattle.hc_bucket.specs.Reading.{page_at}
use Rattle.hc_bucket.proofs.Pages.{page_again, page_len}
use Rattle.hc_engines.specs.small.Bloom.{word_of}
use Rattle.hc_engines.specs.small.Held.{read_in}
use Rattle.hc_bighash.specs.Paged.{entries_on, IsNewPage}

pub entries_are : (size : ℕ) (es : List FlashEntry) (page : List ℕ) → Fits size es → page ≡ page_bytes size es → entries_on page ≡ es
entries_are size es page fits is =
    let len : length page ≡ size = ap length is ∙ page_len size es fits.room in
    ap read_in (ap (λ n. page_at n page) len ∙ ap (page_at size) is ∙ page_again size es fits)

pub len_is : (size : ℕ) (es : List FlashEntry) (page : List ℕ) → Fits size es → page ≡ page_bytes size es → length page ≡ size
len_is size es page fits is = ap length is ∙ page_len size es fits.room

pub new_page : (size : ℕ) (es : List FlashEntry) (page : List ℕ) (word : ℕ) → Fits size es → page ≡ page_bytes size es → word ≡ word_of es → IsNewPage page word
new_page size es page word fits is w =
    let same = entries_are size es page fits is in
    let len = len_is size es page fits is in
    record { spelled = is ∙ (λ i. page_bytes (sym len i) (sym same i)); word_is = w ∙ ap word_of (sym same) }
