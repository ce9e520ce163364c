use Rattle.std.proofs.Common.{◌≡◌, ◌+◌, ◌++◌, ◌∷◌, [], ℕ, List, length, length-append, sym, ap, ◌∙◌, arith}
use Rattle.std.specs.Prelude.{bit_or}
use Rattle.std.proofs.lemmas.Result.{IfOk-weaker}
use Rattle.hc_types.specs.FlashEntry.{FlashEntry, entry_of}
use Rattle.hc_bucket.specs.Page.{entries_bytes, page_bytes, IsBegun}
use Rattle.hc_bucket.proofs.Pages.{fewer_than_bytes}
use Rattle.hc_engines.specs.small.Bloom.{word_of, bits_of}
use Rattle.hc_engines.specs.small.Entries.{without}
use Rattle.hc_engines.proofs.Words.{word_pushed}
use Rattle.hc_engines.proofs.small.Fitting.{used-without}
use Rattle.hc_bighash.proofs.Looping.{begun_with}
use Rattle.hc_bighash.proofs.new_page.NewPage.with.Goals as goal

pub overflow_add-kept : goal.overflow_add-kept
overflow_add-kept g c = omega (arith, c.in_ok-kept.ensures.count, fewer_than_bytes (without c.as_slice-key.result.now c.args.entries), used-without c.as_slice-key.result.now c.args.entries, c.requires.used)

pub new-requires : goal.new-requires
new-requires g c =
    let e : FlashEntry = entry_of c.args.entry.now in
    let left : List FlashEntry = without c.args.entry.now.key c.args.entries in
    let same : without c.as_slice-key.result.now c.args.entries ≡ left = ap (λ (k : List ℕ). without k c.args.entries) c.as_slice-key.ensures in
    let begun : IsBegun (left ++ e ∷ []) c.put_entry.new.page.items = begun_with left e c.in_ok-page.page.items c.put_others.new.page.items c.put_entry.new.page.items c.in_ok-page.ensures (c.in_ok-kept.ensures.page ∙ ap (λ (xs : List FlashEntry). c.in_ok-page.page.items ++ entries_bytes xs) same) c.in_ok-put_entry.ensures in
    let count : c.in_ok-kept.kept.count + 1 ≡ length (left ++ e ∷ []) = omega (arith, c.in_ok-kept.ensures.count, ap length same, length-append left (e ∷ [])) in
    let word : bit_or c.in_ok-kept.kept.word c.bits_of.result ≡ word_of (left ++ e ∷ []) = (λ i. bit_or ((c.in_ok-kept.ensures.word ∙ ap word_of same) i) ((c.bits_of.ensures ∙ ap bits_of c.as_slice-key.ensures) i)) ∙ sym (word_pushed left e) in
    (c.args.page_size, left ++ e ∷ [], c.requires.fits, c.in_ok-page-2.ensures (left ++ e ∷ []) begun count c.requires.fits, word)

pub returns : goal.returns
returns g c =
    let e : FlashEntry = entry_of c.args.entry.now in
    let left : List FlashEntry = without c.args.entry.now.key c.args.entries in
    let same : without c.as_slice-key.result.now c.args.entries ≡ left = ap (λ (k : List ℕ). without k c.args.entries) c.as_slice-key.ensures in
    let begun : IsBegun (left ++ e ∷ []) c.put_entry.new.page.items = begun_with left e c.in_ok-page.page.items c.put_others.new.page.items c.put_entry.new.page.items c.in_ok-page.ensures (c.in_ok-kept.ensures.page ∙ ap (λ (xs : List FlashEntry). c.in_ok-page.page.items ++ entries_bytes xs) same) c.in_ok-put_entry.ensures in
    let count : c.in_ok-kept.kept.count + 1 ≡ length (left ++ e ∷ []) = omega (arith, c.in_ok-kept.ensures.count, ap length same, length-append left (e ∷ [])) in
    let is : c.in_ok-page-2.page.items ≡ page_bytes c.args.page_size (left ++ e ∷ []) = c.in_ok-page-2.ensures (left ++ e ∷ []) begun count c.requires.fits in
    IfOk-weaker c.new.result (λ page. page ≡ c.in_ok-page-2.page.items) (λ page. page ≡ page_bytes c.args.page_size (left ++ e ∷ [])) (λ page made. made ∙ is) c.new.ensures
