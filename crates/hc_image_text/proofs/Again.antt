-- A record that is spelled is read again.
use Rattle.std.proofs.Common.{◌≡◌, ℕ, ◌*◌, ◌<◌, ◌^◌, nat_le, Bool, true, false, List, [], ◌++◌, length, Some, None, refl, sym, ap, arith, ◌∙◌, append-nil, length-append, drop_at}
use Rattle.std.specs.Prelude.{flat_map}
use Rattle.std.specs.Int.{w32, w64, to_be_bytes}
use Rattle.std.proofs.lemmas.Bool.{le-leb, lt-ltb}
use Rattle.std.proofs.lemmas.Nat.{from_be_bytes-to_be_bytes_4, from_be_bytes-to_be_bytes_8}
use Rattle.hc_engines.specs.large.Region.{Appended, Region}
use Rattle.hc_engines.proofs.large.Bytes.{entry_again}
use Rattle.hc_region.specs.declared.resting.AtRest.{AtRest}
use Rattle.hc_region.specs.declared.resting.AtRest.TheVariants as rests
use Rattle.hc_image_text.specs.Counting.{CountersReadBack}
use Rattle.hc_image_text.specs.Items.{clean_byte, clean_in, item_bytes, ItemReadsBack, KeyReadsBack}
use Rattle.hc_image_text.specs.Leads.{LeadReadsBack}
use Rattle.hc_image_text.specs.Numbers.{NumberReadsBack}
use Rattle.hc_image_text.specs.Regions.{rows, number_at, NumbersReadBack, OpenReadsBack, rest_byte, rest_in, appended_bytes, appended_at, IsAppended, IsResting, RegionReadsBack}
use Rattle.hc_image_text.specs.Words.{WordReadsBack}
use Rattle.hc_image_text.proofs.Rows.{rows_again, rows_long, fours, no_rest}

pub number_again : NumberReadsBack
number_again n fits = ap Some (from_be_bytes-to_be_bytes_8 n fits)

pub lead_again : LeadReadsBack
lead_again x fits = rw (from_be_bytes-to_be_bytes_8 x.hash fits.hash, from_be_bytes-to_be_bytes_4 x.place.region fits.region, from_be_bytes-to_be_bytes_4 x.place.offset fits.offset, from_be_bytes-to_be_bytes_4 x.place.length fits.length) refl

pub word_again : WordReadsBack
word_again None fits = refl
word_again (Some n) fits = rw (from_be_bytes-to_be_bytes_8 n (fits n refl)) refl

clean_again : (clean : Bool) → clean_in (clean_byte clean) ≡ Some clean
clean_again true = refl
clean_again false = refl

pub item_again : ItemReadsBack
item_again i number fits =
    let long : nat_le 8 (length (item_bytes i)) ≡ true = le-leb 8 (length (item_bytes i)) (omega arith) in
    rw (long, from_be_bytes-to_be_bytes_8 i.number number, clean_again i.clean, entry_again i.entry fits) refl

pub key_again : KeyReadsBack
key_again key some short = rw (lt-ltb 0 (length key) some, le-leb (length key) 255 short) refl

pub counters_again : CountersReadBack
counters_again c fits = rw (from_be_bytes-to_be_bytes_8 c.charges fits.charges, from_be_bytes-to_be_bytes_8 c.jobs fits.jobs, from_be_bytes-to_be_bytes_8 c.calls fits.calls, from_be_bytes-to_be_bytes_8 c.clock fits.clock) refl

pub open_again : OpenReadsBack
open_again None fits = refl
open_again (Some r) fits = rw (from_be_bytes-to_be_bytes_4 r (fits r refl)) refl

-- ---- lists, and a region

four : (n : ℕ) → length (to_be_bytes w32 n) ≡ 4
four n = refl

number_row : (n : ℕ) (more : List ℕ) → n < 2 ^ 32 → number_at (to_be_bytes w32 n ++ more) ≡ n
number_row n more fits = from_be_bytes-to_be_bytes_4 n fits

pub numbers_again : NumbersReadBack
numbers_again numbers fits =
    let bytes = flat_map (to_be_bytes w32) numbers in
    let long : length bytes ≡ length numbers * 4 = rows_long 4 (to_be_bytes w32) number_at (λ n. n < 2 ^ 32) four number_row numbers in
    let same : rows 4 number_at (length numbers) bytes ≡ numbers = ap (rows 4 number_at (length numbers)) (sym (append-nil bytes)) ∙ rows_again 4 (to_be_bytes w32) number_at (λ n. n < 2 ^ 32) four number_row numbers [] fits in
    rw (long, no_rest (length numbers), fours (length numbers)) (ap Some same)

rest_again : (rest : AtRest) → rest_in (rest_byte rest) ≡ Some rest
rest_again rests.Clean = refl
rest_again rests.Open = refl
rest_again rests.Sealed = refl
rest_again rests.OnFlash = refl

twelve : (x : Appended) → length (appended_bytes x) ≡ 12
twelve x = refl

appended_row : (x : Appended) (more : List ℕ) → IsAppended x → appended_at (appended_bytes x ++ more) ≡ x
appended_row x more fits = rw (from_be_bytes-to_be_bytes_8 x.hash fits.0, from_be_bytes-to_be_bytes_4 x.offset fits.1) refl

same_region : (rest : AtRest) (region : Region) → IsResting rest region → Some (record { status = region.status; written = region.written; buffer = region.buffer; appended = region.appended; early = false; pins = 0 }) ≡ Some region
same_region rest region fits = λ i. Some (record { status = region.status; written = region.written; buffer = region.buffer; appended = region.appended; early = sym fits.early i; pins = sym fits.pins i })

pub region_again : RegionReadsBack
region_again rest region fits =
    let some = length region.appended in
    let spelled = flat_map appended_bytes region.appended in
    let body = spelled ++ region.buffer in
    let long : length spelled ≡ some * 12 = rows_long 12 appended_bytes appended_at IsAppended twelve appended_row region.appended in
    let behind : List ℕ = to_be_bytes w64 region.written ++ (to_be_bytes w32 some ++ body) in
    let front : nat_le 12 (length behind) ≡ true = le-leb 12 (length behind) (omega arith) in
    let enough : nat_le (some * 12) (length body) ≡ true = le-leb (some * 12) (length body) (omega (arith, length-append spelled region.buffer, long)) in
    rw (
      front,
      rest_again rest,
      from_be_bytes-to_be_bytes_8 region.written fits.written,
      from_be_bytes-to_be_bytes_4 some fits.some,
      enough,
      drop_at spelled region.buffer (some * 12) long,
      rows_again 12 appended_bytes appended_at IsAppended twelve appended_row region.appended region.buffer fits.appended,
      sym fits.stands,
    ) (same_region rest region fits)
