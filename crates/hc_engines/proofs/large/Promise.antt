-- A read gives the bytes at its place.
use Rattle.std.proofs.Common.{◌≡◌, ℕ, zero, suc, ◌+◌, ◌-◌, ◌*◌, ◌/◌, ◌%◌, ◌<◌, ◌≤◌, Bool, true, false, List, [], ◌∷◌, ◌++◌, length, take, drop, Option, Some, None, refl, sym, ap, arith, ◌∙◌, append_assoc, append-nil, add-one, inl, inr, mul-le-mul_right}
use Rattle.std.proofs.lemmas.Bool.{eqb-true, cases_lt}
use Rattle.std.proofs.lemmas.List.{length-append, length-drop, take-append-le, drop_all, take-take}
use Rattle.std.proofs.Math.Seq.{drop-append-add}
use Rattle.std.proofs.Math.Nat.{lt-div-mul-add}
use Rattle.std.proofs.lemmas.Nat.{div-add-mod'}
use Rattle.std.specs.Prelude.{if◌then◌else◌, ◌==◌, ◌&&◌, min}
use Rattle.std.specs.Str.{bytes_eq}
use Rattle.hc_types.specs.declared.config.FlashConfig.{FlashConfig}
use Rattle.hc_types.specs.Places.{kept_of}
use Rattle.hc_types.specs.FlashEntry.{FlashEntry}
use Rattle.hc_engines.specs.Engine.{Absent, Found, nothing}
use Rattle.hc_engines.specs.large.Entries.{entry_in}
use Rattle.hc_engines.specs.large.Region.{is_clean, region_at, page_no}
use Rattle.hc_engines.specs.large.Index.{Place, place_at, same_place, is_place}
use Rattle.hc_engines.specs.large.Block.{Reading, Block, finished}
use Rattle.hc_engines.specs.large.Steps.{first_page, end_page, buffered, reading_of, read_bytes, own_entry, answered}
use Rattle.hc_engines.specs.large.Held.{bytes_or_none, first_pages, bytes_of, bytes_at, if_own, read_at, held}
use Rattle.hc_engines.specs.large.Fits.{Fits, ReadHolds, answer_by}
use Rattle.hc_engines.specs.large.Sound.{is_live}
use Rattle.hc_engines.proofs.large.Bytes.{same_part}
use Rattle.hc_engines.proofs.large.Fitting.{pages_long, pages_same, Grows, same_bytes_at}

-- ---- lists

drop-split : (n : ℕ) (xs ys : List ℕ) → drop n (xs ++ ys) ≡ drop n xs ++ drop (n - length xs) ys
drop-split zero xs ys = let none : 0 - length xs ≡ 0 = omega arith in rw none refl
drop-split (suc n) [] ys = let same : suc n - 0 ≡ suc n = omega arith in rw same refl
drop-split (suc n) (x ∷ xs) ys = let less : suc n - suc (length xs) ≡ n - length xs = omega arith in rw less (drop-split n xs ys)

take-split : (n : ℕ) (xs ys : List ℕ) → take n (xs ++ ys) ≡ take n xs ++ take (n - length xs) ys
take-split zero xs ys = let none : 0 - length xs ≡ 0 = omega arith in rw none refl
take-split (suc n) [] ys = let same : suc n - 0 ≡ suc n = omega arith in rw same refl
take-split (suc n) (x ∷ xs) ys = let less : suc n - suc (length xs) ≡ n - length xs = omega arith in rw less (ap (λ zs. x ∷ zs) (take-split n xs ys))

-- what a read takes: the rest of the pages, and as much of the buffer as is still wanted
pub two_parts : (off len : ℕ) (front buffer : List ℕ) → take len (drop off front ++ take (len - (length front - off)) (drop (off - length front) buffer)) ≡ take len (drop off (front ++ buffer))
two_parts off len front buffer =
    let left : length (drop off front) ≡ length front - off = length-drop off front in
    let wanted : List ℕ = drop (off - length front) buffer in
    let again : take (len - length (drop off front)) (take (len - (length front - off)) wanted) ≡ take (len - (length front - off)) wanted = rw left (take-take (len - (length front - off)) (len - (length front - off)) wanted (omega arith)) in
    let whole : take len (drop off (front ++ buffer)) ≡ take len (drop off front) ++ take (len - (length front - off)) wanted =
    ap (take len) (drop-split off front buffer) ∙ take-split len (drop off front) wanted ∙ ap (λ n. take len (drop off front) ++ take (len - n) wanted) left in
    take-split len (drop off front) (take (len - (length front - off)) wanted) ∙ ap (λ zs. take len (drop off front) ++ zs) again ∙ sym whole

-- ---- pages

pub record Prefix (flash : FlashConfig) (pages : ℕ → Option (List ℕ)) (r n w : ℕ) : Type 0 where
  pub more : List ℕ
  pub parts : first_pages flash pages r w ≡ first_pages flash pages r n ++ more

prefix_add : (flash : FlashConfig) (pages : ℕ → Option (List ℕ)) (r n k w : ℕ) → w ≡ k + n → Prefix flash pages r n w
prefix_add flash pages r n zero w e = let same : w ≡ n = omega arith in record { more = []; parts = (rw same (sym (append-nil (first_pages flash pages r n)))) }
prefix_add flash pages r n (suc k) w e =
    let less = prefix_add flash pages r n k (k + n) refl in
    let same : w ≡ suc (k + n) = omega arith in
    record { more = less.more ++ bytes_or_none (pages (page_no flash r (k + n))); parts = (rw (same, less.parts) (append_assoc (first_pages flash pages r n) less.more (bytes_or_none (pages (page_no flash r (k + n)))))) }

pub prefix_of : (flash : FlashConfig) (pages : ℕ → Option (List ℕ)) (r n w : ℕ) → n ≤ w → Prefix flash pages r n w
prefix_of flash pages r n w h = prefix_add flash pages r n (w - n) w (omega arith)

-- rounded up, pages of p bytes hold so many bytes
pub rounded_up : (a p : ℕ) → 0 < p → a ≤ (a + (p - 1)) / p * p
rounded_up a p h = let over = lt-div-mul-add {a = a + (p - 1)} h in omega arith

-- ---- when a read begins

module _ (flash : FlashConfig) (pages : ℕ → Option (List ℕ)) (s : Block) (place : Place) (fits : Fits flash pages s) (u : is_clean (region_at place.region s.regions).status ≡ false) (some : 0 < flash.page) where
  long_to : (n : ℕ) → n ≤ (region_at place.region s.regions).written → length (first_pages flash pages place.region n) ≡ n * flash.page
  long_to n le = pages_long flash pages place.region n (λ i lt. fits.known place.region i u (omega arith))

  -- all that is on flash is read
  all_pages : take place.length (drop place.offset (first_pages flash pages place.region (region_at place.region s.regions).written) ++ buffered flash (region_at place.region s.regions) place) ≡ bytes_at flash pages s place
  all_pages =
      rw (← long_to (region_at place.region s.regions).written (omega arith)) (two_parts place.offset place.length (first_pages flash pages place.region (region_at place.region s.regions).written) (region_at place.region s.regions).buffer)

  -- the entry ends before what is on flash does
  some_pages : end_page flash place ≤ (region_at place.region s.regions).written → place.offset + place.length ≤ end_page flash place * flash.page → (rest : List ℕ)
      → take place.length (drop place.offset (first_pages flash pages place.region (end_page flash place)) ++ rest) ≡ bytes_at flash pages s place
  some_pages le within rest =
      let long = long_to (end_page flash place) le in
      let cut = prefix_of flash pages place.region (end_page flash place) (region_at place.region s.regions).written le in
      let here : place.length ≤ length (drop place.offset (first_pages flash pages place.region (end_page flash place))) = omega (arith, length-drop place.offset (first_pages flash pages place.region (end_page flash place))) in
      let all : bytes_of flash pages s place.region ≡ first_pages flash pages place.region (end_page flash place) ++ (cut.more ++ (region_at place.region s.regions).buffer) =
      ap (λ xs. xs ++ (region_at place.region s.regions).buffer) cut.parts ∙ append_assoc (first_pages flash pages place.region (end_page flash place)) cut.more (region_at place.region s.regions).buffer in
      take-append-le place.length (drop place.offset (first_pages flash pages place.region (end_page flash place))) rest here
      ∙ sym (ap (λ xs. take place.length (drop place.offset xs)) all ∙ same_part place.offset place.length (first_pages flash pages place.region (end_page flash place)) (cut.more ++ (region_at place.region s.regions).buffer) (omega arith))

  pub promised : take place.length (drop place.offset (first_pages flash pages place.region (min (region_at place.region s.regions).written (end_page flash place))) ++ buffered flash (region_at place.region s.regions) place) ≡ bytes_at flash pages s place
  promised = elim (cases_lt (end_page flash place) (region_at place.region s.regions).written) [
    | inl lt ↦ (let least : min (region_at place.region s.regions).written (end_page flash place) ≡ end_page flash place = omega arith in rw least (some_pages (omega arith) (rounded_up (place.offset + place.length) flash.page some) (buffered flash (region_at place.region s.regions) place)))
    | inr le ↦ (let least : min (region_at place.region s.regions).written (end_page flash place) ≡ (region_at place.region s.regions).written = omega arith in rw least all_pages)
  ]

-- a read that begins holds what it promises
pub read_begins : (flash : FlashConfig) (pages : ℕ → Option (List ℕ)) (s : Block) (key : List ℕ) (hash : ℕ) (place : Place) → Fits flash pages s → is_clean (region_at place.region s.regions).status ≡ false → 0 < flash.page → place_at hash s.index ≡ Some place → ReadHolds flash pages s (reading_of flash key place s)
read_begins flash pages s key hash place fits u some at = record {
  chain = append-nil (first_pages flash pages place.region (first_page flash place));
  begun = omega arith;
  whole = λ live. (promised flash pages s place fits u some, (fits.places hash place at).within);
}

-- ---- when all pages were read

-- an offset is its page's first byte, and how far it is behind it
split_offset : (off page : ℕ) → off ≡ (off / page) * page + off % page
split_offset off page = sym (div-add-mod' off page)

pub read_ends : (flash : FlashConfig) (pages : ℕ → Option (List ℕ)) (s : Block) (reading : Reading) → ReadHolds flash pages s reading → is_live (region_at reading.place.region s.regions).status ≡ true → reading.next ≡ reading.until
    → length (first_pages flash pages reading.place.region (first_page flash reading.place)) ≡ first_page flash reading.place * flash.page
    → read_bytes flash reading ≡ bytes_at flash pages s reading.place
read_ends flash pages s reading h live all long =
    let front = first_pages flash pages reading.place.region (first_page flash reading.place) in
    let off : reading.place.offset ≡ length front + reading.place.offset % flash.page = (rw long (split_offset reading.place.offset flash.page)) in
    let got : drop reading.place.offset (first_pages flash pages reading.place.region reading.until) ≡ drop (reading.place.offset % flash.page) reading.got =
    ap (λ n. drop reading.place.offset (first_pages flash pages reading.place.region n)) (sym all)
    ∙ ap (drop reading.place.offset) (sym h.chain)
    ∙ ap (λ n. drop n (front ++ reading.got)) off
    ∙ drop-append-add front reading.got (reading.place.offset % flash.page) in
    ap (λ xs. take reading.place.length (xs ++ reading.rest)) (sym got) ∙ (h.whole live).0

-- no page has to be read: all of the entry is in the buffer
pub read_at_once : (flash : FlashConfig) (pages : ℕ → Option (List ℕ)) (s : Block) (reading : Reading) → ReadHolds flash pages s reading → is_live (region_at reading.place.region s.regions).status ≡ true → reading.got ≡ [] → reading.until ≤ first_page flash reading.place
    → length (first_pages flash pages reading.place.region reading.until) ≡ reading.until * flash.page
    → read_bytes flash reading ≡ bytes_at flash pages s reading.place
read_at_once flash pages s reading h live none few long =
    let off = split_offset reading.place.offset flash.page in
    let below : reading.until * flash.page ≤ first_page flash reading.place * flash.page = mul-le-mul_right flash.page few in
    let empty : drop reading.place.offset (first_pages flash pages reading.place.region reading.until) ≡ [] = drop_all reading.place.offset (first_pages flash pages reading.place.region reading.until) (omega arith) in
    let empty2 : drop (reading.place.offset % flash.page) reading.got ≡ [] = (rw none (drop_all (reading.place.offset % flash.page) [] (omega arith))) in
    ap (λ xs. take reading.place.length (xs ++ reading.rest)) (empty2 ∙ sym empty) ∙ (h.whole live).0

-- ---- what is answered

same-place : (a b : Place) → same_place a b ≡ true → a ≡ b
same-place a b h = go (a.region == b.region) refl (a.offset == b.offset) refl (a.length == b.length) refl h
  where
    go : (x : Bool) → (a.region == b.region) ≡ x → (y : Bool) → (a.offset == b.offset) ≡ y → (z : Bool) → (a.length == b.length) ≡ z → (x && y && z) ≡ true → a ≡ b
    go true x true y true z h = let e = eqb-true a.region b.region x in let f = eqb-true a.offset b.offset y in let g = eqb-true a.length b.length z in λ i. record { region = e i; offset = f i; length = g i }
    go true x true y false z h = absurd (cc)
    go true x false y z g h = absurd (cc)
    go false x y f z g h = absurd (cc)

pub is-place : (o : Option Place) (p : Place) → is_place o p ≡ true → o ≡ Some p
is-place None p h = absurd (cc)
is-place (Some q) p h = ap Some (same-place q p h)

own_by : (key : List ℕ) (entry : FlashEntry) → own_entry key entry ≡ answer_by (if_own key (Some entry))
own_by key entry = go (bytes_eq entry.key key)
  where
    go : (t : Bool) → (if t then Found entry else Absent) ≡ answer_by (if t then Some entry else None)
    go true = refl
    go false = refl

-- where the bytes that were read are those at the place, and the index still leads there, the answer is what is held
pub answers_held : (flash : FlashConfig) (pages : ℕ → Option (List ℕ)) (s : Block) (reading : Reading) → Fits flash pages s → read_bytes flash reading ≡ bytes_at flash pages s reading.place → is_place (place_at (kept_of flash.bits reading.key) s.index) reading.place ≡ true
    → answered flash reading s ≡ finished s (record nothing { answer = answer_by (held flash pages s reading.key) })
answers_held flash pages s reading fits read still =
    let there : place_at (kept_of flash.bits reading.key) s.index ≡ Some reading.place = is-place (place_at (kept_of flash.bits reading.key) s.index) reading.place still in
    let h = fits.places (kept_of flash.bits reading.key) reading.place there in
    let found : entry_in (read_bytes flash reading) ≡ Some h.entry = ap entry_in read ∙ h.read in
    let mine : held flash pages s reading.key ≡ if_own reading.key (Some h.entry) = ap (read_at flash pages s reading.key) there ∙ ap (if_own reading.key) h.read in
    rw (still, found, mine) (ap (λ a. finished s (record nothing { answer = a })) (own_by reading.key h.entry))

-- nothing is indexed under the hash: nothing is held
pub absent_held : (flash : FlashConfig) (pages : ℕ → Option (List ℕ)) (s : Block) (key : List ℕ) → place_at (kept_of flash.bits key) s.index ≡ None → held flash pages s key ≡ None
absent_held flash pages s key e = ap (read_at flash pages s key) e

-- ---- a read stays true

-- where the pages that it reads stay, and the bytes of its region too while entries may lead there
pub read_stays : (flash : FlashConfig) (pages new_pages : ℕ → Option (List ℕ)) (s new : Block) (reading : Reading) → ReadHolds flash pages s reading → reading.next ≤ reading.until
    → ((i : ℕ) → i < reading.until → new_pages (page_no flash reading.place.region i) ≡ pages (page_no flash reading.place.region i))
    → (is_live (region_at reading.place.region new.regions).status ≡ true → (is_live (region_at reading.place.region s.regions).status ≡ true) × Grows flash pages new_pages s new reading.place.region)
    → ReadHolds flash new_pages new reading
read_stays flash pages new_pages s new reading h le same grows = record {
  chain = rw (pages_same flash pages new_pages reading.place.region (first_page flash reading.place) (λ i lt. same i (omega (arith, h.begun))), pages_same flash pages new_pages reading.place.region reading.next (λ i lt. same i (omega arith))) h.chain;
  begun = h.begun;
  whole = λ live.
      let g = grows live in
      let w = h.whole g.0 in (
        ap (λ xs. take reading.place.length (drop reading.place.offset xs ++ reading.rest)) (pages_same flash pages new_pages reading.place.region reading.until same) ∙ w.0 ∙ sym (same_bytes_at flash pages new_pages s new reading.place g.1 w.1),
        (let long : length (bytes_of flash new_pages new reading.place.region) ≡ length (bytes_of flash pages s reading.place.region) + length g.1.more = (rw g.1.grown (length-append (bytes_of flash pages s reading.place.region) g.1.more)) in omega (arith, w.1)),
      );
}

-- a page more was read
pub read_more : (flash : FlashConfig) (pages : ℕ → Option (List ℕ)) (s : Block) (reading : Reading) (bytes : List ℕ) → ReadHolds flash pages s reading → pages (page_no flash reading.place.region reading.next) ≡ Some bytes
    → ReadHolds flash pages s (record reading { got = reading.got ++ bytes; next = reading.next + 1 })
read_more flash pages s reading bytes h honest = record {
  chain = sym (append_assoc (first_pages flash pages reading.place.region (first_page flash reading.place)) reading.got bytes) ∙ ap (λ xs. xs ++ bytes) h.chain ∙ sym (rw (add-one, honest) refl);
  begun = omega (arith, h.begun);
  whole = h.whole;
}
