-- Records of a client, one a shard.
use Rattle.std.proofs.Common.{◌≡◌, ◌<◌, ◌≤◌, ◌+◌, ℕ, zero, suc, List, [], ◌∷◌, ◌++◌, Some, map, length, slice_get, slice_set, get_or, Result, Ok, Err, OnErr, sym, ◌∙◌, ap, subst, refl, arith}
use Rattle.std.proofs.lemmas.List.{map-append, set-get_or}
use Rattle.std.proofs.lemmas.Option.{slice_get_read}
use Rattle.hc_client_records.specs.Records.{Record}
use Rattle.hc_shard_threads.specs.Rows.{forgotten, ticked, ticked_in}

-- one that did nothing is as if forgotten
pub is-forgotten : (r : Record) → r.entries ≡ [] → r.open_calls ≡ [] → r.ticks ≡ [] → forgotten r ≡ r
is-forgotten r entries open_calls ticks = λ i. record { client = r.client; entries = (sym entries) i; open_calls = (sym open_calls) i; ticks = (sym ticks) i }

-- one more that did nothing
pub new-more : (rows more : List Record) (r : Record) → more ≡ rows ++ r ∷ [] → map forgotten rows ≡ rows → forgotten r ≡ r → map forgotten more ≡ more
new-more rows more r is old new = subst (λ (all : List Record). map forgotten all ≡ all) (sym is) (map-append forgotten rows (r ∷ []) ∙ ap (λ all. all ++ forgotten r ∷ []) old ∙ ap (λ (one : Record). rows ++ one ∷ []) new)

-- ---- the clocks

ticked_more : (moment n next : ℕ) (rows : List Record) (r : Record) → next ≡ n + 1 → slice_get rows n ≡ Some r → slice_set (ticked_in moment n rows) n (ticked moment r) ≡ ticked_in moment next rows
ticked_more moment n next [] r is e = absurd cc
ticked_more moment n zero rows r is e = absurd (omega (arith, is))
ticked_more moment zero (suc next) (x ∷ xs) r is e =
    let same : x ≡ r = cc in
    let none : zero ≡ next = omega (arith, is) in
    ap (λ (one : Record). ticked moment one ∷ xs) (sym same) ∙ ap (λ (k : ℕ). ticked moment x ∷ ticked_in moment k xs) none
ticked_more moment (suc n) (suc next) (x ∷ xs) r is e = ap (λ rest. ticked moment x ∷ rest) (ticked_more moment n next xs r (omega (arith, is)) e)

pub ticked-more : (moment n : ℕ) (rows : List Record) (r : Record) → slice_get rows n ≡ Some r → slice_set (ticked_in moment n rows) n (ticked moment r) ≡ ticked_in moment (n + 1) rows
ticked-more moment n rows r e = ticked_more moment n (n + 1) rows r refl e

pub ticked-all : (moment n : ℕ) (rows : List Record) → n ≡ length rows → ticked_in moment n rows ≡ map (ticked moment) rows
ticked-all moment zero [] e = refl
ticked-all moment zero (x ∷ xs) e = absurd cc
ticked-all moment (suc n) [] e = absurd cc
ticked-all moment (suc n) (x ∷ xs) e = ap (λ rest. ticked moment x ∷ rest) (ticked-all moment n xs (omega (arith, e)))

pub ticked-length : (moment n : ℕ) (rows : List Record) → length (ticked_in moment n rows) ≡ length rows
ticked-length moment zero rows = refl
ticked-length moment (suc n) [] = refl
ticked-length moment (suc n) (x ∷ xs) = ap (λ l. suc l) (ticked-length moment n xs)

pub ticked-get : (moment n : ℕ) (rows : List Record) → slice_get (ticked_in moment n rows) n ≡ slice_get rows n
ticked-get moment zero rows = refl
ticked-get moment (suc n) [] = refl
ticked-get moment (suc n) (x ∷ xs) = ticked-get moment n xs

-- one more was moved
pub ticked-step : (moment at : ℕ) (rows now : List Record) (old new : Record) → now ≡ ticked_in moment at rows → at < length now → old ≡ get_or now at old → new ≡ ticked moment old → slice_set now at new ≡ ticked_in moment (at + 1) rows
ticked-step moment at rows now old new so_far within is did =
    let there : slice_get now at ≡ Some old = slice_get_read now (length now) at old refl within is in
    let was : slice_get rows at ≡ Some old = sym (ticked-get moment at rows) ∙ ap (λ (xs : List Record). slice_get xs at) (sym so_far) ∙ there in
    ap (λ (xs : List Record). slice_set xs at new) so_far ∙ ap (λ (r : Record). slice_set (ticked_in moment at rows) at r) did ∙ ticked-more moment at rows old was

-- one wasn't
pub ticked-stays : (moment at : ℕ) (rows now : List Record) (old new : Record) → now ≡ ticked_in moment at rows → old ≡ get_or now at old → new ≡ old → slice_set now at new ≡ ticked_in moment at rows
ticked-stays moment at rows now old new so_far is same = ap (λ (r : Record). slice_set now at r) (same ∙ is) ∙ set-get_or now at old ∙ so_far

pub at-error : {T E : Type 0} (r : Result T E) (P : Type 0) → P → OnErr r P
at-error (Ok x) P p = tt
at-error (Err e) P p = p

pub within-rows : (at len n : ℕ) (inner rows now : List Record) → at < len → len ≡ n → n ≡ length inner → inner ≡ rows → length now ≡ length rows → at < length now
within-rows at len n inner rows now before is all same kept =
    let same_length : length inner ≡ length rows = ap (λ (xs : List Record). length xs) same in
    omega arith

-- as many clients as there are shards
pub one-each : (clients index lanes inside shards : ℕ) → clients ≡ index → lanes ≤ index → index ≤ lanes → lanes ≡ inside → inside ≡ shards → clients ≡ shards
one-each clients index lanes inside shards counted all few known same = omega arith
