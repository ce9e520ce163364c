-- An entry written in three parts, and how many fit a page.
use Rattle.std.proofs.Common.{◌≡◌, ℕ, ◌+◌, ◌-◌, ◌≤◌, ◌<◌, ◌^◌, List, ◌∷◌, ◌++◌, length, length-append, sym, ap, ◌∙◌, append_assoc, append-nil, replicate, arith}
use Rattle.std.proofs.lemmas.List.{length-replicate, replicate-append-replicate}
use Rattle.hc_bucket.proofs.Pages.{fewer_than_bytes}
use Rattle.hc_types.specs.FlashEntry.{FlashEntry}
use Rattle.hc_bucket.specs.Page.{Fits}

-- what stands before the key, the key and the value, appended one after the other
pub three_parts : (old : List ℕ) (k p : ℕ) (v x key value : List ℕ) → ((old ++ (k ∷ p ∷ (v ++ x))) ++ key) ++ value ≡ old ++ (k ∷ p ∷ (v ++ (x ++ (key ++ value))))
three_parts old k p v x key value = simp append_assoc

-- entries that fit can be counted in two bytes
pub count_fits : (size : ℕ) (es : List FlashEntry) → Fits size es → length es < 2 ^ 16
count_fits size es fits = omega (arith, fewer_than_bytes es, fits.number)

-- zeros were put behind these bytes, up to so many
pub record Filled (old page : List ℕ) (len : ℕ) : Type 0 where
  pub zeros : page ≡ old ++ replicate (length page - length old) 0
  pub longer : length old ≤ length page
  pub within : length page ≤ len

pub not_filled : (old : List ℕ) (len : ℕ) → length old ≤ len → Filled old old len
not_filled old len le = let none : length old - length old ≡ 0 = omega arith in record { zeros = sym (ap (λ n. old ++ replicate n 0) none ∙ append-nil old); longer = omega arith; within = le }

pub filled_more : (old page more : List ℕ) (len by : ℕ) → more ≡ page ++ replicate by 0 → length page + by ≤ len → Filled old page len → Filled old more len
filled_more old page more len by is le f =
    let size : length more ≡ length page + by = ap length is ∙ length-append page (replicate by 0) ∙ ap (λ n. length page + n) (length-replicate {A = ℕ} by 0) in
    let sum : length more - length old ≡ (length page - length old) + by = omega (arith, size, f.longer) in
    record {
      zeros = is ∙ ap (λ (z : List ℕ). z ++ replicate by 0) f.zeros ∙ append_assoc old (replicate (length page - length old) 0) (replicate by 0) ∙ ap (λ (z : List ℕ). old ++ z) (replicate-append-replicate (length page - length old) by 0) ∙ ap (λ n. old ++ replicate n 0) (sym sum);
      longer = omega (arith, size, f.longer);
      within = omega (arith, size, le);
    }

pub filled : (old page : List ℕ) (len : ℕ) → len ≤ length page → Filled old page len → page ≡ old ++ replicate (len - length old) 0
filled old page len ge f = let same : length page ≡ len = omega (arith, ge, f.within) in f.zeros ∙ ap (λ n. old ++ replicate (n - length old) 0) same
