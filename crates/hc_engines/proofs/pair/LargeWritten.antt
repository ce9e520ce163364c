-- How many pages of a region are written, after a change of one region.
use Rattle.std.proofs.Common.{◌≡◌, ℕ, zero, suc, ◌==◌, Bool, true, false, List, [], ◌∷◌, set, Some, refl, ap, arith, ◌∙◌}
use Rattle.std.proofs.lemmas.Bool.{eqb-true, eq-eqb}
use Rattle.std.specs.Prelude.{if◌then◌else◌}
use Rattle.hc_types.specs.declared.config.FlashConfig.{FlashConfig}
use Rattle.hc_engines.specs.large.Region.{Status, Clean, Open, Sealed, Flushing, OnFlash, Draining, is_clean, is_draining, Region, region_at}
use Rattle.hc_engines.specs.large.Block.{Block, Writing, work_of}
use Rattle.hc_engines.specs.large.Sound.{Sound, is_out, writers}
use Rattle.hc_engines.proofs.large.Jobs.{writer_counted}
use Rattle.hc_engines.proofs.large.Flushes.{unearly}
use Rattle.hc_engines.proofs.large.OrdersOut.{one_writer}

-- a region changes, but not how many of its pages are written
pub same-set : (regions : List Region) (r q : ℕ) (x : Region) → x.written ≡ (region_at r regions).written → (region_at q (set regions r x)).written ≡ (region_at q regions).written
same-set [] r q x h = refl
same-set (e ∷ es) zero zero x h = h
same-set (e ∷ es) zero (suc q) x h = refl
same-set (e ∷ es) (suc r) zero x h = refl
same-set (e ∷ es) (suc r) (suc q) x h = same-set es r q x h

pub other-set : (regions : List Region) (r q : ℕ) (x : Region) → (q == r) ≡ false → region_at q (set regions r x) ≡ region_at q regions
other-set [] r q x h = refl
other-set (e ∷ es) zero zero x h = absurd (grind (arith, h))
other-set (e ∷ es) zero (suc q) x h = refl
other-set (e ∷ es) (suc r) zero x h = refl
other-set (e ∷ es) (suc r) (suc q) x h = other-set es r q x (grind (arith, h))

-- no operation but this number's writes the region
abbrev pub IsIdle : ℕ → Block → ℕ → Type 0
IsIdle number s r = (n : ℕ) (bytes : List ℕ) → (n == number) ≡ false → work_of n s.jobs ≡ Some (Writing r bytes) → ⊥

pub none_writes : (number r : ℕ) (s : Block) → writers r s.jobs ≡ 0 → IsIdle number s r
none_writes number r s none n bytes o at = let some = writer_counted n r bytes s.jobs at in omega (arith, some, none)

pub own_writes : (flash : FlashConfig) (number r : ℕ) (bytes : List ℕ) (s : Block) → Sound flash s → work_of number s.jobs ≡ Some (Writing r bytes) → IsIdle number s r
own_writes flash number r bytes s sound at n more o there =
    let same : n ≡ number = one_writer flash s n number r more bytes sound there at in
    let t : (n == number) ≡ true = eq-eqb n number same in
    cc

pub clean_idle : (flash : FlashConfig) (number r : ℕ) (s : Block) → Sound flash s → is_clean (region_at r s.regions).status ≡ true → IsIdle number s r
clean_idle flash number r s sound clean = none_writes number r s ((sound.regions r).out ∙ ap {B = ℕ} (λ (x : Region). if is_out x then 1 else 0) ((sound.regions r).blank clean))

pub drained_idle : (flash : FlashConfig) (number r : ℕ) (s : Block) → Sound flash s → is_draining (region_at r s.regions).status ≡ true → IsIdle number s r
drained_idle flash number r s sound draining = none_writes number r s ((sound.regions r).out ∙ by (region_at r s.regions).status refl)
  where
    by : (status : Status) → (region_at r s.regions).status ≡ status → ◌≡◌ {A = ℕ} (if is_out (region_at r s.regions) then 1 else 0) 0
    by Clean e = absurd (let wrong : false ≡ true = (rw e at draining) in cc)
    by Open e = absurd (let wrong : false ≡ true = (rw e at draining) in cc)
    by Sealed e = absurd (let wrong : false ≡ true = (rw e at draining) in cc)
    by Flushing e = absurd (let wrong : false ≡ true = (rw e at draining) in cc)
    by OnFlash e = absurd (let wrong : false ≡ true = (rw e at draining) in cc)
    by Draining e = let early = unearly flash _ _ (region_at r s.regions) (sound.regions r) (rw e refl) in rw (e, early) refl

-- the regions that other operations write have as many pages written as before
abbrev pub IsWritten : ℕ → Block → List Region → Type 0
IsWritten number s regions = (n r : ℕ) (bytes : List ℕ) → (n == number) ≡ false → work_of n s.jobs ≡ Some (Writing r bytes) → (region_at r regions).written ≡ (region_at r s.regions).written

pub kept_set : (number r : ℕ) (x : Region) (s : Block) → x.written ≡ (region_at r s.regions).written → IsWritten number s (set s.regions r x)
kept_set number r x s h n q bytes o at = same-set s.regions r q x h

pub idle_set : (number r : ℕ) (x : Region) (s : Block) → IsIdle number s r → IsWritten number s (set s.regions r x)
idle_set number r x s idle n q bytes o at = by (q == r) refl
  where
    by : (t : Bool) → (q == r) ≡ t → (region_at q (set s.regions r x)).written ≡ (region_at q s.regions).written
    by true t = absurd (idle n bytes o (at ∙ ap (λ i. Some (Writing i bytes)) (eqb-true q r t)))
    by false t = ap (λ (y : Region). y.written) (other-set s.regions r q x t)
