-- The numbers of the clean regions, where a region changes.
use Rattle.std.proofs.Common.{◌≡◌, ℕ, zero, suc, ◌+◌, ◌<◌, Bool, true, false, List, [], ◌∷◌, length, set, Some, refl, sym, ap, arith, ◌∙◌}
use Rattle.std.proofs.lemmas.Bool.{le-ltb, lt-ltb}
use Rattle.std.specs.Ordering.{nat_cmp}
use Rattle.std.specs.declared.cmp.Ordering.TheVariants.{Less, Greater}
use Rattle.std.specs.Prelude.{if◌then◌else◌, nat_lt, ◌==◌, ◌-◌, ◌&&◌}
use Rattle.hc_engines.specs.large.Region.{Status, Clean, Open, Sealed, Flushing, OnFlash, Draining, Region, clean_region, is_clean, is_draining, region_at, lowest_clean}
use Rattle.hc_engines.specs.large.Steps.{clean_count, emptied}
use Rattle.hc_region.specs.CleanNumbers.{clean_from, first_of, rest_of, with_number}
use Rattle.hc_region.specs.Pins.{is_last, released}

pub first_lowest : (n : ℕ) (regions : List Region) → first_of (clean_from n regions) ≡ lowest_clean n regions
first_lowest n [] = refl
first_lowest n (region ∷ regions) = go (is_clean region.status) (first_lowest (n + 1) regions)
  where
    go : (t : Bool) → first_of (clean_from (n + 1) regions) ≡ lowest_clean (n + 1) regions → first_of (if t then n ∷ clean_from (n + 1) regions else clean_from (n + 1) regions) ≡ (if t then Some n else lowest_clean (n + 1) regions)
    go true h = refl
    go false h = h

pub as_many : (n : ℕ) (regions : List Region) → length (clean_from n regions) ≡ clean_count regions
as_many n [] = refl
as_many n (region ∷ regions) = go (is_clean region.status) (as_many (n + 1) regions)
  where
    go : (t : Bool) → length (clean_from (n + 1) regions) ≡ clean_count regions → length (if t then n ∷ clean_from (n + 1) regions else clean_from (n + 1) regions) ≡ (if t then 1 else 0) + clean_count regions
    go true h = omega (arith, h)
    go false h = omega (arith, h)

-- a region that is as clean as before
pub same_clean : (n r : ℕ) (regions : List Region) (x : Region) → is_clean x.status ≡ is_clean (region_at r regions).status → clean_from n (set regions r x) ≡ clean_from n regions
same_clean n r [] x e = refl
same_clean n zero (region ∷ regions) x e = rw e refl
same_clean n (suc r) (region ∷ regions) x e = ap (λ (more : List ℕ). if is_clean region.status then n ∷ more else more) (same_clean (n + 1) r regions x e)

not_yet : (n i : ℕ) (regions : List Region) → lowest_clean (n + 1) regions ≡ Some i → n < i
not_yet n i [] e = absurd (cc)
not_yet n i (region ∷ regions) e = go (is_clean region.status) e (λ f. not_yet (n + 1) i regions f)
  where
    same : (a b : ℕ) → Some a ≡ Some b → a ≡ b
    same a b e = cc

    go : (t : Bool) → (if t then Some (n + 1) else lowest_clean (n + 1 + 1) regions) ≡ Some i → (lowest_clean (n + 1 + 1) regions ≡ Some i → n + 1 < i) → n < i
    go true e f = omega (arith, same (n + 1) i e)
    go false e f = omega (arith, f e)

-- the lowest clean region is opened
pub opened_clean : (n r : ℕ) (regions : List Region) (x : Region) → lowest_clean n regions ≡ Some (n + r) → is_clean x.status ≡ false → clean_from n (set regions r x) ≡ rest_of (clean_from n regions)
opened_clean n r [] x e u = absurd (cc)
opened_clean n zero (region ∷ regions) x e u = rw u (go (is_clean region.status) e)
  where
    go : (t : Bool) → (if t then Some n else lowest_clean (n + 1) regions) ≡ Some (n + 0) → clean_from (n + 1) regions ≡ rest_of (if t then n ∷ clean_from (n + 1) regions else clean_from (n + 1) regions)
    go true e = refl
    go false e = absurd (omega (arith, not_yet n (n + 0) regions e))
opened_clean n (suc r) (region ∷ regions) x e u = go (is_clean region.status) e (λ f. opened_clean (n + 1) r regions x f u)
  where
    same : (a b : ℕ) → Some a ≡ Some b → a ≡ b
    same a b e = cc

    next : n + suc r ≡ n + 1 + r
    next = omega arith

    go : (t : Bool) → (if t then Some n else lowest_clean (n + 1) regions) ≡ Some (n + suc r) → (lowest_clean (n + 1) regions ≡ Some (n + 1 + r) → clean_from (n + 1) (set regions r x) ≡ rest_of (clean_from (n + 1) regions))
        → (if t then n ∷ clean_from (n + 1) (set regions r x) else clean_from (n + 1) (set regions r x)) ≡ rest_of (if t then n ∷ clean_from (n + 1) regions else clean_from (n + 1) regions)
    go true e f = absurd (omega (arith, same n (n + suc r) e))
    go false e f = f (e ∙ ap (λ (i : ℕ). Some i) next)

above : (n m : ℕ) → n < m → nat_cmp n m ≡ Less
above n m lt = rw (lt-ltb n m lt) refl

pub below : (n m : ℕ) → m < n → nat_cmp n m ≡ Greater
below n m lt = let h : nat_lt n m ≡ false = le-ltb n m (omega arith) in let e : (n == m) ≡ false = grind arith in rw (h, e) refl

in_front : (n m : ℕ) (regions : List Region) → n < m → with_number n (clean_from m regions) ≡ n ∷ clean_from m regions
in_front n m [] lt = refl
in_front n m (region ∷ regions) lt = go (is_clean region.status) (in_front n (m + 1) regions (omega arith))
  where
    go : (t : Bool) → with_number n (clean_from (m + 1) regions) ≡ n ∷ clean_from (m + 1) regions → with_number n (if t then m ∷ clean_from (m + 1) regions else clean_from (m + 1) regions) ≡ n ∷ (if t then m ∷ clean_from (m + 1) regions else clean_from (m + 1) regions)
    go true h = rw (above n m lt) refl
    go false h = h

-- a region becomes clean
pub more_clean : (n r : ℕ) (regions : List Region) (x : Region) → r < length regions → is_clean (region_at r regions).status ≡ false → is_clean x.status ≡ true → clean_from n (set regions r x) ≡ with_number (n + r) (clean_from n regions)
more_clean n r [] x lt u c = absurd (omega arith)
more_clean n zero (region ∷ regions) x lt u c = let here : n + 0 ≡ n = omega arith in rw (c, u, here) (sym (in_front n (n + 1) regions (omega arith)))
more_clean n (suc r) (region ∷ regions) x lt u c = go (is_clean region.status) (more_clean (n + 1) r regions x (omega arith) u c)
  where
    next : n + 1 + r ≡ n + suc r
    next = omega arith

    go : (t : Bool) → clean_from (n + 1) (set regions r x) ≡ with_number (n + 1 + r) (clean_from (n + 1) regions)
        → (if t then n ∷ clean_from (n + 1) (set regions r x) else clean_from (n + 1) (set regions r x)) ≡ with_number (n + suc r) (if t then n ∷ clean_from (n + 1) regions else clean_from (n + 1) regions)
    go true h = rw (below (n + suc r) n (omega arith)) (ap (λ (more : List ℕ). n ∷ more) (h ∙ ap (λ (i : ℕ). with_number i (clean_from (n + 1) regions)) next))
    go false h = h ∙ ap (λ (i : ℕ). with_number i (clean_from (n + 1) regions)) next

-- the numbers after a region changed that is as clean as before
pub changed_is : (r : ℕ) (regions now : List Region) (x : Region) (clean : List ℕ) → is_clean x.status ≡ is_clean (region_at r regions).status → clean ≡ clean_from 0 regions → now ≡ set regions r x → clean ≡ clean_from 0 now
changed_is r regions now x clean e c n = c ∙ sym (ap (clean_from 0) n ∙ same_clean 0 r regions x e)

-- the numbers after an opening
pub opened_is : (r : ℕ) (regions now : List Region) (x : Region) (clean left : List ℕ) → lowest_clean 0 regions ≡ Some r → is_clean x.status ≡ false → clean ≡ clean_from 0 regions → left ≡ rest_of clean → now ≡ set regions r x → left ≡ clean_from 0 now
opened_is r regions now x clean left e u c l n = l ∙ ap rest_of c ∙ sym (ap (clean_from 0) n ∙ opened_clean 0 r regions x (e ∙ ap (λ (i : ℕ). Some i) (omega arith)) u)

-- a region is emptied that no read holds, or that reads hold
pub emptied_clean : (r : ℕ) (regions : List Region) (clean left : List ℕ) → r < length regions → is_clean (region_at r regions).status ≡ false → clean ≡ clean_from 0 regions
    → ((region_at r regions).pins == 0) ≡ true → left ≡ with_number r clean → left ≡ clean_from 0 (set regions r (emptied (region_at r regions)))
emptied_clean r regions clean left lt u c e l = l ∙ ap (with_number r) c ∙ (rw e (sym (more_clean 0 r regions clean_region lt u refl ∙ ap (λ (i : ℕ). with_number i (clean_from 0 regions)) (omega arith))))

pub emptied_draining : (r : ℕ) (regions : List Region) (clean : List ℕ) → is_clean (region_at r regions).status ≡ false → clean ≡ clean_from 0 regions
    → ((region_at r regions).pins == 0) ≡ false → clean ≡ clean_from 0 (set regions r (emptied (region_at r regions)))
emptied_draining r regions clean u c e = c ∙ (rw e (sym (same_clean 0 r regions (record (region_at r regions) { status = Draining; buffer = []; appended = []; early = false }) (sym u))))

drained_unclean : (region : Region) → is_last region ≡ true → is_clean region.status ≡ false
drained_unclean region e = go region.status (is_draining region.status) refl (region.pins == 1) e
  where
    go : (status : Status) (d : Bool) → is_draining status ≡ d → (o : Bool) → (d && o) ≡ true → is_clean status ≡ false
    go Clean true d o e = absurd (cc)
    go Clean false d o e = absurd (cc)
    go Open d h o e = refl
    go Sealed d h o e = refl
    go Flushing d h o e = refl
    go OnFlash d h o e = refl
    go Draining d h o e = refl

-- a read lets a region go, as the last of one that drains, or as another
pub released_clean : (r : ℕ) (regions : List Region) (clean left : List ℕ) → r < length regions → clean ≡ clean_from 0 regions
    → is_last (region_at r regions) ≡ true → left ≡ with_number r clean → left ≡ clean_from 0 (set regions r (released (region_at r regions)))
released_clean r regions clean left lt c e l = l ∙ ap (with_number r) c ∙ (rw e (sym (more_clean 0 r regions clean_region lt (drained_unclean (region_at r regions) e) refl ∙ ap (λ (i : ℕ). with_number i (clean_from 0 regions)) (omega arith))))

pub released_same : (r : ℕ) (regions : List Region) (clean : List ℕ) → clean ≡ clean_from 0 regions
    → is_last (region_at r regions) ≡ false → clean ≡ clean_from 0 (set regions r (released (region_at r regions)))
released_same r regions clean c e = c ∙ (rw e (sym (same_clean 0 r regions (record (region_at r regions) { pins = (region_at r regions).pins - 1 }) refl)))
