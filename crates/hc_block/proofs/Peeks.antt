-- How much is lost at most with a region.
use Rattle.std.proofs.Common.{◌≡◌, ℕ, ◌≤◌, suc, Bool, true, false, List, [], ◌∷◌, ◌++◌, length, Some, refl, sym, ap, arith, ◌∙◌, subst}
use Rattle.std.specs.Prelude.{if◌then◌else◌, nat_lt}
use Rattle.hc_types.specs.declared.config.FlashConfig.{FlashConfig}
use Rattle.hc_types.specs.Loss.{Cause, Reclaimed, Fault}
use Rattle.hc_engines.specs.Engine.{Over, IoResult, Page, Written, Failed, nothing}
use Rattle.hc_engines.specs.large.Region.{Status, Clean, Open, Sealed, Flushing, OnFlash, Draining, Region, Appended, region_at, page_done}
use Rattle.hc_engines.specs.large.Index.{Indexed, place_at, without, is_at, leading_into}
use Rattle.hc_engines.specs.large.Block.{Block, Moved, Writing, finished, work_of, end_job, with_region}
use Rattle.hc_engines.specs.large.Choices.{reclaim_next}
use Rattle.hc_engines.specs.large.Steps.{lost, write_out, go_on, wrote_page, end_region, reclaim, reclaim_of}
use Rattle.hc_engines.proofs.large.Choices.{reclaim_by_choice}
use Rattle.hc_block.specs.Moves.{resume_work, resume_by}

one-each : (cause : Cause) (hashes : List ℕ) → length (lost cause hashes) ≡ length hashes
one-each cause [] = refl
one-each cause (hash ∷ hashes) = ap suc (one-each cause hashes)

leading-few : (r : ℕ) (xs : List Appended) (index : List Indexed) → length (leading_into r xs index) ≤ length xs
leading-few r [] index = omega arith
leading-few r (x ∷ xs) index = by (is_at (place_at x.hash index) r x.offset) (leading-few r xs (without x.hash index)) (leading-few r xs index)
  where
    by : (t : Bool) → length (leading_into r xs (without x.hash index)) ≤ length xs → length (leading_into r xs index) ≤ length xs
        → length (if t then x.hash ∷ leading_into r xs (without x.hash index) else leading_into r xs index) ≤ length (x ∷ xs)
    by true a b = omega (arith, a)
    by false a b = omega (arith, b)

-- the entries of a region that ends
ended-loses : (cause : Cause) (r : ℕ) (s : Block) → length (end_region cause r s).outcome.losses ≤ length (region_at r s.regions).appended
ended-loses cause r s =
    let xs : List Appended = (region_at r s.regions).appended in
    subst (λ (n : ℕ). n ≤ length xs) (sym (one-each cause (leading_into r xs s.index))) (leading-few r xs s.index)

-- none of one whose page was written
went-on-loses : (flash : FlashConfig) (number r : ℕ) (region : Region) (s : Block) (n : ℕ) → length (go_on flash number r region s).outcome.losses ≤ n
went-on-loses flash number r region s n = by (nat_lt region.written flash.region_pages)
  where
    by : (t : Bool) → length (if t then write_out flash number r region s
        else finished (record (with_region r (record region { status = OnFlash }) s) { flushed = s.flushed ++ r ∷ [] }) (record nothing { answer = Over; flushed = Some r })).outcome.losses ≤ n
    by true = omega arith
    by false = omega arith

written-loses : (flash : FlashConfig) (number r : ℕ) (status : Status) (s : Block) (n : ℕ) → length (wrote_page flash number r status s).outcome.losses ≤ n
written-loses flash number r Flushing s n = went-on-loses flash number r (page_done flash (region_at r s.regions)) s n
written-loses flash number r Clean s n = omega arith
written-loses flash number r Open s n = omega arith
written-loses flash number r Sealed s n = omega arith
written-loses flash number r OnFlash s n = omega arith
written-loses flash number r Draining s n = omega arith

-- ---- a result of a write

some-is : (x y : Moved) → Some x ≡ Some y → x ≡ y
some-is x y h = cc

writing-loses : (flash : FlashConfig) (number r : ℕ) (bytes : List ℕ) (came : IoResult) (s : Block) (m : Moved) → resume_work flash number came s (Some (Writing r bytes)) ≡ Some m → length m.outcome.losses ≤ length (region_at r s.regions).appended
writing-loses flash number r bytes Written s m h =
    subst (λ (x : Moved). length x.outcome.losses ≤ length (region_at r s.regions).appended) (some-is _ m h) (written-loses flash number r (region_at r s.regions).status (end_job number s) (length (region_at r s.regions).appended))
writing-loses flash number r bytes Failed s m h = subst (λ (x : Moved). length x.outcome.losses ≤ length (region_at r s.regions).appended) (some-is _ m h) (ended-loses Fault r (end_job number s))
writing-loses flash number r bytes (Page page) s m h = absurd cc

pub write_loses : (flash : FlashConfig) (number r : ℕ) (bytes : List ℕ) (s : Block) → work_of number s.jobs ≡ Some (Writing r bytes)
    → (came : IoResult) (m : Moved) → resume_by flash number came s ≡ Some m → length m.outcome.losses ≤ length (region_at r s.regions).appended
write_loses flash number r bytes s there came m h = writing-loses flash number r bytes came s m (sym (ap (resume_work flash number came s) there) ∙ h)

-- ---- a reclaim

pub reclaim_loses : (flash : FlashConfig) (s : Block) (r : ℕ) → reclaim_next flash s ≡ Some r → length (reclaim flash s).outcome.losses ≤ length (region_at r s.regions).appended
reclaim_loses flash s r next = subst (λ (m : Moved). length m.outcome.losses ≤ length (region_at r s.regions).appended) (sym (reclaim_by_choice flash s ∙ ap (reclaim_of s) next)) (ended-loses (Reclaimed r) r s)
