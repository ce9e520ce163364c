-- The first test that parts don't pass, as the tests are made one after the other.
use Rattle.std.proofs.Common.{◌≡◌, ℕ, ◌==◌, Bool, true, false, List, length, Option, Some, None, refl, sym, subst}
use Rattle.std.specs.Prelude.{if◌then◌else◌}
use Rattle.std.specs.List.{list_all}
use Rattle.std.proofs.lemmas.Bool.{eqb-true}
use Rattle.hc_types.specs.declared.config.FlashConfig.{FlashConfig}
use Rattle.hc_engines.specs.large.Region.{Region}
use Rattle.hc_engines.specs.large.Index.{Indexed}
use Rattle.hc_region.specs.declared.resting.AtRest.TheVariants as rests
use Rattle.hc_region.specs.Resting.{can_rest}
use Rattle.hc_block.specs.declared.reason.Reason.{Reason}
use Rattle.hc_block.specs.declared.reason.Reason.TheVariants as reasons
use Rattle.hc_block.specs.Resting.{block_at, is_open, all_once, leads_well, misfit}
use Rattle.hc_block.proofs.Quiet.{same_so}

failed : (t : Bool) (why : Reason) (o : Option Reason) → t ≡ false → Some why ≡ (if t then o else Some why)
failed true why o e = absurd (cc)
failed false why o e = refl

through : (t : Bool) (why : Reason) (o x : Option Reason) → t ≡ true → x ≡ o → x ≡ (if t then o else Some why)
through true why o x e h = h
through false why o x e h = absurd (cc)

differs : (t : Bool) (a b : ℕ) → (a == b) ≡ t → (a ≡ b → ⊥) → t ≡ false
differs true a b e ne = absurd (ne (eqb-true a b e))
differs false a b e ne = refl

-- of the regions as they are read, which are those of the parts
module _ (flash : FlashConfig) (rs regions : List Region) (current : Option ℕ) (sealed flushed : List ℕ) (index : List Indexed) (same : rs ≡ regions) where
  here : (x : Option Reason) → x ≡ misfit flash (block_at rs current sealed flushed index) → x ≡ misfit flash (block_at regions current sealed flushed index)
  here x e = subst (λ (ys : List Region). x ≡ misfit flash (block_at ys current sealed flushed index)) same e

  pub no_count : (length rs ≡ flash.regions → ⊥) → Some reasons.Count ≡ misfit flash (block_at regions current sealed flushed index)
  no_count ne = here (Some reasons.Count) (failed (length rs == flash.regions) reasons.Count _ (differs (length rs == flash.regions) (length rs) flash.regions refl ne))

  -- there are as many regions as there are to be
  module _ (count : length rs ≡ flash.regions) where
    counted : (x : Option Reason) → x ≡ (if list_all (can_rest flash) rs then (if is_open rs current then (if all_once rests.Sealed rs sealed then (if all_once rests.OnFlash rs flushed then (if list_all (leads_well flash rs) index then None else Some reasons.Index) else Some reasons.Flushed) else Some reasons.Sealed) else Some reasons.Current) else Some reasons.Region)
        → x ≡ misfit flash (block_at regions current sealed flushed index)
    counted x e = here x (through (length rs == flash.regions) reasons.Count _ x (same_so (length rs) flash.regions count) e)

    pub no_rest : list_all (can_rest flash) rs ≡ false → Some reasons.Region ≡ misfit flash (block_at regions current sealed flushed index)
    no_rest a = counted (Some reasons.Region) (failed (list_all (can_rest flash) rs) reasons.Region _ a)

    pub not_open : list_all (can_rest flash) rs ≡ true → is_open rs current ≡ false → Some reasons.Current ≡ misfit flash (block_at regions current sealed flushed index)
    not_open a b = counted (Some reasons.Current) (through (list_all (can_rest flash) rs) reasons.Region _ (Some reasons.Current) a (failed (is_open rs current) reasons.Current _ b))

    pub not_sealed : list_all (can_rest flash) rs ≡ true → is_open rs current ≡ true → all_once rests.Sealed rs sealed ≡ false → Some reasons.Sealed ≡ misfit flash (block_at regions current sealed flushed index)
    not_sealed a b c =
        counted (Some reasons.Sealed)
        (through (list_all (can_rest flash) rs) reasons.Region _ (Some reasons.Sealed) a
        (through (is_open rs current) reasons.Current _ (Some reasons.Sealed) b (failed (all_once rests.Sealed rs sealed) reasons.Sealed _ c)))

    pub not_flushed : list_all (can_rest flash) rs ≡ true → is_open rs current ≡ true → all_once rests.Sealed rs sealed ≡ true → all_once rests.OnFlash rs flushed ≡ false → Some reasons.Flushed ≡ misfit flash (block_at regions current sealed flushed index)
    not_flushed a b c d =
        counted (Some reasons.Flushed)
        (through (list_all (can_rest flash) rs) reasons.Region _ (Some reasons.Flushed) a
        (through (is_open rs current) reasons.Current _ (Some reasons.Flushed) b
        (through (all_once rests.Sealed rs sealed) reasons.Sealed _ (Some reasons.Flushed) c (failed (all_once rests.OnFlash rs flushed) reasons.Flushed _ d))))

    -- all but the last are passed, and this is what comes of that
    pub by_index : (t : Bool) → list_all (leads_well flash rs) index ≡ t → list_all (can_rest flash) rs ≡ true → is_open rs current ≡ true → all_once rests.Sealed rs sealed ≡ true → all_once rests.OnFlash rs flushed ≡ true
        → (if t then None else Some reasons.Index) ≡ misfit flash (block_at regions current sealed flushed index)
    by_index t e a b c d =
        let x : Option Reason = (if t then None else Some reasons.Index) in
        counted x
        (through (list_all (can_rest flash) rs) reasons.Region _ x a
        (through (is_open rs current) reasons.Current _ x b
        (through (all_once rests.Sealed rs sealed) reasons.Sealed _ x c
        (through (all_once rests.OnFlash rs flushed) reasons.Flushed _ x d
        (subst (λ (u : Bool). (if t then None else Some reasons.Index) ≡ (if u then None else Some reasons.Index)) (sym e) refl)))))
