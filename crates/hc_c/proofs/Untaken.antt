-- Why an image isn't taken, as C is told.
use Rattle.std.proofs.Common.{inl, ◌≡◌, refl, sym, subst}
use Rattle.std.specs.Prelude.{Result}
use Rattle.hc_types.specs.declared.refusal.Refusal.TheVariants.{NoMemory}
use Rattle.hc_image.specs.Loading.{Loading, finished}
use Rattle.hc_image.specs.declared.refusal.Refusal.{Refusal}
use Rattle.hc_image.specs.declared.refusal.Refusal.TheVariants as untaken
use Rattle.hc_c.specs.declared.image.Stream.{Stream}
use Rattle.hc_c.specs.declared.image.Stream.TheVariants.{Loads}
use Rattle.hc_c.specs.declared.status.Status.TheVariants.{Refused}
use Rattle.hc_c.specs.Images.{IsAsked, IsUntaken}

-- memory lacks, whatever was made
pub no_memory : {X : Type 0} (made : Result X Refusal) → IsUntaken made (Refused NoMemory)
no_memory made = record { why = untaken.NoMemory; is = inl refl; told = refl }

-- it is told of any image that is asked for
pub told_of : (was : Stream) (loading : Loading) → was ≡ Loads loading → IsAsked was (Refused NoMemory)
told_of was loading e = subst (λ (s : Stream). IsAsked s (Refused NoMemory)) (sym e) (no_memory (finished loading))
