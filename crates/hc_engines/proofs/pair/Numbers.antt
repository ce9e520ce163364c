-- What is under way with a number in one engine of the pair, or in neither.
use Rattle.std.proofs.Common.{◌≡◌, Option, Some, None, refl}
use Rattle.std.specs.Prelude.{option_map}
use Rattle.hc_bucket.proofs.Numbers.{some_is}
use Rattle.hc_engines.specs.small.BigHash.{Job}
use Rattle.hc_engines.specs.small.Held.{job_under_way}
use Rattle.hc_engines.specs.large.Block.{Work}
use Rattle.hc_engines.specs.pair.Pair.{Pair}
use Rattle.hc_engines.specs.pair.Held.{work_under_way, first_of}

pub mapped_some : {A B : Type 0} (f : A → B) (o : Option A) (y : B) → option_map f o ≡ Some y → (x : A) × (o ≡ Some x) × (f x ≡ y)
mapped_some f None y h = absurd cc
mapped_some f (Some x) y h = (x, refl, some_is _ _ h)

pub mapped_none : {A B : Type 0} (f : A → B) (o : Option A) → option_map f o ≡ None → o ≡ None
mapped_none f None h = refl
mapped_none f (Some x) h = absurd cc

pub none_in_both : (pair : Pair) (job : Option Job) (work : Option Work) → first_of (option_map (job_under_way pair.small.flash) job) (option_map (work_under_way pair.small.flash pair.large) work) ≡ None → (job ≡ None) × (work ≡ None)
none_in_both pair (Some job) work h = absurd cc
none_in_both pair None work h = (refl, mapped_none (work_under_way pair.small.flash pair.large) work h)
