-- A new engine.
use Rattle.std.proofs.Common.{◌≡◌, ℕ, zero, suc, Option, None, [], replicate, refl}
use Rattle.std.specs.Prelude.{slice_index_or}
use Rattle.std.proofs.lemmas.List.{length-replicate}
use Rattle.hc_types.specs.declared.config.FlashConfig.{FlashConfig}
use Rattle.hc_engines.specs.Engine.{Pages}
use Rattle.hc_engines.specs.small.Sound.{Limits}
use Rattle.hc_engines.specs.small.Held.{StateFits}

-- no bucket has a word
pub no_word : (n bucket : ℕ) → slice_index_or (replicate {A = Option ℕ} n None) bucket None ≡ None
no_word zero bucket = refl
no_word (suc n) zero = refl
no_word (suc n) (suc bucket) = no_word n bucket

pub new_small_fits : (flash : FlashConfig) (pages : Pages) → Limits flash → StateFits (record { flash = flash; words = replicate flash.buckets None; jobs = [] }) pages
new_small_fits flash pages limits = record { limits = limits; buckets = length-replicate flash.buckets None; pages_fit = λ bucket. rw (no_word flash.buckets bucket) tt; jobs_fit = tt }
