-- A new engine.
use Rattle.std.proofs.Common.{◌≡◌, ℕ, zero, suc, ◌<◌, List, Option, replicate, refl, arith}
use Rattle.hc_types.specs.declared.config.FlashConfig.{FlashConfig}
use Rattle.hc_engines.specs.large.Region.{clean_region, region_at}
use Rattle.hc_engines.specs.large.Good.{Good}
use Rattle.hc_engines.specs.large.Laws.{new_block}

pub all_clean : (n r : ℕ) → region_at r (replicate n clean_region) ≡ clean_region
all_clean zero r = refl
all_clean (suc n) zero = refl
all_clean (suc n) (suc r) = all_clean n r

pub new_good : (flash : FlashConfig) (pages : ℕ → Option (List ℕ)) → Good flash pages (new_block flash)
new_good flash pages = record {
  sound = record {
    current = λ r c. absurd (cc);
    sealed = λ r i. absurd (cc);
    flushed = λ r i. absurd (cc);
    listed = λ h p e. absurd (cc);
    regions = λ r. rw (all_clean flash.regions r) (record { blank = λ c. refl; bare = λ c. refl; pinned = refl; drains = λ c. absurd (cc); out = refl; unwritten = λ c. absurd (cc); early = λ c. absurd (cc); rising = omega arith });
    works = tt;
    single = λ n. omega arith;
  };
  fits = record {
    known = λ r i u l. absurd (let k = all_clean flash.regions r in let l2 : i < 0 = (rw k at l) in omega arith);
    within = λ r. rw (all_clean flash.regions r) (omega arith);
    places = λ h p e. absurd (cc);
  };
  reads = tt;
}
