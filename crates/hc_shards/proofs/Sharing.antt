-- What follows for a configuration of shards that is right, and for their pages.
use Rattle.std.proofs.Common.{◌≡◌, ℕ, suc, ◌+◌, ◌*◌, ◌/◌, ◌==◌, ◌<◌, ◌≤◌, ◌&&◌, nat_le, nat_lt, Bool, true, false, not, List, [], ◌∷◌, length, Option, Some, None, refl, ap, sym, ◌∙◌, arith}
use Rattle.std.specs.Prelude.{if◌then◌else◌, IfSome, map}
use Rattle.std.proofs.Math.Nat.{div-le_self, div-eq_of_lt-le, mul-le-mul_right}
use Rattle.std.proofs.lemmas.Nat.{div-mul-add, mul-add-lt}
use Rattle.hc_types.specs.Config.{Config}
use Rattle.hc_types.specs.Limits.{is_within, pool_fits, all_fit, pools_fit, flash_wrong, wrong_behind, first_wrong}
use Rattle.hc_types.specs.declared.config.PoolSize.{PoolSize}
use Rattle.hc_types.specs.declared.config.FlashConfig.{FlashConfig}
use Rattle.hc_types.specs.declared.refusal.Refusal.{Refusal}
use Rattle.hc_types.specs.declared.refusal.Refusal.TheVariants.{BadPool}
use Rattle.hc_flash.specs.Operations.{Pages}
use Rattle.hc_shards.specs.Parts.{held_in, IsPageOf, PartsAreApart}
use Rattle.hc_shards.specs.Shards.{Sharded, share_of_number, share_of_pool, share_of, share_fits, shares_fit, pages_of, pages_fit, wrong_then, sharded_wrong, page_in, IsRight, SharesAreRight, PagesAreApart, PagesAreKnown}

pub flash-right : (config : Config) → first_wrong config ≡ None → IfSome config.flash (λ f. flash_wrong f ≡ None)
flash-right config h = go (pools_fit config.pools) config.flash h
  where
    go : (fits : Bool) (flash : Option FlashConfig) → (if not fits then Some BadPool else wrong_behind flash) ≡ None → IfSome flash (λ f. flash_wrong f ≡ None)
    go true None h = tt
    go true (Some f) h = h
    go false flash h = absurd cc

-- ---- shares of pools

share_most : (shards n : ℕ) → share_of_number shards n ≤ n
share_most shards n = go (shards == 0)
  where
    go : (none : Bool) → (if none then n else n / shards) ≤ n
    go true = omega arith
    go false = div-le_self n shards

pool_right : (shards : ℕ) (pool : PoolSize) → share_fits shards pool ≡ true → pool_fits pool ≡ true → pool_fits (share_of_pool shards pool) ≡ true
pool_right shards pool least most = grind (arith, least, most, share_most shards pool.bytes, share_most shards pool.items)

all_right : (shards : ℕ) (pools : List PoolSize) → shares_fit shards pools ≡ true → all_fit pools ≡ true → all_fit (map (share_of_pool shards) pools) ≡ true
all_right shards [] least most = refl
all_right shards (pool ∷ pools) least most = go (share_fits shards pool) (pool_fits pool) refl refl least most (all_right shards pools)
  where
    go : (a b : Bool) → share_fits shards pool ≡ a → pool_fits pool ≡ b → (a && shares_fit shards pools) ≡ true → (b && all_fit pools) ≡ true
        → (shares_fit shards pools ≡ true → all_fit pools ≡ true → all_fit (map (share_of_pool shards) pools) ≡ true) → (pool_fits (share_of_pool shards pool) && all_fit (map (share_of_pool shards) pools)) ≡ true
    go true true p q h k rest = (λ i. pool_right shards pool p q i && rest h k i)
    go false b p q h k rest = absurd cc
    go true false p q h k rest = absurd cc

as_many : (shards : ℕ) (pools : List PoolSize) → length (map (share_of_pool shards) pools) ≡ length pools
as_many shards [] = refl
as_many shards (pool ∷ pools) = ap suc (as_many shards pools)

-- ---- a configuration of shards that is right

share_right : (s : Sharded) → shares_fit s.shards s.config.pools ≡ true → first_wrong s.config ≡ None → first_wrong (share_of s) ≡ None
share_right s least h = go (is_within 1 16 (length s.config.pools)) (all_fit s.config.pools) refl refl s.config.flash h
  where
    go : (few all : Bool) → is_within 1 16 (length s.config.pools) ≡ few → all_fit s.config.pools ≡ all → (flash : Option FlashConfig) → (if not (few && all) then Some BadPool else wrong_behind flash) ≡ None
        → first_wrong (record { pools = map (share_of_pool s.shards) s.config.pools; flash = flash }) ≡ None
    go true true few all flash h =
        (λ i. if not (is_within 1 16 (as_many s.shards s.config.pools i) && all_right s.shards s.config.pools least all i) then Some BadPool else wrong_behind flash)
        ∙ (λ i. if not (few i && true) then Some BadPool else wrong_behind flash) ∙ h
    go false all few e flash h = absurd cc
    go true false few e flash h = absurd cc

le-true : (a b : ℕ) → nat_le a b ≡ true → a ≤ b
le-true a b h = grind (arith, h)

pub sharded-right : SharesAreRight
sharded-right s h = go (shares_fit s.shards s.config.pools) (first_wrong s.config) (is_within 1 16 s.shards) (pages_fit s.shards s.config.flash) refl refl refl refl h
  where
    go : (least : Bool) (wrong : Option Refusal) (few pages : Bool) → shares_fit s.shards s.config.pools ≡ least → first_wrong s.config ≡ wrong → is_within 1 16 s.shards ≡ few → pages_fit s.shards s.config.flash ≡ pages
        → (if not least then Some BadPool else wrong_then wrong (few && pages)) ≡ None → IsRight s
    go true None true true a b c d h = record { share = share_right s a b; whole = b; some = grind (arith, c); few = grind (arith, c); pages = le-true _ _ d }
    go false wrong few pages a b c d h = absurd cc
    go true (Some refusal) few pages a b c d h = absurd cc
    go true None false pages a b c d h = absurd cc
    go true None true false a b c d h = absurd cc

-- ---- pages

-- no page of one shard is another's
pub pages-apart : PagesAreApart
pages-apart pages a b p q here there same =
    let which : a ≡ b = sym (div-mul-add a pages p here) ∙ ap (λ n. n / pages) same ∙ div-mul-add b pages q there in
    (which, omega (arith, same, ap (λ n. n * pages) which))

-- what holds of the device's pages holds of the part's
held-alike : (a b : Pages) (first pages page : ℕ) → (page < pages → a (first + page) ≡ b (first + page)) → held_in first pages a page ≡ held_in first pages b page
held-alike a b first pages page same = go (nat_lt page pages) refl
  where
    go : (t : Bool) → nat_lt page pages ≡ t → (if t then a (first + page) else None) ≡ (if t then b (first + page) else None)
    go true e = same (grind (arith, e))
    go false e = refl

outside : (pages a b page : ℕ) → page < pages → ¬ (a ≡ b) → ¬ IsPageOf (page_in pages a 0) pages (page_in pages b 0 + page)
outside pages a b page lt apart h =
    let mine : (b * pages + page) / pages ≡ a = div-eq_of_lt-le pages (omega (arith, h.0)) (omega (arith, h.1)) in
    apart (sym mine ∙ div-mul-add b pages page lt)

pub parts-apart : PartsAreApart
parts-apart pages a b before after apart beside page = held-alike after before (page_in pages b 0) pages page (λ lt. beside (page_in pages b 0 + page) (outside pages a b page lt apart))

-- each has a number that a device knows
pub page-fits : PagesAreKnown
page-fits s shard page right here there = omega (arith, mul-add-lt shard (pages_of s.config.flash) page s.shards here there, (sharded-right s right).pages)

-- the pages of a shard end before the last number
pub shard-fits : (s : Sharded) (shard : ℕ) → sharded_wrong s ≡ None → shard < s.shards → shard * pages_of s.config.flash + pages_of s.config.flash ≤ 4294967295
shard-fits s shard right lt =
    let pages = pages_of s.config.flash in
    let fewer : suc shard * pages ≤ s.shards * pages = mul-le-mul_right pages (omega (arith, lt)) in
    omega (arith, fewer, (sharded-right s right).pages)
