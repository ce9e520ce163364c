-- When two configurations are the same.
use Rattle.std.proofs.Common.{◌≡◌, ℕ, ◌==◌, ◌&&◌, Bool, true, false, Option, Some, None, refl, ap, sym, ◌∙◌}
use Rattle.std.specs.Bool.{Decides}
use Rattle.std.specs.Option.{option_eq}
use Rattle.std.specs.Cmp.Lexicographic.{pointwise}
use Rattle.std.proofs.lemmas.Bool.{false≢true}
use Rattle.std.proofs.lemmas.Slice.Eq.{slice_eq-Decides}
use Rattle.std.proofs.lemmas.Bool.Decides.{Decides-and, Decides-eqb, Decides-like}
use Rattle.hc_types.specs.Config.{Config}
use Rattle.hc_types.specs.declared.config.PoolSize.{PoolSize}
use Rattle.hc_types.specs.declared.config.FlashConfig.{FlashConfig}

sizes_decide : (a b : PoolSize) → Decides ((a.bytes == b.bytes) && (a.items == b.items)) (a ≡ b)
sizes_decide a b =
    Decides-like ((a.bytes == b.bytes) && (a.items == b.items)) (λ h i. record { bytes = h.0 i; items = h.1 i }) (λ e. (ap (λ (x : PoolSize). x.bytes) e, ap (λ (x : PoolSize). x.items) e))
    (Decides-and {P = a.bytes ≡ b.bytes} {Q = a.items ≡ b.items} (a.bytes == b.bytes) (a.items == b.items) (Decides-eqb a.bytes b.bytes) (Decides-eqb a.items b.items))

-- a number more, before a test of the rest
field : {R : Type 0} (a b : ℕ) (rest : Bool) → Decides rest R → Decides ((a == b) && rest) ((a ≡ b) × R)
field a b rest d = Decides-and (a == b) rest (Decides-eqb a b) d

abbrev same_flash : FlashConfig → FlashConfig → Bool
same_flash a b = (a.page == b.page) && ((a.buckets == b.buckets) && ((a.regions == b.regions) && ((a.region_pages == b.region_pages) && ((a.clean == b.clean) && ((a.small_max == b.small_max) && ((a.queue == b.queue) && ((a.bits == b.bits) && ((a.admit_min == b.admit_min) && (a.admit_max == b.admit_max)))))))))

flash_decides : (a b : FlashConfig) → Decides (same_flash a b) (a ≡ b)
flash_decides a b =
    Decides-like (same_flash a b)
    (λ h i. record { page = h.0 i; buckets = h.1.0 i; regions = h.1.1.0 i; region_pages = h.1.1.1.0 i; clean = h.1.1.1.1.0 i; small_max = h.1.1.1.1.1.0 i; queue = h.1.1.1.1.1.1.0 i; bits = h.1.1.1.1.1.1.1.0 i; admit_min = h.1.1.1.1.1.1.1.1.0 i; admit_max = h.1.1.1.1.1.1.1.1.1 i })
    (λ e. (ap (λ (x : FlashConfig). x.page) e, (ap (λ (x : FlashConfig). x.buckets) e, (ap (λ (x : FlashConfig). x.regions) e, (ap (λ (x : FlashConfig). x.region_pages) e, (ap (λ (x : FlashConfig). x.clean) e, (ap (λ (x : FlashConfig). x.small_max) e, (ap (λ (x : FlashConfig). x.queue) e, (ap (λ (x : FlashConfig). x.bits) e, (ap (λ (x : FlashConfig). x.admit_min) e, ap (λ (x : FlashConfig). x.admit_max) e))))))))))
    (field a.page b.page _ (field a.buckets b.buckets _ (field a.regions b.regions _ (field a.region_pages b.region_pages _ (field a.clean b.clean _ (field a.small_max b.small_max _ (field a.queue b.queue _ (field a.bits b.bits _ (field a.admit_min b.admit_min _ (Decides-eqb a.admit_max b.admit_max))))))))))

flash_or_none : (a b : Option FlashConfig) → Decides (option_eq same_flash a b) (a ≡ b)
flash_or_none None None = (λ h. refl, λ h. refl)
flash_or_none (Some a) (Some b) = Decides-like (same_flash a b) (λ h. ap (λ (x : FlashConfig). Some x) h) (λ h. cc) (flash_decides a b)
flash_or_none a b = (λ h. absurd (false≢true h), λ h. absurd cc)

abbrev same_size : PoolSize → PoolSize → Bool
same_size a b = (a.bytes == b.bytes) && (a.items == b.items)

-- the answers of both tests, one after the other
pub both-hold : (a b : Config) (flash pools : Bool) → flash ≡ option_eq same_flash a.flash b.flash → flash ≡ true → pools ≡ pointwise same_size a.pools b.pools → Decides pools (a ≡ b)
both-hold a b flash pools e held f =
    let others : a.flash ≡ b.flash = (flash_or_none a.flash b.flash).0 (sym e ∙ held) in
    let lists = slice_eq-Decides sizes_decide a.pools b.pools pools f in
    Decides-like pools (λ h i. record { pools = h i; flash = others i }) (λ h. ap (λ (c : Config). c.pools) h) lists

pub one-fails : (a b : Config) (flash : Bool) → flash ≡ option_eq same_flash a.flash b.flash → flash ≡ false → Decides flash (a ≡ b)
one-fails a b flash e failed = (
  λ h. absurd (false≢true (sym failed ∙ h)),
  λ h. e ∙ (flash_or_none a.flash b.flash).1 (ap (λ (c : Config). c.flash) h),
)
