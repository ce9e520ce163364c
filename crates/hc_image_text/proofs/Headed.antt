-- The head of an image is read again.
use Rattle.std.proofs.Common.{◌≡◌, inr, ℕ, ◌≤◌, ◌==◌, nat_le, nat_eq, Bool, true, false, List, ◌++◌, length, take, drop, refl, sym, ap, arith, append_assoc, length-append, take_at, drop_at, ◌∙◌}
use Rattle.std.specs.Prelude.{not, Result, Ok, Err, if◌then◌else◌}
use Rattle.std.specs.Int.{w32, w64, to_be_bytes, from_be_bytes}
use Rattle.std.specs.Cmp.Lexicographic.{pointwise, same_text}
use Rattle.std.proofs.lemmas.Bool.{le-leb}
use Rattle.std.proofs.lemmas.Cmp.{nat_list_eq_equiv}
use Rattle.std.proofs.lemmas.Nat.{from_be_bytes-to_be_bytes_4, from_be_bytes-to_be_bytes_8}
use Rattle.hc_types.specs.Config.{Config}
use Rattle.hc_image_text.specs.declared.head.Head.{Head}
use Rattle.hc_image_text.specs.declared.head.Refused.{Refused}
use Rattle.hc_image_text.specs.declared.head.Refused.TheVariants as refused
use Rattle.hc_image_text.specs.declared.head.Shard.{Shard}
use Rattle.hc_image_text.specs.Heads.{IsHead, told_bytes, told_at, told_in, whose_bytes, name, version, begun, head_bytes, head_in, Reads, HeadReadsBack, OtherConfigIsRefused, OtherVersionIsRefused}
use Rattle.hc_image_text.proofs.Whose.{whose_tells}

alike : (xs : List ℕ) → pointwise nat_eq xs xs ≡ true
alike xs = nat_list_eq_equiv.refl xs

-- a head of this version begins as heads do, and what stands behind that is looked at
begins : (shard : Shard) (config : Config) (more : List ℕ) → head_in shard config (begun version ++ more) ≡ told_in (whose_bytes shard config) more
begins shard config more =
    let long : nat_le 20 (length (begun version ++ more)) ≡ true = le-leb 20 (length (begun version ++ more)) (omega arith) in
    rw (long, from_be_bytes-to_be_bytes_4 1 (omega arith)) refl

told_long : (h : Head) → IsHead h → length (told_bytes h) ≡ 24
told_long h fits = rw (length-append h.seal, fits.seal) refl

told_again : (h : Head) (more : List ℕ) → IsHead h → told_at (told_bytes h ++ more) ≡ h
told_again h more fits =
    let bytes = told_bytes h ++ more in
    let behind = to_be_bytes w64 h.closed ++ more in
    let apart : bytes ≡ h.seal ++ behind = append_assoc h.seal (to_be_bytes w64 h.closed) more in
    let seal : take 16 bytes ≡ h.seal = ap (take 16) apart ∙ take_at h.seal behind 16 fits.seal in
    let rest : drop 16 bytes ≡ behind = ap (drop 16) apart ∙ drop_at h.seal behind 16 fits.seal in
    let closed : from_be_bytes w64 (take 8 (drop 16 bytes)) ≡ h.closed = ap (λ bs. from_be_bytes w64 (take 8 bs)) rest ∙ from_be_bytes-to_be_bytes_8 h.closed fits.closed in
    λ i. record { seal = seal i; closed = closed i }

told_of : (whose : List ℕ) (other : List ℕ) (h : Head) (t : Bool) → IsHead h → pointwise nat_eq other whose ≡ t
    → told_in whose (told_bytes h ++ other) ≡ (if not t then Err refused.OtherConfig else Ok h)
told_of whose other h t fits same =
    let long : nat_le 24 (length (told_bytes h ++ other)) ≡ true = le-leb 24 (length (told_bytes h ++ other)) (omega (arith, length-append (told_bytes h) other, told_long h fits)) in
    rw (long, drop_at (told_bytes h) other 24 (told_long h fits), same, told_again h other fits) refl

pub head_again : HeadReadsBack
head_again shard config h fits =
    let whose = whose_bytes shard config in
    begins shard config (told_bytes h ++ whose) ∙ told_of whose whose h true fits (alike whose)

other_of : (shard other : Shard) (config changed : Config) (h : Head) (t : Bool) → IsHead h → (whose_bytes other changed ≡ whose_bytes shard config → ⊥)
    → pointwise nat_eq (whose_bytes other changed) (whose_bytes shard config) ≡ t → head_in shard config (head_bytes other changed h) ≡ Err refused.OtherConfig
other_of shard other config changed h false fits differs e =
    begins shard config (told_bytes h ++ whose_bytes other changed) ∙ told_of (whose_bytes shard config) (whose_bytes other changed) h false fits e
other_of shard other config changed h true fits differs e = absurd (differs (same_text (whose_bytes other changed) (whose_bytes shard config) (sym e)))

pub other_config : OtherConfigIsRefused
other_config shard other config changed h fits is_shard is_config is_other is_changed differs =
    let apart : whose_bytes other changed ≡ whose_bytes shard config → ⊥ = λ e. let same = whose_tells other shard changed config is_other is_changed is_shard is_config e in differs same.0 same.1 in
    other_of shard other config changed h (pointwise nat_eq (whose_bytes other changed) (whose_bytes shard config)) fits apart refl

pub other_version : OtherVersionIsRefused
other_version shard config v more small differs =
    let long : nat_le 20 (length (begun v ++ more)) ≡ true = le-leb 20 (length (begun v ++ more)) (omega arith) in
    rw (long, from_be_bytes-to_be_bytes_4 v small, differs) refl

-- ---- how a head is read

pub head_told : (shard : Shard) (config : Config) (bytes : List ℕ) → 20 ≤ length bytes → pointwise nat_eq (take 16 bytes) name ≡ true → (from_be_bytes w32 (take 4 (drop 16 bytes)) == version) ≡ true
    → head_in shard config bytes ≡ told_in (whose_bytes shard config) (drop 20 bytes)
head_told shard config bytes long named versioned = rw (le-leb 20 (length bytes) long, named, versioned) refl

pub reads_same : (r seen : Result Head Refused) → seen ≡ r → Reads r seen
reads_same (Ok h) seen e = e
reads_same (Err x) seen e = inr e
