-- What the large engine's losses leave of what it holds.
use Rattle.std.proofs.Common.{◌≡◌, ℕ, ◌&&◌, ◌||◌, Bool, true, false, List, [], ◌∷◌, length, Option, Some, None, refl, sym, ap, arith, ◌∙◌}
use Rattle.std.proofs.lemmas.Bool.{eqb-true, eq-eqb}
use Rattle.std.specs.Prelude.{if◌then◌else◌, ◌==◌}
use Rattle.std.specs.Str.{bytes_eq}
use Rattle.hc_types.specs.declared.config.FlashConfig.{FlashConfig}
use Rattle.hc_types.specs.Places.{kept_of, is_small_by}
use Rattle.hc_types.specs.Loss.{Scope, Key, Bucket, Hash, Cause, covers}
use Rattle.hc_types.specs.FlashEntry.{FlashEntry}
use Rattle.hc_engines.specs.Engine.{Loss, Pages, takes_out, is_lost, left_of}
use Rattle.hc_engines.proofs.Keys.{same-true, same-refl}
use Rattle.hc_engines.specs.large.Index.{Place, place_at}
use Rattle.hc_engines.specs.large.Block.{Block}
use Rattle.hc_engines.specs.large.Steps.{lost, collided}
use Rattle.hc_engines.specs.large.Held.{held}
use Rattle.hc_engines.specs.large.Laws.{names_hash, loses, after_put}
use Rattle.hc_engines.proofs.large.Lists.{same_num}

-- something is held under a key only where the index has its hash
pub held-indexed : (flash : FlashConfig) (pages : Pages) (s : Block) (key : List ℕ) (e : FlashEntry) → held flash pages s key ≡ Some e → place_at (kept_of flash.bits key) s.index ≡ None → ⊥
held-indexed flash pages s key e h none = let gone : None ≡ Some e = (rw none at h) in cc

-- ---- losses of hashes

-- the loss is of a hash, and takes it out
abbrev pub IsPlain : Scope → Cause → Type 0
IsPlain (Hash kept None) cause = takes_out cause ≡ true
IsPlain scope cause = ⊥

abbrev pub ArePlain : List Loss → Type 0
ArePlain [] = Unit {0}
ArePlain (loss ∷ losses) = IsPlain loss.scope loss.cause × ArePlain losses

pub plain-lost : (cause : Cause) (hashes : List ℕ) → takes_out cause ≡ true → ArePlain (lost cause hashes)
plain-lost cause [] h = tt
plain-lost cause (x ∷ xs) h = (h, plain-lost cause xs h)

plain-covers : (flash : FlashConfig) (scope : Scope) (cause : Cause) (e : FlashEntry) → IsPlain scope cause → is_small_by flash e.key (length e.value) ≡ false
    → (takes_out cause && covers (Some flash) scope e.key (length e.value)) ≡ names_hash (kept_of flash.bits e.key) scope
plain-covers flash (Key key) cause e h large = absurd h
plain-covers flash (Bucket bucket) cause e h large = absurd h
plain-covers flash (Hash kept None) cause e h large = rw (h, large) (go (kept_of flash.bits e.key == kept) refl)
  where
    go : (t : Bool) → (kept_of flash.bits e.key == kept) ≡ t → (t && true) ≡ (kept == kept_of flash.bits e.key)
    go true t = grind (arith, t)
    go false t = grind (arith, t)
plain-covers flash (Hash kept (Some key)) cause e h large = absurd h

plain-is : (flash : FlashConfig) (losses : List Loss) (e : FlashEntry) → ArePlain losses → is_small_by flash e.key (length e.value) ≡ false → is_lost flash losses e ≡ loses (kept_of flash.bits e.key) losses
plain-is flash [] e h large = refl
plain-is flash (loss ∷ losses) e h large = rw (plain-covers flash loss.scope loss.cause e h.0 large, plain-is flash losses e h.1 large) (go (names_hash (kept_of flash.bits e.key) loss.scope))
  where
    go : (t : Bool) → (t || loses (kept_of flash.bits e.key) losses) ≡ (if t then true else loses (kept_of flash.bits e.key) losses)
    go true = refl
    go false = refl

-- what is left of a held entry
pub plain-left : (flash : FlashConfig) (losses : List Loss) (key : List ℕ) (o : Option FlashEntry) → ArePlain losses → ((e : FlashEntry) → o ≡ Some e → (e.key ≡ key) × (is_small_by flash e.key (length e.value) ≡ false))
    → (if loses (kept_of flash.bits key) losses then None else o) ≡ left_of flash losses o
plain-left flash losses key None plain own = go (loses (kept_of flash.bits key) losses) None refl
  where
    go : (t : Bool) (o : Option FlashEntry) → o ≡ None → (if t then None else o) ≡ None
    go true o e = refl
    go false o e = e
plain-left flash losses key (Some x) plain own =
    let o = own x refl in
    let lost : is_lost flash losses x ≡ loses (kept_of flash.bits key) losses = plain-is flash losses x plain o.1 ∙ ap (λ (k : List ℕ). loses (kept_of flash.bits k) losses) o.0 in
    rw lost refl

-- ---- what is left of what a put's entry meets

pub collision-left : (flash : FlashConfig) (e : FlashEntry) (key : List ℕ) (o : Option FlashEntry) (at : Option Place) → is_small_by flash e.key (length e.value) ≡ false
    → ((x : FlashEntry) → o ≡ Some x → (x.key ≡ key) × (is_small_by flash x.key (length x.value) ≡ false))
    → ((x : FlashEntry) → o ≡ Some x → kept_of flash.bits key ≡ kept_of flash.bits e.key → at ≡ None → ⊥)
    → after_put flash e key o ≡ left_of flash (collided (kept_of flash.bits e.key) e.key at) (if bytes_eq e.key key then Some e else o)
collision-left flash e key o at large own there = by (bytes_eq e.key key) refl
  where
    here : (at : Option Place) → bytes_eq e.key key ≡ true → Some e ≡ left_of flash (collided (kept_of flash.bits e.key) e.key at) (Some e)
    here None p = refl
    here (Some q) p = rw (large, same_num (kept_of flash.bits e.key), same-refl e.key) refl

    other : (o : Option FlashEntry) (at : Option Place) (t : Bool) → (kept_of flash.bits key == kept_of flash.bits e.key) ≡ t → bytes_eq e.key key ≡ false
        → ((x : FlashEntry) → o ≡ Some x → (x.key ≡ key) × (is_small_by flash x.key (length x.value) ≡ false))
        → ((x : FlashEntry) → o ≡ Some x → kept_of flash.bits key ≡ kept_of flash.bits e.key → at ≡ None → ⊥)
        → (if t then None else o) ≡ left_of flash (collided (kept_of flash.bits e.key) e.key at) o
    other None at true t p own there = refl
    other None at false t p own there = refl
    other (Some x) None true t p own there = absurd (there x refl (eqb-true _ _ t) refl)
    other (Some x) (Some q) true t p own there =
        let w = own x refl in
        let k : (kept_of flash.bits x.key == kept_of flash.bits e.key) ≡ true = ap (λ (z : List ℕ). kept_of flash.bits z == kept_of flash.bits e.key) w.0 ∙ t in
        let n : bytes_eq e.key x.key ≡ false = ap (λ (z : List ℕ). bytes_eq e.key z) w.0 ∙ p in
        rw (w.1, k, n) refl
    other (Some x) None false t p own there = refl
    other (Some x) (Some q) false t p own there =
        let w = own x refl in
        let k : (kept_of flash.bits x.key == kept_of flash.bits e.key) ≡ false = ap (λ (z : List ℕ). kept_of flash.bits z == kept_of flash.bits e.key) w.0 ∙ t in
        rw (w.1, k) refl

    by : (t : Bool) → bytes_eq e.key key ≡ t → after_put flash e key o ≡ left_of flash (collided (kept_of flash.bits e.key) e.key at) (if t then Some e else o)
    by true p =
        let same : e.key ≡ key = same-true e.key key p in
        let k : (kept_of flash.bits key == kept_of flash.bits e.key) ≡ true = eq-eqb _ _ (ap (kept_of flash.bits) (sym same)) in
        rw (k, p) (here at p)
    by false p = rw p (other o at (kept_of flash.bits key == kept_of flash.bits e.key) refl p own there)
