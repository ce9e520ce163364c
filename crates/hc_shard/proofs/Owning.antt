-- Why a call of the shard's own key is refused.
use Rattle.std.proofs.Common.{◌≡◌, Bool, List, ℕ, true, sym, subst}
use Rattle.std.specs.Prelude.{Result, IfErr}
use Rattle.hc_types.specs.declared.refusal.Refusal.{Refusal}
use Rattle.hc_core.specs.Logged.{Logged}
use Rattle.hc_shard.specs.Shard.{Shard, is_own, IsWhy}

-- it is refused for the call's own reasons
pub own-why : {T E : Type 0} (refusal : E → Refusal) (seen now : Shard) → seen ≡ now → (result : Result T E) (key : List ℕ) (other : Refusal) (IsReason : Logged → Refusal → Type 0)
    → is_own now key ≡ true → IfErr result (λ e. IsReason seen.core (refusal e)) → IfErr result (λ e. IsWhy (is_own now key) other (IsReason now.core) (refusal e))
own-why refusal seen now same result key other IsReason is why =
    subst (λ (o : Bool). IfErr result (λ e. IsWhy o other (IsReason now.core) (refusal e))) (sym is) (subst (λ (s : Shard). IfErr result (λ e. IsReason s.core (refusal e))) same why)
