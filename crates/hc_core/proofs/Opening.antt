-- A handle that was allocated is known, and one that is known is given up.
use Rattle.std.proofs.Common.{◌≡◌, ℕ, true, false, not, ◌&&◌, List, length, ◌∙◌}
use Rattle.std.specs.Prelude.{Result, Ok, Err, IfOk}
use Rattle.hc_memory.specs.Item.{Handle}
use Rattle.hc_memory.specs.Memory.{handle_for}
use Rattle.hc_machine.specs.items.Allocating.{expiry_of}
use Rattle.hc_machine.specs.Waiting.{free}
use Rattle.hc_machine.specs.Evicting.{make_charge}
use Rattle.hc_machine.specs.Calls.{is_kept_in, is_known}
use Rattle.hc_invariant.specs.Structure.{Structured}
use Rattle.hc_state.specs.allocate.Charge.{Opens}
use Rattle.hc_state.specs.Whole.{Whole}
use Rattle.hc_state.proofs.Unkept.{unkept}

-- ---- what was allocated

pub opened-known : {E : Type 0} (pool : ℕ) (key value : List ℕ) (ttl : ℕ) (old new : Whole) (result : Result Handle E) → Structured old.cache
    → IfOk result (λ blank. Opens (make_charge pool key (length value) old.cache) blank old new) → IfOk result (λ blank. blank ≡ handle_for old.cache.memory pool key value (expiry_of old.cache.now ttl))
    → IfOk result (λ blank. is_known new.cache blank ≡ true)
opened-known pool key value ttl old new (Err e) structured opens is = tt
opened-known pool key value ttl old new (Ok blank) structured opens is =
    let free : is_kept_in new.cache.nvm blank.number ≡ false =
    (λ i. is_kept_in (opens.cache i).nvm (is i).number) ∙ unkept pool key (length value) old.cache structured in
    λ i. opens.is_open i && not (free i)

-- ---- what is known
