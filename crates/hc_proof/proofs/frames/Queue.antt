-- A key leaves the queue: what its keys and its pools are then.
use Rattle.std.proofs.Common.{◌≡◌, ℕ, ◌<◌, Bool, true, false, not, List, [], ◌∷◌, refl, ap, ◌∙◌}
use Rattle.std.specs.Prelude.{if◌then◌else◌}
use Rattle.std.specs.Str.{bytes_eq}
use Rattle.hc_types.specs.FlashEntry.{FlashEntry}
use Rattle.hc_history.specs.Books.{without_key}
use Rattle.hc_machine.specs.Nvm.{without_put}
use Rattle.hc_invariant.specs.Tells.{keys_of}
use Rattle.hc_invariant.specs.Good.{InPools}

pub keys_step : (key : List ℕ) (e : FlashEntry) (rest : List FlashEntry) (b : Bool) → keys_of (if not b then e ∷ without_put key rest else without_put key rest) ≡ (if not b then e.key ∷ keys_of (without_put key rest) else keys_of (without_put key rest))
keys_step key e rest true = refl
keys_step key e rest false = refl

pub keys-without : (key : List ℕ) (queue : List FlashEntry) → keys_of (without_put key queue) ≡ without_key key (keys_of queue)
keys-without key [] = refl
keys-without key (e ∷ queue) = keys_step key e queue (bytes_eq e.key key) ∙ ap (λ (keys : List (List ℕ)). if not (bytes_eq e.key key) then e.key ∷ keys else keys) (keys-without key queue)

pub pools_step : (pools : ℕ) (e : FlashEntry) (rest : List FlashEntry) (b : Bool) → e.pool < pools → InPools pools rest → InPools pools (if not b then e ∷ rest else rest)
pools_step pools e rest true h r = r
pools_step pools e rest false h r = (h, r)

pub pools-without : (pools : ℕ) (key : List ℕ) (queue : List FlashEntry) → InPools pools queue → InPools pools (without_put key queue)
pools-without pools key [] h = tt
pools-without pools key (e ∷ queue) h = pools_step pools e (without_put key queue) (bytes_eq e.key key) h.0 (pools-without pools key queue h.1)
