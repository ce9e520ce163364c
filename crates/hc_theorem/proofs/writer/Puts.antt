-- A put leaves the queue: what the queue and the books say then.
use Rattle.std.proofs.Common.{◌≡◌, ℕ, ◌<◌, Bool, true, false, not, List, [], ◌∷◌, reverse, find, Some, None, refl, ap, ◌∙◌, subst}
use Rattle.std.specs.Prelude.{if◌then◌else◌}
use Rattle.std.specs.Str.{bytes_eq}
use Rattle.hc_types.specs.FlashEntry.{FlashEntry}
use Rattle.hc_memory.proofs.Keyed.{same_bytes}
use Rattle.hc_history.specs.Books.{without_key}
use Rattle.hc_machine.specs.Nvm.{put_at, without_put}
use Rattle.hc_invariant.specs.Tells.{keys_of}
use Rattle.hc_invariant.specs.Good.{InPools}
use Rattle.hc_invariant.proofs.Lookups.{put-other, put-gone, at_key}
use Rattle.hc_proof.proofs.frames.Lists.{filter-reverse}
use Rattle.hc_proof.proofs.frames.Queue.{keys-without}

pub queue-less : (key : List ℕ) (queue : List FlashEntry) (waits : List (List ℕ)) → keys_of queue ≡ reverse waits → keys_of (without_put key queue) ≡ reverse (without_key key waits)
queue-less key queue waits e = keys-without key queue ∙ ap (without_key key) e ∙ filter-reverse (λ (other : List ℕ). not (bytes_eq other key)) waits

pub in-pools-found : (pools : ℕ) (p : FlashEntry → Bool) (queue : List FlashEntry) (e : FlashEntry) → InPools pools queue → find p queue ≡ Some e → e.pool < pools
in-pools-found pools p [] e h f = absurd cc
in-pools-found pools p (x ∷ queue) e h f = step (p x) (in-pools-found pools p queue e h.1) f
  where
    step : (b : Bool) → (find p queue ≡ Some e → e.pool < pools) → (if b then Some x else find p queue) ≡ Some e → e.pool < pools
    step true more f = let same : x ≡ e = cc in subst (λ (y : FlashEntry). y.pool < pools) same h.0
    step false more f = more f

-- a key that didn't wait still doesn't
pub still-unqueued : (key k : List ℕ) (queue : List FlashEntry) → put_at k queue ≡ None → put_at k (without_put key queue) ≡ None
still-unqueued key k queue h = at_key (λ k. put_at k queue ≡ None → put_at k (without_put key queue) ≡ None) key (λ h. put-gone key queue) (λ k o h. put-other key k queue o ∙ h) k h

-- and isn't the one that waits
pub differs : (key k : List ℕ) (queue : List FlashEntry) (put : FlashEntry) → put_at key queue ≡ Some put → put_at k queue ≡ None → bytes_eq key k ≡ false
differs key k queue put e n = go (bytes_eq key k) refl
  where
    go : (b : Bool) → bytes_eq key k ≡ b → b ≡ false
    go true t = let same : key ≡ k = same_bytes key k t in let here : put_at k queue ≡ Some put = subst (λ (c : List ℕ). put_at c queue ≡ Some put) same e in absurd cc
    go false t = refl
