-- Marks that are taken before a step or after it.
use Rattle.std.proofs.Common.{◌≡◌, ℕ, true, false, List, [], ◌∷◌, refl, sym, length}
use Rattle.std.specs.Prelude.{option_map}
use Rattle.hc_types.specs.Loss.{Scope, covers}
use Rattle.hc_memory.specs.Item.{Item, Handle}
use Rattle.hc_memory.specs.Pool.{unmarked_where, is_covered}
use Rattle.hc_memory.specs.Memory.{Memory, linked_at, is_hopeless, victims_of, handle_for, after_charge, after_free, after_link, early, after_unlink, after_unmark}
use Rattle.hc_memory.proofs.Unmarked.{unlinked-off, pools-found, link-off, victims-off, hopeless-off, bring-off}

-- ---- the steps

-- the item under a key goes
pub unmark-unlink : (m : Memory) (key : List ℕ) (s : Scope) → after_unmark (after_unlink m key) s ≡ after_unlink (after_unmark m s) key
unmark-unlink m key s = let pools = unlinked-off (is_covered m.flash s) key m.pools in λ i. record { flash = m.flash; pools = sym pools i; charges = m.charges; made = m.made }

-- an unclean item is linked
pub unmark-link : (m : Memory) (h : Handle) (s : Scope) → after_unmark (after_link m false h) s ≡ after_link (after_unmark m s) false h
unmark-link m h s = link-off (is_covered m.flash s) m h

pub unmark-early : (hs : List Handle) (m : Memory) (s : Scope) → after_unmark (early hs m) s ≡ early hs (after_unmark m s)
unmark-early [] m s = refl
unmark-early (h ∷ []) m s = unmark-link m h s
unmark-early (h ∷ g ∷ hs) m s = unmark-early (g ∷ hs) (after_free m h.number) s

-- ---- what they ask

-- what is seen of the item under a key, but for its mark
pub unmark-found : {X : Type 0} (f : Item → X) → ((x : Item) → f (record x { clean = false }) ≡ f x) → (m : Memory) (s : Scope) (key : List ℕ) → option_map f (linked_at key (after_unmark m s).pools) ≡ option_map f (linked_at key m.pools)
unmark-found f same m s key = pools-found (is_covered m.flash s) f same key m.pools

pub unmark-victims : (m : Memory) (s : Scope) (pool want : ℕ) → victims_of (after_unmark m s) pool want ≡ unmarked_where (is_covered m.flash s) (victims_of m pool want)
unmark-victims m s pool want = victims-off (is_covered m.flash s) m pool want

pub unmark-hopeless : (m : Memory) (s : Scope) (pool want : ℕ) → is_hopeless (after_unmark m s) pool want ≡ is_hopeless m pool want
unmark-hopeless m s pool want = hopeless-off (is_covered m.flash s) m pool want

-- a clean item is linked that the scope doesn't cover
pub unmark-bring : (m : Memory) (s : Scope) (pool : ℕ) (key value : List ℕ) (expiry : ℕ) → covers m.flash s key (length value) ≡ false
    → after_unmark (after_link (after_charge m pool key (length value)) true (handle_for m pool key value expiry)) s ≡ after_link (after_charge (after_unmark m s) pool key (length value)) true (handle_for (after_unmark m s) pool key value expiry)
unmark-bring m s pool key value expiry apart = bring-off (is_covered m.flash s) m pool key value expiry apart
