-- A key that a step leaves alone stands as it stood; and what a loss does at each key.
use Rattle.std.proofs.Common.{◌≡◌, ℕ, Bool, false, not, ◌&&◌, ◌||◌, List, [], ◌∷◌, reverse, Option, None, refl, arith, ap, sym, ◌∙◌}
use Rattle.std.specs.Prelude.{if◌then◌else◌, is_some, nat_lt}
use Rattle.std.specs.Str.{bytes_eq}
use Rattle.std.proofs.lemmas.Grind.{reverse_onto}
use Rattle.std.proofs.lemmas.List.Folds.{list_any-append}
use Rattle.hc_types.specs.Config.{Config}
use Rattle.hc_types.specs.Tally.{count}
use Rattle.hc_types.specs.declared.config.FlashConfig.{FlashConfig}
use Rattle.hc_types.specs.FlashEntry.{FlashEntry}
use Rattle.hc_memory.specs.Item.{Item}
use Rattle.hc_memory.specs.Pool.{is_at, item_at}
use Rattle.hc_memory.specs.Memory.{linked_at}
use Rattle.hc_machine.specs.items.Items.{items_of}
use Rattle.hc_machine.proofs.items.Flat.{linked-flat}
use Rattle.hc_history.specs.Note.{Note}
use Rattle.hc_history.specs.Books.{Entry, charges, waiting, is_among, is_linked, is_held, entry_at}
use Rattle.hc_history.specs.Pages.{bytes_at}
use Rattle.hc_machine.specs.Nvm.{Nvm, put_at}
use Rattle.hc_machine.specs.Cache.{Cache}
use Rattle.hc_machine.specs.Calls.{waiting_at, buried_at}
use Rattle.hc_invariant.specs.Standing.{PlacedAt, written_at, small_at, large_at}
use Rattle.hc_invariant.specs.Tells.{keys_of, WaitsTell, MemoryTells}
use Rattle.hc_invariant.proofs.Placing.{placed_eq, map_lost}
use Rattle.hc_invariant.proofs.Ends.{linked_charges}

-- ---- the frame

-- all that is said of the key is as it was
pub record SameAt (flash : Option FlashConfig) (older newer : List Note) (before after : Cache) (key : List ℕ) : Type 0 where
  pub linked : linked_at key after.memory.pools ≡ linked_at key before.memory.pools
  pub queued : waiting_at after.nvm key ≡ waiting_at before.nvm key
  pub written : written_at after.nvm key ≡ written_at before.nvm key
  pub buried : buried_at after.nvm key ≡ buried_at before.nvm key
  pub small_one : small_at (bytes_at newer) after.nvm key ≡ small_at (bytes_at older) before.nvm key
  pub large_one : large_at (bytes_at newer) after.nvm key ≡ large_at (bytes_at older) before.nvm key
  pub map : entry_at flash newer key ≡ entry_at flash older key

pub placed_still : (flash : Option FlashConfig) (older newer : List Note) (before after : Cache) (key : List ℕ) → SameAt flash older newer before after key → PlacedAt flash older before key → PlacedAt flash newer after key
placed_still flash older newer before after key h p =
    placed_eq (linked_at key before.memory.pools) (linked_at key after.memory.pools) (waiting_at before.nvm key) (waiting_at after.nvm key) (written_at before.nvm key) (written_at after.nvm key) (buried_at before.nvm key) (buried_at after.nvm key)
    (small_at (bytes_at older) before.nvm key) (small_at (bytes_at newer) after.nvm key) (large_at (bytes_at older) before.nvm key) (large_at (bytes_at newer) after.nvm key) (entry_at flash older key) (entry_at flash newer key)
    h.linked h.queued h.written h.buried h.small_one h.large_one h.map p

-- ---- losses

-- what a loss leaves in the map, by where the key stands
pub left-is : (i : Option Item) (q : Option FlashEntry) (m : Option Entry) (covered held : Bool) → held ≡ (is_some i || is_some q) → (if covered && not held then None else m) ≡ (if covered then map_lost i q m else m)
left-is i q m covered held h = grind arith

among-reverse : (key : List ℕ) (keys : List (List ℕ)) → is_among key (reverse keys) ≡ is_among key keys
among-reverse key [] = refl
among-reverse key (k ∷ keys) = ap (is_among key) (reverse_onto keys k []) ∙ list_any-append (λ other. bytes_eq other key) (reverse keys) (k ∷ []) ∙ turned (bytes_eq k key) (is_among key (reverse keys)) (is_among key keys) (among-reverse key keys)
  where
    turned : (a b c : Bool) → b ≡ c → (b || (a || false)) ≡ (a || c)
    turned a b c e = grind arith

among-puts : (key : List ℕ) (queue : List FlashEntry) → is_among key (keys_of queue) ≡ is_some (put_at key queue)
among-puts key [] = refl
among-puts key (e ∷ queue) = grind (arith, among-puts key queue)

pub waits-is : (older : List Note) (nvm : Nvm) (key : List ℕ) → WaitsTell older nvm → is_among key (waiting older) ≡ is_some (put_at key nvm.queue)
waits-is older nvm key w = sym (among-reverse key (waiting older)) ∙ ap (is_among key) (sym w.queue) ∙ among-puts key nvm.queue

pub counts_some : (key : List ℕ) (items : List Item) → nat_lt 0 (count (is_at key) items) ≡ is_some (item_at key items)
counts_some key [] = refl
counts_some key (x ∷ items) = grind (arith, counts_some key items)

pub linked-is : (config : Config) (older : List Note) (cache : Cache) (key : List ℕ) → MemoryTells config older cache.memory → nat_lt 0 (count (is_linked key) (charges older)) ≡ is_some (linked_at key cache.memory.pools)
linked-is config older cache key t =
    ap (nat_lt 0) (linked_charges older (items_of cache.memory.pools) cache.memory.charges cache.memory.made key t.charges)
    ∙ counts_some key (items_of cache.memory.pools) ∙ ap (λ (o : Option Item). is_some o) (sym (linked-flat key cache.memory.pools))

-- the books hold a key where it has an item or a put that waits
pub held-is : (config : Config) (older : List Note) (cache : Cache) (nvm : Nvm) (key : List ℕ) → MemoryTells config older cache.memory → WaitsTell older nvm
    → is_held older key ≡ (is_some (linked_at key cache.memory.pools) || is_some (put_at key nvm.queue))
held-is config older cache nvm key t w = rw (linked-is config older cache key t, waits-is older nvm key w) refl
