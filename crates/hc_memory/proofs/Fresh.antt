-- Items of which none is expired yet.
use Rattle.std.proofs.Common.{◌≡◌, ℕ, ◌≤◌, ◌++◌, ◌==◌, ◌&&◌, not, nat_lt, Bool, true, false, List, [], ◌∷◌, Option, Some, None, refl, ap, arith}
use mathlib.Core.Bool.{cond}
use Rattle.std.specs.Option.{option_map_or}
use Rattle.std.proofs.lemmas.Bool.{ltb-true, ltb-false}
use Rattle.hc_types.specs.Tally.{count}
use Rattle.hc_types.proofs.Tallies.{tally-mono, tally-push}
use Rattle.hc_memory.specs.Item.{Item}
use Rattle.hc_memory.specs.Pool.{item_at, without, is_expired}
use Rattle.hc_memory.proofs.Keyed.{tally-without, less-without}
use Rattle.hc_memory.proofs.Listing.{zero_one}

later_step : (now later expiry : ℕ) (a b c : Bool) → nat_lt now expiry ≡ b → nat_lt later expiry ≡ c → now ≤ later → ◌≤◌ (cond (not a && not b) 1 0) (cond (not a && not c) 1 0)
later_step now later expiry true b c n l le = omega arith
later_step now later expiry false true c n l le = omega arith
later_step now later expiry false false false n l le = omega arith
later_step now later expiry false false true n l le = absurd (omega (arith, ltb-false now expiry n, ltb-true later expiry l, le))

-- what is expired stays so
expired-later : (now later : ℕ) (x : Item) → now ≤ later → ◌≤◌ (cond (is_expired now x) 1 0) (cond (is_expired later x) 1 0)
expired-later now later x le = later_step now later x.expiry (x.expiry == 0) (nat_lt now x.expiry) (nat_lt later x.expiry) refl refl le

expired-more : (now later : ℕ) (items : List Item) → now ≤ later → count (is_expired now) items ≤ count (is_expired later) items
expired-more now later items le = tally-mono (λ (x : Item). cond (is_expired now x) 1 0) (λ x. cond (is_expired later x) 1 0) (λ x. expired-later now later x le) items

fresh_step : (key : List ℕ) (now : ℕ) (items : List Item) (o : Option Item) → item_at key items ≡ o → count (is_expired now) items ≡ 0 → option_map_or (is_expired now) o false ≡ false
fresh_step key now items None e none = refl
fresh_step key now items (Some x) e none = zero_one (is_expired now x) (omega (arith, tally-without (λ (y : Item). cond (is_expired now y) 1 0) key items x e, none))

-- where none is expired at a later second, none is now
pub none-expired : (key : List ℕ) (now later : ℕ) (items : List Item) → now ≤ later → count (is_expired later) items ≡ 0 → option_map_or (is_expired now) (item_at key items) false ≡ false
none-expired key now later items le none = fresh_step key now items (item_at key items) refl (omega (arith, expired-more now later items le, none))

-- an item that takes the place of another is fresh with the rest up to the earlier of two seconds
pub fresh-put : (until last now : ℕ) (key : List ℕ) (items : List Item) (x : Item) → now ≤ until → now ≤ last → count (is_expired until) items ≡ 0 → is_expired last x ≡ false → count (is_expired now) (without key items ++ x ∷ []) ≡ 0
fresh-put until last now key items x before within none e =
    let f : Item → ℕ = λ y. cond (is_expired now y) 1 0 in
    omega (arith, tally-push f (without key items) x, less-without f key items, expired-more now until items before, none, expired-later now last x within, ap {B = ℕ} (λ b. cond b 1 0) e)
