-- The tests of what waits for flash say what the flash's own contracts say.
use Rattle.std.proofs.Common.{inl, inr, arith, ◌≡◌, ℕ, ◌≤◌, ◌<◌, nat_le, nat_lt, Bool, true, false, ◌&&◌, ◌||◌, List, [], ◌∷◌, ◌++◌, length, map, Option, Some, None, refl, ap}
use Rattle.std.specs.Prelude.{is_none, is_some}
use Rattle.std.specs.List.{list_any}
use Rattle.std.proofs.lemmas.Bool.{and_from, and_left, and_right, and_parts, leb-true, le-leb, ltb-true, lt-ltb, not_from_true, not_from_false, false_from_ne_true}
use Rattle.hc_types.specs.FlashEntry.{FlashEntry}
use Rattle.hc_types.specs.Places.{is_small_by}
use Rattle.hc_types.specs.declared.config.FlashConfig.{FlashConfig}
use Rattle.hc_engines.specs.Engine.{Put}
use Rattle.hc_engines.specs.large.Entries.{entry_bytes}
use Rattle.hc_engines.specs.large.Region.{region_len}
use Rattle.hc_pair.specs.Joined.{CanStart}
use Rattle.hc_engines.specs.large.Block.{Block}
use Rattle.hc_block.specs.Moves as block
use Rattle.hc_block.specs.Resting.{misfit, IsWhy}
use Rattle.hc_block.specs.declared.reason.Reason.{Reason}
use Rattle.hc_block.specs.declared.reason.Reason.TheVariants as reasons
use Rattle.hc_machine.specs.Nvm.{Tombstone, put_at, is_stone_of}
use Rattle.hc_nvm.specs.Resting.{PutFits, PutMisfits, StoneFits, StoneMisfits, AllPutsFit, AllStonesFit, waiting_stone}
use Rattle.hc_nvm.specs.declared.resting.Unfit.{Unfit}
use Rattle.hc_nvm.specs.declared.resting.Unfit.TheVariants.{TooLarge, Twice, Full, NoMemory}
use Rattle.hc_image.specs.Fitting.{can_wait, put_fits, puts_fit, stone_fits, stones_fit}
use Rattle.hc_image.specs.Refusing.{IsUnfit, reason_by, unfit_by}

-- ---- options

pub none_is : {X : Type 0} (o : Option X) → o ≡ None → is_none o ≡ true
none_is o e = ap is_none e

pub some_is : {X : Type 0} (o : Option X) → is_some o ≡ true → is_none o ≡ false
some_is None e = absurd cc
some_is (Some x) e = refl

pub not_some : {X : Type 0} (o : Option X) → is_some o ≡ false → is_none o ≡ true
not_some None e = refl
not_some (Some x) e = absurd cc

-- ---- the parts of the large engine

none_of : (o : Option Reason) (why : Reason) → o ≡ Some why → is_none o ≡ false
none_of o why e = ap is_none e

pub parts_arent : (flash : FlashConfig) (s : Block) (why : Reason) → IsWhy flash s why → IsUnfit (is_none (misfit flash s)) (reason_by why)
parts_arent flash s reasons.NoMemory h = inl refl
parts_arent flash s reasons.Count (inl e) = absurd cc
parts_arent flash s reasons.Count (inr e) = inr (refl, none_of (misfit flash s) reasons.Count e)
parts_arent flash s reasons.Region (inl e) = absurd cc
parts_arent flash s reasons.Region (inr e) = inr (refl, none_of (misfit flash s) reasons.Region e)
parts_arent flash s reasons.Current (inl e) = absurd cc
parts_arent flash s reasons.Current (inr e) = inr (refl, none_of (misfit flash s) reasons.Current e)
parts_arent flash s reasons.Sealed (inl e) = absurd cc
parts_arent flash s reasons.Sealed (inr e) = inr (refl, none_of (misfit flash s) reasons.Sealed e)
parts_arent flash s reasons.Flushed (inl e) = absurd cc
parts_arent flash s reasons.Flushed (inr e) = inr (refl, none_of (misfit flash s) reasons.Flushed e)
parts_arent flash s reasons.Index (inl e) = absurd cc
parts_arent flash s reasons.Index (inr e) = inr (refl, none_of (misfit flash s) reasons.Index e)

-- ---- puts

waits_by : (flash : FlashConfig) (put : FlashEntry) (small : Bool) → (small ≡ false → block.CanStart flash (Put put))
    → (small || (nat_le (length put.value) 1048576 && nat_le (length (entry_bytes put)) (region_len flash))) ≡ true
waits_by flash put true can = refl
waits_by flash put false can =
    let fits = can refl in
    and_from (nat_le (length put.value) 1048576) (nat_le (length (entry_bytes put)) (region_len flash)) (le-leb (length put.value) 1048576 fits.0) (le-leb (length (entry_bytes put)) (region_len flash) fits.1)

pub waits : (flash : FlashConfig) (put : FlashEntry) → CanStart flash (Put put) → can_wait flash put ≡ true
waits flash put can = waits_by flash put (is_small_by flash put.key (length put.value)) can

starts_by : (flash : FlashConfig) (put : FlashEntry) (small : Bool)
    → (small || (nat_le (length put.value) 1048576 && nat_le (length (entry_bytes put)) (region_len flash))) ≡ true → small ≡ false → block.CanStart flash (Put put)
starts_by flash put true fits e = absurd cc
starts_by flash put false fits e =
    let both = and_parts (nat_le (length put.value) 1048576) (nat_le (length (entry_bytes put)) (region_len flash)) fits in
    (leb-true (length put.value) 1048576 both.0, leb-true (length (entry_bytes put)) (region_len flash) both.1)

starts : (flash : FlashConfig) (put : FlashEntry) → can_wait flash put ≡ true → CanStart flash (Put put)
starts flash put fits = starts_by flash put (is_small_by flash put.key (length put.value)) fits

pub put_is : (flash : FlashConfig) (before : List FlashEntry) (put : FlashEntry) → PutFits flash before put → put_fits flash before put ≡ true
put_is flash before put fits =
    and_from (can_wait flash put) (is_none (put_at put.key before) && nat_lt (length before) flash.queue) (waits flash put fits.can)
    (and_from (is_none (put_at put.key before)) (nat_lt (length before) flash.queue) (none_is (put_at put.key before) fits.alone) (lt-ltb (length before) flash.queue fits.room))

over : (n m : ℕ) → m ≤ n → nat_lt n m ≡ false
over n m h = false_from_ne_true (nat_lt n m) (λ e. let under : n < m = ltb-true n m e in omega arith)

pub put_isnt : (why : Unfit) (flash : FlashConfig) (before : List FlashEntry) (put : FlashEntry) → PutMisfits why flash before put → IsUnfit (put_fits flash before put) (unfit_by why)
put_isnt TooLarge flash before put cant =
    inr (refl, and_left (can_wait flash put) (is_none (put_at put.key before) && nat_lt (length before) flash.queue) (false_from_ne_true (can_wait flash put) (λ e. cant (starts flash put e))))
put_isnt Twice flash before put there =
    inr (
      refl,
      and_right (can_wait flash put) (is_none (put_at put.key before) && nat_lt (length before) flash.queue)
          (and_left (is_none (put_at put.key before)) (nat_lt (length before) flash.queue) (some_is (put_at put.key before) there)),
    )
put_isnt Full flash before put many =
    inr (
      refl,
      and_right (can_wait flash put) (is_none (put_at put.key before) && nat_lt (length before) flash.queue)
          (and_right (is_none (put_at put.key before)) (nat_lt (length before) flash.queue) (over (length before) flash.queue many)),
    )
put_isnt NoMemory flash before put fits = inl refl

pub puts_are : (flash : FlashConfig) (before puts : List FlashEntry) → AllPutsFit flash before puts → puts_fit flash before puts ≡ true
puts_are flash before [] fit = refl
puts_are flash before (put ∷ puts) fit =
    and_from (put_fits flash before put) (puts_fit flash (before ++ put ∷ []) puts) (put_is flash before put fit.0) (puts_are flash (before ++ put ∷ []) puts fit.1)

-- ---- tombstones

pub stone_is : (before : List Tombstone) (key : List ℕ) → StoneFits before key → stone_fits before key ≡ true
stone_is before key fits = not_from_false (list_any (is_stone_of key) before) fits

pub stone_isnt : (why : Unfit) (before : List Tombstone) (key : List ℕ) → StoneMisfits why before key → IsUnfit (stone_fits before key) (unfit_by why)
stone_isnt TooLarge before key h = absurd h
stone_isnt Twice before key there = inr (refl, not_from_true (list_any (is_stone_of key) before) there)
stone_isnt Full before key h = absurd h
stone_isnt NoMemory before key fits = inl refl

pub stones_are : (before : List Tombstone) (keys : List (List ℕ)) → AllStonesFit before (map waiting_stone keys) → stones_fit before keys ≡ true
stones_are before [] fit = refl
stones_are before (key ∷ keys) fit =
    and_from (stone_fits before key) (stones_fit (before ++ waiting_stone key ∷ []) keys) (stone_is before key fit.0) (stones_are (before ++ waiting_stone key ∷ []) keys fit.1)
