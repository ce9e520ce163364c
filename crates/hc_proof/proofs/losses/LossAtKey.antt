-- What losses do where one key stands: a single search over plain variables.
use Rattle.std.proofs.Common.{◌≡◌, Bool, true, false, not, Option, Some, None, arith}
use Rattle.std.specs.Prelude.{if◌then◌else◌, ◌&&◌, is_some}
use Rattle.hc_types.specs.FlashEntry.{FlashEntry}
use Rattle.hc_memory.specs.Item.{Item}
use Rattle.hc_history.specs.Books.{Entry}
use Rattle.hc_invariant.specs.Standing.{map_of, Placed}
use Rattle.hc_invariant.proofs.Placing.{map_lost, unclean}

-- the losses cover the key, as the map has it (gone); what is written, held in the small engine, in the large one goes; the
-- tombstone ends
pub placed_lost : (i : Option Item) (q w s l : Option FlashEntry) (m : Option Entry) (b gone ends gs gl raised : Bool) → Placed i q w b s l m
    → (b ≡ false → is_some w ≡ true → ends ≡ gone) → (b ≡ false → is_some s ≡ true → gs ≡ gone) → (is_some l ≡ true → gl ≡ gone)
    → (raised ≡ true → b ≡ true → (is_some (if ends then None else w) ≡ false) × (is_some (if gs then None else s) ≡ false))
    → (m ≡ None → gone ≡ false)
    → Placed (if gone then unclean i else i) q (if ends then None else w) (b && not raised) (if gs then None else s) (if gl then None else l) (if gone then map_lost i q m else m)
placed_lost i q w s l m false false ends gs gl raised h hw hs hl hb hm = grind arith
placed_lost i q w s l m false true ends gs gl raised h hw hs hl hb hm = grind arith
placed_lost i q w s l m true false ends gs gl raised h hw hs hl hb hm = grind arith
placed_lost i q w s l m true true ends gs gl raised h hw hs hl hb hm = grind arith

-- what is held, and isn't buried, is what the map has
pub map_small_held : (i : Option Item) (q w l : Option FlashEntry) (m : Option Entry) (e : FlashEntry) → Placed i q w false (Some e) l m → m ≡ Some (map_of e)
map_small_held i q w l m e h = grind arith

pub map_large_held : (i : Option Item) (q w s : Option FlashEntry) (m : Option Entry) (b : Bool) (e : FlashEntry) → Placed i q w b s (Some e) m → m ≡ Some (map_of e)
map_large_held i q w s m b e h = grind arith

-- what is being written, and isn't buried, is what the map has, and stands nowhere else
pub map_written : (i : Option Item) (q s l : Option FlashEntry) (m : Option Entry) (e : FlashEntry) → Placed i q (Some e) false s l m → m ≡ Some (map_of e)
map_written i q s l m e h = grind arith

pub written_alone : (i : Option Item) (q s l : Option FlashEntry) (m : Option Entry) (e : FlashEntry) → Placed i q (Some e) false s l m → s ≡ None
written_alone i q s l m e h = grind arith

pub large_alone : (i : Option Item) (q w s : Option FlashEntry) (m : Option Entry) (b : Bool) (e : FlashEntry) → Placed i q w b s (Some e) m → s ≡ None
large_alone i q w s m b e h = grind arith
