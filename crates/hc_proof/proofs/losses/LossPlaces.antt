-- Where each key stands after losses.
use Rattle.std.proofs.Common.{◌≡◌, ℕ, Bool, true, false, not, ◌&&◌, ◌||◌, List, [], ◌∷◌, length, Option, Some, None, refl, arith, ap, sym, ◌∙◌}
use Rattle.std.specs.Prelude.{if◌then◌else◌, is_some}
use Rattle.std.specs.List.{list_any}
use Rattle.hc_types.specs.Loss as loss
use Rattle.hc_types.specs.declared.config.FlashConfig.{FlashConfig}
use Rattle.hc_types.specs.FlashEntry.{FlashEntry}
use Rattle.hc_engines.specs.Engine.{Loss, takes_out, is_lost, left_of}
use Rattle.hc_memory.specs.Item.{Item}
use Rattle.hc_memory.specs.Memory.{linked_at}
use Rattle.hc_history.specs.Books.{Entry, is_held, entry_at}
use Rattle.hc_invariant.specs.Standing.{map_of, Placed}
use Rattle.hc_invariant.proofs.Placing.{placed_eq, map_lost, unclean, map_linked}
use Rattle.hc_invariant.proofs.Frames.{left-is}
use Rattle.hc_proof.specs.losses.Losses.{lost, unmarked, covered, covered_item, AllTakeOut, entry_lost, unmarked_if, covered_some, Left, IsOwn, IsOwnItem, LossesPlace}
use Rattle.hc_proof.proofs.losses.LossAtKey.{placed_lost, map_small_held, map_large_held}
use Rattle.hc_proof.proofs.losses.BooksPass.{map_lost_by}
use Rattle.hc_proof.proofs.losses.CleanMarks.{items_lost, own-linked}

-- one of them covers this key with a value of this length
abbrev pub covers_any : Option FlashConfig → List Loss → List ℕ → ℕ → Bool
covers_any flash losses key len = list_any (λ (one : Loss). loss.covers flash one.scope key len) losses

-- what is taken out of an engine is what is covered
taken_step : (t c r : Bool) → t ≡ true → ((t && c) || r) ≡ (c || r)
taken_step t c r e = grind arith

pub lost-is : (flash : FlashConfig) (losses : List Loss) (e : FlashEntry) → AllTakeOut losses → is_lost flash losses e ≡ covers_any (Some flash) losses e.key (length e.value)
lost-is flash [] e out = refl
lost-is flash (one ∷ losses) e out =
    taken_step (takes_out one.cause) (loss.covers (Some flash) one.scope e.key (length e.value)) (is_lost flash losses e) out.0
    ∙ ap (λ r. loss.covers (Some flash) one.scope e.key (length e.value) || r) (lost-is flash losses e out.1)

abbrev pub lost_some : FlashConfig → List Loss → Option FlashEntry → Bool
lost_some flash losses None = false
lost_some flash losses (Some e) = is_lost flash losses e

left-if : (flash : FlashConfig) (losses : List Loss) (o : Option FlashEntry) → left_of flash losses o ≡ (if lost_some flash losses o then None else o)
left-if flash losses None = refl
left-if flash losses (Some e) = refl

-- what an engine holds of the key is lost where the losses cover the key, if the map has just that
lost_as : (flash : FlashConfig) (losses : List Loss) (key : List ℕ) (e : FlashEntry) (m : Option Entry) → AllTakeOut losses → e.key ≡ key → m ≡ Some (map_of e) → is_lost flash losses e ≡ covered (Some flash) losses key m
lost_as flash losses key e m out own is = lost-is flash losses e out ∙ ap (λ (k : List ℕ). covers_any (Some flash) losses k (length e.value)) own ∙ sym (ap (covered (Some flash) losses key) is)

small_as : (flash : FlashConfig) (losses : List Loss) (key : List ℕ) (i : Option Item) (q w s l : Option FlashEntry) (m : Option Entry) (b : Bool) → AllTakeOut losses → IsOwn key s → Placed i q w b s l m
    → b ≡ false → is_some s ≡ true → lost_some flash losses s ≡ covered (Some flash) losses key m
small_as flash losses key i q w None l m b out own p e some = absurd cc
small_as flash losses key i q w (Some x) l m true out own p e some = absurd cc
small_as flash losses key i q w (Some x) l m false out own p e some = lost_as flash losses key x m out own (map_small_held i q w l m x p)

large_as : (flash : FlashConfig) (losses : List Loss) (key : List ℕ) (i : Option Item) (q w s l : Option FlashEntry) (m : Option Entry) (b : Bool) → AllTakeOut losses → IsOwn key l → Placed i q w b s l m
    → is_some l ≡ true → lost_some flash losses l ≡ covered (Some flash) losses key m
large_as flash losses key i q w s None m b out own p some = absurd cc
large_as flash losses key i q w s (Some x) m b out own p some = lost_as flash losses key x m out own (map_large_held i q w s m b x p)

-- an item loses its mark where the losses cover its key
item_as : (flash : FlashConfig) (losses : List Loss) (key : List ℕ) (i : Option Item) (q w s l : Option FlashEntry) (m : Option Entry) (b : Bool) → IsOwnItem key i → Placed i q w b s l m
    → unmarked_if (covered_some (Some flash) losses i) i ≡ (if covered (Some flash) losses key m then unclean i else i)
item_as flash losses key None q w s l m b own p = both (covered (Some flash) losses key m)
  where
    both : (c : Bool) → ◌≡◌ {A = Option Item} None (if c then None else None)
    both true = refl
    both false = refl
item_as flash losses key (Some x) q w s l m b own p =
    let same : covered_item (Some flash) losses x ≡ covered (Some flash) losses key m = ap (λ (k : List ℕ). covers_any (Some flash) losses k (length x.value)) own ∙ sym (ap (covered (Some flash) losses key) (map_linked x q w s l m b p)) in
    ap (λ c. unmarked_if c (Some x)) same ∙ both (covered (Some flash) losses key m)
  where
    both : (c : Bool) → unmarked_if c (Some x) ≡ (if c then unclean (Some x) else Some x)
    both true = refl
    both false = refl

none_covered : (flash : FlashConfig) (losses : List Loss) (key : List ℕ) → covered (Some flash) losses key None ≡ false
none_covered flash [] key = refl
none_covered flash (one ∷ losses) key = none_covered flash losses key

place_all : (flash : FlashConfig) (losses : List Loss) (key : List ℕ) (i : Option Item) (q w s l : Option FlashEntry) (m : Option Entry) (b held : Bool) (w2 s2 l2 : Option FlashEntry) (b2 : Bool)
    → AllTakeOut losses → IsOwnItem key i → IsOwn key s → IsOwn key l → held ≡ (is_some i || is_some q) → Left flash losses key m w s l b w2 s2 l2 b2 → Placed i q w b s l m
    → Placed (unmarked_if (covered_some (Some flash) losses i) i) q w2 b2 s2 l2 (entry_lost (covered (Some flash) losses key m) held m)
place_all flash losses key i q w s l m b held w2 s2 l2 b2 out oi os ol h left p =
    let gone = covered (Some flash) losses key m in
    let gs = lost_some flash losses s in
    let gl = lost_some flash losses l in
    let small : s2 ≡ (if gs then None else s) = left.small ∙ left-if flash losses s in
    let large : l2 ≡ (if gl then None else l) = left.large ∙ left-if flash losses l in
    let bare : left.raised ≡ true → b ≡ true → (is_some (if left.ends then None else w) ≡ false) × (is_some (if gs then None else s) ≡ false) = λ r t. (ap (λ (o : Option FlashEntry). is_some o) (sym left.written) ∙ (left.bare r t).0, ap (λ (o : Option FlashEntry). is_some o) (sym small) ∙ (left.bare r t).1) in
    let nothing : m ≡ None → gone ≡ false = λ e. ap (covered (Some flash) losses key) e ∙ none_covered flash losses key in
    let after = placed_lost i q w s l m b gone left.ends gs gl left.raised p left.goes (small_as flash losses key i q w s l m b out os p) (large_as flash losses key i q w s l m b out ol p) bare nothing in
    placed_eq (if gone then unclean i else i) (unmarked_if (covered_some (Some flash) losses i) i) q q (if left.ends then None else w) w2 (b && not left.raised) b2 (if gs then None else s) s2 (if gl then None else l) l2 (if gone then map_lost i q m else m) (entry_lost gone held m)
    (item_as flash losses key i q w s l m b oi p) refl left.written left.stone small large (left-is i q m gone held h) after

pub losses_place : LossesPlace
losses_place flash losses older memory key q w s l b w2 s2 l2 b2 mf out held os ol left p =
    let i = linked_at key memory.pools in
    let m = entry_at (Some flash) older key in
    let after = place_all flash losses key i q w s l m b (is_held older key) w2 s2 l2 b2 out (own-linked key memory.pools) os ol held left p in
    let item : linked_at key (unmarked losses memory).pools ≡ unmarked_if (covered_some (Some flash) losses i) i = items_lost losses memory key ∙ ap (λ (f : Option FlashConfig). unmarked_if (covered_some f losses i) i) mf in
    placed_eq (unmarked_if (covered_some (Some flash) losses i) i) (linked_at key (unmarked losses memory).pools) q q w2 w2 b2 b2 s2 s2 l2 l2 (entry_lost (covered (Some flash) losses key m) (is_held older key) m) (entry_at (Some flash) (lost losses older) key)
    item refl refl refl refl refl (map_lost_by (Some flash) losses older key) after
