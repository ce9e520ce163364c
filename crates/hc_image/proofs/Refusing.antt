-- What is refused stays refused, by the same name, whatever would be made of it.
use Rattle.std.proofs.Common.{inl, inr, ◌≡◌, Bool, true, false, ◌&&◌, Option, Some, None, ap, ◌∙◌}
use Rattle.std.specs.Prelude.{Result, Ok, Err, ok_or, not, if◌then◌else◌}
use Rattle.std.specs.Result.{result_err, result_ok}
use Rattle.std.proofs.lemmas.Bool.{and_from, and_left, and_right, not_from_false}
use Rattle.std.proofs.lemmas.Option.{same_Some}
use Rattle.hc_image.specs.Loading.{Gathered, Filling, gathering}
use Rattle.hc_image.specs.Refusing.{follow, made, read, IsWhy, IsUnfit}
use Rattle.hc_image.specs.declared.refusal.Refusal.{Refusal}
use Rattle.hc_image.specs.declared.refusal.Refusal.TheVariants.{NotWhole}

pub unread : {X Y Z : Type 0} (o : Option X) (f : X → Y) (more : Y → Result Z Refusal) (why : Refusal) → IsWhy (ok_or o NotWhole) why → IsWhy (follow more (read f o)) why
unread o f more why (inl e) = inl e
unread None f more why (inr e) = inr (ap (λ w. Err w) (same_Some NotWhole why (ap result_err e)))
unread (Some x) f more why (inr e) = absurd cc

pub unmade : {X Y : Type 0} (f : X → Y) (r : Result X Refusal) (why : Refusal) → IsWhy r why → IsWhy (made f r) why
unmade f r why (inl e) = inl e
unmade f (Err other) why (inr e) = inr (ap (λ w. Err w) (same_Some other why (ap result_err e)))
unmade f (Ok x) why (inr e) = absurd cc

-- what came so far, where it is still gathered
pub still_gathered : (r : Result Gathered Refusal) (g : Option Gathered) → made Some r ≡ Ok g → made gathering r ≡ Ok (record { gathered = g; filling = None })
still_gathered (Err why) g e = absurd cc
still_gathered (Ok x) g e = ap (λ (o : Option Gathered). Ok (record { gathered = o; filling = None })) (same_Some (Some x) g (ap result_ok e))

pub unfit_left : (a b : Bool) (why : Refusal) → IsUnfit a why → IsUnfit (a && b) why
unfit_left a b why (inl e) = inl e
unfit_left a b why (inr e) = inr (e.0, and_left a b e.1)

pub unfit_right : (a b : Bool) (why : Refusal) → IsUnfit b why → IsUnfit (a && b) why
unfit_right a b why (inl e) = inl e
unfit_right a b why (inr e) = inr (e.0, and_right a b e.1)

-- an image that came whole
pub finished_by : (broken ended : Bool) (r : Result Filling Refusal) (f : Filling) → ended ≡ true → broken ≡ false → r ≡ Ok f → (if not broken && ended then r else Err NotWhole) ≡ Ok f
finished_by broken ended r f whole sound e = ap (λ b. if b then r else Err NotWhole) (and_from (not broken) ended (not_from_false broken sound) whole) ∙ e
