-- What is kept of the calls and ticks of records is theirs.
use Rattle.std.proofs.Common.{◌≡◌, inl, inr, ℕ, zero, suc, ◌<◌, ◌==◌, ◌&&◌, ◌||◌, Bool, true, false, List, [], ◌∷◌, length, get_or, map, refl, ap, subst, ◌∙◌, arith}
use Rattle.std.specs.List.{list_any}
use Rattle.std.proofs.lemmas.List.Folds.{list_any_at}
use Rattle.hc_client_records.specs.Records.{Entry, OpenCall, Record}
use Rattle.hc_client_records.specs.Judge.{op_eq, has_asked}
use Rattle.hc_client_records.specs.Walk.{IsAmong}
use Rattle.hc_client_records.proofs.Deciding.{any_decides, entry_asks, open_asks, asked_decides}

or_true : (b : Bool) → (b || true) ≡ true
or_true true = refl
or_true false = refl

-- a record is among all
pub among : {S : Type 0} (view : S → Record) (xs : List S) (i : ℕ) (x : S) → i < length xs → x ≡ get_or xs i x → IsAmong (view x) (map view xs)
among view [] i x lt at = absurd (omega arith)
among {S} view (y ∷ ys) zero x lt at = λ test t. let here : test (view y) ≡ true = subst (λ (z : S). test (view z) ≡ true) at t in ap (λ (b : Bool). b || list_any test (map view ys)) here
among view (y ∷ ys) (suc i) x lt at = λ test t. ap (λ (b : Bool). test (view y) || b) (among view ys i x (omega arith) at test t) ∙ or_true (test (view y))

-- a client asked what its answered call asked
pub asked-entry : (r : Record) (all : List Entry) (k : ℕ) (e : Entry) → all ≡ r.entries → k < length all → e ≡ get_or all k e → has_asked e.call r.client e.op r ≡ true
asked-entry r all k e is lt at =
    let test : Entry → Bool = (λ x. (x.call == e.call) && op_eq x.op e.op) in
    let here = subst (λ (x : Entry). test x ≡ true) at ((entry_asks e.call e.op e).1 (refl, refl)) in
    (asked_decides e.call r.client e.op r).1 (refl, inl ((any_decides test (λ (x : Entry). (x.call ≡ e.call) × (x.op ≡ e.op)) (entry_asks e.call e.op) r.entries).0 (subst (λ (es : List Entry). list_any test es ≡ true) is (list_any_at test all k e lt here))))

-- and what a call asked that it left open
pub asked-open : (r : Record) (all : List OpenCall) (k : ℕ) (o : OpenCall) → all ≡ r.open_calls → k < length all → o ≡ get_or all k o → has_asked o.call r.client o.op r ≡ true
asked-open r all k o is lt at =
    let test : OpenCall → Bool = (λ x. (x.call == o.call) && op_eq x.op o.op) in
    let here = subst (λ (x : OpenCall). test x ≡ true) at ((open_asks o.call o.op o).1 (refl, refl)) in
    (asked_decides o.call r.client o.op r).1 (refl, inr ((any_decides test (λ (x : OpenCall). (x.call ≡ o.call) × (x.op ≡ o.op)) (open_asks o.call o.op) r.open_calls).0 (subst (λ (os : List OpenCall). list_any test os ≡ true) is (list_any_at test all k o lt here))))
