-- One walk over a log.
use Rattle.std.proofs.Common.{◌≡◌, ℕ, suc, ◌+◌, ◌-◌, ◌<◌, ◌&&◌, Bool, true, List, [], ◌∷◌, ◌++◌, length, take, drop, get_or, replicate, map, drop-cons, append_assoc, add-one, arith, refl, sym, ap, ◌∙◌}
use Rattle.std.specs.List.{list_all}
use Rattle.hc_history.specs.Note.{Note}
use Rattle.hc_history.specs.Lawful.{past}
use Rattle.hc_client_records.specs.Records.{Entry, finished, finished_at}
use Rattle.hc_client_records.proofs.Past.{past-more}

-- one of those that are still to come is there
pub one-more : {X : Type 0} (x : X) (xs : List X) (n i : ℕ) → i < n → (xs ++ x ∷ []) ++ replicate (n - (i + 1)) x ≡ xs ++ replicate (n - i) x
one-more x [] n i lt = let e : n - i ≡ suc (n - (i + 1)) = omega (arith, lt) in rw e refl
one-more {X} x (y ∷ ys) n i lt = ap (λ (zs : List X). y ∷ zs) (one-more x ys n i lt)

-- what a search finds behind a note more
pub book-more : {X : Type 0} (search : List Note → X) (now : X) (log : List Note) (i : ℕ) (note : Note) → i < length log → note ≡ get_or log i note → now ≡ search (note ∷ past [] (take i log)) → now ≡ search (past [] (take (i + 1) log))
book-more search now log i note h at e = e ∙ ap search (sym (past-more log i note h at))

-- the calls of a client behind a note more, with those that the rest finishes
pub finished-more : (client : ℕ) (log : List Note) (i : ℕ) (note : Note) (was now : List Entry) → i < length log → note ≡ get_or log i note → now ≡ was ++ finished_at client (past [] (take i log)) note
    → now ++ finished client (past [] (take (i + 1) log)) (drop (i + 1) log) ≡ was ++ finished client (past [] (take i log)) (drop i log)
finished-more client log i note was now h at e =
    let cut : drop i log ≡ note ∷ drop (i + 1) log = rw add-one (drop-cons log i note h) ∙ ap (λ (n : Note). n ∷ drop (i + 1) log) (sym at) in
    let here : now ++ finished client (past [] (take (i + 1) log)) (drop (i + 1) log) ≡ (was ++ finished_at client (past [] (take i log)) note) ++ finished client (note ∷ past [] (take i log)) (drop (i + 1) log) = (λ j. e j ++ finished client (past-more log i note h at j) (drop (i + 1) log)) in
    here ∙ append_assoc was (finished_at client (past [] (take i log)) note) (finished client (note ∷ past [] (take i log)) (drop (i + 1) log)) ∙ ap (λ (notes : List Note). was ++ finished client (past [] (take i log)) notes) (sym cut)

-- one more passes
pub all-more : {S X : Type 0} (test : X → Bool) (view : S → X) (xs : List S) (i : ℕ) (x : S) (answer : Bool) → i < length xs → x ≡ get_or xs i x → answer ≡ test (view x) → answer ≡ true
    → list_all test (map view (drop (i + 1) xs)) ≡ list_all test (map view (drop i xs))
all-more {S} {X} test view xs i x answer h at e passes =
    let cut : drop i xs ≡ x ∷ drop (i + 1) xs = rw add-one (drop-cons xs i x h) ∙ ap (λ (y : S). y ∷ drop (i + 1) xs) (sym at) in
    sym (ap (λ (ys : List S). list_all test (map view ys)) cut ∙ ap (λ (b : Bool). b && list_all test (map view (drop (i + 1) xs))) (sym e ∙ passes))
