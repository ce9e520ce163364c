-- What a put pushes out.
use Rattle.std.proofs.Common.{◌≡◌, ℕ, ◌+◌, ◌<◌, ◌≤◌, Bool, true, false, List, [], ◌∷◌, ◌++◌, refl, sym, ap, ◌∙◌, arith, nat_lt, append_assoc}
use Rattle.std.specs.Prelude.{if◌then◌else◌}
use Rattle.std.specs.Str.{bytes_eq}
use Rattle.hc_types.specs.FlashEntry.{FlashEntry}
use Rattle.hc_bucket.specs.Page.{used}
use Rattle.hc_bucket.specs.Putting.{from_key, is_too_long}
use Rattle.hc_engines.specs.small.Entries.{without, pushed_out, full_losses, size_of}
use Rattle.hc_engines.specs.small.Held.{AllPushedOut, FullIsTrue}
use Rattle.hc_engines.proofs.Keys.{same-refl}
use Rattle.hc_engines.proofs.small.Fitting.{used-cons, used-push}

more_used : (front back : List FlashEntry) → used back ≤ used (front ++ back)
more_used [] back = omega arith
more_used (x ∷ front) back = omega (arith, used-cons x (front ++ back), more_used front back)

less_is : (a b : ℕ) → a < b → nat_lt a b ≡ true
less_is a b h = grind (arith, h)

whole_long : (size : ℕ) (x : FlashEntry) (es : List FlashEntry) (put : FlashEntry) → size < used (x ∷ es) + size_of put → is_too_long size (x ∷ es) put ≡ true
whole_long size x es put h = less_is size (used ((x ∷ es) ++ put ∷ [])) (omega (arith, used-push (x ∷ es) put, h))

long_step : (size : ℕ) (key : List ℕ) (x : FlashEntry) (rest : List FlashEntry) (put : FlashEntry) (t : Bool) → size < used (x ∷ rest) + size_of put → (t ≡ false → is_too_long size (from_key key rest) put ≡ true) → is_too_long size (if t then x ∷ rest else from_key key rest) put ≡ true
long_step size key x rest put true h more = whole_long size x rest put h
long_step size key x rest put false h more = more refl

-- what stands behind an entry of this key and the entry that is put pass the page
too_long : (size : ℕ) (key : List ℕ) (put : FlashEntry) (front : List FlashEntry) (old : FlashEntry) (back : List FlashEntry) → bytes_eq old.key key ≡ true → size < used (old ∷ back) + size_of put → is_too_long size (from_key key (front ++ old ∷ back)) put ≡ true
too_long size key put [] old back e h = rw e (whole_long size old back put h)
too_long size key put (x ∷ front) old back e h =
    let room : size < used (x ∷ (front ++ old ∷ back)) + size_of put = omega (arith, h, used-cons x (front ++ old ∷ back), more_used front (old ∷ back)) in
    long_step size key x (front ++ old ∷ back) put (bytes_eq x.key key) room (λ f. too_long size key put front old back e h)

pushed : (size : ℕ) (x : FlashEntry) (es front rest : List FlashEntry) → without x.key es ≡ front ++ rest → AllPushedOut size x es (full_losses (pushed_out size x rest))
pushed size x es front [] parts = tt
pushed size x es front (old ∷ rest) parts = cases (nat_lt size (used (old ∷ rest) + size_of x)) refl (pushed size x es (front ++ old ∷ []) rest (parts ∙ sym (append_assoc front (old ∷ []) rest)))
  where
    cases : (t : Bool) → nat_lt size (used (old ∷ rest) + size_of x) ≡ t → AllPushedOut size x es (full_losses (pushed_out size x rest)) → AllPushedOut size x es (full_losses (pushed_out size x (old ∷ rest)))
    cases true p more =
        let passes : size < used (old ∷ rest) + size_of x = grind (arith, p) in
        let out : is_too_long size (from_key old.key (without x.key es)) x ≡ true = ap (λ xs. is_too_long size (from_key old.key xs) x) parts ∙ too_long size old.key x front old rest (same-refl old.key) passes in
        rw p ((old.key, refl, out), more)
    cases false p more = rw p tt

pub full_is_true : FullIsTrue
full_is_true size x es = pushed size x es [] (without x.key es) refl
