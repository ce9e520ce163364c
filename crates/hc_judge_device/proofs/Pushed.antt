-- Which entries a put pushes out.
use Rattle.std.proofs.Common.{◌≡◌, ℕ, suc, ◌-◌, ◌==◌, Bool, true, false, List, [], ◌∷◌, ◌++◌, length, get_or, Some, refl, ap, ◌∙◌, sym, arith}
use Rattle.std.specs.Prelude.{nat_lt}
use Rattle.std.specs.Str.{bytes_eq}
use Rattle.std.proofs.lemmas.Slice.Eq.{bytes_eq-Decides}
use Rattle.std.proofs.lemmas.Bool.{eqb-true}
use Rattle.hc_types.specs.declared.entry.Entry.{Entry}
use Rattle.hc_types.specs.FlashEntry.{FlashEntry, entry_of, entries_of}
use Rattle.hc_bucket.specs.Page.{used}
use Rattle.hc_bucket.specs.Putting.{from_key, last_of, entries_without, is_too_long}

-- an entry that is taken out isn't there
none_left : (key : List ℕ) (e : FlashEntry) (es : List FlashEntry) (t : Bool) → bytes_eq e.key key ≡ t → from_key key (entries_without key es) ≡ [] → from_key key (entries_without key (e ∷ es)) ≡ []
none_left key e es true is rest = rw is rest
none_left key e es false is rest = rw (is, is) rest

none : (key : List ℕ) (es : List FlashEntry) → from_key key (entries_without key es) ≡ []
none key [] = refl
none key (e ∷ es) = none_left key e es (bytes_eq e.key key) refl (none key es)

-- to take out another key's entry changes nothing of where the key's are
apart_here : (key other : List ℕ) (e : FlashEntry) (es : List FlashEntry) (s t : Bool) → bytes_eq e.key other ≡ s → bytes_eq e.key key ≡ t → bytes_eq key other ≡ false → from_key key (entries_without other es) ≡ entries_without other (from_key key es) → from_key key (entries_without other (e ∷ es)) ≡ entries_without other (from_key key (e ∷ es))
apart_here key other e es true true is here unlike rest =
    let same : e.key ≡ key = (bytes_eq-Decides e.key key).0 here in
    let both : bytes_eq e.key other ≡ false = ap (λ (k : List ℕ). bytes_eq k other) same ∙ unlike in
    absurd (cc)
apart_here key other e es true false is here unlike rest = rw (is, here) rest
apart_here key other e es false true is here unlike rest = rw (is, here, is) refl
apart_here key other e es false false is here unlike rest = rw (is, here) rest

apart : (key other : List ℕ) (es : List FlashEntry) → bytes_eq key other ≡ false → from_key key (entries_without other es) ≡ entries_without other (from_key key es)
apart key other [] unlike = refl
apart key other (e ∷ es) unlike = apart_here key other e es (bytes_eq e.key other) (bytes_eq e.key key) refl refl unlike (apart key other es unlike)

-- the first entry from the key's on is the key's
first_here : (key : List ℕ) (x e : FlashEntry) (es rest : List FlashEntry) (t : Bool) → bytes_eq x.key key ≡ t → (from_key key es ≡ e ∷ rest → bytes_eq e.key key ≡ true) → from_key key (x ∷ es) ≡ e ∷ rest → bytes_eq e.key key ≡ true
first_here key x e es rest true is later at =
    let all : x ∷ es ≡ e ∷ rest = rw is at at in
    let same : x ≡ e = cc in
    ap (λ (y : FlashEntry). bytes_eq y.key key) (sym same) ∙ is
first_here key x e es rest false is later at = later (rw is at at)

first : (key : List ℕ) (e : FlashEntry) (es rest : List FlashEntry) → from_key key es ≡ e ∷ rest → bytes_eq e.key key ≡ true
first key e [] rest at = absurd cc
first key e (x ∷ es) rest at = first_here key x e es rest (bytes_eq x.key key) refl (first key e es rest) at

too_long : (size : ℕ) (key : List ℕ) (e put : FlashEntry) (es rest : List FlashEntry) → bytes_eq key put.key ≡ false → e ∷ rest ≡ from_key key es → nat_lt size (used (entries_without put.key (e ∷ rest) ++ put ∷ [])) ≡ is_too_long size (from_key key (entries_without put.key es)) put
too_long size key e put es rest unlike at =
    let same : e.key ≡ key = (bytes_eq-Decides e.key key).0 (first key e es rest (sym at)) in
    let kept : bytes_eq e.key put.key ≡ false = ap (λ (k : List ℕ). bytes_eq k put.key) same ∙ unlike in
    rw (apart key put.key es unlike, ← at, kept) refl

-- the rest from the key's on, as the code has it
pub pushed : {A : Type 0} (size : ℕ) (key : List ℕ) (put : FlashEntry) (es : List FlashEntry) (rest : List (Entry A)) → bytes_eq key put.key ≡ false → (length rest == 0) ≡ false → entries_of rest ≡ from_key key es → nat_lt size (used (entries_without put.key (entries_of rest) ++ put ∷ [])) ≡ is_too_long size (from_key key (entries_without put.key es)) put
pushed size key put es [] unlike some at = absurd cc
pushed size key put es (e ∷ rest) unlike some at = too_long size key (entry_of e) put es (entries_of rest) unlike at

pub unfound : {A : Type 0} (size : ℕ) (key : List ℕ) (put : FlashEntry) (es : List FlashEntry) (rest : List (Entry A)) → bytes_eq key put.key ≡ false → (length rest == 0) ≡ true → entries_of rest ≡ from_key key es → false ≡ is_too_long size (from_key key (entries_without put.key es)) put
unfound size key put es [] unlike empty at = rw (apart key put.key es unlike, ← at) refl
unfound size key put es (e ∷ rest) unlike empty at = let zero : suc (length rest) ≡ 0 = eqb-true _ _ empty in absurd (omega arith)

-- the key's own put pushes nothing of it out
pub own : (size : ℕ) (key : List ℕ) (put : FlashEntry) (es : List FlashEntry) → bytes_eq key put.key ≡ true → false ≡ is_too_long size (from_key key (entries_without put.key es)) put
own size key put es same =
    let is : key ≡ put.key = (bytes_eq-Decides key put.key).0 same in
    rw (is, none put.key es) refl

-- the last entry, by its place
last_at : {A : Type 0} (e d : Entry A) (es : List (Entry A)) → last_of (entry_of e ∷ entries_of es) ≡ Some (entry_of (get_or (e ∷ es) (length es) d))
last_at e d [] = refl
last_at e d (x ∷ es) = last_at x d es

pub last_is : {A : Type 0} (put : Entry A) (es : List (Entry A)) → (length es == 0) ≡ false → put ≡ get_or es (length es - 1) put → last_of (entries_of es) ≡ Some (entry_of put)
last_is put [] some at = absurd cc
last_is put (e ∷ es) some at =
    let place : suc (length es) - 1 ≡ length es = omega arith in
    last_at e put es ∙ ap (λ (x : Entry _). Some (entry_of x)) (sym (at ∙ ap (λ (i : ℕ). get_or (e ∷ es) i put) place))
