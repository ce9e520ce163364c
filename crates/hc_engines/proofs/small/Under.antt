-- Entries under keys, after each change of a list.
use Rattle.std.proofs.Common.{◌≡◌, ℕ, Bool, true, false, List, [], ◌∷◌, ◌++◌, Option, Some, None, refl, arith, ◌∙◌, nat_eq}
use Rattle.std.specs.Prelude.{if◌then◌else◌, is_some}
use Rattle.std.specs.List.{list_any}
use Rattle.std.specs.Cmp.Lexicographic.{pointwise}
use Rattle.hc_types.specs.FlashEntry.{FlashEntry}
use Rattle.hc_bucket.specs.Page.{distinct}
use Rattle.std.specs.Str.{bytes_eq}
use Rattle.hc_engines.specs.small.Entries.{under, without, pushed_out, staying, page_put}
use Rattle.hc_engines.proofs.Keys.{key_tests, same-true}

-- no key stands twice
abbrev pub Differ : List FlashEntry → Type 0
Differ [] = Unit {0}
Differ (e ∷ es) = (under e.key es ≡ None) × Differ es

-- the keys that are pushed out
abbrev pub has : List ℕ → List FlashEntry → Bool
has k [] = false
has k (x ∷ xs) = if bytes_eq x.key k then true else has k xs

pub under-key : (k : List ℕ) (es : List FlashEntry) (e : FlashEntry) → under k es ≡ Some e → bytes_eq e.key k ≡ true
under-key k [] e h = absurd (cc)
under-key k (x ∷ es) e h = grind (arith, key_tests, under-key k es e)

pub under-without : (key k : List ℕ) (es : List FlashEntry) → under k (without key es) ≡ (if bytes_eq k key then None else under k es)
under-without key k [] = grind arith
under-without key k (e ∷ es) = grind (arith, key_tests, under-without key k es)

under-push : (k : List ℕ) (es : List FlashEntry) (e : FlashEntry) → under k es ≡ None → under k (es ++ e ∷ []) ≡ (if bytes_eq k e.key then Some e else None)
under-push k [] e h = grind (arith, key_tests)
under-push k (x ∷ es) e h = grind (arith, key_tests, under-push k es e)

under-push_some : (k : List ℕ) (es : List FlashEntry) (e x : FlashEntry) → under k es ≡ Some x → under k (es ++ e ∷ []) ≡ Some x
under-push_some k [] e v h = absurd (cc)
under-push_some k (x ∷ es) e v h = grind (arith, key_tests, under-push_some k es e v)

-- an entry is added whose key isn't there
pub under-added : (k : List ℕ) (es : List FlashEntry) (e : FlashEntry) → under e.key es ≡ None → under k (es ++ e ∷ []) ≡ (if bytes_eq k e.key then Some e else under k es)
under-added k es e h = go (under k es) refl
  where
    go : (o : Option FlashEntry) → under k es ≡ o → under k (es ++ e ∷ []) ≡ (if bytes_eq k e.key then Some e else under k es)
    go None p = rw p (under-push k es e p)
    go (Some v) p = rw (under-push_some k es e v p, p) (grind (arith, key_tests, same-true k e.key))

pub has-there : (k : List ℕ) (size : ℕ) (e : FlashEntry) (es : List FlashEntry) → has k (pushed_out size e es) ≡ true → is_some (under k es) ≡ true
has-there k size e [] h = absurd (cc)
has-there k size e (x ∷ es) h = grind (arith, key_tests, has-there k size e es)

pub under-staying : (k : List ℕ) (size : ℕ) (e : FlashEntry) (es : List FlashEntry) → Differ es → under k (staying size e es) ≡ (if has k (pushed_out size e es) then None else under k es)
under-staying k size e [] d = grind (arith, key_tests)
under-staying k size e (x ∷ es) d = grind (arith, key_tests, under-staying k size e es d.1, d.0, same-true x.key k, has-there k size e es)

pub Differ-without : (key : List ℕ) (es : List FlashEntry) → Differ es → Differ (without key es)
Differ-without key [] d = tt
Differ-without key (e ∷ es) d = grind (arith, key_tests, Differ-without key es d.1, under-without key e.key es)

pub Differ-staying : (size : ℕ) (e : FlashEntry) (es : List FlashEntry) → Differ es → Differ (staying size e es)
Differ-staying size e [] d = tt
Differ-staying size e (x ∷ es) d = grind (arith, key_tests, Differ-staying size e es d.1)

pub Differ-push : (e : FlashEntry) (es : List FlashEntry) → Differ es → under e.key es ≡ None → Differ (es ++ e ∷ [])
Differ-push e [] d h = (refl, tt)
Differ-push e (x ∷ es) d h = grind (arith, key_tests, Differ-push e es d.1, under-added x.key es e)

-- what a page answers after a put
pub under-page_put : (k : List ℕ) (size : ℕ) (e : FlashEntry) (es : List FlashEntry) → Differ es
    → under k (page_put size e es) ≡ (if bytes_eq k e.key then Some e else (if has k (pushed_out size e (without e.key es)) then None else under k es))
under-page_put k size e es d =
    let d2 = Differ-without e.key es d in
    let f = under-staying e.key size e (without e.key es) d2 in
    let g = under-staying k size e (without e.key es) d2 in
    let w = under-without e.key e.key es in
    let v = under-without e.key k es in
    let gone : under e.key (staying size e (without e.key es)) ≡ None = grind (arith, key_tests) in
    under-added k (staying size e (without e.key es)) e gone ∙ rw (g, v) (grind (arith, key_tests))

pub Differ-page_put : (size : ℕ) (e : FlashEntry) (es : List FlashEntry) → Differ es → Differ (page_put size e es)
Differ-page_put size e es d =
    let d2 = Differ-without e.key es d in
    let f = under-staying e.key size e (without e.key es) d2 in
    let w = under-without e.key e.key es in
    Differ-push e (staying size e (without e.key es)) (Differ-staying size e (without e.key es) d2) (grind (arith, key_tests))

-- ---- the page's own word for it

any-under : (key : List ℕ) (es : List FlashEntry) → list_any (λ other. pointwise nat_eq other.key key) es ≡ is_some (under key es)
any-under key [] = refl
any-under key (e ∷ es) = grind (arith, any-under key es)

none-under : (o : Option FlashEntry) → is_some o ≡ false → o ≡ None
none-under None h = refl
none-under (Some e) h = absurd (cc)

pub differ_from : (es : List FlashEntry) → distinct es ≡ true → Differ es
differ_from [] h = tt
differ_from (e ∷ es) h = let a = any-under e.key es in (none-under (under e.key es) (grind (arith, a, h)), differ_from es (grind (arith, a, h)))

pub distinct_from : (es : List FlashEntry) → Differ es → distinct es ≡ true
distinct_from [] d = refl
distinct_from (e ∷ es) d = let a = any-under e.key es in grind (arith, a, d.0, distinct_from es d.1)
