-- What losses take out.
use Rattle.std.proofs.Common.{◌≡◌, ℕ, Bool, true, false, ◌&&◌, ◌==◌, List, [], ◌∷◌, ◌++◌, Option, Some, None, refl, sym, arith, ap, ◌∙◌, nat_eq, nat_lt, ◌+◌, length}
use Rattle.std.specs.Prelude.{if◌then◌else◌}
use Rattle.hc_bucket.proofs.Numbers.{some_is}
use Rattle.std.proofs.lemmas.Bool.{eq-eqb}
use Rattle.std.specs.Cmp.Lexicographic.{pointwise}
use Rattle.hc_types.specs.declared.config.FlashConfig.{FlashConfig}
use Rattle.hc_types.specs.Loss.{Bucket, Fault}
use Rattle.hc_types.specs.Places.{bucket_at, is_small_by}
use Rattle.hc_types.specs.FlashEntry.{FlashEntry}
use Rattle.hc_bucket.specs.Page.{used}
use Rattle.std.specs.Str.{bytes_eq}
use Rattle.hc_engines.specs.Engine.{Put, Delete, Over, Loss, is_lost, left_of, changed}
use Rattle.hc_engines.specs.small.Entries.{under, without, pushed_out, staying, page_put, full_losses, put_losses, size_of}
use Rattle.hc_engines.specs.small.Held.{AllOwn}
use Rattle.hc_engines.proofs.Keys.{key_tests, same-true, same-swap}
use Rattle.hc_engines.proofs.small.Under.{Differ, has, has-there, under-key, under-without, under-page_put}

-- the loss of a bucket
abbrev pub bucket_loss : ℕ → List Loss
bucket_loss bucket = record { scope = Bucket bucket; cause = Fault } ∷ []

-- these losses take out nothing of another bucket
abbrev pub Within : FlashConfig → ℕ → List Loss → Type 0
Within flash bucket losses = (x : FlashEntry) → (bucket_at flash x.key == bucket) ≡ false → is_lost flash losses x ≡ false

pub left-none : (flash : FlashConfig) (o : Option FlashEntry) → left_of flash [] o ≡ o
left-none flash None = refl
left-none flash (Some e) = refl

pub left-kept : (flash : FlashConfig) (losses : List Loss) (e : FlashEntry) → is_lost flash losses e ≡ false → left_of flash losses (Some e) ≡ Some e
left-kept flash losses e h = rw h refl

pub left-lost : (flash : FlashConfig) (losses : List Loss) (e : FlashEntry) → is_lost flash losses e ≡ true → left_of flash losses (Some e) ≡ None
left-lost flash losses e h = rw h refl

-- ---- the losses of a put

pub lost-full : (flash : FlashConfig) (gone : List FlashEntry) (x : FlashEntry) → is_lost flash (full_losses gone) x ≡ has x.key gone
lost-full flash [] x = refl
lost-full flash (g ∷ gone) x = cases (pointwise nat_eq g.key x.key) refl (lost-full flash gone x)
  where
    cases : (t : Bool) → pointwise nat_eq g.key x.key ≡ t → is_lost flash (full_losses gone) x ≡ has x.key gone → is_lost flash (full_losses (g ∷ gone)) x ≡ has x.key (g ∷ gone)
    cases true p more = rw p refl
    cases false p more = rw p more

own-without : (flash : FlashConfig) (bucket : ℕ) (key : List ℕ) (es : List FlashEntry) → AllOwn flash bucket es → AllOwn flash bucket (without key es)
own-without flash bucket key [] own = tt
own-without flash bucket key (e ∷ es) own = cases (bytes_eq e.key key) refl (own-without flash bucket key es own.2)
  where
    cases : (t : Bool) → bytes_eq e.key key ≡ t → AllOwn flash bucket (without key es) → AllOwn flash bucket (without key (e ∷ es))
    cases true p rest = rw p rest
    cases false p rest = rw p (own.0, own.1, rest)

own-staying : (flash : FlashConfig) (bucket size : ℕ) (e : FlashEntry) (es : List FlashEntry) → AllOwn flash bucket es → AllOwn flash bucket (staying size e es)
own-staying flash bucket size e [] own = tt
own-staying flash bucket size e (x ∷ es) own = cases (nat_lt size (used (x ∷ es) + size_of e)) refl (own-staying flash bucket size e es own.2)
  where
    cases : (t : Bool) → nat_lt size (used (x ∷ es) + size_of e) ≡ t → AllOwn flash bucket (staying size e es) → AllOwn flash bucket (staying size e (x ∷ es))
    cases true p rest = rw p rest
    cases false p rest = rw p own

own-pushed : (flash : FlashConfig) (bucket size : ℕ) (e : FlashEntry) (es : List FlashEntry) → AllOwn flash bucket es → AllOwn flash bucket (pushed_out size e es)
own-pushed flash bucket size e [] own = tt
own-pushed flash bucket size e (x ∷ es) own = cases (nat_lt size (used (x ∷ es) + size_of e)) refl (own-pushed flash bucket size e es own.2)
  where
    cases : (t : Bool) → nat_lt size (used (x ∷ es) + size_of e) ≡ t → AllOwn flash bucket (pushed_out size e es) → AllOwn flash bucket (pushed_out size e (x ∷ es))
    cases true p rest = rw p (own.0, own.1, rest)
    cases false p rest = rw p tt

own-push : (flash : FlashConfig) (bucket : ℕ) (es : List FlashEntry) (e : FlashEntry) → AllOwn flash bucket es → is_small_by flash e.key (length e.value) ≡ true → bucket_at flash e.key ≡ bucket → AllOwn flash bucket (es ++ e ∷ [])
own-push flash bucket [] e own small here = (small, here, tt)
own-push flash bucket (x ∷ es) e own small here = (own.0, own.1, own-push flash bucket es e own.2 small here)

pub own_put : (flash : FlashConfig) (bucket size : ℕ) (e : FlashEntry) (es : List FlashEntry) → AllOwn flash bucket es → is_small_by flash e.key (length e.value) ≡ true → bucket_at flash e.key ≡ bucket
    → AllOwn flash bucket (page_put size e es)
own_put flash bucket size e es own small here = own-push flash bucket (staying size e (without e.key es)) e (own-staying flash bucket size e (without e.key es) (own-without flash bucket e.key es own)) small here

pub own_without : (flash : FlashConfig) (bucket : ℕ) (key : List ℕ) (es : List FlashEntry) → AllOwn flash bucket es → AllOwn flash bucket (without key es)
own_without = own-without

-- what is found in a bucket is small, and of that bucket
pub own_under : (flash : FlashConfig) (bucket : ℕ) (key : List ℕ) (es : List FlashEntry) (x : FlashEntry) → AllOwn flash bucket es → under key es ≡ Some x → (is_small_by flash x.key (length x.value) ≡ true) × (bucket_at flash x.key ≡ bucket)
own_under flash bucket key [] x own h = absurd (cc)
own_under flash bucket key (e ∷ es) x own h = cases (bytes_eq e.key key) refl (own_under flash bucket key es x own.2)
  where
    cases : (t : Bool) → bytes_eq e.key key ≡ t → (under key es ≡ Some x → (is_small_by flash x.key (length x.value) ≡ true) × (bucket_at flash x.key ≡ bucket)) → (is_small_by flash x.key (length x.value) ≡ true) × (bucket_at flash x.key ≡ bucket)
    cases true p more = let here : Some e ≡ Some x = rw p at h in let same : e ≡ x = some_is e x here in (ap (λ (y : FlashEntry). is_small_by flash y.key (length y.value)) (sym same) ∙ own.0, ap (λ (y : FlashEntry). bucket_at flash y.key) (sym same) ∙ own.1)
    cases false p more = more (rw p at h)

within_full : (flash : FlashConfig) (bucket : ℕ) (gone : List FlashEntry) → AllOwn flash bucket gone → (x : FlashEntry) → (bucket_at flash x.key == bucket) ≡ false → has x.key gone ≡ false
within_full flash bucket [] own x h = refl
within_full flash bucket (g ∷ gone) own x h = cases (bytes_eq g.key x.key) refl (within_full flash bucket gone own.2 x h)
  where
    cases : (t : Bool) → bytes_eq g.key x.key ≡ t → has x.key gone ≡ false → has x.key (g ∷ gone) ≡ false
    cases true p more = let e : (bucket_at flash x.key == bucket) ≡ true = eq-eqb _ _ (ap (bucket_at flash) (sym (same-true g.key x.key p)) ∙ own.1) in absurd (cc (e, h))
    cases false p more = rw p more

pub within_put : (flash : FlashConfig) (bucket size : ℕ) (e : FlashEntry) (es : List FlashEntry) → AllOwn flash bucket es → Within flash bucket (put_losses size e es)
within_put flash bucket size e es own = λ x h. lost-full flash (pushed_out size e (without e.key es)) x ∙ within_full flash bucket (pushed_out size e (without e.key es)) (own-pushed flash bucket size e (without e.key es) (own-without flash bucket e.key es own)) x h

pub within_none : (flash : FlashConfig) (bucket : ℕ) → Within flash bucket []
within_none flash bucket = λ x h. refl

and-false : (a : Bool) → (a && false) ≡ false
and-false true = refl
and-false false = refl

pub within_bucket : (flash : FlashConfig) (bucket : ℕ) → Within flash bucket (bucket_loss bucket)
within_bucket flash bucket = λ x h. rw h (rw (and-false (is_small_by flash x.key (length x.value))) refl)

-- ---- what a bucket answers, at its keys

-- after a put
put_at : (flash : FlashConfig) (size : ℕ) (e : FlashEntry) (es : List FlashEntry) (key : List ℕ) (o : Option FlashEntry) (t : Bool) → under key es ≡ o → bytes_eq e.key key ≡ t → Differ es
    → under key (page_put size e es) ≡ left_of flash (put_losses size e es) (if t then Some e else o)
put_at flash size e es key o true p q d =
    let gone = pushed_out size e (without e.key es) in
    let never : has e.key gone ≡ false = grind (arith, key_tests, has-there e.key size e (without e.key es), under-without e.key e.key es) in
    under-page_put key size e es d ∙ rw (same-swap key e.key, q) (sym (left-kept flash (put_losses size e es) e (lost-full flash gone e ∙ never)))
put_at flash size e es key None false p q d =
    let g = has-there key size e (without e.key es) in
    under-page_put key size e es d ∙ rw (same-swap key e.key, q, p) (grind (arith, key_tests))
put_at flash size e es key (Some x) false p q d =
    let gone = pushed_out size e (without e.key es) in
    let same : x.key ≡ key = same-true x.key key (under-key key es x p) in
    let lost : is_lost flash (put_losses size e es) x ≡ has key gone = lost-full flash gone x ∙ ap (λ (k : List ℕ). has k gone) same in
    under-page_put key size e es d ∙ rw (same-swap key e.key, q, p) (rw lost refl)

pub put_changes : (flash : FlashConfig) (size : ℕ) (e : FlashEntry) (es : List FlashEntry) (key : List ℕ) → Differ es
    → under key (page_put size e es) ≡ left_of flash (put_losses size e es) (changed (Put e) Over key (under key es))
put_changes flash size e es key d = put_at flash size e es key (under key es) (bytes_eq e.key key) refl refl d

pub delete_changes : (flash : FlashConfig) (k : List ℕ) (es : List FlashEntry) (key : List ℕ) → under key (without k es) ≡ left_of flash [] (changed (Delete k) Over key (under key es))
delete_changes flash k es key = under-without k key es ∙ rw (same-swap key k) (sym (left-none flash (changed (Delete k) Over key (under key es))))
