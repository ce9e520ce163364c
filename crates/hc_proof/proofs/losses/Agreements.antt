-- The engines' words and those of a legal log.
use Rattle.std.proofs.Common.{◌≡◌, ℕ, ◌/◌, ◌%◌, ◌^◌, ◌<◌, ◌≤◌, ◌==◌, min, max, Bool, true, false, ◌&&◌, ◌||◌, List, [], ◌∷◌, ◌++◌, Option, Some, None, refl, arith, ap, sym, ◌∙◌, subst}
use Rattle.std.specs.Prelude.{if◌then◌else◌, is_some, bit_or, bit_and}
use Rattle.std.specs.List.{list_any, list_all}
use Rattle.std.specs.Str.{bytes_eq}
use Rattle.std.specs.Int.{bit_at}
use Rattle.std.proofs.lemmas.Nat.Bits.{bit_at_or, bit_at_and, bit_at-zero, bit_at-lt, bit_at-pow_same, bit_at-pow_other, same_from_bits}
use Rattle.std.proofs.lemmas.Bool.{eq-eqb, eqb-true}
use Rattle.hc_types.specs.Config.{Config}
use Rattle.hc_types.specs.Fnv.{fnv_1a}
use Rattle.hc_types.specs.Loss as loss
use Rattle.hc_types.specs.Places.{kept_of, bucket_at}
use Rattle.hc_types.specs.declared.config.FlashConfig.{FlashConfig}
use Rattle.hc_types.specs.FlashEntry.{FlashEntry}
use Rattle.hc_bucket.specs.Page.{page_bytes}
use Rattle.hc_bucket.proofs.Pages.{page_again}
use Rattle.hc_machine.proofs.items.Same.{eqb-same}
use Rattle.hc_engines.specs.Engine.{Loss}
use Rattle.hc_engines.specs.small.Bloom.{bit_of, bits_of_hash as number_bits_of_hash, bits_of as number_bits_of, word_of, could_have}
use Rattle.hc_engines.specs.small.BigHash.{tells, word_at}
use Rattle.hc_engines.specs.small.Entries.{under, without, staying, page_put, put_losses}
use Rattle.hc_engines.specs.small.Held as small
use Rattle.hc_engines.specs.small.Held.{PageFits, AllPushedOut}
use Rattle.hc_engines.proofs.small.Full.{full_is_true}
use Rattle.hc_engines.proofs.small.Holding.{bucket_word}
use Rattle.hc_history.specs.Note.{Note, Wrote, Lose}
use Rattle.hc_history.specs.Pages.{has_key, bucket_entries, bytes_at, listed, entries_in}
use Rattle.hc_bucket.specs.Bloom.{bits_of_hash, bits_of, has_bit, word_has}
use Rattle.hc_history.specs.Lawful.{IsTrueCause, IsPushedOut}
use Rattle.hc_bucket.specs.Putting.{last_of, is_pushed_out}
use Rattle.hc_machine.specs.Nvm.{Nvm}
use Rattle.hc_machine.specs.Takes.{loss_notes}
use Rattle.hc_invariant.specs.Good.{EnginesFit}
use Rattle.hc_invariant.specs.Laws.{LawfulIn}
use Rattle.hc_proof.specs.losses.Agreements.{WordIs, DueIs, FullIsLawful}

-- ---- bits

-- whether a number has a bit
abbrev has : ℕ → ℕ → Bool
has n i = bit_at n i == 1

has_or : (a b i : ℕ) → has (bit_or a b) i ≡ (has a i || has b i)
has_or a b i = let e = bit_at_or a b i in let x = bit_at-lt a i in let y = bit_at-lt b i in plain (bit_at (bit_or a b) i) (bit_at a i) (bit_at b i) e x y
  where
    plain : (c x y : ℕ) → c ≡ max x y → x < 2 → y < 2 → (c == 1) ≡ ((x == 1) || (y == 1))
    plain c x y e p q = grind arith

has_and : (a b i : ℕ) → has (bit_and a b) i ≡ (has a i && has b i)
has_and a b i = let e = bit_at_and a b i in let x = bit_at-lt a i in let y = bit_at-lt b i in plain (bit_at (bit_and a b) i) (bit_at a i) (bit_at b i) e x y
  where
    plain : (c x y : ℕ) → c ≡ min x y → x < 2 → y < 2 → (c == 1) ≡ ((x == 1) && (y == 1))
    plain c x y e p q = grind arith

has_pow : (k i : ℕ) → has (2 ^ k) i ≡ (k == i)
has_pow k i = cases (k == i) refl
  where
    cases : (t : Bool) → (k == i) ≡ t → has (2 ^ k) i ≡ t
    cases true e = subst (λ (j : ℕ). has (2 ^ k) j ≡ true) (eqb-true k i e) (rw (bit_at-pow_same k) refl)
    cases false e = rw (bit_at-pow_other k i (λ s. let t : (k == i) ≡ true = eq-eqb k i (sym s) in absurd (cc (t, e)))) refl

-- two numbers with the same bits are one
same_has : (a b : ℕ) → ((i : ℕ) → has a i ≡ has b i) → a ≡ b
same_has a b h = same_from_bits a b (λ i. plain (bit_at a i) (bit_at b i) (bit_at-lt a i) (bit_at-lt b i) (h i))
  where
    plain : (x y : ℕ) → x < 2 → y < 2 → (x == 1) ≡ (y == 1) → x ≡ y
    plain x y p q e = grind arith

-- the bits of a hash are the four that it names
or_again : (a b c d : Bool) → (((a || b) || c) || d) ≡ (a || (b || (c || (d || false))))
or_again a b c d = grind arith

over_one : (n : ℕ) → n / 1 ≡ n
over_one n = omega arith

hash_bits : (hash i : ℕ) → has (number_bits_of_hash hash) i ≡ list_any (λ other. other == i) (bits_of_hash hash)
hash_bits hash i =
    let a = bit_of hash 0 in
    let b = bit_of hash 1 in
    let c = bit_of hash 2 in
    let d = bit_of hash 3 in
    let first : has a i ≡ (hash % 64 == i) = has_pow ((hash / 1) % 64) i ∙ ap (λ n. n % 64 == i) (over_one hash) in
    has_or (bit_or (bit_or a b) c) d i
    ∙ ap (λ t. t || has d i) (has_or (bit_or a b) c i)
    ∙ ap (λ t. (t || has c i) || has d i) (has_or a b i)
    ∙ (λ j. ((first j || has_pow ((hash / 2 ^ 8) % 64) i j) || has_pow ((hash / 2 ^ 16) % 64) i j) || has_pow ((hash / 2 ^ 24) % 64) i j)
    ∙ or_again (hash % 64 == i) ((hash / 2 ^ 8) % 64 == i) ((hash / 2 ^ 16) % 64 == i) ((hash / 2 ^ 24) % 64 == i)

key_bits : (key : List ℕ) (i : ℕ) → has (number_bits_of key) i ≡ list_any (λ other. other == i) (bits_of key)
unfolding number_bits_of
key_bits key i = hash_bits (fnv_1a key) i

pub or_swap : (a b : Bool) → (a || b) ≡ (b || a)
or_swap a b = grind arith

word_bits : (es : List FlashEntry) (i : ℕ) → has (word_of es) i ≡ has_bit es i
word_bits [] i = rw (bit_at-zero i) refl
word_bits (e ∷ es) i = has_or (word_of es) (number_bits_of e.key) i ∙ (λ j. word_bits es i j || key_bits e.key i j) ∙ or_swap (has_bit es i) (list_any (λ other. other == i) (bits_of e.key))

-- ---- words

there_step : (f : ℕ → Bool) (p : ℕ) (ps : List ℕ) (i : ℕ) (t g : Bool) → (p == i) ≡ t → f p ≡ g → list_all f (p ∷ ps) ≡ true → list_any (λ other. other == i) (p ∷ ps) ≡ true
    → (list_all f ps ≡ true → list_any (λ other. other == i) ps ≡ true → f i ≡ true) → f i ≡ true
there_step f p ps i t false e h all any rest = let no_one : list_all f (p ∷ ps) ≡ false = rw h refl in absurd (cc (no_one, all))
there_step f p ps i true true e h all any rest = subst (λ (n : ℕ). f n ≡ true) (eqb-true p i e) h
there_step f p ps i false true e h all any rest = rest (rw h at all) (rw e at any)

all_there : (f : ℕ → Bool) (ps : List ℕ) (i : ℕ) → list_all f ps ≡ true → list_any (λ other. other == i) ps ≡ true → f i ≡ true
all_there f [] i all any = absurd cc
all_there f (p ∷ ps) i all any = there_step f p ps i (p == i) (f p) refl refl all any (all_there f ps i)

each_there : (f : ℕ → Bool) (ps : List ℕ) → ((i : ℕ) → list_any (λ other. other == i) ps ≡ true → f i ≡ true) → list_all f ps ≡ true
each_there f [] h = refl
each_there f (p ∷ ps) h =
    let here : f p ≡ true = h p (rw (eqb-same p) refl) in
    rw here (each_there f ps (λ i any. h i (more (p == i) (list_any (λ other. other == i) ps) any)))
  where
    more : (a b : Bool) → b ≡ true → (a || b) ≡ true
    more true b e = refl
    more false b e = e

either_way : (a b : Bool) → (a ≡ true → b ≡ true) → (b ≡ true → a ≡ true) → a ≡ b
either_way true b f g = sym (f refl)
either_way false true f g = g refl
either_way false false f g = refl

and_by : (a b : Bool) → (b ≡ true → a ≡ true) → (a && b) ≡ b
and_by true b f = refl
and_by false true f = f refl
and_by false false f = refl

and_first : (a b : Bool) → (a && b) ≡ b → b ≡ true → a ≡ true
and_first true b e t = refl
and_first false b e t = e ∙ t

pub word_is : WordIs
word_is es key = either_way (word_has es key) (could_have (word_of es) key) to from
  where
    to : word_has es key ≡ true → could_have (word_of es) key ≡ true
    to all = eq-eqb _ _ (same_has (bit_and (word_of es) (number_bits_of key)) (number_bits_of key) (λ i.
        has_and (word_of es) (number_bits_of key) i ∙ and_by (has (word_of es) i) (has (number_bits_of key) i) (λ t. word_bits es i ∙ all_there (has_bit es) (bits_of key) i all (sym (key_bits key i) ∙ t))))

    from : could_have (word_of es) key ≡ true → word_has es key ≡ true
    from could =
        let same : bit_and (word_of es) (number_bits_of key) ≡ number_bits_of key = eqb-true _ _ could in
        each_there (has_bit es) (bits_of key) (λ i any.
        sym (word_bits es i) ∙ and_first (has (word_of es) i) (has (number_bits_of key) i) (sym (has_and (word_of es) (number_bits_of key) i) ∙ ap (λ n. has n i) same) (key_bits key i ∙ any))

-- ---- the entries of a bucket

below : (flash : FlashConfig) (key : List ℕ) → 1 ≤ flash.buckets → bucket_at flash key < flash.buckets
below flash key some = plain (kept_of flash.bits key) flash.buckets some
  where
    plain : (k n : ℕ) → 1 ≤ n → k % n < n
    plain k n h = omega arith

-- the books' bucket of the key is the small engine's
pub bucket_is : (flash : FlashConfig) (older : List Note) (nvm : Nvm) (key : List ℕ) → EnginesFit flash older nvm → bucket_entries flash older (bucket_at flash key) ≡ small.bucket_entries nvm.pair.small (bytes_at older) (bucket_at nvm.pair.small.flash key)
bucket_is flash older nvm key g =
    let some : 1 ≤ flash.buckets = subst (λ (f : FlashConfig). 1 ≤ f.buckets) g.same g.small_fits.limits.some_bucket in
    g.buckets (bucket_at flash key) (below flash key some) ∙ ap (λ (f : FlashConfig). small.bucket_entries nvm.pair.small (bytes_at older) (bucket_at f key)) (sym g.same)

word_step : (flash : FlashConfig) (bucket : ℕ) (word : Option ℕ) (page : Option (List ℕ)) (key : List ℕ) → PageFits flash bucket word page → word_has (small.entries_at flash.page word page) key ≡ tells word key
word_step flash bucket None page key fits = refl
word_step flash bucket (Some word) page key fits = word_is (small.entries_in flash.page page) key ∙ ap (λ n. could_have n key) (sym (bucket_word flash bucket word page fits))

or_both : (a b c d : Bool) → a ≡ c → b ≡ d → (a || b) ≡ (c || d)
or_both a b c d e f = λ i. e i || f i

pub due_is : DueIs
due_is flash older nvm key g w =
    let bucket = bucket_at nvm.pair.small.flash key in
    or_both _ _ _ _ (ap (λ es. word_has es key) (bucket_is flash older nvm key g) ∙ word_step nvm.pair.small.flash bucket (word_at nvm.pair.small bucket) (bytes_at older bucket) key (g.small_fits.pages_fit bucket)) (w.writing key)

pub any_under : (key : List ℕ) (es : List FlashEntry) → has_key key es ≡ is_some (under key es)
any_under key [] = refl
any_under key (e ∷ es) = step (bytes_eq e.key key) (has_key key es) (under key es) (any_under key es)
  where
    step : (t b : Bool) (o : Option FlashEntry) → b ≡ is_some o → (t || b) ≡ is_some (if t then Some e else o)
    step true b o h = refl
    step false b o h = h

-- ---- lawful losses

-- behind this history each key that is pushed out may be lost, and so behind a loss
lawful_losses : (config : Config) (flash : FlashConfig) (size : ℕ) (x : FlashEntry) (es : List FlashEntry) (losses : List Loss) (older tail : List Note) → config.flash ≡ Some flash
    → ((key : List ℕ) → is_pushed_out size es (Some x) key ≡ true → IsPushedOut flash older key) → AllPushedOut size x es losses → LawfulIn config older (loss_notes losses) tail
lawful_losses config flash size x es [] older tail e h all = tt
lawful_losses config flash size x es (one ∷ losses) older tail e h all =
    let key = all.0.0 in
    let first : IsTrueCause config older (loss.Key key) loss.BucketFull (loss_notes losses ++ tail) = rw e (h key all.0.2) in
    (subst (λ (l : Loss). IsTrueCause config older l.scope l.cause (loss_notes losses ++ tail)) (sym all.0.1) first, lawful_losses config flash size x es losses (Lose one.scope one.cause ∷ older) tail e h all.1)

last_is : (es : List FlashEntry) (x : FlashEntry) → last_of (es ++ x ∷ []) ≡ Some x
last_is [] x = refl
last_is (e ∷ []) x = refl
last_is (e ∷ f ∷ es) x = last_is (f ∷ es) x

pub full_is_lawful : FullIsLawful
full_is_lawful config flash older tail page x es e lt same fits =
    let size = flash.page in
    let new = page_put size x es in
    let read : entries_in size (page_bytes size new) ≡ new = ap listed (page_again size new fits) in
    let last : last_of (entries_in size (page_bytes size new)) ≡ Some x = ap last_of read ∙ last_is (staying size x (without x.key es)) x in
    lawful_losses config flash size x es (put_losses size x es) (Wrote page (page_bytes size new) true ∷ older) tail e
    (λ key h. (lt, ap (λ was. is_pushed_out size was (last_of (entries_in size (page_bytes size new))) key) same ∙ ap (λ o. is_pushed_out size es o key) last ∙ h))
    (full_is_true size x es)
