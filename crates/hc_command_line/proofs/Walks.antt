-- What clap makes of at most two words behind the program's name.
use Rattle.std.proofs.Common.{◌≡◌, ◌∙◌, ◌≤◌, ◌+◌, ◌||◌, ◌==◌, ℕ, suc, Bool, true, false, List, [], ◌∷◌, ◌++◌, length, Option, Some, None, is_some, refl, sym, ap, ap₂, subst, arith, codes}
use Rattle.std.specs.Prelude.{MatchOption, drop, take, slice_get}
use Rattle.std.specs.List.{after_first, before_first, list_any, position_or_len}
use Rattle.std.specs.Str.{bytes_eq, chars}
use Rattle.std.proofs.lemmas.Slice.Eq.{bytes_eq-Decides}
use Rattle.std.proofs.lemmas.Bool.Decides.{nat_tests}
use Rattle.hc_command_line.specs.Asked.{is_dashes}
use Rattle.clap.specs.Lexer.{has_byte, long_of, name_and_value, short_of}
use Rattle.clap.specs.Kinds.{Kinds, or_else}
use Rattle.clap.specs.Walk.{bundle_met, idle, next, used, finished, settled, Held, Rule, Text, Walk, first_of, long_or_other, nothing_held, option, rows_after, short_or_plain, walk, walk_from, walked}
use Rattle.clap.specs.Simple.{App, Shape, built, entered, filled, matches_of, new_app, new_rule, on_top, with_rule}
use Rattle.clap.specs.Faults.{check_fault, defaults_fault, entered_fault, fault_of, flag_word_fault, flags_fault, settle_fault, step_fault, turn_fault, walk_fault}
use Rattle.clap.proofs.OnLiterals.{clap_on_literals}

-- `--clients N`
abbrev pub name : Text
name = codes "clients"

abbrev pub clients : Rule
clients = record (new_rule name) { long = Some name }

-- the command of which it is the only option
abbrev pub app : App
app = with_rule (on_top (λ s. record s { disable_help_flag = true }) (new_app (codes "hc_replay"))) clients

abbrev top : Shape
top = (built app).top

abbrev option_rule : Rule
option_rule = filled clients

same : (xs ys : Text) → bytes_eq xs ys ≡ true → xs ≡ ys
same xs ys e = (bytes_eq-Decides xs ys).0 e

-- ---- where a walk stands

abbrev start : Walk
start = walk_from nothing_held

-- the option was named, and waits for its number
abbrev named : Walk
named = record start { held = record nothing_held { pending = Some (name, []) }; waiting = option name }

-- and has this one
abbrev given : Text → Walk
given v = record start { held = record nothing_held { pending = Some (name, v ∷ []) } }

or_else-nil : (a b : Kinds) → or_else a b ≡ [] → (a ≡ []) × (b ≡ [])
or_else-nil [] b e = (refl, e)
or_else-nil (k ∷ ks) b e = cc

-- ---- the first word

-- what the first word comes to, by what it looks like
abbrev first_fault : Text → Option (Text × Option Text) → Kinds
first_fault w o =
    or_else (flag_word_fault top.rules false o w nothing_held)
    (step_fault top 1 (long_or_other top.rules start.waiting w o nothing_held).0 (long_or_other top.rules start.waiting w o nothing_held).1)

first_turn : (w : Text) → is_dashes w ≡ false → turn_fault top [] start w ≡ first_fault w (long_of w)
first_turn w is_word = rw is_word refl

abbrev IsNamed : Option (Text × Option Text) → Type 0
IsNamed o = (v : Option Text) × (o ≡ Some (name, v))

plain_first : (w flags : Text) (o : Option ℕ) → slice_get (chars flags) 0 ≡ o → first_fault w None ≡ [] → short_of w ≡ Some flags → ⊥
unfolding flags_fault bundle_met
plain_first w [] o head e is = let bad = rw is at e in cc
plain_first w (x ∷ xs) None head e is = let bad = rw (is, head) at e in cc
plain_first w (x ∷ xs) (Some c) head e is = let bad = rw (is, head) at e in cc

named_first : (w : Text) (o : Option (Text × Option Text)) → first_fault w o ≡ [] → IsNamed o
named_first w None e = go (short_of w) refl
  where
    go : (s : Option Text) → short_of w ≡ s → IsNamed None
    go None is = let bad = rw is at e in cc
    go (Some flags) is = absurd (plain_first w flags (slice_get (chars flags) 0) refl e is)
named_first w (Some p) e = go (bytes_eq name p.0) refl
  where
    go : (b : Bool) → bytes_eq name p.0 ≡ b → IsNamed (Some p)
    go false is = let bad = rw is at e in cc
    go true is = (p.1, ap (λ x. Some (x, p.1)) (sym (same name p.0 is)))

-- after the first word alone the option waits for its number, or has it
after_name : (w : Text) → is_dashes w ≡ false → long_of w ≡ Some (name, None) → walked top.rules [] start w ≡ named
unfolding walked
after_name w is_word is = rw (is_word, is) refl

abbrev joined : Text → Walk
joined v = record start { held = record nothing_held { rows = used option_rule (v ∷ []) [] } }

after_joined : (w v : Text) → is_dashes w ≡ false → long_of w ≡ Some (name, Some v) → walked top.rules [] start w ≡ joined v
unfolding walked
after_joined w v is_word is = rw (is_word, is) refl

-- ---- the second word

-- where the option waits for its number, any word but `--` is that, or is refused
abbrev second_fault : Text → Option (Text × Option Text) → Kinds
second_fault w o =
    or_else (flag_word_fault top.rules false o w named.held)
    (step_fault top 1 (long_or_other top.rules named.waiting w o named.held).0 (long_or_other top.rules named.waiting w o named.held).1)

second_turn : (w : Text) → is_dashes w ≡ false → turn_fault top [] named w ≡ second_fault w (long_of w)
second_turn w is_word = rw is_word refl

no_long : (w : Text) (o : Option (Text × Option Text)) → second_fault w o ≡ [] → o ≡ None
no_long w None e = refl
no_long w (Some p) e = go (bytes_eq name p.0) p.1 refl refl
  where
    go : (b : Bool) (v : Option Text) → bytes_eq name p.0 ≡ b → p.1 ≡ v → Some p ≡ None
    go false v is has = let bad = rw is at e in cc
    go true None is has = let bad = rw (is, has) at e in cc
    go true (Some v) is has = let bad = rw (is, has) at e in cc

plain_second : (w flags : Text) (o : Option ℕ) → slice_get (chars flags) 0 ≡ o → second_fault w None ≡ [] → short_of w ≡ Some flags
    → short_or_plain top.rules named.waiting w (Some flags) named.held ≡ ((given w).held, next idle)
unfolding flags_fault bundle_met
plain_second w [] o head e is = refl
plain_second w (x ∷ xs) None head e is = rw head refl
plain_second w (x ∷ xs) (Some c) head e is = let bad = rw (is, head) at e in cc

after_value : (w : Text) → is_dashes w ≡ false → turn_fault top [] named w ≡ [] → walked top.rules [] named w ≡ given w
unfolding walked
after_value w is_word e = go (short_of w) refl
  where
    fault : second_fault w (long_of w) ≡ []
    fault = sym (second_turn w is_word) ∙ e

    is_none : long_of w ≡ None
    is_none = no_long w (long_of w) fault

    go : (s : Option Text) → short_of w ≡ s → walked top.rules [] named w ≡ given w
    go None is = rw (is_word, is_none, is) refl
    go (Some flags) is = rw (is_word, is_none, is, plain_second w flags (slice_get (chars flags) 0) refl (rw is_none at fault) is) refl

-- where it has its number, only its name could follow, which then lacks one
abbrev third_fault : Text → Text → Option (Text × Option Text) → Kinds
third_fault v w o =
    or_else (flag_word_fault top.rules false o w (joined v).held)
    (step_fault top 1 (long_or_other top.rules idle w o (joined v).held).0 (long_or_other top.rules idle w o (joined v).held).1)

third_turn : (v w : Text) → is_dashes w ≡ false → turn_fault top [] (joined v) w ≡ third_fault v w (long_of w)
third_turn v w is_word = rw is_word refl

plain_third : (v w flags : Text) (o : Option ℕ) → slice_get (chars flags) 0 ≡ o → third_fault v w None ≡ [] → short_of w ≡ Some flags → ⊥
unfolding flags_fault bundle_met
plain_third v w [] o head e is = let bad = rw is at e in cc
plain_third v w (x ∷ xs) None head e is = let bad = rw (is, head) at e in cc
plain_third v w (x ∷ xs) (Some c) head e is = let bad = rw (is, head) at e in cc

abbrev pair : Text → Option Text → Option (Text × Option Text)
pair a b = Some (a, b)

named_third : (v w : Text) (o : Option (Text × Option Text)) → third_fault v w o ≡ [] → o ≡ Some (name, None)
named_third v w None e = go (short_of w) refl
  where
    go : (s : Option Text) → short_of w ≡ s → ◌≡◌ {A = Option (Text × Option Text)} None (Some (name, None))
    go None is = let bad = rw is at e in cc
    go (Some flags) is = absurd (plain_third v w flags (slice_get (chars flags) 0) refl e is)
named_third v w (Some p) e = go (bytes_eq name p.0) p.1 refl refl
  where
    go : (b : Bool) (x : Option Text) → bytes_eq name p.0 ≡ b → p.1 ≡ x → ◌≡◌ {A = Option (Text × Option Text)} (Some p) (Some (name, None))
    go false x is has = let bad = rw is at e in cc
    go true None is has = ap₂ pair (sym (same name p.0 is)) has
    go true (Some x) is has = let bad = rw (is, has) at e in cc

abbrev again : Text → Walk
again v = record (joined v) { held = record (joined v).held { pending = Some (name, []) }; waiting = option name }

after_third : (v w : Text) → is_dashes w ≡ false → long_of w ≡ Some (name, None) → walked top.rules [] (joined v) w ≡ again v
unfolding walked
after_third v w is_word is = rw (is_word, is) refl

-- ---- all words

-- the words, and the number that they give to the option
pub data Meant : List Text → Option Text → Type 0 where
  alone : Meant [] None
  spaced : (w v : Text) → long_of w ≡ Some (name, None) → Meant (w ∷ v ∷ []) (Some v)
  attached : (w v : Text) → long_of w ≡ Some (name, Some v) → Meant (w ∷ []) (Some v)

neither : (a b : Bool) → (a || b) ≡ false → (a ≡ false) × (b ≡ false)
neither true b e = cc
neither false b e = (refl, e)

abbrev held_at : List Text → Held
held_at ws = (walk top.rules [] nothing_held ws).held

meant_one : (w : Text) (v : Option Text) → is_dashes w ≡ false → long_of w ≡ Some (name, v)
    → settle_fault top.rules false (held_at (w ∷ [])) ≡ [] → Meant (w ∷ []) (first_of name (rows_after top.rules [] (w ∷ [])))
meant_one w None is_word is e =
    let bad = subst (λ (k : Walk). settle_fault top.rules false k.held ≡ []) (after_name w is_word is) e in
    cc
meant_one w (Some v) is_word is e =
    subst (λ (k : Walk). Meant (w ∷ []) (first_of name (finished top.rules k.held))) (sym (after_joined w v is_word is)) (attached w v is)

abbrev then_word : Text → Walk → Walk
then_word x k = walked top.rules [] k x

meant_two : (w x : Text) (v : Option Text) → is_dashes w ≡ false → is_dashes x ≡ false → long_of w ≡ Some (name, v)
    → turn_fault top [] (walked top.rules [] start w) x ≡ [] → settle_fault top.rules false (held_at (w ∷ x ∷ [])) ≡ []
    → Meant (w ∷ x ∷ []) (first_of name (rows_after top.rules [] (w ∷ x ∷ [])))
meant_two w x None is_word is_next is t e =
    let turn = subst (λ (k : Walk). turn_fault top [] k x ≡ []) (after_name w is_word is) t in
    let both = ap (then_word x) (after_name w is_word is) ∙ after_value x is_next turn in
    subst (λ (k : Walk). Meant (w ∷ x ∷ []) (first_of name (finished top.rules k.held))) (sym both) (spaced w x is)
meant_two w x (Some v) is_word is_next is t e =
    let turn = subst (λ (k : Walk). turn_fault top [] k x ≡ []) (after_joined w v is_word is) t in
    let long = named_third v x (long_of x) (sym (third_turn v x is_next) ∙ turn) in
    let both = ap (then_word x) (after_joined w v is_word is) ∙ after_third v x is_next long in
    let bad = subst (λ (k : Walk). settle_fault top.rules false k.held ≡ []) both e in
    cc

meant_by : (ws : List Text) → length ws ≤ 2 → list_any is_dashes ws ≡ false → walk_fault top [] start ws ≡ []
    → settle_fault top.rules false (held_at ws) ≡ [] → Meant ws (first_of name (rows_after top.rules [] ws))
unfolding walk_fault
meant_by [] few words e f = alone
meant_by (w ∷ []) few words e f =
    let is_word = (neither (is_dashes w) false words).0 in
    let first = named_first w (long_of w) (sym (first_turn w is_word) ∙ (or_else-nil _ _ e).0) in
    meant_one w first.0 is_word first.1 f
meant_by (w ∷ x ∷ []) few words e f =
    let is_word = (neither (is_dashes w) (is_dashes x || false) words).0 in
    let is_next = (neither (is_dashes x) false (neither (is_dashes w) (is_dashes x || false) words).1).0 in
    let first = named_first w (long_of w) (sym (first_turn w is_word) ∙ (or_else-nil _ _ e).0) in
    meant_two w x first.0 is_word is_next first.1 (or_else-nil _ _ (or_else-nil _ _ e).1).0 f
meant_by (w ∷ x ∷ y ∷ ws) few words e f = absurd (omega arith)

-- what clap makes of words by where its walk over them ends, and what the walk refuses
abbrev fault_by : Walk → Kinds → Kinds
fault_by k found =
    or_else found (or_else (entered_fault (built app) k.stopped) (or_else (settle_fault top.rules false k.held)
    (or_else (defaults_fault (settled top.rules k.held).rows top.rules) (check_fault top (finished top.rules k.held) (is_some (entered (built app) k.stopped))))))

faults : (words : List Text) → fault_of app words ≡ fault_by (walk top.rules [] nothing_held (drop 1 words)) (walk_fault top [] start (drop 1 words))
faults words = refl

-- words of which clap refuses none are these
pub meant : (words : List Text) → length (drop 1 words) ≤ 2 → list_any is_dashes (drop 1 words) ≡ false → fault_of app words ≡ []
    → Meant (drop 1 words) (first_of name (matches_of app words))
meant words few are_words e =
    let parts = or_else-nil _ _ (sym (faults words) ∙ e) in
    meant_by (drop 1 words) few are_words parts.0 (or_else-nil _ _ (or_else-nil _ _ parts.1).1).0

-- ------ and each of these is taken

pub taken_alone : (words : List Text) → drop 1 words ≡ [] → (fault_of app words ≡ []) × (first_of name (matches_of app words) ≡ None)
unfolding clap_on_literals
taken_alone words e = rw e (refl, refl)

after_plain : (v : Text) → is_dashes v ≡ false → long_of v ≡ None → short_of v ≡ None
    → (turn_fault top [] named v ≡ []) × (walked top.rules [] named v ≡ given v)
unfolding walked
after_plain v is_word long short = rw (is_word, long, short) (refl, refl)

walk_spaced : (v : Text) → walked top.rules [] named v ≡ given v → walk top.rules [] nothing_held (codes "--clients" ∷ v ∷ []) ≡ given v
walk_spaced v e = ap (then_word v) (after_name (codes "--clients") refl refl) ∙ e

turns_spaced : (v : Text) → turn_fault top [] named v ≡ [] → walk_fault top [] start (codes "--clients" ∷ v ∷ []) ≡ []
unfolding walk_fault
turns_spaced v e = subst (λ (k : Walk). or_else (turn_fault top [] k v) [] ≡ []) (sym (after_name (codes "--clients") refl refl)) (ap (λ f. or_else f []) e)

given_passes : (v : Text) → fault_by (given v) [] ≡ []
unfolding defaults_fault
given_passes v = refl

spaced_by : (v : Text) → turn_fault top [] named v ≡ [] → walked top.rules [] named v ≡ given v → (words : List Text)
    → drop 1 words ≡ codes "--clients" ∷ v ∷ [] → (fault_of app words ≡ []) × (first_of name (matches_of app words) ≡ Some v)
spaced_by v turn walk_is words e =
    let ends = ap (walk top.rules [] nothing_held) e ∙ walk_spaced v walk_is in
    let turns = ap (walk_fault top [] start) e ∙ turns_spaced v turn in
    (faults words ∙ ap₂ fault_by ends turns ∙ given_passes v, ap (λ (k : Walk). first_of name (finished top.rules k.held)) ends)

pub taken_spaced : (words : List Text) (d : ℕ) (ds : Text) → (d == 45) ≡ false → drop 1 words ≡ codes "--clients" ∷ (d ∷ ds) ∷ []
    → (fault_of app words ≡ []) × (first_of name (matches_of app words) ≡ Some (d ∷ ds))
taken_spaced words d ds digit e =
    let plain = after_plain (d ∷ ds) (rw digit refl) (rw digit refl) (rw digit refl) in
    spaced_by (d ∷ ds) plain.0 plain.1 words e

pub taken_attached : (words : List Text) (v : Text) → drop 1 words ≡ (codes "--clients=" ++ v) ∷ []
    → (fault_of app words ≡ []) × (first_of name (matches_of app words) ≡ Some v)
unfolding clap_on_literals
taken_attached words v e = rw e (refl, refl)

-- ---- what a word looks like

abbrev is_equals : ℕ → Bool
is_equals x = x == 61

one_more : (x : ℕ) (xs : Text) → is_equals x ≡ false → position_or_len is_equals (x ∷ xs) ≡ suc (position_or_len is_equals xs)
one_more x xs is = rw is (omega arith)

whole : (t : Text) → has_byte 61 t ≡ false → before_first is_equals t ≡ t
whole [] e = refl
whole (x ∷ xs) e = go (is_equals x) refl (whole xs)
  where
    go : (b : Bool) → is_equals x ≡ b → (has_byte 61 xs ≡ false → before_first is_equals xs ≡ xs) → before_first is_equals (x ∷ xs) ≡ x ∷ xs
    go true is rest = let bad = rw is at e in cc
    go false is rest = ap (λ k. take k (x ∷ xs)) (one_more x xs is) ∙ ap (λ ys. x ∷ ys) (rest (rw is at e))

parts : (t : Text) → has_byte 61 t ≡ true → before_first is_equals t ++ 61 ∷ after_first is_equals t ≡ t
parts [] e = cc
parts (x ∷ xs) e = go (is_equals x) refl (parts xs)
  where
    go : (b : Bool) → is_equals x ≡ b → (has_byte 61 xs ≡ true → before_first is_equals xs ++ 61 ∷ after_first is_equals xs ≡ xs)
        → before_first is_equals (x ∷ xs) ++ 61 ∷ after_first is_equals (x ∷ xs) ≡ x ∷ xs
    go true is rest = let same_byte : x ≡ 61 = grind (arith, nat_tests) in rw is (ap (λ y. y ∷ xs) (sym same_byte))
    go false is rest =
        let n = position_or_len is_equals xs in
        let more : suc n + 1 ≡ suc (n + 1) = omega arith in
        ap (λ k. take k (x ∷ xs) ++ 61 ∷ drop (k + 1) (x ∷ xs)) (one_more x xs is)
        ∙ ap (λ k. (x ∷ take n xs) ++ 61 ∷ drop k (x ∷ xs)) more ∙ ap (λ ys. x ∷ ys) (rest (rw is at e))

looks : (t : Text) (v : Option Text) → name_and_value t ≡ (name, v) → MatchOption v (t ≡ name) (λ x. t ≡ name ++ 61 ∷ x)
looks t v e = go (has_byte 61 t) refl v e
  where
    go : (b : Bool) → has_byte 61 t ≡ b → (v : Option Text) → name_and_value t ≡ (name, v) → MatchOption v (t ≡ name) (λ x. t ≡ name ++ 61 ∷ x)
    go true is None e =
        let found : name_and_value t ≡ (before_first is_equals t, Some (after_first is_equals t)) = rw is refl in
        let bad : Some (after_first is_equals t) ≡ None = ap (λ p. p.1) (sym found ∙ e) in
        cc
    go true is (Some x) e =
        let found : name_and_value t ≡ (before_first is_equals t, Some (after_first is_equals t)) = rw is refl in
        let before : before_first is_equals t ≡ name = ap (λ p. p.0) (sym found ∙ e) in
        let after : Some (after_first is_equals t) ≡ Some x = ap (λ p. p.1) (sym found ∙ e) in
        sym (parts t is) ∙ ap₂ (λ a b. a ++ 61 ∷ b) before (cc)
    go false is None e = let before : before_first is_equals t ≡ name = ap (λ p. p.0) e in sym (whole t is) ∙ before
    go false is (Some x) e =
        let found : name_and_value t ≡ (before_first is_equals t, None) = rw is refl in
        let bad : None ≡ Some x = ap (λ p. p.1) (sym found ∙ e) in
        cc

-- what stands behind two hyphens
behind : (w : Text) (p : Text × Option Text) → long_of w ≡ Some p → (t : Text) × (w ≡ 45 ∷ 45 ∷ t) × (name_and_value t ≡ p)
behind [] p e = cc
behind (x ∷ []) p e = go (x == 45) refl
  where
    go : (b : Bool) → (x == 45) ≡ b → (t : Text) × (x ∷ [] ≡ 45 ∷ 45 ∷ t) × (name_and_value t ≡ p)
    go true is = let bad = rw is at e in cc
    go false is = let bad = rw is at e in cc
behind (x ∷ y ∷ t) p e = go (x == 45) (y == 45) refl refl t e
  where
    go : (a b : Bool) → (x == 45) ≡ a → (y == 45) ≡ b → (t : Text) → long_of (x ∷ y ∷ t) ≡ Some p
        → (u : Text) × (x ∷ y ∷ t ≡ 45 ∷ 45 ∷ u) × (name_and_value u ≡ p)
    go false b first second t e = let bad = rw first at e in cc
    go true false first second t e = let bad = rw (first, second) at e in cc
    go true true first second [] e = let bad = rw (first, second) at e in cc
    go true true first second (z ∷ t) e =
        let x_is : x ≡ 45 = grind (arith, nat_tests) in
        let y_is : y ≡ 45 = grind (arith, nat_tests) in
        let found = rw (first, second) at e in
        (z ∷ t, ap₂ (λ a b. a ∷ b ∷ z ∷ t) x_is y_is, cc)

-- the word that names the option, and the one that gives it a number too
pub named_word : (w : Text) → long_of w ≡ Some (name, None) → w ≡ codes "--clients"
named_word w e =
    let b = behind w (name, None) e in
    b.1 ∙ ap (λ t. 45 ∷ 45 ∷ t) (looks b.0 None b.2)

pub attached_word : (w v : Text) → long_of w ≡ Some (name, Some v) → w ≡ codes "--clients=" ++ v
attached_word w v e =
    let b = behind w (name, Some v) e in
    b.1 ∙ ap (λ t. 45 ∷ 45 ∷ t) (looks b.0 (Some v) b.2)
