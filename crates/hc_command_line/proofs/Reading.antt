-- What a command line asks for, by what clap makes of its words.
use Rattle.std.proofs.Common.{◌≡◌, ◌≢◌, ◌⊎◌, inl, inr, ◌∙◌, ◌≤◌, ◌<◌, ◌||◌, ◌==◌, ◌^◌, ℕ, Bool, true, false, List, [], ◌∷◌, ◌++◌, length, map, Option, Some, None, refl, sym, ap, ap₂, subst, arith, codes, true≢false}
use Rattle.std.specs.Prelude.{MatchOption, drop, nat_lt}
use Rattle.std.specs.Char.{digit_value}
use Rattle.std.specs.Fmt.{decimal}
use Rattle.std.specs.List.{list_any}
use Rattle.std.specs.Str.Parse.{IsNumeral}
use Rattle.std.proofs.lemmas.Bool.{ltb-false, le-ltb}
use Rattle.std.proofs.lemmas.Bool.Decides.{nat_tests}
use Rattle.std.proofs.lemmas.Fmt.{decimal_injective, decimal_is_IsNumeral}
use Rattle.std.proofs.lemmas.List.{length-map}
use Rattle.clap.specs.Matches.{first_value, found_of}
use Rattle.clap.specs.Walk.{Text, first_of}
use Rattle.clap.specs.Simple.{HasMatchesOf, app_of, app_of_fields, is_simple, matches_of, new_app, on_top, with_rule}
use Rattle.clap.specs.Kinds.{HasKind, IsAmong, Kinds}
use Rattle.clap.specs.Values.{kind_of}
use Rattle.clap.specs.Words.{rule_of}
use Rattle.clap.specs.declared.builder.command.Command.TheViews.{out-Command}
use Rattle.clap.specs.declared.builder.arg.Arg.{Arg}
use Rattle.clap.specs.declared.error.Error.{Error}
use Rattle.clap.specs.declared.error.kind.ErrorKind.TheVariants.{OutOfMemory}
use Rattle.clap.specs.Faults.{fault_of}
use Rattle.clap.specs.declared.builder.command.Command.{Command}
use Rattle.clap.specs.declared.parser.matches.ArgMatches.{ArgMatches}
use Rattle.clap.proofs.WalkLemmas.{first_value-rows, list_any-map}
use Rattle.hc_command_line.specs.Asked.{AsksFor, AsksForMany, IsCount, IsNamed, is_beyond, is_dashes}
use Rattle.hc_command_line.proofs.Walks.{Meant, alone, spaced, attached, app, attached_word, clients, meant, name, named_word, taken_alone, taken_attached, taken_spaced}

-- ---- from what clap found to what is asked for

-- the words behind the program's name that give the option this text
abbrev Spells : List Text → Text → Type 0
Spells ws t = (ws ≡ codes "--clients" ∷ t ∷ []) ⊎ (ws ≡ (codes "--clients=" ++ t) ∷ [])

spelled : (ws : List Text) (v : Option Text) → Meant ws v → MatchOption v (ws ≡ []) (Spells ws)
spelled _ _ alone = refl
spelled _ _ (spaced w v is) = inl (ap (λ x. x ∷ v ∷ []) (named_word w is))
spelled _ _ (attached w v is) = inr (ap (λ x. x ∷ []) (attached_word w v is))

module _ {X : Type 0} (f : X → Text) where
  either_false : (a b : Bool) → (a || b) ≡ false → (a ≡ false) × (b ≡ false)
  either_false true b e = cc
  either_false false b e = (refl, e)

  near : (xs : List X) → is_beyond f xs ≡ false → (length (drop 1 (map f xs)) ≤ 2) × (list_any is_dashes (drop 1 (map f xs)) ≡ false)
  near [] e = (omega arith, refl)
  near (x ∷ xs) e =
      let both = either_false (nat_lt 2 (length xs)) (list_any (λ y. is_dashes (f y)) xs) e in
      let few : length xs ≤ 2 = ltb-false 2 (length xs) both.0 in
      (rw (length-map xs f) few, sym (list_any-map is_dashes f xs) ∙ both.1)

  not_beyond : (xs : List X) → length (drop 1 (map f xs)) ≤ 2 → list_any is_dashes (drop 1 (map f xs)) ≡ false → is_beyond f xs ≡ false
  not_beyond [] few words = refl
  not_beyond (x ∷ xs) few words =
      let short : length xs ≤ 2 = rw (length-map xs f) at few in
      let few_words : nat_lt 2 (length xs) ≡ false = le-ltb 2 (length xs) short in
      let no_dashes : list_any (λ y. is_dashes (f y)) xs ≡ false = list_any-map is_dashes f xs ∙ words in
      rw (few_words, no_dashes) refl

  -- what clap found in words that it doesn't refuse
  pub found : (xs : List X) → is_beyond f xs ≡ false → fault_of app (map f xs) ≡ []
      → MatchOption (first_of name (matches_of app (map f xs))) (drop 1 (map f xs) ≡ []) (Spells (drop 1 (map f xs)))
  found xs is_near e =
      let few = near xs is_near in
      spelled (drop 1 (map f xs)) (first_of name (matches_of app (map f xs))) (meant (map f xs) few.0 few.1 e)

-- ---- from what is asked for to what clap finds

starts : (t : Text) → IsNumeral 10 t → (d : ℕ) × (ds : Text) × (t ≡ d ∷ ds) × ((d == 45) ≡ false)
starts [] h = let bad : 0 < 0 = h.0 in absurd (omega arith)
starts (d ∷ ds) h = (d, ds, refl, go (d == 45) refl)
  where
    go : (b : Bool) → (d == 45) ≡ b → (d == 45) ≡ false
    go false is = is
    go true is =
        let d_is : d ≡ 45 = grind (arith, nat_tests) in
        let bad : 36 < 10 = subst (λ x. digit_value x < 10) d_is h.1.0 in
        absurd (omega arith)

abbrev text_for : Option ℕ → Option Text
text_for None = None
text_for (Some n) = Some (decimal n)

-- the words pass the first test, clap doesn't refuse them, and the option has this text
pub record Finds (words : List Text) (v : Option Text) : Type 0 where
  pub few : length (drop 1 words) ≤ 2
  pub are_words : list_any is_dashes (drop 1 words) ≡ false
  pub faults : fault_of app words ≡ []
  pub value : first_of name (matches_of app words) ≡ v

finds_spaced : (words : List Text) (t : Text) (d : ℕ) (ds : Text) → t ≡ d ∷ ds → (d == 45) ≡ false → drop 1 words ≡ codes "--clients" ∷ t ∷ [] → Finds words (Some t)
finds_spaced words t d ds is digit e =
    let spelt : drop 1 words ≡ codes "--clients" ∷ (d ∷ ds) ∷ [] = e ∙ ap (λ x. codes "--clients" ∷ x ∷ []) is in
    let taken = taken_spaced words d ds digit spelt in
    record {
      few = rw spelt (omega arith);
      are_words = rw spelt (rw digit refl);
      faults = taken.0;
      value = taken.1 ∙ ap (λ x. Some x) (sym is);
    }

finds_attached : (words : List Text) (t : Text) → drop 1 words ≡ (codes "--clients=" ++ t) ∷ [] → Finds words (Some t)
finds_attached words t e =
    let taken = taken_attached words t e in
    record { few = rw e (omega arith); are_words = rw e refl; faults = taken.0; value = taken.1 }

finds_many : (words : List Text) (n : ℕ) → AsksForMany words n → Finds words (Some (decimal n))
finds_many words n asks = go asks.spelled
  where
    small : n < 2 ^ 64
    small = let most = asks.count.1 in omega arith

    first : (d : ℕ) × (ds : Text) × (decimal n ≡ d ∷ ds) × ((d == 45) ≡ false)
    first = starts (decimal n) (decimal_is_IsNumeral n small).0

    go : IsNamed words (codes "--clients" ∷ decimal n ∷ []) ⊎ IsNamed words ((codes "--clients=" ++ decimal n) ∷ []) → Finds words (Some (decimal n))
    go (inl e) = finds_spaced words (decimal n) first.0 first.1 first.2 first.3 e
    go (inr e) = finds_attached words (decimal n) e

finds : (words : List Text) (clients : Option ℕ) → AsksFor words clients → Finds words (text_for clients)
finds words None e =
    let taken = taken_alone words e in
    record { few = rw e (omega arith); are_words = rw e refl; faults = taken.0; value = taken.1 }
finds words (Some n) asks = finds_many words n asks

-- ---- numbers of clients

-- the text of a number that is no number of clients is that of none
pub no_count : (text : Text) (m : ℕ) → m < 2 ^ 64 → text ≡ decimal m → (IsCount m → ⊥) → (n : ℕ) → IsCount n → text ≢ decimal n
no_count text m small is other n count same =
    let n_small : n < 2 ^ 64 = let most = count.1 in omega arith in
    other (subst IsCount (decimal_injective n m n_small small (sym same ∙ is)) count)

-- ---- as the code meets it

-- words of which there are too many, or one is `--`, ask for nothing
pub beyond_is_wrong : {X : Type 0} (f : X → Text) (xs : List X) → is_beyond f xs ≡ true → (clients : Option ℕ) → AsksFor (map f xs) clients → ⊥
beyond_is_wrong f xs beyond clients asks =
    let it = finds (map f xs) clients asks in
    true≢false (sym beyond ∙ not_beyond f xs it.few it.are_words)

-- nor do those that clap refuses
pub refused_is_wrong : (words : List Text) → fault_of app words ≢ [] → (clients : Option ℕ) → AsksFor words clients → ⊥
refused_is_wrong words refused clients asks = refused (finds words clients asks).faults

-- an error other than out of memory says that clap refuses them
pub only_memory : (e : Error) (kinds : Kinds) → HasKind kinds e → kind_of e ≢ OutOfMemory → kinds ≢ []
only_memory e kinds (inl is) other none = other is
only_memory e kinds (inr is) other none = subst (IsAmong (kind_of e)) none is

-- the command that the code makes
pub app_made : (new short made : Command) (option : Arg) → app_of new ≡ new_app (codes "hc_replay")
    → out-Command short ≡ record (out-Command new) { disable_help_flag = true } → (option.global ≡ false → app_of made ≡ with_rule (app_of short) (rule_of option))
    → option.global ≡ false → rule_of option ≡ clients → app_of made ≡ app
app_made new short made option is_new is_short adds is_local is_option =
    adds is_local ∙ ap₂ with_rule (ap app_of_fields is_short ∙ ap (on_top (λ s. record s { disable_help_flag = true })) is_new) is_option

-- the value of the option, as it was found
pub value_found : (c : Command) (words : List Text) (m : ArgMatches) → app_of c ≡ app → HasMatchesOf (app_of c) words m
    → first_value (found_of m) name ≡ first_of name (matches_of app words)
value_found c words m is h = first_value-rows (found_of m) name ∙ ap (first_of name) ((h (ap is_simple is)).0 ∙ ap (λ a. matches_of a words) is)

-- nor where that is no number of clients
pub no_count_is_wrong : (words : List Text) (t : Text) → first_of name (matches_of app words) ≡ Some t → ((n : ℕ) → IsCount n → t ≢ decimal n)
    → (clients : Option ℕ) → AsksFor words clients → ⊥
no_count_is_wrong words t is none None asks = let e = sym is ∙ (finds words None asks).value in cc
no_count_is_wrong words t is none (Some n) asks =
    let e : Some t ≡ Some (decimal n) = sym is ∙ (finds words (Some n) asks).value in
    none n asks.count (cc)

pub count_is_asked : {X : Type 0} (f : X → Text) (xs : List X) (t : Text) (n : ℕ) → is_beyond f xs ≡ false → fault_of app (map f xs) ≡ []
    → first_of name (matches_of app (map f xs)) ≡ Some t → IsCount n → t ≡ decimal n → AsksFor (map f xs) (Some n)
count_is_asked f xs t n is_near faults is count same =
    let e = subst (λ v. MatchOption v (drop 1 (map f xs) ≡ []) (Spells (drop 1 (map f xs)))) is (found f xs is_near faults) in
    record { count = count; spelled = subst (Spells (drop 1 (map f xs))) same e }

pub none_is_asked : {X : Type 0} (f : X → Text) (xs : List X) → is_beyond f xs ≡ false → fault_of app (map f xs) ≡ []
    → first_of name (matches_of app (map f xs)) ≡ None → AsksFor (map f xs) None
none_is_asked f xs is_near faults is = subst (λ v. MatchOption v (drop 1 (map f xs) ≡ []) (Spells (drop 1 (map f xs)))) is (found f xs is_near faults)
