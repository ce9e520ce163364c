-- Which steps of a list are a shard's.
use Rattle.std.proofs.Common.{◌≡◌, ℕ, ◌+◌, ◌<◌, length, get_or, drop, append_assoc, ◌==◌, ◌&&◌, nat_lt, Bool, true, false, List, [], ◌∷◌, ◌++◌, Option, Some, None, refl, ap, sym, subst, ◌∙◌, arith}
use Rattle.std.specs.Prelude.{if◌then◌else◌, map}
use Rattle.std.proofs.lemmas.List.{drop_more}
use Rattle.std.proofs.lemmas.Bool.{eqb-true}
use Rattle.hc_types.specs.declared.refusal.Refusal.{Refusal}
use Rattle.hc_types.specs.declared.refusal.Refusal.TheVariants.{WrongShard}
use Rattle.hc_machine.specs.Schedule.{Step}
use Rattle.hc_shard_laws.specs.OwnKeys.{ShardStep, is_own, steps_of}
use Rattle.hc_shard_run.specs.Steps.{is_for, refusal_of, RefusedStepsChangeNothing}

-- one more, of this shard
pub steps-mine : (shards shard : ℕ) (all : List ShardStep) (s : ShardStep) → ((s.shard == shard) && is_own shards shard s.step.deed) ≡ true → steps_of shards shard (all ++ s ∷ []) ≡ steps_of shards shard all ++ s.step ∷ []
steps-mine shards shard [] s own = ap (λ (t : Bool). if t then s.step ∷ [] else []) own
steps-mine shards shard (x ∷ all) s own = go ((x.shard == shard) && is_own shards shard x.step.deed) (steps-mine shards shard all s own)
  where
    go : (t : Bool) → steps_of shards shard (all ++ s ∷ []) ≡ steps_of shards shard all ++ s.step ∷ []
        → (if t then x.step ∷ steps_of shards shard (all ++ s ∷ []) else steps_of shards shard (all ++ s ∷ [])) ≡ (if t then x.step ∷ steps_of shards shard all else steps_of shards shard all) ++ s.step ∷ []
    go true rest = ap (λ (steps : List Step). x.step ∷ steps) rest
    go false rest = rest

-- without one of none or of another
pub steps-without : (shards shard : ℕ) (before : List ShardStep) (s : ShardStep) (after : List ShardStep) → ((s.shard == shard) && is_own shards shard s.step.deed) ≡ false → steps_of shards shard (before ++ s ∷ after) ≡ steps_of shards shard (before ++ after)
steps-without shards shard [] s after other = ap (λ (t : Bool). if t then s.step ∷ steps_of shards shard after else steps_of shards shard after) other
steps-without shards shard (x ∷ before) s after other = ap (λ (steps : List Step). if (x.shard == shard) && is_own shards shard x.step.deed then x.step ∷ steps else steps) (steps-without shards shard before s after other)

-- no shard has a step that isn't taken
pub not-taken : (shards shard : ℕ) (s : ShardStep) → shard < shards → is_for shards s ≡ false → ((s.shard == shard) && is_own shards shard s.step.deed) ≡ false
not-taken shards shard s lt out = go (s.shard == shard) refl
  where
    go : (t : Bool) → (s.shard == shard) ≡ t → (t && is_own shards shard s.step.deed) ≡ false
    go false e = refl
    go true e =
        let same = eqb-true s.shard shard e in
        let there : nat_lt s.shard shards ≡ true = grind (arith, same, lt) in
        subst (λ (n : ℕ). is_own shards n s.step.deed ≡ false) same ((λ i. sym there i && is_own shards s.shard s.step.deed) ∙ out)

-- a step that is taken is its shard's
pub taken : (shards : ℕ) (s : ShardStep) → is_for shards s ≡ true → (s.shard < shards) × (is_own shards s.shard s.step.deed ≡ true)
taken shards s is = go (nat_lt s.shard shards) (is_own shards s.shard s.step.deed) refl refl is
  where
    go : (a b : Bool) → nat_lt s.shard shards ≡ a → is_own shards s.shard s.step.deed ≡ b → (a && b) ≡ true → (s.shard < shards) × (is_own shards s.shard s.step.deed ≡ true)
    go true true a b h = (grind (arith, a), b)
    go true false a b h = absurd cc
    go false b a c h = absurd cc

pub refused-steps : RefusedStepsChangeNothing
refused-steps shards shard before s after lt h = go (is_for shards s) refl h
  where
    go : (t : Bool) → is_for shards s ≡ t → ◌≡◌ {A = Option Refusal} (if t then None else Some WrongShard) (Some WrongShard) → steps_of shards shard (before ++ s ∷ after) ≡ steps_of shards shard (before ++ after)
    go true e h = absurd cc
    go false e h = steps-without shards shard before s after (not-taken shards shard s lt e)

-- the refusals so far, and those of the rest, are those of all
pub refused-more : (shards : ℕ) (steps : List ShardStep) (i : ℕ) (one : ShardStep) (refusals refusals' : List (Option Refusal)) (refusal : Option Refusal) → i < length steps → one ≡ get_or steps i one → refusal ≡ refusal_of shards one → refusals' ≡ refusals ++ refusal ∷ []
    → refusals ++ map (refusal_of shards) (drop i steps) ≡ map (refusal_of shards) steps → refusals' ++ map (refusal_of shards) (drop (i + 1) steps) ≡ map (refusal_of shards) steps
refused-more shards steps i one refusals refusals' refusal lt here is pushed so_far =
    (λ j. pushed j ++ map (refusal_of shards) (drop (i + 1) steps))
    ∙ append_assoc refusals (refusal ∷ []) (map (refusal_of shards) (drop (i + 1) steps))
    ∙ (λ j. refusals ++ is j ∷ map (refusal_of shards) (drop (i + 1) steps))
    ∙ ap (λ (rest : List ShardStep). refusals ++ map (refusal_of shards) rest) (sym (drop_more steps i one lt ∙ ap (λ (x : ShardStep). x ∷ drop (i + 1) steps) (sym here)))
    ∙ so_far
