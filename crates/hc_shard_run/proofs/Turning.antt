-- A step of the list, and what it leaves of each shard.
use Rattle.std.proofs.Common.{◌≡◌, ℕ, zero, suc, ◌+◌, ◌*◌, ◌<◌, ◌≤◌, ◌==◌, ◌&&◌, Bool, true, false, List, [], ◌∷◌, ◌++◌, length, Option, Some, None, refl, ap, sym, subst, ◌∙◌, arith, append-nil, ◌⊎◌, ⊎_elim, inl, inr, ◌≢◌}
use Rattle.std.specs.Prelude.{slice_set}
use Rattle.std.specs.List.{slice_get}
use Rattle.std.proofs.Math.Nat.{mul-le-mul_right}
use Rattle.std.proofs.lemmas.Bool.{eqb-true}
use Rattle.std.proofs.lemmas.Option.{same_Some, slice_get_within}
use Rattle.hc_types.specs.Config.{Config}
use Rattle.hc_types.specs.Limits.{first_wrong}
use Rattle.hc_types.proofs.Tallies.{tally-set}
use Rattle.hc_engines.specs.Engine.{Pages}
use Rattle.hc_machine.specs.Schedule.{Step}
use Rattle.hc_memory.proofs.Keys.{get-set, get-set-other}
use Rattle.hc_run.specs.Devices.{Counts}
use Rattle.hc_run.specs.Shows.{Window, AreOwn, seen}
use Rattle.hc_shards.specs.Parts.{Beside, IsPageOf}
use Rattle.hc_shards.specs.Shards.{Sharded, sharded_wrong, share_of, pages_of, page_in}
use Rattle.hc_shards.proofs.Sharing.{parts-apart, sharded-right}
use Rattle.hc_shard_laws.specs.OwnKeys.{ShardStep, is_own, steps_of}
use Rattle.hc_shard_run.specs.Steps.{is_for}
use Rattle.hc_shard_run.specs.Ran.{window_of}
use Rattle.hc_shard_run.specs.Lanes.{Lane, IsNew, IsLane, IsLaneOf, AreLanes, AreOwnLanes, Others, failures_of}
use Rattle.hc_shard_run.proofs.Going.{lane-none, lane-own, lane-stays}
use Rattle.hc_shard_run.proofs.Stepping.{steps-mine, steps-without, not-taken, taken}

-- ---- what fills the slots

own-each : (lanes : List Lane) → ((k : ℕ) (lane : Lane) → slice_get lanes k ≡ Some lane → AreOwn lane.stage.slots lane.stage.cache) → AreOwnLanes lanes
own-each [] each = tt
own-each (lane ∷ lanes) each = (each 0 lane refl, own-each lanes (λ k other at. each (suc k) other at))

pub own-at : (lanes : List Lane) (k : ℕ) (lane : Lane) → AreOwnLanes lanes → slice_get lanes k ≡ Some lane → AreOwn lane.stage.slots lane.stage.cache
own-at [] k lane own at = absurd cc
own-at (first ∷ lanes) zero lane own at = subst (λ (l : Lane). AreOwn l.stage.slots l.stage.cache) (same_Some first lane at) own.0
own-at (first ∷ lanes) (suc k) lane own at = own-at lanes k lane own.1 at

pub lanes-own : (s : Sharded) (held : Pages) (steps : List ShardStep) (lanes : List Lane) → sharded_wrong s ≡ None → AreLanes s held steps lanes → AreOwnLanes lanes
lanes-own s held steps lanes right all =
    own-each lanes (λ k lane at. let l = (all k lane at).run in lane-own (share_of s) (seen (window_of s k) held) (steps_of s.shards k steps) lane (sharded-right s right).share l)

-- ---- new shards

pub lane-first : (s : Sharded) (held : Pages) (shard : ℕ) (lane : Lane) → IsNew (share_of s) (window_of s shard) lane → IsLaneOf s held [] shard lane
lane-first s held shard lane new = record { window = new.window; run = lane-none (share_of s) (seen (window_of s shard) held) (window_of s shard) lane new }

pub lanes-none : (s : Sharded) (held : Pages) → AreLanes s held [] []
lanes-none s held shard lane at = absurd cc

get-push : (lanes : List Lane) (new : Lane) (k : ℕ) (lane : Lane) → slice_get (lanes ++ new ∷ []) k ≡ Some lane → (slice_get lanes k ≡ Some lane) ⊎ ((k ≡ length lanes) × (lane ≡ new))
get-push [] new zero lane at = inr (refl, sym (same_Some new lane at))
get-push [] new (suc k) lane at = absurd cc
get-push (first ∷ lanes) new zero lane at = inl at
get-push (first ∷ lanes) new (suc k) lane at = ⊎_elim (λ there. inl there) (λ here. inr (ap suc here.0, here.1)) (get-push lanes new k lane at)

-- one more
pub lanes-more : (s : Sharded) (held : Pages) (shard : ℕ) (lanes : List Lane) (new : Lane) → length lanes ≡ shard → IsNew (share_of s) (window_of s shard) new → AreLanes s held [] lanes → AreLanes s held [] (lanes ++ new ∷ [])
lanes-more s held shard lanes new many is all k lane at =
    ⊎_elim (λ there. all k lane there)
    (λ here. subst (λ (l : Lane). IsLaneOf s held [] k l) (sym here.1) (subst (λ (n : ℕ). IsLaneOf s held [] n new) (sym many ∙ sym here.0) (lane-first s held shard new is))) (get-push lanes new k lane at)

-- ---- a step that is refused

pub lanes-pass : (s : Sharded) (held : Pages) (steps : List ShardStep) (one : ShardStep) (lanes : List Lane) → length lanes ≡ s.shards → is_for s.shards one ≡ false → AreLanes s held steps lanes → AreLanes s held (steps ++ one ∷ []) lanes
lanes-pass s held steps one lanes many out all shard lane at =
    let l = all shard lane at in
    let lt : shard < s.shards = subst (λ (n : ℕ). shard < n) many (slice_get_within lanes shard lane at) in
    let same : steps_of s.shards shard (steps ++ one ∷ []) ≡ steps_of s.shards shard steps = steps-without s.shards shard steps one [] (not-taken s.shards shard one lt out) ∙ ap (steps_of s.shards shard) (append-nil steps) in
    record { window = l.window; run = subst (λ (mine : List Step). IsLane (seen (window_of s shard) held) (share_of s) mine lane) (sym same) l.run }

-- ---- a step that its shard makes

-- what a shard's turn comes to
pub record IsTurn (before after : Pages) (step : Step) (old new : Lane) : Type 0 where
  pub lane : (config : Config) (steps : List Step) → first_wrong config ≡ None → IsLane (seen old.stage.window before) config steps old → IsLane (seen old.stage.window after) config (steps ++ step ∷ []) new
  pub window : new.stage.window ≡ old.stage.window
  pub beside : Beside old.stage.window.first old.stage.window.pages before after

module _ (s : Sharded) (right : sharded_wrong s ≡ None) (before after : Pages) (steps : List ShardStep) (one : ShardStep) (lanes : List Lane) (old new : Lane) (is : is_for s.shards one ≡ true) (here : slice_get lanes one.shard ≡ Some old) (turn : IsTurn before after one.step old new)
    (all : AreLanes s before steps lanes) where
  abbrev own_window : old.stage.window ≡ window_of s one.shard
  own_window = (all one.shard old here).window

  turn-beside : Beside (page_in (pages_of s.config.flash) one.shard 0) (pages_of s.config.flash) before after
  turn-beside = subst (λ (w : Window). Beside w.first w.pages before after) own_window turn.beside

  mine : IsLaneOf s after (steps ++ one ∷ []) one.shard new
  mine =
      let l = all one.shard old here in
      let ran : IsLane (seen old.stage.window before) (share_of s) (steps_of s.shards one.shard steps) old = subst (λ (w : Window). IsLane (seen w before) (share_of s) (steps_of s.shards one.shard steps) old) (sym own_window) l.run in
      let went = turn.lane (share_of s) (steps_of s.shards one.shard steps) (sharded-right s right).share ran in
      let same : (one.shard == one.shard) ≡ true = grind arith in
      let own : ((one.shard == one.shard) && is_own s.shards one.shard one.step.deed) ≡ true = λ i. same i && (taken s.shards one is).1 i in
      record {
        window = turn.window ∙ own_window;
        run = subst (λ (all : List Step). IsLane (seen (window_of s one.shard) after) (share_of s) all new) (sym (steps-mine s.shards one.shard steps one own))
            (subst (λ (w : Window). IsLane (seen w after) (share_of s) (steps_of s.shards one.shard steps ++ one.step ∷ []) new) own_window went);
      }

  other : (shard : ℕ) (lane : Lane) → (one.shard == shard) ≡ false → slice_get lanes shard ≡ Some lane → IsLaneOf s after (steps ++ one ∷ []) shard lane
  other shard lane apart at =
      let l = all shard lane at in
      let differ : ¬ (one.shard ≡ shard) = λ same. (let yes : (one.shard == shard) ≡ true = grind (arith, same) in cc) in
      let not_mine : ((one.shard == shard) && is_own s.shards shard one.step.deed) ≡ false = ap (λ (t : Bool). t && is_own s.shards shard one.step.deed) apart in
      let same : steps_of s.shards shard (steps ++ one ∷ []) ≡ steps_of s.shards shard steps = steps-without s.shards shard steps one [] not_mine ∙ ap (steps_of s.shards shard) (append-nil steps) in
      record {
        window = l.window;
        run = subst (λ (all : List Step). IsLane (seen (window_of s shard) after) (share_of s) all lane) (sym same)
            (lane-stays (share_of s) (steps_of s.shards shard steps) (seen (window_of s shard) before) (seen (window_of s shard) after) lane (parts-apart (pages_of s.config.flash) one.shard shard before after differ turn-beside) l.run);
      }

  pub lanes-turn : AreLanes s after (steps ++ one ∷ []) (slice_set lanes one.shard new)
  lanes-turn shard lane at = go (one.shard == shard) refl
    where
      go : (t : Bool) → (one.shard == shard) ≡ t → IsLaneOf s after (steps ++ one ∷ []) shard lane
      go true e =
          let same : one.shard ≡ shard = eqb-true one.shard shard e in
          let found : new ≡ lane = same_Some new lane (sym (get-set lanes one.shard old new here) ∙ ap (slice_get (slice_set lanes one.shard new)) same ∙ at) in
          subst (λ (l : Lane). IsLaneOf s after (steps ++ one ∷ []) shard l) found (subst (λ (k : ℕ). IsLaneOf s after (steps ++ one ∷ []) k new) same mine)
      go false e =
          let differ : shard ≢ one.shard = λ same. (let yes : (one.shard == shard) ≡ true = grind (arith, same) in cc) in
          other shard lane e (sym (get-set-other lanes one.shard shard new differ) ∙ at)

  -- the pages behind those of all shards stay
  pub turn-others : Others s before after
  turn-others place behind = turn-beside place (λ inside.
      let fewer : suc one.shard * pages_of s.config.flash ≤ s.shards * pages_of s.config.flash = mul-le-mul_right (pages_of s.config.flash) (omega (arith, (taken s.shards one is).0)) in
      let no : place < place = omega (arith, fewer, behind, inside.1) in
      absurd (omega (arith, no)))

-- the same, as the code has it
module _ (s : Sharded) (right : sharded_wrong s ≡ None) (before after : Pages) (steps : List ShardStep) (one : ShardStep) (lanes : List Lane) (at : ℕ) (old new : Lane) (is : is_for s.shards one ≡ true) (place : one.shard ≡ at) (here : slice_get lanes at ≡ Some old) (turn : IsTurn before after one.step old new) (all : AreLanes s before steps lanes) where
  pub lanes-turn-at : AreLanes s after (steps ++ one ∷ []) (slice_set lanes at new)
  lanes-turn-at = subst (λ (n : ℕ). AreLanes s after (steps ++ one ∷ []) (slice_set lanes n new)) place (lanes-turn s right before after steps one lanes old new is (ap (slice_get lanes) place ∙ here) turn all)

  pub turn-others-at : Others s before after
  turn-others-at = turn-others s right before after steps one lanes old new is (ap (slice_get lanes) place ∙ here) turn all

-- what the device counted, the shards have counted
pub turn-counted : (window : Window) (before after : ℕ) (lanes : List Lane) (shard : ℕ) (old new : Lane) → slice_get lanes shard ≡ Some old → Counts window before after old.stage.failures new.stage.failures
    → after + failures_of lanes ≤ before + failures_of (slice_set lanes shard new)
turn-counted window before after lanes shard old new here c = omega (arith, tally-set (λ (lane : Lane). lane.stage.failures) lanes shard old new here, c.most)

-- ---- one behind the other

pub others-both : (s : Sharded) (a b c : Pages) → Others s a b → Others s b c → Others s a c
others-both s a b c first second place behind = second place behind ∙ first place behind
