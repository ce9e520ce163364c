-- The run of one shard among others.
use Rattle.std.proofs.Common.{◌≡◌, ℕ, ◌+◌, ◌≤◌, List, [], ◌∷◌, ◌++◌, length, take, Option, Some, None, is_some, true, false, refl, ap, sym, subst, ◌∙◌, arith, length-append}
use Rattle.std.proofs.lemmas.List.{take-append-le}
use Rattle.hc_types.specs.Config.{Config}
use Rattle.hc_types.specs.Limits.{first_wrong}
use Rattle.hc_engines.specs.Engine.{Pages}
use Rattle.hc_machine.specs.Schedule.{Step, Told}
use Rattle.hc_follows.specs.Follows.{StopsAt}
use Rattle.hc_run.specs.Devices.{IsSame}
use Rattle.hc_run.specs.Going.{GoesOn, IsOngoing}
use Rattle.hc_run.specs.Shows.{Window, Stage, AreOwn, Waits}
use Rattle.hc_run.proofs.Going.{ongoing-none, ongoing-more, ongoing-own, ongoing-waits}
use Rattle.hc_run.proofs.Staging.{waits-so}
use Rattle.hc_shard_run.specs.Lanes.{Lane, IsNew, IsLane}

take-whole : (steps : List Step) → take (length steps) steps ≡ steps
take-whole [] = refl
take-whole (s ∷ steps) = ap (λ (all : List Step). s ∷ all) (take-whole steps)

take-front : (n : ℕ) (steps more : List Step) → n ≤ length steps → take n (steps ++ more) ≡ take n steps
take-front n steps more le = take-append-le n steps more le

pub no-some : (o : Option ℕ) → is_some o ≡ false → o ≡ None
no-some None h = refl
no-some (Some x) h = absurd cc

module _ (config : Config) where
  -- before the first step
  pub lane-none : (held : Pages) (window : Window) (lane : Lane) → IsNew config window lane → IsLane held config [] lane
  lane-none held window lane new =
      subst (λ (l : Lane). IsLane held config [] l) (λ i. record { stage = lane.stage; answers = sym new.answers i; ends = sym new.ends i; stopped = sym new.stopped i })
      (record { ongoing = ongoing-none config held lane.stage new.cache new.log new.results new.slots new.failures; stops = refl })

  -- what fills its slots is its cache's own
  pub lane-own : (held : Pages) (steps : List Step) (lane : Lane) → first_wrong config ≡ None → IsLane held config steps lane → AreOwn lane.stage.slots lane.stage.cache
  lane-own held steps lane right l = ongoing-own config (take (length lane.answers) steps) lane.answers lane.ends held lane.stage right l.ongoing

  module _ (steps : List Step) (s : Step) (before after : Pages) (old new : Stage) where
    -- one step more
    pub lane-more : (answers answers' : List Told) (ends ends' : List ℕ) → first_wrong config ≡ None → IsLane before config steps (record { stage = old; answers = answers; ends = ends; stopped = None }) → GoesOn before old answers ends s after new answers' ends'
        → IsLane after config (steps ++ s ∷ []) (record { stage = new; answers = answers'; ends = ends'; stopped = None })
    lane-more answers answers' ends ends' right lane g =
        let all : IsOngoing before config steps answers ends old = subst (λ (all : List Step). IsOngoing before config all answers ends old) (ap (λ n. take n steps) lane.stops ∙ take-whole steps) lane.ongoing in
        let more = ongoing-more config steps answers ends before after old new s g.told right all g.moves in
        let many : length answers' ≡ length (steps ++ s ∷ []) = ap length g.answered ∙ length-append answers (g.told ∷ []) ∙ ap (λ n. n + 1) lane.stops ∙ sym (length-append steps (s ∷ [])) in
        record {
          ongoing = subst (λ (all : List Step). IsOngoing after config all answers' ends' new) (sym (ap (λ n. take n (steps ++ s ∷ [])) many ∙ take-whole (steps ++ s ∷ [])))
              (subst (λ (as' : List Told). IsOngoing after config (steps ++ s ∷ []) as' ends' new) (sym g.answered) (subst (λ (es : List ℕ). IsOngoing after config (steps ++ s ∷ []) (answers ++ g.told ∷ []) es new) (sym g.ended) more));
          stops = many;
        }

    -- out of memory for the step: the shard stops before it
    pub lane-stops : (answers answers' : List Told) (ends ends' : List ℕ) → IsLane before config steps (record { stage = old; answers = answers; ends = ends; stopped = None }) → Waits before old after new → answers' ≡ answers → ends' ≡ ends
        → IsLane after config (steps ++ s ∷ []) (record { stage = new; answers = answers'; ends = ends'; stopped = Some (length answers') })
    lane-stops answers answers' ends ends' lane w a e =
        subst (λ (l : Lane). IsLane after config (steps ++ s ∷ []) l) (λ i. record { stage = new; answers = sym a i; ends = sym e i; stopped = Some (length (sym a i)) })
        (record {
          ongoing = ongoing-waits config (take (length answers) (steps ++ s ∷ [])) answers ends before after old new
              (subst (λ (all : List Step). IsOngoing before config all answers ends old) (sym (take-front (length answers) steps (s ∷ []) (omega (arith, lane.stops)))) lane.ongoing) w;
          stops = (refl, omega (arith, lane.stops, length-append steps (s ∷ [])));
        })

    -- one that hasn't stopped
    pub lane-more-so : (answers answers' : List Told) (ends ends' : List ℕ) (stopped : Option ℕ) → stopped ≡ None → first_wrong config ≡ None → GoesOn before old answers ends s after new answers' ends' → IsLane before config steps (record { stage = old; answers = answers; ends = ends; stopped = stopped })
        → IsLane after config (steps ++ s ∷ []) (record { stage = new; answers = answers'; ends = ends'; stopped = stopped })
    lane-more-so answers answers' ends ends' stopped none right g =
        subst (λ (o : Option ℕ). IsLane before config steps (record { stage = old; answers = answers; ends = ends; stopped = o }) → IsLane after config (steps ++ s ∷ []) (record { stage = new; answers = answers'; ends = ends'; stopped = o })) (sym none)
        (λ lane. lane-more answers answers' ends ends' right lane g)

    pub lane-stops-so : (answers answers' : List Told) (ends ends' : List ℕ) (stopped : Option ℕ) (made : ℕ) → stopped ≡ None → made ≡ length answers' → Waits before old after new → answers' ≡ answers → ends' ≡ ends → IsLane before config steps (record { stage = old; answers = answers; ends = ends; stopped = stopped })
        → IsLane after config (steps ++ s ∷ []) (record { stage = new; answers = answers'; ends = ends'; stopped = Some made })
    lane-stops-so answers answers' ends ends' stopped made none is w a e lane =
        subst (λ (n : ℕ). IsLane after config (steps ++ s ∷ []) (record { stage = new; answers = answers'; ends = ends'; stopped = Some n })) (sym is)
        (lane-stops answers answers' ends ends' (subst (λ (o : Option ℕ). IsLane before config steps (record { stage = old; answers = answers; ends = ends; stopped = o })) none lane) w a e)

  -- a shard that has stopped passes the step over
  passes : (steps : List Step) (s : Step) (held : Pages) (stage : Stage) (answers : List Told) (ends : List ℕ) (n : ℕ) → IsLane held config steps (record { stage = stage; answers = answers; ends = ends; stopped = Some n }) → IsLane held config (steps ++ s ∷ []) (record { stage = stage; answers = answers; ends = ends; stopped = Some n })
  passes steps s held stage answers ends n lane = record {
    ongoing = subst (λ (all : List Step). IsOngoing held config all answers ends stage) (sym (take-front (length answers) steps (s ∷ []) (omega (arith, lane.stops.0, lane.stops.1)))) lane.ongoing;
    stops = (lane.stops.0, omega (arith, lane.stops.1, length-append steps (s ∷ [])));
  }

  pub lane-passes : (steps : List Step) (s : Step) (held : Pages) (stage : Stage) (answers : List Told) (ends : List ℕ) (stopped : Option ℕ) → is_some stopped ≡ true → IsLane held config steps (record { stage = stage; answers = answers; ends = ends; stopped = stopped }) → IsLane held config (steps ++ s ∷ []) (record { stage = stage; answers = answers; ends = ends; stopped = stopped })
  lane-passes steps s held stage answers ends None has lane = absurd cc
  lane-passes steps s held stage answers ends (Some n) has lane = passes steps s held stage answers ends n lane

  -- another shard has operated on the device
  pub lane-stays : (steps : List Step) (before after : Pages) (lane : Lane) → IsSame before after → IsLane before config steps lane → IsLane after config steps lane
  lane-stays steps before after lane same l = record {
    ongoing = ongoing-waits config (take (length lane.answers) steps) lane.answers lane.ends before after lane.stage lane.stage l.ongoing (waits-so before after lane.stage lane.stage refl refl refl (λ job. refl) refl same);
    stops = l.stops;
  }
