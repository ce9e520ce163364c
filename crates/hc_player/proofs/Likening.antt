-- No line can tell worlds apart that are alike.
use Rattle.std.proofs.Common.{◌≡◌, ℕ, ◌==◌, ◌||◌, Bool, List, Option, Some, None, refl, sym, ap, subst, ◌∙◌}
use Rattle.std.specs.Prelude.{if◌then◌else◌}
use Rattle.hc_engines.specs.Engine.{Order, IoResult}
use Rattle.hc_machine.specs.World as world
use Rattle.hc_machine.specs.World.{World, Line, Result, Stepped, step, io_of, done_of, order_in, result_at, result_of, breaks_next}
use Rattle.hc_player.specs.Alike.{Alike}
use Rattle.hc_player.proofs.Resulting.{result-gone}
use Rattle.hc_trace_meaning.specs.Actions.{Action, Deed, Acts, Barred, Rests, Moved, said_answer, deed_of, done, act}

-- ---- a step

record LikeStep (a b : Stepped) : Type 0 where
  world : Alike a.world b.world
  said : a.said ≡ b.said
  part : a.part ≡ b.part

module _ (w : World) (rs : List Result) (same : (job : ℕ) → result_at job rs ≡ result_at job w.results) where
  -- the world, with the results in another order
  abbrev other : World
  other = record w { results = rs }

  stays_like : Alike other w
  stays_like = record { cache = refl; pages = λ page. refl; results = same; breaks = refl; failures = refl }

  io_like : (job : ℕ) (fails : Bool) (order : Option Order) (result : Option IoResult) → LikeStep (io_of other job fails order result) (io_of w job fails order result)
  io_like job fails (Some order) None = record {
    world = record {
      cache = refl;
      pages = λ page. refl;
      results = λ every. ap (λ (r : Option IoResult). if job == every then Some (result_of order (fails || breaks_next w.breaks) w.pages) else r) (same every);
      breaks = refl;
      failures = refl;
    };
    said = refl;
    part = refl;
  }
  io_like job fails None None = record { world = stays_like; said = refl; part = refl }
  io_like job fails None (Some result) = record { world = stays_like; said = refl; part = refl }
  io_like job fails (Some order) (Some result) = record { world = stays_like; said = refl; part = refl }

  done_like : (job : ℕ) (result : Option IoResult) → LikeStep (done_of other job result) (done_of w job result)
  done_like job None = record { world = stays_like; said = refl; part = refl }
  done_like job (Some result) = record {
    world = record {
      cache = refl;
      pages = λ page. refl;
      results = λ every. result-gone job every rs ∙ ap (λ (r : Option IoResult). if job == every then None else r) (same every) ∙ sym (result-gone job every w.results);
      breaks = refl;
      failures = refl;
    };
    said = refl;
    part = refl;
  }

  step_like : (line : Line) → LikeStep (step line other) (step line w)
  step_like (world.Io job fails) =
      subst (λ (r : Option IoResult). LikeStep (io_of other job fails (order_in w.cache.nvm job) r) (io_of w job fails (order_in w.cache.nvm job) (result_at job w.results))) (sym (same job)) (io_like job fails (order_in w.cache.nvm job) (result_at job w.results))
  step_like (world.Done job) = subst (λ (r : Option IoResult). LikeStep (done_of other job r) (done_of w job (result_at job w.results))) (sym (same job)) (done_like job (result_at job w.results))
  step_like (world.Set pool key value ttl) = record { world = record { cache = refl; pages = λ page. refl; results = same; breaks = refl; failures = refl }; said = refl; part = refl }
  step_like (world.Add pool key value ttl) = record { world = record { cache = refl; pages = λ page. refl; results = same; breaks = refl; failures = refl }; said = refl; part = refl }
  step_like (world.Get key) = record { world = record { cache = refl; pages = λ page. refl; results = same; breaks = refl; failures = refl }; said = refl; part = refl }
  step_like (world.Del key) = record { world = record { cache = refl; pages = λ page. refl; results = same; breaks = refl; failures = refl }; said = refl; part = refl }
  step_like (world.At moment) = record { world = record { cache = refl; pages = λ page. refl; results = same; breaks = refl; failures = refl }; said = refl; part = refl }
  step_like world.Writer = record { world = record { cache = refl; pages = λ page. refl; results = same; breaks = refl; failures = refl }; said = refl; part = refl }
  step_like world.Filler = record { world = record { cache = refl; pages = λ page. refl; results = same; breaks = refl; failures = refl }; said = refl; part = refl }
  step_like world.Reclaim = record { world = record { cache = refl; pages = λ page. refl; results = same; breaks = refl; failures = refl }; said = refl; part = refl }
  step_like (world.Reply call) = record { world = record { cache = refl; pages = λ page. refl; results = same; breaks = refl; failures = refl }; said = refl; part = refl }

-- ---- a line

-- the line comes to the same
pub record LikeMoved (a b : Moved) : Type 0 where
  pub world : Alike a.world b.world
  pub answer : a.answer ≡ b.answer
  pub notes : a.notes ≡ b.notes

done_alike : (w : World) (rs : List Result) (same : (job : ℕ) → result_at job rs ≡ result_at job w.results) (deed : Deed) → LikeMoved (done deed (record w { results = rs })) (done deed w)
done_alike w rs same (Acts line) =
    let l = step_like w rs same line in
    record { world = l.world; answer = ap said_answer l.said; notes = l.part }
done_alike w rs same (Barred refusal) = record { world = stays_like w rs same; answer = refl; notes = refl }
done_alike w rs same Rests = record { world = stays_like w rs same; answer = refl; notes = refl }

-- worlds that are alike differ in their results alone
but_results : (a b : World) → Alike a b → a ≡ record b { results = a.results }
but_results a b l = λ i. record { cache = l.cache i; pages = λ page. l.pages page i; results = a.results; breaks = l.breaks i; failures = l.failures i }

pub act-alike : (a b : World) → Alike a b → (action : Action) → LikeMoved (act action a) (act action b)
act-alike a b l action = subst (λ (w : World). LikeMoved (act action w) (act action b)) (sym (but_results a b l)) (done_alike b a.results l.results (deed_of action))
