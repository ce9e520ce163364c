-- What follows for runs over any device, by the theorem.
use Rattle.std.proofs.Common.{◌≡◌, Bool, List, [], ◌∷◌, length, take, ap, sym, subst, append-nil, arith}
use Rattle.hc_types.specs.Config.{Config}
use Rattle.hc_history.specs.Note.{Note}
use Rattle.hc_history.specs.Lawful.{Legal}
use Rattle.hc_history.specs.Honest.{Honest}
use Rattle.hc_machine.specs.Schedule.{Step, Scene, Told, Ran, run, ended, all_of}
use Rattle.hc_follows.specs.Desk.{Desk, new_desk}
use Rattle.hc_follows.specs.Follows.{FollowsFrom, desk_after}
use Rattle.hc_theorem.specs.slots.BetweenScene.{BetweenScene}
use Rattle.hc_theorem.proofs.headlines.WholeRuns.{headline_of_schedules, schedules_stand}
use Rattle.hc_run.specs.Steps.{breaking}
use Rattle.hc_run.specs.Laws.{ChainsAreRuns, RunsStand, RunsKeepPromise}
use Rattle.hc_run.proofs.Chaining as chaining

pub chains_are_runs : ChainsAreRuns
chains_are_runs = chaining.chains_are_runs

pub runs_stand : RunsStand
runs_stand config steps answers parts new right sized r =
    let at : (run config r.broke steps).scene ≡ breaking [] new = subst (λ (breaks : List Bool). (run config breaks steps).scene ≡ breaking [] new) (append-nil r.broke) (ap (λ (x : Ran). x.scene) (r.ran [])) in
    let stands = subst (λ (scene : Scene). BetweenScene config (all_of (run config r.broke steps).parts) scene) at (schedules_stand config r.broke steps right sized) in
    record {
      reads = stands.between.known;
      own = record { held = stands.held; unique = λ n. omega (arith, stands.between.charges.one_number n); known = stands.open_slots };
    }

-- what the steps so far follow, all of them follow as far
follows_more : (config : Config) (desk : Desk) (steps : List Step) (answers : List Told) (parts : List (List Note)) (last : List Note) → FollowsFrom config desk (take (length answers) steps) answers parts last → FollowsFrom config desk steps answers parts last
follows_more config desk [] [] [] last h = h
follows_more config desk (s ∷ steps) [] [] last h = h
follows_more config desk [] [] (part ∷ parts) last h = absurd h
follows_more config desk (s ∷ steps) [] (part ∷ parts) last h = absurd h
follows_more config desk [] (told ∷ answers) parts last h = h
follows_more config desk (s ∷ steps) (told ∷ answers) [] last h = absurd h
follows_more config desk (s ∷ steps) (told ∷ answers) (part ∷ parts) last h = (h.0, follows_more config (desk_after s.deed told part desk) steps answers parts last h.1)

pub runs_keep_promise : RunsKeepPromise
runs_keep_promise config steps answers ends log stopped right sized stops r =
    let made = take (length answers) steps in
    let ran = run config r.breaks made in
    let all = headline_of_schedules config r.breaks made right sized in
    record {
      legal = subst (λ (l : List Note). Legal config l) (sym r.told) all.right.legal;
      honest = subst (λ (l : List Note). Honest l) (sym r.told) all.right.honest;
      follows = record {
        parts = ran.parts;
        last = (ended ran).part;
        ended = r.ended;
        told = r.told;
        follows = record { stops = stops; follows = follows_more config new_desk steps answers ran.parts (ended ran).part (subst (λ (as' : List Told). FollowsFrom config new_desk made as' ran.parts (ended ran).part) (sym r.answered) all.follows.follows) };
      };
    }
