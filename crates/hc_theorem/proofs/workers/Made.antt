-- A job's operation is made: what the device answers, and what stands on it then.
use Rattle.std.proofs.Common.{◌≡◌, ℕ, ◌+◌, ◌==◌, Bool, true, false, ◌||◌, List, [], ◌∷◌, ◌++◌, map, Option, Some, None, refl, ap, sym, ◌∙◌, subst}
use Rattle.std.specs.Prelude.{if◌then◌else◌, IsSome, option_map}
use Rattle.std.proofs.lemmas.Bool.{eqb-true, eq-eqb}
use Rattle.std.proofs.lemmas.List.{append-nil}
use Rattle.hc_types.specs.Config.{Config}
use Rattle.hc_engines.specs.Engine.{Order, Read, Write, Pages, pages_after, IoResult, Page, Written, Failed}
use Rattle.hc_history.specs.Note.{Note}
use Rattle.hc_machine.specs.Nvm.{Nvm, Job}
use Rattle.hc_types.specs.declared.refusal.Refusal.TheVariants.{UnknownJob}
use Rattle.hc_machine.specs.Cache.{Refused}
use Rattle.hc_machine.specs.World.{Says, Made, Result, order_in, result_at, read_of, result_of, breaks_next, failures_after, reached, made, io_of, refused}
use Rattle.hc_machine.specs.Schedule.{Scene, Io, Tells, in_world}
use Rattle.hc_proof.proofs.frames.ByNumber.{find-map, found-passes}
use Rattle.hc_machine.specs.Quiet.{jobs_in}
use Rattle.hc_theorem.specs.runs.Scene.{SceneHolds}
use Rattle.hc_theorem.specs.runs.Between.{IsKnown}
use Rattle.hc_theorem.proofs.runs.Betweens.{runs_are_between}
use Rattle.hc_theorem.proofs.runs.OrdersStay.{order-is}
use Rattle.hc_follows.specs.Desk.{Out, Sheet, Desk, job_out}
use Rattle.hc_follows.specs.Workers.{sheet_at, IsResultOf, IoPart, pages_by, pages_made}
use Rattle.hc_theorem.specs.clients.Matches.{JobsMatch, Matches}
use Rattle.hc_theorem.specs.clients.Deeds.{Followed, DeedFollows}
use Rattle.hc_proof.proofs.jobs.LargeFrame.{turned}

-- ---- the result

is_result : (order : Order) (fails breaks : Bool) (sheets : List Sheet) (pages : Pages) (failures : ℕ) → ((page : ℕ) → sheet_at page sheets ≡ pages page) → ((page : ℕ) → order ≡ Read page → IsKnown (pages page))
    → IsResultOf order fails sheets failures (result_of order (fails || breaks) pages) (if fails then failures else (if breaks then failures + 1 else failures))
is_result (Read page) true breaks sheets pages failures same known = refl
is_result (Write page bytes) true breaks sheets pages failures same known = refl
is_result (Read page) false true sheets pages failures same known = refl
is_result (Write page bytes) false true sheets pages failures same known = refl
is_result (Write page bytes) false false sheets pages failures same known = refl
is_result (Read page) false false sheets pages failures same known =
    let k = known page refl in
    subst (λ (o : Option (List ℕ)). IsResultOf (Read page) false sheets failures (read_of o) failures) (sym k.1) (same page ∙ k.1, refl)

counted : (fails : Bool) (breaks : List Bool) (failures : ℕ) → failures_after fails breaks failures ≡ (if fails then failures else (if breaks_next breaks then failures + 1 else failures))
counted true breaks failures = refl
counted false breaks failures = refl

written_sheets : (order : Order) (result : IoResult) (sheets : List Sheet) (pages : Pages) → ((page : ℕ) → sheet_at page sheets ≡ pages page) → (page : ℕ) → sheet_at page (pages_by order result sheets) ≡ pages_after order result pages page
written_sheets (Read p) result sheets pages same page = same page
written_sheets (Write p bytes) (Page read) sheets pages same page = same page
written_sheets (Write p bytes) Written sheets pages same page = (λ i. if p == page then Some bytes else same page i)
written_sheets (Write p bytes) Failed sheets pages same page = (λ i. if p == page then None else same page i)

-- ---- jobs

-- the result waits at its job
abbrev with_result : ℕ → IoResult → Out → Out
with_result job result out = if out.job == job then record out { result = Some result } else out

same_job : (job n : ℕ) (result : IoResult) (out : Out) → ((with_result job result out).job == n) ≡ (out.job == n)
same_job job n result out = go (out.job == job)
  where
    go : (t : Bool) → ((if t then record out { result = Some result } else out).job == n) ≡ (out.job == n)
    go true = refl
    go false = refl

out_at : (job n : ℕ) (result : IoResult) (outs : List Out) → job_out n (map (with_result job result) outs) ≡ option_map (with_result job result) (job_out n outs)
out_at job n result outs = find-map (λ (out : Out). out.job == n) (with_result job result) (same_job job n result) outs

same_order : (job : ℕ) (result : IoResult) (o : Option Out) → option_map (λ (out : Out). out.order) (option_map (with_result job result) o) ≡ option_map (λ (out : Out). out.order) o
same_order job result None = refl
same_order job result (Some out) = go (out.job == job)
  where
    go : (t : Bool) → ◌≡◌ {A = Option Order} (Some (if t then record out { result = Some result } else out).order) (Some out.order)
    go true = refl
    go false = refl

result_waits : (job n : ℕ) (result : IoResult) (rs : List Result) (x out : Out) → x.job ≡ n → with_result job result x ≡ out → x.result ≡ result_at n rs → out.result ≡ result_at n (record { job = job; result = result } ∷ rs)
result_waits job n result rs x out at is h = go (x.job == job) refl
  where
    go : (t : Bool) → (x.job == job) ≡ t → out.result ≡ (if job == n then Some result else result_at n rs)
    go true e =
        let here : job ≡ n = sym (eqb-true x.job job e) ∙ at in
        let test : (job == n) ≡ true = eq-eqb job n here in
        let its : record x { result = Some result } ≡ out = (rw e at is) in
        rw test (sym (ap (λ (o : Out). o.result) its))
    go false e =
        let test : (job == n) ≡ false = turned job n ∙ ap (λ k. k == job) (sym at) ∙ e in
        let its : x ≡ out = (rw e at is) in
        rw test (sym (ap (λ (o : Out). o.result) its) ∙ h)

made_jobs : (outs : List Out) (sheets : List Sheet) (jobs : List Job) (rs : List Result) (pages : Pages) (job : ℕ) (order : Order) (result : IoResult) → JobsMatch outs sheets jobs rs pages
    → JobsMatch (map (with_result job result) outs) (pages_by order result sheets) jobs (record { job = job; result = result } ∷ rs) (pages_after order result pages)
made_jobs outs sheets jobs rs pages job order result m = record {
  orders = λ n. ap (option_map (λ (out : Out). out.order)) (out_at job n result outs) ∙ same_order job result (job_out n outs) ∙ m.orders n;
  results = λ n out at. waits n out (job_out n outs) refl (sym (out_at job n result outs) ∙ at);
  sheets = written_sheets order result sheets pages m.sheets;
}
  where
    waits : (n : ℕ) (out : Out) (o : Option Out) → job_out n outs ≡ o → option_map (with_result job result) o ≡ Some out → out.result ≡ result_at n (record { job = job; result = result } ∷ rs)
    waits n out None e h = absurd cc
    waits n out (Some x) e h =
        let its : with_result job result x ≡ out = cc in
        result_waits job n result rs x out (eqb-true x.job n (found-passes (λ (y : Out). y.job == n) outs x e)) its (m.results n x e)

-- ---- the step

order_out : (outs : List Out) (sheets : List Sheet) (nvm : Option Nvm) (rs : List Result) (pages : Pages) → JobsMatch outs sheets (jobs_in nvm) rs pages → (n : ℕ) → option_map (λ (out : Out). out.order) (job_out n outs) ≡ order_in nvm n
order_out outs sheets nvm rs pages m n = m.orders n ∙ sym (order-is nvm n)

pub still_matches : (log : List Note) (desk : Desk) (scene : Scene) → Matches log desk scene → Matches (log ++ []) desk scene
still_matches log desk scene m = subst (λ (l : List Note). Matches l desk scene) (sym (append-nil log)) m

module _ (job : ℕ) (fails : Bool) (config : Config) (log : List Note) (scene : Scene) (desk : Desk) (client : ℕ) (h : SceneHolds config log scene) (m : Matches log desk scene) where
  not_out : order_in scene.world.cache.nvm job ≡ None → job_out job desk.jobs ≡ None
  not_out e = go (job_out job desk.jobs) refl (order_out desk.jobs desk.pages scene.world.cache.nvm scene.world.results scene.world.pages m.jobs job ∙ e)
    where
      go : (o : Option Out) → job_out job desk.jobs ≡ o → option_map (λ (out : Out). out.order) o ≡ None → o ≡ None
      go None e h = refl
      go (Some out) e h = absurd cc

  is_out : (order : Order) → order_in scene.world.cache.nvm job ≡ Some order → (out : Out) × (job_out job desk.jobs ≡ Some out) × (out.order ≡ order)
  is_out order e = go (job_out job desk.jobs) refl (order_out desk.jobs desk.pages scene.world.cache.nvm scene.world.results scene.world.pages m.jobs job ∙ e)
    where
      go : (o : Option Out) → job_out job desk.jobs ≡ o → option_map (λ (out : Out). out.order) o ≡ Some order → (out : Out) × (o ≡ Some out) × (out.order ≡ order)
      go None e h = absurd cc
      go (Some out) e h = (out, refl, cc)

  by_out : (o : Option Out) (failures : ℕ) (result : IoResult) (order : Order) (out : Out) → o ≡ Some out → out.order ≡ order → out.result ≡ None → IsResultOf order fails desk.pages desk.failures result failures → IoPart o fails desk.pages desk.failures (Tells (Made result failures)) []
  by_out o failures result order out e same none r =
      subst (λ (x : Option Out). IoPart x fails desk.pages desk.failures (Tells (Made result failures)) []) (sym e)
      (none, subst (λ (y : Order). IsResultOf y fails desk.pages desk.failures result failures) (sym same) r, refl)

  made_follows : (order : Order) → order_in scene.world.cache.nvm job ≡ Some order → result_at job scene.world.results ≡ None
      → Followed config log desk client (Io job fails) (in_world scene.slots (made (reached fails scene.world) job order (result_of order (fails || breaks_next scene.world.breaks) scene.world.pages)))
  made_follows order e none =
      let w = scene.world in
      let result = result_of order (fails || breaks_next w.breaks) w.pages in
      let failures = failures_after fails w.breaks w.failures in
      let out = is_out order e in
      let known : (page : ℕ) → order ≡ Read page → IsKnown (w.pages page) = λ page same. (runs_are_between config log w h.holds).known job page (e ∙ ap Some same) in
      let its : IsResultOf order fails desk.pages w.failures result failures = subst (λ (n : ℕ). IsResultOf order fails desk.pages w.failures result n) (sym (counted fails w.breaks w.failures)) (is_result order fails (breaks_next w.breaks) desk.pages w.pages w.failures m.jobs.sheets known) in
      let mine : IsResultOf order fails desk.pages desk.failures result failures = subst (λ (n : ℕ). IsResultOf order fails desk.pages n result failures) (sym m.failures) its in
      let jobs = made_jobs desk.jobs desk.pages (jobs_in w.cache.nvm) w.results w.pages job order result m.jobs in
      let sheets : pages_made (job_out job desk.jobs) result desk.pages ≡ pages_by order result desk.pages = ap (λ o. pages_made o result desk.pages) out.1 ∙ ap (λ o. pages_by o result desk.pages) out.2 in
      let s = still_matches log desk scene m in
      record {
        part = by_out (job_out job desk.jobs) failures result order out.0 out.1 out.2 (m.jobs.results job out.0 out.1 ∙ none) mine;
        matches = record {
          older = s.older;
          slots = s.slots;
          adds = s.adds;
          jobs = subst (λ (xs : List Sheet). JobsMatch (map (with_result job result) desk.jobs) xs (jobs_in w.cache.nvm) (record { job = job; result = result } ∷ w.results) (pages_after order result w.pages)) (sym sheets) jobs;
          failures = refl;
        };
      }

  refused_follows : IoPart (job_out job desk.jobs) fails desk.pages desk.failures (Tells (Says (Refused UnknownJob))) [] → Followed config log desk client (Io job fails) (in_world scene.slots (refused scene.world UnknownJob))
  refused_follows p = let s = still_matches log desk scene m in record { part = p; matches = record { older = s.older; slots = s.slots; adds = s.adds; jobs = s.jobs; failures = s.failures } }

  by_order : (o : Option Order) → order_in scene.world.cache.nvm job ≡ o → (x : Option IoResult) → result_at job scene.world.results ≡ x → Followed config log desk client (Io job fails) (in_world scene.slots (io_of scene.world job fails o x))
  by_order None e x f = refused_follows (subst (λ (o : Option Out). IoPart o fails desk.pages desk.failures (Tells (Says (Refused UnknownJob))) []) (sym (not_out e)) refl)
  by_order (Some order) e (Some result) f =
      let out = is_out order e in
      refused_follows (subst (λ (o : Option Out). IoPart o fails desk.pages desk.failures (Tells (Says (Refused UnknownJob))) []) (sym out.1) (subst (λ (x : Option IoResult). IsSome x) (sym (m.jobs.results job out.0 out.1 ∙ f)) refl, refl))
  by_order (Some order) e None f = made_follows order e f

pub io_follows : (job : ℕ) (fails : Bool) → DeedFollows (Io job fails)
io_follows job fails config log scene desk client before after m = by_order job fails config log scene desk client before m (order_in scene.world.cache.nvm job) refl (result_at job scene.world.results) refl
