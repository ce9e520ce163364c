-- The jobs that are out at the desk are those of the cache, after a take and after a result.
use Rattle.std.proofs.Common.{◌≡◌, ℕ, ◌+◌, ◌==◌, Bool, true, false, not, List, [], ◌∷◌, ◌++◌, Option, Some, None, refl, ap, sym, ◌∙◌, subst}
use Rattle.std.specs.Prelude.{if◌then◌else◌, option_map}
use Rattle.std.proofs.lemmas.Bool.{eqb-true, eq-eqb}
use Rattle.hc_engines.specs.Engine.{Order, Pages, IoResult}
use Rattle.hc_machine.specs.Nvm.{Nvm, Task, Job, is_job, job_at, ordered}
use Rattle.hc_machine.specs.Takes.{Take, Idle, Finished, Work}
use Rattle.hc_machine.specs.World.{Result, result_at, without_result}
use Rattle.hc_proof.proofs.frames.ByNumber.{find-map, found-passes}
use Rattle.hc_proof.proofs.frames.JobLists.{gone_at}
use Rattle.hc_proof.proofs.frames.Lists.{find-push, first-none}
use Rattle.hc_follows.specs.Desk.{Out, Sheet, job_out, without_out}
use Rattle.hc_theorem.specs.idle.Takings.{JobsTaken, JobsWent}
use Rattle.hc_theorem.specs.clients.Matches.{JobsMatch}
use Rattle.hc_proof.proofs.jobs.LargeFrame.{turned}

own : (a b : ℕ) → (a == b) ≡ true → (b == a) ≡ true
own a b e = turned b a ∙ e

not_own : (a b : ℕ) → (a == b) ≡ false → (b == a) ≡ false
not_own a b e = turned b a ∙ e

pub out_less : (job n : ℕ) (outs : List Out) → job_out n (without_out job outs) ≡ (if n == job then None else job_out n outs)
out_less job n [] = go (n == job)
  where
    go : (t : Bool) → ◌≡◌ {A = Option Out} None (if t then None else None)
    go true = refl
    go false = refl
out_less job n (out ∷ outs) = go (out.job == job) refl (out.job == n) refl (n == job) refl (out_less job n outs)
  where
    go : (t : Bool) → (out.job == job) ≡ t → (u : Bool) → (out.job == n) ≡ u → (v : Bool) → (n == job) ≡ v → job_out n (without_out job outs) ≡ (if n == job then None else job_out n outs)
        → job_out n (if not t then out ∷ without_out job outs else without_out job outs) ≡ (if n == job then None else (if u then Some out else job_out n outs))
    go true t true u true v h = h ∙ (rw v refl)
    go true t true u false v h = absurd (let same : n ≡ job = sym (eqb-true out.job n u) ∙ eqb-true out.job job t in let e : (n == job) ≡ true = eq-eqb n job same in cc (e, v))
    go true t false u v w h = h
    go false t true u true v h = absurd (let same : out.job ≡ job = eqb-true out.job n u ∙ eqb-true n job v in let e : (out.job == job) ≡ true = eq-eqb out.job job same in cc (e, t))
    go false t true u false v h = rw (u, v) refl
    go false t false u v w h = rw u h

result_less : (job n : ℕ) (rs : List Result) → result_at n (without_result job rs) ≡ (if n == job then None else result_at n rs)
result_less job n [] = go (n == job)
  where
    go : (t : Bool) → ◌≡◌ {A = Option IoResult} None (if t then None else None)
    go true = refl
    go false = refl
result_less job n (r ∷ rs) = go (r.job == job) refl (r.job == n) refl (n == job) refl (result_less job n rs)
  where
    go : (t : Bool) → (r.job == job) ≡ t → (u : Bool) → (r.job == n) ≡ u → (v : Bool) → (n == job) ≡ v → result_at n (without_result job rs) ≡ (if n == job then None else result_at n rs)
        → result_at n (if not t then r ∷ without_result job rs else without_result job rs) ≡ (if n == job then None else (if u then Some r.result else result_at n rs))
    go true t true u true v h = h ∙ (rw v refl)
    go true t true u false v h = absurd (let same : n ≡ job = sym (eqb-true r.job n u) ∙ eqb-true r.job job t in let e : (n == job) ≡ true = eq-eqb n job same in cc (e, v))
    go true t false u v w h = h
    go false t true u true v h = absurd (let same : r.job ≡ job = eqb-true r.job n u ∙ eqb-true n job v in let e : (r.job == job) ≡ true = eq-eqb r.job job same in cc (e, t))
    go false t true u false v h = rw (u, v) refl
    go false t false u v w h = rw u h

-- ---- orders

abbrev order_out : Option Out → Option Order
order_out o = option_map (λ (out : Out). out.order) o

abbrev order_of : Option Job → Option Order
order_of o = option_map (λ (job : Job). job.order) o

pushed : (m n : ℕ) (task : Task) (order : Order) (jobs : List Job) → job_at n jobs ≡ None → (t : Bool) → (n == m) ≡ t → order_of (job_at m (jobs ++ record { number = n; task = task; order = order } ∷ [])) ≡ (if t then Some order else order_of (job_at m jobs))
pushed m n task order jobs none true e =
    let job : Job = record { number = n; task = task; order = order } in
    let same : n ≡ m = eqb-true n m e in
    let gone : job_at m jobs ≡ None = subst (λ (k : ℕ). job_at k jobs ≡ None) same none in
    ap order_of (find-push (is_job m) jobs job) ∙ (rw (gone, e) refl)
pushed m n task order jobs none false e =
    let job : Job = record { number = n; task = task; order = order } in
    ap order_of (find-push (is_job m) jobs job) ∙ (rw e (ap order_of (first-none (job_at m jobs))))

abbrev anew : ℕ → Order → Out
anew n order = record { job = n; order = order; result = None }

-- at the desk a job comes, or goes on with another order
come : (m n : ℕ) (order : Order) (outs : List Out) (t : Bool) → (n == m) ≡ t → job_out m (anew n order ∷ without_out n outs) ≡ (if t then Some (anew n order) else job_out m outs)
come m n order outs true e = rw e refl
come m n order outs false e = rw e (out_less n m outs ∙ ap (λ b. if b then None else job_out m outs) (not_own n m e))

come_order : (m n : ℕ) (order : Order) (outs : List Out) (old : Option Order) (t : Bool) → order_out (job_out m outs) ≡ old → order_out (if t then Some (anew n order) else job_out m outs) ≡ (if t then Some order else old)
come_order m n order outs old true h = refl
come_order m n order outs old false h = h

come_result : (m n : ℕ) (order : Order) (outs : List Out) (rs : List Result) (out : Out) (t : Bool) → (n == m) ≡ t → result_at n rs ≡ None → ((x : Out) → job_out m outs ≡ Some x → x.result ≡ result_at m rs)
    → (if t then Some (anew n order) else job_out m outs) ≡ Some out → out.result ≡ result_at m rs
come_result m n order outs rs out true e none each h =
    let same : n ≡ m = eqb-true n m e in
    let its : anew n order ≡ out = cc in
    sym (ap (λ (o : Out). o.result) its) ∙ sym (subst (λ (k : ℕ). result_at k rs ≡ None) same none)
come_result m n order outs rs out false e none each h = each out h

-- ---- after a take

abbrev pub outs_by : Take → List Out → List Out
outs_by Idle outs = outs
outs_by Finished outs = outs
outs_by (Work n order) outs = anew n order ∷ without_out n outs

pub taken_jobs : (outs : List Out) (sheets : List Sheet) (nvm : Nvm) (rs : List Result) (pages : Pages) (take : Take) (new : List Job) → JobsMatch outs sheets nvm.jobs rs pages → job_at (nvm.made + 1) nvm.jobs ≡ None → result_at (nvm.made + 1) rs ≡ None
    → JobsTaken nvm take new → JobsMatch (outs_by take outs) sheets new rs pages
taken_jobs outs sheets nvm rs pages Idle new m none free j = subst (λ (jobs : List Job). JobsMatch outs sheets jobs rs pages) (sym j) m
taken_jobs outs sheets nvm rs pages Finished new m none free j = subst (λ (jobs : List Job). JobsMatch outs sheets jobs rs pages) (sym j) m
taken_jobs outs sheets nvm rs pages (Work n order) new m none free j =
    let gone : job_at n nvm.jobs ≡ None = subst (λ (k : ℕ). job_at k nvm.jobs ≡ None) (sym j.1) none in
    let clear : result_at n rs ≡ None = subst (λ (k : ℕ). result_at k rs ≡ None) (sym j.1) free in
    let more = nvm.jobs ++ record { number = n; task = j.0; order = order } ∷ [] in
    subst (λ (jobs : List Job). JobsMatch (anew n order ∷ without_out n outs) sheets jobs rs pages) (sym j.2) (record {
      orders = λ k. ap order_out (come k n order outs (n == k) refl) ∙ come_order k n order outs (order_of (job_at k nvm.jobs)) (n == k) (m.orders k) ∙ sym (pushed k n j.0 order nvm.jobs gone (n == k) refl);
      results = λ k out at. come_result k n order outs rs out (n == k) refl clear (m.results k) (sym (come k n order outs (n == k) refl) ∙ at);
      sheets = m.sheets;
    })

-- ---- after a result

abbrev pub outs_went : ℕ → Take → List Out → List Out
outs_went job Idle outs = outs
outs_went job Finished outs = without_out job outs
outs_went job (Work n order) outs = anew n order ∷ without_out n outs

ordered_now : (number n : ℕ) (order : Order) (jobs : List Job) (job : Job) → job_at number jobs ≡ Some job → (t : Bool) → (number == n) ≡ t → order_of (job_at n (ordered number order jobs)) ≡ (if t then Some order else order_of (job_at n jobs))
ordered_now number n order jobs job at t e =
    ap order_of (find-map (is_job n) (λ (x : Job). if is_job number x then record x { order = order } else x) same jobs) ∙ by (job_at n jobs) refl t e
  where
    same : (x : Job) → is_job n (if is_job number x then record x { order = order } else x) ≡ is_job n x
    same x = go (is_job number x)
      where
        go : (t : Bool) → is_job n (if t then record x { order = order } else x) ≡ is_job n x
        go true = refl
        go false = refl

    by : (o : Option Job) → job_at n jobs ≡ o → (t : Bool) → (number == n) ≡ t → order_of (option_map (λ (x : Job). if is_job number x then record x { order = order } else x) o) ≡ (if t then Some order else order_of o)
    by None none true e = absurd (let same : number ≡ n = eqb-true number n e in let there : job_at n jobs ≡ Some job = subst (λ (k : ℕ). job_at k jobs ≡ Some job) same at in let clash : None ≡ Some job = sym none ∙ there in cc)
    by None none false e = refl
    by (Some x) found true e =
        let its : x.number ≡ n = eqb-true x.number n (found-passes (is_job n) jobs x found) in
        let test : is_job number x ≡ true = eq-eqb x.number number (its ∙ sym (eqb-true number n e)) in
        (rw test refl)
    by (Some x) found false e =
        let its : x.number ≡ n = eqb-true x.number n (found-passes (is_job n) jobs x found) in
        let test : is_job number x ≡ false = ap (λ k. k == number) its ∙ not_own number n e in
        (rw test refl)

none_left : (job : ℕ) (rs : List Result) → result_at job (without_result job rs) ≡ None
none_left job rs = result_less job job rs ∙ ap (λ b. if b then None else result_at job rs) (eq-eqb job job refl)

over_order : (t : Bool) (o : Option Out) (p : Option Job) → order_out o ≡ order_of p → order_out (if t then None else o) ≡ order_of (if t then None else p)
over_order true o p h = refl
over_order false o p h = h

over_result : (job n : ℕ) (rs : List Result) (o : Option Out) (out : Out) → ((x : Out) → o ≡ Some x → x.result ≡ result_at n rs) → (t : Bool) → (n == job) ≡ t → (if t then None else o) ≡ Some out → out.result ≡ result_at n (without_result job rs)
over_result job n rs o out each true e h = absurd cc
over_result job n rs o out each false e h = each out h ∙ sym (result_less job n rs ∙ ap (λ b. if b then None else result_at n rs) e)

kept_result : (job n : ℕ) (rs : List Result) (x : Out) → (job == n) ≡ false → x.result ≡ result_at n rs → x.result ≡ result_at n (without_result job rs)
kept_result job n rs x e h = h ∙ sym (result_less job n rs ∙ ap (λ b. if b then None else result_at n rs) (not_own job n e))

pub went_jobs : (outs : List Out) (sheets : List Sheet) (jobs : List Job) (rs : List Result) (pages : Pages) (number : ℕ) (job : Job) (take : Take) (new : List Job) → JobsMatch outs sheets jobs rs pages → job_at number jobs ≡ Some job
    → JobsWent number jobs take new → JobsMatch (outs_went number take outs) sheets new (without_result number rs) pages
went_jobs outs sheets jobs rs pages number job Idle new m at j = absurd j
went_jobs outs sheets jobs rs pages number job Finished new m at j = subst (λ (xs : List Job). JobsMatch (without_out number outs) sheets xs (without_result number rs) pages) (sym j) (record {
  orders = λ k. ap order_out (out_less number k outs) ∙ over_order (k == number) (job_out k outs) (job_at k jobs) (m.orders k) ∙ sym (ap order_of (gone_at number k jobs));
  results = λ k out h. over_result number k rs (job_out k outs) out (m.results k) (k == number) refl (sym (out_less number k outs) ∙ h);
  sheets = m.sheets;
})
went_jobs outs sheets jobs rs pages number job (Work n order) new m at j =
    let all : JobsMatch (anew number order ∷ without_out number outs) sheets (ordered number order jobs) (without_result number rs) pages = record {
      orders = λ k. ap order_out (come k number order outs (number == k) refl) ∙ come_order k number order outs (order_of (job_at k jobs)) (number == k) (m.orders k) ∙ sym (ordered_now number k order jobs job at (number == k) refl);
      results = λ k out h. goes k out (number == k) refl (sym (come k number order outs (number == k) refl) ∙ h);
      sheets = m.sheets;
    } in
    subst (λ (xs : List Job). JobsMatch (anew n order ∷ without_out n outs) sheets xs (without_result number rs) pages) (sym j.1)
    (subst (λ (k : ℕ). JobsMatch (anew k order ∷ without_out k outs) sheets (ordered number order jobs) (without_result number rs) pages) (sym j.0) all)
  where
    goes : (k : ℕ) (out : Out) (t : Bool) → (number == k) ≡ t → (if t then Some (anew number order) else job_out k outs) ≡ Some out → out.result ≡ result_at k (without_result number rs)
    goes k out true e h =
        let same : number ≡ k = eqb-true number k e in
        let its : anew number order ≡ out = cc in
        sym (ap (λ (o : Out). o.result) its) ∙ sym (subst (λ (x : ℕ). result_at x (without_result number rs) ≡ None) same (none_left number rs))
    goes k out false e h = kept_result number k rs out e (m.results k out h)
