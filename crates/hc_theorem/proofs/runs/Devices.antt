-- The device's pages are those of the books behind the results that aren't handed in.
use Rattle.std.proofs.Common.{◌≡◌, ◌≢◌, ℕ, ◌==◌, Bool, true, false, not, List, [], ◌∷◌, Option, Some, None, refl, ap, sym, ◌∙◌, subst, arith}
use Rattle.std.specs.Prelude.{if◌then◌else◌}
use Rattle.std.proofs.lemmas.Bool.{eqb-true}
use Rattle.hc_engines.specs.Engine.{Order, Read, Write, Pages, with_page, pages_after, IoResult, Page, Written, Failed}
use Rattle.hc_history.specs.Note as notes
use Rattle.hc_history.specs.Note.{Note}
use Rattle.hc_history.specs.Pages.{bytes_at}
use Rattle.hc_history.specs.Lawful.{past}
use Rattle.hc_machine.specs.Nvm.{Nvm}
use Rattle.hc_machine.specs.Takes.{result_note}
use Rattle.hc_machine.specs.World.{Result, order_in, result_at, without_result, read_of, result_of}
use Rattle.hc_invariant.specs.Good.{pages_by, pages_behind, IsResult, AllResult}
use Rattle.hc_theorem.specs.runs.NoIo.{NoIo, KeepsOrders}
use Rattle.hc_follows.specs.Idle.{page_of}
use Rattle.hc_theorem.specs.runs.Alone.{IsWrite, Alone}
use Rattle.hc_theorem.specs.runs.Device.{CallKeepsDevice, IoKeepsDevice, WaitingIsResult, FinishKeepsDevice}

-- ---- the books' pages

pub silent_pages : (older part : List Note) → NoIo part → (page : ℕ) → bytes_at (past older part) page ≡ bytes_at older page
silent_pages older [] h page = refl
silent_pages older (notes.Read p result ∷ part) h page = absurd cc
silent_pages older (notes.Wrote p bytes is_written ∷ part) h page = absurd cc
silent_pages older (note ∷ part) h page = silent_pages (note ∷ older) part h page

-- a result's note does to the books' pages what the result did to the device's
note_pages : (older : List Note) (order : Order) (result : IoResult) → IsResult (bytes_at older) (Some order) result → (page : ℕ) → bytes_at (result_note order result ∷ older) page ≡ pages_after order result (bytes_at older) page
note_pages older (Read p) (Page bytes) h page = refl
note_pages older (Read p) Written h page = absurd h
note_pages older (Read p) Failed h page = refl
note_pages older (Write p bytes) (Page read) h page = absurd h
note_pages older (Write p bytes) Written h page = refl
note_pages older (Write p bytes) Failed h page = refl

-- ---- pages

with_swap : (q1 q2 : ℕ) (v1 v2 : Option (List ℕ)) (pages : Pages) (p : ℕ) → q2 ≢ q1 → with_page (with_page pages q2 v2) q1 v1 p ≡ with_page (with_page pages q1 v1) q2 v2 p
with_swap q1 q2 v1 v2 pages p apart = go (q1 == p) refl (q2 == p) refl
  where
    go : (t : Bool) → (q1 == p) ≡ t → (u : Bool) → (q2 == p) ≡ u → (if t then v1 else (if u then v2 else pages p)) ≡ (if u then v2 else (if t then v1 else pages p))
    go true e true f = absurd (apart (eqb-true q2 p f ∙ sym (eqb-true q1 p e)))
    go true e false f = refl
    go false e true f = refl
    go false e false f = refl

-- two results of orders about two pages, in either order
swapped : (a b : Order) (r s : IoResult) (pages : Pages) (p : ℕ) → (IsWrite a → page_of b ≢ page_of a) → pages_after a r (pages_after b s pages) p ≡ pages_after b s (pages_after a r pages) p
swapped (Read q) b r s pages p h = refl
swapped (Write q v) (Read x) r s pages p h = refl
swapped (Write q v) (Write x w) (Page z) s pages p h = refl
swapped (Write q v) (Write x w) Written (Page z) pages p h = refl
swapped (Write q v) (Write x w) Failed (Page z) pages p h = refl
swapped (Write q v) (Write x w) Written Written pages p h = with_swap q x (Some v) (Some w) pages p (h tt)
swapped (Write q v) (Write x w) Written Failed pages p h = with_swap q x (Some v) None pages p (h tt)
swapped (Write q v) (Write x w) Failed Written pages p h = with_swap q x None (Some w) pages p (h tt)
swapped (Write q v) (Write x w) Failed Failed pages p h = with_swap q x None None pages p (h tt)

-- a page that no write is about
not_there : (q p : ℕ) (v : Option (List ℕ)) (pages : Pages) → p ≢ q → with_page pages q v p ≡ pages p
not_there q p v pages apart = go (q == p) refl
  where
    go : (t : Bool) → (q == p) ≡ t → (if t then v else pages p) ≡ pages p
    go true e = absurd (apart (sym (eqb-true q p e)))
    go false e = refl

pub untouched : (a : Order) (r : IoResult) (pages : Pages) (p : ℕ) → (IsWrite a → p ≢ page_of a) → pages_after a r pages p ≡ pages p
untouched (Read q) r pages p h = refl
untouched (Write q v) (Page z) pages p h = refl
untouched (Write q v) Written pages p h = not_there q p (Some v) pages (h tt)
untouched (Write q v) Failed pages p h = not_there q p None pages (h tt)

-- ---- results

kept_result : (pages after : Pages) (old new : Option Order) (result : IoResult) → ((order : Order) → old ≡ Some order → new ≡ Some order) → ((page : ℕ) → old ≡ Some (Read page) → after page ≡ pages page) → IsResult pages old result → IsResult after new result
kept_result pages after None new result same at h = absurd h
kept_result pages after (Some (Read page)) new (Page bytes) same at h = subst (λ (o : Option Order). IsResult after o (Page bytes)) (sym (same (Read page) refl)) (at page refl ∙ h)
kept_result pages after (Some (Read page)) new Written same at h = absurd h
kept_result pages after (Some (Read page)) new Failed same at h = subst (λ (o : Option Order). IsResult after o Failed) (sym (same (Read page) refl)) tt
kept_result pages after (Some (Write page bytes)) new (Page read) same at h = absurd h
kept_result pages after (Some (Write page bytes)) new Written same at h = subst (λ (o : Option Order). IsResult after o Written) (sym (same (Write page bytes) refl)) tt
kept_result pages after (Some (Write page bytes)) new Failed same at h = subst (λ (o : Option Order). IsResult after o Failed) (sym (same (Write page bytes) refl)) tt

pub some_order : (pages : Pages) (o : Option Order) (result : IoResult) → IsResult pages o result → (order : Order) × (o ≡ Some order)
some_order pages None result h = absurd h
some_order pages (Some order) result h = (order, refl)

-- ---- a call that hands in no result

still_results : (pages after : Pages) (old new : Option Nvm) (rs : List Result) → ((page : ℕ) → after page ≡ pages page) → KeepsOrders old new → AllResult pages old rs → AllResult after new rs
still_results pages after old new [] same keeps h = tt
still_results pages after old new (r ∷ rs) same keeps h =
    (kept_result pages after (order_in old r.job) (order_in new r.job) r.result (λ order e. keeps r.job order e) (λ page e. same page) h.0, h.1, still_results pages after old new rs same keeps h.2)

still_behind : (pages after : Pages) (old new : Option Nvm) (rs : List Result) → ((page : ℕ) → after page ≡ pages page) → KeepsOrders old new → AllResult pages old rs → (page : ℕ) → pages_behind old rs pages page ≡ pages_behind new rs after page
still_behind pages after old new [] same keeps h page = sym (same page)
still_behind pages after old new (r ∷ rs) same keeps h page =
    let its = some_order pages (order_in old r.job) r.result h.0 in
    let rest : pages_behind old rs pages ≡ pages_behind new rs after = λ i p. still_behind pages after old new rs same keeps h.2 p i in
    (λ i. pages_by (its.1 i) r.result (rest i) page) ∙ sym (ap (λ (o : Option Order). pages_by o r.result (pages_behind new rs after) page) (keeps r.job its.0 its.1))

pub call_keeps : CallKeepsDevice
call_keeps older world moved q d =
    let same = silent_pages older moved.part q.silent in
    record {
      results = still_results (bytes_at older) (bytes_at (past older moved.part)) world.cache.nvm moved.cache.nvm world.results same q.orders d.results;
      pages = λ page. d.pages page ∙ still_behind (bytes_at older) (bytes_at (past older moved.part)) world.cache.nvm moved.cache.nvm world.results same q.orders d.results page;
    }

-- ---- a job's operation is made

-- of these results none is that of the job
none_first : (job : ℕ) (r : Result) (rs : List Result) → result_at job (r ∷ rs) ≡ None → ((r.job == job) ≡ false) × (result_at job rs ≡ None)
none_first job r rs h = go (r.job == job) refl h
  where
    go : (t : Bool) → (r.job == job) ≡ t → (if t then Some r.result else result_at job rs) ≡ None → ((r.job == job) ≡ false) × (result_at job rs ≡ None)
    go true e h = absurd cc
    go false e h = (e, h)

-- the page that the job is about is behind the others' results what it was
behind_same : (nvm : Option Nvm) (job : ℕ) (order : Order) (pages base : Pages) (rs : List Result) → Alone nvm → order_in nvm job ≡ Some order → result_at job rs ≡ None → AllResult pages nvm rs → pages_behind nvm rs base (page_of order) ≡ base (page_of order)
behind_same nvm job order pages base [] alone at none h = refl
behind_same nvm job order pages base (r ∷ rs) alone at none h =
    let n = none_first job r rs none in
    let its = some_order pages (order_in nvm r.job) r.result h.0 in
    ap (λ (o : Option Order). pages_by o r.result (pages_behind nvm rs base) (page_of order)) its.1
    ∙ untouched its.0 r.result (pages_behind nvm rs base) (page_of order) (λ w. alone r.job job its.0 order n.0 its.1 at w)
    ∙ behind_same nvm job order pages base rs alone at n.1 h.2

made_result : (older : List Note) (known : Pages) (order : Order) (fails : Bool) → known (page_of order) ≡ bytes_at older (page_of order) → IsResult (bytes_at older) (Some order) (result_of order fails known)
made_result older known (Read page) true e = tt
made_result older known (Write page bytes) true e = tt
made_result older known (Write page bytes) false e = tt
made_result older known (Read page) false e = go (known page) refl
  where
    go : (o : Option (List ℕ)) → known page ≡ o → IsResult (bytes_at older) (Some (Read page)) (read_of o)
    go None f = tt
    go (Some bytes) f = sym e ∙ f

pub io_keeps : IoKeepsDevice
io_keeps older world job order fails alone at none d =
    let nvm = world.cache.nvm in
    let result = result_of order fails world.pages in
    let there : world.pages (page_of order) ≡ bytes_at older (page_of order) = d.pages (page_of order) ∙ behind_same nvm job order (bytes_at older) (bytes_at older) world.results alone at none d.results in
    let all : world.pages ≡ pages_behind nvm world.results (bytes_at older) = λ i page. d.pages page i in
    record {
      results = (subst (λ (o : Option Order). IsResult (bytes_at older) o result) (sym at) (made_result older world.pages order fails there), none, d.results);
      pages = λ page. ap (λ (p : Pages). pages_after order result p page) all ∙ sym (ap (λ (o : Option Order). pages_by o result (pages_behind nvm world.results (bytes_at older)) page) at);
    }

-- ---- a result is handed in

waiting_in : (pages : Pages) (nvm : Option Nvm) (job : ℕ) (result : IoResult) (rs : List Result) → result_at job rs ≡ Some result → AllResult pages nvm rs → IsResult pages (order_in nvm job) result
waiting_in pages nvm job result [] at h = absurd cc
waiting_in pages nvm job result (r ∷ rs) at h = go (r.job == job) refl at (λ e. waiting_in pages nvm job result rs e h.2)
  where
    go : (t : Bool) → (r.job == job) ≡ t → (if t then Some r.result else result_at job rs) ≡ Some result → (result_at job rs ≡ Some result → IsResult pages (order_in nvm job) result) → IsResult pages (order_in nvm job) result
    go true e at more =
        let same : r.job ≡ job = eqb-true r.job job e in
        let its : r.result ≡ result = cc in
        subst (λ (x : IoResult). IsResult pages (order_in nvm job) x) its (subst (λ (n : ℕ). IsResult pages (order_in nvm n) r.result) same h.0)
    go false e at more = more at

pub waiting_is : WaitingIsResult
waiting_is older world job result at d = waiting_in (bytes_at older) world.cache.nvm job result world.results at d.results

result_still : (n job : ℕ) (rs : List Result) → result_at n rs ≡ None → result_at n (without_result job rs) ≡ None
result_still n job [] h = refl
result_still n job (r ∷ rs) h = let f = none_first n r rs h in go (r.job == job) f.0 (result_still n job rs f.1)
  where
    go : (t : Bool) → (r.job == n) ≡ false → result_at n (without_result job rs) ≡ None → result_at n (if not t then r ∷ without_result job rs else without_result job rs) ≡ None
    go true o h = h
    go false o h = rw o h

turned : (a b : ℕ) → (a == b) ≡ (b == a)
turned a b = grind arith

not_same : (nvm : Option Nvm) (job : ℕ) (order other : Order) (r : ℕ) → Alone nvm → order_in nvm job ≡ Some order → (r == job) ≡ false → order_in nvm r ≡ Some other → IsWrite order → page_of other ≢ page_of order
not_same nvm job order other r alone at o e w = alone job r order other (turned job r ∙ o) at e w

-- what is left of the results
left_results : (pages after : Pages) (old new : Option Nvm) (job : ℕ) (order : Order) (result : IoResult) (rs : List Result) → Alone old → order_in old job ≡ Some order
    → ((page : ℕ) → after page ≡ pages_after order result pages page) → ((n : ℕ) (other : Order) → (n == job) ≡ false → order_in old n ≡ Some other → order_in new n ≡ Some other)
    → AllResult pages old rs → AllResult after new (without_result job rs)
left_results pages after old new job order result [] alone at same keeps h = tt
left_results pages after old new job order result (r ∷ rs) alone at same keeps h = go (r.job == job) refl (left_results pages after old new job order result rs alone at same keeps h.2)
  where
    go : (t : Bool) → (r.job == job) ≡ t → AllResult after new (without_result job rs) → AllResult after new (if not t then r ∷ without_result job rs else without_result job rs)
    go true e rest = rest
    go false e rest = (
      kept_result pages after (order_in old r.job) (order_in new r.job) r.result (λ other f. keeps r.job other e f)
          (λ page f. same page ∙ untouched order result pages page (λ w. not_same old job order (Read page) r.job alone at e f w)) h.0,
      result_still r.job job rs h.1,
      rest,
    )

none_without : (job : ℕ) (rs : List Result) → result_at job rs ≡ None → without_result job rs ≡ rs
none_without job [] h = refl
none_without job (r ∷ rs) h = let f = none_first job r rs h in rw f.0 (ap (λ xs. r ∷ xs) (none_without job rs f.1))

-- the result goes in before the others'
pushed_in : (pages base : Pages) (old new : Option Nvm) (job : ℕ) (order : Order) (result : IoResult) (rs : List Result) → Alone old → order_in old job ≡ Some order → result_at job rs ≡ None
    → ((n : ℕ) (other : Order) → (n == job) ≡ false → order_in old n ≡ Some other → order_in new n ≡ Some other) → AllResult pages old rs
    → (page : ℕ) → pages_after order result (pages_behind old rs base) page ≡ pages_behind new rs (pages_after order result base) page
pushed_in pages base old new job order result [] alone at none keeps h page = refl
pushed_in pages base old new job order result (r ∷ rs) alone at none keeps h page =
    let n = none_first job r rs none in
    let its = some_order pages (order_in old r.job) r.result h.0 in
    let rest : pages_after order result (pages_behind old rs base) ≡ pages_behind new rs (pages_after order result base) = λ i p. pushed_in pages base old new job order result rs alone at n.1 keeps h.2 p i in
    ap (λ (o : Option Order). pages_after order result (pages_by o r.result (pages_behind old rs base)) page) its.1
    ∙ swapped order its.0 result r.result (pages_behind old rs base) page (λ w. not_same old job order its.0 r.job alone at n.0 its.1 w)
    ∙ ap (λ (p : Pages). pages_after its.0 r.result p page) rest
    ∙ sym (ap (λ (o : Option Order). pages_by o r.result (pages_behind new rs (pages_after order result base)) page) (keeps r.job its.0 n.0 its.1))

left_behind : (pages base : Pages) (old new : Option Nvm) (job : ℕ) (order : Order) (result : IoResult) (rs : List Result) → Alone old → order_in old job ≡ Some order → result_at job rs ≡ Some result
    → ((n : ℕ) (other : Order) → (n == job) ≡ false → order_in old n ≡ Some other → order_in new n ≡ Some other) → AllResult pages old rs
    → (page : ℕ) → pages_behind old rs base page ≡ pages_behind new (without_result job rs) (pages_after order result base) page
left_behind pages base old new job order result [] alone at there keeps h page = absurd cc
left_behind pages base old new job order result (r ∷ rs) alone at there keeps h page = go (r.job == job) refl there (λ e. left_behind pages base old new job order result rs alone at e keeps h.2)
  where
    go : (t : Bool) → (r.job == job) ≡ t → (if t then Some r.result else result_at job rs) ≡ Some result → (result_at job rs ≡ Some result → (p : ℕ) → pages_behind old rs base p ≡ pages_behind new (without_result job rs) (pages_after order result base) p)
        → pages_by (order_in old r.job) r.result (pages_behind old rs base) page ≡ pages_behind new (if not t then r ∷ without_result job rs else without_result job rs) (pages_after order result base) page
    go true e there more =
        let same : r.job ≡ job = eqb-true r.job job e in
        let its : r.result ≡ result = cc in
        let mine : order_in old r.job ≡ Some order = ap (order_in old) same ∙ at in
        let none : result_at job rs ≡ None = subst (λ (n : ℕ). result_at n rs ≡ None) same h.1 in
        (λ i. pages_by (mine i) (its i) (pages_behind old rs base) page)
        ∙ pushed_in pages base old new job order result rs alone at none keeps h.2 page
        ∙ sym (ap (λ xs. pages_behind new xs (pages_after order result base) page) (none_without job rs none))
    go false e there more =
        let its = some_order pages (order_in old r.job) r.result h.0 in
        let rest : pages_behind old rs base ≡ pages_behind new (without_result job rs) (pages_after order result base) = λ i p. more there p i in
        (λ i. pages_by (its.1 i) r.result (rest i) page) ∙ sym (ap (λ (o : Option Order). pages_by o r.result (pages_behind new (without_result job rs) (pages_after order result base)) page) (keeps r.job its.0 e its.1))

pub finish_keeps : FinishKeepsDevice
finish_keeps older world job order result moved alone at there f d =
    let nvm = world.cache.nvm in
    let mine : IsResult (bytes_at older) (Some order) result = subst (λ (o : Option Order). IsResult (bytes_at older) o result) at (waiting_is older world job result there d) in
    let told : past older moved.part ≡ past (result_note order result ∷ older) f.rest = ap (past older) f.told in
    let same : (page : ℕ) → bytes_at (past older moved.part) page ≡ pages_after order result (bytes_at older) page = λ page. ap (λ log. bytes_at log page) told ∙ silent_pages (result_note order result ∷ older) f.rest f.silent page ∙ note_pages older order result mine page in
    let all : bytes_at (past older moved.part) ≡ pages_after order result (bytes_at older) = λ i page. same page i in
    record {
      results = left_results (bytes_at older) (bytes_at (past older moved.part)) nvm moved.cache.nvm job order result world.results alone at same f.orders d.results;
      pages = λ page. d.pages page ∙ left_behind (bytes_at older) (bytes_at older) nvm moved.cache.nvm job order result world.results alone at there f.orders d.results page
          ∙ sym (ap (λ (p : Pages). pages_behind moved.cache.nvm (without_result job world.results) p page) all);
    }
