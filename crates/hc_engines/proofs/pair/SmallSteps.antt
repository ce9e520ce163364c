-- The small engine as the pair uses it: what a call keeps, and what it tells.
use Rattle.std.proofs.Common.{◌≡◌, ℕ, ◌<◌, Bool, true, false, List, [], length, Option, Some, None, refl, sym, inl, ap, subst, arith, ◌∙◌}
use Rattle.std.proofs.Math.Nat.{mod-lt}
use Rattle.std.specs.Prelude.{if◌then◌else◌, ◌==◌, option_map, is_some}
use Rattle.std.specs.Str.{bytes_eq}
use Rattle.hc_types.specs.declared.config.FlashConfig.{FlashConfig}
use Rattle.hc_types.specs.Places.{bucket_at, kept_of, is_small_by}
use Rattle.hc_types.specs.FlashEntry.{FlashEntry}
use Rattle.hc_bucket.specs.Reading.{page_at}
use Rattle.hc_bucket.proofs.Numbers.{some_is}
use Rattle.hc_engines.specs.Engine.{Op, Put, Get, Delete, Flush, Reclaim, Order, IoResult, Page, Written, Failed, Absent, Over, Loss, Outcome, outcome_of, Next, Busy, Io, Done, Pages, Holds, is_lost, IsHonest, pages_after, then_under_way}
use Rattle.hc_engines.specs.small.Bloom.{could_have}
use Rattle.hc_engines.specs.small.Entries.{under, without, pushed_out, put_losses}
use Rattle.hc_engines.specs.small.BigHash.{BigHash, Job, Moved, Phase, Reading, Writing, Plan, ToRead, ToWrite, ToEnd, ToKeep, ToGiveUp, moved, begun, read_as, went_on, start, start_at, our_bucket, resume, resume_job, resumed, is_ours, given_up, is_busy, word_at, job_at, next_of, key_of}
use Rattle.hc_engines.specs.small.Sound.{CanStart}
use Rattle.hc_engines.specs.small.Held.{StateFits, Keeps, WorkFits, held, bucket_entries, order_of, under_way, job_under_way}
use Rattle.hc_engines.specs.pair.Held.{IsCarriedOut}
use Rattle.hc_engines.proofs.Keys.{same-true}
use Rattle.hc_engines.proofs.small.Under.{under-key, under-without, has, has-there}
use Rattle.hc_engines.proofs.small.Losses.{bucket_loss, lost-full, own_under}
use Rattle.hc_engines.proofs.small.Keeping.{has_entries}
use Rattle.hc_engines.proofs.small.Started.{start_keeps}
use Rattle.hc_engines.proofs.small.Resumed.{resume_keeps, job_out}
use Rattle.hc_engines.proofs.small.Apart.{start_goes, resume_goes}
use Rattle.hc_engines.proofs.pair.Joining.{SpareLarge}

-- what the small engine holds is small
pub small_ones : (s : BigHash) (pages : Pages) (key : List ℕ) (e : FlashEntry) → StateFits s pages → held s pages key ≡ Some e → is_small_by s.flash e.key (length e.value) ≡ true
small_ones s pages key e fits h = (own_under s.flash (bucket_at s.flash key) key (bucket_entries s pages (bucket_at s.flash key)) e (has_entries s pages (bucket_at s.flash key) fits).own h).0

-- ---- what is lost

-- the losses of a put are of keys that are held
put-spares : (s : BigHash) (pages : Pages) (bucket : ℕ) (x : FlashEntry) → StateFits s pages → SpareLarge s.flash (held s pages) (put_losses s.flash.page x (bucket_entries s pages bucket))
put-spares s pages bucket x fits e large none = by (is_lost s.flash (put_losses s.flash.page x (bucket_entries s pages bucket)) e) refl
  where
    es : List FlashEntry
    es = bucket_entries s pages bucket

    -- none of the key is there
    absent : (o : Option FlashEntry) → under e.key (bucket_entries s pages bucket) ≡ o → is_some o ≡ true → ⊥
    absent None u there = cc
    absent (Some y) u there =
        let own = own_under s.flash bucket e.key (bucket_entries s pages bucket) y (has_entries s pages bucket fits).own u in
        let same : y.key ≡ e.key = same-true y.key e.key (under-key e.key (bucket_entries s pages bucket) y u) in
        let here : bucket_at s.flash e.key ≡ bucket = ap (bucket_at s.flash) (sym same) ∙ own.1 in
        let both : None ≡ Some y = sym none ∙ ap (λ (b : ℕ). under e.key (bucket_entries s pages b)) here ∙ u in
        cc

    there : (t : Bool) → is_some (if t then None else under e.key (bucket_entries s pages bucket)) ≡ true → is_some (under e.key (bucket_entries s pages bucket)) ≡ true
    there true h = absurd cc
    there false h = h

    by : (t : Bool) → is_lost s.flash (put_losses s.flash.page x (bucket_entries s pages bucket)) e ≡ t → t ≡ false
    by false h = refl
    by true h =
        let gone : has e.key (pushed_out s.flash.page x (without x.key es)) ≡ true = sym (lost-full s.flash (pushed_out s.flash.page x (without x.key es)) e) ∙ h in
        let among : is_some (under e.key (without x.key es)) ≡ true = has-there e.key s.flash.page x (without x.key es) gone in
        absurd (absent (under e.key es) refl (there (bytes_eq e.key x.key) (ap is_some (sym (under-without x.key e.key es)) ∙ among)))

bucket-spares : (flash : FlashConfig) (h : Holds) (bucket : ℕ) → SpareLarge flash h (bucket_loss bucket)
bucket-spares flash h bucket e large none = rw large refl

-- ---- what comes next: the losses are small ones, and a put or a delete that is over was carried out

abbrev pub losses_of : Next → List Loss
losses_of Busy = []
losses_of (Io order outcome) = outcome.losses
losses_of (Done outcome) = outcome.losses

pub record Tells (flash : FlashConfig) (h : Holds) (op : Op) (next : Next) : Type 0 where
  pub losses : SpareLarge flash h (losses_of next)
  pub carried_out : IsCarriedOut op next

-- what it takes of a plan
abbrev PlanTells : FlashConfig → Holds → Op → Plan → Type 0
PlanTells flash h op ToRead = Unit {0}
PlanTells flash h op (ToWrite es losses) = Unit {0}
PlanTells flash h op (ToEnd answer) = IsCarriedOut op (Done (outcome_of answer []))
PlanTells flash h op (ToKeep word losses) = SpareLarge flash h losses
PlanTells flash h op ToGiveUp = Unit {0}

busy-carried : (op : Op) → IsCarriedOut op Busy
busy-carried (Put e) = tt
busy-carried (Get key) = tt
busy-carried (Delete key) = tt
busy-carried Flush = tt
busy-carried Reclaim = tt

io-carried : (op : Op) (order : Order) (outcome : Outcome) → IsCarriedOut op (Io order outcome)
io-carried (Put e) order outcome = tt
io-carried (Get key) order outcome = tt
io-carried (Delete key) order outcome = tt
io-carried Flush order outcome = tt
io-carried Reclaim order outcome = tt

over-carried : (op : Op) (losses : List Loss) → IsCarriedOut op (Done (outcome_of Over losses))
over-carried (Put e) losses = inl refl
over-carried (Get key) losses = tt
over-carried (Delete key) losses = refl
over-carried Flush losses = tt
over-carried Reclaim losses = tt

given-up-carried : (op : Op) (losses : List Loss) → IsCarriedOut op (Done (outcome_of (given_up op) losses))
given-up-carried (Put e) losses = inl refl
given-up-carried (Get key) losses = tt
given-up-carried (Delete key) losses = refl
given-up-carried Flush losses = tt
given-up-carried Reclaim losses = tt

plan-tells : (flash : FlashConfig) (h : Holds) (size bucket : ℕ) (op : Op) (plan : Plan) → PlanTells flash h op plan → Tells flash h op (next_of size bucket op plan)
plan-tells flash h size bucket op ToRead t = record { losses = λ e large none. refl; carried_out = io-carried op _ _ }
plan-tells flash h size bucket op (ToWrite es losses) t = record { losses = λ e large none. refl; carried_out = io-carried op _ _ }
plan-tells flash h size bucket op (ToEnd answer) t = record { losses = λ e large none. refl; carried_out = t }
plan-tells flash h size bucket op (ToKeep word losses) t = record { losses = t; carried_out = over-carried op losses }
plan-tells flash h size bucket op ToGiveUp t = record { losses = bucket-spares flash h bucket; carried_out = given-up-carried op _ }

begun-tells : (flash : FlashConfig) (h : Holds) (word : Option ℕ) (op : Op) → PlanTells flash h op (begun word op)
begun-tells flash h None (Put e) = tt
begun-tells flash h None (Get key) = tt
begun-tells flash h None (Delete key) = refl
begun-tells flash h None Flush = tt
begun-tells flash h None Reclaim = tt
begun-tells flash h (Some word) (Put e) = tt
begun-tells flash h (Some word) (Get key) = go (could_have word key)
  where
    go : (t : Bool) → PlanTells flash h (Get key) (if t then ToRead else ToEnd Absent)
    go true = tt
    go false = tt
begun-tells flash h (Some word) (Delete key) = tt
begun-tells flash h (Some word) Flush = tt
begun-tells flash h (Some word) Reclaim = tt

start-tells : (s : BigHash) (h : Holds) (number : ℕ) (op : Op) (o : Option ℕ) → our_bucket s.flash op ≡ o → is_ours s.flash op ≡ true → Tells s.flash h op (start_at s number op o).next
start-tells s h number op None e ours = absurd (no-bucket (is_ours s.flash op) e ours)
  where
    no-bucket : (t : Bool) → (if t then Some (bucket_at s.flash (key_of op)) else None) ≡ None → t ≡ true → ⊥
    no-bucket true e ours = cc
    no-bucket false e ours = cc
start-tells s h number op (Some bucket) e ours = go (is_busy bucket s.jobs)
  where
    go : (t : Bool) → Tells s.flash h op (if t then record { state = s; next = Busy } else moved s number bucket op (begun (word_at s bucket) op)).next
    go true = record { losses = λ e large none. refl; carried_out = busy-carried op }
    go false = plan-tells s.flash h s.flash.page bucket op (begun (word_at s bucket) op) (begun-tells s.flash h (word_at s bucket) op)

abbrev PhaseSpares : FlashConfig → Holds → Phase → Type 0
PhaseSpares flash h Reading = Unit {0}
PhaseSpares flash h (Writing es losses) = SpareLarge flash h losses

read-tells : (flash : FlashConfig) (h : Holds) (size : ℕ) (op : Op) (o : Option (List FlashEntry)) → PlanTells flash h op (read_as size op o)
read-tells flash h size op None = tt
read-tells flash h size (Put e) (Some es) = tt
read-tells flash h size (Get key) (Some es) = tt
read-tells flash h size (Delete key) (Some es) = go (is_some (under key es))
  where
    go : (t : Bool) → PlanTells flash h (Delete key) (if t then ToWrite (without key es) [] else ToEnd Over)
    go true = tt
    go false = refl
read-tells flash h size Flush (Some es) = tt
read-tells flash h size Reclaim (Some es) = tt

went-tells : (flash : FlashConfig) (h : Holds) (size : ℕ) (op : Op) (phase : Phase) (result : IoResult) (plan : Plan) → PhaseSpares flash h phase → went_on size op phase result ≡ Some plan → PlanTells flash h op plan
went-tells flash h size op Reading (Page bytes) plan l made = subst (PlanTells flash h op) (some_is _ _ made) (read-tells flash h size op (page_at size bytes))
went-tells flash h size op Reading Failed plan l made = subst (PlanTells flash h op) (some_is _ _ made) tt
went-tells flash h size op Reading Written plan l made = absurd cc
went-tells flash h size op (Writing es losses) Written plan l made = subst (PlanTells flash h op) (some_is _ _ made) l
went-tells flash h size op (Writing es losses) Failed plan l made = subst (PlanTells flash h op) (some_is _ _ made) tt
went-tells flash h size op (Writing es losses) (Page bytes) plan l made = absurd cc

phase-spares : (flash : FlashConfig) (h : Holds) (size : ℕ) (op : Op) (phase : Phase) (word : Option ℕ) (es : List FlashEntry) → ((e : FlashEntry) → SpareLarge flash h (put_losses size e es)) → WorkFits size op phase word es → PhaseSpares flash h phase
phase-spares flash h size op Reading word es put w = tt
phase-spares flash h size (Put e) (Writing page losses) word es put w = subst (SpareLarge flash h) (sym w.1) (put e)
phase-spares flash h size (Delete key) (Writing page losses) word es put w = subst (SpareLarge flash h) (sym w.1) (λ e large none. refl)
phase-spares flash h size (Get key) (Writing page losses) word es put w = absurd w
phase-spares flash h size Flush (Writing page losses) word es put w = absurd w
phase-spares flash h size Reclaim (Writing page losses) word es put w = absurd w

-- ---- a call of the small engine, as the pair uses it

pub record SmallServes (op : Op) (number : ℕ) (s : BigHash) (before : Pages) (m : Moved) (after : Pages) : Type 0 where
  pub keeps : Keeps op s before m after
  pub tells : Tells s.flash (held s before) op m.next
  pub flash : m.state.flash ≡ s.flash
  pub ours : is_ours s.flash op ≡ true
  pub goes : (other : ℕ) → under_way m.state other ≡ (if other == number then then_under_way op m.next else under_way s other)

-- the operation itself
pub own_goes : (number : ℕ) (op : Op) (s : BigHash) (before : Pages) (m : Moved) (after : Pages) → SmallServes op number s before m after → under_way m.state number ≡ then_under_way op m.next
own_goes number op s before m after serves = let same : (number == number) ≡ true = grind arith in serves.goes number ∙ rw same refl

-- ---- the configuration stays

pub start_flash : (s : BigHash) (number : ℕ) (op : Op) → (start s number op).state.flash ≡ s.flash
start_flash s number op = by (our_bucket s.flash op)
  where
    by : (o : Option ℕ) → (start_at s number op o).state.flash ≡ s.flash
    by None = refl
    by (Some bucket) = go (is_busy bucket s.jobs)
      where
        go : (t : Bool) → (if t then record { state = s; next = Busy } else moved s number bucket op (begun (word_at s bucket) op)).state.flash ≡ s.flash
        go true = refl
        go false = refl

pub resume_flash : (s : BigHash) (number : ℕ) (result : IoResult) (m : Moved) → resume s number result ≡ Some m → m.state.flash ≡ s.flash
resume_flash s number result m made = by (job_at number s.jobs) made
  where
    planned : (job : Job) (o : Option Plan) → resumed s job o ≡ Some m → m.state.flash ≡ s.flash
    planned job None made = absurd cc
    planned job (Some plan) made = ap (λ (x : Moved). x.state.flash) (sym (some_is (moved s job.number job.bucket job.op plan) m made))

    by : (o : Option Job) → resume_job s o result ≡ Some m → m.state.flash ≡ s.flash
    by None made = absurd cc
    by (Some job) made = planned job (went_on s.flash.page job.op job.phase result) made

pub start_small : (s : BigHash) (pages : Pages) (number : ℕ) (op : Op) → StateFits s pages → job_at number s.jobs ≡ None → CanStart op → is_ours s.flash op ≡ true → SmallServes op number s pages (start s number op) pages
start_small s pages number op fits none can ours = record {
  keeps = start_keeps s pages number op fits none can;
  tells = start-tells s (held s pages) number op (our_bucket s.flash op) refl ours;
  flash = start_flash s number op;
  ours = ours;
  goes = start_goes s number op (ap (option_map (job_under_way s.flash)) none);
}

resumed-is : (s : BigHash) (job : Job) (o : Option Plan) (m : Moved) → resumed s job o ≡ Some m → (plan : Plan) × (o ≡ Some plan) × (moved s job.number job.bucket job.op plan ≡ m)
resumed-is s job None m made = absurd cc
resumed-is s job (Some plan) m made = (plan, refl, some_is _ _ made)

pub resume_small : (s : BigHash) (pages : Pages) (number : ℕ) (result : IoResult) (job : Job) (m : Moved) → StateFits s pages → job_at number s.jobs ≡ Some job → resume s number result ≡ Some m → IsHonest (order_of s.flash.page job.bucket job.phase) result pages
    → SmallServes job.op number s pages m (pages_after (order_of s.flash.page job.bucket job.phase) result pages)
resume_small s pages number result job m fits at made honest =
    let out = job_out s.flash (word_at s) pages number s.jobs job at fits.jobs_fit in
    let came : resumed s job (went_on s.flash.page job.op job.phase result) ≡ Some m = ap (λ (j : Option Job). resume_job s j result) (sym at) ∙ made in
    let is = resumed-is s job (went_on s.flash.page job.op job.phase result) m came in
    let phase = phase-spares s.flash (held s pages) s.flash.page job.op job.phase (word_at s job.bucket) (bucket_entries s pages job.bucket) (λ e. put-spares s pages job.bucket e fits) out.fit.3 in
    let tells = plan-tells s.flash (held s pages) s.flash.page job.bucket job.op is.0 (went-tells s.flash (held s pages) s.flash.page job.op job.phase result is.0 phase is.1) in
    record {
      keeps = resume_keeps s pages number result job m fits at made honest;
      tells = subst (λ (x : Moved). Tells s.flash (held s pages) job.op x.next) is.2 tells;
      flash = resume_flash s number result m made;
      ours = out.fit.1;
      goes = resume_goes s pages number result job m fits at made;
    }

-- the bucket of a job
pub job_bucket : (s : BigHash) (pages : Pages) (number : ℕ) (job : Job) → StateFits s pages → job_at number s.jobs ≡ Some job → job.bucket < s.flash.buckets
job_bucket s pages number job fits at =
    let out = job_out s.flash (word_at s) pages number s.jobs job at fits.jobs_fit in
    let some : 0 < s.flash.buckets = omega (arith, fits.limits.some_bucket) in
    subst (λ (b : ℕ). b < s.flash.buckets) (sym out.fit.2) (mod-lt (kept_of s.flash.bits (key_of job.op)) some)
