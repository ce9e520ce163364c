-- Whatever the device answers: where what the cache told is honest, it is legal.
use Rattle.std.proofs.Common.{◌≡◌, ℕ, ◌≤◌, true, List, [], ◌∷◌, ◌++◌, length, Option, Some, None, refl, ap, sym, ◌∙◌, subst, arith}
use Rattle.std.specs.Prelude.{is_some, option_map}
use Rattle.hc_types.specs.Config.{Config}
use Rattle.hc_types.specs.declared.config.FlashConfig.{FlashConfig}
use Rattle.hc_types.specs.declared.refusal.Refusal.TheVariants.{UnknownJob}
use Rattle.hc_engines.specs.Engine.{Op, Order, Read, Write, Pages, IoResult, Page, Written, Failed, Suits}
use Rattle.hc_engines.specs.small.BigHash as bighash
use Rattle.hc_engines.specs.small.BigHash.{Phase, went_on, word_at}
use Rattle.hc_engines.specs.small.Held as small
use Rattle.hc_engines.specs.small.Held.{PageFits}
use Rattle.hc_engines.proofs.small.Resumed.{job_out}
use Rattle.hc_engines.specs.large.Region.{page_no}
use Rattle.hc_engines.specs.large.Block as block
use Rattle.hc_engines.specs.large.Block.{Reading, Writing, Getting}
use Rattle.hc_engines.specs.large.Held.{bytes_or_none}
use Rattle.hc_engines.proofs.large.GetStays.{read_unclean}
use Rattle.hc_engines.proofs.large.Jobs.{work_holds}
use Rattle.hc_history.specs.Note as notes
use Rattle.hc_history.specs.Note.{Note}
use Rattle.hc_history.specs.Pages.{bytes_at}
use Rattle.hc_history.specs.Lawful.{Lawful, past}
use Rattle.hc_history.specs.Honest.{IsTrueRead, HonestAfter}
use Rattle.hc_history.proofs.Appended.{Lawful-append, past-append}
use Rattle.hc_engines.specs.pair.Pair as pairs
use Rattle.hc_engines.specs.pair.Pair.{Pair, resume_in, resume_large}
use Rattle.hc_machine.specs.Nvm.{Nvm, Job, job_at}
use Rattle.hc_machine.specs.Takes as takes
use Rattle.hc_machine.specs.Takes.{resumed}
use Rattle.hc_machine.specs.Cache.{Cache, Moved, Answer, Refused, stays, new_cache}
use Rattle.hc_machine.specs.Workers as workers
use Rattle.hc_machine.specs.World.{order_in}
use Rattle.hc_invariant.specs.Jobs.{small_job, large_work, small_order, large_order}
use Rattle.hc_invariant.specs.Good.{Good, FlashPart, EnginesFit, IsResult}
use Rattle.hc_invariant.proofs.Ends.{good_ends}
use Rattle.hc_invariant.proofs.Beginning.{new_good}
use Rattle.hc_invariant.specs.Laws.{Laws, KeptBy}
use Rattle.hc_machine.specs.Call.{CacheCall, Allocates, Inserts, Adds, Discards, Finds, Removes, Replies, Ticks, Writes, Fills, Reclaims, Finishes, act, acts}
use Rattle.hc_theorem.specs.runs.Honesty.{FinishIfHonest, CallSized, AllCallSized, HonestIsLegal}
use Rattle.hc_theorem.proofs.runs.WritesAlone.{Runs, OfSmall, OfLarge, runs_of}
use Rattle.hc_theorem.proofs.runs.Running.{taken_in}
use Rattle.hc_proof.proofs.frames.JobLists.{job_number}

-- ---- a page that a job reads is known to the books

fits_known : (flash : FlashConfig) (bucket : ℕ) (word : Option ℕ) (page : Option (List ℕ)) → PageFits flash bucket word page → is_some word ≡ true → is_some page ≡ true
fits_known flash bucket None page fits h = absurd cc
fits_known flash bucket (Some word) page fits h = ap (λ (o : Option (List ℕ)). is_some o) fits.1

long_known : (page : Option (List ℕ)) (size : ℕ) → length (bytes_or_none page) ≡ size → 1 ≤ size → is_some page ≡ true
long_known None size h some = absurd (omega (arith, h))
long_known (Some bytes) size h some = refl

small_known : (flash : FlashConfig) (older : List Note) (nvm : Nvm) (n : ℕ) (job : bighash.Job) → EnginesFit flash older nvm → small_job nvm n ≡ Some job → (page : ℕ) → Read page ≡ small_order nvm.pair job → is_some (bytes_at older page) ≡ true
small_known flash older nvm n job g at page e =
    let s = nvm.pair.small in
    let out = job_out s.flash (word_at s) (bytes_at older) n s.jobs job at g.small_fits.jobs_fit in
    go job.phase e out.fit.3
  where
    go : (phase : Phase) → Read page ≡ small.order_of nvm.pair.small.flash.page job.bucket phase
        → small.WorkFits nvm.pair.small.flash.page job.op phase (word_at nvm.pair.small job.bucket) (small.entries_at nvm.pair.small.flash.page (word_at nvm.pair.small job.bucket) (bytes_at older job.bucket)) → is_some (bytes_at older page) ≡ true
    go bighash.Reading e w =
        let same : page ≡ job.bucket = cc in
        let word : is_some (word_at nvm.pair.small job.bucket) ≡ true = w in
        ap (λ p. is_some (bytes_at older p)) same ∙ fits_known nvm.pair.small.flash job.bucket (word_at nvm.pair.small job.bucket) (bytes_at older job.bucket) (g.small_fits.pages_fit job.bucket) word
    go (bighash.Writing es losses) e w = absurd cc

large_known : (flash : FlashConfig) (older : List Note) (nvm : Nvm) (n : ℕ) (work : block.Work) → EnginesFit flash older nvm → large_work nvm n ≡ Some work → (page : ℕ) → Read page ≡ large_order nvm.pair work → is_some (bytes_at older page) ≡ true
large_known flash older nvm n (Writing r bytes) g at page e = absurd cc
large_known flash older nvm n (Getting reading) g at page e =
    let s = nvm.pair.large in
    let read = work_holds flash s.regions n (Getting reading) s.jobs g.large_sound.works at in
    let unclean = read_unclean flash n reading s g.large_sound at in
    let same : page ≡ page_no flash reading.place.region reading.next = (let own : page ≡ page_no nvm.pair.small.flash reading.place.region reading.next = cc in subst (λ (f : FlashConfig). page ≡ page_no f reading.place.region reading.next) g.same own) in
    let least : 1 ≤ flash.page = subst (λ (f : FlashConfig). 1 ≤ f.page) g.same (omega (arith, g.small_fits.limits.least_page)) in
    ap (λ p. is_some (bytes_at older p)) same ∙ long_known (bytes_at older (page_no flash reading.place.region reading.next)) flash.page (g.large_fits.known reading.place.region reading.next unclean (omega (arith, read.0, read.1))) least

pub read_known : (flash : FlashConfig) (older : List Note) (nvm : Nvm) (n page : ℕ) → EnginesFit flash older nvm → Runs nvm n (Read page) → is_some (bytes_at older page) ≡ true
read_known flash older nvm n page g (OfSmall job at none is) = small_known flash older nvm n job g at page is
read_known flash older nvm n page g (OfLarge work none at is) = large_known flash older nvm n work g at page is

-- ---- results that no job waits for

unplanned : (size bucket : ℕ) (op : Op) (phase : Phase) (result : IoResult) → (Suits (small.order_of size bucket phase) result → ⊥) → went_on size op phase result ≡ None
unplanned size bucket op bighash.Reading (Page bytes) h = absurd (h tt)
unplanned size bucket op bighash.Reading Failed h = absurd (h tt)
unplanned size bucket op bighash.Reading Written h = refl
unplanned size bucket op (bighash.Writing es losses) Written h = absurd (h tt)
unplanned size bucket op (bighash.Writing es losses) Failed h = absurd (h tt)
unplanned size bucket op (bighash.Writing es losses) (Page bytes) h = refl

unworked : (n : ℕ) (pair : Pair) (work : block.Work) (result : IoResult) → (Suits (large_order pair work) result → ⊥) → pairs.resume_work n result pair work ≡ None
unworked n pair (Writing r bytes) Written h = absurd (h tt)
unworked n pair (Writing r bytes) Failed h = absurd (h tt)
unworked n pair (Writing r bytes) (Page page) h = refl
unworked n pair (Getting reading) (Page page) h = absurd (h tt)
unworked n pair (Getting reading) Failed h = absurd (h tt)
unworked n pair (Getting reading) Written h = refl

unsuited : (nvm : Nvm) (n : ℕ) (order : Order) (result : IoResult) → Runs nvm n order → (Suits order result → ⊥) → pairs.resume n result nvm.pair ≡ None
unsuited nvm n order result (OfSmall job at none is) h =
    let plan = unplanned nvm.pair.small.flash.page job.bucket job.op job.phase result (λ s. h (subst (λ (o : Order). Suits o result) (sym is) s)) in
    let resumes : bighash.resume nvm.pair.small n result ≡ None = ap (λ o. bighash.resume_job nvm.pair.small o result) at ∙ ap (bighash.resumed nvm.pair.small job) plan in
    ap (λ o. resume_in n result nvm.pair o) at ∙ ap (option_map _) resumes
unsuited nvm n order result (OfLarge work none at is) h =
    let other = unworked n nvm.pair work result (λ s. h (subst (λ (o : Order). Suits o result) (sym is) s)) in
    ap (λ o. resume_in n result nvm.pair o) none ∙ ap (λ o. resume_large n result nvm.pair o) at ∙ other

-- such a result is refused, and nothing happens
refused_kept : (config : Config) (older : List Note) (cache : Cache) (moved : Moved) → (answer : Answer) → moved ≡ stays answer cache → Good config older cache → KeptBy Good config older moved
refused_kept config older cache moved answer e g = subst (λ (x : Moved). KeptBy Good config older x) (sym e) (record { lawful = tt; good = g })

-- ---- whatever is handed in

-- pages of which this one has these bytes
abbrev has_bytes : List ℕ → Pages
has_bytes bytes page = Some bytes

known_read : (older : List Note) (page : ℕ) (bytes : List ℕ) (o : Option (List ℕ)) → bytes_at older page ≡ o → is_some o ≡ true → IsTrueRead older (notes.Read page (Some bytes)) → bytes_at older page ≡ Some bytes
known_read older page bytes None e h true_read = absurd cc
known_read older page bytes (Some known) e h true_read = let same : bytes ≡ known = true_read known e in e ∙ ap Some (sym same)

module _ (laws : Laws) (config : Config) (older : List Note) (cache : Cache) (number : ℕ) where
  -- the operation that the job's order is of
  runs_in : (order : Order) → Good config older cache → order_in cache.nvm number ≡ Some order → (flash : FlashConfig) × ((nvm : Nvm) × ((cache.nvm ≡ Some nvm) × (EnginesFit flash older nvm × Runs nvm number order)))
  runs_in order g at = go config.flash cache.nvm refl at g.agrees.flash
    where
      go : (flash : Option FlashConfig) (nvm : Option Nvm) → cache.nvm ≡ nvm → order_in nvm number ≡ Some order → FlashPart flash older cache.memory nvm → (flash : FlashConfig) × ((nvm : Nvm) × ((cache.nvm ≡ Some nvm) × (EnginesFit flash older nvm × Runs nvm number order)))
      go flash None e h f = absurd cc
      go None (Some nvm) e h f = absurd f
      go (Some flash) (Some nvm) e h f = (flash, (nvm, (e, (f.engines, runs_of nvm number order f.jobs h))))

  -- no job has this number, or it doesn't wait for such a result
  unknown : (nvm : Option Nvm) (result : IoResult) → cache.nvm ≡ nvm → order_in nvm number ≡ None → workers.finish number result cache ≡ stays (Refused UnknownJob) cache
  unknown None result e h = ap (λ o. workers.finish_on o number result cache) e
  unknown (Some nvm) result e h = ap (λ o. workers.finish_on o number result cache) e ∙ go (job_at number nvm.jobs) refl
    where
      go : (o : Option Job) → job_at number nvm.jobs ≡ o → workers.after_finish (takes.finish number result nvm) cache ≡ stays (Refused UnknownJob) cache
      go None f = ap (λ o. workers.after_finish (takes.finish_job o result nvm) cache) f
      go (Some job) f = absurd (let some : order_in (Some nvm) number ≡ Some job.order = rw f refl in cc (some, h))

  ill_formed : (nvm : Nvm) (result : IoResult) → cache.nvm ≡ Some nvm → pairs.resume number result nvm.pair ≡ None → workers.finish number result cache ≡ stays (Refused UnknownJob) cache
  ill_formed nvm result e none = ap (λ o. workers.finish_on o number result cache) e ∙ go (job_at number nvm.jobs) refl
    where
      go : (o : Option Job) → job_at number nvm.jobs ≡ o → workers.after_finish (takes.finish_job o result nvm) cache ≡ stays (Refused UnknownJob) cache
      go None f = refl
      go (Some job) f = ap (λ o. workers.after_finish (option_map (resumed job result nvm) o) cache) (ap (λ n. pairs.resume n result nvm.pair) (job_number number nvm.jobs job f) ∙ none)

  refuses : (order : Order) (result : IoResult) → Good config older cache → order_in cache.nvm number ≡ Some order → (Suits order result → ⊥) → KeptBy Good config older (workers.finish number result cache)
  refuses order result g at h =
      let r = runs_in order g at in
      refused_kept config older cache (workers.finish number result cache) (Refused UnknownJob) (ill_formed r.1.0 result r.1.1.0 (unsuited r.1.0 number order result r.1.1.1.1 h)) g

  takes_in : (order : Order) (result : IoResult) → Good config older cache → order_in cache.nvm number ≡ Some order → IsResult (bytes_at older) (Some order) result → KeptBy Good config older (workers.finish number result cache)
  takes_in order result g at h = laws.finishes config older cache number result g (subst (λ (o : Option Order). IsResult (bytes_at older) o result) (sym at) h)

  finish_by : (order : Order) (result : IoResult) → Good config older cache → order_in cache.nvm number ≡ Some order → HonestAfter older (workers.finish number result cache).part → KeptBy Good config older (workers.finish number result cache)
  finish_by (Read page) (Page bytes) g at honest =
      let r = runs_in (Read page) g at in
      let step = taken_in laws config (has_bytes bytes) older cache number (Read page) (Page bytes) g.agrees at refl in
      let first : HonestAfter older (notes.Read page (Some bytes) ∷ step.rest) = subst (HonestAfter older) step.told honest in
      takes_in (Read page) (Page bytes) g at (known_read older page bytes (bytes_at older page) refl (read_known r.0 older r.1.0 number page r.1.1.1.0 r.1.1.1.1) first.0)
  finish_by (Read page) Written g at honest = refuses (Read page) Written g at (λ s. s)
  finish_by (Read page) Failed g at honest = takes_in (Read page) Failed g at tt
  finish_by (Write page bytes) (Page read) g at honest = refuses (Write page bytes) (Page read) g at (λ s. s)
  finish_by (Write page bytes) Written g at honest = takes_in (Write page bytes) Written g at tt
  finish_by (Write page bytes) Failed g at honest = takes_in (Write page bytes) Failed g at tt

  finish_of : (result : IoResult) (o : Option Order) → order_in cache.nvm number ≡ o → Good config older cache → HonestAfter older (workers.finish number result cache).part → KeptBy Good config older (workers.finish number result cache)
  finish_of result None at g honest = refused_kept config older cache (workers.finish number result cache) (Refused UnknownJob) (unknown cache.nvm result refl at) g
  finish_of result (Some order) at g honest = finish_by order result g at honest

pub finish_if_honest : Laws → FinishIfHonest
finish_if_honest laws config older cache number result g honest = finish_of laws config older cache number result (order_in cache.nvm number) refl g honest

-- ---- any events

pub honest-split : (older log part : List Note) → HonestAfter older (log ++ part) → HonestAfter older log × HonestAfter (past older log) part
honest-split older [] part h = (tt, h)
honest-split older (note ∷ log) part h = let rest = honest-split (note ∷ older) log part h.1 in ((h.0, rest.0), rest.1)

pub act_kept : (laws : Laws) (config : Config) (older : List Note) (cache : Cache) (event : CacheCall) → CallSized event → Good config older cache → HonestAfter older (act event cache).part → KeptBy Good config older (act event cache)
act_kept laws config older cache (Allocates pool key value ttl) sized g honest = laws.allocates config older cache pool key value ttl g sized
act_kept laws config older cache (Inserts client handle) sized g honest = laws.inserts config older cache client handle g sized
act_kept laws config older cache (Adds client handle) sized g honest = laws.adds config older cache client handle g sized
act_kept laws config older cache (Discards handle) sized g honest = laws.discards config older cache handle g
act_kept laws config older cache (Finds client key) sized g honest = laws.finds config older cache client key g
act_kept laws config older cache (Removes client key) sized g honest = laws.removes config older cache client key g
act_kept laws config older cache (Replies call) sized g honest = laws.replies config older cache call g
act_kept laws config older cache (Ticks moment) sized g honest = laws.ticks config older cache moment g
act_kept laws config older cache Writes sized g honest = laws.writes config older cache g
act_kept laws config older cache Fills sized g honest = laws.fills config older cache g
act_kept laws config older cache Reclaims sized g honest = laws.reclaims config older cache g
act_kept laws config older cache (Finishes number result) sized g honest = finish_if_honest laws config older cache number result g honest

record Held (config : Config) (older log : List Note) (cache : Cache) : Type 0 where
  lawful : Lawful config older log
  good : Good config (past older log) cache

acts_held : (laws : Laws) (config : Config) (older : List Note) (cache : Cache) (events : List CacheCall) → AllCallSized events → Good config older cache → HonestAfter older (acts events cache).log
    → Held config older (acts events cache).log (acts events cache).cache
acts_held laws config older cache [] sized g honest = record { lawful = tt; good = g }
acts_held laws config older cache (event ∷ events) sized g honest =
    let moved = act event cache in
    let rest = acts events moved.cache in
    let two = honest-split older moved.part rest.log honest in
    let k = act_kept laws config older cache event sized.0 g two.0 in
    let more = acts_held laws config (past older moved.part) moved.cache events sized.1 k.good two.1 in
    record {
      lawful = Lawful-append config older moved.part rest.log k.lawful more.lawful;
      good = subst (λ (log : List Note). Good config log rest.cache) (sym (past-append older moved.part rest.log)) more.good;
    }

pub honest_is_legal : Laws → HonestIsLegal
honest_is_legal laws config events can sized honest =
    let cache = new_cache config in
    let h = acts_held laws config [] cache events sized (new_good config can) honest in
    record { lawful = h.lawful; at_end = good_ends config (past [] (acts events cache).log) (acts events cache).cache h.good.agrees }
