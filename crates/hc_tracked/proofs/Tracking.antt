-- The digests follow the log, call by call, and are as many as the flash has pages.
use Rattle.std.proofs.Common.{◌≡◌, ℕ, ◌<◌, Bool, true, List, [], ◌∷◌, ◌++◌, length, Option, Some, None, refl, ap, sym, subst, ◌∙◌}
use Rattle.std.specs.Prelude.{Result, Ok, Err, IfOk, OnOk, OnErr, option_map}
use Rattle.std.proofs.lemmas.List.{append_assoc}
use Rattle.hc_flash.specs.Operations.{Order, Read, Write, IoResult, Page, Written, Failed}
use Rattle.hc_engines.specs.pair.Pair as pairs
use Rattle.hc_history.specs.Note as notes
use Rattle.hc_history.specs.Note.{Note}
use Rattle.hc_history.specs.Told.{Heard, Nothing, Log, Counts, Sums, IfLog, told_more}
use Rattle.hc_history.specs.Honest.{Honest}
use Rattle.hc_history.specs.Lawful.{Legal, past}
use Rattle.hc_types.specs.Config.{Config}
use Rattle.hc_machine.specs.Nvm.{Nvm, Job, job_at}
use Rattle.hc_machine.specs.Takes as takes
use Rattle.hc_machine.specs.Takes.{result_note, resumed}
use Rattle.hc_machine.specs.Cache.{Cache, Answer, Took}
use Rattle.hc_machine.specs.Call.{CacheCall, Finishes, act}
use Rattle.hc_machine.specs.World.{order_in}
use Rattle.hc_machine.specs.Workers as workers
use Rattle.hc_theorem.specs.runs.NoIo.{NoIo, HandsInNothing, FinishStep}
use Rattle.hc_theorem.proofs.runs.Devices.{silent_pages}
use Rattle.hc_theorem.proofs.runs.SilentSteps.{act_no_io, finish_step}
use Rattle.hc_theorem.proofs.runs.OrdersStay.{order-is}
use Rattle.hc_core.specs.Logged.{Logged, IsCall}
use Rattle.hc_marked.specs.Marked.{Marks, Marked, MarkedAfter, NoneCollides, Keeps}
use Rattle.hc_marked.proofs.Marking.{marked-honest}
use Rattle.hc_theorem.specs.runs.Lock.{Guarded}
use Rattle.hc_marked.specs.Tracked.{Tracks}
use Rattle.hc_marked.proofs.Tracking.{tracks-part, tracks-note}
use Rattle.hc_paged.specs.Devices.{mark_at}
use Rattle.hc_tracked.specs.Resting.{pages_in}
use Rattle.hc_tracked.specs.Reading.{IsToldRead, IsToldWrite, WritesAs, IsTracked}
use Rattle.hc_tracked.proofs.Configured.{act_keeps}

-- ---- parts without reads and writes

silent-marked : (digest : List ℕ → ℕ) (older part : List Note) → NoIo part → MarkedAfter digest older part
silent-marked digest older [] h = tt
silent-marked digest older (notes.Read page result ∷ part) h = absurd cc
silent-marked digest older (notes.Wrote page bytes is_written ∷ part) h = absurd cc
silent-marked digest older (note ∷ part) h = (tt, silent-marked digest (note ∷ older) part h)

tracks-silent : (digest : List ℕ → ℕ) (marks : Marks) (log part : List Note) → Tracks digest marks log → NoIo part → Tracks digest marks (log ++ part)
tracks-silent digest marks log part t h = tracks-part digest marks marks log part t (silent-marked digest (past [] log) part h) (λ page bytes is. t.known page bytes (sym (silent_pages (past [] log) part h page) ∙ is))

module _ (digest : List ℕ → ℕ) (marks : Marks) where
  heard-silent : (heard : Heard) (part : List Note) → IfLog heard (Tracks digest marks) → NoIo part → IfLog (told_more heard part) (Tracks digest marks)
  heard-silent Nothing part t h = tt
  heard-silent (Log log) part t h = tracks-silent digest marks log part t h
  heard-silent (Counts counts losses) part t h = tt
  heard-silent (Sums counts losses) part t h = tt

-- ---- as many digests as pages

-- a call leaves the configuration
called : (call : CacheCall) (answer : Answer) (old new : Logged) → IsCall (act call old.cache) answer old new → new.cache.config ≡ old.cache.config
called call answer old new is = ap (λ (cache : Cache). cache.config) is.cache ∙ act_keeps call old.cache

-- so there are as many, where none comes or goes
still-fit : (few more : List ℕ) (old new : Logged) → new.cache.config ≡ old.cache.config → length more ≡ length few → length few ≡ pages_in old.cache.config.flash → length more ≡ pages_in new.cache.config.flash
still-fit few more old new own same fit = same ∙ fit ∙ ap (λ (config : Config). pages_in config.flash) (sym own)

-- ---- calls that hand in no result

module _ (digest : List ℕ → ℕ) (digests : List ℕ) where
  -- one that is made
  quiet : (call : CacheCall) (answer : Answer) (old new : Logged) → HandsInNothing call → IsCall (act call old.cache) answer old new → IsTracked digest old digests → IsTracked digest new digests
  quiet call answer old new none is t = record {
    tracks = subst (λ (heard : Heard). IfLog heard (Tracks digest (mark_at digests))) (sym is.log) (heard-silent digest (mark_at digests) old.log (act call old.cache).part t.tracks (act_no_io call none old.cache).silent);
    fits = still-fit digests digests old new (called call answer old new is) refl t.fits;
  }

  pub same : (old new : Logged) → new ≡ old → IsTracked digest old digests → IsTracked digest new digests
  same old new e t = subst (λ (l : Logged). IsTracked digest l digests) (sym e) t

  -- one that may be refused
  pub calmly : {T E : Type 0} (call : CacheCall) (answer : T → Answer) (old new : Logged) (result : Result T E) → HandsInNothing call → IfOk result (λ x. IsCall (act call old.cache) (answer x) old new) → OnErr result (new ≡ old) → IsTracked digest old digests → IsTracked digest new digests
  calmly call answer old new (Ok x) none ok err t = quiet call (answer x) old new none ok t
  calmly call answer old new (Err e) none ok err t = same old new err t

  pub calmly-so : {T E : Type 0} (call : CacheCall) (answer : Answer) (old new : Logged) (result : Result T E) → HandsInNothing call → OnOk result (IsCall (act call old.cache) answer old new) → OnErr result (new ≡ old) → IsTracked digest old digests → IsTracked digest new digests
  calmly-so call answer old new (Ok x) none ok err t = quiet call answer old new none ok t
  calmly-so call answer old new (Err e) none ok err t = same old new err t

-- ---- a result is handed in

-- a call that takes is one whose job is there and waits for the result
finished : (cache : Cache) (number : ℕ) (order : Order) (result : IoResult) (take : takes.Take) → order_in cache.nvm number ≡ Some order → Took take ≡ (workers.finish number result cache).answer → FinishStep cache number order result (workers.finish number result cache)
finished cache number order result take is took = on cache.nvm refl is took
  where
    with_job : (nvm : Nvm) → cache.nvm ≡ Some nvm → (job : Option Job) → job_at number nvm.jobs ≡ job → option_map (λ (j : Job). j.order) job ≡ Some order
        → Took take ≡ (workers.after_finish (takes.finish_job job result nvm) cache).answer → FinishStep cache number order result (workers.finish number result cache)
    with_job nvm e None at ordered t = absurd cc
    with_job nvm e (Some job) at ordered t = resumes (pairs.resume job.number result nvm.pair) refl t
      where
        resumes : (o : Option pairs.Moved) → pairs.resume job.number result nvm.pair ≡ o → Took take ≡ (workers.after_finish (option_map (resumed job result nvm) o) cache).answer → FinishStep cache number order result (workers.finish number result cache)
        resumes None e2 t2 = absurd cc
        resumes (Some moved) e2 t2 =
            let its : job.order ≡ order = cc in
            subst (λ (o : Order). FinishStep cache number o result (workers.finish number result cache)) its (finish_step cache nvm number job result moved e at e2)

    on : (o : Option Nvm) → cache.nvm ≡ o → order_in o number ≡ Some order → Took take ≡ (workers.finish_on o number result cache).answer → FinishStep cache number order result (workers.finish number result cache)
    on None e i t = absurd cc
    on (Some nvm) e i t = with_job nvm e (job_at number nvm.jobs) refl (sym (order-is (Some nvm) number) ∙ i) t

module _ (digest : List ℕ → ℕ) (old-marks new-marks : Marks) where
  heard-finish : (heard : Heard) (note : Note) (rest : List Note) → IfLog heard (Tracks digest old-marks) → Keeps digest old-marks note new-marks → NoIo rest → IfLog (told_more heard (note ∷ rest)) (Tracks digest new-marks)
  heard-finish Nothing note rest t k h = tt
  heard-finish (Log log) note rest t k h = subst (Tracks digest new-marks) (append_assoc log (note ∷ []) rest) (tracks-silent digest new-marks (log ++ note ∷ []) rest (tracks-note digest old-marks new-marks log note t k) h)
  heard-finish (Counts counts losses) note rest t k h = tt
  heard-finish (Sums counts losses) note rest t k h = tt

  pub finishes : (number : ℕ) (order : Order) (result : IoResult) (take : takes.Take) (old new : Logged) → order_in old.cache.nvm number ≡ Some order → IsCall (workers.finish number result old.cache) (Took take) old new
      → Keeps digest old-marks (result_note order result) new-marks → IfLog old.log (Tracks digest old-marks) → IfLog new.log (Tracks digest new-marks)
  finishes number order result take old new is call k t =
      let step = finished old.cache number order result take is call.answer_is in
      subst (λ (heard : Heard). IfLog heard (Tracks digest new-marks)) (sym (call.log ∙ ap (told_more old.log) step.told)) (heard-finish old.log (result_note order result) step.rest t k step.silent)

-- ---- a read, and a write

module _ (digest : List ℕ → ℕ) where
  read-keeps : (marks : Marks) (page known : ℕ) (told : IoResult) → IsToldRead digest known told → (0 < known → marks page ≡ Some known) → Keeps digest marks (result_note (Read page) told) marks
  read-keeps marks page known (Page bytes) told there = (there told.1 ∙ ap (λ (mark : ℕ). Some mark) told.0, λ every. refl)
  read-keeps marks page known Written told there = absurd told
  read-keeps marks page known Failed told there = λ every. refl

  pub read-tracks : {T E : Type 0} (digests : List ℕ) (number page known : ℕ) (told : IoResult) (take : T → takes.Take) (old new : Logged) (result : Result T E) → order_in old.cache.nvm number ≡ Some (Read page)
      → IfOk result (λ t. IsCall (workers.finish number told old.cache) (Took (take t)) old new) → OnErr result (new ≡ old) → IsToldRead digest known told → (0 < known → mark_at digests page ≡ Some known)
      → IsTracked digest old digests → IsTracked digest new digests
  read-tracks digests number page known told take old new (Ok t) is ok err k there tracked = record {
    tracks = finishes digest (mark_at digests) (mark_at digests) number (Read page) told (take t) old new is ok (read-keeps (mark_at digests) page known told k there) tracked.tracks;
    fits = still-fit digests digests old new (called (Finishes number told) (Took (take t)) old new ok) refl tracked.fits;
  }
  read-tracks digests number page known told take old new (Err e) is ok err k there tracked = same digest digests old new err tracked

  record Remembers (old new : Marks) (page known : ℕ) (is_within : Bool) : Type 0 where
    none : known ≡ 0 → new page ≡ None
    some : 0 < known → is_within ≡ true → new page ≡ Some known
    others : (other : ℕ) → ¬ (other ≡ page) → new other ≡ old other

  write-keeps : (old new : Marks) (page mark known : ℕ) (is_within : Bool) (bytes : List ℕ) (told : IoResult) → mark ≡ digest bytes → 0 < mark → IsToldWrite is_within mark known told → Remembers old new page known is_within
      → Keeps digest old (result_note (Write page bytes) told) new
  write-keeps old new page mark known is_within bytes (Page read) its some told r = absurd told
  write-keeps old new page mark known is_within bytes Written its some told r = (r.some (subst (λ (n : ℕ). 0 < n) (sym told.1) some) told.0 ∙ ap (λ (n : ℕ). Some n) (told.1 ∙ its), r.others)
  write-keeps old new page mark known is_within bytes Failed its some told r = (r.none told, r.others)

  written-tracks : (old-marks new-marks : Marks) (number page mark known : ℕ) (is_within : Bool) (told : IoResult) (take : takes.Take) (old new : Logged) → WritesAs digest mark (order_in old.cache.nvm number) page
      → IsCall (workers.finish number told old.cache) (Took take) old new → IsToldWrite is_within mark known told → Remembers old-marks new-marks page known is_within
      → IfLog old.log (Tracks digest old-marks) → IfLog new.log (Tracks digest new-marks)
  written-tracks old-marks new-marks number page mark known is_within told take old new writes call k remembers tracks = go (order_in old.cache.nvm number) refl writes
    where
      go : (o : Option Order) → order_in old.cache.nvm number ≡ o → WritesAs digest mark o page → IfLog new.log (Tracks digest new-marks)
      go None e w = absurd w
      go (Some (Read at)) e w = absurd w
      go (Some (Write at bytes)) e w =
          let its : Keeps digest old-marks (result_note (Write page bytes) told) new-marks = write-keeps old-marks new-marks page mark known is_within bytes told w.1 w.2 k remembers in
          finishes digest old-marks new-marks number (Write at bytes) told take old new e call (subst (λ (p : ℕ). Keeps digest old-marks (result_note (Write p bytes) told) new-marks) (sym w.0) its) tracks

  pub write-tracks : (few more : List ℕ) (number page mark known : ℕ) (is_within : Bool) (told : IoResult) (take : takes.Take) (old new : Logged) → WritesAs digest mark (order_in old.cache.nvm number) page
      → IsCall (workers.finish number told old.cache) (Took take) old new → IsToldWrite is_within mark known told
      → (known ≡ 0 → mark_at more page ≡ None) → (0 < known → is_within ≡ true → mark_at more page ≡ Some known) → ((other : ℕ) → ¬ (other ≡ page) → mark_at more other ≡ mark_at few other) → length more ≡ length few
      → IsTracked digest old few → IsTracked digest new more
  write-tracks few more number page mark known is_within told take old new writes call k none some others many tracked = record {
    tracks = written-tracks (mark_at few) (mark_at more) number page mark known is_within told take old new writes call k (record { none = none; some = some; others = others }) tracked.tracks;
    fits = still-fit few more old new (called (Finishes number told) (Took take) old new call) many tracked.fits;
  }

-- ---- before any call

new-tracks : (digest : List ℕ → ℕ) (marks : Marks) (heard : Heard) → IfLog heard (λ log. log ≡ []) → IfLog heard (Tracks digest marks)
new-tracks digest marks Nothing none = tt
new-tracks digest marks (Log log) none = subst (Tracks digest marks) (sym none) (record { marked = tt; known = λ page bytes is. absurd cc })
new-tracks digest marks (Counts counts losses) none = tt
new-tracks digest marks (Sums counts losses) none = tt

pub new-tracked : (digest : List ℕ → ℕ) (core : Logged) (digests : List ℕ) → IfLog core.log (λ log. log ≡ []) → length digests ≡ pages_in core.cache.config.flash → IsTracked digest core digests
new-tracked digest core digests none fits = record { tracks = new-tracks digest (mark_at digests) core.log none; fits = fits }

-- ---- the end

pub marked-report : {R E : Type 0} (digest : List ℕ → ℕ) (log : R → List Note) (heard : Heard) (result : Result R E) → IfOk result (λ r. Log (log r) ≡ heard) → IfLog heard (Marked digest) → IfOk result (λ r. Marked digest (log r))
marked-report digest log heard (Ok r) is m = subst (λ (h : Heard). IfLog h (Marked digest)) (sym is) m
marked-report digest log heard (Err e) is m = tt

module _ (digest : List ℕ → ℕ) (notes : List Note) where
  -- the log of a core that is given up
  pub marked-notes : (heard : Heard) → Log notes ≡ heard → IfLog heard (Marked digest) → Marked digest notes
  marked-notes heard is m = subst (λ (h : Heard). IfLog h (Marked digest)) (sym is) m

  pub honest-notes : Marked digest notes → NoneCollides digest notes → Honest notes
  honest-notes m none = marked-honest digest notes m none

  pub legal-notes : (config : Config) (cache : Cache) → Marked digest notes → Guarded config notes cache → NoneCollides digest notes → Legal config notes
  legal-notes config cache m guarded none = (guarded (marked-honest digest notes m none)).legal
