-- Each step that hands in no result keeps what holds of a run, and so does one at the device, and a result that is handed in.
use Rattle.std.proofs.Common.{◌≡◌, ℕ, ◌+◌, ◌-◌, ◌<◌, ◌≤◌, ◌^◌, min, Bool, true, false, not, ◌||◌, List, [], ◌∷◌, ◌++◌, length, Option, Some, None, refl, ap, sym, ◌∙◌, subst, arith}
use Rattle.std.specs.Prelude.{if◌then◌else◌, is_some, nat_lt}
use Rattle.std.proofs.lemmas.List.{append-nil}
use Rattle.hc_types.specs.Config.{Config}
use Rattle.hc_types.specs.Charge.{charge_of}
use Rattle.hc_types.specs.declared.config.FlashConfig.{FlashConfig}
use Rattle.hc_types.specs.declared.refusal.Refusal.TheVariants.{NoPool, ValueTooLong, NoRoom}
use Rattle.hc_engines.specs.Engine.{Pages, Order, Read, Write, IoResult, Page, Written, Failed}
use Rattle.hc_memory.specs.Memory.{Memory, is_hopeless}
use Rattle.hc_machine.specs.items.Allocating.{refusal_of}
use Rattle.hc_history.specs.Note as notes
use Rattle.hc_history.specs.Note.{Note}
use Rattle.hc_history.specs.Pages.{bytes_at}
use Rattle.hc_history.specs.Lawful.{past}
use Rattle.hc_history.specs.Honest.{HonestAfter}
use Rattle.hc_history.proofs.Appended.{Lawful-append, past-append}
use Rattle.hc_engines.specs.pair.Pair as pairs
use Rattle.hc_machine.specs.Nvm.{Nvm, Job, job_at}
use Rattle.hc_machine.specs.Takes.{result_note}
use Rattle.hc_machine.specs.Cache.{Cache, Moved}
use Rattle.hc_machine.specs.Workers as workers
use Rattle.hc_machine.specs.World.{World, by_call, order_in, result_at, without_result, result_of, breaks_next, reached, made, io_of, done_of}
use Rattle.hc_invariant.specs.Good.{Agrees, Good, GoodRun, FlashPart, IsResult, DeviceTells}
use Rattle.hc_invariant.specs.Laws.{KeptBy, Laws}
use Rattle.hc_theorem.specs.runs.NoIo.{NoIo, NoIoStep, FinishStep}
use Rattle.hc_theorem.specs.runs.Alone.{Alone}
use Rattle.hc_theorem.proofs.runs.SilentSteps.{finish_step}
use Rattle.hc_theorem.proofs.runs.WritesAlone.{orders_alone, runs_of}
use Rattle.hc_theorem.proofs.runs.ResultsSuit.{suits}
use Rattle.hc_theorem.proofs.runs.Devices.{some_order, call_keeps, io_keeps, waiting_is, finish_keeps}
use Rattle.hc_proof.proofs.frames.JobLists.{job_number}

-- ---- honest parts

pub silent_honest : (older part : List Note) → NoIo part → HonestAfter older part
silent_honest older [] h = tt
silent_honest older (notes.Read page result ∷ part) h = absurd cc
silent_honest older (notes.Wrote page bytes is_written ∷ part) h = absurd cc
silent_honest older (note ∷ part) h = (tt, silent_honest (note ∷ older) part h)

pub honest-append : (older log part : List Note) → HonestAfter older log → HonestAfter (past older log) part → HonestAfter older (log ++ part)
honest-append older [] part p q = q
honest-append older (note ∷ log) part p q = (p.0, honest-append (note ∷ older) log part p.1 q)

-- what is told of a result is true, and so is what comes behind it
result_honest : (older rest : List Note) (order : Order) (result : IoResult) → IsResult (bytes_at older) (Some order) result → NoIo rest → HonestAfter older (result_note order result ∷ rest)
result_honest older rest (Read page) (Page bytes) h silent = (λ known k. cc, silent_honest (notes.Read page (Some bytes) ∷ older) rest silent)
result_honest older rest (Read page) Written h silent = absurd h
result_honest older rest (Read page) Failed h silent = (tt, silent_honest (notes.Read page None ∷ older) rest silent)
result_honest older rest (Write page bytes) (Page read) h silent = absurd h
result_honest older rest (Write page bytes) Written h silent = (tt, silent_honest (notes.Wrote page bytes true ∷ older) rest silent)
result_honest older rest (Write page bytes) Failed h silent = (tt, silent_honest (notes.Wrote page bytes false ∷ older) rest silent)

-- ---- steps that hand in no result

-- such a step keeps all
pub record StepOk (config : Config) (older : List Note) (cache : Cache) (moved : Moved) : Type 0 where
  pub kept : KeptBy Good config older moved
  pub no_io : NoIoStep cache moved

-- ---- an item is allocated

long_by : (a b c : Bool) → (if a then Some NoPool else (if b then Some ValueTooLong else (if c then Some NoRoom else None))) ≡ None → b ≡ false
long_by true b c e = absurd cc
long_by false true c e = absurd cc
long_by false false c e = refl

not_long : (size : ℕ) → nat_lt 1048576 size ≡ false → size ≤ 1048576
not_long size h = grind arith

pub short_value : (memory : Memory) (pool : ℕ) (key : List ℕ) (size : ℕ) → refusal_of memory pool key size ≡ None → size ≤ 1048576
short_value memory pool key size e = not_long size (long_by (not (nat_lt pool (length memory.pools))) (nat_lt 1048576 size) (is_hopeless memory pool (charge_of key size)) e)

pub within : (x : ℕ) → min x (2 ^ 64 - 1) < 2 ^ 64
within x = omega arith

pub second_by : (t : Bool) (x : ℕ) → x < 2 ^ 64 → (if t then 0 else x) < 2 ^ 64
second_by true x h = omega arith
second_by false x h = h

module _ (laws : Laws) (config : Config) where
  pub by_step : (log : List Note) (world : World) (moved : Moved) → GoodRun config log world → StepOk config (past [] log) world.cache moved → GoodRun config (log ++ moved.part) (by_call world moved).world
  by_step log world moved r ok =
      let ends : past [] (log ++ moved.part) ≡ past (past [] log) moved.part = past-append [] log moved.part in
      record {
        lawful = Lawful-append config [] log moved.part r.lawful ok.kept.lawful;
        honest = honest-append [] log moved.part r.honest (silent_honest (past [] log) moved.part ok.no_io.silent);
        good = subst (λ (older : List Note). Good config older moved.cache) (sym ends) ok.kept.good;
        device = subst (λ (older : List Note). DeviceTells older (by_call world moved).world) (sym ends) (call_keeps (past [] log) world moved ok.no_io r.device);
      }

  -- nothing is told
  pub no_part : (log : List Note) (world : World) → GoodRun config log world → GoodRun config (log ++ []) world
  no_part log world r = subst (λ (l : List Note). GoodRun config l world) (sym (append-nil log)) r

  alone_in : (older : List Note) (cache : Cache) → Agrees config older cache → Alone cache.nvm
  alone_in older cache g = go config.flash cache.nvm g.flash
    where
      go : (flash : Option FlashConfig) (nvm : Option Nvm) → FlashPart flash older cache.memory nvm → Alone nvm
      go flash None f n m write other o at there w = absurd cc
      go None (Some nvm) f n m write other o at there w = absurd f
      go (Some flash) (Some nvm) f n m write other o at there w = orders_alone flash older nvm f.engines f.jobs n m write other o at there w

  pub io_ok : (log : List Note) (world : World) (job : ℕ) (fails : Bool) → GoodRun config log world → GoodRun config (log ++ (io_of world job fails (order_in world.cache.nvm job) (result_at job world.results)).part) (io_of world job fails (order_in world.cache.nvm job) (result_at job world.results)).world
  io_ok log world job fails r = go (order_in world.cache.nvm job) refl (result_at job world.results) refl
    where
      go : (o : Option Order) → order_in world.cache.nvm job ≡ o → (x : Option IoResult) → result_at job world.results ≡ x → GoodRun config (log ++ (io_of world job fails o x).part) (io_of world job fails o x).world
      go None e x f = no_part log world r
      go (Some order) e (Some result) f = no_part log world r
      go (Some order) e None f =
          let failing = fails || breaks_next world.breaks in
          let device : DeviceTells (past [] log) (reached fails world) = record { results = r.device.results; pages = r.device.pages } in
          no_part log (made (reached fails world) job order (result_of order failing world.pages)).world (record {
            lawful = r.lawful;
            honest = r.honest;
            good = r.good;
            device = io_keeps (past [] log) (reached fails world) job order failing (alone_in (past [] log) world.cache r.good.agrees) e f device;
          })

  -- a result of a job's order is handed in, and never refused
  pub taken_in : (pages : Pages) (older : List Note) (cache : Cache) (job : ℕ) (order : Order) (result : IoResult) → Agrees config older cache → order_in cache.nvm job ≡ Some order → IsResult pages (Some order) result → FinishStep cache job order result (workers.finish job result cache)
  taken_in pages older cache job order result g at its = go config.flash cache.nvm refl at g.flash
    where
      some_of : (nvm : Nvm) (o : Option pairs.Moved) → is_some o ≡ true → (m : pairs.Moved) × (o ≡ Some m)
      some_of nvm None h = absurd cc
      some_of nvm (Some m) h = (m, refl)

      found : (nvm : Nvm) (o : Option Job) → job_at job nvm.jobs ≡ o → order_in (Some nvm) job ≡ Some order → (j : Job) × (job_at job nvm.jobs ≡ Some j) × (j.order ≡ order)
      found nvm None e h = absurd (let none : order_in (Some nvm) job ≡ None = rw e refl in cc (none, h))
      found nvm (Some j) e h = (j, e, let is : order_in (Some nvm) job ≡ Some j.order = rw e refl in cc (is, h))

      go : (flash : Option FlashConfig) (nvm : Option Nvm) → cache.nvm ≡ nvm → order_in nvm job ≡ Some order → FlashPart flash older cache.memory nvm → FinishStep cache job order result (workers.finish job result cache)
      go flash None e h f = absurd cc
      go None (Some nvm) e h f = absurd f
      go (Some flash) (Some nvm) e h f =
          let j = found nvm (job_at job nvm.jobs) refl h in
          let goes = suits pages nvm job order result (runs_of nvm job order f.jobs h) its in
          let m = some_of nvm (pairs.resume job result nvm.pair) goes in
          let resumes : pairs.resume (j.0).number result nvm.pair ≡ Some m.0 = ap (λ n. pairs.resume n result nvm.pair) (job_number job nvm.jobs j.0 j.1) ∙ m.1 in
          subst (λ (o : Order). FinishStep cache job o result (workers.finish job result cache)) j.2 (finish_step cache nvm job j.0 result m.0 e j.1 resumes)

  pub done_ok : (log : List Note) (world : World) (job : ℕ) → GoodRun config log world → GoodRun config (log ++ (done_of world job (result_at job world.results)).part) (done_of world job (result_at job world.results)).world
  done_ok log world job r = go (result_at job world.results) refl
    where
      go : (x : Option IoResult) → result_at job world.results ≡ x → GoodRun config (log ++ (done_of world job x).part) (done_of world job x).world
      go None f = no_part log world r
      go (Some result) f =
          let older = past [] log in
          let its = waiting_is older world job result f r.device in
          let order = some_order (bytes_at older) (order_in world.cache.nvm job) result its in
          let mine : IsResult (bytes_at older) (Some order.0) result = subst (λ (o : Option Order). IsResult (bytes_at older) o result) order.1 its in
          let moved = workers.finish job result world.cache in
          let kept = laws.finishes config older world.cache job result r.good its in
          let taken = taken_in (bytes_at older) older world.cache job order.0 result r.good.agrees order.1 mine in
          let ends : past [] (log ++ moved.part) ≡ past older moved.part = past-append [] log moved.part in
          let left : World = record world { results = without_result job world.results } in
          record {
            lawful = Lawful-append config [] log moved.part r.lawful kept.lawful;
            honest = honest-append [] log moved.part r.honest (subst (λ (part : List Note). HonestAfter older part) (sym taken.told) (result_honest older taken.rest order.0 result mine taken.silent));
            good = subst (λ (o : List Note). Good config o moved.cache) (sym ends) kept.good;
            device = subst (λ (o : List Note). DeviceTells o (by_call left moved).world) (sym ends) (finish_keeps older world job order.0 result moved (alone_in older world.cache r.good.agrees) order.1 f taken r.device);
          }
