-- What a result that is handed in comes to, by the plan of the small engine.
use Rattle.std.proofs.Common.{◌≡◌, ℕ, List, ◌∷◌, ◌++◌, Option, Some, None, ap, sym, ◌∙◌, subst, append_assoc, append-nil}
use Rattle.std.specs.Prelude.{option_map}
use Rattle.hc_types.specs.Config.{Config}
use Rattle.hc_types.specs.declared.config.FlashConfig.{FlashConfig}
use Rattle.hc_engines.specs.Engine.{Op, Order, IoResult, Answer, Loss, outcome_of}
use Rattle.hc_engines.specs.small.BigHash as bighash
use Rattle.hc_engines.specs.small.BigHash.{Phase, Plan, make_job, went_on, moved}
use Rattle.hc_memory.specs.Memory.{Memory}
use Rattle.hc_history.specs.Note.{Note}
use Rattle.hc_history.specs.Lawful.{Allowed, Lawful, past}
use Rattle.hc_history.proofs.Appended.{Lawful-append, past-append}
use Rattle.hc_engines.specs.pair.Pair.{by_small, after_small, resume_in}
use Rattle.hc_machine.specs.Nvm.{Nvm, Task, Job, job_at}
use Rattle.hc_machine.specs.Leaving.{Changed}
use Rattle.hc_machine.specs.Takes as flash_calls
use Rattle.hc_machine.specs.Takes.{Taken, loss_notes, bucket_lost, settled, finish_job, resumed}
use Rattle.hc_machine.specs.Cache.{Cache, unmarked_by}
use Rattle.hc_machine.specs.Workers as workers
use Rattle.hc_invariant.specs.Tells.{CallsTell}
use Rattle.hc_invariant.specs.Jobs.{small_job}
use Rattle.hc_invariant.specs.Good.{Agrees, FlashPart, fills_of}
use Rattle.hc_invariant.specs.Laws.{Steady, Keeps}
use Rattle.hc_proof.proofs.losses.CleanMarks.{unmarked-append}
use Rattle.hc_theorem.specs.buckets.Small.{AllSmall, IsSmallNote, Ending}
use Rattle.hc_theorem.proofs.buckets.SmallBooks.{small-append, passed-part, calls-passed}
use Rattle.hc_theorem.proofs.buckets.JobOver.{Before}
use Rattle.hc_theorem.proofs.buckets.Closing.{NoPut, NoneBrought, with_both, good-again}
use Rattle.hc_theorem.proofs.buckets.Settling.{end_told, told_task, Settled}

-- ---- what is handed in

abbrev pub own : ℕ → Task → Order → Job
own number task order = record { number = number; task = task; order = order }

pub finish-at : (nvm : Nvm) (number bucket : ℕ) (task : Task) (order : Order) (op : Op) (phase : Phase) (result : IoResult) (plan : Plan) → job_at number nvm.jobs ≡ Some (own number task order) → small_job nvm number ≡ Some (make_job number bucket op phase)
    → went_on nvm.pair.small.flash.page op phase result ≡ Some plan
    → flash_calls.finish number result nvm ≡ Some (resumed (own number task order) result nvm (after_small number op (by_small nvm.pair (moved nvm.pair.small number bucket op plan))))
finish-at nvm number bucket task order op phase result plan at there went =
    let J = own number task order in
    let sj = make_job number bucket op phase in
    ap (λ (o : Option Job). finish_job o result nvm) at
    ∙ ap (λ (o : Option bighash.Job). option_map (resumed J result nvm) (resume_in number result nvm.pair o)) there
    ∙ ap (λ (o : Option bighash.Job). option_map (resumed J result nvm) (option_map (λ m. after_small number op (by_small nvm.pair m)) (bighash.resume_job nvm.pair.small o result))) there
    ∙ ap (λ (o : Option Plan). option_map (resumed J result nvm) (option_map (λ m. after_small number op (by_small nvm.pair m)) (option_map (moved nvm.pair.small number bucket op) o))) went

-- ---- the step, by what was taken

no_fill : (config : Config) (older : List Note) (cache : Cache) (taken : Taken) → taken.filled ≡ None → Steady config older taken.part (with_both (unmarked_by taken.part cache.memory) taken.nvm cache) → Keeps config older (workers.after_take taken cache)
no_fill config older cache taken none s = rw none (rw (append-nil taken.part) s)

pub keeps-from : (config : Config) (older : List Note) (cache : Cache) (nvm : Nvm) (number : ℕ) (result : IoResult) (taken : Taken) → cache.nvm ≡ Some nvm → flash_calls.finish number result nvm ≡ Some taken → Keeps config older (workers.after_take taken cache)
    → Keeps config older (workers.finish number result cache)
keeps-from config older cache nvm number result taken e f k =
    subst (λ (o : Option Nvm). Keeps config older (workers.finish_on o number result cache)) (sym e) (subst (λ (o : Option Taken). Keeps config older (workers.after_finish o cache)) (sym f) k)

-- ---- before and after

pub before-good : (config : Config) (flash : FlashConfig) (older : List Note) (cache : Cache) (nvm : Nvm) → config.flash ≡ Some flash → cache.nvm ≡ Some nvm → Agrees config older cache → Before config flash older cache.memory nvm
before-good config flash older cache nvm on e g = record {
  tells = g.memory;
  placed = λ key. rw (on, e) at (g.placed key);
  sized = λ key. rw on at (g.sized key);
  good = subst (λ (n : Option Nvm). FlashPart (Some flash) older cache.memory n) e (subst (λ (f : Option FlashConfig). FlashPart f older cache.memory cache.nvm) on g.flash);
}

-- a part of such notes tells of no call, and doesn't move the clock
pub calls-after : (config : Config) (flash : FlashConfig) (older part : List Note) (cache : Cache) (nvm : Nvm) → cache.nvm ≡ Some nvm → AllSmall flash part → Agrees config older cache → CallsTell (past older part) cache.calls cache.owed nvm.fills
calls-after config flash older part cache nvm e small g =
    calls-passed flash older (past older part) cache.calls cache.owed nvm.fills (passed-part flash older part small) (subst (λ (n : Option Nvm). CallsTell older cache.calls cache.owed (fills_of n)) e g.calls)

-- the job went on
pub keeps-going : (config : Config) (flash : FlashConfig) (older : List Note) (cache : Cache) (nvm : Nvm) (taken : Taken) → config.flash ≡ Some flash → cache.nvm ≡ Some nvm → Agrees config older cache
    → taken.filled ≡ None → taken.nvm.fills ≡ nvm.fills → AllSmall flash taken.part → Lawful config older taken.part → Before config flash (past older taken.part) (unmarked_by taken.part cache.memory) taken.nvm
    → Keeps config older (workers.after_take taken cache)
keeps-going config flash older cache nvm taken on e g none fills small lawful b = no_fill config older cache taken none (record {
  lawful = lawful;
  good = record {
    own = g.own;
    memory = b.tells;
    placed = λ key. rw on (b.placed key);
    sized = λ key. rw on (b.sized key);
    calls = rw fills (calls-after config flash older taken.part cache nvm e small g);
    clock = (passed-part flash older taken.part small).clock ∙ g.clock;
    flash = rw on b.good;
  };
})

-- the job is over, and was for no fill
pub keeps-over : (config : Config) (flash : FlashConfig) (older : List Note) (cache : Cache) (nvm : Nvm) (taken : Taken) (number : ℕ) (task : Task) → config.flash ≡ Some flash → cache.nvm ≡ Some nvm → Agrees config older cache
    → taken.filled ≡ None → taken.nvm.fills ≡ nvm.fills → NoneBrought number nvm.fills → NoPut task → AllSmall flash taken.part → Lawful config older taken.part → Ending config flash (past older taken.part) (unmarked_by taken.part cache.memory) taken.nvm number task
    → Keeps config older (workers.after_take taken cache)
keeps-over config flash older cache nvm taken number task on e g none fills free no_put small lawful ending = no_fill config older cache taken none (record {
  lawful = lawful;
  good = good-again config flash (past older taken.part) cache (unmarked_by taken.part cache.memory) taken.nvm number task on g.own (rw fills (calls-after config flash older taken.part cache nvm e small g)) ((passed-part flash older taken.part small).clock ∙ g.clock) no_put (rw fills free) ending;
})

-- ---- a job that is over tells its first note, what is lost, and its end

pub settled-is : (task : Task) (answer : Answer) (losses : List Loss) (nvm : Nvm) → (settled task (outcome_of answer losses) nvm).part ≡ loss_notes losses ++ (end_told (bucket_lost losses) task nvm).part
settled-is task answer losses nvm =
    let ends = end_told (bucket_lost losses) task nvm in
    append_assoc (loss_notes losses) _ _

pub record Over (config : Config) (flash : FlashConfig) (older : List Note) (first : Note) (memory : Memory) (change : Changed) (number : ℕ) (task : Task) : Type 0 where
  pub lawful : Lawful config older (first ∷ change.part)
  pub small : AllSmall flash (first ∷ change.part)
  pub ending : Ending config flash (past older (first ∷ change.part)) (unmarked_by (first ∷ change.part) memory) change.nvm number (told_task task)

pub over-told : (config : Config) (flash : FlashConfig) (older : List Note) (first : Note) (memory : Memory) (nvm : Nvm) (number : ℕ) (task : Task) (answer : Answer) (losses : List Loss)
    → IsSmallNote flash first → ((rest : List Note) → unmarked_by (first ∷ rest) memory ≡ unmarked_by rest memory) → ((rest : List Note) → Allowed config older first rest) → AllSmall flash (loss_notes losses) → Lawful config (first ∷ older) (loss_notes losses)
    → Settled config flash (past (first ∷ older) (loss_notes losses)) (unmarked_by (loss_notes losses) memory) nvm number task (bucket_lost losses)
    → Over config flash older first memory (settled task (outcome_of answer losses) nvm) number task
over-told config flash older first memory nvm number task answer losses is_small marks allowed small lawful s =
    let ends = end_told (bucket_lost losses) task nvm in
    let same = settled-is task answer losses nvm in
    let whole : Lawful config (first ∷ older) (loss_notes losses ++ ends.part) = Lawful-append config (first ∷ older) (loss_notes losses) ends.part lawful s.lawful in
    record {
      lawful = (allowed (settled task (outcome_of answer losses) nvm).part, subst (Lawful config (first ∷ older)) (sym same) whole);
      small = (is_small, subst (AllSmall flash) (sym same) (small-append flash (loss_notes losses) ends.part small s.small));
      ending =
          subst (λ (m : Memory). Ending config flash (past (first ∷ older) (settled task (outcome_of answer losses) nvm).part) m ends.nvm number (told_task task)) (sym (marks (settled task (outcome_of answer losses) nvm).part ∙ ap (λ (p : List Note). unmarked_by p memory) same ∙ unmarked-append (loss_notes losses) ends.part memory ∙ s.marks))
          (subst (λ (h : List Note). Ending config flash h (unmarked_by (loss_notes losses) memory) ends.nvm number (told_task task)) (sym (ap (past (first ∷ older)) same ∙ past-append (first ∷ older) (loss_notes losses) ends.part)) s.ending);
    }
