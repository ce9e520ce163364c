-- A result of a put or a delete keeps the invariant.
use Rattle.std.proofs.Common.{◌≡◌, ℕ, true, false, not, List, [], Option, Some, None, refl, ap, sym, ◌∙◌}
use Rattle.std.specs.Prelude.{if◌then◌else◌, is_some}
use Rattle.std.proofs.lemmas.Bool.{eq-eqb}
use Rattle.hc_types.specs.Config.{Config}
use Rattle.hc_types.specs.Places.{bucket_at}
use Rattle.hc_types.specs.declared.config.FlashConfig.{FlashConfig}
use Rattle.hc_types.specs.FlashEntry.{FlashEntry}
use Rattle.hc_bucket.specs.Page.{page_bytes}
use Rattle.hc_memory.proofs.Keyed.{same_bytes}
use Rattle.hc_engines.specs.Engine.{Op, Put, Get, Delete, Order, Read, Write, IoResult, Page, Written, Failed, Answer, Over as IsOver, Loss, outcome_of}
use Rattle.hc_engines.specs.small.Entries.{under, without, page_put, put_losses}
use Rattle.hc_engines.specs.small.BigHash as bighash
use Rattle.hc_engines.specs.small.BigHash.{Phase, Reading, Writing, Plan, ToWrite, ToEnd, ToKeep, ToGiveUp, make_job, moved}
use Rattle.hc_engines.specs.small.Bloom.{word_of}
use Rattle.hc_engines.specs.small.Held as small
use Rattle.hc_history.specs.Note as notes
use Rattle.hc_history.specs.Note.{Note}
use Rattle.hc_history.specs.Pages.{bytes_at}
use Rattle.hc_engines.specs.pair.Pair.{by_small, after_small}
use Rattle.hc_machine.specs.Nvm.{Nvm, Tombstone, Task, Putting, Deleting, Flushing, job_at}
use Rattle.hc_machine.specs.Takes.{Taken, bucket_lost, settled, resumed, ends_with}
use Rattle.hc_machine.specs.Cache.{Cache}
use Rattle.hc_machine.specs.Workers as workers
use Rattle.hc_invariant.specs.Jobs.{is_taken, small_job, large_work}
use Rattle.hc_invariant.specs.Good.{Agrees}
use Rattle.hc_invariant.specs.Laws.{Keeps}
use Rattle.hc_proof.specs.losses.Losses.{bucket_loss}
use Rattle.hc_theorem.proofs.buckets.JobOver.{job_gone}
use Rattle.hc_theorem.proofs.buckets.Closing.{NoneBrought, none-brought}
use Rattle.hc_theorem.proofs.buckets.FirstNote.{first-read, first-wrote, own-job}
use Rattle.hc_theorem.proofs.buckets.GoesOn.{goes_on_before}
use Rattle.hc_theorem.proofs.buckets.Settling.{no-put, EndsIn, raise-fills}
use Rattle.hc_theorem.proofs.buckets.Finishing.{own, finish-at, keeps-from, before-good, keeps-going, keeps-over, Over}
use Rattle.hc_theorem.proofs.buckets.PutResults.{read-allowed, wrote-allowed, reads-known, reads-entries, given_up_over, delete_read_over, delete_written_over, put_written_over}

-- what is taken where the small engine goes on by a plan
abbrev pub taken_by : Nvm → ℕ → ℕ → Task → Order → Op → IoResult → Plan → Taken
taken_by nvm number bucket task order op result plan = resumed (own number task order) result nvm (after_small number op (by_small nvm.pair (moved nvm.pair.small number bucket op plan)))

module _ (config : Config) (flash : FlashConfig) (older : List Note) (cache : Cache) (nvm : Nvm) (number bucket : ℕ) where
  -- what is known of a good cache with this job
  pub record With (task : Task) (order : Order) (op : Op) (phase : Phase) : Type 0 where
    pub on : config.flash ≡ Some flash
    pub nvm_is : cache.nvm ≡ Some nvm
    pub good : Agrees config older cache
    pub at : job_at number nvm.jobs ≡ Some (own number task order)
    pub there : small_job nvm number ≡ Some (make_job number bucket op phase)
    pub none : large_work nvm number ≡ None

  none_for : (task : Task) (order : Order) (op : Op) (phase : Phase) → With task order op phase → ((k : List ℕ) → op ≡ Get k → ⊥) → NoneBrought number nvm.fills
  none_for task order op phase w not =
      let b = before-good config flash older cache nvm w.on w.nvm_is w.good in
      none-brought (bytes_at older) cache.memory nvm number (make_job number bucket op phase) nvm.fills w.there not b.good.fills.each

  -- ---- the bucket is given up

  ends_none : (task : Task) → ((stone : Tombstone) → ends_with task stone ≡ false) → EndsIn flash task bucket
  ends_none task h stone t = let f = h stone in absurd (cc (f, t))

  ends_here : (order : Order) (k : List ℕ) (phase : Phase) → With (Deleting k) order (Delete k) phase → EndsIn flash (Deleting k) bucket
  ends_here order k phase w stone t =
      let b = before-good config flash older cache nvm w.on w.nvm_is w.good in
      let o = own-job flash older nvm number (make_job number bucket (Delete k) phase) b.good.engines w.there in
      eq-eqb _ _ (ap (bucket_at flash) (same_bytes stone.key k t) ∙ sym o.here)

  read_failed : (task : Task) (op : Op) → With task (Read bucket) op Reading → EndsIn flash task bucket → (answer : Answer)
      → Over config flash older (notes.Read bucket None) cache.memory (settled task (outcome_of answer (bucket_loss bucket)) (job_gone (bighash.carried_out nvm.pair.small number bucket op ToGiveUp) number nvm)) number task
  read_failed task op w ends answer =
      let b = before-good config flash older cache nvm w.on w.nvm_is w.good in
      given_up_over config flash older cache.memory nvm number bucket b w.on task (Read bucket) op Reading (notes.Read bucket None) answer w.at w.there w.none ends (first-read flash older bucket None) refl (λ rest. refl) (read-allowed config flash older cache.memory nvm number bucket w.on None (reads-known config flash older cache.memory nvm number bucket b op w.there))

  write_failed : (task : Task) (op : Op) (es : List FlashEntry) (losses : List Loss) → With task (Write bucket (page_bytes nvm.pair.small.flash.page es)) op (Writing es losses) → EndsIn flash task bucket → (answer : Answer)
      → Over config flash older (notes.Wrote bucket (page_bytes nvm.pair.small.flash.page es) false) cache.memory (settled task (outcome_of answer (bucket_loss bucket)) (job_gone (bighash.carried_out nvm.pair.small number bucket op ToGiveUp) number nvm)) number task
  write_failed task op es losses w ends answer =
      let b = before-good config flash older cache nvm w.on w.nvm_is w.good in
      let o = own-job flash older nvm number (make_job number bucket op (Writing es losses)) b.good.engines w.there in
      let bytes = page_bytes nvm.pair.small.flash.page es in
      given_up_over config flash older cache.memory nvm number bucket b w.on task (Write bucket bytes) op (Writing es losses) (notes.Wrote bucket bytes false) answer w.at w.there w.none ends (first-wrote flash older bucket bytes false o.below) refl (λ rest. refl) (wrote-allowed config flash older cache.memory nvm number bucket w.on bytes false)

  -- ---- puts

  pub put_reads : (k : List ℕ) (e : FlashEntry) (bytes : List ℕ) → With (Putting k) (Read bucket) (Put e) Reading → bytes_at older bucket ≡ Some bytes → Keeps config older (workers.finish number (Page bytes) cache)
  put_reads k e bytes w read =
      let b = before-good config flash older cache nvm w.on w.nvm_is w.good in
      let es = small.bucket_entries nvm.pair.small (bytes_at older) bucket in
      let size = nvm.pair.small.flash.page in
      let taken = taken_by nvm number bucket (Putting k) (Read bucket) (Put e) (Page bytes) (ToWrite (page_put size e es) (put_losses size e es)) in
      keeps-from config older cache nvm number (Page bytes) taken w.nvm_is (finish-at nvm number bucket (Putting k) (Read bucket) (Put e) Reading (Page bytes) _ w.at w.there (reads-entries config flash older cache.memory nvm number bucket b (Put e) bytes w.there read))
      (keeps-going config flash older cache nvm taken w.on w.nvm_is w.good refl refl (tt, tt) (read-allowed config flash older cache.memory nvm number bucket w.on (Some bytes) (reads-known config flash older cache.memory nvm number bucket b (Put e) w.there) [], tt)
      (goes_on_before config flash older cache.memory nvm number (make_job number bucket (Put e) Reading) (page_put size e es) (put_losses size e es) (Some bytes) b w.there (refl, refl)))

  pub put_read_failed : (k : List ℕ) (e : FlashEntry) → With (Putting k) (Read bucket) (Put e) Reading → Keeps config older (workers.finish number Failed cache)
  put_read_failed k e w =
      let taken = taken_by nvm number bucket (Putting k) (Read bucket) (Put e) Failed ToGiveUp in
      let over = read_failed (Putting k) (Put e) w (ends_none (Putting k) (λ stone. refl)) IsOver in
      keeps-from config older cache nvm number Failed taken w.nvm_is (finish-at nvm number bucket (Putting k) (Read bucket) (Put e) Reading Failed ToGiveUp w.at w.there refl)
      (keeps-over config flash older cache nvm taken number Flushing w.on w.nvm_is w.good refl refl (none_for (Putting k) (Read bucket) (Put e) Reading w (λ k e. absurd (cc e))) (no-put (Putting k)) over.small over.lawful over.ending)

  pub put_written : (k : List ℕ) (e : FlashEntry) (es : List FlashEntry) (losses : List Loss) → With (Putting k) (Write bucket (page_bytes nvm.pair.small.flash.page es)) (Put e) (Writing es losses) → Keeps config older (workers.finish number Written cache)
  put_written k e es losses w =
      let b = before-good config flash older cache nvm w.on w.nvm_is w.good in
      let order = Write bucket (page_bytes nvm.pair.small.flash.page es) in
      let taken = taken_by nvm number bucket (Putting k) order (Put e) Written (ToKeep (word_of es) losses) in
      let over = put_written_over config flash older cache.memory nvm number bucket b w.on order k e es losses w.at w.there w.none in
      keeps-from config older cache nvm number Written taken w.nvm_is (finish-at nvm number bucket (Putting k) order (Put e) (Writing es losses) Written (ToKeep (word_of es) losses) w.at w.there refl)
      (keeps-over config flash older cache nvm taken number Flushing w.on w.nvm_is w.good refl (raise-fills (bucket_lost losses) (job_gone (bighash.carried_out nvm.pair.small number bucket (Put e) (ToKeep (word_of es) losses)) number nvm)) (none_for (Putting k) order (Put e) (Writing es losses) w (λ k e. absurd (cc e))) (no-put (Putting k)) over.small over.lawful over.ending)

  pub put_write_failed : (k : List ℕ) (e : FlashEntry) (es : List FlashEntry) (losses : List Loss) → With (Putting k) (Write bucket (page_bytes nvm.pair.small.flash.page es)) (Put e) (Writing es losses) → Keeps config older (workers.finish number Failed cache)
  put_write_failed k e es losses w =
      let order = Write bucket (page_bytes nvm.pair.small.flash.page es) in
      let taken = taken_by nvm number bucket (Putting k) order (Put e) Failed ToGiveUp in
      let over = write_failed (Putting k) (Put e) es losses w (ends_none (Putting k) (λ stone. refl)) IsOver in
      keeps-from config older cache nvm number Failed taken w.nvm_is (finish-at nvm number bucket (Putting k) order (Put e) (Writing es losses) Failed ToGiveUp w.at w.there refl)
      (keeps-over config flash older cache nvm taken number Flushing w.on w.nvm_is w.good refl refl (none_for (Putting k) order (Put e) (Writing es losses) w (λ k e. absurd (cc e))) (no-put (Putting k)) over.small over.lawful over.ending)

  -- ---- deletes

  delete_goes : (k bytes : List ℕ) (o : Option FlashEntry) → under k (small.bucket_entries nvm.pair.small (bytes_at older) bucket) ≡ o → With (Deleting k) (Read bucket) (Delete k) Reading → bytes_at older bucket ≡ Some bytes
      → Keeps config older (workers.after_take (taken_by nvm number bucket (Deleting k) (Read bucket) (Delete k) (Page bytes) (if is_some o then ToWrite (without k (small.bucket_entries nvm.pair.small (bytes_at older) bucket)) [] else ToEnd IsOver)) cache)
  delete_goes k bytes None p w read =
      let b = before-good config flash older cache nvm w.on w.nvm_is w.good in
      let over = delete_read_over config flash older cache.memory nvm number bucket b w.on (Read bucket) k bytes w.at w.there w.none read p in
      keeps-over config flash older cache nvm (taken_by nvm number bucket (Deleting k) (Read bucket) (Delete k) (Page bytes) (ToEnd IsOver)) number (Deleting k) w.on w.nvm_is w.good refl refl (none_for (Deleting k) (Read bucket) (Delete k) Reading w (λ k e. absurd (cc e))) (no-put (Deleting k)) over.small over.lawful over.ending
  delete_goes k bytes (Some e) p w read =
      let b = before-good config flash older cache nvm w.on w.nvm_is w.good in
      let es = small.bucket_entries nvm.pair.small (bytes_at older) bucket in
      keeps-going config flash older cache nvm (taken_by nvm number bucket (Deleting k) (Read bucket) (Delete k) (Page bytes) (ToWrite (without k es) [])) w.on w.nvm_is w.good refl refl (tt, tt)
      (read-allowed config flash older cache.memory nvm number bucket w.on (Some bytes) (reads-known config flash older cache.memory nvm number bucket b (Delete k) w.there) [], tt)
      (goes_on_before config flash older cache.memory nvm number (make_job number bucket (Delete k) Reading) (without k es) [] (Some bytes) b w.there (refl, refl))

  pub delete_reads : (k bytes : List ℕ) → With (Deleting k) (Read bucket) (Delete k) Reading → bytes_at older bucket ≡ Some bytes → Keeps config older (workers.finish number (Page bytes) cache)
  delete_reads k bytes w read =
      let b = before-good config flash older cache nvm w.on w.nvm_is w.good in
      let es = small.bucket_entries nvm.pair.small (bytes_at older) bucket in
      keeps-from config older cache nvm number (Page bytes) (taken_by nvm number bucket (Deleting k) (Read bucket) (Delete k) (Page bytes) (if is_some (under k es) then ToWrite (without k es) [] else ToEnd IsOver)) w.nvm_is
      (finish-at nvm number bucket (Deleting k) (Read bucket) (Delete k) Reading (Page bytes) _ w.at w.there (reads-entries config flash older cache.memory nvm number bucket b (Delete k) bytes w.there read))
      (delete_goes k bytes (under k es) refl w read)

  pub delete_read_failed : (k : List ℕ) → With (Deleting k) (Read bucket) (Delete k) Reading → Keeps config older (workers.finish number Failed cache)
  delete_read_failed k w =
      let taken = taken_by nvm number bucket (Deleting k) (Read bucket) (Delete k) Failed ToGiveUp in
      let over = read_failed (Deleting k) (Delete k) w (ends_here (Read bucket) k Reading w) IsOver in
      keeps-from config older cache nvm number Failed taken w.nvm_is (finish-at nvm number bucket (Deleting k) (Read bucket) (Delete k) Reading Failed ToGiveUp w.at w.there refl)
      (keeps-over config flash older cache nvm taken number (Deleting k) w.on w.nvm_is w.good refl refl (none_for (Deleting k) (Read bucket) (Delete k) Reading w (λ k e. absurd (cc e))) (no-put (Deleting k)) over.small over.lawful over.ending)

  pub delete_written : (k : List ℕ) (es : List FlashEntry) → With (Deleting k) (Write bucket (page_bytes nvm.pair.small.flash.page es)) (Delete k) (Writing es []) → is_taken k nvm.tombstones ≡ true → Keeps config older (workers.finish number Written cache)
  delete_written k es w stone =
      let b = before-good config flash older cache nvm w.on w.nvm_is w.good in
      let order = Write bucket (page_bytes nvm.pair.small.flash.page es) in
      let taken = taken_by nvm number bucket (Deleting k) order (Delete k) Written (ToKeep (word_of es) []) in
      let over = delete_written_over config flash older cache.memory nvm number bucket b w.on order k es w.at w.there w.none stone in
      keeps-from config older cache nvm number Written taken w.nvm_is (finish-at nvm number bucket (Deleting k) order (Delete k) (Writing es []) Written (ToKeep (word_of es) []) w.at w.there refl)
      (keeps-over config flash older cache nvm taken number (Deleting k) w.on w.nvm_is w.good refl refl (none_for (Deleting k) order (Delete k) (Writing es []) w (λ k e. absurd (cc e))) (no-put (Deleting k)) over.small over.lawful over.ending)

  pub delete_write_failed : (k : List ℕ) (es : List FlashEntry) (losses : List Loss) → With (Deleting k) (Write bucket (page_bytes nvm.pair.small.flash.page es)) (Delete k) (Writing es losses) → Keeps config older (workers.finish number Failed cache)
  delete_write_failed k es losses w =
      let order = Write bucket (page_bytes nvm.pair.small.flash.page es) in
      let taken = taken_by nvm number bucket (Deleting k) order (Delete k) Failed ToGiveUp in
      let over = write_failed (Deleting k) (Delete k) es losses w (ends_here order k (Writing es losses) w) IsOver in
      keeps-from config older cache nvm number Failed taken w.nvm_is (finish-at nvm number bucket (Deleting k) order (Delete k) (Writing es losses) Failed ToGiveUp w.at w.there refl)
      (keeps-over config flash older cache nvm taken number (Deleting k) w.on w.nvm_is w.good refl refl (none_for (Deleting k) order (Delete k) (Writing es losses) w (λ k e. absurd (cc e))) (no-put (Deleting k)) over.small over.lawful over.ending)
