-- Results of puts and deletes.
use Rattle.std.proofs.Common.{◌≡◌, ℕ, Bool, true, false, List, [], ◌∷◌, Option, Some, None, refl, ap, sym, ◌∙◌, subst, append-nil}
use Rattle.std.specs.Prelude.{is_some, IsSome}
use Rattle.std.specs.Str.{bytes_eq}
use Rattle.std.proofs.lemmas.Bool.{eqb-true}
use Rattle.hc_types.specs.Config.{Config}
use Rattle.hc_types.specs.Loss as loss
use Rattle.hc_types.specs.Places.{bucket_at}
use Rattle.hc_types.specs.declared.config.FlashConfig.{FlashConfig}
use Rattle.hc_types.specs.FlashEntry.{FlashEntry}
use Rattle.hc_bucket.specs.Page.{page_bytes}
use Rattle.hc_bucket.specs.Reading.{page_at}
use Rattle.hc_bucket.proofs.Numbers.{some_is}
use Rattle.hc_bucket.proofs.Pages.{page_again}
use Rattle.hc_machine.proofs.items.Items.{bytes_eq-refl}
use Rattle.hc_engines.specs.Engine.{Op, Put, Delete, Order, Page, Answer, Over as IsOver, Loss, outcome_of}
use Rattle.hc_engines.specs.small.Entries.{under, without, pushed_out, full_losses}
use Rattle.hc_engines.specs.small.BigHash as bighash
use Rattle.hc_engines.specs.small.BigHash.{Phase, Reading, Writing, ToEnd, ToKeep, ToGiveUp, make_job, went_on, was_read, read_as, moved, word_at, is_busy}
use Rattle.hc_engines.specs.small.Bloom.{word_of}
use Rattle.hc_engines.specs.small.Held as small
use Rattle.hc_engines.specs.small.Held.{PageFits, entries_at}
use Rattle.hc_engines.proofs.small.Holding.{read_again}
use Rattle.hc_memory.proofs.Keyed.{same_bytes}
use Rattle.hc_memory.specs.Memory.{Memory}
use Rattle.hc_history.specs.Note.{Note, Lose, Read, Wrote}
use Rattle.hc_history.specs.Pages.{bytes_at}
use Rattle.hc_history.specs.Lawful.{Allowed, Lawful, past, failed_page}
use Rattle.hc_machine.specs.Nvm.{Nvm, Tombstone, Task, Putting, Deleting, job_at}
use Rattle.hc_machine.specs.Takes.{loss_notes, bucket_lost, settled, ends_with}
use Rattle.hc_machine.specs.Cache.{unmarked_by}
use Rattle.hc_invariant.specs.Jobs.{is_taken, small_job, large_work}
use Rattle.hc_invariant.specs.Laws.{LawfulIn}
use Rattle.hc_invariant.proofs.Pieces.{pieces-join}
use Rattle.hc_proof.specs.losses.Losses.{bucket_loss}
use Rattle.hc_theorem.proofs.buckets.Raising.{MayEnd}
use Rattle.hc_theorem.proofs.buckets.JobOver.{Before, job_gone}
use Rattle.hc_theorem.proofs.buckets.FirstNote.{First, own-job}
use Rattle.hc_theorem.proofs.buckets.Emptied.{emptied, emptied_ending, emptied_lawful, held_then}
use Rattle.hc_theorem.proofs.buckets.PageWritten.{kept, wrote, bytes, kept_by}
use Rattle.hc_theorem.proofs.buckets.DeleteOver.{ended, read_ending, held_without, deleted_ending}
use Rattle.hc_theorem.proofs.buckets.PutStored.{stored, puts-of, stored_ending, stored_lawful, then_small}
use Rattle.hc_theorem.proofs.buckets.Settling.{Settled, IsBare, EndsIn, settled_none, settled_bucket, passes-some, no-ends}
use Rattle.hc_theorem.proofs.buckets.Finishing.{own, Over, over-told}

-- ---- pages

-- the page of a bucket that was written is known
known-page : (flash : FlashConfig) (bucket : ℕ) (word : Option ℕ) (page : Option (List ℕ)) → PageFits flash bucket word page → is_some word ≡ true → IsSome page
known-page flash bucket None page h w = absurd (cc)
known-page flash bucket (Some word) page h w = rw h.1 refl

pub page-read : (flash : FlashConfig) (bucket : ℕ) (word : Option ℕ) (page : Option (List ℕ)) (bytes : List ℕ) → PageFits flash bucket word page → is_some word ≡ true → page ≡ Some bytes → page_at flash.page bytes ≡ Some (entries_at flash.page word page)
page-read flash bucket None page bytes h w p = absurd (cc)
page-read flash bucket (Some word) page bytes h w p =
    let same : page_bytes flash.page h.0 ≡ bytes = some_is (page_bytes flash.page h.0) bytes (sym h.1 ∙ p) in
    ap (page_at flash.page) (sym same) ∙ page_again flash.page h.0 h.2 ∙ ap (λ (es : List FlashEntry). Some es) (sym (read_again flash.page h.0 page h.1 h.2))

some-known : (o : Option (List ℕ)) (page : List ℕ) → o ≡ Some page → IsSome o
some-known o page e = rw e refl

abbrev pub lost_note : ℕ → Note
lost_note bucket = Lose (loss.Bucket bucket) loss.Fault

module _ (config : Config) (flash : FlashConfig) (older : List Note) (memory : Memory) (nvm : Nvm) (number bucket : ℕ) where
  abbrev pub entries : List FlashEntry
  entries = small.bucket_entries nvm.pair.small (bytes_at older) bucket

  pub read-allowed : config.flash ≡ Some flash → (result : Option (List ℕ)) → IsSome (bytes_at older bucket) → (rest : List Note) → Allowed config older (Read bucket result) rest
  read-allowed on result known rest = rw on known

  pub wrote-allowed : config.flash ≡ Some flash → (bytes : List ℕ) (done : Bool) (rest : List Note) → Allowed config older (Wrote bucket bytes done) rest
  wrote-allowed on bytes done rest = rw on tt

  -- a job that reads has a page that is known
  pub reads-known : Before config flash older memory nvm → (op : Op) → small_job nvm number ≡ Some (make_job number bucket op Reading) → IsSome (bytes_at older bucket)
  reads-known b op there =
      let o = own-job flash older nvm number (make_job number bucket op Reading) b.good.engines there in
      known-page nvm.pair.small.flash bucket (word_at nvm.pair.small bucket) (bytes_at older bucket) (b.good.engines.small_fits.pages_fit bucket) o.out.fit.3

  -- what was read are the bucket's entries
  pub reads-entries : Before config flash older memory nvm → (op : Op) (bytes : List ℕ) → small_job nvm number ≡ Some (make_job number bucket op Reading) → bytes_at older bucket ≡ Some bytes
      → went_on nvm.pair.small.flash.page op Reading (Page bytes) ≡ Some (was_read nvm.pair.small.flash.page op (small.bucket_entries nvm.pair.small (bytes_at older) bucket))
  reads-entries b op bytes there read =
      let o = own-job flash older nvm number (make_job number bucket op Reading) b.good.engines there in
      ap (λ (es : Option (List FlashEntry)). Some (read_as nvm.pair.small.flash.page op es)) (page-read nvm.pair.small.flash bucket (word_at nvm.pair.small bucket) (bytes_at older bucket) bytes (b.good.engines.small_fits.pages_fit bucket) o.out.fit.3 read)

  -- ---- a bucket is given up

  pub given_up_over : Before config flash older memory nvm → config.flash ≡ Some flash → (task : Task) (order : Order) (op : Op) (phase : Phase) (first : Note) (answer : Answer) → job_at number nvm.jobs ≡ Some (own number task order)
      → small_job nvm number ≡ Some (make_job number bucket op phase) → large_work nvm number ≡ None → EndsIn flash task bucket → First flash older bucket first → failed_page (first ∷ older) ≡ Some bucket
      → ((rest : List Note) → unmarked_by (first ∷ rest) memory ≡ unmarked_by rest memory) → ((rest : List Note) → Allowed config older first rest)
      → Over config flash older first memory (settled task (outcome_of answer (bucket_loss bucket)) (job_gone (bighash.carried_out nvm.pair.small number bucket op ToGiveUp) number nvm)) number task
  given_up_over b on task order op phase first answer at there none ends f failed marks allowed =
      let job = own number task order in
      let sj = make_job number bucket op phase in
      let o = own-job flash older nvm number sj b.good.engines there in
      let s = emptied config flash older first memory nvm number job sj in
      let ending = emptied_ending config flash older first memory nvm number job sj b on at there none f in
      let bare : IsBare flash (lost_note bucket ∷ first ∷ older) (job_gone s number nvm) bucket =
      λ key h. (subst (λ (n : ℕ). is_busy n (bighash.without_job number nvm.pair.small.jobs) ≡ false) (sym (eqb-true _ _ h)) o.out.free, held_then config flash older first memory nvm number job sj b.good.engines o f key true h) in
      over-told config flash older first memory (job_gone s number nvm) number task answer (bucket_loss bucket) f.small marks allowed (tt, tt) (emptied_lawful config flash older first memory nvm number job sj on o.below failed [], tt)
      (settled_bucket config flash (lost_note bucket ∷ first ∷ older) _ (job_gone s number nvm) number task bucket on ending b.good.engines.same bare ends)

  -- ---- a delete is over

  -- its key's tombstone ends
  may_end : (h : List Note) (n : Nvm) (m : Memory) (k : List ℕ) → is_busy (bucket_at flash k) n.pair.small.jobs ≡ false → small.held n.pair.small (bytes_at h) k ≡ None → MayEnd config flash h m n number (Deleting k) (ends_with (Deleting k))
  may_end h n m k free none = λ key s. passes-some key (ends_with (Deleting k)) ((is_busy (bucket_at flash key) n.pair.small.jobs ≡ false) × (small.held n.pair.small (bytes_at h) key ≡ None)) n.tombstones (λ stone is_key is_k. moved key stone is_key is_k) s
    where
      moved : (key : List ℕ) (stone : Tombstone) → bytes_eq stone.key key ≡ true → bytes_eq stone.key k ≡ true → (is_busy (bucket_at flash key) n.pair.small.jobs ≡ false) × (small.held n.pair.small (bytes_at h) key ≡ None)
      moved key stone a c = subst (λ (x : List ℕ). (is_busy (bucket_at flash x) n.pair.small.jobs ≡ false) × (small.held n.pair.small (bytes_at h) x ≡ None)) (sym (same_bytes stone.key k c) ∙ same_bytes stone.key key a) (free, none)

  free-at : Before config flash older memory nvm → (op : Op) (phase : Phase) (k : List ℕ) → op ≡ Delete k → small_job nvm number ≡ Some (make_job number bucket op phase) → is_busy (bucket_at flash k) (bighash.without_job number nvm.pair.small.jobs) ≡ false
  free-at b op phase k same there =
      let o = own-job flash older nvm number (make_job number bucket op phase) b.good.engines there in
      let here : bucket ≡ bucket_at flash k = o.here ∙ ap (λ (x : Op). bucket_at flash (bighash.key_of x)) same in
      subst (λ (n : ℕ). is_busy n (bighash.without_job number nvm.pair.small.jobs) ≡ false) here o.out.free

  -- the page that was read hasn't the key
  pub delete_read_over : Before config flash older memory nvm → config.flash ≡ Some flash → (order : Order) (k bytes : List ℕ) → job_at number nvm.jobs ≡ Some (own number (Deleting k) order) → small_job nvm number ≡ Some (make_job number bucket (Delete k) Reading) → large_work nvm number ≡ None
      → bytes_at older bucket ≡ Some bytes → under k (small.bucket_entries nvm.pair.small (bytes_at older) bucket) ≡ None
      → Over config flash older (Read bucket (Some bytes)) memory (settled (Deleting k) (outcome_of IsOver []) (job_gone (bighash.carried_out nvm.pair.small number bucket (Delete k) (ToEnd IsOver)) number nvm)) number (Deleting k)
  delete_read_over b on order k bytes at there none read absent =
      let job = own number (Deleting k) order in
      let sj = make_job number bucket (Delete k) Reading in
      let o = own-job flash older nvm number sj b.good.engines there in
      let s = ended config flash older memory nvm number job sj in
      let n = job_gone s number nvm in
      let h = Read bucket (Some bytes) ∷ older in
      let ending = read_ending config flash older memory nvm number job sj (Some bytes) b at there none (λ key. refl) in
      let here : bucket ≡ bucket_at nvm.pair.small.flash k = o.out.fit.2 in
      let gone : small.held nvm.pair.small (bytes_at older) k ≡ None = ap (λ (c : ℕ). under k (small.bucket_entries nvm.pair.small (bytes_at older) c)) (sym here) ∙ absent in
      over-told config flash older (Read bucket (Some bytes)) memory n number (Deleting k) IsOver [] tt (λ rest. refl) (read-allowed on (Some bytes) (some-known (bytes_at older bucket) bytes read)) tt tt
      (settled_none config flash h memory n number (Deleting k) on ending (may_end h n memory k (free-at b (Delete k) Reading k refl there) gone))

  -- the page was written without the key
  pub delete_written_over : Before config flash older memory nvm → config.flash ≡ Some flash → (order : Order) (k : List ℕ) (es : List FlashEntry) → job_at number nvm.jobs ≡ Some (own number (Deleting k) order) → small_job nvm number ≡ Some (make_job number bucket (Delete k) (Writing es [])) → large_work nvm number ≡ None
      → is_taken k nvm.tombstones ≡ true
      → Over config flash older (Wrote bucket (page_bytes nvm.pair.small.flash.page es) true) memory (settled (Deleting k) (outcome_of IsOver []) (job_gone (bighash.carried_out nvm.pair.small number bucket (Delete k) (ToKeep (word_of es) [])) number nvm)) number (Deleting k)
  delete_written_over b on order k es at there none taken =
      let job = own number (Deleting k) order in
      let sj = make_job number bucket (Delete k) (Writing es []) in
      let o = own-job flash older nvm number sj b.good.engines there in
      let s = kept flash older nvm number sj es [] in
      let n = job_gone s number nvm in
      let h = wrote flash older nvm number sj es [] in
      let ending = deleted_ending config flash older memory nvm number job sj k es b at there none refl refl taken in
      let keeps = kept_by flash older nvm number sj es [] b.good.engines o refl in
      let gone : small.held s (bytes_at h) k ≡ None = held_without config flash older memory nvm number job sj k es keeps refl k ∙ (rw (bytes_eq-refl k) refl) in
      over-told config flash older (Wrote bucket (page_bytes nvm.pair.small.flash.page es) true) memory n number (Deleting k) IsOver [] o.below (λ rest. refl) (wrote-allowed on (page_bytes nvm.pair.small.flash.page es) true) tt tt
      (settled_none config flash h memory n number (Deleting k) on ending (may_end h n memory k (free-at b (Delete k) (Writing es []) k refl there) gone))

  -- ---- a put is over

  no-bucket-lost : (gone : List FlashEntry) → bucket_lost (full_losses gone) ≡ None
  no-bucket-lost [] = refl
  no-bucket-lost (e ∷ gone) = refl

  pub put_written_over : Before config flash older memory nvm → config.flash ≡ Some flash → (order : Order) (k : List ℕ) (e : FlashEntry) (es : List FlashEntry) (losses : List Loss) → job_at number nvm.jobs ≡ Some (own number (Putting k) order) → small_job nvm number ≡ Some (make_job number bucket (Put e) (Writing es losses)) → large_work nvm number ≡ None
      → Over config flash older (Wrote bucket (page_bytes nvm.pair.small.flash.page es) true) memory (settled (Putting k) (outcome_of IsOver losses) (job_gone (bighash.carried_out nvm.pair.small number bucket (Put e) (ToKeep (word_of es) losses)) number nvm)) number (Putting k)
  put_written_over b on order k e es losses at there none =
      let job = own number (Putting k) order in
      let sj = make_job number bucket (Put e) (Writing es losses) in
      let o = own-job flash older nvm number sj b.good.engines there in
      let s = stored config flash older memory nvm number job sj e es losses in
      let n = job_gone s number nvm in
      let first = Wrote bucket (page_bytes nvm.pair.small.flash.page es) true in
      let p = puts-of config flash older memory nvm number job sj e es losses o refl refl in
      let ending = stored_ending config flash older memory nvm number job sj e es losses b on at there none p in
      let law = pieces-nil config (first ∷ older) (loss_notes losses) (stored_lawful config flash older memory nvm number job sj e es losses b on there p []) in
      let no_loss : bucket_lost losses ≡ None = ap bucket_lost p.full ∙ no-bucket-lost (pushed_out nvm.pair.small.flash.page e (without e.key (small.bucket_entries nvm.pair.small (bytes_at older) bucket))) in
      let h = past (first ∷ older) (loss_notes losses) in
      let m = unmarked_by (loss_notes losses) memory in
      over-told config flash older first memory n number (Putting k) IsOver losses o.below (λ rest. refl) (wrote-allowed on (page_bytes nvm.pair.small.flash.page es) true) (then_small config flash older memory nvm number job sj e es losses p) law
      (subst (λ (c : Option ℕ). Settled config flash h m n number (Putting k) c) (sym no_loss) (settled_none config flash h m n number (Putting k) on ending (λ key s. absurd (let f = no-ends (Putting k) n.tombstones key (λ stone. refl) in cc (f, s)))))
    where
      pieces-nil : (config : Config) (older piece : List Note) → LawfulIn config older piece [] → Lawful config older piece
      pieces-nil config older piece h = subst (Lawful config older) (append-nil piece) (pieces-join config older piece [] h tt)
