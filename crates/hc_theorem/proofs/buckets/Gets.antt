-- A result of a get in the small engine keeps the invariant.
use Rattle.std.proofs.Common.{◌≡◌, ℕ, ◌==◌, true, false, not, List, [], ◌∷◌, Option, Some, None, refl, ap, sym, ◌∙◌, subst, filter}
use Rattle.std.specs.Str.{bytes_eq}
use Rattle.hc_memory.proofs.Keyed.{same_bytes}
use Rattle.std.proofs.lemmas.Bool.{eqb-true, eq-eqb}
use Rattle.hc_types.specs.Config.{Config}
use Rattle.hc_types.specs.Places.{bucket_at}
use Rattle.hc_types.specs.declared.config.FlashConfig.{FlashConfig}
use Rattle.hc_types.specs.FlashEntry.{FlashEntry}
use Rattle.hc_engines.specs.Engine as engine
use Rattle.hc_engines.specs.Engine.{Pages, Get, Read, Page, Failed, Answer, Nothing, Absent, Found, found}
use Rattle.hc_engines.specs.small.Entries.{under}
use Rattle.hc_engines.specs.small.BigHash as bighash
use Rattle.hc_engines.specs.small.BigHash.{Reading, ToEnd, ToGiveUp, make_job, is_busy}
use Rattle.hc_engines.specs.small.Held as small
use Rattle.hc_engines.specs.large.Held as large
use Rattle.hc_memory.specs.Memory.{Memory}
use Rattle.hc_history.specs.Note as notes
use Rattle.hc_history.specs.Note.{Note}
use Rattle.hc_history.specs.Pages.{bytes_at}
use Rattle.hc_history.specs.Lawful.{past}
use Rattle.hc_machine.specs.Nvm.{Nvm, Tombstone, Filling, Job}
use Rattle.hc_machine.specs.Takes.{settled, holds}
use Rattle.hc_machine.specs.Cache.{Cache, unmarked_by}
use Rattle.hc_machine.specs.Workers as workers
use Rattle.hc_invariant.specs.Standing.{first_of, written_by}
use Rattle.hc_invariant.specs.Jobs.{small_job}
use Rattle.hc_invariant.specs.Good.{EnginesFit}
use Rattle.hc_invariant.specs.Laws.{Keeps}
use Rattle.hc_proof.specs.losses.Losses.{bucket_loss}
use Rattle.hc_theorem.specs.buckets.Small.{Ending}
use Rattle.hc_proof.specs.books.RegionBooks.{GetTells, GetGives}
use Rattle.hc_theorem.specs.fills.Filling.{FillEnds}
use Rattle.hc_theorem.proofs.buckets.Stones.{raised, small-raised}
use Rattle.hc_theorem.proofs.buckets.Raising.{MayEnd, raise_ending, raise_lawful}
use Rattle.hc_theorem.proofs.buckets.JobOver.{job_gone}
use Rattle.hc_theorem.proofs.buckets.FirstNote.{first-read, OwnJob, own-job}
use Rattle.hc_theorem.proofs.buckets.Emptied.{emptied_ending, emptied_lawful, held_then}
use Rattle.hc_theorem.proofs.buckets.PageWritten.{written-out}
use Rattle.hc_theorem.proofs.buckets.DeleteOver.{read_ending}
use Rattle.hc_theorem.proofs.buckets.Settling.{settled_none, EndsIn, in_bucket, no-ends, passes-some}
use Rattle.hc_theorem.proofs.buckets.Finishing.{own, finish-at, keeps-from, before-good, Over, over-told}
use Rattle.hc_theorem.proofs.buckets.PutResults.{lost_note, read-allowed, reads-known, reads-entries, given_up_over}
use Rattle.hc_theorem.proofs.buckets.PutsDeletes.{taken_by, With}
use Rattle.hc_theorem.proofs.buckets.FillLists.{AllKey, all-key}
use Rattle.hc_theorem.proofs.buckets.GetEnded.{settled-bytes, fill_ended}
use Rattle.hc_theorem.proofs.buckets.WentOn.{Holding, went_keeps}

marks-alone : (stones : List Tombstone) (memory : Memory) → unmarked_by (raised stones) memory ≡ memory
marks-alone [] memory = refl
marks-alone (stone ∷ stones) memory = marks-alone stones memory

module _ (ends : FillEnds) (tells : GetTells) (gives : GetGives) (config : Config) (flash : FlashConfig) (older : List Note) (cache : Cache) (nvm : Nvm) (number bucket : ℕ) (k : List ℕ) where
  abbrev Reads : Type 0
  Reads = With config flash older cache nvm number bucket Filling (Read bucket) (Get k) Reading

  abbrev job : Job
  job = own number Filling (Read bucket)

  abbrev sj : bighash.Job
  sj = make_job number bucket (Get k) Reading

  at_bucket : EnginesFit flash older nvm → OwnJob flash older nvm number (make_job number bucket (Get k) Reading) → (bucket_at flash k == bucket) ≡ true
  at_bucket e o = eq-eqb _ _ (sym o.here)

  out_written : EnginesFit flash older nvm → OwnJob flash older nvm number (make_job number bucket (Get k) Reading) → small_job nvm number ≡ Some sj → written_by k (bighash.without_job number nvm.pair.small.jobs) ≡ None
  out_written e o there = written-out flash older nvm number sj k true e o there (at_bucket e o)

  get_keys : Reads → AllKey number k nvm.fills
  get_keys w =
      let b = before-good config flash older cache nvm w.on w.nvm_is w.good in
      all-key (bytes_at older) cache.memory nvm number k sj nvm.fills w.there refl b.good.fills.each

  -- ---- the page was read

  abbrev pub over_bare : Nvm
  over_bare = job_gone (record nvm.pair.small { jobs = bighash.without_job number nvm.pair.small.jobs }) number nvm

  read_over : (answer : Answer) (bytes : List ℕ) → Reads → Over config flash older (notes.Read bucket (Some bytes)) cache.memory (settled Filling (engine.outcome_of answer []) over_bare) number Filling
  read_over answer bytes w =
      let b = before-good config flash older cache nvm w.on w.nvm_is w.good in
      let ending = read_ending config flash older cache.memory nvm number job sj (Some bytes) b w.at w.there w.none (λ key. refl) in
      over-told config flash older (notes.Read bucket (Some bytes)) cache.memory over_bare number Filling answer [] tt (λ rest. refl) (read-allowed config flash older cache.memory nvm number bucket w.on (Some bytes) (reads-known config flash older cache.memory nvm number bucket b (Get k) w.there)) tt tt
      (settled_none config flash (notes.Read bucket (Some bytes) ∷ older) cache.memory over_bare number Filling w.on ending (λ key s. absurd (let f = no-ends Filling over_bare.tombstones key (λ stone. refl) in cc (f, s))))

  read_holding : (bytes : List ℕ) → Reads → Holding config flash older (notes.Read bucket (Some bytes)) cache.memory (holds (engine.outcome_of Nothing []) over_bare) number
  read_holding bytes w =
      let b = before-good config flash older cache nvm w.on w.nvm_is w.good in
      record {
        lawful = (read-allowed config flash older cache.memory nvm number bucket w.on (Some bytes) (reads-known config flash older cache.memory nvm number bucket b (Get k) w.there) [], tt);
        small = (tt, tt);
        ending = read_ending config flash older cache.memory nvm number job sj (Some bytes) b w.at w.there w.none (λ key. refl);
      }

  -- what is held of the key is what was read
  read_held : Reads → small.held nvm.pair.small (bytes_at older) k ≡ under k (small.bucket_entries nvm.pair.small (bytes_at older) bucket)
  read_held w =
      let b = before-good config flash older cache nvm w.on w.nvm_is w.good in
      let o = own-job flash older nvm number sj b.good.engines w.there in
      ap (λ (c : ℕ). under k (small.bucket_entries nvm.pair.small (bytes_at older) c)) (sym o.out.fit.2)

  get_goes : (bytes : List ℕ) (o : Option FlashEntry) → under k (small.bucket_entries nvm.pair.small (bytes_at older) bucket) ≡ o → Reads
      → Keeps config older (workers.after_take (taken_by nvm number bucket Filling (Read bucket) (Get k) (Page bytes) (ToEnd (found o))) cache)
  get_goes bytes (Some e) p w =
      let b = before-good config flash older cache nvm w.on w.nvm_is w.good in
      let o = own-job flash older nvm number sj b.good.engines w.there in
      let first = notes.Read bucket (Some bytes) in
      let change = settled Filling (engine.outcome_of (Found e) []) over_bare in
      let after = past older (first ∷ change.part) in
      let pages : bytes_at after ≡ bytes_at older = settled-bytes Filling (Found e) [] over_bare (first ∷ older) in
      let held : small.held nvm.pair.small (bytes_at after) k ≡ Some e = ap (λ (g : Pages). small.held nvm.pair.small g k) pages ∙ read_held w ∙ p in
      let source : Some e ≡ first_of (small.held nvm.pair.small (bytes_at after) k) (large.held nvm.pair.small.flash (bytes_at after) nvm.pair.large k) = rw held refl in
      fill_ended ends config flash older cache nvm number k first change (Found e) w.on w.nvm_is w.good refl (read_over (Found e) bytes w) (get_keys w) (out_written b.good.engines o w.there) source
  get_goes bytes None p w =
      let b = before-good config flash older cache nvm w.on w.nvm_is w.good in
      let o = own-job flash older nvm number sj b.good.engines w.there in
      let s = record nvm.pair.small { jobs = bighash.without_job number nvm.pair.small.jobs } in
      went_keeps ends tells gives config flash older cache nvm number k (notes.Read bucket (Some bytes)) (Read bucket) [] s (record {
        on = w.on;
        nvm_is = w.nvm_is;
        good = w.good;
        at = w.at;
        none = w.none;
        same = b.good.engines.same;
        gone = o.out.gone;
        unwritten = out_written b.good.engines o w.there;
        nowhere = read_held w ∙ p;
        keys = get_keys w;
        over = read_over Absent bytes w;
        holding = read_holding bytes w;
      })

  pub get_reads : (bytes : List ℕ) → Reads → bytes_at older bucket ≡ Some bytes → Keeps config older (workers.finish number (Page bytes) cache)
  get_reads bytes w read =
      let b = before-good config flash older cache nvm w.on w.nvm_is w.good in
      let es = small.bucket_entries nvm.pair.small (bytes_at older) bucket in
      keeps-from config older cache nvm number (Page bytes) (taken_by nvm number bucket Filling (Read bucket) (Get k) (Page bytes) (ToEnd (found (under k es)))) w.nvm_is
      (finish-at nvm number bucket Filling (Read bucket) (Get k) Reading (Page bytes) _ w.at w.there (reads-entries config flash older cache.memory nvm number bucket b (Get k) bytes w.there read))
      (get_goes bytes (under k es) refl w)

  -- ---- the read failed

  abbrev pub lost_bare : Nvm
  lost_bare = job_gone (bighash.carried_out nvm.pair.small number bucket (Get k) ToGiveUp) number nvm

  ends_none : EndsIn flash Filling bucket
  ends_none stone t = absurd (cc t)

  failed_over : (answer : Answer) → Reads → Over config flash older (notes.Read bucket None) cache.memory (settled Filling (engine.outcome_of answer (bucket_loss bucket)) lost_bare) number Filling
  failed_over answer w =
      let b = before-good config flash older cache nvm w.on w.nvm_is w.good in
      given_up_over config flash older cache.memory nvm number bucket b w.on Filling (Read bucket) (Get k) Reading (notes.Read bucket None) answer w.at w.there w.none ends_none (first-read flash older bucket None) refl (λ rest. refl) (read-allowed config flash older cache.memory nvm number bucket w.on None (reads-known config flash older cache.memory nvm number bucket b (Get k) w.there))

  failed_holding : Reads → Holding config flash older (notes.Read bucket None) cache.memory (holds (engine.outcome_of Nothing (bucket_loss bucket)) lost_bare) number
  failed_holding w =
      let b = before-good config flash older cache nvm w.on w.nvm_is w.good in
      let o = own-job flash older nvm number sj b.good.engines w.there in
      let first = notes.Read bucket None in
      let f = first-read flash older bucket None in
      let h = lost_note bucket ∷ first ∷ older in
      let ending = emptied_ending config flash older first cache.memory nvm number job sj b w.on w.at w.there w.none f in
      let memory = unmarked_by (lost_note bucket ∷ []) cache.memory in
      let test = in_bucket lost_bare bucket in
      let gone = filter test lost_bare.tombstones in
      let may : MayEnd config flash h memory lost_bare number Filling test =
      λ key s. here o b.good.engines key (passes-some key test ((bucket_at flash key == bucket) ≡ true) lost_bare.tombstones (λ stone bytes_eq t. moved b.good.engines stone key bytes_eq t) s) in
      record {
        lawful = (
          read-allowed config flash older cache.memory nvm number bucket w.on None (reads-known config flash older cache.memory nvm number bucket b (Get k) w.there) (lost_note bucket ∷ raised gone),
          (emptied_lawful config flash older first cache.memory nvm number job sj w.on o.below refl (raised gone), raise_lawful config flash h memory lost_bare number Filling test w.on ending may),
        );
        small = (tt, (tt, small-raised flash gone));
        ending = subst (λ (m : Memory). Ending config flash (past h (raised gone)) m (record lost_bare { tombstones = filter (λ stone. not (test stone)) lost_bare.tombstones }) number Filling) (sym (marks-alone gone memory)) (raise_ending config flash h memory lost_bare number Filling test ending may);
      }
    where
      here : OwnJob flash older nvm number (make_job number bucket (Get k) Reading) → EnginesFit flash older nvm → (key : List ℕ) → (bucket_at flash key == bucket) ≡ true
          → (is_busy (bucket_at flash key) (bighash.without_job number nvm.pair.small.jobs) ≡ false) × (small.held (bighash.carried_out nvm.pair.small number bucket (Get k) ToGiveUp) (bytes_at (lost_note bucket ∷ notes.Read bucket None ∷ older)) key ≡ None)
      here o e key t = (subst (λ (n : ℕ). is_busy n (bighash.without_job number nvm.pair.small.jobs) ≡ false) (sym (eqb-true _ _ t)) o.out.free, held_then config flash older (notes.Read bucket None) cache.memory nvm number job sj e o (first-read flash older bucket None) key true t)

      moved : EnginesFit flash older nvm → (stone : Tombstone) (key : List ℕ) → bytes_eq stone.key key ≡ true → in_bucket lost_bare bucket stone ≡ true → (bucket_at flash key == bucket) ≡ true
      moved e stone key s t = subst (λ (x : List ℕ). (bucket_at flash x == bucket) ≡ true) (same_bytes stone.key key s) (ap (λ (c : FlashConfig). bucket_at c stone.key == bucket) (sym e.same) ∙ t)

  pub get_failed : Reads → Keeps config older (workers.finish number Failed cache)
  get_failed w =
      let b = before-good config flash older cache nvm w.on w.nvm_is w.good in
      let o = own-job flash older nvm number sj b.good.engines w.there in
      let s = bighash.carried_out nvm.pair.small number bucket (Get k) ToGiveUp in
      let first = notes.Read bucket None in
      keeps-from config older cache nvm number Failed (taken_by nvm number bucket Filling (Read bucket) (Get k) Failed ToGiveUp) w.nvm_is (finish-at nvm number bucket Filling (Read bucket) (Get k) Reading Failed ToGiveUp w.at w.there refl)
      (went_keeps ends tells gives config flash older cache nvm number k first (Read bucket) (bucket_loss bucket) s (record {
        on = w.on;
        nvm_is = w.nvm_is;
        good = w.good;
        at = w.at;
        none = w.none;
        same = b.good.engines.same;
        gone = o.out.gone;
        unwritten = out_written b.good.engines o w.there;
        nowhere = held_then config flash older first cache.memory nvm number job sj b.good.engines o (first-read flash older bucket None) k true (at_bucket b.good.engines o);
        keys = get_keys w;
        over = failed_over Absent w;
        holding = failed_holding w;
      }))
