-- The page of a bucket was written: what the small engine is and holds then.
use Rattle.std.proofs.Common.{◌≡◌, ℕ, ◌==◌, ◌<◌, Bool, true, false, List, ◌∷◌, length, Option, Some, None, refl, arith, ap, sym, ◌∙◌, subst}
use Rattle.std.specs.Prelude.{if◌then◌else◌}
use Rattle.std.proofs.lemmas.Bool.{eqb-true, eq-eqb}
use Rattle.hc_types.specs.Places.{bucket_at}
use Rattle.hc_types.specs.declared.config.FlashConfig.{FlashConfig}
use Rattle.hc_types.specs.FlashEntry.{FlashEntry}
use Rattle.hc_bucket.specs.Page.{page_bytes}
use Rattle.hc_bucket.specs.Reading.{page_at}
use Rattle.hc_engines.specs.Engine.{Over, Loss, left_of, changed}
use Rattle.hc_engines.specs.small.BigHash as bighash
use Rattle.hc_engines.specs.small.BigHash.{BigHash, Job, Writing, word_at, is_busy}
use Rattle.hc_engines.specs.small.Bloom.{word_of}
use Rattle.hc_engines.specs.small.Held as small
use Rattle.hc_engines.specs.small.Held.{StateFits, WorkFits, entries_at, read_in}
use Rattle.hc_engines.proofs.small.Keeping.{keep_kept}
use Rattle.hc_history.specs.Note.{Note, Wrote}
use Rattle.hc_history.specs.Pages.{bytes_at, listed, bucket_entries}
use Rattle.hc_machine.specs.Nvm.{Nvm}
use Rattle.hc_invariant.specs.Standing.{put_in, written_by}
use Rattle.hc_invariant.specs.Jobs.{small_job}
use Rattle.hc_invariant.specs.Good.{EnginesFit}
use Rattle.hc_theorem.proofs.buckets.SmallJobs.{written-free, written-here, written-apart}
use Rattle.hc_theorem.proofs.buckets.FirstNote.{First, first-wrote, OwnJob, with_word, entries-here, entries-other}

listed-read : (o : Option (List FlashEntry)) → listed o ≡ read_in o
listed-read None = refl
listed-read (Some es) = refl

-- what is written at a key once the job is out
pub written-out : (flash : FlashConfig) (older : List Note) (nvm : Nvm) (number : ℕ) (sj : Job) (key : List ℕ) (t : Bool) → EnginesFit flash older nvm → OwnJob flash older nvm number sj → small_job nvm number ≡ Some sj → (bucket_at flash key == sj.bucket) ≡ t
    → written_by key (bighash.without_job number nvm.pair.small.jobs) ≡ (if t then None else written_by key nvm.pair.small.jobs)
written-out flash older nvm number sj key true e o at h =
    let free : is_busy (bucket_at flash key) (bighash.without_job number nvm.pair.small.jobs) ≡ false = subst (λ (n : ℕ). is_busy n (bighash.without_job number nvm.pair.small.jobs) ≡ false) (sym (eqb-true _ _ h)) o.out.free in
    written-free flash (word_at nvm.pair.small) (bytes_at older) (bighash.without_job number nvm.pair.small.jobs) key (rw e.same at o.out.rest) free
written-out flash older nvm number sj key false e o at h = written-apart flash (word_at nvm.pair.small) (bytes_at older) number nvm.pair.small.jobs sj key at (rw e.same at e.small_fits.jobs_fit) h

-- and before, in the job's bucket
pub written-in : (flash : FlashConfig) (older : List Note) (nvm : Nvm) (number : ℕ) (sj : Job) (key : List ℕ) → EnginesFit flash older nvm → small_job nvm number ≡ Some sj → (bucket_at flash key == sj.bucket) ≡ true → written_by key nvm.pair.small.jobs ≡ put_in key sj.op
written-in flash older nvm number sj key e at h = written-here flash (word_at nvm.pair.small) (bytes_at older) number nvm.pair.small.jobs sj key at (rw e.same at e.small_fits.jobs_fit) (sym (eqb-true _ _ h))

-- nothing else than a put writes
pub written-still : (flash : FlashConfig) (older : List Note) (nvm : Nvm) (number : ℕ) (sj : Job) (key : List ℕ) → EnginesFit flash older nvm → OwnJob flash older nvm number sj → small_job nvm number ≡ Some sj → put_in key sj.op ≡ None
    → written_by key (bighash.without_job number nvm.pair.small.jobs) ≡ written_by key nvm.pair.small.jobs
written-still flash older nvm number sj key e o at none = go (bucket_at flash key == sj.bucket) refl
  where
    go : (t : Bool) → (bucket_at flash key == sj.bucket) ≡ t → written_by key (bighash.without_job number nvm.pair.small.jobs) ≡ written_by key nvm.pair.small.jobs
    go true h = written-out flash older nvm number sj key true e o at h ∙ sym (written-in flash older nvm number sj key e at h ∙ none)
    go false h = written-out flash older nvm number sj key false e o at h

module _ (flash : FlashConfig) (older : List Note) (nvm : Nvm) (number : ℕ) (sj : Job) (es : List FlashEntry) (losses : List Loss) where
  abbrev pub bytes : List ℕ
  bytes = page_bytes nvm.pair.small.flash.page es

  abbrev pub wrote : List Note
  wrote = Wrote sj.bucket (page_bytes nvm.pair.small.flash.page es) true ∷ older

  -- the small engine then
  abbrev pub kept : BigHash
  kept = with_word nvm.pair.small number sj.bucket (Some (word_of es))

  pub record Kept : Type 0 where
    pub fits : StateFits kept (bytes_at wrote)
    pub held : (key : List ℕ) → small.held kept (bytes_at wrote) key ≡ left_of nvm.pair.small.flash losses (changed sj.op Over key (small.held nvm.pair.small (bytes_at older) key))

  pub kept_by : EnginesFit flash older nvm → OwnJob flash older nvm number sj → sj.phase ≡ Writing es losses → Kept
  kept_by e o phase =
      let work : WorkFits nvm.pair.small.flash.page sj.op (Writing es losses) (word_at nvm.pair.small sj.bucket) (small.bucket_entries nvm.pair.small (bytes_at older) sj.bucket) = rw phase at o.out.fit.3 in
      let keeps = keep_kept nvm.pair.small (bytes_at older) number sj.bucket sj.op es losses e.small_fits o.spare o.mine work in
      record { fits = keeps.fits; held = keeps.changes.0 }

  pub kept_buckets : EnginesFit flash older nvm → OwnJob flash older nvm number sj → (c : ℕ) → c < flash.buckets → bucket_entries flash wrote c ≡ small.bucket_entries kept (bytes_at wrote) c
  kept_buckets e o c below = go (c == sj.bucket) refl
    where
      f : First flash older sj.bucket (Wrote sj.bucket (page_bytes nvm.pair.small.flash.page es) true)
      f = first-wrote flash older sj.bucket bytes true o.below

      lt : sj.bucket < length nvm.pair.small.words
      lt = omega (arith, o.mine.within, e.small_fits.buckets)

      own : bytes_at wrote sj.bucket ≡ Some bytes
      own = let t : (sj.bucket == sj.bucket) ≡ true = eq-eqb sj.bucket sj.bucket refl in rw t refl

      go : (t : Bool) → (c == sj.bucket) ≡ t → bucket_entries flash wrote c ≡ small.bucket_entries kept (bytes_at wrote) c
      go true p =
          let t : (sj.bucket == c) ≡ true = eq-eqb _ _ (sym (eqb-true _ _ p)) in
          let engine : small.bucket_entries kept (bytes_at wrote) c ≡ read_in (page_at nvm.pair.small.flash.page bytes) =
          ap (small.bucket_entries kept (bytes_at wrote)) (eqb-true _ _ p) ∙ entries-here nvm.pair.small (bytes_at wrote) number sj.bucket (Some (word_of es)) lt ∙ ap (entries_at nvm.pair.small.flash.page (Some (word_of es))) own in
          let books : bucket_entries flash wrote c ≡ listed (page_at flash.page bytes) = rw t refl in
          books ∙ listed-read (page_at flash.page bytes) ∙ ap (λ (x : FlashConfig). read_in (page_at x.page bytes)) (sym e.same) ∙ sym engine
      go false p = f.buckets c p ∙ e.buckets c below ∙ sym (entries-other nvm.pair.small (bytes_at older) (bytes_at wrote) number sj.bucket (Some (word_of es)) c p (f.others c p))
