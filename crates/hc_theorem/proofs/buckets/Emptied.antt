-- A bucket is given up: a read or a write of its page failed.
use Rattle.std.proofs.Common.{◌≡◌, ℕ, ◌==◌, ◌<◌, Bool, true, false, ◌||◌, List, ◌∷◌, length, Option, Some, None, refl, arith, ap, sym, ◌∙◌}
use Rattle.std.specs.Prelude.{if◌then◌else◌, is_some}
use Rattle.std.proofs.lemmas.Bool.{eqb-true, eq-eqb}
use Rattle.hc_types.specs.Config.{Config}
use Rattle.hc_types.specs.Loss as loss
use Rattle.hc_types.specs.Loss.{Fault}
use Rattle.hc_types.specs.Places.{bucket_at}
use Rattle.hc_types.specs.declared.config.FlashConfig.{FlashConfig}
use Rattle.hc_types.specs.FlashEntry.{FlashEntry}
use Rattle.hc_engines.specs.small.BigHash.{BigHash, Job}
use Rattle.hc_engines.specs.small.Entries.{under}
use Rattle.hc_engines.specs.small.Held as small
use Rattle.hc_engines.specs.small.Held.{StateFits}
use Rattle.hc_engines.proofs.small.Keeping.{keep_given_up}
use Rattle.hc_engines.specs.large.Held as large
use Rattle.hc_memory.specs.Memory.{Memory, linked_at, after_unmark}
use Rattle.hc_history.specs.Note.{Note, Lose}
use Rattle.hc_history.specs.Books.{is_held, entry_at}
use Rattle.hc_history.specs.Pages.{bytes_at, bucket_entries}
use Rattle.hc_history.specs.Lawful.{Allowed, failed_page}
use Rattle.hc_machine.specs.Nvm as nvms
use Rattle.hc_machine.specs.Nvm.{Nvm, put_at, is_buried}
use Rattle.hc_invariant.specs.Standing.{Placed, written_by}
use Rattle.hc_invariant.specs.Jobs.{small_job, large_work}
use Rattle.hc_invariant.specs.Good.{EnginesFit}
use Rattle.hc_proof.specs.losses.Losses.{lost, unmarked, Sides, bucket_loss}
use Rattle.hc_proof.proofs.losses.LossPlaces.{losses_place}
use Rattle.hc_proof.proofs.losses.CleanMarks.{memory_kept}
use Rattle.hc_proof.proofs.losses.LossesTell.{sized_pass}
use Rattle.hc_theorem.specs.buckets.Small.{PlacedOn, Ending}
use Rattle.hc_theorem.proofs.buckets.SmallBooks.{passed-note, passed-on}
use Rattle.hc_theorem.proofs.buckets.MemoryKept.{memory-lost, memory-charged}
use Rattle.hc_theorem.proofs.buckets.PageWritten.{written-out}
use Rattle.hc_theorem.proofs.buckets.JobOver.{Before, Gone, large-still, job_gone, over_ending}
use Rattle.hc_proof.proofs.losses.SideOfKey.{sides_of}
use Rattle.hc_theorem.proofs.buckets.FirstNote.{First, first-held, first-apart, OwnJob, own-job, with_word, entries-here, entries-other}
use Rattle.hc_proof.proofs.losses.EachLoss.{and_not_false, bucket_small, bucket_large, bucket_goes}

-- what the bucket holds and what is being written to it go; its tombstones are still to end
emptied_places : (flash : FlashConfig) (bucket : ℕ) (here : Bool) (older : List Note) (memory : Memory) (key : List ℕ) (q w s l w2 s2 : Option FlashEntry) (b : Bool) → memory.flash ≡ Some flash → is_held older key ≡ (is_some (linked_at key memory.pools) || is_some q)
    → Sides flash key w s l → (bucket_at flash key == bucket) ≡ here → w2 ≡ (if here then None else w) → s2 ≡ (if here then None else s)
    → Placed (linked_at key memory.pools) q w b s l (entry_at (Some flash) older key)
    → Placed (linked_at key (unmarked (bucket_loss bucket) memory).pools) q w2 b s2 l (entry_at (Some flash) (lost (bucket_loss bucket) older) key)
emptied_places flash bucket here older memory key q w s l w2 s2 b mf held sides e ew es p =
    losses_place flash (bucket_loss bucket) older memory key q w s l b w2 s2 l b mf (refl, tt) held sides.small_key sides.large_key (record {
      ends = here;
      raised = false;
      written = ew;
      small = es ∙ bucket_small flash bucket key here s sides.small_key sides.small_small e;
      large = bucket_large flash bucket l sides.large_large;
      stone = and_not_false b;
      goes = bucket_goes flash bucket key here (linked_at key memory.pools) q w s l (entry_at (Some flash) older key) b sides.written_key sides.written_small e p;
      bare = λ r t. absurd cc;
    }) p

module _ (config : Config) (flash : FlashConfig) (older : List Note) (first : Note) (memory : Memory) (nvm : Nvm) (number : ℕ) (job : nvms.Job) (sj : Job) where
  abbrev bucket : ℕ
  bucket = sj.bucket

  -- the small engine then
  abbrev pub emptied : BigHash
  emptied = with_word nvm.pair.small number sj.bucket None

  abbrev pub told : List Note
  told = Lose (loss.Bucket sj.bucket) Fault ∷ first ∷ older

  abbrev pub marked : Memory
  marked = after_unmark memory (loss.Bucket sj.bucket)

  lt_words : EnginesFit flash older nvm → OwnJob flash older nvm number sj → bucket < length nvm.pair.small.words
  lt_words e o = omega (arith, o.mine.within, e.small_fits.buckets)

  emptied_fits : EnginesFit flash older nvm → OwnJob flash older nvm number sj → First flash older bucket first → StateFits emptied (bytes_at told)
  emptied_fits e o f = (keep_given_up nvm.pair.small (bytes_at older) (bytes_at told) number bucket sj.op e.small_fits o.spare o.mine f.others).fits

  -- what is held at a key, then
  pub held_then : EnginesFit flash older nvm → OwnJob flash older nvm number sj → First flash older bucket first → (key : List ℕ) (t : Bool) → (bucket_at flash key == bucket) ≡ t
      → small.held emptied (bytes_at told) key ≡ (if t then None else small.held nvm.pair.small (bytes_at older) key)
  held_then e o f key t h = ap (λ (c : FlashConfig). under key (small.bucket_entries emptied (bytes_at told) (bucket_at c key))) e.same ∙ go t h ∙ ap (λ (c : FlashConfig). if t then None else under key (small.bucket_entries nvm.pair.small (bytes_at older) (bucket_at c key))) (sym e.same)
    where
      go : (t : Bool) → (bucket_at flash key == bucket) ≡ t → under key (small.bucket_entries emptied (bytes_at told) (bucket_at flash key)) ≡ (if t then None else under key (small.bucket_entries nvm.pair.small (bytes_at older) (bucket_at flash key)))
      go true p = ap (λ (c : ℕ). under key (small.bucket_entries emptied (bytes_at told) c)) (eqb-true _ _ p) ∙ ap (under key) (entries-here nvm.pair.small (bytes_at told) number bucket None (lt_words e o))
      go false p = ap (under key) (entries-other nvm.pair.small (bytes_at older) (bytes_at told) number bucket None (bucket_at flash key) p (f.others (bucket_at flash key) p))

  buckets_then : EnginesFit flash older nvm → OwnJob flash older nvm number sj → First flash older bucket first → (c : ℕ) → c < flash.buckets → bucket_entries flash told c ≡ small.bucket_entries emptied (bytes_at told) c
  buckets_then e o f c below = go (c == bucket) refl
    where
      go : (t : Bool) → (c == bucket) ≡ t → bucket_entries flash told c ≡ small.bucket_entries emptied (bytes_at told) c
      go true p =
          let t : (bucket == c) ≡ true = eq-eqb _ _ (sym (eqb-true _ _ p)) in
          rw t (sym (ap (small.bucket_entries emptied (bytes_at told)) (eqb-true _ _ p) ∙ entries-here nvm.pair.small (bytes_at told) number bucket None (lt_words e o)))
      go false p =
          let t : (bucket == c) ≡ false = grind (arith, p) in
          rw t (f.buckets c p ∙ e.buckets c below ∙ sym (entries-other nvm.pair.small (bytes_at older) (bytes_at told) number bucket None c p (f.others c p)))

  emptied_gone : Before config flash older memory nvm → config.flash ≡ Some flash → small_job nvm number ≡ Some sj → First flash older bucket first → Gone config flash older told memory marked nvm number emptied
  emptied_gone b on at f =
      let e = b.good.engines in
      let o = own-job flash older nvm number sj e at in
      let passed = passed-on flash older (first ∷ older) told (passed-note flash older first f.small) (passed-note flash (first ∷ older) (Lose (loss.Bucket sj.bucket) Fault) tt) in
      record {
        same = e.same;
        left = refl;
        fits = emptied_fits e o f;
        passed = passed;
        buried = f.stones;
        writing = f.puts;
        apart = first-apart flash older bucket first o.below f;
        buckets = buckets_then e o f;
        tells = memory-charged config older told marked passed.charged (memory-lost config older memory (bucket_loss sj.bucket) b.tells);
        charges = refl;
        pools = (memory_kept (bucket_loss sj.bucket) memory).number;
        unlinked = (memory_kept (bucket_loss sj.bucket) memory).unlinked;
        comes = λ key w s. held_then e o f key (bucket_at flash key == bucket) refl ∙ both (bucket_at flash key == bucket) (small.held nvm.pair.small (bytes_at older) key) s;
      }
    where
      both : (t : Bool) (o : Option FlashEntry) → o ≡ None → (if t then None else o) ≡ None
      both true o h = refl
      both false o h = h

  emptied_placed : Before config flash older memory nvm → config.flash ≡ Some flash → small_job nvm number ≡ Some sj → First flash older bucket first → (key : List ℕ) → PlacedOn flash told marked (job_gone emptied number nvm) key
  emptied_placed b on at f key =
      let e = b.good.engines in
      let o = own-job flash older nvm number sj e at in
      let here = bucket_at flash key == bucket in
      let still = large-still flash (bytes_at older) (bytes_at told) nvm.pair.large (first-apart flash older bucket first o.below f) e.large_sound e.large_fits e.reads in
      let l2 : large.held nvm.pair.small.flash (bytes_at told) nvm.pair.large key ≡ large.held nvm.pair.small.flash (bytes_at older) nvm.pair.large key = rw e.same (still.held key) in
      rw l2
      (emptied_places flash bucket here (first ∷ older) memory key (put_at key nvm.queue) (written_by key nvm.pair.small.jobs) (small.held nvm.pair.small (bytes_at older) key) (large.held nvm.pair.small.flash (bytes_at older) nvm.pair.large key)
      (written_by key emptied.jobs) (small.held emptied (bytes_at told) key) (is_buried nvm key) (b.tells.flash ∙ on) (first-held config flash older bucket first memory nvm key f b.tells b.good.waits) (sides_of flash older nvm key e) refl
      (written-out flash older nvm number sj key here e o at refl) (held_then e o f key here refl) (rw (f.entry key) (b.placed key)))

  -- the bucket is given up, and the job is over
  pub emptied_ending : Before config flash older memory nvm → config.flash ≡ Some flash → nvms.job_at number nvm.jobs ≡ Some job → small_job nvm number ≡ Some sj → large_work nvm number ≡ None → First flash older bucket first
      → Ending config flash told marked (job_gone emptied number nvm) number job.task
  emptied_ending b on there at none f =
      over_ending config flash older told memory marked nvm number emptied job sj b (emptied_gone b on at f) there at none (emptied_placed b on at f) (λ key. sized_pass (Some flash) (bucket_loss sj.bucket) (first ∷ older) key (rw (f.entry key) (b.sized key)))

  pub emptied_lawful : config.flash ≡ Some flash → sj.bucket < flash.buckets → failed_page (first ∷ older) ≡ Some sj.bucket → (rest : List Note) → Allowed config (first ∷ older) (Lose (loss.Bucket sj.bucket) Fault) rest
  emptied_lawful on below failed rest = rw on (below, failed)
