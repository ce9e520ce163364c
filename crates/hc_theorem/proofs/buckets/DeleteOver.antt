-- A delete is over: the page was written without its key, or the page that was read hasn't it. A get is over in the small
-- engine.
use Rattle.std.proofs.Common.{◌≡◌, ℕ, Bool, true, false, List, [], ◌∷◌, Option, Some, None, refl, arith, ap, sym, ◌∙◌, subst}
use Rattle.std.specs.Prelude.{if◌then◌else◌}
use Rattle.std.specs.List.{list_any}
use Rattle.std.specs.Str.{bytes_eq}
use Rattle.hc_types.specs.Config.{Config}
use Rattle.hc_types.specs.declared.config.FlashConfig.{FlashConfig}
use Rattle.hc_types.specs.FlashEntry.{FlashEntry}
use Rattle.hc_engines.specs.Engine.{Op, Delete, Over, changed}
use Rattle.hc_engines.specs.small.BigHash as bighash
use Rattle.hc_engines.specs.small.BigHash.{BigHash, Job, Writing}
use Rattle.hc_engines.specs.small.Held as small
use Rattle.hc_engines.specs.small.Held.{StateFits}
use Rattle.hc_engines.proofs.small.Losses.{left-none}
use Rattle.hc_engines.specs.large.Held as large
use Rattle.hc_memory.proofs.Keyed.{same_bytes}
use Rattle.hc_memory.specs.Item.{Item}
use Rattle.hc_memory.specs.Memory.{Memory}
use Rattle.hc_history.specs.Note.{Note, Read, Wrote}
use Rattle.hc_history.specs.Books.{Entry}
use Rattle.hc_history.specs.Pages.{bytes_at}
use Rattle.hc_machine.specs.Nvm as nvms
use Rattle.hc_machine.specs.Nvm.{Nvm, Tombstone, is_buried, is_stone_of}
use Rattle.hc_invariant.specs.Standing.{Placed, put_in}
use Rattle.hc_invariant.specs.Jobs.{small_job, large_work, is_taken}
use Rattle.hc_invariant.specs.Good.{EnginesFit}
use Rattle.hc_theorem.specs.buckets.Small.{Ending}
use Rattle.hc_theorem.proofs.buckets.SmallBooks.{passed-note}
use Rattle.hc_theorem.proofs.buckets.MemoryKept.{memory-charged}
use Rattle.hc_theorem.proofs.buckets.JobOver.{Before, large-still, job_gone, over_ending}
use Rattle.hc_theorem.proofs.buckets.FirstNote.{first-wrote, first-apart, OwnJob, own-job}
use Rattle.hc_theorem.proofs.buckets.PageWritten.{written-still, bytes, wrote, kept, Kept, kept_by, kept_buckets}

-- what is held of a buried key is stale
placed_stale : (i : Option Item) (q w s s2 l : Option FlashEntry) (m : Option Entry) (b : Bool) → b ≡ true → Placed i q w b s l m → Placed i q w b s2 l m
placed_stale i q w s s2 l m b t h = grind arith

taken-buried : (key : List ℕ) (stones : List Tombstone) → is_taken key stones ≡ true → list_any (is_stone_of key) stones ≡ true
taken-buried key [] h = absurd (cc h)
taken-buried key (stone ∷ stones) h = go (is_stone_of key stone) stone.taken refl (taken-buried key stones)
  where
    go : (a b : Bool) → is_stone_of key stone ≡ a → (is_taken key stones ≡ true → list_any (is_stone_of key) stones ≡ true) → list_any (is_stone_of key) (stone ∷ stones) ≡ true
    go true b e more = rw e refl
    go false b e more = let rest : is_taken key stones ≡ true = rw e at h in rw e (more rest)

module _ (config : Config) (flash : FlashConfig) (older : List Note) (memory : Memory) (nvm : Nvm) (number : ℕ) (job : nvms.Job) (sj : Job) where
  -- ---- the page was read, and the job is over with it

  abbrev pub ended : BigHash
  ended = record nvm.pair.small { jobs = bighash.without_job number nvm.pair.small.jobs }

  -- only a put writes
  abbrev pub WritesNone : Type 0
  WritesNone = (key : List ℕ) → put_in key sj.op ≡ None

  ended_fits : EnginesFit flash older nvm → OwnJob flash older nvm number sj → StateFits ended (bytes_at older)
  ended_fits e o = record { limits = e.small_fits.limits; buckets = e.small_fits.buckets; pages_fit = e.small_fits.pages_fit; jobs_fit = o.spare.rest }

  pub read_ending : (result : Option (List ℕ)) → Before config flash older memory nvm → nvms.job_at number nvm.jobs ≡ Some job → small_job nvm number ≡ Some sj → large_work nvm number ≡ None → WritesNone
      → Ending config flash (Read sj.bucket result ∷ older) memory (job_gone ended number nvm) number job.task
  read_ending result b there at none puts =
      let e = b.good.engines in
      let o = own-job flash older nvm number sj e at in
      let passed = passed-note flash older (Read sj.bucket result) tt in
      over_ending config flash older (Read sj.bucket result ∷ older) memory memory nvm number ended job sj b (record {
        same = e.same;
        left = refl;
        fits = ended_fits e o;
        passed = passed;
        buried = refl;
        writing = refl;
        apart = λ page le. refl;
        buckets = e.buckets;
        tells = memory-charged config older (Read sj.bucket result ∷ older) memory refl b.tells;
        charges = refl;
        pools = refl;
        unlinked = λ key h. h;
        comes = λ key w s. s;
      }) there at none (λ key. rw (written-still flash older nvm number sj key e o at (puts key)) (b.placed key)) b.sized

  -- ---- the page was written without a key

  module _ (k : List ℕ) (es : List FlashEntry) where
    abbrev pub shed : BigHash
    shed = kept flash older nvm number sj es []

    pub held_without : Kept flash older nvm number sj es [] → sj.op ≡ Delete k → (key : List ℕ) → small.held (kept flash older nvm number sj es []) (bytes_at (wrote flash older nvm number sj es [])) key ≡ (if bytes_eq k key then None else small.held nvm.pair.small (bytes_at older) key)
    held_without h op key = h.held key ∙ left-none nvm.pair.small.flash (changed sj.op Over key (small.held nvm.pair.small (bytes_at older) key)) ∙ ap (λ (x : Op). changed x Over key (small.held nvm.pair.small (bytes_at older) key)) op

    placed_without : (key : List ℕ) (s s2 l : Option FlashEntry) (i : Option Item) (q w : Option FlashEntry) (m : Option Entry) (t : Bool) → bytes_eq k key ≡ t → (bytes_eq k key ≡ true → is_buried nvm key ≡ true) → s2 ≡ (if t then None else s) → Placed i q w (is_buried nvm key) s l m → Placed i q w (is_buried nvm key) s2 l m
    placed_without key s s2 l i q w m true t h e p = placed_stale i q w s s2 l m (is_buried nvm key) (h t) p
    placed_without key s s2 l i q w m false t h e p = rw e p

    pub deleted_ending : Before config flash older memory nvm → nvms.job_at number nvm.jobs ≡ Some job → small_job nvm number ≡ Some sj → large_work nvm number ≡ None → sj.op ≡ Delete k → sj.phase ≡ Writing es [] → is_taken k nvm.tombstones ≡ true
        → Ending config flash (wrote flash older nvm number sj es []) memory (job_gone (kept flash older nvm number sj es []) number nvm) number job.task
    deleted_ending b there at none op phase taken =
        let e = b.good.engines in
        let o = own-job flash older nvm number sj e at in
        let newer = wrote flash older nvm number sj es [] in
        let first = Wrote sj.bucket (bytes flash older nvm number sj es []) true in
        let f = first-wrote flash older sj.bucket (bytes flash older nvm number sj es []) true o.below in
        let h = kept_by flash older nvm number sj es [] e o phase in
        let held = held_without h op in
        let apart = first-apart flash older sj.bucket first o.below f in
        let still = large-still flash (bytes_at older) (bytes_at newer) nvm.pair.large apart e.large_sound e.large_fits e.reads in
        over_ending config flash older newer memory memory nvm number (kept flash older nvm number sj es []) job sj b (record {
          same = e.same;
          left = refl;
          fits = h.fits;
          passed = passed-note flash older first o.below;
          buried = refl;
          writing = refl;
          apart = apart;
          buckets = kept_buckets flash older nvm number sj es [] e o;
          tells = memory-charged config older newer memory refl b.tells;
          charges = refl;
          pools = refl;
          unlinked = λ key x. x;
          comes = λ key w s. held key ∙ both (bytes_eq k key) (small.held nvm.pair.small (bytes_at older) key) s;
        }) there at none (λ key.
        let l2 : large.held nvm.pair.small.flash (bytes_at newer) nvm.pair.large key ≡ large.held nvm.pair.small.flash (bytes_at older) nvm.pair.large key = subst (λ (c : FlashConfig). large.held c (bytes_at newer) nvm.pair.large key ≡ large.held c (bytes_at older) nvm.pair.large key) (sym e.same) (still.held key) in
        rw (l2, written-still flash older nvm number sj key e o at (rw op refl))
        (placed_without key (small.held nvm.pair.small (bytes_at older) key) (small.held (kept flash older nvm number sj es []) (bytes_at newer) key) _ _ _ _ _ (bytes_eq k key) refl (λ t. buried_at key t) (held key) (b.placed key))) b.sized
      where
        both : (t : Bool) (o : Option FlashEntry) → o ≡ None → (if t then None else o) ≡ None
        both true o h = refl
        both false o h = h

        buried_at : (key : List ℕ) → bytes_eq k key ≡ true → is_buried nvm key ≡ true
        buried_at key t = subst (λ (x : List ℕ). is_buried nvm x ≡ true) (same_bytes k key t) (taken-buried k nvm.tombstones taken)
