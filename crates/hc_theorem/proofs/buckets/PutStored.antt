-- A put is written: its entry is in its bucket, and others were pushed out.
use Rattle.std.proofs.Common.{◌≡◌, ℕ, ◌==◌, Bool, true, false, ◌||◌, List, [], ◌∷◌, length, Option, Some, None, refl, arith, ap, sym, ◌∙◌, subst}
use Rattle.std.specs.Prelude.{if◌then◌else◌, is_some}
use Rattle.std.specs.Str.{bytes_eq}
use Rattle.std.proofs.lemmas.Bool.{eq-eqb}
use Rattle.hc_types.specs.Config.{Config}
use Rattle.hc_types.specs.Places.{bucket_at, is_small_by}
use Rattle.hc_types.specs.declared.config.FlashConfig.{FlashConfig}
use Rattle.hc_types.specs.FlashEntry.{FlashEntry}
use Rattle.hc_bucket.specs.Page.{Fits, page_bytes}
use Rattle.hc_engines.specs.Engine.{Pages, Op, Put, Over, Loss, left_of, changed}
use Rattle.hc_engines.specs.small.Entries.{under, without, pushed_out, full_losses, page_put, put_losses}
use Rattle.hc_engines.specs.small.BigHash as bighash
use Rattle.hc_engines.specs.small.BigHash.{BigHash, Job, Writing, word_at, key_of}
use Rattle.hc_engines.specs.small.Held as small
use Rattle.hc_engines.specs.small.Held.{StateFits, WorkFits}
use Rattle.hc_engines.proofs.Keys.{same-true}
use Rattle.hc_engines.proofs.small.Under.{has, has-there, under-key, under-without}
use Rattle.hc_engines.proofs.small.Losses.{own_under}
use Rattle.hc_engines.proofs.small.Keeping.{has_entries}
use Rattle.hc_engines.proofs.small.Fitting.{fits-put, small_entry}
use Rattle.hc_engines.specs.large.Held as large
use Rattle.hc_memory.proofs.Keyed.{same_bytes}
use Rattle.hc_memory.specs.Item.{Item}
use Rattle.hc_memory.specs.Memory.{Memory}
use Rattle.hc_history.specs.Note.{Note, Wrote}
use Rattle.hc_history.specs.Books.{Entry}
use Rattle.hc_history.specs.Pages.{bytes_at}
use Rattle.hc_machine.specs.Nvm as nvms
use Rattle.hc_machine.specs.Nvm.{Nvm, put_at, is_buried}
use Rattle.hc_machine.specs.Takes.{loss_notes}
use Rattle.hc_invariant.specs.Standing.{Placed, put_in, written_by}
use Rattle.hc_invariant.specs.Jobs.{small_job, large_work}
use Rattle.hc_invariant.specs.Good.{EnginesFit}
use Rattle.hc_invariant.specs.Laws.{LawfulIn}
use Rattle.hc_invariant.proofs.Placing.{placed_put}
use Rattle.hc_proof.specs.losses.Losses.{lost, unmarked, AllFull, NoBucket, Sides, names}
use Rattle.hc_proof.proofs.losses.BooksPass.{books_pass, same_pages}
use Rattle.hc_proof.proofs.losses.CleanMarks.{memory_kept}
use Rattle.hc_proof.proofs.losses.LossesTell.{sized_pass, buckets_pass}
use Rattle.hc_proof.proofs.losses.EachLoss.{full_losses_place}
use Rattle.hc_proof.proofs.losses.Agreements.{full_is_lawful}
use Rattle.hc_theorem.specs.buckets.Small.{AllSmall, PlacedOn, Ending}
use Rattle.hc_theorem.proofs.buckets.SmallBooks.{passed-note, passed-on, passed-part}
use Rattle.hc_theorem.proofs.buckets.MemoryKept.{memory-lost, memory-charged}
use Rattle.hc_theorem.proofs.buckets.JobOver.{Before, Gone, large-still, job_gone, over_ending}
use Rattle.hc_proof.proofs.losses.SideOfKey.{sides_of}
use Rattle.hc_theorem.proofs.buckets.FirstNote.{first-wrote, first-held, first-apart, OwnJob, own-job}
use Rattle.hc_theorem.proofs.buckets.PageWritten.{written-out, written-in, bytes, wrote, kept, Kept, kept_by, kept_buckets}

-- ---- losses of a full bucket

all-full : (gone : List FlashEntry) → AllFull (full_losses gone)
all-full [] = tt
all-full (e ∷ gone) = (tt, all-full gone)

no-bucket : (gone : List FlashEntry) → NoBucket (full_losses gone)
no-bucket [] = tt
no-bucket (e ∷ gone) = (tt, no-bucket gone)

small-full : (flash : FlashConfig) (gone : List FlashEntry) → AllSmall flash (loss_notes (full_losses gone))
small-full flash [] = tt
small-full flash (e ∷ gone) = (tt, small-full flash gone)

names-has : (key : List ℕ) (gone : List FlashEntry) → names key (full_losses gone) ≡ has key gone
names-has key [] = refl
names-has key (e ∷ gone) = go (bytes_eq e.key key) (names-has key gone)
  where
    go : (t : Bool) → names key (full_losses gone) ≡ has key gone → (t || names key (full_losses gone)) ≡ (if t then true else has key gone)
    go true h = refl
    go false h = h

module _ (config : Config) (flash : FlashConfig) (older : List Note) (memory : Memory) (nvm : Nvm) (number : ℕ) (job : nvms.Job) (sj : Job) (e : FlashEntry) (es : List FlashEntry) (losses : List Loss) where
  abbrev old : List FlashEntry
  old = small.bucket_entries nvm.pair.small (bytes_at older) sj.bucket

  abbrev pub stored : BigHash
  stored = kept flash older nvm number sj es losses

  abbrev pub written : List Note
  written = wrote flash older nvm number sj es losses

  abbrev pub told : List Note
  told = lost losses (wrote flash older nvm number sj es losses)

  -- what it is about
  pub record Puts : Type 0 where
    pub op : sj.op ≡ Put e
    pub phase : sj.phase ≡ Writing es losses
    pub page : es ≡ page_put nvm.pair.small.flash.page e (small.bucket_entries nvm.pair.small (bytes_at older) sj.bucket)
    pub full : losses ≡ full_losses (pushed_out nvm.pair.small.flash.page e (without e.key (small.bucket_entries nvm.pair.small (bytes_at older) sj.bucket)))

  pub puts-of : OwnJob flash older nvm number sj → sj.op ≡ Put e → sj.phase ≡ Writing es losses → Puts
  puts-of o op phase =
      let work : WorkFits nvm.pair.small.flash.page (Put e) (Writing es losses) (word_at nvm.pair.small sj.bucket) old = rw (op, phase) at o.out.fit.3 in
      record { op = op; phase = phase; page = work.0; full = work.1 }

  -- the key of the put is of the bucket
  own_bucket : EnginesFit flash older nvm → OwnJob flash older nvm number sj → Puts → (key : List ℕ) → bytes_eq e.key key ≡ true → (bucket_at flash key == sj.bucket) ≡ true
  own_bucket f o p key t =
      let here : sj.bucket ≡ bucket_at flash e.key = o.here ∙ ap (λ (op : Op). bucket_at flash (key_of op)) p.op in
      eq-eqb _ _ (ap (bucket_at flash) (sym (same_bytes e.key key t)) ∙ sym here)

  -- what is written at the key of the put
  was_put : EnginesFit flash older nvm → OwnJob flash older nvm number sj → small_job nvm number ≡ Some sj → Puts → (key : List ℕ) → bytes_eq e.key key ≡ true → written_by key nvm.pair.small.jobs ≡ Some e
  was_put f o at p key t = written-in flash older nvm number sj key f at (own_bucket f o p key t) ∙ ap (put_in key) p.op ∙ (rw t refl)

  then_none : EnginesFit flash older nvm → OwnJob flash older nvm number sj → small_job nvm number ≡ Some sj → Puts → (key : List ℕ) → bytes_eq e.key key ≡ true → written_by key (bighash.without_job number nvm.pair.small.jobs) ≡ None
  then_none f o at p key t = written-out flash older nvm number sj key true f o at (own_bucket f o p key t)

  -- at other keys nothing changes
  then_same : EnginesFit flash older nvm → OwnJob flash older nvm number sj → small_job nvm number ≡ Some sj → Puts → (key : List ℕ) → bytes_eq e.key key ≡ false → written_by key (bighash.without_job number nvm.pair.small.jobs) ≡ written_by key nvm.pair.small.jobs
  then_same f o at p key t = go (bucket_at flash key == sj.bucket) refl
    where
      none : put_in key sj.op ≡ None
      none = ap (put_in key) p.op ∙ (rw t refl)

      go : (h : Bool) → (bucket_at flash key == sj.bucket) ≡ h → written_by key (bighash.without_job number nvm.pair.small.jobs) ≡ written_by key nvm.pair.small.jobs
      go true h = written-out flash older nvm number sj key true f o at h ∙ sym (written-in flash older nvm number sj key f at h ∙ none)
      go false h = written-out flash older nvm number sj key false f o at h

  -- held before the losses
  abbrev pub before_losses : List ℕ → Option FlashEntry
  before_losses key = changed (Put e) Over key (small.held nvm.pair.small (bytes_at older) key)

  placed_before : EnginesFit flash older nvm → OwnJob flash older nvm number sj → small_job nvm number ≡ Some sj → Puts → (key : List ℕ) (t : Bool) → bytes_eq e.key key ≡ t → (i : Option Item) (q l : Option FlashEntry) (m : Option Entry) (b : Bool)
      → Placed i q (written_by key nvm.pair.small.jobs) b (small.held nvm.pair.small (bytes_at older) key) l m → Placed i q (written_by key (bighash.without_job number nvm.pair.small.jobs)) b (before_losses key) l m
  placed_before f o at p key true t i q l m b h = rw (then_none f o at p key t, t) (placed_put i e q (small.held nvm.pair.small (bytes_at older) key) l m b (rw (was_put f o at p key t) at h))
  placed_before f o at p key false t i q l m b h = rw (then_same f o at p key t, t) h

  sides_before : EnginesFit flash older nvm → OwnJob flash older nvm number sj → small_job nvm number ≡ Some sj → Puts → (key : List ℕ) (t : Bool) → bytes_eq e.key key ≡ t
      → Sides flash key (written_by key (bighash.without_job number nvm.pair.small.jobs)) (before_losses key) (large.held nvm.pair.small.flash (bytes_at older) nvm.pair.large key)
  sides_before f o at p key true t =
      let s = sides_of flash older nvm key f in
      let ours : is_small_by flash e.key (length e.value) ≡ true = rw (p.op, f.same) at o.mine.ours in
      rw (then_none f o at p key t, t) (record { written_key = tt; small_key = same_bytes e.key key t; large_key = s.large_key; written_small = tt; small_small = ours; large_large = s.large_large })
  sides_before f o at p key false t = let s = sides_of flash older nvm key f in rw (then_same f o at p key t, t) s

  -- what is pushed out was held
  pushed_held : EnginesFit flash older nvm → Puts → (key : List ℕ) → names key losses ≡ true → is_some (before_losses key) ≡ true
  pushed_held f p key named = both (bytes_eq e.key key) (small.held nvm.pair.small (bytes_at older) key) held
    where
      both : (t : Bool) (o : Option FlashEntry) → is_some o ≡ true → is_some (if t then Some e else o) ≡ true
      both true o h = refl
      both false o h = h

      there : is_some (under key (without e.key old)) ≡ true
      there = has-there key nvm.pair.small.flash.page e (without e.key old) (sym (names-has key (pushed_out nvm.pair.small.flash.page e (without e.key old))) ∙ ap (names key) (sym p.full) ∙ named)

      less : (t : Bool) (o : Option FlashEntry) → is_some (if t then None else o) ≡ true → is_some o ≡ true
      less true o h = absurd (cc h)
      less false o h = h

      found : is_some (under key old) ≡ true
      found = less (bytes_eq key e.key) (under key old) (ap (λ (o : Option FlashEntry). is_some o) (sym (under-without e.key key old)) ∙ there)

      at_own : (o : Option FlashEntry) → under key old ≡ o → is_some o ≡ true → bucket_at nvm.pair.small.flash key ≡ sj.bucket
      at_own None h s = absurd (cc s)
      at_own (Some x) h s =
          let own = own_under nvm.pair.small.flash sj.bucket key old x (has_entries nvm.pair.small (bytes_at older) sj.bucket f.small_fits).own h in
          ap (bucket_at nvm.pair.small.flash) (sym (same-true x.key key (under-key key old x h))) ∙ own.1

      held : is_some (small.held nvm.pair.small (bytes_at older) key) ≡ true
      held = ap (λ (c : ℕ). is_some (under key (small.bucket_entries nvm.pair.small (bytes_at older) c))) (at_own (under key old) refl found) ∙ found

  then_full : Puts → AllFull losses
  then_full p = subst AllFull (sym p.full) (all-full (pushed_out nvm.pair.small.flash.page e (without e.key old)))

  then_no_bucket : Puts → NoBucket losses
  then_no_bucket p = subst NoBucket (sym p.full) (no-bucket (pushed_out nvm.pair.small.flash.page e (without e.key old)))

  pub then_small : Puts → AllSmall flash (loss_notes losses)
  then_small p = subst (λ (ls : List Loss). AllSmall flash (loss_notes ls)) (sym p.full) (small-full flash (pushed_out nvm.pair.small.flash.page e (without e.key old)))

  held_now : EnginesFit flash older nvm → Kept flash older nvm number sj es losses → Puts → (key : List ℕ) → small.held stored (bytes_at written) key ≡ left_of flash losses (before_losses key)
  held_now f k p key = k.held key ∙ ap (λ (c : FlashConfig). left_of c losses (changed sj.op Over key (small.held nvm.pair.small (bytes_at older) key))) f.same ∙ ap (λ (op : Op). left_of flash losses (changed op Over key (small.held nvm.pair.small (bytes_at older) key))) p.op

  stored_gone : Before config flash older memory nvm → small_job nvm number ≡ Some sj → Puts → Gone config flash older told memory (unmarked losses memory) nvm number stored
  stored_gone b at p =
      let f = b.good.engines in
      let o = own-job flash older nvm number sj f at in
      let first = Wrote sj.bucket (bytes flash older nvm number sj es losses) true in
      let fw = first-wrote flash older sj.bucket (bytes flash older nvm number sj es losses) true o.below in
      let k = kept_by flash older nvm number sj es losses f o p.phase in
      let pass = books_pass losses written in
      let pages : bytes_at told ≡ bytes_at written = same_pages written told pass in
      let passed = passed-on flash older written told (passed-note flash older first o.below) (passed-part flash written (loss_notes losses) (then_small p)) in
      let kept_memory = memory_kept losses memory in
      record {
        same = f.same;
        left = refl;
        fits = subst (λ (pages : Pages). StateFits stored pages) (sym pages) k.fits;
        passed = passed;
        buried = pass.buried;
        writing = pass.writing;
        apart = λ page le. ap (λ (g : Pages). g page) pages ∙ first-apart flash older sj.bucket first o.below fw page le;
        buckets = λ c below. buckets_pass flash losses written c (then_no_bucket p) ∙ kept_buckets flash older nvm number sj es losses f o c below ∙ ap (λ (g : Pages). small.bucket_entries stored g c) (sym pages);
        tells = memory-charged config older told (unmarked losses memory) passed.charged (memory-lost config older memory losses b.tells);
        charges = kept_memory.charges;
        pools = kept_memory.number;
        unlinked = kept_memory.unlinked;
        comes = λ key w s. ap (λ (g : Pages). small.held stored g key) pages ∙ held_now f k p key ∙ gone key w s (bytes_eq e.key key) refl f o;
      }
    where
      gone : (key : List ℕ) → written_by key nvm.pair.small.jobs ≡ None → small.held nvm.pair.small (bytes_at older) key ≡ None → (t : Bool) → bytes_eq e.key key ≡ t → EnginesFit flash older nvm → OwnJob flash older nvm number sj → left_of flash losses (before_losses key) ≡ None
      gone key w s true t f o = let there = was_put f o at p key t in absurd (cc (there, w))
      gone key w s false t f o = rw (t, s) refl

  stored_placed : Before config flash older memory nvm → config.flash ≡ Some flash → small_job nvm number ≡ Some sj → Puts → (key : List ℕ) → PlacedOn flash told (unmarked losses memory) (job_gone stored number nvm) key
  stored_placed b on at p key =
      let f = b.good.engines in
      let o = own-job flash older nvm number sj f at in
      let first = Wrote sj.bucket (bytes flash older nvm number sj es losses) true in
      let fw = first-wrote flash older sj.bucket (bytes flash older nvm number sj es losses) true o.below in
      let k = kept_by flash older nvm number sj es losses f o p.phase in
      let pages : bytes_at told ≡ bytes_at written = same_pages written told (books_pass losses written) in
      let still = large-still flash (bytes_at older) (bytes_at written) nvm.pair.large (first-apart flash older sj.bucket first o.below fw) f.large_sound f.large_fits f.reads in
      let l2 : large.held nvm.pair.small.flash (bytes_at told) nvm.pair.large key ≡ large.held nvm.pair.small.flash (bytes_at older) nvm.pair.large key =
      ap (λ (g : Pages). large.held nvm.pair.small.flash g nvm.pair.large key) pages ∙ subst (λ (c : FlashConfig). large.held c (bytes_at written) nvm.pair.large key ≡ large.held c (bytes_at older) nvm.pair.large key) (sym f.same) (still.held key) in
      let s2 : small.held stored (bytes_at told) key ≡ left_of flash losses (before_losses key) = ap (λ (g : Pages). small.held stored g key) pages ∙ held_now f k p key in
      rw l2
      (full_losses_place flash losses written memory key (put_at key nvm.queue) (written_by key (bighash.without_job number nvm.pair.small.jobs)) (before_losses key) (large.held nvm.pair.small.flash (bytes_at older) nvm.pair.large key) (small.held stored (bytes_at told) key) (is_buried nvm key)
      (b.tells.flash ∙ on) (then_full p) (pushed_held f p key) (first-held config flash older sj.bucket first memory nvm key fw b.tells b.good.waits) (sides_before f o at p key (bytes_eq e.key key) refl) s2
      (placed_before f o at p key (bytes_eq e.key key) refl _ _ _ _ _ (b.placed key)))

  -- the put stands, and the job is over
  pub stored_ending : Before config flash older memory nvm → config.flash ≡ Some flash → nvms.job_at number nvm.jobs ≡ Some job → small_job nvm number ≡ Some sj → large_work nvm number ≡ None → Puts
      → Ending config flash told (unmarked losses memory) (job_gone stored number nvm) number job.task
  stored_ending b on there at none p =
      over_ending config flash older told memory (unmarked losses memory) nvm number stored job sj b (stored_gone b at p) there at none (stored_placed b on at p) (λ key. sized_pass (Some flash) losses written key (b.sized key))

  -- what is told of the losses is lawful
  pub stored_lawful : Before config flash older memory nvm → config.flash ≡ Some flash → small_job nvm number ≡ Some sj → Puts → (tail : List Note) → LawfulIn config written (loss_notes losses) tail
  stored_lawful b on at p tail =
      let f = b.good.engines in
      let o = own-job flash older nvm number sj f at in
      let s = nvm.pair.small in
      let has = has_entries s (bytes_at older) sj.bucket f.small_fits in
      let ours : is_small_by s.flash e.key (length e.value) ≡ true = rw p.op at o.mine.ours in
      let can = rw p.op at o.mine.can in
      let small = small_entry s.flash e f.small_fits.limits can ours in
      let fits : Fits s.flash.page (page_put s.flash.page e old) = fits-put s.flash.page e old (omega (arith, f.small_fits.limits.most_page)) has.fits small.0 small.1 in
      let law = full_is_lawful config flash older tail sj.bucket e old on o.below (f.buckets sj.bucket o.below) (subst (λ (c : FlashConfig). Fits c.page (page_put c.page e old)) f.same fits) in
      subst (λ (c : FlashConfig). LawfulIn config (Wrote sj.bucket (page_bytes c.page es) true ∷ older) (loss_notes losses) tail) (sym f.same)
      (subst (λ (ls : List Loss). LawfulIn config (Wrote sj.bucket (page_bytes flash.page es) true ∷ older) (loss_notes ls) tail) (sym (p.full ∙ ap (λ (c : FlashConfig). put_losses c.page e old) f.same))
      (subst (λ (xs : List FlashEntry). LawfulIn config (Wrote sj.bucket (page_bytes flash.page xs) true ∷ older) (loss_notes (put_losses flash.page e old)) tail) (sym (p.page ∙ ap (λ (c : FlashConfig). page_put c.page e old) f.same)) law))
