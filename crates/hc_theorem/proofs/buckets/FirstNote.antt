-- The first note: the page of a bucket was read or written.
use Rattle.std.proofs.Common.{◌≡◌, ℕ, ◌==◌, ◌<◌, Bool, true, false, ◌||◌, List, ◌∷◌, length, set, Option, Some, None, refl, arith, ap, sym, ◌∙◌, subst, get_or-set_same, get_or-set_other}
use Rattle.std.specs.Prelude.{is_some, nat_lt, slice_index_or}
use Rattle.std.proofs.lemmas.Bool.{eqb-true, eq-eqb}
use Rattle.std.proofs.Math.Nat.{mod-lt}
use Rattle.hc_types.specs.Config.{Config}
use Rattle.hc_types.specs.Places.{bucket_at, kept_of}
use Rattle.hc_types.specs.Tally.{count}
use Rattle.hc_types.specs.declared.config.FlashConfig.{FlashConfig}
use Rattle.hc_engines.specs.Engine.{Pages}
use Rattle.hc_engines.specs.small.BigHash as bighash
use Rattle.hc_engines.specs.small.BigHash.{BigHash, Job, word_at, key_of}
use Rattle.hc_engines.specs.small.Held as small
use Rattle.hc_engines.specs.small.Held.{entries_at}
use Rattle.hc_engines.proofs.small.Resumed.{Out, job_out}
use Rattle.hc_engines.proofs.small.Keeping.{Spare, Mine}
use Rattle.hc_memory.specs.Memory.{Memory, linked_at}
use Rattle.hc_machine.specs.items.Items.{items_of}
use Rattle.hc_machine.proofs.items.Flat.{linked-flat}
use Rattle.hc_history.specs.Note.{Note, Read, Wrote}
use Rattle.hc_history.specs.Books.{charges, waiting, buried, writing, is_held, is_among, is_linked, entry_at}
use Rattle.hc_history.specs.Pages.{bytes_at, bucket_entries}
use Rattle.hc_machine.specs.Nvm.{Nvm, put_at}
use Rattle.hc_invariant.specs.Tells.{MemoryTells, WaitsTell}
use Rattle.hc_invariant.specs.Good.{EnginesFit}
use Rattle.hc_proof.proofs.losses.LossesTell.{held_is}
use Rattle.hc_theorem.specs.buckets.Small.{IsSmallNote}
use Rattle.hc_theorem.proofs.buckets.SmallBooks.{passed-note}
use Rattle.hc_theorem.proofs.buckets.JobOver.{SameRegions}
use Rattle.hc_proof.proofs.books.Changing.{other-way}

-- what a note of this bucket's page leaves
pub record First (flash : FlashConfig) (older : List Note) (bucket : ℕ) (first : Note) : Type 0 where
  pub small : IsSmallNote flash first
  pub entry : (key : List ℕ) → entry_at (Some flash) (first ∷ older) key ≡ entry_at (Some flash) older key
  pub stones : buried (first ∷ older) ≡ buried older
  pub puts : writing (first ∷ older) ≡ writing older
  pub others : (page : ℕ) → (page == bucket) ≡ false → bytes_at (first ∷ older) page ≡ bytes_at older page
  pub buckets : (c : ℕ) → (c == bucket) ≡ false → bucket_entries flash (first ∷ older) c ≡ bucket_entries flash older c

pub first-read : (flash : FlashConfig) (older : List Note) (bucket : ℕ) (result : Option (List ℕ)) → First flash older bucket (Read bucket result)
first-read flash older bucket result = record { small = tt; entry = λ key. refl; stones = refl; puts = refl; others = λ page o. refl; buckets = λ c o. refl }

pub first-wrote : (flash : FlashConfig) (older : List Note) (bucket : ℕ) (bytes : List ℕ) (done : Bool) → bucket < flash.buckets → First flash older bucket (Wrote bucket bytes done)
first-wrote flash older bucket bytes done below = record {
  small = below;
  entry = λ key. refl;
  stones = refl;
  puts = refl;
  others = λ page o. rw (other-way page bucket o) refl;
  buckets = λ c o. rw (other-way c bucket o) refl;
}

pub first-apart : (flash : FlashConfig) (older : List Note) (bucket : ℕ) (first : Note) → bucket < flash.buckets → First flash older bucket first → SameRegions flash (bytes_at older) (bytes_at (first ∷ older))
first-apart flash older bucket first below f page le = f.others page (differ page bucket (omega arith))
  where
    differ : (a b : ℕ) → b < a → (a == b) ≡ false
    differ a b lt = go (a == b) refl
      where
        go : (t : Bool) → (a == b) ≡ t → (a == b) ≡ false
        go true t = let same : a ≡ b = eqb-true a b t in absurd (omega arith)
        go false t = t

pub first-held : (config : Config) (flash : FlashConfig) (older : List Note) (bucket : ℕ) (first : Note) (memory : Memory) (nvm : Nvm) (key : List ℕ) → First flash older bucket first → MemoryTells config older memory → WaitsTell older nvm
    → is_held (first ∷ older) key ≡ (is_some (linked_at key memory.pools) || is_some (put_at key nvm.queue))
first-held config flash older bucket first memory nvm key f t w =
    let p = passed-note flash older first f.small in
    ap (λ cs. nat_lt 0 (count (is_linked key) cs) || is_among key (waiting (first ∷ older))) p.charged ∙ ap (λ ks. nat_lt 0 (count (is_linked key) (charges older)) || is_among key ks) p.waits
    ∙ held_is older (items_of memory.pools) memory.charges memory.made nvm key t.charges w
    ∙ ap (λ i. is_some i || is_some (put_at key nvm.queue)) (sym (linked-flat key memory.pools))

-- ---- the job of the small engine

-- what its job is about
pub record OwnJob (flash : FlashConfig) (older : List Note) (nvm : Nvm) (number : ℕ) (sj : Job) : Type 0 where
  pub number_is : sj.number ≡ number
  pub below : sj.bucket < flash.buckets
  pub here : sj.bucket ≡ bucket_at flash (key_of sj.op)
  pub out : Out nvm.pair.small.flash (word_at nvm.pair.small) (bytes_at older) number nvm.pair.small.jobs sj
  pub spare : Spare nvm.pair.small (bytes_at older) number sj.bucket
  pub mine : Mine nvm.pair.small sj.bucket sj.op

pub own-job : (flash : FlashConfig) (older : List Note) (nvm : Nvm) (number : ℕ) (sj : Job) → EnginesFit flash older nvm → bighash.job_at number nvm.pair.small.jobs ≡ Some sj → OwnJob flash older nvm number sj
own-job flash older nvm number sj e at =
    let s = nvm.pair.small in
    let fits = e.small_fits in
    let o = job_out s.flash (word_at s) (bytes_at older) number s.jobs sj at fits.jobs_fit in
    let here : sj.bucket ≡ bucket_at flash (key_of sj.op) = o.fit.2 ∙ ap (λ (f : FlashConfig). bucket_at f (key_of sj.op)) e.same in
    let some : 0 < s.flash.buckets = omega (arith, fits.limits.some_bucket) in
    let within : sj.bucket < s.flash.buckets = subst (λ (b : ℕ). b < s.flash.buckets) (sym o.fit.2) (mod-lt (kept_of s.flash.bits (key_of sj.op)) some) in
    record {
      number_is = o.number_is;
      below = rw e.same at within;
      here = here;
      out = o;
      spare = record { rest = o.rest; free = o.free; gone = o.gone };
      mine = record { can = o.fit.0; ours = o.fit.1; here = o.fit.2; within = within };
    }

-- ---- one bucket's word changes

pub word-here : (s : BigHash) (bucket : ℕ) (word : Option ℕ) → bucket < length s.words → slice_index_or (set s.words bucket word) bucket None ≡ word
word-here s bucket word lt = get_or-set_same s.words bucket word None lt

pub word-other : (s : BigHash) (bucket : ℕ) (word : Option ℕ) (c : ℕ) → (c == bucket) ≡ false → slice_index_or (set s.words bucket word) c None ≡ word_at s c
word-other s bucket word c other = get_or-set_other s.words bucket c word None (λ e. let t : (c == bucket) ≡ true = eq-eqb _ _ e in absurd (cc (t, other)))

-- the state with another word, and without the job
abbrev pub with_word : BigHash → ℕ → ℕ → Option ℕ → BigHash
with_word s number bucket word = record { flash = s.flash; words = set s.words bucket word; jobs = bighash.without_job number s.jobs }

pub entries-here : (s : BigHash) (pages : Pages) (number bucket : ℕ) (word : Option ℕ) → bucket < length s.words → small.bucket_entries (with_word s number bucket word) pages bucket ≡ entries_at s.flash.page word (pages bucket)
entries-here s pages number bucket word lt = ap (λ (o : Option ℕ). entries_at s.flash.page o (pages bucket)) (word-here s bucket word lt)

pub entries-other : (s : BigHash) (pages newer : Pages) (number bucket : ℕ) (word : Option ℕ) (c : ℕ) → (c == bucket) ≡ false → newer c ≡ pages c → small.bucket_entries (with_word s number bucket word) newer c ≡ small.bucket_entries s pages c
entries-other s pages newer number bucket word c other same = ap (λ (o : Option ℕ). entries_at s.flash.page o (newer c)) (word-other s bucket word c other) ∙ ap (entries_at s.flash.page (word_at s c)) same
