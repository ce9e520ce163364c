-- What the engines have at a key is of the key, and of the engine.
use Rattle.std.proofs.Common.{◌≡◌, ℕ, Bool, true, false, List, [], ◌∷◌, length, Option, Some, None, refl, ap, sym, ◌∙◌, subst}
use Rattle.std.specs.Prelude.{if◌then◌else◌}
use Rattle.std.specs.Str.{bytes_eq}
use Rattle.hc_types.specs.Places.{bucket_at, kept_of, is_small_by}
use Rattle.hc_types.specs.declared.config.FlashConfig.{FlashConfig}
use Rattle.hc_types.specs.FlashEntry.{FlashEntry}
use Rattle.hc_engines.specs.Engine.{Op, Put, Get, Delete, Flush, Reclaim, Pages}
use Rattle.hc_engines.specs.small.BigHash as bighash
use Rattle.hc_engines.specs.small.BigHash.{is_ours, word_at}
use Rattle.hc_engines.specs.small.Entries.{under}
use Rattle.hc_engines.specs.small.Held as small
use Rattle.hc_engines.specs.small.Held.{JobsFit}
use Rattle.hc_engines.proofs.small.Holding.{bucket_has}
use Rattle.hc_engines.proofs.small.Losses.{own_under}
use Rattle.hc_engines.proofs.small.Under.{under-key}
use Rattle.hc_engines.proofs.Keys.{same-true}
use Rattle.hc_engines.specs.large.Entries.{entry_in}
use Rattle.hc_engines.specs.large.Held as large
use Rattle.hc_engines.specs.large.Held.{if_own}
use Rattle.hc_engines.specs.large.Index.{Place, place_at}
use Rattle.hc_engines.specs.large.Block.{Block}
use Rattle.hc_history.specs.Pages.{bytes_at}
use Rattle.hc_invariant.specs.Standing.{put_in, first_of, written_by, large_at}
use Rattle.hc_proof.specs.losses.Losses.{IsOwn, IsSmall, IsLarge}
use Rattle.hc_proof.specs.losses.Agreements.{SidesOf}

-- ---- what is being written

first_own : (P : Option FlashEntry → Type 0) (a b : Option FlashEntry) → P a → P b → P (first_of a b)
first_own P None b p q = q
first_own P (Some x) b p q = p

put_own : (key : List ℕ) (e : FlashEntry) (t : Bool) → bytes_eq e.key key ≡ t → IsOwn key (if t then Some e else None)
put_own key e true h = same-true e.key key h
put_own key e false h = tt

put_key : (key : List ℕ) (op : Op) → IsOwn key (put_in key op)
put_key key (Put e) = put_own key e (bytes_eq e.key key) refl
put_key key (Get k) = tt
put_key key (Delete k) = tt
put_key key Flush = tt
put_key key Reclaim = tt

written_key : (key : List ℕ) (jobs : List bighash.Job) → IsOwn key (written_by key jobs)
written_key key [] = tt
written_key key (job ∷ jobs) = first_own (IsOwn key) (put_in key job.op) (written_by key jobs) (put_key key job.op) (written_key key jobs)

put_fits : (flash : FlashConfig) (e : FlashEntry) (t : Bool) → is_small_by flash e.key (length e.value) ≡ true → IsSmall flash (if t then Some e else None)
put_fits flash e true h = h
put_fits flash e false h = tt

put_small : (flash : FlashConfig) (key : List ℕ) (op : Op) → is_ours flash op ≡ true → IsSmall flash (put_in key op)
put_small flash key (Put e) ours = put_fits flash e (bytes_eq e.key key) ours
put_small flash key (Get k) ours = tt
put_small flash key (Delete k) ours = tt
put_small flash key Flush ours = tt
put_small flash key Reclaim ours = tt

written_small : (flash : FlashConfig) (words : ℕ → Option ℕ) (pages : Pages) (key : List ℕ) (jobs : List bighash.Job) → JobsFit flash words pages jobs → IsSmall flash (written_by key jobs)
written_small flash words pages key [] fit = tt
written_small flash words pages key (job ∷ jobs) fit = first_own (IsSmall flash) (put_in key job.op) (written_by key jobs) (put_small flash key job.op fit.0.1) (written_small flash words pages key jobs fit.3)

-- ---- what the small engine holds

held_own : (key : List ℕ) (es : List FlashEntry) (o : Option FlashEntry) → under key es ≡ o → IsOwn key o
held_own key es None e = tt
held_own key es (Some x) e = same-true x.key key (under-key key es x e)

held_fits : (flash : FlashConfig) (bucket : ℕ) (key : List ℕ) (es : List FlashEntry) (o : Option FlashEntry) → small.AllOwn flash bucket es → under key es ≡ o → IsSmall flash o
held_fits flash bucket key es None own e = tt
held_fits flash bucket key es (Some x) own e = (own_under flash bucket key es x own e).0

-- ---- what the large engine holds

own_step : (key : List ℕ) (entry : FlashEntry) (t : Bool) → bytes_eq entry.key key ≡ t → IsOwn key (if t then Some entry else None)
own_step key entry true h = same-true entry.key key h
own_step key entry false h = tt

if_own_key : (key : List ℕ) (o : Option FlashEntry) → IsOwn key (if_own key o)
if_own_key key None = tt
if_own_key key (Some entry) = own_step key entry (bytes_eq entry.key key) refl

read_key : (flash : FlashConfig) (pages : Pages) (s : Block) (key : List ℕ) (place : Option Place) → IsOwn key (large.read_at flash pages s key place)
read_key flash pages s key None = tt
read_key flash pages s key (Some place) = if_own_key key (entry_in (large.bytes_at flash pages s place))

large_fits : (flash : FlashConfig) (key : List ℕ) (o : Option FlashEntry) → IsOwn key o → ((e : FlashEntry) → o ≡ Some e → is_small_by flash key (length e.value) ≡ false) → IsLarge flash o
large_fits flash key None own h = tt
large_fits flash key (Some e) own h = ap (λ (k : List ℕ). is_small_by flash k (length e.value)) own ∙ h e refl

pub sides_of : SidesOf
sides_of flash older nvm key g =
    let s = nvm.pair.small in
    let bucket = bucket_at s.flash key in
    let own = (bucket_has s.flash bucket (word_at s bucket) (bytes_at older bucket) g.small_fits.limits (g.small_fits.pages_fit bucket)).own in
    let holds : IsSmall s.flash (small.held s (bytes_at older) key) = held_fits s.flash bucket key (small.bucket_entries s (bytes_at older) bucket) (small.held s (bytes_at older) key) own refl in
    let large_key : IsOwn key (large_at (bytes_at older) (Some nvm) key) = read_key s.flash (bytes_at older) nvm.pair.large key (place_at (kept_of s.flash.bits key) nvm.pair.large.index) in
    record {
      written_key = written_key key s.jobs;
      small_key = held_own key (small.bucket_entries s (bytes_at older) bucket) (small.held s (bytes_at older) key) refl;
      large_key = large_key;
      written_small = subst (λ (f : FlashConfig). IsSmall f (written_by key s.jobs)) g.same (written_small s.flash (word_at s) (bytes_at older) key s.jobs g.small_fits.jobs_fit);
      small_small = subst (λ (f : FlashConfig). IsSmall f (small.held s (bytes_at older) key)) g.same holds;
      large_large = subst (λ (f : FlashConfig). IsLarge flash (large.held f (bytes_at older) nvm.pair.large key)) (sym g.same)
          (large_fits flash key (large.held flash (bytes_at older) nvm.pair.large key) (subst (λ (f : FlashConfig). IsOwn key (large.held f (bytes_at older) nvm.pair.large key)) g.same large_key) (λ e h. g.large_ones key e h));
    }
