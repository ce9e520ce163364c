-- A key's copies on flash are stale from here on.
use Rattle.std.proofs.Common.{◌≡◌, ℕ, false, List, refl, sym, ap, ◌∙◌, arith}
use Rattle.std.specs.Prelude.{is_some}
use Rattle.hc_engines.specs.large.Index.{Indexed, place_at, without}
use Rattle.hc_engines.specs.pair.Pair.{Pair, hash_in, take_index}
use Rattle.hc_engines.proofs.large.Lists.{place_at-without}
use Rattle.hc_history.specs.Told.{Heard, Nothing, Log, Counts, Sums, told_more, is_log}
use Rattle.hc_history.specs.Note.{Note}
use Rattle.hc_history.proofs.Telling.{told-nothing}
use Rattle.hc_machine.specs.Nvm.{Nvm, is_due}
use Rattle.hc_machine.specs.Leaving.{bury}
use Rattle.hc_nvm.proofs.Serving.{served_index}
use Rattle.hc_nvm.specs.Stock.{Kept}

-- nothing is told where no tombstone is due
pub told_unburied : (heard : Heard) (key : List ℕ) (nvm : Nvm) → is_due nvm key ≡ false → heard ≡ told_more heard (bury key nvm).part
told_unburied heard key nvm e = rw e (sym (told-nothing heard))

-- the log is kept as before, or isn't, whatever is told
pub log_more : (heard : Heard) (part : List Note) → is_log (told_more heard part) ≡ is_log heard
log_more Nothing part = refl
log_more (Log log) part = refl
log_more (Counts counts losses) part = refl
log_more (Sums counts losses) part = refl

-- ---- a plan goes on serving where puts come or go

-- ---- a key that was outdated needs no more

gone : (hash : ℕ) (index : List Indexed) → is_some (place_at hash (without hash index)) ≡ false
gone hash index = ap (λ place. is_some place) (place_at-without hash hash index) ∙ grind arith

-- ---- an index entry goes, and what holds at every time stays

pub kept_unindexed : (key : List ℕ) (nvm : Nvm) (pair : Pair) → pair ≡ take_index key nvm.pair → Kept nvm → (pair.small.flash ≡ nvm.pair.small.flash) × Kept (record nvm { pair = pair })
kept_unindexed key nvm pair is kept = rw is (
  refl,
  record {
    below = kept.below;
    starts = kept.starts;
    short = kept.short;
    numbered = kept.numbered;
    brought = kept.brought;
    served = served_index nvm.pair (without (hash_in nvm.pair key) nvm.pair.large.index) nvm.jobs kept.served;
  },
)
