-- Notes that tell of no region's page, and of no opening, leave it as it was what the notes tell of regions.
use Rattle.std.proofs.Common.{◌≡◌, ℕ, ◌<◌, false, ◌||◌, List, [], ◌∷◌, ◌++◌, Option, Some, None, refl, ap, sym, ◌∙◌, subst, arith}
use Rattle.std.proofs.lemmas.Bool.{lt-leb}
use Rattle.hc_types.specs.Places.{is_page_of}
use Rattle.hc_types.specs.declared.config.FlashConfig.{FlashConfig}
use Rattle.hc_engines.specs.Engine as engine
use Rattle.hc_engines.specs.Engine.{Order, IoResult, Outcome}
use Rattle.hc_engines.specs.small.BigHash as bighash
use Rattle.hc_engines.specs.large.Block.{Block}
use Rattle.hc_engines.specs.large.Numbers.{is_in}
use Rattle.hc_engines.specs.pair.Pair.{Pair}
use Rattle.hc_history.specs.Note.{Note, Read, Wrote, Opened}
use Rattle.hc_history.specs.Lawful.{past}
use Rattle.hc_machine.specs.Nvm.{Nvm}
use Rattle.hc_machine.specs.Leaving.{Changed}
use Rattle.hc_machine.specs.Takes.{region_note, result_note}
use Rattle.hc_invariant.specs.Jobs.{small_order}
use Rattle.hc_follows.specs.Idle.{has_failed, pages_written}
use Rattle.hc_theorem.specs.idle.Still.{AllCalm, StillNvm, StillBehind}
use Rattle.hc_theorem.specs.idle.Accounted.{Accounted, opened_on}
use Rattle.hc_engines.proofs.large.Listed.{same_regions}
use Rattle.hc_theorem.proofs.idle.Accounts.{counted, accounted, untouched_counts}

-- ---- notes

-- both histories tell the same of each region's pages
pub record SamePages (flash : FlashConfig) (old new : List Note) : Type 0 where
  pub failed : (r : ℕ) → has_failed flash r new ≡ has_failed flash r old
  pub written : (r : ℕ) → pages_written flash r new ≡ pages_written flash r old

calm_failed : (flash : FlashConfig) (r : ℕ) (older part : List Note) → AllCalm part → has_failed flash r (past older part) ≡ has_failed flash r older
calm_failed flash r older [] h = refl
calm_failed flash r older (Read page result ∷ part) h = absurd cc
calm_failed flash r older (Wrote page bytes is_written ∷ part) h = absurd cc
calm_failed flash r older (Opened region ∷ part) h = absurd cc
calm_failed flash r older (note ∷ part) h = calm_failed flash r (note ∷ older) part h

calm_written : (flash : FlashConfig) (r : ℕ) (older part : List Note) → AllCalm part → pages_written flash r (past older part) ≡ pages_written flash r older
calm_written flash r older [] h = refl
calm_written flash r older (Read page result ∷ part) h = absurd cc
calm_written flash r older (Wrote page bytes is_written ∷ part) h = absurd cc
calm_written flash r older (Opened region ∷ part) h = absurd cc
calm_written flash r older (note ∷ part) h = calm_written flash r (note ∷ older) part h

calm_pages : (flash : FlashConfig) (older part : List Note) → AllCalm part → SamePages flash older (past older part)
calm_pages flash older part h = record { failed = λ r. calm_failed flash r older part h; written = λ r. calm_written flash r older part h }

-- a page was read, or one of a bucket was written
pub read_pages : (flash : FlashConfig) (older : List Note) (page : ℕ) (result : IoResult) → SamePages flash older (result_note (engine.Read page) result ∷ older)
read_pages flash older page (engine.Page bytes) = record { failed = λ r. refl; written = λ r. refl }
read_pages flash older page engine.Written = record { failed = λ r. refl; written = λ r. refl }
read_pages flash older page engine.Failed = record { failed = λ r. refl; written = λ r. refl }

bucket_pages : (flash : FlashConfig) (older : List Note) (page : ℕ) (bytes : List ℕ) (result : IoResult) → page < flash.buckets → SamePages flash older (result_note (engine.Write page bytes) result ∷ older)
bucket_pages flash older page bytes result lt = by result
  where
    apart : (r : ℕ) → is_page_of flash r page ≡ false
    apart r = rw (lt-leb flash.buckets page lt) refl

    by : (result : IoResult) → SamePages flash older (result_note (engine.Write page bytes) result ∷ older)
    by (engine.Page read) = record { failed = λ r. rw (apart r) refl; written = λ r. refl }
    by engine.Written = record { failed = λ r. refl; written = λ r. rw (apart r) (omega arith) }
    by engine.Failed = record { failed = λ r. rw (apart r) refl; written = λ r. refl }

pub small_pages : (flash : FlashConfig) (older : List Note) (pair : Pair) (job : bighash.Job) (result : IoResult) → job.bucket < flash.buckets → SamePages flash older (result_note (small_order pair job) result ∷ older)
small_pages flash older pair job result lt = go job.phase
  where
    go : (phase : bighash.Phase) → SamePages flash older (result_note (small_order pair (record job { phase = phase })) result ∷ older)
    go bighash.Reading = read_pages flash older job.bucket result
    go (bighash.Writing es losses) = bucket_pages flash older job.bucket _ result lt

-- ---- what the notes tell of regions

pub same_accounts : (flash : FlashConfig) (old new : List Note) (s : Block) → SamePages flash old new → Accounted flash old s → Accounted flash new s
same_accounts flash old new s p a = record {
  listed = a.listed;
  drained = λ r d. ap (λ b. is_in r s.flushed || b) (p.failed r) ∙ a.drained r d;
  written = λ r c. p.written r ∙ a.written r c;
}

pub calm_accounts : (flash : FlashConfig) (older part : List Note) (s : Block) → AllCalm part → Accounted flash older s → Accounted flash (past older part) s
calm_accounts flash older part s calm a = same_accounts flash older (past older part) s (calm_pages flash older part calm) a

still_block : (flash : FlashConfig) (older : List Note) (old new : Nvm) → StillNvm old new → Accounted flash older old.pair.large → Accounted flash older new.pair.large
still_block flash older old new s a =
    accounted (same_regions old.pair.large new.pair.large s.regions s.current s.sealed s.flushed a.listed)
    (untouched_counts flash older old.pair.large new.pair.large (record { regions = s.regions; current = s.current; flushed = s.flushed }) (counted a))

pub still_accounts : (flash : FlashConfig) (older part : List Note) (old new : Nvm) → AllCalm part → StillNvm old new → Accounted flash older old.pair.large → Accounted flash (past older part) new.pair.large
still_accounts flash older part old new calm s a = calm_accounts flash older part new.pair.large calm (still_block flash older old new s a)

-- what holds from an outcome on
pub accounts_behind : (flash : FlashConfig) (older : List Note) (outcome : Outcome) (nvm : Nvm) (change : Changed) → StillBehind outcome nvm change → Accounted flash (opened_on outcome.opened older) nvm.pair.large → Accounted flash (past older change.part) change.nvm.pair.large
accounts_behind flash older outcome nvm change b a =
    subst (λ (history : List Note). Accounted flash history change.nvm.pair.large) (sym (ap (past older) b.told ∙ first outcome.opened))
    (still_accounts flash (opened_on outcome.opened older) b.rest nvm change.nvm b.none b.flash a)
  where
    first : (o : Option ℕ) → past older (region_note Opened o ++ b.rest) ≡ past (opened_on o older) b.rest
    first None = refl
    first (Some r) = refl
