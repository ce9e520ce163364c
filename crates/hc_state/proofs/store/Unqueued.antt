-- What a plan serves stays so while the key's put leaves, and what is kept of the log stays so.
use Rattle.std.proofs.Common.{◌≡◌, ℕ, List, refl, ap, ◌∙◌, sym, subst}
use Rattle.hc_history.specs.Note.{Note}
use Rattle.hc_history.specs.Told.{Heard, Nothing, Log, Counts, Sums, told_more, is_log}
use Rattle.hc_machine.specs.Cache.{Cache, Told}
use Rattle.hc_nvm.specs.declared.outdating.Outdating.{Outdating}
use Rattle.hc_state.specs.store.Clear.{ServesIn}
use Rattle.hc_state.specs.Whole.{Whole, Costs, Does}

log-stays : (heard : Heard) (part : List Note) → is_log (told_more heard part) ≡ is_log heard
log-stays Nothing part = refl
log-stays (Log log) part = refl
log-stays (Counts counts losses) part = refl
log-stays (Sums counts losses) part = refl

-- whether notes are kept doesn't change
pub does-log : (told : Told) (cost : Costs) (old new : Whole) → Does told cost old new → is_log new.log ≡ is_log old.log
does-log told cost old new does = ap is_log does.log ∙ log-stays old.log told.part

-- so it does after a part that left the log kept as it was, and the cache like this
pub serves-then : {A : Type 0} (key : List ℕ) (plan : Outdating A) (old new : Whole) (cache : Cache) → is_log new.log ≡ is_log old.log → new.cache ≡ cache → ServesIn (is_log old.log) key cache.nvm plan → ServesIn (is_log new.log) key new.cache.nvm plan
serves-then key plan old new cache log is h = subst (λ b. ServesIn b key new.cache.nvm plan) (sym log) (subst (λ (c : Cache). ServesIn (is_log old.log) key c.nvm plan) (sym is) h)
