-- A get is over: its fill ends, unless it was an orphan's.
use Rattle.std.proofs.Common.{◌≡◌, ℕ, List, [], ◌∷◌, ◌++◌, Option, Some, None, refl, ap, sym, ◌∙◌, subst, filter}
use Rattle.hc_types.specs.Config.{Config}
use Rattle.hc_types.specs.Loss as loss
use Rattle.hc_types.specs.Loss.{BucketFull, Fault}
use Rattle.hc_types.specs.declared.config.FlashConfig.{FlashConfig}
use Rattle.hc_engines.specs.Engine as engine
use Rattle.hc_engines.specs.Engine.{Pages, Answer, Loss}
use Rattle.hc_engines.specs.small.Held as small
use Rattle.hc_engines.specs.large.Held as large
use Rattle.hc_history.specs.Note.{Note, Lose, Written, Raised, Read, Wrote}
use Rattle.hc_history.specs.Pages.{bytes_at}
use Rattle.hc_history.specs.Regions.{put_under_way, is_put_of}
use Rattle.hc_history.specs.Lawful.{past}
use Rattle.hc_history.proofs.Appended.{Lawful-append, past-append}
use Rattle.hc_machine.specs.Nvm.{Nvm, Fill, Task, Putting, Deleting, Filling, Flushing, without_fill, fill_by}
use Rattle.hc_machine.specs.Leaving.{Changed}
use Rattle.hc_machine.specs.Takes.{Taken, Finished, takes, told_before, found_in, fill_out, finished, loss_notes, bucket_lost, raise_all, settled, holds, ends_with, written_note}
use Rattle.hc_machine.specs.Cache.{Cache, unmarked_by}
use Rattle.hc_machine.specs.Workers as workers
use Rattle.hc_invariant.specs.Standing.{first_of, written_by}
use Rattle.hc_invariant.specs.Good.{Agrees}
use Rattle.hc_invariant.specs.Laws.{Keeps}
use Rattle.hc_proof.proofs.losses.BooksPass.{books_pass, same_pages}
use Rattle.hc_theorem.specs.buckets.Small.{IsSmallNote, AllSmall}
use Rattle.hc_proof.specs.calls.Planting.{RestsFrom}
use Rattle.hc_theorem.specs.fills.Filling.{FillEnds}
use Rattle.hc_theorem.proofs.buckets.SmallBooks.{passed-part}
use Rattle.hc_theorem.proofs.buckets.Stones.{raised, bytes-raised}
use Rattle.hc_theorem.proofs.buckets.Closing.{with_both}
use Rattle.hc_theorem.proofs.buckets.Settling.{in_bucket, end_told}
use Rattle.hc_theorem.proofs.buckets.Finishing.{Over, keeps-over, calls-after, settled-is}
use Rattle.hc_theorem.proofs.buckets.FillLists.{AllKey, By, none-by, by-job}
use Rattle.hc_theorem.proofs.buckets.FillOver.{with_fills, fill_over}

-- ---- no large put is told by such notes

rested-note : (flash : FlashConfig) (older : List Note) (note : Note) → IsSmallNote flash note → put_under_way flash (note ∷ older) ≡ None
rested-note flash older (Read page result) h = refl
rested-note flash older (Wrote page bytes done) h = refl
rested-note flash older (Lose (loss.Key key) BucketFull) h = refl
rested-note flash older (Lose (loss.Bucket bucket) Fault) h = refl
rested-note flash older (Written key) h = refl
rested-note flash older (Raised key) h = refl
rested-note flash older note h = absurd h

rested-part : (flash : FlashConfig) (older part : List Note) → put_under_way flash older ≡ None → AllSmall flash part → put_under_way flash (past older part) ≡ None
rested-part flash older [] e h = e
rested-part flash older (note ∷ part) e h = rested-part flash (note ∷ older) part (rested-note flash older note h.0) h.1

pub rests : (config : Config) (flash : FlashConfig) (older part : List Note) (first : Note) (key : List ℕ) → config.flash ≡ Some flash → AllSmall flash (first ∷ part) → RestsFrom config.flash (past older (first ∷ part)) key
rests config flash older part first key on small = rw on (ap (is_put_of key) (rested-part flash (first ∷ older) part (rested-note flash older first small.0) small.1))

-- ---- no page is written behind the first note

raise-bytes : (o : Option ℕ) (nvm : Nvm) (older : List Note) → bytes_at (past older (raise_all o nvm).part) ≡ bytes_at older
raise-bytes None nvm older = refl
raise-bytes (Some bucket) nvm older = bytes-raised older (filter (in_bucket nvm bucket) nvm.tombstones)

closing-bytes : (task : Task) (older : List Note) → bytes_at (past older (written_note task ++ [])) ≡ bytes_at older
closing-bytes (Putting key) older = refl
closing-bytes (Deleting key) older = refl
closing-bytes Filling older = refl
closing-bytes Flushing older = refl

pub losses-bytes : (losses : List Loss) (older : List Note) → bytes_at (past older (loss_notes losses)) ≡ bytes_at older
losses-bytes losses older = same_pages older (past older (loss_notes losses)) (books_pass losses older)

append-bytes : (older one two : List Note) (pages : Pages) → bytes_at (past (past older one) two) ≡ pages → bytes_at (past older (one ++ two)) ≡ pages
append-bytes older one two pages h = ap bytes_at (past-append older one two) ∙ h

pub end-bytes : (task : Task) (o : Option ℕ) (nvm : Nvm) (older : List Note) → bytes_at (past older (end_told o task nvm).part) ≡ bytes_at older
end-bytes task o nvm older =
    let gone = filter (ends_with task) (raise_all o nvm).nvm.tombstones in
    append-bytes older (raise_all o nvm).part (raised gone ++ (written_note task ++ [])) (bytes_at older)
    (append-bytes (past older (raise_all o nvm).part) (raised gone) (written_note task ++ []) (bytes_at older)
    (closing-bytes task (past (past older (raise_all o nvm).part) (raised gone)) ∙ bytes-raised (past older (raise_all o nvm).part) gone ∙ raise-bytes o nvm older))

pub settled-bytes : (task : Task) (answer : Answer) (losses : List Loss) (nvm : Nvm) (older : List Note) → bytes_at (past older (settled task (engine.outcome_of answer losses) nvm).part) ≡ bytes_at older
settled-bytes task answer losses nvm older =
    ap (λ (p : List Note). bytes_at (past older p)) (settled-is task answer losses nvm)
    ∙ append-bytes older (loss_notes losses) (end_told (bucket_lost losses) task nvm).part (bytes_at older) (end-bytes task (bucket_lost losses) nvm (past older (loss_notes losses)) ∙ losses-bytes losses older)

pub holds-bytes : (answer : Answer) (losses : List Loss) (nvm : Nvm) (older : List Note) → bytes_at (past older (holds (engine.outcome_of answer losses) nvm).part) ≡ bytes_at older
holds-bytes answer losses nvm older = append-bytes older (loss_notes losses) (raise_all (bucket_lost losses) nvm).part (bytes_at older) (raise-bytes (bucket_lost losses) nvm (past older (loss_notes losses)) ∙ losses-bytes losses older)

-- ---- the fill ends

-- what is taken where a get is over
abbrev pub ended_take : Note → ℕ → Answer → Changed → Taken
ended_take first number answer change = told_before (first ∷ []) (finished Filling number answer change)

module _ (ends : FillEnds) (config : Config) (flash : FlashConfig) (older : List Note) (cache : Cache) (nvm : Nvm) (number : ℕ) (k : List ℕ) (first : Note) (change : Changed) (answer : Answer) where
  -- what was found is what stands on flash
  abbrev pub IsSource : Type 0
  IsSource = found_in answer ≡ first_of (small.held change.nvm.pair.small (bytes_at (past older (first ∷ change.part))) k) (large.held change.nvm.pair.small.flash (bytes_at (past older (first ∷ change.part))) change.nvm.pair.large k)

  pub fill_ended : config.flash ≡ Some flash → cache.nvm ≡ Some nvm → Agrees config older cache → change.nvm.fills ≡ nvm.fills → Over config flash older first cache.memory change number Filling → AllKey number k nvm.fills
      → written_by k change.nvm.pair.small.jobs ≡ None → IsSource → Keeps config older (workers.after_take (ended_take first number answer change) cache)
  fill_ended on is g fills over keys unwritten source = go (fill_by number change.nvm.fills) refl
    where
      go : (o : Option Fill) → fill_by number change.nvm.fills ≡ o → Keeps config older (workers.after_take (told_before (first ∷ []) (fill_out o answer change)) cache)
      go None p = keeps-over config flash older cache nvm (told_before (first ∷ []) (takes Finished change)) number Filling on is g refl fills (rw (← fills) (none-by number change.nvm.fills p)) (λ key. refl) over.small over.lawful over.ending
      go (Some fill) p =
          let e = over.ending in
          let memory = unmarked_by (first ∷ change.part) cache.memory in
          let part = first ∷ change.part in
          let own_keys : AllKey number k change.nvm.fills = rw fills keys in
          let by = by-job memory change.nvm number k change.nvm.fills fill p e.stand own_keys in
          let passed = passed-part flash older part over.small in
          let out = fill_over config flash (past older part) cache memory change.nvm number Filling fill (found_in answer) on g.own (rw fills (calls-after config flash older part cache nvm is over.small g)) (passed.clock ∙ g.clock) (λ key. refl) e
          (subst (λ (x : List ℕ). By memory change.nvm number x change.nvm.fills fill) (sym by.key) by) (subst (λ (x : List ℕ). AllKey number x change.nvm.fills) (sym by.key) own_keys) (rw by.key unwritten) (rw by.key source) (rests config flash older change.part first fill.key on over.small) in
          let cache1 = with_both memory (with_fills (without_fill fill.key change.nvm.fills) change.nvm) cache in
          let done = ends config (past older part) cache1 fill.key (found_in answer) fill.waiters out in
          let more = (workers.fill (Some (record { entry = found_in answer; waiters = fill.waiters })) cache1).part in
          record {
            lawful = Lawful-append config older part more over.lawful done.lawful;
            good = subst (λ (h : List Note). Agrees config h (workers.fill (Some (record { entry = found_in answer; waiters = fill.waiters })) cache1).cache) (sym (past-append older part more)) done.good;
          }
