-- The fills, where the large engine moved on.
use Rattle.std.proofs.Common.{◌≡◌, ℕ, ◌+◌, Bool, true, false, List, [], ◌∷◌, length, Option, Some, None, refl, sym, ◌∙◌, subst, arith}
use Rattle.std.specs.Prelude.{if◌then◌else◌}
use Rattle.hc_types.specs.Loss as loss
use Rattle.hc_types.specs.Places.{kept_of}
use Rattle.hc_types.specs.Tally.{count}
use Rattle.hc_engines.specs.Engine.{Pages}
use Rattle.hc_engines.specs.small.BigHash as bighash
use Rattle.hc_engines.specs.small.Held as small
use Rattle.hc_engines.specs.large.Index.{Place, place_at, is_place}
use Rattle.hc_engines.specs.large.Block.{Block, Reading, Work, Writing, Getting, work_of}
use Rattle.hc_engines.specs.large.Held as large
use Rattle.hc_memory.specs.Memory.{Memory, linked_at, after_unmark}
use Rattle.hc_history.specs.Note.{Note, Lose}
use Rattle.hc_machine.specs.Nvm.{Nvm, Fill, Job}
use Rattle.hc_machine.specs.Cache.{unmarked_by}
use Rattle.hc_invariant.specs.Jobs.{Brings, BringsIf, FillHolds, AllFill, small_job, large_work}
use Rattle.hc_invariant.proofs.Losses.{linked-unmarked}
use Rattle.hc_proof.proofs.frames.Unmarks.{length_unmarked, wishes_stay}

-- ---- memory, after what is told

-- what a part takes of memory is clean marks alone
pub record Unmarked (old new : Memory) : Type 0 where
  pub charges : new.charges ≡ old.charges
  pub number : length new.pools ≡ length old.pools
  pub unlinked : (key : List ℕ) → linked_at key old.pools ≡ None → linked_at key new.pools ≡ None

unmarked_same : (memory : Memory) → Unmarked memory memory
unmarked_same memory = record { charges = refl; number = refl; unlinked = λ key e. e }

unmarked_more : (a b c : Memory) → Unmarked a b → Unmarked b c → Unmarked a c
unmarked_more a b c f g = record { charges = g.charges ∙ f.charges; number = g.number ∙ f.number; unlinked = λ key e. g.unlinked key (f.unlinked key e) }

unmarked_one : (memory : Memory) (scope : loss.Scope) → Unmarked memory (after_unmark memory scope)
unmarked_one memory scope = record { charges = refl; number = length_unmarked memory.flash scope memory.pools; unlinked = λ key e. linked-unmarked memory.flash scope key memory.pools ∙ (rw e refl) }

pub unmarked_part : (part : List Note) (memory : Memory) → Unmarked memory (unmarked_by part memory)
unmarked_part [] memory = unmarked_same memory
unmarked_part (Lose scope cause ∷ part) memory = unmarked_more memory (after_unmark memory scope) (unmarked_by part (after_unmark memory scope)) (unmarked_one memory scope) (unmarked_part part (after_unmark memory scope))
unmarked_part (note ∷ part) memory = unmarked_part part memory

-- ---- the fills

-- the large engine moved on, the jobs, and the fills
abbrev pub moved_nvm : Block → List Job → ℕ → List Fill → Nvm → Nvm
moved_nvm large jobs made fills nvm = record nvm { pair = record nvm.pair { large = large }; jobs = jobs; made = made; fills = fills }

-- what the step leaves of engines and pages
pub record Leaves (nvm : Nvm) (new : Block) (pages after : Pages) (lost : ℕ → Bool) : Type 0 where
  pub small_same : (key : List ℕ) → small.held nvm.pair.small after key ≡ small.held nvm.pair.small pages key
  pub held : (key : List ℕ) → large.held nvm.pair.small.flash after new key ≡ (if lost (kept_of nvm.pair.small.flash.bits key) then None else large.held nvm.pair.small.flash pages nvm.pair.large key)
  pub index : (hash : ℕ) → place_at hash new.index ≡ (if lost hash then None else place_at hash nvm.pair.large.index)

module _ (nvm : Nvm) (new : Block) (pages after : Pages) (lost : ℕ → Bool) (l : Leaves nvm new pages after lost) (jobs : List Job) (made : ℕ) (all : List Fill) where
  still_gone : (key : List ℕ) (place : Place) (t : Bool) → lost (kept_of nvm.pair.small.flash.bits key) ≡ t
      → (is_place (place_at (kept_of nvm.pair.small.flash.bits key) nvm.pair.large.index) place ≡ false → large.held nvm.pair.small.flash pages nvm.pair.large key ≡ None)
      → is_place (place_at (kept_of nvm.pair.small.flash.bits key) new.index) place ≡ false → large.held nvm.pair.small.flash after new key ≡ None
  still_gone key place true t was now = l.held key ∙ (rw t refl)
  still_gone key place false t was now = l.held key ∙ (rw t (was (rw (l.index (kept_of nvm.pair.small.flash.bits key), t) at now)))

  -- an operation that is as it was brings what it brought
  pub brings_still : (key : List ℕ) (job : Option bighash.Job) (work : Option Work) → Brings pages nvm key job work → Brings after (moved_nvm new jobs made all nvm) key job work
  brings_still key (Some job) None h = h
  brings_still key None (Some (Getting reading)) h = (h.0, h.1, l.small_same key ∙ h.2, still_gone key reading.place (lost (kept_of nvm.pair.small.flash.bits key)) refl h.3)
  brings_still key job work h = absurd h

  -- and so does a read that goes on at its place
  pub brings_on : (key : List ℕ) (reading next : Reading) → next.key ≡ reading.key → next.place ≡ reading.place → Brings pages nvm key None (Some (Getting reading)) → Brings after (moved_nvm new jobs made all nvm) key None (Some (Getting next))
  brings_on key reading next ek ep h =
      (ek ∙ h.0, h.1, l.small_same key ∙ h.2, λ now. still_gone key reading.place (lost (kept_of nvm.pair.small.flash.bits key)) refl h.3 (rw ep at now))

  pub brings_next : (key : List ℕ) (reading next : Reading) (job : Option bighash.Job) (work now : Option Work) → job ≡ None → work ≡ Some (Getting reading) → now ≡ Some (Getting next) → next.key ≡ reading.key → next.place ≡ reading.place
      → Brings pages nvm key job work → Brings after (moved_nvm new jobs made all nvm) key job now
  brings_next key reading next job work now ej ew en ek ep h =
      let was : Brings pages nvm key None (Some (Getting reading)) = rw (ej, ew) at h in
      subst (λ (j : Option bighash.Job). Brings after (moved_nvm new jobs made all nvm) key j now) (sym ej) (subst (λ (w : Option Work). Brings after (moved_nvm new jobs made all nvm) key None w) (sym en) (brings_on key reading next ek ep was))

  -- each fill is brought by an operation that is as it was, or by one that moved on
  module _ (others : ℕ → Bool) (works : (n : ℕ) → others n ≡ true → work_of n new.jobs ≡ work_of n nvm.pair.large.jobs) (old memory : Memory) (u : Unmarked old memory) where
    brings_at : (key : List ℕ) (n : ℕ) (t : Bool) → others n ≡ t → (others n ≡ false → Brings pages nvm key (small_job nvm n) (large_work nvm n) → Brings after (moved_nvm new jobs made all nvm) key (small_job nvm n) (work_of n new.jobs))
        → Brings pages nvm key (small_job nvm n) (large_work nvm n) → Brings after (moved_nvm new jobs made all nvm) key (small_job nvm n) (work_of n new.jobs)
    brings_at key n true t moved h = subst (λ (work : Option Work). Brings after (moved_nvm new jobs made all nvm) key (small_job nvm n) work) (sym (works n t)) (brings_still key (small_job nvm n) (large_work nvm n) h)
    brings_at key n false t moved h = moved t h

    fill_stays : (fill : Fill) → BringsIf after (moved_nvm new jobs made all nvm) fill.key fill.job → FillHolds pages old nvm fill → FillHolds after memory (moved_nvm new jobs made all nvm) fill
    fill_stays fill brought h = record {
      unlinked = u.unlinked fill.key h.unlinked;
      unqueued = h.unqueued;
      unburied = h.unburied;
      wishes = wishes_stay old memory fill.key fill.waiters u.charges h.wishes;
      brought = brought;
    }

    -- all fills, where what moved on brings what it brought
    pub fills_stay : ((key : List ℕ) (n : ℕ) → others n ≡ false → Brings pages nvm key (small_job nvm n) (large_work nvm n) → Brings after (moved_nvm new jobs made all nvm) key (small_job nvm n) (work_of n new.jobs))
        → (fills : List Fill) → AllFill pages old nvm fills → AllFill after memory (moved_nvm new jobs made all nvm) fills
    fills_stay moved [] h = tt
    fills_stay moved (fill ∷ fills) h = (fill_stays fill (brings_if fill.job h.0.brought) h.0, fills_stay moved fills h.1)
      where
        brings_if : (job : Option ℕ) → BringsIf pages nvm fill.key job → BringsIf after (moved_nvm new jobs made all nvm) fill.key job
        brings_if None b = tt
        brings_if (Some n) b = brings_at fill.key n (others n) refl (moved fill.key n) b

    -- fills that no moved operation brings
    pub fills_apart : (test : Option ℕ → Bool) → ((n : ℕ) → test (Some n) ≡ false → others n ≡ true) → (fills : List Fill) → count (λ (fill : Fill). test fill.job) fills ≡ 0 → AllFill pages old nvm fills → AllFill after memory (moved_nvm new jobs made all nvm) fills
    fills_apart test tells [] none h = tt
    fills_apart test tells (fill ∷ fills) none h =
        let two = none_here (test fill.job) (count (λ (fill : Fill). test fill.job) fills) none in
        (fill_stays fill (brings_if fill.job two.0 h.0.brought) h.0, fills_apart test tells fills two.1 h.1)
      where
        not_both : (b : Bool) → b ≡ true → b ≡ false → ⊥
        not_both true h f = let k : true ≡ false = f in cc
        not_both false h f = let k : false ≡ true = h in cc

        none_here : (t : Bool) (n : ℕ) → (if t then 1 else 0) + n ≡ 0 → (t ≡ false) × (n ≡ 0)
        none_here true n e = absurd (omega arith)
        none_here false n e = (refl, omega arith)

        brings_if : (job : Option ℕ) → test job ≡ false → BringsIf pages nvm fill.key job → BringsIf after (moved_nvm new jobs made all nvm) fill.key job
        brings_if None t b = tt
        brings_if (Some n) t b = brings_at fill.key n true (tells n t) (λ f. absurd (not_both (others n) (tells n t) f)) b

-- ---- what brings nothing

-- a job that writes a region's page
pub writer_idle : (pages : Pages) (nvm : Nvm) (key : List ℕ) (r : ℕ) (bytes : List ℕ) (job : Option bighash.Job) (work : Option Work) → job ≡ None → work ≡ Some (Writing r bytes) → Brings pages nvm key job work → ⊥
writer_idle pages nvm key r bytes job work ej ew h = let none : ⊥ = (rw (ej, ew) at h) in none

-- a job that isn't there
pub nobody_idle : (pages : Pages) (nvm : Nvm) (key : List ℕ) (job : Option bighash.Job) (work : Option Work) → job ≡ None → work ≡ None → Brings pages nvm key job work → ⊥
nobody_idle pages nvm key job work ej ew h = let none : ⊥ = (rw (ej, ew) at h) in none
