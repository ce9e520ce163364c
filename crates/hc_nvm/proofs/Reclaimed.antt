-- A region is given up.
use Rattle.std.proofs.Common.{◌≡◌, ℕ, ◌+◌, ◌≤◌, Bool, true, false, not, List, [], ◌∷◌, ◌++◌, length, Option, Some, None, refl, sym, ap, ◌∙◌, subst}
use Rattle.std.specs.List.{filter}
use Rattle.std.specs.Prelude.{map, if◌then◌else◌, nat_lt}
use Rattle.hc_types.specs.declared.config.FlashConfig.{FlashConfig}
use Rattle.hc_memory.specs.Memory.{Memory}
use Rattle.hc_engines.specs.Engine.{Reclaim, Order, Outcome, Next, Busy, Io, Done, nothing}
use Rattle.hc_engines.specs.large.Block as block
use Rattle.hc_engines.specs.large.Block.{Block, unmoved}
use Rattle.hc_engines.specs.large.Steps as steps
use Rattle.hc_engines.specs.large.Steps.{oldest, reclaim_of, clean_count}
use Rattle.hc_engines.specs.large.Sound.{Sound}
use Rattle.hc_engines.specs.pair.Apart.{IsApart}
use Rattle.hc_engines.specs.pair.Pair.{Pair, Moved, start, next_of}
use Rattle.hc_history.specs.Note.{Raised}
use Rattle.hc_history.specs.Told.{Heard, told_more}
use Rattle.hc_machine.specs.Cache.{unmarked_by}
use Rattle.hc_machine.specs.Leaving.{Changed, changed}
use Rattle.hc_machine.specs.Nvm.{Nvm, Tombstone, Flushing}
use Rattle.hc_machine.specs.Takes.{Reclaiming, settled, reclaim, reclaimed, loss_notes}
use Rattle.hc_nvm.specs.After.{settled_left, settled_part, standing}
use Rattle.hc_nvm.specs.Starting.{IsReclaimed}
use Rattle.hc_nvm.specs.Stock.{Kept, AllCanStart}
use Rattle.hc_nvm.proofs.Launching.{settled_is, settled_unmark}
use Rattle.hc_nvm.proofs.Numbers.{next_is_free, started_below, started_flash}
use Rattle.hc_nvm.proofs.Serving.{served_started}

none_ends : {X : Type 0} (xs : List X) → filter (λ (x : X). false) xs ≡ []
none_ends [] = refl
none_ends (x ∷ xs) = none_ends xs

all_stand : {X : Type 0} (xs : List X) → filter (λ (x : X). not false) xs ≡ xs
all_stand [] = refl
all_stand {X} (x ∷ xs) = ap (λ (ys : List X). x ∷ ys) (all_stand xs)

-- where nothing came of it, nothing is left or told otherwise
quiet_left : (flash : FlashConfig) (stones : List Tombstone) → settled_left flash Flushing nothing stones ≡ stones
quiet_left flash stones = ap (filter (λ (stone : Tombstone). not false)) (all_stand stones) ∙ all_stand stones

quiet_part : (flash : FlashConfig) (stones : List Tombstone) → settled_part flash Flushing nothing stones ≡ []
quiet_part flash stones = λ i. map (λ (stone : Tombstone). Raised stone.key) (none_ends stones i) ++ (map (λ (stone : Tombstone). Raised stone.key) (none_ends (standing (λ (stone : Tombstone). false) stones) i) ++ [])

quiet : (nvm : Nvm) → settled Flushing nothing nvm ≡ changed [] nvm
quiet nvm = settled_is Flushing nothing nvm ∙ (λ i. changed (quiet_part nvm.pair.small.flash nvm.tombstones i) (record nvm { tombstones = quiet_left nvm.pair.small.flash nvm.tombstones i }))

-- ---- the engine's step

pub record Reclaims (nvm : Nvm) (m : block.Moved) : Type 0 where
  pub over : m.order ≡ None
  pub step : reclaimed m nvm ≡ record { region = m.outcome.reclaimed; change = settled Flushing m.outcome (record nvm { pair = record nvm.pair { large = m.state } }) }

idle : (nvm : Nvm) → Reclaims nvm (unmoved nvm.pair.large)
idle nvm = record { over = refl; step = ap (λ (c : Changed). record { region = None; change = c }) (sym (quiet nvm)) }

reclaims_of : (nvm : Nvm) (o : Option ℕ) → Reclaims nvm (reclaim_of nvm.pair.large o)
reclaims_of nvm None = idle nvm
reclaims_of nvm (Some r) = record { over = refl; step = refl }

reclaims : (nvm : Nvm) → Reclaims nvm (steps.reclaim nvm.pair.small.flash nvm.pair.large)
reclaims nvm = by (nat_lt (clean_count nvm.pair.large.regions) nvm.pair.small.flash.clean)
  where
    by : (t : Bool) → Reclaims nvm (if t then reclaim_of nvm.pair.large (oldest nvm.pair.large.regions nvm.pair.large.flushed) else unmoved nvm.pair.large)
    by true = reclaims_of nvm (oldest nvm.pair.large.regions nvm.pair.large.flushed)
    by false = idle nvm

pub started_reclaim : (nvm : Nvm) (number : ℕ) (pair : Pair) (next : Next) → start number Reclaim nvm.pair ≡ record { pair = pair; next = next }
    → let m = steps.reclaim nvm.pair.small.flash nvm.pair.large in (pair ≡ record nvm.pair { large = m.state }) × (next ≡ Done m.outcome)
started_reclaim nvm number pair next e = (sym (ap (λ (m : Moved). m.pair) e), sym (ap (λ (m : Moved). m.next) e) ∙ ap (next_of (steps.reclaim nvm.pair.small.flash nvm.pair.large).outcome) (reclaims nvm).over)

done_is : (a b : Outcome) → Done a ≡ Done b → a ≡ b
done_is a b h = cc

pub not_out : (nvm : Nvm) (number : ℕ) (pair : Pair) (order : Order) (outcome : Outcome) → start number Reclaim nvm.pair ≡ record { pair = pair; next = Io order outcome } → ⊥
not_out nvm number pair order outcome e = let wrong = (started_reclaim nvm number pair (Io order outcome) e).1 in absurd cc

pub not_busy : (nvm : Nvm) (number : ℕ) (pair : Pair) → start number Reclaim nvm.pair ≡ record { pair = pair; next = Busy } → ⊥
not_busy nvm number pair e = let wrong = (started_reclaim nvm number pair Busy e).1 in absurd cc

-- what the code has of it
pub record Came (nvm : Nvm) (number : ℕ) (pair : Pair) (outcome : Outcome) (flash : FlashConfig) (new : Nvm) (region : Option ℕ) (heard middle told : Heard) (memory left : Memory) : Type 0 where
  pub started : start number Reclaim nvm.pair ≡ record { pair = pair; next = Done outcome }
  pub same_flash : flash ≡ pair.small.flash
  pub region_is : region ≡ outcome.reclaimed
  pub new_is : new ≡ record nvm { pair = pair; tombstones = settled_left flash Flushing outcome nvm.tombstones }
  pub told_before_is : middle ≡ heard
  pub told_is : told ≡ told_more middle (settled_part flash Flushing outcome nvm.tombstones)
  pub marks : left ≡ unmarked_by (loss_notes outcome.losses) memory

pub is_reclaimed : (nvm : Nvm) (number : ℕ) (pair : Pair) (outcome : Outcome) (flash : FlashConfig) (new : Nvm) (region : Option ℕ) (heard middle told : Heard) (memory left : Memory)
    → Came nvm number pair outcome flash new region heard middle told memory left → IsReclaimed (reclaim nvm) new region heard told memory left
is_reclaimed nvm number pair outcome flash new region heard middle told memory left came = record {
  region_is = came.region_is ∙ ap (λ (r : Reclaiming). r.region) whole;
  nvm_is = came.new_is ∙ (λ i. record nvm { pair = pair; tombstones = settled_left (came.same_flash i) Flushing outcome nvm.tombstones }) ∙ sym (ap (λ (c : Changed). c.nvm) change) ∙ ap (λ (r : Reclaiming). r.change.nvm) whole;
  told = came.told_is ∙ ap (λ (l : Heard). told_more l (settled_part flash Flushing outcome nvm.tombstones)) came.told_before_is ∙ (λ i. told_more heard (settled_part (came.same_flash i) Flushing outcome nvm.tombstones))
      ∙ ap (λ (c : Changed). told_more heard c.part) (sym change) ∙ ap (λ (r : Reclaiming). told_more heard r.change.part) whole;
  marks = came.marks ∙ sym (settled_unmark pair.small.flash Flushing outcome nvm.tombstones memory) ∙ ap (λ (c : Changed). unmarked_by c.part memory) (sym change) ∙ ap (λ (r : Reclaiming). unmarked_by r.change.part memory) whole;
}
  where
    m : block.Moved
    m = steps.reclaim nvm.pair.small.flash nvm.pair.large

    so : (pair ≡ record nvm.pair { large = (steps.reclaim nvm.pair.small.flash nvm.pair.large).state }) × (Done outcome ≡ Done (steps.reclaim nvm.pair.small.flash nvm.pair.large).outcome)
    so = started_reclaim nvm number pair (Done outcome) came.started

    change : settled Flushing outcome (record nvm { pair = pair }) ≡ changed (settled_part pair.small.flash Flushing outcome nvm.tombstones) (record nvm { pair = pair; tombstones = settled_left pair.small.flash Flushing outcome nvm.tombstones })
    change = settled_is Flushing outcome (record nvm { pair = pair })

    whole : record { region = outcome.reclaimed; change = settled Flushing outcome (record nvm { pair = pair }) } ≡ reclaim nvm
    whole = (λ i. record { region = (done_is outcome m.outcome so.1 i).reclaimed; change = settled Flushing (done_is outcome m.outcome so.1 i) (record nvm { pair = so.0 i }) }) ∙ sym (reclaims nvm).step

-- ---- what holds at every time

pub kept_reclaimed : (nvm : Nvm) (pair : Pair) (outcome : Outcome) (stones : List Tombstone) → Sound nvm.pair.small.flash nvm.pair.large → IsApart nvm.pair → Kept nvm
    → start (nvm.made + 1) Reclaim nvm.pair ≡ record { pair = pair; next = Done outcome } → (pair.small.flash ≡ nvm.pair.small.flash) × Kept (record nvm { pair = pair; tombstones = stones })
kept_reclaimed nvm pair outcome stones sound apart kept started =
    let same : pair.small.flash ≡ nvm.pair.small.flash = started_flash nvm.pair pair (nvm.made + 1) Reclaim (Done outcome) started in (
      same,
      record {
        below = started_below nvm.pair pair nvm.made Reclaim (Done outcome) sound apart kept.below started;
        starts = subst (λ (f : FlashConfig). AllCanStart f nvm.queue) (sym same) kept.starts;
        short = subst (λ (f : FlashConfig). length nvm.queue ≤ f.queue) (sym same) kept.short;
        numbered = kept.numbered;
        brought = kept.brought;
        served = served_started nvm.pair pair nvm.made Reclaim (Done outcome) Flushing nvm.pair.small.flash stones nvm.jobs sound (next_is_free nvm.made nvm.pair kept.below) started tt kept.numbered kept.served;
      },
    )
