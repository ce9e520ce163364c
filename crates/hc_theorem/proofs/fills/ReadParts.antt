-- What the end of a get in the large engine tells, and what it leaves of the rest.
use Rattle.std.proofs.Common.{◌≡◌, ℕ, ◌+◌, ◌-◌, ◌==◌, Bool, true, false, not, List, [], ◌∷◌, ◌++◌, map, filter, Option, Some, None, refl, ap, ◌∙◌}
use Rattle.std.specs.Prelude.{if◌then◌else◌, nat_lt, ◌&&◌}
use Rattle.hc_types.specs.Loss.{Fault}
use Rattle.hc_types.specs.declared.config.FlashConfig.{FlashConfig}
use Rattle.hc_engines.specs.Engine as engine
use Rattle.hc_engines.specs.large.Region.{Region, clean_region, is_draining, region_at}
use Rattle.hc_types.specs.Places.{kept_of}
use Rattle.hc_types.specs.FlashEntry.{FlashEntry}
use Rattle.hc_engines.specs.Engine.{Failed, nothing}
use Rattle.hc_engines.specs.large.Entries.{entry_in}
use Rattle.hc_engines.specs.large.Index.{place_at, is_place}
use Rattle.hc_engines.specs.large.Block as block
use Rattle.hc_engines.specs.large.Block.{Block, end_job}
use Rattle.hc_engines.specs.large.Steps as steps
use Rattle.hc_engines.specs.large.Numbers.{minus}
use Rattle.hc_history.specs.Note.{Lose, Raised}
use Rattle.hc_machine.specs.Nvm.{Nvm, Tombstone, Filling}
use Rattle.hc_machine.specs.Leaving.{Changed, changed, behind, and_then}
use Rattle.hc_machine.specs.Takes.{raise, ends_with, closing_notes, settled}
use Rattle.hc_proof.specs.books.RegionBooks.{told}
use Rattle.hc_proof.proofs.jobs.ToldParts.{Plain, holds_is}

-- ---- a get is over

pub none_raised_get : (stones : List Tombstone) → filter (ends_with Filling) stones ≡ []
none_raised_get [] = refl
none_raised_get (stone ∷ stones) = none_raised_get stones

pub all_stand_get : (stones : List Tombstone) → filter (λ stone. not (ends_with Filling stone)) stones ≡ stones
all_stand_get [] = refl
all_stand_get (stone ∷ stones) = ap (λ rest. stone ∷ rest) (all_stand_get stones)

pub raise_is_get : (nvm : Nvm) → raise (ends_with Filling) nvm ≡ changed [] nvm
raise_is_get nvm = λ i. record { nvm = record nvm { tombstones = all_stand_get nvm.tombstones i }; part = map (λ (stone : Tombstone). Raised stone.key) (none_raised_get nvm.tombstones i) }

pub settled_get : (outcome : engine.Outcome) (nvm : Nvm) → Plain outcome → settled Filling outcome nvm ≡ changed (told outcome) nvm
settled_get outcome nvm p =
    ap (λ (first : Changed). and_then first (λ nvm. and_then (raise (ends_with Filling) nvm) (changed (closing_notes Filling outcome)))) (holds_is outcome nvm p)
    ∙ ap (λ (second : Changed). behind (map (λ (loss : engine.Loss). Lose loss.scope loss.cause) outcome.losses) (and_then second (changed (closing_notes Filling outcome)))) (raise_is_get nvm)

-- a read of the large engine: it goes on, or ends, and lets its region go
let_go_plain : (r : ℕ) (region : Region) (moved : block.Moved) → Plain moved.outcome → Plain (steps.let_go_of r region moved).outcome
let_go_plain r region moved p = go (is_draining region.status && (region.pins == 1))
  where
    go : (t : Bool) → Plain (if t then record moved { state = record (block.with_region r clean_region moved.state) { flushed = minus r moved.state.flushed }; outcome = record moved.outcome { cleared = Some r } }
        else record moved { state = block.with_region r (record region { pins = region.pins - 1 }) moved.state }).outcome
    go true = record { cause = p.cause; hashes = p.hashes; losses = p.losses; opened = p.opened }
    go false = p

went_plain : (r : ℕ) (moved : block.Moved) → Plain moved.outcome → Plain (steps.let_go r moved).outcome
went_plain r moved p = let_go_plain r (region_at r moved.state.regions) moved p

none_lost : (s : Block) (answer : engine.Answer) → Plain (block.finished s (record nothing { answer = answer })).outcome
none_lost s answer = record { cause = Fault; hashes = []; losses = refl; opened = refl }

answered_plain : (flash : FlashConfig) (reading : block.Reading) (s : Block) → Plain (steps.answered flash reading s).outcome
answered_plain flash reading s = go (is_place (place_at (kept_of flash.bits reading.key) s.index) reading.place)
  where
    by : (o : Option FlashEntry) → Plain (steps.answer_of (kept_of flash.bits reading.key) reading.key s o).outcome
    by None = record { cause = Fault; hashes = kept_of flash.bits reading.key ∷ []; losses = refl; opened = refl }
    by (Some entry) = none_lost s (steps.own_entry reading.key entry)

    go : (t : Bool) → Plain (if t then steps.answer_of (kept_of flash.bits reading.key) reading.key s (entry_in (steps.read_bytes flash reading)) else steps.absent s).outcome
    go true = by (entry_in (steps.read_bytes flash reading))
    go false = none_lost s engine.Absent

pub read_plain : (flash : FlashConfig) (number : ℕ) (reading : block.Reading) (bytes : List ℕ) (s : Block) → Plain (steps.resume flash number (block.Getting reading) (engine.Page bytes) s).outcome
read_plain flash number reading bytes s = go (nat_lt (reading.next + 1) reading.until)
  where
    more : block.Reading
    more = record reading { got = reading.got ++ bytes; next = reading.next + 1 }

    go : (t : Bool) → Plain (if t then steps.read_next flash number (record reading { got = reading.got ++ bytes; next = reading.next + 1 }) (end_job number s) else steps.let_go reading.place.region (steps.answered flash (record reading { got = reading.got ++ bytes; next = reading.next + 1 }) (end_job number s))).outcome
    go true = record { cause = Fault; hashes = []; losses = refl; opened = refl }
    go false = went_plain reading.place.region (steps.answered flash (record reading { got = reading.got ++ bytes; next = reading.next + 1 }) (end_job number s)) (answered_plain flash (record reading { got = reading.got ++ bytes; next = reading.next + 1 }) (end_job number s))

pub failed_read_plain : (flash : FlashConfig) (number : ℕ) (reading : block.Reading) (s : Block) → Plain (steps.resume flash number (block.Getting reading) Failed s).outcome
failed_read_plain flash number reading s = went_plain reading.place.region (steps.failed_read flash reading (end_job number s)) (go (is_place (place_at (kept_of flash.bits reading.key) s.index) reading.place))
  where
    go : (t : Bool) → Plain (if t then steps.unreadable (kept_of flash.bits reading.key) (end_job number s) else steps.absent (end_job number s)).outcome
    go true = record { cause = Fault; hashes = kept_of flash.bits reading.key ∷ []; losses = refl; opened = refl }
    go false = none_lost (end_job number s) engine.Absent
