-- What losses leave of memory, and the charges of a longer history.
use Rattle.std.proofs.Common.{◌≡◌, List, ◌∙◌}
use Rattle.hc_types.specs.Config.{Config}
use Rattle.hc_memory.specs.Memory.{Memory}
use Rattle.hc_engines.specs.Engine.{Loss}
use Rattle.hc_history.specs.Note.{Note}
use Rattle.hc_history.specs.Books.{charges}
use Rattle.hc_invariant.specs.Tells.{MemoryTells}
use Rattle.hc_proof.specs.losses.Losses.{unmarked}
use Rattle.hc_proof.proofs.losses.CleanMarks.{memory_kept}

pub memory-lost : (config : Config) (older : List Note) (memory : Memory) (losses : List Loss) → MemoryTells config older memory → MemoryTells config older (unmarked losses memory)
memory-lost config older memory losses t =
    let k = memory_kept losses memory in
    record { sizes = k.sizes ∙ t.sizes; flash = k.flash ∙ t.flash; sound = k.sound t.sound; charges = k.tells older t.charges }

pub memory-charged : (config : Config) (older newer : List Note) (memory : Memory) → charges newer ≡ charges older → MemoryTells config older memory → MemoryTells config newer memory
memory-charged config older newer memory e t = record {
  sizes = t.sizes;
  flash = t.flash;
  sound = t.sound;
  charges = record { one_key = t.charges.one_key; one_number = t.charges.one_number; fresh = t.charges.fresh; same = λ f. rw e (t.charges.same f) };
}
