-- Between two steps the invariant is a state in the midst of one, with the pools' own items and no key on its way.
use Rattle.std.proofs.Common.{◌≡◌, List, [], ◌∷◌, Option, Some, None, refl, ap, sym, subst}
use Rattle.hc_types.specs.Config.{Config}
use Rattle.hc_types.specs.declared.config.FlashConfig.{FlashConfig}
use Rattle.hc_engines.specs.Engine.{Pages}
use Rattle.hc_memory.specs.Memory.{Memory}
use Rattle.hc_machine.specs.items.Items.{items_of}
use Rattle.hc_history.specs.Note.{Note}
use Rattle.hc_history.specs.Pages.{bytes_at}
use Rattle.hc_machine.specs.Nvm.{Nvm, Fill}
use Rattle.hc_machine.specs.Cache.{Cache}
use Rattle.hc_invariant.specs.Tells.{CallsTell}
use Rattle.hc_invariant.specs.Jobs.{AllFill}
use Rattle.hc_invariant.specs.Good.{Agrees, FlashPart, fills_of}
use Rattle.hc_proof.specs.frames.Midst.{FlashMidst, AllWishes, still, none_moves}
use Rattle.hc_proof.specs.frames.Rest.{Rest}

pub still_none : (fills : List Fill) → still none_moves fills ≡ fills
still_none [] = refl
still_none (fill ∷ fills) = ap (λ (fs : List Fill). fill ∷ fs) (still_none fills)

pub wishes_of : (pages : Pages) (memory : Memory) (nvm : Nvm) (fills : List Fill) → AllFill pages memory nvm fills → AllWishes memory fills
wishes_of pages memory nvm [] h = tt
wishes_of pages memory nvm (fill ∷ fills) h = (h.0.wishes, wishes_of pages memory nvm fills h.1)

flash_midst : (flash : Option FlashConfig) (older : List Note) (memory : Memory) (nvm : Option Nvm) → FlashPart flash older memory nvm → FlashMidst flash older memory nvm none_moves
flash_midst None older memory None g = g
flash_midst None older memory (Some nvm) g = absurd g
flash_midst (Some flash) older memory None g = absurd g
flash_midst (Some flash) older memory (Some nvm) g = record {
  engines = g.engines;
  waits = g.waits;
  jobs = g.jobs;
  fills = record {
    each = subst (AllFill (bytes_at older) memory nvm) (sym (still_none nvm.fills)) g.fills.each;
    wishes = wishes_of (bytes_at older) memory nvm nvm.fills g.fills.each;
    one = g.fills.one;
    one_each = g.fills.one_each;
    one_add = g.fills.one_add;
  };
  pools = g.pools;
  adds = g.adds;
}

flash_good : (flash : Option FlashConfig) (older : List Note) (memory : Memory) (nvm : Option Nvm) → FlashMidst flash older memory nvm none_moves → FlashPart flash older memory nvm
flash_good None older memory None m = m
flash_good None older memory (Some nvm) m = absurd m
flash_good (Some flash) older memory None m = absurd m
flash_good (Some flash) older memory (Some nvm) m = record {
  engines = m.engines;
  waits = m.waits;
  jobs = m.jobs;
  fills = record { each = subst (AllFill (bytes_at older) memory nvm) (still_none nvm.fills) m.fills.each; one = m.fills.one; one_each = m.fills.one_each; one_add = m.fills.one_add };
  pools = m.pools;
  adds = m.adds;
}

-- ---- the same, with the calls aside

pub good_is_rest : (config : Config) (older : List Note) (cache : Cache) → Agrees config older cache → Rest config older cache (items_of cache.memory.pools) none_moves
good_is_rest config older cache g = record {
  own = g.own;
  sizes = g.memory.sizes;
  flash_is = g.memory.flash;
  sound = g.memory.sound;
  charges = g.memory.charges;
  placed = λ key still. g.placed key;
  sized = g.sized;
  clock = g.clock;
  flash = flash_midst config.flash older cache.memory cache.nvm g.flash;
}

pub rest_is_good : (config : Config) (older : List Note) (cache : Cache) → Rest config older cache (items_of cache.memory.pools) none_moves → CallsTell older cache.calls cache.owed (fills_of cache.nvm) → Agrees config older cache
rest_is_good config older cache r c = record {
  own = r.own;
  memory = record { sizes = r.sizes; flash = r.flash_is; sound = r.sound; charges = r.charges };
  placed = λ key. r.placed key refl;
  sized = r.sized;
  calls = c;
  clock = r.clock;
  flash = flash_good config.flash older cache.memory cache.nvm r.flash;
}
