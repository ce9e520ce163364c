-- A cache that was kept begins to come back, behind what waits for flash.
use Rattle.std.proofs.Common.{◌≡◌, ℕ, ◌≤◌, true, List, [], Option, Some, None, map, refl, sym, subst, arith, IfSome}
use Rattle.std.specs.BTreeSet.{BTreeSet, IsEmpty}
use Rattle.hc_types.specs.Tally.{count}
use Rattle.hc_types.specs.Config.{Config}
use Rattle.hc_memory.specs.Memory.{Memory, empty_pool}
use Rattle.hc_machine.specs.Nvm.{Nvm, is_put_of, is_stone_of}
use Rattle.hc_machine.specs.Calls.{queue_of}
use Rattle.hc_invariant.specs.LargeAlone.{LargeAlone}
use Rattle.hc_invariant.specs.Structure.{stones_of, flash_of}
use Rattle.hc_nvm.specs.Resting.{rests, AllPutsFit, AllStonesFit}
use Rattle.hc_state.specs.Resting.{flash_rests, of_parts, IsCache}
use Rattle.hc_state.specs.Numbers.{AreNumbers}
use Rattle.hc_state.proofs.Numbered.{no-numbers}
use Rattle.hc_state.proofs.Once.{puts-once, stones-once}
use Rattle.hc_state.proofs.Rebegun.{begun-is}

flash_rest : (nvm : Option Nvm) → IfSome nvm (λ n. rests n ≡ true) → flash_rests nvm ≡ true
flash_rest None h = refl
flash_rest (Some nvm) h = h

put_once : (nvm : Option Nvm) → IfSome nvm (λ n. AllPutsFit n.pair.small.flash [] n.queue × AllStonesFit [] n.tombstones) → (key : List ℕ) → count (is_put_of key) (queue_of nvm) ≤ 1
put_once None h key = omega arith
put_once (Some nvm) h key = let one = puts-once nvm.pair.small.flash key [] nvm.queue h.0 (omega arith) in omega (arith, one)

stone_once : (nvm : Option Nvm) → IfSome nvm (λ n. AllPutsFit n.pair.small.flash [] n.queue × AllStonesFit [] n.tombstones) → (key : List ℕ) → count (is_stone_of key) (stones_of nvm) ≤ 1
stone_once None h key = omega arith
stone_once (Some nvm) h key = let one = stones-once key [] nvm.tombstones h.1 (omega arith) in omega (arith, one)

alone_by : (nvm : Option Nvm) → IfSome nvm (λ n. LargeAlone n.pair.small.flash n.pair.large) → (n : Nvm) → nvm ≡ Some n → LargeAlone n.pair.small.flash n.pair.large
alone_by None h n e = absurd cc
alone_by (Some nvm) h n e = let same : nvm ≡ n = cc in subst (λ (x : Nvm). LargeAlone x.pair.small.flash x.pair.large) same h

pub begins-well : (config : Config) (made now calls : ℕ) (nvm : Option Nvm) (pools : Memory) (numbers : BTreeSet ℕ) → pools ≡ record { flash = config.flash; pools = map empty_pool config.pools; charges = []; made = made } → IsEmpty numbers → config.flash ≡ flash_of nvm
    → IfSome nvm (λ n. rests n ≡ true) → IfSome nvm (λ n. LargeAlone n.pair.small.flash n.pair.large) → IfSome nvm (λ n. AllPutsFit n.pair.small.flash [] n.queue × AllStonesFit [] n.tombstones)
    → IsCache (of_parts config pools now calls nvm) × AreNumbers numbers pools.pools
begins-well config made now calls nvm pools numbers is empty flash rest alone once =
    subst (λ (m : Memory). IsCache (of_parts config m now calls nvm) × AreNumbers numbers m.pools) (sym is)
    (begun-is config made now calls nvm flash (flash_rest nvm rest) (put_once nvm once) (stone_once nvm once) (alone_by nvm alone), no-numbers numbers config.pools empty)
