-- The key's fill ends, behind an insert, an add or a remove of the key: its calls are served.
use Rattle.std.proofs.Common.{◌≡◌, ℕ, ◌≤◌, Bool, true, false, List, ◌++◌, length, Option, Some, None, refl, sym, ◌∙◌, arith, subst}
use Rattle.hc_types.specs.Tally.{count}
use Rattle.hc_types.specs.Config.{Config}
use Rattle.hc_types.specs.declared.config.FlashConfig.{FlashConfig}
use Rattle.hc_types.specs.FlashEntry.{FlashEntry}
use Rattle.hc_memory.specs.Memory.{Memory}
use Rattle.hc_memory.proofs.Keyed.{same_bytes}
use Rattle.hc_machine.specs.items.Items.{items_of}
use Rattle.hc_history.specs.Note.{Note}
use Rattle.hc_machine.specs.Nvm.{Nvm, Fill, fill_at, is_fill_of, without_fill, adds}
use Rattle.hc_machine.specs.Cache.{Cache, Owed, Told, with_nvm}
use Rattle.hc_machine.specs.Waiting.{serve_all, serve_fill, end_fill_of}
use Rattle.hc_invariant.specs.Standing.{PlacedAt}
use Rattle.hc_invariant.specs.Tells.{waiters_of}
use Rattle.hc_invariant.specs.Good.{AllSized}
use Rattle.hc_proof.specs.frames.Midst.{FlashMidst, AllWishes, none_moves, only}
use Rattle.hc_proof.specs.frames.Rest.{Rest}
use Rattle.hc_proof.specs.calls.Planting.{PlantKeeps}
use Rattle.hc_proof.specs.calls.Serving.{IsThere, Served, ServeAllKeeps, Ending, EndFillKeeps}
use Rattle.hc_proof.proofs.frames.ByNumber.{found-passes}
use Rattle.hc_proof.proofs.calls.CallBooks.{left, left_counts}
use Rattle.hc_proof.proofs.frames.Fills.{fill-gone, wishes_at, sized_at, fill_leaves, rest_stands}
use Rattle.hc_proof.proofs.calls.Serving.{serve_all_keeps}

-- what the key's fill has, of all that is said of the fills
record FillParts (memory : Memory) (key : List ℕ) (nvm : Nvm) : Type 0 where
  one : (k : List ℕ) → count (is_fill_of k) nvm.fills ≤ 1
  one_add : (n : ℕ) → count (adds n) (waiters_of nvm.fills) ≤ 1
  wishes : AllWishes memory nvm.fills
  sized : AllSized (length memory.pools) (waiters_of nvm.fills)

fill_parts : (flash : Option FlashConfig) (older : List Note) (memory : Memory) (nvm : Nvm) (key : List ℕ) (moves : List ℕ → Bool) → FlashMidst flash older memory (Some nvm) moves → FillParts memory key nvm
fill_parts None older memory nvm key moves f = absurd f
fill_parts (Some flash) older memory nvm key moves f = record { one = f.fills.one; one_add = f.fills.one_add; wishes = f.fills.wishes; sized = f.adds }

leaves_by : (flash : Option FlashConfig) (older : List Note) (memory : Memory) (nvm : Nvm) (key : List ℕ) → FlashMidst flash older memory (Some nvm) (only key) → FlashMidst flash older memory (Some (record nvm { fills = without_fill key nvm.fills })) none_moves
leaves_by None older memory nvm key f = absurd f
leaves_by (Some flash) older memory nvm key f = fill_leaves flash older memory nvm key f

-- without the key's fill nothing is on its way
leaves_rest : (config : Config) (older : List Note) (cache : Cache) (nvm : Nvm) (key : List ℕ) → Rest config older (with_nvm nvm cache) (items_of cache.memory.pools) (only key) → PlacedAt config.flash older (with_nvm nvm cache) key
    → Rest config older (with_nvm (record nvm { fills = without_fill key nvm.fills }) cache) (items_of cache.memory.pools) none_moves
leaves_rest config older cache nvm key r here = record {
  own = r.own;
  sizes = r.sizes;
  flash_is = r.flash_is;
  sound = r.sound;
  charges = r.charges;
  placed = λ k still. each k (only key k) refl;
  sized = r.sized;
  clock = r.clock;
  flash = leaves_by config.flash older cache.memory nvm key r.flash;
}
  where
    each : (k : List ℕ) (b : Bool) → only key k ≡ b → PlacedAt config.flash older (with_nvm nvm cache) k
    each k true e = subst (λ (x : List ℕ). PlacedAt config.flash older (with_nvm nvm cache) x) (sym (same_bytes k key e)) here
    each k false e = r.placed k e

module _ (serves : ServeAllKeeps) (config : Config) (older : List Note) (cache : Cache) (key : List ℕ) (there : Option FlashEntry) (more : List Owed) where
  for_before : {before left : Cache} {told : Told} → Served config older more left told → left.calls ≡ before.calls → Served config older more before told
  for_before s e = record { lawful = s.lawful; rest = s.rest; calls = s.calls; number = s.number ∙ e }

  by_fill : (nvm : Nvm) (o : Option Fill) → fill_at key nvm.fills ≡ o → Ending config older (with_nvm nvm cache) key more → IsThere config older (with_nvm nvm cache) key there
      → Served config older more (with_nvm nvm cache) (serve_fill o nvm there (with_nvm nvm cache))
  by_fill nvm None e s t = record { lawful = λ tail. tt; rest = rest_stands config older (with_nvm nvm cache) (items_of cache.memory.pools) key s.rest s.placed e; calls = s.calls; number = refl }
  by_fill nvm (Some fill) e s t =
      let its : fill.key ≡ key = same_bytes fill.key key (found-passes (is_fill_of key) nvm.fills fill e) in
      let parts = fill_parts config.flash older cache.memory nvm key (only key) s.rest.flash in
      let left_nvm : Nvm = record nvm { fills = without_fill key nvm.fills } in
      subst (λ (k : List ℕ). Served config older more (with_nvm nvm cache) (serve_all fill.waiters there (with_nvm (record nvm { fills = without_fill k nvm.fills }) cache))) (sym its)
      (for_before (serves config older (with_nvm left_nvm cache) key fill.waiters there more (record {
        rest = leaves_rest config older cache nvm key s.rest s.placed;
        calls = left older cache.calls (cache.owed ++ more) key nvm.fills fill s.calls e (parts.one key);
        answered = s.answered;
        wishes = wishes_at cache.memory key nvm.fills fill e parts.wishes;
        sized = sized_at (length cache.memory.pools) key nvm.fills fill e parts.sized;
        one_add = λ n. omega (arith, left_counts (adds n) key nvm.fills fill e (parts.one key), parts.one_add n);
        alone = fill-gone key nvm.fills;
        unqueued = s.unqueued;
        rested = s.rested;
      }) t) refl)

  by_nvm : (o : Option Nvm) → Ending config older (record cache { nvm = o }) key more → IsThere config older (record cache { nvm = o }) key there → Served config older more (record cache { nvm = o }) (end_fill_of o key there (record cache { nvm = o }))
  by_nvm None s t = record { lawful = λ tail. tt; rest = rest_stands config older (record cache { nvm = None }) (items_of cache.memory.pools) key s.rest s.placed refl; calls = s.calls; number = refl }
  by_nvm (Some nvm) s t = by_fill nvm (fill_at key nvm.fills) refl s t

pub end_fill_by : ServeAllKeeps → EndFillKeeps
end_fill_by serves config older cache key there more s t = by_nvm serves config older cache key there more cache.nvm s t

pub end_fill_keeps : PlantKeeps → EndFillKeeps
end_fill_keeps plants = end_fill_by (serve_all_keeps plants)
