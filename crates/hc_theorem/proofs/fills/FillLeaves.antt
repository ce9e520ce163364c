-- A fill whose get is over leaves: what its end asks for holds, where the large engine was the last to be asked.
use Rattle.std.proofs.Common.{◌≡◌, inr, ℕ, Bool, true, false, List, [], ◌∷◌, length, Option, Some, None, refl, ap, sym, ◌∙◌, subst, arith}
use Rattle.std.specs.Prelude.{if◌then◌else◌, option_map}
use Rattle.hc_types.specs.Config.{Config}
use Rattle.hc_types.specs.declared.config.FlashConfig.{FlashConfig}
use Rattle.hc_types.specs.FlashEntry.{FlashEntry}
use Rattle.hc_engines.specs.large.Held as large
use Rattle.hc_engines.specs.Engine.{Pages}
use Rattle.hc_engines.specs.small.Held as small
use Rattle.hc_memory.specs.Item.{Item}
use Rattle.hc_memory.specs.Memory.{Memory, linked_at}
use Rattle.hc_memory.proofs.Keyed.{same_bytes}
use Rattle.hc_history.specs.Note.{Note}
use Rattle.hc_history.specs.Books.{Entry, entry_at}
use Rattle.hc_history.specs.Pages.{bytes_at}
use Rattle.hc_machine.specs.Nvm.{Nvm, Fill, fill_at, is_fill_of, without_fill, put_at, is_buried, adds}
use Rattle.hc_machine.specs.Cache.{Cache}
use Rattle.hc_invariant.specs.Standing.{Placed, map_of, written_by}
use Rattle.hc_invariant.specs.Jobs.{FillHolds, AllFill, AllWish}
use Rattle.hc_invariant.specs.Good.{Agrees}
use Rattle.hc_proof.specs.frames.Midst.{FlashMidst, none_moves, only}
use Rattle.hc_proof.specs.calls.Planting.{RestsFrom}
use Rattle.hc_proof.specs.evicting.Bringing.{Stands}
use Rattle.hc_theorem.specs.fills.Filling.{Ends}
use Rattle.hc_proof.proofs.calls.CallBooks.{left, left_counts}
use Rattle.hc_proof.proofs.frames.Fills.{fill-gone, sized_at, fill_leaves, flash_moves}
use Rattle.hc_proof.proofs.frames.BetweenSteps.{good_is_rest}
use Rattle.hc_theorem.proofs.fills.Refill.{refilled}
use Rattle.hc_proof.proofs.jobs.LargeFrame.{opened}

-- ---- the fill of a key

pub holds_at : (pages : Pages) (memory : Memory) (nvm : Nvm) (key : List ℕ) (fills : List Fill) (fill : Fill) → fill_at key fills ≡ Some fill → AllFill pages memory nvm fills → FillHolds pages memory nvm fill
holds_at pages memory nvm key [] fill e h = absurd cc
holds_at pages memory nvm key (x ∷ fills) fill e h = step (is_fill_of key x) e (λ f. holds_at pages memory nvm key fills fill f h.1)
  where
    step : (t : Bool) → (if t then Some x else fill_at key fills) ≡ Some fill → (fill_at key fills ≡ Some fill → FillHolds pages memory nvm fill) → FillHolds pages memory nvm fill
    step true e rest = let same : x ≡ fill = cc in subst (λ (f : Fill). FillHolds pages memory nvm f) same h.0
    step false e rest = rest e

pub key_at : (key : List ℕ) (fills : List Fill) (fill : Fill) → fill_at key fills ≡ Some fill → fill.key ≡ key
key_at key [] fill e = absurd cc
key_at key (x ∷ fills) fill e = step (is_fill_of key x) refl e (λ f. key_at key fills fill f)
  where
    step : (t : Bool) → is_fill_of key x ≡ t → (if t then Some x else fill_at key fills) ≡ Some fill → (fill_at key fills ≡ Some fill → fill.key ≡ key) → fill.key ≡ key
    step true t e rest = let same : x ≡ fill = cc in ap (λ (f : Fill). f.key) (sym same) ∙ same_bytes x.key key t
    step false t e rest = rest e

-- ---- what the map has of a key that may be in the large engine alone

map_large_alone : (i : Option Item) (q w s l : Option FlashEntry) (b : Bool) (m : Option Entry) → i ≡ None → q ≡ None → w ≡ None → b ≡ false → s ≡ None → Placed i q w b s l m → m ≡ option_map map_of l
map_large_alone i q w s None b m ei eq ew eb es p = let h : Placed None None None false None None m = rw (ei, eq, ew, eb, es) at p in h
map_large_alone i q w s (Some e) b m ei eq ew eb es p = let h : Placed None None None false None (Some e) m = rw (ei, eq, ew, eb, es) at p in h

flash_left : (flash : Option FlashConfig) (older : List Note) (memory : Memory) (nvm : Nvm) (key : List ℕ) → FlashMidst flash older memory (Some nvm) none_moves → FlashMidst flash older memory (Some (record nvm { fills = without_fill key nvm.fills })) none_moves
flash_left None older memory nvm key f = absurd f
flash_left (Some flash) older memory nvm key f = fill_leaves flash older memory nvm key (flash_moves (Some flash) older memory (Some nvm) (only key) f)

-- ---- the fill leaves

pub fill_over : (config : Config) (older : List Note) (cache : Cache) (nvm : Nvm) (key : List ℕ) (fill : Fill) (found : Option FlashEntry) → cache.nvm ≡ Some nvm → Agrees config older cache → fill_at key nvm.fills ≡ Some fill
    → written_by key nvm.pair.small.jobs ≡ None → small.held nvm.pair.small (bytes_at older) key ≡ None → found ≡ (large.held nvm.pair.small.flash (bytes_at older) nvm.pair.large key)
    → ((e : FlashEntry) → found ≡ Some e → e.key ≡ key) → RestsFrom config.flash older key
    → Ends config older (refilled (without_fill key nvm.fills) nvm cache) key found fill.waiters
fill_over config older cache nvm key fill found n g at unwritten nowhere is_large own rested =
    let o = opened config older cache nvm n g in
    let r = good_is_rest config older cache g in
    let fills = o.good.fills in
    let h = holds_at (bytes_at older) cache.memory nvm key nvm.fills fill at fills.each in
    let its = key_at key nvm.fills fill at in
    let unlinked : linked_at key cache.memory.pools ≡ None = rw its at h.unlinked in
    let unqueued : put_at key nvm.queue ≡ None = rw its at h.unqueued in
    let unburied : is_buried nvm key ≡ false = rw its at h.unburied in
    let place : Placed (linked_at key cache.memory.pools) (put_at key nvm.queue) (written_by key nvm.pair.small.jobs) (is_buried nvm key) (small.held nvm.pair.small (bytes_at older) key)
    (large.held nvm.pair.small.flash (bytes_at older) nvm.pair.large key) (entry_at config.flash older key) = rw n at (g.placed key) in
    record {
      brought = record {
        rest = record {
          own = r.own;
          sizes = r.sizes;
          flash_is = r.flash_is;
          sound = r.sound;
          charges = r.charges;
          placed = λ k here. rw n at (r.placed k refl);
          sized = r.sized;
          clock = r.clock;
          flash = flash_left config.flash older cache.memory nvm key (rw n at r.flash);
        };
        has = map_large_alone _ _ _ _ _ _ _ unlinked unqueued unwritten unburied nowhere place ∙ ap (option_map map_of) (sym is_large);
        unlinked = unlinked;
        alone = fill-gone key nvm.fills;
        stands = stands found is_large own unburied;
      };
      calls = left older cache.calls cache.owed key nvm.fills fill (rw n at g.calls) at (fills.one key);
      wishes = subst (λ (k : List ℕ). AllWish cache.memory k fill.waiters) its h.wishes;
      sized = sized_at (length cache.memory.pools) key nvm.fills fill at o.good.adds;
      one_add = λ m. omega (arith, left_counts (adds m) key nvm.fills fill at (fills.one key), fills.one_add m);
      unqueued = unqueued;
      rested = rested;
    }
  where
    stands : (o : Option FlashEntry) → o ≡ (large.held nvm.pair.small.flash (bytes_at older) nvm.pair.large key) → ((e : FlashEntry) → o ≡ Some e → e.key ≡ key) → is_buried nvm key ≡ false
        → Stands older (refilled (without_fill key nvm.fills) nvm cache) key o
    stands None e own b = tt
    stands (Some x) e own b = (own x refl, b, inr (sym e))
