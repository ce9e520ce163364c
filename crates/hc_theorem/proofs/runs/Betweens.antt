-- What is true between two steps.
use Rattle.std.proofs.Common.{◌≡◌, ◌≢◌, ℕ, Bool, true, false, List, [], ◌∷◌, Option, Some, None, refl, ap, sym, ◌∙◌, subst, arith}
use Rattle.std.specs.Prelude.{if◌then◌else◌, is_some, reverse}
use Rattle.hc_types.specs.declared.config.FlashConfig.{FlashConfig}
use Rattle.hc_engines.specs.Engine.{Order, Read, Write, Pages}
use Rattle.hc_engines.specs.large.Region.{region_at, is_clean}
use Rattle.hc_engines.proofs.large.Regions.{lowest_is}
use Rattle.hc_engines.proofs.large.Flushes.{not_both}
use Rattle.hc_engines.proofs.large.GetStays.{read_unclean}
use Rattle.hc_memory.specs.Memory.{Memory, linked_at}
use Rattle.hc_memory.proofs.Keyed.{same_bytes}
use Rattle.hc_history.specs.Note.{Note}
use Rattle.hc_history.specs.Books.{waiting, buried, is_among}
use Rattle.hc_history.specs.Pages.{bytes_at}
use Rattle.hc_history.specs.Lawful.{past}
use Rattle.hc_machine.specs.Nvm.{Nvm, Fill, is_fill_of, fill_at, put_at, is_buried}
use Rattle.hc_machine.specs.World.{Result, order_in}
use Rattle.hc_machine.specs.Calls.{waiting_at, buried_at}
use Rattle.hc_invariant.specs.Jobs.{AllFill}
use Rattle.hc_invariant.specs.Good.{FlashPart, fills_of, pages_by, pages_behind, AllResult}
use Rattle.hc_invariant.proofs.Frames.{waits-is}
use Rattle.hc_proof.specs.frames.Midst.{AllWishes}
use Rattle.hc_proof.proofs.frames.BetweenSteps.{wishes_of}
use Rattle.hc_follows.specs.Idle.{page_of}
use Rattle.hc_theorem.specs.runs.Alone.{IsWrite, Alone}
use Rattle.hc_theorem.proofs.runs.Devices.{some_order, untouched}
use Rattle.hc_theorem.proofs.runs.WritesAlone.{orders_alone}
use Rattle.hc_theorem.proofs.runs.Known.{books_known, unwritten}
use Rattle.hc_theorem.specs.runs.Between.{ReadsKeepRegions, queued_keys, RunsAreBetween}

-- ---- fills

apart_in : (pages : Pages) (memory : Memory) (nvm : Nvm) (key : List ℕ) (fills : List Fill) → AllFill pages memory nvm fills → is_some (fill_at key fills) ≡ true → (linked_at key memory.pools ≡ None) × (put_at key nvm.queue ≡ None) × (is_buried nvm key ≡ false)
apart_in pages memory nvm key [] all h = absurd cc
apart_in pages memory nvm key (fill ∷ fills) all h = go (is_fill_of key fill) refl h (apart_in pages memory nvm key fills all.1)
  where
    go : (t : Bool) → is_fill_of key fill ≡ t → is_some (if t then Some fill else fill_at key fills) ≡ true → (is_some (fill_at key fills) ≡ true → (linked_at key memory.pools ≡ None) × (put_at key nvm.queue ≡ None) × (is_buried nvm key ≡ false))
        → (linked_at key memory.pools ≡ None) × (put_at key nvm.queue ≡ None) × (is_buried nvm key ≡ false)
    go true e h more =
        let same : fill.key ≡ key = same_bytes fill.key key e in
        subst (λ (k : List ℕ). (linked_at k memory.pools ≡ None) × (put_at k nvm.queue ≡ None) × (is_buried nvm k ≡ false)) same (all.0.unlinked, all.0.unqueued, all.0.unburied)
    go false e h more = more h

-- ---- the device

written_at : (nvm : Option Nvm) (n : ℕ) (order : Order) (page : ℕ) → ((m : ℕ) (bytes : List ℕ) → order_in nvm m ≢ Some (Write page bytes)) → order_in nvm n ≡ Some order → IsWrite order → page ≢ page_of order
written_at nvm n (Read q) page none at w same = w
written_at nvm n (Write q bytes) page none at w same = none n bytes (at ∙ ap (λ x. Some (Write x bytes)) (sym same))

agrees : (nvm : Option Nvm) (pages base : Pages) (rs : List Result) (page : ℕ) → ((m : ℕ) (bytes : List ℕ) → order_in nvm m ≢ Some (Write page bytes)) → AllResult pages nvm rs → pages_behind nvm rs base page ≡ base page
agrees nvm pages base [] page none h = refl
agrees nvm pages base (r ∷ rs) page none h =
    let its = some_order pages (order_in nvm r.job) r.result h.0 in
    ap (λ (o : Option Order). pages_by o r.result (pages_behind nvm rs base) page) its.1
    ∙ untouched its.0 r.result (pages_behind nvm rs base) page (λ w. written_at nvm r.job its.0 page none its.1 w)
    ∙ agrees nvm pages base rs page none h.2

-- ---- all of it

record Parts (older : List Note) (memory : Memory) (nvm : Option Nvm) : Type 0 where
  waits : (key : List ℕ) → is_among key (waiting older) ≡ is_some (waiting_at nvm key)
  stones : (key : List ℕ) → is_among key (buried older) ≡ buried_at nvm key
  queue : queued_keys nvm ≡ reverse (waiting older)
  fills : (key : List ℕ) → is_some (fill_at key (fills_of nvm)) ≡ true → (linked_at key memory.pools ≡ None) × (waiting_at nvm key ≡ None) × (buried_at nvm key ≡ false)
  adds : AllWishes memory (fills_of nvm)
  alone : Alone nvm
  reads : ReadsKeepRegions nvm

parts_of : (flash : Option FlashConfig) (older : List Note) (memory : Memory) (nvm : Option Nvm) → FlashPart flash older memory nvm → Parts older memory nvm
parts_of None older memory None f = record { waits = λ key. ap (is_among key) f.no_waiting; stones = λ key. ap (is_among key) f.no_buried; queue = sym (ap (λ (keys : List (List ℕ)). reverse keys) f.no_waiting); fills = λ key h. absurd cc; adds = tt; alone = λ n m write other o at there w. absurd cc; reads = tt }
parts_of None older memory (Some nvm) f = absurd f
parts_of (Some flash) older memory None f = absurd f
parts_of (Some flash) older memory (Some nvm) f = record {
  waits = λ key. waits-is older nvm key f.waits;
  stones = f.waits.buried;
  queue = f.waits.queue;
  fills = λ key h. apart_in (bytes_at older) memory nvm key nvm.fills f.fills.each h;
  adds = wishes_of (bytes_at older) memory nvm nvm.fills f.fills.each;
  alone = λ n m write other o at there w. orders_alone flash older nvm f.engines f.jobs n m write other o at there w;
  reads = λ n r reading w e same.
      let low = lowest_is nvm.pair.large.regions 0 r e in
      let here : low.0 ≡ reading.place.region = omega (arith, low.1) in
      not_both (is_clean (region_at reading.place.region nvm.pair.large.regions).status) (rw here at low.2.clean) (read_unclean flash n reading nvm.pair.large f.engines.large_sound w);
}

pub runs_are_between : RunsAreBetween
runs_are_between config log world r =
    let p = parts_of config.flash (past [] log) world.cache.memory world.cache.nvm r.good.agrees.flash in
    let device : (page : ℕ) → ((n : ℕ) (bytes : List ℕ) → order_in world.cache.nvm n ≢ Some (Write page bytes)) → world.pages page ≡ bytes_at (past [] log) page =
    λ page none. r.device.pages page ∙ agrees world.cache.nvm (bytes_at (past [] log)) (bytes_at (past [] log)) world.results page none r.device.results in
    record {
      placed = r.good.agrees.placed;
      waits = p.waits;
      stones = p.stones;
      queue = p.queue;
      charges = r.good.agrees.memory.charges;
      fills = p.fills;
      fresh = r.good.fresh;
      adds = p.adds;
      alone = p.alone;
      reads = p.reads;
      device = device;
      known = λ n page h.
          let told = books_known config.flash (past [] log) world.cache.memory world.cache.nvm n page r.good.agrees.flash h in
          (told.0, device page (unwritten world.cache.nvm n page p.alone h) ∙ told.1);
    }
