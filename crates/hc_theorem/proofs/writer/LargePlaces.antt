-- Where keys stand after a large put.
use Rattle.std.proofs.Common.{◌≡◌, ℕ, ◌==◌, Bool, true, false, not, ◌&&◌, ◌||◌, List, [], ◌∷◌, length, Option, Some, None, refl, sym, ap, arith, ◌∙◌, subst}
use Rattle.std.specs.Prelude.{if◌then◌else◌, is_some}
use Rattle.std.specs.List.{list_any}
use Rattle.std.specs.Str.{bytes_eq}
use Rattle.std.proofs.lemmas.Bool.{eqb-true}
use Rattle.hc_types.specs.Loss as loss
use Rattle.hc_types.specs.Loss.{Collision}
use Rattle.hc_types.specs.Places.{kept_of, is_small_by}
use Rattle.hc_types.specs.declared.config.PoolSize.{PoolSize}
use Rattle.hc_types.specs.declared.config.FlashConfig.{FlashConfig}
use Rattle.hc_types.specs.FlashEntry.{FlashEntry}
use Rattle.hc_engines.specs.Engine.{Pages, Loss, is_lost, left_of}
use Rattle.hc_engines.specs.small.Held as small
use Rattle.hc_engines.specs.large.Index.{Place, place_at}
use Rattle.hc_engines.specs.large.Block.{Block}
use Rattle.hc_engines.specs.large.Held as large
use Rattle.hc_engines.specs.large.Laws.{after_put}
use Rattle.hc_memory.specs.Item.{Item}
use Rattle.hc_memory.specs.Memory.{linked_at}
use Rattle.hc_machine.specs.items.Items.{items_of}
use Rattle.hc_machine.proofs.items.Items.{bytes_eq-sym}
use Rattle.hc_machine.proofs.items.Flat.{linked-flat}
use Rattle.hc_history.specs.Note.{Note}
use Rattle.hc_history.specs.Books.{Entry, entry_at, is_held}
use Rattle.hc_history.specs.Pages.{bytes_at}
use Rattle.hc_machine.specs.Nvm.{Nvm, put_at, without_put, is_buried}
use Rattle.hc_machine.specs.Cache.{Cache, with_nvm}
use Rattle.hc_invariant.specs.Standing.{Placed, PlacedAt, written_by, written_at, small_at, large_at}
use Rattle.hc_invariant.specs.Good.{Agrees, FlashGood}
use Rattle.hc_invariant.proofs.Placing.{placed_large, placed_unplaced, queued_alone}
use Rattle.hc_invariant.proofs.Lookups.{at_key, put-other, put-gone}
use Rattle.hc_proof.specs.losses.Losses.{lost, unmarked, AllTakeOut, AllHash, IsOwn, IsLarge, Sides}
use Rattle.hc_proof.proofs.losses.EachLoss.{hash_losses_place, uncovered_stays}
use Rattle.hc_proof.proofs.losses.SideOfKey.{sides_of}
use Rattle.hc_proof.proofs.losses.LossesTell.{held_is}
use Rattle.hc_theorem.specs.writer.Parts.{conf}
use Rattle.hc_theorem.proofs.writer.LargeState.{Unqueues, with_large, charges_after, waits_after}

-- ---- what a collision takes out of the large engine

abbrev pub collision : FlashConfig → List ℕ → Loss
collision flash key = record { scope = loss.Hash (kept_of flash.bits key) (Some key); cause = Collision key }

none_left : {X : Type 0} (b : Bool) → ◌≡◌ {A = Option X} None (if b then None else None)
none_left true = refl
none_left false = refl

lost_large : (flash : FlashConfig) (key k : List ℕ) (e : FlashEntry) → e.key ≡ k → is_small_by flash e.key (length e.value) ≡ false → bytes_eq key k ≡ false → is_lost flash (collision flash key ∷ []) e ≡ (kept_of flash.bits k == kept_of flash.bits key)
lost_large flash key k e own big o =
    let apart : bytes_eq key e.key ≡ false = ap (bytes_eq key) own ∙ o in
    let hash : (kept_of flash.bits e.key == kept_of flash.bits key) ≡ (kept_of flash.bits k == kept_of flash.bits key) = ap (λ (c : List ℕ). kept_of flash.bits c == kept_of flash.bits key) own in
    by (is_small_by flash e.key (length e.value)) (kept_of flash.bits e.key == kept_of flash.bits key) (bytes_eq key e.key) big apart ∙ hash
  where
    by : (s h o : Bool) → s ≡ false → o ≡ false → ((true && ((not s && h) && not o)) || false) ≡ h
    by s h o e f = grind arith

pub collision_left : (flash : FlashConfig) (key k : List ℕ) (l : Option FlashEntry) → IsOwn k l → IsLarge flash l → bytes_eq key k ≡ false → (if kept_of flash.bits k == kept_of flash.bits key then None else l) ≡ left_of flash (collision flash key ∷ []) l
collision_left flash key k None own big o = sym (none_left (kept_of flash.bits k == kept_of flash.bits key))
collision_left flash key k (Some e) own big o = ap (λ (b : Bool). if b then None else Some e) (sym (lost_large flash key k e own big o))

-- ---- what the large engine holds under other keys

pub other_held : (flash : FlashConfig) (entry : FlashEntry) (k : List ℕ) (was : Option FlashEntry) → bytes_eq entry.key k ≡ false → after_put flash entry k was ≡ (if kept_of flash.bits k == kept_of flash.bits entry.key then None else was)
other_held flash entry k was o = rw o refl

pub no_place : (flash : FlashConfig) (pages : Pages) (s : Block) (key k : List ℕ) → place_at (kept_of flash.bits key) s.index ≡ None → (if kept_of flash.bits k == kept_of flash.bits key then None else large.held flash pages s k) ≡ large.held flash pages s k
no_place flash pages s key k none = by (kept_of flash.bits k == kept_of flash.bits key) refl
  where
    by : (b : Bool) → (kept_of flash.bits k == kept_of flash.bits key) ≡ b → (if b then None else large.held flash pages s k) ≡ large.held flash pages s k
    by true t =
        let same : kept_of flash.bits k ≡ kept_of flash.bits key = eqb-true (kept_of flash.bits k) (kept_of flash.bits key) t in
        sym (ap (λ (o : Option Place). large.read_at flash pages s k o) (ap (λ (h : ℕ). place_at h s.index) same ∙ none))
    by false t = refl

-- ---- at the key

large_there : (i i2 : Option Item) (q q2 w s l l2 : Option FlashEntry) (m m2 : Option Entry) (b : Bool) (put : FlashEntry) → q ≡ Some put → q2 ≡ None → l2 ≡ Some put → i2 ≡ i → m2 ≡ m → Placed i q w b s l m → Placed i2 q2 w b s l2 m2
large_there i i2 q q2 w s l l2 m m2 b put eq eq2 el2 ei em h =
    let before : Placed i (Some put) w b s l m = rw eq at h in
    let after : Placed i None w b s (Some put) m = placed_large i put w s l m b before in
    rw (eq2, el2, ei, em) after

pub unplaced_there : (i i2 : Option Item) (q q2 w s l : Option FlashEntry) (m m2 : Option Entry) (b : Bool) (put : FlashEntry) → q ≡ Some put → q2 ≡ None → (i ≡ None → i2 ≡ None) → (i ≡ None → m2 ≡ None) → Placed i q w b s l m → Placed i2 q2 w b s l m2
unplaced_there i i2 q q2 w s l m m2 b put eq eq2 ei em h =
    let before : Placed i (Some put) w b s l m = rw eq at h in
    let none : i ≡ None = none_of i (queued_alone i put w s l m b before).0 in
    let before2 : Placed None (Some put) w b s l m = rw none at before in
    let after : Placed None None w b s l None = placed_unplaced None put w s l m b before2 in
    rw (eq2, ei none, em none) after
  where
    none_of : (i : Option Item) → is_some i ≡ false → i ≡ None
    none_of None h = refl
    none_of (Some i) h = absurd cc

-- ---- all together

module _ (pools : List PoolSize) (flash : FlashConfig) (older after : List Note) (losses : List Loss) (cache : Cache) (nvm : Nvm) (put : FlashEntry) (new : Block) where
  abbrev newer : List Note
  newer = lost losses after

  abbrev cache_after : Cache
  cache_after = record cache { memory = unmarked losses cache.memory; nvm = Some (with_large nvm put.key new) }

  -- with the pages before it
  abbrev PlacedBy : Pages → List ℕ → Type 0
  PlacedBy pages k =
      Placed (linked_at k (unmarked losses cache.memory).pools) (put_at k (without_put put.key nvm.queue)) (written_by k nvm.pair.small.jobs) (is_buried nvm k) (small.held nvm.pair.small pages k)
      (large.held nvm.pair.small.flash pages new k) (entry_at (Some flash) newer k)

  -- the books hold a key where it has an item or waits
  pub held_after : Agrees (conf pools flash) older (with_nvm nvm cache) → Unqueues put.key older after → (k : List ℕ) → is_held after k ≡ (is_some (linked_at k cache.memory.pools) || is_some (put_at k (without_put put.key nvm.queue)))
  held_after g u k =
      held_is after (items_of cache.memory.pools) cache.memory.charges cache.memory.made (with_large nvm put.key new) k (charges_after pools flash older after losses cache nvm put new g u) (waits_after pools flash older after losses cache nvm put new g u)
      ∙ ap (λ (i : Option Item). is_some i || is_some (put_at k (without_put put.key nvm.queue))) (sym (linked-flat k cache.memory.pools))

  -- another key, where a region took the entry
  pub other_placed : Agrees (conf pools flash) older (with_nvm nvm cache) → Unqueues put.key older after → AllTakeOut losses → AllHash losses
      → ((k : List ℕ) → bytes_eq put.key k ≡ false → Sides flash k (written_at (Some nvm) k) (small_at (bytes_at older) (Some nvm) k) (large.held flash (bytes_at older) nvm.pair.large k)
      → (large.held flash (bytes_at older) new k) ≡ left_of flash losses (large.held flash (bytes_at older) nvm.pair.large k))
      → (k : List ℕ) → bytes_eq k put.key ≡ false → PlacedBy (bytes_at older) k
  other_placed g u outs hashes left k o =
      let f : FlashGood flash older cache.memory nvm = g.flash in
      let same : nvm.pair.small.flash ≡ flash = f.engines.same in
      let sides = sides_of flash older nvm k f.engines in
      let apart : bytes_eq put.key k ≡ false = bytes_eq-sym put.key k ∙ o in
      let by : (large.held nvm.pair.small.flash (bytes_at older) new k) ≡ left_of flash losses (large.held nvm.pair.small.flash (bytes_at older) nvm.pair.large k) =
      subst (λ (c : FlashConfig). (large.held c (bytes_at older) new k) ≡ left_of flash losses (large.held c (bytes_at older) nvm.pair.large k)) (sym same)
      (left k apart (subst (λ (c : FlashConfig). Sides flash k (written_at (Some nvm) k) (small_at (bytes_at older) (Some nvm) k) (large.held c (bytes_at older) nvm.pair.large k)) same sides)) in
      let before : Placed (linked_at k cache.memory.pools) (put_at k (without_put put.key nvm.queue)) (written_at (Some nvm) k) (is_buried nvm k) (small_at (bytes_at older) (Some nvm) k) (large_at (bytes_at older) (Some nvm) k) (entry_at (Some flash) after k) =
      rw (put-other put.key k nvm.queue o, u.map (Some flash) k) (g.placed k) in
      hash_losses_place flash losses after cache.memory k (put_at k (without_put put.key nvm.queue)) (written_at (Some nvm) k) (small_at (bytes_at older) (Some nvm) k) (large_at (bytes_at older) (Some nvm) k)
      (large.held nvm.pair.small.flash (bytes_at older) new k) (is_buried nvm k) g.memory.flash outs hashes (held_after g u k) sides by before

  -- the key itself: no loss covers it
  pub own_placed : Agrees (conf pools flash) older (with_nvm nvm cache) → Unqueues put.key older after → put_at put.key nvm.queue ≡ Some put → ((len : ℕ) → list_any (λ (one : Loss). loss.covers (Some flash) one.scope put.key len) losses ≡ false)
      → large.held flash (bytes_at older) new put.key ≡ Some put → PlacedBy (bytes_at older) put.key
  own_placed g u here free held =
      let f : FlashGood flash older cache.memory nvm = g.flash in
      let same : nvm.pair.small.flash ≡ flash = f.engines.same in
      let stays = uncovered_stays (Some flash) losses after cache.memory put.key g.memory.flash free in
      large_there (linked_at put.key cache.memory.pools) (linked_at put.key (unmarked losses cache.memory).pools) (put_at put.key nvm.queue) (put_at put.key (without_put put.key nvm.queue)) (written_at (Some nvm) put.key) (small_at (bytes_at older) (Some nvm) put.key)
      (large_at (bytes_at older) (Some nvm) put.key) (large.held nvm.pair.small.flash (bytes_at older) new put.key) (entry_at (Some flash) older put.key) (entry_at (Some flash) newer put.key) (is_buried nvm put.key) put here (put-gone put.key nvm.queue)
      (subst (λ (c : FlashConfig). (large.held c (bytes_at older) new put.key) ≡ Some put) (sym same) held) stays.0 (stays.1 ∙ u.map (Some flash) put.key) (g.placed put.key)

  -- a key that no loss covers, where the large engine is as it was
  pub same_placed : Agrees (conf pools flash) older (with_nvm nvm cache) → Unqueues put.key older after → new ≡ nvm.pair.large → (k : List ℕ) → bytes_eq k put.key ≡ false → ((len : ℕ) → list_any (λ (one : Loss). loss.covers (Some flash) one.scope k len) losses ≡ false) → PlacedBy (bytes_at older) k
  same_placed g u e k o free =
      let stays = uncovered_stays (Some flash) losses after cache.memory k g.memory.flash free in
      rw (stays.0, put-other put.key k nvm.queue o, stays.1, u.map (Some flash) k, e) (g.placed k)

  -- all of them, with the pages after it
  pub all_placed : bytes_at newer ≡ bytes_at older → PlacedBy (bytes_at older) put.key → ((k : List ℕ) → bytes_eq k put.key ≡ false → PlacedBy (bytes_at older) k) → (k : List ℕ) → PlacedAt (Some flash) newer cache_after k
  all_placed pages own others k = subst (λ (p : Pages). PlacedBy p k) (sym pages) (at_key (PlacedBy (bytes_at older)) put.key own others k)
