-- A key is removed.
use Rattle.std.proofs.Common.{◌≡◌, ℕ, ◌+◌, Bool, false, ◌||◌, List, [], ◌∷◌, Option, Some, None, refl, ap, sym, ◌∙◌, arith, subst}
use Rattle.std.specs.Prelude.{if◌then◌else◌, is_some, IsSome}
use Rattle.std.specs.Str.{bytes_eq}
use Rattle.hc_types.specs.Config.{Config}
use Rattle.hc_types.specs.declared.config.FlashConfig.{FlashConfig}
use Rattle.hc_types.specs.FlashEntry.{FlashEntry}
use Rattle.hc_memory.specs.Item.{Item}
use Rattle.hc_memory.specs.Memory.{linked_at}
use Rattle.hc_machine.specs.items.Items.{items_of}
use Rattle.hc_machine.proofs.items.Items.{bytes_eq-refl, bytes_eq-sym}
use Rattle.hc_history.specs.Note.{Note, Op, Remove, Did}
use Rattle.hc_history.specs.Books.{Entry, entry_at, entry_after, now_at}
use Rattle.hc_history.specs.Lawful.{IsAnswer, freed_since, past}
use Rattle.hc_machine.specs.Cache.{Cache}
use Rattle.hc_machine.specs.Calls.{remove_reply, waiting_at}
use Rattle.hc_machine.specs.Waiting.{uproot}
use Rattle.hc_invariant.specs.Standing.{map_of_item, Placed}
use Rattle.hc_invariant.specs.Good.{Agrees}
use Rattle.hc_invariant.specs.Laws.{RemoveKeeps}
use Rattle.hc_invariant.proofs.Placing.{map_linked}
use Rattle.hc_proof.specs.losses.Agreements.{DueIs}
use Rattle.hc_proof.specs.books.RegionBooks.{TakeTells}
use Rattle.hc_proof.specs.frames.Midst.{only}
use Rattle.hc_proof.specs.calls.Planting.{Uprooted, UprootKeeps}
use Rattle.hc_proof.specs.calls.Serving.{EndFillKeeps, ThereByMap}
use Rattle.hc_proof.proofs.frames.ByNumber.{same_number}
use Rattle.hc_proof.proofs.storing.Planting.{uproot_keeps}
use Rattle.hc_proof.proofs.storing.ChangingCalls.{counted, begun_by, rest_begun, call_changes, begun_rests, did_entry, rest_did, Piece, call_keeps}

-- what it answers is what it freed
answered_by : (flash : Option FlashConfig) (older newer : List Note) (cache : Cache) (client : ℕ) (key : List ℕ) (o : Option Item) → freed_since newer (cache.calls + 1) key ≡ (is_some o || freed_since (begun_by client (Remove key) cache older) (cache.calls + 1) key)
    → ((x : Item) → o ≡ Some x → entry_at flash newer key ≡ Some (map_of_item x)) → IsAnswer flash newer (cache.calls + 1) (Remove key) (remove_reply o)
answered_by flash older newer cache client key None freed has = freed ∙ ap (λ (b : Bool). if b then false else freed_since older (cache.calls + 1) key) (same_number (cache.calls + 1))
answered_by flash older newer cache client key (Some x) freed has = (subst (λ (e : Option Entry). IsSome e) (sym (has x refl)) refl, freed)

unlinked_alone : (i : Option Item) (q w s l : Option FlashEntry) (b : Bool) → i ≡ None → Placed i q w b s l None → q ≡ None
unlinked_alone i q w s l b e h = grind arith

remove_own : (now : ℕ) (key : List ℕ) (was : Option Entry) → entry_after now (Remove key) key was ≡ None
remove_own now key was = rw (bytes_eq-refl key) refl

remove_other : (now : ℕ) (key k : List ℕ) (was : Option Entry) → bytes_eq key k ≡ false → entry_after now (Remove key) k was ≡ was
remove_other now key k was o = rw o refl

remove_piece : UprootKeeps → ThereByMap → (config : Config) (older : List Note) (cache : Cache) (client : ℕ) (key : List ℕ) → Agrees config older cache
    → Piece config older cache client (Remove key) key (remove_reply (linked_at key cache.memory.pools)) None (uproot key (counted cache))
remove_piece uproots by_map config older cache client key g =
    let c = cache.calls + 1 in
    let op : Op = Remove key in
    let reply = remove_reply (linked_at key cache.memory.pools) in
    let begin : List Note = begun_by client op cache older in
    let told = uproot key (counted cache) in
    let p : (tail : List Note) → Uprooted config begin key c reply tail (counted cache) told = λ tail. uproots config begin (counted cache) key c reply tail (rest_begun config older cache client op (only key) g) (g.placed key)
    (λ waits. bytes_eq-refl key) (begun_rests config.flash older cache client op key) (call_changes older cache client op key reply tail (bytes_eq-refl key)) in
    let one = p [] in
    let mid : List Note = past begin told.part in
    let has : entry_at config.flash (Did c reply ∷ mid) key ≡ None = did_entry config.flash older mid cache told.cache client op reply key one.calls ∙ remove_own (now_at mid) key (entry_at config.flash mid key) in
    let stands = rest_did config mid told.cache key c reply None one.rest one.stands tt has
    (λ k other. did_entry config.flash older mid cache told.cache client op reply k one.calls ∙ remove_other (now_at mid) key k (entry_at config.flash mid k) (bytes_eq-sym key k ∙ other)) in
    record {
      lawful = λ tail. (p tail).lawful;
      calls = one.calls;
      fills = one.fills;
      answer = answered_by config.flash older mid cache client key (linked_at key cache.memory.pools) (one.freed c) (λ x e. one.entry ∙ map_linked x _ _ _ _ _ _ (rw e at (g.placed key)));
      stands = stands;
      unqueued = unlinked_alone (linked_at key told.cache.memory.pools) (waiting_at told.cache.nvm key) _ _ _ _ one.linked one.stands;
      is_there = by_map config (Did c reply ∷ mid) told.cache key None (items_of told.cache.memory.pools) (only key) stands.rest has;
    }

pub remove_steady_by : UprootKeeps → EndFillKeeps → ThereByMap → RemoveKeeps Agrees Agrees
remove_steady_by uproots ends by_map config older cache client key g =
    call_keeps ends config older cache client (Remove key) key (remove_reply (linked_at key cache.memory.pools)) None (uproot key (counted cache)) g (remove_piece uproots by_map config older cache client key g)

pub remove_steady : DueIs → TakeTells → EndFillKeeps → ThereByMap → RemoveKeeps Agrees Agrees
remove_steady due take ends by_map = remove_steady_by (uproot_keeps due take) ends by_map
