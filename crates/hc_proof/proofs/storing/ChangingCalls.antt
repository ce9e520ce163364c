-- A call that changes its key, from its Begin to its End: its piece, its Did, the end of the key's fill.
use Rattle.std.proofs.Common.{◌≡◌, ℕ, ◌+◌, ◌<◌, ◌==◌, Bool, true, false, not, ◌&&◌, List, [], ◌∷◌, ◌++◌, filter, Option, Some, None, refl, ap, sym, ◌∙◌, arith, subst}
use Rattle.std.specs.Prelude.{if◌then◌else◌, IsSomeAnd}
use Rattle.std.specs.Str.{bytes_eq}
use Rattle.hc_types.specs.Config.{Config}
use Rattle.hc_types.specs.Tally.{count}
use Rattle.hc_types.specs.declared.config.FlashConfig.{FlashConfig}
use Rattle.hc_types.proofs.Tallies.{tally-push, find-none}
use Rattle.hc_types.specs.FlashEntry.{FlashEntry}
use Rattle.hc_machine.specs.items.Items.{items_of}
use Rattle.hc_history.specs.Note.{Op, Reply, Note, Begin, Did, End}
use Rattle.hc_history.specs.Books.{Call, Answer, Entry, open_calls, open_call, owed, entry_at, entry_after, done_by, now_at}
use Rattle.hc_history.specs.Lawful.{IsAnswer, IsChanged, changes, past}
use Rattle.hc_history.proofs.Appended.{past-append}
use Rattle.hc_machine.specs.Nvm.{Fill}
use Rattle.hc_machine.specs.Cache.{Cache, Owed, Told, is_owed, owed_at}
use Rattle.hc_machine.specs.Waiting.{end_fill}
use Rattle.hc_machine.specs.Calls.{waiting_at}
use Rattle.hc_invariant.specs.Standing.{PlacedAt}
use Rattle.hc_invariant.specs.Tells.{CallsTell, reply_in, reply_of}
use Rattle.hc_invariant.specs.Good.{Agrees, EntrySized, fills_of}
use Rattle.hc_invariant.specs.Laws.{Steady, LawfulIn}
use Rattle.hc_invariant.proofs.Lookups.{at_key}
use Rattle.hc_invariant.proofs.Pieces.{pieces-join}
use Rattle.hc_proof.specs.frames.Midst.{none_moves, only}
use Rattle.hc_proof.specs.frames.Rest.{Rest, SameCalls}
use Rattle.hc_proof.specs.calls.Planting.{PlacedFor, RestsFrom}
use Rattle.hc_proof.specs.calls.Serving.{IsThere, EndFillKeeps}
use Rattle.hc_proof.proofs.calls.CallBooks.{answered, told}
use Rattle.hc_proof.proofs.frames.ByNumber.{same_number, find-append, or_find}
use Rattle.hc_proof.proofs.frames.BetweenSteps.{good_is_rest, rest_is_good}
use Rattle.hc_proof.proofs.frames.CallNotes.{quiet_begin, quiet_did, quiet_end, rest_still, placed_quiet, flash_still}
use Rattle.hc_proof.proofs.frames.Fills.{flash_moves}
use Rattle.hc_proof.proofs.calls.Serving.{rested_did}

-- ---- the call begins

-- the cache once the call has its number
abbrev pub counted : Cache → Cache
counted cache = record cache { calls = cache.calls + 1 }

abbrev pub begun_by : ℕ → Op → Cache → List Note → List Note
begun_by client op cache older = Begin (cache.calls + 1) client op ∷ older

pub rest_begun : (config : Config) (older : List Note) (cache : Cache) (client : ℕ) (op : Op) (moves : List ℕ → Bool) → Agrees config older cache → Rest config (begun_by client op cache older) (counted cache) (items_of cache.memory.pools) moves
rest_begun config older cache client op moves g =
    let t = g.memory.charges in
    let r = rest_still config older (begun_by client op cache older) cache (items_of cache.memory.pools) (items_of cache.memory.pools) none_moves (quiet_begin older (cache.calls + 1) client op) (λ k. refl) refl
    (record { one_key = t.one_key; one_number = t.one_number; fresh = t.fresh; same = t.same }) (good_is_rest config older cache g) in
    record {
      own = r.own;
      sizes = r.sizes;
      flash_is = r.flash_is;
      sound = r.sound;
      charges = r.charges;
      placed = λ key here. r.placed key refl;
      sized = r.sized;
      clock = r.clock;
      flash = flash_moves config.flash (begun_by client op cache older) cache.memory cache.nvm moves r.flash;
    }

-- and is open
pub call_open : (older newer : List Note) (cache after : Cache) (client : ℕ) (op : Op) → SameCalls (begun_by client op cache older) newer (counted cache) after
    → open_call (cache.calls + 1) (open_calls newer) ≡ Some (record { number = cache.calls + 1; client = client; op = op })
call_open older newer cache after client op same =
    ap (open_call (cache.calls + 1)) same.open_ones ∙ ap (λ (b : Bool). if b then Some (record { number = cache.calls + 1; client = client; op = op }) else open_call (cache.calls + 1) (open_calls older)) (same_number (cache.calls + 1))

changed_step : (a b : Bool) (n : ℕ) → a ≡ true → b ≡ true → 0 < (if a && b then 1 else 0) + n
changed_step a b n e f = grind arith

-- what it changes, by its next answer
pub call_changes : (older : List Note) (cache : Cache) (client : ℕ) (op : Op) (key : List ℕ) (reply : Reply) (tail : List Note) → changes op reply key ≡ true → IsChanged (begun_by client op cache older) key (Did (cache.calls + 1) reply ∷ tail)
call_changes older cache client op key reply tail h = changed_step (cache.calls + 1 == cache.calls + 1) (changes op reply key) _ (same_number (cache.calls + 1)) h

pub begun_rests : (flash : Option FlashConfig) (older : List Note) (cache : Cache) (client : ℕ) (op : Op) (key : List ℕ) → RestsFrom flash (begun_by client op cache older) key
begun_rests None older cache client op key = tt
begun_rests (Some flash) older cache client op key = refl

-- ---- the call is answered

-- what the map has then
pub did_entry : (flash : Option FlashConfig) (older newer : List Note) (cache after : Cache) (client : ℕ) (op : Op) (reply : Reply) (k : List ℕ) → SameCalls (begun_by client op cache older) newer (counted cache) after
    → entry_at flash (Did (cache.calls + 1) reply ∷ newer) k ≡ entry_after (now_at newer) op k (entry_at flash newer k)
did_entry flash older newer cache after client op reply k same = ap (λ (o : Option Call). done_by (now_at newer) o k (entry_at flash newer k)) (call_open older newer cache after client op same)

-- the key stands in its place again, though its fill isn't ended yet
pub record Stands (config : Config) (older : List Note) (cache : Cache) (key : List ℕ) : Type 0 where
  pub rest : Rest config older cache (items_of cache.memory.pools) (only key)
  pub placed : PlacedAt config.flash older cache key

pub rest_did : (config : Config) (older : List Note) (cache : Cache) (key : List ℕ) (call : ℕ) (reply : Reply) (m : Option Entry) → Rest config older cache (items_of cache.memory.pools) (only key) → PlacedFor m older cache key → EntrySized key m
    → entry_at config.flash (Did call reply ∷ older) key ≡ m → ((k : List ℕ) → bytes_eq k key ≡ false → entry_at config.flash (Did call reply ∷ older) k ≡ entry_at config.flash older k) → Stands config (Did call reply ∷ older) cache key
rest_did config older cache key call reply m r p sized own others = record {
  rest = record {
    own = r.own;
    sizes = r.sizes;
    flash_is = r.flash_is;
    sound = r.sound;
    charges = record { one_key = r.charges.one_key; one_number = r.charges.one_number; fresh = r.charges.fresh; same = r.charges.same };
    placed = λ k other. placed_quiet config.flash older (Did call reply ∷ older) cache k (quiet_did older call reply) (others k other) (r.placed k other);
    sized = at_key (λ k. EntrySized k (entry_at config.flash (Did call reply ∷ older) k)) key (rw own sized) (λ k other. rw (others k other) (r.sized k));
    clock = r.clock;
    flash = flash_still config.flash older (Did call reply ∷ older) cache.memory cache.nvm (only key) (quiet_did older call reply) r.flash;
  };
  placed = subst (λ (m : Option Entry). PlacedFor m older cache key) (sym own) p;
}

-- ---- its reply is handed out

replied : (c : ℕ) (r : Reply) (answers : List Answer) → reply_in c answers ≡ Some r → 0 < count (λ (answer : Answer). answer.number == c) answers
replied c r [] h = absurd cc
replied c r (a ∷ answers) h = step (a.number == c) h (replied c r answers)
  where
    step : (b : Bool) → (if b then Some a.reply else reply_in c answers) ≡ Some r → (reply_in c answers ≡ Some r → 0 < count (λ (answer : Answer). answer.number == c) answers) → 0 < (if b then 1 else 0) + count (λ (answer : Answer). answer.number == c) answers
    step true e more = omega arith
    step false e more = omega (arith, more e)

one_own : (b : Bool) → b ≡ true → ◌≡◌ {A = ℕ} (if b then 1 else 0) 1
one_own true h = refl
one_own false h = absurd cc

-- it is owed
end_allowed : (older : List Note) (calls c : ℕ) (reply : Reply) (all : List Owed) (fills : List Fill) → CallsTell older calls (all ++ record { call = c; reply = Some reply } ∷ []) fills → 0 < count (λ (answer : Answer). answer.number == c) (owed older)
end_allowed older calls c reply all fills t =
    let mine : Owed = record { call = c; reply = Some reply } in
    let alone : count (is_owed c) all ≡ 0 = omega (arith, t.one_owed c, tally-push (λ (o : Owed). if is_owed c o then 1 else 0) all mine, one_own (c == c) (same_number c)) in
    let found : owed_at c (all ++ mine ∷ []) ≡ Some mine = find-append (is_owed c) all (mine ∷ []) ∙ ap (λ (o : Option Owed). or_find o (if c == c then Some mine else None)) (find-none (is_owed c) all alone) ∙ ap (λ (b : Bool). if b then Some mine else None) (same_number c) in
    replied c reply (owed older) (t.replies c ∙ ap reply_of found)

-- the key's fill ends, and the call
ends_call : EndFillKeeps → (config : Config) (older : List Note) (cache : Cache) (key : List ℕ) (there : Option FlashEntry) (c : ℕ) (reply : Reply) → Stands config older cache key → CallsTell older cache.calls (cache.owed ++ record { call = c; reply = Some reply } ∷ []) (fills_of cache.nvm)
    → waiting_at cache.nvm key ≡ None → RestsFrom config.flash older key → IsThere config older cache key there
    → Steady config older ((end_fill key there cache).part ++ End c ∷ []) (end_fill key there cache).cache
ends_call ends config older cache key there c reply stands calls unqueued rested is_there =
    let mine : Owed = record { call = c; reply = Some reply } in
    let e = end_fill key there cache in
    let s = ends config older cache key there (mine ∷ []) (record { rest = stands.rest; placed = stands.placed; calls = calls; answered = refl; unqueued = unqueued; rested = rested }) is_there in
    let mid : List Note = past older e.part in
    let t = s.rest.charges in
    let after = rest_still config mid (End c ∷ mid) e.cache (items_of e.cache.memory.pools) (items_of e.cache.memory.pools) none_moves (quiet_end mid c) (λ k. refl) refl (record { one_key = t.one_key; one_number = t.one_number; fresh = t.fresh; same = t.same }) s.rest in
    record {
      lawful = pieces-join config older e.part (End c ∷ []) (s.lawful (End c ∷ [])) (end_allowed mid e.cache.calls c reply e.cache.owed (fills_of e.cache.nvm) s.calls, tt);
      good = subst (λ (h : List Note). Agrees config h e.cache) (sym (past-append older e.part (End c ∷ []))) (rest_is_good config (End c ∷ mid) e.cache after (told mid e.cache.calls c reply e.cache.owed (fills_of e.cache.nvm) s.calls));
    }

-- ---- all of the call

-- what its piece leaves, and what it is answered
pub record Piece (config : Config) (older : List Note) (cache : Cache) (client : ℕ) (op : Op) (key : List ℕ) (reply : Reply) (there : Option FlashEntry) (told : Told) : Type 0 where
  pub lawful : (tail : List Note) → LawfulIn config (begun_by client op cache older) told.part (Did (cache.calls + 1) reply ∷ tail)
  pub calls : SameCalls (begun_by client op cache older) (past (begun_by client op cache older) told.part) (counted cache) told.cache
  pub fills : fills_of told.cache.nvm ≡ fills_of cache.nvm
  pub answer : IsAnswer config.flash (past (begun_by client op cache older) told.part) (cache.calls + 1) op reply
  pub stands : Stands config (Did (cache.calls + 1) reply ∷ past (begun_by client op cache older) told.part) told.cache key
  pub unqueued : waiting_at told.cache.nvm key ≡ None
  pub is_there : IsThere config (Did (cache.calls + 1) reply ∷ past (begun_by client op cache older) told.part) told.cache key there

-- the call's part, with its number as the machine takes it
abbrev pub part_of : ℕ → ℕ → Op → Reply → Cache → Told → List Note → List Note
part_of number client op reply cache told ended = Begin (cache.calls + 1) client op ∷ (told.part ++ (Did number reply ∷ (ended ++ End number ∷ [])))

answer_open : (flash : Option FlashConfig) (newer : List Note) (c : ℕ) (reply : Reply) (call : Call) → open_call c (open_calls newer) ≡ Some call → IsAnswer flash newer c call.op reply → IsSomeAnd (open_call c (open_calls newer)) (λ call. IsAnswer flash newer c call.op reply)
answer_open flash newer c reply call e h = subst (λ (o : Option Call). IsSomeAnd o (λ call. IsAnswer flash newer c call.op reply)) (sym e) h

pub call_keeps : EndFillKeeps → (config : Config) (older : List Note) (cache : Cache) (client : ℕ) (op : Op) (key : List ℕ) (reply : Reply) (there : Option FlashEntry) (piece : Told) → Agrees config older cache → Piece config older cache client op key reply there piece
    → Steady config older (part_of piece.cache.calls client op reply cache piece (end_fill key there piece.cache).part) (end_fill key there piece.cache).cache
call_keeps ends config older cache client op key reply there piece g p =
    let c = cache.calls + 1 in
    let e = end_fill key there piece.cache in
    let begin : List Note = begun_by client op cache older in
    let mid : List Note = past begin piece.part in
    let newer : List Note = Did c reply ∷ mid in
    let fills = fills_of piece.cache.nvm in
    let before : CallsTell newer (cache.calls + 1) (cache.owed ++ record { call = c; reply = Some reply } ∷ []) (fills_of cache.nvm) =
    answered older newer cache.calls client op reply cache.owed (fills_of cache.nvm) g.calls p.calls.begun (ap (filter (λ (other : Call). not (other.number == c))) p.calls.open_ones) (ap (λ (answers : List Answer). record { number = c; reply = reply } ∷ answers) p.calls.owed) in
    let calls : CallsTell newer piece.cache.calls (piece.cache.owed ++ record { call = c; reply = Some reply } ∷ []) fills = rw (p.calls.calls, p.calls.owes, p.fills) before in
    let last = ends_call ends config newer piece.cache key there c reply p.stands calls p.unqueued (rested_did config.flash mid c reply key) p.is_there in
    let rest : List Note = Did c reply ∷ (e.part ++ End c ∷ []) in
    subst (λ (n : ℕ). Steady config older (part_of n client op reply cache piece e.part) e.cache) (sym p.calls.calls) (record {
      lawful = (
        ap (λ (n : ℕ). n + 1) (sym g.calls.number),
        pieces-join config begin piece.part rest (p.lawful (e.part ++ End c ∷ []))
            (answer_open config.flash mid c reply (record { number = c; client = client; op = op }) (call_open older mid cache piece.cache client op p.calls) p.answer, last.lawful),
      );
      good = subst (λ (h : List Note). Agrees config h e.cache) (sym (past-append begin piece.part rest)) last.good;
    })
