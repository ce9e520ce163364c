-- Calls of clients keep the fills fresh: the fill of a key that is inserted or removed goes.
use Rattle.std.proofs.Common.{◌≡◌, ℕ, ◌+◌, Bool, true, false, not, ◌||◌, List, [], ◌∷◌, ◌++◌, Option, Some, None, refl, ap, sym, ◌∙◌, subst}
use Rattle.std.specs.Prelude.{if◌then◌else◌, is_some}
use Rattle.hc_types.specs.Config.{Config}
use Rattle.hc_types.specs.FlashEntry.{FlashEntry}
use Rattle.hc_memory.specs.Item.{Handle}
use Rattle.hc_memory.specs.Memory.{linked_at}
use Rattle.hc_machine.proofs.items.Same.{eqb-same}
use Rattle.hc_history.specs.Note as notes
use Rattle.hc_history.specs.Note.{Note, Op, Reply, Stored, Begin, Did, End}
use Rattle.hc_history.specs.Books.{open_call, open_calls}
use Rattle.hc_history.specs.Lawful.{past}
use Rattle.hc_machine.specs.Nvm.{Nvm, Waiter, Wish, ToFind, ToAdd, Fill, is_fill_of, fill_at, without_fill, joined_by}
use Rattle.hc_machine.specs.Leaving.{Changed, unqueue, outdate}
use Rattle.hc_machine.specs.Cache.{Cache, Told, Moved, answers, on_flash, on_flash_of, with_nvm}
use Rattle.hc_machine.specs.Waiting.{clear, plant, uproot, entry_of_handle, serve_fill, end_fill_of, end_fill, live, find_reply}
use Rattle.hc_machine.specs.Calls as calls
use Rattle.hc_machine.specs.Calls.{begin, wait_in, wait_for, is_known, add, in_memory, must_wait, used, replies_then}
use Rattle.hc_invariant.specs.Good.{Agrees, fills_of}
use Rattle.hc_invariant.specs.Fresh.{changed_since, IsFresh, AllFresh}
use Rattle.hc_proof.specs.fresh.Answers.{Answers, AllCalls, FreshKeeps}
use Rattle.hc_proof.proofs.fresh.Speaking.{answers-append, plant_quiet, uproot_quiet, serve_all_speaks}
use Rattle.hc_proof.proofs.fresh.Calming.{OpCalm, CalmAt, insert_calm, remove_calm, add_calm, calm_begun, calm_own, calls_map, fresh_without, fresh_begun, fresh_by, fill_key, waiters_calm}
use Rattle.hc_proof.proofs.fresh.Freshness.{waits_of}
use Rattle.hc_legal.specs.Replies.{is_change_of}

-- ---- no call begins meanwhile

flash_calls : (f : Nvm → Changed) (cache : Cache) → (on_flash f cache).cache.calls ≡ cache.calls
flash_calls f cache = go cache.nvm
  where
    go : (nvm : Option Nvm) → (on_flash_of nvm f cache).cache.calls ≡ cache.calls
    go None = refl
    go (Some nvm) = refl

clear_calls : (key : List ℕ) (cache : Cache) → (clear key cache).cache.calls ≡ cache.calls
clear_calls key cache = flash_calls (outdate key) (on_flash (unqueue key) cache).cache ∙ flash_calls (unqueue key) cache

-- ---- a fill ends

record EndsFill (Q : ℕ → Type 0) (key : List ℕ) (cache : Cache) (told : Told) : Type 0 where
  answers : Answers Q told.part
  fills : fills_of told.cache.nvm ≡ without_fill key (fills_of cache.nvm)

without_none : (key : List ℕ) (fills : List Fill) → fill_at key fills ≡ None → fills ≡ without_fill key fills
without_none key [] e = refl
without_none key (x ∷ fills) e = go (is_fill_of key x) e (without_none key fills)
  where
    go : (t : Bool) → (if t then Some x else fill_at key fills) ≡ None → (fill_at key fills ≡ None → fills ≡ without_fill key fills) → x ∷ fills ≡ (if not t then x ∷ without_fill key fills else without_fill key fills)
    go true e more = absurd cc
    go false e more = ap (λ fs. x ∷ fs) (more e)

end_speaks : (Q : ℕ → Type 0) (key : List ℕ) (there : Option FlashEntry) (cache : Cache) → ((fill : Fill) → fill_at key (fills_of cache.nvm) ≡ Some fill → AllCalls Q fill.waiters) → EndsFill Q key cache (end_fill key there cache)
end_speaks Q key there cache h = go cache.nvm refl
  where
    serves : (o : Option Fill) (nvm : Nvm) → cache.nvm ≡ Some nvm → fill_at key nvm.fills ≡ o → EndsFill Q key cache (serve_fill o nvm there cache)
    serves None nvm e f = record { answers = tt; fills = ap fills_of e ∙ without_none key nvm.fills f ∙ sym (ap (λ o. without_fill key (fills_of o)) e) }
    serves (Some one) nvm e f =
        let less : Nvm = record nvm { fills = without_fill one.key nvm.fills } in
        let q = serve_all_speaks Q one.waiters there (with_nvm less cache) (h one (ap (λ o. fill_at key (fills_of o)) e ∙ f)) in
        record { answers = q.answers; fills = q.fills ∙ ap (λ k. without_fill k nvm.fills) (fill_key key nvm.fills one f) ∙ sym (ap (λ o. without_fill key (fills_of o)) e) }

    go : (nvm : Option Nvm) → cache.nvm ≡ nvm → EndsFill Q key cache (end_fill_of nvm key there cache)
    go None e = record { answers = tt; fills = ap fills_of e ∙ sym (ap (λ o. without_fill key (fills_of o)) e) }
    go (Some nvm) e = serves (fill_at key nvm.fills) nvm e refl

ending : (key : List ℕ) (begun mid rest : List Note) (fills new : List Fill) → Answers (CalmAt key begun) mid → Answers (CalmAt key begun) rest → AllFresh begun fills → new ≡ without_fill key fills → AllFresh (past begun (mid ++ rest)) new
ending key begun mid rest fills new a b h e = subst (λ (fs : List Fill). AllFresh (past begun (mid ++ rest)) fs) (sym e) (fresh_without key begun (mid ++ rest) fills (answers-append (CalmAt key begun) mid rest a b) h)

answered : (key : List ℕ) (begun part : List Note) (call end : ℕ) (reply : Reply) → CalmAt key begun call → Answers (CalmAt key begun) part → Answers (CalmAt key begun) (Did call reply ∷ (part ++ End end ∷ []))
answered key begun part call end reply own a = (own, answers-append (CalmAt key begun) part (End end ∷ []) a tt)

-- what is done between: it answers nothing, and leaves the fills and how many calls there were
record Between (c : Cache) (told : Told) : Type 1 where
  quiet : (Q : ℕ → Type 0) → Answers Q told.part
  fills : fills_of told.cache.nvm ≡ fills_of c.nvm
  calls : told.cache.calls ≡ c.calls

-- a call that changes this key alone begins, this is done, it is answered, and the key's fill ends
changing : (config : Config) (older : List Note) (cache : Cache) (client : ℕ) (op : Op) (key : List ℕ) (reply : Reply) (there : Option FlashEntry) (m : Told) → Between (begin client op cache).cache m
    → OpCalm key op → Agrees config older cache → AllFresh older (fills_of cache.nvm)
    → AllFresh (past (Begin (cache.calls + 1) client op ∷ older) (m.part ++ (replies_then reply (end_fill key there) m.cache).part)) (fills_of (replies_then reply (end_fill key there) m.cache).cache.nvm)
changing config older cache client op key reply there m b calm g h =
    let begun = Begin (cache.calls + 1) client op ∷ older in
    let w = waits_of config older cache g in
    let waiting : (fill : Fill) → fill_at key (fills_of m.cache.nvm) ≡ Some fill → AllCalls (CalmAt key (Begin (cache.calls + 1) client op ∷ older)) fill.waiters = λ fill e.
    calls_map (CalmAt key older) (CalmAt key (Begin (cache.calls + 1) client op ∷ older)) (λ n c. calm_begun key older (cache.calls + 1) client n op calm c) fill.waiters
    (waiters_calm older cache.memory (fills_of cache.nvm) key fill w (sym (ap (fill_at key) b.fills) ∙ e)) in
    let ended = end_speaks (CalmAt key (Begin (cache.calls + 1) client op ∷ older)) key there m.cache waiting in
    let own : CalmAt key (Begin (cache.calls + 1) client op ∷ older) m.cache.calls = subst (CalmAt key (Begin (cache.calls + 1) client op ∷ older)) (sym b.calls) (calm_own key older (cache.calls + 1) client op calm) in
    ending key begun m.part (replies_then reply (end_fill key there) m.cache).part (fills_of cache.nvm) (fills_of (replies_then reply (end_fill key there) m.cache).cache.nvm)
    (b.quiet (CalmAt key begun)) (answered key begun (end_fill key there m.cache).part m.cache.calls m.cache.calls reply own ended.answers)
    (fresh_begun older (cache.calls + 1) client op (fills_of cache.nvm) h) (ended.fills ∙ ap (without_fill key) b.fills)

planted : (handle : Handle) (c : Cache) → Between c (plant handle c)
planted handle c = record { quiet = λ Q. (plant_quiet Q handle c).answers; fills = (plant_quiet (λ n. ⊥) handle c).fills; calls = clear_calls handle.key c }

uprooted : (key : List ℕ) (c : Cache) → Between c (uproot key c)
uprooted key c = record { quiet = λ Q. (uproot_quiet Q key c).answers; fills = (uproot_quiet (λ n. ⊥) key c).fills; calls = clear_calls key c }

fresh_if : (older : List Note) (t : Bool) (a b : Moved) → AllFresh (past older a.part) (fills_of a.cache.nvm) → AllFresh (past older b.part) (fills_of b.cache.nvm) → AllFresh (past older (if t then a else b).part) (fills_of (if t then a else b).cache.nvm)
fresh_if older true a b p q = p
fresh_if older false a b p q = q

pub insert_fresh : (config : Config) (older : List Note) (cache : Cache) (client : ℕ) (handle : Handle) → Agrees config older cache → FreshKeeps older cache (calls.insert_or_replace client handle cache)
insert_fresh config older cache client handle g h =
    let op = notes.Insert handle.key handle.value handle.expiry in
    let c = (begin client op cache).cache in
    fresh_if older (is_known cache handle) _ _
    (changing config older cache client op handle.key Stored (Some (entry_of_handle handle)) (plant handle c) (planted handle c) (insert_calm handle.key handle.value handle.expiry) g h) h

pub remove_fresh : (config : Config) (older : List Note) (cache : Cache) (client : ℕ) (key : List ℕ) → Agrees config older cache → FreshKeeps older cache (calls.remove client key cache)
remove_fresh config older cache client key g h =
    let op = notes.Remove key in
    let c = (begin client op cache).cache in
    changing config older cache client op key (calls.remove_reply (linked_at key cache.memory.pools)) None (uproot key c) (uprooted key c) (remove_calm key) g h

-- ---- calls that wait

joined_fresh : (older : List Note) (key : List ℕ) (waiter : Waiter) (fills : List Fill) → changed_since older waiter.call key ≡ false → AllFresh older fills → AllFresh older (joined_by key waiter fills)
joined_fresh older key waiter [] e h = (e, tt)
joined_fresh older key waiter (x ∷ fills) e h = go (is_fill_of key x) (joined_fresh older key waiter fills e h.1)
  where
    first : (ws : List Waiter) → IsFresh older x.key ws → IsFresh older x.key (ws ++ waiter ∷ [])
    first [] f = absurd f
    first (w ∷ ws) f = f

    go : (t : Bool) → AllFresh older (joined_by key waiter fills) → AllFresh older (if t then record x { waiters = x.waiters ++ waiter ∷ [] } ∷ fills else x ∷ joined_by key waiter fills)
    go true rest = (first x.waiters h.0, h.1)
    go false rest = (h.0, rest)

just_begun : (older : List Note) (call client : ℕ) (op : Op) (key : List ℕ) → changed_since (Begin call client op ∷ older) call key ≡ false
just_begun older call client op key = rw (eqb-same call) refl

waiting_fresh : (older : List Note) (cache : Cache) (client : ℕ) (op : Op) (key : List ℕ) (wish : Wish) → AllFresh older (fills_of cache.nvm)
    → AllFresh (Begin (cache.calls + 1) client op ∷ older) (fills_of (wait_in cache.nvm key wish (begin client op cache).cache).nvm)
waiting_fresh older cache client op key wish h = go cache.nvm refl
  where
    go : (nvm : Option Nvm) → cache.nvm ≡ nvm → AllFresh (Begin (cache.calls + 1) client op ∷ older) (fills_of (wait_in nvm key wish (begin client op cache).cache).nvm)
    go None e = fresh_begun older (cache.calls + 1) client op (fills_of cache.nvm) h
    go (Some nvm) e =
        joined_fresh (Begin (cache.calls + 1) client op ∷ older) key (record { call = cache.calls + 1; wish = wish }) nvm.fills (just_begun older (cache.calls + 1) client op key)
        (fresh_begun older (cache.calls + 1) client op nvm.fills (subst (λ (o : Option Nvm). AllFresh older (fills_of o)) e h))

add_fresh : (config : Config) (older : List Note) (cache : Cache) (client : ℕ) (handle : Handle) → Agrees config older cache → FreshKeeps older cache (add client handle cache)
add_fresh config older cache client handle g h =
    let op = notes.Add handle.key handle.value handle.expiry in
    let c = (begin client op cache).cache in
    fresh_if older (must_wait cache handle.key) _ _ (waiting_fresh older cache client op handle.key (ToAdd handle) h)
    (changing config older cache client op handle.key Stored (Some (entry_of_handle handle)) (plant handle c) (planted handle c) (add_calm handle.key handle.value handle.expiry) g h)

pub new_fresh : (config : Config) (older : List Note) (cache : Cache) (client : ℕ) (handle : Handle) → Agrees config older cache → FreshKeeps older cache (calls.insert client handle cache)
new_fresh config older cache client handle g h =
    fresh_if older (is_some (live cache.now (in_memory cache handle.key))) _ _ h (fresh_if older (is_known cache handle) _ _ (add_fresh config older cache client handle g h) h)

-- a find that is answered at once changes nothing
did_find : (older : List Note) (call client : ℕ) (key : List ℕ) (reply : Reply) (fills : List Fill) → AllFresh (Begin call client (notes.Find key) ∷ older) fills → AllFresh (Did call reply ∷ Begin call client (notes.Find key) ∷ older) fills
did_find older call client key reply [] h = tt
did_find older call client key reply (x ∷ fills) h =
    (fresh_by (Begin call client (notes.Find key) ∷ older) (Did call reply ∷ Begin call client (notes.Find key) ∷ older) x.key x.waiters (λ since c. (λ i. nothing i || c i)) h.0, did_find older call client key reply fills h.1)
  where
    nothing : is_change_of (open_call call (open_calls (Begin call client (notes.Find key) ∷ older))) reply x.key ≡ false
    nothing = rw (eqb-same call) refl

found : (t : Bool) (begun : List Note) (a b : Moved) → AllFresh (past begun a.part) (fills_of a.cache.nvm) → AllFresh (past begun b.part) (fills_of b.cache.nvm) → AllFresh (past begun (if t then a else b).part) (fills_of (if t then a else b).cache.nvm)
found true begun a b p q = p
found false begun a b p q = q

pub find_fresh : (config : Config) (older : List Note) (cache : Cache) (client : ℕ) (key : List ℕ) → Agrees config older cache → FreshKeeps older cache (calls.find client key cache)
find_fresh config older cache client key g h =
    let op = notes.Find key in
    let c = (begin client op cache).cache in
    let begun = Begin (cache.calls + 1) client op ∷ older in
    let reply = find_reply (live c.now (in_memory c key)) in
    found (must_wait c key) begun (answers _ (wait_for key ToFind c)) (calls.find_now reply (used key c)) (waiting_fresh older cache client op key ToFind h)
    (did_find older (cache.calls + 1) client key reply (fills_of cache.nvm) (fresh_begun older (cache.calls + 1) client op (fills_of cache.nvm) h))
