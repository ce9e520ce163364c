-- Which keys an answered call changes, and what that leaves of the fills of others.
use Rattle.std.proofs.Common.{◌≡◌, ℕ, ◌+◌, ◌≤◌, ◌==◌, Bool, true, false, not, ◌||◌, List, [], ◌∷◌, ◌++◌, Option, Some, None, refl, ap, sym, ◌∙◌, subst, arith, filter, inl, inr}
use Rattle.std.specs.Prelude.{if◌then◌else◌, is_some, option_map, ◌⊎◌}
use Rattle.std.specs.Str.{bytes_eq}
use Rattle.std.proofs.lemmas.Bool.{eqb-true}
use Rattle.hc_types.specs.Tally.{count}
use Rattle.hc_types.proofs.Tallies.{tally-append}
use Rattle.hc_memory.specs.Memory.{Memory}
use Rattle.hc_memory.proofs.Keyed.{same_bytes}
use Rattle.hc_machine.proofs.items.Items.{bytes_eq-sym}
use Rattle.hc_machine.proofs.items.Same.{eqb-same}
use Rattle.hc_history.specs.Note.{Note, Op, Insert, Add, Find, Remove, Reply, Stored, Begin, Did}
use Rattle.hc_history.specs.Books.{Call, open_call, open_calls}
use Rattle.hc_history.specs.Lawful.{changes, past}
use Rattle.hc_machine.specs.Nvm.{Waiter, Wish, ToFind, ToAdd, Fill, is_fill_of, fill_at, without_fill}
use Rattle.hc_invariant.specs.Tells.{waiters_of, op_of, asked_by, asked_in, is_call}
use Rattle.hc_invariant.specs.Jobs.{WishHolds, AllWish}
use Rattle.hc_proof.specs.frames.Midst.{AllWishes}
use Rattle.hc_invariant.specs.Fresh.{changed_since, IsFresh, AllFresh}
use Rattle.hc_invariant.specs.Standing.{first_of}
use Rattle.hc_proof.specs.fresh.Answers.{Answers, AllCalls}
use Rattle.hc_legal.specs.Replies.{is_change_of}

-- an op that changes this key alone, and a call that, if it is open, is of such a one
abbrev pub OpCalm : List ℕ → Op → Type 0
OpCalm key op = (reply : Reply) (k : List ℕ) → bytes_eq key k ≡ false → changes op reply k ≡ false

abbrev pub CalmAt : List ℕ → List Note → ℕ → Type 0
CalmAt key older n = (reply : Reply) (k : List ℕ) → bytes_eq key k ≡ false → is_change_of (open_call n (open_calls older)) reply k ≡ false

pub insert_calm : (key value : List ℕ) (expiry : ℕ) → OpCalm key (Insert key value expiry)
insert_calm key value expiry reply k o = o

pub remove_calm : (key : List ℕ) → OpCalm key (Remove key)
remove_calm key reply k o = o

pub find_calm : (key other : List ℕ) → OpCalm key (Find other)
find_calm key other reply k o = refl

pub add_calm : (key value : List ℕ) (expiry : ℕ) → OpCalm key (Add key value expiry)
add_calm key value expiry Stored k o = o
add_calm key value expiry reply k o = refl

-- ---- calls

less_open : (n call : ℕ) (calls : List Call) → (open_call n (filter (λ (other : Call). not (other.number == call)) calls) ≡ open_call n calls) ⊎ (open_call n (filter (λ (other : Call). not (other.number == call)) calls) ≡ None)
less_open n call [] = inl refl
less_open n call (x ∷ calls) = go (x.number == call) refl (x.number == n) refl (less_open n call calls)
  where
    none : (calls : List Call) → n ≡ call → open_call n (filter (λ (other : Call). not (other.number == call)) calls) ≡ None
    none [] same = refl
    none (y ∷ ys) same = at (y.number == call) refl (none ys same)
      where
        at : (t : Bool) → (y.number == call) ≡ t → open_call n (filter (λ (other : Call). not (other.number == call)) ys) ≡ None → open_call n (if not t then y ∷ filter (λ (other : Call). not (other.number == call)) ys else filter (λ (other : Call). not (other.number == call)) ys) ≡ None
        at true e h = h
        at false e h = let f : (y.number == n) ≡ false = ap (λ m. y.number == m) same ∙ e in rw f h

    go : (t : Bool) → (x.number == call) ≡ t → (u : Bool) → (x.number == n) ≡ u → (open_call n (filter (λ (other : Call). not (other.number == call)) calls) ≡ open_call n calls) ⊎ (open_call n (filter (λ (other : Call). not (other.number == call)) calls) ≡ None)
        → (open_call n (if not t then x ∷ filter (λ (other : Call). not (other.number == call)) calls else filter (λ (other : Call). not (other.number == call)) calls) ≡ (if u then Some x else open_call n calls)) ⊎ (open_call n (if not t then x ∷ filter (λ (other : Call). not (other.number == call)) calls else filter (λ (other : Call). not (other.number == call)) calls) ≡ None)
    go true e true f h = inr (none calls (sym (eqb-true x.number n f) ∙ eqb-true x.number call e))
    go true e false f h = h
    go false e true f h = inl (rw f refl)
    go false e false f (inl h) = inl (rw f h)
    go false e false f (inr h) = inr (rw f h)

-- a call that is answered leaves the others as they were
calm_did : (key : List ℕ) (older : List Note) (n call : ℕ) (reply : Reply) → CalmAt key older n → CalmAt key (Did call reply ∷ older) n
calm_did key older n call reply h r k o = go (less_open n call (open_calls older))
  where
    go : (open_call n (open_calls (Did call reply ∷ older)) ≡ open_call n (open_calls older)) ⊎ (open_call n (open_calls (Did call reply ∷ older)) ≡ None) → is_change_of (open_call n (open_calls (Did call reply ∷ older))) r k ≡ false
    go (inl same) = ap (λ c. is_change_of c r k) same ∙ h r k o
    go (inr none) = ap (λ c. is_change_of c r k) none

-- a call that begins, of such an op
pub calm_begun : (key : List ℕ) (older : List Note) (call client n : ℕ) (op : Op) → OpCalm key op → CalmAt key older n → CalmAt key (Begin call client op ∷ older) n
calm_begun key older call client n op own h r k o = go (call == n)
  where
    go : (t : Bool) → is_change_of (if t then Some (record { number = call; client = client; op = op }) else open_call n (open_calls older)) r k ≡ false
    go true = own r k o
    go false = h r k o

pub calm_own : (key : List ℕ) (older : List Note) (call client : ℕ) (op : Op) → OpCalm key op → CalmAt key (Begin call client op ∷ older) call
calm_own key older call client op own r k o = rw (eqb-same call) (own r k o)

pub answers_map : (Q R : ℕ → Type 0) → ((n : ℕ) → Q n → R n) → (part : List Note) → Answers Q part → Answers R part
answers_map Q R f [] h = tt
answers_map Q R f (Begin call client op ∷ part) h = absurd h
answers_map Q R f (Did call reply ∷ part) h = (f call h.0, answers_map Q R f part h.1)
answers_map Q R f (note ∷ part) h = answers_map Q R f part h

pub calls_map : (Q R : ℕ → Type 0) → ((n : ℕ) → Q n → R n) → (waiters : List Waiter) → AllCalls Q waiters → AllCalls R waiters
calls_map Q R f [] h = tt
calls_map Q R f (waiter ∷ waiters) h = (f waiter.call h.0, calls_map Q R f waiters h.1)

-- what is answered in such a part changes no other key
pub changed_still : (key k : List ℕ) (since : ℕ) (older part : List Note) → Answers (CalmAt key older) part → bytes_eq key k ≡ false → changed_since older since k ≡ false → changed_since (past older part) since k ≡ false
changed_still key k since older [] a o h = h
changed_still key k since older (Begin call client op ∷ part) a o h = absurd a
changed_still key k since older (Did call reply ∷ part) a o h =
    let first : changed_since (Did call reply ∷ older) since k ≡ false = (λ i. a.0 reply k o i || h i) in
    changed_still key k since (Did call reply ∷ older) part (answers_map (CalmAt key older) (CalmAt key (Did call reply ∷ older)) (λ n c. calm_did key older n call reply c) part a.1) o first
changed_still key k since older (note ∷ part) a o h = changed_still key k since (note ∷ older) part a o h

-- nor where nothing is answered
pub silent_since : (k : List ℕ) (since : ℕ) (older part : List Note) → Answers (λ n. ⊥) part → changed_since older since k ≡ false → changed_since (past older part) since k ≡ false
silent_since k since older [] a h = h
silent_since k since older (Begin call client op ∷ part) a h = absurd a
silent_since k since older (Did call reply ∷ part) a h = absurd a.0
silent_since k since older (note ∷ part) a h = silent_since k since (note ∷ older) part a h

-- ---- fills

pub fresh_by : (older newer : List Note) (key : List ℕ) (waiters : List Waiter) → ((since : ℕ) → changed_since older since key ≡ false → changed_since newer since key ≡ false) → IsFresh older key waiters → IsFresh newer key waiters
fresh_by older newer key [] f h = absurd h
fresh_by older newer key (waiter ∷ waiters) f h = f waiter.call h

pub fresh_silent : (older part : List Note) (fills : List Fill) → Answers (λ n. ⊥) part → AllFresh older fills → AllFresh (past older part) fills
fresh_silent older part [] a h = tt
fresh_silent older part (fill ∷ fills) a h = (fresh_by older (past older part) fill.key fill.waiters (λ since c. silent_since fill.key since older part a c) h.0, fresh_silent older part fills a h.1)

pub fresh_without : (key : List ℕ) (older part : List Note) (fills : List Fill) → Answers (CalmAt key older) part → AllFresh older fills → AllFresh (past older part) (without_fill key fills)
fresh_without key older part [] a h = tt
fresh_without key older part (fill ∷ fills) a h = go (is_fill_of key fill) refl (fresh_without key older part fills a h.1)
  where
    go : (t : Bool) → is_fill_of key fill ≡ t → AllFresh (past older part) (without_fill key fills) → AllFresh (past older part) (if not t then fill ∷ without_fill key fills else without_fill key fills)
    go true e rest = rest
    go false e rest = (fresh_by older (past older part) fill.key fill.waiters (λ since c. changed_still key fill.key since older part a (bytes_eq-sym key fill.key ∙ e) c) h.0, rest)

-- a call of any key begins
pub fresh_begun : (older : List Note) (call client : ℕ) (op : Op) (fills : List Fill) → AllFresh older fills → AllFresh (Begin call client op ∷ older) fills
fresh_begun older call client op [] h = tt
fresh_begun older call client op (fill ∷ fills) h = (fresh_by older (Begin call client op ∷ older) fill.key fill.waiters (λ since c. go (call == since) fill.key since c) h.0, fresh_begun older call client op fills h.1)
  where
    go : (t : Bool) (key : List ℕ) (since : ℕ) → changed_since older since key ≡ false → (if t then false else changed_since older since key) ≡ false
    go true key since c = refl
    go false key since c = c

-- ---- who waits for a key

found_some : (n : ℕ) (key : List ℕ) (waiters : List Waiter) → 1 ≤ count (is_call n) waiters → is_some (asked_by n key waiters) ≡ true
found_some n key [] h = absurd (omega (arith, h))
found_some n key (waiter ∷ waiters) h = go (waiter.call == n) h (found_some n key waiters)
  where
    go : (t : Bool) → 1 ≤ (if t then 1 else 0) + count (is_call n) waiters → (1 ≤ count (is_call n) waiters → is_some (asked_by n key waiters) ≡ true) → is_some (if t then Some (op_of key waiter.wish) else asked_by n key waiters) ≡ true
    go true h more = refl
    go false h more = more (omega (arith, h))

found_none : (n : ℕ) (key : List ℕ) (waiters : List Waiter) → count (is_call n) waiters ≡ 0 → asked_by n key waiters ≡ None
found_none n key [] h = refl
found_none n key (waiter ∷ waiters) h = go (waiter.call == n) h (found_none n key waiters)
  where
    go : (t : Bool) → (if t then 1 else 0) + count (is_call n) waiters ≡ 0 → (count (is_call n) waiters ≡ 0 → asked_by n key waiters ≡ None) → (if t then Some (op_of key waiter.wish) else asked_by n key waiters) ≡ None
    go true h more = absurd (omega (arith, h))
    go false h more = more (omega (arith, h))

fewer_here : (n : ℕ) (key : List ℕ) (fills : List Fill) (fill : Fill) → fill_at key fills ≡ Some fill → count (is_call n) fill.waiters ≤ count (is_call n) (waiters_of fills)
fewer_here n key [] fill e = absurd cc
fewer_here n key (x ∷ fills) fill e = go (is_fill_of key x) e (fewer_here n key fills fill)
  where
    both : count (is_call n) (x.waiters ++ waiters_of fills) ≡ count (is_call n) x.waiters + count (is_call n) (waiters_of fills)
    both = tally-append (λ w. if is_call n w then 1 else 0) x.waiters (waiters_of fills)

    go : (t : Bool) → (if t then Some x else fill_at key fills) ≡ Some fill → (fill_at key fills ≡ Some fill → count (is_call n) fill.waiters ≤ count (is_call n) (waiters_of fills)) → count (is_call n) fill.waiters ≤ count (is_call n) (x.waiters ++ waiters_of fills)
    go true e more = let same : x ≡ fill = cc in subst (λ (y : Fill). count (is_call n) y.waiters ≤ count (is_call n) (x.waiters ++ waiters_of fills)) same (omega (arith, both))
    go false e more = omega (arith, both, more e)

or_some : {A : Type 0} (a b : Option A) → is_some a ≡ true → first_of a b ≡ a
or_some None b h = absurd cc
or_some (Some x) b h = refl

asked_here : (n : ℕ) (key : List ℕ) (fills : List Fill) (fill : Fill) → fill_at key fills ≡ Some fill → 1 ≤ count (is_call n) fill.waiters → count (is_call n) (waiters_of fills) ≤ 1 → asked_in n fills ≡ asked_by n fill.key fill.waiters
asked_here n key [] fill e some one = absurd cc
asked_here n key (x ∷ fills) fill e some one = go (is_fill_of key x) e (asked_here n key fills fill)
  where
    both : count (is_call n) (x.waiters ++ waiters_of fills) ≡ count (is_call n) x.waiters + count (is_call n) (waiters_of fills)
    both = tally-append (λ w. if is_call n w then 1 else 0) x.waiters (waiters_of fills)

    go : (t : Bool) → (if t then Some x else fill_at key fills) ≡ Some fill → (fill_at key fills ≡ Some fill → 1 ≤ count (is_call n) fill.waiters → count (is_call n) (waiters_of fills) ≤ 1 → asked_in n fills ≡ asked_by n fill.key fill.waiters)
        → first_of (asked_by n x.key x.waiters) (asked_in n fills) ≡ asked_by n fill.key fill.waiters
    go true e more = let same : x ≡ fill = cc in subst (λ (y : Fill). first_of (asked_by n y.key y.waiters) (asked_in n fills) ≡ asked_by n fill.key fill.waiters) (sym same) (or_some (asked_by n fill.key fill.waiters) (asked_in n fills) (found_some n fill.key fill.waiters some))
    go false e more =
        let there = fewer_here n key fills fill e in
        let none : count (is_call n) x.waiters ≡ 0 = omega (arith, one, both, there, some) in
        ap (λ o. first_of o (asked_in n fills)) (found_none n x.key x.waiters none) ∙ more e some (omega (arith, one, both))

-- what they ask changes that key alone
wish_calm : (memory : Memory) (key : List ℕ) (wish : Wish) → WishHolds memory key wish → OpCalm key (op_of key wish)
wish_calm memory key ToFind h = find_calm key key
wish_calm memory key (ToAdd handle) h = λ reply k o. add_calm handle.key handle.value handle.expiry reply k (ap (λ x. bytes_eq x k) h.0 ∙ o)

asked_calm : (memory : Memory) (n : ℕ) (key : List ℕ) (waiters : List Waiter) (op : Op) → AllWish memory key waiters → asked_by n key waiters ≡ Some op → OpCalm key op
asked_calm memory n key [] op all e = absurd cc
asked_calm memory n key (waiter ∷ waiters) op all e = go (waiter.call == n) e (asked_calm memory n key waiters op all.1)
  where
    go : (t : Bool) → (if t then Some (op_of key waiter.wish) else asked_by n key waiters) ≡ Some op → (asked_by n key waiters ≡ Some op → OpCalm key op) → OpCalm key op
    go true e more = let same : op_of key waiter.wish ≡ op = cc in subst (OpCalm key) same (wish_calm memory key waiter.wish all.0)
    go false e more = more e

pub fill_key : (key : List ℕ) (fills : List Fill) (fill : Fill) → fill_at key fills ≡ Some fill → fill.key ≡ key
fill_key key [] fill e = absurd cc
fill_key key (x ∷ fills) fill e = go (is_fill_of key x) refl e (fill_key key fills fill)
  where
    go : (t : Bool) → is_fill_of key x ≡ t → (if t then Some x else fill_at key fills) ≡ Some fill → (fill_at key fills ≡ Some fill → fill.key ≡ key) → fill.key ≡ key
    go true t e more = let same : x ≡ fill = cc in subst (λ (y : Fill). y.key ≡ key) same (same_bytes x.key key t)
    go false t e more = more e

pub open_calm : (key : List ℕ) (o : Option Call) (op : Op) → option_map (λ (call : Call). call.op) o ≡ Some op → OpCalm key op → (reply : Reply) (k : List ℕ) → bytes_eq key k ≡ false → is_change_of o reply k ≡ false
open_calm key None op e c reply k o = refl
open_calm key (Some call) op e c reply k o = let same : call.op ≡ op = cc in subst (λ (x : Op). changes x reply k ≡ false) (sym same) (c reply k o)

each_call : (Q : ℕ → Type 0) (waiters : List Waiter) → ((n : ℕ) → 1 ≤ count (is_call n) waiters → Q n) → AllCalls Q waiters
each_call Q [] h = tt
each_call Q (waiter ∷ waiters) h = (h waiter.call (one (waiter.call == waiter.call) (eqb-same waiter.call)), each_call Q waiters (λ n some. h n (more n some)))
  where
    one : (t : Bool) → t ≡ true → 1 ≤ (if t then 1 else 0) + count (is_call waiter.call) waiters
    one true e = omega arith
    one false e = absurd cc

    more : (n : ℕ) → 1 ≤ count (is_call n) waiters → 1 ≤ (if waiter.call == n then 1 else 0) + count (is_call n) waiters
    more n some = omega (arith, some)

-- what the books and the fills say of those that wait
pub record Waits (older : List Note) (memory : Memory) (fills : List Fill) : Type 0 where
  pub asks : (n : ℕ) → option_map (λ (call : Call). call.op) (open_call n (open_calls older)) ≡ asked_in n fills
  pub one_waiter : (n : ℕ) → count (is_call n) (waiters_of fills) ≤ 1
  pub one : (key : List ℕ) → count (is_fill_of key) fills ≤ 1
  pub wishes : AllWishes memory fills

wish_at : (memory : Memory) (key : List ℕ) (fills : List Fill) (fill : Fill) → AllWishes memory fills → fill_at key fills ≡ Some fill → AllWish memory fill.key fill.waiters
wish_at memory key [] fill all e = absurd cc
wish_at memory key (x ∷ fills) fill all e = go (is_fill_of key x) e (wish_at memory key fills fill all.1)
  where
    go : (t : Bool) → (if t then Some x else fill_at key fills) ≡ Some fill → (fill_at key fills ≡ Some fill → AllWish memory fill.key fill.waiters) → AllWish memory fill.key fill.waiters
    go true e more = let same : x ≡ fill = cc in subst (λ (y : Fill). AllWish memory y.key y.waiters) same all.0
    go false e more = more e

-- the calls that wait for a key change no other
pub waiters_calm : (older : List Note) (memory : Memory) (fills : List Fill) (key : List ℕ) (fill : Fill) → Waits older memory fills → fill_at key fills ≡ Some fill → AllCalls (CalmAt key older) fill.waiters
waiters_calm older memory fills key fill t e =
    let own = fill_key key fills fill e in
    let wishes = wish_at memory key fills fill t.wishes e in
    each_call (CalmAt key older) fill.waiters (λ n some. by n (asked_by n fill.key fill.waiters) refl (t.asks n ∙ asked_here n key fills fill e some (t.one_waiter n)) wishes own some)
  where
    by : (n : ℕ) (o : Option Op) → asked_by n fill.key fill.waiters ≡ o → option_map (λ (call : Call). call.op) (open_call n (open_calls older)) ≡ asked_by n fill.key fill.waiters → AllWish memory fill.key fill.waiters → fill.key ≡ key → 1 ≤ count (is_call n) fill.waiters → CalmAt key older n
    by n None e h w own some = absurd (let is : is_some (asked_by n fill.key fill.waiters) ≡ true = found_some n fill.key fill.waiters some in let no : is_some (asked_by n fill.key fill.waiters) ≡ false = ap (λ (o : Option Op). is_some o) e in cc (is, no))
    by n (Some op) e h w own some = open_calm key (open_call n (open_calls older)) op (h ∙ e) (subst (λ (k : List ℕ). OpCalm k op) own (asked_calm memory n fill.key fill.waiters op w e))
