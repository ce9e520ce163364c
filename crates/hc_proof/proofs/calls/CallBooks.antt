-- What begins, answers and ends of calls leave of the books of calls.
use Rattle.std.proofs.Common.{◌≡◌, ℕ, ◌+◌, ◌<◌, ◌≤◌, ◌==◌, Bool, true, false, not, List, [], ◌∷◌, ◌++◌, Option, Some, None, refl, ap, sym, ◌∙◌, arith, cond, subst}
use Rattle.std.specs.Prelude.{filter, find, option_map, is_some, if◌then◌else◌}
use Rattle.std.proofs.lemmas.Bool.{eqb-true}
use Rattle.hc_types.specs.Tally.{count}
use Rattle.hc_types.proofs.Tallies.{tally-append, tally-push, find-none}
use Rattle.hc_memory.proofs.Keyed.{same_bytes}
use Rattle.hc_history.specs.Note.{Note, Op, Reply, Begin, Did, End}
use Rattle.hc_history.specs.Books.{Call, Answer, begun, open_calls, open_call, owed}
use Rattle.hc_machine.specs.Nvm.{Waiter, Fill, is_fill_of, joined_by, fill_at, without_fill}
use Rattle.hc_machine.specs.Cache.{Owed, is_owed, owed_at, owed_anew, owed_with, owed_less}
use Rattle.hc_invariant.specs.Tells.{CallsTell, waiters_of, op_of, asked_by, asked_in, reply_in, is_call, is_unanswered, reply_of}
use Rattle.hc_invariant.specs.Standing.{first_of}
use Rattle.hc_proof.specs.calls.Serving.{ghost}
use Rattle.hc_proof.proofs.frames.ByNumber.{same_number, flipped, find-less, find-gone, count-fewer, none-counted, find-map, count-map, find-append, or_find, found-passes}

-- at one number, and at each other one
pub at_number : (P : ℕ → Type 0) (c : ℕ) → P c → ((n : ℕ) → (c == n) ≡ false → P n) → (n : ℕ) → P n
at_number P c here there n = go (c == n) refl
  where
    go : (t : Bool) → (c == n) ≡ t → P n
    go true t = subst P (eqb-true c n t) here
    go false t = there n t

later : (c n : ℕ) → c < n → (c == n) ≡ false
later c n l = step (c == n) refl
  where
    step : (b : Bool) → (c == n) ≡ b → b ≡ false
    step true e = absurd (omega (arith, eqb-true c n e))
    step false e = refl

one_if : (b : Bool) → b ≡ true → ◌≡◌ {A = ℕ} (cond b 1 0) 1
one_if true h = refl
one_if false h = absurd cc

pub none_if : (b : Bool) → b ≡ false → ◌≡◌ {A = ℕ} (cond b 1 0) 0
none_if true h = absurd cc
none_if false h = refl

no_more : {X : Type 0} (o : Option X) → is_some o ≡ false → o ≡ None
no_more None h = refl
no_more (Some x) h = absurd cc

-- ---- what a number asked

asked_step : (n : ℕ) (op : Op) (o : Option Op) (b : Bool) (m : ℕ) → (m ≡ 0 → o ≡ None) → cond b 1 0 + m ≡ 0 → cond b (Some op) o ≡ None
asked_step n op o true m h z = absurd (omega arith)
asked_step n op o false m h z = h (omega arith)

pub asked_by-none : (n : ℕ) (key : List ℕ) (waiters : List Waiter) → count (is_call n) waiters ≡ 0 → asked_by n key waiters ≡ None
asked_by-none n key [] z = refl
asked_by-none n key (w ∷ ws) z = asked_step n (op_of key w.wish) (asked_by n key ws) (w.call == n) (count (is_call n) ws) (asked_by-none n key ws) z

pub asked_in-none : (n : ℕ) (fills : List Fill) → count (is_call n) (waiters_of fills) ≡ 0 → asked_in n fills ≡ None
asked_in-none n [] z = refl
asked_in-none n (fill ∷ fills) z =
    let sum = tally-append (λ (w : Waiter). cond (is_call n w) 1 0) fill.waiters (waiters_of fills) in
    ap (λ o. first_of o (asked_in n fills)) (asked_by-none n fill.key fill.waiters (omega (arith, z, sum))) ∙ asked_in-none n fills (omega (arith, z, sum))

unasked_step : (op : Op) (o : Option Op) (b : Bool) (m : ℕ) → (o ≡ None → m ≡ 0) → cond b (Some op) o ≡ None → cond b 1 0 + m ≡ 0
unasked_step op o true m h z = absurd cc
unasked_step op o false m h z = omega (arith, h z)

pub unasked_by : (n : ℕ) (key : List ℕ) (waiters : List Waiter) → asked_by n key waiters ≡ None → count (is_call n) waiters ≡ 0
unasked_by n key [] z = refl
unasked_by n key (w ∷ ws) z = unasked_step (op_of key w.wish) (asked_by n key ws) (w.call == n) (count (is_call n) ws) (unasked_by n key ws) z

or_none : {A : Type 0} (a b : Option A) → first_of a b ≡ None → (a ≡ None) × (b ≡ None)
or_none None b h = (refl, h)
or_none (Some x) b h = absurd cc

pub unasked_in : (n : ℕ) (fills : List Fill) → asked_in n fills ≡ None → count (is_call n) (waiters_of fills) ≡ 0
unasked_in n [] z = refl
unasked_in n (fill ∷ fills) z =
    let both = or_none (asked_by n fill.key fill.waiters) (asked_in n fills) z in
    omega (arith, tally-append (λ (w : Waiter). cond (is_call n w) 1 0) fill.waiters (waiters_of fills), unasked_by n fill.key fill.waiters both.0, unasked_in n fills both.1)

-- ---- replies

reply_step : (a : Answer) (o : Option Answer) (r : Option Reply) (b : Bool) → r ≡ option_map (λ (x : Answer). x.reply) o → cond b (Some a.reply) r ≡ option_map (λ (x : Answer). x.reply) (cond b (Some a) o)
reply_step a o r true h = refl
reply_step a o r false h = h

pub reply-found : (n : ℕ) (answers : List Answer) → reply_in n answers ≡ option_map (λ (x : Answer). x.reply) (find (λ (x : Answer). x.number == n) answers)
reply-found n [] = refl
reply-found n (a ∷ answers) = reply_step a (find (λ (x : Answer). x.number == n) answers) (reply_in n answers) (a.number == n) (reply-found n answers)

mapped_none : {X Y : Type 0} (f : X → Y) (o : Option X) → option_map f o ≡ None → o ≡ None
mapped_none f None h = refl
mapped_none f (Some x) h = absurd cc

pub unreplied : (n : ℕ) (answers : List Answer) → reply_in n answers ≡ None → count (λ (x : Answer). x.number == n) answers ≡ 0
unreplied n answers h = none-counted (λ (x : Answer). x.number == n) answers (mapped_none (λ (x : Answer). x.reply) (find (λ (x : Answer). x.number == n) answers) (sym (reply-found n answers) ∙ h))

-- ---- what is owed

abbrev with_reply : ℕ → Reply → Owed → Owed
with_reply c reply owed = if is_owed c owed then record owed { reply = Some reply } else owed

same_call : (c n : ℕ) (reply : Reply) (o : Owed) → is_owed n (with_reply c reply o) ≡ is_owed n o
same_call c n reply o = step (is_owed c o)
  where
    step : (b : Bool) → is_owed n (cond b (record o { reply = Some reply }) o) ≡ is_owed n o
    step true = refl
    step false = refl

pub owed_with-at : (c n : ℕ) (reply : Reply) (all : List Owed) → owed_at n (owed_with c reply all) ≡ option_map (with_reply c reply) (owed_at n all)
owed_with-at c n reply all = find-map (is_owed n) (with_reply c reply) (same_call c n reply) all

other_found : (c n : ℕ) (reply : Reply) (o : Option Owed) → (c == n) ≡ false → ((x : Owed) → o ≡ Some x → is_owed n x ≡ true) → option_map (with_reply c reply) o ≡ o
other_found c n reply None h p = refl
other_found c n reply (Some x) h p =
    let here : x.call ≡ n = eqb-true x.call n (p x refl) in
    let other : is_owed c x ≡ false = ap (λ m. m == c) here ∙ flipped c n h in
    ap (λ b. Some (cond b (record x { reply = Some reply }) x)) other

pub owed_with-other : (c n : ℕ) (reply : Reply) (all : List Owed) → (c == n) ≡ false → owed_at n (owed_with c reply all) ≡ owed_at n all
owed_with-other c n reply all h = owed_with-at c n reply all ∙ other_found c n reply (owed_at n all) h (λ x e. found-passes (is_owed n) all x e)

pub owed_with-own : (c : ℕ) (reply : Reply) (all : List Owed) (o : Owed) → owed_at c all ≡ Some o → owed_at c (owed_with c reply all) ≡ Some (record o { reply = Some reply })
owed_with-own c reply all o e =
    owed_with-at c c reply all ∙ ap (option_map (with_reply c reply)) e ∙ ap (λ b. Some (cond b (record o { reply = Some reply }) o)) (found-passes (is_owed c) all o e)

unanswered_is : (x : Option Owed) → is_unanswered x ≡ true → (o : Owed) × ((x ≡ Some o) × (o.reply ≡ None))
unanswered_is None h = absurd cc
unanswered_is (Some o) h = (o, (refl, no_reply o.reply h))
  where
    no_reply : (r : Option Reply) → not (is_some r) ≡ true → r ≡ None
    no_reply None h = refl
    no_reply (Some r) h = absurd cc

-- ---- a call that waits is answered

pub served : (older : List Note) (calls : ℕ) (all : List Owed) (key : List ℕ) (w : Waiter) (ws : List Waiter) (fills : List Fill) (reply : Reply) → CallsTell older calls all (ghost key (w ∷ ws) ∷ fills)
    → CallsTell (Did w.call reply ∷ older) calls (owed_with w.call reply all) (ghost key ws ∷ fills)
served older calls all key w ws fills reply t =
    let c = w.call in
    let one = one_if (c == c) (same_number c) in
    let left : count (is_call c) (ws ++ waiters_of fills) ≡ 0 = omega (arith, t.one_waiter c, one) in
    let none : asked_in c (ghost key ws ∷ fills) ≡ None = asked_in-none c (ghost key ws ∷ fills) left in
    let had : asked_in c (ghost key (w ∷ ws) ∷ fills) ≡ Some (op_of key w.wish) = ap (λ b. first_of (cond b (Some (op_of key w.wish)) (asked_by c key ws)) (asked_in c fills)) (same_number c) in
    let o = unanswered_is (owed_at c all) (t.owes c ∙ ap is_some had) in
    let now : owed_at c (owed_with c reply all) ≡ Some (record o.0 { reply = Some reply }) = owed_with-own c reply all o.0 o.1.0 in
    let else_asked : (n : ℕ) → (c == n) ≡ false → asked_in n (ghost key (w ∷ ws) ∷ fills) ≡ asked_in n (ghost key ws ∷ fills) = λ n e. ap (λ b. first_of (cond b (Some (op_of key w.wish)) (asked_by n key ws)) (asked_in n fills)) e in
    let unsaid : count (λ (answer : Answer). answer.number == c) (owed older) ≡ 0 = unreplied c (owed older) (t.replies c ∙ ap reply_of o.1.0 ∙ o.1.1) in
    record {
      number = t.number;
      open_ones = at_number (λ n. option_map (λ (call : Call). call.op) (open_call n (filter (λ (other : Call). not (other.number == c)) (open_calls older))) ≡ asked_in n (ghost key ws ∷ fills)) c
          (ap (option_map (λ (call : Call). call.op)) (find-gone (λ (call : Call). call.number) c (open_calls older)) ∙ sym none)
          (λ n e. ap (option_map (λ (call : Call). call.op)) (find-less (λ (call : Call). call.number) c n (open_calls older) e) ∙ t.open_ones n ∙ else_asked n e);
      one_open = λ n. omega (arith, t.one_open n, count-fewer (λ (call : Call). call.number == n) (λ (other : Call). not (other.number == c)) (open_calls older));
      one_waiter = λ n. omega (arith, t.one_waiter n);
      owes = at_number (λ n. is_unanswered (owed_at n (owed_with c reply all)) ≡ is_some (asked_in n (ghost key ws ∷ fills))) c
          (ap is_unanswered now ∙ sym (ap is_some none))
          (λ n e. ap is_unanswered (owed_with-other c n reply all e) ∙ t.owes n ∙ ap is_some (else_asked n e));
      replies = at_number (λ n. reply_in n (record { number = c; reply = reply } ∷ owed older) ≡ reply_of (owed_at n (owed_with c reply all))) c
          (ap (λ b. cond b (Some reply) (reply_in c (owed older))) (same_number c) ∙ sym (ap reply_of now))
          (λ n e. ap (λ b. cond b (Some reply) (reply_in n (owed older))) e ∙ t.replies n ∙ sym (ap reply_of (owed_with-other c n reply all e)));
      one_reply = at_number (λ n. count (λ (answer : Answer). answer.number == n) (record { number = c; reply = reply } ∷ owed older) ≤ 1) c
          (omega (arith, one, unsaid))
          (λ n e. omega (arith, none_if (c == n) e, t.one_reply n));
      one_owed = λ n. omega (arith, t.one_owed n, count-map (is_owed n) (with_reply c reply) (same_call c n reply) all);
      fresh = λ n l. owed_with-at c n reply all ∙ ap (option_map (with_reply c reply)) (t.fresh n l);
    }

-- ---- a call begins, and waits

-- one more call asks
pub record Joins (c : ℕ) (op : Op) (fills joined : List Fill) : Type 0 where
  pub asks : asked_in c joined ≡ Some op
  pub others : (n : ℕ) → (c == n) ≡ false → asked_in n joined ≡ asked_in n fills
  pub counts : (n : ℕ) → count (is_call n) (waiters_of joined) ≡ count (is_call n) (waiters_of fills) + (if c == n then 1 else 0)

pub waits : (older : List Note) (calls client : ℕ) (op : Op) (all : List Owed) (fills joined : List Fill) → CallsTell older calls all fills → Joins (calls + 1) op fills joined
    → CallsTell (Begin (calls + 1) client op ∷ older) (calls + 1) (owed_anew (calls + 1) all) joined
waits older calls client op all fills joined t j =
    let c = calls + 1 in
    let one = one_if (c == c) (same_number c) in
    let unknown : owed_at c all ≡ None = t.fresh c (omega arith) in
    let unasked : asked_in c fills ≡ None = no_more (asked_in c fills) (sym (t.owes c) ∙ ap is_unanswered unknown) in
    let uncounted = unasked_in c fills unasked in
    let unopen : open_call c (open_calls older) ≡ None = mapped_none (λ (call : Call). call.op) (open_call c (open_calls older)) (t.open_ones c ∙ unasked) in
    let unopened = none-counted (λ (call : Call). call.number == c) (open_calls older) unopen in
    let asks_now = j.asks in
    let as_before = j.others in
    let owed_now : owed_at c (owed_anew c all) ≡ Some (record { call = c; reply = None }) = find-append (is_owed c) all (record { call = c; reply = None } ∷ []) ∙ ap (λ o. or_find o (cond (c == c) (Some (record { call = c; reply = None })) None)) unknown ∙ ap (λ b. cond b (Some (record { call = c; reply = None })) None) (same_number c) in
    let owed_before : (n : ℕ) → (c == n) ≡ false → owed_at n (owed_anew c all) ≡ owed_at n all = λ n e. find-append (is_owed n) all (record { call = c; reply = None } ∷ []) ∙ ap (λ b. or_find (owed_at n all) (cond b (Some (record { call = c; reply = None })) None)) e ∙ find_nothing (owed_at n all) in
    let unsaid : reply_in c (owed older) ≡ None = t.replies c ∙ ap reply_of unknown in
    record {
      number = ap (λ n. n + 1) t.number;
      open_ones = at_number (λ n. option_map (λ (call : Call). call.op) (open_call n (record { number = c; client = client; op = op } ∷ open_calls older)) ≡ asked_in n joined) c
          (ap (λ b. option_map (λ (call : Call). call.op) (cond b (Some (record { number = c; client = client; op = op })) (open_call c (open_calls older)))) (same_number c) ∙ sym asks_now)
          (λ n e. ap (λ b. option_map (λ (call : Call). call.op) (cond b (Some (record { number = c; client = client; op = op })) (open_call n (open_calls older)))) e ∙ t.open_ones n ∙ sym (as_before n e));
      one_open = at_number (λ n. count (λ (call : Call). call.number == n) (record { number = c; client = client; op = op } ∷ open_calls older) ≤ 1) c (omega (arith, one, unopened)) (λ n e. omega (arith, none_if (c == n) e, t.one_open n));
      one_waiter = at_number (λ n. count (is_call n) (waiters_of joined) ≤ 1) c (omega (arith, j.counts c, one, uncounted)) (λ n e. omega (arith, j.counts n, none_if (c == n) e, t.one_waiter n));
      owes = at_number (λ n. is_unanswered (owed_at n (owed_anew c all)) ≡ is_some (asked_in n joined)) c (ap is_unanswered owed_now ∙ sym (ap is_some asks_now)) (λ n e. ap is_unanswered (owed_before n e) ∙ t.owes n ∙ sym (ap is_some (as_before n e)));
      replies = at_number (λ n. reply_in n (owed older) ≡ reply_of (owed_at n (owed_anew c all))) c (unsaid ∙ sym (ap reply_of owed_now)) (λ n e. t.replies n ∙ sym (ap reply_of (owed_before n e)));
      one_reply = t.one_reply;
      one_owed = at_number (λ n. count (is_owed n) (owed_anew c all) ≤ 1) c
          (omega (arith, one, tally-push (λ (o : Owed). cond (is_owed c o) 1 0) all (record { call = c; reply = None }), none-counted (is_owed c) all unknown))
          (λ n e. omega (arith, none_if (c == n) e, tally-push (λ (o : Owed). cond (is_owed n o) 1 0) all (record { call = c; reply = None }), t.one_owed n));
      fresh = λ n l. owed_before n (later c n l) ∙ t.fresh n (omega (arith, l));
    }
  where
    find_nothing : (o : Option Owed) → or_find o None ≡ o
    find_nothing None = refl
    find_nothing (Some x) = refl

-- no waiter has the number of the next call
pub unasked_anew : (older : List Note) (calls : ℕ) (all : List Owed) (fills : List Fill) → CallsTell older calls all fills → count (is_call (calls + 1)) (waiters_of fills) ≡ 0
unasked_anew older calls all fills t =
    unasked_in (calls + 1) fills (no_more (asked_in (calls + 1) fills) (sym (t.owes (calls + 1)) ∙ ap is_unanswered (t.fresh (calls + 1) (omega arith))))

-- ---- a call is answered at once

-- the newest call was answered: its reply is owed beside the others'
pub answered : (older newer : List Note) (calls client : ℕ) (op : Op) (reply : Reply) (all : List Owed) (fills : List Fill) → CallsTell older calls all fills
    → begun newer ≡ begun older + 1 → open_calls newer ≡ filter (λ (other : Call). not (other.number == calls + 1)) (record { number = calls + 1; client = client; op = op } ∷ open_calls older) → owed newer ≡ record { number = calls + 1; reply = reply } ∷ owed older
    → CallsTell newer (calls + 1) (all ++ record { call = calls + 1; reply = Some reply } ∷ []) fills
answered older newer calls client op reply all fills t eb eo ew =
    let c = calls + 1 in
    let mine : Owed = record { call = c; reply = Some reply } in
    let one = one_if (c == c) (same_number c) in
    let unknown : owed_at c all ≡ None = t.fresh c (omega arith) in
    let unasked : asked_in c fills ≡ None = no_more (asked_in c fills) (sym (t.owes c) ∙ ap is_unanswered unknown) in
    let owed_now : owed_at c (all ++ mine ∷ []) ≡ Some mine = find-append (is_owed c) all (mine ∷ []) ∙ ap (λ o. or_find o (cond (c == c) (Some mine) None)) unknown ∙ ap (λ b. cond b (Some mine) None) (same_number c) in
    let owed_before : (n : ℕ) → (c == n) ≡ false → owed_at n (all ++ mine ∷ []) ≡ owed_at n all = λ n e. find-append (is_owed n) all (mine ∷ []) ∙ ap (λ b. or_find (owed_at n all) (cond b (Some mine) None)) e ∙ find_nothing (owed_at n all) in
    let gone : open_calls newer ≡ filter (λ (other : Call). not (other.number == c)) (open_calls older) = eo ∙ ap (λ b. cond (not b) (record { number = c; client = client; op = op } ∷ filter (λ (other : Call). not (other.number == c)) (open_calls older)) (filter (λ (other : Call). not (other.number == c)) (open_calls older))) (same_number c) in
    record {
      number = eb ∙ ap (λ n. n + 1) t.number;
      open_ones = at_number (λ n. option_map (λ (call : Call). call.op) (open_call n (open_calls newer)) ≡ asked_in n fills) c
          (ap (λ cs. option_map (λ (call : Call). call.op) (open_call c cs)) gone ∙ ap (option_map (λ (call : Call). call.op)) (find-gone (λ (call : Call). call.number) c (open_calls older)) ∙ sym unasked)
          (λ n e. ap (λ cs. option_map (λ (call : Call). call.op) (open_call n cs)) gone ∙ ap (option_map (λ (call : Call). call.op)) (find-less (λ (call : Call). call.number) c n (open_calls older) e) ∙ t.open_ones n);
      one_open = λ n. omega (arith, t.one_open n, ap (count (λ (call : Call). call.number == n)) gone, count-fewer (λ (call : Call). call.number == n) (λ (other : Call). not (other.number == c)) (open_calls older));
      one_waiter = t.one_waiter;
      owes = at_number (λ n. is_unanswered (owed_at n (all ++ mine ∷ [])) ≡ is_some (asked_in n fills)) c (ap is_unanswered owed_now ∙ sym (ap is_some unasked)) (λ n e. ap is_unanswered (owed_before n e) ∙ t.owes n);
      replies = at_number (λ n. reply_in n (owed newer) ≡ reply_of (owed_at n (all ++ mine ∷ []))) c
          (ap (reply_in c) ew ∙ ap (λ b. cond b (Some reply) (reply_in c (owed older))) (same_number c) ∙ sym (ap reply_of owed_now))
          (λ n e. ap (reply_in n) ew ∙ ap (λ b. cond b (Some reply) (reply_in n (owed older))) e ∙ t.replies n ∙ sym (ap reply_of (owed_before n e)));
      one_reply = at_number (λ n. count (λ (answer : Answer). answer.number == n) (owed newer) ≤ 1) c
          (omega (arith, ap (count (λ (answer : Answer). answer.number == c)) ew, one, unreplied c (owed older) (t.replies c ∙ ap reply_of unknown)))
          (λ n e. omega (arith, ap (count (λ (answer : Answer). answer.number == n)) ew, none_if (c == n) e, t.one_reply n));
      one_owed = at_number (λ n. count (is_owed n) (all ++ mine ∷ []) ≤ 1) c
          (omega (arith, one, tally-push (λ (o : Owed). cond (is_owed c o) 1 0) all mine, none-counted (is_owed c) all unknown))
          (λ n e. omega (arith, none_if (c == n) e, tally-push (λ (o : Owed). cond (is_owed n o) 1 0) all mine, t.one_owed n));
      fresh = λ n l. owed_before n (later c n l) ∙ t.fresh n (omega (arith, l));
    }
  where
    find_nothing : (o : Option Owed) → or_find o None ≡ o
    find_nothing None = refl
    find_nothing (Some x) = refl

-- ---- a reply is handed out

pub ended : (older : List Note) (calls c : ℕ) (all less : List Owed) (fills : List Fill) → CallsTell older calls all fills → is_unanswered (owed_at c all) ≡ false
    → owed_at c less ≡ None → ((n : ℕ) → (c == n) ≡ false → owed_at n less ≡ owed_at n all) → ((n : ℕ) → count (is_owed n) less ≤ count (is_owed n) all)
    → CallsTell (End c ∷ older) calls less fills
ended older calls c all less fills t said gone others fewer = record {
  number = t.number;
  open_ones = t.open_ones;
  one_open = t.one_open;
  one_waiter = t.one_waiter;
  owes = at_number (λ n. is_unanswered (owed_at n less) ≡ is_some (asked_in n fills)) c (ap is_unanswered gone ∙ sym said ∙ t.owes c) (λ n e. ap is_unanswered (others n e) ∙ t.owes n);
  replies = at_number (λ n. reply_in n (filter (λ (answer : Answer). not (answer.number == c)) (owed older)) ≡ reply_of (owed_at n less)) c
      (reply-found c (filter (λ (answer : Answer). not (answer.number == c)) (owed older)) ∙ ap (option_map (λ (x : Answer). x.reply)) (find-gone (λ (answer : Answer). answer.number) c (owed older)) ∙ sym (ap reply_of gone))
      (λ n e. reply-found n (filter (λ (answer : Answer). not (answer.number == c)) (owed older)) ∙ ap (option_map (λ (x : Answer). x.reply)) (find-less (λ (answer : Answer). answer.number) c n (owed older) e) ∙ sym (reply-found n (owed older)) ∙ t.replies n ∙ sym (ap reply_of (others n e)));
  one_reply = λ n. omega (arith, t.one_reply n, count-fewer (λ (answer : Answer). answer.number == n) (λ (answer : Answer). not (answer.number == c)) (owed older));
  one_owed = λ n. omega (arith, t.one_owed n, fewer n);
  fresh = λ n l. at_number (λ n. (owed_at n all ≡ None) → owed_at n less ≡ None) c (λ e. gone) (λ n e h. others n e ∙ h) n (t.fresh n l);
}

-- the reply of a call that waited
pub taken : (older : List Note) (calls c : ℕ) (all : List Owed) (fills : List Fill) → CallsTell older calls all fills → is_unanswered (owed_at c all) ≡ false → CallsTell (End c ∷ older) calls (owed_less c all) fills
taken older calls c all fills t said = ended older calls c all (owed_less c all) fills t said (find-gone (λ (o : Owed). o.call) c all) (λ n e. find-less (λ (o : Owed). o.call) c n all e) (λ n. count-fewer (is_owed n) (λ (o : Owed). not (is_owed c o)) all)

-- that of the newest call, which was owed beside the others
pub told : (older : List Note) (calls c : ℕ) (reply : Reply) (all : List Owed) (fills : List Fill) → CallsTell older calls (all ++ record { call = c; reply = Some reply } ∷ []) fills → CallsTell (End c ∷ older) calls all fills
told older calls c reply all fills t =
    let mine : Owed = record { call = c; reply = Some reply } in
    let one = one_if (c == c) (same_number c) in
    let push = tally-push (λ (o : Owed). cond (is_owed c o) 1 0) all mine in
    let none : count (is_owed c) all ≡ 0 = omega (arith, t.one_owed c, one, push) in
    let unknown : owed_at c all ≡ None = find-none (is_owed c) all none in
    let owed_now : owed_at c (all ++ mine ∷ []) ≡ Some mine = find-append (is_owed c) all (mine ∷ []) ∙ ap (λ o. or_find o (cond (c == c) (Some mine) None)) unknown ∙ ap (λ b. cond b (Some mine) None) (same_number c) in
    ended older calls c (all ++ mine ∷ []) all fills t (ap is_unanswered owed_now) unknown
    (λ n e. sym (find-append (is_owed n) all (mine ∷ []) ∙ ap (λ b. or_find (owed_at n all) (cond b (Some mine) None)) e ∙ find_nothing (owed_at n all)))
    (λ n. omega (arith, tally-push (λ (o : Owed). cond (is_owed n o) 1 0) all mine))
  where
    find_nothing : (o : Option Owed) → or_find o None ≡ o
    find_nothing None = refl
    find_nothing (Some x) = refl

-- ---- a fill leaves, and its calls are still to be served

or_swap : {A : Type 0} (a b c : Option A) → (is_some a ≡ true → first_of b c ≡ None) → first_of a (first_of b c) ≡ first_of b (first_of a c)
or_swap None b c h = refl
or_swap (Some x) None c h = refl
or_swap (Some x) (Some y) c h = absurd (let e = h refl in cc)

unfound : (key : List ℕ) (fills : List Fill) → count (is_fill_of key) fills ≡ 0 → without_fill key fills ≡ fills
unfound key [] z = refl
unfound key (fill ∷ fills) z = step (is_fill_of key fill) (unfound key fills) z
  where
    step : (b : Bool) → (count (is_fill_of key) fills ≡ 0 → without_fill key fills ≡ fills) → cond b 1 0 + count (is_fill_of key) fills ≡ 0 → cond (not b) (fill ∷ without_fill key fills) (without_fill key fills) ≡ fill ∷ fills
    step true h z = absurd (omega arith)
    step false h z = ap (λ fs. fill ∷ fs) (h (omega arith))

-- a call that asked is counted
asked_counts : (n : ℕ) (key : List ℕ) (waiters : List Waiter) → is_some (asked_by n key waiters) ≡ true → 1 ≤ count (is_call n) waiters
asked_counts n key [] h = absurd cc
asked_counts n key (w ∷ ws) h = step (w.call == n) (asked_counts n key ws) h
  where
    step : (b : Bool) → (is_some (asked_by n key ws) ≡ true → 1 ≤ count (is_call n) ws) → is_some (cond b (Some (op_of key w.wish)) (asked_by n key ws)) ≡ true → 1 ≤ cond b 1 0 + count (is_call n) ws
    step true h s = omega arith
    step false h s = omega (arith, h s)

-- what its calls asked, before the other fills'
left_asks : (n : ℕ) (key : List ℕ) (fills : List Fill) (fill : Fill) → fill_at key fills ≡ Some fill → count (is_fill_of key) fills ≤ 1 → count (is_call n) (waiters_of fills) ≤ 1
    → asked_in n fills ≡ first_of (asked_by n key fill.waiters) (asked_in n (without_fill key fills))
left_asks n key [] fill e one once = absurd cc
left_asks n key (x ∷ fills) fill e one once = step (is_fill_of key x) refl (left_asks n key fills fill) e one
  where
    step : (b : Bool) → is_fill_of key x ≡ b
        → (fill_at key fills ≡ Some fill → count (is_fill_of key) fills ≤ 1 → count (is_call n) (waiters_of fills) ≤ 1 → asked_in n fills ≡ first_of (asked_by n key fill.waiters) (asked_in n (without_fill key fills)))
        → cond b (Some x) (fill_at key fills) ≡ Some fill → cond b 1 0 + count (is_fill_of key) fills ≤ 1
        → asked_in n (x ∷ fills) ≡ first_of (asked_by n key fill.waiters) (asked_in n (cond (not b) (x ∷ without_fill key fills) (without_fill key fills)))
    step true t h e one =
        let same : x ≡ fill = cc in
        let its_key : x.key ≡ key = same_bytes x.key key t in
        let others = unfound key fills (omega arith) in
        ap (λ k. first_of (asked_by n k x.waiters) (asked_in n fills)) its_key ∙ ap (λ (f : Fill). first_of (asked_by n key f.waiters) (asked_in n fills)) same ∙ ap (λ fs. first_of (asked_by n key fill.waiters) (asked_in n fs)) (sym others)
    step false t h e one =
        let sum = tally-append (λ (w : Waiter). cond (is_call n w) 1 0) x.waiters (waiters_of fills) in
        let ih = h e (omega arith) (omega (arith, once, sum)) in
        let alone : is_some (asked_by n x.key x.waiters) ≡ true → first_of (asked_by n key fill.waiters) (asked_in n (without_fill key fills)) ≡ None = λ s. sym ih ∙ asked_in-none n fills (omega (arith, once, sum, asked_counts n x.key x.waiters s)) in
        ap (first_of (asked_by n x.key x.waiters)) ih ∙ or_swap (asked_by n x.key x.waiters) (asked_by n key fill.waiters) (asked_in n (without_fill key fills)) alone

pub asks_anew : (older : List Note) (calls : ℕ) (all : List Owed) (fills other : List Fill) → CallsTell older calls all fills → ((n : ℕ) → asked_in n fills ≡ asked_in n other) → ((n : ℕ) → count (is_call n) (waiters_of other) ≡ count (is_call n) (waiters_of fills)) → CallsTell older calls all other
asks_anew older calls all fills other t asks counts = record {
  number = t.number;
  open_ones = λ n. t.open_ones n ∙ asks n;
  one_open = t.one_open;
  one_waiter = λ n. omega (arith, t.one_waiter n, counts n);
  owes = λ n. t.owes n ∙ ap is_some (asks n);
  replies = t.replies;
  one_reply = t.one_reply;
  one_owed = t.one_owed;
  fresh = t.fresh;
}

-- how many of the waiters pass, those of the fill that leaves first
pub left_counts : (test : Waiter → Bool) (key : List ℕ) (fills : List Fill) (fill : Fill) → fill_at key fills ≡ Some fill → count (is_fill_of key) fills ≤ 1 → count test (fill.waiters ++ waiters_of (without_fill key fills)) ≡ count test (waiters_of fills)
left_counts test key [] fill e one = absurd cc
left_counts test key (x ∷ fills) fill e one = step (is_fill_of key x) (left_counts test key fills fill) e one
  where
    step : (b : Bool) → (fill_at key fills ≡ Some fill → count (is_fill_of key) fills ≤ 1 → count test (fill.waiters ++ waiters_of (without_fill key fills)) ≡ count test (waiters_of fills))
        → cond b (Some x) (fill_at key fills) ≡ Some fill → cond b 1 0 + count (is_fill_of key) fills ≤ 1
        → count test (fill.waiters ++ waiters_of (cond (not b) (x ∷ without_fill key fills) (without_fill key fills))) ≡ count test (x.waiters ++ waiters_of fills)
    step true h e one =
        let same : x ≡ fill = cc in
        ap (λ fs. count test (fill.waiters ++ waiters_of fs)) (unfound key fills (omega arith)) ∙ ap (λ (f : Fill). count test (f.waiters ++ waiters_of fills)) (sym same)
    step false h e one =
        let f : Waiter → ℕ = λ w. cond (test w) 1 0 in
        let rest = h e (omega arith) in
        omega (arith, rest, tally-append f fill.waiters (x.waiters ++ waiters_of (without_fill key fills)), tally-append f x.waiters (waiters_of (without_fill key fills)), tally-append f fill.waiters (waiters_of (without_fill key fills)), tally-append f x.waiters (waiters_of fills))

pub left : (older : List Note) (calls : ℕ) (all : List Owed) (key : List ℕ) (fills : List Fill) (fill : Fill) → CallsTell older calls all fills → fill_at key fills ≡ Some fill → count (is_fill_of key) fills ≤ 1
    → CallsTell older calls all (ghost key fill.waiters ∷ without_fill key fills)
left older calls all key fills fill t e one = asks_anew older calls all fills (ghost key fill.waiters ∷ without_fill key fills) t (λ n. left_asks n key fills fill e one (t.one_waiter n)) (λ n. left_counts (is_call n) key fills fill e one)

-- ---- a call joins the key's fill, or begins one

-- a call behind the key's others, or alone
by_push : (n : ℕ) (key : List ℕ) (ws : List Waiter) (w : Waiter) → (w.call == n) ≡ false → asked_by n key (ws ++ w ∷ []) ≡ asked_by n key ws
by_push n key [] w o = ap (λ b. cond b (Some (op_of key w.wish)) None) o
by_push n key (x ∷ ws) w o = ap (cond (x.call == n) (Some (op_of key x.wish))) (by_push n key ws w o)

join_other : (n : ℕ) (key : List ℕ) (w : Waiter) (fills : List Fill) → (w.call == n) ≡ false → asked_in n (joined_by key w fills) ≡ asked_in n fills
join_other n key w [] o = ap (λ b. first_of (cond b (Some (op_of key w.wish)) None) None) o
join_other n key w (fill ∷ fills) o = step (is_fill_of key fill) (join_other n key w fills o)
  where
    step : (b : Bool) → asked_in n (joined_by key w fills) ≡ asked_in n fills → asked_in n (cond b (record fill { waiters = fill.waiters ++ w ∷ [] } ∷ fills) (fill ∷ joined_by key w fills)) ≡ asked_in n (fill ∷ fills)
    step true h = ap (λ o. first_of o (asked_in n fills)) (by_push n fill.key fill.waiters w o)
    step false h = ap (first_of (asked_by n fill.key fill.waiters)) h

by_own : (key : List ℕ) (ws : List Waiter) (w : Waiter) → count (is_call w.call) ws ≡ 0 → asked_by w.call key (ws ++ w ∷ []) ≡ Some (op_of key w.wish)
by_own key [] w z = ap (λ b. cond b (Some (op_of key w.wish)) None) (same_number w.call)
by_own key (x ∷ ws) w z = step (x.call == w.call) (by_own key ws w) z
  where
    step : (b : Bool) → (count (is_call w.call) ws ≡ 0 → asked_by w.call key (ws ++ w ∷ []) ≡ Some (op_of key w.wish)) → cond b 1 0 + count (is_call w.call) ws ≡ 0 → cond b (Some (op_of key x.wish)) (asked_by w.call key (ws ++ w ∷ [])) ≡ Some (op_of key w.wish)
    step true h z = absurd (omega arith)
    step false h z = h (omega arith)

join_own : (key : List ℕ) (w : Waiter) (fills : List Fill) → count (is_call w.call) (waiters_of fills) ≡ 0 → asked_in w.call (joined_by key w fills) ≡ Some (op_of key w.wish)
join_own key w [] z = ap (λ b. first_of (cond b (Some (op_of key w.wish)) None) None) (same_number w.call)
join_own key w (fill ∷ fills) z =
    let sum = tally-append (λ (x : Waiter). cond (is_call w.call x) 1 0) fill.waiters (waiters_of fills) in
    step (is_fill_of key fill) refl (join_own key w fills (omega (arith, z, sum))) (omega (arith, z, sum))
  where
    step : (b : Bool) → is_fill_of key fill ≡ b → asked_in w.call (joined_by key w fills) ≡ Some (op_of key w.wish) → count (is_call w.call) fill.waiters ≡ 0
        → asked_in w.call (cond b (record fill { waiters = fill.waiters ++ w ∷ [] } ∷ fills) (fill ∷ joined_by key w fills)) ≡ Some (op_of key w.wish)
    step true t h z = ap (λ o. first_of o (asked_in w.call fills)) (by_own fill.key fill.waiters w z) ∙ ap (λ k. Some (op_of k w.wish)) (same_bytes fill.key key t)
    step false t h z = ap (λ o. first_of o (asked_in w.call (joined_by key w fills))) (asked_by-none w.call fill.key fill.waiters z) ∙ h

-- how many of the waiters pass
pub join-counts : (test : Waiter → Bool) (key : List ℕ) (w : Waiter) (fills : List Fill) → count test (waiters_of (joined_by key w fills)) ≡ count test (waiters_of fills) + (if test w then 1 else 0)
join-counts test key w [] = omega arith
join-counts test key w (fill ∷ fills) = step (is_fill_of key fill) (join-counts test key w fills)
  where
    step : (b : Bool) → count test (waiters_of (joined_by key w fills)) ≡ count test (waiters_of fills) + (if test w then 1 else 0)
        → count test (waiters_of (cond b (record fill { waiters = fill.waiters ++ w ∷ [] } ∷ fills) (fill ∷ joined_by key w fills))) ≡ count test (fill.waiters ++ waiters_of fills) + (if test w then 1 else 0)
    step true h =
        let f : Waiter → ℕ = λ x. cond (test x) 1 0 in
        omega (arith, tally-append f (fill.waiters ++ w ∷ []) (waiters_of fills), tally-append f fill.waiters (waiters_of fills), tally-push f fill.waiters w)
    step false h =
        let f : Waiter → ℕ = λ x. cond (test x) 1 0 in
        omega (arith, h, tally-append f fill.waiters (waiters_of (joined_by key w fills)), tally-append f fill.waiters (waiters_of fills))

pub joins : (key : List ℕ) (w : Waiter) (fills : List Fill) → count (is_call w.call) (waiters_of fills) ≡ 0 → Joins w.call (op_of key w.wish) fills (joined_by key w fills)
joins key w fills z = record { asks = join_own key w fills z; others = λ n o. join_other n key w fills o; counts = λ n. join-counts (is_call n) key w fills }
