-- Whatever answer changes a key bars the tickets that were handed out before.
use Rattle.std.proofs.Common.{◌≡◌, ◌≢◌, ◌⊎◌, inl, inr, ℕ, ◌+◌, ◌<◌, ◌==◌, Bool, true, false, not, ◌&&◌, ◌||◌, List, [], ◌∷◌, ◌++◌, length, Option, Some, None, refl, sym, ap, ◌∙◌, subst, arith, filter, find, mod-lt, slice_index}
use Rattle.std.specs.Prelude.{if◌then◌else◌}
use Rattle.std.specs.List.{list_any}
use Rattle.std.proofs.lemmas.List.Folds.{list_any-append}
use Rattle.hc_history.specs.Note.{Op, Insert, Add, Remove, Reply, Stored, Note, Begin, Did}
use Rattle.hc_history.specs.Books.{Call, open_calls, open_call}
use Rattle.hc_history.specs.Lawful.{changes, past}
use Rattle.hc_lease.specs.Stamps.{Stamps, slot_of, changed, ticket_at, is_fresh, is_of_call, is_add, with_add, ended, replied}
use Rattle.hc_lease.specs.Steps as steps
use Rattle.hc_lease.specs.Service.{IsAmong}
use Rattle.hc_lease.specs.declared.stamps.Adding.{Adding}
use Rattle.hc_lease.proofs.Stamping.{Known, IsBarred, any-push, is_key, known-after, barred-after, stamped-bars, waits-in, barred-stale, ticket-known}
use Rattle.hc_lease_log.specs.Log.{changes_of, key_of, Kind, Changing, Waiting, Replying, Other, Step, stamped_by, stamps_after, log_after, OnlyBegins, Tells, AllTell, FreshOverLog}
use Rattle.hc_legal.specs.Replies.{is_change_of}

-- ---- calls that are open

-- of each open call that may change a key
abbrev pub Holds : (ℕ → List ℕ → Type 0) → List Note → Type 0
Holds P h = (call : Call) → IsAmong call (open_calls h) → (key : List ℕ) → key_of call.op ≡ Some key → P call.number key

pub kept-among : {X : Type 0} (p : X → Bool) (x : X) (xs : List X) → IsAmong x (filter p xs) → IsAmong x xs
kept-among p x [] h = h
kept-among p x (y ∷ ys) h = go (p y) h (kept-among p x ys)
  where
    go : (b : Bool) → IsAmong x (if b then y ∷ filter p ys else filter p ys) → (IsAmong x (filter p ys) → IsAmong x ys) → (x ≡ y) ⊎ IsAmong x ys
    go true (inl e) more = inl e
    go true (inr h) more = inr (more h)
    go false h more = inr (more h)

pub found-among : (n : ℕ) (calls : List Call) (call : Call) → open_call n calls ≡ Some call → IsAmong call calls × (call.number ≡ n)
found-among n [] call h = absurd (cc)
found-among n (c ∷ calls) call h = go (c.number == n) refl h (found-among n calls call)
  where
    go : (b : Bool) → (c.number == n) ≡ b → (if b then Some c else open_call n calls) ≡ Some call → (open_call n calls ≡ Some call → IsAmong call calls × (call.number ≡ n)) → ((call ≡ c) ⊎ IsAmong call calls) × (call.number ≡ n)
    go true e h more = let same : c ≡ call = cc in let number : c.number ≡ n = grind (arith, e) in (inl (sym same), ap (λ (x : Call). x.number) (sym same) ∙ number)
    go false e h more = (inr (more h).0, (more h).1)

-- what changes a key may do so
changes-key : (op : Op) (reply : Reply) (key : List ℕ) → changes op reply key ≡ true → key_of op ≡ Some key
changes-key (Insert k value expiry) reply key h = ap Some (is_key k key h)
changes-key (Add k value expiry) Stored key h = ap Some (is_key k key h)
changes-key (Remove k) reply key h = ap Some (is_key k key h)
changes-key op reply key h = absurd (cc)

-- each open call after one more note
holds-note : (P : ℕ → List ℕ → Type 0) (note : Note) (part h : List Note) → Holds P h → OnlyBegins P (note ∷ part) → Holds P (note ∷ h)
holds-note P (Begin call client op) part h held begins = λ c among key e. go c among key e
  where
    go : (c : Call) → IsAmong c (record { number = call; client = client; op = op } ∷ open_calls h) → (key : List ℕ) → key_of c.op ≡ Some key → P c.number key
    go c (inl is) key e = subst (λ (x : Call). P x.number key) (sym is) (begins.0 key (ap (λ (x : Call). key_of x.op) (sym is) ∙ e))
    go c (inr among) key e = held c among key e
holds-note P (Did call reply) part h held begins = λ c among key e. held c (kept-among _ c (open_calls h) among) key e
holds-note P note part h held begins = held

rest-begins : (P : ℕ → List ℕ → Type 0) (note : Note) (part : List Note) → OnlyBegins P (note ∷ part) → OnlyBegins P part
rest-begins P (Begin call client op) part begins = begins.1
rest-begins P note part begins = begins

pub holds-past : (P : ℕ → List ℕ → Type 0) (part h : List Note) → Holds P h → OnlyBegins P part → Holds P (past h part)
holds-past P [] h held begins = held
holds-past P (note ∷ part) h held begins = holds-past P part (note ∷ h) (holds-note P note part h held begins) (rest-begins P note part begins)

-- one more note changes the key, or it doesn't
one-change : (P : ℕ → List ℕ → Type 0) (key : List ℕ) (note : Note) (h : List Note) → Holds P h → (changes_of key (note ∷ h) ≡ changes_of key h) ⊎ ((n : ℕ) × P n key)
one-change P key (Did call reply) h held = go (open_call call (open_calls h)) refl
  where
    go2 : (c : Call) → open_call call (open_calls h) ≡ Some c → (b : Bool) → changes c.op reply key ≡ b → ((if b then changes_of key h + 1 else changes_of key h) ≡ changes_of key h) ⊎ ((n : ℕ) × P n key)
    go2 c e true is = inr (c.number, held c (found-among call (open_calls h) c e).0 key (changes-key c.op reply key is))
    go2 c e false is = inl refl

    go : (o : Option Call) → open_call call (open_calls h) ≡ o → ((if is_change_of o reply key then changes_of key h + 1 else changes_of key h) ≡ changes_of key h) ⊎ ((n : ℕ) × P n key)
    go None e = inl refl
    go (Some c) e = go2 c e (changes c.op reply key) refl
one-change P key note h held = inl refl

part-changes : (P : ℕ → List ℕ → Type 0) (key : List ℕ) (part h : List Note) → Holds P h → OnlyBegins P part → (changes_of key (past h part) ≡ changes_of key h) ⊎ ((n : ℕ) × P n key)
part-changes P key [] h held begins = inl refl
part-changes P key (note ∷ part) h held begins = go (one-change P key note h held) (part-changes P key part (note ∷ h) (holds-note P note part h held begins) (rest-begins P note part begins))
  where
    go : (changes_of key (note ∷ h) ≡ changes_of key h) ⊎ ((n : ℕ) × P n key) → (changes_of key (past (note ∷ h) part) ≡ changes_of key (note ∷ h)) ⊎ ((n : ℕ) × P n key) → (changes_of key (past (note ∷ h) part) ≡ changes_of key h) ⊎ ((n : ℕ) × P n key)
    go (inl one) (inl more) = inl (more ∙ one)
    go (inl one) (inr found) = inr found
    go (inr found) more = inr found

-- ---- each open call waits in its slot

abbrev Noted : ℕ → List Adding → ℕ → List ℕ → Type 0
Noted n adds call key = list_any (is_add call (slot_of key n)) adds ≡ true

abbrev AreNoted : ℕ → List Note → Stamps → Type 0
AreNoted n h stamps = Holds (Noted n stamps.adds) h

any-last : (p : Adding → Bool) (new : Adding) (adds : List Adding) → p new ≡ true → list_any p (adds ++ new ∷ []) ≡ true
any-last p new adds h = list_any-append p adds (new ∷ []) ∙ (ap (λ b. list_any p adds || (b || false)) h ∙ or-true (list_any p adds))
  where
    or-true : (b : Bool) → (b || true) ≡ true
    or-true true = refl
    or-true false = refl

or-more : (x a b : Bool) → (a ≡ true → b ≡ true) → (x || a) ≡ true → (x || b) ≡ true
or-more true a b f h = refl
or-more false a b f h = f h

-- an add of another call stays
others-stay : (m r c q : ℕ) → m ≢ c → (adds : List Adding) → list_any (is_add m q) adds ≡ true → list_any (is_add m q) (filter (λ other. not (is_add c r other)) adds) ≡ true
others-stay m r c q other [] h = h
others-stay m r c q other (add ∷ adds) h = go (add.call == c) (add.slot == r) refl (others-stay m r c q other adds)
  where
    gone : (d : Bool) → (add.call == m) ≡ d → (add.call == c) ≡ true → ((d && (add.slot == q)) || list_any (is_add m q) adds) ≡ true → list_any (is_add m q) adds ≡ true
    gone true ed ea h = absurd (other (grind (arith, ea, ed)))
    gone false ed ea h = h

    go : (a b : Bool) → (add.call == c) ≡ a
        → (list_any (is_add m q) adds ≡ true → list_any (is_add m q) (filter (λ x. not (is_add c r x)) adds) ≡ true)
        → list_any (is_add m q) (if not (a && b) then add ∷ filter (λ x. not (is_add c r x)) adds else filter (λ x. not (is_add c r x)) adds) ≡ true
    go true true ea more = more (gone (add.call == m) refl ea h)
    go true false ea more = or-more (is_add m q add) _ _ more h
    go false b ea more = or-more (is_add m q add) _ _ more h

-- a reply that is handed out leaves what waits noted
ended-notes : (n m call : ℕ) (key : List ℕ) (o : Option Adding) (s : Stamps) → find (is_of_call call) s.adds ≡ o → m ≢ call → Noted n s.adds m key → Noted n (ended o s).adds m key
ended-notes n m call key None s e other h = h
ended-notes n m call key (Some add) s e other h = others-stay m add.slot add.call (slot_of key n) (λ same. other (same ∙ found-call call add s.adds e)) s.adds h
  where
    found-call : (call : ℕ) (add : Adding) (adds : List Adding) → find (is_of_call call) adds ≡ Some add → add.call ≡ call
    found-call call add [] h = absurd (cc)
    found-call call add (x ∷ xs) h = go (x.call == call) refl h (found-call call add xs)
      where
        go : (b : Bool) → (x.call == call) ≡ b → (if b then Some x else find (is_of_call call) xs) ≡ Some add → (find (is_of_call call) xs ≡ Some add → add.call ≡ call) → add.call ≡ call
        go true e h more = let same : x ≡ add = cc in ap (λ (y : Adding). y.call) (sym same) ∙ grind (arith, e)
        go false e h more = more h

not-open : (n : ℕ) (calls : List Call) → open_call n calls ≡ None → (call : Call) → IsAmong call calls → call.number ≢ n
not-open n [] e call h same = absurd h
not-open n (c ∷ calls) e call h same = go (c.number == n) refl e h (not-open n calls)
  where
    go : (b : Bool) → (c.number == n) ≡ b → (if b then Some c else open_call n calls) ≡ None → (call ≡ c) ⊎ IsAmong call calls → (open_call n calls ≡ None → (call : Call) → IsAmong call calls → call.number ≢ n) → ⊥
    go true t e h more = absurd (cc)
    go false t e (inl is) more = let number : c.number ≡ n = ap (λ (x : Call). x.number) (sym is) ∙ same in absurd (grind (arith, t, number))
    go false t e (inr among) more = more e call among same

-- ---- a step

pub kind-known : (n t : ℕ) (kind : Kind) (s : Stamps) → Known n t s → Known n t (stamped_by kind s)
kind-known n t (Changing key) s k = known-after n t (steps.Change key) s k
kind-known n t (Waiting call key) s k = known-after n t (steps.Wait call key) s k
kind-known n t (Replying call) s k = known-after n t (steps.Reply call) s k
kind-known n t Other s k = k

pub kind-barred : (n t q : ℕ) (kind : Kind) (s : Stamps) → Known n t s → q < n → IsBarred q t s → IsBarred q t (stamped_by kind s)
kind-barred n t q (Changing key) s k h bar = barred-after n t q (steps.Change key) s k h bar
kind-barred n t q (Waiting call key) s k h bar = barred-after n t q (steps.Wait call key) s k h bar
kind-barred n t q (Replying call) s k h bar = barred-after n t q (steps.Reply call) s k h bar
kind-barred n t q Other s k h bar = bar

-- what is so of the calls that were open, and of those that a step begins
wider : (P Q : ℕ → List ℕ → Type 0) (h : List Note) → ((m : ℕ) (k : List ℕ) → P m k → Q m k) → Holds P h → Holds Q h
wider P Q h f held = λ c among key e. f c.number key (held c among key e)

pub wider-begins : (P Q : ℕ → List ℕ → Type 0) (part : List Note) → ((m : ℕ) (k : List ℕ) → P m k → Q m k) → OnlyBegins P part → OnlyBegins Q part
wider-begins P Q [] f h = tt
wider-begins P Q (Begin call client op ∷ part) f h = (λ key e. f call key (h.0 key e), wider-begins P Q part f h.1)
wider-begins P Q (note ∷ part) f h = wider-begins P Q part f h

both : (a b c d : ℕ) → a ≡ b → c ≡ d → ((a == b) && (c == d)) ≡ true
both a b c d e f = go (a == b) (c == d) refl refl
  where
    go : (x y : Bool) → (a == b) ≡ x → (c == d) ≡ y → (x && y) ≡ true
    go true true ex ey = refl
    go true false ex ey = absurd (grind (arith, ey, f))
    go false y ex ey = absurd (grind (arith, ex, e))

-- a new add that waits is noted
new-noted : (n call : ℕ) (other : List ℕ) (s : Stamps) → length s.slots ≡ n → (m : ℕ) (key : List ℕ) → m ≡ call → key ≡ other → Noted n (with_add call other s).adds m key
new-noted n call other s size m key is own = any-last (is_add m (slot_of key n)) (record { call = call; slot = slot_of other (length s.slots) }) s.adds (both call m (slot_of other (length s.slots)) (slot_of key n) (sym is) (ap (slot_of other) size ∙ ap (λ x. slot_of x n) (sym own)))

module _ (n t : ℕ) (key : List ℕ) where
  -- a change of the key bars the ticket
  bars-kind : (kind : Kind) (older part : List Note) (s : Stamps) → Known n t s → slot_of key n < n → AreNoted n older s → Tells kind older part
      → (changes_of key (past older part) ≡ changes_of key older) ⊎ IsBarred (slot_of key n) t (stamped_by kind s)
  bars-kind (Changing other) older part s k h noted tells = go (part-changes P key part older (wider (Noted n s.adds) P older (λ m key x. inl x) noted) (wider-begins _ P part (λ m key x. inr x) tells.0))
    where
      P : ℕ → List ℕ → Type 0
      P m key = Noted n s.adds m key ⊎ (key ≡ other)

      go : (changes_of key (past older part) ≡ changes_of key older) ⊎ ((m : ℕ) × P m key) → (changes_of key (past older part) ≡ changes_of key older) ⊎ IsBarred (slot_of key n) t (changed other s)
      go (inl same) = inl same
      go (inr (m, inl waits)) = inr (kind-barred n t (slot_of key n) (Changing other) s k h (inr (waits-in m (slot_of key n) s.adds waits)))
      go (inr (m, inr own)) = inr (inl (subst (λ q. t < slice_index (changed other s).slots q) (ap (slot_of other) k.size ∙ ap (λ x. slot_of x n) (sym own)) (stamped-bars n t (slot_of other (length s.slots)) s k (subst (λ q. q < n) (sym (ap (slot_of other) k.size ∙ ap (λ x. slot_of x n) (sym own))) h))))
  bars-kind (Waiting call other) older part s k h noted tells = go (part-changes (Noted n (with_add call other s).adds) key part older (wider (Noted n s.adds) _ older (λ m key x. any-push _ _ s.adds x) noted) (wider-begins _ _ part (λ m key x. new-noted n call other s k.size m key x.0 x.1) tells))
    where
      go : (changes_of key (past older part) ≡ changes_of key older) ⊎ ((m : ℕ) × Noted n (with_add call other s).adds m key) → (changes_of key (past older part) ≡ changes_of key older) ⊎ IsBarred (slot_of key n) t (with_add call other s)
      go (inl same) = inl same
      go (inr (m, waits)) = inr (inr (waits-in m (slot_of key n) (with_add call other s).adds waits))
  bars-kind (Replying call) older part s k h noted tells = go (part-changes (Noted n s.adds) key part older noted (wider-begins _ _ part (λ m key x. absurd x) tells.0))
    where
      go : (changes_of key (past older part) ≡ changes_of key older) ⊎ ((m : ℕ) × Noted n s.adds m key) → (changes_of key (past older part) ≡ changes_of key older) ⊎ IsBarred (slot_of key n) t (replied call s)
      go (inl same) = inl same
      go (inr (m, waits)) = inr (kind-barred n t (slot_of key n) (Replying call) s k h (inr (waits-in m (slot_of key n) s.adds waits)))
  bars-kind Other older part s k h noted tells = go (part-changes (Noted n s.adds) key part older noted (wider-begins _ _ part (λ m key x. absurd x) tells))
    where
      go : (changes_of key (past older part) ≡ changes_of key older) ⊎ ((m : ℕ) × Noted n s.adds m key) → (changes_of key (past older part) ≡ changes_of key older) ⊎ IsBarred (slot_of key n) t s
      go (inl same) = inl same
      go (inr (m, waits)) = inr (inr (waits-in m (slot_of key n) s.adds waits))

noted-kind : (n t : ℕ) (kind : Kind) (older part : List Note) (s : Stamps) → Known n t s → AreNoted n older s → Tells kind older part → AreNoted n (past older part) (stamped_by kind s)
noted-kind n t (Changing other) older part s k noted tells = λ call among key e. noted call (tells.1 call among) key e
noted-kind n t (Waiting call other) older part s k noted tells = holds-past (Noted n (with_add call other s).adds) part older (wider (Noted n s.adds) _ older (λ m key x. any-push _ _ s.adds x) noted) (wider-begins _ _ part (λ m key x. new-noted n call other s k.size m key x.0 x.1) tells)
noted-kind n t (Replying call) older part s k noted tells = λ c among key e. ended-notes n c.number call key (find (is_of_call call) s.adds) s refl (not-open call (open_calls (past older part)) tells.1 c among) (holds-past (Noted n s.adds) part older noted (wider-begins _ _ part (λ m key x. absurd x) tells.0) c among key e)
noted-kind n t Other older part s k noted tells = holds-past (Noted n s.adds) part older noted (wider-begins _ _ part (λ m key x. absurd x) tells)

-- ---- any steps

barred-all : (n t q : ℕ) (later : List Step) (s : Stamps) → Known n t s → q < n → IsBarred q t s → IsBarred q t (stamps_after later s)
barred-all n t q [] s k h bar = bar
barred-all n t q (step ∷ later) s k h bar = barred-all n t q later (stamped_by step.kind s) (kind-known n t step.kind s k) h (kind-barred n t q step.kind s k h bar)

known-all : (n t : ℕ) (later : List Step) (s : Stamps) → Known n t s → Known n t (stamps_after later s)
known-all n t [] s k = k
known-all n t (step ∷ later) s k = known-all n t later (stamped_by step.kind s) (kind-known n t step.kind s k)

bars-all : (n t : ℕ) (key : List ℕ) (later : List Step) (older : List Note) (s : Stamps) → Known n t s → slot_of key n < n → AreNoted n older s → AllTell later older
    → (changes_of key (log_after later older) ≡ changes_of key older) ⊎ IsBarred (slot_of key n) t (stamps_after later s)
bars-all n t key [] older s k h noted tell = inl refl
bars-all n t key (step ∷ later) older s k h noted tell = go (bars-kind n t key step.kind older step.part s k h noted tell.0)
    (bars-all n t key later (past older step.part) (stamped_by step.kind s) (kind-known n t step.kind s k) h (noted-kind n t step.kind older step.part s k noted tell.0) tell.1)
  where
    go : (changes_of key (past older step.part) ≡ changes_of key older) ⊎ IsBarred (slot_of key n) t (stamped_by step.kind s)
        → (changes_of key (log_after later (past older step.part)) ≡ changes_of key (past older step.part)) ⊎ IsBarred (slot_of key n) t (stamps_after later (stamped_by step.kind s))
        → (changes_of key (log_after later (past older step.part)) ≡ changes_of key older) ⊎ IsBarred (slot_of key n) t (stamps_after later (stamped_by step.kind s))
    go (inl one) (inl more) = inl (more ∙ one)
    go (inl one) (inr bar) = inr bar
    go (inr bar) more = inr (barred-all n t (slot_of key n) later (stamped_by step.kind s) (kind-known n t step.kind s k) h bar)

fresh-from : (n t : ℕ) (key : List ℕ) (earlier later : List Step) (older : List Note) (s : Stamps) → 0 < n → Known n 0 s → AreNoted n older s → AllTell (earlier ++ later) older
    → ticket_at (stamps_after earlier s) ≡ Some t → is_fresh key t (stamps_after (earlier ++ later) s) ≡ true
    → changes_of key (log_after (earlier ++ later) older) ≡ changes_of key (log_after earlier older)
fresh-from n t key [] later older s some k noted tell ticket fresh = go (bars-all n t key later older s known (mod-lt _ some) noted tell)
  where
    known : Known n t s
    known = subst (λ m. Known m t s) k.size (ticket-known s t ticket)

    go : (changes_of key (log_after later older) ≡ changes_of key older) ⊎ IsBarred (slot_of key n) t (stamps_after later s) → changes_of key (log_after later older) ≡ changes_of key older
    go (inl same) = same
    go (inr bar) = let stale : is_fresh key t (stamps_after later s) ≡ false = barred-stale n t key (stamps_after later s) (known-all n t later s known).size bar in let no : true ≡ false = sym fresh ∙ stale in absurd (cc)
fresh-from n t key (step ∷ earlier) later older s some k noted tell ticket fresh =
    fresh-from n t key earlier later (past older step.part) (stamped_by step.kind s) some (kind-known n 0 step.kind s k) (noted-kind n 0 step.kind older step.part s k noted tell.0) tell.1 ticket fresh

pub fresh-over : FreshOverLog
fresh-over s earlier later key t some none tell ticket fresh = fresh-from (length s.slots) t key earlier later [] s some (record { few = omega arith; past = omega arith; size = refl }) (λ call among key e. absurd among) tell ticket fresh
