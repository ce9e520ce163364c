-- Whoever changed a key is noticed by every ticket that was handed out before.
use Rattle.std.proofs.Common.{◌≡◌, ◌≢◌, ◌⊎◌, inl, inr, ℕ, ◌+◌, ◌<◌, ◌≤◌, ◌==◌, nat_lt, nat_le, Bool, true, false, not, ◌&&◌, ◌||◌, List, [], ◌∷◌, ◌++◌, length, Option, Some, None, refl, sym, ap, ◌∙◌, subst, arith, slice_index, slice_set, filter, find, bytes_eq, length-set, get_or-set_same, get_or-set_other, mod-lt}
use Rattle.std.specs.Prelude.{if◌then◌else◌}
use Rattle.std.specs.List.{list_any}
use Rattle.std.proofs.lemmas.List.Folds.{list_any-append}
use Rattle.std.proofs.lemmas.Slice.Eq.{bytes_eq-Decides}
use Rattle.hc_lease.specs.Stamps.{Stamps, slot_of, next_count, stamped, changed, ticket_at, is_add_in, is_of_call, is_add, is_fresh, ended}
use Rattle.hc_lease.specs.Steps.{Step, Change, Wait, Answer, Reply, after, run, May, AllMay, is_change, FreshIsUnchanged}
use Rattle.hc_lease.specs.declared.stamps.Adding.{Adding}

abbrev pub most : ℕ
most = 18446744073709551615

-- the next change comes after every ticket
pub next-later : (ticket count : ℕ) → ticket < most → ticket ≤ count → ticket < next_count count
next-later ticket count few h = go (nat_lt count most) refl
  where
    go : (b : Bool) → nat_lt count most ≡ b → ticket < (if b then count + 1 else count)
    go true e = grind arith
    go false e = grind (arith, e, few)

pub next-more : (ticket count : ℕ) → ticket ≤ count → ticket ≤ next_count count
next-more ticket count h = go (nat_lt count most)
  where
    go : (b : Bool) → ticket ≤ (if b then count + 1 else count)
    go true = grind arith
    go false = h

-- a ticket that was handed out before, of so many slots
pub record Known (slots ticket : ℕ) (stamps : Stamps) : Type 0 where
  pub few : ticket < most
  pub past : ticket ≤ stamps.count
  pub size : length stamps.slots ≡ slots

-- a key of the slot was changed since, or one may be by an add that waits
abbrev pub IsBarred : (slot ticket : ℕ) → Stamps → Type 0
IsBarred slot ticket stamps = (ticket < slice_index stamps.slots slot) ⊎ (list_any (is_add_in slot) stamps.adds ≡ true)

pub known-stamped : (n t r : ℕ) (s : Stamps) → Known n t s → Known n t (stamped r s)
known-stamped n t r s k = record { few = k.few; past = next-more t s.count k.past; size = length-set s.slots r (next_count s.count) ∙ k.size }

pub stamped-bars : (n t r : ℕ) (s : Stamps) → Known n t s → r < n → t < slice_index (stamped r s).slots r
stamped-bars n t r s k h = rw (get_or-set_same s.slots r (next_count s.count) 0 (rw k.size h)) (next-later t s.count k.few k.past)

-- another change takes no bar away
pub stamped-later : (n t q r : ℕ) (s : Stamps) → Known n t s → q < n → t < slice_index s.slots q → t < slice_index (stamped r s).slots q
stamped-later n t q r s k h bar = go (q == r) refl
  where
    go : (b : Bool) → (q == r) ≡ b → t < slice_index (slice_set s.slots r (next_count s.count)) q
    go true e = let same : q ≡ r = grind (arith, e) in subst (λ x. t < slice_index (slice_set s.slots x (next_count s.count)) q) same (stamped-bars n t q s k h)
    go false e = let other : q ≢ r = grind (arith, e) in rw (get_or-set_other s.slots r q (next_count s.count) 0 other) bar

pub stamped-barred : (n t q r : ℕ) (s : Stamps) → Known n t s → q < n → IsBarred q t s → IsBarred q t (stamped r s)
stamped-barred n t q r s k h (inl bar) = inl (stamped-later n t q r s k h bar)
stamped-barred n t q r s k h (inr bar) = inr bar

-- an add that ends leaves those of other slots
others-stay : (q c r : ℕ) → q ≢ r → (adds : List Adding) → list_any (is_add_in q) (filter (λ other. not (is_add c r other)) adds) ≡ list_any (is_add_in q) adds
others-stay q c r other [] = refl
others-stay q c r other (add ∷ adds) = go (add.call == c) (add.slot == r) (add.slot == q) refl refl (others-stay q c r other adds)
  where
    go : (a b d : Bool) → (add.slot == r) ≡ b → (add.slot == q) ≡ d
        → list_any (is_add_in q) (filter (λ x. not (is_add c r x)) adds) ≡ list_any (is_add_in q) adds
        → list_any (is_add_in q) (if not (a && b) then add ∷ filter (λ x. not (is_add c r x)) adds else filter (λ x. not (is_add c r x)) adds) ≡ (d || list_any (is_add_in q) adds)
    go true true true eb ed more = absurd (other (grind (arith, eb, ed)))
    go true true false eb ed more = more
    go true false d eb ed more = rw ed (ap (λ x. d || x) more)
    go false b d eb ed more = rw ed (ap (λ x. d || x) more)

pub ended-barred : (n t q : ℕ) (o : Option Adding) (s : Stamps) → Known n t s → q < n → IsBarred q t s → IsBarred q t (ended o s)
ended-barred n t q None s k h bar = bar
ended-barred n t q (Some add) s k h (inl bar) = inl (stamped-later n t q add.slot (record s { adds = filter (λ other. not (is_add add.call add.slot other)) s.adds }) (record { few = k.few; past = k.past; size = k.size }) h bar)
ended-barred n t q (Some add) s k h (inr bar) = go (q == add.slot) refl
  where
    go : (b : Bool) → (q == add.slot) ≡ b → IsBarred q t (ended (Some add) s)
    go true e = let same : q ≡ add.slot = grind (arith, e) in inl (subst (λ x. t < slice_index (slice_set s.slots x (next_count s.count)) q) same (stamped-bars n t q s k h))
    go false e = let other : q ≢ add.slot = grind (arith, e) in inr (others-stay q add.call add.slot other s.adds ∙ bar)

pub known-ended : (n t : ℕ) (o : Option Adding) (s : Stamps) → Known n t s → Known n t (ended o s)
known-ended n t None s k = k
known-ended n t (Some add) s k = known-stamped n t add.slot (record s { adds = filter (λ other. not (is_add add.call add.slot other)) s.adds }) (record { few = k.few; past = k.past; size = k.size })

pub known-after : (n t : ℕ) (step : Step) (s : Stamps) → Known n t s → Known n t (after step s)
known-after n t (Change key) s k = known-stamped n t (slot_of key (length s.slots)) s k
known-after n t (Wait call key) s k = record { few = k.few; past = k.past; size = k.size }
known-after n t (Answer call key) s k = k
known-after n t (Reply call) s k = known-ended n t (find (is_of_call call) s.adds) s k

pub known-run : (n t : ℕ) (steps : List Step) (s : Stamps) → Known n t s → Known n t (run steps s)
known-run n t [] s k = k
known-run n t (step ∷ steps) s k = known-run n t steps (after step s) (known-after n t step s k)

-- an add that comes behind leaves the others
pub any-push : (p : Adding → Bool) (new : Adding) (adds : List Adding) → list_any p adds ≡ true → list_any p (adds ++ new ∷ []) ≡ true
any-push p new adds h = list_any-append p adds (new ∷ []) ∙ ap (λ b. b || list_any p (new ∷ [])) h

pub barred-after : (n t q : ℕ) (step : Step) (s : Stamps) → Known n t s → q < n → IsBarred q t s → IsBarred q t (after step s)
barred-after n t q (Change key) s k h bar = stamped-barred n t q (slot_of key (length s.slots)) s k h bar
barred-after n t q (Wait call key) s k h (inl bar) = inl bar
barred-after n t q (Wait call key) s k h (inr bar) = inr (any-push (is_add_in q) (record { call = call; slot = slot_of key (length s.slots) }) s.adds bar)
barred-after n t q (Answer call key) s k h bar = bar
barred-after n t q (Reply call) s k h bar = ended-barred n t q (find (is_of_call call) s.adds) s k h bar

pub barred-run : (n t q : ℕ) (steps : List Step) (s : Stamps) → Known n t s → q < n → IsBarred q t s → IsBarred q t (run steps s)
barred-run n t q [] s k h bar = bar
barred-run n t q (step ∷ steps) s k h bar = barred-run n t q steps (after step s) (known-after n t step s k) h (barred-after n t q step s k h bar)

-- an add that may be answered waits in its slot
pub waits-in : (call slot : ℕ) (adds : List Adding) → list_any (is_add call slot) adds ≡ true → list_any (is_add_in slot) adds ≡ true
waits-in call slot [] h = h
waits-in call slot (add ∷ adds) h = go (add.call == call) (add.slot == slot) h (waits-in call slot adds)
  where
    go : (a b : Bool) → ((a && b) || list_any (is_add call slot) adds) ≡ true → (list_any (is_add call slot) adds ≡ true → list_any (is_add_in slot) adds ≡ true) → (b || list_any (is_add_in slot) adds) ≡ true
    go a true h more = refl
    go true false h more = more h
    go false false h more = more h

pub is_key : (other key : List ℕ) → bytes_eq other key ≡ true → other ≡ key
is_key other key e = grind (arith, bytes_eq-Decides other key, e)

-- what changes a key bars its slot
change-bars : (n t : ℕ) (key : List ℕ) (step : Step) (s : Stamps) → Known n t s → slot_of key n < n → May step s → is_change key step ≡ true → IsBarred (slot_of key n) t (after step s)
change-bars n t key (Change other) s k h may e = subst (λ q. IsBarred q t (changed other s)) (ap (λ x. slot_of x (length s.slots)) (is_key other key e) ∙ ap (slot_of key) k.size) (inl (stamped-bars n t (slot_of other (length s.slots)) s k (subst (λ q. q < n) (sym (ap (λ x. slot_of x (length s.slots)) (is_key other key e) ∙ ap (slot_of key) k.size)) h)))
change-bars n t key (Answer call other) s k h may e = subst (λ q. IsBarred q t s) (ap (λ x. slot_of x (length s.slots)) (is_key other key e) ∙ ap (slot_of key) k.size) (inr (waits-in call (slot_of other (length s.slots)) s.adds may))
change-bars n t key (Wait call other) s k h may e = absurd (cc)
change-bars n t key (Reply call) s k h may e = absurd (cc)

changes-bar : (n t : ℕ) (key : List ℕ) (steps : List Step) (s : Stamps) → Known n t s → slot_of key n < n → AllMay steps s → list_any (is_change key) steps ≡ true → IsBarred (slot_of key n) t (run steps s)
changes-bar n t key [] s k h may e = absurd (cc)
changes-bar n t key (step ∷ steps) s k h may e = go (is_change key step) refl e (changes-bar n t key steps (after step s) (known-after n t step s k) h may.1)
  where
    go : (b : Bool) → is_change key step ≡ b → (b || list_any (is_change key) steps) ≡ true
        → (list_any (is_change key) steps ≡ true → IsBarred (slot_of key n) t (run steps (after step s)))
        → IsBarred (slot_of key n) t (run steps (after step s))
    go true is e more = barred-run n t (slot_of key n) steps (after step s) (known-after n t step s k) h (change-bars n t key step s k h may.0 is)
    go false is e more = more e

-- what is barred isn't fresh
pub barred-stale : (n t : ℕ) (key : List ℕ) (s : Stamps) → length s.slots ≡ n → IsBarred (slot_of key n) t s → is_fresh key t s ≡ false
barred-stale n t key s size bar = go (slot_of key (length s.slots)) (ap (slot_of key) size) bar
  where
    go : (q : ℕ) → q ≡ slot_of key n → IsBarred (slot_of key n) t s → (nat_le (slice_index s.slots q) t && not (list_any (is_add_in q) s.adds)) ≡ false
    go q e (inl bar) = rw e (go2 (nat_le (slice_index s.slots (slot_of key n)) t) refl)
      where
        go2 : (b : Bool) → nat_le (slice_index s.slots (slot_of key n)) t ≡ b → (b && not (list_any (is_add_in (slot_of key n)) s.adds)) ≡ false
        go2 true h = absurd (grind (arith, h, bar))
        go2 false h = refl
    go q e (inr bar) = rw e (rw bar (go3 (nat_le (slice_index s.slots (slot_of key n)) t)))
      where
        go3 : (b : Bool) → (b && false) ≡ false
        go3 true = refl
        go3 false = refl

-- what is known of a ticket that is handed out
pub ticket-known : (s : Stamps) (t : ℕ) → ticket_at s ≡ Some t → Known (length s.slots) t s
ticket-known s t h = go (nat_lt s.count most) refl h
  where
    go : (b : Bool) → nat_lt s.count most ≡ b → (if b then Some s.count else None) ≡ Some t → Known (length s.slots) t s
    go true e h = let same : s.count ≡ t = cc in record { few = subst (λ x. x < most) same (grind (arith, e)); past = grind (arith, same); size = refl }
    go false e h = absurd (cc)

pub fresh-unchanged : FreshIsUnchanged
fresh-unchanged s steps key t some ticket may fresh = go (list_any (is_change key) steps) refl
  where
    known : Known (length s.slots) t s
    known = ticket-known s t ticket

    within : slot_of key (length s.slots) < length s.slots
    within = mod-lt _ some

    go : (b : Bool) → list_any (is_change key) steps ≡ b → b ≡ false
    go false e = refl
    go true e = let stale : is_fresh key t (run steps s) ≡ false = barred-stale (length s.slots) t key (run steps s) (known-run (length s.slots) t steps s known).size (changes-bar (length s.slots) t key steps s known within may e) in sym fresh ∙ stale
