-- The tests of records decide what they test.
use Rattle.std.proofs.Common.{◌≡◌, ℕ, ◌≤◌, ◌==◌, ◌&&◌, ◌||◌, nat_le, Bool, true, false, List, [], All, Any, refl, sym, ap, ◌∙◌, arith}
use Rattle.std.specs.Bool.{Decides}
use Rattle.std.specs.List.{list_all, list_any}
use Rattle.std.specs.Str.{bytes_eq}
use Rattle.std.proofs.lemmas.Bool.{false≢true}
use Rattle.std.proofs.lemmas.List.Folds.{Any-from_list_any, list_any-from_Any}
use Rattle.std.proofs.lemmas.Slice.Eq.{bytes_eq-Decides, slice_eq-Decides}
use Rattle.std.proofs.lemmas.Bool.Decides.{Decides-and, Decides-or, Decides-eqb, Decides-by_and, Decides-like, Decides-at}
use Rattle.hc_history.specs.Note.{Op, Insert, Add, Find, Remove, Reply, Stored, Exists, Hit, Miss, FoundInMemory, NotInMemory, Note, Begin, Now}
use Rattle.hc_history.specs.Books.{now_at}
use Rattle.hc_history.specs.Lawful.{past}
use Rattle.hc_client_records.specs.Records.{Entry, OpenCall, Record, finished, Agrees, HasAsked, IsOwn, IsReached, Reconciled}
use Rattle.hc_client_records.specs.Judge.{op_eq, entry_eq, agrees, has_entry, has_open, has_asked, has_ticked, is_own, is_reached, reconciles}
use Rattle.hc_legal.specs.Replies.{reply_eq}

and3 : (P Q R : Type 0) (x y z : Bool) → Decides x P → Decides y Q → Decides z R → Decides ((x && y) && z) (P × Q × R)
and3 P Q R x y z p q r =
    let both = Decides-and {P = P × Q} {Q = R} (x && y) z (Decides-and {P = P} {Q = Q} x y p q) r in
    (λ h. let w = both.0 h in (w.0.0, w.0.1, w.1), λ h. both.1 ((h.0, h.1), h.2))

-- ---- what a call asks, and what it is answered

insert_same : (k v l w : List ℕ) (e f : ℕ) → (k ≡ l) × (v ≡ w) × (e ≡ f) → Insert k v e ≡ Insert l w f
insert_same k v l w e f h = rw (h.0, h.1, h.2) refl

add_same : (k v l w : List ℕ) (e f : ℕ) → (k ≡ l) × (v ≡ w) × (e ≡ f) → Add k v e ≡ Add l w f
add_same k v l w e f h = rw (h.0, h.1, h.2) refl

op_decides : (a b : Op) → Decides (op_eq a b) (a ≡ b)
op_decides (Insert k v e) (Insert l w f) = Decides-like (bytes_eq k l && bytes_eq v w && (e == f)) (insert_same k v l w e f) (λ h. (cc, cc, cc)) (and3 (k ≡ l) (v ≡ w) (e ≡ f) (bytes_eq k l) (bytes_eq v w) (e == f) (bytes_eq-Decides k l) (bytes_eq-Decides v w) (Decides-eqb e f))
op_decides (Add k v e) (Add l w f) = Decides-like (bytes_eq k l && bytes_eq v w && (e == f)) (add_same k v l w e f) (λ h. (cc, cc, cc)) (and3 (k ≡ l) (v ≡ w) (e ≡ f) (bytes_eq k l) (bytes_eq v w) (e == f) (bytes_eq-Decides k l) (bytes_eq-Decides v w) (Decides-eqb e f))
op_decides (Find k) (Find l) = Decides-like (bytes_eq k l) (λ h. ap (λ (x : List ℕ). Find x) h) (λ h. cc) (bytes_eq-Decides k l)
op_decides (Remove k) (Remove l) = Decides-like (bytes_eq k l) (λ h. ap (λ (x : List ℕ). Remove x) h) (λ h. cc) (bytes_eq-Decides k l)
op_decides a b = (λ h. absurd (false≢true h), λ h. absurd cc)

reply_decides : (a b : Reply) → Decides (reply_eq a b) (a ≡ b)
reply_decides Stored Stored = (λ h. refl, λ h. refl)
reply_decides Exists Exists = (λ h. refl, λ h. refl)
reply_decides (Hit v) (Hit w) = Decides-like (bytes_eq v w) (λ h. ap (λ (x : List ℕ). Hit x) h) (λ h. cc) (bytes_eq-Decides v w)
reply_decides Miss Miss = (λ h. refl, λ h. refl)
reply_decides FoundInMemory FoundInMemory = (λ h. refl, λ h. refl)
reply_decides NotInMemory NotInMemory = (λ h. refl, λ h. refl)
reply_decides a b = (λ h. absurd (false≢true h), λ h. absurd cc)

entry_decides : (a b : Entry) → Decides (entry_eq a b) (a ≡ b)
entry_decides a b =
    Decides-like (entry_eq a b) (λ h i. record { call = h.0 i; op = h.1 i; reply = h.2 i }) (λ h. (ap (λ (x : Entry). x.call) h, ap (λ (x : Entry). x.op) h, ap (λ (x : Entry). x.reply) h))
    (and3 (a.call ≡ b.call) (a.op ≡ b.op) (a.reply ≡ b.reply) (a.call == b.call) (op_eq a.op b.op) (reply_eq a.reply b.reply) (Decides-eqb a.call b.call) (op_decides a.op b.op) (reply_decides a.reply b.reply))

agrees_decides : (log : List Note) (r : Record) → Decides (agrees log r) (Agrees log r)
agrees_decides log r = slice_eq-Decides entry_decides (finished r.client [] log) r.entries (agrees log r) refl

-- ---- whose a call is

pub any_decides : {X : Type 0} (test : X → Bool) (P : X → Type 0) → ((x : X) → Decides (test x) (P x)) → (xs : List X) → Decides (list_any test xs) (Any P xs)
any_decides {X} test P decides xs = (
  λ h. let w = Any-from_list_any test xs h in (w.0, w.1, w.2, w.3, (decides w.1).0 w.4),
  λ w. list_any-from_Any test xs (w.0, w.1, w.2, w.3, (decides w.1).1 w.4),
)

all_decides : {X : Type 0} (test : X → Bool) (P : X → Type 0) → ((x : X) → Decides (test x) (P x)) → (xs : List X) → Decides (list_all test xs) (All P xs)
all_decides {X} test P decides xs = Decides-by_and test P (list_all test) decides refl (λ _ _. refl) xs

pub entry_asks : (call : ℕ) (op : Op) (e : Entry) → Decides ((e.call == call) && op_eq e.op op) ((e.call ≡ call) × (e.op ≡ op))
entry_asks call op e = Decides-and {P = e.call ≡ call} {Q = e.op ≡ op} (e.call == call) (op_eq e.op op) (Decides-eqb e.call call) (op_decides e.op op)

pub open_asks : (call : ℕ) (op : Op) (o : OpenCall) → Decides ((o.call == call) && op_eq o.op op) ((o.call ≡ call) × (o.op ≡ op))
open_asks call op o = Decides-and {P = o.call ≡ call} {Q = o.op ≡ op} (o.call == call) (op_eq o.op op) (Decides-eqb o.call call) (op_decides o.op op)

pub asked_decides : (call client : ℕ) (op : Op) (r : Record) → Decides (has_asked call client op r) ((r.client ≡ client) × HasAsked call op r)
asked_decides call client op r =
    Decides-and {P = r.client ≡ client} {Q = HasAsked call op r} (r.client == client) (has_entry call op r.entries || has_open call op r.open_calls) (Decides-eqb r.client client)
    (Decides-or {P = Any (λ (e : Entry). (e.call ≡ call) × (e.op ≡ op)) r.entries} {Q = Any (λ (o : OpenCall). (o.call ≡ call) × (o.op ≡ op)) r.open_calls} (has_entry call op r.entries) (has_open call op r.open_calls)
    (any_decides (λ (e : Entry). (e.call == call) && op_eq e.op op) (λ (e : Entry). (e.call ≡ call) × (e.op ≡ op)) (entry_asks call op) r.entries)
    (any_decides (λ (o : OpenCall). (o.call == call) && op_eq o.op op) (λ (o : OpenCall). (o.call ≡ call) × (o.op ≡ op)) (open_asks call op) r.open_calls))

ticked_decides : (moment : ℕ) (r : Record) → Decides (has_ticked moment r) (Any (λ tick. tick ≡ moment) r.ticks)
ticked_decides moment r = any_decides (λ tick. tick == moment) (λ tick. tick ≡ moment) (λ tick. Decides-eqb tick moment) r.ticks

own_decides : (records : List Record) (note : Note) → Decides (is_own records note) (IsOwn records note)
own_decides records (Begin call client op) = any_decides (has_asked call client op) (λ (r : Record). (r.client ≡ client) × HasAsked call op r) (asked_decides call client op) records
own_decides records (Now moment) = any_decides (has_ticked moment) (λ (r : Record). Any (λ tick. tick ≡ moment) r.ticks) (ticked_decides moment) records
own_decides records note = (λ h. tt, λ h. refl)

le_decides : (a b : ℕ) → Decides (nat_le a b) (a ≤ b)
le_decides a b = (λ h. grind (arith, h), λ h. grind (arith, h))

reached_decides : (log : List Note) (r : Record) → Decides (is_reached (now_at (past [] log)) r) (IsReached log r)
reached_decides log r = all_decides (λ tick. nat_le tick (now_at (past [] log))) (λ tick. tick ≤ now_at (past [] log)) (λ tick. le_decides tick (now_at (past [] log))) r.ticks

-- ---- all three

pub reconciles_decides : (log : List Note) (records : List Record) → Decides (reconciles log records) (Reconciled log records)
reconciles_decides log records =
    let now = now_at (past [] log) in
    let agree = all_decides (agrees log) (Agrees log) (agrees_decides log) records in
    let own = all_decides (is_own records) (IsOwn records) (own_decides records) log in
    let reached = all_decides (is_reached now) (IsReached log) (reached_decides log) records in
    Decides-like (reconciles log records) (λ h. record { agree = h.0; own = h.1; reached = h.2 }) (λ h. (h.agree, h.own, h.reached))
    (and3 (All (Agrees log) records) (All (IsOwn records) log) (All (IsReached log) records) (list_all (agrees log) records) (list_all (is_own records) log) (list_all (is_reached now) records) agree own reached)

-- the tests of one kind after another: one that fails settles the answer
pub disagrees : (log : List Note) (records : List Record) (agree : Bool) → agree ≡ list_all (agrees log) records → agree ≡ false → Decides false (Reconciled log records)
disagrees log records agree a none =
    let own = list_all (is_own records) log in
    let reached = list_all (is_reached (now_at (past [] log))) records in
    Decides-at false (reconciles log records) (λ i. ((sym none ∙ a) i && own) && reached) (reconciles_decides log records)

pub strays : (log : List Note) (records : List Record) (agree own : Bool) → agree ≡ list_all (agrees log) records → agree ≡ true → own ≡ list_all (is_own records) log → own ≡ false → Decides false (Reconciled log records)
strays log records agree own a same o none =
    let reached = list_all (is_reached (now_at (past [] log))) records in
    Decides-at false (reconciles log records) (λ i. ((sym same ∙ a) i && (sym none ∙ o) i) && reached) (reconciles_decides log records)

pub decided : (log : List Note) (records : List Record) (agree own reached : Bool) → agree ≡ list_all (agrees log) records → agree ≡ true → own ≡ list_all (is_own records) log → own ≡ true → reached ≡ list_all (is_reached (now_at (past [] log))) records
    → Decides reached (Reconciled log records)
decided log records agree own reached a same o also r = Decides-at reached (reconciles log records) (λ i. ((sym same ∙ a) i && (sym also ∙ o) i) && r i) (reconciles_decides log records)
