-- The same of records as tests that compute.
use Rattle.std.specs.Prelude.{◌≡◌, ℕ, ◌==◌, ◌&&◌, ◌||◌, nat_le, Bool, true, false, List, [], ◌++◌}
use Rattle.std.specs.Cmp.Lexicographic.{pointwise}
use Rattle.std.specs.List.{list_any, list_all}
use Rattle.std.specs.Str.{bytes_eq}
use Rattle.hc_history.specs.Note.{Op, Insert, Add, Find, Remove, Note, Begin, Now}
use Rattle.hc_history.specs.Books.{now_at}
use Rattle.hc_history.specs.Lawful.{past}
use Rattle.hc_client_records.specs.Records.{Entry, OpenCall, Record, finished}
use Rattle.hc_legal.specs.Replies.{reply_eq}

abbrev pub op_eq : Op → Op → Bool
op_eq (Insert k v e) (Insert l w f) = bytes_eq k l && bytes_eq v w && (e == f)
op_eq (Add k v e) (Add l w f) = bytes_eq k l && bytes_eq v w && (e == f)
op_eq (Find k) (Find l) = bytes_eq k l
op_eq (Remove k) (Remove l) = bytes_eq k l
op_eq a b = false

abbrev pub entry_eq : Entry → Entry → Bool
entry_eq a b = (a.call == b.call) && op_eq a.op b.op && reply_eq a.reply b.reply

abbrev pub are_same : List Entry → List Entry → Bool
are_same = pointwise entry_eq

-- the entries begin with these, and so many are left
abbrev pub Leaves : List Entry → List Entry → List Entry → Type 0
Leaves first entries left = (more : List Entry) → are_same (first ++ more) entries ≡ are_same more left

-- they don't begin with these
abbrev pub Differs : List Entry → List Entry → Type 0
Differs first entries = (more : List Entry) → are_same (first ++ more) entries ≡ false

abbrev pub agrees : List Note → Record → Bool
agrees log r = are_same (finished r.client [] log) r.entries

abbrev pub has_entry : ℕ → Op → List Entry → Bool
has_entry call op entries = list_any (λ (e : Entry). (e.call == call) && op_eq e.op op) entries

abbrev pub has_open : ℕ → Op → List OpenCall → Bool
has_open call op left = list_any (λ (o : OpenCall). (o.call == call) && op_eq o.op op) left

abbrev pub has_asked : ℕ → ℕ → Op → Record → Bool
has_asked call client op r = (r.client == client) && (has_entry call op r.entries || has_open call op r.open_calls)

abbrev pub has_ticked : ℕ → Record → Bool
has_ticked moment r = list_any (λ tick. tick == moment) r.ticks

abbrev pub is_own : List Record → Note → Bool
is_own records (Begin call client op) = list_any (has_asked call client op) records
is_own records (Now moment) = list_any (has_ticked moment) records
is_own records note = true

abbrev pub is_reached : ℕ → Record → Bool
is_reached now r = list_all (λ tick. nat_le tick now) r.ticks

abbrev pub reconciles : List Note → List Record → Bool
reconciles log records = list_all (agrees log) records && list_all (is_own records) log && list_all (is_reached (now_at (past [] log))) records
