-- Pieces that wait in order, in lanes that may be busy.
use Rattle.std.specs.Prelude.{◌≡◌, ℕ, ◌+◌, ◌==◌, ◌≤◌, nat_lt, Bool, true, false, not, ◌&&◌, ◌||◌, List, [], ◌∷◌, Option, Some, None, find, filter, map, option_map, is_some, ◌<◌, ◌^◌, ◌++◌, length, slice_get, slice_set, if◌then◌else◌}
use Rattle.std.specs.declared.cmp.Ordering.{Ordering}
use Rattle.std.specs.List.{list_any}
use Rattle.std.specs.Ordering.{nat_cmp, ordering_then}
use Rattle.std.specs.BTreeMap.{is_at}
use Rattle.std.specs.BTreeSet.{insert_key}
use Rattle.std.specs.Set.{remove_key}
use Rattle.std.specs.declared.collections.VecDeque.{VecDeque}
use Rattle.std.specs.VecDeque.{deque_len, deque_capacity}
use Rattle.hc_queue.specs.declared.queue.Piece.{Piece}
use Rattle.hc_queue.specs.Queued.{Ordered}

-- a piece in no lane may always go, and one in a lane while that isn't busy
abbrev pub is_open : (ℕ → Bool) → Option ℕ → Bool
is_open busy None = true
is_open busy (Some lane) = not (busy lane)

-- the piece's turn may come
abbrev pub can_go : {V : Type 0} → (ℕ → Bool) → Piece V → Bool
can_go busy piece = not piece.taken && is_open busy piece.lane

-- the lane is busy too
abbrev pub also : ℕ → (ℕ → Bool) → ℕ → Bool
also lane busy l = (l == lane) || busy l

abbrev pub closing : Option ℕ → (ℕ → Bool) → ℕ → Bool
closing None busy = busy
closing (Some lane) busy = also lane busy

-- the numbers of the pieces that can go and are the first of their lane, or in none
abbrev pub firsts : {V : Type 0} → (ℕ → Bool) → List (ℕ × Piece V) → List ℕ
firsts busy [] = []
firsts busy (e ∷ es) = if can_go busy e.1 then e.0 ∷ firsts (closing e.1.lane busy) es else firsts busy es

abbrev pub is_in : ℕ → Option ℕ → Bool
is_in lane None = false
is_in lane (Some l) = l == lane

-- the numbers of the lane's pieces, taken or not
abbrev pub in_lane : {V : Type 0} → ℕ → List (ℕ × Piece V) → List ℕ
in_lane lane [] = []
in_lane lane (e ∷ es) = if is_in lane e.1.lane then e.0 ∷ in_lane lane es else in_lane lane es

-- the numbers of the pieces that wait in the lane
abbrev pub waiting : {V : Type 0} → ℕ → List (ℕ × Piece V) → List ℕ
waiting lane [] = []
waiting lane (e ∷ es) = if not e.1.taken && is_in lane e.1.lane then e.0 ∷ waiting lane es else waiting lane es

-- the numbers beside a lane
abbrev pub beside : ℕ → List (ℕ × ℕ) → List ℕ
beside lane [] = []
beside lane (p ∷ ps) = if p.0 == lane then p.1 ∷ beside lane ps else beside lane ps

abbrev pub first_of : List ℕ → Option ℕ
first_of [] = None
first_of (n ∷ ns) = Some n

-- the number of the first piece, taken or not
abbrev pub oldest : {V : Type 0} → List (ℕ × Piece V) → Option ℕ
oldest [] = None
oldest (e ∷ es) = Some e.0

-- a piece is taken
abbrev pub any_taken : {V : Type 0} → List (ℕ × Piece V) → Bool
any_taken es = list_any (λ (e : ℕ × Piece _). e.1.taken) es

-- the first above n
abbrev pub above : ℕ → List ℕ → Option ℕ
above n ns = find (nat_lt n) ns

-- the number of the lane's first piece, taken or not
abbrev pub first_in_lane : {V : Type 0} → ℕ → List (ℕ × Piece V) → Option ℕ
first_in_lane lane es = first_of (in_lane lane es)

abbrev pub with : Option ℕ → List ℕ → List ℕ
with None ns = ns
with (Some n) ns = insert_key nat_cmp ns n

abbrev pub without : Option ℕ → List ℕ → List ℕ
without None ns = ns
without (Some n) ns = remove_key (is_at (nat_cmp n)) ns

-- the numbers rise, from low on and below high
abbrev pub Rises : {V : Type 0} → ℕ → ℕ → List (ℕ × Piece V) → Type 0
Rises low high [] = low ≤ high
Rises low high (e ∷ es) = (low ≤ e.0) × Rises (e.0 + 1) high es

abbrev pub without_number : {V : Type 0} → ℕ → List (ℕ × Piece V) → List (ℕ × Piece V)
without_number n es = filter (λ (e : ℕ × Piece _). not (e.0 == n)) es

-- ---- a queue

abbrev pub piece_at : {V : Type 0} → ℕ → List (ℕ × Piece V) → Option (Piece V)
piece_at number es = option_map (λ (e : ℕ × Piece _). e.1) (find (λ (e : ℕ × Piece _). e.0 == number) es)

-- the piece with the number is taken from here on
abbrev pub taken_at : {V : Type 0} → ℕ → List (ℕ × Piece V) → List (ℕ × Piece V)
taken_at number es = map (λ (e : ℕ × Piece _). if e.0 == number then (e.0, record e.1 { taken = true }) else e) es

-- the plain list
abbrev pub pieces_of : {V : Type 0} → List (ℕ × Piece V) → List (Piece V)
pieces_of es = map (λ (e : ℕ × Piece _). e.1) es

abbrev pub piece_by : {V : Type 0} → Option ℕ → List (ℕ × Piece V) → Option (Piece V)
piece_by None es = None
piece_by (Some number) es = piece_at number es

abbrev pub IsRising : {V : Type 0} → List (ℕ × Piece V) → Type 0
IsRising es = (high : ℕ) × Rises 0 high es

-- a test of lanes answers by which of them are busy
abbrev pub Answers : (ℕ → Bool → Type 0) → (ℕ → Bool) → Type 0
Answers answers busy = (lane : ℕ) (answer : Bool) → lane < 2 ^ 32 → answers lane answer → answer ≡ busy lane

-- ---- the pieces that stand in order

-- the lane is one of these
abbrev pub is_among : List ℕ → ℕ → Bool
is_among [] lane = false
is_among (l ∷ ls) lane = also l (is_among ls) lane

abbrev pub AreDistinct : List ℕ → Type 0
AreDistinct [] = Unit {0}
AreDistinct (l ∷ ls) = (is_among ls l ≡ false) × AreDistinct ls

-- What holds of them at every time: their lanes, and those of the pieces that wait; and what is ready are the first ones, as if
-- the lanes that were noted were busy.
pub record Kept {V : Type 0} (entries : List (ℕ × Piece V)) (lanes waits : List (ℕ × ℕ)) (ready stale : List ℕ) (most : ℕ) : Type 0 where
  pub rises : IsRising entries
  pub in_lanes : (lane : ℕ) → beside lane lanes ≡ in_lane lane entries
  pub by_lane : (lane : ℕ) → beside lane waits ≡ waiting lane entries
  pub serves : ready ≡ firsts (is_among stale) entries
  pub distinct : AreDistinct stale
  pub room : length stale + length waits ≤ most

-- ---- the steps on their parts

abbrev pub AllBelow : ℕ → List ℕ → Type 0
AllBelow high [] = Unit {0}
AllBelow high (n ∷ ns) = (n < high) × AllBelow high ns

-- the lane of the piece with the number, where that waits
abbrev pub turn_of : {V : Type 0} → ℕ → List (ℕ × Piece V) → Option (Option ℕ)
turn_of number [] = None
turn_of number (e ∷ es) = if number == e.0 then (if e.1.taken then None else Some e.1.lane) else turn_of number es

-- the lane of the piece with the number, taken or not
abbrev pub lane_at : {V : Type 0} → ℕ → List (ℕ × Piece V) → Option ℕ
lane_at number [] = None
lane_at number (e ∷ es) = if number == e.0 then e.1.lane else lane_at number es

abbrev pub pair_cmp : ℕ × ℕ → ℕ × ℕ → Ordering
pair_cmp x y = ordering_then (nat_cmp x.0 y.0) (nat_cmp x.1 y.1)

abbrev pub joined : Option ℕ → ℕ → List (ℕ × ℕ) → List (ℕ × ℕ)
joined None number pairs = pairs
joined (Some lane) number pairs = insert_key pair_cmp pairs (lane, number)

abbrev pub left : Option ℕ → ℕ → List (ℕ × ℕ) → List (ℕ × ℕ)
left None number pairs = pairs
left (Some lane) number pairs = remove_key (is_at (pair_cmp (lane, number))) pairs

-- the lane in which a piece waits
abbrev pub open_lane : {V : Type 0} → Piece V → Option ℕ
open_lane piece = if piece.taken then None else piece.lane

-- a piece that comes now is the first of its lane
abbrev pub comes_first : Option ℕ → List (ℕ × ℕ) → Bool
comes_first None waits = true
comes_first (Some lane) waits = not (is_some (first_of (beside lane waits)))

abbrev pub only_if : Bool → ℕ → Option ℕ
only_if true number = Some number
only_if false number = None

-- the number is above those of the lane
abbrev pub IsNew : Option ℕ → ℕ → List (ℕ × ℕ) → Type 0
IsNew None number pairs = Unit {0}
IsNew (Some lane) number pairs = AllBelow number (beside lane pairs)

-- by a piece's turn, which may have ended
abbrev pub left_by : Option (Option ℕ) → ℕ → List (ℕ × ℕ) → List (ℕ × ℕ)
left_by None number waits = waits
left_by (Some lane) number waits = left lane number waits

abbrev pub unready_by : Option (Option ℕ) → ℕ → List ℕ → List ℕ
unready_by None number ready = ready
unready_by (Some lane) number ready = remove_key (is_at (nat_cmp number)) ready

-- the lane of a piece that was ready is noted
abbrev pub noted : Bool → Option ℕ → List ℕ → List ℕ
noted was_ready None stale = stale
noted was_ready (Some lane) stale = if was_ready then stale ++ lane ∷ [] else stale

abbrev pub noted_by : Option (Option ℕ) → ℕ → List ℕ → List ℕ → List ℕ
noted_by None number ready stale = stale
noted_by (Some lane) number ready stale = noted (list_any (is_at (nat_cmp number)) ready) lane stale

-- a piece that waits in a lane stands there
abbrev pub Waits : Option (Option ℕ) → ℕ → List (ℕ × ℕ) → Type 0
Waits None number waits = Unit {0}
Waits (Some None) number waits = Unit {0}
Waits (Some (Some lane)) number waits = list_any (is_at (pair_cmp (lane, number))) waits ≡ true

-- the piece with the number is in no busy lane
abbrev pub is_free : {V : Type 0} → (ℕ → Bool) → List (ℕ × Piece V) → ℕ → Bool
is_free busy es number = is_open busy (lane_at number es)

-- ---- the pieces that stand in no order yet

-- with their numbers, from this one on; one that went left an empty place
abbrev pub numbered : {V : Type 0} → ℕ → List (Option (Piece V)) → List (ℕ × Piece V)
numbered from [] = []
numbered from (None ∷ xs) = numbered (from + 1) xs
numbered from (Some p ∷ xs) = (from, p) ∷ numbered (from + 1) xs

abbrev pub flat : {X : Type 0} → Option (Option X) → Option X
flat None = None
flat (Some o) = o

-- the piece at a place, where there is one
abbrev pub piece_in : {V : Type 0} → ℕ → List (Option (Piece V)) → Option (Piece V)
piece_in place xs = flat (slice_get xs place)

-- there is a piece, and it is of the lane
abbrev pub is_of : {V : Type 0} → ℕ → Option (Piece V) → Bool
is_of lane None = false
is_of lane (Some p) = is_in lane p.lane

-- there is a piece, and it is taken
abbrev pub is_taken_slot : {V : Type 0} → Option (Piece V) → Bool
is_taken_slot None = false
is_taken_slot (Some p) = p.taken

abbrev pub marked : {V : Type 0} → Option (Piece V) → Option (Piece V)
marked None = None
marked (Some p) = Some (record p { taken = true })

abbrev pub marked_place : {V : Type 0} → ℕ → List (Option (Piece V)) → List (Option (Piece V))
marked_place place xs = slice_set xs place (marked (piece_in place xs))

-- Some of the first places went, and their pieces stand in order: no piece and no room is lost.
pub record Settles {V Z : Type 0} (order : Ordered V) (inbox : VecDeque (Option (Piece V)) Z) (from : ℕ) (order2 : Ordered V) (inbox2 : VecDeque (Option (Piece V)) Z) (from2 : ℕ) : Type 0 where
  pub entries : order2.entries ++ numbered from2 inbox2.items ≡ order.entries ++ numbered from inbox.items
  pub rises : Rises 0 from2 order2.entries
  pub next : from2 + deque_len inbox2 ≡ from + deque_len inbox
  pub shorter : deque_len inbox2 ≤ deque_len inbox
  pub capacity : deque_capacity inbox ≤ deque_capacity inbox2
  pub spare : order.spare + deque_len inbox2 ≤ order2.spare + deque_len inbox

-- What holds of a queue's parts at every time: there is room, in the inbox and for the lanes, for what it says, and there are
-- numbers.
pub record Stands {V Z : Type 0} (order : Ordered V) (inbox : VecDeque (Option (Piece V)) Z) (from room count : ℕ) : Type 0 where
  pub rises : Rises 0 from order.entries
  pub fits : deque_len inbox + room ≤ deque_capacity inbox
  pub spare : deque_len inbox + room ≤ order.spare
  pub numbers : from + deque_len inbox + room < 2 ^ 64
  pub counts : count ≡ length (order.entries ++ numbered from inbox.items)
