-- A word that is written to SipHash leaves apart what was apart.
use Rattle.std.proofs.Common.{◌≡◌, ℕ, ◌<◌, ◌^◌, ◌+◌, ◌*◌, ◌%◌, ◌/◌, sym, ap, refl, ◌∙◌, arith}
use Rattle.std.specs.Int.Bits.{bit_xor, bit_or, xor_assoc, xor_self, xor_zero_r, and_shifted}
use Rattle.std.specs.Int.{w64, rotate_left}
use Rattle.std.proofs.lemmas.Nat.{or_disjoint, xor_lt}
use Rattle.std.specs.declared.hash.DefaultHasher.{DefaultHasher as State}
use Rattle.std.specs.Hash.DefaultHasher.{wrapping_add, round, write_word}
use Rattle.hc_paged.specs.Digests.{IsState}

-- ---- each operation of a round can be taken back

xor_back : (a n : ℕ) → bit_xor (bit_xor n a) a ≡ n
xor_back a n = xor_assoc n a a ∙ ap (bit_xor n) (xor_self a) ∙ xor_zero_r n

xor_cancel : {a b : ℕ} (x y : ℕ) → a ≡ b → bit_xor x a ≡ bit_xor y b → x ≡ y
xor_cancel {a = a} {b = b} x y one same = sym (xor_back b x) ∙ ap (λ n. bit_xor n b) (ap (bit_xor x) (sym one) ∙ same) ∙ xor_back b y

add_cancel : {a b : ℕ} (x y : ℕ) → a ≡ b → x < 2 ^ 64 → y < 2 ^ 64 → wrapping_add x a ≡ wrapping_add y b → x ≡ y
add_cancel x y one small less same = omega arith

turned_13 : (n : ℕ) → n < 2 ^ 64 → rotate_left w64 n 13 ≡ (n % 2 ^ 51) * 2 ^ 13 + n / 2 ^ 51
turned_13 n small =
    let high : (n * 2 ^ 13) % 2 ^ 64 ≡ (n % 2 ^ 51) * 2 ^ 13 = omega arith in
    let low : n / 2 ^ 51 < 2 ^ 13 = omega arith in
    ap (λ m. bit_or m (n / 2 ^ 51)) high ∙ or_disjoint _ _ (and_shifted (n % 2 ^ 51) 13 (n / 2 ^ 51) low)

turn_13 : (x y : ℕ) → x < 2 ^ 64 → y < 2 ^ 64 → rotate_left w64 x 13 ≡ rotate_left w64 y 13 → x ≡ y
turn_13 x y small less same =
    let sums : (x % 2 ^ 51) * 2 ^ 13 + x / 2 ^ 51 ≡ (y % 2 ^ 51) * 2 ^ 13 + y / 2 ^ 51 = sym (turned_13 x small) ∙ same ∙ turned_13 y less in
    omega (sums, small, less, arith)

turned_16 : (n : ℕ) → n < 2 ^ 64 → rotate_left w64 n 16 ≡ (n % 2 ^ 48) * 2 ^ 16 + n / 2 ^ 48
turned_16 n small =
    let high : (n * 2 ^ 16) % 2 ^ 64 ≡ (n % 2 ^ 48) * 2 ^ 16 = omega arith in
    let low : n / 2 ^ 48 < 2 ^ 16 = omega arith in
    ap (λ m. bit_or m (n / 2 ^ 48)) high ∙ or_disjoint _ _ (and_shifted (n % 2 ^ 48) 16 (n / 2 ^ 48) low)

turn_16 : (x y : ℕ) → x < 2 ^ 64 → y < 2 ^ 64 → rotate_left w64 x 16 ≡ rotate_left w64 y 16 → x ≡ y
turn_16 x y small less same =
    let sums : (x % 2 ^ 48) * 2 ^ 16 + x / 2 ^ 48 ≡ (y % 2 ^ 48) * 2 ^ 16 + y / 2 ^ 48 = sym (turned_16 x small) ∙ same ∙ turned_16 y less in
    omega (sums, small, less, arith)

turned_17 : (n : ℕ) → n < 2 ^ 64 → rotate_left w64 n 17 ≡ (n % 2 ^ 47) * 2 ^ 17 + n / 2 ^ 47
turned_17 n small =
    let high : (n * 2 ^ 17) % 2 ^ 64 ≡ (n % 2 ^ 47) * 2 ^ 17 = omega arith in
    let low : n / 2 ^ 47 < 2 ^ 17 = omega arith in
    ap (λ m. bit_or m (n / 2 ^ 47)) high ∙ or_disjoint _ _ (and_shifted (n % 2 ^ 47) 17 (n / 2 ^ 47) low)

turn_17 : (x y : ℕ) → x < 2 ^ 64 → y < 2 ^ 64 → rotate_left w64 x 17 ≡ rotate_left w64 y 17 → x ≡ y
turn_17 x y small less same =
    let sums : (x % 2 ^ 47) * 2 ^ 17 + x / 2 ^ 47 ≡ (y % 2 ^ 47) * 2 ^ 17 + y / 2 ^ 47 = sym (turned_17 x small) ∙ same ∙ turned_17 y less in
    omega (sums, small, less, arith)

turned_21 : (n : ℕ) → n < 2 ^ 64 → rotate_left w64 n 21 ≡ (n % 2 ^ 43) * 2 ^ 21 + n / 2 ^ 43
turned_21 n small =
    let high : (n * 2 ^ 21) % 2 ^ 64 ≡ (n % 2 ^ 43) * 2 ^ 21 = omega arith in
    let low : n / 2 ^ 43 < 2 ^ 21 = omega arith in
    ap (λ m. bit_or m (n / 2 ^ 43)) high ∙ or_disjoint _ _ (and_shifted (n % 2 ^ 43) 21 (n / 2 ^ 43) low)

turn_21 : (x y : ℕ) → x < 2 ^ 64 → y < 2 ^ 64 → rotate_left w64 x 21 ≡ rotate_left w64 y 21 → x ≡ y
turn_21 x y small less same =
    let sums : (x % 2 ^ 43) * 2 ^ 21 + x / 2 ^ 43 ≡ (y % 2 ^ 43) * 2 ^ 21 + y / 2 ^ 43 = sym (turned_21 x small) ∙ same ∙ turned_21 y less in
    omega (sums, small, less, arith)

turned_32 : (n : ℕ) → n < 2 ^ 64 → rotate_left w64 n 32 ≡ (n % 2 ^ 32) * 2 ^ 32 + n / 2 ^ 32
turned_32 n small =
    let high : (n * 2 ^ 32) % 2 ^ 64 ≡ (n % 2 ^ 32) * 2 ^ 32 = omega arith in
    let low : n / 2 ^ 32 < 2 ^ 32 = omega arith in
    ap (λ m. bit_or m (n / 2 ^ 32)) high ∙ or_disjoint _ _ (and_shifted (n % 2 ^ 32) 32 (n / 2 ^ 32) low)

turn_32 : (x y : ℕ) → x < 2 ^ 64 → y < 2 ^ 64 → rotate_left w64 x 32 ≡ rotate_left w64 y 32 → x ≡ y
turn_32 x y small less same =
    let sums : (x % 2 ^ 32) * 2 ^ 32 + x / 2 ^ 32 ≡ (y % 2 ^ 32) * 2 ^ 32 + y / 2 ^ 32 = sym (turned_32 x small) ∙ same ∙ turned_32 y less in
    omega (sums, small, less, arith)

-- a turned word is a word
within_13 : (n : ℕ) → n < 2 ^ 64 → rotate_left w64 n 13 < 2 ^ 64
within_13 n small = omega (turned_13 n small, small, arith)

within_16 : (n : ℕ) → n < 2 ^ 64 → rotate_left w64 n 16 < 2 ^ 64
within_16 n small = omega (turned_16 n small, small, arith)

within_32 : (n : ℕ) → n < 2 ^ 64 → rotate_left w64 n 32 < 2 ^ 64
within_32 n small = omega (turned_32 n small, small, arith)

-- ---- a round

abbrev a0 : State → ℕ
a0 s = wrapping_add s.v0 s.v1

abbrev a2 : State → ℕ
a2 s = wrapping_add s.v2 s.v3

abbrev a1 : State → ℕ
a1 s = bit_xor (rotate_left w64 s.v1 13) (a0 s)

abbrev a3 : State → ℕ
a3 s = bit_xor (rotate_left w64 s.v3 16) (a2 s)

abbrev b2 : State → ℕ
b2 s = wrapping_add (a2 s) (a1 s)

abbrev b0 : State → ℕ
b0 s = wrapping_add (rotate_left w64 (a0 s) 32) (a3 s)

is_word : (x y : ℕ) → wrapping_add x y < 2 ^ 64
is_word x y = omega arith

a1_is_word : (s : State) → IsState s → a1 s < 2 ^ 64
a1_is_word s is = xor_lt 64 _ _ (within_13 s.v1 is.v1) (is_word s.v0 s.v1)

a3_is_word : (s : State) → IsState s → a3 s < 2 ^ 64
a3_is_word s is = xor_lt 64 _ _ (within_16 s.v3 is.v3) (is_word s.v2 s.v3)

round_apart : (s t : State) → IsState s → IsState t → round s ≡ round t → s ≡ t
unfolding round
round_apart s t is are same =
    let v0 : b0 s ≡ b0 t = ap (λ (x : State). x.v0) same in
    let v1 : bit_xor (rotate_left w64 (a1 s) 17) (b2 s) ≡ bit_xor (rotate_left w64 (a1 t) 17) (b2 t) = ap (λ (x : State). x.v1) same in
    let v2 : rotate_left w64 (b2 s) 32 ≡ rotate_left w64 (b2 t) 32 = ap (λ (x : State). x.v2) same in
    let v3 : bit_xor (rotate_left w64 (a3 s) 21) (b0 s) ≡ bit_xor (rotate_left w64 (a3 t) 21) (b0 t) = ap (λ (x : State). x.v3) same in
    let at_b2 : b2 s ≡ b2 t = turn_32 (b2 s) (b2 t) (is_word (a2 s) (a1 s)) (is_word (a2 t) (a1 t)) v2 in
    let at_a1 : a1 s ≡ a1 t = turn_17 (a1 s) (a1 t) (a1_is_word s is) (a1_is_word t are) (xor_cancel _ _ at_b2 v1) in
    let at_a3 : a3 s ≡ a3 t = turn_21 (a3 s) (a3 t) (a3_is_word s is) (a3_is_word t are) (xor_cancel _ _ v0 v3) in
    let at_a2 : a2 s ≡ a2 t = add_cancel (a2 s) (a2 t) at_a1 (is_word s.v2 s.v3) (is_word t.v2 t.v3) at_b2 in
    let turned : rotate_left w64 (a0 s) 32 ≡ rotate_left w64 (a0 t) 32 = add_cancel _ _ at_a3 (within_32 (a0 s) (is_word s.v0 s.v1)) (within_32 (a0 t) (is_word t.v0 t.v1)) v0 in
    let at_a0 : a0 s ≡ a0 t = turn_32 (a0 s) (a0 t) (is_word s.v0 s.v1) (is_word t.v0 t.v1) turned in
    let at_1 : s.v1 ≡ t.v1 = turn_13 s.v1 t.v1 is.v1 are.v1 (xor_cancel _ _ at_a0 at_a1) in
    let at_3 : s.v3 ≡ t.v3 = turn_16 s.v3 t.v3 is.v3 are.v3 (xor_cancel _ _ at_a2 at_a3) in
    let at_0 : s.v0 ≡ t.v0 = add_cancel s.v0 t.v0 at_1 is.v0 are.v0 at_a0 in
    let at_2 : s.v2 ≡ t.v2 = add_cancel s.v2 t.v2 at_3 is.v2 are.v2 at_a2 in
    let tails : s.tail ≡ t.tail = ap (λ (x : State). x.tail) same in
    let lengths : s.length ≡ t.length = ap (λ (x : State). x.length) same in
    λ i. record { v0 = at_0 i; v1 = at_1 i; v2 = at_2 i; v3 = at_3 i; tail = tails i; length = lengths i }

-- ---- a word

abbrev with_word : State → ℕ → State
with_word s word = record { v0 = s.v0; v1 = s.v1; v2 = s.v2; v3 = bit_xor s.v3 word; tail = s.tail; length = s.length }

still : (s : State) (word : ℕ) → IsState s → word < 2 ^ 64 → IsState (with_word s word)
still s word is small = record { v0 = is.v0; v1 = is.v1; v2 = is.v2; v3 = xor_lt 64 _ _ is.v3 small }

pub apart : (s t : State) (word : ℕ) → IsState s → IsState t → word < 2 ^ 64 → write_word s word ≡ write_word t word → s ≡ t
unfolding write_word
apart s t word is are small same =
    let u = round (with_word s word) in
    let w = round (with_word t word) in
    let v0 : u.v0 ≡ w.v0 = xor_cancel _ _ refl (ap (λ (x : State). x.v0) same) in
    let v1 : u.v1 ≡ w.v1 = ap (λ (x : State). x.v1) same in
    let v2 : u.v2 ≡ w.v2 = ap (λ (x : State). x.v2) same in
    let v3 : u.v3 ≡ w.v3 = ap (λ (x : State). x.v3) same in
    let tails : u.tail ≡ w.tail = ap (λ (x : State). x.tail) same in
    let lengths : u.length ≡ w.length = ap (λ (x : State). x.length) same in
    let before = round_apart (with_word s word) (with_word t word) (still s word is small) (still t word are small) (λ i. record { v0 = v0 i; v1 = v1 i; v2 = v2 i; v3 = v3 i; tail = tails i; length = lengths i }) in
    let at_3 : s.v3 ≡ t.v3 = xor_cancel s.v3 t.v3 refl (ap (λ (x : State). x.v3) before) in
    λ i. record { v0 = (before i).v0; v1 = (before i).v1; v2 = (before i).v2; v3 = at_3 i; tail = (before i).tail; length = (before i).length }
