use Rattle.std.proofs.Common.{◌≡◌, ℕ, suc, ◌<◌, nat_lt, true, List, [], ◌∷◌, get_or, Fits, w8, refl, arith}
use Rattle.std.proofs.lemmas.Bool.{and_from, lt-ltb}
use Rattle.hc_log_text.specs.Said.{is_bytes}
use Rattle.hc_log_text.proofs.held.bytes_fit.Goals as goal

all-fit : (bytes : List ℕ) → ((i : ℕ) → Fits w8 (get_or bytes i 0)) → is_bytes bytes ≡ true
all-fit [] h = refl
all-fit (b ∷ bytes) h =
    let fit : Fits w8 b = h 0 in
    let first : b < 256 = omega (arith, fit) in
    and_from (nat_lt b 256) (is_bytes bytes) (lt-ltb b 256 first) (all-fit bytes (λ i. h (suc i)))

pub returns : goal.returns
returns c = all-fit c.args.bytes.now c.type_inv.bytes
