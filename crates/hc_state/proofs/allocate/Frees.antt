-- A charge ends.
use Rattle.std.proofs.Common.{◌≡◌, ◌+◌, true, List, length, arith}
use Rattle.hc_memory.specs.Item.{Open}
use Rattle.hc_memory.specs.Charges.{closed, is_open}
use Rattle.hc_memory.proofs.Books.{is_open-found, tally-closed}
use Rattle.hc_memory.proofs.Linking.{ones}

-- there is one less
pub length-closed : (charge : Open) (charges : List Open) → is_open charge charges ≡ true → length (closed charge.number charges) + 1 ≡ length charges
length-closed charge charges there = omega (arith, tally-closed (λ _. 1) charge.number charges charge (is_open-found charge charges there), ones (closed charge.number charges), ones charges)
