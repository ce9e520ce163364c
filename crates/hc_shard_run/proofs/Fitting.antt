-- Room that was made is enough.
use Rattle.std.proofs.Common.{◌≡◌, ℕ, ◌+◌, ◌≤◌, arith}

pub room-for : (a b n size capacity : ℕ) → a ≡ b → b ≡ n → size ≡ n → size ≤ capacity → a ≤ capacity
room-for a b n size capacity first next is room = omega (arith, first, next, is, room)

pub room-left : (len n m capacity : ℕ) → len ≡ 0 → n ≡ m → m ≤ capacity → len + n ≤ capacity
room-left len n m capacity none same room = omega (arith, none, same, room)
