-- Places that go one after the other, as their pieces come to stand in order.
use Rattle.std.proofs.Common.{◌≡◌, ℕ, ◌≤◌, ◌++◌, List, [], ◌∷◌, length, Option, refl, ap, sym, subst, arith, ◌∙◌}
use Rattle.std.specs.declared.collections.VecDeque.{VecDeque}
use Rattle.std.specs.VecDeque.{deque_len}
use Rattle.hc_queue.specs.declared.queue.Piece.{Piece}
use Rattle.hc_queue.specs.Queued.{Ordered}
use Rattle.hc_queue.specs.Queue.{Rises, numbered, Settles}
use Rattle.hc_queue.proofs.Places.{none-behind}

-- none went yet
pub settles-none : {V Z : Type 0} (order order2 : Ordered V) (inbox : VecDeque (Option (Piece V)) Z) (from : ℕ) → Rises 0 from order.entries → order2.entries ≡ order.entries → order.spare ≤ order2.spare
    → Settles order inbox from order2 inbox from
settles-none order order2 inbox from r e more = record {
  entries = ap (λ (es : List (ℕ × Piece _)). es ++ numbered from inbox.items) e;
  rises = subst (Rises 0 from) (sym e) r;
  next = omega arith;
  shorter = omega arith;
  capacity = omega arith;
  spare = omega (arith, more);
}

pub settles-more : {V Z : Type 0} (order order2 order3 : Ordered V) (inbox inbox2 inbox3 : VecDeque (Option (Piece V)) Z) (from from2 from3 : ℕ) → Settles order inbox from order2 inbox2 from2 → Settles order2 inbox2 from2 order3 inbox3 from3
    → Settles order inbox from order3 inbox3 from3
settles-more order order2 order3 inbox inbox2 inbox3 from from2 from3 s t =
    let a = s.next in let b = t.next in
    let d = s.shorter in let e = t.shorter in
    let f = s.capacity in let h = t.capacity in
    let j = s.spare in let k = t.spare in
    record {
      entries = t.entries ∙ s.entries;
      rises = t.rises;
      next = omega (arith, a, b);
      shorter = omega (arith, d, e);
      capacity = omega (arith, f, h);
      spare = omega (arith, j, k);
    }

empty : {X : Type 0} (xs : List X) → length xs ≡ 0 → xs ≡ []
empty [] h = refl
empty (x ∷ xs) h = absurd (omega (arith, h))

-- once the places are used up, all pieces stand in order
pub settles-all : {V Z : Type 0} (order order2 : Ordered V) (inbox inbox2 : VecDeque (Option (Piece V)) Z) (from from2 : ℕ) → Settles order inbox from order2 inbox2 from2 → deque_len inbox2 ≡ 0
    → order2.entries ≡ order.entries ++ numbered from inbox.items
settles-all order order2 inbox inbox2 from from2 s e =
    sym (none-behind order2.entries) ∙ (ap (λ (xs : List (Option (Piece _))). order2.entries ++ numbered from2 xs) (sym (empty inbox2.items (sym inbox2.ok.0 ∙ e))) ∙ s.entries)
