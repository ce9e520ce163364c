-- No ticket of before is fresh behind a restart.
use Rattle.std.proofs.Common.{◌≡◌, inl, ℕ, zero, suc, ◌<◌, Bool, true, false, ◌&&◌, [], length, Some, None, refl, ap, arith, mod-lt, nat_lt, nat_le, slice_index, replicate}
use Rattle.std.specs.Prelude.{if◌then◌else◌}
use Rattle.std.proofs.lemmas.List.{length-replicate}
use Rattle.hc_lease.specs.Stamps.{Stamps, slot_of, next_count, ticket_at}
use Rattle.hc_lease.proofs.Stamping.{most, next-later, next-more, Known, IsBarred, barred-stale}
use Rattle.hc_restart_laws.specs.Tickets.{restarted, OldTicketsAreStale, NewTicketsAreFresh}

at-replicate : (n q x : ℕ) → q < n → slice_index (replicate n x) q ≡ x
at-replicate zero q x h = absurd (omega (arith, h))
at-replicate (suc n) zero x h = refl
at-replicate (suc n) (suc q) x h = at-replicate n q x (omega (arith, h))

pub known-restarted : (n m t : ℕ) (s : Stamps) → Known n t s → Known m t (restarted m s)
known-restarted n m t s k = record { few = k.few; past = next-more t s.count k.past; size = length-replicate m (next_count s.count) }

pub restarted-bars : (n m t q : ℕ) (s : Stamps) → Known n t s → q < m → IsBarred q t (restarted m s)
restarted-bars n m t q s k h = inl (rw (at-replicate m q (next_count s.count) h) (next-later t s.count k.few k.past))

pub old-stale : OldTicketsAreStale
old-stale slots s key ticket some few past =
    barred-stale slots ticket key (restarted slots s) (length-replicate slots (next_count s.count))
    (restarted-bars 0 slots ticket (slot_of key slots) (record s { slots = [] }) (record { few = few; past = past; size = refl }) (mod-lt _ some))

ticket-count : (s : Stamps) (t : ℕ) → ticket_at s ≡ Some t → s.count ≡ t
ticket-count s t h = go (nat_lt s.count most) h
  where
    go : (b : Bool) → (if b then Some s.count else None) ≡ Some t → s.count ≡ t
    go true h = cc
    go false h = absurd (cc)

pub new-fresh : NewTicketsAreFresh
new-fresh slots s key ticket some lent = go (slot_of key (length (replicate slots (next_count s.count)))) (ap (slot_of key) (length-replicate slots (next_count s.count)))
  where
    is : next_count s.count ≡ ticket
    is = ticket-count (restarted slots s) ticket lent

    go2 : (b : Bool) → nat_le (slice_index (replicate slots (next_count s.count)) (slot_of key slots)) ticket ≡ b → (b && true) ≡ true
    go2 true e = refl
    go2 false e = let at : slice_index (replicate slots (next_count s.count)) (slot_of key slots) ≡ next_count s.count = at-replicate slots (slot_of key slots) (next_count s.count) (mod-lt _ some) in absurd (grind (arith, e, at, is))

    go : (q : ℕ) → q ≡ slot_of key slots → (nat_le (slice_index (replicate slots (next_count s.count)) q) ticket && true) ≡ true
    go q e = rw e (go2 (nat_le (slice_index (replicate slots (next_count s.count)) (slot_of key slots)) ticket) refl)
