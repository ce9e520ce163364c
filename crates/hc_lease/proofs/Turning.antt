-- One at a time loads a key, and not for good.
use Rattle.std.proofs.Common.{◌≡◌, ℕ, ◌-◌, ◌%◌, ◌<◌, ◌≤◌, ◌==◌, nat_lt, Bool, true, false, ◌&&◌, List, length, Option, Some, None, refl, sym, ap, subst, ◌∙◌, arith, slice_get, slice_set, mod-lt, length-set, get_or-set_same}
use Rattle.std.proofs.lemmas.Option.{slice_get-get_or}
use Rattle.std.specs.Prelude.{if◌then◌else◌}
use Rattle.hc_types.specs.Digest.{digest_of}
use Rattle.hc_lease.specs.Turns.{turn_in, place_of, turn_at, is_turn_of, busy_in, busy_at, OneAtATime, TurnsEnd}
use Rattle.hc_lease.specs.declared.turns.Turn.{Turn}

get-set : (turns : List (Option Turn)) (i : ℕ) (turn : Option Turn) → i < length turns → slice_get (slice_set turns i turn) i ≡ Some turn
get-set turns i turn h = slice_get-get_or (slice_set turns i turn) i None (subst (λ n. i < n) (sym (length-set turns i turn)) h) ∙ ap Some (get_or-set_same turns i turn None h)

-- what is asked of a turn that was just put at the key's place
put-there : (turns : List (Option Turn)) (key : List ℕ) (turn : Option Turn) (later patience : ℕ) → 0 < length turns
    → busy_at key later patience (slice_set turns (place_of key turns) turn) ≡ busy_in (digest_of key) later patience turn
put-there turns key turn later patience some =
    ap (λ n. busy_in (digest_of key) later patience (turn_in (slice_get (slice_set turns (place_of key turns) turn) (digest_of key % n)))) (length-set turns (place_of key turns) turn)
    ∙ ap (λ o. busy_in (digest_of key) later patience (turn_in o)) (get-set turns (place_of key turns) turn (mod-lt _ some))

busy-own : (digest now later patience : ℕ) → later - now < patience → busy_in digest later patience (Some (record { digest = digest; since = now })) ≡ Some now
busy-own digest now later patience h = go (digest == digest) (nat_lt (later - now) patience) refl refl
  where
    go : (a b : Bool) → (digest == digest) ≡ a → nat_lt (later - now) patience ≡ b → (if a && b then Some now else None) ≡ Some now
    go true true ea eb = refl
    go true false ea eb = absurd (grind (arith, eb, h))
    go false b ea eb = absurd (grind (arith, ea))

pub one-at-a-time : OneAtATime
one-at-a-time turns key now later patience some h =
    put-there turns key (Some (record { digest = digest_of key; since = now })) later patience some ∙ busy-own (digest_of key) now later patience h

busy-past : (digest now later patience : ℕ) → patience ≤ later - now → busy_in digest later patience (Some (record { digest = digest; since = now })) ≡ None
busy-past digest now later patience h = go (digest == digest) (nat_lt (later - now) patience) refl
  where
    go : (a b : Bool) → nat_lt (later - now) patience ≡ b → (if a && b then Some now else None) ≡ None
    go true true e = absurd (grind (arith, e, h))
    go true false e = refl
    go false b e = refl

-- where the turn is no turn of the key, nobody is told
busy-other : (digest later patience : ℕ) (turn : Option Turn) → is_turn_of digest turn ≡ false → busy_in digest later patience turn ≡ None
busy-other digest later patience None e = refl
busy-other digest later patience (Some turn) e = ap (λ b. if b && nat_lt (later - turn.since) patience then Some turn.since else None) e

pub turns-end : TurnsEnd
turns-end turns key now later patience some = (λ h. put-there turns key (Some (record { digest = digest_of key; since = now })) later patience some ∙ busy-past (digest_of key) now later patience h, ended (is_turn_of (digest_of key) (turn_at key turns)) refl)
  where
    ended : (b : Bool) → is_turn_of (digest_of key) (turn_at key turns) ≡ b → busy_at key later patience (if b then slice_set turns (place_of key turns) None else turns) ≡ None
    ended true e = put-there turns key None later patience some
    ended false e = busy-other (digest_of key) later patience (turn_at key turns) e
