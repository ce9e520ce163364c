-- The puts as pieces of a queue.
use Rattle.std.proofs.Common.{◌≡◌, ℕ, Bool, true, false, not, List, [], ◌∷◌, ◌++◌, Some, None, refl, sym, ap, ◌∙◌, ◌||◌, length, drop, if◌then◌else◌}
use Rattle.std.specs.List.{filter, find}
use Rattle.std.specs.Prelude.{is_some, option_map}
use Rattle.hc_types.specs.Places.{bucket_at, is_small_by}
use Rattle.hc_types.specs.declared.config.FlashConfig.{FlashConfig}
use Rattle.hc_machine.specs.Nvm.{is_put_of, put_at, without_put}
use Rattle.hc_queue.specs.declared.queue.Piece.{Piece}
use Rattle.hc_queue.specs.declared.keyed.Named.{Named}
use Rattle.hc_waiting.specs.declared.puts.Waiting.{Waiting}
use Rattle.hc_waiting.specs.Line.{piece_of, without_key, AreApart}
use Rattle.hc_queue.specs.Queue.{can_go, is_open}
use Rattle.hc_waiting.specs.Puts.{put_in, puts_in, lane_of, AreLaned, ArePutsApart, can_be_put}
use Rattle.hc_waiting.proofs.Mapped.{find-map, filter-map, is_some-map, unmapped}

pub put_there : {A : Type 0} (key : List ℕ) (pieces : List (Piece (Named (Waiting A) A))) → option_map put_in (piece_of key pieces) ≡ put_at key (puts_in pieces)
put_there key pieces = sym (find-map put_in (is_put_of key) pieces)

pub is_there : {A : Type 0} (key : List ℕ) (pieces : List (Piece (Named (Waiting A) A))) → is_some (piece_of key pieces) ≡ is_some (put_at key (puts_in pieces))
is_there key pieces = sym (ap is_some (find-map put_in (is_put_of key) pieces) ∙ is_some-map put_in (piece_of key pieces))

pub not_there : {A : Type 0} (key : List ℕ) (pieces : List (Piece (Named (Waiting A) A))) → put_at key (puts_in pieces) ≡ None → piece_of key pieces ≡ None
not_there key pieces e = unmapped put_in (piece_of key pieces) (put_there key pieces ∙ e)

pub puts_without : {A : Type 0} (key : List ℕ) (pieces : List (Piece (Named (Waiting A) A))) → puts_in (without_key key pieces) ≡ without_put key (puts_in pieces)
puts_without key pieces = sym (filter-map put_in (λ put. not (is_put_of key put)) pieces)

pub laned_without : {A : Type 0} (flash : FlashConfig) (test : Piece (Named (Waiting A) A) → Bool) (pieces : List (Piece (Named (Waiting A) A))) → AreLaned flash pieces → AreLaned flash (filter test pieces)
laned_without flash test [] all = all
laned_without {A} flash test (piece ∷ pieces) all = by_test (test piece) refl (laned_without flash test pieces all.2)
  where
    by_test : (b : Bool) → test piece ≡ b → AreLaned flash (filter test pieces) → AreLaned flash (filter test (piece ∷ pieces))
    by_test true t more = rw t (all.0, all.1, more)
    by_test false t more = rw t more

pub laned_with : {A : Type 0} (flash : FlashConfig) (last : Piece (Named (Waiting A) A)) (pieces : List (Piece (Named (Waiting A) A))) → last.lane ≡ lane_of flash (put_in last) → last.taken ≡ false → AreLaned flash pieces → AreLaned flash (pieces ++ last ∷ [])
laned_with flash last [] lane taken all = (lane, taken, tt)
laned_with flash last (piece ∷ pieces) lane taken all = (all.0, all.1, laned_with flash last pieces lane taken all.2)

-- a piece can go where its put can be served
goes_as : {A : Type 0} (flash : FlashConfig) (busy : ℕ → Bool) (piece : Piece (Named (Waiting A) A)) → piece.lane ≡ lane_of flash (put_in piece) → piece.taken ≡ false → can_go busy piece ≡ can_be_put flash busy (put_in piece)
goes_as flash busy piece lane taken = rw (taken, lane) (by_size (is_small_by flash piece.value.key (length piece.value.value.value)))
  where
    by_size : (b : Bool) → is_open busy (if b then Some (bucket_at flash piece.value.key) else None) ≡ (not b || not (busy (bucket_at flash piece.value.key)))
    by_size true = refl
    by_size false = refl

pub next_put_is : {A : Type 0} (flash : FlashConfig) (busy : ℕ → Bool) (pieces : List (Piece (Named (Waiting A) A))) → AreLaned flash pieces → option_map put_in (find (can_go busy) pieces) ≡ find (can_be_put flash busy) (puts_in pieces)
next_put_is flash busy [] all = refl
next_put_is {A} flash busy (piece ∷ pieces) all = by_test (can_go busy piece) refl (sym (goes_as flash busy piece all.0 all.1)) (next_put_is flash busy pieces all.2)
  where
    by_test : (b : Bool) → can_go busy piece ≡ b → can_be_put flash busy (put_in piece) ≡ can_go busy piece → option_map put_in (find (can_go busy) pieces) ≡ find (can_be_put flash busy) (puts_in pieces)
        → option_map put_in (find (can_go busy) (piece ∷ pieces)) ≡ find (can_be_put flash busy) (puts_in (piece ∷ pieces))
    by_test true t same more = rw (same, t) refl
    by_test false t same more = rw (same, t) more

pub laned_but_first : {A : Type 0} (flash : FlashConfig) (pieces : List (Piece (Named (Waiting A) A))) → AreLaned flash pieces → AreLaned flash (drop 1 pieces)
laned_but_first flash [] all = all
laned_but_first flash (piece ∷ pieces) all = all.2

pub puts_apart : {A : Type 0} (pieces : List (Piece (Named (Waiting A) A))) → AreApart pieces → ArePutsApart (puts_in pieces)
puts_apart [] apart = tt
puts_apart (piece ∷ pieces) apart = (sym (put_there piece.value.key pieces) ∙ ap (option_map put_in) apart.0, puts_apart pieces apart.1)
