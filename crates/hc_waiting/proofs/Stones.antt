-- The tombstones as pieces of a queue.
use Rattle.std.proofs.Common.{◌≡◌, ℕ, ◌==◌, Bool, true, false, not, List, [], ◌∷◌, ◌++◌, Option, Some, None, refl, sym, ap, subst, arith, ◌∙◌, ◌&&◌, drop, if◌then◌else◌}
use Rattle.std.specs.List.{filter, find, list_any}
use Rattle.std.specs.Prelude.{map, is_some, option_map}
use Rattle.std.proofs.lemmas.Slice.Eq.{bytes_eq-Decides}
use Rattle.hc_types.specs.Places.{bucket_at}
use Rattle.hc_types.specs.declared.config.FlashConfig.{FlashConfig}
use Rattle.hc_machine.specs.Nvm.{Tombstone, is_stone_of, taken_stone, without_stone}
use Rattle.hc_queue.specs.declared.queue.Piece.{Piece}
use Rattle.hc_queue.specs.declared.keyed.Named.{Named}
use Rattle.hc_waiting.specs.Line.{has_key, piece_of, without_key, taken_key, in_lane, without_first, AreApart}
use Rattle.hc_queue.specs.Queue.{can_go}
use Rattle.hc_waiting.specs.Tombstones.{stone_in, stones_in, AreBuried, AreStonesApart, can_be_deleted, is_of_bucket}
use Rattle.hc_waiting.proofs.Mapped.{filter-map, any-map, map-map, map-same}

pub stone_there : {V A : Type 0} (key : List ℕ) (pieces : List (Piece (Named V A))) → is_some (piece_of key pieces) ≡ list_any (is_stone_of key) (stones_in pieces)
stone_there key pieces = any-map stone_in (is_stone_of key) pieces

pub no_stone : {V A : Type 0} (key : List ℕ) (pieces : List (Piece (Named V A))) → list_any (is_stone_of key) (stones_in pieces) ≡ false → piece_of key pieces ≡ None
no_stone key pieces e = none (piece_of key pieces) (stone_there key pieces ∙ e)
  where
    none : {X : Type 0} (o : Option X) → is_some o ≡ false → o ≡ None
    none None e = refl
    none (Some x) e = absurd (cc)

pub stones_without : {V A : Type 0} (key : List ℕ) (pieces : List (Piece (Named V A))) → stones_in (without_key key pieces) ≡ without_stone key (stones_in pieces)
stones_without key pieces = sym (filter-map stone_in (λ stone. not (is_stone_of key stone)) pieces)

pub stones_taken : {V A : Type 0} (key : List ℕ) (pieces : List (Piece (Named V A))) → stones_in (taken_key key pieces) ≡ taken_stone key (stones_in pieces)
stones_taken {V} {A} key pieces = map-map stone_in _ pieces ∙ map-same _ _ (λ piece. one piece (has_key key piece) refl) pieces ∙ sym (map-map _ stone_in pieces)
  where
    one : (piece : Piece (Named V A)) (b : Bool) → has_key key piece ≡ b → stone_in (if has_key key piece then record piece { taken = true } else piece) ≡ (if is_stone_of key (stone_in piece) then record (stone_in piece) { taken = true } else stone_in piece)
    one piece true t = rw t refl
    one piece false t = rw t refl

pub buried_where : {V A : Type 0} (flash : FlashConfig) (test : Piece (Named V A) → Bool) (pieces : List (Piece (Named V A))) → AreBuried flash pieces → AreBuried flash (filter test pieces)
buried_where flash test [] all = all
buried_where {V} {A} flash test (piece ∷ pieces) all = by_test (test piece) refl (buried_where flash test pieces all.1)
  where
    by_test : (b : Bool) → test piece ≡ b → AreBuried flash (filter test pieces) → AreBuried flash (filter test (piece ∷ pieces))
    by_test true t more = rw t (all.0, more)
    by_test false t more = rw t more

pub buried_but : {V A : Type 0} (flash : FlashConfig) (test : Piece (Named V A) → Bool) (pieces : List (Piece (Named V A))) → AreBuried flash pieces → AreBuried flash (without_first test pieces)
buried_but flash test [] all = all
buried_but {V} {A} flash test (piece ∷ pieces) all = by_test (test piece) refl (buried_but flash test pieces all.1)
  where
    by_test : (b : Bool) → test piece ≡ b → AreBuried flash (without_first test pieces) → AreBuried flash (without_first test (piece ∷ pieces))
    by_test true t more = rw t all.1
    by_test false t more = rw t (all.0, more)

pub buried_taken : {V A : Type 0} (flash : FlashConfig) (key : List ℕ) (pieces : List (Piece (Named V A))) → AreBuried flash pieces → AreBuried flash (taken_key key pieces)
buried_taken flash key [] all = all
buried_taken {V} {A} flash key (piece ∷ pieces) all = by_test (has_key key piece) refl (buried_taken flash key pieces all.1)
  where
    by_test : (b : Bool) → has_key key piece ≡ b → AreBuried flash (taken_key key pieces) → AreBuried flash (taken_key key (piece ∷ pieces))
    by_test true t more = rw t (all.0, more)
    by_test false t more = rw t (all.0, more)

pub buried_with : {V A : Type 0} (flash : FlashConfig) (last : Piece (Named V A)) (pieces : List (Piece (Named V A))) → last.lane ≡ Some (bucket_at flash last.value.key) → AreBuried flash pieces → AreBuried flash (pieces ++ last ∷ [])
buried_with flash last [] lane all = (lane, tt)
buried_with flash last (piece ∷ pieces) lane all = (all.0, buried_with flash last pieces lane all.1)

-- ---- lanes are buckets

pub first_of_bucket : {V A : Type 0} (flash : FlashConfig) (bucket : ℕ) (pieces : List (Piece (Named V A))) → AreBuried flash pieces → option_map stone_in (find (in_lane bucket) pieces) ≡ find (is_of_bucket flash bucket) (stones_in pieces)
first_of_bucket flash bucket [] all = refl
first_of_bucket {V} {A} flash bucket (piece ∷ pieces) all = by_test (bucket_at flash piece.value.key == bucket) refl (first_of_bucket flash bucket pieces all.1)
  where
    by_test : (b : Bool) → (bucket_at flash piece.value.key == bucket) ≡ b → option_map stone_in (find (in_lane bucket) pieces) ≡ find (is_of_bucket flash bucket) (stones_in pieces)
        → option_map stone_in (find (in_lane bucket) (piece ∷ pieces)) ≡ find (is_of_bucket flash bucket) (stones_in (piece ∷ pieces))
    by_test true t more = rw (all.0, t) refl
    by_test false t more = rw (all.0, t) more

pub without_first_of_bucket : {V A : Type 0} (flash : FlashConfig) (bucket : ℕ) (pieces : List (Piece (Named V A))) → AreBuried flash pieces → stones_in (without_first (in_lane bucket) pieces) ≡ without_first (is_of_bucket flash bucket) (stones_in pieces)
without_first_of_bucket flash bucket [] all = refl
without_first_of_bucket {V} {A} flash bucket (piece ∷ pieces) all = by_test (bucket_at flash piece.value.key == bucket) refl (without_first_of_bucket flash bucket pieces all.1)
  where
    by_test : (b : Bool) → (bucket_at flash piece.value.key == bucket) ≡ b → stones_in (without_first (in_lane bucket) pieces) ≡ without_first (is_of_bucket flash bucket) (stones_in pieces)
        → stones_in (without_first (in_lane bucket) (piece ∷ pieces)) ≡ without_first (is_of_bucket flash bucket) (stones_in (piece ∷ pieces))
    by_test true t more = rw (all.0, t) refl
    by_test false t more = rw (all.0, t) (ap (λ stones. stone_in piece ∷ stones) more)

pub next_delete_is : {V A : Type 0} (flash : FlashConfig) (busy : ℕ → Bool) (pieces : List (Piece (Named V A))) → AreBuried flash pieces → option_map stone_in (find (can_go busy) pieces) ≡ find (can_be_deleted flash busy) (stones_in pieces)
next_delete_is flash busy [] all = refl
next_delete_is {V} {A} flash busy (piece ∷ pieces) all = by_test (not piece.taken && not (busy (bucket_at flash piece.value.key))) refl (next_delete_is flash busy pieces all.1)
  where
    by_test : (b : Bool) → (not piece.taken && not (busy (bucket_at flash piece.value.key))) ≡ b → option_map stone_in (find (can_go busy) pieces) ≡ find (can_be_deleted flash busy) (stones_in pieces)
        → option_map stone_in (find (can_go busy) (piece ∷ pieces)) ≡ find (can_be_deleted flash busy) (stones_in (piece ∷ pieces))
    by_test true t more = rw (all.0, t) refl
    by_test false t more = rw (all.0, t) more

pub option-map-map : {X Y Z : Type 0} (f : Y → Z) (g : X → Y) (o : Option X) → option_map f (option_map g o) ≡ option_map (λ x. f (g x)) o
option-map-map f g None = refl
option-map-map f g (Some x) = refl

-- ---- one tombstone of a key

none_of_key : {V A : Type 0} (key : List ℕ) (pieces : List (Piece (Named V A))) → piece_of key pieces ≡ None → filter (has_key key) pieces ≡ []
none_of_key key [] e = refl
none_of_key {V} {A} key (piece ∷ pieces) e = by_test (has_key key piece) refl (none_of_key key pieces)
  where
    by_test : (b : Bool) → has_key key piece ≡ b → (piece_of key pieces ≡ None → filter (has_key key) pieces ≡ []) → filter (has_key key) (piece ∷ pieces) ≡ []
    by_test true t more = absurd (cc (rw t at e))
    by_test false t more = rw t (more (rw t at e))

abbrev pub key_in : {V A : Type 0} → Piece (Named V A) → List ℕ
key_in piece = piece.value.key

one_of_key : {V A : Type 0} (key : List ℕ) (pieces : List (Piece (Named V A))) → AreApart pieces → map key_in (filter (has_key key) pieces) ≡ (if is_some (piece_of key pieces) then key ∷ [] else [])
one_of_key key [] apart = refl
one_of_key {V} {A} key (piece ∷ pieces) apart = by_test (has_key key piece) refl (one_of_key key pieces apart.1)
  where
    by_test : (b : Bool) → has_key key piece ≡ b → map key_in (filter (has_key key) pieces) ≡ (if is_some (piece_of key pieces) then key ∷ [] else [])
        → map key_in (filter (has_key key) (piece ∷ pieces)) ≡ (if is_some (piece_of key (piece ∷ pieces)) then key ∷ [] else [])
    by_test true t more =
        let same : piece.value.key ≡ key = grind (arith, bytes_eq-Decides piece.value.key key, t) in
        let none : piece_of key pieces ≡ None = subst (λ k. piece_of k pieces ≡ None) same apart.0 in
        rw t (λ i. same i ∷ map key_in (none_of_key key pieces none i))
    by_test false t more = rw t more

pub one_stone : {V A : Type 0} (key : List ℕ) (there : Bool) (pieces : List (Piece (Named V A))) → AreApart pieces → there ≡ is_some (piece_of key pieces)
    → map (λ (stone : Tombstone). stone.key) (filter (is_stone_of key) (stones_in pieces)) ≡ (if there then key ∷ [] else [])
one_stone key there pieces apart is =
    ap (map (λ (stone : Tombstone). stone.key)) (filter-map stone_in (is_stone_of key) pieces)
    ∙ (map-map (λ (stone : Tombstone). stone.key) stone_in (filter (has_key key) pieces)
    ∙ (one_of_key key pieces apart ∙ ap (λ (b : Bool). if b then key ∷ [] else []) (sym is)))

-- ---- the oldest

pub buried_but_first : {V A : Type 0} (flash : FlashConfig) (pieces : List (Piece (Named V A))) → AreBuried flash pieces → AreBuried flash (drop 1 pieces)
buried_but_first flash [] all = all
buried_but_first flash (piece ∷ pieces) all = all.1

pub stones_apart : {V A : Type 0} (pieces : List (Piece (Named V A))) → AreApart pieces → AreStonesApart (stones_in pieces)
stones_apart [] apart = tt
stones_apart (piece ∷ pieces) apart = (sym (stone_there piece.value.key pieces) ∙ ap is_some apart.0, stones_apart pieces apart.1)
