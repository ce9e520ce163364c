-- The fills as pieces of a queue.
use Rattle.std.proofs.Common.{◌≡◌, ℕ, Bool, true, false, not, List, [], ◌∷◌, ◌++◌, Option, Some, None, refl, sym, ap, ◌∙◌, ◌&&◌, arith, subst}
use Rattle.std.specs.List.{filter, find}
use Rattle.std.specs.Prelude.{is_some, option_map}
use Rattle.std.proofs.lemmas.Slice.Eq.{bytes_eq-Decides}
use Rattle.hc_types.specs.Places.{bucket_at}
use Rattle.hc_types.specs.declared.config.FlashConfig.{FlashConfig}
use Rattle.hc_machine.specs.Nvm.{is_fill_of, fill_at, without_fill, taken_fill, joined_by, Waiter}
use Rattle.hc_queue.specs.declared.queue.Piece.{Piece}
use Rattle.hc_queue.specs.declared.keyed.Named.{Named}
use Rattle.hc_waiting.specs.declared.fills.Bringing.{Bringing}
use Rattle.hc_waiting.specs.Line.{has_key, piece_of, without_key, with_value, taken_key, AreApart}
use Rattle.hc_queue.specs.Keys.{value_of}
use Rattle.hc_queue.specs.Queue.{can_go}
use Rattle.hc_waiting.specs.Fills.{fill_in, fills_in, AreFilled, can_be_filled, is_kept_in, is_kept_by}
use Rattle.hc_waiting.proofs.Mapped.{find-map, filter-map, is_some-map, unmapped}

pub fill_there : {A : Type 0} (key : List ℕ) (pieces : List (Piece (Named (Bringing A) A))) → option_map fill_in (piece_of key pieces) ≡ fill_at key (fills_in pieces)
fill_there key pieces = sym (find-map fill_in (is_fill_of key) pieces)

pub has_fill : {A : Type 0} (key : List ℕ) (pieces : List (Piece (Named (Bringing A) A))) → is_some (piece_of key pieces) ≡ is_some (fill_at key (fills_in pieces))
has_fill key pieces = sym (is_some-map fill_in (piece_of key pieces)) ∙ ap is_some (fill_there key pieces)

pub no_fill : {A : Type 0} (key : List ℕ) (pieces : List (Piece (Named (Bringing A) A))) → fill_at key (fills_in pieces) ≡ None → piece_of key pieces ≡ None
no_fill key pieces e = unmapped fill_in (piece_of key pieces) (fill_there key pieces ∙ e)

pub kept_as : {A : Type 0} (number : ℕ) (key : List ℕ) (pieces : List (Piece (Named (Bringing A) A))) → is_kept_by number (piece_of key pieces) ≡ is_kept_in number (fill_at key (fills_in pieces))
kept_as {A} number key pieces = by_piece (piece_of key pieces) ∙ ap (is_kept_in number) (fill_there key pieces)
  where
    by_piece : (o : Option (Piece (Named (Bringing A) A))) → is_kept_by number o ≡ is_kept_in number (option_map fill_in o)
    by_piece None = refl
    by_piece (Some piece) = refl

pub fills_without : {A : Type 0} (key : List ℕ) (pieces : List (Piece (Named (Bringing A) A))) → fills_in (without_key key pieces) ≡ without_fill key (fills_in pieces)
fills_without key pieces = sym (filter-map fill_in (λ fill. not (is_fill_of key fill)) pieces)

pub filled_where : {A : Type 0} (flash : FlashConfig) (test : Piece (Named (Bringing A) A) → Bool) (pieces : List (Piece (Named (Bringing A) A))) → AreFilled flash pieces → AreFilled flash (filter test pieces)
filled_where flash test [] all = all
filled_where {A} flash test (piece ∷ pieces) all = by_test (test piece) refl (filled_where flash test pieces all.2)
  where
    by_test : (b : Bool) → test piece ≡ b → AreFilled flash (filter test pieces) → AreFilled flash (filter test (piece ∷ pieces))
    by_test true t more = rw t (all.0, all.1, more)
    by_test false t more = rw t more

pub filled_with : {A : Type 0} (flash : FlashConfig) (last : Piece (Named (Bringing A) A)) (pieces : List (Piece (Named (Bringing A) A))) → last.lane ≡ Some (bucket_at flash last.value.key) → last.taken ≡ is_some last.value.value.job → AreFilled flash pieces → AreFilled flash (pieces ++ last ∷ [])
filled_with flash last [] lane taken all = (lane, taken, tt)
filled_with flash last (piece ∷ pieces) lane taken all = (all.0, all.1, filled_with flash last pieces lane taken all.2)

pub next_fill_is : {A : Type 0} (flash : FlashConfig) (busy : ℕ → Bool) (pieces : List (Piece (Named (Bringing A) A))) → AreFilled flash pieces → option_map fill_in (find (can_go busy) pieces) ≡ find (can_be_filled flash busy) (fills_in pieces)
next_fill_is flash busy [] all = refl
next_fill_is {A} flash busy (piece ∷ pieces) all = by_test (not (is_some piece.value.value.job) && not (busy (bucket_at flash piece.value.key))) refl (next_fill_is flash busy pieces all.2)
  where
    by_test : (b : Bool) → (not (is_some piece.value.value.job) && not (busy (bucket_at flash piece.value.key))) ≡ b → option_map fill_in (find (can_go busy) pieces) ≡ find (can_be_filled flash busy) (fills_in pieces)
        → option_map fill_in (find (can_go busy) (piece ∷ pieces)) ≡ find (can_be_filled flash busy) (fills_in (piece ∷ pieces))
    by_test true t more = rw (all.1, all.0, t) refl
    by_test false t more = rw (all.1, all.0, t) more

-- ---- a value in place of another

-- a value that is put twice is the later one
pub with_value-twice : {A : Type 0} (key : List ℕ) (x y : Bringing A) (pieces : List (Piece (Named (Bringing A) A))) → with_value key y (with_value key x pieces) ≡ with_value key y pieces
with_value-twice key x y [] = refl
with_value-twice {A} key x y (piece ∷ pieces) = by_test (has_key key piece) refl (with_value-twice key x y pieces)
  where
    by_test : (b : Bool) → has_key key piece ≡ b → with_value key y (with_value key x pieces) ≡ with_value key y pieces → with_value key y (with_value key x (piece ∷ pieces)) ≡ with_value key y (piece ∷ pieces)
    by_test true t more = rw (t, t) (λ i. record piece { value = record piece.value { value = y } } ∷ more i)
    by_test false t more = rw (t, t) (λ i. piece ∷ more i)

-- where no piece has the key, nothing changes
pub with_value-none : {A : Type 0} (key : List ℕ) (x : Bringing A) (pieces : List (Piece (Named (Bringing A) A))) → piece_of key pieces ≡ None → with_value key x pieces ≡ pieces
with_value-none key x [] e = refl
with_value-none {A} key x (piece ∷ pieces) e = by_test (has_key key piece) refl (with_value-none key x pieces)
  where
    by_test : (b : Bool) → has_key key piece ≡ b → (piece_of key pieces ≡ None → with_value key x pieces ≡ pieces) → with_value key x (piece ∷ pieces) ≡ piece ∷ pieces
    by_test true t more = absurd (cc (rw t at e))
    by_test false t more = rw t (ap (λ ps. piece ∷ ps) (more (rw t at e)))

is_key : {A : Type 0} (key : List ℕ) (piece : Piece (Named (Bringing A) A)) → has_key key piece ≡ true → piece.value.key ≡ key
is_key key piece e = grind (arith, bytes_eq-Decides piece.value.key key, e)

-- behind a piece that has the key no other has it
alone : {A : Type 0} (key : List ℕ) (piece : Piece (Named (Bringing A) A)) (pieces : List (Piece (Named (Bringing A) A))) → has_key key piece ≡ true → AreApart (piece ∷ pieces) → piece_of key pieces ≡ None
alone key piece pieces e apart = subst (λ k. piece_of k pieces ≡ None) (is_key key piece e) apart.0

head_is : {X : Type 0} (x y : X) → Some x ≡ Some y → x ≡ y
head_is {X} x y e = ap (λ o. or_else o x) e
  where
    or_else : Option X → X → X
    or_else None z = z
    or_else (Some w) z = w

-- one call more waits with the fill's others
pub joined_there : {A : Type 0} (key : List ℕ) (waiter : Waiter) (x : Bringing A) (piece : Piece (Named (Bringing A) A)) (pieces : List (Piece (Named (Bringing A) A))) → AreApart pieces → piece_of key pieces ≡ Some piece
    → x.waiters.items ≡ piece.value.value.waiters.items ++ waiter ∷ [] → x.job ≡ piece.value.value.job
    → fills_in (with_value key x pieces) ≡ joined_by key waiter (fills_in pieces)
joined_there key waiter x piece [] apart there items job = absurd (cc)
joined_there {A} key waiter x piece (p ∷ ps) apart there items job = by_test (has_key key p) refl (joined_there key waiter x piece ps apart.1)
  where
    by_test : (b : Bool) → has_key key p ≡ b
        → (piece_of key ps ≡ Some piece → x.waiters.items ≡ piece.value.value.waiters.items ++ waiter ∷ [] → x.job ≡ piece.value.value.job → fills_in (with_value key x ps) ≡ joined_by key waiter (fills_in ps))
        → fills_in (with_value key x (p ∷ ps)) ≡ joined_by key waiter (fills_in (p ∷ ps))
    by_test true t more =
        let same : p ≡ piece = head_is p piece (rw t at there) in
        rw t (λ i. record { key = p.value.key; waiters = (items ∙ ap (λ (q : Piece (Named (Bringing A) A)). q.value.value.waiters.items ++ waiter ∷ []) (sym same)) i; job = (job ∙ ap (λ (q : Piece (Named (Bringing A) A)). q.value.value.job) (sym same)) i } ∷ fills_in (with_value-none key x ps (alone key p ps t apart) i))
    by_test false t more = rw t (ap (λ fills. fill_in p ∷ fills) (more (rw t at there) items job))

-- nothing changed of the fill
pub same_there : {A : Type 0} (key : List ℕ) (x : Bringing A) (piece : Piece (Named (Bringing A) A)) (pieces : List (Piece (Named (Bringing A) A))) → AreApart pieces → piece_of key pieces ≡ Some piece
    → x.waiters.items ≡ piece.value.value.waiters.items → x.job ≡ piece.value.value.job
    → fills_in (with_value key x pieces) ≡ fills_in pieces
same_there key x piece [] apart there items job = absurd (cc)
same_there {A} key x piece (p ∷ ps) apart there items job = by_test (has_key key p) refl (same_there key x piece ps apart.1)
  where
    by_test : (b : Bool) → has_key key p ≡ b
        → (piece_of key ps ≡ Some piece → x.waiters.items ≡ piece.value.value.waiters.items → x.job ≡ piece.value.value.job → fills_in (with_value key x ps) ≡ fills_in ps)
        → fills_in (with_value key x (p ∷ ps)) ≡ fills_in (p ∷ ps)
    by_test true t more =
        let same : p ≡ piece = head_is p piece (rw t at there) in
        rw t (λ i. record { key = p.value.key; waiters = (items ∙ ap (λ (q : Piece (Named (Bringing A) A)). q.value.value.waiters.items) (sym same)) i; job = (job ∙ ap (λ (q : Piece (Named (Bringing A) A)). q.value.value.job) (sym same)) i } ∷ fills_in (with_value-none key x ps (alone key p ps t apart) i))
    by_test false t more = rw t (ap (λ fills. fill_in p ∷ fills) (more (rw t at there) items job))

-- where no piece has the key, no fill is taken
pub none_taken : {A : Type 0} (key : List ℕ) (number : ℕ) (x : Bringing A) (pieces : List (Piece (Named (Bringing A) A))) → piece_of key pieces ≡ None → fills_in (taken_key key (with_value key x pieces)) ≡ taken_fill key number (fills_in pieces)
none_taken key number x [] e = refl
none_taken {A} key number x (piece ∷ pieces) e = by_test (has_key key piece) refl (none_taken key number x pieces)
  where
    by_test : (b : Bool) → has_key key piece ≡ b → (piece_of key pieces ≡ None → fills_in (taken_key key (with_value key x pieces)) ≡ taken_fill key number (fills_in pieces))
        → fills_in (taken_key key (with_value key x (piece ∷ pieces))) ≡ taken_fill key number (fills_in (piece ∷ pieces))
    by_test true t more = absurd (cc (rw t at e))
    by_test false t more = rw (t, t) (ap (λ fills. fill_in piece ∷ fills) (more (rw t at e)))

-- a job brings it from here on
pub taken_there : {A : Type 0} (key : List ℕ) (number : ℕ) (x : Bringing A) (piece : Piece (Named (Bringing A) A)) (pieces : List (Piece (Named (Bringing A) A))) → AreApart pieces → piece_of key pieces ≡ Some piece
    → x.waiters.items ≡ piece.value.value.waiters.items → x.job ≡ Some number
    → fills_in (taken_key key (with_value key x pieces)) ≡ taken_fill key number (fills_in pieces)
taken_there key number x piece [] apart there items job = absurd (cc)
taken_there {A} key number x piece (p ∷ ps) apart there items job = by_test (has_key key p) refl (taken_there key number x piece ps apart.1)
  where
    by_test : (b : Bool) → has_key key p ≡ b
        → (piece_of key ps ≡ Some piece → x.waiters.items ≡ piece.value.value.waiters.items → x.job ≡ Some number → fills_in (taken_key key (with_value key x ps)) ≡ taken_fill key number (fills_in ps))
        → fills_in (taken_key key (with_value key x (p ∷ ps))) ≡ taken_fill key number (fills_in (p ∷ ps))
    by_test true t more =
        let same : p ≡ piece = head_is p piece (rw t at there) in
        let rest : fills_in (taken_key key (with_value key x ps)) ≡ taken_fill key number (fills_in ps) = none_taken key number x ps (alone key p ps t apart) in
        rw (t, t) (λ i. record { key = p.value.key; waiters = (items ∙ ap (λ (q : Piece (Named (Bringing A) A)). q.value.value.waiters.items) (sym same)) i; job = job i } ∷ rest i)
    by_test false t more = rw (t, t) (ap (λ fills. fill_in p ∷ fills) (more (rw t at there) items job))

-- ---- what holds of the pieces stays

pub filled_joined : {A : Type 0} (flash : FlashConfig) (key : List ℕ) (x : Bringing A) (piece : Piece (Named (Bringing A) A)) (pieces : List (Piece (Named (Bringing A) A))) → AreApart pieces → piece_of key pieces ≡ Some piece
    → x.job ≡ piece.value.value.job → AreFilled flash pieces → AreFilled flash (with_value key x pieces)
filled_joined flash key x piece [] apart there job all = absurd (cc)
filled_joined {A} flash key x piece (p ∷ ps) apart there job all = by_test (has_key key p) refl (filled_joined flash key x piece ps apart.1)
  where
    by_test : (b : Bool) → has_key key p ≡ b → (piece_of key ps ≡ Some piece → x.job ≡ piece.value.value.job → AreFilled flash ps → AreFilled flash (with_value key x ps)) → AreFilled flash (with_value key x (p ∷ ps))
    by_test true t more =
        let same : p ≡ piece = head_is p piece (rw t at there) in
        rw t (all.0, all.1 ∙ ap is_some (ap (λ (q : Piece (Named (Bringing A) A)). q.value.value.job) same ∙ sym job), subst (λ rest. AreFilled flash rest) (sym (with_value-none key x ps (alone key p ps t apart))) all.2)
    by_test false t more = rw t (all.0, all.1, more (rw t at there) job all.2)

pub filled_taken : {A : Type 0} (flash : FlashConfig) (key : List ℕ) (number : ℕ) (x : Bringing A) (pieces : List (Piece (Named (Bringing A) A))) → x.job ≡ Some number → AreFilled flash pieces → AreFilled flash (taken_key key (with_value key x pieces))
filled_taken flash key number x [] job all = all
filled_taken {A} flash key number x (piece ∷ pieces) job all = by_test (has_key key piece) refl (filled_taken flash key number x pieces job all.2)
  where
    by_test : (b : Bool) → has_key key piece ≡ b → AreFilled flash (taken_key key (with_value key x pieces)) → AreFilled flash (taken_key key (with_value key x (piece ∷ pieces)))
    by_test true t more = rw (t, t) (all.0, sym (ap is_some job), more)
    by_test false t more = rw (t, t) (all.0, all.1, more)

-- ---- a value that was taken out comes back, changed

-- the piece that has this value
pub record IsOf {A : Type 0} (key : List ℕ) (before : Bringing A) (pieces : List (Piece (Named (Bringing A) A))) : Type 0 where
  pub piece : Piece (Named (Bringing A) A)
  pub there : piece_of key pieces ≡ Some piece
  pub value : piece.value.value ≡ before

pub of_value : {A : Type 0} (key : List ℕ) (before : Bringing A) (pieces : List (Piece (Named (Bringing A) A))) → option_map value_of (piece_of key pieces) ≡ Some before → IsOf key before pieces
of_value {A} key before pieces e = by_piece (piece_of key pieces) refl
  where
    by_piece : (o : Option (Piece (Named (Bringing A) A))) → piece_of key pieces ≡ o → IsOf key before pieces
    by_piece None p = absurd (cc (rw p at e))
    by_piece (Some piece) p = record { piece = piece; there = p; value = head_is piece.value.value before (rw p at e) }

pub join_stays : {A : Type 0} (flash : FlashConfig) (key : List ℕ) (empty x before : Bringing A) (pieces now : List (Piece (Named (Bringing A) A))) → AreApart pieces → option_map value_of (piece_of key pieces) ≡ Some before
    → now ≡ with_value key x (with_value key empty pieces) → x.job ≡ before.job → AreFilled flash pieces → AreFilled flash now
join_stays {A} flash key empty x before pieces now apart value is job all =
    let o = of_value key before pieces value in
    rw (is, with_value-twice key empty x pieces) (filled_joined flash key x o.piece pieces apart o.there (job ∙ sym (ap (λ (b : Bringing A). b.job) o.value)) all)

pub join_joins : {A : Type 0} (key : List ℕ) (waiter : Waiter) (empty x before : Bringing A) (pieces now : List (Piece (Named (Bringing A) A))) → AreApart pieces → option_map value_of (piece_of key pieces) ≡ Some before
    → now ≡ with_value key x (with_value key empty pieces) → x.waiters.items ≡ before.waiters.items ++ waiter ∷ [] → x.job ≡ before.job → fills_in now ≡ joined_by key waiter (fills_in pieces)
join_joins {A} key waiter empty x before pieces now apart value is items job =
    let o = of_value key before pieces value in
    rw (is, with_value-twice key empty x pieces) (joined_there key waiter x o.piece pieces apart o.there (items ∙ sym (ap (λ (b : Bringing A). b.waiters.items ++ waiter ∷ []) o.value)) (job ∙ sym (ap (λ (b : Bringing A). b.job) o.value)))

pub join_keeps : {A : Type 0} (key : List ℕ) (empty x before : Bringing A) (pieces now : List (Piece (Named (Bringing A) A))) → AreApart pieces → option_map value_of (piece_of key pieces) ≡ Some before
    → now ≡ with_value key x (with_value key empty pieces) → x.waiters.items ≡ before.waiters.items → x.job ≡ before.job → fills_in now ≡ fills_in pieces
join_keeps {A} key empty x before pieces now apart value is items job =
    let o = of_value key before pieces value in
    rw (is, with_value-twice key empty x pieces) (same_there key x o.piece pieces apart o.there (items ∙ sym (ap (λ (b : Bringing A). b.waiters.items) o.value)) (job ∙ sym (ap (λ (b : Bringing A). b.job) o.value)))

pub take_stays : {A : Type 0} (flash : FlashConfig) (key : List ℕ) (number : ℕ) (empty x : Bringing A) (pieces now : List (Piece (Named (Bringing A) A))) → now ≡ taken_key key (with_value key x (with_value key empty pieces)) → x.job ≡ Some number → AreFilled flash pieces → AreFilled flash now
take_stays flash key number empty x pieces now is job all = rw (is, with_value-twice key empty x pieces) (filled_taken flash key number x pieces job all)

pub take_takes : {A : Type 0} (key : List ℕ) (number : ℕ) (empty x before : Bringing A) (pieces now : List (Piece (Named (Bringing A) A))) → AreApart pieces → option_map value_of (piece_of key pieces) ≡ Some before
    → now ≡ taken_key key (with_value key x (with_value key empty pieces)) → x.waiters.items ≡ before.waiters.items → x.job ≡ Some number → fills_in now ≡ taken_fill key number (fills_in pieces)
take_takes {A} key number empty x before pieces now apart value is items job =
    let o = of_value key before pieces value in
    rw (is, with_value-twice key empty x pieces) (taken_there key number x o.piece pieces apart o.there (items ∙ sym (ap (λ (b : Bringing A). b.waiters.items) o.value)) job)

-- no call waits for the key
unvalued : {A : Type 0} (o : Option (Piece (Named (Bringing A) A))) → option_map value_of o ≡ None → o ≡ None
unvalued None e = refl
unvalued (Some piece) e = absurd (cc)

pub none_there : {A : Type 0} (flash : FlashConfig) (key : List ℕ) (empty : Bringing A) (pieces now : List (Piece (Named (Bringing A) A))) → option_map value_of (piece_of key pieces) ≡ None → now ≡ with_value key empty pieces → AreFilled flash pieces → AreFilled flash now
none_there flash key empty pieces now none is all = rw (is, with_value-none key empty pieces (unvalued (piece_of key pieces) none)) all

pub none_takes : {A : Type 0} (key : List ℕ) (number : ℕ) (empty : Bringing A) (pieces now : List (Piece (Named (Bringing A) A))) → option_map value_of (piece_of key pieces) ≡ None → now ≡ with_value key empty pieces → fills_in now ≡ taken_fill key number (fills_in pieces)
none_takes key number empty pieces now none is =
    let e = unvalued (piece_of key pieces) none in
    rw (is, with_value-none key empty pieces e) (sym (none_is key number pieces e))
  where
    none_is : {A : Type 0} (key : List ℕ) (number : ℕ) (pieces : List (Piece (Named (Bringing A) A))) → piece_of key pieces ≡ None → taken_fill key number (fills_in pieces) ≡ fills_in pieces
    none_is key number [] e = refl
    none_is {A} key number (piece ∷ pieces) e = by_test (has_key key piece) refl (none_is key number pieces)
      where
        by_test : (b : Bool) → has_key key piece ≡ b → (piece_of key pieces ≡ None → taken_fill key number (fills_in pieces) ≡ fills_in pieces) → taken_fill key number (fills_in (piece ∷ pieces)) ≡ fills_in (piece ∷ pieces)
        by_test true t more = absurd (cc (rw t at e))
        by_test false t more = rw t (ap (λ fills. fill_in piece ∷ fills) (more (rw t at e)))

-- a fill that is there has its piece
pub valued : {A : Type 0} (key : List ℕ) (pieces : List (Piece (Named (Bringing A) A))) → is_some (fill_at key (fills_in pieces)) ≡ true → option_map value_of (piece_of key pieces) ≡ None → ⊥
valued key pieces some none = let e = unvalued (piece_of key pieces) none in absurd (cc (rw (← has_fill key pieces, e) at some))
