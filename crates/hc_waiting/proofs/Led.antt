-- Which job brings which key.
use Rattle.std.proofs.Common.{◌≡◌, ℕ, ◌==◌, nat_eq, Bool, true, false, not, List, [], ◌∷◌, ◌++◌, Option, Some, None, refl, sym, ap, ◌∙◌, subst, arith, if◌then◌else◌}
use Rattle.std.specs.List.{filter}
use Rattle.std.specs.Prelude.{is_some, option_map, ⊤}
use Rattle.std.proofs.lemmas.Bool.{eqb-true}
use Rattle.std.proofs.lemmas.Slice.Eq.{bytes_eq-Decides}
use Rattle.indexmap.specs.IndexMap.{IndexMap, get}
use Rattle.hc_queue.specs.declared.queue.Piece.{Piece}
use Rattle.hc_queue.specs.declared.keyed.Named.{Named}
use Rattle.hc_machine.specs.Nvm.{Fill, Waiter, is_fill_of, fill_at, fill_by, is_number_in, without_fill, taken_fill, joined_by}
use Rattle.hc_waiting.specs.declared.fills.Bringing.{Bringing}
use Rattle.hc_queue.specs.Keys.{value_of}
use Rattle.hc_waiting.specs.Line.{piece_of, piece_by, without_key, with_value, taken_key, AreApart}
use Rattle.hc_waiting.specs.Fills.{fill_in, fills_in, fill_under, job_by, key_by, IsFree, IsSole, AreSole, IsLed}
use Rattle.hc_waiting.proofs.Mapped.{unmapped}
use Rattle.hc_waiting.proofs.Filling.{fill_there, has_fill, fills_without, join_keeps, join_joins, take_takes, with_value-none}

-- no two fills have the same key
abbrev pub AreKeyed : List Fill → Type 0
AreKeyed [] = ⊤
AreKeyed (fill ∷ fills) = (fill_at fill.key fills ≡ None) × AreKeyed fills

pub keyed_as : {A : Type 0} (pieces : List (Piece (Named (Bringing A) A))) → AreApart pieces → AreKeyed (fills_in pieces)
keyed_as [] apart = tt
keyed_as (piece ∷ pieces) apart = (sym (fill_there piece.value.key pieces) ∙ ap (option_map fill_in) apart.0, keyed_as pieces apart.1)

is_key : (key : List ℕ) (fill : Fill) → is_fill_of key fill ≡ true → fill.key ≡ key
is_key key fill e = grind (arith, bytes_eq-Decides fill.key key, e)

-- ---- a fill comes

by_end : (n : ℕ) (last : Fill) (fills : List Fill) → last.job ≡ None → fill_by n (fills ++ last ∷ []) ≡ fill_by n fills
by_end n last [] none = rw none refl
by_end n last (fill ∷ fills) none = by_test (is_number_in n fill.job) refl (by_end n last fills none)
  where
    by_test : (b : Bool) → is_number_in n fill.job ≡ b → fill_by n (fills ++ last ∷ []) ≡ fill_by n fills → fill_by n ((fill ∷ fills) ++ last ∷ []) ≡ fill_by n (fill ∷ fills)
    by_test true t more = rw t refl
    by_test false t more = rw t more

sole_with : (job : Option ℕ) (last : Fill) (fills : List Fill) → last.job ≡ None → IsSole job fills → IsSole job (fills ++ last ∷ [])
sole_with None last fills none s = tt
sole_with (Some n) last fills none s = by_end n last fills none ∙ s

sole_end : (last : Fill) (fills : List Fill) → last.job ≡ None → AreSole fills → AreSole (fills ++ last ∷ [])
sole_end last [] none all = (subst (λ job. IsSole job []) (sym none) tt, tt)
sole_end last (fill ∷ fills) none all = (sole_with fill.job last fills none all.0, sole_end last fills none all.1)

led_opened : {S : Type 0} (keys : IndexMap ℕ (List ℕ) S) (last : Fill) (fills : List Fill) → last.job ≡ None → IsLed fills keys → IsLed (fills ++ last ∷ []) keys
led_opened keys last fills none led = record {
  leads = λ n. led.leads n ∙ ap (option_map (λ (fill : Fill). fill.key)) (sym (by_end n last fills none));
  sole = sole_end last fills none led.sole;
}

-- ---- a call joins

by_joined : (n : ℕ) (key : List ℕ) (waiter : Waiter) (fills : List Fill) → key_by n (joined_by key waiter fills) ≡ key_by n fills
by_joined n key waiter [] = refl
by_joined n key waiter (fill ∷ fills) = by_key (is_fill_of key fill) refl (by_joined n key waiter fills)
  where
    by_key : (b : Bool) → is_fill_of key fill ≡ b → key_by n (joined_by key waiter fills) ≡ key_by n fills → key_by n (joined_by key waiter (fill ∷ fills)) ≡ key_by n (fill ∷ fills)
    by_key true t more = rw t (by_test (is_number_in n fill.job) refl)
      where
        by_test : (b : Bool) → is_number_in n fill.job ≡ b → key_by n (record fill { waiters = fill.waiters ++ waiter ∷ [] } ∷ fills) ≡ key_by n (fill ∷ fills)
        by_test true u = rw u refl
        by_test false u = rw u refl
    by_key false t more = rw t (by_test (is_number_in n fill.job) refl)
      where
        by_test : (b : Bool) → is_number_in n fill.job ≡ b → key_by n (fill ∷ joined_by key waiter fills) ≡ key_by n (fill ∷ fills)
        by_test true u = rw u refl
        by_test false u = rw u more

none_by : (n : ℕ) (fills : List Fill) → key_by n fills ≡ None → fill_by n fills ≡ None
none_by n fills e = go (fill_by n fills) e
  where
    go : (o : Option Fill) → option_map (λ (fill : Fill). fill.key) o ≡ None → o ≡ None
    go None e = refl
    go (Some fill) e = absurd (cc)

-- the same jobs bring the same keys
sole_as : (job : Option ℕ) (fills more : List Fill) → ((n : ℕ) → key_by n more ≡ key_by n fills) → IsSole job fills → IsSole job more
sole_as None fills more same s = tt
sole_as (Some n) fills more same s = none_by n more (same n ∙ ap (option_map (λ (fill : Fill). fill.key)) s)

sole_joined : (key : List ℕ) (waiter : Waiter) (fills : List Fill) → AreSole fills → AreSole (joined_by key waiter fills)
sole_joined key waiter [] all = (tt, tt)
sole_joined key waiter (fill ∷ fills) all = by_key (is_fill_of key fill) refl (sole_joined key waiter fills all.1)
  where
    by_key : (b : Bool) → is_fill_of key fill ≡ b → AreSole (joined_by key waiter fills) → AreSole (joined_by key waiter (fill ∷ fills))
    by_key true t more = rw t all
    by_key false t more = rw t (sole_as fill.job fills (joined_by key waiter fills) (λ n. by_joined n key waiter fills) all.0, more)

led_joined : {S : Type 0} (keys : IndexMap ℕ (List ℕ) S) (key : List ℕ) (waiter : Waiter) (fills : List Fill) → IsLed fills keys → IsLed (joined_by key waiter fills) keys
led_joined keys key waiter fills led = record {
  leads = λ n. led.leads n ∙ sym (by_joined n key waiter fills);
  sole = sole_joined key waiter fills led.sole;
}

-- ---- a job takes a fill

-- where no fill has the key, none is taken
none_taken : (key : List ℕ) (number : ℕ) (fills : List Fill) → fill_at key fills ≡ None → taken_fill key number fills ≡ fills
none_taken key number [] e = refl
none_taken key number (fill ∷ fills) e = by_key (is_fill_of key fill) refl (none_taken key number fills)
  where
    by_key : (b : Bool) → is_fill_of key fill ≡ b → (fill_at key fills ≡ None → taken_fill key number fills ≡ fills) → taken_fill key number (fill ∷ fills) ≡ fill ∷ fills
    by_key true t more = absurd (cc (rw t at e))
    by_key false t more = rw t (ap (λ rest. fill ∷ rest) (more (rw t at e)))

pub alone : (key : List ℕ) (fill : Fill) (fills : List Fill) → is_fill_of key fill ≡ true → AreKeyed (fill ∷ fills) → fill_at key fills ≡ None
alone key fill fills t keyed = subst (λ k. fill_at k fills ≡ None) (is_key key fill t) keyed.0

-- the fill of the key has no job yet
by_taken : (n number : ℕ) (key : List ℕ) (fills : List Fill) → AreKeyed fills → is_some (fill_at key fills) ≡ true → IsFree (fill_at key fills) → key_by number fills ≡ None
    → key_by n (taken_fill key number fills) ≡ (if number == n then Some key else key_by n fills)
by_taken n number key [] keyed some free fresh = absurd (cc)
by_taken n number key (fill ∷ fills) keyed some free fresh = by_key (is_fill_of key fill) refl (by_taken n number key fills keyed.1)
  where
    by_key : (b : Bool) → is_fill_of key fill ≡ b
        → (is_some (fill_at key fills) ≡ true → IsFree (fill_at key fills) → key_by number fills ≡ None → key_by n (taken_fill key number fills) ≡ (if number == n then Some key else key_by n fills))
        → key_by n (taken_fill key number (fill ∷ fills)) ≡ (if number == n then Some key else key_by n (fill ∷ fills))
    by_key true t more =
        let none : fill.job ≡ None = (rw t at free) in
        rw (t, none, none_taken key number fills (alone key fill fills t keyed)) (by_number (number == n) refl)
      where
        by_number : (b : Bool) → (number == n) ≡ b → key_by n (record fill { job = Some number } ∷ fills) ≡ (if number == n then Some key else key_by n fills)
        by_number true u = rw u (ap Some (is_key key fill t))
        by_number false u = rw u refl
    by_key false t more = rw t (by_test (is_number_in n fill.job) refl (more (rw t at some) (rw t at free) (behind (is_number_in number fill.job) refl fresh)))
      where
        behind : (b : Bool) → is_number_in number fill.job ≡ b → key_by number (fill ∷ fills) ≡ None → key_by number fills ≡ None
        behind true u e = absurd (cc (rw u at e))
        behind false u e = (rw u at e)

        other : (job : Option ℕ) → is_number_in n job ≡ true → is_number_in number job ≡ false → (number == n) ≡ false
        other None u v = absurd (cc)
        other (Some m) u v = let same : m ≡ n = eqb-true m n u in grind (arith, same, v)

        not_number : (b : Bool) → is_number_in number fill.job ≡ b → key_by number (fill ∷ fills) ≡ None → is_number_in number fill.job ≡ false
        not_number true u e = absurd (cc (rw u at e))
        not_number false u e = u

        by_test : (b : Bool) → is_number_in n fill.job ≡ b → key_by n (taken_fill key number fills) ≡ (if number == n then Some key else key_by n fills)
            → key_by n (fill ∷ taken_fill key number fills) ≡ (if number == n then Some key else key_by n (fill ∷ fills))
        by_test true u rest = rw (u, other fill.job u (not_number (is_number_in number fill.job) refl fresh)) refl
        by_test false u rest = rw u rest

-- another job still brings nothing behind
sole_other : (job : Option ℕ) (number : ℕ) (key : List ℕ) (fills : List Fill) → is_number_in number job ≡ false → AreKeyed fills → is_some (fill_at key fills) ≡ true → IsFree (fill_at key fills) → key_by number fills ≡ None
    → IsSole job fills → IsSole job (taken_fill key number fills)
sole_other None number key fills not keyed some free fresh s = tt
sole_other (Some m) number key fills not keyed some free fresh s =
    let x : (number == m) ≡ false = grind (arith, not) in
    none_by m (taken_fill key number fills) (by_taken m number key fills keyed some free fresh ∙ rw x (ap (option_map (λ (fill : Fill). fill.key)) s))

sole_taken : (number : ℕ) (key : List ℕ) (fills : List Fill) → AreKeyed fills → is_some (fill_at key fills) ≡ true → IsFree (fill_at key fills) → key_by number fills ≡ None → AreSole fills → AreSole (taken_fill key number fills)
sole_taken number key [] keyed some free fresh all = absurd (cc)
sole_taken number key (fill ∷ fills) keyed some free fresh all = by_key (is_fill_of key fill) refl (sole_taken number key fills keyed.1)
  where
    behind : (b : Bool) → is_number_in number fill.job ≡ b → key_by number (fill ∷ fills) ≡ None → (is_number_in number fill.job ≡ false) × (key_by number fills ≡ None)
    behind true u e = absurd (cc (rw u at e))
    behind false u e = (u, rw u at e)

    by_key : (b : Bool) → is_fill_of key fill ≡ b
        → (is_some (fill_at key fills) ≡ true → IsFree (fill_at key fills) → key_by number fills ≡ None → AreSole fills → AreSole (taken_fill key number fills))
        → AreSole (taken_fill key number (fill ∷ fills))
    by_key true t more = rw (t, none_taken key number fills (alone key fill fills t keyed)) (none_by number fills (behind (is_number_in number fill.job) refl fresh).1, all.1)
    by_key false t more =
        let rest = behind (is_number_in number fill.job) refl fresh in
        rw t (sole_other fill.job number key fills rest.0 keyed.1 (rw t at some) (rw t at free) rest.1 all.0, more (rw t at some) (rw t at free) rest.1 all.1)

led_taken : {S : Type 0} (keys keys2 : IndexMap ℕ (List ℕ) S) (key copy : List ℕ) (number : ℕ) (fills : List Fill) → copy ≡ key → AreKeyed fills → is_some (fill_at key fills) ≡ true → IsFree (fill_at key fills) → fill_by number fills ≡ None
    → ((n : ℕ) → get nat_eq keys2 n ≡ (if number == n then Some copy else get nat_eq keys n)) → IsLed fills keys → IsLed (taken_fill key number fills) keys2
led_taken keys keys2 key copy number fills same keyed some free fresh leads led = record {
  leads = λ n. leads n ∙ ((λ i. if number == n then Some (same i) else led.leads n i) ∙ sym (by_taken n number key fills keyed some free (ap (option_map (λ (fill : Fill). fill.key)) fresh)));
  sole = sole_taken number key fills keyed some free (ap (option_map (λ (fill : Fill). fill.key)) fresh) led.sole;
}

-- ---- a fill goes

abbrev pub job_at : Option Fill → Option ℕ
job_at None = None
job_at (Some fill) = fill.job

found_not : (n : ℕ) (key : List ℕ) (fills : List Fill) → fill_by n fills ≡ None → is_number_in n (job_at (fill_at key fills)) ≡ false
found_not n key [] e = refl
found_not n key (fill ∷ fills) e = by_test (is_number_in n fill.job) refl (found_not n key fills)
  where
    by_test : (b : Bool) → is_number_in n fill.job ≡ b → (fill_by n fills ≡ None → is_number_in n (job_at (fill_at key fills)) ≡ false) → is_number_in n (job_at (fill_at key (fill ∷ fills))) ≡ false
    by_test true t more = absurd (cc (rw t at e))
    by_test false t more = by_key (is_fill_of key fill) refl (more (rw t at e))
      where
        by_key : (b : Bool) → is_fill_of key fill ≡ b → is_number_in n (job_at (fill_at key fills)) ≡ false → is_number_in n (job_at (fill_at key (fill ∷ fills))) ≡ false
        by_key true u rest = rw u t
        by_key false u rest = rw u rest

none_without : (key : List ℕ) (fills : List Fill) → fill_at key fills ≡ None → without_fill key fills ≡ fills
none_without key [] e = refl
none_without key (fill ∷ fills) e = by_key (is_fill_of key fill) refl (none_without key fills)
  where
    by_key : (b : Bool) → is_fill_of key fill ≡ b → (fill_at key fills ≡ None → without_fill key fills ≡ fills) → without_fill key (fill ∷ fills) ≡ fill ∷ fills
    by_key true t more = absurd (cc (rw t at e))
    by_key false t more = rw t (ap (λ rest. fill ∷ rest) (more (rw t at e)))

sole_none : (n : ℕ) (job : Option ℕ) (fills : List Fill) → is_number_in n job ≡ true → IsSole job fills → fill_by n fills ≡ None
sole_none n None fills t s = absurd (cc)
sole_none n (Some m) fills t s = subst (λ k. fill_by k fills ≡ None) (eqb-true m n t) s

by_without : (n : ℕ) (key : List ℕ) (fills : List Fill) → AreKeyed fills → AreSole fills → key_by n (without_fill key fills) ≡ (if is_number_in n (job_at (fill_at key fills)) then None else key_by n fills)
by_without n key [] keyed sole = refl
by_without n key (fill ∷ fills) keyed sole = by_key (is_fill_of key fill) refl (by_without n key fills keyed.1 sole.1)
  where
    by_key : (b : Bool) → is_fill_of key fill ≡ b → key_by n (without_fill key fills) ≡ (if is_number_in n (job_at (fill_at key fills)) then None else key_by n fills)
        → key_by n (without_fill key (fill ∷ fills)) ≡ (if is_number_in n (job_at (fill_at key (fill ∷ fills))) then None else key_by n (fill ∷ fills))
    by_key true t more = rw (t, none_without key fills (alone key fill fills t keyed)) (by_test (is_number_in n fill.job) refl)
      where
        by_test : (b : Bool) → is_number_in n fill.job ≡ b → key_by n fills ≡ (if is_number_in n fill.job then None else key_by n (fill ∷ fills))
        by_test true u = rw u (ap (option_map (λ (f : Fill). f.key)) (sole_none n fill.job fills u sole.0))
        by_test false u = rw u refl
    by_key false t more = rw t (by_test (is_number_in n fill.job) refl more)
      where
        by_test : (b : Bool) → is_number_in n fill.job ≡ b → key_by n (without_fill key fills) ≡ (if is_number_in n (job_at (fill_at key fills)) then None else key_by n fills)
            → key_by n (fill ∷ without_fill key fills) ≡ (if is_number_in n (job_at (fill_at key fills)) then None else key_by n (fill ∷ fills))
        by_test true u rest = let none : is_number_in n (job_at (fill_at key fills)) ≡ false = found_not n key fills (sole_none n fill.job fills u sole.0) in rw (u, none) refl
        by_test false u rest = rw u rest

none_of : (n : ℕ) (test : Fill → Bool) (fills : List Fill) → fill_by n fills ≡ None → fill_by n (filter test fills) ≡ None
none_of n test [] e = refl
none_of n test (fill ∷ fills) e = by_test (is_number_in n fill.job) refl (none_of n test fills)
  where
    by_test : (b : Bool) → is_number_in n fill.job ≡ b → (fill_by n fills ≡ None → fill_by n (filter test fills) ≡ None) → fill_by n (filter test (fill ∷ fills)) ≡ None
    by_test true t more = absurd (cc (rw t at e))
    by_test false t more = by_kept (test fill) refl (more (rw t at e))
      where
        by_kept : (b : Bool) → test fill ≡ b → fill_by n (filter test fills) ≡ None → fill_by n (filter test (fill ∷ fills)) ≡ None
        by_kept true u rest = rw (u, t) rest
        by_kept false u rest = rw u rest

sole_of : (job : Option ℕ) (test : Fill → Bool) (fills : List Fill) → IsSole job fills → IsSole job (filter test fills)
sole_of None test fills s = tt
sole_of (Some n) test fills s = none_of n test fills s

sole_where : (test : Fill → Bool) (fills : List Fill) → AreSole fills → AreSole (filter test fills)
sole_where test [] all = all
sole_where test (fill ∷ fills) all = by_test (test fill) refl (sole_where test fills all.1)
  where
    by_test : (b : Bool) → test fill ≡ b → AreSole (filter test fills) → AreSole (filter test (fill ∷ fills))
    by_test true t more = rw t (sole_of fill.job test fills all.0, more)
    by_test false t more = rw t more

job_as : {A : Type 0} (key : List ℕ) (pieces : List (Piece (Named (Bringing A) A))) → job_by (piece_of key pieces) ≡ job_at (fill_at key (fills_in pieces))
job_as {A} key pieces = by_piece (piece_of key pieces) ∙ ap job_at (fill_there key pieces)
  where
    by_piece : (o : Option (Piece (Named (Bringing A) A))) → job_by o ≡ job_at (option_map fill_in o)
    by_piece None = refl
    by_piece (Some piece) = refl

pub led_without : {A S : Type 0} (keys keys2 : IndexMap ℕ (List ℕ) S) (key : List ℕ) (went : Option (Piece (Named (Bringing A) A))) (job : Option ℕ) (pieces now : List (Piece (Named (Bringing A) A))) → AreApart pieces → went ≡ piece_of key pieces → job ≡ job_by went
    → now ≡ without_key key pieces → ((n : ℕ) → get nat_eq keys2 n ≡ (if is_number_in n job then None else get nat_eq keys n)) → IsLed (fills_in pieces) keys → IsLed (fills_in now) keys2
led_without keys keys2 key went job pieces now apart is was left leads led =
    let fills = fills_in pieces in
    let j : job ≡ job_at (fill_at key fills) = was ∙ (ap job_by is ∙ job_as key pieces) in
    rw (left, fills_without key pieces) (record {
      leads = λ n. leads n ∙ ((λ i. if is_number_in n (j i) then None else led.leads n i) ∙ sym (by_without n key fills (keyed_as pieces apart) led.sole));
      sole = sole_where (λ fill. not (is_fill_of key fill)) fills led.sole;
    })

-- ---- the steps of the pieces

fills_end : {A : Type 0} (last : Piece (Named (Bringing A) A)) (pieces : List (Piece (Named (Bringing A) A))) → fills_in (pieces ++ last ∷ []) ≡ fills_in pieces ++ fill_in last ∷ []
fills_end last [] = refl
fills_end last (piece ∷ pieces) = ap (λ fills. fill_in piece ∷ fills) (fills_end last pieces)

pub led_pushed : {A S : Type 0} (keys : IndexMap ℕ (List ℕ) S) (last : Piece (Named (Bringing A) A)) (pieces : List (Piece (Named (Bringing A) A))) → last.value.value.job ≡ None → IsLed (fills_in pieces) keys → IsLed (fills_in (pieces ++ last ∷ [])) keys
led_pushed keys last pieces none led = rw (fills_end last pieces) (led_opened keys (fill_in last) (fills_in pieces) none led)

pub join_led : {A S : Type 0} (keys : IndexMap ℕ (List ℕ) S) (key : List ℕ) (waiter : Waiter) (refused : Bool) (empty x before : Bringing A) (pieces now : List (Piece (Named (Bringing A) A))) → AreApart pieces → option_map value_of (piece_of key pieces) ≡ Some before
    → now ≡ with_value key x (with_value key empty pieces) → x.waiters.items ≡ (if refused then before.waiters.items else before.waiters.items ++ waiter ∷ []) → x.job ≡ before.job → IsLed (fills_in pieces) keys → IsLed (fills_in now) keys
join_led keys key waiter true empty x before pieces now apart value is items job led = rw (join_keeps key empty x before pieces now apart value is items job) led
join_led keys key waiter false empty x before pieces now apart value is items job led = rw (join_joins key waiter empty x before pieces now apart value is items job) (led_joined keys key waiter (fills_in pieces) led)

some_fill : {A : Type 0} (key : List ℕ) (before : Bringing A) (pieces : List (Piece (Named (Bringing A) A))) → option_map value_of (piece_of key pieces) ≡ Some before → is_some (fill_at key (fills_in pieces)) ≡ true
some_fill {A} key before pieces e = sym (has_fill key pieces) ∙ there (piece_of key pieces) e
  where
    there : (o : Option (Piece (Named (Bringing A) A))) → option_map value_of o ≡ Some before → is_some o ≡ true
    there None e = absurd (cc)
    there (Some piece) e = refl

pub take_led : {A S : Type 0} (keys keys2 : IndexMap ℕ (List ℕ) S) (key copy : List ℕ) (number : ℕ) (empty x before : Bringing A) (pieces now : List (Piece (Named (Bringing A) A))) → AreApart pieces → option_map value_of (piece_of key pieces) ≡ Some before
    → now ≡ taken_key key (with_value key x (with_value key empty pieces)) → x.waiters.items ≡ before.waiters.items → x.job ≡ Some number → copy ≡ key → IsFree (fill_at key (fills_in pieces)) → fill_by number (fills_in pieces) ≡ None
    → ((n : ℕ) → get nat_eq keys2 n ≡ (if number == n then Some copy else get nat_eq keys n)) → IsLed (fills_in pieces) keys → IsLed (fills_in now) keys2
take_led keys keys2 key copy number empty x before pieces now apart value is items job same free fresh leads led =
    rw (take_takes key number empty x before pieces now apart value is items job)
    (led_taken keys keys2 key copy number (fills_in pieces) same (keyed_as pieces apart) (some_fill key before pieces value) free fresh leads led)

pub none_led : {A S : Type 0} (keys : IndexMap ℕ (List ℕ) S) (key : List ℕ) (empty : Bringing A) (pieces now : List (Piece (Named (Bringing A) A))) → option_map value_of (piece_of key pieces) ≡ None → now ≡ with_value key empty pieces → IsLed (fills_in pieces) keys → IsLed (fills_in now) keys
none_led {A} keys key empty pieces now none is led = rw (is, with_value-none key empty pieces (unmapped value_of (piece_of key pieces) none)) led

pub under_as : {A : Type 0} (key : Option (List ℕ)) (pieces : List (Piece (Named (Bringing A) A))) → option_map fill_in (piece_by key pieces) ≡ fill_under key (fills_in pieces)
under_as None pieces = refl
under_as (Some key) pieces = fill_there key pieces
