-- A step's part that is lawful by the books of a legal log extends it.
use Rattle.std.proofs.Common.{◌≡◌, inl, inr, ℕ, Bool, true, false, List, [], ◌∷◌, ◌++◌, Option, Some, None, refl, subst, sym}
use Rattle.std.specs.Prelude.{IsSomeAnd, not, ◌||◌}
use Rattle.hc_types.specs.Config.{Config}
use Rattle.hc_types.specs.declared.config.FlashConfig.{FlashConfig}
use Rattle.hc_types.specs.Loss as loss
use Rattle.hc_types.specs.Loss.{Scope, Cause, Evicted, BucketFull, Reclaimed, NoCleanRegion, Collision, Expired, Fault}
use Rattle.hc_history.specs.Note.{Reply, Note, Begin, Did, End, Lose, Charged, Linked, Freed, Queued, Unqueued, Buried, Read, Opened, Now}
use Rattle.hc_history.specs.Regions.{passes, open_region, filling, put_from, goes_on}
use Rattle.hc_history.specs.Lawful.{next_charged, next_answer, IsChanged, IsEvicted, IsCollision, IsTrueOnFlash, IsTrueCause, MayFree, AllowedOnFlash, Allowed, Lawful, past, AtEnd, ExtendsLegal}

-- what comes later doesn't change which charge is next
pub next_charged-append : (rest part : List Note) (next : ℕ × ℕ) → next_charged rest ≡ Some next → next_charged (rest ++ part) ≡ Some next
next_charged-append (Charged n key pool bytes ∷ rest) part next h = h
next_charged-append (Freed n ∷ rest) part next h = next_charged-append rest part next h
next_charged-append (Queued key ∷ rest) part next h = next_charged-append rest part next h
next_charged-append (Lose scope cause ∷ rest) part next h = next_charged-append rest part next h
next_charged-append rest part next h = absurd cc

-- nor which call is answered next
pub next_answer-append : (rest part : List Note) (next : ℕ × Reply) → next_answer rest ≡ Some next → next_answer (rest ++ part) ≡ Some next
next_answer-append [] part next h = absurd cc
next_answer-append (Did call reply ∷ rest) part next h = h
next_answer-append (Begin call client op ∷ rest) part next h = absurd cc
next_answer-append (Read page result ∷ rest) part next h = absurd cc
next_answer-append (note ∷ rest) part next h = next_answer-append rest part next h

-- which call is answered next is seen through notes that begin, answer and read nothing
abbrev pub is_quiet : Note → Bool
is_quiet (Begin call client op) = false
is_quiet (Did call reply) = false
is_quiet (Read page result) = false
is_quiet note = true

-- what holds of the next one still does
still : {A : Type 0} (next : List Note → Option A) → ((rest part : List Note) (x : A) → next rest ≡ Some x → next (rest ++ part) ≡ Some x) → (P : A → Type 0) (rest part : List Note) (o : Option A) → next rest ≡ o → IsSomeAnd o P → IsSomeAnd (next (rest ++ part)) P
still next more P rest part None e h = absurd h
still next more P rest part (Some x) e h = rw (more rest part x e) h

module _ (config : Config) (part : List Note) where
  charged-more : (P : ℕ × ℕ → Type 0) (rest : List Note) → IsSomeAnd (next_charged rest) P → IsSomeAnd (next_charged (rest ++ part)) P
  charged-more P rest h = still next_charged next_charged-append P rest part (next_charged rest) refl h

  changed-more : (older : List Note) (key : List ℕ) (rest : List Note) → IsChanged older key rest → IsChanged older key (rest ++ part)
  changed-more older key rest h = still next_answer next_answer-append _ rest part (next_answer rest) refl h

  may_free-more : (older : List Note) (key : List ℕ) (pool : ℕ) (rest : List Note) → MayFree config older key pool rest → MayFree config older key pool (rest ++ part)
  may_free-more older key pool rest (inl h) = inl (changed-more older key rest h)
  may_free-more older key pool rest (inr h) = inr (charged-more _ rest h)

  evicted-more : (older : List Note) (key : List ℕ) (pool want : ℕ) (rest : List Note) → IsEvicted config older key pool want rest → IsEvicted config older key pool want (rest ++ part)
  evicted-more (Freed n ∷ before) key pool want rest h = (h.0, h.1, next_charged-append rest part (pool, want) h.2)
  evicted-more older key pool want rest h = absurd h

  collision-more : (flash : FlashConfig) (older : List Note) (by : List ℕ) (rest : List Note) → IsCollision flash older by rest → IsCollision flash older by (rest ++ part)
  collision-more flash older by rest (inl h) = inl h
  collision-more flash older by rest (inr h) = inr (changed-more older by rest h.0, h.1)

  on_flash-more : (flash : FlashConfig) (older : List Note) (scope : Scope) (cause : Cause) (rest : List Note) → IsTrueOnFlash flash older scope cause rest → IsTrueOnFlash flash older scope cause (rest ++ part)
  on_flash-more flash older (loss.Key key) BucketFull rest h = h
  on_flash-more flash older (loss.Hash kept None) (Reclaimed region) rest h = h
  on_flash-more flash older (loss.Key key) NoCleanRegion rest h = h
  on_flash-more flash older (loss.Hash kept (Some but)) (Collision by) rest h = (h.0, h.1, collision-more flash older by rest h.2)
  on_flash-more flash older scope Fault rest h = h
  on_flash-more flash older scope cause rest h = absurd h

  in_flash-more : (flash : Option FlashConfig) (older : List Note) (scope : Scope) (cause : Cause) (rest : List Note) → IsSomeAnd flash (λ f. IsTrueOnFlash f older scope cause rest) → IsSomeAnd flash (λ f. IsTrueOnFlash f older scope cause (rest ++ part))
  in_flash-more None older scope cause rest h = h
  in_flash-more (Some flash) older scope cause rest h = on_flash-more flash older scope cause rest h

  cause-more : (older : List Note) (scope : Scope) (cause : Cause) (rest : List Note) → IsTrueCause config older scope cause rest → IsTrueCause config older scope cause (rest ++ part)
  cause-more older (loss.Key key) Expired rest h = h
  cause-more older (loss.Key key) (Evicted pool want why) rest h = (h.0, h.1, evicted-more older key pool want rest h.2)
  cause-more older scope cause rest h = in_flash-more config.flash older scope cause rest h

  -- the next charge is the same, and it still tells an eviction
  waits-more : (older : List Note) (key : List ℕ) (rest : List Note) (o : Option (ℕ × ℕ)) → next_charged rest ≡ o → IsSomeAnd o (λ next. IsEvicted config older key next.0 next.1 rest) → IsSomeAnd (next_charged (rest ++ part)) (λ next. IsEvicted config older key next.0 next.1 (rest ++ part))
  waits-more older key rest None e h = absurd h
  waits-more older key rest (Some next) e h = rw (next_charged-append rest part next e) (evicted-more older key next.0 next.1 rest h)

  goes_on-more : (key : List ℕ) (rest : List Note) → goes_on key rest ≡ true → goes_on key (rest ++ part) ≡ true
  goes_on-more key (Opened region ∷ rest) h = h
  goes_on-more key (Lose (loss.Key k) NoCleanRegion ∷ rest) h = h
  goes_on-more key [] h = absurd (cc)
  goes_on-more key (note ∷ rest) h = absurd (cc)

  placed-more : (b : Bool) (key : List ℕ) (rest : List Note) → (not b || goes_on key rest) ≡ true → (not b || goes_on key (rest ++ part)) ≡ true
  placed-more true key rest h = goes_on-more key rest h
  placed-more false key rest h = refl

  note_on_flash-more : (flash : FlashConfig) (older : List Note) (note : Note) (rest : List Note) → AllowedOnFlash config flash older note rest → AllowedOnFlash config flash older note (rest ++ part)
  note_on_flash-more flash older (Queued key) rest h = record { evicted = waits-more older key rest (next_charged rest) refl h.evicted; unexpired = h.unexpired; admitted = h.admitted; first = h.first; elsewhere = h.elsewhere }
  note_on_flash-more flash older (Buried key) rest h = (changed-more older key rest h.0, h.1, h.2)
  note_on_flash-more flash older (Unqueued key) rest h = (h.0, placed-more (passes flash (open_region flash older) (filling flash older) (put_from flash older key)) key rest h.1)
  note_on_flash-more flash older note rest h = h

  beside-more : (flash : Option FlashConfig) (older : List Note) (note : Note) (rest : List Note) → IsSomeAnd flash (λ f. AllowedOnFlash config f older note rest) → IsSomeAnd flash (λ f. AllowedOnFlash config f older note (rest ++ part))
  beside-more None older note rest h = h
  beside-more (Some flash) older note rest h = note_on_flash-more flash older note rest h

  -- what was allowed stays so
  pub Allowed-more : (older : List Note) (note : Note) (rest : List Note) → Allowed config older note rest → Allowed config older note (rest ++ part)
  Allowed-more older (Begin n client op) rest h = h
  Allowed-more older (Did n reply) rest h = h
  Allowed-more older (End n) rest h = h
  Allowed-more older (Lose scope cause) rest h = cause-more older scope cause rest h
  Allowed-more older (Charged n key pool bytes) rest h = h
  Allowed-more older (Linked n) rest h = h
  Allowed-more older (Now moment) rest h = h
  Allowed-more older (Freed n) rest (inl opened) = inl opened
  Allowed-more older (Freed n) rest (inr linked) = inr (linked.0, (linked.1.0, (linked.1.1.0, may_free-more older linked.0 linked.1.0 rest linked.1.1.1)))
  Allowed-more older note rest h = beside-more config.flash older note rest h

pub Lawful-append : (config : Config) (older log part : List Note) → Lawful config older log → Lawful config (past older log) part → Lawful config older (log ++ part)
Lawful-append config older [] part h next = next
Lawful-append config older (note ∷ log) part h next = (Allowed-more config part older note log h.0, Lawful-append config (note ∷ older) log part h.1 next)

pub past-append : (older log part : List Note) → past older (log ++ part) ≡ past (past older log) part
past-append older [] part = refl
past-append older (note ∷ log) part = past-append (note ∷ older) log part

-- a part that is lawful by the books of a legal log, and leaves what holds between two steps, extends it
pub Legal-append : (config : Config) (log part : List Note) → ExtendsLegal config log part
Legal-append config log part legal lawful at_end = record {
  lawful = Lawful-append config [] log part legal.lawful lawful;
  at_end = subst (AtEnd config) (sym (past-append [] log part)) at_end;
}
