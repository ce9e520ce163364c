-- What a filter leaves of what a test finds, where it keeps or takes out all of that.
use Rattle.std.proofs.Common.{◌≡◌, ℕ, ◌==◌, Bool, true, false, if◌then◌else◌, List, [], ◌∷◌, Option, None, refl, sym, ap, ◌∙◌, arith}
use Rattle.std.specs.Prelude.{not, ◌&&◌, nat_lt, option_map}
use Rattle.std.specs.List.{filter, find}
use Rattle.std.specs.Str.{bytes_eq}
use Rattle.std.proofs.lemmas.Bool.{and_parts, both_ways, false≢true, false_from_ne_true, not_from_true, not_from_false}
use Rattle.std.proofs.lemmas.Map.Views.{any-filter_same}
use Rattle.std.proofs.lemmas.Slice.Eq.{bytes_eq-Decides}
use Rattle.std.proofs.lemmas.Bool.Decides.{Decides-eqb}
use Rattle.hc_types.specs.Tally.{count}
use Rattle.hc_history.specs.Note.{Op, Reply, Note, Begin, Did, End}
use Rattle.hc_history.specs.Books.{Call, Answer, open_calls, owed, is_among, without_key}
use Rattle.hc_history.specs.Lawful.{changes}
use Rattle.hc_judge_memory.specs.Calls as spec

module _ {X : Type 0} (test p : X → Bool) where
  count-one : (x : X) (xs ys : List X) (t k b : Bool) → test x ≡ t → (t ≡ true → k ≡ b) → count test ys ≡ (if b then count test xs else 0) → count test (if k then x ∷ ys else ys) ≡ (if b then count test (x ∷ xs) else 0)
  count-one x xs ys true true true e s ih = rw e (omega (arith, ih))
  count-one x xs ys true true false e s ih = absurd (false≢true (sym (s refl)))
  count-one x xs ys true false true e s ih = absurd (false≢true (s refl))
  count-one x xs ys true false false e s ih = ih
  count-one x xs ys false true true e s ih = rw e (omega (arith, ih))
  count-one x xs ys false true false e s ih = rw e (omega (arith, ih))
  count-one x xs ys false false true e s ih = rw e (omega (arith, ih))
  count-one x xs ys false false false e s ih = ih

  pub count-filter : (b : Bool) → ((x : X) → test x ≡ true → p x ≡ b) → (xs : List X) → count test (filter p xs) ≡ (if b then count test xs else 0)
  count-filter true same [] = refl
  count-filter false same [] = refl
  count-filter b same (x ∷ xs) = count-one x xs (filter p xs) (test x) (p x) b refl (same x) (count-filter b same xs)

  find-one : (x : X) (xs ys : List X) (t k b : Bool) → test x ≡ t → (t ≡ true → k ≡ b) → find test ys ≡ (if b then find test xs else None) → find test (if k then x ∷ ys else ys) ≡ (if b then find test (x ∷ xs) else None)
  find-one x xs ys true true true e s ih = rw e refl
  find-one x xs ys true true false e s ih = absurd (false≢true (sym (s refl)))
  find-one x xs ys true false true e s ih = absurd (false≢true (s refl))
  find-one x xs ys true false false e s ih = ih
  find-one x xs ys false true true e s ih = rw e ih
  find-one x xs ys false true false e s ih = rw e ih
  find-one x xs ys false false true e s ih = rw e ih
  find-one x xs ys false false false e s ih = ih

  pub find-filter : (b : Bool) → ((x : X) → test x ≡ true → p x ≡ b) → (xs : List X) → find test (filter p xs) ≡ (if b then find test xs else None)
  find-filter true same [] = refl
  find-filter false same [] = refl
  find-filter b same (x ∷ xs) = find-one x xs (filter p xs) (test x) (p x) b refl (same x) (find-filter b same xs)

-- ---- under a number

same-number : (n call gone : ℕ) → (n == call) ≡ true → not (n == gone) ≡ not (call == gone)
same-number n call gone h = ap (λ (m : ℕ). not (m == gone)) ((Decides-eqb n call).0 h)

is-gone : (gone call : ℕ) → gone ≡ call → not (call == gone) ≡ false
is-gone gone call e = not_from_true (call == gone) ((Decides-eqb call gone).1 (sym e))

is-other : (gone call : ℕ) → (gone ≡ call → ⊥) → not (call == gone) ≡ true
is-other gone call other = not_from_false (call == gone) (false_from_ne_true (call == gone) (λ h. other (sym ((Decides-eqb call gone).0 h))))

counted : (b : Bool) (all : ℕ) → nat_lt 0 (if b then all else 0) ≡ (b && nat_lt 0 all)
counted true all = refl
counted false all = refl

opened : (b : Bool) (all : Option Call) → option_map (λ (c : Call). c.op) (if b then all else None) ≡ (if b then option_map (λ (c : Call). c.op) all else None)
opened true all = refl
opened false all = refl

-- a reply was handed out
owed-ended : (older : List Note) (ended call : ℕ) → spec.is_owed (End ended ∷ older) call ≡ (not (call == ended) && spec.is_owed older call)
owed-ended older ended call =
    let left = count-filter (λ (answer : Answer). answer.number == call) (λ (answer : Answer). not (answer.number == ended)) (not (call == ended)) (λ x h. same-number x.number call ended h) (owed older) in
    ap (nat_lt 0) left ∙ counted (not (call == ended)) _

pub owed-gone : (older : List Note) (ended call : ℕ) → ended ≡ call → spec.is_owed (End ended ∷ older) call ≡ false
owed-gone older ended call e = owed-ended older ended call ∙ ap (λ (b : Bool). b && spec.is_owed older call) (is-gone ended call e)

pub owed-stays : (older : List Note) (ended call : ℕ) → (ended ≡ call → ⊥) → spec.is_owed (End ended ∷ older) call ≡ spec.is_owed older call
owed-stays older ended call other = owed-ended older ended call ∙ ap (λ (b : Bool). b && spec.is_owed older call) (is-other ended call other)

-- a call was answered
open_op-done : (older : List Note) (done call : ℕ) (reply : Reply) → spec.open_op call (Did done reply ∷ older) ≡ (if not (call == done) then spec.open_op call older else None)
open_op-done older done call reply =
    let left = find-filter (λ (c : Call). c.number == call) (λ (c : Call). not (c.number == done)) (not (call == done)) (λ x h. same-number x.number call done h) (open_calls older) in
    ap (option_map (λ (c : Call). c.op)) left ∙ opened (not (call == done)) _

pub op-gone : (older : List Note) (done call : ℕ) (reply : Reply) → done ≡ call → spec.open_op call (Did done reply ∷ older) ≡ None
op-gone older done call reply e = open_op-done older done call reply ∙ ap (λ (b : Bool). if b then spec.open_op call older else None) (is-gone done call e)

pub op-stays : (older : List Note) (done call : ℕ) (reply : Reply) → (done ≡ call → ⊥) → spec.open_op call (Did done reply ∷ older) ≡ spec.open_op call older
op-stays older done call reply other = open_op-done older done call reply ∙ ap (λ (b : Bool). if b then spec.open_op call older else None) (is-other done call other)

-- another call began
pub op-passed : (older : List Note) (begun client call : ℕ) (op : Op) → (begun ≡ call → ⊥) → spec.open_op call (Begin begun client op ∷ older) ≡ spec.open_op call older
op-passed older begun client call op other =
    let e = false_from_ne_true (begun == call) (λ h. other ((Decides-eqb begun call).0 h)) in
    rw e refl

changed-done : (older : List Note) (done call : ℕ) (r reply : Reply) (key : List ℕ) → spec.is_changed_by call reply key (Did done r ∷ older) ≡ (not (call == done) && spec.is_changed_by call reply key older)
changed-done older done call r reply key =
    let left = count-filter (λ (c : Call). (c.number == call) && changes c.op reply key) (λ (c : Call). not (c.number == done)) (not (call == done)) (λ x h. same-number x.number call done (and_parts (x.number == call) (changes x.op reply key) h).0) (open_calls older) in
    ap (nat_lt 0) left ∙ counted (not (call == done)) _

pub changed-gone : (older : List Note) (done call : ℕ) (r reply : Reply) (key : List ℕ) → done ≡ call → spec.is_changed_by call reply key (Did done r ∷ older) ≡ false
changed-gone older done call r reply key e = changed-done older done call r reply key ∙ ap (λ (b : Bool). b && spec.is_changed_by call reply key older) (is-gone done call e)

pub changed-stays : (older : List Note) (done call : ℕ) (r reply : Reply) (key : List ℕ) → (done ≡ call → ⊥) → spec.is_changed_by call reply key (Did done r ∷ older) ≡ spec.is_changed_by call reply key older
changed-stays older done call r reply key other = changed-done older done call r reply key ∙ ap (λ (b : Bool). b && spec.is_changed_by call reply key older) (is-other done call other)

-- ---- keys

same-key : (k key gone : List ℕ) → bytes_eq k key ≡ true → not (bytes_eq k gone) ≡ not (bytes_eq key gone)
same-key k key gone h = ap (λ (m : List ℕ). not (bytes_eq m gone)) ((bytes_eq-Decides k key).0 h)

-- a key was taken out
pub key-gone : (keys : List (List ℕ)) (gone key : List ℕ) → bytes_eq gone key ≡ true → is_among key (without_key gone keys) ≡ false
key-gone keys gone key e =
    let same = (bytes_eq-Decides key gone).1 (sym ((bytes_eq-Decides gone key).0 e)) in
    any-filter_same (λ (other : List ℕ). bytes_eq other key) (λ (other : List ℕ). not (bytes_eq other gone)) (not (bytes_eq key gone)) (λ k h. same-key k key gone h) keys ∙ ap (λ (b : Bool). not b && is_among key keys) same

pub key-stays : (keys : List (List ℕ)) (gone key : List ℕ) → bytes_eq gone key ≡ false → is_among key (without_key gone keys) ≡ is_among key keys
key-stays keys gone key e =
    let other = false_from_ne_true (bytes_eq key gone) (λ h. both_ways (bytes_eq gone key) e ((bytes_eq-Decides gone key).1 (sym ((bytes_eq-Decides key gone).0 h)))) in
    any-filter_same (λ (other : List ℕ). bytes_eq other key) (λ (other : List ℕ). not (bytes_eq other gone)) (not (bytes_eq key gone)) (λ k h. same-key k key gone h) keys ∙ ap (λ (b : Bool). not b && is_among key keys) other
