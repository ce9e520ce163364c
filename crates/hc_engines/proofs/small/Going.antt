-- What is under way after a call of BigHash, as an engine.
use Rattle.std.proofs.Common.{◌≡◌, ℕ, ◌==◌, Option, Some, None, refl, subst}
use Rattle.std.specs.Prelude.{if◌then◌else◌, option_map, Result, Ok, Err, IfOk, IfSome}
use Rattle.hc_engines.specs.Engine.{Op, Next, IoResult, Pages, then_under_way}
use Rattle.hc_engines.specs.small.BigHash.{BigHash, Job, Moved, job_at, start, resume}
use Rattle.hc_engines.specs.small.Held.{StateFits, under_way, job_under_way}
use Rattle.hc_engines.proofs.small.Apart.{start_goes, resume_goes}

if_ok : {T E : Type 0} (r : Result T E) (P Q : T → Type 0) → ((x : T) → P x → Q x) → IfOk r P → IfOk r Q
if_ok (Ok x) P Q f h = f x h
if_ok (Err e) P Q f h = h

abbrev Goes : BigHash → BigHash → ℕ → Op → Next → Type 0
Goes s new number op next = (other : ℕ) → under_way new other ≡ (if other == number then then_under_way op next else under_way s other)

pub started : {T E : Type 0} (r : Result T E) (view : T → Next) (s new : BigHash) (number : ℕ) (op : Op) → under_way s number ≡ None → IfOk r (λ next. start s number op ≡ record { state = new; next = view next }) → IfOk r (λ next. Goes s new number op (view next))
started r view s new number op none ok = if_ok r _ _ (λ next made. subst (λ (m : Moved). Goes s m.state number op m.next) made (start_goes s number op none)) ok

goes-at : (s new : BigHash) (number : ℕ) (result : IoResult) (next : Next) (o : Option Job) → job_at number s.jobs ≡ o → resume s number result ≡ Some (record { state = new; next = next })
    → IfSome (option_map (job_under_way s.flash) o) (λ w. (pages : Pages) → StateFits s pages → Goes s new number w.op next)
goes-at s new number result next None at made = tt
goes-at s new number result next (Some job) at made = λ pages fits. resume_goes s pages number result job (record { state = new; next = next }) fits at made

pub went : {T E : Type 0} (r : Result T E) (view : T → Next) (s new : BigHash) (number : ℕ) (result : IoResult) → IfOk r (λ next. resume s number result ≡ Some (record { state = new; next = view next }))
    → IfOk r (λ next. IfSome (under_way s number) (λ w. (pages : Pages) → StateFits s pages → Goes s new number w.op (view next)))
went r view s new number result ok = if_ok r _ _ (λ next made. goes-at s new number result (view next) (job_at number s.jobs) refl made) ok
