-- At an idle filler each key that a call waits for has a busy bucket, or a read behind the buckets of its own.
use Rattle.std.proofs.Common.{◌≡◌, ℕ, ◌+◌, ◌≤◌, ◌==◌, Bool, true, false, not, ◌&&◌, ◌||◌, List, [], ◌∷◌, length, map, filter, Option, Some, None, refl, ap, sym, ◌∙◌, subst, arith}
use Rattle.std.specs.Prelude.{if◌then◌else◌, nat_le}
use Rattle.std.specs.Str.{bytes_eq}
use Rattle.std.proofs.lemmas.Bool.{eqb-true, eq-eqb, or_left, or_right}
use Rattle.hc_types.specs.Tally.{count}
use Rattle.hc_types.specs.declared.config.FlashConfig.{FlashConfig}
use Rattle.hc_machine.proofs.items.Items.{bytes_eq-refl}
use Rattle.hc_memory.proofs.Keyed.{same_bytes}
use Rattle.hc_history.specs.Books.{Call, is_among, open_calls}
use Rattle.hc_history.specs.Regions.{key_of}
use Rattle.hc_machine.specs.Nvm.{Fill, is_fill_of, fill_at, is_number_in}
use Rattle.hc_follows.specs.Desk.{Out, Desk, job_out, without_out}
use Rattle.hc_follows.specs.Idle.{page_of, is_read, is_busy, each_once, reads_behind, keys_free}
use Rattle.hc_proof.proofs.frames.ByNumber.{found-passes}
use Rattle.hc_proof.proofs.frames.Lists.{found-only}
use Rattle.hc_theorem.proofs.workers.JobsOut.{out_less}

-- ---- keys, each once

abbrev Once : List (List ℕ) → Type 0
Once [] = Unit {0}
Once (key ∷ keys) = (is_among key keys ≡ false) × Once keys

pub among_filter : (p : List ℕ → Bool) (keys : List (List ℕ)) (key : List ℕ) → is_among key (filter p keys) ≡ true → (is_among key keys ≡ true) × (p key ≡ true)
among_filter p [] key h = absurd cc
among_filter p (x ∷ keys) key h = go (p x) refl (bytes_eq x key) refl h (among_filter p keys key)
  where
    go : (t : Bool) → p x ≡ t → (u : Bool) → bytes_eq x key ≡ u → is_among key (if t then x ∷ filter p keys else filter p keys) ≡ true → (is_among key (filter p keys) ≡ true → (is_among key keys ≡ true) × (p key ≡ true)) → ((u || is_among key keys) ≡ true) × (p key ≡ true)
    go true t true u h more = (refl, ap p (sym (same_bytes x key u)) ∙ t)
    go true t false u h more = more (rw u at h)
    go false t true u h more = (refl, (more h).1)
    go false t false u h more = more h

none_among : (p : List ℕ → Bool) (keys : List (List ℕ)) (key : List ℕ) → is_among key keys ≡ false → is_among key (filter p keys) ≡ false
none_among p keys key h = go (is_among key (filter p keys)) refl
  where
    go : (t : Bool) → is_among key (filter p keys) ≡ t → t ≡ false
    go true e = absurd (let both = among_filter p keys key e in cc (both.0, h))
    go false e = refl

filter_once : (p : List ℕ → Bool) (keys : List (List ℕ)) → Once keys → Once (filter p keys)
filter_once p [] h = tt
filter_once p (key ∷ keys) h = go (p key) (filter_once p keys h.1)
  where
    go : (t : Bool) → Once (filter p keys) → Once (if t then key ∷ filter p keys else filter p keys)
    go true rest = (none_among p keys key h.0, rest)
    go false rest = rest

gone_among : (keys : List (List ℕ)) (key : List ℕ) → is_among key (filter (λ other. not (bytes_eq other key)) keys) ≡ false
gone_among keys key = go (is_among key (filter (λ other. not (bytes_eq other key)) keys)) refl
  where
    go : (t : Bool) → is_among key (filter (λ other. not (bytes_eq other key)) keys) ≡ t → t ≡ false
    go true e = absurd (let both = among_filter (λ other. not (bytes_eq other key)) keys key e in let own = bytes_eq-refl key in let n : not (bytes_eq key key) ≡ false = ap not own in cc (both.1, n))
    go false e = refl

each_once_once : (keys : List (List ℕ)) → Once (each_once keys)
each_once_once [] = tt
each_once_once (key ∷ keys) = (gone_among (each_once keys) key, filter_once (λ other. not (bytes_eq other key)) (each_once keys) (each_once_once keys))

among_once : (keys : List (List ℕ)) (key : List ℕ) → is_among key (each_once keys) ≡ true → is_among key keys ≡ true
among_once [] key h = h
among_once (x ∷ keys) key h = go (bytes_eq x key) h (λ e. among_once keys key e)
  where
    go : (t : Bool) → (t || is_among key (filter (λ other. not (bytes_eq other x)) (each_once keys))) ≡ true → (is_among key (each_once keys) ≡ true → is_among key keys ≡ true) → (t || is_among key keys) ≡ true
    go true h more = refl
    go false h more = more (among_filter (λ other. not (bytes_eq other x)) (each_once keys) key h).0

-- ---- no more keys than reads

-- a fill of the key has a job that passes the test
pub record ReadsFor (test : Out → Bool) (fills : List Fill) (outs : List Out) (key : List ℕ) : Type 0 where
  pub fill : Fill
  pub number : ℕ
  pub at : fill_at key fills ≡ Some fill
  pub job : fill.job ≡ Some number
  pub out : Out
  pub there : job_out number outs ≡ Some out
  pub passes : test out ≡ true

gone_counts : (test : Out → Bool) (n : ℕ) (outs : List Out) (out : Out) → job_out n outs ≡ Some out → test out ≡ true → 1 + count test (without_out n outs) ≤ count test outs
gone_counts test n [] out at h = absurd cc
gone_counts test n (x ∷ outs) out at h = go (x.job == n) at (fewer outs) (gone_counts test n outs out)
  where
    fewer : (xs : List Out) → count test (without_out n xs) ≤ count test xs
    fewer [] = omega arith
    fewer (y ∷ ys) = by (y.job == n) (fewer ys)
      where
        by : (t : Bool) → count test (without_out n ys) ≤ count test ys → count test (if not t then y ∷ without_out n ys else without_out n ys) ≤ (if test y then 1 else 0) + count test ys
        by true h = omega (arith, h)
        by false h = omega (arith, h)

    go : (t : Bool) → (if t then Some x else job_out n outs) ≡ Some out → count test (without_out n outs) ≤ count test outs → (job_out n outs ≡ Some out → test out ≡ true → 1 + count test (without_out n outs) ≤ count test outs)
        → 1 + count test (if not t then x ∷ without_out n outs else without_out n outs) ≤ (if test x then 1 else 0) + count test outs
    go true at less more = let same : x ≡ out = cc in let its : test x ≡ true = ap test same ∙ h in let one : ◌≡◌ {A = ℕ} (if test x then 1 else 0) 1 = ap {B = ℕ} (λ b. if b then 1 else 0) its in omega (arith, less, one)
    go false at less more = omega (arith, more at h)

brought_is : (number : ℕ) (job : Option ℕ) → job ≡ Some number → is_number_in number job ≡ true
brought_is number None e = absurd cc
brought_is number (Some n) e = let same : n ≡ number = cc in eq-eqb n number same

-- two keys whose fills have one job are one key
one_key : (fills : List Fill) (test : Out → Bool) (outs others : List Out) (a b : List ℕ) (p : ReadsFor test fills outs a) (q : ReadsFor test fills others b) → ((n : ℕ) → count (λ (fill : Fill). is_number_in n fill.job) fills ≤ 1) → p.number ≡ q.number → a ≡ b
one_key fills test outs others a b p q one same =
    let brings : Fill → Bool = λ (fill : Fill). is_number_in p.number fill.job in
    let here = found-only (is_fill_of a) brings fills p.fill p.at (brought_is p.number p.fill.job p.job) (one p.number) in
    let there = found-only (is_fill_of b) brings fills q.fill q.at (brought_is p.number q.fill.job (q.job ∙ ap Some (sym same))) (one p.number) in
    let fill : p.fill ≡ q.fill = let both : Some p.fill ≡ Some q.fill = sym here ∙ there in cc in
    sym (same_bytes p.fill.key a (found-passes (is_fill_of a) fills p.fill p.at)) ∙ ap (λ (f : Fill). f.key) fill ∙ same_bytes q.fill.key b (found-passes (is_fill_of b) fills q.fill q.at)

few_keys : (test : Out → Bool) (fills : List Fill) → ((n : ℕ) → count (λ (fill : Fill). is_number_in n fill.job) fills ≤ 1) → (keys : List (List ℕ)) (outs : List Out) → Once keys → ((key : List ℕ) → is_among key keys ≡ true → ReadsFor test fills outs key) → length keys ≤ count test outs
few_keys test fills one [] outs once each = omega arith
few_keys test fills one (key ∷ keys) outs once each =
    let own : is_among key (key ∷ keys) ≡ true = or_left (bytes_eq key key) (is_among key keys) (bytes_eq-refl key) in
    let first = each key own in
    let rest = few_keys test fills one keys (without_out first.number outs) once.1 (λ k h. later k h (each k (or_right (bytes_eq key k) (is_among k keys) h))) in
    omega (arith, rest, gone_counts test first.number outs first.out first.there first.passes)
  where
    later : (k : List ℕ) → is_among k keys ≡ true → ReadsFor test fills outs k → ReadsFor test fills (without_out (each key (or_left (bytes_eq key key) (is_among key keys) (bytes_eq-refl key))).number outs) k
    later k h r = by (r.number == first.number) refl
      where
        first : ReadsFor test fills outs key
        first = each key (or_left (bytes_eq key key) (is_among key keys) (bytes_eq-refl key))

        by : (t : Bool) → (r.number == first.number) ≡ t → ReadsFor test fills (without_out first.number outs) k
        by true e = absurd (let same : k ≡ key = one_key fills test outs outs k key r first one (eqb-true r.number first.number e) in let there : is_among key keys ≡ true = subst (λ (x : List ℕ). is_among x keys ≡ true) same h in cc (there, once.0))
        by false e = record { fill = r.fill; number = r.number; at = r.at; job = r.job; out = r.out; there = out_less first.number r.number outs ∙ ap (λ b. if b then None else job_out r.number outs) e ∙ r.there; passes = r.passes }

-- the keys that are free are no more than the reads behind the buckets, where each has one
pub few_free : (flash : FlashConfig) (desk : Desk) (fills : List Fill) → ((n : ℕ) → count (λ (fill : Fill). is_number_in n fill.job) fills ≤ 1)
    → ((key : List ℕ) → is_among key (map (λ (call : Call). key_of call.op) (open_calls desk.older)) ≡ true → is_busy flash desk.jobs key ≡ false → ReadsFor (λ (out : Out). is_read out.order && nat_le flash.buckets (page_of out.order)) fills desk.jobs key)
    → length (keys_free flash desk) ≤ reads_behind flash desk.jobs
few_free flash desk fills one each =
    let all = map (λ (call : Call). key_of call.op) (open_calls desk.older) in
    few_keys (λ (out : Out). is_read out.order && nat_le flash.buckets (page_of out.order)) fills one (keys_free flash desk) desk.jobs (filter_once (λ key. not (is_busy flash desk.jobs key)) (each_once all) (each_once_once all))
    (λ key h. let both = among_filter (λ key. not (is_busy flash desk.jobs key)) (each_once all) key h in each key (among_once all key both.0) (unbusy (is_busy flash desk.jobs key) both.1))
  where
    unbusy : (b : Bool) → not b ≡ true → b ≡ false
    unbusy true h = absurd cc
    unbusy false h = refl
