-- The two laws: what is read is spelled so, and what is spelled so is read.
use Rattle.std.proofs.Common.{◌≡◌, ℕ, zero, suc, ◌+◌, ◌-◌, ◌^◌, ◌<◌, ◌≤◌, Bool, true, false, cond, ◌&&◌, ◌==◌, List, [], ◌∷◌, ◌++◌, length, replicate, Option, Some, None, refl, sym, ap, subst, ◌∙◌, append_assoc, append-nil, arith, ltb, take, drop, length-append}
use Rattle.std.specs.List.{AllByRecursion, list_all}
use Rattle.std.specs.Int.{w16, w64, to_be_bytes}
use Rattle.std.proofs.lemmas.Bool.{eqb-true, eq-eqb, ltb-false, le-ltb}
use Rattle.std.proofs.lemmas.List.{nil_from_length, length-replicate}
use Rattle.std.proofs.lemmas.Grind.{common_steps}
use Rattle.std.proofs.lemmas.List.Concat.{flat_map-cons}
use Rattle.hc_types.specs.FlashEntry.{FlashEntry}
use Rattle.hc_bucket.specs.Page.{entry_bytes, entries_bytes, page_bytes, IsSmall, Fits, IsPage, distinct}
use Rattle.hc_bucket.specs.Reading.{◌>>=◌, byte_at, part_at, number_at, key_at, entry_at, entries_at, body_at, whole_at, content_at, page_at}
use Rattle.hc_bucket.proofs.Numbers.{IsBytes, IsBytes-take, bind_some, guard_some, test_some, some_is, Takes, wide16, wide64, number_takes, number_again, byte_takes, part_takes, part_again}

regroup : (a b key value rest : List ℕ) → a ++ (b ++ (key ++ (value ++ rest))) ≡ (a ++ (b ++ (key ++ value))) ++ rest
regroup a b key value rest = simp append_assoc

positive : (n : ℕ) → 1 ≤ n → (n == 0) ≡ false
positive n h = grind (arith, common_steps)

not-zero : (n : ℕ) → (n == 0) ≡ false → 1 ≤ n
not-zero n h = grind (arith, common_steps)

and-true : (x y : Bool) → (x && y) ≡ true → (x ≡ true) × (y ≡ true)
and-true true y h = (refl, h)
and-true false y h = absurd cc

-- the six parts, one after the other
pub record Parts (bytes : List ℕ) (k p v x : ℕ) (key value rest : List ℕ) : Type 0 where
  pub whole : bytes ≡ k ∷ p ∷ (to_be_bytes w16 v ++ (to_be_bytes w64 x ++ (key ++ (value ++ rest))))
  pub rest_fits : IsBytes rest
  pub key_len : length key ≡ k
  pub value_len : length value ≡ v

spelled : (bytes : List ℕ) (k p v x : ℕ) (key value rest : List ℕ) → Parts bytes k p v x key value rest → bytes ≡ entry_bytes (record { key = key; value = value; pool = p; expiry = x }) ++ rest
spelled bytes k p v x key value rest h =
    h.whole ∙ ap (λ (z : List ℕ). k ∷ p ∷ z) (regroup (to_be_bytes w16 v) (to_be_bytes w64 x) key value rest)
    ∙ ap (λ (n : ℕ). n ∷ p ∷ ((to_be_bytes w16 v ++ (to_be_bytes w64 x ++ (key ++ value))) ++ rest)) (sym h.key_len)
    ∙ ap (λ (n : ℕ). length key ∷ p ∷ ((to_be_bytes w16 n ++ (to_be_bytes w64 x ++ (key ++ value))) ++ rest)) (sym h.value_len)

-- an entry that is read is spelled so
pub entry_takes : (bytes : List ℕ) (y : FlashEntry × List ℕ) → IsBytes bytes → entry_at bytes ≡ Some y → Takes bytes (entry_bytes y.0) y.1 × IsSmall y.0
unfolding entry_at
entry_takes bytes y fits e =
    let a = bind_some (byte_at bytes) _ y e in
    let b = bind_some (byte_at a.0.1) _ y a.2 in
    let c = bind_some (number_at w16 b.0.1) _ y b.2 in
    let d = bind_some (number_at w64 c.0.1) _ y c.2 in
    let k = bind_some (part_at a.0.0 d.0.1) _ y d.2 in
    let v = bind_some (part_at c.0.0 k.0.1) _ y k.2 in
    let n = bind_some (key_at k.0.0) _ y v.2 in
    let made : FlashEntry × List ℕ = (record { key = k.0.0; value = v.0.0; pool = b.0.0; expiry = d.0.0 }, v.0.1) in
    let g = guard_some (length k.0.0 == 0) k.0.0 n.0 n.1 in
    let same : made ≡ y = ap (λ (key : List ℕ). (record { key = key; value = v.0.0; pool = b.0.0; expiry = d.0.0 }, v.0.1)) g.1 ∙ some_is _ y n.2 in
    let t0 = byte_takes bytes a.0.0 a.0.1 fits a.1 in
    let t1 = byte_takes a.0.1 b.0.0 b.0.1 t0.0.rest_fits b.1 in
    let t2 = number_takes w16 (2 ^ 16) wide16 b.0.1 c.0.0 c.0.1 t1.0.rest_fits c.1 in
    let t3 = number_takes w64 (2 ^ 64) wide64 c.0.1 d.0.0 d.0.1 t2.0.rest_fits d.1 in
    let t4 = part_takes a.0.0 d.0.1 k.0.0 k.0.1 t3.0.rest_fits k.1 in
    let t5 = part_takes c.0.0 k.0.1 v.0.0 v.0.1 t4.0.rest_fits v.1 in
    let parts : Parts bytes a.0.0 b.0.0 c.0.0 d.0.0 k.0.0 v.0.0 v.0.1 = record {
      whole = t0.0.parts ∙ ap (λ (z : List ℕ). a.0.0 ∷ z) (t1.0.parts ∙ ap (λ (z : List ℕ). b.0.0 ∷ z) (t2.0.parts ∙ ap (λ (z : List ℕ). to_be_bytes w16 c.0.0 ++ z) (t3.0.parts ∙ ap (λ (z : List ℕ). to_be_bytes w64 d.0.0 ++ z) (t4.0.parts ∙ ap (λ (z : List ℕ). k.0.0 ++ z) t5.0.parts))));
      rest_fits = t5.0.rest_fits;
      key_len = t4.1;
      value_len = t5.1;
    } in
    let some : 1 ≤ length k.0.0 = not-zero (length k.0.0) g.0 in
    subst (λ (z : FlashEntry × List ℕ). Takes bytes (entry_bytes z.0) z.1 × IsSmall z.0) same (
      record { parts = spelled bytes a.0.0 b.0.0 c.0.0 d.0.0 k.0.0 v.0.0 v.0.1 parts; rest_fits = t5.0.rest_fits },
      record { some_key = some; key = omega (arith, t4.1, t0.1); value = omega (arith, t5.1, t2.1); pool = t1.1; expiry = t3.1 },
    )

pub entry_again : (e : FlashEntry) (rest : List ℕ) → IsSmall e → entry_at (entry_bytes e ++ rest) ≡ Some (e, rest)
unfolding entry_at
entry_again e rest fits =
    let regrouped : entry_bytes e ++ rest ≡ length e.key ∷ e.pool ∷ (to_be_bytes w16 (length e.value) ++ (to_be_bytes w64 e.expiry ++ (e.key ++ (e.value ++ rest)))) = ap (λ (z : List ℕ). length e.key ∷ e.pool ∷ z) (sym (regroup (to_be_bytes w16 (length e.value)) (to_be_bytes w64 e.expiry) e.key e.value rest)) in
    ap entry_at regrouped ∙ rw (number_again w16 (2 ^ 16) wide16 (length e.value) (to_be_bytes w64 e.expiry ++ (e.key ++ (e.value ++ rest))) fits.value, number_again w64 (2 ^ 64) wide64 e.expiry (e.key ++ (e.value ++ rest)) fits.expiry, part_again e.key (e.value ++ rest) (length e.key) refl, part_again e.value rest (length e.value) refl, positive (length e.key) fits.some_key) refl

pub entries_take : (n : ℕ) (bytes : List ℕ) (x : List FlashEntry × List ℕ) → IsBytes bytes → entries_at n bytes ≡ Some x → Takes bytes (entries_bytes x.0) x.1 × (length x.0 ≡ n) × AllByRecursion IsSmall x.0
unfolding entries_at
entries_take zero bytes x fits e =
    subst (λ (y : List FlashEntry × List ℕ). Takes bytes (entries_bytes y.0) y.1 × (length y.0 ≡ 0) × AllByRecursion IsSmall y.0) (some_is ([], bytes) x e) (record { parts = refl; rest_fits = fits }, refl, tt)
entries_take (suc n) bytes x fits e =
    let a = bind_some (entry_at bytes) (λ first. entries_at n first.1 >>= λ others. Some (first.0 ∷ others.0, others.1)) x e in
    let b = bind_some (entries_at n a.0.1) (λ others. Some (a.0.0 ∷ others.0, others.1)) x a.2 in
    let first = entry_takes bytes a.0 fits a.1 in
    let second = entries_take n a.0.1 b.0 first.0.rest_fits b.1 in
    let both : bytes ≡ (entry_bytes a.0.0 ++ entries_bytes b.0.0) ++ b.0.1 = first.0.parts ∙ ap (λ (z : List ℕ). entry_bytes a.0.0 ++ z) second.0.parts ∙ sym (append_assoc (entry_bytes a.0.0) (entries_bytes b.0.0) b.0.1) in
    let made : List FlashEntry × List ℕ = (a.0.0 ∷ b.0.0, b.0.1) in
    subst (λ (y : List FlashEntry × List ℕ). Takes bytes (entries_bytes y.0) y.1 × (length y.0 ≡ suc n) × AllByRecursion IsSmall y.0) (some_is made x b.2) (rw flat_map-cons (record { parts = both; rest_fits = second.0.rest_fits }), ap suc second.1, (first.1, second.2))

entries_again : (es : List FlashEntry) (rest : List ℕ) → AllByRecursion IsSmall es → entries_at (length es) (entries_bytes es ++ rest) ≡ Some (es, rest)
unfolding entries_at
entries_again [] rest fits = refl
entries_again (n ∷ ns) rest fits =
    let regrouped : entries_bytes (n ∷ ns) ++ rest ≡ entry_bytes n ++ (entries_bytes ns ++ rest) = ap (λ (x : List ℕ). x ++ rest) (flat_map-cons entry_bytes n ns) ∙ append_assoc (entry_bytes n) (entries_bytes ns) rest in
    ap (entries_at (suc (length ns))) regrouped ∙ rw (entry_again n (entries_bytes ns ++ rest) fits.0, entries_again ns rest fits.1) refl

-- each entry takes 13 bytes or more, so the number of entries is smaller than the bytes that they use
pub fewer_than_bytes : (es : List FlashEntry) → length es ≤ length (entries_bytes es)
fewer_than_bytes [] = omega arith
fewer_than_bytes (e ∷ es) =
    let rest = fewer_than_bytes es in
    let cut : length (entries_bytes (e ∷ es)) ≡ length (entry_bytes e) + length (entries_bytes es) = ap length (flat_map-cons entry_bytes e es) ∙ length-append (entry_bytes e) (entries_bytes es) in
    omega (arith, cut, rest)

-- ---- the page

choose_some : {A : Type 0} (b : Bool) (r : Option A) (y : A) → cond b None r ≡ Some y → (b ≡ false) × (r ≡ Some y)
choose_some true r y e = absurd cc
choose_some false r y e = (refl, e)

body_takes : (u : ℕ) (bytes text rest : List ℕ) → IsBytes bytes → body_at u bytes ≡ Some (text, rest) → Takes bytes text rest × (4 + length text ≡ u) × IsBytes text
unfolding body_at
body_takes u bytes text rest fits e =
    let g = choose_some (ltb u 4) (part_at (u - 4) bytes) (text, rest) e in
    let long : 4 ≤ u = ltb-false _ _ g.0 in
    let t = part_takes (u - 4) bytes text rest fits g.1 in
    let h = guard_some (ltb (length bytes) (u - 4)) (take (u - 4) bytes, drop (u - 4) bytes) (text, rest) g.1 in
    (t.0, omega (arith, t.1), subst (λ (p : List ℕ × List ℕ). IsBytes p.0) h.1 (IsBytes-take (u - 4) bytes fits))

body_again : (text rest : List ℕ) → body_at (4 + length text) (text ++ rest) ≡ Some (text, rest)
unfolding body_at
body_again text rest =
    let long : ltb (4 + length text) 4 ≡ false = le-ltb _ _ (omega arith) in
    rw long (part_again text rest (4 + length text - 4) (omega arith))

zeros_are : (bytes : List ℕ) → list_all (λ b. b == 0) bytes ≡ true → bytes ≡ replicate (length bytes) 0
zeros_are [] h = refl
zeros_are (b ∷ bytes) h =
    let p = and-true (b == 0) (list_all (λ b. b == 0) bytes) h in
    let z : b ≡ 0 = eqb-true _ _ p.0 in
    ap (λ n. n ∷ bytes) z ∙ ap (λ (x : List ℕ). 0 ∷ x) (zeros_are bytes p.1)

zeros_all : (n : ℕ) → list_all (λ b. b == 0) (replicate n 0) ≡ true
zeros_all zero = refl
zeros_all (suc n) = zeros_all n

pub page_takes : (size : ℕ) (bytes : List ℕ) (es : List FlashEntry) → IsBytes bytes → page_at size bytes ≡ Some es → IsPage size es bytes
unfolding whole_at content_at page_at
page_takes size bytes es fits e =
    let t = test_some (length bytes == size) _ es e in
    let len : length bytes ≡ size = eqb-true _ _ t.0 in
    let a = bind_some (number_at w16 bytes) _ es t.1 in
    let b = bind_some (number_at w16 a.0.1) _ es a.2 in
    let d = bind_some (body_at b.0.0 b.0.1) _ es b.2 in
    let c = bind_some (entries_at a.0.0 d.0.0) _ es d.2 in
    let g = test_some (length c.0.1 == 0 && list_all (λ b. b == 0) d.0.1 && distinct c.0.0) (Some c.0.0) es c.2 in
    let same : c.0.0 ≡ es = some_is c.0.0 es g.1 in
    let front = and-true (length c.0.1 == 0 && list_all (λ b. b == 0) d.0.1) (distinct c.0.0) g.0 in
    let ends = and-true (length c.0.1 == 0) (list_all (λ b. b == 0) d.0.1) front.0 in
    let t0 = number_takes w16 (2 ^ 16) wide16 bytes a.0.0 a.0.1 fits a.1 in
    let t1 = number_takes w16 (2 ^ 16) wide16 a.0.1 b.0.0 b.0.1 t0.0.rest_fits b.1 in
    let t2 = body_takes b.0.0 b.0.1 d.0.0 d.0.1 t1.0.rest_fits d.1 in
    let t3 = entries_take a.0.0 d.0.0 c.0 t2.2 c.1 in
    let body : d.0.0 ≡ entries_bytes c.0.0 = t3.0.parts ∙ ap (λ (z : List ℕ). entries_bytes c.0.0 ++ z) (nil_from_length c.0.1 (eqb-true _ _ ends.0)) ∙ append-nil (entries_bytes c.0.0) in
    let zeros = zeros_are d.0.1 ends.1 in
    let body_len : length d.0.0 ≡ length (entries_bytes c.0.0) = ap length body in
    let total : length bytes ≡ 4 + (length d.0.0 + length d.0.1) = omega (arith, ap length t0.0.parts, ap length t1.0.parts, ap length t2.0.parts, length-append (to_be_bytes w16 a.0.0) a.0.1, length-append (to_be_bytes w16 b.0.0) b.0.1, length-append d.0.0 d.0.1, wide16.len a.0.0, wide16.len b.0.0) in
    let left : length d.0.1 ≡ size - (4 + length (entries_bytes c.0.0)) = omega (arith, total, len, body_len) in
    let used_is : b.0.0 ≡ 4 + length (entries_bytes c.0.0) = omega (arith, t2.1, body_len) in
    let whole : bytes ≡ page_bytes size c.0.0 =
    t0.0.parts ∙ ap (λ (z : List ℕ). to_be_bytes w16 a.0.0 ++ z) (t1.0.parts ∙ ap (λ (z : List ℕ). to_be_bytes w16 b.0.0 ++ z) (t2.0.parts ∙ ap (λ (z : List ℕ). z ++ d.0.1) body ∙ ap (λ (z : List ℕ). entries_bytes c.0.0 ++ z) (zeros ∙ ap (λ n. replicate n 0) left)))
    ∙ ap (λ (n : ℕ). to_be_bytes w16 n ++ (to_be_bytes w16 b.0.0 ++ (entries_bytes c.0.0 ++ replicate (size - (4 + length (entries_bytes c.0.0))) 0))) (sym t3.1)
    ∙ ap (λ (n : ℕ). to_be_bytes w16 (length c.0.0) ++ (to_be_bytes w16 n ++ (entries_bytes c.0.0 ++ replicate (size - (4 + length (entries_bytes c.0.0))) 0))) used_is in
    subst (λ (v : List FlashEntry). IsPage size v bytes) same (record { each = t3.2; distinct_keys = front.1; number = omega (arith, used_is, t1.1); room = omega (arith, total, len, body_len) }, whole)

pub page_len : (size : ℕ) (es : List FlashEntry) → 4 + length (entries_bytes es) ≤ size → length (page_bytes size es) ≡ size
page_len size es h =
    let body : List ℕ = entries_bytes es in
    let zeros : List ℕ = replicate (size - (4 + length body)) 0 in
    omega (arith, length-append (to_be_bytes w16 (length es)) (to_be_bytes w16 (4 + length body) ++ (body ++ zeros)), length-append (to_be_bytes w16 (4 + length body)) (body ++ zeros), length-append body zeros, length-replicate {A = ℕ} (size - (4 + length body)) 0, wide16.len (length es), wide16.len (4 + length body), h)

pub page_again : (size : ℕ) (es : List FlashEntry) → Fits size es → page_at size (page_bytes size es) ≡ Some es
unfolding whole_at content_at page_at
page_again size es h =
    let body : List ℕ = entries_bytes es in
    let zeros : List ℕ = replicate (size - (4 + length body)) 0 in
    let len : length (page_bytes size es) ≡ size = page_len size es h.room in
    let count : length es < 2 ^ 16 = omega (arith, fewer_than_bytes es, h.number) in
    let n = number_again w16 (2 ^ 16) wide16 (length es) (to_be_bytes w16 (4 + length body) ++ (body ++ zeros)) count in
    let u = number_again w16 (2 ^ 16) wide16 (4 + length body) (body ++ zeros) h.number in
    let b = body_again body zeros in
    let r : entries_at (length es) body ≡ Some (es, []) = ap (entries_at (length es)) (sym (append-nil body)) ∙ entries_again es [] h.each in
    let same : (length (page_bytes size es) == size) ≡ true = eq-eqb _ _ len in
    rw same (rw (n, u, b, r, zeros_all (size - (4 + length body)), h.distinct_keys) refl)

-- a page is read as the entries that it holds
pub page_is_read : (size : ℕ) (es : List FlashEntry) (bytes : List ℕ) → IsPage size es bytes → page_at size bytes ≡ Some es
page_is_read size es bytes h = ap (page_at size) h.1 ∙ page_again size es h.0

-- two lists never share a page's bytes
pub holds_one_list : (size : ℕ) (xs ys : List FlashEntry) (bytes : List ℕ) → IsPage size xs bytes → IsPage size ys bytes → xs ≡ ys
holds_one_list size xs ys bytes one other = some_is xs ys (sym (page_is_read size xs bytes one) ∙ page_is_read size ys bytes other)
