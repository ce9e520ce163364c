-- The judge tells exactly the lawful logs.
use Rattle.std.proofs.Common.{◌≡◌, ◌⊎◌, inl, inr, ℕ, zero, suc, ◌+◌, ◌<◌, ◌≤◌, ◌==◌, Bool, if◌then◌else◌, true, false, not, ◌&&◌, ◌||◌, List, [], ◌∷◌, length, Option, Some, None, refl, ap, arith}
use Rattle.std.specs.Prelude.{IsSome, IsSomeAnd, is_some, nat_lt, nat_le}
use Rattle.std.specs.Bool.{Decides}
use Rattle.std.specs.List.{list_any, list_all}
use Rattle.std.specs.Str.{bytes_eq}
use Rattle.std.proofs.lemmas.Bool.{not-true, not_from_false, and_parts, and_from, or_cases, or_left, or_right, leb-true, le-leb, false≢true}
use Rattle.std.proofs.lemmas.Bool.Decides.{Decides-eqb, Decides-ltb, Decides-and, Decides-or, Decides-below_and}
use Rattle.std.proofs.lemmas.Slice.Eq.{bytes_eq-Decides}
use Rattle.hc_types.specs.Loss as loss
use Rattle.hc_types.specs.Loss.{Scope, Cause, Evicted, BucketFull, Reclaimed, NoCleanRegion, Collision, Expired, Fault}
use Rattle.hc_types.specs.Config.{Config}
use Rattle.hc_types.specs.Places.{kept_of, is_small_by, is_page_of, last_page}
use Rattle.hc_bucket.specs.Putting.{last_of, is_pushed_out}
use Rattle.hc_types.specs.Tally.{count}
use Rattle.hc_types.specs.declared.config.FlashConfig.{FlashConfig}
use Rattle.hc_types.specs.declared.loss.Why.{Why}
use Rattle.hc_types.specs.declared.loss.Why.TheVariants.{NoFlash, Tombstone, NotAdmitted, TooLarge, QueueFull}
use Rattle.hc_history.specs.Note.{Op, Insert, Add, Find, Remove, Reply, Stored, Exists, Hit, Miss, FoundInMemory, NotInMemory, Note, Begin, Did, End, Lose, Charged, Linked, Freed, Queued, Unqueued, Writing, Written, Buried, Raised, Read, Wrote, Opened, Flushed, Cleared, Now}
use Rattle.hc_history.specs.Books.{Charge, Call, Answer, charges, waiting, writing, buried, is_among, begun, open_calls, open_call, owed, entry_at, now_at, expired_at, value_at, has_number, is_linked}
use Rattle.hc_history.specs.Pages.{bytes_at, entries_in, bucket_entries}
use Rattle.hc_history.specs.Regions.{is_one_of, in_use, clean_count, IsLowestClean, flushed, behind, put_from, put_under_way, before_put, is_put_of, Filing, filed, is_filed, is_passed, is_placed}
use Rattle.hc_history.specs.Lawful.{is_full, next_charged, is_charge_of, changes, next_answer, IsChanged, freed_since, IsAnswer, IsEvicted, IsFreed, forgotten_by, IsPushedOut, IsReclaimed, IsUnplaced, IsCollision, failed_page, IsFault, IsTrueOnFlash, IsTrueCause, MayFree, is_in_bucket, MayWait, IsSmallPut, is_due, MayOpen, wrote_page, AllowedOnFlash, Allowed, Lawful, past, is_backed, is_stray, AtEnd, Legal}
use Rattle.hc_legal.specs.Judge.{some_and, all_below, is_value, is_number, is_why, is_changed, is_answer, is_charge, is_evicted, is_freed, pushes_out, is_reclaimed, is_unplaced, collides, is_fault, is_true_on_flash, is_true_cause, may_free, may_wait, is_small_put, is_lowest_clean, may_open, is_allowed_on_flash, is_allowed, is_lawful, is_at_end, is_legal, first_unlawful}

-- ---- tests and what they tell

holds : (t : Bool) → Decides t (t ≡ true)
holds t = (λ h. h, λ h. h)

fails : (t : Bool) → Decides (not t) (t ≡ false)
fails t = (λ h. not-true t h, λ h. not_from_false t h)

never : Decides false ⊥
never = (λ h. false≢true h, λ h. absurd h)

always : Decides true (Unit {0})
always = (λ h. tt, λ h. refl)

and3 : (P Q R : Type 0) (x y z : Bool) → Decides x P → Decides y Q → Decides z R → Decides (x && (y && z)) (P × Q × R)
and3 P Q R x y z p q r =
    let both = Decides-and {P = P} {Q = Q × R} x (y && z) p (Decides-and {P = Q} {Q = R} y z q r) in
    (λ h. let w = both.0 h in (w.0, w.1.0, w.1.1), λ h. both.1 (h.0, (h.1, h.2)))

some-and : {A : Type 0} (o : Option A) (test : A → Bool) (P : A → Type 0) → ((x : A) → Decides (test x) (P x)) → Decides (some_and o test) (IsSomeAnd o P)
some-and None test P each = never
some-and (Some x) test P each = each x

none : {A : Type 0} (o : Option A) → Decides (not (is_some o)) (o ≡ None)
none None = (λ h. refl, λ h. refl)
none (Some x) = (λ h. absurd (false≢true h), λ h. absurd cc)

some : {A : Type 0} (o : Option A) → Decides (is_some o) (IsSome o)
some o = holds (is_some o)

value : (o : Option (List ℕ)) (v : List ℕ) → Decides (is_value o v) (o ≡ Some v)
value None v = (λ h. absurd (false≢true h), λ h. absurd cc)
value (Some w) v = (λ h. ap (λ (x : List ℕ). Some x) ((bytes_eq-Decides w v).0 h), λ h. let same : w ≡ v = cc in (bytes_eq-Decides w v).1 same)

number : (o : Option ℕ) (n : ℕ) → Decides (is_number o n) (o ≡ Some n)
number None n = (λ h. absurd (false≢true h), λ h. absurd cc)
number (Some m) n = (λ h. ap (λ (x : ℕ). Some x) ((Decides-eqb m n).0 h), λ h. let same : m ≡ n = cc in (Decides-eqb m n).1 same)

charge : (o : Option (ℕ × ℕ)) (pool want : ℕ) → Decides (is_charge o pool want) (o ≡ Some (pool, want))
charge None pool want = (λ h. absurd (false≢true h), λ h. absurd cc)
charge (Some next) pool want = (
  λ h.
      let both = and_parts (next.0 == pool) (next.1 == want) h in
      let p = (Decides-eqb next.0 pool).0 both.0 in
      let w = (Decides-eqb next.1 want).0 both.1 in
      λ i. Some (p i, w i),
  λ h.
      let same : ◌≡◌ {A = ℕ × ℕ} next (pool, want) = cc in
      and_from (next.0 == pool) (next.1 == want) ((Decides-eqb next.0 pool).1 (ap (λ (x : ℕ × ℕ). x.0) same)) ((Decides-eqb next.1 want).1 (ap (λ (x : ℕ × ℕ). x.1) same)),
)

reason : (o : Option Why) (why : Why) → Decides (is_why o why) (o ≡ Some why)
reason (Some NoFlash) NoFlash = (λ h. refl, λ h. refl)
reason (Some Tombstone) Tombstone = (λ h. refl, λ h. refl)
reason (Some NotAdmitted) NotAdmitted = (λ h. refl, λ h. refl)
reason (Some TooLarge) TooLarge = (λ h. refl, λ h. refl)
reason (Some QueueFull) QueueFull = (λ h. refl, λ h. refl)
reason o why = (λ h. absurd (false≢true h), λ h. absurd cc)

-- ---- the rules

changed : (older : List Note) (key : List ℕ) (rest : List Note) → Decides (is_changed older key rest) (IsChanged older key rest)
changed older key rest = some-and (next_answer rest) (λ next. nat_lt 0 (count (λ (call : Call). (call.number == next.0) && changes call.op next.1 key) (open_calls older))) (λ next. 0 < count (λ (call : Call). (call.number == next.0) && changes call.op next.1 key) (open_calls older)) (λ next. Decides-ltb 0 (count (λ (call : Call). (call.number == next.0) && changes call.op next.1 key) (open_calls older)))

answer : (flash : Option FlashConfig) (older : List Note) (call : ℕ) (op : Op) (reply : Reply) → Decides (is_answer flash older call op reply) (IsAnswer flash older call op reply)
answer flash older call (Insert key v expiry) Stored = always
answer flash older call (Add key v expiry) Stored = none (value_at flash older key)
answer flash older call (Add key v expiry) Exists = some (value_at flash older key)
answer flash older call (Find key) (Hit v) = value (value_at flash older key) v
answer flash older call (Find key) Miss = none (value_at flash older key)
answer flash older call (Remove key) FoundInMemory = Decides-and (is_some (entry_at flash older key)) (freed_since older call key) (some (entry_at flash older key)) (holds (freed_since older call key))
answer flash older call (Remove key) NotInMemory = fails (freed_since older call key)
answer flash older call op reply = never

evicted : (config : Config) (older : List Note) (key : List ℕ) (pool want : ℕ) (rest : List Note) → Decides (is_evicted config older key pool want rest) (IsEvicted config older key pool want rest)
evicted config (Freed n ∷ before) key pool want rest = and3 _ _ _ (nat_lt 0 (count (is_charge_of n key pool) (charges before))) (is_full config pool (charges before) want) (is_charge (next_charged rest) pool want) (Decides-ltb 0 (count (is_charge_of n key pool) (charges before))) (holds (is_full config pool (charges before) want)) (charge (next_charged rest) pool want)
evicted config older key pool want rest = never

freed : (older : List Note) (key : List ℕ) → Decides (is_freed older key) (IsFreed older key)
freed (Freed n ∷ before) key = Decides-ltb 0 (count (λ (charge : Charge). has_number n charge && is_linked key charge) (charges before))
freed older key = never

pushed : (flash : FlashConfig) (older : List Note) (key : List ℕ) → Decides (pushes_out flash older key) (IsPushedOut flash older key)
pushed flash (Lose scope cause ∷ older) key = pushed flash older key
pushed flash (Wrote page bytes true ∷ before) key = Decides-and (nat_lt page flash.buckets) (is_pushed_out flash.page (bucket_entries flash before page) (last_of (entries_in flash.page bytes)) key) (Decides-ltb page flash.buckets) (holds (is_pushed_out flash.page (bucket_entries flash before page) (last_of (entries_in flash.page bytes)) key))
pushed flash older key = never

reclaimed : (flash : FlashConfig) (older : List Note) (kept region : ℕ) → Decides (is_reclaimed flash older kept region) (IsReclaimed flash older kept region)
reclaimed flash older kept region =
    let there : ℕ = count (λ (filing : Filing). (filing.kept == kept) && (filing.region == region)) (filed flash older) in
    let under : ℕ = count (λ (filing : Filing). is_one_of filing.region (behind region (flushed older))) (filed flash older) in
    let all = and3 (0 < there) (is_one_of region (flushed older) ≡ true) ((clean_count flash older < flash.clean) × (under ≡ 0)) (nat_lt 0 there) (is_one_of region (flushed older)) (nat_lt (clean_count flash older) flash.clean && (under == 0)) (Decides-ltb 0 there) (holds (is_one_of region (flushed older))) (Decides-and (nat_lt (clean_count flash older) flash.clean) (under == 0) (Decides-ltb (clean_count flash older) flash.clean) (Decides-eqb under 0)) in
    (λ h. let w = all.0 h in record { filed_there = w.0; is_flushed = w.1; few_clean = w.2.0; oldest = w.2.1 }, λ h. all.1 (h.filed_there, h.is_flushed, (h.few_clean, h.oldest)))

unplaced : (flash : FlashConfig) (older : List Note) (key : List ℕ) → Decides (is_unplaced flash older key) (IsUnplaced flash older key)
unplaced flash (Unqueued k ∷ before) key =
    some-and (put_from flash before k) (λ put. bytes_eq put.key key && (is_passed flash before put.bytes && (clean_count flash before == 0))) (λ put. (bytes_eq put.key key ≡ true) × (is_passed flash before put.bytes ≡ true) × (clean_count flash before ≡ 0))
    (λ put. and3 _ _ _ (bytes_eq put.key key) (is_passed flash before put.bytes) (clean_count flash before == 0) (holds (bytes_eq put.key key)) (holds (is_passed flash before put.bytes)) (Decides-eqb (clean_count flash before) 0))
unplaced flash older key = never

collision : (flash : FlashConfig) (older : List Note) (by : List ℕ) (rest : List Note) → Decides (collides flash older by rest) (IsCollision flash older by rest)
collision flash older by rest =
    Decides-or (is_put_of by (put_under_way flash older) && is_filed (kept_of flash.bits by) (filed flash (before_put older))) (is_changed older by rest && is_filed (kept_of flash.bits by) (filed flash older))
    (Decides-and (is_put_of by (put_under_way flash older)) (is_filed (kept_of flash.bits by) (filed flash (before_put older))) (holds (is_put_of by (put_under_way flash older))) (holds (is_filed (kept_of flash.bits by) (filed flash (before_put older)))))
    (Decides-and (is_changed older by rest) (is_filed (kept_of flash.bits by) (filed flash older)) (changed older by rest) (holds (is_filed (kept_of flash.bits by) (filed flash older))))

fault : (flash : FlashConfig) (older : List Note) (scope : Scope) → Decides (is_fault flash older scope) (IsFault flash older scope)
fault flash older (loss.Bucket bucket) = Decides-and (nat_lt bucket flash.buckets) (is_number (failed_page older) bucket) (Decides-ltb bucket flash.buckets) (number (failed_page older) bucket)
fault flash older (loss.Hash kept None) =
    some-and (failed_page older) (λ page. nat_lt 0 (count (λ (filing : Filing). (filing.kept == kept) && is_page_of flash filing.region page) (filed flash older))) (λ page. 0 < count (λ (filing : Filing). (filing.kept == kept) && is_page_of flash filing.region page) (filed flash older))
    (λ page. Decides-ltb 0 (count (λ (filing : Filing). (filing.kept == kept) && is_page_of flash filing.region page) (filed flash older)))
fault flash older scope = never

on_flash : (flash : FlashConfig) (older : List Note) (scope : Scope) (cause : Cause) (rest : List Note) → Decides (is_true_on_flash flash older scope cause rest) (IsTrueOnFlash flash older scope cause rest)
on_flash flash older (loss.Key key) BucketFull rest = pushed flash older key
on_flash flash older (loss.Hash kept None) (Reclaimed region) rest = reclaimed flash older kept region
on_flash flash older (loss.Key key) NoCleanRegion rest = unplaced flash older key
on_flash flash older (loss.Hash kept (Some but)) (Collision by) rest = and3 _ _ _ (kept == kept_of flash.bits by) (bytes_eq but by) (collides flash older by rest) (Decides-eqb kept (kept_of flash.bits by)) (holds (bytes_eq but by)) (collision flash older by rest)
on_flash flash older scope Fault rest = fault flash older scope
on_flash flash older scope cause rest = never

in_flash : (flash : Option FlashConfig) (older : List Note) (scope : Scope) (cause : Cause) (rest : List Note) → Decides (some_and flash (λ f. is_true_on_flash f older scope cause rest)) (IsSomeAnd flash (λ f. IsTrueOnFlash f older scope cause rest))
in_flash flash older scope cause rest = some-and flash (λ f. is_true_on_flash f older scope cause rest) (λ f. IsTrueOnFlash f older scope cause rest) (λ f. on_flash f older scope cause rest)

true_cause : (config : Config) (older : List Note) (scope : Scope) (cause : Cause) (rest : List Note) → Decides (is_true_cause config older scope cause rest) (IsTrueCause config older scope cause rest)
true_cause config older (loss.Key key) Expired rest = Decides-and (expired_at config.flash older key) (is_freed older key) (holds (expired_at config.flash older key)) (freed older key)
true_cause config older (loss.Key key) (Evicted pool want why) rest = and3 _ _ _ (is_why (forgotten_by config.flash older key) why) (not (expired_at config.flash older key)) (is_evicted config older key pool want rest) (reason (forgotten_by config.flash older key) why) (fails (expired_at config.flash older key)) (evicted config older key pool want rest)
true_cause config older scope cause rest = in_flash config.flash older scope cause rest

may : (config : Config) (older : List Note) (key : List ℕ) (pool : ℕ) (rest : List Note) → Decides (may_free config older key pool rest) (MayFree config older key pool rest)
may config older key pool rest =
    let evicts = some-and (next_charged rest) (λ next. (next.0 == pool) && is_full config pool (charges older) next.1) (λ next. (next.0 ≡ pool) × (is_full config pool (charges older) next.1 ≡ true)) (λ next. Decides-and (next.0 == pool) (is_full config pool (charges older) next.1) (Decides-eqb next.0 pool) (holds (is_full config pool (charges older) next.1))) in
    Decides-or (is_changed older key rest) (some_and (next_charged rest) (λ next. (next.0 == pool) && is_full config pool (charges older) next.1)) (changed older key rest) evicts

-- ---- a linked charge that may be freed

one-more : (t : Bool) (n : ℕ) → t ≡ true → 0 < (if t then 1 else 0) + n
one-more true n h = omega arith
one-more false n h = absurd cc

-- what one charge passes, the list does
any-at : (xs : List Charge) (q : Charge → Bool) → list_any q xs ≡ true → (c : Charge) × (q c ≡ true) × ((p : Charge → Bool) → p c ≡ true → 0 < count p xs)
any-at [] q h = absurd (false≢true h)
any-at (x ∷ xs) q h =
    elim (or_cases (q x) (list_any q xs) h) [
      | inl here ↦ (x, here, λ p at. one-more (p x) (count p xs) at)
      | inr there ↦ let rest = any-at xs q there in (rest.0, rest.1, λ p at. let more : 0 < count p xs = rest.2 p at in omega arith)
    ]

count-split : (x : Charge) (xs : List Charge) (p : Charge → Bool) (t : Bool) → p x ≡ t → 0 < (if p x then 1 else 0) + count p xs → (0 < count p xs → (c : Charge) × (p c ≡ true) × ((q : Charge → Bool) → q c ≡ true → list_any q xs ≡ true)) → (c : Charge) × (p c ≡ true) × ((q : Charge → Bool) → q c ≡ true → (q x || list_any q xs) ≡ true)
count-split x xs p true e h next = (x, e, λ q at. or_left (q x) (list_any q xs) at)
count-split x xs p false e h next =
    let counted = rw e at h in
    let left : 0 < count p xs = omega (arith, counted) in
    let rest = next left in
    (rest.0, rest.1, λ q at. or_right (q x) (list_any q xs) (rest.2 q at))

count-at : (xs : List Charge) (p : Charge → Bool) → 0 < count p xs → (c : Charge) × (p c ≡ true) × ((q : Charge → Bool) → q c ≡ true → list_any q xs ≡ true)
count-at [] p h = absurd (omega (arith, h))
count-at (x ∷ xs) p h = count-split x xs p (p x) refl h (λ more. count-at xs p more)

freeing : (config : Config) (older : List Note) (n : ℕ) (rest : List Note) → Decides (list_any (λ (charge : Charge). (has_number n charge && charge.linked) && may_free config older charge.key charge.pool rest) (charges older)) ((key : List ℕ) × ((pool : ℕ) × ((0 < count (is_charge_of n key pool) (charges older)) × MayFree config older key pool rest)))
freeing config older n rest = (
  λ h.
      let at = any-at (charges older) (λ (charge : Charge). (has_number n charge && charge.linked) && may_free config older charge.key charge.pool rest) h in
      let parts = and_parts (has_number n at.0 && at.0.linked) (may_free config older at.0.key at.0.pool rest) at.1 in
      let own = and_parts (has_number n at.0) at.0.linked parts.0 in
      let same : is_charge_of n at.0.key at.0.pool at.0 ≡ true = and_from (has_number n at.0 && is_linked at.0.key at.0) (at.0.pool == at.0.pool) (and_from (has_number n at.0) (is_linked at.0.key at.0) own.0 (and_from at.0.linked (bytes_eq at.0.key at.0.key) own.1 ((bytes_eq-Decides at.0.key at.0.key).1 refl))) ((Decides-eqb at.0.pool at.0.pool).1 refl) in
      (at.0.key, (at.0.pool, (at.2 (is_charge_of n at.0.key at.0.pool) same, (may config older at.0.key at.0.pool rest).0 parts.1))),
  λ h.
      let at = count-at (charges older) (is_charge_of n h.0 h.1.0) h.1.1.0 in
      let parts = and_parts (has_number n at.0 && is_linked h.0 at.0) (at.0.pool == h.1.0) at.1 in
      let own = and_parts (has_number n at.0) (is_linked h.0 at.0) parts.0 in
      let linked = and_parts at.0.linked (bytes_eq at.0.key h.0) own.1 in
      let key : at.0.key ≡ h.0 = (bytes_eq-Decides at.0.key h.0).0 linked.1 in
      let pool : at.0.pool ≡ h.1.0 = (Decides-eqb at.0.pool h.1.0).0 parts.1 in
      let free : may_free config older at.0.key at.0.pool rest ≡ true = rw key (rw pool ((may config older h.0 h.1.0 rest).1 h.1.1.1)) in
      at.2 (λ (charge : Charge). (has_number n charge && charge.linked) && may_free config older charge.key charge.pool rest) (and_from (has_number n at.0 && at.0.linked) (may_free config older at.0.key at.0.pool rest) (and_from (has_number n at.0) at.0.linked own.0 linked.0) free),
)

-- ---- notes of flash

waits : (config : Config) (flash : FlashConfig) (older : List Note) (key : List ℕ) (rest : List Note) → Decides (may_wait config flash older key rest) (MayWait config flash older key rest)
waits config flash older key rest =
    let out = some-and (next_charged rest) (λ next. is_evicted config older key next.0 next.1 rest) (λ next. IsEvicted config older key next.0 next.1 rest) (λ next. evicted config older key next.0 next.1 rest) in
    let three = and3 _ _ _ (not (is_some (forgotten_by (Some flash) older key))) (not (is_among key (waiting older))) (not (is_in_bucket flash older key)) (none (forgotten_by (Some flash) older key)) (fails (is_among key (waiting older))) (fails (is_in_bucket flash older key)) in
    let all = and3 _ _ _ (some_and (next_charged rest) (λ next. is_evicted config older key next.0 next.1 rest)) (not (expired_at (Some flash) older key)) (not (is_some (forgotten_by (Some flash) older key)) && (not (is_among key (waiting older)) && not (is_in_bucket flash older key))) out (fails (expired_at (Some flash) older key)) three in
    (λ h. let w = all.0 h in record { evicted = w.0; unexpired = w.1; admitted = w.2.0; first = w.2.1; elsewhere = w.2.2 }, λ h. all.1 (h.evicted, h.unexpired, (h.admitted, h.first, h.elsewhere)))

small_put : (flash : FlashConfig) (older : List Note) (key : List ℕ) → Decides (is_small_put flash older key) (IsSmallPut flash older key)
small_put flash (Unqueued k ∷ before) key =
    and3 _ _ _ (bytes_eq k key) (some_and (entry_at (Some flash) before key) (λ entry. is_small_by flash key (length entry.value))) (not (is_among key (writing before))) (holds (bytes_eq k key))
    (some-and (entry_at (Some flash) before key) (λ entry. is_small_by flash key (length entry.value)) (λ entry. is_small_by flash key (length entry.value) ≡ true) (λ entry. holds (is_small_by flash key (length entry.value))))
    (fails (is_among key (writing before)))
small_put flash older key = never

lowest_clean : (flash : FlashConfig) (older : List Note) (region : ℕ) → Decides (is_lowest_clean flash older region) (IsLowestClean flash older region)
lowest_clean flash older region =
    let used = λ (lower : ℕ). is_one_of lower (in_use older) in
    let below = Decides-below_and used (λ lower. used lower ≡ true) (all_below used) (λ lower. holds (used lower)) refl (λ _. refl) region in
    let all = and3 _ _ _ (nat_lt region flash.regions) (not (used region)) (all_below used region) (Decides-ltb region flash.regions) (fails (used region)) below in
    (λ h. let w = all.0 h in record { exists = w.0; clean = w.1; lowest = w.2 }, λ h. all.1 (h.exists, h.clean, h.lowest))

opens : (flash : FlashConfig) (older : List Note) (region : ℕ) → Decides (may_open flash older region) (MayOpen flash older region)
opens flash (Unqueued key ∷ before) region =
    Decides-and (some_and (put_from flash before key) (λ put. is_passed flash before put.bytes)) (is_lowest_clean flash before region)
    (some-and (put_from flash before key) (λ put. is_passed flash before put.bytes) (λ put. is_passed flash before put.bytes ≡ true) (λ put. holds (is_passed flash before put.bytes)))
    (lowest_clean flash before region)
opens flash older region = never

note_on_flash : (config : Config) (flash : FlashConfig) (older : List Note) (note : Note) (rest : List Note) → Decides (is_allowed_on_flash config flash older note rest) (AllowedOnFlash config flash older note rest)
note_on_flash config flash older (Queued key) rest = waits config flash older key rest
note_on_flash config flash older (Unqueued key) rest = Decides-and (is_among key (waiting older)) (is_placed flash older key rest) (holds (is_among key (waiting older))) (holds (is_placed flash older key rest))
note_on_flash config flash older (Writing key) rest = small_put flash older key
note_on_flash config flash older (Written key) rest = holds (is_among key (writing older))
note_on_flash config flash older (Buried key) rest = and3 _ _ _ (is_changed older key rest) (is_due flash older key) (not (is_among key (buried older))) (changed older key rest) (holds (is_due flash older key)) (fails (is_among key (buried older)))
note_on_flash config flash older (Raised key) rest = Decides-and (is_among key (buried older)) (not (is_in_bucket flash older key)) (holds (is_among key (buried older))) (fails (is_in_bucket flash older key))
note_on_flash config flash older (Read page result) rest = some (bytes_at older page)
note_on_flash config flash older (Wrote page bytes is_written) rest = always
note_on_flash config flash older (Opened region) rest = opens flash older region
note_on_flash config flash older (Flushed region) rest = holds (wrote_page older (last_page flash region))
note_on_flash config flash older (Cleared region) rest = Decides-and (is_one_of region (in_use older)) (count (λ (filing : Filing). filing.region == region) (filed flash older) == 0) (holds (is_one_of region (in_use older))) (Decides-eqb (count (λ (filing : Filing). filing.region == region) (filed flash older)) 0)
note_on_flash config flash older note rest = never

beside_flash : (config : Config) (older : List Note) (note : Note) (rest : List Note) → Decides (some_and config.flash (λ flash. is_allowed_on_flash config flash older note rest)) (IsSomeAnd config.flash (λ flash. AllowedOnFlash config flash older note rest))
beside_flash config older note rest = some-and config.flash (λ flash. is_allowed_on_flash config flash older note rest) (λ flash. AllowedOnFlash config flash older note rest) (λ flash. note_on_flash config flash older note rest)

-- ---- the log

pub judges-note : (config : Config) (older : List Note) (note : Note) (rest : List Note) → Decides (is_allowed config older note rest) (Allowed config older note rest)
judges-note config older (Begin call client op) rest = Decides-eqb call (begun older + 1)
judges-note config older (Did call reply) rest = some-and (open_call call (open_calls older)) (λ c. is_answer config.flash older call c.op reply) (λ c. IsAnswer config.flash older call c.op reply) (λ c. answer config.flash older call c.op reply)
judges-note config older (End call) rest = Decides-ltb 0 (count (λ (answer : Answer). answer.number == call) (owed older))
judges-note config older (Lose scope cause) rest = true_cause config older scope cause rest
judges-note config older (Charged n key pool bytes) rest = Decides-eqb (count (has_number n) (charges older)) 0
judges-note config older (Linked n) rest = Decides-ltb 0 (count (λ (charge : Charge). has_number n charge && not charge.linked) (charges older))
judges-note config older (Freed n) rest = Decides-or (nat_lt 0 (count (λ (charge : Charge). has_number n charge && not charge.linked) (charges older))) (list_any (λ (charge : Charge). (has_number n charge && charge.linked) && may_free config older charge.key charge.pool rest) (charges older)) (Decides-ltb 0 (count (λ (charge : Charge). has_number n charge && not charge.linked) (charges older))) (freeing config older n rest)
judges-note config older (Now moment) rest = Decides-ltb (now_at older) moment
judges-note config older note rest = beside_flash config older note rest

pub judges-lawful : (config : Config) (older log : List Note) → Decides (is_lawful config older log) (Lawful config older log)
judges-lawful config older [] = always
judges-lawful config older (note ∷ rest) = Decides-and (is_allowed config older note rest) (is_lawful config (note ∷ older) rest) (judges-note config older note rest) (judges-lawful config (note ∷ older) rest)

-- ---- between two steps

one-of-key : (key : List ℕ) (live : List Charge) (x : Charge) (xs : List Charge) → nat_le (count (is_linked x.key) live) 1 ≡ true → (t : Bool) → is_linked key x ≡ t → 0 < (if is_linked key x then 1 else 0) + count (is_linked key) xs → (0 < count (is_linked key) xs → count (is_linked key) live ≤ 1) → count (is_linked key) live ≤ 1
one-of-key key live x xs here true e more next =
    let same : x.key ≡ key = (bytes_eq-Decides x.key key).0 (and_parts x.linked (bytes_eq x.key key) e).1 in
    leb-true _ _ (rw same at here)
one-of-key key live x xs here false e more next =
    let counted = rw e at more in
    let left : 0 < count (is_linked key) xs = omega (arith, counted) in
    next left

at-most-one : (key : List ℕ) (live xs : List Charge) → list_all (λ (charge : Charge). nat_le (count (is_linked charge.key) live) 1) xs ≡ true → 0 < count (is_linked key) xs → count (is_linked key) live ≤ 1
at-most-one key live [] h more = absurd (omega (arith, more))
at-most-one key live (x ∷ xs) h more =
    let parts = and_parts (nat_le (count (is_linked x.key) live) 1) (list_all (λ (charge : Charge). nat_le (count (is_linked charge.key) live) 1) xs) h in
    one-of-key key live x xs parts.0 (is_linked key x) refl more (λ later. at-most-one key live xs parts.1 later)

each-one : (live xs : List Charge) → ((key : List ℕ) → count (is_linked key) live ≤ 1) → list_all (λ (charge : Charge). nat_le (count (is_linked charge.key) live) 1) xs ≡ true
each-one live [] h = refl
each-one live (x ∷ xs) h = and_from (nat_le (count (is_linked x.key) live) 1) (list_all (λ (charge : Charge). nat_le (count (is_linked charge.key) live) 1) xs) (le-leb _ _ (h x.key)) (each-one live xs h)

none-or-more : (n : ℕ) → (n ≡ 0) ⊎ (0 < n)
none-or-more zero = inl refl
none-or-more (suc n) = inr (omega arith)

single : (live : List Charge) → Decides (list_all (λ (charge : Charge). nat_le (count (is_linked charge.key) live) 1) live) ((key : List ℕ) → count (is_linked key) live ≤ 1)
single live = (λ h key. elim (none-or-more (count (is_linked key) live)) [ inl zero_of ↦ omega (arith, zero_of) | inr more ↦ at-most-one key live live h more ], λ h. each-one live live h)

pub judges-end : (config : Config) (older : List Note) → Decides (is_at_end config older) (AtEnd config older)
judges-end config older =
    let wrong : ℕ = count (λ (charge : Charge). charge.linked && not (is_backed (entry_at config.flash older charge.key) charge)) (charges older) in
    let stray : ℕ = count (is_stray config.flash older) (waiting older) in
    let all = and3 (wrong ≡ 0) ((key : List ℕ) → count (is_linked key) (charges older) ≤ 1) (stray ≡ 0) (wrong == 0) (list_all (λ (charge : Charge). nat_le (count (is_linked charge.key) (charges older)) 1) (charges older)) (stray == 0) (Decides-eqb wrong 0) (single (charges older)) (Decides-eqb stray 0) in
    (λ h. let w = all.0 h in record { backed = w.0; single = w.1; waits = w.2 }, λ h. all.1 (h.backed, h.single, h.waits))

-- the judge tells exactly the legal logs
pub judges : (config : Config) (log : List Note) → Decides (is_legal config log) (Legal config log)
judges config log =
    let all = Decides-and (is_lawful config [] log) (is_at_end config (past [] log)) (judges-lawful config [] log) (judges-end config (past [] log)) in
    (λ h. let w = all.0 h in record { lawful = w.0; at_end = w.1 }, λ h. all.1 (h.lawful, h.at_end))

-- ---- the first note that isn't lawful

unlawful-here : (config : Config) (older : List Note) (note : Note) (rest : List Note) (place : ℕ) (t : Bool) → is_allowed config older note rest ≡ t → (if is_allowed config older note rest then first_unlawful config (note ∷ older) rest else Some (length older)) ≡ Some place → (first_unlawful config (note ∷ older) rest ≡ Some place → is_lawful config (note ∷ older) rest ≡ false) → (is_allowed config older note rest && is_lawful config (note ∷ older) rest) ≡ false
unlawful-here config older note rest place true e h later = let next = rw e at h in rw e (later next)
unlawful-here config older note rest place false e h later = rw e refl

pub unlawful-at : (config : Config) (older log : List Note) (place : ℕ) → first_unlawful config older log ≡ Some place → is_lawful config older log ≡ false
unlawful-at config older [] place h = absurd cc
unlawful-at config older (note ∷ rest) place h = unlawful-here config older note rest place (is_allowed config older note rest) refl h (λ next. unlawful-at config (note ∷ older) rest place next)
