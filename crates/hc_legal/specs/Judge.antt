-- A judge of logs: each rule of a lawful log as a test.
use Rattle.std.specs.Prelude.{ℕ, zero, suc, ◌+◌, ◌==◌, nat_lt, nat_le, Bool, true, false, not, ◌&&◌, ◌||◌, List, [], ◌∷◌, length, Option, Some, None, is_some, if◌then◌else◌}
use Rattle.std.specs.List.{list_any, list_all}
use Rattle.std.specs.Str.{bytes_eq}
use Rattle.hc_types.specs.Loss as loss
use Rattle.hc_types.specs.Loss.{Scope, Cause, Evicted, BucketFull, Reclaimed, NoCleanRegion, Collision, Expired, Fault}
use Rattle.hc_types.specs.Config.{Config}
use Rattle.hc_types.specs.Places.{kept_of, is_small_by, is_page_of, last_page}
use Rattle.hc_bucket.specs.Putting.{last_of, is_pushed_out}
use Rattle.hc_types.specs.declared.config.FlashConfig.{FlashConfig}
use Rattle.hc_types.specs.declared.loss.Why.{Why}
use Rattle.hc_types.specs.declared.loss.Why.TheVariants.{NoFlash, Tombstone, NotAdmitted, TooLarge, QueueFull}
use Rattle.hc_types.specs.Tally.{count}
use Rattle.hc_history.specs.Note.{Op, Insert, Add, Find, Remove, Reply, Stored, Exists, Hit, Miss, FoundInMemory, NotInMemory, Note, Begin, Did, End, Lose, Charged, Linked, Freed, Queued, Unqueued, Writing, Written, Buried, Raised, Read, Wrote, Opened, Flushed, Cleared, Now}
use Rattle.hc_history.specs.Books.{Charge, Call, Answer, charges, waiting, writing, buried, is_among, begun, open_calls, open_call, owed, entry_at, now_at, expired_at, value_at, has_number, is_linked}
use Rattle.hc_history.specs.Pages.{bytes_at, entries_in, bucket_entries}
use Rattle.hc_history.specs.Regions.{is_one_of, in_use, clean_count, flushed, behind, put_from, put_under_way, before_put, is_put_of, Filing, filed, is_filed, is_passed, is_placed}
use Rattle.hc_history.specs.Lawful.{is_full, next_charged, is_charge_of, changes, next_answer, freed_since, forgotten_by, failed_page, is_in_bucket, is_due, wrote_page, is_backed, is_stray, past}

abbrev pub some_and : {A : Type 0} → Option A → (A → Bool) → Bool
some_and None test = false
some_and (Some x) test = test x

abbrev pub all_below : (ℕ → Bool) → ℕ → Bool
all_below test zero = true
all_below test (suc n) = test n && all_below test n

abbrev pub is_value : Option (List ℕ) → List ℕ → Bool
is_value None value = false
is_value (Some found) value = bytes_eq found value

abbrev pub is_number : Option ℕ → ℕ → Bool
is_number None number = false
is_number (Some found) number = found == number

abbrev pub is_why : Option Why → Why → Bool
is_why (Some NoFlash) NoFlash = true
is_why (Some Tombstone) Tombstone = true
is_why (Some NotAdmitted) NotAdmitted = true
is_why (Some TooLarge) TooLarge = true
is_why (Some QueueFull) QueueFull = true
is_why found why = false

abbrev pub is_changed : List Note → List ℕ → List Note → Bool
is_changed older key rest = some_and (next_answer rest) (λ next. nat_lt 0 (count (λ (call : Call). (call.number == next.0) && changes call.op next.1 key) (open_calls older)))

abbrev pub is_answer : Option FlashConfig → List Note → ℕ → Op → Reply → Bool
is_answer flash older call (Insert key value expiry) Stored = true
is_answer flash older call (Add key value expiry) Stored = not (is_some (value_at flash older key))
is_answer flash older call (Add key value expiry) Exists = is_some (value_at flash older key)
is_answer flash older call (Find key) (Hit value) = is_value (value_at flash older key) value
is_answer flash older call (Find key) Miss = not (is_some (value_at flash older key))
is_answer flash older call (Remove key) FoundInMemory = is_some (entry_at flash older key) && freed_since older call key
is_answer flash older call (Remove key) NotInMemory = not (freed_since older call key)
is_answer flash older call op reply = false

abbrev pub is_charge : Option (ℕ × ℕ) → ℕ → ℕ → Bool
is_charge None pool want = false
is_charge (Some next) pool want = (next.0 == pool) && (next.1 == want)

abbrev pub is_evicted : Config → List Note → List ℕ → ℕ → ℕ → List Note → Bool
is_evicted config (Freed number ∷ before) key pool want rest = nat_lt 0 (count (is_charge_of number key pool) (charges before)) && (is_full config pool (charges before) want && is_charge (next_charged rest) pool want)
is_evicted config older key pool want rest = false

abbrev pub is_freed : List Note → List ℕ → Bool
is_freed (Freed number ∷ before) key = nat_lt 0 (count (λ (charge : Charge). has_number number charge && is_linked key charge) (charges before))
is_freed older key = false

abbrev pub pushes_out : FlashConfig → List Note → List ℕ → Bool
pushes_out flash (Lose scope cause ∷ older) key = pushes_out flash older key
pushes_out flash (Wrote page bytes true ∷ before) key = nat_lt page flash.buckets && is_pushed_out flash.page (bucket_entries flash before page) (last_of (entries_in flash.page bytes)) key
pushes_out flash older key = false

abbrev pub is_reclaimed : FlashConfig → List Note → ℕ → ℕ → Bool
is_reclaimed flash older kept region =
    nat_lt 0 (count (λ (filing : Filing). (filing.kept == kept) && (filing.region == region)) (filed flash older))
    && (is_one_of region (flushed older)
    && (nat_lt (clean_count flash older) flash.clean && (count (λ (filing : Filing). is_one_of filing.region (behind region (flushed older))) (filed flash older) == 0)))

abbrev pub is_unplaced : FlashConfig → List Note → List ℕ → Bool
is_unplaced flash (Unqueued k ∷ before) key = some_and (put_from flash before k) (λ put. bytes_eq put.key key && (is_passed flash before put.bytes && (clean_count flash before == 0)))
is_unplaced flash older key = false

abbrev pub collides : FlashConfig → List Note → List ℕ → List Note → Bool
collides flash older by rest =
    (is_put_of by (put_under_way flash older) && is_filed (kept_of flash.bits by) (filed flash (before_put older)))
    || (is_changed older by rest && is_filed (kept_of flash.bits by) (filed flash older))

abbrev pub is_fault : FlashConfig → List Note → Scope → Bool
is_fault flash older (loss.Bucket bucket) = nat_lt bucket flash.buckets && is_number (failed_page older) bucket
is_fault flash older (loss.Hash kept None) = some_and (failed_page older) (λ page. nat_lt 0 (count (λ (filing : Filing). (filing.kept == kept) && is_page_of flash filing.region page) (filed flash older)))
is_fault flash older scope = false

abbrev pub is_true_on_flash : FlashConfig → List Note → Scope → Cause → List Note → Bool
is_true_on_flash flash older (loss.Key key) BucketFull rest = pushes_out flash older key
is_true_on_flash flash older (loss.Hash kept None) (Reclaimed region) rest = is_reclaimed flash older kept region
is_true_on_flash flash older (loss.Key key) NoCleanRegion rest = is_unplaced flash older key
is_true_on_flash flash older (loss.Hash kept (Some but)) (Collision by) rest = (kept == kept_of flash.bits by) && (bytes_eq but by && collides flash older by rest)
is_true_on_flash flash older scope Fault rest = is_fault flash older scope
is_true_on_flash flash older scope cause rest = false

abbrev pub is_true_cause : Config → List Note → Scope → Cause → List Note → Bool
is_true_cause config older (loss.Key key) Expired rest = expired_at config.flash older key && is_freed older key
is_true_cause config older (loss.Key key) (Evicted pool want why) rest = is_why (forgotten_by config.flash older key) why && (not (expired_at config.flash older key) && is_evicted config older key pool want rest)
is_true_cause config older scope cause rest = some_and config.flash (λ flash. is_true_on_flash flash older scope cause rest)

abbrev pub may_free : Config → List Note → List ℕ → ℕ → List Note → Bool
may_free config older key pool rest = is_changed older key rest || some_and (next_charged rest) (λ next. (next.0 == pool) && is_full config pool (charges older) next.1)

abbrev pub may_wait : Config → FlashConfig → List Note → List ℕ → List Note → Bool
may_wait config flash older key rest =
    some_and (next_charged rest) (λ next. is_evicted config older key next.0 next.1 rest)
    && (not (expired_at (Some flash) older key)
    && (not (is_some (forgotten_by (Some flash) older key)) && (not (is_among key (waiting older)) && not (is_in_bucket flash older key))))

abbrev pub is_small_put : FlashConfig → List Note → List ℕ → Bool
is_small_put flash (Unqueued k ∷ before) key = bytes_eq k key && (some_and (entry_at (Some flash) before key) (λ entry. is_small_by flash key (length entry.value)) && not (is_among key (writing before)))
is_small_put flash older key = false

abbrev pub is_lowest_clean : FlashConfig → List Note → ℕ → Bool
is_lowest_clean flash older region = nat_lt region flash.regions && (not (is_one_of region (in_use older)) && all_below (λ lower. is_one_of lower (in_use older)) region)

abbrev pub may_open : FlashConfig → List Note → ℕ → Bool
may_open flash (Unqueued key ∷ before) region = some_and (put_from flash before key) (λ put. is_passed flash before put.bytes) && is_lowest_clean flash before region
may_open flash older region = false

abbrev pub is_allowed_on_flash : Config → FlashConfig → List Note → Note → List Note → Bool
is_allowed_on_flash config flash older (Queued key) rest = may_wait config flash older key rest
is_allowed_on_flash config flash older (Unqueued key) rest = is_among key (waiting older) && is_placed flash older key rest
is_allowed_on_flash config flash older (Writing key) rest = is_small_put flash older key
is_allowed_on_flash config flash older (Written key) rest = is_among key (writing older)
is_allowed_on_flash config flash older (Buried key) rest = is_changed older key rest && (is_due flash older key && not (is_among key (buried older)))
is_allowed_on_flash config flash older (Raised key) rest = is_among key (buried older) && not (is_in_bucket flash older key)
is_allowed_on_flash config flash older (Read page result) rest = is_some (bytes_at older page)
is_allowed_on_flash config flash older (Wrote page bytes is_written) rest = true
is_allowed_on_flash config flash older (Opened region) rest = may_open flash older region
is_allowed_on_flash config flash older (Flushed region) rest = wrote_page older (last_page flash region)
is_allowed_on_flash config flash older (Cleared region) rest = is_one_of region (in_use older) && (count (λ (filing : Filing). filing.region == region) (filed flash older) == 0)
is_allowed_on_flash config flash older note rest = false

abbrev pub is_allowed : Config → List Note → Note → List Note → Bool
is_allowed config older (Begin call client op) rest = call == begun older + 1
is_allowed config older (Did call reply) rest = some_and (open_call call (open_calls older)) (λ c. is_answer config.flash older call c.op reply)
is_allowed config older (End call) rest = nat_lt 0 (count (λ (answer : Answer). answer.number == call) (owed older))
is_allowed config older (Lose scope cause) rest = is_true_cause config older scope cause rest
is_allowed config older (Charged number key pool bytes) rest = count (has_number number) (charges older) == 0
is_allowed config older (Linked number) rest = nat_lt 0 (count (λ (charge : Charge). has_number number charge && not charge.linked) (charges older))
is_allowed config older (Freed number) rest =
    nat_lt 0 (count (λ (charge : Charge). has_number number charge && not charge.linked) (charges older))
    || list_any (λ (charge : Charge). (has_number number charge && charge.linked) && may_free config older charge.key charge.pool rest) (charges older)
is_allowed config older (Now moment) rest = nat_lt (now_at older) moment
is_allowed config older note rest = some_and config.flash (λ flash. is_allowed_on_flash config flash older note rest)

-- each note is lawful at its place
abbrev pub is_lawful : Config → List Note → List Note → Bool
is_lawful config older [] = true
is_lawful config older (note ∷ rest) = is_allowed config older note rest && is_lawful config (note ∷ older) rest

-- the log ends between two steps
abbrev pub is_at_end : Config → List Note → Bool
is_at_end config older =
    (count (λ (charge : Charge). charge.linked && not (is_backed (entry_at config.flash older charge.key) charge)) (charges older) == 0)
    && (list_all (λ (charge : Charge). nat_le (count (is_linked charge.key) (charges older)) 1) (charges older)
    && (count (is_stray config.flash older) (waiting older) == 0))

abbrev pub is_legal : Config → List Note → Bool
is_legal config log = is_lawful config [] log && is_at_end config (past [] log)

-- the place of the first note that isn't lawful, counted from 0
abbrev pub first_unlawful : Config → List Note → List Note → Option ℕ
first_unlawful config older [] = None
first_unlawful config older (note ∷ rest) = if is_allowed config older note rest then first_unlawful config (note ∷ older) rest else Some (length older)
