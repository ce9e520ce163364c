-- What BigHash holds, when its state fits the pages, and its laws.
use Rattle.std.specs.Prelude.{◌≡◌, ◌≢◌, option_map, ℕ, ◌<◌, true, false, ◌==◌, List, [], ◌∷◌, length, Option, Some, None, is_some, if◌then◌else◌, ⊤}
use Rattle.hc_types.specs.declared.config.FlashConfig.{FlashConfig}
use Rattle.hc_types.specs.Places.{bucket_at, is_small_by}
use Rattle.hc_types.specs.FlashEntry.{FlashEntry}
use Rattle.hc_bucket.specs.Page.{Fits, page_bytes}
use Rattle.hc_bucket.specs.Putting.{is_pushed_out}
use Rattle.hc_types.specs.Loss.{Key, BucketFull}
use Rattle.hc_bucket.specs.Reading.{page_at}
use Rattle.hc_engines.specs.Engine.{Loss, Pages, Holds, Op, Put, Delete, Order, Read, Write, Changes, IsKnown, IsHonest, UnderWay, then_under_way, pages_after, IoResult}
use Rattle.hc_engines.specs.small.Bloom.{word_of, could_have}
use Rattle.hc_engines.specs.small.Entries.{under, without, page_put, put_losses}
use Rattle.hc_engines.specs.small.Sound.{Limits, CanStart}
use Rattle.hc_engines.specs.small.BigHash.{BigHash, Job, Phase, Reading, Writing, Moved, word_at, is_busy, job_at, key_of, is_ours, could_hold, start, resume}

abbrev pub read_in : Option (List FlashEntry) → List FlashEntry
read_in None = []
read_in (Some es) = es

-- the entries of these bytes
abbrev pub entries_in : ℕ → Option (List ℕ) → List FlashEntry
entries_in size None = []
entries_in size (Some bytes) = read_in (page_at size bytes)

-- the entries of a bucket: those of its page, and none where it is fresh
abbrev pub entries_at : ℕ → Option ℕ → Option (List ℕ) → List FlashEntry
entries_at size None page = []
entries_at size (Some word) page = entries_in size page

abbrev pub bucket_entries : BigHash → Pages → ℕ → List FlashEntry
bucket_entries s pages bucket = entries_at s.flash.page (word_at s bucket) (pages bucket)

-- what BigHash holds
abbrev pub held : BigHash → Pages → Holds
held s pages key = under key (bucket_entries s pages (bucket_at s.flash key))

-- the order that a job waits for
abbrev pub order_of : ℕ → ℕ → Phase → Order
order_of size bucket Reading = Read bucket
order_of size bucket (Writing es losses) = Write bucket (page_bytes size es)

-- each of these entries is small, and of this bucket
abbrev pub AllOwn : FlashConfig → ℕ → List FlashEntry → Type 0
AllOwn flash bucket [] = ⊤
AllOwn flash bucket (e ∷ es) = (is_small_by flash e.key (length e.value) ≡ true) × (bucket_at flash e.key ≡ bucket) × AllOwn flash bucket es

-- the page of a bucket that was written is known, its entries are the bucket's own, and the word is that of their keys
abbrev pub PageFits : FlashConfig → ℕ → Option ℕ → Option (List ℕ) → Type 0
PageFits flash bucket None page = ⊤
PageFits flash bucket (Some word) page = (es : List FlashEntry) × (page ≡ Some (page_bytes flash.page es)) × Fits flash.page es × (word ≡ word_of es) × AllOwn flash bucket es

-- what is written is what the operation makes of the bucket's entries
abbrev pub WorkFits : ℕ → Op → Phase → Option ℕ → List FlashEntry → Type 0
WorkFits size op Reading word es = is_some word ≡ true
WorkFits size (Put e) (Writing page losses) word es = (page ≡ page_put size e es) × (losses ≡ put_losses size e es)
WorkFits size (Delete key) (Writing page losses) word es = (page ≡ without key es) × (losses ≡ [])
WorkFits size op (Writing page losses) word es = ⊥

-- a job fits its bucket, which has this word and this page
abbrev pub JobFits : FlashConfig → Option ℕ → Option (List ℕ) → Job → Type 0
JobFits flash word page job = CanStart job.op × (is_ours flash job.op ≡ true) × (job.bucket ≡ bucket_at flash (key_of job.op)) × WorkFits flash.page job.op job.phase word (entries_at flash.page word page)

-- each job fits, no bucket has two of them, and no two have one number
abbrev pub JobsFit : FlashConfig → (ℕ → Option ℕ) → Pages → List Job → Type 0
JobsFit flash words pages [] = ⊤
JobsFit flash words pages (job ∷ jobs) = JobFits flash (words job.bucket) (pages job.bucket) job × (is_busy job.bucket jobs ≡ false) × (job_at job.number jobs ≡ None) × JobsFit flash words pages jobs

-- the state of BigHash fits the pages
pub record StateFits (s : BigHash) (pages : Pages) : Type 0 where
  pub limits : Limits s.flash
  pub buckets : length s.words ≡ s.flash.buckets
  pub pages_fit : (bucket : ℕ) → PageFits s.flash bucket (word_at s bucket) (pages bucket)
  pub jobs_fit : JobsFit s.flash (word_at s) pages s.jobs

-- what a call did: the state fits the pages, what is held changed by the outcome, and only a known page is to be read
pub record Keeps (op : Op) (s : BigHash) (before : Pages) (m : Moved) (after : Pages) : Type 0 where
  pub fits : StateFits m.state after
  pub changes : Changes s.flash op m.next (held s before) (held m.state after)
  pub known : IsKnown after m.next

-- the law of start
abbrev pub StartKeeps : Type 0
StartKeeps = (s : BigHash) (pages : Pages) (number : ℕ) (op : Op) → StateFits s pages → job_at number s.jobs ≡ None → CanStart op → Keeps op s pages (start s number op) pages

-- the law of resume, over pages that are read as they were written
abbrev pub ResumeKeeps : Type 0
ResumeKeeps = (s : BigHash) (pages : Pages) (number : ℕ) (result : IoResult) (job : Job) (m : Moved) → StateFits s pages
    → job_at number s.jobs ≡ Some job → resume s number result ≡ Some m → IsHonest (order_of s.flash.page job.bucket job.phase) result pages
    → Keeps job.op s pages m (pages_after (order_of s.flash.page job.bucket job.phase) result pages)

-- a word tells of each key of its entries
abbrev pub WordTells : Type 0
WordTells = (es : List FlashEntry) (key : List ℕ) → is_some (under key es) ≡ true → could_have (word_of es) key ≡ true

-- BigHash says that it could have each key that it holds
abbrev pub HeldIsTold : Type 0
HeldIsTold = (s : BigHash) (pages : Pages) (key : List ℕ) → StateFits s pages → held s pages key ≢ None → could_hold s key ≡ true

-- the operation that is under way, and the order that it waits for
abbrev pub job_under_way : FlashConfig → Job → UnderWay
job_under_way flash job = record { op = job.op; order = order_of flash.page job.bucket job.phase }

abbrev pub under_way : BigHash → ℕ → Option UnderWay
under_way s number = option_map (job_under_way s.flash) (job_at number s.jobs)

-- ---- what the layers above need besides

-- BigHash looks at the pages of its buckets alone
abbrev pub KeptByOthers : Type 0
KeptByOthers = (s : BigHash) (pages after : Pages) → ((page : ℕ) → page < s.flash.buckets → after page ≡ pages page) → StateFits s pages → StateFits s after × ((key : List ℕ) → held s after key ≡ held s pages key)

-- a started operation is under way with its order until it is over; the others go on as they were
abbrev pub StartGoes : Type 0
StartGoes = (s : BigHash) (number : ℕ) (op : Op) → under_way s number ≡ None → (other : ℕ) → under_way (start s number op).state other ≡ (if other == number then then_under_way op (start s number op).next else under_way s other)

-- what was handed in moves its operation on, or ends it; the others go on as they were
abbrev pub ResumeGoes : Type 0
ResumeGoes = (s : BigHash) (pages : Pages) (number : ℕ) (result : IoResult) (job : Job) (m : Moved) → StateFits s pages → job_at number s.jobs ≡ Some job → resume s number result ≡ Some m
    → (other : ℕ) → under_way m.state other ≡ (if other == number then then_under_way job.op m.next else under_way s other)

-- each loss of a put is of a key that it pushes out, as the rules of a log say it
abbrev pub AllPushedOut : ℕ → FlashEntry → List FlashEntry → List Loss → Type 0
AllPushedOut size x es [] = ⊤
AllPushedOut size x es (loss ∷ losses) = ((key : List ℕ) × (loss ≡ record { scope = Key key; cause = BucketFull }) × (is_pushed_out size es (Some x) key ≡ true)) × AllPushedOut size x es losses

abbrev pub FullIsTrue : Type 0
FullIsTrue = (size : ℕ) (x : FlashEntry) (es : List FlashEntry) → AllPushedOut size x es (put_losses size x es)
