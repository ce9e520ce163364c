-- What a result that is handed in leads to: whether a get found nothing, so that another engine may be asked.
use Rattle.std.specs.Prelude.{◌≡◌, ℕ, Bool, true, false, List, [], ◌∷◌, Option, Some, None, option_map, if◌then◌else◌}
use Rattle.hc_types.specs.Loss.{Bucket, Fault}
use Rattle.hc_engines.specs.Engine.{Op, Get, Answer, Nothing, Over, Absent, Found, Loss, Next, Busy, Io, Done}
use Rattle.hc_engines.specs.small.BigHash.{BigHash, Job, Plan, ToEnd, ToGiveUp, Moved, job_at, carried}
use Rattle.hc_bighash.specs.declared.results.Handed.{Handed}
use Rattle.hc_bighash.specs.declared.results.Handed.TheVariants as handeds
use Rattle.hc_engines.specs.Next.{next_seen}

-- a get is over with this plan and found nothing: whether its bucket is given up then
abbrev pub ends_absent : Op → Plan → Option Bool
ends_absent (Get key) (ToEnd Absent) = Some false
ends_absent (Get key) ToGiveUp = Some true
ends_absent op plan = None

abbrev pub absent_plan : Bool → Plan
absent_plan gives_up = if gives_up then ToGiveUp else ToEnd Absent

-- what is under way with this number
abbrev pub op_in : ℕ → List Job → Option Op
op_in number jobs = option_map (λ job. job.op) (job_at number jobs)

-- a get is under way with this number
abbrev pub IsGet : BigHash → ℕ → Type 0
IsGet s number = (key : List ℕ) × (op_in number s.jobs ≡ Some (Get key))

-- what is lost where the bucket of the job with this number is given up
abbrev pub losses_if : Bool → Option Job → List Loss
losses_if false job = []
losses_if true None = []
losses_if true (Some job) = record { scope = Bucket job.bucket; cause = Fault } ∷ []

abbrev pub lost_with : BigHash → ℕ → Bool → List Loss
lost_with s number gives_up = losses_if gives_up (job_at number s.jobs)

-- it is over, and nothing was found
abbrev pub is_nothing : Answer → Bool
is_nothing Absent = true
is_nothing Nothing = false
is_nothing Over = false
is_nothing (Found e) = false

abbrev pub is_absent : Next → Bool
is_absent (Done outcome) = is_nothing outcome.answer
is_absent Busy = false
is_absent (Io order outcome) = false

-- no get is over with that and found nothing
abbrev pub IsNoMiss : Option Op → Next → Type 0
IsNoMiss op next = (key : List ℕ) → op ≡ Some (Get key) → is_absent next ≡ false

-- the step is carried out, or it is that of a get that found nothing, and isn't carried out yet
abbrev pub IsHanded : {A : Type 0} → BigHash → BigHash → ℕ → Option Moved → Handed A → Type 0
IsHanded old new number moved (handeds.Next next) = (moved ≡ Some (record { state = new; next = next_seen next })) × IsNoMiss (op_in number old.jobs) (next_seen next)
IsHanded old new number moved (handeds.Absent gives_up) = (new ≡ old) × IsGet old number × (moved ≡ carried old number (absent_plan gives_up))
