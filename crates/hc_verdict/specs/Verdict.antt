-- What is said of a log: the first thing that is wrong with it.
use Rattle.std.specs.Prelude.{◌≡◌, ℕ, Bool, true, false, List, [], ◌∷◌, ◌++◌, codes, Option, Some, None, nat_lt, if◌then◌else◌}
use Rattle.std.specs.Fmt.{decimal}
use Rattle.hc_types.specs.Config.{Config}
use Rattle.hc_types.specs.Limits.{first_wrong}
use Rattle.hc_types.specs.Refusals.{refusal_text}
use Rattle.hc_types.specs.declared.refusal.Refusal.{Refusal}
use Rattle.hc_history.specs.Note.{Note}
use Rattle.hc_history.specs.Lawful.{past}
use Rattle.hc_judge_memory.specs.Lies.{IsFirstLie}
use Rattle.hc_legal.specs.Judge.{first_unlawful, is_at_end}
use Rattle.hc_verdict.specs.declared.verdict.Verdict.{Verdict}
use Rattle.hc_verdict.specs.declared.verdict.Verdict.TheVariants.{Legal, Unlawful, Unfinished, Lie}

-- where nothing is unlawful, and nothing is a lie
abbrev pub ending : Bool → Verdict
ending true = Legal
ending false = Unfinished

-- of two places, the first
abbrev pub earlier : ℕ → ℕ → Verdict
earlier place lie = if nat_lt lie place then Lie lie else Unlawful place

-- by the first note that isn't lawful, the first lie, and whether the log may end where it does
abbrev pub verdict_of : Option ℕ → Option ℕ → Bool → Verdict
verdict_of None None ends = ending ends
verdict_of None (Some lie) ends = Lie lie
verdict_of (Some place) None ends = Unlawful place
verdict_of (Some place) (Some lie) ends = earlier place lie

-- this is what is to be said of the log
abbrev pub IsVerdict : Config → List Note → Verdict → Type 0
IsVerdict config log verdict = (lie : Option ℕ) × (IsFirstLie [] log lie × (verdict ≡ verdict_of (first_unlawful config [] log) lie (is_at_end config (past [] log))))

-- its text
abbrev pub verdict_text : Verdict → List ℕ
verdict_text Legal = codes "legal, honest"
verdict_text (Unlawful place) = codes "unlawful " ++ decimal place
verdict_text Unfinished = codes "unfinished"
verdict_text (Lie place) = codes "lie " ++ decimal place

-- the status that goes with it: 0 where nothing is wrong
abbrev pub status_of : Verdict → ℕ
status_of Legal = 0
status_of (Unlawful place) = 3
status_of Unfinished = 3
status_of (Lie place) = 3

-- a text with one line more
abbrev pub with_line : List ℕ → List ℕ → List ℕ
with_line text line = text ++ line ++ 10 ∷ []

-- A log of a configuration that is within its limits is judged: a line says the verdict.
abbrev pub IsJudged : Config → List Note → ℕ → List ℕ → List ℕ → Type 0
IsJudged config log status old new = (first_wrong config ≡ None) × ((verdict : Verdict) × (IsVerdict config log verdict × (status ≡ status_of verdict) × (new ≡ with_line old (verdict_text verdict))))

-- Another configuration is refused for its first number that is wrong: a line says so.
abbrev pub IsRefused : Config → ℕ → List ℕ → List ℕ → Type 0
IsRefused config status old new = (refusal : Refusal) × ((first_wrong config ≡ Some refusal) × (status ≡ 1) × (new ≡ with_line old (refusal_text refusal)))
