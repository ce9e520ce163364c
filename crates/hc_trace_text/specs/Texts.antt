-- The texts of what a trace is answered.
use Rattle.std.specs.Prelude.{◌≡◌, ℕ, ◌≤◌, ◌==◌, nat_le, Bool, true, false, not, ◌&&◌, List, [], ◌∷◌, ◌++◌, length, Some, codes, if◌then◌else◌}
use Rattle.std.specs.Char.{is_ascii_digit}
use Rattle.std.specs.List.{list_all}
use Rattle.std.specs.Fmt.{decimal}
use Rattle.hc_types.specs.Refusals.{refusal_text}
use Rattle.hc_types.specs.Loss.{Scope, Cause}
use Rattle.hc_types.specs.Losses.{scope_text, cause_text}
use Rattle.hc_history.specs.Note.{Note, Lose}
use Rattle.hc_history.specs.Counts.{counts_text}
use Rattle.hc_history.specs.declared.stats.Stats.{Stats}
use Rattle.hc_trace_text.specs.Numbers.{is_visible, value_of}
use Rattle.hc_trace_text.specs.Steps.{Answer, Stored, Refused, Hit, Miss, Found, Absent, Moment, Exists, Waiting, Idle, Finished, Reads, Writes, Made, Failed, Reclaimed, Restarted, Busy}

-- four bytes or more, all equal, and no digits
abbrev pub is_repeated : List ℕ → Bool
is_repeated [] = false
is_repeated (c ∷ value) = nat_le 3 (length value) && not (is_ascii_digit c) && list_all (λ b. b == c) value

abbrev pub first_of : List ℕ → List ℕ
first_of [] = []
first_of (c ∷ value) = c ∷ []

-- a value: `*`, how many bytes and which, or `=` and its bytes
abbrev pub value_text : List ℕ → List ℕ
value_text value = if is_repeated value then 42 ∷ decimal (length value) ++ first_of value else 61 ∷ value

-- it is read as what it was
abbrev pub ReadsBack : List ℕ → Type 0
ReadsBack value = list_all is_visible value ≡ true → length value ≤ 2097152 → value_of (value_text value) ≡ Some value

abbrev pub answer_text : Answer → List ℕ
answer_text Stored = codes "stored"
answer_text (Refused refusal) = refusal_text refusal
answer_text (Hit value) = codes "hit " ++ value_text value
answer_text Miss = codes "miss"
answer_text Found = codes "found"
answer_text Absent = codes "absent"
answer_text (Moment now) = codes "now " ++ decimal now
answer_text Exists = codes "exists"
answer_text (Waiting call) = codes "waiting " ++ decimal call
answer_text Idle = codes "idle"
answer_text Finished = codes "finished"
answer_text (Reads job page) = (codes "job " ++ decimal job) ++ (codes " read " ++ decimal page)
answer_text (Writes job page) = (codes "job " ++ decimal job) ++ (codes " write " ++ decimal page)
answer_text Made = codes "ok"
answer_text Failed = codes "failed"
answer_text (Reclaimed region) = codes "reclaimed " ++ decimal region
answer_text Restarted = codes "restarted"
answer_text Busy = codes "busy"

-- a line of its own
abbrev pub line_text : List ℕ → List ℕ
line_text text = text ++ 10 ∷ []

-- what is forgotten, and why
abbrev pub lose_text : Scope → Cause → List ℕ
lose_text scope cause = codes "lose " ++ scope_text scope ++ codes " " ++ cause_text cause

-- the line of a note, where it forgets something
abbrev pub loss_text : Note → List ℕ
loss_text (Lose scope cause) = line_text (lose_text scope cause)
loss_text note = []

-- the lines of what these notes forget, in their order
abbrev pub losses_text : List Note → List ℕ
losses_text [] = []
losses_text (note ∷ notes) = loss_text note ++ losses_text notes

-- the seven counts
abbrev pub stats_text : Stats → List ℕ
stats_text counts = codes "stats " ++ counts_text counts

abbrev pub verdict_text : List ℕ
verdict_text = codes "verdict legal, honest\n"

-- the fault at this line
abbrev pub fault_text : ℕ → List ℕ
fault_text line = codes "fault line " ++ decimal line ++ codes "\n"
