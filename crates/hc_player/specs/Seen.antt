-- How the code's answers are seen.
use Rattle.hc_trace_text.specs.Steps as steps
use Rattle.hc_player.specs.declared.answers.Answer.{Answer}
use Rattle.hc_player.specs.declared.answers.Answer.TheVariants.{Stored, Refused, Hit, Miss, Found, Absent, Moment, Exists, Waiting, Idle, Finished, Reads, Writes, Made, Failed, Reclaimed, Restarted, Busy}

abbrev pub answer_seen : Answer → steps.Answer
answer_seen Stored = steps.Stored
answer_seen (Refused refusal) = steps.Refused refusal
answer_seen (Hit value) = steps.Hit value
answer_seen Miss = steps.Miss
answer_seen Found = steps.Found
answer_seen Absent = steps.Absent
answer_seen (Moment now) = steps.Moment now
answer_seen Exists = steps.Exists
answer_seen (Waiting call) = steps.Waiting call
answer_seen Idle = steps.Idle
answer_seen Finished = steps.Finished
answer_seen (Reads job page) = steps.Reads job page
answer_seen (Writes job page) = steps.Writes job page
answer_seen Made = steps.Made
answer_seen Failed = steps.Failed
answer_seen (Reclaimed region) = steps.Reclaimed region
answer_seen Restarted = steps.Restarted
answer_seen Busy = steps.Busy
