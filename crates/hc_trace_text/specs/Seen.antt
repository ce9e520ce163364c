-- How the code's values are seen.
use Rattle.std.specs.Prelude.{ℕ, List, replicate}
use Rattle.hc_trace_text.specs.Steps as steps
use Rattle.hc_trace_text.specs.Grammar as spec
use Rattle.hc_trace_text.specs.declared.value.Value.{Value}
use Rattle.hc_trace_text.specs.declared.value.Value.TheVariants.{Plain, Repeated}
use Rattle.hc_trace_text.specs.declared.grammar.NewItem.{NewItem}
use Rattle.hc_trace_text.specs.declared.grammar.Step.{Step}
use Rattle.hc_trace_text.specs.declared.grammar.Step.TheVariants.{Set, Add, Get, Del, Now}
use Rattle.hc_trace_text.specs.declared.grammar.Work.{Work}
use Rattle.hc_trace_text.specs.declared.grammar.Work.TheVariants.{Writer, Filler, Reclaim, Io, Finish, Reply}
use Rattle.hc_trace_text.specs.declared.grammar.Order.{Order}
use Rattle.hc_trace_text.specs.declared.grammar.Order.TheVariants.{Pool, NoFlash, Flash, Do, Serve, Restart}
use Rattle.hc_trace_text.specs.declared.grammar.Line.{Line}
use Rattle.hc_trace_text.specs.declared.grammar.Line.TheVariants.{Skipped, Says, Fault}

-- the bytes of a value
abbrev pub bytes_of : Value → List ℕ
bytes_of (Plain bytes) = bytes.now
bytes_of (Repeated count c) = replicate count c

abbrev pub item_seen : NewItem → steps.NewItem
item_seen item = record { pool = item.pool; key = item.key.now; value = bytes_of item.value; ttl = item.ttl }

abbrev pub step_seen : Step → steps.Step
step_seen (Set item) = steps.Set (item_seen item)
step_seen (Add item) = steps.Add (item_seen item)
step_seen (Get key) = steps.Get key.now
step_seen (Del key) = steps.Del key.now
step_seen (Now moment) = steps.Now moment

abbrev pub work_seen : Work → steps.Work
work_seen Writer = steps.Writer
work_seen Filler = steps.Filler
work_seen Reclaim = steps.Reclaim
work_seen (Io job fails) = steps.Io job fails
work_seen (Finish job) = steps.Finish job
work_seen (Reply call) = steps.Reply call

abbrev pub order_seen : Order → spec.Order
order_seen (Pool bytes items) = spec.Pool bytes items
order_seen NoFlash = spec.NoFlash
order_seen (Flash flash) = spec.Flash flash
order_seen (Do step) = spec.Do (step_seen step)
order_seen (Serve work) = spec.Serve (work_seen work)
order_seen Restart = spec.Restart

abbrev pub line_seen : Line → spec.Line
line_seen Skipped = spec.Skipped
line_seen (Says order) = spec.Says (order_seen order)
line_seen Fault = spec.Fault
