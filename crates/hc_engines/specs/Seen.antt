-- How contracts see what an engine is asked and answers.
use Rattle.hc_types.specs.FlashEntry.{entry_of}
use Rattle.hc_engines.specs.declared.ops.Op.{Op as Ops}
use Rattle.hc_engines.specs.declared.ops.Op.TheVariants as ops
use Rattle.hc_engines.specs.declared.ops.SharedOrder.{SharedOrder as Orders}
use Rattle.hc_engines.specs.declared.ops.SharedOrder.TheVariants as orders
use Rattle.hc_engines.specs.declared.ops.Answer.{Answer as AnswersGiven}
use Rattle.hc_engines.specs.declared.ops.Answer.TheVariants as answers
use Rattle.hc_engines.specs.Engine.{Op, Put, Get, Delete, Flush, Reclaim, Order, Read, Write, Answer, Nothing, Over, Absent, Found}

abbrev pub op_of : {A : Type 0} → Ops A → Op
op_of (ops.Put e) = Put (entry_of e)
op_of (ops.Get key) = Get key
op_of (ops.Delete key) = Delete key
op_of ops.Flush = Flush
op_of ops.Reclaim = Reclaim

abbrev pub order_of : {A : Type 0} → Orders A → Order
order_of (orders.Read page) = Read page
order_of (orders.Write page bytes) = Write page bytes

abbrev pub answer_of : {A : Type 0} → AnswersGiven A → Answer
answer_of answers.Nothing = Nothing
answer_of answers.Over = Over
answer_of answers.Absent = Absent
answer_of (answers.Found e) = Found (entry_of e.value)
