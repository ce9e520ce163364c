use Rattle.hc_history.specs.Seen.{op_of}
use Rattle.hc_verdict.proofs.lawful.is_allowed.Goals as goal

pub returns-in-Begin : goal.returns-in-Begin
returns-in-Begin g c = rw (← c.note.view_is, c.in-Begin.is) (c.may_begin.ensures c.args.config.now c.in-Begin.client (op_of c.in-Begin.op) c.args.rest.now)

pub returns-in-Did : goal.returns-in-Did
returns-in-Did g c = rw (← c.note.view_is, c.in-Did.is) (c.may_answer.ensures c.args.rest.now)

pub returns-in-End : goal.returns-in-End
returns-in-End g c = rw (← c.note.view_is, c.in-End.is) (c.may_end.ensures c.args.config.now c.args.rest.now)

pub returns-in-Charged : goal.returns-in-Charged
returns-in-Charged g c = rw (← c.note.view_is, c.in-Charged.is) (c.may_charge.ensures c.args.config.now c.in-Charged.key c.in-Charged.pool c.in-Charged.bytes c.args.rest.now)

pub returns-in-Linked : goal.returns-in-Linked
returns-in-Linked g c = rw (← c.note.view_is, c.in-Linked.is) (c.may_link.ensures c.args.config.now c.args.rest.now)

pub returns-in-Now : goal.returns-in-Now
returns-in-Now g c = rw (← c.note.view_is, c.in-Now.is) (c.may_move_on.ensures c.args.config.now c.args.rest.now)
