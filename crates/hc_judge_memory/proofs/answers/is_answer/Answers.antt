use Rattle.hc_judge_memory.proofs.answers.is_answer.Goals as goal

pub returns-in-Add : goal.returns-in-Add
returns-in-Add g c = rw c.in-Add.is (c.answers_add.ensures c.args.call c.in-Add.field-1 c.in-Add.field-2)

pub returns-in-Find : goal.returns-in-Find
returns-in-Find g c = rw c.in-Find.is (c.answers_find.ensures c.args.call)
