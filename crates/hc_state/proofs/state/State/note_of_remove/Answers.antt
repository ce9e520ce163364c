use Rattle.hc_state.proofs.state.State.note_of_remove.Goals as goal

pub returns-clause-note : goal.returns-clause-note
returns-clause-note g c = rw (← c.self.view_is) c.begin_remove.ensures.note

pub returns-clause-silent : goal.returns-clause-silent
returns-clause-silent g c = rw (← c.self.view_is) c.begin_remove.ensures.silent
