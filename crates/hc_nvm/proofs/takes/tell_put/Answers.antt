use Rattle.std.proofs.Common.{◌∙◌, [], ◌∷◌, ap}
use Rattle.hc_history.specs.Note.{Unqueued, Writing}
use Rattle.hc_history.specs.Told.{Heard, told_more}
use Rattle.hc_history.proofs.Telling.{told-twice}
use Rattle.hc_nvm.proofs.takes.tell_put.Goals as goal

pub returns-in-Some-clause-told : goal.returns-in-Some-clause-told
returns-in-Some-clause-told g c =
    rw c.in-Some.is (c.tell_writing.ensures.told ∙ ap (λ (l : Heard). told_more l (Writing c.in-Some.key ∷ [])) c.tell_unqueued.ensures.told ∙ told-twice (g.N.Listener.told c.args.notes.now) (Unqueued c.args.unqueued ∷ []) (Writing c.in-Some.key ∷ []))
