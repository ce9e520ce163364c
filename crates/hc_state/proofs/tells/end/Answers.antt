use Rattle.std.proofs.Common.{[], ◌∷◌, ◌∙◌}
use Rattle.hc_history.specs.Note.{Did, End}
use Rattle.hc_history.specs.Seen.{reply_of}
use Rattle.hc_history.specs.Told.{told_more}
use Rattle.hc_history.proofs.Telling.{told-twice}
use Rattle.hc_state.proofs.tells.end.Goals as goal

pub returns-clause-told : goal.returns-clause-told
returns-clause-told g c =
    let log = g.N.Listener.told c.args.notes.now in
    let did = Did c.args.call (reply_of c.args.reply) in
    c.ended.ensures.told
    ∙ (λ i. told_more (c.answered.ensures.told i) (End c.args.call ∷ []))
    ∙ told-twice log (did ∷ []) (End c.args.call ∷ [])
