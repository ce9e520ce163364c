use Rattle.std.proofs.Common.{ap, subst, ◌∙◌}
use Rattle.hc_history.specs.Lawful.{Legal}
use Rattle.hc_core.specs.Logged.{Logged}
use Rattle.hc_tracked.proofs.Tracking.{marked-notes, honest-notes, legal-notes}
use Rattle.hc_tracked.proofs.tracked.TrackedCore+Kept+A+A+G.into_notes.Goals as goal

-- the log is that of a core whose digests followed it
pub returns-clause-honest : goal.returns-clause-honest
returns-clause-honest g c =
    let marked = marked-notes g.G.Digest.of c.into_notes.result.notes.items c.args.self.core.log (c.into_notes.ensures.log ∙ ap (λ (k : Logged). k.log) c.into_parts-core.ensures.core) c.into_parts-core.ensures.marked in
    honest-notes g.G.Digest.of c.into_notes.result.notes.items marked

-- and a core's log is legal where it is honest
pub returns-clause-legal : goal.returns-clause-legal
returns-clause-legal g c =
    let marked = marked-notes g.G.Digest.of c.into_notes.result.notes.items c.args.self.core.log (c.into_notes.ensures.log ∙ ap (λ (k : Logged). k.log) c.into_parts-core.ensures.core) c.into_parts-core.ensures.marked in
    λ none. subst (λ (k : Logged). Legal k.cache.config c.into_notes.result.notes.items) c.into_parts-core.ensures.core
    (legal-notes g.G.Digest.of c.into_notes.result.notes.items _ _ marked c.into_notes.ensures.guarded none)
