use Rattle.std.proofs.Common.{◌≡◌, true, ap, sym, subst, ◌∙◌}
use Rattle.hc_invariant.specs.Structure.{Structured}
use Rattle.hc_state.specs.Resting.{is_at_rest}
use Rattle.hc_core.specs.Logged.{Logged}
use Rattle.hc_core.proofs.Guarding.{guarded-as}
use Rattle.hc_core.proofs.cache.Core.close.Goals as goal

pub into_parts-requires : goal.into_parts-requires
into_parts-requires g c = subst (λ (l : Logged). is_at_rest l.cache ≡ true) (sym c.into_state.ensures.seen) c.requires

pub returns-clause-parts : goal.returns-clause-parts
returns-clause-parts g c = c.into_parts.ensures.parts ∙ ap (λ (l : Logged). l.cache) c.into_state.ensures.seen

pub returns-clause-structured : goal.returns-clause-structured
returns-clause-structured g c = subst Structured (sym c.into_parts.ensures.parts) c.into_state.ensures.holds.structured

pub returns-clause-log : goal.returns-clause-log
returns-clause-log g c = c.into_parts.ensures.log ∙ ap (λ (l : Logged). l.log) c.into_state.ensures.seen

pub returns-clause-guarded : goal.returns-clause-guarded
returns-clause-guarded g c =
    guarded-as c.into_state.result.log (g.N.Listener.told c.into_parts.result.1) c.into_state.result.cache c.into_parts.result.0 c.into_parts.ensures.log c.into_parts.ensures.parts c.into_state.ensures.holds.guarded
