use Rattle.std.proofs.Common.{refl, ap, sym, ◌∙◌}
use Rattle.hc_trace_meaning.specs.Actions.{restart_answer}
use Rattle.hc_core.specs.Logged.{Logged}
use Rattle.hc_player.proofs.Acting.{acts-restart, playing}
use Rattle.hc_player.proofs.player.Player.restart.Goals as goal

pub returns-then-not-is_at_rest : goal.returns-then-not-is_at_rest
returns-then-not-is_at_rest g c = rw (← c.self.view_is) (acts-restart refl (ap restart_answer (sym c.is_at_rest.ensures ∙ c.if-not-is_at_rest.true)))

pub returns : goal.returns
returns g c =
    let e = c.from_parts-core.ensures.core in
    let cache = ap (λ (l : Logged). l.cache) e ∙ c.close-parts.ensures.parts in
    let log = ap (λ (l : Logged). l.log) e ∙ c.close-parts.ensures.log in
    rw (← c.self.view_is)
    (acts-restart (λ i. record { cache = cache i; log = log i; flash = c.self.inside.device; results = c.self.inside.results.results }) (ap restart_answer (sym c.is_at_rest.ensures ∙ c.if-not-is_at_rest.false)))
