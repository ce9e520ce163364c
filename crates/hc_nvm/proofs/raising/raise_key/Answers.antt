use Rattle.std.proofs.Common.{ℕ, List, map, sym, ap, ◌∙◌}
use Rattle.hc_history.specs.Note.{Raised}
use Rattle.hc_history.specs.Told.{told_more}
use Rattle.hc_history.proofs.Telling.{told-nothing}
use Rattle.hc_machine.specs.Nvm.{is_stone_of}
use Rattle.hc_nvm.proofs.Raises.{raised-by-keys}
use Rattle.hc_nvm.proofs.raising.raise_key.Goals as goal

pub returns-then-remove-clause-told : goal.returns-then-remove-clause-told
returns-then-remove-clause-told g c =
    c.raised.ensures.told ∙ ap (told_more (g.N.Listener.told c.args.notes.now)) (sym (raised-by-keys (is_stone_of c.args.key) c.args.stones.now.stones ∙ ap (λ (keys : List (List ℕ)). map (λ key. Raised key) keys) c.if-remove.ensures.one))

pub returns-else-remove-clause-told : goal.returns-else-remove-clause-told
returns-else-remove-clause-told g c =
    let log = g.N.Listener.told c.args.notes.now in
    sym (told-nothing log) ∙ ap (told_more log) (sym (raised-by-keys (is_stone_of c.args.key) c.args.stones.now.stones ∙ ap (λ (keys : List (List ℕ)). map (λ key. Raised key) keys) c.if-remove.ensures.one))
