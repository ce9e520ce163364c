use Rattle.std.proofs.Common.{◌≡◌, true, false, sym, ap, ◌∙◌, subst}
use Rattle.std.specs.Prelude.{IfOk, is_some}
use Rattle.hc_machine.specs.Cache.{Moved}
use Rattle.hc_machine.specs.Calls.{is_known, in_memory}
use Rattle.hc_machine.specs.Waiting.{live}
use Rattle.hc_state.specs.store.Insert.{inserted_answer}
use Rattle.hc_state.specs.Whole.{IsStep}
use Rattle.hc_state.proofs.store.Inserts.{Lives, insert-adds, inserted-begun}
use Rattle.hc_state.proofs.state.State.insert.Goals as goal

pub returns-then-is_known-clause-ok : goal.returns-then-is_known-clause-ok
returns-then-is_known-clause-ok g c =
    let old = c.args.self.now in
    let h = c.args.sealed in
    let none : Lives old.cache h ≡ false = sym (c.has_unexpired.ensures ∙ ap (λ k. is_some (live old.cache.now (in_memory old.cache k))) c.key.ensures) ∙ c.if-has_unexpired.false in
    let known : is_known old.cache h ≡ true = sym c.is_known.ensures ∙ c.if-is_known.true in
    subst (λ (moved : Moved). IfOk c.add.result (λ inserted. IsStep moved (inserted_answer inserted) old c.add.new.self)) (insert-adds c.args.client h old.cache none known) c.add.ensures.ok

pub returns-then-is_known-clause-begun : goal.returns-then-is_known-clause-begun
returns-then-is_known-clause-begun g c =
    let old = c.args.self.now in
    let h = c.args.sealed in
    let new = c.add.new.self in
    let none : Lives old.cache h ≡ false = sym (c.has_unexpired.ensures ∙ ap (λ k. is_some (live old.cache.now (in_memory old.cache k))) c.key.ensures) ∙ c.if-has_unexpired.false in
    let known : is_known old.cache h ≡ true = sym c.is_known.ensures ∙ c.if-is_known.true in
    inserted-begun c.add.result c.args.client h old new c.requires.begun
    (subst (λ (moved : Moved). IfOk c.add.result (λ inserted. IsStep moved (inserted_answer inserted) old new)) (insert-adds c.args.client h old.cache none known) c.add.ensures.ok)
    c.add.ensures.err
