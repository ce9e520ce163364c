use Rattle.std.proofs.Common.{◌≡◌, ◌∷◌, [], ◌++◌, false, ap, sym, ◌∙◌, Some}
use mathlib.Core.Bool.{cond}
use Rattle.std.specs.Prelude.{◌==◌}
use Rattle.std.specs.Option.{option_copied_mut}
use Rattle.std.proofs.lemmas.Result.{on_ok_weaker, on_err_weaker}
use Rattle.hc_memory.specs.Clean.{keys_at, groups_of, has_key}
use Rattle.hc_memory.proofs.Grouped.{put-is, items_in, lookup-is, some-is, added, kept_at}
use Rattle.hc_memory.proofs.groups.KeyGroups.add.Goals as goal

pub returns-in-Some-clause-ok : goal.returns-in-Some-clause-ok
returns-in-Some-clause-ok g c =
    let es = c.self.inside.groups.entries in
    let found = sym c.get_mut.ensures.value ∙ ap option_copied_mut c.in-Some.is in
    let holds = c.get_mut.follows.holds c.push_key.new.keys in
    let updates = holds.3 (some-is _ _ found) in
    let none : has_key c.args.key.now (keys_at c.args.place (groups_of es)) ≡ false = rw c.self.view_is (ap (has_key c.args.key.now) (sym c.keys.ensures) ∙ sym c.has.ensures ∙ c.if-has.false) in
    let there = ap items_in (sym found) ∙ lookup-is c.args.place es in
    rw (← c.self.view_is) (on_ok_weaker c.push_key.result
    (λ is p. added c.args.place p c.args.key.now (groups_of es) _ c.push_key.new.keys.items none (is ∙ (λ i. there i ++ c.in_ok-copy.ensures.cases i ∷ [])) (put-is c.args.place es _ (Some c.push_key.new.keys) updates.0 p))
    c.push_key.ensures.ok)

pub returns-in-Some-clause-err : goal.returns-in-Some-clause-err
returns-in-Some-clause-err g c =
    let es = c.self.inside.groups.entries in
    let found = sym c.get_mut.ensures.value ∙ ap option_copied_mut c.in-Some.is in
    let holds = c.get_mut.follows.holds c.push_key.new.keys in
    let updates = holds.3 (some-is _ _ found) in
    let there = ap items_in (sym found) ∙ lookup-is c.args.place es in
    rw (← c.self.view_is) (on_err_weaker c.push_key.result
    (λ is p. kept_at c.args.place p (groups_of es) _ c.push_key.new.keys.items (is ∙ there) (put-is c.args.place es _ (Some c.push_key.new.keys) updates.0 p))
    c.push_key.ensures.err)

pub returns-in-None-clause-ok : goal.returns-in-None-clause-ok
returns-in-None-clause-ok g c =
    let es = c.self.inside.groups.entries in
    let found = sym c.get_mut.ensures.value ∙ ap option_copied_mut c.in-None.is in
    let none : has_key c.args.key.now (keys_at c.args.place (groups_of es)) ≡ false = rw c.self.view_is (ap (has_key c.args.key.now) (sym c.keys.ensures) ∙ sym c.has.ensures ∙ c.if-has.false) in
    let there = ap items_in (sym found) ∙ lookup-is c.args.place es in
    rw (← c.self.view_is) (on_ok_weaker c.add_first.result
    (λ is p. added c.args.place p c.args.key.now (groups_of es) (keys_at p c.add_first.new.self) (c.in_ok-copy.copy ∷ []) none (λ i. there i ++ c.in_ok-copy.ensures.cases i ∷ [])
    (is p ∙ (λ i. cond (p == c.args.place) (c.in_ok-copy.copy ∷ []) (keys_at p (groups_of (c.get_mut.follows.holds-at-none i).entries)))))
    c.add_first.ensures.ok)

pub returns-in-None-clause-err : goal.returns-in-None-clause-err
returns-in-None-clause-err g c = rw (← c.self.view_is) (on_err_weaker c.add_first.result
    (λ is p. ap (keys_at p) is ∙ (λ i. keys_at p (groups_of (c.get_mut.follows.holds-at-none i).entries)))
    c.add_first.ensures.err)
