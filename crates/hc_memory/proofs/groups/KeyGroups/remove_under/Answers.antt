use Rattle.std.proofs.Common.{ap, sym, ◌∙◌, Some, arith}
use Rattle.std.specs.Option.{option_copied_mut}
use Rattle.hc_memory.specs.Clean.{keys_at, groups_of, has_key, is_under}
use Rattle.hc_memory.proofs.Grouped.{put-is, items_in, lookup-is, some-is, kept_in, emptied, no-length}
use Rattle.hc_memory.proofs.groups.KeyGroups.remove_under.Goals as goal

pub returns-else-len-eq0 : goal.returns-else-len-eq0
returns-else-len-eq0 g c =
    let es = c.self.inside.groups.entries in
    let found = sym c.get_mut.ensures.value ∙ ap option_copied_mut c.in-Some.is in
    let updates = c.get_mut.follows.holds c.take_out_under.new.keys in
    let there = ap items_in (sym found) ∙ lookup-is c.args.place es in
    rw (← c.self.view_is) (λ p k other h. kept_in c.args.place p k (is_under c.args.bits c.args.hash c.args.but.now k) (groups_of es) _ c.take_out_under.new.keys.items (λ e has. c.take_out_under.ensures k e (ap (has_key k) there ∙ has)) (put-is c.args.place es _ (Some c.take_out_under.new.keys) (updates.3 (some-is _ _ found)).0 p) other h)

pub returns-then-len-eq0 : goal.returns-then-len-eq0
returns-then-len-eq0 g c =
    let es = c.self.inside.groups.entries in
    let found = sym c.get_mut.ensures.value ∙ ap option_copied_mut c.in-Some.is in
    let updates = c.get_mut.follows.holds c.take_out_under.new.keys in
    let there = ap items_in (sym found) ∙ lookup-is c.args.place es in
    let none = no-length c.take_out_under.new.keys.items (omega (arith, c.take_out_under.new.keys.ok.0, c.len.ensures, c.if-len-eq0.true)) in
    rw (← c.self.view_is) (λ p k other h. emptied c.args.place p k (is_under c.args.bits c.args.hash c.args.but.now k) (groups_of es) _ (keys_at p c.remove_all.new.self) c.take_out_under.new.keys.items (λ e has. c.take_out_under.ensures k e (ap (has_key k) there ∙ has)) none (put-is c.args.place es _ (Some c.take_out_under.new.keys) (updates.3 (some-is _ _ found)).0 p) (c.remove_all.ensures p) other h)
