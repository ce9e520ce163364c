use Rattle.std.proofs.Common.{◌≡◌, ◌∙◌, ℕ, [], length, set, sym, ap, subst, arith, List}
use Rattle.std.specs.Prelude.{get_or}
use Rattle.std.proofs.lemmas.List.{length-set}
use Rattle.hc_engines.specs.large.Index.{Indexed, without}
use Rattle.hc_block.specs.Indexes.{segment_of, joined, AreApart}
use Rattle.hc_block.proofs.Segments.{removed, removed_apart}
use Rattle.hc_block.proofs.index.Index.remove.Goals as goal

pub remove_at-requires : goal.remove_at-requires
remove_at-requires g c = omega (arith, c.segment_of.ensures.within, c.self.invariant.1)

pub invariant_of-self : goal.invariant_of-self
invariant_of-self g c =
    let segments : List (List Indexed) = c.self.inside.segments.items in
    let at : ℕ = segment_of c.self.inside.shift c.args.hash in
    let new : c.remove_at.new.segments.items ≡ set segments at (without c.args.hash (get_or segments at [])) = c.remove_at.ensures ∙ ap (λ (n : ℕ). set segments n (without c.args.hash (get_or segments n []))) c.segment_of.ensures.value in (
      c.self.invariant.0,
      ap length new ∙ length-set segments at (without c.args.hash (get_or segments at [])) ∙ c.self.invariant.1,
      subst (AreApart c.self.inside.shift 0) (sym new) (removed_apart c.self.inside.shift c.args.hash segments c.self.invariant.2),
    )

pub returns : goal.returns
returns g c =
    let segments : List (List Indexed) = c.self.inside.segments.items in
    let new = c.remove_at.ensures ∙ ap (λ (n : ℕ). set segments n (without c.args.hash (get_or segments n []))) c.segment_of.ensures.value in
    rw (← c.self.view_is) (ap joined new ∙ removed c.self.inside.shift c.args.hash segments c.self.invariant.2)
