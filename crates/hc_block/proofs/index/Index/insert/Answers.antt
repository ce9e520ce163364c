use Rattle.std.proofs.Common.{◌≡◌, ◌∙◌, ◌<◌, ℕ, [], length, set, sym, ap, subst, arith, List}
use Rattle.std.specs.Prelude.{get_or}
use Rattle.std.proofs.lemmas.List.{length-set}
use Rattle.hc_engines.specs.large.Index.{Indexed, leading}
use Rattle.hc_block.specs.Indexes.{segment_of, joined, AreApart}
use Rattle.hc_block.proofs.Segments.{inserted, inserted_apart}
use Rattle.hc_block.proofs.index.Index.insert.Goals as goal

pub insert_at-requires : goal.insert_at-requires
insert_at-requires g c = omega (arith, c.segment_of.ensures.within, c.self.invariant.1)

pub invariant_of-self-2 : goal.invariant_of-self-2
invariant_of-self-2 g c =
    let segments : List (List Indexed) = c.self.inside.segments.items in
    let at : ℕ = segment_of c.self.inside.shift c.args.hash in
    let new : c.insert_at.new.segments.items ≡ set segments at (leading c.args.hash c.args.place (get_or segments at [])) = c.in_ok-insert_at.ensures.ok ∙ ap (λ (n : ℕ). set segments n (leading c.args.hash c.args.place (get_or segments n []))) c.segment_of.ensures.value in (
      c.self.invariant.0,
      ap length new ∙ length-set segments at (leading c.args.hash c.args.place (get_or segments at [])) ∙ c.self.invariant.1,
      subst (AreApart c.self.inside.shift 0) (sym new) (inserted_apart c.self.inside.shift c.args.hash c.args.place segments c.self.invariant.2),
    )

pub returns-clause-ok : goal.returns-clause-ok
returns-clause-ok g c =
    let segments : List (List Indexed) = c.self.inside.segments.items in
    let at : ℕ = segment_of c.self.inside.shift c.args.hash in
    let there : at < length segments = subst (λ (n : ℕ). n < length segments) c.segment_of.ensures.value (omega (arith, c.segment_of.ensures.within, c.self.invariant.1)) in
    let new = c.in_ok-insert_at.ensures.ok ∙ ap (λ (n : ℕ). set segments n (leading c.args.hash c.args.place (get_or segments n []))) c.segment_of.ensures.value in
    rw (← c.self.view_is) (ap joined new ∙ inserted c.self.inside.shift c.args.hash c.args.place segments there c.self.invariant.2)
