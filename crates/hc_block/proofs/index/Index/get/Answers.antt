use Rattle.std.proofs.Common.{◌∙◌, ◌<◌, [], length, sym, subst, arith, List}
use Rattle.std.specs.Prelude.{get_or}
use Rattle.hc_engines.specs.large.Index.{Indexed, place_at}
use Rattle.hc_block.proofs.Segments.{found}
use Rattle.hc_block.proofs.index.Index.get.Goals as goal

pub get_at-requires : goal.get_at-requires
get_at-requires g c = subst (λ (segments : List (List Indexed)). c.segment_of.result < length segments) (sym c.deref.ensures.value) (omega (arith, c.segment_of.ensures.within, c.self.invariant.1))

pub returns : goal.returns
returns g c = rw (← c.self.view_is) (c.get_at.ensures ∙ (λ i. place_at c.args.hash (get_or (c.deref.ensures.value i) (c.segment_of.ensures.value i) [])) ∙ sym (found c.self.inside.shift c.args.hash c.self.inside.segments.items c.self.invariant.2))
