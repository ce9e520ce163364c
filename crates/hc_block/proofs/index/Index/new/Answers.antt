use Rattle.std.proofs.Common.{◌-◌, ◌∙◌, [], ap, arith, List}
use Rattle.std.proofs.lemmas.List.{length-replicate}
use Rattle.hc_engines.specs.large.Index.{Indexed}
use Rattle.hc_block.specs.Indexes.{joined}
use Rattle.hc_block.proofs.Segments.{none_joined, none_apart}
use Rattle.hc_block.proofs.index.Index.new.Goals as goal

pub invariant_of-result : goal.invariant_of-result
invariant_of-result g c = rw (c.in_ok-segments.ensures, c.saturating_sub.ensures) (omega (arith, c.requires), length-replicate {A = List Indexed} 256 [], none_apart (c.args.bits - 8) 0 256)

pub returns : goal.returns
returns g c = ap joined c.in_ok-segments.ensures ∙ none_joined 256
