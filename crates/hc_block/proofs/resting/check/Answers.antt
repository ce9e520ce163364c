use Rattle.std.proofs.Common.{◌≡◌, ◌≤◌, List, None, length, inl, sym, ap, subst, ◌∙◌}
use Rattle.std.proofs.lemmas.Result.{IfOk-weaker, IfErr-weaker}
use Rattle.hc_engines.specs.large.Region.{Region}
use Rattle.hc_region.specs.CleanNumbers.{clean_from}
use Rattle.hc_block.specs.Resting.{block_at, misfit}
use Rattle.hc_block.proofs.Rested.{few_regions}
use Rattle.hc_block.proofs.resting.check.Goals as goal

pub clean_numbers-requires : goal.clean_numbers-requires
clean_numbers-requires g c =
    let fit : misfit c.args.flash.now (block_at c.args.parts.now.regions.items c.args.parts.now.current c.args.parts.now.sealed.items c.args.parts.now.flushed.items c.args.parts.now.index) ≡ None = sym c.in-Ok-None.ensures ∙ c.in-Ok-None.field-0-is in
    subst (λ (regions : List Region). length regions ≤ 65536) (sym c.as_slice.ensures.value) (few_regions c.args.flash.now (block_at c.args.parts.now.regions.items c.args.parts.now.current c.args.parts.now.sealed.items c.args.parts.now.flushed.items c.args.parts.now.index) c.requires fit)

pub returns-in-Ok-None-clause-clean : goal.returns-in-Ok-None-clause-clean
returns-in-Ok-None-clause-clean g c = IfOk-weaker c.clean_numbers.result _ _ (λ clean e. e ∙ ap (λ (regions : List Region). clean_from 0 regions) c.as_slice.ensures.value) c.clean_numbers.ensures.clean

pub returns-in-Ok-None-clause-fit : goal.returns-in-Ok-None-clause-fit
returns-in-Ok-None-clause-fit g c =
    let fit : misfit c.args.flash.now (block_at c.args.parts.now.regions.items c.args.parts.now.current c.args.parts.now.sealed.items c.args.parts.now.flushed.items c.args.parts.now.index) ≡ None = sym c.in-Ok-None.ensures ∙ c.in-Ok-None.field-0-is in
    IfOk-weaker c.clean_numbers.result _ _ (λ clean e. fit) c.clean_numbers.ensures.clean

pub returns-in-Ok-None-clause-why : goal.returns-in-Ok-None-clause-why
returns-in-Ok-None-clause-why g c = IfErr-weaker c.clean_numbers.result _ _ (λ why e. inl e) c.clean_numbers.ensures.err
