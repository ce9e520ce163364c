use Rattle.std.proofs.Common.{true, false, sym, ◌∙◌}
use Rattle.hc_block.proofs.Making.{limits_from}
use Rattle.hc_block.proofs.Misfits.{no_count, no_rest, not_open, not_sealed, not_flushed, by_index}
use Rattle.hc_block.proofs.Rested.{short_regions, rising_regions, small_limit}
use Rattle.hc_block.proofs.resting.misfit.Goals as goal

pub all_rest-requires-clause-page : goal.all_rest-requires-clause-page
all_rest-requires-clause-page g c = (limits_from c.args.flash.now c.requires).most_page

pub all_rest-requires-clause-pages : goal.all_rest-requires-clause-pages
all_rest-requires-clause-pages g c = (limits_from c.args.flash.now c.requires).most_pages

pub all_lead-requires-clause-small : goal.all_lead-requires-clause-small
all_lead-requires-clause-small g c = small_limit c.args.flash.now c.requires

pub all_lead-requires-clause-filled : goal.all_lead-requires-clause-filled
all_lead-requires-clause-filled g c = short_regions c.args.flash.now c.as_slice-regions.result.now c.requires (sym c.all_rest.ensures ∙ c.if-not-all_rest.false)

pub all_lead-requires-clause-rising : goal.all_lead-requires-clause-rising
all_lead-requires-clause-rising g c = rising_regions c.args.flash.now c.as_slice-regions.result.now (sym c.all_rest.ensures ∙ c.if-not-all_rest.false)

pub returns-then-regions-flash : goal.returns-then-regions-flash
returns-then-regions-flash g c = no_count c.args.flash.now c.as_slice-regions.result.now c.args.parts.now.regions.items c.args.parts.now.current c.args.parts.now.sealed.items c.args.parts.now.flushed.items c.args.parts.now.index c.as_slice-regions.ensures.value c.if-regions-flash.true

pub returns-then-not-all_rest : goal.returns-then-not-all_rest
returns-then-not-all_rest g c = no_rest c.args.flash.now c.as_slice-regions.result.now c.args.parts.now.regions.items c.args.parts.now.current c.args.parts.now.sealed.items c.args.parts.now.flushed.items c.args.parts.now.index c.as_slice-regions.ensures.value c.if-regions-flash.false (sym c.all_rest.ensures ∙ c.if-not-all_rest.true)

pub returns-then-not-is_open : goal.returns-then-not-is_open
returns-then-not-is_open g c = not_open c.args.flash.now c.as_slice-regions.result.now c.args.parts.now.regions.items c.args.parts.now.current c.args.parts.now.sealed.items c.args.parts.now.flushed.items c.args.parts.now.index c.as_slice-regions.ensures.value c.if-regions-flash.false (sym c.all_rest.ensures ∙ c.if-not-all_rest.false) (sym c.is_open.ensures ∙ c.if-not-is_open.true)

pub returns-then-not-branch : goal.returns-then-not-branch
returns-then-not-branch g c = not_sealed c.args.flash.now c.as_slice-regions.result.now c.args.parts.now.regions.items c.args.parts.now.current c.args.parts.now.sealed.items c.args.parts.now.flushed.items c.args.parts.now.index c.as_slice-regions.ensures.value c.if-regions-flash.false (sym c.all_rest.ensures ∙ c.if-not-all_rest.false) (sym c.is_open.ensures ∙ c.if-not-is_open.false) (sym c.in_ok-all_once.ensures ∙ c.if-not-branch.true)

pub returns-then-not-branch-2 : goal.returns-then-not-branch-2
returns-then-not-branch-2 g c = not_flushed c.args.flash.now c.as_slice-regions.result.now c.args.parts.now.regions.items c.args.parts.now.current c.args.parts.now.sealed.items c.args.parts.now.flushed.items c.args.parts.now.index c.as_slice-regions.ensures.value c.if-regions-flash.false (sym c.all_rest.ensures ∙ c.if-not-all_rest.false) (sym c.is_open.ensures ∙ c.if-not-is_open.false) (sym c.in_ok-all_once.ensures ∙ c.if-not-branch.false) (sym c.in_ok-all_once-2.ensures ∙ c.if-not-branch-2.true)

pub returns-then-not-all_lead : goal.returns-then-not-all_lead
returns-then-not-all_lead g c = by_index c.args.flash.now c.as_slice-regions.result.now c.args.parts.now.regions.items c.args.parts.now.current c.args.parts.now.sealed.items c.args.parts.now.flushed.items c.args.parts.now.index c.as_slice-regions.ensures.value c.if-regions-flash.false false (sym c.all_lead.ensures ∙ c.if-not-all_lead.true) (sym c.all_rest.ensures ∙ c.if-not-all_rest.false) (sym c.is_open.ensures ∙ c.if-not-is_open.false) (sym c.in_ok-all_once.ensures ∙ c.if-not-branch.false) (sym c.in_ok-all_once-2.ensures ∙ c.if-not-branch-2.false)

pub returns : goal.returns
returns g c = by_index c.args.flash.now c.as_slice-regions.result.now c.args.parts.now.regions.items c.args.parts.now.current c.args.parts.now.sealed.items c.args.parts.now.flushed.items c.args.parts.now.index c.as_slice-regions.ensures.value c.if-regions-flash.false true (sym c.all_lead.ensures ∙ c.if-not-all_lead.false) (sym c.all_rest.ensures ∙ c.if-not-all_rest.false) (sym c.is_open.ensures ∙ c.if-not-is_open.false) (sym c.in_ok-all_once.ensures ∙ c.if-not-branch.false) (sym c.in_ok-all_once-2.ensures ∙ c.if-not-branch-2.false)
