use Rattle.std.proofs.Common.{◌≡◌, ℕ, ◌+◌, ◌<◌, nat_lt, nat_le, Bool, length, sym, subst, ◌∙◌}
use Rattle.hc_engines.specs.large.Region.{region_at, filled_to}
use Rattle.hc_engines.specs.large.Sound.{is_listed}
use Rattle.hc_block.proofs.Listed.{listed_there, off_first, off_second, all_on}
use Rattle.hc_block.proofs.resting.leads_well.Goals as goal

pub is_listed_at-requires : goal.is_listed_at-requires
is_listed_at-requires g c = (filled_to c.args.flash.now (region_at c.region.result c.args.regions.now), c.requires.rising c.region.result)

pub is_within-requires-clause-there : goal.is_within-requires-clause-there
is_within-requires-clause-there g c =
    subst (λ (r : ℕ). r < length c.args.regions.now) c.region.ensures (listed_there c.args.regions.now c.region.result c.args.hash c.offset.result (sym c.is_listed_at.ensures ∙ c.if-not-is_listed_at.false))

pub returns-then-not-is_listed_at : goal.returns-then-not-is_listed_at
returns-then-not-is_listed_at g c =
    let where_it_leads : is_listed c.args.hash c.offset.result (region_at c.region.result c.args.regions.now).appended ≡ is_listed c.args.hash c.args.place.offset (region_at c.args.place.region c.args.regions.now).appended =
    λ i. is_listed c.args.hash (c.offset.ensures i) (region_at (c.region.ensures i) c.args.regions.now).appended in
    let long : Bool = nat_lt (14 + c.args.flash.now.small_max) c.args.place.length in
    let within : Bool = nat_le (c.args.place.offset + c.args.place.length) (filled_to c.args.flash.now (region_at c.args.place.region c.args.regions.now)) in
    off_first _ long within (sym where_it_leads ∙ (sym c.is_listed_at.ensures ∙ c.if-not-is_listed_at.true))

pub returns-then-not-is_long : goal.returns-then-not-is_long
returns-then-not-is_long g c = off_second _ _ _ (sym c.is_long.ensures ∙ c.if-not-is_long.true)

pub returns : goal.returns
returns g c =
    let where_it_leads : is_listed c.args.hash c.offset.result (region_at c.region.result c.args.regions.now).appended ≡ is_listed c.args.hash c.args.place.offset (region_at c.args.place.region c.args.regions.now).appended =
    λ i. is_listed c.args.hash (c.offset.ensures i) (region_at (c.region.ensures i) c.args.regions.now).appended in
    all_on _ _ _ _ (sym where_it_leads ∙ (sym c.is_listed_at.ensures ∙ c.if-not-is_listed_at.false)) (sym c.is_long.ensures ∙ c.if-not-is_long.false) c.is_within.ensures
