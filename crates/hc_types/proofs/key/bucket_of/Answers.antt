use Rattle.std.proofs.Common.{◌%◌, ap}
use Rattle.hc_types.proofs.key.bucket_of.Goals as goal

pub returns : goal.returns
returns g c = ap (λ kept. kept % c.args.flash.now.buckets) c.kept.ensures
