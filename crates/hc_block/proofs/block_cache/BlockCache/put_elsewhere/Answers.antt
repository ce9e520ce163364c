use Rattle.std.proofs.Common.{◌∙◌, refl, sym, ap}
use Rattle.std.proofs.lemmas.Result.{IfOk-weaker, MatchResult-weaker}
use Rattle.hc_types.specs.FlashEntry.{entry_of}
use Rattle.hc_engines.specs.large.Block.{finished}
use Rattle.hc_engines.specs.large.Steps.{put_fresh}
use Rattle.hc_block.proofs.block_cache.BlockCache.put_elsewhere.Goals as goal

pub put_fresh-requires-clause-bytes : goal.put_fresh-requires-clause-bytes
put_fresh-requires-clause-bytes g c = c.requires.bytes

pub put_fresh-requires-clause-clean : goal.put_fresh-requires-clause-clean
put_fresh-requires-clause-clean g c = sym c.lowest_clean.ensures ∙ c.in-Some.is

pub put_fresh-requires-clause-fits : goal.put_fresh-requires-clause-fits
put_fresh-requires-clause-fits g c = c.requires.fits

pub returns-in-None-clause-err : goal.returns-in-None-clause-err
returns-in-None-clause-err g c = MatchResult-weaker c.no_clean_region.result c.no_clean_region.ensures (λ _ _. tt) (λ _ _. refl)

pub returns-in-None-clause-flash : goal.returns-in-None-clause-flash
returns-in-None-clause-flash g c = refl

pub returns-in-None-clause-ok : goal.returns-in-None-clause-ok
returns-in-None-clause-ok g c = IfOk-weaker c.no_clean_region.result _ _
    (λ outcome is. ap (put_fresh c.args.self.now.flash (entry_of c.args.entry.now) c.args.self.now.block) (sym c.lowest_clean.ensures ∙ c.in-None.is) ∙ ap (finished c.args.self.now.block) (sym is))
    c.no_clean_region.ensures

pub returns-in-Some-clause-err : goal.returns-in-Some-clause-err
returns-in-Some-clause-err g c = c.put_fresh.ensures.err

pub returns-in-Some-clause-flash : goal.returns-in-Some-clause-flash
returns-in-Some-clause-flash g c = c.put_fresh.ensures.flash

pub returns-in-Some-clause-ok : goal.returns-in-Some-clause-ok
returns-in-Some-clause-ok g c = IfOk-weaker c.put_fresh.result _ _
    (λ outcome is. ap (put_fresh c.args.self.now.flash (entry_of c.args.entry.now) c.args.self.now.block) (sym c.lowest_clean.ensures ∙ c.in-Some.is) ∙ is)
    c.put_fresh.ensures.ok
