use Rattle.std.proofs.Common.{◌≡◌, ◌∙◌, ◌<◌, sym, ap, subst, arith}
use Rattle.std.specs.Prelude.{IfSome}
use Rattle.hc_engines.specs.large.Block.{Block, Reading}
use Rattle.hc_block.specs.Large.{Large}
use Rattle.hc_block.specs.Works.{reading_at, IsReading}
use Rattle.hc_block.specs.Reads.{next_of, CanReadOn}
use Rattle.hc_block.proofs.Leaving.{read_there, read_small, all_can_read_on}
use Rattle.hc_block.proofs.block_cache.BlockCache.read_next.Goals as goal

pub next_page-requires-clause-region : goal.next_page-requires-clause-region
next_page-requires-clause-region g c =
    let s : Block = record { regions = c.self.inside.regions.items; current = c.self.inside.current; sealed = c.self.inside.sealed.items; flushed = c.self.inside.flushed.items; index = c.self.inside.index; jobs = c.self.inside.jobs } in
    let h = subst (λ (x : Large). IsReading c.args.number x.block.jobs) (sym c.self.view_is) c.requires in
    let there = read_there c.self.inside.flash c.args.number s c.self.invariant.0 h in
    subst (λ (rd : Reading). rd.place.region < 65536) (sym c.reading.ensures) (omega (arith, there, c.self.invariant.0.count, c.self.invariant.0.limits.regions))

pub next_page-requires-clause-small : goal.next_page-requires-clause-small
next_page-requires-clause-small g c =
    let s : Block = record { regions = c.self.inside.regions.items; current = c.self.inside.current; sealed = c.self.inside.sealed.items; flushed = c.self.inside.flushed.items; index = c.self.inside.index; jobs = c.self.inside.jobs } in
    let h = subst (λ (x : Large). IsReading c.args.number x.block.jobs) (sym c.self.view_is) c.requires in
    subst (λ (rd : Reading). rd.next < 65536) (sym c.reading.ensures) (read_small c.self.inside.flash c.args.number s c.self.invariant.0 h)

pub returns-clause-value : goal.returns-clause-value
returns-clause-value g c = subst (λ (x : Large). c.next_page.result ≡ next_of x.flash (reading_at c.args.number x.block.jobs)) c.self.view_is (c.next_page.ensures ∙ ap (next_of c.self.inside.flash) c.reading.ensures)

pub returns-clause-can : goal.returns-clause-can
returns-clause-can g c =
    let s : Block = record { regions = c.self.inside.regions.items; current = c.self.inside.current; sealed = c.self.inside.sealed.items; flushed = c.self.inside.flushed.items; index = c.self.inside.index; jobs = c.self.inside.jobs } in
    let h = subst (λ (x : Large). IsReading c.args.number x.block.jobs) (sym c.self.view_is) c.requires in
    subst (λ (x : Large). IfSome c.next_page.result (λ page. CanReadOn x.flash c.args.number x.block)) c.self.view_is
    (all_can_read_on c.self.inside.flash c.args.number s c.next_page.result c.self.invariant.0 h (sym (c.next_page.ensures ∙ ap (next_of c.self.inside.flash) c.reading.ensures)))
