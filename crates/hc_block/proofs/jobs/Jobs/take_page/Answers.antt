use Rattle.std.proofs.Common.{◌<◌, List, Option, Some, ap, sym, subst, ◌∙◌}
use Rattle.std.specs.Prelude.{is_some}
use Rattle.std.specs.Option.{option_copied_mut}
use Rattle.std.specs.Ordering.{nat_cmp}
use Rattle.std.specs.BTreeMap.{is_at}
use Rattle.std.proofs.lemmas.Map.Steps.{set_value_same}
use Rattle.std.proofs.lemmas.Result.{on_ok_weaker, on_err_weaker}
use Rattle.hc_engines.specs.large.Block.{Job, Work, Getting, job_added, without_job}
use Rattle.hc_engines.specs.large.Unread.{read_on}
use Rattle.hc_block.specs.Works.{jobs_of, reading_in, reading_at, IsReading}
use Rattle.hc_block.proofs.Works.{found-is, read-is, write-is, not-missing}
use Rattle.hc_block.proofs.jobs.Jobs.take_page.Goals as goal

pub take_page-requires-clause-reading : goal.take_page-requires-clause-reading
take_page-requires-clause-reading g c = read-is c.args.number c.in-Some.work.now c.self.inside.works.entries (sym c.get_mut.ensures.value ∙ ap option_copied_mut c.in-Some.is) (subst (λ (js : List Job). IsReading c.args.number js) (sym c.self.view_is) c.requires.reading)

pub take_page-requires-clause-small : goal.take_page-requires-clause-small
take_page-requires-clause-small g c =
    let small = subst (λ (js : List Job). (reading_at c.args.number js).next < 65536) (sym c.self.view_is) c.requires.small in
    subst (λ (o : Option Work). (reading_in o).next < 65536) (found-is c.args.number c.in-Some.work.now c.self.inside.works.entries (sym c.get_mut.ensures.value ∙ ap option_copied_mut c.in-Some.is)) small

pub unreachable-requires : goal.unreachable-requires
unreachable-requires g c =
    let reads = subst (λ (js : List Job). IsReading c.args.number js) (sym c.self.view_is) c.requires.reading in
    not-missing c.args.number c.self.inside.works.entries (ap is_some reads) (sym c.get_mut.ensures.value ∙ ap option_copied_mut c.in-None.is)

pub returns-clause-ok : goal.returns-clause-ok
returns-clause-ok g c =
    let found = sym c.get_mut.ensures.value ∙ ap option_copied_mut c.in-Some.is in
    let same = found-is c.args.number c.in-Some.work.now c.self.inside.works.entries found in
    rw (← c.self.view_is) (on_ok_weaker c.take_page.result
    (λ is. ap jobs_of (c.get_mut.follows.holds c.take_page.new.self).0 ∙ write-is c.args.number c.take_page.new.self c.in-Some.work.now c.self.inside.works.entries c.get_mut.ensures.ordered found
    ∙ ap (λ (w : Work). job_added c.args.number w (without_job c.args.number (jobs_of c.self.inside.works.entries))) (is ∙ ap (λ (o : Option Work). Getting (read_on (reading_in o) c.args.page.now)) (sym same)))
    c.take_page.ensures.ok)

pub returns-clause-err : goal.returns-clause-err
returns-clause-err g c =
    let found = sym c.get_mut.ensures.value ∙ ap option_copied_mut c.in-Some.is in
    rw (← c.self.view_is) (on_err_weaker c.take_page.result
    (λ is. ap jobs_of ((c.get_mut.follows.holds c.take_page.new.self).0 ∙ set_value_same (is_at (nat_cmp c.args.number)) c.self.inside.works.entries c.take_page.new.self (found ∙ ap (λ w. Some w) (sym is))))
    c.take_page.ensures.err)
