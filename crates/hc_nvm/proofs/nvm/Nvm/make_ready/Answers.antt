use Rattle.std.proofs.Common.{◌≡◌, ◌+◌, ◌≤◌, ◌∙◌, Some, length, slice_get, ap, subst, arith}
use Rattle.std.proofs.lemmas.Option.{get_or_from_slice_get}
use Rattle.hc_engines.specs.Engine.{IoResult}
use Rattle.hc_engines.specs.pair.Pair.{Moved, resume}
use Rattle.hc_bighash.specs.Found.{losses_of}
use Rattle.hc_machine.specs.Nvm.{Job}
use Rattle.hc_nvm.specs.Finishing.{brought_key}
use Rattle.hc_nvm.specs.Stock.{Stock}
use Rattle.hc_nvm.proofs.nvm.Nvm.make_ready.Goals as goal

pub returns-clause-key : goal.returns-clause-key
returns-clause-key g c = subst (λ (s : Stock). (job : Job) → slice_get s.nvm.jobs c.args.at ≡ Some job → c.in_ok-key.key ≡ brought_key c.args.number s.nvm.fills job.task) c.self.view_is
    (λ job there. c.in_ok-key.ensures ∙ ap (λ (j : Job). brought_key c.args.number c.self.inside.fills.fills j.task) (c.index.ensures ∙ get_or_from_slice_get c.self.inside.jobs.items c.args.at job c.index.result.now there))

pub returns-clause-room : goal.returns-clause-room
returns-clause-room g c = subst (λ (s : Stock). (result_came : IoResult) (moved : Moved) → resume c.args.number result_came s.nvm.pair ≡ Some moved → length (losses_of moved.next) + (length s.nvm.tombstones + (6 + c.args.spare)) ≤ g.N.Listener.room c.reserve.new.self) c.self.view_is
    (λ result_came moved came.
    let most = c.most_losses.ensures result_came moved came in
    let stones = c.len.ensures in
    let others = c.in_ok-others.ensures in
    let all = c.in_ok-all.ensures in
    let room = c.in_ok-reserve.ensures.room in
    omega (arith, most, stones, others, all, room))
