use Rattle.std.proofs.Common.{◌≡◌, true, [], sym, ap, ◌∙◌}
use Rattle.hc_engines.specs.pair.Pair.{Pair, by_large}
use Rattle.hc_engines.specs.large.Steps as steps
use Rattle.hc_engines.specs.Seen.{op_of}
use Rattle.hc_engines.specs.Next.{next_seen}
use Rattle.hc_pair.specs.Joined.{is_miss}
use Rattle.hc_pair.proofs.Steps.{miss_changes_nothing, miss_goes_on, on_err}
use Rattle.hc_pair.proofs.pair.Pair.start.Goals as goal

pub returns-in_err-next-2-clause-err : goal.returns-in_err-next-2-clause-err
returns-in_err-next-2-clause-err g c =
    let miss : is_miss (op_of c.args.op.now) (next_seen c.in_ok-next.next) ≡ true = sym c.is_miss.ensures ∙ c.if-not-is_miss.false in
    let same : c.start_small.new.self ≡ c.args.self.now = miss_changes_nothing c.args.self.now c.start_small.new.self c.args.number (op_of c.args.op.now) (next_seen c.in_ok-next.next) c.requires.free miss c.in_ok-next.ensures.ok in
    on_err c.from_residual-in_err-next-2.result (c.in_err-next-2.ensures.err ∙ same)

pub returns-clause-ok : goal.returns-clause-ok
returns-clause-ok g c =
    let miss : is_miss (op_of c.args.op.now) (next_seen c.in_ok-next.next) ≡ true = sym c.is_miss.ensures ∙ c.if-not-is_miss.false in
    let same : c.start_small.new.self ≡ c.args.self.now = miss_changes_nothing c.args.self.now c.start_small.new.self c.args.number (op_of c.args.op.now) (next_seen c.in_ok-next.next) c.requires.free miss c.in_ok-next.ensures.ok in
    miss_goes_on c.args.self.now c.start_small.new.self c.args.number (op_of c.args.op.now) (next_seen c.in_ok-next.next) c.requires.free miss c.in_ok-next.ensures.ok
    ∙ ap (λ (p : Pair). by_large p [] (steps.start p.small.flash c.args.number (op_of c.args.op.now) p.large)) (sym same) ∙ c.in_ok-next-2.ensures.ok
