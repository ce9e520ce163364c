use Rattle.std.proofs.Common.{◌<◌, [], ◌∙◌, arith}
use Rattle.hc_client_records.proofs.Walking.{one-more}
use Rattle.hc_client_records.proofs.walk.no_calls.Goals as goal

pub loop-preserved : goal.loop-preserved
loop-preserved c = let below : c.loop.counter < c.args.n = omega (arith, c.loop-test.true) in rw (c.in_ok-push.ensures.items, c.new.ensures) (one-more [] c.loop.clients.items c.args.n c.loop.counter below ∙ c.loop.invariant)
