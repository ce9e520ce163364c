use Rattle.std.proofs.Common.{None, ap}
use Rattle.std.specs.Prelude.{option_map}
use Rattle.hc_engines.specs.Engine.{Io, Done}
use Rattle.hc_engines.specs.Next.{next_seen}
use Rattle.hc_engines.specs.Seen.{order_of as order_asked}
use Rattle.hc_flash.specs.Seen.{result_of}
use Rattle.hc_nvm.specs.Filled.{filled_of}
use Rattle.hc_nvm.specs.Seen.{take_of}
use Rattle.hc_nvm.proofs.Finished.{carried_out}
use Rattle.hc_nvm.proofs.nvm.Nvm.finish.Goals as goal

pub returns-in-Io-clause-ok : goal.returns-in-Io-clause-ok
returns-in-Io-clause-ok g c =
    carried_out c.args.number (result_of c.args.came) c.args.self.now.nvm c.hand_in.new.self.nvm (next_seen c.in-Ok.field-0.next) c.in-Ok.field-0.key c.in-Ok.ensures.ok (Io (order_asked c.in-Io.order) c.in-Io.outcome) (ap next_seen c.in-Io.is)
    c.wait_on-take.new.self.nvm (take_of c.wait_on-take.result) None (g.N.Listener.told c.args.notes.now) (g.N.Listener.told c.hand_in.new.notes) (g.N.Listener.told c.wait_on-take.new.notes) c.args.pools.now c.wait_on-take.new.pools c.hand_in.ensures.told c.wait_on-take.ensures.taken

pub returns-in-Done-clause-ok : goal.returns-in-Done-clause-ok
returns-in-Done-clause-ok g c =
    carried_out c.args.number (result_of c.args.came) c.args.self.now.nvm c.hand_in.new.self.nvm (next_seen c.in-Ok.field-0.next) c.in-Ok.field-0.key c.in-Ok.ensures.ok (Done c.in-Done.outcome) (ap next_seen c.in-Done.is)
    c.close_job.new.self.nvm (take_of c.close_job.result.take) (option_map filled_of c.close_job.result.filled) (g.N.Listener.told c.args.notes.now) (g.N.Listener.told c.hand_in.new.notes) (g.N.Listener.told c.close_job.new.notes) c.args.pools.now c.close_job.new.pools c.hand_in.ensures.told c.close_job.ensures.taken
