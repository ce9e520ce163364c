use Rattle.hc_engines.specs.Seen.{op_of}
use Rattle.hc_engines.specs.Next.{next_seen}
use Rattle.hc_nvm.proofs.Numbers.{started_below, started_flash, next_is_free}
use Rattle.hc_nvm.proofs.Serving.{served_started}
use Rattle.hc_nvm.proofs.starting.start_in.Goals as goal

pub start-requires-clause-free : goal.start-requires-clause-free
start-requires-clause-free g c = next_is_free c.args.made c.args.pair.now c.requires.below

pub returns-clause-below : goal.returns-clause-below
returns-clause-below g c = started_below c.args.pair.now c.start.new.self c.args.made (op_of c.args.op.now) (next_seen c.in_ok-next.next) c.is_sound.ensures.sound c.is_sound.ensures.apart c.requires.below c.in_ok-next.ensures.ok

pub returns-clause-served : goal.returns-clause-served
returns-clause-served g c = λ task flash stones brings numbered served.
    served_started c.args.pair.now c.start.new.self c.args.made (op_of c.args.op.now) (next_seen c.in_ok-next.next) task flash stones c.args.jobs.now.items c.is_sound.ensures.sound (next_is_free c.args.made c.args.pair.now c.requires.below) c.in_ok-next.ensures.ok brings numbered served

pub returns-clause-flash : goal.returns-clause-flash
returns-clause-flash g c = started_flash c.args.pair.now c.start.new.self _ (op_of c.args.op.now) (next_seen c.in_ok-next.next) c.in_ok-next.ensures.ok
