use Rattle.std.proofs.Common.{refl, arith}
use Rattle.hc_state.specs.Whole.{nvm_of}
use Rattle.hc_state.proofs.state.State.put_planned.Goals as goal

pub put-requires : goal.put-requires
put-requires g c = record {
  number = rw (← c.self.view_is) at c.requires.number;
  pool = rw (← c.self.view_is) at c.requires.pool;
  room = rw (← c.self.view_is) at c.requires.room;
  none = rw (← c.self.view_is) at c.requires.none;
}

pub returns-in-Ok-clause-ok : goal.returns-in-Ok-clause-ok
returns-in-Ok-clause-ok g c =
    let f = c.self.inside in
    rw (← c.self.view_is) (record {
      cache = λ i. record { config = f.config; memory = c.in-Ok.ensures.ok i; now = f.clock; calls = c.args.plan.call; owed = f.replies; nvm = nvm_of f.nvm };
      log = c.count.ensures.told;
      notes = omega (arith, c.count.ensures.room);
    })

pub returns-in-Err-clause-err : goal.returns-in-Err-clause-err
returns-in-Err-clause-err g c =
    let f = c.self.inside in
    rw (← c.self.view_is) (record {
      cache = λ i. record { config = f.config; memory = c.in-Err.ensures.err i; now = f.clock; calls = f.calls; owed = f.replies; nvm = nvm_of f.nvm };
      log = refl;
      notes = omega arith;
    })
