use Rattle.std.proofs.Common.{Some, refl, sym, arith}
use Rattle.hc_history.proofs.Telling.{told-nothing}
use Rattle.hc_state.proofs.state.State.take_waiters.Goals as goal
use Rattle.hc_state.proofs.state.State.take_waiters.Goals.{in-Some, in-None}

pub returns-clause-waiters : goal.returns-clause-waiters
returns-clause-waiters g c = rw (← c.self.view_is) (elim c.match-self.branch [ in-Some w ↦ rw (w.result-is, w.in-Some.is) w.end_fill.ensures.waiters | in-None w ↦ rw (w.result-is, w.in-None.is) refl ])

pub returns-clause-does : goal.returns-clause-does
returns-clause-does g c =
    let f = c.self.inside in
    rw (← c.self.view_is) (elim c.match-self.branch [
      | in-Some w ↦ rw (w.self-inside-is, w.in-Some.is) (record {
        cache = λ i. record { config = f.config; memory = f.pools; now = f.clock; calls = f.calls; owed = f.replies; nvm = Some (w.end_fill.ensures.nvm i) };
        log = sym (told-nothing (g.N.Listener.told f.notes));
        room = record { notes = omega arith; puts = omega (arith, w.end_fill.ensures.puts); stones = omega (arith, w.end_fill.ensures.stones); fills = omega (arith, w.end_fill.ensures.fills) };
      })
      | in-None w ↦ rw (w.self-inside-is, w.in-None.is) (record {
        cache = refl;
        log = sym (told-nothing (g.N.Listener.told f.notes));
        room = record { notes = omega arith; puts = omega arith; stones = omega arith; fills = omega arith };
      })
    ])
