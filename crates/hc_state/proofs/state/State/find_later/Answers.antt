use Rattle.std.proofs.Common.{◌≡◌, ◌+◌, true, refl, sym, ap, ◌∙◌, subst, arith}
use Rattle.std.specs.Prelude.{ℕ}
use Rattle.hc_machine.specs.Cache.{Cache}
use Rattle.hc_machine.specs.Calls.{must_wait}
use Rattle.hc_waiting.specs.Replies.{AreBefore}
use Rattle.hc_state.specs.wait.Begin.{OwesBegun}
use Rattle.hc_state.specs.Whole.{Whole, nvm_of}
use Rattle.hc_state.proofs.find.Looks.{waits-log}
use Rattle.hc_state.proofs.find.Steps.{later-step, on_err}
use Rattle.hc_state.proofs.state.State.find_later.Goals as goal

pub returns-in_err-begin-clause-err : goal.returns-in_err-begin-clause-err
returns-in_err-begin-clause-err g c =
    let made = c.in_ok-room_for_notes.ensures in
    rw (← c.self.view_is) (on_err c.from_residual-in_err-begin.result (record { cache = refl; log = made.same; notes = made.more }))

pub wait-requires : goal.wait-requires
wait-requires g c =
    let f = c.self.inside in
    let number : c.args.call ≡ f.calls + 1 = c.requires.call ∙ ap (λ (w : Whole). w.cache.calls + 1) (sym c.self.view_is) in
    let begun = subst (λ (w : Whole). OwesBegun w.cache) (sym c.self.view_is) c.requires.begun in
    record { newest = subst (λ (n : ℕ). AreBefore n f.replies) (sym number) begun }

pub returns-in-Err-clause-err : goal.returns-in-Err-clause-err
returns-in-Err-clause-err g c =
    let f = c.self.inside in
    let made = c.in_ok-room_for_notes.ensures in
    let same = c.in-Err.ensures.err in
    rw (← c.self.view_is) (record {
      cache = λ i. record {
        config = f.config;
        memory = f.pools;
        now = f.clock;
        calls = f.calls;
        owed = same.1 i;
        nvm = same.0 i;
      };
      log = made.same;
      notes = made.more;
    })

pub returns-clause-ok : goal.returns-clause-ok
returns-clause-ok g c =
    let f = c.self.inside in
    let key = c.args.key.now in
    let made = c.in_ok-room_for_notes.ensures in
    let cache : Cache = record { config = f.config; memory = f.pools; now = f.clock; calls = f.calls; owed = f.replies; nvm = nvm_of f.nvm } in
    let number : c.args.call ≡ cache.calls + 1 = c.requires.call ∙ ap (λ (w : Whole). w.cache.calls + 1) (sym c.self.view_is) in
    let later : must_wait cache key ≡ true = subst (λ (w : Whole). must_wait w.cache key ≡ true) (sym c.self.view_is) c.requires.later in
    let log = waits-log (g.N.Listener.told f.notes) (g.N.Listener.told c.room_for_notes.new.notes) (g.N.Listener.told c.tell.new.notes) c.in_ok-begin.begin c.args.call c.args.client key made.same c.in_ok-begin.ensures c.tell.ensures.told in
    rw (← c.self.view_is) (later-step c.args.client c.args.call key _ _ number later (λ i. record {
      config = f.config;
      memory = f.pools;
      now = f.clock;
      calls = c.args.call;
      owed = c.in-Ok.ensures.owed i;
      nvm = c.in-Ok.ensures.nvm i;
    }) log (omega (arith, made.room, c.tell.ensures.room)))
