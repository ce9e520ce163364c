use Rattle.std.proofs.Common.{Some, [], refl, sym, ap, ◌∙◌}
use Rattle.hc_state.specs.Whole.{nvm_of}
use Rattle.hc_state.specs.Resting.{of_parts, is_at_rest}
use Rattle.hc_state.proofs.HandedOut.{put-rests}
use Rattle.hc_state.proofs.resting.Parts.hand_out_put.Goals as goal
use Rattle.hc_state.proofs.resting.Parts.hand_out_put.Goals.{in-Some, in-None}

pub invariant_of-self : goal.invariant_of-self
invariant_of-self g c =
    let f = c.self.inside in
    elim c.match-self.branch [
      | in-Some w ↦ rw w.self-inside-is (
          ap (λ n. is_at_rest (of_parts f.config f.pools f.clock f.calls (Some n))) w.hand_out_put.ensures.nvm
          ∙ put-rests (of_parts f.config f.pools f.clock f.calls (Some w.in-Some.nvm.nvm)) (ap (λ o. is_at_rest (of_parts f.config f.pools f.clock f.calls (nvm_of o))) (sym w.in-Some.is) ∙ c.self.invariant)
          )
      | in-None w ↦ rw w.self-inside-is c.self.invariant
    ]

pub returns-clause-put : goal.returns-clause-put
returns-clause-put g c = rw (← c.self.view_is) (elim c.match-self.branch [ in-Some w ↦ rw (w.result-is, w.in-Some.is) w.hand_out_put.ensures.put | in-None w ↦ rw (w.result-is, w.in-None.is) refl ])

pub returns-clause-cache : goal.returns-clause-cache
returns-clause-cache g c =
    let f = c.self.inside in
    rw (← c.self.view_is) (elim c.match-self.branch [
      | in-Some w ↦ rw (w.self-inside-is, w.in-Some.is) (λ i. record { config = f.config; memory = f.pools; now = f.clock; calls = f.calls; owed = []; nvm = Some (w.hand_out_put.ensures.nvm i) })
      | in-None w ↦ rw (w.self-inside-is, w.in-None.is) refl
    ])
