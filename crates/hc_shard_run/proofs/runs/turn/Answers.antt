use Rattle.std.proofs.Common.{◌≡◌, ◌<◌, true, false, not, length, Some, subst, ap, sym, ◌∙◌, arith}
use Rattle.std.proofs.lemmas.Option.{slice_get-get_or}
use Rattle.hc_machine.specs.Schedule.{Step}
use Rattle.hc_run.specs.Shows.{Window}
use Rattle.hc_shard_laws.specs.OwnKeys.{ShardStep}
use Rattle.hc_shard_run.specs.Steps.{is_for}
use Rattle.hc_shard_run.proofs.Stepping.{taken}
use Rattle.hc_shard_run.proofs.Turning.{IsTurn, own-at, lanes-pass, lanes-turn-at, turn-others-at, turn-counted}
use Rattle.hc_shard_run.proofs.runs.turn.Goals as goal

pub returns-then-not-is_taken-clause-lanes : goal.returns-then-not-is_taken-clause-lanes
returns-then-not-is_taken-clause-lanes g c = λ steps all. lanes-pass c.args.sharded.now (g.D.Flash.held c.args.device.now) steps c.args.one.now c.args.lanes.now.items c.requires.many (sym c.is_taken.ensures ∙ c.if-not-is_taken.true) all

pub index_mut-lane-requires : goal.index_mut-lane-requires
index_mut-lane-requires g c =
    let here = taken c.args.sharded.now.shards c.args.one.now (sym c.is_taken.ensures ∙ c.if-not-is_taken.false) in
    omega (arith, here.0, ap (λ (s : ShardStep). s.shard) c.one.view_is, c.from.ensures, c.requires.many)

pub turn-requires : goal.turn-requires
turn-requires g c =
    let mine = taken c.args.sharded.now.shards c.args.one.now (sym c.is_taken.ensures ∙ c.if-not-is_taken.false) in
    let within : c.from.result < length c.args.lanes.now.items = omega (arith, mine.0, ap (λ (s : ShardStep). s.shard) c.one.view_is, c.from.ensures, c.requires.many) in
    let there = slice_get-get_or c.args.lanes.now.items c.from.result c.index_mut-lane.result.now within ∙ ap Some (sym c.index_mut-lane.ensures.value) in
    record { own = own-at c.args.lanes.now.items c.from.result c.index_mut-lane.result.now c.requires.own there }

pub returns-clause-lanes : goal.returns-clause-lanes
returns-clause-lanes g c = λ steps all.
    let one = c.args.one.now in
    let old = c.index_mut-lane.result.now in
    let new = c.turn.new.self in
    let is = sym c.is_taken.ensures ∙ c.if-not-is_taken.false in
    let place : one.shard ≡ c.from.result = ap (λ (s : ShardStep). s.shard) (sym c.one.view_is) ∙ sym c.from.ensures in
    let mine = taken c.args.sharded.now.shards c.args.one.now (sym c.is_taken.ensures ∙ c.if-not-is_taken.false) in
    let within : c.from.result < length c.args.lanes.now.items = omega (arith, mine.0, ap (λ (s : ShardStep). s.shard) c.one.view_is, c.from.ensures, c.requires.many) in
    let there = slice_get-get_or c.args.lanes.now.items c.from.result old within ∙ ap Some (sym c.index_mut-lane.ensures.value) in
    let e = c.turn.ensures in
    let turn = subst (λ (s : Step). IsTurn (g.D.Flash.held c.args.device.now) (g.D.Flash.held c.turn.new.device) s old new) (ap (λ (s : ShardStep). s.step) c.one.view_is) (record { lane = e.lane; window = e.window; beside = e.beside }) in
    lanes-turn-at c.args.sharded.now c.requires.right (g.D.Flash.held c.args.device.now) (g.D.Flash.held c.turn.new.device) steps one c.args.lanes.now.items c.from.result old new is place there turn all

pub returns-clause-others : goal.returns-clause-others
returns-clause-others g c = λ steps all.
    let one = c.args.one.now in
    let old = c.index_mut-lane.result.now in
    let new = c.turn.new.self in
    let is = sym c.is_taken.ensures ∙ c.if-not-is_taken.false in
    let place : one.shard ≡ c.from.result = ap (λ (s : ShardStep). s.shard) (sym c.one.view_is) ∙ sym c.from.ensures in
    let mine = taken c.args.sharded.now.shards c.args.one.now (sym c.is_taken.ensures ∙ c.if-not-is_taken.false) in
    let within : c.from.result < length c.args.lanes.now.items = omega (arith, mine.0, ap (λ (s : ShardStep). s.shard) c.one.view_is, c.from.ensures, c.requires.many) in
    let there = slice_get-get_or c.args.lanes.now.items c.from.result old within ∙ ap Some (sym c.index_mut-lane.ensures.value) in
    let e = c.turn.ensures in
    let turn = subst (λ (s : Step). IsTurn (g.D.Flash.held c.args.device.now) (g.D.Flash.held c.turn.new.device) s old new) (ap (λ (s : ShardStep). s.step) c.one.view_is) (record { lane = e.lane; window = e.window; beside = e.beside }) in
    turn-others-at c.args.sharded.now c.requires.right (g.D.Flash.held c.args.device.now) (g.D.Flash.held c.turn.new.device) steps one c.args.lanes.now.items c.from.result old new is place there turn all

pub returns-clause-counted : goal.returns-clause-counted
returns-clause-counted g c =
    let old = c.index_mut-lane.result.now in
    let mine = taken c.args.sharded.now.shards c.args.one.now (sym c.is_taken.ensures ∙ c.if-not-is_taken.false) in
    let within : c.from.result < length c.args.lanes.now.items = omega (arith, mine.0, ap (λ (s : ShardStep). s.shard) c.one.view_is, c.from.ensures, c.requires.many) in
    let there = slice_get-get_or c.args.lanes.now.items c.from.result old within ∙ ap Some (sym c.index_mut-lane.ensures.value) in
    turn-counted old.stage.window (g.D.Flash.failed c.args.device.now) (g.D.Flash.failed c.turn.new.device) c.args.lanes.now.items c.from.result old c.turn.new.self there c.turn.ensures.counted
